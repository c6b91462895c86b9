use Rattle.c_types.proofs.ProgramFits.{answer_fits}
use Rattle.c_types.proofs.answer.resolve.Goals as goal

pub returns-clause-well_formed : goal.returns-clause-well_formed
returns-clause-well_formed c fits = answer_fits c.args.tree.now c.answered.result c.answered.ensures fits
