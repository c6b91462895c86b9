use Rattle.std.proofs.Common.{arith}
use Rattle.path_facts.proofs.NumberingLaws.{pair_fits}
use Rattle.path_facts.proofs.numbering.pair_number.Goals as goal

pub overflow_add-result : goal.overflow_add-result
overflow_add-result c = let fits = pair_fits c.args.numbering.now c.args.x c.args.y c.at.result.now c.requires.numbers c.requires.order c.requires.within c.at.ensures in omega (arith, fits)
