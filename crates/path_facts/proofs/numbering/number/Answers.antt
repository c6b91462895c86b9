use Rattle.std.proofs.Common.{arith}
use Rattle.path_facts.proofs.NumberingLaws.{apart_fits, equal_fits}
use Rattle.path_facts.proofs.numbering.number.Goals as goal

pub overflow_add-result-in-Equal : goal.overflow_add-result-in-Equal
overflow_add-result-in-Equal c = let fits = equal_fits c.args.numbering.now c.in-Equal.x c.in-Equal.y c.pair_number.result c.args.fact c.requires.numbers c.requires.exists c.in-Equal.is c.pair_number.ensures in omega (arith, fits)

pub overflow_add-result-in-Apart : goal.overflow_add-result-in-Apart
overflow_add-result-in-Apart c = let fits = apart_fits c.args.numbering.now c.in-Apart.x c.in-Apart.y c.pair_number-in-Apart.result c.args.fact c.requires.numbers c.requires.exists c.in-Apart.is c.pair_number-in-Apart.ensures in omega (arith, fits)
