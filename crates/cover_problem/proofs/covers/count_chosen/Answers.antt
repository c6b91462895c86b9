use Rattle.std.proofs.Common.{sym}
use Rattle.ts_domain.specs.Chosen.{is_chosen}
use Rattle.cover_problem.proofs.CountLaws.{counts_none, counts_all}
use Rattle.cover_problem.proofs.covers.count_chosen.Goals as goal

pub loop-place-init : goal.loop-place-init
loop-place-init c = counts_none (is_chosen c.args.names.now c.args.choice.now) c.args.set.now.items

pub returns : goal.returns
returns c = counts_all (is_chosen c.args.names.now c.args.choice.now) c.args.set.now.items c.loop-place.from c.loop-place.count c.loop-place.invariant (sym c.in_default.ensures.value)
