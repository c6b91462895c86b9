use Rattle.std.proofs.Common.{◌∙◌}
use Rattle.cover_clauses.proofs.LoopLaws.{counted_more}
use Rattle.cover_clauses.proofs.listing.variables_of.Goals as goal

pub loop-place-preserved : goal.loop-place-preserved
loop-place-preserved c =
    counted_more c.args.problem.now c.loop-place.place c.loop-place.before c.push.new.self c.loop-place.count c.next-count.result c.contains.result c.loop-place.invariant
    (c.contains.ensures.value ∙ c.requires.members c.loop-place.place) c.in_ok-push.ensures.ok c.next-count.ensures
