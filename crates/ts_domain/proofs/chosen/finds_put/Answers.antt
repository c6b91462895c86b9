-- The binary search finds the put, if it is there.
use Rattle.std.proofs.Common.{rules, of_calls, ◌∙◌}
use Rattle.std.proofs.lemmas.Fn.{always_returns_same}
use Rattle.c_tree.specs.Fill.{precedes}
use Rattle.ts_domain.proofs.Precedence.{found, parted}
use Rattle.ts_domain.proofs.chosen.finds_put.Goals as goal

pub returns : goal.returns
returns c =
    let q = c.args.put in
    let ps = c.args.puts.now in
    let point = c.partition_point-place.ensures.partitioned (λ p. precedes p q) (always_returns_same _ _ _ (λ a r f k. search (rules, of_calls))) (parted ps q c.requires) in
    c.is_put_at.ensures ∙ found ps q c.partition_point-place.result c.requires c.partition_point-place.ensures.bound point
