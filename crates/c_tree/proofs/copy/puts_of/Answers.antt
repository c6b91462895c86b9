-- The two binary searches give the bounds of the gap's puts.
use Rattle.std.proofs.Common.{rules, of_calls, nat_lt, nat_le}
use Rattle.std.proofs.lemmas.Fn.{always_returns_same}
use Rattle.std.proofs.lemmas.List.Sorted.{IsPartitionedBy-ltb, IsPartitionedBy-leb}
use Rattle.c_tree.proofs.Puts.{ascending_gaps, bounds_from, bounds_in_order, part_of_gap}
use Rattle.c_tree.specs.declared.choice.Put.{Put}
use Rattle.c_tree.proofs.copy.puts_of.Goals as goal

pub slice_bounds-result-count : goal.slice_bounds-result-count
slice_bounds-result-count c =
    let rising = ascending_gaps c.args.puts.now c.requires in
    let first = c.partition_point-start.ensures.partitioned (λ q. nat_lt q.gap c.args.gap) (always_returns_same _ _ _ (λ a r f k. search (rules, of_calls))) (IsPartitionedBy-ltb (λ (q : Put). q.gap) c.args.puts.now c.args.gap rising) in
    let last = c.partition_point-end.ensures.partitioned (λ q. nat_le q.gap c.args.gap) (always_returns_same _ _ _ (λ a r f k. search (rules, of_calls))) (IsPartitionedBy-leb (λ (q : Put). q.gap) c.args.puts.now c.args.gap rising) in
    bounds_in_order c.args.puts.now c.args.gap _ _ c.partition_point-start.ensures.bound (bounds_from c.args.puts.now c.args.gap _ _ first last)

pub slice_bounds-result-start : goal.slice_bounds-result-start
slice_bounds-result-start c = let h = slice_bounds-result-count c in search (rules, h)

pub returns : goal.returns
returns c =
    let rising = ascending_gaps c.args.puts.now c.requires in
    let first = c.partition_point-start.ensures.partitioned (λ q. nat_lt q.gap c.args.gap) (always_returns_same _ _ _ (λ a r f k. search (rules, of_calls))) (IsPartitionedBy-ltb (λ (q : Put). q.gap) c.args.puts.now c.args.gap rising) in
    let last = c.partition_point-end.ensures.partitioned (λ q. nat_le q.gap c.args.gap) (always_returns_same _ _ _ (λ a r f k. search (rules, of_calls))) (IsPartitionedBy-leb (λ (q : Put). q.gap) c.args.puts.now c.args.gap rising) in
    let bounds = bounds_from c.args.puts.now c.args.gap _ _ first last in
    part_of_gap c.args.puts.now c.args.gap _ _ (bounds_in_order c.args.puts.now c.args.gap _ _ c.partition_point-start.ensures.bound bounds) c.partition_point-end.ensures.bound bounds
