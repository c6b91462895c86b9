-- A gap's entry is the place of its first put.
use Rattle.std.proofs.Common.{◌≤◌, List, length, take, drop, sym, ap, subst, ◌∙◌}
use Rattle.std.specs.List.{prefix_len}
use Rattle.std.proofs.lemmas.List.Sums.{prefix_len-le-length}
use Rattle.c_tree.specs.declared.choice.Put.{Put}
use Rattle.c_tree.specs.Fill.{puts_at}
use Rattle.source_patcher.specs.PutsByGap.{of_gap}
use Rattle.source_patcher.proofs.PutOrder.{entry_within, part_at}
use Rattle.source_patcher.proofs.puts.GapPuts.of.Goals as goal

pub split_at-requires : goal.split_at-requires
split_at-requires c = subst (λ (xs : List Put). c.in-Some.start.now ≤ length xs) (sym c.as_slice-puts.ensures) (entry_within _ _ c.args.gap _ c.self.invariant.found (sym c.in-Some.ensures.value))

pub split_at-requires-in-Some : goal.split_at-requires-in-Some
split_at-requires-in-Some c = subst (λ n. n ≤ length c.split_at.result.1.now) (sym c.count_of.ensures) (prefix_len-le-length (of_gap c.args.gap) c.split_at.result.1.now)

pub returns-in-Some : goal.returns-in-Some
returns-in-Some c =
    c.split_at-in-Some.ensures.front
    ∙ ap (λ n. take n c.split_at.result.1.now) c.count_of.ensures
    ∙ ap (λ (ps : List Put). take (prefix_len (of_gap c.args.gap) ps) ps) (c.split_at.ensures.back ∙ ap (λ (ps : List Put). drop c.in-Some.start.now ps) c.as_slice-puts.ensures)
    ∙ part_at _ _ c.args.gap _ c.self.invariant.ascending c.self.invariant.found (sym c.in-Some.ensures.value)
    ∙ ap (λ (ps : List Put). puts_at ps c.args.gap) c.self.view_is
