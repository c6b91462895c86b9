-- Each gap's puts stand behind those of the gaps before it.
use Rattle.std.proofs.Common.{◌≡◌, ◌≤◌, length, map, drop, rules, sym, ap, subst, ◌∙◌}
use Rattle.std.specs.List.{range_with_len}
use Rattle.std.proofs.lemmas.List.Sums.{prefix_len-le-length}
use Rattle.source_patcher.specs.PutsByGap.{of_gap, start_of}
use Rattle.source_patcher.proofs.PutOrder.{starts_more, behind_more, starts_all}
use Rattle.source_patcher.proofs.puts.starts.Goals as goal

pub split_at-requires : goal.split_at-requires
split_at-requires c = subst (λ n. n ≤ length c.loop-gap.behind.now) (sym c.count_of.ensures) (prefix_len-le-length (of_gap c.loop-gap.gap) c.loop-gap.behind.now)

pub returns : goal.returns
returns c =
    let same : c.loop-gap.gap ≡ c.args.gaps = search rules in
    starts_all c.args.puts.now c.loop-gap.starts c.args.gaps (subst (λ n. c.loop-gap.starts ≡ map (start_of c.args.puts.now) (range_with_len 0 n)) same c.loop-gap.invariant.0)

pub loop-gap-preserved : goal.loop-gap-preserved
loop-gap-preserved c =
    let ps = c.args.puts.now in
    let behind = c.loop-gap.behind.now in
    let g = c.loop-gap.gap in (
      c.in_ok-push.ensures.ok ∙ starts_more ps c.loop-gap.starts behind g c.loop-gap.invariant.0 c.loop-gap.invariant.1,
      c.split_at.ensures.back ∙ ap (λ n. drop n behind) c.count_of.ensures ∙ behind_more ps behind g c.requires c.loop-gap.invariant.1,
    )
