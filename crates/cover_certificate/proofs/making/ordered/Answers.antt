-- The sort's order is that of lines.
use Rattle.std.proofs.Common.{rules, of_calls}
use Rattle.std.proofs.lemmas.Fn.{always_returns_same}
use Rattle.std.proofs.lemmas.List.Sorted.{ranks_by}
use Rattle.std.specs.Ordering.{is_lt}
use Rattle.cover_certificate.specs.declared.lines.Line.{Line}
use Rattle.cover_certificate.specs.Lines.{line_cmp}
use Rattle.cover_certificate.proofs.LineLaws.{line_total}
use Rattle.cover_certificate.proofs.making.ordered.Goals as goal

pub returns-clause-sorted : goal.returns-clause-sorted
returns-clause-sorted c =
    let up = c.in_ok-sort_by.ensures.sorted (λ x y. is_lt (line_cmp x y)) (ranks_by line_total (λ (x : Line). x)) (always_returns_same _ _ _ (λ a r f k. search (rules, of_calls))) in
    search (rules, up)
