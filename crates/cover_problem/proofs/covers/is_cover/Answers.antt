use Rattle.std.proofs.Common.{◌≡◌, true, sym, ◌∙◌}
use Rattle.cover_problem.proofs.CoverLaws.{covers_so, so_covers, cover_of_graph}
use Rattle.cover_problem.proofs.covers.is_cover.Goals as goal

pub returns-clause-covers : goal.returns-clause-covers
returns-clause-covers c =
    let q = c.args.problem.now in
    let s = c.args.choice.now in
    (λ h. covers_so q s (sym c.covers.ensures ∙ h), λ h. c.covers.ensures ∙ so_covers q s c.requires.rooms.derived h)

pub returns-clause-of_graph : goal.returns-clause-of_graph
returns-clause-of_graph c =
    let q = c.args.problem.now in
    let s = c.args.choice.now in
    λ g p is. (
      λ h. (cover_of_graph g p q is s).0 (covers_so q s (sym c.covers.ensures ∙ h)),
      λ h. c.covers.ensures ∙ so_covers q s c.requires.rooms.derived ((cover_of_graph g p q is s).1 h),
    )
