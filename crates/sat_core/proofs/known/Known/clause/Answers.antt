use Rattle.std.proofs.Common.{Some, sym, ap, ◌∙◌}
use Rattle.std.proofs.lemmas.List.Elements.{Contains-append_left, Contains-append_right}
use Rattle.sat_core.proofs.ListLaws.{Contains-from_get}
use Rattle.sat_core.proofs.known.Known.clause.Goals as goal

pub returns-then-number-given : goal.returns-then-number-given
returns-then-number-given c =
    let given = c.args.self.clauses.now.list in
    Contains-append_left given c.args.self.log.now.list _ (Contains-from_get given c.args.number c.as_slice.result.now (c.at.ensures ∙ ap Some (sym c.as_slice.ensures)))

pub returns-in-Some : goal.returns-in-Some
returns-in-Some c =
    let log = c.args.self.log.now.list in
    Contains-append_right c.args.self.clauses.now.list log _
    (Contains-from_get log _ c.as_slice-in-Some.result.now (sym c.in-Some.ensures.value ∙ ap Some (sym c.as_slice-in-Some.ensures)))
