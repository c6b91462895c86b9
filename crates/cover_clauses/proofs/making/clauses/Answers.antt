use Rattle.std.proofs.Common.{◌≡◌, ℕ, ◌+◌, ◌<◌, ◌≤◌, List, length, ap, sym, subst, ◌∙◌, arith}
use Rattle.std.proofs.lemmas.Bool.{true≢false}
use Rattle.std.specs.List.{Contains}
use Rattle.mf_set.specs.Numbers.{Numbers}
use Rattle.sat_log.specs.declared.problem.Clauses.{Clauses}
use Rattle.cover_clauses.specs.Conflicts.{exit_sets, AreSquare}
use Rattle.cover_clauses.specs.Listing.{list_by, total}
use Rattle.cover_clauses.proofs.BitLaws.{cover_satisfies}
use Rattle.cover_clauses.proofs.ListLaws.{before_long, clauses_below, key_room, list_long, listed_clauses, more_clauses, no_more_clauses, not_more}
use Rattle.cover_clauses.proofs.making.clauses.Goals as goal

pub exit_sets-requires : goal.exit_sets-requires
exit_sets-requires c = λ e h. (c.requires.rooms.exits e (subst (λ (es : List (ℕ × ℕ × Numbers)). Contains es e) c.as_slice.ensures h)).1 ∙ sym c.in_ok-usable.ensures.room

pub returns-then-has_more-clause-limit : goal.returns-then-has_more-clause-limit
returns-then-has_more-clause-limit c =
    let q = c.args.problem.now in
    let us = c.in_ok-usable.usable in
    let rows = c.in_ok-rows.rows in
    let keys : c.in_ok-sets.sets.keys ≡ exit_sets us q.exits = c.in_ok-sets.ensures ∙ ap (exit_sets us) c.as_slice.ensures in
    let count : c.len.result ≡ length (exit_sets us q.exits) = c.len.ensures.len ∙ ap (λ (ss : List Numbers). length ss) keys in
    let sum : total c.as_slice-2.result.now ≡ total rows = ap total c.as_slice-2.ensures in
    let over : 2000000 < c.len.result + total c.as_slice-2.result.now = c.has_more.ensures.0 c.if-has_more.true in
    λ e. more_clauses q c.requires.rooms us c.in_ok-usable.ensures rows c.in_ok-rows.ensures 2000000 (omega (arith, count, sum, over))

pub list-requires-clause-rooms : goal.list-requires-clause-rooms
list-requires-clause-rooms c = λ s h.
    let q = c.args.problem.now in
    let us = c.in_ok-usable.usable in
    let keys : c.as_slice-3.result.now ≡ exit_sets us q.exits = c.as_slice-3.ensures.keys ∙ c.in_ok-sets.ensures ∙ ap (exit_sets us) c.as_slice.ensures in
    key_room q c.requires.rooms us c.in_ok-usable.ensures c.in_ok-rows.rows c.in_ok-rows.ensures s (subst (λ (ss : List Numbers). Contains ss s) keys h)
    ∙ sym (before_long q c.in_ok-variables.variables c.in_ok-variables.ensures)

pub list-requires-clause-square : goal.list-requires-clause-square
list-requires-clause-square c = subst (λ (rs : List Numbers). AreSquare rs) (sym c.as_slice-4.ensures) c.in_ok-rows.ensures.square

pub list-requires-clause-long : goal.list-requires-clause-long
list-requires-clause-long c =
    ap (λ (rs : List Numbers). length rs) c.as_slice-4.ensures ∙ c.in_ok-rows.ensures.long ∙ sym (before_long c.args.problem.now c.in_ok-variables.variables c.in_ok-variables.ensures)

pub returns-clause-ok : goal.returns-clause-ok
returns-clause-ok c =
    let q = c.args.problem.now in
    let us = c.in_ok-usable.usable in
    let v = c.in_ok-variables.variables in
    let keys : c.as_slice-3.result.now ≡ exit_sets us q.exits = c.as_slice-3.ensures.keys ∙ c.in_ok-sets.ensures ∙ ap (exit_sets us) c.as_slice.ensures in
    let is : c.in_ok-list.list ≡ list_by v (exit_sets us q.exits) c.in_ok-rows.rows = c.in_ok-list.ensures ∙ ap (λ ss. list_by v ss c.as_slice-4.result.now) keys ∙ ap (list_by v (exit_sets us q.exits)) c.as_slice-4.ensures in
    listed_clauses q c.requires.rooms us c.in_ok-usable.ensures c.in_ok-rows.rows c.in_ok-rows.ensures v c.in_ok-variables.ensures c.in_ok-list.list is

pub returns-clause-below : goal.returns-clause-below
returns-clause-below c = clauses_below c.args.problem.now c.requires.rooms (let made : Clauses = record { vars = c.in_ok-variables.variables.count; list = c.in_ok-list.list } in made) (returns-clause-ok c)

pub returns-clause-within : goal.returns-clause-within
returns-clause-within c =
    let q = c.args.problem.now in
    let us = c.in_ok-usable.usable in
    let v = c.in_ok-variables.variables in
    let rows = c.in_ok-rows.rows in
    let listed : c.in_ok-sets.sets.keys ≡ exit_sets us q.exits = c.in_ok-sets.ensures ∙ ap (exit_sets us) c.as_slice.ensures in
    let keys : c.as_slice-3.result.now ≡ exit_sets us q.exits = c.as_slice-3.ensures.keys ∙ listed in
    let is : c.in_ok-list.list ≡ list_by v (exit_sets us q.exits) rows = c.in_ok-list.ensures ∙ ap (λ ss. list_by v ss c.as_slice-4.result.now) keys ∙ ap (list_by v (exit_sets us q.exits)) c.as_slice-4.ensures in
    let long : length c.in_ok-list.list ≡ length (exit_sets us q.exits) + total rows = list_long q c.requires.rooms us c.in_ok-usable.ensures rows c.in_ok-rows.ensures v c.in_ok-variables.ensures c.in_ok-list.list is in
    let count : c.len.result ≡ length (exit_sets us q.exits) = c.len.ensures.len ∙ ap (λ (ss : List Numbers). length ss) listed in
    let sum : total c.as_slice-2.result.now ≡ total rows = ap total c.as_slice-2.ensures in
    let few : c.len.result + total c.as_slice-2.result.now ≤ 2000000 = not_more 2000000 (c.len.result + total c.as_slice-2.result.now) (λ over. true≢false (sym (c.has_more.ensures.1 over) ∙ c.if-has_more.false)) in
    omega (arith, long, count, sum, few)

pub returns-clause-few : goal.returns-clause-few
returns-clause-few c = no_more_clauses c.args.problem.now (let made : Clauses = record { vars = c.in_ok-variables.variables.count; list = c.in_ok-list.list } in made) 2000000 (returns-clause-ok c) (returns-clause-within c)

pub returns-clause-covers : goal.returns-clause-covers
returns-clause-covers c = λ s covers. cover_satisfies c.args.problem.now s c.requires.rooms c.in_ok-list.list (λ l h. ((returns-clause-ok c).each l).0 h) covers
