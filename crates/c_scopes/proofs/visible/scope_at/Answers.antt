use Rattle.std.proofs.Common.{Some, [], ap, subst, sym, ◌∙◌, ◌≡◌}
use Rattle.std.proofs.lemmas.Result.{IfOk-weaker}
use Rattle.c_scopes.specs.ScopeAt.{Ascending, scopes, vars_at}
use Rattle.c_scopes.specs.Turns.{rows_from, scope_of}
use Rattle.c_scopes.proofs.ScopeAscends.{scope_ascends}
use Rattle.c_scopes.proofs.ScopeNumbers.{scope_is}
use Rattle.c_scopes.proofs.TurnRows.{narrows_none}
use Rattle.c_scopes.proofs.visible.scope_at.Goals as goal

pub returns-clause-value : goal.returns-clause-value
returns-clause-value c =
    let all : rows_from (scope_of [] []) c.as_slice.result.now ≡ scopes c.args.p.now = ap (rows_from (scope_of [] [])) c.as_slice.ensures ∙ c.in_ok-turns.ensures.rows ∙ narrows_none (scopes c.args.p.now) in
    IfOk-weaker c.vars_at.result _ _ (λ vars e. e ∙ ap (vars_at c.args.gap) all) c.vars_at.ensures

pub returns-clause-row : goal.returns-clause-row
returns-clause-row c w below =
    let all : rows_from (scope_of [] []) c.as_slice.result.now ≡ scopes c.args.p.now = ap (rows_from (scope_of [] [])) c.as_slice.ensures ∙ c.in_ok-turns.ensures.rows ∙ narrows_none (scopes c.args.p.now) in
    IfOk-weaker c.vars_at.result _ _
    (λ vars e. scope_is c.args.p.now c.args.gap w below ∙ ap (λ xs. Some (record { gap = c.args.gap; vars = xs })) (sym (e ∙ ap (vars_at c.args.gap) all)))
    c.vars_at.ensures

pub returns-clause-ascending : goal.returns-clause-ascending
returns-clause-ascending c w =
    let all : rows_from (scope_of [] []) c.as_slice.result.now ≡ scopes c.args.p.now = ap (rows_from (scope_of [] [])) c.as_slice.ensures ∙ c.in_ok-turns.ensures.rows ∙ narrows_none (scopes c.args.p.now) in
    IfOk-weaker c.vars_at.result _ _ (λ vars e. subst Ascending (sym (e ∙ ap (vars_at c.args.gap) all)) (scope_ascends c.args.p.now c.args.gap w)) c.vars_at.ensures
