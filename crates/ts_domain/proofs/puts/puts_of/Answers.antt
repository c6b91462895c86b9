use Rattle.std.proofs.Common.{rules, ◌≡◌, ◌<◌, ◌∙◌, ap, length, map, subst, List, Bool, []}
use Rattle.std.proofs.lemmas.Result.{IfOk-weaker}
use Rattle.c_tree.specs.Fill.{ascends}
use Rattle.c_tree.specs.declared.choice.Put.{Put}
use Rattle.c_graph.specs.declared.graph.Node.{Node}
use Rattle.c_scopes.specs.ScopeAt.{scopes}
use Rattle.c_scopes.specs.Turns.{narrowed, rows_from, scope_of}
use Rattle.ts_domain.specs.Puts.{field_rows, gap_key, no_pointers}
use Rattle.ts_domain.specs.Rows.{AreRows}
use Rattle.ts_domain.specs.Tables.{entered}
use Rattle.ts_domain.proofs.PutOrder.{puts_ascend}
use Rattle.ts_domain.proofs.PutLaws.{puts_found}
use Rattle.ts_domain.proofs.puts.puts_of.Goals as goal

pub returns-clause-ok : goal.returns-clause-ok
returns-clause-ok c =
    let g = c.args.graph.now in
    let p = c.args.program.now in
    let nodes : AreRows (map (λ (v : Node). gap_key v.kind) g.nodes) c.in_ok-rows_of.field-0 = search rules in
    let fields : c.in_ok-field_rows.field-0 ≡ field_rows p.structs p.vars = search rules in
    let into : AreRows (map (entered g) g.edges) c.in_ok-rows_of-2.field-0 = search rules in
    let hidden : c.as_slice-4.result.now ≡ no_pointers p.vars = search rules in
    let turns : c.as_slice-5.result.now ≡ c.in_ok-turns.turns = search rules in
    let rows : rows_from (scope_of [] []) c.as_slice-5.result.now ≡ map (narrowed (no_pointers p.vars)) (scopes p) =
    ap (rows_from (scope_of [] [])) turns ∙ c.in_ok-turns.ensures.rows ∙ ap (λ (hs : List Bool). map (narrowed hs) (scopes p)) hidden in
    IfOk-weaker c.all_puts.result _ _
    (λ puts e. e ∙ puts_found g p (record { nodes = c.in_ok-rows_of.field-0; fields = c.in_ok-field_rows.field-0; entering = c.in_ok-rows_of-2.field-0 }) (rows_from (scope_of [] []) c.as_slice-5.result.now) nodes fields into rows)
    c.all_puts.ensures.ok

pub returns-clause-ascending : goal.returns-clause-ascending
returns-clause-ascending c =
    let g = c.args.graph.now in
    let p = c.args.program.now in
    let nodes : AreRows (map (λ (v : Node). gap_key v.kind) g.nodes) c.in_ok-rows_of.field-0 = search rules in
    let fields : c.in_ok-field_rows.field-0 ≡ field_rows p.structs p.vars = search rules in
    let into : AreRows (map (entered g) g.edges) c.in_ok-rows_of-2.field-0 = search rules in
    let hidden : c.as_slice-4.result.now ≡ no_pointers p.vars = search rules in
    let turns : c.as_slice-5.result.now ≡ c.in_ok-turns.turns = search rules in
    let rows : rows_from (scope_of [] []) c.as_slice-5.result.now ≡ map (narrowed (no_pointers p.vars)) (scopes p) =
    ap (rows_from (scope_of [] [])) turns ∙ c.in_ok-turns.ensures.rows ∙ ap (λ (hs : List Bool). map (narrowed hs) (scopes p)) hidden in
    λ w. IfOk-weaker c.all_puts.result _ _
    (λ puts e. ap ascends (e ∙ puts_found g p (record { nodes = c.in_ok-rows_of.field-0; fields = c.in_ok-field_rows.field-0; entering = c.in_ok-rows_of-2.field-0 }) (rows_from (scope_of [] []) c.as_slice-5.result.now) nodes fields into rows) ∙ puts_ascend g p w)
    c.all_puts.ensures.ok

pub returns-clause-passed : goal.returns-clause-passed
returns-clause-passed c l e =
    let g = c.args.graph.now in
    let p = c.args.program.now in
    let nodes : AreRows (map (λ (v : Node). gap_key v.kind) g.nodes) c.in_ok-rows_of.field-0 = search rules in
    let fields : c.in_ok-field_rows.field-0 ≡ field_rows p.structs p.vars = search rules in
    let into : AreRows (map (entered g) g.edges) c.in_ok-rows_of-2.field-0 = search rules in
    let hidden : c.as_slice-4.result.now ≡ no_pointers p.vars = search rules in
    let turns : c.as_slice-5.result.now ≡ c.in_ok-turns.turns = search rules in
    let rows : rows_from (scope_of [] []) c.as_slice-5.result.now ≡ map (narrowed (no_pointers p.vars)) (scopes p) =
    ap (rows_from (scope_of [] [])) turns ∙ c.in_ok-turns.ensures.rows ∙ ap (λ (hs : List Bool). map (narrowed hs) (scopes p)) hidden in
    subst (λ (ps : List Put). 8192 < length ps)
    (puts_found g p (record { nodes = c.in_ok-rows_of.field-0; fields = c.in_ok-field_rows.field-0; entering = c.in_ok-rows_of-2.field-0 }) (rows_from (scope_of [] []) c.as_slice-5.result.now) nodes fields into rows)
    (c.all_puts.ensures.passed l e)
