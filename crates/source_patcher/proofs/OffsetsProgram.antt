-- A program doesn't hang on offsets, and braces only say where blocks are: trees that are equal but for offsets have programs
-- that are alike.
use Rattle.std.specs.List.{fold}
use Rattle.std.proofs.Common.{◌≡◌, ℕ, ◌-◌, ◌||◌, not, Bool, true, false, List, [], ◌∷◌, length, map, Option, Some, None, option_map, refl, sym, ap, ◌∙◌}
use Rattle.std.proofs.lemmas.List.{length-map, map-append, map-id}
use Rattle.c_tree.specs.Alike.{IsAlike, bare, bare_block, bare_fun, bare_gap, bare_item, bare_struct}
use Rattle.c_tree.specs.Flow.{flow_of}
use Rattle.c_tree.specs.declared.control.Flow.{Flow}
use Rattle.c_tree.specs.declared.program.Block.{Block as MadeBlock}
use Rattle.c_tree.specs.declared.program.FunDef.{FunDef}
use Rattle.c_tree.specs.declared.program.Arm.{Arm as MadeArm}
use Rattle.c_tree.specs.declared.program.Item.{Item as MadeItem, Item-F}
use Rattle.c_tree.specs.declared.program.Item.TheOpen as layer
use Rattle.c_tree.specs.declared.program.Piece.{Piece as MadePiece}
use Rattle.c_tree.specs.declared.program.Program.{Program}
use Rattle.c_tree.specs.declared.tree.Arm.{Arm, roll-Arm}
use Rattle.c_tree.specs.declared.tree.Block.{Block, out-Block, roll-Block, out-roll-Block, fold_out-Block}
use Rattle.c_tree.specs.declared.tree.Head.{Head}
use Rattle.c_tree.specs.declared.tree.Item.{Item, roll-Item}
use Rattle.c_tree.specs.declared.tree.Piece.{Piece, roll-Piece}
use Rattle.c_tree.specs.declared.tree.Top.{Top}
use Rattle.c_tree.specs.declared.tree.Top.TheVariants as top
use Rattle.c_tree.specs.declared.tree.Tree.{Tree}
use Rattle.c_tree.specs.declared.tree.Word.{Word}
use Rattle.c_tree.proofs.Fills.{map_joined}
use Rattle.c_tree.proofs.Rebuilds.{Layers, Maps, after, after_rebuilds, in_item, rebuilt, rebuilt_rebuilds, same_block}
use Rattle.c_parser.specs.Alike.{moved, moved_block, moved_expr, moved_gap, moved_head, moved_item, moved_spec, moved_top, moved_word}
use Rattle.c_parser.proofs.OpenedBlocks.{piece_moved}
use Rattle.c_parser.proofs.PrintedStatements.{none_at}
use Rattle.c_parser.proofs.RetoldFile.{as_braced}
use Rattle.c_types.specs.declared.faults.Fault.{Fault}
use Rattle.c_types.specs.declared.faults.Rule.TheVariants as rule
use Rattle.c_types.specs.declared.scope.Returned.{Returned}
use Rattle.c_types.specs.declared.scope.Returned.TheVariants as returned
use Rattle.c_types.specs.declared.scope.StructRow.{StructRow}
use Rattle.c_types.specs.declared.scope.Walk.{Walk}
use Rattle.c_types.specs.declared.scope.Written.{Written}
use Rattle.c_types.specs.Blocks.{walked_block}
use Rattle.c_types.specs.Calls.{is_main, main_name}
use Rattle.c_types.specs.Functions.{body_behind, body_ended, body_nesting, brace_of, ended, fun_of, no_value, params_behind, result_or_none, slot_of, walked_fun, walked_heading, walked_param, with_fun, with_slot}
use Rattle.c_types.specs.InTurn.{each}
use Rattle.c_types.specs.Program.{IsProgram, definition_named, definitions, field_def, made_program, start, struct_def, walked, walked_from, walked_top, with_definition, with_top}
use Rattle.c_types.specs.Scopes.{closed, naming, noted, text_or_none}
use Rattle.c_types.specs.Tables.{found, place_of}
use Rattle.source_patcher.proofs.BareFlow.{flow_kept, layers_with}
use Rattle.source_patcher.proofs.Offsets.{bare_fault, bare_row, bare_written, found_rows, place_rows, row_with, unless_bare}
use Rattle.source_patcher.proofs.OffsetsBlocks.{block_bare, unplaced}
use Rattle.source_patcher.proofs.OffsetsScopes.{bare_returned, bare_walk, closed_bare, each_bare, int_bare, names_long, naming_bare, noted_as, placeless_fun, placeless_layers, text_bare, var_more}
use Rattle.source_patcher.proofs.OffsetsTops.{IsBareChange, globals_bare, heading_bare, param_bare, struct_bare}

-- definitions of functions

abbrev new_block : Block → Block
new_block = moved_block none_at as_braced

brace_bare : (b : Block) → brace_of (new_block b) ≡ 0
brace_bare b =
    let x = out-Block b in
    let y = roll-Block (record { items = map (piece_moved none_at as_braced) x.items; last_gap = moved_gap none_at x.last_gap; braced = x.braced; start = 0; end = 0 }) in
    ap brace_of {y = y} (fold_out-Block Item Arm Block Piece (λ i. roll-Item (moved_item none_at i)) (λ a. roll-Arm (record a { test = moved_expr none_at a.test }))
    (λ c. roll-Block (record c { last_gap = moved_gap none_at c.last_gap; braced = c.braced; start = 0; end = 0 })) (λ p. roll-Piece (record p { gap = moved_gap none_at p.gap; start = 0; end = 0 })) b)
    ∙ ap (λ y. y.end - 1) (out-roll-Block (record { items = map (piece_moved none_at as_braced) x.items; last_gap = moved_gap none_at x.last_gap; braced = x.braced; start = 0; end = 0 }))

slot_bare : (t : Returned) (f at : ℕ) → IsBareChange (with_slot (bare_returned t) f 0) (with_slot t f at)
slot_bare returned.Nothing f at w = refl
slot_bare (returned.Value t) f at w = var_more (slot_of t f at) w
slot_bare (returned.Bad e) f at w = refl

value_bare : (t : Returned) (b : Bool) (flow : Flow) (at : ℕ) → no_value (bare_returned t) b flow 0 ≡ map bare_fault (no_value t b flow at)
value_bare returned.Nothing b flow at = refl
value_bare (returned.Value t) b flow at = unless_bare (b || not flow.ends) rule.NoValue at
value_bare (returned.Bad f) b flow at = refl

result_none_bare : (t : Returned) → result_or_none (bare_returned t) ≡ result_or_none t
result_none_bare returned.Nothing = refl
result_none_bare (returned.Value t) = refl
result_none_bare (returned.Bad f) = refl

fun_bare : (h : Head) (t : Returned) (params : List ℕ) (m : MadeBlock) → fun_of (moved_head none_at h) (bare_returned t) params (unplaced.block m) ≡ placeless_fun (fun_of h t params m)
fun_bare h t params m =
    ap (λ text. record { name = text; result = result_or_none (bare_returned t); params = params; body = unplaced.block m; at = naming (moved_spec none_at h.result) }) (text_bare h.result.name)
    ∙ ap (λ r. record { name = text_or_none h.result.name; result = r; params = params; body = unplaced.block m; at = naming (moved_spec none_at h.result) }) (result_none_bare t)
    ∙ ap (λ n. record { name = text_or_none h.result.name; result = result_or_none t; params = params; body = unplaced.block m; at = n }) (naming_bare h.result)

fun_more : (d : FunDef) (w : Walk) → with_fun (placeless_fun d) (bare_walk w) ≡ bare_walk (with_fun d w)
fun_more d w = ap (λ fs. record (bare_walk w) { funs = fs }) (sym (map-append placeless_fun w.funs (d ∷ [])))

-- behind a body
ended_bare : (b : Block) (t : Returned) (names f : ℕ) (d : FunDef) → IsBareChange (ended (new_block b) (bare_returned t) names f (placeless_fun d)) (ended b t names f d)
ended_bare b t names f d w =
    let at = brace_of b in
    let u = closed names w in
    let v = with_slot t f at u in
    let fs = no_value t (is_main d.name) (flow_of d.body) at in
    let last : ℕ → Walk → Walk = λ n x. with_fun (placeless_fun d) (noted (no_value (bare_returned t) (is_main d.name) (flow_of (unplaced.block d.body)) n) (with_slot (bare_returned t) f n x)) in
    ap (λ n. last n (closed names (bare_walk w))) (brace_bare b)
    ∙ ap (last 0) (closed_bare names w)
    ∙ ap (λ x. with_fun (placeless_fun d) (noted (no_value (bare_returned t) (is_main d.name) (flow_of (unplaced.block d.body)) 0) x)) (slot_bare t f at u)
    ∙ ap (λ y. with_fun (placeless_fun d) (noted (no_value (bare_returned t) (is_main d.name) y 0) (bare_walk v))) (flow_kept (λ b. b) bare_gap d.body)
    ∙ ap (with_fun (placeless_fun d)) (noted_as (no_value (bare_returned t) (is_main d.name) (flow_of d.body) 0) fs v (value_bare t (is_main d.name) (flow_of d.body) at))
    ∙ fun_more d (noted fs v)

function_bare : (h : Head) (b : Block) → IsBareChange (walked_fun (moved_head none_at h) (new_block b)) (walked_fun h b)
function_bare h b w =
    let m = moved_head none_at h in
    let c = new_block b in
    let f = length w.funs in
    let hd = walked_heading h true w in
    let t = hd.1 in
    let names = length hd.0.scope.names in
    let ps = each (walked_param f) h.params hd.0 in
    let r = walked_block b (body_nesting f t) ps.0 in
    ap (λ k. params_behind m c k (walked_heading m true (bare_walk w))) (length-map w.funs placeless_fun)
    ∙ ap (params_behind m c f) (heading_bare h true w)
    ∙ ap (λ k. body_behind m c (bare_returned t) k f (each (walked_param f) (map (moved_spec none_at) h.params) (bare_walk hd.0))) (names_long hd.0)
    ∙ ap (body_behind m c (bare_returned t) names f) (each_bare bare_walk (moved_spec none_at) (λ n. n) (walked_param f) (walked_param f) (param_bare f) h.params hd.0)
    ∙ ap (λ ns. body_behind m c (bare_returned t) names f (bare_walk ps.0, ns)) (map-id ps.1)
    ∙ ap (body_ended m c (bare_returned t) names f ps.1) (block_bare b (body_nesting f t) ps.0)
    ∙ ap (λ d. ended c (bare_returned t) names f d (bare_walk r.0)) (fun_bare h t ps.1 r.1)
    ∙ ended_bare b t names f (fun_of h t ps.1 r.1) r.0

-- files

top_bare : (x : Top) (w : Walk) → walked_top (bare_walk w) (moved_top none_at as_braced x) ≡ bare_walk (walked_top w x)
top_bare (top.Struct tag body alias) w = struct_bare tag body alias w
top_bare (top.Globals ds) w = globals_bare ds w
top_bare (top.Proto h) w = ap (λ r. r.0) (heading_bare h false w)
top_bare (top.Fun h b) w = function_bare h b w

tops_bare : (xs : List Top) (w : Walk) → walked_from (bare_walk w) (map (moved_top none_at as_braced) xs) ≡ bare_walk (walked_from w xs)
tops_bare [] w = refl
tops_bare (x ∷ xs) w = ap (λ v. walked_from v (map (moved_top none_at as_braced) xs)) (top_bare x w) ∙ tops_bare xs (walked_top w x)

abbrev bare_rows : List (List ℕ × ℕ) → List (List ℕ × ℕ)
bare_rows = map (row_with (λ (at : ℕ). 0))

definition_case : (rows : List (List ℕ × ℕ)) (n : Word) (o : Option ℕ) → with_definition (bare_rows rows) (moved_word none_at n) (option_map (λ (at : ℕ). 0) o) ≡ bare_rows (with_definition rows n o)
definition_case rows n None = sym (map-append (row_with (λ (at : ℕ). 0)) rows ((n.text, n.at) ∷ []))
definition_case rows n (Some at) = refl

definition_bare : (rows : List (List ℕ × ℕ)) (o : Option Word) → definition_named (bare_rows rows) (option_map (moved_word none_at) o) ≡ bare_rows (definition_named rows o)
definition_bare rows None = refl
definition_bare rows (Some n) = ap (with_definition (bare_rows rows) (moved_word none_at n)) (found_rows (λ (at : ℕ). 0) rows n.text) ∙ definition_case rows n (found rows n.text)

with_top_bare : (rows : List (List ℕ × ℕ)) (x : Top) → with_top (bare_rows rows) (moved_top none_at as_braced x) ≡ bare_rows (with_top rows x)
with_top_bare rows (top.Fun h b) = definition_bare rows h.result.name
with_top_bare rows (top.Proto h) = refl
with_top_bare rows (top.Globals ds) = refl
with_top_bare rows (top.Struct tag body alias) = refl

definitions_bare : (xs : List Top) (rows : List (List ℕ × ℕ)) → fold with_top (bare_rows rows) (map (moved_top none_at as_braced) xs) ≡ bare_rows (fold with_top rows xs)
definitions_bare [] rows = refl
definitions_bare (x ∷ xs) rows = ap (λ rs. fold with_top rs (map (moved_top none_at as_braced) xs)) (with_top_bare rows x) ∙ definitions_bare xs (with_top rows x)

-- the way through a file without offsets
pub walked_bare : (t : Tree) → walked (moved none_at as_braced t) ≡ bare_walk (walked t)
walked_bare t = ap (λ rows. walked_from (start rows) (map (moved_top none_at as_braced) t.tops)) (definitions_bare t.tops []) ∙ tops_bare t.tops (start (definitions t.tops))

-- programs

abbrev unbraced_layers : Layers
unbraced_layers = record { item = λ x. x; arm = λ x. x; block = λ b. record b { braced = false }; piece = λ x. x }

abbrev unbraced : Maps
unbraced = rebuilt unbraced_layers

placeless_commutes : (x : Item-F MadeItem MadeArm MadeBlock MadePiece) → in_item unbraced (bare_item x) ≡ bare_item (in_item unbraced x)
placeless_commutes (layer.Declare ds) = refl
placeless_commutes (layer.Assign s) = refl
placeless_commutes (layer.Do c) = refl
placeless_commutes (layer.Nest b) = refl
placeless_commutes (layer.If arms otherwise) = refl
placeless_commutes (layer.While test body) = refl
placeless_commutes (layer.For head body) = refl
placeless_commutes layer.Break = refl
placeless_commutes layer.Continue = refl
placeless_commutes (layer.Return value at) = refl

unbraced_is : (m : MadeBlock) → unbraced.block (unplaced.block m) ≡ bare_block m
unbraced_is = same_block (after unbraced unplaced) (rebuilt (layers_with bare_gap)) (layers_with bare_gap)
    (after_rebuilds unbraced unplaced unbraced_layers placeless_layers (layers_with bare_gap) (rebuilt_rebuilds unbraced_layers) (rebuilt_rebuilds placeless_layers)
    (record { item = placeless_commutes; arm = λ x. refl; block = λ x. refl; piece = λ x. refl }) (record { item = λ x. refl; arm = λ x. refl; block = λ x. refl; piece = λ x. refl }))
    (rebuilt_rebuilds (layers_with bare_gap))

abbrev unbraced_fun : FunDef → FunDef
unbraced_fun d = record d { body = unbraced.block d.body }

field_same : (row : List ℕ × Written) → field_def (row_with bare_written row) ≡ field_def row
field_same row = ap (λ t. record { name = row.0; ty = t }) (int_bare row.1)

struct_same : (row : StructRow) → struct_def (bare_row row) ≡ bare_struct (struct_def row)
struct_same row = ap (λ fs. record { fields = fs; body = option_map (λ (at : ℕ). 0) row.body }) (map_joined field_def (row_with bare_written) field_def field_same row.fields)

-- a program without offsets and braces, from a walk without offsets
abbrev program_of : Walk → ℕ → Program
program_of w main = record { structs = map struct_def w.scope.structs; vars = w.vars; funs = map unbraced_fun w.funs; main = main; gaps = w.gaps; calls = w.calls }

rows_same : (rows : List StructRow) → map struct_def (map bare_row rows) ≡ map bare_struct (map struct_def rows)
rows_same [] = refl
rows_same (row ∷ rows) = ap (λ x. x ∷ map struct_def (map bare_row rows)) (struct_same row) ∙ ap (λ xs. bare_struct (struct_def row) ∷ xs) (rows_same rows)

fun_same : (d : FunDef) → unbraced_fun (placeless_fun d) ≡ bare_fun d
fun_same d = ap (λ b. record { name = d.name; result = d.result; params = d.params; body = b; at = 0 }) (unbraced_is d.body)

program_bare : (w : Walk) (main : ℕ) → program_of (bare_walk w) main ≡ bare (made_program w main)
program_bare w main =
    ap (λ rows. record (program_of (bare_walk w) main) { structs = rows }) (rows_same w.scope.structs)
    ∙ ap (λ fs. record (bare (made_program w main)) { funs = fs }) (map_joined unbraced_fun placeless_fun bare_fun fun_same w.funs)

none_left : (fs : List Fault) → map bare_fault fs ≡ [] → fs ≡ []
none_left [] is = refl
none_left (f ∷ fs) is = absurd cc

-- trees that are equal but for offsets have programs that are alike
pub program_unplaced : (t u : Tree) (q : Program) → moved none_at as_braced u ≡ moved none_at as_braced t → IsProgram t q → (r : Program) × IsProgram u r × IsAlike r q
program_unplaced t u q same is =
    let walks : bare_walk (walked u) ≡ bare_walk (walked t) = sym (walked_bare u) ∙ ap walked same ∙ walked_bare t in
    let rows : bare_rows (definitions u.tops) ≡ bare_rows (definitions t.tops) = sym (definitions_bare u.tops []) ∙ ap (λ x. definitions x.tops) same ∙ definitions_bare t.tops [] in
    let r = made_program (walked u) q.main in
    let clean : map bare_fault (walked u).faults ≡ [] = ap (λ w. w.faults) walks ∙ ap (map bare_fault) is.clean in
    let main : place_of (definitions u.tops) main_name ≡ place_of (definitions t.tops) main_name =
    sym (place_rows (λ (at : ℕ). 0) (definitions u.tops) main_name) ∙ ap (λ rs. place_of rs main_name) rows ∙ place_rows (λ (at : ℕ). 0) (definitions t.tops) main_name in
    let alike : bare r ≡ bare q = sym (program_bare (walked u) q.main) ∙ ap (λ w. program_of w q.main) walks ∙ program_bare (walked t) q.main ∙ ap bare (sym is.made) in
    (r, record { clean = none_left (walked u).faults clean; main = main ∙ is.main; made = refl }, alike)
