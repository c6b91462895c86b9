-- What a text's program declares, and the rules that each of its functions keeps: main has its type, the types of structs and
-- results exist, jumps stand in loops, and a value is given.
use Rattle.std.proofs.Common.{◌≡◌, ℕ, suc, ◌+◌, ◌==◌, Bool, true, false, ◌&&◌, ◌||◌, List, [], ◌∷◌, length, slice_get, Option, Some, None, option_map, refl, sym, ap, ◌∙◌}
use Rattle.std.specs.Prelude.{IsTrue, not, if◌then◌else◌}
use Rattle.std.specs.Cmp.Lexicographic.{bytes_decides}
use Rattle.std.specs.List.{list_all}
use Rattle.std.proofs.lemmas.Bool.{and_parts, eq-eqb}
use Rattle.std.proofs.lemmas.List.{length-map}
use Rattle.std.proofs.lemmas.List.Folds.{list_all-map}
use Rattle.std.proofs.lemmas.Option.{slice_get-map}
use Rattle.c_tree.specs.AlikeTest.{same_ty}
use Rattle.c_tree.specs.Flow.{flow_of}
use Rattle.c_tree.specs.Typing.{prototype, declarations, has, if_any}
use Rattle.c_tree.specs.WellFormed.{each_from, each_function, type_exists, struct_fits, result_exists, gives_value, jumps_in_loops, is_main as is_main_type}
use Rattle.c_tree.specs.declared.program.FieldDef.{FieldDef}
use Rattle.c_tree.specs.declared.program.FunDef.{FunDef}
use Rattle.c_tree.specs.declared.program.Program.{Program}
use Rattle.c_tree.specs.declared.program.Ty.{Ty}
use Rattle.c_tree.specs.declared.program.Ty.TheVariants as ty
use Rattle.c_tree.specs.declared.tree.Base.{Base}
use Rattle.c_tree.specs.declared.tree.Base.TheVariants as base
use Rattle.c_tree.specs.declared.tree.Block.{Block}
use Rattle.c_tree.specs.declared.tree.Head.{Head}
use Rattle.c_tree.specs.declared.tree.Spec.{Spec}
use Rattle.c_tree.specs.declared.tree.Tree.{Tree}
use Rattle.c_types.specs.declared.faults.Rule.TheVariants as rule
use Rattle.c_types.specs.declared.scope.Returned.{Returned}
use Rattle.c_types.specs.declared.scope.Returned.TheVariants as returned
use Rattle.c_types.specs.declared.scope.Scope.{Scope}
use Rattle.c_types.specs.declared.scope.StructRow.{StructRow}
use Rattle.c_types.specs.declared.scope.Walk.{Walk}
use Rattle.c_types.specs.declared.scope.Written.{Written}
use Rattle.c_types.specs.Calls.{main_name, is_main}
use Rattle.c_types.specs.Functions.{is_int_base, is_main_head, no_value, result_or_none, brace_of, body_nesting, walked_param}
use Rattle.c_types.specs.InTurn.{each}
use Rattle.c_types.specs.Program.{walked, definitions, IsProgram, field_def, struct_def}
use Rattle.c_types.specs.Scopes.{or_int, based, good_type, value_or_bad, result_of, text_or_none}
use Rattle.c_types.proofs.Functionwise.{Before, by_definitions, rule_at, at_end, all_sofar, headed_clean, left_clean}
use Rattle.c_types.proofs.Headings.{clean_unless, definition_heads}
use Rattle.c_types.proofs.LooseJumps.{no_loose_jump}
use Rattle.c_types.proofs.NumberingCalls.{second_empty}
use Rattle.c_types.proofs.Passing.{headed, with_params, inside, slotted, made_of}
use Rattle.c_types.proofs.Rows.{all_weaker}
use Rattle.c_types.proofs.Standing.{there, fields_there}
use Rattle.c_types.specs.Tables.{place_of}

-- types that exist

there_exists : (p : Program) (n : ℕ) → length p.structs ≡ n → (t : Ty) → there n t ≡ true → type_exists (declarations p) t ≡ true
there_exists p n same ty.Int h = refl
there_exists p n same ty.IntPtr h = refl
there_exists p n same (ty.StructPtr s) h = ap (λ (k : ℕ). there k (ty.StructPtr s)) same ∙ h

struct_count : (t : Tree) (p : Program) → IsProgram t p → length p.structs ≡ length (walked t).scope.structs
struct_count t p is = ap (λ (q : Program). length q.structs) is.made ∙ length-map (walked t).scope.structs struct_def

pub type_known : (t : Tree) (p : Program) → IsProgram t p → (u : Ty) → there (length (walked t).scope.structs) u ≡ true → type_exists (declarations p) u ≡ true
type_known t p is = there_exists p (length (walked t).scope.structs) (struct_count t p is)

-- the structs that types of fields name exist
pub program_structs : (t : Tree) (p : Program) → IsProgram t p → IsTrue (list_all (struct_fits (declarations p)) p.structs)
program_structs t p is =
    let n = length (walked t).scope.structs in
    let one = λ (row : StructRow) (h : fields_there n row ≡ true).
    list_all-map (λ (f : FieldDef). type_exists (declarations p) f.ty) field_def row.fields
    ∙ all_weaker (λ (f : List ℕ × Written). there n (or_int f.1)) (λ (f : List ℕ × Written). type_exists (declarations p) (or_int f.1)) (λ f. type_known t p is (or_int f.1)) row.fields h in
    ap (λ (q : Program). list_all (struct_fits (declarations p)) q.structs) is.made
    ∙ list_all-map (struct_fits (declarations p)) struct_def (walked t).scope.structs
    ∙ all_weaker (fields_there n) (λ (row : StructRow). struct_fits (declarations p) (struct_def row)) one (walked t).scope.structs (all_sofar t is.clean).standing.fields

result_known : (t : Tree) (p : Program) → IsProgram t p → (o : Option Ty) → if_any (there (length (walked t).scope.structs)) o ≡ true → if_any (type_exists (declarations p)) o ≡ true
result_known t p is None h = refl
result_known t p is (Some u) h = type_known t p is u h

all_keep : (keeps : FunDef → Bool) (f : ℕ) (ds : List FunDef) → list_all keeps ds ≡ true → each_from (λ k d. keeps d) f ds ≡ true
all_keep keeps f [] h = refl
all_keep keeps f (d ∷ ds) h =
    let parts = and_parts (keeps d) (list_all keeps ds) h in
    ap (λ (b : Bool). b && each_from (λ k d. keeps d) (f + 1) ds) parts.0 ∙ all_keep keeps (f + 1) ds parts.1

-- the structs that types of results name exist
pub program_results : (t : Tree) (p : Program) → IsProgram t p → IsTrue (each_function (λ f d. result_exists (declarations p) d) p)
program_results t p is =
    all_keep (result_exists (declarations p)) 0 p.funs
    (ap (λ (q : Program). list_all (result_exists (declarations p)) q.funs) is.made
    ∙ all_weaker (λ (d : FunDef). if_any (there (length (walked t).scope.structs)) d.result) (result_exists (declarations p)) (λ d. result_known t p is d.result) (walked t).funs (all_sofar t is.clean).standing.results)

-- main

-- a function called main has its type
abbrev keeps_main : ℕ → FunDef → Bool
keeps_main f d = not (is_main d.name) || is_main_type (prototype d)

int_result : (d : Spec) (s : Scope) (b : Base) → is_int_base b ≡ true → (d.stars == 0) ≡ true → result_of d (based b s).1 ≡ returned.Value ty.Int
int_result d s base.Int h zero = ap (λ (b : Bool). value_or_bad (good_type d (if b then Some ty.Int else if d.stars == 1 then Some ty.IntPtr else None))) zero
int_result d s base.Void h zero = absurd cc
int_result d s (base.Tag n) h zero = absurd cc
int_result d s (base.Alias n) h zero = absurd cc

param_count : (f : ℕ) (ds : List Spec) (w : Walk) → length (each (walked_param f) ds w).1 ≡ length ds
param_count f [] w = refl
param_count f (d ∷ ds) w = ap (λ (k : ℕ). suc k) (param_count f ds (walked_param f d w).0)

or_false : (b c : Bool) → (not b || c) ≡ true → b ≡ true → c ≡ true
or_false true c h e = h
or_false false c h e = absurd cc

not_or : (b c : Bool) → (b ≡ true → c ≡ true) → (not b || c) ≡ true
not_or true c h = h refl
not_or false c h = refl

main_kept : (t : Tree) (h : Head) (body : Block) (w : Walk) → Before t h body w → keeps_main (length w.funs) (made_of h body w) ≡ true
main_kept t h body w b = not_or (is_main (made_of h body w).name) (is_main_type (prototype (made_of h body w))) typed
  where
    typed : is_main (made_of h body w).name ≡ true → is_main_type (prototype (made_of h body w)) ≡ true
    typed is_called =
        let heads = definition_heads h w b.sofar.standing (headed_clean h body w b.clean) in
        let name : is_main heads.word.text ≡ true = ap is_main (ap text_or_none (sym heads.named)) ∙ is_called in
        let form : is_main_head h ≡ true = or_false (is_main heads.word.text) (is_main_head h) (clean_unless (not (is_main heads.word.text) || is_main_head h) rule.Main heads.word.at heads.no_main_fault) name in
        let parts = and_parts (is_int_base h.result.base && (h.result.stars == 0)) (length h.params == 0) form in
        let more = and_parts (is_int_base h.result.base) (h.result.stars == 0) parts.0 in
        let result : (headed h body w).1 ≡ returned.Value ty.Int = int_result h.result w.scope h.result.base more.0 more.1 in
        ap (λ (r : Returned). has (same_ty ty.Int) (result_or_none r) && (length (with_params h body w).1 == 0)) result
        ∙ ap (λ (k : ℕ). k == 0) (param_count (length w.funs) h.params (headed h body w).0) ∙ parts.1

-- the program's main has the type of a main
pub program_main : (t : Tree) (p : Program) → IsProgram t p → IsTrue (has is_main_type (slice_get (declarations p).funs p.main))
program_main t p is =
    let e = at_end t is.clean p.main main_name is.main in
    let here : slice_get p.funs p.main ≡ Some e.fun = ap (λ (q : Program). slice_get q.funs p.main) is.made ∙ e.is in
    let kept = rule_at keeps_main 0 p.funs p.main e.fun (by_definitions t p is keeps_main (main_kept t)) here in
    let name : is_main e.fun.name ≡ true = (bytes_decides e.fun.name main_name).1 (sym e.name) in
    ap (has is_main_type) (slice_get-map prototype p.funs p.main ∙ ap (option_map prototype) here)
    ∙ or_false (is_main e.fun.name) (is_main_type (prototype e.fun)) kept name

-- jumps

jumps_kept : (t : Tree) (h : Head) (body : Block) (w : Walk) → Before t h body w → jumps_in_loops (made_of h body w) ≡ true
jumps_kept t h body w b =
    ap not (no_loose_jump body (body_nesting (length w.funs) (headed h body w).1) (with_params h body w).0 refl (left_clean h body w b.clean))

-- in a text's program `break` and `continue` stand in loops
pub program_jumps : (t : Tree) (p : Program) → IsProgram t p → IsTrue (each_function (λ f d. jumps_in_loops d) p)
program_jumps t p is = by_definitions t p is (λ f d. jumps_in_loops d) (jumps_kept t)

-- values

value_by_name : (t : Tree) (p : Program) → IsProgram t p → (n : List ℕ) (f : ℕ) → place_of (definitions t.tops) n ≡ Some f → (c : Bool) → (is_main n || c) ≡ true → ((f == p.main) || c) ≡ true
value_by_name t p is n f place true h = by_or (f == p.main)
  where
    by_or : (b : Bool) → (b || true) ≡ true
    by_or true = refl
    by_or false = refl
value_by_name t p is n f place false h =
    let named : is_main n ≡ true = from_or (is_main n) h in
    let name : n ≡ main_name = (bytes_decides n main_name).0 named in
    let two : Some f ≡ Some p.main = sym place ∙ ap (place_of (definitions t.tops)) name ∙ is.main in
    let same : f ≡ p.main = cc in
    ap (λ (b : Bool). b || false) (eq-eqb f p.main same)
  where
    from_or : (b : Bool) → (b || false) ≡ true → b ≡ true
    from_or true h = refl
    from_or false h = absurd cc

value_kept : (t : Tree) (p : Program) → IsProgram t p → (h : Head) (body : Block) (w : Walk) → Before t h body w → gives_value p.main (length w.funs) (made_of h body w) (made_of h body w).result ≡ true
value_kept t p is h body w b =
    by_result (headed h body w).1
    (second_empty (slotted h body w).faults (no_value (headed h body w).1 (is_main (text_or_none h.result.name)) (flow_of (inside h body w).1) (brace_of body)) b.clean)
  where
    by_result : (r : Returned) → no_value r (is_main (text_or_none h.result.name)) (flow_of (inside h body w).1) (brace_of body) ≡ [] → gives_value p.main (length w.funs) (made_of h body w) (result_or_none r) ≡ true
    by_result returned.Nothing none = refl
    by_result (returned.Bad f) none = refl
    by_result (returned.Value u) none =
        let ends = not (flow_of (inside h body w).1).ends in
        value_by_name t p is (text_or_none h.result.name) (length w.funs) b.number ends (clean_unless (is_main (text_or_none h.result.name) || ends) rule.NoValue (brace_of body) none)

-- functions with a result return one, main aside
pub program_values : (t : Tree) (p : Program) → IsProgram t p → IsTrue (each_function (λ f d. gives_value p.main f d d.result) p)
program_values t p is = by_definitions t p is (λ f d. gives_value p.main f d d.result) (value_kept t p is)
