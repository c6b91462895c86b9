-- A well-formed program, `int g; void f(int n) { while (n) { n -= 1; } } int main(void) { f(g); return 0; }`, and two
-- that aren't: with another number of its call, and with a variable that doesn't exist.
use Rattle.std.proofs.Common.{◌≡◌, ℕ, zero, suc, ◌<◌, true, false, true≢false, List, [], ◌∷◌, ◌++◌, map, length, get_or, Some, None, option_map, pos, arith, refl, ap, sym, subst, ◌∙◌}
use Rattle.std.specs.Prelude.{if◌then◌else◌}
use Rattle.std.specs.List.{list_all}
use Rattle.std.specs.Option.{is_some}
use Rattle.c_tree.specs.Cycles.{Calls}
use Rattle.c_tree.specs.Cycles.Calls.{directly, through}
use Rattle.c_tree.specs.Numbers.{Own, owns_from, Declares, gaps_of, locals_in}
use Rattle.c_tree.specs.Numbers.Declares.{nothing, a_global, a_function}
use Rattle.c_tree.specs.Scopes.{Scope, sees, in_turn, closed, block_scope, sees_all}
use Rattle.c_tree.specs.Typing.{Declarations, declarations, anywhere, fits, Of, Judged, judged_layer, sort_of, is_condition, var_type, block_fits, gap_fits}
use Rattle.c_tree.specs.UserCalls.{user_calls}
use Rattle.c_tree.specs.WellFormed.{IsWellFormed, each_function, jumps_in_loops}
use Rattle.c_tree.specs.declared.control.UserCall.{UserCall}
use Rattle.c_tree.specs.declared.expr.Expr.{Expr, roll-Expr, out-roll-Expr, fold-roll-Expr}
use Rattle.c_tree.specs.declared.expr.Expr.TheOpen.{Const, Var}
use Rattle.c_tree.specs.declared.expr.Op.TheVariants as op
use Rattle.c_tree.specs.declared.program.Block.{Block, roll-Block, fold-roll-Block}
use Rattle.c_tree.specs.declared.program.Piece.{Piece, roll-Piece, fold-roll-Piece}
use Rattle.c_tree.specs.declared.program.Item.{Item-F, Item, roll-Item, fold-roll-Item}
use Rattle.c_tree.specs.declared.program.Item.TheOpen.{Assign, Do, While, Return}
use Rattle.c_tree.specs.declared.program.Arm.{Arm}
use Rattle.c_tree.specs.declared.program.Call.TheVariants as call
use Rattle.c_tree.specs.declared.program.FunDef.{FunDef}
use Rattle.c_tree.specs.declared.program.Gap.{Gap}
use Rattle.c_tree.specs.declared.program.Home.TheVariants as home
use Rattle.c_tree.specs.declared.program.Program.{Program}
use Rattle.c_tree.specs.declared.program.Right.TheVariants as right
use Rattle.c_tree.specs.declared.program.Ty.TheVariants as ty
use Rattle.c_tree.specs.declared.program.VarDef.{VarDef}

abbrev empty_gap : ℕ → Gap
empty_gap k = record { number = k; frees = [] }

abbrev piece : ℕ → Item-F Item Arm Block Piece → Piece
piece k i = roll-Piece (record { gap = empty_gap k; item = roll-Item i; start = 0; end = 0 })

abbrev block : List Piece → ℕ → Block
block ps k = roll-Block (record { items = ps; last_gap = empty_gap k; braced = true; start = 0; end = 0 })

abbrev variable : ℕ → Expr
variable x = roll-Expr (Var x 0)

abbrev constant : ℕ → Expr
constant n = roll-Expr (Const (pos n) 0)

-- f takes the variable x
abbrev f_body : ℕ → Block
f_body x = block (piece 0 (While (variable x) (block (piece 1 (Assign (record { place = variable x; op = op.Sub; right = right.Plain (constant 1); at = 0 })) ∷ []) 2)) ∷ []) 3

abbrev main_body : ℕ → Block
main_body n = block (piece 4 (Do (call.User n 0 (variable 0 ∷ []) 0)) ∷ piece 5 (Return (Some (right.Plain (constant 0))) 0) ∷ []) 6

abbrev sample : ℕ → ℕ → Program
sample x n = record {
  structs = [];
  vars = record { name = 103 ∷ []; ty = ty.Int; home = home.Global (pos 0); at = 0 }
      ∷ record { name = 110 ∷ []; ty = ty.Int; home = home.Param 0; at = 0 }
      ∷ record { name = []; ty = ty.Int; home = home.Result 1; at = 0 } ∷ [];
  funs = record { name = 102 ∷ []; result = None; params = 1 ∷ []; body = f_body x; at = 0 }
      ∷ record { name = 109 ∷ 97 ∷ 105 ∷ 110 ∷ []; result = Some ty.Int; params = []; body = main_body n; at = 0 } ∷ [];
  main = 1;
  gaps = 7;
  calls = 1;
}

sample_gaps : (x n : ℕ) → gaps_of (sample x n) ≡ empty_gap 0 ∷ empty_gap 1 ∷ empty_gap 2 ∷ empty_gap 3 ∷ empty_gap 4 ∷ empty_gap 5 ∷ empty_gap 6 ∷ []
sample_gaps x n = simp (fold-roll-Block, fold-roll-Piece, fold-roll-Item)

sample_calls : (x n : ℕ) → user_calls (sample x n) ≡ record { number = n; caller = 1; callee = 0; at = 0 } ∷ []
sample_calls x n = simp (fold-roll-Block, fold-roll-Piece, fold-roll-Item)

-- the functions of the sample
abbrev f_of : ℕ → FunDef
f_of x = record { name = 102 ∷ []; result = None; params = 1 ∷ []; body = f_body x; at = 0 }

abbrev main_of : ℕ → FunDef
main_of n = record { name = 109 ∷ 97 ∷ 105 ∷ 110 ∷ []; result = Some ty.Int; params = []; body = main_body n; at = 0 }

f_locals : locals_in (f_body 1) ≡ []
f_locals = simp (fold-roll-Block, fold-roll-Piece, fold-roll-Item)

main_locals : locals_in (main_body 0) ≡ []
main_locals = simp (fold-roll-Block, fold-roll-Piece, fold-roll-Item)

f_scope : block_scope (f_body 1) ≡ closed (in_turn (in_turn (sees (1 ∷ []) ∷ closed (in_turn (sees (1 ∷ []) ∷ [])) ∷ []) ∷ []))
f_scope = simp (fold-roll-Block, fold-roll-Piece, fold-roll-Item, fold-roll-Expr)

main_scope : block_scope (main_body 0) ≡ closed (in_turn (sees (0 ∷ []) ∷ sees [] ∷ []))
main_scope = simp (fold-roll-Block, fold-roll-Piece, fold-roll-Item, fold-roll-Expr)

f_sees : sees_all (f_of 1) (0 ∷ []) ≡ true
f_sees = ap (λ (s : Scope). is_some (s (1 ∷ 0 ∷ []))) f_scope

main_sees : sees_all (main_of 0) (0 ∷ []) ≡ true
main_sees = ap (λ (s : Scope). is_some (s (0 ∷ []))) main_scope

abbrev f_own : List ℕ → Own
f_own locals = record { declared = 1 ∷ locals; homes = home.Param 0 ∷ map (λ x. home.Local 0) locals ++ []; sees = sees_all (f_of 1) }

abbrev main_own : List ℕ → Own
main_own locals = record { declared = locals; homes = map (λ x. home.Local 1) locals ++ home.Result 1 ∷ []; sees = sees_all (main_of 0) }

sample_declared : Declares 0 [] (owns_from 0 (sample 1 0).funs) (map (λ (v : VarDef). v.home) (sample 1 0).vars)
sample_declared =
    let owns : f_own [] ∷ main_own [] ∷ [] ≡ owns_from 0 (sample 1 0).funs = ap (λ (ls : List ℕ). f_own ls ∷ main_own [] ∷ []) (sym f_locals) ∙ ap (λ (ls : List ℕ). f_own (locals_in (f_body 1)) ∷ main_own ls ∷ []) (sym main_locals) in
    subst (λ (os : List Own). Declares 0 [] os (map (λ (v : VarDef). v.home) (sample 1 0).vars)) owns
    (a_global (pos 0) (a_function (f_own []) refl f_sees (a_function (main_own []) refl main_sees nothing)))

variable_sort : (d : Declarations) (x : ℕ) → sort_of d (variable x) ≡ option_map Of (var_type d x)
variable_sort d x = ap (λ (j : Judged). j.value) (fold-roll-Expr Judged (judged_layer d) (Var x 0))

variable_condition : (d : Declarations) (x : ℕ) → is_condition d (variable x) ≡ is_some (option_map Of (var_type d x))
variable_condition d x = ap (λ (j : Judged). j.condition) (fold-roll-Expr Judged (judged_layer d) (Var x 0))

constant_sort : (d : Declarations) (n : ℕ) → sort_of d (constant n) ≡ (if fits (pos n) then Some (Of ty.Int) else None)
constant_sort d n = ap (λ (j : Judged). j.value) (fold-roll-Expr Judged (judged_layer d) (Const (pos n) 0))

sample_typed : each_function (λ f d. block_fits (declarations (sample 1 0)) d.result d.body) (sample 1 0) ≡ true
sample_typed = simp (fold-roll-Block, fold-roll-Piece, fold-roll-Item, out-roll-Expr, variable_sort, variable_condition, constant_sort)

sample_jumps : each_function (λ f d. jumps_in_loops d) (sample 1 0) ≡ true
sample_jumps = simp (fold-roll-Block, fold-roll-Piece, fold-roll-Item)

abbrev only : UserCall
only = record { number = 0; caller = 1; callee = 0; at = 0 }

is_only : (k : ℕ) (c : UserCall) → k < length (only ∷ []) → get_or (only ∷ []) k c ≡ c → only ≡ c
is_only zero c below e = e
is_only (suc k) c below e = absurd (omega arith)

from_one : {f g : ℕ} → Calls (only ∷ []) f g → 1 ≡ f
from_one (directly c h) = ap (λ (d : UserCall). d.caller) (is_only h.0 c h.1 h.2)
from_one (through c g h way) = ap (λ (d : UserCall). d.caller) (is_only h.0 c h.1 h.2)

to_zero : {f g : ℕ} → Calls (only ∷ []) f g → 0 ≡ g
to_zero (directly c h) = ap (λ (d : UserCall). d.callee) (is_only h.0 c h.1 h.2)
to_zero (through c g h way) = to_zero way

no_cycle : (f : ℕ) → Calls (only ∷ []) f f → ⊥
no_cycle f way =
    let one : 1 ≡ f = from_one way in
    let none : 0 ≡ f = to_zero way in
    absurd (omega arith)

sample_well_formed : IsWellFormed (sample 1 0)
sample_well_formed = record {
  main = refl;
  structs = refl;
  variables = refl;
  results = refl;
  declared = sample_declared;
  gaps = ap (map (λ (g : Gap). g.number)) (sample_gaps 1 0);
  calls = ap (map (λ (c : UserCall). c.number)) (sample_calls 1 0);
  typed = sample_typed;
  jumps = sample_jumps;
  values = refl;
  no_recursion = λ cycle. no_cycle cycle.0 (subst (λ (cs : List UserCall). Calls cs cycle.0 cycle.0) (sample_calls 1 0) cycle.1);
  frees = ap (list_all (gap_fits (anywhere (declarations (sample 1 0))))) (sample_gaps 1 0);
}

five_or_none : (ns : List ℕ) → ns ≡ 5 ∷ [] → ns ≡ 0 ∷ [] → ⊥
five_or_none ns five none =
    let one : get_or ns 0 0 ≡ 5 = ap (λ (ms : List ℕ). get_or ms 0 0) five in
    let other : get_or ns 0 0 ≡ 0 = ap (λ (ms : List ℕ). get_or ms 0 0) none in
    absurd (omega arith)

another_number : IsWellFormed (sample 1 5) → ⊥
another_number w = five_or_none (map (λ (c : UserCall). c.number) (user_calls (sample 1 5))) (ap (map (λ (c : UserCall). c.number)) (sample_calls 1 5)) w.calls

no_variable : each_function (λ f d. block_fits (declarations (sample 9 0)) d.result d.body) (sample 9 0) ≡ false
no_variable = simp (fold-roll-Block, fold-roll-Piece, fold-roll-Item, out-roll-Expr, variable_sort, variable_condition, constant_sort)

no_such_variable : IsWellFormed (sample 9 0) → ⊥
no_such_variable w = true≢false (sym w.typed ∙ no_variable)
