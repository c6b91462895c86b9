-- Well-formed programs: those that a text can have, by the rules on names and types.
use Rattle.std.specs.Prelude.{◌≡◌, ℕ, ◌+◌, ◌==◌, nat_lt, Bool, true, not, ◌&&◌, ◌||◌, pos, List, [], ◌∷◌, length, map, slice_get, Option, Some, None, IsTrue}
use Rattle.std.specs.List.{list_all, range_with_len}
use Rattle.std.specs.Ordering.{int_eq}
use Rattle.c_tree.specs.AlikeTest.{same_ty}
use Rattle.c_tree.specs.Cycles.{IsCyclic}
use Rattle.c_tree.specs.Fill.{free_of}
use Rattle.c_tree.specs.Flow.{flow_of, jumps_out}
use Rattle.c_tree.specs.Numbers.{gaps_of, owns_from, Declares}
use Rattle.c_tree.specs.Typing.{Prototype, Declarations, declarations, anywhere, has, if_any, fits, result_of, block_fits, free_fits, gap_fits}
use Rattle.c_tree.specs.UserCalls.{user_calls}
use Rattle.c_tree.specs.declared.choice.Choice.{Choice}
use Rattle.c_tree.specs.declared.control.UserCall.{UserCall}
use Rattle.c_tree.specs.declared.program.FieldDef.{FieldDef}
use Rattle.c_tree.specs.declared.program.FunDef.{FunDef}
use Rattle.c_tree.specs.declared.program.Gap.{Gap}
use Rattle.c_tree.specs.declared.program.Home.{Home}
use Rattle.c_tree.specs.declared.program.Home.TheVariants as home
use Rattle.c_tree.specs.declared.program.Program.{Program}
use Rattle.c_tree.specs.declared.program.StructDef.{StructDef}
use Rattle.c_tree.specs.declared.program.Ty.{Ty}
use Rattle.c_tree.specs.declared.program.Ty.TheVariants as ty
use Rattle.c_tree.specs.declared.program.VarDef.{VarDef}

-- a rule on functions holds of these, numbered from f on
abbrev pub each_from : (ℕ → FunDef → Bool) → ℕ → List FunDef → Bool
each_from rule f [] = true
each_from rule f (d ∷ ds) = rule f d && each_from rule (f + 1) ds

-- a rule on functions holds of all
abbrev pub each_function : (ℕ → FunDef → Bool) → Program → Bool
each_function rule p = each_from rule 0 p.funs

-- the struct that a type names exists
abbrev pub type_exists : Declarations → Ty → Bool
type_exists d ty.Int = true
type_exists d ty.IntPtr = true
type_exists d (ty.StructPtr s) = nat_lt s (length d.structs)

-- the types of all fields exist
abbrev pub struct_fits : Declarations → StructDef → Bool
struct_fits d s = list_all (λ (f : FieldDef). type_exists d f.ty) s.fields

-- the constant of a global fits `int`, and that of a pointer is the null pointer (6.7.8p10); the nameless
-- slot of a result has the type of the result
abbrev pub home_fits : Declarations → Ty → Home → Bool
home_fits d t (home.Global n) = fits n && (same_ty t ty.Int || int_eq n (pos 0))
home_fits d t (home.Param f) = true
home_fits d t (home.Local f) = true
home_fits d t (home.Result f) = has (same_ty t) (result_of d f)

-- the slots of results are nameless
abbrev pub name_fits : List ℕ → Home → Bool
name_fits name (home.Global n) = true
name_fits name (home.Param f) = true
name_fits name (home.Local f) = true
name_fits name (home.Result f) = length name == 0

-- what a variable is declared as
abbrev pub variable_fits : Declarations → VarDef → Bool
variable_fits d v = type_exists d v.ty && home_fits d v.ty v.home && name_fits v.name v.home

-- the type of a result exists
abbrev pub result_exists : Declarations → FunDef → Bool
result_exists d f = if_any (type_exists d) f.result

-- no path may reach the closing brace of a function with a result, other than main (6.9.1p12)
abbrev pub gives_value : ℕ → ℕ → FunDef → Option Ty → Bool
gives_value main f d None = true
gives_value main f d (Some t) = f == main || not (flow_of d.body).ends

-- no `break` or `continue` leaves a body
abbrev pub jumps_in_loops : FunDef → Bool
jumps_in_loops d = not (jumps_out d.body)

-- main is `int main(void)` (5.1.2.2.1)
abbrev pub is_main : Prototype → Bool
is_main f = has (same_ty ty.Int) f.result && length f.params == 0

-- each free takes a pointer, a field of a struct whose body comes later too
abbrev pub FreesFit : Program → Type 0
FreesFit p = IsTrue (list_all (gap_fits (anywhere (declarations p))) (gaps_of p))

-- each put frees a pointer: a variable, or a field of the struct that a variable points to
abbrev pub PutsFit : Program → Choice → Type 0
PutsFit p choice = IsTrue (list_all (λ q. free_fits (anywhere (declarations p)) (free_of q)) choice.puts)

-- a text has such a program, by the rules on names and types: its numbers exist and are those of its places in the
-- text, each variable has the home of its declaration and stands where it is visible, and all types are right
pub record IsWellFormed (p : Program) : Type 0 where
  -- there is a function main, with the right type
  pub main : IsTrue (has is_main (slice_get (declarations p).funs p.main))
  -- the structs that types of fields name exist
  pub structs : IsTrue (list_all (struct_fits (declarations p)) p.structs)
  -- variables have types, constants and names that fit their homes
  pub variables : IsTrue (list_all (variable_fits (declarations p)) p.vars)
  -- the structs that types of results name exist
  pub results : IsTrue (each_function (λ f d. result_exists (declarations p) d) p)
  -- each variable is declared once, in the order of the numbers, and stands where it is visible, frees aside
  pub declared : Declares 0 [] (owns_from 0 p.funs) (map (λ (v : VarDef). v.home) p.vars)
  -- gaps and calls are numbered by their places in the text
  pub gaps : map (λ (g : Gap). g.number) (gaps_of p) ≡ range_with_len 0 p.gaps
  pub calls : map (λ (c : UserCall). c.number) (user_calls p) ≡ range_with_len 0 p.calls
  -- expressions, calls and statements have right types, and their constants fit `int`
  pub typed : IsTrue (each_function (λ f d. block_fits (declarations p) d.result d.body) p)
  -- `break` and `continue` stand in loops (6.8.6.2p1, 6.8.6.3p1)
  pub jumps : IsTrue (each_function (λ f d. jumps_in_loops d) p)
  -- functions with a result return one
  pub values : IsTrue (each_function (λ f d. gives_value p.main f d d.result) p)
  -- no function calls itself, be it through others
  pub no_recursion : IsCyclic (user_calls p) → ⊥
  -- frees take pointers
  pub frees : FreesFit p
