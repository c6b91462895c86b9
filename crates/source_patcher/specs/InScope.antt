-- Which puts are in scope at their gaps: `x` where the variable x is visible, `x->f` where x is and the body of its struct stands before
-- the gap; each of a pointer type.
use Rattle.std.specs.Prelude.{ℕ, ◌+◌, nat_eq, nat_lt, Bool, true, ◌&&◌, List, [], ◌∷◌, drop, Option, Some, None, IsTrue}
use Rattle.std.specs.List.{list_all}
use Rattle.std.specs.Option.{option_and_then}
use Rattle.std.specs.Set.{is_member}
use Rattle.c_tree.specs.Fill.{puts_at}
use Rattle.c_tree.specs.Typing.{Declarations, declarations, has, var_type, field_type}
use Rattle.c_tree.specs.declared.choice.Put.{Put}
use Rattle.c_tree.specs.declared.program.FunDef.{FunDef}
use Rattle.c_tree.specs.declared.program.Program.{Program}
use Rattle.c_tree.specs.declared.program.Ty.{Ty}
use Rattle.c_tree.specs.declared.program.Ty.TheVariants as ty
use Rattle.c_scopes.specs.ScopeAt.{Declared, GapScope, function_place, so_far, up_to}
use Rattle.c_types.specs.Fits.{is_pointer}

-- the struct to which a type points
abbrev pub struct_behind : Ty → Option ℕ
struct_behind ty.Int = None
struct_behind ty.IntPtr = None
struct_behind (ty.StructPtr s) = Some s

-- the type of `x` or `x->f` in a function whose name stands at an offset, since bodies of structs stand outside functions
abbrev pub freed_type : Declarations → ℕ → ℕ → Option ℕ → Option Ty
freed_type d at x None = var_type d x
freed_type d at x (Some f) = option_and_then (field_type d at f) (option_and_then struct_behind (var_type d x))

-- a put is in scope where these variables are visible
abbrev pub is_in_scope : Declarations → ℕ → List ℕ → Put → Bool
is_in_scope d at vars q = is_member nat_eq vars q.var && has is_pointer (freed_type d at q.var q.field)

-- the puts of each of these gaps
abbrev pub have_scope : Declarations → List Put → ℕ → List GapScope → Bool
have_scope d puts at rows = list_all (λ (r : GapScope). list_all (is_in_scope d at r.vars) (puts_at puts r.gap)) rows

-- the puts of each gap of these functions, from function f on, where these variables are declared before it
abbrev pub functions_have : Program → List Put → ℕ → Declared → List FunDef → Bool
functions_have p puts f s [] = true
functions_have p puts f s (d ∷ ds) =
    let here = up_to f d (drop s.count p.vars) s in
    have_scope (declarations p) puts d.at (function_place d here.globals) && functions_have p puts (f + 1) here ds

-- each put of a choice that has its gap in the program is in scope there
abbrev pub AreInScope : Program → List Put → Type 0
AreInScope p puts = IsTrue (functions_have p puts 0 (so_far 0 []) p.funs)

-- the gap of each put is one of the program's gaps
abbrev pub HaveGaps : Program → List Put → Type 0
HaveGaps p puts = IsTrue (list_all (λ (q : Put). nat_lt q.gap p.gaps) puts)
