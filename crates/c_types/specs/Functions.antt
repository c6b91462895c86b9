-- Declarations and definitions of functions (C99 6.7.5.3, 6.9.1).
use Rattle.std.specs.Prelude.{ℕ, ◌-◌, ◌==◌, Bool, true, false, not, ◌&&◌, ◌||◌, nat_lt, List, [], ◌∷◌, ◌++◌, length, map, slice_get, slice_set, Option, None, Some, if◌then◌else◌}
use Rattle.std.specs.List.{flat_map}
use Rattle.std.specs.Cmp.Lexicographic.{pointwise}
use Rattle.c_tree.specs.AlikeTest.{same_ty, option_alike}
use Rattle.c_tree.specs.declared.program.Block.{Block as MadeBlock}
use Rattle.c_tree.specs.declared.program.FunDef.{FunDef}
use Rattle.c_tree.specs.declared.program.Home.TheVariants as home
use Rattle.c_tree.specs.declared.program.Ty.{Ty}
use Rattle.c_tree.specs.declared.program.VarDef.{VarDef}
use Rattle.c_tree.specs.declared.tree.Base.{Base}
use Rattle.c_tree.specs.declared.tree.Base.TheVariants as base
use Rattle.c_tree.specs.declared.tree.Block.{Block, out-Block}
use Rattle.c_tree.specs.declared.tree.Head.{Head}
use Rattle.c_tree.specs.declared.tree.Spec.{Spec}
use Rattle.c_tree.specs.declared.tree.Word.{Word}
use Rattle.c_types.specs.declared.faults.Fault.{Fault}
use Rattle.c_types.specs.declared.faults.Rule.TheVariants as rule
use Rattle.c_tree.specs.declared.control.Flow.{Flow}
use Rattle.c_types.specs.declared.scope.Entry.{Entry}
use Rattle.c_types.specs.declared.scope.Heading.{Heading}
use Rattle.c_types.specs.declared.scope.Heading.TheVariants as heading
use Rattle.c_types.specs.declared.scope.Meaning.{Meaning}
use Rattle.c_types.specs.declared.scope.Meaning.TheVariants as meaning
use Rattle.c_types.specs.declared.scope.Nesting.{Nesting}
use Rattle.c_types.specs.declared.scope.Returned.{Returned}
use Rattle.c_types.specs.declared.scope.Returned.TheVariants as returned
use Rattle.c_types.specs.declared.scope.Scope.{Scope}
use Rattle.c_types.specs.declared.scope.Signature.{Signature}
use Rattle.c_types.specs.declared.scope.Walk.{Walk}
use Rattle.c_types.specs.declared.scope.Written.{Written}
use Rattle.c_types.specs.declared.scope.Written.TheVariants.{Good, Bad}
use Rattle.c_types.specs.Blocks.{walked_block}
use Rattle.c_types.specs.Calls.{is_main}
use Rattle.c_types.specs.Fits.{fault, unless}
use Rattle.c_tree.specs.Flow.{flow_of}
use Rattle.c_types.specs.InTurn.{each}
use Rattle.c_types.specs.Scopes.{in_scope, spec_type, result_type, type_faults, noted, with_name, with_var, declared, closed, naming, text_or_none}
use Rattle.c_types.specs.Tables.{found}

-- the types of a function

-- a function has types where its result and all its parameters have
abbrev pub heading_params : Option Ty → List Ty → List Written → Heading
heading_params t so_far [] = heading.Good (record { result = t; params = so_far; has_body = false })
heading_params t so_far (Good u ∷ ts) = heading_params t (so_far ++ u ∷ []) ts
heading_params t so_far (Bad f ∷ ts) = heading.Bad f

abbrev pub heading_of : Returned → List Written → Heading
heading_of returned.Nothing ts = heading_params None [] ts
heading_of (returned.Value t) ts = heading_params (Some t) [] ts
heading_of (returned.Bad f) ts = heading.Bad f

abbrev pub result_faults : Returned → List Fault
result_faults returned.Nothing = []
result_faults (returned.Value t) = []
result_faults (returned.Bad f) = f ∷ []

-- names of functions

abbrev pub same_types : Signature → Signature → Bool
same_types g h = option_alike same_ty g.result h.result && pointwise same_ty g.params h.params

abbrev pub entry : Meaning → Entry
entry m = record { meaning = m; depth = 0 }

abbrev pub with_signature : Signature → Walk → Walk
with_signature g w = record w { signatures = w.signatures ++ g ∷ [] }

-- the first declaration of a function
abbrev pub new_function : Word → Bool → Heading → Walk → Walk
new_function n body (heading.Bad f) w = with_name n (entry (meaning.Bad f)) w
new_function n body (heading.Good g) w =
    with_name n (entry (meaning.Function (length w.signatures))) (with_signature (record g { has_body = body }) w)

-- Wrong 10: declarations of one function that differ, which is looked at where all types of both are good
abbrev pub differs : Heading → Signature → ℕ → List Fault
differs (heading.Bad f) g at = []
differs (heading.Good h) g at = unless (same_types h g) rule.DeclarationsDiffer at

-- Twice: a function's body declared again
abbrev pub body_again : Bool → Signature → ℕ → List Fault
body_again body g at = unless (not (body && g.has_body)) rule.Twice at

abbrev pub again_faults : Bool → Heading → Signature → ℕ → List Fault
again_faults body h g at = body_again body g at ++ differs h g at

abbrev pub noted_again : Word → Bool → Heading → Option Signature → Walk → Walk
noted_again n body h None w = w
noted_again n body h (Some g) w = noted (again_faults body h g n.at) w

abbrev pub marked : ℕ → Option Signature → Walk → Walk
marked k None w = w
marked k (Some g) w = record w { signatures = slice_set w.signatures k (record g { has_body = true }) }

-- the body of a function has come
abbrev pub with_body : Bool → ℕ → Walk → Walk
with_body body k w = if body then marked k (slice_get w.signatures k) w else w

-- Twice: a function with the name of a variable or a typedef name
abbrev pub function_as : Word → Bool → Heading → Meaning → Walk → Walk
function_as n body h (meaning.Function k) w = with_body body k (noted_again n body h (slice_get w.signatures k) w)
function_as n body h (meaning.Bad f) w = w
function_as n body h (meaning.Variable m t) w = noted (fault rule.Twice n.at ∷ []) w
function_as n body h (meaning.Alias s) w = noted (fault rule.Twice n.at ∷ []) w

abbrev pub function_by : Word → Bool → Heading → Option Entry → Walk → Walk
function_by n body h None w = new_function n body h w
function_by n body h (Some e) w = function_as n body h e.meaning w

abbrev pub is_int_base : Base → Bool
is_int_base base.Int = true
is_int_base base.Void = false
is_int_base (base.Tag n) = false
is_int_base (base.Alias n) = false

-- `int main(void)` or `int main()`
abbrev pub is_main_head : Head → Bool
is_main_head h = is_int_base h.result.base && h.result.stars == 0 && length h.params == 0

-- Wrong 12: a `main` of another form
abbrev pub main_faults : Head → Word → List Fault
main_faults h n = unless (not (is_main n.text) || is_main_head h) rule.Main n.at

-- Wrong 13: a function without a name
abbrev pub function_named : Head → Bool → Heading → Option Word → Walk → Walk
function_named h body t None w = noted (fault rule.Nameless h.result.at ∷ []) w
function_named h body t (Some n) w = function_by n body t (found w.scope.names n.text) (noted (main_faults h n) w)

-- the name of a function is declared before its parameters; those of a prototype declare nothing
abbrev pub head_typed : Head → Bool → Returned → Walk × List Written → Walk × Returned
head_typed h body t r = (
  function_named h body (heading_of t r.1) h.result.name
      (noted (result_faults t ++ flat_map type_faults r.1) r.0),
  t,
)

abbrev pub head_behind : Head → Bool → Walk × Returned → Walk × Returned
head_behind h body r = head_typed h body r.1 (in_scope (each spec_type h.params) r.0)

-- the declaration of a function, with or without a body
abbrev pub walked_heading : Head → Bool → Walk → Walk × Returned
walked_heading h body w = head_behind h body (in_scope (result_type h.result) w)

-- definitions

-- a function's parameters and its outermost block are one scope
abbrev pub body_nesting : ℕ → Returned → Nesting
body_nesting f t = record { function = f; returns = t; depth = 1; in_loop = false }

abbrev pub walked_param : ℕ → Spec → Walk → Walk × ℕ
walked_param f d w = ((declared d (home.Param f) 1 w).0, length w.vars)

-- each function with a result has a nameless slot for it, numbered at its closing brace
abbrev pub slot_of : Ty → ℕ → ℕ → VarDef
slot_of t f at = record { name = []; ty = t; home = home.Result f; at = at }

abbrev pub with_slot : Returned → ℕ → ℕ → Walk → Walk
with_slot returned.Nothing f at w = w
with_slot (returned.Value t) f at w = with_var (slot_of t f at) w
with_slot (returned.Bad e) f at w = w

-- NoValue: a path of a function with a result, other than `main`, may reach its closing brace
abbrev pub no_value : Returned → Bool → Flow → ℕ → List Fault
no_value returned.Nothing of_main flow at = []
no_value (returned.Value t) of_main flow at = unless (of_main || not flow.ends) rule.NoValue at
no_value (returned.Bad f) of_main flow at = []

abbrev pub result_or_none : Returned → Option Ty
result_or_none returned.Nothing = None
result_or_none (returned.Value t) = Some t
result_or_none (returned.Bad f) = None

-- the offset of a body's closing brace
abbrev pub brace_of : Block → ℕ
brace_of b = (out-Block b).end - 1

abbrev pub fun_of : Head → Returned → List ℕ → MadeBlock → FunDef
fun_of h t params b =
    record { name = text_or_none h.result.name; result = result_or_none t; params = params; body = b; at = naming h.result }

abbrev pub with_fun : FunDef → Walk → Walk
with_fun d w = record w { funs = w.funs ++ d ∷ [] }

-- behind a body: its names are forgotten, then comes the slot
abbrev pub ended : Block → Returned → ℕ → ℕ → FunDef → Walk → Walk
ended body t names f d w =
    with_fun d
    (noted (no_value t (is_main d.name) (flow_of d.body) (brace_of body)) (with_slot t f (brace_of body) (closed names w)))

abbrev pub body_ended : Head → Block → Returned → ℕ → ℕ → List ℕ → Walk × MadeBlock → Walk
body_ended h body t names f params b = ended body t names f (fun_of h t params b.1) b.0

abbrev pub body_behind : Head → Block → Returned → ℕ → ℕ → Walk × List ℕ → Walk
body_behind h body t names f r = body_ended h body t names f r.1 (walked_block body (body_nesting f t) r.0)

abbrev pub params_behind : Head → Block → ℕ → Walk × Returned → Walk
params_behind h body f r = body_behind h body r.1 (length r.0.scope.names) f (each (walked_param f) h.params r.0)

-- functions are numbered by the order of their definitions
abbrev pub walked_fun : Head → Block → Walk → Walk
walked_fun h body w = params_behind h body (length w.funs) (walked_heading h true w)

abbrev pub walked_proto : Head → Walk → Walk
walked_proto h w = (walked_heading h false w).0
