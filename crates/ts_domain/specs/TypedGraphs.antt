-- Graphs whose actions have right types, and whose calls are apart from their callees.
use Rattle.std.specs.Prelude.{◌≡◌, ℕ, ◌==◌, ◌&&◌, ◌||◌, Bool, true, false, List, slice_get, Option, Some}
use Rattle.std.specs.List.{Contains, list_all}
use Rattle.std.specs.Option.{is_some, option_and_then}
use Rattle.c_tree.specs.AlikeTest.{same_ty}
use Rattle.c_tree.specs.Typing.{Declarations, declarations, has, if_any, var_type, goes_into, gives_int, sort_of, type_of, simple_fits, arguments_fit}
use Rattle.c_tree.specs.declared.expr.Expr.{Expr, Expr-F, fold-Expr}
use Rattle.c_tree.specs.declared.expr.Expr.TheOpen.{Const, Null, Var, Field, Deref, Index, Unary, Binary}
use Rattle.c_tree.specs.declared.program.Program.{Program}
use Rattle.c_tree.specs.declared.program.Size.{Size}
use Rattle.c_tree.specs.declared.program.Size.TheVariants as size
use Rattle.c_tree.specs.declared.program.Ty.{Ty}
use Rattle.c_tree.specs.declared.program.Ty.TheVariants as ty
use Rattle.c_meaning.specs.Effects.{parameters_of}
use Rattle.c_graph.specs.declared.graph.Action.{Action}
use Rattle.c_graph.specs.declared.graph.Action.TheVariants as action
use Rattle.c_graph.specs.declared.graph.Edge.{Edge}
use Rattle.c_graph.specs.declared.graph.Graph.{Graph}
use Rattle.c_graph.specs.declared.graph.NodeKind.TheVariants as kind
use Rattle.c_graph.specs.declared.graph.Way.TheVariants as way
use Rattle.ts_domain.specs.Views.{size_type}

-- an answer of that type goes into the place, if there is one
abbrev pub answer_fits : Declarations → Ty → Option Expr → Bool
answer_fits d t place = if_any (λ e. has (same_ty t) (option_and_then type_of (sort_of d e))) place

-- a count is a number
abbrev pub count_fits : Declarations → Size → Bool
count_fits d (size.Fields s) = true
count_fits d (size.Ints count) = if_any (gives_int d) count

-- the parts of an action have right types
abbrev pub action_fits : Declarations → Action → Bool
action_fits d (action.Unset x) = true
action_fits d (action.Assign s) = simple_fits d s
action_fits d (action.Malloc place s at) = answer_fits d (size_type s) place && count_fits d s
action_fits d (action.Getchar place) = answer_fits d ty.Int place
action_fits d (action.Putchar e) = gives_int d e
action_fits d (action.Printf text es) = list_all (gives_int d) es
action_fits d (action.Test e) = is_some (sort_of d e)
action_fits d (action.Call f es) = has (λ x. arguments_fit d x.params es) (slice_get d.funs f)
action_fits d (action.Return value) = if_any (λ e. is_some (sort_of d e)) value
action_fits d action.Close = true

-- all actions have right types, and a returned value has the type of the variable that it goes to
pub record HasTypedActions (p : Program) (g : Graph) : Type 0 where
  pub actions : (v k : ℕ) (a : Action) → slice_get g.nodes v ≡ Some (record { ctx = k; kind = kind.Act a }) → action_fits (declarations p) a ≡ true
  pub returns : (e : Edge) (k x : ℕ) (value : Expr) → Contains g.edges e → slice_get g.nodes e.from ≡ Some (record { ctx = k; kind = kind.Act (action.Return (Some value)) }) → e.way ≡ way.Leave (Some x) →
      has (λ t. has (goes_into t) (sort_of (declarations p) value)) (var_type (declarations p) x) ≡ true

-- whether an expression mentions variable x
abbrev pub mentions_layer : ℕ → Expr-F Bool → Bool
mentions_layer x (Const v at) = false
mentions_layer x (Null at) = false
mentions_layer x (Var y at) = y == x
mentions_layer x (Field e f at) = e
mentions_layer x (Deref e at) = e
mentions_layer x (Index e i at) = e || i
mentions_layer x (Unary o e at) = e
mentions_layer x (Binary o a b at) = a || b

abbrev pub mentions : ℕ → Expr → Bool
mentions x = fold-Expr Bool (mentions_layer x)

-- no argument of a call mentions a parameter of the callee (6.2.1p4)
pub record HasCallsApart (p : Program) (g : Graph) : Type 0 where
  pub apart : (v k f x : ℕ) (e : Expr) (es : List Expr) → slice_get g.nodes v ≡ Some (record { ctx = k; kind = kind.Act (action.Call f es) }) → Contains (parameters_of p f) x → Contains es e → mentions x e ≡ false
