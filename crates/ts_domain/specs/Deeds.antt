-- What the action at a node does to pointers over one of its edges: what it reads, what its test says, what it writes.
use Rattle.std.specs.Prelude.{ℕ, ◌==◌, Bool, true, false, not, List, [], ◌∷◌, ◌++◌, slice_get, option_map, position, Option, None, Some, if◌then◌else◌}
use Rattle.std.specs.List.{flat_map}
use Rattle.std.specs.Option.{option_and_then, is_some}
use Rattle.c_tree.specs.declared.expr.Expr.{Expr, Expr-F, out-Expr}
use Rattle.c_tree.specs.declared.expr.Expr.TheOpen.{Const, Null, Var, Field, Binary}
use Rattle.c_tree.specs.declared.expr.Op.{Op}
use Rattle.c_tree.specs.declared.expr.Op.TheVariants as op
use Rattle.c_tree.specs.declared.expr.Oper.{Oper}
use Rattle.c_tree.specs.declared.expr.Oper.TheVariants as oper
use Rattle.c_tree.specs.declared.program.Right.{Right}
use Rattle.c_tree.specs.declared.program.Right.TheVariants as right
use Rattle.c_tree.specs.declared.program.Simple.{Simple}
use Rattle.c_tree.specs.declared.program.Size.{Size}
use Rattle.c_tree.specs.declared.program.Size.TheVariants as size
use Rattle.c_tree.specs.declared.program.Ty.{Ty}
use Rattle.c_tree.specs.declared.program.Ty.TheVariants as ty
use Rattle.c_meaning.specs.Eval.{is_zero}
use Rattle.c_graph.specs.declared.graph.Action.{Action}
use Rattle.c_graph.specs.declared.graph.Action.TheVariants as action
use Rattle.c_graph.specs.declared.graph.Edge.{Edge}
use Rattle.c_graph.specs.declared.graph.Graph.{Graph}
use Rattle.c_graph.specs.declared.graph.Node.{Node}
use Rattle.c_graph.specs.declared.graph.NodeKind.{NodeKind}
use Rattle.c_graph.specs.declared.graph.NodeKind.TheVariants as kind
use Rattle.c_graph.specs.Executes.{callee_in, function_of}
use Rattle.c_graph.specs.declared.graph.Way.{Way}
use Rattle.c_graph.specs.declared.graph.Way.TheVariants as way
use Rattle.ts_domain.specs.declared.deed.Deed.{Deed}
use Rattle.ts_domain.specs.declared.deed.Deed.TheVariants.{Says, Sets, SetsField}
use Rattle.ts_domain.specs.declared.deed.Looked.{Looked}
use Rattle.ts_domain.specs.declared.edges.Binding.{Binding}
use Rattle.ts_domain.specs.declared.deed.Looked.TheVariants as looked
use Rattle.ts_domain.specs.declared.deed.Saying.TheVariants.{IsNull, IsntNull, AreEqual, Differ}
use Rattle.ts_domain.specs.declared.deed.Source.{Source}
use Rattle.ts_domain.specs.declared.deed.Source.TheVariants as source
use Rattle.ts_domain.specs.declared.names.Names.{Names}
use Rattle.ts_domain.specs.declared.names.Read.{Read}
use Rattle.ts_domain.specs.declared.names.Read.TheVariants as read
use Rattle.ts_domain.specs.declared.pointers.Pointer.{Pointer}
use Rattle.ts_domain.specs.Pointers.{place_of, field_pointer, parameters, owned}
use Rattle.ts_domain.specs.Looks.{pointer_of, within, value_deeds, notes}

-- sources

-- what is looked at, behind that many noted reads
abbrev pub looked_at : ℕ → Read → Looked
looked_at n (read.Name k) = looked.Name k
looked_at n (read.Deep s f) = looked.Deep s f n

-- a null pointer, written as `NULL` or as the constant 0 (6.3.2.3p3)
abbrev pub is_null_layer : Expr-F Expr → Bool
is_null_layer (Null at) = true
is_null_layer (Const v at) = is_zero v
is_null_layer _ = false

abbrev pub is_null : Expr → Bool
is_null e = is_null_layer (out-Expr e)

-- what the value of an expression is, if it is a pointer, where these deeds come before its own read
abbrev pub content : List Deed → Option Pointer → Option Source
content before p = option_map (λ (p : Pointer). source.Content (looked_at (notes before) p.read)) p

abbrev pub source_behind : Names → List Deed → Expr → Option Source
source_behind n before e = if is_null e then Some source.Null else content before (pointer_of n e)

-- the same, where these deeds come before the expression
abbrev pub source_of : Names → List Deed → Expr → Option Source
source_of n before e = source_behind n (before ++ within n e) e

-- writes

-- a write to a variable, if it is a pointer
abbrev pub sets : Option ℕ → Source → List Deed
sets None v = []
sets (Some k) v = Sets k v ∷ []

-- a write to a field of a struct
abbrev pub sets_field_of : Read → ℕ → Source → Ty → List Deed
sets_field_of r f v ty.Int = []
sets_field_of r f v ty.IntPtr = []
sets_field_of r f v (ty.StructPtr s) = SetsField r s f v ∷ []

-- a write to field f behind a pointer, if that field is a pointer
abbrev pub sets_field : Names → ℕ → Source → Option Pointer → List Deed
sets_field n f v None = []
sets_field n f v (Some p) = if is_some (field_pointer n f p) then sets_field_of p.read f v p.ty else []

-- a write to a place, if it is a pointer (6.5.16)
abbrev pub written_layer : Names → Source → Expr-F Expr → List Deed
written_layer n v (Var x at) = sets (place_of n x) v
written_layer n v (Field e f at) = sets_field n f v (pointer_of n e)
written_layer n v _ = []

abbrev pub written : Names → Expr → Source → List Deed
written n place v = written_layer n v (out-Expr place)

abbrev pub written_if : Names → Expr → Option Source → List Deed
written_if n place None = []
written_if n place (Some v) = written n place v

-- a write to a place, where there is one
abbrev pub written_any : Names → Option Expr → Source → List Deed
written_any n None v = []
written_any n (Some place) v = written n place v

-- parts of actions

-- what working out a place does, where there is one
abbrev pub place_deeds : Names → Option Expr → List Deed
place_deeds n None = []
place_deeds n (Some place) = within n place

-- `sizeof` reads nothing, a count is read (6.5.3.4p2)
abbrev pub size_deeds : Names → Size → List Deed
size_deeds n (size.Fields s) = []
size_deeds n (size.Ints None) = []
size_deeds n (size.Ints (Some e)) = value_deeds n false e

-- an assignment: the place, the right side, the write; a right side that is a pointer is noted
abbrev pub put_deeds : Names → Expr → Expr → List Deed
put_deeds n place e = within n place ++ value_deeds n (is_some (pointer_of n place)) e ++ written_if n place (source_of n (within n place) e)

-- a change writes no pointer
abbrev pub change_deeds : Names → Expr → Expr → List Deed
change_deeds n place e = within n place ++ value_deeds n false e

abbrev pub assign_deeds : Names → Expr → Op → Expr → List Deed
assign_deeds n place op.Put e = put_deeds n place e
assign_deeds n place op.Add e = change_deeds n place e
assign_deeds n place op.Sub e = change_deeds n place e
assign_deeds n place op.Mul e = change_deeds n place e

abbrev pub simple_deeds : Names → Simple → Right → List Deed
simple_deeds n s (right.Plain e) = assign_deeds n s.place s.op e
simple_deeds n s (right.Call c) = []

-- tests

-- an expression is the null pointer, or isn't; of a field behind a longer chain nothing is said
abbrev pub null_said_of : Bool → Read → List Deed
null_said_of true (read.Name k) = Says (IsNull k) ∷ []
null_said_of false (read.Name k) = Says (IsntNull k) ∷ []
null_said_of b (read.Deep s f) = []

abbrev pub null_said : Bool → Option Pointer → List Deed
null_said b None = []
null_said b (Some p) = null_said_of b p.read

-- two pointers are equal, or differ
abbrev pub equal_said : Bool → Looked → Looked → Deed
equal_said true r q = Says (AreEqual r q)
equal_said false r q = Says (Differ r q)

-- the two pointers of a comparison, the second behind the reads of the first
abbrev pub pair_said : Names → Bool → Expr → Expr → Option Pointer → Option Pointer → List Deed
pair_said n b e d (Some p) (Some q) = equal_said b (looked_at (notes (within n e)) p.read) (looked_at (notes (value_deeds n true e ++ within n d)) q.read) ∷ []
pair_said n b e d (Some p) None = []
pair_said n b e d None q = []

-- a comparison for equality says that it holds, or that it doesn't (6.5.9)
abbrev pub equality_said : Names → Bool → Expr → Expr → List Deed
equality_said n b e d =
    if is_null d then null_said b (pointer_of n e) else
    if is_null e then null_said b (pointer_of n d) else
    pair_said n b e d (pointer_of n e) (pointer_of n d)

abbrev pub comparison_said : Names → Bool → Oper → Expr → Expr → List Deed
comparison_said n b oper.Eq e d = equality_said n b e d
comparison_said n b oper.Ne e d = equality_said n (not b) e d
comparison_said n b o e d = []

-- what a test says of pointers where it says b; a pointer as a test says that it isn't the null pointer (6.8.4.1p2)
abbrev pub tested_layer : Names → Bool → Expr → Expr-F Expr → List Deed
tested_layer n b e (Binary o a d at) = comparison_said n b o a d
tested_layer n b e (Var x at) = null_said (not b) (pointer_of n e)
tested_layer n b e (Field a f at) = null_said (not b) (pointer_of n e)
tested_layer n b e _ = []

abbrev pub tested : Names → Bool → Expr → List Deed
tested n b e = tested_layer n b e (out-Expr e)

-- by the way on from a test
abbrev pub said : Names → Way → Expr → List Deed
said n way.True e = tested n true e
said n way.False e = tested n false e
said n w e = []

abbrev pub test_deeds : Names → Way → Expr → List Deed
test_deeds n w e = value_deeds n false e ++ said n w e

-- calls and returns

-- a write to a variable, if there is both (6.5.2.2p4)
abbrev pub bound : Option ℕ → Option Source → List Deed
bound k None = []
bound k (Some v) = sets k v

-- one argument more for its parameter, behind the reads of those before it; it is noted where the parameter is a pointer
abbrev pub bound_argument : Names → Binding → ℕ × Expr → Binding
bound_argument n b a = record {
  reads = b.reads ++ value_deeds n (is_some (place_of n a.0)) a.1;
  writes = b.writes ++ bound (place_of n a.0) (source_of n b.reads a.1);
}

abbrev pub no_binding : Binding
no_binding = record { reads = []; writes = [] }

-- arguments for parameters in order
abbrev pub bound_arguments : Names → Binding → List ℕ → List Expr → Binding
bound_arguments n b [] es = b
bound_arguments n b (x ∷ xs) [] = b
bound_arguments n b (x ∷ xs) (e ∷ es) = bound_arguments n (bound_argument n b (x, e)) xs es

-- the arguments in order, and then the parameters in order
abbrev pub call_deeds : Names → List ℕ → List Expr → List Deed
call_deeds n xs es = let b = bound_arguments n no_binding xs es in b.reads ++ b.writes

-- the variables of function f are indeterminate behind it (6.2.4p5)
abbrev pub unset : ℕ → List Deed
unset k = Sets k source.Undef ∷ []

abbrev pub all_unset : List ℕ → List Deed
all_unset ks = flat_map unset ks

-- those of a function, if there is one
abbrev pub owned_by : Names → Option ℕ → List ℕ
owned_by n None = []
owned_by n (Some f) = owned n f

-- a value is returned, to a pointer variable if that is where it goes; it is noted where it is written
abbrev pub returned : Names → Option ℕ → Expr → List Deed
returned n k e = value_deeds n (is_some k) e ++ bound k (source_of n [] e)

abbrev pub returned_any : Names → Option ℕ → Option Expr → List Deed
returned_any n k None = []
returned_any n k (Some e) = returned n k e

-- over the way back from a function whose pointer variables have these places, and out of `main`
abbrev pub return_deeds : Names → List ℕ → Option Expr → Way → List Deed
return_deeds n ks value (way.Leave target) = returned_any n (option_and_then (place_of n) target) value ++ all_unset ks
return_deeds n ks value way.On = returned_any n None value
return_deeds n ks value w = []

-- actions

-- a request gives an object of its site, or the null pointer (7.20.3.3)
abbrev pub made : Names → Option Expr → Option ℕ → Way → List Deed
made n place (Some site) way.Made = written_any n place (source.New site)
made n place site way.NotMade = written_any n place source.Null
made n place site w = []

abbrev pub malloc_deeds : Names → Option Expr → Size → Option ℕ → Way → List Deed
malloc_deeds n place size site w = place_deeds n place ++ size_deeds n size ++ made n place site w

-- the action at a node, with the node's site if it has one, the parameters of the callee if it is a call, and the pointer
-- variables of its own function
abbrev pub action_deeds : Names → Option ℕ → List ℕ → List ℕ → Way → Action → List Deed
action_deeds n site xs ks w (action.Unset x) = sets (place_of n x) source.Undef
action_deeds n site xs ks w (action.Assign s) = simple_deeds n s s.right
action_deeds n site xs ks w (action.Malloc place size at) = malloc_deeds n place size site w
action_deeds n site xs ks w (action.Getchar place) = place_deeds n place
action_deeds n site xs ks w (action.Putchar e) = value_deeds n false e
action_deeds n site xs ks w (action.Printf text es) = flat_map (value_deeds n false) es
action_deeds n site xs ks w (action.Test e) = test_deeds n w e
action_deeds n site xs ks w (action.Call g es) = call_deeds n xs es
action_deeds n site xs ks w (action.Return value) = return_deeds n ks value w
action_deeds n site xs ks w action.Close = return_deeds n ks None w

-- edges

-- the place of a node among the sites
abbrev pub site_of : Names → ℕ → Option ℕ
site_of n v = position (λ u. u == v) n.sites

-- the parameters of a function, if there is one
abbrev pub parameters_of : Names → Option ℕ → List ℕ
parameters_of n None = []
parameters_of n (Some f) = parameters n f

-- a gap does nothing to pointers, and nothing is behind an exit
abbrev pub kind_deeds : Names → Option ℕ → Option ℕ → Way → NodeKind → List Deed
kind_deeds n site f w (kind.Gap number frees) = []
kind_deeds n site f w (kind.Act a) = action_deeds n site (parameters_of n (callee_in a)) (owned_by n f) w a
kind_deeds n site f w (kind.Exit offset) = []

-- what goes over an edge does to pointers
abbrev pub node_deeds : Names → Graph → Edge → Option Node → List Deed
node_deeds n g e None = []
node_deeds n g e (Some v) = kind_deeds n (site_of n e.from) (function_of g v.ctx) e.way v.kind

abbrev pub edge_deeds : Names → Graph → Edge → List Deed
edge_deeds n g e = node_deeds n g e (slice_get g.nodes e.from)
