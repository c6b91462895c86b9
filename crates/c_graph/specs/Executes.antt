-- What control does over an edge to the store of a machine, by kinds of edges; and what else may come of a node. Analyses state on
-- it what is true of a run.
use Rattle.std.specs.Prelude.{◌≡◌, ℕ, ◌==◌, ◌&&◌, Bool, true, false, not, ℤ, pos, negsuc, List, [], ◌∷◌, ◌++◌, drop, length, slice_get, option_map, Option, None, Some, Ok, Err}
use Rattle.std.specs.List.{Contains, find}
use Rattle.std.specs.Option.{option_and_then}
use Rattle.c_tree.specs.Typing.{has}
use Rattle.c_tree.specs.declared.expr.Expr.{Expr}
use Rattle.c_tree.specs.declared.program.Free.{Free}
use Rattle.c_tree.specs.declared.program.Right.TheVariants as right
use Rattle.c_tree.specs.declared.program.Simple.{Simple}
use Rattle.c_tree.specs.declared.program.Size.{Size}
use Rattle.c_tree.specs.declared.program.Program.{Program}
use Rattle.c_meaning.specs.declared.value.Value.{Value}
use Rattle.c_meaning.specs.declared.value.Value.TheVariants as value
use Rattle.c_meaning.specs.declared.machine.Location.{Location}
use Rattle.c_meaning.specs.declared.machine.Location.TheVariants.{Slot}
use Rattle.c_meaning.specs.declared.machine.Kind.{Kind}
use Rattle.c_meaning.specs.declared.machine.Ending.TheVariants.{Fault}
use Rattle.c_meaning.specs.declared.machine.Stop.TheVariants.{Faulted, Excluded}
use Rattle.c_meaning.specs.Eval.{◌>>=◌, truth, int_of, eval, eval_all, place_of}
use Rattle.c_meaning.specs.Machine.{Store, stored}
use Rattle.c_meaning.specs.Parts.{Instruction}
use Rattle.c_meaning.specs.Effects.{is_over, all_freed, target_location, answered, new_value, count_of, fails_next, born, fetched, low_byte, written, ints_of, printed, bound, parameters_of, value_of, attempt, back, ended}
use Rattle.c_graph.specs.declared.graph.Action.{Action}
use Rattle.c_graph.specs.declared.graph.Action.TheVariants as action
use Rattle.c_graph.specs.declared.graph.Way.{Way}
use Rattle.c_graph.specs.declared.graph.Way.TheVariants as way
use Rattle.c_graph.specs.declared.graph.Node.{Node}
use Rattle.c_graph.specs.declared.graph.NodeKind.{NodeKind}
use Rattle.c_graph.specs.declared.graph.NodeKind.TheVariants.{Gap, Act, Exit}
use Rattle.c_graph.specs.declared.graph.Edge.{Edge}
use Rattle.c_graph.specs.declared.graph.Graph.{Graph}
use Rattle.c_graph.specs.Actions.{instruction_of}
use Rattle.c_graph.specs.Moves.{At, stands, enters}

-- the function that an edge leads back from, by the graph alone

-- the context of a node
abbrev pub ctx_at : Graph → ℕ → Option ℕ
ctx_at g v = option_map (λ n. n.ctx) (slice_get g.nodes v)

-- the function that an action calls
abbrev pub callee_in : Action → Option ℕ
callee_in (action.Call callee arguments) = Some callee
callee_in a = None

-- the function that what stands at a node calls
abbrev pub callee_in_kind : NodeKind → Option ℕ
callee_in_kind (Act a) = callee_in a
callee_in_kind (Gap number frees) = None
callee_in_kind (Exit offset) = None

-- the function that a node calls
abbrev pub callee_at : Graph → ℕ → Option ℕ
callee_at g v = option_and_then (λ n. callee_in_kind n.kind) (slice_get g.nodes v)

-- whether an edge leads into context k
abbrev pub enters_into : Graph → ℕ → Edge → Bool
enters_into g k e = enters e.way && has (λ j. j == k) (ctx_at g e.to)

-- the function of context k, by the call whose edge leads into it; no call leads into that of `main`
abbrev pub function_of : Graph → ℕ → Option ℕ
function_of g k = option_and_then (λ e. callee_at g e.from) (find (enters_into g k) g.edges)

-- the function that an edge leads back from: that of the context of its first node
abbrev pub callee_of_leave : Graph → Edge → Option ℕ
callee_of_leave g e = option_and_then (function_of g) (ctx_at g e.from)

-- what edges do

-- a malloc takes the next entry of the failure list
abbrev pub asked : Store → Store
asked s = record s { fails = drop 1 s.fails }

-- whether a malloc makes an object: its count isn't negative, and the failure list doesn't refuse it
abbrev pub is_granted : ℤ → List Bool → Bool
is_granted (pos n) fails = not (fails_next fails)
is_granted (negsuc n) fails = false

-- what stands at a node does that to the store s over an edge of that way; `left` is the function that the edge leads back from
pub data Does (p : Program) (left : Option ℕ) (s : Store) : NodeKind → Way → Store → Type 0 where
  -- the frees of a gap, all of them without a fault
  frees : (number : ℕ) (list : List Free) → is_over (all_freed list s).ending ≡ false → Does p left s (Gap number list) way.On (all_freed list s)
  -- a declared variable is indeterminate
  unsets : (x : ℕ) → Does p left s (Act (action.Unset x)) way.On (stored (Slot x) value.Undef s)
  -- a place gets a value
  assigns : (a : Simple) (e : Expr) (l : Location) (v : Value) → a.right ≡ right.Plain e → place_of s.slots s.objects a.place ≡ Ok l → new_value s a.op a.at a.place e l ≡ Ok v →
      Does p left s (Act (action.Assign a)) way.On (stored l v s)
  -- an object is born, behind all others, and a pointer to it goes to the place
  makes : (place : Option Expr) (size : Size) (offset : ℕ) (l : Option Location) (n : ℕ) → target_location s place ≡ Ok l → count_of p s size ≡ Ok (pos n) → is_granted (pos n) s.fails ≡ true →
      Does p left s (Act (action.Malloc place size offset)) way.Made (answered l (value.Ptr (length s.objects)) (born n (asked s)))
  -- or a null pointer goes there
  makes_none : (place : Option Expr) (size : Size) (offset : ℕ) (l : Option Location) (n : ℤ) → target_location s place ≡ Ok l → count_of p s size ≡ Ok n → is_granted n s.fails ≡ false →
      Does p left s (Act (action.Malloc place size offset)) way.NotMade (answered l value.Null (asked s))
  -- a byte of the input goes to the place
  gets : (place : Option Expr) (l : Option Location) → target_location s place ≡ Ok l → Does p left s (Act (action.Getchar place)) way.On (fetched l s)
  -- a byte is written
  puts : (e : Expr) (n : ℤ) → (eval s.slots s.objects e >>= int_of) ≡ Ok n → Does p left s (Act (action.Putchar e)) way.On (written (low_byte n ∷ []) s)
  -- a text is written
  prints : (text : List ℕ) (arguments : List Expr) (bytes : List ℕ) → (eval_all s.slots s.objects arguments >>= ints_of >>= printed text) ≡ Ok bytes →
      Does p left s (Act (action.Printf text arguments)) way.On (written bytes s)
  -- a test holds, or fails
  holds : (e : Expr) → (eval s.slots s.objects e >>= truth) ≡ Ok true → Does p left s (Act (action.Test e)) way.True s
  fails : (e : Expr) → (eval s.slots s.objects e >>= truth) ≡ Ok false → Does p left s (Act (action.Test e)) way.False s
  -- the parameters of the callee get the arguments' values, in order
  calls : (callee : ℕ) (arguments : List Expr) (values : List Value) → eval_all s.slots s.objects arguments ≡ Ok values →
      Does p left s (Act (action.Call callee arguments)) way.Enter (bound (parameters_of p callee) values s)
  -- the target gets the returned value, and the variables of the function that is left are indeterminate
  returns : (e : Option Expr) (v : Option Value) (f : ℕ) (target : Option ℕ) → left ≡ Some f → value_of s e ≡ Ok v → Does p left s (Act (action.Return e)) (way.Leave target) (back p f target v s)
  closes : (f : ℕ) (target : Option ℕ) → left ≡ Some f → Does p left s (Act action.Close) (way.Leave target) (back p f target None s)
  -- the run ends with the value that `main` returns, and with 0 behind its closing brace
  ends : (e : Option Expr) (v : Option Value) → value_of s e ≡ Ok v → Does p left s (Act (action.Return e)) way.On (ended v s)
  ends_last : Does p left s (Act action.Close) way.On (ended None s)

-- control goes over edge e of a graph, and what stands at its first node makes the store t of s
pub record Executes (p : Program) (g : Graph) (e : Edge) (s t : Store) : Type 0 where
  pub node : Node
  pub stands : slice_get g.nodes e.from ≡ Some node
  pub does : Does p (callee_of_leave g e) s node.kind e.way t

-- what else may come of a node

-- what stands at a node ends the run with a fault
pub data Faults (p : Program) (s : Store) : NodeKind → Store → Type 0 where
  -- by one of the frees of a gap, the first that has a fault
  by_free : (number : ℕ) (list : List Free) (kind : Kind) (offset : ℕ) → (all_freed list s).ending ≡ Fault kind offset true → Faults p s (Gap number list) (all_freed list s)
  -- by an action
  by_action : (a : Action) (i : Instruction) (kind : Kind) (offset : ℕ) → instruction_of a ≡ Some i → attempt p i s ≡ Err (Faulted kind offset) →
      Faults p s (Act a) (record s { ending = Fault kind offset false })

-- nothing comes of what stands at a node: it is an exit, or the types exclude what the action meets
pub data Rests (p : Program) (s : Store) : NodeKind → Type 0 where
  exit : (offset : ℕ) → Rests p s (Exit offset)
  excludes : (a : Action) (i : Instruction) → instruction_of a ≡ Some i → attempt p i s ≡ Err Excluded → Rests p s (Act a)

-- what comes of node v of a graph with a store whose run has not ended
pub data Comes (p : Program) (g : Graph) (v : ℕ) (s : Store) : At Store → Type 0 where
  -- control goes over an edge from there
  goes : (e : Edge) (t : Store) → Contains g.edges e → e.from ≡ v → Executes p g e s t → Comes p g v s (stands e.to t)
  -- the run ends there with a fault
  faults : (n : Node) (t : Store) → slice_get g.nodes v ≡ Some n → Faults p s n.kind t → Comes p g v s (stands v t)
  -- nothing changes
  rests : (n : Node) → slice_get g.nodes v ≡ Some n → Rests p s n.kind → Comes p g v s (stands v s)
  -- nor where control is past all nodes
  past : slice_get g.nodes v ≡ None → Comes p g v s (stands v s)
  -- control would be lost behind the closing brace of a function with a result, where no edge leads on and it doesn't come (6.9.1p12)
  is_lost : (n : Node) → slice_get g.nodes v ≡ Some n → n.kind ≡ Act action.Close → ((e : Edge) → Contains g.edges e → e.from ≡ v → ⊥) → Comes p g v s (stands (length g.nodes) s)

-- sites

-- the sites of objects behind an edge: a Made edge adds its first node
abbrev pub sites_by : ℕ → Way → List ℕ → List ℕ
sites_by v way.Made sites = sites ++ v ∷ []
sites_by v w sites = sites

-- the same, of an edge
abbrev pub sites_over : Edge → List ℕ → List ℕ
sites_over e sites = sites_by e.from e.way sites
