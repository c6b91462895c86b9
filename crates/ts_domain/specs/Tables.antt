-- Keys by which the edges of a graph look up functions, variables, sites and contexts, and what their rows are.
use Rattle.std.specs.Prelude.{◌≡◌, ℕ, List, [], slice_get, Option, None, Some, if◌then◌else◌}
use Rattle.std.specs.Option.{option_and_then}
use Rattle.c_tree.specs.declared.program.Home.{Home}
use Rattle.c_tree.specs.declared.program.Home.TheVariants as home
use Rattle.c_tree.specs.declared.program.VarDef.{VarDef}
use Rattle.c_graph.specs.declared.graph.Edge.{Edge}
use Rattle.c_graph.specs.declared.graph.Graph.{Graph}
use Rattle.c_graph.specs.Executes.{callee_at, ctx_at, function_of}
use Rattle.c_graph.specs.Moves.{enters}
use Rattle.ts_domain.specs.declared.names.Names.{Names}
use Rattle.ts_domain.specs.declared.tables.Tables.{Tables}
use Rattle.ts_domain.specs.Deeds.{site_of}
use Rattle.ts_domain.specs.Pointers.{parameters, owned}
use Rattle.ts_domain.specs.Rows.{row}

-- the function that a variable is a parameter of
abbrev pub parameter_key : Home → Option ℕ
parameter_key (home.Global n) = None
parameter_key (home.Param f) = Some f
parameter_key (home.Local f) = None
parameter_key (home.Result f) = None

abbrev pub decl_parameter : VarDef → Option ℕ
decl_parameter v = parameter_key v.home

-- the function that a variable is of
abbrev pub owner_key : Home → Option ℕ
owner_key (home.Global n) = None
owner_key (home.Param f) = Some f
owner_key (home.Local f) = Some f
owner_key (home.Result f) = Some f

abbrev pub owner_of : Names → ℕ → Option ℕ
owner_of n x = option_and_then (λ (v : VarDef). owner_key v.home) (slice_get n.decls x)

-- the context that an edge leads into
abbrev pub entered : Graph → Edge → Option ℕ
entered g e = if enters e.way then ctx_at g e.to else None

-- the function that the edge of that place calls
abbrev pub callee_of_edge : Graph → ℕ → Option ℕ
callee_of_edge g place = option_and_then (λ (e : Edge). callee_at g e.from) (slice_get g.edges place)

abbrev pub callee_by : Graph → Option ℕ → Option ℕ
callee_by g o = option_and_then (callee_of_edge g) o

-- the row of a function, if there is one
abbrev pub row_any : List (List ℕ) → Option ℕ → List ℕ
row_any rows None = []
row_any rows (Some f) = row rows f

-- the tables of names and a graph
pub record AreTables (n : Names) (g : Graph) (t : Tables) : Type 0 where
  pub parameters : (f : ℕ) → row t.parameters f ≡ parameters n f
  pub owned : (f : ℕ) → row t.owned f ≡ owned n f
  pub sites : (v : ℕ) → slice_get (row t.sites v) 0 ≡ site_of n v
  pub functions : (k : ℕ) → callee_by g (slice_get (row t.entering k) 0) ≡ function_of g k
