-- The control flow graph of a program in its contexts: the places of each context's function, and where each leads.
use Rattle.std.specs.Prelude.{ℕ, suc, ◌+◌, ◌==◌, ◌&&◌, Bool, true, false, not, List, [], ◌∷◌, ◌++◌, map, slice_get, unwrap_or, option_map, Option, Some, None, if◌then◌else◌}
use Rattle.std.specs.List.{flat_map}
use Rattle.c_tree.specs.declared.expr.Expr.{Expr, Expr-F, out-Expr}
use Rattle.c_tree.specs.declared.expr.Expr.TheOpen as layer
use Rattle.c_tree.specs.declared.program.Program.{Program}
use Rattle.c_meaning.specs.Parts.{Instruction, Malloc, Test, Invoke, Return, Close}
use Rattle.c_meaning.specs.Eval.{is_zero}
use Rattle.c_meaning.specs.Place.{Spot, AtGap, AtAction, Nowhere, spot_in_fun, next_in_fun, places_in_fun}
use Rattle.call_contexts.specs.declared.context.Ctx.{Ctx}
use Rattle.call_contexts.specs.Contexts.{callee_of, home_of}
use Rattle.c_graph.specs.declared.graph.Way.{Way}
use Rattle.c_graph.specs.declared.graph.Way.TheVariants as way
use Rattle.c_graph.specs.declared.graph.Node.{Node}
use Rattle.c_graph.specs.declared.graph.NodeKind.TheVariants.{Gap, Act, Exit}
use Rattle.c_graph.specs.declared.graph.Edge.{Edge}
use Rattle.c_graph.specs.declared.graph.Graph.{Graph}
use Rattle.c_graph.specs.Actions.{action_of}

-- the places of functions

-- what stands at a path in function f
abbrev pub spot_at : Program → ℕ → List ℕ → Spot
spot_at p f path = spot_in_fun p f (slice_get p.funs f) path

-- what follows a path in function f, behind a test by what it says
abbrev pub next_at : Program → ℕ → Option Bool → List ℕ → List ℕ
next_at p f said path = next_in_fun p f (slice_get p.funs f) said path

-- the places of function f, in the order of the text
abbrev pub places : Program → ℕ → List (List ℕ)
places p f = unwrap_or (option_map (places_in_fun p f) (slice_get p.funs f)) []

-- where edges lead

-- what an edge leads to: a place of the function of a context, or the exit behind that place of `main`
pub data Symbol : Type 0 where
  In : (ctx : ℕ) (path : List ℕ) → Symbol
  Out : (path : List ℕ) → Symbol

-- an edge without numbers
pub record Lead : Type 0 where
  pub way : Way
  pub to : Symbol

abbrev pub lead : Way → Symbol → Lead
lead w to = record { way = w; to = to }

-- what an atomic test can say: an integer constant says whether it isn't 0 (6.8.4.1p2), all others can say both
abbrev pub says_layer : Expr-F Expr → List Bool
says_layer (layer.Const n offset) = not (is_zero n) ∷ []
says_layer e = true ∷ false ∷ []

abbrev pub says : Expr → List Bool
says e = says_layer (out-Expr e)

abbrev pub way_said : Bool → Way
way_said true = way.True
way_said false = way.False

-- on in the same context
abbrev pub on_leads : Program → ℕ → ℕ → List ℕ → List Lead
on_leads p k f path = lead way.On (In k (next_at p f None path)) ∷ []

-- into the first gap of a callee
abbrev pub enter_leads : Option ℕ → List Lead
enter_leads None = []
enter_leads (Some j) = lead way.Enter (In j (0 ∷ [])) ∷ []

-- back to what follows call n, where it stands at a path of function f in context k
abbrev pub back_leads : Program → ℕ → ℕ → ℕ → List ℕ → Spot → List Lead
back_leads p k f n path (AtAction (Invoke number callee arguments target)) = if number == n then lead (way.Leave target) (In k (next_at p f None path)) ∷ [] else []
back_leads p k f n path spot = []

-- back to context k, to what follows its call n
abbrev pub return_leads : Program → ℕ → ℕ → Option Ctx → List Lead
return_leads p k n None = []
return_leads p k n (Some c) = flat_map (λ path. back_leads p k c.fun n path (spot_at p c.fun path)) (places p c.fun)

-- back from a context to where it was called from, and from `main` to an exit
abbrev pub leave_leads : Program → List Ctx → List ℕ → Option (ℕ × ℕ) → List Lead
leave_leads p cs path None = lead way.On (Out path) ∷ []
leave_leads p cs path (Some home) = return_leads p home.0 home.1 (slice_get cs home.0)

-- where an instruction at a path of function f leads, in context k
abbrev pub leads_of : Program → List Ctx → ℕ → ℕ → List ℕ → Instruction → List Lead
leads_of p cs k f path (Test e) = map (λ b. lead (way_said b) (In k (next_at p f (Some b) path))) (says e)
leads_of p cs k f path (Malloc place size offset) = lead way.Made (In k (next_at p f None path)) ∷ lead way.NotMade (In k (next_at p f None path)) ∷ []
leads_of p cs k f path (Invoke number callee arguments target) = enter_leads (callee_of cs k number)
leads_of p cs k f path (Return value offset) = leave_leads p cs path (home_of cs k)
leads_of p cs k f path (Close true offset) = leave_leads p cs path (home_of cs k)
leads_of p cs k f path (Close false offset) = []
leads_of p cs k f path a = on_leads p k f path

-- nodes

-- a node before it has a number: what edges that lead to it name, and where it leads
pub record Placed : Type 0 where
  pub symbol : Symbol
  pub node : Node
  pub leads : List Lead

-- the node of what stands at a path of function f in context k
abbrev pub placed_at : Program → List Ctx → ℕ → ℕ → List ℕ → Spot → List Placed
placed_at p cs k f path (AtGap g) = record { symbol = In k path; node = record { ctx = k; kind = Gap g.number g.frees }; leads = on_leads p k f path } ∷ []
placed_at p cs k f path (AtAction a) = record { symbol = In k path; node = record { ctx = k; kind = Act (action_of a) }; leads = leads_of p cs k f path a } ∷ []
placed_at p cs k f path Nowhere = []

-- the nodes of function f in context k, in the order of the text
abbrev pub placed_in : Program → List Ctx → ℕ → ℕ → List Placed
placed_in p cs k f = flat_map (λ path. placed_at p cs k f path (spot_at p f path)) (places p f)

-- those of contexts in turn, the first of which has the number k
abbrev pub placed_from : Program → List Ctx → ℕ → List Ctx → List Placed
placed_from p cs k [] = []
placed_from p cs k (c ∷ rest) = placed_in p cs k c.fun ++ placed_from p cs (k + 1) rest

-- the exit behind a place of `main`, whose context is 0
abbrev pub exit_of : List ℕ → ℕ → Placed
exit_of path offset = record { symbol = Out path; node = record { ctx = 0; kind = Exit offset }; leads = [] }

-- there is one behind each return, and one behind the closing brace
abbrev pub exit_at : List ℕ → Spot → List Placed
exit_at path (AtAction (Return value offset)) = exit_of path offset ∷ []
exit_at path (AtAction (Close goes_back offset)) = exit_of path offset ∷ []
exit_at path spot = []

abbrev pub exits : Program → List Placed
exits p = flat_map (λ path. exit_at path (spot_at p p.main path)) (places p p.main)

-- the nodes of all contexts, and then the exits
abbrev pub all_placed : Program → List Ctx → List Placed
all_placed p cs = placed_from p cs 0 cs ++ exits p

-- numbers

abbrev pub same_path : List ℕ → List ℕ → Bool
same_path [] [] = true
same_path [] (j ∷ qs) = false
same_path (i ∷ ps) [] = false
same_path (i ∷ ps) (j ∷ qs) = i == j && same_path ps qs

abbrev pub same_symbol : Symbol → Symbol → Bool
same_symbol (In k ps) (In j qs) = k == j && same_path ps qs
same_symbol (In k ps) (Out qs) = false
same_symbol (Out ps) (In j qs) = false
same_symbol (Out ps) (Out qs) = same_path ps qs

-- the number of elements before the first that passes
abbrev pub index_of : {A : Type 0} → (A → Bool) → List A → ℕ
index_of passes [] = 0
index_of passes (x ∷ xs) = if passes x then 0 else suc (index_of passes xs)

-- the number of a node: its place among all. Where nothing stands, it is past all nodes, and no edge of a well-formed program
-- leads there
abbrev pub number_of : Program → List Ctx → Symbol → ℕ
number_of p cs to = index_of (λ x. same_symbol x.symbol to) (all_placed p cs)

-- edges

abbrev pub edge_of : Program → List Ctx → ℕ → Lead → Edge
edge_of p cs v l = record { from = v; to = number_of p cs l.to; way = l.way }

-- the edges from nodes in turn, the first of which has the number v
abbrev pub edges_from : Program → List Ctx → ℕ → List Placed → List Edge
edges_from p cs v [] = []
edges_from p cs v (x ∷ xs) = map (edge_of p cs v) x.leads ++ edges_from p cs (v + 1) xs

-- the graph of a program in contexts
abbrev pub graph : Program → List Ctx → Graph
graph p cs = record { nodes = map (λ x. x.node) (all_placed p cs); edges = edges_from p cs 0 (all_placed p cs) }
