-- A graph that grows node by node, and where edges lead by number.
use Rattle.std.specs.Prelude.{ℕ, Bool, true, false, List, [], ◌∷◌, ◌++◌, map, length, slice_get, option_map, Option, Some, None}
use Rattle.c_tree.specs.declared.program.Program.{Program}
use Rattle.c_meaning.specs.Place.{Spot, AtGap, AtAction, Nowhere, result_slot}
use Rattle.call_contexts.specs.declared.context.Ctx.{Ctx}
use Rattle.call_contexts.specs.Contexts.{home_of}
use Rattle.c_graph.specs.Actions.{action_of}
use Rattle.c_graph.specs.declared.graph.Way.TheVariants as way
use Rattle.c_graph.specs.declared.graph.NodeKind.{NodeKind}
use Rattle.c_graph.specs.declared.graph.NodeKind.TheVariants as kind
use Rattle.c_graph.specs.declared.graph.Edge.{Edge}
use Rattle.c_graph.specs.declared.graph.Graph.{Graph}
use Rattle.c_graph.specs.Nodes.{In, Lead, lead, next_at, Placed, on_leads, leads_of, return_leads, number_of, edges_from}
use Rattle.cfg_lower.specs.declared.tables.Step.{Step}
use Rattle.cfg_lower.specs.declared.tables.Here.{Here}

-- an edge without its first node
abbrev pub step_of : Program → List Ctx → Lead → Step
step_of p cs l = record { to = number_of p cs l.to; way = l.way }

abbrev pub edge_by : ℕ → Step → Edge
edge_by v s = record { from = v; to = s.to; way = s.way }

-- context k of function f
abbrev pub here_of : Program → List Ctx → ℕ → ℕ → Here
here_of p cs k f = record { ctx = k; fun = f; slot = result_slot p f; back = option_map (λ h. map (step_of p cs) (return_leads p h.0 h.1 (slice_get cs h.0))) (home_of cs k) }

-- a graph with more nodes behind its own, and the edges from these
abbrev pub grown : Program → List Ctx → Graph → List Placed → Graph
grown p cs g xs = record { nodes = g.nodes ++ map (λ x. x.node) xs; edges = g.edges ++ edges_from p cs (length g.nodes) xs }

-- where control goes on from what stands at a path
abbrev pub leads_at : Program → List Ctx → ℕ → ℕ → List ℕ → Spot → List Lead
leads_at p cs k f path (AtGap g) = on_leads p k f path
leads_at p cs k f path (AtAction a) = leads_of p cs k f path a
leads_at p cs k f path Nowhere = []

-- what stands at a node
abbrev pub kind_at : Spot → Option NodeKind
kind_at (AtGap g) = Some (kind.Gap g.number g.frees)
kind_at (AtAction a) = Some (kind.Act (action_of a))
kind_at Nowhere = None

-- what a test says, where one answer is known before the run, and else both
abbrev pub said_by : Option Bool → List Bool
said_by None = true ∷ false ∷ []
said_by (Some b) = b ∷ []

-- where edges lead from a malloc
abbrev pub malloc_leads : Program → ℕ → ℕ → List ℕ → List Lead
malloc_leads p k f path = lead way.Made (In k (next_at p f None path)) ∷ lead way.NotMade (In k (next_at p f None path)) ∷ []
