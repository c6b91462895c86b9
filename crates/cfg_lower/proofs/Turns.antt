-- A graph that grows place by place, over the places at which something stands.
use Rattle.std.proofs.Common.{◌≡◌, ℕ, ◌+◌, ◌≤◌, cond, List, [], ◌∷◌, ◌++◌, map, length, drop, Some, Result, Ok, Err, refl, ap, sym, ◌∙◌, flat_map}
use Rattle.std.specs.Prelude.{OnOk}
use Rattle.std.specs.List.{filter}
use Rattle.std.proofs.lemmas.List.{drop_all}
use Rattle.c_tree.specs.declared.program.Program.{Program}
use Rattle.c_meaning.specs.Place.{Spot, AtGap, AtAction, Nowhere}
use Rattle.call_contexts.specs.declared.context.Ctx.{Ctx}
use Rattle.c_graph.specs.declared.graph.Edge.{Edge}
use Rattle.c_graph.specs.declared.graph.Graph.{Graph}
use Rattle.c_graph.specs.declared.graph.Node.{Node}
use Rattle.c_graph.specs.Actions.{action_of}
use Rattle.c_graph.specs.declared.graph.NodeKind.{NodeKind}
use Rattle.c_graph.specs.declared.graph.NodeKind.TheVariants.{Gap, Act}
use Rattle.c_graph.specs.Nodes.{In, Lead, Placed, on_leads, leads_of, edge_of, placed_at, placed_in, placed_from, spot_at}
use Rattle.cfg_lower.specs.declared.source.Source.{Source}
use Rattle.cfg_lower.specs.declared.tables.Step.{Step}
use Rattle.cfg_lower.specs.Growth.{edge_by, kind_at, leads_at}
use Rattle.cfg_lower.specs.Rows.{stands}
use Rattle.cfg_lower.specs.Sources.{program_of, contexts_of, grown_in, steps_for}
use Rattle.cfg_lower.proofs.Grown.{graph_is, grown_both, grown_nothing}

module _ (p : Program) (f : ℕ) (placed : List ℕ → Spot → List Placed) (nothing : (q : List ℕ) → placed q Nowhere ≡ []) where
  abbrev at : List ℕ → List Placed
  at q = placed q (spot_at p f q)

  kept : (path : List ℕ) (spot : Spot) (qs : List (List ℕ)) (rest : List Placed) → spot_at p f path ≡ spot → flat_map at qs ≡ rest → flat_map at (cond (stands spot) (path ∷ qs) qs) ≡ at path ++ rest
  kept path (AtGap g) qs rest is e = ap (λ (xs : List Placed). at path ++ xs) e
  kept path (AtAction a) qs rest is e = ap (λ (xs : List Placed). at path ++ xs) e
  kept path Nowhere qs rest is e = e ∙ ap (λ (xs : List Placed). xs ++ rest) (sym (ap (placed path) is ∙ nothing path))

  pub all_stand : (ps : List (List ℕ)) → flat_map at (filter (λ q. stands (spot_at p f q)) ps) ≡ flat_map at ps
  all_stand [] = refl
  all_stand (path ∷ ps) = kept path (spot_at p f path) (filter (λ q. stands (spot_at p f q)) ps) (flat_map at ps) refl (all_stand ps)

pub loop_done : (s : Source) (old now : Graph) (f : List ℕ → List Placed) (i : ℕ) (paths : List (List ℕ)) (whole : List Placed) →
    grown_in s now (flat_map f (drop i paths)) ≡ grown_in s old (flat_map f paths) → length paths ≤ i → flat_map f paths ≡ whole → now ≡ grown_in s old whole
loop_done s old now f i paths whole kept_so past is =
    sym (grown_nothing (program_of s) (contexts_of s) now)
    ∙ ap (λ (ps : List (List ℕ)). grown_in s now (flat_map f ps)) (sym (drop_all i paths past))
    ∙ kept_so ∙ ap (grown_in s old) is

pub context_turn : (s : Source) (now next : Graph) (k : ℕ) (c : Ctx) (rest : List Ctx) → next ≡ grown_in s now (placed_in (program_of s) (contexts_of s) k c.fun) →
    grown_in s next (placed_from (program_of s) (contexts_of s) (k + 1) rest) ≡ grown_in s now (placed_from (program_of s) (contexts_of s) k (c ∷ rest))
context_turn s now next k c rest e =
    ap (λ (g : Graph). grown_in s g (placed_from (program_of s) (contexts_of s) (k + 1) rest)) e
    ∙ grown_both (program_of s) (contexts_of s) now (placed_in (program_of s) (contexts_of s) k c.fun) (placed_from (program_of s) (contexts_of s) (k + 1) rest)

-- one node

edges_by : (s : Source) (v : ℕ) (leads : List Lead) → map (edge_by v) (steps_for s leads) ≡ map (edge_of (program_of s) (contexts_of s) v) leads ++ []
edges_by s v [] = refl
edges_by s v (l ∷ leads) = ap (λ (es : List Edge). edge_of (program_of s) (contexts_of s) v l ∷ es) (edges_by s v leads)

abbrev node_in : ℕ → NodeKind → Node
node_in k kind = record { ctx = k; kind = kind }

node_added : (s : Source) (g next : Graph) (k : ℕ) (kind it : NodeKind) (steps : List Step) (leads : List Lead) (x : Placed) → x.node ≡ node_in k it → x.leads ≡ leads →
    next.nodes ≡ g.nodes ++ node_in k kind ∷ [] → next.edges ≡ g.edges ++ map (edge_by (length g.nodes)) steps → steps ≡ steps_for s leads → it ≡ kind → next ≡ grown_in s g (x ∷ [])
node_added s g next k kind it steps leads x node out nodes edges are is =
    graph_is (program_of s) (contexts_of s) next.nodes (g.nodes ++ x.node ∷ []) next.edges (g.edges ++ (map (edge_of (program_of s) (contexts_of s) (length g.nodes)) x.leads ++ []))
    (nodes ∙ ap (λ (n : NodeKind). g.nodes ++ node_in k n ∷ []) (sym is) ∙ ap (λ (n : Node). g.nodes ++ n ∷ []) (sym node))
    (edges ∙ ap (λ (xs : List Step). g.edges ++ map (edge_by (length g.nodes)) xs) are ∙ ap (λ (es : List Edge). g.edges ++ es) (edges_by s (length g.nodes) leads)
    ∙ ap (λ (ls : List Lead). g.edges ++ (map (edge_of (program_of s) (contexts_of s) (length g.nodes)) ls ++ [])) (sym out))

same_kind : (a b : NodeKind) → Some a ≡ Some b → a ≡ b
same_kind a b e = cc

pub place_done : (s : Source) (g next : Graph) (k f : ℕ) (path : List ℕ) (spot : Spot) (kind : NodeKind) (steps : List Step) → kind_at spot ≡ Some kind →
    next.nodes ≡ g.nodes ++ node_in k kind ∷ [] → next.edges ≡ g.edges ++ map (edge_by (length g.nodes)) steps → steps ≡ steps_for s (leads_at (program_of s) (contexts_of s) k f path spot) →
    next ≡ grown_in s g (placed_at (program_of s) (contexts_of s) k f path spot)
place_done s g next k f path (AtGap gap) kind steps is nodes edges are =
    let it : NodeKind = Gap gap.number gap.frees in
    let leads : List Lead = on_leads (program_of s) k f path in
    node_added s g next k kind it steps leads (record { symbol = In k path; node = node_in k it; leads = leads }) refl refl nodes edges are (same_kind it kind is)
place_done s g next k f path (AtAction a) kind steps is nodes edges are =
    let it : NodeKind = Act (action_of a) in
    let leads : List Lead = leads_of (program_of s) (contexts_of s) k f path a in
    node_added s g next k kind it steps leads (record { symbol = In k path; node = node_in k it; leads = leads }) refl refl nodes edges are (same_kind it kind is)
place_done s g next k f path Nowhere kind steps is nodes edges are = absurd cc

-- what two clauses of a call that went well give together
pub both_ok : {A E P Q R : Type 0} (r : Result A E) → (P → Q → R) → OnOk r P → OnOk r Q → OnOk r R
both_ok (Ok x) f p q = f p q
both_ok (Err e) f p q = tt
