-- A graph that grows in turns grows by all of them.
use Rattle.std.proofs.Common.{◌≡◌, ℕ, suc, ◌+◌, List, [], ◌∷◌, ◌++◌, map, length, ap, sym, ◌∙◌, arith, append-nil}
use Rattle.std.proofs.lemmas.List.{map-append, length-append, length-map, append_assoc}
use Rattle.c_tree.specs.declared.program.Program.{Program}
use Rattle.call_contexts.specs.declared.context.Ctx.{Ctx}
use Rattle.c_graph.specs.declared.graph.Edge.{Edge}
use Rattle.c_graph.specs.declared.graph.Graph.{Graph}
use Rattle.c_graph.specs.declared.graph.Node.{Node}
use Rattle.c_graph.specs.Nodes.{Placed, edge_of, edges_from, placed_from, exits, graph}
use Rattle.cfg_lower.specs.Growth.{grown}

module _ (p : Program) (cs : List Ctx) where
  edges_both : (v : ℕ) (xs ys : List Placed) → edges_from p cs v (xs ++ ys) ≡ edges_from p cs v xs ++ edges_from p cs (v + length xs) ys
  edges_both v [] ys = let on : v ≡ v + 0 = omega arith in ap (λ (n : ℕ). edges_from p cs n ys) on
  edges_both v (x ∷ xs) ys =
      let on : v + 1 + length xs ≡ v + suc (length xs) = omega arith in
      ap (λ (es : List Edge). map (edge_of p cs v) x.leads ++ es)
      (edges_both (v + 1) xs ys ∙ ap (λ (n : ℕ). edges_from p cs (v + 1) xs ++ edges_from p cs n ys) on)
      ∙ sym (append_assoc (map (edge_of p cs v) x.leads) (edges_from p cs (v + 1) xs) (edges_from p cs (v + suc (length xs)) ys))

  abbrev pub made : List Node → List Edge → Graph
  made ns es = record { nodes = ns; edges = es }

  pub graph_is : (ns ms : List Node) (es fs : List Edge) → ns ≡ ms → es ≡ fs → made ns es ≡ made ms fs
  graph_is ns ms es fs e f = ap (λ (xs : List Node). made xs es) e ∙ ap (made ms) f

  pub grown_nothing : (g : Graph) → grown p cs g [] ≡ g
  grown_nothing g = graph_is (g.nodes ++ []) g.nodes (g.edges ++ []) g.edges (append-nil g.nodes) (append-nil g.edges)

  nodes_both : (ns : List Node) (xs ys : List Placed) → (ns ++ map (λ x. x.node) xs) ++ map (λ x. x.node) ys ≡ ns ++ map (λ x. x.node) (xs ++ ys)
  nodes_both ns xs ys = append_assoc ns (map (λ x. x.node) xs) (map (λ x. x.node) ys) ∙ ap (λ (ms : List Node). ns ++ ms) (sym (map-append (λ x. x.node) xs ys))

  nodes_count : (ns : List Node) (xs : List Placed) → length (ns ++ map (λ x. x.node) xs) ≡ length ns + length xs
  nodes_count ns xs = length-append ns (map (λ x. x.node) xs) ∙ ap (λ (n : ℕ). length ns + n) (length-map xs (λ x. x.node))

  pub grown_both : (g : Graph) (xs ys : List Placed) → grown p cs (grown p cs g xs) ys ≡ grown p cs g (xs ++ ys)
  grown_both g xs ys =
      graph_is ((g.nodes ++ map (λ x. x.node) xs) ++ map (λ x. x.node) ys) (g.nodes ++ map (λ x. x.node) (xs ++ ys))
      ((g.edges ++ edges_from p cs (length g.nodes) xs) ++ edges_from p cs (length (g.nodes ++ map (λ x. x.node) xs)) ys) (g.edges ++ edges_from p cs (length g.nodes) (xs ++ ys))
      (nodes_both g.nodes xs ys)
      (append_assoc g.edges (edges_from p cs (length g.nodes) xs) (edges_from p cs (length (g.nodes ++ map (λ x. x.node) xs)) ys)
      ∙ ap (λ (es : List Edge). g.edges ++ es)
      (ap (λ (n : ℕ). edges_from p cs (length g.nodes) xs ++ edges_from p cs n ys) (nodes_count g.nodes xs) ∙ sym (edges_both (length g.nodes) xs ys)))

  -- all contexts, and then the exits, give the whole graph
  pub whole_graph : (first mid last : Graph) → first ≡ made [] [] → mid ≡ grown p cs first (placed_from p cs 0 cs) → last ≡ grown p cs mid (exits p) → last ≡ graph p cs
  whole_graph first mid last empty contexts all =
      all ∙ ap (λ (g : Graph). grown p cs g (exits p)) (contexts ∙ ap (λ (g : Graph). grown p cs g (placed_from p cs 0 cs)) empty)
      ∙ grown_both (made [] []) (placed_from p cs 0 cs) (exits p)
