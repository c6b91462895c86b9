-- What is analysed keeps all limits: a limit that one analysis of a program passes, any other passes too.
use Rattle.std.proofs.Common.{◌≡◌, ◌≢◌, ⊎_elim, suc, ◌≤◌, List, [], ◌∷◌, length, None, Some, sym, ◌∙◌, arith}
use Rattle.std.specs.List.{AllPairs}
use Rattle.c_tree.specs.declared.limits.Limit.{Limit}
use Rattle.c_tree.specs.declared.program.Program.{Program}
use Rattle.c_graph.specs.declared.graph.Graph.{Graph}
use Rattle.ts_domain.specs.declared.facts.Facts.{Facts}
use Rattle.ts_domain.specs.declared.names.Names.{Names}
use Rattle.ts_domain.specs.declared.triples.Derived.{Derived}
use Rattle.ts_domain.specs.Derived.{AreDerived, HasWideEdge, PassesStates}
use Rattle.cover_problem.specs.declared.types.Problem.{Problem}
use Rattle.cover_clauses.specs.Clauses.{once_none, once_more, IsOnce}
use Rattle.cover_clauses.proofs.Elements.{once_fits}
use Rattle.memfix_engine.specs.Analysis.{by_contexts, by_nodes, by_names, by_states, by_clauses, graph_in, names_in, IsAnalysed, PassesLimit}
use Rattle.memfix_engine.proofs.CoversAgree.{more_agree}
use Rattle.memfix_engine.proofs.DerivedAgree.{states_lead}
use Rattle.memfix_engine.proofs.FactsAgree.{facts_agree}

-- a list whose elements differ by pairs has nothing twice
once_from : {A : Type 0} (xs : List A) → AllPairs (λ x y. x ≢ y) xs → IsOnce xs
once_from [] apart = once_none
once_from (x ∷ xs) apart = once_more
    (λ c. apart 0 (suc c.0) x (omega arith) (let l = c.1 in omega (arith, l)) (sym c.2))
    (once_from xs (λ i j d low high. apart (suc i) (suc j) d (omega arith) (omega arith)))

-- where no more triples are derived than that and no edge is wide, the limit of states is kept
pub few_states : (n : Names) (g : Graph) (f : Facts) (d : Derived) → AreDerived n g f d → length d.triples ≤ 100000 → (HasWideEdge n g f → ⊥) → PassesStates n g f → ⊥
few_states n g f d are few narrow passes =
    ⊎_elim
    (λ many.
    let fits = once_fits many.listed d.triples (once_from many.listed many.once) (λ t c. (are.triples t).1 (many.derived t c)) in
    let long = many.many in
    omega (arith, fits, long, few))
    narrow passes

-- a program with a problem within the limits passes none of them
pub analysed_keeps : (p : Program) (q : Problem) (l : Limit) → IsAnalysed p q → PassesLimit p l → ⊥
analysed_keeps p q l is (by_contexts more) = let few = is.few_states.small.contexts in omega (arith, few, more)
analysed_keeps p q l is (by_nodes contexts more) = let few = is.few_states.small.nodes in omega (arith, few, more)
analysed_keeps p q l is (by_names m contexts nodes passes) = let never : None ≡ Some m = sym is.few_states.small.names ∙ passes in absurd cc
analysed_keeps p q l is (by_states small f are passes) =
    is.few_states.few (states_lead (names_in p) (graph_in p) f is.few_states.facts (facts_agree p f is.few_states.facts are is.few_states.are) passes)
analysed_keeps p q l is (by_clauses few r problem more) = is.few_clauses (more_agree p r q 2000000 problem is.problem more)
