-- What a search for a cover finds is the choice of the repair, or refuses it.
use Rattle.std.proofs.Common.{◌≡◌, ◌↔◌, ℕ, List, Bool, true, false, None, Some, IsTrue, sym, subst, ◌∙◌}
use Rattle.std.proofs.lemmas.Bool.{true≢false}
use Rattle.c_tree.specs.Fill.{ascends}
use Rattle.c_tree.specs.WellFormed.{IsWellFormed}
use Rattle.c_tree.specs.declared.choice.Choice.{Choice}
use Rattle.c_tree.specs.declared.program.Program.{Program}
use Rattle.c_graph.specs.declared.graph.Graph.{Graph}
use Rattle.sat_log.specs.Clauses.{Satisfies}
use Rattle.sat_log.specs.declared.problem.Clauses.{Clauses}
use Rattle.ts_domain.specs.declared.names.Names.{Names}
use Rattle.cover_problem.specs.declared.types.Problem.{Problem}
use Rattle.cover_problem.specs.Alone.{LeastAlone}
use Rattle.cover_problem.specs.Problem.{HasRooms, IsCoverOf}
use Rattle.cover_clauses.specs.Clauses.{AreClauses, bits_of}
use Rattle.memfix_engine.specs.Analysing.{IsAnalysis}
use Rattle.memfix_engine.specs.Analysis.{HasFewStates, IsAlone, IsAnalysed, IsProblemIn, IsUncovered, exit_offset, graph_in, names_in, site_offset}
use Rattle.memfix_engine.specs.Choosing.{IsChosenFor}
use Rattle.memfix_engine.specs.Covers.{AreOffsets, HasOffset, IsFoundCover, IsOwnCover}
use Rattle.memfix_engine.specs.OwnFrees.{AreOwn}
use Rattle.memfix_engine.specs.declared.analysis.Analysis.{Analysis}
use Rattle.cover_clauses.proofs.BitLaws.{cover_satisfies}
use Rattle.memfix_engine.proofs.AloneOffsets.{exit_has_offset, site_has_offset}
use Rattle.memfix_engine.proofs.OwnText.{own_unique}

-- what was analysed

-- the problem of an analysis is one of the program
pub problem_in : (p : Program) (a : Analysis) → IsAnalysis p a → IsProblemIn p a.problem
problem_in p a is = record { facts = a.facts; are = is.facts; derived = is.derived; problem = is.problem }

-- and no count passes its limit
pub analysed : (p : Program) (a : Analysis) → IsAnalysis p a → IsAnalysed p a.problem
analysed p a is = record {
  few_states = (let few : HasFewStates p = record { small = is.small; facts = a.facts; are = is.facts; few = is.few_states } in few);
  problem = problem_in p a is;
  few_clauses = is.few_clauses;
}

-- the puts of its problem ascend
pub puts_ascend : (p : Program) (a : Analysis) → IsAnalysis p a → IsTrue (ascends a.problem.names.puts)
puts_ascend p a is = subst (λ (n : Names). IsTrue (ascends n.puts)) (is.names ∙ sym is.problem.names) is.ascending

-- objects that no put may free

-- the site has an offset
pub site_offset_there : (p : Program) (a : Analysis) (place : ℕ × ℕ) → IsAnalysis p a → LeastAlone a.problem (Some place) → HasOffset (site_offset a.graph a.names place.0)
site_offset_there p a place is alone =
    subst (λ (n : Names). HasOffset (site_offset a.graph n place.0)) (sym is.names)
    (subst (λ (g : Graph). HasOffset (site_offset g (names_in p) place.0)) (sym is.graph) (site_has_offset p a.problem place (problem_in p a is) alone))

-- and so has the exit
pub exit_offset_there : (p : Program) (a : Analysis) (place : ℕ × ℕ) → IsAnalysis p a → LeastAlone a.problem (Some place) → HasOffset (exit_offset a.graph place.1)
exit_offset_there p a place is alone =
    subst (λ (g : Graph). HasOffset (exit_offset g place.1)) (sym is.graph) (exit_has_offset p a.problem place (problem_in p a is) alone)

-- both offsets name the object and the exit
pub is_alone : (p : Program) (a : Analysis) (place at : ℕ × ℕ) → IsAnalysis p a → LeastAlone a.problem (Some place) → AreOffsets a.graph a.names place at → IsAlone p at.0 at.1
is_alone p a place at is alone are =
    let moved : AreOffsets (graph_in p) (names_in p) place at = subst (λ (n : Names). AreOffsets (graph_in p) n place at) is.names (subst (λ (g : Graph). AreOffsets g a.names place at) is.graph are) in
    record { problem = a.problem; analysed = analysed p a is; place = place; alone = alone; is_site = moved.site; is_exit = moved.exit }

-- covers

-- where no bits satisfy the clauses, no choice is a cover
pub none_covers : (q : Problem) (c : Clauses) → HasRooms q → AreClauses q c → ((bits : List Bool) → Satisfies bits c.list → ⊥) → (s : Choice) → IsCoverOf q s → ⊥
none_covers q c rooms are none s covers = none (bits_of q s) (cover_satisfies q s rooms c.list (λ l h. (are.each l).0 h) covers)

-- then the program is refused, unless an object stands alone
pub is_uncovered : (p : Program) (a : Analysis) → IsAnalysis p a → LeastAlone a.problem None → ((s : Choice) → IsCoverOf a.problem s → ⊥) → IsUncovered p
is_uncovered p a is none_alone none = record { problem = a.problem; analysed = analysed p a is; none_alone = none_alone; none_covers = none }

-- the own frees are the choice where they are a cover
pub own_is_chosen : (p : Program) (q : Problem) (s : Choice) → IsWellFormed p → IsOwnCover p q s → IsChosenFor p q s
own_is_chosen p q s formed is = record {
  ascending = is.own.ascending;
  cover = is.cover;
  own = λ t other covers. own_unique p s t formed is.own other;
}

-- where they are none, any cover is
pub found_is_chosen : (p : Program) (q : Problem) (s : Choice) → ((t : Choice) → AreOwn p t → IsCoverOf q t → ⊥) → IsFoundCover q s → IsChosenFor p q s
found_is_chosen p q s none found = record {
  ascending = found.ascending;
  cover = found.cover;
  own = λ t other covers. absurd (none t other covers);
}

-- own frees that are no cover are those of each choice that has them
pub own_no_cover : (p : Program) (q : Problem) (s : Choice) (b : Bool) → IsWellFormed p → AreOwn p s → (IsTrue b ↔ IsCoverOf q s) → b ≡ false → (t : Choice) → AreOwn p t → IsCoverOf q t → ⊥
own_no_cover p q s b formed own exact fails t other covers =
    let same : s ≡ t = own_unique p s t formed own other in
    true≢false (sym (exact.1 (subst (λ (u : Choice). IsCoverOf q u) (sym same) covers)) ∙ fails)
