-- How a log grows to one that refutes.
use Rattle.std.proofs.Common.{◌≡◌, ◌<◌, List, [], ◌∷◌, ◌++◌, sym, subst, inl, inr}
use Rattle.std.specs.List.{Contains, All}
use Rattle.std.proofs.lemmas.List.Elements.{Contains-push_cases, All-contains}
use Rattle.sat_log.specs.declared.problem.Lit.{Lit}
use Rattle.sat_log.specs.declared.problem.Clauses.{Clauses}
use Rattle.sat_log.specs.declared.problem.Log.{Log}
use Rattle.sat_log.specs.Clauses.{AreBelow}
use Rattle.sat_log.specs.Refutation.{Falls, Clashes, Follows, IsLog}
use Rattle.sat_log.proofs.LogLaws.{follows_more}
use Rattle.sat_core.specs.Learning.{IsPart, Refutable}

-- a clause that clashes over all of them may be put at the log's end
pub part_more : (clauses : Clauses) (old new : Log) (c : List Lit) → new.list ≡ old.list ++ c ∷ [] → IsPart clauses old → All (λ l. l.var < clauses.vars) c
    → Clashes (clauses.list ++ old.list) c → IsPart clauses new
part_more clauses old new c e part below clash = record {
  below = subst (AreBelow clauses.vars) (sym e) more;
  follows = subst (Follows clauses.list) (sym e) (follows_more clauses.list old.list c part.follows clash);
}
  where
    more : AreBelow clauses.vars (old.list ++ c ∷ [])
    more d i l j = elim (Contains-push_cases old.list c d i) [
      | inl k ↦ part.below d k l j
      | inr s ↦ All-contains (λ (m : Lit). m.var < clauses.vars) c l below (subst (λ (xs : List Lit). Contains xs l) (sym s) j)
    ]

pub part_learned : (clauses : Clauses) (old new : Log) (c : List Lit) → new.list ≡ old.list ++ c ∷ [] → IsPart clauses old → All (λ l. l.var < clauses.vars) c
    → Refutable (clauses.list ++ old.list) c → IsPart clauses new
part_learned clauses old new c e part below refutable = part_more clauses old new c e part below (refutable.clash c (λ l i. Falls.assumed l i))

pub part_ends : (clauses : Clauses) (log : Log) (before : List (List Lit)) (c : List Lit) → c ≡ [] → log.list ≡ before ++ c ∷ [] → IsPart clauses log → IsLog clauses log
part_ends clauses log before c empty e part = record {
  below = part.below;
  follows = part.follows;
  ends = (before, subst (λ (d : List Lit). log.list ≡ before ++ d ∷ []) empty e);
}

pub part_same : (clauses : Clauses) (old new : Log) → new.list ≡ old.list → IsPart clauses old → IsPart clauses new
part_same clauses old new e part = record {
  below = subst (AreBelow clauses.vars) (sym e) part.below;
  follows = subst (Follows clauses.list) (sym e) part.follows;
}
