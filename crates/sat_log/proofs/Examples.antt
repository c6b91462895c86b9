-- Logs of small problems, computed by hand: a clause of each variable and its opposite, and what follows of them.
use Rattle.std.proofs.Common.{◌≡◌, zero, suc, true, false, List, [], ◌∷◌, ◌++◌, Some, refl, sym, subst, arith, slice_get, ◌<◌, length}
use Rattle.std.specs.List.{Contains}
use Rattle.sat_log.specs.declared.problem.Lit.{Lit}
use Rattle.sat_log.specs.declared.problem.Clauses.{Clauses}
use Rattle.sat_log.specs.declared.problem.Log.{Log}
use Rattle.sat_log.specs.Clauses.{Satisfies}
use Rattle.sat_log.specs.Refutation.{Falls, Clashes, IsLog}
use Rattle.sat_log.proofs.LogLaws.{follows_none, follows_more}

abbrev for_it : Lit
for_it = record { var = 0; yes = true }

abbrev against : Lit
against = record { var = 0; yes = false }

-- one variable that is to be true and false
abbrev torn : Clauses
torn = record { vars = 1; list = (for_it ∷ []) ∷ (against ∷ []) ∷ [] }

abbrev short : Log
short = record { list = [] ∷ [] }

only : (l o : Lit) → Contains (l ∷ []) o → l ≡ o
only l o (zero, h, e) = e
only l o (suc k, h, e) = absurd (omega arith)

first_in : (x : List Lit) (xs : List (List Lit)) → Contains (x ∷ xs) x
first_in x xs = (0, omega arith, refl)

-- its first clause makes the opposite of the literal fall, and so the second is empty
torn_clashes : Clashes (torn.list ++ []) []
torn_clashes =
    Clashes.emptied (against ∷ []) (1, omega arith, refl)
    (λ o i. subst (Falls (torn.list ++ []) []) (only against o i)
    (Falls.unit (for_it ∷ []) for_it (first_in (for_it ∷ []) ((against ∷ []) ∷ [])) (0, omega arith, refl) (λ p j n. absurd (n (sym (only for_it p j))))))

torn_has_log : IsLog torn short
torn_has_log =
    record {
      below = λ c i l j. absurd (none c i l j);
      follows = follows_more torn.list [] [] (follows_none torn.list) torn_clashes;
      ends = ([], refl);
    }
  where
    none : (c : List Lit) → Contains short.list c → (l : Lit) → Contains c l → ⊥
    none c (zero, h, e) l (k, g, f) = let is_empty : [] ≡ c = e in absurd (omega (arith, subst (λ (d : List Lit). k < length d) (sym is_empty) g))
    none c (suc n, h, e) l j = absurd (omega arith)

-- bits satisfy a clause only by a literal that they make true
whole : Satisfies (true ∷ []) ((for_it ∷ []) ∷ [])
whole c (zero, h, e) = subst (λ (d : List Lit). (l : Lit) × Contains d l × (slice_get (true ∷ []) l.var ≡ Some l.yes)) e (for_it, (0, omega arith, refl), refl)
whole c (suc n, h, e) = absurd (omega arith)
