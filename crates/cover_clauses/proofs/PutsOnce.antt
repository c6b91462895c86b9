-- Puts that ascend: none stands there twice, and a choice of them ascends.
use Rattle.std.proofs.Common.{◌≡◌, ℕ, zero, suc, ◌+◌, ◌<◌, ◌≤◌, Bool, true, List, [], ◌∷◌, ◌++◌, length, slice_get, Option, Some, None, refl, ap, sym, subst, arith}
use Rattle.std.proofs.lemmas.Bool.{and_from}
use Rattle.std.specs.List.{Contains, filter, flat_map, range_with_len}
use Rattle.c_tree.specs.Fill.{ascends, precedes, IsAscending}
use Rattle.c_tree.specs.declared.choice.Put.{Put}
use Rattle.mf_set.specs.Numbers.{IsAscendingFrom}
use Rattle.mf_set.proofs.NumberLaws.{has_from_low, IsAscendingFrom-filter}
use Rattle.ts_domain.proofs.Precedence.{ascends_rest, precedes_never, precedes_rest}
use Rattle.cover_problem.specs.declared.types.Problem.{Problem}
use Rattle.cover_problem.specs.Covering.{is_usable}
use Rattle.cover_problem.proofs.Members.{at_first, of_flat_map}
use Rattle.cover_clauses.specs.Clauses.{choice_of, is_true_at, put_at, put_if, usable_puts, IsOnce, once_none, once_more}
use Rattle.cover_clauses.proofs.Elements.{as_has, listed_at}

pub puts_once : (ps : List Put) → ascends ps ≡ true → IsOnce ps
puts_once [] up = once_none
puts_once (p ∷ ps) up = once_more (λ c. precedes_never p (precedes_rest p p ps up c)) (puts_once ps (ascends_rest p ps up))

-- puts of places that ascend, of a list that ascends

nth : (ps : List Put) → ascends ps ≡ true → (j k : ℕ) (p q : Put) → slice_get ps j ≡ Some p → slice_get ps k ≡ Some q → j < k → precedes p q ≡ true
nth [] up j k p q a b less = absurd cc
nth (x ∷ xs) up zero zero p q a b less = absurd (omega arith)
nth (x ∷ xs) up zero (suc k) p q a b less = let same : x ≡ p = cc in subst (λ z. precedes z q ≡ true) same (precedes_rest x q xs up (listed_at xs k q b))
nth (x ∷ xs) up (suc j) zero p q a b less = absurd (omega arith)
nth (x ∷ xs) up (suc j) (suc k) p q a b less = nth xs (ascends_rest x xs up) j k p q a b (omega arith)

ascends_more : (p : Put) (ps : List Put) → ((q : Put) → Contains ps q → precedes p q ≡ true) → ascends ps ≡ true → ascends (p ∷ ps) ≡ true
ascends_more p [] first up = refl
ascends_more p (q ∷ ps) first up = and_from (precedes p q) (ascends (q ∷ ps)) (first q (at_first q ps)) up

one_put : (p : Put) (o : Option Put) → Contains (put_if o) p → o ≡ Some p
one_put p None (k, l, e) = absurd (omega (arith, l))
one_put p (Some r) (zero, l, e) = ap Some e
one_put p (Some r) (suc k, l, e) = absurd (omega (arith, l))

module _ (q : Problem) (up : ascends q.names.puts ≡ true) where
  picked_ascends : (low : ℕ) (ks : List ℕ) → IsAscendingFrom low ks → ascends (flat_map (put_at q) ks) ≡ true
  picked_ascends low [] rise = refl
  picked_ascends low (k ∷ ks) rise = by (slice_get q.names.puts k) refl (picked_ascends (suc k) ks rise.1)
    where
      by : (o : Option Put) → slice_get q.names.puts k ≡ o → ascends (flat_map (put_at q) ks) ≡ true → ascends (put_if o ++ flat_map (put_at q) ks) ≡ true
      by None e rest = rest
      by (Some p) e rest =
          ascends_more p (flat_map (put_at q) ks)
          (λ r c.
          let x = of_flat_map (put_at q) ks r c in
          let above : suc k ≤ x.part = has_from_low (suc k) ks x.part rise.1 (as_has ks x.part x.listed) in
          nth q.names.puts up k x.part p r e (one_put r (slice_get q.names.puts x.part) x.inside) (omega (arith, above)))
          rest

range_rises : (a n : ℕ) → IsAscendingFrom a (range_with_len a n)
range_rises a zero = tt
range_rises a (suc n) = let on : suc a ≡ a + 1 = omega arith in (omega arith, subst (λ m. IsAscendingFrom m (range_with_len (a + 1) n)) (sym on) (range_rises (a + 1) n))

pub choice_ascends : (q : Problem) (bits : List Bool) → ascends q.names.puts ≡ true → IsAscending (choice_of q bits)
choice_ascends q bits up =
    picked_ascends q up 0 (filter (is_true_at q bits) (usable_puts q))
    (IsAscendingFrom-filter (is_true_at q bits) 0 (usable_puts q) (IsAscendingFrom-filter (is_usable q) 0 (range_with_len 0 (length q.names.puts)) (range_rises 0 (length q.names.puts))))
