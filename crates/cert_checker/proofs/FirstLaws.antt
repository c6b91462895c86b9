-- The first condition that fails at a node, of those that are asked there, is the first that is broken.
use Rattle.std.proofs.Common.{◌≡◌, ℕ, zero, suc, ◌+◌, ◌<◌, ◌==◌, Bool, true, false, cond, ◌&&◌, not, List, [], ◌∷◌, length, slice_get, Option, None, Some, refl, ap, sym, ◌∙◌, subst, arith}
use Rattle.std.proofs.lemmas.Bool.{and_parts, false≢true}
use Rattle.std.specs.Prelude.{max}
use Rattle.c_graph.specs.declared.graph.Graph.{Graph}
use Rattle.ts_domain.specs.declared.names.Names.{Names}
use Rattle.ts_domain.specs.Path.{Reached}
use Rattle.cover_certificate.specs.declared.types.Cert.{Cert}
use Rattle.cover_certificate.specs.Closed.{asks_reached, failing, IsBroken}
use Rattle.cover_certificate.specs.Regular.{is_regular}
use Rattle.cert_checker.specs.Checking.{asked, behind_two, first_failing}

-- whether a condition that is asked of reached nodes may be asked
abbrev MayAsk : Bool → ℕ → Type 0
MayAsk reached r = asks_reached r ≡ true → reached ≡ true

asked_true : (reached : Bool) (r : ℕ) (b : Bool) → b ≡ true → MayAsk reached r → cond (asks_reached r) (reached && b) b ≡ true
asked_true reached r true fails may = by_asks (asks_reached r) refl
  where
    by_asks : (a : Bool) → asks_reached r ≡ a → cond a (reached && true) true ≡ true
    by_asks false is = refl
    by_asks true is = ap (λ x. x && true) (may is)
asked_true reached r false fails may = absurd (false≢true fails)

asked_parts : (reached : Bool) (r : ℕ) (b : Bool) → cond (asks_reached r) (reached && b) b ≡ true → (b ≡ true) × MayAsk reached r
asked_parts reached r b = by_asks (asks_reached r) refl
  where
    by_asks : (a : Bool) → asks_reached r ≡ a → cond a (reached && b) b ≡ true → (b ≡ true) × MayAsk reached r
    by_asks false is h = (h, λ asks. absurd (false≢true (sym is ∙ asks)))
    by_asks true is h = let both = and_parts reached b h in (both.1, λ asks. both.0)

-- a condition fails at a place of a list that begins with the r-th, and may be asked
abbrev Fails : Bool → ℕ → List Bool → ℕ → Type 0
Fails reached r xs i = (slice_get xs i ≡ Some true) × MayAsk reached (r + i)

on : (reached : Bool) (r i : ℕ) → MayAsk reached (r + suc i) → MayAsk reached (r + 1 + i)
on reached r i may = let same : r + suc i ≡ r + 1 + i = omega arith in subst (MayAsk reached) same may

back : (reached : Bool) (r i : ℕ) → MayAsk reached (r + 1 + i) → MayAsk reached (r + suc i)
back reached r i may = let same : r + 1 + i ≡ r + suc i = omega arith in subst (MayAsk reached) same may

at_first : (reached : Bool) (r : ℕ) → MayAsk reached (r + 0) → MayAsk reached r
at_first reached r may = let same : r + 0 ≡ r = omega arith in subst (MayAsk reached) same may

from_first : (reached : Bool) (r : ℕ) → MayAsk reached r → MayAsk reached (r + 0)
from_first reached r may = let same : r ≡ r + 0 = omega arith in subst (MayAsk reached) same may

none_fails : (reached : Bool) (r : ℕ) (xs : List Bool) → first_failing r (asked reached r xs) ≡ None → (i : ℕ) → Fails reached r xs i → ⊥
none_fails reached r [] none i fails = let it = fails.0 in absurd cc
none_fails reached r (b ∷ bs) none i fails = by_head (cond (asks_reached r) (reached && b) b) refl none i fails (λ rest j later. none_fails reached (r + 1) bs rest j later)
  where
    by_head : (h : Bool) → cond (asks_reached r) (reached && b) b ≡ h → cond h (Some r) (first_failing (r + 1) (asked reached (r + 1) bs)) ≡ None → (j : ℕ) → Fails reached r (b ∷ bs) j
        → (first_failing (r + 1) (asked reached (r + 1) bs) ≡ None → (l : ℕ) → Fails reached (r + 1) bs l → ⊥) → ⊥
    by_head true is never j it rest = absurd cc
    by_head false is never zero it rest =
        let holds : b ≡ true = let at = it.0 in cc in
        false≢true (sym is ∙ asked_true reached r b holds (at_first reached r it.1))
    by_head false is never (suc j) it rest = rest never j (it.0, on reached r j it.1)

record IsFirst (reached : Bool) (r : ℕ) (xs : List Bool) (q : ℕ) : Type 0 where
  pub place : ℕ
  pub number : q ≡ r + place
  pub fails : Fails reached r xs place
  pub earlier : (j : ℕ) → j < place → Fails reached r xs j → ⊥

first_fails : (reached : Bool) (r : ℕ) (xs : List Bool) (q : ℕ) → first_failing r (asked reached r xs) ≡ Some q → IsFirst reached r xs q
first_fails reached r [] q found = absurd cc
first_fails reached r (b ∷ bs) q found = by_head (cond (asks_reached r) (reached && b) b) refl found (λ rest. first_fails reached (r + 1) bs q rest)
  where
    by_head : (h : Bool) → cond (asks_reached r) (reached && b) b ≡ h → cond h (Some r) (first_failing (r + 1) (asked reached (r + 1) bs)) ≡ Some q
        → (first_failing (r + 1) (asked reached (r + 1) bs) ≡ Some q → IsFirst reached (r + 1) bs q) → IsFirst reached r (b ∷ bs) q
    by_head true is it rest =
        let both = asked_parts reached r b is in
        let same : r ≡ q = cc in
        record {
          place = 0;
          number = let none : r ≡ r + 0 = omega arith in sym same ∙ none;
          fails = (ap (λ (x : Bool). Some x) both.0, from_first reached r both.1);
          earlier = λ j less. absurd (omega (arith, less));
        }
    by_head false is it rest =
        let later = rest it in
        let number = later.number in
        record {
          place = suc later.place;
          number = omega (arith, number);
          fails = (later.fails.0, back reached r later.place later.fails.1);
          earlier = λ j less fails. by_place later.place later.earlier j less fails;
        }
      where
        by_place : (place : ℕ) → ((l : ℕ) → l < place → Fails reached (r + 1) bs l → ⊥) → (j : ℕ) → j < suc place → Fails reached r (b ∷ bs) j → ⊥
        by_place place earlier zero less fails =
            let holds : b ≡ true = let at = fails.0 in cc in
            false≢true (sym is ∙ asked_true reached r b holds (at_first reached r fails.1))
        by_place place earlier (suc j) less fails = earlier j (omega (arith, less)) (fails.0, on reached r j fails.1)

-- at a node, for a certificate that is regular

module _ (n : Names) (g : Graph) (c : Cert) (v : ℕ) (reached : Bool) (regular : is_regular n g c ≡ true) (from : Reached g v → reached ≡ true) where
  abbrev Rest : List Bool
  Rest = behind_two (failing n g c v)

  -- a condition that is broken is asked, and none of the first two
  broken_fails : (q : ℕ) → IsBroken n g c v q → (i : ℕ) × (q ≡ 2 + i) × Fails reached 2 Rest i
  broken_fails zero broken = let fails = broken.fails in absurd cc
  broken_fails (suc zero) broken = absurd (irregular broken.fails)
    where
      irregular : Some (v == 0 && not (is_regular n g c)) ≡ Some true → ⊥
      irregular fails =
          let same : (v == 0 && not (is_regular n g c)) ≡ true = cc in
          false≢true (sym (ap not regular) ∙ (and_parts (v == 0) (not (is_regular n g c)) same).1)
  broken_fails (suc (suc i)) broken =
      let number : suc (suc i) ≡ 2 + i = omega arith in
      (i, number, (broken.fails, λ asks. from (broken.reached (subst (λ (r : ℕ). asks_reached r ≡ true) (sym number) asks))))

  pub none_broken : first_failing 2 (asked reached 2 Rest) ≡ None → (q : ℕ) → IsBroken n g c v q → ⊥
  none_broken none q broken = let it = broken_fails q broken in none_fails reached 2 Rest none it.0 it.2

  pub first_earlier : (r : ℕ) → first_failing 2 (asked reached 2 Rest) ≡ Some r → (q : ℕ) → q < r → IsBroken n g c v q → ⊥
  first_earlier r found q less broken =
      let it = broken_fails q broken in
      let first = first_fails reached 2 Rest r found in
      let number = first.number in
      let own = it.1 in
      first.earlier it.0 (omega (arith, number, own, less)) it.2

  pub first_broken : (to : reached ≡ true → Reached g v) (low : v < max 1 (length g.nodes)) (r : ℕ) → first_failing 2 (asked reached 2 Rest) ≡ Some r → IsBroken n g c v r
  first_broken to low r found =
      let first = first_fails reached 2 Rest r found in
      let own : suc (suc first.place) ≡ r = let number = first.number in omega (arith, number) in
      let is : 2 + first.place ≡ r = sym first.number in
      record {
        node = low;
        fails = subst (λ (q : ℕ). slice_get (failing n g c v) q ≡ Some true) own first.fails.0;
        reached = λ asks. to (first.fails.1 (subst (λ (q : ℕ). asks_reached q ≡ true) (sym is) asks));
      }
