-- The table of pairs, and numbers of facts from it.
use Rattle.std.proofs.Common.{◌≡◌, ◌≢◌, ℕ, zero, suc, ◌+◌, ◌-◌, ◌^◌, ◌<◌, ◌⊎◌, true, List, [], ◌∷◌, ◌++◌, length, slice_get, Option, Some, ⊎_elim, refl, ap, sym, ◌∙◌, subst, arith}
use Rattle.std.proofs.lemmas.List.{length-append}
use Rattle.std.proofs.lemmas.Bool.{cases_eq}
use Rattle.ts_domain.specs.declared.fact.Fact.{Fact}
use Rattle.ts_domain.specs.declared.fact.Fact.TheVariants.{Equal, Apart}
use Rattle.ts_domain.specs.declared.names.Names.{Names}
use Rattle.ts_domain.specs.Facts.{exists, fact_count, fact_number, is_fact, number_of, pair_count, pair_number, pairs_below}
use Rattle.path_facts.specs.declared.numbering.Numbering.{Numbering}
use Rattle.path_facts.specs.Numbering.{AreNumbers, ArePairs, IsNumbering, room_of}
use Rattle.path_facts.proofs.FactNumbers.{number_below, pair_below, pairs_more}

get_before : (xs : List ℕ) (i y : ℕ) → i < length xs → slice_get (xs ++ y ∷ []) i ≡ slice_get xs i
get_before [] i y h = absurd (omega (arith, h))
get_before (x ∷ xs) zero y h = refl
get_before (x ∷ xs) (suc i) y h = get_before xs i y (omega (arith, h))

get_last : (xs : List ℕ) (i y : ℕ) → i ≡ length xs → slice_get (xs ++ y ∷ []) i ≡ Some y
get_last [] zero y h = refl
get_last [] (suc i) y h = absurd (omega (arith, h))
get_last (x ∷ xs) zero y h = absurd (omega (arith, h))
get_last (x ∷ xs) (suc i) y h = get_last xs i y (omega (arith, h))

pub pairs_start : (n next : ℕ) → next ≡ 0 → ArePairs n 0 [] × (next ≡ pairs_below n 0)
pairs_start zero next e = (record { long = refl; each = λ x l. absurd (omega (arith, l)) }, e)
pairs_start (suc n) next e = (record { long = refl; each = λ x l. absurd (omega (arith, l)) }, e)

pub pairs_on : (n i next next' : ℕ) (xs : List ℕ) → i < n → ArePairs n i xs → next ≡ pairs_below n i → next' ≡ next + (n - i - 1) → ArePairs n (i + 1) (xs ++ next ∷ []) × (next' ≡ pairs_below n (i + 1))
pairs_on n i next next' xs l so is more =
    let on : i + 1 ≡ suc i = omega arith in
    let below = pairs_more n i l in (
      record {
        long = length-append xs (next ∷ []) ∙ ap (λ k. k + 1) so.long;
        each = λ x h. ⊎_elim (λ (e : x ≡ i). get_last xs x next (omega (arith, e, so.long)) ∙ ap Some is ∙ ap (λ k. Some (pairs_below n k)) (sym e)) (λ (o : x ≢ i). let b : x < i = omega (arith, h, o) in get_before xs x next (omega (arith, b, so.long)) ∙ so.each x b) (cases_eq x i);
      },
      more ∙ ap (λ k. k + (n - i - 1)) is ∙ sym below ∙ ap (pairs_below n) (sym on),
    )

-- numbers fit

some_same : (a b : ℕ) (o : Option ℕ) → o ≡ Some a → o ≡ Some b → a ≡ b
some_same a b o h k = let is : Some a ≡ Some b = sym h ∙ k in cc

pub pair_is : (m : Numbering) (x y a : ℕ) → AreNumbers m → x < y → y < m.vars → slice_get m.pairs x ≡ Some a → a + (y - x - 1) ≡ pair_number m.vars x y
pair_is m x y a are l k at = let e : a ≡ pairs_below m.vars x = some_same a (pairs_below m.vars x) (slice_get m.pairs x) at (are.pairs.each x (omega (arith, l, k))) in omega (arith, e)

pub pair_fits : (m : Numbering) (x y a : ℕ) → AreNumbers m → x < y → y < m.vars → slice_get m.pairs x ≡ Some a → a + (y - x - 1) < 2 ^ 64
pair_fits m x y a are l k at =
    let is = pair_is m x y a are l k at in
    let below : pair_number m.vars x y < pair_count m.vars = pair_below m.vars x y l k in
    omega (arith, is, below, are.count, are.fits)

pub equal_fits : (m : Numbering) (x y p : ℕ) (f : Fact) → AreNumbers m → exists m.vars m.fields f ≡ true → f ≡ Equal x y → p ≡ pair_number m.vars x y → m.equal + p < 2 ^ 64
equal_fits m x y p f are h is e =
    let below : fact_number m.vars m.fields (Equal x y) < fact_count m.vars m.fields = number_below m.vars m.fields (Equal x y) (subst (λ g. exists m.vars m.fields g ≡ true) is h) in
    omega (arith, e, below, are.count, are.fits, are.equal)

pub apart_fits : (m : Numbering) (x y p : ℕ) (f : Fact) → AreNumbers m → exists m.vars m.fields f ≡ true → f ≡ Apart x y → p ≡ pair_number m.vars x y → m.apart + p < 2 ^ 64
apart_fits m x y p f are h is e =
    let below : fact_number m.vars m.fields (Apart x y) < fact_count m.vars m.fields = number_below m.vars m.fields (Apart x y) (subst (λ g. exists m.vars m.fields g ≡ true) is h) in
    omega (arith, e, below, are.count, are.fits, are.apart)

-- numbers of names

pub number_same : (n : Names) (m : Numbering) (f : Fact) (k : ℕ) → IsNumbering n m → k ≡ fact_number m.vars m.fields f → k ≡ number_of n f
number_same n m f k is e = e ∙ ap (λ v. fact_number v m.fields f) is.vars ∙ ap (λ w. fact_number (length n.vars) w f) is.fields

pub number_within : (n : Names) (m : Numbering) (f : Fact) (k room : ℕ) → IsNumbering n m → is_fact n f ≡ true → k ≡ fact_number m.vars m.fields f → room ≡ room_of n → k < room
number_within n m f k room is h e r =
    let at : k ≡ number_of n f = number_same n m f k is e in
    let below : number_of n f < room_of n = number_below (length n.vars) (length n.fields) f h in
    omega (arith, at, below, r)
