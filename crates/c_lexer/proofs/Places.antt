-- The first place of a text that passes a test, found from left to right.
use Rattle.std.proofs.Common.{◌≡◌, ℕ, suc, ◌+◌, ◌<◌, Bool, false, List, ◌∷◌, Some, None, Option, length, get_or, drop, sym, refl, ap, ◌∙◌, arith, drop-cons}
use Rattle.std.proofs.lemmas.Bool.{cond-false}
use Rattle.c_lexer.specs.Elements.{first_place, one_further}

-- a place that was found from k on
abbrev pub ahead : ℕ → Option ℕ → Option ℕ
ahead k None = None
ahead k (Some n) = Some (k + n)

ahead_further : (k : ℕ) (o : Option ℕ) → ahead k (one_further o) ≡ ahead (k + 1) o
ahead_further k None = refl
ahead_further k (Some n) = ap Some (omega arith)

pub place_further : (test : List ℕ → Bool) (xs : List ℕ) (i : ℕ) → i < length xs → test (drop i xs) ≡ false → ahead (i + 1) (first_place test (drop (i + 1) xs)) ≡ ahead i (first_place test (drop i xs))
place_further test xs i within fails =
    let cut = drop-cons xs i 0 within in
    let fails' : test (get_or xs i 0 ∷ drop (suc i) xs) ≡ false = rw cut at fails in
    let next : i + 1 ≡ suc i = omega arith in
    sym (rw cut (rw (cond-false (test (get_or xs i 0 ∷ drop (suc i) xs)) (Some 0) (one_further (first_place test (drop (suc i) xs))) fails') (rw next (ahead_further' i (first_place test (drop (suc i) xs))))))
  where
    ahead_further' : (k : ℕ) (o : Option ℕ) → ahead k (one_further o) ≡ ahead (suc k) o
    ahead_further' k o = ahead_further k o ∙ ap (λ m. ahead m o) (omega arith)
