-- The value of decimal digits, found from left to right.
use Rattle.std.proofs.Common.{◌≡◌, ℕ, suc, ◌<◌, ◌≤◌, List, [], ◌∷◌, None, length, get_or, drop, arith, drop-cons}
use Rattle.std.specs.Prelude.{fold}
use Rattle.std.proofs.lemmas.Bool.{cond-true, lt-ltb}
use Rattle.c_lexer.specs.Elements.{with_digit, int_of, greatest, decimal_value}

-- more digits make no smaller number
grows : (digits : List ℕ) (value : ℕ) → value ≤ fold with_digit value digits
grows [] value = omega arith
grows (digit ∷ digits) value = omega (arith, grows digits (with_digit value digit))

-- a front whose value is above the greatest int
pub too_wide : (digits : List ℕ) (i value : ℕ) → i < length digits → fold with_digit value (drop i digits) ≡ decimal_value digits → greatest < with_digit value (get_or digits i 0) → int_of (decimal_value digits) ≡ None
too_wide digits i value within whole wide =
    let cut = drop-cons digits i 0 within in
    let rest : fold with_digit (with_digit value (get_or digits i 0)) (drop (suc i) digits) ≡ decimal_value digits = rw cut at whole in
    let above : greatest < decimal_value digits = omega (arith, grows (drop (suc i) digits) (with_digit value (get_or digits i 0)), rest) in
    cond-true _ _ _ (lt-ltb greatest (decimal_value digits) above)
