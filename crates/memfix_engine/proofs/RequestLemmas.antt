-- A word of one to eight digits is read as its number.
use Rattle.std.proofs.Common.{◌≡◌, ℕ, ◌<◌, ◌≤◌, ◌^◌, Bool, true, false, ◌&&◌, List, [], ◌∷◌, length, Result, Ok, arith, refl}
use Rattle.std.specs.Prelude.{nat_le}
use Rattle.std.specs.List.{list_all}
use Rattle.std.specs.Str.Parse.{ParsesUnsigned, digits_value}
use Rattle.std.proofs.lemmas.Bool.{and_parts, leb-true, le-leb}
use Rattle.std.proofs.lemmas.Str.Parse.{IsDigitsTest, IsNumeralModel, numerals_by_value, parse_gives, digits_value_short}
use Rattle.memfix_engine.specs.Request.{is_digit, is_number}

and_both : (a b : Bool) → a ≡ true → b ≡ true → (a && b) ≡ true
and_both true b x y = y
and_both false b x y = x

are_digits : IsDigitsTest (λ ds. list_all is_digit ds ≡ true)
are_digits = record {
  empty = refl;
  parts = λ c cs e.
      let k = and_parts (is_digit c) (list_all is_digit cs) e in
      let m = and_parts (nat_le 48 c) (nat_le c 57) k.0 in
      ((leb-true 48 c m.0, leb-true c 57 m.1), k.1);
  more = λ c cs k e. and_both (is_digit c) (list_all is_digit cs) (and_both (nat_le 48 c) (nat_le c 57) (le-leb 48 c k.0) (le-leb c 57 k.1)) e;
}

own : IsNumeralModel (λ ds. list_all is_digit ds ≡ true) (digits_value 10)
own = numerals_by_value (λ ds. list_all is_digit ds ≡ true) are_digits

-- such a word has a byte, at most eight of them, and digits alone
number_parts : (a b c : Bool) → (a && b && c) ≡ true → (a ≡ true) × (b ≡ true) × (c ≡ true)
number_parts true true c is = (refl, refl, is)
number_parts true false c is = absurd (cc is)
number_parts false true c is = absurd (cc is)
number_parts false false c is = absurd (cc is)

pub number_parsed : {E : Type 0} (word : List ℕ) (r : Result ℕ E) → ParsesUnsigned 64 10 word r → is_number word ≡ true → r ≡ Ok (digits_value 10 word)
number_parsed word r parses is =
    let k = number_parts (nat_le 1 (length word)) (nat_le (length word) 8) (list_all is_digit word) is in
    let some : 1 ≤ length word = leb-true 1 (length word) k.0 in
    let few : length word ≤ 8 = leb-true (length word) 8 k.1 in
    let small : digits_value 10 word < 10 ^ 8 = digits_value_short own word 8 k.2 few in
    let fits : digits_value 10 word < 2 ^ 64 = omega (arith, small) in
    parse_gives own 64 word r parses k.2 (let e : 0 < length word = omega (arith, some) in e) fits
