-- Where tokens stand in order, those within a free stand side by side.
use Rattle.std.proofs.Common.{◌≡◌, ℕ, zero, suc, ◌+◌, ◌<◌, ◌≤◌, true, false, nat_lt, nat_le, ◌&&◌, List, [], ◌∷◌, length, get_or, take, drop, refl, ap, ◌∙◌, arith, subst}
use Rattle.std.specs.Prelude.{filter}
use Rattle.std.specs.List.{AllWithin}
use Rattle.std.specs.List.Sorted.{IsNonDecreasingBy, IsPartitionPoint}
use Rattle.std.proofs.lemmas.List.Sorted.{IsNonDecreasingBy-from_all_adjacent}
use Rattle.std.proofs.lemmas.Bool.Decides.{nat_tests}
use Rattle.std.proofs.lemmas.Grind.{common_steps}
use Rattle.std.proofs.lemmas.Bool.{and_parts}
use Rattle.c_lexer.specs.declared.token.Token.{Token}
use Rattle.c_tree.specs.declared.program.Free.{Free}
use Rattle.source_patcher.specs.Gaps.{is_within, stand_in_order, AreInOrder}
use Rattle.c_lexer.proofs.Order.{Ascends}

at_most : (m n : ℕ) → nat_le m n ≡ true → m ≤ n
at_most m n h = grind (arith, nat_tests)

is_at_most : (m n : ℕ) → m ≤ n → nat_le m n ≡ true
is_at_most m n h = grind (arith, nat_tests)

-- what standing in order says of the first token
record Stands (at : ℕ) (t : Token) (ts : List Token) : Type 0 where
  begins : at ≤ t.start
  ends : t.start ≤ t.end
  behind : stand_in_order t.end ts ≡ true

stands : (at : ℕ) (t : Token) (ts : List Token) → stand_in_order at (t ∷ ts) ≡ true → Stands at t ts
stands at t ts h =
    let front = (and_parts (nat_le at t.start && nat_le t.start t.end) (stand_in_order t.end ts) h).0 in
    record {
      begins = at_most at t.start (and_parts (nat_le at t.start) (nat_le t.start t.end) front).0;
      ends = at_most t.start t.end (and_parts (nat_le at t.start) (nat_le t.start t.end) front).1;
      behind = (and_parts (nat_le at t.start && nat_le t.start t.end) (stand_in_order t.end ts) h).1;
    }

starts_rise : (at : ℕ) (ts : List Token) → stand_in_order at ts ≡ true → (k : ℕ) (d : Token) → k + 1 < length ts → (get_or ts k d).start ≤ (get_or ts (k + 1) d).start
starts_rise at [] h k d below = absurd (omega arith)
starts_rise at (t ∷ []) h k d below = absurd (omega arith)
starts_rise at (t ∷ u ∷ ts) h zero d below =
    let s = stands at t (u ∷ ts) h in
    let r = stands t.end u ts s.behind in
    omega (arith, s.ends, r.begins)
starts_rise at (t ∷ u ∷ ts) h (suc k) d below =
    let e : suc k + 1 ≡ suc (k + 1) = omega arith in
    let s = stands at t (u ∷ ts) h in
    rw e (starts_rise t.end (u ∷ ts) s.behind k d (omega arith))

ends_rise : (at : ℕ) (ts : List Token) → stand_in_order at ts ≡ true → (k : ℕ) (d : Token) → k + 1 < length ts → (get_or ts k d).end ≤ (get_or ts (k + 1) d).end
ends_rise at [] h k d below = absurd (omega arith)
ends_rise at (t ∷ []) h k d below = absurd (omega arith)
ends_rise at (t ∷ u ∷ ts) h zero d below =
    let s = stands at t (u ∷ ts) h in
    let r = stands t.end u ts s.behind in
    omega (arith, r.begins, r.ends)
ends_rise at (t ∷ u ∷ ts) h (suc k) d below =
    let e : suc k + 1 ≡ suc (k + 1) = omega arith in
    let s = stands at t (u ∷ ts) h in
    rw e (ends_rise t.end (u ∷ ts) s.behind k d (omega arith))

pub starts_ascend : (ts : List Token) → AreInOrder ts → IsNonDecreasingBy (λ (t : Token). t.start) ts
starts_ascend ts h = IsNonDecreasingBy-from_all_adjacent (λ (t : Token). t.start) ts (starts_rise 0 ts h)

pub ends_ascend : (ts : List Token) → AreInOrder ts → IsNonDecreasingBy (λ (t : Token). t.end) ts
ends_ascend ts h = IsNonDecreasingBy-from_all_adjacent (λ (t : Token). t.end) ts (ends_rise 0 ts h)

-- the places where a free's tokens begin, and behind them; `us` are the tokens from there on
pub record AreAround (ts us : List Token) (f : Free) (s n : ℕ) : Type 0 where
  pub before : AllWithin (λ (t : Token). nat_lt t.start f.start ≡ true) ts 0 s
  pub from : AllWithin (λ (t : Token). nat_lt t.start f.start ≡ false) ts s (length ts)
  pub inside : AllWithin (λ (t : Token). nat_lt t.end f.end ≡ true) us 0 n
  pub past : AllWithin (λ (t : Token). nat_lt t.end f.end ≡ false) us n (length us)

is_before : (f : Free) (t : Token) → nat_lt t.start f.start ≡ true → is_within f t ≡ false
is_before f t h = grind (arith, nat_tests)

is_inside : (f : Free) (t : Token) → nat_lt t.start f.start ≡ false → nat_lt t.end f.end ≡ true → is_within f t ≡ true
is_inside f t h l = grind (arith, nat_tests)

is_past : (f : Free) (t : Token) → nat_lt t.end f.end ≡ false → is_within f t ≡ false
is_past f t h = grind (arith, nat_tests)

tail_around : (t : Token) (ts us : List Token) (f : Free) (s n : ℕ) → AreAround (t ∷ ts) us f (suc s) n → AreAround ts us f s n
tail_around t ts us f s n a = record {
  before = λ i d from to. a.before (suc i) d (omega arith) (omega arith);
  from = λ i d from to. a.from (suc i) d (omega arith) (omega arith);
  inside = a.inside;
  past = a.past;
}

tail_inside : (t : Token) (ts : List Token) (f : Free) (n : ℕ) → AreAround (t ∷ ts) (t ∷ ts) f zero (suc n) → AreAround ts ts f zero n
tail_inside t ts f n a = record {
  before = λ i d from to. absurd (omega arith);
  from = λ i d from to. a.from (suc i) d (omega arith) (omega arith);
  inside = λ i d from to. a.inside (suc i) d (omega arith) (omega arith);
  past = λ i d from to. a.past (suc i) d (omega arith) (omega arith);
}

tail_past : (t : Token) (ts : List Token) (f : Free) → AreAround (t ∷ ts) (t ∷ ts) f zero zero → AreAround ts ts f zero zero
tail_past t ts f a = record {
  before = λ i d from to. absurd (omega arith);
  from = λ i d from to. a.from (suc i) d (omega arith) (omega arith);
  inside = λ i d from to. absurd (omega arith);
  past = λ i d from to. a.past (suc i) d (omega arith) (omega arith);
}

part_within : (ts : List Token) (f : Free) (s n : ℕ) → s ≤ length ts → n ≤ length (drop s ts) → AreAround ts (drop s ts) f s n → take n (drop s ts) ≡ filter (is_within f) ts
part_within [] f s n low high a = grind (arith, common_steps)
part_within (t ∷ ts) f zero zero low high a =
    rw (is_past f t (a.past 0 t (omega arith) (omega arith))) (part_within ts f zero zero (omega arith) (omega arith) (tail_past t ts f a))
part_within (t ∷ ts) f zero (suc n) low high a =
    rw (is_inside f t (a.from 0 t (omega arith) (omega arith)) (a.inside 0 t (omega arith) (omega arith)))
    (ap (λ (us : List Token). t ∷ us) (part_within ts f zero n (omega arith) (omega arith) (tail_inside t ts f n a)))
part_within (t ∷ ts) f (suc s) n low high a =
    rw (is_before f t (a.before 0 t (omega arith) (omega arith))) (part_within ts f s n (omega arith) high (tail_around t ts (drop s ts) f s n a))

pub part_of_free : (ts : List Token) (f : Free) (s n : ℕ) (us : List Token) → s ≤ length ts → n ≤ length us → us ≡ drop s ts → AreAround ts us f s n
    → take n us ≡ filter (is_within f) ts
part_of_free ts f s n us low high e a =
    let within : n ≤ length (drop s ts) = subst (λ (vs : List Token). n ≤ length vs) e high in
    ap (take n) e ∙ part_within ts f s n low within (subst (λ (vs : List Token). AreAround ts vs f s n) e a)

-- the answers of the two searches
pub around_from : (ts : List Token) (f : Free) (s n : ℕ) (us : List Token)
    → IsPartitionPoint (λ (t : Token). nat_lt t.start f.start ≡ true) (λ (t : Token). nat_lt t.start f.start ≡ false) ts s
    → IsPartitionPoint (λ (t : Token). nat_lt t.end f.end ≡ true) (λ (t : Token). nat_lt t.end f.end ≡ false) us n → AreAround ts us f s n
around_from ts f s n us first last = record { before = first.0; from = first.1; inside = last.0; past = last.1 }

in_order : (at : ℕ) (ts : List Token) (l : ℕ) → Ascends at ts l → stand_in_order at ts ≡ true
in_order at [] l h = refl
in_order at (t ∷ ts) l h =
    rw (is_at_most at t.start h.0, is_at_most t.start t.end (omega (arith, h.1))) (in_order t.end ts l h.2)

-- the tokens of a text stand in order
pub ascends_in_order : (ts : List Token) (l : ℕ) → Ascends 0 ts l → AreInOrder ts
ascends_in_order ts l h = in_order 0 ts l h
