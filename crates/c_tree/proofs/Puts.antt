-- Where puts ascend, those of a gap stand side by side.
use Rattle.std.proofs.Common.{◌≡◌, ℕ, zero, suc, ◌+◌, ◌-◌, ◌<◌, ◌≤◌, Bool, true, false, nat_lt, nat_le, ◌==◌, ◌&&◌, ◌||◌, List, [], ◌∷◌, length, get_or, take, drop, None, IsTrue, ap, arith}
use Rattle.std.specs.List.{AllWithin}
use Rattle.std.specs.List.Sorted.{IsNonDecreasingBy, IsPartitionPoint}
use Rattle.std.proofs.lemmas.List.Sorted.{IsNonDecreasingBy-from_all_adjacent}
use Rattle.std.proofs.lemmas.Bool.Decides.{nat_tests}
use Rattle.std.proofs.lemmas.Grind.{common_steps}
use Rattle.std.proofs.lemmas.Bool.{and_parts}
use Rattle.c_tree.specs.Fill.{ascends, precedes, precedes_in_gap, puts_at}
use Rattle.c_tree.specs.declared.choice.Put.{Put}

gap_not_past : (m n : ℕ) (b : Bool) → (nat_lt m n || ((m == n) && b)) ≡ true → m ≤ n
gap_not_past m n b h = grind (arith, nat_tests)

adjacent : (puts : List Put) → IsTrue (ascends puts) → (k : ℕ) (d : Put) → k + 1 < length puts → (get_or puts k d).gap ≤ (get_or puts (k + 1) d).gap
adjacent [] h k d below = absurd (omega arith)
adjacent (p ∷ []) h k d below = absurd (omega arith)
adjacent (p ∷ q ∷ puts) h zero d below = gap_not_past p.gap q.gap (precedes_in_gap p.field q.field p.var q.var) (and_parts (precedes p q) (ascends (q ∷ puts)) h).0
adjacent (p ∷ q ∷ puts) h (suc k) d below =
    let e : suc k + 1 ≡ suc (k + 1) = omega arith in
    rw e (adjacent (q ∷ puts) (and_parts (precedes p q) (ascends (q ∷ puts)) h).1 k d (omega arith))

pub ascending_gaps : (puts : List Put) → IsTrue (ascends puts) → IsNonDecreasingBy (λ (q : Put). q.gap) puts
ascending_gaps puts h = IsNonDecreasingBy-from_all_adjacent (λ (q : Put). q.gap) puts (adjacent puts h)

some_put : Put
some_put = record { gap = 0; var = 0; field = None }

-- the places before and behind the puts of gap k
pub record AreBounds (xs : List Put) (k s e : ℕ) : Type 0 where
  pub low : AllWithin (λ (q : Put). nat_lt q.gap k ≡ true) xs 0 s
  pub from : AllWithin (λ (q : Put). nat_lt q.gap k ≡ false) xs s (length xs)
  pub upto : AllWithin (λ (q : Put). nat_le q.gap k ≡ true) xs 0 e
  pub high : AllWithin (λ (q : Put). nat_le q.gap k ≡ false) xs e (length xs)

past : (xs : List Put) (k s e : ℕ) → s ≤ length xs → AreBounds xs k s e → e < s → ⊥
past xs k s e within b over =
    let below : nat_lt (get_or xs e some_put).gap k ≡ true = b.low e some_put (omega arith) over in
    let above : nat_le (get_or xs e some_put).gap k ≡ false = b.high e some_put (omega arith) (omega arith) in
    grind (arith, nat_tests)

pub bounds_in_order : (xs : List Put) (k s e : ℕ) → s ≤ length xs → AreBounds xs k s e → s ≤ e
bounds_in_order xs k s e within b = let h : e < s → ⊥ = past xs k s e within b in grind arith

tail_bounds : (x : Put) (xs : List Put) (k s e : ℕ) → AreBounds (x ∷ xs) k (suc s) (suc e) → AreBounds xs k s e
tail_bounds x xs k s e b = record {
  low = λ i d from to. b.low (suc i) d (omega arith) (omega arith);
  from = λ i d from to. b.from (suc i) d (omega arith) (omega arith);
  upto = λ i d from to. b.upto (suc i) d (omega arith) (omega arith);
  high = λ i d from to. b.high (suc i) d (omega arith) (omega arith);
}

low_tail : (x : Put) (xs : List Put) (k e : ℕ) → AreBounds (x ∷ xs) k zero (suc e) → AreBounds xs k zero e
low_tail x xs k e b = record {
  low = λ i d from to. absurd (omega arith);
  from = λ i d from to. b.from (suc i) d (omega arith) (omega arith);
  upto = λ i d from to. b.upto (suc i) d (omega arith) (omega arith);
  high = λ i d from to. b.high (suc i) d (omega arith) (omega arith);
}

high_tail : (x : Put) (xs : List Put) (k : ℕ) → AreBounds (x ∷ xs) k zero zero → AreBounds xs k zero zero
high_tail x xs k b = record {
  low = λ i d from to. absurd (omega arith);
  from = λ i d from to. b.from (suc i) d (omega arith) (omega arith);
  upto = λ i d from to. absurd (omega arith);
  high = λ i d from to. b.high (suc i) d (omega arith) (omega arith);
}

is_below : (m k : ℕ) → nat_lt m k ≡ true → (m == k) ≡ false
is_below m k h = grind (arith, nat_tests)

is_here : (m k : ℕ) → nat_lt m k ≡ false → nat_le m k ≡ true → (m == k) ≡ true
is_here m k h l = grind (arith, nat_tests)

is_above : (m k : ℕ) → nat_le m k ≡ false → (m == k) ≡ false
is_above m k h = grind (arith, nat_tests)

pub part_of_gap : (xs : List Put) (k s e : ℕ) → s ≤ e → e ≤ length xs → AreBounds xs k s e → take (e - s) (drop s xs) ≡ puts_at xs k
part_of_gap [] k s e order within b = grind (arith, common_steps)
part_of_gap (x ∷ xs) k zero zero order within b =
    rw (is_above x.gap k (b.high 0 x (omega arith) (omega arith))) (part_of_gap xs k zero zero order (omega arith) (high_tail x xs k b))
part_of_gap (x ∷ xs) k zero (suc e) order within b =
    let n : suc e - 0 ≡ suc (e - 0) = omega arith in
    rw (n, is_here x.gap k (b.from 0 x (omega arith) (omega arith)) (b.upto 0 x (omega arith) (omega arith)))
    (ap (λ (ys : List Put). x ∷ ys) (part_of_gap xs k zero e (omega arith) (omega arith) (low_tail x xs k e b)))
part_of_gap (x ∷ xs) k (suc s) zero order within b = absurd (omega arith)
part_of_gap (x ∷ xs) k (suc s) (suc e) order within b =
    let n : suc e - suc s ≡ e - s = omega arith in
    rw (n, is_below x.gap k (b.low 0 x (omega arith) (omega arith))) (part_of_gap xs k s e (omega arith) (omega arith) (tail_bounds x xs k s e b))

-- the answers of the two searches
pub bounds_from : (xs : List Put) (k s e : ℕ) → IsPartitionPoint (λ (q : Put). nat_lt q.gap k ≡ true) (λ (q : Put). nat_lt q.gap k ≡ false) xs s
    → IsPartitionPoint (λ (q : Put). nat_le q.gap k ≡ true) (λ (q : Put). nat_le q.gap k ≡ false) xs e → AreBounds xs k s e
bounds_from xs k s e first last = record { low = first.0; from = first.1; upto = last.0; high = last.1 }
