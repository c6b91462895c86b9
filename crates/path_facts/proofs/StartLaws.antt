-- The set of all facts, and of those that are true before a run.
use Rattle.std.proofs.Common.{◌≡◌, ◌≢◌, ℕ, ◌+◌, ◌<◌, ◌==◌, ◌⊎◌, inl, inr, ⊎_elim, true, false, nat_lt, eqb, ltb, length, refl, ap, sym, ◌∙◌, arith}
use Rattle.std.proofs.lemmas.Bool.{false≢true, eqb-true, eq-eqb, ltb-true, lt-ltb, and_parts, and_from, cases_eq, or_left, or_right}
use Rattle.mf_set.specs.Numbers.{Numbers, has as has_number, with_number}
use Rattle.mf_set.proofs.NumberLaws.{has-with_number}
use Rattle.ts_domain.specs.declared.fact.Fact.{Fact}
use Rattle.ts_domain.specs.declared.fact.Fact.TheVariants.{Ready, Full, Filled, Equal, Apart}
use Rattle.ts_domain.specs.declared.names.Names.{Names}
use Rattle.ts_domain.specs.Facts.{is_fact, number_of}
use Rattle.ts_domain.specs.Path.{true_at_start}
use Rattle.path_facts.specs.Corrections.{Corrects}
use Rattle.path_facts.specs.Numbering.{room_of}
use Rattle.path_facts.specs.Start.{IsFull, IsStart, is_equal_of, is_started, is_started_at}
use Rattle.path_facts.proofs.FactNumbers.{number_below}

-- one number more
pub full_more : (room i : ℕ) (old new : Numbers) → old.room ≡ room → ((k : ℕ) → k < i → has_number old.items k ≡ true) → new ≡ record old { items = with_number old.items i }
    → (new.room ≡ room) × ((k : ℕ) → k < i + 1 → has_number new.items k ≡ true)
full_more room i old new e all is = (
  ap (λ (s : Numbers). s.room) is ∙ e,
  λ k l. ap (λ (s : Numbers). has_number s.items k) is ∙ has-with_number old.items i k
      ∙ ⊎_elim (λ (same : i ≡ k). or_left (eqb i k) (has_number old.items k) (eq-eqb i k same)) (λ (o : i ≢ k). let below : k < i = omega (arith, l, o) in or_right (eqb i k) (has_number old.items k) (all k below)) (cases_eq i k),
)

last_of : (a i : ℕ) → nat_lt a (i + 1) ≡ true → (nat_lt a i ≡ true) ⊎ (a ≡ i)
last_of a i h =
    let l : a < i + 1 = ltb-true a (i + 1) h in
    ⊎_elim (λ (e : a ≡ i). inr e) (λ (o : a ≢ i). let below : a < i = omega (arith, l, o) in inl (lt-ltb a i below)) (cases_eq a i)

pub equals_next : (x i : ℕ) (f : Fact) → is_equal_of x (i + 1) f ≡ true → (is_equal_of x i f ≡ true) ⊎ (f ≡ Equal i x)
equals_next x i (Equal y z) t =
    let both = and_parts (z == x) (nat_lt y (i + 1)) t in
    let same : z ≡ x = eqb-true z x both.0 in
    ⊎_elim (λ below. inl (and_from (z == x) (nat_lt y i) both.0 below)) (λ (e : y ≡ i). inr (ap (λ a. Equal a z) e ∙ ap (Equal i) same)) (last_of y i both.1)
equals_next x i (Ready y) t = absurd (false≢true t)
equals_next x i (Full y) t = absurd (false≢true t)
equals_next x i (Filled j) t = absurd (false≢true t)
equals_next x i (Apart y z) t = absurd (false≢true t)

pub equals_none : (x : ℕ) (f : Fact) → is_equal_of x 0 f ≡ true → ⊥
equals_none x (Equal y z) t = let l : y < 0 = ltb-true y 0 (and_parts (z == x) (nat_lt y 0) t).1 in omega (arith, l)
equals_none x (Ready y) t = false≢true t
equals_none x (Full y) t = false≢true t
equals_none x (Filled j) t = false≢true t
equals_none x (Apart y z) t = false≢true t

pub started_at : (n : Names) (x : ℕ) (f : Fact) → is_fact n f ≡ true → is_started_at x f ≡ true → ((f ≡ Ready x) ⊎ (f ≡ Full x)) ⊎ (is_equal_of x x f ≡ true)
started_at n x (Ready y) h t = inl (inl (ap Ready (eqb-true y x t)))
started_at n x (Full y) h t = inl (inr (ap Full (eqb-true y x t)))
started_at n x (Filled j) h t = absurd (false≢true t)
started_at n x (Equal y z) h t =
    let same : z ≡ x = eqb-true z x t in
    let l : y < z = ltb-true y z (and_parts (nat_lt y z) (nat_lt z (length n.vars)) h).0 in
    inr (and_from (z == x) (nat_lt y x) t (lt-ltb y x (omega (arith, same, l))))
started_at n x (Apart y z) h t = absurd (false≢true t)

pub started_next : (i : ℕ) (f : Fact) → is_started (i + 1) f ≡ true → (is_started i f ≡ true) ⊎ (is_started_at i f ≡ true)
started_next i (Ready y) t = ⊎_elim (λ b. inl b) (λ (e : y ≡ i). inr (eq-eqb y i e)) (last_of y i t)
started_next i (Full y) t = ⊎_elim (λ b. inl b) (λ (e : y ≡ i). inr (eq-eqb y i e)) (last_of y i t)
started_next i (Filled j) t = absurd (false≢true t)
started_next i (Equal y z) t = ⊎_elim (λ b. inl b) (λ (e : z ≡ i). inr (eq-eqb z i e)) (last_of z i t)
started_next i (Apart y z) t = absurd (false≢true t)

not_below_none : (a : ℕ) → nat_lt a 0 ≡ true → ⊥
not_below_none a t = let l : a < 0 = ltb-true a 0 t in omega (arith, l)

pub started_none : (f : Fact) → is_started 0 f ≡ true → ⊥
started_none (Ready y) t = not_below_none y t
started_none (Full y) t = not_below_none y t
started_none (Filled j) t = false≢true t
started_none (Equal y z) t = not_below_none z t
started_none (Apart y z) t = false≢true t

-- a fact that exists is told, or true before each run
started_or_true : (n : Names) (f : Fact) → is_fact n f ≡ true → (is_started (length n.vars) f ≡ true) ⊎ (true_at_start n f ≡ true)
started_or_true n (Ready y) h = inl h
started_or_true n (Full y) h = inl h
started_or_true n (Filled j) h = inr refl
started_or_true n (Equal y z) h = inl (and_parts (nat_lt y z) (nat_lt z (length n.vars)) h).1
started_or_true n (Apart y z) h = inr refl

pub start_is : (n : Names) (all s : Numbers) → IsFull (room_of n) all → Corrects n (true_at_start n) (λ f. is_started (length n.vars) f ≡ true) all s → IsStart n s
start_is n all s full is = record {
  room = is.room ∙ full.room;
  facts = λ f h. ⊎_elim (λ told. is.done f h told) (λ yes'. ⊎_elim (λ e. e) (λ e. e ∙ full.all (number_of n f) (number_below (length n.vars) (length n.fields) f h) ∙ sym yes') (is.each f h)) (started_or_true n f h);
}
