-- The puts of a gap that a choice has, taken in turn: what they free, where none is forbidden, no pair is chosen, and at most one candidate is.
use Rattle.std.proofs.Common.{◌≡◌, ℕ, ◌==◌, ◌&&◌, ◌||◌, ⊎_elim, Bool, true, false, cond, nat_lt, if◌then◌else◌, List, [], ◌∷◌, ◌++◌, map, filter, Option, Some, None, refl, ap, sym, subst, ◌∙◌, arith}
use Rattle.std.proofs.lemmas.Bool.{true≢false, false≢true, eqb-true, eq-eqb, or_cases, or_left, or_right, and_parts, cases_Bool}
use Rattle.std.proofs.lemmas.List.Elements.{Contains-append_left, Contains-append_right}
use Rattle.std.specs.List.{Contains, list_any}
use Rattle.c_tree.specs.Typing.{has}
use Rattle.call_contexts.proofs.Has.{Has, first, later, has_contains, has_left, has_right, has_map}
use Rattle.mf_set.specs.Numbers.{has as has_number, with_number}
use Rattle.mf_set.proofs.NumberLaws.{has_first, has-with_number}
use Rattle.ts_domain.specs.declared.marks.Mark.{Mark}
use Rattle.ts_domain.specs.declared.marks.Verdict.{Verdict}
use Rattle.ts_domain.specs.declared.marks.Verdict.TheVariants.{Yes, No, Open}
use Rattle.ts_domain.specs.declared.names.Names.{Names}
use Rattle.ts_domain.specs.Derived.{forbidden_at, forbids, freed_verdict, gathered, joined, ordered, pairs_at, pairs_with}
use Rattle.ts_domain.specs.Marks.{is_yes, only_if, verdict}
use Rattle.cover_certificate.specs.Closed.{freed_behind, frees, frees_again, reads_base, reads_freed}

-- lists and tests

-- a number of a list that passes a test
any_number : (test : ℕ → Bool) (xs : List ℕ) → list_any test xs ≡ true → (k : ℕ) × (has_number xs k ≡ true) × (test k ≡ true)
any_number test [] h = absurd (false≢true h)
any_number test (x ∷ xs) h =
    ⊎_elim
    (λ one. (x, has_first x xs, one))
    (λ rest. let it = any_number test xs rest in (it.0, or_right (x == it.0) (has_number xs it.0) it.1, it.2))
    (or_cases (test x) (list_any test xs) h)

pub number_any : (test : ℕ → Bool) (xs : List ℕ) (k : ℕ) → has_number xs k ≡ true → test k ≡ true → list_any test xs ≡ true
number_any test [] k h passes = absurd (false≢true h)
number_any test (x ∷ xs) k h passes =
    ⊎_elim
    (λ one. or_left (test x) (list_any test xs) (ap test (eqb-true x k one) ∙ passes))
    (λ rest. or_right (test x) (list_any test xs) (number_any test xs k rest passes))
    (or_cases (x == k) (has_number xs k) h)

number_has : (xs : List ℕ) (k : ℕ) → has_number xs k ≡ true → Has k xs
number_has [] k h = absurd (false≢true h)
number_has (x ∷ xs) k h =
    ⊎_elim
    (λ one. subst (λ (z : ℕ). Has k (z ∷ xs)) (sym (eqb-true x k one)) first)
    (λ rest. later (number_has xs k rest))
    (or_cases (x == k) (has_number xs k) h)

-- no test passes where a number that did would say what is false
none_passes : (test : ℕ → Bool) (xs : List ℕ) → ((k : ℕ) → has_number xs k ≡ true → test k ≡ true → ⊥) → list_any test xs ≡ false
none_passes test xs never =
    ⊎_elim (λ some. let it = any_number test xs some in absurd (never it.0 it.1 it.2)) (λ none. none) (cases_Bool (list_any test xs))

-- both of two
neither : (a b : Bool) → (a ≡ true → b ≡ true → ⊥) → (a && b) ≡ false
neither true true never = absurd (never refl refl)
neither true false never = refl
neither false b never = refl

-- joining

-- what a put frees by its verdict
pub frees_by : (m : Mark) (x : Option ℕ) → frees m x ≡ is_yes (freed_verdict m x)
frees_by m None = refl
frees_by m (Some e) = by_held (has_number m.holds.items e) (has_number m.lacks.items e)
  where
    by_held : (a b : Bool) → a ≡ is_yes (if a then Yes else if b then No else Open)
    by_held true b = refl
    by_held false true = refl
    by_held false false = refl

joined_has : (v : Verdict) (k : ℕ) (held : List ℕ) (j : ℕ) → has_number held j ≡ true → has_number (joined v k held) j ≡ true
joined_has Yes k held j h = has-with_number held k j ∙ or_right (k == j) (has_number held j) h
joined_has No k held j h = h
joined_has Open k held j h = h

joined_itself : (k : ℕ) (held : List ℕ) → has_number (joined Yes k held) k ≡ true
joined_itself k held = has-with_number held k k ∙ or_left (k == k) (has_number held k) (eq-eqb k k refl)

-- candidates stay
gathered_has : (v : ℕ → Verdict) (ks held : List ℕ) (j : ℕ) → has_number held j ≡ true → has_number (gathered v ks held) j ≡ true
gathered_has v [] held j h = h
gathered_has v (k ∷ ks) held j h = gathered_has v ks (joined (v k) k held) j (joined_has (v k) k held j h)

-- whether one more number of a set passes a test
any_with : (test : ℕ → Bool) (xs : List ℕ) (k : ℕ) → list_any test (with_number xs k) ≡ (list_any test xs || test k)
any_with test xs k = by_any (list_any test xs) (test k) refl refl
  where
    from_with : (j : ℕ) → has_number (with_number xs k) j ≡ true → test j ≡ true → list_any test xs ≡ false → test k ≡ false → ⊥
    from_with j h passes none isnt =
        ⊎_elim
        (λ e. true≢false (sym passes ∙ ap test (sym (eqb-true k j e)) ∙ isnt))
        (λ rest. true≢false (sym (number_any test xs j rest passes) ∙ none))
        (or_cases (k == j) (has_number xs j) (sym (has-with_number xs k j) ∙ h))

    by_any : (a b : Bool) → list_any test xs ≡ a → test k ≡ b → list_any test (with_number xs k) ≡ (a || b)
    by_any true b some is = let it = any_number test xs some in number_any test (with_number xs k) it.0 (has-with_number xs k it.0 ∙ or_right (k == it.0) (has_number xs it.0) it.1) it.2
    by_any false true none is = number_any test (with_number xs k) k (has-with_number xs k k ∙ or_left (k == k) (has_number xs k) (eq-eqb k k refl)) is
    by_any false false none isnt = none_passes test (with_number xs k) (λ j h passes. from_with j h passes none isnt)

any_joined : (test : ℕ → Bool) (v : Verdict) (held : List ℕ) (k : ℕ) → list_any test (joined v k held) ≡ (list_any test held || (is_yes v && test k))
any_joined test Yes held k = any_with test held k
any_joined test No held k = or_none (list_any test held)
  where
    or_none : (b : Bool) → b ≡ (b || false)
    or_none true = refl
    or_none false = refl
any_joined test Open held k = or_none (list_any test held)
  where
    or_none : (b : Bool) → b ≡ (b || false)
    or_none true = refl
    or_none false = refl

-- a chosen put, and one that isn't
joined_chosen : (test : ℕ → Bool) (v : Verdict) (held : List ℕ) (k : ℕ) (b : Bool) → b ≡ is_yes v → test k ≡ true → (list_any test held || b) ≡ list_any test (joined v k held)
joined_chosen test v held k b is chosen = ap (λ (x : Bool). list_any test held || x) (is ∙ and_true (is_yes v) ∙ ap (λ (x : Bool). is_yes v && x) (sym chosen)) ∙ sym (any_joined test v held k)
  where
    and_true : (x : Bool) → x ≡ (x && true)
    and_true true = refl
    and_true false = refl

joined_unchosen : (test : ℕ → Bool) (v : Verdict) (held : List ℕ) (k : ℕ) → test k ≡ false → list_any test held ≡ list_any test (joined v k held)
joined_unchosen test v held k isnt = or_false (list_any test held) ∙ ap (λ (x : Bool). list_any test held || x) (and_false (is_yes v) ∙ ap (λ (x : Bool). is_yes v && x) (sym isnt)) ∙ sym (any_joined test v held k)
  where
    or_false : (x : Bool) → x ≡ (x || false)
    or_false true = refl
    or_false false = refl

    and_false : (x : Bool) → false ≡ (x && false)
    and_false true = refl
    and_false false = refl

-- pairs

pair_in : (j k : ℕ) (held : List ℕ) → has_number held j ≡ true → Has (ordered j k) (pairs_with true k held)
pair_in j k held h = has_map (λ i. ordered i k) (number_has held j h)

-- forbidden puts

forbidden_first : (b : Bool) (k : ℕ) (rest : List ℕ) → b ≡ true → has_number (only_if b k ++ rest) k ≡ true
forbidden_first true k rest is = has_first k rest
forbidden_first false k rest is = absurd (false≢true is)

forbidden_later : (b : Bool) (k j : ℕ) (rest : List ℕ) → has_number rest j ≡ true → has_number (only_if b k ++ rest) j ≡ true
forbidden_later true k j rest h = or_right (k == j) (has_number rest j) h
forbidden_later false k j rest h = h

yes_is : (v : Verdict) → is_yes v ≡ true → v ≡ Yes
yes_is Yes h = refl
yes_is No h = absurd (false≢true h)
yes_is Open h = absurd (false≢true h)

-- a put that is undecided is forbidden
pub open_forbidden : (v : ℕ → Verdict) (ks held : List ℕ) (k : ℕ) → has_number ks k ≡ true → v k ≡ Open → has_number (forbidden_at v ks held) k ≡ true
open_forbidden v [] held k h is = absurd (false≢true h)
open_forbidden v (j ∷ ks) held k h is =
    ⊎_elim
    (λ one.
    let same : j ≡ k = eqb-true j k one in
    subst (λ (i : ℕ). has_number (only_if (forbids (v j) (has_number held j)) j ++ forbidden_at v ks (joined (v j) j held)) i ≡ true) same
    (forbidden_first (forbids (v j) (has_number held j)) j (forbidden_at v ks (joined (v j) j held)) (ap (λ (w : Verdict). forbids w (has_number held j)) (ap v same ∙ is))))
    (λ rest. forbidden_later (forbids (v j) (has_number held j)) j k (forbidden_at v ks (joined (v j) j held)) (open_forbidden v ks (joined (v j) j held) k rest is))
    (or_cases (j == k) (has_number ks k) h)

both_false : (a b : Bool) → a ≡ false → b ≡ false → (a || b) ≡ false
both_false true b h g = absurd (true≢false h)
both_false false b h g = g

-- puts in turn

module _ (n : Names) (m : Mark) (chosen : ℕ → Bool) (freed : ℕ → Option ℕ) where
  -- what the mark says of what a put frees
  abbrev verdicts : ℕ → Verdict
  verdicts k = freed_verdict m (freed k)

  -- what the chosen ones of some puts free
  abbrev names : List ℕ → List (Option ℕ)
  names ks = map freed (filter chosen ks)

  -- the object is freed behind them where a candidate is chosen

  freed_more : (k : ℕ) (ks held : List ℕ) (b : Bool) → chosen k ≡ b
      → freed_behind m (names ks) (list_any chosen (joined (verdicts k) k held)) ≡ list_any chosen (gathered verdicts ks (joined (verdicts k) k held))
      → freed_behind m (map freed (cond b (k ∷ filter chosen ks) (filter chosen ks))) (list_any chosen held) ≡ list_any chosen (gathered verdicts ks (joined (verdicts k) k held))
  freed_more k ks held true is rest = ap (freed_behind m (names ks)) (joined_chosen chosen (verdicts k) held k (frees m (freed k)) (frees_by m (freed k)) is) ∙ rest
  freed_more k ks held false is rest = ap (freed_behind m (names ks)) (joined_unchosen chosen (verdicts k) held k is) ∙ rest

  pub freed_gathered : (ks held : List ℕ) → freed_behind m (names ks) (list_any chosen held) ≡ list_any chosen (gathered verdicts ks held)
  freed_gathered [] held = refl
  freed_gathered (k ∷ ks) held = freed_more k ks held (chosen k) refl (freed_gathered ks (joined (verdicts k) k held))

  -- no free reads a freed object, where no pair is chosen

  module _ (follows : ℕ → Bool) (reading : (k : ℕ) → reads_base n m (freed k) ≡ true → follows k ≡ true) where
    abbrev AreApart : List ℕ → List ℕ → Type 0
    AreApart ks held = (j k : ℕ) → Has (ordered j k) (pairs_at verdicts follows ks held) → chosen j ≡ true → chosen k ≡ true → ⊥

    read_first : (k : ℕ) (ks held : List ℕ) → chosen k ≡ true → AreApart (k ∷ ks) held → list_any chosen held ≡ true → reads_base n m (freed k) ≡ true → ⊥
    read_first k ks held is apart some reads =
        let it = any_number chosen held some in
        let pair : Has (ordered it.0 k) (pairs_with (follows k) k held) = subst (λ (b : Bool). Has (ordered it.0 k) (pairs_with b k held)) (sym (reading k reads)) (pair_in it.0 k held it.1) in
        apart it.0 k (has_left (pairs_at verdicts follows ks (joined (verdicts k) k held)) pair) it.2 is

    reads_more : (k : ℕ) (ks held : List ℕ) (b : Bool) → chosen k ≡ b → AreApart (k ∷ ks) held
        → reads_freed n m (names ks) (list_any chosen (joined (verdicts k) k held)) ≡ false
        → reads_freed n m (map freed (cond b (k ∷ filter chosen ks) (filter chosen ks))) (list_any chosen held) ≡ false
    reads_more k ks held true is apart rest =
        both_false (list_any chosen held && reads_base n m (freed k)) (reads_freed n m (names ks) (list_any chosen held || frees m (freed k)))
        (neither (list_any chosen held) (reads_base n m (freed k)) (read_first k ks held is apart))
        (ap (reads_freed n m (names ks)) (joined_chosen chosen (verdicts k) held k (frees m (freed k)) (frees_by m (freed k)) is) ∙ rest)
    reads_more k ks held false is apart rest = ap (reads_freed n m (names ks)) (joined_unchosen chosen (verdicts k) held k is) ∙ rest

    pub reads_none : (ks held : List ℕ) → ((j k : ℕ) → Has (ordered j k) (pairs_at verdicts follows ks held) → chosen j ≡ true → chosen k ≡ true → ⊥)
        → reads_freed n m (names ks) (list_any chosen held) ≡ false
    reads_none [] held apart = refl
    reads_none (k ∷ ks) held apart =
        reads_more k ks held (chosen k) refl apart
        (reads_none ks (joined (verdicts k) k held) (λ i j pair. apart i j (has_right (pairs_with (follows k) k held) pair)))

  -- none frees it again, where none is forbidden and at most one candidate behind them is chosen

  abbrev AreUnforbidden : List ℕ → List ℕ → Type 0
  AreUnforbidden ks held = (k : ℕ) → has_number (forbidden_at verdicts ks held) k ≡ true → chosen k ≡ true → ⊥

  abbrev IsOne : List ℕ → List ℕ → Type 0
  IsOne ks held = (j k : ℕ) → has_number (gathered verdicts ks held) j ≡ true → has_number (gathered verdicts ks held) k ≡ true → chosen j ≡ true → chosen k ≡ true → j ≡ k

  again_first : (k : ℕ) (ks held : List ℕ) → chosen k ≡ true → AreUnforbidden (k ∷ ks) held → IsOne (k ∷ ks) held → list_any chosen held ≡ true → frees m (freed k) ≡ true → ⊥
  again_first k ks held is free one some frees_it =
      let it = any_number chosen held some in
      let yes_there : verdicts k ≡ Yes = yes_is (verdicts k) (sym (frees_by m (freed k)) ∙ frees_it) in
      let joins : has_number (joined (verdicts k) k held) k ≡ true = ap (λ (v : Verdict). has_number (joined v k held) k) yes_there ∙ joined_itself k held in
      let same : it.0 ≡ k = one it.0 k (gathered_has verdicts ks (joined (verdicts k) k held) it.0 (joined_has (verdicts k) k held it.0 it.1)) (gathered_has verdicts ks (joined (verdicts k) k held) k joins) it.2 is in
      let there : has_number held k ≡ true = subst (λ (i : ℕ). has_number held i ≡ true) same it.1 in
      let bars : forbids (verdicts k) (has_number held k) ≡ true = ap (λ (v : Verdict). forbids v (has_number held k)) yes_there ∙ there in
      free k (forbidden_first (forbids (verdicts k) (has_number held k)) k (forbidden_at verdicts ks (joined (verdicts k) k held)) bars) is

  again_more : (k : ℕ) (ks held : List ℕ) (b : Bool) → chosen k ≡ b → AreUnforbidden (k ∷ ks) held → IsOne (k ∷ ks) held
      → frees_again m (names ks) (list_any chosen (joined (verdicts k) k held)) ≡ false
      → frees_again m (map freed (cond b (k ∷ filter chosen ks) (filter chosen ks))) (list_any chosen held) ≡ false
  again_more k ks held true is free one rest =
      both_false (list_any chosen held && frees m (freed k)) (frees_again m (names ks) (list_any chosen held || frees m (freed k)))
      (neither (list_any chosen held) (frees m (freed k)) (again_first k ks held is free one))
      (ap (frees_again m (names ks)) (joined_chosen chosen (verdicts k) held k (frees m (freed k)) (frees_by m (freed k)) is) ∙ rest)
  again_more k ks held false is free one rest = ap (frees_again m (names ks)) (joined_unchosen chosen (verdicts k) held k is) ∙ rest

  pub again_none : (ks held : List ℕ) → ((k : ℕ) → has_number (forbidden_at verdicts ks held) k ≡ true → chosen k ≡ true → ⊥)
      → ((j k : ℕ) → has_number (gathered verdicts ks held) j ≡ true → has_number (gathered verdicts ks held) k ≡ true → chosen j ≡ true → chosen k ≡ true → j ≡ k)
      → frees_again m (names ks) (list_any chosen held) ≡ false
  again_none [] held free one = refl
  again_none (k ∷ ks) held free one =
      again_more k ks held (chosen k) refl free one
      (again_none ks (joined (verdicts k) k held) (λ j h. free j (forbidden_later (forbids (verdicts k) (has_number held k)) k j (forbidden_at verdicts ks (joined (verdicts k) k held)) h)) one)
