-- Facts of a set that are set anew, one behind another.
use Rattle.std.proofs.Common.{◌≡◌, ◌≢◌, ℕ, ◌+◌, ◌-◌, ◌<◌, ◌≤◌, ◌==◌, ◌&&◌, ◌||◌, ◌⊎◌, inl, inr, ⊎_elim, Bool, true, false, not, cond, nat_lt, eqb, ltb, length, slice_get, refl, ap, sym, ◌∙◌, arith}
use Rattle.std.proofs.lemmas.Bool.{true≢false, false≢true, eqb-true, eq-eqb, ne_eqb, ltb-true, lt-ltb, or_cases, and_parts, and_from, cases_eq, or_left, or_right}
use Rattle.mf_set.specs.Numbers.{Numbers, has as has_number}
use Rattle.mf_set.proofs.NumberLaws.{has-with_number, has-without_number}
use Rattle.ts_domain.specs.declared.fact.Fact.{Fact}
use Rattle.ts_domain.specs.declared.fact.Fact.TheVariants.{Ready, Full, Filled, Equal, Apart}
use Rattle.ts_domain.specs.declared.names.Names.{Names}
use Rattle.ts_domain.specs.Facts.{apart_pair, equal_pair, is_fact, number_of, owns_field}
use Rattle.path_facts.specs.Corrections.{Corrects, is_of_field, is_of_name, is_of_pair, is_of_two}
use Rattle.path_facts.specs.Numbering.{holds, put}
use Rattle.path_facts.proofs.FactNumbers.{number_once}

-- one fact

or_alone : (a b : Bool) → a ≡ false → (a || b) ≡ b
or_alone true b h = absurd (true≢false h)
or_alone false b h = refl

and_alone : (a b : Bool) → b ≡ true → (a && b) ≡ a
and_alone true b h = h
and_alone false b h = refl

and_no : (a b : Bool) → b ≡ false → (a && b) ≡ false
and_no true b h = h
and_no false b h = refl

pub put_here : (k : ℕ) (b : Bool) (s : Numbers) → has_number (put k b s).items k ≡ b
put_here k true s = has-with_number s.items k k ∙ or_left (eqb k k) (has_number s.items k) (eq-eqb k k refl)
put_here k false s = has-without_number s.items k k ∙ and_no (has_number s.items k) (not (eqb k k)) (ap not (eq-eqb k k refl))

pub put_other : (k m : ℕ) (b : Bool) (s : Numbers) → k ≢ m → has_number (put k b s).items m ≡ has_number s.items m
put_other k m true s h = has-with_number s.items k m ∙ or_alone (eqb k m) (has_number s.items m) (ne_eqb k m h)
put_other k m false s h = has-without_number s.items k m ∙ and_alone (has_number s.items m) (not (eqb m k)) (ap not (ne_eqb m k (λ e. h (sym e))))

pub corrects_one : (n : Names) (right : Fact → Bool) (f : Fact) (k : ℕ) (b : Bool) (old new : Numbers) → is_fact n f ≡ true → k ≡ number_of n f → b ≡ right f → new ≡ put k b old → Corrects n right (λ g. g ≡ f) old new
corrects_one n right f k b old new is at value made = record {
  room = ap (λ (s : Numbers). s.room) made;
  done = λ g h same. here g same;
  each = λ g h. ⊎_elim (λ (e : k ≡ number_of n g). inl (here g (sym (number_once (length n.vars) (length n.fields) f g is h (sym at ∙ e))))) (λ (o : k ≢ number_of n g). inr (ap (λ (s : Numbers). has_number s.items (number_of n g)) made ∙ put_other k (number_of n g) b old o)) (cases_eq k (number_of n g));
}
  where
    here : (g : Fact) → g ≡ f → holds n new g ≡ right g
    here g same =
        ap (λ h. has_number new.items (number_of n h)) same ∙ ap (λ m. has_number new.items m) (sym at)
        ∙ ap (λ (s : Numbers). has_number s.items k) made ∙ put_here k b old ∙ value ∙ ap right (sym same)

-- several

pub corrects_none : (n : Names) (right : Fact → Bool) (told : Fact → Type 0) (s : Numbers) → ((f : Fact) → is_fact n f ≡ true → told f → ⊥) → Corrects n right told s s
corrects_none n right told s no' = record { room = refl; done = λ f h t. absurd (no' f h t); each = λ f h. inr refl }

pub corrects_wider : (n : Names) (right : Fact → Bool) (told more : Fact → Type 0) (old new : Numbers) → Corrects n right told old new → ((f : Fact) → is_fact n f ≡ true → more f → told f) → Corrects n right more old new
corrects_wider n right told more old new is wide = record { room = is.room; done = λ f h t. is.done f h (wide f h t); each = is.each }

pub corrects_on : (n : Names) (right : Fact → Bool) (one two both : Fact → Type 0) (a b c : Numbers) → Corrects n right one a b → Corrects n right two b c → ((f : Fact) → is_fact n f ≡ true → both f → one f ⊎ two f) → Corrects n right both a c
corrects_on n right one two both a b c p q split = record {
  room = q.room ∙ p.room;
  done = λ f h t. ⊎_elim (λ first. ⊎_elim (λ e. e) (λ e. e ∙ p.done f h first) (q.each f h)) (λ second. q.done f h second) (split f h t);
  each = λ f h. ⊎_elim (λ e. inl e) (λ e. ⊎_elim (λ r. inl (e ∙ r)) (λ r. inr (e ∙ r)) (p.each f h)) (q.each f h);
}

-- facts of names, fields and pairs

pub name_of_variable : (n : Names) (k : ℕ) → k < length n.vars → (f : Fact) → is_fact n f ≡ true → is_of_name n k f ≡ true → (f ≡ Ready k) ⊎ (f ≡ Full k)
name_of_variable n k l (Ready x) h t = inl (ap Ready (sym (eqb-true k x t)))
name_of_variable n k l (Full x) h t = inr (ap Full (sym (eqb-true k x t)))
name_of_variable n k l (Filled j) h t = let e : k ≡ length n.vars + j = eqb-true k (length n.vars + j) t in absurd (omega (arith, e, l))
name_of_variable n k l (Equal x y) h t = absurd (false≢true t)
name_of_variable n k l (Apart x y) h t = absurd (false≢true t)

pub name_of_field : (n : Names) (k : ℕ) → length n.vars ≤ k → (f : Fact) → is_fact n f ≡ true → is_of_name n k f ≡ true → f ≡ Filled (k - length n.vars)
name_of_field n k l (Ready x) h t = let e : k ≡ x = eqb-true k x t in let below : x < length n.vars = ltb-true x (length n.vars) h in absurd (omega (arith, e, l, below))
name_of_field n k l (Full x) h t = let e : k ≡ x = eqb-true k x t in let below : x < length n.vars = ltb-true x (length n.vars) h in absurd (omega (arith, e, l, below))
name_of_field n k l (Filled j) h t = let e : k ≡ length n.vars + j = eqb-true k (length n.vars + j) t in let is : j ≡ k - length n.vars = omega (arith, e) in ap Filled is
name_of_field n k l (Equal x y) h t = absurd (false≢true t)
name_of_field n k l (Apart x y) h t = absurd (false≢true t)

-- below the next number
below_next : (a i : ℕ) (b : Bool) → (nat_lt a (i + 1) && b) ≡ true → ((nat_lt a i && b) ≡ true) ⊎ ((a ≡ i) × (b ≡ true))
below_next a i b h =
    let both = and_parts (nat_lt a (i + 1)) b h in
    let l : a < i + 1 = ltb-true a (i + 1) both.0 in
    ⊎_elim (λ (e : a ≡ i). inr (e, both.1)) (λ (o : a ≢ i). let below : a < i = omega (arith, l, o) in inl (and_from (nat_lt a i) b (lt-ltb a i below) both.1)) (cases_eq a i)

pub fields_on : (n : Names) (x i : ℕ) (f : Fact) → is_of_field n x (i + 1) f ≡ true → (is_of_field n x i f ≡ true) ⊎ ((f ≡ Filled i) × (owns_field x (slice_get n.fields i) ≡ true))
fields_on n x i (Filled j) t =
    ⊎_elim (λ below. inl below) (λ last. inr (ap Filled last.0, ap (λ k. owns_field x (slice_get n.fields k)) (sym last.0) ∙ last.1)) (below_next j i (owns_field x (slice_get n.fields j)) t)
fields_on n x i (Ready y) t = absurd (false≢true t)
fields_on n x i (Full y) t = absurd (false≢true t)
fields_on n x i (Equal y z) t = absurd (false≢true t)
fields_on n x i (Apart y z) t = absurd (false≢true t)

pub fields_none : (n : Names) (x : ℕ) (f : Fact) → is_of_field n x 0 f ≡ true → ⊥
fields_none n x (Filled j) t = let l : j < 0 = ltb-true j 0 (and_parts (nat_lt j 0) (owns_field x (slice_get n.fields j)) t).0 in omega (arith, l)
fields_none n x (Ready y) t = false≢true t
fields_none n x (Full y) t = false≢true t
fields_none n x (Equal y z) t = false≢true t
fields_none n x (Apart y z) t = false≢true t

next_pair : (x i y z : ℕ) → ((x == y && nat_lt z (i + 1)) || (x == z && nat_lt y (i + 1))) ≡ true → (((x == y && nat_lt z i) || (x == z && nat_lt y i)) ≡ true) ⊎ (((x == y && i == z) || (x == z && i == y)) ≡ true)
next_pair x i y z t = ⊎_elim (λ first. one (x == y) z (λ e. or_left (x == y && nat_lt z i) (x == z && nat_lt y i) e) (λ e. or_left (x == y && i == z) (x == z && i == y) e) first) (λ second. one (x == z) y (λ e. or_right (x == y && nat_lt z i) (x == z && nat_lt y i) e) (λ e. or_right (x == y && i == z) (x == z && i == y) e) second) (or_cases (x == y && nat_lt z (i + 1)) (x == z && nat_lt y (i + 1)) t)
  where
    one : {P Q : Type 0} (b : Bool) (a : ℕ) → ((b && nat_lt a i) ≡ true → P) → ((b && i == a) ≡ true → Q) → (b && nat_lt a (i + 1)) ≡ true → P ⊎ Q
    one b a p q h =
        let both = and_parts b (nat_lt a (i + 1)) h in
        let l : a < i + 1 = ltb-true a (i + 1) both.1 in
        ⊎_elim (λ (e : i ≡ a). inr (q (and_from b (i == a) both.0 (eq-eqb i a e)))) (λ (o : i ≢ a). let below : a < i = omega (arith, l, o) in inl (p (and_from b (nat_lt a i) both.0 (lt-ltb a i below)))) (cases_eq i a)

pub pairs_next : (x i : ℕ) (f : Fact) → is_of_pair x (i + 1) f ≡ true → (is_of_pair x i f ≡ true) ⊎ (is_of_two x i f ≡ true)
pairs_next x i (Equal y z) t = next_pair x i y z t
pairs_next x i (Apart y z) t = next_pair x i y z t
pairs_next x i (Ready y) t = absurd (false≢true t)
pairs_next x i (Full y) t = absurd (false≢true t)
pairs_next x i (Filled j) t = absurd (false≢true t)

pub no_pair : (x y z : ℕ) → ((x == y && nat_lt z 0) || (x == z && nat_lt y 0)) ≡ true → ⊥
no_pair x y z t =
    ⊎_elim (λ h. let l : z < 0 = ltb-true z 0 (and_parts (x == y) (nat_lt z 0) h).1 in omega (arith, l)) (λ h. let l : y < 0 = ltb-true y 0 (and_parts (x == z) (nat_lt y 0) h).1 in omega (arith, l))
    (or_cases (x == y && nat_lt z 0) (x == z && nat_lt y 0) t)

pub pairs_none : (x : ℕ) (f : Fact) → is_of_pair x 0 f ≡ true → ⊥
pairs_none x (Equal y z) t = no_pair x y z t
pairs_none x (Apart y z) t = no_pair x y z t
pairs_none x (Ready y) t = false≢true t
pairs_none x (Full y) t = false≢true t
pairs_none x (Filled j) t = false≢true t

-- two variables in their order
pub in_order : (kind : ℕ → ℕ → Fact) (x y u v : ℕ) → u < v → ((x == u && y == v) || (x == v && y == u)) ≡ true → kind u v ≡ cond (nat_lt x y) (kind x y) (kind y x)
in_order kind x y u v l t =
    ⊎_elim
    (λ h.
    let both = and_parts (x == u) (y == v) h in
    let a : x ≡ u = eqb-true x u both.0 in
    let b : y ≡ v = eqb-true y v both.1 in
    ap (kind u) (sym b) ∙ ap (λ w. kind w y) (sym a) ∙ ap (λ c. cond c (kind x y) (kind y x)) (sym (lt-ltb x y (omega (arith, l, a, b)))))
    (λ h.
    let both = and_parts (x == v) (y == u) h in
    let a : x ≡ v = eqb-true x v both.0 in
    let b : y ≡ u = eqb-true y u both.1 in
    ap (kind u) (sym a) ∙ ap (λ w. kind w x) (sym b) ∙ ap (λ c. cond c (kind x y) (kind y x)) (sym (not_below x y (omega (arith, l, a, b)))))
    (or_cases (x == u && y == v) (x == v && y == u) t)
  where
    not_below : (a b : ℕ) → b ≤ a → ltb a b ≡ false
    not_below a b h = elim (ltb a b) as (λ c. ltb a b ≡ c → c ≡ false) [ true ↦ λ is. absurd (omega (arith, h, ltb-true a b is)) | false ↦ λ is. refl ] refl

pub two_are : (n : Names) (x y : ℕ) (f : Fact) → is_fact n f ≡ true → is_of_two x y f ≡ true → (f ≡ equal_pair x y) ⊎ (f ≡ apart_pair x y)
two_are n x y (Equal u v) h t = inl (in_order Equal x y u v (ltb-true u v (and_parts (nat_lt u v) (nat_lt v (length n.vars)) h).0) t)
two_are n x y (Apart u v) h t = inr (in_order Apart x y u v (ltb-true u v (and_parts (nat_lt u v) (nat_lt v (length n.vars)) h).0) t)
two_are n x y (Ready z) h t = absurd (false≢true t)
two_are n x y (Full z) h t = absurd (false≢true t)
two_are n x y (Filled j) h t = absurd (false≢true t)

-- both exist and differ
pub both_exist : (m x y u v : ℕ) → u < v → v < m → ((x == u && y == v) || (x == v && y == u)) ≡ true → (x < m) × ((y < m) × (x ≢ y))
both_exist m x y u v l k t =
    ⊎_elim
    (λ h.
    let both = and_parts (x == u) (y == v) h in
    let a : x ≡ u = eqb-true x u both.0 in
    let b : y ≡ v = eqb-true y v both.1 in
    (omega (arith, a, l, k), (omega (arith, b, k), λ e. omega (arith, a, b, e, l))))
    (λ h.
    let both = and_parts (x == v) (y == u) h in
    let a : x ≡ v = eqb-true x v both.0 in
    let b : y ≡ u = eqb-true y u both.1 in
    (omega (arith, a, k), (omega (arith, b, l, k), λ e. omega (arith, a, b, e, l))))
    (or_cases (x == u && y == v) (x == v && y == u) t)

pub two_exist : (n : Names) (x y : ℕ) (f : Fact) → is_fact n f ≡ true → is_of_two x y f ≡ true → (x < length n.vars) × ((y < length n.vars) × (x ≢ y))
two_exist n x y (Equal u v) h t = let both = and_parts (nat_lt u v) (nat_lt v (length n.vars)) h in both_exist (length n.vars) x y u v (ltb-true u v both.0) (ltb-true v (length n.vars) both.1) t
two_exist n x y (Apart u v) h t = let both = and_parts (nat_lt u v) (nat_lt v (length n.vars)) h in both_exist (length n.vars) x y u v (ltb-true u v both.0) (ltb-true v (length n.vars) both.1) t
two_exist n x y (Ready z) h t = absurd (false≢true t)
two_exist n x y (Full z) h t = absurd (false≢true t)
two_exist n x y (Filled j) h t = absurd (false≢true t)
