-- What has to hold before deeds: it is a fact that exists, and a fact of which a deed doesn't speak is its own.
use Rattle.std.proofs.Common.{◌≡◌, ◌≢◌, ℕ, ◌+◌, ◌-◌, ◌<◌, ◌≤◌, ◌==◌, ◌&&◌, ◌||◌, ◌⊎◌, inl, inr, ⊎_elim, Bool, true, false, cond, nat_lt, ltb, List, [], ◌∷◌, ◌++◌, length, take, get_or, slice_get, Option, None, Some, refl, ap, sym, ◌∙◌, arith}
use Rattle.std.proofs.lemmas.Bool.{true≢false, false≢true, eq-eqb, ne_eqb, ltb-true, ltb-false, lt-ltb, or_cases, and_parts, and_from, cases_eq, cases_Bool, or_left, or_right}
use Rattle.std.proofs.lemmas.List.{take_more}
use Rattle.std.specs.List.{position}
use Rattle.std.proofs.lemmas.List.Quantifiers.{position-Some}
use Rattle.mf_set.specs.Numbers.{Numbers}
use Rattle.ts_domain.specs.declared.before.Before.{Before}
use Rattle.ts_domain.specs.declared.before.Before.TheVariants.{Always, Never, Where}
use Rattle.ts_domain.specs.declared.before.Given.{Given}
use Rattle.ts_domain.specs.declared.before.Given.TheVariants.{Copied, Loaded, Nothing, Fresh, Unset}
use Rattle.ts_domain.specs.declared.deed.Deed.{Deed}
use Rattle.ts_domain.specs.declared.deed.Deed.TheVariants.{Reads, Follows, Says, Sets, SetsField}
use Rattle.ts_domain.specs.declared.deed.Looked.TheVariants as looked
use Rattle.ts_domain.specs.declared.deed.Source.{Source}
use Rattle.ts_domain.specs.declared.deed.Source.TheVariants.{Content, Null, New, Undef}
use Rattle.ts_domain.specs.declared.fact.Fact.{Fact}
use Rattle.ts_domain.specs.declared.fact.Fact.TheVariants.{Ready, Full, Filled, Equal, Apart}
use Rattle.ts_domain.specs.declared.names.Names.{Names}
use Rattle.ts_domain.specs.Facts.{apart_of, apart_pair, before_deed, before_deeds, before_given, before_with, equal_of, equal_pair, filled, filled_by, filled_of, follow_shows, full_of, given, is_fact, is_itself, other_of, owns_field, pair_of, read_shows, ready_of, saying_shows, shown, write_shows}
use Rattle.ts_domain.specs.Pointers.{field_place}
use Rattle.path_facts.specs.Corrections.{Carries, Corrects, IsOfVariable, right_set}
use Rattle.path_facts.specs.Numbering.{holds_before, is_known}

-- facts that exist

known_shown : (n : Names) (b : Bool) (f : Fact) → is_fact n f ≡ true → is_known n (shown b f) ≡ true
known_shown n true f h = refl
known_shown n false f h = h

-- two variables in their order
pair_known : (n : Names) (kind : ℕ → ℕ → Fact) (x y : ℕ) → ((u v : ℕ) → is_fact n (kind u v) ≡ (nat_lt u v && nat_lt v (length n.vars))) → x < length n.vars → y < length n.vars → x ≢ y
    → is_fact n (cond (nat_lt x y) (kind x y) (kind y x)) ≡ true
pair_known n kind x y is a b o =
    ⊎_elim
    (λ (l : ltb x y ≡ true). ap (λ c. is_fact n (cond c (kind x y) (kind y x))) l ∙ is x y ∙ and_from (nat_lt x y) (nat_lt y (length n.vars)) l (lt-ltb y (length n.vars) b))
    (λ (l : ltb x y ≡ false).
    let upto : y ≤ x = ltb-false x y l in
    let above : y < x = omega (arith, upto, o) in
    ap (λ c. is_fact n (cond c (kind x y) (kind y x))) l ∙ is y x ∙ and_from (nat_lt y x) (nat_lt x (length n.vars)) (lt-ltb y x above) (lt-ltb x (length n.vars) a))
    (cases_Bool (ltb x y))

pub equal_pair_known : (n : Names) (x y : ℕ) → x < length n.vars → y < length n.vars → x ≢ y → is_fact n (equal_pair x y) ≡ true
equal_pair_known n x y a b o = pair_known n Equal x y (λ u v. refl) a b o

pub apart_pair_known : (n : Names) (x y : ℕ) → x < length n.vars → y < length n.vars → x ≢ y → is_fact n (apart_pair x y) ≡ true
apart_pair_known n x y a b o = pair_known n Apart x y (λ u v. refl) a b o

known_if : (n : Names) (b : Bool) (p q : Before) → is_known n p ≡ true → is_known n q ≡ true → is_known n (cond b p q) ≡ true
known_if n true p q h k = h
known_if n false p q h k = k

-- the variable of a copied content exists
abbrev GivenExists : Names → Given → Type 0
GivenExists n (Copied y) = y < length n.vars
GivenExists n Loaded = Unit {0}
GivenExists n Nothing = Unit {0}
GivenExists n Fresh = Unit {0}
GivenExists n Unset = Unit {0}

pub given_exists : (n : Names) (v : Source) → GivenExists n (given n v)
given_exists n (Content (looked.Name k)) = elim (ltb k (length n.vars)) as (λ b. ltb k (length n.vars) ≡ b → GivenExists n (cond b (Copied k) Loaded)) [ true ↦ λ e. ltb-true k (length n.vars) e | false ↦ λ e. tt ] refl
given_exists n (Content (looked.Deep s f note)) = tt
given_exists n Null = tt
given_exists n (New s) = tt
given_exists n Undef = tt

ready_known : (n : Names) (v : Given) → is_known n (ready_of v) ≡ true
ready_known n (Copied y) = refl
ready_known n Loaded = refl
ready_known n Nothing = refl
ready_known n Fresh = refl
ready_known n Unset = refl

full_known : (n : Names) (v : Given) → GivenExists n v → is_known n (full_of v) ≡ true
full_known n (Copied y) h = lt-ltb y (length n.vars) h
full_known n Loaded h = refl
full_known n Nothing h = refl
full_known n Fresh h = refl
full_known n Unset h = refl

place_known : (n : Names) (o : Option ℕ) → ((j : ℕ) → o ≡ Some j → j < length n.fields) → is_known n (filled o) ≡ true
place_known n None h = refl
place_known n (Some j) h = lt-ltb j (length n.fields) (h j refl)

filled_known : (n : Names) (f : ℕ) (v : Given) → is_known n (filled_of n f v) ≡ true
filled_known n f (Copied y) = place_known n (field_place n.fields y f) (λ j e. (position-Some (λ (p : ℕ × ℕ). p.0 == y && p.1 == f) n.fields j (0, 0) e).0)
filled_known n f Loaded = refl
filled_known n f Nothing = refl
filled_known n f Fresh = refl
filled_known n f Unset = refl

equal_known : (n : Names) (z : ℕ) (v : Given) → z < length n.vars → GivenExists n v → is_known n (equal_of z v) ≡ true
equal_known n z (Copied y) l h = ⊎_elim (λ (e : y ≡ z). ap (λ b. is_known n (cond b Always (Where (equal_pair y z)))) (eq-eqb y z e)) (λ (o : y ≢ z). ap (λ b. is_known n (cond b Always (Where (equal_pair y z)))) (ne_eqb y z o) ∙ equal_pair_known n y z h l o) (cases_eq y z)
equal_known n z Loaded l h = refl
equal_known n z Nothing l h = refl
equal_known n z Fresh l h = refl
equal_known n z Unset l h = refl

apart_known : (n : Names) (z : ℕ) (v : Given) → z < length n.vars → GivenExists n v → is_known n (apart_of z v) ≡ true
apart_known n z (Copied y) l h = ⊎_elim (λ (e : y ≡ z). ap (λ b. is_known n (cond b Never (Where (apart_pair y z)))) (eq-eqb y z e)) (λ (o : y ≢ z). ap (λ b. is_known n (cond b Never (Where (apart_pair y z)))) (ne_eqb y z o) ∙ apart_pair_known n y z h l o) (cases_eq y z)
apart_known n z Loaded l h = refl
apart_known n z Nothing l h = refl
apart_known n z Fresh l h = refl
apart_known n z Unset l h = refl

by_field_known : (n : Names) (h : Fact) (about : ℕ → Before) (x : ℕ) (o : Option (ℕ × ℕ)) → is_fact n h ≡ true → ((f : ℕ) → is_known n (about f) ≡ true) → is_known n (filled_by h about x o) ≡ true
by_field_known n h about x None is k = is
by_field_known n h about x (Some p) is k = known_if n (p.0 == x) (about p.1) (Where h) (k p.1) is

of_pair_known : (n : Names) (f : Fact) (about : ℕ → Before) (x y z : ℕ) → is_fact n f ≡ true → is_known n (about y) ≡ true → is_known n (about z) ≡ true → is_known n (pair_of f about (other_of x y z)) ≡ true
of_pair_known n f about x y z is h k = by (x == y) (x == z)
  where
    by : (a b : Bool) → is_known n (pair_of f about (cond a (Some z) (cond b (Some y) None))) ≡ true
    by true b = k
    by false true = h
    by false false = is

pub given_known : (n : Names) (x : ℕ) (v : Given) (f : Fact) → GivenExists n v → is_fact n f ≡ true → is_known n (before_given n x v f) ≡ true
given_known n x v (Ready y) h is = known_if n (x == y) (ready_of v) (Where (Ready y)) (ready_known n v) is
given_known n x v (Full y) h is = known_if n (x == y) (full_of v) (Where (Full y)) (full_known n v h) is
given_known n x v (Filled j) h is = by_field_known n (Filled j) (λ f. filled_of n f v) x (slice_get n.fields j) is (λ f. filled_known n f v)
given_known n x v (Equal y z) h is =
    let both = and_parts (nat_lt y z) (nat_lt z (length n.vars)) is in
    let l : y < z = ltb-true y z both.0 in
    let k : z < length n.vars = ltb-true z (length n.vars) both.1 in
    of_pair_known n (Equal y z) (λ o. equal_of o v) x y z is (equal_known n y v (omega (arith, l, k)) h) (equal_known n z v k h)
given_known n x v (Apart y z) h is =
    let both = and_parts (nat_lt y z) (nat_lt z (length n.vars)) is in
    let l : y < z = ltb-true y z both.0 in
    let k : z < length n.vars = ltb-true z (length n.vars) both.1 in
    of_pair_known n (Apart y z) (λ o. apart_of o v) x y z is (apart_known n y v (omega (arith, l, k)) h) (apart_known n z v k h)

pub deed_known : (n : Names) (d : Deed) (f : Fact) → is_fact n f ≡ true → is_known n (before_deed n d f) ≡ true
deed_known n (Reads r noted) f h = known_shown n (read_shows n r f) f h
deed_known n (Follows x) f h = known_shown n (follow_shows x f) f h
deed_known n (Says s) f h = known_shown n (saying_shows n s f) f h
deed_known n (Sets x v) f h = known_if n (is_itself x (given n v)) (Where f) (before_given n x (given n v) f) h (given_known n x (given n v) f (given_exists n v) h)
deed_known n (SetsField r s g v) f h = known_shown n (write_shows n r g f) f h

with_known : (n : Names) (d : Deed) (b : Before) → is_known n b ≡ true → is_known n (before_with (before_deed n d) b) ≡ true
with_known n d Always h = refl
with_known n d Never h = refl
with_known n d (Where f) h = deed_known n d f h

pub deeds_known : (n : Names) (ds : List Deed) (f : Fact) → is_fact n f ≡ true → is_known n (before_deeds n ds f) ≡ true
deeds_known n [] f h = h
deeds_known n (d ∷ ds) f h = with_known n d (before_deeds n ds f) (deeds_known n ds f h)

-- facts of which a write speaks

if_own : (b : Bool) (p : Before) (f : Fact) → (cond b p (Where f) ≡ Where f) ⊎ (b ≡ true)
if_own true p f = inr refl
if_own false p f = inl refl

field_own : (h : Fact) (about : ℕ → Before) (x : ℕ) (o : Option (ℕ × ℕ)) → (filled_by h about x o ≡ Where h) ⊎ (owns_field x o ≡ true)
field_own h about x None = inl refl
field_own h about x (Some p) = if_own (p.0 == x) (about p.1) h

pair_own : (f : Fact) (about : ℕ → Before) (x y z : ℕ) → (pair_of f about (other_of x y z) ≡ Where f) ⊎ ((x == y || x == z) ≡ true)
pair_own f about x y z = by (x == y) (x == z)
  where
    by : (a b : Bool) → (pair_of f about (cond a (Some z) (cond b (Some y) None)) ≡ Where f) ⊎ ((a || b) ≡ true)
    by true b = inr refl
    by false true = inr refl
    by false false = inl refl

-- a pair of existing variables of which x is one
of_pair : (m x y z : ℕ) → (nat_lt y z && nat_lt z m) ≡ true → (x == y || x == z) ≡ true → ((x == y && nat_lt z m) || (x == z && nat_lt y m)) ≡ true
of_pair m x y z h t =
    let both = and_parts (nat_lt y z) (nat_lt z m) h in
    let l : y < z = ltb-true y z both.0 in
    let k : z < m = ltb-true z m both.1 in
    let below : y < m = omega (arith, l, k) in
    ⊎_elim (λ e. or_left (x == y && nat_lt z m) (x == z && nat_lt y m) (and_from (x == y) (nat_lt z m) e both.1)) (λ e. or_right (x == y && nat_lt z m) (x == z && nat_lt y m) (and_from (x == z) (nat_lt y m) e (lt-ltb y m below))) (or_cases (x == y) (x == z) t)

or_told : {P A B : Type 0} → P ⊎ A → (A → B) → P ⊎ B
or_told (inl p) f = inl p
or_told (inr a) f = inr (f a)

given_own : (n : Names) (x : ℕ) (v : Given) (f : Fact) → is_fact n f ≡ true → (before_given n x v f ≡ Where f) ⊎ IsOfVariable n x f
given_own n x v (Ready y) h = or_told (if_own (x == y) (ready_of v) (Ready y)) (λ e. inl e)
given_own n x v (Full y) h = or_told (if_own (x == y) (full_of v) (Full y)) (λ e. inl e)
given_own n x v (Filled j) h = or_told (field_own (Filled j) (λ f. filled_of n f v) x (slice_get n.fields j)) (λ e. inr (inl (and_from (nat_lt j (length n.fields)) (owns_field x (slice_get n.fields j)) h e)))
given_own n x v (Equal y z) h = or_told (pair_own (Equal y z) (λ o. equal_of o v) x y z) (λ e. inr (inr (of_pair (length n.vars) x y z h e)))
given_own n x v (Apart y z) h = or_told (pair_own (Apart y z) (λ o. apart_of o v) x y z) (λ e. inr (inr (of_pair (length n.vars) x y z h e)))

-- sets over deeds

if_false : (b : Bool) (p q : Before) → b ≡ false → cond b p q ≡ q
if_false true p q h = absurd (true≢false h)
if_false false p q h = refl

if_true : (b : Bool) (p q : Before) → b ≡ true → cond b p q ≡ p
if_true true p q h = refl
if_true false p q h = absurd (false≢true h)

-- over a write to a variable, and over one of its own content
pub carries_write : (n : Names) (x : ℕ) (v : Source) (old new : Numbers) → is_itself x (given n v) ≡ false → Corrects n (right_set n x v old) (IsOfVariable n x) old new → Carries n (before_deed n (Sets x v)) old new
carries_write n x v old new isnt is = record {
  room = is.room;
  facts = λ f h.
      ⊎_elim (λ own. ⊎_elim (λ e. e) (λ e. e ∙ ap (holds_before n old) (sym own)) (is.each f h)) (λ told. is.done f h told) (given_own n x (given n v) f h)
      ∙ ap (holds_before n old) (sym (if_false (is_itself x (given n v)) (Where f) (before_given n x (given n v) f) isnt));
}

pub carries_itself : (n : Names) (x : ℕ) (v : Source) (s : Numbers) → is_itself x (given n v) ≡ true → Carries n (before_deed n (Sets x v)) s s
carries_itself n x v s is = record { room = refl; facts = λ f h. ap (holds_before n s) (sym (if_true (is_itself x (given n v)) (Where f) (before_given n x (given n v) f) is)) }

with_with : (p q : Fact → Before) (b : Before) → before_with p (before_with q b) ≡ before_with (λ f. before_with p (q f)) b
with_with p q Always = refl
with_with p q Never = refl
with_with p q (Where f) = refl

with_none : (n : Names) (b : Before) → b ≡ before_with (before_deeds n []) b
with_none n Always = refl
with_none n Never = refl
with_none n (Where f) = refl

deeds_more : (n : Names) (ds : List Deed) (d : Deed) (f : Fact) → before_deeds n (ds ++ d ∷ []) f ≡ before_with (before_deeds n ds) (before_deed n d f)
deeds_more n [] d f = with_none n (before_deed n d f)
deeds_more n (x ∷ ds) d f = ap (before_with (before_deed n x)) (deeds_more n ds d f) ∙ with_with (before_deed n x) (before_deeds n ds) (before_deed n d f)

carried : (n : Names) (before : Fact → Before) (a b : Numbers) (x : Before) → Carries n before a b → is_known n x ≡ true → holds_before n b x ≡ holds_before n a (before_with before x)
carried n before a b Always is h = refl
carried n before a b Never is h = refl
carried n before a b (Where f) is h = is.facts f h

pub carries_none : (n : Names) (s : Numbers) → Carries n (before_deeds n []) s s
carries_none n s = record { room = refl; facts = λ f h. refl }

pub carries_more : (n : Names) (ds : List Deed) (i : ℕ) (d0 : Deed) (a b c : Numbers) → i < length ds → Carries n (before_deeds n (take i ds)) a b → Carries n (before_deed n (get_or ds i d0)) b c → Carries n (before_deeds n (take (i + 1) ds)) a c
carries_more n ds i d0 a b c l p q = record {
  room = q.room ∙ p.room;
  facts = λ f h.
      let d : Deed = get_or ds i d0 in
      q.facts f h ∙ carried n (before_deeds n (take i ds)) a b (before_deed n d f) p (deed_known n d f h)
      ∙ ap (holds_before n a) (sym (ap (λ xs. before_deeds n xs f) (take_more ds i d0 l) ∙ deeds_more n (take i ds) d f));
}
