-- Facts that are put into a set, one behind another.
use Rattle.std.proofs.Common.{◌≡◌, ◌≢◌, ℕ, ◌+◌, ◌-◌, ◌<◌, ◌≤◌, ◌==◌, ◌&&◌, ◌||◌, ⊎_elim, Bool, true, false, cond, nat_lt, eqb, ltb, length, slice_get, Option, None, Some, refl, ap, sym, ◌∙◌, arith}
use Rattle.std.proofs.lemmas.Bool.{true≢false, false≢true, eqb-true, eq-eqb, ne_eqb, ltb-true, ltb-false, lt-ltb, and_parts, and_from, cases_eq, cases_Bool, or_left, or_right}
use Rattle.mf_set.specs.Numbers.{Numbers, has as has_number, with_number}
use Rattle.mf_set.proofs.NumberLaws.{has-with_number}
use Rattle.ts_domain.specs.declared.deed.Looked.{Looked}
use Rattle.ts_domain.specs.declared.deed.Looked.TheVariants as looked
use Rattle.ts_domain.specs.declared.fact.Fact.{Fact}
use Rattle.ts_domain.specs.declared.fact.Fact.TheVariants.{Ready, Full, Filled, Equal, Apart}
use Rattle.ts_domain.specs.declared.names.Names.{Names}
use Rattle.ts_domain.specs.declared.names.Read.TheVariants as read
use Rattle.ts_domain.specs.Facts.{apart_pair, differ_shows, equal_pair, equal_shows, follow_shows, is_fact, is_pair, null_shows, number_of, owns_field, read_shows, shown, write_shows}
use Rattle.path_facts.specs.Corrections.{Carries}
use Rattle.path_facts.specs.Numbering.{holds, holds_before}
use Rattle.path_facts.specs.Shows.{Shows, chosen, is_apart_from, is_filled, is_filled_at}
use Rattle.path_facts.proofs.CorrectionLaws.{both_exist, in_order, no_pair}
use Rattle.path_facts.proofs.DeedLaws.{apart_pair_known, equal_pair_known}
use Rattle.path_facts.proofs.FactNumbers.{number_once}

-- one fact

pub shows_one : (n : Names) (f : Fact) (shows : Fact → Bool) (old new : Numbers) → is_fact n f ≡ true → new ≡ record old { items = with_number old.items (number_of n f) } → shows f ≡ true
    → ((g : Fact) → is_fact n g ≡ true → shows g ≡ true → g ≡ f) → Shows n shows old new
shows_one n f shows old new is made here only = record {
  room = ap (λ (s : Numbers). s.room) made;
  facts = λ g h. ap (λ (s : Numbers). has_number s.items (number_of n g)) made ∙ has-with_number old.items (number_of n f) (number_of n g) ∙ ap (λ b. b || holds n old g) (same g h);
}
  where
    same : (g : Fact) → is_fact n g ≡ true → eqb (number_of n f) (number_of n g) ≡ shows g
    same g h =
        ⊎_elim
        (λ (e : shows g ≡ true). eq-eqb (number_of n f) (number_of n g) (ap (number_of n) (sym (only g h e))) ∙ sym e)
        (λ (e : shows g ≡ false). ne_eqb (number_of n f) (number_of n g) (λ at. true≢false (sym here ∙ ap shows (number_once (length n.vars) (length n.fields) f g is h at) ∙ e)) ∙ sym e)
        (cases_Bool (shows g))

not_true : (b : Bool) → (b ≡ true → ⊥) → b ≡ false
not_true true h = absurd (h refl)
not_true false h = refl

pub shows_none : (n : Names) (shows : Fact → Bool) (s : Numbers) → ((g : Fact) → is_fact n g ≡ true → shows g ≡ true → ⊥) → Shows n shows s s
shows_none n shows s none' = record { room = refl; facts = λ g h. ap (λ b. b || holds n s g) (sym (not_true (shows g) (none' g h))) }

or_between : (a b c : Bool) → (b || (a || c)) ≡ ((b || a) || c)
or_between a true c = refl
or_between a false c = refl

pub shows_on : (n : Names) (one two both : Fact → Bool) (a b c : Numbers) → Shows n one a b → Shows n two b c → ((f : Fact) → is_fact n f ≡ true → both f ≡ (two f || one f)) → Shows n both a c
shows_on n one two both a b c p q split = record {
  room = q.room ∙ p.room;
  facts = λ f h. q.facts f h ∙ ap (λ x. two f || x) (p.facts f h) ∙ or_between (one f) (two f) (holds n a f) ∙ ap (λ x. x || holds n a f) (sym (split f h));
}

pub shows_same : (n : Names) (one other : Fact → Bool) (a b : Numbers) → Shows n one a b → ((f : Fact) → is_fact n f ≡ true → other f ≡ one f) → Shows n other a b
shows_same n one other a b p same = record { room = p.room; facts = λ f h. p.facts f h ∙ ap (λ x. x || holds n a f) (sym (same f h)) }

shown_holds : (n : Names) (s : Numbers) (b : Bool) (f : Fact) → (b || holds n s f) ≡ holds_before n s (shown b f)
shown_holds n s true f = refl
shown_holds n s false f = refl

-- over a deed that only shows facts
pub carries_shown : (n : Names) (shows : Fact → Bool) (a b : Numbers) → Shows n shows a b → Carries n (λ f. shown (shows f) f) a b
carries_shown n shows a b p = record { room = p.room; facts = λ f h. p.facts f h ∙ shown_holds n a (shows f) f }

-- names

pub ready_shown : (n : Names) (k : ℕ) (old new : Numbers) → k < length n.vars → new ≡ record old { items = with_number old.items (number_of n (Ready k)) } → Shows n (read_shows n (read.Name k)) old new
ready_shown n k old new l made = shows_one n (Ready k) (read_shows n (read.Name k)) old new (lt-ltb k (length n.vars) l) made (eq-eqb k k refl) only
  where
    only : (g : Fact) → is_fact n g ≡ true → read_shows n (read.Name k) g ≡ true → g ≡ Ready k
    only (Ready x) h t = ap Ready (sym (eqb-true k x t))
    only (Full x) h t = absurd (false≢true t)
    only (Filled j) h t = let e : k ≡ length n.vars + j = eqb-true k (length n.vars + j) t in absurd (omega (arith, e, l))
    only (Equal x y) h t = absurd (false≢true t)
    only (Apart x y) h t = absurd (false≢true t)

pub filled_shown : (n : Names) (k : ℕ) (old new : Numbers) → length n.vars ≤ k → k - length n.vars < length n.fields → new ≡ record old { items = with_number old.items (number_of n (Filled (k - length n.vars))) } → Shows n (read_shows n (read.Name k)) old new
filled_shown n k old new past l made =
    let at : k ≡ length n.vars + (k - length n.vars) = omega (arith, past) in
    shows_one n (Filled (k - length n.vars)) (read_shows n (read.Name k)) old new (lt-ltb (k - length n.vars) (length n.fields) l) made (eq-eqb k (length n.vars + (k - length n.vars)) at) only
  where
    only : (g : Fact) → is_fact n g ≡ true → read_shows n (read.Name k) g ≡ true → g ≡ Filled (k - length n.vars)
    only (Ready x) h t = let e : k ≡ x = eqb-true k x t in let below : x < length n.vars = ltb-true x (length n.vars) h in absurd (omega (arith, e, past, below))
    only (Full x) h t = absurd (false≢true t)
    only (Filled j) h t = let e : k ≡ length n.vars + j = eqb-true k (length n.vars + j) t in let same : j ≡ k - length n.vars = omega (arith, e) in ap Filled same
    only (Equal x y) h t = absurd (false≢true t)
    only (Apart x y) h t = absurd (false≢true t)

pub name_shows_none : (n : Names) (k : ℕ) (s : Numbers) → length n.vars ≤ k → length n.fields ≤ k - length n.vars → Shows n (read_shows n (read.Name k)) s s
name_shows_none n k s past beyond = shows_none n (read_shows n (read.Name k)) s none'
  where
    none' : (g : Fact) → is_fact n g ≡ true → read_shows n (read.Name k) g ≡ true → ⊥
    none' (Ready x) h t = let e : k ≡ x = eqb-true k x t in let below : x < length n.vars = ltb-true x (length n.vars) h in omega (arith, e, past, below)
    none' (Full x) h t = false≢true t
    none' (Filled j) h t = let e : k ≡ length n.vars + j = eqb-true k (length n.vars + j) t in let below : j < length n.fields = ltb-true j (length n.fields) h in omega (arith, e, beyond, below)
    none' (Equal x y) h t = false≢true t
    none' (Apart x y) h t = false≢true t

pub deep_shows_none : (n : Names) (c f : ℕ) (s : Numbers) → Shows n (read_shows n (read.Deep c f)) s s
deep_shows_none n c f s = shows_none n (read_shows n (read.Deep c f)) s none'
  where
    none' : (g : Fact) → is_fact n g ≡ true → read_shows n (read.Deep c f) g ≡ true → ⊥
    none' (Ready x) h t = false≢true t
    none' (Full x) h t = false≢true t
    none' (Filled j) h t = false≢true t
    none' (Equal x y) h t = false≢true t
    none' (Apart x y) h t = false≢true t

pub full_shown : (n : Names) (k : ℕ) (old new : Numbers) → k < length n.vars → new ≡ record old { items = with_number old.items (number_of n (Full k)) } → Shows n (follow_shows k) old new
full_shown n k old new l made = shows_one n (Full k) (follow_shows k) old new (lt-ltb k (length n.vars) l) made (eq-eqb k k refl) only
  where
    only : (g : Fact) → is_fact n g ≡ true → follow_shows k g ≡ true → g ≡ Full k
    only (Ready x) h t = absurd (false≢true t)
    only (Full x) h t = ap Full (sym (eqb-true k x t))
    only (Filled j) h t = absurd (false≢true t)
    only (Equal x y) h t = absurd (false≢true t)
    only (Apart x y) h t = absurd (false≢true t)

pub follow_shows_none : (n : Names) (k : ℕ) (s : Numbers) → length n.vars ≤ k → Shows n (follow_shows k) s s
follow_shows_none n k s past = shows_none n (follow_shows k) s none'
  where
    none' : (g : Fact) → is_fact n g ≡ true → follow_shows k g ≡ true → ⊥
    none' (Ready x) h t = false≢true t
    none' (Full x) h t = let e : k ≡ x = eqb-true k x t in let below : x < length n.vars = ltb-true x (length n.vars) h in omega (arith, e, past, below)
    none' (Filled j) h t = false≢true t
    none' (Equal x y) h t = false≢true t
    none' (Apart x y) h t = false≢true t

-- fields

pub field_shown : (n : Names) (x : ℕ) (number : Option ℕ) (i : ℕ) (old new : Numbers) → i < length n.fields → chosen x number (slice_get n.fields i) ≡ true → new ≡ record old { items = with_number old.items (number_of n (Filled i)) } → Shows n (is_filled_at n x number i) old new
field_shown n x number i old new l is made =
    shows_one n (Filled i) (is_filled_at n x number i) old new (lt-ltb i (length n.fields) l) made (and_from (i == i) (chosen x number (slice_get n.fields i)) (eq-eqb i i refl) is) only
  where
    only : (g : Fact) → is_fact n g ≡ true → is_filled_at n x number i g ≡ true → g ≡ Filled i
    only (Ready y) h t = absurd (false≢true t)
    only (Full y) h t = absurd (false≢true t)
    only (Filled j) h t = ap Filled (eqb-true j i (and_parts (j == i) (chosen x number (slice_get n.fields i)) t).0)
    only (Equal y z) h t = absurd (false≢true t)
    only (Apart y z) h t = absurd (false≢true t)

pub field_shows_none : (n : Names) (x : ℕ) (number : Option ℕ) (i : ℕ) (s : Numbers) → chosen x number (slice_get n.fields i) ≡ false → Shows n (is_filled_at n x number i) s s
field_shows_none n x number i s isnt = shows_none n (is_filled_at n x number i) s none'
  where
    none' : (g : Fact) → is_fact n g ≡ true → is_filled_at n x number i g ≡ true → ⊥
    none' (Ready y) h t = false≢true t
    none' (Full y) h t = false≢true t
    none' (Filled j) h t = true≢false (sym (and_parts (j == i) (chosen x number (slice_get n.fields i)) t).1 ∙ isnt)
    none' (Equal y z) h t = false≢true t
    none' (Apart y z) h t = false≢true t

not_below : (a b : ℕ) → b ≤ a → nat_lt a b ≡ false
not_below a b h = not_true (nat_lt a b) (λ is. let l : a < b = ltb-true a b is in omega (arith, h, l))

same_below : (a i : ℕ) → a ≢ i → nat_lt a (i + 1) ≡ nat_lt a i
same_below a i o =
    ⊎_elim
    (λ (e : nat_lt a i ≡ true). let l : a < i = ltb-true a i e in lt-ltb a (i + 1) (omega (arith, l)) ∙ sym e)
    (λ (e : nat_lt a i ≡ false). let l : i ≤ a = ltb-false a i e in not_below a (i + 1) (omega (arith, l, o)) ∙ sym e)
    (cases_Bool (nat_lt a i))

or_false : (b : Bool) → (b || false) ≡ b
or_false true = refl
or_false false = refl

and_true : (b : Bool) → (b && true) ≡ b
and_true true = refl
and_true false = refl

last_of : (T : ℕ → Bool) (j i : ℕ) → (nat_lt j (i + 1) && T j) ≡ ((j == i && T i) || (nat_lt j i && T j))
last_of T j i =
    ⊎_elim
    (λ (e : j ≡ i).
    ap (λ b. b && T j) (lt-ltb j (i + 1) (omega (arith, e)))
    ∙ sym (ap (λ b. (b && T i) || (nat_lt j i && T j)) (eq-eqb j i e) ∙ ap (λ b. T i || (b && T j)) (not_below j i (omega (arith, e))) ∙ or_false (T i) ∙ ap T (sym e)))
    (λ (o : j ≢ i). ap (λ b. b && T j) (same_below j i o) ∙ sym (ap (λ b. (b && T i) || (nat_lt j i && T j)) (ne_eqb j i o)))
    (cases_eq j i)

pub fields_show_more : (n : Names) (x : ℕ) (number : Option ℕ) (i : ℕ) (a b c : Numbers) → Shows n (is_filled n x number i) a b → Shows n (is_filled_at n x number i) b c → Shows n (is_filled n x number (i + 1)) a c
fields_show_more n x number i a b c p q = shows_on n (is_filled n x number i) (is_filled_at n x number i) (is_filled n x number (i + 1)) a b c p q split
  where
    split : (f : Fact) → is_fact n f ≡ true → is_filled n x number (i + 1) f ≡ (is_filled_at n x number i f || is_filled n x number i f)
    split (Ready y) h = refl
    split (Full y) h = refl
    split (Filled j) h = last_of (λ k. chosen x number (slice_get n.fields k)) j i
    split (Equal y z) h = refl
    split (Apart y z) h = refl

pub fields_show_none : (n : Names) (x : ℕ) (number : Option ℕ) (s : Numbers) → Shows n (is_filled n x number 0) s s
fields_show_none n x number s = shows_none n (is_filled n x number 0) s none'
  where
    none' : (g : Fact) → is_fact n g ≡ true → is_filled n x number 0 g ≡ true → ⊥
    none' (Ready y) h t = false≢true t
    none' (Full y) h t = false≢true t
    none' (Filled j) h t = let l : j < 0 = ltb-true j 0 (and_parts (nat_lt j 0) (chosen x number (slice_get n.fields j)) t).0 in omega (arith, l)
    none' (Equal y z) h t = false≢true t
    none' (Apart y z) h t = false≢true t

pub stored_shown : (n : Names) (x f : ℕ) (a b : Numbers) → Shows n (is_filled n x (Some f) (length n.fields)) a b → Shows n (write_shows n (read.Name x) f) a b
stored_shown n x f a b p = shows_same n (is_filled n x (Some f) (length n.fields)) (write_shows n (read.Name x) f) a b p same
  where
    same : (g : Fact) → is_fact n g ≡ true → write_shows n (read.Name x) f g ≡ is_filled n x (Some f) (length n.fields) g
    same (Ready y) h = refl
    same (Full y) h = refl
    same (Filled j) h = sym (ap (λ b. b && chosen x (Some f) (slice_get n.fields j)) h)
    same (Equal y z) h = refl
    same (Apart y z) h = refl

pub stored_deep_none : (n : Names) (c d f : ℕ) (s : Numbers) → Shows n (write_shows n (read.Deep c d) f) s s
stored_deep_none n c d f s = shows_none n (write_shows n (read.Deep c d) f) s (λ g h t. false≢true t)

-- pairs

pair_here : (x y : ℕ) (b : Bool) → equal_shows (looked.Name x) (looked.Name y) (cond b (Equal x y) (Equal y x)) ≡ true
pair_here x y true = or_left (x == x && y == y) (x == y && y == x) (and_from (x == x) (y == y) (eq-eqb x x refl) (eq-eqb y y refl))
pair_here x y false = or_right (x == y && y == x) (x == x && y == y) (and_from (x == x) (y == y) (eq-eqb x x refl) (eq-eqb y y refl))

apart_here : (x y : ℕ) (b : Bool) → differ_shows (looked.Name x) (looked.Name y) (cond b (Apart x y) (Apart y x)) ≡ true
apart_here x y true = or_left (x == x && y == y) (x == y && y == x) (and_from (x == x) (y == y) (eq-eqb x x refl) (eq-eqb y y refl))
apart_here x y false = or_right (x == y && y == x) (x == x && y == y) (and_from (x == x) (y == y) (eq-eqb x x refl) (eq-eqb y y refl))

pub equal_shown : (n : Names) (x y : ℕ) (old new : Numbers) → x < length n.vars → y < length n.vars → x ≢ y → new ≡ record old { items = with_number old.items (number_of n (equal_pair x y)) } → Shows n (equal_shows (looked.Name x) (looked.Name y)) old new
equal_shown n x y old new a b o made = shows_one n (equal_pair x y) (equal_shows (looked.Name x) (looked.Name y)) old new (equal_pair_known n x y a b o) made (pair_here x y (nat_lt x y)) only
  where
    only : (g : Fact) → is_fact n g ≡ true → equal_shows (looked.Name x) (looked.Name y) g ≡ true → g ≡ equal_pair x y
    only (Ready z) h t = absurd (false≢true t)
    only (Full z) h t = absurd (false≢true t)
    only (Filled j) h t = absurd (false≢true t)
    only (Equal u v) h t = in_order Equal x y u v (ltb-true u v (and_parts (nat_lt u v) (nat_lt v (length n.vars)) h).0) t
    only (Apart u v) h t = absurd (false≢true t)

pub apart_shown : (n : Names) (x y : ℕ) (old new : Numbers) → x < length n.vars → y < length n.vars → x ≢ y → new ≡ record old { items = with_number old.items (number_of n (apart_pair x y)) } → Shows n (differ_shows (looked.Name x) (looked.Name y)) old new
apart_shown n x y old new a b o made = shows_one n (apart_pair x y) (differ_shows (looked.Name x) (looked.Name y)) old new (apart_pair_known n x y a b o) made (apart_here x y (nat_lt x y)) only
  where
    only : (g : Fact) → is_fact n g ≡ true → differ_shows (looked.Name x) (looked.Name y) g ≡ true → g ≡ apart_pair x y
    only (Ready z) h t = absurd (false≢true t)
    only (Full z) h t = absurd (false≢true t)
    only (Filled j) h t = absurd (false≢true t)
    only (Equal u v) h t = absurd (false≢true t)
    only (Apart u v) h t = in_order Apart x y u v (ltb-true u v (and_parts (nat_lt u v) (nat_lt v (length n.vars)) h).0) t

-- no pair of which one is missing, and none of one variable
pub equal_shows_none : (n : Names) (x y : ℕ) (s : Numbers) → (x < length n.vars → y < length n.vars → x ≢ y → ⊥) → Shows n (equal_shows (looked.Name x) (looked.Name y)) s s
equal_shows_none n x y s no' = shows_none n (equal_shows (looked.Name x) (looked.Name y)) s none'
  where
    none' : (g : Fact) → is_fact n g ≡ true → equal_shows (looked.Name x) (looked.Name y) g ≡ true → ⊥
    none' (Ready z) h t = false≢true t
    none' (Full z) h t = false≢true t
    none' (Filled j) h t = false≢true t
    none' (Equal u v) h t = let both = and_parts (nat_lt u v) (nat_lt v (length n.vars)) h in let it = both_exist (length n.vars) x y u v (ltb-true u v both.0) (ltb-true v (length n.vars) both.1) t in no' it.0 it.1.0 it.1.1
    none' (Apart u v) h t = false≢true t

pub differ_shows_none : (n : Names) (x y : ℕ) (s : Numbers) → (x < length n.vars → y < length n.vars → x ≢ y → ⊥) → Shows n (differ_shows (looked.Name x) (looked.Name y)) s s
differ_shows_none n x y s no' = shows_none n (differ_shows (looked.Name x) (looked.Name y)) s none'
  where
    none' : (g : Fact) → is_fact n g ≡ true → differ_shows (looked.Name x) (looked.Name y) g ≡ true → ⊥
    none' (Ready z) h t = false≢true t
    none' (Full z) h t = false≢true t
    none' (Filled j) h t = false≢true t
    none' (Equal u v) h t = false≢true t
    none' (Apart u v) h t = let both = and_parts (nat_lt u v) (nat_lt v (length n.vars)) h in let it = both_exist (length n.vars) x y u v (ltb-true u v both.0) (ltb-true v (length n.vars) both.1) t in no' it.0 it.1.0 it.1.1

-- what is behind a longer chain is no variable
equal_deep : (l r : Looked) (g : Fact) → ((u v : ℕ) → is_pair l r u v ≡ false) → equal_shows l r g ≡ true → ⊥
equal_deep l r (Ready z) deep t = false≢true t
equal_deep l r (Full z) deep t = false≢true t
equal_deep l r (Filled j) deep t = false≢true t
equal_deep l r (Equal u v) deep t = true≢false (sym t ∙ deep u v)
equal_deep l r (Apart u v) deep t = false≢true t

differ_deep : (l r : Looked) (g : Fact) → ((u v : ℕ) → is_pair l r u v ≡ false) → differ_shows l r g ≡ true → ⊥
differ_deep l r (Ready z) deep t = false≢true t
differ_deep l r (Full z) deep t = false≢true t
differ_deep l r (Filled j) deep t = false≢true t
differ_deep l r (Equal u v) deep t = false≢true t
differ_deep l r (Apart u v) deep t = true≢false (sym t ∙ deep u v)

pub equal_deep_none : (n : Names) (l r : Looked) (s : Numbers) → ((u v : ℕ) → is_pair l r u v ≡ false) → Shows n (equal_shows l r) s s
equal_deep_none n l r s deep = shows_none n (equal_shows l r) s (λ g h t. equal_deep l r g deep t)

pub differ_deep_none : (n : Names) (l r : Looked) (s : Numbers) → ((u v : ℕ) → is_pair l r u v ≡ false) → Shows n (differ_shows l r) s s
differ_deep_none n l r s deep = shows_none n (differ_shows l r) s (λ g h t. differ_deep l r g deep t)

-- all pairs of a variable

last_below : (a i : ℕ) → nat_lt a (i + 1) ≡ (i == a || nat_lt a i)
last_below a i =
    ⊎_elim
    (λ (e : i ≡ a). lt-ltb a (i + 1) (omega (arith, e)) ∙ sym (ap (λ b. b || nat_lt a i) (eq-eqb i a e)))
    (λ (o : i ≢ a). same_below a i (λ e. o (sym e)) ∙ sym (ap (λ b. b || nat_lt a i) (ne_eqb i a o)))
    (cases_eq i a)

swap : (a b p q r s : Bool) → ((a && (p || q)) || (b && (r || s))) ≡ (((a && p) || (b && r)) || ((a && q) || (b && s)))
swap false false p q r s = refl
swap false true p q r s = refl
swap true false true q r s = refl
swap true false false true r s = refl
swap true false false false r s = refl
swap true true true q r s = refl
swap true true false true true s = refl
swap true true false true false s = refl
swap true true false false r s = refl

pub aparts_show_more : (n : Names) (x i : ℕ) (a b c : Numbers) → Shows n (is_apart_from x i) a b → Shows n (differ_shows (looked.Name x) (looked.Name i)) b c → Shows n (is_apart_from x (i + 1)) a c
aparts_show_more n x i a b c p q = shows_on n (is_apart_from x i) (differ_shows (looked.Name x) (looked.Name i)) (is_apart_from x (i + 1)) a b c p q split
  where
    split : (f : Fact) → is_fact n f ≡ true → is_apart_from x (i + 1) f ≡ (differ_shows (looked.Name x) (looked.Name i) f || is_apart_from x i f)
    split (Ready y) h = refl
    split (Full y) h = refl
    split (Filled j) h = refl
    split (Equal y z) h = refl
    split (Apart y z) h =
        ap (λ b. (x == y && b) || (x == z && nat_lt y (i + 1))) (last_below z i)
        ∙ ap (λ b. (x == y && (i == z || nat_lt z i)) || (x == z && b)) (last_below y i)
        ∙ swap (x == y) (x == z) (i == z) (nat_lt z i) (i == y) (nat_lt y i)

pub aparts_show_none : (n : Names) (x : ℕ) (s : Numbers) → Shows n (is_apart_from x 0) s s
aparts_show_none n x s = shows_none n (is_apart_from x 0) s none'
  where
    none' : (g : Fact) → is_fact n g ≡ true → is_apart_from x 0 g ≡ true → ⊥
    none' (Ready y) h t = false≢true t
    none' (Full y) h t = false≢true t
    none' (Filled j) h t = false≢true t
    none' (Equal y z) h t = false≢true t
    none' (Apart y z) h t = no_pair x y z t

-- a null pointer
pub null_shown : (n : Names) (x : ℕ) (a b c : Numbers) → Shows n (is_filled n x None (length n.fields)) a b → Shows n (is_apart_from x (length n.vars)) b c → Shows n (null_shows n x) a c
null_shown n x a b c p q = shows_on n (is_filled n x None (length n.fields)) (is_apart_from x (length n.vars)) (null_shows n x) a b c p q split
  where
    split : (f : Fact) → is_fact n f ≡ true → null_shows n x f ≡ (is_apart_from x (length n.vars) f || is_filled n x None (length n.fields) f)
    split (Ready y) h = refl
    split (Full y) h = refl
    split (Filled j) h = sym (ap (λ b. b && owns_field x (slice_get n.fields j)) h)
    split (Equal y z) h = refl
    split (Apart y z) h =
        let both = and_parts (nat_lt y z) (nat_lt z (length n.vars)) h in
        let l : y < z = ltb-true y z both.0 in
        let k : z < length n.vars = ltb-true z (length n.vars) both.1 in
        let low : nat_lt y (length n.vars) ≡ true = lt-ltb y (length n.vars) (omega (arith, l, k)) in
        sym
        (ap (λ b. ((x == y && b) || (x == z && nat_lt y (length n.vars))) || false) both.1
        ∙ ap (λ b. ((x == y && true) || (x == z && b)) || false) low
        ∙ or_false ((x == y && true) || (x == z && true))
        ∙ ap (λ b. b || (x == z && true)) (and_true (x == y)) ∙ ap (λ b. x == y || b) (and_true (x == z)))
