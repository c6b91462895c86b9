-- Laws of lists of keys to which others are added, each once.
use Rattle.std.proofs.Common.{◌≡◌, ◌≢◌, ℕ, zero, suc, ◌+◌, ◌<◌, ◌≤◌, ◌⊎◌, inl, inr, ⊎_elim, Bool, true, false, if◌then◌else◌, List, [], ◌∷◌, ◌++◌, append-nil, length, map, take, slice_get, get_or, Option, Some, None, refl, ap, sym, ◌∙◌, subst, arith}
use Rattle.std.proofs.lemmas.Bool.{cases_eq}
use Rattle.std.proofs.lemmas.List.{take_more}
use Rattle.std.proofs.lemmas.List.Concat.{flat_map-append}
use Rattle.std.proofs.lemmas.List.Elements.{Contains-append_left, Contains-push_cases}
use Rattle.std.proofs.lemmas.Map.Keys.{IsDistinct-push}
use Rattle.std.proofs.lemmas.Option.{slice_get-get_or, slice_get_within, get_or_from_slice_get}
use Rattle.std.specs.Cmp.{IsEquivalence}
use Rattle.std.specs.List.{Contains, IsDistinct, flat_map, list_any}
use Rattle.indexmap.specs.IndexSet.{insert_all, insert_key}
use Rattle.indexmap.proofs.CallerLemmas.{Contains-insert_key}
use Rattle.ts_domain.specs.Reaching.{IsClosed}
use Rattle.ts_domain.proofs.Members.{at_first, at_later}

module _ {T : Type 0} where
  -- elements by their places
  pub element_at : (xs : List T) (x : T) → Contains xs x → (i : ℕ) × (slice_get xs i ≡ Some x)
  element_at xs x h = (h.0, slice_get-get_or xs h.0 x h.1 ∙ ap Some h.2)

  pub element_from : (xs : List T) (i : ℕ) (x : T) → slice_get xs i ≡ Some x → Contains xs x
  element_from xs i x at = (i, slice_get_within xs i x at, get_or_from_slice_get xs i x x at)

  pub one_element : (o : Option T) (x y : T) → o ≡ Some x → o ≡ Some y → x ≡ y
  one_element o x y a b = let is : Some x ≡ Some y = sym a ∙ b in cc

  get_front : (xs ys : List T) (i : ℕ) (x : T) → slice_get xs i ≡ Some x → slice_get (xs ++ ys) i ≡ Some x
  get_front [] ys i x at = cc
  get_front (z ∷ xs) ys zero x at = at
  get_front (z ∷ xs) ys (suc i) x at = get_front xs ys i x at

  -- one element more is taken
  pub take_on : (xs : List T) (i : ℕ) (x : T) → slice_get xs i ≡ Some x → take (i + 1) xs ≡ take i xs ++ x ∷ []
  take_on xs i x at = take_more xs i x (slice_get_within xs i x at) ∙ ap (λ y. take i xs ++ y ∷ []) (get_or_from_slice_get xs i x x at)

  pub first_or : (x : T) (xs : List T) (k : T) → Contains (x ∷ xs) k → (x ≡ k) ⊎ Contains xs k
  first_or x xs k (zero, l, e) = inl e
  first_or x xs k (suc j, l, e) = inr (j, omega (arith, l), e)

module _ {A B : Type 0} where
  pub flat_on : (f : A → List B) (xs : List A) (i : ℕ) (x : A) → slice_get xs i ≡ Some x → flat_map f (take (i + 1) xs) ≡ flat_map f (take i xs) ++ f x
  flat_on f xs i x at = ap (flat_map f) (take_on xs i x at) ∙ flat_map-append f (take i xs) (x ∷ []) ∙ ap (λ ys. flat_map f (take i xs) ++ ys) (append-nil (f x))

  map_end : (f : A → B) (xs : List A) (x : A) → map f (xs ++ x ∷ []) ≡ map f xs ++ f x ∷ []
  map_end f [] x = refl
  map_end f (y ∷ xs) x = ap (λ ys. f y ∷ ys) (map_end f xs x)

  pub map_on : (f : A → B) (xs : List A) (i : ℕ) (x : A) → slice_get xs i ≡ Some x → map f (take (i + 1) xs) ≡ map f (take i xs) ++ f x ∷ []
  map_on f xs i x at = ap (map f) (take_on xs i x at) ∙ map_end f (take i xs) x

module _ {T : Type 0} (eq : T → T → Bool) where
  pub insert_append : (ks xs ys : List T) → insert_all eq ks (xs ++ ys) ≡ insert_all eq (insert_all eq ks xs) ys
  insert_append ks [] ys = refl
  insert_append ks (x ∷ xs) ys = insert_append (insert_key eq ks x) xs ys

  -- keys stay at their places
  key_stays : (ks : List T) (x : T) (i : ℕ) (k : T) → slice_get ks i ≡ Some k → slice_get (insert_key eq ks x) i ≡ Some k
  key_stays ks x i k at = by (list_any (eq x) ks)
    where
      by : (b : Bool) → slice_get (if b then ks else ks ++ x ∷ []) i ≡ Some k
      by true = at
      by false = get_front ks (x ∷ []) i k at

  pub keys_stay : (ks xs : List T) (i : ℕ) (k : T) → slice_get ks i ≡ Some k → slice_get (insert_all eq ks xs) i ≡ Some k
  keys_stay ks [] i k at = at
  keys_stay ks (x ∷ xs) i k at = keys_stay (insert_key eq ks x) xs i k (key_stays ks x i k at)

  pub keys_keep : (ks xs : List T) (k : T) → Contains ks k → Contains (insert_all eq ks xs) k
  keys_keep ks xs k h = let is = element_at ks k h in element_from (insert_all eq ks xs) is.0 k (keys_stay ks xs is.0 k is.1)

  -- each key was there or is one of the others
  key_from : (ks : List T) (x k : T) → Contains (insert_key eq ks x) k → Contains ks k ⊎ (x ≡ k)
  key_from ks x k h = by (list_any (eq x) ks) h
    where
      by : (b : Bool) → Contains (if b then ks else ks ++ x ∷ []) k → Contains ks k ⊎ (x ≡ k)
      by true c = inl c
      by false c = Contains-push_cases ks x k c

  pub keys_from : (ks xs : List T) (k : T) → Contains (insert_all eq ks xs) k → Contains ks k ⊎ Contains xs k
  keys_from ks [] k h = inl h
  keys_from ks (x ∷ xs) k h =
      ⊎_elim
      (λ c. ⊎_elim (λ old. inl old) (λ e. inr (subst (Contains (x ∷ xs)) e (at_first x xs))) (key_from ks x k c))
      (λ c. inr (at_later x k xs c))
      (keys_from (insert_key eq ks x) xs k h)

  -- no key comes twice
  key_once : IsEquivalence eq → (ks : List T) (x : T) → IsDistinct eq ks → IsDistinct eq (insert_key eq ks x)
  key_once laws ks x d = by (list_any (eq x) ks) refl
    where
      by : (b : Bool) → list_any (eq x) ks ≡ b → IsDistinct eq (if b then ks else ks ++ x ∷ [])
      by true e = d
      by false e = IsDistinct-push laws ks x d e

  pub keys_once : IsEquivalence eq → (ks xs : List T) → IsDistinct eq ks → IsDistinct eq (insert_all eq ks xs)
  keys_once laws ks [] d = d
  keys_once laws ks (x ∷ xs) d = keys_once laws (insert_key eq ks x) xs (key_once laws ks x d)

  -- each of the others is there
  pub keys_to : ((x y : T) → eq x y ≡ true → x ≡ y) → (ks xs : List T) (k : T) → Contains xs k → Contains (insert_all eq ks xs) k
  keys_to same ks [] k (i, l, e) = absurd (omega (arith, l))
  keys_to same ks (x ∷ xs) k h =
      ⊎_elim
      (λ e. keys_keep (insert_key eq ks x) xs k (subst (Contains (insert_key eq ks x)) e (Contains-insert_key eq same ks x)))
      (λ c. keys_to same (insert_key eq ks x) xs k c)
      (first_or x xs k h)

module _ {T : Type 0} (eq : T → T → Bool) where
  -- a key before the others stood there already
  pub key_before : (ks xs : List T) (i : ℕ) (s : T) → i < length ks → slice_get (insert_all eq ks xs) i ≡ Some s → slice_get ks i ≡ Some s
  key_before ks xs i s l at =
      let was : slice_get ks i ≡ Some (get_or ks i s) = slice_get-get_or ks i s l in
      was ∙ ap Some (one_element (slice_get (insert_all eq ks xs) i) (get_or ks i s) s (keys_stay eq ks xs i (get_or ks i s) was) at)

  -- one key more is gone through
  pub closed_on : (Leads : T → T → Type 0) → ((x y : T) → eq x y ≡ true → x ≡ y) → (done : ℕ) (ks xs : List T) (k : T) → IsClosed Leads done ks → slice_get ks done ≡ Some k
      → ((t : T) → Leads k t → Contains xs t) → IsClosed Leads (done + 1) (insert_all eq ks xs)
  closed_on Leads same done ks xs k closed at leads i s t l is goes =
      let within : done < length ks = slice_get_within ks done k at in
      ⊎_elim
      (λ (e : i ≡ done).
      let one : s ≡ k = one_element (slice_get (insert_all eq ks xs) i) s k is (ap (slice_get (insert_all eq ks xs)) e ∙ keys_stay eq ks xs done k at) in
      keys_to eq same ks xs t (leads t (subst (λ u. Leads u t) one goes)))
      (λ (o : i ≢ done).
      let below : i < done = omega (arith, l, o) in
      keys_keep eq ks xs t (closed i s t below (key_before ks xs i s (omega (arith, below, within)) is) goes))
      (cases_eq i done)
