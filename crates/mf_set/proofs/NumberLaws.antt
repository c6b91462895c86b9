-- Laws of sets that are seen as ascending lists: two such lists with the same members are equal, and what each call leaves has the members that its name says.
use Rattle.std.proofs.Common.{◌≡◌, ◌≢◌, ℕ, zero, suc, ◌+◌, ◌<◌, ◌≤◌, Bool, true, false, not, cond, ◌&&◌, ◌||◌, Some, None, ⊎_elim, List, [], ◌∷◌, length, get_or, eqb, ltb, leb, refl, sym, ap, ◌∙◌, subst, arith}
use Rattle.std.proofs.lemmas.Bool.{true≢false, false≢true, eqb-true, eqb-false, eq-eqb, ne_eqb, ltb-true, ltb-false, le-leb, lt-leb, leb-true, leb-false, or_cases, and_parts, and_from, cases_Bool, cases_eq, or_left, or_right}
use Rattle.std.specs.List.{filter, find, Contains}
use Rattle.mf_set.specs.Numbers.{has, IsAscendingFrom, with_number, without_number, union, meet, is_subset}

-- a number of an ascending list is not below its start
pub has_from_low : (low : ℕ) (xs : List ℕ) (n : ℕ) → IsAscendingFrom low xs → has xs n ≡ true → low ≤ n
has_from_low low [] n up h = absurd (false≢true h)
has_from_low low (x ∷ xs) n up h =
    ⊎_elim
    (λ e. let same : x ≡ n = eqb-true x n e in omega (arith, up.0))
    (λ e. let above : suc x ≤ n = has_from_low (suc x) xs n up.1 e in omega (arith, up.0))
    (or_cases (eqb x n) (has xs n) h)

-- what is below the start is not in the list
pub has_not_below : (low : ℕ) (xs : List ℕ) (n : ℕ) → IsAscendingFrom low xs → n < low → has xs n ≡ false
has_not_below low xs n up small =
    ⊎_elim
    (λ e. let above : low ≤ n = has_from_low low xs n up e in absurd (omega arith))
    (λ e. e)
    (cases_Bool (has xs n))

pub has_first : (x : ℕ) (xs : List ℕ) → has (x ∷ xs) x ≡ true
has_first x xs = or_left (eqb x x) (has xs x) (eq-eqb x x refl)

-- the members of the rest
has_rest : (x : ℕ) (xs ys : List ℕ) → IsAscendingFrom (suc x) xs → IsAscendingFrom (suc x) ys → ((n : ℕ) → has (x ∷ xs) n ≡ has (x ∷ ys) n) → (n : ℕ) → has xs n ≡ has ys n
has_rest x xs ys u v h n =
    ⊎_elim
    (λ e. let small : n < suc x = omega arith in has_not_below (suc x) xs n u small ∙ sym (has_not_below (suc x) ys n v small))
    (λ e. subst (λ b. (b || has xs n) ≡ (b || has ys n)) (ne_eqb x n e) (h n))
    (cases_eq x n)

first_upto : (x y : ℕ) (ys : List ℕ) → IsAscendingFrom (suc y) ys → has (y ∷ ys) x ≡ true → y ≤ x
first_upto x y ys v h = has_from_low y (y ∷ ys) x (omega arith, v) h

-- two ascending lists with the same members are equal
pub same_from_members : (low : ℕ) (xs ys : List ℕ) → IsAscendingFrom low xs → IsAscendingFrom low ys → ((n : ℕ) → has xs n ≡ has ys n) → xs ≡ ys
same_from_members low [] [] u v h = refl
same_from_members low [] (y ∷ ys) u v h = absurd (false≢true (h y ∙ has_first y ys))
same_from_members low (x ∷ xs) [] u v h = absurd (false≢true (sym (h x) ∙ has_first x xs))
same_from_members low (x ∷ xs) (y ∷ ys) u v h =
    let one : y ≤ x = first_upto x y ys v.1 (sym (h x) ∙ has_first x xs) in
    let other : x ≤ y = first_upto y x xs u.1 (h y ∙ has_first y ys) in
    let same : y ≡ x = omega arith in
    let v' : IsAscendingFrom (suc x) ys = subst (λ z. IsAscendingFrom (suc z) ys) same v.1 in
    let h' : (n : ℕ) → has (x ∷ xs) n ≡ has (x ∷ ys) n = λ n. subst (λ z. has (x ∷ xs) n ≡ has (z ∷ ys) n) same (h n) in
    ap (λ zs. x ∷ zs) (same_from_members (suc x) xs ys u.1 v' (has_rest x xs ys u.1 v' h')) ∙ ap (λ z. z ∷ ys) (sym same)

-- ---- the members of what each call leaves
choose : (p : ℕ → Bool) (x n : ℕ) (r : Bool) (xs : List ℕ) → has xs n ≡ (r && p n) → has (cond (p x) (x ∷ xs) xs) n ≡ ((eqb x n || r) && p n)
choose p x n r xs h =
    ⊎_elim
    (λ e. subst (λ m. has (cond (p x) (x ∷ xs) xs) m ≡ ((eqb x m || r) && p m)) e
    (let h' : has xs x ≡ (r && p x) = subst (λ m. has xs m ≡ (r && p m)) (sym e) h in
    rw (eq-eqb x x refl) (elim (p x) as (λ b. has xs x ≡ (r && b) → has (cond b (x ∷ xs) xs) x ≡ b) [ true ↦ λ _. has_first x xs | false ↦ λ k. k ∙ and_false r ] h')))
    (λ e. rw (ne_eqb x n e) (skip e))
    (cases_eq x n)
  where
    and_false : (b : Bool) → (b && false) ≡ false
    and_false true = refl
    and_false false = refl

    skip : x ≢ n → has (cond (p x) (x ∷ xs) xs) n ≡ (r && p n)
    skip e = elim (p x) as (λ b. has (cond b (x ∷ xs) xs) n ≡ (r && p n)) [ true ↦ ap (λ b. b || has xs n) (ne_eqb x n e) ∙ h | false ↦ h ]

pub has-filter : (p : ℕ → Bool) (xs : List ℕ) (n : ℕ) → has (filter p xs) n ≡ (has xs n && p n)
has-filter p [] n = refl
has-filter p (x ∷ xs) n = choose p x n (has xs n) (filter p xs) (has-filter p xs n)

or_swap : (a b c : Bool) → (a || (b || c)) ≡ (b || (a || c))
or_swap true true c = refl
or_swap true false c = refl
or_swap false b c = refl

or_again : (a b c : Bool) → a ≡ b → (a || c) ≡ (b || (a || c))
or_again true true c h = refl
or_again true false c h = absurd (true≢false h)
or_again false true c h = absurd (false≢true h)
or_again false false c h = refl

pub has-with_number : (xs : List ℕ) (k n : ℕ) → has (with_number xs k) n ≡ (eqb k n || has xs n)
has-with_number [] k n = refl
has-with_number (x ∷ xs) k n =
    elim (ltb k x) as (λ b. has (cond b (k ∷ x ∷ xs) (cond (eqb k x) (x ∷ xs) (x ∷ with_number xs k))) n ≡ (eqb k n || (eqb x n || has xs n))) [
      | true ↦ refl
      | false ↦
          elim (eqb k x) as (λ b. eqb k x ≡ b → has (cond b (x ∷ xs) (x ∷ with_number xs k)) n ≡ (eqb k n || (eqb x n || has xs n))) [
            | true ↦ λ e. or_again (eqb x n) (eqb k n) (has xs n) (ap (λ m. eqb m n) (sym (eqb-true k x e)))
            | false ↦ λ _. ap (λ b. eqb x n || b) (has-with_number xs k n) ∙ or_swap (eqb x n) (eqb k n) (has xs n)
          ] refl
    ]

pub has-without_number : (xs : List ℕ) (k n : ℕ) → has (without_number xs k) n ≡ (has xs n && not (eqb n k))
has-without_number xs k n = has-filter (λ m. not (eqb m k)) xs n

or_none : (a : Bool) → a ≡ (a || false)
or_none true = refl
or_none false = refl

pub has-union : (xs ys : List ℕ) (n : ℕ) → has (union xs ys) n ≡ (has xs n || has ys n)
has-union xs [] n = or_none (has xs n)
has-union xs (y ∷ ys) n =
    has-with_number (union xs ys) y n ∙ ap (λ b. eqb y n || b) (has-union xs ys n) ∙ or_swap (eqb y n) (has xs n) (has ys n)

pub has-meet : (xs ys : List ℕ) (n : ℕ) → has (meet xs ys) n ≡ (has xs n && has ys n)
has-meet xs ys n = has-filter (has ys) xs n

-- ---- what each call leaves ascends
pub IsAscendingFrom-lower : (low high : ℕ) (xs : List ℕ) → low ≤ high → IsAscendingFrom high xs → IsAscendingFrom low xs
IsAscendingFrom-lower low high [] l up = tt
IsAscendingFrom-lower low high (x ∷ xs) l up = (omega (arith, up.0), up.1)

pub IsAscendingFrom-filter : (p : ℕ → Bool) (low : ℕ) (xs : List ℕ) → IsAscendingFrom low xs → IsAscendingFrom low (filter p xs)
IsAscendingFrom-filter p low [] up = tt
IsAscendingFrom-filter p low (x ∷ xs) up =
    let rest : IsAscendingFrom (suc x) (filter p xs) = IsAscendingFrom-filter p (suc x) xs up.1 in
    let step : low ≤ suc x = omega (arith, up.0) in
    elim (p x) as (λ b. IsAscendingFrom low (cond b (x ∷ filter p xs) (filter p xs))) [
      | true ↦ (up.0, rest)
      | false ↦ IsAscendingFrom-lower low (suc x) (filter p xs) step rest
    ]

pub IsAscendingFrom-with_number : (low : ℕ) (xs : List ℕ) (k : ℕ) → low ≤ k → IsAscendingFrom low xs → IsAscendingFrom low (with_number xs k)
IsAscendingFrom-with_number low [] k l up = (l, tt)
IsAscendingFrom-with_number low (x ∷ xs) k l up =
    elim (ltb k x) as (λ b. ltb k x ≡ b → IsAscendingFrom low (cond b (k ∷ x ∷ xs) (cond (eqb k x) (x ∷ xs) (x ∷ with_number xs k)))) [
      | true ↦ λ e. (l, (let below : k < x = ltb-true k x e in omega arith, up.1))
      | false ↦ λ e.
          elim (eqb k x) as (λ b. eqb k x ≡ b → IsAscendingFrom low (cond b (x ∷ xs) (x ∷ with_number xs k))) [
            | true ↦ λ _. up
            | false ↦ λ d.
                let upto : x ≤ k = ltb-false k x e in
                let other : k ≢ x = eqb-false k x d in
                (up.0, IsAscendingFrom-with_number (suc x) xs k (omega arith) up.1)
          ] refl
    ] refl

pub IsAscendingFrom-union : (xs ys : List ℕ) → IsAscendingFrom 0 xs → IsAscendingFrom 0 (union xs ys)
IsAscendingFrom-union xs [] up = up
IsAscendingFrom-union xs (y ∷ ys) up = IsAscendingFrom-with_number 0 (union xs ys) y (omega arith) (IsAscendingFrom-union xs ys up)

-- ---- the first number that passes a test
pub find_none : (p : ℕ → Bool) (xs : List ℕ) → ((n : ℕ) → has xs n ≡ true → p n ≡ false) → find p xs ≡ None
find_none p [] none = refl
find_none p (x ∷ xs) none =
    rw (none x (has_first x xs)) (find_none p xs (λ n h. none n (or_right (eqb x n) (has xs n) h)))

pub find_least : (p : ℕ → Bool) (low : ℕ) (xs : List ℕ) (k : ℕ) → IsAscendingFrom low xs → has xs k ≡ true → p k ≡ true → ((n : ℕ) → n < k → has xs n ≡ true → p n ≡ false) → find p xs ≡ Some k
find_least p low [] k up h passes least = absurd (false≢true h)
find_least p low (x ∷ xs) k up h passes least =
    ⊎_elim
    (λ e. let same : x ≡ k = eqb-true x k e in subst (λ m. cond (p x) (Some x) (find p xs) ≡ Some m) same (rw (ap p same ∙ passes) refl))
    (λ e.
    let above : suc x ≤ k = has_from_low (suc x) xs k up.1 e in
    rw (least x (omega arith) (has_first x xs)) (find_least p (suc x) xs k up.1 e passes (λ n l i. least n l (or_right (eqb x n) (has xs n) i))))
    (or_cases (eqb x k) (has xs k) h)

-- ---- each number of one list is in another
pub is_subset-members : (xs ys : List ℕ) → is_subset xs ys ≡ true → (n : ℕ) → has xs n ≡ true → has ys n ≡ true
is_subset-members [] ys h n i = absurd (false≢true i)
is_subset-members (x ∷ xs) ys h n i =
    let both = and_parts (has ys x) (is_subset xs ys) h in
    ⊎_elim
    (λ e. subst (λ m. has ys m ≡ true) (eqb-true x n e) both.0)
    (λ e. is_subset-members xs ys both.1 n e)
    (or_cases (eqb x n) (has xs n) i)

pub members-is_subset : (xs ys : List ℕ) → ((n : ℕ) → has xs n ≡ true → has ys n ≡ true) → is_subset xs ys ≡ true
members-is_subset [] ys h = refl
members-is_subset (x ∷ xs) ys h =
    and_from (has ys x) (is_subset xs ys) (h x (has_first x xs)) (members-is_subset xs ys (λ n i. h n (or_right (eqb x n) (has xs n) i)))

-- ---- in std's word
pub has-Contains : (xs : List ℕ) (n : ℕ) → has xs n ≡ true → Contains xs n
has-Contains [] n h = absurd (false≢true h)
has-Contains (x ∷ xs) n h =
    ⊎_elim
    (λ e. (0, omega arith, eqb-true x n e))
    (λ e. let rest : Contains xs n = has-Contains xs n e in (suc rest.0, (let l : rest.0 < length xs = rest.1 in omega arith), rest.2))
    (or_cases (eqb x n) (has xs n) h)

has_at : (xs : List ℕ) (k n : ℕ) → k < length xs → get_or xs k n ≡ n → has xs n ≡ true
has_at [] k n l e = absurd (omega arith)
has_at (x ∷ xs) zero n l e = or_left (eqb x n) (has xs n) (eq-eqb x n e)
has_at (x ∷ xs) (suc k) n l e = or_right (eqb x n) (has xs n) (has_at xs k n (omega arith) e)

pub Contains-has : (xs : List ℕ) (n : ℕ) → Contains xs n → has xs n ≡ true
Contains-has xs n h = has_at xs h.0 n h.1 h.2

-- ---- the number that is found, and the numbers from one on
pub filter_from-all : (from low : ℕ) (xs : List ℕ) → IsAscendingFrom low xs → from ≤ low → filter (leb from) xs ≡ xs
filter_from-all from low [] up l = refl
filter_from-all from low (x ∷ xs) up l =
    rw (le-leb from x (omega (arith, up.0))) (ap (λ ys. x ∷ ys) (filter_from-all from (suc x) xs up.1 (omega (arith, up.0))))

pub find_from-at_least : (from : ℕ) (xs : List ℕ) (n : ℕ) → find (leb from) xs ≡ Some n → from ≤ n
find_from-at_least from [] n h = absurd (cc)
find_from-at_least from (x ∷ xs) n h =
    ⊎_elim
    (λ e. let same : Some x ≡ Some n = subst (λ b. cond b (Some x) (find (leb from) xs) ≡ Some n) e h in let is : x ≡ n = cc in let l : from ≤ x = leb-true from x e in omega arith)
    (λ e. find_from-at_least from xs n (subst (λ b. cond b (Some x) (find (leb from) xs) ≡ Some n) e h))
    (cases_Bool (leb from x))

pub find_has : (p : ℕ → Bool) (xs : List ℕ) (n : ℕ) → find p xs ≡ Some n → has xs n ≡ true
find_has p [] n h = absurd (cc)
find_has p (x ∷ xs) n h =
    ⊎_elim
    (λ e. let same : Some x ≡ Some n = subst (λ b. cond b (Some x) (find p xs) ≡ Some n) e h in let is : x ≡ n = cc in or_left (eqb x n) (has xs n) (eq-eqb x n is))
    (λ e. or_right (eqb x n) (has xs n) (find_has p xs n (subst (λ b. cond b (Some x) (find p xs) ≡ Some n) e h)))
    (cases_Bool (p x))

pub filter_from-next : (low : ℕ) (xs : List ℕ) (from n : ℕ) → IsAscendingFrom low xs → find (leb from) xs ≡ Some n → filter (leb from) xs ≡ n ∷ filter (leb (n + 1)) xs
filter_from-next low [] from n up h = absurd (cc)
filter_from-next low (x ∷ xs) from n up h =
    ⊎_elim
    (λ e.
    let same : Some x ≡ Some n = subst (λ b. cond b (Some x) (find (leb from) xs) ≡ Some n) e h in
    let is : x ≡ n = cc in
    let l : from ≤ x = leb-true from x e in
    let past : x < n + 1 = omega arith in
    ap (λ b. cond b (x ∷ filter (leb from) xs) (filter (leb from) xs)) e
    ∙ ap (λ ys. x ∷ ys) (filter_from-all from (suc x) xs up.1 (omega arith) ∙ sym (filter_from-all (n + 1) (suc x) xs up.1 (omega arith)))
    ∙ ap (λ m. m ∷ filter (leb (n + 1)) xs) is
    ∙ ap (λ b. n ∷ cond b (x ∷ filter (leb (n + 1)) xs) (filter (leb (n + 1)) xs)) (sym (lt-leb (n + 1) x past)))
    (λ e.
    let h' : find (leb from) xs ≡ Some n = subst (λ b. cond b (Some x) (find (leb from) xs) ≡ Some n) e h in
    let l : from ≤ n = find_from-at_least from xs n h' in
    let before : x < from = leb-false from x e in
    let past : x < n + 1 = omega arith in
    ap (λ b. cond b (x ∷ filter (leb from) xs) (filter (leb from) xs)) e
    ∙ filter_from-next (suc x) xs from n up.1 h'
    ∙ ap (λ b. n ∷ cond b (x ∷ filter (leb (n + 1)) xs) (filter (leb (n + 1)) xs)) (sym (lt-leb (n + 1) x past)))
    (cases_Bool (leb from x))
