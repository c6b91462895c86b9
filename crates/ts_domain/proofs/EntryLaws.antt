-- Laws of loops over entries and deeds.
use Rattle.std.proofs.Common.{◌≡◌, ℕ, zero, suc, ◌+◌, ◌<◌, ◌≤◌, Bool, true, false, cond, ◌||◌, List, [], ◌∷◌, ◌++◌, length, take, drop, slice_get, get_or, Some, refl, ap, sym, ◌∙◌, arith}
use Rattle.std.specs.List.{fold, list_any, range_with_len}
use Rattle.ts_domain.specs.declared.deed.Deed.{Deed}
use Rattle.ts_domain.specs.declared.entry.Entry.{Entry}
use Rattle.ts_domain.specs.declared.marks.Mark.{Mark}
use Rattle.ts_domain.specs.declared.marks.Verdict.TheVariants.{Yes}
use Rattle.ts_domain.specs.Looks.{is_noted}
use Rattle.ts_domain.specs.Marks.{Knowledge}
use Rattle.ts_domain.specs.MarkWrites.{birth_writes, written_mark}
use Rattle.ts_domain.specs.Post.{counted, is_wide, too_many, turn, turns}
use Rattle.ts_domain.proofs.RowLaws.{range_last}

module _ {A B : Type 0} where
  -- one item more is folded
  pub fold_next : (f : B → A → B) (a : B) (xs : List A) (i : ℕ) (x : A) → slice_get xs i ≡ Some x → fold f a (take (i + 1) xs) ≡ f (fold f a (take i xs)) x
  fold_next f a [] i x at = cc
  fold_next f a (y ∷ xs) zero x at = let same : y ≡ x = cc in ap (f a) same
  fold_next f a (y ∷ xs) (suc i) x at =
      let on : suc i + 1 ≡ suc (i + 1) = omega arith in
      ap (λ n. fold f a (take n (y ∷ xs))) on ∙ fold_next f (f a y) xs i x at

module _ {A : Type 0} where
  -- the item of a turn stands at its place
  pub item_at : (xs : List A) (i : ℕ) (x : A) → i < length xs → x ≡ get_or xs i x → slice_get xs i ≡ Some x
  item_at [] i x l e = absurd (omega arith)
  item_at (y ∷ xs) zero x l e = ap Some (sym e)
  item_at (y ∷ xs) (suc i) x l e = item_at xs i x (omega arith) e

  pub read_at : (xs : List A) (i : ℕ) (x : A) → i < length xs → slice_get xs i ≡ Some (get_or xs i x)
  read_at [] i x l = absurd (omega arith)
  read_at (y ∷ xs) zero x l = refl
  read_at (y ∷ xs) (suc i) x l = read_at xs i x (omega arith)

  -- what is left begins with the item at its place
  pub left_at : (xs : List A) (i : ℕ) (x : A) → slice_get xs i ≡ Some x → drop i xs ≡ x ∷ drop (i + 1) xs
  left_at [] i x at = cc
  left_at (y ∷ xs) zero x at = let same : y ≡ x = cc in ap (λ z. z ∷ xs) same
  left_at (y ∷ xs) (suc i) x at =
      let on : suc i + 1 ≡ suc (i + 1) = omega arith in
      left_at xs i x at ∙ ap (λ n. x ∷ drop n (y ∷ xs)) (sym on)

any_step : (a c d b : Bool) → (a || c) ≡ false → (c ≡ false → d ≡ b) → (a || d) ≡ b
any_step true c d b none on = cc
any_step false c d b none on = on none

any_append : (p : ℕ → Bool) (xs : List ℕ) (n : ℕ) (b : Bool) → list_any p xs ≡ false → p n ≡ b → list_any p (xs ++ n ∷ []) ≡ b
any_append p [] n true none e = rw e refl
any_append p [] n false none e = rw e refl
any_append p (x ∷ xs) n b none e = any_step (p x) (list_any p xs) (list_any p (xs ++ n ∷ [])) b none (λ h. any_append p xs n b h e)

-- one number more passes a test or doesn't
pub any_next : (p : ℕ → Bool) (n : ℕ) (b : Bool) → list_any p (range_with_len 0 n) ≡ false → p n ≡ b → list_any p (range_with_len 0 (n + 1)) ≡ b
any_next p n b none e =
    let on : n + 1 ≡ suc n = omega arith in
    ap (λ k. list_any p (range_with_len 0 k)) on ∙ ap (list_any p) (range_last 0 n n (omega arith)) ∙ any_append p (range_with_len 0 n) n b none e

any_left : (a b : Bool) → a ≡ true → (a || b) ≡ true
any_left true b e = refl
any_left false b e = cc

any_right : (a b : Bool) → b ≡ true → (a || b) ≡ true
any_right true b e = refl
any_right false b e = e

-- a number of a range that passes
any_from : (p : ℕ → Bool) (a n j k : ℕ) → a + j ≡ k → suc j ≤ n → p k ≡ true → list_any p (range_with_len a n) ≡ true
any_from p a zero j k e l t = absurd (omega arith)
any_from p a (suc n) zero k e l t = let same : k ≡ a = omega arith in any_left (p a) (list_any p (range_with_len (a + 1) n)) (ap p (sym same) ∙ t)
any_from p a (suc n) (suc j) k e l t = any_right (p a) (list_any p (range_with_len (a + 1) n)) (any_from p (a + 1) n j k (omega arith) (omega arith) t)

pub any_at : (p : ℕ → Bool) (n k : ℕ) → suc k ≤ n → p k ≡ true → list_any p (range_with_len 0 n) ≡ true
any_at p n k l t = any_from p 0 n k k (omega arith) l t

-- deeds

pub turns_next : (k : Knowledge) (ds : List Deed) (i : ℕ) (d : Deed) (at : ℕ) (xs : List Entry) → slice_get ds i ≡ Some d
    → turns k (drop (i + 1) ds) (counted d at) (turn k d at xs) ≡ turns k (drop i ds) at xs
turns_next k ds i d at xs here = ap (λ es. turns k es at xs) (sym (left_at ds i d here))

or_first : (a b : Bool) → a ≡ false → b ≡ (a || b)
or_first true b e = cc
or_first false b e = refl

or_true : (a b : Bool) → a ≡ true → (a || b) ≡ true
or_true true b e = refl
or_true false b e = cc

pub wide_next : (k : Knowledge) (ds : List Deed) (i : ℕ) (d : Deed) (at : ℕ) (xs : List Entry) → slice_get ds i ≡ Some d → too_many d (turn k d at xs) ≡ false
    → is_wide k (drop (i + 1) ds) (counted d at) (turn k d at xs) ≡ is_wide k (drop i ds) at xs
wide_next k ds i d at xs here narrow =
    or_first (too_many d (turn k d at xs)) (is_wide k (drop (i + 1) ds) (counted d at) (turn k d at xs)) narrow
    ∙ ap (λ es. is_wide k es at xs) (sym (left_at ds i d here))

pub wide_here : (k : Knowledge) (ds : List Deed) (i : ℕ) (d : Deed) (at : ℕ) (xs : List Entry) → slice_get ds i ≡ Some d → too_many d (turn k d at xs) ≡ true
    → is_wide k (drop i ds) at xs ≡ true
wide_here k ds i d at xs here wide =
    ap (λ es. is_wide k es at xs) (left_at ds i d here)
    ∙ or_true (too_many d (turn k d at xs)) (is_wide k (drop (i + 1) ds) (counted d at) (turn k d at xs)) wide

count_within : (b : Bool) (at i : ℕ) → at ≤ i → cond b (at + 1) at ≤ i + 1
count_within true at i l = omega arith
count_within false at i l = omega arith

pub counted_within : (d : Deed) (at i : ℕ) → at ≤ i → counted d at ≤ i + 1
counted_within d at i l = count_within (is_noted d) at i l

pub birth_next : (k : Knowledge) (ds : List Deed) (i : ℕ) (d : Deed) (m : Mark) → slice_get ds i ≡ Some d
    → birth_writes k (drop (i + 1) ds) (written_mark k Yes [] d m) ≡ birth_writes k (drop i ds) m
birth_next k ds i d m here = ap (λ es. birth_writes k es m) (sym (left_at ds i d here))
