-- The table of slots, one variable more.
use Rattle.std.proofs.Common.{◌≡◌, ◌≢◌, ℕ, zero, suc, ◌+◌, ◌-◌, ◌<◌, ◌≤◌, ⊎_elim, Bool, true, false, List, [], ◌∷◌, ◌++◌, length, slice_set, Some, refl, ap, sym, ◌∙◌, arith}
use Rattle.std.specs.Prelude.{if◌then◌else◌}
use Rattle.std.proofs.lemmas.Bool.{eq-eqb}
use Rattle.std.proofs.lemmas.List.{set-append_left, set-append_right}
use Rattle.c_tree.specs.declared.program.Home.TheVariants as home
use Rattle.c_tree.specs.declared.program.VarDef.{VarDef}
use Rattle.c_meaning.specs.Place.{is_result, slot_from}
use Rattle.cfg_lower.specs.Slots.{below_number, slots_from}
use Rattle.cfg_lower.proofs.RowLaws.{below_count, earlier_or_last, apart_eqb}

module _ {A : Type 0} (g h : ℕ → A) where
  pub below_same : (n : ℕ) → ((f : ℕ) → f < n → g f ≡ h f) → below_number g n ≡ below_number h n
  below_same zero same = refl
  below_same (suc n) same =
      ap (λ (xs : List A). xs ++ g n ∷ []) (below_same n (λ f low. same f (omega arith)))
      ∙ ap (λ (x : A). below_number h n ++ x ∷ []) (same n (omega arith))

  pub below_set : (n f : ℕ) (y : A) → f < n → h f ≡ y → ((k : ℕ) → k ≢ f → g k ≡ h k) → slice_set (below_number g n) f y ≡ below_number h n
  below_set zero f y low is same = absurd (omega arith)
  below_set (suc n) f y low is same = ⊎_elim
      (λ before.
      let count = below_count g n in
      set-append_left (below_number g n) (g n ∷ []) f y (omega arith)
      ∙ ap (λ (xs : List A). xs ++ g n ∷ []) (below_set n f y before is same)
      ∙ ap (λ (x : A). below_number h n ++ x ∷ []) (same n (λ e. omega arith)))
      (λ here.
      let none : f - n ≡ 0 = omega arith in
      set-append_right (below_number g n) (g n ∷ []) n f y (below_count g n) (omega arith)
      ∙ ap (λ (k : ℕ). below_number g n ++ slice_set (g n ∷ []) k y) none
      ∙ ap (λ (xs : List A). xs ++ y ∷ []) (below_same n (λ k below. same k (λ e. omega arith)))
      ∙ ap (λ (x : A). below_number h n ++ x ∷ []) (sym is ∙ ap h here))
      (earlier_or_last f n low)

-- a variable that is no result changes nothing
slot_passes : (f x : ℕ) (v : VarDef) (vs : List VarDef) → is_result f v.home ≡ false → slot_from f x (v ∷ vs) ≡ slot_from f (x + 1) vs
slot_passes f x v vs e = ap (λ (b : Bool). if b then Some x else slot_from f (x + 1) vs) e

slot_here : (f x : ℕ) (v : VarDef) (vs : List VarDef) → is_result f v.home ≡ true → slot_from f x (v ∷ vs) ≡ Some x
slot_here f x v vs e = ap (λ (b : Bool). if b then Some x else slot_from f (x + 1) vs) e

result_of : (f g : ℕ) (v : VarDef) → v.home ≡ home.Result g → g ≡ f → is_result f v.home ≡ true
result_of f g v e same = ap (is_result f) e ∙ eq-eqb g f same

other_result : (f g : ℕ) (v : VarDef) → v.home ≡ home.Result g → g ≢ f → is_result f v.home ≡ false
other_result f g v e apart = ap (is_result f) e ∙ apart_eqb g f apart

pub slot_noted : (n g x : ℕ) (v : VarDef) (vs : List VarDef) → v.home ≡ home.Result g → g < n → slice_set (slots_from n (x + 1) vs) g (Some x) ≡ slots_from n x (v ∷ vs)
slot_noted n g x v vs e low =
    below_set (λ f. slot_from f (x + 1) vs) (λ f. slot_from f x (v ∷ vs)) n g (Some x) low
    (slot_here g x v vs (result_of g g v e refl))
    (λ k apart. sym (slot_passes k x v vs (other_result k g v e (λ same. apart (sym same)))))

pub slot_past : (n g x : ℕ) (v : VarDef) (vs : List VarDef) → v.home ≡ home.Result g → n ≤ g → slots_from n (x + 1) vs ≡ slots_from n x (v ∷ vs)
slot_past n g x v vs e past =
    below_same (λ f. slot_from f (x + 1) vs) (λ f. slot_from f x (v ∷ vs)) n (λ f low. sym (slot_passes f x v vs (other_result f g v e (λ same. omega arith))))

pub slots_count : (n x : ℕ) (vs : List VarDef) → length (slots_from n x vs) ≡ n
slots_count n x vs = below_count (λ f. slot_from f x vs) n
