-- What a store to a location changes: that location alone, if it is there; types are kept, and views change by deeds.
use Rattle.std.proofs.Common.{◌≡◌, ℕ, zero, suc, ◌<◌, ◌≤◌, ◌==◌, ◌&&◌, Bool, true, false, List, [], ◌∷◌, length, slice_get, slice_set, Option, Some, None, option_map, refl, ap, sym, subst, ◌∙◌, arith}
use Rattle.std.specs.Prelude.{nat_lt, unwrap_or, if◌then◌else◌}
use Rattle.std.proofs.lemmas.Bool.{ltb-true, ltb-false, eqb-true, eqb-false}
use Rattle.c_tree.specs.declared.program.Ty.{Ty}
use Rattle.c_meaning.specs.declared.value.Value.{Value}
use Rattle.c_meaning.specs.declared.value.Value.TheVariants as value
use Rattle.c_meaning.specs.declared.machine.Location.{Location}
use Rattle.c_meaning.specs.declared.machine.Location.TheVariants.{Slot, Cell}
use Rattle.c_meaning.specs.declared.machine.Object.{Object}
use Rattle.c_meaning.specs.Eval.{cells_of, content_of}
use Rattle.c_meaning.specs.Machine.{Store, altered, with_cell, stored}
use Rattle.c_graph.specs.declared.graph.Graph.{Graph}
use Rattle.ts_domain.specs.declared.names.Names.{Names}
use Rattle.ts_domain.specs.Pointers.{is_pointer, place_of}
use Rattle.ts_domain.specs.TypedMachines.{Fits, location_type, HasTypes}
use Rattle.ts_domain.specs.Views.{view_of, slot_seen, pointing, IsSame, with_slot, with_field}
use Rattle.ts_domain.proofs.NameLaws.{HasPlaces}

-- lists

set_many : {A : Type 0} (xs : List A) (i : ℕ) (v : A) → length (slice_set xs i v) ≡ length xs
set_many [] i v = refl
set_many (x ∷ xs) zero v = refl
set_many (x ∷ xs) (suc i) v = ap (λ (k : ℕ). suc k) (set_many xs i v)

set_here : {A : Type 0} (xs : List A) (i : ℕ) (v : A) → i < length xs → slice_get (slice_set xs i v) i ≡ Some v
set_here [] i v low = absurd (omega arith)
set_here (x ∷ xs) zero v low = refl
set_here (x ∷ xs) (suc i) v low = let less : i < length xs = omega arith in set_here xs i v less

set_there : {A : Type 0} (xs : List A) (i j : ℕ) (v : A) → (i ≡ j → ⊥) → slice_get (slice_set xs i v) j ≡ slice_get xs j
set_there [] i j v apart = refl
set_there (x ∷ xs) zero zero v apart = absurd (apart refl)
set_there (x ∷ xs) zero (suc j) v apart = refl
set_there (x ∷ xs) (suc i) zero v apart = refl
set_there (x ∷ xs) (suc i) (suc j) v apart = set_there xs i j v (λ e. apart (ap (λ (k : ℕ). suc k) e))

set_past : {A : Type 0} (xs : List A) (i : ℕ) (v : A) → length xs ≤ i → slice_set xs i v ≡ xs
set_past [] i v past = refl
set_past (x ∷ xs) zero v past = absurd (omega arith)
set_past (x ∷ xs) (suc i) v past = let more : length xs ≤ i = omega arith in ap (λ (ys : List _). x ∷ ys) (set_past xs i v more)

pub altered_here : {A : Type 0} (f : A → A) (i : ℕ) (xs : List A) → slice_get (altered f i xs) i ≡ option_map f (slice_get xs i)
altered_here f i [] = refl
altered_here f zero (x ∷ xs) = refl
altered_here f (suc i) (x ∷ xs) = altered_here f i xs

pub altered_there : {A : Type 0} (f : A → A) (i j : ℕ) (xs : List A) → (i ≡ j → ⊥) → slice_get (altered f i xs) j ≡ slice_get xs j
altered_there f i j [] apart = refl
altered_there f zero zero (x ∷ xs) apart = absurd (apart refl)
altered_there f zero (suc j) (x ∷ xs) apart = refl
altered_there f (suc i) zero (x ∷ xs) apart = refl
altered_there f (suc i) (suc j) (x ∷ xs) apart = altered_there f i j xs (λ e. apart (ap (λ (k : ℕ). suc k) e))

pub altered_many : {A : Type 0} (f : A → A) (i : ℕ) (xs : List A) → length (altered f i xs) ≡ length xs
altered_many f i [] = refl
altered_many f zero (x ∷ xs) = refl
altered_many f (suc i) (x ∷ xs) = ap (λ (k : ℕ). suc k) (altered_many f i xs)

-- the place of a list that is written, or another
data Written {A : Type 0} (xs : List A) (i j : ℕ) (v : A) : Type 0 where
  here : i ≡ j → slice_get (slice_set xs i v) j ≡ Some v → Written xs i j v
  there : slice_get (slice_set xs i v) j ≡ slice_get xs j → Written xs i j v

written_where : {A : Type 0} (xs : List A) (i j : ℕ) (v : A) → Written xs i j v
written_where xs i j v = by_place (i == j) refl
  where
    within : i ≡ j → (c : Bool) → nat_lt i (length xs) ≡ c → Written xs i j v
    within same true low = here same (subst (λ (k : ℕ). slice_get (slice_set xs i v) k ≡ Some v) same (set_here xs i v (ltb-true i (length xs) low)))
    within same false past = there (ap (λ (ys : List _). slice_get ys j) (set_past xs i v (ltb-false i (length xs) past)))

    by_place : (b : Bool) → i == j ≡ b → Written xs i j v
    by_place true is = within (eqb-true i j is) (nat_lt i (length xs)) refl
    by_place false is = there (set_there xs i j v (eqb-false i j is))

-- contents

-- a location is there
abbrev pub IsThere : Store → Location → Type 0
IsThere s (Slot x) = x < length s.slots
IsThere s (Cell o f) = f < length (cells_of s.objects o)

abbrev pub content : Store → Location → Value
content s l = content_of s.slots s.objects l

cells_here : (objects : List Object) (o f : ℕ) (v : Value) → cells_of (altered (with_cell f v) o objects) o ≡ slice_set (cells_of objects o) f v
cells_here objects o f v =
    ap (λ (x : Option Object). unwrap_or (option_map (λ (b : Object). b.cells) x) []) (altered_here (with_cell f v) o objects) ∙ by_object (slice_get objects o)
  where
    by_object : (x : Option Object) → unwrap_or (option_map (λ (b : Object). b.cells) (option_map (with_cell f v) x)) [] ≡ slice_set (unwrap_or (option_map (λ (b : Object). b.cells) x) []) f v
    by_object None = refl
    by_object (Some b) = refl

cells_there : (objects : List Object) (o q f : ℕ) (v : Value) → (o ≡ q → ⊥) → cells_of (altered (with_cell f v) o objects) q ≡ cells_of objects q
cells_there objects o q f v apart = ap (λ (x : Option Object). unwrap_or (option_map (λ (b : Object). b.cells) x) []) (altered_there (with_cell f v) o q objects apart)

pub stored_here : (s : Store) (l : Location) (v : Value) → IsThere s l → content (stored l v s) l ≡ v
stored_here s (Slot x) v low = ap (λ (o : Option Value). unwrap_or o value.Undef) (set_here s.slots x v low)
stored_here s (Cell o f) v low =
    ap (λ (cs : List Value). unwrap_or (slice_get cs f) value.Undef) (cells_here s.objects o f v) ∙ ap (λ (x : Option Value). unwrap_or x value.Undef) (set_here (cells_of s.objects o) f v low)

pub stored_there : (s : Store) (l m : Location) (v : Value) → (l ≡ m → ⊥) → content (stored l v s) m ≡ content s m
stored_there s (Slot x) (Slot y) v apart = ap (λ (o : Option Value). unwrap_or o value.Undef) (set_there s.slots x y v (λ e. apart (ap (λ (k : ℕ). Slot k) e)))
stored_there s (Slot x) (Cell o f) v apart = refl
stored_there s (Cell o f) (Slot x) v apart = refl
stored_there s (Cell o f) (Cell q h) v apart = by_object (o == q) refl
  where
    by_object : (b : Bool) → o == q ≡ b → content (stored (Cell o f) v s) (Cell q h) ≡ content s (Cell q h)
    by_object true is =
        let same : o ≡ q = eqb-true o q is in
        subst (λ (k : ℕ). content (stored (Cell o f) v s) (Cell k h) ≡ content s (Cell k h)) same
        (ap (λ (cs : List Value). unwrap_or (slice_get cs h) value.Undef) (cells_here s.objects o f v)
        ∙ ap (λ (x : Option Value). unwrap_or x value.Undef) (set_there (cells_of s.objects o) f h v (λ e. apart (ap (λ (k : ℕ). Cell k f) same ∙ ap (λ (k : ℕ). Cell q k) e))))
    by_object false is = ap (λ (cs : List Value). unwrap_or (slice_get cs h) value.Undef) (cells_there s.objects o q f v (eqb-false o q is))

-- what is written, or as it was
pub data Stored (s : Store) (l m : Location) (v : Value) : Type 0 where
  at_it : l ≡ m → content (stored l v s) m ≡ v → Stored s l m v
  elsewhere : content (stored l v s) m ≡ content s m → Stored s l m v

slot_stored : (s : Store) (x y : ℕ) (v : Value) → Written s.slots x y v → Stored s (Slot x) (Slot y) v
slot_stored s x y v (here same is) = at_it (ap (λ (k : ℕ). Slot k) same) (ap (λ (o : Option Value). unwrap_or o value.Undef) is)
slot_stored s x y v (there is) = elsewhere (ap (λ (o : Option Value). unwrap_or o value.Undef) is)

cell_stored : (s : Store) (o f h : ℕ) (v : Value) → Written (cells_of s.objects o) f h v → Stored s (Cell o f) (Cell o h) v
cell_stored s o f h v (here same is) =
    at_it (ap (λ (k : ℕ). Cell o k) same) (ap (λ (cs : List Value). unwrap_or (slice_get cs h) value.Undef) (cells_here s.objects o f v) ∙ ap (λ (x : Option Value). unwrap_or x value.Undef) is)
cell_stored s o f h v (there is) = elsewhere (ap (λ (cs : List Value). unwrap_or (slice_get cs h) value.Undef) (cells_here s.objects o f v) ∙ ap (λ (x : Option Value). unwrap_or x value.Undef) is)

pub stored_where : (s : Store) (l m : Location) (v : Value) → Stored s l m v
stored_where s (Slot x) (Slot y) v = slot_stored s x y v (written_where s.slots x y v)
stored_where s (Slot x) (Cell o f) v = elsewhere refl
stored_where s (Cell o f) (Slot x) v = elsewhere refl
stored_where s (Cell o f) (Cell q h) v = by_object (o == q) refl
  where
    by_object : (b : Bool) → o == q ≡ b → Stored s (Cell o f) (Cell q h) v
    by_object true is = subst (λ (k : ℕ). Stored s (Cell o f) (Cell k h) v) (eqb-true o q is) (cell_stored s o f h v (written_where (cells_of s.objects o) f h v))
    by_object false is = elsewhere (ap (λ (cs : List Value). unwrap_or (slice_get cs h) value.Undef) (cells_there s.objects o q f v (eqb-false o q is)))

pub stored_slots : (s : Store) (l : Location) (v : Value) → length (stored l v s).slots ≡ length s.slots
stored_slots s (Slot x) v = set_many s.slots x v
stored_slots s (Cell o f) v = refl

pub stored_objects : (s : Store) (l : Location) (v : Value) → length (stored l v s).objects ≡ length s.objects
stored_objects s (Slot x) v = refl
stored_objects s (Cell o f) v = altered_many (with_cell f v) o s.objects

-- types

module _ (n : Names) (g : Graph) (sites : List ℕ) where
  -- a pointer is seen, and a number is not
  pub pointing_same : (t : Ty) (v : Value) → Fits g sites t v → is_pointer t ≡ true → pointing v ≡ v
  pointing_same t value.Undef fit points = refl
  pointing_same t (value.Int m) fit points = let never : true ≡ false = sym points ∙ ap is_pointer fit in absurd cc
  pointing_same t value.Null fit points = refl
  pointing_same t (value.Ptr o) fit points = refl

  pub pointing_none : (t : Ty) (v : Value) → Fits g sites t v → is_pointer t ≡ false → pointing v ≡ value.Undef
  pointing_none t value.Undef fit plain = refl
  pointing_none t (value.Int m) fit plain = refl
  pointing_none t value.Null fit plain = let never : true ≡ false = sym fit ∙ plain in absurd cc
  pointing_none t (value.Ptr o) fit plain = let never : true ≡ false = sym fit.1 ∙ plain in absurd cc

  module _ (s : Store) (typed : HasTypes n g sites s) where
    -- a store of a value that fits keeps the types
    pub stored_types : (l : Location) (t : Ty) (v : Value) → location_type n g sites l ≡ Some t → Fits g sites t v → HasTypes n g sites (stored l v s)
    stored_types l t v is fit = record {
      slots = stored_slots s l v ∙ typed.slots;
      contents = λ m u at. by_place m u at (stored_where s l m v);
      others = λ m none. by_other m none (stored_where s l m v);
    }
      where
        by_other : (m : Location) → location_type n g sites m ≡ None → Stored s l m v → content (stored l v s) m ≡ value.Undef
        by_other m none (at_it same now) = let never : Some t ≡ None = sym is ∙ ap (location_type n g sites) same ∙ none in absurd cc
        by_other m none (elsewhere as_it_was) = as_it_was ∙ typed.others m none

        by_place : (m : Location) (u : Ty) → location_type n g sites m ≡ Some u → Stored s l m v → Fits g sites u (content (stored l v s) m)
        by_place m u at (at_it same now) =
            let e : Some t ≡ Some u = sym is ∙ ap (location_type n g sites) same ∙ at in
            let e' : t ≡ u = cc in
            subst (λ (c : Value). Fits g sites u c) (sym now) (subst (λ (w : Ty). Fits g sites w v) e' fit)
        by_place m u at (elsewhere as_it_was) = subst (λ (c : Value). Fits g sites u c) (sym as_it_was) (typed.contents m u at)

    -- a store of a number changes no view
    pub number_stored : (l : Location) (t : Ty) (v : Value) → location_type n g sites l ≡ Some t → Fits g sites t v → is_pointer t ≡ false → (m : Location) → pointing (content (stored l v s) m) ≡ pointing (content s m)
    number_stored l t v is fit plain m = by_place (stored_where s l m v)
      where
        by_place : Stored s l m v → pointing (content (stored l v s) m) ≡ pointing (content s m)
        by_place (at_it same now) =
            ap pointing now ∙ pointing_none t v fit plain ∙ sym (ap (λ (k : Location). pointing (content s k)) (sym same) ∙ pointing_none t (content s l) (typed.contents l t is) plain)
        by_place (elsewhere as_it_was) = ap pointing as_it_was

-- views

-- machines with the same pointers have the same views
pub same_view : (n : Names) (s t : Store) → ((l : Location) → pointing (content s l) ≡ pointing (content t l)) → IsSame (view_of n s) (view_of n t)
same_view n s t h = record { slot = λ k. by_var (slice_get n.vars k); cell = λ o f. h (Cell o f) }
  where
    by_var : (o : Option ℕ) → slot_seen s o ≡ slot_seen t o
    by_var None = refl
    by_var (Some x) = h (Slot x)

module _ (n : Names) (places : HasPlaces n) (s : Store) where
  -- a store to a pointer variable
  pub slot_view : (k x : ℕ) (v : Value) → slice_get n.vars k ≡ Some x → IsThere s (Slot x) → pointing v ≡ v → IsSame (with_slot k v (view_of n s)) (view_of n (stored (Slot x) v s))
  slot_view k x v at low pointer = record { slot = λ j. by_place j (j == k) refl; cell = λ o f. refl }
    where
      other : (j : ℕ) → (j ≡ k → ⊥) → (o : Option ℕ) → slice_get n.vars j ≡ o → slot_seen s o ≡ slot_seen (stored (Slot x) v s) o
      other j apart None at_j = refl
      other j apart (Some y) at_j =
          sym (ap pointing (stored_there s (Slot x) (Slot y) v
          (λ e. let same : x ≡ y = cc in let e' : Some j ≡ Some k = sym (places.once j y at_j) ∙ ap (place_of n) (sym same) ∙ places.once k x at in let e'' : j ≡ k = cc in apart e'')))

      by_place : (j : ℕ) (b : Bool) → j == k ≡ b → (if b then v else slot_seen s (slice_get n.vars j)) ≡ slot_seen (stored (Slot x) v s) (slice_get n.vars j)
      by_place j true is =
          let same : j ≡ k = eqb-true j k is in
          sym (ap (λ (i : ℕ). slot_seen (stored (Slot x) v s) (slice_get n.vars i)) same ∙ ap (slot_seen (stored (Slot x) v s)) at ∙ ap pointing (stored_here s (Slot x) v low) ∙ pointer)
      by_place j false is = other j (eqb-false j k is) (slice_get n.vars j) refl

  -- a store to a pointer field
  pub field_view : (o f : ℕ) (v : Value) → IsThere s (Cell o f) → pointing v ≡ v → IsSame (with_field o f v (view_of n s)) (view_of n (stored (Cell o f) v s))
  field_view o f v low pointer = record { slot = λ k. by_var (slice_get n.vars k); cell = λ q h. by_object q h (q == o) (h == f) refl refl }
    where
      by_var : (x : Option ℕ) → slot_seen s x ≡ slot_seen (stored (Cell o f) v s) x
      by_var None = refl
      by_var (Some x) = refl

      by_object : (q h : ℕ) (b c : Bool) → q == o ≡ b → h == f ≡ c → (if b && c then v else pointing (content s (Cell q h))) ≡ pointing (content (stored (Cell o f) v s) (Cell q h))
      by_object q h true true is also =
          let same : Cell q h ≡ Cell o f = ap (λ (k : ℕ). Cell k h) (eqb-true q o is) ∙ ap (λ (k : ℕ). Cell o k) (eqb-true h f also) in
          sym (ap (λ (l : Location). pointing (content (stored (Cell o f) v s) l)) same ∙ ap pointing (stored_here s (Cell o f) v low) ∙ pointer)
      by_object q h true false is also = sym (ap pointing (stored_there s (Cell o f) (Cell q h) v (λ e. let same : f ≡ h = cc in eqb-false h f also (sym same))))
      by_object q h false c is also = sym (ap pointing (stored_there s (Cell o f) (Cell q h) v (λ e. let same : o ≡ q = cc in eqb-false q o is (sym same))))
