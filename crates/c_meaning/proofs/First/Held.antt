-- What the variables of a straight program hold, one after another: a null pointer, or an object of one
-- cell of their own. The objects of the variables that are gone are freed. Objects are numbered from k on,
-- variables from i on.
use Rattle.std.proofs.Common.{◌≡◌, ℕ, zero, suc, ◌+◌, ◌<◌, ◌≤◌, Bool, true, false, ◌||◌, ℤ, pos, List, [], ◌∷◌, ◌++◌, length, slice_get, slice_set, Option, Some, None, refl, ap, sym, subst, ◌∙◌, arith, All, IsTrue}
use Rattle.std.proofs.lemmas.Bool.{eq-eqb, ne_eqb}
use Rattle.std.proofs.lemmas.List.Elements.{All-nil, All-cons}
use Rattle.c_meaning.specs.declared.value.Value.{Value}
use Rattle.c_meaning.specs.declared.value.Value.TheVariants as value
use Rattle.c_meaning.specs.declared.machine.Object.{Object}
use Rattle.c_meaning.specs.declared.machine.Location.TheVariants.{Slot}
use Rattle.c_meaning.specs.Eval.{slot_of}
use Rattle.c_meaning.specs.First.Frees.{is_in}
use Rattle.c_meaning.specs.Machine.{altered, with_cell, marked_freed}
use Rattle.c_meaning.specs.Effects.{granted}
use Rattle.c_meaning.proofs.First.Cells.{cell_object}
use Rattle.c_meaning.proofs.First.Flat.{going}

-- a null pointer, or an object with that content of its cell: indeterminate, or an integer
pub data Holding : Type 0 where
  Nothing : Holding
  Owned : (content : Option ℤ) → Holding

abbrev pub cell_value : Option ℤ → Value
cell_value None = value.Undef
cell_value (Some n) = value.Int n

abbrev pub slots_of : ℕ → List Holding → List Value
slots_of k [] = []
slots_of k (Nothing ∷ hs) = value.Null ∷ slots_of k hs
slots_of k (Owned c ∷ hs) = value.Ptr k ∷ slots_of (k + 1) hs

abbrev pub objects_of : ℕ → List ℕ → List Holding → List Object
objects_of i gone [] = []
objects_of i gone (Nothing ∷ hs) = objects_of (i + 1) gone hs
objects_of i gone (Owned c ∷ hs) = cell_object (cell_value c) (is_in i gone) ∷ objects_of (i + 1) gone hs

pub length-slots : (k : ℕ) (hs : List Holding) → length (slots_of k hs) ≡ length hs
length-slots k [] = refl
length-slots k (Nothing ∷ hs) = ap suc (length-slots k hs)
length-slots k (Owned c ∷ hs) = ap suc (length-slots (k + 1) hs)

pub slots_null : (k : ℕ) (hs : List Holding) → slots_of k (hs ++ Nothing ∷ []) ≡ slots_of k hs ++ value.Null ∷ []
slots_null k [] = refl
slots_null k (Nothing ∷ hs) = ap (λ (xs : List Value). value.Null ∷ xs) (slots_null k hs)
slots_null k (Owned c ∷ hs) = ap (λ (xs : List Value). value.Ptr k ∷ xs) (slots_null (k + 1) hs)

pub slots_ptr : (k i : ℕ) (gone : List ℕ) (hs : List Holding) (c : Option ℤ) → slots_of k (hs ++ Owned c ∷ []) ≡ slots_of k hs ++ value.Ptr (k + length (objects_of i gone hs)) ∷ []
slots_ptr k i gone [] c = let e : k ≡ k + 0 = omega arith in ap (λ (o : ℕ). value.Ptr o ∷ []) e
slots_ptr k i gone (Nothing ∷ hs) c = ap (λ (xs : List Value). value.Null ∷ xs) (slots_ptr k (i + 1) gone hs c)
slots_ptr k i gone (Owned b ∷ hs) c =
    let e : (k + 1) + length (objects_of (i + 1) gone hs) ≡ k + suc (length (objects_of (i + 1) gone hs)) = omega arith in
    ap (λ (xs : List Value). value.Ptr k ∷ xs) (slots_ptr (k + 1) (i + 1) gone hs c ∙ ap (λ (o : ℕ). slots_of (k + 1) hs ++ value.Ptr o ∷ []) e)

pub objects_null : (i : ℕ) (gone : List ℕ) (hs : List Holding) → objects_of i gone (hs ++ Nothing ∷ []) ≡ objects_of i gone hs
objects_null i gone [] = refl
objects_null i gone (Nothing ∷ hs) = objects_null (i + 1) gone hs
objects_null i gone (Owned c ∷ hs) = ap (λ (xs : List Object). cell_object (cell_value c) (is_in i gone) ∷ xs) (objects_null (i + 1) gone hs)

-- the object of the next variable y, which is not gone
pub objects_ptr : (i y : ℕ) (gone : List ℕ) (hs : List Holding) (c : Option ℤ) → y ≡ i + length hs → is_in y gone ≡ false →
    objects_of i gone (hs ++ Owned c ∷ []) ≡ objects_of i gone hs ++ cell_object (cell_value c) false ∷ []
objects_ptr i y gone [] c n h =
    let e : i ≡ y = omega arith in
    ap (λ (b : Bool). cell_object (cell_value c) b ∷ []) (ap (λ (x : ℕ). is_in x gone) e ∙ h)
objects_ptr i y gone (Nothing ∷ hs) c n h = let m : y ≡ i + suc (length hs) = n in objects_ptr (i + 1) y gone hs c (omega arith) h
objects_ptr i y gone (Owned b ∷ hs) c n h =
    let m : y ≡ i + suc (length hs) = n in
    ap (λ (xs : List Object). cell_object (cell_value b) (is_in i gone) ∷ xs) (objects_ptr (i + 1) y gone hs c (omega arith) h)

-- the place between two lists

pub get_seam : {A : Type 0} (xs : List A) (x : A) (ys : List A) → slice_get (xs ++ x ∷ ys) (length xs) ≡ Some x
get_seam [] x ys = refl
get_seam (a ∷ xs) x ys = get_seam xs x ys

pub set_seam : {A : Type 0} (xs : List A) (x y : A) (ys : List A) → slice_set (xs ++ x ∷ ys) (length xs) y ≡ (xs ++ y ∷ []) ++ ys
set_seam [] x y ys = refl
set_seam (a ∷ xs) x y ys = ap (λ (zs : List _). a ∷ zs) (set_seam xs x y ys)

-- a variable that goes is gone, and no other
pub is_in_first : (y : ℕ) (gone : List ℕ) → is_in y (y ∷ gone) ≡ true
is_in_first y gone = ap (λ (b : Bool). b || is_in y gone) (eq-eqb y y refl)

pub is_in_other : (x y : ℕ) (gone : List ℕ) → (x ≡ y → ⊥) → is_in x (y ∷ gone) ≡ is_in x gone
is_in_other x y gone apart = ap (λ (b : Bool). b || is_in x gone) (ne_eqb x y apart)

-- the objects of the later variables stay
later_stay : (i y : ℕ) (gone : List ℕ) (hs : List Holding) → y < i → objects_of i (y ∷ gone) hs ≡ objects_of i gone hs
later_stay i y gone [] h = refl
later_stay i y gone (Nothing ∷ hs) h = later_stay (i + 1) y gone hs (omega arith)
later_stay i y gone (Owned c ∷ hs) h =
    ap (λ (b : Bool). cell_object (cell_value c) b ∷ objects_of (i + 1) (y ∷ gone) hs) (is_in_other i y gone (λ e. omega arith))
    ∙ ap (λ (os : List Object). cell_object (cell_value c) (is_in i gone) ∷ os) (later_stay (i + 1) y gone hs (omega arith))

-- another content of object o changes no slot
pub record Rewritten (k i : ℕ) (gone : List ℕ) (hs : List Holding) (o : ℕ) (n : ℤ) : Type 0 where
  pub other : List Holding
  pub count : length other ≡ length hs
  pub slots : slots_of k other ≡ slots_of k hs
  pub objects : altered (with_cell 0 (value.Int n)) o (objects_of i gone hs) ≡ objects_of i gone other

-- what the variable of number y in slot x holds, and what its free does
pub data Looks (k i : ℕ) (gone : List ℕ) (hs : List Holding) (later : List Value) (x y : ℕ) : Type 0 where
  empty : slot_of (slots_of k hs ++ later) x ≡ value.Null → objects_of i gone hs ≡ objects_of i (y ∷ gone) hs → Looks k i gone hs later x y
  full : (o : ℕ) (c : Option ℤ) → slot_of (slots_of k hs ++ later) x ≡ value.Ptr (k + o)
      → slice_get (objects_of i gone hs) o ≡ Some (cell_object (cell_value c) (is_in y gone))
      → ((n : ℤ) → Rewritten k i gone hs o n) → altered marked_freed o (objects_of i gone hs) ≡ objects_of i (y ∷ gone) hs → Looks k i gone hs later x y

past_null : (k i : ℕ) (gone : List ℕ) (hs : List Holding) (later : List Value) (x y : ℕ) → Looks k (i + 1) gone hs later x y → Looks k i gone (Nothing ∷ hs) later (suc x) y
past_null k i gone hs later x y (empty e stay) = empty e stay
past_null k i gone hs later x y (full o c e g change goes) = full o c e g (λ n.
    let r = change n in
    record { other = Nothing ∷ r.other; count = ap suc r.count; slots = ap (λ (xs : List Value). value.Null ∷ xs) r.slots; objects = r.objects }) goes

past_ptr : (k i : ℕ) (gone : List ℕ) (hs : List Holding) (later : List Value) (b : Option ℤ) (x y : ℕ) → i < y → Looks (k + 1) (i + 1) gone hs later x y → Looks k i gone (Owned b ∷ hs) later (suc x) y
past_ptr k i gone hs later b x y h (empty e stay) =
    let same : is_in i gone ≡ is_in i (y ∷ gone) = sym (is_in_other i y gone (λ e. omega arith)) in
    empty e (ap (λ (d : Bool). cell_object (cell_value b) d ∷ objects_of (i + 1) gone hs) same
    ∙ ap (λ (xs : List Object). cell_object (cell_value b) (is_in i (y ∷ gone)) ∷ xs) stay)
past_ptr k i gone hs later b x y h (full o c e g change goes) =
    let m : (k + 1) + o ≡ k + suc o = omega arith in
    let same : is_in i gone ≡ is_in i (y ∷ gone) = sym (is_in_other i y gone (λ e. omega arith)) in
    full (suc o) c (e ∙ ap value.Ptr m) g (λ n.
    let r = change n in
    record { other = Owned b ∷ r.other; count = ap suc r.count; slots = ap (λ (xs : List Value). value.Ptr k ∷ xs) r.slots; objects = ap (λ (xs : List Object). cell_object (cell_value b) (is_in i gone) ∷ xs) r.objects })
    (ap (λ (d : Bool). cell_object (cell_value b) d ∷ altered marked_freed o (objects_of (i + 1) gone hs)) same
    ∙ ap (λ (xs : List Object). cell_object (cell_value b) (is_in i (y ∷ gone)) ∷ xs) goes)

looks_first : (k i : ℕ) (gone : List ℕ) (c : Option ℤ) (hs : List Holding) (later : List Value) → Looks k i gone (Owned c ∷ hs) later 0 i
looks_first k i gone c hs later =
    let e : k ≡ k + 0 = omega arith in
    full 0 c (ap value.Ptr e) refl (λ n. record { other = Owned (Some n) ∷ hs; count = refl; slots = refl; objects = refl })
    (ap (λ (d : Bool). cell_object (cell_value c) d ∷ objects_of (i + 1) gone hs) (sym (is_in_first i gone))
    ∙ ap (λ (xs : List Object). cell_object (cell_value c) (is_in i (i ∷ gone)) ∷ xs) (sym (later_stay (i + 1) i gone hs (omega arith))))

pub looks : (k i : ℕ) (gone : List ℕ) (hs : List Holding) (later : List Value) (x y : ℕ) → y ≡ i + x → x < length hs → Looks k i gone hs later x y
looks k i gone [] later x y n h = absurd (omega arith)
looks k i gone (Nothing ∷ hs) later zero y n h = empty refl (sym (later_stay (i + 1) y gone hs (omega arith)))
looks k i gone (Nothing ∷ hs) later (suc x) y n h = let m : y ≡ i + suc x = n in past_null k i gone hs later x y (looks k (i + 1) gone hs later x y (omega arith) (omega arith))
looks k i gone (Owned c ∷ hs) later zero y n h = let e : i ≡ y = omega arith in subst (λ (z : ℕ). Looks k i gone (Owned c ∷ hs) later 0 z) e (looks_first k i gone c hs later)
looks k i gone (Owned c ∷ hs) later (suc x) y n h =
    let m : y ≡ i + suc x = n in
    past_ptr k i gone hs later c x y (omega arith) (looks (k + 1) (i + 1) gone hs later x y (omega arith) (omega arith))

-- where all variables are gone, all objects are freed
pub all_gone : (i : ℕ) (gone : List ℕ) (hs : List Holding) → ((x : ℕ) → i ≤ x → x < i + length hs → is_in x gone ≡ true) → All (λ o. IsTrue o.freed) (objects_of i gone hs)
all_gone i gone [] h = All-nil (λ (o : Object). IsTrue o.freed)
all_gone i gone (Nothing ∷ hs) h = all_gone (i + 1) gone hs (λ x from below. h x (omega arith) (let b : x < (i + 1) + length hs = below in let t : x < i + suc (length hs) = omega arith in t))
all_gone i gone (Owned c ∷ hs) h =
    let gone_first : is_in i gone ≡ true = h i (omega arith) (let t : i < i + suc (length hs) = omega arith in t) in
    All-cons (λ (o : Object). IsTrue o.freed) (cell_object (cell_value c) (is_in i gone)) (objects_of (i + 1) gone hs) gone_first
    (all_gone (i + 1) gone hs (λ x from below. h x (omega arith) (let b : x < (i + 1) + length hs = below in let t : x < i + suc (length hs) = omega arith in t)))

-- a declared variable holds what malloc answers
abbrev pub given : Bool → Holding
given true = Nothing
given false = Owned None

pub granted_held : (b : Bool) (gone : List ℕ) (hs : List Holding) (v : Value) (later : List Value) (input : List ℕ) (fails : List Bool) (output : List ℕ) (steps : ℕ) → is_in (length hs) gone ≡ false →
    granted (Some (Slot (length hs))) (pos 1) b (going (slots_of 0 hs ++ v ∷ later) (objects_of 0 gone hs) input fails output steps)
    ≡ going (slots_of 0 (hs ++ given b ∷ []) ++ later) (objects_of 0 gone (hs ++ given b ∷ [])) input fails output steps
granted_held true gone hs v later input fails output steps fresh =
    let s : slice_set (slots_of 0 hs ++ v ∷ later) (length hs) value.Null ≡ slots_of 0 (hs ++ Nothing ∷ []) ++ later =
    ap (λ (n : ℕ). slice_set (slots_of 0 hs ++ v ∷ later) n value.Null) (sym (length-slots 0 hs))
    ∙ set_seam (slots_of 0 hs) v value.Null later
    ∙ ap (λ (xs : List Value). xs ++ later) (sym (slots_null 0 hs)) in
    ap (λ (xs : List Value). going xs (objects_of 0 gone hs) input fails output steps) s
    ∙ ap (λ (xs : List Object). going (slots_of 0 (hs ++ Nothing ∷ []) ++ later) xs input fails output steps) (sym (objects_null 0 gone hs))
granted_held false gone hs v later input fails output steps fresh =
    let z : 0 + length (objects_of 0 gone hs) ≡ length (objects_of 0 gone hs) = omega arith in
    let p : slots_of 0 (hs ++ Owned None ∷ []) ≡ slots_of 0 hs ++ value.Ptr (length (objects_of 0 gone hs)) ∷ [] =
    slots_ptr 0 0 gone hs None ∙ ap (λ (o : ℕ). slots_of 0 hs ++ value.Ptr o ∷ []) z in
    let s : slice_set (slots_of 0 hs ++ v ∷ later) (length hs) (value.Ptr (length (objects_of 0 gone hs))) ≡ slots_of 0 (hs ++ Owned None ∷ []) ++ later =
    ap (λ (n : ℕ). slice_set (slots_of 0 hs ++ v ∷ later) n (value.Ptr (length (objects_of 0 gone hs)))) (sym (length-slots 0 hs))
    ∙ set_seam (slots_of 0 hs) v (value.Ptr (length (objects_of 0 gone hs))) later
    ∙ ap (λ (xs : List Value). xs ++ later) (sym p) in
    let y : length hs ≡ 0 + length hs = omega arith in
    ap (λ (xs : List Value). going xs (objects_of 0 gone hs ++ cell_object value.Undef false ∷ []) input fails output steps) s
    ∙ ap (λ (xs : List Object). going (slots_of 0 (hs ++ Owned None ∷ []) ++ later) xs input fails output steps) (sym (objects_ptr 0 (length hs) gone hs None y fresh))
