-- Evaluations and places do what their expressions' deeds say, and their values are those that are looked at.
use Rattle.std.proofs.Common.{◌≡◌, ℕ, ◌+◌, ◌-◌, ◌<◌, ◌≤◌, ◌==◌, ◌&&◌, Bool, true, false, ℤ, pos, negsuc, ◌+ℤ◌, ◌-ℤ◌, ◌*ℤ◌, List, [], ◌∷◌, ◌++◌, slice_get, length, Option, Some, None, Result, Ok, Err, option_map, option_and_then, refl, ap, sym, subst, ◌∙◌, arith}
use Rattle.std.specs.Prelude.{nat_lt, not, neg_ℤ, int_lt, int_le, int_div, int_rem, if◌then◌else◌}
use Rattle.std.specs.Ordering.{int_eq}
use Rattle.std.proofs.lemmas.Bool.{ltb-true, le-ltb, lt-ltb}
use Rattle.std.proofs.lemmas.List.{append-nil}
use Rattle.std.proofs.lemmas.Option.{slice_get_within}
use Rattle.c_tree.specs.Typing.{Declarations, fits, Sort, Of, AnyPointer, points, is_int, are_comparable, pointee, member, field_type as declared_type, Judged, int_if, has, have, signed as sort_signed, combined}
use Rattle.c_tree.specs.declared.expr.Oper.{Oper}
use Rattle.c_tree.specs.declared.expr.Oper.TheVariants as oper
use Rattle.c_tree.specs.declared.expr.Sign.{Sign}
use Rattle.c_tree.specs.declared.expr.Sign.TheVariants as sign
use Rattle.c_tree.specs.declared.program.Ty.{Ty}
use Rattle.c_tree.specs.declared.program.Ty.TheVariants as ty
use Rattle.c_meaning.specs.declared.value.Value.{Value}
use Rattle.c_meaning.specs.declared.value.Value.TheVariants as value
use Rattle.c_meaning.specs.declared.machine.Kind.{Kind}
use Rattle.c_meaning.specs.declared.machine.Kind.TheVariants.{NullDeref, Bounds, Uninit, Overflow, DivZero}
use Rattle.c_meaning.specs.declared.machine.Location.{Location}
use Rattle.c_meaning.specs.declared.machine.Location.TheVariants.{Slot, Cell}
use Rattle.c_meaning.specs.declared.machine.Stop.{Stop}
use Rattle.c_meaning.specs.declared.machine.Stop.TheVariants.{Faulted, Excluded}
use Rattle.c_meaning.specs.Eval.{◌>>=◌, flaw, excluded, content_of, cells_of, is_freed, unless_freed, read as read_content, value_at, int_of, cell_of, field_cell, fitted, said, is_zero, divided, arithmetic, compared, binary, signed}
use Rattle.c_meaning.specs.Machine.{Store}
use Rattle.c_graph.specs.declared.graph.Graph.{Graph}
use Rattle.ts_domain.specs.declared.deed.Deed.{Deed}
use Rattle.ts_domain.specs.declared.deed.Deed.TheVariants.{Reads, Follows}
use Rattle.ts_domain.specs.declared.names.Names.{Names}
use Rattle.ts_domain.specs.declared.names.Read.{Read}
use Rattle.ts_domain.specs.declared.names.Read.TheVariants as read
use Rattle.ts_domain.specs.declared.pointers.Pointer.{Pointer}
use Rattle.ts_domain.specs.Deeds.{looked_at}
use Rattle.ts_domain.specs.FreedReads.{IsHarmless}
use Rattle.ts_domain.specs.Looks.{Look, itself, followed_read, followed, is_noted_read, notes}
use Rattle.ts_domain.specs.Pointers.{is_pointer, type_of, field_type, place_of as variable_place, field_place, var_pointer, chained, field_read, pointer_if, field_of_struct, field_pointer}
use Rattle.ts_domain.specs.TypedMachines.{Fits, cell_type, location_type, HasTypes}
use Rattle.ts_domain.specs.Views.{View, view_of, slot_seen, pointing, peek, peek_field, field_seen, object_type, added, Finds, LooksAt, DoesAll}
use Rattle.ts_domain.proofs.Courses.{Remembers, seen_with, Course, all_done, meets_freed, faults, is_excluded, course_then}
use Rattle.ts_domain.proofs.NameLaws.{HasPlaces}
use Rattle.ts_domain.proofs.PointerSorts.{AreDeclared, AgreesWith}

-- operators give numbers, or no value by another fault than that of a read

pub data Quiet : Result Value Stop → Type 0 where
  number : (m : ℤ) → Quiet (Ok (value.Int m))
  fault : (kind : Kind) (offset : ℕ) → IsHarmless kind → Quiet (Err (Faulted kind offset))
  nothing : Quiet (Err Excluded)

said_quiet : (b : Bool) → Quiet (Ok (said b))
said_quiet true = number (pos 1)
said_quiet false = number (pos 0)

fitted_by : (offset : ℕ) (m : ℤ) (b : Bool) → Quiet (if b then Ok (value.Int m) else flaw Overflow offset)
fitted_by offset m true = number m
fitted_by offset m false = fault Overflow offset tt

pub fitted_quiet : (offset : ℕ) (m : ℤ) → Quiet (fitted offset m)
fitted_quiet offset m = fitted_by offset m (fits m)

divided_by : (offset : ℕ) (m : ℤ) (b : Bool) → Quiet (if b then flaw DivZero offset else fitted offset m)
divided_by offset m true = fault DivZero offset tt
divided_by offset m false = fitted_quiet offset m

quiet_then : (m : ℤ) (r : Result Value Stop) → Quiet r → Quiet (r >>= λ q. Ok (value.Int m))
quiet_then m _ (number q) = number m
quiet_then m _ (fault kind offset harmless) = fault kind offset harmless
quiet_then m _ nothing = nothing

arithmetic_quiet : (o : Oper) (offset : ℕ) (a b : ℤ) → Quiet (arithmetic o offset a b)
arithmetic_quiet oper.Mul offset a b = fitted_quiet offset (a *ℤ b)
arithmetic_quiet oper.Div offset a b = divided_by offset (int_div a b) (is_zero b)
arithmetic_quiet oper.Rem offset a b = quiet_then (int_rem a b) (divided offset a b) (divided_by offset (int_div a b) (is_zero b))
arithmetic_quiet oper.Add offset a b = fitted_quiet offset (a +ℤ b)
arithmetic_quiet oper.Sub offset a b = fitted_quiet offset (a -ℤ b)
arithmetic_quiet oper.Lt offset a b = said_quiet (int_lt a b)
arithmetic_quiet oper.Le offset a b = said_quiet (int_le a b)
arithmetic_quiet oper.Gt offset a b = said_quiet (int_lt b a)
arithmetic_quiet oper.Ge offset a b = said_quiet (int_le b a)
arithmetic_quiet oper.Eq offset a b = said_quiet (int_eq a b)
arithmetic_quiet oper.Ne offset a b = said_quiet (not (int_eq a b))
arithmetic_quiet oper.And offset a b = nothing
arithmetic_quiet oper.Or offset a b = nothing

compared_quiet : (o : Oper) (b : Bool) → Quiet (compared o b)
compared_quiet oper.Eq b = said_quiet b
compared_quiet oper.Ne b = said_quiet (not b)
compared_quiet oper.Mul b = nothing
compared_quiet oper.Div b = nothing
compared_quiet oper.Rem b = nothing
compared_quiet oper.Add b = nothing
compared_quiet oper.Sub b = nothing
compared_quiet oper.Lt b = nothing
compared_quiet oper.Le b = nothing
compared_quiet oper.Gt b = nothing
compared_quiet oper.Ge b = nothing
compared_quiet oper.And b = nothing
compared_quiet oper.Or b = nothing

pub binary_quiet : (o : Oper) (offset : ℕ) (v w : Value) → Quiet (binary o offset v w)
binary_quiet o offset (value.Int a) (value.Int b) = arithmetic_quiet o offset a b
binary_quiet o offset (value.Ptr a) (value.Ptr b) = compared_quiet o (a == b)
binary_quiet o offset (value.Ptr a) value.Null = compared_quiet o false
binary_quiet o offset value.Null (value.Ptr b) = compared_quiet o false
binary_quiet o offset value.Null value.Null = compared_quiet o true
binary_quiet o offset (value.Int a) value.Undef = nothing
binary_quiet o offset (value.Int a) value.Null = nothing
binary_quiet o offset (value.Int a) (value.Ptr b) = nothing
binary_quiet o offset (value.Ptr a) value.Undef = nothing
binary_quiet o offset (value.Ptr a) (value.Int b) = nothing
binary_quiet o offset value.Null value.Undef = nothing
binary_quiet o offset value.Null (value.Int b) = nothing
binary_quiet o offset value.Undef value.Undef = nothing
binary_quiet o offset value.Undef (value.Int b) = nothing
binary_quiet o offset value.Undef value.Null = nothing
binary_quiet o offset value.Undef (value.Ptr b) = nothing

pub signed_quiet : (s : Sign) (offset : ℕ) (v : Value) → Quiet (signed s offset v)
signed_quiet sign.Minus offset value.Undef = nothing
signed_quiet sign.Minus offset (value.Int m) = fitted_quiet offset (neg_ℤ m)
signed_quiet sign.Minus offset value.Null = nothing
signed_quiet sign.Minus offset (value.Ptr o) = nothing
signed_quiet sign.Not offset value.Undef = nothing
signed_quiet sign.Not offset (value.Int m) = said_quiet (not (not (is_zero m)))
signed_quiet sign.Not offset value.Null = said_quiet (not false)
signed_quiet sign.Not offset (value.Ptr o) = said_quiet (not true)

-- the types of operands

pub if_typed : (b : Bool) (t : Sort) → (int_if b).value ≡ Some t → (b ≡ true) × (t ≡ Of ty.Int)
if_typed true t h = let e : Of ty.Int ≡ t = cc in (refl, sym e)
if_typed false t h = absurd cc

pub has_some : {A : Type 0} (test : A → Bool) (o : Option A) → has test o ≡ true → (x : A) × (o ≡ Some x) × (test x ≡ true)
has_some test None h = absurd cc
has_some test (Some x) h = (x, refl, h)

pub have_some : (test : Sort → Sort → Bool) (a b : Judged) → have test a b ≡ true → (g h : Sort) × (a.value ≡ Some g) × (b.value ≡ Some h) × (test g h ≡ true)
have_some test a b e =
    let one = has_some (λ g. has (test g) b.value) a.value e in
    let two = has_some (test one.0) b.value one.2 in
    (one.0, two.0, one.1, two.1, two.2)

-- both operands have types, and the value is a number
pub record HaveTypes (a b : Judged) (t : Sort) : Type 0 where
  pub left : Sort
  pub right : Sort
  pub left_is : a.value ≡ Some left
  pub right_is : b.value ≡ Some right
  pub int : t ≡ Of ty.Int

typed_by : (test : Sort → Sort → Bool) (a b : Judged) (t : Sort) → (int_if (have test a b)).value ≡ Some t → HaveTypes a b t
typed_by test a b t h =
    let it = if_typed (have test a b) t h in
    let both = have_some test a b it.0 in
    record { left = both.0; right = both.1; left_is = both.2; right_is = both.3; int = it.1 }

pub operands_typed : (o : Oper) (a b : Judged) (t : Sort) → (combined o a b).value ≡ Some t → HaveTypes a b t
operands_typed oper.Mul a b t h = typed_by (λ g h. is_int g && is_int h) a b t h
operands_typed oper.Div a b t h = typed_by (λ g h. is_int g && is_int h) a b t h
operands_typed oper.Rem a b t h = typed_by (λ g h. is_int g && is_int h) a b t h
operands_typed oper.Add a b t h = typed_by (λ g h. is_int g && is_int h) a b t h
operands_typed oper.Sub a b t h = typed_by (λ g h. is_int g && is_int h) a b t h
operands_typed oper.Lt a b t h = typed_by (λ g h. is_int g && is_int h) a b t h
operands_typed oper.Le a b t h = typed_by (λ g h. is_int g && is_int h) a b t h
operands_typed oper.Gt a b t h = typed_by (λ g h. is_int g && is_int h) a b t h
operands_typed oper.Ge a b t h = typed_by (λ g h. is_int g && is_int h) a b t h
operands_typed oper.Eq a b t h = typed_by are_comparable a b t h
operands_typed oper.Ne a b t h = typed_by are_comparable a b t h
operands_typed oper.And a b t h = absurd cc
operands_typed oper.Or a b t h = absurd cc

pub sign_typed : (s : Sign) (a : Judged) (t : Sort) → (sort_signed s a).value ≡ Some t → (g : Sort) × (a.value ≡ Some g) × (t ≡ Of ty.Int)
sign_typed sign.Minus a t h =
    let it = if_typed (has is_int a.value) t h in
    let one = has_some is_int a.value it.0 in
    (one.0, one.1, it.1)
sign_typed sign.Not a t h = by_value a.value h
  where
    by_value : (o : Option Sort) → option_map (λ (g : Sort). Of ty.Int) o ≡ Some t → (g : Sort) × (o ≡ Some g) × (t ≡ Of ty.Int)
    by_value None h = absurd cc
    by_value (Some g) h = let e : Of ty.Int ≡ t = cc in (g, refl, sym e)

pub pointee_typed : (o : Option Sort) (t : Sort) → option_and_then pointee o ≡ Some t → (o ≡ Some (Of ty.IntPtr)) × (t ≡ Of ty.Int)
pointee_typed None t h = absurd cc
pointee_typed (Some (Of ty.Int)) t h = absurd cc
pointee_typed (Some (Of ty.IntPtr)) t h = let e : Of ty.Int ≡ t = cc in (refl, sym e)
pointee_typed (Some (Of (ty.StructPtr s))) t h = absurd cc
pointee_typed (Some AnyPointer) t h = absurd cc

pub element_typed : (b : Bool) (o : Option Sort) (t : Sort) → (if b then option_and_then pointee o else None) ≡ Some t → (b ≡ true) × (option_and_then pointee o ≡ Some t)
element_typed true o t h = (refl, h)
element_typed false o t h = absurd cc

pub map_of : (o : Option Ty) (t : Sort) → option_map Of o ≡ Some t → (u : Ty) × (o ≡ Some u) × (t ≡ Of u)
map_of None t h = absurd cc
map_of (Some u) t h = let e : Of u ≡ t = cc in (u, refl, sym e)

pub member_typed : (d : Declarations) (at f : ℕ) (o : Option Sort) (t : Sort) → option_and_then (member d at f) o ≡ Some t → (c : ℕ) × (u : Ty) × (o ≡ Some (Of (ty.StructPtr c))) × (declared_type d at f c ≡ Some u) × (t ≡ Of u)
member_typed d at f None t h = absurd cc
member_typed d at f (Some AnyPointer) t h = absurd cc
member_typed d at f (Some (Of ty.Int)) t h = absurd cc
member_typed d at f (Some (Of ty.IntPtr)) t h = absurd cc
member_typed d at f (Some (Of (ty.StructPtr c))) t h = let it = map_of (declared_type d at f c) t h in (c, it.0, refl, it.1, it.2)

-- what binds to the left

pub assoc : {A B C : Type 0} (r : Result A Stop) (f : A → Result B Stop) (h : B → Result C Stop) → (r >>= f >>= h) ≡ (r >>= λ x. f x >>= h)
assoc (Ok x) f h = refl
assoc (Err e) f h = refl

pub index_assoc : {B : Type 0} (r i : Result Value Stop) (f : ℤ → Value → Result Location Stop) (h : Location → Result B Stop) →
    (r >>= λ v. i >>= int_of >>= λ k. f k v >>= h) ≡ ((r >>= λ v. i >>= int_of >>= λ k. f k v) >>= h)
index_assoc (Ok v) i f h = sym (assoc (i >>= int_of) (λ k. f k v) h)
index_assoc (Err e) i f h = refl

-- the read of a field that is a pointer
pointer_read_by : (t : Ty) (b : Bool) (r : Option Read) (p : Pointer) → pointer_if r t b ≡ Some p → r ≡ Some p.read
pointer_read_by t true None p h = absurd cc
pointer_read_by t true (Some r) p h = let e : record { ty = t; read = r } ≡ p = cc in ap (λ (x : Pointer). Some x.read) e
pointer_read_by t false r p h = absurd cc

pub field_pointer_read : (n : Names) (r : Read) (c f : ℕ) (p : Pointer) (o : Option Ty) → option_and_then (λ t. pointer_if (field_read n r c f) t (is_pointer t)) o ≡ Some p → field_read n r c f ≡ Some p.read
field_pointer_read n r c f p None h = absurd cc
field_pointer_read n r c f p (Some t) h = pointer_read_by t (is_pointer t) (field_read n r c f) p h

slice_last : {A : Type 0} (xs : List A) (x : A) → slice_get (xs ++ x ∷ []) (length xs) ≡ Some x
slice_last [] x = refl
slice_last (y ∷ xs) x = slice_last xs x

module _ (n : Names) (g : Graph) (sites : List ℕ) (s : Store) where
  -- a value of that type
  abbrev pub Holds : Sort → Value → Type 0
  Holds (Of t) c = Fits g sites t c × (c ≡ value.Undef → ⊥)
  Holds AnyPointer c = c ≡ value.Null

  -- what is looked at by a pointer is that value, also by a test or a write behind the read
  abbrev pub Shown : Option Pointer → Bool → ℕ → List Value → Value → Type 0
  Shown None noted note behind c = Unit {0}
  Shown (Some p) noted note behind c = Finds n g sites (view_of n s) p.read c × (noted ≡ true → LooksAt n g sites (seen_with n g sites s behind) (looked_at note p.read) c)

  pub shown_finds : (q : Option Pointer) (noted : Bool) (note : ℕ) (behind : List Value) (c : Value) → Shown q noted note behind c → (p : Pointer) → q ≡ Some p → Finds n g sites (view_of n s) p.read c
  shown_finds None noted note behind c h p is = absurd cc
  shown_finds (Some q) noted note behind c h p is = let e : q ≡ p = cc in subst (λ (x : Pointer). Finds n g sites (view_of n s) x.read c) e h.0

  -- a value of that type, and what is looked at
  abbrev pub IsValue : Look → Sort → Bool → List Value → Value → List Value → Type 0
  IsValue k t noted found c behind = Holds t c × Shown k.pointer noted (length found + notes k.within) behind c

  -- a location of that type, and what is looked at there
  abbrev pub IsLocation : Option Pointer → Ty → Location → Type 0
  IsLocation q t l = (location_type n g sites l ≡ Some t) × ((p : Pointer) → q ≡ Some p → Finds n g sites (view_of n s) p.read (pointing (content_of s.slots s.objects l)))

  -- the cell of a field behind a pointer to a struct, which has the object
  pub record IsFieldAt (q : Option Pointer) (f : ℕ) (l : Location) : Type 0 where
    pub object : ℕ
    pub struct : ℕ
    pub is : l ≡ Cell object f
    pub within : f < length (cells_of s.objects object)
    pub typed : object_type g sites object ≡ Some (ty.StructPtr struct)
    pub finds : (p : Pointer) → q ≡ Some p → (p.ty ≡ ty.StructPtr struct) × Finds n g sites (view_of n s) p.read (value.Ptr object)

  -- reads

  done_read : (r : Read) (noted : Bool) (c : Value) (found : List Value) → Finds n g sites (view_of n s) r c → (c ≡ value.Undef → ⊥) →
      DoesAll n g sites (Reads r noted ∷ []) (seen_with n g sites s found) (seen_with n g sites s (added (is_noted_read r noted) c found))
  done_read r noted c found finds defined = (seen_with n g sites s (added (is_noted_read r noted) c found), (c, finds, defined, refl), refl)

  looks_behind : (r : Read) (noted : Bool) (c : Value) (found : List Value) → Finds n g sites (view_of n s) r c → noted ≡ true →
      LooksAt n g sites (seen_with n g sites s (added (is_noted_read r noted) c found)) (looked_at (length found) r) c
  looks_behind (read.Name k) noted c found finds is = finds
  looks_behind (read.Deep t f) noted c found finds is = (subst (λ (b : Bool). slice_get (added b c found) (length found) ≡ Some c) (sym is) (slice_last found c), finds)

  -- a content is read that is no pointer
  read_plain : (t : Ty) (noted : Bool) (offset : ℕ) (c : Value) (found : List Value) → Fits g sites t c → is_pointer t ≡ false →
      Course n g sites s Value (λ a behind. Holds (Of t) a × Shown None noted (length found) behind a) [] found (read_content s.objects offset c)
  read_plain t noted offset value.Undef found fit plain = faults Uninit offset tt
  read_plain t noted offset (value.Int m) found fit plain = all_done (value.Int m) found refl ((fit, λ e. absurd cc), tt)
  read_plain t noted offset value.Null found fit plain = let never : true ≡ false = sym fit ∙ plain in absurd cc
  read_plain t noted offset (value.Ptr o) found fit plain = let never : true ≡ false = sym fit.1 ∙ plain in absurd cc

  -- or a pointer
  read_pointer : (p : Pointer) (t : Ty) (noted : Bool) (offset : ℕ) (c : Value) (found : List Value) → Fits g sites t c → is_pointer t ≡ true → Finds n g sites (view_of n s) p.read (pointing c) →
      Course n g sites s Value (λ a behind. Holds (Of t) a × Shown (Some p) noted (length found) behind a) (itself noted (Some p)) found (read_content s.objects offset c)
  read_pointer p t noted offset value.Undef found fit points finds = faults Uninit offset tt
  read_pointer p t noted offset (value.Int m) found fit points finds = let never : true ≡ false = sym points ∙ ap is_pointer fit in absurd cc
  read_pointer p t noted offset value.Null found fit points finds =
      all_done value.Null (added (is_noted_read p.read noted) value.Null found) (done_read p.read noted value.Null found finds (λ e. absurd cc))
      ((fit, λ e. absurd cc), (finds, looks_behind p.read noted value.Null found finds))
  read_pointer p t noted offset (value.Ptr o) found fit points finds = by_state (is_freed s.objects o) refl
    where
      by_state : (b : Bool) → is_freed s.objects o ≡ b →
          Course n g sites s Value (λ a behind. Holds (Of t) a × Shown (Some p) noted (length found) behind a) (itself noted (Some p)) found (unless_freed offset o b)
      by_state true freed = meets_freed [] p.read noted [] found o offset refl refl finds freed
      by_state false alive =
          all_done (value.Ptr o) (added (is_noted_read p.read noted) (value.Ptr o) found) (done_read p.read noted (value.Ptr o) found finds (λ e. absurd cc))
          ((fit, λ e. absurd cc), (finds, looks_behind p.read noted (value.Ptr o) found finds))

  -- numbers, which nothing is looked at by
  pub quiet_course : (found : List Value) (r : Result Value Stop) → Quiet r → Course n g sites s Value (λ a behind. Holds (Of ty.Int) a) [] found r
  quiet_course found _ (number m) = all_done (value.Int m) found refl (refl, λ e. absurd cc)
  quiet_course found _ (fault kind offset harmless) = faults kind offset harmless
  quiet_course found _ nothing = is_excluded

  pub course_map : {A B : Type 0} (Q : A → List Value → Type 0) (R : B → List Value → Type 0) (ds : List Deed) (found : List Value) (r : Result A Stop) (f : A → Result B Stop) → Course n g sites s A Q ds found r →
      ((a : A) (behind : List Value) → Remembers ds found behind → Q a behind → Course n g sites s B R [] behind (f a)) → Course n g sites s B R ds found (r >>= f)
  course_map Q R ds found r f h each = subst (λ (es : List Deed). Course n g sites s _ R es found (r >>= f)) (append-nil ds) (course_then n g sites s Q R ds [] found r f h each)

  -- the value of a number
  pub int_course : (found : List Value) (v : Value) → Course n g sites s ℤ (λ a behind. v ≡ value.Int a) [] found (int_of v)
  int_course found value.Undef = is_excluded
  int_course found (value.Int m) = all_done m found refl refl
  int_course found value.Null = is_excluded
  int_course found (value.Ptr o) = is_excluded

  -- following

  follow_by : (k o : ℕ) (found : List Value) (b : Bool) → (if b then (view_of n s).slot k else peek_field (view_of n s) (slice_get n.fields (k - length n.vars))) ≡ value.Ptr o →
      DoesAll n g sites (if b then Follows k ∷ [] else []) (seen_with n g sites s found) (seen_with n g sites s found)
  follow_by k o found true holds = (seen_with n g sites s found, (o, holds, refl), refl)
  follow_by k o found false holds = refl

  follow_read : (r : Read) (o : ℕ) (found : List Value) → Finds n g sites (view_of n s) r (value.Ptr o) → DoesAll n g sites (followed_read n r) (seen_with n g sites s found) (seen_with n g sites s found)
  follow_read (read.Name k) o found finds = follow_by k o found (nat_lt k (length n.vars)) finds
  follow_read (read.Deep t f) o found finds = refl

  follow_done : (q : Option Pointer) (o : ℕ) (found : List Value) → ((p : Pointer) → q ≡ Some p → Finds n g sites (view_of n s) p.read (value.Ptr o)) →
      DoesAll n g sites (followed n q) (seen_with n g sites s found) (seen_with n g sites s found)
  follow_done None o found finds = refl
  follow_done (Some p) o found finds = follow_read p.read o found (finds p refl)

  module _ (d : Declarations) (same : AreDeclared d n) (places : HasPlaces n) where
    -- what numbers hold

    pub peek_slot : (k x : ℕ) → slice_get n.vars k ≡ Some x → peek n (view_of n s) k ≡ slot_seen s (Some x)
    peek_slot k x there =
        ap (λ (b : Bool). if b then (view_of n s).slot k else peek_field (view_of n s) (slice_get n.fields (k - length n.vars))) (lt-ltb k (length n.vars) (slice_get_within n.vars k x there))
        ∙ ap (slot_seen s) there

    slot_is_peeked : (k x : ℕ) → slice_get n.vars k ≡ Some x → peek n (view_of n s) k ≡ (view_of n s).slot k
    slot_is_peeked k x there = ap (λ (b : Bool). if b then (view_of n s).slot k else peek_field (view_of n s) (slice_get n.fields (k - length n.vars))) (lt-ltb k (length n.vars) (slice_get_within n.vars k x there))

    pub peek_of_field : (v : View) (j k f : ℕ) → slice_get n.fields j ≡ Some (k, f) → peek n v (length n.vars + j) ≡ field_seen v f (v.slot k)
    peek_of_field v j k f there =
        let past : length n.vars ≤ length n.vars + j = omega arith in
        let back : length n.vars + j - length n.vars ≡ j = omega arith in
        ap (λ (b : Bool). if b then v.slot (length n.vars + j) else peek_field v (slice_get n.fields (length n.vars + j - length n.vars))) (le-ltb (length n.vars + j) (length n.vars) past)
        ∙ ap (λ (i : ℕ). peek_field v (slice_get n.fields i)) back ∙ ap (peek_field v) there

    -- a field of what a read leads to is found by the read of the field
    numbered_finds : (v : View) (k f o : ℕ) (q : Read) (j : Option ℕ) → field_place n.fields k f ≡ j → option_map (λ j. read.Name (length n.vars + j)) j ≡ Some q → v.slot k ≡ value.Ptr o → Finds n g sites v q (v.cell o f)
    numbered_finds v k f o q None at is holds = absurd cc
    numbered_finds v k f o q (Some j) at is holds =
        let e : read.Name (length n.vars + j) ≡ q = cc in
        subst (λ (r : Read). Finds n g sites v r (v.cell o f)) e (peek_of_field v j k f (places.field_there k f j at) ∙ ap (field_seen v f) holds)

    chained_finds : (v : View) (k c f o : ℕ) (q : Read) (b : Bool) → chained n k c f b ≡ Some q → (if b then v.slot k else peek_field v (slice_get n.fields (k - length n.vars))) ≡ value.Ptr o →
        object_type g sites o ≡ Some (ty.StructPtr c) → Finds n g sites v q (v.cell o f)
    chained_finds v k c f o q true is finds typed = numbered_finds v k f o q (field_place n.fields k f) refl is finds
    chained_finds v k c f o q false is finds typed = let e : read.Deep c f ≡ q = cc in subst (λ (r : Read). Finds n g sites v r (v.cell o f)) e (o, typed, refl)

    pub field_finds : (v : View) (r : Read) (c f o : ℕ) (q : Read) → field_read n r c f ≡ Some q → Finds n g sites v r (value.Ptr o) → object_type g sites o ≡ Some (ty.StructPtr c) → Finds n g sites v q (v.cell o f)
    field_finds v (read.Name k) c f o q is finds typed = chained_finds v k c f o q (nat_lt k (length n.vars)) is finds typed
    field_finds v (read.Deep t h) c f o q is finds typed = let e : read.Deep c f ≡ q = cc in subst (λ (r : Read). Finds n g sites v r (v.cell o f)) e (o, typed, refl)

    -- locations

    var_finds : (x : ℕ) (p : Pointer) (o : Option Ty) (k : Option ℕ) → variable_place n x ≡ k → option_and_then (λ t. option_map (λ k. record { ty = t; read = read.Name k }) k) o ≡ Some p →
        Finds n g sites (view_of n s) p.read (slot_seen s (Some x))
    var_finds x p None k at h = absurd cc
    var_finds x p (Some t) None at h = absurd cc
    var_finds x p (Some t) (Some k) at h =
        let e : record { ty = t; read = read.Name k } ≡ p = cc in
        subst (λ (y : Pointer). Finds n g sites (view_of n s) y.read (slot_seen s (Some x))) e (peek_slot k x (places.there x k at))

    pub var_location : (x : ℕ) (t : Ty) → type_of n x ≡ Some t → IsLocation (var_pointer n x) t (Slot x)
    var_location x t typed = (typed, λ p is. var_finds x p (type_of n x) (variable_place n x) refl is)

    field_location : (q : Option Pointer) (c f o : ℕ) (t : Ty) → field_type n c f ≡ Some t → AgreesWith n true (ty.StructPtr c) q → object_type g sites o ≡ Some (ty.StructPtr c) →
        ((p : Pointer) → q ≡ Some p → Finds n g sites (view_of n s) p.read (value.Ptr o)) → IsLocation (option_and_then (field_pointer n f) q) t (Cell o f)
    field_location q c f o t typed agrees made finds = (
      ap (option_and_then (cell_type n f)) made ∙ typed,
      λ p is.
          let opened : field_of_struct n agrees.0 c f ≡ Some p = ap (option_and_then (field_pointer n f)) (sym agrees.1) ∙ is in
          field_finds (view_of n s) agrees.0 c f o p.read (field_pointer_read n agrees.0 c f p (field_type n c f) opened) (finds (record { ty = ty.StructPtr c; read = agrees.0 }) agrees.1) made,
    )

    pub field_course : (q : Option Pointer) (c f at : ℕ) (t : Ty) (v : Value) (found : List Value) → field_type n c f ≡ Some t → AgreesWith n true (ty.StructPtr c) q → Fits g sites (ty.StructPtr c) v →
        ((p : Pointer) → q ≡ Some p → Finds n g sites (view_of n s) p.read v) →
        Course n g sites s Location (λ l behind. IsLocation (option_and_then (field_pointer n f) q) t l × IsFieldAt q f l) (followed n q) found (field_cell s.objects at f v)
    field_course q c f at t value.Undef found typed agrees fit finds = is_excluded
    field_course q c f at t (value.Int m) found typed agrees fit finds = is_excluded
    field_course q c f at t value.Null found typed agrees fit finds = faults NullDeref at tt
    field_course q c f at t (value.Ptr o) found typed agrees fit finds = by_count (nat_lt f (length (cells_of s.objects o))) refl
      where
        pointer_type : (p : Pointer) → q ≡ Some p → p.ty ≡ ty.StructPtr c
        pointer_type p is = let e : Some p ≡ Some (record { ty = ty.StructPtr c; read = agrees.0 }) = sym is ∙ agrees.1 in let e' : p ≡ record { ty = ty.StructPtr c; read = agrees.0 } = cc in ap (λ (x : Pointer). x.ty) e'

        by_count : (b : Bool) → nat_lt f (length (cells_of s.objects o)) ≡ b →
            Course n g sites s Location (λ l behind. IsLocation (option_and_then (field_pointer n f) q) t l × IsFieldAt q f l) (followed n q) found (if b then Ok (Cell o f) else excluded)
        by_count true low =
            all_done (Cell o f) found (follow_done q o found finds) (
              field_location q c f o t typed agrees fit.0 finds,
              record { object = o; struct = c; is = refl; within = ltb-true f (length (cells_of s.objects o)) low; typed = fit.0; finds = λ p is. (pointer_type p is, finds p is) },
            )
        by_count false past = is_excluded

    -- a cell of what an `int *` points to
    pub element_course : (q : Option Pointer) (at : ℕ) (i : ℤ) (v : Value) (found : List Value) → Fits g sites ty.IntPtr v → ((p : Pointer) → q ≡ Some p → Finds n g sites (view_of n s) p.read v) →
        Course n g sites s Location (λ l behind. IsLocation None ty.Int l) (followed n q) found (cell_of s.objects at i v)
    element_course q at i value.Undef found fit finds = is_excluded
    element_course q at i (value.Int m) found fit finds = is_excluded
    element_course q at i value.Null found fit finds = faults NullDeref at tt
    element_course q at (negsuc k) (value.Ptr o) found fit finds = faults Bounds at tt
    element_course q at (pos k) (value.Ptr o) found fit finds = by_count (nat_lt k (length (cells_of s.objects o)))
      where
        by_count : (b : Bool) → Course n g sites s Location (λ l behind. IsLocation None ty.Int l) (followed n q) found (if b then Ok (Cell o k) else flaw Bounds at)
        by_count true = all_done (Cell o k) found (follow_done q o found finds) (ap (option_and_then (cell_type n k)) fit.0, λ p is. absurd cc)
        by_count false = faults Bounds at tt

    module _ (typed : HasTypes n g sites s) where
      -- the read of a location
      pub value_course : (q : Option Pointer) (t : Ty) (noted : Bool) (offset : ℕ) (l : Location) (found : List Value) → AgreesWith n (is_pointer t) t q → IsLocation q t l →
          Course n g sites s Value (λ a behind. Holds (Of t) a × Shown q noted (length found) behind a) (itself noted q) found (value_at s.slots s.objects offset l)
      value_course q t noted offset l found agrees at = by_type (is_pointer t) refl agrees
        where
          fit : Fits g sites t (content_of s.slots s.objects l)
          fit = typed.contents l t at.0

          by_type : (b : Bool) → is_pointer t ≡ b → AgreesWith n b t q →
              Course n g sites s Value (λ a behind. Holds (Of t) a × Shown q noted (length found) behind a) (itself noted q) found (value_at s.slots s.objects offset l)
          by_type true is agrees =
              let p : Pointer = record { ty = t; read = agrees.0 } in
              subst (λ (x : Option Pointer). Course n g sites s Value (λ a behind. Holds (Of t) a × Shown x noted (length found) behind a) (itself noted x) found (value_at s.slots s.objects offset l)) (sym agrees.1)
              (read_pointer p t noted offset (content_of s.slots s.objects l) found fit is (at.1 p agrees.1))
          by_type false is agrees =
              subst (λ (x : Option Pointer). Course n g sites s Value (λ a behind. Holds (Of t) a × Shown x noted (length found) behind a) (itself noted x) found (value_at s.slots s.objects offset l)) (sym agrees)
              (read_plain t noted offset (content_of s.slots s.objects l) found fit is)
