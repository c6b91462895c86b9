-- Which variables and fields have numbers, and what stands at these.
use Rattle.std.proofs.Common.{◌≡◌, ⊎_elim, ℕ, zero, suc, ◌+◌, ◌<◌, ◌≤◌, ◌==◌, ◌&&◌, Bool, true, false, List, [], ◌∷◌, map, slice_get, length, Option, Some, None, option_map, option_and_then, refl, ap, sym, subst, ◌∙◌, arith}
use Rattle.std.specs.Prelude.{if◌then◌else◌}
use Rattle.std.specs.List.{filter, range_with_len, position}
use Rattle.std.proofs.lemmas.Bool.{and_parts, eqb-true, eq-eqb}
use Rattle.std.proofs.lemmas.List.Quantifiers.{position-Some}
use Rattle.std.proofs.lemmas.Option.{slice_get_within, get_or_from_slice_get}
use Rattle.c_tree.specs.Typing.{has}
use Rattle.c_tree.specs.declared.program.FieldDef.{FieldDef}
use Rattle.c_tree.specs.declared.program.Program.{Program}
use Rattle.c_tree.specs.declared.program.StructDef.{StructDef}
use Rattle.c_tree.specs.declared.program.Ty.{Ty}
use Rattle.c_tree.specs.declared.program.Ty.TheVariants as ty
use Rattle.c_tree.specs.declared.program.VarDef.{VarDef}
use Rattle.call_contexts.proofs.Has.{Has, first, later, has_left, has_right, has_split, has_map, has_get, get_has, found}
use Rattle.c_graph.specs.declared.graph.Graph.{Graph}
use Rattle.ts_domain.specs.declared.names.Names.{Names}
use Rattle.ts_domain.specs.Numbering.{places_passing, defined_fields, type_fields, var_fields, paired_from}
use Rattle.ts_domain.specs.Pointers.{is_pointer, place_of, field_place, type_of, field_type}
use Rattle.ts_domain.specs.Views.{AreNames}

-- the pointer variables have their places, once each, and so have the pointer fields of their structs
pub record HasPlaces (n : Names) : Type 0 where
  pub has : (x : ℕ) (t : Ty) → type_of n x ≡ Some t → is_pointer t ≡ true → (k : ℕ) × (place_of n x ≡ Some k)
  pub there : (x k : ℕ) → place_of n x ≡ Some k → slice_get n.vars k ≡ Some x
  pub once : (k x : ℕ) → slice_get n.vars k ≡ Some x → place_of n x ≡ Some k
  pub pointers : (k x : ℕ) → slice_get n.vars k ≡ Some x → (t : Ty) × (type_of n x ≡ Some t) × (is_pointer t ≡ true)
  pub has_field : (k x c f : ℕ) (t : Ty) → slice_get n.vars k ≡ Some x → type_of n x ≡ Some (ty.StructPtr c) → field_type n c f ≡ Some t → is_pointer t ≡ true → (j : ℕ) × (field_place n.fields k f ≡ Some j)
  pub field_there : (k f j : ℕ) → field_place n.fields k f ≡ Some j → slice_get n.fields j ≡ Some (k, f)

-- lists

pub missing_within : {A : Type 0} (xs : List A) (i : ℕ) → i < length xs → slice_get xs i ≡ None → ⊥
missing_within [] i low h = absurd (omega arith)
missing_within (x ∷ xs) zero low h = absurd cc
missing_within (x ∷ xs) (suc i) low h = let less : i < length xs = omega arith in missing_within xs i less h

-- what stands at a position passes the test
pub at_position : {A : Type 0} (test : A → Bool) (xs : List A) (k : ℕ) → position test xs ≡ Some k → (x : A) × (slice_get xs k ≡ Some x) × (test x ≡ true)
at_position {A} test xs k h = by_first (slice_get xs k) refl
  where
    by_first : (o : Option A) → slice_get xs k ≡ o → (x : A) × (slice_get xs k ≡ Some x) × (test x ≡ true)
    by_first (Some x) e = (x, e, ap test (sym (get_or_from_slice_get xs k x x e)) ∙ (position-Some test xs k x h).1)
    by_first None e = by_list xs h e
      where
        by_list : (ys : List A) → position test ys ≡ Some k → slice_get ys k ≡ None → (x : A) × (slice_get xs k ≡ Some x) × (test x ≡ true)
        by_list [] h none = let never : None ≡ Some k = h in absurd cc
        by_list (y ∷ ys) h none = absurd (missing_within (y ∷ ys) k (position-Some test (y ∷ ys) k y h).0 none)

-- numbers that ascend from a on
abbrev Ascending : ℕ → List ℕ → Type 0
Ascending a [] = Unit {0}
Ascending a (x ∷ xs) = (a ≤ x) × Ascending (x + 1) xs

lower : (a : ℕ) (xs : List ℕ) → Ascending (a + 1) xs → Ascending a xs
lower a [] h = tt
lower a (x ∷ xs) h = let low : a + 1 ≤ x = h.0 in (omega arith, h.1)

least : (a : ℕ) (xs : List ℕ) (i x : ℕ) → Ascending a xs → slice_get xs i ≡ Some x → a ≤ x
least a [] i x h e = absurd cc
least a (y ∷ ys) zero x h e = let same : y ≡ x = cc in subst (λ (z : ℕ). a ≤ z) same h.0
least a (y ∷ ys) (suc i) x h e = let low : y + 1 ≤ x = least (y + 1) ys i x h.1 e in let first_low : a ≤ y = h.0 in omega arith

once_in : (a : ℕ) (xs : List ℕ) (i j x : ℕ) → Ascending a xs → slice_get xs i ≡ Some x → slice_get xs j ≡ Some x → i ≡ j
once_in a [] i j x h e d = absurd cc
once_in a (y ∷ ys) zero zero x h e d = refl
once_in a (y ∷ ys) zero (suc j) x h e d = let same : y ≡ x = cc in let low : y + 1 ≤ x = least (y + 1) ys j x h.1 d in absurd (omega arith)
once_in a (y ∷ ys) (suc i) zero x h e d = let same : y ≡ x = cc in let low : y + 1 ≤ x = least (y + 1) ys i x h.1 e in absurd (omega arith)
once_in a (y ∷ ys) (suc i) (suc j) x h e d = ap (λ (k : ℕ). suc k) (once_in (y + 1) ys i j x h.1 e d)

module _ (test : ℕ → Bool) where
  kept_ascends : (a : ℕ) (rest : List ℕ) (b : Bool) → Ascending (a + 1) rest → Ascending a (if b then a ∷ rest else rest)
  kept_ascends a rest true h = (omega arith, h)
  kept_ascends a rest false h = lower a rest h

  range_ascends : (a n : ℕ) → Ascending a (filter test (range_with_len a n))
  range_ascends a zero = tt
  range_ascends a (suc n) = kept_ascends a (filter test (range_with_len (a + 1) n)) (test a) (range_ascends (a + 1) n)

  kept_passes : (y : ℕ) (rest : List ℕ) (b : Bool) (i x : ℕ) → test y ≡ b → ((j : ℕ) → slice_get rest j ≡ Some x → test x ≡ true) → slice_get (if b then y ∷ rest else rest) i ≡ Some x → test x ≡ true
  kept_passes y rest true zero x is below e = let same : y ≡ x = cc in ap test (sym same) ∙ is
  kept_passes y rest true (suc i) x is below e = below i e
  kept_passes y rest false i x is below e = below i e

  pub filter_passes : (xs : List ℕ) (i x : ℕ) → slice_get (filter test xs) i ≡ Some x → test x ≡ true
  filter_passes [] i x e = absurd cc
  filter_passes (y ∷ ys) i x e = kept_passes y (filter test ys) (test y) i x refl (λ j. filter_passes ys j x) e

  kept_here : (x : ℕ) (rest : List ℕ) (b : Bool) → test x ≡ b → test x ≡ true → Has x (if b then x ∷ rest else rest)
  kept_here x rest true is passes = first
  kept_here x rest false is passes = let never : true ≡ false = sym passes ∙ is in absurd cc

  kept_later : (x y : ℕ) (rest : List ℕ) (b : Bool) → Has x rest → Has x (if b then y ∷ rest else rest)
  kept_later x y rest true h = later h
  kept_later x y rest false h = h

  pub filter_has : {x : ℕ} (xs : List ℕ) → Has x xs → test x ≡ true → Has x (filter test xs)
  filter_has [] h passes = elim h [ ]
  filter_has (y ∷ ys) first passes = kept_here y (filter test ys) (test y) refl passes
  filter_has {x} (y ∷ ys) (later h) passes = kept_later x y (filter test ys) (test y) (filter_has ys h passes)

pub range_has : (a n i x : ℕ) → i < n → a + i ≡ x → Has x (range_with_len a n)
range_has a zero i x low e = absurd (omega arith)
range_has a (suc n) zero x low e = let same : a ≡ x = omega arith in subst (λ (k : ℕ). Has k (a ∷ range_with_len (a + 1) n)) same first
range_has a (suc n) (suc i) x low e = later (range_has (a + 1) n i x (omega arith) (omega arith))

-- the places at which a list passes
module _ {A : Type 0} (test : A → Bool) (xs : List A) where
  pub passing_once : (i j x : ℕ) → slice_get (places_passing test xs) i ≡ Some x → slice_get (places_passing test xs) j ≡ Some x → i ≡ j
  passing_once i j x e d = once_in 0 (places_passing test xs) i j x (range_ascends (λ i. has test (slice_get xs i)) 0 (length xs)) e d

  pub passing_passes : (i x : ℕ) → slice_get (places_passing test xs) i ≡ Some x → has test (slice_get xs x) ≡ true
  passing_passes i x e = filter_passes (λ i. has test (slice_get xs i)) (range_with_len 0 (length xs)) i x e

  pub passing_has : (x : ℕ) (v : A) → slice_get xs x ≡ Some v → test v ≡ true → Has x (places_passing test xs)
  passing_has x v e passes =
      let same : 0 + x ≡ x = omega arith in
      filter_has (λ i. has test (slice_get xs i)) (range_with_len 0 (length xs)) (range_has 0 (length xs) x x (slice_get_within xs x v e) same) (ap (has test) e ∙ passes)

-- fields of variables

pair_of_var : (k : ℕ) (fs : List ℕ) (q : ℕ × ℕ) → Has q (map (λ (f : ℕ). (k, f)) fs) → q.0 ≡ k
pair_of_var k [] q h = elim h [ ]
pair_of_var k (f ∷ fs) _ first = refl
pair_of_var k (f ∷ fs) q (later h) = pair_of_var k fs q h

pair_low : (structs : List StructDef) (decls : List VarDef) (b : ℕ) (xs : List ℕ) (q : ℕ × ℕ) → Has q (paired_from structs decls b xs) → q.0 < b + length xs
pair_low structs decls b [] q h = elim h [ ]
pair_low structs decls b (x ∷ xs) q h = ⊎_elim
    (λ own. let is : q.0 ≡ b = pair_of_var b (var_fields structs decls x) q own in let low : q.0 < b + length (x ∷ xs) = omega arith in low)
    (λ rest. let below : q.0 < b + 1 + length xs = pair_low structs decls (b + 1) xs q rest in let low : q.0 < b + length (x ∷ xs) = omega arith in low)
    (has_split (map (λ (f : ℕ). (b, f)) (var_fields structs decls x)) h)

pair_has : (structs : List StructDef) (decls : List VarDef) (b i x f k : ℕ) (xs : List ℕ) → slice_get xs i ≡ Some x → b + i ≡ k → Has f (var_fields structs decls x) → Has {A = ℕ × ℕ} (k, f) (paired_from structs decls b xs)
pair_has structs decls b i x f k [] e at h = absurd cc
pair_has structs decls b zero x f k (y ∷ ys) e at h =
    let same : y ≡ x = cc in
    let on : b ≡ k = omega arith in
    has_left (paired_from structs decls (b + 1) ys)
    (subst (λ (j : ℕ). Has {A = ℕ × ℕ} (k, f) (map (λ f. (j, f)) (var_fields structs decls y))) (sym on) (has_map (λ f. (k, f)) (subst (λ (z : ℕ). Has f (var_fields structs decls z)) (sym same) h)))
pair_has structs decls b (suc i) x f k (y ∷ ys) e at h = has_right (map (λ f. (b, f)) (var_fields structs decls y)) (pair_has structs decls (b + 1) i x f k ys e (omega arith) h)

same_pair : (y : ℕ × ℕ) (k f : ℕ) → y.0 ≡ k → y.1 ≡ f → y ≡ (k, f)
same_pair y k f e d = subst (λ (z : ℕ). y ≡ (z, f)) e (subst (λ (z : ℕ). y ≡ (y.0, z)) d refl)

module _ (p : Program) (g : Graph) (n : Names) (names : AreNames p g n) where
  typed_var : (x : ℕ) (t : Ty) (o : Option VarDef) → option_map (λ (v : VarDef). v.ty) o ≡ Some t → (v : VarDef) × (o ≡ Some v) × (v.ty ≡ t)
  typed_var x t None h = absurd cc
  typed_var x t (Some v) h = let same : v.ty ≡ t = cc in (v, refl, same)

  var_has : (x : ℕ) (t : Ty) → type_of n x ≡ Some t → is_pointer t ≡ true → Has x n.vars
  var_has x t typed points =
      let it = typed_var x t (slice_get n.decls x) typed in
      subst (λ (xs : List ℕ). Has x xs) (sym names.vars) (passing_has (λ (v : VarDef). is_pointer v.ty) n.decls x it.0 it.1 (ap is_pointer it.2 ∙ points))

  has_place : (x : ℕ) → Has x n.vars → (k : ℕ) × (place_of n x ≡ Some k)
  has_place x h =
      let at = get_has n.vars h in
      let it = found (λ y. y == x) n.vars x at.0 at.1 (eq-eqb x x refl) in
      (it.0, it.2)

  place_there : (x k : ℕ) → place_of n x ≡ Some k → slice_get n.vars k ≡ Some x
  place_there x k h = let it = at_position (λ y. y == x) n.vars k h in it.1 ∙ ap (λ (y : ℕ). Some y) (eqb-true it.0 x it.2)

  place_once : (k x : ℕ) → slice_get n.vars k ≡ Some x → place_of n x ≡ Some k
  place_once k x h =
      let it = has_place x (has_get n.vars k h) in
      let same : it.0 ≡ k = passing_once (λ (v : VarDef). is_pointer v.ty) n.decls it.0 k x (ap (λ (xs : List ℕ). slice_get xs it.0) (sym names.vars) ∙ place_there x it.0 it.1) (ap (λ (xs : List ℕ). slice_get xs k) (sym names.vars) ∙ h) in
      it.1 ∙ ap (λ (j : ℕ). Some j) same

  typed_by_test : (x : ℕ) (o : Option VarDef) → has (λ (v : VarDef). is_pointer v.ty) o ≡ true → (t : Ty) × (option_map (λ (v : VarDef). v.ty) o ≡ Some t) × (is_pointer t ≡ true)
  typed_by_test x None h = absurd cc
  typed_by_test x (Some v) h = (v.ty, refl, h)

  var_points : (k x : ℕ) → slice_get n.vars k ≡ Some x → (t : Ty) × (type_of n x ≡ Some t) × (is_pointer t ≡ true)
  var_points k x h = typed_by_test x (slice_get n.decls x) (passing_passes (λ (v : VarDef). is_pointer v.ty) n.decls k x (ap (λ (xs : List ℕ). slice_get xs k) (sym names.vars) ∙ h))

  field_by : (fd : Option FieldDef) (t : Ty) → option_map (λ (d : FieldDef). d.ty) fd ≡ Some t → (d : FieldDef) × (fd ≡ Some d) × (d.ty ≡ t)
  field_by None t h = absurd cc
  field_by (Some d) t h = let same : d.ty ≡ t = cc in (d, refl, same)

  defined_has : (o : Option StructDef) (f : ℕ) (t : Ty) → option_map (λ (d : FieldDef). d.ty) (option_and_then (λ (d : StructDef). slice_get d.fields f) o) ≡ Some t → is_pointer t ≡ true → Has f (defined_fields o)
  defined_has None f t h points = absurd cc
  defined_has (Some s) f t h points = let it = field_by (slice_get s.fields f) t h in passing_has (λ (d : FieldDef). is_pointer d.ty) s.fields f it.0 it.1 (ap is_pointer it.2 ∙ points)

  field_has : (k x c f : ℕ) (t : Ty) → slice_get n.vars k ≡ Some x → type_of n x ≡ Some (ty.StructPtr c) → field_type n c f ≡ Some t → is_pointer t ≡ true → (j : ℕ) × (field_place n.fields k f ≡ Some j)
  field_has k x c f t at typed field points =
      let on : 0 + k ≡ k = omega arith in
      let own : Has f (var_fields n.structs n.decls x) = subst (λ (o : Option Ty). Has f (type_fields n.structs o)) (sym typed) (defined_has (slice_get n.structs c) f t field points) in
      let there : Has {A = ℕ × ℕ} (k, f) n.fields = subst (λ (ps : List (ℕ × ℕ)). Has {A = ℕ × ℕ} (k, f) ps) (sym names.fields) (pair_has n.structs n.decls 0 k x f k n.vars at on own) in
      let place = get_has n.fields there in
      let passes : (k == k && f == f) ≡ true = ap (λ (b : Bool). b && f == f) (eq-eqb k k refl) ∙ eq-eqb f f refl in
      let it = found (λ (y : ℕ × ℕ). y.0 == k && y.1 == f) n.fields (k, f) place.0 place.1 passes in
      (it.0, it.2)

  field_at : (k f j : ℕ) → field_place n.fields k f ≡ Some j → slice_get n.fields j ≡ Some (k, f)
  field_at k f j h =
      let it = at_position (λ (y : ℕ × ℕ). y.0 == k && y.1 == f) n.fields j h in
      let both = and_parts (it.0.0 == k) (it.0.1 == f) it.2 in
      it.1 ∙ ap (λ (y : ℕ × ℕ). Some y) (same_pair it.0 k f (eqb-true it.0.0 k both.0) (eqb-true it.0.1 f both.1))

  pub has_places : HasPlaces n
  has_places = record {
    has = λ x t typed points. has_place x (var_has x t typed points);
    there = place_there;
    once = place_once;
    pointers = var_points;
    has_field = field_has;
    field_there = field_at;
  }

  -- the variable of a field is among the variables
  pub low_fields : (j : ℕ) (q : ℕ × ℕ) → slice_get n.fields j ≡ Some q → q.0 < length n.vars
  low_fields j q h =
      let low : q.0 < 0 + length n.vars = pair_low n.structs n.decls 0 n.vars q (subst (λ (ps : List (ℕ × ℕ)). Has q ps) names.fields (has_get n.fields j h)) in
      omega arith
