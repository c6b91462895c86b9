-- What the frees of a filled graph free: at each gap what its chosen puts free, in the order of the names.
use Rattle.std.proofs.Common.{◌≡◌, ◌⊎◌, inl, inr, ℕ, suc, ◌+◌, ◌<◌, ◌==◌, ◌&&◌, ◌||◌, ⊎_elim, Bool, true, false, cond, List, [], ◌∷◌, length, map, filter, slice_get, Option, Some, None, option_map, option_and_then, refl, ap, sym, subst, ◌∙◌, arith}
use Rattle.std.specs.List.{Contains, range_with_len}
use Rattle.std.proofs.Math.Bool.{and_comm}
use Rattle.std.proofs.Math.Path.{fun_ext}
use Rattle.std.proofs.lemmas.Bool.{cases_Bool, false≢true, true≢false, lt-ltb, or_cases, or_left, or_right}
use Rattle.std.proofs.lemmas.List.{length-map}
use Rattle.std.proofs.lemmas.Option.{slice_get-map, slice_get_within}
use Rattle.c_tree.specs.Fill.{ascends, free_of, precedes, puts_at}
use Rattle.c_tree.specs.Typing.{has}
use Rattle.c_tree.specs.declared.choice.Put.{Put}
use Rattle.c_tree.specs.declared.expr.Expr.{Expr, Expr-F, map-Expr, fold_out-Expr}
use Rattle.c_tree.specs.declared.expr.Expr.TheVariants as expr
use Rattle.c_tree.specs.declared.program.FieldDef.{FieldDef}
use Rattle.c_tree.specs.declared.program.Free.{Free}
use Rattle.c_tree.specs.declared.program.Program.{Program}
use Rattle.c_tree.specs.declared.program.StructDef.{StructDef}
use Rattle.c_tree.specs.declared.program.Ty.{Ty}
use Rattle.c_tree.specs.declared.program.Ty.TheVariants as ty
use Rattle.c_tree.specs.declared.program.VarDef.{VarDef}
use Rattle.c_graph.specs.declared.graph.Graph.{Graph}
use Rattle.call_contexts.proofs.Has.{Has, first, later, has_get, get_has, has_split}
use Rattle.ts_domain.specs.Chosen.{has_put, is_put}
use Rattle.ts_domain.specs.Derived.{freed, freed_at, put_gap}
use Rattle.ts_domain.specs.Looks.{Look, look, look_layer, pointer_of}
use Rattle.ts_domain.specs.Numbering.{defined_fields, paired_from, type_fields, var_fields}
use Rattle.ts_domain.specs.Pointers.{field_place, field_pointer, field_pointer_at, field_read, field_type, is_pointer, place_of, pointer_at, pointer_if, type_of, var_pointer}
use Rattle.ts_domain.specs.Rows.{is_key, places_of}
use Rattle.ts_domain.specs.Views.{AreNames}
use Rattle.ts_domain.specs.declared.names.Names.{Names}
use Rattle.ts_domain.specs.declared.names.Read.{Read}
use Rattle.ts_domain.specs.declared.names.Read.TheVariants as read
use Rattle.ts_domain.specs.declared.pointers.Pointer.{Pointer}
use Rattle.ts_domain.proofs.ChosenLaws.{put_found, put_itself, put_same}
use Rattle.ts_domain.proofs.Members.{at_first, at_later}
use Rattle.ts_domain.proofs.NameLaws.{HasPlaces, has_places, passing_passes}
use Rattle.ts_domain.proofs.Precedence.{ascends_rest, precedes_never, precedes_on, precedes_rest}
use Rattle.cover_certificate.specs.Closed.{name_of, named}

-- lists that are filtered

module _ {A : Type 0} where
  both_by : (p : A → Bool) (x : A) (ys zs : List A) (b : Bool) → filter p ys ≡ zs → filter p (cond b (x ∷ ys) ys) ≡ cond (b && p x) (x ∷ zs) zs
  both_by p x ys zs true e = ap (λ (rest : List A). cond (p x) (x ∷ rest) rest) e
  both_by p x ys zs false e = e

  filter_both : (p q : A → Bool) (xs : List A) → filter p (filter q xs) ≡ filter (λ x. q x && p x) xs
  filter_both p q [] = refl
  filter_both p q (x ∷ xs) = both_by p x (filter q xs) (filter (λ y. q y && p y) xs) (q x) (filter_both p q xs)

  filter_same : (p q : A → Bool) (xs : List A) → ((x : A) → Contains xs x → p x ≡ q x) → filter p xs ≡ filter q xs
  filter_same p q [] same = refl
  filter_same p q (x ∷ xs) same =
      ap (λ (b : Bool). cond b (x ∷ filter p xs) (filter p xs)) (same x (at_first x xs))
      ∙ ap (λ (rest : List A). cond (q x) (x ∷ rest) rest) (filter_same p q xs (λ y h. same y (at_later x y xs h)))

-- what stands at the places that pass
module _ {A B : Type 0} (at : ℕ → Option A) (test : Option A → Bool) (get : Option A → B) where
  listed_by : (k : ℕ) (x : A) (ks : List ℕ) (xs : List A) → at k ≡ Some x → map (λ j. get (at j)) ks ≡ map (λ y. get (Some y)) xs
      → map (λ j. get (at j)) (cond (test (at k)) (k ∷ ks) ks) ≡ map (λ y. get (Some y)) (cond (test (Some x)) (x ∷ xs) xs)
  listed_by k x ks xs is rest = ap (λ (o : Option A). map (λ j. get (at j)) (cond (test o) (k ∷ ks) ks)) is ∙ by_test (test (Some x))
    where
      by_test : (b : Bool) → map (λ j. get (at j)) (cond b (k ∷ ks) ks) ≡ map (λ y. get (Some y)) (cond b (x ∷ xs) xs)
      by_test true = ap (λ (o : Option A). get o ∷ map (λ j. get (at j)) ks) is ∙ ap (λ (ys : List B). get (Some x) ∷ ys) rest
      by_test false = rest

  listed : (a : ℕ) (xs : List A) → ((i : ℕ) → at (a + i) ≡ slice_get xs i)
      → map (λ j. get (at j)) (filter (λ j. test (at j)) (range_with_len a (length xs))) ≡ map (λ y. get (Some y)) (filter (λ y. test (Some y)) xs)
  listed a [] is = refl
  listed a (x ∷ xs) is =
      let here : a + 0 ≡ a = omega arith in
      listed_by a x (filter (λ j. test (at j)) (range_with_len (a + 1) (length xs))) (filter (λ y. test (Some y)) xs) (sym (ap at here) ∙ is 0)
      (listed (a + 1) xs (λ i. let on : a + 1 + i ≡ a + suc i = omega arith in ap at on ∙ is (suc i)))

-- puts that ascend

-- a put isn't among those behind it
put_apart : (p q : Put) (ps : List Put) → ascends (p ∷ ps) ≡ true → has_put ps q ≡ true → p ≡ q → ⊥
put_apart p q ps up h same = precedes_never p (subst (λ (z : Put). precedes p z ≡ true) (sym same) (precedes_rest p q ps up (put_found ps q h)))

not_so : (b : Bool) → (b ≡ true → ⊥) → b ≡ false
not_so true never = absurd (never refl)
not_so false never = refl

none_kept : (ys : List Put) → filter (has_put []) ys ≡ []
none_kept [] = refl
none_kept (y ∷ ys) = none_kept ys

-- all of some puts are among others
abbrev AreAmong : List Put → List Put → Type 0
AreAmong xs ys = (q : Put) → has_put xs q ≡ true → has_put ys q ≡ true

has_first_put : (x : Put) (xs : List Put) → has_put (x ∷ xs) x ≡ true
has_first_put x xs = or_left (is_put x x) (has_put xs x) (put_itself x)

kept_here : (x y : Put) (xs ys : List Put) → ascends (x ∷ xs) ≡ true → ascends (y ∷ ys) ≡ true → AreAmong (x ∷ xs) (y ∷ ys) → x ≡ y
    → (AreAmong xs ys → filter (has_put xs) ys ≡ xs) → filter (has_put (x ∷ xs)) (y ∷ ys) ≡ x ∷ xs
kept_here x y xs ys up down among same rest_kept =
    ap (λ (b : Bool). cond b (y ∷ filter (has_put (x ∷ xs)) ys) (filter (has_put (x ∷ xs)) ys)) (subst (λ (z : Put). has_put (x ∷ xs) z ≡ true) same (has_first_put x xs))
    ∙ ap (λ (qs : List Put). y ∷ qs) (filter_same (has_put (x ∷ xs)) (has_put xs) ys without ∙ rest_kept (λ q h. rest q h (or_cases (is_put q y) (has_put ys q) (among q (or_right (is_put q x) (has_put xs q) h)))))
    ∙ ap (λ (z : Put). z ∷ xs) (sym same)
  where
    without : (q : Put) → Contains ys q → has_put (x ∷ xs) q ≡ has_put xs q
    without q h =
        ap (λ (b : Bool). b || has_put xs q)
        (not_so (is_put q x) (λ is. precedes_never q (subst (λ (z : Put). precedes z q ≡ true) (sym (put_same q x is ∙ same)) (precedes_rest y q ys down h))))

    rest : (q : Put) → has_put xs q ≡ true → (is_put q y ≡ true) ⊎ (has_put ys q ≡ true) → has_put ys q ≡ true
    rest q h (inl is) = absurd (put_apart x q xs up h (same ∙ sym (put_same q y is)))
    rest q h (inr is) = is

kept_there : (x y : Put) (xs ys : List Put) → ascends (x ∷ xs) ≡ true → ascends (y ∷ ys) ≡ true → AreAmong (x ∷ xs) (y ∷ ys) → is_put x y ≡ false
    → (AreAmong (x ∷ xs) ys → filter (has_put (x ∷ xs)) ys ≡ x ∷ xs) → filter (has_put (x ∷ xs)) (y ∷ ys) ≡ x ∷ xs
kept_there x y xs ys up down among other rest_kept =
    ap (λ (b : Bool). cond b (y ∷ filter (has_put (x ∷ xs)) ys) (filter (has_put (x ∷ xs)) ys)) missing
    ∙ rest_kept (λ q h. rest q h (or_cases (is_put q y) (has_put ys q) (among q h)))
  where
    behind : has_put ys x ≡ true
    behind = ⊎_elim (λ is. absurd (true≢false (sym is ∙ other))) (λ is. is) (or_cases (is_put x y) (has_put ys x) (among x (has_first_put x xs)))

    before : precedes y x ≡ true
    before = precedes_rest y x ys down (put_found ys x behind)

    missing : has_put (x ∷ xs) y ≡ false
    missing = not_so (has_put (x ∷ xs) y)
        (λ is. ⊎_elim
        (λ one. precedes_never y (subst (λ (z : Put). precedes y z ≡ true) (sym (put_same y x one)) before))
        (λ later. precedes_never y (precedes_on y x y before (precedes_rest x y xs up (put_found xs y later))))
        (or_cases (is_put y x) (has_put xs y) is))

    rest : (q : Put) → has_put (x ∷ xs) q ≡ true → (is_put q y ≡ true) ⊎ (has_put ys q ≡ true) → has_put ys q ≡ true
    rest q h (inl is) = absurd (true≢false (sym h ∙ ap (has_put (x ∷ xs)) (put_same q y is) ∙ missing))
    rest q h (inr is) = is

-- where both ascend, they are those of the others that are among them
those_kept : (xs ys : List Put) → ascends xs ≡ true → ascends ys ≡ true → AreAmong xs ys → filter (has_put xs) ys ≡ xs
those_kept [] ys up down among = none_kept ys
those_kept (x ∷ xs) [] up down among = absurd (false≢true (among x (has_first_put x xs)))
those_kept (x ∷ xs) (y ∷ ys) up down among =
    ⊎_elim
    (λ same. kept_here x y xs ys up down among (put_same x y same) (those_kept xs ys (ascends_rest x xs up) (ascends_rest y ys down)))
    (λ other. kept_there x y xs ys up down among other (those_kept (x ∷ xs) ys up (ascends_rest y ys down)))
    (cases_Bool (is_put x y))

-- the chosen puts of a gap are those of its named puts that are chosen
pub chosen_listed : {B : Type 0} (chosen names : List Put) (gap : ℕ) (get : Option Put → B) → ascends chosen ≡ true → ascends names ≡ true
    → AreAmong chosen names
    → map (λ q. get (Some q)) (puts_at chosen gap) ≡ map (λ k. get (slice_get names k)) (filter (λ k. has (has_put chosen) (slice_get names k)) (places_of (map put_gap names) gap))
chosen_listed {B} chosen names gap get up down among =
    ap (λ (qs : List Put). map (λ q. get (Some q)) (filter in_gap qs)) (sym (those_kept chosen names up down among))
    ∙ ap (map (λ q. get (Some q))) (filter_both in_gap (has_put chosen) names ∙ ap (λ (test : Put → Bool). filter test names) (fun_ext (λ q. and_comm (has_put chosen q) (in_gap q))))
    ∙ sym (listed (slice_get names) test get 0 names (λ i. let same : 0 + i ≡ i = omega arith in ap (slice_get names) same))
    ∙ ap (map (λ k. get (slice_get names k))) (sym places)
  where
    in_gap : Put → Bool
    in_gap q = q.gap == gap

    test : Option Put → Bool
    test o = has (is_key gap) (option_map put_gap o) && has (has_put chosen) o

    places : filter (λ k. has (has_put chosen) (slice_get names k)) (places_of (map put_gap names) gap) ≡ filter (λ k. test (slice_get names k)) (range_with_len 0 (length names))
    places =
        filter_both (λ k. has (has_put chosen) (slice_get names k)) (λ k. has (is_key gap) (slice_get (map put_gap names) k)) (range_with_len 0 (length (map put_gap names)))
        ∙ ap (λ (t : ℕ → Bool). filter t (range_with_len 0 (length (map put_gap names)))) (fun_ext (λ k. ap (λ (o : Option (Option ℕ)). has (is_key gap) o && has (has_put chosen) (slice_get names k)) (slice_get-map put_gap names k)))
        ∙ ap (λ (m : ℕ). filter (λ k. test (slice_get names k)) (range_with_len 0 m)) (length-map names put_gap)

-- what a free of a put frees, by its number

abbrev name_in : Option Pointer → Option ℕ
name_in o = option_and_then (λ (p : Pointer). name_of p.read) o

abbrev read_name : Option Read → Option ℕ
read_name r = option_and_then name_of r

if_pointer : (r : Option Read) (v : Option ℕ) (t : Ty) (b : Bool) → read_name r ≡ v → b ≡ true → name_in (pointer_if r t b) ≡ v
if_pointer None v t true e is = e
if_pointer (Some r) v t true e is = e
if_pointer r v t false e is = absurd (false≢true is)

no_pointer : (r : Option Read) (t : Ty) (b : Bool) → read_name r ≡ None → name_in (pointer_if r t b) ≡ None
no_pointer None t true e = refl
no_pointer (Some r) t true e = e
no_pointer r t false e = refl

no_field : (r : Option Read) (o : Option Ty) → read_name r ≡ None → name_in (option_and_then (λ t. pointer_if r t (is_pointer t)) o) ≡ None
no_field r None e = refl
no_field r (Some t) e = no_pointer r t (is_pointer t) e

-- fields of pointer variables have pointer types

of_pair : (b : ℕ) (fs : List ℕ) (q : ℕ × ℕ) → Has q (map (λ (f : ℕ). (b, f)) fs) → (q.0 ≡ b) × Has q.1 fs
of_pair b [] q h = elim h [ ]
of_pair b (f ∷ fs) _ first = (refl, first)
of_pair b (f ∷ fs) q (later h) = let it = of_pair b fs q h in (it.0, later it.1)

record IsPaired (structs : List StructDef) (decls : List VarDef) (b : ℕ) (xs : List ℕ) (q : ℕ × ℕ) : Type 0 where
  place : ℕ
  variable : ℕ
  there : slice_get xs place ≡ Some variable
  is : b + place ≡ q.0
  field : Has q.1 (var_fields structs decls variable)

pair_from : (structs : List StructDef) (decls : List VarDef) (b : ℕ) (xs : List ℕ) (q : ℕ × ℕ) → Has q (paired_from structs decls b xs) → IsPaired structs decls b xs q
pair_from structs decls b [] q h = elim h [ ]
pair_from structs decls b (x ∷ xs) q h =
    ⊎_elim
    (λ own. let it = of_pair b (var_fields structs decls x) q own in let zeroth : b + 0 ≡ b = omega arith in record { place = 0; variable = x; there = refl; is = zeroth ∙ sym it.0; field = it.1 })
    (λ rest. let it = pair_from structs decls (b + 1) xs q rest in let on : b + suc it.place ≡ b + 1 + it.place = omega arith in record { place = suc it.place; variable = it.variable; there = it.there; is = on ∙ it.is; field = it.field })
    (has_split (map (λ (f : ℕ). (b, f)) (var_fields structs decls x)) h)

module _ (p : Program) (g : Graph) (n : Names) (names : AreNames p g n) where
  places : HasPlaces n
  places = has_places p g n names

  -- a field of a type
  abbrev HasField : Ty → ℕ → Type 0
  HasField ty.Int f = ⊥
  HasField ty.IntPtr f = ⊥
  HasField (ty.StructPtr c) f = (u : Ty) × (field_type n c f ≡ Some u) × (is_pointer u ≡ true)

  typed_by : (o : Option FieldDef) → has (λ (d : FieldDef). is_pointer d.ty) o ≡ true → (u : Ty) × (option_map (λ (d : FieldDef). d.ty) o ≡ Some u) × (is_pointer u ≡ true)
  typed_by None h = absurd (false≢true h)
  typed_by (Some d) h = (d.ty, refl, h)

  in_struct : (f : ℕ) (o : Option StructDef) → Has f (defined_fields o) → (u : Ty) × (option_map (λ (d : FieldDef). d.ty) (option_and_then (λ (s : StructDef). slice_get s.fields f) o) ≡ Some u) × (is_pointer u ≡ true)
  in_struct f None h = elim h [ ]
  in_struct f (Some s) h = let it = get_has (defined_fields (Some s)) h in typed_by (slice_get s.fields f) (passing_passes (λ (d : FieldDef). is_pointer d.ty) s.fields it.0 f it.1)

  in_type : (f : ℕ) (t : Ty) → Has f (type_fields n.structs (Some t)) → HasField t f
  in_type f ty.Int h = elim h [ ]
  in_type f ty.IntPtr h = elim h [ ]
  in_type f (ty.StructPtr c) h = in_struct f (slice_get n.structs c) h

  some_number : (a b : ℕ) → Some a ≡ Some b → a ≡ b
  some_number a b e = cc

  field_typed : (j k f x : ℕ) (t : Ty) → slice_get n.fields j ≡ Some (k, f) → slice_get n.vars k ≡ Some x → type_of n x ≡ Some t → HasField t f
  field_typed j k f x t at var typed =
      let it = pair_from n.structs n.decls 0 n.vars (k, f) (subst (λ (ps : List (ℕ × ℕ)). Has {A = ℕ × ℕ} (k, f) ps) names.fields (has_get n.fields j at)) in
      let place : it.place ≡ k = (let zeroth : 0 + it.place ≡ it.place = omega arith in sym zeroth ∙ it.is) in
      let same : it.variable ≡ x = some_number it.variable x (sym it.there ∙ ap (slice_get n.vars) place ∙ var) in
      in_type f t (subst (λ (o : Option Ty). Has f (type_fields n.structs o)) typed (subst (λ (y : ℕ). Has f (var_fields n.structs n.decls y)) same it.field))

  -- a variable, and a field of one

  opened_var : (x : ℕ) → pointer_of n (expr.Var x 0) ≡ var_pointer n x
  opened_var x =
      ap (λ (k : Look). k.pointer) (fold_out-Expr Look (look_layer n) (expr.Var x 0))
      ∙ ap (λ (l : Expr-F Expr). (look_layer n (map-Expr Expr Look (look n) l)).pointer) (expr.outs-Var x 0)

  opened_field : (e : Expr) (f : ℕ) → pointer_of n (expr.Field e f 0) ≡ option_and_then (field_pointer n f) (pointer_of n e)
  opened_field e f =
      ap (λ (k : Look). k.pointer) (fold_out-Expr Look (look_layer n) (expr.Field e f 0))
      ∙ ap (λ (l : Expr-F Expr). (look_layer n (map-Expr Expr Look (look n) l)).pointer) (expr.outs-Field e f 0)

  untyped : (o : Option Ty) → option_and_then (λ t. option_map (pointer_at t) None) o ≡ None
  untyped None = refl
  untyped (Some t) = refl

  var_by : (x : ℕ) (o : Option ℕ) → place_of n x ≡ o → name_in (option_and_then (λ t. option_map (pointer_at t) o) (type_of n x)) ≡ option_and_then (freed_at n None) o
  var_by x None is = ap name_in (untyped (type_of n x))
  var_by x (Some k) is =
      let it = places.pointers k x (places.there x k is) in
      ap (λ (t : Option Ty). name_in (option_and_then (λ u. option_map (pointer_at u) (Some k)) t)) it.1

  -- the number of a field by its place
  number_by : (k c f : ℕ) (o : Option ℕ) → k < length n.vars → field_place n.fields k f ≡ o → read_name (field_read n (read.Name k) c f) ≡ option_map (λ j. length n.vars + j) o
  number_by k c f None low is = rw (lt-ltb k (length n.vars) low, is) refl
  number_by k c f (Some j) low is = rw (lt-ltb k (length n.vars) low, is) refl

  member_by : (k f x : ℕ) (t : Ty) (o : Option ℕ) → slice_get n.vars k ≡ Some x → type_of n x ≡ Some t → field_place n.fields k f ≡ o → name_in (field_pointer_at n (read.Name k) f t) ≡ option_map (λ j. length n.vars + j) o
  member_by k f x ty.Int None var typed is = refl
  member_by k f x ty.IntPtr None var typed is = refl
  member_by k f x (ty.StructPtr c) None var typed is = no_field (field_read n (read.Name k) c f) (field_type n c f) (number_by k c f None (slice_get_within n.vars k x var) is)
  member_by k f x ty.Int (Some j) var typed is = absurd (field_typed j k f x ty.Int (places.field_there k f j is) var typed)
  member_by k f x ty.IntPtr (Some j) var typed is = absurd (field_typed j k f x ty.IntPtr (places.field_there k f j is) var typed)
  member_by k f x (ty.StructPtr c) (Some j) var typed is =
      let it = field_typed j k f x (ty.StructPtr c) (places.field_there k f j is) var typed in
      ap (λ (o : Option Ty). name_in (option_and_then (λ t. pointer_if (field_read n (read.Name k) c f) t (is_pointer t)) o)) it.1
      ∙ if_pointer (field_read n (read.Name k) c f) (Some (length n.vars + j)) it.0 (is_pointer it.0) (number_by k c f (Some j) (slice_get_within n.vars k x var) is) it.2

  field_by : (x f : ℕ) (o : Option ℕ) → place_of n x ≡ o → name_in (option_and_then (field_pointer n f) (option_and_then (λ t. option_map (pointer_at t) o) (type_of n x))) ≡ option_and_then (freed_at n (Some f)) o
  field_by x f None is = ap (λ (q : Option Pointer). name_in (option_and_then (field_pointer n f) q)) (untyped (type_of n x))
  field_by x f (Some k) is =
      let var = places.there x k is in
      let it = places.pointers k x var in
      ap (λ (t : Option Ty). name_in (option_and_then (field_pointer n f) (option_and_then (λ u. option_map (pointer_at u) (Some k)) t))) it.1
      ∙ member_by k f x it.0 (field_place n.fields k f) var it.1 refl

  put_by : (gap x : ℕ) (o : Option ℕ) → named n (free_of (record { gap = gap; var = x; field = o })).expr ≡ freed n (record { gap = gap; var = x; field = o })
  put_by gap x None = ap name_in (opened_var x) ∙ var_by x (place_of n x) refl
  put_by gap x (Some f) = ap name_in (opened_field (expr.Var x 0) f ∙ ap (option_and_then (field_pointer n f)) (opened_var x)) ∙ field_by x f (place_of n x) refl

  -- the free of a put frees the expression of the put
  pub put_named : (q : Put) → named n (free_of q).expr ≡ freed n q
  put_named q = put_by q.gap q.var q.field

  pub puts_named : (qs : List Put) → map (λ (e : Free). named n e.expr) (map free_of qs) ≡ map (freed n) qs
  puts_named [] = refl
  puts_named (q ∷ qs) = ap (λ (o : Option ℕ). o ∷ map (λ (e : Free). named n e.expr) (map free_of qs)) (put_named q) ∙ ap (λ (os : List (Option ℕ)). freed n q ∷ os) (puts_named qs)
