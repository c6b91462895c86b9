-- What an action attempts begins with its reads: they are all done, or one of them meets a freed object, or the action stops otherwise.
use Rattle.std.proofs.Common.{◌≡◌, ℕ, ◌==◌, Bool, true, false, ℤ, pos, ◌+ℤ◌, ◌-ℤ◌, ◌*ℤ◌, List, [], ◌∷◌, ◌++◌, slice_get, flat_map, Option, Some, None, Result, Ok, Err, option_and_then, refl, ap, sym, subst, ◌∙◌}
use Rattle.std.specs.Prelude.{drop, if◌then◌else◌}
use Rattle.std.specs.Fmt.{signed_decimal}
use Rattle.std.specs.List.{list_all}
use Rattle.std.specs.Option.{is_some}
use Rattle.std.proofs.lemmas.Bool.{and_parts}
use Rattle.std.proofs.lemmas.List.{append_assoc, append-nil}
use Rattle.c_tree.specs.Typing.{Declarations, has, Sort, Of, is_int, goes_into, gives_int, sort_of, var_type, type_of as type_in, is_place, right_fits, change_fits, assigned_fits, place_takes, argument_fits, arguments_fit, simple_fits}
use Rattle.c_tree.specs.declared.expr.Expr.{Expr, out-Expr}
use Rattle.c_tree.specs.declared.expr.Op.{Op}
use Rattle.c_tree.specs.declared.expr.Op.TheVariants as op
use Rattle.c_tree.specs.declared.program.Program.{Program}
use Rattle.c_tree.specs.declared.program.Right.{Right}
use Rattle.c_tree.specs.declared.program.Right.TheVariants as right
use Rattle.c_tree.specs.declared.program.Simple.{Simple}
use Rattle.c_tree.specs.declared.program.Size.{Size}
use Rattle.c_tree.specs.declared.program.Size.TheVariants as size
use Rattle.c_tree.specs.declared.program.StructDef.{StructDef}
use Rattle.c_tree.specs.declared.program.Ty.{Ty}
use Rattle.c_tree.specs.declared.program.Ty.TheVariants as ty
use Rattle.c_meaning.specs.declared.value.Value.{Value}
use Rattle.c_meaning.specs.declared.value.Value.TheVariants as value
use Rattle.c_meaning.specs.declared.machine.Kind.{Kind}
use Rattle.c_meaning.specs.declared.machine.Kind.TheVariants.{Uninit}
use Rattle.c_meaning.specs.declared.machine.Location.{Location}
use Rattle.c_meaning.specs.declared.machine.Stop.{Stop}
use Rattle.c_meaning.specs.declared.machine.Stop.TheVariants.{Faulted, Excluded}
use Rattle.c_meaning.specs.Eval.{◌>>=◌, excluded, read as read_content, value_at, int_of, truth, fitted, eval, eval_all, place_of, offset_of}
use Rattle.c_meaning.specs.Effects.{target_location, old_number, new_value, field_count, count_of, ints_of, decimal_of, printed, converted}
use Rattle.c_meaning.specs.Machine.{Store}
use Rattle.c_graph.specs.declared.graph.Graph.{Graph}
use Rattle.ts_domain.specs.declared.deed.Deed.{Deed}
use Rattle.ts_domain.specs.declared.edges.Binding.{Binding}
use Rattle.ts_domain.specs.declared.names.Names.{Names}
use Rattle.ts_domain.specs.Deeds.{place_deeds, size_deeds, bound_argument, bound_arguments}
use Rattle.ts_domain.specs.FreedReads.{IsHarmless}
use Rattle.ts_domain.specs.Looks.{pointer_of, within, value_deeds}
use Rattle.ts_domain.specs.Pointers.{is_pointer, place_of as variable_place}
use Rattle.ts_domain.specs.TypedGraphs.{answer_fits, count_fits}
use Rattle.ts_domain.specs.TypedMachines.{Fits, location_type, HasTypes}
use Rattle.ts_domain.proofs.Answers.{answer_type}
use Rattle.ts_domain.proofs.Assigns.{typed_place}
use Rattle.ts_domain.proofs.Courses.{Course, all_done, faults, is_excluded, course_weaker, course_then}
use Rattle.ts_domain.proofs.Evaluations.{IsPlaced, IsValueOf, expr_evaluates, place_does}
use Rattle.ts_domain.proofs.Expressions.{Quiet, number, fault, nothing, fitted_quiet, has_some, course_map}
use Rattle.ts_domain.proofs.NameLaws.{HasPlaces}
use Rattle.ts_domain.proofs.PointerSorts.{AreDeclared}
use Rattle.ts_domain.proofs.Stores.{content}

-- what meets no freed object, and reads no pointer
pub data Calm {A : Type 0} : Result A Stop → Type 0 where
  comes : (a : A) → Calm (Ok a)
  stops : (kind : Kind) (offset : ℕ) → IsHarmless kind → Calm (Err (Faulted kind offset))
  has_none : Calm (Err Excluded)

calm_then : {A B : Type 0} (r : Result A Stop) (f : A → Result B Stop) → Calm r → ((a : A) → Calm (f a)) → Calm (r >>= f)
calm_then _ f (comes a) h = h a
calm_then _ f (stops kind offset harmless) h = stops kind offset harmless
calm_then _ f has_none h = has_none

quiet_calm : (r : Result Value Stop) → Quiet r → Calm r
quiet_calm _ (number m) = comes (value.Int m)
quiet_calm _ (fault kind offset harmless) = stops kind offset harmless
quiet_calm _ nothing = has_none

int_calm : (v : Value) → Calm (int_of v)
int_calm value.Undef = has_none
int_calm (value.Int m) = comes m
int_calm value.Null = has_none
int_calm (value.Ptr o) = has_none

pub truth_calm : (v : Value) → Calm (truth v)
truth_calm value.Undef = has_none
truth_calm (value.Int m) = comes _
truth_calm value.Null = comes false
truth_calm (value.Ptr o) = comes true

count_calm : (d : Option StructDef) → Calm (field_count d)
count_calm None = has_none
count_calm (Some d) = comes _

pub ints_calm : (vs : List Value) → Calm (ints_of vs)
ints_calm [] = comes []
ints_calm (v ∷ vs) = calm_then (int_of v) (λ m. ints_of vs >>= λ ns. Ok (m ∷ ns)) (int_calm v) (λ m. calm_then (ints_of vs) (λ ns. Ok (m ∷ ns)) (ints_calm vs) (λ ns. comes (m ∷ ns)))

decimal_calm : (ns : List ℤ) (rest : Result (List ℕ) Stop) → Calm rest → Calm (decimal_of ns rest)
decimal_calm [] rest h = has_none
decimal_calm (m ∷ ns) rest h = calm_then rest (λ bytes. Ok (signed_decimal m ++ bytes)) h (λ bytes. comes _)

printed_by : (c : ℕ) (text : List ℕ) (ns : List ℤ) (b : Bool) → Calm (converted text ns) → Calm (printed text ns) → Calm (if b then converted text ns else (printed text ns >>= λ bytes. Ok (c ∷ bytes)))
printed_by c text ns true h k = h
printed_by c text ns false h k = calm_then (printed text ns) (λ bytes. Ok (c ∷ bytes)) k (λ bytes. comes _)

converted_by : (text : List ℕ) (ns : List ℤ) (a b : Bool) → Calm (printed text (drop 1 ns)) → Calm (printed text ns) →
    Calm (if a then decimal_of ns (printed text (drop 1 ns)) else if b then (printed text ns >>= λ bytes. Ok (37 ∷ bytes)) else excluded)
converted_by text ns true b h k = decimal_calm ns (printed text (drop 1 ns)) h
converted_by text ns false true h k = calm_then (printed text ns) (λ bytes. Ok (37 ∷ bytes)) k (λ bytes. comes _)
converted_by text ns false false h k = has_none

mutual
  pub printed_calm : (text : List ℕ) (ns : List ℤ) → Calm (printed text ns)
  printed_calm [] [] = comes []
  printed_calm [] (m ∷ ns) = has_none
  printed_calm (c ∷ text) ns = printed_by c text ns (c == 37) (converted_calm text ns) (printed_calm text ns)

  converted_calm : (text : List ℕ) (ns : List ℤ) → Calm (converted text ns)
  converted_calm [] ns = has_none
  converted_calm (c ∷ text) ns = converted_by text ns (c == 100) (c == 37) (printed_calm text (drop 1 ns)) (printed_calm text ns)

-- the reads of arguments for parameters
abbrev pub argument_reads : Names → List ℕ → List Expr → List Deed
argument_reads n [] es = []
argument_reads n (x ∷ xs) [] = []
argument_reads n (x ∷ xs) (e ∷ es) = value_deeds n (is_some (variable_place n x)) e ++ argument_reads n xs es

pub bound_reads : (n : Names) (b : Binding) (xs : List ℕ) (es : List Expr) → (bound_arguments n b xs es).reads ≡ b.reads ++ argument_reads n xs es
bound_reads n b [] [] = sym (append-nil b.reads)
bound_reads n b [] (e ∷ es) = sym (append-nil b.reads)
bound_reads n b (x ∷ xs) [] = sym (append-nil b.reads)
bound_reads n b (x ∷ xs) (e ∷ es) =
    bound_reads n (bound_argument n b (x, e)) xs es ∙ append_assoc b.reads (value_deeds n (is_some (variable_place n x)) e) (argument_reads n xs es)

module _ (n : Names) (g : Graph) (sites : List ℕ) (s : Store) where
  -- a course of which nothing more is asked
  abbrev pub Goes : {A : Type 0} → List Deed → List Value → Result A Stop → Type 0
  Goes {A} ds found r = Course n g sites s A (λ a behind. Unit {0}) ds found r

  calm_goes : {A : Type 0} (found : List Value) (r : Result A Stop) → Calm r → Goes [] found r
  calm_goes found _ (comes a) = all_done a found refl tt
  calm_goes found _ (stops kind offset harmless) = faults kind offset harmless
  calm_goes found _ has_none = is_excluded

  pub goes_then : {A B : Type 0} (ds es : List Deed) (found : List Value) (r : Result A Stop) (f : A → Result B Stop) → Goes ds found r → ((a : A) (behind : List Value) → Goes es behind (f a)) → Goes (ds ++ es) found (r >>= f)
  goes_then ds es found r f h k = course_then n g sites s (λ a behind. Unit {0}) (λ a behind. Unit {0}) ds es found r f h (λ a behind remembers q. k a behind)

  pub goes_calm : {A B : Type 0} (ds : List Deed) (found : List Value) (r : Result A Stop) (f : A → Result B Stop) → Goes ds found r → ((a : A) → Calm (f a)) → Goes ds found (r >>= f)
  goes_calm ds found r f h k = course_map n g sites s (λ a behind. Unit {0}) (λ a behind. Unit {0}) ds found r f h (λ a behind remembers q. calm_goes behind (f a) (k a))

  module _ (d : Declarations) (same : AreDeclared d n) (places : HasPlaces n) (typed : HasTypes n g sites s) where
    -- expressions and places

    pub value_goes : (e : Expr) (u : Sort) (noted : Bool) (found : List Value) → sort_of d e ≡ Some u → Goes (value_deeds n noted e) found (eval s.slots s.objects e)
    value_goes e u noted found is =
        course_weaker n g sites s (IsValueOf n g sites s e u noted found) (λ a behind. Unit {0}) (value_deeds n noted e) found (eval s.slots s.objects e) (λ a behind remembers q. tt)
        (expr_evaluates n g sites s d same places typed e u is noted found)

    place_goes : (e : Expr) (t : Ty) (found : List Value) → sort_of d e ≡ Some (Of t) → Goes (within n e) found (place_of s.slots s.objects e)
    place_goes e t found is =
        course_weaker n g sites s (IsPlaced n g sites s (out-Expr e) t) (λ a behind. Unit {0}) (within n e) found (place_of s.slots s.objects e) (λ a behind remembers q. tt) (place_does n g sites s d same places typed e t found is)

    pub number_goes : (e : Expr) (found : List Value) → gives_int d e ≡ true → Goes (value_deeds n false e) found (eval s.slots s.objects e >>= int_of)
    number_goes e found gives =
        let u = has_some is_int (sort_of d e) gives in
        goes_calm (value_deeds n false e) found (eval s.slots s.objects e) int_of (value_goes e u.0 false found u.1) int_calm

    pub all_go : (es : List Expr) (found : List Value) → list_all (gives_int d) es ≡ true → Goes (flat_map (value_deeds n false) es) found (eval_all s.slots s.objects es)
    all_go [] found gives = all_done [] found refl tt
    all_go (e ∷ es) found gives =
        let both = and_parts (gives_int d e) (list_all (gives_int d) es) gives in
        let u = has_some is_int (sort_of d e) both.0 in
        goes_then (value_deeds n false e) (flat_map (value_deeds n false) es) found (eval s.slots s.objects e) (λ v. eval_all s.slots s.objects es >>= λ vs. Ok (v ∷ vs)) (value_goes e u.0 false found u.1)
        (λ v behind. goes_calm (flat_map (value_deeds n false) es) behind (eval_all s.slots s.objects es) (λ vs. Ok (v ∷ vs)) (all_go es behind both.1) (λ vs. comes (v ∷ vs)))

    pub arguments_go : (xs : List ℕ) (es : List Expr) (found : List Value) → arguments_fit d xs es ≡ true → Goes (argument_reads n xs es) found (eval_all s.slots s.objects es)
    arguments_go [] [] found fits = all_done [] found refl tt
    arguments_go [] (e ∷ es) found fits = absurd cc
    arguments_go (x ∷ xs) [] found fits = absurd cc
    arguments_go (x ∷ xs) (e ∷ es) found fits =
        let both = and_parts (argument_fits d x e) (arguments_fit d xs es) fits in
        let var = has_some (λ t. has (goes_into t) (sort_of d e)) (var_type d x) both.0 in
        let u = has_some (goes_into var.0) (sort_of d e) var.2 in
        let noted = is_some (variable_place n x) in
        goes_then (value_deeds n noted e) (argument_reads n xs es) found (eval s.slots s.objects e) (λ v. eval_all s.slots s.objects es >>= λ vs. Ok (v ∷ vs)) (value_goes e u.0 noted found u.1)
        (λ v behind. goes_calm (argument_reads n xs es) behind (eval_all s.slots s.objects es) (λ vs. Ok (v ∷ vs)) (arguments_go xs es behind both.1) (λ vs. comes (v ∷ vs)))

    -- places of answers, and sizes

    pub target_goes : (place : Option Expr) (t : Ty) (found : List Value) → answer_fits d t place ≡ true → Goes (place_deeds n place) found (target_location s place)
    target_goes None t found fits = all_done None found refl tt
    target_goes (Some e) t found fits = goes_calm (within n e) found (place_of s.slots s.objects e) (λ l. Ok (Some l)) (place_goes e t found (answer_type d t e fits)) (λ l. comes (Some l))

    pub size_goes : (p : Program) (z : Size) (found : List Value) → count_fits d z ≡ true → Goes (size_deeds n z) found (count_of p s z)
    size_goes p (size.Fields k) found fits = calm_goes found (field_count (slice_get p.structs k)) (count_calm (slice_get p.structs k))
    size_goes p (size.Ints None) found fits = all_done (pos 1) found refl tt
    size_goes p (size.Ints (Some e)) found fits = number_goes e found fits

    -- assignments

    old_by : (offset : ℕ) (c : Value) → Fits g sites ty.Int c → Calm (read_content s.objects offset c)
    old_by offset value.Undef fit = stops Uninit offset tt
    old_by offset (value.Int m) fit = comes (value.Int m)
    old_by offset value.Null fit = absurd cc
    old_by offset (value.Ptr o) fit = let never : is_pointer ty.Int ≡ true = fit.1 in absurd cc

    -- the old value of a change is a number
    old_calm : (place : Expr) (l : Location) → location_type n g sites l ≡ Some ty.Int → Calm (old_number s place l)
    old_calm place l at = calm_then (value_at s.slots s.objects (offset_of place) l) int_of (old_by (offset_of place) (content s l) (typed.contents l ty.Int at)) int_calm

    change_goes : (o : ℤ → ℤ → ℤ) (offset : ℕ) (place e : Expr) (l : Location) (found : List Value) → location_type n g sites l ≡ Some ty.Int → gives_int d e ≡ true →
        Goes (value_deeds n false e) found (old_number s place l >>= λ a. eval s.slots s.objects e >>= int_of >>= λ b. fitted offset (o a b))
    change_goes o offset place e l found at gives =
        goes_then [] (value_deeds n false e) found (old_number s place l) (λ a. eval s.slots s.objects e >>= int_of >>= λ b. fitted offset (o a b)) (calm_goes found (old_number s place l) (old_calm place l at))
        (λ a behind. goes_calm (value_deeds n false e) behind (eval s.slots s.objects e >>= int_of) (λ b. fitted offset (o a b)) (number_goes e behind gives) (λ b. quiet_calm (fitted offset (o a b)) (fitted_quiet offset (o a b))))

    -- the reads of the right side of an assignment
    abbrev pub given_reads : Op → Expr → Expr → List Deed
    given_reads op.Put place e = value_deeds n (is_some (pointer_of n place)) e
    given_reads op.Add place e = value_deeds n false e
    given_reads op.Sub place e = value_deeds n false e
    given_reads op.Mul place e = value_deeds n false e

    int_type : (t : Ty) → is_int (Of t) ≡ true → t ≡ ty.Int
    int_type ty.Int h = refl
    int_type ty.IntPtr h = absurd cc
    int_type (ty.StructPtr c) h = absurd cc

    changed_fits : (a : Simple) (e : Expr) (t : Ty) → a.right ≡ right.Plain e → change_fits d t a.right ≡ true → (t ≡ ty.Int) × (gives_int d e ≡ true)
    changed_fits a e t plain fits =
        let change : change_fits d t (right.Plain e) ≡ true = subst (λ (r : Right). change_fits d t r ≡ true) plain fits in
        let both = and_parts (is_int (Of t)) (gives_int d e) change in
        (int_type t both.0, both.1)

    int_place : (t : Ty) (l : Location) → t ≡ ty.Int → location_type n g sites l ≡ Some t → location_type n g sites l ≡ Some ty.Int
    int_place t l is at = at ∙ ap Some is

    new_goes : (a : Simple) (o : Op) (e : Expr) (t : Ty) (l : Location) (found : List Value) → a.right ≡ right.Plain e → assigned_fits d a o t ≡ true → location_type n g sites l ≡ Some t →
        Goes (given_reads o a.place e) found (new_value s o a.at a.place e l)
    new_goes a op.Put e t l found plain fits at =
        let right_is : right_fits d (place_takes (out-Expr a.place)) t (right.Plain e) ≡ true = subst (λ (r : Right). right_fits d (place_takes (out-Expr a.place)) t r ≡ true) plain fits in
        let u = has_some (goes_into t) (sort_of d e) right_is in
        value_goes e u.0 (is_some (pointer_of n a.place)) found u.1
    new_goes a op.Add e t l found plain fits at = let it = changed_fits a e t plain fits in change_goes (λ x y. x +ℤ y) a.at a.place e l found (int_place t l it.0 at) it.1
    new_goes a op.Sub e t l found plain fits at = let it = changed_fits a e t plain fits in change_goes (λ x y. x -ℤ y) a.at a.place e l found (int_place t l it.0 at) it.1
    new_goes a op.Mul e t l found plain fits at = let it = changed_fits a e t plain fits in change_goes (λ x y. x *ℤ y) a.at a.place e l found (int_place t l it.0 at) it.1

    pub assign_goes : {B : Type 0} (a : Simple) (e : Expr) (f : Location → Value → Result B Stop) → simple_fits d a ≡ true → a.right ≡ right.Plain e → ((l : Location) (v : Value) → Calm (f l v)) →
        Goes (within n a.place ++ given_reads a.op a.place e) [] (place_of s.slots s.objects a.place >>= λ l. new_value s a.op a.at a.place e l >>= f l)
    assign_goes a e f fits plain calm =
        let both = and_parts (is_place (out-Expr a.place)) (has (assigned_fits d a a.op) (option_and_then type_in (sort_of d a.place))) fits in
        let it = typed_place (sort_of d a.place) (assigned_fits d a a.op) both.1 in
        course_then n g sites s (IsPlaced n g sites s (out-Expr a.place) it.0) (λ b behind. Unit {0}) (within n a.place) (given_reads a.op a.place e) [] (place_of s.slots s.objects a.place)
        (λ l. new_value s a.op a.at a.place e l >>= f l) (place_does n g sites s d same places typed a.place it.0 [] it.1)
        (λ l behind remembers placed. goes_calm (given_reads a.op a.place e) behind (new_value s a.op a.at a.place e l) (f l) (new_goes a a.op e it.0 l behind plain it.2 placed.0.0) (calm l))
