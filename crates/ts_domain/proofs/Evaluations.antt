-- Each expression's evaluation does its deeds, and so does the working out of each place: one induction over expressions.
use Rattle.std.proofs.Common.{◌≡◌, ℕ, ◌+◌, Bool, false, ℤ, pos, List, [], ◌++◌, length, Option, Some, None, Result, Ok, refl, ap, sym, subst, ◌∙◌}
use Rattle.std.proofs.lemmas.List.{append_assoc, append-nil, length-append}
use Rattle.c_tree.specs.Typing.{Declarations, var_type, fits, Sort, Of, AnyPointer, is_int, field_type as declared_type, Judged, has, judged_layer, judged, sort_of}
use Rattle.c_tree.specs.declared.expr.Expr.{Expr, Expr-F, roll-Expr, out-Expr, map-Expr, fold-roll-Expr, fold_out-Expr, ind-Expr}
use Rattle.c_tree.specs.declared.expr.Expr.TheOpen.{Const, Null, Var, Field, Deref, Index, Unary, Binary}
use Rattle.c_tree.specs.declared.expr.Oper.{Oper}
use Rattle.c_tree.specs.declared.expr.Sign.{Sign}
use Rattle.c_tree.specs.declared.program.Ty.{Ty}
use Rattle.c_tree.specs.declared.program.Ty.TheVariants as ty
use Rattle.c_meaning.specs.declared.value.Value.{Value}
use Rattle.c_meaning.specs.declared.value.Value.TheVariants as value
use Rattle.c_meaning.specs.declared.machine.Location.{Location}
use Rattle.c_meaning.specs.declared.machine.Location.TheVariants.{Slot}
use Rattle.c_meaning.specs.declared.machine.Stop.{Stop}
use Rattle.c_meaning.specs.Eval.{◌>>=◌, value_at, int_of, cell_of, field_cell, binary, signed, eval_layer, eval, place_layer, place_of}
use Rattle.c_meaning.specs.Machine.{Store}
use Rattle.c_graph.specs.declared.graph.Graph.{Graph}
use Rattle.ts_domain.specs.declared.deed.Deed.{Deed}
use Rattle.ts_domain.specs.declared.names.Names.{Names}
use Rattle.ts_domain.specs.declared.pointers.Pointer.{Pointer}
use Rattle.ts_domain.specs.Looks.{Look, itself, valued, followed, based, compares, look_layer, look, pointer_of, within, notes}
use Rattle.ts_domain.specs.Pointers.{is_pointer, type_of}
use Rattle.ts_domain.specs.TypedMachines.{HasTypes}
use Rattle.ts_domain.proofs.Courses.{Remembers, Course, all_done, is_excluded, course_weaker, course_then}
use Rattle.ts_domain.proofs.Expressions.{signed_quiet, binary_quiet, if_typed, operands_typed, sign_typed, pointee_typed, element_typed, map_of, member_typed, has_some, index_assoc, Holds, Shown, shown_finds, IsValue, IsLocation, IsFieldAt, quiet_course, course_map, int_course, var_location, field_course, element_course, value_course}
use Rattle.ts_domain.proofs.NameLaws.{HasPlaces}
use Rattle.ts_domain.proofs.PointerSorts.{AreDeclared, AgreesWith, Agrees, var_declared, field_declared, expr_agrees, sort_opens, sort_rolls, pointer_rolls}

pub remembered_length : (ds : List Deed) (found behind : List Value) → Remembers ds found behind → length behind ≡ length found + notes ds
remembered_length ds found behind h = ap length h.is ∙ length-append found h.more ∙ ap (λ (k : ℕ). length found + k) h.many

-- an expression's type and what it looks at, from its operands

abbrev pub sort_at : Declarations → Expr-F Expr → Option Sort
sort_at d x = (judged_layer d (map-Expr Expr Judged (judged d) x)).value

abbrev pub look_at : Names → Expr-F Expr → Look
look_at n x = look_layer n (map-Expr Expr Look (look n) x)

module _ (n : Names) (g : Graph) (sites : List ℕ) (s : Store) where
  -- what a place comes to: a variable's slot, or the cell of a field, or another cell
  abbrev pub Stands : Expr-F Expr → Location → Type 0
  Stands (Var x at) l = l ≡ Slot x
  Stands (Field e f at) l = IsFieldAt n g sites s (pointer_of n e) f l
  Stands (Deref e at) l = Unit {0}
  Stands (Index e i at) l = Unit {0}
  Stands (Const v at) l = Unit {0}
  Stands (Null at) l = Unit {0}
  Stands (Unary o e at) l = Unit {0}
  Stands (Binary o a b at) l = Unit {0}

  abbrev pub IsPlaced : Expr-F Expr → Ty → Location → List Value → Type 0
  IsPlaced x t l behind = IsLocation n g sites s (look_at n x).pointer t l × Stands x l

  abbrev pub IsValueOf : Expr → Sort → Bool → List Value → Value → List Value → Type 0
  IsValueOf e t noted found c behind = IsValue n g sites s (look n e) t noted found c behind

module _ (n : Names) (g : Graph) (sites : List ℕ) (s : Store) (d : Declarations) (same : AreDeclared d n) (places : HasPlaces n) (typed : HasTypes n g sites s) where
  -- an evaluation that does what is looked at, and gives a value of its type
  abbrev pub Evaluates : Look → Result Value Stop → Option Sort → Type 0
  Evaluates k r o = (t : Sort) → o ≡ Some t → (noted : Bool) (found : List Value) → Course n g sites s Value (IsValue n g sites s k t noted found) (valued noted k) found r

  abbrev ExprEvaluates : Expr → Type 0
  ExprEvaluates e = Evaluates (look n e) (eval s.slots s.objects e) (sort_of d e)

  abbrev plain : Expr-F ((e : Expr) × ExprEvaluates e) → Expr-F Expr
  plain = map-Expr ((e : Expr) × ExprEvaluates e) Expr (λ e. e.0)

  abbrev eval_at : Expr-F Expr → Result Value Stop
  eval_at x = eval_layer s.slots s.objects (map-Expr Expr (Result Value Stop) (eval s.slots s.objects) x)

  -- places, from the values of their operands

  field_place : (e : Expr) (f at : ℕ) (t : Ty) (found : List Value) → ExprEvaluates e → sort_at d (Field e f at) ≡ Some (Of t) →
      Course n g sites s Location (IsPlaced n g sites s (Field e f at) t) (based n (look n e)) found (place_layer s.slots s.objects (Field e f at))
  field_place e f at t found evaluates is =
      let it = member_typed d at f (sort_of d e) (Of t) is in
      let struct = Of (ty.StructPtr it.0) in
      let same_type : Of t ≡ Of it.1 = it.4 in
      let t_is : it.1 ≡ t = cc in
      let declared : declared_type d at f it.0 ≡ Some t = subst (λ (u : Ty). declared_type d at f it.0 ≡ Some u) t_is it.3 in
      let agrees : Agrees n (Some struct) (pointer_of n e) = subst (λ (o : Option Sort). Agrees n o (pointer_of n e)) it.2 (expr_agrees n d same places e) in
      course_then n g sites s (IsValueOf n g sites s e struct false found) (IsPlaced n g sites s (Field e f at) t) (valued false (look n e)) (followed n (pointer_of n e)) found
      (eval s.slots s.objects e) (field_cell s.objects at f) (evaluates struct it.2 false found)
      (λ v behind remembers holds.
      field_course n g sites s d same places (pointer_of n e) it.0 f at t v behind (field_declared n d same places at f it.0 t declared) agrees holds.0.0
      (shown_finds n g sites s (pointer_of n e) false (length found + notes (within n e)) behind v holds.1))

  -- a cell of what an `int *` points to
  element_place : (e : Expr) (at : ℕ) (i : ℤ) (t : Ty) (found : List Value) (v : Value) (behind later : List Value) → t ≡ ty.Int → IsValueOf n g sites s e (Of ty.IntPtr) false found v behind →
      Course n g sites s Location (λ l b. IsLocation n g sites s None t l) (followed n (pointer_of n e)) later (cell_of s.objects at i v)
  element_place e at i t found v behind later t_is holds =
      course_weaker n g sites s (λ l b. IsLocation n g sites s None ty.Int l) (λ l b. IsLocation n g sites s None t l) (followed n (pointer_of n e)) later (cell_of s.objects at i v)
      (λ l b remembers h. subst (λ (u : Ty). IsLocation n g sites s None u l) (sym t_is) h)
      (element_course n g sites s d same places (pointer_of n e) at i v later holds.0.0 (shown_finds n g sites s (pointer_of n e) false (length found + notes (within n e)) behind v holds.1))

  deref_place : (e : Expr) (at : ℕ) (t : Ty) (found : List Value) → ExprEvaluates e → sort_at d (Deref e at) ≡ Some (Of t) →
      Course n g sites s Location (IsPlaced n g sites s (Deref e at) t) (based n (look n e)) found (place_layer s.slots s.objects (Deref e at))
  deref_place e at t found evaluates is =
      let it = pointee_typed (sort_of d e) (Of t) is in
      let same_type : Of t ≡ Of ty.Int = it.1 in
      let t_is : t ≡ ty.Int = cc in
      course_then n g sites s (IsValueOf n g sites s e (Of ty.IntPtr) false found) (IsPlaced n g sites s (Deref e at) t) (valued false (look n e)) (followed n (pointer_of n e)) found
      (eval s.slots s.objects e) (cell_of s.objects at (pos 0)) (evaluates (Of ty.IntPtr) it.0 false found)
      (λ v behind remembers holds.
      course_weaker n g sites s (λ l b. IsLocation n g sites s None t l) (IsPlaced n g sites s (Deref e at) t) (followed n (pointer_of n e)) behind (cell_of s.objects at (pos 0) v) (λ l b remembers h. (h, tt))
      (element_place e at (pos 0) t found v behind behind t_is holds))

  index_place : (e i : Expr) (at : ℕ) (t : Ty) (found : List Value) → ExprEvaluates e → ExprEvaluates i → sort_at d (Index e i at) ≡ Some (Of t) →
      Course n g sites s Location (IsPlaced n g sites s (Index e i at) t) (valued false (look n e) ++ valued false (look n i) ++ followed n (pointer_of n e)) found (place_layer s.slots s.objects (Index e i at))
  index_place e i at t found evaluates index is =
      let parts = element_typed (has is_int (sort_of d i)) (sort_of d e) (Of t) is in
      let it = pointee_typed (sort_of d e) (Of t) parts.1 in
      let of_index = has_some is_int (sort_of d i) parts.0 in
      let same_type : Of t ≡ Of ty.Int = it.1 in
      let t_is : t ≡ ty.Int = cc in
      let A = valued false (look n e) in
      let B = valued false (look n i) in
      let C = followed n (pointer_of n e) in
      subst (λ (ds : List Deed). Course n g sites s Location (IsPlaced n g sites s (Index e i at) t) ds found (place_layer s.slots s.objects (Index e i at))) (sym (append_assoc A B C))
      (course_then n g sites s (IsValueOf n g sites s e (Of ty.IntPtr) false found) (IsPlaced n g sites s (Index e i at) t) A (B ++ C) found
      (eval s.slots s.objects e) (λ v. eval s.slots s.objects i >>= int_of >>= λ k. cell_of s.objects at k v) (evaluates (Of ty.IntPtr) it.0 false found)
      (λ v behind remembers holds.
      course_then n g sites s (λ k b. Unit {0}) (IsPlaced n g sites s (Index e i at) t) B C behind (eval s.slots s.objects i >>= int_of) (λ k. cell_of s.objects at k v)
      (course_map n g sites s (IsValueOf n g sites s i of_index.0 false behind) (λ k b. Unit {0}) B behind (eval s.slots s.objects i) int_of (index of_index.0 of_index.1 false behind)
      (λ w b r h. course_weaker n g sites s (λ a c. w ≡ value.Int a) (λ a c. Unit {0}) [] b (int_of w) (λ a c r h. tt) (int_course n g sites s b w)))
      (λ k later r h.
      course_weaker n g sites s (λ l b. IsLocation n g sites s None t l) (IsPlaced n g sites s (Index e i at) t) C later (cell_of s.objects at k v) (λ l b remembers h. (h, tt))
      (element_place e at k t found v behind later t_is holds))))

  var_place : (x at : ℕ) (t : Ty) (found : List Value) → sort_at d (Var x at) ≡ Some (Of t) → Course n g sites s Location (IsPlaced n g sites s (Var x at) t) [] found (place_layer s.slots s.objects (Var x at))
  var_place x at t found is =
      let it = map_of (var_type d x) (Of t) is in
      let same_type : Of t ≡ Of it.0 = it.2 in
      let t_is : it.0 ≡ t = cc in
      let is_of : type_of n x ≡ Some t = sym (var_declared n d same places x) ∙ it.1 ∙ ap Some t_is in
      all_done (Slot x) found refl (var_location n g sites s d same places x t is_of, refl)

  -- values

  -- a place is worked out, and then read
  from_place : (x : Expr-F Expr) (t : Ty) (found : List Value) (noted : Bool) (at : ℕ) (r : Result Location Stop) → AgreesWith n (is_pointer t) t (look_at n x).pointer →
      Course n g sites s Location (IsPlaced n g sites s x t) (look_at n x).within found r → Course n g sites s Value (IsValue n g sites s (look_at n x) (Of t) noted found) (valued noted (look_at n x)) found (r >>= value_at s.slots s.objects at)
  from_place x t found noted at r agrees places_it =
      course_then n g sites s (IsPlaced n g sites s x t) (IsValue n g sites s (look_at n x) (Of t) noted found) (look_at n x).within (itself noted (look_at n x).pointer) found r (value_at s.slots s.objects at) places_it
      (λ l behind remembers placed.
      course_weaker n g sites s (λ a b. Holds n g sites s (Of t) a × Shown n g sites s (look_at n x).pointer noted (length behind) b a) (IsValue n g sites s (look_at n x) (Of t) noted found) (itself noted (look_at n x).pointer) behind (value_at s.slots s.objects at l)
      (λ a b r h. (h.0, subst (λ (k : ℕ). Shown n g sites s (look_at n x).pointer noted k b a) (remembered_length (look_at n x).within found behind remembers) h.1))
      (value_course n g sites s d same places typed (look_at n x).pointer t noted at l behind agrees placed.0))

  -- a number, which nothing is looked at by
  number_of : (ds : List Deed) (t : Sort) (noted : Bool) (found : List Value) (r : Result Value Stop) → t ≡ Of ty.Int → Course n g sites s Value (λ a b. Holds n g sites s (Of ty.Int) a) ds found r →
      Course n g sites s Value (IsValue n g sites s (record { pointer = None; within = ds }) t noted found) (ds ++ []) found r
  number_of ds t noted found r is h =
      subst (λ (es : List Deed). Course n g sites s Value (IsValue n g sites s (record { pointer = None; within = ds }) t noted found) es found r) (sym (append-nil ds))
      (course_weaker n g sites s (λ a b. Holds n g sites s (Of ty.Int) a) (IsValue n g sites s (record { pointer = None; within = ds }) t noted found) ds found r
      (λ a b r h. (subst (λ (u : Sort). Holds n g sites s u a) (sym is) h, tt)) h)

  unary_value : (o : Sign) (e : Expr) (at : ℕ) (found : List Value) (g1 : Sort) → ExprEvaluates e → sort_of d e ≡ Some g1 →
      Course n g sites s Value (λ a b. Holds n g sites s (Of ty.Int) a) (valued false (look n e)) found (eval s.slots s.objects e >>= signed o at)
  unary_value o e at found g1 evaluates is =
      course_map n g sites s (IsValueOf n g sites s e g1 false found) (λ a b. Holds n g sites s (Of ty.Int) a) (valued false (look n e)) found (eval s.slots s.objects e) (signed o at) (evaluates g1 is false found)
      (λ v behind r h. quiet_course n g sites s behind (signed o at v) (signed_quiet o at v))

  binary_value : (o : Oper) (a b : Expr) (at : ℕ) (noted : Bool) (found : List Value) (left right : Sort) → ExprEvaluates a → ExprEvaluates b → sort_of d a ≡ Some left → sort_of d b ≡ Some right →
      Course n g sites s Value (λ c behind. Holds n g sites s (Of ty.Int) c) (valued noted (look n a) ++ valued noted (look n b)) found (eval s.slots s.objects a >>= λ v. eval s.slots s.objects b >>= binary o at v)
  binary_value o a b at noted found left right first second left_is right_is =
      course_then n g sites s (IsValueOf n g sites s a left noted found) (λ c behind. Holds n g sites s (Of ty.Int) c) (valued noted (look n a)) (valued noted (look n b)) found (eval s.slots s.objects a) (λ v. eval s.slots s.objects b >>= binary o at v) (first left left_is noted found)
      (λ v behind r h.
      course_map n g sites s (IsValueOf n g sites s b right noted behind) (λ c behind. Holds n g sites s (Of ty.Int) c) (valued noted (look n b)) behind (eval s.slots s.objects b) (binary o at v) (second right right_is noted behind)
      (λ w later r h. quiet_course n g sites s later (binary o at v w) (binary_quiet o at v w)))

  index_value : (e i : Expr) (at : ℕ) (t : Ty) (noted : Bool) (found : List Value) → ExprEvaluates e → ExprEvaluates i → sort_at d (Index e i at) ≡ Some (Of t) → AgreesWith n (is_pointer t) t None →
      Course n g sites s Value (IsValue n g sites s (look_at n (Index e i at)) (Of t) noted found) (valued noted (look_at n (Index e i at))) found (eval_at (Index e i at))
  index_value e i at t noted found evaluates index is agrees =
      subst (λ (r : Result Value Stop). Course n g sites s Value (IsValue n g sites s (look_at n (Index e i at)) (Of t) noted found) (valued noted (look_at n (Index e i at))) found r)
      (sym (index_assoc (eval s.slots s.objects e) (eval s.slots s.objects i) (λ k v. cell_of s.objects at k v) (value_at s.slots s.objects at)))
      (from_place (Index e i at) t found noted at (place_layer s.slots s.objects (Index e i at)) agrees (index_place e i at t found evaluates index is))

  -- the type of a place is no null pointer's
  of_type : (x : Expr-F Expr) (t : Sort) → Agrees n (sort_at d x) (look_at n x).pointer → sort_at d x ≡ Some t → Agrees n (Some t) (look_at n x).pointer
  of_type x t agrees is = subst (λ (o : Option Sort). Agrees n o (look_at n x).pointer) is agrees

  layer_evaluates : (y : Expr-F ((e : Expr) × ExprEvaluates e)) → Agrees n (sort_at d (plain y)) (look_at n (plain y)).pointer → Evaluates (look_at n (plain y)) (eval_at (plain y)) (sort_at d (plain y))
  layer_evaluates (Const v at) agrees t is noted found = let it = if_typed (fits v) t is in all_done (value.Int v) found refl (subst (λ (u : Sort). Holds n g sites s u (value.Int v)) (sym it.1) (refl, λ e. absurd cc), tt)
  layer_evaluates (Null at) agrees t is noted found = let e : AnyPointer ≡ t = cc in all_done value.Null found refl (subst (λ (u : Sort). Holds n g sites s u value.Null) e refl, tt)
  layer_evaluates (Var x at) agrees t is noted found =
      let it = map_of (var_type d x) t is in
      subst (λ (u : Sort). Course n g sites s Value (IsValue n g sites s (look_at n (Var x at)) u noted found) (valued noted (look_at n (Var x at))) found (eval_at (Var x at))) (sym it.2)
      (from_place (Var x at) it.0 found noted at (Ok (Slot x)) (of_type (Var x at) (Of it.0) agrees (is ∙ ap Some it.2)) (var_place x at it.0 found (is ∙ ap Some it.2)))
  layer_evaluates (Field e f at) agrees t is noted found =
      let it = member_typed d at f (sort_of d e.0) t is in
      let x = Field e.0 f at in
      subst (λ (u : Sort). Course n g sites s Value (IsValue n g sites s (look_at n x) u noted found) (valued noted (look_at n x)) found (eval_at x)) (sym it.4)
      (from_place x it.1 found noted at (place_layer s.slots s.objects x) (of_type x (Of it.1) agrees (is ∙ ap Some it.4)) (field_place e.0 f at it.1 found e.1 (is ∙ ap Some it.4)))
  layer_evaluates (Deref e at) agrees t is noted found =
      let it = pointee_typed (sort_of d e.0) t is in
      let x = Deref e.0 at in
      subst (λ (u : Sort). Course n g sites s Value (IsValue n g sites s (look_at n x) u noted found) (valued noted (look_at n x)) found (eval_at x)) (sym it.1)
      (from_place x ty.Int found noted at (place_layer s.slots s.objects x) refl (deref_place e.0 at ty.Int found e.1 (is ∙ ap Some it.1)))
  layer_evaluates (Index e i at) agrees t is noted found =
      let parts = element_typed (has is_int (sort_of d i.0)) (sort_of d e.0) t is in
      let it = pointee_typed (sort_of d e.0) t parts.1 in
      let x = Index e.0 i.0 at in
      subst (λ (u : Sort). Course n g sites s Value (IsValue n g sites s (look_at n x) u noted found) (valued noted (look_at n x)) found (eval_at x)) (sym it.1)
      (index_value e.0 i.0 at ty.Int noted found e.1 i.1 (is ∙ ap Some it.1) refl)
  layer_evaluates (Unary o e at) agrees t is noted found =
      let it = sign_typed o (judged d e.0) t is in
      number_of (valued false (look n e.0)) t noted found (eval_at (Unary o e.0 at)) it.2 (unary_value o e.0 at found it.0 e.1 it.1)
  layer_evaluates (Binary o a b at) agrees t is noted found =
      let it = operands_typed o (judged d a.0) (judged d b.0) t is in
      let both = compares o (pointer_of n a.0) (pointer_of n b.0) in
      number_of (valued both (look n a.0) ++ valued both (look n b.0)) t noted found (eval_at (Binary o a.0 b.0 at)) it.int (binary_value o a.0 b.0 at both found it.left it.right a.1 b.1 it.left_is it.right_is)

  rolled_evaluates : (y : Expr-F ((e : Expr) × ExprEvaluates e)) (x : Expr-F Expr) → plain y ≡ x → ExprEvaluates (roll-Expr x)
  rolled_evaluates y x is =
      let agrees : (z : Expr-F Expr) → Agrees n (sort_at d z) (look_at n z).pointer = λ z.
      subst (λ (o : Option Sort). Agrees n o (look_at n z).pointer) (sort_rolls n d same places z)
      (subst (λ (q : Option Pointer). Agrees n (sort_of d (roll-Expr z)) q) (pointer_rolls n d same places z) (expr_agrees n d same places (roll-Expr z))) in
      let layer : Evaluates (look_at n x) (eval_at x) (sort_at d x) = subst (λ (z : Expr-F Expr). Evaluates (look_at n z) (eval_at z) (sort_at d z)) is (layer_evaluates y (agrees (plain y))) in
      subst (λ (o : Option Sort). Evaluates (look n (roll-Expr x)) (eval s.slots s.objects (roll-Expr x)) o) (sym (sort_rolls n d same places x))
      (subst (λ (r : Result Value Stop). Evaluates (look n (roll-Expr x)) r (sort_at d x)) (sym (fold-roll-Expr (Result Value Stop) (eval_layer s.slots s.objects) x))
      (subst (λ (k : Look). Evaluates k (eval_at x) (sort_at d x)) (sym (fold-roll-Expr Look (look_layer n) x)) layer))

  -- the evaluation of an expression does its deeds
  pub expr_evaluates : (e : Expr) → ExprEvaluates e
  expr_evaluates = ind-Expr ExprEvaluates (λ x y is. rolled_evaluates y x is)

  -- and so does the working out of a place
  place_by : (x : Expr-F Expr) (t : Ty) (found : List Value) → sort_at d x ≡ Some (Of t) → Course n g sites s Location (IsPlaced n g sites s x t) (look_at n x).within found (place_layer s.slots s.objects x)
  place_by (Const v at) t found is = is_excluded
  place_by (Null at) t found is = is_excluded
  place_by (Var x at) t found is = var_place x at t found is
  place_by (Field e f at) t found is = field_place e f at t found (expr_evaluates e) is
  place_by (Deref e at) t found is = deref_place e at t found (expr_evaluates e) is
  place_by (Index e i at) t found is = index_place e i at t found (expr_evaluates e) (expr_evaluates i) is
  place_by (Unary o e at) t found is = is_excluded
  place_by (Binary o a b at) t found is = is_excluded

  pub look_opens : (e : Expr) → look n e ≡ look_at n (out-Expr e)
  look_opens e = fold_out-Expr Look (look_layer n) e

  pub place_does : (e : Expr) (t : Ty) (found : List Value) → sort_of d e ≡ Some (Of t) → Course n g sites s Location (IsPlaced n g sites s (out-Expr e) t) (within n e) found (place_of s.slots s.objects e)
  place_does e t found is =
      subst (λ (k : Look). Course n g sites s Location (IsPlaced n g sites s (out-Expr e) t) k.within found (place_of s.slots s.objects e)) (sym (look_opens e))
      (place_by (out-Expr e) t found (sym (sort_opens n d same places e) ∙ is))
