-- Frees of null pointers and pointing expressions: what they are given, when they have no fault, and what they change.
use Rattle.std.proofs.Common.{◌≡◌, ℕ, ◌+◌, ◌<◌, Bool, true, false, List, slice_get, length, Option, Some, None, Result, Ok, option_map, option_and_then, refl, ap, sym, subst, ◌∙◌}
use Rattle.std.specs.Prelude.{nat_lt, unwrap_or, if◌then◌else◌}
use Rattle.std.proofs.lemmas.Option.{slice_get_within, slice_get_past}
use Rattle.std.proofs.lemmas.Bool.{ltb-false}
use Rattle.c_tree.specs.Typing.{declarations}
use Rattle.c_tree.specs.declared.expr.Expr.{Expr, Expr-F, out-Expr, map-Expr, fold_out-Expr}
use Rattle.c_tree.specs.declared.expr.Expr.TheOpen.{Const, Null, Var, Field, Deref, Index, Unary, Binary}
use Rattle.c_tree.specs.declared.program.Free.{Free}
use Rattle.c_tree.specs.declared.program.Program.{Program}
use Rattle.c_tree.specs.declared.program.Ty.{Ty}
use Rattle.c_meaning.specs.declared.value.Value.{Value}
use Rattle.c_meaning.specs.declared.value.Value.TheVariants as value
use Rattle.c_meaning.specs.declared.machine.Location.{Location}
use Rattle.c_meaning.specs.declared.machine.Location.TheVariants.{Slot, Cell}
use Rattle.c_meaning.specs.declared.machine.Object.{Object}
use Rattle.c_meaning.specs.declared.machine.Stop.{Stop}
use Rattle.c_meaning.specs.Eval.{◌>>=◌, excluded, cells_of, is_freed, unless_freed, read as read_content, field_cell, eval_layer, eval, place_layer, place_of, offset_of}
use Rattle.c_meaning.specs.Effects.{content_at, freed_layer, freed_once, freed_value, freed_result, freed}
use Rattle.c_meaning.specs.Machine.{Store, marked_freed, deallocated}
use Rattle.c_graph.specs.declared.graph.Graph.{Graph}
use Rattle.ts_domain.specs.declared.fact.Fact.TheVariants.{Ready, Full, Filled}
use Rattle.ts_domain.specs.declared.names.Names.{Names}
use Rattle.ts_domain.specs.Deeds.{is_null_layer, is_null}
use Rattle.ts_domain.specs.PeekedFrees.{FreesContent, nothing, frees, frees_twice}
use Rattle.ts_domain.specs.Pointers.{place_of as variable_place, field_place}
use Rattle.ts_domain.specs.Truth.{IsTrueOf}
use Rattle.ts_domain.specs.TypedMachines.{Fits, location_type, IsTyped}
use Rattle.ts_domain.specs.Views.{AreNames, view_of, pointing, slot_seen, peek, field_seen, site_type, object_type}
use Rattle.ts_domain.proofs.Answers.{same_is}
use Rattle.ts_domain.proofs.Expressions.{peek_slot, peek_of_field}
use Rattle.ts_domain.proofs.Frees.{freed_same}
use Rattle.ts_domain.proofs.NameLaws.{HasPlaces, has_places, missing_within}
use Rattle.ts_domain.proofs.PointerSorts.{AreDeclared}
use Rattle.ts_domain.proofs.Stores.{content, altered_here, altered_there, same_view}

-- what a free changes

-- the object is freed
pub freed_now : (s : Store) (o : ℕ) → o < length s.objects → is_freed (deallocated o s).objects o ≡ true
freed_now s o low = ap (λ (x : Option Object). unwrap_or (option_map (λ (b : Object). b.freed) x) false) (altered_here marked_freed o s.objects) ∙ by_object (slice_get s.objects o) refl
  where
    by_object : (x : Option Object) → slice_get s.objects o ≡ x → unwrap_or (option_map (λ (b : Object). b.freed) (option_map marked_freed x)) false ≡ true
    by_object None at = absurd (missing_within s.objects o low at)
    by_object (Some b) at = refl

-- no other object is
pub freed_as_before : (s : Store) (o q : ℕ) → (o ≡ q → ⊥) → is_freed (deallocated o s).objects q ≡ is_freed s.objects q
freed_as_before s o q apart = ap (λ (x : Option Object). unwrap_or (option_map (λ (b : Object). b.freed) x) false) (altered_there marked_freed o q s.objects apart)

-- frees show the same view
pub freed_view : (n : Names) (f : Free) (s : Store) → view_of n (freed f s) ≡ view_of n s
freed_view n f s = sym (same_is (same_view n s (freed f s) (λ l. ap pointing (sym ((freed_same f s).contents l)))))

-- what a free is given

once_frees : (word o : ℕ) (s : Store) (b : Bool) → is_freed s.objects o ≡ b → FreesContent s word (value.Ptr o) (freed_once word o b s)
once_frees word o s true is = frees_twice o is
once_frees word o s false is = frees o is

value_frees : (word offset : ℕ) (c : Value) (s : Store) → (pointing c ≡ value.Undef → ⊥) → FreesContent s word (pointing c) (freed_value word offset c s)
value_frees word offset value.Undef s defined = absurd (defined refl)
value_frees word offset (value.Int m) s defined = absurd (defined refl)
value_frees word offset value.Null s defined = nothing
value_frees word offset (value.Ptr o) s defined = once_frees word o s (is_freed s.objects o) refl

-- a free of a place is given what it holds
placed_frees : (f : Free) (s : Store) (l : Location) → freed_layer s f.expr (out-Expr f.expr) ≡ Ok (content s l) → (pointing (content s l) ≡ value.Undef → ⊥) → FreesContent s f.start (pointing (content s l)) (freed f s)
placed_frees f s l at defined =
    subst (λ (r : Result Value Stop). FreesContent s f.start (pointing (content s l)) (freed_result f.start (offset_of f.expr) r s)) (sym at) (value_frees f.start (offset_of f.expr) (content s l) s defined)

-- a null constant frees nothing
pub null_frees : (f : Free) (s : Store) → is_null f.expr ≡ true → freed f s ≡ s
null_frees f s is = by_layer (out-Expr f.expr) refl is
  where
    evaluated : (x : Expr-F Expr) → out-Expr f.expr ≡ x → eval s.slots s.objects f.expr ≡ eval_layer s.slots s.objects (map-Expr Expr (Result Value Stop) (eval s.slots s.objects) x)
    evaluated x at = fold_out-Expr (Result Value Stop) (eval_layer s.slots s.objects) f.expr ∙ ap (λ (y : Expr-F Expr). eval_layer s.slots s.objects (map-Expr Expr (Result Value Stop) (eval s.slots s.objects) y)) at

    by_result : (r : Result Value Stop) → freed_layer s f.expr (out-Expr f.expr) ≡ r → freed f s ≡ freed_result f.start (offset_of f.expr) r s
    by_result r at = ap (λ (q : Result Value Stop). freed_result f.start (offset_of f.expr) q s) at

    by_layer : (x : Expr-F Expr) → out-Expr f.expr ≡ x → is_null_layer x ≡ true → freed f s ≡ s
    by_layer (Const v offset) at null = by_result (Ok (value.Int v)) (ap (freed_layer s f.expr) at ∙ evaluated (Const v offset) at)
    by_layer (Null offset) at null = by_result (Ok value.Null) (ap (freed_layer s f.expr) at ∙ evaluated (Null offset) at)
    by_layer (Var x offset) at null = absurd cc
    by_layer (Field e h offset) at null = absurd cc
    by_layer (Deref e offset) at null = absurd cc
    by_layer (Index e i offset) at null = absurd cc
    by_layer (Unary o e offset) at null = absurd cc
    by_layer (Binary o a b offset) at null = absurd cc

pointed : (c : Value) (o : ℕ) → pointing c ≡ value.Ptr o → c ≡ value.Ptr o
pointed value.Undef o h = absurd cc
pointed (value.Int m) o h = absurd cc
pointed value.Null o h = absurd cc
pointed (value.Ptr q) o h = h

module _ (p : Program) (g : Graph) (n : Names) (names : AreNames p g n) (sites : List ℕ) (s : Store) where
  same_names : AreDeclared (declarations p) n
  same_names = record { vars = sym names.decls; structs = sym names.structs }

  places : HasPlaces n
  places = has_places p g n names

  slot_held : (x k : ℕ) → variable_place n x ≡ Some k → (view_of n s).slot k ≡ pointing (content s (Slot x))
  slot_held x k at = ap (slot_seen s) (places.there x k at)

  -- free of a variable that is set: it frees the object that the variable holds
  pub variable_frees : (f : Free) (x k offset : ℕ) → out-Expr f.expr ≡ Var x offset → variable_place n x ≡ Some k → IsTrueOf n (view_of n s) (Ready k) → FreesContent s f.start (peek n (view_of n s) k) (freed f s)
  variable_frees f x k offset is at ready =
      let given : freed_layer s f.expr (out-Expr f.expr) ≡ Ok (content s (Slot x)) =
      ap (freed_layer s f.expr) is ∙ ap (λ (y : Expr-F Expr). place_layer s.slots s.objects y >>= content_at s) is in
      subst (λ (c : Value). FreesContent s f.start c (freed f s)) (sym (peek_slot n g sites s (declarations p) same_names places k x (places.there x k at)))
      (placed_frees f s (Slot x) given (λ undef. ready (slot_held x k at ∙ undef)))

  -- free of a field of a variable that holds an object that isn't freed, where the field is set: it frees the object that the field
  -- holds
  module _ (f : Free) (e : Expr) (x k h j offset base_offset : ℕ) (is : out-Expr f.expr ≡ Field e h offset) (base : out-Expr e ≡ Var x base_offset) (at : variable_place n x ≡ Some k) (field : field_place n.fields k h ≡ Some j)
      (full : IsTrueOf n (view_of n s) (Full k)) (filled : IsTrueOf n (view_of n s) (Filled j)) (alive : (o : ℕ) → (view_of n s).slot k ≡ value.Ptr o → is_freed s.objects o ≡ false) where
    base_is : eval s.slots s.objects e ≡ Ok (value.Ptr full.0)
    base_is =
        fold_out-Expr (Result Value Stop) (eval_layer s.slots s.objects) e ∙ ap (λ (y : Expr-F Expr). eval_layer s.slots s.objects (map-Expr Expr (Result Value Stop) (eval s.slots s.objects) y)) base
        ∙ ap (read_content s.objects base_offset) (pointed (content s (Slot x)) full.0 (sym (slot_held x k at) ∙ full.1)) ∙ ap (unless_freed base_offset full.0) (alive full.0 full.1)

    is_set : pointing (content s (Cell full.0 h)) ≡ value.Undef → ⊥
    is_set = filled (k, h) full.0 (places.field_there k h j field) full.1

    within_by : (b : Bool) → nat_lt h (length (cells_of s.objects full.0)) ≡ b → (if b then Ok (Cell full.0 h) else excluded) ≡ Ok (Cell full.0 h)
    within_by true low = refl
    within_by false past =
        absurd (is_set (ap (λ (c : Option Value). pointing (unwrap_or c value.Undef)) (slice_get_past (cells_of s.objects full.0) h (ltb-false h (length (cells_of s.objects full.0)) past))))

    place_is : place_of s.slots s.objects f.expr ≡ Ok (Cell full.0 h)
    place_is =
        ap (place_layer s.slots s.objects) is ∙ ap (λ (r : Result Value Stop). r >>= field_cell s.objects offset h) base_is ∙ within_by (nat_lt h (length (cells_of s.objects full.0))) refl

    pub field_frees : FreesContent s f.start (peek n (view_of n s) (length n.vars + j)) (freed f s)
    field_frees =
        let given : freed_layer s f.expr (out-Expr f.expr) ≡ Ok (content s (Cell full.0 h)) = ap (freed_layer s f.expr) is ∙ ap (λ (r : Result Location Stop). r >>= content_at s) place_is in
        let peeked : peek n (view_of n s) (length n.vars + j) ≡ pointing (content s (Cell full.0 h)) =
        peek_of_field n g sites s (declarations p) same_names places (view_of n s) j k h (places.field_there k h j field) ∙ ap (field_seen (view_of n s) h) full.1 in
        subst (λ (c : Value). FreesContent s f.start c (freed f s)) (sym peeked) (placed_frees f s (Cell full.0 h) given is_set)

  -- pointers point to objects that are there

  module _ (typed : IsTyped n g sites s) where
    pub content_within : (l : Location) (o : ℕ) → content s l ≡ value.Ptr o → o < length s.objects
    content_within l o is = by_type (location_type n g sites l) refl
      where
        by_site : (x : Option ℕ) (t : Ty) → slice_get sites o ≡ x → object_type g sites o ≡ Some t → o < length s.objects
        by_site None t at made = let never : None ≡ Some t = sym (ap (option_and_then (site_type g)) at) ∙ made in absurd cc
        by_site (Some v) t at made = subst (λ (m : ℕ). o < m) (sym typed.objects) (slice_get_within sites o v at)

        by_type : (t : Option Ty) → location_type n g sites l ≡ t → o < length s.objects
        by_type None at = let never : value.Ptr o ≡ value.Undef = sym is ∙ typed.types.others l at in absurd cc
        by_type (Some t) at = let fit : Fits g sites t (value.Ptr o) = subst (λ (c : Value). Fits g sites t c) is (typed.types.contents l t at) in by_site (slice_get sites o) t refl fit.0

    pub slot_within : (k o : ℕ) → (view_of n s).slot k ≡ value.Ptr o → o < length s.objects
    slot_within k o h = by_var (slice_get n.vars k) h
      where
        by_var : (x : Option ℕ) → slot_seen s x ≡ value.Ptr o → o < length s.objects
        by_var None h = absurd cc
        by_var (Some x) h = content_within (Slot x) o (pointed (content s (Slot x)) o h)

    pub cell_within : (q f o : ℕ) → (view_of n s).cell q f ≡ value.Ptr o → o < length s.objects
    cell_within q f o h = content_within (Cell q f) o (pointed (content s (Cell q f)) o h)
