-- A new object: its cells are indeterminate, nothing holds it, and it has a site of its own.
use Rattle.std.proofs.Common.{◌≡◌, ℕ, zero, suc, ◌<◌, ◌==◌, ◌⊎◌, inl, inr, ⊎_elim, Bool, true, false, List, [], ◌∷◌, ◌++◌, slice_get, length, replicate, Option, Some, None, option_map, option_and_then, refl, ap, sym, subst, ◌∙◌, arith}
use Rattle.std.specs.Prelude.{unwrap_or}
use Rattle.std.proofs.lemmas.Option.{slice_get_within, slice_get_past}
use Rattle.c_tree.specs.Typing.{Declarations, Sort, Of, sort_of}
use Rattle.c_tree.specs.declared.expr.Expr.{Expr, Expr-F, out-Expr, fold_out-Expr}
use Rattle.c_tree.specs.declared.expr.Expr.TheOpen.{Const, Null, Var, Field, Deref, Index, Unary, Binary}
use Rattle.c_tree.specs.declared.program.Program.{Program}
use Rattle.c_tree.specs.declared.program.Ty.{Ty}
use Rattle.c_meaning.specs.declared.value.Value.{Value}
use Rattle.c_meaning.specs.declared.value.Value.TheVariants as value
use Rattle.c_meaning.specs.declared.machine.Location.{Location}
use Rattle.c_meaning.specs.declared.machine.Location.TheVariants.{Slot, Cell}
use Rattle.c_meaning.specs.declared.machine.Object.{Object}
use Rattle.c_meaning.specs.Eval.{cells_of}
use Rattle.c_meaning.specs.Effects.{answered, born}
use Rattle.c_meaning.specs.Machine.{Store, altered, with_cell}
use Rattle.c_graph.specs.declared.graph.Graph.{Graph}
use Rattle.c_graph.specs.declared.graph.Node.{Node}
use Rattle.std.proofs.lemmas.Bool.{eqb-true, eq-eqb}
use Rattle.call_contexts.proofs.Has.{Has, get_left, get_has, found}
use Rattle.ts_domain.specs.declared.names.Names.{Names}
use Rattle.ts_domain.specs.Deeds.{site_of}
use Rattle.ts_domain.specs.Looks.{Look, look_layer, pointer_of}
use Rattle.ts_domain.specs.Numbering.{makes}
use Rattle.ts_domain.specs.Pointers.{is_pointer}
use Rattle.ts_domain.specs.TypedGraphs.{answer_fits}
use Rattle.ts_domain.specs.TypedMachines.{Fits, cell_type, location_type, HasTypes, IsTyped}
use Rattle.ts_domain.specs.Views.{AreNames, view_of, slot_seen, pointing, site_type, object_type, IsFresh}
use Rattle.ts_domain.proofs.Answers.{IsAnswer, answer_type}
use Rattle.ts_domain.proofs.Evaluations.{look_at, IsPlaced}
use Rattle.ts_domain.proofs.NameLaws.{HasPlaces, missing_within, at_position, passing_has}
use Rattle.ts_domain.proofs.PointerSorts.{AreDeclared, AgreesWith, Agrees, expr_agrees}
use Rattle.ts_domain.proofs.Stores.{content}
use Rattle.ts_domain.proofs.PlaceWrites.{none_is_some}

-- contents

data Grown {A : Type 0} (xs : List A) (b : A) (i : ℕ) : Type 0 where
  as_before : slice_get (xs ++ b ∷ []) i ≡ slice_get xs i → Grown xs b i
  new_one : slice_get xs i ≡ None → slice_get (xs ++ b ∷ []) i ≡ Some b → Grown xs b i

grown : {A : Type 0} (xs : List A) (b : A) (i : ℕ) → Grown xs b i
grown [] b zero = new_one refl refl
grown [] b (suc i) = as_before refl
grown (x ∷ xs) b zero = as_before refl
grown (x ∷ xs) b (suc i) = by_rest (grown xs b i)
  where
    by_rest : Grown xs b i → Grown (x ∷ xs) b (suc i)
    by_rest (as_before e) = as_before e
    by_rest (new_one e f) = new_one e f

all_undef : (m f : ℕ) → unwrap_or (slice_get (replicate m value.Undef) f) value.Undef ≡ value.Undef
all_undef zero f = refl
all_undef (suc m) zero = refl
all_undef (suc m) (suc f) = all_undef m f

missing_cell : (s : Store) (o f : ℕ) → slice_get s.objects o ≡ None → content s (Cell o f) ≡ value.Undef
missing_cell s o f none = ap (λ (x : Option Object). unwrap_or (slice_get (unwrap_or (option_map (λ (b : Object). b.cells) x) []) f) value.Undef) none

-- a birth changes no content
pub born_content : (m : ℕ) (s : Store) (l : Location) → content (born m s) l ≡ content s l
born_content m s (Slot x) = refl
born_content m s (Cell o f) = by_place (grown s.objects (record { cells = replicate m value.Undef; freed = false }) o)
  where
    by_place : Grown s.objects (record { cells = replicate m value.Undef; freed = false }) o → content (born m s) (Cell o f) ≡ content s (Cell o f)
    by_place (as_before e) = ap (λ (x : Option Object). unwrap_or (slice_get (unwrap_or (option_map (λ (b : Object). b.cells) x) []) f) value.Undef) e
    by_place (new_one none e) =
        ap (λ (x : Option Object). unwrap_or (slice_get (unwrap_or (option_map (λ (b : Object). b.cells) x) []) f) value.Undef) e ∙ all_undef m f ∙ sym (missing_cell s o f none)

altered_left : {A : Type 0} (f : A → A) (o : ℕ) (xs ys : List A) → o < length xs → altered f o (xs ++ ys) ≡ altered f o xs ++ ys
altered_left f o [] ys low = absurd (omega arith)
altered_left f zero (x ∷ xs) ys low = refl
altered_left f (suc o) (x ∷ xs) ys low = let less : o < length xs = omega arith in ap (λ (zs : List _). x ∷ zs) (altered_left f o xs ys less)

-- a location that is there before a birth
abbrev pub IsOld : Store → Option Location → Type 0
IsOld s None = Unit {0}
IsOld s (Some (Slot x)) = Unit {0}
IsOld s (Some (Cell o f)) = o < length s.objects

-- an answer to it may as well come first
pub born_behind : (m : ℕ) (s : Store) (l : Option Location) (v : Value) → IsOld s l → answered l v (born m s) ≡ born m (answered l v s)
born_behind m s None v old = refl
born_behind m s (Some (Slot x)) v old = refl
born_behind m s (Some (Cell o f)) v old = ap (λ (os : List Object). record s { objects = os }) (altered_left (with_cell f v) o s.objects (record { cells = replicate m value.Undef; freed = false } ∷ []) old)

module _ (n : Names) (g : Graph) (sites : List ℕ) (s : Store) where
  cell_old : (o f : ℕ) → f < length (cells_of s.objects o) → o < length s.objects
  cell_old o f low = by_object (slice_get s.objects o) refl
    where
      by_object : (x : Option Object) → slice_get s.objects o ≡ x → o < length s.objects
      by_object (Some b) e = slice_get_within s.objects o b e
      by_object None e =
          let none : length (cells_of s.objects o) ≡ 0 = ap (λ (x : Option Object). length (unwrap_or (option_map (λ (b : Object). b.cells) x) [])) e in
          absurd (omega arith)

  pointer_old : (l : Location) (t : Ty) (b : Bool) → is_pointer t ≡ b → b ≡ true → AgreesWith n b t None → IsOld s (Some l)
  pointer_old l t true points is agrees = absurd (none_is_some agrees.1)
  pointer_old l t false points is agrees = absurd cc

  -- a place of pointer type is a slot, or a cell that is there
  layer_old : (x : Expr-F Expr) (t : Ty) (l : Location) (behind : List Value) → is_pointer t ≡ true → Agrees n (Some (Of t)) (look_at n x).pointer → IsPlaced n g sites s x t l behind → IsOld s (Some l)
  layer_old (Var x at) t l behind points agrees placed = subst (λ (m : Location). IsOld s (Some m)) (sym placed.1) tt
  layer_old (Field e f at) t l behind points agrees placed = subst (λ (m : Location). IsOld s (Some m)) (sym placed.1.is) (cell_old placed.1.object f placed.1.within)
  layer_old (Deref e at) t l behind points agrees placed = pointer_old l t (is_pointer t) refl points agrees
  layer_old (Index e i at) t l behind points agrees placed = pointer_old l t (is_pointer t) refl points agrees
  layer_old (Const c at) t l behind points agrees placed = pointer_old l t (is_pointer t) refl points agrees
  layer_old (Null at) t l behind points agrees placed = pointer_old l t (is_pointer t) refl points agrees
  layer_old (Unary o e at) t l behind points agrees placed = pointer_old l t (is_pointer t) refl points agrees
  layer_old (Binary o a b at) t l behind points agrees placed = pointer_old l t (is_pointer t) refl points agrees

-- types

module _ (n : Names) (g : Graph) (sites more : List ℕ) where
  object_more : (o : ℕ) (t : Ty) → object_type g sites o ≡ Some t → object_type g (sites ++ more) o ≡ Some t
  object_more o t h = by_site (slice_get sites o) refl h
    where
      by_site : (x : Option ℕ) → slice_get sites o ≡ x → option_and_then (site_type g) x ≡ Some t → object_type g (sites ++ more) o ≡ Some t
      by_site None e h = absurd cc
      by_site (Some v) e h = ap (option_and_then (site_type g)) (get_left sites more v o e) ∙ h

  fits_more : (t : Ty) (c : Value) → Fits g sites t c → Fits g (sites ++ more) t c
  fits_more t value.Undef h = tt
  fits_more t (value.Int m) h = h
  fits_more t value.Null h = h
  fits_more t (value.Ptr o) h = (object_more o t h.0, h.1)

  module _ (s : Store) (typed : HasTypes n g sites s) (counted : length s.objects ≡ length sites) where
    object_missing : (o : ℕ) → slice_get sites o ≡ None → slice_get s.objects o ≡ None
    object_missing o none = by_object (slice_get s.objects o) refl
      where
        by_object : (x : Option Object) → slice_get s.objects o ≡ x → slice_get s.objects o ≡ None
        by_object None e = e
        by_object (Some b) e = let low : o < length s.objects = slice_get_within s.objects o b e in let less : o < length sites = omega arith in absurd (missing_within sites o less none)

    old_type : (l : Location) (u : Option Ty) → location_type n g (sites ++ more) l ≡ u → (content s l ≡ value.Undef) ⊎ (location_type n g sites l ≡ u)
    old_type (Slot x) u h = inr h
    old_type (Cell o f) u h = by_site (slice_get sites o) refl
      where
        by_site : (x : Option ℕ) → slice_get sites o ≡ x → (content s (Cell o f) ≡ value.Undef) ⊎ (location_type n g sites (Cell o f) ≡ u)
        by_site None e = inl (missing_cell s o f (object_missing o e))
        by_site (Some v) e = inr (ap (λ (x : Option ℕ). option_and_then (cell_type n f) (option_and_then (site_type g) x)) (e ∙ sym (get_left sites more v o e)) ∙ h)

    -- with more sites behind those of all objects the types are the same
    pub more_types : HasTypes n g (sites ++ more) s
    more_types = record {
      slots = typed.slots;
      contents = λ l t h. ⊎_elim (λ none. subst (λ (c : Value). Fits g (sites ++ more) t c) (sym none) tt) (λ old. fits_more t (content s l) (typed.contents l t old)) (old_type l (Some t) h);
      others = λ l h. ⊎_elim (λ none. none) (λ old. typed.others l old) (old_type l None h);
    }

pub born_types : (n : Names) (g : Graph) (sites : List ℕ) (s : Store) (m : ℕ) → HasTypes n g sites s → HasTypes n g sites (born m s)
born_types n g sites s m typed = record {
  slots = typed.slots;
  contents = λ l t h. subst (λ (c : Value). Fits g sites t c) (sym (born_content m s l)) (typed.contents l t h);
  others = λ l h. born_content m s l ∙ typed.others l h;
}

-- nothing holds what is not there yet

module _ (n : Names) (g : Graph) (sites : List ℕ) (s : Store) (typed : IsTyped n g sites s) where
  pub pointed : (v : Value) (o : ℕ) → pointing v ≡ value.Ptr o → v ≡ value.Ptr o
  pointed value.Undef o h = absurd cc
  pointed (value.Int m) o h = absurd cc
  pointed value.Null o h = absurd cc
  pointed (value.Ptr q) o h = h

  object_there : (o : ℕ) (t : Ty) → object_type g sites o ≡ Some t → o < length sites
  object_there o t h = by_site (slice_get sites o) refl h
    where
      by_site : (x : Option ℕ) → slice_get sites o ≡ x → option_and_then (site_type g) x ≡ Some t → o < length sites
      by_site None e h = absurd cc
      by_site (Some v) e h = slice_get_within sites o v e

  -- what is pointed to is there
  pub held_there : (l : Location) (o : ℕ) → content s l ≡ value.Ptr o → o < length s.objects
  held_there l o h = by_type (location_type n g sites l) refl
    where
      by_type : (x : Option Ty) → location_type n g sites l ≡ x → o < length s.objects
      by_type None e = let never : value.Undef ≡ value.Ptr o = sym (typed.types.others l e) ∙ h in absurd cc
      by_type (Some t) e =
          let fit : Fits g sites t (value.Ptr o) = subst (λ (c : Value). Fits g sites t c) h (typed.types.contents l t e) in
          subst (λ (m : ℕ). o < m) (sym typed.objects) (object_there o t fit.0)

  not_held : (l : Location) → pointing (content s l) ≡ value.Ptr (length s.objects) → ⊥
  not_held l h = let low : length s.objects < length s.objects = held_there l (length s.objects) (pointed (content s l) (length s.objects) h) in absurd (omega arith)

  pub is_fresh : IsFresh (view_of n s) (length s.objects)
  is_fresh = record {
    slots = λ k h. by_var (slice_get n.vars k) h;
    cells = λ q f h. not_held (Cell q f) h;
    own = λ f. ap pointing (missing_cell s (length s.objects) f (slice_get_past s.objects (length s.objects) (omega arith)));
  }
    where
      by_var : (x : Option ℕ) → slot_seen s x ≡ value.Ptr (length s.objects) → ⊥
      by_var None h = absurd cc
      by_var (Some x) h = not_held (Slot x) h

-- the site of a node that makes objects
pub has_site : (p : Program) (g : Graph) (n : Names) → AreNames p g n → (v : ℕ) (node : Node) → slice_get g.nodes v ≡ Some node → makes node.kind ≡ true → (k : ℕ) × (site_of n v ≡ Some k) × (slice_get n.sites k ≡ Some v)
has_site p g n names v node there it_makes =
    let at = get_has n.sites (subst (λ (xs : List ℕ). Has v xs) (sym names.sites) (passing_has (λ (x : Node). makes x.kind) g.nodes v node there it_makes)) in
    let it = found (λ u. u == v) n.sites v at.0 at.1 (eq-eqb v v refl) in
    let place = at_position (λ u. u == v) n.sites it.0 it.2 in
    (it.0, it.2, place.1 ∙ ap (λ (u : ℕ). Some u) (eqb-true place.0 v place.2))

-- an answer of pointer type goes to a location that was there
pub answer_old : (n : Names) (g : Graph) (sites : List ℕ) (s : Store) (d : Declarations) (same : AreDeclared d n) (places : HasPlaces n) (place : Option Expr) (t : Ty) (l : Option Location) (behind : List Value) →
    is_pointer t ≡ true → answer_fits d t place ≡ true → IsAnswer n g sites s place t l behind → IsOld s l
answer_old n g sites s d same places None t l behind points fits is = subst (λ (m : Option Location). IsOld s m) (sym is) tt
answer_old n g sites s d same places (Some e) t l behind points fits is =
    let typed : sort_of d e ≡ Some (Of t) = answer_type d t e fits in
    let agrees : Agrees n (Some (Of t)) (pointer_of n e) = subst (λ (o : Option Sort). Agrees n o (pointer_of n e)) typed (expr_agrees n d same places e) in
    let opened : Agrees n (Some (Of t)) (look_at n (out-Expr e)).pointer = subst (λ (k : Look). Agrees n (Some (Of t)) k.pointer) (fold_out-Expr Look (look_layer n) e) agrees in
    subst (λ (m : Option Location). IsOld s m) (sym is.1) (layer_old n g sites s (out-Expr e) t is.0 behind points opened is.2)
