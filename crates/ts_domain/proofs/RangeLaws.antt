-- What the edges of a graph write is in range: pointer variables and pointer fields by their numbers, and objects of its sites.
use Rattle.std.proofs.Common.{◌≡◌, ℕ, zero, suc, ◌+◌, ◌<◌, ◌==◌, ⊎_elim, Bool, true, false, not, cond, nat_lt, List, [], ◌∷◌, ◌++◌, length, slice_get, Option, Some, None, refl, sym, subst, ◌∙◌, arith, flat_map}
use Rattle.std.specs.List.{filter, range_with_len}
use Rattle.std.specs.Option.{option_and_then, is_some}
use Rattle.std.proofs.lemmas.List.Quantifiers.{position-Some}
use Rattle.c_tree.specs.Typing.{has}
use Rattle.c_tree.specs.declared.expr.Expr.{Expr, Expr-F, map-Expr, out-Expr, roll-Expr, fold-roll-Expr, ind-Expr}
use Rattle.c_tree.specs.declared.expr.Expr.TheOpen.{Const, Null, Var, Field, Deref, Index, Unary, Binary}
use Rattle.c_tree.specs.declared.expr.Op.{Op}
use Rattle.c_tree.specs.declared.expr.Op.TheVariants as op
use Rattle.c_tree.specs.declared.expr.Oper.{Oper}
use Rattle.c_tree.specs.declared.expr.Oper.TheVariants as oper
use Rattle.c_tree.specs.declared.program.Right.{Right}
use Rattle.c_tree.specs.declared.program.Right.TheVariants as right
use Rattle.c_tree.specs.declared.program.Simple.{Simple}
use Rattle.c_tree.specs.declared.program.Size.{Size}
use Rattle.c_tree.specs.declared.program.Size.TheVariants as size
use Rattle.c_tree.specs.declared.program.Ty.{Ty}
use Rattle.c_tree.specs.declared.program.Ty.TheVariants as ty
use Rattle.c_graph.specs.declared.graph.Action.{Action}
use Rattle.c_graph.specs.declared.graph.Action.TheVariants as action
use Rattle.c_graph.specs.declared.graph.Edge.{Edge}
use Rattle.c_graph.specs.declared.graph.Graph.{Graph}
use Rattle.c_graph.specs.declared.graph.Node.{Node}
use Rattle.c_graph.specs.declared.graph.NodeKind.{NodeKind}
use Rattle.c_graph.specs.declared.graph.NodeKind.TheVariants as kind
use Rattle.c_graph.specs.declared.graph.Way.{Way}
use Rattle.c_graph.specs.declared.graph.Way.TheVariants as way
use Rattle.c_graph.specs.Executes.{callee_in, function_of}
use Rattle.call_contexts.proofs.Has.{Has, first, later, contains_has, has_flat_from, has_split, only_one}
use Rattle.ts_domain.specs.declared.deed.Deed.{Deed}
use Rattle.ts_domain.specs.declared.deed.Deed.TheVariants.{Reads, Follows, Says, Sets, SetsField}
use Rattle.ts_domain.specs.declared.deed.Looked.{Looked}
use Rattle.ts_domain.specs.declared.deed.Saying.TheVariants.{IsNull, IsntNull, AreEqual, Differ}
use Rattle.ts_domain.specs.declared.deed.Source.{Source}
use Rattle.ts_domain.specs.declared.deed.Source.TheVariants as source
use Rattle.ts_domain.specs.declared.edges.Binding.{Binding}
use Rattle.ts_domain.specs.declared.names.Names.{Names}
use Rattle.ts_domain.specs.declared.names.Read.{Read}
use Rattle.ts_domain.specs.declared.names.Read.TheVariants as read
use Rattle.ts_domain.specs.declared.pointers.Pointer.{Pointer}
use Rattle.ts_domain.specs.Deeds.{action_deeds, assign_deeds, bound, bound_argument, bound_arguments, call_deeds, change_deeds, comparison_said, content, edge_deeds, equal_said, equality_said, is_null, kind_deeds, looked_at, made, malloc_deeds, no_binding, node_deeds, null_said, null_said_of, owned_by, pair_said, parameters_of, place_deeds, put_deeds, return_deeds, returned, returned_any, said, sets, sets_field, sets_field_of, simple_deeds, site_of, size_deeds, source_of, test_deeds, tested_layer, unset, all_unset, written_any, written_if, written_layer}
use Rattle.ts_domain.specs.Looks.{Look, based, compares, followed, followed_read, itself, look, look_layer, notes, pointer_of, value_deeds, valued, within}
use Rattle.ts_domain.specs.May.{IsDone}
use Rattle.ts_domain.specs.Pointers.{field_pointer, field_pointer_at, field_read, field_type, has_home, is_of, is_pointer, place_of, pointer_if}
use Rattle.ts_domain.specs.Ranges.{IsInRange, SourceFits}

module _ (n : Names) where
  -- all deeds of a list are in range
  abbrev Fit : List Deed → Type 0
  Fit ds = (d : Deed) → Has d ds → IsInRange n d

  abbrev Takes : Source → Type 0
  Takes v = SourceFits (length n.sites) v

  fit_none : Fit []
  fit_none d h = elim h [ ]

  fit_one : (x : Deed) → IsInRange n x → Fit (x ∷ [])
  fit_one x is d h = subst (IsInRange n) (sym (only_one h)) is

  fit_both : (xs ys : List Deed) → Fit xs → Fit ys → Fit (xs ++ ys)
  fit_both xs ys f g d h = ⊎_elim (λ left. f d left) (λ right. g d right) (has_split xs h)

  fit_three : (xs ys zs : List Deed) → Fit xs → Fit ys → Fit zs → Fit (xs ++ ys ++ zs)
  fit_three xs ys zs f g h = fit_both (xs ++ ys) zs (fit_both xs ys f g) h

  fit_if : (b : Bool) (xs : List Deed) → Fit xs → Fit (cond b xs [])
  fit_if true xs f = f
  fit_if false xs f = fit_none

  fit_flat : {A : Type 0} (f : A → List Deed) (xs : List A) → ((x : A) → Has x xs → Fit (f x)) → Fit (flat_map f xs)
  fit_flat f xs each d h = let at = has_flat_from f xs h in each at.0 at.1 d at.2

  -- expressions

  itself_fits : (noted : Bool) (p : Option Pointer) → Fit (itself noted p)
  itself_fits noted None = fit_none
  itself_fits noted (Some p) = fit_one (Reads p.read noted) tt

  valued_fits : (noted : Bool) (e : Look) → Fit e.within → Fit (valued noted e)
  valued_fits noted e f = fit_both e.within (itself noted e.pointer) f (itself_fits noted e.pointer)

  followed_read_fits : (r : Read) → Fit (followed_read n r)
  followed_read_fits (read.Name k) = fit_if (nat_lt k (length n.vars)) (Follows k ∷ []) (fit_one (Follows k) tt)
  followed_read_fits (read.Deep s f) = fit_none

  followed_fits : (p : Option Pointer) → Fit (followed n p)
  followed_fits None = fit_none
  followed_fits (Some p) = followed_read_fits p.read

  based_fits : (e : Look) → Fit e.within → Fit (based n e)
  based_fits e f = fit_both (valued false e) (followed n e.pointer) (valued_fits false e f) (followed_fits e.pointer)

  abbrev LookFits : Expr → Type 0
  LookFits e = Fit (look n e).within

  abbrev plain_expr : Expr-F ((e : Expr) × LookFits e) → Expr-F Expr
  plain_expr = map-Expr ((e : Expr) × LookFits e) Expr (λ e. e.0)

  abbrev looks : Expr-F Expr → Expr-F Look
  looks = map-Expr Expr Look (look n)

  layer_fits : (y : Expr-F ((e : Expr) × LookFits e)) → Fit (look_layer n (looks (plain_expr y))).within
  layer_fits (Const v at) = fit_none
  layer_fits (Null at) = fit_none
  layer_fits (Var x at) = fit_none
  layer_fits (Field e f at) = based_fits (look n e.0) e.1
  layer_fits (Deref e at) = based_fits (look n e.0) e.1
  layer_fits (Index e i at) =
      fit_three (valued false (look n e.0)) (valued false (look n i.0)) (followed n (look n e.0).pointer)
      (valued_fits false (look n e.0) e.1) (valued_fits false (look n i.0) i.1) (followed_fits (look n e.0).pointer)
  layer_fits (Unary s e at) = valued_fits false (look n e.0) e.1
  layer_fits (Binary o a b at) =
      let noted = compares o (look n a.0).pointer (look n b.0).pointer in
      fit_both (valued noted (look n a.0)) (valued noted (look n b.0)) (valued_fits noted (look n a.0) a.1) (valued_fits noted (look n b.0) b.1)

  within_fits : (e : Expr) → Fit (within n e)
  within_fits = ind-Expr LookFits (λ x y is. subst (λ (z : Expr-F Expr). LookFits (roll-Expr z)) is (subst (λ (l : Look). Fit l.within) (sym (fold-roll-Expr Look (look_layer n) (plain_expr y))) (layer_fits y)))

  value_fits : (noted : Bool) (e : Expr) → Fit (value_deeds n noted e)
  value_fits noted e = valued_fits noted (look n e) (within_fits e)

  -- sources

  abbrev TakesAny : Option Source → Type 0
  TakesAny o = (v : Source) → o ≡ Some v → Takes v

  content_takes : (before : List Deed) (p : Option Pointer) → TakesAny (content before p)
  content_takes before None v e = cc
  content_takes before (Some p) (source.Content l) e = tt
  content_takes before (Some p) source.Null e = tt
  content_takes before (Some p) (source.New t) e = cc
  content_takes before (Some p) source.Undef e = tt

  null_takes : TakesAny (Some source.Null)
  null_takes (source.Content l) e = tt
  null_takes source.Null e = tt
  null_takes (source.New t) e = cc
  null_takes source.Undef e = tt

  behind_takes : (before : List Deed) (p : Option Pointer) (b : Bool) → TakesAny (cond b (Some source.Null) (content before p))
  behind_takes before p true = null_takes
  behind_takes before p false = content_takes before p

  source_takes : (before : List Deed) (e : Expr) → TakesAny (source_of n before e)
  source_takes before e = behind_takes (before ++ within n e) (pointer_of n e) (is_null e)

  -- writes

  place_within : (x : ℕ) (o : Option ℕ) → place_of n x ≡ o → (k : ℕ) → o ≡ Some k → k < length n.vars
  place_within x o is k e = (position-Some (λ y. y == x) n.vars k 0 (is ∙ e)).0

  abbrev Places : Option ℕ → Type 0
  Places o = (k : ℕ) → o ≡ Some k → k < length n.vars

  sets_fits : (o : Option ℕ) (v : Source) → Places o → Takes v → Fit (sets o v)
  sets_fits None v at takes = fit_none
  sets_fits (Some k) v at takes = fit_one (Sets k v) (at k refl, takes)

  pointer_passes : (r : Option Read) (t : Ty) (b : Bool) → is_some (pointer_if r t b) ≡ true → b ≡ true
  pointer_passes r t true h = refl
  pointer_passes r t false h = h

  field_passes : (r : Read) (s f : ℕ) (o : Option Ty) → is_some (option_and_then (λ t. pointer_if (field_read n r s f) t (is_pointer t)) o) ≡ true → has is_pointer o ≡ true
  field_passes r s f None h = h
  field_passes r s f (Some t) h = pointer_passes (field_read n r s f) t (is_pointer t) h

  sets_field_of_fits : (r : Read) (f : ℕ) (v : Source) (t : Ty) → is_some (field_pointer_at n r f t) ≡ true → Takes v → Fit (sets_field_of r f v t)
  sets_field_of_fits r f v ty.Int is takes = fit_none
  sets_field_of_fits r f v ty.IntPtr is takes = fit_none
  sets_field_of_fits r f v (ty.StructPtr s) is takes = fit_one (SetsField r s f v) (field_passes r s f (field_type n s f) is, takes)

  sets_field_if : (r : Read) (f : ℕ) (v : Source) (t : Ty) (b : Bool) → is_some (field_pointer_at n r f t) ≡ b → Takes v → Fit (cond b (sets_field_of r f v t) [])
  sets_field_if r f v t true is takes = sets_field_of_fits r f v t is takes
  sets_field_if r f v t false is takes = fit_none

  sets_field_fits : (f : ℕ) (v : Source) (p : Option Pointer) → Takes v → Fit (sets_field n f v p)
  sets_field_fits f v None takes = fit_none
  sets_field_fits f v (Some p) takes = sets_field_if p.read f v p.ty (is_some (field_pointer n f p)) refl takes

  written_layer_fits : (v : Source) (l : Expr-F Expr) → Takes v → Fit (written_layer n v l)
  written_layer_fits v (Var x at) takes = sets_fits (place_of n x) v (place_within x (place_of n x) refl) takes
  written_layer_fits v (Field e f at) takes = sets_field_fits f v (pointer_of n e) takes
  written_layer_fits v _ takes = fit_none

  written_if_fits : (place : Expr) (o : Option Source) → TakesAny o → Fit (written_if n place o)
  written_if_fits place None takes = fit_none
  written_if_fits place (Some v) takes = written_layer_fits v (out-Expr place) (takes v refl)

  written_any_fits : (place : Option Expr) (v : Source) → Takes v → Fit (written_any n place v)
  written_any_fits None v takes = fit_none
  written_any_fits (Some place) v takes = written_layer_fits v (out-Expr place) takes

  -- parts of actions

  place_fits : (place : Option Expr) → Fit (place_deeds n place)
  place_fits None = fit_none
  place_fits (Some place) = within_fits place

  size_fits : (s : Size) → Fit (size_deeds n s)
  size_fits (size.Fields s) = fit_none
  size_fits (size.Ints None) = fit_none
  size_fits (size.Ints (Some e)) = value_fits false e

  put_fits : (place e : Expr) → Fit (put_deeds n place e)
  put_fits place e =
      let noted = is_some (pointer_of n place) in
      let v = source_of n (within n place) e in
      fit_three (within n place) (value_deeds n noted e) (written_if n place v) (within_fits place) (value_fits noted e)
      (written_if_fits place v (source_takes (within n place) e))

  change_fits : (place e : Expr) → Fit (change_deeds n place e)
  change_fits place e = fit_both (within n place) (value_deeds n false e) (within_fits place) (value_fits false e)

  assign_fits : (place : Expr) (o : Op) (e : Expr) → Fit (assign_deeds n place o e)
  assign_fits place op.Put e = put_fits place e
  assign_fits place op.Add e = change_fits place e
  assign_fits place op.Sub e = change_fits place e
  assign_fits place op.Mul e = change_fits place e

  simple_fits : (s : Simple) (r : Right) → Fit (simple_deeds n s r)
  simple_fits s (right.Plain e) = assign_fits s.place s.op e
  simple_fits s (right.Call c) = fit_none

  -- tests

  null_said_of_fits : (b : Bool) (r : Read) → Fit (null_said_of b r)
  null_said_of_fits true (read.Name k) = fit_one (Says (IsNull k)) tt
  null_said_of_fits false (read.Name k) = fit_one (Says (IsntNull k)) tt
  null_said_of_fits true (read.Deep s f) = fit_none
  null_said_of_fits false (read.Deep s f) = fit_none

  null_said_fits : (b : Bool) (p : Option Pointer) → Fit (null_said b p)
  null_said_fits b None = fit_none
  null_said_fits b (Some p) = null_said_of_fits b p.read

  equal_said_fits : (b : Bool) (r q : Looked) → Fit (equal_said b r q ∷ [])
  equal_said_fits true r q = fit_one (Says (AreEqual r q)) tt
  equal_said_fits false r q = fit_one (Says (Differ r q)) tt

  pair_said_fits : (b : Bool) (e d : Expr) (p q : Option Pointer) → Fit (pair_said n b e d p q)
  pair_said_fits b e d (Some p) (Some q) = equal_said_fits b (looked_at (notes (within n e)) p.read) (looked_at (notes (value_deeds n true e ++ within n d)) q.read)
  pair_said_fits b e d (Some p) None = fit_none
  pair_said_fits b e d None q = fit_none

  fit_either : (b : Bool) (xs ys : List Deed) → Fit xs → Fit ys → Fit (cond b xs ys)
  fit_either true xs ys f g = f
  fit_either false xs ys f g = g

  equality_said_fits : (b : Bool) (e d : Expr) → Fit (equality_said n b e d)
  equality_said_fits b e d =
      let p = pointer_of n e in
      let q = pointer_of n d in
      let pair = pair_said n b e d p q in
      fit_either (is_null d) (null_said b p) (cond (is_null e) (null_said b q) pair) (null_said_fits b p) (fit_either (is_null e) (null_said b q) pair (null_said_fits b q) (pair_said_fits b e d p q))

  comparison_said_fits : (b : Bool) (o : Oper) (e d : Expr) → Fit (comparison_said n b o e d)
  comparison_said_fits b oper.Eq e d = equality_said_fits b e d
  comparison_said_fits b oper.Ne e d = equality_said_fits (not b) e d
  comparison_said_fits b _ e d = fit_none

  tested_layer_fits : (b : Bool) (e : Expr) (l : Expr-F Expr) → Fit (tested_layer n b e l)
  tested_layer_fits b e (Binary o a d at) = comparison_said_fits b o a d
  tested_layer_fits b e (Var x at) = null_said_fits (not b) (pointer_of n e)
  tested_layer_fits b e (Field a f at) = null_said_fits (not b) (pointer_of n e)
  tested_layer_fits b e _ = fit_none

  said_fits : (w : Way) (e : Expr) → Fit (said n w e)
  said_fits way.True e = tested_layer_fits true e (out-Expr e)
  said_fits way.False e = tested_layer_fits false e (out-Expr e)
  said_fits _ e = fit_none

  test_fits : (w : Way) (e : Expr) → Fit (test_deeds n w e)
  test_fits w e = fit_both (value_deeds n false e) (said n w e) (value_fits false e) (said_fits w e)

  -- calls and returns

  bound_fits : (o : Option ℕ) (v : Option Source) → Places o → TakesAny v → Fit (bound o v)
  bound_fits o None at takes = fit_none
  bound_fits o (Some v) at takes = sets_fits o v at (takes v refl)

  arguments_fit : (b : Binding) (xs : List ℕ) (es : List Expr) → Fit b.reads → Fit b.writes → Fit (bound_arguments n b xs es).reads × Fit (bound_arguments n b xs es).writes
  arguments_fit b [] es reads writes = (reads, writes)
  arguments_fit b (x ∷ xs) [] reads writes = (reads, writes)
  arguments_fit b (x ∷ xs) (e ∷ es) reads writes =
      let noted = is_some (place_of n x) in
      let v = source_of n b.reads e in
      arguments_fit (bound_argument n b (x, e)) xs es
      (fit_both b.reads (value_deeds n noted e) reads (value_fits noted e))
      (fit_both b.writes (bound (place_of n x) v) writes (bound_fits (place_of n x) v (place_within x (place_of n x) refl) (source_takes b.reads e)))

  call_fits : (xs : List ℕ) (es : List Expr) → Fit (call_deeds n xs es)
  call_fits xs es =
      let b = bound_arguments n no_binding xs es in
      let both = arguments_fit no_binding xs es fit_none fit_none in
      fit_both b.reads b.writes both.0 both.1

  abbrev AllPlaces : List ℕ → Type 0
  AllPlaces ks = (k : ℕ) → Has k ks → k < length n.vars

  unset_fits : (ks : List ℕ) → AllPlaces ks → Fit (all_unset ks)
  unset_fits ks at = fit_flat unset ks (λ k h. fit_one (Sets k source.Undef) (at k h, tt))

  returned_fits : (o : Option ℕ) (e : Expr) → Places o → Fit (returned n o e)
  returned_fits o e at = fit_both (value_deeds n (is_some o) e) (bound o (source_of n [] e)) (value_fits (is_some o) e) (bound_fits o (source_of n [] e) at (source_takes [] e))

  returned_any_fits : (o : Option ℕ) (value : Option Expr) → Places o → Fit (returned_any n o value)
  returned_any_fits o None at = fit_none
  returned_any_fits o (Some e) at = returned_fits o e at

  no_place : Places None
  no_place k e = cc

  target_places : (target : Option ℕ) → Places (option_and_then (place_of n) target)
  target_places None = no_place
  target_places (Some x) = place_within x (place_of n x) refl

  return_fits : (ks : List ℕ) (value : Option Expr) (w : Way) → AllPlaces ks → Fit (return_deeds n ks value w)
  return_fits ks value (way.Leave target) at =
      let o = option_and_then (place_of n) target in
      fit_both (returned_any n o value) (all_unset ks) (returned_any_fits o value (target_places target)) (unset_fits ks at)
  return_fits ks value way.On at = returned_any_fits None value no_place
  return_fits ks value _ at = fit_none

  -- actions

  abbrev Sites : Option ℕ → Type 0
  Sites o = (t : ℕ) → o ≡ Some t → t < length n.sites

  made_fits : (place : Option Expr) (site : Option ℕ) (w : Way) → Sites site → Fit (made n place site w)
  made_fits place (Some t) way.Made at = written_any_fits place (source.New t) (at t refl)
  made_fits place (Some t) way.NotMade at = written_any_fits place source.Null tt
  made_fits place None way.NotMade at = written_any_fits place source.Null tt
  made_fits place _ _ at = fit_none

  malloc_fits : (place : Option Expr) (s : Size) (site : Option ℕ) (w : Way) → Sites site → Fit (malloc_deeds n place s site w)
  malloc_fits place s site w at =
      fit_three (place_deeds n place) (size_deeds n s) (made n place site w) (place_fits place) (size_fits s) (made_fits place site w at)

  action_fits : (site : Option ℕ) (xs ks : List ℕ) (w : Way) (a : Action) → Sites site → AllPlaces ks → Fit (action_deeds n site xs ks w a)
  action_fits site xs ks w (action.Unset x) at all = sets_fits (place_of n x) source.Undef (place_within x (place_of n x) refl) tt
  action_fits site xs ks w (action.Assign s) at all = simple_fits s s.right
  action_fits site xs ks w (action.Malloc place s offset) at all = malloc_fits place s site w at
  action_fits site xs ks w (action.Getchar place) at all = place_fits place
  action_fits site xs ks w (action.Putchar e) at all = value_fits false e
  action_fits site xs ks w (action.Printf text es) at all = fit_flat (value_deeds n false) es (λ e h. value_fits false e)
  action_fits site xs ks w (action.Test e) at all = test_fits w e
  action_fits site xs ks w (action.Call g es) at all = call_fits xs es
  action_fits site xs ks w (action.Return value) at all = return_fits ks value w all
  action_fits site xs ks w action.Close at all = return_fits ks None w all

  -- edges

  below_or_later : (a count k : ℕ) (b : Bool) (rest : List ℕ) → (Has k rest → k < a + 1 + count) → Has k (cond b (a ∷ rest) rest) → k < a + suc count
  below_or_later a count k true rest below first = omega arith
  below_or_later a count k true rest below (later g) = let under = below g in omega (arith, under)
  below_or_later a count k false rest below g = let under = below g in omega (arith, under)

  range_below : (a count k : ℕ) (p : ℕ → Bool) → Has k (filter p (range_with_len a count)) → k < a + count
  range_below a zero k p h = elim h [ ]
  range_below a (suc count) k p h = below_or_later a count k (p a) (filter p (range_with_len (a + 1) count)) (range_below (a + 1) count k p) h

  owned_places : (f : Option ℕ) → AllPlaces (owned_by n f)
  owned_places None k h = elim h [ ]
  owned_places (Some f) k h = let below = range_below 0 (length n.vars) k (λ i. has (has_home n (is_of f)) (slice_get n.vars i)) h in omega (arith, below)

  site_places : (v : ℕ) → Sites (site_of n v)
  site_places v t e = (position-Some (λ u. u == v) n.sites t 0 e).0

  kind_fits : (v : ℕ) (f : Option ℕ) (w : Way) (k : NodeKind) → Fit (kind_deeds n (site_of n v) f w k)
  kind_fits v f w (kind.Gap number frees) = fit_none
  kind_fits v f w (kind.Act a) = action_fits (site_of n v) (parameters_of n (callee_in a)) (owned_by n f) w a (site_places v) (owned_places f)
  kind_fits v f w (kind.Exit offset) = fit_none

  node_fits : (g : Graph) (e : Edge) (o : Option Node) → Fit (node_deeds n g e o)
  node_fits g e None = fit_none
  node_fits g e (Some v) = kind_fits e.from (function_of g v.ctx) e.way v.kind

  -- what edges write is in range
  pub done_in_range : (g : Graph) (d : Deed) → IsDone n g d → IsInRange n d
  done_in_range g d done = node_fits g done.0 (slice_get g.nodes done.0.from) d (contains_has (edge_deeds n g done.0) d done.2)
