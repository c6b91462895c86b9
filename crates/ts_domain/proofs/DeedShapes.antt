-- The deeds of an edge: first reads, and then writes of variables, the write of one field, or what a test says.
use Rattle.std.proofs.Common.{◌≡◌, ◌⊎◌, inl, inr, ℕ, zero, suc, ◌+◌, ◌<◌, Bool, true, false, not, List, [], ◌∷◌, ◌++◌, length, Option, Some, None, option_and_then, flat_map, refl, sym, subst, arith}
use Rattle.std.specs.Prelude.{slice_get, if◌then◌else◌, nat_lt}
use Rattle.std.specs.List.{filter, range_with_len}
use Rattle.std.specs.Option.{is_some}
use Rattle.std.proofs.lemmas.List.{append_assoc, append-nil}
use Rattle.std.proofs.lemmas.Option.{slice_get_within}
use Rattle.c_tree.specs.Typing.{has}
use Rattle.c_tree.specs.declared.expr.Expr.{Expr, Expr-F, map-Expr, fold-roll-Expr, ind-Expr, out-Expr}
use Rattle.c_tree.specs.declared.expr.Expr.TheOpen.{Const, Null, Var, Field, Deref, Index, Unary, Binary}
use Rattle.c_tree.specs.declared.expr.Op.{Op}
use Rattle.c_tree.specs.declared.expr.Op.TheVariants as op
use Rattle.c_tree.specs.declared.expr.Oper.{Oper}
use Rattle.c_tree.specs.declared.expr.Oper.TheVariants as oper
use Rattle.c_tree.specs.declared.program.Right.{Right}
use Rattle.c_tree.specs.declared.program.Right.TheVariants as right
use Rattle.c_tree.specs.declared.program.Simple.{Simple}
use Rattle.c_tree.specs.declared.program.Size.{Size}
use Rattle.c_tree.specs.declared.program.Size.TheVariants as size
use Rattle.c_tree.specs.declared.program.Ty.{Ty}
use Rattle.c_tree.specs.declared.program.Ty.TheVariants as ty
use Rattle.call_contexts.proofs.Has.{Has, first, later}
use Rattle.c_graph.specs.declared.graph.Action.{Action}
use Rattle.c_graph.specs.declared.graph.Action.TheVariants as action
use Rattle.c_graph.specs.declared.graph.Way.{Way}
use Rattle.c_graph.specs.declared.graph.Way.TheVariants as way
use Rattle.ts_domain.specs.declared.deed.Deed.{Deed}
use Rattle.ts_domain.specs.declared.deed.Deed.TheVariants.{Reads, Follows, Says, Sets, SetsField}
use Rattle.ts_domain.specs.declared.deed.Looked.{Looked}
use Rattle.ts_domain.specs.declared.deed.Saying.TheVariants.{IsNull, IsntNull, AreEqual, Differ}
use Rattle.ts_domain.specs.declared.deed.Source.{Source}
use Rattle.ts_domain.specs.declared.deed.Source.TheVariants as source
use Rattle.ts_domain.specs.declared.edges.Binding.{Binding}
use Rattle.ts_domain.specs.declared.names.Names.{Names}
use Rattle.ts_domain.specs.declared.names.Read.{Read}
use Rattle.ts_domain.specs.declared.names.Read.TheVariants as read
use Rattle.ts_domain.specs.declared.pointers.Pointer.{Pointer}
use Rattle.ts_domain.specs.Deeds.{looked_at, is_null, content, source_of, sets, sets_field_of, sets_field, written_layer, written_if, written_any, place_deeds, size_deeds, assign_deeds, simple_deeds, null_said_of, null_said, pair_said, equality_said, comparison_said, tested_layer, tested, bound, bound_argument, no_binding, bound_arguments, call_deeds, all_unset, owned_by, returned_any, return_deeds, made, action_deeds}
use Rattle.ts_domain.specs.Looks.{Look, look_layer, look, itself, valued, followed_read, followed, based, compares, pointer_of, within, value_deeds, notes}
use Rattle.ts_domain.specs.Pointers.{place_of, field_pointer, is_of, has_home}
use Rattle.ts_domain.proofs.NameLaws.{HasPlaces}

-- reads, and variables that are followed
pub data Looks : List Deed → Type 0 where
  nothing : Looks []
  reads : (r : Read) (noted : Bool) {ds : List Deed} → Looks ds → Looks (Reads r noted ∷ ds)
  follows : (k : ℕ) {ds : List Deed} → Looks ds → Looks (Follows k ∷ ds)

-- a source is a new object only on an edge that makes one
abbrev pub IsMadeBy : Bool → Source → Type 0
IsMadeBy makes (source.New t) = makes ≡ true
IsMadeBy makes (source.Content l) = Unit {0}
IsMadeBy makes source.Null = Unit {0}
IsMadeBy makes source.Undef = Unit {0}

-- writes of pointer variables
pub data Setting (n : Names) (makes : Bool) : List Deed → Type 0 where
  no_more : Setting n makes []
  sets_one : (k : ℕ) (v : Source) {ds : List Deed} → k < length n.vars → IsMadeBy makes v → Setting n makes ds → Setting n makes (Sets k v ∷ ds)

-- whether an edge makes an object
abbrev pub makes_new : Way → Bool
makes_new way.Made = true
makes_new way.On = false
makes_new way.True = false
makes_new way.False = false
makes_new way.NotMade = false
makes_new way.Enter = false
makes_new (way.Leave target) = false

-- what comes behind the reads where nothing is tested
pub data Quiet (n : Names) (makes : Bool) : List Deed → Type 0 where
  settings : {ds : List Deed} → Setting n makes ds → Quiet n makes ds
  puts_one : (r : Read) (c f : ℕ) (v : Source) → IsMadeBy makes v → Quiet n makes (SetsField r c f v ∷ [])

-- what a test says on its two ways
pub data Opposed : List Deed → List Deed → Type 0 where
  silent : Opposed [] []
  null_first : (k : ℕ) → Opposed (Says (IsNull k) ∷ []) (Says (IsntNull k) ∷ [])
  null_second : (k : ℕ) → Opposed (Says (IsntNull k) ∷ []) (Says (IsNull k) ∷ [])
  equal_first : (l r : Looked) → Opposed (Says (AreEqual l r) ∷ []) (Says (Differ l r) ∷ [])
  equal_second : (l r : Looked) → Opposed (Says (Differ l r) ∷ []) (Says (AreEqual l r) ∷ [])

-- reads, and something behind them
pub record Parts (B : List Deed → Type 0) (ds : List Deed) : Type 0 where
  pub front : List Deed
  pub back : List Deed
  pub is : ds ≡ front ++ back
  pub looks : Looks front
  pub ending : B back

pub looks_append : {xs ys : List Deed} → Looks xs → Looks ys → Looks (xs ++ ys)
looks_append nothing h = h
looks_append (reads r noted g) h = reads r noted (looks_append g h)
looks_append (follows k g) h = follows k (looks_append g h)

setting_append : {n : Names} {makes : Bool} {xs ys : List Deed} → Setting n makes xs → Setting n makes ys → Setting n makes (xs ++ ys)
setting_append no_more h = h
setting_append (sets_one k v low is g) h = sets_one k v low is (setting_append g h)

-- expressions

itself_looks : (noted : Bool) (p : Option Pointer) → Looks (itself noted p)
itself_looks noted None = nothing
itself_looks noted (Some p) = reads p.read noted nothing

module _ (n : Names) where
  followed_looks : (p : Option Pointer) → Looks (followed n p)
  followed_looks None = nothing
  followed_looks (Some p) = by_read p.read
    where
      by_low : (k : ℕ) (b : Bool) → Looks (if b then Follows k ∷ [] else [])
      by_low k true = follows k nothing
      by_low k false = nothing

      by_read : (r : Read) → Looks (followed_read n r)
      by_read (read.Name k) = by_low k (nat_lt k (length n.vars))
      by_read (read.Deep s f) = nothing

  valued_looks : (noted : Bool) (e : Look) → Looks e.within → Looks (valued noted e)
  valued_looks noted e h = looks_append h (itself_looks noted e.pointer)

  based_looks : (e : Look) → Looks e.within → Looks (based n e)
  based_looks e h = looks_append (valued_looks false e h) (followed_looks e.pointer)

  abbrev ExprLooks : Expr → Type 0
  ExprLooks e = Looks (within n e)

  abbrev plain : Expr-F ((e : Expr) × ExprLooks e) → Expr-F Expr
  plain = map-Expr ((e : Expr) × ExprLooks e) Expr (λ e. e.0)

  layer_looks : (y : Expr-F ((e : Expr) × ExprLooks e)) → Looks (look_layer n (map-Expr Expr Look (look n) (plain y))).within
  layer_looks (Const c at) = nothing
  layer_looks (Null at) = nothing
  layer_looks (Var x at) = nothing
  layer_looks (Field e f at) = based_looks (look n e.0) e.1
  layer_looks (Deref e at) = based_looks (look n e.0) e.1
  layer_looks (Index e i at) = looks_append (looks_append (valued_looks false (look n e.0) e.1) (valued_looks false (look n i.0) i.1)) (followed_looks (look n e.0).pointer)
  layer_looks (Unary o e at) = valued_looks false (look n e.0) e.1
  layer_looks (Binary o a b at) =
      let noted : Bool = compares o (look n a.0).pointer (look n b.0).pointer in
      looks_append (valued_looks noted (look n a.0) a.1) (valued_looks noted (look n b.0) b.1)

  pub within_looks : (e : Expr) → Looks (within n e)
  within_looks = ind-Expr ExprLooks (λ z y is.
      subst (λ (k : Look). Looks k.within) (sym (fold-roll-Expr Look (look_layer n) z))
      (subst (λ (w : Expr-F Expr). Looks (look_layer n (map-Expr Expr Look (look n) w)).within) is (layer_looks y)))

  pub value_looks : (noted : Bool) (e : Expr) → Looks (value_deeds n noted e)
  value_looks noted e = valued_looks noted (look n e) (within_looks e)

  values_look : (es : List Expr) → Looks (flat_map (value_deeds n false) es)
  values_look [] = nothing
  values_look (e ∷ es) = looks_append (value_looks false e) (values_look es)

  place_looks : (place : Option Expr) → Looks (place_deeds n place)
  place_looks None = nothing
  place_looks (Some e) = within_looks e

  size_looks : (z : Size) → Looks (size_deeds n z)
  size_looks (size.Fields s) = nothing
  size_looks (size.Ints None) = nothing
  size_looks (size.Ints (Some e)) = value_looks false e

  -- tests

  null_opposed : (b : Bool) (p : Option Pointer) → Opposed (null_said b p) (null_said (not b) p)
  null_opposed b None = silent
  null_opposed b (Some p) = by_read b p.read
    where
      by_read : (b : Bool) (r : Read) → Opposed (null_said_of b r) (null_said_of (not b) r)
      by_read true (read.Name k) = null_first k
      by_read false (read.Name k) = null_second k
      by_read true (read.Deep s f) = silent
      by_read false (read.Deep s f) = silent

  pair_opposed : (b : Bool) (e d : Expr) (p q : Option Pointer) → Opposed (pair_said n b e d p q) (pair_said n (not b) e d p q)
  pair_opposed b e d None q = silent
  pair_opposed b e d (Some p) None = silent
  pair_opposed true e d (Some p) (Some q) = equal_first (looked_at (notes (within n e)) p.read) (looked_at (notes (value_deeds n true e ++ within n d)) q.read)
  pair_opposed false e d (Some p) (Some q) = equal_second (looked_at (notes (within n e)) p.read) (looked_at (notes (value_deeds n true e ++ within n d)) q.read)

  either_opposed : (b : Bool) {xs xs' ys ys' : List Deed} → Opposed xs xs' → Opposed ys ys' → Opposed (if b then xs else ys) (if b then xs' else ys')
  either_opposed true g h = g
  either_opposed false g h = h

  equality_opposed : (b : Bool) (e d : Expr) → Opposed (equality_said n b e d) (equality_said n (not b) e d)
  equality_opposed b e d = either_opposed (is_null d) (null_opposed b (pointer_of n e)) (either_opposed (is_null e) (null_opposed b (pointer_of n d)) (pair_opposed b e d (pointer_of n e) (pointer_of n d)))

  comparison_opposed : (b : Bool) (o : Oper) (e d : Expr) → Opposed (comparison_said n b o e d) (comparison_said n (not b) o e d)
  comparison_opposed b oper.Eq e d = equality_opposed b e d
  comparison_opposed b oper.Ne e d = equality_opposed (not b) e d
  comparison_opposed b _ e d = silent

  pub tested_opposed : (b : Bool) (e : Expr) → Opposed (tested n b e) (tested n (not b) e)
  tested_opposed b e = by_layer (out-Expr e)
    where
      by_layer : (x : Expr-F Expr) → Opposed (tested_layer n b e x) (tested_layer n (not b) e x)
      by_layer (Binary o a d at) = comparison_opposed b o a d
      by_layer (Var x at) = null_opposed (not b) (pointer_of n e)
      by_layer (Field a f at) = null_opposed (not b) (pointer_of n e)
      by_layer _ = silent

-- writes

abbrev IsMadeAny : Bool → Option Source → Type 0
IsMadeAny makes None = Unit {0}
IsMadeAny makes (Some v) = IsMadeBy makes v

kept_from : (k x : ℕ) (xs ys : List ℕ) (b : Bool) → (Has k ys → Has k xs) → Has k (if b then x ∷ ys else ys) → Has k (x ∷ xs)
kept_from k x xs ys true rest first = first
kept_from k x xs ys true rest (later h) = later (rest h)
kept_from k x xs ys false rest h = later (rest h)

filter_from : (test : ℕ → Bool) (k : ℕ) (xs : List ℕ) → Has k (filter test xs) → Has k xs
filter_from test k [] h = elim h [ ]
filter_from test k (x ∷ xs) h = kept_from k x xs (filter test xs) (test x) (filter_from test k xs) h

range_low : (a m : ℕ) {k : ℕ} → Has k (range_with_len a m) → k < a + m
range_low a zero h = elim h [ ]
range_low a (suc m) first = omega arith
range_low a (suc m) {k} (later h) = let low : k < a + 1 + m = range_low (a + 1) m h in omega arith

module _ (n : Names) (places : HasPlaces n) where
  IsLow : Option ℕ → Type 0
  IsLow q = (k : ℕ) → q ≡ Some k → k < length n.vars

  place_low : (x : ℕ) → (k : ℕ) → place_of n x ≡ Some k → k < length n.vars
  place_low x k is = slice_get_within n.vars k x (places.there x k is)

  sets_setting : {makes : Bool} (q : Option ℕ) (v : Source) → ((k : ℕ) → q ≡ Some k → k < length n.vars) → IsMadeBy makes v → Setting n makes (sets q v)
  sets_setting None v low is = no_more
  sets_setting (Some k) v low is = sets_one k v (low k refl) is no_more

  bound_setting : {makes : Bool} (q : Option ℕ) (v : Option Source) → ((k : ℕ) → q ≡ Some k → k < length n.vars) → IsMadeAny makes v → Setting n makes (bound q v)
  bound_setting q None low is = no_more
  bound_setting q (Some v) low is = sets_setting q v low is

  -- what is read is not new
  source_made : (makes : Bool) (before : List Deed) (e : Expr) → IsMadeAny makes (source_of n before e)
  source_made makes before e = by_null (is_null e) (pointer_of n e)
    where
      by_null : (b : Bool) (p : Option Pointer) → IsMadeAny makes (if b then Some source.Null else content (before ++ within n e) p)
      by_null true p = tt
      by_null false None = tt
      by_null false (Some p) = tt

  field_quiet : {makes : Bool} (f : ℕ) (v : Source) (p : Option Pointer) → IsMadeBy makes v → Quiet n makes (sets_field n f v p)
  field_quiet f v None is = settings no_more
  field_quiet {makes} f v (Some p) is = by_pointer (is_some (field_pointer n f p))
    where
      by_type : (t : Ty) → Quiet n makes (sets_field_of p.read f v t)
      by_type ty.Int = settings no_more
      by_type ty.IntPtr = settings no_more
      by_type (ty.StructPtr s) = puts_one p.read s f v is

      by_pointer : (b : Bool) → Quiet n makes (if b then sets_field_of p.read f v p.ty else [])
      by_pointer true = by_type p.ty
      by_pointer false = settings no_more

  layer_quiet : {makes : Bool} (v : Source) (x : Expr-F Expr) → IsMadeBy makes v → Quiet n makes (written_layer n v x)
  layer_quiet v (Var x at) is = settings (sets_setting (place_of n x) v (place_low x) is)
  layer_quiet v (Field e f at) is = field_quiet f v (pointer_of n e) is
  layer_quiet v _ is = settings no_more

  if_quiet : {makes : Bool} (place : Expr) (v : Option Source) → IsMadeAny makes v → Quiet n makes (written_if n place v)
  if_quiet place None is = settings no_more
  if_quiet place (Some v) is = layer_quiet v (out-Expr place) is

  any_quiet : {makes : Bool} (place : Option Expr) (v : Source) → IsMadeBy makes v → Quiet n makes (written_any n place v)
  any_quiet None v is = settings no_more
  any_quiet (Some place) v is = layer_quiet v (out-Expr place) is

  -- actions

  parts : {B : List Deed → Type 0} (xs ys : List Deed) → Looks xs → B ys → Parts B (xs ++ ys)
  parts xs ys looks ending = record { front = xs; back = ys; is = refl; looks = looks; ending = ending }

  only_looks : {makes : Bool} (xs : List Deed) → Looks xs → Parts (Quiet n makes) xs
  only_looks xs looks = record { front = xs; back = []; is = sym (append-nil xs); looks = looks; ending = settings no_more }

  only_settings : {makes : Bool} (xs : List Deed) → Setting n makes xs → Parts (Quiet n makes) xs
  only_settings xs ending = record { front = []; back = xs; is = refl; looks = nothing; ending = settings ending }

  assign_parts : {makes : Bool} (place : Expr) (o : Op) (e : Expr) → Parts (Quiet n makes) (assign_deeds n place o e)
  assign_parts {makes} place op.Put e =
      parts (within n place ++ value_deeds n (is_some (pointer_of n place)) e) (written_if n place (source_of n (within n place) e))
      (looks_append (within_looks n place) (value_looks n (is_some (pointer_of n place)) e)) (if_quiet place (source_of n (within n place) e) (source_made makes (within n place) e))
  assign_parts place op.Add e = only_looks (within n place ++ value_deeds n false e) (looks_append (within_looks n place) (value_looks n false e))
  assign_parts place op.Sub e = only_looks (within n place ++ value_deeds n false e) (looks_append (within_looks n place) (value_looks n false e))
  assign_parts place op.Mul e = only_looks (within n place ++ value_deeds n false e) (looks_append (within_looks n place) (value_looks n false e))

  simple_parts : {makes : Bool} (s : Simple) (r : Right) → Parts (Quiet n makes) (simple_deeds n s r)
  simple_parts s (right.Plain e) = assign_parts s.place s.op e
  simple_parts s (right.Call c) = only_looks [] nothing

  made_quiet : (place : Option Expr) (site : Option ℕ) (w : Way) → Quiet n (makes_new w) (made n place site w)
  made_quiet place (Some site) way.Made = any_quiet place (source.New site) refl
  made_quiet place (Some site) way.NotMade = any_quiet place source.Null tt
  made_quiet place None way.NotMade = any_quiet place source.Null tt
  made_quiet place _ _ = settings no_more

  binding_parts : {makes : Bool} (b : Binding) (xs : List ℕ) (es : List Expr) → Looks b.reads → Setting n makes b.writes →
      Looks (bound_arguments n b xs es).reads × Setting n makes (bound_arguments n b xs es).writes
  binding_parts b [] es looks writes = (looks, writes)
  binding_parts b (x ∷ xs) [] looks writes = (looks, writes)
  binding_parts {makes} b (x ∷ xs) (e ∷ es) looks writes =
      binding_parts (bound_argument n b (x, e)) xs es (looks_append looks (value_looks n (is_some (place_of n x)) e))
      (setting_append writes (bound_setting (place_of n x) (source_of n b.reads e) (place_low x) (source_made makes b.reads e)))

  call_parts : {makes : Bool} (xs : List ℕ) (es : List Expr) → Parts (Quiet n makes) (call_deeds n xs es)
  call_parts xs es =
      let it = binding_parts no_binding xs es nothing no_more in
      parts (bound_arguments n no_binding xs es).reads (bound_arguments n no_binding xs es).writes it.0 (settings it.1)

  unset_setting : {makes : Bool} (ks : List ℕ) → ((k : ℕ) → Has k ks → k < length n.vars) → Setting n makes (all_unset ks)
  unset_setting [] low = no_more
  unset_setting (k ∷ ks) low = sets_one k source.Undef (low k first) tt (unset_setting ks (λ j h. low j (later h)))

  pub owned_low : (f : Option ℕ) (k : ℕ) → Has k (owned_by n f) → k < length n.vars
  owned_low None k h = elim h [ ]
  owned_low (Some f) k h = let low : k < 0 + length n.vars = range_low 0 (length n.vars) (filter_from (λ i. has (has_home n (is_of f)) (slice_get n.vars i)) k (range_with_len 0 (length n.vars)) h) in omega arith

  target_low : (target : Option ℕ) (k : ℕ) → option_and_then (place_of n) target ≡ Some k → k < length n.vars
  target_low None k h = absurd cc
  target_low (Some x) k h = place_low x k h

  returned_parts : {makes : Bool} (q : Option ℕ) (value : Option Expr) (ys : List Deed) → ((k : ℕ) → q ≡ Some k → k < length n.vars) → Setting n makes ys → Parts (Quiet n makes) (returned_any n q value ++ ys)
  returned_parts q None ys low more = only_settings ys more
  returned_parts {makes} q (Some e) ys low more = record {
    front = value_deeds n (is_some q) e;
    back = bound q (source_of n [] e) ++ ys;
    is = append_assoc (value_deeds n (is_some q) e) (bound q (source_of n [] e)) ys;
    looks = value_looks n (is_some q) e;
    ending = settings (setting_append (bound_setting q (source_of n [] e) low (source_made makes [] e)) more);
  }

  return_parts : {makes : Bool} (ks : List ℕ) (value : Option Expr) (w : Way) → ((k : ℕ) → Has k ks → k < length n.vars) → Parts (Quiet n makes) (return_deeds n ks value w)
  return_parts ks value (way.Leave target) low = returned_parts (option_and_then (place_of n) target) value (all_unset ks) (target_low target) (unset_setting ks low)
  return_parts {makes} ks value way.On low =
      subst (Parts (Quiet n makes)) (append-nil (returned_any n None value)) (returned_parts None value [] (λ k h. let never : None ≡ Some k = h in absurd cc) no_more)
  return_parts ks value _ low = only_looks [] nothing

  -- an action that is no test reads, and then writes variables or one field
  pub action_parts : (site : Option ℕ) (xs ks : List ℕ) (w : Way) (a : Action) → ((k : ℕ) → Has k ks → k < length n.vars) →
      Parts (Quiet n (makes_new w)) (action_deeds n site xs ks w a) ⊎ ((e : Expr) × (a ≡ action.Test e))
  action_parts site xs ks w (action.Unset x) low = inl (only_settings (sets (place_of n x) source.Undef) (sets_setting (place_of n x) source.Undef (place_low x) tt))
  action_parts site xs ks w (action.Assign s) low = inl (simple_parts s s.right)
  action_parts site xs ks w (action.Malloc place z at) low =
      inl (parts (place_deeds n place ++ size_deeds n z) (made n place site w) (looks_append (place_looks n place) (size_looks n z)) (made_quiet place site w))
  action_parts site xs ks w (action.Getchar place) low = inl (only_looks (place_deeds n place) (place_looks n place))
  action_parts site xs ks w (action.Putchar e) low = inl (only_looks (value_deeds n false e) (value_looks n false e))
  action_parts site xs ks w (action.Printf text es) low = inl (only_looks (flat_map (value_deeds n false) es) (values_look n es))
  action_parts site xs ks w (action.Test e) low = inr (e, refl)
  action_parts site xs ks w (action.Call g es) low = inl (call_parts xs es)
  action_parts site xs ks w (action.Return value) low = inl (return_parts ks value w low)
  action_parts site xs ks w action.Close low = inl (return_parts ks None w low)
