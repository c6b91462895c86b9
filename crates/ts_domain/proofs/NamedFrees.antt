-- Frees of pointing expressions by their numbers.
use Rattle.std.proofs.Common.{◌≡◌, ℕ, ◌+◌, ◌<◌, Bool, true, false, List, slice_get, length, Option, Some, None, option_map, option_and_then, refl, ap, sym, subst, ◌∙◌, arith}
use Rattle.std.specs.Prelude.{nat_lt}
use Rattle.std.proofs.lemmas.Bool.{ltb-true}
use Rattle.std.proofs.lemmas.Option.{slice_get_within}
use Rattle.c_tree.specs.declared.expr.Expr.{Expr, Expr-F, out-Expr, map-Expr, fold_out-Expr}
use Rattle.c_tree.specs.declared.expr.Expr.TheOpen.{Const, Null, Var, Field, Deref, Index, Unary, Binary}
use Rattle.c_tree.specs.declared.program.Free.{Free}
use Rattle.c_tree.specs.declared.program.Program.{Program}
use Rattle.c_tree.specs.declared.program.Ty.{Ty}
use Rattle.c_tree.specs.declared.program.Ty.TheVariants as ty
use Rattle.c_meaning.specs.declared.value.Value.TheVariants as value
use Rattle.c_meaning.specs.Eval.{is_freed}
use Rattle.c_meaning.specs.Effects.{freed}
use Rattle.c_meaning.specs.Machine.{Store}
use Rattle.c_graph.specs.declared.graph.Graph.{Graph}
use Rattle.ts_domain.specs.declared.fact.Fact.TheVariants.{Ready, Full, Filled}
use Rattle.ts_domain.specs.declared.names.Names.{Names}
use Rattle.ts_domain.specs.declared.names.Read.{Read}
use Rattle.ts_domain.specs.declared.names.Read.TheVariants as read
use Rattle.ts_domain.specs.declared.pointers.Pointer.{Pointer}
use Rattle.ts_domain.specs.Looks.{Look, look_layer, look, pointer_of}
use Rattle.ts_domain.specs.PeekedFrees.{FreesContent}
use Rattle.ts_domain.specs.Pointers.{place_of, field_place, type_of, field_type, pointer_at, chained, field_read, field_pointer_at, field_pointer}
use Rattle.ts_domain.specs.Truth.{IsTrueOf}
use Rattle.ts_domain.specs.Views.{AreNames, view_of, peek}
use Rattle.ts_domain.proofs.Expressions.{field_pointer_read}
use Rattle.ts_domain.proofs.NameLaws.{HasPlaces, has_places}
use Rattle.ts_domain.proofs.PeekedFrees.{variable_frees, field_frees}

module _ (n : Names) where
  abbrev pointer_in : Expr-F Expr → Option Pointer
  pointer_in x = (look_layer n (map-Expr Expr Look (look n) x)).pointer

  opened : (e : Expr) → pointer_of n e ≡ pointer_in (out-Expr e)
  opened e = ap (λ (k : Look). k.pointer) (fold_out-Expr Look (look_layer n) e)

  same_name : (a b : ℕ) → read.Name a ≡ read.Name b → a ≡ b
  same_name a b h = cc

  -- a variable by its place
  record IsVariable (e : Expr) (k : ℕ) : Type 0 where
    variable : ℕ
    offset : ℕ
    is : out-Expr e ≡ Var variable offset
    place : place_of n variable ≡ Some k

  -- a field of a variable by its place
  record IsField (e : Expr) (j : ℕ) : Type 0 where
    base : Expr
    var : ℕ
    field : ℕ
    offset : ℕ
    is : out-Expr e ≡ Field base field offset
    of : IsVariable base var
    place : field_place n.fields var field ≡ Some j

  -- the number of a field, behind those of the variables
  record IsMember (p : Pointer) (f m : ℕ) : Type 0 where
    var : ℕ
    place : ℕ
    base : p.read ≡ read.Name var
    low : var < length n.vars
    there : field_place n.fields var f ≡ Some place
    number : length n.vars + place ≡ m

  variable_by : (x at : ℕ) (e : Expr) (q : Pointer) (m : ℕ) (t : Option Ty) (k : Option ℕ) → out-Expr e ≡ Var x at → place_of n x ≡ k → option_and_then (λ t. option_map (pointer_at t) k) t ≡ Some q → q.read ≡ read.Name m → IsVariable e m
  variable_by x at e q m None k is there h named = absurd cc
  variable_by x at e q m (Some t) None is there h named = absurd cc
  variable_by x at e q m (Some t) (Some k) is there h named =
      let pointer : pointer_at t k ≡ q = cc in
      let number : k ≡ m = same_name k m (ap (λ (y : Pointer). y.read) pointer ∙ named) in
      record { variable = x; offset = at; is = is; place = there ∙ ap Some number }

  numbered_by : (p : Pointer) (f m k : ℕ) (j : Option ℕ) → p.read ≡ read.Name k → k < length n.vars → field_place n.fields k f ≡ j → option_map (λ j. read.Name (length n.vars + j)) j ≡ Some (read.Name m) → IsMember p f m
  numbered_by p f m k None base low there h = absurd cc
  numbered_by p f m k (Some j) base low there h =
      let names : read.Name (length n.vars + j) ≡ read.Name m = cc in
      record { var = k; place = j; base = base; low = low; there = there; number = same_name (length n.vars + j) m names }

  chained_by : (p : Pointer) (f m k c : ℕ) (b : Bool) → p.read ≡ read.Name k → nat_lt k (length n.vars) ≡ b → chained n k c f b ≡ Some (read.Name m) → IsMember p f m
  chained_by p f m k c true base low h = numbered_by p f m k (field_place n.fields k f) base (ltb-true k (length n.vars) low) refl h
  chained_by p f m k c false base low h = absurd cc

  read_by : (p : Pointer) (f m c : ℕ) (r : Read) → p.read ≡ r → field_read n r c f ≡ Some (read.Name m) → IsMember p f m
  read_by p f m c (read.Name k) base h = chained_by p f m k c (nat_lt k (length n.vars)) base refl h
  read_by p f m c (read.Deep s g) base h = absurd cc

  member_by : (p q : Pointer) (f m : ℕ) (t : Ty) → p.ty ≡ t → field_pointer_at n p.read f t ≡ Some q → q.read ≡ read.Name m → IsMember p f m
  member_by p q f m ty.Int is h named = absurd cc
  member_by p q f m ty.IntPtr is h named = absurd cc
  member_by p q f m (ty.StructPtr c) is h named = read_by p f m c p.read refl (field_pointer_read n p.read c f q (field_type n c f) h ∙ ap Some named)

  -- what a pointer that has the number of a variable is read from
  base_by : (x : Expr-F Expr) (e : Expr) (q : Pointer) (m : ℕ) → out-Expr e ≡ x → pointer_in x ≡ Some q → q.read ≡ read.Name m → m < length n.vars → IsVariable e m
  base_by (Const v at) e q m is h named low = absurd cc
  base_by (Null at) e q m is h named low = absurd cc
  base_by (Var x at) e q m is h named low = variable_by x at e q m (type_of n x) (place_of n x) is refl h named
  base_by (Field b f at) e q m is h named low = by_base (pointer_of n b) h
    where
      by_base : (o : Option Pointer) → option_and_then (field_pointer n f) o ≡ Some q → IsVariable e m
      by_base None h = absurd cc
      by_base (Some p) h = let it = member_by p q f m p.ty refl h named in let number = it.number in absurd (omega arith)
  base_by (Deref b at) e q m is h named low = absurd cc
  base_by (Index b i at) e q m is h named low = absurd cc
  base_by (Unary o b at) e q m is h named low = absurd cc
  base_by (Binary o a b at) e q m is h named low = absurd cc

  -- an expression with a number is a variable, or a field of one
  data IsNamed (e : Expr) (m : ℕ) : Type 0 where
    is_variable : IsVariable e m → IsNamed e m
    is_field : (j : ℕ) → IsField e j → length n.vars + j ≡ m → IsNamed e m

  named_by : (x : Expr-F Expr) (e : Expr) (q : Pointer) (m : ℕ) → out-Expr e ≡ x → pointer_in x ≡ Some q → q.read ≡ read.Name m → IsNamed e m
  named_by (Const v at) e q m is h named = absurd cc
  named_by (Null at) e q m is h named = absurd cc
  named_by (Var x at) e q m is h named = is_variable (variable_by x at e q m (type_of n x) (place_of n x) is refl h named)
  named_by (Field b f at) e q m is h named = by_base (pointer_of n b) refl h
    where
      by_base : (o : Option Pointer) → pointer_of n b ≡ o → option_and_then (field_pointer n f) o ≡ Some q → IsNamed e m
      by_base None there h = absurd cc
      by_base (Some p) there h =
          let it = member_by p q f m p.ty refl h named in
          let base = base_by (out-Expr b) b p it.var refl (sym (opened b) ∙ there) it.base it.low in
          is_field it.place (record { base = b; var = it.var; field = f; offset = at; is = is; of = base; place = it.there }) it.number
  named_by (Deref b at) e q m is h named = absurd cc
  named_by (Index b i at) e q m is h named = absurd cc
  named_by (Unary o b at) e q m is h named = absurd cc
  named_by (Binary o a b at) e q m is h named = absurd cc

module _ (p : Program) (g : Graph) (n : Names) (names : AreNames p g n) (sites : List ℕ) (s : Store) where
  -- a free of a pointing expression by its number: a variable that is set; or a field that is set, of a variable that holds an object
  -- that isn't freed. It frees what the expression holds, and has no fault but where that is freed already
  pub free_frees_peeked : (f : Free) (m : ℕ) (q : Pointer) → pointer_of n f.expr ≡ Some q → q.read ≡ read.Name m →
      (m < length n.vars → IsTrueOf n (view_of n s) (Ready m)) →
      ((j k h : ℕ) → m ≡ length n.vars + j → slice_get n.fields j ≡ Some (k, h) → IsTrueOf n (view_of n s) (Full k) × IsTrueOf n (view_of n s) (Filled j) × ((o : ℕ) → (view_of n s).slot k ≡ value.Ptr o → is_freed s.objects o ≡ false)) →
      FreesContent s f.start (peek n (view_of n s) m) (freed f s)
  free_frees_peeked f m q pointer named ready filled = by_name (named_by n (out-Expr f.expr) f.expr q m refl (sym (opened n f.expr) ∙ pointer) named)
    where
      places : HasPlaces n
      places = has_places p g n names

      by_name : IsNamed n f.expr m → FreesContent s f.start (peek n (view_of n s) m) (freed f s)
      by_name (is_variable it) = variable_frees p g n names sites s f it.variable m it.offset it.is it.place (ready (slice_get_within n.vars m it.variable (places.there it.variable m it.place)))
      by_name (is_field j it number) =
          let facts = filled j it.var it.field (sym number) (places.field_there it.var it.field j it.place) in
          subst (λ (i : ℕ). FreesContent s f.start (peek n (view_of n s) i) (freed f s)) number
          (field_frees p g n names sites s f it.base it.of.variable it.var it.field j it.offset it.of.offset it.is it.of.is it.of.place it.place facts.0 facts.1 facts.2)
