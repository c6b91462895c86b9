-- Values of alike expressions, over objects that differ in the marks "freed" alone: they are equal, or the
-- evaluations stop alike, or one of them reads a pointer to an object that is freed on its side alone.
use Rattle.std.proofs.Common.{◌≡◌, ℕ, zero, suc, Bool, true, false, ◌==◌, ℤ, pos, negsuc, ◌+ℤ◌, ◌-ℤ◌, ◌*ℤ◌, neg_ℤ, int_div, int_rem, List, [], ◌∷◌, map, length, slice_get, unwrap_or, nat_lt, Result, Ok, Err, refl, ap, sym, subst, ◌∙◌}
use Rattle.std.specs.Prelude.{if◌then◌else◌}
use Rattle.c_tree.specs.Alike.{bare_expr}
use Rattle.c_tree.specs.declared.expr.Expr.{Expr, Expr-F, out-Expr, map-Expr, out-roll-Expr, roll-out-Expr, fold-roll-Expr, ind-Expr}
use Rattle.c_tree.specs.declared.expr.Expr.TheOpen.{Const, Null, Var, Field, Deref, Index, Unary, Binary}
use Rattle.c_tree.specs.declared.expr.Sign.{Sign}
use Rattle.c_tree.specs.declared.expr.Sign.TheVariants as sign
use Rattle.c_tree.specs.declared.expr.Oper.{Oper}
use Rattle.c_tree.specs.declared.expr.Oper.TheVariants as oper
use Rattle.c_meaning.specs.declared.value.Value.{Value}
use Rattle.c_meaning.specs.declared.value.Value.TheVariants as value
use Rattle.c_meaning.specs.declared.machine.Object.{Object}
use Rattle.c_meaning.specs.declared.machine.Location.{Location}
use Rattle.c_meaning.specs.declared.machine.Location.TheVariants.{Slot, Cell}
use Rattle.c_meaning.specs.declared.machine.Kind.TheVariants.{Bounds, UseAfterFree, Overflow, DivZero}
use Rattle.c_meaning.specs.declared.machine.Stop.{Stop}
use Rattle.c_meaning.specs.declared.machine.Stop.TheVariants.{Faulted, Excluded}
use Rattle.c_meaning.specs.Eval.{flaw, ◌>>=◌, cells_of, is_freed, content_of, unless_freed, read, value_at, int_of, cell_within, cell_of, field_within, field_cell, fits, fitted, is_zero, divided, arithmetic, compared, binary, signed, eval_layer, eval, eval_all, place_layer, place_of}
use Rattle.c_meaning.proofs.Opened.{bared, bare_rolled, bare_out}

abbrev pub bare_stop : Stop → Stop
bare_stop (Faulted kind offset) = Faulted kind 0
bare_stop Excluded = Excluded

module _ (Marks : Bool → Bool → Type 0) where
  -- two results of which R holds, or two stops that are equal but for offsets, or one that is the use of a
  -- freed object
  pub data Agree {A : Type 0} (R : A → A → Type 0) : Result A Stop → Result A Stop → Type 0 where
    both : {a b : A} → R a b → Agree R (Ok a) (Ok b)
    both_stop : (d e : Stop) → bare_stop d ≡ bare_stop e → Agree R (Err d) (Err e)
    left_stale : (offset : ℕ) (r : Result A Stop) → Marks true false → Agree R (Err (Faulted UseAfterFree offset)) r
    right_stale : (offset : ℕ) (r : Result A Stop) → Marks false true → Agree R r (Err (Faulted UseAfterFree offset))

  pub agree_then : {A B : Type 0} {R : A → A → Type 0} {T : B → B → Type 0} {r s : Result A Stop} (f g : A → Result B Stop) → Agree R r s → ((a b : A) → R a b → Agree T (f a) (g b)) → Agree T (r >>= f) (s >>= g)
  agree_then f g (both {a = a} {b = b} h) k = k a b h
  agree_then f g (both_stop d e h) k = both_stop d e h
  agree_then f g (left_stale offset r h) k = left_stale offset (r >>= g) h
  agree_then f g (right_stale offset r h) k = right_stale offset (r >>= f) h

  -- the same results, followed by what agrees at each
  pub agree_same : {A B : Type 0} {T : B → B → Type 0} {r s : Result A Stop} (f g : A → Result B Stop) → Agree ◌≡◌ r s → ((a : A) → Agree T (f a) (g a)) → Agree T (r >>= f) (s >>= g)
  agree_same {A} {B} {T} f g h k = agree_then f g h (λ a b e. subst (λ (c : A). Agree T (f a) (g c)) e (k a))

  pub agree_itself : {A : Type 0} (r : Result A Stop) → Agree ◌≡◌ r r
  agree_itself (Ok a) = both refl
  agree_itself (Err e) = both_stop e e refl

  -- objects with the same cells, whose marks are related
  pub data ObjectsAgree : List Object → List Object → Type 0 where
    no_objects : ObjectsAgree [] []
    one_more : {a b : Object} {objects others : List Object} → a.cells ≡ b.cells → Marks a.freed b.freed → ObjectsAgree objects others → ObjectsAgree (a ∷ objects) (b ∷ others)

  -- operators

  if_fits : (m n : ℕ) (v : Value) (b : Bool) → Agree ◌≡◌ (if b then Ok v else flaw Overflow m) (if b then Ok v else flaw Overflow n)
  if_fits m n v true = both refl
  if_fits m n v false = both_stop _ _ refl

  pub fitted_agrees : (m n : ℕ) (i : ℤ) → Agree ◌≡◌ (fitted m i) (fitted n i)
  fitted_agrees m n i = if_fits m n (value.Int i) (fits i)

  unless_zero : (m n : ℕ) (i : ℤ) (b : Bool) → Agree ◌≡◌ (if b then flaw DivZero m else fitted m i) (if b then flaw DivZero n else fitted n i)
  unless_zero m n i true = both_stop _ _ refl
  unless_zero m n i false = fitted_agrees m n i

  divided_agrees : (m n : ℕ) (a b : ℤ) → Agree ◌≡◌ (divided m a b) (divided n a b)
  divided_agrees m n a b = unless_zero m n (int_div a b) (is_zero b)

  arithmetic_agrees : (o : Oper) (m n : ℕ) (a b : ℤ) → Agree ◌≡◌ (arithmetic o m a b) (arithmetic o n a b)
  arithmetic_agrees oper.Mul m n a b = fitted_agrees m n (a *ℤ b)
  arithmetic_agrees oper.Div m n a b = divided_agrees m n a b
  arithmetic_agrees oper.Rem m n a b = agree_same (λ q. Ok (value.Int (int_rem a b))) (λ q. Ok (value.Int (int_rem a b))) (divided_agrees m n a b) (λ q. both refl)
  arithmetic_agrees oper.Add m n a b = fitted_agrees m n (a +ℤ b)
  arithmetic_agrees oper.Sub m n a b = fitted_agrees m n (a -ℤ b)
  arithmetic_agrees oper.Lt m n a b = both refl
  arithmetic_agrees oper.Le m n a b = both refl
  arithmetic_agrees oper.Gt m n a b = both refl
  arithmetic_agrees oper.Ge m n a b = both refl
  arithmetic_agrees oper.Eq m n a b = both refl
  arithmetic_agrees oper.Ne m n a b = both refl
  arithmetic_agrees oper.And m n a b = both_stop Excluded Excluded refl
  arithmetic_agrees oper.Or m n a b = both_stop Excluded Excluded refl

  binary_agrees : (o : Oper) (m n : ℕ) (v w : Value) → Agree ◌≡◌ (binary o m v w) (binary o n v w)
  binary_agrees o m n (value.Int a) (value.Int b) = arithmetic_agrees o m n a b
  binary_agrees o m n (value.Ptr a) (value.Ptr b) = agree_itself (compared o (a == b))
  binary_agrees o m n (value.Ptr a) value.Null = agree_itself (compared o false)
  binary_agrees o m n value.Null (value.Ptr b) = agree_itself (compared o false)
  binary_agrees o m n value.Null value.Null = agree_itself (compared o true)
  binary_agrees o m n _ _ = both_stop Excluded Excluded refl

  signed_agrees : (s : Sign) (m n : ℕ) (v : Value) → Agree ◌≡◌ (signed s m v) (signed s n v)
  signed_agrees sign.Minus m n v = agree_same (λ i. fitted m (neg_ℤ i)) (λ i. fitted n (neg_ℤ i)) (agree_itself (int_of v)) (λ i. fitted_agrees m n (neg_ℤ i))
  signed_agrees sign.Not m n v = agree_itself (signed sign.Not m v)

  -- reads

  module _ (fresh : Marks false false) where
    pub marks_agree : {objects others : List Object} → ObjectsAgree objects others → (o : ℕ) → Marks (is_freed objects o) (is_freed others o)
    marks_agree no_objects o = fresh
    marks_agree (one_more c m h) zero = m
    marks_agree (one_more c m h) (suc o) = marks_agree h o

    pub cells_agree : {objects others : List Object} → ObjectsAgree objects others → (o : ℕ) → cells_of objects o ≡ cells_of others o
    cells_agree no_objects o = refl
    cells_agree (one_more c m h) zero = c
    cells_agree (one_more c m h) (suc o) = cells_agree h o

    unless_agrees : (m n o : ℕ) (b c : Bool) → Marks b c → Agree ◌≡◌ (unless_freed m o b) (unless_freed n o c)
    unless_agrees m n o true true h = both_stop _ _ refl
    unless_agrees m n o true false h = left_stale m (unless_freed n o false) h
    unless_agrees m n o false true h = right_stale n (unless_freed m o false) h
    unless_agrees m n o false false h = both refl

    module _ {objects others : List Object} (h : ObjectsAgree objects others) (slots : List Value) where
      read_agrees : (m n : ℕ) (v : Value) → Agree ◌≡◌ (read objects m v) (read others n v)
      read_agrees m n value.Undef = both_stop _ _ refl
      read_agrees m n (value.Int i) = both refl
      read_agrees m n value.Null = both refl
      read_agrees m n (value.Ptr o) = unless_agrees m n o (is_freed objects o) (is_freed others o) (marks_agree h o)

      pub content_agrees : (l : Location) → content_of slots objects l ≡ content_of slots others l
      content_agrees (Slot x) = refl
      content_agrees (Cell o k) = ap (λ (cs : List Value). unwrap_or (slice_get cs k) value.Undef) (cells_agree h o)

      pub value_agrees : (m n : ℕ) (l : Location) → Agree ◌≡◌ (value_at slots objects m l) (value_at slots others n l)
      value_agrees m n l = subst (λ (v : Value). Agree ◌≡◌ (value_at slots objects m l) (read others n v)) (content_agrees l) (read_agrees m n (content_of slots objects l))

      in_bounds : (m n o k : ℕ) (b : Bool) → Agree ◌≡◌ (if b then Ok (Cell o k) else flaw Bounds m) (if b then Ok (Cell o k) else flaw Bounds n)
      in_bounds m n o k true = both refl
      in_bounds m n o k false = both_stop _ _ refl

      cell_within_agrees : (m n o : ℕ) (i : ℤ) (count : ℕ) → Agree ◌≡◌ (cell_within m o i count) (cell_within n o i count)
      cell_within_agrees m n o (pos k) count = in_bounds m n o k (nat_lt k count)
      cell_within_agrees m n o (negsuc k) count = both_stop _ _ refl

      cell_agrees : (m n : ℕ) (i : ℤ) (v : Value) → Agree ◌≡◌ (cell_of objects m i v) (cell_of others n i v)
      cell_agrees m n i value.Undef = both_stop _ _ refl
      cell_agrees m n i (value.Int j) = both_stop _ _ refl
      cell_agrees m n i value.Null = both_stop _ _ refl
      cell_agrees m n i (value.Ptr o) = subst (λ (cs : List Value). Agree ◌≡◌ (cell_of objects m i (value.Ptr o)) (cell_within n o i (length cs))) (cells_agree h o) (cell_within_agrees m n o i (length (cells_of objects o)))

      field_agrees : (m n f : ℕ) (v : Value) → Agree ◌≡◌ (field_cell objects m f v) (field_cell others n f v)
      field_agrees m n f value.Undef = both_stop _ _ refl
      field_agrees m n f (value.Int j) = both_stop _ _ refl
      field_agrees m n f value.Null = both_stop _ _ refl
      field_agrees m n f (value.Ptr o) = subst (λ (cs : List Value). Agree ◌≡◌ (field_cell objects m f (value.Ptr o)) (field_within o f (length cs))) (cells_agree h o) (agree_itself (field_within o f (length (cells_of objects o))))

      -- expressions

      abbrev EvalAgrees : Expr → Type 0
      EvalAgrees e = (d : Expr) → bare_expr e ≡ bare_expr d → Agree ◌≡◌ (eval slots objects e) (eval slots others d)

      abbrev plain : Expr-F ((e : Expr) × EvalAgrees e) → Expr-F Expr
      plain = map-Expr ((e : Expr) × EvalAgrees e) Expr (λ e. e.0)

      abbrev left : Expr-F Expr → Result Value Stop
      left l = eval_layer slots objects (map-Expr Expr (Result Value Stop) (eval slots objects) l)

      abbrev right : Expr-F Expr → Result Value Stop
      right l = eval_layer slots others (map-Expr Expr (Result Value Stop) (eval slots others) l)

      layer_agrees : (y : Expr-F ((e : Expr) × EvalAgrees e)) (l : Expr-F Expr) → bared (plain y) ≡ bared l → Agree ◌≡◌ (left (plain y)) (right l)
      layer_agrees (Const i m) (Const j n) e = both (let same : i ≡ j = cc in ap (λ (k : ℤ). value.Int k) same)
      layer_agrees (Null m) (Null n) e = both refl
      layer_agrees (Var x m) (Var z n) e = subst (λ (k : ℕ). Agree ◌≡◌ (value_at slots objects m (Slot x)) (value_at slots others n (Slot k))) (let same : x ≡ z = cc in same) (value_agrees m n (Slot x))
      layer_agrees (Field a f m) (Field b g n) e =
          subst (λ (k : ℕ). Agree ◌≡◌ (left (Field a.0 f m)) (right (Field b k n))) (let same : f ≡ g = cc in same)
          (agree_same (value_at slots objects m) (value_at slots others n)
          (agree_same (field_cell objects m f) (field_cell others n f) (a.1 b (let same : bare_expr a.0 ≡ bare_expr b = cc in same)) (field_agrees m n f))
          (value_agrees m n))
      layer_agrees (Deref a m) (Deref b n) e =
          agree_same (value_at slots objects m) (value_at slots others n)
          (agree_same (cell_of objects m (pos 0)) (cell_of others n (pos 0)) (a.1 b (let same : bare_expr a.0 ≡ bare_expr b = cc in same)) (cell_agrees m n (pos 0)))
          (value_agrees m n)
      layer_agrees (Index a i m) (Index b j n) e =
          agree_same (λ v. eval slots objects i.0 >>= int_of >>= λ k. cell_of objects m k v >>= value_at slots objects m) (λ v. eval slots others j >>= int_of >>= λ k. cell_of others n k v >>= value_at slots others n)
          (a.1 b (let same : bare_expr a.0 ≡ bare_expr b = cc in same))
          (λ v. agree_same (λ k. cell_of objects m k v >>= value_at slots objects m) (λ k. cell_of others n k v >>= value_at slots others n)
          (agree_same int_of int_of (i.1 j (let same : bare_expr i.0 ≡ bare_expr j = cc in same)) (λ w. agree_itself (int_of w)))
          (λ k. agree_same (value_at slots objects m) (value_at slots others n) (cell_agrees m n k v) (value_agrees m n)))
      layer_agrees (Unary s a m) (Unary t b n) e =
          subst (λ (k : Sign). Agree ◌≡◌ (left (Unary s a.0 m)) (right (Unary k b n))) (let same : s ≡ t = cc in same)
          (agree_same (signed s m) (signed s n) (a.1 b (let same : bare_expr a.0 ≡ bare_expr b = cc in same)) (signed_agrees s m n))
      layer_agrees (Binary o a b m) (Binary p c d n) e =
          subst (λ (k : Oper). Agree ◌≡◌ (left (Binary o a.0 b.0 m)) (right (Binary k c d n))) (let same : o ≡ p = cc in same)
          (agree_same (λ v. eval slots objects b.0 >>= binary o m v) (λ v. eval slots others d >>= binary o n v) (a.1 c (let same : bare_expr a.0 ≡ bare_expr c = cc in same))
          (λ v. agree_same (binary o m v) (binary o n v) (b.1 d (let same : bare_expr b.0 ≡ bare_expr d = cc in same)) (binary_agrees o m n v)))
      layer_agrees _ _ e = absurd cc

      layers_same : (e d : Expr) → bare_expr e ≡ bare_expr d → bared (out-Expr e) ≡ bared (out-Expr d)
      layers_same e d h = sym (bare_out e) ∙ ap out-Expr h ∙ bare_out d

      -- alike expressions have values that agree
      pub eval_agrees : (e d : Expr) → bare_expr e ≡ bare_expr d → Agree ◌≡◌ (eval slots objects e) (eval slots others d)
      eval_agrees = ind-Expr EvalAgrees (λ x y is d e.
          let l = out-Expr d in
          let same : bared x ≡ bared l = sym (out-roll-Expr (bared x)) ∙ ap out-Expr (sym (bare_rolled x) ∙ e) ∙ bare_out d in
          let layer : bared x ≡ bared l → Agree ◌≡◌ (left x) (right l) = subst (λ (z : Expr-F Expr). bared z ≡ bared l → Agree ◌≡◌ (left z) (right l)) is (layer_agrees y l) in
          subst (λ (r : Result Value Stop). Agree ◌≡◌ r (eval slots others d)) (sym (fold-roll-Expr (Result Value Stop) (eval_layer slots objects) x))
          (subst (λ (r : Result Value Stop). Agree ◌≡◌ (left x) r) (sym (ap (eval slots others) (sym (roll-out-Expr d)) ∙ fold-roll-Expr (Result Value Stop) (eval_layer slots others) l))
          (layer same)))

      pub eval_all_agrees : (es ds : List Expr) → map bare_expr es ≡ map bare_expr ds → Agree ◌≡◌ (eval_all slots objects es) (eval_all slots others ds)
      eval_all_agrees [] [] e = both refl
      eval_all_agrees (a ∷ es) (b ∷ ds) e =
          agree_same (λ v. eval_all slots objects es >>= λ vs. Ok (v ∷ vs)) (λ v. eval_all slots others ds >>= λ vs. Ok (v ∷ vs)) (eval_agrees a b (let same : bare_expr a ≡ bare_expr b = cc in same))
          (λ v. agree_same (λ vs. Ok (v ∷ vs)) (λ vs. Ok (v ∷ vs)) (eval_all_agrees es ds (let same : map bare_expr es ≡ map bare_expr ds = cc in same)) (λ vs. both refl))
      eval_all_agrees _ _ e = absurd cc

      place_layer_agrees : (l k : Expr-F Expr) → bared l ≡ bared k → Agree ◌≡◌ (place_layer slots objects l) (place_layer slots others k)
      place_layer_agrees (Var x m) (Var z n) e = both (let same : x ≡ z = cc in ap (λ (k : ℕ). Slot k) same)
      place_layer_agrees (Field a f m) (Field b g n) e =
          subst (λ (k : ℕ). Agree ◌≡◌ (eval slots objects a >>= field_cell objects m f) (eval slots others b >>= field_cell others n k)) (let same : f ≡ g = cc in same)
          (agree_same (field_cell objects m f) (field_cell others n f) (eval_agrees a b (let same : bare_expr a ≡ bare_expr b = cc in same)) (field_agrees m n f))
      place_layer_agrees (Deref a m) (Deref b n) e =
          agree_same (cell_of objects m (pos 0)) (cell_of others n (pos 0)) (eval_agrees a b (let same : bare_expr a ≡ bare_expr b = cc in same)) (cell_agrees m n (pos 0))
      place_layer_agrees (Index a i m) (Index b j n) e =
          agree_same (λ v. eval slots objects i >>= int_of >>= λ k. cell_of objects m k v) (λ v. eval slots others j >>= int_of >>= λ k. cell_of others n k v)
          (eval_agrees a b (let same : bare_expr a ≡ bare_expr b = cc in same))
          (λ v. agree_same (λ k. cell_of objects m k v) (λ k. cell_of others n k v)
          (agree_same int_of int_of (eval_agrees i j (let same : bare_expr i ≡ bare_expr j = cc in same)) (λ w. agree_itself (int_of w)))
          (λ k. cell_agrees m n k v))
      place_layer_agrees (Const i m) (Const j n) e = both_stop _ _ refl
      place_layer_agrees (Null m) (Null n) e = both_stop _ _ refl
      place_layer_agrees (Unary s a m) (Unary t b n) e = both_stop _ _ refl
      place_layer_agrees (Binary o a b m) (Binary p c d n) e = both_stop _ _ refl
      place_layer_agrees _ _ e = absurd cc

      -- and name the same location
      pub place_agrees : (e d : Expr) → bare_expr e ≡ bare_expr d → Agree ◌≡◌ (place_of slots objects e) (place_of slots others d)
      place_agrees e d h = place_layer_agrees (out-Expr e) (out-Expr d) (layers_same e d h)
