-- Walks without offsets, and what look-ups, types and expressions give behind them.
use Rattle.std.specs.Prelude.{slice_get}
use Rattle.std.specs.Ordering.{int_eq}
use Rattle.std.proofs.Common.{◌≡◌, ℕ, ℤ, suc, pos, Bool, true, false, ◌&&◌, ◌||◌, List, [], ◌∷◌, map, Option, Some, None, option_map, if◌then◌else◌, refl, sym, ap, subst, ◌∙◌}
use Rattle.std.proofs.lemmas.List.{map-append}
use Rattle.std.proofs.lemmas.Option.{slice_get-map}
use Rattle.c_tree.specs.Alike.{bare_expr, bare_layer}
use Rattle.c_tree.specs.declared.expr.Expr.{Expr as Made, Expr-F as Made-F, out-Expr, roll-Expr, out-roll-Expr, map-Expr, fold-roll-Expr, fold_out-Expr}
use Rattle.c_tree.specs.declared.expr.Expr.TheOpen as shape
use Rattle.c_tree.specs.declared.expr.Expr.TheVariants as expr
use Rattle.c_tree.specs.declared.expr.Oper.{Oper}
use Rattle.c_tree.specs.declared.expr.Oper.TheVariants as oper
use Rattle.c_tree.specs.declared.expr.Sign.{Sign}
use Rattle.c_tree.specs.declared.expr.Sign.TheVariants as sign
use Rattle.c_tree.specs.declared.program.Ty.{Ty}
use Rattle.c_tree.specs.declared.program.Ty.TheVariants as ty
use Rattle.c_tree.specs.declared.tree.Expr.{Expr, Expr-F, roll-Expr as roll-Tree, map-Expr as map-Tree, fold-roll-Expr as fold-roll-Tree, ind-Expr}
use Rattle.c_tree.specs.declared.tree.Expr.TheOpen.{Const, Null, Var, Field, Deref, Index, Unary, Binary}
use Rattle.c_tree.specs.declared.tree.Word.{Word}
use Rattle.c_parser.specs.Alike.{moved_expr, moved_layer, moved_word}
use Rattle.c_parser.proofs.PrintedStatements.{none_at}
use Rattle.c_types.specs.declared.faults.Fault.{Fault}
use Rattle.c_types.specs.declared.faults.Rule.{Rule}
use Rattle.c_types.specs.declared.faults.Rule.TheVariants as rule
use Rattle.c_types.specs.declared.judged.Checked.{Checked}
use Rattle.c_types.specs.declared.judged.Judged.{Judged}
use Rattle.c_types.specs.declared.judged.Judged.TheVariants.{Typed, Broken}
use Rattle.c_types.specs.declared.judged.Sort.{Sort}
use Rattle.c_types.specs.declared.judged.Sort.TheVariants.{Of, AnyPointer}
use Rattle.c_types.specs.declared.judged.Value.{Value}
use Rattle.c_types.specs.declared.scope.Entry.{Entry}
use Rattle.c_types.specs.declared.scope.Meaning.{Meaning}
use Rattle.c_types.specs.declared.scope.Meaning.TheVariants as meaning
use Rattle.c_types.specs.declared.scope.Scope.{Scope}
use Rattle.c_types.specs.declared.scope.StructRow.{StructRow}
use Rattle.c_types.specs.declared.scope.Written.{Written}
use Rattle.c_types.specs.declared.scope.Written.TheVariants.{Good, Bad}
use Rattle.c_types.specs.Expressions.{combined, compared, computed, deref, field, field_at, field_by, field_in, field_of_row, index, joined, judged, judged_layer, of_int, points_to_int, signed, typed, under_oper, under_sign, variable, variable_as, variable_by}
use Rattle.c_types.specs.Fits.{as_pointer, beside, fits, is_comparable, is_int, is_pointer, is_zero, is_zero_layer, pointer_layer, points, same_sort, unless}
use Rattle.c_types.specs.Judged.{breaks, of_one, of_two}
use Rattle.c_types.specs.Statements.{is_place, is_place_layer, is_variable, is_variable_layer}
use Rattle.c_types.specs.Tables.{found, place_of, same_name}

-- parts of a walk with every offset at 0

abbrev pub bare_fault : Fault → Fault
bare_fault f = record { at = 0; rule = f.rule }

abbrev pub bare_written : Written → Written
bare_written (Good t) = Good t
bare_written (Bad f) = Bad (bare_fault f)

abbrev pub bare_meaning : Meaning → Meaning
bare_meaning (meaning.Variable n t) = meaning.Variable n t
bare_meaning (meaning.Alias n) = meaning.Alias n
bare_meaning (meaning.Function n) = meaning.Function n
bare_meaning (meaning.Bad f) = meaning.Bad (bare_fault f)

abbrev pub bare_entry : Entry → Entry
bare_entry e = record { meaning = bare_meaning e.meaning; depth = e.depth }

-- a row with f of its value
abbrev pub row_with : {A B : Type 0} → (A → B) → List ℕ × A → List ℕ × B
row_with f row = (row.0, f row.1)

abbrev pub bare_row : StructRow → StructRow
bare_row r = record { fields = map (row_with bare_written) r.fields; body = option_map (λ _. 0) r.body }

abbrev pub bare_scope : Scope → Scope
bare_scope s = record { names = map (row_with bare_entry) s.names; tags = s.tags; structs = map bare_row s.structs }

abbrev pub bare_value : Value → Value
bare_value v = record { expr = bare_expr v.expr; sort = v.sort }

abbrev pub bare_judged : {A : Type 0} → (A → A) → Judged A → Judged A
bare_judged f (Typed a) = Typed (f a)
bare_judged f (Broken fs) = Broken (map bare_fault fs)

abbrev pub bare_checked : {A : Type 0} → (A → A) → Checked A → Checked A
bare_checked f c = record { made = f c.made; faults = map bare_fault c.faults }

-- look-ups

found_case : {A B : Type 0} (f : A → B) (b : Bool) (x : A) (o : Option A) (p : Option B) → p ≡ option_map f o → (if b then Some (f x) else p) ≡ option_map f (if b then Some x else o)
found_case f true x o p e = refl
found_case f false x o p e = e

pub found_rows : {A B : Type 0} (f : A → B) (rows : List (List ℕ × A)) (n : List ℕ) → found (map (row_with f) rows) n ≡ option_map f (found rows n)
found_rows f [] n = refl
found_rows f (row ∷ rows) n = found_case f (same_name n row.0) row.1 (found rows n) (found (map (row_with f) rows) n) (found_rows f rows n)

pub place_rows : {A B : Type 0} (f : A → B) (rows : List (List ℕ × A)) (n : List ℕ) → place_of (map (row_with f) rows) n ≡ place_of rows n
place_rows f [] n = refl
place_rows f (row ∷ rows) n = ap (λ (o : Option ℕ). if same_name n row.0 then Some 0 else option_map suc o) (place_rows f rows n)

pub unless_bare : (b : Bool) (r : Rule) (at : ℕ) → unless b r 0 ≡ map bare_fault (unless b r at)
unless_bare true r at = refl
unless_bare false r at = refl

-- made expressions

bare_rolls : (l : Made-F Made) → bare_expr (roll-Expr l) ≡ roll-Expr (bare_layer (map-Expr Made Made bare_expr l))
bare_rolls = fold-roll-Expr Made (λ l. roll-Expr (bare_layer l))

pub bare_const : (n : ℤ) (at : ℕ) → expr.Const n 0 ≡ bare_expr (expr.Const n at)
bare_const n at = sym (ap bare_expr (sym (expr.rolls-Const n at)) ∙ bare_rolls (shape.Const n at) ∙ expr.rolls-Const n 0)

pub bare_null : (at : ℕ) → expr.Null 0 ≡ bare_expr (expr.Null at)
bare_null at = sym (ap bare_expr (sym (expr.rolls-Null at)) ∙ bare_rolls (shape.Null at) ∙ expr.rolls-Null 0)

pub bare_name : (x at : ℕ) → expr.Var x 0 ≡ bare_expr (expr.Var x at)
bare_name x at = sym (ap bare_expr (sym (expr.rolls-Var x at)) ∙ bare_rolls (shape.Var x at) ∙ expr.rolls-Var x 0)

bare_field : (e : Made) (f at : ℕ) → expr.Field (bare_expr e) f 0 ≡ bare_expr (expr.Field e f at)
bare_field e f at = sym (ap bare_expr (sym (expr.rolls-Field e f at)) ∙ bare_rolls (shape.Field e f at) ∙ expr.rolls-Field (bare_expr e) f 0)

bare_deref : (e : Made) (at : ℕ) → expr.Deref (bare_expr e) 0 ≡ bare_expr (expr.Deref e at)
bare_deref e at = sym (ap bare_expr (sym (expr.rolls-Deref e at)) ∙ bare_rolls (shape.Deref e at) ∙ expr.rolls-Deref (bare_expr e) 0)

bare_index : (e i : Made) (at : ℕ) → expr.Index (bare_expr e) (bare_expr i) 0 ≡ bare_expr (expr.Index e i at)
bare_index e i at = sym (ap bare_expr (sym (expr.rolls-Index e i at)) ∙ bare_rolls (shape.Index e i at) ∙ expr.rolls-Index (bare_expr e) (bare_expr i) 0)

bare_unary : (s : Sign) (e : Made) (at : ℕ) → expr.Unary s (bare_expr e) 0 ≡ bare_expr (expr.Unary s e at)
bare_unary s e at = sym (ap bare_expr (sym (expr.rolls-Unary s e at)) ∙ bare_rolls (shape.Unary s e at) ∙ expr.rolls-Unary s (bare_expr e) 0)

bare_binary : (o : Oper) (a b : Made) (at : ℕ) → expr.Binary o (bare_expr a) (bare_expr b) 0 ≡ bare_expr (expr.Binary o a b at)
bare_binary o a b at = sym (ap bare_expr (sym (expr.rolls-Binary o a b at)) ∙ bare_rolls (shape.Binary o a b at) ∙ expr.rolls-Binary o (bare_expr a) (bare_expr b) 0)

abbrev bared : Made-F Made → Made-F Made
bared l = bare_layer (map-Expr Made Made bare_expr l)

bare_opens : (e : Made) → out-Expr (bare_expr e) ≡ bared (out-Expr e)
bare_opens e = ap out-Expr (fold_out-Expr Made (λ l. roll-Expr (bare_layer l)) e) ∙ out-roll-Expr (bared (out-Expr e))

zero_layer : (l : Made-F Made) → is_zero_layer (bared l) ≡ is_zero_layer l
zero_layer (shape.Const n at) = refl
zero_layer (shape.Null at) = refl
zero_layer (shape.Var x at) = refl
zero_layer (shape.Field e f at) = refl
zero_layer (shape.Deref e at) = refl
zero_layer (shape.Index e i at) = refl
zero_layer (shape.Unary s e at) = refl
zero_layer (shape.Binary o a b at) = refl

pub bare_zero : (e : Made) → is_zero (bare_expr e) ≡ is_zero e
bare_zero e = ap is_zero_layer (bare_opens e) ∙ zero_layer (out-Expr e)

place_layer : (l : Made-F Made) → is_place_layer (bared l) ≡ is_place_layer l
place_layer (shape.Const n at) = refl
place_layer (shape.Null at) = refl
place_layer (shape.Var x at) = refl
place_layer (shape.Field e f at) = refl
place_layer (shape.Deref e at) = refl
place_layer (shape.Index e i at) = refl
place_layer (shape.Unary s e at) = refl
place_layer (shape.Binary o a b at) = refl

pub bare_place : (e : Made) → is_place (bare_expr e) ≡ is_place e
bare_place e = ap is_place_layer (bare_opens e) ∙ place_layer (out-Expr e)

variable_layer : (l : Made-F Made) → is_variable_layer (bared l) ≡ is_variable_layer l
variable_layer (shape.Const n at) = refl
variable_layer (shape.Null at) = refl
variable_layer (shape.Var x at) = refl
variable_layer (shape.Field e f at) = refl
variable_layer (shape.Deref e at) = refl
variable_layer (shape.Index e i at) = refl
variable_layer (shape.Unary s e at) = refl
variable_layer (shape.Binary o a b at) = refl

pub bare_is_variable : (e : Made) → is_variable (bare_expr e) ≡ is_variable e
bare_is_variable e = ap is_variable_layer (bare_opens e) ∙ variable_layer (out-Expr e)

zero_case : (b : Bool) (e : Made) (at : ℕ) → (if b then expr.Null 0 else bare_expr e) ≡ bare_expr (if b then expr.Null at else e)
zero_case true e at = bare_null at
zero_case false e at = refl

pointer_case : (e : Made) (l : Made-F Made) → pointer_layer (bare_expr e) (bared l) ≡ bare_expr (pointer_layer e l)
pointer_case e (shape.Const n at) = zero_case (int_eq n (pos 0)) e at
pointer_case e (shape.Null at) = refl
pointer_case e (shape.Var x at) = refl
pointer_case e (shape.Field d f at) = refl
pointer_case e (shape.Deref d at) = refl
pointer_case e (shape.Index d i at) = refl
pointer_case e (shape.Unary s d at) = refl
pointer_case e (shape.Binary o a b at) = refl

pub bare_pointer : (e : Made) → as_pointer (bare_expr e) ≡ bare_expr (as_pointer e)
bare_pointer e = ap (pointer_layer (bare_expr e)) (bare_opens e) ∙ pointer_case e (out-Expr e)

-- values

pub fits_bare : (t : Ty) (v : Value) → fits t (bare_value v) ≡ fits t v
fits_bare t v = ap (λ (z : Bool). same_sort (Of t) v.sort || (is_pointer t && (same_sort AnyPointer v.sort || z))) (bare_zero v.expr)

comparable_bare : (v w : Value) → is_comparable (bare_value v) (bare_value w) ≡ is_comparable v w
comparable_bare v w =
    ap (λ (z : Bool). same_sort v.sort w.sort || (points v.sort && (same_sort AnyPointer w.sort || z)) || ((same_sort AnyPointer v.sort || is_zero (bare_expr v.expr)) && points w.sort)) (bare_zero w.expr)
    ∙ ap (λ (z : Bool). same_sort v.sort w.sort || (points v.sort && (same_sort AnyPointer w.sort || is_zero w.expr)) || ((same_sort AnyPointer v.sort || z) && points w.sort)) (bare_zero v.expr)

beside_case : (b : Bool) (e : Made) → (if b then as_pointer (bare_expr e) else bare_expr e) ≡ bare_expr (if b then as_pointer e else e)
beside_case true e = bare_pointer e
beside_case false e = refl

beside_bare : (v : Value) (s : Sort) → beside (bare_value v) s ≡ bare_expr (beside v s)
beside_bare v s = beside_case (points s) v.expr

-- parts of expressions

typed_bare : (e d : Made) (s : Sort) → d ≡ bare_expr e → typed d s ≡ bare_judged bare_value (typed e s)
typed_bare e d s same = ap (λ z. typed z s) same

-- a rule that holds or is broken
ruled : (b : Bool) (r : Rule) (at : ℕ) (j k : Judged Value) → j ≡ bare_judged bare_value k → (if b then j else breaks r 0) ≡ bare_judged bare_value (if b then k else breaks r at)
ruled true r at j k same = same
ruled false r at j k same = refl

variable_case : (w : Word) (m : Meaning) → variable_as (moved_word none_at w) (bare_meaning m) ≡ bare_judged bare_value (variable_as w m)
variable_case w (meaning.Variable n t) = typed_bare (expr.Var n w.at) (expr.Var n 0) (Of t) (bare_name n w.at)
variable_case w (meaning.Alias s) = refl
variable_case w (meaning.Function f) = refl
variable_case w (meaning.Bad f) = refl

variable_entry : (w : Word) (o : Option Entry) → variable_by (moved_word none_at w) (option_map bare_entry o) ≡ bare_judged bare_value (variable_by w o)
variable_entry w None = refl
variable_entry w (Some e) = variable_case w e.meaning

pub variable_bare : (s : Scope) (w : Word) → variable (bare_scope s) (moved_word none_at w) ≡ bare_judged bare_value (variable s w)
variable_bare s w = ap (variable_by (moved_word none_at w)) (found_rows bare_entry s.names w.text) ∙ variable_entry w (found s.names w.text)

field_case : (e : Made) (w : Word) (at : ℕ) (k : Option ℕ) (t : Option Written) → field_by (bare_expr e) (moved_word none_at w) 0 k (option_map bare_written t) ≡ bare_judged bare_value (field_by e w at k t)
field_case e w at None None = refl
field_case e w at None (Some t) = refl
field_case e w at (Some k) None = refl
field_case e w at (Some k) (Some (Good t)) = typed_bare (expr.Field e k at) (expr.Field (bare_expr e) k 0) (Of t) (bare_field e k at)
field_case e w at (Some k) (Some (Bad f)) = refl

field_body : (e : Made) (w : Word) (at : ℕ) (r : StructRow) (o : Option ℕ) → field_in (bare_expr e) (moved_word none_at w) 0 (bare_row r) (option_map (λ _. 0) o) ≡ bare_judged bare_value (field_in e w at r o)
field_body e w at r None = refl
field_body e w at r (Some body) =
    ap (λ k. field_by (bare_expr e) (moved_word none_at w) 0 k (found (bare_row r).fields w.text)) (place_rows bare_written r.fields w.text)
    ∙ ap (field_by (bare_expr e) (moved_word none_at w) 0 (place_of r.fields w.text)) (found_rows bare_written r.fields w.text)
    ∙ field_case e w at (place_of r.fields w.text) (found r.fields w.text)

field_row : (e : Made) (w : Word) (at : ℕ) (o : Option StructRow) → field_of_row (bare_expr e) (moved_word none_at w) 0 (option_map bare_row o) ≡ bare_judged bare_value (field_of_row e w at o)
field_row e w at None = refl
field_row e w at (Some r) = field_body e w at r r.body

field_sort : (s : Scope) (w : Word) (at : ℕ) (e : Made) (t : Sort) → field_at (bare_scope s) (moved_word none_at w) 0 (bare_expr e) t ≡ bare_judged bare_value (field_at s w at e t)
field_sort s w at e (Of ty.Int) = refl
field_sort s w at e (Of ty.IntPtr) = refl
field_sort s w at e (Of (ty.StructPtr n)) = ap (field_of_row (bare_expr e) (moved_word none_at w) 0) (slice_get-map bare_row s.structs n) ∙ field_row e w at (slice_get s.structs n)
field_sort s w at e AnyPointer = refl

deref_bare : (at : ℕ) (v : Value) → deref 0 (bare_value v) ≡ bare_judged bare_value (deref at v)
deref_bare at v = ruled (points_to_int v.sort) rule.Operands at (of_int (expr.Deref (bare_expr v.expr) 0)) (of_int (expr.Deref v.expr at)) (typed_bare (expr.Deref v.expr at) (expr.Deref (bare_expr v.expr) 0) (Of ty.Int) (bare_deref v.expr at))

index_bare : (at : ℕ) (v i : Value) → index 0 (bare_value v) (bare_value i) ≡ bare_judged bare_value (index at v i)
index_bare at v i =
    let new = of_int (expr.Index (bare_expr v.expr) (bare_expr i.expr) 0) in
    let old = of_int (expr.Index v.expr i.expr at) in
    ruled (points_to_int v.sort) rule.Operands at (if is_int i.sort then new else breaks rule.Operands 0) (if is_int i.sort then old else breaks rule.Operands at)
    (ruled (is_int i.sort) rule.Operands at new old (typed_bare (expr.Index v.expr i.expr at) (expr.Index (bare_expr v.expr) (bare_expr i.expr) 0) (Of ty.Int) (bare_index v.expr i.expr at)))

signed_bare : (g : Sign) (at : ℕ) (v : Value) → signed g 0 (bare_value v) ≡ bare_judged bare_value (signed g at v)
signed_bare sign.Minus at v =
    ruled (is_int v.sort) rule.Operands at (of_int (expr.Unary sign.Minus (bare_expr v.expr) 0)) (of_int (expr.Unary sign.Minus v.expr at))
    (typed_bare (expr.Unary sign.Minus v.expr at) (expr.Unary sign.Minus (bare_expr v.expr) 0) (Of ty.Int) (bare_unary sign.Minus v.expr at))
signed_bare sign.Not at v = typed_bare (expr.Unary sign.Not v.expr at) (expr.Unary sign.Not (bare_expr v.expr) 0) (Of ty.Int) (bare_unary sign.Not v.expr at)

binary_bare : (o : Oper) (a b c d : Made) (at : ℕ) → c ≡ bare_expr a → d ≡ bare_expr b → of_int (expr.Binary o c d 0) ≡ bare_judged bare_value (of_int (expr.Binary o a b at))
binary_bare o a b c d at p q = ap (λ z. of_int (expr.Binary o z d 0)) p ∙ ap (λ z. of_int (expr.Binary o (bare_expr a) z 0)) q ∙ ap (λ z. of_int z) (bare_binary o a b at)

computed_bare : (o : Oper) (at : ℕ) (v w : Value) → computed o 0 (bare_value v) (bare_value w) ≡ bare_judged bare_value (computed o at v w)
computed_bare o at v w =
    let new = of_int (expr.Binary o (bare_expr v.expr) (bare_expr w.expr) 0) in
    let old = of_int (expr.Binary o v.expr w.expr at) in
    ruled (is_int v.sort) rule.Operands at (if is_int w.sort then new else breaks rule.Operands 0) (if is_int w.sort then old else breaks rule.Operands at)
    (ruled (is_int w.sort) rule.Operands at new old (binary_bare o v.expr w.expr (bare_expr v.expr) (bare_expr w.expr) at refl refl))

compared_bare : (o : Oper) (at : ℕ) (v w : Value) → compared o 0 (bare_value v) (bare_value w) ≡ bare_judged bare_value (compared o at v w)
compared_bare o at v w =
    let new = of_int (expr.Binary o (beside (bare_value v) w.sort) (beside (bare_value w) v.sort) 0) in
    let old = of_int (expr.Binary o (beside v w.sort) (beside w v.sort) at) in
    ap (λ (b : Bool). if b then new else breaks rule.Operands 0) (comparable_bare v w)
    ∙ ruled (is_comparable v w) rule.Operands at new old (binary_bare o (beside v w.sort) (beside w v.sort) (beside (bare_value v) w.sort) (beside (bare_value w) v.sort) at (beside_bare v w.sort) (beside_bare w v.sort))

joined_bare : (o : Oper) (at : ℕ) (t : Bool) (v w : Value) → joined o 0 t (bare_value v) (bare_value w) ≡ bare_judged bare_value (joined o at t v w)
joined_bare o at t v w =
    ruled t rule.LooseLogic at (of_int (expr.Binary o (bare_expr v.expr) (bare_expr w.expr) 0)) (of_int (expr.Binary o v.expr w.expr at)) (binary_bare o v.expr w.expr (bare_expr v.expr) (bare_expr w.expr) at refl refl)

combined_bare : (o : Oper) (at : ℕ) (t : Bool) (v w : Value) → combined o 0 t (bare_value v) (bare_value w) ≡ bare_judged bare_value (combined o at t v w)
combined_bare oper.And at t v w = joined_bare oper.And at t v w
combined_bare oper.Or at t v w = joined_bare oper.Or at t v w
combined_bare oper.Eq at t v w = compared_bare oper.Eq at v w
combined_bare oper.Ne at t v w = compared_bare oper.Ne at v w
combined_bare oper.Mul at t v w = computed_bare oper.Mul at v w
combined_bare oper.Div at t v w = computed_bare oper.Div at v w
combined_bare oper.Rem at t v w = computed_bare oper.Rem at v w
combined_bare oper.Add at t v w = computed_bare oper.Add at v w
combined_bare oper.Sub at t v w = computed_bare oper.Sub at v w
combined_bare oper.Lt at t v w = computed_bare oper.Lt at v w
combined_bare oper.Le at t v w = computed_bare oper.Le at v w
combined_bare oper.Gt at t v w = computed_bare oper.Gt at v w
combined_bare oper.Ge at t v w = computed_bare oper.Ge at v w

one_case : {A B : Type 0} (h : A → A) (g : B → B) (new old : A → Judged B) → ((a : A) → new (h a) ≡ bare_judged g (old a)) → (j : Judged A) → of_one new (bare_judged h j) ≡ bare_judged g (of_one old j)
one_case h g new old e (Typed a) = e a
one_case h g new old e (Broken fs) = refl

pub one_bare : {A B : Type 0} (h : A → A) (g : B → B) (new old : A → Judged B) → ((a : A) → new (h a) ≡ bare_judged g (old a)) → (k j : Judged A) → k ≡ bare_judged h j → of_one new k ≡ bare_judged g (of_one old j)
one_bare h g new old e k j is = ap (of_one new) is ∙ one_case h g new old e j

two_case : {A B C : Type 0} (h : A → A) (i : B → B) (g : C → C) (new old : A → B → Judged C) → ((a : A) (b : B) → new (h a) (i b) ≡ bare_judged g (old a b)) → (j : Judged A) (k : Judged B) → of_two new (bare_judged h j) (bare_judged i k) ≡ bare_judged g (of_two old j k)
two_case h i g new old e (Typed a) (Typed b) = e a b
two_case h i g new old e (Typed a) (Broken gs) = refl
two_case h i g new old e (Broken fs) (Typed b) = refl
two_case h i g new old e (Broken fs) (Broken gs) = ap (λ (xs : List Fault). Broken xs) (sym (map-append bare_fault fs gs))

pub two_bare : {A B C : Type 0} (h : A → A) (i : B → B) (g : C → C) (new old : A → B → Judged C) → ((a : A) (b : B) → new (h a) (i b) ≡ bare_judged g (old a b)) → (l j : Judged A) (m k : Judged B) → l ≡ bare_judged h j → m ≡ bare_judged i k → of_two new l m ≡ bare_judged g (of_two old j k)
two_bare h i g new old e l j m k p q = ap (λ x. of_two new x m) p ∙ ap (of_two new (bare_judged h j)) q ∙ two_case h i g new old e j k

-- expressions

module _ (s : Scope) where
  abbrev pub IsJudged : Expr → Type 0
  IsJudged e = (t : Bool) → judged (bare_scope s) (moved_expr none_at e) t ≡ bare_judged bare_value (judged s e t)

  abbrev plain : Expr-F ((e : Expr) × IsJudged e) → Expr-F Expr
  plain = map-Tree ((e : Expr) × IsJudged e) Expr (λ e. e.0)

  abbrev new_parts : Expr-F Expr → Expr-F (Bool → Judged Value)
  new_parts x = map-Tree Expr (Bool → Judged Value) (judged (bare_scope s)) (moved_layer none_at (map-Tree Expr Expr (moved_expr none_at) x))

  abbrev old_parts : Expr-F Expr → Expr-F (Bool → Judged Value)
  old_parts = map-Tree Expr (Bool → Judged Value) (judged s)

  layer_judged : (y : Expr-F ((e : Expr) × IsJudged e)) (t : Bool) → judged_layer (bare_scope s) (new_parts (plain y)) t ≡ bare_judged bare_value (judged_layer s (old_parts (plain y)) t)
  layer_judged (Const n at) t = typed_bare (expr.Const n at) (expr.Const n 0) (Of ty.Int) (bare_const n at)
  layer_judged (Null at) t = typed_bare (expr.Null at) (expr.Null 0) AnyPointer (bare_null at)
  layer_judged (Var w) t = variable_bare s w
  layer_judged (Field e w at) t =
      one_bare bare_value bare_value (field (bare_scope s) (moved_word none_at w) 0) (field s w at) (λ v. field_sort s w at v.expr v.sort) (judged (bare_scope s) (moved_expr none_at e.0) false) (judged s e.0 false) (e.1 false)
  layer_judged (Deref e at) t = one_bare bare_value bare_value (deref 0) (deref at) (deref_bare at) (judged (bare_scope s) (moved_expr none_at e.0) false) (judged s e.0 false) (e.1 false)
  layer_judged (Index e i at) t =
      two_bare bare_value bare_value bare_value (index 0) (index at) (index_bare at) (judged (bare_scope s) (moved_expr none_at e.0) false) (judged s e.0 false)
      (judged (bare_scope s) (moved_expr none_at i.0) false) (judged s i.0 false) (e.1 false) (i.1 false)
  layer_judged (Unary g e at) t =
      one_bare bare_value bare_value (signed g 0) (signed g at) (signed_bare g at) (judged (bare_scope s) (moved_expr none_at e.0) (under_sign g t)) (judged s e.0 (under_sign g t)) (e.1 (under_sign g t))
  layer_judged (Binary o a b at) t =
      two_bare bare_value bare_value bare_value (combined o 0 t) (combined o at t) (combined_bare o at t) (judged (bare_scope s) (moved_expr none_at a.0) (under_oper o t)) (judged s a.0 (under_oper o t))
      (judged (bare_scope s) (moved_expr none_at b.0) (under_oper o t)) (judged s b.0 (under_oper o t)) (a.1 (under_oper o t)) (b.1 (under_oper o t))

  step : (x : Expr-F Expr) (y : Expr-F ((e : Expr) × IsJudged e)) → plain y ≡ x → IsJudged (roll-Tree x)
  step x y is t =
      let held = subst (λ (z : Expr-F Expr). judged_layer (bare_scope s) (new_parts z) t ≡ bare_judged bare_value (judged_layer s (old_parts z) t)) is (layer_judged y t) in
      ap (λ (e : Expr). judged (bare_scope s) e t) (fold-roll-Tree Expr (λ l. roll-Tree (moved_layer none_at l)) x)
      ∙ ap (λ (f : Bool → Judged Value). f t) (fold-roll-Tree (Bool → Judged Value) (judged_layer (bare_scope s)) (moved_layer none_at (map-Tree Expr Expr (moved_expr none_at) x)))
      ∙ held
      ∙ sym (ap (λ (f : Bool → Judged Value). bare_judged bare_value (f t)) (fold-roll-Tree (Bool → Judged Value) (judged_layer s) x))

  -- an expression without its offsets
  pub judged_bare : (e : Expr) (t : Bool) → judged (bare_scope s) (moved_expr none_at e) t ≡ bare_judged bare_value (judged s e t)
  judged_bare = ind-Expr IsJudged step
