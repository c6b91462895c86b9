-- Structs with their tags, fields and typedef names, and the variables of the file (C99 6.7.2.1, 6.7.7, 6.7.8).
use Rattle.std.specs.Prelude.{ℕ, ℤ, pos, neg_ℤ, ◌^◌, Bool, false, nat_lt, List, [], ◌∷◌, ◌++◌, length, slice_get, slice_set, is_none, Option, None, Some, if◌then◌else◌}
use Rattle.std.specs.List.{fold}
use Rattle.std.specs.Ordering.{int_eq}
use Rattle.c_tree.specs.declared.expr.Sign.{Sign}
use Rattle.c_tree.specs.declared.expr.Sign.TheVariants as sign
use Rattle.c_tree.specs.declared.program.Home.TheVariants as home
use Rattle.c_tree.specs.declared.tree.Body.{Body}
use Rattle.c_tree.specs.declared.tree.Expr.{Expr, Expr-F, fold-Expr}
use Rattle.c_tree.specs.declared.tree.Expr.TheOpen.{Const, Null, Var, Field, Deref, Index, Unary, Binary}
use Rattle.c_tree.specs.declared.tree.GlobalDecl.{GlobalDecl}
use Rattle.c_tree.specs.declared.tree.Spec.{Spec}
use Rattle.c_tree.specs.declared.tree.Word.{Word}
use Rattle.c_types.specs.declared.faults.Fault.{Fault}
use Rattle.c_types.specs.declared.faults.Rule.TheVariants as rule
use Rattle.c_types.specs.declared.judged.Judged.{Judged}
use Rattle.c_types.specs.declared.judged.Judged.TheVariants.{Typed, Broken}
use Rattle.c_types.specs.declared.judged.Value.{Value}
use Rattle.c_types.specs.declared.scope.Meaning.TheVariants as meaning
use Rattle.c_types.specs.declared.scope.Scope.{Scope}
use Rattle.c_types.specs.declared.scope.StructRow.{StructRow}
use Rattle.c_types.specs.declared.scope.Walk.{Walk}
use Rattle.c_types.specs.declared.scope.Written.{Written}
use Rattle.c_types.specs.declared.scope.Written.TheVariants.{Good, Bad}
use Rattle.c_types.specs.Expressions.{judged}
use Rattle.c_types.specs.Fits.{fault, unless, fits}
use Rattle.c_types.specs.Scopes.{tagged, untagged, in_scope, with_scope, spec_type, type_faults, noted, named, declared}
use Rattle.c_types.specs.Tables.{found}

-- fields

abbrev pub Fields : Type 0
Fields = List (List ℕ × Written)

-- Twice: a field declared again in its struct; fields are numbered within it
abbrev pub field_more : Word → Written → Fields → Option Written → Walk → Walk × Fields
field_more n t rows None w = (w, rows ++ (n.text, t) ∷ [])
field_more n t rows (Some older) w = (noted (fault rule.Twice n.at ∷ []) w, rows)

abbrev pub field_named : Spec → Written → Fields → Option Word → Walk → Walk × Fields
field_named d t rows None w = (noted (fault rule.Nameless d.at ∷ []) w, rows)
field_named d t rows (Some n) w = field_more n t rows (found rows n.text) w

abbrev pub field_typed : Spec → Fields → Walk × Written → Walk × Fields
field_typed d rows r = field_named d r.1 rows d.name (noted (type_faults r.1) r.0)

abbrev pub walked_field : Spec → Fields → Walk → Walk × Fields
walked_field d rows w = field_typed d rows (in_scope (spec_type d) w)

abbrev pub field_turn : Walk × Fields → Spec → Walk × Fields
field_turn r d = walked_field d r.1 r.0

abbrev pub walked_fields : List Spec → Walk → Walk × Fields
walked_fields ds w = fold field_turn (w, []) ds

-- bodies

abbrev pub with_row : ℕ → StructRow → Walk → Walk
with_row n row w =
    if nat_lt n (length w.scope.structs) then with_scope w (record w.scope { structs = slice_set w.scope.structs n row }) else w

-- the fields of a struct are known from the end of its body on
abbrev pub with_body : ℕ → ℕ → Walk × Fields → Walk
with_body n at r = with_row n (record { fields = r.1; body = Some at }) r.0

-- Twice: a tag with body declared again
abbrev pub row_again : Option StructRow → Option Word → List Fault
row_again None tag = []
row_again (Some row) None = []
row_again (Some row) (Some tag) = unless (is_none row.body) rule.Twice tag.at

abbrev pub walked_body : Option Word → ℕ → Body → Walk → Walk
walked_body tag n b w =
    with_body n b.at (walked_fields b.fields (noted (row_again (slice_get w.scope.structs n) tag) w))

abbrev pub body_if : Option Word → ℕ → Option Body → Walk → Walk
body_if tag n None w = w
body_if tag n (Some b) w = walked_body tag n b w

-- a typedef name stands for its struct
abbrev pub alias_if : ℕ → Option Word → Walk → Walk
alias_if n None w = w
alias_if n (Some a) w = named a (record { meaning = meaning.Alias n; depth = 0 }) w

-- a struct is numbered by its tag, or by its body where it has no tag
abbrev pub numbered : Option Word → Scope → Scope × ℕ
numbered None s = untagged s
numbered (Some tag) s = tagged tag s

abbrev pub struct_behind : Option Word → Option Body → Option Word → Walk × ℕ → Walk
struct_behind tag body alias r = alias_if r.1 alias (body_if tag r.1 body r.0)

abbrev pub walked_struct : Option Word → Option Body → Option Word → Walk → Walk
walked_struct tag body alias w = struct_behind tag body alias (in_scope (numbered tag) w)

-- the variables of the file

-- the least `int` has no opposite
abbrev pub opposite : ℤ → Option ℤ
opposite n = if int_eq n (neg_ℤ (pos (2 ^ 31))) then None else Some (neg_ℤ n)

abbrev pub opposite_of : Option ℤ → Option ℤ
opposite_of None = None
opposite_of (Some n) = opposite n

abbrev pub constant_layer : Expr-F (Option ℤ) → Option ℤ
constant_layer (Const n at) = Some n
constant_layer (Null at) = Some (pos 0)
constant_layer (Unary sign.Minus e at) = opposite_of e
constant_layer _ = None

-- the number of a constant, 0 for a null pointer
abbrev pub constant : Expr → Option ℤ
constant = fold-Expr (Option ℤ) constant_layer

abbrev pub number_or_zero : Option ℤ → ℤ
number_or_zero None = pos 0
number_or_zero (Some n) = n

-- a variable of the file is 0 or null where it has no initialiser (6.7.8)
abbrev pub start_number : Option Expr → ℤ
start_number None = pos 0
start_number (Some e) = number_or_zero (constant e)

-- Wrong 3: an initialiser of another type, or one that is no constant
abbrev pub start_faults : Written → ℕ → Option ℤ → Judged Value → List Fault
start_faults t at c (Broken fs) = fs
start_faults (Bad f) at c (Typed v) = []
start_faults (Good t) at None (Typed v) = fault rule.TypesDiffer at ∷ []
start_faults (Good t) at (Some n) (Typed v) = unless (fits t v) rule.TypesDiffer at

abbrev pub start_noted : ℕ → Option Expr → Walk × Written → Walk
start_noted at None r = r.0
start_noted at (Some e) r = noted (start_faults r.1 at (constant e) (judged r.0.scope e false)) r.0

abbrev pub walked_global : GlobalDecl → Walk → Walk
walked_global d w = start_noted d.at d.value (declared d.spec (home.Global (start_number d.value)) 0 w)

abbrev pub walked_globals : Walk → List GlobalDecl → Walk
walked_globals w ds = fold (λ v d. walked_global d v) w ds
