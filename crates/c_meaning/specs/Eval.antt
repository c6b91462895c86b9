-- The values of expressions (C99 6.5), over the slots of the variables and the objects.
use Rattle.std.specs.Prelude.{ℕ, ◌==◌, nat_lt, Bool, true, false, not, ℤ, pos, negsuc, ◌+ℤ◌, ◌-ℤ◌, ◌*ℤ◌, neg_ℤ, int_lt, int_le, int_div, int_rem, List, [], ◌∷◌, length, slice_get, unwrap_or, option_map, Option, None, Result, Ok, Err, if◌then◌else◌}
use Rattle.std.specs.Ordering.{int_eq}
use Rattle.c_tree.specs.declared.expr.Expr.{Expr, Expr-F, out-Expr, fold-Expr}
use Rattle.c_tree.specs.declared.expr.Expr.TheOpen.{Const, Null, Var, Field, Deref, Index, Unary, Binary}
use Rattle.c_tree.specs.declared.expr.Sign.{Sign}
use Rattle.c_tree.specs.declared.expr.Sign.TheVariants as sign
use Rattle.c_tree.specs.declared.expr.Oper.{Oper}
use Rattle.c_tree.specs.declared.expr.Oper.TheVariants as oper
pub use Rattle.c_tree.specs.Typing.{fits}
use Rattle.c_meaning.specs.declared.value.Value.{Value}
use Rattle.c_meaning.specs.declared.value.Value.TheVariants as value
use Rattle.c_meaning.specs.declared.machine.Object.{Object}
use Rattle.c_meaning.specs.declared.machine.Location.{Location}
use Rattle.c_meaning.specs.declared.machine.Location.TheVariants.{Slot, Cell}
use Rattle.c_meaning.specs.declared.machine.Kind.{Kind}
use Rattle.c_meaning.specs.declared.machine.Kind.TheVariants.{NullDeref, Bounds, Uninit, UseAfterFree, Overflow, DivZero}
use Rattle.c_meaning.specs.declared.machine.Stop.{Stop}
use Rattle.c_meaning.specs.declared.machine.Stop.TheVariants.{Faulted, Excluded}

-- a fault in place of a value
abbrev pub flaw : {A : Type 0} → Kind → ℕ → Result A Stop
flaw kind offset = Err (Faulted kind offset)

-- what no well-formed program comes to: the grammar or the types exclude it
abbrev pub excluded : {A : Type 0} → Result A Stop
excluded = Err Excluded

-- what is evaluated first, and then; the first fault counts
infixl 10 ◌>>=◌
abbrev pub ◌>>=◌ : {A B : Type 0} → Result A Stop → (A → Result B Stop) → Result B Stop
(Ok x) >>= f = f x
(Err e) >>= f = Err e

-- contents; every number of a variable or an object in a run exists, so the last arguments are never taken

-- the content of a slot
abbrev pub slot_of : List Value → ℕ → Value
slot_of slots x = unwrap_or (slice_get slots x) value.Undef

-- the cells of an object
abbrev pub cells_of : List Object → ℕ → List Value
cells_of objects o = unwrap_or (option_map (λ b. b.cells) (slice_get objects o)) []

-- whether an object is freed
abbrev pub is_freed : List Object → ℕ → Bool
is_freed objects o = unwrap_or (option_map (λ b. b.freed) (slice_get objects o)) false

-- what a location holds, whatever the state of the object that it points to
abbrev pub content_of : List Value → List Object → Location → Value
content_of slots objects (Slot x) = slot_of slots x
content_of slots objects (Cell o k) = unwrap_or (slice_get (cells_of objects o) k) value.Undef

-- what a variable, or a field of the object that a variable holds, contains
abbrev pub peek : List Value → ℕ → Value
peek slots x = slot_of slots x

-- the content of a field of the object that a value points to
abbrev pub field_of : List Object → ℕ → Value → Option Value
field_of objects f (value.Ptr o) = slice_get (cells_of objects o) f
field_of objects f value.Undef = None
field_of objects f (value.Int n) = None
field_of objects f value.Null = None

-- the content of a field of the object that a variable holds, or nothing where it holds none
abbrev pub peek_field : List Value → List Object → ℕ → ℕ → Option Value
peek_field slots objects x f = field_of objects f (peek slots x)

-- reads

-- reading a pointer to a freed object is undefined, even without following it (6.2.4, J.2)
abbrev pub unless_freed : ℕ → ℕ → Bool → Result Value Stop
unless_freed offset o true = flaw UseAfterFree offset
unless_freed offset o false = Ok (value.Ptr o)

-- the read of a content, by the variable or operator at that offset (6.2.4, 6.7.8p10)
abbrev pub read : List Object → ℕ → Value → Result Value Stop
read objects offset value.Undef = flaw Uninit offset
read objects offset (value.Int n) = Ok (value.Int n)
read objects offset value.Null = Ok value.Null
read objects offset (value.Ptr o) = unless_freed offset o (is_freed objects o)

-- the value at a location, read by the variable or operator at that offset
abbrev pub value_at : List Value → List Object → ℕ → Location → Result Value Stop
value_at slots objects offset l = read objects offset (content_of slots objects l)

-- a value as a number; the types exclude another
abbrev pub int_of : Value → Result ℤ Stop
int_of (value.Int n) = Ok n
int_of value.Undef = excluded
int_of value.Null = excluded
int_of (value.Ptr o) = excluded

-- locations in objects

-- a cell by its index, among that many
abbrev pub cell_within : ℕ → ℕ → ℤ → ℕ → Result Location Stop
cell_within offset o (pos k) count = if nat_lt k count then Ok (Cell o k) else flaw Bounds offset
cell_within offset o (negsuc k) count = flaw Bounds offset

-- `*` and `[`: the cell of that index of the object that a value points to (6.5.2.1, 6.5.3.2)
abbrev pub cell_of : List Object → ℕ → ℤ → Value → Result Location Stop
cell_of objects offset i value.Null = flaw NullDeref offset
cell_of objects offset i (value.Ptr o) = cell_within offset o i (length (cells_of objects o))
cell_of objects offset i (value.Int n) = excluded
cell_of objects offset i value.Undef = excluded

-- a field by its number, among that many
abbrev pub field_within : ℕ → ℕ → ℕ → Result Location Stop
field_within o f count = if nat_lt f count then Ok (Cell o f) else excluded

-- `->`: the cell of a field; the types exclude an object without it (6.5.2.3)
abbrev pub field_cell : List Object → ℕ → ℕ → Value → Result Location Stop
field_cell objects offset f value.Null = flaw NullDeref offset
field_cell objects offset f (value.Ptr o) = field_within o f (length (cells_of objects o))
field_cell objects offset f (value.Int n) = excluded
field_cell objects offset f value.Undef = excluded

-- operators

-- a result that is not representable is undefined (6.5p5)
abbrev pub fitted : ℕ → ℤ → Result Value Stop
fitted offset n = if fits n then Ok (value.Int n) else flaw Overflow offset

-- comparisons and `!` say 1 or 0 (6.5.8p6, 6.5.9p3, 6.5.3.3p5)
abbrev pub said : Bool → Value
said true = value.Int (pos 1)
said false = value.Int (pos 0)

-- whether a number is 0
abbrev pub is_zero : ℤ → Bool
is_zero n = int_eq n (pos 0)

-- the quotient is rounded toward zero, and a remainder is undefined where the quotient is (6.5.5p5, p6)
abbrev pub divided : ℕ → ℤ → ℤ → Result Value Stop
divided offset a b = if is_zero b then flaw DivZero offset else fitted offset (int_div a b)

-- the remainder that goes with the quotient
abbrev pub remainder : ℕ → ℤ → ℤ → Result Value Stop
remainder offset a b = divided offset a b >>= λ q. Ok (value.Int (int_rem a b))

-- operators on two numbers (6.5.5, 6.5.6, 6.5.8); && and || stand in conditions alone
abbrev pub arithmetic : Oper → ℕ → ℤ → ℤ → Result Value Stop
arithmetic oper.Mul offset a b = fitted offset (a *ℤ b)
arithmetic oper.Div offset a b = divided offset a b
arithmetic oper.Rem offset a b = remainder offset a b
arithmetic oper.Add offset a b = fitted offset (a +ℤ b)
arithmetic oper.Sub offset a b = fitted offset (a -ℤ b)
arithmetic oper.Lt offset a b = Ok (said (int_lt a b))
arithmetic oper.Le offset a b = Ok (said (int_le a b))
arithmetic oper.Gt offset a b = Ok (said (int_lt b a))
arithmetic oper.Ge offset a b = Ok (said (int_le b a))
arithmetic oper.Eq offset a b = Ok (said (int_eq a b))
arithmetic oper.Ne offset a b = Ok (said (not (int_eq a b)))
arithmetic oper.And offset a b = excluded
arithmetic oper.Or offset a b = excluded

-- pointers are compared for equality alone (6.5.9)
abbrev pub compared : Oper → Bool → Result Value Stop
compared oper.Eq equal = Ok (said equal)
compared oper.Ne equal = Ok (said (not equal))
compared _ equal = excluded

-- operators on two numbers, on two pointers, or on a pointer and a null pointer
abbrev pub binary : Oper → ℕ → Value → Value → Result Value Stop
binary o offset (value.Int a) (value.Int b) = arithmetic o offset a b
binary o offset (value.Ptr a) (value.Ptr b) = compared o (a == b)
binary o offset (value.Ptr a) value.Null = compared o false
binary o offset value.Null (value.Ptr b) = compared o false
binary o offset value.Null value.Null = compared o true
binary o offset _ _ = excluded

-- whether a value compares unequal to 0 (6.5.3.3p5, 6.8.4.1p2)
abbrev pub truth : Value → Result Bool Stop
truth (value.Int n) = Ok (not (is_zero n))
truth value.Null = Ok false
truth (value.Ptr o) = Ok true
truth value.Undef = excluded

-- `-` and `!` (6.5.3.3)
abbrev pub signed : Sign → ℕ → Value → Result Value Stop
signed sign.Minus offset v = int_of v >>= λ n. fitted offset (neg_ℤ n)
signed sign.Not offset v = truth v >>= λ b. Ok (said (not b))

-- expressions

-- the value of an expression from the values of its operands, which come in the order of the text
abbrev pub eval_layer : List Value → List Object → Expr-F (Result Value Stop) → Result Value Stop
eval_layer slots objects (Const n offset) = Ok (value.Int n)
eval_layer slots objects (Null offset) = Ok value.Null
eval_layer slots objects (Var x offset) = value_at slots objects offset (Slot x)
eval_layer slots objects (Field e f offset) = e >>= field_cell objects offset f >>= value_at slots objects offset
eval_layer slots objects (Deref e offset) = e >>= cell_of objects offset (pos 0) >>= value_at slots objects offset
eval_layer slots objects (Index e i offset) = e >>= λ v. i >>= int_of >>= λ k. cell_of objects offset k v >>= value_at slots objects offset
eval_layer slots objects (Unary s e offset) = e >>= signed s offset
eval_layer slots objects (Binary o a b offset) = a >>= λ v. b >>= binary o offset v

-- the value of an expression
abbrev pub eval : List Value → List Object → Expr → Result Value Stop
eval slots objects = fold-Expr (Result Value Stop) (eval_layer slots objects)

-- the values of several expressions, in the order of the text
abbrev pub eval_all : List Value → List Object → List Expr → Result (List Value) Stop
eval_all slots objects [] = Ok []
eval_all slots objects (e ∷ es) = eval slots objects e >>= λ v. eval_all slots objects es >>= λ vs. Ok (v ∷ vs)

-- the location that an expression names; a variable's own slot is not read (6.3.2.1). The types exclude
-- that an expression without a location stands where one is wanted
abbrev pub place_layer : List Value → List Object → Expr-F Expr → Result Location Stop
place_layer slots objects (Var x offset) = Ok (Slot x)
place_layer slots objects (Field e f offset) = eval slots objects e >>= field_cell objects offset f
place_layer slots objects (Deref e offset) = eval slots objects e >>= cell_of objects offset (pos 0)
place_layer slots objects (Index e i offset) = eval slots objects e >>= λ v. eval slots objects i >>= int_of >>= λ k. cell_of objects offset k v
place_layer slots objects (Const n offset) = excluded
place_layer slots objects (Null offset) = excluded
place_layer slots objects (Unary s e offset) = excluded
place_layer slots objects (Binary o a b offset) = excluded

-- the location that an expression names
abbrev pub place_of : List Value → List Object → Expr → Result Location Stop
place_of slots objects e = place_layer slots objects (out-Expr e)

-- the offset of an expression: of its constant, its variable or its operator
abbrev pub offset_layer : Expr-F Expr → ℕ
offset_layer (Const n offset) = offset
offset_layer (Null offset) = offset
offset_layer (Var x offset) = offset
offset_layer (Field e f offset) = offset
offset_layer (Deref e offset) = offset
offset_layer (Index e i offset) = offset
offset_layer (Unary s e offset) = offset
offset_layer (Binary o a b offset) = offset

-- the offset by which an expression is named in a fault
abbrev pub offset_of : Expr → ℕ
offset_of e = offset_layer (out-Expr e)
