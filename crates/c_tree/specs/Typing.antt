-- The types of expressions, calls and statements of a program (C99 6.5 to 6.8), as its declarations give them.
use Rattle.std.specs.Prelude.{ℕ, suc, ◌^◌, ◌==◌, nat_lt, Bool, true, false, not, ◌&&◌, ℤ, pos, negsuc, List, [], ◌∷◌, length, map, slice_get, option_map, Option, Some, None, if◌then◌else◌}
use Rattle.std.specs.List.{list_all}
use Rattle.std.specs.Option.{option_and_then, is_some}
use Rattle.c_tree.specs.AlikeTest.{same_ty}
use Rattle.c_tree.specs.declared.expr.Expr.{Expr, Expr-F, out-Expr, fold-Expr}
use Rattle.c_tree.specs.declared.expr.Expr.TheOpen.{Const, Null, Var, Field, Deref, Index, Unary, Binary}
use Rattle.c_tree.specs.declared.expr.Op.{Op}
use Rattle.c_tree.specs.declared.expr.Op.TheVariants as op
use Rattle.c_tree.specs.declared.expr.Oper.{Oper}
use Rattle.c_tree.specs.declared.expr.Oper.TheVariants as oper
use Rattle.c_tree.specs.declared.expr.Sign.{Sign}
use Rattle.c_tree.specs.declared.expr.Sign.TheVariants as sign
use Rattle.c_tree.specs.declared.program.Arm.{Arm-F}
use Rattle.c_tree.specs.declared.program.Block.{Block, Block-F, fold-Block}
use Rattle.c_tree.specs.declared.program.Call.{Call}
use Rattle.c_tree.specs.declared.program.Call.TheVariants as call
use Rattle.c_tree.specs.declared.program.Declr.{Declr}
use Rattle.c_tree.specs.declared.program.FieldDef.{FieldDef}
use Rattle.c_tree.specs.declared.program.ForHead.{ForHead}
use Rattle.c_tree.specs.declared.program.Free.{Free}
use Rattle.c_tree.specs.declared.program.FunDef.{FunDef}
use Rattle.c_tree.specs.declared.program.Gap.{Gap}
use Rattle.c_tree.specs.declared.program.Item.{Item-F}
use Rattle.c_tree.specs.declared.program.Item.TheOpen.{Declare, Assign, Do, Nest, If, While, For, Break, Continue, Return}
use Rattle.c_tree.specs.declared.program.Piece.{Piece-F}
use Rattle.c_tree.specs.declared.program.Program.{Program}
use Rattle.c_tree.specs.declared.program.Right.{Right}
use Rattle.c_tree.specs.declared.program.Right.TheVariants as right
use Rattle.c_tree.specs.declared.program.Simple.{Simple}
use Rattle.c_tree.specs.declared.program.Size.{Size}
use Rattle.c_tree.specs.declared.program.Size.TheVariants as size
use Rattle.c_tree.specs.declared.program.Start.{Start}
use Rattle.c_tree.specs.declared.program.Start.TheVariants as start
use Rattle.c_tree.specs.declared.program.StructDef.{StructDef}
use Rattle.c_tree.specs.declared.program.Ty.{Ty}
use Rattle.c_tree.specs.declared.program.Ty.TheVariants as ty
use Rattle.c_tree.specs.declared.program.VarDef.{VarDef}

-- declarations

-- what a call of a function has to know of it (6.2.1p2)
pub record Prototype : Type 0 where
  pub result : Option Ty
  pub params : List ℕ

-- all that a program declares, the bodies of functions aside; `known` says whether a struct's body, by where it
-- stands, is known at an offset
pub record Declarations : Type 0 where
  pub structs : List StructDef
  pub known : (at : ℕ) → (body : Option ℕ) → Bool
  pub vars : List VarDef
  pub funs : List Prototype
  pub main : ℕ

-- what a definition declares
abbrev pub prototype : FunDef → Prototype
prototype d = record { result = d.result; params = d.params }

-- there is one, and it passes the test
abbrev pub has : {A : Type 0} → (A → Bool) → Option A → Bool
has test None = false
has test (Some x) = test x

-- if there is one, it passes the test
abbrev pub if_any : {A : Type 0} → (A → Bool) → Option A → Bool
if_any test None = true
if_any test (Some x) = test x

-- a struct's body is known behind it (6.2.3, 6.7.2.3p3)
abbrev pub is_behind : ℕ → Option ℕ → Bool
is_behind at body = has (λ b. nat_lt b at) body

-- what a program declares
abbrev pub declarations : Program → Declarations
declarations p = record { structs = p.structs; known = is_behind; vars = p.vars; funs = map prototype p.funs; main = p.main }

-- the same, where every body is known from the beginning
abbrev pub anywhere : Declarations → Declarations
anywhere d = record d { known = λ at body. is_some body }

-- the type of a variable
abbrev pub var_type : Declarations → ℕ → Option Ty
var_type d x = option_map (λ v. v.ty) (slice_get d.vars x)

-- the fields of a struct, if its body is known
abbrev pub fields_if : Bool → StructDef → Option (List FieldDef)
fields_if known s = if known then Some s.fields else None

-- the fields of the struct of that number, if its body is known at an offset
abbrev pub fields_of : Declarations → ℕ → ℕ → Option (List FieldDef)
fields_of d at s = option_and_then (λ c. fields_if (d.known at c.body) c) (slice_get d.structs s)

-- the type of field f of the struct of that number, at an offset
abbrev pub field_type : Declarations → ℕ → ℕ → ℕ → Option Ty
field_type d at f s = option_map (λ (c : FieldDef). c.ty) (option_and_then (λ fields. slice_get fields f) (fields_of d at s))

-- expressions

-- the range of an int of 32 bits
abbrev pub fits : ℤ → Bool
fits (pos n) = nat_lt n (2 ^ 31)
fits (negsuc n) = nat_lt n (2 ^ 31)

-- the type of an expression; a null pointer has that of every pointer (6.3.2.3p3)
pub data Sort : Type 0 where
  Of : (t : Ty) → Sort
  AnyPointer : Sort

-- whether a value is a pointer
abbrev pub points : Sort → Bool
points (Of ty.Int) = false
points (Of ty.IntPtr) = true
points (Of (ty.StructPtr s)) = true
points AnyPointer = true

-- whether it is an int
abbrev pub is_int : Sort → Bool
is_int g = not (points g)

-- what goes into a place of a type: that type, and a null pointer into any pointer (6.5.16.1)
abbrev pub goes_into : Ty → Sort → Bool
goes_into t (Of u) = same_ty t u
goes_into t AnyPointer = points (Of t)

-- `==` and `!=` take two numbers, two pointers of one type, or a pointer and a null pointer (6.5.9p2)
abbrev pub are_comparable : Sort → Sort → Bool
are_comparable (Of t) g = goes_into t g
are_comparable AnyPointer g = points g

-- an `int *` is followed to a number (6.5.3.2p2)
abbrev pub pointee : Sort → Option Sort
pointee (Of ty.Int) = None
pointee (Of ty.IntPtr) = Some (Of ty.Int)
pointee (Of (ty.StructPtr s)) = None
pointee AnyPointer = None

-- a pointer to a struct is followed to a field (6.5.2.3p2)
abbrev pub member : Declarations → ℕ → ℕ → Sort → Option Sort
member d at f (Of ty.Int) = None
member d at f (Of ty.IntPtr) = None
member d at f (Of (ty.StructPtr s)) = option_map Of (field_type d at f s)
member d at f AnyPointer = None

-- an expression as a value, and as a condition, where `&&` and `||` may stand
pub record Judged : Type 0 where
  pub value : Option Sort
  pub condition : Bool

-- every value is a condition (6.8.4.1p1)
abbrev pub valued : Option Sort → Judged
valued g = record { value = g; condition = is_some g }

-- a number, if the operands are right
abbrev pub int_if : Bool → Judged
int_if right = valued (if right then Some (Of ty.Int) else None)

-- both operands have a value, and these pass the test
abbrev pub have : (Sort → Sort → Bool) → Judged → Judged → Bool
have test a b = has (λ g. has (test g) b.value) a.value

-- `-` and `!` (6.5.3.3p1); the operand of a `!` that is a condition is one too
abbrev pub signed : Sign → Judged → Judged
signed sign.Minus a = int_if (has is_int a.value)
signed sign.Not a = record { value = option_map (λ g. Of ty.Int) a.value; condition = a.condition }

-- arithmetic and order take numbers (6.5.5p2, 6.5.6p2, 6.5.8p2)
abbrev pub on_numbers : Judged → Judged → Judged
on_numbers a b = int_if (have (λ g h. is_int g && is_int h) a b)

-- a comparison for equality (6.5.9p2)
abbrev pub on_comparable : Judged → Judged → Judged
on_comparable a b = int_if (have are_comparable a b)

-- `&&` and `||` stand in conditions alone, and so do their operands
abbrev pub on_conditions : Judged → Judged → Judged
on_conditions a b = record { value = None; condition = a.condition && b.condition }

-- an operator on two operands
abbrev pub combined : Oper → Judged → Judged → Judged
combined oper.Mul a b = on_numbers a b
combined oper.Div a b = on_numbers a b
combined oper.Rem a b = on_numbers a b
combined oper.Add a b = on_numbers a b
combined oper.Sub a b = on_numbers a b
combined oper.Lt a b = on_numbers a b
combined oper.Le a b = on_numbers a b
combined oper.Gt a b = on_numbers a b
combined oper.Ge a b = on_numbers a b
combined oper.Eq a b = on_comparable a b
combined oper.Ne a b = on_comparable a b
combined oper.And a b = on_conditions a b
combined oper.Or a b = on_conditions a b

-- an element of what an `int *` points to (6.5.2.1p1)
abbrev pub element : Judged → Judged → Option Sort
element a i = if has is_int i.value then option_and_then pointee a.value else None

-- an expression from its operands
abbrev pub judged_layer : Declarations → Expr-F Judged → Judged
judged_layer d (Const n at) = int_if (fits n)
judged_layer d (Null at) = valued (Some AnyPointer)
judged_layer d (Var x at) = valued (option_map Of (var_type d x))
judged_layer d (Field e f at) = valued (option_and_then (member d at f) e.value)
judged_layer d (Deref e at) = valued (option_and_then pointee e.value)
judged_layer d (Index e i at) = valued (element e i)
judged_layer d (Unary s e at) = signed s e
judged_layer d (Binary o a b at) = combined o a b

-- an expression by its operands
abbrev pub judged : Declarations → Expr → Judged
judged d = fold-Expr Judged (judged_layer d)

-- the type of an expression, if its parts are right
abbrev pub sort_of : Declarations → Expr → Option Sort
sort_of d e = (judged d e).value

-- whether an expression may be a condition
abbrev pub is_condition : Declarations → Expr → Bool
is_condition d e = (judged d e).condition

-- whether an expression is an int
abbrev pub gives_int : Declarations → Expr → Bool
gives_int d e = has is_int (sort_of d e)

-- calls

-- an argument goes into its parameter (6.5.2.2p2)
abbrev pub argument_fits : Declarations → ℕ → Expr → Bool
argument_fits d x e = has (λ t. has (goes_into t) (sort_of d e)) (var_type d x)

-- each parameter has an argument
abbrev pub arguments_fit : Declarations → List ℕ → List Expr → Bool
arguments_fit d [] [] = true
arguments_fit d (x ∷ xs) (e ∷ es) = argument_fits d x e && arguments_fit d xs es
arguments_fit d [] (e ∷ es) = false
arguments_fit d (x ∷ xs) [] = false

-- a user's call: of a function that is there and isn't main
abbrev pub user_call_fits : Declarations → ℕ → List Expr → Option Prototype → Bool
user_call_fits d g es None = false
user_call_fits d g es (Some f) = not (g == d.main) && arguments_fit d f.params es

-- the struct of a request has a body before it, and a count is a number
abbrev pub size_fits : Declarations → ℕ → Size → Bool
size_fits d at (size.Fields s) = is_some (fields_of d at s)
size_fits d at (size.Ints count) = if_any (gives_int d) count

abbrev mutual
  -- how many numbers a text of printf takes, if each `%` in it goes with `d` or `%` (7.19.6.1)
  pub directives : List ℕ → Option ℕ
  directives [] = Some 0
  directives (c ∷ text) = if c == 37 then directive text else directives text

  -- behind a `%`
  pub directive : List ℕ → Option ℕ
  directive [] = None
  directive (c ∷ text) = if c == 100 then option_map suc (directives text) else if c == 37 then directives text else None

-- the parts of a call are right
abbrev pub call_fits : Declarations → Call → Bool
call_fits d (call.User n g es at) = user_call_fits d g es (slice_get d.funs g)
call_fits d (call.Malloc s at) = size_fits d at s
call_fits d (call.Getchar at) = true
call_fits d (call.Putchar e at) = gives_int d e
call_fits d (call.Printf text es at) = list_all (gives_int d) es && has (λ n. n == length es) (directives text)

-- the result of a function, if it has one
abbrev pub result_of : Declarations → ℕ → Option Ty
result_of d g = option_and_then (λ f. f.result) (slice_get d.funs g)

-- what a call gives, if anything: a request gives a pointer to what it asks for
abbrev pub call_type : Declarations → Call → Option Ty
call_type d (call.User n g es at) = result_of d g
call_type d (call.Malloc (size.Fields s) at) = Some (ty.StructPtr s)
call_type d (call.Malloc (size.Ints count) at) = Some ty.IntPtr
call_type d (call.Getchar at) = Some ty.Int
call_type d (call.Putchar e at) = None
call_type d (call.Printf text es at) = None

-- statements

-- a place: a variable, `e->f`, `*e` or `e[i]` (6.3.2.1p1)
abbrev pub is_place : Expr-F Expr → Bool
is_place (Var x at) = true
is_place (Field e f at) = true
is_place (Deref e at) = true
is_place (Index e i at) = true
is_place (Const n at) = false
is_place (Null at) = false
is_place (Unary s e at) = false
is_place (Binary o a b at) = false

-- a variable itself
abbrev pub is_variable : Expr-F Expr → Bool
is_variable (Var x at) = true
is_variable _ = false

-- the result of a user's call goes into variables alone
abbrev pub place_takes : Expr-F Expr → Call → Bool
place_takes place (call.User n g es at) = is_variable place
place_takes place _ = true

-- a right side in a place of that type
abbrev pub right_fits : Declarations → (Call → Bool) → Ty → Right → Bool
right_fits d takes t (right.Plain e) = has (goes_into t) (sort_of d e)
right_fits d takes t (right.Call c) = call_fits d c && has (same_ty t) (call_type d c) && takes c

-- a right side for a variable
abbrev pub value_fits : Declarations → Ty → Right → Bool
value_fits d = right_fits d (λ c. true)

-- a declarator, its initialiser like an assignment (6.7.8p11)
abbrev pub declr_fits : Declarations → Declr → Bool
declr_fits d c = has (λ t. if_any (value_fits d t) c.right) (var_type d c.var)

-- a change: a number by an expression that gives a number (6.5.16.2p1, 6.5.2.4p1)
abbrev pub change_fits : Declarations → Ty → Right → Bool
change_fits d t (right.Plain e) = is_int (Of t) && gives_int d e
change_fits d t (right.Call c) = false

-- an assignment to a place of that type
abbrev pub assigned_fits : Declarations → Simple → Op → Ty → Bool
assigned_fits d s op.Put t = right_fits d (place_takes (out-Expr s.place)) t s.right
assigned_fits d s op.Add t = change_fits d t s.right
assigned_fits d s op.Sub t = change_fits d t s.right
assigned_fits d s op.Mul t = change_fits d t s.right

-- no place has the type of every pointer
abbrev pub type_of : Sort → Option Ty
type_of (Of t) = Some t
type_of AnyPointer = None

-- an assignment, to a place
abbrev pub simple_fits : Declarations → Simple → Bool
simple_fits d s = is_place (out-Expr s.place) && has (assigned_fits d s s.op) (option_and_then type_of (sort_of d s.place))

-- what stands before the first `;` of a for
abbrev pub start_fits : Declarations → Start → Bool
start_fits d (start.Declare c) = declr_fits d c
start_fits d (start.Assign s) = simple_fits d s

-- the head of a for (6.8.5p2)
abbrev pub head_fits : Declarations → ForHead → Bool
head_fits d h = list_all (start_fits d) h.start && if_any (is_condition d) h.test && if_any (simple_fits d) h.step

-- a value is returned where there is a result, and fits it (6.8.6.4p1)
abbrev pub return_fits : Declarations → Option Ty → Option Right → Bool
return_fits d None None = true
return_fits d (Some t) (Some r) = value_fits d t r
return_fits d None (Some r) = false
return_fits d (Some t) None = false

-- blocks, in a function with that result

-- an item, from its blocks
abbrev pub item_fits : Declarations → Option Ty → Item-F Bool Bool Bool Bool → Bool
item_fits d result (Declare ds) = list_all (declr_fits d) ds
item_fits d result (Assign s) = simple_fits d s
item_fits d result (Do c) = call_fits d c
item_fits d result (Nest b) = b
item_fits d result (If arms last) = list_all (λ a. a) arms && if_any (λ b. b) last
item_fits d result (While e b) = is_condition d e && b
item_fits d result (For h b) = head_fits d h && b
item_fits d result Break = true
item_fits d result Continue = true
item_fits d result (Return r at) = return_fits d result r

-- an arm: a condition and a block (6.8.4.1p1)
abbrev pub arm_fits : Declarations → Arm-F Bool Bool Bool Bool → Bool
arm_fits d a = is_condition d a.test && a.body

-- a block: all its items
abbrev pub all_items : Block-F Bool Bool Bool Bool → Bool
all_items b = list_all (λ p. p) b.items

-- a piece: its item
abbrev pub its_item : Piece-F Bool Bool Bool Bool → Bool
its_item p = p.item

-- all of a block in a function with that result
abbrev pub block_fits : Declarations → Option Ty → Block → Bool
block_fits d result = fold-Block Bool Bool Bool Bool (item_fits d result) (arm_fits d) all_items its_item

-- frees

-- a free takes a pointer (7.20.3.2p2)
abbrev pub free_fits : Declarations → Free → Bool
free_fits d f = has points (sort_of d f.expr)

-- all frees of a gap
abbrev pub gap_fits : Declarations → Gap → Bool
gap_fits d g = list_all (free_fits d) g.frees
