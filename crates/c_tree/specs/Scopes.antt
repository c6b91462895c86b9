-- Where variables are visible: from their declaration to the end of its block, those of a `for` in that `for`, and
-- parameters in the whole body (C99 6.2.1p4, p7).
use Rattle.std.specs.Prelude.{ℕ, nat_eq, Bool, List, [], ◌∷◌, ◌++◌, map, option_map, Option, Some, None, if◌then◌else◌}
use Rattle.std.specs.List.{list_all, flat_map}
use Rattle.std.specs.Option.{option_and_then, is_some}
use Rattle.std.specs.Set.{is_member}
use Rattle.c_tree.specs.declared.expr.Expr.{Expr, Expr-F, fold-Expr}
use Rattle.c_tree.specs.declared.expr.Expr.TheOpen.{Const, Null, Var, Field, Deref, Index, Unary, Binary}
use Rattle.c_tree.specs.declared.program.Arm.{Arm-F}
use Rattle.c_tree.specs.declared.program.Block.{Block, Block-F, fold-Block}
use Rattle.c_tree.specs.declared.program.Call.{Call}
use Rattle.c_tree.specs.declared.program.Call.TheVariants as call
use Rattle.c_tree.specs.declared.program.Declr.{Declr}
use Rattle.c_tree.specs.declared.program.ForHead.{ForHead}
use Rattle.c_tree.specs.declared.program.FunDef.{FunDef}
use Rattle.c_tree.specs.declared.program.Item.{Item-F}
use Rattle.c_tree.specs.declared.program.Item.TheOpen.{Declare, Assign, Do, Nest, If, While, For, Break, Continue, Return}
use Rattle.c_tree.specs.declared.program.Piece.{Piece-F}
use Rattle.c_tree.specs.declared.program.Right.{Right}
use Rattle.c_tree.specs.declared.program.Right.TheVariants as right
use Rattle.c_tree.specs.declared.program.Simple.{Simple}
use Rattle.c_tree.specs.declared.program.Size.{Size}
use Rattle.c_tree.specs.declared.program.Size.TheVariants as size
use Rattle.c_tree.specs.declared.program.Start.{Start}
use Rattle.c_tree.specs.declared.program.Start.TheVariants as start

-- the variables that stand in a part, in the order of the text

-- those of an expression, from its operands
abbrev pub vars_layer : Expr-F (List ℕ) → List ℕ
vars_layer (Const n at) = []
vars_layer (Null at) = []
vars_layer (Var x at) = x ∷ []
vars_layer (Field xs f at) = xs
vars_layer (Deref xs at) = xs
vars_layer (Index xs ys at) = xs ++ ys
vars_layer (Unary s xs at) = xs
vars_layer (Binary o xs ys at) = xs ++ ys

-- those of an expression
abbrev pub vars_of : Expr → List ℕ
vars_of = fold-Expr (List ℕ) vars_layer

-- those of a part, if there is one
abbrev pub any_vars : {A : Type 0} → (A → List ℕ) → Option A → List ℕ
any_vars f None = []
any_vars f (Some x) = f x

-- those of a size
abbrev pub size_vars : Size → List ℕ
size_vars (size.Fields s) = []
size_vars (size.Ints count) = any_vars vars_of count

-- those of a call
abbrev pub call_vars : Call → List ℕ
call_vars (call.User n g es at) = flat_map vars_of es
call_vars (call.Malloc s at) = size_vars s
call_vars (call.Getchar at) = []
call_vars (call.Putchar e at) = vars_of e
call_vars (call.Printf text es at) = flat_map vars_of es

-- those of a right side
abbrev pub right_vars : Right → List ℕ
right_vars (right.Plain e) = vars_of e
right_vars (right.Call c) = call_vars c

-- those of an assignment
abbrev pub simple_vars : Simple → List ℕ
simple_vars s = vars_of s.place ++ right_vars s.right

-- from what is visible before a part to what is visible behind it; none where a variable stands in the part
-- that isn't visible there
abbrev pub Scope : Type 0
Scope = List ℕ → Option (List ℕ)

-- a part that declares nothing
abbrev pub sees : List ℕ → Scope
sees xs seen = if list_all (is_member nat_eq seen) xs then Some seen else None

-- parts in the order of the text
abbrev pub in_turn : List Scope → Scope
in_turn [] seen = Some seen
in_turn (s ∷ ss) seen = option_and_then (in_turn ss) (s seen)

-- behind a part, what was visible before it
abbrev pub closed : Scope → Scope
closed s seen = option_map (λ inner. seen) (s seen)

-- a variable is visible in its own initialiser
abbrev pub declr_scope : Declr → Scope
declr_scope d seen = sees (any_vars right_vars d.right) (d.var ∷ seen)

-- what stands before the first `;` of a for
abbrev pub start_scope : Start → Scope
start_scope (start.Declare d) = declr_scope d
start_scope (start.Assign s) = sees (simple_vars s)

-- the head of a `for`, in the order of the text
abbrev pub head_scopes : ForHead → List Scope
head_scopes h = map start_scope h.start ++ sees (any_vars vars_of h.test) ∷ sees (any_vars simple_vars h.step) ∷ []

-- the block of a last else, if there is one
abbrev pub last_scope : Option Scope → Scope
last_scope None seen = Some seen
last_scope (Some s) seen = s seen

-- an item; a `for` is a scope of its own (6.8.5p5)
abbrev pub item_scope : Item-F Scope Scope Scope Scope → Scope
item_scope (Declare ds) = in_turn (map declr_scope ds)
item_scope (Assign s) = sees (simple_vars s)
item_scope (Do c) = sees (call_vars c)
item_scope (Nest b) = b
item_scope (If arms last) = in_turn (arms ++ last_scope last ∷ [])
item_scope (While e b) = in_turn (sees (vars_of e) ∷ b ∷ [])
item_scope (For h b) = closed (in_turn (head_scopes h ++ b ∷ []))
item_scope Break = sees []
item_scope Continue = sees []
item_scope (Return r at) = sees (any_vars right_vars r)

-- an arm
abbrev pub arm_scope : Arm-F Scope Scope Scope Scope → Scope
arm_scope a = in_turn (sees (vars_of a.test) ∷ a.body ∷ [])

-- a block is a scope of its own (6.8.2p2)
abbrev pub items_scope : Block-F Scope Scope Scope Scope → Scope
items_scope b = closed (in_turn b.items)

-- a piece is its item
abbrev pub piece_scope : Piece-F Scope Scope Scope Scope → Scope
piece_scope p = p.item

-- a block
abbrev pub block_scope : Block → Scope
block_scope = fold-Block Scope Scope Scope Scope item_scope arm_scope items_scope piece_scope

-- each variable in a function's body stands where it is visible, from the globals before the function
abbrev pub sees_all : FunDef → List ℕ → Bool
sees_all d globals = is_some (block_scope d.body (d.params ++ globals))
