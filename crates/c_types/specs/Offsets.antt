-- What the types of a program ask of the offsets and the constants of its tree: a text's tree has all of it, a tree by
-- itself may not. The walk through a text asks whether a struct's body has come; a program, which keeps no order of its
-- declarations, compares offsets for it.
use Rattle.std.specs.Prelude.{ℕ, nat_lt, Bool, true, ◌&&◌, List, [], ◌∷◌, ◌++◌, Some, None, IsTrue}
use Rattle.std.specs.List.{list_all}
use Rattle.c_tree.specs.Typing.{fits, if_any}
use Rattle.c_tree.specs.declared.tree.Arg.{Arg}
use Rattle.c_tree.specs.declared.tree.Arm.{Arm-F}
use Rattle.c_tree.specs.declared.tree.Block.{Block, Block-F, fold-Block}
use Rattle.c_tree.specs.declared.tree.Call.{Call}
use Rattle.c_tree.specs.declared.tree.Call.TheVariants as call
use Rattle.c_tree.specs.declared.tree.Declr.{Declr}
use Rattle.c_tree.specs.declared.tree.Expr.{Expr, Expr-F, fold-Expr}
use Rattle.c_tree.specs.declared.tree.Expr.TheOpen.{Const, Null, Var, Field, Deref, Index, Unary, Binary}
use Rattle.c_tree.specs.declared.tree.ForHead.{ForHead}
use Rattle.c_tree.specs.declared.tree.Free.{Free}
use Rattle.c_tree.specs.declared.tree.Gap.{Gap}
use Rattle.c_tree.specs.declared.tree.GlobalDecl.{GlobalDecl}
use Rattle.c_tree.specs.declared.tree.Item.{Item-F}
use Rattle.c_tree.specs.declared.tree.Item.TheOpen.{Declare, Assign, Do, Nest, If, While, For, Break, Continue, Return}
use Rattle.c_tree.specs.declared.tree.Piece.{Piece-F}
use Rattle.c_tree.specs.declared.tree.Right.{Right}
use Rattle.c_tree.specs.declared.tree.Right.TheVariants as right
use Rattle.c_tree.specs.declared.tree.Simple.{Simple}
use Rattle.c_tree.specs.declared.tree.Size.{Size}
use Rattle.c_tree.specs.declared.tree.Start.{Start}
use Rattle.c_tree.specs.declared.tree.Start.TheVariants as start
use Rattle.c_tree.specs.declared.tree.Top.{Top}
use Rattle.c_tree.specs.declared.tree.Top.TheVariants as top
use Rattle.c_tree.specs.declared.tree.Tree.{Tree}

-- where constants fit `int`, and `->` and requests stand where `behind` allows it

-- a part of an expression, from its operands
abbrev pub layer_stands : (ℕ → Bool) → Expr-F Bool → Bool
layer_stands behind (Const n at) = fits n
layer_stands behind (Null at) = true
layer_stands behind (Var w) = true
layer_stands behind (Field e w at) = behind at && e
layer_stands behind (Deref e at) = e
layer_stands behind (Index e i at) = e && i
layer_stands behind (Unary s e at) = e
layer_stands behind (Binary o l r at) = l && r

-- all of an expression
abbrev pub expr_stands : (ℕ → Bool) → Expr → Bool
expr_stands behind = fold-Expr Bool (layer_stands behind)

abbrev pub arg_stands : (ℕ → Bool) → Arg → Bool
arg_stands behind x = expr_stands behind x.expr

abbrev pub size_stands : (ℕ → Bool) → Size → Bool
size_stands behind s = if_any (λ e. expr_stands behind e) s.count

abbrev pub call_stands : (ℕ → Bool) → Call → Bool
call_stands behind (call.User n args close) = list_all (arg_stands behind) args
call_stands behind (call.Malloc cast size at) = behind at && size_stands behind size
call_stands behind (call.Getchar at) = true
call_stands behind (call.Putchar x at) = arg_stands behind x
call_stands behind (call.Printf text text_at args at close) = list_all (arg_stands behind) args

abbrev pub right_stands : (ℕ → Bool) → Right → Bool
right_stands behind (right.Plain x) = arg_stands behind x
right_stands behind (right.Call c) = call_stands behind c

abbrev pub declr_stands : (ℕ → Bool) → Declr → Bool
declr_stands behind d = if_any (right_stands behind) d.right

abbrev pub simple_stands : (ℕ → Bool) → Simple → Bool
simple_stands behind s = arg_stands behind s.place && right_stands behind s.right

abbrev pub start_stands : (ℕ → Bool) → Start → Bool
start_stands behind (start.Declare d) = declr_stands behind d
start_stands behind (start.Assign s) = simple_stands behind s

abbrev pub head_stands : (ℕ → Bool) → ForHead → Bool
head_stands behind h = list_all (start_stands behind) h.start && if_any (expr_stands behind) h.test && if_any (simple_stands behind) h.step

abbrev pub free_stands : (ℕ → Bool) → Free → Bool
free_stands behind f = arg_stands behind f.expr

abbrev pub gap_stands : (ℕ → Bool) → Gap → Bool
gap_stands behind g = list_all (free_stands behind) g.frees

-- an item, from its blocks
abbrev pub item_stands : (ℕ → Bool) → Item-F Bool Bool Bool Bool → Bool
item_stands behind (Declare ds) = list_all (declr_stands behind) ds
item_stands behind (Assign s) = simple_stands behind s
item_stands behind (Do c) = call_stands behind c
item_stands behind (Nest b) = b
item_stands behind (If arms last) = list_all (λ b. b) arms && if_any (λ b. b) last
item_stands behind (While test body) = expr_stands behind test && body
item_stands behind (For head body) = head_stands behind head && body
item_stands behind Break = true
item_stands behind Continue = true
item_stands behind (Return r word) = if_any (right_stands behind) r

abbrev pub arm_stands : (ℕ → Bool) → Arm-F Bool Bool Bool Bool → Bool
arm_stands behind x = expr_stands behind x.test && x.body

abbrev pub layers_stand : (ℕ → Bool) → Block-F Bool Bool Bool Bool → Bool
layers_stand behind b = list_all (λ p. p) b.items && gap_stands behind b.last_gap

abbrev pub piece_stands : (ℕ → Bool) → Piece-F Bool Bool Bool Bool → Bool
piece_stands behind p = gap_stands behind p.gap && p.item

-- all of a block
abbrev pub block_stands : (ℕ → Bool) → Block → Bool
block_stands behind = fold-Block Bool Bool Bool Bool (item_stands behind) (arm_stands behind) (layers_stand behind) (piece_stands behind)

abbrev pub global_stands : (ℕ → Bool) → GlobalDecl → Bool
global_stands behind d = if_any (expr_stands behind) d.value

-- all of what a file declares at one place
abbrev pub top_stands : (ℕ → Bool) → Top → Bool
top_stands behind (top.Struct tag body alias) = true
top_stands behind (top.Globals ds) = list_all (global_stands behind) ds
top_stands behind (top.Proto h) = true
top_stands behind (top.Fun h body) = block_stands behind body

-- where the body of a struct stands, if a declaration has one
abbrev pub bodies_of : Top → List ℕ
bodies_of (top.Struct tag (Some body) alias) = body.at ∷ []
bodies_of (top.Struct tag None alias) = []
bodies_of (top.Globals ds) = []
bodies_of (top.Proto h) = []
bodies_of (top.Fun h body) = []

-- an offset is behind those of all these bodies
abbrev pub is_behind_all : List ℕ → ℕ → Bool
is_behind_all bodies at = list_all (λ body. nat_lt body at) bodies

-- what a file declares from some place on, behind these bodies
abbrev pub StandsFrom : List ℕ → List Top → Type 0
StandsFrom bodies [] = Unit {0}
StandsFrom bodies (t ∷ ts) = IsTrue (top_stands (is_behind_all bodies) t) × StandsFrom (bodies ++ bodies_of t) ts

-- The `{` of each struct's body stands before each `->` and each request that comes later in the file, and each constant
-- fits `int`. The offsets of a text's tokens ascend and its numbers fit, so a text's tree has this. A tree by itself may
-- have any offsets: a field that the walk has found could then stand before its struct's body in the program, and that
-- program wouldn't have right types.
abbrev pub FitsText : Tree → Type 0
FitsText t = StandsFrom [] t.tops
