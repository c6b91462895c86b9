-- Tests of whether two trees are alike, the frees in their gaps aside.
use Rattle.std.specs.Prelude.{Bool, true, false, ◌==◌, nat_eq, ◌&&◌, Option, Some, None}
use Rattle.std.specs.Ordering.{int_eq}
use Rattle.std.specs.Cmp.Lexicographic.{pointwise}
use Rattle.c_tree.specs.declared.expr.Op.{Op}
use Rattle.c_tree.specs.declared.expr.Op.TheVariants as op
use Rattle.c_tree.specs.declared.expr.Sign.{Sign}
use Rattle.c_tree.specs.declared.expr.Sign.TheVariants as sign
use Rattle.c_tree.specs.declared.expr.Oper.{Oper}
use Rattle.c_tree.specs.declared.expr.Oper.TheVariants as oper
use Rattle.c_tree.specs.declared.expr.Expr.{Expr, Expr-F, fold-Expr, out-Expr}
use Rattle.c_tree.specs.declared.expr.Expr.TheOpen.{Const, Null, Var, Field, Deref, Index, Unary, Binary}
use Rattle.c_tree.specs.declared.program.Block.{Block, Block-F, fold-Block, out-Block}
use Rattle.c_tree.specs.declared.program.Piece.{Piece, Piece-F, fold-Piece, out-Piece}
use Rattle.c_tree.specs.declared.program.Item.{Item, Item-F, fold-Item, out-Item}
use Rattle.c_tree.specs.declared.program.Item.TheOpen.{Declare, Assign, Do, Nest, If, While, For, Break, Continue, Return}
use Rattle.c_tree.specs.declared.program.Arm.{Arm, Arm-F, fold-Arm, out-Arm}
use Rattle.c_tree.specs.declared.program.Declr.{Declr}
use Rattle.c_tree.specs.declared.program.Simple.{Simple}
use Rattle.c_tree.specs.declared.program.Right.{Right}
use Rattle.c_tree.specs.declared.program.Right.TheVariants as right
use Rattle.c_tree.specs.declared.program.Call.{Call}
use Rattle.c_tree.specs.declared.program.Call.TheVariants as call
use Rattle.c_tree.specs.declared.program.Size.{Size}
use Rattle.c_tree.specs.declared.program.Size.TheVariants as size
use Rattle.c_tree.specs.declared.program.ForHead.{ForHead}
use Rattle.c_tree.specs.declared.program.Start.{Start}
use Rattle.c_tree.specs.declared.program.Start.TheVariants as start
use Rattle.c_tree.specs.declared.program.Ty.{Ty}
use Rattle.c_tree.specs.declared.program.Ty.TheVariants as ty
use Rattle.c_tree.specs.declared.program.Home.{Home}
use Rattle.c_tree.specs.declared.program.Home.TheVariants as home
use Rattle.c_tree.specs.declared.program.StructDef.{StructDef}
use Rattle.c_tree.specs.declared.program.FieldDef.{FieldDef}
use Rattle.c_tree.specs.declared.program.VarDef.{VarDef}
use Rattle.c_tree.specs.declared.program.FunDef.{FunDef}
use Rattle.c_tree.specs.declared.program.Program.{Program}

-- both are there and pass the test, or neither is there
abbrev pub option_alike : {A B : Type 0} → (A → B → Bool) → Option A → Option B → Bool
option_alike f None None = true
option_alike f (Some x) (Some y) = f x y
option_alike f _ _ = false

-- the same operator, type and home

abbrev pub same_op : Op → Op → Bool
same_op op.Put op.Put = true
same_op op.Add op.Add = true
same_op op.Sub op.Sub = true
same_op op.Mul op.Mul = true
same_op _ _ = false

abbrev pub same_sign : Sign → Sign → Bool
same_sign sign.Minus sign.Minus = true
same_sign sign.Not sign.Not = true
same_sign _ _ = false

abbrev pub same_oper : Oper → Oper → Bool
same_oper oper.Mul oper.Mul = true
same_oper oper.Div oper.Div = true
same_oper oper.Rem oper.Rem = true
same_oper oper.Add oper.Add = true
same_oper oper.Sub oper.Sub = true
same_oper oper.Lt oper.Lt = true
same_oper oper.Le oper.Le = true
same_oper oper.Gt oper.Gt = true
same_oper oper.Ge oper.Ge = true
same_oper oper.Eq oper.Eq = true
same_oper oper.Ne oper.Ne = true
same_oper oper.And oper.And = true
same_oper oper.Or oper.Or = true
same_oper _ _ = false

abbrev pub same_ty : Ty → Ty → Bool
same_ty ty.Int ty.Int = true
same_ty ty.IntPtr ty.IntPtr = true
same_ty (ty.StructPtr s) (ty.StructPtr t) = s == t
same_ty _ _ = false

abbrev pub same_home : Home → Home → Bool
same_home (home.Global m) (home.Global n) = int_eq m n
same_home (home.Param f) (home.Param g) = f == g
same_home (home.Local f) (home.Local g) = f == g
same_home (home.Result f) (home.Result g) = f == g
same_home _ _ = false

-- one layer of an expression; the tests of its parts stand in their place
abbrev pub alike_layer : Expr-F (Expr → Bool) → Expr-F Expr → Bool
alike_layer (Const m at) (Const n at') = int_eq m n
alike_layer (Null at) (Null at') = true
alike_layer (Var x at) (Var y at') = x == y
alike_layer (Field e f at) (Field d g at') = e d && (f == g)
alike_layer (Deref e at) (Deref d at') = e d
alike_layer (Index e i at) (Index d j at') = e d && i j
alike_layer (Unary s e at) (Unary t d at') = same_sign s t && e d
alike_layer (Binary o a b at) (Binary p c d at') = same_oper o p && a c && b d
alike_layer _ _ = false

abbrev pub alike_expr : Expr → Expr → Bool
alike_expr = fold-Expr (Expr → Bool) (λ l e. alike_layer l (out-Expr e))

abbrev pub alike_size : Size → Size → Bool
alike_size (size.Fields s) (size.Fields t) = s == t
alike_size (size.Ints a) (size.Ints b) = option_alike alike_expr a b
alike_size _ _ = false

abbrev pub alike_call : Call → Call → Bool
alike_call (call.User m f xs at) (call.User n g ys at') = (m == n) && (f == g) && pointwise alike_expr xs ys
alike_call (call.Malloc a at) (call.Malloc b at') = alike_size a b
alike_call (call.Getchar at) (call.Getchar at') = true
alike_call (call.Putchar a at) (call.Putchar b at') = alike_expr a b
alike_call (call.Printf s xs at) (call.Printf t ys at') = pointwise nat_eq s t && pointwise alike_expr xs ys
alike_call _ _ = false

abbrev pub alike_right : Right → Right → Bool
alike_right (right.Plain a) (right.Plain b) = alike_expr a b
alike_right (right.Call a) (right.Call b) = alike_call a b
alike_right _ _ = false

abbrev pub alike_declr : Declr → Declr → Bool
alike_declr a b = (a.var == b.var) && option_alike alike_right a.right b.right

abbrev pub alike_simple : Simple → Simple → Bool
alike_simple a b = alike_expr a.place b.place && same_op a.op b.op && alike_right a.right b.right

abbrev pub alike_start : Start → Start → Bool
alike_start (start.Declare a) (start.Declare b) = alike_declr a b
alike_start (start.Assign a) (start.Assign b) = alike_simple a b
alike_start _ _ = false

abbrev pub alike_head : ForHead → ForHead → Bool
alike_head a b = pointwise alike_start a.start b.start && option_alike alike_expr a.test b.test && option_alike alike_simple a.step b.step

-- one layer of a block, likewise

abbrev pub item_layer : Item-F (Item → Bool) (Arm → Bool) (Block → Bool) (Piece → Bool) → Item-F Item Arm Block Piece → Bool
item_layer (Declare ds) (Declare es) = pointwise alike_declr ds es
item_layer (Assign a) (Assign b) = alike_simple a b
item_layer (Do a) (Do b) = alike_call a b
item_layer (Nest a) (Nest b) = a b
item_layer (If arms last) (If others final) = pointwise (λ f x. f x) arms others && option_alike (λ f x. f x) last final
item_layer (While t a) (While s b) = alike_expr t s && a b
item_layer (For h a) (For k b) = alike_head h k && a b
item_layer Break Break = true
item_layer Continue Continue = true
item_layer (Return a at) (Return b at') = option_alike alike_right a b
item_layer _ _ = false

abbrev pub arm_layer : Arm-F (Item → Bool) (Arm → Bool) (Block → Bool) (Piece → Bool) → Arm-F Item Arm Block Piece → Bool
arm_layer a b = alike_expr a.test b.test && a.body b.body

abbrev pub block_layer : Block-F (Item → Bool) (Arm → Bool) (Block → Bool) (Piece → Bool) → Block-F Item Arm Block Piece → Bool
block_layer a b = pointwise (λ f x. f x) a.items b.items && (a.last_gap.number == b.last_gap.number)

abbrev pub piece_layer : Piece-F (Item → Bool) (Arm → Bool) (Block → Bool) (Piece → Bool) → Piece-F Item Arm Block Piece → Bool
piece_layer a b = (a.gap.number == b.gap.number) && a.item b.item

-- a layer of tests, at a value

abbrev pub on_item : Item-F (Item → Bool) (Arm → Bool) (Block → Bool) (Piece → Bool) → Item → Bool
on_item l x = item_layer l (out-Item x)

abbrev pub on_arm : Arm-F (Item → Bool) (Arm → Bool) (Block → Bool) (Piece → Bool) → Arm → Bool
on_arm l x = arm_layer l (out-Arm x)

abbrev pub on_block : Block-F (Item → Bool) (Arm → Bool) (Block → Bool) (Piece → Bool) → Block → Bool
on_block l x = block_layer l (out-Block x)

abbrev pub on_piece : Piece-F (Item → Bool) (Arm → Bool) (Block → Bool) (Piece → Bool) → Piece → Bool
on_piece l x = piece_layer l (out-Piece x)

abbrev pub alike_item : Item → Item → Bool
alike_item = fold-Item (Item → Bool) (Arm → Bool) (Block → Bool) (Piece → Bool) on_item on_arm on_block on_piece

abbrev pub alike_arm : Arm → Arm → Bool
alike_arm = fold-Arm (Item → Bool) (Arm → Bool) (Block → Bool) (Piece → Bool) on_item on_arm on_block on_piece

abbrev pub alike_block : Block → Block → Bool
alike_block = fold-Block (Item → Bool) (Arm → Bool) (Block → Bool) (Piece → Bool) on_item on_arm on_block on_piece

abbrev pub alike_piece : Piece → Piece → Bool
alike_piece = fold-Piece (Item → Bool) (Arm → Bool) (Block → Bool) (Piece → Bool) on_item on_arm on_block on_piece

abbrev pub alike_field : FieldDef → FieldDef → Bool
alike_field a b = pointwise nat_eq a.name b.name && same_ty a.ty b.ty

abbrev pub alike_struct : StructDef → StructDef → Bool
alike_struct a b = pointwise alike_field a.fields b.fields && option_alike (λ x y. true) a.body b.body

abbrev pub alike_var : VarDef → VarDef → Bool
alike_var a b = pointwise nat_eq a.name b.name && same_ty a.ty b.ty && same_home a.home b.home

abbrev pub alike_fun : FunDef → FunDef → Bool
alike_fun a b = pointwise nat_eq a.name b.name && option_alike same_ty a.result b.result && pointwise nat_eq a.params b.params && alike_block a.body b.body

abbrev pub alike_program : Program → Program → Bool
alike_program a b = (a.main == b.main) && (a.gaps == b.gaps) && (a.calls == b.calls) && pointwise alike_struct a.structs b.structs && pointwise alike_var a.vars b.vars && pointwise alike_fun a.funs b.funs
