-- Programs that are equal but for offsets and for whether a body has braces.
use Rattle.std.specs.Prelude.{◌≡◌, false, map, option_map}
use Rattle.c_tree.specs.declared.expr.Expr.{Expr, Expr-F, fold-Expr, roll-Expr}
use Rattle.c_tree.specs.declared.expr.Expr.TheOpen.{Const, Null, Var, Field, Deref, Index, Unary, Binary}
use Rattle.c_tree.specs.declared.program.Block.{Block, roll-Block, fold-Block}
use Rattle.c_tree.specs.declared.program.Piece.{Piece, roll-Piece}
use Rattle.c_tree.specs.declared.program.Item.{Item, Item-F, roll-Item}
use Rattle.c_tree.specs.declared.program.Item.TheOpen.{Declare, Assign, Do, Nest, If, While, For, Break, Continue, Return}
use Rattle.c_tree.specs.declared.program.Arm.{Arm, roll-Arm}
use Rattle.c_tree.specs.declared.program.Gap.{Gap}
use Rattle.c_tree.specs.declared.program.Free.{Free}
use Rattle.c_tree.specs.declared.program.Declr.{Declr}
use Rattle.c_tree.specs.declared.program.Simple.{Simple}
use Rattle.c_tree.specs.declared.program.Right.{Right}
use Rattle.c_tree.specs.declared.program.Right.TheVariants as right
use Rattle.c_tree.specs.declared.program.Call.{Call}
use Rattle.c_tree.specs.declared.program.Call.TheVariants as call
use Rattle.c_tree.specs.declared.program.Size.{Size}
use Rattle.c_tree.specs.declared.program.Size.TheVariants as size
use Rattle.c_tree.specs.declared.program.ForHead.{ForHead}
use Rattle.c_tree.specs.declared.program.Start.{Start}
use Rattle.c_tree.specs.declared.program.Start.TheVariants as start
use Rattle.c_tree.specs.declared.program.StructDef.{StructDef}
use Rattle.c_tree.specs.declared.program.VarDef.{VarDef}
use Rattle.c_tree.specs.declared.program.FunDef.{FunDef}
use Rattle.c_tree.specs.declared.program.Program.{Program}

-- each part of a program with its offsets at 0, and no block with braces

abbrev pub bare_layer : {A : Type 0} → Expr-F A → Expr-F A
bare_layer (Const n at) = Const n 0
bare_layer (Null at) = Null 0
bare_layer (Var x at) = Var x 0
bare_layer (Field e f at) = Field e f 0
bare_layer (Deref e at) = Deref e 0
bare_layer (Index e i at) = Index e i 0
bare_layer (Unary s e at) = Unary s e 0
bare_layer (Binary o a b at) = Binary o a b 0

abbrev pub bare_expr : Expr → Expr
bare_expr = fold-Expr Expr (λ l. roll-Expr (bare_layer l))

abbrev pub bare_size : Size → Size
bare_size (size.Fields s) = size.Fields s
bare_size (size.Ints count) = size.Ints (option_map bare_expr count)

abbrev pub bare_call : Call → Call
bare_call (call.User number callee arguments at) = call.User number callee (map bare_expr arguments) 0
bare_call (call.Malloc size at) = call.Malloc (bare_size size) 0
bare_call (call.Getchar at) = call.Getchar 0
bare_call (call.Putchar e at) = call.Putchar (bare_expr e) 0
bare_call (call.Printf text arguments at) = call.Printf text (map bare_expr arguments) 0

abbrev pub bare_right : Right → Right
bare_right (right.Plain e) = right.Plain (bare_expr e)
bare_right (right.Call c) = right.Call (bare_call c)

abbrev pub bare_declr : Declr → Declr
bare_declr d = record d { right = option_map bare_right d.right; at = 0 }

abbrev pub bare_simple : Simple → Simple
bare_simple s = record s { place = bare_expr s.place; right = bare_right s.right; at = 0 }

abbrev pub bare_start : Start → Start
bare_start (start.Declare d) = start.Declare (bare_declr d)
bare_start (start.Assign s) = start.Assign (bare_simple s)

abbrev pub bare_head : ForHead → ForHead
bare_head h = record { start = map bare_start h.start; test = option_map bare_expr h.test; step = option_map bare_simple h.step }

abbrev pub bare_free : Free → Free
bare_free f = record { expr = bare_expr f.expr; start = 0; end = 0 }

abbrev pub bare_gap : Gap → Gap
bare_gap g = record g { frees = map bare_free g.frees }

abbrev pub bare_item : Item-F Item Arm Block Piece → Item-F Item Arm Block Piece
bare_item (Declare ds) = Declare (map bare_declr ds)
bare_item (Assign s) = Assign (bare_simple s)
bare_item (Do c) = Do (bare_call c)
bare_item (Nest b) = Nest b
bare_item (If arms otherwise) = If arms otherwise
bare_item (While test body) = While (bare_expr test) body
bare_item (For head body) = For (bare_head head) body
bare_item Break = Break
bare_item Continue = Continue
bare_item (Return value at) = Return (option_map bare_right value) 0

abbrev pub bare_block : Block → Block
bare_block = fold-Block Item Arm Block Piece (λ i. roll-Item (bare_item i))
    (λ a. roll-Arm (record a { test = bare_expr a.test }))
    (λ b. roll-Block (record b { last_gap = bare_gap b.last_gap; braced = false; start = 0; end = 0 }))
    (λ p. roll-Piece (record p { gap = bare_gap p.gap; start = 0; end = 0 }))

abbrev pub bare_struct : StructDef → StructDef
bare_struct s = record s { body = option_map (λ _. 0) s.body }

abbrev pub bare_var : VarDef → VarDef
bare_var v = record v { at = 0 }

abbrev pub bare_fun : FunDef → FunDef
bare_fun f = record f { body = bare_block f.body; at = 0 }

abbrev pub bare : Program → Program
bare p = record p { structs = map bare_struct p.structs; vars = map bare_var p.vars; funs = map bare_fun p.funs }

-- equal but for offsets and for whether a body has braces
abbrev pub IsAlike : Program → Program → Type 0
IsAlike p q = bare p ≡ bare q
