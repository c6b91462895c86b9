-- The plainest tokens of a tree: every body in braces, and parentheses only where an operand's level needs them.
use Rattle.std.specs.Prelude.{◌≡◌, ℕ, zero, suc, ◌+◌, Bool, true, false, ◌&&◌, not, nat_lt, if◌then◌else◌, ℤ, pos, negsuc, List, [], ◌∷◌, ◌++◌, map, length, Option, Some, None, unwrap_or, codes}
use Rattle.std.specs.Ordering.{int_eq}
use Rattle.c_lexer.specs.declared.token.Token.{Token}
use Rattle.c_lexer.specs.declared.token.Tokens.{Tokens}
use Rattle.c_lexer.specs.declared.token.Kind.{Kind}
use Rattle.c_lexer.specs.declared.token.Kind.TheVariants as kind
use Rattle.c_lexer.specs.Words.{key_word, punctuator}
use Rattle.c_tree.specs.declared.expr.Op.{Op}
use Rattle.c_tree.specs.declared.expr.Op.TheVariants as op
use Rattle.c_tree.specs.declared.expr.Oper.{Oper}
use Rattle.c_tree.specs.declared.expr.Oper.TheVariants as oper
use Rattle.c_tree.specs.declared.expr.Sign.{Sign}
use Rattle.c_tree.specs.declared.expr.Sign.TheVariants as sign
use Rattle.c_tree.specs.declared.tree.Arg.{Arg}
use Rattle.c_tree.specs.declared.tree.Arm.{Arm, Arm-F, fold-Arm}
use Rattle.c_tree.specs.declared.tree.Base.{Base}
use Rattle.c_tree.specs.declared.tree.Base.TheVariants as base
use Rattle.c_tree.specs.declared.tree.Block.{Block, Block-F, fold-Block}
use Rattle.c_tree.specs.declared.tree.Body.{Body}
use Rattle.c_tree.specs.declared.tree.Call.{Call}
use Rattle.c_tree.specs.declared.tree.Call.TheVariants as call
use Rattle.c_tree.specs.declared.tree.Declr.{Declr}
use Rattle.c_tree.specs.declared.tree.Expr.{Expr, Expr-F, fold-Expr, out-Expr}
use Rattle.c_tree.specs.declared.tree.Expr.TheOpen.{Const, Null, Var, Field, Deref, Index, Unary, Binary}
use Rattle.c_tree.specs.declared.tree.ForHead.{ForHead}
use Rattle.c_tree.specs.declared.tree.Free.{Free}
use Rattle.c_tree.specs.declared.tree.Gap.{Gap}
use Rattle.c_tree.specs.declared.tree.GlobalDecl.{GlobalDecl}
use Rattle.c_tree.specs.declared.tree.Head.{Head}
use Rattle.c_tree.specs.declared.tree.Item.{Item, Item-F, fold-Item}
use Rattle.c_tree.specs.declared.tree.Item.TheOpen.{Declare, Assign, Do, Nest, If, While, For, Break, Continue, Return}
use Rattle.c_tree.specs.declared.tree.Piece.{Piece, Piece-F, fold-Piece}
use Rattle.c_tree.specs.declared.tree.Right.{Right}
use Rattle.c_tree.specs.declared.tree.Right.TheVariants as right
use Rattle.c_tree.specs.declared.tree.Simple.{Simple}
use Rattle.c_tree.specs.declared.tree.Size.{Size}
use Rattle.c_tree.specs.declared.tree.Spec.{Spec}
use Rattle.c_tree.specs.declared.tree.Start.{Start}
use Rattle.c_tree.specs.declared.tree.Start.TheVariants as start
use Rattle.c_tree.specs.declared.tree.Top.{Top}
use Rattle.c_tree.specs.declared.tree.Top.TheVariants as top
use Rattle.c_tree.specs.declared.tree.Tree.{Tree}
use Rattle.c_tree.specs.declared.tree.Unit.{Unit as Counted}
use Rattle.c_tree.specs.declared.tree.Unit.TheVariants as unit
use Rattle.c_tree.specs.declared.tree.Word.{Word}

-- a key word and a punctuator by its spelling

abbrev pub key : List ℕ → Kind
key text = kind.Key (unwrap_or (key_word text) 0)

abbrev pub mark : List ℕ → Kind
mark text = kind.Punct (unwrap_or (punctuator text) 0)

-- what is printed of each, one behind the other
abbrev pub each : {A : Type 0} → (A → List Kind) → List A → List Kind
each f [] = []
each f (x ∷ xs) = f x ++ each f xs

abbrev pub maybe : {A : Type 0} → (A → List Kind) → Option A → List Kind
maybe f None = []
maybe f (Some x) = f x

abbrev pub within : List Kind → List Kind
within ks = mark (codes "(") ∷ (ks ++ mark (codes ")") ∷ [])

abbrev pub ended : List Kind → List Kind
ended ks = ks ++ mark (codes ";") ∷ []

-- the level of an operator's operands, as the grammar counts them
abbrev pub level_of : Oper → ℕ
level_of oper.Mul = 0
level_of oper.Div = 0
level_of oper.Rem = 0
level_of oper.Add = 1
level_of oper.Sub = 1
level_of oper.Lt = 2
level_of oper.Le = 2
level_of oper.Gt = 2
level_of oper.Ge = 2
level_of oper.Eq = 3
level_of oper.Ne = 3
level_of oper.And = 4
level_of oper.Or = 5

abbrev pub oper_kind : Oper → Kind
oper_kind oper.Mul = mark (codes "*")
oper_kind oper.Div = mark (codes "/")
oper_kind oper.Rem = mark (codes "%")
oper_kind oper.Add = mark (codes "+")
oper_kind oper.Sub = mark (codes "-")
oper_kind oper.Lt = mark (codes "<")
oper_kind oper.Le = mark (codes "<=")
oper_kind oper.Gt = mark (codes ">")
oper_kind oper.Ge = mark (codes ">=")
oper_kind oper.Eq = mark (codes "==")
oper_kind oper.Ne = mark (codes "!=")
oper_kind oper.And = mark (codes "&&")
oper_kind oper.Or = mark (codes "||")

abbrev pub sign_kind : Sign → Kind
sign_kind sign.Minus = mark (codes "-")
sign_kind sign.Not = mark (codes "!")

abbrev pub const_kind : ℤ → Kind
const_kind (pos n) = kind.Number (pos n)
const_kind (negsuc zero) = key (codes "EOF")
const_kind (negsuc (suc n)) = kind.Number (negsuc (suc n))

-- in parentheses, or as it is
abbrev pub grouped : Bool → List Kind → List Kind
grouped true ks = within ks
grouped false ks = ks

-- Expressions by the room that they have: 0 is a post, k + 1 is level k, so 1 is a unary and 7 an expr.
abbrev pub printed_layer : Expr-F (ℕ → List Kind) → ℕ → List Kind
printed_layer (Const n at) room = const_kind n ∷ []
printed_layer (Null at) room = key (codes "NULL") ∷ []
printed_layer (Var w) room = kind.Name w.text ∷ []
printed_layer (Field e w at) room = e 0 ++ mark (codes "->") ∷ kind.Name w.text ∷ []
printed_layer (Deref e at) room = grouped (nat_lt room 1) (mark (codes "*") ∷ e 1)
printed_layer (Index e i at) room = e 0 ++ mark (codes "[") ∷ (i 7 ++ mark (codes "]") ∷ [])
printed_layer (Unary s e at) room = grouped (nat_lt room 1) (sign_kind s ∷ e 1)
printed_layer (Binary o a b at) room = grouped (nat_lt room (level_of o + 2)) (a (level_of o + 2) ++ oper_kind o ∷ b (level_of o + 1))

unfoldable pub printed_expr : ℕ → Expr → List Kind
printed_expr room e = fold-Expr (ℕ → List Kind) printed_layer e room

abbrev pub printed_arg : Arg → List Kind
printed_arg a = printed_expr 7 a.expr

-- types

abbrev pub printed_base : Base → List Kind
printed_base base.Void = key (codes "void") ∷ []
printed_base base.Int = key (codes "int") ∷ []
printed_base (base.Tag w) = key (codes "struct") ∷ kind.Name w.text ∷ []
printed_base (base.Alias w) = kind.Name w.text ∷ []

abbrev pub printed_stars : ℕ → List Kind
printed_stars zero = []
printed_stars (suc n) = mark (codes "*") ∷ printed_stars n

abbrev pub printed_word : Word → List Kind
printed_word w = kind.Name w.text ∷ []

-- ["*"] N
abbrev pub printed_starred : Spec → List Kind
printed_starred s = printed_stars s.stars ++ maybe printed_word s.name

abbrev pub printed_spec : Spec → List Kind
printed_spec s = printed_base s.base ++ printed_starred s

-- requests: a count stands before its unit, where a product needs no parentheses

abbrev pub printed_unit : Counted → List Kind
printed_unit (unit.Of s) = key (codes "sizeof") ∷ within (printed_spec s)
printed_unit (unit.Star w) = key (codes "sizeof") ∷ mark (codes "*") ∷ printed_word w

abbrev pub printed_count : Expr → List Kind
printed_count e = printed_expr 2 e ++ mark (codes "*") ∷ []

abbrev pub printed_size : Size → List Kind
printed_size s = maybe printed_count s.count ++ printed_unit s.unit

-- calls

abbrev pub behind_comma : Arg → List Kind
behind_comma a = mark (codes ",") ∷ printed_arg a

abbrev pub printed_args : List Arg → List Kind
printed_args [] = []
printed_args (a ∷ args) = printed_arg a ++ each behind_comma args

abbrev pub printed_cast : Spec → List Kind
printed_cast s = within (printed_spec s)

abbrev pub printed_call : Call → List Kind
printed_call (call.User w args at) = kind.Name w.text ∷ within (printed_args args)
printed_call (call.Malloc cast size at) = maybe printed_cast cast ++ key (codes "malloc") ∷ within (printed_size size)
printed_call (call.Getchar at) = key (codes "getchar") ∷ within []
printed_call (call.Putchar a at) = key (codes "putchar") ∷ within (printed_arg a)
printed_call (call.Printf text text_at args at end) = key (codes "printf") ∷ within (kind.Text text ∷ each behind_comma args)

abbrev pub printed_right : Right → List Kind
printed_right (right.Plain a) = printed_arg a
printed_right (right.Call c) = printed_call c

-- assignments: what is changed by 1 has `++` or `--` before it, where a unary needs no parentheses

abbrev pub op_kind : Op → Kind
op_kind op.Put = mark (codes "=")
op_kind op.Add = mark (codes "+=")
op_kind op.Sub = mark (codes "-=")
op_kind op.Mul = mark (codes "*=")

abbrev pub is_one : Expr-F Expr → Bool
is_one (Const n at) = int_eq n (pos 1)
is_one _ = false

abbrev pub by_one : Right → Bool
by_one (right.Plain a) = is_one (out-Expr a.expr)
by_one (right.Call c) = false

-- the sign of a step, where the assignment is one
abbrev pub step_kind : Op → Bool → Option Kind
step_kind op.Add true = Some (mark (codes "++"))
step_kind op.Sub true = Some (mark (codes "--"))
step_kind _ _ = None

-- a place is a post, or `*` and a unary
abbrev pub place_room : Expr-F Expr → ℕ
place_room (Deref e at) = 1
place_room _ = 0

abbrev pub printed_by : Simple → Option Kind → List Kind
printed_by s (Some step) = step ∷ printed_expr 1 s.place.expr
printed_by s None = printed_expr (place_room (out-Expr s.place.expr)) s.place.expr ++ op_kind s.op ∷ printed_right s.right

abbrev pub printed_simple : Simple → List Kind
printed_simple s = printed_by s (step_kind s.op (by_one s.right))

-- declarations

abbrev pub printed_given : Right → List Kind
printed_given r = mark (codes "=") ∷ printed_right r

abbrev pub printed_declr : Declr → List Kind
printed_declr d = printed_starred d.spec ++ maybe printed_given d.right

abbrev pub next_declr : Declr → List Kind
next_declr d = mark (codes ",") ∷ printed_declr d

-- one base for all declarators
abbrev pub printed_decl : List Declr → List Kind
printed_decl [] = []
printed_decl (d ∷ ds) = printed_base d.spec.base ++ (printed_declr d ++ each next_declr ds)

-- the first part of a `for`: declarators of one base, or an assignment
abbrev pub next_start : Start → List Kind
next_start (start.Declare d) = next_declr d
next_start (start.Assign s) = printed_simple s

abbrev pub printed_starts : List Start → List Kind
printed_starts [] = []
printed_starts (start.Declare d ∷ others) = printed_base d.spec.base ++ (printed_declr d ++ each next_start others)
printed_starts (start.Assign s ∷ others) = printed_simple s ++ each next_start others

-- blocks

abbrev pub printed_free : Free → List Kind
printed_free f = ended (key (codes "free") ∷ within (printed_arg f.expr))

abbrev pub printed_gap : Gap → List Kind
printed_gap g = each printed_free g.frees

abbrev pub printed_test : Expr → List Kind
printed_test e = within (printed_expr 7 e)

abbrev pub printed_for_head : ForHead → List Kind
printed_for_head h = within (ended (printed_starts h.start) ++ (ended (maybe (printed_expr 7) h.test) ++ maybe printed_simple h.step))

abbrev pub printed_other_arm : List Kind → List Kind
printed_other_arm arm = key (codes "else") ∷ key (codes "if") ∷ arm

abbrev pub printed_arms : List (List Kind) → List Kind
printed_arms [] = []
printed_arms (arm ∷ arms) = key (codes "if") ∷ (arm ++ each printed_other_arm arms)

abbrev pub printed_else : List Kind → List Kind
printed_else b = key (codes "else") ∷ b

-- an item, an arm from its `(` on, a block with its braces and a piece, by what is printed of their parts

abbrev pub item_layer : Item-F (List Kind) (List Kind) (List Kind) (List Kind) → List Kind
item_layer (Declare ds) = ended (printed_decl ds)
item_layer (Assign s) = ended (printed_simple s)
item_layer (Do c) = ended (printed_call c)
item_layer (Nest b) = b
item_layer (If arms otherwise) = printed_arms arms ++ maybe printed_else otherwise
item_layer (While test body) = key (codes "while") ∷ (printed_test test ++ body)
item_layer (For head body) = key (codes "for") ∷ (printed_for_head head ++ body)
item_layer Break = ended (key (codes "break") ∷ [])
item_layer Continue = ended (key (codes "continue") ∷ [])
item_layer (Return value at) = ended (key (codes "return") ∷ maybe printed_right value)

abbrev pub arm_layer : Arm-F (List Kind) (List Kind) (List Kind) (List Kind) → List Kind
arm_layer a = printed_test a.test ++ a.body

abbrev pub block_layer : Block-F (List Kind) (List Kind) (List Kind) (List Kind) → List Kind
block_layer b = mark (codes "{") ∷ (each (λ ks. ks) b.items ++ (printed_gap b.last_gap ++ mark (codes "}") ∷ []))

abbrev pub piece_layer : Piece-F (List Kind) (List Kind) (List Kind) (List Kind) → List Kind
piece_layer p = printed_gap p.gap ++ p.item

unfoldable pub printed_item : Item → List Kind
printed_item = fold-Item (List Kind) (List Kind) (List Kind) (List Kind) item_layer arm_layer block_layer piece_layer

unfoldable pub printed_arm : Arm → List Kind
printed_arm = fold-Arm (List Kind) (List Kind) (List Kind) (List Kind) item_layer arm_layer block_layer piece_layer

unfoldable pub printed_block : Block → List Kind
printed_block = fold-Block (List Kind) (List Kind) (List Kind) (List Kind) item_layer arm_layer block_layer piece_layer

unfoldable pub printed_piece : Piece → List Kind
printed_piece = fold-Piece (List Kind) (List Kind) (List Kind) (List Kind) item_layer arm_layer block_layer piece_layer

-- external declarations

abbrev pub printed_field : Spec → List Kind
printed_field s = ended (printed_spec s)

abbrev pub printed_body : Body → List Kind
printed_body b = mark (codes "{") ∷ (each printed_field b.fields ++ mark (codes "}") ∷ [])

-- a constant: behind its sign stands a number

abbrev pub behind_sign : Expr → Expr-F Expr → List Kind
behind_sign e (Const n at) = kind.Number n ∷ []
behind_sign e _ = printed_expr 1 e

abbrev pub printed_const : Expr → Expr-F Expr → List Kind
printed_const e (Unary s of at) = sign_kind s ∷ behind_sign of (out-Expr of)
printed_const e _ = printed_expr 1 e

abbrev pub printed_value : Expr → List Kind
printed_value e = mark (codes "=") ∷ printed_const e (out-Expr e)

abbrev pub printed_global : GlobalDecl → List Kind
printed_global g = printed_starred g.spec ++ maybe printed_value g.value

abbrev pub next_global : GlobalDecl → List Kind
next_global g = mark (codes ",") ∷ printed_global g

abbrev pub printed_globals : List GlobalDecl → List Kind
printed_globals [] = []
printed_globals (g ∷ decls) = printed_base g.spec.base ++ (printed_global g ++ each next_global decls)

abbrev pub next_param : Spec → List Kind
next_param s = mark (codes ",") ∷ printed_spec s

abbrev pub printed_params : List Spec → List Kind
printed_params [] = []
printed_params (s ∷ params) = printed_spec s ++ each next_param params

abbrev pub printed_head : Head → List Kind
printed_head h = printed_spec h.result ++ within (printed_params h.params)

abbrev pub printed_struct : Option Word → Option Body → List Kind
printed_struct tag body = key (codes "struct") ∷ (maybe printed_word tag ++ maybe printed_body body)

abbrev pub printed_top : Top → List Kind
printed_top (top.Struct tag body None) = ended (printed_struct tag body)
printed_top (top.Struct tag body (Some alias)) = ended (key (codes "typedef") ∷ (printed_struct tag body ++ printed_word alias))
printed_top (top.Globals decls) = ended (printed_globals decls)
printed_top (top.Proto h) = ended (printed_head h)
printed_top (top.Fun h b) = printed_head h ++ printed_block b

abbrev pub printed : Tree → List Kind
printed t = each printed_top t.tops

-- tokens of these kinds, each one byte long, from this offset on
abbrev pub numbered : ℕ → List Kind → List Token
numbered at [] = []
numbered at (k ∷ ks) = record { kind = k; start = at; end = at + 1 } ∷ numbered (at + 1) ks

abbrev pub tokens_of : List Kind → Tokens
tokens_of ks = record { list = numbered 0 ks; last_comment = None; size = length ks }
