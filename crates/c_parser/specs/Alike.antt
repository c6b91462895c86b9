-- Trees that are equal but for offsets, and for whether a body has braces.
use Rattle.std.specs.Prelude.{◌≡◌, ℕ, Bool, false, true, List, map, Option, option_map}
use Rattle.c_tree.specs.declared.tree.Arg.{Arg}
use Rattle.c_tree.specs.declared.tree.Arm.{Arm, roll-Arm}
use Rattle.c_tree.specs.declared.tree.Base.{Base}
use Rattle.c_tree.specs.declared.tree.Base.TheVariants as base
use Rattle.c_tree.specs.declared.tree.Block.{Block, roll-Block, fold-Block}
use Rattle.c_tree.specs.declared.tree.Body.{Body}
use Rattle.c_tree.specs.declared.tree.Call.{Call}
use Rattle.c_tree.specs.declared.tree.Call.TheVariants as call
use Rattle.c_tree.specs.declared.tree.Declr.{Declr}
use Rattle.c_tree.specs.declared.tree.Expr.{Expr, Expr-F, roll-Expr, fold-Expr}
use Rattle.c_tree.specs.declared.tree.Expr.TheOpen.{Const, Null, Var, Field, Deref, Index, Unary, Binary}
use Rattle.c_tree.specs.declared.tree.ForHead.{ForHead}
use Rattle.c_tree.specs.declared.tree.Free.{Free}
use Rattle.c_tree.specs.declared.tree.Gap.{Gap}
use Rattle.c_tree.specs.declared.tree.GlobalDecl.{GlobalDecl}
use Rattle.c_tree.specs.declared.tree.Head.{Head}
use Rattle.c_tree.specs.declared.tree.Item.{Item, Item-F, roll-Item}
use Rattle.c_tree.specs.declared.tree.Item.TheOpen.{Declare, Assign, Do, Nest, If, While, For, Break, Continue, Return}
use Rattle.c_tree.specs.declared.tree.Piece.{Piece, roll-Piece}
use Rattle.c_tree.specs.declared.tree.Right.{Right}
use Rattle.c_tree.specs.declared.tree.Right.TheVariants as right
use Rattle.c_tree.specs.declared.tree.Simple.{Simple}
use Rattle.c_tree.specs.declared.tree.Size.{Size}
use Rattle.c_tree.specs.declared.tree.Spec.{Spec}
use Rattle.c_tree.specs.declared.tree.Start.{Start}
use Rattle.c_tree.specs.declared.tree.Start.TheVariants as start
use Rattle.c_tree.specs.declared.tree.Top.{Top}
use Rattle.c_tree.specs.declared.tree.Top.TheVariants as top
use Rattle.c_tree.specs.declared.tree.Tree.{Tree}
use Rattle.c_tree.specs.declared.tree.Unit.{Unit as Counted}
use Rattle.c_tree.specs.declared.tree.Unit.TheVariants as unit
use Rattle.c_tree.specs.declared.tree.Word.{Word}

-- each part of a tree with every offset changed by f, and whether a block has braces changed by g

abbrev pub moved_word : (ℕ → ℕ) → Word → Word
moved_word f w = record w { at = f w.at }

abbrev pub moved_base : (ℕ → ℕ) → Base → Base
moved_base f base.Void = base.Void
moved_base f base.Int = base.Int
moved_base f (base.Tag w) = base.Tag (moved_word f w)
moved_base f (base.Alias w) = base.Alias (moved_word f w)

abbrev pub moved_spec : (ℕ → ℕ) → Spec → Spec
moved_spec f s = record { base = moved_base f s.base; stars = s.stars; name = option_map (moved_word f) s.name; at = f s.at }

abbrev pub moved_layer : {A : Type 0} → (ℕ → ℕ) → Expr-F A → Expr-F A
moved_layer f (Const n at) = Const n (f at)
moved_layer f (Null at) = Null (f at)
moved_layer f (Var w) = Var (moved_word f w)
moved_layer f (Field e w at) = Field e (moved_word f w) (f at)
moved_layer f (Deref e at) = Deref e (f at)
moved_layer f (Index e i at) = Index e i (f at)
moved_layer f (Unary s e at) = Unary s e (f at)
moved_layer f (Binary o a b at) = Binary o a b (f at)

abbrev pub moved_expr : (ℕ → ℕ) → Expr → Expr
moved_expr f = fold-Expr Expr (λ l. roll-Expr (moved_layer f l))

abbrev pub moved_arg : (ℕ → ℕ) → Arg → Arg
moved_arg f a = record { expr = moved_expr f a.expr; at = f a.at }

abbrev pub moved_unit : (ℕ → ℕ) → Counted → Counted
moved_unit f (unit.Of s) = unit.Of (moved_spec f s)
moved_unit f (unit.Star w) = unit.Star (moved_word f w)

abbrev pub moved_size : (ℕ → ℕ) → Size → Size
moved_size f s = record { unit = moved_unit f s.unit; count = option_map (moved_expr f) s.count; at = f s.at }

abbrev pub moved_call : (ℕ → ℕ) → Call → Call
moved_call f (call.User w args at) = call.User (moved_word f w) (map (moved_arg f) args) (f at)
moved_call f (call.Malloc cast size at) = call.Malloc (option_map (moved_spec f) cast) (moved_size f size) (f at)
moved_call f (call.Getchar at) = call.Getchar (f at)
moved_call f (call.Putchar a at) = call.Putchar (moved_arg f a) (f at)
moved_call f (call.Printf text text_at args at end) = call.Printf text (f text_at) (map (moved_arg f) args) (f at) (f end)

abbrev pub moved_right : (ℕ → ℕ) → Right → Right
moved_right f (right.Plain a) = right.Plain (moved_arg f a)
moved_right f (right.Call c) = right.Call (moved_call f c)

abbrev pub moved_declr : (ℕ → ℕ) → Declr → Declr
moved_declr f d = record { spec = moved_spec f d.spec; right = option_map (moved_right f) d.right; at = f d.at }

abbrev pub moved_simple : (ℕ → ℕ) → Simple → Simple
moved_simple f s = record { place = moved_arg f s.place; op = s.op; right = moved_right f s.right; at = f s.at }

abbrev pub moved_start : (ℕ → ℕ) → Start → Start
moved_start f (start.Declare d) = start.Declare (moved_declr f d)
moved_start f (start.Assign s) = start.Assign (moved_simple f s)

abbrev pub moved_for_head : (ℕ → ℕ) → ForHead → ForHead
moved_for_head f h = record { start = map (moved_start f) h.start; test = option_map (moved_expr f) h.test; step = option_map (moved_simple f) h.step }

abbrev pub moved_free : (ℕ → ℕ) → Free → Free
moved_free f x = record { expr = moved_arg f x.expr; start = f x.start; end = f x.end }

abbrev pub moved_gap : (ℕ → ℕ) → Gap → Gap
moved_gap f g = record { frees = map (moved_free f) g.frees }

abbrev pub moved_item : (ℕ → ℕ) → Item-F Item Arm Block Piece → Item-F Item Arm Block Piece
moved_item f (Declare ds) = Declare (map (moved_declr f) ds)
moved_item f (Assign s) = Assign (moved_simple f s)
moved_item f (Do c) = Do (moved_call f c)
moved_item f (Nest b) = Nest b
moved_item f (If arms otherwise) = If arms otherwise
moved_item f (While test body) = While (moved_expr f test) body
moved_item f (For head body) = For (moved_for_head f head) body
moved_item f Break = Break
moved_item f Continue = Continue
moved_item f (Return value at) = Return (option_map (moved_right f) value) (f at)

abbrev pub moved_block : (ℕ → ℕ) → (Bool → Bool) → Block → Block
moved_block f g = fold-Block Item Arm Block Piece (λ i. roll-Item (moved_item f i))
    (λ a. roll-Arm (record a { test = moved_expr f a.test }))
    (λ b. roll-Block (record b { last_gap = moved_gap f b.last_gap; braced = g b.braced; start = f b.start; end = f b.end }))
    (λ p. roll-Piece (record p { gap = moved_gap f p.gap; start = f p.start; end = f p.end }))

abbrev pub moved_body : (ℕ → ℕ) → Body → Body
moved_body f b = record { fields = map (moved_spec f) b.fields; at = f b.at }

abbrev pub moved_global : (ℕ → ℕ) → GlobalDecl → GlobalDecl
moved_global f g = record { spec = moved_spec f g.spec; value = option_map (moved_expr f) g.value; at = f g.at }

abbrev pub moved_head : (ℕ → ℕ) → Head → Head
moved_head f h = record { result = moved_spec f h.result; params = map (moved_spec f) h.params }

abbrev pub moved_top : (ℕ → ℕ) → (Bool → Bool) → Top → Top
moved_top f g (top.Struct tag body alias) = top.Struct (option_map (moved_word f) tag) (option_map (moved_body f) body) (option_map (moved_word f) alias)
moved_top f g (top.Globals decls) = top.Globals (map (moved_global f) decls)
moved_top f g (top.Proto h) = top.Proto (moved_head f h)
moved_top f g (top.Fun h b) = top.Fun (moved_head f h) (moved_block f g b)

abbrev pub moved : (ℕ → ℕ) → (Bool → Bool) → Tree → Tree
moved f g t = record { tops = map (moved_top f g) t.tops; end = f t.end }

-- equal but for offsets and for whether a body has braces
abbrev pub IsAlike : Tree → Tree → Type 0
IsAlike t u = moved (λ at. 0) (λ braced. false) t ≡ moved (λ at. 0) (λ braced. false) u

-- every body has braces
abbrev pub IsBraced : Tree → Type 0
IsBraced t = moved (λ at. at) (λ braced. true) t ≡ t
