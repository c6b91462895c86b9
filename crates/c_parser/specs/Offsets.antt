-- What all offsets and all constants of a tree have. The ends of items, blocks and `free` statements are left out.
use Rattle.std.specs.Prelude.{◌≤◌, ◌<◌, ℕ, ℤ, Bool, List, [], ◌∷◌, Option, Some, None}
use Rattle.c_lexer.specs.declared.token.Token.{Token}
use Rattle.c_lexer.specs.declared.token.Kind.{Kind}
use Rattle.c_lexer.specs.declared.token.Kind.TheVariants as kind
use Rattle.c_tree.specs.declared.expr.Oper.{Oper}
use Rattle.c_tree.specs.declared.expr.Sign.{Sign}
use Rattle.c_tree.specs.declared.tree.Arg.{Arg}
use Rattle.c_tree.specs.declared.tree.Arm.{Arm}
use Rattle.c_tree.specs.declared.tree.Base.{Base}
use Rattle.c_tree.specs.declared.tree.Base.TheVariants as base
use Rattle.c_tree.specs.declared.tree.Block.{Block}
use Rattle.c_tree.specs.declared.tree.Body.{Body}
use Rattle.c_tree.specs.declared.tree.Call.{Call}
use Rattle.c_tree.specs.declared.tree.Call.TheVariants as call
use Rattle.c_tree.specs.declared.tree.Declr.{Declr}
use Rattle.c_tree.specs.declared.tree.Expr.{Expr}
use Rattle.c_tree.specs.declared.tree.Expr.TheVariants as expr
use Rattle.c_tree.specs.declared.tree.ForHead.{ForHead}
use Rattle.c_tree.specs.declared.tree.Free.{Free}
use Rattle.c_tree.specs.declared.tree.GlobalDecl.{GlobalDecl}
use Rattle.c_tree.specs.declared.tree.Head.{Head}
use Rattle.c_tree.specs.declared.tree.Item.{Item}
use Rattle.c_tree.specs.declared.tree.Item.TheVariants as item
use Rattle.c_tree.specs.declared.tree.Piece.{Piece}
use Rattle.c_tree.specs.declared.tree.Right.{Right}
use Rattle.c_tree.specs.declared.tree.Right.TheVariants as right
use Rattle.c_tree.specs.declared.tree.Simple.{Simple}
use Rattle.c_tree.specs.declared.tree.Size.{Size}
use Rattle.c_tree.specs.declared.tree.Spec.{Spec}
use Rattle.c_tree.specs.declared.tree.Start.{Start}
use Rattle.c_tree.specs.declared.tree.Start.TheVariants as start
use Rattle.c_tree.specs.declared.tree.Top.{Top}
use Rattle.c_tree.specs.declared.tree.Top.TheVariants as top
use Rattle.c_tree.specs.declared.tree.Unit.{Unit as Counted}
use Rattle.c_tree.specs.declared.tree.Unit.TheVariants as unit
use Rattle.c_tree.specs.declared.tree.Word.{Word}
use Rattle.c_parser.specs.Blocks.{piece, arm, block}

-- each part of a list has it, and a part that may be missing

abbrev pub AllHave : {A : Type 0} → (A → Type 0) → List A → Type 0
AllHave Has [] = Unit {0}
AllHave Has (x ∷ xs) = Has x × AllHave Has xs

abbrev pub AnyHas : {A : Type 0} → (A → Type 0) → Option A → Type 0
AnyHas Has None = Unit {0}
AnyHas Has (Some x) = Has x

-- each offset of the part has P, and each constant Q

abbrev pub WordHas : (ℕ → Type 0) → Word → Type 0
WordHas P w = P w.at

abbrev pub BaseHas : (ℕ → Type 0) → Base → Type 0
BaseHas P base.Void = Unit {0}
BaseHas P base.Int = Unit {0}
BaseHas P (base.Tag w) = WordHas P w
BaseHas P (base.Alias w) = WordHas P w

abbrev pub SpecHas : (ℕ → Type 0) → Spec → Type 0
SpecHas P s = P s.at × BaseHas P s.base × AnyHas (WordHas P) s.name

pub data ExprHas (P : ℕ → Type 0) (Q : ℤ → Type 0) : Expr → Type 0 where
  const : {n : ℤ} {at : ℕ} → Q n → P at → ExprHas P Q (expr.Const n at)
  null : {at : ℕ} → P at → ExprHas P Q (expr.Null at)
  var : {w : Word} → P w.at → ExprHas P Q (expr.Var w)
  field : {e : Expr} {w : Word} {at : ℕ} → ExprHas P Q e → P w.at → P at → ExprHas P Q (expr.Field e w at)
  deref : {e : Expr} {at : ℕ} → ExprHas P Q e → P at → ExprHas P Q (expr.Deref e at)
  index : {e i : Expr} {at : ℕ} → ExprHas P Q e → ExprHas P Q i → P at → ExprHas P Q (expr.Index e i at)
  unary : {s : Sign} {e : Expr} {at : ℕ} → ExprHas P Q e → P at → ExprHas P Q (expr.Unary s e at)
  binary : {o : Oper} {a b : Expr} {at : ℕ} → ExprHas P Q a → ExprHas P Q b → P at → ExprHas P Q (expr.Binary o a b at)

abbrev pub ArgHas : (ℕ → Type 0) → (ℤ → Type 0) → Arg → Type 0
ArgHas P Q a = P a.at × ExprHas P Q a.expr

abbrev pub UnitHas : (ℕ → Type 0) → Counted → Type 0
UnitHas P (unit.Of s) = SpecHas P s
UnitHas P (unit.Star w) = WordHas P w

abbrev pub SizeHas : (ℕ → Type 0) → (ℤ → Type 0) → Size → Type 0
SizeHas P Q s = P s.at × UnitHas P s.unit × AnyHas (ExprHas P Q) s.count

abbrev pub CallHas : (ℕ → Type 0) → (ℤ → Type 0) → Call → Type 0
CallHas P Q (call.User w args close) = P w.at × AllHave (ArgHas P Q) args × P close
CallHas P Q (call.Malloc cast size at) = P at × AnyHas (SpecHas P) cast × SizeHas P Q size
CallHas P Q (call.Getchar at) = P at
CallHas P Q (call.Putchar a at) = P at × ArgHas P Q a
CallHas P Q (call.Printf text text_at args at close) = P at × P text_at × AllHave (ArgHas P Q) args × P close

abbrev pub RightHas : (ℕ → Type 0) → (ℤ → Type 0) → Right → Type 0
RightHas P Q (right.Plain a) = ArgHas P Q a
RightHas P Q (right.Call c) = CallHas P Q c

abbrev pub SimpleHas : (ℕ → Type 0) → (ℤ → Type 0) → Simple → Type 0
SimpleHas P Q s = ArgHas P Q s.place × P s.at × RightHas P Q s.right

abbrev pub DeclrHas : (ℕ → Type 0) → (ℤ → Type 0) → Declr → Type 0
DeclrHas P Q d = SpecHas P d.spec × P d.at × AnyHas (RightHas P Q) d.right

abbrev pub FreeHas : (ℕ → Type 0) → (ℤ → Type 0) → Free → Type 0
FreeHas P Q f = P f.start × ArgHas P Q f.expr

abbrev pub StartHas : (ℕ → Type 0) → (ℤ → Type 0) → Start → Type 0
StartHas P Q (start.Declare d) = DeclrHas P Q d
StartHas P Q (start.Assign s) = SimpleHas P Q s

abbrev pub ForHeadHas : (ℕ → Type 0) → (ℤ → Type 0) → ForHead → Type 0
ForHeadHas P Q h = AllHave (StartHas P Q) h.start × AnyHas (ExprHas P Q) h.test × AnyHas (SimpleHas P Q) h.step

mutual
  pub data ItemHas (P : ℕ → Type 0) (Q : ℤ → Type 0) : Item → Type 0 where
    declare : {ds : List Declr} → AllHave (DeclrHas P Q) ds → ItemHas P Q (item.Declare ds)
    assign : {s : Simple} → SimpleHas P Q s → ItemHas P Q (item.Assign s)
    does : {c : Call} → CallHas P Q c → ItemHas P Q (item.Do c)
    nest : {b : Block} → BlockHas P Q b → ItemHas P Q (item.Nest b)
    branch : {arms : List Arm} {last : Option Block} → ArmsHave P Q arms last → ItemHas P Q (item.If arms last)
    while : {e : Expr} {b : Block} → ExprHas P Q e → BlockHas P Q b → ItemHas P Q (item.While e b)
    for : {h : ForHead} {b : Block} → ForHeadHas P Q h → BlockHas P Q b → ItemHas P Q (item.For h b)
    break : ItemHas P Q item.Break
    continue : ItemHas P Q item.Continue
    return : {r : Option Right} {at : ℕ} → AnyHas (RightHas P Q) r → P at → ItemHas P Q (item.Return r at)

  -- arms, and the block of the last `else`
  pub data ArmsHave (P : ℕ → Type 0) (Q : ℤ → Type 0) : List Arm → Option Block → Type 0 where
    no_arm : ArmsHave P Q [] None
    otherwise : {b : Block} → BlockHas P Q b → ArmsHave P Q [] (Some b)
    more_arms : {e : Expr} {b : Block} {arms : List Arm} {last : Option Block} →
        ExprHas P Q e → BlockHas P Q b → ArmsHave P Q arms last → ArmsHave P Q (arm e b ∷ arms) last

  pub data BlockHas (P : ℕ → Type 0) (Q : ℤ → Type 0) : Block → Type 0 where
    parts : {pieces : List Piece} (frees : List Free) (braced : Bool) (begin end : ℕ) →
        PiecesHave P Q pieces → AllHave (FreeHas P Q) frees → P begin → BlockHas P Q (block pieces frees braced begin end)

  pub data PiecesHave (P : ℕ → Type 0) (Q : ℤ → Type 0) : List Piece → Type 0 where
    no_piece : PiecesHave P Q []
    more_pieces : (frees : List Free) {i : Item} (begin end : ℕ) {pieces : List Piece} →
        AllHave (FreeHas P Q) frees → ItemHas P Q i → P begin → PiecesHave P Q pieces → PiecesHave P Q (piece frees i begin end ∷ pieces)

abbrev pub BodyHas : (ℕ → Type 0) → Body → Type 0
BodyHas P b = P b.at × AllHave (SpecHas P) b.fields

abbrev pub GlobalHas : (ℕ → Type 0) → (ℤ → Type 0) → GlobalDecl → Type 0
GlobalHas P Q g = SpecHas P g.spec × P g.at × AnyHas (ExprHas P Q) g.value

abbrev pub HeadHas : (ℕ → Type 0) → Head → Type 0
HeadHas P h = SpecHas P h.result × AllHave (SpecHas P) h.params

abbrev pub TopHas : (ℕ → Type 0) → (ℤ → Type 0) → Top → Type 0
TopHas P Q (top.Struct tag body alias) = AnyHas (WordHas P) tag × AnyHas (BodyHas P) body × AnyHas (WordHas P) alias
TopHas P Q (top.Globals decls) = AllHave (GlobalHas P Q) decls
TopHas P Q (top.Proto h) = HeadHas P h
TopHas P Q (top.Fun h b) = HeadHas P h × BlockHas P Q b

-- each token of the list begins at an offset that has P, and each number among them has Q

abbrev pub NumberHas : (ℤ → Type 0) → Kind → Type 0
NumberHas Q (kind.Number n) = Q n
NumberHas Q _ = Unit {0}

abbrev pub TokensHave : (ℕ → Type 0) → (ℤ → Type 0) → List Token → Type 0
TokensHave P Q [] = Unit {0}
TokensHave P Q (t ∷ ts) = P t.start × NumberHas Q t.kind × TokensHave P Q ts

-- each number among the tokens has Q
abbrev pub NumbersHave : (ℤ → Type 0) → List Token → Type 0
NumbersHave Q [] = Unit {0}
NumbersHave Q (t ∷ ts) = NumberHas Q t.kind × NumbersHave Q ts

-- The offsets of each declaration lie from this one on, and before those of the next declaration; its constants have Q.
pub data InOrder (Q : ℤ → Type 0) : ℕ → List Top → Type 0 where
  ended : {from : ℕ} → InOrder Q from []
  more : {from to : ℕ} {x : Top} {others : List Top} →
      from ≤ to → TopHas (λ at. (from ≤ at) × (at < to)) Q x → InOrder Q to others → InOrder Q from (x ∷ others)
