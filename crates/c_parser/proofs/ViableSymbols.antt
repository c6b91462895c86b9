-- What each symbol of the recogniser stands for: the tokens that it goes over, up to those that are left. A symbol that stands
-- behind what was read (`OfTagged` and the like) is told by what that becomes with these tokens behind it.
use Rattle.std.proofs.Common.{◌≡◌, ℕ, false, List, [], ◌∷◌, ◌++◌, Option, Some, None}
use Rattle.c_lexer.specs.declared.token.Token.{Token}
use Rattle.c_lexer.specs.declared.token.Kind.TheVariants as kind
use Rattle.c_tree.specs.declared.expr.Op.{Op}
use Rattle.c_tree.specs.declared.expr.Oper.{Oper}
use Rattle.c_tree.specs.declared.tree.Arg.{Arg}
use Rattle.c_tree.specs.declared.tree.Arm.{Arm}
use Rattle.c_tree.specs.declared.tree.Base.{Base}
use Rattle.c_tree.specs.declared.tree.Block.{Block}
use Rattle.c_tree.specs.declared.tree.Call.{Call}
use Rattle.c_tree.specs.declared.tree.Declr.{Declr}
use Rattle.c_tree.specs.declared.tree.Expr.{Expr}
use Rattle.c_tree.specs.declared.tree.Free.{Free}
use Rattle.c_tree.specs.declared.tree.GlobalDecl.{GlobalDecl}
use Rattle.c_tree.specs.declared.tree.Item.{Item}
use Rattle.c_tree.specs.declared.tree.Piece.{Piece}
use Rattle.c_tree.specs.declared.tree.Right.{Right}
use Rattle.c_tree.specs.declared.tree.Simple.{Simple}
use Rattle.c_tree.specs.declared.tree.Size.{Size}
use Rattle.c_tree.specs.declared.tree.Spec.{Spec}
use Rattle.c_tree.specs.declared.tree.Start.{Start}
use Rattle.c_tree.specs.declared.tree.Top.{Top}
use Rattle.c_tree.specs.declared.tree.Unit.{Unit as Counted}
use Rattle.c_tree.specs.declared.tree.Word.{Word}
use Rattle.c_parser.specs.declared.symbol.Part.{Part}
use Rattle.c_parser.specs.declared.symbol.Part.TheVariants.{Whole, Factor, Count, Target, Pointed}
use Rattle.c_parser.specs.declared.symbol.Symbol.{Symbol}
use Rattle.c_parser.specs.declared.symbol.Symbol.TheVariants as symbol
use Rattle.c_parser.specs.declared.term.Term.{Term}
use Rattle.c_parser.specs.declared.term.Term.TheVariants as term
use Rattle.c_parser.specs.Term.{sees, term_of}
use Rattle.c_parser.specs.Expressions.{IsExpr, IsPosts, IsUnary, oper_of, product_of}
use Rattle.c_parser.specs.Declarators.{IsBase, IsOptionalName, IsSize, IsStars, IsUnit}
use Rattle.c_parser.specs.Statements.{IsArgs, IsCall, IsDeclr, IsDeclrs, IsMoreArgs, IsRight, IsSimple, change_of, step_of}
use Rattle.c_parser.specs.Blocks.{IsBlock, IsBody, IsElse, IsForStart, IsForStep, IsForTest, IsItem, IsPieces, IsTest}
use Rattle.c_parser.specs.Grammar.{IsConst, IsFieldNames, IsFields, IsGlobal, IsGlobals, IsMoreParams, IsParam, IsParams, IsTop}
use Rattle.c_parser.specs.Recogniser.{Row, followed}

-- no token
pub data Nothing : List Token → List Token → Type 0 where
  nothing : {ts : List Token} → Nothing ts ts

-- one token of this term
pub data AToken (x : Term) : List Token → List Token → Type 0 where
  token : {t : Token} {ts : List Token} → term_of t ≡ x → AToken x (t ∷ ts) ts

-- some expr, right side, request, ..

pub data AnExpr : List Token → List Token → Type 0 where
  expr : {e : Expr} {ts us : List Token} → IsExpr e ts us → AnExpr ts us

pub data ACall : List Token → List Token → Type 0 where
  call : {c : Call} {ts us : List Token} → IsCall c ts us → ACall ts us

pub data ARight : List Token → List Token → Type 0 where
  right : {r : Right} {ts us : List Token} → IsRight r ts us → ARight ts us

pub data SomeArgs : List Token → List Token → Type 0 where
  args : {args : List Arg} {at : ℕ} {ts us : List Token} → IsArgs args at ts us → SomeArgs ts us

pub data SomeMoreArgs : List Token → List Token → Type 0 where
  more_args : {args : List Arg} {at : ℕ} {ts us : List Token} → IsMoreArgs args at ts us → SomeMoreArgs ts us

pub data AUnit : List Token → List Token → Type 0 where
  unit : {u : Counted} {at : ℕ} {ts us : List Token} → IsUnit u at ts us → AUnit ts us

pub data ASize : List Token → List Token → Type 0 where
  size : {z : Size} {ts us : List Token} → IsSize z ts us → ASize ts us

pub data ASimple : List Token → List Token → Type 0 where
  simple : {s : Simple} {ts us : List Token} → IsSimple s ts us → ASimple ts us

-- expressions

-- the operators and operands behind an operand of an expr, flat
pub data Operands : List Token → List Token → Type 0 where
  none : {ts : List Token} → Operands ts ts
  more : (k : ℕ) {o : Oper} {e : Expr} {t : Token} {ts us vs : List Token} →
      oper_of k (term_of t) ≡ Some o → IsUnary e ts us → Operands us vs → Operands (t ∷ ts) vs

-- the operators and operands of products behind an operand of a count, up to and with `*` and a unit
pub data Factors : List Token → List Token → Type 0 where
  last : {t : Token} {ts us : List Token} → term_of t ≡ term.Star → AUnit ts us → Factors (t ∷ ts) us
  more : {o : Oper} {e : Expr} {t : Token} {ts us vs : List Token} →
      product_of (term_of t) ≡ Some o → IsUnary e ts us → Factors us vs → Factors (t ∷ ts) vs

-- what changes a place
pub data AChange : List Token → List Token → Type 0 where
  put : {t : Token} {ts us : List Token} → term_of t ≡ term.Put → ARight ts us → AChange (t ∷ ts) us
  change : {o : Op} {t : Token} {ts us : List Token} → change_of (term_of t) ≡ Some o → AnExpr ts us → AChange (t ∷ ts) us

-- and a post besides
pub data AStep : List Token → List Token → Type 0 where
  changed : {ts us : List Token} → AChange ts us → AStep ts us
  stepped : {o : Op} {t : Token} {ts : List Token} → step_of (term_of t) ≡ Some o → AStep (t ∷ ts) ts

-- what stands behind an operand of this part
abbrev pub Behind : Part → List Token → List Token → Type 0
Behind Whole ts us = Operands ts us
Behind Factor ts us = Nothing ts us
Behind Count ts us = Factors ts us
Behind Target ts us = AStep ts us
Behind Pointed ts us = AChange ts us

-- an operand and what stands behind it
pub data AnOperand (p : Part) : List Token → List Token → Type 0 where
  operand : {e : Expr} {ts us vs : List Token} → IsUnary e ts us → Behind p us vs → AnOperand p ts vs

-- what stands behind any prim: fields and indices
abbrev pub APosts : List Token → List Token → Type 0
APosts ts us = (a : Expr) → (e : Expr) × IsPosts a e ts us

-- these, and what stands behind the operand
pub data AnAfter (p : Part) : List Token → List Token → Type 0 where
  after : {ts us vs : List Token} → APosts ts us → Behind p us vs → AnAfter p ts vs

-- right sides and calls

-- "malloc" "(" size ")"
pub data ARequest : List Token → List Token → Type 0 where
  request : {m o c : Token} {z : Size} {ts us : List Token} →
      term_of m ≡ term.Malloc → term_of o ≡ term.Open → IsSize z ts (c ∷ us) → term_of c ≡ term.Close → ARequest (m ∷ o ∷ ts) us

-- "*" ")" and a request
pub data ACasted : List Token → List Token → Type 0 where
  casted : {s c : Token} {ts us : List Token} → term_of s ≡ term.Star → term_of c ≡ term.Close → ARequest ts us → ACasted (s ∷ c ∷ ts) us

-- behind a `(`: the rest of a cast with its request, or of a group
pub data AnOpened (p : Part) : List Token → List Token → Type 0 where
  cast : {b : Base} {f : Token} {ts us vs : List Token} → IsBase b (f ∷ ts) us → ACasted us vs → AnOpened p (f ∷ ts) vs
  group : {c : Token} {ts us vs : List Token} → AnExpr ts (c ∷ us) → term_of c ≡ term.Close → AnAfter p us vs → AnOpened p ts vs

-- behind `(` and a name
pub data AnOpenedName (p : Part) : List Token → List Token → Type 0 where
  cast : {ts us : List Token} → ACasted ts us → AnOpenedName p ts us
  group : {c : Token} {ts us vs : List Token} → AnAfter Whole ts (c ∷ us) → term_of c ≡ term.Close → AnAfter p us vs → AnOpenedName p ts vs

-- behind `(`, a name and `*`
pub data AnOpenedStar (p : Part) : List Token → List Token → Type 0 where
  cast : {c : Token} {ts us : List Token} → term_of c ≡ term.Close → ARequest ts us → AnOpenedStar p (c ∷ ts) us
  group : {c : Token} {ts us vs : List Token} → AnOperand Whole ts (c ∷ us) → term_of c ≡ term.Close → AnAfter p us vs → AnOpenedStar p ts vs

-- behind a name that begins a right side
pub data ANamed : List Token → List Token → Type 0 where
  call : {o : Token} {ts us : List Token} → term_of o ≡ term.Open → SomeArgs ts us → ANamed (o ∷ ts) us
  plain : {ts us : List Token} → AnAfter Whole ts us → ANamed ts us

-- sizes

-- a factor of a size behind `*`
pub data ANextFactor : List Token → List Token → Type 0 where
  unit : {ts us : List Token} → AUnit ts us → ANextFactor ts us
  factor : {ts us : List Token} → AnOperand Count ts us → ANextFactor ts us

-- behind `sizeof`
abbrev pub OfUnit : List Token → List Token → Type 0
OfUnit ts us = (z : Token) → term_of z ≡ term.Sizeof → AUnit (z ∷ ts) us

-- behind `sizeof` and `(`
abbrev pub OfUnitWithin : List Token → List Token → Type 0
OfUnitWithin ts us = (z o : Token) → term_of z ≡ term.Sizeof → term_of o ≡ term.Open → AUnit (z ∷ o ∷ ts) us

-- behind a unit that begins a size
pub data AnAfterUnit : List Token → List Token → Type 0 where
  none : {ts : List Token} → AnAfterUnit ts ts
  times : {t : Token} {e : Expr} {ts us : List Token} → term_of t ≡ term.Star → IsUnary e ts us → AnAfterUnit (t ∷ ts) us

-- declarations in a function, up to and with `;`

pub data SomeDeclrs (b : Base) (f : Token) : List Token → List Token → Type 0 where
  declrs : {ds : List Declr} {t : Token} {ts us : List Token} → IsDeclrs b f ds ts (t ∷ us) → term_of t ≡ term.Semicolon → SomeDeclrs b f ts us

abbrev pub OfLocal : List Token → List Token → Type 0
OfLocal ts us = (b : Base) (f : Token) → SomeDeclrs b f ts us

-- behind the name
abbrev pub OfAfterLocal : List Token → List Token → Type 0
OfAfterLocal ts us = (b : Base) (f n : Token) (stars : ℕ) (text : List ℕ) (ws : List Token) → IsStars stars ws (n ∷ ts) → n.kind ≡ kind.Name text → SomeDeclrs b f ws us

-- behind the declarator
abbrev pub OfMoreLocals : List Token → List Token → Type 0
OfMoreLocals ts us = (b : Base) (f : Token) (d : Declr) (ws : List Token) → IsDeclr b f d ws ts → SomeDeclrs b f ws us

-- statements

pub data ABody : List Token → List Token → Type 0 where
  body : {b : Block} {end : ℕ} {ts us : List Token} → IsBody b end ts us → ABody ts us

-- behind `if`
pub data ABranch : List Token → List Token → Type 0 where
  branch : {e : Expr} {b : Block} {arms : List Arm} {last : Option Block} {end end' : ℕ} {ts us vs ws : List Token} →
      IsTest e ts us → IsBody b end us vs → IsElse arms last end end' vs ws → ABranch ts ws

-- a body, with whether it begins with `if`: an `else` before it must be told from `else if`
pub data APiece : List Token → List Token → Type 0 where
  branch : {t : Token} {ts us : List Token} → term_of t ≡ term.If → ABranch ts us → APiece (t ∷ ts) us
  other : {ts us : List Token} → sees term.If ts ≡ false → ABody ts us → APiece ts us

pub data SomePieces : List Token → List Token → Type 0 where
  pieces : {pieces : List Piece} {frees : List Free} {end : ℕ} {ts us : List Token} → IsPieces pieces frees end ts us → SomePieces ts us

pub data AnItem : List Token → List Token → Type 0 where
  item : {i : Item} {end : ℕ} {ts us : List Token} → IsItem i end ts us → AnItem ts us

-- behind the name that begins the first part of a `for`
pub data AForBegun : List Token → List Token → Type 0 where
  declare : {ts us : List Token} → OfLocal ts us → AForBegun ts us
  assign : {s : Token} {ts us : List Token} → AnAfter Target ts (s ∷ us) → term_of s ≡ term.Semicolon → AForBegun ts us

-- behind the name that begins an item
pub data ABegun : List Token → List Token → Type 0 where
  call : {o s : Token} {ts us : List Token} → term_of o ≡ term.Open → SomeArgs ts (s ∷ us) → term_of s ≡ term.Semicolon → ABegun (o ∷ ts) us
  other : {ts us : List Token} → AForBegun ts us → ABegun ts us

-- behind an arm that ends at this place
pub data AnElse (before : ℕ) : List Token → List Token → Type 0 where
  arms : {arms : List Arm} {last : Option Block} {end : ℕ} {ts us : List Token} → IsElse arms last before end ts us → AnElse before ts us

-- behind each arm
abbrev pub OfOtherwise : List Token → List Token → Type 0
OfOtherwise ts us = (before : ℕ) → AnElse before ts us

-- behind `return`
abbrev pub OfReturned : List Token → List Token → Type 0
OfReturned ts us = (t : Token) → term_of t ≡ term.Return → AnItem (t ∷ ts) us

pub data AForStart : List Token → List Token → Type 0 where
  start : {starts : List Start} {ts us : List Token} → IsForStart starts ts us → AForStart ts us

pub data AForTest : List Token → List Token → Type 0 where
  test : {test : Option Expr} {ts us : List Token} → IsForTest test ts us → AForTest ts us

pub data AForStep : List Token → List Token → Type 0 where
  step : {step : Option Simple} {ts us : List Token} → IsForStep step ts us → AForStep ts us

-- external declarations

pub data ATop : List Token → List Token → Type 0 where
  top : {x : Top} {ts us : List Token} → IsTop x ts us → ATop ts us

pub data SomeTops : List Token → List Token → Type 0 where
  done : {ts : List Token} → SomeTops ts ts
  more : {ts us vs : List Token} → ATop ts us → SomeTops us vs → SomeTops ts vs

-- behind `typedef struct`
abbrev pub OfTypedef : List Token → List Token → Type 0
OfTypedef ts us = (t s : Token) → term_of t ≡ term.Typedef → term_of s ≡ term.Struct → ATop (t ∷ s ∷ ts) us

-- and a name
abbrev pub OfTypedefNamed : List Token → List Token → Type 0
OfTypedefNamed ts us = (t s n : Token) (text : List ℕ) → term_of t ≡ term.Typedef → term_of s ≡ term.Struct → n.kind ≡ kind.Name text → ATop (t ∷ s ∷ n ∷ ts) us

-- behind `struct` and a name
abbrev pub OfTagged : List Token → List Token → Type 0
OfTagged ts us = (s n : Token) (text : List ℕ) → term_of s ≡ term.Struct → n.kind ≡ kind.Name text → ATop (s ∷ n ∷ ts) us

pub data AField : List Token → List Token → Type 0 where
  field : {b : Base} {f : Token} {fields : List Spec} {ts us vs : List Token} → IsBase b (f ∷ ts) us → IsFieldNames b f fields us vs → AField (f ∷ ts) vs

pub data SomeFields : List Token → List Token → Type 0 where
  fields : {fields : List Spec} {ts us : List Token} → IsFields fields ts us → SomeFields ts us

-- behind a field
pub data SomeMoreFields : List Token → List Token → Type 0 where
  close : {c : Token} {ts : List Token} → term_of c ≡ term.CloseBrace → SomeMoreFields (c ∷ ts) ts
  more : {ts us : List Token} → SomeFields ts us → SomeMoreFields ts us

pub data AStarredName : List Token → List Token → Type 0 where
  starred : {stars : ℕ} {n : Token} {text : List ℕ} {ts us : List Token} → IsStars stars ts (n ∷ us) → n.kind ≡ kind.Name text → AStarredName ts us

pub data SomeFieldNames (b : Base) (f : Token) : List Token → List Token → Type 0 where
  names : {fields : List Spec} {ts us : List Token} → IsFieldNames b f fields ts us → SomeFieldNames b f ts us

-- behind a name of a field
pub data SomeMoreNames : List Token → List Token → Type 0 where
  end : {t : Token} {ts : List Token} → term_of t ≡ term.Semicolon → SomeMoreNames (t ∷ ts) ts
  more : {t : Token} {ts us : List Token} → term_of t ≡ term.Comma → ((b : Base) (f : Token) → SomeFieldNames b f ts us) → SomeMoreNames (t ∷ ts) us

pub data SomeGlobals (b : Base) (f : Token) : List Token → List Token → Type 0 where
  globals : {decls : List GlobalDecl} {ts us : List Token} → IsGlobals b f decls ts us → SomeGlobals b f ts us

abbrev pub OfGlobal : List Token → List Token → Type 0
OfGlobal ts us = (b : Base) (f : Token) → SomeGlobals b f ts us

-- behind the name
abbrev pub OfAfterGlobal : List Token → List Token → Type 0
OfAfterGlobal ts us = (b : Base) (f n : Token) (stars : ℕ) (text : List ℕ) (ws : List Token) → IsStars stars ws (n ∷ ts) → n.kind ≡ kind.Name text → SomeGlobals b f ws us

-- behind the declarator
abbrev pub OfMoreGlobals : List Token → List Token → Type 0
OfMoreGlobals ts us = (b : Base) (f : Token) (g : GlobalDecl) (ws : List Token) → IsGlobal b f g ws ts → SomeGlobals b f ws us

-- behind a base, in global declarations and functions
abbrev pub OfOuter : List Token → List Token → Type 0
OfOuter ts us = (b : Base) (f : Token) (ws : List Token) → IsBase b (f ∷ ws) ts → ATop (f ∷ ws) us

-- and behind the name
abbrev pub OfAfterOuter : List Token → List Token → Type 0
OfAfterOuter ts us = (b : Base) (f n : Token) (stars : ℕ) (text : List ℕ) (ws vs : List Token) → IsBase b (f ∷ ws) vs → IsStars stars vs (n ∷ ts) → n.kind ≡ kind.Name text → ATop (f ∷ ws) us

pub data AConst : List Token → List Token → Type 0 where
  const : {e : Expr} {ts us : List Token} → IsConst e ts us → AConst ts us

pub data SomeParams : List Token → List Token → Type 0 where
  params : {params : List Spec} {ts us : List Token} → IsParams params ts us → SomeParams ts us

pub data SomeMoreParams : List Token → List Token → Type 0 where
  more_params : {params : List Spec} {ts us : List Token} → IsMoreParams params ts us → SomeMoreParams ts us

-- a parameter and those behind it
pub data AParam : List Token → List Token → Type 0 where
  param : {p : Spec} {ts us vs : List Token} → IsParam p ts us → SomeMoreParams us vs → AParam ts vs

-- behind the star of a parameter
pub data AnAfterStar : List Token → List Token → Type 0 where
  name : {name : Option Word} {ts us vs : List Token} → IsOptionalName name ts us → SomeMoreParams us vs → AnAfterStar ts vs

-- behind the base of a parameter
pub data AnAfterBase : List Token → List Token → Type 0 where
  stars : {stars : ℕ} {ts us vs : List Token} → IsStars stars ts us → AnAfterStar us vs → AnAfterBase ts vs

-- behind the head of a function
pub data AnAfterHead : List Token → List Token → Type 0 where
  prototype : {t : Token} {ts : List Token} → term_of t ≡ term.Semicolon → AnAfterHead (t ∷ ts) ts
  function : {b : Block} {end : ℕ} {ts us : List Token} → IsBlock b end ts us → AnAfterHead ts us

-- all symbols

abbrev pub OfSymbol : Symbol → List Token → List Token → Type 0
OfSymbol (symbol.Want x) = AToken x
OfSymbol (symbol.Operand p) = AnOperand p
OfSymbol (symbol.After p) = AnAfter p
OfSymbol symbol.Right = ARight
OfSymbol symbol.Named = ANamed
OfSymbol (symbol.Opened p) = AnOpened p
OfSymbol (symbol.OpenedName p) = AnOpenedName p
OfSymbol (symbol.OpenedStar p) = AnOpenedStar p
OfSymbol symbol.Arguments = SomeArgs
OfSymbol symbol.MoreArguments = SomeMoreArgs
OfSymbol symbol.Size = ASize
OfSymbol symbol.NextFactor = ANextFactor
OfSymbol symbol.Unit = OfUnit
OfSymbol symbol.UnitWithin = OfUnitWithin
OfSymbol symbol.AfterUnit = AnAfterUnit
OfSymbol symbol.Local = OfLocal
OfSymbol symbol.AfterLocal = OfAfterLocal
OfSymbol symbol.MoreLocals = OfMoreLocals
OfSymbol symbol.Piece = APiece
OfSymbol symbol.Begun = ABegun
OfSymbol symbol.Pieces = SomePieces
OfSymbol symbol.Otherwise = OfOtherwise
OfSymbol symbol.Returned = OfReturned
OfSymbol symbol.ForStart = AForStart
OfSymbol symbol.ForBegun = AForBegun
OfSymbol symbol.ForTest = AForTest
OfSymbol symbol.ForStep = AForStep
OfSymbol symbol.File = SomeTops
OfSymbol symbol.Typedef = OfTypedef
OfSymbol symbol.TypedefNamed = OfTypedefNamed
OfSymbol symbol.Tagged = OfTagged
OfSymbol symbol.Field = AField
OfSymbol symbol.MoreFields = SomeMoreFields
OfSymbol symbol.StarredName = AStarredName
OfSymbol symbol.MoreNames = SomeMoreNames
OfSymbol symbol.Outer = OfOuter
OfSymbol symbol.AfterOuter = OfAfterOuter
OfSymbol symbol.Global = OfGlobal
OfSymbol symbol.AfterGlobal = OfAfterGlobal
OfSymbol symbol.MoreGlobals = OfMoreGlobals
OfSymbol symbol.Const = AConst
OfSymbol symbol.Parameters = SomeParams
OfSymbol symbol.Parameter = AParam
OfSymbol symbol.AfterBase = AnAfterBase
OfSymbol symbol.AfterStar = AnAfterStar
OfSymbol symbol.MoreParameters = SomeMoreParams
OfSymbol symbol.AfterHead = AnAfterHead

-- the symbols of a stack, one behind the other
pub data OfStack : List Symbol → List Token → List Token → Type 0 where
  done : {ts : List Token} → OfStack [] ts ts
  then : {s : Symbol} {stack : List Symbol} {ts us vs : List Token} → OfSymbol s ts us → OfStack stack us vs → OfStack (s ∷ stack) ts vs

-- what replaces a symbol
abbrev pub OfRow : Row → List Token → List Token → Type 0
OfRow None ts us = ⊥
OfRow (Some front) ts us = OfStack front ts us

-- Two stacks, one on the other.

pub data Parted (front stack : List Symbol) (ts vs : List Token) : Type 0 where
  parted : {us : List Token} → OfStack front ts us → OfStack stack us vs → Parted front stack ts vs

parted_then : {s : Symbol} {front stack : List Symbol} {ts us vs : List Token} → OfSymbol s ts us → Parted front stack us vs → Parted (s ∷ front) stack ts vs
parted_then first (Parted.parted above below) = Parted.parted (OfStack.then first above) below

pub part : (front stack : List Symbol) {ts vs : List Token} → OfStack (front ++ stack) ts vs → Parted front stack ts vs
part [] stack d = Parted.parted OfStack.done d
part (s ∷ front) stack (OfStack.then first d) = parted_then first (part front stack d)

-- A row with more behind it.

pub data PartedRow (row : Row) (stack : List Symbol) (ts vs : List Token) : Type 0 where
  parted : {us : List Token} → OfRow row ts us → OfStack stack us vs → PartedRow row stack ts vs

front_parted : {front stack : List Symbol} {ts vs : List Token} → Parted front stack ts vs → PartedRow (Some front) stack ts vs
front_parted (Parted.parted above below) = PartedRow.parted above below

pub part_row : (row : Row) (stack : List Symbol) {ts vs : List Token} → OfRow (followed row stack) ts vs → PartedRow row stack ts vs
part_row None stack d = absurd d
part_row (Some front) stack d = front_parted (part front stack d)
