-- The grammar of statements and blocks (C99 6.8). Besides its tree each has the end of its last token.
use Rattle.std.specs.Prelude.{◌≡◌, ℕ, Bool, true, false, List, [], ◌∷◌, map, Option, Some, None}
use Rattle.c_lexer.specs.declared.token.Token.{Token}
use Rattle.c_tree.specs.declared.tree.Arg.{Arg}
use Rattle.c_tree.specs.declared.tree.Arm.{Arm, roll-Arm}
use Rattle.c_tree.specs.declared.tree.Block.{Block, roll-Block}
use Rattle.c_tree.specs.declared.tree.Call.{Call}
use Rattle.c_tree.specs.declared.tree.Declr.{Declr}
use Rattle.c_tree.specs.declared.tree.Expr.{Expr}
use Rattle.c_tree.specs.declared.tree.ForHead.{ForHead}
use Rattle.c_tree.specs.declared.tree.Free.{Free}
use Rattle.c_tree.specs.declared.tree.Gap.{Gap}
use Rattle.c_tree.specs.declared.tree.Item.{Item}
use Rattle.c_tree.specs.declared.tree.Item.TheVariants as item
use Rattle.c_tree.specs.declared.tree.Piece.{Piece, roll-Piece}
use Rattle.c_tree.specs.declared.tree.Right.{Right}
use Rattle.c_tree.specs.declared.tree.Simple.{Simple}
use Rattle.c_tree.specs.declared.tree.Start.{Start}
use Rattle.c_tree.specs.declared.tree.Start.TheVariants as start
use Rattle.c_parser.specs.declared.term.Term.TheVariants as term
use Rattle.c_parser.specs.Term.{term_of, same, sees}
use Rattle.c_parser.specs.Expressions.{IsExpr, IsArg}
use Rattle.c_parser.specs.Statements.{IsCall, IsRight, IsSimple, IsDecl}

-- "free" "(" expr ")" ";"
pub data IsFree : Free → List Token → List Token → Type 0 where
  free : {t o c s : Token} {a : Arg} {ts us : List Token} →
      term_of t ≡ term.Free → term_of o ≡ term.Open → IsArg a ts (c ∷ s ∷ us) → term_of c ≡ term.Close → term_of s ≡ term.Semicolon
      → IsFree (record { expr = a; start = t.start; end = s.end }) (t ∷ o ∷ ts) us

-- the pieces of a gap: frees and lone `;`
pub data IsGap : List Free → List Token → List Token → Type 0 where
  done : {ts : List Token} → IsGap [] ts ts
  empty : {t : Token} {frees : List Free} {ts us : List Token} →
      term_of t ≡ term.Semicolon → IsGap frees ts us → IsGap frees (t ∷ ts) us
  free : {f : Free} {frees : List Free} {ts us vs : List Token} →
      IsFree f ts us → IsGap frees us vs → IsGap (f ∷ frees) ts vs

-- "(" expr ")"
pub data IsTest : Expr → List Token → List Token → Type 0 where
  test : {o c : Token} {e : Expr} {ts us : List Token} →
      term_of o ≡ term.Open → IsExpr e ts (c ∷ us) → term_of c ≡ term.Close → IsTest e (o ∷ ts) us

-- [decl | simple] ";"
pub data IsForStart : List Start → List Token → List Token → Type 0 where
  none : {t : Token} {ts : List Token} → term_of t ≡ term.Semicolon → IsForStart [] (t ∷ ts) ts
  declare : {declrs : List Declr} {t : Token} {ts us : List Token} →
      IsDecl declrs ts (t ∷ us) → term_of t ≡ term.Semicolon → IsForStart (map start.Declare declrs) ts us
  assign : {s : Simple} {t : Token} {ts us : List Token} →
      IsSimple s ts (t ∷ us) → term_of t ≡ term.Semicolon → IsForStart (start.Assign s ∷ []) ts us

-- [expr] ";"
pub data IsForTest : Option Expr → List Token → List Token → Type 0 where
  none : {t : Token} {ts : List Token} → term_of t ≡ term.Semicolon → IsForTest None (t ∷ ts) ts
  test : {e : Expr} {t : Token} {ts us : List Token} →
      IsExpr e ts (t ∷ us) → term_of t ≡ term.Semicolon → IsForTest (Some e) ts us

-- [simple] ")"
pub data IsForStep : Option Simple → List Token → List Token → Type 0 where
  none : {t : Token} {ts : List Token} → term_of t ≡ term.Close → IsForStep None (t ∷ ts) ts
  step : {s : Simple} {t : Token} {ts us : List Token} →
      IsSimple s ts (t ∷ us) → term_of t ≡ term.Close → IsForStep (Some s) ts us

-- "(" [decl | simple] ";" [expr] ";" [simple] ")"
pub data IsForHead : ForHead → List Token → List Token → Type 0 where
  head : {o : Token} {starts : List Start} {test : Option Expr} {step : Option Simple} {ts us vs ws : List Token} →
      term_of o ≡ term.Open → IsForStart starts ts us → IsForTest test us vs → IsForStep step vs ws
      → IsForHead (record { start = starts; test = test; step = step }) (o ∷ ts) ws

abbrev pub gap : List Free → Gap
gap frees = record { frees = frees }

abbrev pub piece : List Free → Item → ℕ → ℕ → Piece
piece frees i start end = roll-Piece (record { gap = gap frees; item = i; start = start; end = end })

abbrev pub arm : Expr → Block → Arm
arm e b = roll-Arm (record { test = e; body = b })

abbrev pub block : List Piece → List Free → Bool → ℕ → ℕ → Block
block pieces frees braced start end = roll-Block (record { items = pieces; last_gap = gap frees; braced = braced; start = start; end = end })

mutual
  -- item
  pub data IsItem : Item → ℕ → List Token → List Token → Type 0 where
    declare : {declrs : List Declr} {t : Token} {ts us : List Token} →
        IsDecl declrs ts (t ∷ us) → term_of t ≡ term.Semicolon → IsItem (item.Declare declrs) t.end ts us
    assign : {s : Simple} {t : Token} {ts us : List Token} →
        IsSimple s ts (t ∷ us) → term_of t ≡ term.Semicolon → IsItem (item.Assign s) t.end ts us
    call : {c : Call} {t : Token} {ts us : List Token} →
        IsCall c ts (t ∷ us) → term_of t ≡ term.Semicolon → IsItem (item.Do c) t.end ts us
    nest : {b : Block} {end : ℕ} {ts us : List Token} → IsBlock b end ts us → IsItem (item.Nest b) end ts us
    -- "if" "(" expr ")" body {"else" "if" "(" expr ")" body} ["else" body]
    branch : {t : Token} {e : Expr} {b : Block} {arms : List Arm} {last : Option Block} {end end' : ℕ} {ts us vs ws : List Token} →
        term_of t ≡ term.If → IsTest e ts us → IsBody b end us vs → IsElse arms last end end' vs ws
        → IsItem (item.If (arm e b ∷ arms) last) end' (t ∷ ts) ws
    while : {t : Token} {e : Expr} {b : Block} {end : ℕ} {ts us vs : List Token} →
        term_of t ≡ term.While → IsTest e ts us → IsBody b end us vs → IsItem (item.While e b) end (t ∷ ts) vs
    for : {t : Token} {h : ForHead} {b : Block} {end : ℕ} {ts us vs : List Token} →
        term_of t ≡ term.For → IsForHead h ts us → IsBody b end us vs → IsItem (item.For h b) end (t ∷ ts) vs
    break : {t s : Token} {ts : List Token} →
        term_of t ≡ term.Break → term_of s ≡ term.Semicolon → IsItem item.Break s.end (t ∷ s ∷ ts) ts
    continue : {t s : Token} {ts : List Token} →
        term_of t ≡ term.Continue → term_of s ≡ term.Semicolon → IsItem item.Continue s.end (t ∷ s ∷ ts) ts
    return : {t s : Token} {ts : List Token} →
        term_of t ≡ term.Return → term_of s ≡ term.Semicolon → IsItem (item.Return None t.start) s.end (t ∷ s ∷ ts) ts
    return_value : {t s : Token} {r : Right} {ts us : List Token} →
        term_of t ≡ term.Return → IsRight r ts (s ∷ us) → term_of s ≡ term.Semicolon → IsItem (item.Return (Some r) t.start) s.end (t ∷ ts) us

  -- {"else" "if" "(" expr ")" body} ["else" body] behind an arm that ends at the first place. An `else` goes to the
  -- nearest `if`, and directly before `if` it continues the arms.
  pub data IsElse : List Arm → Option Block → ℕ → ℕ → List Token → List Token → Type 0 where
    none : {end : ℕ} {ts : List Token} → sees term.Else ts ≡ false → IsElse [] None end end ts ts
    else_if : {t i : Token} {e : Expr} {b : Block} {arms : List Arm} {last : Option Block} {before end end' : ℕ} {ts us vs ws : List Token} →
        term_of t ≡ term.Else → term_of i ≡ term.If → IsTest e ts us → IsBody b end us vs → IsElse arms last end end' vs ws
        → IsElse (arm e b ∷ arms) last before end' (t ∷ i ∷ ts) ws
    otherwise : {t : Token} {b : Block} {before end : ℕ} {ts us : List Token} →
        term_of t ≡ term.Else → sees term.If ts ≡ false → IsBody b end ts us → IsElse [] (Some b) before end (t ∷ ts) us

  -- body = piece: a block as it is, or a block of that one piece
  pub data IsBody : Block → ℕ → List Token → List Token → Type 0 where
    braced : {b : Block} {end : ℕ} {ts us : List Token} → IsBlock b end ts us → IsBody b end ts us
    unbraced : {t : Token} {i : Item} {end : ℕ} {ts us : List Token} →
        same term.OpenBrace (term_of t) ≡ false → IsItem i end (t ∷ ts) us
        → IsBody (block (piece [] i t.start end ∷ []) [] false t.start end) end (t ∷ ts) us
    free : {f : Free} {ts us : List Token} → IsFree f ts us → IsBody (block [] (f ∷ []) false f.start f.end) f.end ts us
    empty : {t : Token} {ts : List Token} → term_of t ≡ term.Semicolon → IsBody (block [] [] false t.start t.end) t.end (t ∷ ts) ts

  -- block = "{" {piece} "}"
  pub data IsBlock : Block → ℕ → List Token → List Token → Type 0 where
    braces : {t : Token} {pieces : List Piece} {frees : List Free} {end : ℕ} {ts us : List Token} →
        term_of t ≡ term.OpenBrace → IsPieces pieces frees end ts us → IsBlock (block pieces frees true t.start end) end (t ∷ ts) us

  -- {piece} "}": the items, each behind its gap, the frees of the last gap, and the end of the brace
  pub data IsPieces : List Piece → List Free → ℕ → List Token → List Token → Type 0 where
    last : {t : Token} {frees : List Free} {ts us : List Token} →
        IsGap frees ts (t ∷ us) → term_of t ≡ term.CloseBrace → IsPieces [] frees t.end ts us
    more : {t : Token} {gap_frees frees : List Free} {i : Item} {others : List Piece} {end end' : ℕ} {ts us vs ws : List Token} →
        IsGap gap_frees ts (t ∷ us) → IsItem i end (t ∷ us) vs → IsPieces others frees end' vs ws
        → IsPieces (piece gap_frees i t.start end ∷ others) frees end' ts ws
