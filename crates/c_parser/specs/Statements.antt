-- The grammar of calls, assignments and declarations within functions (C99 6.5.2.2, 6.5.16, 6.7).
use Rattle.std.specs.Prelude.{◌≡◌, ℕ, ℤ, pos, List, [], ◌∷◌, Option, Some, None}
use Rattle.c_lexer.specs.declared.token.Token.{Token}
use Rattle.c_lexer.specs.declared.token.Kind.TheVariants as kind
use Rattle.c_tree.specs.declared.expr.Op.{Op}
use Rattle.c_tree.specs.declared.expr.Op.TheVariants as op
use Rattle.c_tree.specs.declared.tree.Arg.{Arg}
use Rattle.c_tree.specs.declared.tree.Base.{Base}
use Rattle.c_tree.specs.declared.tree.Call.{Call}
use Rattle.c_tree.specs.declared.tree.Call.TheVariants as call
use Rattle.c_tree.specs.declared.tree.Declr.{Declr}
use Rattle.c_tree.specs.declared.tree.Expr.{Expr}
use Rattle.c_tree.specs.declared.tree.Expr.TheVariants as expr
use Rattle.c_tree.specs.declared.tree.Right.{Right}
use Rattle.c_tree.specs.declared.tree.Right.TheVariants as right
use Rattle.c_tree.specs.declared.tree.Simple.{Simple}
use Rattle.c_tree.specs.declared.tree.Size.{Size}
use Rattle.c_tree.specs.declared.tree.Spec.{Spec}
use Rattle.c_parser.specs.declared.term.Term.{Term}
use Rattle.c_parser.specs.declared.term.Term.TheVariants as term
use Rattle.c_parser.specs.Term.{term_of, word}
use Rattle.c_parser.specs.Expressions.{IsPost, IsUnary, IsArg, arg}
use Rattle.c_parser.specs.Declarators.{IsBase, IsStars, IsCast, IsSize, spec}

-- {"," expr} ")", with the place of the `)`
pub data IsMoreArgs : List Arg → ℕ → List Token → List Token → Type 0 where
  close : {t : Token} {ts : List Token} → term_of t ≡ term.Close → IsMoreArgs [] t.start (t ∷ ts) ts
  comma : {t : Token} {a : Arg} {others : List Arg} {at : ℕ} {ts us vs : List Token} →
      term_of t ≡ term.Comma → IsArg a ts us → IsMoreArgs others at us vs → IsMoreArgs (a ∷ others) at (t ∷ ts) vs

-- [expr {"," expr}] ")"
pub data IsArgs : List Arg → ℕ → List Token → List Token → Type 0 where
  none : {t : Token} {ts : List Token} → term_of t ≡ term.Close → IsArgs [] t.start (t ∷ ts) ts
  some : {a : Arg} {others : List Arg} {at : ℕ} {ts us vs : List Token} →
      IsArg a ts us → IsMoreArgs others at us vs → IsArgs (a ∷ others) at ts vs

-- call
pub data IsCall : Call → List Token → List Token → Type 0 where
  -- N "(" [expr {"," expr}] ")"
  user : {n o : Token} {text : List ℕ} {args : List Arg} {at : ℕ} {ts us : List Token} →
      n.kind ≡ kind.Name text → term_of o ≡ term.Open → IsArgs args at ts us → IsCall (call.User (word text n) args at) (n ∷ o ∷ ts) us
  -- "getchar" "(" ")"
  getchar : {t o c : Token} {ts : List Token} →
      term_of t ≡ term.Getchar → term_of o ≡ term.Open → term_of c ≡ term.Close → IsCall (call.Getchar t.start) (t ∷ o ∷ c ∷ ts) ts
  -- "putchar" "(" expr ")"
  putchar : {t o c : Token} {a : Arg} {ts us : List Token} →
      term_of t ≡ term.Putchar → term_of o ≡ term.Open → IsArg a ts (c ∷ us) → term_of c ≡ term.Close
      → IsCall (call.Putchar a t.start) (t ∷ o ∷ ts) us
  -- "printf" "(" T {"," expr} ")"
  printf : {t o x : Token} {text : List ℕ} {args : List Arg} {at : ℕ} {ts us : List Token} →
      term_of t ≡ term.Printf → term_of o ≡ term.Open → x.kind ≡ kind.Text text → IsMoreArgs args at ts us
      → IsCall (call.Printf text x.start args t.start at) (t ∷ o ∷ x ∷ ts) us
  -- [ "(" base "*" ")" ] "malloc" "(" size ")"
  malloc : {cast : Option Spec} {t o c : Token} {size : Size} {ts us vs : List Token} →
      IsCast cast ts (t ∷ o ∷ us) → term_of t ≡ term.Malloc → term_of o ≡ term.Open → IsSize size us (c ∷ vs) → term_of c ≡ term.Close
      → IsCall (call.Malloc cast size t.start) ts vs

-- right = expr | call
pub data IsRight : Right → List Token → List Token → Type 0 where
  plain : {a : Arg} {ts us : List Token} → IsArg a ts us → IsRight (right.Plain a) ts us
  called : {c : Call} {ts us : List Token} → IsCall c ts us → IsRight (right.Call c) ts us

-- place = post | "*" unary
pub data IsPlace : Expr → List Token → List Token → Type 0 where
  post : {e : Expr} {ts us : List Token} → IsPost e ts us → IsPlace e ts us
  deref : {t : Token} {e : Expr} {ts us : List Token} →
      term_of t ≡ term.Star → IsUnary e ts us → IsPlace (expr.Deref e t.start) (t ∷ ts) us

-- "+=" | "-=" | "*="
abbrev pub change_of : Term → Option Op
change_of term.PlusPut = Some op.Add
change_of term.MinusPut = Some op.Sub
change_of term.StarPut = Some op.Mul
change_of _ = None

-- "++" | "--", which are `+= 1` and `-= 1`
abbrev pub step_of : Term → Option Op
step_of term.PlusPlus = Some op.Add
step_of term.MinusMinus = Some op.Sub
step_of _ = None

-- the place that begins at p, the operator at t
abbrev pub simple : Expr → Token → Op → Right → Token → Simple
simple e p o r t = record { place = arg e p; op = o; right = r; at = t.start }

abbrev pub one_at : Token → Right
one_at t = right.Plain (arg (expr.Const (pos 1) t.start) t)

-- simple = place "=" right | place ("+=" | "-=" | "*=") expr | post ("++" | "--") | ("++" | "--") unary
pub data IsSimple : Simple → List Token → List Token → Type 0 where
  put : {e : Expr} {r : Right} {p t : Token} {ts us vs : List Token} →
      IsPlace e (p ∷ ts) (t ∷ us) → term_of t ≡ term.Put → IsRight r us vs → IsSimple (simple e p op.Put r t) (p ∷ ts) vs
  change : {e : Expr} {a : Arg} {o : Op} {p t : Token} {ts us vs : List Token} →
      IsPlace e (p ∷ ts) (t ∷ us) → change_of (term_of t) ≡ Some o → IsArg a us vs
      → IsSimple (simple e p o (right.Plain a) t) (p ∷ ts) vs
  step_behind : {e : Expr} {o : Op} {p t : Token} {ts us : List Token} →
      IsPost e (p ∷ ts) (t ∷ us) → step_of (term_of t) ≡ Some o → IsSimple (simple e p o (one_at t) t) (p ∷ ts) us
  step_before : {e : Expr} {o : Op} {p t : Token} {ts us : List Token} →
      step_of (term_of t) ≡ Some o → IsUnary e (p ∷ ts) us → IsSimple (simple e p o (one_at t) t) (t ∷ p ∷ ts) us

-- ldecl = ["*"] N [ "=" right ], behind the base b that begins at the token f
pub data IsDeclr (b : Base) (f : Token) : Declr → List Token → List Token → Type 0 where
  bare : {n : Token} {stars : ℕ} {text : List ℕ} {ts us : List Token} →
      IsStars stars ts (n ∷ us) → n.kind ≡ kind.Name text
      → IsDeclr b f (record { spec = spec b f stars (Some (word text n)); right = None; at = n.start }) ts us
  given : {n t : Token} {stars : ℕ} {text : List ℕ} {r : Right} {ts us vs : List Token} →
      IsStars stars ts (n ∷ t ∷ us) → n.kind ≡ kind.Name text → term_of t ≡ term.Put → IsRight r us vs
      → IsDeclr b f (record { spec = spec b f stars (Some (word text n)); right = Some r; at = t.start }) ts vs

-- ldecl {"," ldecl}
pub data IsDeclrs (b : Base) (f : Token) : List Declr → List Token → List Token → Type 0 where
  last : {d : Declr} {ts us : List Token} → IsDeclr b f d ts us → IsDeclrs b f (d ∷ []) ts us
  more : {d : Declr} {others : List Declr} {t : Token} {ts us vs : List Token} →
      IsDeclr b f d ts (t ∷ us) → term_of t ≡ term.Comma → IsDeclrs b f others us vs → IsDeclrs b f (d ∷ others) ts vs

-- decl = base ldecl {"," ldecl}
pub data IsDecl : List Declr → List Token → List Token → Type 0 where
  decl : {b : Base} {f : Token} {declrs : List Declr} {ts us vs : List Token} →
      IsBase b (f ∷ ts) us → IsDeclrs b f declrs us vs → IsDecl declrs (f ∷ ts) vs
