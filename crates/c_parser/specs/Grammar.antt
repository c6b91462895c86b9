-- The grammar of a file (C99 6.9), and the relation between a tree and the tokens that it generates.
use Rattle.std.specs.Prelude.{◌≡◌, ℕ, ℤ, pos, negsuc, List, [], ◌∷◌, ◌++◌, Option, Some, None}
use Rattle.c_lexer.specs.declared.token.Token.{Token}
use Rattle.c_lexer.specs.declared.token.Tokens.{Tokens}
use Rattle.c_lexer.specs.declared.token.Kind.TheVariants as kind
use Rattle.c_tree.specs.declared.expr.Sign.TheVariants as sign
use Rattle.c_tree.specs.declared.tree.Base.{Base}
use Rattle.c_tree.specs.declared.tree.Base.TheVariants as base
use Rattle.c_tree.specs.declared.tree.Block.{Block}
use Rattle.c_tree.specs.declared.tree.Body.{Body}
use Rattle.c_tree.specs.declared.tree.Expr.{Expr}
use Rattle.c_tree.specs.declared.tree.Expr.TheVariants as expr
use Rattle.c_tree.specs.declared.tree.GlobalDecl.{GlobalDecl}
use Rattle.c_tree.specs.declared.tree.Head.{Head}
use Rattle.c_tree.specs.declared.tree.Spec.{Spec}
use Rattle.c_tree.specs.declared.tree.Top.{Top}
use Rattle.c_tree.specs.declared.tree.Top.TheVariants as top
use Rattle.c_tree.specs.declared.tree.Tree.{Tree}
use Rattle.c_tree.specs.declared.tree.Word.{Word}
use Rattle.c_parser.specs.declared.term.Term.TheVariants as term
use Rattle.c_parser.specs.Term.{term_of, word}
use Rattle.c_parser.specs.Declarators.{IsBase, IsStars, IsOptionalName, spec}
use Rattle.c_parser.specs.Blocks.{IsBlock}

-- ["*"] N {"," ["*"] N} ";", behind the base b that begins at the token f
pub data IsFieldNames (b : Base) (f : Token) : List Spec → List Token → List Token → Type 0 where
  last : {n t : Token} {stars : ℕ} {text : List ℕ} {ts us : List Token} →
      IsStars stars ts (n ∷ t ∷ us) → n.kind ≡ kind.Name text → term_of t ≡ term.Semicolon
      → IsFieldNames b f (spec b f stars (Some (word text n)) ∷ []) ts us
  more : {n t : Token} {stars : ℕ} {text : List ℕ} {others : List Spec} {ts us vs : List Token} →
      IsStars stars ts (n ∷ t ∷ us) → n.kind ≡ kind.Name text → term_of t ≡ term.Comma → IsFieldNames b f others us vs
      → IsFieldNames b f (spec b f stars (Some (word text n)) ∷ others) ts vs

-- field {field} "}", where field = base ["*"] N {"," ["*"] N} ";"
pub data IsFields : List Spec → List Token → List Token → Type 0 where
  last : {b : Base} {f c : Token} {fields : List Spec} {ts us vs : List Token} →
      IsBase b (f ∷ ts) us → IsFieldNames b f fields us (c ∷ vs) → term_of c ≡ term.CloseBrace → IsFields fields (f ∷ ts) vs
  more : {b : Base} {f : Token} {fields others : List Spec} {ts us vs ws : List Token} →
      IsBase b (f ∷ ts) us → IsFieldNames b f fields us vs → IsFields others vs ws → IsFields (fields ++ others) (f ∷ ts) ws

-- "{" field {field} "}"
pub data IsStructBody : Body → List Token → List Token → Type 0 where
  body : {o : Token} {fields : List Spec} {ts us : List Token} →
      term_of o ≡ term.OpenBrace → IsFields fields ts us → IsStructBody (record { fields = fields; at = o.start }) (o ∷ ts) us

-- const = ["-"] K | "NULL" | "EOF"
pub data IsConst : Expr → List Token → List Token → Type 0 where
  number : {t : Token} {value : ℤ} {ts : List Token} →
      t.kind ≡ kind.Number value → IsConst (expr.Const value t.start) (t ∷ ts) ts
  minus : {m t : Token} {value : ℤ} {ts : List Token} →
      term_of m ≡ term.Minus → t.kind ≡ kind.Number value → IsConst (expr.Unary sign.Minus (expr.Const value t.start) m.start) (m ∷ t ∷ ts) ts
  null : {t : Token} {ts : List Token} → term_of t ≡ term.Null → IsConst (expr.Null t.start) (t ∷ ts) ts
  eof : {t : Token} {ts : List Token} → term_of t ≡ term.Eof → IsConst (expr.Const (negsuc 0) t.start) (t ∷ ts) ts

-- gdecl = ["*"] N [ "=" const ], behind the base b that begins at the token f
pub data IsGlobal (b : Base) (f : Token) : GlobalDecl → List Token → List Token → Type 0 where
  bare : {n : Token} {stars : ℕ} {text : List ℕ} {ts us : List Token} →
      IsStars stars ts (n ∷ us) → n.kind ≡ kind.Name text
      → IsGlobal b f (record { spec = spec b f stars (Some (word text n)); value = None; at = n.start }) ts us
  given : {n t : Token} {stars : ℕ} {text : List ℕ} {e : Expr} {ts us vs : List Token} →
      IsStars stars ts (n ∷ t ∷ us) → n.kind ≡ kind.Name text → term_of t ≡ term.Put → IsConst e us vs
      → IsGlobal b f (record { spec = spec b f stars (Some (word text n)); value = Some e; at = t.start }) ts vs

-- gdecl {"," gdecl} ";"
pub data IsGlobals (b : Base) (f : Token) : List GlobalDecl → List Token → List Token → Type 0 where
  last : {g : GlobalDecl} {t : Token} {ts us : List Token} →
      IsGlobal b f g ts (t ∷ us) → term_of t ≡ term.Semicolon → IsGlobals b f (g ∷ []) ts us
  more : {g : GlobalDecl} {others : List GlobalDecl} {t : Token} {ts us vs : List Token} →
      IsGlobal b f g ts (t ∷ us) → term_of t ≡ term.Comma → IsGlobals b f others us vs → IsGlobals b f (g ∷ others) ts vs

-- param = base ["*"] [N]
pub data IsParam : Spec → List Token → List Token → Type 0 where
  param : {b : Base} {f : Token} {stars : ℕ} {name : Option Word} {ts us vs ws : List Token} →
      IsBase b (f ∷ ts) us → IsStars stars us vs → IsOptionalName name vs ws → IsParam (spec b f stars name) (f ∷ ts) ws

-- {"," param} ")"
pub data IsMoreParams : List Spec → List Token → List Token → Type 0 where
  close : {t : Token} {ts : List Token} → term_of t ≡ term.Close → IsMoreParams [] (t ∷ ts) ts
  comma : {t : Token} {p : Spec} {others : List Spec} {ts us vs : List Token} →
      term_of t ≡ term.Comma → IsParam p ts us → IsMoreParams others us vs → IsMoreParams (p ∷ others) (t ∷ ts) vs

-- params ")", where params = nothing | "void" | param {"," param}
pub data IsParams : List Spec → List Token → List Token → Type 0 where
  nothing : {t : Token} {ts : List Token} → term_of t ≡ term.Close → IsParams [] (t ∷ ts) ts
  void : {v t : Token} {ts : List Token} → term_of v ≡ term.Void → term_of t ≡ term.Close → IsParams [] (v ∷ t ∷ ts) ts
  some : {p : Spec} {others : List Spec} {ts us vs : List Token} →
      IsParam p ts us → IsMoreParams others us vs → IsParams (p ∷ others) ts vs

-- result N "(" params ")", where result = "void" | base ["*"]
pub data IsHead : Head → List Token → List Token → Type 0 where
  void : {t n o : Token} {text : List ℕ} {params : List Spec} {ts us : List Token} →
      term_of t ≡ term.Void → n.kind ≡ kind.Name text → term_of o ≡ term.Open → IsParams params ts us
      → IsHead (record { result = spec base.Void t 0 (Some (word text n)); params = params }) (t ∷ n ∷ o ∷ ts) us
  value : {b : Base} {f n o : Token} {stars : ℕ} {text : List ℕ} {params : List Spec} {ts us vs ws : List Token} →
      IsBase b (f ∷ ts) us → IsStars stars us (n ∷ o ∷ vs) → n.kind ≡ kind.Name text → term_of o ≡ term.Open → IsParams params vs ws
      → IsHead (record { result = spec b f stars (Some (word text n)); params = params }) (f ∷ ts) ws

-- top
pub data IsTop : Top → List Token → List Token → Type 0 where
  -- "typedef" "struct" N N ";"
  alias : {t s n m e : Token} {tag text : List ℕ} {ts : List Token} →
      term_of t ≡ term.Typedef → term_of s ≡ term.Struct → n.kind ≡ kind.Name tag → m.kind ≡ kind.Name text → term_of e ≡ term.Semicolon
      → IsTop (top.Struct (Some (word tag n)) None (Some (word text m))) (t ∷ s ∷ n ∷ m ∷ e ∷ ts) ts
  -- "typedef" "struct" [N] "{" field {field} "}" N ";"
  alias_of_body : {t s m e : Token} {tag : Option Word} {text : List ℕ} {body : Body} {ts us vs : List Token} →
      term_of t ≡ term.Typedef → term_of s ≡ term.Struct → IsOptionalName tag ts us → IsStructBody body us (m ∷ e ∷ vs)
      → m.kind ≡ kind.Name text → term_of e ≡ term.Semicolon → IsTop (top.Struct tag (Some body) (Some (word text m))) (t ∷ s ∷ ts) vs
  -- "struct" N ";"
  tag : {s n e : Token} {text : List ℕ} {ts : List Token} →
      term_of s ≡ term.Struct → n.kind ≡ kind.Name text → term_of e ≡ term.Semicolon
      → IsTop (top.Struct (Some (word text n)) None None) (s ∷ n ∷ e ∷ ts) ts
  -- "struct" N "{" field {field} "}" ";"
  tag_of_body : {s n e : Token} {text : List ℕ} {body : Body} {ts us : List Token} →
      term_of s ≡ term.Struct → n.kind ≡ kind.Name text → IsStructBody body ts (e ∷ us) → term_of e ≡ term.Semicolon
      → IsTop (top.Struct (Some (word text n)) (Some body) None) (s ∷ n ∷ ts) us
  -- base gdecl {"," gdecl} ";"
  globals : {b : Base} {f : Token} {decls : List GlobalDecl} {ts us vs : List Token} →
      IsBase b (f ∷ ts) us → IsGlobals b f decls us vs → IsTop (top.Globals decls) (f ∷ ts) vs
  -- result N "(" params ")" ";"
  prototype : {h : Head} {e : Token} {ts us : List Token} →
      IsHead h ts (e ∷ us) → term_of e ≡ term.Semicolon → IsTop (top.Proto h) ts us
  -- result N "(" params ")" block
  function : {h : Head} {b : Block} {end : ℕ} {ts us vs : List Token} →
      IsHead h ts us → IsBlock b end us vs → IsTop (top.Fun h b) ts vs

-- file = { top }
pub data IsFile : List Top → List Token → Type 0 where
  done : IsFile [] []
  more : {x : Top} {others : List Top} {ts us : List Token} → IsTop x ts us → IsFile others us → IsFile (x ∷ others) ts

-- the tree generates the tokens of a text of this size
pub record Generates (tree : Tree) (tokens : Tokens) : Type 0 where
  pub file : IsFile tree.tops tokens.list
  pub end : tree.end ≡ tokens.size
