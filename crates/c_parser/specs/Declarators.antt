-- The grammar of types and of requests (C99 6.7, 6.5.3.4): base, declarators, cast and size.
use Rattle.std.specs.Prelude.{◌≡◌, ℕ, List, [], ◌∷◌, Option, Some, None}
use Rattle.c_lexer.specs.declared.token.Token.{Token}
use Rattle.c_lexer.specs.declared.token.Kind.TheVariants as kind
use Rattle.c_tree.specs.declared.tree.Base.{Base}
use Rattle.c_tree.specs.declared.tree.Base.TheVariants as base
use Rattle.c_tree.specs.declared.tree.Expr.{Expr}
use Rattle.c_tree.specs.declared.tree.Size.{Size}
use Rattle.c_tree.specs.declared.tree.Spec.{Spec}
use Rattle.c_tree.specs.declared.tree.Unit.{Unit as Counted}
use Rattle.c_tree.specs.declared.tree.Unit.TheVariants as unit
use Rattle.c_tree.specs.declared.tree.Word.{Word}
use Rattle.c_parser.specs.declared.term.Term.TheVariants as term
use Rattle.c_parser.specs.Term.{term_of, word}
use Rattle.c_parser.specs.Expressions.{IsLevel, IsUnary}

-- base = "int" | "struct" N | N
pub data IsBase : Base → List Token → List Token → Type 0 where
  int : {t : Token} {ts : List Token} → term_of t ≡ term.Int → IsBase base.Int (t ∷ ts) ts
  tag : {t n : Token} {text : List ℕ} {ts : List Token} →
      term_of t ≡ term.Struct → n.kind ≡ kind.Name text → IsBase (base.Tag (word text n)) (t ∷ n ∷ ts) ts
  alias : {t : Token} {text : List ℕ} {ts : List Token} →
      t.kind ≡ kind.Name text → IsBase (base.Alias (word text t)) (t ∷ ts) ts

-- ["*"], by the number of stars
pub data IsStars : ℕ → List Token → List Token → Type 0 where
  none : {ts : List Token} → IsStars 0 ts ts
  star : {t : Token} {ts : List Token} → term_of t ≡ term.Star → IsStars 1 (t ∷ ts) ts

-- [N]
pub data IsOptionalName : Option Word → List Token → List Token → Type 0 where
  none : {ts : List Token} → IsOptionalName None ts ts
  named : {n : Token} {text : List ℕ} {ts : List Token} →
      n.kind ≡ kind.Name text → IsOptionalName (Some (word text n)) (n ∷ ts) ts

-- a type by its base, the token where that begins, its stars and what it names
abbrev pub spec : Base → Token → ℕ → Option Word → Spec
spec b t stars what = record { base = b; stars = stars; name = what; at = t.start }

-- [ "(" base "*" ")" ]
pub data IsCast : Option Spec → List Token → List Token → Type 0 where
  none : {ts : List Token} → IsCast None ts ts
  cast : {o t s c : Token} {b : Base} {ts us : List Token} →
      term_of o ≡ term.Open → IsBase b (t ∷ ts) (s ∷ c ∷ us) → term_of s ≡ term.Star → term_of c ≡ term.Close
      → IsCast (Some (spec b t 1 None)) (o ∷ t ∷ ts) us

-- unit, with the place of its first token. The first is `"sizeof" "(" base ")"`, for each base.
pub data IsUnit : Counted → ℕ → List Token → List Token → Type 0 where
  of_type : {z o t c : Token} {b : Base} {ts us : List Token} →
      term_of z ≡ term.Sizeof → term_of o ≡ term.Open → IsBase b (t ∷ ts) (c ∷ us) → term_of c ≡ term.Close
      → IsUnit (unit.Of (spec b t 0 None)) z.start (z ∷ o ∷ t ∷ ts) us
  of_star_within : {z o s n c : Token} {text : List ℕ} {ts : List Token} →
      term_of z ≡ term.Sizeof → term_of o ≡ term.Open → term_of s ≡ term.Star → n.kind ≡ kind.Name text → term_of c ≡ term.Close
      → IsUnit (unit.Star (word text n)) z.start (z ∷ o ∷ s ∷ n ∷ c ∷ ts) ts
  of_star : {z s n : Token} {text : List ℕ} {ts : List Token} →
      term_of z ≡ term.Sizeof → term_of s ≡ term.Star → n.kind ≡ kind.Name text
      → IsUnit (unit.Star (word text n)) z.start (z ∷ s ∷ n ∷ ts) ts

-- size = unit | mul "*" unit | unit "*" unary
pub data IsSize : Size → List Token → List Token → Type 0 where
  one : {u : Counted} {at : ℕ} {ts us : List Token} →
      IsUnit u at ts us → IsSize (record { unit = u; count = None; at = at }) ts us
  count_before : {u : Counted} {e : Expr} {at : ℕ} {t : Token} {ts us vs : List Token} →
      IsLevel 1 e ts (t ∷ us) → term_of t ≡ term.Star → IsUnit u at us vs
      → IsSize (record { unit = u; count = Some e; at = at }) ts vs
  count_behind : {u : Counted} {e : Expr} {at : ℕ} {t : Token} {ts us vs : List Token} →
      IsUnit u at ts (t ∷ us) → term_of t ≡ term.Star → IsUnary e us vs
      → IsSize (record { unit = u; count = Some e; at = at }) ts vs
