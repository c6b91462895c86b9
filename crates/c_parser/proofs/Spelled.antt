-- Tokens that have the kinds of a list, whatever their offsets, and how many parentheses these open.
use Rattle.std.proofs.Common.{◌≡◌, ℕ, ◌+◌, ◌≤◌, Bool, true, false, List, [], ◌∷◌, ◌++◌, codes, refl, ap, ◌∙◌, arith, cond}
use Rattle.std.proofs.lemmas.List.Recursion.{is_count_by}
use Rattle.c_lexer.specs.declared.token.Token.{Token}
use Rattle.c_lexer.specs.declared.token.Kind.{Kind}
use Rattle.c_parser.specs.declared.term.Term.{Term}
use Rattle.c_parser.specs.declared.term.Term.TheVariants as term
use Rattle.c_parser.specs.Term.{term_of, kind_term, same}
use Rattle.c_parser.specs.Answer.{opened}
use Rattle.c_parser.specs.Printed.{mark, within, numbered}
use Rattle.c_parser.proofs.Terms.{same_self}

-- the tokens from the first place to the second are of these kinds
pub data Spells : List Kind → List Token → List Token → Type 0 where
  done : {ts : List Token} → Spells [] ts ts
  more : {k : Kind} {ks : List Kind} {t : Token} {ts us : List Token} → t.kind ≡ k → Spells ks ts us → Spells (k ∷ ks) (t ∷ ts) us

-- a place between the two
pub record Split (ks ls : List Kind) (ts us : List Token) : Type 0 where
  pub middle : List Token
  pub front : Spells ks ts middle
  pub back : Spells ls middle us

pub split : (ks ls : List Kind) {ts us : List Token} → Spells (ks ++ ls) ts us → Split ks ls ts us
split [] ls {ts} {us} d = record { middle = ts; front = Spells.done; back = d }
split (k ∷ ks) ls (Spells.more is d) = let s = split ks ls d in record { middle = s.middle; front = Spells.more is s.front; back = s.back }

pub numbered_spells : (at : ℕ) (ks : List Kind) → Spells ks (numbered at ks) []
numbered_spells at [] = Spells.done
numbered_spells at (k ∷ ks) = Spells.more refl (numbered_spells (at + 1) ks)

-- a token of this kind is of this term
pub spelled : {k : Kind} (t : Token) (x : Term) → t.kind ≡ k → kind_term k ≡ x → term_of t ≡ x
unfolding term_of
spelled t x is term = ap kind_term is ∙ term

-- how many parentheses kinds open, and tokens

abbrev pub opens : List Kind → ℕ
opens [] = 0
opens (k ∷ ks) = cond (same term.Open (kind_term k)) (1 + opens ks) (opens ks)

abbrev pub tally : List Token → ℕ
tally [] = 0
tally (t ∷ ts) = cond (same term.Open (term_of t)) (1 + tally ts) (tally ts)

pub tally_opened : (ts : List Token) → tally ts ≡ opened ts
tally_opened = is_count_by tally (λ t. same term.Open (term_of t)) refl (λ t ts. refl)

opens_front : (b : Bool) (n m l : ℕ) → n ≡ m + l → cond b (1 + n) n ≡ cond b (1 + m) m + l
opens_front true n m l is = omega (arith, is)
opens_front false n m l is = is

none_more : (n : ℕ) → n ≡ 0 + n
none_more n = omega arith

pub opens_both : (ks ls : List Kind) → opens (ks ++ ls) ≡ opens ks + opens ls
opens_both [] ls = none_more (opens ls)
opens_both (k ∷ ks) ls = opens_front (same term.Open (kind_term k)) (opens (ks ++ ls)) (opens ks) (opens ls) (opens_both ks ls)

pub opens_within : (ks : List Kind) → opens (within ks) ≡ 1 + opens ks
unfolding same
opens_within ks = let e = opens_both ks (mark (codes ")") ∷ []) in omega (arith, e)

pub tally_numbered : (at : ℕ) (ks : List Kind) → tally (numbered at ks) ≡ opens ks
unfolding term_of
tally_numbered at [] = refl
tally_numbered at (k ∷ ks) = ap (λ (n : ℕ). cond (same term.Open (kind_term k)) (1 + n) n) (tally_numbered (at + 1) ks)

more_at_least : (b : Bool) (n : ℕ) → n ≤ cond b (1 + n) n
more_at_least true n = omega arith
more_at_least false n = omega arith

-- a token opens no less than none, and a `(` one
pub tally_behind : (t : Token) (ts : List Token) → tally ts ≤ tally (t ∷ ts)
tally_behind t ts = more_at_least (same term.Open (term_of t)) (tally ts)

pub tally_open : (t : Token) (ts : List Token) → term_of t ≡ term.Open → 1 + tally ts ≤ tally (t ∷ ts)
tally_open t ts is =
    let e : tally (t ∷ ts) ≡ 1 + tally ts = ap (λ (x : Term). cond (same term.Open x) (1 + tally ts) (tally ts)) is ∙ ap (λ (b : Bool). cond b (1 + tally ts) (tally ts)) (same_self term.Open) in
    omega (arith, e)
