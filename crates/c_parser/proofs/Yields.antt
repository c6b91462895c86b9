-- What holds of the outcomes of a reader, and of what is read behind them.
use Rattle.std.proofs.Common.{◌≡◌, ℕ, ℤ, List, [], ◌∷◌, Bool, true, false, if◌then◌else◌, Option, Some, None, ◌++◌, refl, ap, sym, ◌∙◌, append_assoc, append-nil}
use Rattle.std.specs.Option.{option_map, option_and_then}
use Rattle.c_lexer.specs.declared.token.Token.{Token}
use Rattle.c_lexer.specs.declared.token.Kind.TheVariants as kind
use Rattle.c_tree.specs.declared.tree.Expr.{Expr}
use Rattle.c_tree.specs.declared.tree.Expr.TheVariants as expr
use Rattle.c_tree.specs.declared.tree.Word.{Word}
use Rattle.c_parser.specs.ReadBlocks.{ended}
use Rattle.c_parser.specs.ReadExpressions.{Read, name_in, number_in, read_name, read_number, read_want}
use Rattle.c_parser.specs.Term.{same, term_of, word}
use Rattle.c_parser.specs.declared.term.Term.{Term}
use Rattle.c_parser.specs.declared.term.Term.TheVariants as term
use Rattle.c_parser.proofs.Terms.{same_is, name_in_is, number_in_is}

-- an outcome of a reader: nothing, or what is so with the tokens behind it
pub data Yields {A : Type 0} (P : A → List Token → Type 0) : Option (A × List Token) → Type 0 where
  nothing : Yields P None
  found : {a : A} {us : List Token} → P a us → Yields P (Some (a, us))

-- each outcome of the reader is so
abbrev pub ReadsOnly : {A : Type 0} → (A → List Token → List Token → Type 0) → Read A → Type 0
ReadsOnly P read = (ts : List Token) → Yields (λ a us. P a ts us) (read ts)

-- Something else is read behind it, it is changed, or more holds of it.

pub chains : {A B : Type 0} {P : A → List Token → Type 0} {Q : B → List Token → Type 0} {r : Option (A × List Token)} (f : A × List Token → Option (B × List Token))
    → Yields P r → ((a : A) (us : List Token) → P a us → Yields Q (f (a, us))) → Yields Q (option_and_then f r)
chains f Yields.nothing next = Yields.nothing
chains f (Yields.found {a = a} {us = us} is) next = next a us is

pub maps : {A B : Type 0} {P : A → List Token → Type 0} {Q : B → List Token → Type 0} {r : Option (A × List Token)} (f : A × List Token → B × List Token)
    → Yields P r → ((a : A) (us : List Token) → P a us → Q (f (a, us)).0 (f (a, us)).1) → Yields Q (option_map f r)
maps f Yields.nothing next = Yields.nothing
maps f (Yields.found {a = a} {us = us} is) next = Yields.found (next a us is)

pub so : {A : Type 0} {P Q : A → List Token → Type 0} {r : Option (A × List Token)}
    → Yields P r → ((a : A) (us : List Token) → P a us → Q a us) → Yields Q r
so Yields.nothing next = Yields.nothing
so (Yields.found {a = a} {us = us} is) next = Yields.found (next a us is)

-- by a test that the reader makes
pub either : {A : Type 0} {P : A → List Token → Type 0} {r s : Option (A × List Token)} (b : Bool)
    → (b ≡ true → Yields P r) → (b ≡ false → Yields P s) → Yields P (if b then r else s)
either true so_read other = so_read refl
either false so_read other = other refl

-- by whether a token is of a term
pub whether : {A : Type 0} {P : A → List Token → Type 0} {r s : Option (A × List Token)} (x : Term) (t : Token)
    → (term_of t ≡ x → Yields P r) → (same x (term_of t) ≡ false → Yields P s) → Yields P (if same x (term_of t) then r else s)
whether x t so_read other = either (same x (term_of t)) (λ is. so_read (sym (same_is x (term_of t) is))) other

-- one token: the list is that token and the rest
pub record IsToken (x : Term) (t : Token) (ts us : List Token) : Type 0 where
  pub list : ts ≡ t ∷ us
  pub term : term_of t ≡ x

pub want : (x : Term) → ReadsOnly (IsToken x) (read_want x)
want x [] = Yields.nothing
want x (t ∷ ts) = whether x t (λ is. Yields.found (record { list = refl; term = is })) (λ other. Yields.nothing)

-- the name that is the first token, t, where ts stand behind it
pub record IsWord (t : Token) (ts : List Token) (w : Word) (us : List Token) : Type 0 where
  pub text : List ℕ
  pub kind : t.kind ≡ kind.Name text
  pub word : w ≡ word text t
  pub list : ts ≡ us

word_of : (t : Token) (ts : List Token) (found : Option (List ℕ)) → name_in t.kind ≡ found → Yields (IsWord t ts) (option_map (λ text. (word text t, ts)) found)
word_of t ts None is = Yields.nothing
word_of t ts (Some text) is = Yields.found (record { text = text; kind = name_in_is t.kind text is; word = refl; list = refl })

pub first_name : (t : Token) (ts : List Token) → Yields (IsWord t ts) (read_name (t ∷ ts))
first_name t ts = word_of t ts (name_in t.kind) refl

-- a name: the list is that token and the rest
pub record IsName (w : Word) (ts us : List Token) : Type 0 where
  pub token : Token
  pub text : List ℕ
  pub list : ts ≡ token ∷ us
  pub kind : token.kind ≡ kind.Name text
  pub word : w ≡ word text token

pub name : ReadsOnly IsName read_name
name [] = Yields.nothing
name (t ∷ ts) = so (first_name t ts) (λ w us n. record { token = t; text = n.text; list = ap (λ l. t ∷ l) n.list; kind = n.kind; word = n.word })

-- the number that is the first token, t, where ts stand behind it
pub record IsNumber (t : Token) (ts : List Token) (e : Expr) (us : List Token) : Type 0 where
  pub value : ℤ
  pub kind : t.kind ≡ kind.Number value
  pub expr : e ≡ expr.Const value t.start
  pub list : ts ≡ us

number_of : (t : Token) (ts : List Token) (found : Option ℤ) → number_in t.kind ≡ found → Yields (IsNumber t ts) (option_map (λ value. (expr.Const value t.start, ts)) found)
number_of t ts None is = Yields.nothing
number_of t ts (Some value) is = Yields.found (record { value = value; kind = number_in_is t.kind value is; expr = refl; list = refl })

pub first_number : (t : Token) (ts : List Token) → Yields (IsNumber t ts) (read_number (t ∷ ts))
first_number t ts = number_of t ts (number_in t.kind) refl

-- the list that is read is what stood in front, and others that are so
pub record Appends {A : Type 0} (P : List A → List Token → List Token → Type 0) (front all : List A) (ts us : List Token) : Type 0 where
  pub others : List A
  pub list : all ≡ front ++ others
  pub is : P others ts us

pub appends_none : {A : Type 0} {P : List A → List Token → List Token → Type 0} {front : List A} {ts us : List Token} → P [] ts us → Appends P front front ts us
appends_none {front = front} is = record { others = []; list = sym (append-nil front); is = is }

pub appends_more : {A : Type 0} {P Q : List A → List Token → List Token → Type 0} {front all : List A} (a : A) {ts us vs : List Token}
    → Appends P (front ++ a ∷ []) all us vs → ((others : List A) → P others us vs → Q (a ∷ others) ts vs) → Appends Q front all ts vs
appends_more {front = front} a d step = record { others = a ∷ d.others; list = d.list ∙ append_assoc front (a ∷ []) d.others; is = step d.others d.is }

-- what is read with a `;` behind it, and the end of that
pub record IsEnded {A : Type 0} (P : A → List Token → Type 0) (p : A × ℕ) (us : List Token) : Type 0 where
  pub token : Token
  pub is : P p.0 (token ∷ us)
  pub term : term_of token ≡ term.Semicolon
  pub end : p.1 ≡ token.end

pub with_end : {A : Type 0} {P : A → List Token → Type 0} {r : Option (A × List Token)} → Yields P r → Yields (IsEnded P) (ended r)
with_end d = chains _ d (λ x us is. maps _ (want term.Semicolon us) (λ s vs semicolon. record { token = s; is = rw semicolon.list at is; term = semicolon.term; end = refl }))
