-- Behind each row of the recogniser for expressions and right sides stands what its symbol stands for.
use Rattle.std.proofs.Common.{◌≡◌, ℕ, zero, suc, ◌+◌, ◌==◌, ◌<◌, ℤ, Bool, true, false, List, [], ◌∷◌, Some, refl, ap, sym, ◌∙◌, ◌⊎◌, inl, inr, if◌then◌else◌, arith}
use Rattle.std.proofs.lemmas.Bool.{cases_order}
use Rattle.c_lexer.specs.declared.token.Token.{Token}
use Rattle.c_lexer.specs.declared.token.Kind.{Kind}
use Rattle.c_lexer.specs.declared.token.Kind.TheVariants as kind
use Rattle.c_tree.specs.declared.expr.Oper.{Oper}
use Rattle.c_tree.specs.declared.expr.Oper.TheVariants as oper
use Rattle.c_tree.specs.declared.tree.Expr.{Expr}
use Rattle.c_tree.specs.declared.tree.Expr.TheVariants as expr
use Rattle.c_parser.specs.declared.symbol.Part.{Part}
use Rattle.c_parser.specs.declared.symbol.Part.TheVariants.{Whole, Factor, Count, Target, Pointed}
use Rattle.c_parser.specs.declared.symbol.Symbol.TheVariants as symbol
use Rattle.c_parser.specs.declared.term.Term.{Term}
use Rattle.c_parser.specs.declared.term.Term.TheVariants as term
use Rattle.c_parser.specs.Statements.{change_of, step_of}
use Rattle.c_parser.specs.Term.{word, key_term, kind_term, punctuator_term, term_of}
use Rattle.c_parser.specs.Expressions.{IsLevel, IsPost, IsPosts, IsPrim, IsTail, IsUnary, oper_of, product_of}
use Rattle.c_parser.specs.Recogniser.{after, binary, changed, counted, operand, operator, stepped}
use Rattle.c_parser.proofs.CompleteExpressions.{oper_level}
use Rattle.c_parser.proofs.ViableSymbols.{Behind, Factors, ANextFactor, AChange, AStep, APosts, AnAfter, AnExpr, AnOperand, AToken, OfRow, OfStack, Operands}

-- A token of the term of a name, a number or a text is one.

-- terms of which a token carries more than its term
abbrev carries : Term → Bool
carries term.Name = true
carries term.Number = true
carries term.Text = true
carries _ = false

-- the term at this number of a table that begins with the other number
abbrev numbered : ℕ → ℕ → List Term → Term
numbered i n [] = term.Other
numbered i n (x ∷ xs) = if n == i then x else numbered (i + 1) n xs

abbrev carry_none : List Term → Bool
carry_none [] = true
carry_none (x ∷ xs) = if carries x then false else carry_none xs

either : (b c : Bool) (x y : Term) → carries x ≡ c → (if c then false else true) ≡ true → carries y ≡ false → carries (if b then x else y) ≡ false
either true true x y this none that = absurd (cc)
either true false x y this none that = this
either false c x y this none that = that

first_bare : (c d : Bool) → (if c then false else d) ≡ true → ((if c then false else true) ≡ true) × (d ≡ true)
first_bare true d is = absurd (cc)
first_bare false d is = (refl, is)

numbered_carries : (i n : ℕ) (xs : List Term) → carry_none xs ≡ true → carries (numbered i n xs) ≡ false
numbered_carries i n [] none = refl
numbered_carries i n (x ∷ xs) none =
    let both = first_bare (carries x) (carry_none xs) none in either (n == i) (carries x) x (numbered (i + 1) n xs) refl both.0 (numbered_carries (i + 1) n xs both.1)

key_carries : (n : ℕ) → carries (key_term n) ≡ false
key_carries n = numbered_carries 0 n (
    term.Eof ∷ term.Null ∷ term.Break ∷ term.Continue ∷ term.Else ∷ term.For ∷ term.Free ∷ term.Getchar ∷ term.If ∷ term.Int ∷
    term.Malloc ∷ term.Printf ∷ term.Putchar ∷ term.Return ∷ term.Sizeof ∷ term.Struct ∷ term.Typedef ∷ term.Void ∷ term.While ∷ []
    ) refl

punctuator_carries : (n : ℕ) → carries (punctuator_term n) ≡ false
punctuator_carries n = numbered_carries 0 n (
    term.Not ∷ term.Differs ∷ term.Percent ∷ term.AndAnd ∷ term.Open ∷ term.Close ∷ term.Star ∷ term.StarPut ∷ term.Plus ∷
    term.PlusPlus ∷ term.PlusPut ∷ term.Comma ∷ term.Minus ∷ term.MinusMinus ∷ term.MinusPut ∷ term.Arrow ∷ term.Slash ∷
    term.Semicolon ∷ term.Less ∷ term.AtMost ∷ term.Put ∷ term.Equals ∷ term.Greater ∷ term.AtLeast ∷ term.OpenIndex ∷
    term.CloseIndex ∷ term.OpenBrace ∷ term.OrOr ∷ term.CloseBrace ∷ []
    ) refl

key_apart : (n : ℕ) (x : Term) → carries x ≡ true → key_term n ≡ x → ⊥
key_apart n x carried is = let no = key_carries n in let yes : carries (key_term n) ≡ true = ap carries is ∙ carried in cc

punctuator_apart : (n : ℕ) (x : Term) → carries x ≡ true → punctuator_term n ≡ x → ⊥
punctuator_apart n x carried is = let no = punctuator_carries n in let yes : carries (punctuator_term n) ≡ true = ap carries is ∙ carried in cc

name_kind : (k : Kind) → kind_term k ≡ term.Name → (text : List ℕ) × (k ≡ kind.Name text)
name_kind (kind.Name text) is = (text, refl)
name_kind (kind.Key n) is = absurd (key_apart n term.Name refl is)
name_kind (kind.Number value) is = absurd (cc)
name_kind (kind.Text text) is = absurd (cc)
name_kind (kind.Punct n) is = absurd (punctuator_apart n term.Name refl is)
name_kind (kind.Refused row) is = absurd (cc)

pub name_of : (t : Token) → term_of t ≡ term.Name → (text : List ℕ) × (t.kind ≡ kind.Name text)
unfolding term_of
name_of t is = name_kind t.kind is

number_kind : (k : Kind) → kind_term k ≡ term.Number → (value : ℤ) × (k ≡ kind.Number value)
number_kind (kind.Number value) is = (value, refl)
number_kind (kind.Key n) is = absurd (key_apart n term.Number refl is)
number_kind (kind.Name text) is = absurd (cc)
number_kind (kind.Text text) is = absurd (cc)
number_kind (kind.Punct n) is = absurd (punctuator_apart n term.Number refl is)
number_kind (kind.Refused row) is = absurd (cc)

pub number_of : (t : Token) → term_of t ≡ term.Number → (value : ℤ) × (t.kind ≡ kind.Number value)
unfolding term_of
number_of t is = number_kind t.kind is

text_kind : (k : Kind) → kind_term k ≡ term.Text → (text : List ℕ) × (k ≡ kind.Text text)
text_kind (kind.Text text) is = (text, refl)
text_kind (kind.Key n) is = absurd (key_apart n term.Text refl is)
text_kind (kind.Name text) is = absurd (cc)
text_kind (kind.Number value) is = absurd (cc)
text_kind (kind.Punct n) is = absurd (punctuator_apart n term.Text refl is)
text_kind (kind.Refused row) is = absurd (cc)

pub text_of : (t : Token) → term_of t ≡ term.Text → (text : List ℕ) × (t.kind ≡ kind.Text text)
unfolding term_of
text_of t is = text_kind t.kind is

-- A flat chain of operands and operators is an expr: it is grouped by levels.

-- another operand before the same operators
retail : {k : ℕ} {a e : Expr} {ts us : List Token} → IsTail k a e ts us → (b : Expr) → (f : Expr) × IsTail k b f ts us
retail IsTail.done b = (b, IsTail.done)
retail (IsTail.more {o = o} {b = c} {t = t} is d q) b = let rest = retail q (expr.Binary o b c t.start) in (rest.0, IsTail.more is d rest.1)

pub data ALevel (k : ℕ) : List Token → List Token → Type 0 where
  level : {e : Expr} {ts us : List Token} → IsLevel k e ts us → ALevel k ts us

behind_tail : {k : ℕ} {a e : Expr} {ts us vs : List Token} → ALevel k ts us → IsTail k a e us vs → ALevel (suc k) ts vs
behind_tail (ALevel.level {e = b} d) q = let rest = retail q b in ALevel.level (IsLevel.level d rest.1)

-- an operand as it is at each level
pub alone : (k : ℕ) {e : Expr} {ts us : List Token} → IsUnary e ts us → IsLevel k e ts us
alone zero d = IsLevel.operand d
alone (suc k) d = IsLevel.level (alone k d) IsTail.done

-- an operand and an operator before an expression of this level, whose tail stands behind the whole
here : {k j : ℕ} {o : Oper} {a b e : Expr} {t : Token} {ws ts us vs : List Token} → j ≡ k → IsUnary a ws (t ∷ ts)
    → oper_of j (term_of t) ≡ Some o → IsLevel k b ts us → IsTail k b e us vs → ALevel (suc k) ws vs
here {k = k} {t = t} at d is q r =
    let op : oper_of k (term_of t) ≡ Some _ = ap (λ n. oper_of n (term_of t)) (sym at) ∙ is in ALevel.level (IsLevel.level (alone k d) (IsTail.more op q (retail r _).1))

joined_at : {k j : ℕ} {o : Oper} {a b e : Expr} {t : Token} {ws ts us vs : List Token} → (j ≡ k) ⊎ ((j < k) ⊎ (k < j)) → j < suc k → IsUnary a ws (t ∷ ts)
    → oper_of j (term_of t) ≡ Some o → IsLevel k b ts us → IsTail k b e us vs → (j < k → ALevel k ws us) → ALevel (suc k) ws vs
joined_at (inl at) within d is q r below = here at d is q r
joined_at (inr (inl less)) within d is q r below = behind_tail (below less) r
joined_at (inr (inr more)) within d is q r below = absurd (omega (arith, within, more))

pub joined : (k j : ℕ) {o : Oper} {a e : Expr} {t : Token} {ws ts us : List Token} → j < k → IsUnary a ws (t ∷ ts) → oper_of j (term_of t) ≡ Some o
    → IsLevel k e ts us → ALevel k ws us
joined zero j less d is q = absurd (omega (arith, less))
joined (suc k) j less d is (IsLevel.level q r) = joined_at (cases_order j k) less d is q r (λ below. joined k j below d is q)

joined_expr : (k : ℕ) {o : Oper} {a : Expr} {t : Token} {ws ts us : List Token} → IsUnary a ws (t ∷ ts) → oper_of k (term_of t) ≡ Some o → AnExpr ts us → ALevel 6 ws us
joined_expr k {o = o} {t = t} d is (AnExpr.expr q) = joined 6 k (oper_level k (term_of t) o is).1 d is q

expr_of_level : {ts us : List Token} → ALevel 6 ts us → AnExpr ts us
expr_of_level (ALevel.level d) = AnExpr.expr d

operands_expr : {e : Expr} {ws ts us : List Token} → IsUnary e ws ts → Operands ts us → AnExpr ws us
operands_expr d Operands.none = AnExpr.expr (alone 6 d)
operands_expr d (Operands.more k is q rest) = expr_of_level (joined_expr k d is (operands_expr q rest))

pub whole_expr : {ts us : List Token} → AnOperand Whole ts us → AnExpr ts us
whole_expr (AnOperand.operand d behind) = operands_expr d behind

-- operands

pub prim_operand : {p : Part} {e : Expr} {ts us vs : List Token} → IsPrim e ts us → AnAfter p us vs → AnOperand p ts vs
prim_operand {e = e} d (AnAfter.after posts behind) = AnOperand.operand (IsUnary.plain (IsPost.post d (posts e).1)) behind

pub group_operand : {p : Part} {o c : Token} {ts us vs : List Token} → term_of o ≡ term.Open → AnExpr ts (c ∷ us) → term_of c ≡ term.Close → AnAfter p us vs
    → AnOperand p (o ∷ ts) vs
group_operand is (AnExpr.expr d) close behind = prim_operand (IsPrim.group is d close) behind

minus_operand : {p : Part} {t : Token} {ts us : List Token} → term_of t ≡ term.Minus → AnOperand p ts us → AnOperand p (t ∷ ts) us
minus_operand is (AnOperand.operand d behind) = AnOperand.operand (IsUnary.minus is d) behind

not_operand : {p : Part} {t : Token} {ts us : List Token} → term_of t ≡ term.Not → AnOperand p ts us → AnOperand p (t ∷ ts) us
not_operand is (AnOperand.operand d behind) = AnOperand.operand (IsUnary.not is d) behind

deref_operand : {p : Part} {t : Token} {ts us : List Token} → term_of t ≡ term.Star → AnOperand p ts us → AnOperand p (t ∷ ts) us
deref_operand is (AnOperand.operand d behind) = AnOperand.operand (IsUnary.deref is d) behind

pub operand_sound : (p : Part) (x : Term) (t : Token) → term_of t ≡ x → {ts us : List Token} → OfRow (operand p x) ts us → AnOperand p (t ∷ ts) us
operand_sound p term.Number t is (OfStack.then d OfStack.done) = prim_operand (IsPrim.number (number_of t is).1) d
operand_sound p term.Null t is (OfStack.then d OfStack.done) = prim_operand (IsPrim.null is) d
operand_sound p term.Eof t is (OfStack.then d OfStack.done) = prim_operand (IsPrim.eof is) d
operand_sound p term.Name t is (OfStack.then d OfStack.done) = prim_operand (IsPrim.variable (name_of t is).1) d
operand_sound p term.Open t is (OfStack.then d (OfStack.then (AToken.token close) (OfStack.then q OfStack.done))) = group_operand is (whole_expr d) close q
operand_sound p term.Minus t is (OfStack.then d OfStack.done) = minus_operand is d
operand_sound p term.Not t is (OfStack.then d OfStack.done) = not_operand is d
operand_sound p term.Star t is (OfStack.then d OfStack.done) = deref_operand is d
operand_sound p _ t is d = absurd d

-- what stands behind an operand

pub operand_row : {p : Part} {ts us : List Token} → OfStack (symbol.Operand p ∷ []) ts us → AnOperand p ts us
operand_row (OfStack.then d OfStack.done) = d

joined_operands : (k : ℕ) {o : Oper} {t : Token} {ts us : List Token} → oper_of k (term_of t) ≡ Some o → AnOperand Whole ts us → Operands (t ∷ ts) us
joined_operands k is (AnOperand.operand d behind) = Operands.more k is d behind

operator_of : (k : ℕ) (x : Term) (o : Oper) (t : Token) → term_of t ≡ x → oper_of k x ≡ Some o → oper_of k (term_of t) ≡ Some o
operator_of k x o t is joins = ap (oper_of k) is ∙ joins

binary_row : (k : ℕ) (x : Term) (o : Oper) (t : Token) → term_of t ≡ x → oper_of k x ≡ Some o → {ts us : List Token} → OfStack (symbol.Operand Whole ∷ []) ts us
    → Operands (t ∷ ts) us
binary_row k x o t is joins d = joined_operands k (operator_of k x o t is joins) (operand_row d)

binary_sound : (x : Term) (t : Token) → term_of t ≡ x → {ts us : List Token} → OfRow (binary x) ts us → Operands (t ∷ ts) us
unfolding oper_of
binary_sound term.Star t is d = binary_row 0 term.Star oper.Mul t is refl d
binary_sound term.Slash t is d = binary_row 0 term.Slash oper.Div t is refl d
binary_sound term.Percent t is d = binary_row 0 term.Percent oper.Rem t is refl d
binary_sound term.Plus t is d = binary_row 1 term.Plus oper.Add t is refl d
binary_sound term.Minus t is d = binary_row 1 term.Minus oper.Sub t is refl d
binary_sound term.Less t is d = binary_row 2 term.Less oper.Lt t is refl d
binary_sound term.AtMost t is d = binary_row 2 term.AtMost oper.Le t is refl d
binary_sound term.Greater t is d = binary_row 2 term.Greater oper.Gt t is refl d
binary_sound term.AtLeast t is d = binary_row 2 term.AtLeast oper.Ge t is refl d
binary_sound term.Equals t is d = binary_row 3 term.Equals oper.Eq t is refl d
binary_sound term.Differs t is d = binary_row 3 term.Differs oper.Ne t is refl d
binary_sound term.AndAnd t is d = binary_row 4 term.AndAnd oper.And t is refl d
binary_sound term.OrOr t is d = binary_row 5 term.OrOr oper.Or t is refl d
binary_sound _ t is d = absurd d

more_factors : {o : Oper} {t : Token} {ts us : List Token} → product_of (term_of t) ≡ Some o → AnOperand Count ts us → Factors (t ∷ ts) us
more_factors is (AnOperand.operand d behind) = Factors.more is d behind

next_factors : {t : Token} {ts us : List Token} → term_of t ≡ term.Star → ANextFactor ts us → Factors (t ∷ ts) us
next_factors is (ANextFactor.unit d) = Factors.last is d
next_factors is (ANextFactor.factor d) = more_factors (ap product_of is) d

counted_sound : (x : Term) (t : Token) → term_of t ≡ x → {ts us : List Token} → OfRow (counted x) ts us → Factors (t ∷ ts) us
counted_sound term.Star t is (OfStack.then d OfStack.done) = next_factors is d
counted_sound term.Slash t is d = more_factors (ap product_of is) (operand_row d)
counted_sound term.Percent t is d = more_factors (ap product_of is) (operand_row d)
counted_sound _ t is d = absurd d

changed_sound : (x : Term) (t : Token) → term_of t ≡ x → {ts us : List Token} → OfRow (changed x) ts us → AChange (t ∷ ts) us
changed_sound term.Put t is (OfStack.then d OfStack.done) = AChange.put is d
changed_sound term.PlusPut t is d = AChange.change (ap change_of is) (whole_expr (operand_row d))
changed_sound term.MinusPut t is d = AChange.change (ap change_of is) (whole_expr (operand_row d))
changed_sound term.StarPut t is d = AChange.change (ap change_of is) (whole_expr (operand_row d))
changed_sound _ t is d = absurd d

stepped_sound : (x : Term) (t : Token) → term_of t ≡ x → {ts us : List Token} → OfRow (stepped x) ts us → AStep (t ∷ ts) us
stepped_sound term.PlusPlus t is OfStack.done = AStep.stepped (ap step_of is)
stepped_sound term.MinusMinus t is OfStack.done = AStep.stepped (ap step_of is)
stepped_sound x t is d = AStep.changed (changed_sound x t is d)

operator_sound : (p : Part) (x : Term) (t : Token) → term_of t ≡ x → (ts us : List Token) → OfRow (operator p x) ts us → Behind p (t ∷ ts) us
operator_sound Whole x t is ts us d = binary_sound x t is d
operator_sound Factor x t is ts us d = absurd d
operator_sound Count x t is ts us d = counted_sound x t is d
operator_sound Target x t is ts us d = stepped_sound x t is d
operator_sound Pointed x t is ts us d = changed_sound x t is d

-- no field and no index
pub no_posts : {ts : List Token} → APosts ts ts
no_posts a = (a, IsPosts.end)

field_after : {p : Part} {t n : Token} {text : List ℕ} {ts us : List Token} → term_of t ≡ term.Arrow → n.kind ≡ kind.Name text → AnAfter p ts us
    → AnAfter p (t ∷ n ∷ ts) us
field_after {t = t} {n = n} {text = text} is name (AnAfter.after posts behind) =
    AnAfter.after (λ a. let rest = posts (expr.Field a (word text n) t.start) in (rest.0, IsPosts.field is name rest.1)) behind

index_after : {p : Part} {t c : Token} {ts us vs : List Token} → term_of t ≡ term.OpenIndex → AnExpr ts (c ∷ us) → term_of c ≡ term.CloseIndex → AnAfter p us vs
    → AnAfter p (t ∷ ts) vs
index_after {t = t} is (AnExpr.expr {e = i} d) close (AnAfter.after posts behind) =
    AnAfter.after (λ a. let rest = posts (expr.Index a i t.start) in (rest.0, IsPosts.index is d close rest.1)) behind

pub after_sound : (p : Part) (x : Term) (t : Token) → term_of t ≡ x → {ts us : List Token} → OfRow (after p x) ts us → AnAfter p (t ∷ ts) us
after_sound p term.Arrow t is (OfStack.then (AToken.token {t = n} name) (OfStack.then d OfStack.done)) = field_after is (name_of n name).1 d
after_sound p term.OpenIndex t is (OfStack.then d (OfStack.then (AToken.token close) (OfStack.then q OfStack.done))) = index_after is (whole_expr d) close q
after_sound p x t is {ts = ts} {us = us} d = AnAfter.after no_posts (operator_sound p x t is ts us d)

-- `*` and an operand behind an operand
pub times_after : (t : Token) → term_of t ≡ term.Star → {ts us : List Token} → AnOperand Whole ts us → AnAfter Whole (t ∷ ts) us
times_after t is d = after_sound Whole term.Star t is (OfStack.then d OfStack.done)
