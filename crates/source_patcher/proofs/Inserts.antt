-- Frees and braces that an edit writes at one place: what they add to the tokens, and how the grammar reads what they add.
use Rattle.std.proofs.Common.{◌≡◌, ℕ, false, List, [], ◌∷◌, ◌++◌, map, Option, Some, None, refl, ap, subst, ◌∙◌, append_assoc}
use Rattle.c_lexer.specs.declared.token.Token.{Token}
use Rattle.c_lexer.specs.declared.token.Kind.{Kind}
use Rattle.c_lexer.specs.declared.token.Kind.TheVariants.{Name, Key, Punct}
use Rattle.c_tree.specs.declared.choice.Put.{Put}
use Rattle.c_tree.specs.declared.program.Program.{Program}
use Rattle.c_tree.specs.declared.tree.Expr.{Expr}
use Rattle.c_parser.specs.declared.term.Term.{Term}
use Rattle.c_parser.specs.declared.term.Term.TheVariants as term
use Rattle.c_parser.specs.Term.{term_of, same, sees}
use Rattle.c_parser.specs.Expressions.{IsLevel, IsTail, IsUnary, IsPost, IsPosts, IsPrim, IsExpr, IsArg}
use Rattle.c_parser.specs.Blocks.{IsFree, IsGap}
use Rattle.source_patcher.specs.Edit.{field_name, free_text, freed_text, variable_name}
use Rattle.source_patcher.specs.Refilled.{new_token, freed_expr, written_free}
use Rattle.source_patcher.proofs.TextEdits.{TextEdit}
use Rattle.source_patcher.proofs.Texts.{adds_both, free_kinds, key_free, punct_open, punct_close, punct_arrow, punct_semicolon, punct_open_brace, punct_close_brace}
use Rattle.source_patcher.proofs.Turns.{Adds, Turns, blanked, inserted, kinds}

-- a token that has this term has no other one
pub sees_other : (x y : Term) (t : Token) (ts : List Token) → term_of t ≡ y → same x y ≡ false → sees x (t ∷ ts) ≡ false
sees_other x y t ts is differs = ap (same x) is ∙ differs

pub no_else_semicolon : same term.Else term.Semicolon ≡ false
unfolding same
no_else_semicolon = refl

pub no_else_free : same term.Else term.Free ≡ false
unfolding same
no_else_free = refl

pub no_else_open : same term.Else term.OpenBrace ≡ false
unfolding same
no_else_open = refl

pub no_else_close : same term.Else term.CloseBrace ≡ false
unfolding same
no_else_close = refl

pub no_if_semicolon : same term.If term.Semicolon ≡ false
unfolding same
no_if_semicolon = refl

pub no_if_open : same term.If term.OpenBrace ≡ false
unfolding same
no_if_open = refl

pub is_free : term_of (new_token (Key key_free)) ≡ term.Free
unfolding term_of
is_free = refl

pub is_open : term_of (new_token (Punct punct_open)) ≡ term.Open
unfolding term_of
is_open = refl

pub is_close : term_of (new_token (Punct punct_close)) ≡ term.Close
unfolding term_of
is_close = refl

pub is_arrow : term_of (new_token (Punct punct_arrow)) ≡ term.Arrow
unfolding term_of
is_arrow = refl

pub is_semicolon : term_of (new_token (Punct punct_semicolon)) ≡ term.Semicolon
unfolding term_of
is_semicolon = refl

pub is_open_brace : term_of (new_token (Punct punct_open_brace)) ≡ term.OpenBrace
unfolding term_of
is_open_brace = refl

pub is_close_brace : term_of (new_token (Punct punct_close_brace)) ≡ term.CloseBrace
unfolding term_of
is_close_brace = refl

-- an expression of one operand and what stands behind that
behind_one : {a e : Expr} {ts us vs : List Token} → IsPrim a ts us → IsPosts a e us vs → IsExpr e ts vs
behind_one first more =
    IsLevel.level (IsLevel.level (IsLevel.level (IsLevel.level (IsLevel.level (IsLevel.level (IsLevel.operand (IsUnary.plain (IsPost.post first more))) IsTail.done) IsTail.done) IsTail.done) IsTail.done) IsTail.done) IsTail.done

-- the edits behind the place stay the same, whatever token ends before them
abbrev pub Anywhere : List TextEdit → List Token → List Kind → Type 0
Anywhere es ts us = (k : ℕ) → Turns k es ts us

pub blanks_all : (mid : List Token) {es : List TextEdit} {us : List Token} {ks : List Kind} → Anywhere es us ks → Anywhere (map blanked mid ++ es) (mid ++ us) ks
blanks_all [] rest = rest
blanks_all (m ∷ mid) rest = λ k. Turns.blank (blanks_all mid rest m.end)

module _ (prog : Program) where
  abbrev pub put_text : Put → List ℕ
  put_text q = free_text (freed_text prog q.var q.field)

  -- the tokens of what is freed, before others
  abbrev pub freed_tokens : ℕ → Option ℕ → List Token → List Token
  freed_tokens x None rest = new_token (Name (variable_name prog x)) ∷ rest
  freed_tokens x (Some f) rest = new_token (Name (variable_name prog x)) ∷ new_token (Punct punct_arrow) ∷ new_token (Name (field_name prog x f)) ∷ rest

  abbrev pub freed_kinds : ℕ → Option ℕ → List Kind
  freed_kinds x None = Name (variable_name prog x) ∷ []
  freed_kinds x (Some f) = Name (variable_name prog x) ∷ Punct punct_arrow ∷ Name (field_name prog x f) ∷ []

  abbrev pub put_kinds : Put → List Kind
  put_kinds q = free_kinds (freed_kinds q.var q.field)

  abbrev pub put_tokens : Put → List Token → List Token
  put_tokens q rest = new_token (Key key_free) ∷ new_token (Punct punct_open) ∷ freed_tokens q.var q.field (new_token (Punct punct_close) ∷ new_token (Punct punct_semicolon) ∷ rest)

  -- the tokens of all of them, before others
  abbrev pub puts_tokens : List Put → List Token → List Token
  puts_tokens [] rest = rest
  puts_tokens (q ∷ qs) rest = put_tokens q (puts_tokens qs rest)

  abbrev pub puts_kinds : List Put → List Kind → List Kind
  puts_kinds [] rest = rest
  puts_kinds (q ∷ qs) rest = put_kinds q ++ puts_kinds qs rest

  -- their texts at an offset, before other edits
  abbrev pub inserts : ℕ → List Put → List TextEdit → List TextEdit
  inserts at [] es = es
  inserts at (q ∷ qs) es = inserted at (put_text q) ∷ inserts at qs es

  -- what the puts free has names that are spelled as names
  abbrev pub AreSpelled : List Put → Type 0
  AreSpelled [] = Unit {0}
  AreSpelled (q ∷ qs) = Adds (put_text q) (put_kinds q) × AreSpelled qs

  freed_are : (x : ℕ) (f : Option ℕ) (rest : List Token)
      → kinds (freed_tokens x f (new_token (Punct punct_close) ∷ new_token (Punct punct_semicolon) ∷ rest)) ≡ (freed_kinds x f ++ Punct punct_close ∷ Punct punct_semicolon ∷ []) ++ kinds rest
  freed_are x None rest = refl
  freed_are x (Some f) rest = refl

  pub puts_are : (qs : List Put) (rest : List Token) → kinds (puts_tokens qs rest) ≡ puts_kinds qs (kinds rest)
  puts_are [] rest = refl
  puts_are (q ∷ qs) rest =
      ap (λ ks. Key key_free ∷ Punct punct_open ∷ ks) (freed_are q.var q.field (puts_tokens qs rest)) ∙ ap (λ ks. put_kinds q ++ ks) (puts_are qs rest)

  -- behind a token
  pub puts_behind : (qs : List Put) {k : ℕ} {es : List TextEdit} {ts : List Token} {us : List Kind} → AreSpelled qs → Turns k es ts us → Turns k (inserts k qs es) ts (puts_kinds qs us)
  puts_behind [] spelled rest = rest
  puts_behind (q ∷ qs) spelled rest = Turns.behind spelled.0 (puts_behind qs spelled.1 rest)

  -- a text and then those of the puts, before a token
  pub text_before : (qs : List Put) (text : List ℕ) (added : List Kind) {es : List TextEdit} {t : Token} {ts : List Token} {us : List Kind} → AreSpelled qs → Adds text added → Turns t.end es ts us
      → Anywhere (inserted t.start text ∷ inserts t.start qs es) (t ∷ ts) (added ++ puts_kinds qs (t.kind ∷ us))
  text_before [] text added spelled adds rest = λ k. Turns.put adds rest
  text_before (q ∷ qs) text added {es} {t} {ts} {us} spelled adds rest = λ k.
      Turns.merge text (put_text q)
      (subst (λ ks. Turns k (inserted t.start (text ++ put_text q) ∷ inserts t.start qs es) (t ∷ ts) ks) (append_assoc added (put_kinds q) (puts_kinds qs (t.kind ∷ us)))
      (text_before qs (text ++ put_text q) (added ++ put_kinds q) spelled.1 (adds_both text (put_text q) added (put_kinds q) adds spelled.0) rest k))

  pub puts_before : (qs : List Put) {es : List TextEdit} {t : Token} {ts : List Token} {us : List Kind} → AreSpelled qs → Turns t.end es ts us
      → Anywhere (inserts t.start qs es) (t ∷ ts) (puts_kinds qs (t.kind ∷ us))
  puts_before [] spelled rest = λ k. Turns.keep rest
  puts_before (q ∷ qs) spelled rest = text_before qs (put_text q) (put_kinds q) spelled.1 spelled.0 rest

  freed_reads : (x : ℕ) (f : Option ℕ) (rest : List Token) → IsExpr (freed_expr prog x f) (freed_tokens x f rest) rest
  freed_reads x None rest = behind_one (IsPrim.variable refl) IsPosts.end
  freed_reads x (Some f) rest = behind_one (IsPrim.variable refl) (IsPosts.field is_arrow refl IsPosts.end)

  argument_reads : (x : ℕ) (f : Option ℕ) (rest : List Token) → IsArg (record { expr = freed_expr prog x f; at = 0 }) (freed_tokens x f rest) rest
  argument_reads x None rest = IsArg.argument (freed_reads x None rest)
  argument_reads x (Some f) rest = IsArg.argument (freed_reads x (Some f) rest)

  pub puts_read : (qs : List Put) (rest : List Token) → IsGap (map (written_free prog) qs) (puts_tokens qs rest) rest
  puts_read [] rest = IsGap.done
  puts_read (q ∷ qs) rest =
      IsGap.free (IsFree.free is_free is_open (argument_reads q.var q.field (new_token (Punct punct_close) ∷ new_token (Punct punct_semicolon) ∷ puts_tokens qs rest)) is_close is_semicolon) (puts_read qs rest)

  -- no `else` begins them
  pub put_no_else : (q : Put) (rest : List Token) → sees term.Else (put_tokens q rest) ≡ false
  put_no_else q rest =
      sees_other term.Else term.Free (new_token (Key key_free)) (new_token (Punct punct_open) ∷ freed_tokens q.var q.field (new_token (Punct punct_close) ∷ new_token (Punct punct_semicolon) ∷ rest)) is_free no_else_free

  pub no_else : (qs : List Put) (rest : List Token) → sees term.Else rest ≡ false → sees term.Else (puts_tokens qs rest) ≡ false
  no_else [] rest none = none
  no_else (q ∷ qs) rest none = put_no_else q (puts_tokens qs rest)
