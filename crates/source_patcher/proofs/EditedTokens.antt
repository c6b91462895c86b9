-- The tokens of an edited text, where its changes are at the bounds of tokens.
use Rattle.std.proofs.Common.{◌≡◌, ℕ, ◌-◌, List, [], ◌∷◌, ◌++◌, map, take, drop, refl, sym, ap, subst}
use Rattle.c_lexer.specs.declared.token.Token.{Token}
use Rattle.c_lexer.specs.declared.token.Kind.{Kind}
use Rattle.c_lexer.specs.Scan.{HasTokens}
use Rattle.c_lexer.proofs.LocalPasses.{NoneRefused}
use Rattle.c_tree.specs.declared.choice.Choice.{Choice}
use Rattle.c_tree.specs.declared.program.Program.{Program}
use Rattle.source_patcher.specs.declared.change.Change.{Change}
use Rattle.source_patcher.specs.Changes.{changes}
use Rattle.source_patcher.specs.Edit.{edited, text_of, with_changes}
use Rattle.source_patcher.proofs.TextEdits.{TextEdit, with_edits}
use Rattle.source_patcher.proofs.Turns.{Turns, kinds, turned}

abbrev pub edit_of : Program → Change → TextEdit
edit_of p c = record { start = c.start; end = c.end; text = text_of p c }

abbrev pub edits_of : Program → List Change → List TextEdit
edits_of p cs = map (edit_of p) cs

pub same_text : (p : Program) (at : ℕ) (cs : List Change) (bytes : List ℕ) → with_changes p at cs bytes ≡ with_edits at (edits_of p cs) bytes
same_text p at [] bytes = refl
same_text p at (c ∷ cs) bytes = ap (λ rest. take (c.start - at) bytes ++ text_of p c ++ rest) (same_text p c.end cs (drop (c.end - at) bytes))

-- a text whose first token stays, and behind it has tokens of these kinds
pub record HasKinds (bytes : List ℕ) (first : Token) (us : List Kind) : Type 0 where
  pub rest : List Token
  pub has : HasTokens bytes (first ∷ rest)
  pub rest_kinds : kinds rest ≡ us
  pub accepted : NoneRefused (first ∷ rest)

pub edited_kinds : (bytes : List ℕ) (first : Token) (ts : List Token) (p : Program) (choice : Choice) (us : List Kind) → HasTokens bytes (first ∷ ts) → NoneRefused (first ∷ ts)
    → Turns first.end (edits_of p (changes (first ∷ ts) choice.puts p)) ts us → HasKinds (edited bytes (first ∷ ts) p choice) first us
edited_kinds bytes first ts p choice us has none turns =
    let cs = changes (first ∷ ts) choice.puts p in
    let d = turned bytes [] first first.end (edits_of p cs) ts us refl has none turns in
    record { rest = d.rest; has = subst (λ x. HasTokens x (first ∷ d.rest)) (sym (same_text p 0 cs bytes)) d.has; rest_kinds = d.rest_kinds; accepted = d.accepted }
