-- The edited text has tokens, and these are of the refilled tree of the text, but for offsets.
use Rattle.std.proofs.Common.{◌≡◌, ℕ, Bool, true, false, ◌==◌, List, [], ◌∷◌, length, flat_map, Option, Some, None, refl, sym, ap, subst, ◌∙◌}
use Rattle.c_lexer.specs.declared.token.Kind.{Kind}
use Rattle.c_lexer.specs.declared.token.Token.{Token}
use Rattle.c_lexer.specs.declared.token.Tokens.{Tokens}
use Rattle.c_lexer.specs.Scan.{HasTokens}
use Rattle.c_lexer.proofs.LocalPasses.{NoneRefused}
use Rattle.c_lexer.proofs.Lexemes.{Spelling}
use Rattle.c_lexer.proofs.Order.{tokens_ascend}
use Rattle.c_tree.specs.declared.choice.Choice.{Choice}
use Rattle.c_tree.specs.declared.choice.Put.{Put}
use Rattle.c_tree.specs.declared.program.FunDef.{FunDef}
use Rattle.c_tree.specs.declared.program.Program.{Program}
use Rattle.c_tree.specs.declared.tree.Tree.{Tree}
use Rattle.c_tree.specs.Fill.{puts_at}
use Rattle.c_parser.specs.Grammar.{Generates, IsFile}
use Rattle.c_parser.specs.Alike.{moved}
use Rattle.c_parser.proofs.Accepted.{generated_accepted}
use Rattle.c_parser.proofs.PrintedStatements.{none_at}
use Rattle.c_parser.proofs.Rests.{Rest}
use Rattle.c_parser.proofs.RetoldFile.{SameKinds, as_braced, retold}
use Rattle.c_types.specs.declared.scope.Walk.{Walk}
use Rattle.c_types.specs.Program.{IsProgram, definitions, start}
use Rattle.source_patcher.specs.Changes.{block_changes, changes}
use Rattle.source_patcher.specs.Edit.{edited, field_name, variable_name}
use Rattle.source_patcher.specs.Refilled.{IsRefilledFile}
use Rattle.source_patcher.proofs.Closing.{closes}
use Rattle.source_patcher.proofs.Edited.{new_at}
use Rattle.source_patcher.proofs.EditedTokens.{edited_kinds, edits_of}
use Rattle.source_patcher.proofs.Inserts.{AreSpelled}
use Rattle.source_patcher.proofs.TextEdits.{TextEdit}
use Rattle.source_patcher.proofs.Texts.{adds_free, field_is_freed, name_is_freed}
use Rattle.source_patcher.proofs.TopsEdited.{file_along, file_edits, first_image}
use Rattle.source_patcher.proofs.Turns.{Turns, kinds}

-- what a put frees has names that are spelled as names
abbrev pub HasNames : Program → ℕ → Option ℕ → Type 0
HasNames p x None = Spelling (variable_name p x)
HasNames p x (Some f) = Spelling (variable_name p x) × Spelling (field_name p x f)

abbrev pub HaveNames : Program → List Put → Type 0
HaveNames p [] = Unit {0}
HaveNames p (q ∷ qs) = HasNames p q.var q.field × HaveNames p qs

have_case : (p : Program) (g : ℕ) (q : Put) (qs : List Put) (b : Bool) → (q.gap == g) ≡ b → HasNames p q.var q.field → HaveNames p (puts_at qs g) → HaveNames p (puts_at (q ∷ qs) g)
have_case p g q qs true is one rest = rw is (one, rest)
have_case p g q qs false is one rest = rw is rest

have_at : (p : Program) (g : ℕ) (qs : List Put) → HaveNames p qs → HaveNames p (puts_at qs g)
have_at p g [] all = tt
have_at p g (q ∷ qs) all = have_case p g q qs (q.gap == g) refl all.0 (have_at p g qs all.1)

put_spelled : (p : Program) (q : Put) (qs : List Put) (x : ℕ) (f : Option ℕ) → q.var ≡ x → q.field ≡ f → HasNames p x f → AreSpelled p qs → AreSpelled p (record { gap = q.gap; var = x; field = f } ∷ qs)
put_spelled p q qs x None var field named rest = (adds_free _ _ (name_is_freed (variable_name p x) named), rest)
put_spelled p q qs x (Some f) var field named rest = (adds_free _ _ (field_is_freed (variable_name p x) (field_name p x f) named.0 named.1), rest)

are_spelled : (p : Program) (qs : List Put) → HaveNames p qs → AreSpelled p qs
are_spelled p [] all = tt
are_spelled p (q ∷ qs) all = put_spelled p q qs q.var q.field refl refl all.0 (are_spelled p qs all.1)

same_kinds : (ts us : List Token) → kinds ts ≡ kinds us → SameKinds ts us
same_kinds [] [] same = SameKinds.done
same_kinds [] (u ∷ us) same = absurd cc
same_kinds (t ∷ ts) [] same = absurd cc
same_kinds (t ∷ ts) (u ∷ us) same =
    let first : t.kind ≡ u.kind = cc in
    let rest : kinds ts ≡ kinds us = cc in
    SameKinds.more first (same_kinds ts us rest)

-- the tokens of the edited text, and the tree that generates them: the refilled one but for offsets
pub record ReadsRefilled (text : List ℕ) (p : Program) (puts : List Put) (t : Tree) : Type 0 where
  pub tokens : Tokens
  pub has : HasTokens text tokens.list
  pub size : tokens.size ≡ length text
  pub accepted : NoneRefused tokens.list
  pub refilled : Tree
  pub is_refilled : IsRefilledFile p puts (start (definitions t.tops)) t.tops refilled.tops
  pub tree : Tree
  pub generates : Generates tree tokens
  pub alike : moved none_at as_braced tree ≡ moved none_at as_braced refilled

abbrev tokens_of : List Token → ℕ → Option (ℕ × ℕ) → Tokens
tokens_of ts size comment = record { list = ts; last_comment = comment; size = size }

pub reads_refilled : (bytes : List ℕ) (first : Token) (ts : List Token) (t : Tree) (p : Program) (choice : Choice) → HasTokens bytes (first ∷ ts) → IsFile t.tops (first ∷ ts) → IsProgram t p → HaveNames p choice.puts
    → ReadsRefilled (edited bytes (first ∷ ts) p choice) p choice.puts t
reads_refilled bytes first ts t p choice has file is names =
    let all = first ∷ ts in
    let w = start (definitions t.tops) in
    let spelled : (v : Walk) → AreSpelled p (new_at choice.puts v) = λ v. are_spelled p (puts_at choice.puts v.gaps) (have_at p v.gaps choice.puts names) in
    let image = first_image p choice.puts spelled all (length bytes) (tokens_ascend bytes all has) (closes bytes all has) file w first ts refl Rest.here in
    let edits : file_edits all p choice.puts file w ≡ edits_of p (changes all choice.puts p) =
    file_along all p choice.puts file w ∙ ap (λ (fs : List FunDef). edits_of p (flat_map (λ (f : FunDef). block_changes all choice.puts f.body) fs)) (sym (ap (λ (q : Program). q.funs) is.made)) in
    let turns : Turns first.end (edits_of p (changes all choice.puts p)) ts (kinds image.list) = subst (λ (es : List TextEdit). Turns first.end es ts (kinds image.list)) edits image.turns in
    let k = edited_kinds bytes first ts p choice (kinds image.list) has (generated_accepted t (tokens_of all t.end None) (record { file = file; end = refl })) turns in
    let refilled : Tree = record { tops = image.others; end = 0 } in
    let old = tokens_of (first ∷ image.list) 0 None in
    let new = tokens_of (first ∷ k.rest) (length (edited bytes all p choice)) k.has.last_comment in
    let generates : Generates refilled old = record { file = image.is; end = refl } in
    let r = retold refilled old new generates (same_kinds (first ∷ image.list) (first ∷ k.rest) (ap (λ (ks : List Kind). first.kind ∷ ks) (sym k.rest_kinds))) in
    record {
      tokens = new;
      has = k.has;
      size = refl;
      accepted = k.accepted;
      refilled = refilled;
      is_refilled = image.refilled;
      tree = r.other;
      generates = r.generates;
      alike = r.alike;
    }
