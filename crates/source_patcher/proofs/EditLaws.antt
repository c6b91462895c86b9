-- The edited text from its tokens, changes and bytes.
use Rattle.std.proofs.Common.{◌≡◌, ℕ, List, length, ap, ◌∙◌}
use Rattle.c_lexer.specs.declared.token.Token.{Token}
use Rattle.c_lexer.specs.Scan.{HasTokens}
use Rattle.c_lexer.proofs.Edits.{tokens_unique}
use Rattle.c_lexer.proofs.Order.{tokens_ascend}
use Rattle.c_tree.specs.declared.choice.Choice.{Choice}
use Rattle.c_tree.specs.declared.choice.Put.{Put}
use Rattle.c_tree.specs.declared.program.Program.{Program}
use Rattle.source_patcher.specs.declared.change.Change.{Change}
use Rattle.source_patcher.specs.Changes.{changes}
use Rattle.source_patcher.specs.Edit.{edited, with_changes}
use Rattle.source_patcher.specs.Gaps.{AreInOrder}
use Rattle.source_patcher.proofs.TokensWithin.{ascends_in_order}

pub text_in_order : (bytes : List ℕ) (ts : List Token) → HasTokens bytes ts → AreInOrder ts
text_in_order bytes ts has = ascends_in_order ts (length bytes) (tokens_ascend bytes ts has)

pub edited_by : (bytes : List ℕ) (found here ts : List Token) (p : Program) (choice : Choice) (puts : List Put) (made list : List Change) (text out : List ℕ)
    → HasTokens bytes found → HasTokens bytes ts → here ≡ found → puts ≡ choice.puts → made ≡ changes here puts p → list ≡ made → text ≡ with_changes p 0 list bytes → out ≡ text
    → out ≡ edited bytes ts p choice
edited_by bytes found here ts p choice puts made list text out has' has tokens filled changed listed written same =
    same ∙ written
    ∙ ap (λ (cs : List Change). with_changes p 0 cs bytes)
    (listed ∙ changed ∙ ap (λ (us : List Token). changes us puts p) (tokens ∙ tokens_unique bytes found ts has' has) ∙ ap (λ (qs : List Put). changes ts qs p) filled)
