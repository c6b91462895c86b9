-- The edited text reads as a tree whose program is alike the filled program.
use Rattle.std.proofs.Common.{◌≡◌, ℕ, List, length, ◌∙◌}
use Rattle.c_lexer.specs.declared.token.Tokens.{Tokens}
use Rattle.c_lexer.specs.Scan.{HasTokens}
use Rattle.c_lexer.proofs.LocalPasses.{NoneRefused}
use Rattle.c_tree.specs.Alike.{IsAlike}
use Rattle.c_tree.specs.Fill.{fill}
use Rattle.c_tree.specs.declared.choice.Choice.{Choice}
use Rattle.c_tree.specs.declared.program.Program.{Program}
use Rattle.c_tree.specs.declared.tree.Tree.{Tree}
use Rattle.c_parser.specs.Grammar.{Generates}
use Rattle.c_types.specs.Program.{IsProgram}
use Rattle.source_patcher.proofs.OffsetsProgram.{program_unplaced}
use Rattle.source_patcher.proofs.ReadsFilled.{ReadsFilled}

-- what the text reads as: its tokens, its tree, and the program of that tree
pub record ReadsAlike (text : List ℕ) (p : Program) (choice : Choice) : Type 0 where
  pub tokens : Tokens
  pub has : HasTokens text tokens.list
  pub size : tokens.size ≡ length text
  pub accepted : NoneRefused tokens.list
  pub tree : Tree
  pub generates : Generates tree tokens
  pub program : Program
  pub is : IsProgram tree program
  pub alike : IsAlike program (fill p choice)

pub reads_alike : (text : List ℕ) (p : Program) (choice : Choice) → ReadsFilled text p choice → ReadsAlike text p choice
reads_alike text p choice f =
    let x = program_unplaced f.like f.tree f.program f.same f.is in
    record { tokens = f.tokens; has = f.has; size = f.size; accepted = f.accepted; tree = f.tree; generates = f.generates; program = x.0; is = x.1; alike = x.2 ∙ f.alike }
