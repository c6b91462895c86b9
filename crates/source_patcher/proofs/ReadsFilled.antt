-- The edited text reads as a tree that is equal but for offsets to one whose program is alike the filled program.
use Rattle.std.proofs.Common.{◌≡◌, ℕ, List, ◌∷◌, length}
use Rattle.c_lexer.specs.declared.token.Token.{Token}
use Rattle.c_lexer.specs.declared.token.Tokens.{Tokens}
use Rattle.c_lexer.specs.Scan.{HasTokens}
use Rattle.c_lexer.proofs.LocalPasses.{NoneRefused}
use Rattle.c_tree.specs.Alike.{IsAlike}
use Rattle.c_tree.specs.Fill.{fill}
use Rattle.c_tree.specs.declared.choice.Choice.{Choice}
use Rattle.c_tree.specs.declared.program.Program.{Program}
use Rattle.c_tree.specs.declared.tree.Top.{Top}
use Rattle.c_tree.specs.declared.tree.Tree.{Tree}
use Rattle.c_parser.specs.Alike.{moved}
use Rattle.c_parser.specs.Grammar.{Generates, IsFile}
use Rattle.c_parser.proofs.PrintedStatements.{none_at}
use Rattle.c_parser.proofs.RetoldFile.{as_braced}
use Rattle.c_types.specs.Program.{IsProgram, definitions, start}
use Rattle.source_patcher.specs.Edit.{edited}
use Rattle.source_patcher.specs.Refilled.{IsRefilledFile}
use Rattle.source_patcher.proofs.Readback.{HaveNames, reads_refilled}
use Rattle.source_patcher.proofs.RefilledProgram.{file_seen, refilled_program}

pub record ReadsFilled (text : List ℕ) (p : Program) (choice : Choice) : Type 0 where
  pub tokens : Tokens
  pub has : HasTokens text tokens.list
  pub size : tokens.size ≡ length text
  pub accepted : NoneRefused tokens.list
  pub tree : Tree
  pub generates : Generates tree tokens
  pub like : Tree
  pub same : moved none_at as_braced tree ≡ moved none_at as_braced like
  pub program : Program
  pub is : IsProgram like program
  pub alike : IsAlike program (fill p choice)

-- `names`: what the puts free is spelled as names; `seen`: at its gap each of them means what the put means
pub reads_filled : (bytes : List ℕ) (first : Token) (ts : List Token) (t : Tree) (p : Program) (choice : Choice) → HasTokens bytes (first ∷ ts) → IsFile t.tops (first ∷ ts) → IsProgram t p → HaveNames p choice.puts
    → ((ys : List Top) (d : IsRefilledFile p choice.puts (start (definitions t.tops)) t.tops ys) → file_seen p choice.puts d) → ReadsFilled (edited bytes (first ∷ ts) p choice) p choice
reads_filled bytes first ts t p choice has file is names seen =
    let r = reads_refilled bytes first ts t p choice has file is names in
    let f = refilled_program t p choice r.refilled.tops r.refilled.end is r.is_refilled (seen r.refilled.tops r.is_refilled) in
    record {
      tokens = r.tokens;
      has = r.has;
      size = r.size;
      accepted = r.accepted;
      tree = r.tree;
      generates = r.generates;
      like = r.refilled;
      same = r.alike;
      program = f.program;
      is = f.is;
      alike = f.alike;
    }
