-- The program of a text.
use Rattle.std.specs.Prelude.{◌≡◌, ℕ, List, length}
use Rattle.c_lexer.specs.declared.token.Tokens.{Tokens}
use Rattle.c_lexer.specs.Outcome.{AreTokens}
use Rattle.c_lexer.specs.Scan.{HasTokens}
use Rattle.c_parser.specs.Grammar.{Generates}
use Rattle.c_tree.specs.Cycles.{IsCyclic}
use Rattle.c_tree.specs.UserCalls.{user_calls}
use Rattle.c_tree.specs.declared.program.Program.{Program}
use Rattle.c_tree.specs.declared.tree.Tree.{Tree}
use Rattle.c_types.specs.Program.{IsProgram}

-- a tree generates the tokens and breaks no rule of names and types, and this is its program
pub record HasProgram (tokens : Tokens) (p : Program) : Type 0 where
  pub tree : Tree
  pub generates : Generates tree tokens
  pub program : IsProgram tree p
  pub acyclic : IsCyclic (user_calls p) → ⊥

-- the text has tokens, and these have the program; neither its size nor its nest has a bound
pub record Reads (b : List ℕ) (p : Program) : Type 0 where
  pub tokens : Tokens
  pub scanned : HasTokens b tokens.list
  pub size : tokens.size ≡ length b
  pub program : HasProgram tokens p

-- the same of a text in which the lexer refuses nothing, so that its nest is bounded
pub record ReadsWithin (b : List ℕ) (p : Program) : Type 0 where
  pub tokens : Tokens
  pub are : AreTokens b tokens
  pub program : HasProgram tokens p
