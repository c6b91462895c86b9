-- A text has one program.
use Rattle.std.proofs.Common.{◌≡◌, ℕ, List, sym, subst, ◌∙◌}
use Rattle.std.proofs.lemmas.Option.{same_Some}
use Rattle.c_lexer.specs.declared.token.Tokens.{Tokens}
use Rattle.c_parser.specs.Grammar.{Generates}
use Rattle.c_tree.specs.declared.program.Program.{Program}
use Rattle.c_tree.specs.declared.tree.Tree.{Tree}
use Rattle.c_types.specs.Program.{IsProgram}
use Rattle.source_patcher.specs.Reads.{HasProgram, ReadsWithin}
use Rattle.c_parser.proofs.Complete.{complete}
use Rattle.memfix_engine.proofs.ReadsLemmas.{program_here, same_program}

-- tokens have one tree
pub one_tree : (ts : Tokens) (t u : Tree) → Generates t ts → Generates u ts → t ≡ u
one_tree ts t u h k = same_Some t u (sym (complete t ts h) ∙ complete u ts k)

-- and one program
pub one_program_here : (ts : Tokens) (p q : Program) → HasProgram ts p → HasProgram ts q → p ≡ q
one_program_here ts p q h k = same_program h.tree p q h.program (subst (λ t. IsProgram t q) (one_tree ts k.tree h.tree k.generates h.generates) k.program)

-- so has a text
pub one_program : (b : List ℕ) (p q : Program) → ReadsWithin b p → ReadsWithin b q → p ≡ q
one_program b p q h k = one_program_here h.tokens p q h.program (program_here b h.tokens q h.are k)
