-- The edited text reads as a program alike the filled one, where each put of the choice is in scope at a gap of the program.
use Rattle.std.proofs.Common.{◌≡◌, ℕ, List, [], ◌∷◌, length, Some, None, refl, sym, ap, subst, ◌∙◌, arith}
use Rattle.c_lexer.specs.declared.token.Token.{Token}
use Rattle.c_lexer.specs.declared.token.Tokens.{Tokens}
use Rattle.c_lexer.specs.Outcome.{AreTokens}
use Rattle.c_lexer.specs.Scan.{HasTokens}
use Rattle.c_lexer.proofs.Edits.{tokens_unique}
use Rattle.c_tree.specs.Cycles.{IsCyclic}
use Rattle.c_tree.specs.UserCalls.{user_calls}
use Rattle.c_tree.specs.declared.choice.Choice.{Choice}
use Rattle.c_tree.specs.declared.program.Program.{Program}
use Rattle.c_tree.specs.declared.tree.Top.{Top}
use Rattle.c_tree.specs.declared.tree.Tree.{Tree}
use Rattle.c_parser.specs.Grammar.{IsFile}
use Rattle.c_parser.proofs.Shorter.{top_shorter}
use Rattle.c_types.specs.Calls.{main_name}
use Rattle.c_types.specs.Program.{IsProgram, definitions}
use Rattle.c_types.specs.Tables.{place_of}
use Rattle.source_patcher.specs.Edit.{edited}
use Rattle.source_patcher.specs.InScope.{AreInScope, HaveGaps}
use Rattle.source_patcher.specs.Reads.{ReadsWithin}
use Rattle.source_patcher.specs.ReadsBack.{ReadsBack}
use Rattle.source_patcher.proofs.BareCalls.{filled_acyclic}
use Rattle.source_patcher.proofs.OffsetsRead.{ReadsAlike, reads_alike}
use Rattle.source_patcher.proofs.PutNames.{have_names}
use Rattle.source_patcher.proofs.ScopedFile.{reads_in_scope}
use Rattle.source_patcher.proofs.TextFits.{text_well_formed}

pub has_tokens : (bytes : List ℕ) (tokens : Tokens) → AreTokens bytes tokens → HasTokens bytes tokens.list
has_tokens bytes tokens are = record { last_comment = tokens.last_comment; reads = are.reads }

alike_back : (text : List ℕ) (p : Program) (choice : Choice) → (IsCyclic (user_calls p) → ⊥) → ReadsAlike text p choice → ReadsBack text p choice
alike_back text p choice acyclic a = record {
  program = a.program;
  reads = record {
    tokens = a.tokens;
    scanned = a.has;
    size = a.size;
    program = record { tree = a.tree; generates = a.generates; program = a.is; acyclic = filled_acyclic a.program p choice a.alike acyclic };
  };
  alike = a.alike;
}

no_tops : (tops : List Top) (ts : List Token) → ts ≡ [] → IsFile tops ts → tops ≡ []
no_tops _ _ none IsFile.done = refl
no_tops _ _ none (IsFile.more {ts = ts} d q) =
    let less = top_shorter d in
    let long : length ts ≡ 0 = ap length none in
    absurd (omega (arith, less, long))

-- a text without tokens has no main
file_begins : (bytes : List ℕ) (ts : List Token) (t : Tree) (p : Program) (choice : Choice) → HasTokens bytes ts → IsFile t.tops ts → IsProgram t p
    → ((first : Token) (rest : List Token) → HasTokens bytes (first ∷ rest) → IsFile t.tops (first ∷ rest) → ReadsBack (edited bytes (first ∷ rest) p choice) p choice) → ReadsBack (edited bytes ts p choice) p choice
file_begins bytes [] t p choice has file is by =
    let none : None ≡ Some p.main = sym (ap (λ (tops : List Top). place_of (definitions tops) main_name) (no_tops t.tops [] refl file)) ∙ is.main in
    absurd cc
file_begins bytes (first ∷ rest) t p choice has file is by = by first rest has file

pub reads_back : (bytes : List ℕ) (p : Program) (choice : Choice) (ts : List Token) → HasTokens bytes ts → ReadsWithin bytes p → AreInScope p choice.puts → HaveGaps p choice.puts → ReadsBack (edited bytes ts p choice) p choice
reads_back bytes p choice ts has read scope gaps =
    let here = has_tokens bytes read.tokens read.are in
    let t = read.program.tree in
    let is = read.program.program in
    let file = read.program.generates.file in
    let well = text_well_formed bytes read.tokens p read.are read.program in
    subst (λ (us : List Token). ReadsBack (edited bytes us p choice) p choice) (tokens_unique bytes read.tokens.list ts here has)
    (file_begins bytes read.tokens.list t p choice here file is
    (λ first rest scanned grammar.
    let names = have_names bytes (first ∷ rest) t p choice.puts scanned grammar is well scope gaps in
    alike_back (edited bytes (first ∷ rest) p choice) p choice read.program.acyclic
    (reads_alike (edited bytes (first ∷ rest) p choice) p choice (reads_in_scope bytes first rest t p choice scanned grammar is names scope))))
