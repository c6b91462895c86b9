-- What is printed are the plainest tokens of the tree.
use Rattle.std.proofs.Common.{◌≡◌, ℕ, ◌≤◌, List, [], length, refl, ap, sym, subst, ◌∙◌, arith}
use Rattle.c_lexer.specs.declared.token.Kind.{Kind}
use Rattle.c_lexer.specs.declared.token.Tokens.{Tokens}
use Rattle.c_tree.specs.declared.tree.Top.{Top}
use Rattle.c_tree.specs.declared.tree.Tree.{Tree}
use Rattle.c_parser.specs.Alike.{IsAlike}
use Rattle.c_parser.specs.Answer.{IsPlainest, IsPrintable, opened}
use Rattle.c_parser.specs.Grammar.{Generates}
use Rattle.c_parser.specs.Printed.{printed, numbered, tokens_of}
use Rattle.c_parser.proofs.Spelled.{Spells, opens, numbered_spells, tally_opened, tally_numbered}
use Rattle.c_parser.proofs.MovedFile.{tree_prints}
use Rattle.c_parser.proofs.PrintedStatements.{none_at}
use Rattle.c_parser.proofs.BracedBlocks.{no_braces}
use Rattle.c_parser.proofs.PrintedFile.{File, file_again}
use Rattle.c_parser.proofs.FewestFile.{file_fewest}

-- of two trees that are alike the same is printed
pub alike_prints : (t u : Tree) → IsAlike t u → printed t ≡ printed u
alike_prints t u alike = sym (tree_prints none_at no_braces t) ∙ ap printed alike ∙ tree_prints none_at no_braces u

abbrev ended_at : List Top → ℕ → Tree
ended_at tops end = record { tops = tops; end = end }

again_plainest : (tree other : Tree) → IsAlike other tree → File other.tops (numbered 0 (printed tree))
    → ((u : Tree) (others : Tokens) → IsAlike u tree → Generates u others → opened (numbered 0 (printed tree)) ≤ opened others.list) → IsPlainest tree (tokens_of (printed tree))
again_plainest tree other alike file fewest = record {
  other = ended_at file.other (length (printed tree));
  alike = ap (λ (tops : List Top). ended_at tops 0) file.alike ∙ alike;
  braced = ap (λ (tops : List Top). ended_at tops (length (printed tree))) file.braces;
  generates = record { file = file.is; end = refl };
  fewest = fewest;
}

-- no tokens of a tree alike this one open fewer parentheses
fewest_opened : (tree u : Tree) (others : Tokens) → IsAlike u tree → Generates u others → opened (numbered 0 (printed tree)) ≤ opened others.list
fewest_opened tree u others alike generates =
    let least = file_fewest generates.file in
    let same = ap opens (alike_prints u tree alike) in
    let front = tally_numbered 0 (printed tree) in
    let all = tally_opened (numbered 0 (printed tree)) in
    let theirs = tally_opened others.list in
    omega (arith, least, same, front, all, theirs)

pub plainest : (tree : Tree) → IsPrintable tree → IsPlainest tree (tokens_of (printed tree))
plainest tree printable =
    let same : printed printable.other ≡ printed tree = alike_prints printable.other tree printable.alike in
    let spells : Spells (printed printable.other) (numbered 0 (printed tree)) [] = subst (λ (ks : List Kind). Spells ks (numbered 0 (printed tree)) []) (sym same) (numbered_spells 0 (printed tree)) in
    again_plainest tree printable.other printable.alike (file_again printable.generates.file (numbered 0 (printed tree)) spells) (fewest_opened tree)
