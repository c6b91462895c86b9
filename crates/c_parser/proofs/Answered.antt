-- What is read of the tokens is the answer of the parser.
use Rattle.std.proofs.Common.{◌≡◌, ℕ, Some, None, Ok, Err, sym, subst, ◌∙◌}
use Rattle.std.proofs.lemmas.Option.{same_Some}
use Rattle.c_lexer.specs.declared.token.Tokens.{Tokens}
use Rattle.c_tree.specs.declared.tree.Tree.{Tree}
use Rattle.c_parser.specs.declared.refusal.ParseRefusal.TheVariants as refusal
use Rattle.c_parser.specs.Answer.{IsAnswer, StopsAt}
use Rattle.c_parser.specs.Grammar.{Generates}
use Rattle.c_parser.specs.ReadFile.{read_tree}
use Rattle.c_parser.specs.Recogniser.{place_of}
use Rattle.c_parser.proofs.Complete.{complete}
use Rattle.c_parser.proofs.Sound.{sound}
use Rattle.c_parser.proofs.Place.{placed_right}

pub tree_answered : (t : Tree) (tokens : Tokens) → read_tree tokens ≡ Some t → IsAnswer tokens (Ok t)
tree_answered t tokens is = (sound t tokens is, λ u generates. same_Some u t (sym (complete u tokens generates) ∙ is))

-- where nothing is read there is no tree
none_generates : (tokens : Tokens) → read_tree tokens ≡ None → (u : Tree) → Generates u tokens → ⊥
none_generates tokens is u generates = let both : Some u ≡ None = sym (complete u tokens generates) ∙ is in absurd (cc)

pub place_answered : (at : ℕ) (tokens : Tokens) → read_tree tokens ≡ None → at ≡ place_of tokens → IsAnswer tokens (Err (refusal.Syntax at))
place_answered at tokens is place =
    let none = none_generates tokens is in
    (none, subst (λ n. StopsAt tokens n) (sym place) (placed_right tokens none))
