-- When a text is refused.
use Rattle.std.specs.Prelude.{◌≡◌, ℕ, List, Ok, Err}
use Rattle.c_lexer.specs.declared.token.Tokens.{Tokens}
use Rattle.c_lexer.specs.Outcome.{AreTokens, Answers}
use Rattle.c_parser.specs.Answer as parser
use Rattle.c_parser.specs.declared.refusal.ParseRefusal.{ParseRefusal}
use Rattle.c_parser.specs.declared.refusal.ParseRefusal.TheVariants as parse
use Rattle.c_tree.specs.declared.tree.Tree.{Tree}
use Rattle.c_types.specs.Program as types
use Rattle.c_types.specs.declared.refusal.TypeRefusal.{TypeRefusal}
use Rattle.c_types.specs.declared.refusal.TypeRefusal.TheVariants as typing
use Rattle.memfix_engine.specs.declared.refusal.SourceRefusal.{SourceRefusal}
use Rattle.memfix_engine.specs.declared.refusal.SourceRefusal.TheVariants as source

-- the parser refuses the tokens so, and not for want of memory
pub record IsUnparsed (tokens : Tokens) (r : ParseRefusal) : Type 0 where
  pub answer : parser.IsAnswer tokens (Err r)
  pub caused : r ≡ parse.Memory → ⊥

-- the rules of names and types refuse the tree so, and not for want of memory
pub record IsIllTyped (tree : Tree) (r : TypeRefusal) : Type 0 where
  pub answer : types.IsAnswer tree (Err r)
  pub caused : r ≡ typing.Memory → ⊥

-- the tokens have this one tree, and it is refused so
pub record IsUnresolved (tokens : Tokens) (r : TypeRefusal) : Type 0 where
  pub tree : Tree
  pub parsed : parser.IsAnswer tokens (Ok tree)
  pub refuses : IsIllTyped tree r

-- the tree is refused so; nothing is said of want of memory
abbrev pub RefusesTree : Tree → SourceRefusal → Type 0
RefusesTree tree (source.Resolve r) = IsIllTyped tree r
RefusesTree tree source.Memory = Unit {0}
RefusesTree tree _ = ⊥

-- the tokens are refused so; nothing is said of want of memory
abbrev pub RefusesTokens : Tokens → SourceRefusal → Type 0
RefusesTokens tokens (source.Lex r) = ⊥
RefusesTokens tokens (source.Parse r) = IsUnparsed tokens r
RefusesTokens tokens (source.Resolve r) = IsUnresolved tokens r
RefusesTokens tokens source.Memory = Unit {0}

-- the lexer refuses nothing in the text, and its tokens are refused so
pub record RefusesLexed (b : List ℕ) (r : SourceRefusal) : Type 0 where
  pub tokens : Tokens
  pub are : AreTokens b tokens
  pub refuses : RefusesTokens tokens r

-- the text is refused so: by the lexer, by the parser or by the rules of names and types
abbrev pub RefusesSource : List ℕ → SourceRefusal → Type 0
RefusesSource b (source.Lex r) = Answers b (Err r)
RefusesSource b (source.Parse r) = RefusesLexed b (source.Parse r)
RefusesSource b (source.Resolve r) = RefusesLexed b (source.Resolve r)
RefusesSource b source.Memory = Unit {0}

-- at most so many bytes are read
abbrev pub source_limit : ℕ
source_limit = 1048576
