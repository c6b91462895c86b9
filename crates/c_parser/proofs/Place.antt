-- The place that the recogniser finds is that of the definition.
use Rattle.std.proofs.Common.{◌≡◌, List, [], ◌∷◌, ◌++◌, Option, Some, None, refl, ap, sym, subst, ◌∙◌, append-nil}
use Rattle.std.proofs.lemmas.Option.{same_Some}
use Rattle.c_lexer.specs.declared.token.Token.{Token}
use Rattle.c_lexer.specs.declared.token.Tokens.{Tokens}
use Rattle.c_tree.specs.declared.tree.Tree.{Tree}
use Rattle.c_parser.specs.Answer.{StopsAt}
use Rattle.c_parser.specs.Recogniser.{advance, place_of, place_in, stop, stopped}
use Rattle.c_parser.specs.Grammar.{Generates}
use Rattle.c_parser.specs.Term.{term_of}
use Rattle.c_parser.specs.declared.symbol.Symbol.{Symbol}
use Rattle.c_parser.specs.declared.symbol.Symbol.TheVariants as symbol
use Rattle.c_parser.proofs.Runs.{begun_goes}
use Rattle.c_parser.proofs.Viable.{viable}

-- the tokens before the one at which the recogniser stops, that one, and those behind it
pub record Stopped (stack : List Symbol) (ts rest : List Token) : Type 0 where
  pub front : List Token
  pub at : Token
  pub behind : List Token
  pub is : front ++ at ∷ behind ≡ ts
  pub rest_is : rest ≡ at ∷ behind
  pub goes : stop front stack ≡ None
  pub stops : stop (front ++ at ∷ []) stack ≡ None → ⊥

-- the recogniser stops at the first token, or behind it

stopped_first : (t : Token) (ts : List Token) (stack : List Symbol) → advance stack (term_of t) ≡ None → Stopped stack (t ∷ ts) (t ∷ ts)
stopped_first t ts stack is = record {
  front = [];
  at = t;
  behind = ts;
  is = refl;
  rest_is = refl;
  goes = refl;
  stops = λ goes. let halts : stop (t ∷ []) stack ≡ Some (t ∷ []) = rw is in absurd (cc);
}

stopped_next : {new : List Symbol} {ts rest : List Token} (t : Token) (stack : List Symbol) → advance stack (term_of t) ≡ Some new → Stopped new ts rest
    → Stopped stack (t ∷ ts) rest
stopped_next {new = new} t stack is later = record {
  front = t ∷ later.front;
  at = later.at;
  behind = later.behind;
  is = ap (λ l. t ∷ l) later.is;
  rest_is = later.rest_is;
  goes = rw is later.goes;
  stops = λ goes. let same_stop : stop (t ∷ later.front ++ later.at ∷ []) stack ≡ stop (later.front ++ later.at ∷ []) new = rw is in later.stops (sym same_stop ∙ goes);
}

stopped_by : (t : Token) (ts rest : List Token) (stack : List Symbol) (behind : (new : List Symbol) → stop ts new ≡ Some rest → Stopped new ts rest)
    (moved : Option (List Symbol)) → advance stack (term_of t) ≡ moved → stopped (t ∷ ts) (stop ts) moved ≡ Some rest → Stopped stack (t ∷ ts) rest
stopped_by t ts rest stack behind None is stops = subst (λ l. Stopped stack (t ∷ ts) l) (same_Some (t ∷ ts) rest stops) (stopped_first t ts stack is)
stopped_by t ts rest stack behind (Some new) is stops = stopped_next t stack is (behind new stops)

stopped_at : (ts rest : List Token) (stack : List Symbol) → stop ts stack ≡ Some rest → Stopped stack ts rest
stopped_at [] rest stack stops = absurd (cc)
stopped_at (t ∷ ts) rest stack stops = stopped_by t ts rest stack (λ new. stopped_at ts rest new) (advance stack (term_of t)) refl stops

-- with no tree there is a first token, or the end, that can't come next

none_placed : (tokens : Tokens) → ((t : Tree) → Generates t tokens → ⊥) → stop tokens.list (symbol.File ∷ []) ≡ None → StopsAt tokens tokens.size
none_placed tokens none goes = record {
  front = tokens.list;
  rest = [];
  is = append-nil tokens.list;
  begins = viable tokens.list goes;
  stops = (refl, λ tops file. none (record { tops = tops; end = tokens.size }) (record { file = file; end = refl }));
}

some_placed : (tokens : Tokens) (rest : List Token) → Stopped (symbol.File ∷ []) tokens.list rest → StopsAt tokens (place_in tokens.size (Some rest))
some_placed tokens rest at_token = record {
  front = at_token.front;
  rest = rest;
  is = ap (λ l. at_token.front ++ l) at_token.rest_is ∙ at_token.is;
  begins = viable at_token.front at_token.goes;
  stops = rw at_token.rest_is (refl, λ begins. at_token.stops (begun_goes (at_token.front ++ at_token.at ∷ []) begins));
}

placed_by : (tokens : Tokens) → ((t : Tree) → Generates t tokens → ⊥) → (r : Option (List Token)) → stop tokens.list (symbol.File ∷ []) ≡ r
    → StopsAt tokens (place_in tokens.size r)
placed_by tokens none None goes = none_placed tokens none goes
placed_by tokens none (Some rest) stops = some_placed tokens rest (stopped_at tokens.list rest (symbol.File ∷ []) stops)

pub placed_right : (tokens : Tokens) → ((t : Tree) → Generates t tokens → ⊥) → StopsAt tokens (place_of tokens)
placed_right tokens none = placed_by tokens none (stop tokens.list (symbol.File ∷ [])) refl
