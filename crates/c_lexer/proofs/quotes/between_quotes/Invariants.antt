use Rattle.std.proofs.Common.{ℕ, List, ◌++◌, ◌+◌, ◌-◌, ◌≤◌, length, drop}
use Rattle.c_lexer.specs.declared.element.Next.{Next}
use Rattle.c_lexer.specs.Elements.{CharSequence}
use Rattle.c_lexer.proofs.quotes.between_quotes.Given as goal

-- what is spelled from here on is spelled from the start with what came before
abbrev pub invariant-loop-b : goal.invariant-loop-b
invariant-loop-b l = record {
  within : l.at ≤ length l.text;
  spelled : (values : List ℕ) (n : ℕ) (end : Next) → CharSequence l.quote (drop l.at l.text) values n end → CharSequence l.quote l.text (l.values ++ values) (l.at + n) end;
}

abbrev pub decreases-loop-b : goal.decreases-loop-b
decreases-loop-b l = length l.text - l.at
