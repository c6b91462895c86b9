use Rattle.std.proofs.Common.{◌≡◌, ◌≤◌, drop}
use Rattle.std.specs.Prelude.{fold}
use Rattle.c_lexer.specs.Elements.{with_digit, decimal_value, greatest}
use Rattle.c_lexer.proofs.numbers.int_of.Given as goal

abbrev pub invariant-loop-digit : goal.invariant-loop-digit
invariant-loop-digit l = record {
  rest : fold with_digit l.value (drop l.digit-index l.digits) ≡ decimal_value l.digits;
  small : l.value ≤ greatest;
}
