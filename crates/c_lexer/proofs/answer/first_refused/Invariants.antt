use Rattle.std.proofs.Common.{◌≡◌, length}
use Rattle.c_lexer.specs.Outcome.{first_refused}
use Rattle.c_lexer.proofs.answer.first_refused.Given as goal

abbrev pub invariant-loop-left : goal.invariant-loop-left
invariant-loop-left l = first_refused l.left ≡ first_refused l.tokens

abbrev pub decreases-loop-left : goal.decreases-loop-left
decreases-loop-left l = length l.left
