use Rattle.std.proofs.Common.{◌≡◌, ◌+◌, ◌≤◌, false, length}
use Rattle.c_lexer.specs.Nest.{nest, at_first, deepest, first_deep}
use Rattle.c_lexer.proofs.nest.first_deep.Given as goal

abbrev pub invariant-loop-left : goal.invariant-loop-left
invariant-loop-left l = record {
  shallow : nest l.nest ≤ deepest;
  few : l.nest.brackets + length l.left ≤ length l.tokens;
  rest : first_deep l.after_else l.nest l.left ≡ first_deep false at_first l.tokens;
}

abbrev pub decreases-loop-left : goal.decreases-loop-left
decreases-loop-left l = length l.left
