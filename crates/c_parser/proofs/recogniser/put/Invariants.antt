-- The stack with what is left to put on it.
use Rattle.std.proofs.Common.{◌≡◌, ◌++◌, reverse, length}
use Rattle.c_parser.proofs.recogniser.put.Given as goal

abbrev pub invariant-loop-symbol : goal.invariant-loop-symbol
invariant-loop-symbol l = l.stack ++ reverse l.left ≡ l.initial.stack ++ reverse l.initial.left

abbrev pub decreases-loop-symbol : goal.decreases-loop-symbol
decreases-loop-symbol l = length l.left
