-- The symbols that left the stack may all be nothing.
use Rattle.std.proofs.Common.{◌≡◌, reverse, length}
use Rattle.c_parser.specs.Recogniser.{advance}
use Rattle.c_parser.proofs.recogniser.advance.Given as goal

abbrev pub invariant-loop-symbol : goal.invariant-loop-symbol
invariant-loop-symbol l = advance (reverse l.initial.stack) l.term ≡ advance (reverse l.stack) l.term

abbrev pub decreases-loop-symbol : goal.decreases-loop-symbol
decreases-loop-symbol l = length l.stack
