-- The place is that in the tokens that are left, by the stack behind those before.
use Rattle.std.proofs.Common.{◌≡◌, reverse, length}
use Rattle.c_parser.specs.Recogniser.{stop, place_in, place_of}
use Rattle.c_parser.proofs.recogniser.place_of.Given as goal

abbrev pub invariant-loop-left : goal.invariant-loop-left
invariant-loop-left l = place_of l.tokens ≡ place_in l.tokens.size (stop l.left (reverse l.stack))

abbrev pub decreases-loop-left : goal.decreases-loop-left
decreases-loop-left l = length l.left
