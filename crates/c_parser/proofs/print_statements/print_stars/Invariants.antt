-- What is written, and the stars that are left, are all stars.
use Rattle.std.proofs.Common.{◌≡◌, ◌++◌, ◌-◌}
use Rattle.c_parser.specs.Printed.{printed_stars}
use Rattle.c_parser.proofs.print_statements.print_stars.Given as goal

abbrev pub invariant-loop-star : goal.invariant-loop-star
invariant-loop-star l = l.out ++ printed_stars (l.stars - l._star) ≡ l.fn.out ++ printed_stars l.stars
