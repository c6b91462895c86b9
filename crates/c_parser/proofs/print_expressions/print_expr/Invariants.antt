-- What is written, and what is left to be printed, is all of the expression.
use Rattle.std.proofs.Common.{◌≡◌, ◌++◌}
use Rattle.c_parser.specs.Printed.{printed_expr}
use Rattle.c_parser.specs.PrintWork.{printed_works, weight}
use Rattle.c_parser.proofs.print_expressions.print_expr.Given as goal

abbrev pub invariant-loop-work : goal.invariant-loop-work
invariant-loop-work l = l.out ++ printed_works l.rest ≡ l.fn.out ++ printed_expr l.room l.expr

abbrev pub decreases-loop-work : goal.decreases-loop-work
decreases-loop-work l = weight l.rest
