-- What is written, and what the others that are left are printed as.
use Rattle.std.proofs.Common.{◌≡◌, ◌++◌, drop}
use Rattle.c_parser.specs.Printed.{each, next_start}
use Rattle.c_parser.proofs.print_statements.print_next_starts.Given as goal

abbrev pub invariant-loop-start : goal.invariant-loop-start
invariant-loop-start l = l.out ++ each next_start (drop l.start-index l.more) ≡ l.fn.out ++ each next_start l.more
