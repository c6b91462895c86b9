-- What is written, and what the parts that are left are printed as.
use Rattle.std.proofs.Common.{◌≡◌, ◌++◌, drop}
use Rattle.c_parser.specs.Printed.{each}
use Rattle.c_parser.proofs.parts.print_each.Given as goal

abbrev pub invariant-loop-part : goal.invariant-loop-part
invariant-loop-part g l = l.out ++ each g.T.Part.printed (drop l.part-index l.parts) ≡ l.fn.out ++ each g.T.Part.printed l.parts
