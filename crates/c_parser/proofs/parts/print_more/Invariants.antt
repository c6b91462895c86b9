-- What is written, and what the parts that are left are printed as.
use Rattle.std.proofs.Common.{◌≡◌, ◌∷◌, ◌++◌, drop, codes}
use Rattle.c_parser.specs.Printed.{mark, each}
use Rattle.c_parser.proofs.parts.print_more.Given as goal

abbrev pub invariant-loop-part : goal.invariant-loop-part
invariant-loop-part g l =
    l.out ++ each (λ part. mark (codes ",") ∷ g.T.Part.printed part) (drop l.part-index l.more)
    ≡ l.fn.out ++ each (λ part. mark (codes ",") ∷ g.T.Part.printed part) l.more
