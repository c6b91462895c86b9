use Rattle.std.proofs.Common.{◌≡◌}
use Rattle.ts_domain.specs.Marks.{knowledge, marked_below}
use Rattle.ts_domain.specs.MarkWrites.{changed}
use Rattle.ts_domain.proofs.redraw.redrawn.Given as goal

abbrev pub invariant-loop-expression : goal.invariant-loop-expression
invariant-loop-expression l = l.drawn ≡ marked_below l.expression l.count l.mark.site (changed (knowledge l.known) l.mark l.change)
