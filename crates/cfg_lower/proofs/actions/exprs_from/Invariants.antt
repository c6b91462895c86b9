use Rattle.std.proofs.Common.{◌≡◌, take}
use Rattle.cfg_lower.proofs.actions.exprs_from.Given as goal

abbrev pub invariant-loop-expr : goal.invariant-loop-expr
invariant-loop-expr l = l.copy ≡ take l.expr-index l.exprs
