use Rattle.std.proofs.Common.{◌+◌, ◌∙◌, sym, subst}
use Rattle.c_types.proofs.Zeros.{ZerosBelow, zeros_none, zeros_more, zeros_same}
use Rattle.c_types.proofs.cycles.uncalled.Goals as goal
use Rattle.c_types.proofs.cycles.uncalled.Goals.{then-count-eq0+in_ok-push, else-count-eq0}

pub loop-function-init : goal.loop-function-init
loop-function-init c = subst (ZerosBelow c.args.counts.now 0) (sym c.new-found.ensures) (zeros_none c.args.counts.now)

pub loop-function-preserved : goal.loop-function-preserved
loop-function-preserved c =
    elim c.if-count-eq0.branch [
      | then-count-eq0+in_ok-push w ↦
          subst (ZerosBelow c.args.counts.now (c.loop-function.function + 1)) (sym (w.found-is ∙ w.in_ok-push.ensures.ok))
          (zeros_more c.args.counts.now c.loop-function.function c.loop-function.found w.if-count-eq0.true c.loop-function.invariant)
      | else-count-eq0 w ↦
          subst (ZerosBelow c.args.counts.now (c.loop-function.function + 1)) (sym w.found-is)
          (zeros_same c.args.counts.now c.loop-function.function c.loop-function.found w.if-count-eq0.false c.loop-function.invariant)
    ]
