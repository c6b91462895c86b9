use Rattle.std.proofs.Common.{◌≡◌, map, take}
use Rattle.ts_domain.specs.declared.marks.Step.{Step}
use Rattle.ts_domain.proofs.splits.split.Given as goal

abbrev pub invariant-loop-step : goal.invariant-loop-step
invariant-loop-step l = l.marks.items ≡ map (λ (s : Step). s.mark) (take l.step-index l.steps)
