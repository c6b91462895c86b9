use Rattle.std.proofs.Common.{◌≡◌, take, flat_map}
use Rattle.cfg_lower.specs.Sources.{back_steps}
use Rattle.cfg_lower.proofs.steps.steps_back.Given as goal

abbrev pub invariant-loop-call : goal.invariant-loop-call
invariant-loop-call l = l.steps ≡ flat_map (back_steps l.source l.ctx l.number) (take l.call-index l.calls)
