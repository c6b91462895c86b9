use Rattle.std.proofs.Common.{◌≡◌, take}
use Rattle.std.specs.Prelude.{map}
use Rattle.c_meaning.specs.Machine.{start_value}
use Rattle.c_replay.proofs.runs.start_slots.Given as goal

abbrev pub invariant-loop-var : goal.invariant-loop-var
invariant-loop-var l = l.slots ≡ map (λ v. start_value v.ty v.home) (take l.var-index l.vars)
