use Rattle.std.proofs.Common.{◌≡◌, drop, take, ◌++◌}
use Rattle.c_meaning.specs.Effects.{cleared}
use Rattle.c_replay.proofs.calls.clear.Given as goal

abbrev pub invariant-loop-var : goal.invariant-loop-var
invariant-loop-var l = take l.var l.slots ++ cleared l.fun (drop l.var l.vars) (drop l.var l.slots) ≡ cleared l.fun l.vars l.fn.slots
