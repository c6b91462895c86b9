use Rattle.std.proofs.Common.{◌≡◌, drop}
use Rattle.c_meaning.specs.Effects.{bound}
use Rattle.c_replay.specs.Changes.{on_store}
use Rattle.c_replay.proofs.calls.bind.Given as goal

abbrev pub invariant-loop-param : goal.invariant-loop-param
invariant-loop-param l = on_store (bound (drop l.param-index l.params) l.left) l.machine ≡ on_store (bound l.params l.values) l.fn.machine
