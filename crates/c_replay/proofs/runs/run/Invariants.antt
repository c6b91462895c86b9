use Rattle.std.proofs.Common.{◌≡◌}
use Rattle.c_meaning.specs.Safe.{run}
use Rattle.c_replay.proofs.runs.run.Given as goal

abbrev pub invariant-loop-taken : goal.invariant-loop-taken
invariant-loop-taken l = l.machine ≡ run l.program l.input l.fails l._taken
