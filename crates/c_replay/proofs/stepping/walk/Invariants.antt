use Rattle.std.proofs.Common.{◌≡◌, ◌+◌}
use Rattle.c_meaning.specs.declared.machine.Ending.{Ending}
use Rattle.c_meaning.specs.Machine.{store_of}
use Rattle.c_meaning.specs.Step.{acts, state_of, walked, with}
use Rattle.c_replay.specs.Changes.{moved, taken_back}
use Rattle.c_replay.proofs.stepping.walk.Given as goal

abbrev pub invariant-loop-gap : goal.invariant-loop-gap
invariant-loop-gap l = record {
  walks : walked l.program (acts l.program) (l.left + 1) (with (moved l.path l.machine.rest) (store_of l.machine)) ≡ walked l.program (acts l.program) (l.program.gaps + 1) (state_of l.fn.machine);
  alone : (e : Ending) → taken_back l.noted e l.machine ≡ taken_back l.fn.noted e l.fn.machine;
}

abbrev pub decreases-loop-gap : goal.decreases-loop-gap
decreases-loop-gap l = l.left
