use Rattle.std.proofs.Common.{◌≡◌, drop}
use Rattle.c_meaning.specs.declared.machine.Ending.{Ending}
use Rattle.c_meaning.specs.Effects.{all_freed}
use Rattle.c_replay.specs.Changes.{on_store, taken_back}
use Rattle.c_replay.proofs.frees.free_all.Given as goal

abbrev pub invariant-loop-one : goal.invariant-loop-one
invariant-loop-one l = record {
  rest : on_store (all_freed (drop l.one-index l.frees)) l.machine ≡ on_store (all_freed l.frees) l.fn.machine;
  alone : (e : Ending) → taken_back l.noted e l.machine ≡ taken_back l.fn.noted e l.fn.machine;
}
