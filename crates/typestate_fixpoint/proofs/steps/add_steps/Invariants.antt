use Rattle.std.proofs.Common.{◌≡◌, drop, map}
use Rattle.indexmap.specs.IndexSet.{insert_all}
use Rattle.typestate_fixpoint.specs.Steps.{next_triple, same_triple}
use Rattle.typestate_fixpoint.proofs.steps.add_steps.Given as goal

abbrev pub invariant-loop-step : goal.invariant-loop-step
invariant-loop-step l = insert_all same_triple l.triples.keys (map (next_triple l.to l.held) (drop l.step-index l.steps)) ≡ insert_all same_triple l.fn.triples.keys (map (next_triple l.to l.held) l.steps)
