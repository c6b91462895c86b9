use Rattle.std.proofs.Common.{rules, ◌≤◌, length}
use Rattle.typestate_fixpoint.proofs.derivation.close.Goals as goal

pub returns-clause-ok : goal.returns-clause-ok
returns-clause-ok c =
    let past : length c.loop-done.state.triples.keys ≤ c.loop-done.done = search rules in
    record { done = c.loop-done.done; going = c.loop-done.invariant.0; ended = past; few = c.loop-done.invariant.1 }
