use Rattle.std.proofs.Common.{◌-◌, ◌<◌, ◌≤◌, length, take}
use Rattle.c_tree.specs.Cycles.{IsCyclic}
use Rattle.c_types.proofs.cycles.first_cycle.Given as goal

abbrev pub invariant-loop-open : goal.invariant-loop-open
invariant-loop-open l = (l.«open» < l.closed) × (l.closed ≤ length l.calls) × (IsCyclic (take l.«open» l.calls) → ⊥) × IsCyclic (take l.closed l.calls)

abbrev pub decreases-loop-open : goal.decreases-loop-open
decreases-loop-open l = l.closed - l.«open»
