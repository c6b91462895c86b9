use Rattle.std.proofs.Common.{◌≤◌, ◌-◌, take, length}
use Rattle.c_tree.specs.Cycles.{IsCyclic}
use Rattle.c_types.specs.Peeling.{IsPeeled, without_callers}
use Rattle.c_types.proofs.cycles.is_cyclic.Given as goal

abbrev pub invariant-loop-next : goal.invariant-loop-next
invariant-loop-next l =
    (l.next ≤ length l.peeling.uncalled)
    × IsPeeled l.functions l.peeling (without_callers (take l.next l.peeling.uncalled) l.calls)
    × (IsCyclic l.calls → IsCyclic (without_callers (take l.next l.peeling.uncalled) l.calls))

abbrev pub decreases-loop-next : goal.decreases-loop-next
decreases-loop-next l = l.functions - l.next
