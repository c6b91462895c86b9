use Rattle.std.proofs.Common.{◌≡◌, ◌-◌, drop, length}
use Rattle.c_scopes.specs.ScopeAt.{so_far, up_to}
use Rattle.c_scopes.proofs.visible.up_to.Given as goal

abbrev pub invariant-loop-next : goal.invariant-loop-next
invariant-loop-next l = up_to l.function l.fun (drop l.next l.vars) (so_far l.next l.seen) ≡ up_to l.function l.fun (drop l.count l.vars) (so_far l.count l.fn.seen)

abbrev pub decreases-loop-next : goal.decreases-loop-next
decreases-loop-next l = length l.vars - l.next
