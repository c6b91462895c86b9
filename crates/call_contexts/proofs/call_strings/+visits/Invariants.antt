use Rattle.std.proofs.Common.{◌≡◌, ◌++◌, ◌+◌, ◌*◌, ◌≤◌, length, drop}
use Rattle.call_contexts.specs.Contexts.{visit, visit_calls}
use Rattle.call_contexts.proofs.call_strings.+visits.Given as goal

abbrev pub decreases-visit : goal.decreases-visit
decreases-visit l = 2 * l.depth

abbrev pub decreases-visit_calls : goal.decreases-visit_calls
decreases-visit_calls l = 2 * l.depth + 1

abbrev pub invariant-visit_calls-loop-call : goal.invariant-visit_calls-loop-call
invariant-visit_calls-loop-call l =
    (l.fn.list ++ visit_calls (visit l.rows l.depth) l.me (length l.fn.list) l.calls ≡ l.list ++ visit_calls (visit l.rows l.depth) l.me (length l.list) (drop l.call-index l.calls))
    × (length l.fn.list ≤ 1024 → length l.list ≤ 1024)
