use Rattle.std.proofs.Common.{◌≡◌, ◌++◌, drop}
use Rattle.source_patcher.specs.Edit.{with_changes}
use Rattle.source_patcher.proofs.writing.with_changes.Given as goal

abbrev pub invariant-loop-change : goal.invariant-loop-change
invariant-loop-change l = with_changes l.program 0 l.changes l.bytes ≡ l.text.items ++ with_changes l.program l.at (drop l.change-index l.changes) l.rest
