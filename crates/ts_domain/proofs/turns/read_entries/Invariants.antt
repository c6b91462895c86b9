use Rattle.std.proofs.Common.{◌≡◌, map, take}
use Rattle.ts_domain.specs.Marks.{knowledge, splits}
use Rattle.ts_domain.specs.Post.{read_entry}
use Rattle.ts_domain.proofs.turns.read_entries.Given as goal

abbrev pub invariant-loop-step : goal.invariant-loop-step
invariant-loop-step l = l.list ≡ map (read_entry l.read l.noted l.place l.before) (take l.step-index l.steps)
