use Rattle.std.proofs.Common.{◌≡◌, map, take}
use Rattle.ts_domain.specs.Post.{step_of}
use Rattle.ts_domain.proofs.posts.steps_of.Given as goal

abbrev pub invariant-loop-entry : goal.invariant-loop-entry
invariant-loop-entry l = l.steps.items ≡ map step_of (take l.entry-index l.entries)
