use Rattle.std.proofs.Common.{take}
use Rattle.std.specs.List.{All}
use Rattle.alias_facts.specs.Writes.{FieldFits}
use Rattle.alias_facts.proofs.writes.field_bound.Given as goal

abbrev pub invariant-loop-write : goal.invariant-loop-write
invariant-loop-write l = All (FieldFits l.bound) (take l.write-index l.writes)
