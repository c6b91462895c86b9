use Rattle.std.proofs.Common.{take}
use Rattle.alias_facts.specs.Writing.{Rounds}
use Rattle.alias_facts.proofs.writing.round.Given as goal

abbrev pub invariant-loop-write : goal.invariant-loop-write
invariant-loop-write l = Rounds l.names l.graph (take l.write-index l.writes) l.changed l.fn.table l.table
