use Rattle.std.proofs.Common.{◌≡◌, ◌++◌, drop}
use Rattle.alias_facts.specs.Writes.{writes_in}
use Rattle.alias_facts.proofs.writes.add_writes.Given as goal

abbrev pub invariant-loop-deed : goal.invariant-loop-deed
invariant-loop-deed l = l.list ++ writes_in (drop l.deed-index l.deeds) ≡ l.fn.list ++ writes_in l.deeds
