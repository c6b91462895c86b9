use Rattle.std.proofs.Common.{◌≡◌, ◌++◌, drop}
use Rattle.alias_facts.specs.Writes.{writes_of}
use Rattle.alias_facts.proofs.writes.writes_of.Given as goal

abbrev pub invariant-loop-deeds : goal.invariant-loop-deeds
invariant-loop-deeds l = l.list ++ writes_of (drop l.deeds-index l.all) ≡ writes_of l.all
