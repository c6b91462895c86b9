use Rattle.std.proofs.Common.{take}
use Rattle.alias_facts.specs.Flow.{in_cells}
use Rattle.alias_facts.specs.Growth.{IsFound}
use Rattle.alias_facts.proofs.found.in_cells.Given as goal

abbrev pub invariant-loop-site : goal.invariant-loop-site
invariant-loop-site l = IsFound l.table.bounds.sites (in_cells l.table l.field (take l.site-index l.sites)) l.set
