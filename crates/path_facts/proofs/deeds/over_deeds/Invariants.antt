use Rattle.std.proofs.Common.{take}
use Rattle.ts_domain.specs.Facts.{before_deeds}
use Rattle.path_facts.specs.Corrections.{Carries}
use Rattle.path_facts.proofs.deeds.over_deeds.Given as goal

abbrev pub invariant-loop-deed : goal.invariant-loop-deed
invariant-loop-deed l = Carries l.names (before_deeds l.names (take l.deed-index l.deeds)) l.set l.carried
