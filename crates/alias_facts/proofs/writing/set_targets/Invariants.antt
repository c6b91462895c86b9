use Rattle.std.proofs.Common.{take}
use Rattle.alias_facts.specs.Writing.{TargetsSet}
use Rattle.alias_facts.proofs.writing.set_targets.Given as goal

abbrev pub invariant-loop-site : goal.invariant-loop-site
invariant-loop-site l = TargetsSet l.names l.graph (take l.site-index l.sites) l.of l.field l.more.items l.changed l.fn.table l.table
