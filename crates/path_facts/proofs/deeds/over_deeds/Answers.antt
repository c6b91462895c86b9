use Rattle.std.proofs.Common.{rules, get_or, false}
use Rattle.ts_domain.specs.declared.deed.Deed.{Deed}
use Rattle.ts_domain.specs.declared.deed.Deed.TheVariants.{Reads}
use Rattle.ts_domain.specs.declared.names.Read.TheVariants as read
use Rattle.ts_domain.specs.Facts.{before_deed}
use Rattle.path_facts.specs.Corrections.{Carries}
use Rattle.path_facts.proofs.DeedLaws.{carries_more}
use Rattle.path_facts.proofs.deeds.over_deeds.Goals as goal

pub loop-deed-preserved : goal.loop-deed-preserved
loop-deed-preserved c =
    let n = c.args.names.now in
    let i = c.loop-deed.deed-index in
    let d : Deed = get_or c.args.deeds.now i (Reads (read.Name 0) false) in
    let over : Carries n (before_deed n d) c.loop-deed.carried c.over_deed.new.set = search rules in
    carries_more n c.args.deeds.now i (Reads (read.Name 0) false) c.args.set.now c.loop-deed.carried c.over_deed.new.set c.loop-deed-test.true c.loop-deed.invariant over
