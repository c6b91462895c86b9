use Rattle.std.proofs.Common.{rules, ◌≤◌, get_or, false}
use Rattle.ts_domain.specs.declared.deed.Deed.{Deed}
use Rattle.ts_domain.specs.declared.deed.Deed.TheVariants.{Reads}
use Rattle.ts_domain.specs.declared.names.Read.TheVariants as read
use Rattle.alias_facts.specs.Writes.{FieldFits}
use Rattle.alias_facts.proofs.WriteLaws.{fields_more}
use Rattle.alias_facts.proofs.writes.field_bound.Goals as goal

pub loop-write-preserved : goal.loop-write-preserved
loop-write-preserved c =
    let i = c.loop-write.write-index in
    let d : Deed = get_or c.args.writes.now i (Reads (read.Name 0) false) in
    let fits : FieldFits c.in_ok-needed.needed d = search rules in
    let low : c.loop-write.bound ≤ c.max-bound.result = search rules in
    let high : c.in_ok-needed.needed ≤ c.max-bound.result = search rules in
    fields_more c.args.writes.now i (Reads (read.Name 0) false) c.loop-write.bound c.in_ok-needed.needed c.max-bound.result c.loop-write-test.true low high c.loop-write.invariant fits
