use Rattle.std.proofs.Common.{rules, get_or, sym, false}
use Rattle.std.proofs.lemmas.List.{get_or_default}
use Rattle.ts_domain.specs.declared.deed.Deed.{Deed}
use Rattle.ts_domain.specs.declared.deed.Deed.TheVariants.{Reads}
use Rattle.ts_domain.specs.declared.names.Read.TheVariants as read
use Rattle.ts_domain.specs.May.{IsDone}
use Rattle.alias_facts.specs.Writing.{Applies}
use Rattle.alias_facts.proofs.WritingLaws.{rounds_more}
use Rattle.alias_facts.proofs.writing.round.Goals as goal

pub loop-write-preserved : goal.loop-write-preserved
loop-write-preserved c =
    let n = c.args.names.now in
    let g = c.args.graph.now in
    let i = c.loop-write.write-index in
    let d : Deed = get_or c.args.writes.now i (Reads (read.Name 0) false) in
    let applied : Applies n g d c.in_ok-changed.field-0 c.loop-write.table c.apply.new.table = search rules in
    let done : IsDone n g d = c.requires.done i (Reads (read.Name 0) false) c.loop-write-test.true in
    rounds_more n g c.args.writes.now i d c.loop-write.changed c.in_ok-changed.field-0 c.args.table.now c.loop-write.table c.apply.new.table c.loop-write-test.true
    (sym (get_or_default c.args.writes.now i (Reads (read.Name 0) false) d c.loop-write-test.true)) done c.loop-write.invariant applied
