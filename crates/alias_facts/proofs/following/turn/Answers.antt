use Rattle.std.proofs.Common.{rules}
use Rattle.alias_facts.specs.Writing.{Applies}
use Rattle.alias_facts.proofs.WritingLaws.{applied_settling}
use Rattle.alias_facts.proofs.following.turn.Goals as goal

pub returns-then-branch : goal.returns-then-branch
returns-then-branch c =
    let n = c.args.names.now in
    let g = c.args.graph.now in
    let applied : Applies n g c.args.write.now c.in_ok-apply.field-0 c.args.table.now c.apply.new.table = search rules in
    applied_settling n g c.args.write.now c.in_ok-apply.field-0 c.args.table.now c.apply.new.table c.requires.done applied
