use Rattle.std.proofs.Common.{rules, [], ◌∷◌, get_or}
use Rattle.alias_facts.specs.Writing.{TargetsSet}
use Rattle.alias_facts.proofs.WritingLaws.{targets_more}
use Rattle.alias_facts.proofs.writing.set_targets.Goals as goal

pub loop-site-preserved : goal.loop-site-preserved
loop-site-preserved c =
    let n = c.args.names.now in
    let g = c.args.graph.now in
    let ts = c.args.sites.now in
    let i = c.loop-site.site-index in
    let of = c.args.of in
    let field = c.args.field in
    let more = c.args.more.now.items in
    let one : TargetsSet n g (get_or ts i 0 ∷ []) of field more c.set_target-changed.result c.loop-site.table c.set_target-changed.new.table = search rules in
    targets_more n g ts i of field more c.loop-site.changed c.set_target-changed.result c.args.table.now c.loop-site.table c.set_target-changed.new.table c.loop-site-test.true c.loop-site.invariant one
