use Rattle.std.proofs.Common.{rules}
use Rattle.cover_certificate.specs.Regular.{is_open}
use Rattle.cover_certificate.proofs.PassingLaws.{passing_more, InsertsIf}
use Rattle.cover_certificate.proofs.making.open_below.Goals as goal

pub loop-expression-preserved : goal.loop-expression-preserved
loop-expression-preserved c =
    let written : InsertsIf c.is_open.result c.loop-expression.expression c.loop-expression.set c.insert_if.new.set = search rules in
    passing_more (is_open c.args.mark.now) c.loop-expression.expression c.args.count c.is_open.result c.loop-expression.set c.insert_if.new.set c.is_open.ensures c.loop-expression.invariant written
