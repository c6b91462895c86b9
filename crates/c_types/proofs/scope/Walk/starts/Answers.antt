use Rattle.std.proofs.Common.{◌∙◌, sym, ap}
use Rattle.c_types.specs.Blocks.{walked_start}
use Rattle.c_types.proofs.InTurnLaws.{each_more}
use Rattle.c_types.proofs.scope.Walk.starts.Goals as goal

pub loop-start-preserved : goal.loop-start-preserved
loop-start-preserved c =
    each_more (walked_start c.args.nesting) c.args.starts.now c.args.self.now c.loop-start.start-index c.start-item.result c.loop-start.self c.start.new.self c.loop-start.made c.in_ok-start.field-0
    c.loop-start-test.true c.start-item.is c.loop-start.invariant c.in_ok-start.ensures
    ∙ ap (λ m. (c.start.new.self, m)) (sym c.in_ok-push.ensures.ok)
