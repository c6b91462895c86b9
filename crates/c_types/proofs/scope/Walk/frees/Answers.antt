use Rattle.c_types.specs.Blocks.{walked_free}
use Rattle.c_types.proofs.InTurnLaws.{each_more}
use Rattle.std.proofs.Common.{◌≡◌, ◌∙◌, sym, ap, rules, ◌++◌, List, [], ◌∷◌}
use Rattle.c_types.proofs.scope.Walk.frees.Goals as goal

-- src/blocks.rt:54:9
pub loop-free-preserved : goal.loop-free-preserved
loop-free-preserved c =
    each_more walked_free c.args.frees.now c.args.self.now c.loop-free.free-index c.free-item.result c.loop-free.self c.free.new.self c.loop-free.made c.in_ok-free.field-0
    c.loop-free-test.true c.free-item.is c.loop-free.invariant c.in_ok-free.ensures
    ∙ ap (λ m. (c.free.new.self, m)) (sym c.in_ok-push.ensures.ok)
