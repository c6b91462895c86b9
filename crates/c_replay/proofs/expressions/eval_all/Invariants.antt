use Rattle.std.proofs.Common.{◌≡◌, drop}
use Rattle.c_meaning.specs.Eval.{eval_all}
use Rattle.c_replay.specs.Lists.{behind}
use Rattle.c_replay.proofs.expressions.eval_all.Given as goal

abbrev pub invariant-loop-expr : goal.invariant-loop-expr
invariant-loop-expr l =
    behind l.values (eval_all l.machine.slots l.machine.objects (drop l.expr-index l.exprs))
    ≡ eval_all l.machine.slots l.machine.objects l.exprs
