use Rattle.std.proofs.Common.{List, ◌+◌, drop, Result, Ok, append-nil, ap, sym, ◌∙◌}
use Rattle.std.proofs.lemmas.List.{drop_all}
use Rattle.c_tree.specs.declared.expr.Expr.{Expr}
use Rattle.c_meaning.specs.declared.value.Value.{Value}
use Rattle.c_meaning.specs.declared.machine.Stop.{Stop}
use Rattle.c_meaning.specs.Eval.{eval_all}
use Rattle.c_replay.specs.Lists.{behind}
use Rattle.c_replay.proofs.Gathered.{behind_none, value_at_place, fault_at_place}
use Rattle.c_replay.proofs.expressions.eval_all.Goals as goal

pub loop-expr-init : goal.loop-expr-init
loop-expr-init c =
    let m = c.args.machine.now in
    ap (λ (vs : List Value). behind vs (eval_all m.slots m.objects c.args.exprs.now)) c.new-values.ensures
    ∙ behind_none (eval_all m.slots m.objects c.args.exprs.now)

pub loop-expr-preserved : goal.loop-expr-preserved
loop-expr-preserved c =
    let m = c.args.machine.now in
    ap (λ (vs : List Value). behind vs (eval_all m.slots m.objects (drop (c.loop-expr.expr-index + 1) c.args.exprs.now))) c.in_ok-push-in-Ok.ensures.ok
    ∙ value_at_place m.slots m.objects c.loop-expr.values c.args.exprs.now c.loop-expr.expr-index c.expr-item.result c.in-Ok.value c.loop-expr-test.true c.expr-item.is (sym c.in-Ok.ensures)
    ∙ c.loop-expr.invariant

pub returns-in-Err : goal.returns-in-Err
returns-in-Err c =
    let m = c.args.machine.now in
    sym (fault_at_place m.slots m.objects c.loop-expr.values c.args.exprs.now c.loop-expr.expr-index c.expr-item.result c.in-Err.stop c.loop-expr-test.true c.expr-item.is (sym c.in-Err.ensures))
    ∙ c.loop-expr.invariant

pub returns : goal.returns
returns c =
    let m = c.args.machine.now in
    let gathered : List Value → Result (List Value) Stop = λ vs. Ok vs in
    ap gathered (sym (append-nil c.loop-expr.values))
    ∙ ap (λ (es : List Expr). behind c.loop-expr.values (eval_all m.slots m.objects es)) (sym (drop_all c.loop-expr.expr-index c.args.exprs.now c.loop-expr-test.false))
    ∙ c.loop-expr.invariant
