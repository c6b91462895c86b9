use Rattle.std.proofs.Common.{◌+◌, List, ◌++◌, take, drop, ap, sym, ◌∙◌}
use Rattle.c_meaning.specs.declared.value.Value.{Value}
use Rattle.c_meaning.specs.Effects.{cleared}
use Rattle.c_replay.proofs.SlotLists.{clears, keeps}
use Rattle.c_replay.proofs.calls.clear.Goals as goal
use Rattle.c_replay.proofs.calls.clear.Goals.{then-is_local, else-is_local}

pub loop-var-preserved : goal.loop-var-preserved
loop-var-preserved c =
    let l = c.loop-var in
    let at = λ (slots : List Value). take (l.var + 1) slots ++ cleared c.args.fun (drop (l.var + 1) c.args.vars.now) (drop (l.var + 1) slots) in
    elim c.if-is_local.branch [
      | then-is_local w ↦
          ap at (w.slots-is ∙ w.write_slot.ensures)
          ∙ clears c.args.fun c.args.vars.now l.var c.index-vars-var.result l.slots c.loop-var-test.true c.index-vars-var.is (sym w.if-is_local.ensures)
          ∙ l.invariant
      | else-is_local w ↦
          ap at w.slots-is
          ∙ keeps c.args.fun c.args.vars.now l.var c.index-vars-var.result l.slots c.loop-var-test.true c.index-vars-var.is (sym w.if-is_local.ensures)
          ∙ l.invariant
    ]
