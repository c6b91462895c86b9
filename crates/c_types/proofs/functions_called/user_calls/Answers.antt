use Rattle.std.proofs.Common.{◌++◌, take, ◌∙◌, ap, sym}
use Rattle.c_tree.specs.declared.program.FunDef.{FunDef}
use Rattle.c_tree.specs.UserCalls.{calls_in, calls_from}
use Rattle.c_types.proofs.CallLaws.{from_more}
use Rattle.c_types.proofs.functions_called.user_calls.Goals as goal

pub loop-caller-preserved : goal.loop-caller-preserved
loop-caller-preserved c =
    c.in_ok-add_block.ensures
    ∙ ap (λ xs. xs ++ calls_in c.loop-caller.caller c.index-funs-caller.result.body) c.loop-caller.invariant
    ∙ ap (λ (d : FunDef). calls_from 0 (take c.loop-caller.caller c.as_slice-funs.result.now) ++ calls_in c.loop-caller.caller d.body) c.index-funs-caller.is
    ∙ sym (from_more c.as_slice-funs.result.now c.loop-caller.caller c.index-funs-caller.result c.loop-caller-test.true)
