use Rattle.std.proofs.Common.{rules, ◌≡◌, ◌++◌, List, [], ◌∷◌, take, ◌∙◌, ap, sym}
use Rattle.c_tree.specs.declared.control.UserCall.{UserCall}
use Rattle.c_tree.specs.declared.program.FunDef.{FunDef}
use Rattle.c_tree.specs.UserCalls.{calls_in}
use Rattle.call_contexts.specs.Calls.{rows_from}
use Rattle.call_contexts.proofs.CallLaws.{rows_so_far}
use Rattle.call_contexts.proofs.calls.calls_by_function.Goals as goal

pub loop-caller-preserved : goal.loop-caller-preserved
loop-caller-preserved c =
    let made : c.push.new.self ≡ c.loop-caller.rows ++ c.add_block.new.list ∷ [] = search rules in
    let calls : c.add_block.new.list ≡ calls_in c.loop-caller.caller c.index-funs-caller.result.body = search rules in
    made ∙ ap (λ (cs : List UserCall). c.loop-caller.rows ++ cs ∷ []) calls
    ∙ ap (λ (rows : List (List UserCall)). rows ++ calls_in c.loop-caller.caller c.index-funs-caller.result.body ∷ []) c.loop-caller.invariant
    ∙ ap (λ (d : FunDef). rows_from 0 (take c.loop-caller.caller c.as_slice-funs.result.now) ++ calls_in c.loop-caller.caller d.body ∷ []) c.index-funs-caller.is
    ∙ sym (rows_so_far c.as_slice-funs.result.now c.loop-caller.caller c.index-funs-caller.result c.loop-caller-test.true)
