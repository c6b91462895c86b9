use Rattle.std.proofs.Common.{◌∙◌}
use Rattle.c_types.proofs.FunctionLaws.{function_done}
use Rattle.c_types.proofs.scope.Walk.function.Goals as goal

pub returns : goal.returns
returns c =
    c.in_ok-end_body.ensures
    ∙ function_done c.args.head.now c.args.body.now c.args.self.now c.heading.new.self c.params.new.self c.block.new.self c.in_ok-returns.returns c.len-function.result c.len-names.result
    c.as_slice.result.now c.in_ok-params.params c.in_ok-made.made c.in_ok-fun.fun
    c.len-function.ensures c.in_ok-returns.ensures c.len-names.ensures c.as_slice.ensures c.in_ok-params.ensures c.in_ok-made.ensures c.in_ok-fun.ensures
