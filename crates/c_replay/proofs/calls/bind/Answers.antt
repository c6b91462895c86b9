use Rattle.std.proofs.Common.{drop, sym, ◌∙◌}
use Rattle.c_replay.proofs.SlotLists.{bound_end}
use Rattle.c_replay.proofs.calls.bind.Goals as goal

pub returns-in-empty : goal.returns-in-empty
returns-in-empty c =
    sym (bound_end (drop c.loop-param.param-index c.args.params.now) c.loop-param.left.now c.loop-param.machine c.in-empty.len_below) ∙ c.loop-param.invariant
