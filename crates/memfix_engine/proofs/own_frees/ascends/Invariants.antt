-- The puts ascend if those that are left do behind the last one.
use Rattle.std.proofs.Common.{◌≡◌, drop}
use Rattle.std.specs.Option.{option_copied}
use Rattle.c_tree.specs.Fill.{ascends}
use Rattle.memfix_engine.specs.OwnPuts.{ascends_behind}
use Rattle.memfix_engine.proofs.own_frees.ascends.Given as goal

abbrev pub invariant-loop-put : goal.invariant-loop-put
invariant-loop-put l = ascends_behind (option_copied l.last) (drop l.put-index l.puts) ≡ ascends l.puts
