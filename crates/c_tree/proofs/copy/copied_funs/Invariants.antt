-- The functions so far are copied.
use Rattle.std.proofs.Common.{◌≡◌, map, take}
use Rattle.std.specs.Option.{option_copied}
use Rattle.c_tree.specs.Fill.{regapped_fun}
use Rattle.c_tree.specs.Copies.{regap}
use Rattle.c_tree.proofs.copy.copied_funs.Given as goal

abbrev pub invariant-loop-fun : goal.invariant-loop-fun
invariant-loop-fun l = l.copy ≡ map (regapped_fun (regap (option_copied l.fn.puts))) (take l.fun-index l.funs)
