-- The puts of the functions so far are found.
use Rattle.std.proofs.Common.{◌≡◌, take, flat_map}
use Rattle.c_tree.specs.Numbers.{gaps_in}
use Rattle.c_tree.specs.declared.program.FunDef.{FunDef}
use Rattle.memfix_engine.specs.OwnPuts.{gap_puts}
use Rattle.memfix_engine.proofs.own_frees.own_puts.Given as goal

abbrev pub invariant-loop-fun : goal.invariant-loop-fun
invariant-loop-fun l = l.found ≡ flat_map gap_puts (flat_map (λ (d : FunDef). gaps_in d.body) (take l.fun-index l.fun-items))
