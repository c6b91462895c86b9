-- The rest decides.
use Rattle.std.proofs.Common.{◌≡◌, drop}
use Rattle.std.specs.Cmp.Lexicographic.{pointwise}
use Rattle.c_tree.specs.AlikeTest.{same_ty}
use Rattle.c_types.proofs.functions.same_params.Given as goal

abbrev pub invariant-loop-i : goal.invariant-loop-i
invariant-loop-i l = pointwise same_ty (drop l.i l.left) (drop l.i l.right) ≡ pointwise same_ty l.left l.right
