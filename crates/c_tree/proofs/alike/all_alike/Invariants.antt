-- The rest decides.
use Rattle.std.proofs.Common.{◌≡◌, drop}
use Rattle.std.specs.Cmp.Lexicographic.{pointwise}
use Rattle.c_tree.proofs.alike.all_alike.Given as goal

abbrev pub invariant-loop-i : goal.invariant-loop-i
invariant-loop-i g l = pointwise g.T.Alike.alike (drop l.i l.a) (drop l.i l.b) ≡ pointwise g.T.Alike.alike l.a l.b
