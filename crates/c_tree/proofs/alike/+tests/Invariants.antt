-- The rest decides.
use Rattle.std.proofs.Common.{◌≡◌, drop}
use Rattle.std.specs.Cmp.Lexicographic.{pointwise}
use Rattle.c_tree.specs.AlikeTest.{alike_arm, alike_piece}
use Rattle.c_tree.proofs.alike.+tests.Given as goal

abbrev pub invariant-arms_alike-loop-i : goal.invariant-arms_alike-loop-i
invariant-arms_alike-loop-i l = pointwise alike_arm (drop l.i l.a) (drop l.i l.b) ≡ pointwise alike_arm l.a l.b

abbrev pub invariant-pieces_alike-loop-i : goal.invariant-pieces_alike-loop-i
invariant-pieces_alike-loop-i l = pointwise alike_piece (drop l.i l.a) (drop l.i l.b) ≡ pointwise alike_piece l.a l.b
