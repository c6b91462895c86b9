-- The puts of the frees so far are added.
use Rattle.std.proofs.Common.{◌≡◌, ◌++◌, take, map}
use Rattle.c_tree.specs.declared.expr.Expr.{out-Expr}
use Rattle.c_tree.specs.declared.program.Free.{Free}
use Rattle.memfix_engine.specs.OwnPuts.{put_of}
use Rattle.memfix_engine.proofs.own_frees.push_gap.Given as goal

abbrev pub invariant-loop-free : goal.invariant-loop-free
invariant-loop-free l = l.out ≡ l.fn.out ++ map (λ (f : Free). put_of l.gap.number (out-Expr f.expr)) (take l.free-index l.free-items)
