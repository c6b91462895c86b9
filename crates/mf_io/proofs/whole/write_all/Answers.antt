use Rattle.std.proofs.Common.{arith, length, ◌-◌, drop, length-drop}
use Rattle.std.proofs.lemmas.List.{length-take}
use Rattle.mf_io.proofs.Streams.{Takes-more}
use Rattle.mf_io.proofs.whole.write_all.Goals as goal

pub loop-written-preserved : goal.loop-written-preserved
loop-written-preserved g c = record {
  within = omega (arith, c.in-Ok.ensures.within, length-drop c.loop-written.written c.args.piece.now, length-take (length c.args.piece.now - c.loop-written.written) (drop c.loop-written.written c.args.piece.now));
  takes = Takes-more _ _ _ c.args.piece.now c.loop-written.written c.in-Ok.count c.loop-written.invariant.takes c.in-Ok.ensures.takes;
  never_falls = omega (arith, c.in-Ok.ensures.never_falls, c.loop-written.invariant.never_falls);
}
