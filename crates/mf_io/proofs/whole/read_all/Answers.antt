use Rattle.std.proofs.Common.{arith, take, ◌++◌, length-append}
use Rattle.std.proofs.lemmas.List.{length-take}
use Rattle.std.proofs.lemmas.Result.{err_from_is_err_and}
use Rattle.mf_io.proofs.Streams.{Gives-then}
use Rattle.mf_io.proofs.whole.read_all.Goals as goal

pub returns-then-count-limit-clause-refused : goal.returns-then-count-limit-clause-refused
returns-then-count-limit-clause-refused g c = record {
  piece = c.loop-bytes.bytes.items ++ take c.in_ok-count.count c.read.new.room;
  gives = Gives-then _ _ _ _ _ c.loop-bytes.invariant.gives c.in_ok-count.ensures.gives;
  came = simp (length-append, length-take) (omega (arith, c.in_ok-count.ensures.within), omega (arith, c.in_ok-count.ensures.within));
}

pub returns-in_err-extend_from_slice-clause-refused :
    goal.returns-in_err-extend_from_slice-clause-refused
returns-in_err-extend_from_slice-clause-refused g c =
    let p = err_from_is_err_and c.from_residual-in_err-extend_from_slice.result c.from_residual-in_err-extend_from_slice.ensures.1 in
    rw (p.1, p.2) record {
      piece = c.loop-bytes.bytes.items ++ take c.in_ok-count.count c.read.new.room;
      gives = Gives-then _ _ _ _ _ c.loop-bytes.invariant.gives c.in_ok-count.ensures.gives;
      came = simp (length-append, length-take) (omega (arith, c.in_ok-count.ensures.within));
    }
