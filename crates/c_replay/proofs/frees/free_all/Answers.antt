use Rattle.std.proofs.Common.{sym, ◌∙◌}
use Rattle.c_replay.proofs.FreeLists.{freed_at_place}
use Rattle.c_replay.proofs.frees.free_all.Goals as goal

pub returns-in_err-free-clause-alone : goal.returns-in_err-free-clause-alone
returns-in_err-free-clause-alone c = λ e. c.free.ensures.alone e ∙ c.loop-one.invariant.alone e

pub returns-then-is_over-clause-alone : goal.returns-then-is_over-clause-alone
returns-then-is_over-clause-alone c = λ e. c.free.ensures.alone e ∙ c.loop-one.invariant.alone e

pub loop-one-preserved : goal.loop-one-preserved
loop-one-preserved c = record {
  rest =
      freed_at_place c.args.frees.now c.loop-one.one-index c.one-item.result c.loop-one.machine c.free.new.machine c.loop-one-test.true c.one-item.is c.in_ok-free.ensures.ok (sym c.if-is_over.ensures)
      ∙ c.loop-one.invariant.rest;
  alone = λ e. c.free.ensures.alone e ∙ c.loop-one.invariant.alone e;
}
