use Rattle.path_facts.proofs.StartLaws.{full_more}
use Rattle.path_facts.proofs.start.full.Goals as goal

pub loop-number-preserved : goal.loop-number-preserved
loop-number-preserved c = full_more c.args.room c.loop-number.number c.loop-number.set c.insert.new.self c.loop-number.invariant.0 c.loop-number.invariant.1 c.insert.ensures.numbers
