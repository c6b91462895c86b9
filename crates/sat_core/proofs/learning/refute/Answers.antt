use Rattle.std.proofs.Common.{IsTrue, rules}
use Rattle.sat_core.proofs.LogParts.{part_ends}
use Rattle.sat_core.proofs.learning.refute.Goals as goal

pub returns-clause-ended : goal.returns-clause-ended
returns-clause-ended c =
    let learned : IsTrue c.in_ok-learn.field-0 = search rules in
    let told : IsTrue c.is_empty.result = search rules in
    part_ends c.args.clauses.now c.learn.new.log c.settle.new.log.list c.begin.new.marks.list.items (c.is_empty.ensures.0 told) (c.in_ok-learn.ensures.added learned) c.learn.ensures.part
