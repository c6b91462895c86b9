use Rattle.sat_core.specs.Learning.{clauses_of}
use Rattle.sat_core.proofs.ResolutionLaws.{refutable_from}
use Rattle.sat_core.proofs.resolution.begin.Goals as goal

pub returns : goal.returns
returns c = λ _. refutable_from (clauses_of c.args.known) c.mark_others.new.marks.list.items c.in-Some.clause.now c.in-Some.ensures c.in_ok-count.ensures.covers
