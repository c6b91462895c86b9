use Rattle.path_facts.proofs.WorklistLaws.{meets_at}
use Rattle.path_facts.proofs.worklist.meet.Goals as goal

pub returns : goal.returns
returns c = meets_at c.args.to c.args.other.now c.meet_with.result c.args.sets.now c.at_mut.result.now c.meet_with.new.self c.at_mut.ensures.value c.meet_with.ensures.numbers c.meet_with.ensures.changed
