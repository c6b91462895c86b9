use Rattle.std.proofs.Common.{sym}
use Rattle.c_replay.specs.Changes.{unmarked}
use Rattle.c_replay.proofs.Altered.{altered_at}
use Rattle.c_replay.proofs.store.unmark.Goals as goal

pub returns-then-object-len : goal.returns-then-object-len
returns-then-object-len c = sym (altered_at unmarked c.args.object c.args.objects.now c.at_mut.result.now c.at_mut.ensures.value)
