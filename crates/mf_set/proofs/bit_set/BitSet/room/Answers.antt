use Rattle.mf_set.proofs.SetLaws.{is_set}
use Rattle.mf_set.proofs.bit_set.BitSet.room.Goals as goal

pub returns-clause-set : goal.returns-clause-set
returns-clause-set c = is_set c.self.inside.room c.self.inside.words.items c.args.self.now c.self.invariant c.self.view_is
