use Rattle.mf_set.proofs.WordLaws.{has_bit-insert}
use Rattle.mf_set.proofs.words.insert.Goals as goal

pub returns : goal.returns
returns c = λ n. has_bit-insert c.args.words.now c.args.number n c.requires
