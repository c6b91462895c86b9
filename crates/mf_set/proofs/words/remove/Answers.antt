use Rattle.mf_set.proofs.WordLaws.{has_bit-remove}
use Rattle.mf_set.proofs.words.remove.Goals as goal

pub returns : goal.returns
returns c = λ n. has_bit-remove c.args.words.now c.args.number n c.requires
