use Rattle.std.proofs.Common.{sym, ◌∙◌, arith}
use Rattle.mf_set.proofs.CountLaws.{length-numbers_of}
use Rattle.mf_set.proofs.words.count.Goals as goal

pub count_bits-requires : goal.count_bits-requires
count_bits-requires c = omega (arith, c.requires, length-numbers_of c.args.words.now (λ k. (c.type_inv.words k).fits))

pub returns : goal.returns
returns c = c.count_bits.ensures ∙ sym (length-numbers_of c.args.words.now (λ k. (c.type_inv.words k).fits))
