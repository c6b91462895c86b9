use Rattle.std.proofs.Common.{length, ap, ◌∙◌, arith}
use Rattle.mf_set.specs.Numbers.{Numbers}
use Rattle.mf_set.specs.Words.{numbers_of}
use Rattle.mf_set.proofs.SetLaws.{length_below, is_set}
use Rattle.mf_set.proofs.bit_set.BitSet.count.Goals as goal

pub count-requires : goal.count-requires
count-requires c =
    omega (arith, length_below c.self.inside.room c.self.inside.words.items c.self.invariant, c.self.invariant.fits, ap (λ ws. length (numbers_of ws)) c.as_slice.ensures.value)

pub returns-clause-count : goal.returns-clause-count
returns-clause-count c =
    c.count.ensures ∙ ap (λ ws. length (numbers_of ws)) c.as_slice.ensures.value ∙ ap (λ (s : Numbers). length s.items) c.self.view_is

pub returns-clause-set : goal.returns-clause-set
returns-clause-set c = is_set c.self.inside.room c.self.inside.words.items c.args.self.now c.self.invariant c.self.view_is
