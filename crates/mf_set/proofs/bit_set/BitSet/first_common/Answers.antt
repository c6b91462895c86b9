use Rattle.std.proofs.Common.{length, ap, ◌∙◌, arith}
use Rattle.mf_set.specs.Numbers.{Numbers, first_common}
use Rattle.mf_set.specs.Words.{numbers_of}
use Rattle.mf_set.proofs.SetLaws.{bits_fit, first_common_is, is_set}
use Rattle.mf_set.proofs.bit_set.BitSet.first_common.Goals as goal

pub first_common-requires : goal.first_common-requires
first_common-requires c = omega (arith, bits_fit c.self.inside.room c.self.inside.words.items c.self.invariant, ap length c.as_slice.ensures.value)

pub returns-clause-value : goal.returns-clause-value
returns-clause-value c =
    first_common_is c.as_slice.result.now c.as_slice-2.result.now c.first_common.result c.first_common.ensures
    ∙ ap (λ ws. first_common (numbers_of ws) (numbers_of c.as_slice-2.result.now)) c.as_slice.ensures.value
    ∙ ap (λ ws. first_common (numbers_of c.self.inside.words.items) (numbers_of ws)) c.as_slice-2.ensures.value
    ∙ ap (λ (s : Numbers). first_common s.items (numbers_of c.other.inside.words.items)) c.self.view_is
    ∙ ap (λ (s : Numbers). first_common c.args.self.now.items s.items) c.other.view_is

pub returns-clause-set : goal.returns-clause-set
returns-clause-set c = is_set c.self.inside.room c.self.inside.words.items c.args.self.now c.self.invariant c.self.view_is
