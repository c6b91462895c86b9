use Rattle.std.proofs.Common.{ap, ◌∙◌}
use Rattle.mf_set.specs.Numbers.{Numbers, is_subset}
use Rattle.mf_set.specs.Words.{numbers_of}
use Rattle.mf_set.proofs.SetLaws.{is_subset_is, is_set}
use Rattle.mf_set.proofs.bit_set.BitSet.is_subset.Goals as goal

pub returns-clause-value : goal.returns-clause-value
returns-clause-value c =
    is_subset_is c.as_slice.result.now c.as_slice-2.result.now c.is_subset.result c.is_subset.ensures
    ∙ ap (λ ws. is_subset (numbers_of ws) (numbers_of c.as_slice-2.result.now)) c.as_slice.ensures.value
    ∙ ap (λ ws. is_subset (numbers_of c.self.inside.words.items) (numbers_of ws)) c.as_slice-2.ensures.value
    ∙ ap (λ (s : Numbers). is_subset s.items (numbers_of c.other.inside.words.items)) c.self.view_is
    ∙ ap (λ (s : Numbers). is_subset c.args.self.now.items s.items) c.other.view_is

pub returns-clause-set : goal.returns-clause-set
returns-clause-set c = is_set c.self.inside.room c.self.inside.words.items c.args.self.now c.self.invariant c.self.view_is
