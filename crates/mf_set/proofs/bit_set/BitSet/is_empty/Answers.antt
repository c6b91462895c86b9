use Rattle.std.proofs.Common.{◌≡◌, sym, ap, ◌∙◌}
use Rattle.mf_set.specs.Numbers.{Numbers}
use Rattle.mf_set.specs.Words.{numbers_of}
use Rattle.mf_set.proofs.SetLaws.{is_set}
use Rattle.mf_set.proofs.bit_set.BitSet.is_empty.Goals as goal

pub returns-clause-empty : goal.returns-clause-empty
returns-clause-empty c =
    let same : numbers_of c.as_slice.result.now ≡ c.args.self.now.items = ap numbers_of c.as_slice.ensures.value ∙ ap (λ (s : Numbers). s.items) c.self.view_is in
    (λ h. sym same ∙ c.is_empty.ensures.0 h, λ h. c.is_empty.ensures.1 (same ∙ h))

pub returns-clause-set : goal.returns-clause-set
returns-clause-set c = is_set c.self.inside.room c.self.inside.words.items c.args.self.now c.self.invariant c.self.view_is
