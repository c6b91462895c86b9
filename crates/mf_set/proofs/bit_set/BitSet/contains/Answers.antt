use Rattle.std.proofs.Common.{sym, ap, ◌∙◌}
use Rattle.mf_set.specs.Numbers.{Numbers, has}
use Rattle.mf_set.specs.Words.{has_bit}
use Rattle.mf_set.proofs.WordLaws.{has-numbers_of}
use Rattle.mf_set.proofs.NumberLaws.{has-Contains, Contains-has}
use Rattle.mf_set.proofs.SetLaws.{is_set}
use Rattle.mf_set.proofs.bit_set.BitSet.contains.Goals as goal

pub returns-clause-value : goal.returns-clause-value
returns-clause-value c =
    c.contains.ensures
    ∙ ap (λ ws. has_bit ws c.args.k) c.as_slice.ensures.value
    ∙ sym (has-numbers_of c.self.inside.words.items c.args.k)
    ∙ ap (λ (s : Numbers). has s.items c.args.k) c.self.view_is

pub returns-clause-member : goal.returns-clause-member
returns-clause-member c = (
  λ h. has-Contains c.args.self.now.items c.args.k (sym (returns-clause-value c) ∙ h),
  λ m. returns-clause-value c ∙ Contains-has c.args.self.now.items c.args.k m,
)

pub returns-clause-set : goal.returns-clause-set
returns-clause-set c = is_set c.self.inside.room c.self.inside.words.items c.args.self.now c.self.invariant c.self.view_is
