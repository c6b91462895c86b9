use Rattle.std.proofs.Common.{refl, arith}
use Rattle.std.proofs.lemmas.Bool.{false≢true}
use Rattle.mf_set.proofs.SetLaws.{no_numbers, zero_from_no_numbers}
use Rattle.mf_set.proofs.words.is_empty.Goals as goal

pub returns-then-word-ne0 : goal.returns-then-word-ne0
returns-then-word-ne0 c = (
  λ h. absurd (false≢true h),
  λ h. absurd (c.if-word-ne0.true (zero_from_no_numbers c.args.words.now c.loop-word.word-index (c.type_inv.words c.loop-word.word-index).fits h)),
)

pub returns : goal.returns
returns c = (λ _. no_numbers c.args.words.now (λ k l. c.loop-word.invariant k (omega arith)), λ _. refl)
