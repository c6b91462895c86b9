use Rattle.std.proofs.Common.{get_or, refl, ap, arith}
use Rattle.std.proofs.lemmas.Bool.{false≢true}
use Rattle.std.proofs.lemmas.List.{ext_get_or}
use Rattle.mf_set.specs.Words.{numbers_of}
use Rattle.mf_set.proofs.InverseLaws.{same_words}
use Rattle.mf_set.proofs.words.is_equal.Goals as goal

pub returns-then-word-other : goal.returns-then-word-other
returns-then-word-other c = (
  λ h. absurd (false≢true h),
  λ h. absurd (c.if-word-other.true (ap (λ ws. get_or ws c.loop-i.i 0) (same_words c.args.words.now c.args.other.now (λ k. (c.type_inv.words k).fits) (λ k. (c.type_inv.other k).fits) c.requires h))),
)

pub returns : goal.returns
returns c = (
  λ _. ap numbers_of (ext_get_or 0 c.args.words.now c.args.other.now c.requires (λ k l. c.loop-i.invariant k (omega arith))),
  λ _. refl,
)
