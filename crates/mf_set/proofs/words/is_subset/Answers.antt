use Rattle.std.proofs.Common.{arith, rules}
use Rattle.std.proofs.lemmas.Bool.{false≢true}
use Rattle.mf_set.proofs.WordLaws.{some_bit_lacks, no_bit_lacks, each_past}
use Rattle.mf_set.proofs.words.is_subset.Goals as goal

pub returns-then-word-word_at-ne0 : goal.returns-then-word-word_at-ne0
returns-then-word-word_at-ne0 c = (
  λ h. absurd (false≢true h),
  λ all. absurd (some_bit_lacks c.args.words.now c.args.other.now c.loop-i.i c.word_at.result c.word_at.ensures c.word_at.type_inv (c.type_inv.words c.loop-i.i).fits (omega arith) all),
)

pub loop-i-preserved : goal.loop-i-preserved
loop-i-preserved c =
    no_bit_lacks c.args.words.now c.args.other.now c.loop-i.i c.word_at.result c.word_at.ensures c.word_at.type_inv c.if-word-word_at-ne0.false c.loop-i.invariant

pub returns : goal.returns
returns c = (λ _. each_past c.args.words.now c.args.other.now c.loop-i.i c.loop-i-test.false c.loop-i.invariant, λ _. search rules)
