use Rattle.std.proofs.Common.{◌&&◌, get_or, bit_and, arith}
use Rattle.std.proofs.lemmas.Bool.{and_left}
use Rattle.std.proofs.lemmas.Nat.{and_le_r}
use Rattle.mf_set.specs.Words.{has_bit}
use Rattle.mf_set.proofs.WordLaws.{IsLeast-in_word, none-in_word, none_past, common_here}
use Rattle.mf_set.proofs.words.first_common.Goals as goal

pub returns-then-both-ne0 : goal.returns-then-both-ne0
returns-then-both-ne0 c =
    IsLeast-in_word (λ n. has_bit c.args.words.now n && has_bit c.args.other.now n) c.loop-i.i (bit_and (get_or c.args.words.now c.loop-i.i 0) c.word_at.result)
    (omega arith)
    (omega (arith, and_le_r (get_or c.args.words.now c.loop-i.i 0) c.word_at.result))
    (λ j l. common_here c.args.words.now c.args.other.now c.loop-i.i c.word_at.result j c.word_at.ensures l)
    c.loop-i.invariant

pub loop-i-preserved : goal.loop-i-preserved
loop-i-preserved c =
    none-in_word (λ n. has_bit c.args.words.now n && has_bit c.args.other.now n) c.loop-i.i (bit_and (get_or c.args.words.now c.loop-i.i 0) c.word_at.result)
    c.if-both-ne0.false
    (λ j l. common_here c.args.words.now c.args.other.now c.loop-i.i c.word_at.result j c.word_at.ensures l)
    c.loop-i.invariant

pub returns : goal.returns
returns c =
    none_past (λ n. has_bit c.args.words.now n && has_bit c.args.other.now n) c.args.words.now c.loop-i.i c.loop-i-test.false
    (λ n h. and_left (has_bit c.args.words.now n) (has_bit c.args.other.now n) h)
    c.loop-i.invariant
