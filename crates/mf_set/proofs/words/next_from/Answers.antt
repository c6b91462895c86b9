use Rattle.std.proofs.Common.{◌&&◌, leb, arith}
use Rattle.std.proofs.lemmas.Bool.{and_right}
use Rattle.mf_set.specs.Words.{has_bit}
use Rattle.mf_set.proofs.WordLaws.{IsLeast-in_word, none-in_word, none_past, from_here}
use Rattle.mf_set.proofs.words.next_from.Goals as goal

pub returns-then-word-ne0 : goal.returns-then-word-ne0
returns-then-word-ne0 c =
    IsLeast-in_word (λ n. leb c.args.from n && has_bit c.args.words.now n) c.loop-i.i c.word_from-word.result (omega arith) c.word_from-word.type_inv
    (from_here c.args.words.now c.loop-i.i c.word_from-word.result c.args.from c.word_from-word.ensures)
    c.loop-i.invariant

pub loop-i-preserved : goal.loop-i-preserved
loop-i-preserved c =
    none-in_word (λ n. leb c.args.from n && has_bit c.args.words.now n) c.loop-i.i c.word_from-word.result c.if-word-ne0.false
    (from_here c.args.words.now c.loop-i.i c.word_from-word.result c.args.from c.word_from-word.ensures)
    c.loop-i.invariant

pub returns : goal.returns
returns c =
    none_past (λ n. leb c.args.from n && has_bit c.args.words.now n) c.args.words.now c.loop-i.i c.loop-i-test.false
    (λ n h. and_right (leb c.args.from n) (has_bit c.args.words.now n) h)
    c.loop-i.invariant
