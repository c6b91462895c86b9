use Rattle.std.proofs.Common.{◌+◌, ◌*◌, ◌&&◌, leb, sym, ap, ◌∙◌}
use Rattle.mf_set.specs.Words.{bit_of}
use Rattle.mf_set.proofs.WordLaws.{bit_of-from}
use Rattle.mf_set.proofs.words.word_from.Goals as goal

pub returns-then-index-from : goal.returns-then-index-from
returns-then-index-from c = λ j l.
    bit_of-from c.word_at-word.result c.args.from j l
    ∙ ap (λ i. leb c.args.from (64 * i + j) && bit_of c.word_at-word.result j) (sym c.if-index-from.true)
    ∙ ap (λ w. leb c.args.from (64 * c.args.index + j) && bit_of w j) c.word_at-word.ensures
