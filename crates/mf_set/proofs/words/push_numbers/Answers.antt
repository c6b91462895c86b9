use Rattle.std.proofs.Common.{◌++◌, ◌+◌, ◌*◌, sym, ap, ◌∙◌, arith}
use Rattle.std.proofs.lemmas.List.{append-nil}
use Rattle.std.specs.Int.{trailing_zeros, w64}
use Rattle.mf_set.specs.Words.{numbers_at}
use Rattle.mf_set.proofs.EachWord.{without_lowest, without_lowest-less, numbers_at-lowest, numbers_at-zero, pushed_more}
use Rattle.mf_set.proofs.words.push_numbers.Goals as goal

pub loop-rest-smaller : goal.loop-rest-smaller
loop-rest-smaller c = without_lowest-less c.loop-rest.rest (omega arith) c.loop-rest.auto.rest-fits.fits

pub loop-rest-preserved : goal.loop-rest-preserved
loop-rest-preserved c =
    ap (λ xs. xs ++ numbers_at c.args.index (without_lowest c.loop-rest.rest)) c.in_ok-push.ensures.items
    ∙ pushed_more c.loop-rest.numbers.items (numbers_at c.args.index (without_lowest c.loop-rest.rest)) (64 * c.args.index + trailing_zeros w64 c.loop-rest.rest) _
    (ap (λ xs. c.loop-rest.numbers.items ++ xs) (sym (numbers_at-lowest c.args.index c.loop-rest.rest (omega arith) c.loop-rest.auto.rest-fits.fits)) ∙ c.loop-rest.invariant)

pub returns : goal.returns
returns c =
    sym (ap (λ xs. c.loop-rest.numbers.items ++ xs) (numbers_at-zero c.args.index c.loop-rest.rest (omega arith)) ∙ append-nil c.loop-rest.numbers.items)
    ∙ c.loop-rest.invariant
