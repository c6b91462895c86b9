use Rattle.std.proofs.Common.{◌≡◌, ◌-◌, ◌*◌, sym, ap, ◌∙◌, arith}
use Rattle.std.specs.Ordering.{ordering_then}
use Rattle.mf_set.specs.Words.{has_bit}
use Rattle.mf_set.proofs.OrderLaws.{bits_cmp, numbers_cmp, words_cmp-step, then_decided}
use Rattle.mf_set.proofs.words.compare.Goals as goal

pub loop-i-preserved : goal.loop-i-preserved
loop-i-preserved c =
    c.loop-i.invariant
    ∙ words_cmp-step c.args.words.now c.args.other.now c.loop-i.i c.loop-i-test.true (c.type_inv.words (c.loop-i.i - 1)).fits (c.type_inv.other (c.loop-i.i - 1)).fits
    ∙ ap (λ o. ordering_then o (bits_cmp (has_bit c.args.words.now) (has_bit c.args.other.now) (64 * (c.loop-i.i - 1)))) (sym c.cmp.ensures ∙ c.in-Equal.is)

pub returns-in_default : goal.returns-in_default
returns-in_default c =
    sym (numbers_cmp c.args.words.now c.args.other.now c.requires
    ∙ c.loop-i.invariant
    ∙ words_cmp-step c.args.words.now c.args.other.now c.loop-i.i c.loop-i-test.true (c.type_inv.words (c.loop-i.i - 1)).fits (c.type_inv.other (c.loop-i.i - 1)).fits
    ∙ ap (λ o. ordering_then o (bits_cmp (has_bit c.args.words.now) (has_bit c.args.other.now) (64 * (c.loop-i.i - 1)))) (sym c.cmp.ensures)
    ∙ then_decided c.cmp.result (bits_cmp (has_bit c.args.words.now) (has_bit c.args.other.now) (64 * (c.loop-i.i - 1))) c.in_default.not-Equal)

pub returns : goal.returns
returns c =
    let none : 64 * c.loop-i.i ≡ 0 = omega arith in
    sym (numbers_cmp c.args.words.now c.args.other.now c.requires ∙ c.loop-i.invariant ∙ ap (bits_cmp (has_bit c.args.words.now) (has_bit c.args.other.now)) none)
