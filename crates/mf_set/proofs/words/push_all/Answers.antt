use Rattle.std.proofs.Common.{◌++◌, get_or, sym, ap, ◌∙◌, arith}
use Rattle.mf_set.specs.Words.{numbers_at}
use Rattle.mf_set.proofs.EachWord.{numbers_of-take}
use Rattle.mf_set.proofs.SetLaws.{numbers_of-none}
use Rattle.mf_set.proofs.words.push_all.Goals as goal

pub loop-i-init : goal.loop-i-init
loop-i-init c = c.requires.empty ∙ sym (numbers_of-none 0)

pub loop-i-preserved : goal.loop-i-preserved
loop-i-preserved c =
    c.in_ok-push_numbers.ensures
    ∙ ap (λ xs. xs ++ numbers_at c.loop-i.i (get_or c.args.words.now c.loop-i.i 0)) c.loop-i.invariant
    ∙ sym (numbers_of-take c.args.words.now c.loop-i.i (omega arith))
