use Rattle.std.proofs.Common.{◌%◌, eqb, ap, ◌∙◌}
use Rattle.std.proofs.lemmas.Nat.Bits.{shr_and_one}
use Rattle.mf_set.specs.Words.{bit_of, has_bit}
use Rattle.mf_set.proofs.words.contains.Goals as goal

pub returns : goal.returns
unfolding has_bit
returns c =
    ap (λ v. eqb v 1) (shr_and_one c.word_at.result (c.args.number % 64))
    ∙ ap (λ w. bit_of w (c.args.number % 64)) c.word_at.ensures
