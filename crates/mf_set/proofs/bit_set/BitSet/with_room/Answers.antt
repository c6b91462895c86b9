use Rattle.std.proofs.Common.{◌≡◌, replicate, sym, ap, ◌∙◌, subst, rules}
use Rattle.mf_set.specs.Numbers.{Numbers}
use Rattle.mf_set.specs.Words.{numbers_of, AreWords}
use Rattle.mf_set.proofs.SetLaws.{AreWords-none, numbers_of-none}
use Rattle.mf_set.proofs.bit_set.BitSet.with_room.Goals as goal

pub invariant_of-result : goal.invariant_of-result
invariant_of-result c =
    let items : c.in_ok-words.words.items ≡ replicate c.div_ceil.result 0 = search rules in
    subst (AreWords c.args.n) (sym items) (AreWords-none c.args.n c.div_ceil.result c.ranges.n.fits (search rules))

pub returns : goal.returns
returns c =
    let items : c.in_ok-words.words.items ≡ replicate c.div_ceil.result 0 = search rules in
    ap (λ xs. let s : Numbers = record { items = xs; room = c.args.n } in s) (ap numbers_of items ∙ numbers_of-none c.div_ceil.result)
