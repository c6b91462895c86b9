use Rattle.std.proofs.Common.{◌≡◌, ◌^◌, ◌<◌, [], refl, sym, ap, ◌∙◌, subst, arith}
use Rattle.mf_set.specs.Numbers.{Numbers}
use Rattle.mf_set.specs.Words.{numbers_of, AreWords}
use Rattle.mf_set.proofs.SetLaws.{AreWords-none, numbers_of-none}
use Rattle.mf_set.proofs.bit_set.BitSet.empty.Goals as goal

pub invariant_of-result : goal.invariant_of-result
invariant_of-result c =
    let fits : 0 < 2 ^ 64 = omega arith in
    let none : AreWords 0 [] = AreWords-none 0 0 fits refl in
    subst (AreWords 0) (sym c.new.ensures.items) none

pub returns : goal.returns
returns c =
    let none : numbers_of [] ≡ [] = numbers_of-none 0 in
    ap (λ xs. let s : Numbers = record { items = xs; room = 0 } in s) (ap numbers_of c.new.ensures.items ∙ none)
