use Rattle.std.proofs.Common.{length, leb, ap, ◌∙◌, arith}
use Rattle.mf_set.specs.Numbers.{Numbers}
use Rattle.mf_set.specs.Words.{numbers_of}
use Rattle.std.specs.List.{find}
use Rattle.mf_set.proofs.SetLaws.{bits_fit, next_from_is, next_within, next_rest, is_set}
use Rattle.mf_set.proofs.bit_set.BitSet.next_from.Goals as goal

pub next_from-requires : goal.next_from-requires
next_from-requires c = omega (arith, bits_fit c.self.inside.room c.self.inside.words.items c.self.invariant, ap length c.as_slice.ensures.value)

pub returns-clause-value : goal.returns-clause-value
returns-clause-value c =
    next_from_is c.as_slice.result.now c.args.from c.next_from.result c.next_from.ensures
    ∙ ap (λ ws. find (leb c.args.from) (numbers_of ws)) c.as_slice.ensures.value
    ∙ ap (λ (s : Numbers). find (leb c.args.from) s.items) c.self.view_is

pub returns-clause-within : goal.returns-clause-within
returns-clause-within c = next_within c.self.inside.room c.self.inside.words.items c.args.self.now c.args.from c.next_from.result c.self.invariant c.self.view_is (returns-clause-value c)

pub returns-clause-rest : goal.returns-clause-rest
returns-clause-rest c = next_rest c.self.inside.room c.self.inside.words.items c.args.self.now c.args.from c.next_from.result c.self.view_is (returns-clause-value c)

pub returns-clause-set : goal.returns-clause-set
returns-clause-set c = is_set c.self.inside.room c.self.inside.words.items c.args.self.now c.self.invariant c.self.view_is
