use Rattle.std.proofs.Common.{ℕ, ◌<◌, ◌^◌, rules, bit_or, get_or, arith}
use Rattle.mf_set.proofs.WordLaws.{has_bit-union}
use Rattle.mf_set.proofs.InverseLaws.{Changes-numbers}
use Rattle.std.proofs.lemmas.Nat.{or_lt}
use Rattle.mf_set.proofs.words.union_with.Goals as goal

pub returns-clause-bits : goal.returns-clause-bits
returns-clause-bits c = has_bit-union c.args.words.now c.args.other.now c.loop-i.words c.loop-i.i c.requires (omega arith) c.loop-i.invariant.combined

pub returns-clause-changed : goal.returns-clause-changed
returns-clause-changed c =
    let old : (k : ℕ) → get_or c.args.words.now k 0 < 2 ^ 64 = search rules in
    Changes-numbers bit_or (λ a b p q. or_lt 64 a b p q) c.args.words.now c.args.other.now c.loop-i.words c.loop-i.changed c.loop-i.i old (λ k. (c.type_inv.other k).fits) c.loop-i.auto.words c.loop-i-test.false c.loop-i.invariant.combined c.loop-i.invariant.changes
