use Rattle.std.proofs.Common.{◌≡◌, sym, ℕ, not, ◌&&◌, eqb, ap, ◌∙◌, subst}
use Rattle.mf_set.specs.Numbers.{IsSet, Numbers, without_number}
use Rattle.mf_set.specs.Words.{has_bit}
use Rattle.mf_set.proofs.SetLaws.{set_of, written_back, numbers_of-remove, is_set, IsSet-remove}
use Rattle.mf_set.proofs.bit_set.BitSet.remove.Goals as goal

pub returns-clause-numbers : goal.returns-clause-numbers
returns-clause-numbers c =
    let us = c.self.inside.words.items in
    let bits : (n : ℕ) → has_bit c.remove.new.words n ≡ (has_bit us n && not (eqb n c.args.k)) =
    subst (λ ws. (n : ℕ) → has_bit c.remove.new.words n ≡ (has_bit ws n && not (eqb n c.args.k))) c.as_mut_slice.ensures.value c.remove.ensures in
    ap (set_of c.self.inside.room) (written_back c.self.inside.words.len us c.remove.new.words (c.remove.auto.words ∙ c.as_mut_slice.ensures.len))
    ∙ ap (λ xs. let s : Numbers = record { items = xs; room = c.self.inside.room } in s) (numbers_of-remove us c.remove.new.words c.args.k bits)
    ∙ ap (λ (s : Numbers). let t : Numbers = record s { items = without_number s.items c.args.k } in t) c.self.view_is

pub returns-clause-set : goal.returns-clause-set
returns-clause-set c = subst IsSet (sym (returns-clause-numbers c)) (IsSet-remove c.args.self.now c.args.k (is_set c.self.inside.room c.self.inside.words.items c.args.self.now c.self.invariant c.self.view_is))
