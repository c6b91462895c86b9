use Rattle.std.proofs.Common.{◌≡◌, ◌↔◌, false, sym, ℕ, ◌||◌, ap, ◌∙◌, subst}
use Rattle.mf_set.specs.Numbers.{IsSet, Numbers, union}
use Rattle.mf_set.specs.Words.{has_bit, numbers_of}
use Rattle.mf_set.proofs.SetLaws.{set_of, written_back, numbers_of-union, is_set, IsSet-union, changed_is}
use Rattle.mf_set.proofs.bit_set.BitSet.union_with.Goals as goal

pub returns-clause-numbers : goal.returns-clause-numbers
returns-clause-numbers c =
    let us = c.self.inside.words.items in
    let vs = c.other.inside.words.items in
    let bits : (n : ℕ) → has_bit c.union_with.new.words n ≡ (has_bit us n || has_bit vs n) =
    subst (λ ws. (n : ℕ) → has_bit c.union_with.new.words n ≡ (has_bit us n || has_bit ws n)) c.as_slice.ensures.value
    (subst (λ ws. (n : ℕ) → has_bit c.union_with.new.words n ≡ (has_bit ws n || has_bit c.as_slice.result.now n)) c.as_mut_slice.ensures.value c.union_with.ensures.bits) in
    ap (set_of c.self.inside.room) (written_back c.self.inside.words.len us c.union_with.new.words (c.union_with.auto.words ∙ c.as_mut_slice.ensures.len))
    ∙ ap (λ xs. let s : Numbers = record { items = xs; room = c.self.inside.room } in s) (numbers_of-union us vs c.union_with.new.words bits)
    ∙ ap (λ (s : Numbers). let t : Numbers = record s { items = union s.items (numbers_of vs) } in t) c.self.view_is
    ∙ ap (λ (s : Numbers). let t : Numbers = record { items = union c.args.self.now.items s.items; room = c.args.self.now.room } in t) c.other.view_is

pub returns-clause-set : goal.returns-clause-set
returns-clause-set c = subst IsSet (sym (returns-clause-numbers c)) (IsSet-union c.args.self.now c.args.other.now (is_set c.self.inside.room c.self.inside.words.items c.args.self.now c.self.invariant c.self.view_is) (is_set c.other.inside.room c.other.inside.words.items c.args.other.now c.other.invariant c.other.view_is) c.requires)

pub returns-clause-changed : goal.returns-clause-changed
returns-clause-changed c =
    changed_is c.union_with.result c.self.inside.room c.self.inside.words.items c.union_with.new.words _ c.args.self.now c.self.view_is
    (written_back c.self.inside.words.len c.self.inside.words.items c.union_with.new.words (c.union_with.auto.words ∙ c.as_mut_slice.ensures.len))
    (subst (λ us. (c.union_with.result ≡ false) ↔ (numbers_of c.union_with.new.words ≡ numbers_of us)) c.as_mut_slice.ensures.value c.union_with.ensures.changed)
