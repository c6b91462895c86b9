-- Sets compared, and what a set feeds a hasher.
--     numbers_eq      one room, and the same numbers
--     numbers_cmp      the rooms decide, and then the greatest number that is in one of the sets alone
--     writes_of      the room, and then the words of the set, two by two
use Rattle.std.specs.Prelude.{◌≡◌, ℕ, ◌+◌, ◌/◌, Bool, true, List, ◌++◌, reverse, nat_eq, IsTrue, refl}
use Rattle.std.specs.Cmp.{IsEquivalence, IsTotalOrder, and_equiv, on_equiv, nat_eq_equiv, then_total, on_total, nat_cmp_total, unsigned_tied, tied_itself, both_ways, Equal-is}
use Rattle.std.specs.Cmp.Lexicographic.{slice_cmp, pointwise, bytes_decides, nat_list_eq_equiv, nat_list_cmp_total, texts_ties}
use Rattle.std.specs.declared.cmp.Ordering.{Ordering}
use Rattle.std.specs.Ordering.{on, then_cmp, eq_of_both, eq_by_cmp, is_eq, nat_cmp, ordering_then}
use Rattle.std.specs.declared.cmp.Ordering.TheVariants.{Less, Equal, Greater}
use Rattle.std.specs.Hash as fed
use Rattle.std.specs.List.{flat_map}
use Rattle.std.proofs.Common.{sym, ap, ◌∙◌, eqb-true}
use Rattle.std.proofs.lemmas.Bool.{and_parts}
use Rattle.std.proofs.lemmas.List.{reverse-reverse}
use Rattle.mf_set.specs.Numbers.{Numbers, words_of, pairs_of}

abbrev pub numbers_eq : Numbers → Numbers → Bool
numbers_eq = eq_of_both (on (λ s. s.room) nat_eq) (on (λ s. s.items) (pointwise nat_eq))

abbrev pub numbers_cmp : Numbers → Numbers → Ordering
numbers_cmp = then_cmp (on (λ s. s.room) nat_cmp) (on (λ s. reverse s.items) (slice_cmp nat_cmp))

abbrev pub writes_of : Numbers → List (List ℕ)
writes_of s = fed.usize s.room ++ flat_map fed.u128 (pairs_of (words_of ((s.room + 63) / 64) s.items))

pub numbers_eq_equiv : IsEquivalence numbers_eq
numbers_eq_equiv = and_equiv (on_equiv (λ s. s.room) nat_eq_equiv) (on_equiv (λ s. s.items) nat_list_eq_equiv)

pub numbers_cmp_total : IsTotalOrder numbers_cmp
numbers_cmp_total = then_total (on_total (λ s. s.room) nat_cmp_total) (on_total (λ s. reverse s.items) nat_list_cmp_total)

-- sets of one room and the same numbers are one
pub same_set : (x y : Numbers) → x.room ≡ y.room → x.items ≡ y.items → x ≡ y
same_set x y p q = λ i. record { items = q i; room = p i }

pub numbers_eq-same : (x y : Numbers) → numbers_eq x y ≡ true → x ≡ y
numbers_eq-same x y h =
    let both = and_parts (nat_eq x.room y.room) (pointwise nat_eq x.items y.items) h in
    same_set x y (eqb-true x.room y.room both.0) ((bytes_decides x.items y.items).0 both.1)

pub same-numbers_eq : (x y : Numbers) → x ≡ y → numbers_eq x y ≡ true
same-numbers_eq x y e = ap (numbers_eq x) (sym e) ∙ numbers_eq_equiv.refl x

then_Equal : (a b : Ordering) → ordering_then a b ≡ Equal → (a ≡ Equal) × (b ≡ Equal)
then_Equal Less b h = absurd (cc)
then_Equal Equal b h = (refl, h)
then_Equal Greater b h = absurd (cc)

rooms_tied : (m n : ℕ) → nat_cmp m n ≡ Equal → m ≡ n
rooms_tied m n h = eqb-true m n (sym (unsigned_tied m n) ∙ ap is_eq h)

lists_tied : (xs ys : List ℕ) → slice_cmp nat_cmp xs ys ≡ Equal → xs ≡ ys
lists_tied xs ys h = (bytes_decides xs ys).0 (texts_ties xs ys ∙ ap is_eq h)

numbers_tied : (x y : Numbers) → numbers_cmp x y ≡ Equal → x ≡ y
numbers_tied x y h =
    let both = then_Equal (nat_cmp x.room y.room) (slice_cmp nat_cmp (reverse x.items) (reverse y.items)) h in
    same_set x y (rooms_tied x.room y.room both.0) (sym (reverse-reverse x.items) ∙ ap reverse (lists_tied (reverse x.items) (reverse y.items) both.1) ∙ reverse-reverse y.items)

pub numbers_ties : (x y : Numbers) → numbers_eq x y ≡ eq_by_cmp numbers_cmp x y
numbers_ties x y =
    both_ways (numbers_eq x y) (eq_by_cmp numbers_cmp x y)
    (λ h. ap (λ z. eq_by_cmp numbers_cmp z y) (numbers_eq-same x y h) ∙ ap is_eq (tied_itself numbers_cmp_total y))
    (λ h. same-numbers_eq x y (numbers_tied x y ((Equal-is (numbers_cmp x y)).0 h)))

pub numbers_fed : (x y : Numbers) → IsTrue (numbers_eq x y) → writes_of x ≡ writes_of y
numbers_fed x y h = ap writes_of (numbers_eq-same x y h)
