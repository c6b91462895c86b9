-- The order of lines: it is total, it is that of a certificate's marks, and equal lines are of one mark.
use Rattle.std.proofs.Common.{◌≡◌, ℕ, ◌<◌, ◌&&◌, not, Bool, true, false, List, [], ◌∷◌, refl, ap, sym, ◌∙◌, subst}
use Rattle.std.proofs.lemmas.Bool.{false≢true}
use Rattle.std.specs.Cmp.{bool_cmp_total, nat_cmp_total, on_total, ranks, then_total, IsTotalOrder}
use Rattle.std.specs.Cmp.Lexicographic.{nat_list_cmp_total, slice_cmp}
use Rattle.std.specs.List.{range_with_len}
use Rattle.std.specs.Ordering.{bool_cmp, is_eq, is_lt, nat_cmp, ordering_then, MatchOrdering}
use Rattle.std.specs.declared.cmp.Ordering.{Ordering}
use Rattle.std.specs.declared.cmp.Ordering.TheVariants.{Less, Equal, Greater}
use Rattle.mf_set.specs.Numbers.{has as has_number}
use Rattle.mf_set.proofs.NumberLaws.{has-filter, same_from_members}
use Rattle.ts_domain.specs.declared.marks.Mark.{Mark}
use Rattle.ts_domain.specs.declared.names.Names.{Names}
use Rattle.ts_domain.specs.Marks.{expressions}
use Rattle.ts_domain.proofs.DerivedMarks.{range_holds, IsShaped}
use Rattle.cover_certificate.specs.declared.lines.Line.{Line}
use Rattle.cover_certificate.specs.declared.types.CertMark.{CertMark}
use Rattle.cover_certificate.specs.Lines.{held_cmp, line, line_cmp, open_cmp, site_cmp}
use Rattle.cover_certificate.specs.Regular.{bit_before, by_order, held_before, is_open, mark_before, open_before, open_below}

-- total

open_total : IsTotalOrder open_cmp
open_total = then_total (on_total (λ (x : Line). x.undecided.items) nat_list_cmp_total) (on_total (λ (x : Line). x.mark.freed) bool_cmp_total)

held_total : IsTotalOrder held_cmp
held_total = then_total (on_total (λ (x : Line). x.mark.mark.holds.items) nat_list_cmp_total) open_total

site_total : IsTotalOrder site_cmp
site_total = then_total (on_total (λ (x : Line). x.mark.mark.site) nat_cmp_total) held_total

pub line_total : IsTotalOrder line_cmp
line_total = then_total (on_total (λ (x : Line). x.mark.node) nat_cmp_total) site_total

-- that of marks

by_less : (o r : Ordering) (b : Bool) → b ≡ is_lt r → by_order o b ≡ is_lt (ordering_then o r)
by_less Less r b e = refl
by_less Equal r b e = e
by_less Greater r b e = refl

bit_less : (a b : Bool) → bit_before a b ≡ is_lt (bool_cmp a b)
bit_less false false = refl
bit_less false true = refl
bit_less true false = refl
bit_less true true = refl

module _ (n : Names) (x y : CertMark) where
  open_less : open_before (expressions n) x y ≡ is_lt (open_cmp (line n x) (line n y))
  open_less = by_less (slice_cmp nat_cmp (open_below (expressions n) x.mark) (open_below (expressions n) y.mark)) (bool_cmp x.freed y.freed) (bit_before x.freed y.freed) (bit_less x.freed y.freed)

  held_less : held_before (expressions n) x y ≡ is_lt (held_cmp (line n x) (line n y))
  held_less = by_less (slice_cmp nat_cmp x.mark.holds.items y.mark.holds.items) (open_cmp (line n x) (line n y)) (open_before (expressions n) x y) open_less

  pub mark_less : mark_before (expressions n) x y ≡ is_lt (line_cmp (line n x) (line n y))
  mark_less =
      by_less (nat_cmp x.node y.node) (site_cmp (line n x) (line n y)) (by_order (nat_cmp x.mark.site y.mark.site) (held_before (expressions n) x y))
      (by_less (nat_cmp x.mark.site y.mark.site) (held_cmp (line n x) (line n y)) (held_before (expressions n) x y) held_less)

-- equal lines

both_equal : (a b : Ordering) → ordering_then a b ≡ Equal → (a ≡ Equal) × (b ≡ Equal)
both_equal Less b e = absurd (false≢true (ap is_eq e))
both_equal Equal b e = (refl, e)
both_equal Greater b e = absurd (false≢true (ap is_eq e))

same_number : (x y : ℕ) → nat_cmp x y ≡ Equal → x ≡ y
same_number x y e = subst (λ o. MatchOrdering o (x < y) (x ≡ y) (y < x)) e (ranks x y)

same_numbers : (xs ys : List ℕ) → slice_cmp nat_cmp xs ys ≡ Equal → xs ≡ ys
same_numbers [] [] e = refl
same_numbers [] (y ∷ ys) e = absurd (false≢true (ap is_eq e))
same_numbers (x ∷ xs) [] e = absurd (false≢true (ap is_eq e))
same_numbers (x ∷ xs) (y ∷ ys) e =
    let both = both_equal (nat_cmp x y) (slice_cmp nat_cmp xs ys) e in
    ap (λ z. z ∷ xs) (same_number x y both.0) ∙ ap (λ zs. y ∷ zs) (same_numbers xs ys both.1)

same_bit : (a b : Bool) → bool_cmp a b ≡ Equal → a ≡ b
same_bit false false e = refl
same_bit false true e = absurd (false≢true (ap is_eq e))
same_bit true false e = absurd (false≢true (ap is_eq e))
same_bit true true e = refl

-- what isn't held and isn't undecided is lacked
complement : (r h l : Bool) → (l ≡ true → r ≡ true) → (h ≡ true → l ≡ false) → l ≡ (r && (not h && not (r && (not h && not l))))
complement true true l inside apart = apart refl
complement true false true inside apart = refl
complement true false false inside apart = refl
complement false h true inside apart = absurd (false≢true (inside refl))
complement false h false inside apart = refl

lacked : (n : Names) (m : Mark) → IsShaped n m → (e : ℕ)
    → has_number m.lacks.items e ≡ (has_number (range_with_len 0 (expressions n)) e && (not (has_number m.holds.items e) && not (has_number (open_below (expressions n) m) e)))
lacked n m is e =
    let range = range_with_len 0 (expressions n) in
    complement (has_number range e) (has_number m.holds.items e) (has_number m.lacks.items e)
    (λ h. range_holds (expressions n) e (subst (λ (c : ℕ). e < c) is.lacks_room (is.lacks.below e h))) (is.apart e)
    ∙ ap (λ b. has_number range e && (not (has_number m.holds.items e) && not b)) (sym (has-filter (is_open m) range e))

module _ (n : Names) (x y : CertMark) (one : IsShaped n x.mark) (other : IsShaped n y.mark) where
  same_lacks : x.mark.holds.items ≡ y.mark.holds.items → open_below (expressions n) x.mark ≡ open_below (expressions n) y.mark → x.mark.lacks.items ≡ y.mark.lacks.items
  same_lacks held undecided =
      same_from_members 0 x.mark.lacks.items y.mark.lacks.items one.lacks.ascending other.lacks.ascending
      (λ e. lacked n x.mark one e
      ∙ ap (λ (hs : List ℕ). has_number (range_with_len 0 (expressions n)) e && (not (has_number hs e) && not (has_number (open_below (expressions n) x.mark) e))) held
      ∙ ap (λ (os : List ℕ). has_number (range_with_len 0 (expressions n)) e && (not (has_number y.mark.holds.items e) && not (has_number os e))) undecided
      ∙ sym (lacked n y.mark other e))

  pub same_mark : line_cmp (line n x) (line n y) ≡ Equal → x ≡ y
  same_mark e =
      let nodes = both_equal (nat_cmp x.node y.node) (site_cmp (line n x) (line n y)) e in
      let sites = both_equal (nat_cmp x.mark.site y.mark.site) (held_cmp (line n x) (line n y)) nodes.1 in
      let helds = both_equal (slice_cmp nat_cmp x.mark.holds.items y.mark.holds.items) (open_cmp (line n x) (line n y)) sites.1 in
      let opens = both_equal (slice_cmp nat_cmp (open_below (expressions n) x.mark) (open_below (expressions n) y.mark)) (bool_cmp x.freed y.freed) helds.1 in
      let node : x.node ≡ y.node = same_number x.node y.node nodes.0 in
      let site : x.mark.site ≡ y.mark.site = same_number x.mark.site y.mark.site sites.0 in
      let held : x.mark.holds.items ≡ y.mark.holds.items = same_numbers x.mark.holds.items y.mark.holds.items helds.0 in
      let lack : x.mark.lacks.items ≡ y.mark.lacks.items = same_lacks held (same_numbers (open_below (expressions n) x.mark) (open_below (expressions n) y.mark) opens.0) in
      let freed : x.freed ≡ y.freed = same_bit x.freed y.freed opens.1 in
      let held_room : x.mark.holds.room ≡ y.mark.holds.room = one.holds_room ∙ sym other.holds_room in
      let lack_room : x.mark.lacks.room ≡ y.mark.lacks.room = one.lacks_room ∙ sym other.lacks_room in
      λ i. record { node = node i; mark = record { site = site i; holds = record { items = held i; room = held_room i }; lacks = record { items = lack i; room = lack_room i } }; freed = freed i }
