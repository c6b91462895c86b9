-- Triples and pairs that compare equal are one.
use Rattle.std.proofs.Common.{◌≡◌, ◌↔◌, ℕ, ◌&&◌, Bool, true, nat_eq, eqb, refl, ap, sym, ◌∙◌}
use Rattle.std.proofs.lemmas.Bool.{and_from, and_parts, eqb-true, eq-eqb}
use Rattle.std.specs.Bool.{Decides}
use Rattle.std.specs.Cmp.{IsEquivalence, decided}
use Rattle.mf_set.specs.Order.{numbers_eq, numbers_eq-same, same-numbers_eq}
use Rattle.ts_domain.specs.declared.marks.Mark.{Mark}
use Rattle.ts_domain.specs.declared.triples.Triple.{Triple}
use Rattle.ts_domain.specs.SameEntries.{same_mark}
use Rattle.typestate_fixpoint.specs.Gaps.{same_pair}
use Rattle.typestate_fixpoint.specs.Steps.{same_triple}

mark_is : (a b : Mark) → same_mark a b ≡ true → a ≡ b
mark_is a b h =
    let one = and_parts (nat_eq a.site b.site) (numbers_eq a.holds b.holds && numbers_eq a.lacks b.lacks) h in
    let two = and_parts (numbers_eq a.holds b.holds) (numbers_eq a.lacks b.lacks) one.1 in
    let site = eqb-true a.site b.site one.0 in
    let holds = numbers_eq-same a.holds b.holds two.0 in
    let lacks = numbers_eq-same a.lacks b.lacks two.1 in
    λ i. record { site = site i; holds = holds i; lacks = lacks i }

pub triple_is : (a b : Triple) → same_triple a b ≡ true → a ≡ b
triple_is a b h =
    let one = and_parts (nat_eq a.node b.node) (same_mark a.mark b.mark && numbers_eq a.puts b.puts) h in
    let two = and_parts (same_mark a.mark b.mark) (numbers_eq a.puts b.puts) one.1 in
    let node = eqb-true a.node b.node one.0 in
    let mark = mark_is a.mark b.mark two.0 in
    let puts = numbers_eq-same a.puts b.puts two.1 in
    λ i. record { node = node i; mark = mark i; puts = puts i }

mark_self : (a : Mark) → same_mark a a ≡ true
mark_self a =
    and_from (nat_eq a.site a.site) (numbers_eq a.holds a.holds && numbers_eq a.lacks a.lacks) (eq-eqb a.site a.site refl)
    (and_from (numbers_eq a.holds a.holds) (numbers_eq a.lacks a.lacks) (same-numbers_eq a.holds a.holds refl) (same-numbers_eq a.lacks a.lacks refl))

triple_self : (a : Triple) → same_triple a a ≡ true
triple_self a =
    and_from (nat_eq a.node a.node) (same_mark a.mark a.mark && numbers_eq a.puts a.puts) (eq-eqb a.node a.node refl)
    (and_from (same_mark a.mark a.mark) (numbers_eq a.puts a.puts) (mark_self a.mark) (same-numbers_eq a.puts a.puts refl))

pub triple_decides : (a b : Triple) → Decides (same_triple a b) (a ≡ b)
triple_decides a b = (triple_is a b, λ e. ap (same_triple a) (sym e) ∙ triple_self a)

pub triple_laws : IsEquivalence same_triple
triple_laws = decided same_triple triple_decides

pub pair_is : (p q : ℕ × ℕ) → same_pair p q ≡ true → p ≡ q
pair_is p q h =
    let both = and_parts (nat_eq p.0 q.0) (nat_eq p.1 q.1) h in
    let one = eqb-true p.0 q.0 both.0 in
    let two = eqb-true p.1 q.1 both.1 in
    λ i. (one i, two i)

pair_self : (p : ℕ × ℕ) → same_pair p p ≡ true
pair_self p = and_from (nat_eq p.0 p.0) (nat_eq p.1 p.1) (eq-eqb p.0 p.0 refl) (eq-eqb p.1 p.1 refl)

pub pair_decides : (p q : ℕ × ℕ) → Decides (same_pair p q) (p ≡ q)
pair_decides p q = (pair_is p q, λ e. ap (same_pair p) (sym e) ∙ pair_self p)

pub pair_laws : IsEquivalence same_pair
pair_laws = decided same_pair pair_decides
