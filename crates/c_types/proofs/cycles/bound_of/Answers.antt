use Rattle.std.proofs.Common.{◌≡◌, ℕ, ◌<◌, ◌≤◌, Bool, true, false, cond, take, get_or, refl, sym, subst, arith, take_all}
use Rattle.std.specs.List.{All}
use Rattle.std.specs.Ordering.{nat_cmp, is_lt, is_le, ord_max}
use Rattle.std.specs.declared.cmp.Ordering.{Ordering}
use Rattle.std.specs.declared.cmp.Ordering.TheVariants.{Less, Equal, Greater}
use Rattle.std.proofs.lemmas.List.Elements.{All-more, All-weaker}
use Rattle.std.proofs.lemmas.Map.Keys.{ge_from_not_lt, le_from_is_le}
use Rattle.c_tree.specs.declared.control.UserCall.{UserCall}
use Rattle.c_types.proofs.cycles.bound_of.Goals as goal

le_too : (o : Ordering) → is_lt o ≡ true → is_le o ≡ true
le_too Less h = refl
le_too Equal h = cc
le_too Greater h = cc

above_cases : (a b : ℕ) (t : Bool) → is_lt (nat_cmp b a) ≡ t → (a ≤ cond t a b) × (b ≤ cond t a b)
above_cases a b true e = (omega arith, le_from_is_le b a (le_too (nat_cmp b a) e))
above_cases a b false e = (ge_from_not_lt b a e, omega arith)

above_both : (a b m : ℕ) → m ≡ ord_max nat_cmp a b → (a ≤ m) × (b ≤ m)
above_both a b m e = subst (λ k. (a ≤ k) × (b ≤ k)) (sym e) (above_cases a b (is_lt (nat_cmp b a)) refl)

pub loop-call-preserved : goal.loop-call-preserved
loop-call-preserved c =
    let d : UserCall = get_or c.args.calls.now c.loop-call.call-index (record { number = 0; caller = 0; callee = 0; at = 0 }) in
    let one = above_both c.loop-call.last d.caller c.max.result c.max.ensures in
    let two = c.max-last.ensures in
    let a = one.0 in
    let b = one.1 in
    All-more (λ (d : UserCall). (d.caller ≤ c.max-last.result) × (d.callee ≤ c.max-last.result)) c.args.calls.now c.loop-call.call-index (record { number = 0; caller = 0; callee = 0; at = 0 }) c.loop-call-test.true
    (All-weaker (λ (d : UserCall). (d.caller ≤ c.loop-call.last) × (d.callee ≤ c.loop-call.last)) (λ (d : UserCall). (d.caller ≤ c.max-last.result) × (d.callee ≤ c.max-last.result))
    (λ d h. let x = h.0 in let y = h.1 in (omega arith, omega arith)) (take c.loop-call.call-index c.args.calls.now) c.loop-call.invariant)
    (omega arith, omega arith)

pub returns-in-Some : goal.returns-in-Some
returns-in-Some c =
    let whole = take_all c.loop-call.call-index c.args.calls.now c.loop-call-test.false in
    let bound = c.in-Some.ensures in
    let above = bound.1 in
    All-weaker (λ (d : UserCall). (d.caller ≤ c.loop-call.last) × (d.callee ≤ c.loop-call.last)) (λ (d : UserCall). (d.caller < c.in-Some.bound) × (d.callee < c.in-Some.bound))
    (λ d h. let x = h.0 in let y = h.1 in (omega arith, omega arith)) c.args.calls.now
    (subst (All (λ (d : UserCall). (d.caller ≤ c.loop-call.last) × (d.callee ≤ c.loop-call.last))) whole c.loop-call.invariant)
