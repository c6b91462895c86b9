use Rattle.std.proofs.Common.{◌≡◌, ℕ, ◌+◌, ◌<◌, ◌≤◌, Bool, true, false, List, length, get_or, take, refl, sym, ap, subst, ◌∙◌, arith, take_all}
use Rattle.std.specs.List.{fold, list_any}
use Rattle.std.proofs.lemmas.Option.{get_or_from_slice_get}
use Rattle.c_tree.specs.Cycles.{IsCyclic}
use Rattle.c_types.specs.Peeling.{AreZeros, IsPeeled, IsOwed, callees_of, is_positive, taken_call, without_callers}
use Rattle.c_types.specs.declared.cycles.Peeling.{Peeling}
use Rattle.c_types.proofs.Live.{start_peeled, start_cyclic, row_read, turn_owed, turn_peeled, turn_cyclic, turn_within, uncalled_few, uncalled_here, some_left, none_left}
use Rattle.c_types.proofs.cycles.is_cyclic.Goals as goal

pub loop-next-init : goal.loop-next-init
loop-next-init c = (
  omega arith,
  start_peeled c.args.functions (record { counts = c.in_ok-counts.counts; uncalled = c.in_ok-uncalled.uncalled }) c.args.calls.now c.in_ok-counts.ensures
      (subst (λ (xs : List ℕ). AreZeros xs c.in_ok-uncalled.uncalled) c.as_slice.ensures c.in_ok-uncalled.ensures),
  start_cyclic c.in_ok-uncalled.uncalled c.args.calls.now,
)

pub at-requires : goal.at-requires
at-requires c =
    let below : c.loop-next.next < length c.loop-next.peeling.uncalled = omega (arith, c.len.ensures, c.loop-next-test.true) in
    let live = without_callers (take c.loop-next.next c.loop-next.peeling.uncalled) c.args.calls.now in
    let here = (uncalled_here c.args.functions c.loop-next.peeling c.loop-next.next live below c.loop-next.invariant.1).0 in
    let read : get_or c.loop-next.peeling.uncalled c.loop-next.next 0 ≡ c.at-caller.result.now = get_or_from_slice_get c.loop-next.peeling.uncalled c.loop-next.next c.at-caller.result.now 0 c.at-caller.ensures in
    let long : length c.in_ok-rows.rows ≡ c.args.functions = c.in_ok-rows.ensures.functions in
    omega arith

pub take_calls-requires : goal.take_calls-requires
take_calls-requires c =
    let below : c.loop-next.next < length c.loop-next.peeling.uncalled = omega (arith, c.len.ensures, c.loop-next-test.true) in
    let live = without_callers (take c.loop-next.next c.loop-next.peeling.uncalled) c.args.calls.now in
    let here = (uncalled_here c.args.functions c.loop-next.peeling c.loop-next.next live below c.loop-next.invariant.1).0 in
    let read : get_or c.loop-next.peeling.uncalled c.loop-next.next 0 ≡ c.at-caller.result.now = get_or_from_slice_get c.loop-next.peeling.uncalled c.loop-next.next c.at-caller.result.now 0 c.at-caller.ensures in
    subst (IsOwed c.loop-next.peeling.counts)
    (sym (row_read c.args.functions c.in_ok-rows.rows c.args.calls.now c.loop-next.peeling.uncalled c.loop-next.next c.at-caller.result.now c.at.result.now c.as_slice-in-loop-next.result.now c.in_ok-rows.ensures (omega arith) c.at-caller.ensures c.at.ensures c.as_slice-in-loop-next.ensures))
    (turn_owed c.args.functions c.loop-next.peeling c.loop-next.next c.args.calls.now c.requires below c.loop-next.invariant.1)

pub loop-next-smaller : goal.loop-next-smaller
loop-next-smaller c =
    let below : c.loop-next.next < length c.loop-next.peeling.uncalled = omega (arith, c.len.ensures, c.loop-next-test.true) in
    let few = uncalled_few c.args.functions c.loop-next.peeling (without_callers (take c.loop-next.next c.loop-next.peeling.uncalled) c.args.calls.now) c.loop-next.invariant.1 in
    omega arith

pub loop-next-preserved : goal.loop-next-preserved
loop-next-preserved c =
    let n = c.args.functions in
    let p = c.loop-next.peeling in
    let k = c.loop-next.next in
    let calls = c.args.calls.now in
    let below : k < length p.uncalled = omega (arith, c.len.ensures, c.loop-next-test.true) in
    let peeled = c.loop-next.invariant.1 in
    let here = (uncalled_here n p k (without_callers (take k p.uncalled) calls) below peeled).0 in
    let read : get_or p.uncalled k 0 ≡ c.at-caller.result.now = get_or_from_slice_get p.uncalled k c.at-caller.result.now 0 c.at-caller.ensures in
    let row : c.as_slice-in-loop-next.result.now ≡ callees_of (get_or p.uncalled k 0) calls = row_read n c.in_ok-rows.rows calls p.uncalled k c.at-caller.result.now c.at.result.now c.as_slice-in-loop-next.result.now c.in_ok-rows.ensures (omega arith) c.at-caller.ensures c.at.ensures c.as_slice-in-loop-next.ensures in
    subst (λ (q : Peeling). (k + 1 ≤ length q.uncalled) × IsPeeled n q (without_callers (take (k + 1) q.uncalled) calls) × (IsCyclic calls → IsCyclic (without_callers (take (k + 1) q.uncalled) calls)))
    (sym (c.in_ok-take_calls.ensures ∙ ap (fold taken_call p) row)) (
      turn_within p k (callees_of (get_or p.uncalled k 0) calls) below,
      turn_peeled n p k calls c.requires below peeled,
      λ cycle. turn_cyclic n p k calls below peeled (c.loop-next.invariant.2 cycle),
    )

yes_from : (b : Bool) → (b ≡ false → ⊥) → b ≡ true
yes_from true h = refl
yes_from false h = absurd (h refl)

pub returns : goal.returns
returns c =
    let n = c.args.functions in
    let p = c.loop-next.peeling in
    let calls = c.args.calls.now in
    let whole : take c.loop-next.next p.uncalled ≡ p.uncalled = take_all c.loop-next.next p.uncalled (omega (arith, c.len.ensures, c.loop-next-test.false)) in
    let peeled = subst (λ (gone : List ℕ). IsPeeled n p (without_callers gone calls)) whole c.loop-next.invariant.1 in
    let is : c.is_any_called.result ≡ list_any is_positive p.counts = c.is_any_called.ensures ∙ ap (list_any is_positive) c.as_slice-2.ensures in (
      λ h. some_left n p calls c.requires peeled (sym is ∙ h),
      λ cycle. yes_from c.is_any_called.result (λ h. none_left n p calls c.requires peeled (sym is ∙ h) (subst (λ (gone : List ℕ). IsCyclic (without_callers gone calls)) whole (c.loop-next.invariant.2 cycle))),
    )
