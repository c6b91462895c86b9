use Rattle.std.proofs.Common.{◌≡◌, ℕ, ◌+◌, ◌<◌, ◌==◌, List, length, take, get_or, set, sym, ap, subst, ◌∙◌, arith}
use Rattle.std.specs.Prelude.{count_by}
use Rattle.std.proofs.lemmas.List.{get_or_default, length-take}
use Rattle.std.proofs.lemmas.List.Sums.{count_by-le-length}
use Rattle.std.proofs.lemmas.Option.{get_or_from_slice_get}
use Rattle.c_types.specs.Peeling.{IsCounted}
use Rattle.c_tree.specs.declared.control.UserCall.{UserCall}
use Rattle.c_types.proofs.CallTables.{counted_more}
use Rattle.c_types.proofs.cycles.counts_of.Goals as goal

pub overflow_add-count : goal.overflow_add-count
overflow_add-count c =
    let i = c.loop-call.call-index in
    let calls = c.args.calls.now in
    let below : i < length calls = c.loop-call-test.true in
    let d : UserCall = get_or calls i (record { number = 0; caller = 0; callee = 0; at = 0 }) in
    let within : d.callee < c.args.functions = (c.requires i (record { number = 0; caller = 0; callee = 0; at = 0 }) below).1 in
    let here : get_or c.loop-call.counts d.callee 0 ≡ c.at-count.result.now = get_or_from_slice_get c.loop-call.counts d.callee c.at-count.result.now 0 c.at-count.ensures in
    let is : get_or c.loop-call.counts d.callee 0 ≡ count_by (λ (e : UserCall). e.callee == d.callee) (take i calls) = c.loop-call.invariant.counted d.callee within in
    let few = count_by-le-length (λ (e : UserCall). e.callee == d.callee) (take i calls) in
    let long = length-take i calls in
    omega (arith, here, is, few, long)

pub loop-call-preserved : goal.loop-call-preserved
loop-call-preserved c =
    let i = c.loop-call.call-index in
    let d : UserCall = get_or c.args.calls.now i (record { number = 0; caller = 0; callee = 0; at = 0 }) in
    let here : get_or c.loop-call.counts d.callee 0 ≡ c.at-count.result.now = get_or_from_slice_get c.loop-call.counts d.callee c.at-count.result.now 0 c.at-count.ensures in
    subst (λ (xs : List ℕ). IsCounted c.args.functions xs (take (i + 1) c.args.calls.now))
    (ap (λ (k : ℕ). set c.loop-call.counts d.callee (k + 1)) here ∙ sym c.set.ensures)
    (counted_more c.args.functions c.loop-call.counts c.args.calls.now i d c.loop-call-test.true (get_or_default c.args.calls.now i (record { number = 0; caller = 0; callee = 0; at = 0 }) d c.loop-call-test.true) c.requires c.loop-call.invariant)
