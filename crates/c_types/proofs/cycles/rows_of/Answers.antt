use Rattle.std.proofs.Common.{◌≡◌, ◌+◌, List, [], ◌∷◌, ◌++◌, ℕ, get_or, set, take, sym, ap, subst, ◌∙◌}
use Rattle.std.proofs.lemmas.List.{get_or_default}
use Rattle.std.proofs.lemmas.Option.{get_or_from_slice_get}
use Rattle.c_types.specs.Peeling.{AreRows}
use Rattle.c_tree.specs.declared.control.UserCall.{UserCall}
use Rattle.c_types.proofs.CallTables.{rows_more}
use Rattle.c_types.proofs.cycles.rows_of.Goals as goal

pub loop-call-preserved : goal.loop-call-preserved
loop-call-preserved c =
    let i = c.loop-call.call-index in
    let d : UserCall = get_or c.args.calls.now i (record { number = 0; caller = 0; callee = 0; at = 0 }) in
    let row : get_or c.loop-call.rows d.caller [] ≡ c.at_mut.result.now = get_or_from_slice_get c.loop-call.rows d.caller c.at_mut.result.now [] c.at_mut.ensures.value in
    subst (λ (xs : List ℕ). AreRows c.args.functions (set c.loop-call.rows d.caller xs) (take (i + 1) c.args.calls.now))
    (ap (λ (xs : List ℕ). xs ++ d.callee ∷ []) row ∙ sym c.in_ok-push-2.ensures.ok)
    (rows_more c.args.functions c.loop-call.rows c.args.calls.now i d c.loop-call-test.true (get_or_default c.args.calls.now i (record { number = 0; caller = 0; callee = 0; at = 0 }) d c.loop-call-test.true) c.requires c.loop-call.invariant)
