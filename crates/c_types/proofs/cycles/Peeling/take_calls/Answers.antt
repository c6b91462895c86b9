use Rattle.std.proofs.Common.{ℕ, ◌+◌, ◌<◌, List, ◌∷◌, length, get_or, drop, sym, ap, subst, ◌∙◌}
use Rattle.std.proofs.lemmas.List.{drop_more}
use Rattle.std.proofs.lemmas.List.Sums.{fold_more}
use Rattle.c_types.specs.Peeling.{IsOwed, taken_call}
use Rattle.c_types.specs.declared.cycles.Peeling.{Peeling}
use Rattle.c_types.proofs.Peeled.{owed_first, owed_rest}
use Rattle.c_types.proofs.cycles.Peeling.take_calls.Goals as goal

owed_here : (counts fs : List ℕ) (i : ℕ) → i < length fs → IsOwed counts (drop i fs) → IsOwed counts (get_or fs i 0 ∷ drop (i + 1) fs)
owed_here counts fs i below owed = subst (IsOwed counts) (drop_more fs i 0 below) owed

pub take_call-requires-clause-called : goal.take_call-requires-clause-called
take_call-requires-clause-called c =
    (owed_first c.loop-callee.self.counts (get_or c.args.callees.now c.loop-callee.callee-index 0) (drop (c.loop-callee.callee-index + 1) c.args.callees.now)
    (owed_here c.loop-callee.self.counts c.args.callees.now c.loop-callee.callee-index c.loop-callee-test.true c.loop-callee.invariant.1)).1

pub loop-callee-preserved : goal.loop-callee-preserved
loop-callee-preserved c =
    let f = get_or c.args.callees.now c.loop-callee.callee-index 0 in
    let rest = drop (c.loop-callee.callee-index + 1) c.args.callees.now in (
      c.in_ok-take_call.ensures
          ∙ ap (λ p. taken_call p f) c.loop-callee.invariant.0
          ∙ sym (fold_more taken_call c.args.self.now c.args.callees.now c.loop-callee.callee-index 0 c.loop-callee-test.true),
      subst (λ (p : Peeling). IsOwed p.counts rest) (sym c.in_ok-take_call.ensures)
          (owed_rest c.loop-callee.self f rest (owed_here c.loop-callee.self.counts c.args.callees.now c.loop-callee.callee-index c.loop-callee-test.true c.loop-callee.invariant.1)),
    )
