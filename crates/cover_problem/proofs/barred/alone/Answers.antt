use Rattle.std.proofs.Common.{rules, ◌≡◌, ◌+◌, ◌<◌, ◌++◌, List, [], ◌∷◌, ℕ, length, take, get_or, ap, sym, subst, ◌∙◌}
use Rattle.std.proofs.lemmas.List.{take_more}
use Rattle.mf_set.specs.Numbers.{Numbers}
use Rattle.cover_problem.specs.Alone.{LeastOf}
use Rattle.cover_problem.proofs.AloneLaws.{least_step}
use Rattle.cover_problem.proofs.barred.alone.Goals as goal

pub loop-exit-preserved : goal.loop-exit-preserved
loop-exit-preserved c =
    let q = c.args.problem.now in
    let i = c.loop-exit.exit-index in
    let e = c.exit-item.result in
    let same : c.as_slice-exit-items.result.now ≡ q.exits = c.as_slice-exit-items.ensures in
    let inside : i < length q.exits = subst (λ (xs : List (ℕ × ℕ × Numbers)). i < length xs) same c.loop-exit-test.true in
    let at : get_or q.exits i e ≡ e = subst (λ (xs : List (ℕ × ℕ × Numbers)). get_or xs i e ≡ e) same (sym c.exit-item.is) in
    let more : take (i + 1) q.exits ≡ take i q.exits ++ e ∷ [] = take_more q.exits i e inside ∙ ap (λ (z : ℕ × ℕ × Numbers). take i q.exits ++ z ∷ []) at in
    subst (λ (es : List (ℕ × ℕ × Numbers)). LeastOf q es c.least_with-least.result) (sym more)
    (least_step q (take i q.exits) e c.loop-exit.least c.least_with-least.result c.least_with-least.ensures c.loop-exit.invariant)
