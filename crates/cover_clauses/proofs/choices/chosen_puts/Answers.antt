use Rattle.std.proofs.Common.{rules, ◌≡◌, ◌++◌, ◌∷◌, [], cond, ap, ◌∙◌}
use Rattle.cover_clauses.proofs.ChoiceLaws.{chosen_next}
use Rattle.cover_clauses.proofs.choices.chosen_puts.Goals as goal

pub loop-place-preserved : goal.loop-place-preserved
loop-place-preserved c =
    let q = c.args.problem.now in
    let bits = c.args.bits.now in
    let i = c.loop-place.place in
    let variable = c.loop-place.variable in
    let put = c.at-put.result.now in
    let u = c.contains-has_variable.result in
    let pushed : c.push_if.new.puts ≡ c.loop-place.puts ++ cond c.is_chosen.result (put ∷ []) [] = search rules in
    chosen_next q bits i variable c.next-variable.result c.loop-place.puts c.push_if.new.puts put u c.at-put.ensures (c.contains-has_variable.ensures.value ∙ c.requires.members i)
    (pushed ∙ ap (λ b. c.loop-place.puts ++ cond b (put ∷ []) []) c.is_chosen.ensures) c.next-variable.ensures c.loop-place.invariant
