use Rattle.std.proofs.Common.{rules, ◌≡◌, ◌<◌, ◌≤◌, suc, true, false, sym, ap, ◌∙◌, arith}
use Rattle.std.specs.List.{list_any, range_with_len}
use Rattle.ts_domain.specs.Post.{is_held_field}
use Rattle.ts_domain.proofs.EntryLaws.{any_at, any_next}
use Rattle.ts_domain.proofs.turns.holds_beneath.Goals as goal

pub returns-then-is_held_field : goal.returns-then-is_held_field
returns-then-is_held_field c =
    let n = c.args.names.now in
    let m = c.args.mark.now in
    let x = c.args.variable in
    let e = c.loop-expression.expression in
    let held : is_held_field n m x e ≡ true = search rules in
    let within : e < c.expression_count-expression-end.result = search rules in
    let below : suc e ≤ c.expression_count-expression-end.result = omega arith in
    sym (any_at (is_held_field n m x) c.expression_count-expression-end.result e below held)
    ∙ ap (λ k. list_any (is_held_field n m x) (range_with_len 0 k)) c.expression_count-expression-end.ensures

pub loop-expression-preserved : goal.loop-expression-preserved
loop-expression-preserved c =
    let n = c.args.names.now in
    let m = c.args.mark.now in
    let x = c.args.variable in
    let e = c.loop-expression.expression in
    let held : is_held_field n m x e ≡ false = search rules in
    any_next (is_held_field n m x) e false c.loop-expression.invariant held
