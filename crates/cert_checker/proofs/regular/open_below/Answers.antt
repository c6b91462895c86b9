use Rattle.std.proofs.Common.{rules, ◌≡◌, ℕ, List, ◌++◌, [], ◌∷◌, Bool, cond, ap, sym, ◌∙◌}
use Rattle.cover_certificate.specs.Regular.{is_open}
use Rattle.cert_checker.proofs.RangeLaws.{filter_range}
use Rattle.cert_checker.proofs.regular.open_below.Goals as goal

pub loop-expression-preserved : goal.loop-expression-preserved
loop-expression-preserved c =
    let i = c.loop-expression.expression in
    let pushed : c.push_if.new.list ≡ c.loop-expression.list ++ cond c.is_open.result (i ∷ []) [] = search rules in
    pushed ∙ ap (λ (b : Bool). c.loop-expression.list ++ cond b (i ∷ []) []) c.is_open.ensures
    ∙ ap (λ (xs : List ℕ). xs ++ cond (is_open c.args.mark.now i) (i ∷ []) []) c.loop-expression.invariant
    ∙ sym (filter_range (is_open c.args.mark.now) i)
