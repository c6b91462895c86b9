use Rattle.std.proofs.Common.{rules, ◌≡◌, ◌↔◌, None, Option, ℕ, List, sym, ap, subst, ◌∙◌}
use Rattle.call_contexts.specs.declared.context.Ctx.{Ctx}
use Rattle.call_contexts.specs.Contexts.{home_of}
use Rattle.call_contexts.proofs.ContextLaws.{main_alone}
use Rattle.call_contexts.proofs.WellFormedCalls.{are_calls}
use Rattle.call_contexts.proofs.context.Contexts.home.Goals as goal

pub returns-in-Some-clause-none : goal.returns-in-Some-clause-none
returns-in-Some-clause-none c p w is within =
    let found : c.in-Some.context.now.home ≡ home_of c.args.self.now.list c.args.ctx = search rules in
    subst (λ (answer : Option (ℕ × ℕ)). (answer ≡ None) ↔ (c.args.ctx ≡ 0)) (sym (found ∙ ap (λ (list : List Ctx). home_of list c.args.ctx) is))
    (main_alone p (are_calls p w) c.args.ctx within)
