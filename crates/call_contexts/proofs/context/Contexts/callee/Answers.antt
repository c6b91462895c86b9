use Rattle.std.proofs.Common.{rules, ◌≡◌, ◌↔◌, None, Option, ℕ, List, sym, ap, subst, ◌∙◌}
use Rattle.std.specs.List.{All}
use Rattle.std.specs.Prelude.{◌≢◌}
use Rattle.call_contexts.specs.declared.context.Ctx.{Ctx}
use Rattle.call_contexts.specs.Calls.{calls_by_function, calls_of}
use Rattle.call_contexts.specs.Contexts.{callee_of}
use Rattle.call_contexts.proofs.ContextLaws.{none_without}
use Rattle.call_contexts.proofs.WellFormedCalls.{are_calls}
use Rattle.call_contexts.proofs.context.Contexts.callee.Goals as goal

pub returns-clause-none : goal.returns-clause-none
returns-clause-none c p w is x e =
    let found : c.callee_of.result ≡ callee_of c.args.self.now.list c.args.ctx c.args.call = search rules in
    subst (λ (answer : Option ℕ). (answer ≡ None) ↔ All (λ d. d.number ≢ c.args.call) (calls_of (calls_by_function p) x.fun))
    (sym (found ∙ ap (λ (list : List Ctx). callee_of list c.args.ctx c.args.call) is))
    (none_without p (are_calls p w) c.args.ctx c.args.call x e)
