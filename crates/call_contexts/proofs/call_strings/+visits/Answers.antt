use Rattle.std.proofs.Common.{rules, ◌≡◌, suc, ◌++◌, [], ◌∷◌, length, ◌∙◌, arith, Err}
use Rattle.std.proofs.lemmas.Result.{on_ok_weaker}
use Rattle.c_tree.specs.declared.limits.Refusal.TheVariants as refusal
use Rattle.c_tree.specs.declared.limits.Limit.TheVariants as limit
use Rattle.call_contexts.specs.Contexts.{context, visit, visit_calls}
use Rattle.call_contexts.proofs.Visits.{visit_opens, shorter, passes_limit}
use Rattle.call_contexts.proofs.call_strings.+visits.Goals as goal

pub visit-returns-clause-ok : goal.visit-returns-clause-ok
visit-returns-clause-ok t c =
    let deep : c.args.depth ≡ suc c.in-Some.below = omega (arith, c.in-Some.ensures) in
    let grown : c.add_context.new.list ≡ c.args.list.now ++ context c.args.fun c.args.home ∷ [] = search rules in
    on_ok_weaker c.visit_calls.result
    (λ e. e ∙ visit_opens c.args.rows.now c.args.list.now c.add_context.new.list c.args.depth c.in-Some.below c.len-me.result c.args.fun c.args.home c.calls_of.result.now deep c.len-me.ensures c.calls_of.ensures grown)
    c.visit_calls.ensures.ok

pub visit-returns-clause-limit : goal.visit-returns-clause-limit
visit-returns-clause-limit t c e =
    let deep : c.args.depth ≡ suc c.in-Some.below = omega (arith, c.in-Some.ensures) in
    let grown : c.add_context.new.list ≡ c.args.list.now ++ context c.args.fun c.args.home ∷ [] = search rules in
    let over = c.visit_calls.ensures.limit e in
    let same = shorter c.add_context.new.list (visit_calls (visit c.args.rows.now c.in-Some.below) c.len-me.result (length c.add_context.new.list) c.calls_of.result.now)
    c.args.list.now (visit c.args.rows.now c.args.depth (length c.args.list.now) c.args.fun c.args.home)
    (visit_opens c.args.rows.now c.args.list.now c.add_context.new.list c.args.depth c.in-Some.below c.len-me.result c.args.fun c.args.home c.calls_of.result.now deep c.len-me.ensures c.calls_of.ensures grown) in
    omega arith

pub visit_calls-returns-in_err-visit-clause-limit : goal.visit_calls-returns-in_err-visit-clause-limit
visit_calls-returns-in_err-visit-clause-limit t c e =
    let refused : c.visit.result ≡ Err (refusal.Limit limit.Contexts) = search (rules, e) in
    passes_limit (visit c.args.rows.now c.args.depth) c.args.me c.loop-call.call-index c.args.calls.now c.args.list.now c.loop-call.list
    (visit_calls (visit c.args.rows.now c.args.depth) c.args.me (length c.args.list.now) c.args.calls.now)
    c.loop-call-test.true c.loop-call.invariant.0 (c.visit.ensures.limit refused)
