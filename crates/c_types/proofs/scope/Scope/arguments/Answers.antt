use Rattle.std.proofs.Common.{rules, ◌≡◌, ◌∙◌, ap, slice_get}
use Rattle.c_types.specs.Calls.{argument}
use Rattle.c_types.proofs.ArgumentLaws.{argument_more}
use Rattle.c_types.proofs.scope.Scope.arguments.Goals as goal

pub loop-place-preserved : goal.loop-place-preserved
loop-place-preserved c =
    let param : c.copied.result ≡ slice_get c.args.params.now c.loop-place.place = search rules in
    argument_more c.args.self.now c.args.params.now c.args.args.now c.loop-place.place c.index-args-place.result c.loop-place.made c.push.new.self c.loop-place.faults c.append.new.self
    c.in_ok-argument.argument c.loop-place-test.true c.index-args-place.is
    (c.in_ok-argument.ensures ∙ ap (λ t. argument c.args.self.now t c.index-args-place.result) param)
    c.in_ok-push.ensures.ok c.in_ok-append.ensures.ok
    ∙ c.loop-place.invariant
