use Rattle.std.proofs.Common.{rules, ◌≡◌, ◌≤◌, length, slice_get, Some, None, ap, sym, ◌∙◌, drop, ◌+◌}
use Rattle.ts_domain.specs.declared.edges.Binding.{Binding}
use Rattle.ts_domain.specs.Deeds.{bound_argument, bound_arguments}
use Rattle.ts_domain.proofs.Arguments.{argument_more, arguments_end, parameters_end}
use Rattle.ts_domain.proofs.edges.Binding.arguments.Goals as goal

pub loop-place-preserved : goal.loop-place-preserved
loop-place-preserved c =
    let n = c.args.names.now in
    let xs = c.args.parameters.now in
    let es = c.args.arguments.now in
    let i = c.loop-place.place in
    let x = c.in-Some.parameter in
    let e = c.at.result.now in
    let here : slice_get xs i ≡ Some x = sym c.parameter_at.ensures ∙ c.in-Some.is in
    let made : c.argument.new.self ≡ bound_argument n c.loop-place.self (x, e) = search rules in
    ap (λ (b : Binding). bound_arguments n b (drop (i + 1) xs) (drop (i + 1) es)) made
    ∙ argument_more n c.loop-place.self xs es i x e here c.at.ensures
    ∙ c.loop-place.invariant

pub returns-in-None : goal.returns-in-None
returns-in-None c =
    let xs = c.args.parameters.now in
    let none : slice_get xs c.loop-place.place ≡ None = sym c.parameter_at.ensures ∙ c.in-None.is in
    sym (parameters_end c.args.names.now c.loop-place.self xs c.args.arguments.now c.loop-place.place none) ∙ c.loop-place.invariant

pub returns : goal.returns
returns c =
    let past : length c.args.arguments.now ≤ c.loop-place.place = search rules in
    sym (arguments_end c.args.names.now c.loop-place.self c.args.parameters.now c.args.arguments.now c.loop-place.place past) ∙ c.loop-place.invariant
