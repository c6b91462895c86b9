use Rattle.std.proofs.Common.{rules, ◌≡◌, ◌≤◌, length, ap, flat_map, sym, ◌∙◌}
use Rattle.std.proofs.lemmas.List.{take_all}
use Rattle.cfg_lower.specs.Sources.{back_steps}
use Rattle.cfg_lower.proofs.Backs.{back_by_row, back_to_missing}
use Rattle.cfg_lower.proofs.steps.steps_back.Goals as goal

pub returns-in_default-get : goal.returns-in_default-get
returns-in_default-get c =
    c.new-steps.ensures ∙ back_to_missing c.args.source c.requires c.args.ctx c.args.number c.in-Some.context.now (sym c.in-Some.ensures.value) (sym c.in_default-get.ensures.value)

pub returns : goal.returns
returns c =
    let f = back_steps c.args.source c.args.ctx c.args.number in
    let past : length c.as_slice-calls.result.now ≤ c.loop-call.call-index = search rules in
    let all : c.loop-call.steps ≡ flat_map f c.in-Some-get.row.now.calls =
    c.loop-call.invariant ∙ ap (flat_map f) (take_all c.loop-call.call-index c.as_slice-calls.result.now past ∙ c.as_slice-calls.ensures) in
    all ∙ back_by_row c.args.source c.requires c.args.ctx c.args.number c.in-Some.context.now c.in-Some-get.row.now (sym c.in-Some.ensures.value) (sym c.in-Some-get.ensures.value)
