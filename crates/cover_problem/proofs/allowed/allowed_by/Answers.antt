use Rattle.std.proofs.Common.{rules, ◌≡◌, Bool, cond, ap, ◌∙◌}
use Rattle.mf_set.specs.Numbers.{Numbers, with_number}
use Rattle.cover_problem.proofs.AllowedLaws.{allowed_more}
use Rattle.cover_problem.proofs.allowed.allowed_by.Goals as goal

pub loop-place-preserved : goal.loop-place-preserved
loop-place-preserved c =
    let i = c.loop-place.place in
    let set = c.loop-place.set in
    let q = c.at-put.result.now in
    let written : c.insert_if.new.set ≡ (let t : Numbers = record { items = cond c.is_allowed.result (with_number set.items i) set.items; room = set.room } in t) = search rules in
    allowed_more c.args.names.now c.args.path.now c.args.nodes.now i q set c.insert_if.new.set c.at-put.ensures c.loop-place.invariant
    (written ∙ ap (λ (b : Bool). let t : Numbers = record { items = cond b (with_number set.items i) set.items; room = set.room } in t) c.is_allowed.ensures)
