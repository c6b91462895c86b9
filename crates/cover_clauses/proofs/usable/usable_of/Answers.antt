use Rattle.std.proofs.Common.{rules, ◌≡◌, Bool, cond, length, ap, ◌∙◌}
use Rattle.mf_set.specs.Numbers.{Numbers, with_number}
use Rattle.cover_problem.specs.Covering.{is_usable}
use Rattle.cover_clauses.proofs.FoundLaws.{found_more}
use Rattle.cover_clauses.proofs.usable.usable_of.Goals as goal

pub loop-place-preserved : goal.loop-place-preserved
loop-place-preserved c =
    let q = c.args.problem.now in
    let i = c.loop-place.place in
    let set = c.loop-place.set in
    let written : c.insert_if.new.set ≡ (let t : Numbers = record { items = cond c.is_usable.result (with_number set.items i) set.items; room = set.room } in t) = search rules in
    found_more (length q.names.puts) (is_usable q) i set c.insert_if.new.set
    (written ∙ ap (λ (b : Bool). let t : Numbers = record { items = cond b (with_number set.items i) set.items; room = set.room } in t) c.is_usable.ensures)
    c.loop-place.invariant
