use Rattle.std.proofs.Common.{sym}
use Rattle.cover_clauses.proofs.ConflictLaws.{behind_done, behind_next}
use Rattle.cover_clauses.proofs.conflicts.add_set.Goals as goal

pub loop-place-preserved : goal.loop-place-preserved
loop-place-preserved c =
    behind_next c.args.set.now c.loop-place.from c.loop-place.rest c.args.rows.now c.loop-place.rows c.loop-place.invariant c.in-Some.place c.remove.new.self c.join.new.rows
    c.in-Some.ensures.within.0 c.in-Some.ensures.rest c.remove.ensures.numbers c.join.ensures

pub returns : goal.returns
returns c = behind_done c.args.set.now c.loop-place.from c.loop-place.rest c.args.rows.now c.loop-place.rows c.loop-place.invariant (sym c.in_default.ensures.value)
