use Rattle.std.proofs.Common.{sym, ◌∙◌}
use Rattle.mf_set.specs.Numbers.{Numbers}
use Rattle.cover_clauses.specs.Conflicts.{shares}
use Rattle.cover_clauses.proofs.ConflictLaws.{adds_more}
use Rattle.cover_clauses.proofs.conflicts.add_sets.Goals as goal

pub add_set-requires-clause-room : goal.add_set-requires-clause-room
add_set-requires-clause-room c = c.requires.rooms c.set-item.result (c.loop-set.set-index, c.loop-set-test.true, sym c.set-item.is) ∙ sym c.loop-set.invariant.long

pub loop-set-preserved : goal.loop-set-preserved
loop-set-preserved c =
    adds_more (λ (s : Numbers) j k. shares s.items j k) c.args.sets.now c.loop-set.set-index c.set-item.result c.args.rows.now c.loop-set.rows c.add_set.new.rows c.loop-set-test.true c.set-item.is
    c.loop-set.invariant c.in_ok-add_set.ensures
