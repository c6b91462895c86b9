use Rattle.std.proofs.Common.{slice_set, ap, sym, ◌∙◌}
use Rattle.c_meaning.specs.declared.machine.Object.{Object}
use Rattle.c_meaning.specs.Machine.{with_cell}
use Rattle.c_replay.proofs.Altered.{altered_at}
use Rattle.c_replay.proofs.store.write_object.Goals as goal

pub returns-in_ok-write_cell-clause-ok : goal.returns-in_ok-write_cell-clause-ok
returns-in_ok-write_cell-clause-ok c =
    ap (λ (o : Object). slice_set c.args.objects.now c.args.object o) c.in_ok-write_cell.ensures.ok
    ∙ sym (altered_at (with_cell c.args.at c.args.value) c.args.object c.args.objects.now c.at_mut.result.now c.at_mut.ensures.value)
