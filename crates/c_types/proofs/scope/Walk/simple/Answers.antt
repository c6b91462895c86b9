use Rattle.c_types.proofs.StatementLaws.{simple_done}
use Rattle.c_types.proofs.scope.Walk.simple.Goals as goal

pub returns : goal.returns
returns c =
    simple_done c.args.simple.now c.args.self.now c.right.new.self c.note.new.self c.in_ok-place.place c.in_ok-right.right c.in_ok-made.field-0
    c.in_ok-place.ensures c.in_ok-right.ensures c.in_ok-made.ensures c.in_ok-note.ensures
