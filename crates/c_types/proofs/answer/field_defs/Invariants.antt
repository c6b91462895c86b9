use Rattle.std.proofs.Common.{◌≡◌, map, take}
use Rattle.c_types.specs.Program.{field_def}
use Rattle.c_types.proofs.answer.field_defs.Given as goal

abbrev pub invariant-loop-row : goal.invariant-loop-row
invariant-loop-row l = l.made ≡ map field_def (take l.row-index l.rows)
