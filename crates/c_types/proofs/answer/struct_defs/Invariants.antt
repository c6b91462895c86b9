use Rattle.std.proofs.Common.{◌≡◌, map, take}
use Rattle.c_types.specs.Program.{struct_def}
use Rattle.c_types.proofs.answer.struct_defs.Given as goal

abbrev pub invariant-loop-row : goal.invariant-loop-row
invariant-loop-row l = l.made ≡ map struct_def (take l.row-index l.rows)
