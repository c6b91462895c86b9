use Rattle.std.proofs.Common.{◌≡◌, take}
use Rattle.c_types.specs.Program.{definitions}
use Rattle.c_types.proofs.answer.definitions.Given as goal

abbrev pub invariant-loop-top : goal.invariant-loop-top
invariant-loop-top l = l.rows ≡ definitions (take l.top-index l.tops)
