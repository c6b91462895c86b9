-- The fields that are left, behind those so far, are read as all.
use Rattle.std.proofs.Common.{◌≡◌, ◌-◌, length}
use Rattle.c_parser.specs.ReadFile.{read_field_names}
use Rattle.c_parser.specs.Loops.{looped}
use Rattle.c_parser.specs.FileLoops.{field_name_turn}
use Rattle.c_parser.proofs.structs.read_field_names.Given as goal

abbrev pub invariant-loop-turn : goal.invariant-loop-turn
invariant-loop-turn l = looped (field_name_turn l.base) (length l.tokens - l._turn) l.fields l.left ≡ read_field_names l.base (length l.tokens) l.fn.front l.tokens
