-- The declarations that are left, behind those so far, are those of the file.
use Rattle.std.proofs.Common.{◌≡◌, ◌-◌, length, []}
use Rattle.c_parser.specs.ReadFile.{read_file}
use Rattle.c_parser.proofs.file.read_file.Given as goal

abbrev pub invariant-loop-turn : goal.invariant-loop-turn
invariant-loop-turn l = read_file (length l.tokens) (length l.tokens - l._turn) l.tops l.left ≡ read_file (length l.tokens) (length l.tokens) [] l.tokens
