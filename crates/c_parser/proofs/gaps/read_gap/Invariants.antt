-- The frees that are left, behind those so far, are read as all.
use Rattle.std.proofs.Common.{◌≡◌, ◌-◌, length, []}
use Rattle.c_parser.specs.ReadBlocks.{read_gap}
use Rattle.c_parser.specs.Loops.{looped, gap_turn}
use Rattle.c_parser.proofs.gaps.read_gap.Given as goal

abbrev pub invariant-loop-turn : goal.invariant-loop-turn
invariant-loop-turn l = looped (gap_turn l.depth) (length l.tokens - l._turn) l.frees l.left ≡ read_gap l.depth (length l.tokens) [] l.tokens
