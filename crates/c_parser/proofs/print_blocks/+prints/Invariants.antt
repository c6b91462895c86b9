-- What is written, and what the parts that are left are printed as.
use Rattle.std.proofs.Common.{◌≡◌, ◌++◌, drop, map}
use Rattle.c_parser.specs.Printed.{each, printed_piece, printed_arm, printed_other_arm}
use Rattle.c_parser.proofs.print_blocks.+prints.Given as goal

abbrev pub invariant-print_pieces-loop-piece : goal.invariant-print_pieces-loop-piece
invariant-print_pieces-loop-piece l = l.out ++ each printed_piece (drop l.piece-index l.pieces) ≡ l.fn.out ++ each printed_piece l.pieces

abbrev pub invariant-print_other_arms-loop-at : goal.invariant-print_other_arms-loop-at
invariant-print_other_arms-loop-at l =
    l.out ++ each printed_other_arm (map printed_arm (drop l.at l.arms)) ≡ l.fn.out ++ each printed_other_arm (map printed_arm (drop 1 l.arms))
