use Rattle.std.proofs.Common.{◌≡◌, drop}
use Rattle.std.specs.List.{list_any}
use Rattle.c_tree.specs.declared.program.Piece.{Piece, out-Piece}
use Rattle.source_patcher.specs.Gaps.{writes}
use Rattle.source_patcher.proofs.walk.writes_before.Given as goal

abbrev pub invariant-loop-piece : goal.invariant-loop-piece
invariant-loop-piece l =
    list_any (λ (p : Piece). writes l.puts (out-Piece p).gap) (drop l.piece-index l.pieces) ≡ list_any (λ (p : Piece). writes l.puts (out-Piece p).gap) l.pieces
