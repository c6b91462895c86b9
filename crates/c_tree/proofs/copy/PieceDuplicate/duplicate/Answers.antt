-- A copy that keeps each gap is the same.
use Rattle.std.proofs.Common.{◌≡◌, IfOk, subst}
use Rattle.c_tree.proofs.Fills.{kept_piece}
use Rattle.c_tree.specs.declared.program.Piece.{Piece}
use Rattle.c_tree.proofs.copy.PieceDuplicate.duplicate.Goals as goal

pub returns : goal.returns
returns c = subst (λ (z : Piece). IfOk c.copied_piece.result (λ copy. copy ≡ z)) (kept_piece c.args.self.now) c.copied_piece.ensures
