-- A rebuilt block, piece, item or arm, and a bare expression, one level opened.
use Rattle.std.proofs.Common.{◌≡◌, ap, sym, ◌∙◌}
use Rattle.c_tree.specs.Alike.{bare_layer, bare_expr}
use Rattle.c_tree.proofs.Rebuilds.{Layers, in_item, in_arm, in_block, in_piece, rebuilt, rebuilt_rebuilds}
use Rattle.c_tree.specs.declared.expr.Expr.{Expr, Expr-F, out-Expr, roll-Expr, map-Expr, out-roll-Expr, roll-out-Expr, fold-roll-Expr}
use Rattle.c_tree.specs.declared.program.Block.{Block, out-Block, out-roll-Block, roll-out-Block}
use Rattle.c_tree.specs.declared.program.Piece.{Piece, out-Piece, out-roll-Piece, roll-out-Piece}
use Rattle.c_tree.specs.declared.program.Item.{Item, out-Item, out-roll-Item, roll-out-Item}
use Rattle.c_tree.specs.declared.program.Arm.{Arm, out-Arm, out-roll-Arm, roll-out-Arm}

pub rebuilt_block : (l : Layers) (b : Block) → out-Block ((rebuilt l).block b) ≡ l.block (in_block (rebuilt l) (out-Block b))
rebuilt_block l b =
    ap (λ (c : Block). out-Block ((rebuilt l).block c)) (sym (roll-out-Block b))
    ∙ ap out-Block ((rebuilt_rebuilds l).block (out-Block b))
    ∙ out-roll-Block (l.block (in_block (rebuilt l) (out-Block b)))

pub rebuilt_piece : (l : Layers) (p : Piece) → out-Piece ((rebuilt l).piece p) ≡ l.piece (in_piece (rebuilt l) (out-Piece p))
rebuilt_piece l p =
    ap (λ (q : Piece). out-Piece ((rebuilt l).piece q)) (sym (roll-out-Piece p))
    ∙ ap out-Piece ((rebuilt_rebuilds l).piece (out-Piece p))
    ∙ out-roll-Piece (l.piece (in_piece (rebuilt l) (out-Piece p)))

pub rebuilt_item : (l : Layers) (i : Item) → out-Item ((rebuilt l).item i) ≡ l.item (in_item (rebuilt l) (out-Item i))
rebuilt_item l i =
    ap (λ (j : Item). out-Item ((rebuilt l).item j)) (sym (roll-out-Item i))
    ∙ ap out-Item ((rebuilt_rebuilds l).item (out-Item i))
    ∙ out-roll-Item (l.item (in_item (rebuilt l) (out-Item i)))

pub rebuilt_arm : (l : Layers) (a : Arm) → out-Arm ((rebuilt l).arm a) ≡ l.arm (in_arm (rebuilt l) (out-Arm a))
rebuilt_arm l a =
    ap (λ (b : Arm). out-Arm ((rebuilt l).arm b)) (sym (roll-out-Arm a))
    ∙ ap out-Arm ((rebuilt_rebuilds l).arm (out-Arm a))
    ∙ out-roll-Arm (l.arm (in_arm (rebuilt l) (out-Arm a)))

-- one layer of an expression with bare parts and no offset
abbrev pub bared : Expr-F Expr → Expr-F Expr
bared l = bare_layer (map-Expr Expr Expr bare_expr l)

pub bare_rolled : (x : Expr-F Expr) → bare_expr (roll-Expr x) ≡ roll-Expr (bared x)
bare_rolled = fold-roll-Expr Expr (λ l. roll-Expr (bare_layer l))

pub bare_out : (e : Expr) → out-Expr (bare_expr e) ≡ bared (out-Expr e)
bare_out e = ap (λ (x : Expr). out-Expr (bare_expr x)) (sym (roll-out-Expr e)) ∙ ap out-Expr (bare_rolled (out-Expr e)) ∙ out-roll-Expr (bared (out-Expr e))
