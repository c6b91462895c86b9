-- A block opened by one level.
use Rattle.std.proofs.Common.{◌≡◌, ℕ, List, Option, Some, None, length, map, sym, ap, ◌∙◌}
use Rattle.std.proofs.lemmas.Simd.{map-map}
use Rattle.c_tree.specs.declared.program.Block.{Block as MadeBlock, roll-Block}
use Rattle.c_tree.specs.declared.program.Arm.{Arm as MadeArm}
use Rattle.c_tree.specs.declared.program.ForHead.{ForHead as MadeHead}
use Rattle.c_tree.specs.declared.program.Gap.{Gap as MadeGap}
use Rattle.c_tree.specs.declared.program.Item.{Item as MadeItem}
use Rattle.c_tree.specs.declared.program.Item.TheVariants as made
use Rattle.c_tree.specs.declared.program.Piece.{Piece as MadePiece}
use Rattle.c_tree.specs.declared.tree.Arm.{Arm}
use Rattle.c_tree.specs.declared.tree.ForHead.{ForHead}
use Rattle.c_tree.specs.declared.tree.Item.{fold-roll-Item}
use Rattle.c_tree.specs.declared.tree.Item.TheOpen.{If}
use Rattle.c_tree.specs.declared.tree.Item.TheVariants as item
use Rattle.c_tree.specs.declared.tree.Block.{Block, out-Block, fold_out-Block}
use Rattle.c_types.specs.Blocks.{ItemWalk, ArmWalk, BlockWalk, PieceWalk, item_walk, arm_walk, block_walk, piece_walk, at_nesting, for_behind, inner, looped, scoped, walked_arm, walked_block, walked_for, walked_gap, walked_head, walked_item, walked_piece, within}
use Rattle.c_types.specs.InTurn.{in_turn, each, optional}
use Rattle.c_types.specs.Scopes.{closed}
use Rattle.c_types.specs.declared.scope.Nesting.{Nesting}
use Rattle.c_types.specs.declared.scope.Walk.{Walk}

-- behind the pieces of a block
abbrev closed_by : Block → Walk × List MadePiece → Walk × MadeBlock
closed_by b ps =
    let o = out-Block b in
    let g = walked_gap o.last_gap ps.0 in
    (g.0, roll-Block (record { items = ps.1; last_gap = g.1; braced = o.braced; start = o.start; end = o.end }))

block_opens : (b : Block) (p : Nesting) (w : Walk) → walked_block b p w ≡ closed_by b (each (λ q. walked_piece q p) (out-Block b).items w)
block_opens b p w =
    ap (λ (f : BlockWalk). f p w) (fold_out-Block ItemWalk ArmWalk BlockWalk PieceWalk item_walk arm_walk block_walk piece_walk b)
    ∙ ap (λ fs. closed_by b (in_turn fs w)) (map-map (at_nesting p) walked_piece (out-Block b).items)

-- a block is its pieces in turn, and then its last gap
pub block_done : (b : Block) (p : Nesting) (w t u : Walk) (items : List MadePiece) (gap : MadeGap)
    → each (λ q. walked_piece q p) (out-Block b).items w ≡ (t, items) → (u, gap) ≡ walked_gap (out-Block b).last_gap t
    → (u, roll-Block (record { items = items; last_gap = gap; braced = (out-Block b).braced; start = (out-Block b).start; end = (out-Block b).end })) ≡ walked_block b p w
block_done b p w t u items gap pieces last =
    ap (λ (g : Walk × MadeGap). (g.0, roll-Block (record { items = items; last_gap = g.1; braced = (out-Block b).braced; start = (out-Block b).start; end = (out-Block b).end }))) last
    ∙ ap (closed_by b) (sym pieces)
    ∙ sym (block_opens b p w)

-- behind the arms of an `if`
abbrev with_last : Nesting → Option Block → Walk × List MadeArm → Walk × MadeItem
with_last p last arms =
    let b = optional (λ (b : Block). inner p (walked_block b)) last arms.0 in (b.0, made.If arms.1 b.1)

if_opens : (arms : List Arm) (last : Option Block) (at : ℕ) (p : Nesting) (w : Walk)
    → walked_item (item.If arms last) at p w ≡ with_last p last (each (λ a. walked_arm a p) arms w)
if_opens arms None at p w =
    ap (λ i. walked_item i at p w) (sym (item.rolls-If arms None))
    ∙ ap (λ (f : ItemWalk). f at p w) (fold-roll-Item ItemWalk ArmWalk BlockWalk PieceWalk item_walk arm_walk block_walk piece_walk (If arms None))
    ∙ ap (λ fs. with_last p None (in_turn fs w)) (map-map (at_nesting p) walked_arm arms)
if_opens arms (Some b) at p w =
    ap (λ i. walked_item i at p w) (sym (item.rolls-If arms (Some b)))
    ∙ ap (λ (f : ItemWalk). f at p w) (fold-roll-Item ItemWalk ArmWalk BlockWalk PieceWalk item_walk arm_walk block_walk piece_walk (If arms (Some b)))
    ∙ ap (λ fs. with_last p (Some b) (in_turn fs w)) (map-map (at_nesting p) walked_arm arms)

-- an `if` is its arms in turn, and then its last block
pub if_done : (arms : List Arm) (last : Option Block) (at : ℕ) (p : Nesting) (w t u : Walk) (done : List MadeArm) (last' : Option MadeBlock)
    → (t, done) ≡ each (λ a. walked_arm a p) arms w → (u, last') ≡ optional (λ (b : Block). inner p (walked_block b)) last t
    → (u, made.If done last') ≡ walked_item (item.If arms last) at p w
if_done arms last at p w t u done last' first second =
    ap (λ (b : Walk × Option MadeBlock). (b.0, made.If done b.1)) second
    ∙ ap (with_last p last) first
    ∙ sym (if_opens arms last at p w)

-- a part with a scope of its own
pub scoped_done : {A : Type 0} (f : Walk → Walk × A) (w t u : Walk) (a : A) (n : ℕ) → n ≡ length w.scope.names → (t, a) ≡ f w → u ≡ closed n t → (u, a) ≡ scoped f w
scoped_done f w t u a n names part end =
    ap (λ v. (v, a)) (end ∙ ap (λ m. closed m t) names) ∙ ap (λ r. (closed (length w.scope.names) r.0, r.1)) part

-- a `for` is its head, and then its body
pub for_done : (p q : Nesting) (h : ForHead) (body : BlockWalk) (w t u : Walk) (head : MadeHead) (b : MadeBlock)
    → q ≡ within p → (t, head) ≡ walked_head q h w → (u, b) ≡ looped q body t → (u, made.For head b) ≡ walked_for p h body w
for_done p q h body w t u head b inner before behind =
    ap (λ r. (r.0, made.For head r.1)) behind
    ∙ ap (for_behind q body) before
    ∙ ap (λ z. for_behind z body (walked_head z h w)) inner
