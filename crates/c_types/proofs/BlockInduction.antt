-- What a walk makes of a block, by induction over the block: relations between the walk before a part, the walk behind it, and
-- what a fold makes of the part. Said once for all folds and relations; what the constructors owe is a record.
use Rattle.std.proofs.Common.{◌≡◌, ℕ, Bool, List, [], ◌∷◌, length, map, Option, Some, None, sym, ap, subst, ◌∙◌}
use Rattle.c_tree.specs.declared.expr.Expr.{Expr as Made}
use Rattle.c_tree.specs.declared.program.Arm.{Arm as MadeArm, Arm-F as MadeArm-F, roll-Arm as roll-MadeArm, fold-Arm as fold-MadeArm, fold-roll-Arm as fold-roll-MadeArm}
use Rattle.c_tree.specs.declared.program.Block.{Block as MadeBlock, Block-F as MadeBlock-F, roll-Block as roll-MadeBlock, fold-Block as fold-MadeBlock, fold-roll-Block as fold-roll-MadeBlock}
use Rattle.c_tree.specs.declared.program.Item.{Item as MadeItem, Item-F as MadeItem-F, roll-Item as roll-MadeItem, map-Item as map-MadeItem, fold-Item as fold-MadeItem, fold-roll-Item as fold-roll-MadeItem}
use Rattle.c_tree.specs.declared.program.Item.TheVariants as item
use Rattle.c_tree.specs.declared.program.Item.TheOpen as made
use Rattle.c_tree.specs.declared.program.Piece.{Piece as MadePiece, Piece-F as MadePiece-F, roll-Piece as roll-MadePiece, fold-Piece as fold-MadePiece, fold-roll-Piece as fold-roll-MadePiece}
use Rattle.c_tree.specs.declared.tree.Arm.{Arm, Arm-F, roll-Arm, fold-roll-Arm, map-Arm}
use Rattle.c_tree.specs.declared.tree.Block.{Block, Block-F, roll-Block, fold-roll-Block, map-Block, ind-Block}
use Rattle.c_tree.specs.declared.tree.Call.{Call}
use Rattle.c_tree.specs.declared.tree.Declr.{Declr}
use Rattle.c_tree.specs.declared.tree.Expr.{Expr}
use Rattle.c_tree.specs.declared.tree.ForHead.{ForHead}
use Rattle.c_tree.specs.declared.tree.Gap.{Gap}
use Rattle.c_tree.specs.declared.tree.Item.{Item, Item-F, roll-Item, fold-roll-Item, map-Item}
use Rattle.c_tree.specs.declared.tree.Item.TheOpen.{Declare, Assign, Do, Nest, If, While, For, Break, Continue, Return}
use Rattle.c_tree.specs.declared.tree.Piece.{Piece, Piece-F, roll-Piece, fold-roll-Piece, map-Piece}
use Rattle.c_tree.specs.declared.tree.Right.{Right}
use Rattle.c_tree.specs.declared.tree.Simple.{Simple}
use Rattle.c_types.specs.declared.faults.Rule.TheVariants as rule
use Rattle.c_types.specs.declared.scope.Nesting.{Nesting}
use Rattle.c_types.specs.declared.scope.Walk.{Walk}
use Rattle.c_types.specs.Blocks.{walked_gap, walked_test, within, in_loop, ItemWalk, ArmWalk, BlockWalk, PieceWalk, walked_head, at_nesting, item_walk, arm_walk, block_walk, piece_walk, walked_block, walked_piece, walked_item, walked_arm}
use Rattle.c_types.specs.Fits.{unless}
use Rattle.c_types.specs.InTurn.{each}
use Rattle.c_types.specs.Scopes.{closed, noted}
use Rattle.c_types.specs.Statements.{walked_simple, walked_declr, walked_return, walked_do}

-- parts one after another
pub data Chain {X : Type 0} (R : Walk → Walk → X → Type 0) : Walk → Walk → List X → Type 0 where
  done : (w : Walk) → Chain R w w []
  next : (w u v : Walk) (x : X) (xs : List X) → R w u x → Chain R u v xs → Chain R w v (x ∷ xs)

-- a fold over what is made, with a relation for each kind of part: by the nesting, the walks before and behind the part, and
-- what the fold makes of it
pub record Reading (X : Type 0) : Type 1 where
  pub item : MadeItem-F X X X X → X
  pub arm : MadeArm-F X X X X → X
  pub block : MadeBlock-F X X X X → X
  pub piece : MadePiece-F X X X X → X
  pub OfItem : Nesting → Walk → Walk → X → Type 0
  pub OfArm : Nesting → Walk → Walk → X → Type 0
  pub OfBlock : Nesting → Walk → Walk → X → Type 0
  pub OfPiece : Nesting → Walk → Walk → X → Type 0

module _ {X : Type 0} (d : Reading X) where
  abbrev pub of_item : MadeItem → X
  of_item = fold-MadeItem X X X X d.item d.arm d.block d.piece

  abbrev pub of_arm : MadeArm → X
  of_arm = fold-MadeArm X X X X d.item d.arm d.block d.piece

  abbrev pub of_block : MadeBlock → X
  of_block = fold-MadeBlock X X X X d.item d.arm d.block d.piece

  abbrev pub of_piece : MadePiece → X
  of_piece = fold-MadePiece X X X X d.item d.arm d.block d.piece

  -- an item, one level opened
  pub opened : (x : MadeItem-F MadeItem MadeArm MadeBlock MadePiece) (i : MadeItem) → roll-MadeItem x ≡ i
      → of_item i ≡ d.item (map-MadeItem MadeItem MadeArm MadeBlock MadePiece X X X X of_item of_arm of_block of_piece x)
  opened x i is = ap of_item (sym is) ∙ fold-roll-MadeItem X X X X d.item d.arm d.block d.piece x

  -- what the constructors owe
  pub record Law : Type 0 where
    pub declares : (p : Nesting) (ds : List Declr) (w : Walk) → let r = each (walked_declr p) ds w in d.OfItem p w r.0 (d.item (made.Declare r.1))
    pub assigns : (p : Nesting) (s : Simple) (w : Walk) → let r = walked_simple s w in d.OfItem p w r.0 (d.item (made.Assign r.1))
    pub calls : (p : Nesting) (c : Call) (w : Walk) → let r = walked_do c w in d.OfItem p w r.0 (of_item r.1)
    pub nests : (p : Nesting) (w u : Walk) (x : X) → d.OfBlock (within p) w u x → d.OfItem p w (closed (length w.scope.names) u) (d.item (made.Nest x))
    pub chooses : (p : Nesting) (w u : Walk) (xs : List X) → Chain (d.OfArm p) w u xs → d.OfItem p w u (d.item (made.If xs None))
    pub chooses_last : (p : Nesting) (w u v : Walk) (xs : List X) (x : X) → Chain (d.OfArm p) w u xs → d.OfBlock (within p) u v x → d.OfItem p w (closed (length u.scope.names) v) (d.item (made.If xs (Some x)))
    pub loops : (p : Nesting) (e : Expr) (w u : Walk) (x : X) → let t = walked_test e w in d.OfBlock (in_loop p) t.0 u x → d.OfItem p w (closed (length w.scope.names) u) (d.item (made.While t.1 x))
    pub loops_for : (p : Nesting) (h : ForHead) (w u : Walk) (x : X) → let s = walked_head (within p) h w in
        d.OfBlock (in_loop (within p)) s.0 u x → d.OfItem p w (closed (length w.scope.names) (closed (length s.0.scope.names) u)) (d.item (made.For s.1 x))
    pub breaks : (p : Nesting) (at : ℕ) (w : Walk) → d.OfItem p w (noted (unless p.in_loop rule.Jump at) w) (d.item made.Break)
    pub continues : (p : Nesting) (at : ℕ) (w : Walk) → d.OfItem p w (noted (unless p.in_loop rule.Jump at) w) (d.item made.Continue)
    pub returns : (p : Nesting) (at : ℕ) (o : Option Right) (w : Walk) → let r = walked_return p.returns at o w in d.OfItem p w r.0 (of_item r.1)
    pub arms : (p : Nesting) (e : Expr) (w u : Walk) (x : X) → let t = walked_test e w in d.OfBlock (within p) t.0 u x → d.OfArm p w (closed (length w.scope.names) u) (d.arm (record { test = t.1; body = x }))
    pub blocks : (p : Nesting) (g : Gap) (braced : Bool) (from to : ℕ) (w u : Walk) (xs : List X) → Chain (d.OfPiece p) w u xs → let l = walked_gap g u in
        d.OfBlock p w l.0 (d.block (record { items = xs; last_gap = l.1; braced = braced; start = from; end = to }))
    pub pieces : (p : Nesting) (g : Gap) (from to : ℕ) (w u : Walk) (x : X) → let l = walked_gap g w in
        d.OfItem p l.0 u x → d.OfPiece p w u (d.piece (record { gap = l.1; item = x; start = from; end = to }))

module _ {X : Type 0} (d : Reading X) (law : Law d) where
  abbrev ItemHolds : Item → Type 0
  ItemHolds i = (at : ℕ) (p : Nesting) (w : Walk) → let r = walked_item i at p w in d.OfItem p w r.0 (of_item d r.1)

  abbrev ArmHolds : Arm → Type 0
  ArmHolds a = (p : Nesting) (w : Walk) → let r = walked_arm a p w in d.OfArm p w r.0 (of_arm d r.1)

  abbrev BlockHolds : Block → Type 0
  BlockHolds b = (p : Nesting) (w : Walk) → let r = walked_block b p w in d.OfBlock p w r.0 (of_block d r.1)

  abbrev PieceHolds : Piece → Type 0
  PieceHolds q = (p : Nesting) (w : Walk) → let r = walked_piece q p w in d.OfPiece p w r.0 (of_piece d r.1)

  chained : {Q Y : Type 0} (walk : Q → Nesting → Walk → Walk × Y) (of : Y → X) (R : Nesting → Walk → Walk → X → Type 0) (p : Nesting)
      (qs : List ((q : Q) × ((p : Nesting) (w : Walk) → R p w (walk q p w).0 (of (walk q p w).1)))) (w : Walk)
      → let r = each (at_nesting p) (map walk (map (λ e. e.0) qs)) w in Chain (R p) w r.0 (map of r.1)
  chained walk of R p [] w = done w
  chained walk of R p (q ∷ qs) w =
      let r = walk q.0 p w in
      let s = each (at_nesting p) (map walk (map (λ e. e.0) qs)) r.0 in
      next w r.0 s.0 (of r.1) (map of s.1) (q.1 p w) (chained walk of R p qs r.0)

  abbrev Held : Type 0
  Held = Item-F ((i : Item) × ItemHolds i) ((a : Arm) × ArmHolds a) ((b : Block) × BlockHolds b) ((q : Piece) × PieceHolds q)

  abbrev bare_item : Held → Item-F Item Arm Block Piece
  bare_item = map-Item ((i : Item) × ItemHolds i) ((a : Arm) × ArmHolds a) ((b : Block) × BlockHolds b) ((q : Piece) × PieceHolds q) Item Arm Block Piece (λ e. e.0) (λ e. e.0) (λ e. e.0) (λ e. e.0)

  abbrev walks_item : Item-F Item Arm Block Piece → Item-F ItemWalk ArmWalk BlockWalk PieceWalk
  walks_item = map-Item Item Arm Block Piece ItemWalk ArmWalk BlockWalk PieceWalk walked_item walked_arm walked_block walked_piece

  abbrev ItemWalkHolds : ItemWalk → Type 0
  ItemWalkHolds f = (at : ℕ) (p : Nesting) (w : Walk) → d.OfItem p w (f at p w).0 (of_item d (f at p w).1)

  layer_holds : (y : Held) → ItemWalkHolds (item_walk (walks_item (bare_item y)))
  layer_holds (Declare ds) at p w =
      let r = each (walked_declr p) ds w in
      subst (d.OfItem p w r.0) (sym (opened d (made.Declare r.1) (item.Declare r.1) (item.rolls-Declare r.1))) (law.declares p ds w)
  layer_holds (Assign s) at p w =
      let r = walked_simple s w in
      subst (d.OfItem p w r.0) (sym (opened d (made.Assign r.1) (item.Assign r.1) (item.rolls-Assign r.1))) (law.assigns p s w)
  layer_holds (Do c) at p w = law.calls p c w
  layer_holds (Nest b) at p w =
      let r = walked_block b.0 (within p) w in
      subst (d.OfItem p w (closed (length w.scope.names) r.0)) (sym (opened d (made.Nest r.1) (item.Nest r.1) (item.rolls-Nest r.1)))
      (law.nests p w r.0 (of_block d r.1) (b.1 (within p) w))
  layer_holds (If arms None) at p w =
      let a = each (at_nesting p) (map walked_arm (map (λ e. e.0) arms)) w in
      subst (d.OfItem p w a.0) (sym (opened d (made.If a.1 None) (item.If a.1 None) (item.rolls-If a.1 None)))
      (law.chooses p w a.0 (map (of_arm d) a.1) (chained walked_arm (of_arm d) d.OfArm p arms w))
  layer_holds (If arms (Some b)) at p w =
      let a = each (at_nesting p) (map walked_arm (map (λ e. e.0) arms)) w in
      let r = walked_block b.0 (within p) a.0 in
      subst (d.OfItem p w (closed (length a.0.scope.names) r.0)) (sym (opened d (made.If a.1 (Some r.1)) (item.If a.1 (Some r.1)) (item.rolls-If a.1 (Some r.1))))
      (law.chooses_last p w a.0 r.0 (map (of_arm d) a.1) (of_block d r.1) (chained walked_arm (of_arm d) d.OfArm p arms w) (b.1 (within p) a.0))
  layer_holds (While test b) at p w =
      let t = walked_test test w in
      let r = walked_block b.0 (in_loop p) t.0 in
      subst (d.OfItem p w (closed (length w.scope.names) r.0)) (sym (opened d (made.While t.1 r.1) (item.While t.1 r.1) (item.rolls-While t.1 r.1)))
      (law.loops p test w r.0 (of_block d r.1) (b.1 (in_loop p) t.0))
  layer_holds (For head b) at p w =
      let s = walked_head (within p) head w in
      let r = walked_block b.0 (in_loop (within p)) s.0 in
      subst (d.OfItem p w (closed (length w.scope.names) (closed (length s.0.scope.names) r.0))) (sym (opened d (made.For s.1 r.1) (item.For s.1 r.1) (item.rolls-For s.1 r.1)))
      (law.loops_for p head w r.0 (of_block d r.1) (b.1 (in_loop (within p)) s.0))
  layer_holds Break at p w = subst (d.OfItem p w (noted (unless p.in_loop rule.Jump at) w)) (sym (opened d made.Break item.Break item.rolls-Break)) (law.breaks p at w)
  layer_holds Continue at p w = subst (d.OfItem p w (noted (unless p.in_loop rule.Jump at) w)) (sym (opened d made.Continue item.Continue item.rolls-Continue)) (law.continues p at w)
  layer_holds (Return r word) at p w = law.returns p word r w

  step_item : (x : Item-F Item Arm Block Piece) (y : Held) → bare_item y ≡ x → ItemHolds (roll-Item x)
  step_item x y is =
      subst ItemWalkHolds (sym (fold-roll-Item ItemWalk ArmWalk BlockWalk PieceWalk item_walk arm_walk block_walk piece_walk x))
      (subst (λ (z : Item-F Item Arm Block Piece). ItemWalkHolds (item_walk (walks_item z))) is (layer_holds y))

  -- arms

  made_arm : (test : Made) (b : MadeBlock) → of_arm d (roll-MadeArm (record { test = test; body = b })) ≡ d.arm (record { test = test; body = of_block d b })
  made_arm test b = fold-roll-MadeArm X X X X d.item d.arm d.block d.piece (record { test = test; body = b })

  abbrev ArmWalkHolds : ArmWalk → Type 0
  ArmWalkHolds f = (p : Nesting) (w : Walk) → d.OfArm p w (f p w).0 (of_arm d (f p w).1)

  arm_holds : (test : Expr) (b : Block) → BlockHolds b → ArmWalkHolds (arm_walk (record { test = test; body = walked_block b }))
  arm_holds test b h p w =
      let t = walked_test test w in
      let r = walked_block b (within p) t.0 in
      subst (d.OfArm p w (closed (length w.scope.names) r.0)) (sym (made_arm t.1 r.1)) (law.arms p test w r.0 (of_block d r.1) (h (within p) t.0))

  step_arm : (x : Arm-F Item Arm Block Piece) (y : Arm-F ((i : Item) × ItemHolds i) ((a : Arm) × ArmHolds a) ((b : Block) × BlockHolds b) ((q : Piece) × PieceHolds q))
      → map-Arm ((i : Item) × ItemHolds i) ((a : Arm) × ArmHolds a) ((b : Block) × BlockHolds b) ((q : Piece) × PieceHolds q) Item Arm Block Piece (λ e. e.0) (λ e. e.0) (λ e. e.0) (λ e. e.0) y ≡ x → ArmHolds (roll-Arm x)
  step_arm x y is =
      let body : BlockHolds x.body = subst (λ (z : Arm-F Item Arm Block Piece). BlockHolds z.body) is y.body.1 in
      subst ArmWalkHolds (sym (fold-roll-Arm ItemWalk ArmWalk BlockWalk PieceWalk item_walk arm_walk block_walk piece_walk x)) (arm_holds x.test x.body body)

  -- blocks

  made_block : (z : MadeBlock-F MadeItem MadeArm MadeBlock MadePiece)
      → of_block d (roll-MadeBlock z) ≡ d.block (record { items = map (of_piece d) z.items; last_gap = z.last_gap; braced = z.braced; start = z.start; end = z.end })
  made_block z = fold-roll-MadeBlock X X X X d.item d.arm d.block d.piece z

  abbrev BlockWalkHolds : BlockWalk → Type 0
  BlockWalkHolds f = (p : Nesting) (w : Walk) → d.OfBlock p w (f p w).0 (of_block d (f p w).1)

  abbrev ItemsHold : Gap → Bool → ℕ → ℕ → List Piece → Type 0
  ItemsHold gap braced from to qs = BlockWalkHolds (block_walk (record { items = map walked_piece qs; last_gap = gap; braced = braced; start = from; end = to }))

  block_holds : (qs : List ((q : Piece) × PieceHolds q)) (gap : Gap) (braced : Bool) (from to : ℕ) → ItemsHold gap braced from to (map (λ e. e.0) qs)
  block_holds qs gap braced from to p w =
      let ps = each (at_nesting p) (map walked_piece (map (λ e. e.0) qs)) w in
      let g = walked_gap gap ps.0 in
      let made : MadeBlock-F MadeItem MadeArm MadeBlock MadePiece = record { items = ps.1; last_gap = g.1; braced = braced; start = from; end = to } in
      subst (d.OfBlock p w g.0) (sym (made_block made))
      (law.blocks p gap braced from to w ps.0 (map (of_piece d) ps.1) (chained walked_piece (of_piece d) d.OfPiece p qs w))

  step_block : (x : Block-F Item Arm Block Piece) (y : Block-F ((i : Item) × ItemHolds i) ((a : Arm) × ArmHolds a) ((b : Block) × BlockHolds b) ((q : Piece) × PieceHolds q))
      → map-Block ((i : Item) × ItemHolds i) ((a : Arm) × ArmHolds a) ((b : Block) × BlockHolds b) ((q : Piece) × PieceHolds q) Item Arm Block Piece (λ e. e.0) (λ e. e.0) (λ e. e.0) (λ e. e.0) y ≡ x → BlockHolds (roll-Block x)
  step_block x y is =
      subst BlockWalkHolds (sym (fold-roll-Block ItemWalk ArmWalk BlockWalk PieceWalk item_walk arm_walk block_walk piece_walk x))
      (subst (λ (z : Block-F Item Arm Block Piece). ItemsHold z.last_gap z.braced z.start z.end z.items) is (block_holds y.items y.last_gap y.braced y.start y.end))

  -- pieces

  made_piece : (z : MadePiece-F MadeItem MadeArm MadeBlock MadePiece) → of_piece d (roll-MadePiece z) ≡ d.piece (record { gap = z.gap; item = of_item d z.item; start = z.start; end = z.end })
  made_piece z = fold-roll-MadePiece X X X X d.item d.arm d.block d.piece z

  abbrev PieceWalkHolds : PieceWalk → Type 0
  PieceWalkHolds f = (p : Nesting) (w : Walk) → d.OfPiece p w (f p w).0 (of_piece d (f p w).1)

  piece_holds : (gap : Gap) (i : Item) (from to : ℕ) → ItemHolds i → PieceWalkHolds (piece_walk (record { gap = gap; item = walked_item i; start = from; end = to }))
  piece_holds gap i from to h p w =
      let g = walked_gap gap w in
      let r = walked_item i from p g.0 in
      subst (d.OfPiece p w r.0) (sym (made_piece (record { gap = g.1; item = r.1; start = from; end = to }))) (law.pieces p gap from to w r.0 (of_item d r.1) (h from p g.0))

  step_piece : (x : Piece-F Item Arm Block Piece) (y : Piece-F ((i : Item) × ItemHolds i) ((a : Arm) × ArmHolds a) ((b : Block) × BlockHolds b) ((q : Piece) × PieceHolds q))
      → map-Piece ((i : Item) × ItemHolds i) ((a : Arm) × ArmHolds a) ((b : Block) × BlockHolds b) ((q : Piece) × PieceHolds q) Item Arm Block Piece (λ e. e.0) (λ e. e.0) (λ e. e.0) (λ e. e.0) y ≡ x → PieceHolds (roll-Piece x)
  step_piece x y is =
      let held : ItemHolds x.item = subst (λ (z : Piece-F Item Arm Block Piece). ItemHolds z.item) is y.item.1 in
      subst PieceWalkHolds (sym (fold-roll-Piece ItemWalk ArmWalk BlockWalk PieceWalk item_walk arm_walk block_walk piece_walk x)) (piece_holds x.gap x.item x.start x.end held)

  -- what the constructors owe holds of every block that is walked
  pub blocks_hold : (b : Block) (p : Nesting) (w : Walk) → let r = walked_block b p w in d.OfBlock p w r.0 (of_block d r.1)
  blocks_hold = ind-Block ItemHolds ArmHolds BlockHolds PieceHolds step_item step_arm step_block step_piece
