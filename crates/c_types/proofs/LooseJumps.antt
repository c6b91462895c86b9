-- In what is made of a text without faults `break` and `continue` stand in loops.
use Rattle.std.proofs.Common.{◌≡◌, ℕ, ◌+◌, Bool, true, false, ◌||◌, List, [], ◌∷◌, ◌++◌, length, map, Option, Some, None, option_map, refl, sym, ap, subst, ◌∙◌}
use Rattle.std.specs.List.{list_any}
use Rattle.c_tree.specs.Flow.{item_jumps, arm_jumps, block_jumps, piece_jumps, last_jumps, jumps_out}
use Rattle.c_tree.specs.declared.expr.Expr.{Expr as Made}
use Rattle.c_tree.specs.declared.program.Arm.{Arm as MadeArm, roll-Arm as roll-MadeArm, fold-Arm as fold-MadeArm, fold-roll-Arm as fold-roll-MadeArm}
use Rattle.c_tree.specs.declared.program.Block.{Block as MadeBlock, Block-F as MadeBlock-F, roll-Block as roll-MadeBlock, fold-roll-Block as fold-roll-MadeBlock}
use Rattle.c_tree.specs.declared.program.Declr.{Declr as MadeDeclr}
use Rattle.c_tree.specs.declared.program.Item.{Item as MadeItem, Item-F as MadeItem-F, roll-Item as roll-MadeItem, map-Item as map-MadeItem, fold-Item as fold-MadeItem, fold-roll-Item as fold-roll-MadeItem}
use Rattle.c_tree.specs.declared.program.Item.TheVariants as item
use Rattle.c_tree.specs.declared.program.Item.TheOpen as made
use Rattle.c_tree.specs.declared.program.Piece.{Piece as MadePiece, Piece-F as MadePiece-F, roll-Piece as roll-MadePiece, fold-Piece as fold-MadePiece, fold-roll-Piece as fold-roll-MadePiece}
use Rattle.c_tree.specs.declared.tree.Arm.{Arm, Arm-F, roll-Arm, fold-Arm, fold-roll-Arm, map-Arm, ind-Arm}
use Rattle.c_tree.specs.declared.tree.Block.{Block, Block-F, roll-Block, fold-roll-Block, map-Block, ind-Block}
use Rattle.c_tree.specs.declared.tree.Call.{Call}
use Rattle.c_tree.specs.declared.tree.Expr.{Expr}
use Rattle.c_tree.specs.declared.tree.Gap.{Gap}
use Rattle.c_tree.specs.declared.tree.Item.{Item, Item-F, roll-Item, fold-Item, fold-roll-Item, map-Item, ind-Item}
use Rattle.c_tree.specs.declared.tree.Item.TheOpen.{Declare, Assign, Do, Nest, If, While, For, Break, Continue, Return}
use Rattle.c_tree.specs.declared.tree.Piece.{Piece, Piece-F, roll-Piece, fold-Piece, fold-roll-Piece, map-Piece, ind-Piece}
use Rattle.c_tree.specs.declared.tree.Right.{Right}
use Rattle.c_types.specs.declared.faults.Rule.TheVariants as rule
use Rattle.c_types.specs.declared.judged.Called.{Called}
use Rattle.c_types.specs.declared.judged.Judged.{Judged}
use Rattle.c_types.specs.declared.judged.Judged.TheVariants.{Typed, Broken}
use Rattle.c_types.specs.declared.scope.Nesting.{Nesting}
use Rattle.c_types.specs.declared.scope.Returned.{Returned}
use Rattle.c_types.specs.declared.scope.Walk.{Walk}
use Rattle.c_types.specs.Blocks.{walked_gap, walked_test, within, in_loop, scoped, walked_head, ItemWalk, ArmWalk, BlockWalk, PieceWalk, inner, at_nesting, walked_if, jump, item_walk, arm_walk, block_walk, piece_walk, walked_block, walked_while, walked_for}
use Rattle.c_types.specs.Calls.{walked_call}
use Rattle.c_types.specs.Fits.{fault, unless}
use Rattle.c_types.specs.InTurn.{each, optional}
use Rattle.c_types.specs.Statements.{walked_simple, walked_declr, walked_right, returned_value, call_item, walked_return, walked_do}
use Rattle.c_types.proofs.Numbering.{Keeps, Gives, in_piece, in_arm, in_block, gap_gives, block_numbers, arm_numbers, piece_numbers}
use Rattle.c_types.proofs.NumberingCalls.{second_empty}
use Rattle.c_types.proofs.NumberingLeaves.{gap_numbers, gap_count, gaps_lawful}

abbrev loose_item : MadeItem → Bool
loose_item = fold-MadeItem Bool Bool Bool Bool item_jumps arm_jumps block_jumps piece_jumps

abbrev loose_arm : MadeArm → Bool
loose_arm = fold-MadeArm Bool Bool Bool Bool item_jumps arm_jumps block_jumps piece_jumps

abbrev loose_piece : MadePiece → Bool
loose_piece = fold-MadePiece Bool Bool Bool Bool item_jumps arm_jumps block_jumps piece_jumps

opened : (x : MadeItem-F MadeItem MadeArm MadeBlock MadePiece) (i : MadeItem) → roll-MadeItem x ≡ i → loose_item i ≡ item_jumps (map-MadeItem MadeItem MadeArm MadeBlock MadePiece Bool Bool Bool Bool loose_item loose_arm jumps_out loose_piece x)
opened x i is = ap loose_item (sym is) ∙ fold-roll-MadeItem Bool Bool Bool Bool item_jumps arm_jumps block_jumps piece_jumps x

-- the walks of parts

abbrev walk_of_item : Item → ItemWalk
walk_of_item = fold-Item ItemWalk ArmWalk BlockWalk PieceWalk item_walk arm_walk block_walk piece_walk

abbrev walk_of_arm : Arm → ArmWalk
walk_of_arm = fold-Arm ItemWalk ArmWalk BlockWalk PieceWalk item_walk arm_walk block_walk piece_walk

abbrev walk_of_piece : Piece → PieceWalk
walk_of_piece = fold-Piece ItemWalk ArmWalk BlockWalk PieceWalk item_walk arm_walk block_walk piece_walk

-- where no rule is broken behind a part, none was before it

abbrev Clean : Walk → Walk → Type 0
Clean w u = u.faults ≡ [] → w.faults ≡ []

block_clean : (b : Block) (p : Nesting) (w : Walk) → Clean w (walked_block b p w).0
block_clean b p w = (block_numbers gap_numbers gap_count gaps_lawful b p w).clean

arm_clean : (a : Arm) (p : Nesting) (w : Walk) → Clean w (walk_of_arm a p w).0
arm_clean a p w = (arm_numbers gap_numbers gap_count gaps_lawful a p w).clean

piece_clean : (q : Piece) (p : Nesting) (w : Walk) → Clean w (walk_of_piece q p w).0
piece_clean q p w = (piece_numbers gap_numbers gap_count gaps_lawful q p w).clean

parts_clean : {Q Y : Type 0} (walk : Q → Nesting → Walk → Walk × Y) → ((q : Q) (p : Nesting) (w : Walk) → Clean w (walk q p w).0) → (p : Nesting) (qs : List Q) (w : Walk) → Clean w (each (at_nesting p) (map walk qs) w).0
parts_clean walk one p [] w e = e
parts_clean walk one p (q ∷ qs) w e = one q p w (parts_clean walk one p qs (walk q p w).0 e)

-- a walk outside loops, behind which no rule is broken, leaves no loose jump

abbrev CalmBlock : BlockWalk → Type 0
CalmBlock f = (p : Nesting) (w : Walk) → p.in_loop ≡ false → (f p w).0.faults ≡ [] → jumps_out (f p w).1 ≡ false

abbrev CalmArm : ArmWalk → Type 0
CalmArm f = (p : Nesting) (w : Walk) → p.in_loop ≡ false → (f p w).0.faults ≡ [] → loose_arm (f p w).1 ≡ false

abbrev CalmPiece : PieceWalk → Type 0
CalmPiece f = (p : Nesting) (w : Walk) → p.in_loop ≡ false → (f p w).0.faults ≡ [] → loose_piece (f p w).1 ≡ false

abbrev CalmItem : ItemWalk → Type 0
CalmItem f = (at : ℕ) (p : Nesting) (w : Walk) → p.in_loop ≡ false → (f at p w).0.faults ≡ [] → loose_item (f at p w).1 ≡ false

abbrev Held : Type 0
Held = Item-F ((i : Item) × CalmItem (walk_of_item i)) ((a : Arm) × CalmArm (walk_of_arm a)) ((b : Block) × CalmBlock (walked_block b)) ((q : Piece) × CalmPiece (walk_of_piece q))

parts_calm : {Q Y : Type 0} (walk : Q → Nesting → Walk → Walk × Y) (loose : Y → Bool) → ((q : Q) (p : Nesting) (w : Walk) → Clean w (walk q p w).0) → (p : Nesting) → p.in_loop ≡ false
    → (qs : List ((q : Q) × ((p : Nesting) (w : Walk) → p.in_loop ≡ false → (walk q p w).0.faults ≡ [] → loose (walk q p w).1 ≡ false))) (w : Walk) → (each (at_nesting p) (map walk (map (λ e. e.0) qs)) w).0.faults ≡ []
    → list_any (λ b. b) (map loose (each (at_nesting p) (map walk (map (λ e. e.0) qs)) w).1) ≡ false
parts_calm walk loose clean p out [] w e = refl
parts_calm walk loose clean p out (q ∷ qs) w e =
    let r = walk q.0 p w in
    ap (λ (b : Bool). b || list_any (λ b. b) (map loose (each (at_nesting p) (map walk (map (λ e. e.0) qs)) r.0).1)) (q.1 p w out (parts_clean walk clean p (map (λ e. e.0) qs) r.0 e))
    ∙ parts_calm walk loose clean p out qs r.0 e

last_calm : (last : Option ((b : Block) × CalmBlock (walked_block b))) (p : Nesting) (w : Walk) → p.in_loop ≡ false → (optional (inner p) (option_map walked_block (option_map (λ e. e.0) last)) w).0.faults ≡ []
    → last_jumps (option_map jumps_out (optional (inner p) (option_map walked_block (option_map (λ e. e.0) last)) w).1) ≡ false
last_calm None p w out e = refl
last_calm (Some b) p w out e = b.1 (within p) w out e

last_clean : (last : Option ((b : Block) × CalmBlock (walked_block b))) (p : Nesting) (w : Walk) → Clean w (optional (inner p) (option_map walked_block (option_map (λ e. e.0) last)) w).0
last_clean None p w e = e
last_clean (Some b) p w e = block_clean b.0 (within p) w e

if_opened : (arms : List MadeArm) (last : Option MadeBlock) → loose_item (item.If arms last) ≡ (list_any (λ b. b) (map loose_arm arms) || last_jumps (option_map jumps_out last))
if_opened arms None = opened (made.If arms None) (item.If arms None) (item.rolls-If arms None)
if_opened arms (Some b) = opened (made.If arms (Some b)) (item.If arms (Some b)) (item.rolls-If arms (Some b))

if_calm : (arms : List ((a : Arm) × CalmArm (walk_of_arm a))) (last : Option ((b : Block) × CalmBlock (walked_block b))) (p : Nesting) (w : Walk) → p.in_loop ≡ false →
    let r = walked_if p (map walk_of_arm (map (λ e. e.0) arms)) (option_map walked_block (option_map (λ e. e.0) last)) w in
    r.0.faults ≡ [] → loose_item r.1 ≡ false
if_calm arms last p w out e =
    let a = each (at_nesting p) (map walk_of_arm (map (λ e. e.0) arms)) w in
    let b = optional (inner p) (option_map walked_block (option_map (λ e. e.0) last)) a.0 in
    if_opened a.1 b.1
    ∙ ap (λ (t : Bool). t || last_jumps (option_map jumps_out b.1)) (parts_calm walk_of_arm loose_arm arm_clean p out arms w (last_clean last p a.0 e))
    ∙ last_calm last p a.0 out e

-- a jump outside loops is a fault
jump_calm : (at : ℕ) (p : Nesting) (i : MadeItem) (w : Walk) → p.in_loop ≡ false → (jump at p i w).0.faults ≡ [] → ⊥
jump_calm at p i w out e =
    let none : unless p.in_loop rule.Jump at ≡ [] = second_empty w.faults (unless p.in_loop rule.Jump at) e in
    let one : fault rule.Jump at ∷ [] ≡ [] = sym (ap (λ (b : Bool). unless b rule.Jump at) out) ∙ none in
    cc

call_calm : (j : Judged Called) → loose_item (call_item j).made ≡ false
call_calm (Typed c) = opened (made.Do c.call) (item.Do c.call) (item.rolls-Do c.call)
call_calm (Broken fs) = opened (made.Declare []) (item.Declare []) (item.rolls-Declare [])

return_calm : (t : Returned) (at : ℕ) (o : Option Right) (w : Walk) → loose_item (walked_return t at o w).1 ≡ false
return_calm t at None w = opened (made.Return None at) (item.Return None at) (item.rolls-Return None at)
return_calm t at (Some r) w = let m = (returned_value t at (walked_right r w).1).made in opened (made.Return (Some m) at) (item.Return (Some m) at) (item.rolls-Return (Some m) at)

abbrev bare_item : Held → Item-F Item Arm Block Piece
bare_item = map-Item ((i : Item) × CalmItem (walk_of_item i)) ((a : Arm) × CalmArm (walk_of_arm a)) ((b : Block) × CalmBlock (walked_block b)) ((q : Piece) × CalmPiece (walk_of_piece q)) Item Arm Block Piece (λ e. e.0) (λ e. e.0) (λ e. e.0) (λ e. e.0)

abbrev walks_item : Item-F Item Arm Block Piece → Item-F ItemWalk ArmWalk BlockWalk PieceWalk
walks_item = map-Item Item Arm Block Piece ItemWalk ArmWalk BlockWalk PieceWalk walk_of_item walk_of_arm walked_block walk_of_piece

layer_calm : (y : Held) → CalmItem (item_walk (walks_item (bare_item y)))
layer_calm (Declare ds) at p w out e = let r = (each (walked_declr p) ds w).1 in opened (made.Declare r) (item.Declare r) (item.rolls-Declare r)
layer_calm (Assign s) at p w out e = let r = (walked_simple s w).1 in opened (made.Assign r) (item.Assign r) (item.rolls-Assign r)
layer_calm (Do c) at p w out e = call_calm (walked_call c w).1
layer_calm (Nest b) at p w out e = let r = (inner p (walked_block b.0) w).1 in opened (made.Nest r) (item.Nest r) (item.rolls-Nest r) ∙ b.1 (within p) w out e
layer_calm (If arms None) at p w out e = if_calm arms None p w out e
layer_calm (If arms (Some b)) at p w out e = if_calm arms (Some b) p w out e
layer_calm (While test body) at p w out e =
    let t = walked_test test w in
    let b = (scoped (walked_block body.0 (in_loop p)) t.0).1 in
    opened (made.While t.1 b) (item.While t.1 b) (item.rolls-While t.1 b)
layer_calm (For head body) at p w out e =
    let h = walked_head (within p) head w in
    let b = (scoped (walked_block body.0 (in_loop (within p))) h.0).1 in
    opened (made.For h.1 b) (item.For h.1 b) (item.rolls-For h.1 b)
layer_calm Break at p w out e = absurd (jump_calm at p item.Break w out e)
layer_calm Continue at p w out e = absurd (jump_calm at p item.Continue w out e)
layer_calm (Return r word) at p w out e = return_calm p.returns word r w

step_item : (x : Item-F Item Arm Block Piece) (y : Held) → bare_item y ≡ x → CalmItem (walk_of_item (roll-Item x))
step_item x y is =
    subst CalmItem (sym (fold-roll-Item ItemWalk ArmWalk BlockWalk PieceWalk item_walk arm_walk block_walk piece_walk x))
    (subst (λ (z : Item-F Item Arm Block Piece). CalmItem (item_walk (walks_item z))) is (layer_calm y))

made_arm : (test : Made) (b : MadeBlock) → loose_arm (roll-MadeArm (record { test = test; body = b })) ≡ jumps_out b
made_arm test b = fold-roll-MadeArm Bool Bool Bool Bool item_jumps arm_jumps block_jumps piece_jumps (record { test = test; body = b })

arm_calm : (test : Expr) (b : Block) → CalmBlock (walked_block b) → CalmArm (arm_walk (record { test = test; body = walked_block b }))
arm_calm test b h p w out e =
    let t = walked_test test w in
    let r = inner p (walked_block b) t.0 in
    made_arm t.1 r.1 ∙ h (within p) t.0 out e

step_arm : (x : Arm-F Item Arm Block Piece) (y : Arm-F ((i : Item) × CalmItem (walk_of_item i)) ((a : Arm) × CalmArm (walk_of_arm a)) ((b : Block) × CalmBlock (walked_block b)) ((q : Piece) × CalmPiece (walk_of_piece q)))
    → map-Arm ((i : Item) × CalmItem (walk_of_item i)) ((a : Arm) × CalmArm (walk_of_arm a)) ((b : Block) × CalmBlock (walked_block b)) ((q : Piece) × CalmPiece (walk_of_piece q)) Item Arm Block Piece (λ e. e.0) (λ e. e.0) (λ e. e.0) (λ e. e.0) y ≡ x → CalmArm (walk_of_arm (roll-Arm x))
step_arm x y is =
    let body : CalmBlock (walked_block x.body) = subst (λ (z : Arm-F Item Arm Block Piece). CalmBlock (walked_block z.body)) is y.body.1 in
    subst CalmArm (sym (fold-roll-Arm ItemWalk ArmWalk BlockWalk PieceWalk item_walk arm_walk block_walk piece_walk x)) (arm_calm x.test x.body body)

made_block : (z : MadeBlock-F MadeItem MadeArm MadeBlock MadePiece) → jumps_out (roll-MadeBlock z) ≡ list_any (λ b. b) (map loose_piece z.items)
made_block z = fold-roll-MadeBlock Bool Bool Bool Bool item_jumps arm_jumps block_jumps piece_jumps z

abbrev ItemsCalm : Gap → Bool → ℕ → ℕ → List Piece → Type 0
ItemsCalm gap braced from to qs = CalmBlock (block_walk (record { items = map walk_of_piece qs; last_gap = gap; braced = braced; start = from; end = to }))

block_calm : (qs : List ((q : Piece) × CalmPiece (walk_of_piece q))) (gap : Gap) (braced : Bool) (from to : ℕ) → ItemsCalm gap braced from to (map (λ e. e.0) qs)
block_calm qs gap braced from to p w out e =
    let ps = each (at_nesting p) (map walk_of_piece (map (λ e. e.0) qs)) w in
    let g = walked_gap gap ps.0 in
    let made : MadeBlock-F MadeItem MadeArm MadeBlock MadePiece = record { items = ps.1; last_gap = g.1; braced = braced; start = from; end = to } in
    made_block made ∙ parts_calm walk_of_piece loose_piece piece_clean p out qs w ((gap_gives gap_numbers gap_count gaps_lawful gap ps.0).clean e)

step_block : (x : Block-F Item Arm Block Piece) (y : Block-F ((i : Item) × CalmItem (walk_of_item i)) ((a : Arm) × CalmArm (walk_of_arm a)) ((b : Block) × CalmBlock (walked_block b)) ((q : Piece) × CalmPiece (walk_of_piece q)))
    → map-Block ((i : Item) × CalmItem (walk_of_item i)) ((a : Arm) × CalmArm (walk_of_arm a)) ((b : Block) × CalmBlock (walked_block b)) ((q : Piece) × CalmPiece (walk_of_piece q)) Item Arm Block Piece (λ e. e.0) (λ e. e.0) (λ e. e.0) (λ e. e.0) y ≡ x → CalmBlock (walked_block (roll-Block x))
step_block x y is =
    subst CalmBlock (sym (fold-roll-Block ItemWalk ArmWalk BlockWalk PieceWalk item_walk arm_walk block_walk piece_walk x))
    (subst (λ (z : Block-F Item Arm Block Piece). ItemsCalm z.last_gap z.braced z.start z.end z.items) is (block_calm y.items y.last_gap y.braced y.start y.end))

made_piece : (z : MadePiece-F MadeItem MadeArm MadeBlock MadePiece) → loose_piece (roll-MadePiece z) ≡ loose_item z.item
made_piece z = fold-roll-MadePiece Bool Bool Bool Bool item_jumps arm_jumps block_jumps piece_jumps z

piece_calm : (gap : Gap) (f : ItemWalk) (from to : ℕ) → CalmItem f → CalmPiece (piece_walk (record { gap = gap; item = f; start = from; end = to }))
piece_calm gap f from to h p w out e =
    let g = walked_gap gap w in
    let i = f from p g.0 in
    made_piece (record { gap = g.1; item = i.1; start = from; end = to }) ∙ h from p g.0 out e

step_piece : (x : Piece-F Item Arm Block Piece) (y : Piece-F ((i : Item) × CalmItem (walk_of_item i)) ((a : Arm) × CalmArm (walk_of_arm a)) ((b : Block) × CalmBlock (walked_block b)) ((q : Piece) × CalmPiece (walk_of_piece q)))
    → map-Piece ((i : Item) × CalmItem (walk_of_item i)) ((a : Arm) × CalmArm (walk_of_arm a)) ((b : Block) × CalmBlock (walked_block b)) ((q : Piece) × CalmPiece (walk_of_piece q)) Item Arm Block Piece (λ e. e.0) (λ e. e.0) (λ e. e.0) (λ e. e.0) y ≡ x → CalmPiece (walk_of_piece (roll-Piece x))
step_piece x y is =
    let held : CalmItem (walk_of_item x.item) = subst (λ (z : Piece-F Item Arm Block Piece). CalmItem (walk_of_item z.item)) is y.item.1 in
    subst CalmPiece (sym (fold-roll-Piece ItemWalk ArmWalk BlockWalk PieceWalk item_walk arm_walk block_walk piece_walk x)) (piece_calm x.gap (walk_of_item x.item) x.start x.end held)

-- no `break` or `continue` leaves a block that is walked outside loops
pub no_loose_jump : (b : Block) (p : Nesting) (w : Walk) → p.in_loop ≡ false → (walked_block b p w).0.faults ≡ [] → jumps_out (walked_block b p w).1 ≡ false
no_loose_jump = ind-Block (λ i. CalmItem (walk_of_item i)) (λ a. CalmArm (walk_of_arm a)) (λ b. CalmBlock (walked_block b)) (λ q. CalmPiece (walk_of_piece q)) step_item step_arm step_block step_piece
