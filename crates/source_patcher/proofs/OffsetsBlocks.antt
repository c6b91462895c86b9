-- Blocks behind a walk without offsets.
use Rattle.std.proofs.Common.{◌≡◌, ℕ, false, List, [], ◌∷◌, length, map, Option, Some, None, option_map, refl, sym, ap, subst, ◌∙◌}
use Rattle.c_tree.specs.Alike.{bare_call, bare_declr, bare_expr, bare_gap, bare_head, bare_item, bare_right, bare_simple}
use Rattle.c_tree.specs.declared.program.Arm.{Arm as MadeArm, roll-Arm as roll-MadeArm}
use Rattle.c_tree.specs.declared.program.Block.{Block as MadeBlock, roll-Block as roll-MadeBlock}
use Rattle.c_tree.specs.declared.program.Item.{Item as MadeItem, Item-F as MadeItem-F, roll-Item as roll-MadeItem}
use Rattle.c_tree.specs.declared.program.Item.TheOpen as layer
use Rattle.c_tree.specs.declared.program.Item.TheVariants as made
use Rattle.c_tree.specs.declared.program.Piece.{Piece as MadePiece, roll-Piece as roll-MadePiece}
use Rattle.c_tree.specs.declared.program.Right.{Right as MadeRight}
use Rattle.c_tree.specs.declared.program.Right.TheVariants as made_right
use Rattle.c_tree.specs.declared.tree.Arm.{Arm, Arm-F, roll-Arm, fold-roll-Arm, map-Arm}
use Rattle.c_tree.specs.declared.tree.Block.{Block, Block-F, roll-Block, fold-roll-Block, map-Block, ind-Block}
use Rattle.c_tree.specs.declared.tree.Call.{Call}
use Rattle.c_tree.specs.declared.tree.Item.{Item, Item-F, roll-Item, fold-roll-Item, map-Item}
use Rattle.c_tree.specs.declared.tree.Item.TheOpen.{Declare, Assign, Do, Nest, If, While, For, Break, Continue, Return}
use Rattle.c_tree.specs.declared.tree.Piece.{Piece, Piece-F, roll-Piece, fold-roll-Piece, map-Piece}
use Rattle.c_tree.specs.declared.tree.Right.{Right}
use Rattle.c_tree.proofs.Rebuilds.{Maps, Rebuilds, in_item, rebuilt, rebuilt_rebuilds}
use Rattle.c_parser.specs.Alike.{moved_block, moved_call, moved_declr, moved_expr, moved_for_head, moved_gap, moved_item, moved_right}
use Rattle.c_parser.proofs.OpenedBlocks.{arm_moved, item_moved, piece_moved}
use Rattle.c_parser.proofs.PrintedStatements.{none_at}
use Rattle.c_parser.proofs.RetoldFile.{as_braced}
use Rattle.c_types.specs.declared.faults.Rule.TheVariants as rule
use Rattle.c_types.specs.declared.judged.Called.{Called}
use Rattle.c_types.specs.declared.judged.Judged.{Judged}
use Rattle.c_types.specs.declared.judged.Judged.TheVariants.{Typed, Broken}
use Rattle.c_types.specs.declared.judged.RightValue.{RightValue}
use Rattle.c_types.specs.declared.scope.Nesting.{Nesting}
use Rattle.c_types.specs.declared.scope.Returned.{Returned}
use Rattle.c_types.specs.declared.scope.Returned.TheVariants as returned
use Rattle.c_types.specs.declared.scope.Walk.{Walk}
use Rattle.c_types.specs.Blocks.{ArmWalk, BlockWalk, ItemWalk, PieceWalk, arm_walk, assigns, at_nesting, block_walk, declares, for_behind, in_loop, inner, item_walk, jump, looped, nests, piece_walk, scoped, walked_arm, walked_block, walked_for, walked_gap, walked_head, walked_item, walked_piece, walked_test, within}
use Rattle.c_types.specs.Calls.{walked_call}
use Rattle.c_types.specs.Fits.{misfits, right_for, unless}
use Rattle.c_types.specs.InTurn.{each}
use Rattle.c_types.specs.Judged.{checked}
use Rattle.c_types.specs.Scopes.{closed, noted}
use Rattle.c_types.specs.Statements.{bare_return, call_item, noting, returned_value, walked_declr, walked_do, walked_return, walked_right, walked_simple}
use Rattle.source_patcher.proofs.Offsets.{bare_checked, bare_fault, bare_judged, bare_null, unless_bare}
use Rattle.source_patcher.proofs.OffsetsCalls.{bare_called, call_bare}
use Rattle.source_patcher.proofs.OffsetsScopes.{IsBare, bare_nesting, bare_pair, bare_returned, bare_walk, closed_bare, each_bare, names_long, noted_as, placeless_layers}
use Rattle.source_patcher.proofs.OffsetsStatements.{bare_right_value, declr_bare, gap_bare, head_bare, misfits_bare, noting_bare, right_bare, right_for_bare, right_of_bare, simple_bare, test_bare}

-- made blocks and their parts, without offsets

abbrev pub unplaced : Maps
unplaced = rebuilt placeless_layers

opens : Rebuilds unplaced placeless_layers
opens = rebuilt_rebuilds placeless_layers

-- an item by its layer
item_is : (x : MadeItem-F MadeItem MadeArm MadeBlock MadePiece) (i j : MadeItem) → roll-MadeItem x ≡ i → roll-MadeItem (bare_item (in_item unplaced x)) ≡ j → j ≡ unplaced.item i
item_is x i j p q = sym q ∙ sym (opens.item x) ∙ ap unplaced.item p

scoped_bare : {A : Type 0} (g : A → A) (new old : Walk → Walk × A) → IsBare g new old → IsBare g (scoped new) (scoped old)
scoped_bare g new old one w =
    let r = old w in
    ap (λ q. (closed (length (bare_walk w).scope.names) q.0, q.1)) (one w)
    ∙ ap (λ n. (closed n (bare_walk r.0), g r.1)) (names_long w)
    ∙ ap (λ v. (v, g r.1)) (closed_bare (length w.scope.names) r.0)

-- parts without blocks

do_case : (j : Judged Called) → call_item (bare_judged bare_called j) ≡ bare_checked unplaced.item (call_item j)
do_case (Typed c) = ap (λ i. checked i []) (item_is (layer.Do c.call) (made.Do c.call) (made.Do (bare_call c.call)) (made.rolls-Do c.call) (made.rolls-Do (bare_call c.call)))
do_case (Broken fs) = ap (λ i. checked i (map bare_fault fs)) (item_is (layer.Declare []) (made.Declare []) (made.Declare []) (made.rolls-Declare []) (made.rolls-Declare []))

do_bare : (c : Call) → IsBare unplaced.item (walked_do (moved_call none_at c)) (walked_do c)
do_bare c w =
    let r = walked_call c w in
    ap (λ q. noting q.0 (call_item q.1)) (call_bare c w) ∙ noting_bare unplaced.item r.0 (call_item r.1) (call_item (bare_judged bare_called r.1)) (do_case r.1)

returned_case : (t : Returned) (at : ℕ) (j : Judged RightValue) → returned_value (bare_returned t) 0 (bare_judged bare_right_value j) ≡ bare_checked bare_right (returned_value t at j)
returned_case returned.Nothing at (Broken fs) = ap (λ e. checked (made_right.Plain e) (map bare_fault fs)) (bare_null 0)
returned_case (returned.Value t) at (Broken fs) = ap (λ e. checked (made_right.Plain e) (map bare_fault fs)) (bare_null 0)
returned_case (returned.Bad f) at (Broken fs) = ap (λ e. checked (made_right.Plain e) (map bare_fault fs)) (bare_null 0)
returned_case returned.Nothing at (Typed r) = ap (λ x. checked x (unless false rule.VoidValue 0)) (right_of_bare r)
returned_case (returned.Value t) at (Typed r) = ap (λ x. checked x (misfits t 0 (bare_right_value r))) (right_for_bare t r) ∙ ap (checked (bare_right (right_for t r))) (misfits_bare t at r)
returned_case (returned.Bad f) at (Typed r) = ap (λ x. checked x []) (right_of_bare r)

bare_case : (t : Returned) (at : ℕ) → bare_return (bare_returned t) 0 ≡ map bare_fault (bare_return t at)
bare_case returned.Nothing at = refl
bare_case (returned.Value t) at = refl
bare_case (returned.Bad f) at = refl

return_is : (r : Option MadeRight) (at : ℕ) → made.Return (option_map bare_right r) 0 ≡ unplaced.item (made.Return r at)
return_is r at = item_is (layer.Return r at) (made.Return r at) (made.Return (option_map bare_right r) 0) (made.rolls-Return r at) (made.rolls-Return (option_map bare_right r) 0)

return_bare : (t : Returned) (at : ℕ) (o : Option Right) → IsBare unplaced.item (walked_return (bare_returned t) 0 (option_map (moved_right none_at) o)) (walked_return t at o)
return_bare t at None w =
    ap (λ v. (v, made.Return None 0)) (noted_as (bare_return (bare_returned t) 0) (bare_return t at) w (bare_case t at)) ∙ ap (λ i. (bare_walk (noted (bare_return t at) w), i)) (return_is None at)
return_bare t at (Some r) w =
    let v = walked_right r w in
    let c = noting v.0 (returned_value t at v.1) in
    ap (λ q. let d = noting q.0 (returned_value (bare_returned t) 0 q.1) in (d.0, made.Return (Some d.1) 0)) (right_bare r w)
    ∙ ap (λ d. (d.0, made.Return (Some d.1) 0)) (noting_bare bare_right v.0 (returned_value t at v.1) (returned_value (bare_returned t) 0 (bare_judged bare_right_value v.1)) (returned_case t at v.1))
    ∙ ap (λ i. (bare_walk c.0, i)) (return_is (Some c.1) at)

jump_bare : (at : ℕ) (n : Nesting) (i : MadeItem) → i ≡ unplaced.item i → IsBare unplaced.item (jump 0 (bare_nesting n) i) (jump at n i)
jump_bare at n i is w =
    ap (λ v. (v, i)) (noted_as (unless n.in_loop rule.Jump 0) (unless n.in_loop rule.Jump at) w (unless_bare n.in_loop rule.Jump at)) ∙ ap (λ j. (bare_walk (noted (unless n.in_loop rule.Jump at) w), j)) is

-- blocks

abbrev new_item : Item → Item
new_item = item_moved none_at as_braced

abbrev new_arm : Arm → Arm
new_arm = arm_moved none_at as_braced

abbrev new_block : Block → Block
new_block = moved_block none_at as_braced

abbrev new_piece : Piece → Piece
new_piece = piece_moved none_at as_braced

abbrev IsBareItem : Item → Type 0
IsBareItem i = (at : ℕ) (n : Nesting) → IsBare unplaced.item (walked_item (new_item i) 0 (bare_nesting n)) (walked_item i at n)

abbrev IsBareArm : Arm → Type 0
IsBareArm a = (n : Nesting) → IsBare unplaced.arm (walked_arm (new_arm a) (bare_nesting n)) (walked_arm a n)

abbrev IsBareBlock : Block → Type 0
IsBareBlock b = (n : Nesting) → IsBare unplaced.block (walked_block (new_block b) (bare_nesting n)) (walked_block b n)

abbrev IsBarePiece : Piece → Type 0
IsBarePiece q = (n : Nesting) → IsBare unplaced.piece (walked_piece (new_piece q) (bare_nesting n)) (walked_piece q n)

abbrev HeldItem : Type 0
HeldItem = (i : Item) × IsBareItem i

abbrev HeldArm : Type 0
HeldArm = (a : Arm) × IsBareArm a

abbrev HeldBlock : Type 0
HeldBlock = (b : Block) × IsBareBlock b

abbrev HeldPiece : Type 0
HeldPiece = (q : Piece) × IsBarePiece q

abbrev plain : Item-F HeldItem HeldArm HeldBlock HeldPiece → Item-F Item Arm Block Piece
plain = map-Item HeldItem HeldArm HeldBlock HeldPiece Item Arm Block Piece (λ e. e.0) (λ e. e.0) (λ e. e.0) (λ e. e.0)

abbrev walks : Item-F Item Arm Block Piece → Item-F ItemWalk ArmWalk BlockWalk PieceWalk
walks = map-Item Item Arm Block Piece ItemWalk ArmWalk BlockWalk PieceWalk walked_item walked_arm walked_block walked_piece

abbrev new_layer : Item-F Item Arm Block Piece → Item-F Item Arm Block Piece
new_layer x = moved_item none_at (map-Item Item Arm Block Piece Item Arm Block Piece new_item new_arm new_block new_piece x)

-- parts in turn, where they are nested
parts_bare : {A B : Type 0} (walk : A → Nesting → Walk → Walk × B) (m : A → A) (g : B → B) (n : Nesting)
    (xs : List ((x : A) × ((n : Nesting) → IsBare g (walk (m x) (bare_nesting n)) (walk x n))))
    → IsBare (map g) (each (at_nesting (bare_nesting n)) (map walk (map m (map (λ x. x.0) xs)))) (each (at_nesting n) (map walk (map (λ x. x.0) xs)))
parts_bare walk m g n [] w = refl
parts_bare walk m g n (x ∷ xs) w =
    let r = walk x.0 n w in
    ap (λ q. let s = each (at_nesting (bare_nesting n)) (map walk (map m (map (λ y. y.0) xs))) q.0 in (s.0, q.1 ∷ s.1)) (x.1 n w) ∙ ap (λ s. (s.0, g r.1 ∷ s.1)) (parts_bare walk m g n xs r.0)

layer_bare : (y : Item-F HeldItem HeldArm HeldBlock HeldPiece) (at : ℕ) (n : Nesting) → IsBare unplaced.item (item_walk (walks (new_layer (plain y))) 0 (bare_nesting n)) (item_walk (walks (plain y)) at n)
layer_bare (Declare ds) at n w =
    let r = each (walked_declr n) ds w in
    ap declares (each_bare bare_walk (moved_declr none_at) bare_declr (walked_declr (bare_nesting n)) (walked_declr n) (declr_bare n) ds w)
    ∙ ap (λ i. (bare_walk r.0, i)) (item_is (layer.Declare r.1) (made.Declare r.1) (made.Declare (map bare_declr r.1)) (made.rolls-Declare r.1) (made.rolls-Declare (map bare_declr r.1)))
layer_bare (Assign s) at n w =
    let r = walked_simple s w in
    ap assigns (simple_bare s w) ∙ ap (λ i. (bare_walk r.0, i)) (item_is (layer.Assign r.1) (made.Assign r.1) (made.Assign (bare_simple r.1)) (made.rolls-Assign r.1) (made.rolls-Assign (bare_simple r.1)))
layer_bare (Do c) at n w = do_bare c w
layer_bare (Nest b) at n w =
    let r = inner n (walked_block b.0) w in
    ap nests (scoped_bare unplaced.block (walked_block (new_block b.0) (bare_nesting (within n))) (walked_block b.0 (within n)) (b.1 (within n)) w)
    ∙ ap (λ i. (bare_walk r.0, i)) (item_is (layer.Nest r.1) (made.Nest r.1) (made.Nest (unplaced.block r.1)) (made.rolls-Nest r.1) (made.rolls-Nest (unplaced.block r.1)))
layer_bare (If arms None) at n w =
    let r = each (at_nesting n) (map walked_arm (map (λ x. x.0) arms)) w in
    ap (λ q. (q.0, made.If q.1 None)) (parts_bare walked_arm new_arm unplaced.arm n arms w)
    ∙ ap (λ i. (bare_walk r.0, i)) (item_is (layer.If r.1 None) (made.If r.1 None) (made.If (map unplaced.arm r.1) None) (made.rolls-If r.1 None) (made.rolls-If (map unplaced.arm r.1) None))
layer_bare (If arms (Some b)) at n w =
    let r = each (at_nesting n) (map walked_arm (map (λ x. x.0) arms)) w in
    let s = inner n (walked_block b.0) r.0 in
    ap (λ q. let s' = inner (bare_nesting n) (walked_block (new_block b.0)) q.0 in (s'.0, made.If q.1 (Some s'.1))) (parts_bare walked_arm new_arm unplaced.arm n arms w)
    ∙ ap (λ s'. (s'.0, made.If (map unplaced.arm r.1) (Some s'.1))) (scoped_bare unplaced.block (walked_block (new_block b.0) (bare_nesting (within n))) (walked_block b.0 (within n)) (b.1 (within n)) r.0)
    ∙ ap (λ i. (bare_walk s.0, i)) (item_is (layer.If r.1 (Some s.1)) (made.If r.1 (Some s.1)) (made.If (map unplaced.arm r.1) (Some (unplaced.block s.1))) (made.rolls-If r.1 (Some s.1)) (made.rolls-If (map unplaced.arm r.1) (Some (unplaced.block s.1))))
layer_bare (While e b) at n w =
    let t = walked_test e w in
    let s = looped n (walked_block b.0) t.0 in
    ap (λ t'. let s' = looped (bare_nesting n) (walked_block (new_block b.0)) t'.0 in (s'.0, made.While t'.1 s'.1)) (test_bare e w)
    ∙ ap (λ s'. (s'.0, made.While (bare_expr t.1) s'.1)) (scoped_bare unplaced.block (walked_block (new_block b.0) (bare_nesting (in_loop n))) (walked_block b.0 (in_loop n)) (b.1 (in_loop n)) t.0)
    ∙ ap (λ i. (bare_walk s.0, i)) (item_is (layer.While t.1 s.1) (made.While t.1 s.1) (made.While (bare_expr t.1) (unplaced.block s.1)) (made.rolls-While t.1 s.1) (made.rolls-While (bare_expr t.1) (unplaced.block s.1)))
layer_bare (For h b) at n w =
    scoped_bare unplaced.item (walked_for (bare_nesting n) (moved_for_head none_at h) (walked_block (new_block b.0))) (walked_for n h (walked_block b.0))
    (λ v.
    let t = walked_head (within n) h v in
    let s = looped (within n) (walked_block b.0) t.0 in
    ap (for_behind (bare_nesting (within n)) (walked_block (new_block b.0))) (head_bare (within n) h v)
    ∙ ap (λ s'. (s'.0, made.For (bare_head t.1) s'.1)) (scoped_bare unplaced.block (walked_block (new_block b.0) (bare_nesting (in_loop (within n)))) (walked_block b.0 (in_loop (within n))) (b.1 (in_loop (within n))) t.0)
    ∙ ap (λ i. (bare_walk s.0, i)) (item_is (layer.For t.1 s.1) (made.For t.1 s.1) (made.For (bare_head t.1) (unplaced.block s.1)) (made.rolls-For t.1 s.1) (made.rolls-For (bare_head t.1) (unplaced.block s.1))))
    w
layer_bare Break at n w = jump_bare at n made.Break (item_is layer.Break made.Break made.Break made.rolls-Break made.rolls-Break) w
layer_bare Continue at n w = jump_bare at n made.Continue (item_is layer.Continue made.Continue made.Continue made.rolls-Continue made.rolls-Continue) w
layer_bare (Return r word) at n w = return_bare n.returns word r w

item_opens : (x : Item-F Item Arm Block Piece) → walked_item (roll-Item x) ≡ item_walk (walks x)
item_opens = fold-roll-Item ItemWalk ArmWalk BlockWalk PieceWalk item_walk arm_walk block_walk piece_walk

arm_opens : (x : Arm-F Item Arm Block Piece) → walked_arm (roll-Arm x) ≡ arm_walk (record { test = x.test; body = walked_block x.body })
arm_opens = fold-roll-Arm ItemWalk ArmWalk BlockWalk PieceWalk item_walk arm_walk block_walk piece_walk

block_opens : (x : Block-F Item Arm Block Piece) → walked_block (roll-Block x) ≡ block_walk (record { items = map walked_piece x.items; last_gap = x.last_gap; braced = x.braced; start = x.start; end = x.end })
block_opens = fold-roll-Block ItemWalk ArmWalk BlockWalk PieceWalk item_walk arm_walk block_walk piece_walk

piece_opens : (x : Piece-F Item Arm Block Piece) → walked_piece (roll-Piece x) ≡ piece_walk (record { gap = x.gap; item = walked_item x.item; start = x.start; end = x.end })
piece_opens = fold-roll-Piece ItemWalk ArmWalk BlockWalk PieceWalk item_walk arm_walk block_walk piece_walk

abbrev on_item : Item-F Item Arm Block Piece → Item
on_item i = roll-Item (moved_item none_at i)

abbrev on_arm : Arm-F Item Arm Block Piece → Arm
on_arm a = roll-Arm (record a { test = moved_expr none_at a.test })

abbrev on_block : Block-F Item Arm Block Piece → Block
on_block b = roll-Block (record b { last_gap = moved_gap none_at b.last_gap; braced = b.braced; start = 0; end = 0 })

abbrev on_piece : Piece-F Item Arm Block Piece → Piece
on_piece p = roll-Piece (record p { gap = moved_gap none_at p.gap; start = 0; end = 0 })

item_rolls : (x : Item-F Item Arm Block Piece) → new_item (roll-Item x) ≡ roll-Item (new_layer x)
item_rolls = fold-roll-Item Item Arm Block Piece on_item on_arm on_block on_piece

arm_rolls : (x : Arm-F Item Arm Block Piece) → new_arm (roll-Arm x) ≡ roll-Arm (record { test = moved_expr none_at x.test; body = new_block x.body })
arm_rolls = fold-roll-Arm Item Arm Block Piece on_item on_arm on_block on_piece

block_rolls : (x : Block-F Item Arm Block Piece) → new_block (roll-Block x) ≡ roll-Block (record { items = map new_piece x.items; last_gap = moved_gap none_at x.last_gap; braced = x.braced; start = 0; end = 0 })
block_rolls = fold-roll-Block Item Arm Block Piece on_item on_arm on_block on_piece

piece_rolls : (x : Piece-F Item Arm Block Piece) → new_piece (roll-Piece x) ≡ roll-Piece (record { gap = moved_gap none_at x.gap; item = new_item x.item; start = 0; end = 0 })
piece_rolls = fold-roll-Piece Item Arm Block Piece on_item on_arm on_block on_piece

step_item : (x : Item-F Item Arm Block Piece) (y : Item-F HeldItem HeldArm HeldBlock HeldPiece) → plain y ≡ x → IsBareItem (roll-Item x)
step_item x y is at n w =
    ap (λ i. walked_item i 0 (bare_nesting n) (bare_walk w)) (item_rolls x) ∙ ap (λ (f : ItemWalk). f 0 (bare_nesting n) (bare_walk w)) (item_opens (new_layer x))
    ∙ subst (λ (z : Item-F Item Arm Block Piece). item_walk (walks (new_layer z)) 0 (bare_nesting n) (bare_walk w) ≡ bare_pair bare_walk unplaced.item (item_walk (walks z) at n w)) is (layer_bare y at n w)
    ∙ sym (ap (λ (f : ItemWalk). bare_pair bare_walk unplaced.item (f at n w)) (item_opens x))

step_arm : (x : Arm-F Item Arm Block Piece) (y : Arm-F HeldItem HeldArm HeldBlock HeldPiece) → map-Arm HeldItem HeldArm HeldBlock HeldPiece Item Arm Block Piece (λ e. e.0) (λ e. e.0) (λ e. e.0) (λ e. e.0) y ≡ x → IsBareArm (roll-Arm x)
step_arm x y is n w =
    let body : IsBareBlock x.body = subst (λ (z : Arm-F Item Arm Block Piece). IsBareBlock z.body) is y.body.1 in
    let t = walked_test x.test w in
    let s = inner n (walked_block x.body) t.0 in
    ap (λ a. walked_arm a (bare_nesting n) (bare_walk w)) (arm_rolls x)
    ∙ ap (λ (f : ArmWalk). f (bare_nesting n) (bare_walk w)) (arm_opens (record { test = moved_expr none_at x.test; body = new_block x.body }))
    ∙ ap (λ t'. let s' = inner (bare_nesting n) (walked_block (new_block x.body)) t'.0 in (s'.0, roll-MadeArm (record { test = t'.1; body = s'.1 }))) (test_bare x.test w)
    ∙ ap (λ s'. (s'.0, roll-MadeArm (record { test = bare_expr t.1; body = s'.1 }))) (scoped_bare unplaced.block (walked_block (new_block x.body) (bare_nesting (within n))) (walked_block x.body (within n)) (body (within n)) t.0)
    ∙ ap (λ a. (bare_walk s.0, a)) (sym (opens.arm (record { test = t.1; body = s.1 })))
    ∙ sym (ap (λ (f : ArmWalk). bare_pair bare_walk unplaced.arm (f n w)) (arm_opens x))

step_block : (x : Block-F Item Arm Block Piece) (y : Block-F HeldItem HeldArm HeldBlock HeldPiece) → map-Block HeldItem HeldArm HeldBlock HeldPiece Item Arm Block Piece (λ e. e.0) (λ e. e.0) (λ e. e.0) (λ e. e.0) y ≡ x → IsBareBlock (roll-Block x)
step_block x y is n w =
    let items : IsBare (map unplaced.piece) (each (at_nesting (bare_nesting n)) (map walked_piece (map new_piece x.items))) (each (at_nesting n) (map walked_piece x.items)) =
    subst (λ (z : Block-F Item Arm Block Piece). IsBare (map unplaced.piece) (each (at_nesting (bare_nesting n)) (map walked_piece (map new_piece z.items))) (each (at_nesting n) (map walked_piece z.items))) is (parts_bare walked_piece new_piece unplaced.piece n y.items) in
    let r = each (at_nesting n) (map walked_piece x.items) w in
    let g = walked_gap x.last_gap r.0 in
    ap (λ b. walked_block b (bare_nesting n) (bare_walk w)) (block_rolls x)
    ∙ ap (λ (f : BlockWalk). f (bare_nesting n) (bare_walk w)) (block_opens (record { items = map new_piece x.items; last_gap = moved_gap none_at x.last_gap; braced = x.braced; start = 0; end = 0 }))
    ∙ ap (λ r'. let g' = walked_gap (moved_gap none_at x.last_gap) r'.0 in (g'.0, roll-MadeBlock (record { items = r'.1; last_gap = g'.1; braced = x.braced; start = 0; end = 0 }))) (items w)
    ∙ ap (λ g'. (g'.0, roll-MadeBlock (record { items = map unplaced.piece r.1; last_gap = g'.1; braced = x.braced; start = 0; end = 0 }))) (gap_bare x.last_gap r.0)
    ∙ ap (λ b. (bare_walk g.0, b)) (sym (opens.block (record { items = r.1; last_gap = g.1; braced = x.braced; start = x.start; end = x.end })))
    ∙ sym (ap (λ (f : BlockWalk). bare_pair bare_walk unplaced.block (f n w)) (block_opens x))

step_piece : (x : Piece-F Item Arm Block Piece) (y : Piece-F HeldItem HeldArm HeldBlock HeldPiece) → map-Piece HeldItem HeldArm HeldBlock HeldPiece Item Arm Block Piece (λ e. e.0) (λ e. e.0) (λ e. e.0) (λ e. e.0) y ≡ x → IsBarePiece (roll-Piece x)
step_piece x y is n w =
    let one : IsBareItem x.item = subst (λ (z : Piece-F Item Arm Block Piece). IsBareItem z.item) is y.item.1 in
    let g = walked_gap x.gap w in
    let r = walked_item x.item x.start n g.0 in
    ap (λ q. walked_piece q (bare_nesting n) (bare_walk w)) (piece_rolls x)
    ∙ ap (λ (f : PieceWalk). f (bare_nesting n) (bare_walk w)) (piece_opens (record { gap = moved_gap none_at x.gap; item = new_item x.item; start = 0; end = 0 }))
    ∙ ap (λ g'. let r' = walked_item (new_item x.item) 0 (bare_nesting n) g'.0 in (r'.0, roll-MadePiece (record { gap = g'.1; item = r'.1; start = 0; end = 0 }))) (gap_bare x.gap w)
    ∙ ap (λ r'. (r'.0, roll-MadePiece (record { gap = bare_gap g.1; item = r'.1; start = 0; end = 0 }))) (one x.start n g.0)
    ∙ ap (λ q. (bare_walk r.0, q)) (sym (opens.piece (record { gap = g.1; item = r.1; start = x.start; end = x.end })))
    ∙ sym (ap (λ (f : PieceWalk). bare_pair bare_walk unplaced.piece (f n w)) (piece_opens x))

-- a block behind a walk without offsets
pub block_bare : (b : Block) (n : Nesting) → IsBare unplaced.block (walked_block (moved_block none_at as_braced b) (bare_nesting n)) (walked_block b n)
block_bare = ind-Block IsBareItem IsBareArm IsBareBlock IsBarePiece step_item step_arm step_block step_piece
