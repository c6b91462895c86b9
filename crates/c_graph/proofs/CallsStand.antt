-- In a block of right types each call of a user's function stands at a place.
use Rattle.std.proofs.Common.{◌≡◌, ℕ, suc, ⊎_elim, Bool, true, List, [], ◌∷◌, ◌++◌, map, flat_map, slice_get, Option, Some, None, option_map, option_and_then, ap, sym, subst, ◌∙◌}
use Rattle.std.specs.List.{list_all}
use Rattle.std.proofs.lemmas.Bool.{and_parts}
use Rattle.c_tree.specs.Typing.{Declarations, head_fits, item_fits, arm_fits, all_items, its_item, block_fits, is_condition}
use Rattle.c_tree.specs.UserCalls.{Here, from_option, call_calls, right_calls, declr_calls, simple_calls, start_calls, head_calls, item_calls, arm_calls, block_calls, piece_calls, calls_in, item_calls_in, arm_calls_in, piece_calls_in}
use Rattle.c_tree.specs.declared.control.UserCall.{UserCall}
use Rattle.c_tree.specs.declared.expr.Expr.{Expr}
use Rattle.c_tree.specs.declared.expr.Expr.TheVariants as expr
use Rattle.c_tree.specs.declared.expr.Op.{Op}
use Rattle.c_tree.specs.declared.expr.Op.TheVariants as op
use Rattle.c_tree.specs.declared.program.Arm.{Arm, Arm-F, roll-Arm, out-roll-Arm, fold-roll-Arm, map-Arm}
use Rattle.c_tree.specs.declared.program.Block.{Block, Block-F, out-Block, roll-Block, out-roll-Block, fold-roll-Block, map-Block, ind-Block}
use Rattle.c_tree.specs.declared.program.Call.{Call}
use Rattle.c_tree.specs.declared.program.Call.TheVariants as call
use Rattle.c_tree.specs.declared.program.Declr.{Declr}
use Rattle.c_tree.specs.declared.program.ForHead.{ForHead}
use Rattle.c_tree.specs.declared.program.Item.{Item, Item-F, out-Item, roll-Item, out-roll-Item, fold-roll-Item, map-Item}
use Rattle.c_tree.specs.declared.program.Item.TheOpen.{Declare, Assign, Do, Nest, If, While, For, Break, Continue, Return}
use Rattle.c_tree.specs.declared.program.Piece.{Piece, Piece-F, out-Piece, roll-Piece, out-roll-Piece, fold-roll-Piece, map-Piece}
use Rattle.c_tree.specs.declared.program.Right.{Right}
use Rattle.c_tree.specs.declared.program.Right.TheVariants as right
use Rattle.c_tree.specs.declared.program.Simple.{Simple}
use Rattle.c_tree.specs.declared.program.Start.{Start}
use Rattle.c_tree.specs.declared.program.Start.TheVariants as start
use Rattle.c_tree.specs.declared.program.Ty.{Ty}
use Rattle.c_meaning.specs.Parts.{Instruction, Invoke, Part, One, Row, Condition, Within, target_of, called, put_call, assigned, declared, started, returned, condition_of, last_row, arm_parts, parts}
use Rattle.c_meaning.specs.Place.{Spot, AtAction, arm_test, arm_body, part_of, instruction_spot, row_spot, spot_in, spot_of}
use Rattle.c_meaning.proofs.GapBound.{spot_within}
use Rattle.call_contexts.proofs.Has.{Has, has_left, has_right, has_split, only_one}
use Rattle.c_graph.proofs.WholeParts.{Is, AllAre, none_are, more_are, item_right, arm_right, piece_right, right_layer, one, row, condition, AllWhole, none_whole, more_whole, parts_whole}

-- a call stands there, by its number and its callee
pub data IsCall (c : UserCall) : Spot → Type 0 where
  is_call : (number callee : ℕ) (arguments : List Expr) (target : Option ℕ) → c.number ≡ number → c.callee ≡ callee → IsCall c (AtAction (Invoke number callee arguments target))

module _ (f : ℕ) (c : UserCall) where
  -- instructions

  invoked_by : (number callee offset : ℕ) (es : List Expr) (o : Option (Option ℕ)) → Is (option_map (λ t. Invoke number callee es t) o) → c ≡ record { number = number; caller = f; callee = callee; at = offset } →
      IsCall c (instruction_spot (option_map (λ t. Invoke number callee es t) o))
  invoked_by number callee offset es None h is = absurd h
  invoked_by number callee offset es (Some t) h is = is_call number callee es t (ap (λ (x : UserCall). x.number) is) (ap (λ (x : UserCall). x.callee) is)

  called_stands : (place : Option Expr) (k : Call) → Is (called place k) → Has c (call_calls f k) → IsCall c (instruction_spot (called place k))
  called_stands place (call.User number callee es offset) h g = invoked_by number callee offset es (target_of place) h (only_one g)
  called_stands place (call.Malloc size offset) h g = elim g [ ]
  called_stands place (call.Getchar offset) h g = elim g [ ]
  called_stands place (call.Putchar e offset) h g = elim g [ ]
  called_stands place (call.Printf text es offset) h g = elim g [ ]

  put_stands : (o : Op) (place : Expr) (k : Call) → Is (put_call o place k) → Has c (call_calls f k) → IsCall c (instruction_spot (put_call o place k))
  put_stands op.Put place k h g = called_stands (Some place) k h g
  put_stands op.Add place k h g = absurd h
  put_stands op.Sub place k h g = absurd h
  put_stands op.Mul place k h g = absurd h

  assigned_stands : (s : Simple) (r : Right) → Is (assigned s r) → Has c (right_calls f r) → IsCall c (instruction_spot (assigned s r))
  assigned_stands s (right.Plain e) h g = elim g [ ]
  assigned_stands s (right.Call k) h g = put_stands s.op s.place k h g

  declared_stands : (d : Declr) (r : Option Right) → Is (declared d r) → Has c (from_option (right_calls f) r) → IsCall c (instruction_spot (declared d r))
  declared_stands d None h g = elim g [ ]
  declared_stands d (Some (right.Plain e)) h g = elim g [ ]
  declared_stands d (Some (right.Call k)) h g = called_stands (Some (expr.Var d.var d.at)) k h g

  started_stands : (s : Start) → Is (started s) → Has c (start_calls f s) → IsCall c (instruction_spot (started s))
  started_stands (start.Declare d) h g = declared_stands d d.right h g
  started_stands (start.Assign s) h g = assigned_stands s s.right h g

  row_stands : (ss : List Start) → AllAre (map started ss) → Has c (flat_map (start_calls f) ss) → (k : ℕ) × IsCall c (row_spot (slice_get (map started ss) k))
  row_stands [] none_are g = elim g [ ]
  row_stands (s ∷ ss) (more_are h rest) g = ⊎_elim
      (λ here. (0, started_stands s h here))
      (λ there. let it = row_stands ss rest there in (suc it.0, it.1))
      (has_split (start_calls f s) g)

  last_stands : (s : Option Simple) → AllAre (last_row s) → Has c (from_option (simple_calls f) s) → (k : ℕ) × IsCall c (row_spot (slice_get (last_row s) k))
  last_stands None h g = elim g [ ]
  last_stands (Some s) (more_are h rest) g = (0, assigned_stands s s.right h g)

  module _ (d : Declarations) (result : Option Ty) (slot : Option ℕ) where
    -- in a block
    abbrev StandsIn : Block → Type 0
    StandsIn b = (path : List ℕ) × IsCall c (spot_of slot path b)

    -- in one of these parts
    abbrev InParts : List (Part Block) → Type 0
    InParts ps = (k : ℕ) × (path : List ℕ) × IsCall c (spot_in (spot_of slot path) path (slice_get ps k))

    in_first : (b : Block) (rest : List (Part Block)) → StandsIn b → InParts (Within b ∷ rest)
    in_first b rest h = (0, h.0, subst (λ (x : Spot). IsCall c x) (sym (spot_within (spot_of slot h.0) h.0 b)) h.1)

    in_later : (p : Part Block) (ps : List (Part Block)) → InParts ps → InParts (p ∷ ps)
    in_later p ps h = (suc h.0, h.1, h.2)

    ones_stand : {A : Type 0} (a : A → Option Instruction) (g : A → List UserCall) → ((x : A) → Is (a x) → Has c (g x) → IsCall c (instruction_spot (a x))) → (xs : List A) →
        AllWhole d result (map (λ x. One (a x)) xs) → Has c (flat_map g xs) → InParts (map (λ x. One (a x)) xs)
    ones_stand a g each [] none_whole h = elim h [ ]
    ones_stand a g each (x ∷ xs) (more_whole (one is) rest) h = ⊎_elim
        (λ here. (0, [], each x is here))
        (λ there. in_later (One (a x)) (map (λ x. One (a x)) xs) (ones_stand a g each xs rest there))
        (has_split (g x) h)

    returned_stands : (value : Option Right) (at : ℕ) → AllWhole d result (map (λ a. One a) (returned slot value at)) → Has c (from_option (right_calls f) value) → InParts (map (λ a. One a) (returned slot value at))
    returned_stands None at h g = elim g [ ]
    returned_stands (Some (right.Plain e)) at h g = elim g [ ]
    returned_stands (Some (right.Call k)) at (more_whole (one is) rest) g = (0, [], called_stands (option_map (λ x. expr.Var x at) slot) k is g)

    -- blocks

    abbrev BlockStands : Block → Type 0
    BlockStands b = block_fits d result b ≡ true → Has c (calls_in f b) → StandsIn b

    abbrev ArmStands : Arm → Type 0
    ArmStands a = arm_right d result a ≡ true → Has c (arm_calls_in f a) → StandsIn (arm_body a)

    abbrev ItemStands : Item → Type 0
    ItemStands i = item_right d result i ≡ true → Has c (item_calls_in f i) → InParts (parts arm_test arm_body slot (out-Item i))

    abbrev PieceStands : Piece → Type 0
    PieceStands p = piece_right d result p ≡ true → Has c (piece_calls_in f p) → InParts (parts arm_test arm_body slot (out-Item (out-Piece p).item))

    abbrev Held : Type 0
    Held = Item-F ((i : Item) × ItemStands i) ((a : Arm) × ArmStands a) ((b : Block) × BlockStands b) ((p : Piece) × PieceStands p)

    abbrev plain_item : Held → Item-F Item Arm Block Piece
    plain_item = map-Item ((i : Item) × ItemStands i) ((a : Arm) × ArmStands a) ((b : Block) × BlockStands b) ((p : Piece) × PieceStands p) Item Arm Block Piece (λ e. e.0) (λ e. e.0) (λ e. e.0) (λ e. e.0)

    abbrev calls_layer : Item-F Item Arm Block Piece → Item-F Here Here Here Here
    calls_layer = map-Item Item Arm Block Piece Here Here Here Here (item_calls_in f) (arm_calls_in f) (calls_in f) (piece_calls_in f)

    abbrev LayerStands : Item-F Item Arm Block Piece → Type 0
    LayerStands x = item_fits d result (right_layer d result x) ≡ true → Has c (item_calls f (calls_layer x)) → InParts (parts arm_test arm_body slot x)

    arms_stand : (arms : List ((a : Arm) × ArmStands a)) (rest : List (Part Block)) (last : List UserCall) → list_all (λ a. a) (map (arm_right d result) (map (λ e. e.0) arms)) ≡ true → (Has c last → InParts rest) →
        Has c (flat_map (λ c. c) (map (arm_calls_in f) (map (λ e. e.0) arms)) ++ last) → InParts (arm_parts arm_test arm_body (map (λ e. e.0) arms) ++ rest)
    arms_stand [] rest last h behind g = behind g
    arms_stand (a ∷ arms) rest last h behind g =
        let both = and_parts (arm_right d result a.0) (list_all (λ a. a) (map (arm_right d result) (map (λ e. e.0) arms))) h in
        let own = Within (arm_body a.0) in
        let others = arm_parts arm_test arm_body (map (λ e. e.0) arms) ++ rest in
        in_later (Condition (arm_test a.0)) (own ∷ others)
        (⊎_elim
        (λ here. ⊎_elim
        (λ mine. in_first (arm_body a.0) others (a.1 both.0 mine))
        (λ theirs. in_later own others (arms_stand arms rest last both.1 behind (has_left last theirs)))
        (has_split (arm_calls_in f a.0) here))
        (λ there. in_later own others (arms_stand arms rest last both.1 behind (has_right (flat_map (λ c. c) (map (arm_calls_in f) (map (λ e. e.0) arms))) there)))
        (has_split (flat_map (λ c. c) (map (arm_calls_in f) (map (λ e. e.0) (a ∷ arms)))) g))

    abbrev item_parts : Item-F Item Arm Block Piece → List (Part Block)
    item_parts x = parts arm_test arm_body slot x

    for_stands : (head : ForHead) (b : Block) → BlockStands b → AllWhole d result (item_parts (For head b)) → block_fits d result b ≡ true → Has c (head_calls f head ++ calls_in f b) →
        InParts (item_parts (For head b))
    for_stands head b own (more_whole (row starts) (more_whole condition (more_whole (row steps) rest))) h g = ⊎_elim
        (λ here. ⊎_elim
        (λ first. let it = row_stands head.start starts first in (0, it.0 ∷ [], it.1))
        (λ step. let it = last_stands head.step steps step in (2, it.0 ∷ [], it.1))
        (has_split (flat_map (start_calls f) head.start) here))
        (λ there.
        in_later (Row (map started head.start)) (Condition (condition_of head.test) ∷ Row (last_row head.step) ∷ Within b ∷ [])
        (in_later (Condition (condition_of head.test)) (Row (last_row head.step) ∷ Within b ∷ []) (in_later (Row (last_row head.step)) (Within b ∷ []) (in_first b [] (own h there)))))
        (has_split (head_calls f head) g)

    layer_stands : (y : Held) → LayerStands (plain_item y)
    layer_stands (Declare ds) h g = ones_stand (λ k. declared k k.right) (declr_calls f) (λ k is at. declared_stands k k.right is at) ds (parts_whole d result slot (Declare ds) h) g
    layer_stands (Assign s) h g = (0, [], assigned_stands s s.right (assigned_there (parts_whole d result slot (Assign s) h)) g)
      where
        assigned_there : AllWhole d result (One (assigned s s.right) ∷ []) → Is (assigned s s.right)
        assigned_there (more_whole (one is) rest) = is
    layer_stands (Do k) h g = (0, [], called_stands None k (called_there (parts_whole d result slot (Do k) h)) g)
      where
        called_there : AllWhole d result (One (called None k) ∷ []) → Is (called None k)
        called_there (more_whole (one is) rest) = is
    layer_stands (Nest b) h g = in_first b.0 [] (b.1 h g)
    layer_stands (If arms None) h g = arms_stand arms [] [] (and_parts (list_all (λ a. a) (map (arm_right d result) (map (λ e. e.0) arms))) true h).0 (λ none. elim none [ ]) g
    layer_stands (If arms (Some b)) h g =
        let both = and_parts (list_all (λ a. a) (map (arm_right d result) (map (λ e. e.0) arms))) (block_fits d result b.0) h in
        arms_stand arms (Within b.0 ∷ []) (calls_in f b.0) both.0 (λ last. in_first b.0 [] (b.1 both.1 last)) g
    layer_stands (While e b) h g = in_later (Condition e) (Within b.0 ∷ []) (in_first b.0 [] (b.1 (and_parts (is_condition d e) (block_fits d result b.0) h).1 g))
    layer_stands (For head b) h g = for_stands head b.0 b.1 (parts_whole d result slot (For head b.0) h) (and_parts (head_fits d head) (block_fits d result b.0) h).1 g
    layer_stands Break h g = elim g [ ]
    layer_stands Continue h g = elim g [ ]
    layer_stands (Return value at) h g = returned_stands value at (parts_whole d result slot (Return value at) h) g

    step_item : (x : Item-F Item Arm Block Piece) (y : Held) → plain_item y ≡ x → ItemStands (roll-Item x)
    step_item x y is h g =
        subst (λ (z : Item-F Item Arm Block Piece). InParts (parts arm_test arm_body slot z)) (sym (out-roll-Item x))
        (subst LayerStands is (layer_stands y) (sym (fold-roll-Item Bool Bool Bool Bool (item_fits d result) (arm_fits d) all_items its_item x) ∙ h)
        (subst (λ (cs : List UserCall). Has c cs) (fold-roll-Item Here Here Here Here (item_calls f) arm_calls block_calls piece_calls x) g))

    step_arm : (x : Arm-F Item Arm Block Piece) (y : Arm-F ((i : Item) × ItemStands i) ((a : Arm) × ArmStands a) ((b : Block) × BlockStands b) ((p : Piece) × PieceStands p))
        → map-Arm ((i : Item) × ItemStands i) ((a : Arm) × ArmStands a) ((b : Block) × BlockStands b) ((p : Piece) × PieceStands p) Item Arm Block Piece (λ e. e.0) (λ e. e.0) (λ e. e.0) (λ e. e.0) y ≡ x → ArmStands (roll-Arm x)
    step_arm x y is h g =
        let held : BlockStands x.body = subst (λ (z : Arm-F Item Arm Block Piece). BlockStands z.body) is y.body.1 in
        subst (λ (z : Arm-F Item Arm Block Piece). StandsIn z.body) (sym (out-roll-Arm x))
        (held (and_parts (is_condition d x.test) (block_fits d result x.body) (sym (fold-roll-Arm Bool Bool Bool Bool (item_fits d result) (arm_fits d) all_items its_item x) ∙ h)).1
        (subst (λ (cs : List UserCall). Has c cs) (fold-roll-Arm Here Here Here Here (item_calls f) arm_calls block_calls piece_calls x) g))

    -- an item of a block, and a part of it
    abbrev InItems : List Piece → Type 0
    InItems ps = (i : ℕ) × (k : ℕ) × (path : List ℕ) × IsCall c (spot_in (spot_of slot path) path (option_and_then (part_of slot k) (option_map (λ p. out-Item (out-Piece p).item) (slice_get ps i))))

    pieces_stand : (ps : List ((p : Piece) × PieceStands p)) → list_all (λ b. b) (map (piece_right d result) (map (λ e. e.0) ps)) ≡ true → Has c (flat_map (λ c. c) (map (piece_calls_in f) (map (λ e. e.0) ps))) → InItems (map (λ e. e.0) ps)
    pieces_stand [] h g = elim g [ ]
    pieces_stand (p ∷ ps) h g =
        let both = and_parts (piece_right d result p.0) (list_all (λ b. b) (map (piece_right d result) (map (λ e. e.0) ps))) h in
        ⊎_elim
        (λ here. let it = p.1 both.0 here in (0, it.0, it.1, it.2))
        (λ there. let it = pieces_stand ps both.1 there in (suc it.0, it.1, it.2, it.3))
        (has_split (piece_calls_in f p.0) g)

    abbrev ItemsStand : List Piece → Type 0
    ItemsStand ps = list_all (λ b. b) (map (piece_right d result) ps) ≡ true → Has c (flat_map (λ c. c) (map (piece_calls_in f) ps)) → InItems ps

    from_items : (b : Block) → InItems (out-Block b).items → StandsIn b
    from_items b h = (h.0 ∷ h.1 ∷ h.2, h.3)

    step_block : (x : Block-F Item Arm Block Piece) (y : Block-F ((i : Item) × ItemStands i) ((a : Arm) × ArmStands a) ((b : Block) × BlockStands b) ((p : Piece) × PieceStands p))
        → map-Block ((i : Item) × ItemStands i) ((a : Arm) × ArmStands a) ((b : Block) × BlockStands b) ((p : Piece) × PieceStands p) Item Arm Block Piece (λ e. e.0) (λ e. e.0) (λ e. e.0) (λ e. e.0) y ≡ x → BlockStands (roll-Block x)
    step_block x y is h g =
        from_items (roll-Block x)
        (subst (λ (z : Block-F Item Arm Block Piece). InItems z.items) (sym (out-roll-Block x))
        (subst (λ (z : Block-F Item Arm Block Piece). ItemsStand z.items) is (pieces_stand y.items)
        (sym (fold-roll-Block Bool Bool Bool Bool (item_fits d result) (arm_fits d) all_items its_item x) ∙ h)
        (subst (λ (cs : List UserCall). Has c cs) (fold-roll-Block Here Here Here Here (item_calls f) arm_calls block_calls piece_calls x) g)))

    step_piece : (x : Piece-F Item Arm Block Piece) (y : Piece-F ((i : Item) × ItemStands i) ((a : Arm) × ArmStands a) ((b : Block) × BlockStands b) ((p : Piece) × PieceStands p))
        → map-Piece ((i : Item) × ItemStands i) ((a : Arm) × ArmStands a) ((b : Block) × BlockStands b) ((p : Piece) × PieceStands p) Item Arm Block Piece (λ e. e.0) (λ e. e.0) (λ e. e.0) (λ e. e.0) y ≡ x → PieceStands (roll-Piece x)
    step_piece x y is h g =
        let held : ItemStands x.item = subst (λ (z : Piece-F Item Arm Block Piece). ItemStands z.item) is y.item.1 in
        subst (λ (z : Piece-F Item Arm Block Piece). InParts (parts arm_test arm_body slot (out-Item z.item))) (sym (out-roll-Piece x))
        (held (sym (fold-roll-Piece Bool Bool Bool Bool (item_fits d result) (arm_fits d) all_items its_item x) ∙ h)
        (subst (λ (cs : List UserCall). Has c cs) (fold-roll-Piece Here Here Here Here (item_calls f) arm_calls block_calls piece_calls x) g))

    -- each call in a block of right types stands at a path of it
    pub block_stands : (b : Block) → block_fits d result b ≡ true → Has c (calls_in f b) → StandsIn b
    block_stands = ind-Block ItemStands ArmStands BlockStands PieceStands step_item step_arm step_block step_piece
