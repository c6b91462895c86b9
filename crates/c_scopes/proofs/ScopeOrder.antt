-- What is in scope at a gap of a well-formed program ascends.
use Rattle.std.proofs.Common.{◌≡◌, ℕ, zero, suc, ◌+◌, ◌≤◌, List, [], ◌∷◌, ◌++◌, map, flat_map, Some, None, sym, ap, subst, arith, append-nil}
use Rattle.std.specs.List.{range_with_len}
use Rattle.c_tree.specs.Numbers.{Numbers, item_locals, arm_locals, block_locals, piece_locals, locals_in, from_all, start_locals}
use Rattle.c_tree.specs.declared.program.Arm.{Arm, Arm-F, roll-Arm, fold-Arm, fold-roll-Arm, map-Arm}
use Rattle.c_tree.specs.declared.program.Block.{Block, Block-F, roll-Block, fold-roll-Block, map-Block, ind-Block}
use Rattle.c_tree.specs.declared.program.Declr.{Declr}
use Rattle.c_tree.specs.declared.program.Gap.{Gap}
use Rattle.c_tree.specs.declared.program.Item.{Item, Item-F, roll-Item, fold-Item, fold-roll-Item, map-Item}
use Rattle.c_tree.specs.declared.program.Item.TheOpen.{Declare, Assign, Do, Nest, If, While, For, Break, Continue, Return}
use Rattle.c_tree.specs.declared.program.Piece.{Piece, Piece-F, roll-Piece, fold-Piece, fold-roll-Piece, map-Piece}
use Rattle.c_scopes.specs.ScopeAt.{GapScope, Ascending, Part, Place, item_layer, arm_layer, block_layer, piece_layer, arm_place, block_place, behind_gap, block_place_of, each_place, item_part, piece_part, Within}

pub within_le : (a b : ℕ) (xs : List ℕ) → Within a b xs → a ≤ b
within_le a b [] h = h
within_le a b (x ∷ xs) h = let rest : suc x ≤ b = within_le (suc x) b xs h.1 in let first : a ≤ x = h.0 in omega arith

pub within_more : (a b c : ℕ) (xs : List ℕ) → Within a b xs → b ≤ c → Within a c xs
within_more a b c [] h le = let here : a ≤ b = h in omega arith
within_more a b c (x ∷ xs) h le = (h.0, within_more (suc x) b c xs h.1 le)

pub within_from : (a b c : ℕ) (xs : List ℕ) → a ≤ b → Within b c xs → Within a c xs
within_from a b c [] le h = let here : b ≤ c = h in omega arith
within_from a b c (x ∷ xs) le h = let first : b ≤ x = h.0 in (omega arith, h.1)

pub within_both : (a b c : ℕ) (xs ys : List ℕ) → Within a b xs → Within b c ys → Within a c (xs ++ ys)
within_both a b c [] ys h k = within_from a b c ys h k
within_both a b c (x ∷ xs) ys h k = (h.0, within_both (suc x) b c xs ys h.1 k)

-- a place between two parts
pub within_split : (a c : ℕ) (xs ys : List ℕ) → Within a c (xs ++ ys) → (b : ℕ) × Within a b xs × Within b c ys
within_split a c [] ys h = (a, omega arith, h)
within_split a c (x ∷ xs) ys h = let rest = within_split (suc x) c xs ys h.1 in (rest.0, (h.0, rest.1), rest.2)

pub within_range : (a n : ℕ) → Within a (a + n) (range_with_len a n)
within_range a zero = omega arith
within_range a (suc n) =
    let e : a + 1 + n ≡ a + suc n = omega arith in
    let next : a + 1 ≡ suc a = omega arith in
    (omega arith, subst (λ k. Within k (a + suc n) (range_with_len (a + 1) n)) next (subst (λ m. Within (a + 1) m (range_with_len (a + 1) n)) e (within_range (a + 1) n)))

-- all rows ascend
abbrev pub AllRise : List GapScope → Type 0
AllRise [] = Unit {0}
AllRise (r ∷ rows) = Ascending r.vars × AllRise rows

pub all_both : (xs ys : List GapScope) → AllRise xs → AllRise ys → AllRise (xs ++ ys)
all_both [] ys h k = k
all_both (x ∷ xs) ys h k = (h.0, all_both xs ys h.1 k)

-- what is visible before a part ascends below x, and what the part declares from there up to z
abbrev PlaceRises : Place → Numbers → Type 0
PlaceRises b locals = (seen : List ℕ) (x z : ℕ) → Within 0 x seen → Within x z locals → AllRise (b seen)

abbrev PartRises : Part → Numbers → Type 0
PartRises p locals = (seen : List ℕ) (x z : ℕ) → Within 0 x seen → Within x z locals → AllRise (p.gaps seen) × Within 0 z (seen ++ p.declares)

abbrev item_locals_in : Item → Numbers
item_locals_in = fold-Item Numbers Numbers Numbers Numbers item_locals arm_locals block_locals piece_locals

abbrev arm_locals_in : Arm → Numbers
arm_locals_in = fold-Arm Numbers Numbers Numbers Numbers item_locals arm_locals block_locals piece_locals

abbrev piece_locals_in : Piece → Numbers
piece_locals_in = fold-Piece Numbers Numbers Numbers Numbers item_locals arm_locals block_locals piece_locals

abbrev ItemRises : Item → Type 0
ItemRises i = PartRises (item_part i) (item_locals_in i)

abbrev ArmRises : Arm → Type 0
ArmRises a = PlaceRises (arm_place a) (arm_locals_in a)

abbrev BlockRises : Block → Type 0
BlockRises b = PlaceRises (block_place b) (locals_in b)

abbrev PieceRises : Piece → Type 0
PieceRises p = PartRises (piece_part p) (piece_locals_in p)

-- behind a part that leaves nothing visible
seen_still : (seen : List ℕ) (x z : ℕ) (locals : Numbers) → Within 0 x seen → Within x z locals → Within 0 z (seen ++ [])
seen_still seen x z locals h k = subst (Within 0 z) (sym (append-nil seen)) (within_more 0 x z seen h (within_le x z locals k))

closed_rises : (b : Place) (locals : Numbers) → PlaceRises b locals → (seen : List ℕ) (x z : ℕ) → Within 0 x seen → Within x z locals → AllRise (b seen) × Within 0 z (seen ++ [])
closed_rises b locals rises seen x z h k = (rises seen x z h k, seen_still seen x z locals h k)

arms_rise : (arms : List ((a : Arm) × ArmRises a)) → PlaceRises (each_place (map arm_place (map (λ e. e.0) arms))) (from_all (map arm_locals_in (map (λ e. e.0) arms)))
arms_rise [] seen x z h k = tt
arms_rise (a ∷ arms) seen x z h k =
    let parts = within_split x z (arm_locals_in a.0) (from_all (map arm_locals_in (map (λ e. e.0) arms))) k in
    all_both (arm_place a.0 seen) (each_place (map arm_place (map (λ e. e.0) arms)) seen)
    (a.1 seen x parts.0 h parts.1)
    (arms_rise arms seen parts.0 z (within_more 0 x parts.0 seen h (within_le x parts.0 (arm_locals_in a.0) parts.1)) parts.2)

-- two places that see the same
both_rise : (b c : Place) (xs ys : Numbers) → PlaceRises b xs → PlaceRises c ys → PlaceRises (λ seen. b seen ++ c seen) (xs ++ ys)
both_rise b c xs ys first second seen x z h k =
    let parts = within_split x z xs ys k in
    all_both (b seen) (c seen) (first seen x parts.0 h parts.1)
    (second seen parts.0 z (within_more 0 x parts.0 seen h (within_le x parts.0 xs parts.1)) parts.2)

nowhere_rises : PlaceRises (λ seen. []) []
nowhere_rises seen x z h k = tt

pieces_rise : (ps : List ((p : Piece) × PieceRises p)) (last : Gap) → PlaceRises (block_place_of (map piece_part (map (λ e. e.0) ps)) last) (from_all (map piece_locals_in (map (λ e. e.0) ps)))
pieces_rise [] last seen x z h k = ((x, h), tt)
pieces_rise (p ∷ ps) last seen x z h k =
    let parts = within_split x z (piece_locals_in p.0) (from_all (map piece_locals_in (map (λ e. e.0) ps))) k in
    let here = p.1 seen x parts.0 h parts.1 in
    all_both ((piece_part p.0).gaps seen) (block_place_of (map piece_part (map (λ e. e.0) ps)) last (seen ++ (piece_part p.0).declares))
    here.0
    (pieces_rise ps last (seen ++ (piece_part p.0).declares) parts.0 z here.1 parts.2)

abbrev ItemLayer : Type 0
ItemLayer = Item-F ((i : Item) × ItemRises i) ((a : Arm) × ArmRises a) ((b : Block) × BlockRises b) ((p : Piece) × PieceRises p)

abbrev bare : ItemLayer → Item-F Item Arm Block Piece
bare = map-Item ((i : Item) × ItemRises i) ((a : Arm) × ArmRises a) ((b : Block) × BlockRises b) ((p : Piece) × PieceRises p) Item Arm Block Piece (λ e. e.0) (λ e. e.0) (λ e. e.0) (λ e. e.0)

abbrev parted : Item-F Item Arm Block Piece → Item-F Part Place Place Part
parted = map-Item Item Arm Block Piece Part Place Place Part item_part arm_place block_place piece_part

abbrev located : Item-F Item Arm Block Piece → Item-F Numbers Numbers Numbers Numbers
located = map-Item Item Arm Block Piece Numbers Numbers Numbers Numbers item_locals_in arm_locals_in locals_in piece_locals_in

for_rises : (xs : List ℕ) (b : Block) → BlockRises b → PlaceRises (λ seen. block_place b (seen ++ xs)) (xs ++ locals_in b)
for_rises xs b rises seen x z h k =
    let parts = within_split x z xs (locals_in b) k in
    rises (seen ++ xs) parts.0 z (within_both 0 x parts.0 seen xs h parts.1) parts.2

layer_rises : (y : ItemLayer) → PartRises (item_layer (parted (bare y))) (item_locals (located (bare y)))
layer_rises (Declare ds) = λ seen x z h k. (tt, within_both 0 x z seen (map (λ (d : Declr). d.var) ds) h k)
layer_rises (Assign s) = closed_rises (λ seen. []) [] nowhere_rises
layer_rises (Do c) = closed_rises (λ seen. []) [] nowhere_rises
layer_rises (Nest b) = closed_rises (block_place b.0) (locals_in b.0) b.1
layer_rises (If arms None) =
    let these = map (λ e. e.0) arms in
    closed_rises (λ seen. each_place (map arm_place these) seen ++ []) (from_all (map arm_locals_in these) ++ [])
    (both_rise (each_place (map arm_place these)) (λ seen. []) (from_all (map arm_locals_in these)) [] (arms_rise arms) nowhere_rises)
layer_rises (If arms (Some b)) =
    let these = map (λ e. e.0) arms in
    closed_rises (λ seen. each_place (map arm_place these) seen ++ block_place b.0 seen) (from_all (map arm_locals_in these) ++ locals_in b.0)
    (both_rise (each_place (map arm_place these)) (block_place b.0) (from_all (map arm_locals_in these)) (locals_in b.0) (arms_rise arms) b.1)
layer_rises (While e b) = closed_rises (block_place b.0) (locals_in b.0) b.1
layer_rises (For head b) =
    let starts = flat_map start_locals head.start in
    closed_rises (λ seen. block_place b.0 (seen ++ starts)) (starts ++ locals_in b.0) (for_rises starts b.0 b.1)
layer_rises Break = closed_rises (λ seen. []) [] nowhere_rises
layer_rises Continue = closed_rises (λ seen. []) [] nowhere_rises
layer_rises (Return r at) = closed_rises (λ seen. []) [] nowhere_rises

-- the rest of the cycle

moved_part : (p q : Part) (xs ys : Numbers) → p ≡ q → xs ≡ ys → PartRises p xs → PartRises q ys
moved_part p q xs ys e f h = subst (λ r. PartRises r ys) e (subst (PartRises p) f h)

moved_place : (b c : Place) (xs ys : Numbers) → b ≡ c → xs ≡ ys → PlaceRises b xs → PlaceRises c ys
moved_place b c xs ys e f h = subst (λ r. PlaceRises r ys) e (subst (PlaceRises b) f h)

step_item : (x : Item-F Item Arm Block Piece) (y : ItemLayer) → bare y ≡ x → ItemRises (roll-Item x)
step_item x y is =
    moved_part (item_layer (parted x)) (item_part (roll-Item x)) (item_locals (located x)) (item_locals_in (roll-Item x))
    (sym (fold-roll-Item Part Place Place Part item_layer arm_layer block_layer piece_layer x))
    (sym (fold-roll-Item Numbers Numbers Numbers Numbers item_locals arm_locals block_locals piece_locals x))
    (subst (λ z. PartRises (item_layer (parted z)) (item_locals (located z))) is (layer_rises y))

step_arm : (x : Arm-F Item Arm Block Piece) (y : Arm-F ((i : Item) × ItemRises i) ((a : Arm) × ArmRises a) ((b : Block) × BlockRises b) ((p : Piece) × PieceRises p))
    → map-Arm ((i : Item) × ItemRises i) ((a : Arm) × ArmRises a) ((b : Block) × BlockRises b) ((p : Piece) × PieceRises p) Item Arm Block Piece (λ e. e.0) (λ e. e.0) (λ e. e.0) (λ e. e.0) y ≡ x → ArmRises (roll-Arm x)
step_arm x y is =
    moved_place (block_place x.body) (arm_place (roll-Arm x)) (locals_in x.body) (arm_locals_in (roll-Arm x))
    (sym (fold-roll-Arm Part Place Place Part item_layer arm_layer block_layer piece_layer x))
    (sym (fold-roll-Arm Numbers Numbers Numbers Numbers item_locals arm_locals block_locals piece_locals x))
    (subst BlockRises (ap (λ (a : Arm-F Item Arm Block Piece). a.body) is) y.body.1)

step_block : (x : Block-F Item Arm Block Piece) (y : Block-F ((i : Item) × ItemRises i) ((a : Arm) × ArmRises a) ((b : Block) × BlockRises b) ((p : Piece) × PieceRises p))
    → map-Block ((i : Item) × ItemRises i) ((a : Arm) × ArmRises a) ((b : Block) × BlockRises b) ((p : Piece) × PieceRises p) Item Arm Block Piece (λ e. e.0) (λ e. e.0) (λ e. e.0) (λ e. e.0) y ≡ x → BlockRises (roll-Block x)
step_block x y is =
    moved_place (block_place_of (map piece_part x.items) x.last_gap) (block_place (roll-Block x)) (from_all (map piece_locals_in x.items)) (locals_in (roll-Block x))
    (sym (fold-roll-Block Part Place Place Part item_layer arm_layer block_layer piece_layer x))
    (sym (fold-roll-Block Numbers Numbers Numbers Numbers item_locals arm_locals block_locals piece_locals x))
    (subst (λ ps. PlaceRises (block_place_of (map piece_part ps) x.last_gap) (from_all (map piece_locals_in ps))) (ap (λ (b : Block-F Item Arm Block Piece). b.items) is) (pieces_rise y.items x.last_gap))

gap_rises : (g : Gap) (i : Item) → ItemRises i → PartRises (behind_gap g (item_part i)) (item_locals_in i)
gap_rises g i rises seen x z h k = let r = rises seen x z h k in (((x, h), r.0), r.1)

step_piece : (x : Piece-F Item Arm Block Piece) (y : Piece-F ((i : Item) × ItemRises i) ((a : Arm) × ArmRises a) ((b : Block) × BlockRises b) ((p : Piece) × PieceRises p))
    → map-Piece ((i : Item) × ItemRises i) ((a : Arm) × ArmRises a) ((b : Block) × BlockRises b) ((p : Piece) × PieceRises p) Item Arm Block Piece (λ e. e.0) (λ e. e.0) (λ e. e.0) (λ e. e.0) y ≡ x → PieceRises (roll-Piece x)
step_piece x y is =
    moved_part (behind_gap x.gap (item_part x.item)) (piece_part (roll-Piece x)) (item_locals_in x.item) (piece_locals_in (roll-Piece x))
    (sym (fold-roll-Piece Part Place Place Part item_layer arm_layer block_layer piece_layer x))
    (sym (fold-roll-Piece Numbers Numbers Numbers Numbers item_locals arm_locals block_locals piece_locals x))
    (gap_rises x.gap x.item (subst ItemRises (ap (λ (p : Piece-F Item Arm Block Piece). p.item) is) y.item.1))

pub block_rises : (b : Block) → BlockRises b
block_rises = ind-Block ItemRises ArmRises BlockRises PieceRises step_item step_arm step_block step_piece
