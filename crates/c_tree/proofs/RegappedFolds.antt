-- What a fold says of a block in which the gaps are changed, from what another fold says of the block; a fold that
-- doesn't look at what is changed says the same of both.
use Rattle.std.proofs.Common.{◌≡◌, List, [], ◌∷◌, map, Some, None, refl, ap, sym, subst, ◌∙◌}
use Rattle.std.proofs.lemmas.List.{map-id}
use Rattle.c_tree.specs.Fill.{regapped_block}
use Rattle.c_tree.specs.Copies.{regapped_item, regapped_arm, regapped_piece}
use Rattle.c_tree.specs.declared.program.Block.{Block, Block-F, roll-Block, fold-Block, fold-roll-Block, map-Block, ind-Block}
use Rattle.c_tree.specs.declared.program.Piece.{Piece, Piece-F, roll-Piece, fold-Piece, fold-roll-Piece, map-Piece}
use Rattle.c_tree.specs.declared.program.Item.{Item, Item-F, roll-Item, fold-Item, fold-roll-Item, map-Item}
use Rattle.c_tree.specs.declared.program.Item.TheOpen.{Declare, Assign, Do, Nest, If, While, For, Break, Continue, Return}
use Rattle.c_tree.specs.declared.program.Arm.{Arm, Arm-F, roll-Arm, fold-Arm, fold-roll-Arm, map-Arm}
use Rattle.c_tree.specs.declared.program.Gap.{Gap}
use Rattle.c_tree.proofs.Rebuilds.{Maps, Rebuilds, in_item, in_arm, in_block, in_piece, rebuilt, rebuilt_rebuilds}
use Rattle.c_tree.proofs.Fills.{gap_layers}

all_lead : {X Y Z : Type 0} (g : X → Y) (h : X → X) (j : Z → Y) (k : X → Z) (xs : List ((x : X) × (g (h x) ≡ j (k x)))) → map g (map h (map (λ e. e.0) xs)) ≡ map j (map k (map (λ e. e.0) xs))
all_lead g h j k [] = refl
all_lead {X} {Y} g h j k (x ∷ xs) = ap (λ (y : Y). y ∷ map g (map h (map (λ e. e.0) xs))) x.1 ∙ ap (λ (ys : List Y). j (k x.0) ∷ ys) (all_lead g h j k xs)

-- what a fold makes of each layer
pub record Algebra (I A B P : Type 0) : Type 0 where
  pub item : Item-F I A B P → I
  pub arm : Arm-F I A B P → A
  pub block : Block-F I A B P → B
  pub piece : Piece-F I A B P → P

abbrev pub folded_item : {I A B P : Type 0} → Algebra I A B P → Item → I
folded_item {I} {A} {B} {P} a = fold-Item I A B P a.item a.arm a.block a.piece

abbrev pub folded_arm : {I A B P : Type 0} → Algebra I A B P → Arm → A
folded_arm {I} {A} {B} {P} a = fold-Arm I A B P a.item a.arm a.block a.piece

abbrev pub folded_block : {I A B P : Type 0} → Algebra I A B P → Block → B
folded_block {I} {A} {B} {P} a = fold-Block I A B P a.item a.arm a.block a.piece

abbrev pub folded_piece : {I A B P : Type 0} → Algebra I A B P → Piece → P
folded_piece {I} {A} {B} {P} a = fold-Piece I A B P a.item a.arm a.block a.piece

-- a function on each of the four results
pub record Leads (I A B P J C D Q : Type 0) : Type 0 where
  pub item : I → J
  pub arm : A → C
  pub block : B → D
  pub piece : P → Q

module _ {I A B P J C D Q : Type 0} (h : Leads I A B P J C D Q) where
  abbrev pub led_item : Item-F I A B P → Item-F J C D Q
  led_item = map-Item I A B P J C D Q h.item h.arm h.block h.piece

  abbrev pub led_arm : Arm-F I A B P → Arm-F J C D Q
  led_arm = map-Arm I A B P J C D Q h.item h.arm h.block h.piece

  abbrev pub led_block : Block-F I A B P → Block-F J C D Q
  led_block = map-Block I A B P J C D Q h.item h.arm h.block h.piece

  abbrev pub led_piece : Piece-F I A B P → Piece-F J C D Q
  led_piece = map-Piece I A B P J C D Q h.item h.arm h.block h.piece

-- h leads from what n makes of a layer to what m makes of it where its gap is changed by f
pub record LeadsOn {I A B P J C D Q : Type 0} (f : Gap → Gap) (n : Algebra I A B P) (m : Algebra J C D Q) (h : Leads I A B P J C D Q) : Type 0 where
  pub item : (x : Item-F I A B P) → m.item (led_item h x) ≡ h.item (n.item x)
  pub arm : (x : Arm-F I A B P) → m.arm (led_arm h x) ≡ h.arm (n.arm x)
  pub block : (x : Block-F I A B P) → m.block (record (led_block h x) { last_gap = f x.last_gap }) ≡ h.block (n.block x)
  pub piece : (x : Piece-F I A B P) → m.piece (record (led_piece h x) { gap = f x.gap }) ≡ h.piece (n.piece x)

module _ {I A B P J C D Q : Type 0} (f : Gap → Gap) (n : Algebra I A B P) (m : Algebra J C D Q) (h : Leads I A B P J C D Q) (l : LeadsOn f n m h) where
  abbrev LedItem : Item → Type 0
  LedItem i = folded_item m (regapped_item f i) ≡ h.item (folded_item n i)

  abbrev LedArm : Arm → Type 0
  LedArm a = folded_arm m (regapped_arm f a) ≡ h.arm (folded_arm n a)

  abbrev LedBlock : Block → Type 0
  LedBlock b = folded_block m (regapped_block f b) ≡ h.block (folded_block n b)

  abbrev LedPiece : Piece → Type 0
  LedPiece p = folded_piece m (regapped_piece f p) ≡ h.piece (folded_piece n p)

  abbrev changed : Maps
  changed = rebuilt (gap_layers f)

  rebuilds : Rebuilds changed (gap_layers f)
  rebuilds = rebuilt_rebuilds (gap_layers f)

  abbrev bare_item : Item-F ((i : Item) × LedItem i) ((a : Arm) × LedArm a) ((b : Block) × LedBlock b) ((p : Piece) × LedPiece p) → Item-F Item Arm Block Piece
  bare_item = map-Item ((i : Item) × LedItem i) ((a : Arm) × LedArm a) ((b : Block) × LedBlock b) ((p : Piece) × LedPiece p) Item Arm Block Piece (λ e. e.0) (λ e. e.0) (λ e. e.0) (λ e. e.0)

  abbrev bare_arm : Arm-F ((i : Item) × LedItem i) ((a : Arm) × LedArm a) ((b : Block) × LedBlock b) ((p : Piece) × LedPiece p) → Arm-F Item Arm Block Piece
  bare_arm = map-Arm ((i : Item) × LedItem i) ((a : Arm) × LedArm a) ((b : Block) × LedBlock b) ((p : Piece) × LedPiece p) Item Arm Block Piece (λ e. e.0) (λ e. e.0) (λ e. e.0) (λ e. e.0)

  abbrev bare_block : Block-F ((i : Item) × LedItem i) ((a : Arm) × LedArm a) ((b : Block) × LedBlock b) ((p : Piece) × LedPiece p) → Block-F Item Arm Block Piece
  bare_block = map-Block ((i : Item) × LedItem i) ((a : Arm) × LedArm a) ((b : Block) × LedBlock b) ((p : Piece) × LedPiece p) Item Arm Block Piece (λ e. e.0) (λ e. e.0) (λ e. e.0) (λ e. e.0)

  abbrev bare_piece : Piece-F ((i : Item) × LedItem i) ((a : Arm) × LedArm a) ((b : Block) × LedBlock b) ((p : Piece) × LedPiece p) → Piece-F Item Arm Block Piece
  bare_piece = map-Piece ((i : Item) × LedItem i) ((a : Arm) × LedArm a) ((b : Block) × LedBlock b) ((p : Piece) × LedPiece p) Item Arm Block Piece (λ e. e.0) (λ e. e.0) (λ e. e.0) (λ e. e.0)

  -- a layer, as its parts are folded
  abbrev before_item : Item-F Item Arm Block Piece → Item-F I A B P
  before_item = map-Item Item Arm Block Piece I A B P (folded_item n) (folded_arm n) (folded_block n) (folded_piece n)

  abbrev before_arm : Arm-F Item Arm Block Piece → Arm-F I A B P
  before_arm = map-Arm Item Arm Block Piece I A B P (folded_item n) (folded_arm n) (folded_block n) (folded_piece n)

  abbrev before_block : Block-F Item Arm Block Piece → Block-F I A B P
  before_block = map-Block Item Arm Block Piece I A B P (folded_item n) (folded_arm n) (folded_block n) (folded_piece n)

  abbrev before_piece : Piece-F Item Arm Block Piece → Piece-F I A B P
  before_piece = map-Piece Item Arm Block Piece I A B P (folded_item n) (folded_arm n) (folded_block n) (folded_piece n)

  abbrev behind_item : Item-F Item Arm Block Piece → Item-F J C D Q
  behind_item x = map-Item Item Arm Block Piece J C D Q (folded_item m) (folded_arm m) (folded_block m) (folded_piece m) (in_item changed x)

  abbrev behind_arm : Arm-F Item Arm Block Piece → Arm-F J C D Q
  behind_arm x = map-Arm Item Arm Block Piece J C D Q (folded_item m) (folded_arm m) (folded_block m) (folded_piece m) (in_arm changed x)

  abbrev behind_block : Block-F Item Arm Block Piece → Block-F J C D Q
  behind_block x = map-Block Item Arm Block Piece J C D Q (folded_item m) (folded_arm m) (folded_block m) (folded_piece m) (in_block changed x)

  abbrev behind_piece : Piece-F Item Arm Block Piece → Piece-F J C D Q
  behind_piece x = map-Piece Item Arm Block Piece J C D Q (folded_item m) (folded_arm m) (folded_block m) (folded_piece m) (in_piece changed x)

  led_layer : (y : Item-F ((i : Item) × LedItem i) ((a : Arm) × LedArm a) ((b : Block) × LedBlock b) ((p : Piece) × LedPiece p)) → behind_item (bare_item y) ≡ led_item h (before_item (bare_item y))
  led_layer (Declare ds) = refl
  led_layer (Assign s) = refl
  led_layer (Do c) = refl
  led_layer (Nest b) = ap (λ (c : D). Nest c) b.1
  led_layer (If arms None) = ap (λ (xs : List C). If xs None) (all_lead (folded_arm m) changed.arm h.arm (folded_arm n) arms)
  led_layer (If arms (Some b)) = ap (λ (xs : List C). If xs (Some (folded_block m (changed.block b.0)))) (all_lead (folded_arm m) changed.arm h.arm (folded_arm n) arms)
      ∙ ap (λ (c : D). If (map h.arm (map (folded_arm n) (map (λ e. e.0) arms))) (Some c)) b.1
  led_layer (While test body) = ap (λ (c : D). While test c) body.1
  led_layer (For head body) = ap (λ (c : D). For head c) body.1
  led_layer Break = refl
  led_layer Continue = refl
  led_layer (Return value at) = refl

  step_item : (x : Item-F Item Arm Block Piece) (y : Item-F ((i : Item) × LedItem i) ((a : Arm) × LedArm a) ((b : Block) × LedBlock b) ((p : Piece) × LedPiece p)) → bare_item y ≡ x → LedItem (roll-Item x)
  step_item x y is =
      ap (folded_item m) (rebuilds.item x) ∙ fold-roll-Item J C D Q m.item m.arm m.block m.piece (in_item changed x)
      ∙ ap m.item (subst (λ (z : Item-F Item Arm Block Piece). behind_item z ≡ led_item h (before_item z)) is (led_layer y))
      ∙ l.item (before_item x)
      ∙ ap h.item (sym (fold-roll-Item I A B P n.item n.arm n.block n.piece x))

  step_arm : (x : Arm-F Item Arm Block Piece) (y : Arm-F ((i : Item) × LedItem i) ((a : Arm) × LedArm a) ((b : Block) × LedBlock b) ((p : Piece) × LedPiece p)) → bare_arm y ≡ x → LedArm (roll-Arm x)
  step_arm x y is =
      let led : behind_arm (bare_arm y) ≡ led_arm h (before_arm (bare_arm y)) = ap (λ (b : D). record { test = y.test; body = b }) y.body.1 in
      ap (folded_arm m) (rebuilds.arm x) ∙ fold-roll-Arm J C D Q m.item m.arm m.block m.piece (in_arm changed x)
      ∙ ap m.arm (subst (λ (z : Arm-F Item Arm Block Piece). behind_arm z ≡ led_arm h (before_arm z)) is led)
      ∙ l.arm (before_arm x)
      ∙ ap h.arm (sym (fold-roll-Arm I A B P n.item n.arm n.block n.piece x))

  step_block : (x : Block-F Item Arm Block Piece) (y : Block-F ((i : Item) × LedItem i) ((a : Arm) × LedArm a) ((b : Block) × LedBlock b) ((p : Piece) × LedPiece p)) → bare_block y ≡ x → LedBlock (roll-Block x)
  step_block x y is =
      let led : behind_block (bare_block y) ≡ led_block h (before_block (bare_block y)) = ap (λ (ps : List Q). record { items = ps; last_gap = y.last_gap; braced = y.braced; start = y.start; end = y.end }) (all_lead (folded_piece m) changed.piece h.piece (folded_piece n) y.items) in
      ap (folded_block m) (rebuilds.block x) ∙ fold-roll-Block J C D Q m.item m.arm m.block m.piece ((gap_layers f).block (in_block changed x))
      ∙ ap (λ (z : Block-F J C D Q). m.block (record z { last_gap = f x.last_gap })) (subst (λ (z : Block-F Item Arm Block Piece). behind_block z ≡ led_block h (before_block z)) is led)
      ∙ l.block (before_block x)
      ∙ ap h.block (sym (fold-roll-Block I A B P n.item n.arm n.block n.piece x))

  step_piece : (x : Piece-F Item Arm Block Piece) (y : Piece-F ((i : Item) × LedItem i) ((a : Arm) × LedArm a) ((b : Block) × LedBlock b) ((p : Piece) × LedPiece p)) → bare_piece y ≡ x → LedPiece (roll-Piece x)
  step_piece x y is =
      let led : behind_piece (bare_piece y) ≡ led_piece h (before_piece (bare_piece y)) = ap (λ (i : J). record { gap = y.gap; item = i; start = y.start; end = y.end }) y.item.1 in
      ap (folded_piece m) (rebuilds.piece x) ∙ fold-roll-Piece J C D Q m.item m.arm m.block m.piece ((gap_layers f).piece (in_piece changed x))
      ∙ ap (λ (z : Piece-F J C D Q). m.piece (record z { gap = f x.gap })) (subst (λ (z : Piece-F Item Arm Block Piece). behind_piece z ≡ led_piece h (before_piece z)) is led)
      ∙ l.piece (before_piece x)
      ∙ ap h.piece (sym (fold-roll-Piece I A B P n.item n.arm n.block n.piece x))

  pub fold_led : (b : Block) → folded_block m (regapped_block f b) ≡ h.block (folded_block n b)
  fold_led = ind-Block LedItem LedArm LedBlock LedPiece step_item step_arm step_block step_piece

-- a fold that doesn't look at what is changed

abbrev nowhere : (I A B P : Type 0) → Leads I A B P I A B P
nowhere I A B P = record { item = λ x. x; arm = λ x. x; block = λ x. x; piece = λ x. x }

stays_item : {I A B P : Type 0} (x : Item-F I A B P) → led_item (nowhere I A B P) x ≡ x
stays_item (Declare ds) = refl
stays_item (Assign s) = refl
stays_item (Do c) = refl
stays_item (Nest b) = refl
stays_item {I} {A} {B} {P} (If arms None) = ap (λ (xs : List A). If xs None) (map-id arms)
stays_item {I} {A} {B} {P} (If arms (Some b)) = ap (λ (xs : List A). If xs (Some b)) (map-id arms)
stays_item (While test body) = refl
stays_item (For head body) = refl
stays_item Break = refl
stays_item Continue = refl
stays_item (Return value at) = refl

module _ {I A B P : Type 0} (item : Item-F I A B P → I) (arm : Arm-F I A B P → A) (block : Block-F I A B P → B) (piece : Piece-F I A B P → P)
    (f : Gap → Gap)
    (block_blind : (x : Block-F I A B P) → block (record x { last_gap = f x.last_gap }) ≡ block x)
    (piece_blind : (x : Piece-F I A B P) → piece (record x { gap = f x.gap }) ≡ piece x) where
  abbrev itself : Algebra I A B P
  itself = record { item = item; arm = arm; block = block; piece = piece }

  pub fold_kept : (b : Block) → fold-Block I A B P item arm block piece (regapped_block f b) ≡ fold-Block I A B P item arm block piece b
  fold_kept = fold_led f itself itself (nowhere I A B P) (record {
    item = λ x. ap item (stays_item x);
    arm = λ x. refl;
    block = λ x. ap (λ (ps : List P). block (record { items = ps; last_gap = f x.last_gap; braced = x.braced; start = x.start; end = x.end })) (map-id x.items) ∙ block_blind x;
    piece = λ x. piece_blind x;
  })
