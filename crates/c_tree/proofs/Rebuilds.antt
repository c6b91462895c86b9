-- Functions that rebuild each layer of a tree, and when two of them agree.
use Rattle.std.proofs.Common.{◌≡◌, List, [], ◌∷◌, map, Option, Some, None, option_map, refl, ap, sym, subst, ◌∙◌}
use Rattle.std.proofs.lemmas.List.{map-id}
use Rattle.std.proofs.lemmas.Simd.{map-map}
use Rattle.std.proofs.lemmas.Iterator.Adapters.{option_map_id}
use Rattle.c_tree.specs.declared.program.Block.{Block, Block-F, roll-Block, fold-Block, fold-roll-Block, map-Block, ind-Block}
use Rattle.c_tree.specs.declared.program.Piece.{Piece, Piece-F, roll-Piece, fold-Piece, fold-roll-Piece, map-Piece, ind-Piece}
use Rattle.c_tree.specs.declared.program.Item.{Item, Item-F, roll-Item, fold-Item, fold-roll-Item, map-Item, ind-Item}
use Rattle.c_tree.specs.declared.program.Item.TheOpen.{Declare, Assign, Do, Nest, If, While, For, Break, Continue, Return}
use Rattle.c_tree.specs.declared.program.Arm.{Arm, Arm-F, roll-Arm, fold-Arm, fold-roll-Arm, map-Arm, ind-Arm}

-- a function on each of the four types
pub record Maps : Type 0 where
  pub item : Item → Item
  pub arm : Arm → Arm
  pub block : Block → Block
  pub piece : Piece → Piece

-- what becomes of each layer, its parts aside
pub record Layers : Type 0 where
  pub item : Item-F Item Arm Block Piece → Item-F Item Arm Block Piece
  pub arm : Arm-F Item Arm Block Piece → Arm-F Item Arm Block Piece
  pub block : Block-F Item Arm Block Piece → Block-F Item Arm Block Piece
  pub piece : Piece-F Item Arm Block Piece → Piece-F Item Arm Block Piece

-- a layer with f of each part

abbrev pub in_item : Maps → Item-F Item Arm Block Piece → Item-F Item Arm Block Piece
in_item f (Declare ds) = Declare ds
in_item f (Assign s) = Assign s
in_item f (Do c) = Do c
in_item f (Nest b) = Nest (f.block b)
in_item f (If arms otherwise) = If (map f.arm arms) (option_map f.block otherwise)
in_item f (While test body) = While test (f.block body)
in_item f (For head body) = For head (f.block body)
in_item f Break = Break
in_item f Continue = Continue
in_item f (Return value at) = Return value at

abbrev pub in_arm : Maps → Arm-F Item Arm Block Piece → Arm-F Item Arm Block Piece
in_arm f a = record { test = a.test; body = f.block a.body }

abbrev pub in_block : Maps → Block-F Item Arm Block Piece → Block-F Item Arm Block Piece
in_block f b = record { items = map f.piece b.items; last_gap = b.last_gap; braced = b.braced; start = b.start; end = b.end }

abbrev pub in_piece : Maps → Piece-F Item Arm Block Piece → Piece-F Item Arm Block Piece
in_piece f p = record { gap = p.gap; item = f.item p.item; start = p.start; end = p.end }

-- f turns each layer as l says
pub record Rebuilds (f : Maps) (l : Layers) : Type 0 where
  pub item : (x : Item-F Item Arm Block Piece) → f.item (roll-Item x) ≡ roll-Item (l.item (in_item f x))
  pub arm : (x : Arm-F Item Arm Block Piece) → f.arm (roll-Arm x) ≡ roll-Arm (l.arm (in_arm f x))
  pub block : (x : Block-F Item Arm Block Piece) → f.block (roll-Block x) ≡ roll-Block (l.block (in_block f x))
  pub piece : (x : Piece-F Item Arm Block Piece) → f.piece (roll-Piece x) ≡ roll-Piece (l.piece (in_piece f x))

-- f and g give the same

abbrev SameItem : Maps → Maps → Item → Type 0
SameItem f g i = f.item i ≡ g.item i

abbrev SameArm : Maps → Maps → Arm → Type 0
SameArm f g a = f.arm a ≡ g.arm a

abbrev SameBlock : Maps → Maps → Block → Type 0
SameBlock f g b = f.block b ≡ g.block b

abbrev SamePiece : Maps → Maps → Piece → Type 0
SamePiece f g p = f.piece p ≡ g.piece p

same_all : {A : Type 0} (f g : A → A) (xs : List ((x : A) × (f x ≡ g x))) → map f (map (λ e. e.0) xs) ≡ map g (map (λ e. e.0) xs)
same_all f g [] = refl
same_all {A} f g (x ∷ xs) = ap (λ (y : A). y ∷ map f (map (λ e. e.0) xs)) x.1 ∙ ap (λ (ys : List A). g x.0 ∷ ys) (same_all f g xs)

abbrev plain_item : (f g : Maps) → Item-F ((i : Item) × SameItem f g i) ((a : Arm) × SameArm f g a) ((b : Block) × SameBlock f g b) ((p : Piece) × SamePiece f g p) → Item-F Item Arm Block Piece
plain_item f g = map-Item ((i : Item) × SameItem f g i) ((a : Arm) × SameArm f g a) ((b : Block) × SameBlock f g b) ((p : Piece) × SamePiece f g p) Item Arm Block Piece (λ e. e.0) (λ e. e.0) (λ e. e.0) (λ e. e.0)

held_item : (f g : Maps) (y : Item-F ((i : Item) × SameItem f g i) ((a : Arm) × SameArm f g a) ((b : Block) × SameBlock f g b) ((p : Piece) × SamePiece f g p)) → in_item f (plain_item f g y) ≡ in_item g (plain_item f g y)
held_item f g (Declare ds) = refl
held_item f g (Assign s) = refl
held_item f g (Do c) = refl
held_item f g (Nest b) = ap (λ (b : Block). Nest b) b.1
held_item f g (If arms None) = ap (λ (xs : List Arm). If xs None) (same_all f.arm g.arm arms)
held_item f g (If arms (Some b)) = ap (λ (xs : List Arm). If xs (Some (f.block b.0))) (same_all f.arm g.arm arms) ∙ ap (λ (c : Block). If (map g.arm (map (λ e. e.0) arms)) (Some c)) b.1
held_item f g (While test body) = ap (λ (b : Block). While test b) body.1
held_item f g (For head body) = ap (λ (b : Block). For head b) body.1
held_item f g Break = refl
held_item f g Continue = refl
held_item f g (Return value at) = refl

step_item : (f g : Maps) (l : Layers) → Rebuilds f l → Rebuilds g l → (x : Item-F Item Arm Block Piece) (y : Item-F ((i : Item) × SameItem f g i) ((a : Arm) × SameArm f g a) ((b : Block) × SameBlock f g b) ((p : Piece) × SamePiece f g p)) → plain_item f g y ≡ x → SameItem f g (roll-Item x)
step_item f g l p q x y is =
    let held = subst (λ (z : Item-F Item Arm Block Piece). in_item f z ≡ in_item g z) is (held_item f g y) in
    p.item x ∙ ap (λ (z : Item-F Item Arm Block Piece). roll-Item (l.item z)) held ∙ sym (q.item x)

abbrev plain_arm : (f g : Maps) → Arm-F ((i : Item) × SameItem f g i) ((a : Arm) × SameArm f g a) ((b : Block) × SameBlock f g b) ((p : Piece) × SamePiece f g p) → Arm-F Item Arm Block Piece
plain_arm f g = map-Arm ((i : Item) × SameItem f g i) ((a : Arm) × SameArm f g a) ((b : Block) × SameBlock f g b) ((p : Piece) × SamePiece f g p) Item Arm Block Piece (λ e. e.0) (λ e. e.0) (λ e. e.0) (λ e. e.0)

step_arm : (f g : Maps) (l : Layers) → Rebuilds f l → Rebuilds g l → (x : Arm-F Item Arm Block Piece) (y : Arm-F ((i : Item) × SameItem f g i) ((a : Arm) × SameArm f g a) ((b : Block) × SameBlock f g b) ((p : Piece) × SamePiece f g p)) → plain_arm f g y ≡ x → SameArm f g (roll-Arm x)
step_arm f g l p q x y is =
    let body : in_arm f (plain_arm f g y) ≡ in_arm g (plain_arm f g y) = ap (λ (b : Block). record { test = y.test; body = b }) y.body.1 in
    let held = subst (λ (z : Arm-F Item Arm Block Piece). in_arm f z ≡ in_arm g z) is body in
    p.arm x ∙ ap (λ (z : Arm-F Item Arm Block Piece). roll-Arm (l.arm z)) held ∙ sym (q.arm x)

abbrev plain_block : (f g : Maps) → Block-F ((i : Item) × SameItem f g i) ((a : Arm) × SameArm f g a) ((b : Block) × SameBlock f g b) ((p : Piece) × SamePiece f g p) → Block-F Item Arm Block Piece
plain_block f g = map-Block ((i : Item) × SameItem f g i) ((a : Arm) × SameArm f g a) ((b : Block) × SameBlock f g b) ((p : Piece) × SamePiece f g p) Item Arm Block Piece (λ e. e.0) (λ e. e.0) (λ e. e.0) (λ e. e.0)

step_block : (f g : Maps) (l : Layers) → Rebuilds f l → Rebuilds g l → (x : Block-F Item Arm Block Piece) (y : Block-F ((i : Item) × SameItem f g i) ((a : Arm) × SameArm f g a) ((b : Block) × SameBlock f g b) ((p : Piece) × SamePiece f g p)) → plain_block f g y ≡ x → SameBlock f g (roll-Block x)
step_block f g l p q x y is =
    let items : in_block f (plain_block f g y) ≡ in_block g (plain_block f g y) = ap (λ (ps : List Piece). record { items = ps; last_gap = y.last_gap; braced = y.braced; start = y.start; end = y.end }) (same_all f.piece g.piece y.items) in
    let held = subst (λ (z : Block-F Item Arm Block Piece). in_block f z ≡ in_block g z) is items in
    p.block x ∙ ap (λ (z : Block-F Item Arm Block Piece). roll-Block (l.block z)) held ∙ sym (q.block x)

abbrev plain_piece : (f g : Maps) → Piece-F ((i : Item) × SameItem f g i) ((a : Arm) × SameArm f g a) ((b : Block) × SameBlock f g b) ((p : Piece) × SamePiece f g p) → Piece-F Item Arm Block Piece
plain_piece f g = map-Piece ((i : Item) × SameItem f g i) ((a : Arm) × SameArm f g a) ((b : Block) × SameBlock f g b) ((p : Piece) × SamePiece f g p) Item Arm Block Piece (λ e. e.0) (λ e. e.0) (λ e. e.0) (λ e. e.0)

step_piece : (f g : Maps) (l : Layers) → Rebuilds f l → Rebuilds g l → (x : Piece-F Item Arm Block Piece) (y : Piece-F ((i : Item) × SameItem f g i) ((a : Arm) × SameArm f g a) ((b : Block) × SameBlock f g b) ((p : Piece) × SamePiece f g p)) → plain_piece f g y ≡ x → SamePiece f g (roll-Piece x)
step_piece f g l p q x y is =
    let item : in_piece f (plain_piece f g y) ≡ in_piece g (plain_piece f g y) = ap (λ (i : Item). record { gap = y.gap; item = i; start = y.start; end = y.end }) y.item.1 in
    let held = subst (λ (z : Piece-F Item Arm Block Piece). in_piece f z ≡ in_piece g z) is item in
    p.piece x ∙ ap (λ (z : Piece-F Item Arm Block Piece). roll-Piece (l.piece z)) held ∙ sym (q.piece x)

-- two functions that turn each layer alike are the same

pub same_item : (f g : Maps) (l : Layers) → Rebuilds f l → Rebuilds g l → (i : Item) → f.item i ≡ g.item i
same_item f g l p q = ind-Item (SameItem f g) (SameArm f g) (SameBlock f g) (SamePiece f g) (step_item f g l p q) (step_arm f g l p q) (step_block f g l p q) (step_piece f g l p q)

pub same_arm : (f g : Maps) (l : Layers) → Rebuilds f l → Rebuilds g l → (a : Arm) → f.arm a ≡ g.arm a
same_arm f g l p q = ind-Arm (SameItem f g) (SameArm f g) (SameBlock f g) (SamePiece f g) (step_item f g l p q) (step_arm f g l p q) (step_block f g l p q) (step_piece f g l p q)

pub same_block : (f g : Maps) (l : Layers) → Rebuilds f l → Rebuilds g l → (b : Block) → f.block b ≡ g.block b
same_block f g l p q = ind-Block (SameItem f g) (SameArm f g) (SameBlock f g) (SamePiece f g) (step_item f g l p q) (step_arm f g l p q) (step_block f g l p q) (step_piece f g l p q)

pub same_piece : (f g : Maps) (l : Layers) → Rebuilds f l → Rebuilds g l → (p : Piece) → f.piece p ≡ g.piece p
same_piece f g l p q = ind-Piece (SameItem f g) (SameArm f g) (SameBlock f g) (SamePiece f g) (step_item f g l p q) (step_arm f g l p q) (step_block f g l p q) (step_piece f g l p q)

-- the function that turns each layer as l says
abbrev pub rebuilt : Layers → Maps
rebuilt l = record {
  item = fold-Item Item Arm Block Piece (λ x. roll-Item (l.item x)) (λ x. roll-Arm (l.arm x)) (λ x. roll-Block (l.block x)) (λ x. roll-Piece (l.piece x));
  arm = fold-Arm Item Arm Block Piece (λ x. roll-Item (l.item x)) (λ x. roll-Arm (l.arm x)) (λ x. roll-Block (l.block x)) (λ x. roll-Piece (l.piece x));
  block = fold-Block Item Arm Block Piece (λ x. roll-Item (l.item x)) (λ x. roll-Arm (l.arm x)) (λ x. roll-Block (l.block x)) (λ x. roll-Piece (l.piece x));
  piece = fold-Piece Item Arm Block Piece (λ x. roll-Item (l.item x)) (λ x. roll-Arm (l.arm x)) (λ x. roll-Block (l.block x)) (λ x. roll-Piece (l.piece x));
}

rolled_item : (l : Layers) (x : Item-F Item Arm Block Piece) → (rebuilt l).item (roll-Item x) ≡ roll-Item (l.item (map-Item Item Arm Block Piece Item Arm Block Piece (rebuilt l).item (rebuilt l).arm (rebuilt l).block (rebuilt l).piece x))
rolled_item l = fold-roll-Item Item Arm Block Piece (λ x. roll-Item (l.item x)) (λ x. roll-Arm (l.arm x)) (λ x. roll-Block (l.block x)) (λ x. roll-Piece (l.piece x))

mapped_item : (f : Maps) (x : Item-F Item Arm Block Piece) → map-Item Item Arm Block Piece Item Arm Block Piece f.item f.arm f.block f.piece x ≡ in_item f x
mapped_item f (Declare ds) = refl
mapped_item f (Assign s) = refl
mapped_item f (Do c) = refl
mapped_item f (Nest b) = refl
mapped_item f (If arms None) = refl
mapped_item f (If arms (Some b)) = refl
mapped_item f (While test body) = refl
mapped_item f (For head body) = refl
mapped_item f Break = refl
mapped_item f Continue = refl
mapped_item f (Return value at) = refl

pub rebuilt_rebuilds : (l : Layers) → Rebuilds (rebuilt l) l
rebuilt_rebuilds l = record {
  item = λ x. rolled_item l x ∙ ap (λ (z : Item-F Item Arm Block Piece). roll-Item (l.item z)) (mapped_item (rebuilt l) x);
  arm = fold-roll-Arm Item Arm Block Piece (λ x. roll-Item (l.item x)) (λ x. roll-Arm (l.arm x)) (λ x. roll-Block (l.block x)) (λ x. roll-Piece (l.piece x));
  block = fold-roll-Block Item Arm Block Piece (λ x. roll-Item (l.item x)) (λ x. roll-Arm (l.arm x)) (λ x. roll-Block (l.block x)) (λ x. roll-Piece (l.piece x));
  piece = fold-roll-Piece Item Arm Block Piece (λ x. roll-Item (l.item x)) (λ x. roll-Arm (l.arm x)) (λ x. roll-Block (l.block x)) (λ x. roll-Piece (l.piece x));
}

-- what leaves each layer as it is

abbrev pub as_it_stands : Maps
as_it_stands = record { item = λ x. x; arm = λ x. x; block = λ x. x; piece = λ x. x }

abbrev pub no_change : Layers
no_change = record { item = λ x. x; arm = λ x. x; block = λ x. x; piece = λ x. x }

kept_item : (x : Item-F Item Arm Block Piece) → x ≡ in_item as_it_stands x
kept_item (Declare ds) = refl
kept_item (Assign s) = refl
kept_item (Do c) = refl
kept_item (Nest b) = refl
kept_item (If arms otherwise) = ap (λ (xs : List Arm). If xs otherwise) (sym (map-id arms)) ∙ ap (λ (o : Option Block). If (map (λ x. x) arms) o) (sym (option_map_id otherwise))
kept_item (While test body) = refl
kept_item (For head body) = refl
kept_item Break = refl
kept_item Continue = refl
kept_item (Return value at) = refl

pub stands_rebuilds : Rebuilds as_it_stands no_change
stands_rebuilds = record {
  item = λ x. ap (λ (z : Item-F Item Arm Block Piece). roll-Item z) (kept_item x);
  arm = λ x. refl;
  block = λ x. ap (λ (ps : List Piece). roll-Block (record { items = ps; last_gap = x.last_gap; braced = x.braced; start = x.start; end = x.end })) (sym (map-id x.items));
  piece = λ x. refl;
}

-- f after g

abbrev pub after : Maps → Maps → Maps
after f g = record { item = λ x. f.item (g.item x); arm = λ x. f.arm (g.arm x); block = λ x. f.block (g.block x); piece = λ x. f.piece (g.piece x) }

pub option_map_twice : {A B C : Type 0} (f : B → C) (g : A → B) (x : Option A) → option_map f (option_map g x) ≡ option_map (λ x. f (g x)) x
option_map_twice f g None = refl
option_map_twice f g (Some x) = refl

through_item : (f g : Maps) (x : Item-F Item Arm Block Piece) → in_item f (in_item g x) ≡ in_item (after f g) x
through_item f g (Declare ds) = refl
through_item f g (Assign s) = refl
through_item f g (Do c) = refl
through_item f g (Nest b) = refl
through_item f g (If arms otherwise) = ap (λ (xs : List Arm). If xs (option_map f.block (option_map g.block otherwise))) (map-map f.arm g.arm arms) ∙ ap (λ (o : Option Block). If (map (λ x. f.arm (g.arm x)) arms) o) (option_map_twice f.block g.block otherwise)
through_item f g (While test body) = refl
through_item f g (For head body) = refl
through_item f g Break = refl
through_item f g Continue = refl
through_item f g (Return value at) = refl

-- l leaves the parts to f, whatever they are
pub record Commutes (f : Maps) (l : Layers) : Type 0 where
  pub item : (x : Item-F Item Arm Block Piece) → in_item f (l.item x) ≡ l.item (in_item f x)
  pub arm : (x : Arm-F Item Arm Block Piece) → in_arm f (l.arm x) ≡ l.arm (in_arm f x)
  pub block : (x : Block-F Item Arm Block Piece) → in_block f (l.block x) ≡ l.block (in_block f x)
  pub piece : (x : Piece-F Item Arm Block Piece) → in_piece f (l.piece x) ≡ l.piece (in_piece f x)

-- l after m is n
pub record Joins (l m n : Layers) : Type 0 where
  pub item : (x : Item-F Item Arm Block Piece) → l.item (m.item x) ≡ n.item x
  pub arm : (x : Arm-F Item Arm Block Piece) → l.arm (m.arm x) ≡ n.arm x
  pub block : (x : Block-F Item Arm Block Piece) → l.block (m.block x) ≡ n.block x
  pub piece : (x : Piece-F Item Arm Block Piece) → l.piece (m.piece x) ≡ n.piece x

pub after_rebuilds : (f g : Maps) (l m n : Layers) → Rebuilds f l → Rebuilds g m → Commutes f m → Joins l m n → Rebuilds (after f g) n
after_rebuilds f g l m n p q across joint = record {
  item = λ x. ap f.item (q.item x) ∙ p.item (m.item (in_item g x)) ∙ ap (λ (z : Item-F Item Arm Block Piece). roll-Item (l.item z)) (across.item (in_item g x))
      ∙ ap (λ (z : Item-F Item Arm Block Piece). roll-Item z) (joint.item (in_item f (in_item g x))) ∙ ap (λ (z : Item-F Item Arm Block Piece). roll-Item (n.item z)) (through_item f g x);
  arm = λ x. ap f.arm (q.arm x) ∙ p.arm (m.arm (in_arm g x)) ∙ ap (λ (z : Arm-F Item Arm Block Piece). roll-Arm (l.arm z)) (across.arm (in_arm g x))
      ∙ ap (λ (z : Arm-F Item Arm Block Piece). roll-Arm z) (joint.arm (in_arm f (in_arm g x)));
  block = λ x. ap f.block (q.block x) ∙ p.block (m.block (in_block g x)) ∙ ap (λ (z : Block-F Item Arm Block Piece). roll-Block (l.block z)) (across.block (in_block g x))
      ∙ ap (λ (z : Block-F Item Arm Block Piece). roll-Block z) (joint.block (in_block f (in_block g x)))
      ∙ ap (λ (ps : List Piece). roll-Block (n.block (record { items = ps; last_gap = x.last_gap; braced = x.braced; start = x.start; end = x.end }))) (map-map f.piece g.piece x.items);
  piece = λ x. ap f.piece (q.piece x) ∙ p.piece (m.piece (in_piece g x)) ∙ ap (λ (z : Piece-F Item Arm Block Piece). roll-Piece (l.piece z)) (across.piece (in_piece g x))
      ∙ ap (λ (z : Piece-F Item Arm Block Piece). roll-Piece z) (joint.piece (in_piece f (in_piece g x)));
}
