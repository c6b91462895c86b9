-- Where control may go in a block doesn't hang on its gaps, offsets and braces.
use Rattle.std.proofs.Common.{◌≡◌, Bool, false, List, [], ◌∷◌, map, Option, Some, None, option_map, refl, sym, ap, subst, ◌∙◌}
use Rattle.c_tree.specs.Alike.{bare_expr, bare_item, bare_layer}
use Rattle.c_tree.specs.Flow.{arm_flow, arm_flow_of, arms_flow, block_flow, edges_layer, edges_of, edges_or_hold, flow_of, flow_or, item_flow, item_flow_of, loop, piece_flow, piece_flow_of, sequence}
use Rattle.c_tree.specs.declared.control.Edges.{Edges}
use Rattle.c_tree.specs.declared.control.Flow.{Flow}
use Rattle.c_tree.specs.declared.expr.Expr.{Expr, Expr-F, roll-Expr, map-Expr, fold-roll-Expr, ind-Expr}
use Rattle.c_tree.specs.declared.expr.Expr.TheOpen.{Const, Null, Var, Field, Deref, Index, Unary, Binary}
use Rattle.c_tree.specs.declared.program.Arm.{Arm, Arm-F, roll-Arm, fold-roll-Arm, map-Arm}
use Rattle.c_tree.specs.declared.program.Block.{Block, Block-F, roll-Block, fold-roll-Block, map-Block, ind-Block}
use Rattle.c_tree.specs.declared.program.Gap.{Gap}
use Rattle.c_tree.specs.declared.program.Item.{Item, Item-F, roll-Item, fold-roll-Item, map-Item}
use Rattle.c_tree.specs.declared.program.Item.TheOpen.{Declare, Assign, Do, Nest, If, While, For, Break, Continue, Return}
use Rattle.c_tree.specs.declared.program.Piece.{Piece, Piece-F, roll-Piece, fold-roll-Piece, map-Piece}
use Rattle.c_tree.proofs.Rebuilds.{Layers, Maps, Rebuilds, in_block, in_item, in_piece, rebuilt, rebuilt_rebuilds}

-- tests

abbrev SameEdges : Expr → Type 0
SameEdges e = edges_of (bare_expr e) ≡ edges_of e

bare_rolls : (l : Expr-F Expr) → bare_expr (roll-Expr l) ≡ roll-Expr (bare_layer (map-Expr Expr Expr bare_expr l))
bare_rolls = fold-roll-Expr Expr (λ l. roll-Expr (bare_layer l))

edges_roll : (l : Expr-F Expr) → edges_of (roll-Expr l) ≡ edges_layer (map-Expr Expr Edges edges_of l)
edges_roll = fold-roll-Expr Edges edges_layer

edges_held : (y : Expr-F ((e : Expr) × SameEdges e)) → let x = map-Expr ((e : Expr) × SameEdges e) Expr (λ e. e.0) y in
    edges_layer (map-Expr Expr Edges edges_of (bare_layer (map-Expr Expr Expr bare_expr x))) ≡ edges_layer (map-Expr Expr Edges edges_of x)
edges_held (Const n at) = refl
edges_held (Null at) = refl
edges_held (Var x at) = refl
edges_held (Field e f at) = refl
edges_held (Deref e at) = refl
edges_held (Index e i at) = refl
edges_held (Unary s e at) = ap (λ a. edges_layer (Unary s a at)) e.1
edges_held (Binary o a b at) = ap (λ x. edges_layer (Binary o x (edges_of (bare_expr b.0)) at)) a.1 ∙ ap (λ y. edges_layer (Binary o (edges_of a.0) y at)) b.1

pub edges_kept : (e : Expr) → edges_of (bare_expr e) ≡ edges_of e
edges_kept = ind-Expr SameEdges (λ x y is.
    let held = subst (λ (z : Expr-F Expr). edges_layer (map-Expr Expr Edges edges_of (bare_layer (map-Expr Expr Expr bare_expr z))) ≡ edges_layer (map-Expr Expr Edges edges_of z)) is (edges_held y) in
    ap edges_of (bare_rolls x) ∙ edges_roll (bare_layer (map-Expr Expr Expr bare_expr x)) ∙ held ∙ sym (edges_roll x))

or_hold_kept : (o : Option Expr) → edges_or_hold (option_map bare_expr o) ≡ edges_or_hold o
or_hold_kept None = refl
or_hold_kept (Some e) = edges_kept e

-- blocks, with any braces and gaps

abbrev pub layers_by : (Bool → Bool) → (Gap → Gap) → Layers
layers_by h g = record {
  item = bare_item;
  arm = λ a. record a { test = bare_expr a.test };
  block = λ b. record b { last_gap = g b.last_gap; braced = h b.braced; start = 0; end = 0 };
  piece = λ q. record q { gap = g q.gap; start = 0; end = 0 };
}

abbrev pub layers_with : (Gap → Gap) → Layers
layers_with = layers_by (λ _. false)

module _ (h : Bool → Bool) (g : Gap → Gap) where
  abbrev all : Maps
  all = rebuilt (layers_by h g)

  opens : Rebuilds all (layers_by h g)
  opens = rebuilt_rebuilds (layers_by h g)

  abbrev SameItem : Item → Type 0
  SameItem i = item_flow_of (all.item i) ≡ item_flow_of i

  abbrev SameArm : Arm → Type 0
  SameArm a = arm_flow_of (all.arm a) ≡ arm_flow_of a

  abbrev SameBlock : Block → Type 0
  SameBlock b = flow_of (all.block b) ≡ flow_of b

  abbrev SamePiece : Piece → Type 0
  SamePiece q = piece_flow_of (all.piece q) ≡ piece_flow_of q

  abbrev HeldItems : Type 0
  HeldItems = (i : Item) × SameItem i

  abbrev HeldArms : Type 0
  HeldArms = (a : Arm) × SameArm a

  abbrev HeldBlocks : Type 0
  HeldBlocks = (b : Block) × SameBlock b

  abbrev HeldPieces : Type 0
  HeldPieces = (q : Piece) × SamePiece q

  all_same : {A B : Type 0} (f : A → B) (k : A → A) (xs : List ((x : A) × (f (k x) ≡ f x))) → map f (map k (map (λ x. x.0) xs)) ≡ map f (map (λ x. x.0) xs)
  all_same f k [] = refl
  all_same f k (x ∷ xs) = ap (λ y. y ∷ map f (map k (map (λ x. x.0) xs))) x.1 ∙ ap (λ ys. f x.0 ∷ ys) (all_same f k xs)

  abbrev flows : Item-F Item Arm Block Piece → Item-F Flow (Edges × Flow) Flow Flow
  flows = map-Item Item Arm Block Piece Flow (Edges × Flow) Flow Flow item_flow_of arm_flow_of flow_of piece_flow_of

  abbrev plain : Item-F HeldItems HeldArms HeldBlocks HeldPieces → Item-F Item Arm Block Piece
  plain = map-Item HeldItems HeldArms HeldBlocks HeldPieces Item Arm Block Piece (λ e. e.0) (λ e. e.0) (λ e. e.0) (λ e. e.0)

  item_roll : (x : Item-F Item Arm Block Piece) → item_flow_of (roll-Item x) ≡ item_flow (flows x)
  item_roll = fold-roll-Item Flow (Edges × Flow) Flow Flow item_flow arm_flow block_flow piece_flow

  item_held : (y : Item-F HeldItems HeldArms HeldBlocks HeldPieces) → item_flow (flows (bare_item (in_item all (plain y)))) ≡ item_flow (flows (plain y))
  item_held (Declare ds) = refl
  item_held (Assign s) = refl
  item_held (Do c) = refl
  item_held (Nest b) = b.1
  item_held (If arms None) = ap (λ xs. arms_flow xs (flow_or None)) (all_same arm_flow_of all.arm arms)
  item_held (If arms (Some b)) =
      ap (λ xs. arms_flow xs (flow_of (all.block b.0))) (all_same arm_flow_of all.arm arms) ∙ ap (λ f. arms_flow (map arm_flow_of (map (λ x. x.0) arms)) f) b.1
  item_held (While e b) = ap (λ t. loop t (flow_of (all.block b.0))) (edges_kept e) ∙ ap (loop (edges_of e)) b.1
  item_held (For h b) = ap (λ t. loop t (flow_of (all.block b.0))) (or_hold_kept h.test) ∙ ap (loop (edges_or_hold h.test)) b.1
  item_held Break = refl
  item_held Continue = refl
  item_held (Return r at) = refl

  step_item : (x : Item-F Item Arm Block Piece) (y : Item-F HeldItems HeldArms HeldBlocks HeldPieces) → plain y ≡ x → SameItem (roll-Item x)
  step_item x y is =
      let held = subst (λ (z : Item-F Item Arm Block Piece). item_flow (flows (bare_item (in_item all z))) ≡ item_flow (flows z)) is (item_held y) in
      ap item_flow_of (opens.item x) ∙ item_roll (bare_item (in_item all x)) ∙ held ∙ sym (item_roll x)

  arm_roll : (x : Arm-F Item Arm Block Piece) → arm_flow_of (roll-Arm x) ≡ (edges_of x.test, flow_of x.body)
  arm_roll = fold-roll-Arm Flow (Edges × Flow) Flow Flow item_flow arm_flow block_flow piece_flow

  step_arm : (x : Arm-F Item Arm Block Piece) (y : Arm-F HeldItems HeldArms HeldBlocks HeldPieces) → map-Arm HeldItems HeldArms HeldBlocks HeldPieces Item Arm Block Piece (λ e. e.0) (λ e. e.0) (λ e. e.0) (λ e. e.0) y ≡ x → SameArm (roll-Arm x)
  step_arm x y is =
      let body : SameBlock x.body = subst (λ (z : Arm-F Item Arm Block Piece). SameBlock z.body) is y.body.1 in
      ap arm_flow_of (opens.arm x) ∙ arm_roll (record { test = bare_expr x.test; body = all.block x.body })
      ∙ ap (λ t. (t, flow_of (all.block x.body))) (edges_kept x.test) ∙ ap (λ f. (edges_of x.test, f)) body ∙ sym (arm_roll x)

  block_roll : (x : Block-F Item Arm Block Piece) → flow_of (roll-Block x) ≡ sequence (map piece_flow_of x.items)
  block_roll = fold-roll-Block Flow (Edges × Flow) Flow Flow item_flow arm_flow block_flow piece_flow

  step_block : (x : Block-F Item Arm Block Piece) (y : Block-F HeldItems HeldArms HeldBlocks HeldPieces) → map-Block HeldItems HeldArms HeldBlocks HeldPieces Item Arm Block Piece (λ e. e.0) (λ e. e.0) (λ e. e.0) (λ e. e.0) y ≡ x → SameBlock (roll-Block x)
  step_block x y is =
      let items : map piece_flow_of (map all.piece x.items) ≡ map piece_flow_of x.items =
      subst (λ (z : Block-F Item Arm Block Piece). map piece_flow_of (map all.piece z.items) ≡ map piece_flow_of z.items) is (all_same piece_flow_of all.piece y.items) in
      ap flow_of (opens.block x) ∙ block_roll ((layers_by h g).block (in_block all x)) ∙ ap sequence items ∙ sym (block_roll x)

  piece_roll : (x : Piece-F Item Arm Block Piece) → piece_flow_of (roll-Piece x) ≡ item_flow_of x.item
  piece_roll = fold-roll-Piece Flow (Edges × Flow) Flow Flow item_flow arm_flow block_flow piece_flow

  step_piece : (x : Piece-F Item Arm Block Piece) (y : Piece-F HeldItems HeldArms HeldBlocks HeldPieces) → map-Piece HeldItems HeldArms HeldBlocks HeldPieces Item Arm Block Piece (λ e. e.0) (λ e. e.0) (λ e. e.0) (λ e. e.0) y ≡ x → SamePiece (roll-Piece x)
  step_piece x y is =
      let item : SameItem x.item = subst (λ (z : Piece-F Item Arm Block Piece). SameItem z.item) is y.item.1 in
      ap piece_flow_of (opens.piece x) ∙ piece_roll ((layers_by h g).piece (in_piece all x)) ∙ item ∙ sym (piece_roll x)

  pub flow_kept : (b : Block) → flow_of (all.block b) ≡ flow_of b
  flow_kept = ind-Block SameItem SameArm SameBlock SamePiece step_item step_arm step_block step_piece

-- blocks that are equal but for gaps, offsets and braces
pub same_flow : (f g : Gap → Gap) (b c : Block) → (rebuilt (layers_with f)).block c ≡ (rebuilt (layers_with g)).block b → flow_of c ≡ flow_of b
same_flow f g b c same = sym (flow_kept (λ _. false) f c) ∙ ap flow_of same ∙ flow_kept (λ _. false) g b
