-- What is printed of a block and its parts, and these parts moved, one level opened.
use Rattle.std.proofs.Common.{◌≡◌, ℕ, Bool, List, [], ◌∷◌, ◌++◌, map, codes, Option, Some, None, option_map, refl, ap, sym, subst, ◌∙◌}
use Rattle.c_lexer.specs.declared.token.Kind.{Kind}
use Rattle.c_tree.specs.declared.tree.Arm.{Arm, Arm-F, roll-Arm, fold-Arm, fold-roll-Arm, map-Arm}
use Rattle.c_tree.specs.declared.tree.Block.{Block, Block-F, roll-Block, fold-roll-Block, map-Block, ind-Block}
use Rattle.c_tree.specs.declared.tree.Call.{Call}
use Rattle.c_tree.specs.declared.tree.Declr.{Declr}
use Rattle.c_tree.specs.declared.tree.Expr.{Expr}
use Rattle.c_tree.specs.declared.tree.ForHead.{ForHead}
use Rattle.c_tree.specs.declared.tree.Free.{Free}
use Rattle.c_tree.specs.declared.tree.Item.{Item, Item-F, roll-Item, fold-Item, fold-roll-Item, map-Item}
use Rattle.c_tree.specs.declared.tree.Item.TheVariants as item
use Rattle.c_tree.specs.declared.tree.Item.TheOpen.{Declare, Assign, Do, Nest, If, While, For, Break, Continue, Return}
use Rattle.c_tree.specs.declared.tree.Piece.{Piece, Piece-F, roll-Piece, fold-Piece, fold-roll-Piece, map-Piece}
use Rattle.c_tree.specs.declared.tree.Right.{Right}
use Rattle.c_tree.specs.declared.tree.Simple.{Simple}
use Rattle.c_parser.specs.Blocks.{gap, piece, arm, block}
use Rattle.c_parser.specs.Alike.{moved_expr, moved_call, moved_right, moved_declr, moved_simple, moved_for_head, moved_free, moved_gap, moved_item, moved_block}
use Rattle.c_parser.specs.Printed.{key, mark, each, maybe, ended, printed_call, printed_right, printed_simple, printed_decl, printed_free, printed_gap, printed_test, printed_for_head, printed_arms, printed_else, item_layer, arm_layer, block_layer, piece_layer, printed_item, printed_arm, printed_block, printed_piece}
use Rattle.c_parser.proofs.MovedParts.{decl_prints, simple_prints, call_prints, expr_prints, for_head_prints, right_prints, gap_prints, maybe_moved}

-- what is printed of each layer

abbrev printed_item_parts : Item-F Item Arm Block Piece → Item-F (List Kind) (List Kind) (List Kind) (List Kind)
printed_item_parts = map-Item Item Arm Block Piece (List Kind) (List Kind) (List Kind) (List Kind) printed_item printed_arm printed_block printed_piece

rolled_item : (x : Item-F Item Arm Block Piece) → printed_item (roll-Item x) ≡ item_layer (printed_item_parts x)
unfolding printed_item printed_arm printed_block printed_piece
rolled_item = fold-roll-Item (List Kind) (List Kind) (List Kind) (List Kind) item_layer arm_layer block_layer piece_layer

rolled_arm : (x : Arm-F Item Arm Block Piece) → printed_arm (roll-Arm x) ≡ printed_test x.test ++ printed_block x.body
unfolding printed_item printed_arm printed_block printed_piece
rolled_arm = fold-roll-Arm (List Kind) (List Kind) (List Kind) (List Kind) item_layer arm_layer block_layer piece_layer

rolled_block : (x : Block-F Item Arm Block Piece) → printed_block (roll-Block x) ≡ mark (codes "{") ∷ (each (λ ks. ks) (map printed_piece x.items) ++ (printed_gap x.last_gap ++ mark (codes "}") ∷ []))
unfolding printed_item printed_arm printed_block printed_piece
rolled_block = fold-roll-Block (List Kind) (List Kind) (List Kind) (List Kind) item_layer arm_layer block_layer piece_layer

rolled_piece : (x : Piece-F Item Arm Block Piece) → printed_piece (roll-Piece x) ≡ printed_gap x.gap ++ printed_item x.item
unfolding printed_item printed_arm printed_block printed_piece
rolled_piece = fold-roll-Piece (List Kind) (List Kind) (List Kind) (List Kind) item_layer arm_layer block_layer piece_layer

each_of : {A : Type 0} (f : A → List Kind) (xs : List A) → each (λ ks. ks) (map f xs) ≡ each f xs
each_of f [] = refl
each_of f (x ∷ xs) = ap (λ (ks : List Kind). f x ++ ks) (each_of f xs)

pub print_declare : (ds : List Declr) → printed_item (item.Declare ds) ≡ ended (printed_decl ds)
print_declare ds = ap printed_item (sym (item.rolls-Declare ds)) ∙ rolled_item (Declare ds)

pub print_assign : (s : Simple) → printed_item (item.Assign s) ≡ ended (printed_simple s)
print_assign s = ap printed_item (sym (item.rolls-Assign s)) ∙ rolled_item (Assign s)

pub print_call : (c : Call) → printed_item (item.Do c) ≡ ended (printed_call c)
print_call c = ap printed_item (sym (item.rolls-Do c)) ∙ rolled_item (Do c)

pub print_nest : (b : Block) → printed_item (item.Nest b) ≡ printed_block b
print_nest b = ap printed_item (sym (item.rolls-Nest b)) ∙ rolled_item (Nest b)

if_parts : (arms : List Arm) (last : Option Block) → item_layer (printed_item_parts (If arms last)) ≡ printed_arms (map printed_arm arms) ++ maybe printed_else (option_map printed_block last)
if_parts arms None = refl
if_parts arms (Some b) = refl

pub print_if : (arms : List Arm) (last : Option Block) → printed_item (item.If arms last) ≡ printed_arms (map printed_arm arms) ++ maybe printed_else (option_map printed_block last)
print_if arms last = ap printed_item (sym (item.rolls-If arms last)) ∙ rolled_item (If arms last) ∙ if_parts arms last

pub print_while : (e : Expr) (b : Block) → printed_item (item.While e b) ≡ key (codes "while") ∷ (printed_test e ++ printed_block b)
print_while e b = ap printed_item (sym (item.rolls-While e b)) ∙ rolled_item (While e b)

pub print_for : (h : ForHead) (b : Block) → printed_item (item.For h b) ≡ key (codes "for") ∷ (printed_for_head h ++ printed_block b)
print_for h b = ap printed_item (sym (item.rolls-For h b)) ∙ rolled_item (For h b)

pub print_break : printed_item item.Break ≡ ended (key (codes "break") ∷ [])
print_break = ap printed_item (sym item.rolls-Break) ∙ rolled_item Break

pub print_continue : printed_item item.Continue ≡ ended (key (codes "continue") ∷ [])
print_continue = ap printed_item (sym item.rolls-Continue) ∙ rolled_item Continue

pub print_return : (r : Option Right) (at : ℕ) → printed_item (item.Return r at) ≡ ended (key (codes "return") ∷ maybe printed_right r)
print_return r at = ap printed_item (sym (item.rolls-Return r at)) ∙ rolled_item (Return r at)

pub print_arm : (e : Expr) (b : Block) → printed_arm (arm e b) ≡ printed_test e ++ printed_block b
print_arm e b = rolled_arm (record { test = e; body = b })

pub print_piece : (frees : List Free) (i : Item) (start end : ℕ) → printed_piece (piece frees i start end) ≡ each printed_free frees ++ printed_item i
print_piece frees i start end = rolled_piece (record { gap = gap frees; item = i; start = start; end = end })

pub print_block : (pieces : List Piece) (frees : List Free) (braced : Bool) (start end : ℕ)
    → printed_block (block pieces frees braced start end) ≡ mark (codes "{") ∷ (each printed_piece pieces ++ (each printed_free frees ++ mark (codes "}") ∷ []))
print_block pieces frees braced start end =
    rolled_block (record { items = pieces; last_gap = gap frees; braced = braced; start = start; end = end })
    ∙ ap (λ (ks : List Kind). mark (codes "{") ∷ (ks ++ (each printed_free frees ++ mark (codes "}") ∷ []))) (each_of printed_piece pieces)

-- the parts of a block moved as it is

module _ (f : ℕ → ℕ) (g : Bool → Bool) where
  abbrev on_item : Item-F Item Arm Block Piece → Item
  on_item i = roll-Item (moved_item f i)

  abbrev on_arm : Arm-F Item Arm Block Piece → Arm
  on_arm a = roll-Arm (record a { test = moved_expr f a.test })

  abbrev on_block : Block-F Item Arm Block Piece → Block
  on_block b = roll-Block (record b { last_gap = moved_gap f b.last_gap; braced = g b.braced; start = f b.start; end = f b.end })

  abbrev on_piece : Piece-F Item Arm Block Piece → Piece
  on_piece p = roll-Piece (record p { gap = moved_gap f p.gap; start = f p.start; end = f p.end })

  abbrev pub item_moved : Item → Item
  item_moved = fold-Item Item Arm Block Piece on_item on_arm on_block on_piece

  abbrev pub arm_moved : Arm → Arm
  arm_moved = fold-Arm Item Arm Block Piece on_item on_arm on_block on_piece

  abbrev pub piece_moved : Piece → Piece
  piece_moved = fold-Piece Item Arm Block Piece on_item on_arm on_block on_piece

  abbrev moved_parts : Item-F Item Arm Block Piece → Item-F Item Arm Block Piece
  moved_parts = map-Item Item Arm Block Piece Item Arm Block Piece item_moved arm_moved (moved_block f g) piece_moved

  item_rolled : (x : Item-F Item Arm Block Piece) → item_moved (roll-Item x) ≡ roll-Item (moved_item f (moved_parts x))
  item_rolled = fold-roll-Item Item Arm Block Piece on_item on_arm on_block on_piece

  arm_rolled : (x : Arm-F Item Arm Block Piece) → arm_moved (roll-Arm x) ≡ arm (moved_expr f x.test) (moved_block f g x.body)
  arm_rolled = fold-roll-Arm Item Arm Block Piece on_item on_arm on_block on_piece

  block_rolled : (x : Block-F Item Arm Block Piece) → moved_block f g (roll-Block x) ≡ block (map piece_moved x.items) (map (moved_free f) x.last_gap.frees) (g x.braced) (f x.start) (f x.end)
  block_rolled = fold-roll-Block Item Arm Block Piece on_item on_arm on_block on_piece

  piece_rolled : (x : Piece-F Item Arm Block Piece) → piece_moved (roll-Piece x) ≡ piece (map (moved_free f) x.gap.frees) (item_moved x.item) (f x.start) (f x.end)
  piece_rolled = fold-roll-Piece Item Arm Block Piece on_item on_arm on_block on_piece

  pub declare_moved : (ds : List Declr) → item_moved (item.Declare ds) ≡ item.Declare (map (moved_declr f) ds)
  declare_moved ds = ap item_moved (sym (item.rolls-Declare ds)) ∙ item_rolled (Declare ds) ∙ item.rolls-Declare (map (moved_declr f) ds)

  pub assign_moved : (s : Simple) → item_moved (item.Assign s) ≡ item.Assign (moved_simple f s)
  assign_moved s = ap item_moved (sym (item.rolls-Assign s)) ∙ item_rolled (Assign s) ∙ item.rolls-Assign (moved_simple f s)

  pub call_moved : (c : Call) → item_moved (item.Do c) ≡ item.Do (moved_call f c)
  call_moved c = ap item_moved (sym (item.rolls-Do c)) ∙ item_rolled (Do c) ∙ item.rolls-Do (moved_call f c)

  pub nest_moved : (b : Block) → item_moved (item.Nest b) ≡ item.Nest (moved_block f g b)
  nest_moved b = ap item_moved (sym (item.rolls-Nest b)) ∙ item_rolled (Nest b) ∙ item.rolls-Nest (moved_block f g b)

  if_moved_parts : (arms : List Arm) (last : Option Block) → moved_parts (If arms last) ≡ If (map arm_moved arms) (option_map (moved_block f g) last)
  if_moved_parts arms None = refl
  if_moved_parts arms (Some b) = refl

  pub if_moved : (arms : List Arm) (last : Option Block) → item_moved (item.If arms last) ≡ item.If (map arm_moved arms) (option_map (moved_block f g) last)
  if_moved arms last =
      ap item_moved (sym (item.rolls-If arms last)) ∙ item_rolled (If arms last) ∙ ap (λ (x : Item-F Item Arm Block Piece). roll-Item (moved_item f x)) (if_moved_parts arms last)
      ∙ item.rolls-If (map arm_moved arms) (option_map (moved_block f g) last)

  pub while_moved : (e : Expr) (b : Block) → item_moved (item.While e b) ≡ item.While (moved_expr f e) (moved_block f g b)
  while_moved e b = ap item_moved (sym (item.rolls-While e b)) ∙ item_rolled (While e b) ∙ item.rolls-While (moved_expr f e) (moved_block f g b)

  pub for_moved : (h : ForHead) (b : Block) → item_moved (item.For h b) ≡ item.For (moved_for_head f h) (moved_block f g b)
  for_moved h b = ap item_moved (sym (item.rolls-For h b)) ∙ item_rolled (For h b) ∙ item.rolls-For (moved_for_head f h) (moved_block f g b)

  pub break_moved : item_moved item.Break ≡ item.Break
  break_moved = ap item_moved (sym item.rolls-Break) ∙ item_rolled Break ∙ item.rolls-Break

  pub continue_moved : item_moved item.Continue ≡ item.Continue
  continue_moved = ap item_moved (sym item.rolls-Continue) ∙ item_rolled Continue ∙ item.rolls-Continue

  pub return_moved : (r : Option Right) (at : ℕ) → item_moved (item.Return r at) ≡ item.Return (option_map (moved_right f) r) (f at)
  return_moved r at = ap item_moved (sym (item.rolls-Return r at)) ∙ item_rolled (Return r at) ∙ item.rolls-Return (option_map (moved_right f) r) (f at)

  pub arm_of_moved : (e : Expr) (b : Block) → arm_moved (arm e b) ≡ arm (moved_expr f e) (moved_block f g b)
  arm_of_moved e b = arm_rolled (record { test = e; body = b })

  pub piece_of_moved : (frees : List Free) (i : Item) (start end : ℕ) → piece_moved (piece frees i start end) ≡ piece (map (moved_free f) frees) (item_moved i) (f start) (f end)
  piece_of_moved frees i start end = piece_rolled (record { gap = gap frees; item = i; start = start; end = end })

  pub block_of_moved : (pieces : List Piece) (frees : List Free) (braced : Bool) (start end : ℕ)
      → moved_block f g (block pieces frees braced start end) ≡ block (map piece_moved pieces) (map (moved_free f) frees) (g braced) (f start) (f end)
  block_of_moved pieces frees braced start end = block_rolled (record { items = pieces; last_gap = gap frees; braced = braced; start = start; end = end })

  -- neither offsets nor whether bodies have braces show in what is printed

  abbrev SameItem : Item → Type 0
  SameItem i = printed_item (item_moved i) ≡ printed_item i

  abbrev SameArm : Arm → Type 0
  SameArm a = printed_arm (arm_moved a) ≡ printed_arm a

  abbrev SameBlock : Block → Type 0
  SameBlock b = printed_block (moved_block f g b) ≡ printed_block b

  abbrev SamePiece : Piece → Type 0
  SamePiece p = printed_piece (piece_moved p) ≡ printed_piece p

  all_same : {A : Type 0} (p : A → List Kind) (h : A → A) (xs : List ((x : A) × (p (h x) ≡ p x))) → map p (map h (map (λ x. x.0) xs)) ≡ map p (map (λ x. x.0) xs)
  all_same p h [] = refl
  all_same p h (x ∷ xs) = ap (λ (ks : List Kind). ks ∷ map p (map h (map (λ x. x.0) xs))) x.1 ∙ ap (λ (ls : List (List Kind)). p x.0 ∷ ls) (all_same p h xs)

  abbrev plain_item : Item-F ((i : Item) × SameItem i) ((a : Arm) × SameArm a) ((b : Block) × SameBlock b) ((p : Piece) × SamePiece p) → Item-F Item Arm Block Piece
  plain_item = map-Item ((i : Item) × SameItem i) ((a : Arm) × SameArm a) ((b : Block) × SameBlock b) ((p : Piece) × SamePiece p) Item Arm Block Piece (λ e. e.0) (λ e. e.0) (λ e. e.0) (λ e. e.0)

  item_held : (y : Item-F ((i : Item) × SameItem i) ((a : Arm) × SameArm a) ((b : Block) × SameBlock b) ((p : Piece) × SamePiece p))
      → item_layer (printed_item_parts (moved_item f (moved_parts (plain_item y)))) ≡ item_layer (printed_item_parts (plain_item y))
  item_held (Declare ds) = ap ended (decl_prints f ds)
  item_held (Assign s) = ap ended (simple_prints f s)
  item_held (Do c) = ap ended (call_prints f c)
  item_held (Nest b) = b.1
  item_held (If arms None) = ap (λ (ls : List (List Kind)). printed_arms ls ++ []) (all_same printed_arm arm_moved arms)
  item_held (If arms (Some b)) =
      ap (λ (ls : List (List Kind)). printed_arms ls ++ printed_else (printed_block (moved_block f g b.0))) (all_same printed_arm arm_moved arms)
      ∙ ap (λ (ks : List Kind). printed_arms (map printed_arm (map (λ x. x.0) arms)) ++ printed_else ks) b.1
  item_held (While test body) =
      ap (λ (ks : List Kind). key (codes "while") ∷ ((mark (codes "(") ∷ (ks ++ mark (codes ")") ∷ [])) ++ printed_block (moved_block f g body.0))) (expr_prints f test 7)
      ∙ ap (λ (ks : List Kind). key (codes "while") ∷ (printed_test test ++ ks)) body.1
  item_held (For head body) =
      ap (λ (ks : List Kind). key (codes "for") ∷ (ks ++ printed_block (moved_block f g body.0))) (for_head_prints f head)
      ∙ ap (λ (ks : List Kind). key (codes "for") ∷ (printed_for_head head ++ ks)) body.1
  item_held Break = refl
  item_held Continue = refl
  item_held (Return value at) = ap (λ (ks : List Kind). ended (key (codes "return") ∷ ks)) (maybe_moved printed_right (moved_right f) (right_prints f) value)

  item_step : (x : Item-F Item Arm Block Piece) (y : Item-F ((i : Item) × SameItem i) ((a : Arm) × SameArm a) ((b : Block) × SameBlock b) ((p : Piece) × SamePiece p)) → plain_item y ≡ x → SameItem (roll-Item x)
  item_step x y is = subst (λ (z : Item-F Item Arm Block Piece). SameItem (roll-Item z)) is
      (ap printed_item (item_rolled (plain_item y)) ∙ rolled_item (moved_item f (moved_parts (plain_item y))) ∙ item_held y ∙ sym (rolled_item (plain_item y)))

  abbrev plain_arm : Arm-F ((i : Item) × SameItem i) ((a : Arm) × SameArm a) ((b : Block) × SameBlock b) ((p : Piece) × SamePiece p) → Arm-F Item Arm Block Piece
  plain_arm = map-Arm ((i : Item) × SameItem i) ((a : Arm) × SameArm a) ((b : Block) × SameBlock b) ((p : Piece) × SamePiece p) Item Arm Block Piece (λ e. e.0) (λ e. e.0) (λ e. e.0) (λ e. e.0)

  arm_step : (x : Arm-F Item Arm Block Piece) (y : Arm-F ((i : Item) × SameItem i) ((a : Arm) × SameArm a) ((b : Block) × SameBlock b) ((p : Piece) × SamePiece p)) → plain_arm y ≡ x → SameArm (roll-Arm x)
  arm_step x y is = subst (λ (z : Arm-F Item Arm Block Piece). SameArm (roll-Arm z)) is
      (ap printed_arm (arm_rolled (plain_arm y)) ∙ print_arm (moved_expr f y.test) (moved_block f g y.body.0)
      ∙ ap (λ (ks : List Kind). (mark (codes "(") ∷ (ks ++ mark (codes ")") ∷ [])) ++ printed_block (moved_block f g y.body.0)) (expr_prints f y.test 7)
      ∙ ap (λ (ks : List Kind). printed_test y.test ++ ks) y.body.1 ∙ sym (rolled_arm (plain_arm y)))

  abbrev plain_block : Block-F ((i : Item) × SameItem i) ((a : Arm) × SameArm a) ((b : Block) × SameBlock b) ((p : Piece) × SamePiece p) → Block-F Item Arm Block Piece
  plain_block = map-Block ((i : Item) × SameItem i) ((a : Arm) × SameArm a) ((b : Block) × SameBlock b) ((p : Piece) × SamePiece p) Item Arm Block Piece (λ e. e.0) (λ e. e.0) (λ e. e.0) (λ e. e.0)

  block_step : (x : Block-F Item Arm Block Piece) (y : Block-F ((i : Item) × SameItem i) ((a : Arm) × SameArm a) ((b : Block) × SameBlock b) ((p : Piece) × SamePiece p)) → plain_block y ≡ x → SameBlock (roll-Block x)
  block_step x y is = subst (λ (z : Block-F Item Arm Block Piece). SameBlock (roll-Block z)) is
      (ap printed_block (block_rolled (plain_block y)) ∙ rolled_block (record { items = map piece_moved (map (λ x. x.0) y.items); last_gap = moved_gap f y.last_gap; braced = g y.braced; start = f y.start; end = f y.end })
      ∙ ap (λ (ls : List (List Kind)). mark (codes "{") ∷ (each (λ ks. ks) ls ++ (printed_gap (moved_gap f y.last_gap) ++ mark (codes "}") ∷ []))) (all_same printed_piece piece_moved y.items)
      ∙ ap (λ (ks : List Kind). mark (codes "{") ∷ (each (λ ks. ks) (map printed_piece (map (λ x. x.0) y.items)) ++ (ks ++ mark (codes "}") ∷ []))) (gap_prints f y.last_gap)
      ∙ sym (rolled_block (plain_block y)))

  abbrev plain_piece : Piece-F ((i : Item) × SameItem i) ((a : Arm) × SameArm a) ((b : Block) × SameBlock b) ((p : Piece) × SamePiece p) → Piece-F Item Arm Block Piece
  plain_piece = map-Piece ((i : Item) × SameItem i) ((a : Arm) × SameArm a) ((b : Block) × SameBlock b) ((p : Piece) × SamePiece p) Item Arm Block Piece (λ e. e.0) (λ e. e.0) (λ e. e.0) (λ e. e.0)

  piece_step : (x : Piece-F Item Arm Block Piece) (y : Piece-F ((i : Item) × SameItem i) ((a : Arm) × SameArm a) ((b : Block) × SameBlock b) ((p : Piece) × SamePiece p)) → plain_piece y ≡ x → SamePiece (roll-Piece x)
  piece_step x y is = subst (λ (z : Piece-F Item Arm Block Piece). SamePiece (roll-Piece z)) is
      (ap printed_piece (piece_rolled (plain_piece y)) ∙ rolled_piece (record { gap = moved_gap f y.gap; item = item_moved y.item.0; start = f y.start; end = f y.end })
      ∙ ap (λ (ks : List Kind). ks ++ printed_item (item_moved y.item.0)) (gap_prints f y.gap)
      ∙ ap (λ (ks : List Kind). printed_gap y.gap ++ ks) y.item.1 ∙ sym (rolled_piece (plain_piece y)))

  pub block_prints : (b : Block) → printed_block (moved_block f g b) ≡ printed_block b
  block_prints = ind-Block SameItem SameArm SameBlock SamePiece item_step arm_step block_step piece_step
