-- Where the frees of each gap are those of its puts, an edit changes nothing.
use Rattle.std.proofs.Common.{◌≡◌, ℕ, Bool, true, false, ◌==◌, ◌&&◌, if◌then◌else◌, List, [], ◌∷◌, ◌++◌, map, flat_map, Option, Some, None, option_map, refl, sym, ap, subst, ◌∙◌}
use Rattle.std.specs.Prelude.{not, nat_lt, length}
use Rattle.std.specs.List.{list_any}
use Rattle.std.proofs.lemmas.Bool.{eq-eqb}
use Rattle.c_lexer.specs.declared.token.Token.{Token}
use Rattle.c_tree.specs.Fill.{puts_at}
use Rattle.c_tree.specs.Numbers.{Gaps, arm_gaps, block_gaps, from_all, gaps_in, gaps_of, item_gaps, piece_gaps}
use Rattle.c_tree.specs.declared.choice.Put.{Put}
use Rattle.c_tree.specs.declared.expr.Expr.{Expr, Expr-F, out-Expr}
use Rattle.c_tree.specs.declared.expr.Expr.TheOpen.{Const, Null, Var, Field, Deref, Index, Unary, Binary}
use Rattle.c_tree.specs.declared.program.Arm.{Arm, Arm-F, roll-Arm, fold-roll-Arm, map-Arm}
use Rattle.c_tree.specs.declared.program.Block.{Block, Block-F, roll-Block, fold-roll-Block, map-Block, ind-Block}
use Rattle.c_tree.specs.declared.program.Free.{Free}
use Rattle.c_tree.specs.declared.program.FunDef.{FunDef}
use Rattle.c_tree.specs.declared.program.Gap.{Gap}
use Rattle.c_tree.specs.declared.program.Item.{Item, Item-F, roll-Item, fold-roll-Item, map-Item}
use Rattle.c_tree.specs.declared.program.Item.TheOpen.{Declare, Assign, Do, Nest, If, While, For, Break, Continue, Return}
use Rattle.c_tree.specs.declared.program.Piece.{Piece, Piece-F, roll-Piece, fold-roll-Piece, map-Piece}
use Rattle.c_tree.specs.declared.program.Program.{Program}
use Rattle.source_patcher.specs.Changes.{Changes, Part, arm_changes, arm_layer, block_changes, block_layer, brace, changes, gets_braces, item_changes, item_layer, last_place, piece_layer, piece_part}
use Rattle.source_patcher.specs.Gaps.{are_put, blanks, freed_at, gap_changes, is_freed, is_put, is_variable, writes}
use Rattle.source_patcher.specs.declared.change.Writing.TheVariants as writing
use Rattle.memfix_engine.specs.OwnPuts.{arm_gaps_in, field_put, gap_puts, item_gaps_in, piece_gaps_in, put_of, variable_of}
use Rattle.memfix_engine.proofs.BareGaps.{AreHeld, held_by, item_gapped, same_head, same_tail, some_same, split_same}

-- a free that has a put is it

-- a number is itself
same_number : (n : ℕ) → (n == n) ≡ true
same_number n = eq-eqb n n refl

-- a layer with this variable is the variable
variable_put : (l : Expr-F Expr) (x : ℕ) → variable_of l ≡ Some x → is_variable x l ≡ true
variable_put (Var y at) x h = ap (λ (n : ℕ). is_variable n (Var y at)) (sym (some_same y x h)) ∙ same_number y
variable_put (Const n at) x h = absurd cc
variable_put (Null at) x h = absurd cc
variable_put (Field e f at) x h = absurd cc
variable_put (Deref e at) x h = absurd cc
variable_put (Index e i at) x h = absurd cc
variable_put (Unary s e at) x h = absurd cc
variable_put (Binary o a b at) x h = absurd cc

-- a field of what may be a variable
field_is_put : (g f at : ℕ) (e : Expr) (x : Option ℕ) (q : Put) → variable_of (out-Expr e) ≡ x → option_map (field_put g f) x ≡ Some q → is_freed q.field q.var (Field e f at) ≡ true
field_is_put g f at e None q is h = absurd cc
field_is_put g f at e (Some x) q is h =
    subst (λ (r : Put). is_freed r.field r.var (Field e f at) ≡ true) (some_same (field_put g f x) q h) (rw (same_number f, variable_put (out-Expr e) x is) refl)

-- an expression that has a put is what the put frees
layer_is_put : (g : ℕ) (l : Expr-F Expr) (q : Put) → put_of g l ≡ Some q → is_freed q.field q.var l ≡ true
layer_is_put g (Var y at) q h =
    let r : Put = record { gap = g; var = y; field = None } in
    subst (λ (s : Put). is_freed s.field s.var (Var y at) ≡ true) (some_same r q h) (same_number y)
layer_is_put g (Field e f at) q h = field_is_put g f at e (variable_of (out-Expr e)) q refl h
layer_is_put g (Const n at) q h = absurd cc
layer_is_put g (Null at) q h = absurd cc
layer_is_put g (Deref e at) q h = absurd cc
layer_is_put g (Index e i at) q h = absurd cc
layer_is_put g (Unary s e at) q h = absurd cc
layer_is_put g (Binary o a b at) q h = absurd cc

-- frees that have these puts are those of the puts
frees_are_put : (g : ℕ) (fs : List Free) (qs : List Put) → map (λ (f : Free). put_of g (out-Expr f.expr)) fs ≡ map Some qs → are_put fs qs ≡ true
frees_are_put g [] [] e = refl
frees_are_put g [] (q ∷ qs) e = absurd cc
frees_are_put g (f ∷ fs) [] e = absurd cc
frees_are_put g (f ∷ fs) (q ∷ qs) e =
    let puts = map (λ (h : Free). put_of g (out-Expr h.expr)) fs in
    let here : is_put f q ≡ true = layer_is_put g (out-Expr f.expr) q (same_head (put_of g (out-Expr f.expr)) (Some q) puts (map Some qs) e) in
    rw here (frees_are_put g fs qs (same_tail (put_of g (out-Expr f.expr)) (Some q) puts (map Some qs) e))

module _ (ts : List Token) (puts : List Put) where
  -- the gap of held frees keeps its bytes

  -- the bytes of a gap that holds its puts stay
  gap_stays : (at : ℕ) (g : Gap) → gap_puts g ≡ held_by puts g → gap_changes ts puts at g ≡ []
  gap_stays at g e =
      ap (λ (b : Bool). if b then [] else flat_map (blanks ts) g.frees ++ map (freed_at at) (puts_at puts g.number)) (frees_are_put g.number g.frees (puts_at puts g.number) e)

  -- no free is written into it
  none_written : (g : Gap) → gap_puts g ≡ held_by puts g → writes puts g ≡ false
  none_written g e =
      ap (λ (b : Bool). not b && nat_lt 0 (length (puts_at puts g.number))) (frees_are_put g.number g.frees (puts_at puts g.number) e)

  -- an item whose gaps hold their puts has no changes
  abbrev ItemStays : Item → Type 0
  ItemStays i = AreHeld puts (item_gaps_in i) → item_changes ts puts i ≡ []

  -- the same of an arm
  abbrev ArmStays : Arm → Type 0
  ArmStays a = AreHeld puts (arm_gaps_in a) → arm_changes ts puts a ≡ []

  -- the same of a block
  abbrev BlockStays : Block → Type 0
  BlockStays b = AreHeld puts (gaps_in b) → block_changes ts puts b ≡ []

  -- a piece in which nothing changes
  abbrev still : Part
  still = record { writes = false; changes = [] }

  -- the same of a piece
  abbrev PieceStays : Piece → Type 0
  PieceStays p = AreHeld puts (piece_gaps_in p) → piece_part ts puts p ≡ still

  -- an item's layer with the claim for each part
  abbrev StaysLayer : Type 0
  StaysLayer = Item-F ((i : Item) × ItemStays i) ((a : Arm) × ArmStays a) ((b : Block) × BlockStays b) ((p : Piece) × PieceStays p)

  -- the layer without the claims
  abbrev plain : StaysLayer → Item-F Item Arm Block Piece
  plain = map-Item ((i : Item) × ItemStays i) ((a : Arm) × ArmStays a) ((b : Block) × BlockStays b) ((p : Piece) × PieceStays p) Item Arm Block Piece (λ e. e.0) (λ e. e.0) (λ e. e.0) (λ e. e.0)

  -- an item's layer with the changes of each part
  abbrev changed : Item-F Item Arm Block Piece → Item-F Changes Changes Changes Part
  changed = map-Item Item Arm Block Piece Changes Changes Changes Part (item_changes ts puts) (arm_changes ts puts) (block_changes ts puts) (piece_part ts puts)

  -- arms in turn
  arms_stay : (arms : List ((a : Arm) × ArmStays a)) → AreHeld puts (from_all (map arm_gaps_in (map (λ e. e.0) arms))) → from_all (map (arm_changes ts puts) (map (λ e. e.0) arms)) ≡ []
  arms_stay [] e = refl
  arms_stay (a ∷ arms) e =
      let two = split_same gap_puts (held_by puts) (arm_gaps_in a.0) (from_all (map arm_gaps_in (map (λ e. e.0) arms))) e in
      ap (λ (cs : Changes). cs ++ from_all (map (arm_changes ts puts) (map (λ e. e.0) arms))) (a.1 two.0) ∙ arms_stay arms two.1

  -- the claim for the layer of an item
  item_stays : (y : StaysLayer) → AreHeld puts (item_gaps (item_gapped (plain y))) → item_layer (changed (plain y)) ≡ []
  item_stays (Declare ds) e = refl
  item_stays (Assign s) e = refl
  item_stays (Do c) e = refl
  item_stays (Nest b) e = b.1 e
  item_stays (If arms None) e =
      let two = split_same gap_puts (held_by puts) (from_all (map arm_gaps_in (map (λ e. e.0) arms))) [] e in
      ap (λ (cs : Changes). cs ++ []) (arms_stay arms two.0)
  item_stays (If arms (Some b)) e =
      let two = split_same gap_puts (held_by puts) (from_all (map arm_gaps_in (map (λ e. e.0) arms))) (gaps_in b.0) e in
      ap (λ (cs : Changes). cs ++ block_changes ts puts b.0) (arms_stay arms two.0) ∙ b.1 two.1
  item_stays (While test b) e = b.1 e
  item_stays (For head b) e = b.1 e
  item_stays Break e = refl
  item_stays Continue e = refl
  item_stays (Return r at) e = refl

  -- the claim for an item
  step_item : (x : Item-F Item Arm Block Piece) (y : StaysLayer) → plain y ≡ x → ItemStays (roll-Item x)
  step_item x y is e =
      let held : AreHeld puts (item_gaps (item_gapped x)) = subst (AreHeld puts) (fold-roll-Item Gaps Gaps Gaps Gaps item_gaps arm_gaps block_gaps piece_gaps x) e in
      fold-roll-Item Changes Changes Changes Part item_layer arm_layer (block_layer ts puts) (piece_layer ts puts) x
      ∙ subst (λ (z : Item-F Item Arm Block Piece). AreHeld puts (item_gaps (item_gapped z)) → item_layer (changed z) ≡ []) is (item_stays y) held

  -- the claim for an arm
  step_arm : (x : Arm-F Item Arm Block Piece) (y : Arm-F ((i : Item) × ItemStays i) ((a : Arm) × ArmStays a) ((b : Block) × BlockStays b) ((p : Piece) × PieceStays p))
      → map-Arm ((i : Item) × ItemStays i) ((a : Arm) × ArmStays a) ((b : Block) × BlockStays b) ((p : Piece) × PieceStays p) Item Arm Block Piece (λ e. e.0) (λ e. e.0) (λ e. e.0) (λ e. e.0) y ≡ x → ArmStays (roll-Arm x)
  step_arm x y is e =
      let held : AreHeld puts (gaps_in x.body) = subst (AreHeld puts) (fold-roll-Arm Gaps Gaps Gaps Gaps item_gaps arm_gaps block_gaps piece_gaps x) e in
      let body : y.body.0 ≡ x.body = ap (λ (a : Arm-F Item Arm Block Piece). a.body) is in
      fold-roll-Arm Changes Changes Changes Part item_layer arm_layer (block_layer ts puts) (piece_layer ts puts) x ∙ subst BlockStays body y.body.1 held

  -- pieces in which nothing changes
  abbrev all_still : List Piece → List Part
  all_still = map (λ p. still)

  -- pieces in turn
  pieces_stay : (ps : List ((p : Piece) × PieceStays p)) → AreHeld puts (from_all (map piece_gaps_in (map (λ e. e.0) ps))) → map (piece_part ts puts) (map (λ e. e.0) ps) ≡ all_still (map (λ e. e.0) ps)
  pieces_stay [] e = refl
  pieces_stay (p ∷ ps) e =
      let two = split_same gap_puts (held_by puts) (piece_gaps_in p.0) (from_all (map piece_gaps_in (map (λ e. e.0) ps))) e in
      ap (λ (q : Part). q ∷ map (piece_part ts puts) (map (λ e. e.0) ps)) (p.1 two.0) ∙ ap (λ (qs : List Part). still ∷ qs) (pieces_stay ps two.1)

  -- none of these pieces has a free written before it
  none_writes : (ps : List Piece) → list_any (λ (q : Part). q.writes) (all_still ps) ≡ false
  none_writes [] = refl
  none_writes (p ∷ ps) = none_writes ps

  -- none of them has changes
  none_changes : (ps : List Piece) → flat_map (λ (q : Part). q.changes) (all_still ps) ≡ []
  none_changes [] = refl
  none_changes (p ∷ ps) = none_changes ps

  -- a body has braces, or none are written
  no_braces : (braced : Bool) (last : Gap) → writes puts last ≡ false → gets_braces puts braced false last ≡ false
  no_braces true last e = refl
  no_braces false last e = e

  -- a block of pieces in which nothing changes
  still_block : (ps : List Piece) (last : Gap) (braced : Bool) (start end : ℕ) → gap_puts last ≡ held_by puts last
      → let layer : Block-F Changes Changes Changes Part = record { items = all_still ps; last_gap = last; braced = braced; start = start; end = end } in block_layer ts puts layer ≡ []
  still_block ps last braced start end e =
      let whole : Bool → Bool → Changes → Changes → Changes = λ before braces inside behind. brace braces start writing.Open ++ inside ++ behind ++ brace braces end writing.Close in
      let before = list_any (λ (q : Part). q.writes) (all_still ps) in
      let braces : gets_braces puts braced before last ≡ false =
      ap (λ (b : Bool). gets_braces puts braced b last) (none_writes ps) ∙ no_braces braced last (none_written last e) in
      let inside = flat_map (λ (q : Part). q.changes) (all_still ps) in
      let behind = gap_changes ts puts (last_place braced end) last in
      ap (λ (b : Bool). whole before b inside behind) braces
      ∙ ap (λ (cs : Changes). whole before false cs behind) (none_changes ps)
      ∙ ap (λ (cs : Changes). whole before false [] cs) (gap_stays (last_place braced end) last e)

  -- the claim for a block
  step_block : (x : Block-F Item Arm Block Piece) (y : Block-F ((i : Item) × ItemStays i) ((a : Arm) × ArmStays a) ((b : Block) × BlockStays b) ((p : Piece) × PieceStays p))
      → map-Block ((i : Item) × ItemStays i) ((a : Arm) × ArmStays a) ((b : Block) × BlockStays b) ((p : Piece) × PieceStays p) Item Arm Block Piece (λ e. e.0) (λ e. e.0) (λ e. e.0) (λ e. e.0) y ≡ x → BlockStays (roll-Block x)
  step_block x y is e =
      let held : AreHeld puts (from_all (map piece_gaps_in x.items) ++ x.last_gap ∷ []) = subst (AreHeld puts) (fold-roll-Block Gaps Gaps Gaps Gaps item_gaps arm_gaps block_gaps piece_gaps x) e in
      let two = split_same gap_puts (held_by puts) (from_all (map piece_gaps_in x.items)) (x.last_gap ∷ []) held in
      let items : map (λ e. e.0) y.items ≡ x.items = ap (λ (b : Block-F Item Arm Block Piece). b.items) is in
      let parts : map (piece_part ts puts) x.items ≡ all_still x.items =
      subst (λ (ps : List Piece). AreHeld puts (from_all (map piece_gaps_in ps)) → map (piece_part ts puts) ps ≡ all_still ps) items (pieces_stay y.items) two.0 in
      fold-roll-Block Changes Changes Changes Part item_layer arm_layer (block_layer ts puts) (piece_layer ts puts) x
      ∙ ap (λ (qs : List Part). block_layer ts puts (record { items = qs; last_gap = x.last_gap; braced = x.braced; start = x.start; end = x.end })) parts
      ∙ still_block x.items x.last_gap x.braced x.start x.end (same_head (gap_puts x.last_gap) (held_by puts x.last_gap) [] [] two.1)

  -- the claim for a piece
  step_piece : (x : Piece-F Item Arm Block Piece) (y : Piece-F ((i : Item) × ItemStays i) ((a : Arm) × ArmStays a) ((b : Block) × BlockStays b) ((p : Piece) × PieceStays p))
      → map-Piece ((i : Item) × ItemStays i) ((a : Arm) × ArmStays a) ((b : Block) × BlockStays b) ((p : Piece) × PieceStays p) Item Arm Block Piece (λ e. e.0) (λ e. e.0) (λ e. e.0) (λ e. e.0) y ≡ x → PieceStays (roll-Piece x)
  step_piece x y is e =
      let held : AreHeld puts (x.gap ∷ item_gaps_in x.item) = subst (AreHeld puts) (fold-roll-Piece Gaps Gaps Gaps Gaps item_gaps arm_gaps block_gaps piece_gaps x) e in
      let two = split_same gap_puts (held_by puts) (x.gap ∷ []) (item_gaps_in x.item) held in
      let gap : gap_puts x.gap ≡ held_by puts x.gap = same_head (gap_puts x.gap) (held_by puts x.gap) [] [] two.0 in
      let item : y.item.0 ≡ x.item = ap (λ (p : Piece-F Item Arm Block Piece). p.item) is in
      let inside : item_changes ts puts x.item ≡ [] = subst ItemStays item y.item.1 two.1 in
      let part : Bool → Changes → Part = λ w cs. record { writes = w; changes = cs } in
      fold-roll-Piece Changes Changes Changes Part item_layer arm_layer (block_layer ts puts) (piece_layer ts puts) x
      ∙ ap (λ (w : Bool). part w (gap_changes ts puts x.start x.gap ++ item_changes ts puts x.item)) (none_written x.gap gap)
      ∙ ap (λ (cs : Changes). part false (cs ++ item_changes ts puts x.item)) (gap_stays x.start x.gap gap)
      ∙ ap (λ (cs : Changes). part false cs) inside

  -- a block whose gaps hold their puts has no changes
  block_stays : (b : Block) → AreHeld puts (gaps_in b) → block_changes ts puts b ≡ []
  block_stays = ind-Block ItemStays ArmStays BlockStays PieceStays step_item step_arm step_block step_piece

  -- functions whose gaps do
  funs_stay : (ds : List FunDef) → AreHeld puts (flat_map (λ (d : FunDef). gaps_in d.body) ds) → flat_map (λ (d : FunDef). block_changes ts puts d.body) ds ≡ []
  funs_stay [] e = refl
  funs_stay (d ∷ ds) e =
      let two = split_same gap_puts (held_by puts) (gaps_in d.body) (flat_map (λ (d : FunDef). gaps_in d.body) ds) e in
      ap (λ (cs : Changes). cs ++ flat_map (λ (d : FunDef). block_changes ts puts d.body) ds) (block_stays d.body two.0) ∙ funs_stay ds two.1

-- what stands in the gaps already is no change
pub no_changes : (ts : List Token) (puts : List Put) (p : Program) → AreHeld puts (gaps_of p) → changes ts puts p ≡ []
no_changes ts puts p e = funs_stay ts puts p.funs e
