-- The places of a function ascend.
use Rattle.std.proofs.Common.{◌≡◌, ℕ, ◌+◌, ◌<◌, ◌≤◌, Bool, true, false, cond, List, [], ◌∷◌, ◌++◌, map, length, Option, Some, None, option_map, unwrap_or, slice_get, refl, ap, sym, subst, ◌∙◌, arith}
use Rattle.std.specs.List.{filter}
use Rattle.std.specs.declared.cmp.Ordering.{Ordering}
use Rattle.std.specs.declared.cmp.Ordering.TheVariants.{Less, Equal}
use Rattle.std.specs.Ordering.{nat_cmp, ordering_then}
use Rattle.std.proofs.lemmas.Bool.Decides.{nat_tests}
use Rattle.std.proofs.lemmas.List.{length-append, length-map}
use Rattle.c_tree.specs.declared.expr.Expr.{Expr, Expr-F, map-Expr, ind-Expr, fold-roll-Expr}
use Rattle.c_tree.specs.declared.expr.Expr.TheOpen as layer
use Rattle.c_tree.specs.declared.expr.Oper.TheVariants as oper
use Rattle.c_tree.specs.declared.expr.Sign.TheVariants as sign
use Rattle.c_tree.specs.declared.program.Block.{Block, Block-F, roll-Block, out-Block, map-Block, ind-Block, fold-roll-Block}
use Rattle.c_tree.specs.declared.program.Piece.{Piece, Piece-F, roll-Piece, map-Piece, fold-roll-Piece}
use Rattle.c_tree.specs.declared.program.Item.{Item, Item-F, roll-Item, out-Item, map-Item, fold-roll-Item, fold_out-Item}
use Rattle.c_tree.specs.declared.program.Item.TheOpen.{Declare, Assign, Do, Nest, If, While, For, Break, Continue, Return}
use Rattle.c_tree.specs.declared.program.Arm.{Arm, Arm-F, roll-Arm, map-Arm, fold-roll-Arm}
use Rattle.c_tree.specs.declared.program.FunDef.{FunDef}
use Rattle.c_tree.specs.declared.program.Program.{Program}
use Rattle.c_meaning.specs.Parts.{Instruction, Part, One, Within, declared, returned, started, last_row, arm_parts, parts}
use Rattle.c_meaning.specs.Place.{tests_layer, tests_of, brace_of, numbered, instruction_places, places_in, item_places, arm_places, block_places, piece_places, places_of, places_in_fun, result_slot}
use Rattle.c_graph.specs.Nodes.{places}
use Rattle.c_graph.proofs.Listed.{Paths, of_item, of_arm, of_piece, block_opened}
use Rattle.cfg_lower.specs.Ranks.{path_cmp, IsBelow, below_none, below_more, Ascends, ascends_none, ascends_more}

-- comparing below numbers

same_number : (k : ℕ) (o : Ordering) → ordering_then (nat_cmp k k) o ≡ o
same_number k o = ap (λ (c : Ordering). ordering_then c o) equal
  where
    equal : nat_cmp k k ≡ Equal
    equal = grind (arith, nat_tests)

lesser_number : (j k : ℕ) (o : Ordering) → j < k → ordering_then (nat_cmp j k) o ≡ Less
lesser_number j k o lower = ap (λ (c : Ordering). ordering_then c o) less
  where
    less : nat_cmp j k ≡ Less
    less = grind (arith, nat_tests)

below_map : (k : ℕ) (p : List ℕ) (ps : Paths) → IsBelow p ps → IsBelow (k ∷ p) (map (λ q. k ∷ q) ps)
below_map k p [] h = below_none
below_map k p (q ∷ ps) (below_more less h) = below_more (same_number k (path_cmp p q) ∙ less) (below_map k p ps h)

ascends_map : (k : ℕ) (ps : Paths) → Ascends ps → Ascends (map (λ q. k ∷ q) ps)
ascends_map k [] h = ascends_none
ascends_map k (p ∷ ps) (ascends_more b h) = ascends_more (below_map k p ps b) (ascends_map k ps h)

below_heads : (j k : ℕ) (p : List ℕ) (ps : Paths) → j < k → IsBelow (j ∷ p) (map (λ q. k ∷ q) ps)
below_heads j k p [] lower = below_none
below_heads j k p (q ∷ ps) lower = below_more (lesser_number j k (path_cmp p q) lower) (below_heads j k p ps lower)

below_both : (p : List ℕ) (xs ys : Paths) → IsBelow p xs → IsBelow p ys → IsBelow p (xs ++ ys)
below_both p [] ys g h = h
below_both p (x ∷ xs) ys (below_more less g) h = below_more less (below_both p xs ys g h)

-- a list of lists that ascend

data Each : List Paths → Type 0 where
  each_none : Each []
  each_more : {ps : Paths} {pss : List Paths} → Ascends ps → Each pss → Each (ps ∷ pss)

below_numbered : (j k : ℕ) (p : List ℕ) (pss : List Paths) → j < k → IsBelow (j ∷ p) (numbered k pss)
below_numbered j k p [] lower = below_none
below_numbered j k p (ps ∷ pss) lower = below_both (j ∷ p) (map (λ q. k ∷ q) ps) (numbered (k + 1) pss) (below_heads j k p ps lower) (below_numbered j (k + 1) p pss (omega arith))

empty_heads : (k : ℕ) (ps : Paths) → IsBelow [] (map (λ q. k ∷ q) ps)
empty_heads k [] = below_none
empty_heads k (p ∷ ps) = below_more refl (empty_heads k ps)

empty_below : (k : ℕ) (pss : List Paths) → IsBelow [] (numbered k pss)
empty_below k [] = below_none
empty_below k (ps ∷ pss) = below_both [] (map (λ q. k ∷ q) ps) (numbered (k + 1) pss) (empty_heads k ps) (empty_below (k + 1) pss)

first_ascends : (k : ℕ) (ps : Paths) (pss : List Paths) → Ascends ps → Ascends (numbered (k + 1) pss) → Ascends (map (λ q. k ∷ q) ps ++ numbered (k + 1) pss)
first_ascends k [] pss g h = h
first_ascends k (p ∷ ps) pss (ascends_more b g) h =
    ascends_more (below_both (k ∷ p) (map (λ q. k ∷ q) ps) (numbered (k + 1) pss) (below_map k p ps b) (below_numbered k (k + 1) p pss (omega arith)))
    (first_ascends k ps pss g h)

numbered_ascends : (k : ℕ) (pss : List Paths) → Each pss → Ascends (numbered k pss)
numbered_ascends k [] h = ascends_none
numbered_ascends k (ps ∷ pss) (each_more g h) = first_ascends k ps pss g (numbered_ascends (k + 1) pss h)

one_ascends : (p : List ℕ) → Ascends (p ∷ [])
one_ascends p = ascends_more below_none ascends_none

-- conditions

abbrev TestsAscend : Expr → Type 0
TestsAscend e = Ascends (tests_of e)

abbrev tests_below : Expr-F Expr → Expr-F Paths
tests_below = map-Expr Expr Paths tests_of

abbrev plain_expr : Expr-F ((e : Expr) × TestsAscend e) → Expr-F Expr
plain_expr = map-Expr ((e : Expr) × TestsAscend e) Expr (λ e. e.0)

two_operands : (a b : Paths) → Ascends a → Ascends b → Ascends (map (λ p. 0 ∷ p) a ++ map (λ p. 1 ∷ p) b)
two_operands [] b g h = ascends_map 1 b h
two_operands (p ∷ a) b (ascends_more low g) h =
    ascends_more (below_both (0 ∷ p) (map (λ q. 0 ∷ q) a) (map (λ q. 1 ∷ q) b) (below_map 0 p a low) (below_heads 0 1 p b (omega arith))) (two_operands a b g h)

layer_ascends : (y : Expr-F ((e : Expr) × TestsAscend e)) → Ascends (tests_layer (tests_below (plain_expr y)))
layer_ascends (layer.Unary sign.Not e offset) = ascends_map 0 (tests_of e.0) e.1
layer_ascends (layer.Binary oper.And a b offset) = two_operands (tests_of a.0) (tests_of b.0) a.1 b.1
layer_ascends (layer.Binary oper.Or a b offset) = two_operands (tests_of a.0) (tests_of b.0) a.1 b.1
layer_ascends _ = one_ascends []

tests_ascend : (e : Expr) → Ascends (tests_of e)
tests_ascend = ind-Expr TestsAscend (λ x y is.
    subst (λ (ps : Paths). Ascends ps) (sym (fold-roll-Expr Paths tests_layer x)) (subst (λ (z : Expr-F Expr). Ascends (tests_layer (tests_below z))) is (layer_ascends y)))

-- parts

action_ascends : (a : Option Instruction) → Ascends (instruction_places a)
action_ascends None = ascends_none
action_ascends (Some a) = one_ascends []

each_action : (row : List (Option Instruction)) → Each (map instruction_places row)
each_action [] = each_none
each_action (a ∷ row) = each_more (action_ascends a) (each_action row)

row_ascends : (row : List (Option Instruction)) → Ascends (numbered 0 (map instruction_places row))
row_ascends row = numbered_ascends 0 (map instruction_places row) (each_action row)

each_one : {A : Type 0} (f : A → Option Instruction) (xs : List A) → Each (map places_in (map (λ x. One (f x)) xs))
each_one f [] = each_none
each_one f (x ∷ xs) = each_more (action_ascends (f x)) (each_one f xs)

abbrev Tested : Type 0
Tested = Expr × Paths

each_arm : (arms : List Tested) (rest : List (Part Paths)) → Each (map (λ a. a.1) arms) → Each (map places_in rest) → Each (map places_in (arm_parts (λ a. a.0) (λ a. a.1) arms ++ rest))
each_arm [] rest g h = h
each_arm (a ∷ arms) rest (each_more b g) h = each_more (tests_ascend a.0) (each_more b (each_arm arms rest g h))

module _ (slot : Option ℕ) where
  item_opened : (i : Item) → of_item slot i ≡ item_places slot (map-Item Item Arm Block Piece Paths Tested Paths Paths (of_item slot) (of_arm slot) (places_of slot) (of_piece slot) (out-Item i))
  item_opened i = fold_out-Item Paths Tested Paths Paths (item_places slot) arm_places block_places piece_places i

  abbrev ItemAscends : Item → Type 0
  ItemAscends i = Ascends (of_item slot i)

  abbrev ArmAscends : Arm → Type 0
  ArmAscends a = Ascends (of_arm slot a).1

  abbrev BlockAscends : Block → Type 0
  BlockAscends b = Ascends (places_of slot b)

  abbrev PieceAscends : Piece → Type 0
  PieceAscends p = Ascends (of_piece slot p)

  abbrev placed_item : Item-F Item Arm Block Piece → Item-F Paths Tested Paths Paths
  placed_item = map-Item Item Arm Block Piece Paths Tested Paths Paths (of_item slot) (of_arm slot) (places_of slot) (of_piece slot)

  abbrev plain_item : Item-F ((i : Item) × ItemAscends i) ((a : Arm) × ArmAscends a) ((b : Block) × BlockAscends b) ((p : Piece) × PieceAscends p) → Item-F Item Arm Block Piece
  plain_item = map-Item ((i : Item) × ItemAscends i) ((a : Arm) × ArmAscends a) ((b : Block) × BlockAscends b) ((p : Piece) × PieceAscends p) Item Arm Block Piece (λ e. e.0) (λ e. e.0) (λ e. e.0) (λ e. e.0)

  bodies : (xs : List ((a : Arm) × ArmAscends a)) → Each (map (λ a. a.1) (map (of_arm slot) (map (λ e. e.0) xs)))
  bodies [] = each_none
  bodies (x ∷ xs) = each_more x.1 (bodies xs)

  each_part : (y : Item-F ((i : Item) × ItemAscends i) ((a : Arm) × ArmAscends a) ((b : Block) × BlockAscends b) ((p : Piece) × PieceAscends p)) →
      Each (map places_in (parts (λ a. a.0) (λ a. a.1) slot (placed_item (plain_item y))))
  each_part (Declare ds) = each_one (λ d. declared d d.right) ds
  each_part (Assign s) = each_more (action_ascends _) each_none
  each_part (Do c) = each_more (action_ascends _) each_none
  each_part (Nest b) = each_more b.1 each_none
  each_part (If arms None) = each_arm (map (of_arm slot) (map (λ e. e.0) arms)) [] (bodies arms) each_none
  each_part (If arms (Some b)) = each_arm (map (of_arm slot) (map (λ e. e.0) arms)) (Within (places_of slot b.0) ∷ []) (bodies arms) (each_more b.1 each_none)
  each_part (While test b) = each_more (tests_ascend test) (each_more b.1 each_none)
  each_part (For head b) = each_more (row_ascends (map started head.start)) (each_more (tests_ascend _) (each_more (row_ascends (last_row head.step)) (each_more b.1 each_none)))
  each_part Break = each_none
  each_part Continue = each_none
  each_part (Return value offset) = each_one (λ a. a) (returned slot value offset)

  step_item : (x : Item-F Item Arm Block Piece) (y : Item-F ((i : Item) × ItemAscends i) ((a : Arm) × ArmAscends a) ((b : Block) × BlockAscends b) ((p : Piece) × PieceAscends p)) → plain_item y ≡ x → ItemAscends (roll-Item x)
  step_item x y is =
      subst (λ (ps : Paths). Ascends ps) (sym (fold-roll-Item Paths Tested Paths Paths (item_places slot) arm_places block_places piece_places x))
      (subst (λ (z : Item-F Item Arm Block Piece). Ascends (item_places slot (placed_item z))) is
      (numbered_ascends 0 (map places_in (parts (λ a. a.0) (λ a. a.1) slot (placed_item (plain_item y)))) (each_part y)))

  step_arm : (x : Arm-F Item Arm Block Piece) (y : Arm-F ((i : Item) × ItemAscends i) ((a : Arm) × ArmAscends a) ((b : Block) × BlockAscends b) ((p : Piece) × PieceAscends p))
      → map-Arm ((i : Item) × ItemAscends i) ((a : Arm) × ArmAscends a) ((b : Block) × BlockAscends b) ((p : Piece) × PieceAscends p) Item Arm Block Piece (λ e. e.0) (λ e. e.0) (λ e. e.0) (λ e. e.0) y ≡ x → ArmAscends (roll-Arm x)
  step_arm x y is =
      let held : BlockAscends x.body = subst (λ (z : Arm-F Item Arm Block Piece). BlockAscends z.body) is y.body.1 in
      subst (λ (t : Tested). Ascends t.1) (sym (fold-roll-Arm Paths Tested Paths Paths (item_places slot) arm_places block_places piece_places x)) held

  pieces_ascend : (xs : List ((p : Piece) × PieceAscends p)) → Each (map (of_piece slot) (map (λ e. e.0) xs) ++ (([] ∷ []) ∷ []))
  pieces_ascend [] = each_more (one_ascends []) each_none
  pieces_ascend (x ∷ xs) = each_more x.1 (pieces_ascend xs)

  step_block : (x : Block-F Item Arm Block Piece) (y : Block-F ((i : Item) × ItemAscends i) ((a : Arm) × ArmAscends a) ((b : Block) × BlockAscends b) ((p : Piece) × PieceAscends p))
      → map-Block ((i : Item) × ItemAscends i) ((a : Arm) × ArmAscends a) ((b : Block) × BlockAscends b) ((p : Piece) × PieceAscends p) Item Arm Block Piece (λ e. e.0) (λ e. e.0) (λ e. e.0) (λ e. e.0) y ≡ x → BlockAscends (roll-Block x)
  step_block x y is =
      subst (λ (ps : Paths). Ascends ps) (sym (fold-roll-Block Paths Tested Paths Paths (item_places slot) arm_places block_places piece_places x))
      (subst (λ (z : Block-F Item Arm Block Piece). Ascends (numbered 0 (map (of_piece slot) z.items ++ (([] ∷ []) ∷ [])))) is
      (numbered_ascends 0 (map (of_piece slot) (map (λ e. e.0) y.items) ++ (([] ∷ []) ∷ [])) (pieces_ascend y.items)))

  step_piece : (x : Piece-F Item Arm Block Piece) (y : Piece-F ((i : Item) × ItemAscends i) ((a : Arm) × ArmAscends a) ((b : Block) × BlockAscends b) ((p : Piece) × PieceAscends p))
      → map-Piece ((i : Item) × ItemAscends i) ((a : Arm) × ArmAscends a) ((b : Block) × BlockAscends b) ((p : Piece) × PieceAscends p) Item Arm Block Piece (λ e. e.0) (λ e. e.0) (λ e. e.0) (λ e. e.0) y ≡ x → PieceAscends (roll-Piece x)
  step_piece x y is =
      let held : ItemAscends x.item = subst (λ (z : Piece-F Item Arm Block Piece). ItemAscends z.item) is y.item.1 in
      subst (λ (ps : Paths). Ascends ps) (sym (fold-roll-Piece Paths Tested Paths Paths (item_places slot) arm_places block_places piece_places x))
      (ascends_more (subst (λ (qs : Paths). IsBelow [] qs) (sym (item_opened x.item)) (empty_below 0 (map places_in (parts (λ a. a.0) (λ a. a.1) slot (placed_item (out-Item x.item)))))) held)

  pub block_ascends : (b : Block) → Ascends (places_of slot b)
  block_ascends = ind-Block ItemAscends ArmAscends BlockAscends PieceAscends step_item step_arm step_block step_piece

-- functions

-- a list of places of which all begin below a number, and a last one of that number
data Below (n : ℕ) : Paths → Type 0 where
  low_none : Below n []
  low_more : {i : ℕ} {p : List ℕ} {ps : Paths} → i < n → Below n ps → Below n ((i ∷ p) ∷ ps)

low_map : (n k : ℕ) (ps rest : Paths) → k < n → Below n rest → Below n (map (λ q. k ∷ q) ps ++ rest)
low_map n k [] rest lower h = h
low_map n k (p ∷ ps) rest lower h = low_more lower (low_map n k ps rest lower h)

low_numbered : (n k : ℕ) (pss : List Paths) → k + length pss ≤ n → Below n (numbered k pss)
low_numbered n k [] within = low_none
low_numbered n k (ps ∷ pss) within = low_map n k ps (numbered (k + 1) pss) (omega arith) (low_numbered n (k + 1) pss (omega arith))

with_last : (n : ℕ) (ps : Paths) → Below n ps → Ascends ps → Ascends (ps ++ ((n ∷ []) ∷ []))
with_last n [] low h = one_ascends (n ∷ [])
with_last n ([] ∷ ps) low h = elim low [ ]
with_last n ((i ∷ p) ∷ ps) (low_more lower low) (ascends_more b h) =
    ascends_more (below_both (i ∷ p) ps ((n ∷ []) ∷ []) b (below_more (lesser_number i n (path_cmp p []) lower) below_none)) (with_last n ps low h)

block_low : (slot : Option ℕ) (b : Block) → Below (brace_of b) (places_of slot b)
block_low slot b =
    let all : List Paths = map (of_piece slot) (out-Block b).items ++ (([] ∷ []) ∷ []) in
    let count : length all ≡ length (out-Block b).items + 1 = length-append (map (of_piece slot) (out-Block b).items) (([] ∷ []) ∷ []) ∙ ap (λ (n : ℕ). n + 1) (length-map (out-Block b).items (of_piece slot)) in
    subst (λ (ps : Paths). Below (brace_of b) ps) (sym (block_opened slot b)) (low_numbered (brace_of b) 0 all (omega arith))

fun_ascends : (p : Program) (f : ℕ) (d : FunDef) → Ascends (places_in_fun p f d)
fun_ascends p f d = with_last (brace_of d.body) (places_of (result_slot p f) d.body) (block_low (result_slot p f) d.body) (block_ascends (result_slot p f) d.body)

any_ascends : (p : Program) (f : ℕ) (d : Option FunDef) → Ascends (unwrap_or (option_map (places_in_fun p f) d) [])
any_ascends p f None = ascends_none
any_ascends p f (Some d) = fun_ascends p f d

pub places_ascend : (p : Program) (f : ℕ) → Ascends (places p f)
places_ascend p f = any_ascends p f (slice_get p.funs f)

-- and so do some of them

kept_below : (p q : List ℕ) (ps : Paths) (t : Bool) → path_cmp p q ≡ Less → IsBelow p ps → IsBelow p (cond t (q ∷ ps) ps)
kept_below p q ps true less h = below_more less h
kept_below p q ps false less h = h

below_filter : (p : List ℕ) (test : List ℕ → Bool) (ps : Paths) → IsBelow p ps → IsBelow p (filter test ps)
below_filter p test [] h = below_none
below_filter p test (q ∷ ps) (below_more less h) = kept_below p q (filter test ps) (test q) less (below_filter p test ps h)

kept_ascends : (p : List ℕ) (ps : Paths) (t : Bool) → IsBelow p ps → Ascends ps → Ascends (cond t (p ∷ ps) ps)
kept_ascends p ps true b h = ascends_more b h
kept_ascends p ps false b h = h

pub ascends_filter : (test : List ℕ → Bool) (ps : Paths) → Ascends ps → Ascends (filter test ps)
ascends_filter test [] h = ascends_none
ascends_filter test (p ∷ ps) (ascends_more b h) = kept_ascends p (filter test ps) (test p) (below_filter p test ps b) (ascends_filter test ps h)
