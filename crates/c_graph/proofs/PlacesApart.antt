-- No place of a function is listed twice.
use Rattle.std.proofs.Common.{◌≡◌, ℕ, ◌+◌, ◌<◌, ◌≤◌, ⊎_elim, List, [], ◌∷◌, ◌++◌, map, length, slice_get, unwrap_or, Option, Some, None, option_map, refl, ap, sym, subst, ◌∙◌, arith}
use Rattle.std.proofs.lemmas.List.{length-map, length-append}
use Rattle.c_tree.specs.declared.expr.Expr.{Expr, Expr-F, roll-Expr, map-Expr, fold-roll-Expr, ind-Expr}
use Rattle.c_tree.specs.declared.expr.Expr.TheOpen as layer
use Rattle.c_tree.specs.declared.expr.Sign.TheVariants as sign
use Rattle.c_tree.specs.declared.expr.Oper.TheVariants as oper
use Rattle.c_tree.specs.declared.program.Arm.{Arm, Arm-F, roll-Arm, fold-roll-Arm, map-Arm}
use Rattle.c_tree.specs.declared.program.Block.{Block, Block-F, out-Block, roll-Block, fold-roll-Block, map-Block, ind-Block}
use Rattle.c_tree.specs.declared.program.FunDef.{FunDef}
use Rattle.c_tree.specs.declared.program.Item.{Item, Item-F, roll-Item, fold-roll-Item, map-Item}
use Rattle.c_tree.specs.declared.program.Item.TheOpen.{Declare, Assign, Do, Nest, If, While, For, Break, Continue, Return}
use Rattle.c_tree.specs.declared.program.Piece.{Piece, Piece-F, roll-Piece, fold-roll-Piece, map-Piece}
use Rattle.c_tree.specs.declared.program.Program.{Program}
use Rattle.c_meaning.specs.Parts.{Instruction, Part, One, Within, called, assigned, declared, started, returned, condition_of, last_row, arm_parts, parts}
use Rattle.c_meaning.specs.Place.{tests_layer, tests_of, result_slot, brace_of, numbered, instruction_places, places_in, item_places, arm_places, block_places, piece_places, places_of, places_in_fun}
use Rattle.call_contexts.proofs.Has.{Has, first, later, has_split, only_one}
use Rattle.c_graph.specs.Nodes.{places}
use Rattle.c_graph.proofs.Listed.{Paths, of_item, of_arm, of_piece, block_opened}

-- lists without repeats

pub data Apart {A : Type 0} : List A → Type 0 where
  no_more : Apart []
  one_more : {x : A} {xs : List A} → (Has x xs → ⊥) → Apart xs → Apart (x ∷ xs)

nothing_has : {A : Type 0} {x : A} → Has x [] → ⊥
nothing_has h = elim h [ ]

one_apart : {A : Type 0} (x : A) → Apart (x ∷ [])
one_apart x = one_more nothing_has no_more

apart_both : {A : Type 0} (xs ys : List A) → Apart xs → Apart ys → ((x : A) → Has x xs → Has x ys → ⊥) → Apart (xs ++ ys)
apart_both [] ys no_more b other = b
apart_both (x ∷ xs) ys (one_more new a) b other =
    one_more (λ h. ⊎_elim (λ g. new g) (λ g. other x first g) (has_split xs h)) (apart_both xs ys a b (λ z g. other z (later g)))

pub has_of_map : {A B : Type 0} {y : B} (f : A → B) (xs : List A) → Has y (map f xs) → (x : A) × Has x xs × (y ≡ f x)
has_of_map f [] h = elim h [ ]
has_of_map f (x ∷ xs) first = (x, first, refl)
has_of_map f (x ∷ xs) (later h) = let it = has_of_map f xs h in (it.0, later it.1, it.2)

apart_map : {A B : Type 0} (f : A → B) → ((x y : A) → f x ≡ f y → x ≡ y) → (xs : List A) → Apart xs → Apart (map f xs)
apart_map f one [] no_more = no_more
apart_map f one (x ∷ xs) (one_more new a) =
    one_more (λ h. let it = has_of_map f xs h in new (subst (λ z. Has z xs) (sym (one x it.0 it.2)) it.1)) (apart_map f one xs a)

below_same : (k : ℕ) (p q : List ℕ) → k ∷ p ≡ k ∷ q → p ≡ q
below_same k p q e = cc

-- lists of paths below their numbers

data EachApart : List Paths → Type 0 where
  all_none : EachApart []
  all_more : {ps : Paths} {pss : List Paths} → Apart ps → EachApart pss → EachApart (ps ∷ pss)

numbered_head : (k : ℕ) (pss : List Paths) (q : List ℕ) → Has q (numbered k pss) → (i : ℕ) × (r : List ℕ) × (q ≡ i ∷ r) × (k ≤ i) × (i < k + length pss)
numbered_head k [] q h = elim h [ ]
numbered_head k (ps ∷ pss) q h = ⊎_elim
    (λ g. let it = has_of_map (λ (p : List ℕ). k ∷ p) ps g in (k, it.0, it.2, omega arith, omega arith))
    (λ g.
    let it = numbered_head (k + 1) pss q g in
    let low = it.3 in
    let high = it.4 in
    (it.0, it.1, it.2, omega arith, omega arith))
    (has_split (map (λ (p : List ℕ). k ∷ p) ps) h)

apart_numbered : (k : ℕ) (pss : List Paths) → EachApart pss → Apart (numbered k pss)
apart_numbered k [] all_none = no_more
apart_numbered k (ps ∷ pss) (all_more a rest) =
    apart_both (map (λ (p : List ℕ). k ∷ p) ps) (numbered (k + 1) pss) (apart_map (λ (p : List ℕ). k ∷ p) (below_same k) ps a) (apart_numbered (k + 1) pss rest)
    (λ q g h.
    let here = has_of_map (λ (p : List ℕ). k ∷ p) ps g in
    let there = numbered_head (k + 1) pss q h in
    let heads : k ∷ here.0 ≡ there.0 ∷ there.1 = sym here.2 ∙ there.2 in
    let same : k ≡ there.0 = cc in
    let low = there.3 in
    absurd (omega arith))

no_empty : (k : ℕ) (pss : List Paths) → Has [] (numbered k pss) → ⊥
no_empty k pss h =
    let it = numbered_head k pss [] h in
    let never : [] ≡ it.0 ∷ it.1 = it.2 in
    absurd cc

-- conditions

abbrev TestsApart : Expr → Type 0
TestsApart e = Apart (tests_of e)

abbrev plain_expr : Expr-F ((e : Expr) × TestsApart e) → Expr-F Expr
plain_expr = map-Expr ((e : Expr) × TestsApart e) Expr (λ e. e.0)

heads_differ : (p q : List ℕ) → 0 ∷ p ≡ 1 ∷ q → ⊥
heads_differ p q e = absurd cc

two_apart : (a b : Expr) → TestsApart a → TestsApart b → Apart (map (λ p. 0 ∷ p) (tests_of a) ++ map (λ p. 1 ∷ p) (tests_of b))
two_apart a b h g =
    apart_both (map (λ (p : List ℕ). 0 ∷ p) (tests_of a)) (map (λ (p : List ℕ). 1 ∷ p) (tests_of b)) (apart_map (λ (p : List ℕ). 0 ∷ p) (below_same 0) (tests_of a) h) (apart_map (λ (p : List ℕ). 1 ∷ p) (below_same 1) (tests_of b) g)
    (λ q l r.
    let here = has_of_map (λ (p : List ℕ). 0 ∷ p) (tests_of a) l in
    let there = has_of_map (λ (p : List ℕ). 1 ∷ p) (tests_of b) r in
    absurd (heads_differ here.0 there.0 (sym here.2 ∙ there.2)))

layer_apart : (y : Expr-F ((e : Expr) × TestsApart e)) → Apart (tests_layer (map-Expr Expr Paths tests_of (plain_expr y)))
layer_apart (layer.Unary sign.Not a offset) = apart_map (λ (p : List ℕ). 0 ∷ p) (below_same 0) (tests_of a.0) a.1
layer_apart (layer.Binary oper.And a b offset) = two_apart a.0 b.0 a.1 b.1
layer_apart (layer.Binary oper.Or a b offset) = two_apart a.0 b.0 a.1 b.1
layer_apart _ = one_apart []

tests_apart : (e : Expr) → TestsApart e
tests_apart = ind-Expr TestsApart (λ x y is. subst (λ (z : Expr-F Expr). TestsApart (roll-Expr z)) is (subst (λ (ps : Paths). Apart ps) (sym (fold-roll-Expr Paths tests_layer (plain_expr y))) (layer_apart y)))

-- parts

instruction_apart : (a : Option Instruction) → Apart (instruction_places a)
instruction_apart None = no_more
instruction_apart (Some a) = one_apart []

row_apart : (row : List (Option Instruction)) → EachApart (map instruction_places row)
row_apart [] = all_none
row_apart (a ∷ row) = all_more (instruction_apart a) (row_apart row)

ones_apart : {A : Type 0} (g : A → Option Instruction) (xs : List A) → EachApart (map places_in (map (λ x. One (g x)) xs))
ones_apart g [] = all_none
ones_apart g (x ∷ xs) = all_more (instruction_apart (g x)) (ones_apart g xs)

module _ (slot : Option ℕ) where
  abbrev ItemApart : Item → Type 0
  ItemApart i = Apart ([] ∷ of_item slot i)

  abbrev ArmApart : Arm → Type 0
  ArmApart a = Apart (of_arm slot a).1

  abbrev BlockApart : Block → Type 0
  BlockApart b = Apart (places_of slot b)

  abbrev PieceApart : Piece → Type 0
  PieceApart p = Apart (of_piece slot p)

  abbrev Held : Type 0
  Held = Item-F ((i : Item) × ItemApart i) ((a : Arm) × ArmApart a) ((b : Block) × BlockApart b) ((p : Piece) × PieceApart p)

  abbrev plain_item : Held → Item-F Item Arm Block Piece
  plain_item = map-Item ((i : Item) × ItemApart i) ((a : Arm) × ArmApart a) ((b : Block) × BlockApart b) ((p : Piece) × PieceApart p) Item Arm Block Piece (λ e. e.0) (λ e. e.0) (λ e. e.0) (λ e. e.0)

  abbrev placed_item : Item-F Item Arm Block Piece → Item-F Paths (Expr × Paths) Paths Paths
  placed_item = map-Item Item Arm Block Piece Paths (Expr × Paths) Paths Paths (of_item slot) (of_arm slot) (places_of slot) (of_piece slot)

  abbrev PartsApart : Item-F Item Arm Block Piece → Type 0
  PartsApart x = EachApart (map places_in (parts (λ a. a.0) (λ a. a.1) slot (placed_item x)))

  arms_apart : (arms : List ((a : Arm) × ArmApart a)) (rest : List (Part Paths)) → EachApart (map places_in rest) →
      EachApart (map places_in (arm_parts (λ a. a.0) (λ a. a.1) (map (of_arm slot) (map (λ e. e.0) arms)) ++ rest))
  arms_apart [] rest h = h
  arms_apart (a ∷ arms) rest h = all_more (tests_apart (of_arm slot a.0).0) (all_more a.1 (arms_apart arms rest h))

  parts_apart : (y : Held) → PartsApart (plain_item y)
  parts_apart (Declare ds) = ones_apart (λ d. declared d d.right) ds
  parts_apart (Assign s) = all_more (instruction_apart (assigned s s.right)) all_none
  parts_apart (Do c) = all_more (instruction_apart (called None c)) all_none
  parts_apart (Nest b) = all_more b.1 all_none
  parts_apart (If arms None) = arms_apart arms [] all_none
  parts_apart (If arms (Some b)) = arms_apart arms (Within (places_of slot b.0) ∷ []) (all_more b.1 all_none)
  parts_apart (While e b) = all_more (tests_apart e) (all_more b.1 all_none)
  parts_apart (For head b) =
      all_more (apart_numbered 0 (map instruction_places (map started head.start)) (row_apart (map started head.start)))
      (all_more (tests_apart (condition_of head.test))
      (all_more (apart_numbered 0 (map instruction_places (last_row head.step)) (row_apart (last_row head.step))) (all_more b.1 all_none)))
  parts_apart Break = all_none
  parts_apart Continue = all_none
  parts_apart (Return value offset) = ones_apart (λ a. a) (returned slot value offset)

  step_item : (x : Item-F Item Arm Block Piece) (y : Held) → plain_item y ≡ x → ItemApart (roll-Item x)
  step_item x y is =
      subst (λ (ps : Paths). Apart ([] ∷ ps)) (sym (fold-roll-Item Paths (Expr × Paths) Paths Paths (item_places slot) arm_places block_places piece_places x))
      (one_more (no_empty 0 (map places_in (parts (λ a. a.0) (λ a. a.1) slot (placed_item x)))) (apart_numbered 0 (map places_in (parts (λ a. a.0) (λ a. a.1) slot (placed_item x))) (subst PartsApart is (parts_apart y))))

  step_arm : (x : Arm-F Item Arm Block Piece) (y : Arm-F ((i : Item) × ItemApart i) ((a : Arm) × ArmApart a) ((b : Block) × BlockApart b) ((p : Piece) × PieceApart p))
      → map-Arm ((i : Item) × ItemApart i) ((a : Arm) × ArmApart a) ((b : Block) × BlockApart b) ((p : Piece) × PieceApart p) Item Arm Block Piece (λ e. e.0) (λ e. e.0) (λ e. e.0) (λ e. e.0) y ≡ x → ArmApart (roll-Arm x)
  step_arm x y is =
      let held : BlockApart x.body = subst (λ (z : Arm-F Item Arm Block Piece). BlockApart z.body) is y.body.1 in
      subst (λ (ps : Paths). Apart ps) (sym (ap (λ (a : Expr × Paths). a.1) (fold-roll-Arm Paths (Expr × Paths) Paths Paths (item_places slot) arm_places block_places piece_places x))) held

  pieces_apart : (ps : List ((p : Piece) × PieceApart p)) → EachApart (map (of_piece slot) (map (λ e. e.0) ps) ++ (([] ∷ []) ∷ []))
  pieces_apart [] = all_more (one_apart []) all_none
  pieces_apart (p ∷ ps) = all_more p.1 (pieces_apart ps)

  step_block : (x : Block-F Item Arm Block Piece) (y : Block-F ((i : Item) × ItemApart i) ((a : Arm) × ArmApart a) ((b : Block) × BlockApart b) ((p : Piece) × PieceApart p))
      → map-Block ((i : Item) × ItemApart i) ((a : Arm) × ArmApart a) ((b : Block) × BlockApart b) ((p : Piece) × PieceApart p) Item Arm Block Piece (λ e. e.0) (λ e. e.0) (λ e. e.0) (λ e. e.0) y ≡ x → BlockApart (roll-Block x)
  step_block x y is =
      let held = subst (λ (z : Block-F Item Arm Block Piece). EachApart (map (of_piece slot) z.items ++ (([] ∷ []) ∷ []))) is (pieces_apart y.items) in
      subst (λ (ps : Paths). Apart ps) (sym (fold-roll-Block Paths (Expr × Paths) Paths Paths (item_places slot) arm_places block_places piece_places x))
      (apart_numbered 0 (map (of_piece slot) x.items ++ (([] ∷ []) ∷ [])) held)

  step_piece : (x : Piece-F Item Arm Block Piece) (y : Piece-F ((i : Item) × ItemApart i) ((a : Arm) × ArmApart a) ((b : Block) × BlockApart b) ((p : Piece) × PieceApart p))
      → map-Piece ((i : Item) × ItemApart i) ((a : Arm) × ArmApart a) ((b : Block) × BlockApart b) ((p : Piece) × PieceApart p) Item Arm Block Piece (λ e. e.0) (λ e. e.0) (λ e. e.0) (λ e. e.0) y ≡ x → PieceApart (roll-Piece x)
  step_piece x y is =
      subst (λ (ps : Paths). Apart ps) (sym (fold-roll-Piece Paths (Expr × Paths) Paths Paths (item_places slot) arm_places block_places piece_places x))
      (subst (λ (z : Piece-F Item Arm Block Piece). ItemApart z.item) is y.item.1)

  block_apart : (b : Block) → BlockApart b
  block_apart = ind-Block ItemApart ArmApart BlockApart PieceApart step_item step_arm step_block step_piece

-- functions

fun_apart : (p : Program) (f : ℕ) (d : FunDef) → Apart (places_in_fun p f d)
fun_apart p f d =
    let pss = map (of_piece (result_slot p f)) (out-Block d.body).items ++ (([] ∷ []) ∷ []) in
    let long : length pss ≡ length (map (of_piece (result_slot p f)) (out-Block d.body).items) + 1 = length-append (map (of_piece (result_slot p f)) (out-Block d.body).items) (([] ∷ []) ∷ []) in
    let many : length (map (of_piece (result_slot p f)) (out-Block d.body).items) ≡ length (out-Block d.body).items = length-map (out-Block d.body).items (of_piece (result_slot p f)) in
    apart_both (places_of (result_slot p f) d.body) ((brace_of d.body ∷ []) ∷ []) (block_apart (result_slot p f) d.body) (one_apart (brace_of d.body ∷ []))
    (λ q h g.
    let it = numbered_head 0 pss q (subst (λ (ps : Paths). Has q ps) (block_opened (result_slot p f) d.body) h) in
    let heads : it.0 ∷ it.1 ≡ brace_of d.body ∷ [] = sym it.2 ∙ only_one g in
    let same : it.0 ≡ length (out-Block d.body).items + 1 = cc in
    let high = it.4 in
    absurd (omega arith))

-- a function has no place twice
pub places_apart : (p : Program) (f : ℕ) → Apart (places p f)
places_apart p f = by_function (slice_get p.funs f)
  where
    by_function : (o : Option FunDef) → Apart (unwrap_or (option_map (places_in_fun p f) o) [])
    by_function None = no_more
    by_function (Some d) = fun_apart p f d
