-- Where something stands at a path of a function, the path is one of the function's places.
use Rattle.std.proofs.Common.{◌≡◌, ◌≢◌, ℕ, zero, suc, ◌==◌, Bool, true, false, List, [], ◌∷◌, ◌++◌, map, length, slice_get, unwrap_or, Option, Some, None, option_map, option_and_then, refl, ap, sym, subst, ◌∙◌}
use Rattle.std.specs.Prelude.{if◌then◌else◌}
use Rattle.std.proofs.lemmas.Bool.{eqb-true}
use Rattle.std.proofs.lemmas.List.{map-append, length-map}
use Rattle.std.proofs.lemmas.Option.{slice_get-map}
use Rattle.c_tree.specs.declared.expr.Expr.{Expr, Expr-F, out-Expr, map-Expr, fold_out-Expr}
use Rattle.c_tree.specs.declared.expr.Expr.TheOpen as layer
use Rattle.c_tree.specs.declared.expr.Sign.TheVariants as sign
use Rattle.c_tree.specs.declared.expr.Oper.TheVariants as oper
use Rattle.c_tree.specs.declared.program.Block.{Block, out-Block, fold_out-Block}
use Rattle.c_tree.specs.declared.program.Piece.{Piece, out-Piece, fold-Piece, fold_out-Piece}
use Rattle.c_tree.specs.declared.program.Item.{Item, Item-F, out-Item, fold-Item, fold_out-Item, map-Item}
use Rattle.c_tree.specs.declared.program.Item.TheOpen.{Declare, Assign, Do, Nest, If, While, For, Break, Continue, Return}
use Rattle.c_tree.specs.declared.program.Arm.{Arm, fold-Arm, fold_out-Arm}
use Rattle.c_tree.specs.declared.program.FunDef.{FunDef}
use Rattle.c_tree.specs.declared.program.Program.{Program}
use Rattle.c_meaning.specs.Parts.{Instruction, Part, One, Row, Condition, Within, declared, returned, arm_parts, parts}
use Rattle.c_meaning.specs.Place.{Spot, AtGap, AtAction, Nowhere, operand, atomic, test_at, tests_layer, tests_of, arm_test, arm_body, part_of, gap_at, row_spot, test_spot, spot_in, spot_of, result_slot, brace_of, closing, spot_or_brace, spot_in_fun, numbered, instruction_places, places_in, item_places, arm_places, block_places, piece_places, places_of, places_in_fun}
use Rattle.c_graph.specs.Nodes.{spot_at, places}
use Rattle.call_contexts.proofs.Has.{Has, first, later, has_left, has_right, has_map}
use Rattle.c_graph.proofs.Numbered.{has_first_numbered, within_more, last_of_more}

-- conditions

abbrev tests_below : Expr-F Expr → Expr-F (List (List ℕ))
tests_below = map-Expr Expr (List (List ℕ)) tests_of

atom_listed : (e t : Expr) (l : Expr-F Expr) → atomic e l ≡ Some t → Has [] (tests_layer (tests_below l))
atom_listed e t (layer.Unary sign.Not a offset) is = absurd cc
atom_listed e t (layer.Binary oper.And a b offset) is = absurd cc
atom_listed e t (layer.Binary oper.Or a b offset) is = absurd cc
atom_listed e t _ is = first

operand_listed : (path : List ℕ) → ((e t : Expr) → test_at path e ≡ Some t → Has path (tests_of e)) →
    (k : ℕ) (l : Expr-F Expr) (t : Expr) → option_and_then (test_at path) (operand k l) ≡ Some t → Has (k ∷ path) (tests_layer (tests_below l))
operand_listed path inner zero (layer.Unary sign.Not a offset) t is = has_map (λ p. 0 ∷ p) (inner a t is)
operand_listed path inner zero (layer.Binary oper.And a b offset) t is = has_left (map (λ p. 1 ∷ p) (tests_of b)) (has_map (λ p. 0 ∷ p) (inner a t is))
operand_listed path inner (suc zero) (layer.Binary oper.And a b offset) t is = has_right (map (λ p. 0 ∷ p) (tests_of a)) (has_map (λ p. 1 ∷ p) (inner b t is))
operand_listed path inner zero (layer.Binary oper.Or a b offset) t is = has_left (map (λ p. 1 ∷ p) (tests_of b)) (has_map (λ p. 0 ∷ p) (inner a t is))
operand_listed path inner (suc zero) (layer.Binary oper.Or a b offset) t is = has_right (map (λ p. 0 ∷ p) (tests_of a)) (has_map (λ p. 1 ∷ p) (inner b t is))
operand_listed path inner _ _ t is = absurd cc

tests_opened : (e : Expr) → tests_of e ≡ tests_layer (tests_below (out-Expr e))
tests_opened e = fold_out-Expr (List (List ℕ)) tests_layer e

test_listed : (path : List ℕ) (e t : Expr) → test_at path e ≡ Some t → Has path (tests_of e)
test_listed [] e t is = subst (λ (ps : List (List ℕ)). Has [] ps) (sym (tests_opened e)) (atom_listed e t (out-Expr e) is)
test_listed (k ∷ path) e t is = subst (λ (ps : List (List ℕ)). Has (k ∷ path) ps) (sym (tests_opened e)) (operand_listed path (test_listed path) k (out-Expr e) t is)

-- parts

abbrev pub Paths : Type 0
Paths = List (List ℕ)

-- a part with f of its block
abbrev pub part_with : {B C : Type 0} → (B → C) → Part B → Part C
part_with f (One a) = One a
part_with f (Row row) = Row row
part_with f (Condition e) = Condition e
part_with f (Within b) = Within (f b)

ones_with : {A B C : Type 0} (f : B → C) (g : A → Option Instruction) (xs : List A) → map (λ x. One (g x)) xs ≡ map (part_with f) (map (λ x. One (g x)) xs)
ones_with f g [] = refl
ones_with {C = C} f g (x ∷ xs) = ap (λ (ps : List (Part C)). One (g x) ∷ ps) (ones_with f g xs)

test_listed_spot : (path : List ℕ) (e : Expr) (o : Option Expr) → test_at path e ≡ o → test_spot o ≢ Nowhere → Has path (tests_of e)
test_listed_spot path e None is h = absurd (h refl)
test_listed_spot path e (Some t) is h = test_listed path e t is

row_listed : (k : ℕ) (row : List (Option Instruction)) (o : Option (Option Instruction)) → slice_get row k ≡ o → row_spot o ≢ Nowhere → Has (k ∷ []) (numbered 0 (map instruction_places row))
row_listed k row None is h = absurd (h refl)
row_listed k row (Some None) is h = absurd (h refl)
row_listed k row (Some (Some a)) is h =
    has_first_numbered k (map instruction_places row) ([] ∷ []) [] (slice_get-map instruction_places row k ∙ ap (option_map instruction_places) is) first

module _ (slot : Option ℕ) where
  abbrev pub of_item : Item → Paths
  of_item = fold-Item Paths (Expr × Paths) Paths Paths (item_places slot) arm_places block_places piece_places

  abbrev pub of_arm : Arm → Expr × Paths
  of_arm = fold-Arm Paths (Expr × Paths) Paths Paths (item_places slot) arm_places block_places piece_places

  abbrev pub of_piece : Piece → Paths
  of_piece = fold-Piece Paths (Expr × Paths) Paths Paths (item_places slot) arm_places block_places piece_places

  abbrev placed_item : Item-F Item Arm Block Piece → Item-F Paths (Expr × Paths) Paths Paths
  placed_item = map-Item Item Arm Block Piece Paths (Expr × Paths) Paths Paths of_item of_arm (places_of slot) of_piece

  abbrev tested : Expr → Paths → Expr × Paths
  tested e ps = (e, ps)

  arm_opened : (a : Arm) → of_arm a ≡ tested (arm_test a) (places_of slot (arm_body a))
  arm_opened a = fold_out-Arm Paths (Expr × Paths) Paths Paths (item_places slot) arm_places block_places piece_places a

  item_opened : (i : Item) → of_item i ≡ item_places slot (placed_item (out-Item i))
  item_opened i = fold_out-Item Paths (Expr × Paths) Paths Paths (item_places slot) arm_places block_places piece_places i

  pub piece_opened : (p : Piece) → of_piece p ≡ [] ∷ of_item (out-Piece p).item
  piece_opened p = fold_out-Piece Paths (Expr × Paths) Paths Paths (item_places slot) arm_places block_places piece_places p

  pub block_opened : (b : Block) → places_of slot b ≡ numbered 0 (map of_piece (out-Block b).items ++ (([] ∷ []) ∷ []))
  block_opened b = fold_out-Block Paths (Expr × Paths) Paths Paths (item_places slot) arm_places block_places piece_places b

  arms_with : (arms : List Arm) → arm_parts (λ a. a.0) (λ a. a.1) (map of_arm arms) ≡ map (part_with (places_of slot)) (arm_parts arm_test arm_body arms)
  arms_with [] = refl
  arms_with (a ∷ arms) =
      ap (λ (x : Expr × Paths). Condition x.0 ∷ Within x.1 ∷ arm_parts (λ y. y.0) (λ y. y.1) (map of_arm arms)) (arm_opened a)
      ∙ ap (λ (ps : List (Part Paths)). Condition (arm_test a) ∷ Within (places_of slot (arm_body a)) ∷ ps) (arms_with arms)

  if_with : (arms : List Arm) (rest : List (Part Block)) →
      arm_parts (λ a. a.0) (λ a. a.1) (map of_arm arms) ++ map (part_with (places_of slot)) rest ≡ map (part_with (places_of slot)) (arm_parts arm_test arm_body arms ++ rest)
  if_with arms rest =
      ap (λ (ps : List (Part Paths)). ps ++ map (part_with (places_of slot)) rest) (arms_with arms)
      ∙ sym (map-append (part_with (places_of slot)) (arm_parts arm_test arm_body arms) rest)

  -- the parts of an item whose blocks were taken for their places
  pub parts_with : (x : Item-F Item Arm Block Piece) → parts (λ a. a.0) (λ a. a.1) slot (placed_item x) ≡ map (part_with (places_of slot)) (parts arm_test arm_body slot x)
  parts_with (Declare ds) = ones_with (places_of slot) (λ d. declared d d.right) ds
  parts_with (Assign s) = refl
  parts_with (Do c) = refl
  parts_with (Nest b) = refl
  parts_with (If arms None) = if_with arms []
  parts_with (If arms (Some b)) = if_with arms (Within b ∷ [])
  parts_with (While e b) = refl
  parts_with (For head b) = refl
  parts_with Break = refl
  parts_with Continue = refl
  parts_with (Return value offset) = ones_with (places_of slot) (λ a. a) (returned slot value offset)

  part_listed : (inner : Block → Spot) (path : List ℕ) → ((b : Block) → inner b ≢ Nowhere → Has path (places_of slot b)) →
      (part : Part Block) → spot_in inner path (Some part) ≢ Nowhere → Has path (places_in (part_with (places_of slot) part))
  part_listed inner [] below (One None) h = absurd (h refl)
  part_listed inner [] below (One (Some a)) h = first
  part_listed inner [] below (Row row) h = absurd (h refl)
  part_listed inner [] below (Condition e) h = test_listed_spot [] e (test_at [] e) refl h
  part_listed inner [] below (Within b) h = below b h
  part_listed inner (k ∷ []) below (One a) h = absurd (h refl)
  part_listed inner (k ∷ []) below (Row row) h = row_listed k row (slice_get row k) refl h
  part_listed inner (k ∷ []) below (Condition e) h = test_listed_spot (k ∷ []) e (test_at (k ∷ []) e) refl h
  part_listed inner (k ∷ []) below (Within b) h = below b h
  part_listed inner (k ∷ j ∷ path) below (One a) h = absurd (h refl)
  part_listed inner (k ∷ j ∷ path) below (Row row) h = absurd (h refl)
  part_listed inner (k ∷ j ∷ path) below (Condition e) h = test_listed_spot (k ∷ j ∷ path) e (test_at (k ∷ j ∷ path) e) refl h
  part_listed inner (k ∷ j ∷ path) below (Within b) h = below b h

  no_part : (inner : Block → Spot) (path : List ℕ) → spot_in inner path None ≡ Nowhere
  no_part inner [] = refl
  no_part inner (k ∷ []) = refl
  no_part inner (k ∷ j ∷ path) = refl

  -- an item's places, from those of its part k
  item_listed : (path : List ℕ) (k : ℕ) (x : Item-F Item Arm Block Piece) (part : Part Block) → part_of slot k x ≡ Some part →
      Has path (places_in (part_with (places_of slot) part)) → Has (k ∷ path) (item_places slot (placed_item x))
  item_listed path k x part is h =
      has_first_numbered k (map places_in (parts (λ a. a.0) (λ a. a.1) slot (placed_item x))) (places_in (part_with (places_of slot) part)) path
      (slice_get-map places_in (parts (λ a. a.0) (λ a. a.1) slot (placed_item x)) k
      ∙ ap (λ (ps : List (Part Paths)). option_map places_in (slice_get ps k)) (parts_with x)
      ∙ ap (option_map places_in) (slice_get-map (part_with (places_of slot)) (parts arm_test arm_body slot x) k ∙ ap (option_map (part_with (places_of slot))) is))
      h

  -- a block's places, from those of its piece i
  piece_listed : (i : ℕ) (path : List ℕ) (b : Block) (p : Piece) → slice_get (out-Block b).items i ≡ Some p → Has path (of_piece p) → Has (i ∷ path) (places_of slot b)
  piece_listed i path b p is h =
      subst (λ (ps : Paths). Has (i ∷ path) ps) (sym (block_opened b))
      (has_first_numbered i (map of_piece (out-Block b).items ++ (([] ∷ []) ∷ [])) (of_piece p) path
      (within_more (map of_piece (out-Block b).items) ([] ∷ []) (of_piece p) i (slice_get-map of_piece (out-Block b).items i ∙ ap (option_map of_piece) is)) h)

  last_listed : (i : ℕ) (b : Block) → i ≡ length (out-Block b).items → Has (i ∷ []) (places_of slot b)
  last_listed i b is =
      subst (λ (ps : Paths). Has (i ∷ []) ps) (sym (block_opened b))
      (has_first_numbered i (map of_piece (out-Block b).items ++ (([] ∷ []) ∷ [])) ([] ∷ []) []
      (ap (slice_get (map of_piece (out-Block b).items ++ (([] ∷ []) ∷ []))) (is ∙ sym (length-map (out-Block b).items of_piece)) ∙ last_of_more (map of_piece (out-Block b).items) ([] ∷ [])) first)

  past_listed : (i : ℕ) (b : Block) (t : Bool) → (i == length (out-Block b).items) ≡ t → (if t then AtGap (out-Block b).last_gap else Nowhere) ≢ Nowhere → Has (i ∷ []) (places_of slot b)
  past_listed i b true is h = last_listed i b (eqb-true i (length (out-Block b).items) is)
  past_listed i b false is h = absurd (h refl)

  gap_listed : (i : ℕ) (b : Block) (o : Option Piece) → slice_get (out-Block b).items i ≡ o → gap_at b i o ≢ Nowhere → Has (i ∷ []) (places_of slot b)
  gap_listed i b (Some p) is h = piece_listed i [] b p is (subst (λ (ps : Paths). Has [] ps) (sym (piece_opened p)) first)
  gap_listed i b None is h = past_listed i b (i == length (out-Block b).items) refl h

  inner_listed : (i k : ℕ) (path : List ℕ) (b : Block) → ((c : Block) → spot_of slot path c ≢ Nowhere → Has path (places_of slot c)) →
      (p : Piece) → slice_get (out-Block b).items i ≡ Some p → (o : Option (Part Block)) → part_of slot k (out-Item (out-Piece p).item) ≡ o →
      spot_in (spot_of slot path) path o ≢ Nowhere → Has (i ∷ k ∷ path) (places_of slot b)
  inner_listed i k path b below p is None there h = absurd (h (no_part (spot_of slot path) path))
  inner_listed i k path b below p is (Some part) there h =
      piece_listed i (k ∷ path) b p is
      (subst (λ (ps : Paths). Has (k ∷ path) ps) (sym (piece_opened p))
      (later (subst (λ (ps : Paths). Has (k ∷ path) ps) (sym (item_opened (out-Piece p).item))
      (item_listed path k (out-Item (out-Piece p).item) part there (part_listed (spot_of slot path) path below part h)))))

  in_piece_listed : (i k : ℕ) (path : List ℕ) (b : Block) → ((c : Block) → spot_of slot path c ≢ Nowhere → Has path (places_of slot c)) →
      (o : Option Piece) → slice_get (out-Block b).items i ≡ o →
      spot_in (spot_of slot path) path (option_and_then (part_of slot k) (option_map (λ p. out-Item (out-Piece p).item) o)) ≢ Nowhere → Has (i ∷ k ∷ path) (places_of slot b)
  in_piece_listed i k path b below None is h = absurd (h (no_part (spot_of slot path) path))
  in_piece_listed i k path b below (Some p) is h = inner_listed i k path b below p is (part_of slot k (out-Item (out-Piece p).item)) refl h

  -- what stands in a block is listed
  pub listed : (path : List ℕ) (b : Block) → spot_of slot path b ≢ Nowhere → Has path (places_of slot b)
  listed [] b h = absurd (h refl)
  listed (i ∷ []) b h = gap_listed i b (slice_get (out-Block b).items i) refl h
  listed (i ∷ k ∷ path) b h = in_piece_listed i k path b (listed path) (slice_get (out-Block b).items i) refl h

-- functions

brace_listed : (p : Program) (f : ℕ) (d : FunDef) (i : ℕ) (t : Bool) → (i == brace_of d.body) ≡ t →
    (if t then AtAction (closing p f d) else spot_of (result_slot p f) (i ∷ []) d.body) ≢ Nowhere → Has (i ∷ []) (places_in_fun p f d)
brace_listed p f d i true is h =
    has_right (places_of (result_slot p f) d.body) (subst (λ (n : ℕ). Has (i ∷ []) ((n ∷ []) ∷ [])) (eqb-true i (brace_of d.body) is) first)
brace_listed p f d i false is h = has_left ((brace_of d.body ∷ []) ∷ []) (listed (result_slot p f) (i ∷ []) d.body h)

or_brace_listed : (p : Program) (f : ℕ) (d : FunDef) (path : List ℕ) → spot_or_brace p f d path ≢ Nowhere → Has path (places_in_fun p f d)
or_brace_listed p f d [] h = absurd (h refl)
or_brace_listed p f d (i ∷ []) h = brace_listed p f d i (i == brace_of d.body) refl h
or_brace_listed p f d (i ∷ k ∷ path) h = has_left ((brace_of d.body ∷ []) ∷ []) (listed (result_slot p f) (i ∷ k ∷ path) d.body h)

fun_listed : (p : Program) (f : ℕ) (path : List ℕ) (d : Option FunDef) → spot_in_fun p f d path ≢ Nowhere → Has path (unwrap_or (option_map (places_in_fun p f) d) [])
fun_listed p f path None h = absurd (h refl)
fun_listed p f path (Some d) h = or_brace_listed p f d path h

-- where something stands at a path of function f, the path is a place of f
pub stands_listed : (p : Program) (f : ℕ) (path : List ℕ) → spot_at p f path ≢ Nowhere → Has path (places p f)
stands_listed p f path h = fun_listed p f path (slice_get p.funs f) h
