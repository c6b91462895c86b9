-- The places of blocks and of parts, below the way that leads there.
use Rattle.std.proofs.Common.{◌≡◌, ℕ, suc, ◌+◌, ◌*◌, List, [], ◌∷◌, ◌++◌, map, length, drop, ◌≤◌, Option, None, refl, ap, sym, subst, ◌∙◌, arith, append-nil}
use Rattle.std.proofs.lemmas.List.{map-append, append_assoc, drop_all}
use Rattle.c_tree.specs.declared.expr.Expr.{Expr, Expr-F, map-Expr, fold-roll-Expr, ind-Expr}
use Rattle.c_tree.specs.declared.expr.Expr.TheOpen as layer
use Rattle.c_tree.specs.declared.expr.Sign.TheVariants as sign
use Rattle.c_tree.specs.declared.expr.Oper.TheVariants as oper
use Rattle.c_tree.specs.declared.program.Arm.{Arm}
use Rattle.c_tree.specs.declared.program.Block.{Block, out-Block}
use Rattle.c_tree.specs.declared.program.Piece.{Piece, out-Piece}
use Rattle.c_tree.specs.declared.program.Item.{Item, out-Item, fold_out-Item}
use Rattle.c_tree.specs.declared.program.ForHead.{ForHead}
use Rattle.c_meaning.specs.Parts.{Instruction, Part, One, Row, Condition, Within, arm_parts, condition_of, last_row, parts, started}
use Rattle.c_meaning.specs.Place.{arm_test, arm_body, numbered, instruction_places, places_in, item_places, arm_places, block_places, piece_places, places_of, tests_layer, tests_of}
use Rattle.c_graph.proofs.Listed.{Paths, part_with, of_item, of_piece, parts_with, piece_opened, block_opened}
use Rattle.cfg_lower.specs.Listing.{below_all, head_below, ones, part_places, parts_below, piece_below, pieces_below, tests_behind_layer, tests_behind}

pub below_step : (prefix : List ℕ) (k : ℕ) (ps : Paths) → below_all prefix (map (λ q. k ∷ q) ps) ≡ below_all (prefix ++ k ∷ []) ps
below_step prefix k [] = refl
below_step prefix k (q ∷ ps) =
    ap (λ (r : List ℕ). r ∷ below_all prefix (map (λ q. k ∷ q) ps)) (sym (append_assoc prefix (k ∷ []) q))
    ∙ ap (λ (rs : Paths). ((prefix ++ k ∷ []) ++ q) ∷ rs) (below_step prefix k ps)

pub below_both : (prefix : List ℕ) (ps qs : Paths) → below_all prefix (ps ++ qs) ≡ below_all prefix ps ++ below_all prefix qs
below_both prefix ps qs = map-append (λ q. prefix ++ q) ps qs

-- without a way, they are as they were
pub below_nothing : (ps : Paths) → below_all [] ps ≡ ps
below_nothing [] = refl
below_nothing (p ∷ ps) = ap (λ (qs : Paths). p ∷ qs) (below_nothing ps)

-- lists of places below their numbers
first_of : (prefix : List ℕ) (k : ℕ) (ps : Paths) (pss : List Paths) → below_all prefix (numbered k (ps ∷ pss)) ≡ below_all (prefix ++ k ∷ []) ps ++ below_all prefix (numbered (k + 1) pss)
first_of prefix k ps pss = below_both prefix (map (λ q. k ∷ q) ps) (numbered (k + 1) pss) ∙ ap (λ (rs : Paths). rs ++ below_all prefix (numbered (k + 1) pss)) (below_step prefix k ps)

module _ (slot : Option ℕ) where
  part_is : (part : Part Block) → places_in (part_with (places_of slot) part) ≡ part_places slot part
  part_is (One a) = refl
  part_is (Row row) = refl
  part_is (Condition e) = refl
  part_is (Within b) = refl

  parts_are : (prefix : List ℕ) (k : ℕ) (xs : List (Part Block)) → below_all prefix (numbered k (map places_in (map (part_with (places_of slot)) xs))) ≡ parts_below slot prefix k xs
  parts_are prefix k [] = refl
  parts_are prefix k (x ∷ xs) =
      first_of prefix k (places_in (part_with (places_of slot) x)) (map places_in (map (part_with (places_of slot)) xs))
      ∙ ap (λ (ps : Paths). below_all (prefix ++ k ∷ []) ps ++ below_all prefix (numbered (k + 1) (map places_in (map (part_with (places_of slot)) xs)))) (part_is x)
      ∙ ap (λ (ps : Paths). below_all (prefix ++ k ∷ []) (part_places slot x) ++ ps) (parts_are prefix (k + 1) xs)

  item_lists : (prefix : List ℕ) (i : Item) → below_all prefix (of_item slot i) ≡ parts_below slot prefix 0 (parts arm_test arm_body slot (out-Item i))
  item_lists prefix i =
      ap (below_all prefix) (fold_out-Item Paths (Expr × Paths) Paths Paths (item_places slot) arm_places block_places piece_places i)
      ∙ ap (λ (xs : List (Part Paths)). below_all prefix (numbered 0 (map places_in xs))) (parts_with slot (out-Item i))
      ∙ parts_are prefix 0 (parts arm_test arm_body slot (out-Item i))

  piece_lists : (prefix : List ℕ) (p : Piece) → below_all prefix (of_piece slot p) ≡ piece_below slot prefix p
  piece_lists prefix p =
      ap (below_all prefix) (piece_opened slot p)
      ∙ ap (λ (q : List ℕ). q ∷ below_all prefix (of_item slot (out-Piece p).item)) (append-nil prefix)
      ∙ ap (λ (ps : Paths). prefix ∷ ps) (item_lists prefix (out-Piece p).item)

  pieces_list : (prefix : List ℕ) (i : ℕ) (ps : List Piece) → below_all prefix (numbered i (map (of_piece slot) ps ++ (([] ∷ []) ∷ []))) ≡ pieces_below slot prefix i ps ++ (prefix ++ (i + length ps) ∷ []) ∷ []
  pieces_list prefix i [] =
      let on : i ≡ i + 0 = omega arith in
      ap (λ (n : ℕ). (prefix ++ n ∷ []) ∷ []) on
  pieces_list prefix i (p ∷ ps) =
      let on : i + 1 + length ps ≡ i + suc (length ps) = omega arith in
      first_of prefix i (of_piece slot p) (map (of_piece slot) ps ++ (([] ∷ []) ∷ []))
      ∙ ap (λ (qs : Paths). qs ++ below_all prefix (numbered (i + 1) (map (of_piece slot) ps ++ (([] ∷ []) ∷ [])))) (piece_lists (prefix ++ i ∷ []) p)
      ∙ ap (λ (qs : Paths). piece_below slot (prefix ++ i ∷ []) p ++ qs)
      (pieces_list prefix (i + 1) ps ∙ ap (λ (n : ℕ). pieces_below slot prefix (i + 1) ps ++ (prefix ++ n ∷ []) ∷ []) on)
      ∙ sym (append_assoc (piece_below slot (prefix ++ i ∷ []) p) (pieces_below slot prefix (i + 1) ps) ((prefix ++ (i + suc (length ps)) ∷ []) ∷ []))

  -- a block's are those of its pieces, and the last gap
  pub block_lists : (prefix : List ℕ) (b : Block) → below_all prefix (places_of slot b) ≡ pieces_below slot prefix 0 (out-Block b).items ++ (prefix ++ length (out-Block b).items ∷ []) ∷ []
  block_lists prefix b =
      let on : 0 + length (out-Block b).items ≡ length (out-Block b).items = omega arith in
      ap (below_all prefix) (block_opened slot b)
      ∙ pieces_list prefix 0 (out-Block b).items
      ∙ ap (λ (n : ℕ). pieces_below slot prefix 0 (out-Block b).items ++ (prefix ++ n ∷ []) ∷ []) on

  -- those of parts, and of more behind them
  pub parts_both : (prefix : List ℕ) (k : ℕ) (xs ys : List (Part Block)) → parts_below slot prefix k (xs ++ ys) ≡ parts_below slot prefix k xs ++ parts_below slot prefix (k + length xs) ys
  parts_both prefix k [] ys = let on : k ≡ k + 0 = omega arith in ap (λ (n : ℕ). parts_below slot prefix n ys) on
  parts_both prefix k (x ∷ xs) ys =
      let on : k + 1 + length xs ≡ k + suc (length xs) = omega arith in
      ap (λ (ps : Paths). below_all (prefix ++ k ∷ []) (part_places slot x) ++ ps)
      (parts_both prefix (k + 1) xs ys ∙ ap (λ (n : ℕ). parts_below slot prefix (k + 1) xs ++ parts_below slot prefix n ys) on)
      ∙ sym (append_assoc (below_all (prefix ++ k ∷ []) (part_places slot x)) (parts_below slot prefix (k + 1) xs) (parts_below slot prefix (k + suc (length xs)) ys))

pub arms_count : (arms : List Arm) → length (arm_parts arm_test arm_body arms) ≡ 2 * length arms
arms_count [] = refl
arms_count (a ∷ arms) = let count = arms_count arms in omega arith

-- one arm more
pub arms_next : (slot : Option ℕ) (prefix : List ℕ) (j : ℕ) (a : Arm) (arms : List Arm) →
    parts_below slot prefix (2 * j) (arm_parts arm_test arm_body (a ∷ arms))
    ≡ below_all (prefix ++ 2 * j ∷ []) (tests_of (arm_test a)) ++ (below_all (prefix ++ (2 * j + 1) ∷ []) (places_of slot (arm_body a)) ++ parts_below slot prefix (2 * (j + 1)) (arm_parts arm_test arm_body arms))
arms_next slot prefix j a arms =
    let on : 2 * j + 1 + 1 ≡ 2 * (j + 1) = omega arith in
    ap (λ (n : ℕ). below_all (prefix ++ 2 * j ∷ []) (tests_of (arm_test a)) ++ (below_all (prefix ++ (2 * j + 1) ∷ []) (places_of slot (arm_body a)) ++ parts_below slot prefix n (arm_parts arm_test arm_body arms))) on

-- the tests of a condition, from its outermost operator
abbrev tests_below : Expr-F Expr → Expr-F Paths
tests_below = map-Expr Expr Paths tests_of

two_below : (prefix : List ℕ) (left right : Paths) → below_all prefix (map (λ p. 0 ∷ p) left ++ map (λ p. 1 ∷ p) right) ≡ below_all (prefix ++ 0 ∷ []) left ++ below_all (prefix ++ 1 ∷ []) right
two_below prefix left right =
    below_both prefix (map (λ p. 0 ∷ p) left) (map (λ p. 1 ∷ p) right)
    ∙ ap (λ (ps : Paths). ps ++ below_all prefix (map (λ p. 1 ∷ p) right)) (below_step prefix 0 left)
    ∙ ap (λ (ps : Paths). below_all (prefix ++ 0 ∷ []) left ++ ps) (below_step prefix 1 right)

-- behind the way to a condition and below it are the same
abbrev Leads : Expr → Type 0
Leads e = (prefix : List ℕ) → tests_behind e prefix ≡ below_all prefix (tests_of e)

abbrev plain_expr : Expr-F ((e : Expr) × Leads e) → Expr-F Expr
plain_expr = map-Expr ((e : Expr) × Leads e) Expr (λ e. e.0)

abbrev all_behind : Expr-F Expr → Expr-F (List ℕ → Paths)
all_behind = map-Expr Expr (List ℕ → Paths) tests_behind

two_lead : (prefix : List ℕ) (a b : Expr) → Leads a → Leads b →
    tests_behind a (prefix ++ 0 ∷ []) ++ tests_behind b (prefix ++ 1 ∷ []) ≡ below_all prefix (map (λ p. 0 ∷ p) (tests_of a) ++ map (λ p. 1 ∷ p) (tests_of b))
two_lead prefix a b g h =
    ap (λ (ps : Paths). ps ++ tests_behind b (prefix ++ 1 ∷ [])) (g (prefix ++ 0 ∷ []))
    ∙ ap (λ (ps : Paths). below_all (prefix ++ 0 ∷ []) (tests_of a) ++ ps) (h (prefix ++ 1 ∷ []))
    ∙ sym (two_below prefix (tests_of a) (tests_of b))

layer_leads : (y : Expr-F ((e : Expr) × Leads e)) (prefix : List ℕ) → tests_behind_layer (all_behind (plain_expr y)) prefix ≡ below_all prefix (tests_layer (tests_below (plain_expr y)))
layer_leads (layer.Unary sign.Not e offset) prefix = e.1 (prefix ++ 0 ∷ []) ∙ sym (below_step prefix 0 (tests_of e.0))
layer_leads (layer.Binary oper.And a b offset) prefix = two_lead prefix a.0 b.0 a.1 b.1
layer_leads (layer.Binary oper.Or a b offset) prefix = two_lead prefix a.0 b.0 a.1 b.1
layer_leads _ prefix = ap (λ (p : List ℕ). p ∷ []) (sym (append-nil prefix))

pub behind_is_below : (e : Expr) (prefix : List ℕ) → tests_behind e prefix ≡ below_all prefix (tests_of e)
behind_is_below = ind-Expr Leads (λ x y is prefix.
    let rolled : tests_behind_layer (all_behind x) prefix ≡ below_all prefix (tests_layer (tests_below x)) =
    subst (λ (z : Expr-F Expr). tests_behind_layer (all_behind z) prefix ≡ below_all prefix (tests_layer (tests_below z))) is (layer_leads y prefix) in
    ap (λ (f : List ℕ → Paths). f prefix) (fold-roll-Expr (List ℕ → Paths) tests_behind_layer x) ∙ rolled ∙ ap (below_all prefix) (sym (fold-roll-Expr Paths tests_layer x)))

-- actions have the same places whatever the slot

slot_free : {A : Type 0} (f : A → Option Instruction) (slot : Option ℕ) (way : List ℕ) (k : ℕ) (xs : List A) → parts_below None way k (map (λ x. One (f x)) xs) ≡ parts_below slot way k (map (λ x. One (f x)) xs)
slot_free f slot way k [] = refl
slot_free f slot way k (x ∷ xs) = ap (λ (ps : Paths). below_all (way ++ k ∷ []) (instruction_places (f x)) ++ ps) (slot_free f slot way (k + 1) xs)

pub actions_done : {A : Type 0} (f : A → Option Instruction) (slot : Option ℕ) (old new : Paths) (prefix : List ℕ) (xs : List A) (parts : List (Part Block)) →
    new ≡ old ++ parts_below None prefix 0 (map (λ x. One (f x)) xs) → parts ≡ map (λ x. One (f x)) xs → new ≡ old ++ parts_below slot prefix 0 parts
actions_done f slot old new prefix xs parts e is =
    e ∙ ap (λ (ps : Paths). old ++ ps) (slot_free f slot prefix 0 xs) ∙ ap (λ (ys : List (Part Block)). old ++ parts_below slot prefix 0 ys) (sym is)

row_places : {A : Type 0} (f : A → Option Instruction) (way : List ℕ) (k : ℕ) (xs : List A) → below_all way (numbered k (map instruction_places (map f xs))) ≡ parts_below None way k (map (λ x. One (f x)) xs)
row_places f way k [] = refl
row_places f way k (x ∷ xs) =
    first_of way k (instruction_places (f x)) (map instruction_places (map f xs))
    ∙ ap (λ (ps : Paths). below_all (way ++ k ∷ []) (instruction_places (f x)) ++ ps) (row_places f way (k + 1) xs)

plain_row : (way : List ℕ) (k : ℕ) (row : List (Option Instruction)) → below_all way (numbered k (map instruction_places row)) ≡ parts_below None way k (ones row)
plain_row way k [] = refl
plain_row way k (a ∷ row) =
    first_of way k (instruction_places a) (map instruction_places row)
    ∙ ap (λ (ps : Paths). below_all (way ++ k ∷ []) (instruction_places a) ++ ps) (plain_row way (k + 1) row)

-- what stands before the body of a `for`

pub head_done : (old first second new : Paths) (prefix way0 way1 way2 : List ℕ) (head : ForHead) (test : Expr) →
    first ≡ old ++ parts_below None way0 0 (map (λ s. One (started s)) head.start) → second ≡ first ++ below_all way1 (tests_of test) → new ≡ second ++ parts_below None way2 0 (ones (last_row head.step)) →
    way0 ≡ prefix ++ 0 ∷ [] → way1 ≡ prefix ++ 1 ∷ [] → way2 ≡ prefix ++ 2 ∷ [] → test ≡ condition_of head.test → new ≡ old ++ head_below prefix head
head_done old first second new prefix way0 way1 way2 head test a b c is0 is1 is2 is =
    c
    ∙ ap (λ (w : List ℕ). second ++ parts_below None w 0 (ones (last_row head.step))) is2
    ∙ ap (λ (ps : Paths). ps ++ parts_below None (prefix ++ 2 ∷ []) 0 (ones (last_row head.step)))
    (b ∙ ap (λ (w : List ℕ). first ++ below_all w (tests_of test)) is1 ∙ ap (λ (e : Expr). first ++ below_all (prefix ++ 1 ∷ []) (tests_of e)) is
    ∙ ap (λ (ps : Paths). ps ++ below_all (prefix ++ 1 ∷ []) (tests_of (condition_of head.test))) (a ∙ ap (λ (w : List ℕ). old ++ parts_below None w 0 (map (λ s. One (started s)) head.start)) is0))
    ∙ ap (λ (ps : Paths). ps ++ parts_below None (prefix ++ 2 ∷ []) 0 (ones (last_row head.step)))
    (append_assoc old (parts_below None (prefix ++ 0 ∷ []) 0 (map (λ s. One (started s)) head.start)) (below_all (prefix ++ 1 ∷ []) (tests_of (condition_of head.test))))
    ∙ append_assoc old (parts_below None (prefix ++ 0 ∷ []) 0 (map (λ s. One (started s)) head.start) ++ below_all (prefix ++ 1 ∷ []) (tests_of (condition_of head.test))) (parts_below None (prefix ++ 2 ∷ []) 0 (ones (last_row head.step)))
    ∙ ap (λ (ps : Paths). old ++ ps)
    (append_assoc (parts_below None (prefix ++ 0 ∷ []) 0 (map (λ s. One (started s)) head.start)) (below_all (prefix ++ 1 ∷ []) (tests_of (condition_of head.test))) (parts_below None (prefix ++ 2 ∷ []) 0 (ones (last_row head.step))))

-- a list and one behind it, each below its way

pub while_done : (slot : Option ℕ) (old mid new : Paths) (prefix way : List ℕ) (test : Expr) (body : Block) (parts : List (Part Block)) →
    mid ≡ old ++ below_all (prefix ++ 0 ∷ []) (tests_of test) → new ≡ mid ++ below_all way (places_of slot body) → way ≡ prefix ++ 1 ∷ [] → parts ≡ Condition test ∷ Within body ∷ [] →
    new ≡ old ++ parts_below slot prefix 0 parts
while_done slot old mid new prefix way test body parts a b is all =
    b
    ∙ ap (λ (w : List ℕ). mid ++ below_all w (places_of slot body)) is
    ∙ ap (λ (ps : Paths). ps ++ below_all (prefix ++ 1 ∷ []) (places_of slot body)) a
    ∙ append_assoc old (below_all (prefix ++ 0 ∷ []) (tests_of test)) (below_all (prefix ++ 1 ∷ []) (places_of slot body))
    ∙ ap (λ (ps : Paths). old ++ (below_all (prefix ++ 0 ∷ []) (tests_of test) ++ ps)) (sym (append-nil (below_all (prefix ++ 1 ∷ []) (places_of slot body))))
    ∙ ap (λ (ys : List (Part Block)). old ++ parts_below slot prefix 0 ys) (sym all)

head_parts : (slot : Option ℕ) (prefix : List ℕ) (head : ForHead) (body : Block) →
    head_below prefix head ++ below_all (prefix ++ 3 ∷ []) (places_of slot body)
    ≡ parts_below slot prefix 0 (Row (map started head.start) ∷ Condition (condition_of head.test) ∷ Row (last_row head.step) ∷ Within body ∷ [])
head_parts slot prefix head body =
    let a : Paths = parts_below None (prefix ++ 0 ∷ []) 0 (map (λ s. One (started s)) head.start) in
    let b : Paths = below_all (prefix ++ 1 ∷ []) (tests_of (condition_of head.test)) in
    let c : Paths = parts_below None (prefix ++ 2 ∷ []) 0 (ones (last_row head.step)) in
    let d : Paths = below_all (prefix ++ 3 ∷ []) (places_of slot body) in
    append_assoc a (b ++ c) d
    ∙ ap (λ (ps : Paths). a ++ ps) (append_assoc b c d)
    ∙ ap (λ (ps : Paths). a ++ (b ++ (c ++ ps))) (sym (append-nil d))
    ∙ ap (λ (ps : Paths). ps ++ (b ++ (c ++ (d ++ [])))) (sym (row_places started (prefix ++ 0 ∷ []) 0 head.start))
    ∙ ap (λ (ps : Paths). below_all (prefix ++ 0 ∷ []) (numbered 0 (map instruction_places (map started head.start))) ++ (b ++ (ps ++ (d ++ [])))) (sym (plain_row (prefix ++ 2 ∷ []) 0 (last_row head.step)))

pub for_done : (slot : Option ℕ) (old mid new : Paths) (prefix way : List ℕ) (head : ForHead) (body : Block) (parts : List (Part Block)) →
    mid ≡ old ++ head_below prefix head → new ≡ mid ++ below_all way (places_of slot body) → way ≡ prefix ++ 3 ∷ [] →
    parts ≡ Row (map started head.start) ∷ Condition (condition_of head.test) ∷ Row (last_row head.step) ∷ Within body ∷ [] → new ≡ old ++ parts_below slot prefix 0 parts
for_done slot old mid new prefix way head body parts a b is all =
    b
    ∙ ap (λ (w : List ℕ). mid ++ below_all w (places_of slot body)) is
    ∙ ap (λ (ps : Paths). ps ++ below_all (prefix ++ 3 ∷ []) (places_of slot body)) a
    ∙ append_assoc old (head_below prefix head) (below_all (prefix ++ 3 ∷ []) (places_of slot body))
    ∙ ap (λ (ps : Paths). old ++ ps) (head_parts slot prefix head body)
    ∙ ap (λ (ys : List (Part Block)). old ++ parts_below slot prefix 0 ys) (sym all)

pub if_done : (slot : Option ℕ) (old mid new : Paths) (prefix way : List ℕ) (arms : List Arm) (block : Block) (parts : List (Part Block)) →
    mid ≡ old ++ parts_below slot prefix 0 (arm_parts arm_test arm_body arms) → new ≡ mid ++ below_all way (places_of slot block) → way ≡ prefix ++ (2 * length arms) ∷ [] →
    parts ≡ arm_parts arm_test arm_body arms ++ Within block ∷ [] → new ≡ old ++ parts_below slot prefix 0 parts
if_done slot old mid new prefix way arms block parts a b is all =
    let count : length (arm_parts arm_test arm_body arms) ≡ 2 * length arms = arms_count arms in
    let on : 2 * length arms ≡ 0 + length (arm_parts arm_test arm_body arms) = omega arith in
    b
    ∙ ap (λ (w : List ℕ). mid ++ below_all w (places_of slot block)) (is ∙ ap (λ (n : ℕ). prefix ++ n ∷ []) on)
    ∙ ap (λ (ps : Paths). ps ++ below_all (prefix ++ (0 + length (arm_parts arm_test arm_body arms)) ∷ []) (places_of slot block)) a
    ∙ append_assoc old (parts_below slot prefix 0 (arm_parts arm_test arm_body arms)) (below_all (prefix ++ (0 + length (arm_parts arm_test arm_body arms)) ∷ []) (places_of slot block))
    ∙ ap (λ (ps : Paths). old ++ (parts_below slot prefix 0 (arm_parts arm_test arm_body arms) ++ ps)) (sym (append-nil (below_all (prefix ++ (0 + length (arm_parts arm_test arm_body arms)) ∷ []) (places_of slot block))))
    ∙ ap (λ (ps : Paths). old ++ ps) (sym (parts_both slot prefix 0 (arm_parts arm_test arm_body arms) (Within block ∷ [])))
    ∙ ap (λ (ys : List (Part Block)). old ++ parts_below slot prefix 0 ys) (sym all)

pub block_done : (slot : Option ℕ) (old mid new : Paths) (prefix path : List ℕ) (i : ℕ) (b : Block) →
    old ++ pieces_below slot prefix 0 (out-Block b).items ≡ mid ++ pieces_below slot prefix i (drop i (out-Block b).items) → length (out-Block b).items ≤ i →
    new ≡ mid ++ path ∷ [] → path ≡ prefix ++ length (out-Block b).items ∷ [] → new ≡ old ++ below_all prefix (places_of slot b)
block_done slot old mid new prefix path i b kept past e is =
    e
    ∙ ap (λ (q : List ℕ). mid ++ q ∷ []) is
    ∙ ap (λ (ps : Paths). ps ++ (prefix ++ length (out-Block b).items ∷ []) ∷ [])
    (sym (append-nil mid) ∙ ap (λ (ps : List Piece). mid ++ pieces_below slot prefix i ps) (sym (drop_all i (out-Block b).items past)) ∙ sym kept)
    ∙ append_assoc old (pieces_below slot prefix 0 (out-Block b).items) ((prefix ++ length (out-Block b).items ∷ []) ∷ [])
    ∙ ap (λ (ps : Paths). old ++ ps) (sym (block_lists slot prefix b))
