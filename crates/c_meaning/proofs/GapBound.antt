-- A step passes each gap of a function at most once: where no function has more gaps than the program counts,
-- the bound on the places that a step passes changes no step.
use Rattle.std.proofs.Common.{◌≡◌, ℕ, zero, suc, ◌+◌, ◌==◌, ◌<◌, ◌≤◌, Bool, true, false, List, [], ◌∷◌, ◌++◌, map, length, slice_get, unwrap_or, Option, Some, None, option_map, option_and_then, refl, ap, sym, subst, ◌∙◌, arith, All}
use Rattle.std.specs.Prelude.{if◌then◌else◌}
use Rattle.std.proofs.lemmas.Bool.Decides.{Decides-eqb}
use Rattle.std.proofs.lemmas.List.{length-map}
use Rattle.std.proofs.lemmas.List.Elements.{All-get_or}
use Rattle.std.proofs.lemmas.Option.{slice_get-map, slice_get_within, get_or_from_slice_get}
use Rattle.c_tree.specs.declared.expr.Expr.{Expr}
use Rattle.c_tree.specs.declared.program.Block.{Block, Block-F, out-Block, roll-out-Block, fold-Block, fold-roll-Block}
use Rattle.c_tree.specs.declared.program.Piece.{Piece, Piece-F, out-Piece, roll-out-Piece, fold-Piece, fold-roll-Piece}
use Rattle.c_tree.specs.declared.program.Item.{Item, Item-F, out-Item, roll-out-Item, fold-Item, fold-roll-Item, map-Item}
use Rattle.c_tree.specs.declared.program.Item.TheOpen.{Declare, Assign, Do, Nest, If, While, For, Break, Continue, Return}
use Rattle.c_tree.specs.declared.program.Arm.{Arm, Arm-F, out-Arm, roll-out-Arm, fold-Arm, fold-roll-Arm}
use Rattle.c_tree.specs.declared.program.Simple.{Simple}
use Rattle.c_tree.specs.declared.program.Start.{Start}
use Rattle.c_tree.specs.declared.program.FunDef.{FunDef}
use Rattle.c_tree.specs.declared.program.Program.{Program}
use Rattle.c_meaning.specs.declared.machine.Frame.{Frame}
use Rattle.c_meaning.specs.Parts.{Instruction, Part, One, Row, Condition, Within, declared, returned, arm_parts, else_parts, Departure, Through, Found, Broken, Continued, Lost, Goal, Into, Out, first_part, step_part, entry, goal}
use Rattle.c_meaning.specs.Place.{Spot, AtGap, AtAction, Nowhere, Onward, To, By, test_at, arm_test, arm_body, item_at, part_of, part_at, gap_at, instruction_spot, row_spot, test_spot, spot_in, spot_of, first_place, entered, departed, reached, behind_gap, behind_item, next_in, next, result_slot, brace_of, closing, spot_or_brace, spot_in_fun, onward_path, next_in_fun}
use Rattle.c_meaning.specs.Step.{Acts, State, with, here, onward, unless_over, at_spot, walked}

-- how many gaps there are

-- the gaps of items from number i on, and the last gap
abbrev pub from_item : List ℕ → ℕ → ℕ
from_item [] zero = 1
from_item [] (suc i) = 0
from_item (x ∷ xs) zero = x + from_item xs zero
from_item (x ∷ xs) (suc i) = from_item xs i

abbrev pub arms_gaps : List ℕ → ℕ → ℕ
arms_gaps [] otherwise = otherwise
arms_gaps (n ∷ arms) otherwise = n + arms_gaps arms otherwise

abbrev pub item_gaps : Item-F ℕ ℕ ℕ ℕ → ℕ
item_gaps (Nest b) = b
item_gaps (If arms otherwise) = arms_gaps arms (unwrap_or otherwise 0)
item_gaps (While e b) = b
item_gaps (For head b) = b
item_gaps _ = 0

abbrev pub arm_gaps : Arm-F ℕ ℕ ℕ ℕ → ℕ
arm_gaps a = a.body

abbrev pub block_gaps : Block-F ℕ ℕ ℕ ℕ → ℕ
block_gaps b = from_item b.items 0

abbrev pub piece_gaps : Piece-F ℕ ℕ ℕ ℕ → ℕ
piece_gaps p = p.item + 1

-- the number of gaps of a block, those of blocks in it too
abbrev pub gap_count : Block → ℕ
gap_count = fold-Block ℕ ℕ ℕ ℕ item_gaps arm_gaps block_gaps piece_gaps

abbrev of_piece : Piece → ℕ
of_piece = fold-Piece ℕ ℕ ℕ ℕ item_gaps arm_gaps block_gaps piece_gaps

abbrev of_item : Item → ℕ
of_item = fold-Item ℕ ℕ ℕ ℕ item_gaps arm_gaps block_gaps piece_gaps

abbrev of_arm : Arm → ℕ
of_arm = fold-Arm ℕ ℕ ℕ ℕ item_gaps arm_gaps block_gaps piece_gaps

abbrev of_layer : Item-F Item Arm Block Piece → ℕ
of_layer x = item_gaps (map-Item Item Arm Block Piece ℕ ℕ ℕ ℕ of_item of_arm gap_count of_piece x)

abbrev pieces : Block → List ℕ
pieces b = map of_piece (out-Block b).items

gaps_opened : (b : Block) → gap_count b ≡ from_item (pieces b) 0
gaps_opened b = ap gap_count (sym (roll-out-Block b)) ∙ fold-roll-Block ℕ ℕ ℕ ℕ item_gaps arm_gaps block_gaps piece_gaps (out-Block b)

piece_opened : (p : Piece) → of_piece p ≡ of_layer (out-Item (out-Piece p).item) + 1
piece_opened p =
    ap of_piece (sym (roll-out-Piece p)) ∙ fold-roll-Piece ℕ ℕ ℕ ℕ item_gaps arm_gaps block_gaps piece_gaps (out-Piece p)
    ∙ ap (λ (n : ℕ). n + 1) (ap of_item (sym (roll-out-Item (out-Piece p).item)) ∙ fold-roll-Item ℕ ℕ ℕ ℕ item_gaps arm_gaps block_gaps piece_gaps (out-Item (out-Piece p).item))

arm_opened : (a : Arm) → of_arm a ≡ gap_count (arm_body a)
arm_opened a = ap of_arm (sym (roll-out-Arm a)) ∙ fold-roll-Arm ℕ ℕ ℕ ℕ item_gaps arm_gaps block_gaps piece_gaps (out-Arm a)

from_step : (xs : List ℕ) (i x : ℕ) → slice_get xs i ≡ Some x → from_item xs i ≡ x + from_item xs (i + 1)
from_step [] i x e = absurd cc
from_step (y ∷ xs) zero x e = let same : y ≡ x = cc in ap (λ (z : ℕ). z + from_item xs 0) same
from_step (y ∷ xs) (suc i) x e =
    let next : suc (i + 1) ≡ suc i + 1 = omega arith in
    from_step xs i x e ∙ ap (λ (k : ℕ). x + from_item (y ∷ xs) k) next

from_le : (xs : List ℕ) (i : ℕ) → from_item xs i ≤ from_item xs 0
from_le [] zero = omega arith
from_le [] (suc i) = omega arith
from_le (x ∷ xs) zero = omega arith
from_le (x ∷ xs) (suc i) = let rest : from_item xs i ≤ from_item xs 0 = from_le xs i in omega arith

piece_of_option : (o : Option Piece) (x : Item-F Item Arm Block Piece) → option_map (λ p. out-Item (out-Piece p).item) o ≡ Some x → option_map of_piece o ≡ Some (of_layer x + 1)
piece_of_option None x e = absurd cc
piece_of_option (Some p) x e = let same : out-Item (out-Piece p).item ≡ x = cc in ap (λ (n : ℕ). Some n) (piece_opened p ∙ ap (λ (y : Item-F Item Arm Block Piece). of_layer y + 1) same)

-- from an item on there are its own gaps, its gap, and those from the next on
item_step : (b : Block) (i : ℕ) (x : Item-F Item Arm Block Piece) → item_at b i ≡ Some x → from_item (pieces b) i ≡ (of_layer x + 1) + from_item (pieces b) (i + 1)
item_step b i x e = from_step (pieces b) i (of_layer x + 1) (slice_get-map of_piece (out-Block b).items i ∙ piece_of_option (slice_get (out-Block b).items i) x e)

arms_within : (arms : List Arm) (otherwise : Option Block) (k : ℕ) (b : Block) → slice_get (arm_parts arm_test arm_body arms ++ else_parts otherwise) k ≡ Some (Within b) →
    gap_count b ≤ arms_gaps (map of_arm arms) (unwrap_or (option_map gap_count otherwise) 0)
arms_within [] None k b e = absurd cc
arms_within [] (Some c) zero b e = let same : c ≡ b = cc in let equal : gap_count c ≡ gap_count b = ap gap_count same in omega arith
arms_within [] (Some c) (suc k) b e = absurd cc
arms_within (a ∷ arms) otherwise zero b e = absurd cc
arms_within (a ∷ arms) otherwise (suc zero) b e =
    let same : arm_body a ≡ b = cc in
    let equal : of_arm a ≡ gap_count b = arm_opened a ∙ ap gap_count same in
    omega arith
arms_within (a ∷ arms) otherwise (suc (suc k)) b e =
    let rest : gap_count b ≤ arms_gaps (map of_arm arms) (unwrap_or (option_map gap_count otherwise) 0) = arms_within arms otherwise k b e in
    omega arith

-- what a part is not

abbrev NotWithin : Option (Part Block) → Type 0
NotWithin (Some (Within b)) = ⊥
NotWithin _ = Unit {0}

ones_low : {A : Type 0} (f : A → Option Instruction) (xs : List A) (k : ℕ) → NotWithin (slice_get (map (λ x. One (f x)) xs) k)
ones_low f [] k = tt
ones_low f (x ∷ xs) zero = tt
ones_low f (x ∷ xs) (suc k) = ones_low f xs k

apart : (part : Option (Part Block)) (b : Block) → NotWithin part → part ≡ Some (Within b) → ⊥
apart part b h e = subst NotWithin e h

-- the blocks in an item have no more gaps than the item
part_within : (slot : Option ℕ) (x : Item-F Item Arm Block Piece) (k : ℕ) (b : Block) → part_of slot k x ≡ Some (Within b) → gap_count b ≤ of_layer x
part_within slot (Declare ds) k b e = absurd (apart _ b (ones_low (λ d. declared d d.right) ds k) e)
part_within slot (Assign s) zero b e = absurd cc
part_within slot (Assign s) (suc k) b e = absurd cc
part_within slot (Do c) zero b e = absurd cc
part_within slot (Do c) (suc k) b e = absurd cc
part_within slot (Nest c) zero b e = let same : c ≡ b = cc in let equal : gap_count c ≡ gap_count b = ap gap_count same in omega arith
part_within slot (Nest c) (suc k) b e = absurd cc
part_within slot (If arms None) k b e = arms_within arms None k b e
part_within slot (If arms (Some c)) k b e = arms_within arms (Some c) k b e
part_within slot (While test c) zero b e = absurd cc
part_within slot (While test c) (suc zero) b e = let same : c ≡ b = cc in let equal : gap_count c ≡ gap_count b = ap gap_count same in omega arith
part_within slot (While test c) (suc (suc k)) b e = absurd cc
part_within slot (For head c) zero b e = absurd cc
part_within slot (For head c) (suc zero) b e = absurd cc
part_within slot (For head c) (suc (suc zero)) b e = absurd cc
part_within slot (For head c) (suc (suc (suc zero))) b e = let same : c ≡ b = cc in let equal : gap_count c ≡ gap_count b = ap gap_count same in omega arith
part_within slot (For head c) (suc (suc (suc (suc k)))) b e = absurd cc
part_within slot Break k b e = absurd cc
part_within slot Continue k b e = absurd cc
part_within slot (Return value offset) k b e = absurd (apart _ b (ones_low (λ a. a) (returned slot value offset) k) e)

-- the gaps from a path on, in a block

abbrev in_part : (Block → ℕ) → Option (Part Block) → ℕ
in_part f (Some (Within b)) = f b
in_part f _ = 0

abbrev ahead : Option ℕ → List ℕ → Block → ℕ
ahead slot [] b = 0
ahead slot (i ∷ []) b = from_item (pieces b) i
ahead slot (i ∷ k ∷ path) b = in_part (ahead slot path) (part_at slot b i k) + from_item (pieces b) (i + 1)

-- a part that is a block stands in an item, and has at most its gaps
part_low : (slot : Option ℕ) (b : Block) (i k : ℕ) (c : Block) (o : Option (Item-F Item Arm Block Piece)) → item_at b i ≡ o → option_and_then (part_of slot k) o ≡ Some (Within c) →
    gap_count c + 1 + from_item (pieces b) (i + 1) ≤ from_item (pieces b) i
part_low slot b i k c None e h = absurd cc
part_low slot b i k c (Some x) e h =
    let few : gap_count c ≤ of_layer x = part_within slot x k c h in
    let here : from_item (pieces b) i ≡ (of_layer x + 1) + from_item (pieces b) (i + 1) = item_step b i x e in
    omega arith

in_part_low : (slot : Option ℕ) (b : Block) (i k : ℕ) (f : Block → ℕ) (part : Option (Part Block)) → ((c : Block) → f c ≤ gap_count c) → part_at slot b i k ≡ part →
    in_part f part + from_item (pieces b) (i + 1) ≤ from_item (pieces b) 0
in_part_low slot b i k f (Some (Within c)) low e =
    let few : f c ≤ gap_count c = low c in
    let part : gap_count c + 1 + from_item (pieces b) (i + 1) ≤ from_item (pieces b) i = part_low slot b i k c (item_at b i) refl e in
    let all : from_item (pieces b) i ≤ from_item (pieces b) 0 = from_le (pieces b) i in
    omega arith
in_part_low slot b i k f (Some (One a)) low e = let rest : from_item (pieces b) (i + 1) ≤ from_item (pieces b) 0 = from_le (pieces b) (i + 1) in omega arith
in_part_low slot b i k f (Some (Row row)) low e = let rest : from_item (pieces b) (i + 1) ≤ from_item (pieces b) 0 = from_le (pieces b) (i + 1) in omega arith
in_part_low slot b i k f (Some (Condition c)) low e = let rest : from_item (pieces b) (i + 1) ≤ from_item (pieces b) 0 = from_le (pieces b) (i + 1) in omega arith
in_part_low slot b i k f None low e = let rest : from_item (pieces b) (i + 1) ≤ from_item (pieces b) 0 = from_le (pieces b) (i + 1) in omega arith

ahead_low : (slot : Option ℕ) (path : List ℕ) (b : Block) → ahead slot path b ≤ gap_count b
ahead_low slot [] b = omega arith
ahead_low slot (i ∷ []) b = subst (λ (n : ℕ). from_item (pieces b) i ≤ n) (sym (gaps_opened b)) (from_le (pieces b) i)
ahead_low slot (i ∷ k ∷ path) b = subst (λ (n : ℕ). in_part (ahead slot path) (part_at slot b i k) + from_item (pieces b) (i + 1) ≤ n) (sym (gaps_opened b))
    (in_part_low slot b i k (ahead slot path) (part_at slot b i k) (ahead_low slot path) refl)

-- gaps and departures

abbrev pub IsGap : Spot → Type 0
IsGap (AtGap g) = Unit {0}
IsGap _ = ⊥

abbrev NotFound : Departure → Type 0
NotFound (Found b) = ⊥
NotFound _ = Unit {0}

instruction_low : (a : Option Instruction) → IsGap (instruction_spot a) → ⊥
instruction_low None h = h
instruction_low (Some a) h = h

row_low : (a : Option (Option Instruction)) → IsGap (row_spot a) → ⊥
row_low None h = h
row_low (Some a) h = instruction_low a h

test_low : (e : Option Expr) → IsGap (test_spot e) → ⊥
test_low None h = h
test_low (Some e) h = h

spot_low : (inner : Block → Spot) (path : List ℕ) (part : Option (Part Block)) → NotWithin part → IsGap (spot_in inner path part) → ⊥
spot_low inner path (Some (Within b)) n h = n
spot_low inner [] None n h = h
spot_low inner [] (Some (One a)) n h = instruction_low a h
spot_low inner [] (Some (Row row)) n h = h
spot_low inner [] (Some (Condition e)) n h = test_low (test_at [] e) h
spot_low inner (k ∷ []) None n h = h
spot_low inner (k ∷ []) (Some (One a)) n h = h
spot_low inner (k ∷ []) (Some (Row row)) n h = row_low (slice_get row k) h
spot_low inner (k ∷ []) (Some (Condition e)) n h = test_low (test_at (k ∷ []) e) h
spot_low inner (k ∷ j ∷ path) None n h = h
spot_low inner (k ∷ j ∷ path) (Some (One a)) n h = h
spot_low inner (k ∷ j ∷ path) (Some (Row row)) n h = h
spot_low inner (k ∷ j ∷ path) (Some (Condition e)) n h = test_low (test_at (k ∷ j ∷ path) e) h

pub spot_within : (inner : Block → Spot) (path : List ℕ) (b : Block) → spot_in inner path (Some (Within b)) ≡ inner b
spot_within inner [] b = refl
spot_within inner (k ∷ []) b = refl
spot_within inner (k ∷ j ∷ path) b = refl

next_within : (inner : Block → Onward) (path : List ℕ) (b : Block) → next_in inner path None (Some (Within b)) ≡ inner b
next_within inner [] b = refl
next_within inner (k ∷ []) b = refl
next_within inner (k ∷ j ∷ path) b = refl

-- behind a block in an item control enters no other block of it, and says nothing of a condition
abbrev LowGoal : Option ℕ → Item-F Item Arm Block Piece → Goal → Type 0
LowGoal slot x (Into k) = NotWithin (part_of slot k x)
LowGoal slot x (Out d) = NotFound d

step_low : (slot : Option ℕ) (x : Item-F Item Arm Block Piece) (s : Option Simple) → NotWithin (part_of slot 1 x) → NotWithin (part_of slot 2 x) → LowGoal slot x (step_part s)
step_low slot x None h g = h
step_low slot x (Some s) h g = g

behind_low : (slot : Option ℕ) (x : Item-F Item Arm Block Piece) (s : Option Simple) (b : Bool) → NotWithin (part_of slot 1 x) → NotWithin (part_of slot 2 x) → LowGoal slot x (if b then step_part s else Into 1)
behind_low slot x s true h g = step_low slot x s h g
behind_low slot x s false h g = h

goal_low : (slot : Option ℕ) (x : Item-F Item Arm Block Piece) (k : ℕ) (d : Departure) → NotFound d → LowGoal slot x (goal x k d)
goal_low slot (Declare ds) k Through h = ones_low (λ d. declared d d.right) ds (k + 1)
goal_low slot (Return value offset) k Through h = ones_low (λ a. a) (returned slot value offset) (k + 1)
goal_low slot (While test body) k Through h = tt
goal_low slot (While test body) k Continued h = tt
goal_low slot (While test body) k Broken h = tt
goal_low slot (For head body) k Through h = behind_low slot (For head body) head.step (k == 3) tt tt
goal_low slot (For head body) k Continued h = step_low slot (For head body) head.step tt tt
goal_low slot (For head body) k Broken h = tt
goal_low slot x k (Found b) h = absurd h
goal_low slot _ k _ h = h

-- control goes on at an action or at a gap with fewer ahead, or leaves the block
abbrev Lowers : Option ℕ → Block → ℕ → Onward → Type 0
Lowers slot b n (To path) = IsGap (spot_of slot path b) → ahead slot path b < n
Lowers slot b n (By d) = NotFound d

part_is : (slot : Option ℕ) (b : Block) (i k : ℕ) (x : Item-F Item Arm Block Piece) (part : Option (Part Block)) → item_at b i ≡ Some x → part_of slot k x ≡ part → part_at slot b i k ≡ part
part_is slot b i k x part e h = ap (option_and_then (part_of slot k)) e ∙ h

departed_low : (slot : Option ℕ) (b : Block) (i n : ℕ) (d : Departure) → NotFound d → from_item (pieces b) (i + 1) < n → Lowers slot b n (departed i d)
departed_low slot b i n Through h low = λ gap. low
departed_low slot b i n (Found s) h low = h
departed_low slot b i n Broken h low = h
departed_low slot b i n Continued h low = h
departed_low slot b i n Lost h low = h

-- a part that is no block is entered
entered_low : (slot : Option ℕ) (b : Block) (i k n : ℕ) (x : Item-F Item Arm Block Piece) (part : Option (Part Block)) → item_at b i ≡ Some x → part_of slot k x ≡ part → NotWithin part →
    from_item (pieces b) (i + 1) < n → Lowers slot b n (entered i k part)
entered_low slot b i k n x None e h low less = λ gap. less
entered_low slot b i k n x (Some part) e h low less = λ gap.
    absurd (spot_low (spot_of slot (first_place part)) (first_place part) (Some part) low
    (subst (λ (o : Option (Part Block)). IsGap (spot_in (spot_of slot (first_place part)) (first_place part) o)) (part_is slot b i k x (Some part) e h) gap))

reached_low : (slot : Option ℕ) (b : Block) (i n : ℕ) (x : Item-F Item Arm Block Piece) (g : Goal) → item_at b i ≡ Some x → LowGoal slot x g → from_item (pieces b) (i + 1) < n → Lowers slot b n (reached slot i x g)
reached_low slot b i n x (Into k) e low less = entered_low slot b i k n x (part_of slot k x) e refl low less
reached_low slot b i n x (Out d) e low less = departed_low slot b i n d low less

-- any part is entered from the gap before its item

item_low : (b : Block) (i : ℕ) (x : Item-F Item Arm Block Piece) → item_at b i ≡ Some x → from_item (pieces b) (i + 1) < from_item (pieces b) i
item_low b i x e = let here : from_item (pieces b) i ≡ (of_layer x + 1) + from_item (pieces b) (i + 1) = item_step b i x e in omega arith

block_low : (slot : Option ℕ) (b : Block) (i k : ℕ) (x : Item-F Item Arm Block Piece) (c : Block) → item_at b i ≡ Some x → part_of slot k x ≡ Some (Within c) →
    ahead slot (i ∷ k ∷ 0 ∷ []) b < from_item (pieces b) i
block_low slot b i k x c e h =
    subst (λ (o : Option (Part Block)). in_part (ahead slot (0 ∷ [])) o + from_item (pieces b) (i + 1) < from_item (pieces b) i) (sym (part_is slot b i k x (Some (Within c)) e h))
    (let few : gap_count c + 1 + from_item (pieces b) (i + 1) ≤ from_item (pieces b) i = part_low slot b i k c (Some x) e h in
    let all : gap_count c ≡ from_item (pieces c) 0 = gaps_opened c in
    omega arith)

first_low : (slot : Option ℕ) (b : Block) (i k : ℕ) (x : Item-F Item Arm Block Piece) (part : Option (Part Block)) → item_at b i ≡ Some x → part_of slot k x ≡ part → Lowers slot b (from_item (pieces b) i) (entered i k part)
first_low slot b i k x (Some (Within c)) e h = λ gap. block_low slot b i k x c e h
first_low slot b i k x None e h = entered_low slot b i k (from_item (pieces b) i) x None e h tt (item_low b i x e)
first_low slot b i k x (Some (One a)) e h = entered_low slot b i k (from_item (pieces b) i) x (Some (One a)) e h tt (item_low b i x e)
first_low slot b i k x (Some (Row row)) e h = entered_low slot b i k (from_item (pieces b) i) x (Some (Row row)) e h tt (item_low b i x e)
first_low slot b i k x (Some (Condition c)) e h = entered_low slot b i k (from_item (pieces b) i) x (Some (Condition c)) e h tt (item_low b i x e)

abbrev LowEntry : Goal → Type 0
LowEntry (Into k) = Unit {0}
LowEntry (Out d) = NotFound d

entry_low : (x : Item-F Item Arm Block Piece) → LowEntry (entry x)
entry_low (For head body) = first_part_low head.start
  where
    first_part_low : (ss : List Start) → LowEntry (first_part head ss)
    first_part_low [] = tt
    first_part_low (s ∷ ss) = tt
entry_low _ = tt

gap_low : (slot : Option ℕ) (b : Block) (i : ℕ) (x : Item-F Item Arm Block Piece) (g : Goal) → item_at b i ≡ Some x → LowEntry g → Lowers slot b (from_item (pieces b) i) (reached slot i x g)
gap_low slot b i x (Into k) e low = first_low slot b i k x (part_of slot k x) e refl
gap_low slot b i x (Out d) e low = departed_low slot b i (from_item (pieces b) i) d low (item_low b i x e)

behind_gap_low : (slot : Option ℕ) (b : Block) (i : ℕ) (o : Option (Item-F Item Arm Block Piece)) → item_at b i ≡ o → Lowers slot b (from_item (pieces b) i) (behind_gap slot i o)
behind_gap_low slot b i None e = tt
behind_gap_low slot b i (Some x) e = gap_low slot b i x (entry x) e (entry_low x)

-- behind a gap

in_block_low : (slot : Option ℕ) (b c : Block) (i k n : ℕ) (o : Onward) (x : Option (Item-F Item Arm Block Piece)) → item_at b i ≡ x → option_and_then (part_of slot k) x ≡ Some (Within c) → 0 < n → Lowers slot c n o →
    Lowers slot b (n + from_item (pieces b) (i + 1)) (behind_item slot i k o x)
in_block_low slot b c i k n o None e h pos low = absurd cc
in_block_low slot b c i k n (By d) (Some x) e h pos low = reached_low slot b i (n + from_item (pieces b) (i + 1)) x (goal x k d) e (goal_low slot x k d low) (omega arith)
in_block_low slot b c i k n (To path) (Some x) e h pos low = λ gap.
    let part : part_at slot b i k ≡ Some (Within c) = part_is slot b i k x (Some (Within c)) e h in
    let there : IsGap (spot_of slot path c) = subst IsGap (ap (spot_in (spot_of slot path) path) part ∙ spot_within (spot_of slot path) path c) gap in
    let less : ahead slot path c < n = low there in
    subst (λ (q : Option (Part Block)). in_part (ahead slot path) q + from_item (pieces b) (i + 1) < n + from_item (pieces b) (i + 1)) (sym part) (omega arith)

from_end : (xs : List ℕ) → from_item xs (length xs) ≡ 1
from_end [] = refl
from_end (x ∷ xs) = from_end xs

last_pos : (b : Block) (i : ℕ) (t : Bool) → (i == length (out-Block b).items) ≡ t → IsGap (if t then AtGap (out-Block b).last_gap else Nowhere) → 0 < from_item (pieces b) i
last_pos b i false e h = absurd h
last_pos b i true e h =
    let place : i ≡ length (pieces b) = (Decides-eqb i (length (out-Block b).items)).0 e ∙ sym (length-map (out-Block b).items of_piece) in
    let one : from_item (pieces b) i ≡ 1 = ap (from_item (pieces b)) place ∙ from_end (pieces b) in
    omega arith

-- a gap has itself ahead
from_pos : (b : Block) (i : ℕ) (o : Option Piece) → slice_get (out-Block b).items i ≡ o → IsGap (gap_at b i o) → 0 < from_item (pieces b) i
from_pos b i (Some p) e h =
    let here : from_item (pieces b) i ≡ (of_layer (out-Item (out-Piece p).item) + 1) + from_item (pieces b) (i + 1) = item_step b i (out-Item (out-Piece p).item) (ap (option_map (λ p. out-Item (out-Piece p).item)) e) in
    omega arith
from_pos b i None e h = last_pos b i (i == length (out-Block b).items) refl h

-- at a gap, what follows has fewer ahead
abbrev LowAt : Option ℕ → List ℕ → Block → Type 0
LowAt slot path b = (0 < ahead slot path b) × Lowers slot b (ahead slot path b) (next slot None path b)

path_low : (slot : Option ℕ) (b : Block) (i k : ℕ) (path : List ℕ) (part : Option (Part Block)) → part_at slot b i k ≡ part → IsGap (spot_of slot (i ∷ k ∷ path) b) →
    ((c : Block) → IsGap (spot_of slot path c) → LowAt slot path c) → LowAt slot (i ∷ k ∷ path) b
path_low slot b i k path (Some (Within c)) e h inner =
    let there : IsGap (spot_of slot path c) = subst IsGap (ap (spot_in (spot_of slot path) path) e ∙ spot_within (spot_of slot path) path c) h in
    let low : LowAt slot path c = inner c there in
    let pos : 0 < ahead slot path c = low.0 in
    subst (λ (q : Option (Part Block)). (0 < in_part (ahead slot path) q + from_item (pieces b) (i + 1)) ×
    Lowers slot b (in_part (ahead slot path) q + from_item (pieces b) (i + 1)) (behind_item slot i k (next_in (next slot None path) path None q) (item_at b i))) (sym e) (
      omega arith,
      subst (λ (o : Onward). Lowers slot b (ahead slot path c + from_item (pieces b) (i + 1)) (behind_item slot i k o (item_at b i))) (sym (next_within (next slot None path) path c))
          (in_block_low slot b c i k (ahead slot path c) (next slot None path c) (item_at b i) refl e pos low.1),
    )
path_low slot b i k path None e h inner = absurd (spot_low (spot_of slot path) path None tt (subst (λ (q : Option (Part Block)). IsGap (spot_in (spot_of slot path) path q)) e h))
path_low slot b i k path (Some (One a)) e h inner = absurd (spot_low (spot_of slot path) path (Some (One a)) tt (subst (λ (q : Option (Part Block)). IsGap (spot_in (spot_of slot path) path q)) e h))
path_low slot b i k path (Some (Row row)) e h inner = absurd (spot_low (spot_of slot path) path (Some (Row row)) tt (subst (λ (q : Option (Part Block)). IsGap (spot_in (spot_of slot path) path q)) e h))
path_low slot b i k path (Some (Condition c)) e h inner = absurd (spot_low (spot_of slot path) path (Some (Condition c)) tt (subst (λ (q : Option (Part Block)). IsGap (spot_in (spot_of slot path) path q)) e h))

next_low : (slot : Option ℕ) (path : List ℕ) (b : Block) → IsGap (spot_of slot path b) → LowAt slot path b
next_low slot [] b h = absurd h
next_low slot (i ∷ []) b h = (from_pos b i (slice_get (out-Block b).items i) refl h, behind_gap_low slot b i (item_at b i) refl)
next_low slot (i ∷ k ∷ path) b h = path_low slot b i k path (part_at slot b i k) refl h (next_low slot path)

-- functions

abbrev fun_ahead : Program → ℕ → Option FunDef → List ℕ → ℕ
fun_ahead p f None path = 0
fun_ahead p f (Some d) path = ahead (result_slot p f) path d.body

brace_gap : (p : Program) (f : ℕ) (d : FunDef) (path : List ℕ) → IsGap (spot_or_brace p f d path) → IsGap (spot_of (result_slot p f) path d.body)
brace_gap p f d [] h = h
brace_gap p f d (i ∷ []) h = unless_brace (i == brace_of d.body) h
  where
    unless_brace : (t : Bool) → IsGap (if t then AtAction (closing p f d) else spot_of (result_slot p f) (i ∷ []) d.body) → IsGap (spot_of (result_slot p f) (i ∷ []) d.body)
    unless_brace true h = absurd h
    unless_brace false h = h
brace_gap p f d (i ∷ k ∷ path) h = h

at_brace : (p : Program) (f : ℕ) (d : FunDef) → IsGap (spot_or_brace p f d (brace_of d.body ∷ [])) → ⊥
at_brace p f d h = subst (λ (t : Bool). IsGap (if t then AtAction (closing p f d) else spot_of (result_slot p f) (brace_of d.body ∷ []) d.body)) ((Decides-eqb (brace_of d.body) (brace_of d.body)).1 refl) h

onward_low : (p : Program) (f : ℕ) (d : FunDef) (n : ℕ) (o : Onward) → Lowers (result_slot p f) d.body n o → IsGap (spot_or_brace p f d (onward_path d.body o)) → ahead (result_slot p f) (onward_path d.body o) d.body < n
onward_low p f d n (To path) low h = low (brace_gap p f d path h)
onward_low p f d n (By Through) low h = absurd (at_brace p f d h)
onward_low p f d n (By (Found b)) low h = absurd low
onward_low p f d n (By Broken) low h = absurd h
onward_low p f d n (By Continued) low h = absurd h
onward_low p f d n (By Lost) low h = absurd h

fun_low : (p : Program) (f : ℕ) (d : Option FunDef) (path : List ℕ) → IsGap (spot_in_fun p f d path) →
    (0 < fun_ahead p f d path) × (IsGap (spot_in_fun p f d (next_in_fun p f d None path)) → fun_ahead p f d (next_in_fun p f d None path) < fun_ahead p f d path)
fun_low p f None path h = absurd h
fun_low p f (Some d) path h =
    let low : LowAt (result_slot p f) path d.body = next_low (result_slot p f) path d.body (brace_gap p f d path h) in
    (low.0, onward_low p f d (ahead (result_slot p f) path d.body) (next (result_slot p f) None path d.body) low.1)

-- steps

-- the gaps from where control stands on, in its function
abbrev frames_ahead : Program → List Frame → ℕ
frames_ahead p [] = 0
frames_ahead p (f ∷ fs) = fun_ahead p f.fun (slice_get p.funs f.fun) f.path

frames_low : (p : Program) (fs : List Frame) → IsGap (here p fs) → (0 < frames_ahead p fs) × (IsGap (here p (onward p None fs)) → frames_ahead p (onward p None fs) < frames_ahead p fs)
frames_low p [] h = absurd h
frames_low p (f ∷ fs) h = fun_low p f.fun (slice_get p.funs f.fun) f.path h

-- each function has at most the gaps that the program counts
abbrev pub CountsGaps : Program → Type 0
CountsGaps p = All (λ (d : FunDef). gap_count d.body ≤ p.gaps) p.funs

fun_few : (p : Program) → CountsGaps p → (f : ℕ) (d : Option FunDef) → slice_get p.funs f ≡ d → (path : List ℕ) → fun_ahead p f d path ≤ p.gaps
fun_few p few f None e path = omega arith
fun_few p few f (Some d) e path =
    let body : gap_count d.body ≤ p.gaps = subst (λ (x : FunDef). gap_count x.body ≤ p.gaps) (get_or_from_slice_get p.funs f d d e) (All-get_or (λ (x : FunDef). gap_count x.body ≤ p.gaps) p.funs f d (slice_get_within p.funs f d e) few) in
    let low : ahead (result_slot p f) path d.body ≤ gap_count d.body = ahead_low (result_slot p f) path d.body in
    omega arith

frames_few : (p : Program) → CountsGaps p → (fs : List Frame) → frames_ahead p fs ≤ p.gaps
frames_few p few [] = omega arith
frames_few p few (f ∷ fs) = fun_few p few f.fun (slice_get p.funs f.fun) refl f.path

module _ {M : Type 0} (p : Program) (s : Acts M) (k : ℕ) where
  -- what is done at a place doesn't depend on a bound that is large enough
  spot_enough : (x : Spot) (go far : State M → State M) (fs : List Frame) (m : M) → (IsGap x → (l : M) → far (with (onward p None fs) l) ≡ go (with (onward p None fs) l)) → at_spot p s far x fs m ≡ at_spot p s go x fs m
  spot_enough (AtGap g) go far fs m h = unless_enough (s.over (s.freed g.frees m))
    where
      unless_enough : (b : Bool) → unless_over far p fs (s.freed g.frees m) b ≡ unless_over go p fs (s.freed g.frees m) b
      unless_enough true = refl
      unless_enough false = h tt (s.freed g.frees m)
  spot_enough (AtAction a) go far fs m h = refl
  spot_enough Nowhere go far fs m h = refl

  walked_more : (n : ℕ) (fs : List Frame) (m : M) → (IsGap (here p fs) → frames_ahead p fs ≤ n) → walked p s (suc (n + k)) (with fs m) ≡ walked p s (suc n) (with fs m)
  walked_more zero fs m h = spot_enough (here p fs) (walked p s zero) (walked p s (zero + k)) fs m (λ gap l.
      let pos : 0 < frames_ahead p fs = (frames_low p fs gap).0 in
      let none : frames_ahead p fs ≤ 0 = h gap in
      absurd (omega arith))
  walked_more (suc n) fs m h =
      let sum : suc (n + k) ≡ suc n + k = omega arith in
      spot_enough (here p fs) (walked p s (suc n)) (walked p s (suc n + k)) fs m (λ gap l.
      subst (λ (j : ℕ). walked p s j (with (onward p None fs) l) ≡ walked p s (suc n) (with (onward p None fs) l)) sum
      (walked_more n (onward p None fs) l (λ more.
      let few : frames_ahead p fs ≤ suc n = h gap in
      let less : frames_ahead p (onward p None fs) < frames_ahead p fs = (frames_low p fs gap).1 more in
      omega arith)))

  -- a larger bound on the places that a step passes changes no step
  pub bound_suffices : CountsGaps p → (fs : List Frame) (m : M) → walked p s (p.gaps + 1 + k) (with fs m) ≡ walked p s (p.gaps + 1) (with fs m)
  bound_suffices few fs m =
      let all : suc (p.gaps + k) ≡ p.gaps + 1 + k = omega arith in
      let one : suc p.gaps ≡ p.gaps + 1 = omega arith in
      subst (λ (j : ℕ). walked p s j (with fs m) ≡ walked p s (p.gaps + 1) (with fs m)) all
      (subst (λ (j : ℕ). walked p s (suc (p.gaps + k)) (with fs m) ≡ walked p s j (with fs m)) one
      (walked_more p.gaps fs m (λ gap. frames_few p few fs)))
