-- In a well-formed program control goes on from each place to a place where something stands.
use Rattle.std.proofs.Common.{◌≡◌, ◌≢◌, ℕ, zero, suc, ◌+◌, ◌<◌, ◌==◌, Bool, true, false, not, List, [], ◌∷◌, ◌++◌, map, length, slice_get, Option, Some, None, option_map, option_and_then, refl, ap, sym, subst, ◌∙◌, arith}
use Rattle.std.specs.Prelude.{if◌then◌else◌, nat_lt, ◌||◌}
use Rattle.std.specs.List.{list_any}
use Rattle.std.proofs.lemmas.Bool.{eqb-true, eq-eqb, ltb-true}
use Rattle.std.proofs.lemmas.Option.{slice_get_past}
use Rattle.c_tree.specs.Flow.{item_jumps, arm_jumps, block_jumps, piece_jumps, jumps_out}
use Rattle.c_tree.specs.Typing.{Declarations, declarations, item_fits, block_fits}
use Rattle.c_tree.specs.WellFormed.{IsWellFormed, each_from, jumps_in_loops}
use Rattle.c_tree.specs.declared.expr.Expr.{Expr, Expr-F, roll-Expr, out-Expr, out-roll-Expr, map-Expr, fold-roll-Expr, ind-Expr}
use Rattle.c_tree.specs.declared.expr.Expr.TheOpen as layer
use Rattle.c_tree.specs.declared.expr.Sign.TheVariants as sign
use Rattle.c_tree.specs.declared.expr.Oper.TheVariants as oper
use Rattle.c_tree.specs.declared.program.Arm.{Arm, fold-Arm, fold_out-Arm}
use Rattle.c_tree.specs.declared.program.Block.{Block, out-Block, fold_out-Block}
use Rattle.c_tree.specs.declared.program.ForHead.{ForHead}
use Rattle.c_tree.specs.declared.program.FunDef.{FunDef}
use Rattle.c_tree.specs.declared.program.Item.{Item, Item-F, out-Item, fold-Item, fold_out-Item, map-Item}
use Rattle.c_tree.specs.declared.program.Item.TheOpen.{Declare, Assign, Do, Nest, If, While, For, Break, Continue, Return}
use Rattle.c_tree.specs.declared.program.Piece.{Piece, out-Piece, fold-Piece, fold_out-Piece}
use Rattle.c_tree.specs.declared.program.Program.{Program}
use Rattle.c_tree.specs.declared.program.Simple.{Simple}
use Rattle.c_tree.specs.declared.program.Start.{Start}
use Rattle.c_tree.specs.declared.program.Ty.{Ty}
use Rattle.c_meaning.specs.Parts.{Instruction, Test, Part, One, Row, Condition, Within, called, assigned, declared, started, returned, condition_of, last_row, arm_parts, Departure, Through, Found, Broken, Continued, Lost, Goal, Into, Out, first_part, step_part, entry, goal}
use Rattle.c_meaning.specs.Place.{Spot, AtGap, AtAction, Nowhere, Onward, To, By, operand, atomic, test_at, first_layer, first_test, decided, behind_operand, within_operand, behind_test, arm_test, arm_body, item_at, part_of, part_at, gap_at, row_spot, test_spot, spot_in, spot_of, first_place, entered, reached, behind_gap, behind_part, behind_item, behind_atom, next_in, next, result_slot, brace_of, closing, spot_or_brace, spot_in_fun, onward_path, next_in_fun}
use Rattle.c_meaning.proofs.GapBound.{spot_within}
use Rattle.call_contexts.proofs.ContextLaws.{both_true}
use Rattle.c_graph.specs.Nodes.{spot_at, next_at}
use Rattle.c_graph.proofs.WholeParts.{AllAre, none_are, more_are, right_layer, Whole, one, row, condition, within, part_whole, item_is_right}

-- something stands there
abbrev pub Stands : Spot → Type 0
Stands (AtGap g) = Unit {0}
Stands (AtAction a) = Unit {0}
Stands Nowhere = ⊥

pub is_somewhere : (spot : Spot) → Stands spot → spot ≢ Nowhere
is_somewhere (AtGap g) h e = absurd cc
is_somewhere (AtAction a) h e = absurd cc
is_somewhere Nowhere h e = h

-- control can go on from there: behind a test by what it says
abbrev pub Goes : Option Bool → Spot → Type 0
Goes said (AtGap g) = Unit {0}
Goes said (AtAction (Test e)) = said ≢ None
Goes said (AtAction a) = Unit {0}
Goes said Nowhere = ⊥

-- conditions

abbrev IsTest : Option Expr → Type 0
IsTest None = ⊥
IsTest (Some e) = Unit {0}

-- the test at a way down an expression of that layer
abbrev test_below : Expr → List ℕ → Expr-F Expr → Option Expr
test_below e [] l = atomic e l
test_below e (k ∷ path) l = option_and_then (test_at path) (operand k l)

opened_test : (path : List ℕ) (e : Expr) → test_at path e ≡ test_below e path (out-Expr e)
opened_test [] e = refl
opened_test (k ∷ path) e = refl

abbrev HasFirst : Expr → Type 0
HasFirst e = IsTest (test_at (first_test e) e)

abbrev plain_expr : Expr-F ((e : Expr) × HasFirst e) → Expr-F Expr
plain_expr = map-Expr ((e : Expr) × HasFirst e) Expr (λ e. e.0)

layer_first : (e : Expr) (y : Expr-F ((e : Expr) × HasFirst e)) → IsTest (test_below e (first_layer (map-Expr Expr (List ℕ) first_test (plain_expr y))) (plain_expr y))
layer_first e (layer.Unary sign.Not a offset) = a.1
layer_first e (layer.Binary oper.And a b offset) = a.1
layer_first e (layer.Binary oper.Or a b offset) = a.1
layer_first e _ = tt

rolled_first : (y : Expr-F ((e : Expr) × HasFirst e)) → HasFirst (roll-Expr (plain_expr y))
rolled_first y =
    let e = roll-Expr (plain_expr y) in
    subst (λ (o : Option Expr). IsTest o) (sym (opened_test (first_test e) e))
    (subst (λ (l : Expr-F Expr). IsTest (test_below e (first_test e) l)) (sym (out-roll-Expr (plain_expr y)))
    (subst (λ (path : List ℕ). IsTest (test_below e path (plain_expr y))) (sym (fold-roll-Expr (List ℕ) first_layer (plain_expr y))) (layer_first e y)))

-- a condition has a first test
has_first : (e : Expr) → HasFirst e
has_first = ind-Expr HasFirst (λ x y is. subst (λ (z : Expr-F Expr). HasFirst (roll-Expr z)) is (rolled_first y))

-- behind a test of a condition comes another, or what the condition says
abbrev TestLands : Expr → Expr-F Expr → Onward → Type 0
TestLands e l (To path) = IsTest (test_below e path l)
TestLands e l (By (Found b)) = Unit {0}
TestLands e l (By d) = ⊥

decided_lands : (e : Expr) (k : ℕ) (l : Expr-F Expr) (a : Expr) (b : Bool) → operand k l ≡ Some a → TestLands e l (decided k l b)
decided_lands e zero (layer.Unary sign.Not x offset) a b is = tt
decided_lands e zero (layer.Binary oper.And x y offset) a true is = has_first y
decided_lands e zero (layer.Binary oper.And x y offset) a false is = tt
decided_lands e (suc zero) (layer.Binary oper.And x y offset) a true is = tt
decided_lands e (suc zero) (layer.Binary oper.And x y offset) a false is = tt
decided_lands e zero (layer.Binary oper.Or x y offset) a true is = tt
decided_lands e zero (layer.Binary oper.Or x y offset) a false is = has_first y
decided_lands e (suc zero) (layer.Binary oper.Or x y offset) a true is = tt
decided_lands e (suc zero) (layer.Binary oper.Or x y offset) a false is = tt
decided_lands e _ _ a b is = absurd cc

operand_lands : (e : Expr) (k : ℕ) (l : Expr-F Expr) (a : Expr) (o : Onward) → operand k l ≡ Some a → TestLands a (out-Expr a) o → TestLands e l (behind_operand k l o)
operand_lands e k l a (To path) is h = subst (λ (o : Option Expr). IsTest (option_and_then (test_at path) o)) (sym is) (subst (λ (o : Option Expr). IsTest o) (sym (opened_test path a)) h)
operand_lands e k l a (By (Found b)) is h = decided_lands e k l a b is
operand_lands e k l a (By Through) is h = absurd h
operand_lands e k l a (By Broken) is h = absurd h
operand_lands e k l a (By Continued) is h = absurd h
operand_lands e k l a (By Lost) is h = absurd h

within_lands : (e : Expr) (k : ℕ) (l : Expr-F Expr) (path : List ℕ) (b : Bool) → ((a : Expr) → IsTest (test_at path a) → TestLands a (out-Expr a) (behind_test path b a)) →
    (o : Option Expr) → operand k l ≡ o → IsTest (option_and_then (test_at path) o) → TestLands e l (behind_operand k l (within_operand (behind_test path b) o))
within_lands e k l path b inner None is h = absurd h
within_lands e k l path b inner (Some a) is h = operand_lands e k l a (behind_test path b a) is (inner a h)

test_lands : (path : List ℕ) (b : Bool) (e : Expr) → IsTest (test_at path e) → TestLands e (out-Expr e) (behind_test path b e)
test_lands [] b e h = tt
test_lands (k ∷ path) b e h = within_lands e k (out-Expr e) path b (test_lands path b) (operand k (out-Expr e)) refl h

spot_tested : (inner : Block → Spot) (path : List ℕ) (e : Expr) → spot_in inner path (Some (Condition e)) ≡ test_spot (test_at path e)
spot_tested inner [] e = refl
spot_tested inner (k ∷ []) e = refl
spot_tested inner (k ∷ j ∷ path) e = refl

test_stands : (o : Option Expr) → IsTest o → Stands (test_spot o)
test_stands None h = h
test_stands (Some e) h = tt

-- gaps

gap_there : (b : Block) (i : ℕ) (o : Option Piece) → slice_get (out-Block b).items i ≡ o → (o ≡ None → i ≡ length (out-Block b).items) → Stands (gap_at b i o)
gap_there b i (Some p) is last = tt
gap_there b i None is last =
    subst (λ (t : Bool). Stands (if t then AtGap (out-Block b).last_gap else Nowhere)) (sym (eq-eqb i (length (out-Block b).items) (last refl))) tt

next_missing : {A : Type 0} (xs : List A) (i : ℕ) (x : A) → slice_get xs i ≡ Some x → slice_get xs (i + 1) ≡ None → i + 1 ≡ length xs
next_missing [] i x e none = absurd cc
next_missing (y ∷ []) zero x e none = refl
next_missing (y ∷ z ∷ xs) zero x e none = absurd cc
next_missing (y ∷ xs) (suc i) x e none =
    let on : suc (i + 1) ≡ suc i + 1 = omega arith in
    let rest : i + 1 ≡ length xs = next_missing xs i x e (ap (slice_get (y ∷ xs)) on ∙ none) in
    omega arith

some_piece : (o : Option Piece) (x : Item-F Item Arm Block Piece) → option_map (λ p. out-Item (out-Piece p).item) o ≡ Some x → (p : Piece) × (o ≡ Some p)
some_piece None x e = absurd cc
some_piece (Some p) x e = (p, refl)

-- behind an item comes a gap
gap_behind : (b : Block) (i : ℕ) (x : Item-F Item Arm Block Piece) → item_at b i ≡ Some x → Stands (gap_at b (i + 1) (slice_get (out-Block b).items (i + 1)))
gap_behind b i x e =
    let it = some_piece (slice_get (out-Block b).items i) x e in
    gap_there b (i + 1) (slice_get (out-Block b).items (i + 1)) refl (next_missing (out-Block b).items i it.0 it.1)

no_first : {A : Type 0} (xs : List A) → slice_get xs 0 ≡ None → 0 ≡ length xs
no_first [] e = refl
no_first (x ∷ xs) e = absurd cc

-- jumps

abbrev jumps_layer : Item-F Item Arm Block Piece → Item-F Bool Bool Bool Bool
jumps_layer = map-Item Item Arm Block Piece Bool Bool Bool Bool (fold-Item Bool Bool Bool Bool item_jumps arm_jumps block_jumps piece_jumps) (fold-Arm Bool Bool Bool Bool item_jumps arm_jumps block_jumps piece_jumps) jumps_out (fold-Piece Bool Bool Bool Bool item_jumps arm_jumps block_jumps piece_jumps)

abbrev arm_jumps_out : Arm → Bool
arm_jumps_out = fold-Arm Bool Bool Bool Bool item_jumps arm_jumps block_jumps piece_jumps

abbrev piece_jumps_out : Piece → Bool
piece_jumps_out = fold-Piece Bool Bool Bool Bool item_jumps arm_jumps block_jumps piece_jumps

-- an item from which control jumps
abbrev Jumps : Item-F Item Arm Block Piece → Type 0
Jumps x = item_jumps (jumps_layer x) ≡ true

or_first : (a b : Bool) → a ≡ true → (a || b) ≡ true
or_first true b e = refl
or_first false b e = absurd cc

or_second : (a b : Bool) → b ≡ true → (a || b) ≡ true
or_second true b e = refl
or_second false b e = e

piece_jump : (p : Piece) → Jumps (out-Item (out-Piece p).item) → piece_jumps_out p ≡ true
piece_jump p h =
    fold_out-Piece Bool Bool Bool Bool item_jumps arm_jumps block_jumps piece_jumps p ∙ fold_out-Item Bool Bool Bool Bool item_jumps arm_jumps block_jumps piece_jumps (out-Piece p).item ∙ h

some_jump : (ps : List Piece) (i : ℕ) (x : Item-F Item Arm Block Piece) → option_map (λ p. out-Item (out-Piece p).item) (slice_get ps i) ≡ Some x → Jumps x → list_any (λ p. p) (map piece_jumps_out ps) ≡ true
some_jump [] i x e h = absurd cc
some_jump (p ∷ ps) zero x e h =
    let same : out-Item (out-Piece p).item ≡ x = cc in
    or_first (piece_jumps_out p) (list_any (λ p. p) (map piece_jumps_out ps)) (piece_jump p (subst (λ (y : Item-F Item Arm Block Piece). Jumps y) (sym same) h))
some_jump (p ∷ ps) (suc i) x e h = or_second (piece_jumps_out p) (list_any (λ p. p) (map piece_jumps_out ps)) (some_jump ps i x e h)

block_jump : (b : Block) (i : ℕ) (x : Item-F Item Arm Block Piece) → item_at b i ≡ Some x → Jumps x → jumps_out b ≡ true
block_jump b i x e h = fold_out-Block Bool Bool Bool Bool item_jumps arm_jumps block_jumps piece_jumps b ∙ some_jump (out-Block b).items i x e h

-- parts

-- how control may leave a part
abbrev Leaves : Part Block → Departure → Type 0
Leaves (One a) Through = Unit {0}
Leaves (Row list) Through = Unit {0}
Leaves (Condition e) (Found t) = Unit {0}
Leaves (Within b) Through = Unit {0}
Leaves (Within b) Broken = jumps_out b ≡ true
Leaves (Within b) Continued = jumps_out b ≡ true
Leaves part d = ⊥

-- a part can be entered, or there is none
abbrev Enters : Option (Part Block) → Type 0
Enters None = Unit {0}
Enters (Some (One a)) = Unit {0}
Enters (Some (Row [])) = ⊥
Enters (Some (Row (a ∷ list))) = Unit {0}
Enters (Some (Condition e)) = Unit {0}
Enters (Some (Within b)) = Unit {0}

one_through : (a : Option Instruction) (d : Departure) → Leaves (One a) d → d ≡ Through
one_through a Through h = refl
one_through a (Found t) h = absurd h
one_through a Broken h = absurd h
one_through a Continued h = absurd h
one_through a Lost h = absurd h

row_through : (list : List (Option Instruction)) (d : Departure) → Leaves (Row list) d → d ≡ Through
row_through list Through h = refl
row_through list (Found t) h = absurd h
row_through list Broken h = absurd h
row_through list Continued h = absurd h
row_through list Lost h = absurd h

same_part : (q part : Part Block) (d : Departure) → Some q ≡ Some part → Leaves part d → Leaves q d
same_part q part d e h = let same : q ≡ part = cc in subst (λ (x : Part Block). Leaves x d) (sym same) h

ones_through : {A : Type 0} (g : A → Option Instruction) (xs : List A) (k : ℕ) (part : Part Block) (d : Departure) → slice_get (map (λ x. One (g x)) xs) k ≡ Some part → Leaves part d → d ≡ Through
ones_through g [] k part d e h = absurd cc
ones_through g (x ∷ xs) zero part d e h = one_through (g x) d (same_part (One (g x)) part d e h)
ones_through g (x ∷ xs) (suc k) part d e h = ones_through g xs k part d e h

ones_enter : {A : Type 0} (g : A → Option Instruction) (xs : List A) (k : ℕ) → Enters (slice_get (map (λ x. One (g x)) xs) k)
ones_enter g [] k = tt
ones_enter g (x ∷ xs) zero = tt
ones_enter g (x ∷ xs) (suc k) = ones_enter g xs k

arms_enter : (arms : List Arm) (rest : List (Part Block)) → ((k : ℕ) → Enters (slice_get rest k)) → (k : ℕ) → Enters (slice_get (arm_parts arm_test arm_body arms ++ rest) k)
arms_enter [] rest last k = last k
arms_enter (a ∷ arms) rest last zero = tt
arms_enter (a ∷ arms) rest last (suc zero) = tt
arms_enter (a ∷ arms) rest last (suc (suc k)) = arms_enter arms rest last k

none_enters : (k : ℕ) → Enters (slice_get [] k)
none_enters k = tt

last_enters : (b : Block) (k : ℕ) → Enters (slice_get (Within b ∷ []) k)
last_enters b zero = tt
last_enters b (suc k) = tt

-- goals

-- where an item goes on
abbrev gone : Item-F Item Arm Block Piece → ℕ → Departure → Goal
gone x k d = goal x k d

-- an item may go on there
abbrev GoalFits : Option ℕ → Item-F Item Arm Block Piece → Goal → Type 0
GoalFits slot x (Into k) = Enters (part_of slot k x)
GoalFits slot x (Out Through) = Unit {0}
GoalFits slot x (Out Broken) = Jumps x
GoalFits slot x (Out Continued) = Jumps x
GoalFits slot x (Out (Found t)) = ⊥
GoalFits slot x (Out Lost) = ⊥

arm_jump : (a : Arm) → jumps_out (arm_body a) ≡ true → arm_jumps_out a ≡ true
arm_jump a h = fold_out-Arm Bool Bool Bool Bool item_jumps arm_jumps block_jumps piece_jumps a ∙ h

-- a test or a block of an `if`; J follows from a jump out of the block
data OfIf (J : Type 0) : Part Block → Type 0 where
  a_test : (e : Expr) → OfIf J (Condition e)
  a_block : (b : Block) → (jumps_out b ≡ true → J) → OfIf J (Within b)

arms_of_if : {J : Type 0} (arms : List Arm) (rest : List (Part Block)) → (list_any (λ a. a) (map arm_jumps_out arms) ≡ true → J) → ((k : ℕ) (part : Part Block) → slice_get rest k ≡ Some part → OfIf J part) →
    (k : ℕ) (part : Part Block) → slice_get (arm_parts arm_test arm_body arms ++ rest) k ≡ Some part → OfIf J part
arms_of_if [] rest jumps last k part e = last k part e
arms_of_if {J} (a ∷ arms) rest jumps last zero part e = let same : Condition (arm_test a) ≡ part = cc in subst (λ (x : Part Block). OfIf J x) same (a_test (arm_test a))
arms_of_if {J} (a ∷ arms) rest jumps last (suc zero) part e =
    let same : Within (arm_body a) ≡ part = cc in
    subst (λ (x : Part Block). OfIf J x) same (a_block (arm_body a) (λ h. jumps (or_first (arm_jumps_out a) (list_any (λ a. a) (map arm_jumps_out arms)) (arm_jump a h))))
arms_of_if (a ∷ arms) rest jumps last (suc (suc k)) part e = arms_of_if arms rest (λ h. jumps (or_second (arm_jumps_out a) (list_any (λ a. a) (map arm_jumps_out arms)) h)) last k part e

no_last : {J : Type 0} (k : ℕ) (part : Part Block) → slice_get [] k ≡ Some part → OfIf J part
no_last k part e = absurd cc

one_last : {J : Type 0} (b : Block) → (jumps_out b ≡ true → J) → (k : ℕ) (part : Part Block) → slice_get (Within b ∷ []) k ≡ Some part → OfIf J part
one_last {J} b jumps zero part e = let same : Within b ≡ part = cc in subst (λ (x : Part Block). OfIf J x) same (a_block b jumps)
one_last b jumps (suc k) part e = absurd cc

-- behind part k of an `if`
if_fits : (slot : Option ℕ) (arms : List Arm) (otherwise : Option Block) (k : ℕ) (part : Part Block) (d : Departure) → ((j : ℕ) → Enters (part_of slot j (If arms otherwise))) →
    OfIf (Jumps (If arms otherwise)) part → Leaves part d → GoalFits slot (If arms otherwise) (gone (If arms otherwise) k d)
if_fits slot arms otherwise k _ (Found true) enters (a_test e) h = enters (k + 1)
if_fits slot arms otherwise k _ (Found false) enters (a_test e) h = enters (k + 2)
if_fits slot arms otherwise k _ Through enters (a_test e) h = absurd h
if_fits slot arms otherwise k _ Broken enters (a_test e) h = absurd h
if_fits slot arms otherwise k _ Continued enters (a_test e) h = absurd h
if_fits slot arms otherwise k _ Lost enters (a_test e) h = absurd h
if_fits slot arms otherwise k _ Through enters (a_block b jumps) h = tt
if_fits slot arms otherwise k _ Broken enters (a_block b jumps) h = jumps h
if_fits slot arms otherwise k _ Continued enters (a_block b jumps) h = jumps h
if_fits slot arms otherwise k _ (Found t) enters (a_block b jumps) h = absurd h
if_fits slot arms otherwise k _ Lost enters (a_block b jumps) h = absurd h

if_enters : (slot : Option ℕ) (arms : List Arm) (otherwise : Option Block) (k : ℕ) → Enters (part_of slot k (If arms otherwise))
if_enters slot arms None k = arms_enter arms [] none_enters k
if_enters slot arms (Some b) k = arms_enter arms (Within b ∷ []) (last_enters b) k

part_of_if : (slot : Option ℕ) (arms : List Arm) (otherwise : Option Block) (k : ℕ) (part : Part Block) → part_of slot k (If arms otherwise) ≡ Some part → OfIf (Jumps (If arms otherwise)) part
part_of_if slot arms None k part e = arms_of_if arms [] (λ h. or_first (list_any (λ a. a) (map arm_jumps_out arms)) false h) no_last k part e
part_of_if slot arms (Some b) k part e =
    arms_of_if arms (Within b ∷ []) (λ h. or_first (list_any (λ a. a) (map arm_jumps_out arms)) (jumps_out b) h) (one_last b (λ h. or_second (list_any (λ a. a) (map arm_jumps_out arms)) (jumps_out b) h)) k part e

nest_fits : (slot : Option ℕ) (b : Block) (d : Departure) → Leaves (Within b) d → GoalFits slot (Nest b) (gone (Nest b) 0 d)
nest_fits slot b Through h = tt
nest_fits slot b Broken h = h
nest_fits slot b Continued h = h
nest_fits slot b (Found t) h = absurd h
nest_fits slot b Lost h = absurd h

test_fits : (slot : Option ℕ) (e : Expr) (b : Block) (d : Departure) → Leaves (Condition e) d → GoalFits slot (While e b) (gone (While e b) 0 d)
test_fits slot e b (Found true) h = tt
test_fits slot e b (Found false) h = tt
test_fits slot e b Through h = absurd h
test_fits slot e b Broken h = absurd h
test_fits slot e b Continued h = absurd h
test_fits slot e b Lost h = absurd h

body_fits : (slot : Option ℕ) (e : Expr) (b : Block) (d : Departure) → Leaves (Within b) d → GoalFits slot (While e b) (gone (While e b) 1 d)
body_fits slot e b Through h = tt
body_fits slot e b Broken h = tt
body_fits slot e b Continued h = tt
body_fits slot e b (Found t) h = absurd h
body_fits slot e b Lost h = absurd h

for_test_fits : (slot : Option ℕ) (e : Expr) (head : ForHead) (b : Block) (d : Departure) → Leaves (Condition e) d → GoalFits slot (For head b) (gone (For head b) 1 d)
for_test_fits slot e head b (Found true) h = tt
for_test_fits slot e head b (Found false) h = tt
for_test_fits slot e head b Through h = absurd h
for_test_fits slot e head b Broken h = absurd h
for_test_fits slot e head b Continued h = absurd h
for_test_fits slot e head b Lost h = absurd h

-- behind the body of a `for`
step_fits : (slot : Option ℕ) (head : ForHead) (b : Block) (s : Option Simple) → head.step ≡ s → GoalFits slot (For head b) (step_part s)
step_fits slot head b None is = tt
step_fits slot head b (Some s) is = subst (λ (o : Option Simple). Enters (Some (Row (last_row o)))) (sym is) tt

for_body_fits : (slot : Option ℕ) (head : ForHead) (b : Block) (d : Departure) → Leaves (Within b) d → GoalFits slot (For head b) (gone (For head b) 3 d)
for_body_fits slot head b Through h = step_fits slot head b head.step refl
for_body_fits slot head b Broken h = tt
for_body_fits slot head b Continued h = step_fits slot head b head.step refl
for_body_fits slot head b (Found t) h = absurd h
for_body_fits slot head b Lost h = absurd h

-- behind part k of an item
goal_fits : (slot : Option ℕ) (x : Item-F Item Arm Block Piece) (k : ℕ) (part : Part Block) (d : Departure) → part_of slot k x ≡ Some part → Leaves part d → GoalFits slot x (gone x k d)
goal_fits slot (Declare ds) k part d e h =
    subst (λ (t : Departure). GoalFits slot (Declare ds) (gone (Declare ds) k t)) (sym (ones_through (λ c. declared c c.right) ds k part d e h)) (ones_enter (λ c. declared c c.right) ds (k + 1))
goal_fits slot (Assign s) zero part d e h =
    subst (λ (t : Departure). GoalFits slot (Assign s) (gone (Assign s) 0 t)) (sym (one_through (assigned s s.right) d (same_part (One (assigned s s.right)) part d e h))) tt
goal_fits slot (Assign s) (suc k) part d e h = absurd cc
goal_fits slot (Do c) zero part d e h = subst (λ (t : Departure). GoalFits slot (Do c) (gone (Do c) 0 t)) (sym (one_through (called None c) d (same_part (One (called None c)) part d e h))) tt
goal_fits slot (Do c) (suc k) part d e h = absurd cc
goal_fits slot (Nest b) zero part d e h = nest_fits slot b d (same_part (Within b) part d e h)
goal_fits slot (Nest b) (suc k) part d e h = absurd cc
goal_fits slot (If arms otherwise) k part d e h = if_fits slot arms otherwise k part d (if_enters slot arms otherwise) (part_of_if slot arms otherwise k part e) h
goal_fits slot (While test b) zero part d e h = test_fits slot test b d (same_part (Condition test) part d e h)
goal_fits slot (While test b) (suc zero) part d e h = body_fits slot test b d (same_part (Within b) part d e h)
goal_fits slot (While test b) (suc (suc k)) part d e h = absurd cc
goal_fits slot (For head b) zero part d e h =
    subst (λ (t : Departure). GoalFits slot (For head b) (gone (For head b) 0 t)) (sym (row_through (map started head.start) d (same_part (Row (map started head.start)) part d e h))) tt
goal_fits slot (For head b) (suc zero) part d e h = for_test_fits slot (condition_of head.test) head b d (same_part (Condition (condition_of head.test)) part d e h)
goal_fits slot (For head b) (suc (suc zero)) part d e h =
    subst (λ (t : Departure). GoalFits slot (For head b) (gone (For head b) 2 t)) (sym (row_through (last_row head.step) d (same_part (Row (last_row head.step)) part d e h))) tt
goal_fits slot (For head b) (suc (suc (suc zero))) part d e h = for_body_fits slot head b d (same_part (Within b) part d e h)
goal_fits slot (For head b) (suc (suc (suc (suc k)))) part d e h = absurd cc
goal_fits slot Break k part d e h = absurd cc
goal_fits slot Continue k part d e h = absurd cc
goal_fits slot (Return value at) k part d e h =
    subst (λ (t : Departure). GoalFits slot (Return value at) (gone (Return value at) k t)) (sym (ones_through (λ a. a) (returned slot value at) k part d e h)) (ones_enter (λ a. a) (returned slot value at) (k + 1))

-- where an item is entered
first_fits : (slot : Option ℕ) (head : ForHead) (b : Block) (ss : List Start) → head.start ≡ ss → GoalFits slot (For head b) (first_part head ss)
first_fits slot head b [] is = tt
first_fits slot head b (s ∷ ss) is = subst (λ (l : List Start). Enters (Some (Row (map started l)))) (sym is) tt

entry_fits : (slot : Option ℕ) (x : Item-F Item Arm Block Piece) → GoalFits slot x (entry x)
entry_fits slot (Declare ds) = ones_enter (λ c. declared c c.right) ds 0
entry_fits slot (Assign s) = tt
entry_fits slot (Do c) = tt
entry_fits slot (Nest b) = tt
entry_fits slot (If arms otherwise) = if_enters slot arms otherwise 0
entry_fits slot (While test b) = tt
entry_fits slot (For head b) = first_fits slot head b head.start refl
entry_fits slot Break = refl
entry_fits slot Continue = refl
entry_fits slot (Return value at) = ones_enter (λ a. a) (returned slot value at) 0

-- blocks

part_is : (slot : Option ℕ) (b : Block) (i k : ℕ) (x : Item-F Item Arm Block Piece) → item_at b i ≡ Some x → part_at slot b i k ≡ part_of slot k x
part_is slot b i k x e = ap (option_and_then (part_of slot k)) e

row_stands : (list : List (Option Instruction)) (k : ℕ) → AllAre list → k < length list → Stands (row_spot (slice_get list k))
row_stands [] k none_are low = absurd (omega arith)
row_stands (None ∷ list) zero (more_are h rest) low = h
row_stands (Some a ∷ list) zero (more_are h rest) low = tt
row_stands (a ∷ list) (suc k) (more_are h rest) low = row_stands list k rest (omega arith)

module _ (d : Declarations) (result : Option Ty) (slot : Option ℕ) where
  -- what follows a place of a block
  abbrev BlockLands : Block → Onward → Type 0
  BlockLands b (To path) = Stands (spot_of slot path b)
  BlockLands b (By Through) = Unit {0}
  BlockLands b (By Broken) = jumps_out b ≡ true
  BlockLands b (By Continued) = jumps_out b ≡ true
  BlockLands b (By (Found t)) = ⊥
  BlockLands b (By Lost) = ⊥

  -- what follows a place of a part
  abbrev PartLands : Part Block → Onward → Type 0
  PartLands part (To path) = Stands (spot_in (spot_of slot path) path (Some part))
  PartLands part (By departure) = Leaves part departure

  first_stands : (part : Part Block) → Whole d result part → Enters (Some part) → Stands (spot_in (spot_of slot (first_place part)) (first_place part) (Some part))
  first_stands (One None) (one h) enters = h
  first_stands (One (Some a)) (one h) enters = tt
  first_stands (Row []) (row h) enters = absurd enters
  first_stands (Row (a ∷ list)) (row h) enters = row_stands (a ∷ list) 0 h (omega arith)
  first_stands (Condition e) condition enters =
      subst (λ (x : Spot). Stands x) (sym (spot_tested (spot_of slot (first_test e)) (first_test e) e)) (test_stands (test_at (first_test e) e) (has_first e))
  first_stands (Within b) (within h) enters =
      subst (λ (x : Spot). Stands x) (sym (spot_within (spot_of slot (0 ∷ [])) (0 ∷ []) b)) (gap_there b 0 (slice_get (out-Block b).items 0) refl (no_first (out-Block b).items))

  entered_lands : (b : Block) (i k : ℕ) (x : Item-F Item Arm Block Piece) → item_at b i ≡ Some x → item_fits d result (right_layer d result x) ≡ true →
      (o : Option (Part Block)) → part_of slot k x ≡ o → Enters o → BlockLands b (entered i k o)
  entered_lands b i k x e right None is enters = gap_behind b i x e
  entered_lands b i k x e right (Some part) is enters =
      subst (λ (o : Option (Part Block)). Stands (spot_in (spot_of slot (first_place part)) (first_place part) o)) (sym (part_is slot b i k x e ∙ is))
      (first_stands part (part_whole d result slot k x part right is) enters)

  reached_lands : (b : Block) (i : ℕ) (x : Item-F Item Arm Block Piece) → item_at b i ≡ Some x → item_fits d result (right_layer d result x) ≡ true → (g : Goal) → GoalFits slot x g → BlockLands b (reached slot i x g)
  reached_lands b i x e right (Into k) h = entered_lands b i k x e right (part_of slot k x) refl h
  reached_lands b i x e right (Out Through) h = gap_behind b i x e
  reached_lands b i x e right (Out Broken) h = block_jump b i x e h
  reached_lands b i x e right (Out Continued) h = block_jump b i x e h
  reached_lands b i x e right (Out (Found t)) h = absurd h
  reached_lands b i x e right (Out Lost) h = absurd h

  row_lands : (list : List (Option Instruction)) (k : ℕ) (t : Bool) → nat_lt (k + 1) (length list) ≡ t → AllAre list → PartLands (Row list) (if t then To ((k + 1) ∷ []) else By Through)
  row_lands list k true low h = row_stands list (k + 1) h (ltb-true (k + 1) (length list) low)
  row_lands list k false low h = tt

  condition_lands : (e : Expr) (o : Onward) → TestLands e (out-Expr e) o → PartLands (Condition e) o
  condition_lands e (To path) h =
      subst (λ (x : Spot). Stands x) (sym (spot_tested (spot_of slot path) path e)) (test_stands (test_at path e) (subst (λ (o : Option Expr). IsTest o) (sym (opened_test path e)) h))
  condition_lands e (By (Found t)) h = tt
  condition_lands e (By Through) h = absurd h
  condition_lands e (By Broken) h = absurd h
  condition_lands e (By Continued) h = absurd h
  condition_lands e (By Lost) h = absurd h

  atom_lands : (path : List ℕ) (said : Option Bool) (e : Expr) (o : Option Expr) → test_at path e ≡ o → Goes said (test_spot o) → PartLands (Condition e) (behind_atom path said e)
  atom_lands path said e None is h = absurd h
  atom_lands path None e (Some t) is h = absurd (h refl)
  atom_lands path (Some b) e (Some t) is h = condition_lands e (behind_test path b e) (test_lands path b e (subst (λ (o : Option Expr). IsTest o) (sym is) tt))

  inner_lands : (b : Block) (o : Onward) → BlockLands b o → PartLands (Within b) o
  inner_lands b (To path) h = subst (λ (x : Spot). Stands x) (sym (spot_within (spot_of slot path) path b)) h
  inner_lands b (By Through) h = tt
  inner_lands b (By Broken) h = h
  inner_lands b (By Continued) h = h
  inner_lands b (By (Found t)) h = absurd h
  inner_lands b (By Lost) h = absurd h

  -- in a part, from what comes in its block
  part_lands : (path : List ℕ) (said : Option Bool) → ((b : Block) → block_fits d result b ≡ true → Goes said (spot_of slot path b) → BlockLands b (next slot said path b)) →
      (part : Part Block) → Whole d result part → Goes said (spot_in (spot_of slot path) path (Some part)) → PartLands part (next_in (next slot said path) path said (Some part))
  part_lands [] said inner (One a) whole h = tt
  part_lands (k ∷ []) said inner (One a) whole h = absurd h
  part_lands (k ∷ j ∷ path) said inner (One a) whole h = absurd h
  part_lands [] said inner (Row list) whole h = absurd h
  part_lands (k ∷ []) said inner (Row list) (row are) h = row_lands list k (nat_lt (k + 1) (length list)) refl are
  part_lands (k ∷ j ∷ path) said inner (Row list) whole h = absurd h
  part_lands [] said inner (Condition e) whole h = atom_lands [] said e (test_at [] e) refl h
  part_lands (k ∷ []) said inner (Condition e) whole h = atom_lands (k ∷ []) said e (test_at (k ∷ []) e) refl h
  part_lands (k ∷ j ∷ path) said inner (Condition e) whole h = atom_lands (k ∷ j ∷ path) said e (test_at (k ∷ j ∷ path) e) refl h
  part_lands [] said inner (Within b) (within right) h = inner_lands b (next slot said [] b) (inner b right h)
  part_lands (k ∷ []) said inner (Within b) (within right) h = inner_lands b (next slot said (k ∷ []) b) (inner b right h)
  part_lands (k ∷ j ∷ path) said inner (Within b) (within right) h = inner_lands b (next slot said (k ∷ j ∷ path) b) (inner b right h)

  -- behind a place of part k of item i
  behind_lands : (b : Block) (i k : ℕ) (x : Item-F Item Arm Block Piece) (part : Part Block) → item_at b i ≡ Some x → item_fits d result (right_layer d result x) ≡ true → part_of slot k x ≡ Some part →
      (o : Onward) → PartLands part o → BlockLands b (behind_part slot i k o x)
  behind_lands b i k x part e right is (To path) h = subst (λ (o : Option (Part Block)). Stands (spot_in (spot_of slot path) path o)) (sym (part_is slot b i k x e ∙ is)) h
  behind_lands b i k x part e right is (By departure) h = reached_lands b i x e right (gone x k departure) (goal_fits slot x k part departure is h)

  nothing_goes : (said : Option Bool) (inner : Block → Spot) (path : List ℕ) → Goes said (spot_in inner path None) → ⊥
  nothing_goes said inner [] h = h
  nothing_goes said inner (k ∷ []) h = h
  nothing_goes said inner (k ∷ j ∷ path) h = h

  in_part_lands : (b : Block) (i k : ℕ) (path : List ℕ) (said : Option Bool) → ((c : Block) → block_fits d result c ≡ true → Goes said (spot_of slot path c) → BlockLands c (next slot said path c)) →
      (x : Item-F Item Arm Block Piece) → item_at b i ≡ Some x → item_fits d result (right_layer d result x) ≡ true → (o : Option (Part Block)) → part_of slot k x ≡ o → Goes said (spot_in (spot_of slot path) path o) →
      BlockLands b (behind_part slot i k (next_in (next slot said path) path said o) x)
  in_part_lands b i k path said inner x e right None is h = absurd (nothing_goes said (spot_of slot path) path h)
  in_part_lands b i k path said inner x e right (Some part) is h =
      behind_lands b i k x part e right is (next_in (next slot said path) path said (Some part)) (part_lands path said inner part (part_whole d result slot k x part right is) h)

  in_item_lands : (b : Block) (i k : ℕ) (path : List ℕ) (said : Option Bool) → block_fits d result b ≡ true → ((c : Block) → block_fits d result c ≡ true → Goes said (spot_of slot path c) → BlockLands c (next slot said path c)) →
      (o : Option (Item-F Item Arm Block Piece)) → item_at b i ≡ o → Goes said (spot_in (spot_of slot path) path (option_and_then (part_of slot k) o)) →
      BlockLands b (behind_item slot i k (next_in (next slot said path) path said (option_and_then (part_of slot k) o)) o)
  in_item_lands b i k path said right inner None e h = absurd (nothing_goes said (spot_of slot path) path h)
  in_item_lands b i k path said right inner (Some x) e h = in_part_lands b i k path said inner x e (item_is_right d result b i x right e) (part_of slot k x) refl h

  behind_gap_lands : (b : Block) (i : ℕ) → block_fits d result b ≡ true → (o : Option (Item-F Item Arm Block Piece)) → item_at b i ≡ o → BlockLands b (behind_gap slot i o)
  behind_gap_lands b i right None e = tt
  behind_gap_lands b i right (Some x) e = reached_lands b i x e (item_is_right d result b i x right e) (entry x) (entry_fits slot x)

  block_lands : (path : List ℕ) (said : Option Bool) (b : Block) → block_fits d result b ≡ true → Goes said (spot_of slot path b) → BlockLands b (next slot said path b)
  block_lands [] said b right h = absurd h
  block_lands (i ∷ []) said b right h = behind_gap_lands b i right (item_at b i) refl
  block_lands (i ∷ k ∷ path) said b right h = in_item_lands b i k path said right (block_lands path said) (item_at b i) refl h

-- functions

module _ (p : Program) (f : ℕ) (d : FunDef) (decls : Declarations) (right : block_fits decls d.result d.body ≡ true) (calm : jumps_out d.body ≡ false) where
  brace_or : (j : ℕ) (t : Bool) → Stands (spot_of (result_slot p f) (j ∷ []) d.body) → Stands (if t then AtAction (closing p f d) else spot_of (result_slot p f) (j ∷ []) d.body)
  brace_or j true h = tt
  brace_or j false h = h

  brace_stands : Stands (spot_or_brace p f d (brace_of d.body ∷ []))
  brace_stands = subst (λ (t : Bool). Stands (if t then AtAction (closing p f d) else spot_of (result_slot p f) (brace_of d.body ∷ []) d.body)) (sym (eq-eqb (brace_of d.body) (brace_of d.body) refl)) tt

  onward_stands : (o : Onward) → BlockLands decls d.result (result_slot p f) d.body o → Stands (spot_or_brace p f d (onward_path d.body o))
  onward_stands (To []) h = h
  onward_stands (To (j ∷ [])) h = brace_or j (j == brace_of d.body) h
  onward_stands (To (j ∷ k ∷ path)) h = h
  onward_stands (By Through) h = brace_stands
  onward_stands (By Broken) h = let never : true ≡ false = sym h ∙ calm in absurd cc
  onward_stands (By Continued) h = let never : true ≡ false = sym h ∙ calm in absurd cc
  onward_stands (By (Found t)) h = absurd h
  onward_stands (By Lost) h = absurd h

  past_brace : item_at d.body (brace_of d.body) ≡ None
  past_brace = ap (option_map (λ (q : Piece). out-Item (out-Piece q).item)) (slice_get_past (out-Block d.body).items (brace_of d.body) (omega arith))

  brace_lands : (i : ℕ) (said : Option Bool) (t : Bool) → (i == brace_of d.body) ≡ t → Goes said (if t then AtAction (closing p f d) else spot_of (result_slot p f) (i ∷ []) d.body) →
      Stands (spot_or_brace p f d (onward_path d.body (next (result_slot p f) said (i ∷ []) d.body)))
  brace_lands i said true is h =
      subst (λ (o : Option (Item-F Item Arm Block Piece)). Stands (spot_or_brace p f d (onward_path d.body (behind_gap (result_slot p f) i o))))
      (sym (ap (item_at d.body) (eqb-true i (brace_of d.body) is) ∙ past_brace)) brace_stands
  brace_lands i said false is h = onward_stands (next (result_slot p f) said (i ∷ []) d.body) (block_lands decls d.result (result_slot p f) (i ∷ []) said d.body right h)

  fun_lands : (path : List ℕ) (said : Option Bool) → Goes said (spot_or_brace p f d path) → Stands (spot_or_brace p f d (onward_path d.body (next (result_slot p f) said path d.body)))
  fun_lands [] said h = absurd h
  fun_lands (i ∷ []) said h = brace_lands i said (i == brace_of d.body) refl h
  fun_lands (i ∷ k ∷ path) said h = onward_stands (next (result_slot p f) said (i ∷ k ∷ path) d.body) (block_lands decls d.result (result_slot p f) (i ∷ k ∷ path) said d.body right h)

  -- a function begins with a gap
  pub start_stands : Stands (spot_or_brace p f d (0 ∷ []))
  start_stands = brace_or 0 (0 == brace_of d.body) (gap_there d.body 0 (slice_get (out-Block d.body).items 0) refl (no_first (out-Block d.body).items))

-- programs

-- a rule on functions holds of function f
rule_at : (rule : ℕ → FunDef → Bool) (g i : ℕ) (ds : List FunDef) (d : FunDef) → slice_get ds i ≡ Some d → each_from rule g ds ≡ true → rule (g + i) d ≡ true
rule_at rule g i [] d e h = absurd cc
rule_at rule g zero (c ∷ ds) d e h =
    let same : c ≡ d = cc in
    let place : g ≡ g + 0 = omega arith in
    ap (λ n. rule n d) (sym place) ∙ ap (rule g) (sym same) ∙ (both_true (rule g c) (each_from rule (g + 1) ds) h).0
rule_at rule g (suc i) (c ∷ ds) d e h =
    let place : g + suc i ≡ g + 1 + i = omega arith in
    ap (λ n. rule n d) place ∙ rule_at rule (g + 1) i ds d e (both_true (rule g c) (each_from rule (g + 1) ds) h).1

not_true : (b : Bool) → not b ≡ true → b ≡ false
not_true true e = absurd cc
not_true false e = refl

module _ (p : Program) (w : IsWellFormed p) where
  pub types_right : (f : ℕ) (d : FunDef) → slice_get p.funs f ≡ Some d → block_fits (declarations p) d.result d.body ≡ true
  types_right f d e = rule_at (λ g x. block_fits (declarations p) x.result x.body) 0 f p.funs d e w.typed

  no_jump : (f : ℕ) (d : FunDef) → slice_get p.funs f ≡ Some d → jumps_out d.body ≡ false
  no_jump f d e = not_true (jumps_out d.body) (rule_at (λ g x. jumps_in_loops x) 0 f p.funs d e w.jumps)

  by_function : (f : ℕ) (path : List ℕ) (said : Option Bool) (o : Option FunDef) → slice_get p.funs f ≡ o → Goes said (spot_in_fun p f o path) → Stands (spot_in_fun p f o (next_in_fun p f o said path))
  by_function f path said None e h = absurd h
  by_function f path said (Some d) e h = fun_lands p f d (declarations p) (types_right f d e) (no_jump f d e) path said h

  -- behind a place stands something
  pub next_stands : (f : ℕ) (path : List ℕ) (said : Option Bool) → Goes said (spot_at p f path) → Stands (spot_at p f (next_at p f said path))
  next_stands f path said h = by_function f path said (slice_get p.funs f) refl h

  -- and at the first gap of a function
  pub begin_stands : (f : ℕ) (d : FunDef) → slice_get p.funs f ≡ Some d → Stands (spot_at p f (0 ∷ []))
  begin_stands f d e = subst (λ (o : Option FunDef). Stands (spot_in_fun p f o (0 ∷ []))) (sym e) (start_stands p f d (declarations p) (types_right f d e) (no_jump f d e))
