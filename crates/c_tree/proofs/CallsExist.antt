-- In a well-formed program the functions of each call exist, and ranks of functions fall along calls.
use Rattle.std.proofs.Common.{◌≡◌, ℕ, zero, suc, ◌+◌, ◌<◌, ◌≤◌, Bool, true, ◌&&◌, List, [], ◌∷◌, ◌++◌, length, map, flat_map, Option, Some, None, refl, ap, sym, subst, ◌∙◌, arith}
use Rattle.std.specs.Prelude.{slice_get, nat_lt, ◌==◌}
use Rattle.std.specs.List.{Contains, list_all}
use Rattle.std.specs.Option.{is_some, option_and_then}
use Rattle.std.proofs.lemmas.Bool.{and_parts, eqb-true, eq-eqb, ltb-true, lt-ltb}
use Rattle.std.proofs.lemmas.List.{length-map}
use Rattle.std.proofs.lemmas.List.Elements.{All-weaker, All-contains_itself}
use Rattle.std.proofs.lemmas.List.Folds.{list_all-append}
use Rattle.c_tree.specs.AlikeTest.{same_ty}
use Rattle.c_tree.specs.Cycles.{ExistIn}
use Rattle.c_tree.specs.Typing.{call_type, Declarations, declarations, if_any, has, Prototype, prototype, user_call_fits, call_fits, right_fits, value_fits, declr_fits, place_takes, change_fits, assigned_fits, type_of, simple_fits, start_fits, head_fits, return_fits, item_fits, arm_fits, all_items, its_item, block_fits, var_type, sort_of, is_place, is_condition}
use Rattle.c_tree.specs.UserCalls.{Here, from_option, call_calls, right_calls, declr_calls, simple_calls, start_calls, head_calls, item_calls, arm_calls, block_calls, piece_calls, calls_in, calls_from, user_calls, item_calls_in, arm_calls_in, piece_calls_in}
use Rattle.c_tree.specs.WellFormed.{IsWellFormed, each_from, is_main}
use Rattle.c_tree.specs.declared.control.UserCall.{UserCall}
use Rattle.c_tree.specs.declared.expr.Expr.{Expr, out-Expr}
use Rattle.c_tree.specs.declared.expr.Op.{Op}
use Rattle.c_tree.specs.declared.expr.Op.TheVariants as op
use Rattle.c_tree.specs.declared.program.Arm.{Arm, Arm-F, roll-Arm, fold-Arm, fold-roll-Arm, map-Arm}
use Rattle.c_tree.specs.declared.program.Block.{Block, Block-F, roll-Block, fold-roll-Block, map-Block, ind-Block}
use Rattle.c_tree.specs.declared.program.Call.{Call}
use Rattle.c_tree.specs.declared.program.Call.TheVariants as call
use Rattle.c_tree.specs.declared.program.Declr.{Declr}
use Rattle.c_tree.specs.declared.program.ForHead.{ForHead}
use Rattle.c_tree.specs.declared.program.FunDef.{FunDef}
use Rattle.c_tree.specs.declared.program.Item.{Item, Item-F, roll-Item, fold-Item, fold-roll-Item, map-Item}
use Rattle.c_tree.specs.declared.program.Item.TheOpen.{Declare, Assign, Do, Nest, If, While, For, Break, Continue, Return}
use Rattle.c_tree.specs.declared.program.Piece.{Piece, Piece-F, roll-Piece, fold-Piece, fold-roll-Piece, map-Piece}
use Rattle.c_tree.specs.declared.program.Program.{Program}
use Rattle.c_tree.specs.declared.program.Right.{Right}
use Rattle.c_tree.specs.declared.program.Right.TheVariants as right
use Rattle.c_tree.specs.declared.program.Simple.{Simple}
use Rattle.c_tree.specs.declared.program.Start.{Start}
use Rattle.c_tree.specs.declared.program.Start.TheVariants as start
use Rattle.c_tree.specs.declared.program.Ty.{Ty}
use Rattle.c_tree.proofs.Ranks.{HasRanks, all_at, ranks_of}

module _ (d : Declarations) (f : ℕ) where
  -- the callee of a call exists, and it is by f
  abbrev is_there : UserCall → Bool
  is_there c = is_some (slice_get d.funs c.callee) && (c.caller == f)

  abbrev AllThere : Here → Type 0
  AllThere cs = list_all is_there cs ≡ true

  both_there : (cs ds : Here) → AllThere cs → AllThere ds → AllThere (cs ++ ds)
  both_there cs ds h g = list_all-append is_there cs ds ∙ ap (λ (b : Bool). b && list_all is_there ds) h ∙ g

  each_there : {X : Type 0} (fits : X → Bool) (calls : X → Here) → ((x : X) → fits x ≡ true → AllThere (calls x)) → (xs : List X) → list_all fits xs ≡ true → AllThere (flat_map calls xs)
  each_there fits calls one [] h = refl
  each_there fits calls one (x ∷ xs) h =
      let parts = and_parts (fits x) (list_all fits xs) h in
      both_there (calls x) (flat_map calls xs) (one x parts.0) (each_there fits calls one xs parts.1)

  if_there : {X : Type 0} (fits : X → Bool) (calls : X → Here) → ((x : X) → fits x ≡ true → AllThere (calls x)) → (o : Option X) → if_any fits o ≡ true → AllThere (from_option calls o)
  if_there fits calls one None h = refl
  if_there fits calls one (Some x) h = one x h

  user_there : (n g : ℕ) (es : List Expr) (at : ℕ) → user_call_fits d g es (slice_get d.funs g) ≡ true → AllThere (call_calls f (call.User n g es at))
  user_there n g es at h = by_function (slice_get d.funs g) h
    where
      by_function : (o : Option Prototype) → user_call_fits d g es o ≡ true → (is_some o && (f == f) && true) ≡ true
      by_function None h = absurd cc
      by_function (Some p) h = ap (λ (b : Bool). b && true) (eq-eqb f f refl)

  call_there : (c : Call) → call_fits d c ≡ true → AllThere (call_calls f c)
  call_there (call.User n g es at) h = user_there n g es at h
  call_there (call.Malloc s at) h = refl
  call_there (call.Getchar at) h = refl
  call_there (call.Putchar e at) h = refl
  call_there (call.Printf text es at) h = refl

  right_there : (takes : Call → Bool) (t : Ty) (r : Right) → right_fits d takes t r ≡ true → AllThere (right_calls f r)
  right_there takes t (right.Plain e) h = refl
  right_there takes t (right.Call c) h = call_there c (and_parts (call_fits d c) (has (same_ty t) (call_type d c)) (and_parts (call_fits d c && has (same_ty t) (call_type d c)) (takes c) h).0).0

  declr_there : (c : Declr) → declr_fits d c ≡ true → AllThere (declr_calls f c)
  declr_there c h = by_type (var_type d c.var) h
    where
      by_type : (o : Option Ty) → has (λ t. if_any (value_fits d t) c.right) o ≡ true → AllThere (from_option (right_calls f) c.right)
      by_type None h = absurd cc
      by_type (Some t) h = if_there (value_fits d t) (right_calls f) (right_there (λ c. true) t) c.right h

  change_there : (t : Ty) (r : Right) → change_fits d t r ≡ true → AllThere (right_calls f r)
  change_there t (right.Plain e) h = refl
  change_there t (right.Call c) h = absurd cc

  assigned_there : (s : Simple) (o : Op) (t : Ty) → assigned_fits d s o t ≡ true → AllThere (right_calls f s.right)
  assigned_there s op.Put t h = right_there (place_takes (out-Expr s.place)) t s.right h
  assigned_there s op.Add t h = change_there t s.right h
  assigned_there s op.Sub t h = change_there t s.right h
  assigned_there s op.Mul t h = change_there t s.right h

  placed_there : (s : Simple) (o : Option Ty) → has (assigned_fits d s s.op) o ≡ true → AllThere (right_calls f s.right)
  placed_there s None h = absurd cc
  placed_there s (Some t) h = assigned_there s s.op t h

  simple_there : (s : Simple) → simple_fits d s ≡ true → AllThere (simple_calls f s)
  simple_there s h = placed_there s (option_and_then type_of (sort_of d s.place)) (and_parts (is_place (out-Expr s.place)) _ h).1

  start_there : (s : Start) → start_fits d s ≡ true → AllThere (start_calls f s)
  start_there (start.Declare c) h = declr_there c h
  start_there (start.Assign s) h = simple_there s h

  head_there : (h : ForHead) → head_fits d h ≡ true → AllThere (head_calls f h)
  head_there h e =
      let parts = and_parts (list_all (start_fits d) h.start && if_any (is_condition d) h.test) (if_any (simple_fits d) h.step) e in
      let first = and_parts (list_all (start_fits d) h.start) (if_any (is_condition d) h.test) parts.0 in
      both_there (flat_map (start_calls f) h.start) (from_option (simple_calls f) h.step)
      (each_there (start_fits d) (start_calls f) start_there h.start first.0) (if_there (simple_fits d) (simple_calls f) simple_there h.step parts.1)

  return_there : (result : Option Ty) (r : Option Right) → return_fits d result r ≡ true → AllThere (from_option (right_calls f) r)
  return_there None None h = refl
  return_there (Some t) (Some r) h = right_there (λ c. true) t r h
  return_there None (Some r) h = absurd cc
  return_there (Some t) None h = absurd cc

  module _ (result : Option Ty) where
    abbrev item_right : Item → Bool
    item_right = fold-Item Bool Bool Bool Bool (item_fits d result) (arm_fits d) all_items its_item

    abbrev arm_right : Arm → Bool
    arm_right = fold-Arm Bool Bool Bool Bool (item_fits d result) (arm_fits d) all_items its_item

    abbrev piece_right : Piece → Bool
    piece_right = fold-Piece Bool Bool Bool Bool (item_fits d result) (arm_fits d) all_items its_item

    abbrev ItemThere : Item → Type 0
    ItemThere i = item_right i ≡ true → AllThere (item_calls_in f i)

    abbrev ArmThere : Arm → Type 0
    ArmThere a = arm_right a ≡ true → AllThere (arm_calls_in f a)

    abbrev BlockThere : Block → Type 0
    BlockThere b = block_fits d result b ≡ true → AllThere (calls_in f b)

    abbrev PieceThere : Piece → Type 0
    PieceThere p = piece_right p ≡ true → AllThere (piece_calls_in f p)

    parts_there : {X : Type 0} (right : X → Bool) (calls : X → Here) (xs : List ((x : X) × (right x ≡ true → AllThere (calls x)))) → list_all (λ b. b) (map right (map (λ e. e.0) xs)) ≡ true → AllThere (flat_map (λ c. c) (map calls (map (λ e. e.0) xs)))
    parts_there right calls [] h = refl
    parts_there right calls (x ∷ xs) h =
        let parts = and_parts (right x.0) (list_all (λ b. b) (map right (map (λ e. e.0) xs))) h in
        both_there (calls x.0) (flat_map (λ c. c) (map calls (map (λ e. e.0) xs))) (x.1 parts.0) (parts_there right calls xs parts.1)

    abbrev Items : Type 0
    Items = Item-F ((i : Item) × ItemThere i) ((a : Arm) × ArmThere a) ((b : Block) × BlockThere b) ((p : Piece) × PieceThere p)

    abbrev right_layer : Item-F Item Arm Block Piece → Item-F Bool Bool Bool Bool
    right_layer = map-Item Item Arm Block Piece Bool Bool Bool Bool item_right arm_right (block_fits d result) piece_right

    abbrev calls_layer : Item-F Item Arm Block Piece → Item-F Here Here Here Here
    calls_layer = map-Item Item Arm Block Piece Here Here Here Here (item_calls_in f) (arm_calls_in f) (calls_in f) (piece_calls_in f)

    abbrev bare_item : Items → Item-F Item Arm Block Piece
    bare_item = map-Item ((i : Item) × ItemThere i) ((a : Arm) × ArmThere a) ((b : Block) × BlockThere b) ((p : Piece) × PieceThere p) Item Arm Block Piece (λ e. e.0) (λ e. e.0) (λ e. e.0) (λ e. e.0)

    abbrev LayerThere : Item-F Item Arm Block Piece → Type 0
    LayerThere x = item_fits d result (right_layer x) ≡ true → AllThere (item_calls f (calls_layer x))

    layer_there : (y : Items) → LayerThere (bare_item y)
    layer_there (Declare ds) h = each_there (declr_fits d) (declr_calls f) declr_there ds h
    layer_there (Assign s) h = simple_there s h
    layer_there (Do c) h = call_there c h
    layer_there (Nest b) h = b.1 h
    layer_there (If arms None) h =
        let parts = and_parts (list_all (λ b. b) (map arm_right (map (λ e. e.0) arms))) true h in
        both_there (flat_map (λ c. c) (map (arm_calls_in f) (map (λ e. e.0) arms))) [] (parts_there arm_right (arm_calls_in f) arms parts.0) refl
    layer_there (If arms (Some b)) h =
        let parts = and_parts (list_all (λ b. b) (map arm_right (map (λ e. e.0) arms))) (block_fits d result b.0) h in
        both_there (flat_map (λ c. c) (map (arm_calls_in f) (map (λ e. e.0) arms))) (calls_in f b.0) (parts_there arm_right (arm_calls_in f) arms parts.0) (b.1 parts.1)
    layer_there (While test body) h = body.1 (and_parts (is_condition d test) (block_fits d result body.0) h).1
    layer_there (For head body) h =
        let parts = and_parts (head_fits d head) (block_fits d result body.0) h in
        both_there (head_calls f head) (calls_in f body.0) (head_there head parts.0) (body.1 parts.1)
    layer_there Break h = refl
    layer_there Continue h = refl
    layer_there (Return value at) h = return_there result value h

    step_item : (x : Item-F Item Arm Block Piece) (y : Items) → bare_item y ≡ x → ItemThere (roll-Item x)
    step_item x y is h =
        ap (list_all is_there) (fold-roll-Item Here Here Here Here (item_calls f) arm_calls block_calls piece_calls x)
        ∙ subst LayerThere is (layer_there y) (sym (fold-roll-Item Bool Bool Bool Bool (item_fits d result) (arm_fits d) all_items its_item x) ∙ h)

    step_arm : (x : Arm-F Item Arm Block Piece) (y : Arm-F ((i : Item) × ItemThere i) ((a : Arm) × ArmThere a) ((b : Block) × BlockThere b) ((p : Piece) × PieceThere p))
        → map-Arm ((i : Item) × ItemThere i) ((a : Arm) × ArmThere a) ((b : Block) × BlockThere b) ((p : Piece) × PieceThere p) Item Arm Block Piece (λ e. e.0) (λ e. e.0) (λ e. e.0) (λ e. e.0) y ≡ x → ArmThere (roll-Arm x)
    step_arm x y is h =
        let there : BlockThere x.body = subst (λ (z : Arm-F Item Arm Block Piece). BlockThere z.body) is y.body.1 in
        ap (list_all is_there) (fold-roll-Arm Here Here Here Here (item_calls f) arm_calls block_calls piece_calls x)
        ∙ there (and_parts (is_condition d x.test) (block_fits d result x.body) (sym (fold-roll-Arm Bool Bool Bool Bool (item_fits d result) (arm_fits d) all_items its_item x) ∙ h)).1

    abbrev ItemsThere : List Piece → Type 0
    ItemsThere ps = list_all (λ b. b) (map piece_right ps) ≡ true → AllThere (flat_map (λ c. c) (map (piece_calls_in f) ps))

    step_block : (x : Block-F Item Arm Block Piece) (y : Block-F ((i : Item) × ItemThere i) ((a : Arm) × ArmThere a) ((b : Block) × BlockThere b) ((p : Piece) × PieceThere p))
        → map-Block ((i : Item) × ItemThere i) ((a : Arm) × ArmThere a) ((b : Block) × BlockThere b) ((p : Piece) × PieceThere p) Item Arm Block Piece (λ e. e.0) (λ e. e.0) (λ e. e.0) (λ e. e.0) y ≡ x → BlockThere (roll-Block x)
    step_block x y is h =
        ap (list_all is_there) (fold-roll-Block Here Here Here Here (item_calls f) arm_calls block_calls piece_calls x)
        ∙ subst (λ (z : Block-F Item Arm Block Piece). ItemsThere z.items) is (parts_there piece_right (piece_calls_in f) y.items)
        (sym (fold-roll-Block Bool Bool Bool Bool (item_fits d result) (arm_fits d) all_items its_item x) ∙ h)

    step_piece : (x : Piece-F Item Arm Block Piece) (y : Piece-F ((i : Item) × ItemThere i) ((a : Arm) × ArmThere a) ((b : Block) × BlockThere b) ((p : Piece) × PieceThere p))
        → map-Piece ((i : Item) × ItemThere i) ((a : Arm) × ArmThere a) ((b : Block) × BlockThere b) ((p : Piece) × PieceThere p) Item Arm Block Piece (λ e. e.0) (λ e. e.0) (λ e. e.0) (λ e. e.0) y ≡ x → PieceThere (roll-Piece x)
    step_piece x y is h =
        let there : ItemThere x.item = subst (λ (z : Piece-F Item Arm Block Piece). ItemThere z.item) is y.item.1 in
        ap (list_all is_there) (fold-roll-Piece Here Here Here Here (item_calls f) arm_calls block_calls piece_calls x)
        ∙ there (sym (fold-roll-Piece Bool Bool Bool Bool (item_fits d result) (arm_fits d) all_items its_item x) ∙ h)

    -- the callees of a block of right types exist
    pub callees_there : (b : Block) → block_fits d result b ≡ true → AllThere (calls_in f b)
    callees_there = ind-Block ItemThere ArmThere BlockThere PieceThere step_item step_arm step_block step_piece

-- the calls of a program

some_below : {X : Type 0} (xs : List X) (k : ℕ) → is_some (slice_get xs k) ≡ true → k < length xs
some_below [] k h = absurd cc
some_below (x ∷ xs) zero h = omega arith
some_below (x ∷ xs) (suc k) h = let less : k < length xs = some_below xs k h in omega arith

has_some : {X : Type 0} (test : X → Bool) (o : Option X) → has test o ≡ true → is_some o ≡ true
has_some test None h = absurd cc
has_some test (Some x) h = refl

-- both functions of a call are among the first n
abbrev among : ℕ → UserCall → Bool
among n c = nat_lt c.caller n && nat_lt c.callee n

all_weaker : {X : Type 0} (p q : X → Bool) → ((x : X) → p x ≡ true → q x ≡ true) → (xs : List X) → list_all p xs ≡ true → list_all q xs ≡ true
all_weaker p q more [] h = refl
all_weaker p q more (x ∷ xs) h =
    let parts = and_parts (p x) (list_all p xs) h in
    ap (λ (b : Bool). b && list_all q xs) (more x parts.0) ∙ all_weaker p q more xs parts.1

there_among : (d : Declarations) (f n : ℕ) → f < n → length d.funs ≡ n → (c : UserCall) → is_there d f c ≡ true → among n c ≡ true
there_among d f n below long c h =
    let parts = and_parts (is_some (slice_get d.funs c.callee)) (c.caller == f) h in
    let callee : c.callee < length d.funs = some_below d.funs c.callee parts.0 in
    let caller : c.caller ≡ f = eqb-true c.caller f parts.1 in
    ap (λ (b : Bool). b && nat_lt c.callee n) (lt-ltb c.caller n (omega arith)) ∙ lt-ltb c.callee n (omega arith)

from_among : (d : Declarations) (n : ℕ) → length d.funs ≡ n → (f : ℕ) (gs : List FunDef) → f + length gs ≤ n → each_from (λ k g. block_fits d g.result g.body) f gs ≡ true → list_all (among n) (calls_from f gs) ≡ true
from_among d n long f [] few h = refl
from_among d n long f (g ∷ gs) few h =
    let parts = and_parts (block_fits d g.result g.body) (each_from (λ k g. block_fits d g.result g.body) (f + 1) gs) h in
    list_all-append (among n) (calls_in f g.body) (calls_from (f + 1) gs)
    ∙ ap (λ (b : Bool). b && list_all (among n) (calls_from (f + 1) gs)) (all_weaker (is_there d f) (among n) (there_among d f n (omega arith) long) (calls_in f g.body) (callees_there d f g.result g.body parts.0))
    ∙ from_among d n long (f + 1) gs (omega arith) parts.1

-- both functions of each call exist
pub calls_exist : (p : Program) → IsWellFormed p → ExistIn (length p.funs) (user_calls p)
calls_exist p w =
    let long : length (declarations p).funs ≡ length p.funs = length-map p.funs prototype in
    All-weaker (Contains (user_calls p)) (λ (c : UserCall). (c.caller < length p.funs) × (c.callee < length p.funs)) (λ c h.
    let parts = and_parts (nat_lt c.caller (length p.funs)) (nat_lt c.callee (length p.funs)) (all_at (among (length p.funs)) (user_calls p) c (from_among (declarations p) (length p.funs) long 0 p.funs (omega arith) w.typed) h) in
    (ltb-true c.caller (length p.funs) parts.0, ltb-true c.callee (length p.funs) parts.1))
    (user_calls p) (All-contains_itself (user_calls p))

-- functions have ranks that fall along calls
pub ranks_in : (p : Program) → IsWellFormed p → HasRanks (length p.funs) (user_calls p)
ranks_in p w = ranks_of (length p.funs) (user_calls p) (calls_exist p w) w.no_recursion

-- main exists
pub main_exists : (p : Program) → IsWellFormed p → p.main < length p.funs
main_exists p w =
    let long : length (declarations p).funs ≡ length p.funs = length-map p.funs prototype in
    let there : p.main < length (declarations p).funs = some_below (declarations p).funs p.main (has_some is_main (slice_get (declarations p).funs p.main) w.main) in
    omega arith
