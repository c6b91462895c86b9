-- In a block of right types the parts of each item are instructions, rows of instructions, conditions and blocks of right types.
use Rattle.std.proofs.Common.{◌≡◌, ℕ, zero, suc, ◌&&◌, Bool, true, List, [], ◌∷◌, ◌++◌, map, slice_get, Option, Some, None, option_map, option_and_then, refl, ap, sym, subst, ◌∙◌}
use Rattle.std.specs.List.{list_all}
use Rattle.std.proofs.lemmas.Bool.{and_parts}
use Rattle.c_tree.specs.AlikeTest.{same_ty}
use Rattle.c_tree.specs.Typing.{call_type, Declarations, if_any, has, call_fits, right_fits, value_fits, declr_fits, place_takes, is_variable, change_fits, assigned_fits, type_of, simple_fits, start_fits, head_fits, return_fits, item_fits, arm_fits, all_items, its_item, block_fits, var_type, sort_of, is_place, is_condition}
use Rattle.c_tree.specs.declared.expr.Expr.{Expr, Expr-F, out-Expr}
use Rattle.c_tree.specs.declared.expr.Expr.TheOpen as layer
use Rattle.c_tree.specs.declared.expr.Expr.TheVariants as expr
use Rattle.c_tree.specs.declared.expr.Op.{Op}
use Rattle.c_tree.specs.declared.expr.Op.TheVariants as op
use Rattle.c_tree.specs.declared.program.Arm.{Arm, fold-Arm, fold_out-Arm}
use Rattle.c_tree.specs.declared.program.Block.{Block, out-Block, fold_out-Block}
use Rattle.c_tree.specs.declared.program.Call.{Call}
use Rattle.c_tree.specs.declared.program.Call.TheVariants as call
use Rattle.c_tree.specs.declared.program.Declr.{Declr}
use Rattle.c_tree.specs.declared.program.Item.{Item, Item-F, out-Item, fold-Item, fold_out-Item, map-Item}
use Rattle.c_tree.specs.declared.program.Item.TheOpen.{Declare, Assign, Do, Nest, If, While, For, Break, Continue, Return}
use Rattle.c_tree.specs.declared.program.Piece.{Piece, out-Piece, fold-Piece, fold_out-Piece}
use Rattle.c_tree.specs.declared.program.Right.{Right}
use Rattle.c_tree.specs.declared.program.Right.TheVariants as right
use Rattle.c_tree.specs.declared.program.Simple.{Simple}
use Rattle.c_tree.specs.declared.program.Start.{Start}
use Rattle.c_tree.specs.declared.program.Start.TheVariants as start
use Rattle.c_tree.specs.declared.program.Ty.{Ty}
use Rattle.c_meaning.specs.Parts.{Instruction, Invoke, Close, Part, One, Row, Condition, Within, variable_of, called, put_call, assigned, declared, started, returned, last_row, arm_parts, parts}
use Rattle.c_meaning.specs.Place.{arm_test, arm_body, item_at, part_of}

-- it is an instruction, and no closing brace
abbrev pub Is : Option Instruction → Type 0
Is None = ⊥
Is (Some (Close goes_back offset)) = ⊥
Is (Some a) = Unit {0}

pub data AllAre : List (Option Instruction) → Type 0 where
  none_are : AllAre []
  more_are : {a : Option Instruction} {row : List (Option Instruction)} → Is a → AllAre row → AllAre (a ∷ row)

module _ (d : Declarations) where
  -- calls

  by_variable : (number callee : ℕ) (es : List Expr) (l : Expr-F Expr) → is_variable l ≡ true → Is (option_map (λ t. Invoke number callee es t) (option_map (λ x. Some x) (variable_of l)))
  by_variable number callee es (layer.Var x at) h = tt
  by_variable number callee es _ h = absurd cc

  called_in : (place : Expr) (t : Ty) (c : Call) → has (same_ty t) (call_type d c) ≡ true → place_takes (out-Expr place) c ≡ true → Is (called (Some place) c)
  called_in place t (call.User n g es at) typed takes = by_variable n g es (out-Expr place) takes
  called_in place t (call.Malloc size at) typed takes = tt
  called_in place t (call.Getchar at) typed takes = tt
  called_in place t (call.Putchar e at) typed takes = absurd cc
  called_in place t (call.Printf text es at) typed takes = absurd cc

  called_alone : (c : Call) → Is (called None c)
  called_alone (call.User n g es at) = tt
  called_alone (call.Malloc size at) = tt
  called_alone (call.Getchar at) = tt
  called_alone (call.Putchar e at) = tt
  called_alone (call.Printf text es at) = tt

  takes_layer : (x at : ℕ) (c : Call) → place_takes (layer.Var x at) c ≡ true
  takes_layer x at (call.User n g es o) = refl
  takes_layer x at (call.Malloc size o) = refl
  takes_layer x at (call.Getchar o) = refl
  takes_layer x at (call.Putchar e o) = refl
  takes_layer x at (call.Printf text es o) = refl

  variable_takes : (x at : ℕ) (c : Call) → place_takes (out-Expr (expr.Var x at)) c ≡ true
  variable_takes x at c = ap (λ (l : Expr-F Expr). place_takes l c) (expr.outs-Var x at) ∙ takes_layer x at c

  typed_call : (takes : Call → Bool) (t : Ty) (c : Call) → right_fits d takes t (right.Call c) ≡ true → (has (same_ty t) (call_type d c) ≡ true) × (takes c ≡ true)
  typed_call takes t c h =
      let both = and_parts (call_fits d c && has (same_ty t) (call_type d c)) (takes c) h in
      ((and_parts (call_fits d c) (has (same_ty t) (call_type d c)) both.0).1, both.1)

  -- instructions

  declared_is : (c : Declr) (r : Option Right) (o : Option Ty) → has (λ t. if_any (value_fits d t) r) o ≡ true → Is (declared c r)
  declared_is c None o h = tt
  declared_is c (Some (right.Plain e)) o h = tt
  declared_is c (Some (right.Call k)) None h = absurd cc
  declared_is c (Some (right.Call k)) (Some t) h = called_in (expr.Var c.var c.at) t k (typed_call (λ c. true) t k h).0 (variable_takes c.var c.at k)

  put_is : (s : Simple) (o : Op) (c : Call) (t : Option Ty) → s.right ≡ right.Call c → has (assigned_fits d s o) t ≡ true → Is (put_call o s.place c)
  put_is s o c None is h = absurd cc
  put_is s op.Put c (Some t) is h =
      let both = typed_call (place_takes (out-Expr s.place)) t c (subst (λ (r : Right). right_fits d (place_takes (out-Expr s.place)) t r ≡ true) is h) in
      called_in s.place t c both.0 both.1
  put_is s op.Add c (Some t) is h = let never : change_fits d t (right.Call c) ≡ true = subst (λ (r : Right). change_fits d t r ≡ true) is h in absurd cc
  put_is s op.Sub c (Some t) is h = let never : change_fits d t (right.Call c) ≡ true = subst (λ (r : Right). change_fits d t r ≡ true) is h in absurd cc
  put_is s op.Mul c (Some t) is h = let never : change_fits d t (right.Call c) ≡ true = subst (λ (r : Right). change_fits d t r ≡ true) is h in absurd cc

  assigned_is : (s : Simple) (r : Right) → s.right ≡ r → simple_fits d s ≡ true → Is (assigned s r)
  assigned_is s (right.Plain e) is h = tt
  assigned_is s (right.Call c) is h =
      put_is s s.op c (option_and_then type_of (sort_of d s.place)) is (and_parts (is_place (out-Expr s.place)) (has (assigned_fits d s s.op) (option_and_then type_of (sort_of d s.place))) h).1

  started_is : (s : Start) → start_fits d s ≡ true → Is (started s)
  started_is (start.Declare c) h = declared_is c c.right (var_type d c.var) h
  started_is (start.Assign s) h = assigned_is s s.right refl h

  row_is : (ss : List Start) → list_all (start_fits d) ss ≡ true → AllAre (map started ss)
  row_is [] h = none_are
  row_is (s ∷ ss) h = let both = and_parts (start_fits d s) (list_all (start_fits d) ss) h in more_are (started_is s both.0) (row_is ss both.1)

  last_is : (s : Option Simple) → if_any (simple_fits d) s ≡ true → AllAre (last_row s)
  last_is None h = none_are
  last_is (Some s) h = more_are (assigned_is s s.right refl h) none_are

  -- parts

  module _ (result : Option Ty) where
    abbrev pub item_right : Item → Bool
    item_right = fold-Item Bool Bool Bool Bool (item_fits d result) (arm_fits d) all_items its_item

    abbrev pub arm_right : Arm → Bool
    arm_right = fold-Arm Bool Bool Bool Bool (item_fits d result) (arm_fits d) all_items its_item

    abbrev pub piece_right : Piece → Bool
    piece_right = fold-Piece Bool Bool Bool Bool (item_fits d result) (arm_fits d) all_items its_item

    -- an item from what is right in it
    abbrev pub right_layer : Item-F Item Arm Block Piece → Item-F Bool Bool Bool Bool
    right_layer = map-Item Item Arm Block Piece Bool Bool Bool Bool item_right arm_right (block_fits d result) piece_right

    -- a part whose instructions are there
    pub data Whole : Part Block → Type 0 where
      one : {a : Option Instruction} → Is a → Whole (One a)
      row : {list : List (Option Instruction)} → AllAre list → Whole (Row list)
      condition : {e : Expr} → Whole (Condition e)
      within : {b : Block} → block_fits d result b ≡ true → Whole (Within b)

    pub data AllWhole : List (Part Block) → Type 0 where
      none_whole : AllWhole []
      more_whole : {part : Part Block} {rest : List (Part Block)} → Whole part → AllWhole rest → AllWhole (part ∷ rest)

    ones_whole : {A : Type 0} (g : A → Option Instruction) (xs : List A) → AllAre (map g xs) → AllWhole (map (λ x. One (g x)) xs)
    ones_whole g [] none_are = none_whole
    ones_whole g (x ∷ xs) (more_are h rest) = more_whole (one h) (ones_whole g xs rest)

    declrs_are : (ds : List Declr) → list_all (declr_fits d) ds ≡ true → AllAre (map (λ c. declared c c.right) ds)
    declrs_are [] h = none_are
    declrs_are (c ∷ ds) h = let both = and_parts (declr_fits d c) (list_all (declr_fits d) ds) h in more_are (declared_is c c.right (var_type d c.var) both.0) (declrs_are ds both.1)

    returned_whole : (slot : Option ℕ) (value : Option Right) (at : ℕ) → return_fits d result value ≡ true → AllWhole (map (λ a. One a) (returned slot value at))
    returned_whole slot None at h = more_whole (one tt) none_whole
    returned_whole slot (Some (right.Plain e)) at h = more_whole (one tt) none_whole
    returned_whole slot (Some (right.Call c)) at h = more_whole (one (by_result slot result h)) (more_whole (one tt) none_whole)
      where
        by_result : (slot : Option ℕ) (result : Option Ty) → return_fits d result (Some (right.Call c)) ≡ true → Is (called (option_map (λ x. expr.Var x at) slot) c)
        by_result slot None h = absurd cc
        by_result None (Some t) h = called_alone c
        by_result (Some x) (Some t) h = called_in (expr.Var x at) t c (typed_call (λ c. true) t c h).0 (variable_takes x at c)

    arm_opened : (a : Arm) → arm_right a ≡ true → block_fits d result (arm_body a) ≡ true
    arm_opened a h =
        (and_parts (is_condition d (arm_test a)) (block_fits d result (arm_body a)) (sym (fold_out-Arm Bool Bool Bool Bool (item_fits d result) (arm_fits d) all_items its_item a) ∙ h)).1

    arms_whole : (arms : List Arm) (rest : List (Part Block)) → list_all (λ a. a) (map arm_right arms) ≡ true → AllWhole rest → AllWhole (arm_parts arm_test arm_body arms ++ rest)
    arms_whole [] rest h r = r
    arms_whole (a ∷ arms) rest h r =
        let both = and_parts (arm_right a) (list_all (λ a. a) (map arm_right arms)) h in
        more_whole condition (more_whole (within (arm_opened a both.0)) (arms_whole arms rest both.1 r))

    -- all parts of an item of right types
    pub parts_whole : (slot : Option ℕ) (x : Item-F Item Arm Block Piece) → item_fits d result (right_layer x) ≡ true → AllWhole (parts arm_test arm_body slot x)
    parts_whole slot (Declare ds) h = ones_whole (λ c. declared c c.right) ds (declrs_are ds h)
    parts_whole slot (Assign s) h = more_whole (one (assigned_is s s.right refl h)) none_whole
    parts_whole slot (Do c) h = more_whole (one (called_alone c)) none_whole
    parts_whole slot (Nest b) h = more_whole (within h) none_whole
    parts_whole slot (If arms None) h = arms_whole arms [] (and_parts (list_all (λ a. a) (map arm_right arms)) true h).0 none_whole
    parts_whole slot (If arms (Some b)) h =
        let both = and_parts (list_all (λ a. a) (map arm_right arms)) (block_fits d result b) h in
        arms_whole arms (Within b ∷ []) both.0 (more_whole (within both.1) none_whole)
    parts_whole slot (While e b) h = more_whole condition (more_whole (within (and_parts (is_condition d e) (block_fits d result b) h).1) none_whole)
    parts_whole slot (For head b) h =
        let both = and_parts (head_fits d head) (block_fits d result b) h in
        let heads = and_parts (list_all (start_fits d) head.start && if_any (is_condition d) head.test) (if_any (simple_fits d) head.step) both.0 in
        let first = and_parts (list_all (start_fits d) head.start) (if_any (is_condition d) head.test) heads.0 in
        more_whole (row (row_is head.start first.0)) (more_whole condition (more_whole (row (last_is head.step heads.1)) (more_whole (within both.1) none_whole)))
    parts_whole slot Break h = none_whole
    parts_whole slot Continue h = none_whole
    parts_whole slot (Return value at) h = returned_whole slot value at h

    whole_at : (ps : List (Part Block)) (k : ℕ) (part : Part Block) → AllWhole ps → slice_get ps k ≡ Some part → Whole part
    whole_at [] k part none_whole e = absurd cc
    whole_at (q ∷ ps) zero part (more_whole h rest) e = let same : q ≡ part = cc in subst (λ (x : Part Block). Whole x) same h
    whole_at (q ∷ ps) (suc k) part (more_whole h rest) e = whole_at ps k part rest e

    pub part_whole : (slot : Option ℕ) (k : ℕ) (x : Item-F Item Arm Block Piece) (part : Part Block) → item_fits d result (right_layer x) ≡ true → part_of slot k x ≡ Some part → Whole part
    part_whole slot k x part h e = whole_at (parts arm_test arm_body slot x) k part (parts_whole slot x h) e

    -- the items of a block of right types are right

    pub piece_opened : (p : Piece) → piece_right p ≡ true → item_fits d result (right_layer (out-Item (out-Piece p).item)) ≡ true
    piece_opened p h =
        sym (fold_out-Piece Bool Bool Bool Bool (item_fits d result) (arm_fits d) all_items its_item p ∙ fold_out-Item Bool Bool Bool Bool (item_fits d result) (arm_fits d) all_items its_item (out-Piece p).item) ∙ h

    right_at : (ps : List Piece) (i : ℕ) (x : Item-F Item Arm Block Piece) → list_all (λ p. p) (map piece_right ps) ≡ true → option_map (λ p. out-Item (out-Piece p).item) (slice_get ps i) ≡ Some x →
        item_fits d result (right_layer x) ≡ true
    right_at [] i x h e = absurd cc
    right_at (p ∷ ps) zero x h e =
        let same : out-Item (out-Piece p).item ≡ x = cc in
        subst (λ (y : Item-F Item Arm Block Piece). item_fits d result (right_layer y) ≡ true) same (piece_opened p (and_parts (piece_right p) (list_all (λ p. p) (map piece_right ps)) h).0)
    right_at (p ∷ ps) (suc i) x h e = right_at ps i x (and_parts (piece_right p) (list_all (λ p. p) (map piece_right ps)) h).1 e

    pub block_opened : (b : Block) → block_fits d result b ≡ true → list_all (λ p. p) (map piece_right (out-Block b).items) ≡ true
    block_opened b h = sym (fold_out-Block Bool Bool Bool Bool (item_fits d result) (arm_fits d) all_items its_item b) ∙ h

    pub item_is_right : (b : Block) (i : ℕ) (x : Item-F Item Arm Block Piece) → block_fits d result b ≡ true → item_at b i ≡ Some x → item_fits d result (right_layer x) ≡ true
    item_is_right b i x h e = right_at (out-Block b).items i x (block_opened b h) e
