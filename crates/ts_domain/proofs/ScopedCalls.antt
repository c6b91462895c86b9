-- The arguments of a call in a block have only variables that are visible there: what holds of all variables that are
-- visible before the block and of all that it declares, holds of them.
use Rattle.std.proofs.Common.{◌≡◌, ℕ, zero, suc, ◌==◌, ◌&&◌, ◌||◌, Bool, true, false, List, [], ◌∷◌, ◌++◌, map, flat_map, append_assoc, slice_get, length, Option, Some, None, option_map, option_and_then, refl, ap, sym, subst, ◌∙◌}
use Rattle.std.specs.Prelude.{nat_eq, if◌then◌else◌}
use Rattle.std.specs.List.{list_all}
use Rattle.std.specs.Set.{is_member}
use Rattle.std.proofs.lemmas.Bool.{and_parts, eqb-true}
use Rattle.std.proofs.lemmas.List.Folds.{list_all-append}
use Rattle.c_tree.specs.Numbers.{Numbers, from_all, start_locals, item_locals, arm_locals, block_locals, piece_locals, locals_in}
use Rattle.c_tree.specs.Scopes.{vars_of, any_vars, call_vars, right_vars, simple_vars, Scope, sees, in_turn, closed, declr_scope, start_scope, head_scopes, last_scope, item_scope, arm_scope, items_scope, piece_scope, block_scope}
use Rattle.c_tree.specs.declared.expr.Expr.{Expr}
use Rattle.c_tree.specs.declared.expr.Expr.TheVariants as expr
use Rattle.c_tree.specs.declared.expr.Op.{Op}
use Rattle.c_tree.specs.declared.expr.Op.TheVariants as op
use Rattle.c_tree.specs.declared.program.Arm.{Arm, fold-Arm, fold_out-Arm}
use Rattle.c_tree.specs.declared.program.Block.{Block, out-Block, fold_out-Block}
use Rattle.c_tree.specs.declared.program.Call.{Call}
use Rattle.c_tree.specs.declared.program.Call.TheVariants as call
use Rattle.c_tree.specs.declared.program.Declr.{Declr}
use Rattle.c_tree.specs.declared.program.ForHead.{ForHead}
use Rattle.c_tree.specs.declared.program.Item.{Item, Item-F, out-Item, fold-Item, fold_out-Item, map-Item}
use Rattle.c_tree.specs.declared.program.Item.TheOpen.{Declare, Assign, Do, Nest, If, While, For, Break, Continue, Return}
use Rattle.c_tree.specs.declared.program.Piece.{Piece, out-Piece, fold-Piece, fold_out-Piece}
use Rattle.c_tree.specs.declared.program.Right.{Right}
use Rattle.c_tree.specs.declared.program.Right.TheVariants as right
use Rattle.c_tree.specs.declared.program.Simple.{Simple}
use Rattle.c_tree.specs.declared.program.Start.{Start}
use Rattle.c_tree.specs.declared.program.Start.TheVariants as start
use Rattle.c_meaning.specs.Parts.{Instruction, Invoke, Part, One, Row, Condition, Within, target_of, called, put_call, assigned, declared, started, returned, last_row, arm_parts, else_parts, parts}
use Rattle.c_meaning.specs.Parts as instruction
use Rattle.c_meaning.specs.Place.{Spot, AtGap, AtAction, Nowhere, test_at, arm_test, arm_body, item_at, part_of, gap_at, instruction_spot, row_spot, test_spot, spot_in, spot_of}

pub all_parts : {X : Type 0} (test : X → Bool) (xs ys : List X) → list_all test (xs ++ ys) ≡ true → (list_all test xs ≡ true) × (list_all test ys ≡ true)
all_parts test xs ys h = and_parts (list_all test xs) (list_all test ys) (sym (list_all-append test xs ys) ∙ h)

pub all_both : {X : Type 0} (test : X → Bool) (xs ys : List X) → list_all test xs ≡ true → list_all test ys ≡ true → list_all test (xs ++ ys) ≡ true
all_both test xs ys h g = list_all-append test xs ys ∙ ap (λ (b : Bool). b && list_all test ys) h ∙ g

-- scopes, taken apart

sees_split : (xs seen behind : List ℕ) → sees xs seen ≡ Some behind → (list_all (is_member nat_eq seen) xs ≡ true) × (behind ≡ seen)
sees_split xs seen behind h = by_test (list_all (is_member nat_eq seen) xs) refl h
  where
    by_test : (b : Bool) → list_all (is_member nat_eq seen) xs ≡ b → (if b then Some seen else None) ≡ Some behind → (list_all (is_member nat_eq seen) xs ≡ true) × (behind ≡ seen)
    by_test true e h = let same : seen ≡ behind = cc in (e, sym same)
    by_test false e h = absurd cc

turn_split : (s : Scope) (ss : List Scope) (seen behind : List ℕ) → in_turn (s ∷ ss) seen ≡ Some behind → (between : List ℕ) × (s seen ≡ Some between) × (in_turn ss between ≡ Some behind)
turn_split s ss seen behind h = by_first (s seen) refl h
  where
    by_first : (o : Option (List ℕ)) → s seen ≡ o → option_and_then (in_turn ss) o ≡ Some behind → (between : List ℕ) × (s seen ≡ Some between) × (in_turn ss between ≡ Some behind)
    by_first None e h = absurd cc
    by_first (Some between) e h = (between, e, h)

closed_split : (s : Scope) (seen behind : List ℕ) → closed s seen ≡ Some behind → (inner : List ℕ) × (s seen ≡ Some inner) × (behind ≡ seen)
closed_split s seen behind h = by_inner (s seen) refl h
  where
    by_inner : (o : Option (List ℕ)) → s seen ≡ o → option_map (λ (inner : List ℕ). seen) o ≡ Some behind → (inner : List ℕ) × (s seen ≡ Some inner) × (behind ≡ seen)
    by_inner None e h = absurd cc
    by_inner (Some inner) e h = let same : seen ≡ behind = cc in (inner, e, sym same)

abbrev scope_of_item : Item → Scope
scope_of_item = fold-Item Scope Scope Scope Scope item_scope arm_scope items_scope piece_scope

abbrev scope_of_arm : Arm → Scope
scope_of_arm = fold-Arm Scope Scope Scope Scope item_scope arm_scope items_scope piece_scope

abbrev scope_of_piece : Piece → Scope
scope_of_piece = fold-Piece Scope Scope Scope Scope item_scope arm_scope items_scope piece_scope

abbrev scope_layer : Item-F Item Arm Block Piece → Item-F Scope Scope Scope Scope
scope_layer = map-Item Item Arm Block Piece Scope Scope Scope Scope scope_of_item scope_of_arm block_scope scope_of_piece

abbrev locals_of_item : Item → Numbers
locals_of_item = fold-Item Numbers Numbers Numbers Numbers item_locals arm_locals block_locals piece_locals

abbrev locals_of_arm : Arm → Numbers
locals_of_arm = fold-Arm Numbers Numbers Numbers Numbers item_locals arm_locals block_locals piece_locals

abbrev locals_of_piece : Piece → Numbers
locals_of_piece = fold-Piece Numbers Numbers Numbers Numbers item_locals arm_locals block_locals piece_locals

abbrev locals_layer : Item-F Item Arm Block Piece → Item-F Numbers Numbers Numbers Numbers
locals_layer = map-Item Item Arm Block Piece Numbers Numbers Numbers Numbers locals_of_item locals_of_arm locals_in locals_of_piece

block_opened : (b : Block) (seen : List ℕ) → block_scope b seen ≡ closed (in_turn (map scope_of_piece (out-Block b).items)) seen
block_opened b seen = ap (λ (s : Scope). s seen) (fold_out-Block Scope Scope Scope Scope item_scope arm_scope items_scope piece_scope b)

arm_opened : (a : Arm) (seen : List ℕ) → scope_of_arm a seen ≡ in_turn (sees (vars_of (arm_test a)) ∷ block_scope (arm_body a) ∷ []) seen
arm_opened a seen = ap (λ (s : Scope). s seen) (fold_out-Arm Scope Scope Scope Scope item_scope arm_scope items_scope piece_scope a)

piece_opened : (p : Piece) (seen : List ℕ) → scope_of_piece p seen ≡ item_scope (scope_layer (out-Item (out-Piece p).item)) seen
piece_opened p seen =
    ap (λ (s : Scope). s seen) (fold_out-Piece Scope Scope Scope Scope item_scope arm_scope items_scope piece_scope p ∙ fold_out-Item Scope Scope Scope Scope item_scope arm_scope items_scope piece_scope (out-Piece p).item)

block_locals_opened : (b : Block) → locals_in b ≡ from_all (map locals_of_piece (out-Block b).items)
block_locals_opened b = fold_out-Block Numbers Numbers Numbers Numbers item_locals arm_locals block_locals piece_locals b

arm_locals_opened : (a : Arm) → locals_of_arm a ≡ locals_in (arm_body a)
arm_locals_opened a = fold_out-Arm Numbers Numbers Numbers Numbers item_locals arm_locals block_locals piece_locals a

piece_locals_opened : (p : Piece) → locals_of_piece p ≡ item_locals (locals_layer (out-Item (out-Piece p).item))
piece_locals_opened p =
    fold_out-Piece Numbers Numbers Numbers Numbers item_locals arm_locals block_locals piece_locals p ∙ fold_out-Item Numbers Numbers Numbers Numbers item_locals arm_locals block_locals piece_locals (out-Piece p).item

module _ (ok : ℕ → Bool) where
  abbrev pub Ok : List ℕ → Type 0
  Ok xs = list_all ok xs ≡ true

  member_ok : (seen : List ℕ) (x : ℕ) → Ok seen → is_member nat_eq seen x ≡ true → ok x ≡ true
  member_ok [] x known h = absurd cc
  member_ok (y ∷ seen) x known h = let both = and_parts (ok y) (list_all ok seen) known in by_first (nat_eq x y) refl h both.0 (member_ok seen x both.1)
    where
      by_first : (b : Bool) → nat_eq x y ≡ b → (b || is_member nat_eq seen x) ≡ true → ok y ≡ true → (is_member nat_eq seen x ≡ true → ok x ≡ true) → ok x ≡ true
      by_first true e h own rest = ap ok (eqb-true x y e) ∙ own
      by_first false e h own rest = rest h

  seen_ok : (seen xs : List ℕ) → Ok seen → list_all (is_member nat_eq seen) xs ≡ true → Ok xs
  seen_ok seen [] known h = refl
  seen_ok seen (x ∷ xs) known h =
      let both = and_parts (is_member nat_eq seen x) (list_all (is_member nat_eq seen) xs) h in
      ap (λ (b : Bool). b && list_all ok xs) (member_ok seen x known both.0) ∙ seen_ok seen xs known both.1

  kept : {seen behind : List ℕ} → behind ≡ seen → Ok seen → Ok behind
  kept is known = ap (list_all ok) is ∙ known

  -- instructions

  -- the variables of a call's arguments pass the test
  abbrev pub CallOk : Instruction → Type 0
  CallOk (Invoke number callee es target) = Ok (flat_map vars_of es)
  CallOk (instruction.Unset x) = Unit {0}
  CallOk (instruction.Assign place o e offset) = Unit {0}
  CallOk (instruction.Malloc place z offset) = Unit {0}
  CallOk (instruction.Getchar place) = Unit {0}
  CallOk (instruction.Putchar e) = Unit {0}
  CallOk (instruction.Printf text es) = Unit {0}
  CallOk (instruction.Test e) = Unit {0}
  CallOk (instruction.Return value offset) = Unit {0}
  CallOk (instruction.Close back offset) = Unit {0}

  abbrev CallIf : Option Instruction → Type 0
  CallIf None = Unit {0}
  CallIf (Some i) = CallOk i

  data AllCalls : List (Option Instruction) → Type 0 where
    no_calls : AllCalls []
    more_calls : {a : Option Instruction} {list : List (Option Instruction)} → CallIf a → AllCalls list → AllCalls (a ∷ list)

  user_ok : (number g : ℕ) (es : List Expr) (o : Option (Option ℕ)) → Ok (flat_map vars_of es) → CallIf (option_map (λ t. Invoke number g es t) o)
  user_ok number g es None h = tt
  user_ok number g es (Some t) h = h

  called_ok : (place : Option Expr) (c : Call) → Ok (call_vars c) → CallIf (called place c)
  called_ok place (call.User number g es at) h = user_ok number g es (target_of place) h
  called_ok place (call.Malloc z at) h = tt
  called_ok place (call.Getchar at) h = tt
  called_ok None (call.Putchar e at) h = tt
  called_ok None (call.Printf text es at) h = tt
  called_ok (Some place) (call.Putchar e at) h = tt
  called_ok (Some place) (call.Printf text es at) h = tt

  put_ok : (o : Op) (place : Expr) (c : Call) → Ok (call_vars c) → CallIf (put_call o place c)
  put_ok op.Put place c h = called_ok (Some place) c h
  put_ok op.Add place c h = tt
  put_ok op.Sub place c h = tt
  put_ok op.Mul place c h = tt

  assigned_ok : (s : Simple) (r : Right) → Ok (right_vars r) → CallIf (assigned s r)
  assigned_ok s (right.Plain e) h = tt
  assigned_ok s (right.Call c) h = put_ok s.op s.place c h

  declared_ok : (d : Declr) (r : Option Right) → Ok (any_vars right_vars r) → CallIf (declared d r)
  declared_ok d None h = tt
  declared_ok d (Some (right.Plain e)) h = tt
  declared_ok d (Some (right.Call c)) h = called_ok (Some (expr.Var d.var d.at)) c h

  -- parts in scope, and what is visible behind them

  declr_step : (d : Declr) (seen behind : List ℕ) → Ok seen → ok d.var ≡ true → declr_scope d seen ≡ Some behind → CallIf (declared d d.right) × Ok behind
  declr_step d seen behind known own h =
      let it = sees_split (any_vars right_vars d.right) (d.var ∷ seen) behind h in
      let more : Ok (d.var ∷ seen) = ap (λ (b : Bool). b && list_all ok seen) own ∙ known in
      (declared_ok d d.right (seen_ok (d.var ∷ seen) (any_vars right_vars d.right) more it.0), kept it.1 more)

  simple_step : (s : Simple) (seen behind : List ℕ) → Ok seen → sees (simple_vars s) seen ≡ Some behind → CallIf (assigned s s.right) × Ok behind
  simple_step s seen behind known h =
      let it = sees_split (simple_vars s) seen behind h in
      let vars = all_parts ok (vars_of s.place) (right_vars s.right) (seen_ok seen (simple_vars s) known it.0) in
      (assigned_ok s s.right vars.1, kept it.1 known)

  start_step : (s : Start) (seen behind : List ℕ) → Ok seen → Ok (start_locals s) → start_scope s seen ≡ Some behind → CallIf (started s) × Ok behind
  start_step (start.Declare d) seen behind known own h = declr_step d seen behind known (and_parts (ok d.var) true own).0 h
  start_step (start.Assign s) seen behind known own h = simple_step s seen behind known h

  -- the starts of a for, and how scopes go on behind them
  record Starts (ss : List Start) (rest : List Scope) (behind : List ℕ) : Type 0 where
    all : AllCalls (map started ss)
    between : List ℕ
    known : Ok between
    goes : in_turn rest between ≡ Some behind

  starts_step : (ss : List Start) (rest : List Scope) (seen behind : List ℕ) → Ok seen → Ok (flat_map start_locals ss) → in_turn (map start_scope ss ++ rest) seen ≡ Some behind → Starts ss rest behind
  starts_step [] rest seen behind known own h = record { all = no_calls; between = seen; known = known; goes = h }
  starts_step (s ∷ ss) rest seen behind known own h =
      let mine = all_parts ok (start_locals s) (flat_map start_locals ss) own in
      let it = turn_split (start_scope s) (map start_scope ss ++ rest) seen behind h in
      let one = start_step s seen it.0 known mine.0 it.1 in
      let more = starts_step ss rest it.0 behind one.1 mine.1 it.2 in
      record { all = more_calls one.0 more.all; between = more.between; known = more.known; goes = more.goes }

  last_step : (s : Option Simple) (seen behind : List ℕ) → Ok seen → sees (any_vars simple_vars s) seen ≡ Some behind → AllCalls (last_row s) × Ok behind
  last_step None seen behind known h = (no_calls, kept (sees_split [] seen behind h).1 known)
  last_step (Some s) seen behind known h = let it = simple_step s seen behind known h in (more_calls it.0 no_calls, it.1)

  -- a block whose variables are visible, after variables that pass the test
  pub record InScope (b : Block) : Type 0 where
    pub seen : List ℕ
    pub behind : List ℕ
    pub known : Ok seen
    pub own : Ok (locals_in b)
    pub goes : block_scope b seen ≡ Some behind

  data PartOk : Part Block → Type 0 where
    one : {a : Option Instruction} → CallIf a → PartOk (One a)
    row : {list : List (Option Instruction)} → AllCalls list → PartOk (Row list)
    condition : {e : Expr} → PartOk (Condition e)
    within : {b : Block} → InScope b → PartOk (Within b)

  data PartsOk : List (Part Block) → Type 0 where
    none_there : PartsOk []
    more_there : {part : Part Block} {rest : List (Part Block)} → PartOk part → PartsOk rest → PartsOk (part ∷ rest)

  block_step : (b : Block) (seen behind : List ℕ) → Ok seen → Ok (locals_in b) → block_scope b seen ≡ Some behind → InScope b × Ok behind
  block_step b seen behind known own h =
      let it = closed_split (in_turn (map scope_of_piece (out-Block b).items)) seen behind (sym (block_opened b seen) ∙ h) in
      (record { seen = seen; behind = behind; known = known; own = own; goes = h }, kept it.2 known)

  final_step : (b : Block) (seen behind : List ℕ) → Ok seen → Ok (locals_in b) → in_turn (block_scope b ∷ []) seen ≡ Some behind → InScope b × Ok behind
  final_step b seen behind known own h = let it = turn_split (block_scope b) [] seen behind h in block_step b seen behind known own (it.1 ∙ it.2)

  test_step : (e : Expr) (b : Block) (seen behind : List ℕ) → Ok seen → Ok (locals_in b) → in_turn (sees (vars_of e) ∷ block_scope b ∷ []) seen ≡ Some behind → InScope b × Ok behind
  test_step e b seen behind known own h =
      let it = turn_split (sees (vars_of e)) (block_scope b ∷ []) seen behind h in
      final_step b it.0 behind (kept {behind = it.0} (sees_split (vars_of e) seen it.0 it.1).1 known) own it.2

  arm_step : (a : Arm) (seen behind : List ℕ) → Ok seen → Ok (locals_of_arm a) → scope_of_arm a seen ≡ Some behind → InScope (arm_body a) × Ok behind
  arm_step a seen behind known own h = test_step (arm_test a) (arm_body a) seen behind known (kept (sym (arm_locals_opened a)) own) (sym (arm_opened a seen) ∙ h)

  arms_step : (arms : List Arm) (last : List (Part Block)) (rest : List Scope) (others seen behind : List ℕ) → Ok seen → Ok (from_all (map locals_of_arm arms) ++ others) → in_turn (map scope_of_arm arms ++ rest) seen ≡ Some behind →
      ((between : List ℕ) → Ok between → Ok others → in_turn rest between ≡ Some behind → PartsOk last × Ok behind) → PartsOk (arm_parts arm_test arm_body arms ++ last) × Ok behind
  arms_step [] last rest others seen behind known own h end = end seen known own h
  arms_step (a ∷ arms) last rest others seen behind known own h end =
      let mine = all_parts ok (locals_of_arm a ++ from_all (map locals_of_arm arms)) others own in
      let each = all_parts ok (locals_of_arm a) (from_all (map locals_of_arm arms)) mine.0 in
      let it = turn_split (scope_of_arm a) (map scope_of_arm arms ++ rest) seen behind h in
      let arm = arm_step a seen it.0 known each.0 it.1 in
      let more = arms_step arms last rest others it.0 behind arm.1 (all_both ok (from_all (map locals_of_arm arms)) others each.1 mine.1) it.2 end in
      (more_there condition (more_there (within arm.0) more.0), more.1)

  declrs_step : (ds : List Declr) (seen behind : List ℕ) → Ok seen → Ok (map (λ (d : Declr). d.var) ds) → in_turn (map declr_scope ds) seen ≡ Some behind → PartsOk (map (λ c. One (declared c c.right)) ds) × Ok behind
  declrs_step [] seen behind known own h = let same : seen ≡ behind = cc in (none_there, kept (sym same) known)
  declrs_step (d ∷ ds) seen behind known own h =
      let mine = and_parts (ok d.var) (list_all ok (map (λ (d : Declr). d.var) ds)) own in
      let it = turn_split (declr_scope d) (map declr_scope ds) seen behind h in
      let first = declr_step d seen it.0 known mine.0 it.1 in
      let more = declrs_step ds it.0 behind first.1 mine.1 it.2 in
      (more_there (one first.0) more.0, more.1)

  returned_ok : (slot : Option ℕ) (value : Option Right) (at : ℕ) → Ok (any_vars right_vars value) → PartsOk (map (λ a. One a) (returned slot value at))
  returned_ok slot None at h = more_there (one tt) none_there
  returned_ok slot (Some (right.Plain e)) at h = more_there (one tt) none_there
  returned_ok slot (Some (right.Call c)) at h = more_there (one (called_ok (option_map (λ x. expr.Var x at) slot) c h)) (more_there (one tt) none_there)

  abbrev item_parts : Option ℕ → Item-F Item Arm Block Piece → List (Part Block)
  item_parts slot x = parts arm_test arm_body slot x

  for_step : (slot : Option ℕ) (head : ForHead) (b : Block) (seen behind : List ℕ) → Ok seen → Ok (flat_map start_locals head.start ++ locals_in b) → closed (in_turn (head_scopes head ++ block_scope b ∷ [])) seen ≡ Some behind →
      PartsOk (item_parts slot (For head b)) × Ok behind
  for_step slot head b seen behind known own h =
      let test : Scope = sees (any_vars vars_of head.test) in
      let last : Scope = sees (any_vars simple_vars head.step) in
      let it = closed_split (in_turn (head_scopes head ++ block_scope b ∷ [])) seen behind h in
      let flat : in_turn (map start_scope head.start ++ test ∷ last ∷ block_scope b ∷ []) seen ≡ Some it.0 =
      ap (λ (ss : List Scope). in_turn ss seen) (sym (append_assoc (map start_scope head.start) (test ∷ last ∷ []) (block_scope b ∷ []))) ∙ it.1 in
      let mine = all_parts ok (flat_map start_locals head.start) (locals_in b) own in
      let starts = starts_step head.start (test ∷ last ∷ block_scope b ∷ []) seen it.0 known mine.0 flat in
      let tested = turn_split test (last ∷ block_scope b ∷ []) starts.between it.0 starts.goes in
      let there : Ok tested.0 = kept {behind = tested.0} (sees_split (any_vars vars_of head.test) starts.between tested.0 tested.1).1 starts.known in
      let stepped = turn_split last (block_scope b ∷ []) tested.0 it.0 tested.2 in
      let steps = last_step head.step tested.0 stepped.0 there stepped.1 in
      let body = final_step b stepped.0 it.0 steps.1 mine.1 stepped.2 in
      (more_there (row starts.all) (more_there condition (more_there (row steps.0) (more_there (within body.0) none_there))), kept it.2 known)

  item_step : (slot : Option ℕ) (x : Item-F Item Arm Block Piece) (seen behind : List ℕ) → Ok seen → Ok (item_locals (locals_layer x)) → item_scope (scope_layer x) seen ≡ Some behind → PartsOk (parts arm_test arm_body slot x) × Ok behind
  item_step slot (Declare ds) seen behind known own h = declrs_step ds seen behind known own h
  item_step slot (Assign s) seen behind known own h = let it = simple_step s seen behind known h in (more_there (one it.0) none_there, it.1)
  item_step slot (Do c) seen behind known own h =
      let it = sees_split (call_vars c) seen behind h in
      (more_there (one (called_ok None c (seen_ok seen (call_vars c) known it.0))) none_there, kept it.1 known)
  item_step slot (Nest b) seen behind known own h = let it = block_step b seen behind known own h in (more_there (within it.0) none_there, it.1)
  item_step slot (If arms None) seen behind known own h =
      arms_step arms [] (last_scope None ∷ []) [] seen behind known own h (λ between there none goes. let same : between ≡ behind = cc in (none_there, kept (sym same) there))
  item_step slot (If arms (Some b)) seen behind known own h =
      arms_step arms (Within b ∷ []) (last_scope (Some (block_scope b)) ∷ []) (locals_in b) seen behind known own h
      (λ between there mine goes. let it = final_step b between behind there mine goes in (more_there (within it.0) none_there, it.1))
  item_step slot (While e b) seen behind known own h = let it = test_step e b seen behind known own h in (more_there condition (more_there (within it.0) none_there), it.1)
  item_step slot (For head b) seen behind known own h = for_step slot head b seen behind known own h
  item_step slot Break seen behind known own h = (none_there, kept (sees_split [] seen behind h).1 known)
  item_step slot Continue seen behind known own h = (none_there, kept (sees_split [] seen behind h).1 known)
  item_step slot (Return value at) seen behind known own h =
      let it = sees_split (any_vars right_vars value) seen behind h in
      (returned_ok slot value at (seen_ok seen (any_vars right_vars value) known it.0), kept it.1 known)

  module _ (slot : Option ℕ) where
    piece_step : (p : Piece) (seen behind : List ℕ) → Ok seen → Ok (locals_of_piece p) → scope_of_piece p seen ≡ Some behind → PartsOk (parts arm_test arm_body slot (out-Item (out-Piece p).item)) × Ok behind
    piece_step p seen behind known own h = item_step slot (out-Item (out-Piece p).item) seen behind known (kept (sym (piece_locals_opened p)) own) (sym (piece_opened p seen) ∙ h)

    pieces_at : (ps : List Piece) (i : ℕ) (x : Item-F Item Arm Block Piece) (seen behind : List ℕ) → Ok seen → Ok (from_all (map locals_of_piece ps)) → in_turn (map scope_of_piece ps) seen ≡ Some behind →
        option_map (λ p. out-Item (out-Piece p).item) (slice_get ps i) ≡ Some x → PartsOk (parts arm_test arm_body slot x)
    pieces_at [] i x seen behind known own h e = absurd cc
    pieces_at (p ∷ ps) zero x seen behind known own h e =
        let same : out-Item (out-Piece p).item ≡ x = cc in
        let mine = all_parts ok (locals_of_piece p) (from_all (map locals_of_piece ps)) own in
        let it = turn_split (scope_of_piece p) (map scope_of_piece ps) seen behind h in
        subst (λ (y : Item-F Item Arm Block Piece). PartsOk (parts arm_test arm_body slot y)) same (piece_step p seen it.0 known mine.0 it.1).0
    pieces_at (p ∷ ps) (suc i) x seen behind known own h e =
        let mine = all_parts ok (locals_of_piece p) (from_all (map locals_of_piece ps)) own in
        let it = turn_split (scope_of_piece p) (map scope_of_piece ps) seen behind h in
        pieces_at ps i x it.0 behind (piece_step p seen it.0 known mine.0 it.1).1 mine.1 it.2 e

    -- the parts of an item of a block in scope
    item_ok : (b : Block) (i : ℕ) (x : Item-F Item Arm Block Piece) → InScope b → item_at b i ≡ Some x → PartsOk (parts arm_test arm_body slot x)
    item_ok b i x h e =
        let it = closed_split (in_turn (map scope_of_piece (out-Block b).items)) h.seen h.behind (sym (block_opened b h.seen) ∙ h.goes) in
        pieces_at (out-Block b).items i x h.seen it.0 h.known (kept (sym (block_locals_opened b)) h.own) it.1 e

    ok_at : (ps : List (Part Block)) (k : ℕ) (part : Part Block) → PartsOk ps → slice_get ps k ≡ Some part → PartOk part
    ok_at [] k part none_there e = absurd cc
    ok_at (q ∷ ps) zero part (more_there h rest) e = let same : q ≡ part = cc in subst (λ (x : Part Block). PartOk x) same h
    ok_at (q ∷ ps) (suc k) part (more_there h rest) e = ok_at ps k part rest e

    -- places

    abbrev pub SpotOk : Spot → Type 0
    SpotOk (AtGap g) = Unit {0}
    SpotOk (AtAction i) = CallOk i
    SpotOk Nowhere = Unit {0}

    instruction_ok : (a : Option Instruction) → CallIf a → SpotOk (instruction_spot a)
    instruction_ok None h = tt
    instruction_ok (Some i) h = h

    row_ok : (list : List (Option Instruction)) (k : ℕ) → AllCalls list → SpotOk (row_spot (slice_get list k))
    row_ok [] k h = tt
    row_ok (a ∷ list) zero (more_calls h rest) = instruction_ok a h
    row_ok (a ∷ list) (suc k) (more_calls h rest) = row_ok list k rest

    test_ok : (o : Option Expr) → SpotOk (test_spot o)
    test_ok None = tt
    test_ok (Some e) = tt

    gap_ok : (b : Block) (i : ℕ) (o : Option Piece) → SpotOk (gap_at b i o)
    gap_ok b i (Some q) = tt
    gap_ok b i None = by_place (i == length (out-Block b).items)
      where
        by_place : (t : Bool) → SpotOk (if t then AtGap (out-Block b).last_gap else Nowhere)
        by_place true = tt
        by_place false = tt

    part_ok : (inner : Block → Spot) (path : List ℕ) → ((b : Block) → InScope b → SpotOk (inner b)) → (part : Part Block) → PartOk part → SpotOk (spot_in inner path (Some part))
    part_ok inner [] below (One a) (one h) = instruction_ok a h
    part_ok inner [] below (Row list) h = tt
    part_ok inner [] below (Condition e) h = test_ok (test_at [] e)
    part_ok inner [] below (Within b) (within h) = below b h
    part_ok inner (k ∷ []) below (One a) h = tt
    part_ok inner (k ∷ []) below (Row list) (row h) = row_ok list k h
    part_ok inner (k ∷ []) below (Condition e) h = test_ok (test_at (k ∷ []) e)
    part_ok inner (k ∷ []) below (Within b) (within h) = below b h
    part_ok inner (k ∷ j ∷ path) below (One a) h = tt
    part_ok inner (k ∷ j ∷ path) below (Row list) h = tt
    part_ok inner (k ∷ j ∷ path) below (Condition e) h = test_ok (test_at (k ∷ j ∷ path) e)
    part_ok inner (k ∷ j ∷ path) below (Within b) (within h) = below b h

    nothing_ok : (inner : Block → Spot) (path : List ℕ) → SpotOk (spot_in inner path None)
    nothing_ok inner [] = tt
    nothing_ok inner (k ∷ []) = tt
    nothing_ok inner (k ∷ j ∷ path) = tt

    item_part : (inner : Block → Spot) (path : List ℕ) → ((b : Block) → InScope b → SpotOk (inner b)) → (k : ℕ) (x : Item-F Item Arm Block Piece) → PartsOk (parts arm_test arm_body slot x) →
        (o : Option (Part Block)) → part_of slot k x ≡ o → SpotOk (spot_in inner path o)
    item_part inner path below k x h None is = nothing_ok inner path
    item_part inner path below k x h (Some part) is = part_ok inner path below part (ok_at (parts arm_test arm_body slot x) k part h is)

    at_item : (inner : Block → Spot) (path : List ℕ) → ((b : Block) → InScope b → SpotOk (inner b)) → (b : Block) (i k : ℕ) → InScope b →
        (o : Option (Item-F Item Arm Block Piece)) → item_at b i ≡ o → SpotOk (spot_in inner path (option_and_then (part_of slot k) o))
    at_item inner path below b i k h None is = nothing_ok inner path
    at_item inner path below b i k h (Some x) is = item_part inner path below k x (item_ok b i x h is) (part_of slot k x) refl

    -- what stands at a path in a block in scope
    pub block_ok : (path : List ℕ) (b : Block) → InScope b → SpotOk (spot_of slot path b)
    block_ok [] b h = tt
    block_ok (i ∷ []) b h = gap_ok b i (slice_get (out-Block b).items i)
    block_ok (i ∷ k ∷ path) b h = at_item (spot_of slot path) path (block_ok path) b i k h (item_at b i) refl
