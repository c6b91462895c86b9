-- In a block the frees that are written are what the puts mean, where the puts are in scope at its gaps.
use Rattle.std.proofs.Common.{◌≡◌, ℕ, Bool, true, List, [], ◌∷◌, ◌++◌, length, map, flat_map, slice_get, Option, Some, None, option_map, refl, sym, ap, subst, ◌∙◌, append-nil, append_assoc}
use Rattle.std.specs.List.{list_all}
use Rattle.std.proofs.lemmas.Bool.{and_parts}
use Rattle.std.proofs.lemmas.List.Folds.{list_all-append}
use Rattle.c_tree.specs.Fill.{puts_at}
use Rattle.c_tree.specs.Numbers.{start_locals}
use Rattle.c_tree.specs.Typing.{declarations}
use Rattle.c_tree.specs.declared.choice.Put.{Put}
use Rattle.c_tree.specs.declared.expr.Expr.{Expr as MadeExpr}
use Rattle.c_tree.specs.declared.program.Arm.{Arm as MadeArm, roll-Arm as roll-MadeArm, fold-roll-Arm as fold-roll-MadeArm}
use Rattle.c_tree.specs.declared.program.Block.{Block as MadeBlock, roll-Block as roll-MadeBlock, fold-roll-Block as fold-roll-MadeBlock}
use Rattle.c_tree.specs.declared.program.Declr.{Declr as MadeDeclr}
use Rattle.c_tree.specs.declared.program.Gap.{Gap as MadeGap}
use Rattle.c_tree.specs.declared.program.Home.TheVariants as home
use Rattle.c_tree.specs.declared.program.Item.{Item as MadeItem, Item-F as MadeItem-F, roll-Item as roll-MadeItem, map-Item as map-MadeItem, fold-roll-Item as fold-roll-MadeItem}
use Rattle.c_tree.specs.declared.program.Item.TheOpen as layer
use Rattle.c_tree.specs.declared.program.Item.TheVariants as made
use Rattle.c_tree.specs.declared.program.Piece.{Piece as MadePiece, roll-Piece as roll-MadePiece, fold-roll-Piece as fold-roll-MadePiece}
use Rattle.c_tree.specs.declared.program.Program.{Program}
use Rattle.c_tree.specs.declared.program.Right.{Right as MadeRight}
use Rattle.c_tree.specs.declared.program.VarDef.{VarDef}
use Rattle.c_tree.specs.declared.tree.Arm.{Arm}
use Rattle.c_tree.specs.declared.tree.Block.{Block}
use Rattle.c_tree.specs.declared.tree.Expr.{Expr}
use Rattle.c_tree.specs.declared.tree.Free.{Free}
use Rattle.c_tree.specs.declared.tree.Item.{Item}
use Rattle.c_tree.specs.declared.tree.Item.TheOpen.{Declare, Assign, Do, Nest, While, For, Break, Continue, Return}
use Rattle.c_tree.specs.declared.tree.Item.TheVariants as item
use Rattle.c_tree.specs.declared.tree.Piece.{Piece}
use Rattle.c_tree.specs.declared.tree.Right.{Right}
use Rattle.c_parser.specs.Blocks.{arm, gap, piece}
use Rattle.c_scopes.specs.ScopeAt.{GapScope, Part, Place, arm_layer, arm_place, arms_place, block_layer, block_place, block_place_of, each_place, gap_scope, item_layer, item_part, last_place, piece_layer, piece_part}
use Rattle.c_types.specs.declared.faults.Rule.TheVariants as rule
use Rattle.c_types.specs.declared.judged.Called.{Called}
use Rattle.c_types.specs.declared.judged.Judged.{Judged}
use Rattle.c_types.specs.declared.judged.Judged.TheVariants.{Typed, Broken}
use Rattle.c_types.specs.declared.scope.Nesting.{Nesting}
use Rattle.c_types.specs.declared.scope.Walk.{Walk}
use Rattle.c_types.specs.Blocks.{in_loop, walked_arm, walked_block, walked_gap, walked_head, walked_item, walked_test, within}
use Rattle.c_types.specs.Calls.{walked_call}
use Rattle.c_types.specs.Fits.{unless}
use Rattle.c_types.specs.InTurn.{each}
use Rattle.c_types.specs.Scopes.{closed, noted}
use Rattle.c_types.specs.Statements.{call_item, returned_value, walked_declr, walked_do, walked_return, walked_right, walked_simple}
use Rattle.c_types.proofs.Growing.{block_grows, gap_grows, growing_law, head_grows, test_grows}
use Rattle.c_types.proofs.Rows.{get_first}
use Rattle.c_types.proofs.Standing.{Grows, closes, grows_all, grows_both}
use Rattle.source_patcher.specs.InScope.{have_scope, is_in_scope}
use Rattle.source_patcher.specs.Refilled.{IsRefilledItem, IsRefilledArms, IsRefilledBlock, IsRefilledPieces, behind_gap}
use Rattle.source_patcher.proofs.RefilledWalk.{AreSeen, arm_opens, arms_seen, arms_walk, behind_piece, block_opens, block_seen, if_opens, item_opens, item_seen, piece_opens, pieces_seen, pieces_walk}
use Rattle.source_patcher.proofs.ScopedFrees.{puts_seen}
use Rattle.source_patcher.proofs.Sights.{AllShown, HasRows, all_shown_on, declrs_all, head_all, rows_on}

-- what is made, one level opened

abbrev part_layer : MadeItem-F MadeItem MadeArm MadeBlock MadePiece → Part
part_layer x = item_layer (map-MadeItem MadeItem MadeArm MadeBlock MadePiece Part Place Place Part item_part arm_place block_place piece_part x)

part_opens : (x : MadeItem-F MadeItem MadeArm MadeBlock MadePiece) (m : MadeItem) → roll-MadeItem x ≡ m → item_part m ≡ part_layer x
part_opens x m is = ap item_part (sym is) ∙ fold-roll-MadeItem Part Place Place Part item_layer arm_layer block_layer piece_layer x

if_rows : (xs : List MadeArm) (o : Option MadeBlock) (seen : List ℕ) → (part_layer (layer.If xs o)).gaps seen ≡ arms_place (map arm_place xs) (option_map block_place o) seen
if_rows xs None seen = refl
if_rows xs (Some b) seen = refl

called_declares : (c : Judged Called) → (item_part (call_item c).made).declares ≡ []
called_declares (Typed c) = ap (λ (z : Part). z.declares) (part_opens (layer.Do c.call) (made.Do c.call) (made.rolls-Do c.call))
called_declares (Broken fs) = ap (λ (z : Part). z.declares) (part_opens (layer.Declare []) (made.Declare []) (made.rolls-Declare []))

returned_declares : (r : Option MadeRight) (at : ℕ) → (item_part (made.Return r at)).declares ≡ []
returned_declares r at = ap (λ (z : Part). z.declares) (part_opens (layer.Return r at) (made.Return r at) (made.rolls-Return r at))

return_declares : (n : Nesting) (r : Option Right) (at : ℕ) (w : Walk) → (item_part (walked_return n.returns at r w).1).declares ≡ []
return_declares n None at w = returned_declares None at
return_declares n (Some r) at w = returned_declares (Some (returned_value n.returns at (walked_right r w).1).made) at

module _ (p : Program) (puts : List Put) (at : ℕ) where
  -- what is visible at a place
  pub record Sight (w : Walk) (seen : List ℕ) : Type 0 where
    pub shown : AllShown w seen
    pub rows : HasRows p at w

  -- a walk that breaks no rule, up to some place of the program
  pub record Ends (w : Walk) : Type 0 where
    pub clean : w.faults ≡ []
    pub vars : (k : ℕ) (v : VarDef) → slice_get w.vars k ≡ Some v → slice_get p.vars k ≡ Some v

  abbrev L : Nesting → Walk → Walk → Type 0
  L n w u = Grows (home.Local n.function) w u

  sight_on : (n : Nesting) (w u : Walk) (seen : List ℕ) → L n w u → Sight w seen → Sight u seen
  sight_on n w u seen g s = record { shown = all_shown_on (home.Local n.function) w u g seen s.shown; rows = rows_on p at (home.Local n.function) w u g s.rows }

  ends_back : (n : Nesting) (w u : Walk) → L n w u → Ends u → Ends w
  ends_back n w u g e = record {
    clean = g.clean e.clean;
    vars = λ k v is. e.vars k v (ap (λ (vs : List VarDef). slice_get vs k) g.vars ∙ get_first w.vars g.more_vars k v is);
  }

  abbrev Scoped : List GapScope → Type 0
  Scoped rows = have_scope (declarations p) puts at rows ≡ true

  scoped_parts : (xs ys : List GapScope) → Scoped (xs ++ ys) → Scoped xs × Scoped ys
  scoped_parts xs ys are =
      let f : GapScope → Bool = λ r. list_all (is_in_scope (declarations p) at r.vars) (puts_at puts r.gap) in
      and_parts (list_all f xs) (list_all f ys) (sym (list_all-append f xs ys) ∙ are)

  gap_seen : (w : Walk) (seen : List ℕ) (g : MadeGap) → g.number ≡ w.gaps → Sight w seen → Ends w → Scoped (gap_scope g seen ∷ []) → AreSeen p puts w.scope (puts_at puts w.gaps)
  gap_seen w seen g number s e are =
      let here = (and_parts (list_all (is_in_scope (declarations p) at seen) (puts_at puts g.number)) true are).0 in
      puts_seen p at w e.vars s.rows puts seen s.shown (puts_at puts w.gaps) (ap (λ (k : ℕ). list_all (is_in_scope (declarations p) at seen) (puts_at puts k)) (sym number) ∙ here)

  -- what a part makes grow

  arm_grows : (e : Expr) (b : Block) (n : Nesting) (w : Walk) → L n w (walked_arm (arm e b) n w).0
  arm_grows e b n w =
      let t = walked_test e w in
      subst (λ r. L n w r.0) (sym (arm_opens p puts e b n w)) (growing_law.arms n e w (walked_block b (within n) t.0).0 tt (block_grows b (within n) t.0))

  arms_grow : {n : Nesting} {w : Walk} {arms others : List Arm} {last final : Option Block} → IsRefilledArms p puts n w arms last others final → L n w (arms_walk p puts arms last n w).0
  arms_grow {n} {w} IsRefilledArms.none = grows_all (home.Local n.function) w
  arms_grow {n} {w} (IsRefilledArms.otherwise {b = b} d) = closes (home.Local n.function) w (walked_block b (within n) w).0 (block_grows b (within n) w)
  arms_grow {n} {w} (IsRefilledArms.next e {b = b} {arms = arms} {last = last} d r) =
      let a = (walked_arm (arm e b) n w).0 in
      grows_both (home.Local n.function) w a (arms_walk p puts arms last n a).0 (arm_grows e b n w) (arms_grow r)

  item_grows : {n : Nesting} {w : Walk} {i j : Item} → IsRefilledItem p puts n w i j → (start : ℕ) → L n w (walked_item i start n w).0
  item_grows {n} {w} (IsRefilledItem.declare ds) start =
      subst (λ r. L n w r.0) (sym (item_opens p puts (Declare ds) (item.Declare ds) (item.rolls-Declare ds) start n w)) (growing_law.declares n ds w)
  item_grows {n} {w} (IsRefilledItem.assign s) start =
      subst (λ r. L n w r.0) (sym (item_opens p puts (Assign s) (item.Assign s) (item.rolls-Assign s) start n w)) (growing_law.assigns n s w)
  item_grows {n} {w} (IsRefilledItem.call c) start =
      subst (λ r. L n w r.0) (sym (item_opens p puts (Do c) (item.Do c) (item.rolls-Do c) start n w)) (growing_law.calls n c w)
  item_grows {n} {w} (IsRefilledItem.nest {b = b} d) start =
      subst (λ r. L n w r.0) (sym (item_opens p puts (Nest b) (item.Nest b) (item.rolls-Nest b) start n w)) (growing_law.nests n w (walked_block b (within n) w).0 tt (block_grows b (within n) w))
  item_grows {n} {w} (IsRefilledItem.branch {arms = arms} {last = last} d) start = subst (λ r. L n w r.0) (sym (if_opens p puts arms last start n w)) (arms_grow d)
  item_grows {n} {w} (IsRefilledItem.while e {b = b} d) start =
      let t = (walked_test e w).0 in
      subst (λ r. L n w r.0) (sym (item_opens p puts (While e b) (item.While e b) (item.rolls-While e b) start n w)) (growing_law.loops n e w (walked_block b (in_loop n) t).0 tt (block_grows b (in_loop n) t))
  item_grows {n} {w} (IsRefilledItem.for h {b = b} d) start =
      let s = (walked_head (within n) h w).0 in
      subst (λ r. L n w r.0) (sym (item_opens p puts (For h b) (item.For h b) (item.rolls-For h b) start n w))
      (growing_law.loops_for n h w (walked_block b (in_loop (within n)) s).0 tt (block_grows b (in_loop (within n)) s))
  item_grows {n} {w} IsRefilledItem.break start = subst (λ r. L n w r.0) (sym (item_opens p puts Break item.Break item.rolls-Break start n w)) (growing_law.breaks n start w)
  item_grows {n} {w} IsRefilledItem.continue start = subst (λ r. L n w r.0) (sym (item_opens p puts Continue item.Continue item.rolls-Continue start n w)) (growing_law.continues n start w)
  item_grows {n} {w} (IsRefilledItem.return r word) start =
      subst (λ r. L n w r.0) (sym (item_opens p puts (Return r word) (item.Return r word) (item.rolls-Return r word) start n w)) (growing_law.returns n word r w)

  pieces_grow : {n : Nesting} {w : Walk} {ps qs : List Piece} {fs gs : List Free} → IsRefilledPieces p puts n w ps fs qs gs → L n w (pieces_walk p puts ps fs n w).0
  pieces_grow {n} {w} (IsRefilledPieces.last {frees = frees}) = gap_grows (home.Local n.function) (gap frees) w
  pieces_grow {n} {w} (IsRefilledPieces.more {fs = last} {i = i} {ps = ps} frees start end start' end' d r) =
      let h = home.Local n.function in
      let v = behind_gap frees w in
      let a = (walked_item i start n v).0 in
      let u = (pieces_walk p puts ps last n a).0 in
      subst (λ q. L n w (behind_piece p puts ps last n q).0) (sym (piece_opens p puts frees i start end n w))
      (grows_both h w v u (gap_grows h (gap frees) w) (grows_both h v a u (item_grows d start) (pieces_grow r)))

  -- what is visible behind an item

  abbrev ItemSight : Walk × MadeItem → List ℕ → Type 0
  ItemSight r seen = Sight r.0 (seen ++ (item_part r.1).declares)

  item_still : {n : Nesting} {w : Walk} {i j : Item} → IsRefilledItem p puts n w i j → (start : ℕ) (r : Walk × MadeItem) → walked_item i start n w ≡ r → (item_part r.1).declares ≡ [] → (seen : List ℕ) → Sight w seen → ItemSight (walked_item i start n w) seen
  item_still {n} {w} {i} d start r is none seen s =
      let a = walked_item i start n w in
      let same : seen ++ (item_part a.1).declares ≡ seen = ap (λ (q : Walk × MadeItem). seen ++ (item_part q.1).declares) is ∙ ap (λ xs. seen ++ xs) none ∙ append-nil seen in
      subst (Sight a.0) (sym same) (sight_on n w a.0 seen (item_grows d start) s)

  quiet : (x : MadeItem-F MadeItem MadeArm MadeBlock MadePiece) (m : MadeItem) → roll-MadeItem x ≡ m → (part_layer x).declares ≡ [] → (item_part m).declares ≡ []
  quiet x m is none = ap (λ (z : Part). z.declares) (part_opens x m is) ∙ none

  item_sight : {n : Nesting} {w : Walk} {i j : Item} (d : IsRefilledItem p puts n w i j) (start : ℕ) (seen : List ℕ) → Sight w seen → (walked_item i start n w).0.faults ≡ [] → ItemSight (walked_item i start n w) seen
  item_sight {n} {w} (IsRefilledItem.declare ds) start seen s clean =
      let r = each (walked_declr n) ds w in
      let is = item_opens p puts (Declare ds) (item.Declare ds) (item.rolls-Declare ds) start n w in
      let all = declrs_all n ds w seen s.shown (sym (ap (λ q. q.0.faults) is) ∙ clean) in
      let same : map (λ (x : MadeDeclr). x.var) r.1 ≡ (item_part (made.Declare r.1)).declares = sym (ap (λ (z : Part). z.declares) (part_opens (layer.Declare r.1) (made.Declare r.1) (made.rolls-Declare r.1))) in
      subst (λ q. ItemSight q seen) (sym is) (record { shown = subst (λ xs. AllShown r.0 (seen ++ xs)) same all; rows = rows_on p at (home.Local n.function) w r.0 (growing_law.declares n ds w) s.rows })
  item_sight {n} {w} (IsRefilledItem.assign x) start seen s clean =
      let m = (walked_simple x w).1 in
      item_still (IsRefilledItem.assign x) start ((walked_simple x w).0, made.Assign m) (item_opens p puts (Assign x) (item.Assign x) (item.rolls-Assign x) start n w) (quiet (layer.Assign m) (made.Assign m) (made.rolls-Assign m) refl) seen s
  item_sight {n} {w} (IsRefilledItem.call c) start seen s clean =
      item_still (IsRefilledItem.call c) start (walked_do c w) (item_opens p puts (Do c) (item.Do c) (item.rolls-Do c) start n w) (called_declares (walked_call c w).1) seen s
  item_sight {n} {w} (IsRefilledItem.nest {b = b} d) start seen s clean =
      let u = walked_block b (within n) w in
      item_still (IsRefilledItem.nest d) start (closed (length w.scope.names) u.0, made.Nest u.1) (item_opens p puts (Nest b) (item.Nest b) (item.rolls-Nest b) start n w) (quiet (layer.Nest u.1) (made.Nest u.1) (made.rolls-Nest u.1) refl) seen s
  item_sight {n} {w} (IsRefilledItem.branch {arms = arms} {last = last} d) start seen s clean =
      let u = arms_walk p puts arms last n w in
      item_still (IsRefilledItem.branch d) start (u.0, made.If u.1.0 u.1.1) (if_opens p puts arms last start n w) (quiet (layer.If u.1.0 u.1.1) (made.If u.1.0 u.1.1) (made.rolls-If u.1.0 u.1.1) refl) seen s
  item_sight {n} {w} (IsRefilledItem.while e {b = b} d) start seen s clean =
      let t = walked_test e w in
      let u = walked_block b (in_loop n) t.0 in
      item_still (IsRefilledItem.while e d) start (closed (length t.0.scope.names) u.0, made.While t.1 u.1) (item_opens p puts (While e b) (item.While e b) (item.rolls-While e b) start n w) (quiet (layer.While t.1 u.1) (made.While t.1 u.1) (made.rolls-While t.1 u.1) refl) seen s
  item_sight {n} {w} (IsRefilledItem.for h {b = b} d) start seen s clean =
      let t = walked_head (within n) h w in
      let u = walked_block b (in_loop (within n)) t.0 in
      item_still (IsRefilledItem.for h d) start (closed (length w.scope.names) (closed (length t.0.scope.names) u.0), made.For t.1 u.1) (item_opens p puts (For h b) (item.For h b) (item.rolls-For h b) start n w) (quiet (layer.For t.1 u.1) (made.For t.1 u.1) (made.rolls-For t.1 u.1) refl) seen s
  item_sight {n} {w} IsRefilledItem.break start seen s clean =
      item_still IsRefilledItem.break start (noted (unless n.in_loop rule.Jump start) w, made.Break) (item_opens p puts Break item.Break item.rolls-Break start n w) (quiet layer.Break made.Break made.rolls-Break refl) seen s
  item_sight {n} {w} IsRefilledItem.continue start seen s clean =
      item_still IsRefilledItem.continue start (noted (unless n.in_loop rule.Jump start) w, made.Continue) (item_opens p puts Continue item.Continue item.rolls-Continue start n w) (quiet layer.Continue made.Continue made.rolls-Continue refl) seen s
  item_sight {n} {w} (IsRefilledItem.return r word) start seen s clean =
      item_still (IsRefilledItem.return r word) start (walked_return n.returns word r w) (item_opens p puts (Return r word) (item.Return r word) (item.rolls-Return r word) start n w) (return_declares n r word w) seen s

  -- gaps and blocks

  abbrev piece_rows : Walk × (List MadePiece × MadeGap) → List ℕ → List GapScope
  piece_rows r seen = block_place_of (map piece_part r.1.0) r.1.1 seen

  abbrev arm_rows : Walk × (List MadeArm × Option MadeBlock) → List ℕ → List GapScope
  arm_rows r seen = arms_place (map arm_place r.1.0) (option_map block_place r.1.1) seen

  block_rows : (ps : List MadePiece) (g : MadeGap) (braced : Bool) (start end : ℕ) → block_place (roll-MadeBlock (record { items = ps; last_gap = g; braced = braced; start = start; end = end })) ≡ block_place_of (map piece_part ps) g
  block_rows ps g braced start end = fold-roll-MadeBlock Part Place Place Part item_layer arm_layer block_layer piece_layer (record { items = ps; last_gap = g; braced = braced; start = start; end = end })

  piece_rolls : (g : MadeGap) (i : MadeItem) (start end : ℕ) → piece_part (roll-MadePiece (record { gap = g; item = i; start = start; end = end })) ≡ record { declares = (item_part i).declares; gaps = λ seen. gap_scope g seen ∷ (item_part i).gaps seen }
  piece_rolls g i start end = fold-roll-MadePiece Part Place Place Part item_layer arm_layer block_layer piece_layer (record { gap = g; item = i; start = start; end = end })

  arm_rolls : (test : MadeExpr) (b : MadeBlock) → arm_place (roll-MadeArm (record { test = test; body = b })) ≡ block_place b
  arm_rolls test b = fold-roll-MadeArm Part Place Place Part item_layer arm_layer block_layer piece_layer (record { test = test; body = b })

  -- the rows of an item, by its layer
  item_rows : (i : Item) (start : ℕ) (n : Nesting) (w u : Walk) (x : MadeItem-F MadeItem MadeArm MadeBlock MadePiece) (m : MadeItem) (seen : List ℕ) → walked_item i start n w ≡ (u, m) → roll-MadeItem x ≡ m
      → Scoped ((item_part (walked_item i start n w).1).gaps seen) → Scoped ((part_layer x).gaps seen)
  item_rows i start n w u x m seen is rolls are = subst Scoped (ap (λ (q : Walk × MadeItem). (item_part q.1).gaps seen) is ∙ ap (λ (z : Part). z.gaps seen) (part_opens x m rolls)) are

  -- behind a scope that ends, and behind an item by what the walk through it is
  ends_inside : (k : ℕ) (u : Walk) → Ends (closed k u) → Ends u
  ends_inside k u e = record { clean = e.clean; vars = e.vars }

  ends_as : (i : Item) (start : ℕ) (n : Nesting) (w : Walk) (r : Walk × MadeItem) → walked_item i start n w ≡ r → Ends (walked_item i start n w).0 → Ends r.0
  ends_as i start n w r is e = subst (λ (q : Walk × MadeItem). Ends q.0) is e

  mutual
    unfolding item_seen

    item_scoped : {n : Nesting} {w : Walk} {i j : Item} (d : IsRefilledItem p puts n w i j) (start : ℕ) (seen : List ℕ) → Sight w seen → Ends (walked_item i start n w).0 → Scoped ((item_part (walked_item i start n w).1).gaps seen) → item_seen p puts d
    item_scoped (IsRefilledItem.declare ds) start seen s e are = tt
    item_scoped (IsRefilledItem.assign x) start seen s e are = tt
    item_scoped (IsRefilledItem.call c) start seen s e are = tt
    item_scoped {n} {w} (IsRefilledItem.nest {b = b} d) start seen s e are =
        let k = length w.scope.names in
        let u = walked_block b (within n) w in
        let is = item_opens p puts (Nest b) (item.Nest b) (item.rolls-Nest b) start n w in
        block_scoped d seen s (ends_inside k u.0 (ends_as (item.Nest b) start n w (closed k u.0, made.Nest u.1) is e))
        (item_rows (item.Nest b) start n w (closed k u.0) (layer.Nest u.1) (made.Nest u.1) seen is (made.rolls-Nest u.1) are)
    item_scoped {n} {w} (IsRefilledItem.branch {arms = arms} {last = last} d) start seen s e are =
        let u = arms_walk p puts arms last n w in
        let is = if_opens p puts arms last start n w in
        arms_scoped d seen s (ends_as (item.If arms last) start n w (u.0, made.If u.1.0 u.1.1) is e)
        (subst Scoped (if_rows u.1.0 u.1.1 seen) (item_rows (item.If arms last) start n w u.0 (layer.If u.1.0 u.1.1) (made.If u.1.0 u.1.1) seen is (made.rolls-If u.1.0 u.1.1) are))
    item_scoped {n} {w} (IsRefilledItem.while x {b = b} d) start seen s e are =
        let t = walked_test x w in
        let k = length t.0.scope.names in
        let u = walked_block b (in_loop n) t.0 in
        let is = item_opens p puts (While x b) (item.While x b) (item.rolls-While x b) start n w in
        block_scoped d seen (sight_on n w t.0 seen (test_grows (home.Local n.function) x w) s) (ends_inside k u.0 (ends_as (item.While x b) start n w (closed k u.0, made.While t.1 u.1) is e))
        (item_rows (item.While x b) start n w (closed k u.0) (layer.While t.1 u.1) (made.While t.1 u.1) seen is (made.rolls-While t.1 u.1) are)
    item_scoped {n} {w} (IsRefilledItem.for h {b = b} d) start seen s e are =
        let t = walked_head (within n) h w in
        let k = length w.scope.names in
        let l = length t.0.scope.names in
        let u = walked_block b (in_loop (within n)) t.0 in
        let is = item_opens p puts (For h b) (item.For h b) (item.rolls-For h b) start n w in
        let end = ends_inside l u.0 (ends_inside k (closed l u.0) (ends_as (item.For h b) start n w (closed k (closed l u.0), made.For t.1 u.1) is e)) in
        let here = ends_back (in_loop (within n)) t.0 u.0 (block_grows b (in_loop (within n)) t.0) end in
        block_scoped d (seen ++ flat_map start_locals t.1.start)
        (record { shown = head_all (within n) h w seen s.shown here.clean; rows = rows_on p at (home.Local n.function) w t.0 (head_grows (within n) h w) s.rows }) end
        (item_rows (item.For h b) start n w (closed k (closed l u.0)) (layer.For t.1 u.1) (made.For t.1 u.1) seen is (made.rolls-For t.1 u.1) are)
    item_scoped IsRefilledItem.break start seen s e are = tt
    item_scoped IsRefilledItem.continue start seen s e are = tt
    item_scoped (IsRefilledItem.return r word) start seen s e are = tt

    arms_scoped : {n : Nesting} {w : Walk} {arms others : List Arm} {last final : Option Block} (d : IsRefilledArms p puts n w arms last others final) (seen : List ℕ) → Sight w seen → Ends (arms_walk p puts arms last n w).0
        → Scoped (arm_rows (arms_walk p puts arms last n w) seen) → arms_seen p puts d
    arms_scoped IsRefilledArms.none seen s e are = tt
    arms_scoped {n} {w} (IsRefilledArms.otherwise {b = b} d) seen s e are = block_scoped d seen s (ends_inside (length w.scope.names) (walked_block b (within n) w).0 e) are
    arms_scoped {n} {w} {last = last} (IsRefilledArms.next x {b = b} {arms = arms} d r) seen s e are =
        let a = walked_arm (arm x b) n w in
        let t = walked_test x w in
        let k = length t.0.scope.names in
        let u = walked_block b (within n) t.0 in
        let is = arm_opens p puts x b n w in
        let rest = arms_walk p puts arms last n a.0 in
        let others = arm_rows rest seen in
        let here = ends_back n a.0 rest.0 (arms_grow r) e in
        let rows : arm_rows (arms_walk p puts (arm x b ∷ arms) last n w) seen ≡ block_place u.1 seen ++ others =
        append_assoc (arm_place a.1 seen) (each_place (map arm_place rest.1.0) seen) (last_place (option_map block_place rest.1.1) seen)
        ∙ ap (λ (q : Walk × MadeArm). arm_place q.1 seen ++ others) is ∙ ap (λ (z : Place). z seen ++ others) (arm_rolls t.1 u.1) in
        let parts = scoped_parts (block_place u.1 seen) others (subst Scoped rows are) in (
          block_scoped d seen (sight_on n w t.0 seen (test_grows (home.Local n.function) x w) s) (ends_inside k u.0 (subst (λ (q : Walk × MadeArm). Ends q.0) is here)) parts.0,
          arms_scoped r seen (sight_on n w a.0 seen (arm_grows x b n w) s) e parts.1,
        )

    pub block_scoped : {n : Nesting} {w : Walk} {b c : Block} (d : IsRefilledBlock p puts n w b c) (seen : List ℕ) → Sight w seen → Ends (walked_block b n w).0 → Scoped (block_place (walked_block b n w).1 seen) → block_seen p puts d
    block_scoped {n} {w} (IsRefilledBlock.pieces {ps = ps} {fs = fs} braced braced' start end start' end' d) seen s e are =
        let is = block_opens p puts ps fs braced start end n w in
        let r = pieces_walk p puts ps fs n w in
        pieces_scoped d seen s (subst (λ (q : Walk × MadeBlock). Ends q.0) is e)
        (subst Scoped (ap (λ (q : Walk × MadeBlock). block_place q.1 seen) is ∙ ap (λ (z : Place). z seen) (block_rows r.1.0 r.1.1 braced start end)) are)

    pieces_scoped : {n : Nesting} {w : Walk} {ps qs : List Piece} {fs gs : List Free} (d : IsRefilledPieces p puts n w ps fs qs gs) (seen : List ℕ) → Sight w seen → Ends (pieces_walk p puts ps fs n w).0 → Scoped (piece_rows (pieces_walk p puts ps fs n w) seen)
        → pieces_seen p puts d
    pieces_scoped {n} {w} (IsRefilledPieces.last {frees = frees}) seen s e are =
        gap_seen w seen (walked_gap (gap frees) w).1 refl s (ends_back n w (behind_gap frees w) (gap_grows (home.Local n.function) (gap frees) w) e) are
    pieces_scoped {n} {w} (IsRefilledPieces.more {fs = last} {i = i} {ps = ps} frees start end start' end' d r) seen s e are =
        let l = home.Local n.function in
        let g = walked_gap (gap frees) w in
        let a = walked_item i start n g.0 in
        let is = piece_opens p puts frees i start end n w in
        let rest = pieces_walk p puts ps last n a.0 in
        let x = item_part a.1 in
        let end_rest : Ends rest.0 = subst (λ (q : Walk × MadePiece). Ends (behind_piece p puts ps last n q).0) is e in
        let at_item = ends_back n a.0 rest.0 (pieces_grow r) end_rest in
        let at_gap = ends_back n g.0 a.0 (item_grows d start) at_item in
        let before = ends_back n w g.0 (gap_grows l (gap frees) w) at_gap in
        let more = piece_rows rest (seen ++ x.declares) in
        let rows : piece_rows (pieces_walk p puts (piece frees i start end ∷ ps) last n w) seen ≡ (gap_scope g.1 seen ∷ x.gaps seen) ++ more =
        ap (λ (q : Walk × MadePiece). piece_rows (behind_piece p puts ps last n q) seen) is
        ∙ ap (λ (z : Part). z.gaps seen ++ piece_rows rest (seen ++ z.declares)) (piece_rolls g.1 a.1 start end) in
        let whole : Scoped ((gap_scope g.1 seen ∷ []) ++ (x.gaps seen ++ more)) = subst Scoped rows are in
        let parts = scoped_parts (gap_scope g.1 seen ∷ []) (x.gaps seen ++ more) whole in
        let others = scoped_parts (x.gaps seen) more parts.1 in
        let here = sight_on n w g.0 seen (gap_grows l (gap frees) w) s in (
          gap_seen w seen g.1 refl s before parts.0,
          item_scoped d start seen here at_item others.0,
          pieces_scoped r (seen ++ x.declares) (item_sight d start seen here at_item.clean) end_rest others.1,
        )
