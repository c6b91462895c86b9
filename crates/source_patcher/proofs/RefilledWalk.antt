-- The walk through a refilled block does what the walk through the block does, and makes the filled block but for offsets and
-- braces; where it breaks no rule, and the frees that are written are what the puts mean.
use Rattle.std.proofs.Common.{◌≡◌, ℕ, ◌+◌, Bool, true, false, ◌==◌, List, [], ◌∷◌, length, map, Option, Some, None, option_map, refl, sym, ap, ◌∙◌, append-nil}
use Rattle.std.proofs.lemmas.Bool.{and_parts, eqb-true}
use Rattle.c_tree.specs.Alike.{bare_expr, bare_free, bare_gap, bare_item, bare_layer}
use Rattle.c_tree.specs.Fill.{filled, pointing, puts_at, free_of as fill_free}
use Rattle.c_tree.specs.declared.choice.Put.{Put}
use Rattle.c_tree.specs.declared.expr.Expr.{Expr as MadeExpr, Expr-F, out-Expr, roll-Expr, roll-out-Expr, map-Expr, fold-roll-Expr}
use Rattle.c_tree.specs.declared.expr.Expr.TheOpen as shape
use Rattle.c_tree.specs.declared.expr.Expr.TheVariants as expr
use Rattle.c_tree.specs.declared.program.Arm.{Arm as MadeArm, roll-Arm as roll-MadeArm}
use Rattle.c_tree.specs.declared.program.Block.{Block as MadeBlock, roll-Block as roll-MadeBlock}
use Rattle.c_tree.specs.declared.program.Free.{Free as MadeFree}
use Rattle.c_tree.specs.declared.program.FunDef.{FunDef}
use Rattle.c_tree.specs.declared.program.ForHead.{ForHead as MadeHead}
use Rattle.c_tree.specs.declared.program.Gap.{Gap as MadeGap}
use Rattle.c_tree.specs.declared.program.Home.TheVariants as home
use Rattle.c_tree.specs.declared.program.Item.{Item as MadeItem, Item-F as MadeItem-F, roll-Item as roll-MadeItem}
use Rattle.c_tree.specs.declared.program.Item.TheOpen as layer
use Rattle.c_tree.specs.declared.program.Item.TheVariants as made
use Rattle.c_tree.specs.declared.program.Piece.{Piece as MadePiece, roll-Piece as roll-MadePiece}
use Rattle.c_tree.specs.declared.program.Program.{Program}
use Rattle.c_tree.specs.declared.tree.Arm.{Arm, out-Arm, fold-roll-Arm, fold_out-Arm}
use Rattle.c_tree.specs.declared.tree.Block.{Block, fold-roll-Block}
use Rattle.c_tree.specs.declared.tree.Expr.{Expr}
use Rattle.c_tree.specs.declared.tree.Free.{Free}
use Rattle.c_tree.specs.declared.tree.Item.{Item, Item-F, roll-Item, fold-roll-Item, map-Item}
use Rattle.c_tree.specs.declared.tree.Item.TheOpen.{Declare, Assign, Do, Nest, If, While, For, Break, Continue, Return}
use Rattle.c_tree.specs.declared.tree.Item.TheVariants as item
use Rattle.c_tree.specs.declared.tree.Piece.{Piece, fold-roll-Piece}
use Rattle.c_tree.proofs.Rebuilds.{Layers, Maps, Rebuilds, in_item, rebuilt, rebuilt_rebuilds}
use Rattle.c_parser.specs.Blocks.{arm, block, gap, piece}
use Rattle.c_types.specs.declared.faults.Fault.{Fault}
use Rattle.c_types.specs.declared.faults.Rule.TheVariants as rule
use Rattle.c_types.specs.declared.judged.Called.{Called}
use Rattle.c_types.specs.declared.judged.Judged.{Judged}
use Rattle.c_types.specs.declared.judged.Judged.TheVariants.{Typed, Broken}
use Rattle.c_types.specs.declared.scope.Nesting.{Nesting}
use Rattle.c_types.specs.declared.scope.Scope.{Scope}
use Rattle.c_types.specs.declared.scope.Walk.{Walk}
use Rattle.c_types.specs.Blocks.{ItemWalk, ArmWalk, BlockWalk, PieceWalk, assigns, item_walk, arm_walk, block_walk, piece_walk, at_nesting, declares, free_of, in_loop, inner, walked_arm, walked_block, walked_free, walked_gap, walked_head, walked_item, walked_piece, walked_test, within}
use Rattle.c_types.specs.Fits.{unless}
use Rattle.c_types.specs.InTurn.{each, optional}
use Rattle.c_types.specs.Judged.{checked}
use Rattle.c_types.specs.Scopes.{closed, noted}
use Rattle.c_tree.specs.declared.tree.Right.{Right}
use Rattle.c_types.specs.Statements.{call_item, returned_value, walked_declr, walked_right, walked_do, walked_return, walked_simple}
use Rattle.c_types.specs.Calls.{walked_call}
use Rattle.c_types.proofs.Growing.{block_grows, declr_grows, do_grows, each_grows, free_grows, gap_grows, head_grows, return_grows, simple_grows, test_grows}
use Rattle.c_types.proofs.Numbering.{first_empty}
use Rattle.c_types.proofs.NumberingCalls.{second_empty}
use Rattle.source_patcher.specs.Gaps.{are_put, is_field, is_freed, is_put, is_variable}
use Rattle.source_patcher.specs.Refilled.{IsRefilledItem, IsRefilledArms, IsRefilledBlock, IsRefilledPieces, behind_gap, refilled, refilled_by, stays, written_free}
use Rattle.source_patcher.proofs.Framed.{IsFramed, declr_framed, do_framed, each_framed, framed, framed_with, free_framed, head_framed, return_framed, simple_framed}

-- an empty list of faults behind a part
no_faults : (fs : List Fault) (w : Walk) → fs ≡ [] → noted fs w ≡ w
no_faults fs w none = ap (λ gs. noted gs w) none ∙ ap (λ gs. record w { faults = gs }) (append-nil w.faults)

-- the frees of a gap that break no rule leave the walk as it is
frees_quiet : (frees : List Free) (w : Walk) → (each walked_free frees w).0.faults ≡ [] → (each walked_free frees w).0 ≡ w
frees_quiet [] w clean = refl
frees_quiet (f ∷ fs) w clean =
    let v = (walked_free f w).0 in
    let here : v.faults ≡ [] = (each_grows (home.Local 0) walked_free (free_grows (home.Local 0)) fs v).clean clean in
    frees_quiet fs v clean ∙ no_faults (free_of w.scope f).faults w (second_empty w.faults (free_of w.scope f).faults here)

module _ (p : Program) (puts : List Put) where
  -- the written free of a put is what the put means, where this is visible
  pub record IsSeen (s : Scope) (q : Put) : Type 0 where
    pub made : MadeFree
    pub is : free_of s (written_free p q) ≡ checked made []
    pub alike : bare_free made ≡ bare_free (fill_free q)

  abbrev pub AreSeen : Scope → List Put → Type 0
  AreSeen s [] = Unit {0}
  AreSeen s (q ∷ qs) = IsSeen s q × AreSeen s qs

  written_walks : (qs : List Put) (w : Walk) → AreSeen w.scope qs → let r = each walked_free (map (written_free p) qs) w in (r.0 ≡ w) × (map bare_free r.1 ≡ map bare_free (map fill_free qs))
  written_walks [] w seen = (refl, refl)
  written_walks (q ∷ qs) w seen =
      let c = free_of w.scope (written_free p q) in
      let fs = map (written_free p) qs in
      let same : noted c.faults w ≡ w = no_faults c.faults w (ap (λ x. x.faults) seen.0.is) in
      let rest = written_walks qs w seen.1 in
      let whole : Walk → List MadeFree = λ v. (each walked_free fs v).1 in (
        ap (λ v. (each walked_free fs v).0) same ∙ rest.0,
        ap (λ v. bare_free c.made ∷ map bare_free (whole v)) same ∙ ap (λ b. b ∷ map bare_free (whole w)) (ap (λ x. bare_free x.made) seen.0.is ∙ seen.0.alike) ∙ ap (λ bs. bare_free (fill_free q) ∷ bs) rest.1,
      )

  -- what is made of a gap, filled and without offsets
  abbrev pub filled_gap : MadeGap → MadeGap
  filled_gap g = bare_gap (filled puts g)

  record GapWalks (fs : List FunDef) (r s : Walk × MadeGap) : Type 0 where
    walk : s.0 ≡ framed fs r.0
    made : bare_gap s.1 ≡ filled_gap r.1

  abbrev pub bare_layers : Layers
  bare_layers = record {
    item = bare_item;
    arm = λ a. record a { test = bare_expr a.test };
    block = λ b. record b { last_gap = bare_gap b.last_gap; braced = false; start = 0; end = 0 };
    piece = λ q. record q { gap = bare_gap q.gap; start = 0; end = 0 };
  }

  abbrev pub filled_layers : Layers
  filled_layers = record {
    item = bare_item;
    arm = λ a. record a { test = bare_expr a.test };
    block = λ b. record b { last_gap = filled_gap b.last_gap; braced = false; start = 0; end = 0 };
    piece = λ q. record q { gap = filled_gap q.gap; start = 0; end = 0 };
  }

  abbrev pub barely : Maps
  barely = rebuilt bare_layers

  abbrev pub fully : Maps
  fully = rebuilt filled_layers

  pub bare_opens : Rebuilds barely bare_layers
  bare_opens = rebuilt_rebuilds bare_layers

  pub full_opens : Rebuilds fully filled_layers
  full_opens = rebuilt_rebuilds filled_layers

  -- an old free that is what a put means

  bare_rolls : (l : Expr-F MadeExpr) → bare_expr (roll-Expr l) ≡ roll-Expr (bare_layer (map-Expr MadeExpr MadeExpr bare_expr l))
  bare_rolls = fold-roll-Expr MadeExpr (λ l. roll-Expr (bare_layer l))

  variable_layer : (x : ℕ) (l : Expr-F MadeExpr) → is_variable x l ≡ true → bare_expr (roll-Expr l) ≡ bare_expr (expr.Var x 0)
  variable_layer x (shape.Var y at) is =
      bare_rolls (shape.Var y at) ∙ ap (λ z. roll-Expr (shape.Var z 0)) (eqb-true y x is) ∙ sym (bare_rolls (shape.Var x 0)) ∙ ap bare_expr (expr.rolls-Var x 0)
  variable_layer x (shape.Const n at) is = absurd cc
  variable_layer x (shape.Null at) is = absurd cc
  variable_layer x (shape.Field e f at) is = absurd cc
  variable_layer x (shape.Deref e at) is = absurd cc
  variable_layer x (shape.Index e i at) is = absurd cc
  variable_layer x (shape.Unary s e at) is = absurd cc
  variable_layer x (shape.Binary o a b at) is = absurd cc

  variable_alike : (x : ℕ) (e : MadeExpr) → is_variable x (out-Expr e) ≡ true → bare_expr e ≡ bare_expr (expr.Var x 0)
  variable_alike x e is = ap bare_expr (sym (roll-out-Expr e)) ∙ variable_layer x (out-Expr e) is

  field_layer : (x f : ℕ) (l : Expr-F MadeExpr) → is_field x f l ≡ true → bare_expr (roll-Expr l) ≡ bare_expr (expr.Field (expr.Var x 0) f 0)
  field_layer x f (shape.Field e g at) is =
      let parts = and_parts (g == f) (is_variable x (out-Expr e)) is in
      bare_rolls (shape.Field e g at) ∙ ap (λ b. roll-Expr (shape.Field b g 0)) (variable_alike x e parts.1) ∙ ap (λ h. roll-Expr (shape.Field (bare_expr (expr.Var x 0)) h 0)) (eqb-true g f parts.0)
      ∙ sym (bare_rolls (shape.Field (expr.Var x 0) f 0)) ∙ ap bare_expr (expr.rolls-Field (expr.Var x 0) f 0)
  field_layer x f (shape.Var y at) is = absurd cc
  field_layer x f (shape.Const n at) is = absurd cc
  field_layer x f (shape.Null at) is = absurd cc
  field_layer x f (shape.Deref e at) is = absurd cc
  field_layer x f (shape.Index e i at) is = absurd cc
  field_layer x f (shape.Unary s e at) is = absurd cc
  field_layer x f (shape.Binary o a b at) is = absurd cc

  freed_alike : (x : ℕ) (f : Option ℕ) (e : MadeExpr) → is_freed f x (out-Expr e) ≡ true → bare_expr e ≡ bare_expr (pointing x f)
  freed_alike x None e is = variable_alike x e is
  freed_alike x (Some f) e is = ap bare_expr (sym (roll-out-Expr e)) ∙ field_layer x f (out-Expr e) is

  put_alike : (frees : List MadeFree) (qs : List Put) → are_put frees qs ≡ true → map bare_free frees ≡ map bare_free (map fill_free qs)
  put_alike [] [] same = refl
  put_alike [] (q ∷ qs) same = absurd cc
  put_alike (f ∷ fs) [] same = absurd cc
  put_alike (f ∷ fs) (q ∷ qs) same =
      let parts = and_parts (is_put f q) (are_put fs qs) same in
      ap (λ (e : MadeExpr). record { expr = e; start = 0; end = 0 } ∷ map bare_free fs) (freed_alike q.var q.field f.expr parts.0)
      ∙ ap (λ bs. bare_free (fill_free q) ∷ bs) (put_alike fs qs parts.1)

  -- a gap
  gap_case : (b : Bool) (frees : List Free) (w : Walk) (fs : List FunDef) → stays puts frees w ≡ b → (walked_gap (gap frees) w).0.faults ≡ [] → AreSeen w.scope (puts_at puts w.gaps)
      → GapWalks fs (walked_gap (gap frees) w) (walked_gap (gap (refilled_by p b frees (puts_at puts w.gaps))) (framed fs w))
  gap_case true frees w fs stay clean seen =
      let v = record w { gaps = w.gaps + 1 } in
      let same = each_framed walked_free free_framed frees fs v in
      record {
        walk = ap (λ r. r.0) same;
        made = ap (λ r. record { number = w.gaps; frees = map bare_free r.1 }) same ∙ ap (λ gs. record { number = w.gaps; frees = gs }) (put_alike (each walked_free frees v).1 (puts_at puts w.gaps) stay);
      }
  gap_case false frees w fs stay clean seen =
      let v = record w { gaps = w.gaps + 1 } in
      let new = written_walks (puts_at puts w.gaps) (framed fs v) seen in
      record {
        walk = new.0 ∙ ap (framed fs) (sym (frees_quiet frees v clean));
        made = ap (λ gs. record { number = w.gaps; frees = gs }) new.1;
      }

  gap_walks : (frees : List Free) (w : Walk) (fs : List FunDef) → (walked_gap (gap frees) w).0.faults ≡ [] → AreSeen w.scope (puts_at puts w.gaps)
      → GapWalks fs (walked_gap (gap frees) w) (walked_gap (gap (refilled p puts frees w)) (framed fs w))
  gap_walks frees w fs clean seen = gap_case (stays puts frees w) frees w fs refl clean seen

  -- items without bodies

  record ItemWalks (fs : List FunDef) (r s : Walk × MadeItem) : Type 0 where
    walk : s.0 ≡ framed fs r.0
    made : barely.item s.1 ≡ fully.item r.1

  leaf_alike : (x : MadeItem-F MadeItem MadeArm MadeBlock MadePiece) (m : MadeItem) → in_item barely x ≡ in_item fully x → roll-MadeItem x ≡ m → barely.item m ≡ fully.item m
  leaf_alike x m same is =
      ap barely.item (sym is) ∙ bare_opens.item x ∙ ap (λ y. roll-MadeItem (bare_item y)) same ∙ sym (full_opens.item x) ∙ ap fully.item is

  leaf_walks : (f : Walk → Walk × MadeItem) (fs : List FunDef) (w : Walk) (r s : Walk × MadeItem) → IsFramed f → r ≡ f w → s ≡ f (framed fs w) → barely.item (f w).1 ≡ fully.item (f w).1 → ItemWalks fs r s
  leaf_walks f fs w r s whole is also same =
      let joined : s ≡ framed_with fs (f w) = also ∙ whole fs w in
      record { walk = ap (λ q. q.0) joined ∙ ap (λ q. framed fs q.0) (sym is); made = ap (λ q. barely.item q.1) joined ∙ same ∙ ap (λ q. fully.item q.1) (sym is) }

  abbrev pub walk_parts : Item-F Item Arm Block Piece → Item-F ItemWalk ArmWalk BlockWalk PieceWalk
  walk_parts = map-Item Item Arm Block Piece ItemWalk ArmWalk BlockWalk PieceWalk walked_item walked_arm walked_block walked_piece

  pub item_opens : (x : Item-F Item Arm Block Piece) (i : Item) → roll-Item x ≡ i → (at : ℕ) (n : Nesting) (w : Walk) → walked_item i at n w ≡ item_walk (walk_parts x) at n w
  item_opens x i is at n w =
      ap (λ j. walked_item j at n w) (sym is) ∙ ap (λ (f : ItemWalk). f at n w) (fold-roll-Item ItemWalk ArmWalk BlockWalk PieceWalk item_walk arm_walk block_walk piece_walk x)

  -- ---- what a part that breaks no rule says of the walk before it

  arm_clean : (n : Nesting) (x : Arm) (w : Walk) → (walked_arm x n w).0.faults ≡ [] → w.faults ≡ []
  arm_clean n x w clean =
      let t = walked_test (out-Arm x).test w in
      let is : (walked_arm x n w).0.faults ≡ (walked_block (out-Arm x).body (within n) t.0).0.faults =
      ap (λ (f : ArmWalk). (f n w).0.faults) (fold_out-Arm ItemWalk ArmWalk BlockWalk PieceWalk item_walk arm_walk block_walk piece_walk x) in
      (test_grows (home.Local n.function) (out-Arm x).test w).clean ((block_grows (out-Arm x).body (within n) t.0).clean (sym is ∙ clean))

  arms_clean : (n : Nesting) (arms : List Arm) (w : Walk) → (each (at_nesting n) (map walked_arm arms) w).0.faults ≡ [] → w.faults ≡ []
  arms_clean n [] w clean = clean
  arms_clean n (x ∷ xs) w clean = arm_clean n x w (arms_clean n xs (walked_arm x n w).0 clean)

  last_clean : (n : Nesting) (last : Option Block) (w : Walk) → (optional (inner n) (option_map walked_block last) w).0.faults ≡ [] → w.faults ≡ []
  last_clean n None w clean = clean
  last_clean n (Some b) w clean = (block_grows b (within n) w).clean clean

  -- the arms of an `if` and its last block
  abbrev pub arms_walk : List Arm → Option Block → Nesting → Walk → Walk × (List MadeArm × Option MadeBlock)
  arms_walk arms last n w =
      let a = each (at_nesting n) (map walked_arm arms) w in
      let b = optional (inner n) (option_map walked_block last) a.0 in
      (b.0, (a.1, b.1))

  pub if_opens : (arms : List Arm) (last : Option Block) (at : ℕ) (n : Nesting) (w : Walk) → let r = arms_walk arms last n w in walked_item (item.If arms last) at n w ≡ (r.0, made.If r.1.0 r.1.1)
  if_opens arms None at n w = item_opens (If arms None) (item.If arms None) (item.rolls-If arms None) at n w
  if_opens arms (Some b) at n w = item_opens (If arms (Some b)) (item.If arms (Some b)) (item.rolls-If arms (Some b)) at n w

  pub piece_opens : (frees : List Free) (i : Item) (start end : ℕ) (n : Nesting) (w : Walk) → let v = behind_gap frees w in let r = walked_item i start n v in
      walked_piece (piece frees i start end) n w ≡ (r.0, roll-MadePiece (record { gap = (walked_gap (gap frees) w).1; item = r.1; start = start; end = end }))
  piece_opens frees i start end n w =
      ap (λ (f : PieceWalk). f n w) (fold-roll-Piece ItemWalk ArmWalk BlockWalk PieceWalk item_walk arm_walk block_walk piece_walk (record { gap = gap frees; item = i; start = start; end = end }))

  -- the pieces of a block and its last gap
  abbrev pub pieces_walk : List Piece → List Free → Nesting → Walk → Walk × (List MadePiece × MadeGap)
  pieces_walk ps frees n w =
      let q = each (at_nesting n) (map walked_piece ps) w in
      let g = walked_gap (gap frees) q.0 in
      (g.0, (q.1, g.1))

  -- with a first piece
  abbrev pub behind_piece : List Piece → List Free → Nesting → Walk × MadePiece → Walk × (List MadePiece × MadeGap)
  behind_piece ps frees n r = let q = pieces_walk ps frees n r.0 in (q.0, (r.1 ∷ q.1.0, q.1.1))

  item_clean : {n : Nesting} {w : Walk} {i j : Item} → IsRefilledItem p puts n w i j → (at : ℕ) → (walked_item i at n w).0.faults ≡ [] → w.faults ≡ []
  item_clean {n} {w} (IsRefilledItem.declare ds) at clean =
      (each_grows (home.Local n.function) (walked_declr n) (declr_grows n) ds w).clean (sym (ap (λ r. r.0.faults) (item_opens (Declare ds) (item.Declare ds) (item.rolls-Declare ds) at n w)) ∙ clean)
  item_clean {n} {w} (IsRefilledItem.assign s) at clean =
      (simple_grows (home.Local n.function) s w).clean (sym (ap (λ r. r.0.faults) (item_opens (Assign s) (item.Assign s) (item.rolls-Assign s) at n w)) ∙ clean)
  item_clean {n} {w} (IsRefilledItem.call c) at clean =
      (do_grows (home.Local n.function) c w).clean (sym (ap (λ r. r.0.faults) (item_opens (Do c) (item.Do c) (item.rolls-Do c) at n w)) ∙ clean)
  item_clean {n} {w} (IsRefilledItem.nest {b = b} d) at clean =
      (block_grows b (within n) w).clean (sym (ap (λ r. r.0.faults) (item_opens (Nest b) (item.Nest b) (item.rolls-Nest b) at n w)) ∙ clean)
  item_clean {n} {w} (IsRefilledItem.branch {arms = arms} {last = last} d) at clean =
      arms_clean n arms w (last_clean n last (each (at_nesting n) (map walked_arm arms) w).0 (sym (ap (λ r. r.0.faults) (if_opens arms last at n w)) ∙ clean))
  item_clean {n} {w} (IsRefilledItem.while e {b = b} d) at clean =
      (test_grows (home.Local n.function) e w).clean ((block_grows b (in_loop n) (walked_test e w).0).clean (sym (ap (λ r. r.0.faults) (item_opens (While e b) (item.While e b) (item.rolls-While e b) at n w)) ∙ clean))
  item_clean {n} {w} (IsRefilledItem.for h {b = b} d) at clean =
      (head_grows (within n) h w).clean ((block_grows b (in_loop (within n)) (walked_head (within n) h w).0).clean (sym (ap (λ r. r.0.faults) (item_opens (For h b) (item.For h b) (item.rolls-For h b) at n w)) ∙ clean))
  item_clean {n} {w} IsRefilledItem.break at clean =
      first_empty w.faults (unless n.in_loop rule.Jump at) (sym (ap (λ r. r.0.faults) (item_opens Break item.Break item.rolls-Break at n w)) ∙ clean)
  item_clean {n} {w} IsRefilledItem.continue at clean =
      first_empty w.faults (unless n.in_loop rule.Jump at) (sym (ap (λ r. r.0.faults) (item_opens Continue item.Continue item.rolls-Continue at n w)) ∙ clean)
  item_clean {n} {w} (IsRefilledItem.return r word) at clean =
      (return_grows (home.Local n.function) n.returns word r w).clean (sym (ap (λ q. q.0.faults) (item_opens (Return r word) (item.Return r word) (item.rolls-Return r word) at n w)) ∙ clean)

  pieces_clean : {n : Nesting} {w : Walk} {ps qs : List Piece} {fs gs : List Free} → IsRefilledPieces p puts n w ps fs qs gs → (pieces_walk ps fs n w).0.faults ≡ [] → w.faults ≡ []
  pieces_clean {n} {w} (IsRefilledPieces.last {frees = frees}) clean = (gap_grows (home.Local n.function) (gap frees) w).clean clean
  pieces_clean {n} {w} (IsRefilledPieces.more {fs = fs} {i = i} {ps = ps} frees start end start' end' d r) clean =
      (gap_grows (home.Local n.function) (gap frees) w).clean (item_clean d start (pieces_clean r (sym (ap (λ q. (behind_piece ps fs n q).0.faults) (piece_opens frees i start end n w)) ∙ clean)))

  -- ---- the frees that are written in a part are what the puts mean

  unfoldable mutual
    pub item_seen : {n : Nesting} {w : Walk} {i j : Item} → IsRefilledItem p puts n w i j → Type 0
    item_seen (IsRefilledItem.declare ds) = Unit {0}
    item_seen (IsRefilledItem.assign s) = Unit {0}
    item_seen (IsRefilledItem.call c) = Unit {0}
    item_seen (IsRefilledItem.nest d) = block_seen d
    item_seen (IsRefilledItem.branch d) = arms_seen d
    item_seen (IsRefilledItem.while e d) = block_seen d
    item_seen (IsRefilledItem.for h d) = block_seen d
    item_seen IsRefilledItem.break = Unit {0}
    item_seen IsRefilledItem.continue = Unit {0}
    item_seen (IsRefilledItem.return r word) = Unit {0}

    pub arms_seen : {n : Nesting} {w : Walk} {arms others : List Arm} {last final : Option Block} → IsRefilledArms p puts n w arms last others final → Type 0
    arms_seen IsRefilledArms.none = Unit {0}
    arms_seen (IsRefilledArms.otherwise d) = block_seen d
    arms_seen (IsRefilledArms.next e d r) = block_seen d × arms_seen r

    pub block_seen : {n : Nesting} {w : Walk} {b c : Block} → IsRefilledBlock p puts n w b c → Type 0
    block_seen (IsRefilledBlock.pieces braced braced' start end start' end' d) = pieces_seen d

    pub pieces_seen : {n : Nesting} {w : Walk} {ps qs : List Piece} {fs gs : List Free} → IsRefilledPieces p puts n w ps fs qs gs → Type 0
    pieces_seen {w = w} IsRefilledPieces.last = AreSeen w.scope (puts_at puts w.gaps)
    pieces_seen {w = w} (IsRefilledPieces.more frees start end start' end' d r) = AreSeen w.scope (puts_at puts w.gaps) × item_seen d × pieces_seen r

  -- ---- the two walks

  part_alike : (x' x : MadeItem-F MadeItem MadeArm MadeBlock MadePiece) (m' m : MadeItem) → in_item barely x' ≡ in_item fully x → roll-MadeItem x' ≡ m' → roll-MadeItem x ≡ m → barely.item m' ≡ fully.item m
  part_alike x' x m' m same is' is =
      ap barely.item (sym is') ∙ bare_opens.item x' ∙ ap (λ y. roll-MadeItem (bare_item y)) same ∙ sym (full_opens.item x) ∙ ap fully.item is

  called_alike : (c : Judged Called) → barely.item (call_item c).made ≡ fully.item (call_item c).made
  called_alike (Typed c) = leaf_alike (layer.Do c.call) (made.Do c.call) refl (made.rolls-Do c.call)
  called_alike (Broken gs) = leaf_alike (layer.Declare []) (made.Declare []) refl (made.rolls-Declare [])

  return_alike : (n : Nesting) (r : Option Right) (at : ℕ) (w : Walk) → barely.item (walked_return n.returns at r w).1 ≡ fully.item (walked_return n.returns at r w).1
  return_alike n None at w = leaf_alike (layer.Return None at) (made.Return None at) refl (made.rolls-Return None at)
  return_alike n (Some r) at w =
      let v = walked_right r w in
      let c = (returned_value n.returns at v.1).made in
      leaf_alike (layer.Return (Some c) at) (made.Return (Some c) at) refl (made.rolls-Return (Some c) at)

  item_from : (fs : List FunDef) (r r' s s' : Walk × MadeItem) → r ≡ r' → s ≡ s' → ItemWalks fs r' s' → ItemWalks fs r s
  item_from fs r r' s s' is also walks = record { walk = ap (λ q. q.0) also ∙ walks.walk ∙ ap (λ q. framed fs q.0) (sym is); made = ap (λ q. barely.item q.1) also ∙ walks.made ∙ ap (λ q. fully.item q.1) (sym is) }

  jump_case : (b : Bool) (at at' : ℕ) (fs : List FunDef) (w : Walk) → unless b rule.Jump at ≡ [] → noted (unless b rule.Jump at') (framed fs w) ≡ framed fs (noted (unless b rule.Jump at) w)
  jump_case true at at' fs w none = refl
  jump_case false at at' fs w none = absurd cc

  pub record BlockWalks (fs : List FunDef) (r s : Walk × MadeBlock) : Type 0 where
    pub walk : s.0 ≡ framed fs r.0
    pub made : barely.block s.1 ≡ fully.block r.1

  record ArmsWalks (fs : List FunDef) (r s : Walk × (List MadeArm × Option MadeBlock)) : Type 0 where
    walk : s.0 ≡ framed fs r.0
    arms : map barely.arm s.1.0 ≡ map fully.arm r.1.0
    last : option_map barely.block s.1.1 ≡ option_map fully.block r.1.1

  record PiecesWalks (fs : List FunDef) (r s : Walk × (List MadePiece × MadeGap)) : Type 0 where
    walk : s.0 ≡ framed fs r.0
    pieces : map barely.piece s.1.0 ≡ map fully.piece r.1.0
    gap : bare_gap s.1.1 ≡ filled_gap r.1.1

  pub block_opens : (ps : List Piece) (frees : List Free) (braced : Bool) (start end : ℕ) (n : Nesting) (w : Walk) → let r = pieces_walk ps frees n w in
      walked_block (block ps frees braced start end) n w ≡ (r.0, roll-MadeBlock (record { items = r.1.0; last_gap = r.1.1; braced = braced; start = start; end = end }))
  block_opens ps frees braced start end n w =
      ap (λ (f : BlockWalk). f n w) (fold-roll-Block ItemWalk ArmWalk BlockWalk PieceWalk item_walk arm_walk block_walk piece_walk (record { items = ps; last_gap = gap frees; braced = braced; start = start; end = end }))

  blocks_alike : (ps qs : List MadePiece) (g h : MadeGap) (braced braced' : Bool) (start end start' end' : ℕ) → map barely.piece qs ≡ map fully.piece ps → bare_gap h ≡ filled_gap g
      → barely.block (roll-MadeBlock (record { items = qs; last_gap = h; braced = braced'; start = start'; end = end' })) ≡ fully.block (roll-MadeBlock (record { items = ps; last_gap = g; braced = braced; start = start; end = end }))
  blocks_alike ps qs g h braced braced' start end start' end' pieces gaps =
      bare_opens.block (record { items = qs; last_gap = h; braced = braced'; start = start'; end = end' })
      ∙ ap (λ xs. roll-MadeBlock (record { items = xs; last_gap = bare_gap h; braced = false; start = 0; end = 0 })) pieces
      ∙ ap (λ x. roll-MadeBlock (record { items = map fully.piece ps; last_gap = x; braced = false; start = 0; end = 0 })) gaps
      ∙ sym (full_opens.block (record { items = ps; last_gap = g; braced = braced; start = start; end = end }))

  pieces_alike : (g h : MadeGap) (i j : MadeItem) (start end start' end' : ℕ) → bare_gap h ≡ filled_gap g → barely.item j ≡ fully.item i
      → barely.piece (roll-MadePiece (record { gap = h; item = j; start = start'; end = end' })) ≡ fully.piece (roll-MadePiece (record { gap = g; item = i; start = start; end = end }))
  pieces_alike g h i j start end start' end' gaps items =
      bare_opens.piece (record { gap = h; item = j; start = start'; end = end' })
      ∙ ap (λ x. roll-MadePiece (record { gap = x; item = barely.item j; start = 0; end = 0 })) gaps
      ∙ ap (λ x. roll-MadePiece (record { gap = filled_gap g; item = x; start = 0; end = 0 })) items
      ∙ sym (full_opens.piece (record { gap = g; item = i; start = start; end = end }))

  arms_alike : (test : MadeExpr) (b c : MadeBlock) → barely.block c ≡ fully.block b → barely.arm (roll-MadeArm (record { test = test; body = c })) ≡ fully.arm (roll-MadeArm (record { test = test; body = b }))
  arms_alike test b c same =
      bare_opens.arm (record { test = test; body = c }) ∙ ap (λ x. roll-MadeArm (record { test = bare_expr test; body = x })) same ∙ sym (full_opens.arm (record { test = test; body = b }))

  pub arm_opens : (e : Expr) (b : Block) (n : Nesting) (w : Walk) → let t = walked_test e w in let u = inner n (walked_block b) t.0 in walked_arm (arm e b) n w ≡ (u.0, roll-MadeArm (record { test = t.1; body = u.1 }))
  arm_opens e b n w = ap (λ (f : ArmWalk). f n w) (fold-roll-Arm ItemWalk ArmWalk BlockWalk PieceWalk item_walk arm_walk block_walk piece_walk (record { test = e; body = b }))

  -- an arm before others
  abbrev pub behind_arm : List Arm → Option Block → Nesting → Walk × MadeArm → Walk × (List MadeArm × Option MadeBlock)
  behind_arm arms last n r = let q = arms_walk arms last n r.0 in (q.0, (r.1 ∷ q.1.0, q.1.1))

  mutual
    unfolding item_seen

    item_walks : {n : Nesting} {w : Walk} {i j : Item} (d : IsRefilledItem p puts n w i j) → item_seen d → (at at' : ℕ) (fs : List FunDef) → (walked_item i at n w).0.faults ≡ []
        → ItemWalks fs (walked_item i at n w) (walked_item j at' n (framed fs w))
    item_walks {n} {w} (IsRefilledItem.declare ds) seen at at' fs clean =
        let f : Walk → Walk × MadeItem = λ v. declares (each (walked_declr n) ds v) in
        let m = (each (walked_declr n) ds w).1 in
        leaf_walks f fs w (walked_item (item.Declare ds) at n w) (walked_item (item.Declare ds) at' n (framed fs w)) (λ gs v. ap declares (each_framed (walked_declr n) (declr_framed n) ds gs v))
        (item_opens (Declare ds) (item.Declare ds) (item.rolls-Declare ds) at n w) (item_opens (Declare ds) (item.Declare ds) (item.rolls-Declare ds) at' n (framed fs w))
        (leaf_alike (layer.Declare m) (made.Declare m) refl (made.rolls-Declare m))
    item_walks {n} {w} (IsRefilledItem.assign s) seen at at' fs clean =
        let f : Walk → Walk × MadeItem = λ v. assigns (walked_simple s v) in
        let m = (walked_simple s w).1 in
        leaf_walks f fs w (walked_item (item.Assign s) at n w) (walked_item (item.Assign s) at' n (framed fs w)) (λ gs v. ap assigns (simple_framed s gs v))
        (item_opens (Assign s) (item.Assign s) (item.rolls-Assign s) at n w) (item_opens (Assign s) (item.Assign s) (item.rolls-Assign s) at' n (framed fs w))
        (leaf_alike (layer.Assign m) (made.Assign m) refl (made.rolls-Assign m))
    item_walks {n} {w} (IsRefilledItem.call c) seen at at' fs clean =
        leaf_walks (walked_do c) fs w (walked_item (item.Do c) at n w) (walked_item (item.Do c) at' n (framed fs w)) (do_framed c)
        (item_opens (Do c) (item.Do c) (item.rolls-Do c) at n w) (item_opens (Do c) (item.Do c) (item.rolls-Do c) at' n (framed fs w)) (called_alike (walked_call c w).1)
    item_walks {n} {w} (IsRefilledItem.nest {b = b} {c = c} d) seen at at' fs clean =
        let k = length w.scope.names in
        let u = walked_block b (within n) w in
        let v = walked_block c (within n) (framed fs w) in
        let is = item_opens (Nest b) (item.Nest b) (item.rolls-Nest b) at n w in
        let x = block_walks d seen fs (sym (ap (λ r. r.0.faults) is) ∙ clean) in
        item_from fs (walked_item (item.Nest b) at n w) (closed k u.0, made.Nest u.1) (walked_item (item.Nest c) at' n (framed fs w)) (closed k v.0, made.Nest v.1)
        is (item_opens (Nest c) (item.Nest c) (item.rolls-Nest c) at' n (framed fs w))
        (record { walk = ap (closed k) x.walk; made = part_alike (layer.Nest v.1) (layer.Nest u.1) (made.Nest v.1) (made.Nest u.1) (ap (λ y. layer.Nest y) x.made) (made.rolls-Nest v.1) (made.rolls-Nest u.1) })
    item_walks {n} {w} (IsRefilledItem.branch {arms = arms} {others = others} {last = last} {final = final} d) seen at at' fs clean =
        let is = if_opens arms last at n w in
        let u = arms_walk arms last n w in
        let v = arms_walk others final n (framed fs w) in
        let x = arms_walks d seen fs (sym (ap (λ r. r.0.faults) is) ∙ clean) in
        item_from fs (walked_item (item.If arms last) at n w) (u.0, made.If u.1.0 u.1.1) (walked_item (item.If others final) at' n (framed fs w)) (v.0, made.If v.1.0 v.1.1)
        is (if_opens others final at' n (framed fs w))
        (record {
          walk = x.walk;
          made = part_alike (layer.If v.1.0 v.1.1) (layer.If u.1.0 u.1.1) (made.If v.1.0 v.1.1) (made.If u.1.0 u.1.1)
              (ap (λ y. layer.If y (option_map barely.block v.1.1)) x.arms ∙ ap (λ y. layer.If (map fully.arm u.1.0) y) x.last) (made.rolls-If v.1.0 v.1.1) (made.rolls-If u.1.0 u.1.1);
        })
    item_walks {n} {w} (IsRefilledItem.while e {b = b} {c = c} d) seen at at' fs clean =
        let t = walked_test e w in
        let k = length t.0.scope.names in
        let u = walked_block b (in_loop n) t.0 in
        let v = walked_block c (in_loop n) (framed fs t.0) in
        let is = item_opens (While e b) (item.While e b) (item.rolls-While e b) at n w in
        let x = block_walks d seen fs (sym (ap (λ r. r.0.faults) is) ∙ clean) in
        item_from fs (walked_item (item.While e b) at n w) (closed k u.0, made.While t.1 u.1) (walked_item (item.While e c) at' n (framed fs w)) (closed k v.0, made.While t.1 v.1)
        is (item_opens (While e c) (item.While e c) (item.rolls-While e c) at' n (framed fs w))
        (record { walk = ap (closed k) x.walk; made = part_alike (layer.While t.1 v.1) (layer.While t.1 u.1) (made.While t.1 v.1) (made.While t.1 u.1) (ap (λ y. layer.While t.1 y) x.made) (made.rolls-While t.1 v.1) (made.rolls-While t.1 u.1) })
    item_walks {n} {w} (IsRefilledItem.for h {b = b} {c = c} d) seen at at' fs clean =
        let s = walked_head (within n) h w in
        let k = length w.scope.names in
        let l = length s.0.scope.names in
        let u = walked_block b (in_loop (within n)) s.0 in
        let v = walked_block c (in_loop (within n)) (framed fs s.0) in
        let is = item_opens (For h b) (item.For h b) (item.rolls-For h b) at n w in
        let x = block_walks d seen fs (sym (ap (λ r. r.0.faults) is) ∙ clean) in
        let after : Walk × MadeHead → Walk × MadeItem = λ q. let y = walked_block c (in_loop (within n)) q.0 in (closed k (closed (length q.0.scope.names) y.0), made.For q.1 y.1) in
        item_from fs (walked_item (item.For h b) at n w) (closed k (closed l u.0), made.For s.1 u.1) (walked_item (item.For h c) at' n (framed fs w)) (closed k (closed l v.0), made.For s.1 v.1)
        is (item_opens (For h c) (item.For h c) (item.rolls-For h c) at' n (framed fs w) ∙ ap after (head_framed (within n) h fs w))
        (record { walk = ap (λ y. closed k (closed l y)) x.walk; made = part_alike (layer.For s.1 v.1) (layer.For s.1 u.1) (made.For s.1 v.1) (made.For s.1 u.1) (ap (λ y. layer.For s.1 y) x.made) (made.rolls-For s.1 v.1) (made.rolls-For s.1 u.1) })
    item_walks {n} {w} IsRefilledItem.break seen at at' fs clean =
        let is = item_opens Break item.Break item.rolls-Break at n w in
        let none = second_empty w.faults (unless n.in_loop rule.Jump at) (sym (ap (λ r. r.0.faults) is) ∙ clean) in
        item_from fs (walked_item item.Break at n w) (noted (unless n.in_loop rule.Jump at) w, made.Break) (walked_item item.Break at' n (framed fs w)) (noted (unless n.in_loop rule.Jump at') (framed fs w), made.Break)
        is (item_opens Break item.Break item.rolls-Break at' n (framed fs w)) (record { walk = jump_case n.in_loop at at' fs w none; made = leaf_alike layer.Break made.Break refl made.rolls-Break })
    item_walks {n} {w} IsRefilledItem.continue seen at at' fs clean =
        let is = item_opens Continue item.Continue item.rolls-Continue at n w in
        let none = second_empty w.faults (unless n.in_loop rule.Jump at) (sym (ap (λ r. r.0.faults) is) ∙ clean) in
        item_from fs (walked_item item.Continue at n w) (noted (unless n.in_loop rule.Jump at) w, made.Continue) (walked_item item.Continue at' n (framed fs w)) (noted (unless n.in_loop rule.Jump at') (framed fs w), made.Continue)
        is (item_opens Continue item.Continue item.rolls-Continue at' n (framed fs w)) (record { walk = jump_case n.in_loop at at' fs w none; made = leaf_alike layer.Continue made.Continue refl made.rolls-Continue })
    item_walks {n} {w} (IsRefilledItem.return r word) seen at at' fs clean =
        leaf_walks (walked_return n.returns word r) fs w (walked_item (item.Return r word) at n w) (walked_item (item.Return r word) at' n (framed fs w)) (return_framed n.returns word r)
        (item_opens (Return r word) (item.Return r word) (item.rolls-Return r word) at n w) (item_opens (Return r word) (item.Return r word) (item.rolls-Return r word) at' n (framed fs w)) (return_alike n r word w)

    arms_walks : {n : Nesting} {w : Walk} {arms others : List Arm} {last final : Option Block} (d : IsRefilledArms p puts n w arms last others final) → arms_seen d → (fs : List FunDef) → (arms_walk arms last n w).0.faults ≡ []
        → ArmsWalks fs (arms_walk arms last n w) (arms_walk others final n (framed fs w))
    arms_walks IsRefilledArms.none seen fs clean = record { walk = refl; arms = refl; last = refl }
    arms_walks {n} {w} (IsRefilledArms.otherwise d) seen fs clean =
        let x = block_walks d seen fs clean in
        record { walk = ap (closed (length w.scope.names)) x.walk; arms = refl; last = ap Some x.made }
    arms_walks {n} {w} {last = last} {final = final} (IsRefilledArms.next e {b = b} {c = c} {arms = arms} {others = others} d r) seen fs clean =
        let a = walked_arm (arm e b) n w in
        let t = walked_test e w in
        let k = length t.0.scope.names in
        let u = walked_block b (within n) t.0 in
        let v = walked_block c (within n) (framed fs t.0) in
        let is = arm_opens e b n w in
        let also = arm_opens e c n (framed fs w) in
        let here : a.0.faults ≡ [] = arms_clean n arms a.0 (last_clean n last (each (at_nesting n) (map walked_arm arms) a.0).0 clean) in
        let x = block_walks d seen.0 fs (sym (ap (λ q. q.0.faults) is) ∙ here) in
        let y = arms_walks r seen.1 fs clean in
        let m = roll-MadeArm (record { test = t.1; body = v.1 }) in
        let walk : closed k v.0 ≡ framed fs a.0 = ap (closed k) x.walk ∙ ap (λ q. framed fs q.0) (sym is) in
        let whole : arms_walk (arm e c ∷ others) final n (framed fs w) ≡ behind_arm others final n (framed fs a.0, m) =
        ap (behind_arm others final n) also ∙ ap (λ z. behind_arm others final n (z, m)) walk in
        record {
          walk = ap (λ q. q.0) whole ∙ y.walk;
          arms = ap (λ q. map barely.arm q.1.0) whole ∙ ap (λ z. z ∷ map barely.arm (arms_walk others final n (framed fs a.0)).1.0) (arms_alike t.1 u.1 v.1 x.made ∙ ap (λ q. fully.arm q.1) (sym is)) ∙ ap (λ zs. fully.arm a.1 ∷ zs) y.arms;
          last = ap (λ q. option_map barely.block q.1.1) whole ∙ y.last;
        }

    pub block_walks : {n : Nesting} {w : Walk} {b c : Block} (d : IsRefilledBlock p puts n w b c) → block_seen d → (fs : List FunDef) → (walked_block b n w).0.faults ≡ [] → BlockWalks fs (walked_block b n w) (walked_block c n (framed fs w))
    block_walks {n} {w} (IsRefilledBlock.pieces {ps = ps} {qs = qs} {fs = frees} {gs = gs} braced braced' start end start' end' d) seen fs clean =
        let is = block_opens ps frees braced start end n w in
        let also = block_opens qs gs braced' start' end' n (framed fs w) in
        let r = pieces_walk ps frees n w in
        let s = pieces_walk qs gs n (framed fs w) in
        let x = pieces_walks d seen fs (sym (ap (λ q. q.0.faults) is) ∙ clean) in
        record {
          walk = ap (λ q. q.0) also ∙ x.walk ∙ ap (λ q. framed fs q.0) (sym is);
          made = ap (λ q. barely.block q.1) also ∙ blocks_alike r.1.0 s.1.0 r.1.1 s.1.1 braced braced' start end start' end' x.pieces x.gap ∙ ap (λ q. fully.block q.1) (sym is);
        }

    pieces_walks : {n : Nesting} {w : Walk} {ps qs : List Piece} {frees gs : List Free} (d : IsRefilledPieces p puts n w ps frees qs gs) → pieces_seen d → (fs : List FunDef) → (pieces_walk ps frees n w).0.faults ≡ []
        → PiecesWalks fs (pieces_walk ps frees n w) (pieces_walk qs gs n (framed fs w))
    pieces_walks {n} {w} (IsRefilledPieces.last {frees = frees}) seen fs clean =
        let g = gap_walks frees w fs clean seen in
        record { walk = g.walk; pieces = refl; gap = g.made }
    pieces_walks {n} {w} (IsRefilledPieces.more {fs = last} {gs = final} {i = i} {j = j} {ps = ps} {qs = qs} frees start end start' end' d r) seen fs clean =
        let g = walked_gap (gap frees) w in
        let h = walked_gap (gap (refilled p puts frees w)) (framed fs w) in
        let a = walked_item i start n g.0 in
        let b = walked_item j start' n (framed fs g.0) in
        let is = piece_opens frees i start end n w in
        let also = piece_opens (refilled p puts frees w) j start' end' n (framed fs w) in
        let behind : (pieces_walk ps last n a.0).0.faults ≡ [] = sym (ap (λ q. (behind_piece ps last n q).0.faults) is) ∙ clean in
        let at_item : a.0.faults ≡ [] = pieces_clean r behind in
        let x = gap_walks frees w fs (item_clean d start at_item) seen.0 in
        let y = item_walks d seen.1 start start' fs at_item in
        let z = pieces_walks r seen.2 fs behind in
        let make : Walk → Walk × MadePiece = λ v. let q = walked_item j start' n v in (q.0, roll-MadePiece (record { gap = h.1; item = q.1; start = start'; end = end' })) in
        let m = roll-MadePiece (record { gap = h.1; item = b.1; start = start'; end = end' }) in
        let whole : pieces_walk (piece (refilled p puts frees w) j start' end' ∷ qs) final n (framed fs w) ≡ behind_piece qs final n (framed fs a.0, m) =
        ap (behind_piece qs final n) (also ∙ ap make x.walk) ∙ ap (λ v. behind_piece qs final n (v, m)) y.walk in
        let old = roll-MadePiece (record { gap = g.1; item = a.1; start = start; end = end }) in
        record {
          walk = ap (λ q. q.0) whole ∙ z.walk ∙ ap (λ q. framed fs (behind_piece ps last n q).0) (sym is);
          pieces = ap (λ q. map barely.piece q.1.0) whole
              ∙ ap (λ v. v ∷ map barely.piece (pieces_walk qs final n (framed fs a.0)).1.0) (pieces_alike g.1 h.1 a.1 b.1 start end start' end' x.made y.made)
              ∙ ap (λ vs. fully.piece old ∷ vs) z.pieces ∙ ap (λ q. map fully.piece (behind_piece ps last n q).1.0) (sym is);
          gap = ap (λ q. bare_gap q.1.1) whole ∙ z.gap ∙ ap (λ q. filled_gap (behind_piece ps last n q).1.1) (sym is);
        }
