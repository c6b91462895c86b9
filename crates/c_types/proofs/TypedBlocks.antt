-- What the walk makes of a block at a place of a text without faults, by induction over the block: each part of it has right
-- types in the text's program, for any fold that only asks for that.
use Rattle.std.proofs.Common.{◌≡◌, ℕ, Bool, true, ◌&&◌, List, [], ◌∷◌, length, map, Option, Some, None, refl, sym, ap, subst, ◌∙◌}
use Rattle.std.specs.Prelude.{slice_get}
use Rattle.std.specs.List.{list_all}
use Rattle.std.proofs.lemmas.Bool.{and_parts}
use Rattle.c_tree.specs.Typing.{Declarations, if_any, is_condition, call_fits, declr_fits, simple_fits, start_fits, head_fits, return_fits, gap_fits}
use Rattle.c_tree.specs.declared.expr.Expr.{Expr as Made}
use Rattle.c_tree.specs.declared.program.Arm.{Arm as MadeArm, Arm-F as MadeArm-F, roll-Arm as roll-MadeArm, fold-Arm as fold-MadeArm, fold-roll-Arm as fold-roll-MadeArm}
use Rattle.c_tree.specs.declared.program.Block.{Block as MadeBlock, Block-F as MadeBlock-F, roll-Block as roll-MadeBlock, fold-Block as fold-MadeBlock, fold-roll-Block as fold-roll-MadeBlock}
use Rattle.c_tree.specs.declared.program.Call.{Call as MadeCall}
use Rattle.c_tree.specs.declared.program.Declr.{Declr as MadeDeclr}
use Rattle.c_tree.specs.declared.program.ForHead.{ForHead as MadeHead}
use Rattle.c_tree.specs.declared.program.Gap.{Gap as MadeGap}
use Rattle.c_tree.specs.declared.program.Home.TheVariants as home
use Rattle.c_tree.specs.declared.program.Item.{Item as MadeItem, Item-F as MadeItem-F, roll-Item as roll-MadeItem, map-Item as map-MadeItem, fold-Item as fold-MadeItem, fold-roll-Item as fold-roll-MadeItem}
use Rattle.c_tree.specs.declared.program.Item.TheVariants as item
use Rattle.c_tree.specs.declared.program.Item.TheOpen as made
use Rattle.c_tree.specs.declared.program.Piece.{Piece as MadePiece, Piece-F as MadePiece-F, roll-Piece as roll-MadePiece, fold-Piece as fold-MadePiece, fold-roll-Piece as fold-roll-MadePiece}
use Rattle.c_tree.specs.declared.program.Right.{Right as MadeRight}
use Rattle.c_tree.specs.declared.program.Simple.{Simple as MadeSimple}
use Rattle.c_tree.specs.declared.tree.Arm.{Arm, Arm-F, roll-Arm, fold-Arm, fold-roll-Arm, map-Arm}
use Rattle.c_tree.specs.declared.tree.Block.{Block, Block-F, roll-Block, fold-roll-Block, map-Block, ind-Block}
use Rattle.c_tree.specs.declared.tree.Call.{Call}
use Rattle.c_tree.specs.declared.tree.Declr.{Declr}
use Rattle.c_tree.specs.declared.tree.Expr.{Expr}
use Rattle.c_tree.specs.declared.tree.ForHead.{ForHead}
use Rattle.c_tree.specs.declared.tree.Gap.{Gap}
use Rattle.c_tree.specs.declared.tree.Item.{Item, Item-F, roll-Item, fold-Item, fold-roll-Item, map-Item}
use Rattle.c_tree.specs.declared.tree.Item.TheOpen.{Declare, Assign, Do, Nest, If, While, For, Break, Continue, Return}
use Rattle.c_tree.specs.declared.tree.Piece.{Piece, Piece-F, roll-Piece, fold-Piece, fold-roll-Piece, map-Piece}
use Rattle.c_tree.specs.declared.tree.Right.{Right}
use Rattle.c_tree.specs.declared.tree.Simple.{Simple}
use Rattle.c_tree.specs.declared.tree.Start.{Start}
use Rattle.c_tree.specs.declared.tree.Start.TheVariants as start
use Rattle.c_tree.specs.declared.tree.Word.{Word}
use Rattle.c_types.specs.declared.faults.Rule.TheVariants as rule
use Rattle.c_types.specs.declared.judged.Called.{Called}
use Rattle.c_types.specs.declared.judged.Callee.TheVariants as callee
use Rattle.c_types.specs.declared.judged.Judged.{Judged}
use Rattle.c_types.specs.declared.judged.Judged.TheVariants.{Typed, Broken}
use Rattle.c_types.specs.declared.scope.Nesting.{Nesting}
use Rattle.c_types.specs.declared.scope.Returned.{Returned}
use Rattle.c_types.specs.declared.scope.Signature.{Signature}
use Rattle.c_types.specs.declared.scope.Walk.{Walk}
use Rattle.c_types.specs.Blocks.{walked_gap, walked_test, within, in_loop, ItemWalk, ArmWalk, BlockWalk, PieceWalk, walked_start, walked_head, at_nesting, item_walk, arm_walk, block_walk, piece_walk, walked_block, walked_piece, walked_item, walked_arm}
use Rattle.c_types.specs.Calls.{callee_of, walked_call}
use Rattle.c_types.specs.Fits.{unless}
use Rattle.c_types.specs.Functions.{result_or_none}
use Rattle.c_types.specs.InTurn.{each, optional}
use Rattle.c_types.specs.Offsets.{expr_stands, call_stands, right_stands, declr_stands, simple_stands, start_stands, head_stands, gap_stands, item_stands, arm_stands, layers_stand, piece_stands, block_stands}
use Rattle.c_types.specs.Scopes.{closed}
use Rattle.c_types.specs.Statements.{walked_simple, walked_declr, bare_return, walked_return, call_item, walked_do}
use Rattle.c_types.proofs.Growing.{note_grows, call_grows, simple_grows, declr_grows, do_grows, return_grows, gap_grows, test_grows}
use Rattle.c_types.proofs.NumberingCalls.{second_empty}
use Rattle.c_types.proofs.Standing.{Grows, grows_all, grows_both, closes, Onward, onward_both, grows_onward, closes_onward}
use Rattle.c_types.proofs.TypedCalls.{IsCallee, AllCall, call_right}
use Rattle.c_types.proofs.TypedParts.{Sees, Ready, ready_on, stands_at, noted_on, gap_right, test_right, assignment_right, declarator_right, returning_right}
use Rattle.c_types.proofs.TypedStatements.{IsGood, bare_right}

-- a fold over what is made, and what is claimed of its results
pub record Claim (X : Type 0) : Type 1 where
  pub item : MadeItem-F X X X X → X
  pub arm : MadeArm-F X X X X → X
  pub block : MadeBlock-F X X X X → X
  pub piece : MadePiece-F X X X X → X
  pub Good : X → Type 0

module _ {X : Type 0} (c : Claim X) where
  abbrev pub of_item : MadeItem → X
  of_item = fold-MadeItem X X X X c.item c.arm c.block c.piece

  abbrev pub of_arm : MadeArm → X
  of_arm = fold-MadeArm X X X X c.item c.arm c.block c.piece

  abbrev pub of_block : MadeBlock → X
  of_block = fold-MadeBlock X X X X c.item c.arm c.block c.piece

  abbrev pub of_piece : MadePiece → X
  of_piece = fold-MadePiece X X X X c.item c.arm c.block c.piece

  -- the claim holds of all of these
  abbrev pub AllGood : List X → Type 0
  AllGood [] = Unit {0}
  AllGood (x ∷ xs) = c.Good x × AllGood xs

  -- the claim follows from right types, in a function with that result; in frees all bodies are known
  pub record Follows (d e : Declarations) (t : Returned) : Type 0 where
    pub declares : (ds : List MadeDeclr) → list_all (declr_fits d) ds ≡ true → c.Good (c.item (made.Declare ds))
    pub assigns : (s : MadeSimple) → simple_fits d s ≡ true → c.Good (c.item (made.Assign s))
    pub calls : (m : MadeCall) → call_fits d m ≡ true → c.Good (c.item (made.Do m))
    pub nests : (x : X) → c.Good x → c.Good (c.item (made.Nest x))
    pub chooses : (xs : List X) → AllGood xs → c.Good (c.item (made.If xs None))
    pub chooses_last : (xs : List X) (x : X) → AllGood xs → c.Good x → c.Good (c.item (made.If xs (Some x)))
    pub loops : (test : Made) (x : X) → is_condition d test ≡ true → c.Good x → c.Good (c.item (made.While test x))
    pub loops_for : (h : MadeHead) (x : X) → head_fits d h ≡ true → c.Good x → c.Good (c.item (made.For h x))
    pub breaks : c.Good (c.item made.Break)
    pub continues : c.Good (c.item made.Continue)
    pub returns : (r : Option MadeRight) (at : ℕ) → return_fits d (result_or_none t) r ≡ true → c.Good (c.item (made.Return r at))
    pub arms : (test : Made) (x : X) → is_condition d test ≡ true → c.Good x → c.Good (c.arm (record { test = test; body = x }))
    pub blocks : (xs : List X) (g : MadeGap) (braced : Bool) (from to : ℕ) → AllGood xs → gap_fits e g ≡ true → c.Good (c.block (record { items = xs; last_gap = g; braced = braced; start = from; end = to }))
    pub pieces : (g : MadeGap) (x : X) (from to : ℕ) → gap_fits e g ≡ true → c.Good x → c.Good (c.piece (record { gap = g; item = x; start = from; end = to }))

module _ (behind : ℕ → Bool) (final : Walk) (t : Returned) where
  -- from one walk to another within a function: the goal, where no rule is broken in the text
  pub record Keeps (function : ℕ) (returns : Returned) (w u : Walk) (Goal : Type 0) : Type 0 where
    pub grows : Grows (home.Local function) w u
    pub goal : returns ≡ t → Ready behind w → Onward u final → Goal

module _ {X : Type 0} (c : Claim X) (behind : ℕ → Bool) (final : Walk) (clean : final.faults ≡ []) (d e : Declarations) (sees : Sees d behind final) (sees_frees : Sees e behind final)
    (callees : (w : Walk) → Onward w final → (n : Word) (f k : ℕ) (g : Signature) → callee_of w n ≡ callee.Defined f k → slice_get w.signatures k ≡ Some g → IsCallee d f g)
    (t : Returned) (good : IsGood t) (follows : Follows c d e t) where
  abbrev K : Nesting → Walk → Walk → Type 0 → Type 0
  K p = Keeps behind final t p.function p.returns

  -- steps one after another

  leads : {G H : Type 0} (p : Nesting) (w u : Walk) → (G → H) → K p w u G → K p w u H
  leads p w u f k = record { grows = k.grows; goal = λ r ready on. f (k.goal r ready on) }

  both : {G H J : Type 0} (p : Nesting) (w u v : Walk) → K p w u G → K p u v H → (G → H → J) → K p w v J
  both p w u v k l join =
      let h = home.Local p.function in
      record {
        grows = grows_both h w u v k.grows l.grows;
        goal = λ r ready on. join (k.goal r ready (onward_both u v final (grows_onward h u v l.grows) on)) (l.goal r (ready_on behind h w u k.grows ready) on);
      }

  in_scope : {G : Type 0} (p : Nesting) (w u : Walk) → K p w u G → K p w (closed (length w.scope.names) u) G
  in_scope p w u k =
      let h = home.Local p.function in
      record {
        grows = closes h w u k.grows;
        goal = λ r ready on. k.goal r ready (onward_both u (closed (length w.scope.names) u) final (closes_onward h w u k.grows) on);
      }

  -- leaves

  each_keeps : {A B : Type 0} (f : A → Walk → Walk × B) (stands : A → Bool) (fits : B → Bool) (p : Nesting) → ((x : A) (w : Walk) → stands x ≡ true → K p w (f x w).0 (fits (f x w).1 ≡ true))
      → (xs : List A) (w : Walk) → list_all stands xs ≡ true → K p w (each f xs w).0 (list_all fits (each f xs w).1 ≡ true)
  each_keeps f stands fits p one [] w h = record { grows = grows_all (home.Local p.function) w; goal = λ r ready on. refl }
  each_keeps f stands fits p one (x ∷ xs) w h =
      let parts = and_parts (stands x) (list_all stands xs) h in
      let u = (f x w).0 in
      let rest = each f xs u in
      both p w u rest.0 (one x w parts.0) (each_keeps f stands fits p one xs u parts.1) (λ first others. ap (λ (b : Bool). b && list_all fits rest.1) first ∙ others)

  any_keeps : {A B : Type 0} (f : A → Walk → Walk × B) (stands : A → Bool) (fits : B → Bool) (p : Nesting) → ((x : A) (w : Walk) → stands x ≡ true → K p w (f x w).0 (fits (f x w).1 ≡ true))
      → (o : Option A) (w : Walk) → if_any stands o ≡ true → K p w (optional f o w).0 (if_any fits (optional f o w).1 ≡ true)
  any_keeps f stands fits p one None w h = record { grows = grows_all (home.Local p.function) w; goal = λ r ready on. refl }
  any_keeps f stands fits p one (Some x) w h = one x w h

  test_keeps : (p : Nesting) (x : Expr) (w : Walk) → expr_stands behind x ≡ true → K p w (walked_test x w).0 (is_condition d (walked_test x w).1 ≡ true)
  test_keeps p x w h = record { grows = test_grows (home.Local p.function) x w; goal = λ r. test_right behind final clean d sees callees x w h }

  simple_keeps : (p : Nesting) (s : Simple) (w : Walk) → simple_stands behind s ≡ true → K p w (walked_simple s w).0 (simple_fits d (walked_simple s w).1 ≡ true)
  simple_keeps p s w h = record { grows = simple_grows (home.Local p.function) s w; goal = λ r. assignment_right behind final clean d sees callees s w h }

  declr_keeps : (p : Nesting) (x : Declr) (w : Walk) → declr_stands behind x ≡ true → K p w (walked_declr p x w).0 (declr_fits d (walked_declr p x w).1 ≡ true)
  declr_keeps p x w h = record { grows = declr_grows p x w; goal = λ r. declarator_right behind final clean d sees callees p x w h }

  gap_keeps : (p : Nesting) (g : Gap) (w : Walk) → gap_stands behind g ≡ true → K p w (walked_gap g w).0 (gap_fits e (walked_gap g w).1 ≡ true)
  gap_keeps p g w h = record { grows = gap_grows (home.Local p.function) g w; goal = λ r. gap_right behind final clean e sees_frees g w h }

  start_keeps : (p : Nesting) (s : Start) (w : Walk) → start_stands behind s ≡ true → K p w (walked_start p s w).0 (start_fits d (walked_start p s w).1 ≡ true)
  start_keeps p (start.Declare x) w h = declr_keeps p x w h
  start_keeps p (start.Assign s) w h = simple_keeps p s w h

  head_keeps : (p : Nesting) (h : ForHead) (w : Walk) → head_stands behind h ≡ true → K p w (walked_head p h w).0 (head_fits d (walked_head p h w).1 ≡ true)
  head_keeps p h w e =
      let outer = and_parts (list_all (start_stands behind) h.start && if_any (expr_stands behind) h.test) (if_any (simple_stands behind) h.step) e in
      let first = and_parts (list_all (start_stands behind) h.start) (if_any (expr_stands behind) h.test) outer.0 in
      let r = each (walked_start p) h.start w in
      let t = optional walked_test h.test r.0 in
      let s = optional walked_simple h.step t.0 in
      both p w t.0 s.0
      (both p w r.0 t.0 (each_keeps (walked_start p) (start_stands behind) (start_fits d) p (start_keeps p) h.start w first.0)
      (any_keeps walked_test (expr_stands behind) (is_condition d) p (test_keeps p) h.test r.0 first.1)
      (λ a b. ap (λ (x : Bool). x && if_any (is_condition d) t.1) a ∙ b))
      (any_keeps walked_simple (simple_stands behind) (simple_fits d) p (simple_keeps p) h.step t.0 outer.1)
      (λ a b. ap (λ (x : Bool). x && if_any (simple_fits d) s.1) a ∙ b)

  -- items of what is made, one level opened
  opened : (x : MadeItem-F MadeItem MadeArm MadeBlock MadePiece) (i : MadeItem) → roll-MadeItem x ≡ i
      → of_item c i ≡ c.item (map-MadeItem MadeItem MadeArm MadeBlock MadePiece X X X X (of_item c) (of_arm c) (of_block c) (of_piece c) x)
  opened x i is = ap (of_item c) (sym is) ∙ fold-roll-MadeItem X X X X c.item c.arm c.block c.piece x

  call_good : (j : Judged Called) → AllCall d j → (call_item j).faults ≡ [] → c.Good (of_item c (call_item j).made)
  call_good (Typed m) h none = subst c.Good (sym (opened (made.Do m.call) (item.Do m.call) (item.rolls-Do m.call))) (follows.calls m.call h.fits)
  call_good (Broken fs) h none = absurd (h none)

  do_keeps : (p : Nesting) (m : Call) (w : Walk) → call_stands behind m ≡ true → K p w (walked_do m w).0 (c.Good (of_item c (walked_do m w).1))
  do_keeps p m w h = record {
    grows = do_grows (home.Local p.function) m w;
    goal = λ r ready on.
        let l = home.Local p.function in
        let j = walked_call m w in
        let fs = (call_item j.1).faults in
        let after = noted_on final fs j.0 on in
        let before = onward_both w j.0 final (grows_onward l w j.0 (call_grows l m w)) after in
        call_good j.1 (call_right d behind w (stands_at behind final clean d sees w ready before) (callees w before) m h) (second_empty j.0.faults fs (on.clean clean));
  }

  return_good : (r : Option MadeRight) (at : ℕ) → return_fits d (result_or_none t) r ≡ true → c.Good (of_item c (item.Return r at))
  return_good r at h = subst c.Good (sym (opened (made.Return r at) (item.Return r at) (item.rolls-Return r at))) (follows.returns r at h)

  return_keeps : (p : Nesting) (at : ℕ) (o : Option Right) (w : Walk) → if_any (right_stands behind) o ≡ true
      → K p w (walked_return p.returns at o w).0 (c.Good (of_item c (walked_return p.returns at o w).1))
  return_keeps p at o w h = record {
    grows = return_grows (home.Local p.function) p.returns at o w;
    goal = λ r ready on. returns p.returns o r h ready on;
  }
    where
      returns : (x : Returned) (o : Option Right) → x ≡ t → if_any (right_stands behind) o ≡ true → Ready behind w → Onward (walked_return x at o w).0 final → c.Good (of_item c (walked_return x at o w).1)
      returns x None is h ready on =
          let none : bare_return t at ≡ [] = subst (λ (y : Returned). bare_return y at ≡ []) is (second_empty w.faults (bare_return x at) (on.clean clean)) in
          return_good None at (bare_right d t good at none)
      returns x (Some r) is h ready on =
          subst (λ (y : Returned). Onward (walked_return y at (Some r) w).0 final → c.Good (of_item c (walked_return y at (Some r) w).1)) (sym is)
          (λ there. return_good _ at (returning_right behind final clean d sees callees t good at r w h ready there)) on

  -- blocks, items, arms and pieces

  abbrev item_ok : Item → Bool
  item_ok = fold-Item Bool Bool Bool Bool (item_stands behind) (arm_stands behind) (layers_stand behind) (piece_stands behind)

  abbrev arm_ok : Arm → Bool
  arm_ok = fold-Arm Bool Bool Bool Bool (item_stands behind) (arm_stands behind) (layers_stand behind) (piece_stands behind)

  abbrev piece_ok : Piece → Bool
  piece_ok = fold-Piece Bool Bool Bool Bool (item_stands behind) (arm_stands behind) (layers_stand behind) (piece_stands behind)

  abbrev block_ok : Block → Bool
  block_ok = block_stands behind

  abbrev ItemKept : Bool → ItemWalk → Type 0
  ItemKept ok f = ok ≡ true → (at : ℕ) (p : Nesting) (w : Walk) → K p w (f at p w).0 (c.Good (of_item c (f at p w).1))

  abbrev ArmKept : Bool → ArmWalk → Type 0
  ArmKept ok f = ok ≡ true → (p : Nesting) (w : Walk) → K p w (f p w).0 (c.Good (of_arm c (f p w).1))

  abbrev BlockKept : Bool → BlockWalk → Type 0
  BlockKept ok f = ok ≡ true → (p : Nesting) (w : Walk) → K p w (f p w).0 (c.Good (of_block c (f p w).1))

  abbrev PieceKept : Bool → PieceWalk → Type 0
  PieceKept ok f = ok ≡ true → (p : Nesting) (w : Walk) → K p w (f p w).0 (c.Good (of_piece c (f p w).1))

  abbrev ItemHolds : Item → Type 0
  ItemHolds i = ItemKept (item_ok i) (walked_item i)

  abbrev ArmHolds : Arm → Type 0
  ArmHolds a = ArmKept (arm_ok a) (walked_arm a)

  abbrev BlockHolds : Block → Type 0
  BlockHolds b = BlockKept (block_ok b) (walked_block b)

  abbrev PieceHolds : Piece → Type 0
  PieceHolds q = PieceKept (piece_ok q) (walked_piece q)

  abbrev Held : Type 0
  Held = Item-F ((i : Item) × ItemHolds i) ((a : Arm) × ArmHolds a) ((b : Block) × BlockHolds b) ((q : Piece) × PieceHolds q)

  abbrev bare_item : Held → Item-F Item Arm Block Piece
  bare_item = map-Item ((i : Item) × ItemHolds i) ((a : Arm) × ArmHolds a) ((b : Block) × BlockHolds b) ((q : Piece) × PieceHolds q) Item Arm Block Piece (λ e. e.0) (λ e. e.0) (λ e. e.0) (λ e. e.0)

  abbrev walks_item : Item-F Item Arm Block Piece → Item-F ItemWalk ArmWalk BlockWalk PieceWalk
  walks_item = map-Item Item Arm Block Piece ItemWalk ArmWalk BlockWalk PieceWalk walked_item walked_arm walked_block walked_piece

  abbrev oks_item : Item-F Item Arm Block Piece → Item-F Bool Bool Bool Bool
  oks_item = map-Item Item Arm Block Piece Bool Bool Bool Bool item_ok arm_ok block_ok piece_ok

  parts_keep : {Q Y : Type 0} (walk : Q → Nesting → Walk → Walk × Y) (ok : Q → Bool) (of : Y → X) (p : Nesting)
      (qs : List ((q : Q) × (ok q ≡ true → (p : Nesting) (w : Walk) → K p w (walk q p w).0 (c.Good (of (walk q p w).1))))) (w : Walk)
      → list_all (λ b. b) (map ok (map (λ e. e.0) qs)) ≡ true
      → K p w (each (at_nesting p) (map walk (map (λ e. e.0) qs)) w).0 (AllGood c (map of (each (at_nesting p) (map walk (map (λ e. e.0) qs)) w).1))
  parts_keep walk ok of p [] w h = record { grows = grows_all (home.Local p.function) w; goal = λ r ready on. tt }
  parts_keep walk ok of p (q ∷ qs) w h =
      let parts = and_parts (ok q.0) (list_all (λ b. b) (map ok (map (λ e. e.0) qs))) h in
      let r = walk q.0 p w in
      both p w r.0 (each (at_nesting p) (map walk (map (λ e. e.0) qs)) r.0).0 (q.1 parts.0 p w) (parts_keep walk ok of p qs r.0 parts.1) (λ a b. (a, b))

  layer_keeps : (y : Held) → ItemKept (item_stands behind (oks_item (bare_item y))) (item_walk (walks_item (bare_item y)))
  layer_keeps (Declare ds) h at p w =
      let r = each (walked_declr p) ds w in
      leads p w r.0 (λ k. subst c.Good (sym (opened (made.Declare r.1) (item.Declare r.1) (item.rolls-Declare r.1))) (follows.declares r.1 k))
      (each_keeps (walked_declr p) (declr_stands behind) (declr_fits d) p (declr_keeps p) ds w h)
  layer_keeps (Assign s) h at p w =
      let r = walked_simple s w in
      leads p w r.0 (λ k. subst c.Good (sym (opened (made.Assign r.1) (item.Assign r.1) (item.rolls-Assign r.1))) (follows.assigns r.1 k)) (simple_keeps p s w h)
  layer_keeps (Do m) h at p w = do_keeps p m w h
  layer_keeps (Nest b) h at p w =
      let r = walked_block b.0 (within p) w in
      leads p w (closed (length w.scope.names) r.0)
      (λ k. subst c.Good (sym (opened (made.Nest r.1) (item.Nest r.1) (item.rolls-Nest r.1))) (follows.nests (of_block c r.1) k))
      (in_scope p w r.0 (b.1 h (within p) w))
  layer_keeps (If arms None) h at p w =
      let parts = and_parts (list_all (λ b. b) (map arm_ok (map (λ e. e.0) arms))) true h in
      let a = each (at_nesting p) (map walked_arm (map (λ e. e.0) arms)) w in
      leads p w a.0 (λ k. subst c.Good (sym (opened (made.If a.1 None) (item.If a.1 None) (item.rolls-If a.1 None))) (follows.chooses (map (of_arm c) a.1) k))
      (parts_keep walked_arm arm_ok (of_arm c) p arms w parts.0)
  layer_keeps (If arms (Some b)) h at p w =
      let parts = and_parts (list_all (λ b. b) (map arm_ok (map (λ e. e.0) arms))) (block_ok b.0) h in
      let a = each (at_nesting p) (map walked_arm (map (λ e. e.0) arms)) w in
      let r = walked_block b.0 (within p) a.0 in
      both p w a.0 (closed (length a.0.scope.names) r.0) (parts_keep walked_arm arm_ok (of_arm c) p arms w parts.0) (in_scope p a.0 r.0 (b.1 parts.1 (within p) a.0))
      (λ k l. subst c.Good (sym (opened (made.If a.1 (Some r.1)) (item.If a.1 (Some r.1)) (item.rolls-If a.1 (Some r.1)))) (follows.chooses_last (map (of_arm c) a.1) (of_block c r.1) k l))
  layer_keeps (While test b) h at p w =
      let parts = and_parts (expr_stands behind test) (block_ok b.0) h in
      let t = walked_test test w in
      let r = walked_block b.0 (in_loop p) t.0 in
      both p w t.0 (closed (length t.0.scope.names) r.0) (test_keeps p test w parts.0) (in_scope p t.0 r.0 (b.1 parts.1 (in_loop p) t.0))
      (λ k l. subst c.Good (sym (opened (made.While t.1 r.1) (item.While t.1 r.1) (item.rolls-While t.1 r.1))) (follows.loops t.1 (of_block c r.1) k l))
  layer_keeps (For head b) h at p w =
      let parts = and_parts (head_stands behind head) (block_ok b.0) h in
      let s = walked_head (within p) head w in
      let r = walked_block b.0 (in_loop (within p)) s.0 in
      in_scope p w (closed (length s.0.scope.names) r.0)
      (both p w s.0 (closed (length s.0.scope.names) r.0) (head_keeps (within p) head w parts.0) (in_scope p s.0 r.0 (b.1 parts.1 (in_loop (within p)) s.0))
      (λ k l. subst c.Good (sym (opened (made.For s.1 r.1) (item.For s.1 r.1) (item.rolls-For s.1 r.1))) (follows.loops_for s.1 (of_block c r.1) k l)))
  layer_keeps Break h at p w = record {
    grows = note_grows (home.Local p.function) (unless p.in_loop rule.Jump at) w;
    goal = λ r ready on. subst c.Good (sym (opened made.Break item.Break item.rolls-Break)) follows.breaks;
  }
  layer_keeps Continue h at p w = record {
    grows = note_grows (home.Local p.function) (unless p.in_loop rule.Jump at) w;
    goal = λ r ready on. subst c.Good (sym (opened made.Continue item.Continue item.rolls-Continue)) follows.continues;
  }
  layer_keeps (Return r word) h at p w = return_keeps p word r w h

  step_item : (x : Item-F Item Arm Block Piece) (y : Held) → bare_item y ≡ x → ItemHolds (roll-Item x)
  step_item x y is =
      subst (λ (b : Bool). ItemKept b (walked_item (roll-Item x))) (sym (fold-roll-Item Bool Bool Bool Bool (item_stands behind) (arm_stands behind) (layers_stand behind) (piece_stands behind) x))
      (subst (ItemKept (item_stands behind (oks_item x))) (sym (fold-roll-Item ItemWalk ArmWalk BlockWalk PieceWalk item_walk arm_walk block_walk piece_walk x))
      (subst (λ (z : Item-F Item Arm Block Piece). ItemKept (item_stands behind (oks_item z)) (item_walk (walks_item z))) is (layer_keeps y)))

  -- arms

  made_arm : (test : Made) (b : MadeBlock) → of_arm c (roll-MadeArm (record { test = test; body = b })) ≡ c.arm (record { test = test; body = of_block c b })
  made_arm test b = fold-roll-MadeArm X X X X c.item c.arm c.block c.piece (record { test = test; body = b })

  arm_keeps : (test : Expr) (b : Block) → BlockHolds b → ArmKept (expr_stands behind test && block_ok b) (arm_walk (record { test = test; body = walked_block b }))
  arm_keeps test b holds h p w =
      let parts = and_parts (expr_stands behind test) (block_ok b) h in
      let t = walked_test test w in
      let r = walked_block b (within p) t.0 in
      both p w t.0 (closed (length t.0.scope.names) r.0) (test_keeps p test w parts.0) (in_scope p t.0 r.0 (holds parts.1 (within p) t.0))
      (λ k l. subst c.Good (sym (made_arm t.1 r.1)) (follows.arms t.1 (of_block c r.1) k l))

  step_arm : (x : Arm-F Item Arm Block Piece) (y : Arm-F ((i : Item) × ItemHolds i) ((a : Arm) × ArmHolds a) ((b : Block) × BlockHolds b) ((q : Piece) × PieceHolds q))
      → map-Arm ((i : Item) × ItemHolds i) ((a : Arm) × ArmHolds a) ((b : Block) × BlockHolds b) ((q : Piece) × PieceHolds q) Item Arm Block Piece (λ e. e.0) (λ e. e.0) (λ e. e.0) (λ e. e.0) y ≡ x → ArmHolds (roll-Arm x)
  step_arm x y is =
      let body : BlockHolds x.body = subst (λ (z : Arm-F Item Arm Block Piece). BlockHolds z.body) is y.body.1 in
      subst (λ (b : Bool). ArmKept b (walked_arm (roll-Arm x))) (sym (fold-roll-Arm Bool Bool Bool Bool (item_stands behind) (arm_stands behind) (layers_stand behind) (piece_stands behind) x))
      (subst (ArmKept (expr_stands behind x.test && block_ok x.body)) (sym (fold-roll-Arm ItemWalk ArmWalk BlockWalk PieceWalk item_walk arm_walk block_walk piece_walk x)) (arm_keeps x.test x.body body))

  -- blocks

  made_block : (z : MadeBlock-F MadeItem MadeArm MadeBlock MadePiece)
      → of_block c (roll-MadeBlock z) ≡ c.block (record { items = map (of_piece c) z.items; last_gap = z.last_gap; braced = z.braced; start = z.start; end = z.end })
  made_block z = fold-roll-MadeBlock X X X X c.item c.arm c.block c.piece z

  abbrev ItemsKept : Gap → Bool → ℕ → ℕ → List Piece → Type 0
  ItemsKept gap braced from to qs =
      BlockKept (list_all (λ b. b) (map piece_ok qs) && gap_stands behind gap) (block_walk (record { items = map walked_piece qs; last_gap = gap; braced = braced; start = from; end = to }))

  block_keeps : (qs : List ((q : Piece) × PieceHolds q)) (gap : Gap) (braced : Bool) (from to : ℕ) → ItemsKept gap braced from to (map (λ e. e.0) qs)
  block_keeps qs gap braced from to h p w =
      let parts = and_parts (list_all (λ b. b) (map piece_ok (map (λ e. e.0) qs))) (gap_stands behind gap) h in
      let ps = each (at_nesting p) (map walked_piece (map (λ e. e.0) qs)) w in
      let g = walked_gap gap ps.0 in
      let made : MadeBlock-F MadeItem MadeArm MadeBlock MadePiece = record { items = ps.1; last_gap = g.1; braced = braced; start = from; end = to } in
      both p w ps.0 g.0 (parts_keep walked_piece piece_ok (of_piece c) p qs w parts.0) (gap_keeps p gap ps.0 parts.1)
      (λ k l. subst c.Good (sym (made_block made)) (follows.blocks (map (of_piece c) ps.1) g.1 braced from to k l))

  step_block : (x : Block-F Item Arm Block Piece) (y : Block-F ((i : Item) × ItemHolds i) ((a : Arm) × ArmHolds a) ((b : Block) × BlockHolds b) ((q : Piece) × PieceHolds q))
      → map-Block ((i : Item) × ItemHolds i) ((a : Arm) × ArmHolds a) ((b : Block) × BlockHolds b) ((q : Piece) × PieceHolds q) Item Arm Block Piece (λ e. e.0) (λ e. e.0) (λ e. e.0) (λ e. e.0) y ≡ x → BlockHolds (roll-Block x)
  step_block x y is =
      subst (λ (b : Bool). BlockKept b (walked_block (roll-Block x))) (sym (fold-roll-Block Bool Bool Bool Bool (item_stands behind) (arm_stands behind) (layers_stand behind) (piece_stands behind) x))
      (subst (BlockKept (list_all (λ b. b) (map piece_ok x.items) && gap_stands behind x.last_gap)) (sym (fold-roll-Block ItemWalk ArmWalk BlockWalk PieceWalk item_walk arm_walk block_walk piece_walk x))
      (subst (λ (z : Block-F Item Arm Block Piece). ItemsKept z.last_gap z.braced z.start z.end z.items) is (block_keeps y.items y.last_gap y.braced y.start y.end)))

  -- pieces

  made_piece : (z : MadePiece-F MadeItem MadeArm MadeBlock MadePiece) → of_piece c (roll-MadePiece z) ≡ c.piece (record { gap = z.gap; item = of_item c z.item; start = z.start; end = z.end })
  made_piece z = fold-roll-MadePiece X X X X c.item c.arm c.block c.piece z

  piece_keeps : (gap : Gap) (i : Item) (from to : ℕ) → ItemHolds i → PieceKept (gap_stands behind gap && item_ok i) (piece_walk (record { gap = gap; item = walked_item i; start = from; end = to }))
  piece_keeps gap i from to holds h p w =
      let parts = and_parts (gap_stands behind gap) (item_ok i) h in
      let g = walked_gap gap w in
      let r = walked_item i from p g.0 in
      both p w g.0 r.0 (gap_keeps p gap w parts.0) (holds parts.1 from p g.0)
      (λ k l. subst c.Good (sym (made_piece (record { gap = g.1; item = r.1; start = from; end = to }))) (follows.pieces g.1 (of_item c r.1) from to k l))

  step_piece : (x : Piece-F Item Arm Block Piece) (y : Piece-F ((i : Item) × ItemHolds i) ((a : Arm) × ArmHolds a) ((b : Block) × BlockHolds b) ((q : Piece) × PieceHolds q))
      → map-Piece ((i : Item) × ItemHolds i) ((a : Arm) × ArmHolds a) ((b : Block) × BlockHolds b) ((q : Piece) × PieceHolds q) Item Arm Block Piece (λ e. e.0) (λ e. e.0) (λ e. e.0) (λ e. e.0) y ≡ x → PieceHolds (roll-Piece x)
  step_piece x y is =
      let held : ItemHolds x.item = subst (λ (z : Piece-F Item Arm Block Piece). ItemHolds z.item) is y.item.1 in
      subst (λ (b : Bool). PieceKept b (walked_piece (roll-Piece x))) (sym (fold-roll-Piece Bool Bool Bool Bool (item_stands behind) (arm_stands behind) (layers_stand behind) (piece_stands behind) x))
      (subst (PieceKept (gap_stands behind x.gap && item_ok x.item)) (sym (fold-roll-Piece ItemWalk ArmWalk BlockWalk PieceWalk item_walk arm_walk block_walk piece_walk x)) (piece_keeps x.gap x.item x.start x.end held))

  -- the claim holds of what is made of a block that stands as a text's does
  pub block_good : (b : Block) → block_stands behind b ≡ true → (p : Nesting) (w : Walk) → K p w (walked_block b p w).0 (c.Good (of_block c (walked_block b p w).1))
  block_good = ind-Block ItemHolds ArmHolds BlockHolds PieceHolds step_item step_arm step_block step_piece
