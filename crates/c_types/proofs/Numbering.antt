-- Numbers are given in the order of the text: what a walk makes of a block has those from where the walk's count stands on.
-- Said once for gaps, calls and variables.
use Rattle.std.proofs.Common.{◌≡◌, ℕ, zero, suc, ◌+◌, Bool, true, List, [], ◌∷◌, ◌++◌, length, map, take, option_map, Option, Some, None, refl, sym, ap, subst, ◌∙◌, arith, length-append}
use Rattle.std.specs.List.{range_with_len}
use Rattle.c_tree.specs.Numbers.{from_all, from_last}
use Rattle.c_tree.specs.declared.expr.Expr.{Expr as Made}
use Rattle.c_tree.specs.declared.program.Arm.{Arm as MadeArm, Arm-F as MadeArm-F, roll-Arm as roll-MadeArm, fold-Arm as fold-MadeArm, fold-roll-Arm as fold-roll-MadeArm}
use Rattle.c_tree.specs.declared.program.Block.{Block as MadeBlock, Block-F as MadeBlock-F, roll-Block as roll-MadeBlock, fold-Block as fold-MadeBlock, fold-roll-Block as fold-roll-MadeBlock}
use Rattle.c_tree.specs.declared.program.Call.{Call as MadeCall}
use Rattle.c_tree.specs.declared.program.Declr.{Declr as MadeDeclr}
use Rattle.c_tree.specs.declared.program.ForHead.{ForHead as MadeHead}
use Rattle.c_tree.specs.declared.program.Free.{Free as MadeFree}
use Rattle.c_tree.specs.declared.program.Gap.{Gap as MadeGap}
use Rattle.c_tree.specs.declared.program.Item.{Item as MadeItem, Item-F as MadeItem-F, roll-Item as roll-MadeItem, map-Item as map-MadeItem, fold-Item as fold-MadeItem, fold-roll-Item as fold-roll-MadeItem}
use Rattle.c_tree.specs.declared.program.Item.TheVariants as item
use Rattle.c_tree.specs.declared.program.Item.TheOpen as made
use Rattle.c_tree.specs.declared.program.Piece.{Piece as MadePiece, Piece-F as MadePiece-F, roll-Piece as roll-MadePiece, fold-Piece as fold-MadePiece, fold-roll-Piece as fold-roll-MadePiece}
use Rattle.c_tree.specs.declared.program.Right.{Right as MadeRight}
use Rattle.c_tree.specs.declared.program.Simple.{Simple as MadeSimple}
use Rattle.c_tree.specs.declared.program.Start.{Start as MadeStart}
use Rattle.c_tree.specs.declared.program.Start.TheVariants as start_made
use Rattle.c_tree.specs.declared.tree.Arm.{Arm, Arm-F, roll-Arm, fold-Arm, fold-roll-Arm, map-Arm, ind-Arm}
use Rattle.c_tree.specs.declared.tree.Block.{Block, Block-F, roll-Block, fold-Block, fold-roll-Block, map-Block, ind-Block}
use Rattle.c_tree.specs.declared.tree.Call.{Call}
use Rattle.c_tree.specs.declared.tree.Declr.{Declr}
use Rattle.c_tree.specs.declared.tree.Expr.{Expr}
use Rattle.c_tree.specs.declared.tree.ForHead.{ForHead}
use Rattle.c_tree.specs.declared.tree.Free.{Free}
use Rattle.c_tree.specs.declared.tree.Gap.{Gap}
use Rattle.c_tree.specs.declared.tree.Item.{Item, Item-F, roll-Item, fold-Item, fold-roll-Item, map-Item, ind-Item}
use Rattle.c_tree.specs.declared.tree.Item.TheOpen.{Declare, Assign, Do, Nest, If, While, For, Break, Continue, Return}
use Rattle.c_tree.specs.declared.tree.Piece.{Piece, Piece-F, roll-Piece, fold-Piece, fold-roll-Piece, map-Piece, ind-Piece}
use Rattle.c_tree.specs.declared.tree.Right.{Right}
use Rattle.c_tree.specs.declared.tree.Simple.{Simple}
use Rattle.c_tree.specs.declared.tree.Start.{Start}
use Rattle.c_tree.specs.declared.tree.Start.TheVariants as start
use Rattle.c_types.specs.declared.faults.Fault.{Fault}
use Rattle.c_types.specs.declared.faults.Rule.TheVariants as rule
use Rattle.c_types.specs.declared.scope.Nesting.{Nesting}
use Rattle.c_types.specs.declared.scope.Returned.{Returned}
use Rattle.c_types.specs.declared.scope.Scope.{Scope}
use Rattle.c_types.specs.declared.scope.Walk.{Walk}
use Rattle.c_types.specs.Blocks.{free_of, walked_free, test_of, next_gap, walked_gap, walked_test, within, in_loop, scoped, ItemWalk, ArmWalk, BlockWalk, PieceWalk, walked_start, head_behind, walked_head, walked_for, walked_while, inner, at_nesting, walked_if, jump, item_walk, arm_walk, block_walk, piece_walk, walked_block, walked_piece, walked_item}
use Rattle.c_types.specs.Expressions.{judged}
use Rattle.c_types.specs.Fits.{unless}
use Rattle.c_types.specs.InTurn.{in_turn, each, optional}
use Rattle.c_types.specs.Scopes.{closed, noted, with_scope}
use Rattle.c_types.specs.Statements.{walked_simple, walked_declr, walked_return, walked_do}

-- ranges

pub range_joined : (a m n : ℕ) → range_with_len a m ++ range_with_len (a + m) n ≡ range_with_len a (m + n)
range_joined a zero n = let e : a + 0 ≡ a = omega arith in let z : 0 + n ≡ n = omega arith in ap (λ (k : ℕ). range_with_len k n) e ∙ ap (range_with_len a) (sym z)
range_joined a (suc m) n =
    let here : a + suc m ≡ (a + 1) + m = omega arith in
    let long : suc m + n ≡ suc (m + n) = omega arith in
    ap (λ (k : ℕ). a ∷ range_with_len (a + 1) m ++ range_with_len k n) here ∙ ap (λ (xs : List ℕ). a ∷ xs) (range_joined (a + 1) m n) ∙ ap (range_with_len a) (sym long)

pub first_empty : {A : Type 0} (xs ys : List A) → xs ++ ys ≡ [] → xs ≡ []
first_empty [] ys h = refl
first_empty (x ∷ xs) ys h = absurd cc

-- the numbers in each part of a program, those of its gaps, declarators, assignments, calls and returned values given
pub record Numbering : Type 0 where
  pub gap : MadeGap → List ℕ
  pub declr : MadeDeclr → List ℕ
  pub simple : MadeSimple → List ℕ
  pub call : MadeCall → List ℕ
  pub right : MadeRight → List ℕ

abbrev pub of_any : {A : Type 0} → (A → List ℕ) → Option A → List ℕ
of_any f None = []
of_any f (Some x) = f x

module _ (n : Numbering) where
  abbrev pub of_start : MadeStart → List ℕ
  of_start (start_made.Declare d) = n.declr d
  of_start (start_made.Assign s) = n.simple s

  abbrev pub of_head : MadeHead → List ℕ
  of_head h = from_all (map of_start h.start) ++ of_any n.simple h.step

  abbrev pub of_item : MadeItem-F (List ℕ) (List ℕ) (List ℕ) (List ℕ) → List ℕ
  of_item (made.Declare ds) = from_all (map n.declr ds)
  of_item (made.Assign s) = n.simple s
  of_item (made.Do c) = n.call c
  of_item (made.Nest b) = b
  of_item (made.If arms last) = from_all arms ++ from_last last
  of_item (made.While e b) = b
  of_item (made.For h b) = of_head h ++ b
  of_item made.Break = []
  of_item made.Continue = []
  of_item (made.Return r at) = of_any n.right r

  abbrev pub of_arm : MadeArm-F (List ℕ) (List ℕ) (List ℕ) (List ℕ) → List ℕ
  of_arm a = a.body

  abbrev pub of_block : MadeBlock-F (List ℕ) (List ℕ) (List ℕ) (List ℕ) → List ℕ
  of_block b = from_all b.items ++ n.gap b.last_gap

  abbrev pub of_piece : MadePiece-F (List ℕ) (List ℕ) (List ℕ) (List ℕ) → List ℕ
  of_piece p = n.gap p.gap ++ p.item

  abbrev pub in_item : MadeItem → List ℕ
  in_item = fold-MadeItem (List ℕ) (List ℕ) (List ℕ) (List ℕ) of_item of_arm of_block of_piece

  abbrev pub in_arm : MadeArm → List ℕ
  in_arm = fold-MadeArm (List ℕ) (List ℕ) (List ℕ) (List ℕ) of_item of_arm of_block of_piece

  abbrev pub in_block : MadeBlock → List ℕ
  in_block = fold-MadeBlock (List ℕ) (List ℕ) (List ℕ) (List ℕ) of_item of_arm of_block of_piece

  abbrev pub in_piece : MadePiece → List ℕ
  in_piece = fold-MadePiece (List ℕ) (List ℕ) (List ℕ) (List ℕ) of_item of_arm of_block of_piece

  -- an item, one level opened

  opened : (x : MadeItem-F MadeItem MadeArm MadeBlock MadePiece) (i : MadeItem) → roll-MadeItem x ≡ i → in_item i ≡ of_item (map-MadeItem MadeItem MadeArm MadeBlock MadePiece (List ℕ) (List ℕ) (List ℕ) (List ℕ) in_item in_arm in_block in_piece x)
  opened x i is = ap in_item (sym is) ∙ fold-roll-MadeItem (List ℕ) (List ℕ) (List ℕ) (List ℕ) of_item of_arm of_block of_piece x

  pub in_declare : (ds : List MadeDeclr) → in_item (item.Declare ds) ≡ from_all (map n.declr ds)
  in_declare ds = opened (made.Declare ds) (item.Declare ds) (item.rolls-Declare ds)

  pub in_assign : (s : MadeSimple) → in_item (item.Assign s) ≡ n.simple s
  in_assign s = opened (made.Assign s) (item.Assign s) (item.rolls-Assign s)

  pub in_do : (c : MadeCall) → in_item (item.Do c) ≡ n.call c
  in_do c = opened (made.Do c) (item.Do c) (item.rolls-Do c)

  in_nest : (b : MadeBlock) → in_item (item.Nest b) ≡ in_block b
  in_nest b = opened (made.Nest b) (item.Nest b) (item.rolls-Nest b)

  in_if : (arms : List MadeArm) (last : Option MadeBlock) → in_item (item.If arms last) ≡ from_all (map in_arm arms) ++ of_any in_block last
  in_if arms None = opened (made.If arms None) (item.If arms None) (item.rolls-If arms None)
  in_if arms (Some b) = opened (made.If arms (Some b)) (item.If arms (Some b)) (item.rolls-If arms (Some b))

  in_while : (e : Made) (b : MadeBlock) → in_item (item.While e b) ≡ in_block b
  in_while e b = opened (made.While e b) (item.While e b) (item.rolls-While e b)

  in_for : (h : MadeHead) (b : MadeBlock) → in_item (item.For h b) ≡ of_head h ++ in_block b
  in_for h b = opened (made.For h b) (item.For h b) (item.rolls-For h b)

  in_break : in_item item.Break ≡ []
  in_break = opened made.Break item.Break item.rolls-Break

  in_continue : in_item item.Continue ≡ []
  in_continue = opened made.Continue item.Continue item.rolls-Continue

  pub in_return : (r : Option MadeRight) (at : ℕ) → in_item (item.Return r at) ≡ of_any n.right r
  in_return r at = opened (made.Return r at) (item.Return r at) (item.rolls-Return r at)

-- from one walk to another no number is given; where no rule is broken at the end, none was at the beginning
pub record Keeps (count : Walk → ℕ) (w u : Walk) : Type 0 where
  pub clean : u.faults ≡ [] → w.faults ≡ []
  pub funs : u.funs ≡ w.funs
  pub counted : count u ≡ count w

-- from one walk to another these numbers are given, next to one another from the count on, where no rule is broken
pub record Gives (count : Walk → ℕ) (w u : Walk) (xs : List ℕ) : Type 0 where
  pub clean : u.faults ≡ [] → w.faults ≡ []
  pub funs : u.funs ≡ w.funs
  pub numbers : u.faults ≡ [] → xs ≡ range_with_len (count w) (length xs)
  pub counted : u.faults ≡ [] → count u ≡ count w + length xs

module _ (count : Walk → ℕ) where
  pub keeps_all : (w : Walk) → Keeps count w w
  keeps_all w = record { clean = λ h. h; funs = refl; counted = refl }

  pub keeps_both : (w u v : Walk) → Keeps count w u → Keeps count u v → Keeps count w v
  keeps_both w u v g h = record { clean = λ e. g.clean (h.clean e); funs = h.funs ∙ g.funs; counted = h.counted ∙ g.counted }

  pub gives_none : (w u : Walk) → Keeps count w u → Gives count w u []
  gives_none w u k = record { clean = k.clean; funs = k.funs; numbers = λ e. refl; counted = λ e. let same : count u ≡ count w = k.counted in omega arith }

  pub gives_both : (w u v : Walk) (xs ys : List ℕ) → Gives count w u xs → Gives count u v ys → Gives count w v (xs ++ ys)
  gives_both w u v xs ys g h =
      let long : length (xs ++ ys) ≡ length xs + length ys = length-append xs ys in
      record {
        clean = λ e. g.clean (h.clean e);
        funs = h.funs ∙ g.funs;
        numbers = λ e. ap (λ (zs : List ℕ). zs ++ ys) (g.numbers (h.clean e))
            ∙ ap (λ (zs : List ℕ). range_with_len (count w) (length xs) ++ zs) (h.numbers e ∙ ap (λ (k : ℕ). range_with_len k (length ys)) (g.counted (h.clean e)))
            ∙ range_joined (count w) (length xs) (length ys) ∙ ap (range_with_len (count w)) (sym long);
        counted = λ e.
            let first : count u ≡ count w + length xs = g.counted (h.clean e) in
            let second : count v ≡ count u + length ys = h.counted e in
            omega arith;
      }

  pub gives_to : (w u v : Walk) (xs : List ℕ) → Gives count w u xs → Keeps count u v → Gives count w v xs
  gives_to w u v xs g k = record { clean = λ e. g.clean (k.clean e); funs = k.funs ∙ g.funs; numbers = λ e. g.numbers (k.clean e); counted = λ e. k.counted ∙ g.counted (k.clean e) }

  pub gives_from : (w u v : Walk) (xs : List ℕ) → Keeps count w u → Gives count u v xs → Gives count w v xs
  gives_from w u v xs k g = record {
    clean = λ e. k.clean (g.clean e);
    funs = g.funs ∙ k.funs;
    numbers = λ e. g.numbers e ∙ ap (λ (m : ℕ). range_with_len m (length xs)) k.counted;
    counted = λ e. g.counted e ∙ ap (λ (m : ℕ). m + length xs) k.counted;
  }

  pub gives_as : (w u : Walk) (xs ys : List ℕ) → xs ≡ ys → Gives count w u xs → Gives count w u ys
  gives_as w u xs ys e = subst (Gives count w u) e

-- what the smallest parts owe
pub record Numbers (n : Numbering) (count : Walk → ℕ) : Type 0 where
  pub fault : (fs : List Fault) (w : Walk) → count (noted fs w) ≡ count w
  pub scope : (w : Walk) (s : Scope) → count (with_scope w s) ≡ count w
  pub gap : (w : Walk) (frees : List MadeFree) → Gives count w (next_gap w).0 (n.gap (record { number = w.gaps; frees = frees }))
  pub declr : (p : Nesting) (d : Declr) (w : Walk) → Gives count w (walked_declr p d w).0 (n.declr (walked_declr p d w).1)
  pub simple : (s : Simple) (w : Walk) → Gives count w (walked_simple s w).0 (n.simple (walked_simple s w).1)
  pub called : (c : Call) (w : Walk) → Gives count w (walked_do c w).0 (in_item n (walked_do c w).1)
  pub returned : (t : Returned) (at : ℕ) (r : Option Right) (w : Walk) → Gives count w (walked_return t at r w).0 (in_item n (walked_return t at r w).1)

module _ (n : Numbering) (count : Walk → ℕ) (law : Numbers n count) where
  -- parts one after another

  each_gives : {X Y : Type 0} (f : X → Walk → Walk × Y) (ns : Y → List ℕ) → ((x : X) (w : Walk) → Gives count w (f x w).0 (ns (f x w).1)) → (xs : List X) (w : Walk) →
      Gives count w (each f xs w).0 (from_all (map ns (each f xs w).1))
  each_gives f ns one [] w = gives_none count w w (keeps_all count w)
  each_gives f ns one (x ∷ xs) w =
      gives_both count w (f x w).0 (each f xs (f x w).0).0 (ns (f x w).1) (from_all (map ns (each f xs (f x w).0).1)) (one x w) (each_gives f ns one xs (f x w).0)

  parts_give : {Q Y : Type 0} (walk : Q → Nesting → Walk → Walk × Y) (ns : Y → List ℕ) (p : Nesting) (qs : List ((q : Q) × ((p : Nesting) (w : Walk) → Gives count w (walk q p w).0 (ns (walk q p w).1)))) (w : Walk) →
      Gives count w (each (at_nesting p) (map walk (map (λ e. e.0) qs)) w).0 (from_all (map ns (each (at_nesting p) (map walk (map (λ e. e.0) qs)) w).1))
  parts_give walk ns p [] w = gives_none count w w (keeps_all count w)
  parts_give walk ns p (q ∷ qs) w =
      let r = walk q.0 p w in
      gives_both count w r.0 (each (at_nesting p) (map walk (map (λ e. e.0) qs)) r.0).0 (ns r.1) (from_all (map ns (each (at_nesting p) (map walk (map (λ e. e.0) qs)) r.0).1)) (q.1 p w) (parts_give walk ns p qs r.0)

  any_gives : {X Y : Type 0} (f : X → Walk → Walk × Y) (ns : Y → List ℕ) → ((x : X) (w : Walk) → Gives count w (f x w).0 (ns (f x w).1)) → (o : Option X) (w : Walk) → Gives count w (optional f o w).0 (of_any ns (optional f o w).1)
  any_gives f ns one None w = gives_none count w w (keeps_all count w)
  any_gives f ns one (Some x) w = one x w

  -- gaps, tests and what stands before the body of a for

  fault_keeps : (fs : List Fault) (w : Walk) → Keeps count w (noted fs w)
  fault_keeps fs w = record { clean = first_empty w.faults fs; funs = refl; counted = law.fault fs w }

  scope_keeps : (w : Walk) (s : Scope) → Keeps count w (with_scope w s)
  scope_keeps w s = record { clean = λ h. h; funs = refl; counted = law.scope w s }

  frees_keep : (fs : List Free) (w : Walk) → Keeps count w (each walked_free fs w).0
  frees_keep [] w = keeps_all count w
  frees_keep (f ∷ fs) w = keeps_both count w (walked_free f w).0 (each walked_free fs (walked_free f w).0).0 (fault_keeps (free_of w.scope f).faults w) (frees_keep fs (walked_free f w).0)

  pub gap_gives : (g : Gap) (w : Walk) → Gives count w (walked_gap g w).0 (n.gap (walked_gap g w).1)
  gap_gives g w = gives_to count w (next_gap w).0 (walked_gap g w).0 (n.gap (walked_gap g w).1) (law.gap w (each walked_free g.frees (next_gap w).0).1) (frees_keep g.frees (next_gap w).0)

  test_keeps : (e : Expr) (w : Walk) → Keeps count w (walked_test e w).0
  test_keeps e w = fault_keeps (test_of (judged w.scope e true)).faults w

  tests_keep : (o : Option Expr) (w : Walk) → Keeps count w (optional walked_test o w).0
  tests_keep None w = keeps_all count w
  tests_keep (Some e) w = test_keeps e w

  start_gives : (p : Nesting) (s : Start) (w : Walk) → Gives count w (walked_start p s w).0 (of_start n (walked_start p s w).1)
  start_gives p (start.Declare d) w = law.declr p d w
  start_gives p (start.Assign s) w = law.simple s w

  head_gives : (p : Nesting) (h : ForHead) (w : Walk) → Gives count w (walked_head p h w).0 (of_head n (walked_head p h w).1)
  head_gives p h w =
      let r = each (walked_start p) h.start w in
      let t = optional walked_test h.test r.0 in
      let s = optional walked_simple h.step t.0 in
      gives_both count w t.0 s.0 (from_all (map (of_start n) r.1)) (of_any n.simple s.1)
      (gives_to count w r.0 t.0 (from_all (map (of_start n) r.1)) (each_gives (walked_start p) (of_start n) (start_gives p) h.start w) (tests_keep h.test r.0))
      (any_gives walked_simple n.simple law.simple h.step t.0)

  -- blocks, items, arms and pieces

  abbrev BlockGives : BlockWalk → Type 0
  BlockGives f = (p : Nesting) (w : Walk) → Gives count w (f p w).0 (in_block n (f p w).1)

  abbrev ArmGives : ArmWalk → Type 0
  ArmGives f = (p : Nesting) (w : Walk) → Gives count w (f p w).0 (in_arm n (f p w).1)

  abbrev PieceGives : PieceWalk → Type 0
  PieceGives f = (p : Nesting) (w : Walk) → Gives count w (f p w).0 (in_piece n (f p w).1)

  abbrev ItemGives : ItemWalk → Type 0
  ItemGives f = (at : ℕ) (p : Nesting) (w : Walk) → Gives count w (f at p w).0 (in_item n (f at p w).1)

  closed_keeps : (k : ℕ) (w : Walk) → Keeps count w (closed k w)
  closed_keeps k w = scope_keeps w (record w.scope { names = take k w.scope.names })

  scoped_gives : {A : Type 0} (f : Walk → Walk × A) (ns : A → List ℕ) (w : Walk) → Gives count w (f w).0 (ns (f w).1) → Gives count w (scoped f w).0 (ns (scoped f w).1)
  scoped_gives f ns w g = gives_to count w (f w).0 (scoped f w).0 (ns (f w).1) g (closed_keeps (length w.scope.names) (f w).0)

  abbrev walk_of_item : Item → ItemWalk
  walk_of_item = fold-Item ItemWalk ArmWalk BlockWalk PieceWalk item_walk arm_walk block_walk piece_walk

  abbrev walk_of_arm : Arm → ArmWalk
  walk_of_arm = fold-Arm ItemWalk ArmWalk BlockWalk PieceWalk item_walk arm_walk block_walk piece_walk

  abbrev walk_of_piece : Piece → PieceWalk
  walk_of_piece = fold-Piece ItemWalk ArmWalk BlockWalk PieceWalk item_walk arm_walk block_walk piece_walk

  abbrev BlockHolds : Block → Type 0
  BlockHolds b = BlockGives (walked_block b)

  abbrev ArmHolds : Arm → Type 0
  ArmHolds a = ArmGives (walk_of_arm a)

  abbrev PieceHolds : Piece → Type 0
  PieceHolds q = PieceGives (walk_of_piece q)

  abbrev ItemHolds : Item → Type 0
  ItemHolds i = ItemGives (walk_of_item i)

  abbrev Held : Type 0
  Held = Item-F ((i : Item) × ItemHolds i) ((a : Arm) × ArmHolds a) ((b : Block) × BlockHolds b) ((q : Piece) × PieceHolds q)

  abbrev bare_item : Held → Item-F Item Arm Block Piece
  bare_item = map-Item ((i : Item) × ItemHolds i) ((a : Arm) × ArmHolds a) ((b : Block) × BlockHolds b) ((q : Piece) × PieceHolds q) Item Arm Block Piece (λ e. e.0) (λ e. e.0) (λ e. e.0) (λ e. e.0)

  abbrev walks_item : Item-F Item Arm Block Piece → Item-F ItemWalk ArmWalk BlockWalk PieceWalk
  walks_item = map-Item Item Arm Block Piece ItemWalk ArmWalk BlockWalk PieceWalk walk_of_item walk_of_arm walked_block walk_of_piece

  inner_gives : (f : BlockWalk) → BlockGives f → (p : Nesting) (w : Walk) → Gives count w (inner p f w).0 (in_block n (inner p f w).1)
  inner_gives f g p w = scoped_gives (f (within p)) (in_block n) w (g (within p) w)

  -- the body of a loop
  abbrev of_loop : Nesting → BlockWalk → Walk → Walk × MadeBlock
  of_loop p f w = scoped (f (in_loop p)) w

  looped_gives : (f : BlockWalk) → BlockGives f → (p : Nesting) (w : Walk) → Gives count w (of_loop p f w).0 (in_block n (of_loop p f w).1)
  looped_gives f g p w = scoped_gives (f (in_loop p)) (in_block n) w (g (in_loop p) w)

  last_gives : (last : Option ((b : Block) × BlockHolds b)) (p : Nesting) (w : Walk) →
      Gives count w (optional (inner p) (option_map walked_block (option_map (λ e. e.0) last)) w).0 (of_any (in_block n) (optional (inner p) (option_map walked_block (option_map (λ e. e.0) last)) w).1)
  last_gives None p w = gives_none count w w (keeps_all count w)
  last_gives (Some b) p w = inner_gives (walked_block b.0) b.1 p w

  if_gives : (arms : List ((a : Arm) × ArmHolds a)) (last : Option ((b : Block) × BlockHolds b)) (p : Nesting) (w : Walk) →
      let r = walked_if p (map walk_of_arm (map (λ e. e.0) arms)) (option_map walked_block (option_map (λ e. e.0) last)) w in
      Gives count w r.0 (in_item n r.1)
  if_gives arms last p w =
      let a = each (at_nesting p) (map walk_of_arm (map (λ e. e.0) arms)) w in
      let b = optional (inner p) (option_map walked_block (option_map (λ e. e.0) last)) a.0 in
      gives_as count w b.0 (from_all (map (in_arm n) a.1) ++ of_any (in_block n) b.1) (in_item n (item.If a.1 b.1)) (sym (in_if n a.1 b.1))
      (gives_both count w a.0 b.0 (from_all (map (in_arm n) a.1)) (of_any (in_block n) b.1) (parts_give walk_of_arm (in_arm n) p arms w) (last_gives last p a.0))

  while_gives : (test : Expr) (b : Block) → BlockHolds b → (p : Nesting) (w : Walk) → let r = walked_while p test (walked_block b) w in Gives count w r.0 (in_item n r.1)
  while_gives test b g p w =
      let t = walked_test test w in
      let r = of_loop p (walked_block b) t.0 in
      gives_as count w r.0 (in_block n r.1) (in_item n (item.While t.1 r.1)) (sym (in_while n t.1 r.1))
      (gives_from count w t.0 r.0 (in_block n r.1) (test_keeps test w) (looped_gives (walked_block b) g p t.0))

  for_gives : (h : ForHead) (b : Block) → BlockHolds b → (p : Nesting) (w : Walk) → let r = walked_for p h (walked_block b) w in Gives count w r.0 (in_item n r.1)
  for_gives h b g p w =
      let s = walked_head (within p) h w in
      let r = of_loop (within p) (walked_block b) s.0 in
      gives_as count w r.0 (of_head n s.1 ++ in_block n r.1) (in_item n (item.For s.1 r.1)) (sym (in_for n s.1 r.1))
      (gives_both count w s.0 r.0 (of_head n s.1) (in_block n r.1) (head_gives (within p) h w) (looped_gives (walked_block b) g (within p) s.0))

  jump_gives : (at : ℕ) (p : Nesting) (i : MadeItem) (w : Walk) → in_item n i ≡ [] → Gives count w (jump at p i w).0 (in_item n (jump at p i w).1)
  jump_gives at p i w none = gives_as count w (jump at p i w).0 [] (in_item n i) (sym none) (gives_none count w (jump at p i w).0 (fault_keeps (unless p.in_loop rule.Jump at) w))

  layer_gives : (y : Held) → ItemGives (item_walk (walks_item (bare_item y)))
  layer_gives (Declare ds) at p w =
      let r = each (walked_declr p) ds w in
      gives_as count w r.0 (from_all (map n.declr r.1)) (in_item n (item.Declare r.1)) (sym (in_declare n r.1)) (each_gives (walked_declr p) n.declr (law.declr p) ds w)
  layer_gives (Assign s) at p w =
      let r = walked_simple s w in
      gives_as count w r.0 (n.simple r.1) (in_item n (item.Assign r.1)) (sym (in_assign n r.1)) (law.simple s w)
  layer_gives (Do c) at p w = law.called c w
  layer_gives (Nest b) at p w =
      let r = inner p (walked_block b.0) w in
      gives_as count w r.0 (in_block n r.1) (in_item n (item.Nest r.1)) (sym (in_nest n r.1)) (inner_gives (walked_block b.0) b.1 p w)
  layer_gives (If arms None) at p w = if_gives arms None p w
  layer_gives (If arms (Some b)) at p w = if_gives arms (Some b) p w
  layer_gives (While test body) at p w = while_gives test body.0 body.1 p w
  layer_gives (For head body) at p w = scoped_gives (walked_for p head (walked_block body.0)) (in_item n) w (for_gives head body.0 body.1 p w)
  layer_gives Break at p w = jump_gives at p item.Break w (in_break n)
  layer_gives Continue at p w = jump_gives at p item.Continue w (in_continue n)
  layer_gives (Return r word) at p w = law.returned p.returns word r w

  step_item : (x : Item-F Item Arm Block Piece) (y : Held) → bare_item y ≡ x → ItemHolds (roll-Item x)
  step_item x y is =
      subst ItemGives (sym (fold-roll-Item ItemWalk ArmWalk BlockWalk PieceWalk item_walk arm_walk block_walk piece_walk x))
      (subst (λ (z : Item-F Item Arm Block Piece). ItemGives (item_walk (walks_item z))) is (layer_gives y))

  made_arm : (test : Made) (b : MadeBlock) → in_arm n (roll-MadeArm (record { test = test; body = b })) ≡ in_block n b
  made_arm test b = fold-roll-MadeArm (List ℕ) (List ℕ) (List ℕ) (List ℕ) (of_item n) (of_arm n) (of_block n) (of_piece n) (record { test = test; body = b })

  arm_gives : (test : Expr) (f : BlockWalk) → BlockGives f → ArmGives (arm_walk (record { test = test; body = f }))
  arm_gives test f g p w =
      let t = walked_test test w in
      let b = inner p f t.0 in
      gives_as count w b.0 (in_block n b.1) (in_arm n (roll-MadeArm (record { test = t.1; body = b.1 }))) (sym (made_arm t.1 b.1))
      (gives_from count w t.0 b.0 (in_block n b.1) (test_keeps test w) (inner_gives f g p t.0))

  step_arm : (x : Arm-F Item Arm Block Piece) (y : Arm-F ((i : Item) × ItemHolds i) ((a : Arm) × ArmHolds a) ((b : Block) × BlockHolds b) ((q : Piece) × PieceHolds q))
      → map-Arm ((i : Item) × ItemHolds i) ((a : Arm) × ArmHolds a) ((b : Block) × BlockHolds b) ((q : Piece) × PieceHolds q) Item Arm Block Piece (λ e. e.0) (λ e. e.0) (λ e. e.0) (λ e. e.0) y ≡ x → ArmHolds (roll-Arm x)
  step_arm x y is =
      let body : BlockHolds x.body = subst (λ (z : Arm-F Item Arm Block Piece). BlockHolds z.body) is y.body.1 in
      subst ArmGives (sym (fold-roll-Arm ItemWalk ArmWalk BlockWalk PieceWalk item_walk arm_walk block_walk piece_walk x)) (arm_gives x.test (walked_block x.body) body)

  made_block : (z : MadeBlock-F MadeItem MadeArm MadeBlock MadePiece) → in_block n (roll-MadeBlock z) ≡ from_all (map (in_piece n) z.items) ++ n.gap z.last_gap
  made_block z = fold-roll-MadeBlock (List ℕ) (List ℕ) (List ℕ) (List ℕ) (of_item n) (of_arm n) (of_block n) (of_piece n) z

  abbrev ItemsGive : Gap → Bool → ℕ → ℕ → List Piece → Type 0
  ItemsGive gap braced from to qs = BlockGives (block_walk (record { items = map walk_of_piece qs; last_gap = gap; braced = braced; start = from; end = to }))

  block_gives : (qs : List ((q : Piece) × PieceHolds q)) (gap : Gap) (braced : Bool) (from to : ℕ) → ItemsGive gap braced from to (map (λ e. e.0) qs)
  block_gives qs gap braced from to p w =
      let ps = each (at_nesting p) (map walk_of_piece (map (λ e. e.0) qs)) w in
      let g = walked_gap gap ps.0 in
      let made : MadeBlock-F MadeItem MadeArm MadeBlock MadePiece = record { items = ps.1; last_gap = g.1; braced = braced; start = from; end = to } in
      gives_as count w g.0 (from_all (map (in_piece n) ps.1) ++ n.gap g.1) (in_block n (roll-MadeBlock made)) (sym (made_block made))
      (gives_both count w ps.0 g.0 (from_all (map (in_piece n) ps.1)) (n.gap g.1) (parts_give walk_of_piece (in_piece n) p qs w) (gap_gives gap ps.0))

  step_block : (x : Block-F Item Arm Block Piece) (y : Block-F ((i : Item) × ItemHolds i) ((a : Arm) × ArmHolds a) ((b : Block) × BlockHolds b) ((q : Piece) × PieceHolds q))
      → map-Block ((i : Item) × ItemHolds i) ((a : Arm) × ArmHolds a) ((b : Block) × BlockHolds b) ((q : Piece) × PieceHolds q) Item Arm Block Piece (λ e. e.0) (λ e. e.0) (λ e. e.0) (λ e. e.0) y ≡ x → BlockHolds (roll-Block x)
  step_block x y is =
      subst BlockGives (sym (fold-roll-Block ItemWalk ArmWalk BlockWalk PieceWalk item_walk arm_walk block_walk piece_walk x))
      (subst (λ (z : Block-F Item Arm Block Piece). ItemsGive z.last_gap z.braced z.start z.end z.items) is (block_gives y.items y.last_gap y.braced y.start y.end))

  made_piece : (z : MadePiece-F MadeItem MadeArm MadeBlock MadePiece) → in_piece n (roll-MadePiece z) ≡ n.gap z.gap ++ in_item n z.item
  made_piece z = fold-roll-MadePiece (List ℕ) (List ℕ) (List ℕ) (List ℕ) (of_item n) (of_arm n) (of_block n) (of_piece n) z

  piece_gives : (gap : Gap) (f : ItemWalk) (from to : ℕ) → ItemGives f → PieceGives (piece_walk (record { gap = gap; item = f; start = from; end = to }))
  piece_gives gap f from to h p w =
      let g = walked_gap gap w in
      let i = f from p g.0 in
      let made : MadePiece-F MadeItem MadeArm MadeBlock MadePiece = record { gap = g.1; item = i.1; start = from; end = to } in
      gives_as count w i.0 (n.gap g.1 ++ in_item n i.1) (in_piece n (roll-MadePiece made)) (sym (made_piece made))
      (gives_both count w g.0 i.0 (n.gap g.1) (in_item n i.1) (gap_gives gap w) (h from p g.0))

  step_piece : (x : Piece-F Item Arm Block Piece) (y : Piece-F ((i : Item) × ItemHolds i) ((a : Arm) × ArmHolds a) ((b : Block) × BlockHolds b) ((q : Piece) × PieceHolds q))
      → map-Piece ((i : Item) × ItemHolds i) ((a : Arm) × ArmHolds a) ((b : Block) × BlockHolds b) ((q : Piece) × PieceHolds q) Item Arm Block Piece (λ e. e.0) (λ e. e.0) (λ e. e.0) (λ e. e.0) y ≡ x → PieceHolds (roll-Piece x)
  step_piece x y is =
      let held : ItemHolds x.item = subst (λ (z : Piece-F Item Arm Block Piece). ItemHolds z.item) is y.item.1 in
      subst PieceGives (sym (fold-roll-Piece ItemWalk ArmWalk BlockWalk PieceWalk item_walk arm_walk block_walk piece_walk x)) (piece_gives x.gap (walk_of_item x.item) x.start x.end held)

  -- what a walk makes of a block has the numbers from its count on
  pub block_numbers : (b : Block) (p : Nesting) (w : Walk) → Gives count w (walked_block b p w).0 (in_block n (walked_block b p w).1)
  block_numbers = ind-Block ItemHolds ArmHolds BlockHolds PieceHolds step_item step_arm step_block step_piece

  pub arm_numbers : (a : Arm) (p : Nesting) (w : Walk) → Gives count w (walk_of_arm a p w).0 (in_arm n (walk_of_arm a p w).1)
  arm_numbers = ind-Arm ItemHolds ArmHolds BlockHolds PieceHolds step_item step_arm step_block step_piece

  pub piece_numbers : (q : Piece) (p : Nesting) (w : Walk) → Gives count w (walk_of_piece q p w).0 (in_piece n (walk_of_piece q p w).1)
  piece_numbers = ind-Piece ItemHolds ArmHolds BlockHolds PieceHolds step_item step_arm step_block step_piece
