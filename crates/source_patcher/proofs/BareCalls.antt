-- Which functions call each other in a program doesn't hang on its gaps, offsets and braces.
use Rattle.std.proofs.Common.{◌≡◌, ℕ, zero, suc, ◌+◌, ◌<◌, List, [], ◌∷◌, ◌++◌, map, flat_map, Option, Some, None, option_map, length, refl, sym, ap, subst, ◌∙◌, arith}
use Rattle.std.specs.Prelude.{slice_index_or}
use Rattle.std.specs.List.{Contains}
use Rattle.std.proofs.lemmas.List.{map-append}
use Rattle.c_tree.specs.Alike.{IsAlike, bare_block, bare_call, bare_declr, bare_fun, bare_gap, bare_item, bare_right, bare_simple, bare_start}
use Rattle.c_tree.specs.Cycles.{Calls, IsCyclic}
use Rattle.c_tree.specs.Fill.{fill, filled, regapped_fun}
use Rattle.c_tree.specs.UserCalls.{Here, arm_calls, arm_calls_in, block_calls, call_calls, calls_from, calls_in, declr_calls, from_option, item_calls, item_calls_in, piece_calls, piece_calls_in, right_calls, simple_calls, start_calls, user_calls}
use Rattle.c_tree.specs.declared.choice.Choice.{Choice}
use Rattle.c_tree.specs.declared.control.UserCall.{UserCall}
use Rattle.c_tree.specs.declared.program.Arm.{Arm, Arm-F, roll-Arm, fold-roll-Arm, map-Arm}
use Rattle.c_tree.specs.declared.program.Block.{Block, Block-F, roll-Block, fold-roll-Block, map-Block, ind-Block}
use Rattle.c_tree.specs.declared.program.Call.{Call}
use Rattle.c_tree.specs.declared.program.Call.TheVariants as call
use Rattle.c_tree.specs.declared.program.Declr.{Declr}
use Rattle.c_tree.specs.declared.program.FunDef.{FunDef}
use Rattle.c_tree.specs.declared.program.Item.{Item, Item-F, roll-Item, fold-roll-Item, map-Item}
use Rattle.c_tree.specs.declared.program.Item.TheOpen.{Declare, Assign, Do, Nest, If, While, For, Break, Continue, Return}
use Rattle.c_tree.specs.declared.program.Piece.{Piece, Piece-F, roll-Piece, fold-roll-Piece, map-Piece}
use Rattle.c_tree.specs.declared.program.Program.{Program}
use Rattle.c_tree.specs.declared.program.Right.{Right}
use Rattle.c_tree.specs.declared.program.Right.TheVariants as right
use Rattle.c_tree.specs.declared.program.Simple.{Simple}
use Rattle.c_tree.specs.declared.program.Start.{Start}
use Rattle.c_tree.specs.declared.program.Start.TheVariants as start
use Rattle.c_tree.proofs.RegappedFolds.{fold_kept}
use Rattle.c_tree.proofs.Rebuilds.{Maps, Rebuilds, in_block, in_item, in_piece, rebuilt, rebuilt_rebuilds}
use Rattle.source_patcher.proofs.BareFlow.{layers_with}

-- a call without its offset
abbrev unplaced : UserCall → UserCall
unplaced c = record c { at = 0 }

abbrev all_unplaced : Here → Here
all_unplaced = map unplaced

-- parts of items

call_unplaced : (f : ℕ) (c : Call) → call_calls f (bare_call c) ≡ all_unplaced (call_calls f c)
call_unplaced f (call.User n g xs at) = refl
call_unplaced f (call.Malloc s at) = refl
call_unplaced f (call.Getchar at) = refl
call_unplaced f (call.Putchar e at) = refl
call_unplaced f (call.Printf text xs at) = refl

right_unplaced : (f : ℕ) (r : Right) → right_calls f (bare_right r) ≡ all_unplaced (right_calls f r)
right_unplaced f (right.Plain e) = refl
right_unplaced f (right.Call c) = call_unplaced f c

any_unplaced : {A : Type 0} (calls : A → Here) (bared : A → A) → ((x : A) → calls (bared x) ≡ all_unplaced (calls x)) → (o : Option A) → from_option calls (option_map bared o) ≡ all_unplaced (from_option calls o)
any_unplaced calls bared same None = refl
any_unplaced calls bared same (Some x) = same x

each_unplaced : {A : Type 0} (calls : A → Here) (bared : A → A) → ((x : A) → calls (bared x) ≡ all_unplaced (calls x)) → (xs : List A) → flat_map calls (map bared xs) ≡ all_unplaced (flat_map calls xs)
each_unplaced calls bared same [] = refl
each_unplaced calls bared same (x ∷ xs) =
    ap (λ (cs : Here). cs ++ flat_map calls (map bared xs)) (same x) ∙ ap (λ (cs : Here). all_unplaced (calls x) ++ cs) (each_unplaced calls bared same xs)
    ∙ sym (map-append unplaced (calls x) (flat_map calls xs))

declr_unplaced : (f : ℕ) (d : Declr) → declr_calls f (bare_declr d) ≡ all_unplaced (declr_calls f d)
declr_unplaced f d = any_unplaced (right_calls f) bare_right (right_unplaced f) d.right

simple_unplaced : (f : ℕ) (s : Simple) → simple_calls f (bare_simple s) ≡ all_unplaced (simple_calls f s)
simple_unplaced f s = right_unplaced f s.right

start_unplaced : (f : ℕ) (s : Start) → start_calls f (bare_start s) ≡ all_unplaced (start_calls f s)
start_unplaced f (start.Declare d) = declr_unplaced f d
start_unplaced f (start.Assign s) = simple_unplaced f s

both_unplaced : (xs ys us vs : Here) → us ≡ all_unplaced xs → vs ≡ all_unplaced ys → us ++ vs ≡ all_unplaced (xs ++ ys)
both_unplaced xs ys us vs first second = ap (λ (cs : Here). cs ++ vs) first ∙ ap (λ (cs : Here). all_unplaced xs ++ cs) second ∙ sym (map-append unplaced xs ys)

module _ (f : ℕ) where
  abbrev all : Maps
  all = rebuilt (layers_with bare_gap)

  opens : Rebuilds all (layers_with bare_gap)
  opens = rebuilt_rebuilds (layers_with bare_gap)

  abbrev SameItem : Item → Type 0
  SameItem i = item_calls_in f (all.item i) ≡ all_unplaced (item_calls_in f i)

  abbrev SameArm : Arm → Type 0
  SameArm a = arm_calls_in f (all.arm a) ≡ all_unplaced (arm_calls_in f a)

  abbrev SameBlock : Block → Type 0
  SameBlock b = calls_in f (all.block b) ≡ all_unplaced (calls_in f b)

  abbrev SamePiece : Piece → Type 0
  SamePiece q = piece_calls_in f (all.piece q) ≡ all_unplaced (piece_calls_in f q)

  abbrev HeldItems : Type 0
  HeldItems = (i : Item) × SameItem i

  abbrev HeldArms : Type 0
  HeldArms = (a : Arm) × SameArm a

  abbrev HeldBlocks : Type 0
  HeldBlocks = (b : Block) × SameBlock b

  abbrev HeldPieces : Type 0
  HeldPieces = (q : Piece) × SamePiece q

  parts_unplaced : {A : Type 0} (calls : A → Here) (bared : A → A) (xs : List ((x : A) × (calls (bared x) ≡ all_unplaced (calls x))))
      → flat_map (λ c. c) (map calls (map bared (map (λ x. x.0) xs))) ≡ all_unplaced (flat_map (λ c. c) (map calls (map (λ x. x.0) xs)))
  parts_unplaced calls bared [] = refl
  parts_unplaced calls bared (x ∷ xs) =
      both_unplaced (calls x.0) (flat_map (λ c. c) (map calls (map (λ x. x.0) xs))) (calls (bared x.0)) (flat_map (λ c. c) (map calls (map bared (map (λ x. x.0) xs)))) x.1 (parts_unplaced calls bared xs)

  abbrev called : Item-F Item Arm Block Piece → Item-F Here Here Here Here
  called = map-Item Item Arm Block Piece Here Here Here Here (item_calls_in f) (arm_calls_in f) (calls_in f) (piece_calls_in f)

  abbrev plain : Item-F HeldItems HeldArms HeldBlocks HeldPieces → Item-F Item Arm Block Piece
  plain = map-Item HeldItems HeldArms HeldBlocks HeldPieces Item Arm Block Piece (λ e. e.0) (λ e. e.0) (λ e. e.0) (λ e. e.0)

  item_roll : (x : Item-F Item Arm Block Piece) → item_calls_in f (roll-Item x) ≡ item_calls f (called x)
  item_roll = fold-roll-Item Here Here Here Here (item_calls f) arm_calls block_calls piece_calls

  item_held : (y : Item-F HeldItems HeldArms HeldBlocks HeldPieces) → item_calls f (called (bare_item (in_item all (plain y)))) ≡ all_unplaced (item_calls f (called (plain y)))
  item_held (Declare ds) = each_unplaced (declr_calls f) bare_declr (declr_unplaced f) ds
  item_held (Assign s) = simple_unplaced f s
  item_held (Do c) = call_unplaced f c
  item_held (Nest b) = b.1
  item_held (If arms None) =
      both_unplaced (flat_map (λ c. c) (map (arm_calls_in f) (map (λ x. x.0) arms))) [] (flat_map (λ c. c) (map (arm_calls_in f) (map all.arm (map (λ x. x.0) arms)))) [] (parts_unplaced (arm_calls_in f) all.arm arms) refl
  item_held (If arms (Some b)) =
      both_unplaced (flat_map (λ c. c) (map (arm_calls_in f) (map (λ x. x.0) arms))) (calls_in f b.0) (flat_map (λ c. c) (map (arm_calls_in f) (map all.arm (map (λ x. x.0) arms)))) (calls_in f (all.block b.0))
      (parts_unplaced (arm_calls_in f) all.arm arms) b.1
  item_held (While e b) = b.1
  item_held (For h b) =
      let starts = flat_map (start_calls f) h.start in
      let step = from_option (simple_calls f) h.step in
      let starts' = flat_map (start_calls f) (map bare_start h.start) in
      let step' = from_option (simple_calls f) (option_map bare_simple h.step) in
      both_unplaced (starts ++ step) (calls_in f b.0) (starts' ++ step') (calls_in f (all.block b.0))
      (both_unplaced starts step starts' step' (each_unplaced (start_calls f) bare_start (start_unplaced f) h.start) (any_unplaced (simple_calls f) bare_simple (simple_unplaced f) h.step)) b.1
  item_held Break = refl
  item_held Continue = refl
  item_held (Return r at) = any_unplaced (right_calls f) bare_right (right_unplaced f) r

  step_item : (x : Item-F Item Arm Block Piece) (y : Item-F HeldItems HeldArms HeldBlocks HeldPieces) → plain y ≡ x → SameItem (roll-Item x)
  step_item x y is =
      let held = subst (λ (z : Item-F Item Arm Block Piece). item_calls f (called (bare_item (in_item all z))) ≡ all_unplaced (item_calls f (called z))) is (item_held y) in
      ap (item_calls_in f) (opens.item x) ∙ item_roll (bare_item (in_item all x)) ∙ held ∙ ap all_unplaced (sym (item_roll x))

  arm_roll : (x : Arm-F Item Arm Block Piece) → arm_calls_in f (roll-Arm x) ≡ calls_in f x.body
  arm_roll = fold-roll-Arm Here Here Here Here (item_calls f) arm_calls block_calls piece_calls

  step_arm : (x : Arm-F Item Arm Block Piece) (y : Arm-F HeldItems HeldArms HeldBlocks HeldPieces) → map-Arm HeldItems HeldArms HeldBlocks HeldPieces Item Arm Block Piece (λ e. e.0) (λ e. e.0) (λ e. e.0) (λ e. e.0) y ≡ x → SameArm (roll-Arm x)
  step_arm x y is =
      let body : SameBlock x.body = subst (λ (z : Arm-F Item Arm Block Piece). SameBlock z.body) is y.body.1 in
      ap (arm_calls_in f) (opens.arm x) ∙ arm_roll ((layers_with bare_gap).arm (record { test = x.test; body = all.block x.body })) ∙ body ∙ ap all_unplaced (sym (arm_roll x))

  block_roll : (x : Block-F Item Arm Block Piece) → calls_in f (roll-Block x) ≡ flat_map (λ c. c) (map (piece_calls_in f) x.items)
  block_roll = fold-roll-Block Here Here Here Here (item_calls f) arm_calls block_calls piece_calls

  step_block : (x : Block-F Item Arm Block Piece) (y : Block-F HeldItems HeldArms HeldBlocks HeldPieces) → map-Block HeldItems HeldArms HeldBlocks HeldPieces Item Arm Block Piece (λ e. e.0) (λ e. e.0) (λ e. e.0) (λ e. e.0) y ≡ x → SameBlock (roll-Block x)
  step_block x y is =
      let items = subst (λ (z : Block-F Item Arm Block Piece). flat_map (λ c. c) (map (piece_calls_in f) (map all.piece z.items)) ≡ all_unplaced (flat_map (λ c. c) (map (piece_calls_in f) z.items))) is (parts_unplaced (piece_calls_in f) all.piece y.items) in
      ap (calls_in f) (opens.block x) ∙ block_roll ((layers_with bare_gap).block (in_block all x)) ∙ items ∙ ap all_unplaced (sym (block_roll x))

  piece_roll : (x : Piece-F Item Arm Block Piece) → piece_calls_in f (roll-Piece x) ≡ item_calls_in f x.item
  piece_roll = fold-roll-Piece Here Here Here Here (item_calls f) arm_calls block_calls piece_calls

  step_piece : (x : Piece-F Item Arm Block Piece) (y : Piece-F HeldItems HeldArms HeldBlocks HeldPieces) → map-Piece HeldItems HeldArms HeldBlocks HeldPieces Item Arm Block Piece (λ e. e.0) (λ e. e.0) (λ e. e.0) (λ e. e.0) y ≡ x → SamePiece (roll-Piece x)
  step_piece x y is =
      let item : SameItem x.item = subst (λ (z : Piece-F Item Arm Block Piece). SameItem z.item) is y.item.1 in
      ap (piece_calls_in f) (opens.piece x) ∙ piece_roll ((layers_with bare_gap).piece (in_piece all x)) ∙ item ∙ ap all_unplaced (sym (piece_roll x))

  block_unplaced : (b : Block) → calls_in f (bare_block b) ≡ all_unplaced (calls_in f b)
  block_unplaced = ind-Block SameItem SameArm SameBlock SamePiece step_item step_arm step_block step_piece

-- programs

calls_unplaced : (f : ℕ) (ds : List FunDef) → calls_from f (map bare_fun ds) ≡ all_unplaced (calls_from f ds)
calls_unplaced f [] = refl
calls_unplaced f (d ∷ ds) = both_unplaced (calls_in f d.body) (calls_from (f + 1) ds) (calls_in f (bare_block d.body)) (calls_from (f + 1) (map bare_fun ds)) (block_unplaced f d.body) (calls_unplaced (f + 1) ds)

calls_kept : (choice : Choice) (f : ℕ) (ds : List FunDef) → calls_from f (map (regapped_fun (filled choice.puts)) ds) ≡ calls_from f ds
calls_kept choice f [] = refl
calls_kept choice f (d ∷ ds) =
    ap (λ (cs : Here). cs ++ calls_from (f + 1) (map (regapped_fun (filled choice.puts)) ds)) (fold_kept (item_calls f) arm_calls block_calls piece_calls (filled choice.puts) (λ x. refl) (λ x. refl) d.body)
    ∙ ap (λ (cs : Here). calls_in f d.body ++ cs) (calls_kept choice (f + 1) ds)

-- which functions call each other, without offsets

among_over : (cs : List UserCall) (c : UserCall) (k : ℕ) → k < length cs → slice_index_or cs k c ≡ c → Contains (all_unplaced cs) (unplaced c)
among_over [] c k below is = absurd (omega (arith, below))
among_over (x ∷ xs) c zero below is = (0, omega arith, ap unplaced is)
among_over (x ∷ xs) c (suc k) below is = let rest = among_over xs c k (omega (arith, below)) is in (suc rest.0, let less = rest.1 in omega (arith, less), rest.2)

among_back : (cs : List UserCall) (u : UserCall) (k : ℕ) → k < length (all_unplaced cs) → slice_index_or (all_unplaced cs) k u ≡ u → (c : UserCall) × Contains cs c × (unplaced c ≡ u)
among_back [] u k below is = absurd (omega (arith, below))
among_back (x ∷ xs) u zero below is = (x, (0, omega arith, refl), is)
among_back (x ∷ xs) u (suc k) below is =
    let rest = among_back xs u k (omega (arith, below)) is in
    (rest.0, (suc rest.1.0, let less = rest.1.1 in omega (arith, less), rest.1.2), rest.2)

calls_over : (cs : List UserCall) (f g : ℕ) → Calls cs f g → Calls (all_unplaced cs) f g
calls_over cs _ _ (Calls.directly c among) = Calls.directly (unplaced c) (among_over cs c among.0 among.1 among.2)
calls_over cs _ _ (Calls.through c f among rest) = Calls.through (unplaced c) f (among_over cs c among.0 among.1 among.2) (calls_over cs c.callee f rest)

calls_back : (cs : List UserCall) (f g : ℕ) → Calls (all_unplaced cs) f g → Calls cs f g
calls_back cs _ _ (Calls.directly u among) =
    let b = among_back cs u among.0 among.1 among.2 in
    subst (λ (c : UserCall). Calls cs c.caller c.callee) b.2 (Calls.directly b.0 b.1)
calls_back cs _ _ (Calls.through u f among rest) =
    let b = among_back cs u among.0 among.1 among.2 in
    subst (λ (c : UserCall). Calls cs c.caller f) b.2 (Calls.through b.0 f b.1 (subst (λ (c : UserCall). Calls cs c.callee f) (sym b.2) (calls_back cs u.callee f rest)))

-- no function calls itself in a program alike a filled one, if none does in that one
pub filled_acyclic : (q p : Program) (choice : Choice) → IsAlike q (fill p choice) → (IsCyclic (user_calls p) → ⊥) → IsCyclic (user_calls q) → ⊥
filled_acyclic q p choice alike none cycle =
    let same : all_unplaced (user_calls q) ≡ all_unplaced (user_calls p) =
    sym (calls_unplaced 0 q.funs) ∙ ap (λ (x : Program). calls_from 0 x.funs) alike ∙ calls_unplaced 0 (fill p choice).funs ∙ ap all_unplaced (calls_kept choice 0 p.funs) in
    none (cycle.0, calls_back (user_calls p) cycle.0 cycle.0 (subst (λ (cs : List UserCall). Calls cs cycle.0 cycle.0) same (calls_over (user_calls q) cycle.0 cycle.0 cycle.1)))
