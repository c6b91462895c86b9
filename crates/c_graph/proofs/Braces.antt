-- A closing brace stands behind the last gap of a function alone.
use Rattle.std.proofs.Common.{◌≡◌, ℕ, zero, suc, ◌==◌, Bool, true, false, List, [], ◌∷◌, length, slice_get, Option, Some, None, option_and_then, refl, subst}
use Rattle.std.specs.Prelude.{if◌then◌else◌}
use Rattle.c_tree.specs.Typing.{has, Declarations, declarations, item_fits, block_fits}
use Rattle.c_tree.specs.WellFormed.{IsWellFormed}
use Rattle.c_tree.specs.declared.expr.Expr.{Expr}
use Rattle.c_tree.specs.declared.program.Arm.{Arm}
use Rattle.c_tree.specs.declared.program.Block.{Block, out-Block}
use Rattle.c_tree.specs.declared.program.FunDef.{FunDef}
use Rattle.c_tree.specs.declared.program.Item.{Item, Item-F}
use Rattle.c_tree.specs.declared.program.Piece.{Piece}
use Rattle.c_tree.specs.declared.program.Program.{Program}
use Rattle.c_tree.specs.declared.program.Ty.{Ty}
use Rattle.c_meaning.specs.Parts.{Instruction, Close, Part, One, Row, Condition, Within}
use Rattle.c_meaning.specs.Place.{Spot, AtGap, AtAction, Nowhere, goes_back, test_at, item_at, part_of, gap_at, instruction_spot, row_spot, test_spot, spot_in, spot_of, result_slot, brace_of, closing, spot_or_brace, spot_in_fun}
use Rattle.c_graph.specs.Nodes.{spot_at}
use Rattle.c_graph.specs.Ways.{brace_leads}
use Rattle.c_graph.proofs.WholeParts.{Is, AllAre, more_are, right_layer, Whole, one, row, within, part_whole, item_is_right}
use Rattle.c_graph.proofs.Lands.{types_right}

-- no closing brace stands there
abbrev NoBrace : Spot → Type 0
NoBrace (AtGap g) = Unit {0}
NoBrace (AtAction (Close t offset)) = ⊥
NoBrace (AtAction a) = Unit {0}
NoBrace Nowhere = Unit {0}

instruction_open : (a : Option Instruction) → Is a → NoBrace (instruction_spot a)
instruction_open None h = tt
instruction_open (Some (Close t offset)) h = h
instruction_open (Some a) h = h

row_open : (list : List (Option Instruction)) (k : ℕ) → AllAre list → NoBrace (row_spot (slice_get list k))
row_open [] k h = tt
row_open (a ∷ list) zero (more_are h rest) = instruction_open a h
row_open (a ∷ list) (suc k) (more_are h rest) = row_open list k rest

test_open : (o : Option Expr) → NoBrace (test_spot o)
test_open None = tt
test_open (Some e) = tt

gap_open : (b : Block) (i : ℕ) (o : Option Piece) → NoBrace (gap_at b i o)
gap_open b i (Some q) = tt
gap_open b i None = by_place (i == length (out-Block b).items)
  where
    by_place : (t : Bool) → NoBrace (if t then AtGap (out-Block b).last_gap else Nowhere)
    by_place true = tt
    by_place false = tt

module _ (d : Declarations) (result : Option Ty) (slot : Option ℕ) where
  part_open : (inner : Block → Spot) (path : List ℕ) → ((b : Block) → block_fits d result b ≡ true → NoBrace (inner b)) → (part : Part Block) → Whole d result part → NoBrace (spot_in inner path (Some part))
  part_open inner [] below (One a) (one h) = instruction_open a h
  part_open inner [] below (Row list) h = tt
  part_open inner [] below (Condition e) h = test_open (test_at [] e)
  part_open inner [] below (Within b) (within right) = below b right
  part_open inner (k ∷ []) below (One a) h = tt
  part_open inner (k ∷ []) below (Row list) (row h) = row_open list k h
  part_open inner (k ∷ []) below (Condition e) h = test_open (test_at (k ∷ []) e)
  part_open inner (k ∷ []) below (Within b) (within right) = below b right
  part_open inner (k ∷ j ∷ path) below (One a) h = tt
  part_open inner (k ∷ j ∷ path) below (Row list) h = tt
  part_open inner (k ∷ j ∷ path) below (Condition e) h = test_open (test_at (k ∷ j ∷ path) e)
  part_open inner (k ∷ j ∷ path) below (Within b) (within right) = below b right

  nothing_open : (inner : Block → Spot) (path : List ℕ) → NoBrace (spot_in inner path None)
  nothing_open inner [] = tt
  nothing_open inner (k ∷ []) = tt
  nothing_open inner (k ∷ j ∷ path) = tt

  item_open : (inner : Block → Spot) (path : List ℕ) → ((b : Block) → block_fits d result b ≡ true → NoBrace (inner b)) → (k : ℕ) (x : Item-F Item Arm Block Piece) → item_fits d result (right_layer d result x) ≡ true →
      (o : Option (Part Block)) → part_of slot k x ≡ o → NoBrace (spot_in inner path o)
  item_open inner path below k x right None is = nothing_open inner path
  item_open inner path below k x right (Some part) is = part_open inner path below part (part_whole d result slot k x part right is)

  at_item_open : (inner : Block → Spot) (path : List ℕ) → ((b : Block) → block_fits d result b ≡ true → NoBrace (inner b)) → (b : Block) (i k : ℕ) → block_fits d result b ≡ true →
      (o : Option (Item-F Item Arm Block Piece)) → item_at b i ≡ o → NoBrace (spot_in inner path (option_and_then (part_of slot k) o))
  at_item_open inner path below b i k right None is = nothing_open inner path
  at_item_open inner path below b i k right (Some x) is = item_open inner path below k x (item_is_right d result b i x right is) (part_of slot k x) refl

  block_open : (path : List ℕ) (b : Block) → block_fits d result b ≡ true → NoBrace (spot_of slot path b)
  block_open [] b right = tt
  block_open (i ∷ []) b right = gap_open b i (slice_get (out-Block b).items i)
  block_open (i ∷ k ∷ path) b right = at_item_open (spot_of slot path) path (block_open path) b i k right (item_at b i) refl

brace_apart : (t : Bool) (offset : ℕ) (spot : Spot) → NoBrace spot → spot ≡ AtAction (Close t offset) → ⊥
brace_apart t offset spot h e = subst (λ (x : Spot). NoBrace x) e h

same_brace : (s t : Bool) (m n : ℕ) → AtAction (Close s m) ≡ AtAction (Close t n) → s ≡ t
same_brace s t m n e = cc

module _ (p : Program) (w : IsWellFormed p) where
  by_place : (f : ℕ) (d : FunDef) (path : List ℕ) (t : Bool) (offset : ℕ) → slice_get p.funs f ≡ Some d → spot_or_brace p f d path ≡ AtAction (Close t offset) → goes_back p f d.result ≡ t
  by_place f d [] t offset e is = let never : Nowhere ≡ AtAction (Close t offset) = is in absurd cc
  by_place f d (i ∷ []) t offset e is = at_brace (i == brace_of d.body) is
    where
      at_brace : (b : Bool) → (if b then AtAction (closing p f d) else spot_of (result_slot p f) (i ∷ []) d.body) ≡ AtAction (Close t offset) → goes_back p f d.result ≡ t
      at_brace true g = same_brace (goes_back p f d.result) t _ offset g
      at_brace false g = absurd (brace_apart t offset (spot_of (result_slot p f) (i ∷ []) d.body) (block_open (declarations p) d.result (result_slot p f) (i ∷ []) d.body (types_right p w f d e)) g)
  by_place f d (i ∷ k ∷ path) t offset e is =
      absurd (brace_apart t offset (spot_of (result_slot p f) (i ∷ k ∷ path) d.body) (block_open (declarations p) d.result (result_slot p f) (i ∷ k ∷ path) d.body (types_right p w f d e)) is)

  -- where a closing brace stands, it says whether control goes back from its function
  pub closing_place : (f : ℕ) (path : List ℕ) (t : Bool) (offset : ℕ) → spot_at p f path ≡ AtAction (Close t offset) → brace_leads p f ≡ t
  closing_place f path t offset is = by_function (slice_get p.funs f) refl is
    where
      by_function : (o : Option FunDef) → slice_get p.funs f ≡ o → spot_in_fun p f o path ≡ AtAction (Close t offset) → has (λ d. goes_back p f d.result) o ≡ t
      by_function None e g = let never : Nowhere ≡ AtAction (Close t offset) = g in absurd cc
      by_function (Some d) e g = by_place f d path t offset e g
