-- The items of a flat body: where control stands before and behind the one action of each.
use Rattle.std.proofs.Common.{◌≡◌, ℕ, ◌<◌, ◌+◌, Bool, false, ◌==◌, [], ◌∷◌, length, slice_get, Option, Some, None, refl, ap, ◌∙◌, arith}
use Rattle.std.specs.Prelude.{if◌then◌else◌}
use Rattle.std.specs.Option.{option_and_then}
use Rattle.std.proofs.lemmas.Bool.{ne_eqb}
use Rattle.std.proofs.lemmas.Option.{slice_get_within}
use Rattle.c_tree.specs.declared.program.Block.{Block, out-Block}
use Rattle.c_tree.specs.declared.program.Piece.{Piece, out-Piece}
use Rattle.c_tree.specs.declared.program.Item.{Item, Item-F, out-Item}
use Rattle.c_tree.specs.declared.program.Arm.{Arm}
use Rattle.c_tree.specs.declared.program.Program.{Program}
use Rattle.c_tree.specs.declared.program.FunDef.{FunDef}
use Rattle.c_meaning.specs.Parts.{Instruction, Part, One, Through, Goal, Into, entry, goal}
use Rattle.c_meaning.specs.Place.{AtAction, To, By, result_slot, closing, item_at, part_of, gap_at, spot_of, spot_in, next, next_in, behind_gap, behind_item, reached, brace_of, spot_in_fun, next_in_fun, onward_path}
use Rattle.c_meaning.proofs.First.Flat.{Stands, GoesOn}

-- an item whose first part is one action
pub record IsOneAction (layer : Item-F Item Arm Block Piece) (a : Instruction) : Type 0 where
  pub part : (slot : Option ℕ) → part_of slot 0 layer ≡ Some (One (Some a))
  pub entry : entry layer ≡ Into 0

-- behind which control goes on behind the item
pub record GoesBehind (layer : Item-F Item Arm Block Piece) : Type 0 where
  pub behind : (slot : Option ℕ) (i : ℕ) → reached slot i layer (goal layer 0 Through) ≡ To ((i + 1) ∷ [])

item_is : (b : Block) (i : ℕ) (piece : Piece) (layer : Item-F Item Arm Block Piece) → slice_get (out-Block b).items i ≡ Some piece → out-Item (out-Piece piece).item ≡ layer → item_at b i ≡ Some layer
item_is b i piece layer h k = rw (h, k) refl

pub stands_at : (p : Program) (f : FunDef) (i : ℕ) (piece : Piece) (layer : Item-F Item Arm Block Piece) (a : Instruction) →
    slice_get p.funs 0 ≡ Some f → slice_get (out-Block f.body).items i ≡ Some piece → out-Item (out-Piece piece).item ≡ layer → IsOneAction layer a →
    Stands p i (out-Piece piece).gap.frees a
stands_at p f i piece layer a main h k one =
    let within : i < length (out-Block f.body).items = slice_get_within _ i piece h in
    let apart : (i == brace_of f.body) ≡ false = ne_eqb i (brace_of f.body) (λ e. omega arith) in
    let item : item_at f.body i ≡ Some layer = item_is f.body i piece layer h k in
    let slot : Option ℕ = result_slot p 0 in
    let part : option_and_then (part_of slot 0) (item_at f.body i) ≡ Some (One (Some a)) = ap (λ (o : Option (Item-F Item Arm Block Piece)). option_and_then (part_of slot 0) o) item ∙ one.part slot in
    record {
      number = (out-Piece piece).gap.number;
      gap = ap (λ (o : Option FunDef). spot_in_fun p 0 o (i ∷ [])) main
          ∙ ap (λ (b : Bool). if b then AtAction (closing p 0 f) else spot_of slot (i ∷ []) f.body) apart
          ∙ ap (gap_at f.body i) h;
      entered = ap (λ (o : Option FunDef). next_in_fun p 0 o None (i ∷ [])) main
          ∙ ap (λ (o : Option (Item-F Item Arm Block Piece)). onward_path f.body (behind_gap slot i o)) item
          ∙ ap (λ (g : Goal). onward_path f.body (reached slot i layer g)) one.entry
          ∙ entered_one p f slot i layer a (one.part slot);
      action = ap (λ (o : Option FunDef). spot_in_fun p 0 o (i ∷ 0 ∷ [])) main
          ∙ ap (λ (o : Option (Part Block)). spot_in (spot_of slot []) [] o) part;
    }
  where
    entered_one : (p : Program) (f : FunDef) (slot : Option ℕ) (i : ℕ) (layer : Item-F Item Arm Block Piece) (a : Instruction) → part_of slot 0 layer ≡ Some (One (Some a)) → onward_path f.body (reached slot i layer (Into 0)) ≡ i ∷ 0 ∷ []
    entered_one p f slot i layer a h = rw h refl

pub onward_at : (p : Program) (f : FunDef) (i : ℕ) (piece : Piece) (layer : Item-F Item Arm Block Piece) (a : Instruction) →
    slice_get p.funs 0 ≡ Some f → slice_get (out-Block f.body).items i ≡ Some piece → out-Item (out-Piece piece).item ≡ layer → IsOneAction layer a → GoesBehind layer → GoesOn p i
onward_at p f i piece layer a main h k one goes =
    let slot : Option ℕ = result_slot p 0 in
    let item : item_at f.body i ≡ Some layer = item_is f.body i piece layer h k in
    let part : option_and_then (part_of slot 0) (item_at f.body i) ≡ Some (One (Some a)) = ap (λ (o : Option (Item-F Item Arm Block Piece)). option_and_then (part_of slot 0) o) item ∙ one.part slot in
    ap (λ (o : Option FunDef). next_in_fun p 0 o None (i ∷ 0 ∷ [])) main
    ∙ ap (λ (o : Option (Part Block)). onward_path f.body (behind_item slot i 0 (next_in (next slot None []) [] None o) (item_at f.body i))) part
    ∙ ap (λ (o : Option (Item-F Item Arm Block Piece)). onward_path f.body (behind_item slot i 0 (By Through) o)) item
    ∙ ap (onward_path f.body) (goes.behind slot i)
