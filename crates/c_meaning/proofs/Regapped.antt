-- Where the gaps of a program alone are changed, as by `fill` and `skeleton`, exactly the same actions stand at
-- the same paths, with their offsets.
use Rattle.std.proofs.Common.{◌≡◌, ℕ, ◌-◌, List, [], ◌∷◌, ◌++◌, map, slice_get, Option, Some, None, option_map, refl, ap, sym, ◌∙◌}
use Rattle.std.proofs.lemmas.Iterator.Adapters.{option_map_id}
use Rattle.std.proofs.lemmas.List.{map-append}
use Rattle.std.proofs.lemmas.Option.{slice_get-map}
use Rattle.c_tree.specs.Alike.{bare}
use Rattle.c_tree.specs.Fill.{regapped_block, regapped_fun, regapped, fill}
use Rattle.c_tree.proofs.Rebuilds.{in_item, rebuilt}
use Rattle.c_tree.proofs.Fills.{gap_layers, skeleton_fill}
use Rattle.c_tree.specs.declared.choice.Choice.{Choice}
use Rattle.c_tree.specs.declared.expr.Expr.{Expr}
use Rattle.c_tree.specs.declared.program.Block.{Block, Block-F}
use Rattle.c_tree.specs.declared.program.Piece.{Piece}
use Rattle.c_tree.specs.declared.program.Item.{Item, Item-F}
use Rattle.c_tree.specs.declared.program.Item.TheOpen.{Declare, Assign, Do, Nest, If, While, For, Break, Continue, Return}
use Rattle.c_tree.specs.declared.program.Arm.{Arm, Arm-F}
use Rattle.c_tree.specs.declared.program.Gap.{Gap}
use Rattle.c_tree.specs.declared.program.FunDef.{FunDef}
use Rattle.c_tree.specs.declared.program.Program.{Program}
use Rattle.c_meaning.specs.declared.machine.Frame.{Frame}
use Rattle.c_meaning.specs.Parts.{Instruction, Close, called, assigned, declared, started, returned, Part, One, Row, Condition, Within, condition_of, last_row, arm_parts, else_parts, parts}
use Rattle.c_meaning.specs.Place.{test_at, arm_test, arm_body, spot_of, goes_back, closing, spot_in_fun}
use Rattle.c_meaning.specs.Step.{here}
use Rattle.c_meaning.proofs.Opened.{rebuilt_block, rebuilt_arm}
use Rattle.c_meaning.proofs.BareParts.{mapped_part}
use Rattle.c_meaning.proofs.BuiltSpots.{Keeps, mapped_spot, spot_same, spot_or_built}
use Rattle.c_meaning.proofs.Outlines.{Correspond, skeletons_correspond}

abbrev pub as_it_is : Instruction → Instruction
as_it_is a = a

abbrev kept_part : (Block → Block) → Part Block → Part Block
kept_part = mapped_part as_it_is (λ e. e)

one_kept : (f : Block → Block) (a : Option Instruction) → One a ≡ kept_part f (One a)
one_kept f a = ap (λ (b : Option Instruction). One b) (sym (option_map_id a))

ones_kept : {A : Type 0} (f : Block → Block) (g : A → Option Instruction) (xs : List A) → map (λ x. One (g x)) xs ≡ map (kept_part f) (map (λ x. One (g x)) xs)
ones_kept f g [] = refl
ones_kept f g (x ∷ xs) = ap (λ (p : Part Block). p ∷ map (λ x. One (g x)) xs) (one_kept f (g x)) ∙ ap (λ (ps : List (Part Block)). kept_part f (One (g x)) ∷ ps) (ones_kept f g xs)

row_kept : (row : List (Option Instruction)) → row ≡ map (option_map as_it_is) row
row_kept [] = refl
row_kept (a ∷ row) = ap (λ (b : Option Instruction). b ∷ row) (sym (option_map_id a)) ∙ ap (λ (bs : List (Option Instruction)). option_map as_it_is a ∷ bs) (row_kept row)

else_kept : (f : Block → Block) (b : Option Block) → else_parts (option_map f b) ≡ map (kept_part f) (else_parts b)
else_kept f None = refl
else_kept f (Some b) = refl

module _ (h : Gap → Gap) where
  abbrev block_of : Block → Block
  block_of = regapped_block h

  test_of_arm : (a : Arm) → arm_test ((rebuilt (gap_layers h)).arm a) ≡ arm_test a
  test_of_arm a = ap (λ (b : Arm-F Item Arm Block Piece). b.test) (rebuilt_arm (gap_layers h) a)

  body_of_arm : (a : Arm) → arm_body ((rebuilt (gap_layers h)).arm a) ≡ block_of (arm_body a)
  body_of_arm a = ap (λ (b : Arm-F Item Arm Block Piece). b.body) (rebuilt_arm (gap_layers h) a)

  arms_kept : (arms : List Arm) → arm_parts arm_test arm_body (map (rebuilt (gap_layers h)).arm arms) ≡ map (kept_part block_of) (arm_parts arm_test arm_body arms)
  arms_kept [] = refl
  arms_kept (a ∷ arms) =
      ap (λ (e : Expr). Condition e ∷ Within (arm_body ((rebuilt (gap_layers h)).arm a)) ∷ arm_parts arm_test arm_body (map (rebuilt (gap_layers h)).arm arms)) (test_of_arm a)
      ∙ ap (λ (b : Block). Condition (arm_test a) ∷ Within b ∷ arm_parts arm_test arm_body (map (rebuilt (gap_layers h)).arm arms)) (body_of_arm a)
      ∙ ap (λ (ps : List (Part Block)). Condition (arm_test a) ∷ Within (block_of (arm_body a)) ∷ ps) (arms_kept arms)

  parts_kept : (slot : Option ℕ) (x : Item-F Item Arm Block Piece) → parts arm_test arm_body slot (in_item (rebuilt (gap_layers h)) x) ≡ map (kept_part block_of) (parts arm_test arm_body slot x)
  parts_kept slot (Declare ds) = ones_kept block_of (λ d. declared d d.right) ds
  parts_kept slot (Assign s) = ap (λ (p : Part Block). p ∷ []) (one_kept block_of (assigned s s.right))
  parts_kept slot (Do c) = ap (λ (p : Part Block). p ∷ []) (one_kept block_of (called None c))
  parts_kept slot (Nest b) = refl
  parts_kept slot (If arms otherwise) =
      ap (λ (ps : List (Part Block)). ps ++ else_parts (option_map block_of otherwise)) (arms_kept arms)
      ∙ ap (λ (ps : List (Part Block)). map (kept_part block_of) (arm_parts arm_test arm_body arms) ++ ps) (else_kept block_of otherwise)
      ∙ sym (map-append (kept_part block_of) (arm_parts arm_test arm_body arms) (else_parts otherwise))
  parts_kept slot (While e b) = refl
  parts_kept slot (For head b) =
      ap (λ (row : List (Option Instruction)). Row row ∷ Condition (condition_of head.test) ∷ Row (last_row head.step) ∷ Within (block_of b) ∷ []) (row_kept (map started head.start))
      ∙ ap (λ (row : List (Option Instruction)). Row (map (option_map as_it_is) (map started head.start)) ∷ Condition (condition_of head.test) ∷ Row row ∷ Within (block_of b) ∷ []) (row_kept (last_row head.step))
  parts_kept slot Break = refl
  parts_kept slot Continue = refl
  parts_kept slot (Return value offset) = ones_kept block_of (λ a. a) (returned slot value offset)

  gaps_keep : Keeps (gap_layers h) h as_it_is (λ e. e)
  gaps_keep = record {
    items = λ x. refl;
    last = λ x. refl;
    gap = λ x. refl;
    item = λ x. refl;
    tests = λ path e. sym (option_map_id (test_at path e));
    tested = λ e. refl;
    parts = parts_kept;
  }

  pub spot_regapped : (slot : Option ℕ) (path : List ℕ) (b : Block) → spot_of slot path (regapped_block h b) ≡ mapped_spot h as_it_is (spot_of slot path b)
  spot_regapped = spot_same (gap_layers h) h as_it_is (λ e. e) gaps_keep

  closing_kept : (p : Program) (f : ℕ) (d : FunDef) → closing (regapped h p) f (regapped_fun h d) ≡ closing p f d
  closing_kept p f d = ap (λ (c : Block-F Item Arm Block Piece). Close (goes_back p f d.result) (c.end - 1)) (rebuilt_block (gap_layers h) d.body)

  spot_fun_regapped : (p : Program) (f : ℕ) (d : Option FunDef) (path : List ℕ) → spot_in_fun (regapped h p) f (option_map (regapped_fun h) d) path ≡ mapped_spot h as_it_is (spot_in_fun p f d path)
  spot_fun_regapped p f None path = refl
  spot_fun_regapped p f (Some d) path = spot_or_built (gap_layers h) h as_it_is (λ e. e) gaps_keep p (regapped h p) f d (regapped_fun h d) refl refl (closing_kept p f d) path

  -- the same stands there, but that each gap g is h g
  pub here_regapped : (p : Program) (fs : List Frame) → here (regapped h p) fs ≡ mapped_spot h as_it_is (here p fs)
  here_regapped p [] = refl
  here_regapped p (f ∷ fs) = ap (λ (d : Option FunDef). spot_in_fun (regapped h p) f.fun d f.path) (slice_get-map (regapped_fun h) p.funs f.fun) ∙ spot_fun_regapped p f.fun (slice_get p.funs f.fun) f.path

-- a program and a fill of it go on alike, from gaps of the same numbers
pub fill_corresponds : (p : Program) (s : Choice) → Correspond (λ f g. f.number ≡ g.number) p (fill p s)
fill_corresponds p s = skeletons_correspond p (fill p s) (ap bare (sym (skeleton_fill p s)))
