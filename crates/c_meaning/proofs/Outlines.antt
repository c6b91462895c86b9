-- The outline of a program: it has no offsets and no braces, and each gap is what a function makes of
-- it. At each path stands the same as in the program, and the same follows.
use Rattle.std.proofs.Common.{◌≡◌, ℕ, ◌+◌, ◌-◌, Bool, false, List, [], ◌∷◌, map, length, slice_get, unwrap_or, Option, Some, None, option_map, refl, ap, sym, ◌∙◌}
use Rattle.std.specs.Prelude.{if◌then◌else◌}
use Rattle.std.proofs.lemmas.List.{length-map}
use Rattle.std.proofs.lemmas.Option.{slice_get-map}
use Rattle.c_tree.specs.Alike.{bare_expr, bare_item, bare_free, bare_gap, bare_struct, bare_var, bare_fun, bare, IsAlike}
use Rattle.c_tree.specs.Fill.{regapped_fun, emptied, skeleton}
use Rattle.c_tree.proofs.Rebuilds.{Maps, Layers, in_item, rebuilt}
use Rattle.c_tree.proofs.Fills.{map_joined, skeleton_skeleton}
use Rattle.c_tree.proofs.AlikeBlock.{outline_is}
use Rattle.c_tree.specs.declared.expr.Expr.{Expr}
use Rattle.c_tree.specs.declared.program.VarDef.{VarDef}
use Rattle.c_tree.specs.declared.program.Block.{Block, Block-F, out-Block}
use Rattle.c_tree.specs.declared.program.Piece.{Piece}
use Rattle.c_tree.specs.declared.program.Item.{Item, Item-F}
use Rattle.c_tree.specs.declared.program.Arm.{Arm, Arm-F}
use Rattle.c_tree.specs.declared.program.Gap.{Gap}
use Rattle.c_tree.specs.declared.program.Free.{Free}
use Rattle.c_tree.specs.declared.program.FunDef.{FunDef}
use Rattle.c_tree.specs.declared.program.Program.{Program}
use Rattle.c_meaning.specs.declared.machine.Frame.{Frame}
use Rattle.c_meaning.specs.Parts.{Instruction, Close, Part, One, Row, Condition, Within, parts, Through, Goal, Into, Out, entry, goal}
use Rattle.c_meaning.specs.Place.{Spot, AtGap, AtAction, Nowhere, Onward, To, By, arm_test, arm_body, item_at, part_of, part_at, first_place, entered, reached, behind_gap, behind_part, behind_item, behind_in_row, behind_atom, next_in, next, is_result, slot_from, result_slot, brace_of, goes_back, closing, spot_or_brace, spot_in_fun, onward_path, next_in_fun}
use Rattle.c_meaning.specs.Effects.{parameters_of}
use Rattle.c_meaning.specs.Step.{here, onward}
use Rattle.c_meaning.proofs.Opened.{rebuilt_block, rebuilt_arm}
use Rattle.c_meaning.proofs.BareTests.{first_bare, test_bare, behind_bare}
use Rattle.c_meaning.proofs.BuiltSpots.{Keeps, mapped_spot, count_same, item_same, part_same, part_at_same, spot_or_built}
use Rattle.c_meaning.proofs.BareParts.{bare_instruction, bare_action, bare_part, bare_item_is, parts_bare, entry_bare, goal_bare}

slot_same : (f x : ℕ) (vs : List VarDef) → slot_from f x (map bare_var vs) ≡ slot_from f x vs
slot_same f x [] = refl
slot_same f x (v ∷ vs) = ap (λ (s : Option ℕ). if is_result f v.home then Some x else s) (slot_same f (x + 1) vs)

-- what stands at two places: gaps of which G holds, or the same instruction but for offsets
pub data SpotsMeet (G : Gap → Gap → Type 0) : Spot → Spot → Type 0 where
  both_gaps : {f g : Gap} → G f g → SpotsMeet G (AtGap f) (AtGap g)
  both_actions : {a b : Instruction} → bare_instruction a ≡ bare_instruction b → SpotsMeet G (AtAction a) (AtAction b)
  both_nowhere : SpotsMeet G Nowhere Nowhere

-- two programs that are the same but for offsets, braces and the frees in gaps, of which G holds
pub record Correspond (G : Gap → Gap → Type 0) (p q : Program) : Type 0 where
  pub spots : (fs : List Frame) → SpotsMeet G (here p fs) (here q fs)
  pub ways : (said : Option Bool) (fs : List Frame) → onward p said fs ≡ onward q said fs
  pub parameters : (f : ℕ) → parameters_of p f ≡ parameters_of q f
  pub structs : map bare_struct p.structs ≡ map bare_struct q.structs
  pub vars : map bare_var p.vars ≡ map bare_var q.vars
  pub main : p.main ≡ q.main
  pub gaps : p.gaps ≡ q.gaps

spot_weaker : {G H : Gap → Gap → Type 0} {x y : Spot} → ((f g : Gap) → G f g → H f g) → SpotsMeet G x y → SpotsMeet H x y
spot_weaker h (both_gaps {f = f} {g = g} r) = both_gaps (h f g r)
spot_weaker h (both_actions e) = both_actions e
spot_weaker h both_nowhere = both_nowhere

pub correspond_by : {G H : Gap → Gap → Type 0} {p q : Program} → ((f g : Gap) → G f g → H f g) → Correspond G p q → Correspond H p q
correspond_by h c = record { spots = λ fs. spot_weaker h (c.spots fs); ways = c.ways; parameters = c.parameters; structs = c.structs; vars = c.vars; main = c.main; gaps = c.gaps }

module _ (h : Gap → Gap) where
  abbrev pub outline_layers : Layers
  outline_layers = record {
    item = bare_item;
    arm = λ a. record a { test = bare_expr a.test };
    block = λ b. record b { last_gap = h b.last_gap; braced = false; start = 0; end = 0 };
    piece = λ p. record p { gap = h p.gap; start = 0; end = 0 };
  }

  -- the outline of blocks, functions and programs
  abbrev pub outlines : Maps
  outlines = rebuilt outline_layers

  abbrev pub outline_fun : FunDef → FunDef
  outline_fun d = record d { body = outlines.block d.body; at = 0 }

  abbrev pub outline : Program → Program
  outline p = record p { structs = map bare_struct p.structs; vars = map bare_var p.vars; funs = map outline_fun p.funs }

  abbrev pub outline_spot : Spot → Spot
  outline_spot = mapped_spot h bare_instruction

  -- the outline keeps what stands at paths

  test_of_arm : (a : Arm) → arm_test (outlines.arm a) ≡ bare_expr (arm_test a)
  test_of_arm a = ap (λ (b : Arm-F Item Arm Block Piece). b.test) (rebuilt_arm outline_layers a)

  body_of_arm : (a : Arm) → arm_body (outlines.arm a) ≡ outlines.block (arm_body a)
  body_of_arm a = ap (λ (b : Arm-F Item Arm Block Piece). b.body) (rebuilt_arm outline_layers a)

  abbrev bare_of : Item-F Item Arm Block Piece → Item-F Item Arm Block Piece
  bare_of x = bare_item (in_item outlines x)

  outlines_keep : Keeps outline_layers h bare_instruction bare_expr
  outlines_keep = record {
    items = λ x. refl;
    last = λ x. refl;
    gap = λ x. refl;
    item = λ x. refl;
    tests = test_bare;
    tested = λ e. refl;
    parts = λ slot x. ap (parts arm_test arm_body slot) (bare_item_is outlines x) ∙ parts_bare outlines.arm outlines.block arm_test arm_body arm_test arm_body test_of_arm body_of_arm slot x;
  }

  count_of_outline : (b : Block) → length (out-Block (outlines.block b)).items ≡ length (out-Block b).items
  count_of_outline = count_same outline_layers h bare_instruction bare_expr outlines_keep

  item_of_outline : (b : Block) (i : ℕ) → item_at (outlines.block b) i ≡ option_map bare_of (item_at b i)
  item_of_outline = item_same outline_layers h bare_instruction bare_expr outlines_keep

  part_of_outline : (slot : Option ℕ) (k : ℕ) (x : Item-F Item Arm Block Piece) → part_of slot k (bare_of x) ≡ option_map (bare_part outlines.block) (part_of slot k x)
  part_of_outline = part_same outline_layers h bare_instruction bare_expr outlines_keep

  part_at_outline : (slot : Option ℕ) (b : Block) (i k : ℕ) → part_at slot (outlines.block b) i k ≡ option_map (bare_part outlines.block) (part_at slot b i k)
  part_at_outline = part_at_same outline_layers h bare_instruction bare_expr outlines_keep

  -- what follows

  first_same : (part : Part Block) → first_place (bare_part outlines.block part) ≡ first_place part
  first_same (One a) = refl
  first_same (Row row) = refl
  first_same (Condition e) = first_bare e
  first_same (Within b) = refl

  entered_same : (i k : ℕ) (part : Option (Part Block)) → entered i k (option_map (bare_part outlines.block) part) ≡ entered i k part
  entered_same i k None = refl
  entered_same i k (Some part) = ap (λ (path : List ℕ). To (i ∷ k ∷ path)) (first_same part)

  reached_same : (slot : Option ℕ) (i : ℕ) (x : Item-F Item Arm Block Piece) (g : Goal) → reached slot i (bare_of x) g ≡ reached slot i x g
  reached_same slot i x (Into k) = ap (entered i k) (part_of_outline slot k x) ∙ entered_same i k (part_of slot k x)
  reached_same slot i x (Out d) = refl

  behind_gap_same : (slot : Option ℕ) (i : ℕ) (o : Option (Item-F Item Arm Block Piece)) → behind_gap slot i (option_map bare_of o) ≡ behind_gap slot i o
  behind_gap_same slot i None = refl
  behind_gap_same slot i (Some x) = ap (reached slot i (bare_of x)) (ap entry (bare_item_is outlines x) ∙ entry_bare outlines.arm outlines.block x) ∙ reached_same slot i x (entry x)

  behind_part_same : (slot : Option ℕ) (i k : ℕ) (o : Onward) (x : Item-F Item Arm Block Piece) → behind_part slot i k o (bare_of x) ≡ behind_part slot i k o x
  behind_part_same slot i k (To path) x = refl
  behind_part_same slot i k (By d) x = ap (reached slot i (bare_of x)) (ap (λ (y : Item-F Item Arm Block Piece). goal y k d) (bare_item_is outlines x) ∙ goal_bare outlines.arm outlines.block x k d) ∙ reached_same slot i x (goal x k d)

  behind_item_same : (slot : Option ℕ) (i k : ℕ) (o : Onward) (x : Option (Item-F Item Arm Block Piece)) → behind_item slot i k o (option_map bare_of x) ≡ behind_item slot i k o x
  behind_item_same slot i k o None = refl
  behind_item_same slot i k o (Some x) = behind_part_same slot i k o x

  atom_same : (path : List ℕ) (said : Option Bool) (e : Expr) → behind_atom path said (bare_expr e) ≡ behind_atom path said e
  atom_same path None e = refl
  atom_same path (Some b) e = behind_bare path b e

  next_in_same : (inner : Block → Onward) → ((b : Block) → inner (outlines.block b) ≡ inner b) → (path : List ℕ) (said : Option Bool) (part : Option (Part Block)) →
      next_in inner path said (option_map (bare_part outlines.block) part) ≡ next_in inner path said part
  next_in_same inner same [] said None = refl
  next_in_same inner same [] said (Some (One a)) = refl
  next_in_same inner same [] said (Some (Row row)) = refl
  next_in_same inner same [] said (Some (Condition e)) = atom_same [] said e
  next_in_same inner same [] said (Some (Within b)) = same b
  next_in_same inner same (k ∷ []) said None = refl
  next_in_same inner same (k ∷ []) said (Some (One a)) = refl
  next_in_same inner same (k ∷ []) said (Some (Row row)) = ap (behind_in_row k) (length-map row bare_action)
  next_in_same inner same (k ∷ []) said (Some (Condition e)) = atom_same (k ∷ []) said e
  next_in_same inner same (k ∷ []) said (Some (Within b)) = same b
  next_in_same inner same (k ∷ j ∷ path) said None = refl
  next_in_same inner same (k ∷ j ∷ path) said (Some (One a)) = refl
  next_in_same inner same (k ∷ j ∷ path) said (Some (Row row)) = refl
  next_in_same inner same (k ∷ j ∷ path) said (Some (Condition e)) = atom_same (k ∷ j ∷ path) said e
  next_in_same inner same (k ∷ j ∷ path) said (Some (Within b)) = same b

  pub next_same : (slot : Option ℕ) (said : Option Bool) (path : List ℕ) (b : Block) → next slot said path (outlines.block b) ≡ next slot said path b
  next_same slot said [] b = refl
  next_same slot said (i ∷ []) b = ap (behind_gap slot i) (item_of_outline b i) ∙ behind_gap_same slot i (item_at b i)
  next_same slot said (i ∷ k ∷ path) b =
      ap (λ (o : Option (Part Block)). behind_item slot i k (next_in (next slot said path) path said o) (item_at (outlines.block b) i)) (part_at_outline slot b i k)
      ∙ ap (λ (o : Onward). behind_item slot i k o (item_at (outlines.block b) i)) (next_in_same (next slot said path) (next_same slot said path) path said (part_at slot b i k))
      ∙ ap (behind_item slot i k (next_in (next slot said path) path said (part_at slot b i k))) (item_of_outline b i)
      ∙ behind_item_same slot i k (next_in (next slot said path) path said (part_at slot b i k)) (item_at b i)

  -- functions and programs

  pub brace_same : (b : Block) → brace_of (outlines.block b) ≡ brace_of b
  brace_same b = ap (λ (n : ℕ). n + 1) (count_of_outline b)

  closing_same : (p : Program) (f : ℕ) (d : FunDef) → closing (outline p) f (outline_fun d) ≡ bare_instruction (closing p f d)
  closing_same p f d = ap (λ (c : Block-F Item Arm Block Piece). Close (goes_back p f d.result) (c.end - 1)) (rebuilt_block outline_layers d.body)

  pub slot_of_outline : (p : Program) (f : ℕ) → result_slot (outline p) f ≡ result_slot p f
  slot_of_outline p f = slot_same f 0 p.vars

  spot_or_same : (p : Program) (f : ℕ) (d : FunDef) (path : List ℕ) → spot_or_brace (outline p) f (outline_fun d) path ≡ outline_spot (spot_or_brace p f d path)
  spot_or_same p f d = spot_or_built outline_layers h bare_instruction bare_expr outlines_keep p (outline p) f d (outline_fun d) (slot_of_outline p f) refl (closing_same p f d)

  spot_fun_same : (p : Program) (f : ℕ) (d : Option FunDef) (path : List ℕ) → spot_in_fun (outline p) f (option_map outline_fun d) path ≡ outline_spot (spot_in_fun p f d path)
  spot_fun_same p f None path = refl
  spot_fun_same p f (Some d) path = spot_or_same p f d path

  onward_path_same : (b : Block) (o : Onward) → onward_path (outlines.block b) o ≡ onward_path b o
  onward_path_same b (To path) = refl
  onward_path_same b (By Through) = ap (λ (n : ℕ). n ∷ []) (brace_same b)
  onward_path_same b (By _) = refl

  next_fun_same : (p : Program) (f : ℕ) (d : Option FunDef) (said : Option Bool) (path : List ℕ) → next_in_fun (outline p) f (option_map outline_fun d) said path ≡ next_in_fun p f d said path
  next_fun_same p f None said path = refl
  next_fun_same p f (Some d) said path =
      ap (λ (s : Option ℕ). onward_path (outlines.block d.body) (next s said path (outlines.block d.body))) (slot_of_outline p f)
      ∙ ap (onward_path (outlines.block d.body)) (next_same (result_slot p f) said path d.body)
      ∙ onward_path_same d.body (next (result_slot p f) said path d.body)

  pub here_same : (p : Program) (fs : List Frame) → here (outline p) fs ≡ outline_spot (here p fs)
  here_same p [] = refl
  here_same p (f ∷ fs) = ap (λ (d : Option FunDef). spot_in_fun (outline p) f.fun d f.path) (slice_get-map outline_fun p.funs f.fun) ∙ spot_fun_same p f.fun (slice_get p.funs f.fun) f.path

  pub onward_same : (p : Program) (said : Option Bool) (fs : List Frame) → onward (outline p) said fs ≡ onward p said fs
  onward_same p said [] = refl
  onward_same p said (f ∷ fs) = ap (λ (path : List ℕ). record f { path = path } ∷ fs)
      (ap (λ (d : Option FunDef). next_in_fun (outline p) f.fun d said f.path) (slice_get-map outline_fun p.funs f.fun) ∙ next_fun_same p f.fun (slice_get p.funs f.fun) said f.path)

  fun_same : (p : Program) (f : ℕ) → slice_get (outline p).funs f ≡ option_map outline_fun (slice_get p.funs f)
  fun_same p f = slice_get-map outline_fun p.funs f

  parameters_of_option : (d : Option FunDef) → unwrap_or (option_map (λ d. d.params) (option_map outline_fun d)) [] ≡ unwrap_or (option_map (λ d. d.params) d) []
  parameters_of_option None = refl
  parameters_of_option (Some d) = refl

  parameters_same : (p : Program) (f : ℕ) → parameters_of (outline p) f ≡ parameters_of p f
  parameters_same p f = ap (λ (d : Option FunDef). unwrap_or (option_map (λ d. d.params) d) []) (fun_same p f) ∙ parameters_of_option (slice_get p.funs f)

  spot_pair : (x y : Spot) → outline_spot x ≡ outline_spot y → SpotsMeet (λ f g. h f ≡ h g) x y
  spot_pair (AtGap f) (AtGap g) e = both_gaps (let same : h f ≡ h g = cc in same)
  spot_pair (AtAction a) (AtAction b) e = both_actions (let same : bare_instruction a ≡ bare_instruction b = cc in same)
  spot_pair Nowhere Nowhere e = both_nowhere
  spot_pair _ _ e = absurd cc

  -- two programs of one outline correspond
  pub correspond : (p q : Program) → outline p ≡ outline q → Correspond (λ f g. h f ≡ h g) p q
  correspond p q e = record {
    spots = λ fs. spot_pair (here p fs) (here q fs) (sym (here_same p fs) ∙ ap (λ (x : Program). here x fs) e ∙ here_same q fs);
    ways = λ said fs. sym (onward_same p said fs) ∙ ap (λ (x : Program). onward x said fs) e ∙ onward_same q said fs;
    parameters = λ f. sym (parameters_same p f) ∙ ap (λ (x : Program). parameters_of x f) e ∙ parameters_same q f;
    structs = ap (λ (x : Program). x.structs) e;
    vars = ap (λ (x : Program). x.vars) e;
    main = ap (λ (x : Program). x.main) e;
    gaps = ap (λ (x : Program). x.gaps) e;
  }

-- alike programs correspond, their frees too
pub alike_correspond : (p q : Program) → IsAlike p q → Correspond (λ f g. bare_gap f ≡ bare_gap g) p q
alike_correspond p q e = correspond bare_gap p q e

-- programs with alike skeletons have one outline without frees
pub empty_outline : (p : Program) → bare (skeleton p) ≡ outline emptied p
empty_outline p = ap (λ (ds : List FunDef). record { structs = map bare_struct p.structs; vars = map bare_var p.vars; funs = ds; main = p.main; gaps = p.gaps; calls = p.calls })
    (map_joined bare_fun (regapped_fun emptied) (outline_fun emptied) (λ d. ap (λ (b : Block). record { name = d.name; result = d.result; params = d.params; body = b; at = 0 }) (outline_is d.body)) p.funs)

-- programs with alike skeletons correspond, gap with gap of the same number
pub skeletons_correspond : (p q : Program) → IsAlike (skeleton p) (skeleton q) → Correspond (λ f g. f.number ≡ g.number) p q
skeletons_correspond p q e = correspond_by (λ f g same. ap (λ (x : Gap). x.number) same) (correspond emptied p q (sym (empty_outline p) ∙ e ∙ empty_outline q))

no_frees : (fs : List Free) → map bare_free fs ≡ [] → fs ≡ []
no_frees [] e = refl
no_frees (f ∷ fs) e = absurd cc

-- a gap of the skeleton is empty
emptied_pair : (x y : Spot) → outline_spot bare_gap x ≡ outline_spot emptied y → SpotsMeet (λ f g. f.frees ≡ []) x y
emptied_pair (AtGap f) (AtGap g) e = both_gaps (let same : bare_gap f ≡ emptied g = cc in no_frees f.frees (ap (λ (x : Gap). x.frees) same))
emptied_pair (AtAction a) (AtAction b) e = both_actions (let same : bare_instruction a ≡ bare_instruction b = cc in same)
emptied_pair Nowhere Nowhere e = both_nowhere
emptied_pair _ _ e = absurd cc

-- the skeleton of a program corresponds to it, with gaps that are empty
pub skeleton_corresponds : (q : Program) → Correspond (λ f g. f.frees ≡ []) (skeleton q) q
skeleton_corresponds q =
    let c = skeletons_correspond (skeleton q) q (ap bare (skeleton_skeleton q)) in
    record {
      spots = λ fs. emptied_pair (here (skeleton q) fs) (here q fs) (sym (here_same bare_gap (skeleton q) fs) ∙ ap (λ (x : Program). here x fs) (empty_outline q) ∙ here_same emptied q fs);
      ways = c.ways;
      parameters = c.parameters;
      structs = c.structs;
      vars = c.vars;
      main = c.main;
      gaps = c.gaps;
    }
