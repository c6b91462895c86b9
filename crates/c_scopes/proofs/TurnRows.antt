-- On the way over the turns of a program, each gap has the variables in scope there that are not hidden.
use Rattle.std.proofs.Common.{◌≡◌, ℕ, zero, suc, ◌+◌, Bool, true, false, List, [], ◌∷◌, ◌++◌, drop, filter, length, take, map, flat_map, Some, None, if◌then◌else◌, refl, sym, ap, subst, ◌∙◌, append-nil, append_assoc}
use Rattle.std.specs.List.{range_with_len}
use Rattle.std.proofs.Math.Seq.{drop-append_seam, take-append_seam}
use Rattle.std.proofs.lemmas.List.{map-append}
use Rattle.std.proofs.lemmas.List.Elements.{filter-append}
use Rattle.c_tree.specs.Numbers.{from_all, start_locals}
use Rattle.c_tree.specs.declared.program.Arm.{Arm, Arm-F, roll-Arm, fold-roll-Arm, map-Arm}
use Rattle.c_tree.specs.declared.program.Block.{Block, Block-F, roll-Block, fold-roll-Block, map-Block, ind-Block}
use Rattle.c_tree.specs.declared.program.Declr.{Declr}
use Rattle.c_tree.specs.declared.program.FunDef.{FunDef}
use Rattle.c_tree.specs.declared.program.Gap.{Gap}
use Rattle.c_tree.specs.declared.program.Item.{Item, Item-F, roll-Item, fold-roll-Item, map-Item}
use Rattle.c_tree.specs.declared.program.Item.TheOpen.{Declare, Assign, Do, Nest, If, While, For, Break, Continue, Return}
use Rattle.c_tree.specs.declared.program.Piece.{Piece, Piece-F, roll-Piece, fold-roll-Piece, map-Piece}
use Rattle.c_tree.specs.declared.program.Program.{Program}
use Rattle.c_tree.specs.declared.program.Start.{Start}
use Rattle.c_tree.specs.declared.program.Start.TheVariants as start
use Rattle.c_tree.specs.declared.program.VarDef.{VarDef}
use Rattle.c_tree.specs.WellFormed.{IsWellFormed}
use Rattle.c_scopes.specs.ScopeAt.{GapScope, Part, Place, Declared, item_layer, arm_layer, block_layer, piece_layer, arm_place, block_place, block_place_of, closed, each_place, function_place, gap_scope, is_global, item_part, piece_part, scopes, scopes_from, seeing, so_far, stands_before, up_to, with_variable}
use Rattle.c_scopes.specs.Turns.{arm_turns, block_turns, declr_turns, function_turns, global_turns, is_shown, item_turns, narrowed, piece_turns, rows_from, scope_of, scoped, start_turns, turned, turns, turns_from, var_turns}
use Rattle.c_scopes.specs.Turns as course
use Rattle.c_scopes.specs.declared.walk.Turn.{Turn}
use Rattle.c_scopes.specs.declared.walk.Turn.TheVariants as turn
use Rattle.c_scopes.proofs.ScopeNumbers.{row_numbers, rows_numbered}
use Rattle.c_scopes.proofs.TurnLaws.{pops}

-- the globals of a place are among those of any later one

more_by : (h : Bool) (s : Declared) (ys zs : List ℕ) → ys ≡ (if h then s.globals ++ s.count ∷ [] else s.globals) ++ zs → (ws : List ℕ) × (ys ≡ s.globals ++ ws)
more_by true s ys zs is = (s.count ∷ zs, is ∙ append_assoc s.globals (s.count ∷ []) zs)
more_by false s ys zs is = (zs, is)

abbrev More : Declared → Declared → Type 0
More s t = (zs : List ℕ) × (t.globals ≡ s.globals ++ zs)

more_turn : (f : ℕ) (d : FunDef) (v : VarDef) (vs : List VarDef) (s : Declared) (b : Bool) → More (with_variable v.home s) (up_to f d vs (with_variable v.home s)) → More s (if b then up_to f d vs (with_variable v.home s) else s)
more_turn f d v vs s false m = ([], sym (append-nil s.globals))
more_turn f d v vs s true m = more_by (is_global v.home) s (up_to f d vs (with_variable v.home s)).globals m.0 m.1

more_globals : (f : ℕ) (d : FunDef) (vs : List VarDef) (s : Declared) → More s (up_to f d vs s)
more_globals f d [] s = ([], sym (append-nil s.globals))
more_globals f d (v ∷ vs) s = more_turn f d v vs s (stands_before f d v) (more_globals f d vs (with_variable v.home s))

module _ (hidden : List Bool) where
  abbrev kept : List ℕ → List ℕ
  kept xs = filter (is_shown hidden) xs

  -- the rows of turns where these variables, and hidden ones, are in scope
  abbrev rows_in : List ℕ → List ℕ → List Turn → List GapScope
  rows_in vars outer ts = rows_from (scope_of (kept vars) outer) ts

  abbrev narrow : List GapScope → List GapScope
  narrow = map (narrowed hidden)

  -- variables come into sight

  kept_one : (vars : List ℕ) (x : ℕ) (b : Bool) → is_shown hidden x ≡ b → kept (vars ++ x ∷ []) ≡ kept vars ++ (if b then x ∷ [] else [])
  kept_one vars x b e = filter-append (is_shown hidden) vars (x ∷ []) ∙ ap (λ (c : Bool). kept vars ++ (if c then x ∷ [] else [])) e

  sees_by : (x : ℕ) (vars outer : List ℕ) (ts : List Turn) (b : Bool) → is_shown hidden x ≡ b → rows_in vars outer ((if b then turn.See x ∷ [] else []) ++ ts) ≡ rows_in (vars ++ x ∷ []) outer ts
  sees_by x vars outer ts true e = ap (λ (xs : List ℕ). rows_from (scope_of xs outer) ts) (sym (kept_one vars x true e))
  sees_by x vars outer ts false e = ap (λ (xs : List ℕ). rows_from (scope_of xs outer) ts) (sym (kept_one vars x false e ∙ append-nil (kept vars)))

  sees : (xs vars outer : List ℕ) (rest : List Turn) → rows_in vars outer (flat_map (var_turns hidden) xs ++ rest) ≡ rows_in (vars ++ xs) outer rest
  sees [] vars outer rest = ap (λ (ys : List ℕ). rows_in ys outer rest) (sym (append-nil vars))
  sees (x ∷ xs) vars outer rest =
      ap (rows_in vars outer) (append_assoc (var_turns hidden x) (flat_map (var_turns hidden) xs) rest)
      ∙ sees_by x vars outer (flat_map (var_turns hidden) xs ++ rest) (is_shown hidden x) refl
      ∙ sees xs (vars ++ x ∷ []) outer rest
      ∙ ap (λ (ys : List ℕ). rows_in ys outer rest) (append_assoc vars (x ∷ []) xs)

  declrs_are : (ds : List Declr) → flat_map (declr_turns hidden) ds ≡ flat_map (var_turns hidden) (map (λ (d : Declr). d.var) ds)
  declrs_are [] = refl
  declrs_are (d ∷ ds) = ap (λ (ts : List Turn). var_turns hidden d.var ++ ts) (declrs_are ds)

  starts_are : (ss : List Start) → flat_map (start_turns hidden) ss ≡ flat_map (var_turns hidden) (flat_map start_locals ss)
  starts_are [] = refl
  starts_are (start.Declare d ∷ ss) = ap (λ (ts : List Turn). var_turns hidden d.var ++ ts) (starts_are ss)
  starts_are (start.Assign s ∷ ss) = starts_are ss

  -- a place gives the gaps of these turns, whatever is visible before it and whatever comes behind
  abbrev Gives : List Turn → Place → Type 0
  Gives ts b = (vars outer : List ℕ) (rest : List Turn) → rows_in vars outer (ts ++ rest) ≡ narrow (b vars) ++ rows_in vars outer rest

  abbrev PartGives : List Turn → Part → Type 0
  PartGives ts p = (vars outer : List ℕ) (rest : List Turn) → rows_in vars outer (ts ++ rest) ≡ narrow (p.gaps vars) ++ rows_in (vars ++ p.declares) outer rest

  nothing_more : (vars outer : List ℕ) (rest : List Turn) → rows_in vars outer rest ≡ rows_in (vars ++ []) outer rest
  nothing_more vars outer rest = ap (λ (ys : List ℕ). rows_in ys outer rest) (sym (append-nil vars))

  closed_gives : (ts : List Turn) (b : Place) → Gives ts b → PartGives ts (closed b)
  closed_gives ts b h vars outer rest = h vars outer rest ∙ ap (λ (rows : List GapScope). narrow (b vars) ++ rows) (nothing_more vars outer rest)

  both_rows : (xs ys rest : List GapScope) → narrow xs ++ (narrow ys ++ rest) ≡ narrow (xs ++ ys) ++ rest
  both_rows xs ys rest = sym (append_assoc (narrow xs) (narrow ys) rest) ∙ ap (λ (rows : List GapScope). rows ++ rest) (sym (map-append (narrowed hidden) xs ys))

  both_give : (ts us : List Turn) (a b : Place) → Gives ts a → Gives us b → Gives (ts ++ us) (λ vars. a vars ++ b vars)
  both_give ts us a b h k vars outer rest =
      ap (rows_in vars outer) (append_assoc ts us rest)
      ∙ h vars outer (us ++ rest)
      ∙ ap (λ (rows : List GapScope). narrow (a vars) ++ rows) (k vars outer rest)
      ∙ both_rows (a vars) (b vars) (rows_in vars outer rest)

  -- a scope ends

  closes : (vars declares outer : List ℕ) → turned turn.Close (scope_of (kept (vars ++ declares)) (outer ++ length (kept vars) ∷ [])) ≡ scope_of (kept vars) outer
  closes vars declares outer =
      sym (pops (outer ++ length (kept vars) ∷ []) outer (length (kept vars)) refl (kept (vars ++ declares)))
      ∙ ap (λ (xs : List ℕ). scope_of (take (length (kept vars)) xs) outer) (filter-append (is_shown hidden) vars declares)
      ∙ ap (λ (xs : List ℕ). scope_of xs outer) (take-append_seam (kept vars) (kept declares))

  scope_gives : (ts : List Turn) (vars declares : List ℕ) (rows : List GapScope)
      → ((outer : List ℕ) (rest : List Turn) → rows_in vars outer (ts ++ rest) ≡ rows ++ rows_in (vars ++ declares) outer rest)
      → (outer : List ℕ) (rest : List Turn) → rows_in vars outer (scoped ts ++ rest) ≡ rows ++ rows_in vars outer rest
  scope_gives ts vars declares rows h outer rest =
      ap (λ (us : List Turn). rows_in vars (outer ++ length (kept vars) ∷ []) us) (append_assoc ts (turn.Close ∷ []) rest)
      ∙ h (outer ++ length (kept vars) ∷ []) (turn.Close ∷ rest)
      ∙ ap (λ s. rows ++ rows_from s rest) (closes vars declares outer)

  -- a block that sees more, in a scope of its own
  seeing_gives : (xs : List ℕ) (ts us : List Turn) (b : Place) → ts ≡ flat_map (var_turns hidden) xs → Gives us b → Gives (scoped (ts ++ us)) (seeing xs b)
  seeing_gives xs ts us b is h vars =
      scope_gives (ts ++ us) vars xs (narrow (b (vars ++ xs)))
      (λ outer rest. ap (rows_in vars outer) (append_assoc ts us rest)
      ∙ ap (λ (vs : List Turn). rows_in vars outer (vs ++ (us ++ rest))) is
      ∙ sees xs vars outer (us ++ rest)
      ∙ h (vars ++ xs) outer rest)

  -- parts of the tree

  abbrev ItemGives : Item → Type 0
  ItemGives i = PartGives (item_turns hidden i) (item_part i)

  abbrev ArmGives : Arm → Type 0
  ArmGives a = Gives (arm_turns hidden a) (arm_place a)

  abbrev BlockGives : Block → Type 0
  BlockGives b = Gives (block_turns hidden b) (block_place b)

  abbrev PieceGives : Piece → Type 0
  PieceGives p = PartGives (piece_turns hidden p) (piece_part p)

  arms_give : (arms : List ((a : Arm) × ArmGives a)) → Gives (from_all (map (arm_turns hidden) (map (λ e. e.0) arms))) (each_place (map arm_place (map (λ e. e.0) arms)))
  arms_give [] vars outer rest = refl
  arms_give (a ∷ arms) vars outer rest =
      both_give (arm_turns hidden a.0) (from_all (map (arm_turns hidden) (map (λ e. e.0) arms))) (arm_place a.0) (each_place (map arm_place (map (λ e. e.0) arms))) a.1 (arms_give arms) vars outer rest

  pieces_give : (ps : List ((p : Piece) × PieceGives p)) (last : Gap) (vars outer : List ℕ) (rest : List Turn)
      → rows_in vars outer ((from_all (map (piece_turns hidden) (map (λ e. e.0) ps)) ++ turn.Gap last.number ∷ []) ++ rest)
      ≡ narrow (block_place_of (map piece_part (map (λ e. e.0) ps)) last vars) ++ rows_in (vars ++ flat_map (λ p. (piece_part p).declares) (map (λ e. e.0) ps)) outer rest
  pieces_give [] last vars outer rest = ap (λ (rows : List GapScope). narrowed hidden (gap_scope last vars) ∷ rows) (nothing_more vars outer rest)
  pieces_give (p ∷ ps) last vars outer rest =
      let first = piece_turns hidden p.0 in
      let others = from_all (map (piece_turns hidden) (map (λ e. e.0) ps)) in
      let end : List Turn = turn.Gap last.number ∷ [] in
      let here = (piece_part p.0).declares in
      let later = flat_map (λ p. (piece_part p).declares) (map (λ e. e.0) ps) in
      let more = block_place_of (map piece_part (map (λ e. e.0) ps)) last (vars ++ here) in
      ap (λ (ts : List Turn). rows_in vars outer (ts ++ rest)) (append_assoc first others end)
      ∙ ap (rows_in vars outer) (append_assoc first (others ++ end) rest)
      ∙ p.1 vars outer ((others ++ end) ++ rest)
      ∙ ap (λ (rows : List GapScope). narrow ((piece_part p.0).gaps vars) ++ rows) (pieces_give ps last (vars ++ here) outer rest)
      ∙ both_rows ((piece_part p.0).gaps vars) more (rows_in ((vars ++ here) ++ later) outer rest)
      ∙ ap (λ (ys : List ℕ). narrow ((piece_part p.0).gaps vars ++ more) ++ rows_in ys outer rest) (append_assoc vars here later)

  abbrev ItemLayer : Type 0
  ItemLayer = Item-F ((i : Item) × ItemGives i) ((a : Arm) × ArmGives a) ((b : Block) × BlockGives b) ((p : Piece) × PieceGives p)

  abbrev bare : ItemLayer → Item-F Item Arm Block Piece
  bare = map-Item ((i : Item) × ItemGives i) ((a : Arm) × ArmGives a) ((b : Block) × BlockGives b) ((p : Piece) × PieceGives p) Item Arm Block Piece (λ e. e.0) (λ e. e.0) (λ e. e.0) (λ e. e.0)

  abbrev parted : Item-F Item Arm Block Piece → Item-F Part Place Place Part
  parted = map-Item Item Arm Block Piece Part Place Place Part item_part arm_place block_place piece_part

  abbrev in_turns : Item-F Item Arm Block Piece → Item-F (List Turn) (List Turn) (List Turn) (List Turn)
  in_turns = map-Item Item Arm Block Piece (List Turn) (List Turn) (List Turn) (List Turn) (item_turns hidden) (arm_turns hidden) (block_turns hidden) (piece_turns hidden)

  layer_gives : (y : ItemLayer) → PartGives (course.item_layer hidden (in_turns (bare y))) (item_layer (parted (bare y)))
  layer_gives (Declare ds) vars outer rest =
      ap (λ (ts : List Turn). rows_in vars outer (ts ++ rest)) (declrs_are ds) ∙ sees (map (λ (d : Declr). d.var) ds) vars outer rest
  layer_gives (Assign s) vars outer rest = nothing_more vars outer rest
  layer_gives (Do c) vars outer rest = nothing_more vars outer rest
  layer_gives (Nest b) vars outer rest = closed_gives (block_turns hidden b.0) (block_place b.0) b.1 vars outer rest
  layer_gives (If arms None) vars outer rest =
      closed_gives (from_all (map (arm_turns hidden) (map (λ e. e.0) arms)) ++ []) (λ seen. each_place (map arm_place (map (λ e. e.0) arms)) seen ++ [])
      (both_give (from_all (map (arm_turns hidden) (map (λ e. e.0) arms))) [] (each_place (map arm_place (map (λ e. e.0) arms))) (λ seen. []) (arms_give arms) (λ vars outer rest. refl)) vars outer rest
  layer_gives (If arms (Some b)) vars outer rest =
      closed_gives (from_all (map (arm_turns hidden) (map (λ e. e.0) arms)) ++ block_turns hidden b.0) (λ seen. each_place (map arm_place (map (λ e. e.0) arms)) seen ++ block_place b.0 seen)
      (both_give (from_all (map (arm_turns hidden) (map (λ e. e.0) arms))) (block_turns hidden b.0) (each_place (map arm_place (map (λ e. e.0) arms))) (block_place b.0) (arms_give arms) b.1) vars outer rest
  layer_gives (While e b) vars outer rest = closed_gives (block_turns hidden b.0) (block_place b.0) b.1 vars outer rest
  layer_gives (For h b) vars outer rest =
      closed_gives (scoped (flat_map (start_turns hidden) h.start ++ block_turns hidden b.0)) (seeing (flat_map start_locals h.start) (block_place b.0))
      (seeing_gives (flat_map start_locals h.start) (flat_map (start_turns hidden) h.start) (block_turns hidden b.0) (block_place b.0) (starts_are h.start) b.1) vars outer rest
  layer_gives Break vars outer rest = nothing_more vars outer rest
  layer_gives Continue vars outer rest = nothing_more vars outer rest
  layer_gives (Return r at) vars outer rest = nothing_more vars outer rest

  step_item : (x : Item-F Item Arm Block Piece) (y : ItemLayer) → bare y ≡ x → ItemGives (roll-Item x)
  step_item x y is vars outer rest =
      ap (λ (ts : List Turn). rows_in vars outer (ts ++ rest)) (fold-roll-Item (List Turn) (List Turn) (List Turn) (List Turn) (course.item_layer hidden) course.arm_layer course.block_layer course.piece_layer x)
      ∙ subst (λ z. rows_in vars outer (course.item_layer hidden (in_turns z) ++ rest) ≡ narrow ((item_layer (parted z)).gaps vars) ++ rows_in (vars ++ (item_layer (parted z)).declares) outer rest) is (layer_gives y vars outer rest)
      ∙ ap (λ (p : Part). narrow (p.gaps vars) ++ rows_in (vars ++ p.declares) outer rest) (sym (fold-roll-Item Part Place Place Part item_layer arm_layer block_layer piece_layer x))

  step_arm : (x : Arm-F Item Arm Block Piece) (y : Arm-F ((i : Item) × ItemGives i) ((a : Arm) × ArmGives a) ((b : Block) × BlockGives b) ((p : Piece) × PieceGives p))
      → map-Arm ((i : Item) × ItemGives i) ((a : Arm) × ArmGives a) ((b : Block) × BlockGives b) ((p : Piece) × PieceGives p) Item Arm Block Piece (λ e. e.0) (λ e. e.0) (λ e. e.0) (λ e. e.0) y ≡ x → ArmGives (roll-Arm x)
  step_arm x y is vars outer rest =
      let body : y.body.0 ≡ x.body = ap (λ (a : Arm-F Item Arm Block Piece). a.body) is in
      ap (λ (ts : List Turn). rows_in vars outer (ts ++ rest)) (fold-roll-Arm (List Turn) (List Turn) (List Turn) (List Turn) (course.item_layer hidden) course.arm_layer course.block_layer course.piece_layer x)
      ∙ subst (λ b. rows_in vars outer (block_turns hidden b ++ rest) ≡ narrow (block_place b vars) ++ rows_in vars outer rest) body (y.body.1 vars outer rest)
      ∙ ap (λ (b : Place). narrow (b vars) ++ rows_in vars outer rest) (sym (fold-roll-Arm Part Place Place Part item_layer arm_layer block_layer piece_layer x))

  step_block : (x : Block-F Item Arm Block Piece) (y : Block-F ((i : Item) × ItemGives i) ((a : Arm) × ArmGives a) ((b : Block) × BlockGives b) ((p : Piece) × PieceGives p))
      → map-Block ((i : Item) × ItemGives i) ((a : Arm) × ArmGives a) ((b : Block) × BlockGives b) ((p : Piece) × PieceGives p) Item Arm Block Piece (λ e. e.0) (λ e. e.0) (λ e. e.0) (λ e. e.0) y ≡ x → BlockGives (roll-Block x)
  step_block x y is vars outer rest =
      let items : map (λ e. e.0) y.items ≡ x.items = ap (λ (b : Block-F Item Arm Block Piece). b.items) is in
      ap (λ (ts : List Turn). rows_in vars outer (ts ++ rest)) (fold-roll-Block (List Turn) (List Turn) (List Turn) (List Turn) (course.item_layer hidden) course.arm_layer course.block_layer course.piece_layer x)
      ∙ subst (λ ps. rows_in vars outer (scoped (from_all (map (piece_turns hidden) ps) ++ turn.Gap x.last_gap.number ∷ []) ++ rest) ≡ narrow (block_place_of (map piece_part ps) x.last_gap vars) ++ rows_in vars outer rest) items
      (scope_gives (from_all (map (piece_turns hidden) (map (λ e. e.0) y.items)) ++ turn.Gap x.last_gap.number ∷ []) vars (flat_map (λ p. (piece_part p).declares) (map (λ e. e.0) y.items))
      (narrow (block_place_of (map piece_part (map (λ e. e.0) y.items)) x.last_gap vars)) (λ outer rest. pieces_give y.items x.last_gap vars outer rest) outer rest)
      ∙ ap (λ (b : Place). narrow (b vars) ++ rows_in vars outer rest) (sym (fold-roll-Block Part Place Place Part item_layer arm_layer block_layer piece_layer x))

  step_piece : (x : Piece-F Item Arm Block Piece) (y : Piece-F ((i : Item) × ItemGives i) ((a : Arm) × ArmGives a) ((b : Block) × BlockGives b) ((p : Piece) × PieceGives p))
      → map-Piece ((i : Item) × ItemGives i) ((a : Arm) × ArmGives a) ((b : Block) × BlockGives b) ((p : Piece) × PieceGives p) Item Arm Block Piece (λ e. e.0) (λ e. e.0) (λ e. e.0) (λ e. e.0) y ≡ x → PieceGives (roll-Piece x)
  step_piece x y is vars outer rest =
      let item : y.item.0 ≡ x.item = ap (λ (p : Piece-F Item Arm Block Piece). p.item) is in
      ap (λ (ts : List Turn). rows_in vars outer (ts ++ rest)) (fold-roll-Piece (List Turn) (List Turn) (List Turn) (List Turn) (course.item_layer hidden) course.arm_layer course.block_layer course.piece_layer x)
      ∙ ap (λ (rows : List GapScope). narrowed hidden (gap_scope x.gap vars) ∷ rows)
      (subst (λ i. rows_in vars outer (item_turns hidden i ++ rest) ≡ narrow ((item_part i).gaps vars) ++ rows_in (vars ++ (item_part i).declares) outer rest) item (y.item.1 vars outer rest))
      ∙ ap (λ (p : Part). narrow (p.gaps vars) ++ rows_in (vars ++ p.declares) outer rest) (sym (fold-roll-Piece Part Place Place Part item_layer arm_layer block_layer piece_layer x))

  block_gives : (b : Block) → BlockGives b
  block_gives = ind-Block ItemGives ArmGives BlockGives PieceGives step_item step_arm step_block step_piece

  -- the file

  function_gives : (d : FunDef) → Gives (function_turns hidden d) (function_place d)
  function_gives d = seeing_gives d.params (flat_map (var_turns hidden) d.params) (block_turns hidden d.body) (block_place d.body) refl (block_gives d.body)

  globals_come : (s t : Declared) (rest : List Turn) → More s t → rows_in s.globals [] (global_turns hidden (length s.globals) t.globals ++ rest) ≡ rows_in t.globals [] rest
  globals_come s t rest m =
      ap (λ (xs : List ℕ). rows_in s.globals [] (flat_map (var_turns hidden) (drop (length s.globals) xs) ++ rest)) m.1
      ∙ ap (λ (xs : List ℕ). rows_in s.globals [] (flat_map (var_turns hidden) xs ++ rest)) (drop-append_seam s.globals m.0)
      ∙ sees m.0 s.globals [] rest
      ∙ ap (λ (xs : List ℕ). rows_in xs [] rest) (sym m.1)

  functions_give : (vars : List VarDef) (f : ℕ) (s : Declared) (ds : List FunDef) → rows_in s.globals [] (turns_from hidden vars f s ds) ≡ narrow (scopes_from vars f s ds)
  functions_give vars f s [] = refl
  functions_give vars f s (d ∷ ds) =
      let here = up_to f d (drop s.count vars) s in
      globals_come s here (function_turns hidden d ++ turns_from hidden vars (f + 1) here ds) (more_globals f d (drop s.count vars) s)
      ∙ function_gives d here.globals [] (turns_from hidden vars (f + 1) here ds)
      ∙ ap (λ (rows : List GapScope). narrow (function_place d here.globals) ++ rows) (functions_give vars (f + 1) here ds)
      ∙ sym (map-append (narrowed hidden) (function_place d here.globals) (scopes_from vars (f + 1) here ds))

  pub turns_rows : (p : Program) → rows_from (scope_of [] []) (turns hidden p) ≡ narrow (scopes p)
  turns_rows p = functions_give p.vars 0 (so_far 0 []) p.funs

  pub same_numbers : (rows : List GapScope) → row_numbers (narrow rows) ≡ row_numbers rows
  same_numbers [] = refl
  same_numbers (r ∷ rows) = ap (λ (ns : List ℕ). r.gap ∷ ns) (same_numbers rows)

  -- each gap is met once, in the order of the numbers
  pub turns_numbered : (p : Program) → IsWellFormed p → row_numbers (rows_from (scope_of [] []) (turns hidden p)) ≡ range_with_len 0 p.gaps
  turns_numbered p w = ap row_numbers (turns_rows p) ∙ same_numbers (scopes p) ∙ rows_numbered p w

-- where no variable is hidden

shown_all : (x : ℕ) → is_shown [] x ≡ true
shown_all zero = refl
shown_all (suc x) = refl

keeps_all : (xs : List ℕ) → filter (is_shown []) xs ≡ xs
keeps_all [] = refl
keeps_all (x ∷ xs) = ap (λ (b : Bool). if b then x ∷ filter (is_shown []) xs else filter (is_shown []) xs) (shown_all x) ∙ ap (λ (ys : List ℕ). x ∷ ys) (keeps_all xs)

pub narrows_none : (rows : List GapScope) → map (narrowed []) rows ≡ rows
narrows_none [] = refl
narrows_none (r ∷ rows) = ap (λ (xs : List ℕ). record { gap = r.gap; vars = xs } ∷ map (narrowed []) rows) (keeps_all r.vars) ∙ ap (λ (rs : List GapScope). r ∷ rs) (narrows_none rows)
