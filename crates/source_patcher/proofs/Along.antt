-- The edits along a derivation are the changes of the program that is made of its tree.
use Rattle.std.proofs.Common.{◌≡◌, ℕ, suc, ◌+◌, ◌-◌, Bool, true, false, not, ◌&&◌, ◌||◌, nat_lt, List, [], ◌∷◌, ◌++◌, length, map, flat_map, Option, Some, None, option_map, refl, sym, ap, ◌∙◌, arith, append_assoc}
use Rattle.std.specs.Prelude.{filter, if◌then◌else◌}
use Rattle.std.proofs.lemmas.Bool.Decides.{nat_tests}
use Rattle.std.proofs.lemmas.List.{append-nil, map-append}
use Rattle.c_lexer.specs.declared.token.Token.{Token}
use Rattle.c_tree.specs.declared.choice.Put.{Put}
use Rattle.c_tree.specs.declared.program.Arm.{Arm as MadeArm, fold-roll-Arm as fold-roll-MadeArm}
use Rattle.c_tree.specs.declared.program.Block.{Block as MadeBlock, Block-F as MadeBlock-F, roll-Block as roll-MadeBlock, out-roll-Block as out-roll-MadeBlock}
use Rattle.c_tree.specs.declared.program.Declr.{Declr as MadeDeclr}
use Rattle.c_tree.specs.declared.program.Item.{Item as MadeItem, Item-F as MadeItem-F, roll-Item as roll-MadeItem, fold-roll-Item as fold-roll-MadeItem, map-Item as map-MadeItem}
use Rattle.c_tree.specs.declared.program.Item.TheOpen as layer
use Rattle.c_tree.specs.declared.program.Item.TheVariants as made
use Rattle.c_tree.specs.declared.program.Piece.{Piece as MadePiece, Piece-F as MadePiece-F, roll-Piece as roll-MadePiece, out-roll-Piece as out-roll-MadePiece}
use Rattle.c_tree.specs.declared.program.Program.{Program}
use Rattle.c_tree.specs.declared.program.Right.{Right as MadeRight}
use Rattle.c_tree.specs.declared.tree.Arm.{Arm, fold-roll-Arm}
use Rattle.c_tree.specs.declared.tree.Block.{Block, fold-roll-Block}
use Rattle.c_tree.specs.declared.tree.Expr.{Expr}
use Rattle.c_tree.specs.declared.tree.ForHead.{ForHead}
use Rattle.c_tree.specs.declared.tree.Free.{Free}
use Rattle.c_tree.specs.declared.tree.Item.{Item, Item-F, roll-Item, fold-roll-Item, map-Item}
use Rattle.c_tree.specs.declared.tree.Item.TheOpen.{Declare, Assign, Do, Nest, If, While, For, Break, Continue, Return}
use Rattle.c_tree.specs.declared.tree.Item.TheVariants as item
use Rattle.c_tree.specs.declared.tree.Piece.{Piece, fold-roll-Piece}
use Rattle.c_tree.specs.declared.tree.Right.{Right}
use Rattle.c_tree.specs.Numbers.{from_last}
use Rattle.c_parser.specs.Blocks.{IsItem, IsElse, IsBody, IsBlock, IsPieces, arm, block, gap, piece}
use Rattle.c_types.specs.declared.judged.Judged.{Judged}
use Rattle.c_types.specs.declared.judged.Judged.TheVariants.{Typed, Broken}
use Rattle.c_types.specs.declared.judged.Called.{Called}
use Rattle.c_types.specs.declared.scope.Nesting.{Nesting}
use Rattle.c_types.specs.declared.scope.Walk.{Walk}
use Rattle.c_types.specs.Blocks.{ItemWalk, ArmWalk, BlockWalk, PieceWalk, item_walk, arm_walk, block_walk, piece_walk, at_nesting, in_loop, inner, walked_arm, walked_block, walked_free, walked_gap, walked_head, walked_item, walked_piece, walked_test, within}
use Rattle.c_types.specs.InTurn.{each, in_turn, optional}
use Rattle.c_types.specs.Calls.{walked_call}
use Rattle.c_types.specs.Statements.{call_item, noting, returned_value, walked_declr, walked_right, walked_simple}
use Rattle.source_patcher.specs.Changes.{Changes, Part, arm_changes, arm_layer, block_changes, block_layer, brace, gets_braces, item_changes, item_layer, last_place, piece_layer, piece_part}
use Rattle.source_patcher.specs.Edit.{text_of}
use Rattle.source_patcher.specs.Gaps.{blanked, blanks, freed_at, gap_changes, writes}
use Rattle.source_patcher.specs.Refilled.{behind_gap, stays}
use Rattle.source_patcher.specs.declared.change.Change.{Change}
use Rattle.source_patcher.specs.declared.change.Writing.{Writing}
use Rattle.source_patcher.specs.declared.change.Writing.TheVariants as writing
use Rattle.source_patcher.proofs.Blanked.{blank_edits, gap_edits_by, is_between}
use Rattle.source_patcher.proofs.ChangeLaws.{block_opens, if_opens, piece_opens, pieces_changes, writes_before}
use Rattle.source_patcher.proofs.Edited.{body_edits, block_edits, brace_edit, close_text, else_edits, gap_edits, gap_writes, item_edits, new_at, open_text, pieces_edits, writes_by}
use Rattle.source_patcher.proofs.EditedTokens.{edit_of, edits_of}
use Rattle.source_patcher.proofs.Inserts.{inserts}
use Rattle.source_patcher.proofs.TextEdits.{TextEdit}
use Rattle.source_patcher.proofs.Turns.{blanked as blank_edit}

is_some : (n : ℕ) → nat_lt 0 (suc n) ≡ true
is_some n = grind (arith, nat_tests)

or_none : (b : Bool) → (b || false) ≡ b
or_none true = refl
or_none false = refl

module _ (all : List Token) (prog : Program) (puts : List Put) where
  abbrev pub made_edits : List Change → List TextEdit → List TextEdit
  made_edits cs es = edits_of prog cs ++ es

  pub both : (xs ys : List Change) (es : List TextEdit) → made_edits (xs ++ ys) es ≡ made_edits xs (made_edits ys es)
  both xs ys es = ap (λ (zs : List TextEdit). zs ++ es) (map-append (edit_of prog) xs ys) ∙ append_assoc (edits_of prog xs) (edits_of prog ys) es

  -- gaps

  blanked_along : (ts : List Token) (es : List TextEdit) → made_edits (map blanked ts) es ≡ map blank_edit ts ++ es
  blanked_along [] es = refl
  blanked_along (t ∷ ts) es = ap (λ (xs : List TextEdit). blank_edit t ∷ xs) (blanked_along ts es)

  frees_along : (frees : List Free) (w : Walk) (es : List TextEdit) → made_edits (flat_map (blanks all) (each walked_free frees w).1) es ≡ blank_edits all frees es
  frees_along [] w es = refl
  frees_along (f ∷ fs) w es =
      let rest = each walked_free fs (walked_free f w).0 in
      both (blanks all (walked_free f w).1) (flat_map (blanks all) rest.1) es
      ∙ ap (made_edits (blanks all (walked_free f w).1)) (frees_along fs (walked_free f w).0 es)
      ∙ blanked_along (filter (is_between f.start f.end) all) (blank_edits all fs es)

  inserts_along : (at : ℕ) (new : List Put) (es : List TextEdit) → made_edits (map (freed_at at) new) es ≡ inserts prog at new es
  inserts_along at [] es = refl
  inserts_along at (q ∷ qs) es = ap (λ (xs : List TextEdit). edit_of prog (freed_at at q) ∷ xs) (inserts_along at qs es)

  gap_by_along : (stay : Bool) (at : ℕ) (frees : List Free) (new : List Put) (w : Walk) (es : List TextEdit)
      → made_edits (if stay then [] else flat_map (blanks all) (each walked_free frees w).1 ++ map (freed_at at) new) es ≡ gap_edits_by all prog stay frees new at es
  gap_by_along true at frees new w es = refl
  gap_by_along false at frees new w es =
      both (flat_map (blanks all) (each walked_free frees w).1) (map (freed_at at) new) es
      ∙ ap (made_edits (flat_map (blanks all) (each walked_free frees w).1)) (inserts_along at new es)
      ∙ frees_along frees w (inserts prog at new es)

  gap_along : (at : ℕ) (frees : List Free) (w : Walk) (es : List TextEdit) → made_edits (gap_changes all puts at (walked_gap (gap frees) w).1) es ≡ gap_edits all prog puts at frees w es
  gap_along at frees w es = gap_by_along (stays puts frees w) at frees (new_at puts w) (record w { gaps = w.gaps + 1 }) es

  writes_along : (stay : Bool) (new : List Put) → (not stay && nat_lt 0 (length new)) ≡ writes_by stay new
  writes_along true new = refl
  writes_along false [] = refl
  writes_along false (q ∷ qs) = is_some (length qs)

  brace_along : (braces : Bool) (at : ℕ) (w : Writing) (es : List TextEdit) → made_edits (brace braces at w) es ≡ brace_edit braces at (text_of prog (record { start = at; end = at; writing = w })) es
  brace_along true at w es = refl
  brace_along false at w es = refl

  -- parts of what is made

  abbrev walk_parts : Item-F Item Arm Block Piece → Item-F ItemWalk ArmWalk BlockWalk PieceWalk
  walk_parts = map-Item Item Arm Block Piece ItemWalk ArmWalk BlockWalk PieceWalk walked_item walked_arm walked_block walked_piece

  walk_rolls : (x : Item-F Item Arm Block Piece) → walked_item (roll-Item x) ≡ item_walk (walk_parts x)
  walk_rolls = fold-roll-Item ItemWalk ArmWalk BlockWalk PieceWalk item_walk arm_walk block_walk piece_walk

  abbrev change_parts : MadeItem-F MadeItem MadeArm MadeBlock MadePiece → MadeItem-F Changes Changes Changes Part
  change_parts = map-MadeItem MadeItem MadeArm MadeBlock MadePiece Changes Changes Changes Part (item_changes all puts) (arm_changes all puts) (block_changes all puts) (piece_part all puts)

  changes_roll : (x : MadeItem-F MadeItem MadeArm MadeBlock MadePiece) → item_changes all puts (roll-MadeItem x) ≡ item_layer (change_parts x)
  changes_roll = fold-roll-MadeItem Changes Changes Changes Part item_layer arm_layer (block_layer all puts) (piece_layer all puts)

  -- the changes of what a walk makes of an item
  abbrev item_made : Item → ℕ → Nesting → Walk → List Change
  item_made i at n w = item_changes all puts (walked_item i at n w).1

  -- an item by its layer, and what it becomes by its layer
  opened : (i : Item) (x : Item-F Item Arm Block Piece) (at : ℕ) (n : Nesting) (w : Walk) → roll-Item x ≡ i → item_made i at n w ≡ item_changes all puts (item_walk (walk_parts x) at n w).1
  opened i x at n w is = ap (λ j. item_made j at n w) (sym is) ∙ ap (λ (f : ItemWalk). item_changes all puts (f at n w).1) (walk_rolls x)

  becomes : (m : MadeItem) (y : MadeItem-F MadeItem MadeArm MadeBlock MadePiece) → roll-MadeItem y ≡ m → item_changes all puts m ≡ item_layer (change_parts y)
  becomes m y is = ap (item_changes all puts) (sym is) ∙ changes_roll y

  declare_made : (ds : List MadeDeclr) → item_changes all puts (made.Declare ds) ≡ []
  declare_made ds = becomes (made.Declare ds) (layer.Declare ds) (made.rolls-Declare ds)

  called_made : (c : Judged Called) → item_changes all puts (call_item c).made ≡ []
  called_made (Typed c) = becomes (made.Do c.call) (layer.Do c.call) (made.rolls-Do c.call)
  called_made (Broken fs) = declare_made []

  returned_made : (r : Option MadeRight) (at : ℕ) → item_changes all puts (made.Return r at) ≡ []
  returned_made r at = becomes (made.Return r at) (layer.Return r at) (made.rolls-Return r at)

  return_made : (o : Option Right) (at word : ℕ) (n : Nesting) (w : Walk) → item_made (item.Return o word) at n w ≡ []
  return_made None at word n w = opened (item.Return None word) (Return None word) at n w (item.rolls-Return None word) ∙ returned_made None word
  return_made (Some r) at word n w =
      opened (item.Return (Some r) word) (Return (Some r) word) at n w (item.rolls-Return (Some r) word)
      ∙ returned_made (Some (noting (walked_right r w).0 (returned_value n.returns word (walked_right r w).1)).1) word

  nest_made : (b : Block) (at : ℕ) (n : Nesting) (w : Walk) → item_made (item.Nest b) at n w ≡ block_changes all puts (walked_block b (within n) w).1
  nest_made b at n w =
      let m = (walked_block b (within n) w).1 in
      opened (item.Nest b) (Nest b) at n w (item.rolls-Nest b) ∙ becomes (made.Nest m) (layer.Nest m) (made.rolls-Nest m)

  while_made : (e : Expr) (b : Block) (at : ℕ) (n : Nesting) (w : Walk) → item_made (item.While e b) at n w ≡ block_changes all puts (walked_block b (in_loop n) (walked_test e w).0).1
  while_made e b at n w =
      let t = walked_test e w in
      let m = (walked_block b (in_loop n) t.0).1 in
      opened (item.While e b) (While e b) at n w (item.rolls-While e b) ∙ becomes (made.While t.1 m) (layer.While t.1 m) (made.rolls-While t.1 m)

  for_made : (h : ForHead) (b : Block) (at : ℕ) (n : Nesting) (w : Walk) → item_made (item.For h b) at n w ≡ block_changes all puts (walked_block b (in_loop (within n)) (walked_head (within n) h w).0).1
  for_made h b at n w =
      let s = walked_head (within n) h w in
      let m = (walked_block b (in_loop (within n)) s.0).1 in
      opened (item.For h b) (For h b) at n w (item.rolls-For h b) ∙ becomes (made.For s.1 m) (layer.For s.1 m) (made.rolls-For s.1 m)

  -- the arms of an `if` and its last block
  abbrev arms_made : List Arm → Option Block → Nesting → Walk → List Change
  arms_made arms last n w =
      let a = each (at_nesting n) (map walked_arm arms) w in
      flat_map (arm_changes all puts) a.1 ++ from_last (option_map (block_changes all puts) (optional (inner n) (option_map walked_block last) a.0).1)

  if_made : (arms : List Arm) (last : Option Block) (at : ℕ) (n : Nesting) (w : Walk) → item_made (item.If arms last) at n w ≡ arms_made arms last n w
  if_made arms None at n w =
      opened (item.If arms None) (If arms None) at n w (item.rolls-If arms None) ∙ if_opens all puts (each (at_nesting n) (map walked_arm arms) w).1 None
  if_made arms (Some b) at n w =
      let a = each (at_nesting n) (map walked_arm arms) w in
      opened (item.If arms (Some b)) (If arms (Some b)) at n w (item.rolls-If arms (Some b)) ∙ if_opens all puts a.1 (Some (inner n (walked_block b) a.0).1)

  arm_made : (e : Expr) (b : Block) (n : Nesting) (w : Walk) → arm_changes all puts (walked_arm (arm e b) n w).1 ≡ block_changes all puts (walked_block b (within n) (walked_test e w).0).1
  arm_made e b n w =
      let t = walked_test e w in
      ap (λ (f : ArmWalk). arm_changes all puts (f n w).1) (fold-roll-Arm ItemWalk ArmWalk BlockWalk PieceWalk item_walk arm_walk block_walk piece_walk (record { test = e; body = b }))
      ∙ fold-roll-MadeArm Changes Changes Changes Part item_layer arm_layer (block_layer all puts) (piece_layer all puts) (record { test = t.1; body = (walked_block b (within n) t.0).1 })

  -- a block
  abbrev layer_made : MadeBlock-F MadeItem MadeArm MadeBlock MadePiece → List Change
  layer_made l =
      let braces = gets_braces puts l.braced (writes_before puts l.items) l.last_gap in
      brace braces l.start writing.Open ++ pieces_changes all puts l.items ++ gap_changes all puts (last_place l.braced l.end) l.last_gap ++ brace braces l.end writing.Close

  block_made : (ps : List Piece) (frees : List Free) (braced : Bool) (start end : ℕ) (n : Nesting) (w : Walk) → let q = each (at_nesting n) (map walked_piece ps) w in
      let l : MadeBlock-F MadeItem MadeArm MadeBlock MadePiece = record { items = q.1; last_gap = (walked_gap (gap frees) q.0).1; braced = braced; start = start; end = end } in
      block_changes all puts (walked_block (block ps frees braced start end) n w).1 ≡ layer_made l
  block_made ps frees braced start end n w =
      let q = each (at_nesting n) (map walked_piece ps) w in
      let l : MadeBlock-F MadeItem MadeArm MadeBlock MadePiece = record { items = q.1; last_gap = (walked_gap (gap frees) q.0).1; braced = braced; start = start; end = end } in
      ap (λ (f : BlockWalk). block_changes all puts (f n w).1) (fold-roll-Block ItemWalk ArmWalk BlockWalk PieceWalk item_walk arm_walk block_walk piece_walk (record { items = ps; last_gap = gap frees; braced = braced; start = start; end = end }))
      ∙ block_opens all puts (roll-MadeBlock l) ∙ ap layer_made (out-roll-MadeBlock l)

  -- a piece
  piece_walks : (frees : List Free) (i : Item) (start end : ℕ) (n : Nesting) (w : Walk) → let v = behind_gap frees w in let r = walked_item i start n v in
      let l : MadePiece-F MadeItem MadeArm MadeBlock MadePiece = record { gap = (walked_gap (gap frees) w).1; item = r.1; start = start; end = end } in
      walked_piece (piece frees i start end) n w ≡ (r.0, roll-MadePiece l)
  piece_walks frees i start end n w =
      ap (λ (f : PieceWalk). f n w) (fold-roll-Piece ItemWalk ArmWalk BlockWalk PieceWalk item_walk arm_walk block_walk piece_walk (record { gap = gap frees; item = i; start = start; end = end }))

  piece_made : (l : MadePiece-F MadeItem MadeArm MadeBlock MadePiece) → (piece_part all puts (roll-MadePiece l)).changes ≡ gap_changes all puts l.start l.gap ++ item_changes all puts l.item
  piece_made l =
      ap (λ (p : Part). p.changes) (piece_opens all puts (roll-MadePiece l))
      ∙ ap (λ (o : MadePiece-F MadeItem MadeArm MadeBlock MadePiece). gap_changes all puts o.start o.gap ++ item_changes all puts o.item) (out-roll-MadePiece l)

  piece_along : (frees : List Free) (i : Item) (start end : ℕ) (n : Nesting) (w : Walk) (es : List TextEdit) → let v = behind_gap frees w in
      let l : MadePiece-F MadeItem MadeArm MadeBlock MadePiece = record { gap = (walked_gap (gap frees) w).1; item = (walked_item i start n v).1; start = start; end = end } in
      made_edits (piece_part all puts (roll-MadePiece l)).changes es ≡ gap_edits all prog puts start frees w (made_edits (item_made i start n v) es)
  piece_along frees i start end n w es =
      let v = behind_gap frees w in
      let l : MadePiece-F MadeItem MadeArm MadeBlock MadePiece = record { gap = (walked_gap (gap frees) w).1; item = (walked_item i start n v).1; start = start; end = end } in
      ap (λ (cs : List Change). made_edits cs es) (piece_made l)
      ∙ both (gap_changes all puts start l.gap) (item_made i start n v) es
      ∙ gap_along start frees w (made_edits (item_made i start n v) es)

  four_along : (a b c d : List Change) (es : List TextEdit) → made_edits (a ++ b ++ c ++ d) es ≡ made_edits a (made_edits b (made_edits c (made_edits d es)))
  four_along a b c d es = both (a ++ b ++ c) d es ∙ both (a ++ b) c (made_edits d es) ∙ both a b (made_edits c (made_edits d es))

  -- braces around what is made within
  braced_along : (braces : Bool) (start end : ℕ) (b c : List Change) (es : List TextEdit)
      → made_edits (brace braces start writing.Open ++ b ++ c ++ brace braces end writing.Close) es ≡ brace_edit braces start open_text (made_edits b (made_edits c (brace_edit braces end close_text es)))
  braced_along braces start end b c es =
      four_along (brace braces start writing.Open) b c (brace braces end writing.Close) es
      ∙ brace_along braces start writing.Open (made_edits b (made_edits c (made_edits (brace braces end writing.Close) es)))
      ∙ ap (λ (xs : List TextEdit). brace_edit braces start open_text (made_edits b (made_edits c xs))) (brace_along braces end writing.Close es)

  -- a body of frees alone
  frees_block : (frees : List Free) (start end : ℕ) (n : Nesting) (w : Walk) (es : List TextEdit) → let braces = gap_writes all prog puts frees w in
      made_edits (block_changes all puts (walked_block (block [] frees false start end) n w).1) es ≡ brace_edit braces start open_text (gap_edits all prog puts end frees w (brace_edit braces end close_text es))
  frees_block frees start end n w es =
      let braces = gap_writes all prog puts frees w in
      let g = (walked_gap (gap frees) w).1 in
      let c = gap_changes all puts end g in
      ap (λ (cs : List Change). made_edits cs es) (block_made [] frees false start end n w)
      ∙ ap (λ (b : Bool). made_edits (brace b start writing.Open ++ [] ++ c ++ brace b end writing.Close) es) (writes_along (stays puts frees w) (new_at puts w))
      ∙ braced_along braces start end [] c es
      ∙ ap (brace_edit braces start open_text) (gap_along end frees w (brace_edit braces end close_text es))

  -- a body of one item
  item_block : (i : Item) (start end : ℕ) (n : Nesting) (w : Walk) (es : List TextEdit) → let v = behind_gap [] w in let u = (walked_item i start n v).0 in
      let braces = gap_writes all prog puts [] w || gap_writes all prog puts [] u in
      made_edits (block_changes all puts (walked_block (block (piece [] i start end ∷ []) [] false start end) n w).1) es
      ≡ brace_edit braces start open_text (gap_edits all prog puts start [] w (made_edits (item_made i start n v) (gap_edits all prog puts end [] u (brace_edit braces end close_text es))))
  item_block i start end n w es =
      let v = behind_gap [] w in
      let r = walked_item i start n v in
      let u = r.0 in
      let g = (walked_gap (gap []) w).1 in
      let h = (walked_gap (gap []) u).1 in
      let l : MadePiece-F MadeItem MadeArm MadeBlock MadePiece = record { gap = g; item = r.1; start = start; end = end } in
      let lay : Walk × MadePiece → MadeBlock-F MadeItem MadeArm MadeBlock MadePiece = λ q. record { items = q.1 ∷ []; last_gap = (walked_gap (gap []) q.0).1; braced = false; start = start; end = end } in
      let b = (piece_part all puts (roll-MadePiece l)).changes in
      let c = gap_changes all puts end h in
      let braces = gap_writes all prog puts [] w || gap_writes all prog puts [] u in
      let whole : Bool → List TextEdit = λ x. made_edits (brace x start writing.Open ++ (b ++ []) ++ c ++ brace x end writing.Close) es in
      let same : ((writes puts g || false) || writes puts h) ≡ braces =
      ap (λ x. x || writes puts h) (or_none (writes puts g) ∙ writes_along (stays puts [] w) (new_at puts w)) ∙ ap (λ x. gap_writes all prog puts [] w || x) (writes_along (stays puts [] u) (new_at puts u)) in
      let later = brace_edit braces end close_text es in
      ap (λ (cs : List Change). made_edits cs es) (block_made (piece [] i start end ∷ []) [] false start end n w ∙ ap (λ q. layer_made (lay q)) (piece_walks [] i start end n w))
      ∙ ap (λ (o : MadePiece-F MadeItem MadeArm MadeBlock MadePiece). whole ((writes puts o.gap || false) || writes puts h)) (out-roll-MadePiece l)
      ∙ ap whole same
      ∙ braced_along braces start end (b ++ []) c es
      ∙ ap (λ (cs : List Change). brace_edit braces start open_text (made_edits cs (made_edits c later))) (append-nil b)
      ∙ ap (λ (xs : List TextEdit). brace_edit braces start open_text (made_edits b xs)) (gap_along end [] u later)
      ∙ ap (brace_edit braces start open_text) (piece_along [] i start end n w (gap_edits all prog puts end [] u later))

  first_arm : (e : Expr) (b : Block) (arms : List Arm) (last : Option Block) (n : Nesting) (w : Walk) (es : List TextEdit)
      → made_edits (arms_made (arm e b ∷ arms) last n w) es
      ≡ made_edits (block_changes all puts (walked_block b (within n) (walked_test e w).0).1) (made_edits (arms_made arms last n (walked_arm (arm e b) n w).0) es)
  first_arm e b arms last n w es =
      let r = walked_arm (arm e b) n w in
      let a = each (at_nesting n) (map walked_arm arms) r.0 in
      let x = arm_changes all puts r.1 in
      let f = flat_map (arm_changes all puts) a.1 in
      let l = from_last (option_map (block_changes all puts) (optional (inner n) (option_map walked_block last) a.0).1) in
      ap (λ (cs : List Change). made_edits cs es) (append_assoc x f l) ∙ both x (f ++ l) es ∙ ap (λ (cs : List Change). made_edits cs (made_edits (f ++ l) es)) (arm_made e b n w)

  nothing : (cs : List Change) (es : List TextEdit) → cs ≡ [] → es ≡ made_edits cs es
  nothing cs es none = sym (ap (λ (xs : List Change). made_edits xs es) none)

  mutual
    unfolding item_edits

    pub item_along : {i : Item} {end : ℕ} {ts us : List Token} (d : IsItem i end ts us) (at : ℕ) (n : Nesting) (w : Walk) (es : List TextEdit) → item_edits all prog puts d n w es ≡ made_edits (item_made i at n w) es
    item_along (IsItem.declare {declrs = ds} d is) at n w es =
        nothing (item_made (item.Declare ds) at n w) es (opened (item.Declare ds) (Declare ds) at n w (item.rolls-Declare ds) ∙ declare_made (each (walked_declr n) ds w).1)
    item_along (IsItem.assign {s = s} d is) at n w es =
        let m = (walked_simple s w).1 in
        nothing (item_made (item.Assign s) at n w) es (opened (item.Assign s) (Assign s) at n w (item.rolls-Assign s) ∙ becomes (made.Assign m) (layer.Assign m) (made.rolls-Assign m))
    item_along (IsItem.call {c = c} d is) at n w es =
        nothing (item_made (item.Do c) at n w) es (opened (item.Do c) (Do c) at n w (item.rolls-Do c) ∙ called_made (walked_call c w).1)
    item_along (IsItem.nest {b = b} d) at n w es = block_along d (within n) w es ∙ ap (λ (cs : List Change). made_edits cs es) (sym (nest_made b at n w))
    item_along (IsItem.branch {e = e} {b = b} {arms = arms} {last = last} is d q r) at n w es =
        let t = (walked_test e w).0 in
        let v = (walked_arm (arm e b) n w).0 in
        body_along q (within n) t (else_edits all prog puts r n v es)
        ∙ ap (made_edits (block_changes all puts (walked_block b (within n) t).1)) (else_along r n v es)
        ∙ sym (first_arm e b arms last n w es)
        ∙ ap (λ (cs : List Change). made_edits cs es) (sym (if_made (arm e b ∷ arms) last at n w))
    item_along (IsItem.while {e = e} {b = b} is d q) at n w es = body_along q (in_loop n) (walked_test e w).0 es ∙ ap (λ (cs : List Change). made_edits cs es) (sym (while_made e b at n w))
    item_along (IsItem.for {h = h} {b = b} is d q) at n w es =
        body_along q (in_loop (within n)) (walked_head (within n) h w).0 es ∙ ap (λ (cs : List Change). made_edits cs es) (sym (for_made h b at n w))
    item_along (IsItem.break is_t is_s) at n w es =
        nothing (item_made item.Break at n w) es (opened item.Break Break at n w item.rolls-Break ∙ becomes made.Break layer.Break made.rolls-Break)
    item_along (IsItem.continue is_t is_s) at n w es =
        nothing (item_made item.Continue at n w) es (opened item.Continue Continue at n w item.rolls-Continue ∙ becomes made.Continue layer.Continue made.rolls-Continue)
    item_along (IsItem.return {t = t} is_t is_s) at n w es = nothing (item_made (item.Return None t.start) at n w) es (return_made None at t.start n w)
    item_along (IsItem.return_value {t = t} {r = r} is_t d is_s) at n w es = nothing (item_made (item.Return (Some r) t.start) at n w) es (return_made (Some r) at t.start n w)

    pub else_along : {arms : List Arm} {last : Option Block} {before end : ℕ} {ts us : List Token} (d : IsElse arms last before end ts us) (n : Nesting) (w : Walk) (es : List TextEdit)
        → else_edits all prog puts d n w es ≡ made_edits (arms_made arms last n w) es
    else_along (IsElse.none is) n w es = refl
    else_along (IsElse.else_if {e = e} {b = b} {arms = arms} {last = last} is_t is_i d q r) n w es =
        let t = (walked_test e w).0 in
        let v = (walked_arm (arm e b) n w).0 in
        body_along q (within n) t (else_edits all prog puts r n v es)
        ∙ ap (made_edits (block_changes all puts (walked_block b (within n) t).1)) (else_along r n v es)
        ∙ sym (first_arm e b arms last n w es)
    else_along (IsElse.otherwise is_t no_if d) n w es = body_along d (within n) w es

    pub body_along : {b : Block} {end : ℕ} {ts us : List Token} (d : IsBody b end ts us) (n : Nesting) (w : Walk) (es : List TextEdit) → body_edits all prog puts d n w es ≡ made_edits (block_changes all puts (walked_block b n w).1) es
    body_along (IsBody.braced d) n w es = block_along d n w es
    body_along (IsBody.unbraced {t = t} {i = i} {end = end} is d) n w es =
        let v = behind_gap [] w in
        let u = (walked_item i t.start n v).0 in
        let braces = gap_writes all prog puts [] w || gap_writes all prog puts [] u in
        let later = gap_edits all prog puts end [] u (brace_edit braces end close_text es) in
        ap (λ (xs : List TextEdit). brace_edit braces t.start open_text (gap_edits all prog puts t.start [] w xs)) (item_along d t.start n v later)
        ∙ sym (item_block i t.start end n w es)
    body_along (IsBody.free {f = f} d) n w es = sym (frees_block (f ∷ []) f.start f.end n w es)
    body_along (IsBody.empty {t = t} is) n w es = sym (frees_block [] t.start t.end n w es)

    pub block_along : {b : Block} {end : ℕ} {ts us : List Token} (d : IsBlock b end ts us) (n : Nesting) (w : Walk) (es : List TextEdit) → block_edits all prog puts d n w es ≡ made_edits (block_changes all puts (walked_block b n w).1) es
    block_along (IsBlock.braces {t = t} {pieces = ps} {frees = frees} {end = end} is d) n w es =
        let q = each (at_nesting n) (map walked_piece ps) w in
        let b = pieces_changes all puts q.1 in
        let c = gap_changes all puts (end - 1) (walked_gap (gap frees) q.0).1 in
        pieces_along d n w es ∙ ap (λ (cs : List Change). made_edits cs es) (sym (append-nil (b ++ c)))
        ∙ ap (λ (cs : List Change). made_edits cs es) (sym (block_made ps frees true t.start end n w))

    pub pieces_along : {ps : List Piece} {frees : List Free} {end : ℕ} {ts us : List Token} (d : IsPieces ps frees end ts us) (n : Nesting) (w : Walk) (es : List TextEdit) → let q = each (at_nesting n) (map walked_piece ps) w in
        pieces_edits all prog puts d n w es ≡ made_edits (pieces_changes all puts q.1 ++ gap_changes all puts (end - 1) (walked_gap (gap frees) q.0).1) es
    pieces_along (IsPieces.last {t = t} {frees = frees} d is) n w es = sym (gap_along (t.end - 1) frees w es)
    pieces_along (IsPieces.more {t = t} {gap_frees = gap_frees} {frees = frees} {i = i} {others = others} {end = end} {end' = last} d q r) n w es =
        let v = behind_gap gap_frees w in
        let x = walked_item i t.start n v in
        let fs = map (at_nesting n) (map walked_piece others) in
        let l : MadePiece-F MadeItem MadeArm MadeBlock MadePiece = record { gap = (walked_gap (gap gap_frees) w).1; item = x.1; start = t.start; end = end } in
        let whole : Walk × MadePiece → List TextEdit = λ y. made_edits (pieces_changes all puts (y.1 ∷ (in_turn fs y.0).1) ++ gap_changes all puts (last - 1) (walked_gap (gap frees) (in_turn fs y.0).0).1) es in
        let p = (piece_part all puts (roll-MadePiece l)).changes in
        let b = pieces_changes all puts (in_turn fs x.0).1 in
        let c = gap_changes all puts (last - 1) (walked_gap (gap frees) (in_turn fs x.0).0).1 in
        ap (gap_edits all prog puts t.start gap_frees w) (item_along q t.start n v (pieces_edits all prog puts r n x.0 es))
        ∙ sym (piece_along gap_frees i t.start end n w (pieces_edits all prog puts r n x.0 es))
        ∙ ap (made_edits p) (pieces_along r n x.0 es)
        ∙ sym (both p (b ++ c) es)
        ∙ ap (λ (cs : List Change). made_edits cs es) (sym (append_assoc p b c))
        ∙ ap whole (sym (piece_walks gap_frees i t.start end n w))
