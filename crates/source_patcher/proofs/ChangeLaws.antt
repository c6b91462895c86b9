-- What is changed in a part of a program, from what is changed in the smaller ones.
use Rattle.std.proofs.Common.{◌≡◌, Bool, ◌||◌, List, [], ◌∷◌, ◌++◌, map, flat_map, Option, Some, None, option_map, refl, sym, ap, ◌∙◌, append_assoc}
use Rattle.std.specs.List.{list_any}
use Rattle.std.proofs.lemmas.List.Folds.{flat_map-map}
use Rattle.c_lexer.specs.declared.token.Token.{Token}
use Rattle.c_tree.specs.Numbers.{from_last}
use Rattle.c_tree.specs.declared.choice.Put.{Put}
use Rattle.c_tree.specs.declared.program.Arm.{Arm}
use Rattle.c_tree.specs.declared.program.Block.{Block, out-Block, fold_out-Block}
use Rattle.c_tree.specs.declared.program.Item.{fold-roll-Item}
use Rattle.c_tree.specs.declared.program.Item.TheOpen.{If}
use Rattle.c_tree.specs.declared.program.Item.TheVariants as item
use Rattle.c_tree.specs.declared.program.Piece.{Piece, out-Piece, fold_out-Piece}
use Rattle.source_patcher.specs.declared.change.Change.{Change}
use Rattle.source_patcher.specs.declared.change.Writing.TheVariants as writing
use Rattle.source_patcher.specs.Changes.{Changes, Part, arm_changes, arm_layer, block_changes, block_layer, brace, gets_braces, item_changes, item_layer, last_place, piece_layer, piece_part}
use Rattle.source_patcher.specs.Gaps.{gap_changes, writes}

-- a free is written before one of the items
abbrev pub writes_before : List Put → List Piece → Bool
writes_before puts ps = list_any (λ (p : Piece). writes puts (out-Piece p).gap) ps

abbrev pub pieces_changes : List Token → List Put → List Piece → List Change
pieces_changes ts puts ps = flat_map (λ p. (piece_part ts puts p).changes) ps

pub piece_opens : (ts : List Token) (puts : List Put) (p : Piece)
    → let q : Part = record { writes = writes puts (out-Piece p).gap; changes = gap_changes ts puts (out-Piece p).start (out-Piece p).gap ++ item_changes ts puts (out-Piece p).item } in piece_part ts puts p ≡ q
piece_opens ts puts p = fold_out-Piece Changes Changes Changes Part item_layer arm_layer (block_layer ts puts) (piece_layer ts puts) p

writes_same : (ts : List Token) (puts : List Put) (ps : List Piece) → list_any (λ (q : Part). q.writes) (map (piece_part ts puts) ps) ≡ writes_before puts ps
writes_same ts puts [] = refl
writes_same ts puts (p ∷ ps) =
    ap (λ (q : Part). q.writes || list_any (λ (r : Part). r.writes) (map (piece_part ts puts) ps)) (piece_opens ts puts p)
    ∙ ap (λ b. writes puts (out-Piece p).gap || b) (writes_same ts puts ps)

-- a body gets braces
abbrev pub braces_of : List Put → Block → Bool
braces_of puts b = gets_braces puts (out-Block b).braced (writes_before puts (out-Block b).items) (out-Block b).last_gap

pub block_opens : (ts : List Token) (puts : List Put) (b : Block)
    → block_changes ts puts b
    ≡ brace (braces_of puts b) (out-Block b).start writing.Open
    ++ pieces_changes ts puts (out-Block b).items
    ++ gap_changes ts puts (last_place (out-Block b).braced (out-Block b).end) (out-Block b).last_gap
    ++ brace (braces_of puts b) (out-Block b).end writing.Close
block_opens ts puts b =
    let l = out-Block b in
    let whole : Bool → List Change → List Change = λ before inside.
    brace (gets_braces puts l.braced before l.last_gap) l.start writing.Open ++ inside
    ++ gap_changes ts puts (last_place l.braced l.end) l.last_gap ++ brace (gets_braces puts l.braced before l.last_gap) l.end writing.Close in
    let parts = map (piece_part ts puts) l.items in
    fold_out-Block Changes Changes Changes Part item_layer arm_layer (block_layer ts puts) (piece_layer ts puts) b
    ∙ ap (λ before. whole before (flat_map (λ (q : Part). q.changes) parts)) (writes_same ts puts l.items)
    ∙ ap (whole (writes_before puts l.items)) (flat_map-map (λ (q : Part). q.changes) (piece_part ts puts) l.items)

pub if_opens : (ts : List Token) (puts : List Put) (arms : List Arm) (last : Option Block)
    → item_changes ts puts (item.If arms last) ≡ flat_map (arm_changes ts puts) arms ++ from_last (option_map (block_changes ts puts) last)
if_opens ts puts arms None =
    ap (item_changes ts puts) (sym (item.rolls-If arms None)) ∙ fold-roll-Item Changes Changes Changes Part item_layer arm_layer (block_layer ts puts) (piece_layer ts puts) (If arms None)
    ∙ ap (λ cs. cs ++ []) (flat_map-map (λ xs. xs) (arm_changes ts puts) arms)
if_opens ts puts arms (Some b) =
    ap (item_changes ts puts) (sym (item.rolls-If arms (Some b))) ∙ fold-roll-Item Changes Changes Changes Part item_layer arm_layer (block_layer ts puts) (piece_layer ts puts) (If arms (Some b))
    ∙ ap (λ cs. cs ++ block_changes ts puts b) (flat_map-map (λ xs. xs) (arm_changes ts puts) arms)

-- four lists, one behind the other
pub four : (old a b c d one two three new : List Change) → one ≡ old ++ a → two ≡ one ++ b → three ≡ two ++ c → new ≡ three ++ d → new ≡ old ++ (a ++ b ++ c ++ d)
four old a b c d one two three new e1 e2 e3 e4 =
    let front : two ≡ old ++ (a ++ b) = e2 ∙ ap (λ xs. xs ++ b) e1 ∙ append_assoc old a b in
    let more : three ≡ old ++ (a ++ b ++ c) = e3 ∙ ap (λ xs. xs ++ c) front ∙ append_assoc old (a ++ b) c in
    e4 ∙ ap (λ xs. xs ++ d) more ∙ append_assoc old (a ++ b ++ c) d
