-- The table of what is in scope has a row for each gap, in the order of the numbers.
use Rattle.std.proofs.Common.{◌≡◌, ℕ, zero, suc, ◌+◌, ◌<◌, ◌==◌, Bool, true, false, List, [], ◌∷◌, ◌++◌, drop, map, flat_map, slice_get, Some, None, if◌then◌else◌, refl, sym, ap, subst, ◌∙◌, arith, append_assoc}
use Rattle.std.specs.List.{range_with_len}
use Rattle.std.proofs.lemmas.Bool.{eqb-true, eqb-false, true_from_ne_false, false_from_ne_true}
use Rattle.std.proofs.lemmas.List.{map-append}
use Rattle.c_tree.specs.Numbers.{Gaps, item_gaps, arm_gaps, block_gaps, piece_gaps, gaps_in, from_all, start_locals}
use Rattle.c_tree.specs.declared.program.Arm.{Arm, Arm-F, roll-Arm, fold-Arm, fold-roll-Arm, map-Arm}
use Rattle.c_tree.specs.declared.program.Block.{Block, Block-F, roll-Block, fold-roll-Block, map-Block, ind-Block}
use Rattle.c_tree.specs.declared.program.FunDef.{FunDef}
use Rattle.c_tree.specs.declared.program.Gap.{Gap}
use Rattle.c_tree.specs.declared.program.Item.{Item, Item-F, roll-Item, fold-Item, fold-roll-Item, map-Item}
use Rattle.c_tree.specs.declared.program.Item.TheOpen.{Declare, Assign, Do, Nest, If, While, For, Break, Continue, Return}
use Rattle.c_tree.specs.declared.program.Piece.{Piece, Piece-F, roll-Piece, fold-Piece, fold-roll-Piece, map-Piece}
use Rattle.c_tree.specs.declared.program.Program.{Program}
use Rattle.c_tree.specs.declared.program.VarDef.{VarDef}
use Rattle.c_tree.specs.WellFormed.{IsWellFormed}
use Rattle.c_scopes.specs.ScopeAt.{GapScope, Part, Place, Declared, item_layer, arm_layer, block_layer, piece_layer, arm_place, block_place, block_place_of, each_place, function_place, item_part, piece_part, scope_at, scopes, scopes_from, so_far, up_to, vars_at}

abbrev item_gaps_in : Item → Gaps
item_gaps_in = fold-Item Gaps Gaps Gaps Gaps item_gaps arm_gaps block_gaps piece_gaps

abbrev arm_gaps_in : Arm → Gaps
arm_gaps_in = fold-Arm Gaps Gaps Gaps Gaps item_gaps arm_gaps block_gaps piece_gaps

abbrev piece_gaps_in : Piece → Gaps
piece_gaps_in = fold-Piece Gaps Gaps Gaps Gaps item_gaps arm_gaps block_gaps piece_gaps

abbrev pub row_numbers : List GapScope → List ℕ
row_numbers = map (λ (r : GapScope). r.gap)

abbrev gap_numbers : Gaps → List ℕ
gap_numbers = map (λ (g : Gap). g.number)

-- a place has these gaps, whatever is visible before it
abbrev HasGaps : Place → Gaps → Type 0
HasGaps b gs = (seen : List ℕ) → row_numbers (b seen) ≡ gap_numbers gs

abbrev ItemHas : Item → Type 0
ItemHas i = HasGaps (item_part i).gaps (item_gaps_in i)

abbrev ArmHas : Arm → Type 0
ArmHas a = HasGaps (arm_place a) (arm_gaps_in a)

abbrev BlockHas : Block → Type 0
BlockHas b = HasGaps (block_place b) (gaps_in b)

abbrev PieceHas : Piece → Type 0
PieceHas p = HasGaps (piece_part p).gaps (piece_gaps_in p)

has_both : (xs ys : List GapScope) (gs hs : Gaps) → row_numbers xs ≡ gap_numbers gs → row_numbers ys ≡ gap_numbers hs → row_numbers (xs ++ ys) ≡ gap_numbers (gs ++ hs)
has_both xs ys gs hs first second =
    map-append (λ (r : GapScope). r.gap) xs ys
    ∙ ap (λ ns. ns ++ row_numbers ys) first ∙ ap (λ ns. gap_numbers gs ++ ns) second
    ∙ sym (map-append (λ (g : Gap). g.number) gs hs)

arms_have : (arms : List ((a : Arm) × ArmHas a)) (seen : List ℕ) → row_numbers (each_place (map arm_place (map (λ e. e.0) arms)) seen) ≡ gap_numbers (from_all (map arm_gaps_in (map (λ e. e.0) arms)))
arms_have [] seen = refl
arms_have (a ∷ arms) seen =
    has_both (arm_place a.0 seen) (each_place (map arm_place (map (λ e. e.0) arms)) seen) (arm_gaps_in a.0) (from_all (map arm_gaps_in (map (λ e. e.0) arms))) (a.1 seen) (arms_have arms seen)

pieces_have : (ps : List ((p : Piece) × PieceHas p)) (last : Gap) (seen : List ℕ) → row_numbers (block_place_of (map piece_part (map (λ e. e.0) ps)) last seen) ≡ gap_numbers (from_all (map piece_gaps_in (map (λ e. e.0) ps)) ++ last ∷ [])
pieces_have [] last seen = refl
pieces_have (p ∷ ps) last seen =
    let rest = from_all (map piece_gaps_in (map (λ e. e.0) ps)) in
    let more = seen ++ (piece_part p.0).declares in
    has_both ((piece_part p.0).gaps seen) (block_place_of (map piece_part (map (λ e. e.0) ps)) last more) (piece_gaps_in p.0) (rest ++ last ∷ []) (p.1 seen) (pieces_have ps last more)
    ∙ ap gap_numbers (sym (append_assoc (piece_gaps_in p.0) rest (last ∷ [])))

abbrev ItemLayer : Type 0
ItemLayer = Item-F ((i : Item) × ItemHas i) ((a : Arm) × ArmHas a) ((b : Block) × BlockHas b) ((p : Piece) × PieceHas p)

abbrev bare : ItemLayer → Item-F Item Arm Block Piece
bare = map-Item ((i : Item) × ItemHas i) ((a : Arm) × ArmHas a) ((b : Block) × BlockHas b) ((p : Piece) × PieceHas p) Item Arm Block Piece (λ e. e.0) (λ e. e.0) (λ e. e.0) (λ e. e.0)

abbrev parted : Item-F Item Arm Block Piece → Item-F Part Place Place Part
parted = map-Item Item Arm Block Piece Part Place Place Part item_part arm_place block_place piece_part

abbrev gapped : Item-F Item Arm Block Piece → Item-F Gaps Gaps Gaps Gaps
gapped = map-Item Item Arm Block Piece Gaps Gaps Gaps Gaps item_gaps_in arm_gaps_in gaps_in piece_gaps_in

layer_has : (y : ItemLayer) → HasGaps (item_layer (parted (bare y))).gaps (item_gaps (gapped (bare y)))
layer_has (Declare ds) seen = refl
layer_has (Assign s) seen = refl
layer_has (Do c) seen = refl
layer_has (Nest b) seen = b.1 seen
layer_has (If arms None) seen =
    has_both (each_place (map arm_place (map (λ e. e.0) arms)) seen) [] (from_all (map arm_gaps_in (map (λ e. e.0) arms))) [] (arms_have arms seen) refl
layer_has (If arms (Some b)) seen =
    has_both (each_place (map arm_place (map (λ e. e.0) arms)) seen) (block_place b.0 seen) (from_all (map arm_gaps_in (map (λ e. e.0) arms))) (gaps_in b.0) (arms_have arms seen) (b.1 seen)
layer_has (While e b) seen = b.1 seen
layer_has (For h b) seen = b.1 (seen ++ flat_map start_locals h.start)
layer_has Break seen = refl
layer_has Continue seen = refl
layer_has (Return r at) seen = refl

step_item : (x : Item-F Item Arm Block Piece) (y : ItemLayer) → bare y ≡ x → ItemHas (roll-Item x)
step_item x y is seen =
    ap (λ (p : Part). row_numbers (p.gaps seen)) (fold-roll-Item Part Place Place Part item_layer arm_layer block_layer piece_layer x)
    ∙ subst (λ z. row_numbers ((item_layer (parted z)).gaps seen) ≡ gap_numbers (item_gaps (gapped z))) is (layer_has y seen)
    ∙ ap gap_numbers (sym (fold-roll-Item Gaps Gaps Gaps Gaps item_gaps arm_gaps block_gaps piece_gaps x))

step_arm : (x : Arm-F Item Arm Block Piece) (y : Arm-F ((i : Item) × ItemHas i) ((a : Arm) × ArmHas a) ((b : Block) × BlockHas b) ((p : Piece) × PieceHas p))
    → map-Arm ((i : Item) × ItemHas i) ((a : Arm) × ArmHas a) ((b : Block) × BlockHas b) ((p : Piece) × PieceHas p) Item Arm Block Piece (λ e. e.0) (λ e. e.0) (λ e. e.0) (λ e. e.0) y ≡ x → ArmHas (roll-Arm x)
step_arm x y is seen =
    let body : y.body.0 ≡ x.body = ap (λ (a : Arm-F Item Arm Block Piece). a.body) is in
    ap (λ (b : Place). row_numbers (b seen)) (fold-roll-Arm Part Place Place Part item_layer arm_layer block_layer piece_layer x)
    ∙ subst (λ b. row_numbers (block_place b seen) ≡ gap_numbers (gaps_in b)) body (y.body.1 seen)
    ∙ ap gap_numbers (sym (fold-roll-Arm Gaps Gaps Gaps Gaps item_gaps arm_gaps block_gaps piece_gaps x))

step_block : (x : Block-F Item Arm Block Piece) (y : Block-F ((i : Item) × ItemHas i) ((a : Arm) × ArmHas a) ((b : Block) × BlockHas b) ((p : Piece) × PieceHas p))
    → map-Block ((i : Item) × ItemHas i) ((a : Arm) × ArmHas a) ((b : Block) × BlockHas b) ((p : Piece) × PieceHas p) Item Arm Block Piece (λ e. e.0) (λ e. e.0) (λ e. e.0) (λ e. e.0) y ≡ x → BlockHas (roll-Block x)
step_block x y is seen =
    let items : map (λ e. e.0) y.items ≡ x.items = ap (λ (b : Block-F Item Arm Block Piece). b.items) is in
    ap (λ (b : Place). row_numbers (b seen)) (fold-roll-Block Part Place Place Part item_layer arm_layer block_layer piece_layer x)
    ∙ subst (λ ps. row_numbers (block_place_of (map piece_part ps) x.last_gap seen) ≡ gap_numbers (from_all (map piece_gaps_in ps) ++ x.last_gap ∷ [])) items (pieces_have y.items x.last_gap seen)
    ∙ ap gap_numbers (sym (fold-roll-Block Gaps Gaps Gaps Gaps item_gaps arm_gaps block_gaps piece_gaps x))

step_piece : (x : Piece-F Item Arm Block Piece) (y : Piece-F ((i : Item) × ItemHas i) ((a : Arm) × ArmHas a) ((b : Block) × BlockHas b) ((p : Piece) × PieceHas p))
    → map-Piece ((i : Item) × ItemHas i) ((a : Arm) × ArmHas a) ((b : Block) × BlockHas b) ((p : Piece) × PieceHas p) Item Arm Block Piece (λ e. e.0) (λ e. e.0) (λ e. e.0) (λ e. e.0) y ≡ x → PieceHas (roll-Piece x)
step_piece x y is seen =
    let item : y.item.0 ≡ x.item = ap (λ (p : Piece-F Item Arm Block Piece). p.item) is in
    ap (λ (p : Part). row_numbers (p.gaps seen)) (fold-roll-Piece Part Place Place Part item_layer arm_layer block_layer piece_layer x)
    ∙ subst (λ i. x.gap.number ∷ row_numbers ((item_part i).gaps seen) ≡ x.gap.number ∷ gap_numbers (item_gaps_in i)) item (ap (λ ns. x.gap.number ∷ ns) (y.item.1 seen))
    ∙ ap gap_numbers (sym (fold-roll-Piece Gaps Gaps Gaps Gaps item_gaps arm_gaps block_gaps piece_gaps x))

block_has : (b : Block) → BlockHas b
block_has = ind-Block ItemHas ArmHas BlockHas PieceHas step_item step_arm step_block step_piece

-- a function's rows are those of its gaps
pub function_numbered : (d : FunDef) (globals : List ℕ) → row_numbers (function_place d globals) ≡ map (λ (g : Gap). g.number) (gaps_in d.body)
function_numbered d globals = block_has d.body (globals ++ d.params)

functions_have : (vars : List VarDef) (f : ℕ) (s : Declared) (ds : List FunDef) → row_numbers (scopes_from vars f s ds) ≡ gap_numbers (flat_map (λ (d : FunDef). gaps_in d.body) ds)
functions_have vars f s [] = refl
functions_have vars f s (d ∷ ds) =
    let here = up_to f d (drop s.count vars) s in
    has_both (function_place d here.globals) (scopes_from vars (f + 1) here ds) (gaps_in d.body) (flat_map (λ (d : FunDef). gaps_in d.body) ds)
    (block_has d.body (here.globals ++ d.params)) (functions_have vars (f + 1) here ds)

-- each gap has its row
pub rows_numbered : (p : Program) → IsWellFormed p → row_numbers (scopes p) ≡ range_with_len 0 p.gaps
rows_numbered p w = functions_have p.vars 0 (so_far 0 []) p.funs ∙ w.gaps

tail_of : (m n : ℕ) (ms ns : List ℕ) → m ∷ ms ≡ n ∷ ns → ms ≡ ns
tail_of m n ms ns e = ap (drop 1) e

-- the row at a place, where rows are numbered from a on

first_row : (r : GapScope) (rows : List GapScope) (a : ℕ) → r.gap ≡ a → r ≡ record { gap = a; vars = vars_at a (r ∷ rows) }
first_row r rows a is =
    let yes : (r.gap == a) ≡ true = true_from_ne_false (r.gap == a) (λ e. eqb-false r.gap a e is) in
    ap (λ n. record { gap = n; vars = r.vars }) is ∙ ap (λ (b : Bool). record { gap = a; vars = if b then r.vars else vars_at a rows }) (sym yes)

later_row : (r : GapScope) (rows : List GapScope) (a b : ℕ) → r.gap ≡ a → a < b → vars_at b rows ≡ vars_at b (r ∷ rows)
later_row r rows a b is less =
    let no : (r.gap == b) ≡ false = false_from_ne_true (r.gap == b) (λ e. let same : r.gap ≡ b = eqb-true r.gap b e in omega arith) in
    ap (λ (c : Bool). if c then r.vars else vars_at b rows) (sym no)

pub row_at : (rows : List GapScope) (a n k : ℕ) → row_numbers rows ≡ range_with_len a n → k < n → slice_get rows k ≡ Some (record { gap = a + k; vars = vars_at (a + k) rows })
row_at rows a zero k is below = absurd (omega arith)
row_at [] a (suc n) k is below = absurd cc
row_at (r ∷ rows) a (suc n) zero is below =
    let here : r.gap ≡ a = cc in
    let e : a ≡ a + 0 = omega arith in
    ap Some (first_row r rows a here) ∙ ap (λ k. Some (record { gap = k; vars = vars_at k (r ∷ rows) })) e
row_at (r ∷ rows) a (suc n) (suc k) is below =
    let here : r.gap ≡ a = cc in
    let e : a + 1 + k ≡ a + suc k = omega arith in
    let less : a < a + 1 + k = omega arith in
    row_at rows (a + 1) n k (tail_of r.gap a (row_numbers rows) (range_with_len (a + 1) n) is) (omega arith)
    ∙ ap (λ vars. Some (record { gap = a + 1 + k; vars = vars })) (later_row r rows a (a + 1 + k) here less)
    ∙ ap (λ m. Some (record { gap = m; vars = vars_at m (r ∷ rows) })) e

-- what is in scope at a gap is what its row says
pub scope_is : (p : Program) (gap : ℕ) → IsWellFormed p → gap < p.gaps → slice_get (scopes p) gap ≡ Some (record { gap = gap; vars = scope_at p gap })
scope_is p gap w below =
    let e : 0 + gap ≡ gap = omega arith in
    row_at (scopes p) 0 p.gaps gap (rows_numbered p w) below ∙ ap (λ n. Some (record { gap = n; vars = vars_at n (scopes p) })) e
