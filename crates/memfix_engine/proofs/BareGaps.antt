-- What alike says of the gaps of a program that is filled: the frees of each gap are those of its puts, and nothing else.
use Rattle.std.proofs.Common.{◌≡◌, ℕ, Bool, true, false, ◌==◌, cond, List, [], ◌∷◌, ◌++◌, map, flat_map, Option, Some, None, option_map, unwrap_or, refl, ap, sym, subst, ◌∙◌}
use Rattle.std.proofs.lemmas.Bool.{eqb-true}
use Rattle.std.proofs.lemmas.List.{map-append}
use Rattle.std.proofs.lemmas.Simd.{map-map}
use Rattle.c_tree.specs.Alike.{IsAlike, bare, bare_block, bare_expr, bare_free, bare_fun, bare_gap, bare_item, bare_layer}
use Rattle.c_tree.specs.Fill.{fill, filled, free_of, pointing, puts_at, regapped_fun}
use Rattle.c_tree.specs.Numbers.{Gaps, arm_gaps, block_gaps, from_all, gaps_in, gaps_of, item_gaps, piece_gaps}
use Rattle.c_tree.specs.declared.choice.Choice.{Choice}
use Rattle.c_tree.specs.declared.choice.Put.{Put}
use Rattle.c_tree.specs.declared.expr.Expr.{Expr, Expr-F, roll-Expr, out-Expr, out-roll-Expr, roll-out-Expr, map-Expr, fold-roll-Expr}
use Rattle.c_tree.specs.declared.expr.Expr.TheOpen.{Const, Null, Var, Field, Deref, Index, Unary, Binary}
use Rattle.c_tree.specs.declared.expr.Expr.TheVariants as expr
use Rattle.c_tree.specs.declared.program.Arm.{Arm, Arm-F, roll-Arm, fold-roll-Arm, map-Arm}
use Rattle.c_tree.specs.declared.program.Block.{Block, Block-F, roll-Block, fold-roll-Block, map-Block, ind-Block}
use Rattle.c_tree.specs.declared.program.Free.{Free}
use Rattle.c_tree.specs.declared.program.FunDef.{FunDef}
use Rattle.c_tree.specs.declared.program.Gap.{Gap}
use Rattle.c_tree.specs.declared.program.Item.{Item, Item-F, roll-Item, fold-roll-Item, map-Item}
use Rattle.c_tree.specs.declared.program.Item.TheOpen.{Declare, Assign, Do, Nest, If, While, For, Break, Continue, Return}
use Rattle.c_tree.specs.declared.program.Piece.{Piece, Piece-F, roll-Piece, fold-roll-Piece, map-Piece}
use Rattle.c_tree.specs.declared.program.Program.{Program}
use Rattle.c_tree.proofs.AlikeBlock.{bare_layers}
use Rattle.c_tree.proofs.Alikes.{bare_expr_twice}
use Rattle.c_tree.proofs.Fills.{map_joined}
use Rattle.c_tree.proofs.WellFormedKept.{gaps_changed}
use Rattle.c_tree.proofs.Rebuilds.{Maps, Rebuilds, in_arm, in_block, in_item, in_piece, rebuilt, rebuilt_rebuilds}
use Rattle.memfix_engine.specs.OwnPuts.{arm_gaps_in, field_put, gap_puts, item_gaps_in, piece_gaps_in, put_of, variable_of}

-- lists that two functions map to the same

-- the first elements of equal lists are equal
pub same_head : {A : Type 0} (x y : A) (xs ys : List A) → x ∷ xs ≡ y ∷ ys → x ≡ y
same_head x y xs ys e = ap (λ zs. head_or zs x) e
  where
    head_or : {A : Type 0} → List A → A → A
    head_or [] z = z
    head_or (y ∷ ys) z = y

-- and so are the lists behind them
pub same_tail : {A : Type 0} (x y : A) (xs ys : List A) → x ∷ xs ≡ y ∷ ys → xs ≡ ys
same_tail x y xs ys e = ap tail_of e
  where
    tail_of : {A : Type 0} → List A → List A
    tail_of [] = []
    tail_of (y ∷ ys) = ys

-- what holds of two lists together holds of each
pub split_same : {A B : Type 0} (f h : A → B) (xs ys : List A) → map f (xs ++ ys) ≡ map h (xs ++ ys) → (map f xs ≡ map h xs) × (map f ys ≡ map h ys)
split_same f h [] ys e = (refl, e)
split_same {A} {B} f h (x ∷ xs) ys e =
    let rest = split_same f h xs ys (same_tail (f x) (h x) (map f (xs ++ ys)) (map h (xs ++ ys)) e) in
    (ap (λ (b : B). b ∷ map f xs) (same_head (f x) (h x) (map f (xs ++ ys)) (map h (xs ++ ys)) e) ∙ ap (λ (bs : List B). h x ∷ bs) rest.0, rest.1)

-- where f and h agree, so do k and l
pub same_too : {A B C : Type 0} (f h : A → B) (k l : A → C) → ((x : A) → f x ≡ h x → k x ≡ l x) → (xs : List A) → map f xs ≡ map h xs → map k xs ≡ map l xs
same_too f h k l leads [] e = refl
same_too {A} {B} {C} f h k l leads (x ∷ xs) e =
    ap (λ (c : C). c ∷ map k xs) (leads x (same_head (f x) (h x) (map f xs) (map h xs) e))
    ∙ ap (λ (cs : List C). l x ∷ cs) (same_too f h k l leads xs (same_tail (f x) (h x) (map f xs) (map h xs) e))

-- the put of an expression doesn't hang on offsets

-- bare of a rolled layer
bare_rolls : (l : Expr-F Expr) → bare_expr (roll-Expr l) ≡ roll-Expr (bare_layer (map-Expr Expr Expr bare_expr l))
bare_rolls = fold-roll-Expr Expr (λ l. roll-Expr (bare_layer l))

-- a bare expression, one level opened
bare_opens : (e : Expr) → out-Expr (bare_expr e) ≡ bare_layer (map-Expr Expr Expr bare_expr (out-Expr e))
bare_opens e = ap (λ (d : Expr). out-Expr (bare_expr d)) (sym (roll-out-Expr e)) ∙ ap out-Expr (bare_rolls (out-Expr e)) ∙ out-roll-Expr (bare_layer (map-Expr Expr Expr bare_expr (out-Expr e)))

-- which variable a layer is
variable_bare : (l : Expr-F Expr) → variable_of (bare_layer (map-Expr Expr Expr bare_expr l)) ≡ variable_of l
variable_bare (Const n at) = refl
variable_bare (Null at) = refl
variable_bare (Var x at) = refl
variable_bare (Field e f at) = refl
variable_bare (Deref e at) = refl
variable_bare (Index e i at) = refl
variable_bare (Unary s e at) = refl
variable_bare (Binary o a b at) = refl

-- which put a layer has
layer_put_bare : (g : ℕ) (l : Expr-F Expr) → put_of g (bare_layer (map-Expr Expr Expr bare_expr l)) ≡ put_of g l
layer_put_bare g (Const n at) = refl
layer_put_bare g (Null at) = refl
layer_put_bare g (Var x at) = refl
layer_put_bare g (Field e f at) = ap (option_map (field_put g f)) (ap variable_of (bare_opens e) ∙ variable_bare (out-Expr e))
layer_put_bare g (Deref e at) = refl
layer_put_bare g (Index e i at) = refl
layer_put_bare g (Unary s e at) = refl
layer_put_bare g (Binary o a b at) = refl

-- which put an expression has
put_bare : (g : ℕ) (e : Expr) → put_of g (out-Expr (bare_expr e)) ≡ put_of g (out-Expr e)
put_bare g e = ap (put_of g) (bare_opens e) ∙ layer_put_bare g (out-Expr e)

-- which puts the frees of a gap have
gap_puts_bare : (g : Gap) → gap_puts (bare_gap g) ≡ gap_puts g
gap_puts_bare g = map_joined (λ (f : Free). put_of g.number (out-Expr f.expr)) bare_free (λ (f : Free). put_of g.number (out-Expr f.expr)) (λ f. put_bare g.number f.expr) g.frees

-- the free of a put has this put

-- a variable, one level opened
open_variable : (x at : ℕ) → out-Expr (expr.Var x at) ≡ Var x at
open_variable x at = ap out-Expr (sym (expr.rolls-Var x at)) ∙ out-roll-Expr (Var x at)

-- what is freed for a put, x or x->f
put_pointing : (g x : ℕ) (f : Option ℕ) → put_of g (out-Expr (pointing x f)) ≡ Some (record { gap = g; var = x; field = f })
put_pointing g x None = ap (put_of g) (open_variable x 0)
put_pointing g x (Some f) =
    ap (put_of g) (ap out-Expr (sym (expr.rolls-Field (expr.Var x 0) f 0)) ∙ out-roll-Expr (Field (expr.Var x 0) f 0))
    ∙ ap (λ (l : Expr-F Expr). option_map (field_put g f) (variable_of l)) (open_variable x 0)

-- the free of a put has it
pub put_of_free : (q : Put) → put_of q.gap (out-Expr (free_of q).expr) ≡ Some q
put_of_free q = put_pointing q.gap q.var q.field

-- and a free that has it is that one but for offsets

-- what is there is equal where the options are
pub some_same : {A : Type 0} (x y : A) → Some x ≡ Some y → x ≡ y
some_same x y e = ap (λ o. unwrap_or o x) e

-- a variable, bare
variable_is : (l : Expr-F Expr) (x : ℕ) → variable_of l ≡ Some x → bare_expr (roll-Expr l) ≡ expr.Var x 0
variable_is (Var y at) x h = bare_rolls (Var y at) ∙ expr.rolls-Var y 0 ∙ ap (λ (n : ℕ). expr.Var n 0) (some_same y x h)
variable_is (Const n at) x h = absurd cc
variable_is (Null at) x h = absurd cc
variable_is (Field e f at) x h = absurd cc
variable_is (Deref e at) x h = absurd cc
variable_is (Index e i at) x h = absurd cc
variable_is (Unary s e at) x h = absurd cc
variable_is (Binary o a b at) x h = absurd cc

-- a field of what may be a variable
field_is : (g f at : ℕ) (e : Expr) (x : Option ℕ) (q : Put) → variable_of (out-Expr e) ≡ x → option_map (field_put g f) x ≡ Some q → bare_expr (roll-Expr (Field e f at)) ≡ pointing q.var q.field
field_is g f at e None q is h = absurd cc
field_is g f at e (Some x) q is h =
    let base : bare_expr e ≡ expr.Var x 0 = ap bare_expr (sym (roll-out-Expr e)) ∙ variable_is (out-Expr e) x is in
    bare_rolls (Field e f at) ∙ ap (λ (d : Expr). roll-Expr (Field d f 0)) base ∙ expr.rolls-Field (expr.Var x 0) f 0
    ∙ ap (λ (r : Put). pointing r.var r.field) (some_same (field_put g f x) q h)

-- an expression that has a put, bare, is what the put frees
layer_is : (g : ℕ) (l : Expr-F Expr) (q : Put) → put_of g l ≡ Some q → bare_expr (roll-Expr l) ≡ pointing q.var q.field
layer_is g (Var y at) q h =
    let r : Put = record { gap = g; var = y; field = None } in
    bare_rolls (Var y at) ∙ expr.rolls-Var y 0 ∙ ap (λ (s : Put). pointing s.var s.field) (some_same r q h)
layer_is g (Field e f at) q h = field_is g f at e (variable_of (out-Expr e)) q refl h
layer_is g (Const n at) q h = absurd cc
layer_is g (Null at) q h = absurd cc
layer_is g (Deref e at) q h = absurd cc
layer_is g (Index e i at) q h = absurd cc
layer_is g (Unary s e at) q h = absurd cc
layer_is g (Binary o a b at) q h = absurd cc

-- the bare free that has a put is that of the put
free_is : (g : ℕ) (f : Free) (q : Put) → put_of g (out-Expr f.expr) ≡ Some q → bare_free (free_of q) ≡ bare_free f
free_is g f q h =
    let e : bare_expr f.expr ≡ pointing q.var q.field = ap bare_expr (sym (roll-out-Expr f.expr)) ∙ layer_is g (out-Expr f.expr) q h in
    let same : bare_expr (pointing q.var q.field) ≡ bare_expr f.expr = ap bare_expr (sym e) ∙ bare_expr_twice f.expr in
    ap (λ (d : Expr). record { expr = d; start = 0; end = 0 }) same

-- frees that have these puts are those of the puts, but for offsets
frees_are : (g : ℕ) (fs : List Free) (qs : List Put) → map (λ (f : Free). put_of g (out-Expr f.expr)) fs ≡ map Some qs → map bare_free (map free_of qs) ≡ map bare_free fs
frees_are g [] [] e = refl
frees_are g [] (q ∷ qs) e = absurd cc
frees_are g (f ∷ fs) [] e = absurd cc
frees_are g (f ∷ fs) (q ∷ qs) e =
    let front = same_head (put_of g (out-Expr f.expr)) (Some q) (map (λ (f : Free). put_of g (out-Expr f.expr)) fs) (map Some qs) e in
    let rest = same_tail (put_of g (out-Expr f.expr)) (Some q) (map (λ (f : Free). put_of g (out-Expr f.expr)) fs) (map Some qs) e in
    ap (λ (h : Free). h ∷ map bare_free (map free_of qs)) (free_is g f q front) ∙ ap (λ (hs : List Free). bare_free f ∷ hs) (frees_are g fs qs rest)

-- gaps

-- the puts of a gap, as they are found in its frees
abbrev pub held_by : List Put → Gap → List (Option Put)
held_by puts g = map Some (puts_at puts g.number)

-- these gaps hold the puts: the frees of each are those of its puts
abbrev pub AreHeld : List Put → List Gap → Type 0
AreHeld puts gs = map gap_puts gs ≡ map (held_by puts) gs

-- the puts of frees that have them
abbrev puts_of_frees : ℕ → List Put → List (Option Put)
puts_of_frees k qs = map (λ (f : Free). put_of k (out-Expr f.expr)) (map free_of qs)

-- one more put, of this gap or of another one
one_filled : (k : ℕ) (q : Put) (qs : List Put) (b : Bool) → (q.gap == k) ≡ b → puts_of_frees k qs ≡ map Some qs → puts_of_frees k (cond b (q ∷ qs) qs) ≡ map Some (cond b (q ∷ qs) qs)
one_filled k q qs false is rest = rest
one_filled k q qs true is rest =
    let here : q.gap ≡ k = eqb-true q.gap k is in
    ap (λ (o : Option Put). o ∷ puts_of_frees k qs) (subst (λ (n : ℕ). put_of n (out-Expr (free_of q).expr) ≡ Some q) here (put_of_free q))
    ∙ ap (λ (os : List (Option Put)). Some q ∷ os) rest

-- the frees that fill a gap have the puts of the gap
all_filled : (k : ℕ) (puts : List Put) → puts_of_frees k (puts_at puts k) ≡ map Some (puts_at puts k)
all_filled k [] = refl
all_filled k (q ∷ puts) = one_filled k q (puts_at puts k) (q.gap == k) refl (all_filled k puts)

-- the puts that a filled gap has
pub filled_puts : (puts : List Put) (g : Gap) → gap_puts (filled puts g) ≡ held_by puts g
filled_puts puts g = all_filled g.number puts

-- a gap that stays alike when it is filled holds its puts
gap_held : (puts : List Put) (g : Gap) → bare_gap (filled puts g) ≡ bare_gap g → gap_puts g ≡ held_by puts g
gap_held puts g e = sym (gap_puts_bare g) ∙ ap gap_puts (sym e) ∙ gap_puts_bare (filled puts g) ∙ filled_puts puts g

-- a gap that holds its puts stays alike when it is filled
pub gap_alike : (puts : List Put) (g : Gap) → gap_puts g ≡ held_by puts g → bare_gap (filled puts g) ≡ bare_gap g
gap_alike puts g e = ap (λ (fs : List Free). record { number = g.number; frees = fs }) (frees_are g.number g.frees (puts_at puts g.number) e)

-- the gaps of a bare block

-- blocks and their parts, bare
abbrev pub bared : Maps
bared = rebuilt bare_layers

-- bare of each part, by its layer
pub bare_rebuilds : Rebuilds bared bare_layers
bare_rebuilds = rebuilt_rebuilds bare_layers

-- the gaps of a bare item are the bare ones of the item
abbrev ItemBare : Item → Type 0
ItemBare i = item_gaps_in (bared.item i) ≡ map bare_gap (item_gaps_in i)

-- the same of an arm
abbrev ArmBare : Arm → Type 0
ArmBare a = arm_gaps_in (bared.arm a) ≡ map bare_gap (arm_gaps_in a)

-- the same of a block
abbrev BlockBare : Block → Type 0
BlockBare b = gaps_in (bared.block b) ≡ map bare_gap (gaps_in b)

-- the same of a piece
abbrev PieceBare : Piece → Type 0
PieceBare p = piece_gaps_in (bared.piece p) ≡ map bare_gap (piece_gaps_in p)

-- an item's layer with the gaps of each part
abbrev pub item_gapped : Item-F Item Arm Block Piece → Item-F Gaps Gaps Gaps Gaps
item_gapped = map-Item Item Arm Block Piece Gaps Gaps Gaps Gaps item_gaps_in arm_gaps_in gaps_in piece_gaps_in

-- the gaps of parts in turn
parts_bare : {A : Type 0} (f : A → A) (gaps : A → Gaps) (xs : List ((x : A) × (gaps (f x) ≡ map bare_gap (gaps x))))
    → from_all (map gaps (map f (map (λ e. e.0) xs))) ≡ map bare_gap (from_all (map gaps (map (λ e. e.0) xs)))
parts_bare f gaps [] = refl
parts_bare f gaps (x ∷ xs) =
    ap (λ (gs : Gaps). gs ++ from_all (map gaps (map f (map (λ e. e.0) xs)))) x.1
    ∙ ap (λ (gs : Gaps). map bare_gap (gaps x.0) ++ gs) (parts_bare f gaps xs)
    ∙ sym (map-append bare_gap (gaps x.0) (from_all (map gaps (map (λ e. e.0) xs))))

-- an item's layer with the claim for each part
abbrev BareLayer : Type 0
BareLayer = Item-F ((i : Item) × ItemBare i) ((a : Arm) × ArmBare a) ((b : Block) × BlockBare b) ((p : Piece) × PieceBare p)

-- the layer without the claims
abbrev plain_bare : BareLayer → Item-F Item Arm Block Piece
plain_bare = map-Item ((i : Item) × ItemBare i) ((a : Arm) × ArmBare a) ((b : Block) × BlockBare b) ((p : Piece) × PieceBare p) Item Arm Block Piece (λ e. e.0) (λ e. e.0) (λ e. e.0) (λ e. e.0)

-- the claim for the layer of an item
item_bare : (y : BareLayer) → item_gaps (item_gapped (bare_item (in_item bared (plain_bare y)))) ≡ map bare_gap (item_gaps (item_gapped (plain_bare y)))
item_bare (Declare ds) = refl
item_bare (Assign s) = refl
item_bare (Do c) = refl
item_bare (Nest b) = b.1
item_bare (If arms None) =
    ap (λ (gs : Gaps). gs ++ []) (parts_bare bared.arm arm_gaps_in arms) ∙ sym (map-append bare_gap (from_all (map arm_gaps_in (map (λ e. e.0) arms))) [])
item_bare (If arms (Some b)) =
    ap (λ (gs : Gaps). gs ++ gaps_in (bared.block b.0)) (parts_bare bared.arm arm_gaps_in arms)
    ∙ ap (λ (gs : Gaps). map bare_gap (from_all (map arm_gaps_in (map (λ e. e.0) arms))) ++ gs) b.1
    ∙ sym (map-append bare_gap (from_all (map arm_gaps_in (map (λ e. e.0) arms))) (gaps_in b.0))
item_bare (While test b) = b.1
item_bare (For head b) = b.1
item_bare Break = refl
item_bare Continue = refl
item_bare (Return r at) = refl

-- the claim for an item
step_item_bare : (x : Item-F Item Arm Block Piece) (y : BareLayer) → plain_bare y ≡ x → ItemBare (roll-Item x)
step_item_bare x y is =
    ap item_gaps_in (bare_rebuilds.item x) ∙ fold-roll-Item Gaps Gaps Gaps Gaps item_gaps arm_gaps block_gaps piece_gaps (bare_item (in_item bared x))
    ∙ subst (λ (z : Item-F Item Arm Block Piece). item_gaps (item_gapped (bare_item (in_item bared z))) ≡ map bare_gap (item_gaps (item_gapped z))) is (item_bare y)
    ∙ ap (map bare_gap) (sym (fold-roll-Item Gaps Gaps Gaps Gaps item_gaps arm_gaps block_gaps piece_gaps x))

-- the claim for an arm
step_arm_bare : (x : Arm-F Item Arm Block Piece) (y : Arm-F ((i : Item) × ItemBare i) ((a : Arm) × ArmBare a) ((b : Block) × BlockBare b) ((p : Piece) × PieceBare p))
    → map-Arm ((i : Item) × ItemBare i) ((a : Arm) × ArmBare a) ((b : Block) × BlockBare b) ((p : Piece) × PieceBare p) Item Arm Block Piece (λ e. e.0) (λ e. e.0) (λ e. e.0) (λ e. e.0) y ≡ x → ArmBare (roll-Arm x)
step_arm_bare x y is =
    let body : y.body.0 ≡ x.body = ap (λ (a : Arm-F Item Arm Block Piece). a.body) is in
    ap arm_gaps_in (bare_rebuilds.arm x) ∙ fold-roll-Arm Gaps Gaps Gaps Gaps item_gaps arm_gaps block_gaps piece_gaps (bare_layers.arm (in_arm bared x))
    ∙ subst BlockBare body y.body.1
    ∙ ap (map bare_gap) (sym (fold-roll-Arm Gaps Gaps Gaps Gaps item_gaps arm_gaps block_gaps piece_gaps x))

-- the claim for pieces with a last gap behind them
abbrev PiecesBare : Gap → List Piece → Type 0
PiecesBare g ps = from_all (map piece_gaps_in (map bared.piece ps)) ++ bare_gap g ∷ [] ≡ map bare_gap (from_all (map piece_gaps_in ps) ++ g ∷ [])

-- the claim for a block
step_block_bare : (x : Block-F Item Arm Block Piece) (y : Block-F ((i : Item) × ItemBare i) ((a : Arm) × ArmBare a) ((b : Block) × BlockBare b) ((p : Piece) × PieceBare p))
    → map-Block ((i : Item) × ItemBare i) ((a : Arm) × ArmBare a) ((b : Block) × BlockBare b) ((p : Piece) × PieceBare p) Item Arm Block Piece (λ e. e.0) (λ e. e.0) (λ e. e.0) (λ e. e.0) y ≡ x → BlockBare (roll-Block x)
step_block_bare x y is =
    let items : map (λ e. e.0) y.items ≡ x.items = ap (λ (b : Block-F Item Arm Block Piece). b.items) is in
    let parts : PiecesBare x.last_gap (map (λ e. e.0) y.items) =
    ap (λ (gs : Gaps). gs ++ bare_gap x.last_gap ∷ []) (parts_bare bared.piece piece_gaps_in y.items)
    ∙ sym (map-append bare_gap (from_all (map piece_gaps_in (map (λ e. e.0) y.items))) (x.last_gap ∷ [])) in
    ap gaps_in (bare_rebuilds.block x) ∙ fold-roll-Block Gaps Gaps Gaps Gaps item_gaps arm_gaps block_gaps piece_gaps (bare_layers.block (in_block bared x))
    ∙ subst (PiecesBare x.last_gap) items parts
    ∙ ap (map bare_gap) (sym (fold-roll-Block Gaps Gaps Gaps Gaps item_gaps arm_gaps block_gaps piece_gaps x))

-- the claim for a piece
step_piece_bare : (x : Piece-F Item Arm Block Piece) (y : Piece-F ((i : Item) × ItemBare i) ((a : Arm) × ArmBare a) ((b : Block) × BlockBare b) ((p : Piece) × PieceBare p))
    → map-Piece ((i : Item) × ItemBare i) ((a : Arm) × ArmBare a) ((b : Block) × BlockBare b) ((p : Piece) × PieceBare p) Item Arm Block Piece (λ e. e.0) (λ e. e.0) (λ e. e.0) (λ e. e.0) y ≡ x → PieceBare (roll-Piece x)
step_piece_bare x y is =
    let item : y.item.0 ≡ x.item = ap (λ (p : Piece-F Item Arm Block Piece). p.item) is in
    ap piece_gaps_in (bare_rebuilds.piece x) ∙ fold-roll-Piece Gaps Gaps Gaps Gaps item_gaps arm_gaps block_gaps piece_gaps (bare_layers.piece (in_piece bared x))
    ∙ ap (λ (gs : Gaps). bare_gap x.gap ∷ gs) (subst ItemBare item y.item.1)
    ∙ ap (map bare_gap) (sym (fold-roll-Piece Gaps Gaps Gaps Gaps item_gaps arm_gaps block_gaps piece_gaps x))

-- the gaps of a bare block are bare
block_gaps_bare : (b : Block) → gaps_in (bare_block b) ≡ map bare_gap (gaps_in b)
block_gaps_bare = ind-Block ItemBare ArmBare BlockBare PieceBare step_item_bare step_arm_bare step_block_bare step_piece_bare

-- the gaps of functions
abbrev gaps_of_all : List FunDef → Gaps
gaps_of_all ds = flat_map (λ (d : FunDef). gaps_in d.body) ds

-- the gaps of bare functions are bare
funs_bare : (ds : List FunDef) → gaps_of_all (map bare_fun ds) ≡ map bare_gap (gaps_of_all ds)
funs_bare [] = refl
funs_bare (d ∷ ds) =
    ap (λ (gs : Gaps). gs ++ gaps_of_all (map bare_fun ds)) (block_gaps_bare d.body)
    ∙ ap (λ (gs : Gaps). map bare_gap (gaps_in d.body) ++ gs) (funs_bare ds)
    ∙ sym (map-append bare_gap (gaps_in d.body) (gaps_of_all ds))

-- the gaps of a bare program are bare
pub gaps_bare : (p : Program) → gaps_of (bare p) ≡ map bare_gap (gaps_of p)
gaps_bare p = funs_bare p.funs

-- the gaps of a filled program are filled
gaps_filled : (puts : List Put) (ds : List FunDef) → gaps_of_all (map (regapped_fun (filled puts)) ds) ≡ map (filled puts) (gaps_of_all ds)
gaps_filled puts [] = refl
gaps_filled puts (d ∷ ds) =
    ap (λ (gs : Gaps). gs ++ gaps_of_all (map (regapped_fun (filled puts)) ds)) (gaps_changed (filled puts) d.body)
    ∙ ap (λ (gs : Gaps). map (filled puts) (gaps_in d.body) ++ gs) (gaps_filled puts ds)
    ∙ sym (map-append (filled puts) (gaps_in d.body) (gaps_of_all ds))

-- in a program that is alike when it is filled, the frees of each gap are those of its puts
pub alike_held : (p : Program) (s : Choice) → IsAlike (fill p s) p → AreHeld s.puts (gaps_of p)
alike_held p s e =
    let same : map bare_gap (map (filled s.puts) (gaps_of p)) ≡ map bare_gap (gaps_of p) =
    ap (map bare_gap) (sym (gaps_filled s.puts p.funs)) ∙ sym (gaps_bare (fill p s)) ∙ ap gaps_of e ∙ gaps_bare p in
    same_too (λ (g : Gap). bare_gap (filled s.puts g)) bare_gap gap_puts (held_by s.puts) (gap_held s.puts) (gaps_of p)
    (sym (map-map bare_gap (filled s.puts) (gaps_of p)) ∙ same)
