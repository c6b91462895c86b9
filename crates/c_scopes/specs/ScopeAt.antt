-- The variables in scope at each gap: a variable is visible from its declaration to the end of its block, one of a `for` in
-- that `for`, a parameter in the whole body, a global in the functions behind it (C99 6.2.1p4, p7).
use Rattle.std.specs.Prelude.{ℕ, suc, ◌+◌, ◌≤◌, ◌==◌, nat_lt, nat_le, Bool, true, false, not, ◌&&◌, List, [], ◌∷◌, ◌++◌, drop, map, Option, None, Some, if◌then◌else◌}
use Rattle.std.specs.List.{flat_map}
use Rattle.c_tree.specs.Numbers.{start_locals}
use Rattle.c_tree.specs.declared.program.Arm.{Arm, Arm-F, fold-Arm}
use Rattle.c_tree.specs.declared.program.Block.{Block, Block-F, fold-Block}
use Rattle.c_tree.specs.declared.program.Declr.{Declr}
use Rattle.c_tree.specs.declared.program.FunDef.{FunDef}
use Rattle.c_tree.specs.declared.program.Gap.{Gap}
use Rattle.c_tree.specs.declared.program.Home.{Home}
use Rattle.c_tree.specs.declared.program.Home.TheVariants as home
use Rattle.c_tree.specs.declared.program.Item.{Item, Item-F, fold-Item}
use Rattle.c_tree.specs.declared.program.Item.TheOpen.{Declare, Assign, Do, Nest, If, While, For, Break, Continue, Return}
use Rattle.c_tree.specs.declared.program.Piece.{Piece, Piece-F, fold-Piece}
use Rattle.c_tree.specs.declared.program.Program.{Program}
use Rattle.c_tree.specs.declared.program.VarDef.{VarDef}

-- a gap by its number, with the variables in scope there
pub record GapScope : Type 0 where
  pub gap : ℕ
  pub vars : List ℕ

-- the gaps of a part in the order of the text, each with the variables in scope there, from those that are visible before
-- the part
abbrev pub Place : Type 0
Place = List ℕ → List GapScope

-- an item: its gaps, and what it declares to the end of the block in which it stands
pub record Part : Type 0 where
  pub declares : List ℕ
  pub gaps : Place

-- a gap is where it is
abbrev pub gap_scope : Gap → List ℕ → GapScope
gap_scope g seen = record { gap = g.number; vars = seen }

-- an item that declares nothing behind it
abbrev pub closed : Place → Part
closed b = record { declares = []; gaps = b }

-- no gaps
abbrev pub nowhere : Place
nowhere seen = []

-- parts of an item that see the same
abbrev pub each_place : List Place → Place
each_place bs seen = flat_map (λ (b : Place). b seen) bs

-- the block of a last else, if there is one
abbrev pub last_place : Option Place → Place
last_place None seen = []
last_place (Some b) seen = b seen

-- the arms of an if, and the block of the last else
abbrev pub arms_place : List Place → Option Place → Place
arms_place arms last seen = each_place arms seen ++ last_place last seen

-- a part that sees more
abbrev pub seeing : List ℕ → Place → Place
seeing xs b seen = b (seen ++ xs)

-- a block: what an item declares is visible at each gap behind it
abbrev pub block_place_of : List Part → Gap → Place
block_place_of [] last seen = gap_scope last seen ∷ []
block_place_of (p ∷ ps) last seen = p.gaps seen ++ block_place_of ps last (seen ++ p.declares)

-- an item; a `for` is a scope of its own (6.8.5p5)
abbrev pub item_layer : Item-F Part Place Place Part → Part
item_layer (Declare ds) = record { declares = map (λ (d : Declr). d.var) ds; gaps = nowhere }
item_layer (Nest b) = closed b
item_layer (If arms last) = closed (arms_place arms last)
item_layer (While e b) = closed b
item_layer (For h b) = closed (seeing (flat_map start_locals h.start) b)
item_layer (Assign s) = closed nowhere
item_layer (Do c) = closed nowhere
item_layer Break = closed nowhere
item_layer Continue = closed nowhere
item_layer (Return r at) = closed nowhere

abbrev pub arm_layer : Arm-F Part Place Place Part → Place
arm_layer a = a.body

abbrev pub block_layer : Block-F Part Place Place Part → Place
block_layer b = block_place_of b.items b.last_gap

-- an item behind its gap
abbrev pub behind_gap : Gap → Part → Part
behind_gap g i = record { declares = i.declares; gaps = λ seen. gap_scope g seen ∷ i.gaps seen }

abbrev pub piece_layer : Piece-F Part Place Place Part → Part
piece_layer p = behind_gap p.gap p.item

abbrev pub block_place : Block → Place
block_place = fold-Block Part Place Place Part item_layer arm_layer block_layer piece_layer

abbrev pub piece_part : Piece → Part
piece_part = fold-Piece Part Place Place Part item_layer arm_layer block_layer piece_layer

abbrev pub item_part : Item → Part
item_part = fold-Item Part Place Place Part item_layer arm_layer block_layer piece_layer

abbrev pub arm_place : Arm → Place
arm_place = fold-Arm Part Place Place Part item_layer arm_layer block_layer piece_layer

-- the parameters of a function and its body are one scope (6.2.1p4)
abbrev pub function_place : FunDef → Place
function_place d = seeing d.params (block_place d.body)

-- a file: its variables are numbered in the order of their declarations, and so are its functions. The globals before a
-- function are those among the variables up to the first one that stands behind the function's name, or that belongs to
-- this function or a later one

abbrev pub is_global : Home → Bool
is_global (home.Global n) = true
is_global (home.Param f) = false
is_global (home.Local f) = false
is_global (home.Result f) = false

-- function f or a later one declares the variable
abbrev pub is_from : ℕ → Home → Bool
is_from f (home.Global n) = false
is_from f (home.Param g) = nat_le f g
is_from f (home.Local g) = nat_le f g
is_from f (home.Result g) = nat_le f g

-- a variable is declared before function f
abbrev pub stands_before : ℕ → FunDef → VarDef → Bool
stands_before f d v = nat_lt v.at d.at && not (is_from f v.home)

-- how many variables are declared up to a place of the file, and the globals among them
pub record Declared : Type 0 where
  pub count : ℕ
  pub globals : List ℕ

abbrev pub so_far : ℕ → List ℕ → Declared
so_far n xs = record { count = n; globals = xs }

-- a variable more
abbrev pub with_variable : Home → Declared → Declared
with_variable h s = record { count = s.count + 1; globals = if is_global h then s.globals ++ s.count ∷ [] else s.globals }

-- up to function f, where these variables are left
abbrev pub up_to : ℕ → FunDef → List VarDef → Declared → Declared
up_to f d [] s = s
up_to f d (v ∷ vs) s = if stands_before f d v then up_to f d vs (with_variable v.home s) else s

-- functions in turn, numbered from f on, among all variables of the file
abbrev pub scopes_from : List VarDef → ℕ → Declared → List FunDef → List GapScope
scopes_from vars f s [] = []
scopes_from vars f s (d ∷ ds) =
    let here = up_to f d (drop s.count vars) s in
    function_place d here.globals ++ scopes_from vars (f + 1) here ds

-- each gap of a program, in the order of the text, with the variables in scope there in the order of their declarations
abbrev pub scopes : Program → List GapScope
scopes p = scopes_from p.vars 0 (so_far 0 []) p.funs

-- the variables of the first of these gaps with that number, none where there is none
abbrev pub vars_at : ℕ → List GapScope → List ℕ
vars_at gap [] = []
vars_at gap (r ∷ rs) = if r.gap == gap then r.vars else vars_at gap rs

-- the variables in scope at a gap of a program
abbrev pub scope_at : Program → ℕ → List ℕ
scope_at p gap = vars_at gap (scopes p)

-- numbers that ascend, from a on, and below b
abbrev pub Within : ℕ → ℕ → List ℕ → Type 0
Within a b [] = a ≤ b
Within a b (x ∷ xs) = (a ≤ x) × Within (suc x) b xs

-- numbers that ascend
abbrev pub Ascending : List ℕ → Type 0
Ascending xs = (b : ℕ) × Within 0 b xs
