-- What is in scope, as what changes in the order of the text: scopes begin and end, and variables become visible (C99 6.2.1p4).
use Rattle.std.specs.Prelude.{ℕ, ◌+◌, ◌-◌, ◌==◌, Bool, false, not, List, [], ◌∷◌, ◌++◌, drop, filter, take, length, slice_get, unwrap_or, Option, Some, None, if◌then◌else◌}
use Rattle.std.specs.List.{flat_map}
use Rattle.c_tree.specs.Numbers.{from_all, from_last}
use Rattle.c_tree.specs.declared.program.Arm.{Arm, Arm-F, fold-Arm}
use Rattle.c_tree.specs.declared.program.Block.{Block, Block-F, fold-Block}
use Rattle.c_tree.specs.declared.program.Declr.{Declr}
use Rattle.c_tree.specs.declared.program.ForHead.{ForHead}
use Rattle.c_tree.specs.declared.program.FunDef.{FunDef}
use Rattle.c_tree.specs.declared.program.Item.{Item, Item-F, fold-Item}
use Rattle.c_tree.specs.declared.program.Item.TheOpen.{Declare, Assign, Do, Nest, If, While, For, Break, Continue, Return}
use Rattle.c_tree.specs.declared.program.Piece.{Piece, Piece-F, fold-Piece}
use Rattle.c_tree.specs.declared.program.Program.{Program}
use Rattle.c_tree.specs.declared.program.Start.{Start}
use Rattle.c_tree.specs.declared.program.Start.TheVariants as start
use Rattle.c_tree.specs.declared.program.VarDef.{VarDef}
use Rattle.c_scopes.specs.ScopeAt.{Declared, GapScope, so_far, up_to}
use Rattle.c_scopes.specs.declared.in_scope.InScope.{InScope}
use Rattle.c_scopes.specs.declared.walk.Turn.{Turn}
use Rattle.c_scopes.specs.declared.walk.Turn.TheVariants.{Open, See, Gap, Close}

-- whether a variable is none of the hidden ones
abbrev pub is_shown : List Bool → ℕ → Bool
is_shown hidden x = not (unwrap_or (slice_get hidden x) false)

-- a variable comes into sight
abbrev pub var_turns : List Bool → ℕ → List Turn
var_turns hidden x = if is_shown hidden x then See x ∷ [] else []

abbrev pub declr_turns : List Bool → Declr → List Turn
declr_turns hidden d = var_turns hidden d.var

abbrev pub start_turns : List Bool → Start → List Turn
start_turns hidden (start.Declare d) = var_turns hidden d.var
start_turns hidden (start.Assign s) = []

-- a scope of its own
abbrev pub scoped : List Turn → List Turn
scoped ts = Open ∷ ts ++ Close ∷ []

-- a `for` is a scope, and its body one in it (6.8.5p5)
abbrev pub for_turns : List Bool → ForHead → List Turn → List Turn
for_turns hidden h body = scoped (flat_map (start_turns hidden) h.start ++ body)

abbrev pub item_layer : List Bool → Item-F (List Turn) (List Turn) (List Turn) (List Turn) → List Turn
item_layer hidden (Declare ds) = flat_map (declr_turns hidden) ds
item_layer hidden (Nest b) = b
item_layer hidden (If arms last) = from_all arms ++ from_last last
item_layer hidden (While e b) = b
item_layer hidden (For h b) = for_turns hidden h b
item_layer hidden (Assign s) = []
item_layer hidden (Do c) = []
item_layer hidden Break = []
item_layer hidden Continue = []
item_layer hidden (Return r at) = []

abbrev pub arm_layer : Arm-F (List Turn) (List Turn) (List Turn) (List Turn) → List Turn
arm_layer a = a.body

abbrev pub block_layer : Block-F (List Turn) (List Turn) (List Turn) (List Turn) → List Turn
block_layer b = scoped (from_all b.items ++ Gap b.last_gap.number ∷ [])

abbrev pub piece_layer : Piece-F (List Turn) (List Turn) (List Turn) (List Turn) → List Turn
piece_layer p = Gap p.gap.number ∷ p.item

abbrev pub block_turns : List Bool → Block → List Turn
block_turns hidden = fold-Block (List Turn) (List Turn) (List Turn) (List Turn) (item_layer hidden) arm_layer block_layer piece_layer

abbrev pub piece_turns : List Bool → Piece → List Turn
piece_turns hidden = fold-Piece (List Turn) (List Turn) (List Turn) (List Turn) (item_layer hidden) arm_layer block_layer piece_layer

abbrev pub item_turns : List Bool → Item → List Turn
item_turns hidden = fold-Item (List Turn) (List Turn) (List Turn) (List Turn) (item_layer hidden) arm_layer block_layer piece_layer

abbrev pub arm_turns : List Bool → Arm → List Turn
arm_turns hidden = fold-Arm (List Turn) (List Turn) (List Turn) (List Turn) (item_layer hidden) arm_layer block_layer piece_layer

abbrev pub function_turns : List Bool → FunDef → List Turn
function_turns hidden d = scoped (flat_map (var_turns hidden) d.params ++ block_turns hidden d.body)

-- the globals that came since there were n of them
abbrev pub global_turns : List Bool → ℕ → List ℕ → List Turn
global_turns hidden n globals = flat_map (var_turns hidden) (drop n globals)

-- functions in turn, numbered from f on, among all variables of the file
abbrev pub turns_from : List Bool → List VarDef → ℕ → Declared → List FunDef → List Turn
turns_from hidden vars f s [] = []
turns_from hidden vars f s (d ∷ ds) =
    let here = up_to f d (drop s.count vars) s in
    global_turns hidden (length s.globals) here.globals ++ (function_turns hidden d ++ turns_from hidden vars (f + 1) here ds)

-- what changes in the text of a program, about all variables but the hidden ones
abbrev pub turns : List Bool → Program → List Turn
turns hidden p = turns_from hidden p.vars 0 (so_far 0 []) p.funs

-- what is in scope: a turn says what it is behind it

abbrev pub scope_of : List ℕ → List ℕ → InScope
scope_of vars outer = record { vars = vars; outer = outer }

-- the innermost scope ends, before which n variables were visible
abbrev pub closed_to : Option ℕ → InScope → InScope
closed_to None s = s
closed_to (Some n) s = scope_of (take n s.vars) (take (length s.outer - 1) s.outer)

abbrev pub turned : Turn → InScope → InScope
turned Open s = scope_of s.vars (s.outer ++ length s.vars ∷ [])
turned (See x) s = scope_of (s.vars ++ x ∷ []) s.outer
turned (Gap n) s = s
turned Close s = closed_to (slice_get s.outer (length s.outer - 1)) s

-- a gap is where it is
abbrev pub row_at : Turn → InScope → List GapScope
row_at (Gap n) s = record { gap = n; vars = s.vars } ∷ []
row_at Open s = []
row_at (See x) s = []
row_at Close s = []

-- the gaps on the way, each with the variables in scope there
abbrev pub rows_from : InScope → List Turn → List GapScope
rows_from s [] = []
rows_from s (t ∷ ts) = row_at t s ++ rows_from (turned t s) ts

-- a gap without the hidden ones of its variables
abbrev pub narrowed : List Bool → GapScope → GapScope
narrowed hidden r = record { gap = r.gap; vars = filter (is_shown hidden) r.vars }

-- whether a turn is the gap of that number
abbrev pub is_gap : Turn → ℕ → Bool
is_gap (Gap n) gap = n == gap
is_gap Open gap = false
is_gap (See x) gap = false
is_gap Close gap = false
