-- Gaps, items and blocks (C99 6.8), each with what it becomes.
use Rattle.std.specs.Prelude.{ℕ, ◌+◌, Bool, true, false, ◌||◌, List, [], ◌∷◌, ◌++◌, length, map, Option, None, Some}
use Rattle.c_tree.specs.declared.expr.Expr.{Expr as Made}
use Rattle.c_tree.specs.declared.program.Arm.{Arm as MadeArm, roll-Arm}
use Rattle.c_tree.specs.declared.program.Block.{Block as MadeBlock, roll-Block}
use Rattle.c_tree.specs.declared.program.Declr.{Declr as MadeDeclr}
use Rattle.c_tree.specs.declared.program.ForHead.{ForHead as MadeHead}
use Rattle.c_tree.specs.declared.program.Free.{Free as MadeFree}
use Rattle.c_tree.specs.declared.program.Gap.{Gap as MadeGap}
use Rattle.c_tree.specs.declared.program.Item.{Item as MadeItem}
use Rattle.c_tree.specs.declared.program.Item.TheVariants as item
use Rattle.c_tree.specs.declared.program.Piece.{Piece as MadePiece, roll-Piece}
use Rattle.c_tree.specs.declared.program.Simple.{Simple as MadeSimple}
use Rattle.c_tree.specs.declared.program.Start.{Start as MadeStart}
use Rattle.c_tree.specs.declared.program.Start.TheVariants as start_made
use Rattle.c_tree.specs.declared.tree.Arm.{Arm, Arm-F, fold-Arm}
use Rattle.c_tree.specs.declared.tree.Block.{Block, Block-F, fold-Block}
use Rattle.c_tree.specs.declared.tree.Declr.{Declr}
use Rattle.c_tree.specs.declared.tree.Expr.{Expr}
use Rattle.c_tree.specs.declared.tree.ForHead.{ForHead}
use Rattle.c_tree.specs.declared.tree.Free.{Free}
use Rattle.c_tree.specs.declared.tree.Gap.{Gap}
use Rattle.c_tree.specs.declared.tree.Item.{Item, Item-F, fold-Item}
use Rattle.c_tree.specs.declared.tree.Item.TheOpen.{Declare, Assign, Do, Nest, If, While, For, Break, Continue, Return}
use Rattle.c_tree.specs.declared.tree.Piece.{Piece, Piece-F, fold-Piece}
use Rattle.c_tree.specs.declared.tree.Simple.{Simple}
use Rattle.c_tree.specs.declared.tree.Start.{Start}
use Rattle.c_tree.specs.declared.tree.Start.TheVariants as start
use Rattle.c_types.specs.declared.faults.Rule.TheVariants as rule
use Rattle.c_types.specs.declared.judged.Checked.{Checked}
use Rattle.c_types.specs.declared.judged.Judged.{Judged}
use Rattle.c_types.specs.declared.judged.Judged.TheVariants.{Typed, Broken}
use Rattle.c_types.specs.declared.judged.Value.{Value}
use Rattle.c_types.specs.declared.scope.Nesting.{Nesting}
use Rattle.c_types.specs.declared.scope.Scope.{Scope}
use Rattle.c_types.specs.declared.scope.Walk.{Walk}
use Rattle.c_types.specs.Expressions.{judged}
use Rattle.c_types.specs.Fits.{unless, points, is_zero, as_pointer}
use Rattle.c_types.specs.InTurn.{each, optional}
use Rattle.c_types.specs.Judged.{checked, faults_of, or_null}
use Rattle.c_types.specs.Scopes.{closed, noted}
use Rattle.c_types.specs.Statements.{noting, walked_simple, walked_declr, walked_return, walked_do}

-- gaps

-- Wrong 4: `free` takes a pointer
abbrev pub freed : ℕ → Judged Value → Checked Made
freed at (Typed v) = checked (as_pointer v.expr) (unless (points v.sort || is_zero v.expr) rule.Operands at)
freed at (Broken fs) = checked (or_null (Broken fs)) fs

abbrev pub free_by : Free → Checked Made → Checked MadeFree
free_by f c = checked (record { expr = c.made; start = f.start; end = f.end }) c.faults

abbrev pub free_of : Scope → Free → Checked MadeFree
free_of s f = free_by f (freed f.start (judged s f.expr.expr false))

abbrev pub walked_free : Free → Walk → Walk × MadeFree
walked_free f w = noting w (free_of w.scope f)

abbrev pub gap_by : ℕ → Walk × List MadeFree → Walk × MadeGap
gap_by n r = (r.0, record { number = n; frees = r.1 })

-- gaps are numbered by their places in the text, at one place the inner one first
abbrev pub next_gap : Walk → Walk × ℕ
next_gap w = (record w { gaps = w.gaps + 1 }, w.gaps)

abbrev pub walked_gap : Gap → Walk → Walk × MadeGap
walked_gap g w = let n = next_gap w in gap_by n.1 (each walked_free g.frees n.0)

-- conditions

abbrev pub test_of : Judged Value → Checked Made
test_of v = checked (or_null v) (faults_of v)

abbrev pub walked_test : Expr → Walk → Walk × Made
walked_test e w = noting w (test_of (judged w.scope e true))

-- nesting

abbrev pub within : Nesting → Nesting
within p = record p { depth = p.depth + 1 }

abbrev pub in_loop : Nesting → Nesting
in_loop p = record p { depth = p.depth + 1; in_loop = true }

-- a part with a scope of its own
abbrev pub scoped : {A : Type 0} → (Walk → Walk × A) → Walk → Walk × A
scoped f w = let r = f w in (closed (length w.scope.names) r.0, r.1)

-- blocks

abbrev pub ItemWalk : Type 0
ItemWalk = ℕ → Nesting → Walk → Walk × MadeItem

abbrev pub ArmWalk : Type 0
ArmWalk = Nesting → Walk → Walk × MadeArm

abbrev pub BlockWalk : Type 0
BlockWalk = Nesting → Walk → Walk × MadeBlock

abbrev pub PieceWalk : Type 0
PieceWalk = Nesting → Walk → Walk × MadePiece

abbrev pub walked_start : Nesting → Start → Walk → Walk × MadeStart
walked_start p (start.Declare d) w = let r = walked_declr p d w in (r.0, start_made.Declare r.1)
walked_start p (start.Assign s) w = let r = walked_simple s w in (r.0, start_made.Assign r.1)

-- the parts of a `for` before its body, in the order of the text
abbrev pub head_behind : ForHead → Walk × List MadeStart → Walk × MadeHead
head_behind h r =
    let t = optional walked_test h.test r.0 in
    let s = optional walked_simple h.step t.0 in
    (s.0, record { start = r.1; test = t.1; step = s.1 })

abbrev pub walked_head : Nesting → ForHead → Walk → Walk × MadeHead
walked_head p h w = head_behind h (each (walked_start p) h.start w)

-- the body of a loop
abbrev pub looped : Nesting → BlockWalk → Walk → Walk × MadeBlock
looped p body w = scoped (body (in_loop p)) w

-- a variable of a `for` is visible in that `for`
abbrev pub for_behind : Nesting → BlockWalk → Walk × MadeHead → Walk × MadeItem
for_behind p body r = let b = looped p body r.0 in (b.0, item.For r.1 b.1)

abbrev pub walked_for : Nesting → ForHead → BlockWalk → Walk → Walk × MadeItem
walked_for p h body w = for_behind (within p) body (walked_head (within p) h w)

abbrev pub walked_while : Nesting → Expr → BlockWalk → Walk → Walk × MadeItem
walked_while p test body w =
    let t = walked_test test w in
    let b = looped p body t.0 in
    (b.0, item.While t.1 b.1)

abbrev pub inner : Nesting → BlockWalk → Walk → Walk × MadeBlock
inner p body w = scoped (body (within p)) w

-- a part where it is nested
abbrev pub at_nesting : {A : Type 0} → Nesting → (Nesting → Walk → Walk × A) → Walk → Walk × A
at_nesting p part = part p

abbrev pub walked_if : Nesting → List ArmWalk → Option BlockWalk → Walk → Walk × MadeItem
walked_if p arms last w =
    let a = each (at_nesting p) arms w in
    let b = optional (inner p) last a.0 in
    (b.0, item.If a.1 b.1)

-- Jump: `break` or `continue` outside a loop
abbrev pub jump : ℕ → Nesting → MadeItem → Walk → Walk × MadeItem
jump at p i w = (noted (unless p.in_loop rule.Jump at) w, i)

abbrev pub declares : Walk × List MadeDeclr → Walk × MadeItem
declares r = (r.0, item.Declare r.1)

abbrev pub assigns : Walk × MadeSimple → Walk × MadeItem
assigns r = (r.0, item.Assign r.1)

abbrev pub nests : Walk × MadeBlock → Walk × MadeItem
nests r = (r.0, item.Nest r.1)

abbrev pub item_walk : Item-F ItemWalk ArmWalk BlockWalk PieceWalk → ItemWalk
item_walk (Declare ds) at p w = declares (each (walked_declr p) ds w)
item_walk (Assign s) at p w = assigns (walked_simple s w)
item_walk (Do c) at p w = walked_do c w
item_walk (Nest b) at p w = nests (inner p b w)
item_walk (If arms last) at p w = walked_if p arms last w
item_walk (While test body) at p w = walked_while p test body w
item_walk (For head body) at p w = scoped (walked_for p head body) w
item_walk Break at p w = jump at p item.Break w
item_walk Continue at p w = jump at p item.Continue w
item_walk (Return r word) at p w = walked_return p.returns word r w

abbrev pub arm_walk : Arm-F ItemWalk ArmWalk BlockWalk PieceWalk → ArmWalk
arm_walk a p w =
    let t = walked_test a.test w in
    let b = inner p a.body t.0 in
    (b.0, roll-Arm (record { test = t.1; body = b.1 }))

-- a block whose scope is open: its pieces, and the last gap behind them
abbrev pub block_walk : Block-F ItemWalk ArmWalk BlockWalk PieceWalk → BlockWalk
block_walk b p w =
    let ps = each (at_nesting p) b.items w in
    let g = walked_gap b.last_gap ps.0 in
    (g.0, roll-Block (record { items = ps.1; last_gap = g.1; braced = b.braced; start = b.start; end = b.end }))

-- an item behind its gap
abbrev pub piece_walk : Piece-F ItemWalk ArmWalk BlockWalk PieceWalk → PieceWalk
piece_walk q p w =
    let g = walked_gap q.gap w in
    let i = q.item q.start p g.0 in
    (i.0, roll-Piece (record { gap = g.1; item = i.1; start = q.start; end = q.end }))

abbrev pub walked_block : Block → BlockWalk
walked_block = fold-Block ItemWalk ArmWalk BlockWalk PieceWalk item_walk arm_walk block_walk piece_walk

abbrev pub walked_piece : Piece → PieceWalk
walked_piece = fold-Piece ItemWalk ArmWalk BlockWalk PieceWalk item_walk arm_walk block_walk piece_walk

abbrev pub walked_item : Item → ItemWalk
walked_item = fold-Item ItemWalk ArmWalk BlockWalk PieceWalk item_walk arm_walk block_walk piece_walk

abbrev pub walked_arm : Arm → ArmWalk
walked_arm = fold-Arm ItemWalk ArmWalk BlockWalk PieceWalk item_walk arm_walk block_walk piece_walk
