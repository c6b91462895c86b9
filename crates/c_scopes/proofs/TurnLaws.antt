-- What a part of a program adds to the turns, from what its parts add.
use Rattle.std.proofs.Common.{◌≡◌, ℕ, ◌+◌, ◌-◌, ◌==◌, Bool, true, false, if◌then◌else◌, List, [], ◌∷◌, ◌++◌, length, take, map, flat_map, slice_get, Option, Some, None, option_map, refl, sym, ap, ◌∙◌, arith, append_assoc}
use Rattle.std.proofs.Math.Seq.{take-append_seam}
use Rattle.std.proofs.lemmas.List.{length-append}
use Rattle.c_tree.specs.Numbers.{from_all, from_last}
use Rattle.c_tree.specs.declared.program.Arm.{Arm}
use Rattle.c_tree.specs.declared.program.Block.{Block, out-Block, fold_out-Block}
use Rattle.c_tree.specs.declared.program.Item.{fold-roll-Item}
use Rattle.c_tree.specs.declared.program.Item.TheOpen.{If}
use Rattle.c_tree.specs.declared.program.Item.TheVariants as item
use Rattle.c_scopes.specs.ScopeAt.{GapScope, vars_at}
use Rattle.c_scopes.specs.declared.in_scope.InScope.{InScope}
use Rattle.c_scopes.specs.Turns.{arm_layer, arm_turns, block_layer, block_turns, closed_to, item_layer, is_gap, item_turns, piece_layer, piece_turns, rows_from, scope_of, scoped, turned}
use Rattle.c_scopes.specs.declared.walk.Turn.{Turn}
use Rattle.c_scopes.specs.declared.walk.Turn.TheVariants.{Open, See, Gap, Close}

pub joined : (before middle after xs ys : List Turn) → middle ≡ before ++ xs → after ≡ middle ++ ys → after ≡ before ++ (xs ++ ys)
joined before middle after xs ys p q = q ∙ ap (λ (ts : List Turn). ts ++ ys) p ∙ append_assoc before xs ys

pub scoped_done : (before one two after ts : List Turn) → one ≡ before ++ Open ∷ [] → two ≡ one ++ ts → after ≡ two ++ Close ∷ [] → after ≡ before ++ scoped ts
scoped_done before one two after ts p q r =
    joined before one after (Open ∷ []) (ts ++ Close ∷ []) p (joined one two after ts (Close ∷ []) q r)

-- the innermost scope is taken off

last_there : (rest : List ℕ) (n : ℕ) → slice_get (rest ++ n ∷ []) (length rest) ≡ Some n
last_there [] n = refl
last_there (m ∷ rest) n = last_there rest n

popped : (rest : List ℕ) (n : ℕ) (vars : List ℕ) → scope_of (take n vars) rest ≡ turned Close (scope_of vars (rest ++ n ∷ []))
popped rest n vars =
    let outer = rest ++ n ∷ [] in
    let long : length (rest ++ n ∷ []) ≡ length rest + 1 = length-append rest (n ∷ []) in
    let e : length (rest ++ n ∷ []) - 1 ≡ length rest = omega arith in
    let there : slice_get (rest ++ n ∷ []) (length (rest ++ n ∷ []) - 1) ≡ Some n = ap (slice_get (rest ++ n ∷ [])) e ∙ last_there rest n in
    let left : take (length (rest ++ n ∷ []) - 1) (rest ++ n ∷ []) ≡ rest = ap (λ (k : ℕ). take k (rest ++ n ∷ [])) e ∙ take-append_seam rest (n ∷ []) in
    sym (ap (λ (o : Option ℕ). closed_to o (scope_of vars (rest ++ n ∷ []))) there ∙ ap (λ (r : List ℕ). scope_of (take n vars) r) left)

pub pops : (outer rest : List ℕ) (n : ℕ) → outer ≡ rest ++ n ∷ [] → (vars : List ℕ) → scope_of (take n vars) rest ≡ turned Close (scope_of vars outer)
pops outer rest n is vars = popped rest n vars ∙ ap (λ (o : List ℕ). turned Close (scope_of vars o)) (sym is)

-- one level opened

pub from_map : {A : Type 0} (f : A → List Turn) (xs : List A) → from_all (map f xs) ≡ flat_map f xs
from_map f [] = refl
from_map f (x ∷ xs) = ap (λ (ts : List Turn). f x ++ ts) (from_map f xs)

block_opens-from : (hidden : List Bool) (b : Block) → block_turns hidden b ≡ scoped (from_all (map (piece_turns hidden) (out-Block b).items) ++ Gap (out-Block b).last_gap.number ∷ [])
block_opens-from hidden b = fold_out-Block (List Turn) (List Turn) (List Turn) (List Turn) (item_layer hidden) arm_layer block_layer piece_layer b

pub block_opens : (hidden : List Bool) (b : Block) → scoped (flat_map (piece_turns hidden) (out-Block b).items ++ Gap (out-Block b).last_gap.number ∷ []) ≡ block_turns hidden b
block_opens hidden b =
    sym (block_opens-from hidden b ∙ ap (λ (ts : List Turn). scoped (ts ++ Gap (out-Block b).last_gap.number ∷ [])) (from_map (piece_turns hidden) (out-Block b).items))

if_layer : (hidden : List Bool) (arms : List Arm) (last : Option Block) → item_turns hidden (item.If arms last) ≡ from_all (map (arm_turns hidden) arms) ++ from_last (option_map (block_turns hidden) last)
if_layer hidden arms None = ap (item_turns hidden) (sym (item.rolls-If arms None)) ∙ fold-roll-Item (List Turn) (List Turn) (List Turn) (List Turn) (item_layer hidden) arm_layer block_layer piece_layer (If arms None)
if_layer hidden arms (Some b) = ap (item_turns hidden) (sym (item.rolls-If arms (Some b))) ∙ fold-roll-Item (List Turn) (List Turn) (List Turn) (List Turn) (item_layer hidden) arm_layer block_layer piece_layer (If arms (Some b))

pub if_opens : (hidden : List Bool) (arms : List Arm) (last : Option Block) → flat_map (arm_turns hidden) arms ++ from_last (option_map (block_turns hidden) last) ≡ item_turns hidden (item.If arms last)
if_opens hidden arms last =
    sym (if_layer hidden arms last ∙ ap (λ (ts : List Turn). ts ++ from_last (option_map (block_turns hidden) last)) (from_map (arm_turns hidden) arms))

-- a gap is found, or isn't the one that is looked for

at_gap : (n gap : ℕ) (s : InScope) (rows : List GapScope) (b : Bool) → (n == gap) ≡ b → vars_at gap (record { gap = n; vars = s.vars } ∷ rows) ≡ (if b then s.vars else vars_at gap rows)
at_gap n gap s rows b e = ap (λ (c : Bool). if c then s.vars else vars_at gap rows) e

pub gap_found : (t : Turn) (gap : ℕ) (s : InScope) (ts : List Turn) → is_gap t gap ≡ true → vars_at gap (rows_from s (t ∷ ts)) ≡ s.vars
gap_found Open gap s ts e = absurd cc
gap_found (See x) gap s ts e = absurd cc
gap_found Close gap s ts e = absurd cc
gap_found (Gap n) gap s ts e = at_gap n gap s (rows_from s ts) true e

pub gap_passed : (t : Turn) (gap : ℕ) (s : InScope) (ts : List Turn) → is_gap t gap ≡ false → vars_at gap (rows_from s (t ∷ ts)) ≡ vars_at gap (rows_from (turned t s) ts)
gap_passed Open gap s ts e = refl
gap_passed (See x) gap s ts e = refl
gap_passed Close gap s ts e = refl
gap_passed (Gap n) gap s ts e = at_gap n gap s (rows_from s ts) false e
