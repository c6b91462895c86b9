-- The calls of a part are those of its parts in turn.
use Rattle.std.proofs.Common.{◌≡◌, ℕ, zero, suc, ◌+◌, ◌<◌, List, [], ◌∷◌, ◌++◌, length, get_or, slice_get, option_map, take, map, flat_map, Option, Some, None, refl, sym, ap, ◌∙◌, arith, append-nil}
use Rattle.std.proofs.lemmas.List.{take_more, length-take-le}
use Rattle.std.proofs.lemmas.List.Folds.{flat_map-map}
use Rattle.c_tree.specs.declared.program.Arm.{Arm}
use Rattle.c_tree.specs.declared.program.Block.{Block, out-Block, fold_out-Block}
use Rattle.c_tree.specs.declared.program.ForHead.{ForHead}
use Rattle.c_tree.specs.declared.program.FunDef.{FunDef}
use Rattle.c_tree.specs.declared.program.Item.{fold-roll-Item}
use Rattle.c_tree.specs.declared.program.Item.TheVariants as item
use Rattle.c_tree.specs.declared.program.Item.TheOpen.{If, For}
use Rattle.c_tree.specs.declared.control.UserCall.{UserCall}
use Rattle.c_tree.specs.declared.program.Program.{Program}
use Rattle.call_contexts.specs.Calls.{rows_from, calls_by_function}
use Rattle.c_tree.specs.UserCalls.{Here, item_calls, arm_calls, block_calls, piece_calls, head_calls, from_option, calls_in, piece_calls_in, item_calls_in, arm_calls_in}

pub block_opens : (f : ℕ) (b : Block) → calls_in f b ≡ flat_map (piece_calls_in f) (out-Block b).items
block_opens f b = fold_out-Block Here Here Here Here (item_calls f) arm_calls block_calls piece_calls b ∙ flat_map-map (λ c. c) (piece_calls_in f) (out-Block b).items

if_none_opens : (f : ℕ) (arms : List Arm) → item_calls_in f (item.If arms None) ≡ flat_map (arm_calls_in f) arms
if_none_opens f arms =
    ap (item_calls_in f) (sym (item.rolls-If arms None))
    ∙ fold-roll-Item Here Here Here Here (item_calls f) arm_calls block_calls piece_calls (If arms None)
    ∙ append-nil (flat_map (λ c. c) (map (arm_calls_in f) arms))
    ∙ flat_map-map (λ c. c) (arm_calls_in f) arms

if_some_opens : (f : ℕ) (arms : List Arm) (last : Block) → item_calls_in f (item.If arms (Some last)) ≡ flat_map (arm_calls_in f) arms ++ calls_in f last
if_some_opens f arms last =
    ap (item_calls_in f) (sym (item.rolls-If arms (Some last)))
    ∙ fold-roll-Item Here Here Here Here (item_calls f) arm_calls block_calls piece_calls (If arms (Some last))
    ∙ ap (λ cs. cs ++ calls_in f last) (flat_map-map (λ c. c) (arm_calls_in f) arms)

pub if_opens : (f : ℕ) (arms : List Arm) (last : Option Block) → item_calls_in f (item.If arms last) ≡ flat_map (arm_calls_in f) arms ++ from_option (calls_in f) last
if_opens f arms None = if_none_opens f arms ∙ sym (append-nil (flat_map (arm_calls_in f) arms))
if_opens f arms (Some last) = if_some_opens f arms last

pub for_opens : (f : ℕ) (head : ForHead) (body : Block) → item_calls_in f (item.For head body) ≡ head_calls f head ++ calls_in f body
for_opens f head body =
    ap (item_calls_in f) (sym (item.rolls-For head body))
    ∙ fold-roll-Item Here Here Here Here (item_calls f) arm_calls block_calls piece_calls (For head body)

rows_more : (f : ℕ) (ds : List FunDef) (d : FunDef) → rows_from f (ds ++ d ∷ []) ≡ rows_from f ds ++ calls_in (f + length ds) d.body ∷ []
rows_more f [] d = let e : f ≡ f + 0 = omega arith in ap (λ n. calls_in n d.body ∷ []) e
rows_more f (c ∷ ds) d =
    let e : f + 1 + length ds ≡ f + length (c ∷ ds) = omega arith in
    ap (λ (xs : List (List UserCall)). calls_in f c.body ∷ xs) (rows_more (f + 1) ds d ∙ ap (λ n. rows_from (f + 1) ds ++ calls_in n d.body ∷ []) e)

-- the calls of the functions so far, and those of the next
pub rows_so_far : (ds : List FunDef) (n : ℕ) (d : FunDef) → n < length ds → rows_from 0 (take (n + 1) ds) ≡ rows_from 0 (take n ds) ++ calls_in n (get_or ds n d).body ∷ []
rows_so_far ds n d below =
    let e : 0 + length (take n ds) ≡ n = omega (arith, length-take-le n ds (omega arith)) in
    ap (rows_from 0) (take_more ds n d below) ∙ rows_more 0 (take n ds) (get_or ds n d) ∙ ap (λ k. rows_from 0 (take n ds) ++ calls_in k (get_or ds n d).body ∷ []) e

row_from : (f i : ℕ) (ds : List FunDef) → slice_get (rows_from f ds) i ≡ option_map (λ d. calls_in (f + i) d.body) (slice_get ds i)
row_from f i [] = refl
row_from f zero (d ∷ ds) = let e : f ≡ f + 0 = omega arith in ap (λ n. Some (calls_in n d.body)) e
row_from f (suc i) (d ∷ ds) = let e : f + 1 + i ≡ f + suc i = omega arith in row_from (f + 1) i ds ∙ ap (λ n. option_map (λ (d : FunDef). calls_in n d.body) (slice_get ds i)) e

-- the calls of function f are those of its body
pub row_of : (p : Program) (f : ℕ) → slice_get (calls_by_function p) f ≡ option_map (λ d. calls_in f d.body) (slice_get p.funs f)
row_of p f = let e : 0 + f ≡ f = omega arith in row_from 0 f p.funs ∙ ap (λ n. option_map (λ (d : FunDef). calls_in n d.body) (slice_get p.funs f)) e
