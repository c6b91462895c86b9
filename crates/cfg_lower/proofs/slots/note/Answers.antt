use Rattle.std.proofs.Common.{◌≡◌, ◌+◌, ◌<◌, ◌≤◌, List, length, slice_set, Some, Option, ℕ, ap, ◌∙◌, arith, rules}
use Rattle.cfg_lower.proofs.SlotLaws.{slot_noted, slot_past, slots_count}
use Rattle.cfg_lower.proofs.slots.note.Goals as goal

pub returns-then-fun-len : goal.returns-then-fun-len
returns-then-fun-len c = λ n later is.
    let set : c.set.new.self ≡ slice_set c.args.slots.now c.in-Result.fun (Some c.args.var) = search rules in
    let count : length c.args.slots.now ≡ n = ap (λ (xs : List (Option ℕ)). length xs) is ∙ slots_count n (c.args.var + 1) later in
    let low : c.in-Result.fun < length c.args.slots.now = search rules in
    set ∙ ap (λ (xs : List (Option ℕ)). slice_set xs c.in-Result.fun (Some c.args.var)) is
    ∙ slot_noted n c.in-Result.fun c.args.var c.args.def.now later c.in-Result.is (omega arith)

pub returns-else-fun-len : goal.returns-else-fun-len
returns-else-fun-len c = λ n later is.
    let count : length c.args.slots.now ≡ n = ap (λ (xs : List (Option ℕ)). length xs) is ∙ slots_count n (c.args.var + 1) later in
    let past : length c.args.slots.now ≤ c.in-Result.fun = search rules in
    is ∙ slot_past n c.in-Result.fun c.args.var c.args.def.now later c.in-Result.is (omega arith)
