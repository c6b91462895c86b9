use Rattle.std.proofs.Common.{rules, ◌≡◌, ◌<◌, List, ℕ, Option, length, slice_get, ap, sym, ◌∙◌, arith}
use Rattle.c_meaning.specs.Place.{slot_from}
use Rattle.cfg_lower.proofs.RowLaws.{below_count, slot_is}
use Rattle.cfg_lower.proofs.rows.rows.Goals as goal

pub at-requires : goal.at-requires
at-requires c =
    let p = c.args.program.now in
    let count : length c.in_ok-slots.slots ≡ length p.funs = ap (λ (xs : List (Option ℕ)). length xs) c.in_ok-slots.ensures ∙ below_count (λ f. slot_from f 0 p.vars) (length p.funs) in
    let low : c.loop-fun.fun < length p.funs = search rules in
    omega arith

pub row-requires : goal.row-requires
row-requires c =
    let p = c.args.program.now in
    let low : c.loop-fun.fun < length p.funs = search rules in
    slot_is p c.loop-fun.fun c.at.result.now low (ap (λ (xs : List (Option ℕ)). slice_get xs c.loop-fun.fun) (sym c.in_ok-slots.ensures) ∙ c.at.ensures)
