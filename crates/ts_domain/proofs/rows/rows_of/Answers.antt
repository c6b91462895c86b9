use Rattle.std.proofs.Common.{rules, ◌++◌, List, ℕ, ap, sym, ◌∙◌}
use Rattle.ts_domain.specs.Rows.{AreAdded, place_if}
use Rattle.ts_domain.proofs.RowLaws.{places_more}
use Rattle.ts_domain.proofs.rows.rows_of.Goals as goal

pub loop-place-preserved : goal.loop-place-preserved
loop-place-preserved c =
    let i = c.loop-place.place in
    let key = c.at.result.now in
    let added : AreAdded key i c.loop-place.rows c.add.new.rows = search rules in
    λ k. added k ∙ ap (λ (xs : List ℕ). xs ++ place_if k key i) (c.loop-place.invariant k) ∙ sym (places_more c.args.keys.now k i key c.at.ensures)
