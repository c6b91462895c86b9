use Rattle.std.proofs.Common.{rules, ◌≡◌, [], ap, sym, ◌∙◌}
use Rattle.ts_domain.specs.Marks.{knowledge}
use Rattle.ts_domain.specs.MarkWrites.{settled}
use Rattle.ts_domain.specs.Post.{entry, last_entry, with_entry}
use Rattle.ts_domain.proofs.EntryLaws.{fold_next, item_at}
use Rattle.ts_domain.proofs.turns.last_entries.Goals as goal

pub loop-before-preserved : goal.loop-before-preserved
loop-before-preserved c =
    let k = knowledge c.args.known in
    let l = c.loop-before in
    let xs = c.args.entries.now in
    let x = c.before-item.result in
    let drawn : c.in_ok-mark.mark ≡ settled k x.mark = search rules in
    let made : c.new_entry.result ≡ entry c.in_ok-mark.mark x.touched [] = search rules in
    let added : c.add.new.entries.keys ≡ with_entry l.last.keys c.new_entry.result = search rules in
    added
    ∙ ap (with_entry l.last.keys) (made ∙ ap (λ m. entry m x.touched []) drawn)
    ∙ ap (λ ys. with_entry ys (last_entry k x)) l.invariant
    ∙ sym (fold_next (λ ys y. with_entry ys (last_entry k y)) [] xs l.before-index x (item_at xs l.before-index x c.loop-before-test.true c.before-item.is))
