use Rattle.std.proofs.Common.{rules, ◌≡◌, length, map, ap, ◌∙◌}
use Rattle.ts_domain.specs.Chosen.{is_chosen}
use Rattle.ts_domain.specs.Marks.{passing}
use Rattle.cover_certificate.specs.declared.lines.Line.{Line}
use Rattle.cover_certificate.proofs.MadeLaws.{lines_done}
use Rattle.cover_certificate.proofs.making.marks_of.Goals as goal

pub returns : goal.returns
returns c =
    let n = c.args.names.now in
    let s = c.args.choice.now in
    let set : c.in_ok-chosen.chosen ≡ passing (length n.puts) (length n.puts) (is_chosen n s) = search rules in
    let slice : c.as_slice.result.now ≡ c.without_repeats-lines.result = search rules in
    let marks : c.in_ok-marks.marks ≡ map (λ (x : Line). x.mark) c.as_slice.result.now = search rules in
    lines_done n s c.args.triples.now c.in_ok-chosen.chosen c.in_ok-all.all c.in_ok-ordered.ordered c.in_ok-marks.marks set c.in_ok-all.ensures c.in_ok-ordered.ensures.permutation c.in_ok-ordered.ensures.sorted
    (marks ∙ ap (map (λ (x : Line). x.mark)) (slice ∙ c.without_repeats-lines.ensures))
