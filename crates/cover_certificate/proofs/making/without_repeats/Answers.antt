use Rattle.std.proofs.Common.{rules}
use Rattle.std.proofs.lemmas.Fn.{dedup_same}
use Rattle.cover_certificate.specs.Lines.{is_same}
use Rattle.cover_certificate.proofs.making.without_repeats.Goals as goal

pub returns : goal.returns
returns c =
    let kept = dedup_same _ is_same _ (λ x y b f' x' y' k. search rules) _ _ c.dedup_by.ensures.filtered in
    search (rules, kept)
