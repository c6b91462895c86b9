use Rattle.std.proofs.Common.{◌∙◌, ap, sym}
use Rattle.c_meaning.specs.Place.{spot_in, spot_of}
use Rattle.cfg_lower.proofs.Paths.{below, spot_opened, spot_within}
use Rattle.cfg_lower.proofs.places.+spot_of.Goals as goal

pub returns-in-Some-Within : goal.returns-in-Some-Within
returns-in-Some-Within t c =
    let slot = c.args.slot in
    let path = c.args.path.now in
    let part = rw c.in-Some-Within.field-0-is at c.in-Some-Within.ensures in
    c.spot_of.ensures
    ∙ sym (spot_within (spot_of slot (below path)) (below path) c.in-Some-Within.inner.now)
    ∙ ap (spot_in (spot_of slot (below path)) (below path)) part
    ∙ sym (spot_opened slot path c.args.block.now c.in-len2-up.len_at_least)
