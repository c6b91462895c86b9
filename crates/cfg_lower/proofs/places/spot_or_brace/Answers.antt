use Rattle.std.proofs.Common.{Option, ℕ, ◌∙◌, ap, sym}
use Rattle.c_meaning.specs.Place.{spot_of}
use Rattle.cfg_lower.proofs.Paths.{inside}
use Rattle.cfg_lower.proofs.places.spot_or_brace.Goals as goal

pub returns-in-len2-up : goal.returns-in-len2-up
returns-in-len2-up c =
    c.spot_of-in-len2-up.ensures
    ∙ ap (λ (s : Option ℕ). spot_of s c.args.path.now c.args.def.now.body) c.requires
    ∙ sym (inside c.args.program.now c.args.fun c.args.def.now c.args.path.now c.in-len2-up.len_at_least)
