use Rattle.std.proofs.Common.{◌∙◌, sym}
use Rattle.c_replay.proofs.Paths.{inside}
use Rattle.c_replay.proofs.places.spot_or_brace.Goals as goal

pub returns-in-len2-up : goal.returns-in-len2-up
returns-in-len2-up c =
    c.spot_of-in-len2-up.ensures
    ∙ sym (inside c.args.program.now c.args.fun c.args.def.now c.args.path.now c.in-len2-up.len_at_least)
