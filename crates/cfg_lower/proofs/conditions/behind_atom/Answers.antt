use Rattle.std.proofs.Common.{Bool, Option, ◌∙◌, ap, sym}
use Rattle.c_meaning.specs.Place.{behind_atom}
use Rattle.cfg_lower.specs.Meant.{expr_of}
use Rattle.cfg_lower.proofs.LoneTests.{lone, no_way}
use Rattle.cfg_lower.proofs.conditions.behind_atom.Goals as goal

pub returns-in-len1-up : goal.returns-in-len1-up
returns-in-len1-up c =
    let e = expr_of c.args.condition in
    sym (ap (λ (said : Option Bool). behind_atom c.args.path.now said e) c.in-Some.is
    ∙ no_way c.args.path.now c.in-Some.said e (lone c.args.condition c.in-Variable.is) c.in-len1-up.len_at_least)
