use Rattle.std.proofs.Common.{sym, subst}
use Rattle.sat_log.specs.Propagation.{base_of}
use Rattle.sat_log.specs.Refutation.{Falls}
use Rattle.sat_log.specs.Clauses.{opposite}
use Rattle.sat_log.proofs.ClashLaws.{opposite-opposite}
use Rattle.sat_log.proofs.FactLaws.{true_aim_clashes}
use Rattle.sat_log.proofs.infer.assume.Goals as goal

pub returns-then-is_true-clause-clash : goal.returns-then-is_true-clause-clash
returns-then-is_true-clause-clash c = λ _. true_aim_clashes c.args.claim.now c.args.facts.now c.args.lit c.requires.sound c.requires.aim (c.is_true.ensures.0 c.if-is_true.true)

pub conclude-requires-clause-follows : goal.conclude-requires-clause-follows
conclude-requires-clause-follows c =
    let claim = c.args.claim.now in
    subst (λ m. Falls (base_of claim) claim.aim.now (opposite m)) (sym c.opposite.ensures) (subst (Falls (base_of claim) claim.aim.now) (sym (opposite-opposite c.args.lit)) (Falls.assumed c.args.lit c.requires.aim))
