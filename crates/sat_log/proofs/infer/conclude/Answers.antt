use Rattle.sat_log.proofs.FactLaws.{learnt_known, learnt_fewer}
use Rattle.sat_log.proofs.infer.conclude.Goals as goal

pub returns-clause-known : goal.returns-clause-known
returns-clause-known c =
    λ below. (
      learnt_known c.args.facts.now c.learn.new.self c.args.lit below c.in_ok-learn.ensures.bits,
      learnt_fewer c.args.facts.now c.learn.new.self c.args.lit below c.requires.not_true c.requires.not_false c.in_ok-learn.ensures.bits,
    )
