use Rattle.std.proofs.Common.{arith, get_or, false, ◌<◌}
use Rattle.std.proofs.lemmas.List.Elements.{Contains-get_or}
use Rattle.sat_log.specs.declared.problem.Lit.{Lit}
use Rattle.sat_log.proofs.problem.is_below.Goals as goal

first : Lit
first = record { var = 0; yes = false }

pub returns-then-lit-vars : goal.returns-then-lit-vars
unfolding first
returns-then-lit-vars c = (
  λ h. absurd (cc),
  λ all.
      let lit = get_or c.args.clause.now c.loop-lit.lit-index first in
      let below : lit.var < c.args.vars = all lit (Contains-get_or c.args.clause.now c.loop-lit.lit-index first c.loop-lit-test.true) in
      absurd (omega arith),
)
