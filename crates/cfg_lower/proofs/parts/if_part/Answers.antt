use Rattle.std.proofs.Common.{◌-◌, ◌*◌, ◌/◌, length, sym, ◌∙◌, arith}
use Rattle.c_meaning.specs.Parts.{else_parts}
use Rattle.cfg_lower.proofs.Arms.{arm_condition, arm_block, behind_arms}
use Rattle.cfg_lower.proofs.parts.if_part.Goals as goal

pub returns-then-place-arms-clause-part : goal.returns-then-place-arms-clause-part
returns-then-place-arms-clause-part c =
    c.else_part.ensures.part
    ∙ sym (behind_arms c.args.arms.now (else_parts c.args.otherwise.now) (c.args.k - 2 * length c.args.arms.now) c.args.k (omega arith))

pub returns-then-k-eq0-clause-part : goal.returns-then-k-eq0-clause-part
returns-then-k-eq0-clause-part c =
    sym (arm_condition c.args.arms.now (else_parts c.args.otherwise.now) (c.args.k / 2) c.args.k c.index-arms-place.result c.if-place-arms.false (omega arith))

pub returns-else-k-eq0-clause-part : goal.returns-else-k-eq0-clause-part
returns-else-k-eq0-clause-part c =
    sym (arm_block c.args.arms.now (else_parts c.args.otherwise.now) (c.args.k / 2) c.args.k c.index-arms-place-else-k-eq0.result c.if-place-arms.false (omega arith))
