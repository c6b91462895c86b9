use Rattle.std.proofs.Common.{Bool, cond, [], sym, subst}
use Rattle.typestate_fixpoint.specs.Gaps.{HasMore}
use Rattle.typestate_fixpoint.proofs.EdgeLaws.{more_of}
use Rattle.typestate_fixpoint.proofs.edges.forbid_if.Goals as goal

pub returns-then-touched : goal.returns-then-touched
returns-then-touched c =
    subst (λ (b : Bool). HasMore (cond b c.args.puts.now.items []) c.args.forbidden.now c.union_with.new.self) (sym c.if-touched.true)
    (more_of c.args.forbidden.now c.args.puts.now c.union_with.new.self c.union_with.ensures.numbers)
