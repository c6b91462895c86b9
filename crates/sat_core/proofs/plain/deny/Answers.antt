use Rattle.std.proofs.Common.{List, [], ◌∷◌, ◌++◌, ap, ◌∙◌}
use Rattle.sat_log.specs.declared.problem.Lit.{Lit}
use Rattle.sat_core.specs.Bits.{against}
use Rattle.sat_core.proofs.LogParts.{part_more, part_same}
use Rattle.sat_core.proofs.PlainLaws.{against-below}
use Rattle.sat_core.proofs.plain.deny.Goals as goal

pub returns-in_err-push-clause-part : goal.returns-in_err-push-clause-part
returns-in_err-push-clause-part c = part_same c.args.clauses.now c.args.log.now (record { list = c.push.new.self }) c.in_err-push.ensures.err c.requires.part

pub returns-clause-part : goal.returns-clause-part
returns-clause-part c =
    let old = c.args.log.now in
    part_more c.args.clauses.now old (record { list = c.push.new.self }) (against c.args.bits.now)
    (c.in_ok-push.ensures.ok ∙ ap (λ (d : List Lit). old.list ++ d ∷ []) c.in_ok-clause.ensures)
    c.requires.part (against-below c.args.clauses.now.vars c.args.bits.now c.requires.room) c.requires.clash
