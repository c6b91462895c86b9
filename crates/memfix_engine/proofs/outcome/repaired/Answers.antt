-- What refuses a text as a source refuses its repair.
use Rattle.std.proofs.Common.{rules}
use Rattle.memfix_engine.specs.Repair.{RefusesRepair}
use Rattle.memfix_engine.specs.declared.refusal.RepairRefusal.TheVariants.{Source}
use Rattle.memfix_engine.specs.declared.request.Request.TheVariants.{Repair}
use Rattle.memfix_engine.proofs.outcome.repaired.Goals as goal

pub returns-in-Err-Source : goal.returns-in-Err-Source
returns-in-Err-Source c =
    let refused : RefusesRepair c.args.bytes.now (Source c.in-Err-Source.refusal) = search rules in
    c.refused.ensures Repair refused.1
