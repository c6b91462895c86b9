-- What refuses a source or its program refuses the repair, and excludes it.
use Rattle.std.proofs.Common.{◌≤◌, length, rules, sym, subst}
use Rattle.memfix_engine.specs.Refusal.{source_limit}
use Rattle.memfix_engine.specs.Repair.{RefusesRepair}
use Rattle.memfix_engine.proofs.Repaired.{refused_only, repair_only, source_refused, text_refused}
use Rattle.memfix_engine.proofs.repairs.repair.Goals as goal

pub returns-in-Err-clause-only : goal.returns-in-Err-clause-only
returns-in-Err-clause-only c =
    let fits : length c.args.bytes.now ≤ source_limit = search rules in
    let refused : RefusesRepair c.args.bytes.now c.refusal_of.result = subst (RefusesRepair c.args.bytes.now) (sym c.refusal_of.ensures) (source_refused c.args.bytes.now c.in-Err.refusal fits c.in-Err.ensures.refused) in
    refused_only c.args.bytes.now c.refusal_of.result refused

pub returns-in_err-text-clause-refused : goal.returns-in_err-text-clause-refused
returns-in_err-text-clause-refused c =
    let fits : length c.args.bytes.now ≤ source_limit = search rules in
    text_refused c.args.bytes.now c.in-Ok.program c.from_residual.result c.in_err-text.field-0.0 fits c.in-Ok.ensures.within c.from_residual.ensures.1 c.in_err-text.ensures.refused

pub returns-in_err-text-clause-only : goal.returns-in_err-text-clause-only
returns-in_err-text-clause-only c =
    let fits : length c.args.bytes.now ≤ source_limit = search rules in
    repair_only c.args.bytes.now c.from_residual.result
    (text_refused c.args.bytes.now c.in-Ok.program c.from_residual.result c.in_err-text.field-0.0 fits c.in-Ok.ensures.within c.from_residual.ensures.1 c.in_err-text.ensures.refused)
