-- One more fault.
use Rattle.std.proofs.Common.{get_or, take}
use Rattle.std.proofs.lemmas.List.{take_more}
use Rattle.c_types.specs.declared.faults.Fault.{Fault}
use Rattle.c_types.specs.declared.faults.Rule.TheVariants.{Unknown}
use Rattle.c_types.proofs.FaultLemmas.{IsLeast-more}
use Rattle.c_types.proofs.faults.least.Goals as goal

pub loop-fault-preserved : goal.loop-fault-preserved
loop-fault-preserved c =
    let any : Fault = record { at = 0; rule = Unknown } in
    let faults = c.args.faults.now in
    let index = c.loop-fault.fault-index in
    rw (take_more faults index any c.loop-fault-test.true, c.earlier.ensures)
    (IsLeast-more (take index faults) c.loop-fault.found (get_or faults index any) c.loop-fault.invariant)
