-- The text of a fault says nothing of whether a free raised it.
use Rattle.std.proofs.Common.{◌≡◌}
use Rattle.memfix_engine.proofs.notes.ending_text.Goals as goal

pub returns-in-Fault : goal.returns-in-Fault
returns-in-Fault c = rw c.in-Fault.is (c.fault_text.ensures c.in-Fault.field-2)
