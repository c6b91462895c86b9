use Rattle.std.proofs.Common.{◌≡◌, map, take}
use Rattle.ts_domain.specs.Chosen.{has_put}
use Rattle.memfix_engine.proofs.choosing.marks.Given as goal

abbrev pub invariant-loop-put : goal.invariant-loop-put
invariant-loop-put l = l.bits.items ≡ map (has_put l.others) (take l.put-index l.puts)
