-- So far each free has a put.
use Rattle.std.proofs.Common.{◌≡◌, take, map, Some}
use Rattle.memfix_engine.proofs.own_frees.all_puts.Given as goal

abbrev pub invariant-loop-one : goal.invariant-loop-one
invariant-loop-one l = take l.one-index l.found ≡ map Some l.puts
