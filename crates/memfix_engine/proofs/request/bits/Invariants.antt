use Rattle.std.proofs.Common.{◌≡◌, ◌==◌, take, map}
use Rattle.memfix_engine.proofs.request.bits.Given as goal

abbrev pub invariant-loop-c : goal.invariant-loop-c
invariant-loop-c l = l.list ≡ map (λ c. c == 49) (take l.c-index l.word)
