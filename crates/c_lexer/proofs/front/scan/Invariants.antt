use Rattle.std.proofs.Common.{◌-◌, ◌≤◌, length}
use Rattle.c_lexer.proofs.Scanned.{ReadsOn}
use Rattle.c_lexer.proofs.front.scan.Given as goal

abbrev pub invariant-loop-front : goal.invariant-loop-front
invariant-loop-front l = record { within : l.front.at ≤ length l.bytes; reads : ReadsOn l.bytes l.front }

abbrev pub decreases-loop-front : goal.decreases-loop-front
decreases-loop-front l = length l.bytes - l.front.at
