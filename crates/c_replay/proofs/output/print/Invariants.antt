use Rattle.std.proofs.Common.{◌≡◌, ◌≤◌, drop, length}
use Rattle.c_meaning.specs.Effects.{printed}
use Rattle.c_replay.specs.Lists.{behind}
use Rattle.c_replay.specs.Changes.{goes_on}
use Rattle.c_replay.proofs.output.print.Given as goal

abbrev pub invariant-loop-byte : goal.invariant-loop-byte
invariant-loop-byte l = record {
  rest : behind l.bytes (goes_on l.percent (drop l.byte-index l.text) (drop l.used l.numbers)) ≡ printed l.text l.numbers;
  few : l.used ≤ length l.numbers;
}
