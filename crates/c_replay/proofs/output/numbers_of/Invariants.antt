use Rattle.std.proofs.Common.{◌≡◌, drop}
use Rattle.c_meaning.specs.Effects.{ints_of}
use Rattle.c_replay.specs.Lists.{behind}
use Rattle.c_replay.proofs.output.numbers_of.Given as goal

abbrev pub invariant-loop-value : goal.invariant-loop-value
invariant-loop-value l = behind l.numbers (ints_of (drop l.value-index l.values)) ≡ ints_of l.values
