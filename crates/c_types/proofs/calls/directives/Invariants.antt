use Rattle.std.proofs.Common.{◌≡◌, take}
use Rattle.std.specs.List.{fold}
use Rattle.c_types.specs.Calls.{next_directive}
use Rattle.c_types.specs.declared.judged.Directives.TheVariants.{Plain}
use Rattle.c_types.proofs.calls.directives.Given as goal

abbrev pub invariant-loop-byte : goal.invariant-loop-byte
invariant-loop-byte l = l.so_far ≡ fold next_directive (Plain 0) (take l.byte-index l.text)
