use Rattle.std.proofs.Common.{◌≡◌, drop}
use Rattle.c_lexer.specs.Bytes.{stops}
use Rattle.c_lexer.specs.Elements.{first_place}
use Rattle.c_lexer.proofs.Places.{ahead}
use Rattle.c_lexer.proofs.spans.first_place.Given as goal

abbrev pub invariant-loop-at : goal.invariant-loop-at
invariant-loop-at l = ahead l.at (first_place (stops l.stop) (drop l.at l.text)) ≡ first_place (stops l.stop) l.text
