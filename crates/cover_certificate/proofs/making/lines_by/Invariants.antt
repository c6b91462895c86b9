use Rattle.std.proofs.Common.{◌≡◌, map, take}
use Rattle.cover_certificate.specs.Lines.{line_by}
use Rattle.cover_certificate.proofs.making.lines_by.Given as goal

abbrev pub invariant-loop-triple : goal.invariant-loop-triple
invariant-loop-triple l = l.lines ≡ map (line_by l.names l.chosen.items) (take l.triple-index l.triples)
