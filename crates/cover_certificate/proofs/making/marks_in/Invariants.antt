use Rattle.std.proofs.Common.{◌≡◌, map, take}
use Rattle.cover_certificate.specs.declared.lines.Line.{Line}
use Rattle.cover_certificate.proofs.making.marks_in.Given as goal

abbrev pub invariant-loop-line : goal.invariant-loop-line
invariant-loop-line l = l.marks ≡ map (λ (x : Line). x.mark) (take l.line-index l.lines)
