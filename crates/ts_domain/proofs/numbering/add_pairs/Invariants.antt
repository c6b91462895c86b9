use Rattle.std.proofs.Common.{◌≡◌, ◌++◌, drop, map}
use Rattle.ts_domain.proofs.numbering.add_pairs.Given as goal

abbrev pub invariant-loop-field : goal.invariant-loop-field
invariant-loop-field l = l.list ++ map (λ f. (l.place, f)) (drop l.field-index l.fields) ≡ l.fn.list ++ map (λ f. (l.place, f)) l.fields
