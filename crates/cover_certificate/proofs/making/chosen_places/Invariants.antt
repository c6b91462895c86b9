use Rattle.std.proofs.Common.{◌≡◌, length}
use Rattle.ts_domain.specs.Chosen.{is_chosen}
use Rattle.ts_domain.specs.Marks.{passing}
use Rattle.cover_certificate.proofs.making.chosen_places.Given as goal

abbrev pub invariant-loop-place : goal.invariant-loop-place
invariant-loop-place l = l.set ≡ passing l.place (length l.names.puts) (is_chosen l.names l.choice)
