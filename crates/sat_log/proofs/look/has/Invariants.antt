-- The search for a literal has found none yet.
use Rattle.std.proofs.Common.{◌≢◌}
use Rattle.std.specs.List.{AllWithin}
use Rattle.sat_log.proofs.look.has.Given as goal

-- each literal so far is another
abbrev pub invariant-loop-one : goal.invariant-loop-one
invariant-loop-one l = AllWithin (λ o. o ≢ l.lit) l.clause 0 l.one-index
