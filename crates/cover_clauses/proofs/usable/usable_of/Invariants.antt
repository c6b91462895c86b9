use Rattle.std.proofs.Common.{length, ltb, ◌&&◌}
use Rattle.cover_problem.specs.Covering.{is_usable}
use Rattle.cover_clauses.specs.Parts.{IsFound}
use Rattle.cover_clauses.proofs.usable.usable_of.Given as goal

abbrev pub invariant-loop-place : goal.invariant-loop-place
invariant-loop-place l = IsFound (length l.problem.names.puts) (λ k. ltb k l.place && is_usable l.problem k) l.set
