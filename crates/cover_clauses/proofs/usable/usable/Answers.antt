use Rattle.std.proofs.Common.{rules, ◌&&◌, not, length, nat_lt}
use Rattle.std.proofs.lemmas.Bool.{and_parts}
use Rattle.mf_set.specs.Numbers.{has}
use Rattle.cover_problem.specs.Covering.{is_held, is_usable}
use Rattle.cover_clauses.specs.Parts.{IsFound}
use Rattle.cover_clauses.proofs.FoundLaws.{found_all}
use Rattle.cover_clauses.proofs.usable.usable.Goals as goal

pub returns : goal.returns
returns c =
    let q = c.args.problem.now in
    let size = length q.names.puts in
    let by : IsFound size (λ k. nat_lt k size && is_usable q k) c.in_ok-set.set = search rules in
    found_all size size (is_usable q) c.in_ok-set.set
    (λ k e. c.requires.allowed k (and_parts (has q.allowed.items k) (not (has q.derived.forbidden.items k) && is_held q.derived.triples k) e).0) by
