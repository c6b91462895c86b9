use Rattle.std.proofs.Common.{subst, sym, ap, ◌∙◌, List, ℕ, arith}
use Rattle.cfg_lower.specs.Ranks.{Ascends, rank}
use Rattle.cfg_lower.proofs.SourceLaws.{exits_ascend, exit_within, exit_ranked, exit_missing}
use Rattle.cfg_lower.proofs.numbers.exit_number.Goals as goal

pub rank-requires : goal.rank-requires
rank-requires c = subst (λ (ps : List (List ℕ)). Ascends ps) (sym c.as_slice.ensures) (exits_ascend c.args.source c.requires)

pub overflow_add-result : goal.overflow_add-result
overflow_add-result c =
    let few = exit_within c.args.source c.requires c.in-Some.rank c.args.path.now (ap (rank c.args.path.now) (sym c.as_slice.ensures) ∙ sym c.in-Some.ensures) in
    omega arith

pub returns-in-None : goal.returns-in-None
returns-in-None c = exit_missing c.args.source c.requires c.args.path.now (ap (rank c.args.path.now) (sym c.as_slice.ensures) ∙ sym c.in-None.ensures)

pub returns-in-Some : goal.returns-in-Some
returns-in-Some c = exit_ranked c.args.source c.requires c.in-Some.rank c.args.path.now (ap (rank c.args.path.now) (sym c.as_slice.ensures) ∙ sym c.in-Some.ensures)
