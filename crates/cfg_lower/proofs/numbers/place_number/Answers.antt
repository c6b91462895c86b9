use Rattle.std.proofs.Common.{subst, sym, ap, ◌∙◌, List, ℕ, arith}
use Rattle.cfg_lower.specs.Ranks.{Ascends, rank}
use Rattle.cfg_lower.proofs.SourceLaws.{missing_context, missing_row, row_ascends, has_first, within, ranked, not_ranked}
use Rattle.cfg_lower.proofs.numbers.place_number.Goals as goal

pub returns-in_default : goal.returns-in_default
returns-in_default c = missing_context c.args.source c.requires c.args.ctx c.args.path.now (sym c.in_default.ensures.value)

pub returns-in_default-get : goal.returns-in_default-get
returns-in_default-get c =
    missing_row c.args.source c.requires c.args.ctx c.args.path.now c.in-Some.context.now (sym c.in-Some.ensures.value) (sym c.in_default-get.ensures.value)

pub rank-requires : goal.rank-requires
rank-requires c =
    subst (λ (ps : List (List ℕ)). Ascends ps) (sym c.as_slice.ensures) (row_ascends c.args.source c.requires c.in-Some.context.now.fun c.in-Some-get.row.now (sym c.in-Some-get.ensures.value))

pub at-requires : goal.at-requires
at-requires c = has_first c.args.source c.requires c.args.ctx c.in-Some.context.now (sym c.in-Some.ensures.value)

pub overflow_add-result : goal.overflow_add-result
overflow_add-result c =
    let few = within c.args.source c.requires c.args.ctx c.at.result.now c.in-Some-rank.rank c.args.path.now c.in-Some.context.now c.in-Some-get.row.now (sym c.in-Some.ensures.value) (sym c.in-Some-get.ensures.value) c.at.ensures
    (ap (rank c.args.path.now) (sym c.as_slice.ensures) ∙ sym c.in-Some-rank.ensures) in
    omega arith

pub returns-in-None : goal.returns-in-None
returns-in-None c =
    not_ranked c.args.source c.requires c.args.ctx c.args.path.now c.in-Some.context.now c.in-Some-get.row.now (sym c.in-Some.ensures.value) (sym c.in-Some-get.ensures.value)
    (ap (rank c.args.path.now) (sym c.as_slice.ensures) ∙ sym c.in-None.ensures)

pub returns-in-Some-rank : goal.returns-in-Some-rank
returns-in-Some-rank c =
    ranked c.args.source c.requires c.args.ctx c.at.result.now c.in-Some-rank.rank c.args.path.now c.in-Some.context.now c.in-Some-get.row.now (sym c.in-Some.ensures.value) (sym c.in-Some-get.ensures.value) c.at.ensures
    (ap (rank c.args.path.now) (sym c.as_slice.ensures) ∙ sym c.in-Some-rank.ensures)
