use Rattle.std.proofs.Common.{◌∙◌}
use Rattle.sat_core.specs.Learning.{clauses_of}
use Rattle.sat_core.proofs.ResolutionLaws.{refutable_resolved}
use Rattle.sat_core.proofs.resolution.resolve.Goals as goal

pub returns : goal.returns
returns c =
    refutable_resolved (clauses_of c.args.known) c.args.marks.now.list.items c.mark_others.new.marks.list.items c.in-Some.clause.now c.lit-lit.result
    c.in-Some.ensures c.in_ok-count.ensures.covers
    (λ l i n. c.in_ok-count.ensures.kept.each l (c.remove.ensures l i (λ e. n (e ∙ c.opposite.ensures)))) c.requires
