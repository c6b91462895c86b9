use Rattle.std.proofs.Common.{◌++◌, true, ap, sym, ◌∙◌}
use Rattle.cover_clauses.specs.Listing.{literal_by, one_by}
use Rattle.cover_clauses.proofs.LoopLaws.{turns_end, turns_start}
use Rattle.cover_clauses.proofs.listing.one_of.Goals as goal

pub loop-place-init : goal.loop-place-init
loop-place-init c =
    turns_start (literal_by c.args.variables.now true) c.args.set.now.items c.new-clause.result
    ∙ ap (λ ls. ls ++ one_by c.args.variables.now c.args.set.now.items) c.new-clause.ensures

pub returns : goal.returns
returns c =
    turns_end (literal_by c.args.variables.now true) c.args.set.now.items c.loop-place.from c.loop-place.clause (one_by c.args.variables.now c.args.set.now.items) (sym c.in_default.ensures.value) c.loop-place.invariant
