use Rattle.std.proofs.Common.{◌++◌, map, sym}
use Rattle.cover_clauses.specs.Listing.{not_both_by}
use Rattle.cover_clauses.proofs.LoopLaws.{turns_end, turns_start}
use Rattle.cover_clauses.proofs.listing.add_row.Goals as goal

pub loop-other-init : goal.loop-other-init
loop-other-init c = turns_start (not_both_by c.args.variables.now c.args.place) c.args.row.now.items c.args.list.now

pub returns : goal.returns
returns c =
    turns_end (not_both_by c.args.variables.now c.args.place) c.args.row.now.items c.loop-other.from c.loop-other.list
    (c.args.list.now ++ map (not_both_by c.args.variables.now c.args.place) c.args.row.now.items) (sym c.in_default.ensures.value) c.loop-other.invariant
