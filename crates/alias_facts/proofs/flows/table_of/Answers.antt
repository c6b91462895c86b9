use Rattle.std.proofs.Common.{rules, ◌≡◌, length, get_or, ap, sym, subst, ◌∙◌, arith}
use Rattle.std.specs.List.{All}
use Rattle.alias_facts.specs.declared.table.Table.{Table}
use Rattle.alias_facts.specs.Answer.{empty_table}
use Rattle.alias_facts.specs.Growth.{IsSized}
use Rattle.alias_facts.specs.Writes.{IsBound}
use Rattle.alias_facts.specs.Writing.{DeedFits, Settles}
use Rattle.alias_facts.proofs.AnswerLaws.{empty_sized, ended}
use Rattle.ts_domain.proofs.RangeLaws.{done_in_range}
use Rattle.alias_facts.proofs.flows.table_of.Goals as goal

pub bounds_of-requires : goal.bounds_of-requires
bounds_of-requires c k d within = done_in_range c.args.names.now c.args.graph.now (get_or c.args.writes.now k d) (c.requires k d within)

pub settle-requires-clause-sized : goal.settle-requires-clause-sized
settle-requires-clause-sized c =
    let start : c.in_ok-table.table ≡ empty_table c.in_ok-bounds.bounds = search rules in
    subst IsSized (sym start) (empty_sized c.in_ok-bounds.bounds)

pub settle-requires-clause-sites : goal.settle-requires-clause-sites
settle-requires-clause-sites c =
    let bound : IsBound c.args.names.now c.args.writes.now c.in_ok-bounds.bounds = search rules in
    let start : c.in_ok-table.table ≡ empty_table c.in_ok-bounds.bounds = search rules in
    let same : c.in_ok-table.table.bounds.sites ≡ length c.args.names.now.sites = ap (λ (m : Table). m.bounds.sites) start ∙ bound.sites in
    omega (arith, same)

pub settle-requires-clause-fits : goal.settle-requires-clause-fits
settle-requires-clause-fits c =
    let bound : IsBound c.args.names.now c.args.writes.now c.in_ok-bounds.bounds = search rules in
    let start : c.in_ok-table.table ≡ empty_table c.in_ok-bounds.bounds = search rules in
    subst (λ (m : Table). All (DeedFits m.bounds) c.args.writes.now) (sym start) bound.fit

pub returns : goal.returns
returns c =
    let n = c.args.names.now in
    let g = c.args.graph.now in
    let ds = c.args.writes.now in
    let bound : IsBound n ds c.in_ok-bounds.bounds = search rules in
    let start : c.in_ok-table.table ≡ empty_table c.in_ok-bounds.bounds = search rules in
    let settles : Settles n g ds c.in_ok-table.table c.settle.new.table = search rules in
    ended n g ds c.in_ok-bounds.bounds c.settle.new.table bound (subst (λ (m : Table). Settles n g ds m c.settle.new.table) start settles)
