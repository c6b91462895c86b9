use Rattle.std.proofs.Common.{rules, map, Some}
use Rattle.ts_domain.specs.Rows.{AreRows}
use Rattle.ts_domain.specs.Tables.{decl_parameter, entered, owner_of}
use Rattle.ts_domain.proofs.TableLaws.{tabled}
use Rattle.ts_domain.proofs.tables.tables_of.Goals as goal

pub returns : goal.returns
returns c =
    let n = c.args.names.now in
    let g = c.args.graph.now in
    let parameters : AreRows (map decl_parameter n.decls) c.in_ok-rows_of.field-0 = search rules in
    let owned : AreRows (map (owner_of n) n.vars) c.in_ok-rows_of-2.field-0 = search rules in
    let sites : AreRows (map Some n.sites) c.in_ok-rows_of-3.field-0 = search rules in
    let entering : AreRows (map (entered g) g.edges) c.in_ok-rows_of-4.field-0 = search rules in
    tabled n g (record { parameters = c.in_ok-rows_of.field-0; owned = c.in_ok-rows_of-2.field-0; sites = c.in_ok-rows_of-3.field-0; entering = c.in_ok-rows_of-4.field-0 }) parameters owned sites entering
