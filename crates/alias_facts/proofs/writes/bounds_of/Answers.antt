use Rattle.std.proofs.Common.{rules}
use Rattle.std.specs.List.{All}
use Rattle.alias_facts.specs.Writes.{FieldFits}
use Rattle.alias_facts.proofs.WriteLaws.{bound_by}
use Rattle.alias_facts.proofs.writes.bounds_of.Goals as goal

pub returns : goal.returns
returns c =
    let fits : All (FieldFits c.in_ok-fields.fields) c.args.writes.now = search rules in
    bound_by c.args.names.now c.args.writes.now c.len.result c.len-2.result c.in_ok-fields.fields c.len.ensures c.len-2.ensures c.requires fits
