use Rattle.std.proofs.Common.{◌≡◌, map}
use Rattle.std.specs.List.{range_with_len}
use Rattle.ts_domain.specs.Numbering.{var_fields}
use Rattle.ts_domain.proofs.puts.field_rows.Given as goal

abbrev pub invariant-loop-variable : goal.invariant-loop-variable
invariant-loop-variable l = l.rows ≡ map (var_fields l.structs l.decls) (range_with_len 0 l.variable)
