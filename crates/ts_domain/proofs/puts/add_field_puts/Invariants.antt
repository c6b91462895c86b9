use Rattle.std.proofs.Common.{◌≡◌, ◌++◌, drop}
use Rattle.ts_domain.specs.Puts.{field_puts}
use Rattle.ts_domain.proofs.puts.add_field_puts.Given as goal

abbrev pub invariant-loop-field : goal.invariant-loop-field
invariant-loop-field l = l.puts ++ field_puts l.gap l.var (drop l.field-index l.fields) ≡ l.fn.puts ++ field_puts l.gap l.var l.fields
