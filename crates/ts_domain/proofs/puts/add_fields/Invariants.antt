use Rattle.std.proofs.Common.{◌≡◌, ◌++◌, drop, flat_map}
use Rattle.ts_domain.specs.Puts.{field_puts, known_in}
use Rattle.ts_domain.specs.Rows.{row}
use Rattle.ts_domain.proofs.puts.add_fields.Given as goal

abbrev pub invariant-loop-var : goal.invariant-loop-var
invariant-loop-var l =
    l.puts ++ flat_map (λ x. field_puts l.gap x (known_in l.program.structs l.program.vars (row l.fields) l.at x)) (drop l.var-index l.vars)
    ≡ l.fn.puts ++ flat_map (λ x. field_puts l.gap x (known_in l.program.structs l.program.vars (row l.fields) l.at x)) l.vars
