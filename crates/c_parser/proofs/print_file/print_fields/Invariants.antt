-- What is written, and what the fields that are left are printed as.
use Rattle.std.proofs.Common.{◌≡◌, ◌++◌, drop}
use Rattle.c_parser.specs.Printed.{each, printed_field}
use Rattle.c_parser.proofs.print_file.print_fields.Given as goal

abbrev pub invariant-loop-field : goal.invariant-loop-field
invariant-loop-field l = l.out ++ each printed_field (drop l.field-index l.fields) ≡ l.fn.out ++ each printed_field l.fields
