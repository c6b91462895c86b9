use Rattle.std.proofs.Common.{◌≡◌, slice_get}
use Rattle.std.specs.List.{filter, range_with_len}
use Rattle.c_tree.specs.Typing.{has}
use Rattle.c_tree.specs.declared.program.FieldDef.{FieldDef}
use Rattle.ts_domain.specs.Pointers.{is_pointer}
use Rattle.ts_domain.proofs.numbering.pointer_fields.Given as goal

abbrev pub invariant-loop-place : goal.invariant-loop-place
invariant-loop-place l = l.list ≡ filter (λ i. has (λ (f : FieldDef). is_pointer f.ty) (slice_get l.fields i)) (range_with_len 0 l.place)
