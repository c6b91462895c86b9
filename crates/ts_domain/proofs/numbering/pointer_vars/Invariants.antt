use Rattle.std.proofs.Common.{◌≡◌, slice_get}
use Rattle.std.specs.List.{filter, range_with_len}
use Rattle.c_tree.specs.Typing.{has}
use Rattle.c_tree.specs.declared.program.VarDef.{VarDef}
use Rattle.ts_domain.specs.Pointers.{is_pointer}
use Rattle.ts_domain.proofs.numbering.pointer_vars.Given as goal

abbrev pub invariant-loop-place : goal.invariant-loop-place
invariant-loop-place l = l.list ≡ filter (λ i. has (λ (v : VarDef). is_pointer v.ty) (slice_get l.decls i)) (range_with_len 0 l.place)
