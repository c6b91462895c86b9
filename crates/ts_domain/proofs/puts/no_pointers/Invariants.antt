use Rattle.std.proofs.Common.{◌≡◌, take}
use Rattle.ts_domain.specs.Puts.{no_pointers}
use Rattle.ts_domain.proofs.puts.no_pointers.Given as goal

abbrev pub invariant-loop-decl : goal.invariant-loop-decl
invariant-loop-decl l = l.marks ≡ no_pointers (take l.decl-index l.decls)
