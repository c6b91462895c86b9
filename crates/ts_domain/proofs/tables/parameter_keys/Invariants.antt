use Rattle.std.proofs.Common.{◌≡◌, map, take}
use Rattle.ts_domain.specs.Tables.{decl_parameter}
use Rattle.ts_domain.proofs.tables.parameter_keys.Given as goal

abbrev pub invariant-loop-decl : goal.invariant-loop-decl
invariant-loop-decl l = l.keys ≡ map decl_parameter (take l.decl-index l.decls)
