use Rattle.std.proofs.Common.{◌≡◌, ◌≤◌, ◌++◌, drop, length}
use Rattle.ts_domain.specs.Numbering.{paired_from}
use Rattle.ts_domain.proofs.naming.fields_within.Given as goal

abbrev pub invariant-loop-place : goal.invariant-loop-place
invariant-loop-place l =
    (l.list ++ paired_from l.structs l.decls l.place (drop l.place l.vars) ≡ paired_from l.structs l.decls 0 l.vars) × (length l.list ≤ l.most)
