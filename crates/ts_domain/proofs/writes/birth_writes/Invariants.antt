use Rattle.std.proofs.Common.{◌≡◌, drop}
use Rattle.ts_domain.specs.Marks.{knowledge}
use Rattle.ts_domain.specs.MarkWrites.{birth_writes, unborn}
use Rattle.ts_domain.proofs.writes.birth_writes.Given as goal

abbrev pub invariant-loop-deed : goal.invariant-loop-deed
invariant-loop-deed l = birth_writes (knowledge l.known) (drop l.deed-index l.deeds) l.mark ≡ birth_writes (knowledge l.known) l.deeds (unborn (knowledge l.known) l.site)
