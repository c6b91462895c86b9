use Rattle.std.proofs.Common.{rules, arith, refl, inl, inr}
use Rattle.mf_io.proofs.mem_sink.MemSinkSink.write.Goals as goal
use Rattle.mf_io.proofs.mem_sink.MemSinkSink.write.Goals.{then-free-eq0-via-then-free-eq0, then-free-eq0-via-else-free-eq0+then-contains}

pub returns-then-free-eq0-clause-failing : goal.returns-then-free-eq0-clause-failing
returns-then-free-eq0-clause-failing c = (
  (λ _. elim c.then-free-eq0.branch [ then-free-eq0-via-then-free-eq0 w ↦ inr (omega (arith, c.args.self.now.within)) | then-free-eq0-via-else-free-eq0+then-contains w ↦ inl (search rules) ]),
  (λ _. refl),
)
