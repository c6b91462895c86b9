-- What refuses a text as a source refuses its replay.
use Rattle.std.proofs.Common.{rules}
use Rattle.memfix_engine.specs.Replay.{RefusesReplay}
use Rattle.memfix_engine.specs.declared.refusal.ReplayRefusal.TheVariants.{Source}
use Rattle.memfix_engine.specs.declared.request.Request.TheVariants.{Replay}
use Rattle.memfix_engine.proofs.outcome.replayed.Goals as goal

pub returns-in-Err-Source : goal.returns-in-Err-Source
returns-in-Err-Source c =
    let refused : RefusesReplay c.args.bytes.now (Source c.in-Err-Source.refusal) = search rules in
    c.refused.ensures (Replay c.args.asked.now) refused.1
