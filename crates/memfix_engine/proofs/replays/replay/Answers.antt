-- What refuses a text as a source refuses its replay.
use Rattle.std.proofs.Common.{◌≡◌, ◌≤◌, length, rules, sym, subst}
use Rattle.memfix_engine.specs.Refusal.{RefusesSource, source_limit}
use Rattle.memfix_engine.specs.Replay.{RefusesReplay}
use Rattle.memfix_engine.proofs.ReadsLemmas.{refused_replay, replay_refused}
use Rattle.memfix_engine.proofs.replays.replay.Goals as goal

pub returns-in-Err : goal.returns-in-Err
returns-in-Err c =
    let fits : length c.args.bytes.now ≤ source_limit = search rules in
    let refuses : RefusesSource c.args.bytes.now c.in-Err.refusal = search rules in
    let refused : RefusesReplay c.args.bytes.now c.refusal_of.result = subst (RefusesReplay c.args.bytes.now) (sym c.refusal_of.ensures) (replay_refused c.args.bytes.now c.in-Err.refusal fits refuses) in
    record { replays = tt; fits = tt; refused = refused; only = refused_replay c.args.bytes.now c.refusal_of.result refused }
