-- Where one is missing, the list is not of puts alone.
use Rattle.std.proofs.Common.{rules, ◌≡◌, ◌<◌, length, get_or, None}
use Rattle.memfix_engine.proofs.OwnChoice.{none_here}
use Rattle.memfix_engine.proofs.own_frees.all_puts.Goals as goal

pub returns-in-None : goal.returns-in-None
returns-in-None c = λ puts e.
    let below : c.loop-one.one-index < length c.args.found.now = search rules in
    let none : get_or c.args.found.now c.loop-one.one-index None ≡ None = search rules in
    none_here c.args.found.now c.loop-one.one-index puts none below e
