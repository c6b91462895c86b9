use Rattle.std.proofs.Common.{◌≡◌, ◌<◌, length, get_or, sym, subst}
use Rattle.ts_domain.specs.May.{IsDone}
use Rattle.alias_facts.proofs.following.follow.Goals as goal

pub turn-requires-clause-done : goal.turn-requires-clause-done
turn-requires-clause-done c =
    let ds = c.args.writes.now in
    let i = c.in-Some.next in
    let d = c.in-Some-get.write.now in
    let within : i < length ds = c.in-Some-get.ensures.lookup.3.0 in
    let at : d ≡ get_or ds i d = c.in-Some-get.ensures.lookup.1 in
    subst (IsDone c.args.names.now c.args.graph.now) (sym at) (c.requires.done i d within)
