use Rattle.std.proofs.Common.{length, sym, subst, ◌<◌}
use Rattle.sat_log.proofs.FactLaws.{look_clash, look_unit, rest_no_clash, grows_more, aimed_grown}
use Rattle.sat_log.specs.Propagation.{base_of}
use Rattle.sat_log.proofs.closure.holds.Goals as goal

pub returns-then-clash-clause-clash : goal.returns-then-clash-clause-clash
returns-then-clash-clause-clash c = λ _. c.in_ok-clash.ensures.clash c.if-clash.true

pub returns-in-Clash-clause-clash : goal.returns-in-Clash-clause-clash
returns-in-Clash-clause-clash c =
    λ _. look_clash c.args.claim.now c.loop-lit.facts c.in-Clash.ensures.0 c.loop-lit.invariant.sound c.in-Clash.ensures.1 c.in-Clash.ensures.2

pub returns-in-Rests-clause-no_clash : goal.returns-in-Rests-clause-no_clash
returns-in-Rests-clause-no_clash c =
    λ _. rest_no_clash c.loop-lit.facts.bits.items (base_of c.args.claim.now) c.in-Rests.ensures c.loop-lit.invariant.aimed.out

pub conclude-requires-clause-follows : goal.conclude-requires-clause-follows
conclude-requires-clause-follows c =
    let unit = c.in-Unit.ensures in
    look_unit c.args.claim.now c.loop-lit.facts unit.0 c.in-Unit.lit c.loop-lit.invariant.sound unit.1 unit.2.0 unit.2.3

pub loop-lit-smaller : goal.loop-lit-smaller
loop-lit-smaller c =
    let unit = c.in-Unit.ensures in
    let room : c.in-Unit.lit.var < length c.loop-lit.facts.bits.items = subst (λ n. c.in-Unit.lit.var < n) (sym c.loop-lit.invariant.grows.places) (c.requires.room.base unit.0 unit.1 c.in-Unit.lit unit.2.0) in
    (c.in_ok-conclude-in-Unit.ensures.known room).1

pub loop-lit-preserved : goal.loop-lit-preserved
loop-lit-preserved c =
    let grown = c.in_ok-conclude-in-Unit.ensures.grows in
    record {
      sound = c.in_ok-conclude-in-Unit.ensures.sound;
      grows = grows_more c.args.facts.now c.loop-lit.facts c.conclude.new.facts c.loop-lit.invariant.grows grown;
      aimed = aimed_grown c.args.claim.now c.loop-lit.facts c.conclude.new.facts c.loop-lit.invariant.aimed grown;
    }
