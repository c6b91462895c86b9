use Rattle.sat_log.specs.Propagation.{base_of}
use Rattle.sat_log.proofs.FactLaws.{look_clash, look_unit, all_out, besides_out, got_contains}
use Rattle.sat_log.proofs.visit.visit_at.Goals as goal

pub returns-then-is_false-clause-finds : goal.returns-then-is_false-clause-finds
returns-then-is_false-clause-finds c =
    let claim = c.args.claim.now in
    let facts = c.args.facts.now in
    let clause = c.in-Some.clause.now in
    look_clash claim facts clause c.requires (got_contains (base_of claim) c.args.at clause c.in-Some.ensures)
    (all_out facts.bits.items clause c.args.other c.in_default-free_besides.ensures.none (c.is_false.ensures.0 c.if-is_false.true))

pub conclude-requires-clause-follows : goal.conclude-requires-clause-follows
conclude-requires-clause-follows c =
    let claim = c.args.claim.now in
    let facts = c.args.facts.now in
    let clause = c.in-Some.clause.now in
    look_unit claim facts clause c.args.other c.requires (got_contains (base_of claim) c.args.at clause c.in-Some.ensures) (c.has.ensures.found c.if-not-has.false)
    (besides_out facts.bits.items clause c.args.other c.in_default-free_besides.ensures.none)
