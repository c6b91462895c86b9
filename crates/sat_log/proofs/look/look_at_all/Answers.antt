use Rattle.std.proofs.lemmas.List.Elements.{AllWithin-more, at_read, All-contains, All-from_all_within, AllWithin-upto}
use Rattle.std.proofs.Common.{arith, length, subst}
use Rattle.sat_log.specs.Propagation.{IsAtRest}
use Rattle.sat_log.proofs.look.look_at_all.Goals as goal

pub loop-clause-preserved : goal.loop-clause-preserved
loop-clause-preserved c =
    let rests : IsAtRest c.args.facts.now.bits.items c.clause-item.result = subst (IsAtRest c.args.facts.now.bits.items) c.as_slice.ensures c.in-Rests.ensures in
    AllWithin-more (IsAtRest c.args.facts.now.bits.items) c.args.clauses.now 0 c.loop-clause.clause-index c.loop-clause.invariant (at_read c.args.clauses.now (IsAtRest c.args.facts.now.bits.items) c.loop-clause.clause-index c.clause-item.result c.loop-clause-test.true c.clause-item.is rests)

pub returns : goal.returns
returns c =
    λ x i. All-contains (IsAtRest c.args.facts.now.bits.items) c.args.clauses.now x (All-from_all_within (IsAtRest c.args.facts.now.bits.items) c.args.clauses.now (AllWithin-upto (IsAtRest c.args.facts.now.bits.items) c.args.clauses.now 0 c.loop-clause.clause-index (length c.args.clauses.now) (omega arith) c.loop-clause.invariant)) i
