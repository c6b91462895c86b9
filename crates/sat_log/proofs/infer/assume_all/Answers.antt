use Rattle.std.proofs.Common.{◌<◌, false, get_or, sym, subst}
use Rattle.std.proofs.lemmas.List.Elements.{AllWithin-more, Contains-get_or}
use Rattle.sat_log.specs.Clauses.{opposite}
use Rattle.sat_log.specs.declared.problem.Lit.{Lit}
use Rattle.sat_log.specs.Propagation.{IsOut}
use Rattle.sat_log.proofs.FactLaws.{grows_more, holds_at}
use Rattle.sat_log.proofs.infer.assume_all.Goals as goal

first : Lit
first = record { var = 0; yes = false }

pub assume-requires-clause-room : goal.assume-requires-clause-room
unfolding first
assume-requires-clause-room c =
    let aim = c.args.claim.now.aim.now in
    subst (λ n. (get_or aim c.loop-lit.lit-index first).var < n) (sym c.loop-lit.invariant.grows.places) (c.requires.room.aim (get_or aim c.loop-lit.lit-index first) (Contains-get_or aim c.loop-lit.lit-index first c.loop-lit-test.true))

pub returns-then-clash-clause-clash : goal.returns-then-clash-clause-clash
returns-then-clash-clause-clash c = λ _. c.in_ok-clash.ensures.clash c.if-clash.true

pub loop-lit-preserved : goal.loop-lit-preserved
unfolding first
loop-lit-preserved c =
    let aim = c.args.claim.now.aim.now in
    let new = c.assume.new.facts in
    let grown = c.in_ok-clash.ensures.grows in
    record {
      sound = c.in_ok-clash.ensures.sound;
      grows = grows_more c.args.facts.now c.loop-lit.facts new c.loop-lit.invariant.grows grown;
      aimed = AllWithin-more (IsOut new.bits.items) aim 0 c.loop-lit.lit-index (λ k d low high. grown.known (opposite (get_or aim k d)) (c.loop-lit.invariant.aimed k d low high))
          (holds_at (IsOut new.bits.items) aim c.loop-lit.lit-index first c.loop-lit-test.true (c.in_ok-clash.ensures.out c.if-clash.false));
    }
