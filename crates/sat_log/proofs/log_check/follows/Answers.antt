use Rattle.std.proofs.Common.{◌++◌, take, length, subst, sym, ◌∙◌, refl, arith, List}
use Rattle.std.specs.List.{Contains}
use Rattle.std.proofs.lemmas.List.{append-nil}
use Rattle.sat_log.specs.Refutation.{Clashes}
use Rattle.sat_log.specs.Propagation.{Settled}
use Rattle.sat_log.specs.declared.problem.Lit.{Lit}
use Rattle.sat_log.proofs.LogLaws.{follows_none, follows_all, follows_next, follows_at, follows_whole}
use Rattle.sat_log.proofs.FactLaws.{has_room, settled_next}
use Rattle.sat_log.proofs.log_check.follows.Goals as goal

pub loop-at-init : goal.loop-at-init
loop-at-init c =
    record {
      known = follows_none c.args.given.now;
      settled = subst (λ xs. Settled xs c.args.facts.now) (sym (append-nil c.args.given.now)) c.requires.settled;
      places = refl;
    }

pub returns-then-clash : goal.returns-then-clash
returns-then-clash c = (λ _. follows_all c.args.given.now c.args.list.now c.loop-at.at c.loop-at.invariant.known (c.in_ok-clash.ensures.clash c.if-clash.true), λ _. refl)

pub decide-requires-clause-room : goal.decide-requires-clause-room
decide-requires-clause-room c =
    let list = c.args.list.now in
    let in' : Contains list c.index-list-at.result = (c.loop-at.at, c.loop-at-test.true, sym c.index-list-at.is) in
    has_room _ c.settle.new.facts list c.loop-at.at (length c.args.facts.now.bits.items) (c.in_ok-clash.ensures.places ∙ c.loop-at.invariant.places) c.requires.given_below c.requires.list_below refl
    (subst (λ (x : List Lit). Contains list x) (sym c.as_slice-aim.ensures) in')

pub returns-then-not-clash : goal.returns-then-not-clash
returns-then-not-clash c =
    let list = c.args.list.now in
    let at = c.loop-at.at in
    let same = sym c.index-list-at.is ∙ sym c.as_slice-aim.ensures in (
      λ h. absurd (cc),
      λ known. absurd (c.in_ok-clash-2.ensures.no_clash c.if-not-clash.true (subst (Clashes (c.args.given.now ++ take at list)) same (follows_at c.args.given.now list at c.index-list-at.result c.loop-at-test.true known))),
    )

pub loop-at-preserved : goal.loop-at-preserved
loop-at-preserved c =
    let given = c.args.given.now in
    let list = c.args.list.now in
    let at = c.loop-at.at in
    let same = c.as_slice-aim.ensures ∙ c.index-list-at.is in
    record {
      known = follows_next given list at c.index-list-at.result c.loop-at-test.true c.loop-at.invariant.known (subst (Clashes (given ++ take at list)) same (c.in_ok-clash-2.ensures.clash c.if-not-clash.false));
      settled = settled_next given list c.decide.new.facts at c.index-list-at.result c.loop-at-test.true c.in_ok-clash-2.ensures.settled;
      places = c.in_ok-clash-2.ensures.places ∙ c.in_ok-clash.ensures.places ∙ c.loop-at.invariant.places;
    }

pub returns : goal.returns
returns c = (λ _. follows_whole c.args.given.now c.args.list.now c.loop-at.at (omega arith) c.loop-at.invariant.known, λ _. refl)
