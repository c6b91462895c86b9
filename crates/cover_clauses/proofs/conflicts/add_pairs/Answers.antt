use Rattle.std.proofs.Common.{◌<◌, ◌==◌, ◌&&◌, false, get_or, refl, ap, sym, subst}
use Rattle.std.proofs.lemmas.List.Elements.{Contains-get_or}
use Rattle.std.proofs.lemmas.Option.{get_or_from_slice_get, slice_get-get_or}
use Rattle.cover_clauses.specs.Conflicts.{is_pair}
use Rattle.cover_clauses.proofs.ConflictLaws.{adds_more, adds_none, adds_same}
use Rattle.cover_clauses.proofs.conflicts.add_pairs.Goals as goal

pub loop-pair-init : goal.loop-pair-init
loop-pair-init c = adds_none (λ j k. false) c.args.rows.now c.requires.square (λ j k. refl)

pub insert_if-requires-clause-square : goal.insert_if-requires-clause-square
insert_if-requires-clause-square c = c.loop-pair.invariant.square

pub insert_if-requires-clause-at : goal.insert_if-requires-clause-at
insert_if-requires-clause-at c =
    let pair = get_or c.args.pairs.now c.loop-pair.pair-index (0, 0) in
    subst (λ n. pair.0 < n) (sym c.loop-pair.invariant.long) (c.requires.within pair (Contains-get_or c.args.pairs.now c.loop-pair.pair-index (0, 0) c.loop-pair-test.true)).0

pub insert_if-requires-clause-number : goal.insert_if-requires-clause-number
insert_if-requires-clause-number c =
    let pair = get_or c.args.pairs.now c.loop-pair.pair-index (0, 0) in
    subst (λ n. pair.1 < n) (sym c.loop-pair.invariant.long) (c.requires.within pair (Contains-get_or c.args.pairs.now c.loop-pair.pair-index (0, 0) c.loop-pair-test.true)).1

pub loop-pair-preserved : goal.loop-pair-preserved
loop-pair-preserved c =
    let pairs = c.args.pairs.now in
    let i = c.loop-pair.pair-index in
    let pair = get_or pairs i (0, 0) in
    let us = c.args.usable.now.items in
    adds_more (is_pair us) pairs i pair c.args.rows.now c.loop-pair.rows c.insert_if.new.rows c.loop-pair-test.true
    (sym (get_or_from_slice_get pairs i pair pair (slice_get-get_or pairs i (0, 0) c.loop-pair-test.true))) c.loop-pair.invariant
    (adds_same (λ j k. c.are_usable-passes.result && (j == pair.0 && k == pair.1)) (is_pair us pair) c.loop-pair.rows c.insert_if.new.rows (λ j k. ap (λ b. b && (j == pair.0 && k == pair.1)) c.are_usable-passes.ensures) c.insert_if.ensures)
