use Rattle.std.proofs.Common.{rules, ◌≡◌, ◌+◌, cond, drop, get_or, ap, sym, subst, ◌∙◌}
use Rattle.mf_set.specs.Numbers.{Numbers, has, with_number}
use Rattle.ts_domain.specs.Derived.{forbidden_at, forbids, joined}
use Rattle.typestate_fixpoint.specs.Gaps.{verdict_in, HasSame}
use Rattle.typestate_fixpoint.proofs.GapLaws.{forbid_next}
use Rattle.typestate_fixpoint.proofs.gaps.forbid_at.Goals as goal

pub loop-put-preserved : goal.loop-put-preserved
loop-put-preserved c =
    let v = verdict_in c.args.puts.now c.args.mark.now in
    let row = c.args.row.now in
    let i = c.loop-put.put-index in
    let k = get_or row i 0 in
    let s = c.loop-put.forbidden in
    let held = c.loop-put.behind in
    let told : c.verdict_in-verdict.result ≡ v k = search rules in
    let bans : c.forbids.result ≡ forbids (v k) (has held.items k) = c.forbids.ensures ∙ ap (λ x. forbids x c.contains.result) told ∙ ap (forbids (v k)) c.contains.ensures.value in
    let made : c.forbid_if.new.forbidden ≡ (let u : Numbers = record { items = cond (forbids (v k) (has held.items k)) (with_number s.items k) s.items; room = s.room } in u) =
    c.forbid_if.ensures ∙ ap (λ b. let u : Numbers = record { items = cond b (with_number s.items k) s.items; room = s.room } in u) bans in
    let on : c.join.new.held ≡ (let u : Numbers = record { items = joined (v k) k held.items; room = held.room } in u) =
    c.join.ensures ∙ ap (λ x. let u : Numbers = record { items = joined x k held.items; room = held.room } in u) told in
    let all = forbidden_at v row c.args.held.now.items in (
      ap (λ (x : Numbers). x.room) on ∙ c.loop-put.invariant.0,
      subst (λ (x : Numbers). HasSame all (forbidden_at v (drop (i + 1) row) x.items) c.args.forbidden.now c.forbid_if.new.forbidden) (sym on)
          (forbid_next v row all held.items i c.args.forbidden.now s c.forbid_if.new.forbidden c.loop-put-test.true c.loop-put.invariant.1 made),
    )
