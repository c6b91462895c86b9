use Rattle.std.proofs.Common.{◌≡◌, ◌<◌, ◌≤◌, List, false, length, get_or, IsTrue, sym, ap, ◌∙◌, subst}
use Rattle.std.specs.List.{Contains}
use Rattle.std.proofs.lemmas.List.{take_all}
use Rattle.sat_log.specs.declared.problem.Lit.{Lit}
use Rattle.sat_core.specs.Bits.{IsFalse}
use Rattle.sat_core.proofs.PlainLaws.{none_more}
use Rattle.sat_core.proofs.plain.has_false.Goals as goal

pub loop-clause-preserved : goal.loop-clause-preserved
loop-clause-preserved c =
    let list = c.args.clauses.now.list in
    let same = c.as_slice-clause-items.ensures in
    let below : c.loop-clause.clause-index < length list = subst (λ (xs : List (List Lit)). c.loop-clause.clause-index < length xs) same c.loop-clause-test.true in
    let item : c.as_slice.result.now ≡ get_or list c.loop-clause.clause-index c.clause-item.result =
    c.as_slice.ensures ∙ c.clause-item.is ∙ ap (λ (xs : List (List Lit)). get_or xs c.loop-clause.clause-index c.clause-item.result) same in
    none_more c.args.bits.now list c.loop-clause.clause-index c.clause-item.result below c.loop-clause.invariant
    (λ h. let told : IsTrue c.is_false.result = c.is_false.ensures.1 (subst (IsFalse c.args.bits.now) (sym item) h) in let not_told : c.is_false.result ≡ false = c.if-is_false.false in (cc))

pub returns : goal.returns
returns c =
    let list = c.args.clauses.now.list in
    let done : length list ≤ c.loop-clause.clause-index = subst (λ (xs : List (List Lit)). length xs ≤ c.loop-clause.clause-index) c.as_slice-clause-items.ensures c.loop-clause-test.false in (
      λ (t : IsTrue false). absurd (cc),
      λ h. absurd (c.loop-clause.invariant h.0 (subst (λ (xs : List (List Lit)). Contains xs h.0) (sym (take_all c.loop-clause.clause-index list done)) h.1) h.2),
    )
