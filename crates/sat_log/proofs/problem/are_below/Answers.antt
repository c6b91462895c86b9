use Rattle.std.proofs.Common.{ℕ, ◌≡◌, true, arith, length, subst, sym, List, ◌<◌, refl}
use Rattle.std.specs.List.{Contains}
use Rattle.std.proofs.lemmas.List.Elements.{AllWithin-more, AllWithin-upto, All-contains, All-from_all_within, at_read}
use Rattle.sat_log.specs.declared.problem.Lit.{Lit}
use Rattle.sat_log.proofs.problem.are_below.Goals as goal

abbrev Below : ℕ → List Lit → Type 0
Below vars clause = (o : Lit) → Contains clause o → o.var < vars

pub returns-then-not-is_below : goal.returns-then-not-is_below
returns-then-not-is_below c = (
  λ h. absurd (cc),
  λ all.
      let item = c.clause-item.result in
      let has : Contains c.args.list.now item = (c.loop-clause.clause-index, c.loop-clause-test.true, sym c.clause-item.is) in
      let yes : c.is_below.result ≡ true = c.is_below.ensures.1 (subst (Below c.args.vars) (sym c.as_slice.ensures) (all item has)) in
      let no = c.if-not-is_below.true in
      absurd (cc),
)

pub loop-clause-preserved : goal.loop-clause-preserved
loop-clause-preserved c =
    let yes = c.if-not-is_below.false in
    let below : Below c.args.vars c.clause-item.result = subst (Below c.args.vars) c.as_slice.ensures (c.is_below.ensures.0 yes) in
    AllWithin-more (Below c.args.vars) c.args.list.now 0 c.loop-clause.clause-index c.loop-clause.invariant (at_read c.args.list.now (Below c.args.vars) c.loop-clause.clause-index c.clause-item.result c.loop-clause-test.true c.clause-item.is below)

pub returns : goal.returns
returns c = (
  λ h x i. All-contains (Below c.args.vars) c.args.list.now x (All-from_all_within (Below c.args.vars) c.args.list.now (AllWithin-upto (Below c.args.vars) c.args.list.now 0 c.loop-clause.clause-index (length c.args.list.now) (omega arith) c.loop-clause.invariant)) i,
  λ h. refl,
)
