use Rattle.std.proofs.Common.{rules, ◌≡◌, ◌+◌, ◌-◌, ◌++◌, [], ◌∷◌, subst, sym, List, ℕ}
use Rattle.ts_domain.specs.Facts.{pairs_below}
use Rattle.path_facts.specs.Numbering.{ArePairs}
use Rattle.path_facts.proofs.NumberingLaws.{pairs_on}
use Rattle.path_facts.proofs.numbering.pairs_of.Goals as goal

pub loop-variable-preserved : goal.loop-variable-preserved
loop-variable-preserved c =
    let i = c.loop-variable.variable in
    let pushed : c.push.new.self ≡ c.loop-variable.pairs ++ c.loop-variable.next ∷ [] = search rules in
    let next : c.in_ok-next.next ≡ c.loop-variable.next + (c.args.vars - i - 1) = search rules in
    subst (λ (xs : List ℕ). ArePairs c.args.vars (i + 1) xs × (c.in_ok-next.next ≡ pairs_below c.args.vars (i + 1))) (sym pushed)
    (pairs_on c.args.vars i c.loop-variable.next c.in_ok-next.next c.loop-variable.pairs c.loop-variable-test.true c.loop-variable.invariant.0 c.loop-variable.invariant.1 next)
