use Rattle.std.proofs.Common.{rules, ◌≡◌, ◌+◌, ◌++◌, [], ◌∷◌, subst, sym, List}
use Rattle.mf_set.specs.Numbers.{Numbers}
use Rattle.path_facts.specs.Start.{StartsAll, StartsAt}
use Rattle.path_facts.proofs.PathLaws.{sets_more}
use Rattle.path_facts.proofs.paths.first_sets.Goals as goal

pub loop-node-preserved : goal.loop-node-preserved
loop-node-preserved c =
    let n = c.args.names.now in
    let i = c.loop-node.node in
    let pushed : c.push.new.self ≡ c.loop-node.sets ++ c.in_ok-first_set.field-0 ∷ [] = search rules in
    let starts : StartsAt n i c.in_ok-first_set.field-0 = c.in_ok-first_set.ensures in
    subst (λ (xs : List Numbers). StartsAll n (i + 1) xs) (sym pushed) (sets_more n i c.loop-node.sets c.in_ok-first_set.field-0 c.loop-node.invariant starts)
