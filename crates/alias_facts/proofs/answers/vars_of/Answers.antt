use Rattle.std.proofs.Common.{rules, ◌≡◌, ◌++◌, List, [], ◌∷◌, take, ap, sym, ◌∙◌}
use Rattle.std.proofs.lemmas.List.{take_more}
use Rattle.std.proofs.lemmas.Option.{get_or_from_slice_get, slice_get_within}
use Rattle.mf_set.specs.Numbers.{Numbers}
use Rattle.alias_facts.proofs.answers.vars_of.Goals as goal

pub loop-variable-preserved : goal.loop-variable-preserved
loop-variable-preserved c =
    let i = c.loop-variable.variable in
    let sets = c.args.sets.now in
    let x = c.at.result.now in
    let pushed : c.push.new.self ≡ c.loop-variable.list ++ x ∷ [] = search rules in
    pushed ∙ ap (λ (xs : List Numbers). xs ++ x ∷ []) c.loop-variable.invariant
    ∙ ap (λ (y : Numbers). take i sets ++ y ∷ []) (sym (get_or_from_slice_get sets i x x c.at.ensures))
    ∙ sym (take_more sets i x (slice_get_within sets i x c.at.ensures))
