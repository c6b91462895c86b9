use Rattle.std.proofs.Common.{rules, ◌≡◌, ℕ, List, ◌++◌, [], ◌∷◌, Bool, cond, ap, sym, ◌∙◌}
use Rattle.alias_facts.specs.Flow.{is_of_struct}
use Rattle.alias_facts.proofs.FoundLaws.{filter_range}
use Rattle.alias_facts.proofs.found.sites_of_struct.Goals as goal

pub loop-site-preserved : goal.loop-site-preserved
loop-site-preserved c =
    let i = c.loop-site.site in
    let pushed : c.push_if.new.list ≡ c.loop-site.list ++ cond c.is_of_struct.result (i ∷ []) [] = search rules in
    pushed ∙ ap (λ (b : Bool). c.loop-site.list ++ cond b (i ∷ []) []) c.is_of_struct.ensures
    ∙ ap (λ (xs : List ℕ). xs ++ cond (is_of_struct c.args.names.now c.args.graph.now c.args.of i) (i ∷ []) []) c.loop-site.invariant
    ∙ sym (filter_range (is_of_struct c.args.names.now c.args.graph.now c.args.of) i)
