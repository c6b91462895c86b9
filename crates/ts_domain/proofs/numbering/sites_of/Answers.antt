use Rattle.std.proofs.Common.{rules, ◌≡◌, ◌++◌, List, [], ◌∷◌, ℕ, Bool, cond, ap, sym, ◌∙◌}
use Rattle.c_graph.specs.declared.graph.Node.{Node}
use Rattle.ts_domain.specs.Numbering.{makes}
use Rattle.ts_domain.proofs.RowLaws.{passing_more}
use Rattle.ts_domain.proofs.numbering.sites_of.Goals as goal

pub loop-place-preserved : goal.loop-place-preserved
loop-place-preserved c =
    let i = c.loop-place.place in
    let pushed : c.push_if.new.list ≡ c.loop-place.list ++ cond c.makes.result (i ∷ []) [] = search rules in
    pushed ∙ ap (λ (b : Bool). c.loop-place.list ++ cond b (i ∷ []) []) c.makes.ensures
    ∙ ap (λ (xs : List ℕ). xs ++ cond ((λ (v : Node). makes v.kind) c.at.result.now) (i ∷ []) []) c.loop-place.invariant
    ∙ sym (passing_more (λ (v : Node). makes v.kind) c.args.nodes.now i c.at.result.now c.at.ensures)
