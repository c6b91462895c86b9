use Rattle.std.proofs.Common.{rules, ◌≡◌, ◌∷◌, [], ◌++◌, List, ℕ, ap, sym, ◌∙◌}
use Rattle.ts_domain.specs.Numbering.{var_fields}
use Rattle.ts_domain.proofs.PutLaws.{ranged}
use Rattle.ts_domain.proofs.puts.field_rows.Goals as goal

pub loop-variable-preserved : goal.loop-variable-preserved
loop-variable-preserved c =
    let i = c.loop-variable.variable in
    let fields = var_fields c.args.structs.now c.args.decls.now in
    let pushed : c.push.new.self ≡ c.loop-variable.rows ++ fields i ∷ [] = search rules in
    pushed ∙ ap (λ (rows : List (List ℕ)). rows ++ fields i ∷ []) c.loop-variable.invariant ∙ sym (ranged fields i)
