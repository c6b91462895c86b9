use Rattle.std.proofs.Common.{rules, ◌≡◌, ◌++◌, ◌+◌, List, ℕ, drop, map, ap, sym, ◌∙◌, append_assoc}
use Rattle.ts_domain.specs.Numbering.{paired_from, var_fields}
use Rattle.ts_domain.proofs.Arguments.{drop_some}
use Rattle.ts_domain.proofs.numbering.pointing_fields.Goals as goal

pub loop-place-preserved : goal.loop-place-preserved
loop-place-preserved c =
    let i = c.loop-place.place in
    let structs = c.args.structs.now in
    let decls = c.args.decls.now in
    let vars = c.args.vars.now in
    let x = c.at.result.now in
    let pushed : c.add_pairs.new.list ≡ c.loop-place.list ++ map (λ f. (i, f)) (var_fields structs decls x) = search rules in
    ap (λ (xs : List (ℕ × ℕ)). xs ++ paired_from structs decls (i + 1) (drop (i + 1) vars)) pushed
    ∙ append_assoc c.loop-place.list (map (λ f. (i, f)) (var_fields structs decls x)) (paired_from structs decls (i + 1) (drop (i + 1) vars))
    ∙ ap (λ (xs : List (ℕ × ℕ)). c.loop-place.list ++ xs) (sym (ap (paired_from structs decls i) (drop_some vars i x c.at.ensures)))
    ∙ c.loop-place.invariant
