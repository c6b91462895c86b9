use Rattle.std.proofs.Common.{rules, ◌≡◌, ◌++◌, ◌+◌, List, ℕ, drop, ap, sym, ◌∙◌, append_assoc}
use Rattle.mf_set.specs.Numbers.{Numbers}
use Rattle.alias_facts.specs.Answer.{noted, noted_row}
use Rattle.alias_facts.proofs.AnswerLaws.{row_more}
use Rattle.alias_facts.proofs.answers.add_fields.Goals as goal

pub loop-field-preserved : goal.loop-field-preserved
loop-field-preserved c =
    let t = c.args.site in
    let i = c.loop-field.field in
    let row = c.args.row.now in
    let x = c.at.result.now in
    let pushed : c.add_field.new.list ≡ c.loop-field.list ++ noted t i x = search rules in
    ap (λ (xs : List (ℕ × ℕ × Numbers)). xs ++ noted_row t (i + 1) (drop (i + 1) row)) pushed
    ∙ append_assoc c.loop-field.list (noted t i x) (noted_row t (i + 1) (drop (i + 1) row))
    ∙ ap (λ (xs : List (ℕ × ℕ × Numbers)). c.loop-field.list ++ xs) (sym (row_more t i row x c.at.ensures))
    ∙ c.loop-field.invariant
