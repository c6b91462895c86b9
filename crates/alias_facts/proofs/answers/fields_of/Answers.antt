use Rattle.std.proofs.Common.{rules, ◌≡◌, ◌++◌, ◌+◌, List, ℕ, drop, ap, sym, ◌∙◌, append_assoc}
use Rattle.mf_set.specs.Numbers.{Numbers}
use Rattle.alias_facts.specs.Answer.{noted_row, noted_rows}
use Rattle.alias_facts.proofs.AnswerLaws.{rows_more}
use Rattle.alias_facts.proofs.answers.fields_of.Goals as goal

pub loop-site-preserved : goal.loop-site-preserved
loop-site-preserved c =
    let i = c.loop-site.site in
    let rows = c.args.rows.now in
    let row = c.at.result.now in
    let pushed : c.add_fields.new.list ≡ c.loop-site.list ++ noted_row i 0 row = search rules in
    ap (λ (xs : List (ℕ × ℕ × Numbers)). xs ++ noted_rows (i + 1) (drop (i + 1) rows)) pushed
    ∙ append_assoc c.loop-site.list (noted_row i 0 row) (noted_rows (i + 1) (drop (i + 1) rows))
    ∙ ap (λ (xs : List (ℕ × ℕ × Numbers)). c.loop-site.list ++ xs) (sym (rows_more i rows row c.at.ensures))
    ∙ c.loop-site.invariant
