-- The word of a row is the text at its place.
use Rattle.std.proofs.Common.{◌≡◌, [], Option, Some, None, sym, ap, ◌∙◌, List, ℕ}
use Rattle.std.specs.Prelude.{slice_get, unwrap_or, option_map}
use Rattle.memfix_engine.specs.Notes.{row_texts}
use Rattle.memfix_engine.proofs.ConstructLemmas.{row_found}
use Rattle.memfix_engine.proofs.constructs.row_text.Goals as goal

pub returns-in-Some : goal.returns-in-Some
returns-in-Some c =
    let here : Some c.in-Some.text.now ≡ slice_get row_texts c.args.row =
    ap (option_map (λ w. w.now)) (sym c.in-Some.is) ∙ c.word_of.ensures ∙ row_found _ c.args.row c.texts.ensures in
    ap (λ o. unwrap_or o []) here

pub returns-in-None : goal.returns-in-None
returns-in-None c =
    let here : (let x : Option (List ℕ) = None in x) ≡ slice_get row_texts c.args.row =
    ap (option_map (λ w. w.now)) (sym c.in-None.is) ∙ c.word_of.ensures ∙ row_found _ c.args.row c.texts.ensures in
    ap (λ o. unwrap_or o []) here
