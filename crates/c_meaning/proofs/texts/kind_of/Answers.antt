use Rattle.std.proofs.Common.{◌≡◌, ◌↔◌, Some, sym, ap, ◌∙◌, subst}
use Rattle.std.specs.Prelude.{slice_get}
use Rattle.std.specs.Option.{option_and_then}
use Rattle.c_meaning.specs.Texts.{text_of, faults}
use Rattle.c_meaning.proofs.FaultTexts.{fault_of-exactly}
use Rattle.c_meaning.proofs.texts.kind_of.Goals as goal

pub returns-in-Some : goal.returns-in-Some
returns-in-Some c = λ k.
    subst (λ o. (o ≡ Some k) ↔ (c.args.text.now ≡ text_of k))
    (sym (c.texts.ensures.numbers c.args.text.now) ∙ ap (option_and_then (slice_get faults)) (sym c.find.ensures ∙ c.in-Some.is) ∙ sym c.kind_at.ensures)
    (fault_of-exactly c.args.text.now k)
