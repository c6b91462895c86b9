-- Bits are a model where there are as many as variables and they make no clause false.
use Rattle.std.proofs.Common.{◌≡◌, false, IsTrue, refl}
use Rattle.sat_core.proofs.PlainLaws.{model_of, model_not_false}
use Rattle.sat_core.proofs.answer.is_model.Goals as goal
use Rattle.sat_core.proofs.answer.is_model.Goals.{then-bits-clauses-via-then-bits-clauses, then-bits-clauses-via-else-bits-clauses+then-has_false}

pub returns-then-bits-clauses : goal.returns-then-bits-clauses
returns-then-bits-clauses c = (
  λ h. absurd (cc),
  λ m. elim c.then-bits-clauses.branch [
    | then-bits-clauses-via-then-bits-clauses w ↦ absurd (w.if-bits-clauses.true m.all)
    | then-bits-clauses-via-else-bits-clauses+then-has_false w ↦ absurd (model_not_false c.args.clauses.now c.args.bits.now m (w.has_false.ensures.0 w.if-has_false.true))
  ],
)

pub returns : goal.returns
returns c = (
  λ _. model_of c.args.clauses.now c.args.bits.now c.requires c.if-bits-clauses.false
      (λ h. let told : IsTrue c.has_false.result = c.has_false.ensures.1 h in let not_told : c.has_false.result ≡ false = c.if-has_false.false in (cc)),
  λ _. refl,
)
