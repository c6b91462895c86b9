-- Two parts with types are a pair with a type.
use Rattle.std.proofs.Common.{◌≡◌, refl}
use Rattle.c_types.specs.Judged.{of_one, of_two}
use Rattle.c_types.specs.declared.judged.Judged.{Judged}
use Rattle.c_types.specs.declared.judged.Judged.TheVariants.{Typed, Broken}

pub of_two_both : {A B C : Type 0} (rule : A → B → Judged C) (a : Judged A) (b : Judged B) → of_two rule a b ≡ of_one (λ (p : A × B). rule p.0 p.1) (of_two (λ (x : A) (y : B). Typed (x, y)) a b)
of_two_both rule (Typed a) (Typed b) = refl
of_two_both rule (Typed a) (Broken gs) = refl
of_two_both rule (Broken fs) (Typed b) = refl
of_two_both rule (Broken fs) (Broken gs) = refl
