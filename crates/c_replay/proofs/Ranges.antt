-- A result that is an `int`, and one that is none.
use Rattle.std.proofs.Common.{◌≡◌, ℕ, ◌<◌, ◌^◌, ℤ, pos, negsuc, Ok, arith}
use Rattle.std.specs.Prelude.{FitsSigned}
use Rattle.std.specs.Int.{w32}
use Rattle.std.proofs.lemmas.Bool.Decides.{nat_tests}
use Rattle.c_meaning.specs.declared.value.Value.TheVariants.{Int}
use Rattle.c_meaning.specs.declared.machine.Kind.TheVariants.{Overflow}
use Rattle.c_meaning.specs.Eval.{fitted, flaw}

pub fitted_some : (at : ℕ) (z : ℤ) → FitsSigned w32 z → fitted at z ≡ Ok (Int z)
fitted_some at (pos n) f = let small : n < 2 ^ 31 = f.sfits in grind (arith, nat_tests)
fitted_some at (negsuc n) f = let small : n < 2 ^ 31 = f.sfits in grind (arith, nat_tests)

pub fitted_none : (at : ℕ) (z : ℤ) → (FitsSigned w32 z → ⊥) → fitted at z ≡ flaw Overflow at
fitted_none at (pos n) f = let large : n < 2 ^ 31 → ⊥ = λ h. f (record { sfits = h }) in grind (arith, nat_tests)
fitted_none at (negsuc n) f = let large : n < 2 ^ 31 → ⊥ = λ h. f (record { sfits = h }) in grind (arith, nat_tests)
