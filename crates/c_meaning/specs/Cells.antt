-- The cells of an object as a list, from what was written to them.
use Rattle.std.specs.Prelude.{ℕ, zero, suc, ◌+◌, List, [], ◌∷◌, Option, unwrap_or}
use Rattle.c_meaning.specs.declared.value.Value.{Value}
use Rattle.c_meaning.specs.declared.value.Value.TheVariants.{Undef}

-- the cells from number k on, where f says what was written; others are indeterminate
abbrev pub cells_from : (ℕ → Option Value) → (k count : ℕ) → List Value
cells_from f k zero = []
cells_from f k (suc n) = unwrap_or (f k) Undef ∷ cells_from f (k + 1) n
