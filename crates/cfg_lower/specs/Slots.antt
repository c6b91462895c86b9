-- The nameless slots of all functions.
use Rattle.std.specs.Prelude.{ℕ, zero, suc, List, [], ◌∷◌, ◌++◌, length, Option}
use Rattle.c_tree.specs.declared.program.Program.{Program}
use Rattle.c_meaning.specs.Place.{slot_from}
use Rattle.c_tree.specs.declared.program.VarDef.{VarDef}

-- the values at the numbers below n
abbrev pub below_number : {A : Type 0} → (ℕ → A) → ℕ → List A
below_number f zero = []
below_number f (suc n) = below_number f n ++ f n ∷ []

-- those of the first n functions, from these variables, the first of which is variable x
abbrev pub slots_from : ℕ → ℕ → List VarDef → List (Option ℕ)
slots_from n x vars = below_number (λ f. slot_from f x vars) n

abbrev pub slots_of : Program → List (Option ℕ)
slots_of p = slots_from (length p.funs) 0 p.vars
