-- The texts of the faults.
use Rattle.std.specs.Prelude.{ℕ, List, [], ◌∷◌, Option, codes, nat_eq}
use Rattle.std.specs.List.{find}
use Rattle.std.specs.Cmp.Lexicographic.{pointwise}
use Rattle.c_meaning.specs.declared.machine.Kind.{Kind}
use Rattle.c_meaning.specs.declared.machine.Kind.TheVariants.{NullDeref, Bounds, Uninit, UseAfterFree, Overflow, DivZero, DoubleFree}

-- the text of a fault
abbrev pub text_of : Kind → List ℕ
text_of NullDeref = codes "null dereference"
text_of Bounds = codes "out of bounds"
text_of Uninit = codes "uninitialised value"
text_of UseAfterFree = codes "use after free"
text_of Overflow = codes "overflow"
text_of DivZero = codes "division by zero"
text_of DoubleFree = codes "double free"

-- the faults, their texts ascending
abbrev pub faults : List Kind
faults = DivZero ∷ DoubleFree ∷ NullDeref ∷ Bounds ∷ Overflow ∷ Uninit ∷ UseAfterFree ∷ []

-- the place of a fault among these
abbrev pub place_of_fault : Kind → ℕ
place_of_fault DivZero = 0
place_of_fault DoubleFree = 1
place_of_fault NullDeref = 2
place_of_fault Bounds = 3
place_of_fault Overflow = 4
place_of_fault Uninit = 5
place_of_fault UseAfterFree = 6

-- the fault of a text
abbrev pub fault_of : List ℕ → Option Kind
fault_of text = find (λ k. pointwise nat_eq (text_of k) text) faults
