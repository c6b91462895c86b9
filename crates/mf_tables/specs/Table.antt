-- What a table is, and what it answers.
use Rattle.std.specs.Prelude.{ℕ, Bool, true, ◌&&◌, ◌==◌, List, [], ◌∷◌, Option, Some, None, nat_eq, if◌then◌else◌}
use Rattle.std.specs.Ordering.{nat_cmp, is_lt}
use Rattle.std.specs.Cmp.Lexicographic.{pointwise, slice_cmp}
use Rattle.mf_tables.specs.declared.table.Row.{Row}

-- each word comes before the next, by bytes
abbrev pub ascends : List Row → Bool
ascends [] = true
ascends (row ∷ []) = true
ascends (row ∷ next ∷ rows) = is_lt (slice_cmp nat_cmp row.word.now next.word.now) && ascends (next ∷ rows)

-- the number of the first row that has the word, and None where no row has it
abbrev pub number_of : List ℕ → List Row → Option ℕ
number_of word [] = None
number_of word (row ∷ rows) = if pointwise nat_eq row.word.now word then Some row.number else number_of word rows

-- the word of the first row that has the number, and None where no row has it
abbrev pub word_of : ℕ → List Row → Option (List ℕ)
word_of number [] = None
word_of number (row ∷ rows) = if row.number == number then Some row.word.now else word_of number rows
