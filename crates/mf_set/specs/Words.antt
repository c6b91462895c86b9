-- A set of numbers in words of 64 bits: the number n has the bit n % 64 of the word n / 64.
use Rattle.std.specs.Prelude.{◌≡◌, ℕ, ◌+◌, ◌*◌, ◌/◌, ◌%◌, ◌^◌, ◌<◌, Bool, true, false, Option, MatchOption, List, [], ◌∷◌, map, length, slice_index, ◌==◌}
use Rattle.std.specs.Int.{bit_at}
use Rattle.std.specs.List.{filter, range_with_len}

-- whether bit j of a word is set
abbrev pub bit_of : ℕ → ℕ → Bool
bit_of word j = bit_at word j == 1

-- whether the bit of n is set
unfoldable pub has_bit : List ℕ → ℕ → Bool
has_bit ws n = bit_of (slice_index ws (n / 64)) (n % 64)

-- the numbers whose bits are set, ascending
unfoldable pub numbers_of : List ℕ → List ℕ
numbers_of ws = filter (has_bit ws) (range_with_len 0 (64 * length ws))

-- the numbers of the word at an index, ascending
abbrev pub numbers_at : ℕ → ℕ → List ℕ
numbers_at i word = map (λ j. 64 * i + j) (numbers_of (word ∷ []))

-- the words are as many as a room takes, and have no bit at the room or above
pub record AreWords (room : ℕ) (ws : List ℕ) : Type 0 where
  pub fits : room < 2 ^ 64
  pub count : length ws ≡ (room + 63) / 64
  pub below : (n : ℕ) → has_bit ws n ≡ true → n < room

-- k is the least number that passes the test
pub record IsLeast (test : ℕ → Bool) (k : ℕ) : Type 0 where
  pub passes : test k ≡ true
  pub least : (n : ℕ) → n < k → test n ≡ false

-- the answer is the least number that passes the test, or None where no number does
abbrev pub IsLeastOrNone : (ℕ → Bool) → Option ℕ → Type 0
IsLeastOrNone test answer = MatchOption answer ((n : ℕ) → test n ≡ false) (IsLeast test)
