-- A set of numbers below its room, seen as the ascending list of them.
use Rattle.std.specs.Prelude.{◌≡◌, ℕ, zero, suc, ◌+◌, ◌*◌, ◌^◌, map, ◌<◌, ◌≤◌, Bool, true, not, Option, List, [], ◌∷◌, nat_lt, nat_le, ◌==◌, if◌then◌else◌}
use Rattle.std.specs.List.{filter, find, list_all, list_any, range_with_len}

-- a set: its numbers, ascending, and the room that they are below
pub record Numbers : Type 0 where
  pub items : List ℕ
  pub room : ℕ

-- whether the list has the number n
abbrev pub has : List ℕ → ℕ → Bool
has xs n = list_any (λ m. m == n) xs

-- the numbers ascend, the first of them at low or above
abbrev pub IsAscendingFrom : ℕ → List ℕ → Type 0
IsAscendingFrom low [] = Unit {0}
IsAscendingFrom low (x ∷ xs) = (low ≤ x) × IsAscendingFrom (suc x) xs

-- each number is below the room
abbrev pub IsBelow : ℕ → List ℕ → Type 0
IsBelow room xs = (n : ℕ) → has xs n ≡ true → n < room

-- the numbers of a set ascend, and each is below the room
pub record IsSet (s : Numbers) : Type 0 where
  pub ascending : IsAscendingFrom 0 s.items
  pub below : IsBelow s.room s.items

-- the ascending list with k in its place
abbrev pub with_number : List ℕ → ℕ → List ℕ
with_number [] k = k ∷ []
with_number (x ∷ xs) k = if nat_lt k x then k ∷ x ∷ xs else if k == x then x ∷ xs else x ∷ with_number xs k

-- the list without k
abbrev pub without_number : List ℕ → ℕ → List ℕ
without_number xs k = filter (λ n. not (n == k)) xs

-- the ascending list with each number of ys in its place
abbrev pub union : List ℕ → List ℕ → List ℕ
union xs [] = xs
union xs (y ∷ ys) = with_number (union xs ys) y

-- the numbers of xs that ys has
abbrev pub meet : List ℕ → List ℕ → List ℕ
meet xs ys = filter (has ys) xs

-- whether ys has each number of xs
abbrev pub is_subset : List ℕ → List ℕ → Bool
is_subset xs ys = list_all (has ys) xs

-- the first number of xs that ys has
abbrev pub first_common : List ℕ → List ℕ → Option ℕ
first_common xs ys = find (has ys) xs

-- the first number of xs that is not below k
abbrev pub next_from : List ℕ → ℕ → Option ℕ
next_from xs k = find (nat_le k) xs

-- the numbers of xs that are not below k
abbrev pub numbers_from : List ℕ → ℕ → List ℕ
numbers_from xs k = filter (nat_le k) xs

-- the word of n bits in which bit j is whether j passes the test
unfoldable pub word_of : (ℕ → Bool) → ℕ → ℕ
word_of test zero = 0
word_of test (suc n) = (if test n then 2 ^ n else 0) + word_of test n

-- the count words of 64 bits that have these numbers: the number n is the bit n % 64 of the word n / 64
unfoldable pub words_of : ℕ → List ℕ → List ℕ
words_of count xs = map (λ i. word_of (λ j. has xs (64 * i + j)) 64) (range_with_len 0 count)

-- each two words as one of 128 bits, the first in its low half
unfoldable pub pairs_of : List ℕ → List ℕ
pairs_of [] = []
pairs_of (low ∷ []) = low ∷ []
pairs_of (low ∷ high ∷ ws) = (low + high * 2 ^ 64) ∷ pairs_of ws
