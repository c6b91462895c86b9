-- The definitions, computed on small sets.
use Rattle.std.proofs.Common.{◌≡◌, true, false, Some, None, [], ◌∷◌, refl}
use Rattle.std.specs.declared.cmp.Ordering.TheVariants.{Less, Greater}
use Rattle.mf_set.specs.Numbers.{has, with_number, without_number, union, meet, is_subset, first_common, word_of, words_of, pairs_of}
use Rattle.mf_set.specs.Order.{numbers_eq, numbers_cmp}
use Rattle.mf_set.specs.Words.{has_bit, numbers_of}

has-here : has (2 ∷ 5 ∷ []) 5 ≡ true
has-here = refl

has-not_here : has (2 ∷ 5 ∷ []) 3 ≡ false
has-not_here = refl

with_number-between : with_number (2 ∷ 5 ∷ []) 3 ≡ 2 ∷ 3 ∷ 5 ∷ []
with_number-between = refl

with_number-there : with_number (2 ∷ 5 ∷ []) 5 ≡ 2 ∷ 5 ∷ []
with_number-there = refl

without_number-there : without_number (2 ∷ 3 ∷ 5 ∷ []) 3 ≡ 2 ∷ 5 ∷ []
without_number-there = refl

union-both : union (2 ∷ 5 ∷ []) (0 ∷ 5 ∷ 9 ∷ []) ≡ 0 ∷ 2 ∷ 5 ∷ 9 ∷ []
union-both = refl

meet-both : meet (2 ∷ 5 ∷ 9 ∷ []) (0 ∷ 5 ∷ 9 ∷ []) ≡ 5 ∷ 9 ∷ []
meet-both = refl

is_subset-yes : is_subset (5 ∷ 9 ∷ []) (2 ∷ 5 ∷ 9 ∷ []) ≡ true
is_subset-yes = refl

is_subset-no : is_subset (2 ∷ 5 ∷ 9 ∷ []) (5 ∷ 9 ∷ []) ≡ false
is_subset-no = refl

first_common-least : first_common (2 ∷ 5 ∷ 9 ∷ []) (0 ∷ 5 ∷ 9 ∷ []) ≡ Some 5
first_common-least = refl

first_common-none : first_common (2 ∷ []) (0 ∷ 5 ∷ []) ≡ None
first_common-none = refl

-- the room decides first, and then 9, the greatest number that one of the sets has alone
numbers_cmp-room : numbers_cmp (record { items = 9 ∷ []; room = 10 }) (record { items = []; room = 20 }) ≡ Less
numbers_cmp-room = refl

numbers_cmp-greatest : numbers_cmp (record { items = 9 ∷ []; room = 10 }) (record { items = 2 ∷ 5 ∷ []; room = 10 }) ≡ Greater
numbers_cmp-greatest = refl

numbers_eq-room : numbers_eq (record { items = 2 ∷ []; room = 10 }) (record { items = 2 ∷ []; room = 20 }) ≡ false
numbers_eq-room = refl

-- bits 0 and 2 of the first word, and bit 1 of the second
numbers_of-words : numbers_of (5 ∷ 2 ∷ []) ≡ 0 ∷ 2 ∷ 65 ∷ []
unfolding numbers_of has_bit
numbers_of-words = refl

words_of-numbers : words_of 2 (0 ∷ 2 ∷ 65 ∷ []) ≡ 5 ∷ 2 ∷ []
unfolding words_of word_of
words_of-numbers = refl

-- a last word without a second stands alone
pairs_of-odd : pairs_of (1 ∷ 2 ∷ 3 ∷ []) ≡ 36893488147419103233 ∷ 3 ∷ []
unfolding pairs_of
pairs_of-odd = refl
