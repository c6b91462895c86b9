-- What an order of the words says of a look-up.
use Rattle.std.proofs.Common.{◌≡◌, ℕ, zero, suc, ◌+◌, ◌<◌, ◌≤◌, true, false, List, [], ◌∷◌, Some, None, length, get_or, nat_eq, sym, refl, ap, ◌∙◌, arith, ⊎_elim}
use Rattle.std.specs.Ordering.{nat_cmp, is_lt, is_eq, ordering_reverse}
use Rattle.std.specs.declared.cmp.Ordering.{Ordering}
use Rattle.std.specs.declared.cmp.Ordering.TheVariants.{Less, Equal, Greater}
use Rattle.std.specs.Cmp.Lexicographic.{pointwise, slice_cmp, texts_ties}
use Rattle.std.proofs.lemmas.Cmp.{nat_list_cmp_total}
use Rattle.std.proofs.lemmas.Bool.{and_parts, cond-true, cond-false, cases_lt}
use Rattle.std.proofs.lemmas.List.{get_or_default}
use Rattle.mf_tables.specs.Table.{ascends, number_of}
use Rattle.mf_tables.specs.declared.table.Row.{Row}

abbrev compare : List ℕ → List ℕ → Ordering
compare = slice_cmp nat_cmp

less_from : (o : Ordering) → is_lt o ≡ true → o ≡ Less
less_from Less h = refl
less_from Equal h = cc
less_from Greater h = cc

-- the first word is below each later one
first_below : (row : Row) (rows : List Row) (k : ℕ) (d : Row) → ascends (row ∷ rows) ≡ true → k < length rows → compare row.word.now (get_or rows k d).word.now ≡ Less
first_below row [] k d up within = absurd (omega arith)
first_below row (next ∷ rows) zero d up within = less_from _ (and_parts _ _ up).0
first_below row (next ∷ rows) (suc k) d up within =
    let parts = and_parts (is_lt (compare row.word.now next.word.now)) (ascends (next ∷ rows)) up in
    nat_list_cmp_total.trans row.word.now next.word.now (get_or rows k d).word.now (less_from (compare row.word.now next.word.now) parts.0) (first_below next rows k d parts.1 (omega arith))

ascends_rest : (row : Row) (rows : List Row) → ascends (row ∷ rows) ≡ true → ascends rows ≡ true
ascends_rest row [] up = refl
ascends_rest row (next ∷ rows) up = (and_parts _ _ up).1

same_word : (a b : List ℕ) → compare a b ≡ Equal → pointwise nat_eq a b ≡ true
same_word a b h = texts_ties a b ∙ ap is_eq h

other_word : (a b : List ℕ) → is_eq (compare a b) ≡ false → pointwise nat_eq a b ≡ false
other_word a b h = texts_ties a b ∙ h

-- a later word is above an earlier one
pub rising : (rows : List Row) (j k : ℕ) (d : Row) → ascends rows ≡ true → j < k → k < length rows → compare (get_or rows j d).word.now (get_or rows k d).word.now ≡ Less
rising [] j k d up before within = absurd (omega arith)
rising (row ∷ rows) j zero d up before within = absurd (omega arith)
rising (row ∷ rows) zero (suc k) d up before within = first_below row rows k d up (omega arith)
rising (row ∷ rows) (suc j) (suc k) d up before within = rising rows j k d (ascends_rest row rows up) (omega arith) (omega arith)

-- what the middle row says of those before it and after it
pub below_middle : (rows : List Row) (word : List ℕ) (j k : ℕ) (d : Row) → ascends rows ≡ true → j ≤ k → k < length rows → compare (get_or rows k d).word.now word ≡ Less → compare (get_or rows j d).word.now word ≡ Less
below_middle rows word j k d up before within less =
    ⊎_elim
    (λ lt. nat_list_cmp_total.trans (get_or rows j d).word.now (get_or rows k d).word.now word (rising rows j k d up lt within) less)
    (λ ge. let same : j ≡ k = omega arith in rw same less)
    (cases_lt j k)

pub above_middle : (rows : List Row) (word : List ℕ) (j k : ℕ) (d : Row) → ascends rows ≡ true → k ≤ j → j < length rows → compare (get_or rows k d).word.now word ≡ Greater → compare (get_or rows j d).word.now word ≡ Greater
above_middle rows word j k d up after within greater =
    ⊎_elim
    (λ lt. flipped (nat_list_cmp_total.antisymm (get_or rows j d).word.now word) (nat_list_cmp_total.trans word (get_or rows k d).word.now (get_or rows j d).word.now (nat_list_cmp_total.antisymm word (get_or rows k d).word.now ∙ ap ordering_reverse greater) (rising rows k j d up lt within)))
    (λ ge. let same : j ≡ k = omega arith in rw same greater)
    (cases_lt k j)
  where
    flipped : {o p : Ordering} → o ≡ ordering_reverse p → p ≡ Less → o ≡ Greater
    flipped e less = e ∙ ap ordering_reverse less

less_alike : (a b c : List ℕ) → compare a b ≡ Less → compare b c ≡ Equal → compare a c ≡ Less
less_alike a b c less same =
    nat_list_cmp_total.antisymm a c ∙ ap ordering_reverse (sym (nat_list_cmp_total.congr b c a same) ∙ nat_list_cmp_total.antisymm b a ∙ ap ordering_reverse less)

-- a row that has the word is the one that the look-up answers
pub found : (rows : List Row) (word : List ℕ) (k : ℕ) (d : Row) → ascends rows ≡ true → k < length rows → compare (get_or rows k d).word.now word ≡ Equal → number_of word rows ≡ Some (get_or rows k d).number
found [] word k d up within equal = absurd (omega arith)
found (row ∷ rows) word zero d up within equal = cond-true (pointwise nat_eq row.word.now word) (Some row.number) (number_of word rows) (same_word row.word.now word equal)
found (row ∷ rows) word (suc k) d up within equal =
    let below = first_below row rows k d up (omega arith) in
    let less = less_alike row.word.now (get_or rows k d).word.now word below equal in
    cond-false (pointwise nat_eq row.word.now word) (Some row.number) (number_of word rows) (other_word row.word.now word (ap is_eq less)) ∙ found rows word k d (ascends_rest row rows up) (omega arith) equal

-- where no row has the word, there is no answer
pub absent : (rows : List Row) (word : List ℕ) → ((k : ℕ) (d : Row) → k < length rows → is_eq (compare (get_or rows k d).word.now word) ≡ false) → number_of word rows ≡ None
absent [] word none = refl
absent (row ∷ rows) word none =
    cond-false (pointwise nat_eq row.word.now word) (Some row.number) (number_of word rows) (other_word row.word.now word (none zero row (omega arith))) ∙ absent rows word (λ k d within. none (suc k) d (omega arith))

-- what a search that finds a place to insert says
pub apart : (rows : List Row) (word : List ℕ) (i : ℕ)
    → ((k : ℕ) (d : Row) → k < i → compare (get_or rows k d).word.now word ≡ Less)
    → ((k : ℕ) (d : Row) → i ≤ k → k < length rows → compare (get_or rows k d).word.now word ≡ Greater)
    → number_of word rows ≡ None
apart rows word i below above =
    absent rows word (λ k d within. ⊎_elim (λ lt. ap is_eq (below k d lt)) (λ ge. ap is_eq (above k d ge within)) (cases_lt k i))

-- one turn of the search, where the middle row is read at some default
pub below_more : (rows : List Row) (word : List ℕ) (middle : ℕ) (e : Row) → ascends rows ≡ true → middle < length rows → compare (get_or rows middle e).word.now word ≡ Less
    → (k : ℕ) (d : Row) → k < middle + 1 → compare (get_or rows k d).word.now word ≡ Less
below_more rows word middle e up within less k d before =
    below_middle rows word k middle d up (omega arith) within (rw (get_or_default rows middle d e within) less)

pub above_more : (rows : List Row) (word : List ℕ) (middle : ℕ) (e : Row) → ascends rows ≡ true → middle < length rows → compare (get_or rows middle e).word.now word ≡ Greater
    → (k : ℕ) (d : Row) → middle ≤ k → k < length rows → compare (get_or rows k d).word.now word ≡ Greater
above_more rows word middle e up within greater k d after inside =
    above_middle rows word k middle d up after inside (rw (get_or_default rows middle d e within) greater)

-- fewer than two rows ascend
pub short_ascends : (rows : List Row) → length rows ≤ 1 → ascends rows ≡ true
short_ascends [] short = refl
short_ascends (row ∷ []) short = refl
short_ascends (row ∷ next ∷ rows) short = absurd (omega arith)
