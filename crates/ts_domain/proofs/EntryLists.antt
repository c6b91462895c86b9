-- What is in lists of entries without repeats, behind deeds and last.
use Rattle.std.proofs.Common.{◌≡◌, ◌≢◌, ⊎_elim, ℕ, ◌<◌, ◌&&◌, Bool, true, false, List, [], ◌∷◌, ◌++◌, length, get_or, map, ◌||◌, refl, ap, sym, subst, ◌∙◌, arith}
use Rattle.std.specs.Prelude.{nat_eq, if◌then◌else◌}
use Rattle.std.specs.Cmp.Lexicographic.{bytes_decides}
use Rattle.std.specs.List.{AllPairs, Contains, fold, list_any}
use Rattle.std.proofs.lemmas.List.{map-append}
use Rattle.std.proofs.lemmas.List.Quantifiers.{all_pairs_push}
use Rattle.std.proofs.lemmas.Bool.{and_parts, and_from, eqb-true, eq-eqb}
use Rattle.call_contexts.proofs.Has.{Has, first, later, has_left, has_right, has_split, has_map, has_get, only_one, has_contains}
use Rattle.mf_set.specs.Order.{numbers_eq, numbers_eq-same, same-numbers_eq}
use Rattle.ts_domain.specs.declared.deed.Deed.{Deed}
use Rattle.ts_domain.specs.declared.entry.Entry.{Entry}
use Rattle.ts_domain.specs.declared.marks.Mark.{Mark}
use Rattle.ts_domain.specs.declared.marks.Step.{Step}
use Rattle.ts_domain.specs.Marks.{Knowledge}
use Rattle.ts_domain.specs.Post.{with_entry, with_entries, deed_entries, turn, counted, turns, first_entry, last_entry, step_of, deeds_post}
use Rattle.ts_domain.specs.SameEntries.{same_touch, same_notes, same_notes_equiv, same_mark, same_entry}
use Rattle.ts_domain.proofs.EntryLaws.{read_at}
use Rattle.ts_domain.proofs.MarksDescribe.{any_some}

-- entries that compare as equal are equal

same_touched : (a b : Bool) → same_touch a b ≡ true → a ≡ b
same_touched true true h = refl
same_touched false false h = refl
same_touched true false h = absurd cc
same_touched false true h = absurd cc

mark_is : (a b : Mark) → a.site ≡ b.site → a.holds ≡ b.holds → a.lacks ≡ b.lacks → a ≡ b
mark_is a b site holds lacks = λ i. record { site = site i; holds = holds i; lacks = lacks i }

entry_is : (a b : Entry) → a.mark ≡ b.mark → a.touched ≡ b.touched → a.notes.places ≡ b.notes.places → a ≡ b
entry_is a b mark touched places = λ i. record { mark = mark i; touched = touched i; notes = record { places = places i } }

same_marks : (a b : Mark) → same_mark a b ≡ true → a ≡ b
same_marks a b h =
    let both = and_parts (nat_eq a.site b.site) (numbers_eq a.holds b.holds && numbers_eq a.lacks b.lacks) h in
    let sets = and_parts (numbers_eq a.holds b.holds) (numbers_eq a.lacks b.lacks) both.1 in
    mark_is a b (eqb-true a.site b.site both.0) (numbers_eq-same a.holds b.holds sets.0) (numbers_eq-same a.lacks b.lacks sets.1)

same_entries : (a b : Entry) → same_entry a b ≡ true → a ≡ b
same_entries a b h =
    let both = and_parts (same_mark a.mark b.mark) (same_touch a.touched b.touched && same_notes a.notes b.notes) h in
    let rest = and_parts (same_touch a.touched b.touched) (same_notes a.notes b.notes) both.1 in
    entry_is a b (same_marks a.mark b.mark both.0) (same_touched a.touched b.touched rest.0) ((bytes_decides a.notes.places b.notes.places).0 rest.1)

-- lists without repeats

entry_kept : {y : Entry} (xs : List Entry) (x : Entry) → Has y xs → Has y (with_entry xs x)
entry_kept {y} xs x h = by_test (list_any (same_entry x) xs)
  where
    by_test : (b : Bool) → Has y (if b then xs else xs ++ x ∷ [])
    by_test true = h
    by_test false = has_left (x ∷ []) h

entry_has : (xs : List Entry) (x : Entry) → Has x (with_entry xs x)
entry_has xs x = by_test (list_any (same_entry x) xs) refl
  where
    by_test : (b : Bool) → list_any (same_entry x) xs ≡ b → Has x (if b then xs else xs ++ x ∷ [])
    by_test true is = let it = any_some (same_entry x) xs is in subst (λ (y : Entry). Has y xs) (sym (same_entries x it.0 it.2)) it.1
    by_test false is = has_right xs first

entries_kept : {y : Entry} (ys xs : List Entry) → Has y xs → Has y (with_entries xs ys)
entries_kept [] xs h = h
entries_kept (z ∷ ys) xs h = entries_kept ys (with_entry xs z) (entry_kept xs z h)

entries_has : {y : Entry} (ys xs : List Entry) → Has y ys → Has y (with_entries xs ys)
entries_has [] xs h = elim h [ ]
entries_has (z ∷ ys) xs first = entries_kept ys (with_entry xs z) (entry_has xs z)
entries_has (z ∷ ys) xs (later h) = entries_has ys (with_entry xs z) h

-- deeds

module _ (k : Knowledge) where
  turn_kept : {y : Entry} (d : Deed) (at : ℕ) (xs so_far : List Entry) → Has y so_far → Has y (fold (λ ys x. with_entries ys (deed_entries k d at x)) so_far xs)
  turn_kept d at [] so_far h = h
  turn_kept d at (x ∷ xs) so_far h = turn_kept d at xs (with_entries so_far (deed_entries k d at x)) (entries_kept (deed_entries k d at x) so_far h)

  turn_from : {x y : Entry} (d : Deed) (at : ℕ) (xs so_far : List Entry) → Has x xs → Has y (deed_entries k d at x) → Has y (fold (λ ys x. with_entries ys (deed_entries k d at x)) so_far xs)
  turn_from d at [] so_far h g = elim h [ ]
  turn_from d at (z ∷ xs) so_far first g = turn_kept d at xs (with_entries so_far (deed_entries k d at z)) (entries_has (deed_entries k d at z) so_far g)
  turn_from d at (z ∷ xs) so_far (later h) g = turn_from d at xs (with_entries so_far (deed_entries k d at z)) h g

  -- an entry that comes of one that was there
  pub turn_has : {x y : Entry} (d : Deed) (at : ℕ) (xs : List Entry) → Has x xs → Has y (deed_entries k d at x) → Has y (turn k d at xs)
  turn_has d at xs h g = turn_from d at xs [] h g

  -- deeds in two parts
  abbrev pub counted_all : List Deed → ℕ → ℕ
  counted_all [] at = at
  counted_all (d ∷ ds) at = counted_all ds (counted d at)

  pub turns_append : (ds es : List Deed) (at : ℕ) (xs : List Entry) → turns k (ds ++ es) at xs ≡ turns k es (counted_all ds at) (turns k ds at xs)
  turns_append [] es at xs = refl
  turns_append (d ∷ ds) es at xs = turns_append ds es (counted d at) (turn k d at xs)

  -- last

  last_kept : {y : Entry} (xs so_far : List Entry) → Has y so_far → Has y (fold (λ ys x. with_entry ys (last_entry k x)) so_far xs)
  last_kept [] so_far h = h
  last_kept (x ∷ xs) so_far h = last_kept xs (with_entry so_far (last_entry k x)) (entry_kept so_far (last_entry k x) h)

  last_from : {x : Entry} (xs so_far : List Entry) → Has x xs → Has (last_entry k x) (fold (λ ys x. with_entry ys (last_entry k x)) so_far xs)
  last_from [] so_far h = elim h [ ]
  last_from (z ∷ xs) so_far first = last_kept xs (with_entry so_far (last_entry k z)) (entry_has so_far (last_entry k z))
  last_from (z ∷ xs) so_far (later h) = last_from xs (with_entry so_far (last_entry k z)) h

  -- the post of an entry behind all deeds
  pub post_has : {x : Entry} (ds : List Deed) (m : Mark) → Has x (turns k ds 0 (first_entry m ∷ [])) → Contains (deeds_post k ds m) (step_of (last_entry k x))
  post_has ds m h = has_contains (deeds_post k ds m) (has_map step_of (last_from (turns k ds 0 (first_entry m ∷ [])) [] h))

-- no post twice

touch_itself : (b : Bool) → same_touch b b ≡ true
touch_itself true = refl
touch_itself false = refl

entry_itself : (x : Entry) → same_entry x x ≡ true
entry_itself x =
    and_from (same_mark x.mark x.mark) (same_touch x.touched x.touched && same_notes x.notes x.notes)
    (and_from (nat_eq x.mark.site x.mark.site) (numbers_eq x.mark.holds x.mark.holds && numbers_eq x.mark.lacks x.mark.lacks) (eq-eqb x.mark.site x.mark.site refl)
    (and_from (numbers_eq x.mark.holds x.mark.holds) (numbers_eq x.mark.lacks x.mark.lacks) (same-numbers_eq x.mark.holds x.mark.holds refl) (same-numbers_eq x.mark.lacks x.mark.lacks refl)))
    (and_from (same_touch x.touched x.touched) (same_notes x.notes x.notes) (touch_itself x.touched) (same_notes_equiv.refl x.notes))

none_step : {A : Type 0} (p : A → Bool) (x z : A) (xs : List A) (b c : Bool) → p x ≡ b → (b || c) ≡ false → p z ≡ true → Has z (x ∷ xs) → (c ≡ false → Has z xs → ⊥) → ⊥
none_step p x z xs true c at off is there rest = absurd cc
none_step p x z xs false c at off is first rest = let never : true ≡ false = sym is ∙ at in absurd cc
none_step p x z xs false c at off is (later there) rest = rest off there

none_passes : {A : Type 0} (p : A → Bool) (z : A) (xs : List A) → list_any p xs ≡ false → Has z xs → p z ≡ true → ⊥
none_passes p z [] none h is = elim h [ ]
none_passes p z (x ∷ xs) none h is = none_step p x z xs (p x) (list_any p xs) refl none is h (λ rest there. none_passes p z xs rest there is)

map_from : {A B : Type 0} {y : B} (f : A → B) (xs : List A) → Has y (map f xs) → (x : A) × Has x xs × (y ≡ f x)
map_from f [] h = elim h [ ]
map_from f (x ∷ xs) first = (x, first, refl)
map_from f (x ∷ xs) (later h) = let it = map_from f xs h in (it.0, later it.1, it.2)

-- last entries have no notes, and their steps differ
record AreOnce (xs : List Entry) : Type 0 where
  differ : AllPairs (λ (s t : Step). s ≢ t) (map step_of xs)
  empty : (x : Entry) → Has x xs → x.notes.places ≡ []

once_more : (xs : List Entry) (y : Entry) → y.notes.places ≡ [] → AreOnce xs → AreOnce (with_entry xs y)
once_more xs y none h = by_test (list_any (same_entry y) xs) refl
  where
    other : list_any (same_entry y) xs ≡ false → (k : ℕ) (d : Step) → k < length (map step_of xs) → get_or (map step_of xs) k d ≢ step_of y
    other new k d low same =
        let it = map_from step_of xs (has_get (map step_of xs) k (read_at (map step_of xs) k d low)) in
        let steps : step_of it.0 ≡ step_of y = sym it.2 ∙ same in
        let entries : it.0 ≡ y = entry_is it.0 y (ap (λ (s : Step). s.mark) steps) (ap (λ (s : Step). s.touched) steps) (h.empty it.0 it.1 ∙ sym none) in
        none_passes (same_entry y) it.0 xs new it.1 (ap (same_entry y) entries ∙ entry_itself y)

    by_test : (b : Bool) → list_any (same_entry y) xs ≡ b → AreOnce (if b then xs else xs ++ y ∷ [])
    by_test true is = h
    by_test false is = record {
      differ = subst (AllPairs (λ (s t : Step). s ≢ t)) (sym (map-append step_of xs (y ∷ []))) (all_pairs_push (λ (s t : Step). s ≢ t) (map step_of xs) (step_of y) h.differ (other is));
      empty = λ x there. ⊎_elim (λ old. h.empty x old) (λ new. ap (λ (z : Entry). z.notes.places) (only_one new) ∙ none) (has_split xs there);
    }

none_below : (j : ℕ) → j < 0 → ⊥
none_below j low = absurd (omega arith)

pub posts_differ : (k : Knowledge) (ds : List Deed) (m : Mark) → AllPairs (λ (s t : Step). s ≢ t) (deeds_post k ds m)
posts_differ k ds m = (all_once (turns k ds 0 (first_entry m ∷ [])) [] (record { differ = λ i j d less low. absurd (none_below j low); empty = λ x h. elim h [ ] })).differ
  where
    all_once : (xs so_far : List Entry) → AreOnce so_far → AreOnce (fold (λ ys x. with_entry ys (last_entry k x)) so_far xs)
    all_once [] so_far h = h
    all_once (x ∷ xs) so_far h = all_once xs (with_entry so_far (last_entry k x)) (once_more so_far (last_entry k x) refl h)
