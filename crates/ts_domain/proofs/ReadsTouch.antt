-- A read that meets a pointer to the object of a mark is touched behind the deeds, unless a test drops it on one of its two ways.
use Rattle.std.proofs.Common.{◌≡◌, ◌⊎◌, inl, inr, ⊎_elim, ℕ, ◌&&◌, ◌||◌, Bool, true, false, not, List, [], ◌∷◌, ◌++◌, refl, ap, sym, subst, ◌∙◌}
use Rattle.std.specs.List.{Contains, list_any}
use Rattle.std.proofs.lemmas.Bool.{eq-eqb, or_left}
use Rattle.c_tree.specs.declared.program.Program.{Program}
use Rattle.c_meaning.specs.declared.value.Value.TheVariants as value
use Rattle.call_contexts.proofs.Has.{Has, first, has_map, has_right}
use Rattle.ts_domain.specs.declared.deed.Deed.{Deed}
use Rattle.ts_domain.specs.declared.deed.Deed.TheVariants.{Reads, Follows, Says, Sets, SetsField}
use Rattle.ts_domain.specs.declared.deed.Saying.{Saying}
use Rattle.ts_domain.specs.declared.deed.Saying.TheVariants.{IsntNull, AreEqual, Differ}
use Rattle.ts_domain.specs.declared.entry.Entry.{Entry}
use Rattle.ts_domain.specs.declared.marks.Mark.{Mark}
use Rattle.ts_domain.specs.declared.marks.Step.{Step}
use Rattle.ts_domain.specs.declared.marks.Verdict.{Verdict}
use Rattle.ts_domain.specs.declared.marks.Verdict.TheVariants.{Yes, No, Open}
use Rattle.ts_domain.specs.declared.names.Names.{Names}
use Rattle.ts_domain.specs.declared.names.Read.{Read}
use Rattle.ts_domain.specs.declared.names.Read.TheVariants as read
use Rattle.ts_domain.specs.Describing.{Describes}
use Rattle.ts_domain.specs.Holding.{MayHolds}
use Rattle.ts_domain.specs.Marks.{Knowledge, verdict, flows, only_if, decided, step, split_by, splits, is_yes}
use Rattle.ts_domain.specs.MarkWrites.{looked_verdict}
use Rattle.ts_domain.specs.Post.{read_entry, are_opposed, excludes, written_entry, turn, counted, turns, is_read, first_entry, last_entry, step_of, deeds_post}
use Rattle.ts_domain.specs.Views.{AreNames, View, Seen, first_seen, Finds, DoesAll}
use Rattle.ts_domain.proofs.DeedShapes.{Looks, nothing, reads, follows, Setting, no_more, sets_one, Quiet, settings, puts_one, Opposed, silent, null_first, null_second, equal_first, equal_second, Parts}
use Rattle.ts_domain.proofs.EntryLists.{turn_has, counted_all, turns_append, post_has}
use Rattle.ts_domain.proofs.PostsDescribe.{first_fits, looks_fit, one_read}

-- where a read stands

any_middle : (before after : List Deed) (r : Read) (noted : Bool) → list_any is_read (before ++ Reads r noted ∷ after) ≡ true
any_middle [] after r noted = refl
any_middle (d ∷ before) after r noted = by_first (is_read d) (any_middle before after r noted)
  where
    by_first : (b : Bool) → list_any is_read (before ++ Reads r noted ∷ after) ≡ true → (b || list_any is_read (before ++ Reads r noted ∷ after)) ≡ true
    by_first true h = refl
    by_first false h = h

setting_reads_not : {n : Names} {makes : Bool} {ds : List Deed} → Setting n makes ds → list_any is_read ds ≡ false
setting_reads_not no_more = refl
setting_reads_not (sets_one k v low made more) = setting_reads_not more

quiet_reads_not : {n : Names} {makes : Bool} {ds : List Deed} → Quiet n makes ds → list_any is_read ds ≡ false
quiet_reads_not (settings more) = setting_reads_not more
quiet_reads_not (puts_one r c f v made) = refl

opposed_reads_not : {xs ys : List Deed} → Opposed xs ys → list_any is_read xs ≡ false
opposed_reads_not silent = refl
opposed_reads_not (null_first k) = refl
opposed_reads_not (null_second k) = refl
opposed_reads_not (equal_first l r) = refl
opposed_reads_not (equal_second l r) = refl

-- a read stands in front of what has none
in_front : (front back before after : List Deed) (r : Read) (noted : Bool) → front ++ back ≡ before ++ Reads r noted ∷ after → list_any is_read back ≡ false → (rest : List Deed) × (front ≡ before ++ Reads r noted ∷ rest)
in_front [] back before after r noted is none = let never : true ≡ false = sym (any_middle before after r noted) ∙ sym (ap (list_any is_read) is) ∙ none in absurd cc
in_front (d ∷ front) back [] after r noted is none = let same : d ≡ Reads r noted = cc in (front, ap (λ (x : Deed). x ∷ front) same)
in_front (d ∷ front) back (b ∷ before) after r noted is none =
    let same : d ≡ b = cc in
    let more : front ++ back ≡ before ++ Reads r noted ∷ after = cc in
    let it = in_front front back before after r noted more none in
    (it.0, ap (λ (x : Deed). x ∷ front) same ∙ ap (λ (xs : List Deed). b ∷ xs) it.1)

looks_before : (before rest : List Deed) → Looks (before ++ rest) → Looks before
looks_before [] rest h = nothing
looks_before (d ∷ before) rest (reads r noted h) = reads r noted (looks_before before rest h)
looks_before (d ∷ before) rest (follows k h) = follows k (looks_before before rest h)

looks_behind : (before rest : List Deed) → Looks (before ++ rest) → Looks rest
looks_behind [] rest h = h
looks_behind (d ∷ before) rest (reads r noted h) = looks_behind before rest h
looks_behind (d ∷ before) rest (follows k h) = looks_behind before rest h

looks_after : {r : Read} {noted : Bool} {rest : List Deed} → Looks (Reads r noted ∷ rest) → Looks rest
looks_after (reads r noted h) = h

opposed_not_both : (u w : Verdict) → are_opposed u w ≡ true → (is_yes u && is_yes w) ≡ false
opposed_not_both Yes No h = refl
opposed_not_both No Yes h = refl
opposed_not_both Yes Yes h = absurd cc
opposed_not_both Yes Open h = absurd cc
opposed_not_both No No h = absurd cc
opposed_not_both No Open h = absurd cc
opposed_not_both Open w h = absurd cc

in_only : (b : Bool) (x : Entry) → b ≡ false → Has x (only_if (not b) x)
in_only true x h = absurd cc
in_only false x h = first

module _ (k : Knowledge) where
  -- no read leaves nothing
  some_split : (m : Mark) (r : Read) → (s : Step) × Has s (splits k m r)
  some_split m (read.Name e) = by_verdict (verdict m e)
    where
      by_verdict : (u : Verdict) → (s : Step) × Has s (split_by k m e u)
      by_verdict Yes = (step m true, first)
      by_verdict No = (step m false, first)
      by_verdict Open = (step (decided k m e No) false, has_right (only_if (flows k m.site (read.Name e)) (step (decided k m e Yes) true)) first)
  some_split m (read.Deep c f) = (step m false, has_right (only_if (flows k m.site (read.Deep c f)) (step m true)) first)

  -- a touched entry among these
  abbrev pub HasTouched : List Entry → Type 0
  HasTouched xs = (x : Entry) × Has x xs × (x.touched ≡ true)

  read_touched : (r : Read) (noted : Bool) (at : ℕ) (xs : List Entry) → HasTouched xs → HasTouched (turn k (Reads r noted) at xs)
  read_touched r noted at xs h =
      let some = some_split h.0.mark r in
      (read_entry r noted at h.0 some.0, turn_has k (Reads r noted) at xs h.1 (has_map (read_entry r noted at h.0) some.1), or_left h.0.touched some.0.touched h.2)

  looks_touched : (ds : List Deed) → Looks ds → (at : ℕ) (xs : List Entry) → HasTouched xs → HasTouched (turns k ds at xs)
  looks_touched _ nothing at xs h = h
  looks_touched _ (reads r noted {ds} more) at xs h = looks_touched ds more (counted (Reads r noted) at) (turn k (Reads r noted) at xs) (read_touched r noted at xs h)
  looks_touched _ (follows y {ds} more) at xs h = looks_touched ds more at (turn k (Follows y) at xs) (h.0, turn_has k (Follows y) at xs h.1 first, h.2)

  settings_touched : {n : Names} {makes : Bool} (ds : List Deed) → Setting n makes ds → (at : ℕ) (xs : List Entry) → HasTouched xs → HasTouched (turns k ds at xs)
  settings_touched _ no_more at xs h = h
  settings_touched _ (sets_one y v {ds} low made more) at xs h =
      settings_touched ds more at (turn k (Sets y v) at xs) (written_entry k (Sets y v) h.0, turn_has k (Sets y v) at xs h.1 first, h.2)

  quiet_touched : {n : Names} {makes : Bool} (ds : List Deed) → Quiet n makes ds → (at : ℕ) (xs : List Entry) → HasTouched xs → HasTouched (turns k ds at xs)
  quiet_touched _ (settings {ds} more) at xs h = settings_touched ds more at xs h
  quiet_touched _ (puts_one r c f v made) at xs h = (written_entry k (SetsField r c f v) h.0, turn_has k (SetsField r c f v) at xs h.1 first, h.2)

  said_touched : (w : Saying) (at : ℕ) (xs : List Entry) (h : HasTouched xs) → excludes k.names h.0 w ≡ false → HasTouched (turns k (Says w ∷ []) at xs)
  said_touched w at xs h kept = (h.0, turn_has k (Says w) at xs h.1 (in_only (excludes k.names h.0 w) h.0 kept), h.2)

  -- a test drops a touched entry on one way at most
  opposed_touched : {ys zs : List Deed} → Opposed ys zs → (at : ℕ) (xs : List Entry) → HasTouched xs → HasTouched (turns k ys at xs) ⊎ HasTouched (turns k zs at xs)
  opposed_touched silent at xs h = inl h
  opposed_touched (null_first e) at xs h = inr (said_touched (IsntNull e) at xs h refl)
  opposed_touched (null_second e) at xs h = inl (said_touched (IsntNull e) at xs h refl)
  opposed_touched (equal_first l r) at xs h = by_verdicts (are_opposed (looked_verdict h.0.mark h.0.notes.places l) (looked_verdict h.0.mark h.0.notes.places r)) refl
    where
      by_verdicts : (b : Bool) → are_opposed (looked_verdict h.0.mark h.0.notes.places l) (looked_verdict h.0.mark h.0.notes.places r) ≡ b → HasTouched (turns k (Says (AreEqual l r) ∷ []) at xs) ⊎ HasTouched (turns k (Says (Differ l r) ∷ []) at xs)
      by_verdicts false is = inl (said_touched (AreEqual l r) at xs h is)
      by_verdicts true is = inr (said_touched (Differ l r) at xs h (opposed_not_both (looked_verdict h.0.mark h.0.notes.places l) (looked_verdict h.0.mark h.0.notes.places r) is))
  opposed_touched (equal_second l r) at xs h = by_verdicts (are_opposed (looked_verdict h.0.mark h.0.notes.places l) (looked_verdict h.0.mark h.0.notes.places r)) refl
    where
      by_verdicts : (b : Bool) → are_opposed (looked_verdict h.0.mark h.0.notes.places l) (looked_verdict h.0.mark h.0.notes.places r) ≡ b → HasTouched (turns k (Says (Differ l r) ∷ []) at xs) ⊎ HasTouched (turns k (Says (AreEqual l r) ∷ []) at xs)
      by_verdicts false is = inr (said_touched (AreEqual l r) at xs h is)
      by_verdicts true is = inl (said_touched (Differ l r) at xs h (opposed_not_both (looked_verdict h.0.mark h.0.notes.places l) (looked_verdict h.0.mark h.0.notes.places r) is))

  -- a touched post of a mark
  abbrev pub DeedsTouch : List Deed → Mark → Type 0
  DeedsTouch ds m = (s : Step) × Contains (deeds_post k ds m) s × (s.touched ≡ true)

  post_touched : (ds : List Deed) (m : Mark) → HasTouched (turns k ds 0 (first_entry m ∷ [])) → DeedsTouch ds m
  post_touched ds m h = (step_of (last_entry k h.0), post_has k ds m h.1, h.2)

  behind_front : (front back : List Deed) (m : Mark) → HasTouched (turns k back (counted_all k front 0) (turns k front 0 (first_entry m ∷ []))) → DeedsTouch (front ++ back) m
  behind_front front back m h = post_touched (front ++ back) m (subst HasTouched (sym (turns_append k front back 0 (first_entry m ∷ []))) h)

  module _ (p : Program) (names : AreNames p k.graph k.names) (sites : List ℕ) (v : View) (m : Mark) (o : ℕ) (may : MayHolds k.names k.facts.may sites v) (h : Describes k.names sites v m o)
      (before after : List Deed) (r : Read) (noted : Bool) (u : Seen) (does : DoesAll k.names k.graph sites before (first_seen v) u) (meets : Finds k.names k.graph sites u.view r (value.Ptr o)) where
    -- behind the reads
    met_in : (front : List Deed) → Looks front → (rest : List Deed) → front ≡ before ++ Reads r noted ∷ rest → HasTouched (turns k front 0 (first_entry m ∷ []))
    met_in front looks rest is =
        let all : Looks (before ++ Reads r noted ∷ rest) = subst Looks is looks in
        let read = looks_fit p k names sites before (looks_before before (Reads r noted ∷ rest) all) (first_seen v) u 0 (first_entry m ∷ []) (first_entry m) o may does first (first_fits p k names sites v m o h) in
        let at = counted_all k before 0 in
        let xs = turns k before 0 (first_entry m ∷ []) in
        let next = one_read p k names sites u at xs read.0.now o r noted (value.Ptr o) (subst (λ (w : View). MayHolds k.names k.facts.may sites w) (sym read.1) may) read.0.among read.0.fits meets in
        let more = looks_touched rest (looks_after (looks_behind before (Reads r noted ∷ rest) all)) (counted (Reads r noted) at) (turn k (Reads r noted) at xs) (next.0, next.1, next.3 (eq-eqb o o refl)) in
        subst (λ (ds : List Deed). HasTouched (turns k ds 0 (first_entry m ∷ []))) (sym is)
        (subst HasTouched (sym (turns_append k before (Reads r noted ∷ rest) 0 (first_entry m ∷ []))) more)

    -- reads, and then writes
    pub met_quietly : {makes : Bool} (ds : List Deed) → Parts (Quiet k.names makes) ds → ds ≡ before ++ Reads r noted ∷ after → DeedsTouch ds m
    met_quietly ds parts is =
        let there = in_front parts.front parts.back before after r noted (sym parts.is ∙ is) (quiet_reads_not parts.ending) in
        subst (λ (es : List Deed). DeedsTouch es m) (sym parts.is)
        (behind_front parts.front parts.back m (quiet_touched parts.back parts.ending (counted_all k parts.front 0) (turns k parts.front 0 (first_entry m ∷ [])) (met_in parts.front parts.looks there.0 there.1)))

    -- reads, and then a test on one of its ways
    pub met_in_test : (front ys zs : List Deed) → Looks front → Opposed ys zs → front ++ ys ≡ before ++ Reads r noted ∷ after → DeedsTouch (front ++ ys) m ⊎ DeedsTouch (front ++ zs) m
    met_in_test front ys zs looks opposed is =
        let there = in_front front ys before after r noted is (opposed_reads_not opposed) in
        ⊎_elim (λ one. inl (behind_front front ys m one)) (λ two. inr (behind_front front zs m two))
        (opposed_touched opposed (counted_all k front 0) (turns k front 0 (first_entry m ∷ [])) (met_in front looks there.0 there.1))
