-- Behind deeds some post describes the object that a mark described before them.
use Rattle.std.proofs.Common.{◌≡◌, ℕ, zero, suc, ◌+◌, ◌==◌, ◌&&◌, ◌||◌, Bool, true, false, not, List, [], ◌∷◌, ◌++◌, length, slice_get, Some, refl, ap, sym, subst, ◌∙◌, arith}
use Rattle.std.specs.Prelude.{if◌then◌else◌}
use Rattle.std.specs.List.{Contains, list_any}
use Rattle.std.proofs.lemmas.Bool.{or_right, eqb-true, eqb-false, eq-eqb, ne_eqb}
use Rattle.std.proofs.lemmas.List.{length-append}
use Rattle.std.proofs.lemmas.Option.{slice_get_past}
use Rattle.c_tree.specs.Typing.{has}
use Rattle.c_tree.specs.declared.program.Program.{Program}
use Rattle.c_meaning.specs.declared.value.Value.{Value}
use Rattle.c_meaning.specs.declared.value.Value.TheVariants as value
use Rattle.call_contexts.proofs.Has.{Has, first, has_map, get_right}
use Rattle.mf_set.specs.Numbers.{has as has_number}
use Rattle.ts_domain.specs.declared.deed.Deed.{Deed}
use Rattle.ts_domain.specs.declared.deed.Deed.TheVariants.{Reads, Follows, Says, Sets, SetsField}
use Rattle.ts_domain.specs.declared.deed.Saying.{Saying}
use Rattle.ts_domain.specs.declared.deed.Source.{Source}
use Rattle.ts_domain.specs.declared.deed.Source.TheVariants as source
use Rattle.ts_domain.specs.declared.entry.Entry.{Entry}
use Rattle.ts_domain.specs.declared.marks.Mark.{Mark}
use Rattle.ts_domain.specs.declared.marks.Step.{Step}
use Rattle.ts_domain.specs.declared.marks.Verdict.TheVariants.{No}
use Rattle.ts_domain.specs.declared.names.Names.{Names}
use Rattle.ts_domain.specs.declared.names.Read.{Read}
use Rattle.ts_domain.specs.Describing.{Describes}
use Rattle.ts_domain.specs.Holding.{MayHolds}
use Rattle.ts_domain.specs.Looks.{is_noted_read}
use Rattle.ts_domain.specs.Marks.{Knowledge, only_if}
use Rattle.ts_domain.specs.MarkWrites.{source_verdict}
use Rattle.ts_domain.specs.Post.{entry, notes_with, read_entry, excludes, written_entry, turn, turns, first_entry, last_entry, step_of, deeds_post}
use Rattle.ts_domain.specs.Views.{AreNames, View, Seen, first_seen, remembered, slot_set, Finds, DoesAll}
use Rattle.ts_domain.proofs.DeedShapes.{Looks, nothing, reads, follows, IsMadeBy, Setting, no_more, sets_one, Quiet, settings, puts_one, Opposed, silent, null_first, null_second, equal_first, equal_second, Parts}
use Rattle.ts_domain.proofs.EntryLists.{turn_has, counted_all, turns_append, post_has}
use Rattle.ts_domain.proofs.MarksDescribe.{is_it, AreNotes, CameOut, split_found, not_excluded}
use Rattle.ts_domain.proofs.WritesDescribe.{IsTrueThere, IsNewly, source_told, set_describes, put_describes, settled_describes}

-- notes

any_last : (p : ℕ → Bool) (xs : List ℕ) (x : ℕ) → p x ≡ true → list_any p (xs ++ x ∷ []) ≡ true
any_last p [] x is = ap (λ (b : Bool). b || false) is
any_last p (y ∷ xs) x is = by_first (p y) (any_last p xs x is)
  where
    by_first : (b : Bool) → list_any p (xs ++ x ∷ []) ≡ true → (b || list_any p (xs ++ x ∷ [])) ≡ true
    by_first true h = refl
    by_first false h = h

any_without : (p : ℕ → Bool) (xs : List ℕ) (x : ℕ) → p x ≡ false → list_any p (xs ++ x ∷ []) ≡ list_any p xs
any_without p [] x is = ap (λ (b : Bool). b || false) is
any_without p (y ∷ xs) x is = ap (λ (b : Bool). p y || b) (any_without p xs x is)

get_other : {A : Type 0} (xs : List A) (c : A) (i : ℕ) → (i ≡ length xs → ⊥) → slice_get (xs ++ c ∷ []) i ≡ slice_get xs i
get_other [] c zero other = absurd (other refl)
get_other [] c (suc i) other = refl
get_other (x ∷ xs) c zero other = refl
get_other (x ∷ xs) c (suc i) other = get_other xs c i (λ same. let on : suc i ≡ length (x ∷ xs) = omega arith in other on)

get_last : {A : Type 0} (xs : List A) (c : A) → slice_get (xs ++ c ∷ []) (length xs) ≡ Some c
get_last xs c = let same : length xs ≡ length xs + 0 = omega arith in ap (slice_get (xs ++ c ∷ [])) same ∙ get_right xs (c ∷ []) 0

pub one_more_note : (notes : List ℕ) (found : List Value) (o at : ℕ) (c : Value) (touched : Bool) → ((i : ℕ) → has_number notes i ≡ has (is_it o) (slice_get found i)) → length found ≡ at → touched ≡ is_it o c →
    (i : ℕ) → has_number (notes_with notes at touched) i ≡ has (is_it o) (slice_get (found ++ c ∷ []) i)
one_more_note notes found o at c touched old count is i = by_place (at == i) refl
  where
    here : (t : Bool) → t ≡ is_it o c → at ≡ i → has_number (notes_with notes at t) i ≡ is_it o c
    here true is same = any_last (λ m. m == i) notes at (eq-eqb at i same) ∙ is
    here false is same = old i ∙ ap (has (is_it o)) (slice_get_past found i (let same_place = same in let many = count in omega arith)) ∙ is

    there : (t : Bool) → (at ≡ i → ⊥) → has_number (notes_with notes at t) i ≡ has_number notes i
    there true other = any_without (λ m. m == i) notes at (ne_eqb at i other)
    there false other = refl

    by_place : (b : Bool) → (at == i) ≡ b → has_number (notes_with notes at touched) i ≡ has (is_it o) (slice_get (found ++ c ∷ []) i)
    by_place true e =
        let same = eqb-true at i e in
        here touched is same ∙ sym (ap (has (is_it o)) (ap (slice_get (found ++ c ∷ [])) (sym same ∙ sym count) ∙ get_last found c))
    by_place false e =
        let other = eqb-false at i e in
        there touched other ∙ old i ∙ sym (ap (has (is_it o)) (get_other found c i (λ same. other (sym count ∙ sym same))))

-- an edge's deeds end with writes, or with what a test says
pub data Ends (n : Names) (makes : Bool) : List Deed → Type 0 where
  quietly : {ds : List Deed} → Quiet n makes ds → Ends n makes ds
  saying : (w : Saying) → Ends n makes (Says w ∷ [])

pub first_ends : {n : Names} {makes : Bool} {xs ys : List Deed} → Opposed xs ys → Ends n makes xs
first_ends silent = quietly (settings no_more)
first_ends (null_first k) = saying _
first_ends (null_second k) = saying _
first_ends (equal_first l r) = saying _
first_ends (equal_second l r) = saying _

pub second_ends : {n : Names} {makes : Bool} {xs ys : List Deed} → Opposed xs ys → Ends n makes ys
second_ends silent = quietly (settings no_more)
second_ends (null_first k) = saying _
second_ends (null_second k) = saying _
second_ends (equal_first l r) = saying _
second_ends (equal_second l r) = saying _

module _ (p : Program) (k : Knowledge) (names : AreNames p k.graph k.names) (sites : List ℕ) where
  -- an entry behind some deeds that describes an object in what is seen there
  pub record FitsSeen (s : Seen) (at : ℕ) (x : Entry) (o : ℕ) : Type 0 where
    pub mark : Describes k.names sites s.view x.mark o
    pub notes : AreNotes x.notes.places s.found o
    pub count : length s.found ≡ at

  pub first_fits : (v : View) (m : Mark) (o : ℕ) → Describes k.names sites v m o → FitsSeen (first_seen v) 0 (first_entry m) o
  first_fits v m o h = record { mark = h; notes = λ i. refl; count = refl }

  pub done_split : (ds es : List Deed) (s t : Seen) → DoesAll k.names k.graph sites (ds ++ es) s t → (u : Seen) × DoesAll k.names k.graph sites ds s u × DoesAll k.names k.graph sites es u t
  done_split [] es s t h = (s, refl, h)
  done_split (d ∷ ds) es s t h = let it = done_split ds es h.0 t h.2 in (it.0, (h.0, h.1, it.1), it.2)

  -- reads

  read_fits : (s : Seen) (at : ℕ) (x : Entry) (o : ℕ) (r : Read) (c : Value) (h : FitsSeen s at x o) (came : CameOut p k names sites s.view x.mark o h.mark r c) (noted b : Bool) → is_noted_read r noted ≡ b →
      FitsSeen (remembered b c s) (if b then at + 1 else at) (entry came.way.mark (x.touched || came.way.touched) (notes_with x.notes.places at (b && came.way.touched))) o
  read_fits s at x o r c h came noted true is = record {
    mark = came.describes;
    notes = one_more_note x.notes.places s.found o at c came.way.touched h.notes h.count came.touched;
    count = length-append s.found (c ∷ []) ∙ ap (λ (i : ℕ). i + 1) h.count;
  }
  read_fits s at x o r c h came noted false is = record { mark = came.describes; notes = h.notes; count = h.count }

  -- an entry that fits behind more deeds
  pub record StillFits (ds : List Deed) (at : ℕ) (xs : List Entry) (t : Seen) (o : ℕ) : Type 0 where
    pub now : Entry
    pub among : Has now (turns k ds at xs)
    pub fits : FitsSeen t (counted_all k ds at) now o

  pub one_read : (s : Seen) (at : ℕ) (xs : List Entry) (x : Entry) (o : ℕ) (r : Read) (noted : Bool) (c : Value) → MayHolds k.names k.facts.may sites s.view → Has x xs → (h : FitsSeen s at x o) → Finds k.names k.graph sites s.view r c →
      (y : Entry) × Has y (turn k (Reads r noted) at xs) × FitsSeen (remembered (is_noted_read r noted) c s) (if is_noted_read r noted then at + 1 else at) y o × (is_it o c ≡ true → y.touched ≡ true)
  one_read s at xs x o r noted c may among h finds =
      let came = split_found p k names sites s.view x.mark o h.mark may r c finds in (
        read_entry r noted at x came.way,
        turn_has k (Reads r noted) at xs among (has_map (read_entry r noted at x) came.among),
        read_fits s at x o r c h came noted (is_noted_read r noted) refl,
        λ is. or_right x.touched came.way.touched (came.touched ∙ is),
      )

  pub looks_fit : (ds : List Deed) → Looks ds → (s t : Seen) (at : ℕ) (xs : List Entry) (x : Entry) (o : ℕ) → MayHolds k.names k.facts.may sites s.view → DoesAll k.names k.graph sites ds s t → Has x xs → FitsSeen s at x o →
      StillFits ds at xs t o × (t.view ≡ s.view)
  looks_fit _ nothing s t at xs x o may does among h = (record { now = x; among = among; fits = subst (λ (z : Seen). FitsSeen z at x o) (sym does) h }, ap (λ (z : Seen). z.view) does)
  looks_fit _ (reads r noted {ds} looks) s t at xs x o may does among h =
      let c = does.1.0 in
      let next = one_read s at xs x o r noted c may among h does.1.1 in
      let rest = looks_fit ds looks (remembered (is_noted_read r noted) c s) t (if is_noted_read r noted then at + 1 else at) (turn k (Reads r noted) at xs) next.0 o may
      (subst (λ (z : Seen). DoesAll k.names k.graph sites ds z t) does.1.3 does.2) next.1 next.2 in
      (record { now = rest.0.now; among = rest.0.among; fits = rest.0.fits }, rest.1)
  looks_fit _ (follows y {ds} looks) s t at xs x o may does among h =
      let rest = looks_fit ds looks s t at (turn k (Follows y) at xs) x o may
      (subst (λ (z : Seen). DoesAll k.names k.graph sites ds z t) does.1.2 does.2) (turn_has k (Follows y) at xs among first) h in
      (record { now = rest.0.now; among = rest.0.among; fits = rest.0.fits }, rest.1)

  -- writes

  -- an object that is new is another than one that is older
  newly_other : (makes : Bool) (o : ℕ) → (makes ≡ true → length sites ≡ o + 1 → ⊥) → (v : Source) → IsMadeBy makes v → IsNewly sites No o v
  newly_other makes o older (source.New t) is = λ q long same. let objects : q ≡ o = pointer_is q o same in older is (long ∙ ap (λ (i : ℕ). i + 1) objects)
    where
      pointer_is : (a b : ℕ) → value.Ptr a ≡ value.Ptr b → a ≡ b
      pointer_is a b e = cc
  newly_other makes o older (source.Content l) is = tt
  newly_other makes o older source.Null is = tt
  newly_other makes o older source.Undef is = tt

  settings_fit : (makes : Bool) (ds : List Deed) → Setting k.names makes ds → (s t : Seen) (at : ℕ) (xs : List Entry) (x : Entry) (o : ℕ) → (makes ≡ true → length sites ≡ o + 1 → ⊥) → DoesAll k.names k.graph sites ds s t → Has x xs → FitsSeen s at x o →
      StillFits ds at xs t o
  settings_fit makes _ no_more s t at xs x o older does among h = record { now = x; among = among; fits = subst (λ (z : Seen). FitsSeen z at x o) (sym does) h }
  settings_fit makes _ (sets_one y v {ds} low made more) s t at xs x o older does among h =
      let c = does.1.0 in
      let told = source_told p k names sites s x.mark x.notes.places o h.mark h.notes No v c (newly_other makes o older v made) does.1.1 in
      let mark = set_describes p k names sites s x.mark x.notes.places o h.mark h.notes y low v c does.1.1 (source_verdict No x.mark x.notes.places v) told in
      let rest = settings_fit makes ds more (slot_set y c s) t at (turn k (Sets y v) at xs) (written_entry k (Sets y v) x) o older
      (subst (λ (z : Seen). DoesAll k.names k.graph sites ds z t) does.1.2 does.2) (turn_has k (Sets y v) at xs among first)
      (record { mark = mark; notes = h.notes; count = h.count }) in
      record { now = rest.now; among = rest.among; fits = rest.fits }

  if_not : (b : Bool) (x : Entry) → b ≡ false → Has x (only_if (not b) x)
  if_not true x h = absurd cc
  if_not false x h = first

  ends_fit : (makes : Bool) (ds : List Deed) → Ends k.names makes ds → (s t : Seen) (at : ℕ) (xs : List Entry) (x : Entry) (o : ℕ) → IsTrueThere k sites s.view → (makes ≡ true → length sites ≡ o + 1 → ⊥) → DoesAll k.names k.graph sites ds s t → Has x xs → FitsSeen s at x o →
      StillFits ds at xs t o
  ends_fit makes _ (quietly (settings {ds} more)) s t at xs x o known older does among h = settings_fit makes ds more s t at xs x o older does among h
  ends_fit makes _ (quietly (puts_one r c f v made)) s t at xs x o known older does among h =
      let it = does.1 in
      let told = source_told p k names sites s x.mark x.notes.places o h.mark h.notes No v it.1 (newly_other makes o older v made) it.4 in
      let mark = put_describes p k names sites s.view known x.mark o h.mark r it.0 it.2 c f it.1 (source_verdict No x.mark x.notes.places v) told it.3 in
      record {
        now = written_entry k (SetsField r c f v) x;
        among = turn_has k (SetsField r c f v) at xs among first;
        fits = subst (λ (z : Seen). FitsSeen z at (written_entry k (SetsField r c f v) x) o) (sym (does.2 ∙ it.6)) (record { mark = mark; notes = h.notes; count = h.count });
      }
  ends_fit makes _ (saying w) s t at xs x o known older does among h =
      let kept = not_excluded p k names sites s x.mark x.notes.places o h.mark h.notes x.touched w does.1.0 in
      record {
        now = x;
        among = turn_has k (Says w) at xs among (if_not (excludes k.names x w) x kept);
        fits = subst (λ (z : Seen). FitsSeen z at x o) (sym (does.2 ∙ does.1.1)) h;
      }

  -- behind reads, and then writes or what a test says
  pub deeds_describe : (makes : Bool) (ds : List Deed) → Parts (Ends k.names makes) ds → (v : View) (t : Seen) (m : Mark) (o : ℕ) → IsTrueThere k sites v → MayHolds k.names k.facts.may sites t.view → Describes k.names sites v m o → (makes ≡ true → length sites ≡ o + 1 → ⊥) →
      DoesAll k.names k.graph sites ds (first_seen v) t → (s : Step) × Contains (deeds_post k ds m) s × Describes k.names sites t.view s.mark o
  deeds_describe makes ds parts v t m o known may h older does =
      let both = done_split parts.front parts.back (first_seen v) t (subst (λ (es : List Deed). DoesAll k.names k.graph sites es (first_seen v) t) parts.is does) in
      let read = looks_fit parts.front parts.looks (first_seen v) both.0 0 (first_entry m ∷ []) (first_entry m) o known.may both.1 first (first_fits v m o h) in
      let still = ends_fit makes parts.back parts.ending both.0 t (counted_all k parts.front 0) (turns k parts.front 0 (first_entry m ∷ [])) read.0.now o
      (subst (λ (w : View). IsTrueThere k sites w) (sym read.1) known) older both.2 read.0.among read.0.fits in
      let among : Has still.now (turns k ds 0 (first_entry m ∷ [])) =
      subst (λ (es : List Deed). Has still.now (turns k es 0 (first_entry m ∷ []))) (sym parts.is)
      (subst (λ (es : List Entry). Has still.now es) (sym (turns_append k parts.front parts.back 0 (first_entry m ∷ []))) still.among) in
      (step_of (last_entry k still.now), post_has k ds m among, settled_describes p k names sites t.view still.now.mark o may still.fits.mark)
