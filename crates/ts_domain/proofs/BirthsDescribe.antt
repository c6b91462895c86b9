-- The mark of an object that is made describes it behind the deeds of its edge.
use Rattle.std.proofs.Common.{◌≡◌, ℕ, ◌+◌, ◌-◌, Bool, true, false, List, [], ◌∷◌, ◌++◌, length, slice_get, Option, Some, None, refl, ap, sym, subst, ◌∙◌, arith}
use Rattle.std.specs.Prelude.{nat_lt, if◌then◌else◌}
use Rattle.c_tree.specs.declared.program.Program.{Program}
use Rattle.c_meaning.specs.declared.value.Value.{Value}
use Rattle.c_meaning.specs.declared.value.Value.TheVariants as value
use Rattle.ts_domain.specs.declared.deed.Deed.{Deed}
use Rattle.ts_domain.specs.declared.deed.Deed.TheVariants.{Sets, SetsField}
use Rattle.ts_domain.specs.declared.deed.Source.{Source}
use Rattle.ts_domain.specs.declared.deed.Source.TheVariants as source
use Rattle.ts_domain.specs.declared.marks.Mark.{Mark}
use Rattle.ts_domain.specs.declared.marks.Verdict.TheVariants.{Yes, No}
use Rattle.ts_domain.specs.declared.names.Names.{Names}
use Rattle.ts_domain.specs.declared.names.Read.{Read}
use Rattle.ts_domain.specs.declared.names.Read.TheVariants as read
use Rattle.ts_domain.specs.Describing.{Describes}
use Rattle.ts_domain.specs.Holding.{IsSite, MayHolds}
use Rattle.ts_domain.specs.Looks.{is_noted_read}
use Rattle.ts_domain.specs.Marks.{Knowledge, expressions}
use Rattle.ts_domain.specs.MarkWrites.{source_verdict, written_mark, birth_writes, unborn, birth}
use Rattle.ts_domain.specs.Views.{AreNames, View, peek, peek_field, field_seen, Seen, first_seen, added, remembered, slot_set, IsFresh, Finds, DoesAll}
use Rattle.ts_domain.proofs.DeedShapes.{Looks, nothing, reads, follows, Setting, no_more, sets_one, Quiet, settings, puts_one, Parts}
use Rattle.ts_domain.proofs.MarksDescribe.{points_not, AreNotes, describes_marked}
use Rattle.ts_domain.proofs.PostsDescribe.{one_more_note, done_split}
use Rattle.ts_domain.proofs.WritesDescribe.{IsTrueThere, IsNewly, source_told, set_describes, put_describes, settled_describes}

module _ (n : Names) (v : View) (o : ℕ) (fresh : IsFresh v o) where
  fresh_field : (f : ℕ) (c : Value) → field_seen v f c ≡ value.Ptr o → ⊥
  fresh_field f value.Undef h = absurd cc
  fresh_field f (value.Int i) h = absurd cc
  fresh_field f value.Null h = absurd cc
  fresh_field f (value.Ptr q) h = fresh.cells q f h

  -- no expression points to what is fresh
  fresh_peek : (e : ℕ) → peek n v e ≡ value.Ptr o → ⊥
  fresh_peek e = by_place (nat_lt e (length n.vars)) (slice_get n.fields (e - length n.vars))
    where
      by_place : (b : Bool) (j : Option (ℕ × ℕ)) → (if b then v.slot e else peek_field v j) ≡ value.Ptr o → ⊥
      by_place true j h = fresh.slots e h
      by_place false None h = absurd cc
      by_place false (Some q) h = fresh_field q.1 (v.slot q.0) h

module _ (p : Program) (k : Knowledge) (names : AreNames p k.graph k.names) (sites : List ℕ) where
  fresh_finds : (v : View) (o : ℕ) → IsFresh v o → (r : Read) (c : Value) → Finds k.names k.graph sites v r c → c ≡ value.Ptr o → ⊥
  fresh_finds v o fresh (read.Name e) c finds is = fresh_peek k.names v o fresh e (finds ∙ is)
  fresh_finds v o fresh (read.Deep d f) c finds is = fresh.cells finds.0 f (finds.2 ∙ is)

  fresh_notes : (found : List Value) (o : ℕ) (c : Value) (b : Bool) → AreNotes [] found o → (c ≡ value.Ptr o → ⊥) → AreNotes [] (added b c found) o
  fresh_notes found o c true old other = one_more_note [] found o (length found) c false old refl (sym (points_not o c other))
  fresh_notes found o c false old other = old

  -- reads meet no pointer to it, and the mark stays
  looks_pass : (ds : List Deed) → Looks ds → (s t : Seen) (m : Mark) (o : ℕ) → IsFresh s.view o → AreNotes [] s.found o → DoesAll k.names k.graph sites ds s t →
      (t.view ≡ s.view) × AreNotes [] t.found o × (birth_writes k ds m ≡ m)
  looks_pass _ nothing s t m o fresh notes does = (ap (λ (z : Seen). z.view) does, subst (λ (z : Seen). AreNotes [] z.found o) (sym does) notes, refl)
  looks_pass _ (reads r noted {ds} looks) s t m o fresh notes does =
      let c = does.1.0 in
      looks_pass ds looks (remembered (is_noted_read r noted) c s) t m o fresh (fresh_notes s.found o c (is_noted_read r noted) notes (fresh_finds s.view o fresh r c does.1.1))
      (subst (λ (z : Seen). DoesAll k.names k.graph sites ds z t) does.1.3 does.2)
  looks_pass _ (follows y {ds} looks) s t m o fresh notes does =
      looks_pass ds looks s t m o fresh notes (subst (λ (z : Seen). DoesAll k.names k.graph sites ds z t) does.1.2 does.2)

  newly_it : (o : ℕ) → length sites ≡ o + 1 → (v : Source) → IsNewly sites Yes o v
  newly_it o last (source.New t) = λ q long. let same : q ≡ o = omega arith in ap (λ (i : ℕ). value.Ptr i) same
  newly_it o last (source.Content l) = tt
  newly_it o last source.Null = tt
  newly_it o last source.Undef = tt

  settings_bear : {makes : Bool} (ds : List Deed) → Setting k.names makes ds → (s t : Seen) (m : Mark) (o : ℕ) → length sites ≡ o + 1 → Describes k.names sites s.view m o → AreNotes [] s.found o → DoesAll k.names k.graph sites ds s t →
      Describes k.names sites t.view (birth_writes k ds m) o
  settings_bear _ no_more s t m o last h notes does = subst (λ (z : Seen). Describes k.names sites z.view m o) (sym does) h
  settings_bear _ (sets_one y v {ds} low made more) s t m o last h notes does =
      let c = does.1.0 in
      let told = source_told p k names sites s m [] o h notes Yes v c (newly_it o last v) does.1.1 in
      settings_bear ds more (slot_set y c s) t (written_mark k Yes [] (Sets y v) m) o last (set_describes p k names sites s m [] o h notes y low v c does.1.1 (source_verdict Yes m [] v) told) notes
      (subst (λ (z : Seen). DoesAll k.names k.graph sites ds z t) does.1.2 does.2)

  quiet_bears : {makes : Bool} (ds : List Deed) → Quiet k.names makes ds → (s t : Seen) (m : Mark) (o : ℕ) → IsTrueThere k sites s.view → length sites ≡ o + 1 → Describes k.names sites s.view m o → AreNotes [] s.found o → DoesAll k.names k.graph sites ds s t →
      Describes k.names sites t.view (birth_writes k ds m) o
  quiet_bears _ (settings {ds} more) s t m o known last h notes does = settings_bear ds more s t m o last h notes does
  quiet_bears _ (puts_one r c f v made) s t m o known last h notes does =
      let it = does.1 in
      let told = source_told p k names sites s m [] o h notes Yes v it.1 (newly_it o last v) it.4 in
      subst (λ (z : Seen). Describes k.names sites z.view (written_mark k Yes [] (SetsField r c f v) m) o) (sym (does.2 ∙ it.6))
      (put_describes p k names sites s.view known m o h r it.0 it.2 c f it.1 (source_verdict Yes m [] v) told it.3)

  writes_append : (ds es : List Deed) (m : Mark) → birth_writes k (ds ++ es) m ≡ birth_writes k es (birth_writes k ds m)
  writes_append [] es m = refl
  writes_append (d ∷ ds) es m = writes_append ds es (written_mark k Yes [] d m)

  -- the new object behind reads and writes
  pub birth_describes : {makes : Bool} (ds : List Deed) → Parts (Quiet k.names makes) ds → (v : View) (t : Seen) (o site : ℕ) → IsTrueThere k sites v → MayHolds k.names k.facts.may sites t.view → IsFresh v o → length sites ≡ o + 1 → IsSite k.names sites o site →
      DoesAll k.names k.graph sites ds (first_seen v) t → Describes k.names sites t.view (birth k ds site) o
  birth_describes ds parts v t o site known may fresh last made does =
      let first_mark = unborn k site in
      let unheld : Describes k.names sites v first_mark o = describes_marked k.names sites v o (expressions k.names) site (λ e. No) made (fresh_peek k.names v o fresh) in
      let both = done_split p k names sites parts.front parts.back (first_seen v) t (subst (λ (es : List Deed). DoesAll k.names k.graph sites es (first_seen v) t) parts.is does) in
      let read = looks_pass parts.front parts.looks (first_seen v) both.0 first_mark o fresh (λ i. refl) both.1 in
      let behind = quiet_bears parts.back parts.ending both.0 t first_mark o (subst (λ (w : View). IsTrueThere k sites w) (sym read.0) known) last (subst (λ (w : View). Describes k.names sites w first_mark o) (sym read.0) unheld) read.1 both.2 in
      let is : birth_writes k ds first_mark ≡ birth_writes k parts.back first_mark =
      ap (λ (es : List Deed). birth_writes k es first_mark) parts.is ∙ writes_append parts.front parts.back first_mark ∙ ap (birth_writes k parts.back) read.2 in
      settled_describes p k names sites t.view (birth_writes k ds first_mark) o may (subst (λ (m : Mark). Describes k.names sites t.view m o) (sym is) behind)
