-- How evaluations go that do deeds: all of them, up to a read that meets a freed object, or up to another fault.
use Rattle.std.proofs.Common.{◌≡◌, ℕ, suc, Bool, true, false, List, [], ◌∷◌, ◌++◌, length, Result, Ok, Err, refl, ap, sym, subst, ◌∙◌, arith}
use Rattle.std.proofs.lemmas.List.{append_assoc, append-nil}
use Rattle.c_meaning.specs.declared.value.Value.{Value}
use Rattle.c_meaning.specs.declared.value.Value.TheVariants as value
use Rattle.c_meaning.specs.declared.machine.Kind.{Kind}
use Rattle.c_meaning.specs.declared.machine.Kind.TheVariants.{UseAfterFree}
use Rattle.c_meaning.specs.declared.machine.Stop.{Stop}
use Rattle.c_meaning.specs.declared.machine.Stop.TheVariants.{Faulted, Excluded}
use Rattle.c_meaning.specs.Eval.{◌>>=◌, is_freed}
use Rattle.c_meaning.specs.Machine.{Store}
use Rattle.c_graph.specs.declared.graph.Graph.{Graph}
use Rattle.ts_domain.specs.declared.deed.Deed.{Deed}
use Rattle.ts_domain.specs.declared.deed.Deed.TheVariants.{Reads, Follows, Says, Sets, SetsField}
use Rattle.ts_domain.specs.declared.names.Names.{Names}
use Rattle.ts_domain.specs.declared.names.Read.{Read}
use Rattle.ts_domain.specs.FreedReads.{IsHarmless}
use Rattle.ts_domain.specs.Looks.{is_noted, is_noted_read, notes}
use Rattle.ts_domain.specs.Views.{view_of, Seen, added, Finds, DoesAll}

-- behind deeds as many contents more are remembered as reads are noted
pub record Remembers (ds : List Deed) (found behind : List Value) : Type 0 where
  pub more : List Value
  pub is : behind ≡ found ++ more
  pub many : length more ≡ notes ds

module _ (n : Names) (g : Graph) (sites : List ℕ) where
  pub done_append : (ds es : List Deed) (s t u : Seen) → DoesAll n g sites ds s t → DoesAll n g sites es t u → DoesAll n g sites (ds ++ es) s u
  done_append [] es s t u a b = subst (λ (x : Seen). DoesAll n g sites es x u) a b
  done_append (d ∷ ds) es s t u a b = (a.0, a.1, done_append ds es a.0 t u a.2 b)

  remembers_more : (b : Bool) (c : Value) (d : Deed) (ds : List Deed) (found behind : List Value) → is_noted d ≡ b → Remembers ds (added b c found) behind → Remembers (d ∷ ds) found behind
  remembers_more true c d ds found behind noted h =
      let long : notes (d ∷ ds) ≡ suc (notes ds) = rw noted refl in
      record { more = c ∷ h.more; is = h.is ∙ append_assoc found (c ∷ []) h.more; many = let many = h.many in omega arith }
  remembers_more false c d ds found behind noted h =
      let long : notes (d ∷ ds) ≡ notes ds = rw noted refl in
      record { more = h.more; is = h.is; many = h.many ∙ sym long }

  remembers_same : (d : Deed) (ds : List Deed) (found found' behind : List Value) → is_noted d ≡ false → found' ≡ found → Remembers ds found' behind → Remembers (d ∷ ds) found behind
  remembers_same d ds found found' behind noted same h =
      remembers_more false value.Undef d ds found behind noted (subst (λ (x : List Value). Remembers ds x behind) same h)

  pub done_remembers : (ds : List Deed) (s t : Seen) → DoesAll n g sites ds s t → Remembers ds s.found t.found
  done_remembers [] s t h = record { more = []; is = ap (λ (x : Seen). x.found) h ∙ sym (append-nil s.found); many = refl }
  done_remembers (Reads r noted ∷ ds) s t h =
      remembers_more (is_noted_read r noted) h.1.0 (Reads r noted) ds s.found t.found refl
      (subst (λ (x : List Value). Remembers ds x t.found) (ap (λ (x : Seen). x.found) h.1.3) (done_remembers ds h.0 t h.2))
  done_remembers (Follows k ∷ ds) s t h = remembers_same (Follows k) ds s.found h.0.found t.found refl (ap (λ (x : Seen). x.found) h.1.2) (done_remembers ds h.0 t h.2)
  done_remembers (Says w ∷ ds) s t h = remembers_same (Says w) ds s.found h.0.found t.found refl (ap (λ (x : Seen). x.found) h.1.1) (done_remembers ds h.0 t h.2)
  done_remembers (Sets k v ∷ ds) s t h = remembers_same (Sets k v) ds s.found h.0.found t.found refl (ap (λ (x : Seen). x.found) h.1.2) (done_remembers ds h.0 t h.2)
  done_remembers (SetsField r c f v ∷ ds) s t h = remembers_same (SetsField r c f v) ds s.found h.0.found t.found refl (ap (λ (x : Seen). x.found) h.1.6) (done_remembers ds h.0 t h.2)

  module _ (s : Store) where
    -- the view of the machine, and what was found
    abbrev pub seen_with : List Value → Seen
    seen_with found = record { view = view_of n s; found = found }

    -- what comes of something that does these deeds, which write nothing, and gives what Q says
    pub data Course (A : Type 0) (Q : A → List Value → Type 0) (ds : List Deed) (found : List Value) : Result A Stop → Type 0 where
      -- all is done
      all_done : (a : A) (behind : List Value) → DoesAll n g sites ds (seen_with found) (seen_with behind) → Q a behind → Course A Q ds found (Ok a)
      -- a read meets a freed object
      meets_freed : (front : List Deed) (r : Read) (noted : Bool) (back : List Deed) (behind : List Value) (o offset : ℕ) → ds ≡ front ++ Reads r noted ∷ back →
          DoesAll n g sites front (seen_with found) (seen_with behind) → Finds n g sites (view_of n s) r (value.Ptr o) → is_freed s.objects o ≡ true → Course A Q ds found (Err (Faulted UseAfterFree offset))
      -- another fault
      faults : (kind : Kind) (offset : ℕ) → IsHarmless kind → Course A Q ds found (Err (Faulted kind offset))
      -- the types exclude it
      is_excluded : Course A Q ds found (Err Excluded)

    module _ {A : Type 0} where
      pub course_weaker : (Q R : A → List Value → Type 0) (ds : List Deed) (found : List Value) (r : Result A Stop) → ((a : A) (behind : List Value) → Remembers ds found behind → Q a behind → R a behind) → Course A Q ds found r → Course A R ds found r
      course_weaker Q R ds found _ h (all_done a behind does q) = all_done a behind does (h a behind (done_remembers ds (seen_with found) (seen_with behind) does) q)
      course_weaker Q R ds found _ h (meets_freed front r noted back behind o offset is does finds freed) = meets_freed front r noted back behind o offset is does finds freed
      course_weaker Q R ds found _ h (faults kind offset harmless) = faults kind offset harmless
      course_weaker Q R ds found _ h is_excluded = is_excluded

      -- behind deeds that were done
      course_behind : (Q : A → List Value → Type 0) (ds es : List Deed) (found behind : List Value) (r : Result A Stop) → DoesAll n g sites ds (seen_with found) (seen_with behind) → Course A Q es behind r → Course A Q (ds ++ es) found r
      course_behind Q ds es found behind _ did (all_done a later does q) = all_done a later (done_append ds es (seen_with found) (seen_with behind) (seen_with later) did does) q
      course_behind Q ds es found behind _ did (meets_freed front r noted back later o offset is does finds freed) =
          meets_freed (ds ++ front) r noted back later o offset (ap (λ (xs : List Deed). ds ++ xs) is ∙ sym (append_assoc ds front (Reads r noted ∷ back)))
          (done_append ds front (seen_with found) (seen_with behind) (seen_with later) did does) finds freed
      course_behind Q ds es found behind _ did (faults kind offset harmless) = faults kind offset harmless
      course_behind Q ds es found behind _ did is_excluded = is_excluded

    -- one thing, and then another
    pub course_then : {A B : Type 0} (Q : A → List Value → Type 0) (R : B → List Value → Type 0) (ds es : List Deed) (found : List Value) (r : Result A Stop) (f : A → Result B Stop) → Course A Q ds found r →
        ((a : A) (behind : List Value) → Remembers ds found behind → Q a behind → Course B R es behind (f a)) → Course B R (ds ++ es) found (r >>= f)
    course_then Q R ds es found _ f (all_done a behind does q) h =
        course_behind R ds es found behind (f a) does (h a behind (done_remembers ds (seen_with found) (seen_with behind) does) q)
    course_then Q R ds es found _ f (meets_freed front r noted back behind o offset is does finds freed) h =
        meets_freed front r noted (back ++ es) behind o offset (ap (λ (xs : List Deed). xs ++ es) is ∙ append_assoc front (Reads r noted ∷ back) es) does finds freed
    course_then Q R ds es found _ f (faults kind offset harmless) h = faults kind offset harmless
    course_then Q R ds es found _ f is_excluded h = is_excluded
