-- What verdicts say of a view, where may facts are true of it: through reads and tests.
use Rattle.std.proofs.Common.{◌≡◌, ◌⊎◌, ⊎_elim, ℕ, ◌+◌, ◌-◌, ◌==◌, ◌&&◌, ◌||◌, Bool, true, false, List, [], ◌∷◌, ◌++◌, length, slice_get, Option, Some, None, refl, ap, sym, subst, ◌∙◌}
use Rattle.std.specs.Prelude.{nat_lt, if◌then◌else◌}
use Rattle.std.specs.List.{filter, list_any, range_with_len}
use Rattle.std.proofs.lemmas.Bool.{and_parts, or_cases, or_left, or_right, eqb-true, eq-eqb}
use Rattle.c_tree.specs.Typing.{has}
use Rattle.c_tree.specs.declared.program.Program.{Program}
use Rattle.c_meaning.specs.declared.value.Value.{Value}
use Rattle.c_meaning.specs.declared.value.Value.TheVariants as value
use Rattle.call_contexts.proofs.Has.{Has, first, later, has_right}
use Rattle.mf_set.specs.Numbers.{Numbers, has as has_number}
use Rattle.ts_domain.specs.declared.deed.Looked.{Looked}
use Rattle.ts_domain.specs.declared.deed.Looked.TheVariants as looked
use Rattle.ts_domain.specs.declared.deed.Saying.{Saying}
use Rattle.ts_domain.specs.declared.deed.Saying.TheVariants.{IsNull, IsntNull, AreEqual, Differ}
use Rattle.ts_domain.specs.declared.marks.Mark.{Mark}
use Rattle.ts_domain.specs.declared.marks.Step.{Step}
use Rattle.ts_domain.specs.declared.marks.Verdict.{Verdict}
use Rattle.ts_domain.specs.declared.marks.Verdict.TheVariants.{Yes, No, Open}
use Rattle.ts_domain.specs.declared.names.Names.{Names}
use Rattle.ts_domain.specs.declared.names.Read.{Read}
use Rattle.ts_domain.specs.declared.names.Read.TheVariants as read
use Rattle.ts_domain.specs.Describing.{Describes}
use Rattle.ts_domain.specs.Holding.{IsSite, MayHolds}
use Rattle.ts_domain.specs.Marks.{Knowledge, verdict, is_yes, is_no, expressions, marked, items_of, sites_to, is_beyond, some_beyond, makes_struct, some_in_field, some_in, flows, only_if, decided, step, split_by, splits}
use Rattle.ts_domain.specs.MarkWrites.{looked_verdict}
use Rattle.ts_domain.specs.May.{flows_to}
use Rattle.ts_domain.specs.Post.{is_held_field, holds_beneath, are_opposed, excludes}
use Rattle.ts_domain.specs.Views.{AreNames, View, peek, peek_field, field_seen, Seen, Finds, LooksAt, IsSo}
use Rattle.ts_domain.proofs.FactsTrue.{peek_low}
use Rattle.ts_domain.proofs.MayTrue.{site_once, site_struct}
use Rattle.ts_domain.proofs.NameLaws.{low_fields}

-- truth values

pub never_true : (b : Bool) → (b ≡ true → ⊥) → b ≡ false
never_true true h = absurd (h refl)
never_true false h = refl

both_false : (a b : Bool) → a ≡ false → b ≡ false → (a || b) ≡ false
both_false true b h g = absurd cc
both_false false b h g = g

three_true : (a b c d e : Bool) → (a ≡ true → d ≡ true) → (c ≡ true → e ≡ true) → (a && b && c) ≡ true → (d && b && e) ≡ true
three_true true true true d e f g h = rw (f refl, g refl) refl
three_true true true false d e f g h = absurd cc
three_true true false c d e f g h = absurd cc
three_true false b c d e f g h = absurd cc

pub any_weaker : {A : Type 0} (f g : A → Bool) → ((x : A) → f x ≡ true → g x ≡ true) → (xs : List A) → list_any f xs ≡ true → list_any g xs ≡ true
any_weaker f g on [] h = absurd cc
any_weaker f g on (x ∷ xs) h = ⊎_elim (λ here. or_left (g x) (list_any g xs) (on x here)) (λ rest. or_right (g x) (list_any g xs) (any_weaker f g on xs rest)) (or_cases (f x) (list_any f xs) h)

pub any_some : {A : Type 0} (f : A → Bool) (xs : List A) → list_any f xs ≡ true → (x : A) × Has x xs × (f x ≡ true)
any_some f [] h = absurd cc
any_some f (x ∷ xs) h = ⊎_elim (λ here. (x, first, here)) (λ rest. let it = any_some f xs rest in (it.0, later it.1, it.2)) (or_cases (f x) (list_any f xs) h)

-- a content that points to an object

abbrev pub is_it : ℕ → Value → Bool
is_it o value.Undef = false
is_it o (value.Int n) = false
is_it o value.Null = false
is_it o (value.Ptr q) = q == o

pub it_points : (o : ℕ) (c : Value) → is_it o c ≡ true → c ≡ value.Ptr o
it_points o value.Undef h = absurd cc
it_points o (value.Int n) h = absurd cc
it_points o value.Null h = absurd cc
it_points o (value.Ptr q) h = ap (λ (i : ℕ). value.Ptr i) (eqb-true q o h)

pub points_it : (o : ℕ) (c : Value) → c ≡ value.Ptr o → is_it o c ≡ true
points_it o c h = ap (is_it o) h ∙ eq-eqb o o refl

pub points_not : (o : ℕ) (c : Value) → (c ≡ value.Ptr o → ⊥) → is_it o c ≡ false
points_not o c h = never_true (is_it o c) (λ is. h (it_points o c is))

pub it_not : (o : ℕ) (c : Value) → is_it o c ≡ false → c ≡ value.Ptr o → ⊥
it_not o c h is = let never : true ≡ false = sym (points_it o c is) ∙ h in absurd cc

-- notes say which contents that were found point to the object
abbrev pub AreNotes : List ℕ → List Value → ℕ → Type 0
AreNotes notes found o = (i : ℕ) → has_number notes i ≡ has (is_it o) (slice_get found i)

-- verdicts and sets

-- what a verdict on a content says of an object
abbrev pub Told : Verdict → Value → ℕ → Type 0
Told Yes c o = c ≡ value.Ptr o
Told No c o = c ≡ value.Ptr o → ⊥
Told Open c o = Unit {0}

kept_passes : (p : ℕ → Bool) (e x : ℕ) (ys : List ℕ) (b : Bool) → p x ≡ b → (has_number ys e ≡ true → p e ≡ true) → has_number (if b then x ∷ ys else ys) e ≡ true → p e ≡ true
kept_passes p e x ys true is rest h = ⊎_elim (λ here. ap p (sym (eqb-true x e here)) ∙ is) rest (or_cases (x == e) (has_number ys e) h)
kept_passes p e x ys false is rest h = rest h

filtered_passes : (p : ℕ → Bool) (e : ℕ) (xs : List ℕ) → has_number (filter p xs) e ≡ true → p e ≡ true
filtered_passes p e [] h = absurd cc
filtered_passes p e (x ∷ xs) h = kept_passes p e x (filter p xs) (p x) refl (filtered_passes p e xs) h

yes_told : (u : Verdict) (c : Value) (o : ℕ) → is_yes u ≡ true → Told u c o → c ≡ value.Ptr o
yes_told Yes c o is h = h
yes_told No c o is h = absurd cc
yes_told Open c o is h = absurd cc

no_told : (u : Verdict) (c : Value) (o : ℕ) → is_no u ≡ true → Told u c o → c ≡ value.Ptr o → ⊥
no_told Yes c o is h = absurd cc
no_told No c o is h = h
no_told Open c o is h = absurd cc

-- a mark that is drawn from true verdicts describes
pub describes_marked : (n : Names) (sites : List ℕ) (v : View) (o count site : ℕ) (w : ℕ → Verdict) → IsSite n sites o site → ((e : ℕ) → Told (w e) (peek n v e) o) → Describes n sites v (marked count site w) o
describes_marked n sites v o count site w made told = record {
  site = made;
  holds = λ e h. yes_told (w e) (peek n v e) o (filtered_passes (λ e. is_yes (w e)) e (range_with_len 0 count) h) (told e);
  lacks = λ e h. no_told (w e) (peek n v e) o (filtered_passes (λ e. is_no (w e)) e (range_with_len 0 count) h) (told e);
}

-- the verdicts of a mark that describes are true
pub verdict_told : (n : Names) (sites : List ℕ) (v : View) (m : Mark) (o : ℕ) → Describes n sites v m o → (e : ℕ) → Told (verdict m e) (peek n v e) o
verdict_told n sites v m o h e = by_sets (has_number m.holds.items e) (has_number m.lacks.items e) refl refl
  where
    by_sets : (a b : Bool) → has_number m.holds.items e ≡ a → has_number m.lacks.items e ≡ b → Told (if a then Yes else if b then No else Open) (peek n v e) o
    by_sets true b is also = h.holds e is
    by_sets false true is also = h.lacks e also
    by_sets false false is also = tt

-- expressions

pub flowing : (t : ℕ) (x : Option Numbers) → has (λ (y : Numbers). has_number y.items t) x ≡ true → has_number (items_of x) t ≡ true
flowing t None h = h
flowing t (Some y) h = h

in_if : {A : Type 0} (b : Bool) (x : A) (ys : List A) → b ≡ true → Has x (only_if b x ++ ys)
in_if true x ys h = first
in_if false x ys h = absurd cc

module _ (p : Program) (k : Knowledge) (names : AreNames p k.graph k.names) (sites : List ℕ) where
  -- flows

  module _ (v : View) (may : MayHolds k.names k.facts.may sites v) (test : List ℕ → Bool) (o t : ℕ) (made : IsSite k.names sites o t) (passes : (ss : List ℕ) → has_number ss t ≡ true → test ss ≡ true) where
    beyond : (base : ℕ → Bool) (b f : ℕ) → v.cell b f ≡ value.Ptr o → ((u : ℕ) → IsSite k.names sites b u → base u ≡ true) → some_beyond k.facts.may base f test ≡ true
    beyond base b f holds based =
        let it = may.cells b f o holds in
        let same = site_once p k.graph k.names names sites o it.0 t it.2 made in
        any_weaker (λ (x : ℕ × ℕ × Numbers). x.0 == it.1 && x.1 == f && has_number x.2.items it.0) (is_beyond base f test)
        (λ x. three_true (x.0 == it.1) (x.1 == f) (has_number x.2.items it.0) (base x.0) (test x.2.items)
        (λ is. ap base (eqb-true x.0 it.1 is) ∙ based it.1 it.3)
        (λ is. passes x.2.items (ap (has_number x.2.items) (sym same) ∙ is)))
        k.facts.may.fields it.4

    in_field : (j : Option (ℕ × ℕ)) → peek_field v j ≡ value.Ptr o → some_in_field k.facts.may test j ≡ true
    in_field None h = absurd cc
    in_field (Some q) h = by_base (v.slot q.0) refl h
      where
        by_base : (w : Value) → v.slot q.0 ≡ w → field_seen v q.1 w ≡ value.Ptr o → some_beyond k.facts.may (flows_to k.facts.may q.0) q.1 test ≡ true
        by_base value.Undef at e = absurd cc
        by_base (value.Int i) at e = absurd cc
        by_base value.Null at e = absurd cc
        by_base (value.Ptr b) at e = beyond (flows_to k.facts.may q.0) b q.1 e (λ u is.
            let base = may.slots q.0 b at in
            ap (flows_to k.facts.may q.0) (site_once p k.graph k.names names sites b u base.0 is base.1) ∙ base.2)

    in_name : (e : ℕ) (b : Bool) (j : Option (ℕ × ℕ)) → (if b then v.slot e else peek_field v j) ≡ value.Ptr o → (if b then test (sites_to k.facts.may e) else some_in_field k.facts.may test (if b then None else j)) ≡ true
    in_name e true j h =
        let it = may.slots e o h in
        let same = site_once p k.graph k.names names sites o it.0 t it.1 made in
        passes (sites_to k.facts.may e) (ap (has_number (sites_to k.facts.may e)) (sym same) ∙ flowing it.0 (slice_get k.facts.may.vars e) it.2)
    in_name e false j h = in_field j h

    -- the site of an object flows to what a read finds
    pub finds_some : (r : Read) → Finds k.names k.graph sites v r (value.Ptr o) → some_in k test r ≡ true
    finds_some (read.Name e) h = in_name e (nat_lt e (length k.names.vars)) (slice_get k.names.fields (e - length k.names.vars)) h
    finds_some (read.Deep c f) h = beyond (makes_struct k.names k.graph c) h.0 f h.2
        (λ u is. ap (has (λ (d : ℕ). d == c)) (site_struct p k.graph k.names names sites h.0 u c is h.1) ∙ eq-eqb c c refl)

  -- a mark that describes what its view has

  module _ (v : View) (m : Mark) (o : ℕ) (h : Describes k.names sites v m o) where
    told_at : (e : ℕ) → Told (verdict m e) (peek k.names v e) o
    told_at e = verdict_told k.names sites v m o h e

    pub flows_found : MayHolds k.names k.facts.may sites v → (r : Read) → Finds k.names k.graph sites v r (value.Ptr o) → flows k m.site r ≡ true
    flows_found may r finds = finds_some v may (λ ss. has_number ss m.site) o m.site h.site (λ ss is. is) r finds

    -- reads

    decided_describes : (e : ℕ) (u : Verdict) → Told u (peek k.names v e) o → Describes k.names sites v (decided k m e u) o
    decided_describes e u told = describes_marked k.names sites v o (expressions k.names) m.site (λ d. if d == e then u else verdict m d) h.site (λ d. by_place d (d == e) refl)
      where
        by_place : (d : ℕ) (b : Bool) → (d == e) ≡ b → Told (if b then u else verdict m d) (peek k.names v d) o
        by_place d true is = subst (λ (i : ℕ). Told u (peek k.names v i) o) (sym (eqb-true d e is)) told
        by_place d false is = told_at d

    -- the way in which a read came out
    pub record CameOut (r : Read) (c : Value) : Type 0 where
      pub way : Step
      pub among : Has way (splits k m r)
      pub describes : Describes k.names sites v way.mark o
      pub touched : way.touched ≡ is_it o c

    pub split_found : MayHolds k.names k.facts.may sites v → (r : Read) (c : Value) → Finds k.names k.graph sites v r c → CameOut r c
    split_found may (read.Name e) c finds =
        let it = by_verdict (verdict m e) (told_at e) in
        record { way = it.0; among = it.1; describes = it.2; touched = it.3 }
      where
        by_object : (b : Bool) → is_it o c ≡ b → (s : Step) × Has s (split_by k m e Open) × Describes k.names sites v s.mark o × (s.touched ≡ is_it o c)
        by_object true is =
            let points : peek k.names v e ≡ value.Ptr o = finds ∙ it_points o c is in
            (step (decided k m e Yes) true, in_if (flows k m.site (read.Name e)) (step (decided k m e Yes) true) (step (decided k m e No) false ∷ []) (flows_found may (read.Name e) points), decided_describes e Yes points, sym is)
        by_object false is =
            (step (decided k m e No) false, has_right (only_if (flows k m.site (read.Name e)) (step (decided k m e Yes) true)) first, decided_describes e No (λ points. it_not o c is (sym finds ∙ points)), sym is)

        by_verdict : (u : Verdict) → Told u (peek k.names v e) o → (s : Step) × Has s (split_by k m e u) × Describes k.names sites v s.mark o × (s.touched ≡ is_it o c)
        by_verdict Yes told = (step m true, first, h, sym (points_it o c (sym finds ∙ told)))
        by_verdict No told = (step m false, first, h, sym (points_not o c (λ points. told (finds ∙ points))))
        by_verdict Open told = by_object (is_it o c) refl
    split_found may (read.Deep d f) c finds = by_object (is_it o c) refl
      where
        by_object : (b : Bool) → is_it o c ≡ b → CameOut (read.Deep d f) c
        by_object true is = record {
          way = step m true;
          among = in_if (flows k m.site (read.Deep d f)) (step m true) (step m false ∷ []) (flows_found may (read.Deep d f) (finds.0, finds.1, finds.2 ∙ it_points o c is));
          describes = h;
          touched = sym is;
        }
        by_object false is = record {
          way = step m false;
          among = has_right (only_if (flows k m.site (read.Deep d f)) (step m true)) first;
          describes = h;
          touched = sym is;
        }

  module _ (s : Seen) (m : Mark) (notes : List ℕ) (o : ℕ) (h : Describes k.names sites s.view m o) (noted : AreNotes notes s.found o) where
    pub looked_told : (l : Looked) (c : Value) → LooksAt k.names k.graph sites s l c → Told (looked_verdict m notes l) c o
    looked_told (looked.Name e) c at = subst (λ (w : Value). Told (verdict m e) w o) at (verdict_told k.names sites s.view m o h e)
    looked_told (looked.Deep d f note) c at = by_note (has_number notes note) (noted note ∙ ap (has (is_it o)) at.0)
      where
        by_note : (b : Bool) → b ≡ is_it o c → Told (if b then Yes else No) c o
        by_note true is = it_points o c (sym is)
        by_note false is = it_not o c (sym is)

    -- tests

    unopposed : (u w : Verdict) (c : Value) → Told u c o → Told w c o → are_opposed u w ≡ false
    unopposed Yes No c one two = absurd (two one)
    unopposed No Yes c one two = absurd (one two)
    unopposed Yes Yes c one two = refl
    unopposed Yes Open c one two = refl
    unopposed No No c one two = refl
    unopposed No Open c one two = refl
    unopposed Open w c one two = refl

    not_both : (u w : Verdict) (c d : Value) → Told u c o → Told w d o → (c ≡ d → ⊥) → (is_yes u && is_yes w) ≡ false
    not_both Yes Yes c d one two apart = absurd (apart (one ∙ sym two))
    not_both Yes No c d one two apart = refl
    not_both Yes Open c d one two apart = refl
    not_both No w c d one two apart = refl
    not_both Open w c d one two apart = refl

    no_field : (x e : ℕ) (b : Bool) (j : Option (ℕ × ℕ)) → slice_get k.names.fields (e - length k.names.vars) ≡ j → peek k.names s.view x ≡ value.Null →
        has (λ (q : ℕ × ℕ). q.0 == x && has_number m.holds.items e) (if b then None else j) ≡ true → (has_number m.holds.items e ≡ true → (if b then s.view.slot e else peek_field s.view j) ≡ value.Ptr o) → ⊥
    no_field x e true j at null is holds = absurd cc
    no_field x e false None at null is holds = absurd cc
    no_field x e false (Some q) at null is holds =
        let both = and_parts (q.0 == x) (has_number m.holds.items e) is in
        let low = low_fields p k.graph k.names names (e - length k.names.vars) q at in
        let slot : s.view.slot q.0 ≡ value.Null = sym (peek_low k.names s.view q.0 low) ∙ ap (peek k.names s.view) (eqb-true q.0 x both.0) ∙ null in
        let points : value.Undef ≡ value.Ptr o = sym (ap (field_seen s.view q.1) slot) ∙ holds both.1 in
        absurd cc

    -- an entry that describes is not excluded by what is so
    pub not_excluded : (touched : Bool) (w : Saying) → IsSo k.names k.graph sites s w → excludes k.names (record { mark = m; touched = touched; notes = record { places = notes } }) w ≡ false
    not_excluded touched (IsNull x) so =
        both_false (has_number m.holds.items x) (holds_beneath k.names m x)
        (never_true (has_number m.holds.items x) (λ is. let never : value.Null ≡ value.Ptr o = sym so ∙ h.holds x is in absurd cc))
        (never_true (holds_beneath k.names m x) (λ is.
        let it = any_some (is_held_field k.names m x) (range_with_len 0 (expressions k.names)) is in
        no_field x it.0 (nat_lt it.0 (length k.names.vars)) (slice_get k.names.fields (it.0 - length k.names.vars)) refl so it.2 (h.holds it.0)))
    not_excluded touched (IsntNull x) so = refl
    not_excluded touched (AreEqual l r) so = unopposed (looked_verdict m notes l) (looked_verdict m notes r) so.0 (looked_told l so.0 so.1) (looked_told r so.0 so.2)
    not_excluded touched (Differ l r) so = not_both (looked_verdict m notes l) (looked_verdict m notes r) so.0 so.1 (looked_told l so.0 so.2) (looked_told r so.1 so.3) so.4
