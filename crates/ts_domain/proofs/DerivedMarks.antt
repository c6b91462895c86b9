-- The marks of all that is derived: their nodes and sites exist, their sets have room for all expressions, and no expression is in both.
use Rattle.std.proofs.Common.{◌≡◌, ℕ, zero, suc, ◌+◌, ◌<◌, ◌≤◌, ◌&&◌, ⊎_elim, ◌==◌, not, Bool, true, false, eqb, cond, List, [], ◌∷◌, ◌++◌, length, map, fold, option_map, Option, None, Some, refl, sym, ◌∙◌, subst, arith}
use Rattle.std.proofs.lemmas.Bool.{and_parts, cases_eq, eq-eqb, eqb-true, false≢true, or_cases, or_left, or_right}
use Rattle.std.proofs.lemmas.List.Elements.{All-contains}
use Rattle.std.proofs.lemmas.List.Quantifiers.{position-Some}
use Rattle.std.specs.List.{Contains, list_any, range_with_len}
use Rattle.call_contexts.proofs.Has.{Has, first, later, contains_has}
use Rattle.c_graph.specs.declared.graph.Edge.{Edge}
use Rattle.c_graph.specs.declared.graph.Graph.{Graph}
use Rattle.c_graph.specs.declared.graph.Way.{Way}
use Rattle.c_graph.specs.declared.graph.Way.TheVariants as way
use Rattle.c_graph.specs.Ways.{LeadsToNodes}
use Rattle.mf_set.specs.Numbers.{has as has_number, IsAscendingFrom, IsSet}
use Rattle.mf_set.proofs.NumberLaws.{has-filter, IsAscendingFrom-filter}
use Rattle.ts_domain.specs.declared.deed.Deed.{Deed}
use Rattle.ts_domain.specs.declared.deed.Deed.TheVariants.{Reads, Follows, Says, Sets, SetsField}
use Rattle.ts_domain.specs.declared.entry.Entry.{Entry}
use Rattle.ts_domain.specs.declared.facts.Facts.{Facts}
use Rattle.ts_domain.specs.declared.marks.Mark.{Mark}
use Rattle.ts_domain.specs.declared.marks.Step.{Step}
use Rattle.ts_domain.specs.declared.marks.Verdict.{Verdict}
use Rattle.ts_domain.specs.declared.marks.Verdict.TheVariants.{Yes, No, Open}
use Rattle.ts_domain.specs.declared.names.Names.{Names}
use Rattle.ts_domain.specs.declared.names.Read.{Read}
use Rattle.ts_domain.specs.declared.names.Read.TheVariants as read
use Rattle.ts_domain.specs.declared.triples.Triple.{Triple}
use Rattle.ts_domain.specs.Deeds.{edge_deeds, site_of}
use Rattle.ts_domain.specs.Derived.{starts, follows, IsDerived}
use Rattle.ts_domain.specs.Marks.{Knowledge, decided, expressions, flows, is_no, is_yes, marked, only_if, passing, split_by, splits, step, verdict}
use Rattle.ts_domain.specs.MarkWrites.{birth, birth_writes, is_itself, set_verdict, settled, settled_verdict, source_verdict, unborn, written_mark}
use Rattle.ts_domain.specs.Post.{at_edge, born, counted, deed_entries, deeds_post, excludes, first_entry, last_entries, last_entry, leaves_gap, made_site, post, read_entry, step_of, turn, turns, with_entries, with_entry}
use Rattle.ts_domain.specs.SameEntries.{same_entry}

-- a mark of a site that exists, its two sets those of expressions, with none in both
pub record IsShaped (n : Names) (m : Mark) : Type 0 where
  pub site : m.site < length n.sites
  pub holds_room : m.holds.room ≡ expressions n
  pub lacks_room : m.lacks.room ≡ expressions n
  pub holds : IsSet m.holds
  pub lacks : IsSet m.lacks
  pub apart : (e : ℕ) → has_number m.holds.items e ≡ true → has_number m.lacks.items e ≡ false

-- marks that are drawn

range_rises : (a n : ℕ) → IsAscendingFrom a (range_with_len a n)
range_rises a zero = tt
range_rises a (suc n) = let on : suc a ≡ a + 1 = omega arith in (omega arith, subst (λ m. IsAscendingFrom m (range_with_len (a + 1) n)) (sym on) (range_rises (a + 1) n))

range_below : (a n k : ℕ) → has_number (range_with_len a n) k ≡ true → k < a + n
range_below a zero k h = absurd (false≢true h)
range_below a (suc n) k h =
    ⊎_elim
    (λ e. let same : a ≡ k = eqb-true a k e in omega arith)
    (λ e. let below : k < a + 1 + n = range_below (a + 1) n k e in omega arith)
    (or_cases (eqb a k) (has_number (range_with_len (a + 1) n) k) h)

range_from : (a n k : ℕ) → a ≤ k → k < a + n → has_number (range_with_len a n) k ≡ true
range_from a zero k low high = absurd (omega arith)
range_from a (suc n) k low high =
    ⊎_elim
    (λ e. or_left (eqb a k) (has_number (range_with_len (a + 1) n) k) (eq-eqb a k e))
    (λ e. or_right (eqb a k) (has_number (range_with_len (a + 1) n) k) (range_from (a + 1) n k (omega (arith, e)) (omega arith)))
    (cases_eq a k)

pub range_holds : (count k : ℕ) → k < count → has_number (range_with_len 0 count) k ≡ true
range_holds count k below = range_from 0 count k (omega arith) (omega arith)

-- what passes below a count is a set
pub passing_set : (count : ℕ) (test : ℕ → Bool) → IsSet (passing count count test)
passing_set count test = record {
  ascending = IsAscendingFrom-filter test 0 (range_with_len 0 count) (range_rises 0 count);
  below = λ k h.
      let both = and_parts (has_number (range_with_len 0 count) k) (test k) (sym (has-filter test (range_with_len 0 count) k) ∙ h) in
      let below : k < 0 + count = range_below 0 count k both.0 in omega arith;
}

one_verdict : (u : Verdict) → is_yes u ≡ true → is_no u ≡ false
one_verdict Yes e = refl
one_verdict No e = absurd (false≢true e)
one_verdict Open e = refl

and_false : (b c : Bool) → c ≡ false → (b && c) ≡ false
and_false true c e = e
and_false false c e = refl

pub marked_shaped : (n : Names) (site : ℕ) (v : ℕ → Verdict) → site < length n.sites → IsShaped n (marked (expressions n) site v)
marked_shaped n site v inside = record {
  site = inside;
  holds_room = refl;
  lacks_room = refl;
  holds = passing_set (expressions n) (λ e. is_yes (v e));
  lacks = passing_set (expressions n) (λ e. is_no (v e));
  apart = λ e h.
      let range = range_with_len 0 (expressions n) in
      let both = and_parts (has_number range e) (is_yes (v e)) (sym (has-filter (λ d. is_yes (v d)) range e) ∙ h) in
      has-filter (λ d. is_no (v d)) range e ∙ and_false (has_number range e) (is_no (v e)) (one_verdict (v e) both.1);
}

-- all of a list

abbrev Every : {A : Type 0} → (A → Type 0) → List A → Type 0
Every P [] = Unit {0}
Every P (x ∷ xs) = P x × Every P xs

module _ {A : Type 0} (P : A → Type 0) where
  every_has : {x : A} {xs : List A} → Has x xs → Every P xs → P x
  every_has first h = h.0
  every_has (later g) h = every_has g h.1

  every_both : (xs ys : List A) → Every P xs → Every P ys → Every P (xs ++ ys)
  every_both [] ys h k = k
  every_both (x ∷ xs) ys h k = (h.0, every_both xs ys h.1 k)

  every_only : (b : Bool) (x : A) → P x → Every P (only_if b x)
  every_only true x h = (h, tt)
  every_only false x h = tt

module _ {A B : Type 0} (P : A → Type 0) (Q : B → Type 0) where
  every_map : (f : A → B) → ((x : A) → P x → Q (f x)) → (xs : List A) → Every P xs → Every Q (map f xs)
  every_map f on [] h = tt
  every_map f on (x ∷ xs) h = (on x h.0, every_map f on xs h.1)

-- entries keep their site

module _ (P : Entry → Type 0) where
  with_by : (b : Bool) (xs : List Entry) (x : Entry) → Every P xs → P x → Every P (cond b xs (xs ++ x ∷ []))
  with_by true xs x h p = h
  with_by false xs x h p = every_both P xs (x ∷ []) h (p, tt)

  with_one : (xs : List Entry) (x : Entry) → Every P xs → P x → Every P (with_entry xs x)
  with_one xs x h p = with_by (list_any (same_entry x) xs) xs x h p

  with_all : (xs ys : List Entry) → Every P xs → Every P ys → Every P (with_entries xs ys)
  with_all xs [] h k = h
  with_all xs (y ∷ ys) h k = with_all (with_entry xs y) ys (with_one xs y h k.0) k.1

module _ (k : Knowledge) (s : ℕ) where
  abbrev OfSite : Entry → Type 0
  OfSite x = x.mark.site ≡ s

  abbrev StepOfSite : Step → Type 0
  StepOfSite x = x.mark.site ≡ s

  split_name : (m : Mark) (e : ℕ) (u : Verdict) → m.site ≡ s → Every StepOfSite (split_by k m e u)
  split_name m e Yes is = (is, tt)
  split_name m e No is = (is, tt)
  split_name m e Open is =
      every_both StepOfSite (only_if (flows k m.site (read.Name e)) (step (decided k m e Yes) true)) (step (decided k m e No) false ∷ [])
      (every_only StepOfSite (flows k m.site (read.Name e)) (step (decided k m e Yes) true) is) (is, tt)

  split_sites : (m : Mark) (r : Read) → m.site ≡ s → Every StepOfSite (splits k m r)
  split_sites m (read.Name e) is = split_name m e (verdict m e) is
  split_sites m (read.Deep c f) is =
      every_both StepOfSite (only_if (flows k m.site (read.Deep c f)) (step m true)) (step m false ∷ []) (every_only StepOfSite (flows k m.site (read.Deep c f)) (step m true) is) (is, tt)

  set_by : (b : Bool) (m : Mark) (v : ℕ → Verdict) → m.site ≡ s → (cond b m (marked (expressions k.names) m.site v)).site ≡ s
  set_by true m v is = is
  set_by false m v is = is

  written_site : (fresh : Verdict) (notes : List ℕ) (d : Deed) (m : Mark) → m.site ≡ s → (written_mark k fresh notes d m).site ≡ s
  written_site fresh notes (Reads r noted) m is = is
  written_site fresh notes (Follows x) m is = is
  written_site fresh notes (Says w) m is = is
  written_site fresh notes (Sets x v) m is = set_by (is_itself x v) m (set_verdict k.names m x v (source_verdict fresh m notes v)) is
  written_site fresh notes (SetsField b c f v) m is = is

  deed_sites : (d : Deed) (at : ℕ) (x : Entry) → OfSite x → Every OfSite (deed_entries k d at x)
  deed_sites (Reads r noted) at x is = every_map StepOfSite OfSite (read_entry r noted at x) (λ t h. h) (splits k x.mark r) (split_sites x.mark r is)
  deed_sites (Follows y) at x is = (is, tt)
  deed_sites (Says w) at x is = every_only OfSite (not (excludes k.names x w)) x is
  deed_sites (Sets y v) at x is = (written_site No x.notes.places (Sets y v) x.mark is, tt)
  deed_sites (SetsField b c f v) at x is = (written_site No x.notes.places (SetsField b c f v) x.mark is, tt)

  turn_from : (d : Deed) (at : ℕ) (ys xs : List Entry) → Every OfSite ys → Every OfSite xs → Every OfSite (fold (λ zs x. with_entries zs (deed_entries k d at x)) ys xs)
  turn_from d at ys [] h is = h
  turn_from d at ys (x ∷ xs) h is = turn_from d at (with_entries ys (deed_entries k d at x)) xs (with_all OfSite ys (deed_entries k d at x) h (deed_sites d at x is.0)) is.1

  turns_sites : (ds : List Deed) (at : ℕ) (xs : List Entry) → Every OfSite xs → Every OfSite (turns k ds at xs)
  turns_sites [] at xs is = is
  turns_sites (d ∷ ds) at xs is = turns_sites ds (counted d at) (turn k d at xs) (turn_from d at [] xs tt is)

  birth_site : (ds : List Deed) (m : Mark) → m.site ≡ s → (birth_writes k ds m).site ≡ s
  birth_site [] m is = is
  birth_site (d ∷ ds) m is = birth_site ds (written_mark k Yes [] d m) (written_site Yes [] d m is)

-- posts and births

module _ (k : Knowledge) where
  abbrev EntryShaped : Entry → Type 0
  EntryShaped x = IsShaped k.names x.mark

  abbrev StepShaped : Step → Type 0
  StepShaped x = IsShaped k.names x.mark

  settled_shaped : (m : Mark) → m.site < length k.names.sites → IsShaped k.names (settled k m)
  settled_shaped m inside = marked_shaped k.names m.site (settled_verdict k m) inside

  last_from : (s : ℕ) (ys xs : List Entry) → s < length k.names.sites → Every EntryShaped ys → Every (OfSite k s) xs → Every EntryShaped (fold (λ zs x. with_entry zs (last_entry k x)) ys xs)
  last_from s ys [] inside h is = h
  last_from s ys (x ∷ xs) inside h is =
      last_from s (with_entry ys (last_entry k x)) xs inside
      (with_one EntryShaped ys (last_entry k x) h (settled_shaped x.mark (subst (λ t. t < length k.names.sites) (sym is.0) inside))) is.1

  deeds_shaped : (ds : List Deed) (m : Mark) → m.site < length k.names.sites → Every StepShaped (deeds_post k ds m)
  deeds_shaped ds m inside =
      every_map EntryShaped StepShaped step_of (λ x h. h) (last_entries k (turns k ds 0 (first_entry m ∷ [])))
      (last_from m.site [] (turns k ds 0 (first_entry m ∷ [])) inside tt (turns_sites k m.site ds 0 (first_entry m ∷ []) (refl, tt)))

  birth_shaped : (ds : List Deed) (s : ℕ) → s < length k.names.sites → IsShaped k.names (birth k ds s)
  birth_shaped ds s inside =
      let same = birth_site k s ds (unborn k s) refl in
      settled_shaped (birth_writes k ds (unborn k s)) (subst (λ t. t < length k.names.sites) (sym same) inside)

module _ (n : Names) (g : Graph) (f : Facts) where
  post_by : (b : Bool) (e : Edge) (m : Mark) → IsShaped n m → Every (λ (x : Step). IsShaped n x.mark) (cond b (step m false ∷ []) (deeds_post (at_edge n g f e) (edge_deeds n g e) m))
  post_by true e m is = (is, tt)
  post_by false e m is = deeds_shaped (at_edge n g f e) (edge_deeds n g e) m is.site

  post_shaped : (e : Edge) (m : Mark) (x : Step) → IsShaped n m → Contains (post n g f e m) x → IsShaped n x.mark
  post_shaped e m x is c = every_has (λ (y : Step). IsShaped n y.mark) (contains_has (post n g f e m) x c) (post_by (leaves_gap g e) e m is)

  made_at : (s : Option ℕ) (w : Way) (t : ℕ) → made_site s w ≡ Some t → s ≡ Some t
  made_at s way.Made t e = e
  made_at s way.On t e = absurd cc
  made_at s way.True t e = absurd cc
  made_at s way.False t e = absurd cc
  made_at s way.NotMade t e = absurd cc
  made_at s way.Enter t e = absurd cc
  made_at s (way.Leave target) t e = absurd cc

  born_by : (e : Edge) (o : Option ℕ) (m : Mark) → made_site (site_of n e.from) e.way ≡ o → option_map (birth (at_edge n g f e) (edge_deeds n g e)) o ≡ Some m → IsShaped n m
  born_by e None m at is = absurd cc
  born_by e (Some s) m at is =
      let same : birth (at_edge n g f e) (edge_deeds n g e) s ≡ m = cc in
      let inside : s < length n.sites = (position-Some (λ u. u == e.from) n.sites s 0 (made_at (site_of n e.from) e.way s at)).0 in
      subst (IsShaped n) same (birth_shaped (at_edge n g f e) (edge_deeds n g e) s inside)

  born_shaped : (e : Edge) (m : Mark) → born n g f e ≡ Some m → IsShaped n m
  born_shaped e m is = born_by e (made_site (site_of n e.from) e.way) m refl is

  pub derived_mark : (t : Triple) → IsDerived n g f t → IsShaped n t.mark
  derived_mark t (starts u b) = subst (λ (w : Triple). IsShaped n w.mark) (sym b.is) (born_shaped b.edge b.mark b.made)
  derived_mark t (follows s u d next) =
      subst (λ (w : Triple). IsShaped n w.mark) (sym next.is) (post_shaped next.edge s.mark next.step (derived_mark s d) next.goes)

  pub derived_node : LeadsToNodes g → (t : Triple) → IsDerived n g f t → t.node < length g.nodes
  derived_node leads t (starts u b) =
      let inside : b.edge.to < length g.nodes = (All-contains (λ (e : Edge). (e.from < length g.nodes) × (e.to < length g.nodes)) g.edges b.edge leads b.is_edge).1 in
      subst (λ (w : Triple). w.node < length g.nodes) (sym b.is) inside
  derived_node leads t (follows s u d next) =
      let inside : next.edge.to < length g.nodes = (All-contains (λ (e : Edge). (e.from < length g.nodes) × (e.to < length g.nodes)) g.edges next.edge leads next.is_edge).1 in
      subst (λ (w : Triple). w.node < length g.nodes) (sym next.is) inside
