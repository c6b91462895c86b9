-- The marks of triples, in the order of their lines, make the certificate of a choice.
use Rattle.std.proofs.Common.{◌≡◌, ℕ, zero, suc, ◌<◌, ◌&&◌, ◌||◌, nat_lt, cond, not, Bool, true, false, List, [], ◌∷◌, length, map, slice_get, Option, None, Some, refl, ap, sym, ◌∙◌, subst, arith}
use Rattle.std.proofs.lemmas.Bool.{and_from, eq-eqb, lt-ltb, false≢true}
use Rattle.std.proofs.lemmas.List.Sorted.{Contains-permutation, IsPermutation-sym}
use Rattle.std.proofs.lemmas.Option.{slice_get_within}
use Rattle.std.specs.List.{Contains, dedup, find, list_all, list_any, range_with_len}
use Rattle.std.specs.List.Sorted.{IsPermutation, IsSorted}
use Rattle.std.specs.Option.{is_some}
use Rattle.std.specs.Ordering.{is_lt}
use Rattle.std.specs.declared.cmp.Ordering.TheVariants.{Less, Equal}
use Rattle.c_tree.specs.Typing.{has}
use Rattle.c_tree.specs.declared.choice.Choice.{Choice}
use Rattle.c_tree.specs.declared.choice.Put.{Put}
use Rattle.c_graph.specs.declared.graph.Graph.{Graph}
use Rattle.c_graph.specs.Ways.{LeadsToNodes}
use Rattle.mf_set.specs.Numbers.{Numbers, first_common, has as has_number}
use Rattle.mf_set.proofs.NumberLaws.{find_none, has-filter}
use Rattle.ts_domain.specs.declared.facts.Facts.{Facts}
use Rattle.ts_domain.specs.declared.facts.May.{May}
use Rattle.ts_domain.specs.declared.facts.Path.{Path}
use Rattle.ts_domain.specs.declared.names.Names.{Names}
use Rattle.ts_domain.specs.declared.triples.Derived.{Derived}
use Rattle.ts_domain.specs.declared.triples.Triple.{Triple}
use Rattle.ts_domain.specs.Chosen.{has_put, is_chosen}
use Rattle.ts_domain.specs.Derived.{AreDerived}
use Rattle.ts_domain.specs.Marks.{expressions, meets, passing}
use Rattle.ts_domain.specs.May.{IsMay}
use Rattle.ts_domain.specs.Path.{IsPath}
use Rattle.ts_domain.proofs.DerivedMarks.{derived_mark, derived_node, range_holds, IsShaped}
use Rattle.ts_domain.proofs.Members.{all_from, at_first, at_later}
use Rattle.cover_certificate.specs.declared.lines.Line.{Line}
use Rattle.cover_certificate.specs.declared.types.CertMark.{CertMark}
use Rattle.cover_certificate.specs.Lines.{chosen_places, is_same, line, line_by, line_cmp, AreLines}
use Rattle.cover_certificate.specs.Making.{holds_chosen, mark_of, IsMade}
use Rattle.cover_certificate.specs.Regular.{are_facts, are_fields, are_marks, are_vars, ascends, has_room, is_mark, mark_before}
use Rattle.cover_certificate.proofs.Ascents.{precede_ascends, Precede}
use Rattle.cover_certificate.proofs.Deduped.{deduped_rises, kept, still, Rises}
use Rattle.cover_certificate.proofs.LineLaws.{line_total, mark_less, same_mark}
use Rattle.cover_certificate.proofs.RegularFacts.{facts_regular, fields_regular, vars_regular}

-- elements of a list that is mapped

in_map : {A B : Type 0} (f : A → B) (xs : List A) (x : A) → Contains xs x → Contains (map f xs) (f x)
in_map f [] x (k, l, e) = absurd (omega (arith, l))
in_map f (y ∷ ys) x (zero, l, e) = (0, omega arith, ap f e)
in_map f (y ∷ ys) x (suc k, l, e) = at_later (f y) (f x) (map f ys) (in_map f ys x (k, omega (arith, l), e))

of_map : {A B : Type 0} (f : A → B) (xs : List A) (y : B) → Contains (map f xs) y → (x : A) × Contains xs x × (f x ≡ y)
of_map f [] y (k, l, e) = absurd (omega (arith, l))
of_map f (x ∷ xs) y (zero, l, e) = (x, at_first x xs, e)
of_map f (x ∷ xs) y (suc k, l, e) = let r = of_map f xs y (k, omega (arith, l), e) in (r.0, at_later x r.0 xs r.1, r.2)

-- the bit

module _ (n : Names) (s : Choice) where
  below_by : (o : Option Put) (k : ℕ) → slice_get n.puts k ≡ o → has (has_put s.puts) o ≡ true → k < length n.puts
  below_by None k e h = absurd (false≢true h)
  below_by (Some q) k e h = slice_get_within n.puts k q e

  and_itself : (r p : Bool) → (p ≡ true → r ≡ true) → (r && p) ≡ p
  and_itself true p inside = refl
  and_itself false true inside = absurd (false≢true (inside refl))
  and_itself false false inside = refl

  placed : (k : ℕ) → has_number (chosen_places n s) k ≡ is_chosen n s k
  placed k =
      has-filter (is_chosen n s) (range_with_len 0 (length n.puts)) k
      ∙ and_itself (has_number (range_with_len 0 (length n.puts)) k) (is_chosen n s k) (λ h. range_holds (length n.puts) k (below_by (slice_get n.puts k) k refl h))

  found_any : (p q : ℕ → Bool) (xs : List ℕ) → ((k : ℕ) → p k ≡ q k) → is_some (find p xs) ≡ list_any q xs
  found_any p q [] same = refl
  found_any p q (x ∷ xs) same = by (p x) (q x) (same x) (found_any p q xs same)
    where
      by : (a b : Bool) → a ≡ b → is_some (find p xs) ≡ list_any q xs → is_some (cond a (Some x) (find p xs)) ≡ (b || list_any q xs)
      by true true e rest = refl
      by true false e rest = absurd (false≢true (sym e))
      by false true e rest = absurd (false≢true e)
      by false false e rest = rest

  bit_is : (t : Triple) → is_some (first_common t.puts.items (chosen_places n s)) ≡ holds_chosen n s t
  bit_is t = found_any (has_number (chosen_places n s)) (is_chosen n s) t.puts.items placed

  line_is : (t : Triple) → line_by n (chosen_places n s) t ≡ line n (mark_of n s t)
  line_is t = ap (λ (b : Bool). line n (record { node = t.node; mark = t.mark; freed = b })) (bit_is t)

-- what is done with lines in turn
pub lines_done : (n : Names) (s : Choice) (ts : List Triple) (places : Numbers) (all ordered : List Line) (ms : List CertMark) → places ≡ passing (length n.puts) (length n.puts) (is_chosen n s) → all ≡ map (line_by n places.items) ts
    → IsPermutation all ordered → IsSorted line_cmp ordered → ms ≡ map (λ (x : Line). x.mark) (dedup is_same ordered) → AreLines n s ts ms
lines_done n s ts places all ordered ms set listed permutation sorted are = record {
  lines = ordered;
  permutation = subst (λ (xs : List Line). IsPermutation xs ordered) (listed ∙ ap (λ (p : Numbers). map (line_by n p.items) ts) set) permutation;
  sorted = sorted;
  are = are;
}

-- lines of triples

record IsLine (n : Names) (g : Graph) (x : Line) : Type 0 where
  is : x ≡ line n x.mark
  shaped : IsShaped n x.mark.mark
  node : x.mark.node < length g.nodes

module _ (n : Names) (g : Graph) where
  one_line : (x y : Line) → IsLine n g x → IsLine n g y → line_cmp x y ≡ Equal → x ≡ y
  one_line x y p q e =
      let same : x.mark ≡ y.mark = same_mark n x.mark y.mark p.shaped q.shaped (ap (λ (z : Line). line_cmp z (line n y.mark)) (sym p.is) ∙ ap (λ (z : Line). line_cmp x z) (sym q.is) ∙ e) in
      p.is ∙ ap (line n) same ∙ sym q.is

  less_before : (x y : Line) → IsLine n g x → IsLine n g y → line_cmp x y ≡ Less → mark_before (expressions n) x.mark y.mark ≡ true
  less_before x y p q e =
      mark_less n x.mark y.mark ∙ ap is_lt (ap (λ (z : Line). line_cmp z (line n y.mark)) (sym p.is) ∙ ap (λ (z : Line). line_cmp x z) (sym q.is) ∙ e)

  marks_precede : (xs : List Line) → ((x : Line) → Contains xs x → IsLine n g x) → Rises line_cmp xs → Precede (mark_before (expressions n)) (map (λ (x : Line). x.mark) xs)
  marks_precede [] all h = tt
  marks_precede (x ∷ []) all h = tt
  marks_precede (x ∷ y ∷ ys) all h = (
    less_before x y (all x (at_first x (y ∷ ys))) (all y (at_later x y (y ∷ ys) (at_first y ys))) h.0,
    marks_precede (y ∷ ys) (λ z c. all z (at_later x z (y ∷ ys) c)) h.1,
  )

  apart_meets : (xs ys : List ℕ) → ((e : ℕ) → has_number xs e ≡ true → has_number ys e ≡ false) → not (meets xs ys) ≡ true
  apart_meets xs ys apart = ap (λ (o : Option ℕ). not (is_some o)) (find_none (has_number ys) xs apart)

  regular_mark : (x : Line) → IsLine n g x → is_mark n g x.mark ≡ true
  regular_mark x h =
      let m = x.mark.mark in
      and_from (nat_lt x.mark.node (length g.nodes)) (nat_lt m.site (length n.sites) && (has_room (expressions n) m.holds && (has_room (expressions n) m.lacks && not (meets m.holds.items m.lacks.items))))
      (lt-ltb x.mark.node (length g.nodes) h.node)
      (and_from (nat_lt m.site (length n.sites)) (has_room (expressions n) m.holds && (has_room (expressions n) m.lacks && not (meets m.holds.items m.lacks.items)))
      (lt-ltb m.site (length n.sites) h.shaped.site)
      (and_from (has_room (expressions n) m.holds) (has_room (expressions n) m.lacks && not (meets m.holds.items m.lacks.items))
      (eq-eqb m.holds.room (expressions n) h.shaped.holds_room)
      (and_from (has_room (expressions n) m.lacks) (not (meets m.holds.items m.lacks.items))
      (eq-eqb m.lacks.room (expressions n) h.shaped.lacks_room)
      (apart_meets m.holds.items m.lacks.items h.shaped.apart))))

module _ (n : Names) (g : Graph) (f : Facts) (d : Derived) (s : Choice) (ms : List CertMark) (leads : LeadsToNodes g) (derived : AreDerived n g f d) (lines : AreLines n s d.triples ms) where
  abbrev from_triple : Triple → Line
  from_triple t = line_by n (chosen_places n s) t

  of_triple : (x : Line) → Contains lines.lines x → (t : Triple) × Contains d.triples t × (from_triple t ≡ x)
  of_triple x c = of_map from_triple d.triples x (Contains-permutation lines.lines (map from_triple d.triples) x (IsPermutation-sym (map from_triple d.triples) lines.lines lines.permutation) c)

  line_of_triple : (t : Triple) → Contains d.triples t → IsLine n g (from_triple t)
  line_of_triple t c = record {
    is = refl;
    shaped = derived_mark n g f t ((derived.triples t).0 c);
    node = derived_node n g f leads t ((derived.triples t).0 c);
  }

  all_lines : (x : Line) → Contains lines.lines x → IsLine n g x
  all_lines x c = let r = of_triple x c in subst (IsLine n g) r.2 (line_of_triple r.0 r.1)

  left_lines : (x : Line) → Contains (dedup is_same lines.lines) x → IsLine n g x
  left_lines x c = all_lines x (kept line_cmp lines.lines x c)

  abbrev Of : CertMark → Type 0
  Of m = (t : Triple) × Contains d.triples t × (m ≡ mark_of n s t)

  to_triple : (m : CertMark) → Contains ms m → Of m
  to_triple m c =
      let x = of_map (λ (y : Line). y.mark) (dedup is_same lines.lines) m (subst (λ (xs : List CertMark). Contains xs m) lines.are c) in
      let t = of_triple x.0 (kept line_cmp lines.lines x.0 x.1) in
      (t.0, t.1, sym x.2 ∙ ap (λ (y : Line). y.mark) (sym t.2) ∙ ap (λ (y : Line). y.mark) (line_is n s t.0))

  to_mark : (m : CertMark) → Of m → Contains ms m
  to_mark m (t, c, e) =
      let x = from_triple t in
      let there : Contains lines.lines x = Contains-permutation (map from_triple d.triples) lines.lines x lines.permutation (in_map from_triple d.triples t c) in
      let stays : Contains (dedup is_same lines.lines) x = still line_cmp (IsLine n g) (one_line n g) lines.lines x all_lines there in
      let marked : Contains ms x.mark = subst (λ (xs : List CertMark). Contains xs x.mark) (sym lines.are) (in_map (λ (y : Line). y.mark) (dedup is_same lines.lines) x stays) in
      subst (Contains ms) (ap (λ (y : Line). y.mark) (line_is n s t) ∙ sym e) marked

  pub marks_regular : are_marks n g ms ≡ true
  marks_regular =
      let left = dedup is_same lines.lines in
      subst (λ (xs : List CertMark). are_marks n g xs ≡ true) (sym lines.are)
      (and_from (list_all (is_mark n g) (map (λ (x : Line). x.mark) left)) (ascends (mark_before (expressions n)) (map (λ (x : Line). x.mark) left))
      (all_from (is_mark n g) (map (λ (x : Line). x.mark) left)
      (λ m c. let x = of_map (λ (y : Line). y.mark) left m c in subst (λ (k : CertMark). is_mark n g k ≡ true) x.2 (regular_mark n g x.0 (left_lines x.0 x.1))))
      (precede_ascends (mark_before (expressions n)) (map (λ (x : Line). x.mark) left)
      (marks_precede n g left left_lines (deduped_rises line_cmp line_total lines.lines lines.sorted))))

  pub is_made : IsMay n g f.may → IsPath n g f.path → (m : May) (p : Path) → m ≡ f.may → p ≡ f.path → IsMade n g f d s (record { may = m; path = p; marks = ms })
  is_made may path m p same_may same_path = record {
    may = same_may;
    path = same_path;
    marks = λ x. (to_triple x, to_mark x);
    regular =
        and_from (are_vars n m) (are_fields n g m && (are_facts n g p && are_marks n g ms)) (ap (are_vars n) same_may ∙ vars_regular n g f.may may)
        (and_from (are_fields n g m) (are_facts n g p && are_marks n g ms) (ap (are_fields n g) same_may ∙ fields_regular n g f.may may)
        (and_from (are_facts n g p) (are_marks n g ms) (ap (are_facts n g) same_path ∙ facts_regular n g f.path path) marks_regular));
  }
