-- A sound table answers soundly, each write keeps it sound, and a table that is closed under all writes has all that flows.
use Rattle.std.proofs.Common.{◌≡◌, ℕ, zero, suc, ◌+◌, ◌-◌, ◌<◌, ◌≤◌, ◌==◌, ◌&&◌, ⊎_elim, Bool, true, false, cond, nat_lt, List, [], ◌∷◌, length, slice_get, Option, Some, None, refl, ap, sym, subst, ◌∙◌, arith, eqb, ltb}
use Rattle.std.specs.List.{list_any, range_with_len}
use Rattle.std.proofs.lemmas.Bool.{false≢true, eqb-true, eq-eqb, ltb-true, ltb-false, lt-ltb, or_cases, and_parts, and_from, cases_eq, or_left, or_right}
use Rattle.std.proofs.lemmas.Option.{slice_get_within}
use Rattle.c_tree.specs.Typing.{has}
use Rattle.c_graph.specs.declared.graph.Graph.{Graph}
use Rattle.mf_set.specs.Numbers.{Numbers, has as has_number}
use Rattle.mf_set.proofs.NumberLaws.{has-filter}
use Rattle.ts_domain.specs.declared.deed.Deed.TheVariants.{Sets, SetsField}
use Rattle.ts_domain.specs.declared.deed.Source.{Source}
use Rattle.ts_domain.specs.declared.deed.Source.TheVariants.{Content, Null, New, Undef}
use Rattle.ts_domain.specs.declared.names.Names.{Names}
use Rattle.ts_domain.specs.declared.names.Read.{Read}
use Rattle.ts_domain.specs.declared.names.Read.TheVariants as read
use Rattle.ts_domain.specs.May.{Flows, IsDone, Variable, FieldOf, Found, Of, Term, read_of, struct_of}
use Rattle.alias_facts.specs.declared.table.Table.{Table}
use Rattle.alias_facts.specs.Flow.{IsClosed, IsFieldSetBy, IsSetBy, IsSound, cell_items, in_field, in_found, in_source, in_term, is_of_struct, sites_of_struct, var_items, writes_cell}

-- lists

-- the number at which a test passes
pub any_has : (p : ℕ → Bool) (xs : List ℕ) → list_any p xs ≡ true → (t : ℕ) × (has_number xs t ≡ true) × (p t ≡ true)
any_has p [] h = absurd (false≢true h)
any_has p (x ∷ xs) h =
    ⊎_elim
    (λ here. (x, or_left (eqb x x) (has_number xs x) (eq-eqb x x refl), here))
    (λ there. let rest = any_has p xs there in (rest.0, or_right (eqb x rest.0) (has_number xs rest.0) rest.1, rest.2))
    (or_cases (p x) (list_any p xs) h)

pub has_any : (p : ℕ → Bool) (xs : List ℕ) (t : ℕ) → has_number xs t ≡ true → p t ≡ true → list_any p xs ≡ true
has_any p [] t h here = absurd (false≢true h)
has_any p (x ∷ xs) t h here =
    ⊎_elim
    (λ e. let same : t ≡ x = sym (eqb-true x t e) in or_left (p x) (list_any p xs) (subst (λ y. p y ≡ true) same here))
    (λ e. or_right (p x) (list_any p xs) (has_any p xs t e here))
    (or_cases (eqb x t) (has_number xs t) h)

has_range : (a k t : ℕ) → a ≤ t → t < a + k → has_number (range_with_len a k) t ≡ true
has_range a zero t low high = absurd (omega arith)
has_range a (suc k) t low high =
    ⊎_elim
    (λ e. or_left (eqb a t) (has_number (range_with_len (a + 1) k) t) (eq-eqb a t e))
    (λ e. or_right (eqb a t) (has_number (range_with_len (a + 1) k) t) (has_range (a + 1) k t (omega (arith, e)) (omega arith)))
    (cases_eq a t)

-- sites

struct_by : (c : ℕ) (o : Option ℕ) → has (λ d. d == c) o ≡ true → o ≡ Some c
struct_by c None h = absurd (false≢true h)
struct_by c (Some d) h = ap Some (eqb-true d c h)

pub struct_from : (n : Names) (g : Graph) (c t : ℕ) → is_of_struct n g c t ≡ true → struct_of n g t ≡ Some c
struct_from n g c t h = struct_by c (struct_of n g t) h

pub of_struct : (n : Names) (g : Graph) (c t : ℕ) → struct_of n g t ≡ Some c → is_of_struct n g c t ≡ true
of_struct n g c t h = ap (has (λ d. d == c)) h ∙ eq-eqb c c refl

pub site_within : (n : Names) (g : Graph) (c t : ℕ) → struct_of n g t ≡ Some c → t < length n.sites
site_within n g c t h = by (slice_get n.sites t) refl
  where
    by : (o : Option ℕ) → slice_get n.sites t ≡ o → t < length n.sites
    by None e = absurd cc
    by (Some v) e = slice_get_within n.sites t v e

in_struct : (n : Names) (g : Graph) (c t : ℕ) → struct_of n g t ≡ Some c → has_number (sites_of_struct n g c) t ≡ true
in_struct n g c t h =
    has-filter (is_of_struct n g c) (range_with_len 0 (length n.sites)) t
    ∙ and_from (has_number (range_with_len 0 (length n.sites)) t) (is_of_struct n g c t) (has_range 0 (length n.sites) t (omega arith) (omega (arith, site_within n g c t h))) (of_struct n g c t h)

from_struct : (n : Names) (g : Graph) (c t : ℕ) → has_number (sites_of_struct n g c) t ≡ true → struct_of n g t ≡ Some c
from_struct n g c t h =
    struct_from n g c t (and_parts (has_number (range_with_len 0 (length n.sites)) t) (is_of_struct n g c t) (sym (has-filter (is_of_struct n g c) (range_with_len 0 (length n.sites)) t) ∙ h)).1

-- sound

module _ (n : Names) (g : Graph) (m : Table) (sound : IsSound n g m) where
  field_sound : (j s : ℕ) (o : Option (ℕ × ℕ)) → slice_get n.fields j ≡ o → in_field m o s ≡ true → Flows n g s (Found (read.Name (length n.vars + j)))
  field_sound j s None e h = absurd (false≢true h)
  field_sound j s (Some x) e h =
      let at = any_has (λ t. has_number (cell_items m t x.1) s) (var_items m x.0) h in
      Flows.of_field j x.0 x.1 s at.0 e (sound.vars x.0 at.0 at.1) (sound.cells at.0 x.1 s at.2)

  name_sound : (k s : ℕ) (b : Bool) → nat_lt k (length n.vars) ≡ b → cond b (has_number (var_items m k) s) (in_field m (slice_get n.fields (k - length n.vars)) s) ≡ true → Flows n g s (Found (read.Name k))
  name_sound k s true e h = Flows.of_variable k s (ltb-true k (length n.vars) e) (sound.vars k s h)
  name_sound k s false e h =
      let past : length n.vars ≤ k = ltb-false k (length n.vars) e in
      let same : length n.vars + (k - length n.vars) ≡ k = omega arith in
      subst (λ i. Flows n g s (Found (read.Name i))) same (field_sound (k - length n.vars) s (slice_get n.fields (k - length n.vars)) refl h)

  pub found_sound : (r : Read) (s : ℕ) → in_found n g m r s ≡ true → Flows n g s (Found r)
  found_sound (read.Name k) s h = name_sound k s (nat_lt k (length n.vars)) refl h
  found_sound (read.Deep c f) s h =
      let at = any_has (λ t. has_number (cell_items m t f) s) (sites_of_struct n g c) h in
      Flows.deep c f s at.0 (from_struct n g c at.0 at.1) (sound.cells at.0 f s at.2)

  pub source_sound : (v : Source) (s : ℕ) → in_source n g m v s ≡ true → Flows n g s (Of v)
  source_sound (Content l) s h = Flows.content l s (found_sound (read_of l) s h)
  source_sound Null s h = absurd (false≢true h)
  source_sound (New t) s h = let same : t ≡ s = eqb-true t s h in subst (λ (u : ℕ). Flows n g s (Of (New u))) (sym same) (Flows.new s)
  source_sound Undef s h = absurd (false≢true h)

  set_by : (k : ℕ) (v : Source) → IsDone n g (Sets k v) → (j s : ℕ) → (j == k && in_source n g m v s) ≡ true → Flows n g s (Variable j)
  set_by k v done j s h =
      let both = and_parts (j == k) (in_source n g m v s) h in
      let same : j ≡ k = eqb-true j k both.0 in
      subst (λ i. Flows n g s (Variable i)) (sym same) (Flows.sets k v s done (source_sound v s both.1))

  -- a write to a variable keeps it sound
  pub set_sound : (k : ℕ) (v : Source) (new : Table) → IsDone n g (Sets k v) → IsSetBy n g k v m new → IsSound n g new
  set_sound k v new done is = record {
    vars = λ j s h. ⊎_elim (λ old. sound.vars j s old) (λ added. set_by k v done j s added) (or_cases (has_number (var_items m j) s) (j == k && in_source n g m v s) (sym (is.vars j s) ∙ h));
    cells = λ t f s h. sound.cells t f s (subst (λ (cs : List (List Numbers)). has_number (cell_items (record m { cells = cs }) t f) s ≡ true) is.cells h);
  }

  field_set_by : (r : Read) (c f : ℕ) (v : Source) → IsDone n g (SetsField r c f v) → (t d s : ℕ) → (writes_cell n g m r c f t d && in_source n g m v s) ≡ true → Flows n g s (FieldOf t d)
  field_set_by r c f v done t d s h =
      let both = and_parts (writes_cell n g m r c f t d) (in_source n g m v s) h in
      let there = and_parts (d == f) (in_found n g m r t && is_of_struct n g c t) both.0 in
      let base = and_parts (in_found n g m r t) (is_of_struct n g c t) there.1 in
      let same : d ≡ f = eqb-true d f there.0 in
      subst (λ i. Flows n g s (FieldOf t i)) (sym same) (Flows.sets_field r c f v s t done (found_sound r t base.0) (struct_from n g c t base.1) (source_sound v s both.1))

  -- and so does one to a field
  pub field_set_sound : (r : Read) (c f : ℕ) (v : Source) (new : Table) → IsDone n g (SetsField r c f v) → IsFieldSetBy n g r c f v m new → IsSound n g new
  field_set_sound r c f v new done is = record {
    vars = λ k s h. sound.vars k s (subst (λ (vs : List Numbers). has_number (var_items (record m { vars = vs }) k) s ≡ true) is.vars h);
    cells = λ t d s h. ⊎_elim (λ old. sound.cells t d s old) (λ added. field_set_by r c f v done t d s added) (or_cases (has_number (cell_items m t d) s) (writes_cell n g m r c f t d && in_source n g m v s) (sym (is.cells t d s) ∙ h));
  }

-- complete

field_found : (n : Names) (g : Graph) (m : Table) (j k f s t : ℕ) → slice_get n.fields j ≡ Some (k, f) → has_number (var_items m k) t ≡ true → has_number (cell_items m t f) s ≡ true → in_found n g m (read.Name (length n.vars + j)) s ≡ true
field_found n g m j k f s t e base there =
    let past : ltb (length n.vars + j) (length n.vars) ≡ false = grind arith in
    let same : length n.vars + j - length n.vars ≡ j = omega arith in
    ap (λ (b : Bool). cond b (has_number (var_items m (length n.vars + j)) s) (in_field m (slice_get n.fields (length n.vars + j - length n.vars)) s)) past
    ∙ ap (λ i. in_field m (slice_get n.fields i) s) same ∙ ap (λ (o : Option (ℕ × ℕ)). in_field m o s) e
    ∙ has_any (λ u. has_number (cell_items m u f) s) (var_items m k) t base there

module _ (n : Names) (g : Graph) (m : Table) (closed : IsClosed n g m) where
  -- a closed table has all that flows
  pub complete : {s : ℕ} {x : Term} → Flows n g s x → in_term n g m x s ≡ true
  complete (Flows.sets k v s done flow) = closed.vars k v done s (complete flow)
  complete (Flows.sets_field r c f v s t done base is flow) =
      closed.cells r c f v done t s
      (and_from (f == f) (in_found n g m r t && is_of_struct n g c t) (eq-eqb f f refl) (and_from (in_found n g m r t) (is_of_struct n g c t) (complete base) (of_struct n g c t is)))
      (complete flow)
  complete (Flows.of_variable k s within flow) = ap (λ (b : Bool). cond b (has_number (var_items m k) s) (in_field m (slice_get n.fields (k - length n.vars)) s)) (lt-ltb k (length n.vars) within) ∙ complete flow
  complete (Flows.of_field j k f s t e base flow) = field_found n g m j k f s t e (complete base) (complete flow)
  complete (Flows.deep c f s t is flow) = has_any (λ u. has_number (cell_items m u f) s) (sites_of_struct n g c) t (in_struct n g c t is) (complete flow)
  complete (Flows.content l s flow) = complete flow
  complete (Flows.new s) = eq-eqb s s refl
