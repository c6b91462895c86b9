-- What the writes of a round do to a table, put together from their parts.
use Rattle.std.proofs.Common.{◌≡◌, ℕ, ◌+◌, ◌<◌, ◌≤◌, ◌==◌, ◌&&◌, ◌||◌, ⊎_elim, Bool, true, false, List, [], ◌∷◌, length, take, get_or, refl, ap, sym, subst, ◌∙◌, arith}
use Rattle.std.specs.List.{All}
use Rattle.std.proofs.lemmas.List.{take_more}
use Rattle.std.proofs.lemmas.List.Elements.{All-push}
use Rattle.std.proofs.lemmas.List.Folds.{list_any-append}
use Rattle.std.proofs.lemmas.Bool.{true≢false, false≢true, eq-eqb, ne_eqb, cases_eq}
use Rattle.c_graph.specs.declared.graph.Graph.{Graph}
use Rattle.mf_set.specs.Numbers.{Numbers, has as has_number}
use Rattle.ts_domain.specs.declared.deed.Deed.{Deed}
use Rattle.ts_domain.specs.declared.deed.Deed.TheVariants.{Reads, Follows, Says, Sets, SetsField}
use Rattle.ts_domain.specs.declared.deed.Source.{Source}
use Rattle.ts_domain.specs.declared.names.Names.{Names}
use Rattle.ts_domain.specs.declared.names.Read.{Read}
use Rattle.ts_domain.specs.May.{IsDone}
use Rattle.alias_facts.specs.declared.table.Table.{Table}
use Rattle.alias_facts.specs.Flow.{IsSound, cell_items, in_found, in_source, is_of_struct, var_items, writes_cell}
use Rattle.alias_facts.specs.Growth.{CellJoins, Grows, IsFound, IsSized, VarJoins}
use Rattle.alias_facts.specs.Writing.{Applies, IsApplied, Rounds, Settles, Settling, TargetsSet, is_target}
use Rattle.alias_facts.proofs.FlowLaws.{field_set_sound, set_sound, site_within, struct_from}
use Rattle.alias_facts.proofs.GrowthLaws.{grows_on}

pub grows_none : (m : Table) → IsSized m → Grows false m m
grows_none m sized = record { sized = sized; bounds = refl; same = λ no'. refl; less = λ yes'. absurd (false≢true yes') }

-- a write to a variable
pub var_applies : (n : Names) (g : Graph) (k : ℕ) (v : Source) (changed : Bool) (x : Numbers) (old new : Table) → IsFound old.bounds.sites (in_source n g old v) x → VarJoins k x.items changed old new → Applies n g (Sets k v) changed old new
var_applies n g k v changed x old new found joins = record {
  grows = joins.grows;
  does = record {
    vars = λ j s. joins.vars j s ∙ ap (λ b. has_number (var_items old j) s || (j == k && b)) (found.items s);
    cells = joins.cells;
  };
}

-- targets

or_none : (a b : Bool) → b ≡ false → a ≡ (a || b)
or_none true b h = refl
or_none false b h = sym h

and_false : (a : Bool) → (a && false) ≡ false
and_false true = refl
and_false false = refl

and_true : (a : Bool) → a ≡ (a && true)
and_true true = refl
and_true false = refl

-- no targets
pub no_targets : (n : Names) (g : Graph) (sites : List ℕ) (c f : ℕ) (more : List ℕ) (m : Table) → IsSized m → ((t d : ℕ) → is_target n g sites c f t d ≡ false) → TargetsSet n g sites c f more false m m
no_targets n g sites c f more m sized none = record {
  grows = grows_none m sized;
  vars = refl;
  cells = λ t d s. or_none (has_number (cell_items m t d) s) (is_target n g sites c f t d && has_number more s) (ap (λ b. b && has_number more s) (none t d));
}

pub targets_none : (n : Names) (g : Graph) (c f : ℕ) (more : List ℕ) (m : Table) → IsSized m → TargetsSet n g [] c f more false m m
targets_none n g c f more m sized = no_targets n g [] c f more m sized (λ t d. and_false (d == f))

-- one site
pub target_yes : (n : Names) (g : Graph) (site c f : ℕ) (more : List ℕ) (changed : Bool) (old new : Table) → is_of_struct n g c site ≡ true → CellJoins site f more changed old new → TargetsSet n g (site ∷ []) c f more changed old new
target_yes n g site c f more changed old new is joins = record {
  grows = joins.grows;
  vars = joins.vars;
  cells = λ t d s. joins.cells t d s ∙ ap (λ b. has_number (cell_items old t d) s || (b && has_number more s)) (same t d);
}
  where
    same : (t d : ℕ) → (t == site && d == f) ≡ is_target n g (site ∷ []) c f t d
    same t d =
        ⊎_elim
        (λ e.
        ap (λ b. b && d == f) (eq-eqb t site e) ∙ and_true (d == f) ∙ ap (λ b. d == f && b) (sym is)
        ∙ ap (λ i. d == f && is_of_struct n g c i) (sym e)
        ∙ ap (λ b. d == f && ((b || false) && is_of_struct n g c t)) (sym (eq-eqb site t (sym e))))
        (λ other.
        ap (λ b. b && d == f) (ne_eqb t site other) ∙ sym (and_false (d == f))
        ∙ ap (λ b. d == f && ((b || false) && is_of_struct n g c t)) (sym (ne_eqb site t (λ e. other (sym e)))))
        (cases_eq t site)

pub target_no : (n : Names) (g : Graph) (site c f : ℕ) (more : List ℕ) (old : Table) → IsSized old → is_of_struct n g c site ≡ false → TargetsSet n g (site ∷ []) c f more false old old
target_no n g site c f more old sized is = no_targets n g (site ∷ []) c f more old sized none
  where
    none : (t d : ℕ) → is_target n g (site ∷ []) c f t d ≡ false
    none t d =
        ⊎_elim
        (λ e. ap (λ i. d == f && ((site == t || false) && is_of_struct n g c i)) e ∙ ap (λ b. d == f && ((site == t || false) && b)) is ∙ ap (λ b. d == f && b) (and_false (site == t || false)) ∙ and_false (d == f))
        (λ other. ap (λ b. d == f && ((b || false) && is_of_struct n g c t)) (ne_eqb site t (λ e. other (sym e))) ∙ and_false (d == f))
        (cases_eq t site)

pub target_within : (n : Names) (g : Graph) (c site count : ℕ) → length n.sites ≤ count → is_of_struct n g c site ≡ true → site < count
target_within n g c site count wide is = let within = site_within n g c site (struct_from n g c site is) in omega (arith, wide, within)

both_add : (old e a b w m : Bool) → ((old || ((e && (a && w)) && m)) || ((e && (b && w)) && m)) ≡ (old || ((e && ((a || b) && w)) && m))
both_add true e a b w m = refl
both_add false false a b w m = refl
both_add false true true b true true = refl
both_add false true true true true false = refl
both_add false true true false true false = refl
both_add false true true true false m = refl
both_add false true true false false m = refl
both_add false true false b w m = refl

-- one site more
pub targets_more : (n : Names) (g : Graph) (ts : List ℕ) (i c f : ℕ) (more : List ℕ) (a b : Bool) (x y z : Table) → i < length ts → TargetsSet n g (take i ts) c f more a x y → TargetsSet n g (get_or ts i 0 ∷ []) c f more b y z → TargetsSet n g (take (i + 1) ts) c f more (a || b) x z
targets_more n g ts i c f more a b x y z within p q =
    let u = get_or ts i 0 in
    let both : (t : ℕ) → has_number (take (i + 1) ts) t ≡ (has_number (take i ts) t || has_number (u ∷ []) t) = λ t. ap (λ (xs : List ℕ). has_number xs t) (take_more ts i 0 within) ∙ list_any-append (λ m. m == t) (take i ts) (u ∷ []) in
    record {
      grows = grows_on a b x y z p.grows q.grows;
      vars = q.vars ∙ p.vars;
      cells = λ t d s.
          q.cells t d s
          ∙ ap (λ h. h || (is_target n g (u ∷ []) c f t d && has_number more s)) (p.cells t d s)
          ∙ both_add (has_number (cell_items x t d) s) (d == f) (has_number (take i ts) t) (has_number (u ∷ []) t) (is_of_struct n g c t) (has_number more s)
          ∙ ap (λ h. has_number (cell_items x t d) s || ((d == f && (h && is_of_struct n g c t)) && has_number more s)) (sym (both t));
    }

-- a write to a field
pub field_applies : (n : Names) (g : Graph) (r : Read) (c f : ℕ) (v : Source) (changed : Bool) (x y : Numbers) (old new : Table) → IsFound old.bounds.sites (in_found n g old r) x → IsFound old.bounds.sites (in_source n g old v) y
    → TargetsSet n g x.items c f y.items changed old new → Applies n g (SetsField r c f v) changed old new
field_applies n g r c f v changed x y old new base found set = record {
  grows = set.grows;
  does = record {
    vars = set.vars;
    cells = λ t d s.
        set.cells t d s
        ∙ ap (λ b. has_number (cell_items old t d) s || ((d == f && (b && is_of_struct n g c t)) && has_number y.items s)) (base.items t)
        ∙ ap (λ b. has_number (cell_items old t d) s || (writes_cell n g old r c f t d && b)) (found.items s);
  };
}

-- rounds

applied_sound : (n : Names) (g : Graph) (d : Deed) (old new : Table) → IsDone n g d → IsSound n g old → IsApplied n g d old new → IsSound n g new
applied_sound n g (Reads r noted) old new done sound is = subst (IsSound n g) (sym is) sound
applied_sound n g (Follows k) old new done sound is = subst (IsSound n g) (sym is) sound
applied_sound n g (Says s) old new done sound is = subst (IsSound n g) (sym is) sound
applied_sound n g (Sets k v) old new done sound is = set_sound n g old sound k v new done is
applied_sound n g (SetsField r c f v) old new done sound is = field_set_sound n g old sound r c f v new done is

all_more : (P : Deed → Type 0) (ds : List Deed) (i : ℕ) (d : Deed) → i < length ds → P (get_or ds i d) → All P (take i ds) → All P (take (i + 1) ds)
all_more P ds i d within here all = subst (All P) (sym (take_more ds i d within)) (All-push P (take i ds) (get_or ds i d) all here)

pub rounds_none : (n : Names) (g : Graph) (m : Table) → IsSized m → Rounds n g [] false m m
rounds_none n g m sized = record { grows = grows_none m sized; sound = λ h. h; closed = λ same k d within. absurd (omega arith) }

not_left : (a b : Bool) → (a || b) ≡ false → a ≡ false
not_left true b h = absurd (true≢false h)
not_left false b h = refl

not_right : (a b : Bool) → (a || b) ≡ false → b ≡ false
not_right true b h = absurd (true≢false h)
not_right false b h = h

pub rounds_more : (n : Names) (g : Graph) (ds : List Deed) (i : ℕ) (d : Deed) (a b : Bool) (x y z : Table) → i < length ds → get_or ds i d ≡ d → IsDone n g d → Rounds n g (take i ds) a x y → Applies n g d b y z → Rounds n g (take (i + 1) ds) (a || b) x z
rounds_more n g ds i d a b x y z within is done p q = record {
  grows = grows_on a b x y z p.grows q.grows;
  sound = λ h. applied_sound n g d y z done (p.sound h) q.does;
  closed = λ none.
      let same : z ≡ y = q.grows.same (not_right a b none) in
      let here : IsApplied n g d z z = subst (λ (m : Table). IsApplied n g d m z) (sym same) q.does in
      all_more (λ e. IsApplied n g e z z) ds i d within (subst (λ e. IsApplied n g e z z) (sym is) here)
      (subst (λ (m : Table). All (λ e. IsApplied n g e m m) (take i ds)) (sym same) (p.closed (not_left a b none)));
}

-- changes

pub settling_none : (n : Names) (g : Graph) (m : Table) → IsSized m → Settling n g m m
settling_none n g m sized = record { sized = sized; bounds = refl; sound = λ h. h }

pub settling_on : (n : Names) (g : Graph) (x y z : Table) → Settling n g x y → Settling n g y z → Settling n g x z
settling_on n g x y z p q = record { sized = q.sized; bounds = q.bounds ∙ p.bounds; sound = λ h. q.sound (p.sound h) }

pub applied_settling : (n : Names) (g : Graph) (d : Deed) (b : Bool) (x z : Table) → IsDone n g d → Applies n g d b x z → Settling n g x z
applied_settling n g d b x z done is = record { sized = is.grows.sized; bounds = is.grows.bounds; sound = λ h. applied_sound n g d x z done h is.does }

pub settling_more : (n : Names) (g : Graph) (ds : List Deed) (b : Bool) (x y z : Table) → Settling n g x y → Rounds n g ds b y z → Settling n g x z
settling_more n g ds b x y z p q = record { sized = q.grows.sized; bounds = q.grows.bounds ∙ p.bounds; sound = λ h. q.sound (p.sound h) }

pub settled : (n : Names) (g : Graph) (ds : List Deed) (b : Bool) (x y z : Table) → b ≡ false → Settling n g x y → Rounds n g ds b y z → Settles n g ds x z
settled n g ds b x y z none p q = record { sized = q.grows.sized; bounds = q.grows.bounds ∙ p.bounds; sound = λ h. q.sound (p.sound h); closed = q.closed none }
