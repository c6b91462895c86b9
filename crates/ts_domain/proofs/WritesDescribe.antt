-- What writes make of verdicts: to a variable, and to a field where other variables may point to the same object.
use Rattle.std.proofs.Common.{◌≡◌, ⊎_elim, ℕ, ◌+◌, ◌-◌, ◌<◌, ◌≤◌, ◌==◌, ◌&&◌, ◌||◌, Bool, true, false, not, List, [], ◌∷◌, length, slice_get, Option, Some, None, option_and_then, refl, ap, sym, subst, ◌∙◌, arith}
use Rattle.std.specs.Prelude.{nat_lt, if◌then◌else◌}
use Rattle.std.specs.List.{find}
use Rattle.std.specs.Option.{is_some}
use Rattle.std.proofs.lemmas.Bool.{and_parts, eqb-true, eqb-false, eq-eqb, lt-ltb, ltb-true, ltb-false, or_cases}
use Rattle.c_tree.specs.Typing.{has}
use Rattle.c_tree.specs.declared.program.Program.{Program}
use Rattle.c_tree.specs.declared.program.Ty.TheVariants as ty
use Rattle.c_meaning.specs.declared.value.Value.{Value}
use Rattle.c_meaning.specs.declared.value.Value.TheVariants as value
use Rattle.c_graph.specs.declared.graph.Graph.{Graph}
use Rattle.mf_set.specs.Numbers.{has as has_number}
use Rattle.ts_domain.specs.declared.deed.Looked.TheVariants as looked
use Rattle.ts_domain.specs.declared.deed.Source.{Source}
use Rattle.ts_domain.specs.declared.deed.Source.TheVariants as source
use Rattle.ts_domain.specs.declared.fact.Fact.TheVariants.{Equal, Apart}
use Rattle.ts_domain.specs.declared.marks.Alias.{Alias}
use Rattle.ts_domain.specs.declared.marks.Alias.TheVariants.{Same, Diff, Maybe}
use Rattle.ts_domain.specs.declared.marks.Mark.{Mark}
use Rattle.ts_domain.specs.declared.marks.Verdict.{Verdict}
use Rattle.ts_domain.specs.declared.marks.Verdict.TheVariants.{Yes, No, Open}
use Rattle.ts_domain.specs.declared.names.Names.{Names}
use Rattle.ts_domain.specs.declared.names.Read.{Read}
use Rattle.ts_domain.specs.declared.names.Read.TheVariants as read
use Rattle.ts_domain.specs.Aliases.{stands, is_split, are_same, are_apart, alias, chain_alias, base_alias}
use Rattle.ts_domain.specs.Describing.{Describes}
use Rattle.ts_domain.specs.Holding.{FactsHold, MayHolds}
use Rattle.ts_domain.specs.Marks.{Knowledge, verdict, expressions, marked, sites_to, meets, shares, flows}
use Rattle.ts_domain.specs.MarkWrites.{source_verdict, field_verdict, beneath_source, set_beneath, set_verdict, is_itself, set_mark, is_pointer_to, points_to, agreed, by_alias, put_beneath, put_verdict, put_mark, settled_by, settled_verdict, settled}
use Rattle.ts_domain.specs.Path.{holds_at}
use Rattle.ts_domain.specs.Pointers.{field_place, type_of}
use Rattle.ts_domain.specs.Views.{AreNames, View, with_slot, with_field, peek, peek_field, field_seen, object_type, Seen, Finds, Gives}
use Rattle.ts_domain.proofs.Answers.{same_is}
use Rattle.ts_domain.proofs.FactsTrue.{peek_low, peek_past}
use Rattle.ts_domain.proofs.MarksDescribe.{Told, describes_marked, verdict_told, flowing, finds_some, flows_found, AreNotes, looked_told}
use Rattle.ts_domain.proofs.MayTrue.{site_once}
use Rattle.ts_domain.proofs.NameLaws.{has_places, low_fields}

-- what is known where an edge begins is true of a view

-- a variable that points to an object of a struct has the type of such pointers
abbrev pub PointersFit : Names → Graph → List ℕ → View → Type 0
PointersFit n g sites v = (z o c : ℕ) → v.slot z ≡ value.Ptr o → object_type g sites o ≡ Some (ty.StructPtr c) → option_and_then (type_of n) (slice_get n.vars z) ≡ Some (ty.StructPtr c)

pub record IsTrueThere (k : Knowledge) (sites : List ℕ) (v : View) : Type 0 where
  pub may : MayHolds k.names k.facts.may sites v
  pub facts : FactsHold k.names k.facts.path k.node v
  pub types : PointersFit k.names k.graph sites v

-- verdicts that agree

agreed_first : (u w : Verdict) (c : Value) (o : ℕ) → Told u c o → Told (agreed u w) c o
agreed_first Yes Yes c o h = h
agreed_first No No c o h = h
agreed_first Yes No c o h = tt
agreed_first No Yes c o h = tt
agreed_first Open w c o h = tt
agreed_first Yes Open c o h = tt
agreed_first No Open c o h = tt

agreed_second : (u w : Verdict) (c : Value) (o : ℕ) → Told w c o → Told (agreed u w) c o
agreed_second Yes Yes c o h = h
agreed_second No No c o h = h
agreed_second Yes No c o h = tt
agreed_second No Yes c o h = tt
agreed_second Open w c o h = tt
agreed_second Yes Open c o h = tt
agreed_second No Open c o h = tt

field_same : (v : View) (x : ℕ) (c : Value) (f : ℕ) (w : Value) → field_seen (with_slot x c v) f w ≡ field_seen v f w
field_same v x c f value.Undef = refl
field_same v x c f (value.Int i) = refl
field_same v x c f value.Null = refl
field_same v x c f (value.Ptr q) = refl

common_step : (t x : ℕ) (ss xs : List ℕ) (b : Bool) → has_number ss x ≡ b → has_number (x ∷ xs) t ≡ true → has_number ss t ≡ true → (has_number xs t ≡ true → is_some (find (has_number ss) xs) ≡ true) → is_some (if b then Some x else find (has_number ss) xs) ≡ true
common_step t x ss xs true e h is rest = refl
common_step t x ss xs false e h is rest = ⊎_elim (λ here. let never : true ≡ false = sym is ∙ ap (has_number ss) (sym (eqb-true x t here)) ∙ e in absurd cc) rest (or_cases (x == t) (has_number xs t) h)

found_common : (t : ℕ) (ss xs : List ℕ) → has_number xs t ≡ true → has_number ss t ≡ true → is_some (find (has_number ss) xs) ≡ true
found_common t ss [] h is = absurd cc
found_common t ss (x ∷ xs) h is = common_step t x ss xs (has_number ss x) refl h is (λ rest. found_common t ss xs rest is)

-- what a new object's verdict is true of
abbrev pub IsNewly : List ℕ → Verdict → ℕ → Source → Type 0
IsNewly sites fresh o (source.New t) = (q : ℕ) → length sites ≡ q + 1 → Told fresh (value.Ptr q) o
IsNewly sites fresh o (source.Content l) = Unit {0}
IsNewly sites fresh o source.Null = Unit {0}
IsNewly sites fresh o source.Undef = Unit {0}

module _ (p : Program) (k : Knowledge) (names : AreNames p k.graph k.names) (sites : List ℕ) where
  module _ (s : Seen) (m : Mark) (notes : List ℕ) (o : ℕ) (h : Describes k.names sites s.view m o) (noted : AreNotes notes s.found o) where
    told_in : (e : ℕ) → Told (verdict m e) (peek k.names s.view e) o
    told_in e = verdict_told k.names sites s.view m o h e

    -- what a write takes
    pub source_told : (fresh : Verdict) (src : Source) (c : Value) → IsNewly sites fresh o src → Gives k.names k.graph sites s src c → Told (source_verdict fresh m notes src) c o
    source_told fresh (source.Content l) c newly gives = looked_told p k names sites s m notes o h noted l c gives.0
    source_told fresh source.Null c newly gives = λ is. let never : value.Null ≡ value.Ptr o = sym gives ∙ is in absurd cc
    source_told fresh (source.New t) c newly gives = subst (λ (w : Value). Told fresh w o) (sym gives.2) (newly gives.0 gives.6)
    source_told fresh source.Undef c newly gives = λ is. let never : value.Undef ≡ value.Ptr o = sym gives ∙ is in absurd cc

    -- and its fields
    beneath_told : (src : Source) (c : Value) → Gives k.names k.graph sites s src c → (f : ℕ) → Told (beneath_source k.names m src f) (field_seen s.view f c) o
    beneath_told (source.Content (looked.Name y)) c gives f = by_low (nat_lt y (length k.names.vars)) refl
      where
        by_place : (q : Option ℕ) → field_place k.names.fields y f ≡ q → s.view.slot y ≡ c → Told (field_verdict k.names m q) (field_seen s.view f c) o
        by_place None at is = tt
        by_place (Some j) at is =
            subst (λ (w : Value). Told (verdict m (length k.names.vars + j)) w o)
            (peek_past k.names s.view j (y, f) ((has_places p k.graph k.names names).field_there y f j at) ∙ ap (field_seen s.view f) is)
            (told_in (length k.names.vars + j))

        by_low : (b : Bool) → nat_lt y (length k.names.vars) ≡ b → Told (if b then field_verdict k.names m (field_place k.names.fields y f) else Open) (field_seen s.view f c) o
        by_low true low = by_place (field_place k.names.fields y f) refl (sym (peek_low k.names s.view y (ltb-true y (length k.names.vars) low)) ∙ gives.0)
        by_low false low = tt
    beneath_told (source.Content (looked.Deep d g note)) c gives f = tt
    beneath_told source.Null c gives f = λ is. let never : value.Undef ≡ value.Ptr o = sym (ap (field_seen s.view f) gives) ∙ is in absurd cc
    beneath_told (source.New t) c gives f = λ is. let never : value.Undef ≡ value.Ptr o = sym (gives.5.own f) ∙ sym (ap (field_seen s.view f) gives.2) ∙ is in absurd cc
    beneath_told source.Undef c gives f = λ is. let never : value.Undef ≡ value.Ptr o = sym (ap (field_seen s.view f) gives) ∙ is in absurd cc

    -- a write to a variable

    module _ (x : ℕ) (low : x < length k.names.vars) (src : Source) (c : Value) (gives : Gives k.names k.graph sites s src c) (u : Verdict) (told : Told u c o) where
      abbrev after : View
      after = with_slot x c s.view

      set_field : (e : ℕ) (q : ℕ × ℕ) (b : Bool) → Told (verdict m e) (field_seen s.view q.1 (s.view.slot q.0)) o → Told (if b then beneath_source k.names m src q.1 else verdict m e) (field_seen after q.1 (if b then c else s.view.slot q.0)) o
      set_field e q true old = subst (λ (w : Value). Told (beneath_source k.names m src q.1) w o) (sym (field_same s.view x c q.1 c)) (beneath_told src c gives q.1)
      set_field e q false old = subst (λ (w : Value). Told (verdict m e) w o) (sym (field_same s.view x c q.1 (s.view.slot q.0))) old

      set_by : (e : ℕ) (here b : Bool) (j : Option (ℕ × ℕ)) → (e == x) ≡ here → nat_lt e (length k.names.vars) ≡ b → Told (verdict m e) (if b then s.view.slot e else peek_field s.view j) o →
          Told (if here then u else set_beneath k.names m x src e (if b then None else j)) (if b then (if here then c else s.view.slot e) else peek_field after j) o
      set_by e true true j is at old = told
      set_by e true false j is at old =
          let past : length k.names.vars ≤ e = ltb-false e (length k.names.vars) at in
          let same : e ≡ x = eqb-true e x is in
          absurd (omega arith)
      set_by e false true j is at old = old
      set_by e false false None is at old = old
      set_by e false false (Some q) is at old = set_field e q (q.0 == x) old

      set_told : (e : ℕ) → Told (set_verdict k.names m x src u e) (peek k.names after e) o
      set_told e = set_by e (e == x) (nat_lt e (length k.names.vars)) (slice_get k.names.fields (e - length k.names.vars)) refl refl (told_in e)

      itself_same : (v : Source) → Gives k.names k.graph sites s v c → is_itself x v ≡ true → after ≡ s.view
      itself_same (source.Content (looked.Name y)) got is = same_is (record { slot = slots; cell = λ b f. refl })
        where
          slots : (j : ℕ) → after.slot j ≡ s.view.slot j
          slots j = by_place (j == x) refl
            where
              by_place : (b : Bool) → (j == x) ≡ b → (if b then c else s.view.slot j) ≡ s.view.slot j
              by_place true at = sym got.0 ∙ ap (peek k.names s.view) (sym (eqb-true x y is)) ∙ peek_low k.names s.view x low ∙ ap s.view.slot (sym (eqb-true j x at))
              by_place false at = refl
      itself_same (source.Content (looked.Deep d g note)) got is = absurd cc
      itself_same source.Null got is = absurd cc
      itself_same (source.New t) got is = absurd cc
      itself_same source.Undef got is = absurd cc

      pub set_describes : Describes k.names sites after (set_mark k.names m x src u) o
      set_describes = by_itself (is_itself x src) refl
        where
          by_itself : (b : Bool) → is_itself x src ≡ b → Describes k.names sites after (if b then m else marked (expressions k.names) m.site (set_verdict k.names m x src u)) o
          by_itself true is = subst (λ (v : View). Describes k.names sites v m o) (sym (itself_same src gives is)) h
          by_itself false is = describes_marked k.names sites after o (expressions k.names) m.site (set_verdict k.names m x src u) h.site set_told

  -- a write to a field

  module _ (v : View) (known : IsTrueThere k sites v) (m : Mark) (o : ℕ) (h : Describes k.names sites v m o) (r : Read) (q : ℕ) (finds : Finds k.names k.graph sites v r (value.Ptr q)) where
    -- whether a variable points to the object of the base
    abbrev IsAlias : Alias → ℕ → Type 0
    IsAlias Same z = v.slot z ≡ value.Ptr q
    IsAlias Diff z = v.slot z ≡ value.Ptr q → ⊥
    IsAlias Maybe z = Unit {0}

    -- no site flows to both
    shared : (z : ℕ) → v.slot z ≡ value.Ptr q → shares k z r ≡ true
    shared z holds =
        let it = known.may.slots z q holds in
        finds_some p k names sites v known.may (meets (sites_to k.facts.may z)) q it.0 it.1
        (λ ss is. found_common it.0 ss (sites_to k.facts.may z) (flowing it.0 (slice_get k.facts.may.vars z) it.2) is) r finds

    chain_true : (z : ℕ) → IsAlias (chain_alias k z r) z
    chain_true z = by_shared (shares k z r) refl
      where
        by_shared : (b : Bool) → shares k z r ≡ b → IsAlias (if b then Maybe else Diff) z
        by_shared true is = tt
        by_shared false is = λ holds. let never : true ≡ false = sym (shared z holds) ∙ is in absurd cc

    module _ (x : ℕ) (low : x < length k.names.vars) (based : v.slot x ≡ value.Ptr q) (z : ℕ) (z_low : z < length k.names.vars) where
      after_by : (a b : ℕ) → nat_lt a b ≡ false → (a ≡ b → ⊥) → b < a
      after_by a b isnt apart = by_order (nat_lt b a) refl
        where
          by_order : (c : Bool) → nat_lt b a ≡ c → b < a
          by_order true e = ltb-true b a e
          by_order false e = let one : b ≤ a = ltb-false a b isnt in let two : a ≤ b = ltb-false b a e in let same : a ≡ b = omega arith in absurd (apart same)

      is_pair : (a b : ℕ) → a < b → b < length k.names.vars → (nat_lt a b && nat_lt b (length k.names.vars)) ≡ true
      is_pair a b order below = ap (λ (c : Bool). c && nat_lt b (length k.names.vars)) (lt-ltb a b order) ∙ lt-ltb b (length k.names.vars) below

      equal_stands : (b : Bool) → nat_lt z x ≡ b → (z ≡ x → ⊥) → holds_at k.names k.facts.path k.node (if b then Equal z x else Equal x z) ≡ true → v.slot z ≡ v.slot x
      equal_stands true is apart holds = known.facts (Equal z x) (is_pair z x (ltb-true z x is) low) holds
      equal_stands false is apart holds = sym (known.facts (Equal x z) (is_pair x z (after_by z x is apart) z_low) holds)

      apart_stands : (b : Bool) → nat_lt z x ≡ b → (z ≡ x → ⊥) → holds_at k.names k.facts.path k.node (if b then Apart z x else Apart x z) ≡ true → v.slot z ≡ value.Ptr q → ⊥
      apart_stands true is apart holds points = known.facts (Apart z x) (is_pair z x (ltb-true z x is) low) holds q points based
      apart_stands false is apart holds points = known.facts (Apart x z) (is_pair x z (after_by z x is apart) z_low) holds q based points

      both_held : (has_number m.holds.items z && has_number m.holds.items x) ≡ true → v.slot z ≡ value.Ptr q
      both_held is =
          let both = and_parts (has_number m.holds.items z) (has_number m.holds.items x) is in
          sym (peek_low k.names v z z_low) ∙ h.holds z both.0 ∙ sym (h.holds x both.1) ∙ peek_low k.names v x low ∙ based

      same_true : are_same k.names k.facts k.node m z x ≡ true → v.slot z ≡ value.Ptr q
      same_true is = by_equal (z == x) refl
        where
          by_equal : (b : Bool) → (z == x) ≡ b → v.slot z ≡ value.Ptr q
          by_equal true e = ap v.slot (eqb-true z x e) ∙ based
          by_equal false e = ⊎_elim
              (λ some. ⊎_elim
              (λ one. let never : true ≡ false = sym one ∙ e in absurd cc)
              (λ equal. equal_stands (nat_lt z x) refl (eqb-false z x e) equal ∙ based)
              (or_cases (z == x) (stands k.names k.facts k.node Equal z x) some))
              both_held
              (or_cases (z == x || stands k.names k.facts k.node Equal z x) (has_number m.holds.items z && has_number m.holds.items x) is)

      split_true : is_split m z x ≡ true → v.slot z ≡ value.Ptr q → ⊥
      split_true is points =
          let same : peek k.names v z ≡ peek k.names v x = peek_low k.names v z z_low ∙ points ∙ sym based ∙ sym (peek_low k.names v x low) in
          ⊎_elim
          (λ one. let both = and_parts (has_number m.holds.items z) (has_number m.lacks.items x) one in h.lacks x both.1 (sym same ∙ h.holds z both.0))
          (λ two. let both = and_parts (has_number m.lacks.items z) (has_number m.holds.items x) two in h.lacks z both.0 (same ∙ h.holds x both.1))
          (or_cases (has_number m.holds.items z && has_number m.lacks.items x) (has_number m.lacks.items z && has_number m.holds.items x) is)

      meets_true : v.slot z ≡ value.Ptr q → meets (sites_to k.facts.may z) (sites_to k.facts.may x) ≡ true
      meets_true points =
          let one = known.may.slots z q points in
          let two = known.may.slots x q based in
          let same = site_once p k.graph k.names names sites q one.0 two.0 one.1 two.1 in
          found_common one.0 (sites_to k.facts.may x) (sites_to k.facts.may z) (flowing one.0 (slice_get k.facts.may.vars z) one.2)
          (ap (has_number (sites_to k.facts.may x)) same ∙ flowing two.0 (slice_get k.facts.may.vars x) two.2)

      not_true : (b : Bool) → not b ≡ true → b ≡ true → ⊥
      not_true true is holds = absurd cc
      not_true false is holds = absurd cc

      apart_true : are_same k.names k.facts k.node m z x ≡ false → are_apart k.names k.facts k.node m z x ≡ true → v.slot z ≡ value.Ptr q → ⊥
      apart_true other is points = ⊎_elim
          (λ some. ⊎_elim
          (λ apart. apart_stands (nat_lt z x) refl differs apart points)
          (λ split. split_true split points)
          (or_cases (stands k.names k.facts k.node Apart z x) (is_split m z x) some))
          (λ none. not_true (meets (sites_to k.facts.may z) (sites_to k.facts.may x)) none (meets_true points))
          (or_cases (stands k.names k.facts k.node Apart z x || is_split m z x) (not (meets (sites_to k.facts.may z) (sites_to k.facts.may x))) is)
        where
          differs : z ≡ x → ⊥
          differs same =
              let is_same : are_same k.names k.facts k.node m z x ≡ true = ap (λ (b : Bool). b || stands k.names k.facts k.node Equal z x || has_number m.holds.items z && has_number m.holds.items x) (eq-eqb z x same) in
              let never : true ≡ false = sym is_same ∙ other in
              absurd cc

      alias_true : IsAlias (alias k.names k.facts k.node m z x) z
      alias_true = by_tests (are_same k.names k.facts k.node m z x) (are_apart k.names k.facts k.node m z x) refl refl
        where
          by_tests : (a b : Bool) → are_same k.names k.facts k.node m z x ≡ a → are_apart k.names k.facts k.node m z x ≡ b → IsAlias (if a then Same else if b then Diff else Maybe) z
          by_tests true b is also = same_true is
          by_tests false true is also = apart_true is also
          by_tests false false is also = tt

    -- the alias lemma: Same is the object of the base, and Diff is not
    base_true : (z : ℕ) → z < length k.names.vars → IsAlias (base_alias k m z r) z
    base_true z z_low = by_read r refl
      where
        by_low : (x : ℕ) (b : Bool) → r ≡ read.Name x → nat_lt x (length k.names.vars) ≡ b → IsAlias (if b then alias k.names k.facts k.node m z x else chain_alias k z (read.Name x)) z
        by_low x true is at =
            let low = ltb-true x (length k.names.vars) at in
            let found : peek k.names v x ≡ value.Ptr q = subst (λ (y : Read). Finds k.names k.graph sites v y (value.Ptr q)) is finds in
            alias_true x low (sym (peek_low k.names v x low) ∙ found) z z_low
        by_low x false is at = subst (λ (y : Read). IsAlias (chain_alias k z y) z) is (chain_true z)

        by_read : (y : Read) → r ≡ y → IsAlias (base_alias k m z y) z
        by_read (read.Name x) is = by_low x (nat_lt x (length k.names.vars)) is refl
        by_read (read.Deep d g) is = subst (λ (y : Read). IsAlias (chain_alias k z y) z) is (chain_true z)

    module _ (c f : ℕ) (w : Value) (u : Verdict) (told : Told u w o) (typed : object_type k.graph sites q ≡ Some (ty.StructPtr c)) where
      abbrev changed : View
      changed = with_field q f w v

      -- the content is another one's
      kept_alias : (e : ℕ) (a : Alias) (b : Bool) (d : Value) → (a ≡ Same → ⊥) → Told (verdict m e) d o → Told (if b then by_alias a u (verdict m e) else verdict m e) d o
      kept_alias e Same true d other old = absurd (other refl)
      kept_alias e Diff true d other old = old
      kept_alias e Maybe true d other old = agreed_second u (verdict m e) d o old
      kept_alias e a false d other old = old

      -- the content is the one that is written
      hit_alias : (e : ℕ) (a : Alias) (z : ℕ) → IsAlias a z → v.slot z ≡ value.Ptr q → Told (by_alias a u (verdict m e)) w o
      hit_alias e Same z is points = told
      hit_alias e Diff z is points = absurd (is points)
      hit_alias e Maybe z is points = agreed_first u (verdict m e) w o told

      not_same : (a : Alias) (z : ℕ) → IsAlias a z → (v.slot z ≡ value.Ptr q → ⊥) → a ≡ Same → ⊥
      not_same a z is apart same = apart (subst (λ (b : Alias). IsAlias b z) same is)

      has_type : (z : ℕ) → v.slot z ≡ value.Ptr q → points_to k.names c z ≡ true
      has_type z points = ap (has (is_pointer_to c)) (known.types z q c points typed) ∙ eq-eqb c c refl

      put_cell : (e b : ℕ) (z : ℕ × ℕ) (here there : Bool) → (b == q) ≡ here → (z.1 == f) ≡ there → v.slot z.0 ≡ value.Ptr b → IsAlias (base_alias k m z.0 r) z.0 → Told (verdict m e) (v.cell b z.1) o →
          Told (if there && points_to k.names c z.0 then by_alias (base_alias k m z.0 r) u (verdict m e) else verdict m e) (if here && there then w else v.cell b z.1) o
      put_cell e b z true true is also at alias old =
          let points : v.slot z.0 ≡ value.Ptr q = at ∙ ap (λ (i : ℕ). value.Ptr i) (eqb-true b q is) in
          subst (λ (t : Bool). Told (if t then by_alias (base_alias k m z.0 r) u (verdict m e) else verdict m e) w o) (sym (has_type z.0 points)) (hit_alias e (base_alias k m z.0 r) z.0 alias points)
      put_cell e b z true false is also at alias old = old
      put_cell e b z false there is also at alias old =
          kept_alias e (base_alias k m z.0 r) (there && points_to k.names c z.0) (v.cell b z.1)
          (not_same (base_alias k m z.0 r) z.0 alias (λ points. let objects : value.Ptr b ≡ value.Ptr q = sym at ∙ points in let same : b ≡ q = cc in eqb-false b q is same)) old

      other_content : (e : ℕ) (z : ℕ × ℕ) (a : Value) → v.slot z.0 ≡ a → (a ≡ value.Ptr q → ⊥) → IsAlias (base_alias k m z.0 r) z.0 → Told (verdict m e) value.Undef o →
          Told (if z.1 == f && points_to k.names c z.0 then by_alias (base_alias k m z.0 r) u (verdict m e) else verdict m e) value.Undef o
      other_content e z a at apart alias old =
          kept_alias e (base_alias k m z.0 r) (z.1 == f && points_to k.names c z.0) value.Undef (not_same (base_alias k m z.0 r) z.0 alias (λ points. apart (sym at ∙ points))) old

      put_field : (e : ℕ) (z : ℕ × ℕ) (a : Value) → v.slot z.0 ≡ a → IsAlias (base_alias k m z.0 r) z.0 → Told (verdict m e) (field_seen v z.1 a) o → Told (put_beneath k m r c f u e (Some z)) (field_seen changed z.1 a) o
      put_field e z value.Undef at alias old = other_content e z value.Undef at (λ is. absurd cc) alias old
      put_field e z (value.Int i) at alias old = other_content e z (value.Int i) at (λ is. absurd cc) alias old
      put_field e z value.Null at alias old = other_content e z value.Null at (λ is. absurd cc) alias old
      put_field e z (value.Ptr b) at alias old = put_cell e b z (b == q) (z.1 == f) refl refl at alias old

      put_by : (e : ℕ) (b : Bool) (j : Option (ℕ × ℕ)) → slice_get k.names.fields (e - length k.names.vars) ≡ j → Told (verdict m e) (if b then v.slot e else peek_field v j) o →
          Told (put_beneath k m r c f u e (if b then None else j)) (if b then v.slot e else peek_field changed j) o
      put_by e true j at old = old
      put_by e false None at old = old
      put_by e false (Some z) at old = put_field e z (v.slot z.0) refl (base_true z.0 (low_fields p k.graph k.names names (e - length k.names.vars) z at)) old

      pub put_describes : Describes k.names sites changed (put_mark k m r c f u) o
      put_describes = describes_marked k.names sites changed o (expressions k.names) m.site (put_verdict k m r c f u) h.site
          (λ e. put_by e (nat_lt e (length k.names.vars)) (slice_get k.names.fields (e - length k.names.vars)) refl (verdict_told k.names sites v m o h e))

  -- last, what the site doesn't flow to

  pub settled_describes : (v : View) (m : Mark) (o : ℕ) → MayHolds k.names k.facts.may sites v → Describes k.names sites v m o → Describes k.names sites v (settled k m) o
  settled_describes v m o may h = describes_marked k.names sites v o (expressions k.names) m.site (settled_verdict k m) h.site (λ e. by_flow e (verdict m e) (flows k m.site (read.Name e)) refl (verdict_told k.names sites v m o h e))
    where
      by_flow : (e : ℕ) (u : Verdict) (b : Bool) → flows k m.site (read.Name e) ≡ b → Told u (peek k.names v e) o → Told (settled_by u b) (peek k.names v e) o
      by_flow e Yes b is told = told
      by_flow e No b is told = told
      by_flow e Open true is told = tt
      by_flow e Open false is told = λ points. let never : true ≡ false = sym (flows_found p k names sites v m o h may (read.Name e) points) ∙ is in absurd cc
