-- Where a deed is done, a fact is true behind it whose pre-fact is true before it.
use Rattle.std.proofs.Common.{◌≡◌, ℕ, ◌+◌, ◌-◌, ◌<◌, ◌≤◌, ◌==◌, ◌&&◌, ◌||◌, ◌⊎◌, inl, inr, ⊎_elim, Bool, true, false, List, [], ◌∷◌, slice_get, length, Option, Some, None, refl, ap, sym, subst, ◌∙◌, arith}
use Rattle.std.specs.Prelude.{nat_lt, if◌then◌else◌}
use Rattle.std.proofs.lemmas.Bool.{and_parts, eqb-true, eqb-false, eq-eqb, ltb-true, ltb-false, lt-ltb, le-ltb}
use Rattle.std.proofs.lemmas.Option.{slice_get_within}
use Rattle.c_meaning.specs.declared.value.Value.{Value}
use Rattle.c_meaning.specs.declared.value.Value.TheVariants as value
use Rattle.c_graph.specs.declared.graph.Graph.{Graph}
use Rattle.ts_domain.specs.declared.deed.Deed.{Deed}
use Rattle.ts_domain.specs.declared.deed.Deed.TheVariants.{Reads, Follows, Says, Sets, SetsField}
use Rattle.ts_domain.specs.declared.deed.Looked.{Looked}
use Rattle.ts_domain.specs.declared.deed.Looked.TheVariants as looked
use Rattle.ts_domain.specs.declared.deed.Saying.{Saying}
use Rattle.ts_domain.specs.declared.deed.Saying.TheVariants.{IsNull, IsntNull, AreEqual, Differ}
use Rattle.ts_domain.specs.declared.deed.Source.{Source}
use Rattle.ts_domain.specs.declared.deed.Source.TheVariants as source
use Rattle.ts_domain.specs.declared.fact.Fact.{Fact}
use Rattle.ts_domain.specs.declared.fact.Fact.TheVariants.{Ready, Full, Filled, Equal, Apart}
use Rattle.ts_domain.specs.declared.names.Names.{Names}
use Rattle.ts_domain.specs.declared.names.Read.{Read}
use Rattle.ts_domain.specs.declared.names.Read.TheVariants as read
use Rattle.ts_domain.specs.declared.before.Before.{Before}
use Rattle.ts_domain.specs.declared.before.Before.TheVariants.{Always, Never, Where}
use Rattle.ts_domain.specs.declared.before.Given.{Given}
use Rattle.ts_domain.specs.declared.before.Given.TheVariants.{Copied, Loaded, Nothing, Fresh, Unset}
use Rattle.ts_domain.specs.Facts.{is_fact, equal, apart, filled, given, ready_of, full_of, filled_of, equal_of, apart_of, pair_of, filled_by, before_given, is_itself, before_set, shown, read_shows, follow_shows, is_field_of, write_shows, owns_field, null_shows, is_pair, saying_shows, before_deed, before_with, before_deeds}
use Rattle.ts_domain.specs.Pointers.{field_place}
use Rattle.ts_domain.specs.Truth.{IsTrueOf, IsTrueBefore}
use Rattle.ts_domain.specs.Views.{View, with_slot, with_field, peek, peek_field, field_seen, Seen, IsFresh, Finds, LooksAt, Gives, IsSo, Does, DoesAll}
use Rattle.ts_domain.proofs.Answers.{same_is}
use Rattle.ts_domain.proofs.NameLaws.{HasPlaces}

or_parts : (a b : Bool) → (a || b) ≡ true → (a ≡ true) ⊎ (b ≡ true)
or_parts true b h = inl refl
or_parts false b h = inr h

module _ (n : Names) where
  pub peek_low : (v : View) (k : ℕ) → k < length n.vars → peek n v k ≡ v.slot k
  peek_low v k low = ap (λ (b : Bool). if b then v.slot k else peek_field v (slice_get n.fields (k - length n.vars))) (lt-ltb k (length n.vars) low)

  pub peek_past : (v : View) (j : ℕ) (q : ℕ × ℕ) → slice_get n.fields j ≡ Some q → peek n v (length n.vars + j) ≡ field_seen v q.1 (v.slot q.0)
  peek_past v j q there =
      let past : length n.vars ≤ length n.vars + j = omega arith in
      let back : length n.vars + j - length n.vars ≡ j = omega arith in
      ap (λ (b : Bool). if b then v.slot (length n.vars + j) else peek_field v (slice_get n.fields (length n.vars + j - length n.vars))) (le-ltb (length n.vars + j) (length n.vars) past)
      ∙ ap (λ (i : ℕ). peek_field v (slice_get n.fields i)) back ∙ ap (peek_field v) there

  -- what is shown by a deed is true, and else what was true before
  shown_true : (v w : View) (b : Bool) (f : Fact) → (b ≡ true → IsTrueOf n w f) → (IsTrueOf n v f → IsTrueOf n w f) → IsTrueBefore n v (shown b f) → IsTrueOf n w f
  shown_true v w true f by_deed kept h = by_deed refl
  shown_true v w false f by_deed kept h = kept h

  -- reads (6.2.4, 6.7.8p10)

  read_true : (v : View) (k : ℕ) (f : Fact) → is_fact n f ≡ true → (peek n v k ≡ value.Undef → ⊥) → read_shows n (read.Name k) f ≡ true → IsTrueOf n v f
  read_true v k (Ready x) fact defined h = λ undef.
      let same : k ≡ x = eqb-true k x h in
      defined (ap (peek n v) same ∙ peek_low v x (ltb-true x (length n.vars) fact) ∙ undef)
  read_true v k (Filled j) fact defined h = λ q o there holds undef.
      let same : k ≡ length n.vars + j = eqb-true k (length n.vars + j) h in
      defined (ap (peek n v) same ∙ peek_past v j q there ∙ ap (field_seen v q.1) holds ∙ undef)
  read_true v k (Full x) fact defined h = absurd cc
  read_true v k (Equal x y) fact defined h = absurd cc
  read_true v k (Apart x y) fact defined h = absurd cc

  deep_true : (v : View) (s g : ℕ) (f : Fact) → read_shows n (read.Deep s g) f ≡ true → IsTrueOf n v f
  deep_true v s g (Ready x) h = absurd cc
  deep_true v s g (Filled j) h = absurd cc
  deep_true v s g (Full x) h = absurd cc
  deep_true v s g (Equal x y) h = absurd cc
  deep_true v s g (Apart x y) h = absurd cc

  follow_true : (v : View) (k o : ℕ) (f : Fact) → v.slot k ≡ value.Ptr o → follow_shows k f ≡ true → IsTrueOf n v f
  follow_true v k o (Full x) holds h = (o, ap v.slot (sym (eqb-true k x h)) ∙ holds)
  follow_true v k o (Ready x) holds h = absurd cc
  follow_true v k o (Filled j) holds h = absurd cc
  follow_true v k o (Equal x y) holds h = absurd cc
  follow_true v k o (Apart x y) holds h = absurd cc

  -- tests

  null_true : (v : View) (k : ℕ) (f : Fact) → ((j : ℕ) (q : ℕ × ℕ) → slice_get n.fields j ≡ Some q → q.0 < length n.vars) → is_fact n f ≡ true → peek n v k ≡ value.Null → null_shows n k f ≡ true → IsTrueOf n v f
  null_true v k (Apart y z) low fact null h = λ o one two.
      let both = and_parts (nat_lt y z) (nat_lt z (length n.vars)) fact in
      let order : y < z = ltb-true y z both.0 in
      let below : z < length n.vars = ltb-true z (length n.vars) both.1 in
      let y_low : y < length n.vars = omega arith in
      ⊎_elim
      (λ first. let never : value.Null ≡ value.Ptr o = sym null ∙ ap (peek n v) (eqb-true k y first) ∙ peek_low v y y_low ∙ one in absurd cc)
      (λ second. let never : value.Null ≡ value.Ptr o = sym null ∙ ap (peek n v) (eqb-true k z second) ∙ peek_low v z below ∙ two in absurd cc)
      (or_parts (k == y) (k == z) h)
  null_true v k (Filled j) low fact null h = λ q o there holds undef.
      let owns : (q.0 == k) ≡ true = sym (ap (owns_field k) there) ∙ h in
      let same : q.0 ≡ k = eqb-true q.0 k owns in
      let never : value.Null ≡ value.Ptr o = sym null ∙ ap (peek n v) (sym same) ∙ peek_low v q.0 (low j q there) ∙ holds in
      absurd cc
  null_true v k (Ready x) low fact null h = absurd cc
  null_true v k (Full x) low fact null h = absurd cc
  null_true v k (Equal x y) low fact null h = absurd cc

  full_said : (v : View) (k o : ℕ) (f : Fact) → is_fact n f ≡ true → peek n v k ≡ value.Ptr o → saying_shows n (IsntNull k) f ≡ true → IsTrueOf n v f
  full_said v k o (Full x) fact holds h = (o, sym (peek_low v x (ltb-true x (length n.vars) fact)) ∙ ap (peek n v) (sym (eqb-true k x h)) ∙ holds)
  full_said v k o (Ready x) fact holds h = absurd cc
  full_said v k o (Filled j) fact holds h = absurd cc
  full_said v k o (Equal x y) fact holds h = absurd cc
  full_said v k o (Apart x y) fact holds h = absurd cc

  -- two variables that are compared have these contents, in one order or the other
  pair_values : (g : Graph) (sites : List ℕ) (s : Seen) (l r : Looked) (x y : ℕ) (c d : Value) → x < length n.vars → y < length n.vars → LooksAt n g sites s l c → LooksAt n g sites s r d → is_pair l r x y ≡ true →
      ((s.view.slot x ≡ c) × (s.view.slot y ≡ d)) ⊎ ((s.view.slot x ≡ d) × (s.view.slot y ≡ c))
  pair_values g sites s (looked.Name k) (looked.Name m) x y c d x_low y_low one two h = ⊎_elim
      (λ straight. let both = and_parts (k == x) (m == y) straight in
      inl (sym (peek_low s.view x x_low) ∙ ap (peek n s.view) (sym (eqb-true k x both.0)) ∙ one, sym (peek_low s.view y y_low) ∙ ap (peek n s.view) (sym (eqb-true m y both.1)) ∙ two))
      (λ crossed. let both = and_parts (k == y) (m == x) crossed in
      inr (sym (peek_low s.view x x_low) ∙ ap (peek n s.view) (sym (eqb-true m x both.1)) ∙ two, sym (peek_low s.view y y_low) ∙ ap (peek n s.view) (sym (eqb-true k y both.0)) ∙ one))
      (or_parts (k == x && m == y) (k == y && m == x) h)
  pair_values g sites s (looked.Name k) (looked.Deep a b e) x y c d x_low y_low one two h = absurd cc
  pair_values g sites s (looked.Deep a b e) (looked.Name k) x y c d x_low y_low one two h = absurd cc
  pair_values g sites s (looked.Deep a b e) (looked.Deep i j k) x y c d x_low y_low one two h = absurd cc

  pair_low : (x y : ℕ) → (nat_lt x y && nat_lt y (length n.vars)) ≡ true → (x < length n.vars) × (y < length n.vars)
  pair_low x y h =
      let both = and_parts (nat_lt x y) (nat_lt y (length n.vars)) h in
      let order : x < y = ltb-true x y both.0 in
      let below : y < length n.vars = ltb-true y (length n.vars) both.1 in
      (omega arith, below)

  saying_true : (g : Graph) (sites : List ℕ) (s : Seen) (w : Saying) (f : Fact) → ((j : ℕ) (q : ℕ × ℕ) → slice_get n.fields j ≡ Some q → q.0 < length n.vars) → is_fact n f ≡ true → IsSo n g sites s w → saying_shows n w f ≡ true → IsTrueOf n s.view f
  saying_true g sites s (IsNull k) f low fact so h = null_true s.view k f low fact so h
  saying_true g sites s (IsntNull k) f low fact so h = full_said s.view k so.0 f fact so.1 h
  saying_true g sites s (AreEqual l r) (Equal x y) low fact so h =
      let below = pair_low x y fact in
      ⊎_elim (λ it. it.0 ∙ sym it.1) (λ it. it.0 ∙ sym it.1) (pair_values g sites s l r x y so.0 so.0 below.0 below.1 so.1 so.2 h)
  saying_true g sites s (Differ l r) (Apart x y) low fact so h = λ o one two.
      let below = pair_low x y fact in
      ⊎_elim (λ it. so.4 (sym it.0 ∙ one ∙ sym two ∙ it.1)) (λ it. so.4 (sym it.1 ∙ two ∙ sym one ∙ it.0)) (pair_values g sites s l r x y so.0 so.1 below.0 below.1 so.2 so.3 h)
  saying_true g sites s (AreEqual l r) (Ready x) low fact so h = absurd cc
  saying_true g sites s (AreEqual l r) (Full x) low fact so h = absurd cc
  saying_true g sites s (AreEqual l r) (Filled j) low fact so h = absurd cc
  saying_true g sites s (AreEqual l r) (Apart x y) low fact so h = absurd cc
  saying_true g sites s (Differ l r) (Ready x) low fact so h = absurd cc
  saying_true g sites s (Differ l r) (Full x) low fact so h = absurd cc
  saying_true g sites s (Differ l r) (Filled j) low fact so h = absurd cc
  saying_true g sites s (Differ l r) (Equal x y) low fact so h = absurd cc

  -- writes of fields

  field_kept : (v : View) (o f : ℕ) (c : Value) (fact : Fact) → (c ≡ value.Undef → ⊥) → IsTrueOf n v fact → IsTrueOf n (with_field o f c v) fact
  field_kept v o f c (Ready x) defined h = h
  field_kept v o f c (Full x) defined h = h
  field_kept v o f c (Equal x y) defined h = h
  field_kept v o f c (Apart x y) defined h = h
  field_kept v o f c (Filled j) defined h = λ q p there holds undef. by_cell (p == o && q.1 == f) (h q p there holds) undef
    where
      by_cell : (b : Bool) {w : Value} → (w ≡ value.Undef → ⊥) → (if b then c else w) ≡ value.Undef → ⊥
      by_cell true old undef = defined undef
      by_cell false old undef = old undef

  field_true : (v : View) (r : Read) (o g : ℕ) (c : Value) (f : Fact) → (g1 : Graph) (sites : List ℕ) → is_fact n f ≡ true → ((j : ℕ) (q : ℕ × ℕ) → slice_get n.fields j ≡ Some q → q.0 < length n.vars) → Finds n g1 sites v r (value.Ptr o) → (c ≡ value.Undef → ⊥) → write_shows n r g f ≡ true → IsTrueOf n (with_field o g c v) f
  field_true v (read.Name x) o g c (Filled j) g1 sites fact low finds defined h = by_field (slice_get n.fields j) refl h
    where
      by_field : (p : Option (ℕ × ℕ)) → slice_get n.fields j ≡ p → is_field_of x g p ≡ true → IsTrueOf n (with_field o g c v) (Filled j)
      by_field None at h = absurd cc
      by_field (Some p) at h = λ q e there holds undef.
          let both = and_parts (p.0 == x) (p.1 == g) h in
          let same : Some p ≡ Some q = sym at ∙ there in
          let p_is : p ≡ q = cc in
          let var : q.0 ≡ x = ap (λ (y : ℕ × ℕ). y.0) (sym p_is) ∙ eqb-true p.0 x both.0 in
          let field : q.1 ≡ g = ap (λ (y : ℕ × ℕ). y.1) (sym p_is) ∙ eqb-true p.1 g both.1 in
          let slot : v.slot q.0 ≡ value.Ptr o = sym (peek_low v q.0 (low j q there)) ∙ ap (peek n v) var ∙ finds in
          let objects : value.Ptr e ≡ value.Ptr o = sym holds ∙ slot in
          let e_is : e ≡ o = cc in
          let here : (e == o && q.1 == g) ≡ true = ap (λ (b : Bool). b && q.1 == g) (eq-eqb e o e_is) ∙ eq-eqb q.1 g field in
          defined (sym (ap (λ (b : Bool). if b then c else v.cell e q.1) here) ∙ undef)
  field_true v (read.Name x) o g c (Ready y) g1 sites fact low finds defined h = absurd cc
  field_true v (read.Name x) o g c (Full y) g1 sites fact low finds defined h = absurd cc
  field_true v (read.Name x) o g c (Equal y z) g1 sites fact low finds defined h = absurd cc
  field_true v (read.Name x) o g c (Apart y z) g1 sites fact low finds defined h = absurd cc
  field_true v (read.Deep s t) o g c f g1 sites fact low finds defined h = absurd (no_deep f h)
    where
      no_deep : (f : Fact) → write_shows n (read.Deep s t) g f ≡ true → ⊥
      no_deep (Ready y) h = absurd cc
      no_deep (Full y) h = absurd cc
      no_deep (Filled j) h = absurd cc
      no_deep (Equal y z) h = absurd cc
      no_deep (Apart y z) h = absurd cc

  -- writes of variables

  -- what a variable gets, as far as facts tell
  abbrev IsGot : Given → View → Value → Type 0
  IsGot (Copied y) v c = (y < length n.vars) × (c ≡ v.slot y) × (c ≡ value.Undef → ⊥)
  IsGot Loaded v c = c ≡ value.Undef → ⊥
  IsGot Nothing v c = c ≡ value.Null
  IsGot Fresh v c = (o : ℕ) × (c ≡ value.Ptr o) × IsFresh v o
  IsGot Unset v c = c ≡ value.Undef

  got_read : (v : View) (k : ℕ) (c : Value) (b : Bool) → nat_lt k (length n.vars) ≡ b → peek n v k ≡ c → (c ≡ value.Undef → ⊥) → IsGot (if b then Copied k else Loaded) v c
  got_read v k c true low finds defined = let below = ltb-true k (length n.vars) low in (below, sym finds ∙ peek_low v k below, defined)
  got_read v k c false past finds defined = defined

  got : (g : Graph) (sites : List ℕ) (s : Seen) (src : Source) (c : Value) → Gives n g sites s src c → IsGot (given n src) s.view c
  got g sites s (source.Content (looked.Name k)) c h = got_read s.view k c (nat_lt k (length n.vars)) refl h.0 h.1
  got g sites s (source.Content (looked.Deep a b e)) c h = h.1
  got g sites s source.Null c h = h
  got g sites s (source.New site) c h = (h.0, h.2, h.5)
  got g sites s source.Undef c h = h

  module _ (v : View) (k : ℕ) (c : Value) where
    set_here : (j : ℕ) → k ≡ j → (with_slot k c v).slot j ≡ c
    set_here j same = ap (λ (b : Bool). if b then c else v.slot j) (eq-eqb j k (sym same))

    set_other : (j : ℕ) → (k ≡ j → ⊥) → (with_slot k c v).slot j ≡ v.slot j
    set_other j apart = by_place (j == k) refl
      where
        by_place : (b : Bool) → j == k ≡ b → (if b then c else v.slot j) ≡ v.slot j
        by_place true is = absurd (apart (sym (eqb-true j k is)))
        by_place false is = refl

    ready_true : (y : ℕ) (u : Given) → k ≡ y → IsGot u v c → IsTrueBefore n v (ready_of u) → IsTrueOf n (with_slot k c v) (Ready y)
    ready_true y (Copied x) same got h = λ undef. got.2 (sym (set_here y same) ∙ undef)
    ready_true y Loaded same got h = λ undef. got (sym (set_here y same) ∙ undef)
    ready_true y Nothing same got h = λ undef. let never : value.Null ≡ value.Undef = sym got ∙ sym (set_here y same) ∙ undef in absurd cc
    ready_true y Fresh same got h = λ undef. let never : value.Ptr got.0 ≡ value.Undef = sym got.1 ∙ sym (set_here y same) ∙ undef in absurd cc
    ready_true y Unset same got h = absurd h

    full_true : (y : ℕ) (u : Given) → k ≡ y → IsGot u v c → IsTrueBefore n v (full_of u) → IsTrueOf n (with_slot k c v) (Full y)
    full_true y (Copied x) same got h = (h.0, set_here y same ∙ got.1 ∙ h.1)
    full_true y Loaded same got h = absurd h
    full_true y Nothing same got h = absurd h
    full_true y Fresh same got h = (got.0, set_here y same ∙ got.1)
    full_true y Unset same got h = absurd h

    copied_filled : (q : ℕ × ℕ) (x o : ℕ) (i : Option ℕ) → HasPlaces n → field_place n.fields x q.1 ≡ i → v.slot x ≡ value.Ptr o → IsTrueBefore n v (filled i) → v.cell o q.1 ≡ value.Undef → ⊥
    copied_filled q x o None places at holds h undef = h
    copied_filled q x o (Some i) places at holds h undef = h (x, q.1) o (places.field_there x q.1 i at) holds undef

    filled_got : (q : ℕ × ℕ) (o : ℕ) (u : Given) → HasPlaces n → k ≡ q.0 → IsGot u v c → IsTrueBefore n v (filled_of n q.1 u) → (with_slot k c v).slot q.0 ≡ value.Ptr o → v.cell o q.1 ≡ value.Undef → ⊥
    filled_got q o (Copied x) places same got h holds undef = copied_filled q x o (field_place n.fields x q.1) places refl (sym got.1 ∙ sym (set_here q.0 same) ∙ holds) h undef
    filled_got q o Loaded places same got h holds undef = h
    filled_got q o Nothing places same got h holds undef = let never : value.Null ≡ value.Ptr o = sym got ∙ sym (set_here q.0 same) ∙ holds in absurd cc
    filled_got q o Fresh places same got h holds undef = h
    filled_got q o Unset places same got h holds undef = let never : value.Undef ≡ value.Ptr o = sym got ∙ sym (set_here q.0 same) ∙ holds in absurd cc

    filled_true : (j : ℕ) (u : Given) → HasPlaces n → IsGot u v c → (p : Option (ℕ × ℕ)) → slice_get n.fields j ≡ p → IsTrueBefore n v (filled_by (Filled j) (λ f. filled_of n f u) k p) → IsTrueOf n (with_slot k c v) (Filled j)
    filled_true j u places got None at h = λ q o there holds undef. let never : None ≡ Some q = sym at ∙ there in absurd cc
    filled_true j u places got (Some p) at h = λ q o there holds undef.
        let same : Some p ≡ Some q = sym at ∙ there in
        let p_is : p ≡ q = cc in
        by_var q o (p.0 == k) refl p_is there h holds undef
      where
        by_var : (q : ℕ × ℕ) (o : ℕ) (b : Bool) → p.0 == k ≡ b → p ≡ q → slice_get n.fields j ≡ Some q → IsTrueBefore n v (if b then filled_of n p.1 u else Where (Filled j)) → (with_slot k c v).slot q.0 ≡ value.Ptr o → v.cell o q.1 ≡ value.Undef → ⊥
        by_var q o true is p_is there h holds undef =
            filled_got q o u places (sym (eqb-true p.0 k is) ∙ ap (λ (y : ℕ × ℕ). y.0) p_is) got (subst (λ (y : ℕ × ℕ). IsTrueBefore n v (filled_of n y.1 u)) p_is h) holds undef
        by_var q o false is p_is there h holds undef =
            h q o there (sym (set_other q.0 (λ same. eqb-false p.0 k is (ap (λ (y : ℕ × ℕ). y.0) p_is ∙ sym same))) ∙ holds) undef

    -- pairs
    equal_before : (x z : ℕ) → IsTrueBefore n v (equal x z) → v.slot x ≡ v.slot z
    equal_before x z h = by_same (x == z) refl h
      where
        by_order : (b : Bool) → IsTrueBefore n v (Where (if b then Equal x z else Equal z x)) → v.slot x ≡ v.slot z
        by_order true h = h
        by_order false h = sym h

        by_same : (b : Bool) → x == z ≡ b → IsTrueBefore n v (if b then Always else Where (if nat_lt x z then Equal x z else Equal z x)) → v.slot x ≡ v.slot z
        by_same true is h = ap v.slot (eqb-true x z is)
        by_same false is h = by_order (nat_lt x z) h

    apart_before : (x z o : ℕ) → IsTrueBefore n v (apart x z) → v.slot x ≡ value.Ptr o → v.slot z ≡ value.Ptr o → ⊥
    apart_before x z o h one two = by_same (x == z) h
      where
        by_order : (b : Bool) → IsTrueBefore n v (Where (if b then Apart x z else Apart z x)) → ⊥
        by_order true h = h o one two
        by_order false h = h o two one

        by_same : (b : Bool) → IsTrueBefore n v (if b then Never else Where (if nat_lt x z then Apart x z else Apart z x)) → ⊥
        by_same true h = h
        by_same false h = by_order (nat_lt x z) h

    equal_true : (y z : ℕ) (u : Given) → k ≡ y → (k ≡ z → ⊥) → IsGot u v c → IsTrueBefore n v (equal_of z u) → (with_slot k c v).slot y ≡ (with_slot k c v).slot z
    equal_true y z (Copied x) same other got h = set_here y same ∙ got.1 ∙ equal_before x z h ∙ sym (set_other z other)
    equal_true y z Loaded same other got h = absurd h
    equal_true y z Nothing same other got h = absurd h
    equal_true y z Fresh same other got h = absurd h
    equal_true y z Unset same other got h = absurd h

    apart_true : (y z o : ℕ) (u : Given) → k ≡ y → (k ≡ z → ⊥) → IsGot u v c → IsTrueBefore n v (apart_of z u) → (with_slot k c v).slot y ≡ value.Ptr o → (with_slot k c v).slot z ≡ value.Ptr o → ⊥
    apart_true y z o (Copied x) same other got h one two = apart_before x z o h (sym got.1 ∙ sym (set_here y same) ∙ one) (sym (set_other z other) ∙ two)
    apart_true y z o Loaded same other got h one two = h
    apart_true y z o Nothing same other got h one two = let never : value.Null ≡ value.Ptr o = sym got ∙ sym (set_here y same) ∙ one in absurd cc
    apart_true y z o Fresh same other got h one two =
        let objects : value.Ptr got.0 ≡ value.Ptr o = sym got.1 ∙ sym (set_here y same) ∙ one in
        let same_object : got.0 ≡ o = cc in
        got.2.slots z (sym (set_other z other) ∙ two ∙ ap (λ (i : ℕ). value.Ptr i) (sym same_object))
    apart_true y z o Unset same other got h one two = let never : value.Undef ≡ value.Ptr o = sym got ∙ sym (set_here y same) ∙ one in absurd cc

    differ : (y z : ℕ) → (nat_lt y z && nat_lt z (length n.vars)) ≡ true → y ≡ z → ⊥
    differ y z h same = let order : y < z = ltb-true y z (and_parts (nat_lt y z) (nat_lt z (length n.vars)) h).0 in absurd (omega arith)

    pair_equal : (y z : ℕ) (u : Given) (a b : Bool) → k == y ≡ a → k == z ≡ b → (y ≡ z → ⊥) → IsGot u v c → IsTrueBefore n v (pair_of (Equal y z) (λ o. equal_of o u) (if a then Some z else if b then Some y else None)) → IsTrueOf n (with_slot k c v) (Equal y z)
    pair_equal y z u true b is too apart got h = equal_true y z u (eqb-true k y is) (λ same. apart (sym (eqb-true k y is) ∙ same)) got h
    pair_equal y z u false true is too apart got h = sym (equal_true z y u (eqb-true k z too) (λ same. eqb-false k y is same) got h)
    pair_equal y z u false false is too apart got h = set_other y (eqb-false k y is) ∙ h ∙ sym (set_other z (eqb-false k z too))

    pair_apart : (y z : ℕ) (u : Given) (a b : Bool) → k == y ≡ a → k == z ≡ b → (y ≡ z → ⊥) → IsGot u v c → IsTrueBefore n v (pair_of (Apart y z) (λ o. apart_of o u) (if a then Some z else if b then Some y else None)) → IsTrueOf n (with_slot k c v) (Apart y z)
    pair_apart y z u true b is too apart got h = λ o one two. apart_true y z o u (eqb-true k y is) (λ same. apart (sym (eqb-true k y is) ∙ same)) got h one two
    pair_apart y z u false true is too apart got h = λ o one two. apart_true z y o u (eqb-true k z too) (λ same. eqb-false k y is same) got h two one
    pair_apart y z u false false is too apart got h = λ o one two. h o (sym (set_other y (eqb-false k y is)) ∙ one) (sym (set_other z (eqb-false k z too)) ∙ two)

    given_true : (f : Fact) (u : Given) → HasPlaces n → is_fact n f ≡ true → IsGot u v c → IsTrueBefore n v (before_given n k u f) → IsTrueOf n (with_slot k c v) f
    given_true (Ready y) u places fact got h = by_var (k == y) refl h
      where
        by_var : (b : Bool) → k == y ≡ b → IsTrueBefore n v (if b then ready_of u else Where (Ready y)) → IsTrueOf n (with_slot k c v) (Ready y)
        by_var true is h = ready_true y u (eqb-true k y is) got h
        by_var false is h = λ undef. h (sym (set_other y (eqb-false k y is)) ∙ undef)
    given_true (Full y) u places fact got h = by_var (k == y) refl h
      where
        by_var : (b : Bool) → k == y ≡ b → IsTrueBefore n v (if b then full_of u else Where (Full y)) → IsTrueOf n (with_slot k c v) (Full y)
        by_var true is h = full_true y u (eqb-true k y is) got h
        by_var false is h = (h.0, set_other y (eqb-false k y is) ∙ h.1)
    given_true (Filled j) u places fact got h = filled_true j u places got (slice_get n.fields j) refl h
    given_true (Equal y z) u places fact got h = pair_equal y z u (k == y) (k == z) refl refl (differ y z fact) got h
    given_true (Apart y z) u places fact got h = pair_apart y z u (k == y) (k == z) refl refl (differ y z fact) got h

    itself_same : (u : Given) → is_itself k u ≡ true → IsGot u v c → with_slot k c v ≡ v
    itself_same (Copied y) is got = same_is (record { slot = slots; cell = λ o f. refl })
      where
        slots : (j : ℕ) → (with_slot k c v).slot j ≡ v.slot j
        slots j = by_place (j == k) refl
          where
            by_place : (b : Bool) → j == k ≡ b → (if b then c else v.slot j) ≡ v.slot j
            by_place true at = got.1 ∙ ap v.slot (sym (eqb-true k y is) ∙ sym (eqb-true j k at))
            by_place false at = refl
    itself_same Loaded is got = absurd cc
    itself_same Nothing is got = absurd cc
    itself_same Fresh is got = absurd cc
    itself_same Unset is got = absurd cc

    set_true : (f : Fact) (u : Given) → HasPlaces n → is_fact n f ≡ true → IsGot u v c → IsTrueBefore n v (before_set n k u f) → IsTrueOf n (with_slot k c v) f
    set_true f u places fact got h = by_itself (is_itself k u) refl h
      where
        by_itself : (b : Bool) → is_itself k u ≡ b → IsTrueBefore n v (if b then Where f else before_given n k u f) → IsTrueOf n (with_slot k c v) f
        by_itself true is h = subst (λ (w : View). IsTrueOf n w f) (sym (itself_same u is got)) h
        by_itself false is h = given_true f u places fact got h

  -- deeds

  -- behind one deed
  pub deed_true : (g : Graph) (sites : List ℕ) (d : Deed) (s t : Seen) (f : Fact) → HasPlaces n → ((j : ℕ) (q : ℕ × ℕ) → slice_get n.fields j ≡ Some q → q.0 < length n.vars) → is_fact n f ≡ true → Does n g sites d s t →
      IsTrueBefore n s.view (before_deed n d f) → IsTrueOf n t.view f
  deed_true g sites (Reads (read.Name k) noted) s t f places low fact does h =
      subst (λ (v : View). IsTrueOf n v f) (sym (ap (λ (x : Seen). x.view) does.3))
      (shown_true s.view s.view (read_shows n (read.Name k) f) f (λ is. read_true s.view k f fact (λ undef. does.2 (sym does.1 ∙ undef)) is) (λ old. old) h)
  deed_true g sites (Reads (read.Deep a b) noted) s t f places low fact does h =
      subst (λ (v : View). IsTrueOf n v f) (sym (ap (λ (x : Seen). x.view) does.3)) (shown_true s.view s.view (read_shows n (read.Deep a b) f) f (λ is. deep_true s.view a b f is) (λ old. old) h)
  deed_true g sites (Follows k) s t f places low fact does h =
      subst (λ (v : View). IsTrueOf n v f) (sym (ap (λ (x : Seen). x.view) does.2)) (shown_true s.view s.view (follow_shows k f) f (λ is. follow_true s.view k does.0 f does.1 is) (λ old. old) h)
  deed_true g sites (Says w) s t f places low fact does h =
      subst (λ (v : View). IsTrueOf n v f) (sym (ap (λ (x : Seen). x.view) does.1)) (shown_true s.view s.view (saying_shows n w f) f (λ is. saying_true g sites s w f low fact does.0 is) (λ old. old) h)
  deed_true g sites (Sets k src) s t f places low fact does h =
      subst (λ (v : View). IsTrueOf n v f) (sym (ap (λ (x : Seen). x.view) does.2)) (set_true s.view k does.0 f (given n src) places fact (got g sites s src does.0 does.1) h)
  deed_true g sites (SetsField r c a src) s t f places low fact does h =
      subst (λ (v : View). IsTrueOf n v f) (sym (ap (λ (x : Seen). x.view) does.6))
      (shown_true s.view (with_field does.0 a does.1 s.view) (write_shows n r a f) f (λ is. field_true s.view r does.0 a does.1 f g sites fact low does.2 does.5 is) (λ old. field_kept s.view does.0 a does.1 f does.5 old) h)

  -- facts come from facts

  abbrev pub IsFactBefore : Before → Type 0
  IsFactBefore Always = Unit {0}
  IsFactBefore Never = Unit {0}
  IsFactBefore (Where f) = is_fact n f ≡ true

  abbrev IsLowGiven : Given → Type 0
  IsLowGiven (Copied y) = nat_lt y (length n.vars) ≡ true
  IsLowGiven Loaded = Unit {0}
  IsLowGiven Nothing = Unit {0}
  IsLowGiven Fresh = Unit {0}
  IsLowGiven Unset = Unit {0}

  both_true : (a b : Bool) → a ≡ true → b ≡ true → (a && b) ≡ true
  both_true a b h g = ap (λ (x : Bool). x && b) h ∙ g

  read_given : (k : ℕ) (b : Bool) → nat_lt k (length n.vars) ≡ b → IsLowGiven (if b then Copied k else Loaded)
  read_given k true low = low
  read_given k false low = tt

  low_given : (src : Source) → IsLowGiven (given n src)
  low_given (source.Content (looked.Name k)) = read_given k (nat_lt k (length n.vars)) refl
  low_given (source.Content (looked.Deep a b e)) = tt
  low_given source.Null = tt
  low_given (source.New site) = tt
  low_given source.Undef = tt

  shown_fact : (b : Bool) (f : Fact) → is_fact n f ≡ true → IsFactBefore (shown b f)
  shown_fact true f h = tt
  shown_fact false f h = h

  ready_fact : (u : Given) → IsFactBefore (ready_of u)
  ready_fact (Copied y) = tt
  ready_fact Loaded = tt
  ready_fact Nothing = tt
  ready_fact Fresh = tt
  ready_fact Unset = tt

  full_fact : (u : Given) → IsLowGiven u → IsFactBefore (full_of u)
  full_fact (Copied y) low = low
  full_fact Loaded low = tt
  full_fact Nothing low = tt
  full_fact Fresh low = tt
  full_fact Unset low = tt

  place_fact : (y f : ℕ) (i : Option ℕ) → field_place n.fields y f ≡ i → HasPlaces n → IsFactBefore (filled i)
  place_fact y f None at places = tt
  place_fact y f (Some i) at places = lt-ltb i (length n.fields) (slice_get_within n.fields i (y, f) (places.field_there y f i at))

  filled_fact : (f : ℕ) (u : Given) → HasPlaces n → IsFactBefore (filled_of n f u)
  filled_fact f (Copied y) places = place_fact y f (field_place n.fields y f) refl places
  filled_fact f Loaded places = tt
  filled_fact f Nothing places = tt
  filled_fact f Fresh places = tt
  filled_fact f Unset places = tt

  after : (x z : ℕ) → (x == z) ≡ false → nat_lt x z ≡ false → nat_lt z x ≡ true
  after x z apart isnt =
      let le : z ≤ x = ltb-false x z isnt in
      lt-ltb z x (order (eqb-false x z apart) le)
    where
      order : (x ≡ z → ⊥) → z ≤ x → z < x
      order apart le = ⊎_elim (λ low. low) (λ same. absurd (apart same)) (by_cases (nat_lt z x) refl)
        where
          by_cases : (b : Bool) → nat_lt z x ≡ b → (z < x) ⊎ (x ≡ z)
          by_cases true e = inl (ltb-true z x e)
          by_cases false e = let back : x ≤ z = ltb-false z x e in let same : x ≡ z = omega arith in inr same

  module _ (pair : ℕ → ℕ → Fact) (is_pair_fact : (x y : ℕ) → is_fact n (pair x y) ≡ (nat_lt x y && nat_lt y (length n.vars))) where
    ordered_fact : (x z : ℕ) (b : Bool) → nat_lt x z ≡ b → (x == z) ≡ false → nat_lt x (length n.vars) ≡ true → nat_lt z (length n.vars) ≡ true → is_fact n (if b then pair x z else pair z x) ≡ true
    ordered_fact x z true is apart x_low z_low = is_pair_fact x z ∙ both_true (nat_lt x z) (nat_lt z (length n.vars)) is z_low
    ordered_fact x z false is apart x_low z_low = is_pair_fact z x ∙ both_true (nat_lt z x) (nat_lt x (length n.vars)) (after x z apart is) x_low

  equal_fact : (x z : ℕ) → nat_lt x (length n.vars) ≡ true → nat_lt z (length n.vars) ≡ true → IsFactBefore (equal x z)
  equal_fact x z x_low z_low = by_same (x == z) refl
    where
      by_same : (b : Bool) → x == z ≡ b → IsFactBefore (if b then Always else Where (if nat_lt x z then Equal x z else Equal z x))
      by_same true is = tt
      by_same false is = ordered_fact Equal (λ x y. refl) x z (nat_lt x z) refl is x_low z_low

  apart_fact : (x z : ℕ) → nat_lt x (length n.vars) ≡ true → nat_lt z (length n.vars) ≡ true → IsFactBefore (apart x z)
  apart_fact x z x_low z_low = by_same (x == z) refl
    where
      by_same : (b : Bool) → x == z ≡ b → IsFactBefore (if b then Never else Where (if nat_lt x z then Apart x z else Apart z x))
      by_same true is = tt
      by_same false is = ordered_fact Apart (λ x y. refl) x z (nat_lt x z) refl is x_low z_low

  equal_of_fact : (z : ℕ) (u : Given) → IsLowGiven u → nat_lt z (length n.vars) ≡ true → IsFactBefore (equal_of z u)
  equal_of_fact z (Copied y) low z_low = equal_fact y z low z_low
  equal_of_fact z Loaded low z_low = tt
  equal_of_fact z Nothing low z_low = tt
  equal_of_fact z Fresh low z_low = tt
  equal_of_fact z Unset low z_low = tt

  apart_of_fact : (z : ℕ) (u : Given) → IsLowGiven u → nat_lt z (length n.vars) ≡ true → IsFactBefore (apart_of z u)
  apart_of_fact z (Copied y) low z_low = apart_fact y z low z_low
  apart_of_fact z Loaded low z_low = tt
  apart_of_fact z Nothing low z_low = tt
  apart_of_fact z Fresh low z_low = tt
  apart_of_fact z Unset low z_low = tt

  pair_fact : (f : Fact) (about : ℕ → Before) (y z : ℕ) (a b : Bool) → is_fact n f ≡ true → IsFactBefore (about y) → IsFactBefore (about z) → IsFactBefore (pair_of f about (if a then Some z else if b then Some y else None))
  pair_fact f about y z true b h one two = two
  pair_fact f about y z false true h one two = one
  pair_fact f about y z false false h one two = h

  if_fact : (b : Bool) (x y : Before) → IsFactBefore x → IsFactBefore y → IsFactBefore (if b then x else y)
  if_fact true x y h g = h
  if_fact false x y h g = g

  field_fact : (k : ℕ) (h : Fact) (u : Given) (p : Option (ℕ × ℕ)) → HasPlaces n → is_fact n h ≡ true → IsFactBefore (filled_by h (λ f. filled_of n f u) k p)
  field_fact k h u None places fact = fact
  field_fact k h u (Some p) places fact = if_fact (p.0 == k) (filled_of n p.1 u) (Where h) (filled_fact p.1 u places) fact

  lows : (y z : ℕ) → (nat_lt y z && nat_lt z (length n.vars)) ≡ true → (nat_lt y (length n.vars) ≡ true) × (nat_lt z (length n.vars) ≡ true)
  lows y z h = let it = pair_low y z h in (lt-ltb y (length n.vars) it.0, lt-ltb z (length n.vars) it.1)

  given_fact : (k : ℕ) (u : Given) (f : Fact) → HasPlaces n → IsLowGiven u → is_fact n f ≡ true → IsFactBefore (before_given n k u f)
  given_fact k u (Ready y) places low fact = if_fact (k == y) (ready_of u) (Where (Ready y)) (ready_fact u) fact
  given_fact k u (Full y) places low fact = if_fact (k == y) (full_of u) (Where (Full y)) (full_fact u low) fact
  given_fact k u (Filled j) places low fact = field_fact k (Filled j) u (slice_get n.fields j) places fact
  given_fact k u (Equal y z) places low fact = let both = lows y z fact in pair_fact (Equal y z) (λ o. equal_of o u) y z (k == y) (k == z) fact (equal_of_fact y u low both.0) (equal_of_fact z u low both.1)
  given_fact k u (Apart y z) places low fact = let both = lows y z fact in pair_fact (Apart y z) (λ o. apart_of o u) y z (k == y) (k == z) fact (apart_of_fact y u low both.0) (apart_of_fact z u low both.1)

  deed_fact : (d : Deed) (f : Fact) → HasPlaces n → is_fact n f ≡ true → IsFactBefore (before_deed n d f)
  deed_fact (Reads r noted) f places fact = shown_fact (read_shows n r f) f fact
  deed_fact (Follows k) f places fact = shown_fact (follow_shows k f) f fact
  deed_fact (Says w) f places fact = shown_fact (saying_shows n w f) f fact
  deed_fact (Sets k src) f places fact = if_fact (is_itself k (given n src)) (Where f) (before_given n k (given n src) f) fact (given_fact k (given n src) f places (low_given src) fact)
  deed_fact (SetsField r c a src) f places fact = shown_fact (write_shows n r a f) f fact

  pub deeds_fact : (ds : List Deed) (f : Fact) → HasPlaces n → is_fact n f ≡ true → IsFactBefore (before_deeds n ds f)
  deeds_fact [] f places fact = fact
  deeds_fact (d ∷ ds) f places fact = by_rest (before_deeds n ds f) (deeds_fact ds f places fact)
    where
      by_rest : (b : Before) → IsFactBefore b → IsFactBefore (before_with (before_deed n d) b)
      by_rest Always h = tt
      by_rest Never h = tt
      by_rest (Where g) h = deed_fact d g places h

  -- behind deeds
  pub deeds_true : (g : Graph) (sites : List ℕ) (ds : List Deed) (s t : Seen) (f : Fact) → HasPlaces n → ((j : ℕ) (q : ℕ × ℕ) → slice_get n.fields j ≡ Some q → q.0 < length n.vars) → is_fact n f ≡ true → DoesAll n g sites ds s t →
      IsTrueBefore n s.view (before_deeds n ds f) → IsTrueOf n t.view f
  deeds_true g sites [] s t f places low fact does h = subst (λ (x : Seen). IsTrueOf n x.view f) (sym does) h
  deeds_true g sites (d ∷ ds) s t f places low fact does h = deeds_true g sites ds does.0 t f places low fact does.2 (by_rest (before_deeds n ds f) (deeds_fact ds f places fact) h)
    where
      by_rest : (b : Before) → IsFactBefore b → IsTrueBefore n s.view (before_with (before_deed n d) b) → IsTrueBefore n does.0.view b
      by_rest Always is h = tt
      by_rest Never is h = h
      by_rest (Where g1) is h = deed_true g sites d s does.0 g1 places low is does.1 h
