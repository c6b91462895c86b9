-- The frees of a gap free what the marks there say, each object once, and none of them reads a freed object.
use Rattle.std.proofs.Common.{◌≡◌, ℕ, ◌+◌, ◌-◌, ◌<◌, ◌&&◌, ◌||◌, inl, inr, Bool, true, false, not, List, [], ◌∷◌, length, map, slice_get, Option, Some, None, option_and_then, refl, ap, sym, subst, ◌∙◌, arith}
use Rattle.std.specs.Prelude.{max, nat_lt, if◌then◌else◌}
use Rattle.std.specs.List.{list_all}
use Rattle.std.proofs.Math.Bool.{or-false}
use Rattle.std.proofs.lemmas.Bool.{true≢false, false≢true, and_parts, or_parts, or_right, not-false, lt-ltb}
use Rattle.std.proofs.lemmas.Option.{slice_get_within}
use Rattle.c_tree.specs.Typing.{has}
use Rattle.c_tree.specs.declared.expr.Expr.{Expr, Expr-F, out-Expr, map-Expr, fold_out-Expr}
use Rattle.c_tree.specs.declared.expr.Expr.TheOpen.{Const, Null, Var, Field, Deref, Index, Unary, Binary}
use Rattle.c_tree.specs.declared.program.Free.{Free}
use Rattle.c_tree.specs.declared.program.Program.{Program}
use Rattle.c_meaning.specs.declared.value.Value.TheVariants as value
use Rattle.c_meaning.specs.Effects.{is_over, all_freed}
use Rattle.c_meaning.specs.Machine.{Store}
use Rattle.call_contexts.proofs.Has.{Has, first, later}
use Rattle.c_graph.specs.declared.graph.Graph.{Graph}
use Rattle.mf_set.specs.Numbers.{has as has_number}
use Rattle.ts_domain.specs.declared.fact.Fact.{Fact}
use Rattle.ts_domain.specs.declared.fact.Fact.TheVariants.{Ready, Full, Filled}
use Rattle.ts_domain.specs.declared.names.Names.{Names}
use Rattle.ts_domain.specs.declared.names.Read.{Read}
use Rattle.ts_domain.specs.declared.names.Read.TheVariants as read
use Rattle.ts_domain.specs.declared.pointers.Pointer.{Pointer}
use Rattle.ts_domain.specs.Deeds.{is_null, is_null_layer}
use Rattle.ts_domain.specs.Describing.{Describes}
use Rattle.ts_domain.specs.Holding.{FactsHold}
use Rattle.ts_domain.specs.Looks.{Look, look, look_layer, pointer_of}
use Rattle.ts_domain.specs.Marks.{field_at}
use Rattle.ts_domain.specs.Path.{holds_at}
use Rattle.ts_domain.specs.PeekedFrees.{IsNumber, IsFieldOf, IsReadable, IsSure, KeepsBits, AreBits}
use Rattle.ts_domain.specs.Truth.{IsTrueOf}
use Rattle.ts_domain.specs.Views.{AreNames, View, view_of, peek, peek_field}
use Rattle.ts_domain.proofs.GapFrees.{gap_frees}
use Rattle.ts_domain.proofs.NameLaws.{low_fields}
use Rattle.cover_certificate.specs.declared.types.Cert.{Cert}
use Rattle.cover_certificate.specs.declared.types.CertMark.{CertMark}
use Rattle.cover_certificate.specs.Closed.{IsClosed, asked, freed_behind, frees, frees_again, frees_at, is_readable, is_sure, is_undecided, name_of, named, names_freed, reads_base, reads_freed, some_mark}
use Rattle.cert_checker.proofs.ClosedConditions.{all_has, and_rest, of_mark, sure_at, none_reads, none_again}

-- numbers of what is freed

-- a null constant has none
null_unnamed : (n : Names) (e : Expr) → is_null e ≡ true → named n e ≡ None
null_unnamed n e is =
    ap (option_and_then (λ (q : Pointer). name_of q.read)) (ap (λ (l : Look). l.pointer) (fold_out-Expr Look (look_layer n) e) ∙ by_layer (out-Expr e) is)
  where
    by_layer : (x : Expr-F Expr) → is_null_layer x ≡ true → (look_layer n (map-Expr Expr Look (look n) x)).pointer ≡ None
    by_layer (Const v at) is = refl
    by_layer (Null at) is = refl
    by_layer (Var x at) is = absurd cc
    by_layer (Field b f at) is = absurd cc
    by_layer (Deref b at) is = absurd cc
    by_layer (Index b i at) is = absurd cc
    by_layer (Unary o b at) is = absurd cc
    by_layer (Binary o a b at) is = absurd cc

number_named : (n : Names) (w : View) (e : Expr) (m : ℕ) → IsNumber n w e m → named n e ≡ Some m
number_named n w e m number = ap (option_and_then (λ (q : Pointer). name_of q.read)) number.1 ∙ ap name_of number.2

variable_no_field : (n : Names) (m : ℕ) → m < length n.vars → field_at n m ≡ None
variable_no_field n m low = ap (λ (b : Bool). if b then None else slice_get n.fields (m - length n.vars)) (lt-ltb m (length n.vars) low)

behind_variables : (a m j : ℕ) → m ≡ a + j → m - a ≡ j
behind_variables a m j is = omega (arith, is)

field_there : (n : Names) (m j : ℕ) (q : ℕ × ℕ) → m ≡ length n.vars + j → slice_get n.fields j ≡ Some q → field_at n m ≡ Some q
field_there n m j q is there =
    let past : nat_lt m (length n.vars) ≡ false = grind arith in
    let same = behind_variables (length n.vars) m j is in
    ap (λ (b : Bool). if b then None else slice_get n.fields (m - length n.vars)) past ∙ ap (slice_get n.fields) same ∙ there

module _ (p : Program) (g : Graph) (n : Names) (names : AreNames p g n) (c : Cert) (closed : IsClosed n g c) (v : ℕ) (low : v < max 1 (length g.nodes)) (sites : List ℕ) (w : View) (facts : FactsHold n c.path v w) where
  abbrev numbers : List Free → List (Option ℕ)
  numbers fs = map (λ (f : Free). named n f.expr) fs

  -- a mark that describes an object of that bit where these frees are left
  pub record Left (o : ℕ) (b : Bool) (fs : List Free) : Type 0 where
    pub mark : CertMark
    pub among : Has mark c.marks
    pub at : mark.node ≡ v
    pub describes : Describes n sites w mark.mark o
    pub behind : freed_behind mark.mark (names_freed n g v) mark.freed ≡ freed_behind mark.mark (numbers fs) b
    pub reads : reads_freed n mark.mark (numbers fs) b ≡ false
    pub again : frees_again mark.mark (numbers fs) b ≡ false
    pub rest : (f : Free) → Has f fs → Has f (frees_at g v)

  -- with one free less
  next : (o : ℕ) (b d : Bool) (f : Free) (fs : List Free) (h : Left o b (f ∷ fs)) → (b || frees h.mark.mark (named n f.expr)) ≡ d → Left o d fs
  next o b d f fs h is = record {
    mark = h.mark;
    among = h.among;
    at = h.at;
    describes = h.describes;
    behind = h.behind ∙ ap (freed_behind h.mark.mark (numbers fs)) is;
    reads = sym (ap (reads_freed n h.mark.mark (numbers fs)) is) ∙ (or_parts (b && reads_base n h.mark.mark (named n f.expr)) (reads_freed n h.mark.mark (numbers fs) (b || frees h.mark.mark (named n f.expr))) h.reads).1;
    again = sym (ap (frees_again h.mark.mark (numbers fs)) is) ∙ (or_parts (b && frees h.mark.mark (named n f.expr)) (frees_again h.mark.mark (numbers fs) (b || frees h.mark.mark (named n f.expr))) h.again).1;
    rest = λ d there. h.rest d (later there);
  }

  not_freed : (o : ℕ) (b : Bool) (f : Free) (fs : List Free) (h : Left o b (f ∷ fs)) → frees h.mark.mark (named n f.expr) ≡ false → Left o b fs
  not_freed o b f fs h is = next o b b f fs h (ap (λ (x : Bool). b || x) is ∙ or-false b)

  -- what a free of a gap is: a null constant, or sure by its number
  is_sure_by : (f : Free) → Has f (frees_at g v) → is_null f.expr ≡ false → has (is_sure n c v) (named n f.expr) ≡ true
  is_sure_by f there is =
      not-false (has (is_sure n c v) (named n f.expr))
      (and_rest (not (is_null f.expr)) (not (has (is_sure n c v) (named n f.expr))) (ap not is) (sure_at n g c closed v f low there))

  sure_of_number : (f : Free) (m : ℕ) → Has f (frees_at g v) → named n f.expr ≡ Some m → is_sure n c v m ≡ true
  sure_of_number f m there is = by_null (is_null f.expr) refl
    where
      by_null : (b : Bool) → is_null f.expr ≡ b → is_sure n c v m ≡ true
      by_null true null = let never : None ≡ Some m = sym (null_unnamed n f.expr null) ∙ is in absurd cc
      by_null false isnt = sym (ap (has (is_sure n c v)) is) ∙ is_sure_by f there isnt

  -- a mark that decides an expression and describes what it holds has it
  decided_holds : (x : CertMark) (o m : ℕ) → Has x c.marks → x.node ≡ v → Describes n sites w x.mark o → is_sure n c v m ≡ true → peek n w m ≡ value.Ptr o → has_number x.mark.holds.items m ≡ true
  decided_holds x o m among at describes sure held = by_holds (has_number x.mark.holds.items m) (has_number x.mark.lacks.items m) refl refl
    where
      decided : is_undecided m x ≡ false
      decided = of_mark n g c closed v x (is_undecided m) among at (not-true (some_mark c v (is_undecided m)) (and_parts (is_readable n c.path v m) (not (some_mark c v (is_undecided m))) sure).1)
        where
          not-true : (b : Bool) → not b ≡ true → b ≡ false
          not-true true h = absurd (false≢true h)
          not-true false h = refl

      by_holds : (a b : Bool) → has_number x.mark.holds.items m ≡ a → has_number x.mark.lacks.items m ≡ b → a ≡ true
      by_holds true b is also = refl
      by_holds false true is also = absurd (describes.lacks m also held)
      by_holds false false is also =
          let open_there : is_undecided m x ≡ true = ap (λ (a : Bool). not a && not (has_number x.mark.lacks.items m)) is ∙ ap (λ (b : Bool). not b) also in
          absurd (true≢false (sym open_there ∙ decided))

  keeps : KeepsBits n w Left
  keeps = record { null = null; other = other; frees = frees_it; base = base }
    where
      null : (o : ℕ) (b : Bool) (f : Free) (fs : List Free) → is_null f.expr ≡ true → Left o b (f ∷ fs) → Left o b fs
      null o b f fs is h = not_freed o b f fs h (ap (frees h.mark.mark) (null_unnamed n f.expr is))

      other : (o : ℕ) (b : Bool) (f : Free) (fs : List Free) (m : ℕ) → IsNumber n w f.expr m → (peek n w m ≡ value.Ptr o → ⊥) → Left o b (f ∷ fs) → Left o b fs
      other o b f fs m number apart h = not_freed o b f fs h (ap (frees h.mark.mark) (number_named n w f.expr m number) ∙ by_holds (has_number h.mark.mark.holds.items m) refl)
        where
          by_holds : (a : Bool) → has_number h.mark.mark.holds.items m ≡ a → a ≡ false
          by_holds true is = absurd (apart (h.describes.holds m is))
          by_holds false is = refl

      frees_it : (o : ℕ) (b : Bool) (f : Free) (fs : List Free) (m : ℕ) → IsNumber n w f.expr m → peek n w m ≡ value.Ptr o → Left o b (f ∷ fs) → (b ≡ false) × Left o true fs
      frees_it o b f fs m number held h = (by_bit b refl, next o b true f fs h (or_right b (frees h.mark.mark (named n f.expr)) holds))
        where
          is_named : named n f.expr ≡ Some m
          is_named = number_named n w f.expr m number

          holds : frees h.mark.mark (named n f.expr) ≡ true
          holds = ap (frees h.mark.mark) is_named ∙ decided_holds h.mark o m h.among h.at h.describes (sure_of_number f m (h.rest f first) is_named) held

          by_bit : (a : Bool) → b ≡ a → a ≡ false
          by_bit true is =
              let twice : (b && frees h.mark.mark (named n f.expr)) ≡ true = ap (λ (x : Bool). x && frees h.mark.mark (named n f.expr)) is ∙ holds in
              absurd (true≢false (sym twice ∙ (or_parts (b && frees h.mark.mark (named n f.expr)) (frees_again h.mark.mark (numbers fs) (b || frees h.mark.mark (named n f.expr))) h.again).0))
          by_bit false is = refl

      base : (o : ℕ) (f : Free) (fs : List Free) (m k : ℕ) → IsNumber n w f.expr m → IsFieldOf n w m k → w.slot k ≡ value.Ptr o → Left o true (f ∷ fs) → ⊥
      base o f fs m k number field held h =
          let at : option_and_then (field_at n) (named n f.expr) ≡ Some (k, field.1) = ap (option_and_then (field_at n)) (number_named n w f.expr m number) ∙ field_there n m field.0 (k, field.1) field.2 field.3 in
          let none : reads_base n h.mark.mark (named n f.expr) ≡ false = (or_parts (reads_base n h.mark.mark (named n f.expr)) (reads_freed n h.mark.mark (numbers fs) true) h.reads).0 in
          let lacks : has_number h.mark.mark.lacks.items k ≡ true =
          not-false (has_number h.mark.mark.lacks.items k) (sym (ap (has (λ (q : ℕ × ℕ). not (has_number h.mark.mark.lacks.items q.0))) at) ∙ none) in
          let within : k < length n.vars = low_fields p g n names field.0 (k, field.1) field.3 in
          let seen : peek n w k ≡ w.slot k = ap (λ (b : Bool). if b then w.slot k else peek_field w (slice_get n.fields (k - length n.vars))) (lt-ltb k (length n.vars) within) in
          h.describes.lacks k lacks (seen ∙ held)

  -- what a free asks for is true
  readable : (m : ℕ) → is_readable n c.path v m ≡ true → IsReadable n w m
  readable m all = (variable, member)
    where
      noted : (q : Option (ℕ × ℕ)) (f : Fact) → field_at n m ≡ q → Has f (asked (length n.vars) m q) → holds_at n c.path v f ≡ true
      noted q f at there = all_has (holds_at n c.path v) (asked (length n.vars) m q) (sym (ap (λ (x : Option (ℕ × ℕ)). list_all (holds_at n c.path v) (asked (length n.vars) m x)) at) ∙ all) there

      variable : m < length n.vars → IsTrueOf n w (Ready m)
      variable within = facts (Ready m) (lt-ltb m (length n.vars) within) (noted None (Ready m) (variable_no_field n m within) first)

      member : (j k h : ℕ) → m ≡ length n.vars + j → slice_get n.fields j ≡ Some (k, h) → IsTrueOf n w (Full k) × IsTrueOf n w (Filled j)
      member j k h is there =
          let at = field_there n m j (k, h) is there in
          let within : k < length n.vars = low_fields p g n names j (k, h) there in
          let same = behind_variables (length n.vars) m j is in (
            facts (Full k) (lt-ltb k (length n.vars) within) (noted (Some (k, h)) (Full k) at (later first)),
            facts (Filled j) (lt-ltb j (length n.fields) (slice_get_within n.fields j (k, h) there))
                (sym (ap (λ (i : ℕ). holds_at n c.path v (Filled i)) same) ∙ noted (Some (k, h)) (Filled (m - length n.vars)) at (later (later first))),
          )

  sure : (f : Free) → Has f (frees_at g v) → IsSure n w f
  sure f there = by_null (is_null f.expr) refl
    where
      by_read : (q : Pointer) (r : Read) → pointer_of n f.expr ≡ Some q → q.read ≡ r → is_null f.expr ≡ false → IsSure n w f
      by_read q (read.Name m) at is isnt =
          let it = sure_of_number f m there (number_named n w f.expr m (q, at, is)) in
          inr (m, (q, at, is), readable m (and_parts (is_readable n c.path v m) (not (some_mark c v (is_undecided m))) it).0)
      by_read q (read.Deep x y) at is isnt =
          let none : named n f.expr ≡ None = ap (option_and_then (λ (q : Pointer). name_of q.read)) at ∙ ap name_of is in
          absurd (false≢true (sym (ap (has (is_sure n c v)) none) ∙ is_sure_by f there isnt))

      by_pointer : (o : Option Pointer) → pointer_of n f.expr ≡ o → is_null f.expr ≡ false → IsSure n w f
      by_pointer None at isnt =
          let none : named n f.expr ≡ None = ap (option_and_then (λ (q : Pointer). name_of q.read)) at in
          absurd (false≢true (sym (ap (has (is_sure n c v)) none) ∙ is_sure_by f there isnt))
      by_pointer (Some q) at isnt = by_read q q.read at refl isnt

      by_null : (b : Bool) → is_null f.expr ≡ b → IsSure n w f
      by_null true is = inl is
      by_null false isnt = by_pointer (pointer_of n f.expr) refl isnt

  -- at the beginning all frees are left
  pub at_first : (o : ℕ) (b : Bool) (x : CertMark) → Has x c.marks → x.node ≡ v → Describes n sites w x.mark o → x.freed ≡ b → Left o b (frees_at g v)
  at_first o b x among at describes is = subst (λ (a : Bool). Left o a (frees_at g v)) is (record {
    mark = x;
    among = among;
    at = at;
    describes = describes;
    behind = refl;
    reads = none_reads n g c closed v x low among at;
    again = none_again n g c closed v x low among at;
    rest = λ f there. there;
  })

  -- all frees are done without a fault, and each object has a mark that says whether it is freed then
  pub gap_done : (s : Store) → view_of n s ≡ w → is_over s.ending ≡ false → AreBits n w Left (frees_at g v) s → (is_over (all_freed (frees_at g v) s).ending ≡ false) × AreBits n w Left [] (all_freed (frees_at g v) s)
  gap_done s view going bits = gap_frees p g n names sites w Left keeps (frees_at g v) s view sure going bits
