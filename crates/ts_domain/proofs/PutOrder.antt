-- The puts of a well-formed program ascend.
use Rattle.std.proofs.Common.{◌≡◌, ℕ, zero, suc, ◌+◌, ◌<◌, ◌≤◌, Bool, true, false, ◌||◌, List, [], ◌∷◌, ◌++◌, length, map, filter, flat_map, slice_get, Option, option_map, Some, None, if◌then◌else◌, refl, ap, sym, ◌∙◌, arith}
use Rattle.std.specs.Prelude.{nat_lt}
use Rattle.std.specs.List.{range_with_len}
use Rattle.std.proofs.lemmas.Bool.{eq-eqb, lt-ltb}
use Rattle.c_tree.specs.Fill.{ascends, precedes, precedes_in_gap}
use Rattle.c_tree.specs.Typing.{has, is_behind}
use Rattle.c_tree.specs.WellFormed.{IsWellFormed}
use Rattle.c_tree.specs.declared.choice.Put.{Put}
use Rattle.c_tree.specs.declared.program.FieldDef.{FieldDef}
use Rattle.c_tree.specs.declared.program.Program.{Program}
use Rattle.c_tree.specs.declared.program.StructDef.{StructDef}
use Rattle.c_tree.specs.declared.program.Ty.{Ty}
use Rattle.c_tree.specs.declared.program.Ty.TheVariants as ty
use Rattle.c_tree.specs.declared.program.VarDef.{VarDef}
use Rattle.c_graph.specs.declared.graph.Graph.{Graph}
use Rattle.c_scopes.specs.ScopeAt.{GapScope, Ascending, Within, scopes}
use Rattle.c_scopes.specs.Turns.{is_shown, narrowed}
use Rattle.c_scopes.proofs.ScopeAscends.{rows_rise}
use Rattle.c_scopes.proofs.ScopeNumbers.{row_numbers, rows_numbered}
use Rattle.c_scopes.proofs.ScopeOrder.{AllRise, within_from, within_range}
use Rattle.c_scopes.proofs.TurnRows.{same_numbers}
use Rattle.ts_domain.specs.Numbering.{defined_fields, type_fields, var_fields}
use Rattle.ts_domain.specs.Pointers.{is_pointer}
use Rattle.ts_domain.specs.Puts.{any_puts, body_of, field_puts, fields_at, gap_offset, gap_puts, is_reached, no_pointers, puts_in, puts_of, var_put}

-- all puts of a list

pub data Each (Q : Put → Type 0) : List Put → Type 0 where
  each_none : Each Q []
  each_more : {p : Put} {ps : List Put} → Q p → Each Q ps → Each Q (p ∷ ps)

each_both : {Q : Put → Type 0} (xs ys : List Put) → Each Q xs → Each Q ys → Each Q (xs ++ ys)
each_both [] ys h k = k
each_both (x ∷ xs) ys (each_more q h) k = each_more q (each_both xs ys h k)

each_from : {Q R : Put → Type 0} (ps : List Put) → ((p : Put) → Q p → R p) → Each Q ps → Each R ps
each_from [] f h = each_none
each_from (p ∷ ps) f (each_more q h) = each_more (f p q) (each_from ps f h)

-- each put precedes all behind it
pub data Rises : List Put → Type 0 where
  rises_none : Rises []
  rises_more : {p : Put} {ps : List Put} → Each (λ q. precedes p q ≡ true) ps → Rises ps → Rises (p ∷ ps)

rises_both : (xs ys : List Put) → Rises xs → Rises ys → Each (λ p. Each (λ q. precedes p q ≡ true) ys) xs → Rises (xs ++ ys)
rises_both [] ys h k c = k
rises_both (x ∷ xs) ys (rises_more b h) k (each_more first c) = rises_more (each_both xs ys b first) (rises_both xs ys h k c)

-- where all of one list are P, all of the other Q, and each that is P precedes each that is Q
rises_across : {P Q : Put → Type 0} (xs ys : List Put) → Each P xs → Each Q ys → ((p q : Put) → P p → Q q → precedes p q ≡ true) → Rises xs → Rises ys → Rises (xs ++ ys)
rises_across xs ys h k f a b = rises_both xs ys a b (each_from xs (λ p is. each_from ys (λ q also. f p q is also) k) h)

rises_ascends : (ps : List Put) → Rises ps → ascends ps ≡ true
rises_ascends [] h = refl
rises_ascends (p ∷ []) h = refl
rises_ascends (p ∷ q ∷ ps) (rises_more (each_more first b) h) = rw (first, rises_ascends (q ∷ ps) h) refl

-- which of two puts precedes

or_true : (b : Bool) → (b || true) ≡ true
or_true true = refl
or_true false = refl

by_gap : (p q : Put) → p.gap < q.gap → precedes p q ≡ true
by_gap p q less = rw (lt-ltb p.gap q.gap less) refl

in_gap : (p q : Put) → p.gap ≡ q.gap → precedes_in_gap p.field q.field p.var q.var ≡ true → precedes p q ≡ true
in_gap p q same first = rw (eq-eqb p.gap q.gap same, first) (or_true (nat_lt p.gap q.gap))

-- a put of a field in a gap, of a variable from x on; and of a variable itself

record OfField (gap x : ℕ) (p : Put) : Type 0 where
  gap_is : p.gap ≡ gap
  field : ℕ
  field_is : p.field ≡ Some field
  from : x ≤ p.var

record OfVariable (gap x : ℕ) (p : Put) : Type 0 where
  gap_is : p.gap ≡ gap
  none_is : p.field ≡ None
  from : x ≤ p.var

fields_before : (gap x y : ℕ) (p q : Put) → OfField gap x p → OfVariable gap y q → precedes p q ≡ true
fields_before gap x y p q h k = in_gap p q (h.gap_is ∙ sym k.gap_is) (rw (h.field_is, k.none_is) refl)

-- the fields of one variable

fields_of_one : (gap x : ℕ) (fs : List ℕ) → Each (λ p. OfField gap x p × (p.var ≡ x)) (field_puts gap x fs)
fields_of_one gap x [] = each_none
fields_of_one gap x (f ∷ fs) = each_more (record { gap_is = refl; field = f; field_is = refl; from = omega arith }, refl) (fields_of_one gap x fs)

first_field : (gap x f b : ℕ) (fs : List ℕ) → Within (suc f) b fs → Each (λ q. precedes (record { gap = gap; var = x; field = Some f }) q ≡ true) (field_puts gap x fs)
first_field gap x f b [] h = each_none
first_field gap x f b (g ∷ fs) h =
    let less : f < g = h.0 in
    each_more (in_gap (record { gap = gap; var = x; field = Some f }) (record { gap = gap; var = x; field = Some g }) refl (rw (eq-eqb x x refl, lt-ltb f g less) (or_true (nat_lt x x))))
    (first_field gap x f b fs (within_from (suc f) (suc g) b fs (omega arith) h.1))

fields_rise : (gap x a b : ℕ) (fs : List ℕ) → Within a b fs → Rises (field_puts gap x fs)
fields_rise gap x a b [] h = rises_none
fields_rise gap x a b (f ∷ fs) h = rises_more (first_field gap x f b fs h.1) (fields_rise gap x (suc f) b fs h.1)

-- the fields of variables in turn

later_field : (gap x : ℕ) (p q : Put) → OfField gap x p × (p.var ≡ x) → OfField gap (suc x) q → precedes p q ≡ true
later_field gap x p q h k =
    let less : p.var < q.var = (let same : p.var ≡ x = h.1 in let from : suc x ≤ q.var = k.from in omega arith) in
    in_gap p q (h.0.gap_is ∙ sym k.gap_is) (rw (h.0.field_is, k.field_is, lt-ltb p.var q.var less) refl)

fields_from : (fields : ℕ → List ℕ) (gap a b : ℕ) (xs : List ℕ) → Within a b xs → Each (OfField gap a) (flat_map (λ x. field_puts gap x (fields x)) xs)
fields_from fields gap a b [] h = each_none
fields_from fields gap a b (x ∷ xs) h =
    let le : a ≤ x = h.0 in
    each_both (field_puts gap x (fields x)) (flat_map (λ y. field_puts gap y (fields y)) xs)
    (each_from (field_puts gap x (fields x)) (λ p k. record { gap_is = k.0.gap_is; field = k.0.field; field_is = k.0.field_is; from = (let from : x ≤ p.var = k.0.from in omega arith) }) (fields_of_one gap x (fields x)))
    (each_from (flat_map (λ y. field_puts gap y (fields y)) xs) (λ p k. record { gap_is = k.gap_is; field = k.field; field_is = k.field_is; from = (let from : suc x ≤ p.var = k.from in omega arith) }) (fields_from fields gap (suc x) b xs h.1))

all_fields_rise : (fields : ℕ → List ℕ) (gap a b : ℕ) (xs : List ℕ) → ((x : ℕ) → Ascending (fields x)) → Within a b xs → Rises (flat_map (λ x. field_puts gap x (fields x)) xs)
all_fields_rise fields gap a b [] rise h = rises_none
all_fields_rise fields gap a b (x ∷ xs) rise h =
    rises_across (field_puts gap x (fields x)) (flat_map (λ y. field_puts gap y (fields y)) xs) (fields_of_one gap x (fields x)) (fields_from fields gap (suc x) b xs h.1) (later_field gap x)
    (fields_rise gap x 0 (rise x).0 (fields x) (rise x).1) (all_fields_rise fields gap (suc x) b xs rise h.1)

-- variables in turn

vars_from : (gap a b : ℕ) (xs : List ℕ) → Within a b xs → Each (OfVariable gap a) (map (var_put gap) xs)
vars_from gap a b [] h = each_none
vars_from gap a b (x ∷ xs) h =
    each_more (record { gap_is = refl; none_is = refl; from = h.0 })
    (vars_from gap a b xs (let le : a ≤ x = h.0 in within_from a (suc x) b xs (omega arith) h.1))

vars_rise : (gap a b : ℕ) (xs : List ℕ) → Within a b xs → Rises (map (var_put gap) xs)
vars_rise gap a b [] h = rises_none
vars_rise gap a b (x ∷ xs) h =
    rises_more (each_from (map (var_put gap) xs)
    (λ q k. in_gap (var_put gap x) q (sym k.gap_is) (let less : x < q.var = (let from : suc x ≤ q.var = k.from in omega arith) in rw (k.none_is, lt-ltb x q.var less) refl))
    (vars_from gap (suc x) b xs h.1)) (vars_rise gap (suc x) b xs h.1)

-- a gap, and gaps in turn

gap_rises : (fields : ℕ → List ℕ) (gap : ℕ) (xs : List ℕ) → ((x : ℕ) → Ascending (fields x)) → Ascending xs → Rises (any_puts fields gap xs)
gap_rises fields gap xs rise h =
    rises_across (flat_map (λ x. field_puts gap x (fields x)) xs) (map (var_put gap) xs) (fields_from fields gap 0 h.0 xs h.1) (vars_from gap 0 h.0 xs h.1) (fields_before gap 0 0)
    (all_fields_rise fields gap 0 h.0 xs rise h.1) (vars_rise gap 0 h.0 xs h.1)

in_its_gap : (fields : ℕ → List ℕ) (gap : ℕ) (xs : List ℕ) → Ascending xs → Each (λ p. p.gap ≡ gap) (any_puts fields gap xs)
in_its_gap fields gap xs h =
    each_both (flat_map (λ x. field_puts gap x (fields x)) xs) (map (var_put gap) xs)
    (each_from (flat_map (λ x. field_puts gap x (fields x)) xs) (λ p k. k.gap_is) (fields_from fields gap 0 h.0 xs h.1))
    (each_from (map (var_put gap) xs) (λ p k. k.gap_is) (vars_from gap 0 h.0 xs h.1))

if_rises : (b : Bool) (ps : List Put) → Rises ps → Rises (if b then ps else [])
if_rises true ps h = h
if_rises false ps h = rises_none

each_if : {Q : Put → Type 0} (b : Bool) (ps : List Put) → Each Q ps → Each Q (if b then ps else [])
each_if true ps h = h
each_if false ps h = each_none

tail_numbers : (m n : ℕ) (ms ns : List ℕ) → m ∷ ms ≡ n ∷ ns → ms ≡ ns
tail_numbers m n ms ns e = ap (λ (xs : List ℕ). rest_of xs) e
  where
    rest_of : List ℕ → List ℕ
    rest_of [] = []
    rest_of (x ∷ xs) = xs

module _ (reached : ℕ → Bool) (fields : ℕ → ℕ → List ℕ) (rise : (n x : ℕ) → Ascending (fields n x)) where
  gaps_from : (rows : List GapScope) (a n : ℕ) → row_numbers rows ≡ range_with_len a n → AllRise rows → Each (λ p. a ≤ p.gap) (puts_in reached fields rows)
  gaps_from [] a n is h = each_none
  gaps_from (r ∷ rows) a zero is h = absurd cc
  gaps_from (r ∷ rows) a (suc n) is h =
      let here : r.gap ≡ a = cc in
      each_both (gap_puts reached fields r) (puts_in reached fields rows)
      (each_if (reached r.gap) (any_puts (fields r.gap) r.gap r.vars) (each_from (any_puts (fields r.gap) r.gap r.vars) (λ p k. (let at : p.gap ≡ r.gap = k in omega arith)) (in_its_gap (fields r.gap) r.gap r.vars h.0)))
      (each_from (puts_in reached fields rows) (λ p k. (let at : a + 1 ≤ p.gap = k in omega arith)) (gaps_from rows (a + 1) n (tail_numbers r.gap a (row_numbers rows) (range_with_len (a + 1) n) is) h.1))

  rows_of_puts_rise : (rows : List GapScope) (a n : ℕ) → row_numbers rows ≡ range_with_len a n → AllRise rows → Rises (puts_in reached fields rows)
  rows_of_puts_rise [] a n is h = rises_none
  rows_of_puts_rise (r ∷ rows) a zero is h = absurd cc
  rows_of_puts_rise (r ∷ rows) a (suc n) is h =
      let here : r.gap ≡ a = cc in
      let others = tail_numbers r.gap a (row_numbers rows) (range_with_len (a + 1) n) is in
      rises_across (gap_puts reached fields r) (puts_in reached fields rows)
      (each_if (reached r.gap) (any_puts (fields r.gap) r.gap r.vars) (in_its_gap (fields r.gap) r.gap r.vars h.0)) (gaps_from rows (a + 1) n others h.1)
      (λ p q k l. by_gap p q (let at : p.gap ≡ r.gap = k in let from : a + 1 ≤ q.gap = l in omega arith))
      (if_rises (reached r.gap) (any_puts (fields r.gap) r.gap r.vars) (gap_rises (fields r.gap) r.gap r.vars (rise r.gap) h.0)) (rows_of_puts_rise rows (a + 1) n others h.1)

-- fewer variables

fewer_by : (test : ℕ → Bool) (a b x : ℕ) (xs : List ℕ) (t : Bool) → a ≤ x → Within (suc x) b (filter test xs) → Within a b (if t then x ∷ filter test xs else filter test xs)
fewer_by test a b x xs true le h = (le, h)
fewer_by test a b x xs false le h = within_from a (suc x) b (filter test xs) (omega arith) h

within_fewer : (test : ℕ → Bool) (a b : ℕ) (xs : List ℕ) → Within a b xs → Within a b (filter test xs)
within_fewer test a b [] h = h
within_fewer test a b (x ∷ xs) h = fewer_by test a b x xs (test x) h.0 (within_fewer test (suc x) b xs h.1)

narrowed_rise : (hidden : List Bool) (rows : List GapScope) → AllRise rows → AllRise (map (narrowed hidden) rows)
narrowed_rise hidden [] h = tt
narrowed_rise hidden (r ∷ rows) h = ((h.0.0, within_fewer (is_shown hidden) 0 h.0.0 r.vars h.0.1), narrowed_rise hidden rows h.1)

-- the fields of a variable ascend

type_fields_rise : (structs : List StructDef) (o : Option Ty) → Ascending (type_fields structs o)
type_fields_rise structs None = (0, omega arith)
type_fields_rise structs (Some ty.Int) = (0, omega arith)
type_fields_rise structs (Some ty.IntPtr) = (0, omega arith)
type_fields_rise structs (Some (ty.StructPtr s)) = of_struct (slice_get structs s)
  where
    of_struct : (d : Option StructDef) → Ascending (defined_fields d)
    of_struct None = (0, omega arith)
    of_struct (Some d) =
        let n = length d.fields in
        (0 + n, within_fewer (λ i. has (λ (f : FieldDef). is_pointer f.ty) (slice_get d.fields i)) 0 (0 + n) (range_with_len 0 n) (within_range 0 n))

-- and so do those that are known in a gap, which are all of them or none
if_ascends : (b : Bool) (fs : List ℕ) → Ascending fs → Ascending (if b then fs else [])
if_ascends true fs h = h
if_ascends false fs h = (0, omega arith)

fields_ascend : (g : Graph) (p : Program) (n x : ℕ) → Ascending (fields_at g p n x)
fields_ascend g p n x =
    if_ascends (is_behind (gap_offset g p n) (body_of p.structs p.vars x)) (var_fields p.structs p.vars x) (type_fields_rise p.structs (option_map (λ (v : VarDef). v.ty) (slice_get p.vars x)))

-- the puts of a program
pub puts_ascend : (g : Graph) (p : Program) → IsWellFormed p → ascends (puts_of g p) ≡ true
puts_ascend g p w =
    rises_ascends (puts_of g p)
    (rows_of_puts_rise (is_reached g) (fields_at g p) (fields_ascend g p) (map (narrowed (no_pointers p.vars)) (scopes p)) 0 p.gaps
    (same_numbers (no_pointers p.vars) (scopes p) ∙ rows_numbered p w) (narrowed_rise (no_pointers p.vars) (scopes p) (rows_rise p w)))
