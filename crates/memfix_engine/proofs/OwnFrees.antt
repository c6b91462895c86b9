-- The puts of a program's own frees, in the order of its gaps, are those of a choice gap by gap.
use Rattle.std.proofs.Common.{◌≡◌, ℕ, zero, suc, ◌+◌, ◌<◌, ◌≤◌, Bool, true, false, ◌==◌, ◌&&◌, nat_lt, nat_le, cond, List, [], ◌∷◌, ◌++◌, map, flat_map, filter, Option, Some, None, option_map, IsTrue, refl, sym, ap, subst, ◌∙◌, arith, append_assoc}
use Rattle.std.specs.List.{list_all, range_with_len}
use Rattle.std.proofs.lemmas.Bool.{and_parts, eqb-true}
use Rattle.std.proofs.lemmas.Bool.Decides.{nat_tests}
use Rattle.std.proofs.lemmas.List.{map-append, append-nil}
use Rattle.std.proofs.lemmas.List.Elements.{filter-append}
use Rattle.std.proofs.lemmas.List.Folds.{flat_map-map}
use Rattle.c_tree.specs.Fill.{ascends, puts_at}
use Rattle.c_tree.specs.declared.choice.Put.{Put}
use Rattle.c_tree.specs.declared.expr.Expr.{Expr, Expr-F, out-Expr}
use Rattle.c_tree.specs.declared.expr.Expr.TheOpen.{Const, Null, Var, Field, Deref, Index, Unary, Binary}
use Rattle.c_tree.specs.declared.program.Free.{Free}
use Rattle.c_tree.specs.declared.program.Gap.{Gap}
use Rattle.source_patcher.proofs.PutOrder.{Rises, rises}
use Rattle.memfix_engine.specs.OwnPuts.{field_put, gap_puts, put_of, variable_of}
use Rattle.memfix_engine.proofs.BareGaps.{AreHeld, held_by, same_head, same_tail, some_same}

-- the numbers of gaps
abbrev pub numbers : List Gap → List ℕ
numbers = map (λ (g : Gap). g.number)

-- puts that rise are those of each gap in turn

-- a greater number is another one
is_other : (m g : ℕ) → g < m → (m == g) ≡ false
is_other m g above = grind (arith, nat_tests)

-- a lesser number is another one
is_past : (m g : ℕ) → m < g → (m == g) ≡ false
is_past m g below = grind (arith, nat_tests)

-- a number from k on that is not k is above it
is_above : (m k : ℕ) → k ≤ m → (m == k) ≡ false → k < m
is_above m k from is = grind (arith, nat_tests)

-- puts that rise from a later gap on have none of this gap
none_at : (m g : ℕ) (qs : List Put) → g < m → Rises m qs → puts_at qs g ≡ []
none_at m g [] later up = refl
none_at m g (q ∷ qs) later up = rw (is_other q.gap g (omega (arith, later, up.0))) (none_at q.gap g qs (omega (arith, later, up.0)) up.1)

-- a put of an earlier gap is none of these gaps
passed : (q : Put) (qs : List Put) (j n : ℕ) → q.gap < j → flat_map (puts_at (q ∷ qs)) (range_with_len j n) ≡ flat_map (puts_at qs) (range_with_len j n)
passed q qs j zero below = refl
passed q qs j (suc n) below =
    let later : q.gap < j + 1 = omega (arith, below) in
    rw (is_past q.gap j below) (ap (λ (ps : List Put). puts_at qs j ++ ps) (passed q qs (j + 1) n later))

-- one more put: of gap k, or of a later one
one_turn : (k n : ℕ) (q : Put) (qs : List Put) (b : Bool) → (q.gap == k) ≡ b → k ≤ q.gap → Rises q.gap qs
    → (q.gap ≡ k → puts_at qs k ++ flat_map (puts_at qs) (range_with_len (k + 1) n) ≡ qs)
    → (k < q.gap → flat_map (puts_at (q ∷ qs)) (range_with_len (k + 1) n) ≡ q ∷ qs)
    → cond b (q ∷ puts_at qs k) (puts_at qs k) ++ flat_map (puts_at (q ∷ qs)) (range_with_len (k + 1) n) ≡ q ∷ qs
one_turn k n q qs true is from up here later =
    let same : q.gap ≡ k = eqb-true q.gap k is in
    let below : q.gap < k + 1 = omega (arith, same) in
    ap (λ (ps : List Put). q ∷ (puts_at qs k ++ ps)) (passed q qs (k + 1) n below) ∙ ap (λ (ps : List Put). q ∷ ps) (here same)
one_turn k n q qs false is from up here later =
    let past : k < q.gap = is_above q.gap k from is in
    ap (λ (ps : List Put). ps ++ flat_map (puts_at (q ∷ qs)) (range_with_len (k + 1) n)) (none_at q.gap k qs past up) ∙ later past

-- where there are no puts, no gap has one
no_puts : (ns : List ℕ) → flat_map (puts_at []) ns ≡ []
no_puts [] = refl
no_puts (n ∷ ns) = no_puts ns

-- what rises from k on rises from any place before it
rises_from : (m k : ℕ) (qs : List Put) → m ≤ k → Rises k qs → Rises m qs
rises_from m k [] le up = tt
rises_from m k (q ∷ qs) le up = (omega (arith, le, up.0), up.1)

-- the gaps of all puts are below t
abbrev AreBelow : ℕ → List Put → Type 0
AreBelow t puts = list_all (λ (q : Put). nat_lt q.gap t) puts ≡ true

-- the puts of gap k and of the n gaps behind it, from what holds of those n
next_turn : (k n t : ℕ) → ((puts : List Put) → Rises (k + 1) puts → AreBelow t puts → flat_map (puts_at puts) (range_with_len (k + 1) n) ≡ puts)
    → (puts : List Put) → Rises k puts → AreBelow t puts → flat_map (puts_at puts) (range_with_len k (suc n)) ≡ puts
next_turn k n t later [] up below = no_puts (range_with_len (k + 1) n)
next_turn k n t later (q ∷ qs) up below =
    let rest = (and_parts (nat_lt q.gap t) (list_all (λ (r : Put). nat_lt r.gap t) qs) below).1 in
    one_turn k n q qs (q.gap == k) refl up.0 up.1
    (λ same. next_turn k n t later qs (subst (λ m. Rises m qs) same up.1) rest)
    (λ past. later (q ∷ qs) (omega (arith, past), up.1) below)

-- no number is from k on and below k
no_room : (m k t : ℕ) → k + 0 ≡ t → k ≤ m → nat_lt m t ≡ true → ⊥
no_room m k t e from below = grind (arith, nat_tests)

-- the puts of n gaps from k on, in turn, are all puts of these gaps
in_turn : (n k t : ℕ) → k + n ≡ t → (puts : List Put) → Rises k puts → AreBelow t puts → flat_map (puts_at puts) (range_with_len k n) ≡ puts
in_turn zero k t e [] up below = refl
in_turn zero k t e (q ∷ qs) up below = absurd (no_room q.gap k t e up.0 (and_parts (nat_lt q.gap t) (list_all (λ (r : Put). nat_lt r.gap t) qs) below).0)
in_turn (suc n) k t e puts up below = let e' : k + 1 + n ≡ t = omega (arith, e) in next_turn k n t (in_turn n (k + 1) t e') puts up below

-- what gaps hold in turn is what their numbers have
held_of : (puts : List Put) (gs : List Gap) → flat_map (held_by puts) gs ≡ map Some (flat_map (puts_at puts) (numbers gs))
held_of puts [] = refl
held_of puts (g ∷ gs) =
    ap (λ (os : List (Option Put)). held_by puts g ++ os) (held_of puts gs)
    ∙ sym (map-append Some (puts_at puts g.number) (flat_map (puts_at puts) (numbers gs)))

-- lists that are equal one by one are equal one behind the other
same_flat : {A B : Type 0} (f h : A → List B) (xs : List A) → map f xs ≡ map h xs → flat_map f xs ≡ flat_map h xs
same_flat f h xs e = sym (flat_map-map (λ ys. ys) f xs) ∙ ap (flat_map (λ ys. ys)) e ∙ flat_map-map (λ ys. ys) h xs

-- all puts of the gaps are those that the gaps hold, in their order
pub held_all : (puts : List Put) (gs : List Gap) (n : ℕ) → numbers gs ≡ range_with_len 0 n → IsTrue (ascends puts) → AreBelow n puts → AreHeld puts gs → flat_map gap_puts gs ≡ map Some puts
held_all puts gs n is up below held =
    same_flat gap_puts (held_by puts) gs held ∙ held_of puts gs
    ∙ ap (map Some) (ap (flat_map (puts_at puts)) is ∙ in_turn n 0 n (omega arith) puts (rises puts up) below)

-- what is found in two lists

-- puts in two parts, as the lists in which they are found
pub record Parts {A : Type 0} (xs ys : List (Option A)) (zs : List A) : Type 0 where
  pub front : List A
  pub behind : List A
  pub whole : zs ≡ front ++ behind
  pub first : xs ≡ map Some front
  pub second : ys ≡ map Some behind

-- what is found in two lists, one behind the other, is in two parts
parts_of : {A : Type 0} (xs ys : List (Option A)) (zs : List A) → xs ++ ys ≡ map Some zs → Parts xs ys zs
parts_of [] ys zs e = record { front = []; behind = zs; whole = refl; first = refl; second = e }
parts_of (x ∷ xs) ys [] e = absurd cc
parts_of {A} (x ∷ xs) ys (z ∷ zs) e =
    let rest = parts_of xs ys zs (same_tail x (Some z) (xs ++ ys) (map Some zs) e) in
    record {
      front = z ∷ rest.front;
      behind = rest.behind;
      whole = ap (λ (ys : List A). z ∷ ys) rest.whole;
      first = ap (λ (o : Option A). o ∷ xs) (same_head x (Some z) (xs ++ ys) (map Some zs) e) ∙ ap (λ (os : List (Option A)). Some z ∷ os) rest.first;
      second = rest.second;
    }

-- lists of what is there are equal where the lists are
pub all_same : {A : Type 0} (xs ys : List A) → map Some xs ≡ map Some ys → xs ≡ ys
all_same [] [] e = refl
all_same [] (y ∷ ys) e = absurd cc
all_same (x ∷ xs) [] e = absurd cc
all_same {A} (x ∷ xs) (y ∷ ys) e =
    ap (λ (a : A). a ∷ xs) (some_same x y (same_head (Some x) (Some y) (map Some xs) (map Some ys) e))
    ∙ ap (λ (ys : List A). y ∷ ys) (all_same xs ys (same_tail (Some x) (Some y) (map Some xs) (map Some ys) e))

-- the gaps of puts

-- the gap of the put of a field
field_gap : (g f : ℕ) (x : Option ℕ) (q : Put) → option_map (field_put g f) x ≡ Some q → q.gap ≡ g
field_gap g f None q h = absurd cc
field_gap g f (Some x) q h = ap (λ (r : Put). r.gap) (sym (some_same (field_put g f x) q h))

-- a put that an expression has in gap g is of gap g
gap_of_put : (g : ℕ) (l : Expr-F Expr) (q : Put) → put_of g l ≡ Some q → q.gap ≡ g
gap_of_put g (Var x at) q h = let r : Put = record { gap = g; var = x; field = None } in ap (λ (s : Put). s.gap) (sym (some_same r q h))
gap_of_put g (Field e f at) q h = field_gap g f (variable_of (out-Expr e)) q h
gap_of_put g (Const n at) q h = absurd cc
gap_of_put g (Null at) q h = absurd cc
gap_of_put g (Deref e at) q h = absurd cc
gap_of_put g (Index e i at) q h = absurd cc
gap_of_put g (Unary s e at) q h = absurd cc
gap_of_put g (Binary o a b at) q h = absurd cc

-- a test that is passed by each put of gap g passes on all puts of its frees
frees_pass : (g : ℕ) (p : Put → Bool) → ((q : Put) → q.gap ≡ g → p q ≡ true) → (fs : List Free) (qs : List Put) → map (λ (f : Free). put_of g (out-Expr f.expr)) fs ≡ map Some qs → list_all p qs ≡ true
frees_pass g p pass [] [] e = refl
frees_pass g p pass [] (q ∷ qs) e = absurd cc
frees_pass g p pass (f ∷ fs) [] e = absurd cc
frees_pass g p pass (f ∷ fs) (q ∷ qs) e =
    let puts = map (λ (h : Free). put_of g (out-Expr h.expr)) fs in
    let here : p q ≡ true = pass q (gap_of_put g (out-Expr f.expr) q (same_head (put_of g (out-Expr f.expr)) (Some q) puts (map Some qs) e)) in
    rw here (frees_pass g p pass fs qs (same_tail (put_of g (out-Expr f.expr)) (Some q) puts (map Some qs) e))

-- a test that two lists pass is passed by both together
pass_both : {A : Type 0} (p : A → Bool) (xs ys : List A) → list_all p xs ≡ true → list_all p ys ≡ true → list_all p (xs ++ ys) ≡ true
pass_both p [] ys first second = second
pass_both p (x ∷ xs) ys first second =
    let two = and_parts (p x) (list_all p xs) first in
    rw two.0 (pass_both p xs ys two.1 second)

-- a weaker test is passed too
pass_too : {A : Type 0} (p r : A → Bool) → ((x : A) → p x ≡ true → r x ≡ true) → (xs : List A) → list_all p xs ≡ true → list_all r xs ≡ true
pass_too p r leads [] e = refl
pass_too p r leads (x ∷ xs) e =
    let two = and_parts (p x) (list_all p xs) e in
    rw (leads x two.0) (pass_too p r leads xs two.1)

-- the gap of a put is from j on and below t
abbrev is_between : ℕ → ℕ → Put → Bool
is_between j t q = nat_le j q.gap && nat_lt q.gap t

-- the first of some gaps is one of them
here_between : (m j n t : ℕ) → j + suc n ≡ t → m ≡ j → (nat_le j m && nat_lt m t) ≡ true
here_between m j n t e is = grind (arith, nat_tests)

-- a gap behind the first one is one of them
later_between : (m j t : ℕ) → (nat_le (j + 1) m && nat_lt m t) ≡ true → (nat_le j m && nat_lt m t) ≡ true
later_between m j t h = grind (arith, nat_tests)

-- the puts of gaps that are numbered from j on
between : (gs : List Gap) (n j t : ℕ) (puts : List Put) → j + n ≡ t → numbers gs ≡ range_with_len j n → flat_map gap_puts gs ≡ map Some puts → list_all (is_between j t) puts ≡ true
between [] n j t [] sum is e = refl
between [] n j t (q ∷ qs) sum is e = absurd cc
between (g ∷ gs) zero j t puts sum is e = absurd cc
between (g ∷ gs) (suc n) j t puts sum is e =
    let two = parts_of (gap_puts g) (flat_map gap_puts gs) puts e in
    let number : g.number ≡ j = same_head g.number j (numbers gs) (range_with_len (j + 1) n) is in
    let first = frees_pass g.number (is_between j t) (λ q at. here_between q.gap j n t sum (at ∙ number)) g.frees two.front two.first in
    let sum' : j + 1 + n ≡ t = omega (arith, sum) in
    let rest = between gs n (j + 1) t two.behind sum' (same_tail g.number j (numbers gs) (range_with_len (j + 1) n) is) two.second in
    let second = pass_too (is_between (j + 1) t) (is_between j t) (λ q h. later_between q.gap j t h) two.behind rest in
    subst (λ (qs : List Put). list_all (is_between j t) qs ≡ true) (sym two.whole) (pass_both (is_between j t) two.front two.behind first second)

-- a gap of the first t is below t
is_below : (m t : ℕ) → (nat_le 0 m && nat_lt m t) ≡ true → nat_lt m t ≡ true
is_below m t h = grind (arith, nat_tests)

-- each put has a gap of the program
pub puts_below : (gs : List Gap) (n : ℕ) (puts : List Put) → numbers gs ≡ range_with_len 0 n → flat_map gap_puts gs ≡ map Some puts → AreBelow n puts
puts_below gs n puts is e = pass_too (is_between 0 n) (λ (q : Put). nat_lt q.gap n) (λ q h. is_below q.gap n h) puts (between gs n 0 n puts (omega arith) is e)

-- all of a gap, or none

-- a filter keeps all that passes
kept_all : {A : Type 0} (p : A → Bool) (xs : List A) → list_all p xs ≡ true → filter p xs ≡ xs
kept_all p [] e = refl
kept_all {A} p (x ∷ xs) e =
    let two = and_parts (p x) (list_all p xs) e in
    rw two.0 (ap (λ (ys : List A). x ∷ ys) (kept_all p xs two.1))

-- and nothing that fails
kept_none : {A : Type 0} (p r : A → Bool) → ((x : A) → r x ≡ true → p x ≡ false) → (xs : List A) → list_all r xs ≡ true → filter p xs ≡ []
kept_none p r leads [] e = refl
kept_none p r leads (x ∷ xs) e =
    let two = and_parts (r x) (list_all r xs) e in
    rw (leads x two.0) (kept_none p r leads xs two.1)

-- equal numbers pass the test
is_here : (m k : ℕ) → m ≡ k → (m == k) ≡ true
is_here m k e = grind (arith, nat_tests)

-- a gap behind k is not k
is_later : (m k t : ℕ) → (nat_le (k + 1) m && nat_lt m t) ≡ true → (m == k) ≡ false
is_later m k t h = grind (arith, nat_tests)

-- a gap before k is not k
is_earlier : (m k : ℕ) → nat_lt m k ≡ true → (m == k) ≡ false
is_earlier m k h = grind (arith, nat_tests)

-- a gap before k is before the next one
next_below : (m k : ℕ) → nat_lt m k ≡ true → nat_lt m (k + 1) ≡ true
next_below m k h = grind (arith, nat_tests)

-- gap k is before the next one
here_below : (m k : ℕ) → m ≡ k → nat_lt m (k + 1) ≡ true
here_below m k h = grind (arith, nat_tests)

-- behind the puts of earlier gaps, each of these gaps holds its puts
spread : (gs : List Gap) (n k t : ℕ) (before puts : List Put) → k + n ≡ t → numbers gs ≡ range_with_len k n → flat_map gap_puts gs ≡ map Some puts → AreBelow k before → AreHeld (before ++ puts) gs
spread [] n k t before puts sum is e low = refl
spread (g ∷ gs) zero k t before puts sum is e low = absurd cc
spread (g ∷ gs) (suc n) k t before puts sum is e low =
    let two = parts_of (gap_puts g) (flat_map gap_puts gs) puts e in
    let number : g.number ≡ k = same_head g.number k (numbers gs) (range_with_len (k + 1) n) is in
    let more : numbers gs ≡ range_with_len (k + 1) n = same_tail g.number k (numbers gs) (range_with_len (k + 1) n) is in
    let sum' : k + 1 + n ≡ t = omega (arith, sum) in
    let of_k = λ (q : Put). q.gap == k in
    let none : filter of_k before ≡ [] = kept_none of_k (λ (q : Put). nat_lt q.gap k) (λ q h. is_earlier q.gap k h) before low in
    let here : filter of_k two.front ≡ two.front = kept_all of_k two.front (frees_pass g.number of_k (λ q at. is_here q.gap k (at ∙ number)) g.frees two.front two.first) in
    let past : filter of_k two.behind ≡ [] = kept_none of_k (is_between (k + 1) t) (λ q h. is_later q.gap k t h) two.behind (between gs n (k + 1) t two.behind sum' more two.second) in
    let whole : (before ++ two.front) ++ two.behind ≡ before ++ puts = append_assoc before two.front two.behind ∙ ap (λ (qs : List Put). before ++ qs) (sym two.whole) in
    let all : puts_at ((before ++ two.front) ++ two.behind) k ≡ two.front =
    filter-append of_k (before ++ two.front) two.behind ∙ ap (λ (qs : List Put). qs ++ filter of_k two.behind) (filter-append of_k before two.front)
    ∙ ap (λ (qs : List Put). (qs ++ filter of_k two.front) ++ filter of_k two.behind) none
    ∙ ap (λ (qs : List Put). qs ++ filter of_k two.behind) here
    ∙ ap (λ (qs : List Put). two.front ++ qs) past ∙ append-nil two.front in
    let first : gap_puts g ≡ held_by (before ++ puts) g =
    two.first ∙ ap (map Some) (sym all) ∙ ap (λ (qs : List Put). map Some (puts_at qs k)) whole ∙ ap (λ m. map Some (puts_at (before ++ puts) m)) (sym number) in
    let below : AreBelow (k + 1) (before ++ two.front) = pass_both (λ (q : Put). nat_lt q.gap (k + 1)) before two.front
    (pass_too (λ (q : Put). nat_lt q.gap k) (λ (q : Put). nat_lt q.gap (k + 1)) (λ q h. next_below q.gap k h) before low)
    (frees_pass g.number (λ (q : Put). nat_lt q.gap (k + 1)) (λ q at. here_below q.gap k (at ∙ number)) g.frees two.front two.first) in
    let rest : AreHeld (before ++ puts) gs = subst (λ (qs : List Put). AreHeld qs gs) whole (spread gs n (k + 1) t (before ++ two.front) two.behind sum' more two.second below) in
    ap (λ (os : List (Option Put)). os ∷ map gap_puts gs) first ∙ ap (λ (oss : List (List (Option Put))). held_by (before ++ puts) g ∷ oss) rest

-- gaps that are numbered in order hold the puts of their frees
pub all_held : (gs : List Gap) (n : ℕ) (puts : List Put) → numbers gs ≡ range_with_len 0 n → flat_map gap_puts gs ≡ map Some puts → AreHeld puts gs
all_held gs n puts is e = spread gs n 0 n [] puts (omega arith) is e refl
