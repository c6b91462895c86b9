-- The globals before a function and its own variables ascend, so each row of the table does.
use Rattle.std.proofs.Common.{◌≡◌, ℕ, zero, suc, ◌+◌, ◌<◌, ◌≤◌, ◌==◌, Bool, true, false, not, ◌&&◌, List, [], ◌∷◌, ◌++◌, length, map, drop, slice_get, option_map, Some, if◌then◌else◌, ◌⊎◌, inl, inr, refl, sym, ap, subst, ◌∙◌, arith, append_assoc, length-append}
use Rattle.std.specs.List.{range_with_len}
use Rattle.std.specs.Prelude.{nat_le, nat_lt}
use Rattle.std.proofs.lemmas.Bool.{cases_lt, eqb-true, eqb-false, leb-false, lt-leb, true_from_ne_false}
use Rattle.std.proofs.lemmas.Option.{same_Some, slice_get-map}
use Rattle.c_tree.specs.Numbers.{Own, Declares, own_of, owns_from, result_home, locals_in}
use Rattle.c_tree.specs.Numbers.Declares.{nothing, a_global, a_function}
use Rattle.c_tree.specs.declared.program.FunDef.{FunDef}
use Rattle.c_tree.specs.declared.program.Home.{Home}
use Rattle.c_tree.specs.declared.program.Home.TheVariants as home
use Rattle.c_tree.specs.declared.program.Program.{Program}
use Rattle.c_tree.specs.declared.program.VarDef.{VarDef}
use Rattle.c_tree.specs.WellFormed.{IsWellFormed}
use Rattle.c_scopes.specs.ScopeAt.{GapScope, Ascending, Declared, Within, function_place, is_from, scope_at, scopes, scopes_from, so_far, stands_before, up_to, vars_at, with_variable}
use Rattle.c_scopes.proofs.ScopeOrder.{AllRise, all_both, block_rises, within_both, within_from, within_more, within_range, within_split}

-- none of the first n of these homes is in function f or a later one
abbrev NoneFrom : ℕ → ℕ → List Home → Type 0
NoneFrom f n homes = (k : ℕ) (h : Home) → k < n → slice_get homes k ≡ Some h → is_from f h ≡ false

-- what is declared up to function f
record IsSoFar (homes : List Home) (f : ℕ) (s : Declared) : Type 0 where
  rises : Within 0 s.count s.globals
  none : NoneFrom f s.count homes

later_none : (f : ℕ) (h : Home) → is_from f h ≡ false → is_from (f + 1) h ≡ false
later_none f (home.Global n) e = refl
later_none f (home.Param g) e = let less : g < f = leb-false f g e in lt-leb (f + 1) g (omega arith)
later_none f (home.Local g) e = let less : g < f = leb-false f g e in lt-leb (f + 1) g (omega arith)
later_none f (home.Result g) e = let less : g < f = leb-false f g e in lt-leb (f + 1) g (omega arith)

before_later : (homes : List Home) (f : ℕ) (s : Declared) → IsSoFar homes f s → IsSoFar homes (f + 1) s
before_later homes f s k = record { rises = k.rises; none = λ i h below is. later_none f h (k.none i h below is) }

-- the next variable, where it stands before the function

passes : (a b : Bool) → (a && not b) ≡ true → b ≡ false
passes true true e = absurd cc
passes true false e = refl
passes false true e = absurd cc
passes false false e = refl

counted_rises : (h : Home) (s : Declared) → Within 0 s.count s.globals → Within 0 (s.count + 1) (with_variable h s).globals
counted_rises (home.Global n) s k =
    let e : suc s.count ≡ s.count + 1 = omega arith in
    within_both 0 s.count (s.count + 1) s.globals (s.count ∷ []) k (omega arith, subst (λ (m : ℕ). m ≤ s.count + 1) (sym e) (omega arith))
counted_rises (home.Param f) s k = within_more 0 s.count (s.count + 1) s.globals k (omega arith)
counted_rises (home.Local f) s k = within_more 0 s.count (s.count + 1) s.globals k (omega arith)
counted_rises (home.Result f) s k = within_more 0 s.count (s.count + 1) s.globals k (omega arith)

none_more : (f n : ℕ) (homes : List Home) (h : Home) → slice_get homes n ≡ Some h → is_from f h ≡ false → NoneFrom f n homes → NoneFrom f (n + 1) homes
none_more f n homes h is before k i g below here = cases (i == n) refl
  where
    cases : (b : Bool) → (i == n) ≡ b → is_from f g ≡ false
    cases true e =
        let same : i ≡ n = eqb-true i n e in
        let there : Some g ≡ Some h = sym here ∙ ap (slice_get homes) same ∙ is in
        subst (λ x. is_from f x ≡ false) (sym (same_Some g h there)) before
    cases false e = k i g (omega (arith, eqb-false i n e)) here

-- the front of what is left
front_of : (n : ℕ) (all : List VarDef) (v : VarDef) (vs : List VarDef) → drop n all ≡ v ∷ vs → (slice_get all n ≡ Some v) × (drop (n + 1) all ≡ vs)
front_of zero [] v vs e = absurd cc
front_of zero (w ∷ all) v vs e = (let same : w ≡ v = cc in ap Some same, let rest : all ≡ vs = cc in rest)
front_of (suc n) [] v vs e = absurd cc
front_of (suc n) (w ∷ all) v vs e =
    let next = front_of n all v vs e in
    let far : suc n + 1 ≡ suc (n + 1) = omega arith in
    (next.0, ap (λ m. drop m (w ∷ all)) far ∙ next.1)

up_to_turn : (f : ℕ) (d : FunDef) (all : List VarDef) (v : VarDef) (vs : List VarDef) (s : Declared) (b : Bool) → stands_before f d v ≡ b → drop s.count all ≡ v ∷ vs
    → ((t : Declared) → drop t.count all ≡ vs → IsSoFar (map (λ (w : VarDef). w.home) all) f t → IsSoFar (map (λ (w : VarDef). w.home) all) f (up_to f d vs t))
    → IsSoFar (map (λ (w : VarDef). w.home) all) f s → IsSoFar (map (λ (w : VarDef). w.home) all) f (if b then up_to f d vs (with_variable v.home s) else s)
up_to_turn f d all v vs s false e is go k = k
up_to_turn f d all v vs s true e is go k =
    let front = front_of s.count all v vs is in
    let homes = map (λ (w : VarDef). w.home) all in
    let there : slice_get homes s.count ≡ Some v.home = slice_get-map (λ (w : VarDef). w.home) all s.count ∙ ap (option_map (λ (w : VarDef). w.home)) front.0 in
    go (with_variable v.home s) front.1
    (record { rises = counted_rises v.home s k.rises; none = none_more f s.count homes v.home there (passes (nat_lt v.at d.at) (is_from f v.home) e) k.none })

up_to_keeps : (f : ℕ) (d : FunDef) (all vs : List VarDef) (s : Declared) → drop s.count all ≡ vs → IsSoFar (map (λ (w : VarDef). w.home) all) f s → IsSoFar (map (λ (w : VarDef). w.home) all) f (up_to f d vs s)
up_to_keeps f d all [] s is k = k
up_to_keeps f d all (v ∷ vs) s is k = up_to_turn f d all v vs s (stands_before f d v) refl is (λ t. up_to_keeps f d all vs t) k

-- the own variables of a function stand behind those

seam : (before : List Home) (h : Home) (rest : List Home) → slice_get (before ++ h ∷ rest) (length before) ≡ Some h
seam [] h rest = refl
seam (g ∷ before) h rest = seam before h rest

not_before : (f x c : ℕ) (homes before rest : List Home) (h : Home) → homes ≡ before ++ h ∷ rest → length before ≡ x → is_from f h ≡ true → NoneFrom f c homes → c ≤ x
not_before f x c homes before rest h is long own none = cases (cases_lt x c)
  where
    there : slice_get homes x ≡ Some h
    there = ap (λ hs. slice_get hs x) is ∙ ap (slice_get (before ++ h ∷ rest)) (sym long) ∙ seam before h rest

    cases : (x < c) ⊎ (c ≤ x) → c ≤ x
    cases (inl less) = let no : is_from f h ≡ false = none x h less there in absurd cc
    cases (inr le) = le

is_its_own : (f : ℕ) → nat_le f f ≡ true
is_its_own f = true_from_ne_false (nat_le f f) (λ e. let less : f < f = leb-false f f e in omega arith)

-- the variables of function f, at their place among the homes of all
own_rises : (f c x : ℕ) (homes before : List Home) (params locals : List ℕ) (rest : List Home)
    → homes ≡ before ++ (map (λ v. home.Param f) params ++ map (λ v. home.Local f) locals ++ rest) → length before ≡ x → NoneFrom f c homes
    → params ++ locals ≡ range_with_len x (length (params ++ locals)) → (z : ℕ) × Within c z (params ++ locals)
own_rises f c x homes before [] [] rest is long none range = (c, omega arith)
own_rises f c x homes before [] (l ∷ locals) rest is long none range =
    let le : c ≤ x = not_before f x c homes before (map (λ v. home.Local f) locals ++ rest) (home.Local f) is long (is_its_own f) none in
    let n = length (l ∷ locals) in
    (x + n, within_from c x (x + n) (l ∷ locals) le (subst (Within x (x + n)) (sym range) (within_range x n)))
own_rises f c x homes before (p ∷ params) locals rest is long none range =
    let le : c ≤ x = not_before f x c homes before (map (λ v. home.Param f) params ++ map (λ v. home.Local f) locals ++ rest) (home.Param f) is long (is_its_own f) none in
    let n = length (p ∷ params ++ locals) in
    (x + n, within_from c x (x + n) (p ∷ params ++ locals) le (subst (Within x (x + n)) (sym range) (within_range x n)))

-- the gaps of a function
function_rises : (d : FunDef) (globals : List ℕ) (c z : ℕ) → Within 0 c globals → Within c z (d.params ++ locals_in d.body) → AllRise (function_place d globals)
function_rises d globals c z before own =
    let parts = within_split c z d.params (locals_in d.body) own in
    block_rises d.body (globals ++ d.params) parts.0 z (within_both 0 c parts.0 globals d.params before parts.1) parts.2

abbrev homes_of : List VarDef → List Home
homes_of = map (λ (v : VarDef). v.home)

-- one function, at its place among all
one_rises : (all : List VarDef) (f : ℕ) (s : Declared) (d : FunDef) (own : Own) (x : ℕ) (before homes : List Home) → own ≡ own_of f d
    → own.declared ≡ range_with_len x (length own.declared) → homes_of all ≡ before ++ (own.homes ++ homes) → length before ≡ x → IsSoFar (homes_of all) f s → AllRise (function_place d s.globals)
one_rises all f s d own x before homes same range is long k =
    let params = map (λ v. home.Param f) d.params in
    let locals = map (λ v. home.Local f) (locals_in d.body) in
    let place : homes_of all ≡ before ++ (params ++ locals ++ (result_home f d.result ++ homes)) =
    is ∙ ap (λ (o : Own). before ++ (o.homes ++ homes)) same ∙ ap (λ hs. before ++ hs) (append_assoc (params ++ locals) (result_home f d.result) homes) in
    let mine = own_rises f s.count x (homes_of all) before d.params (locals_in d.body) (result_home f d.result ++ homes) place long k.none
    (subst (λ (o : Own). o.declared ≡ range_with_len x (length o.declared)) same range) in
    function_rises d s.globals s.count mine.0 k.rises mine.1

functions_rise : (all : List VarDef) (f : ℕ) (s : Declared) (ds : List FunDef) (x : ℕ) (globals : List ℕ) (owns : List Own) (before homes : List Home) → Declares x globals owns homes
    → owns ≡ owns_from f ds → homes_of all ≡ before ++ homes → length before ≡ x → IsSoFar (homes_of all) f s → AllRise (scopes_from all f s ds)
functions_rise all f s [] x globals owns before homes r own is long k = tt
functions_rise all f s (d ∷ ds) x globals owns before homes nothing own is long k = absurd cc
functions_rise all f s (d ∷ ds) x globals owns before homes (a_global {homes = rest} n r) own is long k =
    let e : length (before ++ home.Global n ∷ []) ≡ x + 1 = length-append before (home.Global n ∷ []) ∙ ap (λ m. m + 1) long in
    functions_rise all f s (d ∷ ds) (x + 1) (x ∷ globals) owns (before ++ home.Global n ∷ []) rest r own (is ∙ sym (append_assoc before (home.Global n ∷ []) rest)) e k
functions_rise all f s (d ∷ ds) x globals owns before homes (a_function {owns = later} {homes = rest} mine range sees r) own is long k =
    let here = up_to f d (drop s.count all) s in
    let kept : IsSoFar (homes_of all) f here = up_to_keeps f d all (drop s.count all) s refl k in
    let same : mine ≡ own_of f d = cc in
    let others : later ≡ owns_from (f + 1) ds = cc in
    let e : length (before ++ mine.homes) ≡ x + length mine.homes = length-append before mine.homes ∙ ap (λ m. m + length mine.homes) long in
    all_both (function_place d here.globals) (scopes_from all (f + 1) here ds)
    (one_rises all f here d mine x before rest same range is long kept)
    (functions_rise all (f + 1) here ds (x + length mine.homes) globals later (before ++ mine.homes) rest r others (is ∙ sym (append_assoc before mine.homes rest)) e (before_later (homes_of all) f here kept))

-- each row of the table ascends
pub rows_rise : (p : Program) → IsWellFormed p → AllRise (scopes p)
rows_rise p w =
    functions_rise p.vars 0 (so_far 0 []) p.funs 0 [] (owns_from 0 p.funs) [] (homes_of p.vars) w.declared refl refl refl
    (record { rises = omega arith; none = λ i h below is. absurd (omega arith) })

found_ascends : (gap : ℕ) (r : GapScope) (rows : List GapScope) (b : Bool) → Ascending r.vars → Ascending (vars_at gap rows) → Ascending (if b then r.vars else vars_at gap rows)
found_ascends gap r rows true h k = h
found_ascends gap r rows false h k = k

vars_ascend : (gap : ℕ) (rows : List GapScope) → AllRise rows → Ascending (vars_at gap rows)
vars_ascend gap [] h = (0, omega arith)
vars_ascend gap (r ∷ rows) h = found_ascends gap r rows (r.gap == gap) h.0 (vars_ascend gap rows h.1)

-- what is in scope ascends
pub scope_ascends : (p : Program) (gap : ℕ) → IsWellFormed p → Ascending (scope_at p gap)
scope_ascends p gap w = vars_ascend gap (scopes p) (rows_rise p w)
