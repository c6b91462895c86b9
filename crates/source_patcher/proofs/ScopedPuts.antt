-- A put that is in scope at a gap of the program frees a variable that is no slot of a result.
use Rattle.std.proofs.Common.{◌≡◌, ℕ, zero, suc, ◌+◌, ◌<◌, Bool, true, false, ◌||◌, ◌==◌, List, [], ◌∷◌, ◌++◌, drop, length, map, slice_get, option_map, Some, refl, sym, ap, subst, ◌∙◌, arith, append_assoc, length-append}
use Rattle.std.specs.Prelude.{nat_eq, if◌then◌else◌}
use Rattle.std.specs.List.{list_all, range_with_len}
use Rattle.std.specs.Set.{is_member}
use Rattle.std.proofs.lemmas.Bool.{and_parts, eqb-true, eq-eqb}
use Rattle.std.proofs.lemmas.List.{length-map}
use Rattle.std.proofs.lemmas.Option.{same_Some, slice_get-map}
use Rattle.c_tree.specs.Fill.{puts_at}
use Rattle.c_tree.specs.Numbers.{Declares, Own, locals_in, own_of, owns_from, result_home}
use Rattle.c_tree.specs.Typing.{declarations, has}
use Rattle.c_tree.specs.WellFormed.{IsWellFormed}
use Rattle.c_tree.specs.declared.choice.Put.{Put}
use Rattle.c_tree.specs.declared.program.FunDef.{FunDef}
use Rattle.c_tree.specs.declared.program.Home.{Home}
use Rattle.c_tree.specs.declared.program.Home.TheVariants as home
use Rattle.c_tree.specs.declared.program.Program.{Program}
use Rattle.c_tree.specs.declared.program.VarDef.{VarDef}
use Rattle.c_parser.specs.Offsets.{AllHave}
use Rattle.c_scopes.specs.ScopeAt.{Declared, GapScope, function_place, scope_at, scopes, scopes_from, so_far, stands_before, up_to, with_variable}
use Rattle.c_scopes.proofs.ScopeNumbers.{scope_is}
use Rattle.c_types.specs.Fits.{is_pointer}
use Rattle.source_patcher.specs.InScope.{AreInScope, freed_type, functions_have, have_scope, is_in_scope}
use Rattle.source_patcher.proofs.ScopeHas.{RowHas, function_has}
use Rattle.source_patcher.proofs.SpelledBlocks.{all_both}

-- lists

pub all_get : {A : Type 0} (P : A → Type 0) (xs : List A) (k : ℕ) (x : A) → slice_get xs k ≡ Some x → AllHave P xs → P x
all_get P [] k x is all = absurd cc
all_get P (y ∷ ys) zero x is all = subst P (same_Some y x is) all.0
all_get P (y ∷ ys) (suc k) x is all = all_get P ys k x is all.1

either : (x y : ℕ) (P : ℕ → Type 0) (b rest : Bool) → nat_eq x y ≡ b → (b || rest) ≡ true → P y → (rest ≡ true → P x) → P x
either x y P true rest is h here there = subst P (sym (eqb-true x y is)) here
either x y P false rest is h here there = there h

member_has : (Q : ℕ → Type 0) (xs : List ℕ) (x : ℕ) → is_member nat_eq xs x ≡ true → AllHave Q xs → Q x
member_has Q [] x is all = absurd cc
member_has Q (y ∷ ys) x is all = either x y Q (nat_eq x y) (is_member nat_eq ys x) refl is all.0 (λ h. member_has Q ys x h all.1)

-- what all puts of a gap pass, each put of it does
first_case : (test : Put → Bool) (q : Put) (qs : List Put) (g : ℕ) (b : Bool) → (q.gap == g) ≡ b → list_all test (if b then q ∷ puts_at qs g else puts_at qs g) ≡ true → (list_all test (puts_at qs g) ≡ true) × (q.gap ≡ g → test q ≡ true)
first_case test q qs g true is all = let parts = and_parts (test q) (list_all test (puts_at qs g)) all in (parts.1, λ same. parts.0)
first_case test q qs g false is all = (all, λ same. absurd (let yes : (q.gap == g) ≡ true = eq-eqb q.gap g same in let no : true ≡ false = sym yes ∙ is in cc))

at_gap : (test : Put → Bool) (qs : List Put) (g k : ℕ) (q : Put) → slice_get qs k ≡ Some q → q.gap ≡ g → list_all test (puts_at qs g) ≡ true → test q ≡ true
at_gap test [] g k q is same all = absurd cc
at_gap test (x ∷ xs) g zero q is same all =
    let e = same_Some x q is in
    subst (λ (y : Put). test y ≡ true) e ((first_case test x xs g (x.gap == g) refl all).1 (ap (λ (y : Put). y.gap) e ∙ same))
at_gap test (x ∷ xs) g (suc k) q is same all = at_gap test xs g k q is same (first_case test x xs g (x.gap == g) refl all).0

-- slots

abbrev pub IsNoSlot : Home → Type 0
IsNoSlot (home.Global n) = Unit {0}
IsNoSlot (home.Param f) = Unit {0}
IsNoSlot (home.Local f) = Unit {0}
IsNoSlot (home.Result f) = ⊥

abbrev pub NoSlot : List Home → ℕ → Type 0
NoSlot homes x = (h : Home) → slice_get homes x ≡ Some h → IsNoSlot h

seam : (before : List Home) (h : Home) (rest : List Home) → slice_get (before ++ h ∷ rest) (length before) ≡ Some h
seam [] h rest = refl
seam (g ∷ before) h rest = seam before h rest

-- the next of these homes, behind those before
range_has : (all before front rest : List Home) (x n : ℕ) → all ≡ before ++ (front ++ rest) → length before ≡ x → length front ≡ n → AllHave IsNoSlot front → AllHave (NoSlot all) (range_with_len x n)
range_has all before [] rest x zero is long size none = tt
range_has all before [] rest x (suc n) is long size none = absurd cc
range_has all before (h ∷ hs) rest x zero is long size none = absurd cc
range_has all before (h ∷ hs) rest x (suc n) is long size none =
    let there : slice_get all x ≡ Some h = ap (λ (homes : List Home). slice_get homes x) is ∙ ap (slice_get (before ++ (h ∷ hs ++ rest))) (sym long) ∙ seam before h (hs ++ rest) in
    let more : length (before ++ h ∷ []) ≡ length before + 1 = length-append before (h ∷ []) in
    let shorter : length hs ≡ n = cc in (
      λ g has. subst IsNoSlot (same_Some h g (sym there ∙ has)) none.0,
      range_has all (before ++ h ∷ []) hs rest (x + 1) n (is ∙ sym (append_assoc before (h ∷ []) (hs ++ rest))) (more ∙ ap (λ m. m + 1) long) shorter none.1,
    )

mapped_none : (to : ℕ → Home) → ((x : ℕ) → IsNoSlot (to x)) → (xs : List ℕ) → AllHave IsNoSlot (map to xs)
mapped_none to none [] = tt
mapped_none to none (x ∷ xs) = (none x, mapped_none to none xs)

-- the own variables of a function
own_has : (f : ℕ) (d : FunDef) (all before rest : List Home) (x : ℕ) → all ≡ before ++ ((own_of f d).homes ++ rest) → length before ≡ x → (own_of f d).declared ≡ range_with_len x (length (own_of f d).declared)
    → AllHave (NoSlot all) (d.params ++ locals_in d.body)
own_has f d all before rest x is long range =
    let params : List Home = map (λ (v : ℕ). home.Param f) d.params in
    let locals : List Home = map (λ (v : ℕ). home.Local f) (locals_in d.body) in
    let front = params ++ locals in
    let size : length front ≡ length (d.params ++ locals_in d.body) =
    length-append params locals ∙ ap (λ n. n + length locals) (length-map d.params (λ (v : ℕ). home.Param f)) ∙ ap (λ n. length d.params + n) (length-map (locals_in d.body) (λ (v : ℕ). home.Local f))
    ∙ sym (length-append d.params (locals_in d.body)) in
    subst (AllHave (NoSlot all)) (sym range)
    (range_has all before front (result_home f d.result ++ rest) x (length (d.params ++ locals_in d.body)) (is ∙ ap (λ (hs : List Home). before ++ hs) (append_assoc front (result_home f d.result) rest)) long size
    (all_both IsNoSlot params locals (mapped_none (λ v. home.Param f) (λ v. tt) d.params) (mapped_none (λ v. home.Local f) (λ v. tt) (locals_in d.body))))

abbrev OwnHas : List Home → FunDef → Type 0
OwnHas all d = AllHave (NoSlot all) (d.params ++ locals_in d.body)

first_same : (x y : Own) (xs ys : List Own) → (let zs : List Own = x ∷ xs in zs) ≡ y ∷ ys → (x ≡ y) × (xs ≡ ys)
first_same x y xs ys e = (cc, cc)

owns_have : {x : ℕ} {globals : List ℕ} {owns : List Own} {homes : List Home} → Declares x globals owns homes → (f : ℕ) (ds : List FunDef) → owns ≡ owns_from f ds → (all before : List Home) → all ≡ before ++ homes → length before ≡ x
    → AllHave (OwnHas all) ds
owns_have Declares.nothing f [] same all before is long = tt
owns_have Declares.nothing f (d ∷ ds) same all before is long = absurd cc
owns_have {x} (Declares.a_global {homes = homes} n rest) f ds same all before is long =
    let g = home.Global n in
    let more : length (before ++ g ∷ []) ≡ length before + 1 = length-append before (g ∷ []) in
    owns_have rest f ds same all (before ++ g ∷ []) (is ∙ sym (append_assoc before (g ∷ []) homes)) (more ∙ ap (λ m. m + 1) long)
owns_have (Declares.a_function own range sees rest) f [] same all before is long = absurd cc
owns_have {x} (Declares.a_function {owns = owns} {homes = homes} own range sees rest) f (d ∷ ds) same all before is long =
    let e = first_same own (own_of f d) owns (owns_from (f + 1) ds) same in (
      own_has f d all before homes x (is ∙ ap (λ (o : Own). before ++ (o.homes ++ homes)) e.0) long (subst (λ (o : Own). o.declared ≡ range_with_len x (length o.declared)) e.0 range),
      owns_have rest (f + 1) ds e.1 all (before ++ own.homes) (is ∙ sym (append_assoc before own.homes homes)) (length-append before own.homes ∙ ap (λ m. m + length own.homes) long),
    )

module _ (p : Program) where
  abbrev homes : List Home
  homes = map (λ (v : VarDef). v.home) p.vars

  -- globals

  front_of : (n : ℕ) (all : List VarDef) (v : VarDef) (vs : List VarDef) → drop n all ≡ v ∷ vs → (slice_get all n ≡ Some v) × (drop (n + 1) all ≡ vs)
  front_of zero [] v vs e = absurd cc
  front_of zero (w ∷ all) v vs e = (let same : w ≡ v = cc in ap Some same, let rest : all ≡ vs = cc in rest)
  front_of (suc n) [] v vs e = absurd cc
  front_of (suc n) (w ∷ all) v vs e =
      let next = front_of n all v vs e in
      let far : suc n + 1 ≡ suc (n + 1) = omega arith in
      (next.0, ap (λ m. drop m (w ∷ all)) far ∙ next.1)

  one_more : (h : Home) (s : Declared) → slice_get homes s.count ≡ Some h → AllHave (NoSlot homes) s.globals → AllHave (NoSlot homes) (with_variable h s).globals
  one_more (home.Global n) s is all = all_both (NoSlot homes) s.globals (s.count ∷ []) all ((λ h has. subst IsNoSlot (same_Some (home.Global n) h (sym is ∙ has)) tt), tt)
  one_more (home.Param f) s is all = all
  one_more (home.Local f) s is all = all
  one_more (home.Result f) s is all = all

  up_to_case : (f : ℕ) (d : FunDef) (v : VarDef) (vs : List VarDef) (s : Declared) (b : Bool) → drop s.count p.vars ≡ v ∷ vs
      → ((t : Declared) → drop t.count p.vars ≡ vs → AllHave (NoSlot homes) t.globals → AllHave (NoSlot homes) (up_to f d vs t).globals)
      → AllHave (NoSlot homes) s.globals → AllHave (NoSlot homes) (if b then up_to f d vs (with_variable v.home s) else s).globals
  up_to_case f d v vs s false is go all = all
  up_to_case f d v vs s true is go all =
      let front = front_of s.count p.vars v vs is in
      let there : slice_get homes s.count ≡ Some v.home = slice_get-map (λ (w : VarDef). w.home) p.vars s.count ∙ ap (option_map (λ (w : VarDef). w.home)) front.0 in
      go (with_variable v.home s) front.1 (one_more v.home s there all)

  up_to_has : (f : ℕ) (d : FunDef) (vs : List VarDef) (s : Declared) → drop s.count p.vars ≡ vs → AllHave (NoSlot homes) s.globals → AllHave (NoSlot homes) (up_to f d vs s).globals
  up_to_has f d [] s is all = all
  up_to_has f d (v ∷ vs) s is all = up_to_case f d v vs s (stands_before f d v) is (λ t. up_to_has f d vs t) all

  -- rows

  -- the puts of the gap are in scope there, and what is in scope is no slot
  record RowFine (puts : List Put) (r : GapScope) : Type 0 where
    at : ℕ
    scoped : list_all (is_in_scope (declarations p) at r.vars) (puts_at puts r.gap) ≡ true
    none : AllHave (NoSlot homes) r.vars

  rows_fine : (puts : List Put) (at : ℕ) (rows : List GapScope) → have_scope (declarations p) puts at rows ≡ true → AllHave (RowHas (NoSlot homes)) rows → AllHave (RowFine puts) rows
  rows_fine puts at [] scoped none = tt
  rows_fine puts at (r ∷ rows) scoped none =
      let parts = and_parts (list_all (is_in_scope (declarations p) at r.vars) (puts_at puts r.gap)) (have_scope (declarations p) puts at rows) scoped in
      (record { at = at; scoped = parts.0; none = none.0 }, rows_fine puts at rows parts.1 none.1)

  functions_fine : (puts : List Put) (f : ℕ) (s : Declared) (ds : List FunDef) → functions_have p puts f s ds ≡ true → AllHave (NoSlot homes) s.globals → AllHave (OwnHas homes) ds → AllHave (RowFine puts) (scopes_from p.vars f s ds)
  functions_fine puts f s [] scoped globals own = tt
  functions_fine puts f s (d ∷ ds) scoped globals own =
      let here = up_to f d (drop s.count p.vars) s in
      let now = up_to_has f d (drop s.count p.vars) s refl globals in
      let parts = and_parts (have_scope (declarations p) puts d.at (function_place d here.globals)) (functions_have p puts (f + 1) here ds) scoped in
      all_both (RowFine puts) (function_place d here.globals) (scopes_from p.vars (f + 1) here ds)
      (rows_fine puts d.at (function_place d here.globals) parts.0 (function_has (NoSlot homes) d here.globals now own.0)) (functions_fine puts (f + 1) here ds parts.1 now own.1)

  -- what a put in scope frees is a pointer, and no slot
  pub record IsFreed (q : Put) : Type 0 where
    pub at : ℕ
    pub points : has is_pointer (freed_type (declarations p) at q.var q.field) ≡ true
    pub none : NoSlot homes q.var

  pub put_freed : (puts : List Put) (k : ℕ) (q : Put) → IsWellFormed p → AreInScope p puts → slice_get puts k ≡ Some q → q.gap < p.gaps → IsFreed q
  put_freed puts k q well scoped is below =
      let owns = owns_have well.declared 0 p.funs refl homes [] refl refl in
      let fine = functions_fine puts 0 (so_far 0 []) p.funs scoped tt owns in
      let vars = scope_at p q.gap in
      let row = all_get (RowFine puts) (scopes p) q.gap (record { gap = q.gap; vars = vars }) (scope_is p q.gap well below) fine in
      let here = at_gap (is_in_scope (declarations p) row.at vars) puts q.gap k q is refl row.scoped in
      let parts = and_parts (is_member nat_eq vars q.var) (has is_pointer (freed_type (declarations p) row.at q.var q.field)) here in
      record { at = row.at; points = parts.1; none = member_has (NoSlot homes) vars q.var parts.0 row.none }
