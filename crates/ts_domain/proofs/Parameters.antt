-- The parameters of each function, as names have them, are its own in their order.
use Rattle.std.proofs.Common.{◌≡◌, ℕ, zero, suc, ◌+◌, ◌<◌, ◌==◌, Bool, true, false, List, [], ◌∷◌, ◌++◌, map, slice_get, length, Option, Some, None, option_map, refl, ap, sym, ◌∙◌, arith}
use Rattle.std.specs.Prelude.{unwrap_or, if◌then◌else◌}
use Rattle.std.specs.List.{filter, range_with_len}
use Rattle.std.proofs.lemmas.Bool.{eqb-true, eq-eqb}
use Rattle.std.proofs.lemmas.List.{append-nil}
use Rattle.c_tree.specs.Numbers.{Own, own_of, owns_from, result_home, locals_in, Declares, nothing, a_global, a_function}
use Rattle.c_tree.specs.Typing.{has}
use Rattle.c_tree.specs.WellFormed.{IsWellFormed}
use Rattle.c_tree.specs.declared.program.FunDef.{FunDef}
use Rattle.c_tree.specs.declared.program.Home.{Home}
use Rattle.c_tree.specs.declared.program.Home.TheVariants as home
use Rattle.c_tree.specs.declared.program.Program.{Program}
use Rattle.c_tree.specs.declared.program.Ty.{Ty}
use Rattle.c_tree.specs.declared.program.VarDef.{VarDef}
use Rattle.c_meaning.specs.Effects.{parameters_of}
use Rattle.ts_domain.specs.declared.names.Names.{Names}
use Rattle.ts_domain.specs.Pointers.{is_parameter_of, has_home, parameters}

-- the parameters of function f among variables with these homes, numbered from x on
abbrev picks : ℕ → ℕ → List Home → List ℕ
picks f x [] = []
picks f x (h ∷ hs) = if is_parameter_of f h then x ∷ picks f (x + 1) hs else picks f (x + 1) hs

picks_append : (f x : ℕ) (hs ks : List Home) → picks f x (hs ++ ks) ≡ picks f x hs ++ picks f (x + length hs) ks
picks_append f x [] ks = let here : x ≡ x + 0 = omega arith in ap (λ (y : ℕ). picks f y ks) here
picks_append f x (h ∷ hs) ks =
    let on : x + 1 + length hs ≡ x + length (h ∷ hs) = omega arith in
    by_home (is_parameter_of f h) (picks_append f (x + 1) hs ks ∙ ap (λ (y : ℕ). picks f (x + 1) hs ++ picks f y ks) on)
  where
    by_home : (b : Bool) → picks f (x + 1) (hs ++ ks) ≡ picks f (x + 1) hs ++ picks f (x + length (h ∷ hs)) ks →
        (if b then x ∷ picks f (x + 1) (hs ++ ks) else picks f (x + 1) (hs ++ ks)) ≡ (if b then x ∷ picks f (x + 1) hs else picks f (x + 1) hs) ++ picks f (x + length (h ∷ hs)) ks
    by_home true e = ap (λ (ys : List ℕ). x ∷ ys) e
    by_home false e = e

own_picks : (f x : ℕ) (ys : List ℕ) → picks f x (map (λ (y : ℕ). home.Param f) ys) ≡ range_with_len x (length ys)
own_picks f x [] = refl
own_picks f x (y ∷ ys) =
    ap (λ (b : Bool). if b then x ∷ picks f (x + 1) (map (λ (y : ℕ). home.Param f) ys) else picks f (x + 1) (map (λ (y : ℕ). home.Param f) ys)) (eq-eqb f f refl) ∙ ap (λ (zs : List ℕ). x ∷ zs) (own_picks f (x + 1) ys)

other_picks : (f g x : ℕ) (ys : List ℕ) → (g == f) ≡ false → picks f x (map (λ (y : ℕ). home.Param g) ys) ≡ []
other_picks f g x [] other = refl
other_picks f g x (y ∷ ys) other =
    ap (λ (b : Bool). if b then x ∷ picks f (x + 1) (map (λ (y : ℕ). home.Param g) ys) else picks f (x + 1) (map (λ (y : ℕ). home.Param g) ys)) other ∙ other_picks f g (x + 1) ys other

local_picks : (f g x : ℕ) (ys : List ℕ) → picks f x (map (λ (y : ℕ). home.Local g) ys) ≡ []
local_picks f g x [] = refl
local_picks f g x (y ∷ ys) = local_picks f g (x + 1) ys

result_picks : (f g x : ℕ) (r : Option Ty) → picks f x (result_home g r) ≡ []
result_picks f g x None = refl
result_picks f g x (Some t) = refl

front_range : (x m : ℕ) (xs ys : List ℕ) → xs ++ ys ≡ range_with_len x m → xs ≡ range_with_len x (length xs)
front_range x m [] ys e = refl
front_range x zero (z ∷ xs) ys e = absurd cc
front_range x (suc m) (z ∷ xs) ys e =
    let here : z ≡ x = cc in
    let rest : xs ++ ys ≡ range_with_len (x + 1) m = cc in
    ap (λ (y : ℕ). y ∷ xs) here ∙ ap (λ (zs : List ℕ). x ∷ zs) (front_range (x + 1) m xs ys rest)

-- what one function declares

three_picks : (f x : ℕ) (ps ls rs : List Home) → ((y : ℕ) → picks f y ls ≡ []) → ((y : ℕ) → picks f y rs ≡ []) → picks f x (ps ++ ls ++ rs) ≡ picks f x ps
three_picks f x ps ls rs none nor =
    picks_append f x (ps ++ ls) rs
    ∙ ap (λ (ys : List ℕ). picks f x (ps ++ ls) ++ ys) (nor (x + length (ps ++ ls))) ∙ append-nil (picks f x (ps ++ ls))
    ∙ picks_append f x ps ls ∙ ap (λ (ys : List ℕ). picks f x ps ++ ys) (none (x + length ps)) ∙ append-nil (picks f x ps)

function_picks : (f g x : ℕ) (d : FunDef) → picks f x (own_of g d).homes ≡ picks f x (map (λ (y : ℕ). home.Param g) d.params)
function_picks f g x d =
    three_picks f x (map (λ (y : ℕ). home.Param g) d.params) (map (λ (y : ℕ). home.Local g) (locals_in d.body)) (result_home g d.result) (λ y. local_picks f g y (locals_in d.body)) (λ y. result_picks f g y d.result)

pub not_same : (f g : ℕ) → (g ≡ f → ⊥) → (g == f) ≡ false
not_same f g apart = by_bool (g == f) refl
  where
    by_bool : (b : Bool) → (g == f) ≡ b → (g == f) ≡ false
    by_bool true e = absurd (apart (eqb-true g f e))
    by_bool false e = e

abbrev params_at : List FunDef → ℕ → List ℕ
params_at ds i = unwrap_or (option_map (λ (d : FunDef). d.params) (slice_get ds i)) []

-- all functions in turn

past_picks : (f g x : ℕ) (globals : List ℕ) (owns : List Own) (homes : List Home) (ds : List FunDef) → owns ≡ owns_from g ds → f < g → Declares x globals owns homes → picks f x homes ≡ []
past_picks f g x globals _ _ ds is low nothing = refl
past_picks f g x globals owns _ ds is low (a_global {homes = homes} m rest) = past_picks f g (x + 1) (x ∷ globals) owns homes ds is low rest
past_picks f g x globals _ _ [] is low (a_function own range sees rest) = absurd cc
past_picks f g x globals _ _ (d ∷ ds) is low (a_function {owns = owns} {homes = homes} own range sees rest) =
    let own_is : own ≡ own_of g d = cc in
    let owns_are : owns ≡ owns_from (g + 1) ds = cc in
    let other = not_same f g (λ same. omega arith) in
    picks_append f x own.homes homes
    ∙ ap (λ (ys : List ℕ). ys ++ picks f (x + length own.homes) homes) (ap (λ (o : Own). picks f x o.homes) own_is ∙ function_picks f g x d ∙ other_picks f g x d.params other)
    ∙ past_picks f (g + 1) (x + length own.homes) globals owns homes ds owns_are (omega arith) rest

all_picks : (f g i x : ℕ) (globals : List ℕ) (owns : List Own) (homes : List Home) (ds : List FunDef) → owns ≡ owns_from g ds → f ≡ g + i → Declares x globals owns homes → picks f x homes ≡ params_at ds i
all_picks f g i x globals _ _ [] is at nothing = refl
all_picks f g i x globals _ _ (d ∷ ds) is at nothing = absurd cc
all_picks f g i x globals owns _ ds is at (a_global {homes = homes} m rest) = all_picks f g i (x + 1) (x ∷ globals) owns homes ds is at rest
all_picks f g i x globals _ _ [] is at (a_function own range sees rest) = absurd cc
all_picks f g zero x globals _ _ (d ∷ ds) is at (a_function {owns = owns} {homes = homes} own range sees rest) =
    let own_is : own ≡ own_of g d = cc in
    let owns_are : owns ≡ owns_from (g + 1) ds = cc in
    let here : f ≡ g = omega arith in
    let params : d.params ≡ range_with_len x (length d.params) = front_range x (length own.declared) d.params (locals_in d.body) (sym (ap (λ (o : Own). o.declared) own_is) ∙ range) in
    picks_append f x own.homes homes
    ∙ ap (λ (ys : List ℕ). ys ++ picks f (x + length own.homes) homes)
    (ap (λ (o : Own). picks f x o.homes) own_is ∙ function_picks f g x d ∙ ap (λ (k : ℕ). picks f x (map (λ (y : ℕ). home.Param k) d.params)) (sym here) ∙ own_picks f x d.params ∙ sym params)
    ∙ ap (λ (ys : List ℕ). d.params ++ ys) (past_picks f (g + 1) (x + length own.homes) globals owns homes ds owns_are (omega arith) rest) ∙ append-nil d.params
all_picks f g (suc i) x globals _ _ (d ∷ ds) is at (a_function {owns = owns} {homes = homes} own range sees rest) =
    let own_is : own ≡ own_of g d = cc in
    let owns_are : owns ≡ owns_from (g + 1) ds = cc in
    let other = not_same f g (λ same. omega arith) in
    picks_append f x own.homes homes
    ∙ ap (λ (ys : List ℕ). ys ++ picks f (x + length own.homes) homes) (ap (λ (o : Own). picks f x o.homes) own_is ∙ function_picks f g x d ∙ other_picks f g x d.params other)
    ∙ all_picks f (g + 1) i (x + length own.homes) globals owns homes ds owns_are (omega arith) rest

-- by the variables of names

module _ (n : Names) (f : ℕ) where
  filtered : (a : ℕ) (vs : List VarDef) → ((i : ℕ) → slice_get n.decls (a + i) ≡ slice_get vs i) → filter (has_home n (is_parameter_of f)) (range_with_len a (length vs)) ≡ picks f a (map (λ (v : VarDef). v.home) vs)
  filtered a [] h = refl
  filtered a (v ∷ vs) h =
      let here : a ≡ a + 0 = omega arith in
      let at : has_home n (is_parameter_of f) a ≡ is_parameter_of f v.home = ap (λ (i : ℕ). has (λ (u : VarDef). is_parameter_of f u.home) (slice_get n.decls i)) here ∙ ap (has (λ (u : VarDef). is_parameter_of f u.home)) (h 0) in
      ap (λ (b : Bool). if b then a ∷ filter (has_home n (is_parameter_of f)) (range_with_len (a + 1) (length vs)) else filter (has_home n (is_parameter_of f)) (range_with_len (a + 1) (length vs))) at
      ∙ ap (λ (ys : List ℕ). if is_parameter_of f v.home then a ∷ ys else ys) (filtered (a + 1) vs (λ i. let on : a + 1 + i ≡ a + suc i = omega arith in ap (slice_get n.decls) on ∙ h (suc i)))

-- so it is for a well-formed program
pub has_parameters : (p : Program) → IsWellFormed p → (n : Names) → n.decls ≡ p.vars → (f : ℕ) → parameters n f ≡ parameters_of p f
has_parameters p w n decls f =
    let same : f ≡ 0 + f = omega arith in
    filtered n f 0 n.decls (λ i. let on : 0 + i ≡ i = omega arith in ap (slice_get n.decls) on)
    ∙ ap (λ (vs : List VarDef). picks f 0 (map (λ (v : VarDef). v.home) vs)) decls
    ∙ all_picks f 0 f 0 [] (owns_from 0 p.funs) (map (λ (v : VarDef). v.home) p.vars) p.funs refl same w.declared
