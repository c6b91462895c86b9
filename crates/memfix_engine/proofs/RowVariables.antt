-- The variables in scope at the gaps of a well-formed program exist.
use Rattle.std.proofs.Common.{◌≡◌, ℕ, zero, suc, ◌+◌, ◌-◌, ◌<◌, ◌≤◌, ⊎_elim, Bool, true, false, List, [], ◌∷◌, ◌++◌, map, flat_map, length, drop, take, slice_get, Option, Some, None, refl, ap, sym, subst, ◌∙◌, arith, append-nil, length-append}
use Rattle.std.specs.Prelude.{if◌then◌else◌}
use Rattle.std.specs.List.{range_with_len}
use Rattle.std.proofs.lemmas.Grind.{flat_map-append}
use Rattle.std.proofs.lemmas.List.{length-map}
use Rattle.c_tree.specs.Numbers.{Declares, a_function, a_global, nothing, Numbers, Own, from_all, item_locals, arm_locals, block_locals, piece_locals, locals_in, own_of, owns_from, result_home, start_locals}
use Rattle.c_tree.specs.WellFormed.{IsWellFormed}
use Rattle.c_tree.specs.declared.program.Block.{Block}
use Rattle.c_tree.specs.declared.program.Declr.{Declr}
use Rattle.c_tree.specs.declared.program.FunDef.{FunDef}
use Rattle.c_tree.specs.declared.program.Home.{Home}
use Rattle.c_tree.specs.declared.program.Home.TheVariants as home
use Rattle.c_tree.specs.declared.program.Item.{Item-F}
use Rattle.c_tree.specs.declared.program.Item.TheOpen.{Declare, Assign, Do, Nest, If, While, For, Break, Continue, Return}
use Rattle.c_tree.specs.declared.program.Program.{Program}
use Rattle.c_tree.specs.declared.program.Start.{Start}
use Rattle.c_tree.specs.declared.program.Start.TheVariants as start
use Rattle.c_tree.specs.declared.program.VarDef.{VarDef}
use Rattle.c_tree.proofs.Fills.{kept_block}
use Rattle.c_tree.proofs.RegappedFolds.{Algebra, Leads, fold_led, led_item}
use Rattle.call_contexts.proofs.Has.{Has, first, later, has_left, has_right, has_split, only_one}
use Rattle.c_scopes.specs.ScopeAt.{Declared, GapScope, is_global, scopes, so_far, stands_before, up_to, with_variable}
use Rattle.c_scopes.specs.Turns.{block_turns, closed_to, declr_turns, function_turns, global_turns, row_at, rows_from, scope_of, scoped, start_turns, turned, turns, turns_from, var_turns}
use Rattle.c_scopes.specs.Turns as course
use Rattle.c_scopes.specs.declared.in_scope.InScope.{InScope}
use Rattle.c_scopes.specs.declared.walk.Turn.{Turn}
use Rattle.c_scopes.specs.declared.walk.Turn.TheVariants as turn
use Rattle.c_scopes.proofs.ScopeOrder.{within_range}
use Rattle.c_scopes.proofs.TurnRows.{narrows_none, turns_rows}
use Rattle.memfix_engine.proofs.ScopeLists.{within_has}

-- all numbers of a list are below m
abbrev AreLow : ℕ → List ℕ → Type 0
AreLow m xs = (x : ℕ) → Has x xs → x < m

-- of two lists
low_both : (m : ℕ) (xs ys : List ℕ) → AreLow m xs → AreLow m ys → AreLow m (xs ++ ys)
low_both m xs ys front rest x h = ⊎_elim (λ here. front x here) (λ there. rest x there) (has_split xs h)

-- of one number
low_one : (m y : ℕ) → y < m → AreLow m (y ∷ [])
low_one m y low x h = subst (λ (z : ℕ). z < m) (sym (only_one h)) low

-- what is in a front of a list is in the list
has_of_take : {x : ℕ} (n : ℕ) (xs : List ℕ) → Has x (take n xs) → Has x xs
has_of_take zero xs h = elim h [ ]
has_of_take (suc n) [] h = elim h [ ]
has_of_take (suc n) (y ∷ xs) first = first
has_of_take (suc n) (y ∷ xs) (later h) = later (has_of_take n xs h)

-- what is in a rest of a list is in the list
has_of_drop : {x : ℕ} (n : ℕ) (xs : List ℕ) → Has x (drop n xs) → Has x xs
has_of_drop zero xs h = h
has_of_drop (suc n) [] h = elim h [ ]
has_of_drop (suc n) (y ∷ xs) h = later (has_of_drop n xs h)

-- what comes into sight

-- the variables that come into sight in one turn
abbrev seen_by : Turn → List ℕ
seen_by (turn.See x) = x ∷ []
seen_by turn.Open = []
seen_by (turn.Gap n) = []
seen_by turn.Close = []

-- the variables that come into sight in turns
abbrev seen_in : List Turn → List ℕ
seen_in ts = flat_map seen_by ts

-- in turns and in those behind them
seen_both : (ts us : List Turn) → seen_in (ts ++ us) ≡ seen_in ts ++ seen_in us
seen_both ts us = flat_map-append seen_by ts us

-- a scope of its own brings none
seen_scoped : (ts : List Turn) → seen_in (scoped ts) ≡ seen_in ts
seen_scoped ts = seen_both ts (turn.Close ∷ []) ∙ append-nil (seen_in ts)

-- where none is hidden, a variable comes into sight
one_seen : (x : ℕ) → seen_in (var_turns [] x) ≡ x ∷ []
one_seen zero = refl
one_seen (suc x) = refl

-- and so do all of a list
vars_seen : (xs : List ℕ) → seen_in (flat_map (var_turns []) xs) ≡ xs
vars_seen [] = refl
vars_seen (x ∷ xs) = seen_both (var_turns [] x) (flat_map (var_turns []) xs) ∙ ap (λ (ys : List ℕ). ys ++ seen_in (flat_map (var_turns []) xs)) (one_seen x) ∙ ap (λ (ys : List ℕ). x ∷ ys) (vars_seen xs)

-- those of declarators
declrs_seen : (ds : List Declr) → seen_in (flat_map (declr_turns []) ds) ≡ map (λ (d : Declr). d.var) ds
declrs_seen [] = refl
declrs_seen (d ∷ ds) =
    seen_both (declr_turns [] d) (flat_map (declr_turns []) ds)
    ∙ ap (λ (ys : List ℕ). ys ++ seen_in (flat_map (declr_turns []) ds)) (one_seen d.var) ∙ ap (λ (ys : List ℕ). d.var ∷ ys) (declrs_seen ds)

-- those before the first `;` of a `for`
starts_seen : (ss : List Start) → seen_in (flat_map (start_turns []) ss) ≡ flat_map start_locals ss
starts_seen [] = refl
starts_seen (start.Declare d ∷ ss) =
    seen_both (var_turns [] d.var) (flat_map (start_turns []) ss)
    ∙ ap (λ (ys : List ℕ). ys ++ seen_in (flat_map (start_turns []) ss)) (one_seen d.var) ∙ ap (λ (ys : List ℕ). d.var ∷ ys) (starts_seen ss)
starts_seen (start.Assign s ∷ ss) = starts_seen ss

-- those of parts in turn
all_seen : (tss : List (List Turn)) → seen_in (from_all tss) ≡ from_all (map seen_in tss)
all_seen [] = refl
all_seen (ts ∷ tss) = seen_both ts (from_all tss) ∙ ap (λ (ys : List ℕ). seen_in ts ++ ys) (all_seen tss)

-- those of a block are its locals

-- the turns of a block
abbrev turning : Algebra (List Turn) (List Turn) (List Turn) (List Turn)
turning = record { item = course.item_layer []; arm = course.arm_layer; block = course.block_layer; piece = course.piece_layer }

-- the variables that a block declares
abbrev locating : Algebra Numbers Numbers Numbers Numbers
locating = record { item = item_locals; arm = arm_locals; block = block_locals; piece = piece_locals }

-- from the turns of a part to the variables that come into sight
abbrev seeing : Leads (List Turn) (List Turn) (List Turn) (List Turn) Numbers Numbers Numbers Numbers
seeing = record { item = seen_in; arm = seen_in; block = seen_in; piece = seen_in }

-- an item brings those that it declares
item_seen : (x : Item-F (List Turn) (List Turn) (List Turn) (List Turn)) → item_locals (led_item seeing x) ≡ seen_in (course.item_layer [] x)
item_seen (Declare ds) = sym (declrs_seen ds)
item_seen (Assign s) = refl
item_seen (Do c) = refl
item_seen (Nest b) = refl
item_seen (If arms None) = sym (seen_both (from_all arms) [] ∙ ap (λ (ys : List ℕ). ys ++ []) (all_seen arms))
item_seen (If arms (Some b)) = sym (seen_both (from_all arms) b ∙ ap (λ (ys : List ℕ). ys ++ seen_in b) (all_seen arms))
item_seen (While e b) = refl
item_seen (For h b) =
    sym (seen_scoped (flat_map (start_turns []) h.start ++ b) ∙ seen_both (flat_map (start_turns []) h.start) b ∙ ap (λ (ys : List ℕ). ys ++ seen_in b) (starts_seen h.start))
item_seen Break = refl
item_seen Continue = refl
item_seen (Return r at) = refl

-- and so does a block
block_seen : (b : Block) → seen_in (block_turns [] b) ≡ locals_in b
block_seen b =
    sym (fold_led (λ g. g) turning locating seeing (record {
      item = item_seen;
      arm = λ x. refl;
      block = λ x. sym (seen_scoped (from_all x.items ++ turn.Gap x.last_gap.number ∷ []) ∙ seen_both (from_all x.items) (turn.Gap x.last_gap.number ∷ []) ∙ append-nil (seen_in (from_all x.items)) ∙ all_seen x.items);
      piece = λ x. refl;
    }) b)
    ∙ ap locals_in (kept_block b)

-- a function brings its parameters and those of its body
function_seen : (d : FunDef) → seen_in (function_turns [] d) ≡ d.params ++ locals_in d.body
function_seen d =
    seen_scoped (flat_map (var_turns []) d.params ++ block_turns [] d.body) ∙ seen_both (flat_map (var_turns []) d.params) (block_turns [] d.body)
    ∙ ap (λ (ys : List ℕ). ys ++ seen_in (block_turns [] d.body)) (vars_seen d.params) ∙ ap (λ (ys : List ℕ). d.params ++ ys) (block_seen d.body)

-- what is in scope came into sight

module _ (m : ℕ) where
  -- the row of a gap
  row_low : (t : Turn) (s : InScope) (r : GapScope) → AreLow m s.vars → Has r (row_at t s) → AreLow m r.vars
  row_low turn.Open s r low h = elim h [ ]
  row_low (turn.See x) s r low h = elim h [ ]
  row_low (turn.Gap n) s r low h = subst (λ (z : GapScope). AreLow m z.vars) (sym (only_one h)) low
  row_low turn.Close s r low h = elim h [ ]

  -- behind a scope that ends
  closed_low : (o : Option ℕ) (s : InScope) → AreLow m s.vars → AreLow m (closed_to o s).vars
  closed_low None s low x h = low x h
  closed_low (Some n) s low x h = low x (has_of_take n s.vars h)

  -- behind a turn
  turned_low : (t : Turn) (s : InScope) → AreLow m s.vars → AreLow m (seen_by t) → AreLow m (turned t s).vars
  turned_low turn.Open s low new = low
  turned_low (turn.See x) s low new = low_both m s.vars (x ∷ []) low new
  turned_low (turn.Gap n) s low new = low
  turned_low turn.Close s low new = closed_low (slice_get s.outer (length s.outer - 1)) s low

  -- all rows on the way over turns
  rows_low : (ts : List Turn) (s : InScope) → AreLow m s.vars → AreLow m (seen_in ts) → (r : GapScope) → Has r (rows_from s ts) → AreLow m r.vars
  rows_low [] s low new r h = elim h [ ]
  rows_low (t ∷ ts) s low new r h = ⊎_elim
      (λ here. row_low t s r low here)
      (λ there. rows_low ts (turned t s) (turned_low t s low (λ x g. new x (has_left (seen_in ts) g))) (λ x g. new x (has_right (seen_by t) g)) r there)
      (has_split (row_at t s) h)

  -- globals

  -- the variables that are declared up to a place are below m
  record IsLow (s : Declared) : Type 0 where
    count : s.count ≤ m
    globals : AreLow m s.globals

  -- with a variable more, a global or not
  counted_low : (h : Bool) (s : Declared) → s.count < m → AreLow m s.globals → AreLow m (if h then s.globals ++ s.count ∷ [] else s.globals)
  counted_low true s less low = low_both m s.globals (s.count ∷ []) low (low_one m s.count less)
  counted_low false s less low = low

  -- up to a function, where the next variable stands before it or not
  up_to_by : (f : ℕ) (d : FunDef) (v : VarDef) (vs : List VarDef) (s : Declared) (b : Bool) → s.count ≤ m → AreLow m s.globals → IsLow (up_to f d vs (with_variable v.home s))
      → IsLow (if b then up_to f d vs (with_variable v.home s) else s)
  up_to_by f d v vs s true room low more = more
  up_to_by f d v vs s false room low more = record { count = room; globals = low }

  -- up to a function
  up_to_low : (f : ℕ) (d : FunDef) (vs : List VarDef) (s : Declared) → s.count + length vs ≤ m → AreLow m s.globals → IsLow (up_to f d vs s)
  up_to_low f d [] s room low = record { count = omega arith; globals = low }
  up_to_low f d (v ∷ vs) s room low = up_to_by f d v vs s (stands_before f d v) (omega arith) low (up_to_low f d vs (with_variable v.home s) (omega arith) (counted_low (is_global v.home) s (omega arith) low))

-- the variables of functions

-- numbers in turn
range_low : (m x n : ℕ) → x + n ≤ m → AreLow m (range_with_len x n)
range_low m x n room y h = let below = (within_has x (x + n) (range_with_len x n) (within_range x n) h).1 in omega arith

-- a function has a home for each variable that it declares
homes_long : (f : ℕ) (d : FunDef) → length (own_of f d).declared ≤ length (own_of f d).homes
homes_long f d =
    let params : List Home = map (λ (x : ℕ). home.Param f) d.params in
    let locals : List Home = map (λ (x : ℕ). home.Local f) (locals_in d.body) in
    let declared : length (d.params ++ locals_in d.body) ≡ length d.params + length (locals_in d.body) = length-append d.params (locals_in d.body) in
    let all : length (params ++ locals ++ result_home f d.result) ≡ length (params ++ locals) + length (result_home f d.result) = length-append (params ++ locals) (result_home f d.result) in
    let both : length (params ++ locals) ≡ length params + length locals = length-append params locals in
    let first_long : length params ≡ length d.params = length-map d.params (λ (x : ℕ). home.Param f) in
    let second_long : length locals ≡ length (locals_in d.body) = length-map (locals_in d.body) (λ (x : ℕ). home.Local f) in
    omega arith

-- the variables of each function are below the number of homes
declared_low : (m f x : ℕ) (globals : List ℕ) (owns : List Own) (homes : List Home) (ds : List FunDef) → owns ≡ owns_from f ds → x + length homes ≤ m → Declares x globals owns homes
    → (d : FunDef) → Has d ds → AreLow m (d.params ++ locals_in d.body)
declared_low m f x globals _ _ [] is room r d h = elim h [ ]
declared_low m f x globals _ _ (e ∷ ds) is room nothing d h = absurd cc
declared_low m f x globals owns _ (e ∷ ds) is room (a_global {homes = homes} n rest) d h = declared_low m f (x + 1) (x ∷ globals) owns homes (e ∷ ds) is (omega arith) rest d h
declared_low m f x globals _ _ (e ∷ ds) is room (a_function {owns = owns} {homes = homes} own range sees rest) d h =
    let own_is : own ≡ own_of f e = cc in
    let owns_are : owns ≡ owns_from (f + 1) ds = cc in
    let long : length (own.homes ++ homes) ≡ length own.homes + length homes = length-append own.homes homes in
    let own_long : length own.declared ≤ length own.homes = subst (λ (o : Own). length o.declared ≤ length o.homes) (sym own_is) (homes_long f e) in
    let here : AreLow m own.declared = subst (λ (ys : List ℕ). AreLow m ys) (sym range) (range_low m x (length own.declared) (omega arith)) in
    by_place (subst (λ (o : Own). AreLow m o.declared) own_is here) (declared_low m (f + 1) (x + length own.homes) globals owns homes ds owns_are (omega arith) rest) d h
  where
    by_place : AreLow m (e.params ++ locals_in e.body) → ((d : FunDef) → Has d ds → AreLow m (d.params ++ locals_in d.body)) → (d : FunDef) → Has d (e ∷ ds) → AreLow m (d.params ++ locals_in d.body)
    by_place own rest _ first = own
    by_place own rest d (later h) = rest d h

-- the file

-- what is left of a list, with what was before, is as long as the list
length_dropped : {A : Type 0} (n : ℕ) (xs : List A) → n ≤ length xs → n + length (drop n xs) ≡ length xs
length_dropped zero xs le = omega arith
length_dropped (suc n) [] le = absurd (omega arith)
length_dropped (suc n) (x ∷ xs) le = let rest : n + length (drop n xs) ≡ length xs = length_dropped n xs (omega arith) in omega arith

-- the variables that come into sight in the turns of functions
turns_low : (vars : List VarDef) (f : ℕ) (s : Declared) (ds : List FunDef) → ((d : FunDef) → Has d ds → AreLow (length vars) (d.params ++ locals_in d.body)) → IsLow (length vars) s
    → AreLow (length vars) (seen_in (turns_from [] vars f s ds))
turns_low vars f s [] own low = λ x h. elim h [ ]
turns_low vars f s (d ∷ ds) own low =
    let m = length vars in
    let rest = drop s.count vars in
    let here = up_to f d rest s in
    let room : s.count + length rest ≡ length vars = length_dropped s.count vars low.count in
    let next : IsLow m here = up_to_low m f d rest s (omega arith) low.globals in
    let new : List ℕ = drop (length s.globals) here.globals in
    let others : List Turn = turns_from [] vars (f + 1) here ds in
    subst (λ (ys : List ℕ). AreLow m ys) (sym (seen_both (global_turns [] (length s.globals) here.globals) (function_turns [] d ++ others)))
    (low_both m (seen_in (global_turns [] (length s.globals) here.globals)) (seen_in (function_turns [] d ++ others))
    (subst (λ (ys : List ℕ). AreLow m ys) (sym (vars_seen new)) (λ x h. next.globals x (has_of_drop (length s.globals) here.globals h)))
    (subst (λ (ys : List ℕ). AreLow m ys) (sym (seen_both (function_turns [] d) others))
    (low_both m (seen_in (function_turns [] d)) (seen_in others)
    (subst (λ (ys : List ℕ). AreLow m ys) (sym (function_seen d)) (own d first))
    (turns_low vars (f + 1) here ds (λ e h. own e (later h)) next))))

-- each variable in scope at a gap is one of the program's
pub visible_exist : {x : ℕ} {r : GapScope} (p : Program) → IsWellFormed p → Has r (scopes p) → Has x r.vars → x < length p.vars
visible_exist {x} {r} p w among visible =
    let homes : List Home = map (λ (v : VarDef). v.home) p.vars in
    let long : length homes ≡ length p.vars = length-map p.vars (λ (v : VarDef). v.home) in
    let own = declared_low (length p.vars) 0 0 [] (owns_from 0 p.funs) homes p.funs refl (omega arith) w.declared in
    let low = turns_low p.vars 0 (so_far 0 []) p.funs own (record { count = omega arith; globals = λ y h. elim h [ ] }) in
    rows_low (length p.vars) (turns [] p) (scope_of [] []) (λ y h. elim h [ ]) low r (subst (λ (rs : List GapScope). Has r rs) (sym (turns_rows [] p ∙ narrows_none (scopes p))) among) x visible
