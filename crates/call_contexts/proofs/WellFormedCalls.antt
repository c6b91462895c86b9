-- The calls of a well-formed program are as its contexts need them: ranks fall along them, and each has a number of its own.
use Rattle.std.proofs.Common.{◌≡◌, ℕ, zero, suc, ◌+◌, ◌<◌, ◌==◌, ◌&&◌, Bool, true, false, List, [], ◌∷◌, length, slice_get, unwrap_or, option_map, is_some, Option, Some, None, refl, sym, ap, subst, ◌∙◌, arith}
use Rattle.std.specs.List.{Contains, range_with_len}
use Rattle.std.proofs.lemmas.Bool.{eqb-true}
use Rattle.std.proofs.lemmas.List.Elements.{All-weaker, All-contains_itself}
use Rattle.std.proofs.lemmas.Option.{slice_get-map, slice_get_within}
use Rattle.c_tree.specs.declared.control.UserCall.{UserCall}
use Rattle.c_tree.specs.declared.program.FunDef.{FunDef}
use Rattle.c_tree.specs.declared.program.Program.{Program}
use Rattle.c_tree.specs.Typing.{has, prototype, declarations, block_fits}
use Rattle.c_tree.specs.UserCalls.{calls_in, calls_from, user_calls}
use Rattle.c_tree.specs.WellFormed.{IsWellFormed, each_from, is_main}
use Rattle.c_tree.proofs.CallsExist.{callees_there, ranks_in}
use Rattle.c_tree.proofs.Ranks.{all_at}
use Rattle.call_contexts.specs.Calls.{calls_by_function, calls_of}
use Rattle.call_contexts.proofs.CallLaws.{row_of}
use Rattle.call_contexts.proofs.ContextLaws.{AreCallsOf, both_true}
use Rattle.call_contexts.proofs.Has.{Has, has_left, has_right, get_has, has_contains, contains_has}

-- the rule holds of function i
each_at : (rule : ℕ → FunDef → Bool) (g i : ℕ) (ds : List FunDef) (d : FunDef) → slice_get ds i ≡ Some d → each_from rule g ds ≡ true → rule (g + i) d ≡ true
each_at rule g i [] d e h = absurd cc
each_at rule g zero (c ∷ ds) d e h =
    let same : c ≡ d = cc in
    let place : g ≡ g + 0 = omega arith in
    ap (λ n. rule n d) (sym place) ∙ ap (rule g) (sym same) ∙ (both_true (rule g c) (each_from rule (g + 1) ds) h).0
each_at rule g (suc i) (c ∷ ds) d e h =
    let place : g + suc i ≡ g + 1 + i = omega arith in
    ap (λ n. rule n d) place ∙ each_at rule (g + 1) i ds d e (both_true (rule g c) (each_from rule (g + 1) ds) h).1

-- the calls of a function are among those of the program
among_all : {c : UserCall} (g i : ℕ) (ds : List FunDef) (d : FunDef) → slice_get ds i ≡ Some d → Has c (calls_in (g + i) d.body) → Has c (calls_from g ds)
among_all g i [] d e h = absurd cc
among_all {c} g zero (b ∷ ds) d e h =
    let same : d ≡ b = cc in
    let place : g + 0 ≡ g = omega arith in
    has_left (calls_from (g + 1) ds) (subst (λ (x : FunDef). Has c (calls_in g x.body)) same (subst (λ (n : ℕ). Has c (calls_in n d.body)) place h))
among_all {c} g (suc i) (b ∷ ds) d e h =
    let place : g + suc i ≡ g + 1 + i = omega arith in
    has_right (calls_in g b.body) (among_all (g + 1) i ds d e (subst (λ (n : ℕ). Has c (calls_in n d.body)) place h))

range_at : (a n i x : ℕ) → slice_get (range_with_len a n) i ≡ Some x → x ≡ a + i
range_at a zero i x e = absurd cc
range_at a (suc n) zero x e = let same : a ≡ x = cc in omega arith
range_at a (suc n) (suc i) x e = let rest : x ≡ a + 1 + i = range_at (a + 1) n i x e in omega arith

some_same : {A : Type 0} (x y : A) → Some x ≡ Some y → x ≡ y
some_same x y e = cc

module _ (p : Program) (w : IsWellFormed p) where
  -- a call of function f is a call of the program, by f
  row_call : {c : UserCall} (f : ℕ) (o : Option FunDef) → slice_get p.funs f ≡ o → Has c (unwrap_or (option_map (λ d. calls_in f d.body) o) []) → Has c (user_calls p) × (c.caller ≡ f)
  row_call f None e h = elim h [ ]
  row_call {c} f (Some d) e h =
      let place : 0 + f ≡ f = omega arith in
      let fits : block_fits (declarations p) d.result d.body ≡ true = each_at (λ g x. block_fits (declarations p) x.result x.body) 0 f p.funs d e w.typed in
      let there = all_at (λ (x : UserCall). is_some (slice_get (declarations p).funs x.callee) && x.caller == f) (calls_in f d.body) c (callees_there (declarations p) f d.result d.body fits) (has_contains (calls_in f d.body) h) in
      (among_all 0 f p.funs d e (subst (λ (n : ℕ). Has c (calls_in n d.body)) (sym place) h), eqb-true c.caller f (both_true (is_some (slice_get (declarations p).funs c.callee)) (c.caller == f) there).1)

  call_in : {c : UserCall} (f : ℕ) → Has c (calls_of (calls_by_function p) f) → Has c (user_calls p) × (c.caller ≡ f)
  call_in {c} f h = row_call f (slice_get p.funs f) refl (subst (λ (o : Option (List UserCall)). Has c (unwrap_or o [])) (row_of p f) h)

  falls_at : (f : ℕ) (c : UserCall) → Contains (calls_of (calls_by_function p) f) c → (ranks_in p w).rank c.callee < (ranks_in p w).rank f
  falls_at f c h =
      let it = call_in f (contains_has (calls_of (calls_by_function p) f) c h) in
      subst (λ (g : ℕ). (ranks_in p w).rank c.callee < (ranks_in p w).rank g) it.1 ((ranks_in p w).falls c (has_contains (user_calls p) it.0))

  -- calls with one number are one
  number_of_place : (i : ℕ) (c : UserCall) → slice_get (user_calls p) i ≡ Some c → c.number ≡ i
  number_of_place i c e =
      let at : slice_get (range_with_len 0 p.calls) i ≡ Some c.number = ap (λ (ns : List ℕ). slice_get ns i) (sym w.calls) ∙ slice_get-map (λ (x : UserCall). x.number) (user_calls p) i ∙ ap (option_map (λ (x : UserCall). x.number)) e in
      let is : c.number ≡ 0 + i = range_at 0 p.calls i c.number at in
      omega arith

  numbers_differ : (c d : UserCall) → Has c (user_calls p) → Has d (user_calls p) → c.number ≡ d.number → c ≡ d
  numbers_differ c d h g same =
      let here = get_has (user_calls p) h in
      let there = get_has (user_calls p) g in
      let one : c.number ≡ here.0 = number_of_place here.0 c here.1 in
      let other : d.number ≡ there.0 = number_of_place there.0 d there.1 in
      let place : here.0 ≡ there.0 = omega arith in
      some_same c d (sym here.1 ∙ ap (slice_get (user_calls p)) place ∙ there.1)

  main_cases : (o : Option FunDef) → slice_get p.funs p.main ≡ o → p.main < length p.funs
  main_cases None e =
      let nothing : slice_get (declarations p).funs p.main ≡ None = slice_get-map prototype p.funs p.main ∙ ap (option_map prototype) e in
      let never : true ≡ false = sym w.main ∙ ap (has is_main) nothing in
      absurd cc
  main_cases (Some d) e = slice_get_within p.funs p.main d e

  pub main_exists : p.main < length p.funs
  main_exists = main_cases (slice_get p.funs p.main) refl

  pub are_calls : AreCallsOf p
  are_calls = record {
    rank = (ranks_in p w).rank;
    low = (ranks_in p w).few p.main main_exists;
    falls = λ f. All-weaker (Contains (calls_of (calls_by_function p) f)) (λ c. (ranks_in p w).rank c.callee < (ranks_in p w).rank f) (falls_at f) (calls_of (calls_by_function p) f) (All-contains_itself (calls_of (calls_by_function p) f));
    unique = λ f c d h g same. numbers_differ c d (call_in f (contains_has (calls_of (calls_by_function p) f) c h)).0 (call_in f (contains_has (calls_of (calls_by_function p) f) d g)).0 same;
  }
