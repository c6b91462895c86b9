-- Each call of each context has its context, and each context but that of `main` comes from a call.
use Rattle.std.proofs.Common.{◌≡◌, ℕ, zero, suc, ◌+◌, ◌<◌, ◌⊎◌, inl, inr, ⊎_elim, Bool, true, false, List, [], ◌∷◌, ◌++◌, length, get_or, slice_get, ◌≢◌, ◌↔◌, option_and_then, Option, Some, None, refl, sym, ap, subst, ◌∙◌, arith}
use Rattle.std.specs.Prelude.{◌==◌, ◌&&◌}
use Rattle.std.specs.List.{All, Contains}
use Rattle.std.proofs.lemmas.Bool.{eqb-true, eq-eqb}
use Rattle.std.proofs.lemmas.List.Elements.{All-contains, All-weaker, All-contains_itself}
use Rattle.std.proofs.lemmas.List.Quantifiers.{position-Some}
use Rattle.std.proofs.lemmas.Option.{slice_get-get_or}
use Rattle.c_tree.specs.declared.program.Program.{Program}
use Rattle.c_tree.specs.declared.control.UserCall.{UserCall}
use Rattle.call_contexts.specs.declared.context.Ctx.{Ctx}
use Rattle.call_contexts.specs.Calls.{calls_by_function, calls_of}
use Rattle.call_contexts.specs.Contexts.{context, visit_calls, visit, contexts, is_called_from, callee_of, home_of}
use Rattle.call_contexts.proofs.Has.{Has, first, later, has_contains, contains_has, get_left, get_right, get_split, found}

-- where the calls lead

-- a context of a list, the first of which has the number `base`, is that of a call in another context of the list
pub record ComesFrom (rows : List (List UserCall)) (base : ℕ) (list : List Ctx) (x : Ctx) : Type 0 where
  pub place : ℕ
  pub call : UserCall
  pub caller : Ctx
  pub is : x ≡ context call.callee (Some (base + place, call.number))
  pub stands : slice_get list place ≡ Some caller
  pub calls : Has call (calls_of rows caller.fun)

-- it is that of one of these calls in context k
abbrev IsOne : ℕ → List UserCall → Ctx → Type 0
IsOne k calls x = (c : UserCall) × Has c calls × (x ≡ context c.callee (Some (k, c.number)))

-- the first of `below` is the context that was called, and the others come from it
abbrev EachComes : List (List UserCall) → (ℕ → ℕ → Option (ℕ × ℕ) → List Ctx) → Type 0
EachComes rows below = (me f : ℕ) (home : Option (ℕ × ℕ)) (i : ℕ) (x : Ctx) → slice_get (below me f home) i ≡ Some x →
    (x ≡ context f home) ⊎ ComesFrom rows me (below me f home) x

comes_left : (rows : List (List UserCall)) (base : ℕ) (xs ys : List Ctx) (x : Ctx) → ComesFrom rows base xs x → ComesFrom rows base (xs ++ ys) x
comes_left rows base xs ys x h = record { place = h.place; call = h.call; caller = h.caller; is = h.is; stands = get_left xs ys h.caller h.place h.stands; calls = h.calls }

comes_right : (rows : List (List UserCall)) (base : ℕ) (xs ys : List Ctx) (x : Ctx) → ComesFrom rows (base + length xs) ys x → ComesFrom rows base (xs ++ ys) x
comes_right rows base xs ys x h =
    let on : base + length xs + h.place ≡ base + (length xs + h.place) = omega arith in
    record {
      place = length xs + h.place;
      call = h.call;
      caller = h.caller;
      is = h.is ∙ ap (λ (n : ℕ). context h.call.callee (Some (n, h.call.number))) on;
      stands = get_right xs ys h.place ∙ h.stands;
      calls = h.calls;
    }

calls_come : (rows : List (List UserCall)) (below : ℕ → ℕ → Option (ℕ × ℕ) → List Ctx) → EachComes rows below → (k next : ℕ) (calls : List UserCall) (i : ℕ) (x : Ctx) →
    slice_get (visit_calls below k next calls) i ≡ Some x → IsOne k calls x ⊎ ComesFrom rows next (visit_calls below k next calls) x
calls_come rows below each k next [] i x e = absurd cc
calls_come rows below each k next (c ∷ cs) i x e =
    let own = below next c.callee (Some (k, c.number)) in
    let rest = visit_calls below k (next + length own) cs in
    ⊎_elim
    (λ here. ⊎_elim (λ is. inl (c, first, is)) (λ h. inr (comes_left rows next own rest x h)) (each next c.callee (Some (k, c.number)) i x here))
    (λ there. ⊎_elim (λ one. inl (one.0, later one.1, one.2)) (λ h. inr (comes_right rows next own rest x h)) (calls_come rows below each k (next + length own) cs there.0 x there.2))
    (get_split own rest x i e)

one_comes : (rows : List (List UserCall)) (me f : ℕ) (home : Option (ℕ × ℕ)) (rest : List Ctx) (x : Ctx) → IsOne me (calls_of rows f) x → ComesFrom rows me (context f home ∷ rest) x
one_comes rows me f home rest x one =
    let same : me ≡ me + 0 = omega arith in
    record { place = 0; call = one.0; caller = context f home; is = one.2 ∙ ap (λ (n : ℕ). context one.0.callee (Some (n, one.0.number))) same; stands = refl; calls = one.1 }

behind_first : (rows : List (List UserCall)) (depth : ℕ) → EachComes rows (visit rows depth) → (me f : ℕ) (home : Option (ℕ × ℕ)) (i : ℕ) (x : Ctx) →
    slice_get (visit rows (suc depth) me f home) (suc i) ≡ Some x → ComesFrom rows me (visit rows (suc depth) me f home) x
behind_first rows depth below me f home i x e =
    let rest = visit_calls (visit rows depth) me (me + 1) (calls_of rows f) in
    ⊎_elim (λ one. one_comes rows me f home rest x one) (λ h. comes_right rows me (context f home ∷ []) rest x h)
    (calls_come rows (visit rows depth) below me (me + 1) (calls_of rows f) i x e)

-- each context of a visit is the first or comes from a call
visit_comes : (rows : List (List UserCall)) (depth : ℕ) → EachComes rows (visit rows depth)
visit_comes rows zero me f home i x e = absurd cc
visit_comes rows (suc depth) me f home zero x e = let same : context f home ≡ x = cc in inl (sym same)
visit_comes rows (suc depth) me f home (suc i) x e = inr (behind_first rows depth (visit_comes rows depth) me f home i x e)

later_comes : (rows : List (List UserCall)) (depth me f : ℕ) (home : Option (ℕ × ℕ)) (i : ℕ) (x : Ctx) → slice_get (visit rows depth me f home) (suc i) ≡ Some x → ComesFrom rows me (visit rows depth me f home) x
later_comes rows zero me f home i x e = absurd cc
later_comes rows (suc depth) me f home i x e = behind_first rows depth (visit_comes rows depth) me f home i x e

-- where calls have their contexts

-- the context of a call stands in a list, the first of which has the number `base`
abbrev HasContext : ℕ → List Ctx → ℕ → UserCall → Type 0
HasContext base list k c = (j : ℕ) × (slice_get list j ≡ Some (context c.callee (Some (k, c.number))))

-- each call of each context of a list has its context in the list
abbrev IsFull : List (List UserCall) → ℕ → List Ctx → Type 0
IsFull rows base list = (i : ℕ) (x : Ctx) (c : UserCall) → slice_get list i ≡ Some x → Has c (calls_of rows x.fun) → (j : ℕ) × (slice_get list j ≡ Some (context c.callee (Some (base + i, c.number))))

module _ (rows : List (List UserCall)) (rank : ℕ → ℕ) (falls : (f : ℕ) (c : UserCall) → Has c (calls_of rows f) → rank c.callee < rank f) where
  -- deep enough for functions of lower rank than `depth`
  abbrev FullBelow : ℕ → Type 0
  FullBelow depth = (me f : ℕ) (home : Option (ℕ × ℕ)) → rank f < depth → IsFull rows me (visit rows depth me f home)

  first_of : (depth me f : ℕ) (home : Option (ℕ × ℕ)) → rank f < depth → slice_get (visit rows depth me f home) 0 ≡ Some (context f home)
  first_of zero me f home low = absurd (omega arith)
  first_of (suc depth) me f home low = refl

  each_called : (depth k next : ℕ) (calls : List UserCall) (c : UserCall) → ((d : UserCall) → Has d calls → rank d.callee < depth) → Has c calls →
      (j : ℕ) × (slice_get (visit_calls (visit rows depth) k next calls) j ≡ Some (context c.callee (Some (k, c.number))))
  each_called depth k next [] c low h = elim h [ ]
  each_called depth k next (c ∷ cs) c' low first =
      let own = visit rows depth next c.callee (Some (k, c.number)) in
      (0, get_left own (visit_calls (visit rows depth) k (next + length own) cs) (context c.callee (Some (k, c.number))) 0 (first_of depth next c.callee (Some (k, c.number)) (low c first)))
  each_called depth k next (d ∷ cs) c low (later h) =
      let own = visit rows depth next d.callee (Some (k, d.number)) in
      let there = each_called depth k (next + length own) cs c (λ e g. low e (later g)) h in
      (length own + there.0, get_right own (visit_calls (visit rows depth) k (next + length own) cs) there.0 ∙ there.1)

  calls_full : (depth k next : ℕ) (calls : List UserCall) → FullBelow depth → ((d : UserCall) → Has d calls → rank d.callee < depth) → IsFull rows next (visit_calls (visit rows depth) k next calls)
  calls_full depth k next [] full low i x c e h = absurd cc
  calls_full depth k next (d ∷ cs) full low i x c e h =
      let own = visit rows depth next d.callee (Some (k, d.number)) in
      let rest = visit_calls (visit rows depth) k (next + length own) cs in
      ⊎_elim
      (λ here. let it = full next d.callee (Some (k, d.number)) (low d first) i x c here h in (it.0, get_left own rest (context c.callee (Some (next + i, c.number))) it.0 it.1))
      (λ there.
      let it = calls_full depth k (next + length own) cs full (λ a g. low a (later g)) there.0 x c there.2 h in
      let is = there.1 in
      let on : next + length own + there.0 ≡ next + i = omega arith in
      (length own + it.0, get_right own rest it.0 ∙ it.1 ∙ ap (λ (n : ℕ). Some (context c.callee (Some (n, c.number)))) on))
      (get_split own rest x i e)

  visit_full : (depth : ℕ) → FullBelow depth
  visit_full zero me f home low i x c e h = absurd (omega arith)
  visit_full (suc depth) me f home low zero x c e h =
      let same : context f home ≡ x = cc in
      let own : Has c (calls_of rows f) = subst (λ (y : Ctx). Has c (calls_of rows y.fun)) (sym same) h in
      let it = each_called depth me (me + 1) (calls_of rows f) c (λ d g. let falling = falls f d g in omega arith) own in
      let here : me ≡ me + 0 = omega arith in
      (suc it.0, it.1 ∙ ap (λ (n : ℕ). Some (context c.callee (Some (n, c.number)))) here)
  visit_full (suc depth) me f home low (suc i) x c e h =
      let it = calls_full depth me (me + 1) (calls_of rows f) (visit_full depth) (λ d g. let falling = falls f d g in omega arith) i x c e h in
      let on : me + 1 + i ≡ me + suc i = omega arith in
      (suc it.0, it.1 ∙ ap (λ (n : ℕ). Some (context c.callee (Some (n, c.number)))) on)

-- contexts of programs

-- the calls of a program lead to functions of lower rank, so that none leads back, and each has a number of its own in its function
pub record AreCallsOf (p : Program) : Type 0 where
  pub rank : ℕ → ℕ
  pub low : rank p.main < length p.funs
  pub falls : (f : ℕ) → All (λ c. rank c.callee < rank f) (calls_of (calls_by_function p) f)
  pub unique : (f : ℕ) (c d : UserCall) → Contains (calls_of (calls_by_function p) f) c → Contains (calls_of (calls_by_function p) f) d → c.number ≡ d.number → c ≡ d

pub both_true : (a b : Bool) → (a && b) ≡ true → (a ≡ true) × (b ≡ true)
both_true true b e = (refl, e)
both_true false b e = absurd cc

-- a context that passes the look-up is that of the call
home_is : (k n : ℕ) (home : Option (ℕ × ℕ)) → is_called_from k n home ≡ true → home ≡ Some (k, n)
home_is k n None e = absurd cc
home_is k n (Some home) e =
    let both = both_true (home.0 == k) (home.1 == n) e in
    let one : home.0 ≡ k = eqb-true home.0 k both.0 in
    let other : home.1 ≡ n = eqb-true home.1 n both.1 in
    ap (λ (i : ℕ). Some (i, home.1)) one ∙ ap (λ (i : ℕ). Some (k, i)) other

is_home : (k n : ℕ) → is_called_from k n (Some (k, n)) ≡ true
is_home k n = ap (λ (b : Bool). b && n == n) (eq-eqb k k refl) ∙ eq-eqb n n refl

some_none : {A : Type 0} (x : A) → Some x ≡ None → ⊥
some_none x e = absurd cc

pair_first : (a b : ℕ × ℕ) → Some a ≡ Some b → a.0 ≡ b.0
pair_first a b e = let same : a ≡ b = cc in ap (λ (x : ℕ × ℕ). x.0) same

pair_second : (a b : ℕ × ℕ) → Some a ≡ Some b → a.1 ≡ b.1
pair_second a b e = let same : a ≡ b = cc in ap (λ (x : ℕ × ℕ). x.1) same

-- each context is that of `main` or comes from a call
pub context_comes : (p : Program) (i : ℕ) (x : Ctx) → slice_get (contexts p) i ≡ Some x → (x ≡ context p.main None) ⊎ ComesFrom (calls_by_function p) 0 (contexts p) x
context_comes p i x e = visit_comes (calls_by_function p) (length p.funs) 0 p.main None i x e

module _ (p : Program) (calls : AreCallsOf p) where
  rows_fall : (f : ℕ) (c : UserCall) → Has c (calls_of (calls_by_function p) f) → calls.rank c.callee < calls.rank f
  rows_fall f c h = All-contains (λ c. calls.rank c.callee < calls.rank f) (calls_of (calls_by_function p) f) c (calls.falls f) (has_contains (calls_of (calls_by_function p) f) h)

  -- the context of `main` is 0
  pub main_first : slice_get (contexts p) 0 ≡ Some (context p.main None)
  main_first = first_of (calls_by_function p) calls.rank rows_fall (length p.funs) 0 p.main None calls.low

  home_of_callee : (k : ℕ) (x y : Ctx) (c : UserCall) → slice_get (contexts p) k ≡ Some x → Has c (calls_of (calls_by_function p) x.fun) → y.home ≡ Some (k, c.number) →
      (y ≡ context p.main None) ⊎ ComesFrom (calls_by_function p) 0 (contexts p) y → y ≡ context c.callee (Some (k, c.number))
  home_of_callee k x y c e h home (inl is) = let never : None ≡ Some (k, c.number) = sym (ap (λ (z : Ctx). z.home) is) ∙ home in absurd cc
  home_of_callee k x y c e h home (inr from) =
      let homes : Some (0 + from.place, from.call.number) ≡ Some (k, c.number) = sym (ap (λ (z : Ctx). z.home) from.is) ∙ home in
      let place : 0 + from.place ≡ k = pair_first (0 + from.place, from.call.number) (k, c.number) homes in
      let number : from.call.number ≡ c.number = pair_second (0 + from.place, from.call.number) (k, c.number) homes in
      let at : from.place ≡ k = omega arith in
      let callers : Some from.caller ≡ Some x = sym from.stands ∙ ap (slice_get (contexts p)) at ∙ e in
      let caller : from.caller ≡ x = cc in
      let same : from.call ≡ c = calls.unique x.fun from.call c
      (has_contains (calls_of (calls_by_function p) x.fun) (subst (λ (z : Ctx). Has from.call (calls_of (calls_by_function p) z.fun)) caller from.calls))
      (has_contains (calls_of (calls_by_function p) x.fun) h) number in
      from.is ∙ ap (λ (i : ℕ). context from.call.callee (Some (i, from.call.number))) place ∙ ap (λ (d : UserCall). context d.callee (Some (k, d.number))) same

  -- each call of a context has its context
  pub callee_stands : (k : ℕ) (x : Ctx) (c : UserCall) → slice_get (contexts p) k ≡ Some x → Has c (calls_of (calls_by_function p) x.fun) →
      (j : ℕ) × (callee_of (contexts p) k c.number ≡ Some j) × (slice_get (contexts p) j ≡ Some (context c.callee (Some (k, c.number))))
  callee_stands k x c e h =
      let full = visit_full (calls_by_function p) calls.rank rows_fall (length p.funs) 0 p.main None calls.low k x c e h in
      let on : 0 + k ≡ k = omega arith in
      let stands : slice_get (contexts p) full.0 ≡ Some (context c.callee (Some (k, c.number))) = full.1 ∙ ap (λ (n : ℕ). Some (context c.callee (Some (n, c.number)))) on in
      let it = found (λ z. is_called_from k c.number z.home) (contexts p) (context c.callee (Some (k, c.number))) full.0 stands (is_home k c.number) in
      (it.0, it.2, it.3 ∙ ap (λ (z : Ctx). Some z) (home_of_callee k x it.1 c e h (home_is k c.number it.1.home it.4) (context_comes p it.0 it.1 it.3)))

  -- a call has no context exactly where it isn't in the function
  some_call : (k n : ℕ) (c : Ctx) (o : Option ℕ) → callee_of (contexts p) k n ≡ o → slice_get (contexts p) k ≡ Some c → All (λ d. d.number ≢ n) (calls_of (calls_by_function p) c.fun) → o ≡ None
  some_call k n c None is e none = refl
  some_call k n c (Some j) is e none =
      let nobody = context 0 None in
      let found = position-Some (λ z. is_called_from k n z.home) (contexts p) j nobody is in
      let y = get_or (contexts p) j nobody in
      let home : y.home ≡ Some (k, n) = home_is k n y.home found.1 in
      absurd (⊎_elim
      (λ main. some_none (k, n) (sym home ∙ ap (λ (z : Ctx). z.home) main))
      (λ from.
      let homes : Some (0 + from.place, from.call.number) ≡ Some (k, n) = sym (ap (λ (z : Ctx). z.home) from.is) ∙ home in
      let place : 0 + from.place ≡ k = pair_first (0 + from.place, from.call.number) (k, n) homes in
      let at : from.place ≡ k = omega arith in
      let callers : Some from.caller ≡ Some c = sym from.stands ∙ ap (slice_get (contexts p)) at ∙ e in
      let caller : from.caller ≡ c = cc in
      All-contains (λ d. d.number ≢ n) (calls_of (calls_by_function p) c.fun) from.call none
      (has_contains (calls_of (calls_by_function p) c.fun) (subst (λ (z : Ctx). Has from.call (calls_of (calls_by_function p) z.fun)) caller from.calls))
      (pair_second (0 + from.place, from.call.number) (k, n) homes))
      (context_comes p j y (slice_get-get_or (contexts p) j nobody found.0)))

  pub none_without : (k n : ℕ) (c : Ctx) → slice_get (contexts p) k ≡ Some c → (callee_of (contexts p) k n ≡ None) ↔ All (λ d. d.number ≢ n) (calls_of (calls_by_function p) c.fun)
  none_without k n c e = (
    λ none. All-weaker (Contains (calls_of (calls_by_function p) c.fun)) (λ d. d.number ≢ n) (λ d h same.
        let it = callee_stands k c d e (contains_has (calls_of (calls_by_function p) c.fun) d h) in
        some_none it.0 (sym it.1 ∙ ap (callee_of (contexts p) k) same ∙ none))
        (calls_of (calls_by_function p) c.fun) (All-contains_itself (calls_of (calls_by_function p) c.fun)),
    λ none. some_call k n c (callee_of (contexts p) k n) refl e none,
  )

  -- `main` alone has no home
  home_cases : (k : ℕ) (c : Ctx) → slice_get (contexts p) k ≡ Some c → home_of (contexts p) k ≡ None → k ≡ 0
  home_cases zero c e none = refl
  home_cases (suc i) c e none =
      let from = later_comes (calls_by_function p) (length p.funs) 0 p.main None i c e in
      absurd (some_none (0 + from.place, from.call.number) (sym (ap (λ (z : Ctx). z.home) from.is) ∙ sym (ap (option_and_then (λ (z : Ctx). z.home)) e) ∙ none))

  pub main_alone : (k : ℕ) → k < length (contexts p) → (home_of (contexts p) k ≡ None) ↔ (k ≡ 0)
  main_alone k within = (
    λ none. home_cases k (get_or (contexts p) k (context 0 None)) (slice_get-get_or (contexts p) k (context 0 None) within) none,
    λ is. ap (home_of (contexts p)) is ∙ ap (option_and_then (λ (z : Ctx). z.home)) main_first,
  )
