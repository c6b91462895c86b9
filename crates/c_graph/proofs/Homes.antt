-- In a well-formed program each call of a context leads to one context.
use Rattle.std.proofs.Common.{◌≡◌, ℕ, zero, suc, ◌+◌, ◌<◌, ◌≤◌, ◌⊎◌, inl, inr, ⊎_elim, List, [], ◌∷◌, ◌++◌, map, length, slice_get, unwrap_or, Option, Some, None, option_map, refl, ap, sym, subst, ◌∙◌, arith}
use Rattle.std.specs.List.{range_with_len}
use Rattle.std.proofs.lemmas.List.{map-append, length-append}
use Rattle.c_tree.specs.UserCalls.{calls_in, calls_from}
use Rattle.c_tree.specs.WellFormed.{IsWellFormed}
use Rattle.c_tree.specs.declared.control.UserCall.{UserCall}
use Rattle.c_tree.specs.declared.program.FunDef.{FunDef}
use Rattle.c_tree.specs.declared.program.Program.{Program}
use Rattle.call_contexts.specs.declared.context.Ctx.{Ctx}
use Rattle.call_contexts.specs.Calls.{calls_by_function, calls_of}
use Rattle.call_contexts.specs.Contexts.{context, visit_calls, visit, contexts, callee_of}
use Rattle.call_contexts.proofs.CallLaws.{row_of}
use Rattle.call_contexts.proofs.ContextLaws.{ComesFrom, context_comes, callee_stands}
use Rattle.call_contexts.proofs.Has.{Has, first, later, has_left, get_split, only_one}
use Rattle.call_contexts.proofs.WellFormedCalls.{are_calls}
use Rattle.c_graph.proofs.PlacesApart.{Apart, no_more, one_more}

-- the calls of a function have different numbers

range_low : (n a k : ℕ) → Has n (range_with_len a k) → a ≤ n
range_low n a zero h = elim h [ ]
range_low n a (suc k) first = omega arith
range_low n a (suc k) (later h) = let rest : a + 1 ≤ n = range_low n (a + 1) k h in omega arith

range_apart : (a k : ℕ) → Apart (range_with_len a k)
range_apart a zero = no_more
range_apart a (suc k) = one_more (λ h. let low : a + 1 ≤ a = range_low a (a + 1) k h in absurd (omega arith)) (range_apart (a + 1) k)

apart_first : {A : Type 0} (xs ys : List A) → Apart (xs ++ ys) → Apart xs
apart_first [] ys a = no_more
apart_first (x ∷ xs) ys (one_more new a) = one_more (λ h. new (has_left ys h)) (apart_first xs ys a)

apart_second : {A : Type 0} (xs ys : List A) → Apart (xs ++ ys) → Apart ys
apart_second [] ys a = a
apart_second (x ∷ xs) ys (one_more new a) = apart_second xs ys a

abbrev number : UserCall → ℕ
number c = c.number

body_apart : (g i : ℕ) (ds : List FunDef) (d : FunDef) → slice_get ds i ≡ Some d → Apart (map number (calls_from g ds)) → Apart (map number (calls_in (g + i) d.body))
body_apart g i [] d e a = absurd cc
body_apart g zero (b ∷ ds) d e a =
    let same : b ≡ d = cc in
    let here : g ≡ g + 0 = omega arith in
    subst (λ (x : FunDef). Apart (map number (calls_in (g + 0) x.body))) same
    (subst (λ (n : ℕ). Apart (map number (calls_in n b.body))) here
    (apart_first (map number (calls_in g b.body)) (map number (calls_from (g + 1) ds)) (subst (λ (ns : List ℕ). Apart ns) (map-append number (calls_in g b.body) (calls_from (g + 1) ds)) a)))
body_apart g (suc i) (b ∷ ds) d e a =
    let on : g + 1 + i ≡ g + suc i = omega arith in
    subst (λ (n : ℕ). Apart (map number (calls_in n d.body))) on
    (body_apart (g + 1) i ds d e (apart_second (map number (calls_in g b.body)) (map number (calls_from (g + 1) ds)) (subst (λ (ns : List ℕ). Apart ns) (map-append number (calls_in g b.body) (calls_from (g + 1) ds)) a)))

row_apart : (p : Program) → IsWellFormed p → (f : ℕ) → Apart (map number (calls_of (calls_by_function p) f))
row_apart p w f = subst (λ (o : Option (List UserCall)). Apart (map number (unwrap_or o []))) (sym (row_of p f)) (by_function (slice_get p.funs f) refl)
  where
    by_function : (o : Option FunDef) → slice_get p.funs f ≡ o → Apart (map number (unwrap_or (option_map (λ d. calls_in f d.body) o) []))
    by_function None e = no_more
    by_function (Some d) e =
        let here : 0 + f ≡ f = omega arith in
        subst (λ (n : ℕ). Apart (map number (calls_in n d.body))) here (body_apart 0 f p.funs d e (subst (λ (ns : List ℕ). Apart ns) (sym w.calls) (range_apart 0 p.calls)))

-- different contexts have different homes

some_none : {A : Type 0} (x : A) → Some x ≡ None → ⊥
some_none x e = absurd cc

pair_first : (a b : ℕ × ℕ) → Some a ≡ Some b → a.0 ≡ b.0
pair_first a b e = let same : a ≡ b = cc in ap (λ (x : ℕ × ℕ). x.0) same

pair_second : (a b : ℕ × ℕ) → Some a ≡ Some b → a.1 ≡ b.1
pair_second a b e = let same : a ≡ b = cc in ap (λ (x : ℕ × ℕ). x.1) same

abbrev Differ : List Ctx → Type 0
Differ list = (i j : ℕ) (x y : Ctx) → slice_get list i ≡ Some x → slice_get list j ≡ Some y → x.home ≡ y.home → i ≡ j

-- a home outside of a list whose first context has the number `base`
abbrev Outside : ℕ → Option (ℕ × ℕ) → Type 0
Outside base home = (k n : ℕ) → home ≡ Some (k, n) → k < base

module _ (rows : List (List UserCall)) (apart : (f : ℕ) → Apart (map number (calls_of rows f))) where
  abbrev DifferBelow : (ℕ → ℕ → Option (ℕ × ℕ) → List Ctx) → Type 0
  DifferBelow below = (me f : ℕ) (home : Option (ℕ × ℕ)) → Outside me home → Differ (below me f home)

  -- a home in a list of that length, whose first context has the number `from`
  data HomeWithin (from long : ℕ) (x : Ctx) : Type 0 where
    home_within : (j n : ℕ) → x.home ≡ Some (j, n) → from ≤ j → j < from + long → HomeWithin from long x

  abbrev EachFrom : (ℕ → ℕ → Option (ℕ × ℕ) → List Ctx) → Type 0
  EachFrom below = (me f : ℕ) (home : Option (ℕ × ℕ)) (i : ℕ) (x : Ctx) → slice_get (below me f home) i ≡ Some x → (x.home ≡ home) ⊎ HomeWithin me (length (below me f home)) x

  -- where the home of a context of calls is: at one of the calls, or in the list
  data HomeIn (k next : ℕ) (calls : List UserCall) (long : ℕ) (x : Ctx) : Type 0 where
    of_call : (n : ℕ) → Has n (map number calls) → x.home ≡ Some (k, n) → HomeIn k next calls long x
    inside : (j n : ℕ) → x.home ≡ Some (j, n) → next ≤ j → j < next + long → HomeIn k next calls long x

  own_home : (below : ℕ → ℕ → Option (ℕ × ℕ) → List Ctx) → EachFrom below → (k next : ℕ) (c : UserCall) (i : ℕ) (x : Ctx) → slice_get (below next c.callee (Some (k, c.number))) i ≡ Some x →
      HomeIn k next (c ∷ []) (length (below next c.callee (Some (k, c.number)))) x
  own_home below each k next c i x e = ⊎_elim
      (λ is. of_call c.number first is)
      (λ h. wider h)
      (each next c.callee (Some (k, c.number)) i x e)
    where
      wider : {long : ℕ} → HomeWithin next long x → HomeIn k next (c ∷ []) long x
      wider (home_within j n is low high) = inside j n is low high

  homes_in : (below : ℕ → ℕ → Option (ℕ × ℕ) → List Ctx) → EachFrom below → (k next : ℕ) (calls : List UserCall) (i : ℕ) (x : Ctx) → slice_get (visit_calls below k next calls) i ≡ Some x →
      HomeIn k next calls (length (visit_calls below k next calls)) x
  homes_in below each k next [] i x e = absurd cc
  homes_in below each k next (c ∷ cs) i x e =
      let own = below next c.callee (Some (k, c.number)) in
      let rest = visit_calls below k (next + length own) cs in
      let long : length (own ++ rest) ≡ length own + length rest = length-append own rest in
      ⊎_elim
      (λ here. wider_own (own_home below each k next c i x here) (omega arith))
      (λ there. wider_rest (homes_in below each k (next + length own) cs there.0 x there.2) (omega arith) (omega arith))
      (get_split own rest x i e)
    where
      wider_own : {long more : ℕ} → HomeIn k next (c ∷ []) long x → long ≤ more → HomeIn k next (c ∷ cs) more x
      wider_own (of_call n h is) le = of_call n (has_left (map number cs) h) is
      wider_own (inside j n is low high) le = inside j n is low (omega arith)

      wider_rest : {from long more : ℕ} → HomeIn k from cs long x → next ≤ from → from + long ≤ next + more → HomeIn k next (c ∷ cs) more x
      wider_rest (of_call n h is) low le = of_call n (later h) is
      wider_rest (inside j n is over high) low le = inside j n is (omega arith) (omega arith)

  same_home : (x y : Ctx) (j k m n : ℕ) → x.home ≡ Some (j, m) → y.home ≡ Some (k, n) → x.home ≡ y.home → (j ≡ k) × (m ≡ n)
  same_home x y j k m n here there same =
      let both : Some (j, m) ≡ Some (k, n) = sym here ∙ same ∙ there in
      (pair_first (j, m) (k, n) both, pair_second (j, m) (k, n) both)

  -- contexts of one call and of later ones
  apart_homes : (k next long more : ℕ) (c : UserCall) (cs : List UserCall) (x y : Ctx) → k < next → (Has c.number (map number cs) → ⊥) → HomeIn k next (c ∷ []) long x → HomeIn k (next + long) cs more y → x.home ≡ y.home → ⊥
  apart_homes k next long more c cs x y low new (of_call m h here) (of_call n g there) same =
      let e = same_home x y k k m n here there same in
      let one : m ≡ c.number = only_one h in
      let both : n ≡ c.number = sym e.1 ∙ one in
      new (subst (λ (i : ℕ). Has i (map number cs)) both g)
  apart_homes k next long more c cs x y low new (of_call m h here) (inside j n there over high) same = let e : k ≡ j = (same_home x y k j m n here there same).0 in absurd (omega arith)
  apart_homes k next long more c cs x y low new (inside i m here over high) (of_call n g there) same = let e : i ≡ k = (same_home x y i k m n here there same).0 in absurd (omega arith)
  apart_homes k next long more c cs x y low new (inside i m here over high) (inside j n there above under) same = let e : i ≡ j = (same_home x y i j m n here there same).0 in absurd (omega arith)

  calls_differ : (below : ℕ → ℕ → Option (ℕ × ℕ) → List Ctx) → EachFrom below → DifferBelow below → (k next : ℕ) (calls : List UserCall) → k < next → Apart (map number calls) → Differ (visit_calls below k next calls)
  calls_differ below each differ k next [] low a i j x y e g same = absurd cc
  calls_differ below each differ k next (c ∷ cs) low (one_more new a) i j x y e g same =
      let own = below next c.callee (Some (k, c.number)) in
      let rest = visit_calls below k (next + length own) cs in
      let out : Outside next (Some (k, c.number)) = λ m n is. let e : k ≡ m = pair_first (k, c.number) (m, n) is in omega arith in
      ⊎_elim
      (λ here. ⊎_elim
      (λ too. differ next c.callee (Some (k, c.number)) out i j x y here too same)
      (λ there. absurd (apart_homes k next (length own) (length rest) c cs x y low new (own_home below each k next c i x here) (homes_in below each k (next + length own) cs there.0 y there.2) same))
      (get_split own rest y j g))
      (λ there. ⊎_elim
      (λ here. absurd (apart_homes k next (length own) (length rest) c cs y x low new (own_home below each k next c j y here) (homes_in below each k (next + length own) cs there.0 x there.2) (sym same)))
      (λ too.
      let deeper : there.0 ≡ too.0 = calls_differ below each differ k (next + length own) cs (omega arith) a there.0 too.0 x y there.2 too.2 same in
      let left = there.1 in
      let right = too.1 in
      omega arith)
      (get_split own rest y j g))
      (get_split own rest x i e)

  first_apart : (me : ℕ) (home : Option (ℕ × ℕ)) (calls : List UserCall) (long : ℕ) (x : Ctx) → Outside me home → HomeIn me (me + 1) calls long x → home ≡ x.home → ⊥
  first_apart me home calls long x out (of_call n h is) same = let low = out me n (same ∙ is) in absurd (omega arith)
  first_apart me home calls long x out (inside j n is low high) same = let under = out j n (same ∙ is) in absurd (omega arith)

  -- the homes of the contexts of a visit
  visit_homes : (depth : ℕ) → EachFrom (visit rows depth)
  visit_homes zero me f home i x e = absurd cc
  visit_homes (suc depth) me f home zero x e = let is : context f home ≡ x = cc in inl (sym (ap (λ (z : Ctx). z.home) is))
  visit_homes (suc depth) me f home (suc i) x e = inr (wider (homes_in (visit rows depth) (visit_homes depth) me (me + 1) (calls_of rows f) i x e))
    where
      wider : {calls : List UserCall} {long : ℕ} → HomeIn me (me + 1) calls long x → HomeWithin me (suc long) x
      wider (of_call n h is) = home_within me n is (omega arith) (omega arith)
      wider (inside j n is low high) = home_within j n is (omega arith) (omega arith)

  visit_differ : (depth : ℕ) → DifferBelow (visit rows depth)
  visit_differ zero me f home out i j x y e g same = absurd cc
  visit_differ (suc depth) me f home out zero zero x y e g same = refl
  visit_differ (suc depth) me f home out zero (suc j) x y e g same =
      let is : context f home ≡ x = cc in
      absurd (first_apart me home (calls_of rows f) (length (visit_calls (visit rows depth) me (me + 1) (calls_of rows f))) y out (homes_in (visit rows depth) (visit_homes depth) me (me + 1) (calls_of rows f) j y g)
      (ap (λ (z : Ctx). z.home) is ∙ same))
  visit_differ (suc depth) me f home out (suc i) zero x y e g same =
      let is : context f home ≡ y = cc in
      absurd (first_apart me home (calls_of rows f) (length (visit_calls (visit rows depth) me (me + 1) (calls_of rows f))) x out (homes_in (visit rows depth) (visit_homes depth) me (me + 1) (calls_of rows f) i x e)
      (ap (λ (z : Ctx). z.home) is ∙ sym same))
  visit_differ (suc depth) me f home out (suc i) (suc j) x y e g same =
      ap suc (calls_differ (visit rows depth) (visit_homes depth) (visit_differ depth) me (me + 1) (calls_of rows f) (omega arith) (apart f) i j x y e g same)

-- each context other than that of `main` is the one that its call leads to
pub record IsCalled (p : Program) (k : ℕ) (x : Ctx) : Type 0 where
  pub place : ℕ
  pub caller : Ctx
  pub call : UserCall
  pub stands : slice_get (contexts p) place ≡ Some caller
  pub calls : Has call (calls_of (calls_by_function p) caller.fun)
  pub home : x.home ≡ Some (place, call.number)
  pub fun : x.fun ≡ call.callee
  pub leads : callee_of (contexts p) place call.number ≡ Some k

module _ (p : Program) (w : IsWellFormed p) where
  differ : Differ (contexts p)
  differ = visit_differ (calls_by_function p) (row_apart p w) (length p.funs) 0 p.main None (λ k n e. absurd (some_none (k, n) (sym e)))

  pub is_called : (k : ℕ) (x : Ctx) → slice_get (contexts p) k ≡ Some x → (x ≡ context p.main None) ⊎ IsCalled p k x
  is_called k x e = ⊎_elim (λ main. inl main) (λ from. inr (called k x e from)) (context_comes p k x e)
    where
      called : (k : ℕ) (x : Ctx) → slice_get (contexts p) k ≡ Some x → ComesFrom (calls_by_function p) 0 (contexts p) x → IsCalled p k x
      called k x e from =
          let it = callee_stands p (are_calls p w) from.place from.caller from.call from.stands from.calls in
          let here : 0 + from.place ≡ from.place = omega arith in
          let home : x.home ≡ Some (from.place, from.call.number) = ap (λ (z : Ctx). z.home) from.is ∙ ap (λ (i : ℕ). Some (i, from.call.number)) here in
          let same : it.0 ≡ k = differ it.0 k (context from.call.callee (Some (from.place, from.call.number))) x it.2 e (sym home) in
          record {
            place = from.place;
            caller = from.caller;
            call = from.call;
            stands = from.stands;
            calls = from.calls;
            home = home;
            fun = ap (λ (z : Ctx). z.fun) from.is;
            leads = it.1 ∙ ap (λ (j : ℕ). Some j) same;
          }
