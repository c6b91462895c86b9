-- Cycles of calls stay when calls are added or functions that nobody calls are taken away, and calls in
-- which each caller is called have one.
use Rattle.std.proofs.Common.{◌≡◌, ◌≢◌, ℕ, zero, suc, ◌+◌, ◌<◌, ◌≤◌, Bool, true, false, List, [], ◌∷◌, ◌++◌, length, refl, sym, subst, ◌∙◌, arith, length-append}
use Rattle.std.specs.Prelude.{nat_eq}
use Rattle.std.specs.List.{All, Contains, IsDistinct, list_any}
use Rattle.std.proofs.lemmas.Bool.{eqb-true}
use Rattle.std.proofs.lemmas.Cmp.{nat_eq_equiv}
use Rattle.std.proofs.lemmas.List.Elements.{All-nil, All-push, All-contains, All-weaker}
use Rattle.std.proofs.lemmas.Map.Keys.{IsDistinct-push}
use Rattle.std.proofs.lemmas.Map.Steps.{length-le_from_distinct_below}
use Rattle.std.proofs.lemmas.Map.Views.{Contains-from_any}
use Rattle.c_tree.specs.Cycles.{Calls, IsCyclic}
use Rattle.c_tree.specs.Cycles.Calls.{directly, through}
use Rattle.c_tree.specs.declared.control.UserCall.{UserCall}

pub calls_among : {xs ys : List UserCall} {f g : ℕ} → ((c : UserCall) → Contains xs c → Contains ys c) → Calls xs f g → Calls ys f g
calls_among more (directly c h) = directly c (more c h)
calls_among more (through c g h rest) = through c g (more c h) (calls_among more rest)

pub cyclic_among : (xs ys : List UserCall) → ((c : UserCall) → Contains xs c → Contains ys c) → IsCyclic xs → IsCyclic ys
cyclic_among xs ys more cycle = (cycle.0, calls_among more cycle.1)

-- the last call of a way
last_call : {xs : List UserCall} {f g : ℕ} → Calls xs f g → (c : UserCall) × Contains xs c × (c.callee ≡ g)
last_call (directly c h) = (c, h, refl)
last_call (through c g h rest) = last_call rest

pub first_call : {xs : List UserCall} {f g : ℕ} → Calls xs f g → (c : UserCall) × Contains xs c
first_call (directly c h) = (c, h)
first_call (through c g h rest) = (c, h)

-- the function x, which nobody calls, is on no way between others
calls_without : {xs ys : List UserCall} {f g : ℕ} (x : ℕ) → ((c : UserCall) → Contains xs c → c.caller ≢ x → Contains ys c) → ((c : UserCall) → Contains xs c → c.callee ≢ x) → f ≢ x → Calls xs f g → Calls ys f g
calls_without x kept none other (directly c h) = directly c (kept c h other)
calls_without x kept none other (through c g h rest) = through c g (kept c h other) (calls_without x kept none (none c h) rest)

pub cyclic_without : (xs ys : List UserCall) (x : ℕ) → ((c : UserCall) → Contains xs c → c.caller ≢ x → Contains ys c) → ((c : UserCall) → Contains xs c → c.callee ≢ x) → IsCyclic xs → IsCyclic ys
cyclic_without xs ys x kept none cycle =
    let last = last_call cycle.1 in
    (cycle.0, calls_without x kept none (λ e. none last.0 last.1 (last.2 ∙ e)) cycle.1)

-- Backwards from a call, each caller of which is called: some caller comes again.

abbrev IsCalled : List UserCall → Type 0
IsCalled xs = (c : UserCall) → Contains xs c → (b : UserCall) × Contains xs b × (b.callee ≡ c.caller)

one_back : (xs : List UserCall) (b : UserCall) (g : ℕ) → Contains xs b → b.callee ≡ g → Calls xs b.caller g
one_back xs b g h e = subst (Calls xs b.caller) e (directly b h)

more_back : (xs : List UserCall) (b : UserCall) (g m : ℕ) → Contains xs b → b.callee ≡ g → Calls xs g m → Calls xs b.caller m
more_back xs b g m h e way = through b m h (subst (λ k. Calls xs k m) (sym e) way)

-- a distinct list of functions, all of which the caller of c calls, is long enough to end
abbrev Backwards : List UserCall → ℕ → ℕ → Type 0
Backwards xs n fuel = (seen : List ℕ) → IsDistinct nat_eq seen → All (λ m. m < n) seen → n < fuel + length seen → (c : UserCall) → Contains xs c → All (Calls xs c.caller) seen → IsCyclic xs

back_step : (fuel n : ℕ) (xs : List UserCall) → ((c : UserCall) → Contains xs c → c.caller < n) → IsCalled xs → Backwards xs n fuel
    → (seen : List ℕ) → IsDistinct nat_eq seen → All (λ m. m < n) seen → n < suc fuel + length seen
    → (c : UserCall) → Contains xs c → All (Calls xs c.caller) seen → (b : Bool) → list_any (nat_eq c.caller) seen ≡ b → IsCyclic xs
back_step fuel n xs below called rest seen distinct within enough c h ways true e =
    (c.caller, All-contains (Calls xs c.caller) seen c.caller ways (Contains-from_any eqb-true c.caller seen e))
back_step fuel n xs below called rest seen distinct within enough c h ways false e =
    let b = called c h in
    rest (seen ++ c.caller ∷ [])
    (IsDistinct-push nat_eq_equiv seen c.caller distinct e)
    (All-push (λ m. m < n) seen c.caller within (below c h))
    (omega (arith, length-append seen (c.caller ∷ [])))
    b.0 b.1
    (All-push (Calls xs b.0.caller) seen c.caller
    (All-weaker (Calls xs c.caller) (Calls xs b.0.caller) (λ m way. more_back xs b.0 c.caller m b.1 b.2 way) seen ways)
    (one_back xs b.0 c.caller b.1 b.2))

back : (fuel n : ℕ) (xs : List UserCall) → ((c : UserCall) → Contains xs c → c.caller < n) → IsCalled xs → Backwards xs n fuel
back zero n xs below called seen distinct within enough c h ways =
    let few : length seen ≤ n = length-le_from_distinct_below seen n distinct (λ q e. All-contains (λ m. m < n) seen q within (Contains-from_any eqb-true q seen e)) in
    absurd (omega arith)
back (suc fuel) n xs below called seen distinct within enough c h ways =
    back_step fuel n xs below called (back fuel n xs below called) seen distinct within enough c h ways (list_any (nat_eq c.caller) seen) refl

pub cyclic_called : (n : ℕ) (xs : List UserCall) → ((c : UserCall) → Contains xs c → c.caller < n) → IsCalled xs → (c : UserCall) → Contains xs c → IsCyclic xs
unfolding IsDistinct
cyclic_called n xs below called c h =
    let none : length {A = ℕ} [] ≡ 0 = refl in
    back (suc n) n xs below called [] tt (All-nil (λ m. m < n)) (omega arith) c h (All-nil (Calls xs c.caller))
