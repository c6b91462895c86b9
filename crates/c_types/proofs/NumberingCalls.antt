-- The numbers of calls, as a walk over a block gives them.
use Rattle.std.proofs.Common.{◌≡◌, ℕ, ◌+◌, Bool, true, false, List, [], ◌∷◌, ◌++◌, length, Option, Some, None, refl, sym, ap, subst, ◌∙◌}
use Rattle.std.specs.Prelude.{slice_get, if◌then◌else◌}
use Rattle.c_tree.specs.declared.program.Call.{Call as MadeCall}
use Rattle.c_tree.specs.declared.program.Call.TheVariants as made
use Rattle.c_tree.specs.declared.program.Home.{Home}
use Rattle.c_tree.specs.declared.program.Home.TheVariants as home
use Rattle.c_tree.specs.declared.program.Right.{Right as MadeRight}
use Rattle.c_tree.specs.declared.program.Right.TheVariants as made_right
use Rattle.c_tree.specs.declared.program.Simple.{Simple as MadeSimple}
use Rattle.c_tree.specs.declared.program.Size.TheVariants as size
use Rattle.c_tree.specs.declared.program.Ty.{Ty}
use Rattle.c_tree.specs.declared.program.Ty.TheVariants as ty
use Rattle.c_tree.specs.declared.tree.Arg.{Arg}
use Rattle.c_tree.specs.declared.tree.Call.{Call}
use Rattle.c_tree.specs.declared.tree.Call.TheVariants as call
use Rattle.c_tree.specs.declared.tree.Declr.{Declr}
use Rattle.c_tree.specs.declared.tree.Expr.{Expr}
use Rattle.c_tree.specs.declared.tree.Right.{Right}
use Rattle.c_tree.specs.declared.tree.Right.TheVariants as right
use Rattle.c_tree.specs.declared.tree.Simple.{Simple}
use Rattle.c_tree.specs.declared.tree.Size.{Size}
use Rattle.c_tree.specs.declared.tree.Spec.{Spec}
use Rattle.c_tree.specs.declared.tree.Word.{Word}
use Rattle.c_types.specs.declared.faults.Fault.{Fault}
use Rattle.c_types.specs.declared.faults.Rule.TheVariants as rule
use Rattle.c_types.specs.declared.judged.Called.{Called}
use Rattle.c_types.specs.declared.judged.Callee.{Callee}
use Rattle.c_types.specs.declared.judged.Callee.TheVariants as callee
use Rattle.c_types.specs.declared.judged.Checked.{Checked}
use Rattle.c_types.specs.declared.judged.Gives.{Gives as Answer}
use Rattle.c_types.specs.declared.judged.Gives.TheVariants as gives
use Rattle.c_types.specs.declared.judged.Judged.{Judged}
use Rattle.c_types.specs.declared.judged.Judged.TheVariants.{Typed, Broken}
use Rattle.c_types.specs.declared.judged.Measured.{Measured}
use Rattle.c_types.specs.declared.judged.Measured.TheVariants as measured
use Rattle.c_types.specs.declared.judged.RightValue.{RightValue}
use Rattle.c_types.specs.declared.judged.RightValue.TheVariants as value
use Rattle.c_types.specs.declared.judged.Sort.{Sort}
use Rattle.c_types.specs.declared.judged.Sort.TheVariants.{Of, AnyPointer}
use Rattle.c_types.specs.declared.judged.Value.{Value}
use Rattle.c_types.specs.declared.scope.Nesting.{Nesting}
use Rattle.c_types.specs.declared.scope.Returned.{Returned}
use Rattle.c_types.specs.declared.scope.Returned.TheVariants as returned
use Rattle.c_types.specs.declared.scope.Scope.{Scope}
use Rattle.c_types.specs.declared.scope.Signature.{Signature}
use Rattle.c_types.specs.declared.scope.Walk.{Walk}
use Rattle.c_types.specs.declared.scope.Written.{Written}
use Rattle.c_types.specs.declared.scope.Written.TheVariants.{Good, Bad}
use Rattle.c_types.specs.Calls.{cast_of, unit_measured, callee_of, user_declared, user_by, user_call, counted, request, request_one, request_many, request_of, behind, requested, directives, word_call, printed_by, printed, put_char, walked_call}
use Rattle.c_types.specs.Expressions.{judged}
use Rattle.c_types.specs.Fits.{is_int, right_of, right_for}
use Rattle.c_types.specs.Judged.{breaks, of_one, of_two, unless_broken}
use Rattle.c_types.specs.Scopes.{noted, with_scope, var_of, with_var, declared, spec_type}
use Rattle.c_types.specs.Statements.{call_value, value_of_call, plain_value, walked_right, right_at, assigned, walked_simple, initial, walked_initial, walked_declr, returned_value, bare_return, walked_return, call_item, walked_do}
use Rattle.c_types.proofs.Numbering.{Numbering, Numbers, Keeps, Gives, of_any, in_item, in_do, in_declare, in_return, keeps_all, keeps_both, gives_none, gives_to, gives_from, gives_as}
use Rattle.c_types.proofs.NumberingLeaves.{noted_keeps, scoped_keeps, name_keeps}

abbrev pub call_number : MadeCall → List ℕ
call_number (made.User k f args at) = k ∷ []
call_number (made.Malloc size at) = []
call_number (made.Getchar at) = []
call_number (made.Putchar e at) = []
call_number (made.Printf text args at) = []

abbrev pub right_number : MadeRight → List ℕ
right_number (made_right.Plain e) = []
right_number (made_right.Call c) = call_number c

abbrev pub call_numbers : Numbering
call_numbers = record { gap = λ g. []; declr = λ d. of_any right_number d.right; simple = λ s. right_number s.right; call = call_number; right = right_number }

abbrev pub call_count : Walk → ℕ
call_count w = w.calls

abbrev value_number : RightValue → List ℕ
value_number (value.Plain v) = []
value_number (value.Result c t) = call_number c
value_number (value.Requested c r) = call_number c

abbrev judged_number : Judged Called → List ℕ
judged_number (Typed c) = call_number c.call
judged_number (Broken fs) = []

abbrev judged_value_number : Judged RightValue → List ℕ
judged_value_number (Typed v) = value_number v
judged_value_number (Broken fs) = []

note : (fs : List Fault) (w : Walk) → Keeps call_count w (noted fs w)
note = noted_keeps call_count (λ fs w. refl) (λ w s. refl)

rescope : (w : Walk) (s : Scope) → Keeps call_count w (with_scope w s)
rescope = scoped_keeps call_count (λ fs w. refl) (λ w s. refl)

-- users' calls

-- a call with the next number, or none
abbrev IsNext : ℕ → Judged Called → Type 0
IsNext k (Typed c) = call_number c.call ≡ k ∷ []
IsNext k (Broken fs) = Unit {0}

next_unless : (k : ℕ) (c : Called) (fs : List Fault) → call_number c.call ≡ k ∷ [] → IsNext k (unless_broken c fs)
next_unless k c [] e = e
next_unless k c (f ∷ fs) e = tt

declared_next : (w : Walk) (n : Word) (f : ℕ) (args : List Arg) (close : ℕ) (o : Option Signature) → IsNext w.calls (user_declared w n f args close o)
declared_next w n f args close None = tt
declared_next w n f args close (Some g) = next_unless w.calls _ _ refl

by_next : (w : Walk) (n : Word) (args : List Arg) (close : ℕ) (c : Callee) → IsNext w.calls (user_by w n args close c)
by_next w n args close (callee.Refused f) = tt
by_next w n args close (callee.Defined f k) = declared_next w n f args close (slice_get w.signatures k)

next_gives : (w : Walk) (j : Judged Called) → IsNext w.calls j → Gives call_count w (counted j w) (judged_number j)
next_gives w (Typed c) e = gives_as call_count w (counted (Typed c) w) (w.calls ∷ []) (call_number c.call) (sym e) (record { clean = λ h. h; funs = refl; numbers = λ h. refl; counted = λ h. refl })
next_gives w (Broken fs) e = gives_none call_count w w (keeps_all call_count w)

-- other calls have no number

one_none : (cast : Option Ty) (at : ℕ) (m : Measured) → judged_number (request_one cast at m) ≡ []
one_none cast at measured.Int = refl
one_none cast at (measured.Struct n) = refl

many_none : (cast : Option Ty) (at : ℕ) (m : Measured) (v : Value) → judged_number (request_many cast at m v) ≡ []
many_none cast at (measured.Struct n) v = refl
many_none cast at measured.Int v = by_sort (is_int v.sort)
  where
    by_sort : (b : Bool) → judged_number (if b then request (size.Ints (Some v.expr)) ty.IntPtr cast at else breaks rule.Request at) ≡ []
    by_sort true = refl
    by_sort false = refl

of_one_none : (cast : Option Ty) (at : ℕ) (u : Judged Measured) → judged_number (of_one (request_one cast at) u) ≡ []
of_one_none cast at (Typed m) = one_none cast at m
of_one_none cast at (Broken fs) = refl

of_two_none : (cast : Option Ty) (at : ℕ) (u : Judged Measured) (v : Judged Value) → judged_number (of_two (request_many cast at) u v) ≡ []
of_two_none cast at (Typed m) (Typed v) = many_none cast at m v
of_two_none cast at (Typed m) (Broken gs) = refl
of_two_none cast at (Broken fs) (Typed v) = refl
of_two_none cast at (Broken fs) (Broken gs) = refl

request_none : (s : Scope) (cast : Option Ty) (at : ℕ) (u : Judged Measured) (o : Option Expr) → judged_number (request_of s cast at u o) ≡ []
request_none s cast at u None = of_one_none cast at u
request_none s cast at u (Some e) = of_two_none cast at u (judged s e false)

behind_none : (fs : List Fault) (j : Judged Called) → judged_number j ≡ [] → judged_number (behind fs j) ≡ []
behind_none [] j e = e
behind_none (f ∷ fs) j e = refl

word_none : (c : MadeCall) (at : ℕ) (fs : List Fault) → call_number c ≡ [] → judged_number (word_call c at fs) ≡ []
word_none c at [] e = e
word_none c at (f ∷ fs) e = refl

printed_none : (s : Scope) (text : List ℕ) (text_at : ℕ) (args : List Arg) (at close : ℕ) (o : Option ℕ) → judged_number (printed_by s text text_at args at close o) ≡ []
printed_none s text text_at args at close None = refl
printed_none s text text_at args at close (Some n) = word_none _ at _ refl

requested_none : (cast : Option Spec) (z : Size) (at : ℕ) (s : Scope) → judged_number (requested cast z at s).1 ≡ []
requested_none cast z at s =
    let c = cast_of cast s in
    let u = unit_measured z.unit z.at c.0 in
    behind_none c.1.faults (request_of u.0 c.1.made at u.1 z.count) (request_none u.0 c.1.made at u.1 z.count)

none_gives : (w u : Walk) (j : Judged Called) → judged_number j ≡ [] → Keeps call_count w u → Gives call_count w u (judged_number j)
none_gives w u j e k = gives_as call_count w u [] (judged_number j) (sym e) (gives_none call_count w u k)

call_gives : (c : Call) (w : Walk) → Gives call_count w (walked_call c w).0 (judged_number (walked_call c w).1)
call_gives (call.User n args close) w = next_gives w (user_call w n args close) (by_next w n args close (callee_of w n))
call_gives (call.Malloc cast size at) w = none_gives w (with_scope w (requested cast size at w.scope).0) (requested cast size at w.scope).1 (requested_none cast size at w.scope) (rescope w (requested cast size at w.scope).0)
call_gives (call.Getchar at) w = gives_none call_count w w (keeps_all call_count w)
call_gives (call.Putchar a at) w = none_gives w w (walked_call (call.Putchar a at) w).1 (word_none _ at _ refl) (keeps_all call_count w)
call_gives (call.Printf text text_at args at close) w = none_gives w w (printed w.scope text text_at args at close) (printed_none w.scope text text_at args at close (directives text)) (keeps_all call_count w)

-- right sides: what they give, or a fault that is noted later
data RightGives (w u : Walk) (j : Judged RightValue) : Type 0 where
  given : Gives call_count w u (judged_value_number j) → RightGives w u j
  lost : (u.faults ≡ [] → w.faults ≡ []) → u.funs ≡ w.funs → (f : Fault) (fs : List Fault) → j ≡ Broken (f ∷ fs) → RightGives w u j

by_answer : (w u : Walk) (c : MadeCall) (at : ℕ) (a : Answer) → Gives call_count w u (call_number c) → RightGives w u (call_value c at a)
by_answer w u c at gives.Nothing g = lost g.clean g.funs _ [] refl
by_answer w u c at (gives.Result t) g = given g
by_answer w u c at (gives.Requested r) g = given g

by_call : (w u : Walk) (j : Judged Called) → Gives call_count w u (judged_number j) → RightGives w u (of_one value_of_call j)
by_call w u (Typed c) g = by_answer w u c.call c.at c.gives g
by_call w u (Broken fs) g = given g

by_value : (w : Walk) (j : Judged Value) → RightGives w w (of_one plain_value j)
by_value w (Typed v) = given (gives_none call_count w w (keeps_all call_count w))
by_value w (Broken fs) = given (gives_none call_count w w (keeps_all call_count w))

right_gives : (r : Right) (w : Walk) → RightGives w (walked_right r w).0 (walked_right r w).1
right_gives (right.Plain a) w = by_value w (judged w.scope a.expr false)
right_gives (right.Call c) w = by_call w (walked_call c w).0 (walked_call c w).1 (call_gives c w)

pub second_empty : {A : Type 0} (xs ys : List A) → xs ++ ys ≡ [] → ys ≡ []
second_empty [] ys h = h
second_empty (x ∷ xs) ys h = absurd cc

-- behind a right side its faults are noted
finished : {A : Type 0} (w u : Walk) (j : Judged RightValue) (c : Checked A) (ns : A → List ℕ) → RightGives w u j → judged_value_number j ≡ ns c.made → ((f : Fault) (fs : List Fault) → j ≡ Broken (f ∷ fs) → c.faults ≡ [] → ⊥) → Gives call_count w (noted c.faults u) (ns c.made)
finished w u j c ns (given g) same broken = gives_to call_count w u (noted c.faults u) (ns c.made) (gives_as call_count w u (judged_value_number j) (ns c.made) same g) (note c.faults u)
finished w u j c ns (lost clean funs f fs is) same broken =
    let never = λ (e : u.faults ++ c.faults ≡ []). broken f fs is (second_empty u.faults c.faults e) in
    record { clean = λ e. absurd (never e); funs = funs; numbers = λ e. absurd (never e); counted = λ e. absurd (never e) }

-- assignments

at_same : (s : Sort) (r : RightValue) → value_number r ≡ right_number (right_at s r)
at_same (Of t) (value.Plain v) = refl
at_same (Of t) (value.Result c u) = refl
at_same (Of t) (value.Requested c r) = refl
at_same AnyPointer (value.Plain v) = refl
at_same AnyPointer (value.Result c u) = refl
at_same AnyPointer (value.Requested c r) = refl

of_same : (r : RightValue) → value_number r ≡ right_number (right_of r)
of_same (value.Plain v) = refl
of_same (value.Result c u) = refl
of_same (value.Requested c r) = refl

for_same : (t : Ty) (r : RightValue) → value_number r ≡ right_number (right_for t r)
for_same t (value.Plain v) = refl
for_same t (value.Result c u) = refl
for_same t (value.Requested c r) = refl

assigned_same : (s : Simple) (p : Judged Value) (j : Judged RightValue) → judged_value_number j ≡ right_number (assigned s p j).made.right
assigned_same s (Typed p) (Typed r) = at_same p.sort r
assigned_same s (Typed p) (Broken fs) = refl
assigned_same s (Broken gs) (Typed r) = of_same r
assigned_same s (Broken gs) (Broken fs) = refl

assigned_broken : (s : Simple) (p : Judged Value) (f : Fault) (fs : List Fault) → (assigned s p (Broken (f ∷ fs))).faults ≡ [] → ⊥
assigned_broken s (Typed p) f fs e = absurd cc
assigned_broken s (Broken gs) f fs e = let rest = second_empty gs (f ∷ fs) e in absurd cc

simple_gives : (s : Simple) (w : Walk) → Gives call_count w (walked_simple s w).0 (right_number (walked_simple s w).1.right)
simple_gives s w =
    let r = walked_right s.right w in
    let p = judged w.scope s.place.expr false in
    finished w r.0 r.1 (assigned s p r.1) (λ (m : MadeSimple). right_number m.right) (right_gives s.right w) (assigned_same s p r.1)
    (λ f fs is e. assigned_broken s p f fs (subst (λ (j : Judged RightValue). (assigned s p j).faults ≡ []) is e))

-- initialisers

initial_same : (t : Written) (at : ℕ) (j : Judged RightValue) → judged_value_number j ≡ right_number (initial t at j).made
initial_same t at (Broken fs) = refl
initial_same (Good t) at (Typed r) = for_same t r
initial_same (Bad f) at (Typed r) = of_same r

initial_gives : (t : Written) (at : ℕ) (o : Option Right) (w : Walk) → Gives call_count w (walked_initial t at o w).0 (of_any right_number (walked_initial t at o w).1)
initial_gives t at None w = gives_none call_count w w (keeps_all call_count w)
initial_gives t at (Some r) w =
    let v = walked_right r w in
    finished w v.0 v.1 (initial t at v.1) right_number (right_gives r w) (initial_same t at v.1)
    (λ f fs is e. let none : (initial t at (Broken (f ∷ fs))).faults ≡ [] = subst (λ (j : Judged RightValue). (initial t at j).faults ≡ []) is e in absurd cc)

pub declared_calls : (d : Spec) (h : Home) (depth : ℕ) (w : Walk) → Keeps call_count w (declared d h depth w).0
declared_calls d h depth w =
    let r = spec_type d w.scope in
    let v = with_var (var_of d r.1 h) (with_scope w r.0) in
    keeps_both call_count w v (declared d h depth w).0 (record { clean = λ e. e; funs = refl; counted = refl }) (name_keeps call_count (λ fs w. refl) (λ w s. refl) d depth r.1 (length w.vars) v)

-- calls as statements, and returns

item_same : (j : Judged Called) → judged_number j ≡ in_item call_numbers (call_item j).made
item_same (Typed c) = sym (in_do call_numbers c.call)
item_same (Broken fs) = sym (in_declare call_numbers [])

do_gives : (c : Call) (w : Walk) → Gives call_count w (walked_do c w).0 (in_item call_numbers (walked_do c w).1)
do_gives c w =
    let r = walked_call c w in
    gives_to call_count w r.0 (walked_do c w).0 (in_item call_numbers (walked_do c w).1)
    (gives_as call_count w r.0 (judged_number r.1) (in_item call_numbers (walked_do c w).1) (item_same r.1) (call_gives c w)) (note (call_item r.1).faults r.0)

returned_same : (t : Returned) (at : ℕ) (j : Judged RightValue) → judged_value_number j ≡ right_number (returned_value t at j).made
returned_same t at (Broken fs) = refl
returned_same returned.Nothing at (Typed r) = of_same r
returned_same (returned.Value t) at (Typed r) = for_same t r
returned_same (returned.Bad f) at (Typed r) = of_same r

return_gives : (t : Returned) (at : ℕ) (o : Option Right) (w : Walk) → Gives call_count w (walked_return t at o w).0 (in_item call_numbers (walked_return t at o w).1)
return_gives t at None w =
    gives_as call_count w (walked_return t at None w).0 [] (in_item call_numbers (walked_return t at None w).1) (sym (in_return call_numbers None at))
    (gives_none call_count w (walked_return t at None w).0 (note (bare_return t at) w))
return_gives t at (Some r) w =
    let v = walked_right r w in
    let c = returned_value t at v.1 in
    gives_as call_count w (noted c.faults v.0) (right_number c.made) (in_item call_numbers (walked_return t at (Some r) w).1) (sym (in_return call_numbers (Some c.made) at))
    (finished w v.0 v.1 c right_number (right_gives r w) (returned_same t at v.1)
    (λ f fs is e. let none : (returned_value t at (Broken (f ∷ fs))).faults ≡ [] = subst (λ (j : Judged RightValue). (returned_value t at j).faults ≡ []) is e in absurd cc))

pub calls_lawful : Numbers call_numbers call_count
calls_lawful = record {
  fault = λ fs w. refl;
  scope = λ w s. refl;
  gap = λ w frees. gives_none call_count w (record w { gaps = w.gaps + 1 }) (record { clean = λ h. h; funs = refl; counted = refl });
  declr = λ p d w.
      let v = declared d.spec (home.Local p.function) p.depth w in
      gives_from call_count w v.0 (walked_declr p d w).0 (of_any right_number (walked_declr p d w).1.right) (declared_calls d.spec (home.Local p.function) p.depth w) (initial_gives v.1 d.at d.right v.0);
  simple = simple_gives;
  called = do_gives;
  returned = return_gives;
}
