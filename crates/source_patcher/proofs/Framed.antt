-- What a walk does to a part of a function doesn't hang on the functions that were made before.
use Rattle.std.specs.Prelude.{slice_get}
use Rattle.std.proofs.Common.{◌≡◌, ℕ, false, List, [], ◌∷◌, length, Option, Some, None, refl, ap, ◌∙◌}
use Rattle.c_tree.specs.declared.expr.Expr.{Expr as Made}
use Rattle.c_tree.specs.declared.program.ForHead.{ForHead as MadeHead}
use Rattle.c_tree.specs.declared.program.FunDef.{FunDef}
use Rattle.c_tree.specs.declared.program.Home.{Home}
use Rattle.c_tree.specs.declared.program.Home.TheVariants as home
use Rattle.c_tree.specs.declared.program.Item.TheVariants as item
use Rattle.c_tree.specs.declared.program.Simple.{Simple as MadeSimple}
use Rattle.c_tree.specs.declared.program.Start.TheVariants as start_made
use Rattle.c_tree.specs.declared.tree.Arg.{Arg}
use Rattle.c_tree.specs.declared.tree.Call.{Call}
use Rattle.c_tree.specs.declared.tree.Call.TheVariants as call
use Rattle.c_tree.specs.declared.tree.Declr.{Declr}
use Rattle.c_tree.specs.declared.tree.Expr.{Expr}
use Rattle.c_tree.specs.declared.tree.ForHead.{ForHead}
use Rattle.c_tree.specs.declared.tree.Free.{Free}
use Rattle.c_tree.specs.declared.tree.Right.{Right}
use Rattle.c_tree.specs.declared.tree.Right.TheVariants as right
use Rattle.c_tree.specs.declared.tree.Simple.{Simple}
use Rattle.c_tree.specs.declared.tree.Spec.{Spec}
use Rattle.c_tree.specs.declared.tree.Start.{Start}
use Rattle.c_tree.specs.declared.tree.Start.TheVariants as start
use Rattle.c_tree.specs.declared.tree.Word.{Word}
use Rattle.c_types.specs.declared.judged.Called.{Called}
use Rattle.c_types.specs.declared.judged.Callee.{Callee}
use Rattle.c_types.specs.declared.judged.Callee.TheVariants as callee
use Rattle.c_types.specs.declared.judged.Judged.{Judged}
use Rattle.c_types.specs.declared.judged.Judged.TheVariants.{Typed, Broken}
use Rattle.c_types.specs.declared.scope.Entry.{Entry}
use Rattle.c_types.specs.declared.scope.Meaning.{Meaning}
use Rattle.c_types.specs.declared.scope.Meaning.TheVariants as meaning
use Rattle.c_types.specs.declared.scope.Nesting.{Nesting}
use Rattle.c_types.specs.declared.scope.Returned.{Returned}
use Rattle.c_types.specs.declared.scope.Signature.{Signature}
use Rattle.c_types.specs.declared.scope.Walk.{Walk}
use Rattle.c_types.specs.declared.scope.Written.{Written}
use Rattle.c_types.specs.Blocks.{head_behind, walked_free, walked_head, walked_start, walked_test}
use Rattle.c_types.specs.Calls.{callee_as, callee_by, callee_of, counted, user_by, user_call, user_declared, walked_call}
use Rattle.c_types.specs.Expressions.{judged}
use Rattle.c_types.specs.InTurn.{each, optional}
use Rattle.c_types.specs.Judged.{of_one}
use Rattle.c_types.specs.Scopes.{declared, named_by, named_if, noted, spec_type, type_faults, variable_meaning, var_of, with_scope, with_var}
use Rattle.c_types.specs.Statements.{assigned, call_item, declr_behind, initial, noting, returned_value, value_of_call, walked_declr, walked_do, walked_initial, walked_return, walked_right, walked_simple}
use Rattle.c_types.specs.Tables.{found}

-- a walk with other functions
abbrev pub framed : List FunDef → Walk → Walk
framed fs w = record w { funs = fs }

abbrev pub framed_with : {A : Type 0} → List FunDef → Walk × A → Walk × A
framed_with fs r = (framed fs r.0, r.1)

-- the part does the same whatever functions were made before
abbrev pub IsFramed : {A : Type 0} → (Walk → Walk × A) → Type 0
IsFramed f = (fs : List FunDef) (w : Walk) → f (framed fs w) ≡ framed_with fs (f w)

pub each_framed : {A B : Type 0} (f : A → Walk → Walk × B) → ((x : A) → IsFramed (f x)) → (xs : List A) → IsFramed (each f xs)
each_framed f one [] fs w = refl
each_framed f one (x ∷ xs) fs w =
    let r = f x w in
    ap (λ q. ((each f xs q.0).0, q.1 ∷ (each f xs q.0).1)) (one x fs w) ∙ ap (λ q. (q.0, r.1 ∷ q.1)) (each_framed f one xs fs r.0)

pub optional_framed : {A B : Type 0} (f : A → Walk → Walk × B) → ((x : A) → IsFramed (f x)) → (o : Option A) → IsFramed (optional f o)
optional_framed f one None fs w = refl
optional_framed f one (Some x) fs w = ap (λ q. (q.0, Some q.1)) (one x fs w)

-- calls

callee_meaning : (fs : List FunDef) (w : Walk) (n : Word) (m : Meaning) → callee_as (framed fs w) n m ≡ callee_as w n m
callee_meaning fs w n (meaning.Function k) = refl
callee_meaning fs w n (meaning.Bad f) = refl
callee_meaning fs w n (meaning.Variable k t) = refl
callee_meaning fs w n (meaning.Alias s) = refl

callee_entry : (fs : List FunDef) (w : Walk) (n : Word) (o : Option Entry) → callee_by (framed fs w) n o ≡ callee_by w n o
callee_entry fs w n None = refl
callee_entry fs w n (Some e) = callee_meaning fs w n e.meaning

declared_call : (fs : List FunDef) (w : Walk) (n : Word) (f : ℕ) (args : List Arg) (close : ℕ) (o : Option Signature) → user_declared (framed fs w) n f args close o ≡ user_declared w n f args close o
declared_call fs w n f args close None = refl
declared_call fs w n f args close (Some g) = refl

call_of_callee : (fs : List FunDef) (w : Walk) (n : Word) (args : List Arg) (close : ℕ) (c : Callee) → user_by (framed fs w) n args close c ≡ user_by w n args close c
call_of_callee fs w n args close (callee.Defined f k) = declared_call fs w n f args close (slice_get w.signatures k)
call_of_callee fs w n args close (callee.Refused f) = refl

user_call_framed : (fs : List FunDef) (w : Walk) (n : Word) (args : List Arg) (close : ℕ) → user_call (framed fs w) n args close ≡ user_call w n args close
user_call_framed fs w n args close =
    ap (user_by (framed fs w) n args close) (callee_entry fs w n (found w.scope.names n.text)) ∙ call_of_callee fs w n args close (callee_of w n)

counted_framed : (fs : List FunDef) (w : Walk) (c : Judged Called) → counted c (framed fs w) ≡ framed fs (counted c w)
counted_framed fs w (Typed c) = refl
counted_framed fs w (Broken gs) = refl

pub call_framed : (c : Call) → IsFramed (walked_call c)
call_framed (call.User n args close) fs w =
    ap (λ c. (counted c (framed fs w), c)) (user_call_framed fs w n args close) ∙ ap (λ v. (v, user_call w n args close)) (counted_framed fs w (user_call w n args close))
call_framed (call.Malloc cast size at) fs w = refl
call_framed (call.Getchar at) fs w = refl
call_framed (call.Putchar a at) fs w = refl
call_framed (call.Printf text text_at args at close) fs w = refl

-- statements

pub right_framed : (r : Right) → IsFramed (walked_right r)
right_framed (right.Plain a) fs w = refl
right_framed (right.Call c) fs w = ap (λ q. (q.0, of_one value_of_call q.1)) (call_framed c fs w)

pub simple_framed : (s : Simple) → IsFramed (walked_simple s)
simple_framed s fs w = ap (λ q. noting q.0 (assigned s (judged w.scope s.place.expr false) q.1)) (right_framed s.right fs w)

initial_framed : (t : Written) (at : ℕ) (o : Option Right) → IsFramed (walked_initial t at o)
initial_framed t at None fs w = refl
initial_framed t at (Some r) fs w = ap (λ q. let c = noting q.0 (initial t at q.1) in (c.0, Some c.1)) (right_framed r fs w)

pub named_entry : (n : Word) (e : Entry) (fs : List FunDef) (w : Walk) (o : Option Entry) → named_by n e (framed fs w) o ≡ framed fs (named_by n e w o)
named_entry n e fs w None = refl
named_entry n e fs w (Some older) = refl

named_framed : (d : Spec) (e : Entry) (fs : List FunDef) (w : Walk) (o : Option Word) → named_if d e (framed fs w) o ≡ framed fs (named_if d e w o)
named_framed d e fs w None = refl
named_framed d e fs w (Some n) = named_entry n e fs w (found w.scope.names n.text)

pub declared_framed : (d : Spec) (h : Home) (depth : ℕ) → IsFramed (declared d h depth)
declared_framed d h depth fs w =
    let s = spec_type d w.scope in
    let v = noted (type_faults s.1) (with_var (var_of d s.1 h) (with_scope w s.0)) in
    ap (λ u. (u, s.1)) (named_framed d (record { meaning = variable_meaning (length w.vars) s.1; depth = depth }) fs v d.name)

pub declr_framed : (n : Nesting) (d : Declr) → IsFramed (walked_declr n d)
declr_framed n d fs w =
    let v = declared d.spec (home.Local n.function) n.depth w in
    ap (declr_behind d (length w.vars)) (declared_framed d.spec (home.Local n.function) n.depth fs w)
    ∙ ap (λ q. (q.0, record { var = length w.vars; right = q.1; at = d.at })) (initial_framed v.1 d.at d.right fs v.0)

pub do_framed : (c : Call) → IsFramed (walked_do c)
do_framed c fs w = ap (λ q. noting q.0 (call_item q.1)) (call_framed c fs w)

pub return_framed : (t : Returned) (at : ℕ) (o : Option Right) → IsFramed (walked_return t at o)
return_framed t at None fs w = refl
return_framed t at (Some r) fs w = ap (λ q. let c = noting q.0 (returned_value t at q.1) in (c.0, item.Return (Some c.1) at)) (right_framed r fs w)

pub test_framed : (e : Expr) → IsFramed (walked_test e)
test_framed e fs w = refl

start_framed : (n : Nesting) (s : Start) → IsFramed (walked_start n s)
start_framed n (start.Declare d) fs w = ap (λ q. (q.0, start_made.Declare q.1)) (declr_framed n d fs w)
start_framed n (start.Assign s) fs w = ap (λ q. (q.0, start_made.Assign q.1)) (simple_framed s fs w)

pub head_framed : (n : Nesting) (h : ForHead) → IsFramed (walked_head n h)
head_framed n h fs w =
    let r = each (walked_start n) h.start w in
    let t = optional walked_test h.test r.0 in
    let made : Walk × Option Made → Walk × Option MadeSimple → Walk × MadeHead = λ t' s. (s.0, record { start = r.1; test = t'.1; step = s.1 }) in
    ap (head_behind h) (each_framed (walked_start n) (start_framed n) h.start fs w)
    ∙ ap (λ t'. made t' (optional walked_simple h.step t'.0)) (optional_framed walked_test test_framed h.test fs r.0)
    ∙ ap (made t) (optional_framed walked_simple simple_framed h.step fs t.0)

pub free_framed : (f : Free) → IsFramed (walked_free f)
free_framed f fs w = refl
