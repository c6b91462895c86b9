-- Calls and requests behind a walk without offsets.
use Rattle.std.specs.Prelude.{slice_get, replicate}
use Rattle.std.proofs.Common.{◌≡◌, ℕ, ◌+◌, ◌==◌, Bool, true, false, List, [], ◌∷◌, ◌++◌, length, map, Option, Some, None, option_map, if◌then◌else◌, refl, sym, ap, ◌∙◌}
use Rattle.std.proofs.lemmas.List.{length-map, map-append}
use Rattle.std.proofs.lemmas.Option.{slice_get-map}
use Rattle.c_tree.specs.Alike.{bare_call, bare_expr}
use Rattle.c_tree.specs.declared.expr.Expr.{Expr as Made}
use Rattle.c_tree.specs.declared.program.Call.{Call as MadeCall}
use Rattle.c_tree.specs.declared.program.Call.TheVariants as made
use Rattle.c_tree.specs.declared.program.Size.TheVariants as size
use Rattle.c_tree.specs.declared.program.Ty.{Ty}
use Rattle.c_tree.specs.declared.program.Ty.TheVariants as ty
use Rattle.c_tree.specs.declared.tree.Arg.{Arg}
use Rattle.c_tree.specs.declared.tree.Call.{Call}
use Rattle.c_tree.specs.declared.tree.Call.TheVariants as call
use Rattle.c_tree.specs.declared.tree.Expr.{Expr}
use Rattle.c_tree.specs.declared.tree.Size.{Size}
use Rattle.c_tree.specs.declared.tree.Spec.{Spec}
use Rattle.c_tree.specs.declared.tree.Unit.{Unit as Counted}
use Rattle.c_tree.specs.declared.tree.Unit.TheVariants as unit
use Rattle.c_tree.specs.declared.tree.Word.{Word}
use Rattle.c_parser.specs.Alike.{moved_arg, moved_call, moved_expr, moved_size, moved_spec, moved_unit, moved_word}
use Rattle.c_parser.proofs.PrintedStatements.{none_at}
use Rattle.c_types.specs.declared.faults.Fault.{Fault}
use Rattle.c_types.specs.declared.faults.Rule.TheVariants as rule
use Rattle.c_types.specs.declared.judged.Called.{Called}
use Rattle.c_types.specs.declared.judged.Callee.{Callee}
use Rattle.c_types.specs.declared.judged.Callee.TheVariants as callee
use Rattle.c_types.specs.declared.judged.Checked.{Checked}
use Rattle.c_types.specs.declared.judged.Gives.{Gives}
use Rattle.c_types.specs.declared.judged.Gives.TheVariants as gives
use Rattle.c_types.specs.declared.judged.Judged.{Judged}
use Rattle.c_types.specs.declared.judged.Judged.TheVariants.{Typed, Broken}
use Rattle.c_types.specs.declared.judged.Measured.{Measured}
use Rattle.c_types.specs.declared.judged.Measured.TheVariants as measured
use Rattle.c_types.specs.declared.judged.Request.{Request}
use Rattle.c_types.specs.declared.judged.Sort.{Sort}
use Rattle.c_types.specs.declared.judged.Sort.TheVariants.{Of, AnyPointer}
use Rattle.c_types.specs.declared.judged.Value.{Value}
use Rattle.c_types.specs.declared.scope.BaseType.{BaseType}
use Rattle.c_types.specs.declared.scope.BaseType.TheVariants as type
use Rattle.c_types.specs.declared.scope.Entry.{Entry}
use Rattle.c_types.specs.declared.scope.Meaning.{Meaning}
use Rattle.c_types.specs.declared.scope.Meaning.TheVariants as meaning
use Rattle.c_types.specs.declared.scope.Scope.{Scope}
use Rattle.c_types.specs.declared.scope.Signature.{Signature}
use Rattle.c_types.specs.declared.scope.StructRow.{StructRow}
use Rattle.c_types.specs.declared.scope.Walk.{Walk}
use Rattle.c_types.specs.declared.scope.Written.{Written}
use Rattle.c_types.specs.declared.scope.Written.TheVariants.{Good, Bad}
use Rattle.c_types.specs.Calls.{argument, argument_by, arguments, arguments_from, before_others, behind, callee_as, callee_by, callee_defined, callee_of, cast_of, cast_type, counted, directives, is_main, miscounted, printed_args, printed_by, put_char, refused_call, request, request_behind, request_many, request_of, request_one, requested, result_or_nothing, row_measured, struct_measured, struct_row_measured, target_measured, type_measured, unit_measured, user_by, user_call, user_called, user_declared, walked_call, word_call}
use Rattle.c_types.specs.Expressions.{judged, variable}
use Rattle.c_types.specs.Fits.{converted, fault, fits, is_int, unless}
use Rattle.c_types.specs.Judged.{breaks, checked, faults_of, or_null, unless_broken}
use Rattle.c_types.specs.Scopes.{based, spec_type, with_scope}
use Rattle.c_types.specs.Tables.{found, place_of}
use Rattle.source_patcher.proofs.Offsets.{bare_checked, bare_entry, bare_fault, bare_judged, bare_meaning, bare_null, bare_pointer, bare_row, bare_scope, bare_value, bare_written, fits_bare, found_rows, judged_bare, one_bare, place_rows, two_bare, unless_bare, variable_bare}
use Rattle.source_patcher.proofs.OffsetsScopes.{IsBare, bare_pair, bare_type, bare_walk, based_bare, spec_bare}

-- what calls come to, without offsets

abbrev pub bare_request : Request → Request
bare_request r = record { points = r.points; cast = r.cast; at = 0 }

abbrev pub bare_gives : Gives → Gives
bare_gives gives.Nothing = gives.Nothing
bare_gives (gives.Result t) = gives.Result t
bare_gives (gives.Requested r) = gives.Requested (bare_request r)

abbrev pub bare_called : Called → Called
bare_called c = record { call = bare_call c.call; gives = bare_gives c.gives; at = 0 }

-- arguments

pub null_bare : (j : Judged Value) → or_null (bare_judged bare_value j) ≡ bare_expr (or_null j)
null_bare (Typed v) = refl
null_bare (Broken fs) = bare_null 0

pub converted_bare : (t : Ty) (e : Made) → converted t (bare_expr e) ≡ bare_expr (converted t e)
converted_bare ty.Int e = refl
converted_bare ty.IntPtr e = bare_pointer e
converted_bare (ty.StructPtr s) e = bare_pointer e

argument_case : (t : Option Ty) (at : ℕ) (j : Judged Value) → argument_by t 0 (bare_judged bare_value j) ≡ bare_checked bare_expr (argument_by t at j)
argument_case None at (Broken fs) = ap (λ e. checked e (map bare_fault fs)) (bare_null 0)
argument_case (Some t) at (Broken fs) = ap (λ e. checked e (map bare_fault fs)) (bare_null 0)
argument_case None at (Typed v) = refl
argument_case (Some t) at (Typed v) =
    ap (λ e. checked e (unless (fits t (bare_value v)) rule.TypesDiffer 0)) (converted_bare t v.expr)
    ∙ ap (λ b. checked (bare_expr (converted t v.expr)) (unless b rule.TypesDiffer 0)) (fits_bare t v)
    ∙ ap (λ fs. checked (bare_expr (converted t v.expr)) fs) (unless_bare (fits t v) rule.TypesDiffer at)

pub argument_bare : (s : Scope) (t : Option Ty) (a : Arg) → argument (bare_scope s) t (moved_arg none_at a) ≡ bare_checked bare_expr (argument s t a)
argument_bare s t a = ap (argument_by t 0) (judged_bare s a.expr false) ∙ argument_case t a.at (judged s a.expr false)

others_bare : (c : Checked Made) (cs : Checked (List Made)) → before_others (bare_checked bare_expr c) (bare_checked (map bare_expr) cs) ≡ bare_checked (map bare_expr) (before_others c cs)
others_bare c cs = ap (λ fs. checked (bare_expr c.made ∷ map bare_expr cs.made) fs) (sym (map-append bare_fault c.faults cs.faults))

arguments_at : (s : Scope) (ts : List Ty) (k : ℕ) (args : List Arg) → arguments_from (bare_scope s) ts k (map (moved_arg none_at) args) ≡ bare_checked (map bare_expr) (arguments_from s ts k args)
arguments_at s ts k [] = refl
arguments_at s ts k (a ∷ args) =
    ap (λ c. before_others c (arguments_from (bare_scope s) ts (k + 1) (map (moved_arg none_at) args))) (argument_bare s (slice_get ts k) a)
    ∙ ap (before_others (bare_checked bare_expr (argument s (slice_get ts k) a))) (arguments_at s ts (k + 1) args)
    ∙ others_bare (argument s (slice_get ts k) a) (arguments_from s ts (k + 1) args)

arguments_bare : (s : Scope) (ts : List Ty) (args : List Arg) → arguments (bare_scope s) ts (map (moved_arg none_at) args) ≡ bare_checked (map bare_expr) (arguments s ts args)
arguments_bare s ts args = arguments_at s ts 0 args

miscounted_bare : (fs : List Fault) (wanted given at : ℕ) → miscounted (map bare_fault fs) wanted given 0 ≡ map bare_fault (miscounted fs wanted given at)
miscounted_bare [] wanted given at = unless_bare (wanted == given) rule.ArgumentCount at
miscounted_bare (f ∷ fs) wanted given at = refl

unbroken_bare : {A : Type 0} (g : A → A) (a : A) (fs : List Fault) → unless_broken (g a) (map bare_fault fs) ≡ bare_judged g (unless_broken a fs)
unbroken_bare g a [] = refl
unbroken_bare g a (f ∷ fs) = refl

-- users' functions

abbrev bare_callee : Callee → Callee
bare_callee (callee.Defined f k) = callee.Defined f k
bare_callee (callee.Refused f) = callee.Refused (bare_fault f)

main_case : (n : Word) (f k : ℕ) (b : Bool) → (if b then callee.Refused (fault rule.Main 0) else callee.Defined f k) ≡ bare_callee (if b then callee.Refused (fault rule.Main n.at) else callee.Defined f k)
main_case n f k true = refl
main_case n f k false = refl

defined_case : (n : Word) (k : ℕ) (o : Option ℕ) → callee_defined (moved_word none_at n) k o ≡ bare_callee (callee_defined n k o)
defined_case n k None = refl
defined_case n k (Some f) = main_case n f k (is_main n.text)

callee_meaning : (w : Walk) (n : Word) (m : Meaning) → callee_as (bare_walk w) (moved_word none_at n) (bare_meaning m) ≡ bare_callee (callee_as w n m)
callee_meaning w n (meaning.Function k) = ap (callee_defined (moved_word none_at n) k) (place_rows (λ (at : ℕ). 0) w.definitions n.text) ∙ defined_case n k (place_of w.definitions n.text)
callee_meaning w n (meaning.Bad f) = refl
callee_meaning w n (meaning.Variable k t) = refl
callee_meaning w n (meaning.Alias s) = refl

callee_entry : (w : Walk) (n : Word) (o : Option Entry) → callee_by (bare_walk w) (moved_word none_at n) (option_map bare_entry o) ≡ bare_callee (callee_by w n o)
callee_entry w n None = refl
callee_entry w n (Some e) = callee_meaning w n e.meaning

gives_case : (o : Option Ty) → result_or_nothing o ≡ bare_gives (result_or_nothing o)
gives_case None = refl
gives_case (Some t) = refl

called_bare : (w : Walk) (n : Word) (f : ℕ) (g : Signature) (args : List Arg) (close : ℕ) (cs : Checked (List Made))
    → user_called (bare_walk w) (moved_word none_at n) f g (map (moved_arg none_at) args) 0 (bare_checked (map bare_expr) cs) ≡ bare_judged bare_called (user_called w n f g args close cs)
called_bare w n f g args close cs =
    let c : Called = record { call = made.User w.calls f cs.made n.at; gives = result_or_nothing g.result; at = n.at } in
    let fs = miscounted cs.faults (length g.params) (length args) close in
    ap (λ k. unless_broken (record { call = made.User w.calls f (map bare_expr cs.made) 0; gives = result_or_nothing g.result; at = 0 }) (miscounted (map bare_fault cs.faults) (length g.params) k 0)) (length-map args (moved_arg none_at))
    ∙ ap (λ x. unless_broken (record { call = made.User w.calls f (map bare_expr cs.made) 0; gives = x; at = 0 }) (miscounted (map bare_fault cs.faults) (length g.params) (length args) 0)) (gives_case g.result)
    ∙ ap (unless_broken (bare_called c)) (miscounted_bare cs.faults (length g.params) (length args) close)
    ∙ unbroken_bare bare_called c fs

refused_bare : (s : Scope) (f : Fault) (args : List Arg) → refused_call (bare_scope s) (bare_fault f) (map (moved_arg none_at) args) ≡ bare_judged bare_called (refused_call s f args)
refused_bare s f args = ap (λ (c : Checked (List Made)). Broken (bare_fault f ∷ c.faults)) (arguments_bare s [] args)

declared_case : (w : Walk) (n : Word) (f : ℕ) (args : List Arg) (close : ℕ) (o : Option Signature)
    → user_declared (bare_walk w) (moved_word none_at n) f (map (moved_arg none_at) args) 0 o ≡ bare_judged bare_called (user_declared w n f args close o)
declared_case w n f args close None = refused_bare w.scope (fault rule.Unknown n.at) args
declared_case w n f args close (Some g) =
    ap (user_called (bare_walk w) (moved_word none_at n) f g (map (moved_arg none_at) args) 0) (arguments_bare w.scope g.params args) ∙ called_bare w n f g args close (arguments w.scope g.params args)

callee_case : (w : Walk) (n : Word) (args : List Arg) (close : ℕ) (c : Callee)
    → user_by (bare_walk w) (moved_word none_at n) (map (moved_arg none_at) args) 0 (bare_callee c) ≡ bare_judged bare_called (user_by w n args close c)
callee_case w n args close (callee.Refused f) = refused_bare w.scope f args
callee_case w n args close (callee.Defined f k) = declared_case w n f args close (slice_get w.signatures k)

user_bare : (w : Walk) (n : Word) (args : List Arg) (close : ℕ) → user_call (bare_walk w) (moved_word none_at n) (map (moved_arg none_at) args) 0 ≡ bare_judged bare_called (user_call w n args close)
user_bare w n args close =
    ap (λ o. user_by (bare_walk w) (moved_word none_at n) (map (moved_arg none_at) args) 0 (callee_by (bare_walk w) (moved_word none_at n) o)) (found_rows bare_entry w.scope.names n.text)
    ∙ ap (user_by (bare_walk w) (moved_word none_at n) (map (moved_arg none_at) args) 0) (callee_entry w n (found w.scope.names n.text))
    ∙ callee_case w n args close (callee_of w n)

counted_bare : (w : Walk) (j : Judged Called) → counted (bare_judged bare_called j) (bare_walk w) ≡ bare_walk (counted j w)
counted_bare w (Typed c) = refl
counted_bare w (Broken fs) = refl

-- sizes

abbrev as_measured : Judged Measured → Judged Measured
as_measured = bare_judged (λ m. m)

struct_row_case : (n at : ℕ) (o : Option ℕ) → struct_row_measured n 0 (option_map (λ _. 0) o) ≡ as_measured (struct_row_measured n at o)
struct_row_case n at None = refl
struct_row_case n at (Some body) = refl

row_case : (n at : ℕ) (o : Option StructRow) → row_measured n 0 (option_map bare_row o) ≡ as_measured (row_measured n at o)
row_case n at None = refl
row_case n at (Some row) = struct_row_case n at row.body

struct_bare : (s : Scope) (at n : ℕ) → struct_measured (bare_scope s) 0 n ≡ as_measured (struct_measured s at n)
struct_bare s at n = ap (row_measured n 0) (slice_get-map bare_row s.structs n) ∙ row_case n at (slice_get s.structs n)

measured_case : (b : Bool) (at : ℕ) (new old : Judged Measured) → new ≡ as_measured old → (if b then new else breaks rule.Operands 0) ≡ as_measured (if b then old else breaks rule.Operands at)
measured_case true at new old is = is
measured_case false at new old is = refl

type_case : (s : Scope) (at stars : ℕ) (t : BaseType) → type_measured (bare_scope s) 0 stars (bare_type t) ≡ as_measured (type_measured s at stars t)
type_case s at stars (type.Bad f) = refl
type_case s at stars type.Void = refl
type_case s at stars type.Int = measured_case (stars == 0) at (Typed measured.Int) (Typed measured.Int) refl
type_case s at stars (type.Struct n) = measured_case (stars == 0) at (struct_measured (bare_scope s) 0 n) (struct_measured s at n) (struct_bare s at n)

target_case : (s : Scope) (at : ℕ) (t : Sort) → target_measured (bare_scope s) 0 t ≡ as_measured (target_measured s at t)
target_case s at (Of ty.IntPtr) = refl
target_case s at (Of (ty.StructPtr n)) = struct_bare s at n
target_case s at (Of ty.Int) = refl
target_case s at AnyPointer = refl

unit_bare : (u : Counted) (at : ℕ) (s : Scope) → unit_measured (moved_unit none_at u) 0 (bare_scope s) ≡ bare_pair bare_scope as_measured (unit_measured u at s)
unit_bare (unit.Of d) at s =
    let r = based d.base s in
    ap (λ q. (q.0, type_measured q.0 0 d.stars q.1)) (based_bare d.base s) ∙ ap (λ j. (bare_scope r.0, j)) (type_case r.0 at d.stars r.1)
unit_bare (unit.Star x) at s =
    ap (λ j. (bare_scope s, j)) (one_bare bare_value (λ m. m) (λ v. target_measured (bare_scope s) 0 v.sort) (λ v. target_measured s at v.sort) (λ v. target_case s at v.sort) (variable (bare_scope s) (moved_word none_at x)) (variable s x) (variable_bare s x))

-- requests

one_requested : (cast : Option Ty) (at : ℕ) (m : Measured) → request_one cast 0 m ≡ bare_judged bare_called (request_one cast at m)
one_requested cast at measured.Int = refl
one_requested cast at (measured.Struct n) = refl

many_case : (b : Bool) (cast : Option Ty) (at : ℕ) (e : Made)
    → (if b then request (size.Ints (Some (bare_expr e))) ty.IntPtr cast 0 else breaks rule.Request 0) ≡ bare_judged bare_called (if b then request (size.Ints (Some e)) ty.IntPtr cast at else breaks rule.Request at)
many_case true cast at e = refl
many_case false cast at e = refl

many_requested : (cast : Option Ty) (at : ℕ) (m : Measured) (v : Value) → request_many cast 0 m (bare_value v) ≡ bare_judged bare_called (request_many cast at m v)
many_requested cast at measured.Int v = many_case (is_int v.sort) cast at v.expr
many_requested cast at (measured.Struct n) v = refl

request_case : (s : Scope) (cast : Option Ty) (at : ℕ) (u : Judged Measured) (o : Option Expr) → request_of (bare_scope s) cast 0 (as_measured u) (option_map (moved_expr none_at) o) ≡ bare_judged bare_called (request_of s cast at u o)
request_case s cast at u None = one_bare (λ m. m) bare_called (request_one cast 0) (request_one cast at) (one_requested cast at) (as_measured u) u refl
request_case s cast at u (Some e) =
    two_bare (λ m. m) bare_value bare_called (request_many cast 0) (request_many cast at) (many_requested cast at) (as_measured u) u (judged (bare_scope s) (moved_expr none_at e) false) (judged s e false) refl (judged_bare s e false)

pub faults_bare : {A : Type 0} (g : A → A) (j : Judged A) → faults_of (bare_judged g j) ≡ map bare_fault (faults_of j)
faults_bare g (Typed a) = refl
faults_bare g (Broken fs) = refl

behind_bare : {A : Type 0} (g : A → A) (fs : List Fault) (j : Judged A) → behind (map bare_fault fs) (bare_judged g j) ≡ bare_judged g (behind fs j)
behind_bare g [] j = refl
behind_bare g (f ∷ fs) j =
    ap (λ (gs : List Fault). Broken (bare_fault f ∷ map bare_fault fs ++ gs)) (faults_bare g j) ∙ ap (λ (gs : List Fault). Broken (bare_fault f ∷ gs)) (sym (map-append bare_fault fs (faults_of j)))

cast_case : (t : Written) → cast_type (bare_written t) ≡ bare_checked (λ o. o) (cast_type t)
cast_case (Good t) = refl
cast_case (Bad f) = refl

cast_bare : (o : Option Spec) (s : Scope) → cast_of (option_map (moved_spec none_at) o) (bare_scope s) ≡ bare_pair bare_scope (bare_checked (λ t. t)) (cast_of o s)
cast_bare None s = refl
cast_bare (Some d) s = let r = spec_type d s in ap (λ q. (q.0, cast_type q.1)) (spec_bare d s) ∙ ap (λ c. (bare_scope r.0, c)) (cast_case r.1)

behind_cast : (cast : Checked (Option Ty)) (z : Size) (at : ℕ) (s : Scope) → request_behind (bare_checked (λ t. t) cast) (moved_size none_at z) 0 (bare_scope s) ≡ bare_pair bare_scope (bare_judged bare_called) (request_behind cast z at s)
behind_cast cast z at s =
    let r = unit_measured z.unit z.at s in
    ap (λ q. (q.0, behind (map bare_fault cast.faults) (request_of q.0 cast.made 0 q.1 (option_map (moved_expr none_at) z.count)))) (unit_bare z.unit z.at s)
    ∙ ap (λ j. (bare_scope r.0, behind (map bare_fault cast.faults) j)) (request_case r.0 cast.made at r.1 z.count)
    ∙ ap (λ j. (bare_scope r.0, j)) (behind_bare bare_called cast.faults (request_of r.0 cast.made at r.1 z.count))

requested_bare : (o : Option Spec) (z : Size) (at : ℕ) (s : Scope) → requested (option_map (moved_spec none_at) o) (moved_size none_at z) 0 (bare_scope s) ≡ bare_pair bare_scope (bare_judged bare_called) (requested o z at s)
requested_bare o z at s =
    let r = cast_of o s in
    ap (λ q. request_behind q.1 (moved_size none_at z) 0 q.0) (cast_bare o s) ∙ behind_cast r.1 z at r.0

-- printing

word_bare : (c : MadeCall) (at : ℕ) (fs : List Fault) → word_call (bare_call c) 0 (map bare_fault fs) ≡ bare_judged bare_called (word_call c at fs)
word_bare c at fs = unbroken_bare bare_called (record { call = c; gives = gives.Nothing; at = at }) fs

args_bare : (text : List ℕ) (at close wanted given : ℕ) (cs : Checked (List Made)) → printed_args text 0 0 wanted given (bare_checked (map bare_expr) cs) ≡ bare_judged bare_called (printed_args text at close wanted given cs)
args_bare text at close wanted given cs =
    ap (word_call (made.Printf text (map bare_expr cs.made) 0) 0) (miscounted_bare cs.faults wanted given close) ∙ word_bare (made.Printf text cs.made at) at (miscounted cs.faults wanted given close)

printed_case : (s : Scope) (text : List ℕ) (text_at : ℕ) (args : List Arg) (at close : ℕ) (o : Option ℕ)
    → printed_by (bare_scope s) text 0 (map (moved_arg none_at) args) 0 0 o ≡ bare_judged bare_called (printed_by s text text_at args at close o)
printed_case s text text_at args at close None = refused_bare s (fault rule.Directive text_at) args
printed_case s text text_at args at close (Some n) =
    ap (λ k. printed_args text 0 0 n k (arguments (bare_scope s) (replicate n ty.Int) (map (moved_arg none_at) args))) (length-map args (moved_arg none_at))
    ∙ ap (printed_args text 0 0 n (length args)) (arguments_bare s (replicate n ty.Int) args)
    ∙ args_bare text at close n (length args) (arguments s (replicate n ty.Int) args)

-- calls

pub call_bare : (c : Call) → IsBare (bare_judged bare_called) (walked_call (moved_call none_at c)) (walked_call c)
call_bare (call.User n args close) w =
    ap (λ j. (counted j (bare_walk w), j)) (user_bare w n args close) ∙ ap (λ v. (v, bare_judged bare_called (user_call w n args close))) (counted_bare w (user_call w n args close))
call_bare (call.Malloc cast z at) w = ap (λ r. (with_scope (bare_walk w) r.0, r.1)) (requested_bare cast z at w.scope)
call_bare (call.Getchar at) w = refl
call_bare (call.Putchar a at) w =
    let c = argument w.scope (Some ty.Int) a in
    ap (λ d. (bare_walk w, put_char 0 d)) (argument_bare w.scope (Some ty.Int) a) ∙ ap (λ j. (bare_walk w, j)) (word_bare (made.Putchar c.made at) at c.faults)
call_bare (call.Printf text text_at args at close) w = ap (λ j. (bare_walk w, j)) (printed_case w.scope text text_at args at close (directives text))
