-- Calls and requests (C99 6.5.2.2, 7.20.3.3, 7.19.6.3).
use Rattle.std.specs.Prelude.{ℕ, suc, ◌+◌, ◌==◌, Bool, true, false, ◌&&◌, List, [], ◌∷◌, ◌++◌, length, map, slice_get, replicate, Option, None, Some, option_map, if◌then◌else◌}
use Rattle.std.specs.List.{fold}
use Rattle.c_tree.specs.declared.expr.Expr.{Expr as Made}
use Rattle.c_tree.specs.declared.program.Call.{Call as MadeCall}
use Rattle.c_tree.specs.declared.program.Call.TheVariants as made
use Rattle.c_tree.specs.declared.program.Size.{Size as MadeSize}
use Rattle.c_tree.specs.declared.program.Size.TheVariants as size
use Rattle.c_tree.specs.declared.program.Ty.{Ty}
use Rattle.c_tree.specs.declared.program.Ty.TheVariants as ty
use Rattle.c_tree.specs.declared.tree.Arg.{Arg}
use Rattle.c_tree.specs.declared.tree.Call.{Call}
use Rattle.c_tree.specs.declared.tree.Call.TheVariants as call
use Rattle.c_tree.specs.declared.tree.Expr.{Expr}
use Rattle.c_tree.specs.declared.tree.Size.{Size}
use Rattle.c_tree.specs.declared.tree.Spec.{Spec}
use Rattle.c_tree.specs.declared.tree.Unit.{Unit as MeasuredUnit}
use Rattle.c_tree.specs.declared.tree.Unit.TheVariants as unit
use Rattle.c_tree.specs.declared.tree.Word.{Word}
use Rattle.c_types.specs.declared.faults.Fault.{Fault}
use Rattle.c_types.specs.declared.faults.Rule.TheVariants as rule
use Rattle.c_types.specs.declared.judged.Called.{Called}
use Rattle.c_types.specs.declared.judged.Callee.{Callee}
use Rattle.c_types.specs.declared.judged.Callee.TheVariants as callee
use Rattle.c_types.specs.declared.judged.Checked.{Checked}
use Rattle.c_types.specs.declared.judged.Directives.{Directives}
use Rattle.c_types.specs.declared.judged.Directives.TheVariants as asked
use Rattle.c_types.specs.declared.judged.Gives.{Gives}
use Rattle.c_types.specs.declared.judged.Gives.TheVariants as gives
use Rattle.c_types.specs.declared.judged.Judged.{Judged}
use Rattle.c_types.specs.declared.judged.Judged.TheVariants.{Typed, Broken}
use Rattle.c_types.specs.declared.judged.Measured.{Measured}
use Rattle.c_types.specs.declared.judged.Measured.TheVariants as measured
use Rattle.c_types.specs.declared.judged.Sort.{Sort}
use Rattle.c_types.specs.declared.judged.Sort.TheVariants.{Of, AnyPointer}
use Rattle.c_types.specs.declared.judged.Value.{Value}
use Rattle.c_types.specs.declared.scope.BaseType.{BaseType}
use Rattle.c_types.specs.declared.scope.BaseType.TheVariants as type
use Rattle.c_types.specs.declared.scope.Entry.{Entry}
use Rattle.c_types.specs.declared.scope.Meaning.{Meaning}
use Rattle.c_types.specs.declared.scope.Meaning.TheVariants as meaning
use Rattle.c_types.specs.declared.scope.Scope.{Scope}
use Rattle.c_types.specs.declared.scope.Signature.{Signature}
use Rattle.c_types.specs.declared.scope.StructRow.{StructRow}
use Rattle.c_types.specs.declared.scope.Walk.{Walk}
use Rattle.c_types.specs.declared.scope.Written.{Written}
use Rattle.c_types.specs.declared.scope.Written.TheVariants.{Good, Bad}
use Rattle.c_types.specs.Expressions.{judged, variable}
use Rattle.c_types.specs.Fits.{fault, unless, fits, converted, is_int}
use Rattle.c_types.specs.Judged.{breaks, of_one, of_two, faults_of, checked, unless_broken, or_null}
use Rattle.c_types.specs.Scopes.{based, spec_type, in_scope}
use Rattle.c_types.specs.Tables.{found, place_of, same_name}

-- arguments

-- Wrong 3: an argument of another type than its parameter; one without a parameter has only to have a type
abbrev pub argument_by : Option Ty → ℕ → Judged Value → Checked Made
argument_by t at (Broken fs) = checked (or_null (Broken fs)) fs
argument_by None at (Typed v) = checked v.expr []
argument_by (Some t) at (Typed v) = checked (converted t v.expr) (unless (fits t v) rule.TypesDiffer at)

abbrev pub argument : Scope → Option Ty → Arg → Checked Made
argument s t a = argument_by t a.at (judged s a.expr false)

-- arguments before others
abbrev pub before : List Made → List Fault → Checked (List Made) → Checked (List Made)
before es fs cs = checked (es ++ cs.made) (fs ++ cs.faults)

abbrev pub before_others : Checked Made → Checked (List Made) → Checked (List Made)
before_others c cs = before (c.made ∷ []) c.faults cs

-- each argument with the type of its parameter, from the parameter k on
abbrev pub arguments_from : Scope → List Ty → ℕ → List Arg → Checked (List Made)
arguments_from s ts k [] = checked [] []
arguments_from s ts k (a ∷ args) = before_others (argument s (slice_get ts k) a) (arguments_from s ts (k + 1) args)

abbrev pub arguments : Scope → List Ty → List Arg → Checked (List Made)
arguments s ts args = arguments_from s ts 0 args

-- Wrong 6: another number of arguments, which is looked at where the arguments are good
abbrev pub miscounted : List Fault → ℕ → ℕ → ℕ → List Fault
miscounted [] wanted given at = unless (wanted == given) rule.ArgumentCount at
miscounted (f ∷ fs) wanted given at = f ∷ fs

-- users' functions

-- "main" in bytes
abbrev pub main_name : List ℕ
main_name = 109 ∷ 97 ∷ 105 ∷ 110 ∷ []

abbrev pub is_main : List ℕ → Bool
is_main name = same_name name main_name

-- Unknown: a called function without a definition anywhere in the file. Wrong 12: a call of main.
abbrev pub callee_defined : Word → ℕ → Option ℕ → Callee
callee_defined n k None = callee.Refused (fault rule.Unknown n.at)
callee_defined n k (Some f) = if is_main n.text then callee.Refused (fault rule.Main n.at) else callee.Defined f k

-- Unknown: a callee that is no function
abbrev pub callee_as : Walk → Word → Meaning → Callee
callee_as w n (meaning.Function k) = callee_defined n k (place_of w.definitions n.text)
callee_as w n (meaning.Bad f) = callee.Refused f
callee_as w n (meaning.Variable m t) = callee.Refused (fault rule.Unknown n.at)
callee_as w n (meaning.Alias s) = callee.Refused (fault rule.Unknown n.at)

abbrev pub callee_by : Walk → Word → Option Entry → Callee
callee_by w n None = callee.Refused (fault rule.Unknown n.at)
callee_by w n (Some e) = callee_as w n e.meaning

-- what a call calls
abbrev pub callee_of : Walk → Word → Callee
callee_of w n = callee_by w n (found w.scope.names n.text)

abbrev pub result_or_nothing : Option Ty → Gives
result_or_nothing None = gives.Nothing
result_or_nothing (Some t) = gives.Result t

-- a call of function f by its arguments; calls are numbered by their places in the text
abbrev pub user_called : Walk → Word → ℕ → Signature → List Arg → ℕ → Checked (List Made) → Judged Called
user_called w n f g args close cs =
    unless_broken (record { call = made.User w.calls f cs.made n.at; gives = result_or_nothing g.result; at = n.at })
    (miscounted cs.faults (length g.params) (length args) close)

-- a call that is refused whatever its arguments are
abbrev pub refused_call : Scope → Fault → List Arg → Judged Called
refused_call s f args = Broken (f ∷ (arguments s [] args).faults)

abbrev pub user_declared : Walk → Word → ℕ → List Arg → ℕ → Option Signature → Judged Called
user_declared w n f args close None = refused_call w.scope (fault rule.Unknown n.at) args
user_declared w n f args close (Some g) = user_called w n f g args close (arguments w.scope g.params args)

abbrev pub user_by : Walk → Word → List Arg → ℕ → Callee → Judged Called
user_by w n args close (callee.Refused f) = refused_call w.scope f args
user_by w n args close (callee.Defined f k) = user_declared w n f args close (slice_get w.signatures k)

abbrev pub user_call : Walk → Word → List Arg → ℕ → Judged Called
user_call w n args close = user_by w n args close (callee_of w n)

-- a good call takes the next number
abbrev pub counted : Judged Called → Walk → Walk
counted (Typed c) w = record w { calls = w.calls + 1 }
counted (Broken fs) w = w

-- sizes

-- Wrong 14: the size of a struct without a body so far
abbrev pub struct_row_measured : ℕ → ℕ → Option ℕ → Judged Measured
struct_row_measured n at None = breaks rule.NoBody at
struct_row_measured n at (Some body) = Typed (measured.Struct n)

abbrev pub row_measured : ℕ → ℕ → Option StructRow → Judged Measured
row_measured n at None = breaks rule.NoBody at
row_measured n at (Some row) = struct_row_measured n at row.body

abbrev pub struct_measured : Scope → ℕ → ℕ → Judged Measured
struct_measured s at n = row_measured n at (slice_get s.structs n)

-- Wrong 4: a size of what has none that can be asked for
abbrev pub type_measured : Scope → ℕ → ℕ → BaseType → Judged Measured
type_measured s at stars (type.Bad f) = Broken (f ∷ [])
type_measured s at stars type.Void = breaks rule.Operands at
type_measured s at stars type.Int = if stars == 0 then Typed measured.Int else breaks rule.Operands at
type_measured s at stars (type.Struct n) = if stars == 0 then struct_measured s at n else breaks rule.Operands at

-- Wrong 4: `sizeof *x` where x is no pointer
abbrev pub target_measured : Scope → ℕ → Sort → Judged Measured
target_measured s at (Of ty.IntPtr) = Typed measured.Int
target_measured s at (Of (ty.StructPtr n)) = struct_measured s at n
target_measured s at (Of ty.Int) = breaks rule.Operands at
target_measured s at AnyPointer = breaks rule.Operands at

-- what `sizeof` is asked of, by the offset of the word
abbrev pub unit_measured : MeasuredUnit → ℕ → Scope → Scope × Judged Measured
unit_measured (unit.Of d) at s = let r = based d.base s in (r.0, type_measured r.0 at d.stars r.1)
unit_measured (unit.Star x) at s = (s, of_one (λ v. target_measured s at v.sort) (variable s x))

-- requests

abbrev pub request : MadeSize → Ty → Option Ty → ℕ → Judged Called
request size t cast at =
    Typed (record { call = made.Malloc size at; gives = gives.Requested (record { points = t; cast = cast; at = at }); at = at })

abbrev pub request_one : Option Ty → ℕ → Measured → Judged Called
request_one cast at measured.Int = request (size.Ints None) ty.IntPtr cast at
request_one cast at (measured.Struct n) = request (size.Fields n) (ty.StructPtr n) cast at

-- Wrong 8: a count needs the unit `int`, and is an `int`
abbrev pub request_many : Option Ty → ℕ → Measured → Value → Judged Called
request_many cast at measured.Int v = if is_int v.sort then request (size.Ints (Some v.expr)) ty.IntPtr cast at else breaks rule.Request at
request_many cast at (measured.Struct n) v = breaks rule.Request at

abbrev pub request_of : Scope → Option Ty → ℕ → Judged Measured → Option Expr → Judged Called
request_of s cast at u None = of_one (request_one cast at) u
request_of s cast at u (Some e) = of_two (request_many cast at) u (judged s e false)

-- a part behind another one that may break rules
abbrev pub behind : {A : Type 0} → List Fault → Judged A → Judged A
behind [] j = j
behind (f ∷ fs) j = Broken (f ∷ fs ++ faults_of j)

abbrev pub cast_type : Written → Checked (Option Ty)
cast_type (Good t) = checked (Some t) []
cast_type (Bad f) = checked None (f ∷ [])

-- a cast before `malloc` names the type of the pointer
abbrev pub cast_of : Option Spec → Scope → Scope × Checked (Option Ty)
cast_of None s = (s, checked None [])
cast_of (Some d) s = let r = spec_type d s in (r.0, cast_type r.1)

abbrev pub request_behind : Checked (Option Ty) → Size → ℕ → Scope → Scope × Judged Called
request_behind cast size at s =
    let r = unit_measured size.unit size.at s in (r.0, behind cast.faults (request_of r.0 cast.made at r.1 size.count))

abbrev pub requested : Option Spec → Size → ℕ → Scope → Scope × Judged Called
requested cast size at s = let r = cast_of cast s in request_behind r.1 size at r.0

-- printing

-- a byte of the text of a `printf`: a `%` is followed by `d` or `%`
abbrev pub next_directive : Directives → ℕ → Directives
next_directive (asked.Plain n) c = if c == 37 then asked.Open n else asked.Plain n
next_directive (asked.Open n) c = if c == 100 then asked.Plain (n + 1) else if c == 37 then asked.Plain n else asked.Other
next_directive asked.Other c = asked.Other

abbrev pub asked_for : Directives → Option ℕ
asked_for (asked.Plain n) = Some n
asked_for (asked.Open n) = None
asked_for asked.Other = None

-- how many values a text asks for, where it has no other directive
abbrev pub directives : List ℕ → Option ℕ
directives text = asked_for (fold next_directive (asked.Plain 0) text)

abbrev pub word_call : MadeCall → ℕ → List Fault → Judged Called
word_call c at fs = unless_broken (record { call = c; gives = gives.Nothing; at = at }) fs

abbrev pub printed_args : List ℕ → ℕ → ℕ → ℕ → ℕ → Checked (List Made) → Judged Called
printed_args text at close wanted given cs = word_call (made.Printf text cs.made at) at (miscounted cs.faults wanted given close)

-- Wrong 7: a text of `printf` with another directive
abbrev pub printed_by : Scope → List ℕ → ℕ → List Arg → ℕ → ℕ → Option ℕ → Judged Called
printed_by s text text_at args at close None = refused_call s (fault rule.Directive text_at) args
printed_by s text text_at args at close (Some n) = printed_args text at close n (length args) (arguments s (replicate n ty.Int) args)

abbrev pub printed : Scope → List ℕ → ℕ → List Arg → ℕ → ℕ → Judged Called
printed s text text_at args at close = printed_by s text text_at args at close (directives text)

abbrev pub put_char : ℕ → Checked Made → Judged Called
put_char at c = word_call (made.Putchar c.made at) at c.faults

-- calls

abbrev pub walked_call : Call → Walk → Walk × Judged Called
walked_call (call.User n args close) w = let c = user_call w n args close in (counted c w, c)
walked_call (call.Malloc cast size at) w = in_scope (requested cast size at) w
walked_call (call.Getchar at) w = (w, Typed (record { call = made.Getchar at; gives = gives.Result ty.Int; at = at }))
walked_call (call.Putchar a at) w = (w, put_char at (argument w.scope (Some ty.Int) a))
walked_call (call.Printf text text_at args at close) w = (w, printed w.scope text text_at args at close)
