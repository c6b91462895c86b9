-- Statements behind a walk without offsets.
use Rattle.std.proofs.Common.{◌≡◌, ℕ, ◌+◌, ◌||◌, Bool, true, false, [], ◌++◌, length, map, Option, Some, None, option_map, if◌then◌else◌, refl, sym, ap, ◌∙◌}
use Rattle.std.proofs.lemmas.List.{length-map, map-append}
use Rattle.c_tree.specs.Alike.{bare_call, bare_declr, bare_expr, bare_free, bare_gap, bare_head, bare_right, bare_simple, bare_start, bare_var}
use Rattle.c_tree.specs.AlikeTest.{same_ty}
use Rattle.c_tree.specs.declared.expr.Expr.{Expr as Made}
use Rattle.c_tree.specs.declared.expr.Op.{Op}
use Rattle.c_tree.specs.declared.expr.Op.TheVariants as op
use Rattle.c_tree.specs.declared.program.Call.{Call as MadeCall}
use Rattle.c_tree.specs.declared.program.Call.TheVariants as made
use Rattle.c_tree.specs.declared.program.ForHead.{ForHead as MadeHead}
use Rattle.c_tree.specs.declared.program.Home.TheVariants as home
use Rattle.c_tree.specs.declared.program.Right.TheVariants as made_right
use Rattle.c_tree.specs.declared.program.Simple.{Simple as MadeSimple}
use Rattle.c_tree.specs.declared.program.Start.TheVariants as start_made
use Rattle.c_tree.specs.declared.program.Ty.{Ty}
use Rattle.c_tree.specs.declared.tree.Declr.{Declr}
use Rattle.c_tree.specs.declared.tree.Expr.{Expr}
use Rattle.c_tree.specs.declared.tree.ForHead.{ForHead}
use Rattle.c_tree.specs.declared.tree.Free.{Free}
use Rattle.c_tree.specs.declared.tree.Gap.{Gap}
use Rattle.c_tree.specs.declared.tree.Right.{Right}
use Rattle.c_tree.specs.declared.tree.Right.TheVariants as right
use Rattle.c_tree.specs.declared.tree.Simple.{Simple}
use Rattle.c_tree.specs.declared.tree.Start.{Start}
use Rattle.c_tree.specs.declared.tree.Start.TheVariants as start
use Rattle.c_parser.specs.Alike.{moved_declr, moved_expr, moved_for_head, moved_free, moved_gap, moved_right, moved_simple, moved_spec, moved_start}
use Rattle.c_parser.proofs.PrintedStatements.{none_at}
use Rattle.c_types.specs.declared.faults.Rule.TheVariants as rule
use Rattle.c_types.specs.declared.judged.Checked.{Checked}
use Rattle.c_types.specs.declared.judged.Gives.{Gives}
use Rattle.c_types.specs.declared.judged.Gives.TheVariants as gives
use Rattle.c_types.specs.declared.judged.Judged.{Judged}
use Rattle.c_types.specs.declared.judged.Judged.TheVariants.{Typed, Broken}
use Rattle.c_types.specs.declared.judged.RightValue.{RightValue}
use Rattle.c_types.specs.declared.judged.RightValue.TheVariants as value
use Rattle.c_types.specs.declared.judged.Sort.{Sort}
use Rattle.c_types.specs.declared.judged.Sort.TheVariants.{Of, AnyPointer}
use Rattle.c_types.specs.declared.judged.Value.{Value}
use Rattle.c_types.specs.declared.scope.Nesting.{Nesting}
use Rattle.c_types.specs.declared.scope.Walk.{Walk}
use Rattle.c_types.specs.declared.scope.Written.{Written}
use Rattle.c_types.specs.declared.scope.Written.TheVariants.{Good, Bad}
use Rattle.c_types.specs.Blocks.{free_by, free_of, freed, gap_by, head_behind, test_of, walked_free, walked_gap, walked_head, walked_start, walked_test}
use Rattle.c_types.specs.Calls.{walked_call}
use Rattle.c_types.specs.Expressions.{judged}
use Rattle.c_types.specs.Fits.{as_pointer, fits, is_int, is_zero, misfits, points, request_fits, right_for, right_of, unless}
use Rattle.c_types.specs.InTurn.{each, optional}
use Rattle.c_types.specs.Judged.{checked, faults_of, joint_faults, of_one, or_null, or_null_right}
use Rattle.c_types.specs.Scopes.{declared}
use Rattle.c_types.specs.Statements.{assign_faults, assigned, call_target, call_value, change_faults, declr_behind, initial, is_place, is_plain_int, is_variable, loose_target, noting, plain_value, put_faults, right_at, typed_faults, value_of_call, walked_declr, walked_initial, walked_right, walked_simple}
use Rattle.source_patcher.proofs.Offsets.{bare_checked, bare_fault, bare_is_variable, bare_judged, bare_null, bare_place, bare_pointer, bare_value, bare_written, bare_zero, fits_bare, judged_bare, one_bare, unless_bare}
use Rattle.source_patcher.proofs.OffsetsCalls.{bare_called, bare_request, call_bare, converted_bare, faults_bare, null_bare}
use Rattle.source_patcher.proofs.OffsetsScopes.{IsBare, bare_nesting, bare_pair, bare_walk, declared_bare, each_bare, noted_as, optional_bare}

-- right sides

abbrev pub bare_right_value : RightValue → RightValue
bare_right_value (value.Plain v) = value.Plain (bare_value v)
bare_right_value (value.Result c t) = value.Result (bare_call c) t
bare_right_value (value.Requested c r) = value.Requested (bare_call c) (bare_request r)

call_case : (c : MadeCall) (at : ℕ) (g : Gives) → call_value (bare_call c) 0 (bare_called (record { call = c; gives = g; at = at })).gives ≡ bare_judged bare_right_value (call_value c at g)
call_case c at gives.Nothing = refl
call_case c at (gives.Result t) = refl
call_case c at (gives.Requested r) = refl

pub right_bare : (r : Right) → IsBare (bare_judged bare_right_value) (walked_right (moved_right none_at r)) (walked_right r)
right_bare (right.Plain a) w =
    ap (λ j. (bare_walk w, j)) (one_bare bare_value bare_right_value plain_value plain_value (λ v. refl) (judged (bare_walk w).scope (moved_expr none_at a.expr) false) (judged w.scope a.expr false) (judged_bare w.scope a.expr false))
right_bare (right.Call c) w =
    let r = walked_call c w in
    ap (λ q. (q.0, of_one value_of_call q.1)) (call_bare c w)
    ∙ ap (λ j. (bare_walk r.0, j)) (one_bare bare_called bare_right_value value_of_call value_of_call (λ d. call_case d.call d.at d.gives) (bare_judged bare_called r.1) r.1 refl)

pub right_for_bare : (t : Ty) (r : RightValue) → right_for t (bare_right_value r) ≡ bare_right (right_for t r)
right_for_bare t (value.Plain v) = ap (λ e. made_right.Plain e) (converted_bare t v.expr)
right_for_bare t (value.Result c u) = refl
right_for_bare t (value.Requested c r) = refl

pub right_of_bare : (r : RightValue) → right_of (bare_right_value r) ≡ bare_right (right_of r)
right_of_bare (value.Plain v) = refl
right_of_bare (value.Result c u) = refl
right_of_bare (value.Requested c r) = refl

null_right_bare : (j : Judged RightValue) → or_null_right (bare_judged bare_right_value j) ≡ bare_right (or_null_right j)
null_right_bare (Typed r) = right_of_bare r
null_right_bare (Broken fs) = ap (λ e. made_right.Plain e) (bare_null 0)

pub misfits_bare : (t : Ty) (at : ℕ) (r : RightValue) → misfits t 0 (bare_right_value r) ≡ map bare_fault (misfits t at r)
misfits_bare t at (value.Plain v) = ap (λ b. unless b rule.TypesDiffer 0) (fits_bare t v) ∙ unless_bare (fits t v) rule.TypesDiffer at
misfits_bare t at (value.Result c u) = unless_bare (same_ty t u) rule.TypesDiffer at
misfits_bare t at (value.Requested c r) = unless_bare (request_fits t r) rule.Request r.at

-- assignments

loose_bare : (b : Bool) (at : ℕ) (c : MadeCall) → loose_target b 0 (bare_call c) ≡ map bare_fault (loose_target b at c)
loose_bare b at (made.User n f args offset) = unless_bare b rule.CallTarget at
loose_bare b at (made.Malloc size offset) = refl
loose_bare b at (made.Getchar offset) = refl
loose_bare b at (made.Putchar e offset) = refl
loose_bare b at (made.Printf text args offset) = refl

target_bare : (b : Bool) (at : ℕ) (r : RightValue) → call_target b 0 (bare_right_value r) ≡ map bare_fault (call_target b at r)
target_bare b at (value.Plain v) = refl
target_bare b at (value.Result c t) = loose_bare b at c
target_bare b at (value.Requested c r) = refl

plain_int_bare : (r : RightValue) → is_plain_int (bare_right_value r) ≡ is_plain_int r
plain_int_bare (value.Plain v) = refl
plain_int_bare (value.Result c t) = refl
plain_int_bare (value.Requested c r) = refl

change_bare : (s : Sort) (at : ℕ) (r : RightValue) → change_faults s 0 (bare_right_value r) ≡ map bare_fault (change_faults s at r)
change_bare s at r = ap (λ b. unless (if is_int s then b else false) rule.Operands 0) (plain_int_bare r) ∙ unless_bare (if is_int s then is_plain_int r else false) rule.Operands at

put_bare : (p : Value) (at : ℕ) (s : Sort) (r : RightValue) → put_faults (bare_value p) 0 s (bare_right_value r) ≡ map bare_fault (put_faults p at s r)
put_bare p at (Of t) r =
    ap (λ fs. fs ++ call_target (is_variable (bare_expr p.expr)) 0 (bare_right_value r)) (misfits_bare t at r)
    ∙ ap (λ b. map bare_fault (misfits t at r) ++ call_target b 0 (bare_right_value r)) (bare_is_variable p.expr)
    ∙ ap (λ fs. map bare_fault (misfits t at r) ++ fs) (target_bare (is_variable p.expr) at r)
    ∙ sym (map-append bare_fault (misfits t at r) (call_target (is_variable p.expr) at r))
put_bare p at AnyPointer r = refl

assign_bare : (o : Op) (p : Value) (at : ℕ) (r : RightValue) → assign_faults o (bare_value p) 0 (bare_right_value r) ≡ map bare_fault (assign_faults o p at r)
assign_bare op.Put p at r = put_bare p at p.sort r
assign_bare op.Add p at r = change_bare p.sort at r
assign_bare op.Sub p at r = change_bare p.sort at r
assign_bare op.Mul p at r = change_bare p.sort at r

right_at_bare : (s : Sort) (r : RightValue) → right_at s (bare_right_value r) ≡ bare_right (right_at s r)
right_at_bare (Of t) r = right_for_bare t r
right_at_bare AnyPointer r = right_of_bare r

typed_bare : (s : Simple) (p : Value) (r : RightValue) → typed_faults (moved_simple none_at s) (bare_value p) (bare_right_value r) ≡ map bare_fault (typed_faults s p r)
typed_bare s p r =
    let here = unless (is_place p.expr) rule.NoPlace s.place.at in
    ap (λ b. unless b rule.NoPlace 0 ++ assign_faults s.op (bare_value p) 0 (bare_right_value r)) (bare_place p.expr)
    ∙ ap (λ fs. fs ++ assign_faults s.op (bare_value p) 0 (bare_right_value r)) (unless_bare (is_place p.expr) rule.NoPlace s.place.at)
    ∙ ap (λ fs. map bare_fault here ++ fs) (assign_bare s.op p s.at r)
    ∙ sym (map-append bare_fault here (assign_faults s.op p s.at r))

joint_bare : {A B : Type 0} (f : A → A) (g : B → B) (j : Judged A) (k : Judged B) → joint_faults (bare_judged f j) (bare_judged g k) ≡ map bare_fault (joint_faults j k)
joint_bare f g (Typed a) k = faults_bare g k
joint_bare f g (Broken fs) (Typed b) = refl
joint_bare f g (Broken fs) (Broken gs) = sym (map-append bare_fault fs gs)

-- two parts that may be broken
broken_bare : (s : Simple) (p : Judged Value) (r : Judged RightValue)
    → checked (record { place = or_null (bare_judged bare_value p); op = s.op; right = or_null_right (bare_judged bare_right_value r); at = 0 }) (joint_faults (bare_judged bare_value p) (bare_judged bare_right_value r))
    ≡ bare_checked bare_simple (checked (record { place = or_null p; op = s.op; right = or_null_right r; at = s.at }) (joint_faults p r))
broken_bare s p r =
    let fs = joint_faults (bare_judged bare_value p) (bare_judged bare_right_value r) in
    ap (λ e. checked (record { place = e; op = s.op; right = or_null_right (bare_judged bare_right_value r); at = 0 }) fs) (null_bare p)
    ∙ ap (λ x. checked (record { place = bare_expr (or_null p); op = s.op; right = x; at = 0 }) fs) (null_right_bare r)
    ∙ ap (λ gs. checked (record { place = bare_expr (or_null p); op = s.op; right = bare_right (or_null_right r); at = 0 }) gs) (joint_bare bare_value bare_right_value p r)

assigned_bare : (s : Simple) (p : Judged Value) (r : Judged RightValue) → assigned (moved_simple none_at s) (bare_judged bare_value p) (bare_judged bare_right_value r) ≡ bare_checked bare_simple (assigned s p r)
assigned_bare s (Typed p) (Typed r) =
    ap (λ x. checked (record { place = bare_expr p.expr; op = s.op; right = x; at = 0 }) (typed_faults (moved_simple none_at s) (bare_value p) (bare_right_value r))) (right_at_bare p.sort r)
    ∙ ap (λ fs. checked (record { place = bare_expr p.expr; op = s.op; right = bare_right (right_at p.sort r); at = 0 }) fs) (typed_bare s p r)
assigned_bare s (Typed p) (Broken gs) = broken_bare s (Typed p) (Broken gs)
assigned_bare s (Broken fs) (Typed r) = broken_bare s (Broken fs) (Typed r)
assigned_bare s (Broken fs) (Broken gs) = broken_bare s (Broken fs) (Broken gs)

pub noting_bare : {A : Type 0} (f : A → A) (w : Walk) (c d : Checked A) → d ≡ bare_checked f c → noting (bare_walk w) d ≡ bare_pair bare_walk f (noting w c)
noting_bare f w c d is = ap (noting (bare_walk w)) is ∙ ap (λ v. (v, f c.made)) (noted_as (map bare_fault c.faults) c.faults w refl)

pub simple_bare : (s : Simple) → IsBare bare_simple (walked_simple (moved_simple none_at s)) (walked_simple s)
simple_bare s w =
    let r = walked_right s.right w in
    let p = judged w.scope s.place.expr false in
    ap (λ q. noting q.0 (assigned (moved_simple none_at s) (judged (bare_walk w).scope (moved_expr none_at s.place.expr) false) q.1)) (right_bare s.right w)
    ∙ noting_bare bare_simple r.0 (assigned s p r.1) (assigned (moved_simple none_at s) (judged (bare_walk w).scope (moved_expr none_at s.place.expr) false) (bare_judged bare_right_value r.1))
    (ap (λ j. assigned (moved_simple none_at s) j (bare_judged bare_right_value r.1)) (judged_bare w.scope s.place.expr false) ∙ assigned_bare s p r.1)

-- declarations

initial_case : (t : Written) (at : ℕ) (j : Judged RightValue) → initial (bare_written t) 0 (bare_judged bare_right_value j) ≡ bare_checked bare_right (initial t at j)
initial_case (Good t) at (Broken fs) = ap (λ e. checked (made_right.Plain e) (map bare_fault fs)) (bare_null 0)
initial_case (Bad f) at (Broken fs) = ap (λ e. checked (made_right.Plain e) (map bare_fault fs)) (bare_null 0)
initial_case (Good t) at (Typed r) = ap (λ x. checked x (misfits t 0 (bare_right_value r))) (right_for_bare t r) ∙ ap (checked (bare_right (right_for t r))) (misfits_bare t at r)
initial_case (Bad f) at (Typed r) = ap (λ x. checked x []) (right_of_bare r)

initial_bare : (t : Written) (at : ℕ) (o : Option Right) → IsBare (option_map bare_right) (walked_initial (bare_written t) 0 (option_map (moved_right none_at) o)) (walked_initial t at o)
initial_bare t at None w = refl
initial_bare t at (Some r) w =
    let v = walked_right r w in
    ap (λ q. let c = noting q.0 (initial (bare_written t) 0 q.1) in (c.0, Some c.1)) (right_bare r w)
    ∙ ap (λ c. (c.0, Some c.1)) (noting_bare bare_right v.0 (initial t at v.1) (initial (bare_written t) 0 (bare_judged bare_right_value v.1)) (initial_case t at v.1))

pub declr_bare : (n : Nesting) (d : Declr) → IsBare bare_declr (walked_declr (bare_nesting n) (moved_declr none_at d)) (walked_declr n d)
declr_bare n d w =
    let m = moved_declr none_at d in
    let v = declared d.spec (home.Local n.function) n.depth w in
    ap (λ k. declr_behind m k (declared (moved_spec none_at d.spec) (home.Local n.function) n.depth (bare_walk w))) (length-map w.vars bare_var)
    ∙ ap (declr_behind m (length w.vars)) (declared_bare d.spec (home.Local n.function) n.depth w)
    ∙ ap (λ q. (q.0, record { var = length w.vars; right = q.1; at = 0 })) (initial_bare v.1 d.at d.right v.0)

-- gaps and conditions

freed_case : (at : ℕ) (j : Judged Value) → freed 0 (bare_judged bare_value j) ≡ bare_checked bare_expr (freed at j)
freed_case at (Typed v) =
    ap (λ e. checked e (unless (points v.sort || is_zero (bare_expr v.expr)) rule.Operands 0)) (bare_pointer v.expr)
    ∙ ap (λ z. checked (bare_expr (as_pointer v.expr)) (unless (points v.sort || z) rule.Operands 0)) (bare_zero v.expr)
    ∙ ap (checked (bare_expr (as_pointer v.expr))) (unless_bare (points v.sort || is_zero v.expr) rule.Operands at)
freed_case at (Broken fs) = ap (λ e. checked e (map bare_fault fs)) (bare_null 0)

pub free_bare : (f : Free) → IsBare bare_free (walked_free (moved_free none_at f)) (walked_free f)
free_bare f w =
    let j = judged w.scope f.expr.expr false in
    noting_bare bare_free w (free_of w.scope f) (free_of (bare_walk w).scope (moved_free none_at f))
    (ap (λ k. free_by (moved_free none_at f) (freed 0 k)) (judged_bare w.scope f.expr.expr false) ∙ ap (free_by (moved_free none_at f)) (freed_case f.start j))

pub gap_bare : (g : Gap) → IsBare bare_gap (walked_gap (moved_gap none_at g)) (walked_gap g)
gap_bare g w = ap (gap_by w.gaps) (each_bare bare_walk (moved_free none_at) bare_free walked_free walked_free free_bare g.frees (record w { gaps = w.gaps + 1 }))

test_case : (j : Judged Value) → test_of (bare_judged bare_value j) ≡ bare_checked bare_expr (test_of j)
test_case j = ap (λ e. checked e (faults_of (bare_judged bare_value j))) (null_bare j) ∙ ap (checked (bare_expr (or_null j))) (faults_bare bare_value j)

pub test_bare : (e : Expr) → IsBare bare_expr (walked_test (moved_expr none_at e)) (walked_test e)
test_bare e w =
    let j = judged w.scope e true in
    noting_bare bare_expr w (test_of j) (test_of (judged (bare_walk w).scope (moved_expr none_at e) true)) (ap test_of (judged_bare w.scope e true) ∙ test_case j)

start_bare : (n : Nesting) (s : Start) → IsBare bare_start (walked_start (bare_nesting n) (moved_start none_at s)) (walked_start n s)
start_bare n (start.Declare d) w = ap (λ q. (q.0, start_made.Declare q.1)) (declr_bare n d w)
start_bare n (start.Assign s) w = ap (λ q. (q.0, start_made.Assign q.1)) (simple_bare s w)

pub head_bare : (n : Nesting) (h : ForHead) → IsBare bare_head (walked_head (bare_nesting n) (moved_for_head none_at h)) (walked_head n h)
head_bare n h w =
    let r = each (walked_start n) h.start w in
    let t = optional walked_test h.test r.0 in
    let made : Walk × Option Made → Walk × Option MadeSimple → Walk × MadeHead = λ t' s. (s.0, record { start = map bare_start r.1; test = t'.1; step = s.1 }) in
    ap (head_behind (moved_for_head none_at h)) (each_bare bare_walk (moved_start none_at) bare_start (walked_start (bare_nesting n)) (walked_start n) (start_bare n) h.start w)
    ∙ ap (λ t'. made t' (optional walked_simple (option_map (moved_simple none_at) h.step) t'.0)) (optional_bare bare_walk (moved_expr none_at) bare_expr walked_test walked_test test_bare h.test r.0)
    ∙ ap (made (bare_pair bare_walk (option_map bare_expr) t)) (optional_bare bare_walk (moved_simple none_at) bare_simple walked_simple walked_simple simple_bare h.step t.0)
