-- The instructions at the places of a block of right types have right types themselves.
use Rattle.std.proofs.Common.{◌≡◌, ℕ, zero, suc, ◌==◌, ◌&&◌, Bool, true, false, List, [], ◌∷◌, ◌++◌, map, slice_get, length, Option, Some, None, option_map, option_and_then, refl, ap, sym, subst, ◌∙◌}
use Rattle.std.specs.Prelude.{not, pos, if◌then◌else◌}
use Rattle.std.specs.List.{list_all}
use Rattle.std.specs.Option.{is_some}
use Rattle.std.proofs.lemmas.Bool.{and_parts, eq-eqb}
use Rattle.c_tree.specs.AlikeTest.{same_ty}
use Rattle.c_tree.specs.Typing.{Declarations, Prototype, has, if_any, var_type, Sort, Of, AnyPointer, goes_into, Judged, judged, judged_layer, sort_of, is_condition, call_type, result_of, call_fits, user_call_fits, arguments_fit, size_fits, gives_int, directives, right_fits, value_fits, declr_fits, is_place, place_takes, assigned_fits, type_of, simple_fits, start_fits, head_fits, return_fits, item_fits, arm_fits, all_items, its_item, block_fits}
use Rattle.c_tree.specs.declared.expr.Expr.{Expr, Expr-F, out-Expr, map-Expr, fold_out-Expr}
use Rattle.c_tree.specs.declared.expr.Expr.TheOpen as layer
use Rattle.c_tree.specs.declared.expr.Expr.TheVariants as expr
use Rattle.c_tree.specs.declared.expr.Op.{Op}
use Rattle.c_tree.specs.declared.expr.Op.TheVariants as op
use Rattle.c_tree.specs.declared.expr.Oper.TheVariants as oper
use Rattle.c_tree.specs.declared.expr.Sign.TheVariants as sign
use Rattle.c_tree.specs.declared.program.Arm.{Arm, fold_out-Arm}
use Rattle.c_tree.specs.declared.program.Block.{Block, out-Block}
use Rattle.c_tree.specs.declared.program.Call.{Call}
use Rattle.c_tree.specs.declared.program.Call.TheVariants as call
use Rattle.c_tree.specs.declared.program.Declr.{Declr}
use Rattle.c_tree.specs.declared.program.Item.{Item, Item-F}
use Rattle.c_tree.specs.declared.program.Item.TheOpen.{Declare, Assign, Do, Nest, If, While, For, Break, Continue, Return}
use Rattle.c_tree.specs.declared.program.Piece.{Piece}
use Rattle.c_tree.specs.declared.program.Right.{Right}
use Rattle.c_tree.specs.declared.program.Right.TheVariants as right
use Rattle.c_tree.specs.declared.program.Simple.{Simple}
use Rattle.c_tree.specs.declared.program.Size.{Size}
use Rattle.c_tree.specs.declared.program.Size.TheVariants as size
use Rattle.c_tree.specs.declared.program.Start.{Start}
use Rattle.c_tree.specs.declared.program.Start.TheVariants as start
use Rattle.c_tree.specs.declared.program.Ty.{Ty}
use Rattle.c_tree.specs.declared.program.Ty.TheVariants as ty
use Rattle.c_meaning.specs.Parts.{Instruction, Invoke, Part, One, Row, Condition, Within, variable_of, target_of, called, put_call, assigned, declared, started, returned, condition_of, last_row, arm_parts, parts}
use Rattle.c_meaning.specs.Parts as instruction
use Rattle.c_meaning.specs.Place.{Spot, AtGap, AtAction, Nowhere, operand, atomic, test_at, arm_test, arm_body, item_at, part_of, gap_at, instruction_spot, row_spot, test_spot, spot_in, spot_of}
use Rattle.c_graph.specs.Actions.{action_of}
use Rattle.c_graph.proofs.WholeParts.{arm_right, right_layer, item_is_right}
use Rattle.ts_domain.specs.TypedGraphs.{answer_fits, count_fits, action_fits}
use Rattle.ts_domain.specs.Views.{size_type}
use Rattle.ts_domain.proofs.Expressions.{has_some}
use Rattle.ts_domain.proofs.PlaceWrites.{same_type}

alike : (t : Ty) → same_ty t t ≡ true
alike ty.Int = refl
alike ty.IntPtr = refl
alike (ty.StructPtr s) = eq-eqb s s refl

module _ (d : Declarations) (result : Option Ty) where
  -- what a return gives fits the result, and what a call gives the variable that gets it
  abbrev pub GivesRight : Instruction → Type 0
  GivesRight (instruction.Return None offset) = Unit {0}
  GivesRight (instruction.Return (Some e) offset) = has (λ t. has (goes_into t) (sort_of d e)) result ≡ true
  GivesRight (instruction.Invoke number callee es None) = Unit {0}
  GivesRight (instruction.Invoke number callee es (Some x)) = (t : Ty) × (var_type d x ≡ Some t) × (result_of d callee ≡ Some t)
  GivesRight (instruction.Unset x) = Unit {0}
  GivesRight (instruction.Assign place o e offset) = Unit {0}
  GivesRight (instruction.Malloc place z offset) = Unit {0}
  GivesRight (instruction.Getchar place) = Unit {0}
  GivesRight (instruction.Putchar e) = Unit {0}
  GivesRight (instruction.Printf text es) = Unit {0}
  GivesRight (instruction.Test e) = Unit {0}
  GivesRight (instruction.Close back offset) = Unit {0}

  abbrev pub IsRight : Instruction → Type 0
  IsRight i = (action_fits d (action_of i) ≡ true) × GivesRight i

  abbrev RightIf : Option Instruction → Type 0
  RightIf None = Unit {0}
  RightIf (Some i) = IsRight i

  data AllRight : List (Option Instruction) → Type 0 where
    none_right : AllRight []
    more_right : {a : Option Instruction} {row : List (Option Instruction)} → RightIf a → AllRight row → AllRight (a ∷ row)

  -- calls

  opened_sort : (e : Expr) (x : Expr-F Expr) → out-Expr e ≡ x → sort_of d e ≡ (judged_layer d (map-Expr Expr Judged (judged d) x)).value
  opened_sort e x is = ap (λ (j : Judged). j.value) (fold_out-Expr Judged (judged_layer d) e) ∙ ap (λ (z : Expr-F Expr). (judged_layer d (map-Expr Expr Judged (judged d) z)).value) is

  user_fits : (g : ℕ) (es : List Expr) (o : Option Prototype) → user_call_fits d g es o ≡ true → has (λ x. arguments_fit d x.params es) o ≡ true
  user_fits g es None h = absurd cc
  user_fits g es (Some f) h = (and_parts (not (g == d.main)) (arguments_fit d f.params es) h).1

  sizes_fit : (at : ℕ) (z : Size) → size_fits d at z ≡ true → count_fits d z ≡ true
  sizes_fit at (size.Fields s) h = refl
  sizes_fit at (size.Ints count) h = h

  called_alone : (c : Call) → call_fits d c ≡ true → RightIf (called None c)
  called_alone (call.User number g es at) h = (user_fits g es (slice_get d.funs g) h, tt)
  called_alone (call.Malloc z at) h = (sizes_fit at z h, tt)
  called_alone (call.Getchar at) h = (refl, tt)
  called_alone (call.Putchar e at) h = (h, tt)
  called_alone (call.Printf text es at) h = ((and_parts (list_all (gives_int d) es) (has (λ n. n == length es) (directives text)) h).0, tt)

  answered_right : (place : Expr) (t u : Ty) → sort_of d place ≡ Some (Of t) → same_ty t u ≡ true → answer_fits d u (Some place) ≡ true
  answered_right place t u is alike_types =
      ap (λ (o : Option Sort). has (same_ty u) (option_and_then type_of o)) is ∙ ap (λ (w : Ty). same_ty u w) (same_type t u alike_types) ∙ alike u

  both_true : (a b : Bool) → a ≡ true → b ≡ true → (a && b) ≡ true
  both_true a b h g = ap (λ (x : Bool). x && b) h ∙ g

  malloc_right : (place : Expr) (t : Ty) (z : Size) (at : ℕ) → sort_of d place ≡ Some (Of t) → size_fits d at z ≡ true → has (same_ty t) (call_type d (call.Malloc z at)) ≡ true → (answer_fits d (size_type z) (Some place) && count_fits d z) ≡ true
  malloc_right place t (size.Fields s) at is fits alike_types = both_true (answer_fits d (ty.StructPtr s) (Some place)) true (answered_right place t (ty.StructPtr s) is alike_types) refl
  malloc_right place t (size.Ints count) at is fits alike_types = both_true (answer_fits d ty.IntPtr (Some place)) (if_any (gives_int d) count) (answered_right place t ty.IntPtr is alike_types) fits

  -- a call of a user's function gives its result to a variable
  user_right : (x : Expr-F Expr) (place : Expr) (t : Ty) (number g : ℕ) (es : List Expr) (at : ℕ) → out-Expr place ≡ x → sort_of d place ≡ Some (Of t) → call_fits d (call.User number g es at) ≡ true → has (same_ty t) (result_of d g) ≡ true →
      RightIf (option_map (λ target. Invoke number g es target) (option_map (λ x. Some x) (variable_of x)))
  user_right (layer.Var x offset) place t number g es at opened is fits gives =
      let it = has_some (same_ty t) (result_of d g) gives in
      let sorts : option_map Of (var_type d x) ≡ Some (Of t) = sym (opened_sort place (layer.Var x offset) opened) ∙ is in
      (user_fits g es (slice_get d.funs g) fits, (t, var_is (var_type d x) sorts, it.1 ∙ ap (λ (u : Ty). Some u) (sym (same_type t it.0 it.2))))
    where
      var_is : (o : Option Ty) → option_map Of o ≡ Some (Of t) → o ≡ Some t
      var_is None h = absurd cc
      var_is (Some u) h = let same : u ≡ t = cc in ap (λ (w : Ty). Some w) same
  user_right _ place t number g es at opened is fits gives = tt

  called_in : (place : Expr) (t : Ty) (c : Call) → sort_of d place ≡ Some (Of t) → call_fits d c ≡ true → has (same_ty t) (call_type d c) ≡ true → RightIf (called (Some place) c)
  called_in place t (call.User number g es at) is fits gives = user_right (out-Expr place) place t number g es at refl is fits gives
  called_in place t (call.Malloc z at) is fits gives = (malloc_right place t z at is fits gives, tt)
  called_in place t (call.Getchar at) is fits gives = (answered_right place t ty.Int is gives, tt)
  called_in place t (call.Putchar e at) is fits gives = absurd cc
  called_in place t (call.Printf text es at) is fits gives = absurd cc

  call_parts : (takes : Call → Bool) (t : Ty) (c : Call) → right_fits d takes t (right.Call c) ≡ true → (call_fits d c ≡ true) × (has (same_ty t) (call_type d c) ≡ true)
  call_parts takes t c h =
      let both = and_parts (call_fits d c && has (same_ty t) (call_type d c)) (takes c) h in
      and_parts (call_fits d c) (has (same_ty t) (call_type d c)) both.0

  -- assignments

  var_sort : (x at : ℕ) → sort_of d (expr.Var x at) ≡ option_map Of (var_type d x)
  var_sort x at = opened_sort (expr.Var x at) (layer.Var x at) (expr.outs-Var x at)

  declared_right : (c : Declr) (r : Option Right) (o : Option Ty) → var_type d c.var ≡ o → has (λ t. if_any (value_fits d t) r) o ≡ true → RightIf (declared c r)
  declared_right c None o is h = (refl, tt)
  declared_right c (Some r) None is h = absurd cc
  declared_right c (Some (right.Plain e)) (Some t) is h =
      let s : Simple = record { place = expr.Var c.var c.at; op = op.Put; right = right.Plain e; at = c.at } in
      let place : is_place (out-Expr (expr.Var c.var c.at)) ≡ true = ap is_place (expr.outs-Var c.var c.at) in
      let sort : sort_of d (expr.Var c.var c.at) ≡ Some (Of t) = var_sort c.var c.at ∙ ap (option_map Of) is in (
        both_true (is_place (out-Expr (expr.Var c.var c.at))) (has (assigned_fits d s op.Put) (option_and_then type_of (sort_of d (expr.Var c.var c.at)))) place
            (ap (λ (o : Option Sort). has (assigned_fits d s op.Put) (option_and_then type_of o)) sort ∙ h),
        tt,
      )
  declared_right c (Some (right.Call k)) (Some t) is h =
      let both = call_parts (λ c. true) t k h in
      called_in (expr.Var c.var c.at) t k (var_sort c.var c.at ∙ ap (option_map Of) is) both.0 both.1

  put_right : (s : Simple) (o : Op) (c : Call) (g : Option Sort) → s.right ≡ right.Call c → sort_of d s.place ≡ g → has (assigned_fits d s o) (option_and_then type_of g) ≡ true → RightIf (put_call o s.place c)
  put_right s op.Put c None is sort h = absurd cc
  put_right s op.Put c (Some AnyPointer) is sort h = absurd cc
  put_right s op.Put c (Some (Of t)) is sort h =
      let both = call_parts (place_takes (out-Expr s.place)) t c (subst (λ (r : Right). right_fits d (place_takes (out-Expr s.place)) t r ≡ true) is h) in
      called_in s.place t c sort both.0 both.1
  put_right s op.Add c g is sort h = tt
  put_right s op.Sub c g is sort h = tt
  put_right s op.Mul c g is sort h = tt

  assigned_right : (s : Simple) (r : Right) → s.right ≡ r → simple_fits d s ≡ true → RightIf (assigned s r)
  assigned_right s (right.Plain e) is h = (subst (λ (r : Right). simple_fits d (record { place = s.place; op = s.op; right = r; at = s.at }) ≡ true) is h, tt)
  assigned_right s (right.Call c) is h =
      put_right s s.op c (sort_of d s.place) is refl (and_parts (is_place (out-Expr s.place)) (has (assigned_fits d s s.op) (option_and_then type_of (sort_of d s.place))) h).1

  started_right : (s : Start) → start_fits d s ≡ true → RightIf (started s)
  started_right (start.Declare c) h = declared_right c c.right (var_type d c.var) refl h
  started_right (start.Assign s) h = assigned_right s s.right refl h

  starts_right : (ss : List Start) → list_all (start_fits d) ss ≡ true → AllRight (map started ss)
  starts_right [] h = none_right
  starts_right (s ∷ ss) h = let both = and_parts (start_fits d s) (list_all (start_fits d) ss) h in more_right (started_right s both.0) (starts_right ss both.1)

  last_right : (s : Option Simple) → if_any (simple_fits d) s ≡ true → AllRight (last_row s)
  last_right None h = none_right
  last_right (Some s) h = more_right (assigned_right s s.right refl h) none_right

  declrs_right : (ds : List Declr) → list_all (declr_fits d) ds ≡ true → AllRight (map (λ c. declared c c.right) ds)
  declrs_right [] h = none_right
  declrs_right (c ∷ ds) h = let both = and_parts (declr_fits d c) (list_all (declr_fits d) ds) h in more_right (declared_right c c.right (var_type d c.var) refl both.0) (declrs_right ds both.1)

  -- tests

  abbrev TestRight : Option Expr → Type 0
  TestRight None = Unit {0}
  TestRight (Some e) = is_some (sort_of d e) ≡ true

  abbrev condition_at : Expr-F Expr → Bool
  condition_at x = (judged_layer d (map-Expr Expr Judged (judged d) x)).condition

  opened_condition : (e : Expr) → is_condition d e ≡ condition_at (out-Expr e)
  opened_condition e = ap (λ (j : Judged). j.condition) (fold_out-Expr Judged (judged_layer d) e)

  plain_test : (e : Expr) (x : Expr-F Expr) → out-Expr e ≡ x → condition_at x ≡ is_some (judged_layer d (map-Expr Expr Judged (judged d) x)).value → condition_at x ≡ true → is_some (sort_of d e) ≡ true
  plain_test e x is same h = ap is_some (opened_sort e x is) ∙ sym same ∙ h

  atomic_right : (e : Expr) (x : Expr-F Expr) → out-Expr e ≡ x → condition_at x ≡ true → TestRight (atomic e x)
  atomic_right e (layer.Const v at) is h = plain_test e (layer.Const v at) is refl h
  atomic_right e (layer.Null at) is h = plain_test e (layer.Null at) is refl h
  atomic_right e (layer.Var x at) is h = plain_test e (layer.Var x at) is refl h
  atomic_right e (layer.Field a f at) is h = plain_test e (layer.Field a f at) is refl h
  atomic_right e (layer.Deref a at) is h = plain_test e (layer.Deref a at) is refl h
  atomic_right e (layer.Index a i at) is h = plain_test e (layer.Index a i at) is refl h
  atomic_right e (layer.Unary sign.Not a at) is h = tt
  atomic_right e (layer.Unary sign.Minus a at) is h = plain_test e (layer.Unary sign.Minus a at) is refl h
  atomic_right e (layer.Binary oper.And a b at) is h = tt
  atomic_right e (layer.Binary oper.Or a b at) is h = tt
  atomic_right e (layer.Binary oper.Mul a b at) is h = plain_test e (layer.Binary oper.Mul a b at) is refl h
  atomic_right e (layer.Binary oper.Div a b at) is h = plain_test e (layer.Binary oper.Div a b at) is refl h
  atomic_right e (layer.Binary oper.Rem a b at) is h = plain_test e (layer.Binary oper.Rem a b at) is refl h
  atomic_right e (layer.Binary oper.Add a b at) is h = plain_test e (layer.Binary oper.Add a b at) is refl h
  atomic_right e (layer.Binary oper.Sub a b at) is h = plain_test e (layer.Binary oper.Sub a b at) is refl h
  atomic_right e (layer.Binary oper.Lt a b at) is h = plain_test e (layer.Binary oper.Lt a b at) is refl h
  atomic_right e (layer.Binary oper.Le a b at) is h = plain_test e (layer.Binary oper.Le a b at) is refl h
  atomic_right e (layer.Binary oper.Gt a b at) is h = plain_test e (layer.Binary oper.Gt a b at) is refl h
  atomic_right e (layer.Binary oper.Ge a b at) is h = plain_test e (layer.Binary oper.Ge a b at) is refl h
  atomic_right e (layer.Binary oper.Eq a b at) is h = plain_test e (layer.Binary oper.Eq a b at) is refl h
  atomic_right e (layer.Binary oper.Ne a b at) is h = plain_test e (layer.Binary oper.Ne a b at) is refl h

  abbrev OperandRight : Option Expr → Type 0
  OperandRight None = Unit {0}
  OperandRight (Some e) = is_condition d e ≡ true

  operand_right : (k : ℕ) (x : Expr-F Expr) → condition_at x ≡ true → OperandRight (operand k x)
  operand_right zero (layer.Unary sign.Not a at) h = h
  operand_right zero (layer.Binary oper.And a b at) h = (and_parts (is_condition d a) (is_condition d b) h).0
  operand_right (suc zero) (layer.Binary oper.And a b at) h = (and_parts (is_condition d a) (is_condition d b) h).1
  operand_right zero (layer.Binary oper.Or a b at) h = (and_parts (is_condition d a) (is_condition d b) h).0
  operand_right (suc zero) (layer.Binary oper.Or a b at) h = (and_parts (is_condition d a) (is_condition d b) h).1
  operand_right _ _ h = tt

  test_right : (path : List ℕ) (e : Expr) → is_condition d e ≡ true → TestRight (test_at path e)
  test_right [] e h = atomic_right e (out-Expr e) refl (sym (opened_condition e) ∙ h)
  test_right (k ∷ path) e h = by_operand (operand k (out-Expr e)) (operand_right k (out-Expr e) (sym (opened_condition e) ∙ h)) (test_right path)
    where
      by_operand : (o : Option Expr) → OperandRight o → ((a : Expr) → is_condition d a ≡ true → TestRight (test_at path a)) → TestRight (option_and_then (test_at path) o)
      by_operand None h below = tt
      by_operand (Some a) h below = below a h

  -- parts

  data PartRight : Part Block → Type 0 where
    one : {a : Option Instruction} → RightIf a → PartRight (One a)
    row : {list : List (Option Instruction)} → AllRight list → PartRight (Row list)
    condition : {e : Expr} → is_condition d e ≡ true → PartRight (Condition e)
    within : {b : Block} → block_fits d result b ≡ true → PartRight (Within b)

  data PartsRight : List (Part Block) → Type 0 where
    none_there : PartsRight []
    more_there : {part : Part Block} {rest : List (Part Block)} → PartRight part → PartsRight rest → PartsRight (part ∷ rest)

  ones_right : {A : Type 0} (f : A → Option Instruction) (xs : List A) → AllRight (map f xs) → PartsRight (map (λ x. One (f x)) xs)
  ones_right f [] none_right = none_there
  ones_right f (x ∷ xs) (more_right h rest) = more_there (one h) (ones_right f xs rest)

  condition_right : (o : Option Expr) → if_any (is_condition d) o ≡ true → is_condition d (condition_of o) ≡ true
  condition_right None h = ap (λ (j : Judged). j.condition) (fold_out-Expr Judged (judged_layer d) (expr.Const (pos 1) 0)) ∙ ap (λ (z : Expr-F Expr). condition_at z) (expr.outs-Const (pos 1) 0)
  condition_right (Some e) h = h

  arm_opened : (a : Arm) → arm_right d result a ≡ true → (is_condition d (arm_test a) ≡ true) × (block_fits d result (arm_body a) ≡ true)
  arm_opened a h = and_parts (is_condition d (arm_test a)) (block_fits d result (arm_body a)) (sym (fold_out-Arm Bool Bool Bool Bool (item_fits d result) (arm_fits d) all_items its_item a) ∙ h)

  arms_right : (arms : List Arm) (rest : List (Part Block)) → list_all (λ a. a) (map (arm_right d result) arms) ≡ true → PartsRight rest → PartsRight (arm_parts arm_test arm_body arms ++ rest)
  arms_right [] rest h r = r
  arms_right (a ∷ arms) rest h r =
      let both = and_parts (arm_right d result a) (list_all (λ a. a) (map (arm_right d result) arms)) h in
      let own = arm_opened a both.0 in
      more_there (condition own.0) (more_there (within own.1) (arms_right arms rest both.1 r))

  -- the slot of the result has its type
  abbrev pub SlotFits : Option ℕ → Type 0
  SlotFits slot = (x : ℕ) (t : Ty) → slot ≡ Some x → result ≡ Some t → var_type d x ≡ Some t

  some_sort : (e : Expr) (u : Sort) → sort_of d e ≡ Some u → is_some (sort_of d e) ≡ true
  some_sort e u h = ap is_some h

  module _ (slot : Option ℕ) (fits : SlotFits slot) where
    call_returned : (o : Option ℕ) (r : Option Ty) (c : Call) (at : ℕ) → slot ≡ o → result ≡ r → return_fits d r (Some (right.Call c)) ≡ true →
        PartsRight (One (called (option_map (λ x. expr.Var x at) o) c) ∷ One (Some (instruction.Return (option_map (λ x. expr.Var x at) o) at)) ∷ [])
    call_returned o None c at is typed h = absurd cc
    call_returned None (Some t) c at is typed h = more_there (one (called_alone c (call_parts (λ c. true) t c h).0)) (more_there (one (refl, tt)) none_there)
    call_returned (Some x) (Some t) c at is typed h =
        let both = call_parts (λ c. true) t c h in
        let sort : sort_of d (expr.Var x at) ≡ Some (Of t) = var_sort x at ∙ ap (option_map Of) (fits x t is typed) in
        let gives : has (λ t. has (goes_into t) (sort_of d (expr.Var x at))) result ≡ true =
        ap (has (λ t. has (goes_into t) (sort_of d (expr.Var x at)))) typed ∙ ap (has (goes_into t)) sort ∙ alike t in
        more_there (one (called_in (expr.Var x at) t c sort both.0 both.1)) (more_there (one (some_sort (expr.Var x at) (Of t) sort, gives)) none_there)

    plain_returned : (r : Option Ty) (e : Expr) (at : ℕ) → result ≡ r → return_fits d r (Some (right.Plain e)) ≡ true → PartsRight (One (Some (instruction.Return (Some e) at)) ∷ [])
    plain_returned None e at typed h = absurd cc
    plain_returned (Some t) e at typed h =
        let it = has_some (goes_into t) (sort_of d e) h in
        more_there (one (some_sort e it.0 it.1, ap (has (λ t. has (goes_into t) (sort_of d e))) typed ∙ h)) none_there

    returned_right : (value : Option Right) (at : ℕ) → return_fits d result value ≡ true → PartsRight (map (λ a. One a) (returned slot value at))
    returned_right None at h = more_there (one (refl, tt)) none_there
    returned_right (Some (right.Plain e)) at h = plain_returned result e at refl h
    returned_right (Some (right.Call c)) at h = call_returned slot result c at refl refl h

    parts_right : (x : Item-F Item Arm Block Piece) → item_fits d result (right_layer d result x) ≡ true → PartsRight (parts arm_test arm_body slot x)
    parts_right (Declare ds) h = ones_right (λ c. declared c c.right) ds (declrs_right ds h)
    parts_right (Assign s) h = more_there (one (assigned_right s s.right refl h)) none_there
    parts_right (Do c) h = more_there (one (called_alone c h)) none_there
    parts_right (Nest b) h = more_there (within h) none_there
    parts_right (If arms None) h = arms_right arms [] (and_parts (list_all (λ a. a) (map (arm_right d result) arms)) true h).0 none_there
    parts_right (If arms (Some b)) h =
        let both = and_parts (list_all (λ a. a) (map (arm_right d result) arms)) (block_fits d result b) h in
        arms_right arms (Within b ∷ []) both.0 (more_there (within both.1) none_there)
    parts_right (While e b) h = let both = and_parts (is_condition d e) (block_fits d result b) h in more_there (condition both.0) (more_there (within both.1) none_there)
    parts_right (For head b) h =
        let both = and_parts (head_fits d head) (block_fits d result b) h in
        let heads = and_parts (list_all (start_fits d) head.start && if_any (is_condition d) head.test) (if_any (simple_fits d) head.step) both.0 in
        let begin = and_parts (list_all (start_fits d) head.start) (if_any (is_condition d) head.test) heads.0 in
        more_there (row (starts_right head.start begin.0)) (more_there (condition (condition_right head.test begin.1)) (more_there (row (last_right head.step heads.1)) (more_there (within both.1) none_there)))
    parts_right Break h = none_there
    parts_right Continue h = none_there
    parts_right (Return value at) h = returned_right value at h

    right_at : (ps : List (Part Block)) (k : ℕ) (part : Part Block) → PartsRight ps → slice_get ps k ≡ Some part → PartRight part
    right_at [] k part none_there e = absurd cc
    right_at (q ∷ ps) zero part (more_there h rest) e = let same : q ≡ part = cc in subst (λ (x : Part Block). PartRight x) same h
    right_at (q ∷ ps) (suc k) part (more_there h rest) e = right_at ps k part rest e

    -- places

    abbrev pub SpotRight : Spot → Type 0
    SpotRight (AtGap g) = Unit {0}
    SpotRight (AtAction i) = IsRight i
    SpotRight Nowhere = Unit {0}

    instruction_right : (a : Option Instruction) → RightIf a → SpotRight (instruction_spot a)
    instruction_right None h = tt
    instruction_right (Some i) h = h

    row_right : (list : List (Option Instruction)) (k : ℕ) → AllRight list → SpotRight (row_spot (slice_get list k))
    row_right [] k h = tt
    row_right (a ∷ list) zero (more_right h rest) = instruction_right a h
    row_right (a ∷ list) (suc k) (more_right h rest) = row_right list k rest

    test_there : (o : Option Expr) → TestRight o → SpotRight (test_spot o)
    test_there None h = tt
    test_there (Some e) h = (h, tt)

    gap_right : (b : Block) (i : ℕ) (o : Option Piece) → SpotRight (gap_at b i o)
    gap_right b i (Some q) = tt
    gap_right b i None = by_place (i == length (out-Block b).items)
      where
        by_place : (t : Bool) → SpotRight (if t then AtGap (out-Block b).last_gap else Nowhere)
        by_place true = tt
        by_place false = tt

    part_right : (inner : Block → Spot) (path : List ℕ) → ((b : Block) → block_fits d result b ≡ true → SpotRight (inner b)) → (part : Part Block) → PartRight part → SpotRight (spot_in inner path (Some part))
    part_right inner [] below (One a) (one h) = instruction_right a h
    part_right inner [] below (Row list) h = tt
    part_right inner [] below (Condition e) (condition h) = test_there (test_at [] e) (test_right [] e h)
    part_right inner [] below (Within b) (within h) = below b h
    part_right inner (k ∷ []) below (One a) h = tt
    part_right inner (k ∷ []) below (Row list) (row h) = row_right list k h
    part_right inner (k ∷ []) below (Condition e) (condition h) = test_there (test_at (k ∷ []) e) (test_right (k ∷ []) e h)
    part_right inner (k ∷ []) below (Within b) (within h) = below b h
    part_right inner (k ∷ j ∷ path) below (One a) h = tt
    part_right inner (k ∷ j ∷ path) below (Row list) h = tt
    part_right inner (k ∷ j ∷ path) below (Condition e) (condition h) = test_there (test_at (k ∷ j ∷ path) e) (test_right (k ∷ j ∷ path) e h)
    part_right inner (k ∷ j ∷ path) below (Within b) (within h) = below b h

    nothing_right : (inner : Block → Spot) (path : List ℕ) → SpotRight (spot_in inner path None)
    nothing_right inner [] = tt
    nothing_right inner (k ∷ []) = tt
    nothing_right inner (k ∷ j ∷ path) = tt

    item_part : (inner : Block → Spot) (path : List ℕ) → ((b : Block) → block_fits d result b ≡ true → SpotRight (inner b)) → (k : ℕ) (x : Item-F Item Arm Block Piece) → item_fits d result (right_layer d result x) ≡ true →
        (o : Option (Part Block)) → part_of slot k x ≡ o → SpotRight (spot_in inner path o)
    item_part inner path below k x h None is = nothing_right inner path
    item_part inner path below k x h (Some part) is = part_right inner path below part (right_at (parts arm_test arm_body slot x) k part (parts_right x h) is)

    at_item : (inner : Block → Spot) (path : List ℕ) → ((b : Block) → block_fits d result b ≡ true → SpotRight (inner b)) → (b : Block) (i k : ℕ) → block_fits d result b ≡ true →
        (o : Option (Item-F Item Arm Block Piece)) → item_at b i ≡ o → SpotRight (spot_in inner path (option_and_then (part_of slot k) o))
    at_item inner path below b i k h None is = nothing_right inner path
    at_item inner path below b i k h (Some x) is = item_part inner path below k x (item_is_right d result b i x h is) (part_of slot k x) refl

    -- what stands at a path in a block of right types
    pub block_right : (path : List ℕ) (b : Block) → block_fits d result b ≡ true → SpotRight (spot_of slot path b)
    block_right [] b h = tt
    block_right (i ∷ []) b h = gap_right b i (slice_get (out-Block b).items i)
    block_right (i ∷ k ∷ path) b h = at_item (spot_of slot path) path (block_right path) b i k h (item_at b i) refl
