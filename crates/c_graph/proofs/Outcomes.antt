-- What comes of a node: control goes over an edge that does what it says, or it stays.
use Rattle.std.proofs.Common.{◌≡◌, ℕ, ⊎_elim, Bool, true, false, not, ℤ, pos, negsuc, List, [], ◌∷◌, map, length, slice_get, Option, Some, None, Result, Ok, Err, option_map, option_and_then, refl, ap, sym, subst, ◌∙◌}
use Rattle.std.specs.Prelude.{if◌then◌else◌}
use Rattle.std.specs.List.{Contains}
use Rattle.c_tree.specs.WellFormed.{IsWellFormed}
use Rattle.c_tree.specs.declared.expr.Expr.{Expr, out-Expr, fold_out-Expr}
use Rattle.c_tree.specs.declared.expr.Op.{Op}
use Rattle.c_tree.specs.declared.program.Free.{Free}
use Rattle.c_tree.specs.declared.program.Program.{Program}
use Rattle.c_tree.specs.declared.program.Right.TheVariants as right
use Rattle.c_tree.specs.declared.program.Size.{Size}
use Rattle.c_meaning.specs.declared.value.Value.{Value}
use Rattle.c_meaning.specs.declared.value.Value.TheVariants as value
use Rattle.c_meaning.specs.declared.machine.Kind.{Kind}
use Rattle.c_meaning.specs.declared.machine.Kind.TheVariants.{Uninit, DoubleFree}
use Rattle.c_meaning.specs.declared.machine.Ending.TheVariants.{Fault}
use Rattle.c_meaning.specs.declared.machine.Location.{Location}
use Rattle.c_meaning.specs.declared.machine.Location.TheVariants.{Slot}
use Rattle.c_meaning.specs.declared.machine.Stop.{Stop}
use Rattle.c_meaning.specs.declared.machine.Stop.TheVariants.{Faulted, Excluded}
use Rattle.c_meaning.specs.Eval.{◌>>=◌, truth, int_of, is_freed, eval, eval_layer, eval_all, place_of, offset_of}
use Rattle.c_meaning.specs.Machine.{Store, stored, stopped}
use Rattle.c_meaning.specs.Parts.{Instruction, Unset, Assign, Malloc, Getchar, Putchar, Printf, Test, Invoke, Return, Close}
use Rattle.c_meaning.specs.Place.{Spot, AtGap, AtAction, Nowhere}
use Rattle.c_meaning.specs.Effects.{Effect, Passes, Calls, Returns, is_over, freed_layer, freed_once, freed_value, freed_result, freed, all_freed, target_location, answered, new_value, count_of, fails_next, born, granted, requested, fetched, low_byte, written, ints_of, printed, bound, parameters_of, value_of, unless_stopped, passing, attempt, back, ended}
use Rattle.c_meaning.specs.Step.{acts}
use Rattle.call_contexts.specs.declared.context.Ctx.{Ctx}
use Rattle.call_contexts.specs.Contexts.{contexts, home_of}
use Rattle.call_contexts.proofs.Has.{Has, first, later, has_map, has_get, only_one, contains_has, has_contains}
use Rattle.c_graph.specs.declared.graph.Action.{Action}
use Rattle.c_graph.specs.declared.graph.Action.TheVariants as action
use Rattle.c_graph.specs.declared.graph.Way.{Way}
use Rattle.c_graph.specs.declared.graph.Way.TheVariants as way
use Rattle.c_graph.specs.declared.graph.Node.{Node}
use Rattle.c_graph.specs.declared.graph.NodeKind.{NodeKind}
use Rattle.c_graph.specs.declared.graph.NodeKind.TheVariants.{Gap, Act, Exit}
use Rattle.c_graph.specs.declared.graph.Edge.{Edge}
use Rattle.c_graph.specs.Actions.{action_of, instruction_of}
use Rattle.c_graph.specs.Executes.{function_of, callee_of_leave, asked, Does, frees, unsets, assigns, makes, makes_none, gets, puts, prints, holds, fails, calls, returns, closes, ends, ends_last, Faults, by_free, by_action, Rests, exit, excludes, Comes, goes, faults, rests, past, is_lost}
use Rattle.c_graph.specs.Met.{micro_of}
use Rattle.c_graph.specs.Moves.{At, stands, first_edge, allows, enters, leaves, moved, left, acted, done, behind_frees, at_kind, at_node}
use Rattle.c_graph.specs.Nodes.{spot_at, next_at, Symbol, In, Out, Lead, lead, says, way_said, enter_leads, return_leads, leave_leads, leads_of, Placed, placed_at, exit_at, all_placed, number_of, edge_of, graph}
use Rattle.c_graph.proofs.EdgeEnds.{edge_among, edge_is_led, function_there}
use Rattle.c_graph.proofs.EdgeWays.{BackFrom, back_from, leads_back, enters_one, placed_of}
use Rattle.c_graph.proofs.Homes.{IsCalled, is_called}
use Rattle.c_graph.proofs.Instance.{says_so}
use Rattle.c_graph.proofs.Lockstep.{taken, said_leads}
use Rattle.c_graph.proofs.Numbers.{IsPlaced, in_context, an_exit, all_are_placed, first_from, node_at}

-- results

bind_ok : {A B : Type 0} (r : Result A Stop) (f : A → Result B Stop) (x : B) → (r >>= f) ≡ Ok x → (a : A) × (r ≡ Ok a) × (f a ≡ Ok x)
bind_ok (Ok a) f x e = (a, refl, e)
bind_ok (Err s) f x e = absurd cc

abbrev well : {A : Type 0} → A → Result A Stop
well x = Ok x

same_ok : {A : Type 0} (x y : A) → well x ≡ Ok y → x ≡ y
same_ok x y e = cc

-- frees end a run by a fault alone

abbrev EndsByFree : Store → Type 0
EndsByFree s = (kind : Kind) × (offset : ℕ) × (s.ending ≡ Fault kind offset true)

-- the run goes on, or a free ended it
data GoesOrFaults (s : Store) : Type 0 where
  goes_on : is_over s.ending ≡ false → GoesOrFaults s
  has_fault : (kind : Kind) (offset : ℕ) → s.ending ≡ Fault kind offset true → GoesOrFaults s

once_ends : (word o : ℕ) (b : Bool) (s : Store) → is_over s.ending ≡ false → GoesOrFaults (freed_once word o b s)
once_ends word o true s is = has_fault DoubleFree word refl
once_ends word o false s is = goes_on is

value_ends : (word offset : ℕ) (v : Value) (s : Store) → is_over s.ending ≡ false → GoesOrFaults (freed_value word offset v s)
value_ends word offset value.Undef s is = has_fault Uninit offset refl
value_ends word offset (value.Int n) s is = goes_on is
value_ends word offset value.Null s is = goes_on is
value_ends word offset (value.Ptr o) s is = once_ends word o (is_freed s.objects o) s is

result_ends : (word offset : ℕ) (r : Result Value Stop) (s : Store) → is_over s.ending ≡ false → GoesOrFaults (freed_result word offset r s)
result_ends word offset (Ok v) s is = value_ends word offset v s is
result_ends word offset (Err (Faulted kind at)) s is = has_fault kind at refl
result_ends word offset (Err Excluded) s is = goes_on is

all_end_by : (f : Free) (list : List Free) (s : Store) (b : Bool) → is_over (freed f s).ending ≡ b → GoesOrFaults (freed f s) → (is_over (freed f s).ending ≡ false → GoesOrFaults (all_freed list (freed f s))) →
    GoesOrFaults (if b then freed f s else all_freed list (freed f s))
all_end_by f list s true e h rest = h
all_end_by f list s false e h rest = rest e

all_end : (list : List Free) (s : Store) → is_over s.ending ≡ false → GoesOrFaults (all_freed list s)
all_end [] s is = goes_on is
all_end (f ∷ list) s is =
    all_end_by f list s (is_over (freed f s).ending) refl (result_ends f.start (offset_of f.expr) (freed_layer s f.expr (out-Expr f.expr)) s is) (λ e. all_end list (freed f s) e)

is_fault : (s : Store) → GoesOrFaults s → is_over s.ending ≡ true → EndsByFree s
is_fault s (goes_on going) e = let never : true ≡ false = sym e ∙ going in absurd cc
is_fault s (has_fault kind offset is) e = (kind, offset, is)

-- nodes

module _ (p : Program) (w : IsWellFormed p) where
  abbrev ComesTo : ℕ → Store → At Store → Type 0
  ComesTo v s x = Comes p (graph p (contexts p)) v s x

  abbrev acted_in : ℕ → ℕ → Effect Store → At Store
  acted_in v k x = acted (graph p (contexts p)) (contexts p) (acts p) v k x

  abbrev moved_in : Store → Option Edge → At Store
  moved_in t o = moved (graph p (contexts p)) (contexts p) (acts p) t o

  -- over the edge of a lead
  over : (v : ℕ) (y : Placed) (l : Lead) (s t : Store) → slice_get (all_placed p (contexts p)) v ≡ Some y → Has l y.leads →
      Does p (callee_of_leave (graph p (contexts p)) (edge_of p (contexts p) v l)) s y.node.kind l.way t → ComesTo v s (stands (number_of p (contexts p) l.to) t)
  over v y l s t numbered h does =
      goes (edge_of p (contexts p) v l) t (has_contains (graph p (contexts p)).edges (edge_among p (contexts p) v y l numbered h)) refl
      (record { node = y.node; stands = node_at p (contexts p) v y numbered; does = does })

  -- the first edge of a way that is asked for
  first_is : (asked_for : Way → Bool) (v : ℕ) (y : Placed) (l : Lead) (rest : List Lead) → slice_get (all_placed p (contexts p)) v ≡ Some y → y.leads ≡ l ∷ rest → asked_for l.way ≡ true →
      first_edge asked_for v (graph p (contexts p)).edges ≡ Some (edge_of p (contexts p) v l)
  first_is asked_for v y l rest numbered leads e =
      first_from p (contexts p) asked_for v y numbered ∙ ap (λ (ls : List Lead). first_edge asked_for v (map (edge_of p (contexts p) v) ls)) leads
      ∙ taken asked_for v (number_of p (contexts p) l.to) l.way (map (edge_of p (contexts p) v) rest) e

  first_among : (y : Placed) (l : Lead) (rest : List Lead) → y.leads ≡ l ∷ rest → Has l y.leads
  first_among y l rest leads = subst (λ (ls : List Lead). Has l ls) (sym leads) first

  -- on over the first edge
  on_comes : (v : ℕ) (y : Placed) (to : Symbol) (s t : Store) → slice_get (all_placed p (contexts p)) v ≡ Some y → y.leads ≡ lead way.On to ∷ [] → ((o : Option ℕ) → Does p o s y.node.kind way.On t) →
      ComesTo v s (moved_in t (first_edge (allows None) v (graph p (contexts p)).edges))
  on_comes v y to s t numbered leads does =
      subst (λ (o : Option Edge). ComesTo v s (moved_in t o)) (sym (first_is (allows None) v y (lead way.On to) [] numbered leads refl))
      (over v y (lead way.On to) s t numbered (first_among y (lead way.On to) [] leads) (does (callee_of_leave (graph p (contexts p)) (edge_of p (contexts p) v (lead way.On to)))))

  -- an action, by what it comes to
  result_comes : (v k : ℕ) (n : Node) (s : Store) (a : Action) (i : Instruction) (r : Result (Effect Store) Stop) → slice_get (graph p (contexts p)).nodes v ≡ Some n → n.kind ≡ Act a → instruction_of a ≡ Some i → attempt p i s ≡ r →
      ((x : Effect Store) → attempt p i s ≡ Ok x → ComesTo v s (acted_in v k x)) → ComesTo v s (acted_in v k (unless_stopped s r))
  result_comes v k n s a i (Ok x) at kind is e ok = ok x e
  result_comes v k n s a i (Err (Faulted what offset)) at kind is e ok = faults n (stopped (Faulted what offset) false s) at (subst (λ (z : NodeKind). Faults p s z (stopped (Faulted what offset) false s)) (sym kind) (by_action a i what offset is e))
  result_comes v k n s a i (Err Excluded) at kind is e ok = rests n at (subst (λ (z : NodeKind). Rests p s z) (sym kind) (excludes a i is e))

  -- instructions behind which control goes on in one way

  assign_comes : (v k : ℕ) (y : Placed) (to : Symbol) (s : Store) (place : Expr) (o : Op) (e : Expr) (offset : ℕ) (x : Effect Store) → slice_get (all_placed p (contexts p)) v ≡ Some y → y.leads ≡ lead way.On to ∷ [] →
      y.node.kind ≡ Act (action_of (Assign place o e offset)) → attempt p (Assign place o e offset) s ≡ Ok x → ComesTo v s (acted_in v k x)
  assign_comes v k y to s place o e offset x numbered leads kind did =
      let at = bind_ok (place_of s.slots s.objects place) (λ l. new_value s o offset place e l >>= λ u. passing (stored l u s)) x did in
      let new = bind_ok (new_value s o offset place e at.0) (λ u. passing (stored at.0 u s)) x at.2 in
      subst (λ (z : Effect Store). ComesTo v s (acted_in v k z)) (same_ok (Passes None (stored at.0 new.0 s)) x new.2)
      (on_comes v y to s (stored at.0 new.0 s) numbered leads (λ left_by. subst (λ (z : NodeKind). Does p left_by s z way.On (stored at.0 new.0 s)) (sym kind)
      (assigns (record { place = place; op = o; right = right.Plain e; at = offset }) e at.0 new.0 refl at.1 new.1)))

  getchar_comes : (v k : ℕ) (y : Placed) (to : Symbol) (s : Store) (place : Option Expr) (x : Effect Store) → slice_get (all_placed p (contexts p)) v ≡ Some y → y.leads ≡ lead way.On to ∷ [] →
      y.node.kind ≡ Act (action_of (Getchar place)) → attempt p (Getchar place) s ≡ Ok x → ComesTo v s (acted_in v k x)
  getchar_comes v k y to s place x numbered leads kind did =
      let at = bind_ok (target_location s place) (λ l. passing (fetched l s)) x did in
      subst (λ (z : Effect Store). ComesTo v s (acted_in v k z)) (same_ok (Passes None (fetched at.0 s)) x at.2)
      (on_comes v y to s (fetched at.0 s) numbered leads (λ left_by. subst (λ (z : NodeKind). Does p left_by s z way.On (fetched at.0 s)) (sym kind) (gets place at.0 at.1)))

  putchar_comes : (v k : ℕ) (y : Placed) (to : Symbol) (s : Store) (e : Expr) (x : Effect Store) → slice_get (all_placed p (contexts p)) v ≡ Some y → y.leads ≡ lead way.On to ∷ [] →
      y.node.kind ≡ Act (action_of (Putchar e)) → attempt p (Putchar e) s ≡ Ok x → ComesTo v s (acted_in v k x)
  putchar_comes v k y to s e x numbered leads kind did =
      let at = bind_ok (eval s.slots s.objects e >>= int_of) (λ n. passing (written (low_byte n ∷ []) s)) x did in
      subst (λ (z : Effect Store). ComesTo v s (acted_in v k z)) (same_ok (Passes None (written (low_byte at.0 ∷ []) s)) x at.2)
      (on_comes v y to s (written (low_byte at.0 ∷ []) s) numbered leads (λ left_by. subst (λ (z : NodeKind). Does p left_by s z way.On (written (low_byte at.0 ∷ []) s)) (sym kind) (puts e at.0 at.1)))

  printf_comes : (v k : ℕ) (y : Placed) (to : Symbol) (s : Store) (text : List ℕ) (arguments : List Expr) (x : Effect Store) → slice_get (all_placed p (contexts p)) v ≡ Some y → y.leads ≡ lead way.On to ∷ [] →
      y.node.kind ≡ Act (action_of (Printf text arguments)) → attempt p (Printf text arguments) s ≡ Ok x → ComesTo v s (acted_in v k x)
  printf_comes v k y to s text arguments x numbered leads kind did =
      let at = bind_ok (eval_all s.slots s.objects arguments >>= ints_of >>= printed text) (λ bytes. passing (written bytes s)) x did in
      subst (λ (z : Effect Store). ComesTo v s (acted_in v k z)) (same_ok (Passes None (written at.0 s)) x at.2)
      (on_comes v y to s (written at.0 s) numbered leads (λ left_by. subst (λ (z : NodeKind). Does p left_by s z way.On (written at.0 s)) (sym kind) (prints text arguments at.0 at.1)))

  unset_comes : (v k : ℕ) (y : Placed) (to : Symbol) (s : Store) (z : ℕ) (x : Effect Store) → slice_get (all_placed p (contexts p)) v ≡ Some y → y.leads ≡ lead way.On to ∷ [] →
      y.node.kind ≡ Act (action_of (Unset z)) → attempt p (Unset z) s ≡ Ok x → ComesTo v s (acted_in v k x)
  unset_comes v k y to s u x numbered leads kind did =
      subst (λ (z : Effect Store). ComesTo v s (acted_in v k z)) (same_ok (Passes None (stored (Slot u) value.Undef s)) x did)
      (on_comes v y to s (stored (Slot u) value.Undef s) numbered leads (λ left_by. subst (λ (z : NodeKind). Does p left_by s z way.On (stored (Slot u) value.Undef s)) (sym kind) (unsets u)))

  -- a malloc, by whether it makes an object

  granted_comes : (v : ℕ) (y : Placed) (to : Symbol) (s : Store) (place : Option Expr) (size : Size) (offset : ℕ) (l : Option Location) (n : ℤ) (b : Bool) → slice_get (all_placed p (contexts p)) v ≡ Some y →
      y.leads ≡ lead way.Made to ∷ lead way.NotMade to ∷ [] → y.node.kind ≡ Act (action.Malloc place size offset) → target_location s place ≡ Ok l → count_of p s size ≡ Ok n → fails_next s.fails ≡ b →
      ComesTo v s (stands (number_of p (contexts p) to) (granted l n b (asked s)))
  granted_comes v y to s place size offset l (pos n) false numbered leads kind at count next =
      over v y (lead way.Made to) s (answered l (value.Ptr (length s.objects)) (born n (asked s))) numbered (first_among y (lead way.Made to) (lead way.NotMade to ∷ []) leads)
      (subst (λ (z : NodeKind). Does p (callee_of_leave (graph p (contexts p)) (edge_of p (contexts p) v (lead way.Made to))) s z way.Made (answered l (value.Ptr (length s.objects)) (born n (asked s)))) (sym kind)
      (makes place size offset l n at count (ap (λ (t : Bool). not t) next)))
  granted_comes v y to s place size offset l (pos n) true numbered leads kind at count next =
      over v y (lead way.NotMade to) s (answered l value.Null (asked s)) numbered (subst (λ (ls : List Lead). Has (lead way.NotMade to) ls) (sym leads) (later first))
      (subst (λ (z : NodeKind). Does p (callee_of_leave (graph p (contexts p)) (edge_of p (contexts p) v (lead way.NotMade to))) s z way.NotMade (answered l value.Null (asked s))) (sym kind)
      (makes_none place size offset l (pos n) at count (ap (λ (t : Bool). not t) next)))
  granted_comes v y to s place size offset l (negsuc n) b numbered leads kind at count next =
      over v y (lead way.NotMade to) s (answered l value.Null (asked s)) numbered (subst (λ (ls : List Lead). Has (lead way.NotMade to) ls) (sym leads) (later first))
      (subst (λ (z : NodeKind). Does p (callee_of_leave (graph p (contexts p)) (edge_of p (contexts p) v (lead way.NotMade to))) s z way.NotMade (answered l value.Null (asked s))) (sym kind)
      (makes_none place size offset l (negsuc n) at count refl))

  malloc_comes : (v k : ℕ) (y : Placed) (to : Symbol) (s : Store) (place : Option Expr) (size : Size) (offset : ℕ) (x : Effect Store) → slice_get (all_placed p (contexts p)) v ≡ Some y →
      y.leads ≡ lead way.Made to ∷ lead way.NotMade to ∷ [] → y.node.kind ≡ Act (action.Malloc place size offset) → attempt p (Malloc place size offset) s ≡ Ok x → ComesTo v s (acted_in v k x)
  malloc_comes v k y to s place size offset x numbered leads kind did =
      let at = bind_ok (target_location s place) (λ l. count_of p s size >>= λ n. passing (requested l n s)) x did in
      let count = bind_ok (count_of p s size) (λ n. passing (requested at.0 n s)) x at.2 in
      subst (λ (z : Effect Store). ComesTo v s (acted_in v k z)) (same_ok (Passes None (requested at.0 count.0 s)) x count.2)
      (subst (λ (o : Option Edge). ComesTo v s (moved_in (requested at.0 count.0 s) o)) (sym (first_is (allows None) v y (lead way.Made to) (lead way.NotMade to ∷ []) numbered leads refl))
      (granted_comes v y to s place size offset at.0 count.0 (fails_next s.fails) numbered leads kind at.1 count.1 refl))

  -- a test, by what it says

  does_said : (o : Option ℕ) (s : Store) (e : Expr) (b : Bool) → (eval s.slots s.objects e >>= truth) ≡ Ok b → Does p o s (Act (action.Test e)) (way_said b) s
  does_said o s e true is = holds e is
  does_said o s e false is = fails e is

  says_one : (s : Store) (e : Expr) (b : Bool) → (eval s.slots s.objects e >>= truth) ≡ Ok b → Has b (says e)
  says_one s e b is =
      contains_has (says e) b (says_so s.slots s.objects (out-Expr e) b (ap (λ (r : Result Value Stop). r >>= truth) (sym (fold_out-Expr (Result Value Stop) (eval_layer s.slots s.objects) e)) ∙ is))

  test_comes : (v k f : ℕ) (path : List ℕ) (y : Placed) (s : Store) (e : Expr) (x : Effect Store) → slice_get (all_placed p (contexts p)) v ≡ Some y → y.leads ≡ map (λ b. lead (way_said b) (In k (next_at p f (Some b) path))) (says e) →
      y.node.kind ≡ Act (action.Test e) → attempt p (Test e) s ≡ Ok x → ComesTo v s (acted_in v k x)
  test_comes v k f path y s e x numbered leads kind did =
      let said = bind_ok (eval s.slots s.objects e >>= truth) (λ b. well (Passes (Some b) s)) x did in
      let b = said.0 in
      let has_b = says_one s e b said.1 in
      let it = said_leads p (contexts p) v k f path b (says e) has_b in
      let l = lead (way_said b) (In k (next_at p f (Some b) path)) in
      let found : first_edge (allows (Some b)) v (graph p (contexts p)).edges ≡ Some it.0 =
      first_from p (contexts p) (allows (Some b)) v y numbered ∙ ap (λ (ls : List Lead). first_edge (allows (Some b)) v (map (edge_of p (contexts p) v) ls)) leads ∙ it.1 in
      subst (λ (z : Effect Store). ComesTo v s (acted_in v k z)) (same_ok (Passes (Some b) s) x said.2)
      (subst (λ (o : Option Edge). ComesTo v s (moved_in s o)) (sym found)
      (subst (λ (to : ℕ). ComesTo v s (stands to s)) (sym it.2)
      (over v y l s s numbered (subst (λ (ls : List Lead). Has l ls) (sym leads) (has_map (λ b. lead (way_said b) (In k (next_at p f (Some b) path))) has_b))
      (subst (λ (z : NodeKind). Does p (callee_of_leave (graph p (contexts p)) (edge_of p (contexts p) v l)) s z (way_said b) s) (sym kind) (does_said (callee_of_leave (graph p (contexts p)) (edge_of p (contexts p) v l)) s e b said.1)))))

  -- a call

  call_comes : (v k : ℕ) (y : Placed) (to : Symbol) (s : Store) (callee : ℕ) (arguments : List Expr) (x : Effect Store) → slice_get (all_placed p (contexts p)) v ≡ Some y → y.leads ≡ lead way.Enter to ∷ [] →
      y.node.kind ≡ Act (action.Call callee arguments) → attempt p (Invoke 0 callee arguments None) s ≡ Ok x → ComesTo v s (acted_in v k x)
  call_comes v k y to s callee arguments x numbered leads kind did =
      let at = bind_ok (eval_all s.slots s.objects arguments) (λ vs. well (Calls callee (bound (parameters_of p callee) vs s))) x did in
      let t = bound (parameters_of p callee) at.0 s in
      let l = lead way.Enter to in
      subst (λ (z : Effect Store). ComesTo v s (acted_in v k z)) (same_ok (Calls callee t) x at.2)
      (subst (λ (o : Option Edge). ComesTo v s (moved_in t o)) (sym (first_is enters v y l [] numbered leads refl))
      (over v y l s t numbered (first_among y l [] leads) (subst (λ (z : NodeKind). Does p (callee_of_leave (graph p (contexts p)) (edge_of p (contexts p) v l)) s z way.Enter t) (sym kind) (calls callee arguments at.0 at.1))))

  -- returns

  abbrev left_in : Option Value → Store → Option Ctx → Option Edge → At Store
  left_in value t c e = left (graph p (contexts p)) (contexts p) (acts p) value t c e

  -- the function that an edge leads back from
  left_from : (v k : ℕ) (c : Ctx) (y : Placed) (l : Lead) → slice_get (contexts p) k ≡ Some c → IsCalled p k c → slice_get (all_placed p (contexts p)) v ≡ Some y → y.node.ctx ≡ k →
      callee_of_leave (graph p (contexts p)) (edge_of p (contexts p) v l) ≡ Some c.fun
  left_from v k c y l e called numbered ctx =
      ap (option_and_then (function_of (graph p (contexts p)))) (ap (option_map (λ (m : Node). m.ctx)) (node_at p (contexts p) v y numbered) ∙ ap (λ (i : ℕ). Some i) ctx) ∙ function_there p w k c e called

  -- out of `main`, or back to where the function was called
  leave_comes : (v k : ℕ) (c : Ctx) (path : List ℕ) (y : Placed) (s : Store) (u : Option Value) → slice_get (contexts p) k ≡ Some c → slice_get (all_placed p (contexts p)) v ≡ Some y → y.node.ctx ≡ k →
      y.leads ≡ leave_leads p (contexts p) path (home_of (contexts p) k) → ((o : Option ℕ) → Does p o s y.node.kind way.On (ended u s)) →
      ((o : Option ℕ) (f : ℕ) (target : Option ℕ) → o ≡ Some f → Does p o s y.node.kind (way.Leave target) (back p f target u s)) → ComesTo v s (acted_in v k (Returns u s))
  leave_comes v k c path y s u e numbered ctx leads ending going =
      let home : home_of (contexts p) k ≡ c.home = ap (option_and_then (λ (x : Ctx). x.home)) e in
      subst (λ (o : Option Ctx). ComesTo v s (left_in u s o (first_edge leaves v (graph p (contexts p)).edges))) (sym e)
      (⊎_elim
      (λ main.
      let own : y.leads ≡ lead way.On (Out path) ∷ [] = leads ∙ ap (leave_leads p (contexts p) path) (home ∙ ap (λ (x : Ctx). x.home) main) in
      subst (λ (o : Option Edge). ComesTo v s (left_in u s (Some c) o)) (sym (first_is leaves v y (lead way.On (Out path)) [] numbered own refl))
      (over v y (lead way.On (Out path)) s (ended u s) numbered (first_among y (lead way.On (Out path)) [] own) (ending (callee_of_leave (graph p (contexts p)) (edge_of p (contexts p) v (lead way.On (Out path)))))))
      (λ called. back_comes called (return_leads p called.place called.call.number (slice_get (contexts p) called.place)) (leads ∙ ap (leave_leads p (contexts p) path) (home ∙ called.home)) (leads_back p w k c called))
      (is_called p w k c e))
    where
      back_comes : (called : IsCalled p k c) (ls : List Lead) → y.leads ≡ ls → BackFrom p w k c ls → ComesTo v s (left_in u s (Some c) (first_edge leaves v (graph p (contexts p)).edges))
      back_comes called _ own (back_from it q arguments target is) =
          let l = lead (way.Leave target) (In it.place (next_at p it.caller.fun None q)) in
          subst (λ (o : Option Edge). ComesTo v s (left_in u s (Some c) o)) (sym (first_is leaves v y l [] numbered own refl))
          (over v y l s (back p c.fun target u s) numbered (first_among y l [] own) (going (callee_of_leave (graph p (contexts p)) (edge_of p (contexts p) v l)) c.fun target (left_from v k c y l e called numbered ctx)))

  return_comes : (v k : ℕ) (c : Ctx) (path : List ℕ) (y : Placed) (s : Store) (e : Option Expr) (x : Effect Store) → slice_get (contexts p) k ≡ Some c → slice_get (all_placed p (contexts p)) v ≡ Some y → y.node.ctx ≡ k →
      y.leads ≡ leave_leads p (contexts p) path (home_of (contexts p) k) → y.node.kind ≡ Act (action.Return e) → attempt p (Return e 0) s ≡ Ok x → ComesTo v s (acted_in v k x)
  return_comes v k c path y s e x here numbered ctx leads kind did =
      let at = bind_ok (value_of s e) (λ u. well (Returns u s)) x did in
      subst (λ (z : Effect Store). ComesTo v s (acted_in v k z)) (same_ok (Returns at.0 s) x at.2)
      (leave_comes v k c path y s at.0 here numbered ctx leads
      (λ o. subst (λ (z : NodeKind). Does p o s z way.On (ended at.0 s)) (sym kind) (ends e at.0 at.1))
      (λ o f target is. subst (λ (z : NodeKind). Does p o s z (way.Leave target) (back p f target at.0 s)) (sym kind) (returns e at.0 f target is at.1)))

  close_comes : (v k : ℕ) (c : Ctx) (path : List ℕ) (y : Placed) (s : Store) → slice_get (contexts p) k ≡ Some c → slice_get (all_placed p (contexts p)) v ≡ Some y → y.node.ctx ≡ k →
      y.leads ≡ leave_leads p (contexts p) path (home_of (contexts p) k) → y.node.kind ≡ Act action.Close → ComesTo v s (acted_in v k (Returns None s))
  close_comes v k c path y s here numbered ctx leads kind =
      leave_comes v k c path y s None here numbered ctx leads
      (λ o. subst (λ (z : NodeKind). Does p o s z way.On (ended None s)) (sym kind) ends_last)
      (λ o f target is. subst (λ (z : NodeKind). Does p o s z (way.Leave target) (back p f target None s)) (sym kind) (closes f target is))

  no_edge : (v : ℕ) (y : Placed) → slice_get (all_placed p (contexts p)) v ≡ Some y → y.leads ≡ [] → (e : Edge) → Contains (graph p (contexts p)).edges e → e.from ≡ v → ⊥
  no_edge v y numbered leads e h from =
      let it = edge_is_led p (contexts p) (contains_has (graph p (contexts p)).edges e h) in
      let place : it.0 ≡ v = sym (ap (λ (d : Edge). d.from) it.5) ∙ from in
      let both : Some it.1 ≡ Some y = sym it.3 ∙ ap (slice_get (all_placed p (contexts p))) place ∙ numbered in
      let same : it.1 ≡ y = cc in
      let none : Has it.2 [] = subst (λ (ls : List Lead). Has it.2 ls) (ap (λ (z : Placed). z.leads) same ∙ leads) it.4 in
      elim none [ ]

  lost_comes : (v k : ℕ) (c : Ctx) (y : Placed) (s : Store) → slice_get (contexts p) k ≡ Some c → slice_get (all_placed p (contexts p)) v ≡ Some y → y.leads ≡ [] → y.node.kind ≡ Act action.Close → ComesTo v s (acted_in v k (Returns None s))
  lost_comes v k c y s e numbered leads kind =
      let nothing : first_edge leaves v (graph p (contexts p)).edges ≡ None = first_from p (contexts p) leaves v y numbered ∙ ap (λ (ls : List Lead). first_edge leaves v (map (edge_of p (contexts p) v) ls)) leads in
      subst (λ (o : Option Ctx). ComesTo v s (left_in None s o (first_edge leaves v (graph p (contexts p)).edges))) (sym e)
      (subst (λ (o : Option Edge). ComesTo v s (left_in None s (Some c) o)) (sym nothing) (is_lost y.node (node_at p (contexts p) v y numbered) kind (no_edge v y numbered leads)))

  -- actions

  act_comes : (v k : ℕ) (c : Ctx) (path : List ℕ) (y : Placed) (s : Store) (a : Instruction) → slice_get (contexts p) k ≡ Some c → spot_at p c.fun path ≡ AtAction a → slice_get (all_placed p (contexts p)) v ≡ Some y →
      y.node.ctx ≡ k → y.node.kind ≡ Act (action_of a) → y.leads ≡ leads_of p (contexts p) k c.fun path a → ComesTo v s (done (graph p (contexts p)) (contexts p) (acts p) v k s (instruction_of (action_of a)))
  act_comes v k c path y s (Unset z) e is numbered ctx kind leads =
      result_comes v k y.node s (action.Unset z) (Unset z) (attempt p (Unset z) s) (node_at p (contexts p) v y numbered) kind refl refl (λ x did. unset_comes v k y (In k (next_at p c.fun None path)) s z x numbered leads kind did)
  act_comes v k c path y s (Assign place o u offset) e is numbered ctx kind leads =
      result_comes v k y.node s (action_of (Assign place o u offset)) (Assign place o u offset) (attempt p (Assign place o u offset) s) (node_at p (contexts p) v y numbered) kind refl refl
      (λ x did. assign_comes v k y (In k (next_at p c.fun None path)) s place o u offset x numbered leads kind did)
  act_comes v k c path y s (Malloc place size offset) e is numbered ctx kind leads =
      result_comes v k y.node s (action.Malloc place size offset) (Malloc place size offset) (attempt p (Malloc place size offset) s) (node_at p (contexts p) v y numbered) kind refl refl
      (λ x did. malloc_comes v k y (In k (next_at p c.fun None path)) s place size offset x numbered leads kind did)
  act_comes v k c path y s (Getchar place) e is numbered ctx kind leads =
      result_comes v k y.node s (action.Getchar place) (Getchar place) (attempt p (Getchar place) s) (node_at p (contexts p) v y numbered) kind refl refl (λ x did. getchar_comes v k y (In k (next_at p c.fun None path)) s place x numbered leads kind did)
  act_comes v k c path y s (Putchar u) e is numbered ctx kind leads =
      result_comes v k y.node s (action.Putchar u) (Putchar u) (attempt p (Putchar u) s) (node_at p (contexts p) v y numbered) kind refl refl (λ x did. putchar_comes v k y (In k (next_at p c.fun None path)) s u x numbered leads kind did)
  act_comes v k c path y s (Printf text arguments) e is numbered ctx kind leads =
      result_comes v k y.node s (action.Printf text arguments) (Printf text arguments) (attempt p (Printf text arguments) s) (node_at p (contexts p) v y numbered) kind refl refl
      (λ x did. printf_comes v k y (In k (next_at p c.fun None path)) s text arguments x numbered leads kind did)
  act_comes v k c path y s (Test t) e is numbered ctx kind leads =
      result_comes v k y.node s (action.Test t) (Test t) (attempt p (Test t) s) (node_at p (contexts p) v y numbered) kind refl refl (λ x did. test_comes v k c.fun path y s t x numbered leads kind did)
  act_comes v k c path y s (Invoke number callee arguments target) e is numbered ctx kind leads =
      let it = enters_one p w k c path number callee arguments target e is in
      result_comes v k y.node s (action.Call callee arguments) (Invoke 0 callee arguments None) (attempt p (Invoke 0 callee arguments None) s) (node_at p (contexts p) v y numbered) kind refl refl
      (λ x did. call_comes v k y (In it.0 (0 ∷ [])) s callee arguments x numbered (leads ∙ ap enter_leads it.1) kind did)
  act_comes v k c path y s (Return u offset) e is numbered ctx kind leads =
      result_comes v k y.node s (action.Return u) (Return u 0) (attempt p (Return u 0) s) (node_at p (contexts p) v y numbered) kind refl refl (λ x did. return_comes v k c path y s u x e numbered ctx leads kind did)
  act_comes v k c path y s (Close true offset) e is numbered ctx kind leads = close_comes v k c path y s e numbered ctx leads kind
  act_comes v k c path y s (Close false offset) e is numbered ctx kind leads = lost_comes v k c y s e numbered leads kind

  -- gaps

  gap_comes : (v number : ℕ) (list : List Free) (y : Placed) (to : Symbol) (s : Store) (b : Bool) → slice_get (all_placed p (contexts p)) v ≡ Some y → y.leads ≡ lead way.On to ∷ [] → y.node.kind ≡ Gap number list →
      is_over s.ending ≡ false → is_over (all_freed list s).ending ≡ b → ComesTo v s (behind_frees (graph p (contexts p)) (contexts p) (acts p) (λ x. x) v (all_freed list s) b)
  gap_comes v number list y to s true numbered leads kind going is =
      let it = is_fault (all_freed list s) (all_end list s going) is in
      faults y.node (all_freed list s) (node_at p (contexts p) v y numbered) (subst (λ (z : NodeKind). Faults p s z (all_freed list s)) (sym kind) (by_free number list it.0 it.1 it.2))
  gap_comes v number list y to s false numbered leads kind going is =
      on_comes v y to s (all_freed list s) numbered leads (λ o. subst (λ (z : NodeKind). Does p o s z way.On (all_freed list s)) (sym kind) (frees number list is))

  -- all nodes

  abbrev node_comes : ℕ → Store → Node → At Store
  node_comes v s n = at_kind (graph p (contexts p)) (contexts p) (acts p) (λ x. x) v n.ctx s n.kind

  spot_comes : (v k : ℕ) (c : Ctx) (path : List ℕ) (spot : Spot) (y : Placed) (s : Store) → slice_get (contexts p) k ≡ Some c → spot_at p c.fun path ≡ spot → slice_get (all_placed p (contexts p)) v ≡ Some y →
      Has y (placed_at p (contexts p) k c.fun path spot) → is_over s.ending ≡ false → ComesTo v s (node_comes v s y.node)
  spot_comes v k c path (AtGap g) y s e is numbered h going =
      let same = only_one h in
      subst (λ (n : Node). ComesTo v s (node_comes v s n)) (sym (ap (λ (z : Placed). z.node) same))
      (gap_comes v g.number g.frees y (In k (next_at p c.fun None path)) s (is_over (all_freed g.frees s).ending) numbered (ap (λ (z : Placed). z.leads) same) (ap (λ (z : Placed). z.node.kind) same) going refl)
  spot_comes v k c path (AtAction a) y s e is numbered h going =
      let same = only_one h in
      subst (λ (n : Node). ComesTo v s (node_comes v s n)) (sym (ap (λ (z : Placed). z.node) same))
      (act_comes v k c path y s a e is numbered (ap (λ (z : Placed). z.node.ctx) same) (ap (λ (z : Placed). z.node.kind) same) (ap (λ (z : Placed). z.leads) same))
  spot_comes v k c path Nowhere y s e is numbered h going = elim h [ ]

  exit_comes : (v : ℕ) (path : List ℕ) (spot : Spot) (y : Placed) (s : Store) → slice_get (all_placed p (contexts p)) v ≡ Some y → Has y (exit_at path spot) → ComesTo v s (node_comes v s y.node)
  exit_comes v path (AtAction (Return u offset)) y s numbered h =
      let node : y.node ≡ record { ctx = 0; kind = Exit offset } = ap (λ (z : Placed). z.node) (only_one h) in
      subst (λ (n : Node). ComesTo v s (node_comes v s n)) (sym node) (rests (record { ctx = 0; kind = Exit offset }) (node_at p (contexts p) v y numbered ∙ ap (λ (n : Node). Some n) node) (exit offset))
  exit_comes v path (AtAction (Close t offset)) y s numbered h =
      let node : y.node ≡ record { ctx = 0; kind = Exit offset } = ap (λ (z : Placed). z.node) (only_one h) in
      subst (λ (n : Node). ComesTo v s (node_comes v s n)) (sym node) (rests (record { ctx = 0; kind = Exit offset }) (node_at p (contexts p) v y numbered ∙ ap (λ (n : Node). Some n) node) (exit offset))
  exit_comes v path _ y s numbered h = elim h [ ]

  placed_comes : (v : ℕ) (y : Placed) (s : Store) → slice_get (all_placed p (contexts p)) v ≡ Some y → IsPlaced p (contexts p) y → is_over s.ending ≡ false → ComesTo v s (node_comes v s y.node)
  placed_comes v y s numbered (in_context k c path e h) going = spot_comes v k c path (spot_at p c.fun path) y s e refl numbered h going
  placed_comes v y s numbered (an_exit path h) going = exit_comes v path (spot_at p p.main path) y s numbered h

  any_comes : (v : ℕ) (s : Store) (o : Option Node) → slice_get (graph p (contexts p)).nodes v ≡ o → is_over s.ending ≡ false → ComesTo v s (at_node (graph p (contexts p)) (contexts p) (acts p) (λ x. x) v s o)
  any_comes v s None at going = past at
  any_comes v s (Some n) at going =
      let it = placed_of p w v n at in
      subst (λ (m : Node). ComesTo v s (node_comes v s m)) it.2 (placed_comes v it.0 s it.1 (all_are_placed p (contexts p) (has_get (all_placed p (contexts p)) v it.1)) going)

  -- what comes of a node
  pub micro_comes : (v : ℕ) (s : Store) → is_over s.ending ≡ false → Comes p (graph p (contexts p)) v s (micro_of p (stands v s))
  micro_comes v s going = any_comes v s (slice_get (graph p (contexts p)).nodes v) refl going
