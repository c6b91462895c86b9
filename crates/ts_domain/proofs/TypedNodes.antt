-- The actions at the nodes of a well-formed program's graph have right types.
use Rattle.std.proofs.Common.{◌≡◌, ℕ, zero, suc, ◌+◌, ◌==◌, ◌&&◌, ⊎_elim, Bool, true, false, List, [], ◌∷◌, slice_get, Option, Some, None, option_map, option_and_then, refl, ap, sym, subst, ◌∙◌, arith}
use Rattle.std.specs.Prelude.{if◌then◌else◌}
use Rattle.std.specs.List.{Contains, list_all}
use Rattle.std.proofs.lemmas.Bool.{and_parts, eqb-true}
use Rattle.std.proofs.lemmas.Option.{slice_get-map}
use Rattle.c_tree.specs.AlikeTest.{same_ty}
use Rattle.c_tree.specs.Typing.{Prototype, prototype, declarations, has, var_type, goes_into, sort_of, result_of}
use Rattle.c_tree.specs.WellFormed.{IsWellFormed, type_exists, home_fits, name_fits, variable_fits}
use Rattle.c_tree.specs.declared.expr.Expr.{Expr}
use Rattle.c_tree.specs.declared.program.FunDef.{FunDef}
use Rattle.c_tree.specs.declared.program.Home.{Home}
use Rattle.c_tree.specs.declared.program.Home.TheVariants as home
use Rattle.c_tree.specs.declared.program.Program.{Program}
use Rattle.c_tree.specs.declared.program.Ty.{Ty}
use Rattle.c_tree.specs.declared.program.VarDef.{VarDef}
use Rattle.c_meaning.specs.Parts.{Instruction}
use Rattle.c_meaning.specs.Parts as instruction
use Rattle.c_meaning.specs.Place.{Spot, AtGap, AtAction, Nowhere, is_result, slot_from, result_slot, brace_of, closing, spot_of, spot_or_brace, spot_in_fun}
use Rattle.call_contexts.specs.declared.context.Ctx.{Ctx}
use Rattle.call_contexts.specs.Contexts.{contexts, home_of}
use Rattle.call_contexts.proofs.Has.{Has, only_one, has_get, has_flat_from, contains_has}
use Rattle.c_graph.specs.declared.graph.Action.{Action}
use Rattle.c_graph.specs.declared.graph.Action.TheVariants as action
use Rattle.c_graph.specs.declared.graph.Edge.{Edge}
use Rattle.c_graph.specs.declared.graph.Node.{Node}
use Rattle.c_graph.specs.declared.graph.NodeKind.TheVariants as kind
use Rattle.c_graph.specs.declared.graph.Way.TheVariants as way
use Rattle.c_graph.specs.Actions.{action_of}
use Rattle.c_graph.specs.Nodes.{spot_at, next_at, places, In, Lead, lead, back_leads, return_leads, leave_leads, leads_of, Placed, placed_at, exit_at, all_placed, graph}
use Rattle.c_graph.proofs.Follows.{calls_in_order}
use Rattle.c_graph.proofs.EdgeWays.{call_stands}
use Rattle.c_graph.proofs.CallsStand.{IsCall, is_call}
use Rattle.c_graph.proofs.EdgeEnds.{edge_is_led}
use Rattle.c_graph.proofs.Homes.{IsCalled, is_called}
use Rattle.c_graph.proofs.Lands.{types_right}
use Rattle.c_graph.proofs.Numbers.{IsPlaced, in_context, an_exit, all_are_placed, node_at}
use Rattle.ts_domain.specs.TypedGraphs.{action_fits, HasTypedActions}
use Rattle.ts_domain.proofs.TypedPlaces.{IsRight, GivesRight, SpotRight, block_right}
use Rattle.ts_domain.proofs.PlaceWrites.{same_type}

all_at : {A : Type 0} (test : A → Bool) (xs : List A) (i : ℕ) (x : A) → list_all test xs ≡ true → slice_get xs i ≡ Some x → test x ≡ true
all_at test [] i x h e = absurd cc
all_at test (y ∷ ys) zero x h e = let same : y ≡ x = cc in ap test (sym same) ∙ (and_parts (test y) (list_all test ys) h).0
all_at test (y ∷ ys) (suc i) x h e = all_at test ys i x (and_parts (test y) (list_all test ys) h).1 e

-- the slot of a function's result
abbrev IsSlotAt : ℕ → ℕ → List VarDef → ℕ → Type 0
IsSlotAt f b vs x = (i : ℕ) × (v : VarDef) × (b + i ≡ x) × (slice_get vs i ≡ Some v) × (is_result f v.home ≡ true)

slot_by : (f b : ℕ) (v : VarDef) (vs : List VarDef) (x : ℕ) (t : Bool) → is_result f v.home ≡ t → (if t then Some b else slot_from f (b + 1) vs) ≡ Some x → (slot_from f (b + 1) vs ≡ Some x → IsSlotAt f (b + 1) vs x) → IsSlotAt f b (v ∷ vs) x
slot_by f b v vs x true is h rest = let same : b ≡ x = cc in let on : b + 0 ≡ x = omega arith in (0, v, on, refl, is)
slot_by f b v vs x false is h rest = let it = rest h in let at = it.2 in let on : b + suc it.0 ≡ x = omega arith in (suc it.0, it.1, on, it.3, it.4)

slot_found : (f b : ℕ) (vs : List VarDef) (x : ℕ) → slot_from f b vs ≡ Some x → IsSlotAt f b vs x
slot_found f b [] x h = absurd cc
slot_found f b (v ∷ vs) x h = slot_by f b v vs x (is_result f v.home) refl h (slot_found f (b + 1) vs x)

result_home : (f : ℕ) (h : Home) → is_result f h ≡ true → h ≡ home.Result f
result_home f (home.Global n) e = absurd cc
result_home f (home.Param g) e = absurd cc
result_home f (home.Local g) e = absurd cc
result_home f (home.Result g) e = ap (λ (k : ℕ). home.Result k) (eqb-true g f e)

module _ (p : Program) (w : IsWellFormed p) where
  declared_result : (f : ℕ) (d : FunDef) → slice_get p.funs f ≡ Some d → result_of (declarations p) f ≡ d.result
  declared_result f d at = ap (option_and_then (λ (x : Prototype). x.result)) (slice_get-map prototype p.funs f ∙ ap (option_map prototype) at)

  typed_slot : (f : ℕ) (d : FunDef) → slice_get p.funs f ≡ Some d → (x : ℕ) (t : Ty) → result_slot p f ≡ Some x → d.result ≡ Some t → var_type (declarations p) x ≡ Some t
  typed_slot f d at x t slot result =
      let it = slot_found f 0 p.vars x slot in
      let place = it.2 in
      let x_is : it.0 ≡ x = omega arith in
      let v = it.1 in
      let fits = all_at (variable_fits (declarations p)) p.vars it.0 v w.variables it.3 in
      let parts = and_parts (type_exists (declarations p) v.ty && home_fits (declarations p) v.ty v.home) (name_fits v.name v.home) fits in
      let own = (and_parts (type_exists (declarations p) v.ty) (home_fits (declarations p) v.ty v.home) parts.0).1 in
      let of_result : has (same_ty v.ty) (result_of (declarations p) f) ≡ true = subst (λ (h : Home). home_fits (declarations p) v.ty h ≡ true) (result_home f v.home it.4) own in
      let typed : has (same_ty v.ty) (Some t) ≡ true = ap (has (same_ty v.ty)) (sym (declared_result f d at ∙ result)) ∙ of_result in
      ap (λ (i : ℕ). option_map (λ (u : VarDef). u.ty) (slice_get p.vars i)) (sym x_is) ∙ ap (option_map (λ (u : VarDef). u.ty)) it.3 ∙ ap (λ (u : Ty). Some u) (same_type v.ty t typed)

  -- what stands at a place of a function has right types
  pub place_right : (f : ℕ) (path : List ℕ) (i : Instruction) → spot_at p f path ≡ AtAction i → (d : FunDef) × (slice_get p.funs f ≡ Some d) × IsRight (declarations p) d.result i
  place_right f path i stands = by_function (slice_get p.funs f) refl stands
    where
      in_block : (d : FunDef) (at : slice_get p.funs f ≡ Some d) (q : List ℕ) → spot_of (result_slot p f) q d.body ≡ AtAction i → IsRight (declarations p) d.result i
      in_block d at q is =
          subst (λ (s : Spot). SpotRight (declarations p) d.result (result_slot p f) (typed_slot f d at) s) is
          (block_right (declarations p) d.result (result_slot p f) (typed_slot f d at) q d.body (types_right p w f d at))

      at_brace : (d : FunDef) (at : slice_get p.funs f ≡ Some d) (k : ℕ) (b : Bool) → (if b then AtAction (closing p f d) else spot_of (result_slot p f) (k ∷ []) d.body) ≡ AtAction i → IsRight (declarations p) d.result i
      at_brace d at k true is = let same : closing p f d ≡ i = cc in subst (λ (j : Instruction). IsRight (declarations p) d.result j) same (refl, tt)
      at_brace d at k false is = in_block d at (k ∷ []) is

      by_path : (d : FunDef) → slice_get p.funs f ≡ Some d → (q : List ℕ) → spot_or_brace p f d q ≡ AtAction i → IsRight (declarations p) d.result i
      by_path d at [] is = in_block d at [] is
      by_path d at (k ∷ []) is = at_brace d at k (k == brace_of d.body) is
      by_path d at (k ∷ j ∷ q) is = in_block d at (k ∷ j ∷ q) is

      by_function : (o : Option FunDef) → slice_get p.funs f ≡ o → spot_in_fun p f o path ≡ AtAction i → (d : FunDef) × (slice_get p.funs f ≡ Some d) × IsRight (declarations p) d.result i
      by_function None at is = let never : Nowhere ≡ AtAction i = is in absurd cc
      by_function (Some d) at is = (d, at, by_path d at path is)

  -- nodes

  abbrev cs : List Ctx
  cs = contexts p

  -- an action at a node is an instruction at a place
  pub record Stands (y : Placed) (k : ℕ) (a : Action) : Type 0 where
    pub ctx : Ctx
    pub path : List ℕ
    pub instruction : Instruction
    pub at : slice_get cs k ≡ Some ctx
    pub spot : spot_at p ctx.fun path ≡ AtAction instruction
    pub is : a ≡ action_of instruction
    pub leads : y.leads ≡ leads_of p cs k ctx.fun path instruction

  by_spot : (y : Placed) (k j : ℕ) (a : Action) (c : Ctx) (path : List ℕ) (s : Spot) → slice_get cs j ≡ Some c → spot_at p c.fun path ≡ s → Has y (placed_at p cs j c.fun path s) → y.node ≡ record { ctx = k; kind = kind.Act a } → Stands y k a
  by_spot y k j a c path (AtGap g) at spot h node =
      let never : kind.Act a ≡ kind.Gap g.number g.frees = sym (ap (λ (z : Node). z.kind) node) ∙ ap (λ (z : Placed). z.node.kind) (only_one h) in
      absurd cc
  by_spot y k j a c path (AtAction i) at spot h node =
      let ctx_is : k ≡ j = sym (ap (λ (z : Node). z.ctx) node) ∙ ap (λ (z : Placed). z.node.ctx) (only_one h) in
      let kinds : kind.Act a ≡ kind.Act (action_of i) = sym (ap (λ (z : Node). z.kind) node) ∙ ap (λ (z : Placed). z.node.kind) (only_one h) in
      let a_is : a ≡ action_of i = cc in
      record {
        ctx = c;
        path = path;
        instruction = i;
        at = ap (slice_get cs) ctx_is ∙ at;
        spot = spot;
        is = a_is;
        leads = ap (λ (z : Placed). z.leads) (only_one h) ∙ ap (λ (m : ℕ). leads_of p cs m c.fun path i) (sym ctx_is);
      }
  by_spot y k j a c path Nowhere at spot h node = elim h [ ]

  no_exit : (y : Placed) (k : ℕ) (a : Action) (path : List ℕ) (s : Spot) → Has y (exit_at path s) → y.node ≡ record { ctx = k; kind = kind.Act a } → ⊥
  no_exit y k a path (AtAction (instruction.Return v offset)) h node = let never : kind.Act a ≡ kind.Exit offset = ap (λ (z : Node). z.kind) (sym node) ∙ ap (λ (z : Placed). z.node.kind) (only_one h) in absurd cc
  no_exit y k a path (AtAction (instruction.Close b offset)) h node = let never : kind.Act a ≡ kind.Exit offset = ap (λ (z : Node). z.kind) (sym node) ∙ ap (λ (z : Placed). z.node.kind) (only_one h) in absurd cc
  no_exit y k a path _ h node = elim h [ ]

  by_placed : (y : Placed) (k : ℕ) (a : Action) → IsPlaced p cs y → y.node ≡ record { ctx = k; kind = kind.Act a } → Stands y k a
  by_placed y k a (in_context j c path at h) node = by_spot y k j a c path (spot_at p c.fun path) at refl h node
  by_placed y k a (an_exit path h) node = absurd (no_exit y k a path (spot_at p p.main path) h node)

  pub action_stands : (v k : ℕ) (a : Action) (y : Placed) → slice_get (all_placed p cs) v ≡ Some y → slice_get (graph p cs).nodes v ≡ Some (record { ctx = k; kind = kind.Act a }) → Stands y k a
  action_stands v k a y there at =
      let nodes : Some y.node ≡ Some (record { ctx = k; kind = kind.Act a }) = sym (node_at p cs v y there) ∙ at in
      let node : y.node ≡ record { ctx = k; kind = kind.Act a } = cc in
      by_placed y k a (all_are_placed p cs (has_get (all_placed p cs) v there)) node

  pub placed_of : (v : ℕ) (x : Node) → slice_get (graph p cs).nodes v ≡ Some x → (y : Placed) × (slice_get (all_placed p cs) v ≡ Some y)
  placed_of v x at = by_place (slice_get (all_placed p cs) v) refl (sym (slice_get-map (λ (z : Placed). z.node) (all_placed p cs) v) ∙ at)
    where
      by_place : (o : Option Placed) → slice_get (all_placed p cs) v ≡ o → option_map (λ (z : Placed). z.node) o ≡ Some x → (y : Placed) × (slice_get (all_placed p cs) v ≡ Some y)
      by_place None there h = absurd cc
      by_place (Some y) there h = (y, there)

  pub actions_fit : (v k : ℕ) (a : Action) → slice_get (graph p cs).nodes v ≡ Some (record { ctx = k; kind = kind.Act a }) → action_fits (declarations p) a ≡ true
  actions_fit v k a at =
      let y = placed_of v (record { ctx = k; kind = kind.Act a }) at in
      let it = action_stands v k a y.0 y.1 at in
      ap (action_fits (declarations p)) it.is ∙ (place_right it.ctx.fun it.path it.instruction it.spot).2.0

  -- returns

  -- a call that stands in the caller of a context under the number that led to it calls the function of the context
  callee_is : (k : ℕ) (x : Ctx) (it : IsCalled p k x) (path : List ℕ) (number callee : ℕ) (es : List Expr) (target : Option ℕ) → spot_at p it.caller.fun path ≡ AtAction (instruction.Invoke number callee es target) → it.call.number ≡ number → callee ≡ x.fun
  callee_is k x it path number callee es target stands same = let there = call_stands p w it.caller.fun it.calls in by_call (spot_at p it.caller.fun there.0) there.0 refl there.1
    where
      by_call : (s : Spot) (q : List ℕ) → spot_at p it.caller.fun q ≡ s → IsCall it.call s → callee ≡ x.fun
      by_call _ q is (is_call other callee' es' target' same_number same_callee) =
          let numbers : other ≡ number = sym same_number ∙ same in
          let other_stands : spot_at p it.caller.fun q ≡ AtAction (instruction.Invoke number callee' es' target') = is ∙ ap (λ (m : ℕ). AtAction (instruction.Invoke m callee' es' target')) numbers in
          let one_place = (calls_in_order p w).once it.caller.fun path q number callee callee' es es' target target' stands other_stands in
          let both : AtAction (instruction.Invoke number callee es target) ≡ AtAction (instruction.Invoke number callee' es' target') = sym stands ∙ ap (spot_at p it.caller.fun) one_place ∙ other_stands in
          let callees : callee ≡ callee' = cc in
          callees ∙ sym same_callee ∙ sym it.fun

  -- the variable that a way back leads to has the type of the result
  back_typed : (k : ℕ) (x : Ctx) (it : IsCalled p k x) (l : Lead) (z : ℕ) (path : List ℕ) (s : Spot) → spot_at p it.caller.fun path ≡ s → Has l (back_leads p it.place it.caller.fun it.call.number path s) → l.way ≡ way.Leave (Some z) →
      (t : Ty) × (var_type (declarations p) z ≡ Some t) × (result_of (declarations p) x.fun ≡ Some t)
  back_typed k x it l z path (AtAction (instruction.Invoke number callee es target)) spot h is = by_number (number == it.call.number) refl h
    where
      by_target : (o : Option ℕ) → target ≡ o → way.Leave o ≡ way.Leave (Some z) → it.call.number ≡ number → (t : Ty) × (var_type (declarations p) z ≡ Some t) × (result_of (declarations p) x.fun ≡ Some t)
      by_target None e same number_is = absurd cc
      by_target (Some y) e same number_is =
          let y_is : y ≡ z = cc in
          let right = place_right it.caller.fun path (instruction.Invoke number callee es target) spot in
          let gives : GivesRight (declarations p) right.0.result (instruction.Invoke number callee es (Some y)) = subst (λ (o : Option ℕ). GivesRight (declarations p) right.0.result (instruction.Invoke number callee es o)) e right.2.1 in
          (gives.0, ap (var_type (declarations p)) (sym y_is) ∙ gives.1, ap (result_of (declarations p)) (sym (callee_is k x it path number callee es target spot number_is)) ∙ gives.2)

      by_number : (b : Bool) → number == it.call.number ≡ b → Has l (if b then lead (way.Leave target) (In it.place (next_at p it.caller.fun None path)) ∷ [] else []) →
          (t : Ty) × (var_type (declarations p) z ≡ Some t) × (result_of (declarations p) x.fun ≡ Some t)
      by_number true e h = by_target target refl (sym (ap (λ (m : Lead). m.way) (only_one h)) ∙ is) (sym (eqb-true number it.call.number e))
      by_number false e h = elim h [ ]
  back_typed k x it l z path _ spot h is = elim h [ ]

  leave_typed : (k : ℕ) (c : Ctx) (path : List ℕ) (l : Lead) (z : ℕ) → slice_get cs k ≡ Some c → Has l (leave_leads p cs path (home_of cs k)) → l.way ≡ way.Leave (Some z) →
      (t : Ty) × (var_type (declarations p) z ≡ Some t) × (result_of (declarations p) c.fun ≡ Some t)
  leave_typed k c path l z at h is = ⊎_elim
      (λ main.
      let home : home_of cs k ≡ None = ap (option_and_then (λ (x : Ctx). x.home)) at ∙ ap (λ (x : Ctx). x.home) main in
      let never : l.way ≡ way.On = ap (λ (m : Lead). m.way) (only_one (subst (λ (o : Option (ℕ × ℕ)). Has l (leave_leads p cs path o)) home h)) in
      let two : way.On ≡ way.Leave (Some z) = sym never ∙ is in
      absurd cc)
      (λ called.
      let home : home_of cs k ≡ Some (called.place, called.call.number) = ap (option_and_then (λ (x : Ctx). x.home)) at ∙ called.home in
      let here : Has l (return_leads p called.place called.call.number (slice_get cs called.place)) = subst (λ (o : Option (ℕ × ℕ)). Has l (leave_leads p cs path o)) home h in
      let there : Has l (return_leads p called.place called.call.number (Some called.caller)) = subst (λ (o : Option Ctx). Has l (return_leads p called.place called.call.number o)) called.stands here in
      let it = has_flat_from (λ q. back_leads p called.place called.caller.fun called.call.number q (spot_at p called.caller.fun q)) (places p called.caller.fun) there in
      back_typed k c called l z it.0 (spot_at p called.caller.fun it.0) refl it.2 is)
      (is_called p w k c at)

  return_at : (k : ℕ) (c : Ctx) (path : List ℕ) (i : Instruction) (value : Expr) (l : Lead) (z : ℕ) → slice_get cs k ≡ Some c → spot_at p c.fun path ≡ AtAction i → action.Return (Some value) ≡ action_of i → Has l (leads_of p cs k c.fun path i) → l.way ≡ way.Leave (Some z) →
      has (λ t. has (goes_into t) (sort_of (declarations p) value)) (var_type (declarations p) z) ≡ true
  return_at k c path (instruction.Return v offset) value l z at spot is h back =
      let v_is : Some value ≡ v = cc in
      let right = place_right c.fun path (instruction.Return v offset) spot in
      let gives : has (λ t. has (goes_into t) (sort_of (declarations p) value)) right.0.result ≡ true = subst (λ (o : Option Expr). GivesRight (declarations p) right.0.result (instruction.Return o offset)) (sym v_is) right.2.1 in
      let it = leave_typed k c path l z at h back in
      ap (has (λ t. has (goes_into t) (sort_of (declarations p) value))) (it.1 ∙ sym it.2 ∙ declared_result c.fun right.0 right.1) ∙ gives
  return_at k c path (instruction.Unset x) value l z at spot is h back = absurd cc
  return_at k c path (instruction.Assign a o b offset) value l z at spot is h back = absurd cc
  return_at k c path (instruction.Malloc a b offset) value l z at spot is h back = absurd cc
  return_at k c path (instruction.Getchar a) value l z at spot is h back = absurd cc
  return_at k c path (instruction.Putchar a) value l z at spot is h back = absurd cc
  return_at k c path (instruction.Printf a b) value l z at spot is h back = absurd cc
  return_at k c path (instruction.Test a) value l z at spot is h back = absurd cc
  return_at k c path (instruction.Invoke a b f g) value l z at spot is h back = absurd cc
  return_at k c path (instruction.Close a offset) value l z at spot is h back = absurd cc

  returns_fit : (e : Edge) (k z : ℕ) (value : Expr) → Contains (graph p cs).edges e → slice_get (graph p cs).nodes e.from ≡ Some (record { ctx = k; kind = kind.Act (action.Return (Some value)) }) → e.way ≡ way.Leave (Some z) →
      has (λ t. has (goes_into t) (sort_of (declarations p) value)) (var_type (declarations p) z) ≡ true
  returns_fit e k z value among at back =
      let it = edge_is_led p cs (contains_has (graph p cs).edges e among) in
      let from : slice_get (graph p cs).nodes it.0 ≡ Some (record { ctx = k; kind = kind.Act (action.Return (Some value)) }) = ap (λ (d : Edge). slice_get (graph p cs).nodes d.from) (sym it.5) ∙ at in
      let there = action_stands it.0 k (action.Return (Some value)) it.1 it.3 from in
      let own : it.2.way ≡ way.Leave (Some z) = ap (λ (d : Edge). d.way) (sym it.5) ∙ back in
      return_at k there.ctx there.path there.instruction value it.2 z there.at there.spot there.is (subst (λ (ls : List Lead). Has it.2 ls) there.leads it.4) own

  -- all actions of the graph have right types
  pub has_typed_actions : HasTypedActions p (graph p (contexts p))
  has_typed_actions = record { actions = actions_fit; returns = returns_fit }
