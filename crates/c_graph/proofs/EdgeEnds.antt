-- Edges lead from nodes to nodes, they ascend, and the graph says which function an edge leads back from.
use Rattle.std.proofs.Common.{◌≡◌, ◌⊎◌, ◌≢◌, ℕ, zero, suc, ◌+◌, ◌<◌, ◌==◌, ◌&&◌, inl, inr, ⊎_elim, Bool, true, false, cond, List, [], ◌∷◌, ◌++◌, map, length, slice_get, unwrap_or, Option, Some, None, option_map, option_and_then, refl, ap, sym, subst, ◌∙◌, arith}
use Rattle.std.specs.List.{All, AllPairs, Contains, find}
use Rattle.std.specs.Option.{is_some}
use Rattle.std.proofs.lemmas.Bool.{and_parts, eqb-true, eq-eqb}
use Rattle.std.proofs.lemmas.List.{length-map}
use Rattle.std.proofs.lemmas.List.Elements.{All-cons, All-weaker, All-contains_itself}
use Rattle.std.proofs.lemmas.List.Kept.{AllPairs-cons}
use Rattle.std.proofs.lemmas.Option.{slice_get-map, slice_get_within}
use Rattle.c_tree.specs.Typing.{has, declarations, prototype}
use Rattle.c_tree.specs.UserCalls.{calls_in}
use Rattle.c_tree.specs.WellFormed.{IsWellFormed}
use Rattle.c_tree.proofs.CallsExist.{callees_there}
use Rattle.c_tree.proofs.Ranks.{all_at}
use Rattle.c_tree.specs.declared.control.UserCall.{UserCall}
use Rattle.c_tree.specs.declared.expr.Expr.{Expr, Expr-F, out-Expr}
use Rattle.c_tree.specs.declared.expr.Expr.TheOpen as layer
use Rattle.c_tree.specs.declared.program.FunDef.{FunDef}
use Rattle.c_tree.specs.declared.program.Program.{Program}
use Rattle.c_meaning.specs.Parts.{Instruction, Unset, Assign, Malloc, Getchar, Putchar, Printf, Test, Invoke, Return, Close}
use Rattle.c_meaning.specs.Place.{Spot, AtGap, AtAction, Nowhere}
use Rattle.call_contexts.specs.declared.context.Ctx.{Ctx}
use Rattle.call_contexts.specs.Contexts.{context, contexts, callee_of, home_of}
use Rattle.call_contexts.proofs.CallLaws.{row_of}
use Rattle.call_contexts.proofs.Has.{Has, first, later, has_left, has_right, has_map, has_split, has_get, only_one, contains_has, has_contains}
use Rattle.c_graph.specs.declared.graph.Action.{Action}
use Rattle.c_graph.specs.declared.graph.Action.TheVariants as action
use Rattle.c_graph.specs.declared.graph.Way.{Way}
use Rattle.c_graph.specs.declared.graph.Way.TheVariants as way
use Rattle.c_graph.specs.declared.graph.Node.{Node}
use Rattle.c_graph.specs.declared.graph.NodeKind.{NodeKind}
use Rattle.c_graph.specs.declared.graph.NodeKind.TheVariants.{Gap, Act, Exit}
use Rattle.c_graph.specs.declared.graph.Edge.{Edge}
use Rattle.c_graph.specs.declared.graph.Graph.{Graph}
use Rattle.c_graph.specs.Actions.{action_of}
use Rattle.c_graph.specs.Executes.{ctx_at, callee_in, callee_in_kind, callee_at, enters_into, function_of, callee_of_leave}
use Rattle.c_graph.specs.Moves.{enters}
use Rattle.c_graph.specs.Nodes.{spot_at, next_at, Symbol, In, Out, Lead, lead, says, says_layer, way_said, on_leads, enter_leads, leave_leads, leads_of, Placed, placed_at, exit_of, exit_at, all_placed, number_of, edge_of, edges_from, graph}
use Rattle.c_graph.specs.Ways.{LeavesBy, BraceWays, ActionWays, NodeWays, IsGraphOf, LeavesBack, LeavesCallee, LeadsToNodes, IsReturn, EndsAtExits, way_rank, StandsBefore, Ascends, brace_leads}
use Rattle.c_graph.proofs.Invoked.{call_of, spot_calls, invoked}
use Rattle.c_graph.proofs.Numbers.{IsPlaced, in_context, an_exit, all_are_placed, place_numbered, exit_numbered, node_at}
use Rattle.c_graph.proofs.PlacesApart.{has_of_map}
use Rattle.c_graph.proofs.CallsStand.{IsCall, is_call}
use Rattle.c_graph.proofs.Lands.{Stands, Goes, next_stands, begin_stands, types_right}
use Rattle.c_graph.proofs.Homes.{IsCalled, is_called}
use Rattle.c_graph.proofs.EdgeWays.{BackFrom, back_from, leads_back, call_stands, enters_one, action_ways, of_placed}

-- lists

pub all_from_has : {A : Type 0} (P : A → Type 0) (xs : List A) → ((x : A) → Has x xs → P x) → All P xs
all_from_has P xs each = All-weaker (Contains xs) P (λ x h. each x (contains_has xs x h)) xs (All-contains_itself xs)

found_cases : {A : Type 0} (test : A → Bool) (x : A) (xs : List A) (b : Bool) → test x ≡ b → (b ≡ false → (y : A) × (find test xs ≡ Some y) × Has y xs × (test y ≡ true)) →
    (y : A) × (cond b (Some x) (find test xs) ≡ Some y) × Has y (x ∷ xs) × (test y ≡ true)
found_cases test x xs true is rest = (x, refl, first, is)
found_cases test x xs false is rest = let it = rest refl in (it.0, it.1, later it.2, it.3)

find_has : {A : Type 0} {x : A} (test : A → Bool) (xs : List A) → Has x xs → test x ≡ true → (y : A) × (find test xs ≡ Some y) × Has y xs × (test y ≡ true)
find_has test [] h e = elim h [ ]
find_has test (x ∷ xs) first e = found_cases test x xs (test x) refl (λ no. let never : true ≡ false = sym e ∙ no in absurd cc)
find_has test (x ∷ xs) (later h) e = found_cases test x xs (test x) refl (λ no. find_has test xs h e)

-- edges and leads

module _ (p : Program) (cs : List Ctx) where
  among_from : (b i : ℕ) (xs : List Placed) (y : Placed) (l : Lead) → slice_get xs i ≡ Some y → Has l y.leads → Has (edge_of p cs (b + i) l) (edges_from p cs b xs)
  among_from b i [] y l e h = absurd cc
  among_from b zero (x ∷ xs) y l e h =
      let same : x ≡ y = cc in
      let on : b ≡ b + 0 = omega arith in
      subst (λ (n : ℕ). Has (edge_of p cs n l) (edges_from p cs b (x ∷ xs))) on
      (has_left (edges_from p cs (b + 1) xs) (has_map (edge_of p cs b) (subst (λ (z : Placed). Has l z.leads) (sym same) h)))
  among_from b (suc i) (x ∷ xs) y l e h =
      let on : b + 1 + i ≡ b + suc i = omega arith in
      subst (λ (n : ℕ). Has (edge_of p cs n l) (edges_from p cs b (x ∷ xs))) on (has_right (map (edge_of p cs b) x.leads) (among_from (b + 1) i xs y l e h))

  -- each lead of a node is an edge from there
  pub edge_among : (v : ℕ) (y : Placed) (l : Lead) → slice_get (all_placed p cs) v ≡ Some y → Has l y.leads → Has (edge_of p cs v l) (graph p cs).edges
  edge_among v y l e h =
      let on : 0 + v ≡ v = omega arith in
      subst (λ (n : ℕ). Has (edge_of p cs n l) (graph p cs).edges) on (among_from 0 v (all_placed p cs) y l e h)

  -- and each edge is one
  pub record IsLed (xs : List Placed) (b : ℕ) (e : Edge) : Type 0 where
    pub place : ℕ
    pub node : Placed
    pub lead : Lead
    pub stands : slice_get xs place ≡ Some node
    pub leads : Has lead node.leads
    pub is : e ≡ edge_of p cs (b + place) lead

  led_later : {e : Edge} (b : ℕ) (x : Placed) (xs : List Placed) → IsLed xs (b + 1) e → IsLed (x ∷ xs) b e
  led_later b x xs it =
      let on : b + 1 + it.place ≡ b + suc it.place = omega arith in
      record { place = suc it.place; node = it.node; lead = it.lead; stands = it.stands; leads = it.leads; is = it.is ∙ ap (λ (n : ℕ). edge_of p cs n it.lead) on }

  edge_from : {e : Edge} (b : ℕ) (xs : List Placed) → Has e (edges_from p cs b xs) → IsLed xs b e
  edge_from b [] h = elim h [ ]
  edge_from {e} b (x ∷ xs) h = ⊎_elim
      (λ here.
      let it = has_of_map (edge_of p cs b) x.leads here in
      let on : b ≡ b + 0 = omega arith in
      record { place = 0; node = x; lead = it.0; stands = refl; leads = it.1; is = it.2 ∙ ap (λ (n : ℕ). edge_of p cs n it.0) on })
      (λ there. led_later b x xs (edge_from (b + 1) xs there))
      (has_split (map (edge_of p cs b) x.leads) h)

  pub edge_is_led : {e : Edge} → Has e (graph p cs).edges → (v : ℕ) × (y : Placed) × (l : Lead) × (slice_get (all_placed p cs) v ≡ Some y) × Has l y.leads × (e ≡ edge_of p cs v l)
  edge_is_led h =
      let it = edge_from 0 (all_placed p cs) h in
      let on : 0 + it.place ≡ it.place = omega arith in
      (it.place, it.node, it.lead, it.stands, it.leads, it.is ∙ ap (λ (n : ℕ). edge_of p cs n it.lead) on)

-- the ways on from one node: none, one, both of a malloc, or both of a test
pub data Up : List Way → Type 0 where
  none_up : Up []
  one_up : (v : Way) → Up (v ∷ [])
  two_up : (u v : Way) → way_rank u < way_rank v → ((u ≡ way.Made) × (v ≡ way.NotMade)) ⊎ ((u ≡ way.True) × (v ≡ way.False)) → Up (u ∷ v ∷ [])

module _ (p : Program) (w : IsWellFormed p) where
  -- what an edge leads to is there
  pub data Arrives : Symbol → Type 0 where
    arrives : (j : ℕ) (c : Ctx) (path : List ℕ) → slice_get (contexts p) j ≡ Some c → Stands (spot_at p c.fun path) → Arrives (In j path)
    arrives_out : (path : List ℕ) (offset : ℕ) → Has (exit_of path offset) (exit_at path (spot_at p p.main path)) → Arrives (Out path)

  place_there : (j f : ℕ) (path : List ℕ) (spot : Spot) → Stands spot → (y : Placed) × Has y (placed_at p (contexts p) j f path spot) × (y.node.ctx ≡ j)
  place_there j f path (AtGap g) h = (_, first, refl)
  place_there j f path (AtAction a) h = (_, first, refl)
  place_there j f path Nowhere h = absurd h

  -- the node of a place
  pub node_there : (j : ℕ) (c : Ctx) (path : List ℕ) → slice_get (contexts p) j ≡ Some c → Stands (spot_at p c.fun path) → (y : Placed) × (slice_get (all_placed p (contexts p)) (number_of p (contexts p) (In j path)) ≡ Some y) × (y.node.ctx ≡ j)
  node_there j c path e h = let it = place_there j c.fun path (spot_at p c.fun path) h in (it.0, place_numbered p (contexts p) j c path e it.1, it.2)

  arrived : (to : Symbol) → Arrives to → number_of p (contexts p) to < length (all_placed p (contexts p))
  arrived _ (arrives j c path e h) = let it = node_there j c path e h in slice_get_within (all_placed p (contexts p)) (number_of p (contexts p) (In j path)) it.0 it.1
  arrived _ (arrives_out path offset h) = slice_get_within (all_placed p (contexts p)) (number_of p (contexts p) (Out path)) (exit_of path offset) (exit_numbered p (contexts p) path h)

  on_arrives : (k : ℕ) (c : Ctx) (path : List ℕ) (said : Option Bool) → slice_get (contexts p) k ≡ Some c → Goes said (spot_at p c.fun path) → Arrives (In k (next_at p c.fun said path))
  on_arrives k c path said e h = arrives k c (next_at p c.fun said path) e (next_stands p w c.fun path said h)

  goes_from : (f : ℕ) (path : List ℕ) (spot : Spot) (said : Option Bool) → spot_at p f path ≡ spot → Goes said spot → Goes said (spot_at p f path)
  goes_from f path spot said is h = subst (λ (x : Spot). Goes said x) (sym is) h

  some_there : {A B : Type 0} (f : A → B) (o : Option A) → is_some (option_map f o) ≡ true → (x : A) × (o ≡ Some x)
  some_there f None h = absurd cc
  some_there f (Some x) h = (x, refl)

  -- the callee of a call exists
  callee_there : (f : ℕ) (path : List ℕ) (number callee : ℕ) (arguments : List Expr) (target : Option ℕ) → spot_at p f path ≡ AtAction (Invoke number callee arguments target) → (d : FunDef) × (slice_get p.funs callee ≡ Some d)
  callee_there f path number callee arguments target is =
      let call = invoked f p path (subst (λ (x : Spot). Has (call_of number callee) (spot_calls x)) (sym is) first) in
      let it = by_function (slice_get p.funs f) refl call.0 (subst (λ (o : Option (List UserCall)). Has call.0 (unwrap_or o [])) (row_of p f) call.1) in
      (it.0, ap (slice_get p.funs) (sym (ap (λ (c : UserCall). c.callee) call.2)) ∙ it.1)
    where
      by_function : (o : Option FunDef) → slice_get p.funs f ≡ o → (c : UserCall) → Has c (unwrap_or (option_map (λ d. calls_in f d.body) o) []) → (d : FunDef) × (slice_get p.funs c.callee ≡ Some d)
      by_function None e c h = elim h [ ]
      by_function (Some d) e c h =
          let there = all_at (λ (x : UserCall). is_some (slice_get (declarations p).funs x.callee) && x.caller == f) (calls_in f d.body) c (callees_there (declarations p) f d.result d.body (types_right p w f d e)) (has_contains (calls_in f d.body) h) in
          some_there prototype (slice_get p.funs c.callee)
          (ap (λ o. is_some o) (sym (slice_get-map prototype p.funs c.callee)) ∙ (and_parts (is_some (slice_get (declarations p).funs c.callee)) (c.caller == f) there).0)

  -- behind a return

  back_arrives : {k : ℕ} {x : Ctx} {ls : List Lead} (l : Lead) → BackFrom p w k x ls → Has l ls → Arrives l.to
  back_arrives l (back_from it q arguments target is) h =
      subst (λ (z : Lead). Arrives z.to) (sym (only_one h))
      (on_arrives it.place it.caller q None it.stands (goes_from it.caller.fun q (AtAction (Invoke it.call.number it.call.callee arguments target)) None is tt))

  leave_arrives : (k : ℕ) (c : Ctx) (path : List ℕ) (a : Instruction) (offset : ℕ) (l : Lead) → slice_get (contexts p) k ≡ Some c → spot_at p c.fun path ≡ AtAction a → Has (exit_of path offset) (exit_at path (AtAction a)) →
      Has l (leave_leads p (contexts p) path (home_of (contexts p) k)) → Arrives l.to
  leave_arrives k c path a offset l e is exits h =
      let home : home_of (contexts p) k ≡ c.home = ap (option_and_then (λ (x : Ctx). x.home)) e in
      ⊎_elim
      (λ main.
      let there : spot_at p p.main path ≡ AtAction a = ap (λ (x : Ctx). spot_at p x.fun path) (sym main) ∙ is in
      let none : home_of (contexts p) k ≡ None = home ∙ ap (λ (x : Ctx). x.home) main in
      subst (λ (z : Lead). Arrives z.to) (sym (only_one (subst (λ (o : Option (ℕ × ℕ)). Has l (leave_leads p (contexts p) path o)) none h)))
      (arrives_out path offset (subst (λ (x : Spot). Has (exit_of path offset) (exit_at path x)) (sym there) exits)))
      (λ it. back_arrives l (leads_back p w k c it) (subst (λ (o : Option (ℕ × ℕ)). Has l (leave_leads p (contexts p) path o)) (home ∙ it.home) h))
      (is_called p w k c e)

  plain_arrives : (k : ℕ) (c : Ctx) (path : List ℕ) (a : Instruction) (l : Lead) → slice_get (contexts p) k ≡ Some c → spot_at p c.fun path ≡ AtAction a → Goes None (AtAction a) → l.to ≡ In k (next_at p c.fun None path) → Arrives l.to
  plain_arrives k c path a l e is goes to = subst Arrives (sym to) (on_arrives k c path None e (goes_from c.fun path (AtAction a) None is goes))

  to_of : {l : Lead} (w : Way) (to : Symbol) → Has l (lead w to ∷ []) → l.to ≡ to
  to_of w to h = ap (λ (z : Lead). z.to) (only_one h)

  to_of_both : {l : Lead} (to : Symbol) → Has l (lead way.Made to ∷ lead way.NotMade to ∷ []) → l.to ≡ to
  to_of_both to first = refl
  to_of_both to (later h) = to_of way.NotMade to h

  some_said : (b : Bool) → Some b ≢ None
  some_said b e = absurd cc

  lead_arrives : (k : ℕ) (c : Ctx) (path : List ℕ) (a : Instruction) (l : Lead) → slice_get (contexts p) k ≡ Some c → spot_at p c.fun path ≡ AtAction a → Has l (leads_of p (contexts p) k c.fun path a) → Arrives l.to
  lead_arrives k c path (Unset x) l e is h = plain_arrives k c path (Unset x) l e is tt (to_of way.On (In k (next_at p c.fun None path)) h)
  lead_arrives k c path (Assign place o value offset) l e is h = plain_arrives k c path (Assign place o value offset) l e is tt (to_of way.On (In k (next_at p c.fun None path)) h)
  lead_arrives k c path (Malloc place size offset) l e is h = plain_arrives k c path (Malloc place size offset) l e is tt (to_of_both (In k (next_at p c.fun None path)) h)
  lead_arrives k c path (Getchar place) l e is h = plain_arrives k c path (Getchar place) l e is tt (to_of way.On (In k (next_at p c.fun None path)) h)
  lead_arrives k c path (Putchar value) l e is h = plain_arrives k c path (Putchar value) l e is tt (to_of way.On (In k (next_at p c.fun None path)) h)
  lead_arrives k c path (Printf text arguments) l e is h = plain_arrives k c path (Printf text arguments) l e is tt (to_of way.On (In k (next_at p c.fun None path)) h)
  lead_arrives k c path (Test t) l e is h =
      let it = has_of_map (λ (b : Bool). lead (way_said b) (In k (next_at p c.fun (Some b) path))) (says t) h in
      subst (λ (z : Lead). Arrives z.to) (sym it.2) (on_arrives k c path (Some it.0) e (goes_from c.fun path (AtAction (Test t)) (Some it.0) is (some_said it.0)))
  lead_arrives k c path (Invoke number callee arguments target) l e is h =
      let it = enters_one p w k c path number callee arguments target e is in
      let there = callee_there c.fun path number callee arguments target is in
      subst Arrives (sym (to_of way.Enter (In it.0 (0 ∷ [])) (subst (λ (o : Option ℕ). Has l (enter_leads o)) it.1 h)))
      (arrives it.0 (context callee (Some (k, number))) (0 ∷ []) it.2 (begin_stands p w callee there.0 there.1))
  lead_arrives k c path (Return value offset) l e is h = leave_arrives k c path (Return value offset) offset l e is first h
  lead_arrives k c path (Close true offset) l e is h = leave_arrives k c path (Close true offset) offset l e is first h
  lead_arrives k c path (Close false offset) l e is h = elim h [ ]

  placed_arrives : (k : ℕ) (c : Ctx) (path : List ℕ) (spot : Spot) (y : Placed) (l : Lead) → slice_get (contexts p) k ≡ Some c → spot_at p c.fun path ≡ spot → Has y (placed_at p (contexts p) k c.fun path spot) → Has l y.leads → Arrives l.to
  placed_arrives k c path (AtGap g) y l e is h there =
      let leads : y.leads ≡ on_leads p k c.fun path = ap (λ (z : Placed). z.leads) (only_one h) in
      subst Arrives (sym (to_of way.On (In k (next_at p c.fun None path)) (subst (λ (ls : List Lead). Has l ls) leads there)))
      (on_arrives k c path None e (goes_from c.fun path (AtGap g) None is tt))
  placed_arrives k c path (AtAction a) y l e is h there = lead_arrives k c path a l e is (subst (λ (ls : List Lead). Has l ls) (ap (λ (z : Placed). z.leads) (only_one h)) there)
  placed_arrives k c path Nowhere y l e is h there = elim h [ ]

  exit_leads_nowhere : (path : List ℕ) (spot : Spot) (y : Placed) (l : Lead) → Has y (exit_at path spot) → Has l y.leads → ⊥
  exit_leads_nowhere path (AtAction (Return value offset)) y l h there = let none = subst (λ (z : Placed). Has l z.leads) (only_one h) there in elim none [ ]
  exit_leads_nowhere path (AtAction (Close t offset)) y l h there = let none = subst (λ (z : Placed). Has l z.leads) (only_one h) there in elim none [ ]
  exit_leads_nowhere path _ y l h there = elim h [ ]

  all_arrive : (y : Placed) (l : Lead) → IsPlaced p (contexts p) y → Has l y.leads → Arrives l.to
  all_arrive y l (in_context k c path e h) there = placed_arrives k c path (spot_at p c.fun path) y l e refl h there
  all_arrive y l (an_exit path h) there = absurd (exit_leads_nowhere path (spot_at p p.main path) y l h there)

  pub leads_to_nodes : LeadsToNodes (graph p (contexts p))
  leads_to_nodes = all_from_has (λ (e : Edge). (e.from < length (graph p (contexts p)).nodes) × (e.to < length (graph p (contexts p)).nodes)) (graph p (contexts p)).edges within
    where
      within : (e : Edge) → Has e (graph p (contexts p)).edges → (e.from < length (graph p (contexts p)).nodes) × (e.to < length (graph p (contexts p)).nodes)
      within e h =
          let it = edge_is_led p (contexts p) h in
          let many : length (graph p (contexts p)).nodes ≡ length (all_placed p (contexts p)) = length-map (all_placed p (contexts p)) (λ (x : Placed). x.node) in
          let from : it.0 < length (all_placed p (contexts p)) = slice_get_within (all_placed p (contexts p)) it.0 it.1 it.3 in
          let to : number_of p (contexts p) it.2.to < length (all_placed p (contexts p)) =
          arrived it.2.to (all_arrive it.1 it.2 (all_are_placed p (contexts p) (has_get (all_placed p (contexts p)) it.0 it.3)) it.4) in
          let is_from : e.from ≡ it.0 = ap (λ (d : Edge). d.from) it.5 in
          let is_to : e.to ≡ number_of p (contexts p) it.2.to = ap (λ (d : Edge). d.to) it.5 in
          (omega arith, omega arith)

  -- exits

  -- the node of an exit
  abbrev ExitAt : ℕ → Type 0
  ExitAt v = (offset : ℕ) × (slice_get (graph p (contexts p)).nodes v ≡ Some (record { ctx = 0; kind = Exit offset }))

  back_is_not_on : {k : ℕ} {x : Ctx} {ls : List Lead} (l : Lead) → BackFrom p w k x ls → Has l ls → l.way ≡ way.On → ⊥
  back_is_not_on l (back_from it q arguments target is) h on = let never : way.Leave target ≡ way.On = sym (ap (λ (z : Lead). z.way) (only_one h)) ∙ on in absurd cc

  out_ends : (k : ℕ) (c : Ctx) (path : List ℕ) (a : Instruction) (offset : ℕ) (l : Lead) → slice_get (contexts p) k ≡ Some c → spot_at p c.fun path ≡ AtAction a → Has (exit_of path offset) (exit_at path (AtAction a)) →
      Has l (leave_leads p (contexts p) path (home_of (contexts p) k)) → l.way ≡ way.On → ExitAt (number_of p (contexts p) l.to)
  out_ends k c path a offset l e is exits h on =
      let home : home_of (contexts p) k ≡ c.home = ap (option_and_then (λ (x : Ctx). x.home)) e in
      ⊎_elim
      (λ main.
      let there : spot_at p p.main path ≡ AtAction a = ap (λ (x : Ctx). spot_at p x.fun path) (sym main) ∙ is in
      let none : home_of (contexts p) k ≡ None = home ∙ ap (λ (x : Ctx). x.home) main in
      let to : l.to ≡ Out path = to_of way.On (Out path) (subst (λ (o : Option (ℕ × ℕ)). Has l (leave_leads p (contexts p) path o)) none h) in
      subst (λ (t : Symbol). ExitAt (number_of p (contexts p) t)) (sym to) (
        offset,
        node_at p (contexts p) (number_of p (contexts p) (Out path)) (exit_of path offset)
            (exit_numbered p (contexts p) path (subst (λ (x : Spot). Has (exit_of path offset) (exit_at path x)) (sym there) exits)),
      ))
      (λ it. absurd (back_is_not_on l (leads_back p w k c it) (subst (λ (o : Option (ℕ × ℕ)). Has l (leave_leads p (contexts p) path o)) (home ∙ it.home) h) on))
      (is_called p w k c e)

  action_ends : (k : ℕ) (c : Ctx) (path : List ℕ) (a : Instruction) (l : Lead) → slice_get (contexts p) k ≡ Some c → spot_at p c.fun path ≡ AtAction a → Has l (leads_of p (contexts p) k c.fun path a) → IsReturn (action_of a) → l.way ≡ way.On →
      ExitAt (number_of p (contexts p) l.to)
  action_ends k c path (Return value offset) l e is h return on = out_ends k c path (Return value offset) offset l e is first h on
  action_ends k c path (Close true offset) l e is h return on = out_ends k c path (Close true offset) offset l e is first h on
  action_ends k c path (Close false offset) l e is h return on = elim h [ ]
  action_ends k c path a l e is h return on = absurd return

  same_action : (a : Action) (b : Action) → Act a ≡ Act b → a ≡ b
  same_action a b e = cc

  spot_ends : (k : ℕ) (c : Ctx) (path : List ℕ) (spot : Spot) (y : Placed) (l : Lead) (b : Action) → slice_get (contexts p) k ≡ Some c → spot_at p c.fun path ≡ spot → Has y (placed_at p (contexts p) k c.fun path spot) → Has l y.leads →
      y.node.kind ≡ Act b → IsReturn b → l.way ≡ way.On → ExitAt (number_of p (contexts p) l.to)
  spot_ends k c path (AtGap g) y l b e is h leads kind return on = let never : Gap g.number g.frees ≡ Act b = sym (ap (λ (z : Placed). z.node.kind) (only_one h)) ∙ kind in absurd cc
  spot_ends k c path (AtAction a) y l b e is h leads kind return on =
      let same = same_action (action_of a) b (sym (ap (λ (z : Placed). z.node.kind) (only_one h)) ∙ kind) in
      action_ends k c path a l e is (subst (λ (ls : List Lead). Has l ls) (ap (λ (z : Placed). z.leads) (only_one h)) leads) (subst (λ (x : Action). IsReturn x) (sym same) return) on
  spot_ends k c path Nowhere y l b e is h leads kind return on = elim h [ ]

  place_ends : (y : Placed) (l : Lead) (b : Action) → IsPlaced p (contexts p) y → Has l y.leads → y.node.kind ≡ Act b → IsReturn b → l.way ≡ way.On → ExitAt (number_of p (contexts p) l.to)
  place_ends y l b (in_context k c path e h) leads kind return on = spot_ends k c path (spot_at p c.fun path) y l b e refl h leads kind return on
  place_ends y l b (an_exit path h) leads kind return on = absurd (exit_leads_nowhere path (spot_at p p.main path) y l h leads)

  pub ends_at_exits : EndsAtExits (graph p (contexts p))
  ends_at_exits e k b h at return on =
      let it = edge_is_led p (contexts p) (contains_has (graph p (contexts p)).edges e h) in
      let node : Some it.1.node ≡ Some (record { ctx = k; kind = Act b }) = sym (node_at p (contexts p) it.0 it.1 it.3) ∙ ap (λ (d : Edge). slice_get (graph p (contexts p)).nodes d.from) (sym it.5) ∙ at in
      let same : it.1.node ≡ record { ctx = k; kind = Act b } = cc in
      subst (λ (v : ℕ). ExitAt v) (sym (ap (λ (d : Edge). d.to) it.5))
      (place_ends it.1 it.2 b (all_are_placed p (contexts p) (has_get (all_placed p (contexts p)) it.0 it.3)) it.4 (ap (λ (n : Node). n.kind) same) return (sym (ap (λ (d : Edge). d.way) it.5) ∙ on))

  -- order

  says_up : (l : Expr-F Expr) → Up (map way_said (says_layer l))
  says_up (layer.Const n offset) = one_up (way_said _)
  says_up (layer.Null offset) = two_up way.True way.False (omega arith) (inr (refl, refl))
  says_up (layer.Var x offset) = two_up way.True way.False (omega arith) (inr (refl, refl))
  says_up (layer.Field a f offset) = two_up way.True way.False (omega arith) (inr (refl, refl))
  says_up (layer.Deref a offset) = two_up way.True way.False (omega arith) (inr (refl, refl))
  says_up (layer.Index a i offset) = two_up way.True way.False (omega arith) (inr (refl, refl))
  says_up (layer.Unary s a offset) = two_up way.True way.False (omega arith) (inr (refl, refl))
  says_up (layer.Binary o a b offset) = two_up way.True way.False (omega arith) (inr (refl, refl))

  one_is_up : (ways : List Way) (v : Way) → ways ≡ v ∷ [] → Up ways
  one_is_up ways v e = subst Up (sym e) (one_up v)

  leaves_up : (home : Option (ℕ × ℕ)) (ways : List Way) → LeavesBy home ways → Up ways
  leaves_up None ways h = one_is_up ways way.On h
  leaves_up (Some home) ways h = one_is_up ways (way.Leave h.0) h.1

  brace_up : (home : Option (ℕ × ℕ)) (ways : List Way) (t : Bool) → BraceWays home ways t → Up ways
  brace_up home ways true h = leaves_up home ways h
  brace_up home ways false h = subst Up (sym h) none_up

  action_up : (c : Ctx) (ways : List Way) (a : Action) → ActionWays p c ways a → Up ways
  action_up c ways (action.Test e) h = subst Up (sym h) (says_up (out-Expr e))
  action_up c ways (action.Malloc place size offset) h = subst Up (sym h) (two_up way.Made way.NotMade (omega arith) (inl (refl, refl)))
  action_up c ways (action.Call callee arguments) h = one_is_up ways way.Enter h
  action_up c ways (action.Return value) h = leaves_up c.home ways h
  action_up c ways action.Close h = brace_up c.home ways (brace_leads p c.fun) h
  action_up c ways (action.Unset x) h = one_is_up ways way.On h
  action_up c ways (action.Assign s) h = one_is_up ways way.On h
  action_up c ways (action.Getchar place) h = one_is_up ways way.On h
  action_up c ways (action.Putchar value) h = one_is_up ways way.On h
  action_up c ways (action.Printf text arguments) h = one_is_up ways way.On h

  node_up : (c : Ctx) (ways : List Way) (kind : NodeKind) → NodeWays p c ways kind → Up ways
  node_up c ways (Gap number frees) h = one_is_up ways way.On h
  node_up c ways (Act a) h = action_up c ways a h
  node_up c ways (Exit offset) h = subst Up (sym h) none_up

  abbrev After : ℕ → List Edge → Type 0
  After v es = (e : Edge) → Has e es → v < e.from

  before_all : (e : Edge) (es : List Edge) → After e.from es → All (StandsBefore e) es
  before_all e es after = all_from_has (StandsBefore e) es (λ d h. inl (after d h))

  leads_ascend : (v : ℕ) (ls : List Lead) (rest : List Edge) → Up (map (λ (l : Lead). l.way) ls) → After v rest → AllPairs StandsBefore rest → AllPairs StandsBefore (map (edge_of p (contexts p) v) ls ++ rest)
  leads_ascend v [] rest up after pairs = pairs
  leads_ascend v (l ∷ []) rest up after pairs = AllPairs-cons StandsBefore (edge_of p (contexts p) v l) rest (before_all (edge_of p (contexts p) v l) rest after) pairs
  leads_ascend v (l ∷ m ∷ []) rest (two_up _ _ less pair) after pairs =
      AllPairs-cons StandsBefore (edge_of p (contexts p) v l) (edge_of p (contexts p) v m ∷ rest)
      (All-cons (StandsBefore (edge_of p (contexts p) v l)) (edge_of p (contexts p) v m) rest (inr (refl, inl less)) (before_all (edge_of p (contexts p) v l) rest after))
      (AllPairs-cons StandsBefore (edge_of p (contexts p) v m) rest (before_all (edge_of p (contexts p) v m) rest after) pairs)
  leads_ascend v (l ∷ m ∷ n ∷ ls) rest up after pairs = elim up [ ]

  nothing_pairs : AllPairs StandsBefore []
  nothing_pairs i j d low high = absurd (omega arith)

  ascend_from : (b : ℕ) (xs : List Placed) → ((y : Placed) → Has y xs → Up (map (λ (l : Lead). l.way) y.leads)) → AllPairs StandsBefore (edges_from p (contexts p) b xs)
  ascend_from b [] up = nothing_pairs
  ascend_from b (x ∷ xs) up =
      leads_ascend b x.leads (edges_from p (contexts p) (b + 1) xs) (up x first)
      (λ e h.
      let it : IsLed p (contexts p) xs (b + 1) e = edge_from p (contexts p) (b + 1) xs h in
      let from : e.from ≡ b + 1 + it.place = ap (λ (d : Edge). d.from) it.is in
      omega arith)
      (ascend_from (b + 1) xs (λ y h. up y (later h)))

  pub placed_up : (y : Placed) → Has y (all_placed p (contexts p)) → Up (map (λ (l : Lead). l.way) y.leads)
  placed_up y h = let it = of_placed p w y (all_are_placed p (contexts p) h) in node_up it.0 (map (λ (l : Lead). l.way) y.leads) y.node.kind it.2

  pub ascends : Ascends (graph p (contexts p))
  ascends = ascend_from 0 (all_placed p (contexts p)) placed_up

  -- the function that an edge leads back from

  abbrev IsInvoke : Instruction → Type 0
  IsInvoke (Invoke number callee arguments target) = Unit {0}
  IsInvoke a = ⊥

  not_on : {ways : List Way} → ways ≡ way.On ∷ [] → Has way.Enter ways → ⊥
  not_on is h = let never : way.Enter ≡ way.On = only_one (subst (λ (ws : List Way). Has way.Enter ws) is h) in absurd cc

  not_said : (b : Bool) → way.Enter ≡ way_said b → ⊥
  not_said true e = absurd cc
  not_said false e = absurd cc

  not_left : (home : Option (ℕ × ℕ)) (ways : List Way) → LeavesBy home ways → Has way.Enter ways → ⊥
  not_left None ways h g = not_on h g
  not_left (Some home) ways h g = let never : way.Enter ≡ way.Leave h.0 = only_one (subst (λ (ws : List Way). Has way.Enter ws) h.1 g) in absurd cc

  not_out : (home : Option (ℕ × ℕ)) (ways : List Way) (t : Bool) → BraceWays home ways t → Has way.Enter ways → ⊥
  not_out home ways true h g = not_left home ways h g
  not_out home ways false h g = let none = subst (λ (ws : List Way). Has way.Enter ws) h g in elim none [ ]

  not_made : Has way.Enter (way.Made ∷ way.NotMade ∷ []) → ⊥
  not_made (later h) = let never : way.Enter ≡ way.NotMade = only_one h in absurd cc

  -- only calls have edges into a context
  enters_from : (c : Ctx) (ways : List Way) (a : Instruction) → ActionWays p c ways (action_of a) → Has way.Enter ways → IsInvoke a
  enters_from c ways (Unset x) h g = not_on h g
  enters_from c ways (Assign place o value offset) h g = not_on h g
  enters_from c ways (Malloc place size offset) h g = not_made (subst (λ (ws : List Way). Has way.Enter ws) h g)
  enters_from c ways (Getchar place) h g = not_on h g
  enters_from c ways (Putchar value) h g = not_on h g
  enters_from c ways (Printf text arguments) h g = not_on h g
  enters_from c ways (Test e) h g = let it = has_of_map way_said (says e) (subst (λ (ws : List Way). Has way.Enter ws) h g) in not_said it.0 it.2
  enters_from c ways (Invoke number callee arguments target) h g = tt
  enters_from c ways (Return value offset) h g = not_left c.home ways h g
  enters_from c ways (Close t offset) h g = not_out c.home ways (brace_leads p c.fun) h g

  ctx_there : (j : ℕ) (c : Ctx) (path : List ℕ) → slice_get (contexts p) j ≡ Some c → Stands (spot_at p c.fun path) → ctx_at (graph p (contexts p)) (number_of p (contexts p) (In j path)) ≡ Some j
  ctx_there j c path e h =
      let it = node_there j c path e h in
      ap (option_map (λ (n : Node). n.ctx)) (node_at p (contexts p) (number_of p (contexts p) (In j path)) it.0 it.1) ∙ ap (λ (i : ℕ). Some i) it.2

  -- an edge into a context comes from a call of its function
  enter_at_spot : (k j : ℕ) (c : Ctx) (path : List ℕ) (a : Instruction) (l : Lead) (x : Ctx) → slice_get (contexts p) k ≡ Some c → spot_at p c.fun path ≡ AtAction a → Has l (leads_of p (contexts p) k c.fun path a) → IsInvoke a →
      slice_get (contexts p) j ≡ Some x → ctx_at (graph p (contexts p)) (number_of p (contexts p) l.to) ≡ Some j → callee_in (action_of a) ≡ Some x.fun
  enter_at_spot k j c path (Invoke number callee arguments target) l x e is h enter here at =
      let it = enters_one p w k c path number callee arguments target e is in
      let there = callee_there c.fun path number callee arguments target is in
      let to : l.to ≡ In it.0 (0 ∷ []) = to_of way.Enter (In it.0 (0 ∷ [])) (subst (λ (o : Option ℕ). Has l (enter_leads o)) it.1 h) in
      let ctx : Some it.0 ≡ Some j = sym (ctx_there it.0 (context callee (Some (k, number))) (0 ∷ []) it.2 (begin_stands p w callee there.0 there.1)) ∙ ap (λ (t : Symbol). ctx_at (graph p (contexts p)) (number_of p (contexts p) t)) (sym to) ∙ at in
      let same : it.0 ≡ j = cc in
      let both : Some (context callee (Some (k, number))) ≡ Some x = sym it.2 ∙ ap (slice_get (contexts p)) same ∙ here in
      let one : context callee (Some (k, number)) ≡ x = cc in
      ap (λ (z : Ctx). Some z.fun) one
  enter_at_spot k j c path a l x e is h enter here at = absurd enter

  on_way : (l : Lead) (to : Symbol) → Has l (lead way.On to ∷ []) → l.way ≡ way.Enter → ⊥
  on_way l to h e = let never : way.On ≡ way.Enter = sym (ap (λ (z : Lead). z.way) (only_one h)) ∙ e in absurd cc

  enter_from_spot : (k j : ℕ) (c : Ctx) (path : List ℕ) (spot : Spot) (y : Placed) (l : Lead) (x : Ctx) → slice_get (contexts p) k ≡ Some c → spot_at p c.fun path ≡ spot → Has y (placed_at p (contexts p) k c.fun path spot) → Has l y.leads → l.way ≡ way.Enter →
      slice_get (contexts p) j ≡ Some x → ctx_at (graph p (contexts p)) (number_of p (contexts p) l.to) ≡ Some j → callee_in_kind y.node.kind ≡ Some x.fun
  enter_from_spot k j c path (AtGap g) y l x e is h leads enter here at =
      absurd (on_way l (In k (next_at p c.fun None path)) (subst (λ (ls : List Lead). Has l ls) (ap (λ (z : Placed). z.leads) (only_one h)) leads) enter)
  enter_from_spot k j c path (AtAction a) y l x e is h leads enter here at =
      let own : Has l (leads_of p (contexts p) k c.fun path a) = subst (λ (ls : List Lead). Has l ls) (ap (λ (z : Placed). z.leads) (only_one h)) leads in
      let into : Has way.Enter (map (λ (z : Lead). z.way) (leads_of p (contexts p) k c.fun path a)) = subst (λ (v : Way). Has v (map (λ (z : Lead). z.way) (leads_of p (contexts p) k c.fun path a))) enter (has_map (λ (z : Lead). z.way) own) in
      ap (λ (z : Placed). callee_in_kind z.node.kind) (only_one h)
      ∙ enter_at_spot k j c path a l x e is own (enters_from c (map (λ (z : Lead). z.way) (leads_of p (contexts p) k c.fun path a)) a (action_ways p w k c path a e is) into) here at
  enter_from_spot k j c path Nowhere y l x e is h leads enter here at = elim h [ ]

  enter_from_place : (j : ℕ) (y : Placed) (l : Lead) (x : Ctx) → IsPlaced p (contexts p) y → Has l y.leads → l.way ≡ way.Enter →
      slice_get (contexts p) j ≡ Some x → ctx_at (graph p (contexts p)) (number_of p (contexts p) l.to) ≡ Some j → callee_in_kind y.node.kind ≡ Some x.fun
  enter_from_place j y l x (in_context k c path e h) leads enter here at = enter_from_spot k j c path (spot_at p c.fun path) y l x e refl h leads enter here at
  enter_from_place j y l x (an_exit path h) leads enter here at = absurd (exit_leads_nowhere path (spot_at p p.main path) y l h leads)

  way_enters : (v : Way) → enters v ≡ true → v ≡ way.Enter
  way_enters way.Enter e = refl
  way_enters _ e = absurd cc

  has_it : (k : ℕ) (o : Option ℕ) → has (λ j. j == k) o ≡ true → o ≡ Some k
  has_it k None e = absurd cc
  has_it k (Some j) e = ap (λ (i : ℕ). Some i) (eqb-true j k e)

  -- whichever edge leads into a context, it comes from a call of its function
  entered_by : (k : ℕ) (x : Ctx) (e : Edge) → slice_get (contexts p) k ≡ Some x → Has e (graph p (contexts p)).edges → enters_into (graph p (contexts p)) k e ≡ true → callee_at (graph p (contexts p)) e.from ≡ Some x.fun
  entered_by k x e here h enters_it =
      let both = and_parts (enters e.way) (has (λ j. j == k) (ctx_at (graph p (contexts p)) e.to)) enters_it in
      let it = edge_is_led p (contexts p) h in
      let enter : it.2.way ≡ way.Enter = sym (ap (λ (d : Edge). d.way) it.5) ∙ way_enters e.way both.0 in
      let at : ctx_at (graph p (contexts p)) (number_of p (contexts p) it.2.to) ≡ Some k = ap (λ (d : Edge). ctx_at (graph p (contexts p)) d.to) (sym it.5) ∙ has_it k (ctx_at (graph p (contexts p)) e.to) both.1 in
      ap (λ (d : Edge). callee_at (graph p (contexts p)) d.from) it.5
      ∙ ap (option_and_then (λ (n : Node). callee_in_kind n.kind)) (node_at p (contexts p) it.0 it.1 it.3)
      ∙ enter_from_place k it.1 it.2 x (all_are_placed p (contexts p) (has_get (all_placed p (contexts p)) it.0 it.3)) it.4 enter here at

  -- and there is one
  enter_edge : (k : ℕ) (x : Ctx) → slice_get (contexts p) k ≡ Some x → IsCalled p k x → (e : Edge) × Has e (graph p (contexts p)).edges × (enters_into (graph p (contexts p)) k e ≡ true)
  enter_edge k x here it = let there = call_stands p w it.caller.fun it.calls in by_call (spot_at p it.caller.fun there.0) there.0 refl there.1
    where
      by_call : (spot : Spot) (q : List ℕ) → spot_at p it.caller.fun q ≡ spot → IsCall it.call spot → (e : Edge) × Has e (graph p (contexts p)).edges × (enters_into (graph p (contexts p)) k e ≡ true)
      by_call _ q is (is_call number callee arguments target same_number same_callee) =
          let a = Invoke number callee arguments target in
          let y : Placed = record { symbol = In it.place q; node = record { ctx = it.place; kind = Act (action_of a) }; leads = enter_leads (callee_of (contexts p) it.place number) } in
          let v = number_of p (contexts p) (In it.place q) in
          let numbered : slice_get (all_placed p (contexts p)) v ≡ Some y =
          place_numbered p (contexts p) it.place it.caller q it.stands (subst (λ (z : Spot). Has y (placed_at p (contexts p) it.place it.caller.fun q z)) (sym is) first) in
          let leads : callee_of (contexts p) it.place number ≡ Some k = ap (callee_of (contexts p) it.place) (sym same_number) ∙ it.leads in
          let l = lead way.Enter (In k (0 ∷ [])) in
          let own : Has l y.leads = subst (λ (o : Option ℕ). Has l (enter_leads o)) (sym leads) first in
          let exists = callee_there it.caller.fun q number callee arguments target is in
          let fun : slice_get p.funs x.fun ≡ Some exists.0 = ap (slice_get p.funs) (it.fun ∙ same_callee) ∙ exists.1 in
          let at : ctx_at (graph p (contexts p)) (number_of p (contexts p) (In k (0 ∷ []))) ≡ Some k = ctx_there k x (0 ∷ []) here (begin_stands p w x.fun exists.0 fun) in
          (edge_of p (contexts p) v l, edge_among p (contexts p) v y l numbered own, ap (has (λ j. j == k)) at ∙ eq-eqb k k refl)

  pub function_there : (k : ℕ) (x : Ctx) → slice_get (contexts p) k ≡ Some x → IsCalled p k x → function_of (graph p (contexts p)) k ≡ Some x.fun
  function_there k x here it =
      let e = enter_edge k x here it in
      let found = find_has (enters_into (graph p (contexts p)) k) (graph p (contexts p)).edges e.1 e.2 in
      ap (option_and_then (λ (d : Edge). callee_at (graph p (contexts p)) d.from)) found.1 ∙ entered_by k x found.0 here found.2 found.3

  -- no edge leads back from `main`

  not_back : {target : Option ℕ} {ways : List Way} (v : Way) → (way.Leave target ≡ v → ⊥) → ways ≡ v ∷ [] → Has (way.Leave target) ways → ⊥
  not_back {target = target} v never is h = never (only_one (subst (λ (ws : List Way). Has (way.Leave target) ws) is h))

  main_leaves : {target : Option ℕ} (home : Option (ℕ × ℕ)) (ways : List Way) → LeavesBy home ways → Has (way.Leave target) ways → home ≡ None → ⊥
  main_leaves None ways h g none = not_back way.On (λ e. absurd cc) h g
  main_leaves (Some home) ways h g none = absurd cc

  main_brace : {target : Option ℕ} (home : Option (ℕ × ℕ)) (ways : List Way) (t : Bool) → BraceWays home ways t → Has (way.Leave target) ways → home ≡ None → ⊥
  main_brace home ways true h g none = main_leaves home ways h g none
  main_brace {target = target} home ways false h g none = let nothing = subst (λ (ws : List Way). Has (way.Leave target) ws) h g in elim nothing [ ]

  said_back : (target : Option ℕ) (b : Bool) → way.Leave target ≡ way_said b → ⊥
  said_back target true e = absurd cc
  said_back target false e = absurd cc

  made_back : (target : Option ℕ) → Has (way.Leave target) (way.Made ∷ way.NotMade ∷ []) → ⊥
  made_back target (later h) = let never : way.Leave target ≡ way.NotMade = only_one h in absurd cc

  action_back : {target : Option ℕ} (c : Ctx) (ways : List Way) (a : Action) → ActionWays p c ways a → Has (way.Leave target) ways → c.home ≡ None → ⊥
  action_back {target = target} c ways (action.Test e) h g none = let it = has_of_map way_said (says e) (subst (λ (ws : List Way). Has (way.Leave target) ws) h g) in said_back target it.0 it.2
  action_back {target = target} c ways (action.Malloc place size offset) h g none = made_back target (subst (λ (ws : List Way). Has (way.Leave target) ws) h g)
  action_back c ways (action.Call callee arguments) h g none = not_back way.Enter (λ e. absurd cc) h g
  action_back c ways (action.Return value) h g none = main_leaves c.home ways h g none
  action_back c ways action.Close h g none = main_brace c.home ways (brace_leads p c.fun) h g none
  action_back c ways (action.Unset x) h g none = not_back way.On (λ e. absurd cc) h g
  action_back c ways (action.Assign s) h g none = not_back way.On (λ e. absurd cc) h g
  action_back c ways (action.Getchar place) h g none = not_back way.On (λ e. absurd cc) h g
  action_back c ways (action.Putchar value) h g none = not_back way.On (λ e. absurd cc) h g
  action_back c ways (action.Printf text arguments) h g none = not_back way.On (λ e. absurd cc) h g

  node_back : {target : Option ℕ} (c : Ctx) (ways : List Way) (kind : NodeKind) → NodeWays p c ways kind → Has (way.Leave target) ways → c.home ≡ None → ⊥
  node_back c ways (Gap number frees) h g none = not_back way.On (λ e. absurd cc) h g
  node_back c ways (Act a) h g none = action_back c ways a h g none
  node_back {target = target} c ways (Exit offset) h g none = let nothing = subst (λ (ws : List Way). Has (way.Leave target) ws) h g in elim nothing [ ]

  pub leaves_callee : LeavesCallee p
  leaves_callee e target n c h leave at ctx =
      let it = edge_is_led p (contexts p) (contains_has (graph p (contexts p)).edges e h) in
      let node : Some it.1.node ≡ Some n = sym (node_at p (contexts p) it.0 it.1 it.3) ∙ ap (λ (d : Edge). slice_get (graph p (contexts p)).nodes d.from) (sym it.5) ∙ at in
      let same : it.1.node ≡ n = cc in
      let there = of_placed p w it.1 (all_are_placed p (contexts p) (has_get (all_placed p (contexts p)) it.0 it.3)) in
      let contexts_same : Some there.0 ≡ Some c = sym there.1 ∙ ap (λ (m : Node). slice_get (contexts p) m.ctx) same ∙ ctx in
      let one : there.0 ≡ c = cc in
      let back : it.2.way ≡ way.Leave target = sym (ap (λ (d : Edge). d.way) it.5) ∙ leave in
      let among : Has (way.Leave target) (map (λ (z : Lead). z.way) it.1.leads) = subst (λ (v : Way). Has v (map (λ (z : Lead). z.way) it.1.leads)) back (has_map (λ (z : Lead). z.way) it.4) in
      ⊎_elim
      (λ main. absurd (node_back there.0 (map (λ (z : Lead). z.way) it.1.leads) it.1.node.kind there.2 among (ap (λ (x : Ctx). x.home) one ∙ ap (λ (x : Ctx). x.home) main)))
      (λ called. ap (option_and_then (function_of (graph p (contexts p)))) (ap (option_map (λ (m : Node). m.ctx)) at) ∙ function_there n.ctx c ctx called)
      (is_called p w n.ctx c ctx)

-- so it is, whatever graph of the program is asked
pub leaves_back : (p : Program) → IsWellFormed p → (g : Graph) (e : Edge) (callee : Option ℕ) → IsGraphOf p g → callee ≡ callee_of_leave g e → LeavesBack p e callee
leaves_back p w g e callee is found =
    subst (λ (o : Option ℕ). LeavesBack p e o) (sym (found ∙ ap (λ (h : Graph). callee_of_leave h e) is)) (leaves_callee p w e)
