-- Edges leave each node in all the ways of what stands there, and in no other.
use Rattle.std.proofs.Common.{◌≡◌, ◌≢◌, ℕ, zero, suc, ◌+◌, ◌<◌, ◌==◌, ⊎_elim, Bool, true, false, List, [], ◌∷◌, ◌++◌, map, length, slice_get, unwrap_or, Option, Some, None, option_map, option_and_then, refl, ap, sym, subst, ◌∙◌, arith, flat_map, append-nil}
use Rattle.std.specs.Prelude.{if◌then◌else◌}
use Rattle.std.specs.List.{Contains, filter}
use Rattle.std.proofs.lemmas.Bool.{eqb-true, eq-eqb}
use Rattle.std.proofs.lemmas.Option.{slice_get-map}
use Rattle.c_tree.specs.Typing.{declarations}
use Rattle.c_tree.specs.UserCalls.{calls_in}
use Rattle.c_tree.specs.WellFormed.{IsWellFormed}
use Rattle.c_tree.specs.declared.control.UserCall.{UserCall}
use Rattle.c_tree.specs.declared.expr.Expr.{Expr}
use Rattle.c_tree.specs.declared.program.Block.{Block, out-Block}
use Rattle.c_tree.specs.declared.program.FunDef.{FunDef}
use Rattle.c_tree.specs.declared.program.Piece.{Piece}
use Rattle.c_tree.specs.declared.program.Program.{Program}
use Rattle.c_meaning.specs.Parts.{Instruction, Unset, Assign, Malloc, Getchar, Putchar, Printf, Test, Invoke, Return, Close}
use Rattle.c_meaning.specs.Place.{Spot, AtGap, AtAction, Nowhere, gap_at, spot_of, result_slot, spot_or_brace, spot_in_fun}
use Rattle.call_contexts.specs.declared.context.Ctx.{Ctx}
use Rattle.call_contexts.specs.Calls.{calls_by_function, calls_of}
use Rattle.call_contexts.specs.Contexts.{context, contexts, callee_of, home_of}
use Rattle.call_contexts.proofs.CallLaws.{row_of}
use Rattle.call_contexts.proofs.ContextLaws.{callee_stands, main_first}
use Rattle.call_contexts.proofs.Has.{Has, first, later, only_one, has_get, contains_has, has_contains}
use Rattle.c_graph.specs.declared.graph.Way.{Way}
use Rattle.c_graph.specs.declared.graph.Way.TheVariants as way
use Rattle.c_graph.specs.declared.graph.Node.{Node}
use Rattle.c_graph.specs.declared.graph.Edge.{Edge}
use Rattle.c_graph.specs.declared.graph.Graph.{Graph}
use Rattle.c_graph.specs.Actions.{action_of}
use Rattle.c_graph.specs.Nodes.{spot_at, next_at, places, In, Lead, lead, says, way_said, enter_leads, back_leads, return_leads, leave_leads, leads_of, Placed, placed_at, exit_at, all_placed, edge_of, edges_from, graph}
use Rattle.c_graph.specs.Ways.{ways_at, LeavesBy, BraceWays, ActionWays, NodeWays, HasItsWays}
use Rattle.c_graph.proofs.Follows.{HasCallsInOrder, calls_in_order}
use Rattle.c_graph.proofs.Listed.{stands_listed}
use Rattle.c_graph.proofs.Invoked.{call_of, spot_calls, invoked}
use Rattle.c_graph.proofs.Numbers.{IsPlaced, in_context, an_exit, all_are_placed}
use Rattle.c_graph.proofs.PlacesApart.{Apart, no_more, one_more, has_of_map, places_apart}
use Rattle.c_graph.proofs.CallsStand.{IsCall, is_call, block_stands}
use Rattle.c_graph.proofs.Lands.{types_right}
use Rattle.c_graph.proofs.Braces.{closing_place}
use Rattle.c_graph.proofs.Homes.{IsCalled, is_called}

-- the edges from a node are those of its leads

abbrev from_node : ℕ → Edge → Bool
from_node v e = e.from == v

module _ (p : Program) (cs : List Ctx) where
  other_kept : (v b : ℕ) (l : Lead) (rest : List Edge) (t : Bool) → (b == v) ≡ t → (b ≡ v → ⊥) → (if t then edge_of p cs b l ∷ rest else rest) ≡ rest
  other_kept v b l rest true e never = absurd (never (eqb-true b v e))
  other_kept v b l rest false e never = refl

  others_left : (v b : ℕ) (leads : List Lead) (rest : List Edge) → (b ≡ v → ⊥) → filter (from_node v) (map (edge_of p cs b) leads ++ rest) ≡ filter (from_node v) rest
  others_left v b [] rest never = refl
  others_left v b (l ∷ leads) rest never =
      other_kept v b l (filter (from_node v) (map (edge_of p cs b) leads ++ rest)) (b == v) refl never ∙ others_left v b leads rest never

  own_kept : (v : ℕ) (leads : List Lead) (rest : List Edge) → filter (from_node v) (map (edge_of p cs v) leads ++ rest) ≡ map (edge_of p cs v) leads ++ filter (from_node v) rest
  own_kept v [] rest = refl
  own_kept v (l ∷ leads) rest =
      ap (λ (t : Bool). if t then edge_of p cs v l ∷ filter (from_node v) (map (edge_of p cs v) leads ++ rest) else filter (from_node v) (map (edge_of p cs v) leads ++ rest)) (eq-eqb v v refl)
      ∙ ap (λ (es : List Edge). edge_of p cs v l ∷ es) (own_kept v leads rest)

  none_before : (v b : ℕ) (xs : List Placed) → v < b → filter (from_node v) (edges_from p cs b xs) ≡ []
  none_before v b [] low = refl
  none_before v b (x ∷ xs) low = others_left v b x.leads (edges_from p cs (b + 1) xs) (λ e. omega arith) ∙ none_before v (b + 1) xs (omega arith)

  edges_of_place : (b i : ℕ) (xs : List Placed) (y : Placed) → slice_get xs i ≡ Some y → filter (from_node (b + i)) (edges_from p cs b xs) ≡ map (edge_of p cs (b + i)) y.leads
  edges_of_place b i [] y e = absurd cc
  edges_of_place b zero (x ∷ xs) y e =
      let same : x ≡ y = cc in
      let on : b + 0 ≡ b = omega arith in
      ap (λ (n : ℕ). filter (from_node n) (map (edge_of p cs b) x.leads ++ edges_from p cs (b + 1) xs)) on
      ∙ own_kept b x.leads (edges_from p cs (b + 1) xs)
      ∙ ap (λ (es : List Edge). map (edge_of p cs b) x.leads ++ es) (none_before b (b + 1) xs (omega arith))
      ∙ append-nil (map (edge_of p cs b) x.leads)
      ∙ ap (λ (z : Placed). map (edge_of p cs b) z.leads) same
      ∙ ap (λ (n : ℕ). map (edge_of p cs n) y.leads) (sym on)
  edges_of_place b (suc i) (x ∷ xs) y e =
      let on : b + suc i ≡ b + 1 + i = omega arith in
      others_left (b + suc i) b x.leads (edges_from p cs (b + 1) xs) (λ is. omega arith)
      ∙ ap (λ (n : ℕ). filter (from_node n) (edges_from p cs (b + 1) xs)) on
      ∙ edges_of_place (b + 1) i xs y e
      ∙ ap (λ (n : ℕ). map (edge_of p cs n) y.leads) (sym on)

  pub edges_at_node : (v : ℕ) (y : Placed) → slice_get (all_placed p cs) v ≡ Some y → filter (from_node v) (graph p cs).edges ≡ map (edge_of p cs v) y.leads
  edges_at_node v y e =
      let on : 0 + v ≡ v = omega arith in
      ap (λ (n : ℕ). filter (from_node n) (graph p cs).edges) (sym on) ∙ edges_of_place 0 v (all_placed p cs) y e ∙ ap (λ (n : ℕ). map (edge_of p cs n) y.leads) on

  abbrev pub lead_ways : List Lead → List Way
  lead_ways ls = map (λ l. l.way) ls

  ways_of_edges : (v : ℕ) (ls : List Lead) → map (λ (e : Edge). e.way) (map (edge_of p cs v) ls) ≡ lead_ways ls
  ways_of_edges v [] = refl
  ways_of_edges v (l ∷ ls) = ap (λ (ws : List Way). l.way ∷ ws) (ways_of_edges v ls)

  ways_of_node : (v : ℕ) (y : Placed) → slice_get (all_placed p cs) v ≡ Some y → ways_at (graph p cs) v ≡ lead_ways y.leads
  ways_of_node v y e = ap (map (λ (d : Edge). d.way)) (edges_at_node v y e) ∙ ways_of_edges v y.leads

-- each way on from a node is that of an edge from there

way_of : {w : Way} (es : List Edge) → Has w (map (λ (e : Edge). e.way) es) → (e : Edge) × Has e es × (w ≡ e.way)
way_of es h = has_of_map (λ (e : Edge). e.way) es h

kept_by : {A : Type 0} {y : A} (test : A → Bool) (x : A) (xs : List A) (b : Bool) → test x ≡ b → Has y (if b then x ∷ filter test xs else filter test xs) → (Has y (filter test xs) → Has y xs × (test y ≡ true)) → Has y (x ∷ xs) × (test y ≡ true)
kept_by test x xs true is first rest = (first, is)
kept_by test x xs true is (later h) rest = let it = rest h in (later it.0, it.1)
kept_by test x xs false is h rest = let it = rest h in (later it.0, it.1)

filtered : {A : Type 0} {y : A} (test : A → Bool) (xs : List A) → Has y (filter test xs) → Has y xs × (test y ≡ true)
filtered test [] h = elim h [ ]
filtered test (x ∷ xs) h = kept_by test x xs (test x) refl h (filtered test xs)

pub edge_of_way : (g : Graph) (v : ℕ) (w : Way) → Contains (ways_at g v) w → (e : Edge) × Contains g.edges e × (e.from ≡ v) × (e.way ≡ w)
edge_of_way g v w h =
    let it = way_of (filter (from_node v) g.edges) (contains_has (ways_at g v) w h) in
    let there = filtered (from_node v) g.edges it.1 in
    (it.0, has_contains g.edges there.0, eqb-true it.0.from v there.1, sym it.2)

-- returns lead back in one way

module _ (p : Program) (order : HasCallsInOrder p) (k f number callee : ℕ) (q : List ℕ) (arguments : List Expr) (target : Option ℕ)
    (stands_there : spot_at p f q ≡ AtAction (Invoke number callee arguments target)) where
  abbrev back_lead : Lead
  back_lead = lead (way.Leave target) (In k (next_at p f None q))

  number_differs : (other callee' : ℕ) (arguments' : List Expr) (target' : Option ℕ) (r : List ℕ) (t : Bool) → (other == number) ≡ t → spot_at p f r ≡ AtAction (Invoke other callee' arguments' target') → (r ≡ q → ⊥) →
      (if t then lead (way.Leave target') (In k (next_at p f None r)) ∷ [] else []) ≡ []
  number_differs other callee' arguments' target' r true e is never =
      let same : other ≡ number = eqb-true other number e in
      absurd (never (order.once f r q number callee' callee arguments' arguments target' target (is ∙ ap (λ (n : ℕ). AtAction (Invoke n callee' arguments' target')) same) stands_there))
  number_differs other callee' arguments' target' r false e is never = refl

  other_back : (r : List ℕ) (spot : Spot) → spot_at p f r ≡ spot → (r ≡ q → ⊥) → back_leads p k f number r spot ≡ []
  other_back r (AtGap g) is never = refl
  other_back r Nowhere is never = refl
  other_back r (AtAction (Invoke other callee' arguments' target')) is never = number_differs other callee' arguments' target' r (other == number) refl is never
  other_back r (AtAction a) is never = refl

  own_back : back_leads p k f number q (spot_at p f q) ≡ back_lead ∷ []
  own_back = ap (back_leads p k f number q) stands_there ∙ ap (λ (b : Bool). if b then back_lead ∷ [] else []) (eq-eqb number number refl)

  none_back : (qs : List (List ℕ)) → (Has q qs → ⊥) → flat_map (λ r. back_leads p k f number r (spot_at p f r)) qs ≡ []
  none_back [] never = refl
  none_back (r ∷ qs) never =
      ap (λ (ls : List Lead). ls ++ flat_map (λ r. back_leads p k f number r (spot_at p f r)) qs)
      (other_back r (spot_at p f r) refl (λ is. never (subst (λ (s : List ℕ). Has q (s ∷ qs)) (sym is) first)))
      ∙ none_back qs (λ h. never (later h))

  one_back : (qs : List (List ℕ)) → Apart qs → Has q qs → flat_map (λ r. back_leads p k f number r (spot_at p f r)) qs ≡ back_lead ∷ []
  one_back [] no_more h = elim h [ ]
  one_back (r ∷ qs) (one_more new apart) first =
      ap (λ (ls : List Lead). ls ++ flat_map (λ r. back_leads p k f number r (spot_at p f r)) qs) own_back ∙ ap (λ (ls : List Lead). back_lead ∷ ls) (none_back qs new)
  one_back (r ∷ qs) (one_more new apart) (later h) =
      ap (λ (ls : List Lead). ls ++ flat_map (λ r. back_leads p k f number r (spot_at p f r)) qs)
      (other_back r (spot_at p f r) refl (λ is. new (subst (λ (s : List ℕ). Has s qs) (sym is) h)))
      ∙ one_back qs apart h

call_somewhere : {spot : Spot} {number callee : ℕ} {arguments : List Expr} {target : Option ℕ} → spot ≡ AtAction (Invoke number callee arguments target) → spot ≢ Nowhere
call_somewhere {number = number} {callee = callee} {arguments = arguments} {target = target} is none =
    let never : AtAction (Invoke number callee arguments target) ≡ Nowhere = sym is ∙ none in absurd cc

module _ (p : Program) (w : IsWellFormed p) where
  -- calls stand at places of their function

  no_call_at : {c : UserCall} (b : Block) (i : ℕ) (o : Option Piece) → IsCall c (gap_at b i o) → ⊥
  no_call_at b i (Some q) h = elim h [ ]
  no_call_at {c} b i None h = by_place (i == length (out-Block b).items) h
    where
      by_place : (t : Bool) → IsCall c (if t then AtGap (out-Block b).last_gap else Nowhere) → ⊥
      by_place true h = elim h [ ]
      by_place false h = elim h [ ]

  in_function : {c : UserCall} (f : ℕ) (d : FunDef) (path : List ℕ) → IsCall c (spot_of (result_slot p f) path d.body) → IsCall c (spot_or_brace p f d path)
  in_function f d [] h = h
  in_function f d (i ∷ []) h = absurd (no_call_at d.body i (slice_get (out-Block d.body).items i) h)
  in_function f d (i ∷ k ∷ path) h = h

  -- where the call of a function stands
  pub call_stands : {c : UserCall} (f : ℕ) → Has c (calls_of (calls_by_function p) f) → (path : List ℕ) × IsCall c (spot_at p f path)
  call_stands {c} f h = by_function (slice_get p.funs f) refl (subst (λ (o : Option (List UserCall)). Has c (unwrap_or o [])) (row_of p f) h)
    where
      by_function : (o : Option FunDef) → slice_get p.funs f ≡ o → Has c (unwrap_or (option_map (λ d. calls_in f d.body) o) []) → (path : List ℕ) × IsCall c (spot_in_fun p f o path)
      by_function None e h = elim h [ ]
      by_function (Some d) e h = let it = block_stands f c (declarations p) d.result (result_slot p f) d.body (types_right p w f d e) h in (it.0, in_function f d it.0 it.1)

  -- what leads back from a context that was called
  pub data BackFrom (k : ℕ) (x : Ctx) : List Lead → Type 0 where
    back_from : (it : IsCalled p k x) (q : List ℕ) (arguments : List Expr) (target : Option ℕ) → spot_at p it.caller.fun q ≡ AtAction (Invoke it.call.number it.call.callee arguments target) →
        BackFrom k x (lead (way.Leave target) (In it.place (next_at p it.caller.fun None q)) ∷ [])

  pub leads_back : (k : ℕ) (x : Ctx) (it : IsCalled p k x) → BackFrom k x (return_leads p it.place it.call.number (slice_get (contexts p) it.place))
  leads_back k x it =
      let there = call_stands it.caller.fun it.calls in
      by_call (spot_at p it.caller.fun there.0) there.0 refl there.1
    where
      by_call : (spot : Spot) (q : List ℕ) → spot_at p it.caller.fun q ≡ spot → IsCall it.call spot → BackFrom k x (return_leads p it.place it.call.number (slice_get (contexts p) it.place))
      by_call _ q e (is_call number callee arguments target same_number same_callee) =
          let is : spot_at p it.caller.fun q ≡ AtAction (Invoke it.call.number it.call.callee arguments target) =
          e ∙ ap (λ (n : ℕ). AtAction (Invoke n callee arguments target)) (sym same_number) ∙ ap (λ (g : ℕ). AtAction (Invoke it.call.number g arguments target)) (sym same_callee) in
          subst (λ (ls : List Lead). BackFrom k x ls)
          (sym (ap (return_leads p it.place it.call.number) it.stands
          ∙ one_back p (calls_in_order p w) it.place it.caller.fun it.call.number it.call.callee q arguments target is (places p it.caller.fun) (places_apart p it.caller.fun)
          (stands_listed p it.caller.fun q (call_somewhere is))))
          (back_from it q arguments target is)

  -- ways

  back_ways : {k : ℕ} {x : Ctx} {ls : List Lead} → BackFrom k x ls → (target : Option ℕ) × (map (λ (l : Lead). l.way) ls ≡ way.Leave target ∷ [])
  back_ways (back_from it q arguments target is) = (target, refl)

  home_is : (k : ℕ) (c : Ctx) → slice_get (contexts p) k ≡ Some c → home_of (contexts p) k ≡ c.home
  home_is k c e = ap (option_and_then (λ (x : Ctx). x.home)) e

  leaving_ways : (k : ℕ) (c : Ctx) (path : List ℕ) → slice_get (contexts p) k ≡ Some c → LeavesBy c.home (map (λ (l : Lead). l.way) (leave_leads p (contexts p) path c.home))
  leaving_ways k c path e = ⊎_elim
      (λ main. subst (λ (h : Option (ℕ × ℕ)). LeavesBy h (map (λ (l : Lead). l.way) (leave_leads p (contexts p) path h))) (sym (ap (λ (x : Ctx). x.home) main)) refl)
      (λ it. subst (λ (h : Option (ℕ × ℕ)). LeavesBy h (map (λ (l : Lead). l.way) (leave_leads p (contexts p) path h))) (sym it.home) (back_ways (leads_back k c it)))
      (is_called p w k c e)

  leaves_ways : (k : ℕ) (c : Ctx) (path : List ℕ) → slice_get (contexts p) k ≡ Some c → LeavesBy c.home (map (λ (l : Lead). l.way) (leave_leads p (contexts p) path (home_of (contexts p) k)))
  leaves_ways k c path e = subst (λ (h : Option (ℕ × ℕ)). LeavesBy c.home (map (λ (l : Lead). l.way) (leave_leads p (contexts p) path h))) (sym (home_is k c e)) (leaving_ways k c path e)

  -- into the context of a call
  pub enters_one : (k : ℕ) (c : Ctx) (path : List ℕ) (number callee : ℕ) (arguments : List Expr) (target : Option ℕ) → slice_get (contexts p) k ≡ Some c → spot_at p c.fun path ≡ AtAction (Invoke number callee arguments target) →
      (j : ℕ) × (callee_of (contexts p) k number ≡ Some j) × (slice_get (contexts p) j ≡ Some (context callee (Some (k, number))))
  enters_one k c path number callee arguments target e is =
      let call = invoked c.fun p path (subst (λ (x : Spot). Has (call_of number callee) (spot_calls x)) (sym is) first) in
      let same_number : call.0.number ≡ number = ap (λ (d : UserCall). d.number) call.2 in
      let same_callee : call.0.callee ≡ callee = ap (λ (d : UserCall). d.callee) call.2 in
      let there = callee_stands p (calls_in_order p w).calls k c call.0 e call.1 in
      (there.0, ap (callee_of (contexts p) k) (sym same_number) ∙ there.1, there.2 ∙ ap (λ (n : ℕ). Some (context call.0.callee (Some (k, n)))) same_number ∙ ap (λ (f : ℕ). Some (context f (Some (k, number)))) same_callee)

  said_ways : (k f : ℕ) (path : List ℕ) (bs : List Bool) → map (λ (l : Lead). l.way) (map (λ b. lead (way_said b) (In k (next_at p f (Some b) path))) bs) ≡ map way_said bs
  said_ways k f path [] = refl
  said_ways k f path (b ∷ bs) = ap (λ (ws : List Way). way_said b ∷ ws) (said_ways k f path bs)

  brace_ways : (k : ℕ) (c : Ctx) (path : List ℕ) (t : Bool) (offset : ℕ) → slice_get (contexts p) k ≡ Some c → BraceWays c.home (map (λ (l : Lead). l.way) (leads_of p (contexts p) k c.fun path (Close t offset))) t
  brace_ways k c path true offset e = leaves_ways k c path e
  brace_ways k c path false offset e = refl

  pub action_ways : (k : ℕ) (c : Ctx) (path : List ℕ) (a : Instruction) → slice_get (contexts p) k ≡ Some c → spot_at p c.fun path ≡ AtAction a →
      ActionWays p c (map (λ (l : Lead). l.way) (leads_of p (contexts p) k c.fun path a)) (action_of a)
  action_ways k c path (Unset x) e is = refl
  action_ways k c path (Assign place o value offset) e is = refl
  action_ways k c path (Malloc place size offset) e is = refl
  action_ways k c path (Getchar place) e is = refl
  action_ways k c path (Putchar value) e is = refl
  action_ways k c path (Printf text arguments) e is = refl
  action_ways k c path (Test t) e is = said_ways k c.fun path (says t)
  action_ways k c path (Invoke number callee arguments target) e is =
      ap (λ (o : Option ℕ). map (λ (l : Lead). l.way) (enter_leads o)) (enters_one k c path number callee arguments target e is).1
  action_ways k c path (Return value offset) e is = leaves_ways k c path e
  action_ways k c path (Close t offset) e is =
      subst (λ (b : Bool). BraceWays c.home (map (λ (l : Lead). l.way) (leads_of p (contexts p) k c.fun path (Close t offset))) b) (sym (closing_place p w c.fun path t offset is)) (brace_ways k c path t offset e)

  placed_ways : (k : ℕ) (c : Ctx) (path : List ℕ) (spot : Spot) (y : Placed) → slice_get (contexts p) k ≡ Some c → spot_at p c.fun path ≡ spot → Has y (placed_at p (contexts p) k c.fun path spot) →
      (c : Ctx) × (slice_get (contexts p) y.node.ctx ≡ Some c) × NodeWays p c (map (λ (l : Lead). l.way) y.leads) y.node.kind
  placed_ways k c path (AtGap g) y e is h =
      subst (λ (z : Placed). (c : Ctx) × (slice_get (contexts p) z.node.ctx ≡ Some c) × NodeWays p c (map (λ (l : Lead). l.way) z.leads) z.node.kind) (sym (only_one h)) (c, e, refl)
  placed_ways k c path (AtAction a) y e is h =
      subst (λ (z : Placed). (c : Ctx) × (slice_get (contexts p) z.node.ctx ≡ Some c) × NodeWays p c (map (λ (l : Lead). l.way) z.leads) z.node.kind) (sym (only_one h)) (c, e, action_ways k c path a e is)
  placed_ways k c path Nowhere y e is h = elim h [ ]

  exit_ways : (path : List ℕ) (spot : Spot) (y : Placed) → Has y (exit_at path spot) → (c : Ctx) × (slice_get (contexts p) y.node.ctx ≡ Some c) × NodeWays p c (map (λ (l : Lead). l.way) y.leads) y.node.kind
  exit_ways path (AtAction (Return value offset)) y h =
      subst (λ (z : Placed). (c : Ctx) × (slice_get (contexts p) z.node.ctx ≡ Some c) × NodeWays p c (map (λ (l : Lead). l.way) z.leads) z.node.kind) (sym (only_one h)) (context p.main None, main_first p (calls_in_order p w).calls, refl)
  exit_ways path (AtAction (Close t offset)) y h =
      subst (λ (z : Placed). (c : Ctx) × (slice_get (contexts p) z.node.ctx ≡ Some c) × NodeWays p c (map (λ (l : Lead). l.way) z.leads) z.node.kind) (sym (only_one h)) (context p.main None, main_first p (calls_in_order p w).calls, refl)
  exit_ways path _ y h = elim h [ ]

  -- the ways on from what stands at a node
  pub of_placed : (y : Placed) → IsPlaced p (contexts p) y → (c : Ctx) × (slice_get (contexts p) y.node.ctx ≡ Some c) × NodeWays p c (map (λ (l : Lead). l.way) y.leads) y.node.kind
  of_placed y (in_context k c path e h) = placed_ways k c path (spot_at p c.fun path) y e refl h
  of_placed y (an_exit path h) = exit_ways path (spot_at p p.main path) y h

  -- what stands at a node
  pub placed_of : (v : ℕ) (n : Node) → slice_get (graph p (contexts p)).nodes v ≡ Some n → (y : Placed) × (slice_get (all_placed p (contexts p)) v ≡ Some y) × (y.node ≡ n)
  placed_of v n e = by_place (slice_get (all_placed p (contexts p)) v) refl (sym (slice_get-map (λ (x : Placed). x.node) (all_placed p (contexts p)) v) ∙ e)
    where
      by_place : (o : Option Placed) → slice_get (all_placed p (contexts p)) v ≡ o → option_map (λ (x : Placed). x.node) o ≡ Some n → (y : Placed) × (slice_get (all_placed p (contexts p)) v ≡ Some y) × (y.node ≡ n)
      by_place None is g = absurd cc
      by_place (Some y) is g = let same : y.node ≡ n = cc in (y, is, same)

  pub has_its_ways : HasItsWays p
  has_its_ways v n e =
      let it = placed_of v n e in
      let found = of_placed it.0 (all_are_placed p (contexts p) (has_get (all_placed p (contexts p)) v it.1)) in
      subst (λ (m : Node). (c : Ctx) × (slice_get (contexts p) m.ctx ≡ Some c) × NodeWays p c (ways_at (graph p (contexts p)) v) m.kind) it.2
      (found.0, found.1, subst (λ (ws : List Way). NodeWays p found.0 ws it.0.node.kind) (sym (ways_of_node p (contexts p) v it.0 it.1)) found.2)
