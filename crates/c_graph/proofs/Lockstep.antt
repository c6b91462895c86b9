-- The machine over nodes goes in lockstep with the machine whose control is a list of frames, over any store whose effects
-- send control only where edges lead.
use Rattle.std.proofs.Common.{◌≡◌, ◌≢◌, ℕ, zero, suc, ◌+◌, ◌==◌, ◌&&◌, ◌⊎◌, inl, inr, ⊎_elim, Bool, true, false, List, [], ◌∷◌, ◌++◌, map, length, slice_get, Option, Some, None, option_and_then, refl, ap, sym, subst, ◌∙◌, arith, flat_map}
use Rattle.std.specs.Prelude.{if◌then◌else◌}
use Rattle.std.proofs.lemmas.Bool.{eqb-true, eqb-false, eq-eqb}
use Rattle.std.proofs.lemmas.Option.{slice_get_past}
use Rattle.c_tree.specs.declared.expr.Expr.{Expr}
use Rattle.c_tree.specs.declared.program.FunDef.{FunDef}
use Rattle.c_tree.specs.declared.program.Program.{Program}
use Rattle.c_meaning.specs.declared.value.Value.{Value}
use Rattle.c_meaning.specs.declared.machine.Frame.{Frame}
use Rattle.c_meaning.specs.Parts.{Instruction, Unset, Assign, Malloc, Getchar, Putchar, Printf, Test, Invoke, Return, Close}
use Rattle.c_meaning.specs.Place.{Spot, AtGap, AtAction, Nowhere}
use Rattle.c_meaning.specs.Effects.{Effect, Calls, Returns}
use Rattle.c_meaning.specs.Step.{Acts, State, with, here, target_in, gone_on, unless_over, at_spot, walked, unless_ended, stepped}
use Rattle.c_tree.specs.declared.control.UserCall.{UserCall}
use Rattle.call_contexts.specs.declared.context.Ctx.{Ctx}
use Rattle.call_contexts.specs.Contexts.{context, contexts, callee_of, home_of}
use Rattle.call_contexts.proofs.Has.{Has, first, later, contains_has, only_one}
use Rattle.call_contexts.proofs.ContextLaws.{context_comes, main_first, callee_stands}
use Rattle.c_graph.specs.declared.graph.Way.{Way}
use Rattle.c_graph.specs.declared.graph.Way.TheVariants as way
use Rattle.c_graph.specs.declared.graph.Node.{Node}
use Rattle.c_graph.specs.declared.graph.NodeKind.TheVariants.{Gap as GapNode, Act, Exit}
use Rattle.c_graph.specs.declared.graph.Edge.{Edge}
use Rattle.c_graph.specs.declared.graph.Graph.{Graph}
use Rattle.c_graph.specs.Actions.{action_of, instruction_of}
use Rattle.c_graph.specs.Nodes.{spot_at, next_at, places, Symbol, In, Out, Lead, lead, says, way_said, on_leads, enter_leads, back_leads, return_leads, leave_leads, leads_of, Placed, placed_at, exit_of, exit_at, all_placed, number_of, edge_of, graph}
use Rattle.c_graph.specs.Moves.{At, stands, first_edge, allows, enters, leaves, moved, left, acted, done, behind_frees, at_node, nodes_walked, nodes_unless_ended, nodes_stepped, graph_run}
use Rattle.c_graph.proofs.Follows.{HasCallsInOrder, renumbered, GoesOn, Follows, stays, passes, said, calls, returns, closes, ends, FollowsEdges}
use Rattle.c_graph.proofs.Listed.{stands_listed}
use Rattle.c_graph.proofs.Starts.{first_node}
use Rattle.c_graph.proofs.Invoked.{call_of, spot_calls, invoked}
use Rattle.c_graph.proofs.Numbers.{place_numbered, exit_numbered, nowhere_numbered, first_from, node_at}

-- first edges

pub taken : (asked : Way → Bool) (v to : ℕ) (w : Way) (rest : List Edge) → asked w ≡ true → first_edge asked v (record { from = v; to = to; way = w } ∷ rest) ≡ Some (record { from = v; to = to; way = w })
taken asked v to w rest e = ap (λ (b : Bool). if (b && asked w) then Some (record { from = v; to = to; way = w }) else first_edge asked v rest) (eq-eqb v v refl)
    ∙ ap (λ (b : Bool). if b then Some (record { from = v; to = to; way = w }) else first_edge asked v rest) e

skipped_by : (asked : Way → Bool) (v : ℕ) (e : Edge) (rest : List Edge) (b c : Bool) → c ≡ false → (if (b && c) then Some e else first_edge asked v rest) ≡ first_edge asked v rest
skipped_by asked v e rest true c is = ap (λ (d : Bool). if d then Some e else first_edge asked v rest) is
skipped_by asked v e rest false c is = refl

skipped : (asked : Way → Bool) (v : ℕ) (e : Edge) (rest : List Edge) → asked e.way ≡ false → first_edge asked v (e ∷ rest) ≡ first_edge asked v rest
skipped asked v e rest is = skipped_by asked v e rest (e.from == v) (asked e.way) is

module _ (p : Program) (cs : List Ctx) where
  -- the edge that is asked for leads to that symbol
  abbrev pub LeadsTo : (Way → Bool) → ℕ → List Lead → Symbol → Type 0
  LeadsTo asked v leads to = (e : Edge) × (first_edge asked v (map (edge_of p cs v) leads) ≡ Some e) × (e.to ≡ number_of p cs to)

  first_leads : (asked : Way → Bool) (v : ℕ) (w : Way) (to : Symbol) (rest : List Lead) → asked w ≡ true → LeadsTo asked v (lead w to ∷ rest) to
  first_leads asked v w to rest e = (edge_of p cs v (lead w to), taken asked v (number_of p cs to) w (map (edge_of p cs v) rest) e, refl)

  plain_leads : (v k f : ℕ) (path : List ℕ) (a : Instruction) → GoesOn a → LeadsTo (allows None) v (leads_of p cs k f path a) (In k (next_at p f None path))
  plain_leads v k f path (Unset x) h = first_leads (allows None) v way.On (In k (next_at p f None path)) [] refl
  plain_leads v k f path (Assign place o value offset) h = first_leads (allows None) v way.On (In k (next_at p f None path)) [] refl
  plain_leads v k f path (Malloc place size offset) h = first_leads (allows None) v way.Made (In k (next_at p f None path)) (lead way.NotMade (In k (next_at p f None path)) ∷ []) refl
  plain_leads v k f path (Getchar place) h = first_leads (allows None) v way.On (In k (next_at p f None path)) [] refl
  plain_leads v k f path (Putchar value) h = first_leads (allows None) v way.On (In k (next_at p f None path)) [] refl
  plain_leads v k f path (Printf text arguments) h = first_leads (allows None) v way.On (In k (next_at p f None path)) [] refl
  plain_leads v k f path (Test e) h = absurd h
  plain_leads v k f path (Invoke number callee arguments target) h = absurd h
  plain_leads v k f path (Return value offset) h = absurd h
  plain_leads v k f path (Close goes_back offset) h = absurd h

  said_later : (v k f : ℕ) (path : List ℕ) (b c : Bool) (bs : List Bool) → LeadsTo (allows (Some b)) v (map (λ d. lead (way_said d) (In k (next_at p f (Some d) path))) bs) (In k (next_at p f (Some b) path)) →
      LeadsTo (allows (Some b)) v (map (λ d. lead (way_said d) (In k (next_at p f (Some d) path))) (c ∷ bs)) (In k (next_at p f (Some b) path))
  said_later v k f path true true bs rest = first_leads (allows (Some true)) v way.True (In k (next_at p f (Some true) path)) (map (λ d. lead (way_said d) (In k (next_at p f (Some d) path))) bs) refl
  said_later v k f path false false bs rest = first_leads (allows (Some false)) v way.False (In k (next_at p f (Some false) path)) (map (λ d. lead (way_said d) (In k (next_at p f (Some d) path))) bs) refl
  said_later v k f path true false bs rest =
      (rest.0, skipped (allows (Some true)) v (edge_of p cs v (lead way.False (In k (next_at p f (Some false) path)))) (map (edge_of p cs v) (map (λ d. lead (way_said d) (In k (next_at p f (Some d) path))) bs)) refl ∙ rest.1, rest.2)
  said_later v k f path false true bs rest =
      (rest.0, skipped (allows (Some false)) v (edge_of p cs v (lead way.True (In k (next_at p f (Some true) path)))) (map (edge_of p cs v) (map (λ d. lead (way_said d) (In k (next_at p f (Some d) path))) bs)) refl ∙ rest.1, rest.2)

  pub said_leads : (v k f : ℕ) (path : List ℕ) (b : Bool) (bs : List Bool) → Has b bs → LeadsTo (allows (Some b)) v (map (λ d. lead (way_said d) (In k (next_at p f (Some d) path))) bs) (In k (next_at p f (Some b) path))
  said_leads v k f path b [] h = elim h [ ]
  said_leads v k f path true (c ∷ bs) first = first_leads (allows (Some true)) v way.True (In k (next_at p f (Some true) path)) (map (λ d. lead (way_said d) (In k (next_at p f (Some d) path))) bs) refl
  said_leads v k f path false (c ∷ bs) first = first_leads (allows (Some false)) v way.False (In k (next_at p f (Some false) path)) (map (λ d. lead (way_said d) (In k (next_at p f (Some d) path))) bs) refl
  said_leads v k f path b (c ∷ bs) (later h) = said_later v k f path b c bs (said_leads v k f path b bs h)

-- back from a call

-- the number of a call that stands at a place
abbrev other_number : Spot → ℕ
other_number (AtAction (Invoke number callee arguments target)) = number
other_number spot = 0

not_first : {q r : List ℕ} {qs : List (List ℕ)} → (r ≡ q → ⊥) → Has q (r ∷ qs) → Has q qs
not_first never first = absurd (never refl)
not_first never (later h) = h

module _ (p : Program) (order : HasCallsInOrder p) (cs : List Ctx) (k f number callee : ℕ) (q : List ℕ) (arguments : List Expr) (target : Option ℕ)
    (stands_there : spot_at p f q ≡ AtAction (Invoke number callee arguments target)) where
  abbrev back_lead : Lead
  back_lead = lead (way.Leave target) (In k (next_at p f None q))

  numbers_differ : (other callee' : ℕ) (arguments' : List Expr) (target' : Option ℕ) (r : List ℕ) (t : Bool) → (other == number) ≡ t → spot_at p f r ≡ AtAction (Invoke other callee' arguments' target') →
      ((if t then lead (way.Leave target') (In k (next_at p f None r)) ∷ [] else []) ≡ [] × (r ≡ q → ⊥)) ⊎ (r ≡ q)
  numbers_differ other callee' arguments' target' r true e is =
      let same : other ≡ number = eqb-true other number e in
      inr (order.once f r q number callee' callee arguments' arguments target' target (is ∙ ap (λ (n : ℕ). AtAction (Invoke n callee' arguments' target')) same) stands_there)
  numbers_differ other callee' arguments' target' r false e is =
      inl (refl, λ there. eqb-false other number e (ap other_number (sym is ∙ ap (spot_at p f) there ∙ stands_there)))

  back_case : (r : List ℕ) (spot : Spot) → spot_at p f r ≡ spot → ((back_leads p k f number r spot ≡ []) × (r ≡ q → ⊥)) ⊎ (r ≡ q)
  back_case r (AtGap g) is = inl (refl, λ there. let never : AtGap g ≡ AtAction (Invoke number callee arguments target) = sym is ∙ ap (spot_at p f) there ∙ stands_there in absurd cc)
  back_case r Nowhere is = inl (refl, λ there. let never : Nowhere ≡ AtAction (Invoke number callee arguments target) = sym is ∙ ap (spot_at p f) there ∙ stands_there in absurd cc)
  back_case r (AtAction (Invoke other callee' arguments' target')) is = numbers_differ other callee' arguments' target' r (other == number) refl is
  back_case r (AtAction a) is = inl (refl, λ there. let never : AtAction a ≡ AtAction (Invoke number callee arguments target) = sym is ∙ ap (spot_at p f) there ∙ stands_there in absurd cc)

  back_at : (r : List ℕ) → r ≡ q → back_leads p k f number r (spot_at p f r) ≡ back_lead ∷ []
  back_at r there =
      ap (λ (s : List ℕ). back_leads p k f number s (spot_at p f s)) there ∙ ap (back_leads p k f number q) stands_there
      ∙ ap (λ (b : Bool). if b then back_lead ∷ [] else []) (eq-eqb number number refl)

  -- a return's first edge leads to what follows the call
  first_back : (v : ℕ) (qs : List (List ℕ)) → Has q qs →
      first_edge leaves v (map (edge_of p cs v) (flat_map (λ r. back_leads p k f number r (spot_at p f r)) qs)) ≡ Some (edge_of p cs v back_lead)
  first_back v [] h = elim h [ ]
  first_back v (r ∷ qs) h = ⊎_elim
      (λ other. ap (λ (ls : List Lead). first_edge leaves v (map (edge_of p cs v) (ls ++ flat_map (λ r. back_leads p k f number r (spot_at p f r)) qs))) other.0 ∙ first_back v qs (not_first other.1 h))
      (λ there. ap (λ (ls : List Lead). first_edge leaves v (map (edge_of p cs v) (ls ++ flat_map (λ r. back_leads p k f number r (spot_at p f r)) qs))) (back_at r there)
      ∙ taken leaves v (number_of p cs (In k (next_at p f None q))) (way.Leave target) (map (edge_of p cs v) (flat_map (λ r. back_leads p k f number r (spot_at p f r)) qs)) refl)
      (back_case r (spot_at p f r) refl)

-- the two machines

some_none : {A : Type 0} (x : A) → Some x ≡ None → ⊥
some_none x e = absurd cc

invokes_somewhere : {spot : Spot} {number callee : ℕ} {arguments : List Expr} {target : Option ℕ} → spot ≡ AtAction (Invoke number callee arguments target) → spot ≢ Nowhere
invokes_somewhere {number = number} {callee = callee} {arguments = arguments} {target = target} is none =
    let never : AtAction (Invoke number callee arguments target) ≡ Nowhere = sym is ∙ none in absurd cc

module _ {M : Type 0} (p : Program) (order : HasCallsInOrder p) (s : Acts M) (fits : FollowsEdges s) where
  abbrev pub cs : List Ctx
  cs = contexts p

  abbrev pub g : Graph
  g = graph p (contexts p)

  abbrev pub frame : ℕ → List ℕ → Option ℕ → Frame
  frame f path target = record { fun = f; path = path; target = target }

  -- the frames below that of context k, whose result goes to `target`
  pub data Callers : ℕ → Option ℕ → List Frame → Type 0 where
    bottom : (k : ℕ) (target : Option ℕ) → home_of cs k ≡ None → Callers k target []
    called_by : (k j n : ℕ) (c : Ctx) (q : List ℕ) (callee : ℕ) (arguments : List Expr) (target below : Option ℕ) (fs : List Frame) → home_of cs k ≡ Some (j, n) → slice_get cs j ≡ Some c →
        spot_at p c.fun q ≡ AtAction (Invoke n callee arguments target) → Callers j below fs → Callers k target (frame c.fun (next_at p c.fun None q) below ∷ fs)

  -- with these frames nothing happens, whatever the store
  abbrev pub IdleFrames : List Frame → Type 0
  IdleFrames fs = (n : ℕ) (m : M) → walked p s n (with fs m) ≡ with fs m

  abbrev pub IdleNode : ℕ → Type 0
  IdleNode v = (n : ℕ) (m : M) → nodes_walked g cs s n (stands v m) ≡ stands v m

  -- frames and the node that stands for them
  pub data Locked : List Frame → ℕ → Type 0 where
    at_place : (k : ℕ) (c : Ctx) (path : List ℕ) (target : Option ℕ) (fs : List Frame) (v : ℕ) (y : Placed) → slice_get cs k ≡ Some c → Has y (placed_at p cs k c.fun path (spot_at p c.fun path)) →
        slice_get (all_placed p cs) v ≡ Some y → Callers k target fs → Locked (frame c.fun path target ∷ fs) v
    idle : (fs : List Frame) (v : ℕ) → IdleFrames fs → IdleNode v → Locked fs v

  -- the same store, and control at the same place
  pub data Agree : State M → At M → Type 0 where
    agree : (fs : List Frame) (v : ℕ) (m : M) → Locked fs v → Agree (with fs m) (stands v m)

  -- idleness

  spot_idle : (fs : List Frame) → here p fs ≡ Nowhere → IdleFrames fs
  spot_idle fs e zero m = refl
  spot_idle fs e (suc n) m = ap (λ (x : Spot). at_spot p s (walked p s n) x fs m) e

  brace_idle : (fs : List Frame) (offset : ℕ) → here p fs ≡ AtAction (Close false offset) → IdleFrames fs
  brace_idle fs offset e zero m = refl
  brace_idle fs offset e (suc n) m = ap (λ (x : Spot). at_spot p s (walked p s n) x fs m) e ∙ ap (λ (x : Effect M). gone_on p s None fs x) (fits.excluded offset m)

  none_idle : (v : ℕ) → slice_get g.nodes v ≡ None → IdleNode v
  none_idle v e zero m = refl
  none_idle v e (suc n) m = ap (λ (x : Option Node). at_node g cs s (nodes_walked g cs s n) v m x) e

  exit_idle : (v k offset : ℕ) → slice_get g.nodes v ≡ Some (record { ctx = k; kind = Exit offset }) → IdleNode v
  exit_idle v k offset e zero m = refl
  exit_idle v k offset e (suc n) m = ap (λ (x : Option Node). at_node g cs s (nodes_walked g cs s n) v m x) e

  lost_idle : IdleNode (length g.nodes)
  lost_idle = none_idle (length g.nodes) (slice_get_past g.nodes (length g.nodes) (omega arith))

  -- arrivals

  settle_at : (k : ℕ) (c : Ctx) (path : List ℕ) (target : Option ℕ) (fs : List Frame) (spot : Spot) → slice_get cs k ≡ Some c → Callers k target fs → spot_at p c.fun path ≡ spot →
      Locked (frame c.fun path target ∷ fs) (number_of p cs (In k path))
  settle_at k c path target fs (AtGap x) e callers is =
      let y : Placed = record { symbol = In k path; node = record { ctx = k; kind = GapNode x.number x.frees }; leads = on_leads p k c.fun path } in
      let h : Has y (placed_at p cs k c.fun path (spot_at p c.fun path)) = subst (λ (z : Spot). Has y (placed_at p cs k c.fun path z)) (sym is) first in
      at_place k c path target fs (number_of p cs (In k path)) y e h (place_numbered p cs k c path e h) callers
  settle_at k c path target fs (AtAction a) e callers is =
      let y : Placed = record { symbol = In k path; node = record { ctx = k; kind = Act (action_of a) }; leads = leads_of p cs k c.fun path a } in
      let h : Has y (placed_at p cs k c.fun path (spot_at p c.fun path)) = subst (λ (z : Spot). Has y (placed_at p cs k c.fun path z)) (sym is) first in
      at_place k c path target fs (number_of p cs (In k path)) y e h (place_numbered p cs k c path e h) callers
  settle_at k c path target fs Nowhere e callers is =
      idle (frame c.fun path target ∷ fs) (number_of p cs (In k path)) (spot_idle (frame c.fun path target ∷ fs) is) (none_idle (number_of p cs (In k path)) (nowhere_numbered p cs k c path e is))

  settle : (k : ℕ) (c : Ctx) (path : List ℕ) (target : Option ℕ) (fs : List Frame) → slice_get cs k ≡ Some c → Callers k target fs → Locked (frame c.fun path target ∷ fs) (number_of p cs (In k path))
  settle k c path target fs e callers = settle_at k c path target fs (spot_at p c.fun path) e callers refl

  -- over an edge to that place
  arrive : (k : ℕ) (c : Ctx) (path : List ℕ) (target : Option ℕ) (fs : List Frame) (m : M) (o : Option Edge) (e : Edge) → slice_get cs k ≡ Some c → Callers k target fs →
      o ≡ Some e → e.to ≡ number_of p cs (In k path) → Agree (with (frame c.fun path target ∷ fs) m) (moved g cs s m o)
  arrive k c path target fs m o e is callers found to =
      subst (λ (x : Option Edge). Agree (with (frame c.fun path target ∷ fs) m) (moved g cs s m x)) (sym found)
      (subst (λ (v : ℕ). Agree (with (frame c.fun path target ∷ fs) m) (stands v m)) (sym to)
      (agree (frame c.fun path target ∷ fs) (number_of p cs (In k path)) m (settle k c path target fs is callers)))

  home_at : (k j n f : ℕ) → slice_get cs k ≡ Some (context f (Some (j, n))) → home_of cs k ≡ Some (j, n)
  home_at k j n f e = ap (option_and_then (λ (c : Ctx). c.home)) e

  -- a context without a home is that of `main`
  is_main : (k : ℕ) (c : Ctx) → slice_get cs k ≡ Some c → home_of cs k ≡ None → c.fun ≡ p.main
  is_main k c e none = ⊎_elim
      (λ is. ap (λ (x : Ctx). x.fun) is)
      (λ from.
      let home : Some (0 + from.place, from.call.number) ≡ None = sym (ap (λ (x : Ctx). x.home) from.is) ∙ sym (ap (option_and_then (λ (x : Ctx). x.home)) e) ∙ none in
      absurd (some_none (0 + from.place, from.call.number) home))
      (context_comes p k c e)

  -- returns

  exit_leads : (offset : ℕ) (path : List ℕ) → Has (exit_of path offset) (exit_at path (spot_at p p.main path)) → IdleNode (number_of p cs (Out path))
  exit_leads offset path h = exit_idle (number_of p cs (Out path)) 0 offset (node_at p cs (number_of p cs (Out path)) (exit_of path offset) (exit_numbered p cs path h))

  -- what leaves a function, and the offset of the exit where the function is `main`
  data IsLeaving : Instruction → ℕ → Type 0 where
    by_return : (value : Option Expr) (offset : ℕ) → IsLeaving (Return value offset) offset
    by_brace : (offset : ℕ) → IsLeaving (Close true offset) offset

  leaving_leads : {a : Instruction} {offset : ℕ} (k f : ℕ) (path : List ℕ) → IsLeaving a offset → leads_of p cs k f path a ≡ leave_leads p cs path (home_of cs k)
  leaving_leads k f path (by_return value offset) = refl
  leaving_leads k f path (by_brace offset) = refl

  leaving_exit : {a : Instruction} {offset : ℕ} (path : List ℕ) → IsLeaving a offset → Has (exit_of path offset) (exit_at path (AtAction a))
  leaving_exit path (by_return value offset) = first
  leaving_exit path (by_brace offset) = first

  gone_back_agrees : (k : ℕ) (c : Ctx) (path : List ℕ) (target : Option ℕ) (fs : List Frame) (v : ℕ) (y : Placed) (a : Instruction) (offset : ℕ) (w : Option Value) (m : M) →
      slice_get cs k ≡ Some c → spot_at p c.fun path ≡ AtAction a → IsLeaving a offset → slice_get (all_placed p cs) v ≡ Some y → y.leads ≡ leads_of p cs k c.fun path a → Callers k target fs →
      Agree (gone_on p s (target_in a) (frame c.fun path target ∷ fs) (Returns w m)) (acted g cs s v k (Returns w m))
  gone_back_agrees k c path target _ v y a offset w m e is leaving numbered theirs (bottom _ _ home) =
      let edge = edge_of p cs v (lead way.On (Out path)) in
      let found : first_edge leaves v g.edges ≡ Some edge =
      first_from p cs leaves v y numbered ∙ ap (λ (ls : List Lead). first_edge leaves v (map (edge_of p cs v) ls)) (theirs ∙ leaving_leads k c.fun path leaving ∙ ap (leave_leads p cs path) home)
      ∙ taken leaves v (number_of p cs (Out path)) way.On [] refl in
      let there : spot_at p p.main path ≡ AtAction a = ap (λ (f : ℕ). spot_at p f path) (sym (is_main k c e home)) ∙ is in
      let leaves_to : left g cs s w m (slice_get cs k) (first_edge leaves v g.edges) ≡ stands (number_of p cs (Out path)) (s.ended w m) =
      ap (λ (x : Option Ctx). left g cs s w m x (first_edge leaves v g.edges)) e ∙ ap (left g cs s w m (Some c)) found in
      subst (λ (x : At M). Agree (with [] (s.ended w m)) x) (sym leaves_to)
      (agree [] (number_of p cs (Out path)) (s.ended w m) (idle [] (number_of p cs (Out path)) (spot_idle [] refl)
      (exit_leads offset path (subst (λ (x : Spot). Has (exit_of path offset) (exit_at path x)) (sym there) (leaving_exit path leaving)))))
  gone_back_agrees k c path target _ v y a offset w m e is leaving numbered theirs (called_by _ j n d q callee arguments _ below fs home caller called callers) =
      let edge = edge_of p cs v (lead (way.Leave target) (In j (next_at p d.fun None q))) in
      let found : first_edge leaves v g.edges ≡ Some edge =
      first_from p cs leaves v y numbered
      ∙ ap (λ (ls : List Lead). first_edge leaves v (map (edge_of p cs v) ls)) (theirs ∙ leaving_leads k c.fun path leaving ∙ ap (leave_leads p cs path) home ∙ ap (return_leads p j n) caller)
      ∙ first_back p order cs j d.fun n callee q arguments target called v (places p d.fun) (stands_listed p d.fun q (invokes_somewhere called)) in
      let leaves_to : left g cs s w m (slice_get cs k) (first_edge leaves v g.edges) ≡ stands (number_of p cs (In j (next_at p d.fun None q))) (s.back c.fun target w m) =
      ap (λ (x : Option Ctx). left g cs s w m x (first_edge leaves v g.edges)) e ∙ ap (left g cs s w m (Some c)) found in
      subst (λ (x : At M). Agree (with (frame d.fun (next_at p d.fun None q) below ∷ fs) (s.back c.fun target w m)) x) (sym leaves_to)
      (agree (frame d.fun (next_at p d.fun None q) below ∷ fs) (number_of p cs (In j (next_at p d.fun None q))) (s.back c.fun target w m) (settle j d (next_at p d.fun None q) below fs caller callers))

  -- actions

  instruction_same : (a : Instruction) → instruction_of (action_of a) ≡ Some (renumbered a)
  instruction_same (Unset x) = refl
  instruction_same (Assign place o value offset) = refl
  instruction_same (Malloc place size offset) = refl
  instruction_same (Getchar place) = refl
  instruction_same (Putchar value) = refl
  instruction_same (Printf text arguments) = refl
  instruction_same (Test e) = refl
  instruction_same (Invoke number callee arguments target) = refl
  instruction_same (Return value offset) = refl
  instruction_same (Close goes_back offset) = refl

  -- into a callee
  enter_agrees : (k : ℕ) (c : Ctx) (path : List ℕ) (below : Option ℕ) (fs : List Frame) (v : ℕ) (y : Placed) (number callee : ℕ) (arguments : List Expr) (target : Option ℕ) (m : M) →
      slice_get cs k ≡ Some c → spot_at p c.fun path ≡ AtAction (Invoke number callee arguments target) → slice_get (all_placed p cs) v ≡ Some y → y.leads ≡ enter_leads (callee_of cs k number) → Callers k below fs →
      Agree (gone_on p s target (frame c.fun path below ∷ fs) (Calls callee m)) (acted g cs s v k (Calls callee m))
  enter_agrees k c path below fs v y number callee arguments target m e is numbered theirs callers =
      let call = invoked c.fun p path (subst (λ (x : Spot). Has (call_of number callee) (spot_calls x)) (sym is) first) in
      let same_number : call.0.number ≡ number = ap (λ (d : UserCall). d.number) call.2 in
      let same_callee : call.0.callee ≡ callee = ap (λ (d : UserCall). d.callee) call.2 in
      let there = callee_stands p order.calls k c call.0 e call.1 in
      let it : (j : ℕ) × (callee_of cs k number ≡ Some j) × (slice_get cs j ≡ Some (context callee (Some (k, number)))) = (there.0, ap (callee_of cs k) (sym same_number) ∙ there.1, there.2 ∙ ap (λ (n : ℕ). Some (context call.0.callee (Some (k, n)))) same_number ∙ ap (λ (f : ℕ). Some (context f (Some (k, number)))) same_callee) in
      let into = context callee (Some (k, number)) in
      let edge = edge_of p cs v (lead way.Enter (In it.0 (0 ∷ []))) in
      let found : first_edge enters v g.edges ≡ Some edge =
      first_from p cs enters v y numbered ∙ ap (λ (ls : List Lead). first_edge enters v (map (edge_of p cs v) ls)) (theirs ∙ ap enter_leads it.1)
      ∙ taken enters v (number_of p cs (In it.0 (0 ∷ []))) way.Enter [] refl in
      arrive it.0 into (0 ∷ []) target (frame c.fun (next_at p c.fun None path) below ∷ fs) m (first_edge enters v g.edges) edge it.2
      (called_by it.0 k number c path callee arguments target below fs (home_at it.0 k number callee it.2) e is callers) found refl

  act_agrees : (m : M) {x z : Effect M} (k : ℕ) (c : Ctx) (path : List ℕ) (target : Option ℕ) (fs : List Frame) (v : ℕ) (y : Placed) (a : Instruction) →
      slice_get cs k ≡ Some c → spot_at p c.fun path ≡ AtAction a → Has y (placed_at p cs k c.fun path (spot_at p c.fun path)) → slice_get (all_placed p cs) v ≡ Some y → y.leads ≡ leads_of p cs k c.fun path a → Callers k target fs →
      Follows a m x z → Agree (gone_on p s (target_in a) (frame c.fun path target ∷ fs) x) (acted g cs s v k z)
  act_agrees m k c path target fs v y _ e is h numbered theirs callers (stays _ _ n) = agree (frame c.fun path target ∷ fs) v n (at_place k c path target fs v y e h numbered callers)
  act_agrees m k c path target fs v y a e is h numbered theirs callers (passes _ _ n on) =
      let it = plain_leads p cs v k c.fun path a on in
      arrive k c (next_at p c.fun None path) target fs n (first_edge (allows None) v g.edges) it.0 e callers
      (first_from p cs (allows None) v y numbered ∙ ap (λ (ls : List Lead). first_edge (allows None) v (map (edge_of p cs v) ls)) theirs ∙ it.1) it.2
  act_agrees m k c path target fs v y _ e is h numbered theirs callers (said t b _ n says_so) =
      let it = said_leads p cs v k c.fun path b (says t) (contains_has (says t) b says_so) in
      arrive k c (next_at p c.fun (Some b) path) target fs n (first_edge (allows (Some b)) v g.edges) it.0 e callers
      (first_from p cs (allows (Some b)) v y numbered ∙ ap (λ (ls : List Lead). first_edge (allows (Some b)) v (map (edge_of p cs v) ls)) theirs ∙ it.1) it.2
  act_agrees m k c path below fs v y _ e is h numbered theirs callers (calls number callee arguments target _ n) = enter_agrees k c path below fs v y number callee arguments target n e is numbered theirs callers
  act_agrees m k c path target fs v y _ e is h numbered theirs callers (returns value offset _ n w) =
      gone_back_agrees k c path target fs v y (Return value offset) offset w n e is (by_return value offset) numbered theirs callers
  act_agrees m k c path target fs v y _ e is h numbered theirs callers (closes offset _ n w) =
      gone_back_agrees k c path target fs v y (Close true offset) offset w n e is (by_brace offset) numbered theirs callers
  act_agrees m k c path target fs v y _ e is h numbered theirs callers (ends offset _ w) =
      let nothing : first_edge leaves v g.edges ≡ None = first_from p cs leaves v y numbered ∙ ap (λ (ls : List Lead). first_edge leaves v (map (edge_of p cs v) ls)) theirs in
      let is_lost : left g cs s w m (slice_get cs k) (first_edge leaves v g.edges) ≡ stands (length g.nodes) m =
      ap (λ (x : Option Ctx). left g cs s w m x (first_edge leaves v g.edges)) e ∙ ap (left g cs s w m (Some c)) nothing in
      subst (λ (x : At M). Agree (with (frame c.fun path target ∷ fs) m) x) (sym is_lost)
      (agree (frame c.fun path target ∷ fs) (length g.nodes) m (idle (frame c.fun path target ∷ fs) (length g.nodes) (brace_idle (frame c.fun path target ∷ fs) offset is) lost_idle))

  -- one place and one node

  abbrev GoAlike : (State M → State M) → (At M → At M) → Type 0
  GoAlike go then_go = (x : State M) (z : At M) → Agree x z → Agree (go x) (then_go z)

  behind_agrees : (go : State M → State M) (then_go : At M → At M) → GoAlike go then_go → (k : ℕ) (c : Ctx) (path : List ℕ) (target : Option ℕ) (fs : List Frame) (v : ℕ) (y : Placed) (m : M) (b : Bool) →
      slice_get cs k ≡ Some c → Has y (placed_at p cs k c.fun path (spot_at p c.fun path)) → slice_get (all_placed p cs) v ≡ Some y → y.leads ≡ on_leads p k c.fun path → Callers k target fs →
      Agree (unless_over go p (frame c.fun path target ∷ fs) m b) (behind_frees g cs s then_go v m b)
  behind_agrees go then_go alike k c path target fs v y m true e h numbered theirs callers = agree (frame c.fun path target ∷ fs) v m (at_place k c path target fs v y e h numbered callers)
  behind_agrees go then_go alike k c path target fs v y m false e h numbered theirs callers =
      let it = first_leads p cs (allows None) v way.On (In k (next_at p c.fun None path)) [] refl in
      alike (with (frame c.fun (next_at p c.fun None path) target ∷ fs) m) (moved g cs s m (first_edge (allows None) v g.edges))
      (arrive k c (next_at p c.fun None path) target fs m (first_edge (allows None) v g.edges) it.0 e callers
      (first_from p cs (allows None) v y numbered ∙ ap (λ (ls : List Lead). first_edge (allows None) v (map (edge_of p cs v) ls)) theirs ∙ it.1) it.2)

  spot_agrees : (go : State M → State M) (then_go : At M → At M) → GoAlike go then_go → (k : ℕ) (c : Ctx) (path : List ℕ) (target : Option ℕ) (fs : List Frame) (v : ℕ) (y : Placed) (m : M) (spot : Spot) →
      spot_at p c.fun path ≡ spot → slice_get cs k ≡ Some c → Has y (placed_at p cs k c.fun path (spot_at p c.fun path)) → Has y (placed_at p cs k c.fun path spot) → slice_get (all_placed p cs) v ≡ Some y → Callers k target fs →
      Agree (at_spot p s go spot (frame c.fun path target ∷ fs) m) (at_node g cs s then_go v m (Some y.node))
  spot_agrees go then_go alike k c path target fs v y m (AtGap x) is e h here numbered callers =
      let same = only_one here in
      subst (λ (n : Node). Agree (unless_over go p (frame c.fun path target ∷ fs) (s.freed x.frees m) (s.over (s.freed x.frees m))) (at_node g cs s then_go v m (Some n))) (ap (λ (z : Placed). z.node) (sym same))
      (behind_agrees go then_go alike k c path target fs v y (s.freed x.frees m) (s.over (s.freed x.frees m)) e h numbered (ap (λ (z : Placed). z.leads) same) callers)
  spot_agrees go then_go alike k c path target fs v y m (AtAction a) is e h here numbered callers =
      let same = only_one here in
      subst (λ (n : Node). Agree (gone_on p s (target_in a) (frame c.fun path target ∷ fs) (s.effect a m)) (at_node g cs s then_go v m (Some n))) (ap (λ (z : Placed). z.node) (sym same))
      (subst (λ (i : Option Instruction). Agree (gone_on p s (target_in a) (frame c.fun path target ∷ fs) (s.effect a m)) (done g cs s v k m i)) (sym (instruction_same a))
      (act_agrees m k c path target fs v y a e is h numbered (ap (λ (z : Placed). z.leads) same) callers (fits.follows a m)))
  spot_agrees go then_go alike k c path target fs v y m Nowhere is e h here numbered callers = elim here [ ]

  pub walked_agrees : (n : ℕ) (x : State M) (z : At M) → Agree x z → Agree (walked p s n x) (nodes_walked g cs s n z)
  walked_agrees zero x z a = a
  walked_agrees (suc n) _ _ (agree _ _ m (at_place k c path target fs v y e h numbered callers)) =
      subst (λ (x : Option Node). Agree (walked p s (suc n) (with (frame c.fun path target ∷ fs) m)) (at_node g cs s (nodes_walked g cs s n) v m x)) (sym (node_at p cs v y numbered))
      (spot_agrees (walked p s n) (nodes_walked g cs s n) (walked_agrees n) k c path target fs v y m (spot_at p c.fun path) refl e h h numbered callers)
  walked_agrees (suc n) _ _ (agree fs v m (idle _ _ frames node)) =
      subst (λ (x : State M). Agree x (nodes_walked g cs s (suc n) (stands v m))) (sym (frames (suc n) m))
      (subst (λ (x : At M). Agree (with fs m) x) (sym (node (suc n) m)) (agree fs v m (idle fs v frames node)))

  begun_agrees : (fs : List Frame) (v : ℕ) (m : M) (b : Bool) → Locked fs v → Agree (unless_ended p s (with fs m) b) (nodes_unless_ended g cs s (p.gaps + 1) (stands v m) b)
  begun_agrees fs v m true locked = agree fs v m locked
  begun_agrees fs v m false locked = walked_agrees (p.gaps + 1) (with fs (s.begun m)) (stands v (s.begun m)) (agree fs v (s.begun m) locked)

  -- steps go in lockstep
  pub stepped_agrees : {x : State M} {z : At M} → Agree x z → Agree (stepped p s x) (nodes_stepped g cs s (p.gaps + 1) z)
  stepped_agrees (agree fs v m locked) = begun_agrees fs v m (s.over m) locked

  -- the start

  main_is : (o : Option FunDef) → slice_get p.funs p.main ≡ o → (d : FunDef) × (slice_get p.funs p.main ≡ Some d)
  main_is None e = absurd (order.main e)
  main_is (Some d) e = (d, e)

  pub starts_agree : (m : M) → Agree (with (frame p.main (0 ∷ []) None ∷ []) m) (stands 0 m)
  starts_agree m =
      let it = main_is (slice_get p.funs p.main) refl in
      let main = context p.main None in
      let here_first = main_first p order.calls in
      let node = first_node p cs p.main it.0 None it.1 here_first in
      agree (frame p.main (0 ∷ []) None ∷ []) 0 m
      (at_place 0 main (0 ∷ []) None [] 0 node.0 here_first node.1 node.2 (bottom 0 None (ap (option_and_then (λ (c : Ctx). c.home)) here_first)))

  -- runs

  -- n steps
  abbrev pub ran : State M → ℕ → State M
  ran x zero = x
  ran x (suc n) = stepped p s (ran x n)

  pub runs_agree : (m : M) (n : ℕ) → Agree (ran (with (frame p.main (0 ∷ []) None ∷ []) m) n) (graph_run g cs s (p.gaps + 1) m n)
  runs_agree m zero = starts_agree m
  runs_agree m (suc n) = stepped_agrees (runs_agree m n)

  same_store : {x : State M} {z : At M} → Agree x z → x.store ≡ z.store
  same_store (agree fs v m locked) = refl

  -- the machine over nodes has the store of the machine over frames after each number of steps
  pub lockstep : (m : M) (n : ℕ) → (ran (with (frame p.main (0 ∷ []) None ∷ []) m) n).store ≡ (graph_run g cs s (p.gaps + 1) m n).store
  lockstep m n = same_store (runs_agree m n)
