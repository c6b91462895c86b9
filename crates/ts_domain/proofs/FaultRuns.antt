-- In the graph of a well-formed program an action that meets a freed object has edges, and each of them has a read that meets it.
use Rattle.std.proofs.Common.{◌≡◌, ℕ, ◌==◌, ◌⊎◌, inl, inr, Bool, true, false, List, [], ◌∷◌, slice_get, map, Option, Some, None, Result, Ok, Err, refl, ap, sym, subst, ◌∙◌}
use Rattle.std.specs.List.{Contains, filter}
use Rattle.std.specs.Prelude.{if◌then◌else◌}
use Rattle.std.proofs.lemmas.Bool.{eq-eqb}
use Rattle.c_tree.specs.WellFormed.{IsWellFormed}
use Rattle.c_tree.specs.declared.expr.Expr.{Expr, Expr-F, out-Expr, map-Expr, fold_out-Expr}
use Rattle.c_tree.specs.declared.expr.Expr.TheOpen.{Const, Null, Var, Field, Deref, Index, Unary, Binary}
use Rattle.c_tree.specs.declared.program.Program.{Program}
use Rattle.c_meaning.specs.declared.value.Value.{Value}
use Rattle.c_meaning.specs.declared.machine.Kind.{Kind}
use Rattle.c_meaning.specs.declared.machine.Kind.TheVariants.{UseAfterFree}
use Rattle.c_meaning.specs.declared.machine.Ending.TheVariants.{Fault}
use Rattle.c_meaning.specs.declared.machine.Stop.{Stop}
use Rattle.c_meaning.specs.declared.machine.Stop.TheVariants.{Faulted}
use Rattle.c_meaning.specs.Eval.{◌>>=◌, truth, eval, eval_layer}
use Rattle.c_meaning.specs.Effects.{Effect, Passes, attempt}
use Rattle.c_meaning.specs.Machine.{Store}
use Rattle.c_meaning.specs.Parts.{Instruction, Unset, Assign, Malloc, Getchar, Putchar, Printf, Test, Invoke, Return, Close}
use Rattle.call_contexts.specs.declared.context.Ctx.{Ctx}
use Rattle.call_contexts.specs.Contexts.{contexts}
use Rattle.call_contexts.proofs.Has.{Has, first, later, has_map, only_one, contains_has, has_contains}
use Rattle.c_graph.specs.declared.graph.Action.{Action}
use Rattle.c_graph.specs.declared.graph.Action.TheVariants as action
use Rattle.c_graph.specs.declared.graph.Edge.{Edge}
use Rattle.c_graph.specs.declared.graph.Node.{Node}
use Rattle.c_graph.specs.declared.graph.NodeKind.{NodeKind}
use Rattle.c_graph.specs.declared.graph.NodeKind.TheVariants as kind
use Rattle.c_graph.specs.declared.graph.Way.{Way}
use Rattle.c_graph.specs.declared.graph.Way.TheVariants as way
use Rattle.c_graph.specs.Actions.{action_of, instruction_of}
use Rattle.c_graph.specs.Executes.{Faults, by_free, by_action}
use Rattle.c_graph.specs.Nodes.{says_layer, says, way_said, graph}
use Rattle.c_graph.specs.Ways.{ways_at, LeavesBy, ActionWays}
use Rattle.c_graph.proofs.EdgeWays.{edge_of_way, has_its_ways}
use Rattle.ts_domain.specs.declared.names.Names.{Names}
use Rattle.ts_domain.specs.Deeds.{edge_deeds}
use Rattle.ts_domain.specs.FreedReads.{IsHarmless, MeetsFreed}
use Rattle.ts_domain.specs.TypedMachines.{IsTyped}
use Rattle.ts_domain.specs.Views.{AreNames}
use Rattle.ts_domain.proofs.FaultReads.{IsPlain, IsWayFrom, action_meets, action_kind}
use Rattle.ts_domain.proofs.Parameters.{has_parameters}
use Rattle.ts_domain.proofs.TypedNodes.{has_typed_actions, action_stands, placed_of}

-- an instruction assigns plain values
instruction_plain : (i : Instruction) → IsPlain (action_of i)
instruction_plain (Unset x) = tt
instruction_plain (Assign place o value offset) = (value, refl)
instruction_plain (Malloc place size offset) = tt
instruction_plain (Getchar place) = tt
instruction_plain (Putchar value) = tt
instruction_plain (Printf text arguments) = tt
instruction_plain (Test e) = tt
instruction_plain (Invoke number callee arguments target) = tt
instruction_plain (Return value offset) = tt
instruction_plain (Close goes_back offset) = tt

-- each test can say something
says_some : (x : Expr-F Expr) → (b : Bool) × Has b (says_layer x)
says_some (Const v at) = (_, first)
says_some (Null at) = (true, first)
says_some (Var x at) = (true, first)
says_some (Field e f at) = (true, first)
says_some (Deref e at) = (true, first)
says_some (Index e i at) = (true, first)
says_some (Unary o e at) = (true, first)
says_some (Binary o a b at) = (true, first)

-- and all but constants can say both
both_said : (b : Bool) → Has b (true ∷ false ∷ [])
both_said true = first
both_said false = later first

abbrev eval_at : Store → Expr-F Expr → Result Value Stop
eval_at s x = eval_layer s.slots s.objects (map-Expr Expr (Result Value Stop) (eval s.slots s.objects) x)

says_by : (s : Store) (x : Expr-F Expr) (what : Kind) (offset : ℕ) (b : Bool) → (eval_at s x >>= truth) ≡ Err (Faulted what offset) → Has b (says_layer x)
says_by s (Const v at) what offset b stop = absurd cc
says_by s (Null at) what offset b stop = both_said b
says_by s (Var x at) what offset b stop = both_said b
says_by s (Field e f at) what offset b stop = both_said b
says_by s (Deref e at) what offset b stop = both_said b
says_by s (Index e i at) what offset b stop = both_said b
says_by s (Unary o e at) what offset b stop = both_said b
says_by s (Binary o a c at) what offset b stop = both_said b

stop_before : (r : Result Bool Stop) (f : Bool → Effect Store) (what : Kind) (offset : ℕ) → (r >>= λ b. Ok (f b)) ≡ Err (Faulted what offset) → r ≡ Err (Faulted what offset)
stop_before (Ok b) f what offset stop = absurd cc
stop_before (Err x) f what offset stop = let same : x ≡ Faulted what offset = cc in ap (λ (y : Stop). Err y) same

passes_has : {x : Edge} (test : Edge → Bool) (es : List Edge) → Has x es → test x ≡ true → Has x (filter test es)
passes_has test [] h passes = elim h [ ]
passes_has {x} test (y ∷ ys) first passes = subst (λ (b : Bool). Has x (if b then x ∷ filter test ys else filter test ys)) (sym passes) first
passes_has {x} test (y ∷ ys) (later h) passes = by_test (test y) (passes_has test ys h passes)
  where
    by_test : (b : Bool) → Has x (filter test ys) → Has x (if b then y ∷ filter test ys else filter test ys)
    by_test true h = later h
    by_test false h = h

module _ (p : Program) (w : IsWellFormed p) where
  -- which edges there are

  abbrev IsAt : ℕ → ℕ → Action → Type 0
  IsAt v k a = slice_get (graph p (contexts p)).nodes v ≡ Some (record { ctx = k; kind = kind.Act a })

  abbrev HasEdge : ℕ → Way → Type 0
  HasEdge v x = (e : Edge) × Contains (graph p (contexts p)).edges e × (e.from ≡ v) × (e.way ≡ x)

  ways_from : (v k : ℕ) (a : Action) → IsAt v k a → (c : Ctx) × ActionWays p c (ways_at (graph p (contexts p)) v) a
  ways_from v k a stands = let it = has_its_ways p w v (record { ctx = k; kind = kind.Act a }) stands in (it.0, it.2)

  way_there : (v : ℕ) (x : Way) (xs : List Way) → ways_at (graph p (contexts p)) v ≡ xs → Has x xs → HasEdge v x
  way_there v x xs is h = edge_of_way (graph p (contexts p)) v x (has_contains (ways_at (graph p (contexts p)) v) (subst (λ (ys : List Way). Has x ys) (sym is) h))

  abbrev HasSome : ℕ → Type 0
  HasSome v = (e : Edge) × Contains (graph p (contexts p)).edges e × (e.from ≡ v)

  some_edge : (v : ℕ) (x : Way) → HasEdge v x → HasSome v
  some_edge v x it = (it.0, it.1, it.2)

  edge_by : (v : ℕ) (c : Ctx) (a : Action) → ActionWays p c (ways_at (graph p (contexts p)) v) a → (a ≡ action.Close → ⊥) → HasSome v
  edge_by v c (action.Unset x) ways brace = some_edge v way.On (way_there v way.On (way.On ∷ []) ways first)
  edge_by v c (action.Assign a) ways brace = some_edge v way.On (way_there v way.On (way.On ∷ []) ways first)
  edge_by v c (action.Malloc place size at) ways brace = some_edge v way.Made (way_there v way.Made (way.Made ∷ way.NotMade ∷ []) ways first)
  edge_by v c (action.Getchar place) ways brace = some_edge v way.On (way_there v way.On (way.On ∷ []) ways first)
  edge_by v c (action.Putchar e) ways brace = some_edge v way.On (way_there v way.On (way.On ∷ []) ways first)
  edge_by v c (action.Printf text es) ways brace = some_edge v way.On (way_there v way.On (way.On ∷ []) ways first)
  edge_by v c (action.Test e) ways brace = let it = says_some (out-Expr e) in some_edge v (way_said it.0) (way_there v (way_said it.0) (map way_said (says e)) ways (has_map way_said it.1))
  edge_by v c (action.Call f es) ways brace = some_edge v way.Enter (way_there v way.Enter (way.Enter ∷ []) ways first)
  edge_by v c (action.Return value) ways brace = by_home c.home ways
    where
      by_home : (o : Option (ℕ × ℕ)) → LeavesBy o (ways_at (graph p (contexts p)) v) → HasSome v
      by_home None ways = some_edge v way.On (way_there v way.On (way.On ∷ []) ways first)
      by_home (Some home) ways = some_edge v (way.Leave ways.0) (way_there v (way.Leave ways.0) (way.Leave ways.0 ∷ []) ways.1 first)
  edge_by v c action.Close ways brace = absurd (brace refl)

  -- an edge leads on from each action but a closing brace
  pub edge_exists : (v k : ℕ) (a : Action) → slice_get (graph p (contexts p)).nodes v ≡ Some (record { ctx = k; kind = kind.Act a }) → (a ≡ action.Close → ⊥) → (e : Edge) × Contains (graph p (contexts p)).edges e × (e.from ≡ v)
  edge_exists v k a stands brace = let it = ways_from v k a stands in edge_by v it.0 a it.1 brace

  -- a test that has a fault has both edges
  pub test_edges : (v k : ℕ) (e : Expr) (s : Store) (what : Kind) (offset : ℕ) → slice_get (graph p (contexts p)).nodes v ≡ Some (record { ctx = k; kind = kind.Act (action.Test e) }) → attempt p (Test e) s ≡ Err (Faulted what offset) → (b : Bool) →
      (d : Edge) × Contains (graph p (contexts p)).edges d × (d.from ≡ v) × (d.way ≡ way_said b)
  test_edges v k e s what offset stands stop b =
      let it = ways_from v k (action.Test e) stands in
      let here : (eval_at s (out-Expr e) >>= truth) ≡ Err (Faulted what offset) =
      ap (λ (r : Result Value Stop). r >>= truth) (sym (fold_out-Expr (Result Value Stop) (eval_layer s.slots s.objects) e)) ∙ stop_before (eval s.slots s.objects e >>= truth) (λ b. Passes (Some b) s) what offset stop in
      way_there v (way_said b) (map way_said (says e)) it.1 (has_map way_said (says_by s (out-Expr e) what offset b here))

  -- what fits an edge

  edge_way : (e : Edge) → Contains (graph p (contexts p)).edges e → Has e.way (ways_at (graph p (contexts p)) e.from)
  edge_way e among =
      has_map (λ (d : Edge). d.way) (passes_has (λ (d : Edge). d.from == e.from) (graph p (contexts p)).edges (contains_has (graph p (contexts p)).edges e among) (eq-eqb e.from e.from refl))

  way_by : (e : Edge) (c : Ctx) (a : Action) → ActionWays p c (ways_at (graph p (contexts p)) e.from) a → Has e.way (ways_at (graph p (contexts p)) e.from) → IsWayFrom a e.way
  way_by e c (action.Unset x) ways h = tt
  way_by e c (action.Assign a) ways h = tt
  way_by e c (action.Malloc place size at) ways h = tt
  way_by e c (action.Getchar place) ways h = tt
  way_by e c (action.Putchar x) ways h = tt
  way_by e c (action.Printf text es) ways h = tt
  way_by e c (action.Test x) ways h = tt
  way_by e c (action.Call f es) ways h = tt
  way_by e c (action.Return value) ways h = by_home c.home ways
    where
      by_home : (o : Option (ℕ × ℕ)) → LeavesBy o (ways_at (graph p (contexts p)) e.from) → (e.way ≡ way.On) ⊎ ((target : Option ℕ) × (e.way ≡ way.Leave target))
      by_home None ways = inl (only_one (subst (λ (xs : List Way). Has e.way xs) ways h))
      by_home (Some home) ways = inr (ways.0, only_one (subst (λ (xs : List Way). Has e.way xs) ways.1 h))
  way_by e c action.Close ways h = tt

  way_from : (e : Edge) (k : ℕ) (a : Action) → Contains (graph p (contexts p)).edges e → IsAt e.from k a → IsWayFrom a e.way
  way_from e k a among stands = let it = ways_from e.from k a stands in way_by e it.0 a it.1 (edge_way e among)

  plain_at : (v k : ℕ) (a : Action) → IsAt v k a → IsPlain a
  plain_at v k a stands =
      let y = placed_of p w v (record { ctx = k; kind = kind.Act a }) stands in
      let it = action_stands p w v k a y.0 y.1 stands in
      subst IsPlain (sym it.is) (instruction_plain it.instruction)

  -- an instruction without a fault
  never_closes : (i : Instruction) (s : Store) (what : Kind) (offset : ℕ) → instruction_of action.Close ≡ Some i → attempt p i s ≡ Err (Faulted what offset) → ⊥
  never_closes i s what offset is stop =
      let same : i ≡ Close true 0 = cc in
      let never : attempt p (Close true 0) s ≡ Err (Faulted what offset) = ap (λ (j : Instruction). attempt p j s) (sym same) ∙ stop in
      absurd cc

  edge_from : {s t : Store} {what : NodeKind} (v k : ℕ) (kind_of : Kind) (offset : ℕ) → slice_get (graph p (contexts p)).nodes v ≡ Some (record { ctx = k; kind = what }) → Faults p s what t → t.ending ≡ Fault kind_of offset false →
      (e : Edge) × Contains (graph p (contexts p)).edges e × (e.from ≡ v)
  edge_from v k kind_of offset stands (by_free number list what at ended) is = let never : Fault what at true ≡ Fault kind_of offset false = sym ended ∙ is in absurd cc
  edge_from {s} v k kind_of offset stands (by_action a i what at does stop) is =
      edge_exists v k a stands (λ brace. never_closes i s what at (ap instruction_of (sym brace) ∙ does) stop)

  -- an edge leads on from an action that has a fault
  pub fault_edge : (v : ℕ) (node : Node) (s t : Store) (what : Kind) (offset : ℕ) → slice_get (graph p (contexts p)).nodes v ≡ Some node → Faults p s node.kind t → t.ending ≡ Fault what offset false →
      (e : Edge) × Contains (graph p (contexts p)).edges e × (e.from ≡ v)
  fault_edge v node s t what offset stands fault is = edge_from v node.ctx what offset stands fault is

  tests_from : {s t : Store} {what : NodeKind} (v k : ℕ) (e : Expr) → slice_get (graph p (contexts p)).nodes v ≡ Some (record { ctx = k; kind = what }) → what ≡ kind.Act (action.Test e) → Faults p s what t → (b : Bool) →
      (d : Edge) × Contains (graph p (contexts p)).edges d × (d.from ≡ v) × (d.way ≡ way_said b)
  tests_from v k e stands is (by_free number list what at ended) b = absurd cc
  tests_from {s} v k e stands is (by_action a i what at does stop) b =
      let test : a ≡ action.Test e = cc in
      let same : Some i ≡ Some (Test e) = sym does ∙ ap instruction_of test in
      let instruction : i ≡ Test e = cc in
      test_edges v k e s what at (stands ∙ ap (λ (x : NodeKind). Some (record { ctx = k; kind = x })) is) (ap (λ (j : Instruction). attempt p j s) (sym instruction) ∙ stop) b

  -- and edges of both ways from a test that has one
  pub fault_test_edges : (v : ℕ) (node : Node) (s t : Store) (e : Expr) → slice_get (graph p (contexts p)).nodes v ≡ Some node → node.kind ≡ kind.Act (action.Test e) → Faults p s node.kind t → (b : Bool) →
      (d : Edge) × Contains (graph p (contexts p)).edges d × (d.from ≡ v) × (d.way ≡ way_said b)
  fault_test_edges v node s t e stands is fault b = tests_from v node.ctx e stands is fault b

  module _ (n : Names) (names : AreNames p (graph p (contexts p)) n) (s : Store) (sites : List ℕ) (typed : IsTyped n (graph p (contexts p)) sites s) where
    -- where an action attempts to read a freed object, a read of each edge from its node meets it
    pub attempt_meets_read : (e : Edge) (k : ℕ) (a : Action) (i : Instruction) (offset : ℕ) → Contains (graph p (contexts p)).edges e → slice_get (graph p (contexts p)).nodes e.from ≡ Some (record { ctx = k; kind = kind.Act a }) →
        instruction_of a ≡ Some i → attempt p i s ≡ Err (Faulted UseAfterFree offset) → MeetsFreed n (graph p (contexts p)) sites s (edge_deeds n (graph p (contexts p)) e)
    attempt_meets_read e k a i offset among stands is stop =
        action_meets p (graph p (contexts p)) n names (has_typed_actions p w) (has_parameters p w n names.decls) s sites typed e k a i offset stands (plain_at e.from k a stands) (way_from e k a among stands) is stop

    meets_by : {what : NodeKind} {t : Store} (e : Edge) (k offset : ℕ) → Contains (graph p (contexts p)).edges e → slice_get (graph p (contexts p)).nodes e.from ≡ Some (record { ctx = k; kind = what }) →
        Faults p s what t → t.ending ≡ Fault UseAfterFree offset false → MeetsFreed n (graph p (contexts p)) sites s (edge_deeds n (graph p (contexts p)) e)
    meets_by e k offset among stands (by_free number list what at ended) is = let never : Fault what at true ≡ Fault UseAfterFree offset false = sym ended ∙ is in absurd cc
    meets_by e k offset among stands (by_action a i what at does stop) is =
        let same : what ≡ UseAfterFree = cc in
        attempt_meets_read e k a i at among stands does (stop ∙ ap (λ (x : Kind). Err (Faulted x at)) same)

    -- where an action ends a run by the use of a freed object, a read of each edge from its node meets the object
    pub fault_meets_read : (v : ℕ) (node : Node) (t : Store) (offset : ℕ) → slice_get (graph p (contexts p)).nodes v ≡ Some node → Faults p s node.kind t → t.ending ≡ Fault UseAfterFree offset false →
        (e : Edge) → Contains (graph p (contexts p)).edges e → e.from ≡ v → MeetsFreed n (graph p (contexts p)) sites s (edge_deeds n (graph p (contexts p)) e)
    fault_meets_read v node t offset stands fault is e among from = meets_by e node.ctx offset among (ap (slice_get (graph p (contexts p)).nodes) from ∙ stands) fault is

    kind_by : {what : NodeKind} {t : Store} (v k : ℕ) (kind_of : Kind) (offset : ℕ) → slice_get (graph p (contexts p)).nodes v ≡ Some (record { ctx = k; kind = what }) → Faults p s what t → t.ending ≡ Fault kind_of offset false →
        (kind_of ≡ UseAfterFree) ⊎ IsHarmless kind_of
    kind_by v k kind_of offset stands (by_free number list what at ended) is = let never : Fault what at true ≡ Fault kind_of offset false = sym ended ∙ is in absurd cc
    kind_by v k kind_of offset stands (by_action a i what at does stop) is =
        let same : what ≡ kind_of = cc in
        subst (λ (x : Kind). (x ≡ UseAfterFree) ⊎ IsHarmless x) same
        (action_kind p (graph p (contexts p)) n names (has_typed_actions p w) (has_parameters p w n names.decls) s sites typed v k a i what at stands (plain_at v k a stands) does stop)

    -- each other fault of an action is harmless: no action frees an object twice
    pub read_of_freed_only : (v : ℕ) (node : Node) (t : Store) (what : Kind) (offset : ℕ) → slice_get (graph p (contexts p)).nodes v ≡ Some node → Faults p s node.kind t → t.ending ≡ Fault what offset false → (what ≡ UseAfterFree) ⊎ IsHarmless what
    read_of_freed_only v node t what offset stands fault is = kind_by v node.ctx what offset stands fault is
