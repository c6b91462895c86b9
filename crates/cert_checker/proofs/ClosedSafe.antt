-- A program for whose graph a certificate is closed is safe: at each node that a run meets, each object is described by a mark there
-- whose bit says whether it is freed.
use Rattle.std.proofs.Common.{◌≡◌, ℕ, zero, suc, ◌+◌, ◌<◌, ◌⊎◌, ⊎_elim, Bool, true, false, ℤ, List, [], ◌∷◌, ◌++◌, length, get_or, map, slice_get, Option, Some, None, refl, ap, sym, subst, ◌∙◌, arith}
use Rattle.std.specs.Prelude.{All, IsTrue, max, nat_lt}
use Rattle.std.specs.List.{Contains}
use Rattle.std.proofs.lemmas.Bool.{ltb-true, ltb-false}
use Rattle.std.proofs.lemmas.List.{length-append}
use Rattle.std.proofs.lemmas.List.Elements.{All-contains}
use Rattle.std.proofs.lemmas.Option.{slice_get_past, slice_get_within}
use Rattle.c_tree.specs.Typing.{has}
use Rattle.c_tree.specs.WellFormed.{IsWellFormed}
use Rattle.c_tree.specs.declared.expr.Expr.{Expr}
use Rattle.c_tree.specs.declared.program.Free.{Free}
use Rattle.c_tree.specs.declared.program.Program.{Program}
use Rattle.c_meaning.specs.declared.machine.Ending.{Ending}
use Rattle.c_meaning.specs.declared.machine.Ending.TheVariants.{Running, Returned, Fault}
use Rattle.c_meaning.specs.declared.machine.Kind.{Kind}
use Rattle.c_meaning.specs.declared.machine.Kind.TheVariants.{UseAfterFree, DoubleFree}
use Rattle.c_meaning.specs.declared.machine.Object.{Object}
use Rattle.c_meaning.specs.Effects.{is_over, all_freed}
use Rattle.c_meaning.specs.Eval.{is_freed}
use Rattle.c_meaning.specs.Machine.{Store, store_of}
use Rattle.c_meaning.specs.Safe.{IsFault, Safe, run}
use Rattle.call_contexts.specs.Contexts.{contexts}
use Rattle.call_contexts.proofs.Has.{Has}
use Rattle.c_graph.specs.declared.graph.Action.TheVariants as action
use Rattle.c_graph.specs.declared.graph.Edge.{Edge}
use Rattle.c_graph.specs.declared.graph.Graph.{Graph}
use Rattle.c_graph.specs.declared.graph.Node.{Node}
use Rattle.c_graph.specs.declared.graph.NodeKind.{NodeKind}
use Rattle.c_graph.specs.declared.graph.NodeKind.TheVariants.{Gap, Act}
use Rattle.c_graph.specs.declared.graph.Way.{Way}
use Rattle.c_graph.specs.declared.graph.Way.TheVariants as way
use Rattle.c_graph.specs.Executes.{Does, frees, Executes, Faults, by_free, by_action, sites_by, sites_over}
use Rattle.c_graph.specs.Laws.{IsKept}
use Rattle.c_graph.specs.Met.{node_run}
use Rattle.c_graph.specs.Moves.{At}
use Rattle.c_graph.specs.Nodes.{graph}
use Rattle.c_graph.proofs.EdgeEnds.{leads_to_nodes}
use Rattle.c_graph.proofs.Follows.{calls_in_order}
use Rattle.c_graph.proofs.Instance.{run_lockstep}
use Rattle.c_graph.proofs.Kept.{run_holds}
use Rattle.ts_domain.specs.declared.marks.Mark.{Mark}
use Rattle.ts_domain.specs.declared.names.Names.{Names}
use Rattle.ts_domain.specs.Cover.{is_exit, is_exit_at}
use Rattle.ts_domain.specs.Deeds.{edge_deeds}
use Rattle.ts_domain.specs.Describing.{Describes, IsKnownOf, SomeTouched, IsTestAt, opposite}
use Rattle.ts_domain.specs.FreedReads.{IsHarmless, MeetsFreed}
use Rattle.ts_domain.specs.Holding.{MayHolds, FactsHold}
use Rattle.ts_domain.specs.Post.{post}
use Rattle.ts_domain.specs.Views.{AreNames, view_of}
use Rattle.ts_domain.proofs.ExitRuns.{IsExitNode, met_at_exit}
use Rattle.ts_domain.proofs.FaultRuns.{fault_edge, fault_meets_read, fault_test_edges, read_of_freed_only}
use Rattle.ts_domain.proofs.HoldingLaws.{closed_holds, closed_facts}
use Rattle.ts_domain.proofs.MayRuns.{MayOfRuns, may_kept}
use Rattle.ts_domain.proofs.NameLaws.{has_places}
use Rattle.ts_domain.proofs.PathTrue.{TrueOfRuns, true_kept}
use Rattle.ts_domain.proofs.RunsDescribe.{posts_describe, posts_touch, births_describe, less_describes}
use Rattle.cover_certificate.specs.declared.types.Cert.{Cert}
use Rattle.cover_certificate.specs.declared.types.CertMark.{CertMark}
use Rattle.cover_certificate.specs.Closed.{IsClosed, facts_of, freed_behind, frees_at, kind_frees, named, names_freed, node_frees}
use Rattle.cert_checker.proofs.ClosedConditions.{node_low, closed_may, closed_path, birth_matched, post_matched, untouched, freed_at_exit, IsMatch, match}
use Rattle.cert_checker.proofs.EdgeStores.{running, act_freed, past_freed, edge_no_fault}
use Rattle.cert_checker.proofs.GapMarks.{Left, at_first, gap_done}

-- endings

-- no free had a fault, and no action read a freed object
abbrev IsSafeEnd : Ending → Type 0
IsSafeEnd Running = Unit {0}
IsSafeEnd (Returned a) = Unit {0}
IsSafeEnd (Fault what offset true) = ⊥
IsSafeEnd (Fault what offset false) = IsHarmless what

safe_end : (x : Ending) → (IsFault x → ⊥) → IsSafeEnd x
safe_end Running none = tt
safe_end (Returned a) none = tt
safe_end (Fault what offset by) none = absurd (none tt)

never_freed : (offset : ℕ) (by : Bool) → IsSafeEnd (Fault UseAfterFree offset by) → ⊥
never_freed offset true safe = safe
never_freed offset false safe = safe

never_twice : (offset : ℕ) (by : Bool) → IsSafeEnd (Fault DoubleFree offset by) → ⊥
never_twice offset true safe = safe
never_twice offset false safe = safe

-- what a fault is
data IsFaultOf (s : Store) (what : NodeKind) (t : Store) : Type 0 where
  freeing : (number : ℕ) (list : List Free) → what ≡ Gap number list → t ≡ all_freed list s → is_over t.ending ≡ true → IsFaultOf s what t
  acting : (k : Kind) (offset : ℕ) → t.ending ≡ Fault k offset false → IsFaultOf s what t

fault_of : {p : Program} {s t : Store} {what : NodeKind} → Faults p s what t → IsFaultOf s what t
fault_of (by_free number list k offset is) = freeing number list refl refl (ap is_over is)
fault_of (by_action a i k offset does stop) = acting k offset refl

-- all objects are freed
freed_in : (objects : List Object) (o : ℕ) (d : Object) → o < length objects → is_freed objects o ≡ true → (get_or objects o d).freed ≡ true
freed_in [] o d low is = absurd (omega (arith, low))
freed_in (b ∷ objects) zero d low is = is
freed_in (b ∷ objects) (suc o) d low is = freed_in objects o d (omega (arith, low)) is

all_from : (objects : List Object) → ((o : ℕ) → o < length objects → is_freed objects o ≡ true) → All (λ (b : Object). IsTrue b.freed) objects
all_from objects each = λ o d low. freed_in objects o d low (each o low)

-- numbers

first_of : (v k : ℕ) → v < k → 0 < k
first_of v k low = omega (arith, low)

none_low : (o : ℕ) → o < 0 → ⊥
none_low o low = omega (arith, low)

not_older : (o a b : ℕ) → nat_lt o a ≡ false → a ≡ b → o < b → ⊥
not_older o a b is same less = let not_less = ltb-false o a is in absurd (omega (arith, not_less, same, less))

past_all : (objects : List Object) → slice_get objects (length objects) ≡ None
past_all objects = slice_get_past objects (length objects) (omega arith)

-- what there is behind an edge was there, or is the new object of a Made edge
is_new : (v : ℕ) (x : Way) (sites : List ℕ) (o : ℕ) → o < length (sites_by v x sites) → (o < length sites → ⊥) → (x ≡ way.Made) × (o ≡ length sites)
is_new v way.Made sites o low past = let longer : length (sites ++ v ∷ []) ≡ length sites + 1 = length-append sites (v ∷ []) in (refl, new longer)
  where
    new : length (sites ++ v ∷ []) ≡ length sites + 1 → o ≡ length sites
    new longer = by_low (nat_lt o (length sites)) refl
      where
        by_low : (b : Bool) → nat_lt o (length sites) ≡ b → o ≡ length sites
        by_low true is = absurd (past (ltb-true o (length sites) is))
        by_low false is = let not_less = ltb-false o (length sites) is in omega (arith, longer, low, not_less)
is_new v way.On sites o low past = absurd (past low)
is_new v way.True sites o low past = absurd (past low)
is_new v way.False sites o low past = absurd (past low)
is_new v way.NotMade sites o low past = absurd (past low)
is_new v way.Enter sites o low past = absurd (past low)
is_new v (way.Leave target) sites o low past = absurd (past low)

module _ (p : Program) (w : IsWellFormed p) (n : Names) (names : AreNames p (graph p (contexts p)) n) (c : Cert) (closed : IsClosed n (graph p (contexts p)) c) where
  abbrev g : Graph
  g = graph p (contexts p)

  within : (e : Edge) → Contains g.edges e → e.from < max 1 (length g.nodes)
  within e among = node_low e.from (length g.nodes) (All-contains (λ (d : Edge). (d.from < length g.nodes) × (d.to < length g.nodes)) g.edges e (leads_to_nodes p w) among).0

  at_node : (v : ℕ) (x : Node) → slice_get g.nodes v ≡ Some x → v < max 1 (length g.nodes)
  at_node v x at = node_low v (length g.nodes) (slice_get_within g.nodes v x at)

  -- an object is described by a mark at a node, whose bit says whether it is freed
  record Marked (v : ℕ) (s : Store) (sites : List ℕ) (o : ℕ) : Type 0 where
    mark : CertMark
    among : Has mark c.marks
    at : mark.node ≡ v
    describes : Describes n sites (view_of n s) mark.mark o
    bit : mark.freed ≡ is_freed s.objects o

  -- what holds of all that a run meets
  record Keeps (input : List ℕ) (fails : List Bool) (v : ℕ) (s : Store) (sites : List ℕ) : Type 0 where
    may : MayOfRuns p w n names input fails v s sites
    path : TrueOfRuns p w n names input fails v s sites
    ending : IsSafeEnd s.ending
    marks : (IsFault s.ending → ⊥) → (o : ℕ) → o < length s.objects → Marked v s sites o

  -- behind a node, before the edge: the mark that was there, and its bit behind the frees
  record MarkedBehind (v : ℕ) (s t : Store) (sites : List ℕ) (o : ℕ) : Type 0 where
    mark : CertMark
    among : Has mark c.marks
    at : mark.node ≡ v
    describes : Describes n sites (view_of n s) mark.mark o
    bit : freed_behind mark.mark (names_freed n g v) mark.freed ≡ is_freed t.objects o

  module _ (input : List ℕ) (fails : List Bool) where
    abbrev Holds : ℕ → Store → List ℕ → Type 0
    Holds v s sites = Keeps input fails v s sites

    sites_hold : (sites : List ℕ) (v : ℕ) (s : Store) → MayOfRuns p w n names input fails v s sites → MayHolds n c.may sites (view_of n s)
    sites_hold sites v s h = closed_holds n g c.may (closed_may n g c closed within) sites (view_of n s) h.1

    facts_hold : (sites : List ℕ) (v : ℕ) (s : Store) → 0 < max 1 (length g.nodes) → TrueOfRuns p w n names input fails v s sites → FactsHold n c.path v (view_of n s)
    facts_hold sites v s first h = closed_facts n g c.path (has_places p g n names) (closed_path n g c closed within first) v (view_of n s) h.2

    -- node 0 is there where some node is
    first_low : (v : ℕ) → v < max 1 (length g.nodes) → 0 < max 1 (length g.nodes)
    first_low v low = first_of v (max 1 (length g.nodes)) low

    -- what the frees of a gap come to
    gap_behind : (v : ℕ) (s : Store) (sites : List ℕ) (list : List Free) → v < max 1 (length g.nodes) → frees_at g v ≡ list → is_over s.ending ≡ false → Holds v s sites →
        (is_over (all_freed list s).ending ≡ false) × ((o : ℕ) → o < length (all_freed list s).objects → MarkedBehind v s (all_freed list s) sites o)
    gap_behind v s sites list low is going h = subst (λ (fs : List Free). (is_over (all_freed fs s).ending ≡ false) × ((o : ℕ) → o < length (all_freed fs s).objects → MarkedBehind v s (all_freed fs s) sites o)) is (it.0, behind)
      where
        facts : FactsHold n c.path v (view_of n s)
        facts = facts_hold sites v s (first_low v low) h.path

        begin : (o : ℕ) → o < length s.objects → Left p g n names c closed v low sites (view_of n s) facts o (is_freed s.objects o) (frees_at g v)
        begin o there = let k = h.marks (running s.ending going) o there in at_first p g n names c closed v low sites (view_of n s) facts o (is_freed s.objects o) k.mark k.among k.at k.describes k.bit

        it : (is_over (all_freed (frees_at g v) s).ending ≡ false) × ((o : ℕ) → o < length (all_freed (frees_at g v) s).objects → Left p g n names c closed v low sites (view_of n s) facts o (is_freed (all_freed (frees_at g v) s).objects o) [])
        it = gap_done p g n names c closed v low sites (view_of n s) facts s refl going begin

        behind : (o : ℕ) → o < length (all_freed (frees_at g v) s).objects → MarkedBehind v s (all_freed (frees_at g v) s) sites o
        behind o there = let k = it.1 o there in record { mark = k.mark; among = k.among; at = k.at; describes = k.describes; bit = k.behind }

    -- over an edge, before the new object
    old_behind : (v : ℕ) (s t : Store) (sites : List ℕ) (what : NodeKind) (left : Option ℕ) (x : Way) → v < max 1 (length g.nodes) → frees_at g v ≡ kind_frees what → Does p left s what x t → is_over s.ending ≡ false → Holds v s sites →
        (o : ℕ) → o < length s.objects → o < length t.objects → MarkedBehind v s t sites o
    old_behind v s _ sites _ left _ low at (frees number list goes_on) going h o old there = (gap_behind v s sites list low at going h).1 o there
    old_behind v s t sites (Act a) left x low at does going h o old there =
        let k = h.marks (running s.ending going) o old in
        record {
          mark = k.mark;
          among = k.among;
          at = k.at;
          describes = k.describes;
          bit = ap (λ (fs : List Free). freed_behind k.mark.mark (map (λ (f : Free). named n f.expr) fs) k.mark.freed) at ∙ k.bit ∙ sym (act_freed does o);
        }

    -- a mark that matches one that describes an object
    matched : (v : ℕ) (m : Mark) (b : Bool) (t : Store) (sites : List ℕ) (o : ℕ) (x : CertMark) → IsMatch n g c closed v m b x → Describes n sites (view_of n t) m o → b ≡ is_freed t.objects o → Marked v t sites o
    matched v m b t sites o x h describes is = record {
      mark = x;
      among = h.among;
      at = h.at;
      describes = less_describes n sites (view_of n t) m x.mark o h.site h.holds h.lacks describes;
      bit = h.bit ∙ is;
    }

    -- an edge

    is_known : (e : Edge) (s : Store) (sites : List ℕ) → Contains g.edges e → Holds e.from s sites → IsKnownOf n g (facts_of c) e sites s
    is_known e s sites among h = record {
      types = h.may.0;
      may = sites_hold sites e.from s h.may;
      facts = facts_hold sites e.from s (first_low e.from (within e among)) h.path;
    }

    frees_there : (e : Edge) (x : Node) → slice_get g.nodes e.from ≡ Some x → frees_at g e.from ≡ kind_frees x.kind
    frees_there e x at = ap node_frees at

    -- a new object isn't freed
    made_bit : (s t : Store) (what : NodeKind) (left : Option ℕ) (x : Way) → Does p left s what x t → x ≡ way.Made → is_freed t.objects (length s.objects) ≡ false
    made_bit s _ _ left _ (frees number list goes_on) is = absurd cc
    made_bit s t (Act a) left x does is = act_freed does (length s.objects) ∙ past_freed s.objects (length s.objects) (past_all s.objects)

    over_edge : (e : Edge) (s t : Store) (sites : List ℕ) → Contains g.edges e → is_over s.ending ≡ false → Executes p g e s t → Holds e.from s sites → Holds e.to t (sites_over e sites)
    over_edge e s t sites among going executes h = record {
      may = may_after;
      path = (true_kept p w n names input fails).goes e s t sites among going executes h.path;
      ending = safe_end t.ending (edge_no_fault executes.does going);
      marks = λ none o low. by_age o low (nat_lt o (length s.objects)) refl;
    }
      where
        may_after : MayOfRuns p w n names input fails e.to t (sites_over e sites)
        may_after = (may_kept p w n names input fails).goes e s t sites among going executes h.may

        may_behind : MayHolds n c.may (sites_over e sites) (view_of n t)
        may_behind = sites_hold (sites_over e sites) e.to t may_after

        known : IsKnownOf n g (facts_of c) e sites s
        known = is_known e s sites among h

        old : (o : ℕ) → o < length s.objects → o < length t.objects → Marked e.to t (sites_over e sites) o
        old o there low =
            let k = old_behind e.from s t sites executes.node.kind _ e.way (within e among) (frees_there e executes.node executes.stands) executes.does going h o there low in
            let after = posts_describe n g (facts_of c) e k.mark.mark p w refl names among s t sites o executes known may_behind k.describes in
            let it = match n g c closed e.to after.0.mark (freed_behind k.mark.mark (names_freed n g e.from) k.mark.freed) (post_matched n g c closed within e k.mark after.0 among k.among k.at after.1) in
            matched e.to after.0.mark (freed_behind k.mark.mark (names_freed n g e.from) k.mark.freed) t (sites_over e sites) o it.0 it.1 after.2 k.bit

        new : e.way ≡ way.Made → Marked e.to t (sites_over e sites) (length s.objects)
        new made =
            let born = births_describe n g (facts_of c) e p w refl names among s t sites executes known may_behind made in
            let it = match n g c closed e.to born.0 false (birth_matched n g c closed within e born.0 among h.path.1 born.1) in
            matched e.to born.0 false t (sites_over e sites) (length s.objects) it.0 it.1 born.2 (sym (made_bit s t executes.node.kind _ e.way executes.does made))

        by_age : (o : ℕ) → o < length t.objects → (b : Bool) → nat_lt o (length s.objects) ≡ b → Marked e.to t (sites_over e sites) o
        by_age o low true is = old o (ltb-true o (length s.objects) is) low
        by_age o low false is =
            let before : length s.objects ≡ length sites = h.may.0.objects in
            let after : length t.objects ≡ length (sites_over e sites) = may_after.0.objects in
            let it = is_new e.from e.way sites o (subst (λ (k : ℕ). o < k) after low) (not_older o (length s.objects) (length sites) is before) in
            subst (λ (q : ℕ). Marked e.to t (sites_over e sites) q) (before ∙ sym it.1) (new it.0)

    -- a fault

    -- where an action reads a freed object, no edge leads on with that read touched
    untouched_at : (v : ℕ) (s : Store) (sites : List ℕ) (o : ℕ) (k : Marked v s sites o) (e : Edge) → Contains g.edges e → e.from ≡ v → is_freed s.objects o ≡ true → SomeTouched (post n g (facts_of c) e k.mark.mark) → ⊥
    untouched_at v s sites o k e among from freed it = untouched n g c closed within e k.mark it.0 among k.among (k.at ∙ sym from) (k.bit ∙ freed) it.1 it.2

    touched_at : (v : ℕ) (s : Store) (sites : List ℕ) → Holds v s sites → (e : Edge) (meets : MeetsFreed n g sites s (edge_deeds n g e)) (k : Marked v s sites meets.object) →
        SomeTouched (post n g (facts_of c) e k.mark.mark) ⊎ ((x : Expr) × IsTestAt g e x × ((d : Edge) → d.from ≡ e.from → d.way ≡ opposite e.way → SomeTouched (post n g (facts_of c) d k.mark.mark)))
    touched_at v s sites h e meets k =
        posts_touch n g (facts_of c) e k.mark.mark p names sites (view_of n s) meets.object (sites_hold sites v s h.may) k.describes meets.before meets.after meets.read meets.noted
        (record { view = view_of n s; found = meets.found }) meets.is meets.does meets.finds

    reads_none : (v : ℕ) (x : Node) (s t : Store) (sites : List ℕ) (offset : ℕ) → slice_get g.nodes v ≡ Some x → is_over s.ending ≡ false → Faults p s x.kind t → Holds v s sites → t.ending ≡ Fault UseAfterFree offset false → ⊥
    reads_none v x s t sites offset at going fault h is = let it = fault_edge p w v x s t UseAfterFree offset at fault is in over it.0 it.1 it.2
      where
        meets_at : (e : Edge) → Contains g.edges e → e.from ≡ v → MeetsFreed n g sites s (edge_deeds n g e)
        meets_at e among from = fault_meets_read p w n names s sites h.may.0 v x t offset at fault is e among from

        mark_of : (e : Edge) (meets : MeetsFreed n g sites s (edge_deeds n g e)) → Marked v s sites meets.object
        mark_of e meets = h.marks (running s.ending going) meets.object meets.within

        both_ways : (test : Expr) → x.kind ≡ Act (action.Test test) → ⊥
        both_ways test kind_is =
            let one = fault_test_edges p w v x s t test at kind_is fault true in
            let other = fault_test_edges p w v x s t test at kind_is fault false in
            let meets = meets_at one.0 one.1 one.2 in
            let k = mark_of one.0 meets in
            ⊎_elim
            (λ it. untouched_at v s sites meets.object k one.0 one.1 one.2 meets.freed it)
            (λ it. untouched_at v s sites meets.object k other.0 other.1 other.2 meets.freed (it.2 other.0 (other.2 ∙ sym one.2) (other.3 ∙ sym (ap opposite one.3))))
            (touched_at v s sites h one.0 meets k)

        over : (e : Edge) → Contains g.edges e → e.from ≡ v → ⊥
        over e among from =
            let meets = meets_at e among from in
            let k = mark_of e meets in
            ⊎_elim
            (λ it. untouched_at v s sites meets.object k e among from meets.freed it)
            (λ it.
            let same : Some it.1.0 ≡ Some x = sym it.1.1 ∙ ap (slice_get g.nodes) from ∙ at in
            let node_is : it.1.0 ≡ x = cc in
            both_ways it.0 (sym (ap (λ (y : Node). y.kind) node_is) ∙ it.1.2))
            (touched_at v s sites h e meets k)

    -- a fault is harmless
    fault_end : (v : ℕ) (x : Node) (s t : Store) (sites : List ℕ) → slice_get g.nodes v ≡ Some x → is_over s.ending ≡ false → Faults p s x.kind t → Holds v s sites → IsSafeEnd t.ending × IsFault t.ending
    fault_end v x s t sites at going fault h = by_fault (fault_of fault)
      where
        by_fault : IsFaultOf s x.kind t → IsSafeEnd t.ending × IsFault t.ending
        by_fault (freeing number list is done over) =
            let it = gap_behind v s sites list (at_node v x at) (ap node_frees at ∙ ap kind_frees is) going h in
            let never : true ≡ false = sym over ∙ ap (λ (u : Store). is_over u.ending) done ∙ it.0 in
            absurd cc
        by_fault (acting k offset is) = (
          subst IsSafeEnd (sym is) (⊎_elim
              (λ freed. absurd (reads_none v x s t sites offset at going fault h (is ∙ ap (λ (y : Kind). Fault y offset false) freed)))
              (λ harmless. harmless)
              (read_of_freed_only p w n names s sites h.may.0 v x t k offset at fault is)),
          subst IsFault (sym is) tt,
        )

    keeps : IsKept p input fails Holds
    keeps = record {
      starts = record {
        may = (may_kept p w n names input fails).starts;
        path = (true_kept p w n names input fails).starts;
        ending = tt;
        marks = λ none o low. absurd (none_low o low);
      };
      begins = λ v s sites going h. record {
        may = (may_kept p w n names input fails).begins v s sites going h.may;
        path = (true_kept p w n names input fails).begins v s sites going h.path;
        ending = h.ending;
        marks = λ none o low. let k = h.marks none o low in record { mark = k.mark; among = k.among; at = k.at; describes = k.describes; bit = k.bit };
      };
      goes = over_edge;
      faults = λ v x s t sites at going fault h. let it = fault_end v x s t sites at going fault h in record {
        may = (may_kept p w n names input fails).faults v x s t sites at going fault h.may;
        path = (true_kept p w n names input fails).faults v x s t sites at going fault h.path;
        ending = it.0;
        marks = λ none o low. absurd (none it.1);
      };
    }

    -- runs

    same_run : (k : ℕ) → store_of (run p input fails k) ≡ (node_run p input fails k).store
    same_run k = run_lockstep p (calls_in_order p w) input fails k

    ends_safely : (k : ℕ) → IsSafeEnd (run p input fails k).ending
    ends_safely k =
        let it = run_holds p w input fails Holds keeps k in
        subst IsSafeEnd (sym (ap (λ (s : Store). s.ending) (same_run k)))
        (⊎_elim (λ h. h.ending) (λ lost. safe_end (node_run p input fails k).store.ending (running (node_run p input fails k).store.ending lost.1)) it.2)

    -- at an exit each object is freed
    exit_freed : (x : At Store) (sites : List ℕ) (a : ℤ) → IsExitNode p w x.node → x.store.ending ≡ Returned a → Holds x.node x.store sites → (o : ℕ) → o < length x.store.objects → is_freed x.store.objects o ≡ true
    exit_freed x sites a exit returned h o low =
        let k = h.marks (subst (λ (y : Ending). IsFault y → ⊥) (sym returned) (λ none. none)) o low in
        let there : is_exit_at g x.node ≡ true = ap (has (λ (y : Node). is_exit y.kind)) exit.1 in
        sym k.bit ∙ freed_at_exit n g c closed x.node k.mark (at_node x.node _ exit.1) there k.among k.at

    returns_freed : (k : ℕ) (a : ℤ) → (run p input fails k).ending ≡ Returned a → All (λ (b : Object). IsTrue b.freed) (run p input fails k).objects
    returns_freed k a returned =
        let it = run_holds p w input fails Holds keeps k in
        let same = same_run k in
        let ended : (node_run p input fails k).store.ending ≡ Returned a = sym (ap (λ (s : Store). s.ending) same) ∙ returned in
        let freed : (o : ℕ) → o < length (node_run p input fails k).store.objects → is_freed (node_run p input fails k).store.objects o ≡ true = ⊎_elim
        (λ h. exit_freed (node_run p input fails k) it.0 a (met_at_exit p w input fails a it.1 ended) ended h)
        (λ lost. let never : is_over (Returned a) ≡ false = ap is_over (sym ended) ∙ lost.1 in absurd cc)
        it.2 in
        subst (λ (os : List Object). All (λ (b : Object). IsTrue b.freed) os) (sym (ap (λ (s : Store). s.objects) same)) (all_from (node_run p input fails k).store.objects freed)

  -- Closed implies Safe
  pub closed_safe : Safe p
  closed_safe = record {
    no_use_after_free = λ input fails k bytes offset by is. never_freed offset by (subst IsSafeEnd is (ends_safely input fails k));
    no_double_free = λ input fails k bytes offset by is. never_twice offset by (subst IsSafeEnd is (ends_safely input fails k));
    no_fault_by_free = λ input fails k bytes what offset is. subst IsSafeEnd is (ends_safely input fails k);
    all_freed = λ input fails k bytes a returned. returns_freed input fails k a returned;
  }
