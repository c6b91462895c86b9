-- Where an object stands alone, no choice is a cover, and its site and its exit have offsets.
use Rattle.std.proofs.Common.{◌≡◌, ℕ, ◌<◌, ◌||◌, not, Bool, true, false, length, slice_get, Option, None, Some, refl, ap, sym, ◌∙◌, subst}
use Rattle.std.proofs.lemmas.Bool.{false≢true}
use Rattle.std.specs.Option.{option_and_then}
use Rattle.c_tree.specs.Typing.{has}
use Rattle.c_tree.specs.declared.choice.Choice.{Choice}
use Rattle.c_tree.specs.declared.program.Program.{Program}
use Rattle.c_graph.specs.declared.graph.Action.{Action}
use Rattle.c_graph.specs.declared.graph.Action.TheVariants as action
use Rattle.c_graph.specs.declared.graph.Graph.{Graph}
use Rattle.c_graph.specs.declared.graph.Node.{Node}
use Rattle.c_graph.specs.declared.graph.NodeKind.{NodeKind}
use Rattle.c_graph.specs.declared.graph.NodeKind.TheVariants as kind
use Rattle.mf_set.specs.Numbers.{Numbers, has as has_number}
use Rattle.mf_set.proofs.NumberLaws.{has-Contains}
use Rattle.ts_domain.specs.declared.names.Names.{Names}
use Rattle.ts_domain.specs.Cover.{is_exit, is_exit_at}
use Rattle.ts_domain.specs.Numbering.{makes}
use Rattle.ts_domain.proofs.DerivedMarks.{derived_mark}
use Rattle.ts_domain.proofs.NameLaws.{passing_passes}
use Rattle.cover_problem.specs.declared.types.Problem.{Problem}
use Rattle.cover_problem.specs.Alone.{is_barred, LeastAlone}
use Rattle.cover_problem.specs.Problem.{IsCoverOf, IsExit}
use Rattle.cover_problem.proofs.Members.{all_at}
use Rattle.cover_clauses.proofs.Elements.{element}
use Rattle.memfix_engine.specs.Analysis.{end_offset, exit_offset, graph_in, malloc_offset, names_in, node_malloc, site_offset, IsAlone, IsProblemIn, IsUncovered}
use Rattle.memfix_engine.proofs.CoversAgree.{covers_agree}

-- what is allowed and not forbidden is not barred
not_barred : (forbidden allowed : Bool) → (forbidden || not allowed) ≡ true → forbidden ≡ false → allowed ≡ true → ⊥
not_barred true allowed barred free may = absurd (false≢true (sym free))
not_barred false true barred free may = absurd (false≢true barred)
not_barred false false barred free may = absurd (false≢true may)

-- no choice is a cover: it would hold a put for that object, allowed and not forbidden
pub alone_uncovered : (q : Problem) (a : ℕ × ℕ) (s : Choice) → LeastAlone q (Some a) → IsCoverOf q s → ⊥
alone_uncovered q a s alone covers =
    let one = covers.one_at_exits alone.candidates ((a.0, a.1, alone.candidates), alone.listed, refl) in
    let barred = all_at (is_barred q) alone.candidates.items alone.barred one.0 (has-Contains alone.candidates.items one.0 one.2) in
    not_barred (has_number q.derived.forbidden.items one.0) (has_number q.allowed.items one.0) barred (covers.unforbidden one.0 one.1) (covers.allowed one.0 one.1)

-- and none is one of any other problem of the program
pub alone_has_none : (p : Program) (site exit : ℕ) (q : Problem) (s : Choice) → IsAlone p site exit → IsProblemIn p q → IsCoverOf q s → ⊥
alone_has_none p site exit q s alone is covers = alone_uncovered alone.problem alone.place s alone.alone (covers_agree p q alone.problem s is alone.analysed.problem covers)

-- nor where one problem of it has no cover
pub uncovered_has_none : (p : Program) (q : Problem) (s : Choice) → IsUncovered p → IsProblemIn p q → IsCoverOf q s → ⊥
uncovered_has_none p q s none is covers = none.none_covers s (covers_agree p q none.problem s is none.analysed.problem covers)

-- the triple of that object at that exit
alone_exit : (p : Program) (q : Problem) (a : ℕ × ℕ) → IsProblemIn p q → (alone : LeastAlone q (Some a)) → IsExit (graph_in p) q.derived (a.0, a.1, alone.candidates)
alone_exit p q a is alone = (is.problem.exits (a.0, a.1, alone.candidates)).0 alone.listed

-- sites

-- an action that makes objects is a call of `malloc`, and its word has an offset
action_offset : (x : Action) → makes (kind.Act x) ≡ true → (at : ℕ) × (malloc_offset (kind.Act x) ≡ Some at)
action_offset (action.Malloc place size at) made = (at, refl)
action_offset (action.Unset x) made = absurd (false≢true made)
action_offset (action.Assign s) made = absurd (false≢true made)
action_offset (action.Getchar place) made = absurd (false≢true made)
action_offset (action.Putchar e) made = absurd (false≢true made)
action_offset (action.Printf text es) made = absurd (false≢true made)
action_offset (action.Test e) made = absurd (false≢true made)
action_offset (action.Call f es) made = absurd (false≢true made)
action_offset (action.Return value) made = absurd (false≢true made)
action_offset action.Close made = absurd (false≢true made)

-- so has a node that makes objects
kind_offset : (k : NodeKind) → makes k ≡ true → (at : ℕ) × (malloc_offset k ≡ Some at)
kind_offset (kind.Gap number frees) made = absurd (false≢true made)
kind_offset (kind.Act x) made = action_offset x made
kind_offset (kind.Exit at) made = absurd (false≢true made)

-- where a place of the graph has one
node_offset : (o : Option Node) → has (λ (v : Node). makes v.kind) o ≡ true → (at : ℕ) × (option_and_then (λ (v : Node). malloc_offset v.kind) o ≡ Some at)
node_offset None made = absurd (false≢true made)
node_offset (Some v) made = kind_offset v.kind made

-- the site of the object that stands alone is that of a call of `malloc`
pub site_has_offset : (p : Program) (q : Problem) (a : ℕ × ℕ) → IsProblemIn p q → LeastAlone q (Some a) → (at : ℕ) × (site_offset (graph_in p) (names_in p) a.0 ≡ Some at)
site_has_offset p q a is alone =
    let g : Graph = graph_in p in
    let n : Names = names_in p in
    let x = alone_exit p q a is alone in
    let site : a.0 ≡ x.triple.mark.site = ap (λ (e : ℕ × ℕ × Numbers). e.0) x.is in
    let shaped = derived_mark n g is.facts x.triple ((is.derived.triples x.triple).0 x.derived) in
    let v = element n.sites a.0 (subst (λ s. s < length n.sites) (sym site) shaped.site) in
    let made = passing_passes (λ (w : Node). makes w.kind) g.nodes a.0 v.0 v.1 in
    let found = node_offset (slice_get g.nodes v.0) made in
    (found.0, ap (option_and_then (node_malloc g)) v.1 ∙ found.1)

-- exits

-- a node at which a run ends is an exit, which has an offset
kind_end : (k : NodeKind) → is_exit k ≡ true → (at : ℕ) × (end_offset k ≡ Some at)
kind_end (kind.Gap number frees) ends = absurd (false≢true ends)
kind_end (kind.Act x) ends = absurd (false≢true ends)
kind_end (kind.Exit at) ends = (at, refl)

-- where a place of the graph has one
node_end : (o : Option Node) → has (λ (v : Node). is_exit v.kind) o ≡ true → (at : ℕ) × (option_and_then (λ (v : Node). end_offset v.kind) o ≡ Some at)
node_end None ends = absurd (false≢true ends)
node_end (Some v) ends = kind_end v.kind ends

-- the exit on the way to which no put may free the object is an end of a run
pub exit_has_offset : (p : Program) (q : Problem) (a : ℕ × ℕ) → IsProblemIn p q → LeastAlone q (Some a) → (at : ℕ) × (exit_offset (graph_in p) a.1 ≡ Some at)
exit_has_offset p q a is alone =
    let g : Graph = graph_in p in
    let x = alone_exit p q a is alone in
    let node : a.1 ≡ x.triple.node = ap (λ (e : ℕ × ℕ × Numbers). e.1) x.is in
    node_end (slice_get g.nodes a.1) (subst (λ v. is_exit_at g v ≡ true) (sym node) x.leaves)
