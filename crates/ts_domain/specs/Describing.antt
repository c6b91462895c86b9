-- What marks say of a machine, and what is promised of their posts and of the marks that are born.
use Rattle.std.specs.Prelude.{◌≡◌, ◌⊎◌, ℕ, Bool, true, List, ◌∷◌, ◌++◌, length, slice_get, Option, Some}
use Rattle.std.specs.List.{Contains}
use Rattle.c_tree.specs.WellFormed.{IsWellFormed}
use Rattle.c_tree.specs.declared.expr.Expr.{Expr}
use Rattle.c_tree.specs.declared.program.Program.{Program}
use Rattle.c_meaning.specs.declared.value.Value.TheVariants as value
use Rattle.c_meaning.specs.Machine.{Store}
use Rattle.call_contexts.specs.Contexts.{contexts}
use Rattle.c_graph.specs.Executes.{Executes, sites_over}
use Rattle.c_graph.specs.Nodes.{graph}
use Rattle.c_graph.specs.declared.graph.Action.TheVariants as action
use Rattle.c_graph.specs.declared.graph.Edge.{Edge}
use Rattle.c_graph.specs.declared.graph.Graph.{Graph}
use Rattle.c_graph.specs.declared.graph.Node.{Node}
use Rattle.c_graph.specs.declared.graph.NodeKind.TheVariants as kind
use Rattle.c_graph.specs.declared.graph.Way.{Way}
use Rattle.c_graph.specs.declared.graph.Way.TheVariants as way
use Rattle.mf_set.specs.Numbers.{has as has_number}
use Rattle.ts_domain.specs.declared.deed.Deed.{Deed}
use Rattle.ts_domain.specs.declared.deed.Deed.TheVariants.{Reads}
use Rattle.ts_domain.specs.declared.facts.Facts.{Facts}
use Rattle.ts_domain.specs.declared.marks.Mark.{Mark}
use Rattle.ts_domain.specs.declared.marks.Step.{Step}
use Rattle.ts_domain.specs.declared.names.Names.{Names}
use Rattle.ts_domain.specs.declared.names.Read.{Read}
use Rattle.ts_domain.specs.Deeds.{edge_deeds}
use Rattle.ts_domain.specs.Holding.{IsSite, FactsHold, MayHolds}
use Rattle.ts_domain.specs.Post.{post}
use Rattle.ts_domain.specs.TypedMachines.{IsTyped}
use Rattle.ts_domain.specs.Views.{AreNames, View, view_of, peek, Seen, first_seen, Finds, DoesAll}

-- a mark describes an object of its site: what it holds points to the object, and what it lacks doesn't
pub record Describes (n : Names) (sites : List ℕ) (v : View) (m : Mark) (o : ℕ) : Type 0 where
  pub site : IsSite n sites o m.site
  pub holds : (e : ℕ) → has_number m.holds.items e ≡ true → peek n v e ≡ value.Ptr o
  pub lacks : (e : ℕ) → has_number m.lacks.items e ≡ true → peek n v e ≡ value.Ptr o → ⊥

-- one of these marks describes an object
abbrev pub SomeDescribes : Names → List ℕ → View → List Step → ℕ → Type 0
SomeDescribes n sites v steps o = (s : Step) × Contains steps s × Describes n sites v s.mark o

-- one of these is touched
abbrev pub SomeTouched : List Step → Type 0
SomeTouched steps = (s : Step) × Contains steps s × (s.touched ≡ true)

-- an edge leads on from a test
abbrev pub IsTestAt : Graph → Edge → Expr → Type 0
IsTestAt g e c = (v : Node) × (slice_get g.nodes e.from ≡ Some v) × (v.kind ≡ kind.Act (action.Test c))

-- the other way on from a test
abbrev pub opposite : Way → Way
opposite way.True = way.False
opposite way.False = way.True
opposite way.On = way.On
opposite way.Made = way.Made
opposite way.NotMade = way.NotMade
opposite way.Enter = way.Enter
opposite (way.Leave target) = way.Leave target

-- what is known of a machine at the first node of an edge is true: its types, which sites flow where, and the facts of the node
pub record IsKnownOf (n : Names) (g : Graph) (f : Facts) (e : Edge) (sites : List ℕ) (s : Store) : Type 0 where
  pub types : IsTyped n g sites s
  pub may : MayHolds n f.may sites (view_of n s)
  pub facts : FactsHold n f.path e.from (view_of n s)

-- posts, in a program: if a mark describes an object and the edge is executed without a fault, one of these describes it after
abbrev pub DescribeIn : Program → Names → Graph → Facts → Edge → Mark → List Step → Type 0
DescribeIn p n g f e m steps = AreNames p g n → Contains g.edges e → (s t : Store) (sites : List ℕ) (o : ℕ) → Executes p g e s t → IsKnownOf n g f e sites s → MayHolds n f.may (sites_over e sites) (view_of n t) →
    Describes n sites (view_of n s) m o → SomeDescribes n (sites_over e sites) (view_of n t) steps o

abbrev pub DescribeAfter : Names → Graph → Facts → Edge → Mark → List Step → Type 0
DescribeAfter n g f e m steps = (p : Program) → IsWellFormed p → g ≡ graph p (contexts p) → DescribeIn p n g f e m steps

-- if a read of an edge meets a pointer to the object that a mark describes, one of these is touched; of a test it may be one over
-- the other way on
abbrev pub TouchWhereMet : Names → Graph → Facts → Edge → Mark → List Step → Type 0
TouchWhereMet n g f e m steps = (p : Program) → AreNames p g n → (sites : List ℕ) (v : View) (o : ℕ) → MayHolds n f.may sites v → Describes n sites v m o →
    (before after : List Deed) (r : Read) (noted : Bool) (u : Seen) → edge_deeds n g e ≡ before ++ Reads r noted ∷ after → DoesAll n g sites before (first_seen v) u → Finds n g sites u.view r (value.Ptr o) →
    SomeTouched steps ⊎ ((c : Expr) × IsTestAt g e c × ((d : Edge) → d.from ≡ e.from → d.way ≡ opposite e.way → SomeTouched (post n g f d m)))

-- the mark that is born, in a program: where an object is made there is one, which describes the object after
abbrev pub BornIn : Program → Names → Graph → Facts → Edge → Option Mark → Type 0
BornIn p n g f e answer = AreNames p g n → Contains g.edges e → (s t : Store) (sites : List ℕ) → Executes p g e s t → IsKnownOf n g f e sites s → MayHolds n f.may (sites_over e sites) (view_of n t) → e.way ≡ way.Made →
    (m : Mark) × (answer ≡ Some m) × Describes n (sites_over e sites) (view_of n t) m (length s.objects)

abbrev pub BornDescribes : Names → Graph → Facts → Edge → Option Mark → Type 0
BornDescribes n g f e answer = (p : Program) → IsWellFormed p → g ≡ graph p (contexts p) → BornIn p n g f e answer
