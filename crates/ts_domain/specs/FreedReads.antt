-- Reads that meet freed objects, among the deeds of an edge.
use Rattle.std.specs.Prelude.{◌≡◌, ℕ, ◌<◌, Bool, true, List, ◌∷◌, ◌++◌, length}
use Rattle.c_meaning.specs.declared.value.Value.{Value}
use Rattle.c_meaning.specs.declared.value.Value.TheVariants as value
use Rattle.c_meaning.specs.declared.machine.Kind.{Kind}
use Rattle.c_meaning.specs.declared.machine.Kind.TheVariants.{NullDeref, Bounds, Uninit, UseAfterFree, Overflow, DivZero, DoubleFree}
use Rattle.c_meaning.specs.Eval.{is_freed}
use Rattle.c_meaning.specs.Machine.{Store}
use Rattle.c_graph.specs.declared.graph.Graph.{Graph}
use Rattle.ts_domain.specs.declared.deed.Deed.{Deed}
use Rattle.ts_domain.specs.declared.deed.Deed.TheVariants.{Reads}
use Rattle.ts_domain.specs.declared.names.Names.{Names}
use Rattle.ts_domain.specs.declared.names.Read.{Read}
use Rattle.ts_domain.specs.Views.{view_of, first_seen, Finds, DoesAll}

-- a fault that safety doesn't speak of where no free raises it: neither the use of a freed object nor its second free
abbrev pub IsHarmless : Kind → Type 0
IsHarmless NullDeref = Unit {0}
IsHarmless Bounds = Unit {0}
IsHarmless Uninit = Unit {0}
IsHarmless UseAfterFree = ⊥
IsHarmless Overflow = Unit {0}
IsHarmless DivZero = Unit {0}
IsHarmless DoubleFree = ⊥

-- a read among these deeds meets a pointer to a freed object; the deeds before it are done, and write nothing
pub record MeetsFreed (n : Names) (g : Graph) (sites : List ℕ) (s : Store) (ds : List Deed) : Type 0 where
  pub before : List Deed
  pub read : Read
  pub noted : Bool
  pub after : List Deed
  pub found : List Value
  pub object : ℕ
  pub is : ds ≡ before ++ Reads read noted ∷ after
  pub does : DoesAll n g sites before (first_seen (view_of n s)) (record { view = view_of n s; found = found })
  pub finds : Finds n g sites (view_of n s) read (value.Ptr object)
  pub within : object < length s.objects
  pub freed : is_freed s.objects object ≡ true
