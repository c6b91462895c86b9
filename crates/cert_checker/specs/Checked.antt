-- What a check finds at a node, and of a graph.
use Rattle.std.specs.Prelude.{◌≡◌, ℕ, ◌<◌, Option, None, Some}
use Rattle.c_tree.specs.WellFormed.{IsWellFormed}
use Rattle.c_tree.specs.declared.program.Program.{Program}
use Rattle.c_meaning.specs.Safe.{Safe}
use Rattle.call_contexts.specs.Contexts.{contexts}
use Rattle.c_graph.specs.Nodes.{graph}
use Rattle.c_graph.specs.declared.graph.Graph.{Graph}
use Rattle.ts_domain.specs.declared.names.Names.{Names}
use Rattle.ts_domain.specs.Views.{AreNames}
use Rattle.cover_certificate.specs.declared.types.Cert.{Cert}
use Rattle.cover_certificate.specs.Closed.{IsBroken}

-- no condition is broken at a node
abbrev pub IsSound : Names → Graph → Cert → ℕ → Type 0
IsSound n g c v = (r : ℕ) → IsBroken n g c v r → ⊥

-- a condition is broken at a node, and none with a lesser number
pub record IsLeast (n : Names) (g : Graph) (c : Cert) (v r : ℕ) : Type 0 where
  pub broken : IsBroken n g c v r
  pub least : (q : ℕ) → q < r → IsBroken n g c v q → ⊥

-- a node is the one that is looked at, and there the condition is the first that is broken
abbrev pub IsLeastAt : Names → Graph → Cert → ℕ → ℕ → ℕ → Type 0
IsLeastAt n g c at v r = (v ≡ at) × IsLeast n g c at r

-- each well-formed program with this graph and these names is safe
pub record MakesSafe (n : Names) (g : Graph) : Type 0 where
  pub safe : (p : Program) → IsWellFormed p → g ≡ graph p (contexts p) → AreNames p g n → Safe p

-- the first condition that is broken at a node, if one is
abbrev pub BrokenAt : Names → Graph → Cert → ℕ → Option ℕ → Type 0
BrokenAt n g c v None = IsSound n g c v
BrokenAt n g c v (Some r) = IsLeast n g c v r
