-- The certificate of a choice: the facts that it is made of, and the mark of each triple with whether a put of the choice is among its candidates.
use Rattle.std.specs.Prelude.{◌≡◌, ◌↔◌, Bool, true, IsTrue}
use Rattle.std.specs.List.{Contains, list_any}
use Rattle.c_tree.specs.Fill.{ascends, fill}
use Rattle.c_tree.specs.WellFormed.{IsWellFormed}
use Rattle.c_tree.specs.declared.choice.Choice.{Choice}
use Rattle.c_tree.specs.declared.program.Program.{Program}
use Rattle.call_contexts.specs.Contexts.{contexts}
use Rattle.c_graph.specs.Nodes.{graph}
use Rattle.c_graph.specs.declared.graph.Graph.{Graph}
use Rattle.ts_domain.specs.declared.facts.Facts.{Facts}
use Rattle.ts_domain.specs.declared.names.Names.{Names}
use Rattle.ts_domain.specs.declared.triples.Derived.{Derived}
use Rattle.ts_domain.specs.declared.triples.Triple.{Triple}
use Rattle.ts_domain.specs.Chosen.{is_chosen}
use Rattle.ts_domain.specs.Cover.{IsCover}
use Rattle.ts_domain.specs.Derived.{AreDerived, HasWideEdge}
use Rattle.ts_domain.specs.May.{IsMay}
use Rattle.ts_domain.specs.Path.{IsPath}
use Rattle.ts_domain.specs.Views.{AreNames}
use Rattle.cover_certificate.specs.Closed.{IsClosed}
use Rattle.cover_certificate.specs.declared.types.Cert.{Cert}
use Rattle.cover_certificate.specs.declared.types.CertMark.{CertMark}
use Rattle.cover_certificate.specs.Regular.{is_regular}

abbrev pub holds_chosen : Names → Choice → Triple → Bool
holds_chosen n s t = list_any (is_chosen n s) t.puts.items

-- a triple's mark, with the bit that the choice holds one of its candidates
abbrev pub mark_of : Names → Choice → Triple → CertMark
mark_of n s t = record { node = t.node; mark = t.mark; freed = holds_chosen n s t }

-- the certificate of a choice: the facts whole, and the mark of each triple and no other; it is regular
pub record IsMade (n : Names) (g : Graph) (f : Facts) (d : Derived) (s : Choice) (c : Cert) : Type 0 where
  pub may : c.may ≡ f.may
  pub path : c.path ≡ f.path
  pub marks : (m : CertMark) → Contains c.marks m ↔ ((t : Triple) × Contains d.triples t × (m ≡ mark_of n s t))
  pub regular : is_regular n g c ≡ true

-- of each well-formed program whose graph this is, with its names, facts and what is derived, where no edge is wide: if the choice
-- is a cover, the certificate is closed for the graph of the program that it fills
abbrev pub ClosesCover : Names → Graph → Facts → Derived → Choice → Cert → Type 0
ClosesCover n g f d s c = (p : Program) → IsWellFormed p → g ≡ graph p (contexts p) → AreNames p g n → IsTrue (ascends n.puts) → IsMay n g f.may → IsPath n g f.path →
    AreDerived n g f d → (HasWideEdge n g f → ⊥) → IsCover g n f.path d s → IsClosed n (graph (fill p s) (contexts (fill p s))) c
