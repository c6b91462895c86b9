-- What is derived has the shape that a problem asks for.
use Rattle.c_graph.specs.declared.graph.Graph.{Graph}
use Rattle.ts_domain.specs.declared.facts.Facts.{Facts}
use Rattle.ts_domain.specs.declared.names.Names.{Names}
use Rattle.ts_domain.specs.declared.triples.Derived.{Derived}
use Rattle.ts_domain.specs.Derived.{AreDerived}
use Rattle.ts_domain.proofs.DerivedLaws.{derived_set, pair_ordered}
use Rattle.cover_problem.specs.Problem.{HasShape}

pub has_shape : (n : Names) (g : Graph) (f : Facts) (d : Derived) → AreDerived n g f d → HasShape n d
has_shape n g f d is = record {
  triples = λ t h. derived_set n g f t ((is.triples t).0 h);
  forbidden = is.room;
  pairs = λ j k h. pair_ordered n g f (j, k) ((is.pairs (j, k)).0 h);
}
