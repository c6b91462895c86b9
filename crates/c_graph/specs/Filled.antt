-- A graph with the free statements of a choice.
use Rattle.std.specs.Prelude.{List, map}
use Rattle.c_tree.specs.Fill.{free_of, puts_at}
use Rattle.c_tree.specs.declared.choice.Choice.{Choice}
use Rattle.c_tree.specs.declared.choice.Put.{Put}
use Rattle.c_graph.specs.declared.graph.Node.{Node}
use Rattle.c_graph.specs.declared.graph.NodeKind.{NodeKind}
use Rattle.c_graph.specs.declared.graph.NodeKind.TheVariants.{Gap, Act, Exit}
use Rattle.c_graph.specs.declared.graph.Graph.{Graph}

-- a gap has the frees that the choice puts there
abbrev pub filled_kind : List Put → NodeKind → NodeKind
filled_kind puts (Gap number frees) = Gap number (map free_of (puts_at puts number))
filled_kind puts (Act a) = Act a
filled_kind puts (Exit offset) = Exit offset

abbrev pub filled_node : List Put → Node → Node
filled_node puts n = record n { kind = filled_kind puts n.kind }

-- all else stays as it is
abbrev pub filled_graph : Choice → Graph → Graph
filled_graph choice g = record { nodes = map (filled_node choice.puts) g.nodes; edges = g.edges }
