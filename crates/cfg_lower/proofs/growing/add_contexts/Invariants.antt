use Rattle.std.proofs.Common.{◌≡◌, drop}
use Rattle.c_graph.specs.Nodes.{placed_from}
use Rattle.cfg_lower.specs.Sources.{program_of, contexts_of, grown_in}
use Rattle.cfg_lower.proofs.growing.add_contexts.Given as goal

abbrev pub invariant-loop-ctx : goal.invariant-loop-ctx
invariant-loop-ctx l =
    grown_in l.source l.graph (placed_from (program_of l.source) (contexts_of l.source) l.ctx (drop l.ctx l.list))
    ≡ grown_in l.source l.fn.graph (placed_from (program_of l.source) (contexts_of l.source) 0 l.list)
