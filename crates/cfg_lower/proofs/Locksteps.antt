-- The graph of a well formed program in its contexts runs as the program.
use Rattle.std.proofs.Common.{◌≡◌, List, sym, ap, subst, ◌∙◌}
use Rattle.c_tree.specs.WellFormed.{IsWellFormed}
use Rattle.c_tree.specs.declared.program.Program.{Program}
use Rattle.call_contexts.specs.declared.context.Ctx.{Ctx}
use Rattle.call_contexts.specs.Contexts.{contexts}
use Rattle.c_graph.specs.declared.graph.Graph.{Graph}
use Rattle.c_graph.specs.Nodes.{graph}
use Rattle.c_graph.proofs.Follows.{calls_in_order}
use Rattle.c_graph.proofs.MetRuns.{runs_from}
use Rattle.cfg_lower.specs.Lockstep.{RunsAs}

own_runs : (p : Program) → IsWellFormed p → RunsAs p (graph p (contexts p))
own_runs p w = record { lockstep = λ input fails n. (runs_from p (calls_in_order p w)).lockstep input fails n }

pub runs_as : (p : Program) (cs : List Ctx) (g : Graph) → IsWellFormed p → cs ≡ contexts p → g ≡ graph p cs → RunsAs p g
runs_as p cs g w same is = subst (RunsAs p) (sym (is ∙ ap (graph p) same)) (own_runs p w)
