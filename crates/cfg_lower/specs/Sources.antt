-- What a graph is made from, and what is asked of it.
use Rattle.std.specs.Prelude.{◌≡◌, ℕ, ◌≤◌, ◌==◌, List, [], ◌∷◌, map, length, if◌then◌else◌}
use Rattle.c_tree.specs.declared.program.Program.{Program}
use Rattle.call_contexts.specs.declared.context.Ctx.{Ctx}
use Rattle.c_graph.specs.Nodes.{In, Lead, lead, Placed, all_placed}
use Rattle.c_graph.specs.declared.graph.Way.TheVariants as way
use Rattle.cfg_lower.specs.declared.tables.CallSite.{CallSite}
use Rattle.cfg_lower.specs.declared.tables.Here.{Here}
use Rattle.cfg_lower.specs.declared.tables.Step.{Step}
use Rattle.cfg_lower.specs.Growth.{here_of, step_of, grown}
use Rattle.cfg_lower.specs.Rows.{tables_of}
use Rattle.c_graph.specs.declared.graph.Graph.{Graph}
use Rattle.cfg_lower.specs.declared.source.Source.{Source}

abbrev pub program_of : Source → Program
program_of s = s.program.now

abbrev pub contexts_of : Source → List Ctx
contexts_of s = s.contexts.now.list

-- the tables are those of the program in its contexts, which have no more nodes than the limit
pub record IsSource (s : Source) : Type 0 where
  pub tables : s.tables.now ≡ tables_of (program_of s) (contexts_of s)
  pub few : length (all_placed (program_of s) (contexts_of s)) ≤ 10000

-- the definitions at the program and the contexts of a source

abbrev pub step_in : Source → Lead → Step
step_in s = step_of (program_of s) (contexts_of s)

abbrev pub steps_for : Source → List Lead → List Step
steps_for s leads = map (step_in s) leads

abbrev pub here_in : Source → ℕ → ℕ → Here
here_in s = here_of (program_of s) (contexts_of s)

-- a context with what it should have
abbrev pub IsHere : Source → Here → Type 0
IsHere s h = h ≡ here_in s h.ctx h.fun

abbrev pub grown_in : Source → Graph → List Placed → Graph
grown_in s = grown (program_of s) (contexts_of s)

-- back to what follows a call of context k, where its number is n
abbrev pub back_steps : Source → ℕ → ℕ → CallSite → List Step
back_steps s k n site = if site.number == n then step_in s (lead (way.Leave site.target) (In k site.behind)) ∷ [] else []
