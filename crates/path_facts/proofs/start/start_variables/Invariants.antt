use Rattle.std.proofs.Common.{◌≡◌, true}
use Rattle.ts_domain.specs.Path.{true_at_start}
use Rattle.path_facts.specs.Corrections.{Corrects}
use Rattle.path_facts.specs.Start.{is_started}
use Rattle.path_facts.proofs.start.start_variables.Given as goal

abbrev pub invariant-loop-variable : goal.invariant-loop-variable
invariant-loop-variable l = Corrects l.names (true_at_start l.names) (λ f. is_started l.variable f ≡ true) l.fn.set l.set
