use Rattle.std.proofs.Common.{◌≡◌, true}
use Rattle.ts_domain.specs.Path.{true_at_start}
use Rattle.path_facts.specs.Corrections.{Corrects}
use Rattle.path_facts.specs.Start.{is_equal_of}
use Rattle.path_facts.proofs.start.start_equals.Given as goal

abbrev pub invariant-loop-other : goal.invariant-loop-other
invariant-loop-other l = Corrects l.names (true_at_start l.names) (λ f. is_equal_of l.variable l.other f ≡ true) l.fn.set l.set
