use Rattle.std.proofs.Common.{◌≡◌, true}
use Rattle.path_facts.specs.Corrections.{Corrects, is_of_pair, right_set}
use Rattle.path_facts.proofs.corrections.correct_pairs.Given as goal

abbrev pub invariant-loop-other : goal.invariant-loop-other
invariant-loop-other l = Corrects l.names (right_set l.names l.variable l.value l.source) (λ f. is_of_pair l.variable l.other f ≡ true) l.fn.set l.set
