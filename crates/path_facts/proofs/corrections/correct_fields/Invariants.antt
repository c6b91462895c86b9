use Rattle.std.proofs.Common.{◌≡◌, true}
use Rattle.path_facts.specs.Corrections.{Corrects, is_of_field, right_set}
use Rattle.path_facts.proofs.corrections.correct_fields.Given as goal

abbrev pub invariant-loop-field : goal.invariant-loop-field
invariant-loop-field l = Corrects l.names (right_set l.names l.variable l.value l.source) (λ f. is_of_field l.names l.variable l.field f ≡ true) l.fn.set l.set
