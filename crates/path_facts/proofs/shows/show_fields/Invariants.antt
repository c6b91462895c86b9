use Rattle.path_facts.specs.Shows.{Shows, is_filled}
use Rattle.path_facts.proofs.shows.show_fields.Given as goal

abbrev pub invariant-loop-field : goal.invariant-loop-field
invariant-loop-field l = Shows l.names (is_filled l.names l.variable l.number l.field) l.fn.set l.set
