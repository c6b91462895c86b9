use Rattle.path_facts.specs.Shows.{Shows, is_apart_from}
use Rattle.path_facts.proofs.shows.show_aparts.Given as goal

abbrev pub invariant-loop-other : goal.invariant-loop-other
invariant-loop-other l = Shows l.names (is_apart_from l.variable l.other) l.fn.set l.set
