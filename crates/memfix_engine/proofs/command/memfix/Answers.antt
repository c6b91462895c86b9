-- What the statuses say follows from the outcome and from what was written.
use Rattle.std.proofs.Common.{◌≡◌}
use Rattle.memfix_engine.proofs.CommandLemmas.{done_of, noted_of, fault_of, exact, statuses_of, other_words_of, quiet_of, silent_of}
use Rattle.memfix_engine.proofs.command.memfix.Goals as goal

pub returns-clause-done : goal.returns-clause-done
returns-clause-done g c = done_of _ _ _ _ _ _ _ c.outcome_of-outcome.ensures.comes c.finish.ensures.wrote

pub returns-clause-quiet : goal.returns-clause-quiet
returns-clause-quiet g c = λ is ask. c.finish.ensures.quiet (quiet_of _ _ _ _ _ _ _ c.outcome_of-outcome.ensures.comes c.finish.ensures.wrote is ask)

pub returns-clause-line : goal.returns-clause-line
returns-clause-line g c = noted_of _ _ _ _ _ _ _ c.outcome_of-outcome.ensures.comes c.finish.ensures.wrote

pub returns-clause-untouched : goal.returns-clause-untouched
returns-clause-untouched g c = λ other six. c.finish.ensures.untouched (silent_of _ _ _ _ _ c.finish.ensures.wrote other six)

pub returns-clause-write_fault : goal.returns-clause-write_fault
returns-clause-write_fault g c = fault_of _ _ _ _ _ _ _ _ c.outcome_of-outcome.ensures.comes c.finish.ensures.wrote c.finish.ensures.untouched

pub returns-clause-statuses : goal.returns-clause-statuses
returns-clause-statuses g c = statuses_of _ _ _ _ _ c.finish.ensures.wrote

pub returns-clause-other_words : goal.returns-clause-other_words
returns-clause-other_words g c = λ unasked. other_words_of _ _ _ _ _ c.finish.ensures.wrote (c.outcome_of-outcome.ensures.usage unasked)

pub returns-clause-exact : goal.returns-clause-exact
returns-clause-exact g c = exact _ _ _ _ _ _ _ c.outcome_of-outcome.ensures.comes c.finish.ensures.wrote
