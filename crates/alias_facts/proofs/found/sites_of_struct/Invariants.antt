use Rattle.std.proofs.Common.{◌≡◌}
use Rattle.std.specs.List.{filter, range_with_len}
use Rattle.alias_facts.specs.Flow.{is_of_struct}
use Rattle.alias_facts.proofs.found.sites_of_struct.Given as goal

abbrev pub invariant-loop-site : goal.invariant-loop-site
invariant-loop-site l = l.list ≡ filter (is_of_struct l.names l.graph l.of) (range_with_len 0 l.site)
