use Rattle.std.proofs.Common.{◌≡◌, map, take, Some}
use Rattle.ts_domain.proofs.tables.site_keys.Given as goal

abbrev pub invariant-loop-site : goal.invariant-loop-site
invariant-loop-site l = l.keys ≡ map Some (take l.site-index l.sites)
