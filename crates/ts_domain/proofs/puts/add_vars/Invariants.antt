use Rattle.std.proofs.Common.{◌≡◌, ◌++◌, drop, map}
use Rattle.ts_domain.specs.Puts.{var_put}
use Rattle.ts_domain.proofs.puts.add_vars.Given as goal

abbrev pub invariant-loop-var : goal.invariant-loop-var
invariant-loop-var l = l.puts ++ map (var_put l.gap) (drop l.var-index l.vars) ≡ l.fn.puts ++ map (var_put l.gap) l.vars
