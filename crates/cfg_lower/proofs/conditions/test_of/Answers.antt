use Rattle.std.proofs.Common.{sym}
use Rattle.cfg_lower.specs.Meant.{expr_of}
use Rattle.cfg_lower.proofs.LoneTests.{lone, no_test}
use Rattle.cfg_lower.proofs.conditions.test_of.Goals as goal

pub returns-in-len1-up : goal.returns-in-len1-up
returns-in-len1-up c =
    sym (no_test c.args.path.now (expr_of c.args.condition) (lone c.args.condition c.in-Variable.is) c.in-len1-up.len_at_least)
