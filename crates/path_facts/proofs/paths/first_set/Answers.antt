use Rattle.std.proofs.Common.{◌≢◌, arith}
use Rattle.path_facts.proofs.PathLaws.{copied_rest}
use Rattle.path_facts.proofs.paths.first_set.Goals as goal

pub returns-else-node-eq0 : goal.returns-else-node-eq0
returns-else-node-eq0 c =
    let o : c.args.node ≢ 0 = omega arith in
    copied_rest c.args.names.now c.args.node c.args.all.now c.copy-else-node-eq0.result o c.requires.all c.copy-else-node-eq0.ensures.copy
