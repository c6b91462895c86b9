use Rattle.std.proofs.Common.{rules, ◌≡◌, [], refl}
use Rattle.c_graph.specs.Nodes.{exits, placed_from}
use Rattle.cfg_lower.specs.Growth.{grown}
use Rattle.cfg_lower.proofs.Grown.{whole_graph}
use Rattle.cfg_lower.proofs.Locksteps.{runs_as}
use Rattle.cfg_lower.proofs.lowering.lower.Goals as goal

pub returns-clause-ok : goal.returns-clause-ok
returns-clause-ok c =
    let p = c.args.program.now in
    let cs = c.args.contexts.now.list in
    let mid : c.add_contexts.new.graph ≡ grown p cs (record { nodes = []; edges = [] }) (placed_from p cs 0 cs) = search rules in
    let last : c.add_exits.new.graph ≡ grown p cs c.add_contexts.new.graph (exits p) = search rules in
    whole_graph p cs (record { nodes = []; edges = [] }) c.add_contexts.new.graph c.add_exits.new.graph refl mid last

pub returns-clause-lockstep : goal.returns-clause-lockstep
returns-clause-lockstep c = λ w same.
    let p = c.args.program.now in
    let cs = c.args.contexts.now.list in
    let mid : c.add_contexts.new.graph ≡ grown p cs (record { nodes = []; edges = [] }) (placed_from p cs 0 cs) = search rules in
    let last : c.add_exits.new.graph ≡ grown p cs c.add_contexts.new.graph (exits p) = search rules in
    runs_as p cs c.add_exits.new.graph w same (whole_graph p cs (record { nodes = []; edges = [] }) c.add_contexts.new.graph c.add_exits.new.graph refl mid last)
