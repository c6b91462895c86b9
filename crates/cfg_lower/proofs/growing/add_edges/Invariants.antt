use Rattle.std.proofs.Common.{◌≡◌, ◌++◌, map, take}
use Rattle.cfg_lower.specs.Growth.{edge_by}
use Rattle.cfg_lower.proofs.growing.add_edges.Given as goal

abbrev pub invariant-loop-step : goal.invariant-loop-step
invariant-loop-step l = l.edges ≡ l.fn.edges ++ map (edge_by l.from) (take l.step-index l.steps)
