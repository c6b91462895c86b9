use Rattle.std.proofs.Common.{◌≡◌, take}
use Rattle.ts_domain.specs.Rows.{row}
use Rattle.cert_checker.specs.Checking.{any_at, edge_fails}
use Rattle.cert_checker.proofs.edges.edges_fail.Given as goal

abbrev pub invariant-loop-place : goal.invariant-loop-place
invariant-loop-place l = l.fails ≡ any_at (edge_fails l.checking l.question l.names (row l.checking.marks.now l.node)) l.checking.graph.now.edges (take l.place-index (row l.checking.edges.now l.node))
