use Rattle.std.proofs.Common.{rules, ◌≡◌, List, Option, ℕ, length, map, ap, subst, ◌∙◌}
use Rattle.c_graph.specs.declared.graph.Node.{Node}
use Rattle.ts_domain.specs.Rows.{AreRows}
use Rattle.cover_problem.specs.Parts.{gap_of, AreAllowedBy}
use Rattle.cover_problem.proofs.AllowedLaws.{allowed_all}
use Rattle.cover_problem.proofs.allowed.allowed.Goals as goal

pub returns : goal.returns
returns c =
    let g = c.args.graph.now in
    let n = c.args.names.now in
    let p = c.args.path.now in
    let slice : c.as_slice.result.now ≡ g.nodes = search rules in
    let made : c.in_ok-keys.keys ≡ map (λ (v : Node). gap_of v.kind) c.as_slice.result.now = search rules in
    let rows : AreRows c.in_ok-keys.keys c.in_ok-nodes.nodes = search rules in
    let lent : c.as_slice-2.result.now ≡ c.in_ok-nodes.nodes = search rules in
    let by : AreAllowedBy n p c.as_slice-2.result.now (length n.puts) c.in_ok-set.set = search rules in
    allowed_all g n p c.in_ok-nodes.nodes c.in_ok-set.set
    (subst (λ (ks : List (Option ℕ)). AreRows ks c.in_ok-nodes.nodes) (made ∙ ap (map (λ (v : Node). gap_of v.kind)) slice) rows)
    (subst (λ (ns : List (List ℕ)). AreAllowedBy n p ns (length n.puts) c.in_ok-set.set) lent by)
