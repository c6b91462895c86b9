-- What is freed at a node is what its frees name.
use Rattle.std.proofs.Common.{rules, ◌≡◌, ℕ, List, Option, subst, IfOk}
use Rattle.cover_certificate.specs.Closed.{names_freed}
use Rattle.cert_checker.specs.Checking.{failing_by, first_failing}
use Rattle.cert_checker.proofs.nodes.reason_at.Goals as goal

pub returns : goal.returns
returns c =
    let k = c.args.checking in
    let names : c.as_slice.result.now ≡ names_freed k.names.now k.graph.now c.args.node = search rules in
    subst (λ (ks : List (Option ℕ)). IfOk c.failing_by.result (λ r. r ≡ first_failing 2 (failing_by k c.args.reached ks c.args.node))) names c.failing_by.ensures
