-- A condition is asked as if the node were reached where it is.
use Rattle.std.proofs.Common.{◌≡◌, true, refl, sym, subst, ◌∙◌}
use Rattle.std.proofs.Math.Dec.{eqb}
use Rattle.std.proofs.lemmas.Bool.{eq-eqb, eqb-true}
use Rattle.std.proofs.lemmas.Result.{IfOk-weaker}
use Rattle.ts_domain.specs.Path.{Reached}
use Rattle.ts_domain.proofs.Members.{any_at, any_from}
use Rattle.cert_checker.specs.Checked.{BrokenAt}
use Rattle.cert_checker.proofs.CheckLaws.{broken_is}
use Rattle.cert_checker.proofs.closed.broken_at.Goals as goal

pub returns : goal.returns
returns c =
    let k = c.args.checking in
    let to : c.contains-is_reached.result ≡ true → Reached k.graph.now c.args.node =
    λ is. (let it = any_at (eqb c.args.node) c.args.nodes.now.keys (sym c.contains-is_reached.ensures ∙ is) in subst (Reached k.graph.now) (sym (eqb-true c.args.node it.0 it.2)) ((c.requires.nodes it.0).0 it.1)) in
    let from : Reached k.graph.now c.args.node → c.contains-is_reached.result ≡ true =
    λ reached. c.contains-is_reached.ensures ∙ any_from (eqb c.args.node) c.args.nodes.now.keys c.args.node ((c.requires.nodes c.args.node).1 reached) (eq-eqb c.args.node c.args.node refl) in
    IfOk-weaker c.reason_at.result _ (BrokenAt k.names.now k.graph.now k.cert.now c.args.node)
    (λ o e. broken_is k c.requires.ready c.args.node c.contains-is_reached.result c.requires.regular to from c.requires.low o e) c.reason_at.ensures
