use Rattle.std.proofs.Common.{rules, ◌≡◌, take, ap, sym, ◌∙◌}
use Rattle.std.specs.List.{flat_map}
use Rattle.indexmap.specs.IndexSet.{insert_all}
use Rattle.typestate_fixpoint.specs.Steps.{born_from, same_triple}
use Rattle.ts_domain.proofs.KeyLaws.{flat_on, insert_append}
use Rattle.typestate_fixpoint.proofs.derivation.add_all_born.Goals as goal

pub loop-place-preserved : goal.loop-place-preserved
loop-place-preserved c =
    let es = c.args.graph.now.edges in
    let made = born_from c.args.names.now c.args.graph.now c.args.facts.now c.args.nodes.now.keys in
    let i = c.loop-place.place in
    let e = c.at-edge.result.now in
    let added : c.add_born_from.new.triples.keys ≡ insert_all same_triple c.loop-place.triples.keys (made e) = search rules in
    added
    ∙ ap (λ ks. insert_all same_triple ks (made e)) c.loop-place.invariant
    ∙ sym (insert_append same_triple c.args.triples.now.keys (flat_map made (take i es)) (made e))
    ∙ ap (insert_all same_triple c.args.triples.now.keys) (sym (flat_on made es i e c.at-edge.ensures))
