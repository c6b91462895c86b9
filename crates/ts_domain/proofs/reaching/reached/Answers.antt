use Rattle.std.proofs.Common.{rules, ◌≡◌, ◌+◌, ◌<◌, ◌≤◌, [], ◌∷◌, nat_eq, ap, sym, ◌∙◌, length, slice_get, get_or, Some, arith}
use Rattle.std.specs.List.{flat_map}
use Rattle.std.proofs.lemmas.Option.{slice_get-get_or}
use Rattle.indexmap.specs.IndexSet.{insert_all}
use Rattle.ts_domain.specs.Rows.{row}
use Rattle.ts_domain.specs.Reaching.{target}
use Rattle.ts_domain.proofs.ReachLaws.{walked_all, walked_few, walked_on, walked_start}
use Rattle.ts_domain.proofs.reaching.reached.Goals as goal

pub loop-done-init : goal.loop-done-init
loop-done-init c =
    let is : c.add_node.new.nodes.keys ≡ 0 ∷ [] = search rules in
    walked_start c.args.graph.now c.add_node.new.nodes.keys is

pub loop-done-preserved : goal.loop-done-preserved
loop-done-preserved c =
    let g = c.args.graph.now in
    let xs = c.loop-done.nodes.keys in
    let done = c.loop-done.done in
    let v = get_or xs done 0 in
    let within : done < length xs = search rules in
    let made : c.add_targets.new.nodes.keys ≡ insert_all nat_eq xs (flat_map (target g) (row c.args.outgoing.now v)) = search rules in
    walked_on g c.args.outgoing.now done v xs c.add_targets.new.nodes.keys c.requires c.loop-done.invariant (slice_get-get_or xs done 0 within) made

pub loop-done-smaller : goal.loop-done-smaller
loop-done-smaller c =
    let few = walked_few c.args.graph.now c.loop-done.done c.loop-done.nodes.keys c.loop-done.invariant in
    let within : c.loop-done.done < length c.loop-done.nodes.keys = search rules in
    omega (arith, few, within)

pub returns : goal.returns
returns c =
    let past : length c.loop-done.nodes.keys ≤ c.loop-done.done = search rules in
    walked_all c.args.graph.now c.loop-done.done c.loop-done.nodes.keys c.loop-done.invariant past
