use Rattle.std.proofs.Common.{rules, ◌≡◌, [], length}
use Rattle.mf_set.specs.Numbers.{Numbers}
use Rattle.std.specs.List.{flat_map}
use Rattle.indexmap.specs.IndexSet.{insert_all}
use Rattle.typestate_fixpoint.specs.Steps.{born_from, same_triple}
use Rattle.typestate_fixpoint.proofs.GoingLaws.{going_begin}
use Rattle.typestate_fixpoint.proofs.derivation.begin.Goals as goal

pub returns : goal.returns
returns c =
    let n = c.args.names.now in
    let g = c.args.graph.now in
    let f = c.args.facts.now in
    let nodes = c.in_ok-nodes.nodes.keys in
    let made : c.add_all_born.new.triples.keys ≡ insert_all same_triple [] (flat_map (born_from n g f nodes) g.edges) = search rules in
    let empty : c.in_ok-forbidden.forbidden ≡ (let s : Numbers = record { items = []; room = length n.puts } in s) = search rules in
    let nothing : c.new.result.keys ≡ [] = search rules in
    going_begin n g f nodes c.add_all_born.new.triples.keys c.in_ok-forbidden.forbidden c.new.result.keys c.in_ok-nodes.ensures made empty nothing
