use Rattle.std.proofs.Common.{rules, length}
use Rattle.ts_domain.specs.Chosen.{is_chosen}
use Rattle.cover_certificate.proofs.PassingLaws.{passing_more, InsertsIf}
use Rattle.cover_certificate.proofs.making.chosen_places.Goals as goal

pub loop-place-preserved : goal.loop-place-preserved
loop-place-preserved c =
    let written : InsertsIf c.is_chosen.result c.loop-place.place c.loop-place.set c.insert_if.new.set = search rules in
    passing_more (is_chosen c.args.names.now c.args.choice.now) c.loop-place.place (length c.args.names.now.puts) c.is_chosen.result c.loop-place.set c.insert_if.new.set c.is_chosen.ensures c.loop-place.invariant written
