use Rattle.std.proofs.Common.{Some, ap, sym, ◌∙◌}
use Rattle.std.proofs.lemmas.Option.{slice_get-get_or}
use Rattle.cover_clauses.proofs.listing.add_rows.Goals as goal

pub add_row-requires-clause-room : goal.add_row-requires-clause-room
add_row-requires-clause-room c =
    let r = c.index-rows-place.result in
    (c.requires.square c.loop-place.place r (slice_get-get_or c.args.rows.now c.loop-place.place r c.loop-place-test.true ∙ ap Some (sym c.index-rows-place.is))).1 ∙ c.requires.long
