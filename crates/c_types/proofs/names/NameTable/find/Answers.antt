-- A name's place is that of a row with its value.
use Rattle.std.proofs.Common.{rules, ◌≡◌, ◌<◌, ℕ, List, length, None, Some, sym, ◌∙◌, ap}
use Rattle.std.specs.Option.{option_copied}
use Rattle.c_types.specs.Tables.{found, place_of}
use Rattle.c_types.proofs.TableLemmas.{found-absent, found-at}
use Rattle.c_types.proofs.names.NameTable.find.Goals as goal

pub returns-in_err-place : goal.returns-in_err-place
returns-in_err-place g c =
    let none : place_of c.self.inside.rows.items c.args.name.now ≡ None = sym (c.in_err-place.ensures.value ∙ c.self.invariant.places c.args.name.now) in
    ap option_copied c.from_residual.ensures
    ∙ sym (found-absent c.self.inside.rows.items c.args.name.now none)
    ∙ ap (λ rows. found rows c.args.name.now) c.self.view_is

pub index-requires : goal.index-requires
index-requires g c =
    let at : place_of c.self.inside.rows.items c.args.name.now ≡ Some c.in_ok-place.field-0.now = sym (c.in_ok-place.ensures.value ∙ c.self.invariant.places c.args.name.now) in
    let below : c.in_ok-place.field-0.now < length c.self.inside.rows.items = (found-at c.self.inside.rows.items c.args.name.now c.in_ok-place.field-0.now at).0 in
    search rules

pub returns : goal.returns
returns g c =
    let at : place_of c.self.inside.rows.items c.args.name.now ≡ Some c.in_ok-place.field-0.now = sym (c.in_ok-place.ensures.value ∙ c.self.invariant.places c.args.name.now) in
    ap (λ (row : List ℕ × g.row.T.Denot). Some row.1) c.index.ensures
    ∙ sym ((found-at c.self.inside.rows.items c.args.name.now c.in_ok-place.field-0.now at).1 c.index.result.now)
    ∙ ap (λ rows. found rows c.args.name.now) c.self.view_is
