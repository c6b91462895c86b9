-- The new name is found at the next place, and the others as before.
use Rattle.std.proofs.Common.{rules, ◌≡◌, ℕ, List, [], ◌∷◌, ◌++◌, length, None, Some, sym, ◌∙◌, ap, subst}
use Rattle.c_types.specs.Tables.{found, place_of, IsIndex}
use Rattle.c_types.proofs.TableLemmas.{place_of-absent, IsIndex-more}
use Rattle.c_types.proofs.names.NameTable.declare.Goals as goal

pub invariant_of-self-2 : goal.invariant_of-self-2
invariant_of-self-2 g c =
    let rows = c.self.inside.rows.items in
    let key = c.in_ok-key.key in
    let absent : place_of rows key.items ≡ None =
    ap (place_of rows) c.in_ok-key.ensures.items
    ∙ place_of-absent rows c.args.name.now (ap (λ rs. found rs c.args.name.now) c.self.view_is ∙ c.requires) in
    let length_is : c.len.result ≡ length c.reserve.new.self.items = search rules in
    let count : c.len.result ≡ length rows = length_is ∙ ap length c.in_ok-reserve.ensures.items in
    let all : rows ++ (key.items, c.args.value) ∷ [] ≡ c.push.new.self.items =
    sym (c.in_ok-push.ensures.items
    ∙ ap (λ rs. rs ++ (c.in_ok-name.name, c.args.value) ∷ []) c.in_ok-reserve.ensures.items
    ∙ ap (λ name. rows ++ (name, c.args.value) ∷ []) (c.in_ok-name.ensures ∙ sym c.in_ok-key.ensures.items)) in
    subst (λ (rs : List (List ℕ × g.row.T.Denot)). IsIndex (λ name. name.items) c.insert.new.self.entries rs) all
    (IsIndex-more (λ name. name.items) c.self.inside.places.entries c.insert.new.self.entries rows (key.items, c.args.value) c.self.invariant absent
    (c.in_ok-insert.ensures.updates.1 ∙ ap Some count)
    c.in_ok-insert.ensures.updates.3)
