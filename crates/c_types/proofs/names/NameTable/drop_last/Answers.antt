-- The name of the last row isn't found any more, and the others are as before.
use Rattle.std.proofs.Common.{◌≡◌, ℕ, List, [], ◌∷◌, ◌++◌, sym, ◌∙◌, ap, subst}
use Rattle.c_types.specs.Tables.{IsIndex}
use Rattle.c_types.proofs.TableLemmas.{IsIndex-fewer}
use Rattle.c_types.proofs.names.NameTable.drop_last.Goals as goal

pub invariant_of-self : goal.invariant_of-self
invariant_of-self g c =
    let front = c.pop.new.self.items in
    let name = c.as_slice.result.now in
    let value = c.in-Some.field-0-1 in
    let all : c.self.inside.rows.items ≡ front ++ (name, value) ∷ [] = c.in-Some.ensures.items ∙ ap (λ word. front ++ (word, value) ∷ []) (sym c.as_slice.ensures) in
    IsIndex-fewer (λ k. k.items) c.self.inside.places.entries c.remove.new.self.entries front (name, value)
    (subst (λ (rows : List (List ℕ × g.row.T.Denot)). IsIndex (λ k. k.items) c.self.inside.places.entries rows) all c.self.invariant)
    c.remove.ensures.updates.1
    c.remove.ensures.updates.3
