use Rattle.std.proofs.Common.{rules, ◌≡◌, ◌++◌, List, [], ◌∷◌, ℕ, Bool, cond, ap, sym, ◌∙◌}
use Rattle.c_tree.specs.declared.program.FieldDef.{FieldDef}
use Rattle.ts_domain.specs.Pointers.{is_pointer}
use Rattle.ts_domain.proofs.RowLaws.{passing_more}
use Rattle.ts_domain.proofs.numbering.pointer_fields.Goals as goal

pub loop-place-preserved : goal.loop-place-preserved
loop-place-preserved c =
    let i = c.loop-place.place in
    let pushed : c.push_if.new.list ≡ c.loop-place.list ++ cond c.is_pointer.result (i ∷ []) [] = search rules in
    pushed ∙ ap (λ (b : Bool). c.loop-place.list ++ cond b (i ∷ []) []) c.is_pointer.ensures
    ∙ ap (λ (xs : List ℕ). xs ++ cond ((λ (f : FieldDef). is_pointer f.ty) c.at.result.now) (i ∷ []) []) c.loop-place.invariant
    ∙ sym (passing_more (λ (f : FieldDef). is_pointer f.ty) c.args.fields.now i c.at.result.now c.at.ensures)
