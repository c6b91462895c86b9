-- An assignment by its parts.
use Rattle.std.proofs.Common.{◌≡◌, Bool, false, ap, ◌∙◌}
use Rattle.c_tree.specs.declared.program.Simple.{Simple as MadeSimple}
use Rattle.c_tree.specs.declared.tree.Simple.{Simple}
use Rattle.c_types.specs.Expressions.{judged}
use Rattle.c_types.specs.Scopes.{noted}
use Rattle.c_types.specs.Statements.{assigned, noting, walked_right, walked_simple}
use Rattle.c_types.specs.declared.judged.Checked.{Checked}
use Rattle.c_types.specs.declared.judged.Judged.{Judged}
use Rattle.c_types.specs.declared.judged.RightValue.{RightValue}
use Rattle.c_types.specs.declared.judged.Value.{Value}
use Rattle.c_types.specs.declared.scope.Walk.{Walk}

-- an assignment is its place, its right side, and what both break
pub simple_done : (s : Simple) (w t u : Walk) (p : Judged Value) (r : Judged RightValue) (c : Checked MadeSimple)
    → p ≡ judged w.scope s.place.expr false → (t, r) ≡ walked_right s.right w → c ≡ assigned s p r → u ≡ noted c.faults t → (u, c.made) ≡ walked_simple s w
simple_done s w t u p r c place right both end =
    ap (λ v. (v, c.made)) end
    ∙ ap (noting t) both
    ∙ ap (λ q. noting t (assigned s q r)) place
    ∙ ap (λ (x : Walk × Judged RightValue). noting x.0 (assigned s (judged w.scope s.place.expr false) x.1)) right
