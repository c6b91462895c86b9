-- A definition of a function by its parts.
use Rattle.std.proofs.Common.{◌≡◌, ℕ, Bool, true, List, length, sym, ap, ◌∙◌}
use Rattle.c_tree.specs.declared.program.Block.{Block as MadeBlock}
use Rattle.c_tree.specs.declared.program.FunDef.{FunDef}
use Rattle.c_tree.specs.declared.tree.Block.{Block}
use Rattle.c_tree.specs.declared.tree.Head.{Head}
use Rattle.c_tree.specs.declared.tree.Spec.{Spec}
use Rattle.c_types.specs.Blocks.{walked_block}
use Rattle.c_types.specs.Functions.{body_behind, body_ended, body_nesting, ended, fun_of, params_behind, walked_fun, walked_heading, walked_param}
use Rattle.c_types.specs.InTurn.{each}
use Rattle.c_types.specs.declared.scope.Returned.{Returned}
use Rattle.c_types.specs.declared.scope.Walk.{Walk}

-- a definition is its heading, its parameters, its body, and what comes behind it
pub function_done : (h : Head) (body : Block) (w t u v : Walk) (r : Returned) (f n : ℕ) (specs : List Spec) (ps : List ℕ) (b : MadeBlock) (d : FunDef)
    → f ≡ length w.funs → (t, r) ≡ walked_heading h true w → n ≡ length t.scope.names → specs ≡ h.params
    → (u, ps) ≡ each (walked_param f) specs t → (v, b) ≡ walked_block body (body_nesting f r) u → d ≡ fun_of h r ps b
    → ended body r n f d v ≡ walked_fun h body w
function_done h body w t u v r f n specs ps b d number heading names all params block fun =
    ap (λ x. ended body r n f x v) fun
    ∙ ap (λ (x : Walk × MadeBlock). body_ended h body r n f ps x) block
    ∙ ap (λ (x : Walk × List ℕ). body_behind h body r n f x) (params ∙ ap (λ s. each (walked_param f) s t) all)
    ∙ ap (λ m. body_behind h body r m f (each (walked_param f) h.params t)) names
    ∙ ap (λ (x : Walk × Returned). params_behind h body f x) heading
    ∙ ap (λ k. params_behind h body k (walked_heading h true w)) number
