-- The test of a program decides whether two programs without frees are alike.
use Rattle.std.proofs.Common.{◌≡◌, ℕ, ◌==◌, nat_eq, ◌&&◌, List, map, Option, ap, sym, ◌∙◌}
use Rattle.std.specs.Bool.{Decides}
use Rattle.std.specs.Cmp.Lexicographic.{pointwise}
use Rattle.std.proofs.lemmas.Bool.Decides.{Decides-and, Decides-like, Decides-eqb}
use Rattle.std.proofs.lemmas.Slice.Eq.{bytes_eq-Decides}
use Rattle.std.proofs.lemmas.Simd.{map-map}
use Rattle.c_tree.specs.Fill.{emptied, regapped_block, regapped_fun, skeleton}
use Rattle.c_tree.specs.Alike.{bare_struct, bare_var, bare_fun, bare_block, bare, IsAlike}
use Rattle.c_tree.specs.AlikeTest.{option_alike, same_ty, alike_block, alike_struct, alike_var, alike_fun, alike_program}
use Rattle.c_tree.proofs.Deciders.{pointwise_decides, same_option_decides}
use Rattle.c_tree.proofs.AlikeParts.{ty_decides, struct_decides, var_decides}
use Rattle.c_tree.proofs.AlikeBlock.{block_decides}
use Rattle.c_tree.specs.declared.program.Block.{Block}
use Rattle.c_tree.specs.declared.program.Ty.{Ty}
use Rattle.c_tree.specs.declared.program.StructDef.{StructDef}
use Rattle.c_tree.specs.declared.program.VarDef.{VarDef}
use Rattle.c_tree.specs.declared.program.FunDef.{FunDef}
use Rattle.c_tree.specs.declared.program.Program.{Program}

abbrev bare_skeleton : FunDef → FunDef
bare_skeleton d = bare_fun (regapped_fun emptied d)

fun_decides : (a b : FunDef) → Decides (alike_fun a b) (bare_skeleton a ≡ bare_skeleton b)
fun_decides a b = Decides-like (alike_fun a b)
    (λ (((n, r), p), e). ap (λ (x : List ℕ). record { name = x; result = a.result; params = a.params; body = bare_block (regapped_block emptied a.body); at = 0 }) n
    ∙ ap (λ (x : Option Ty). record { name = b.name; result = x; params = a.params; body = bare_block (regapped_block emptied a.body); at = 0 }) r
    ∙ ap (λ (x : List ℕ). record { name = b.name; result = b.result; params = x; body = bare_block (regapped_block emptied a.body); at = 0 }) p
    ∙ ap (λ (x : Block). record { name = b.name; result = b.result; params = b.params; body = x; at = 0 }) e)
    (λ e. (((ap (λ (d : FunDef). d.name) e, ap (λ (d : FunDef). d.result) e), ap (λ (d : FunDef). d.params) e), ap (λ (d : FunDef). d.body) e))
    (Decides-and ((pointwise nat_eq a.name b.name && option_alike same_ty a.result b.result) && pointwise nat_eq a.params b.params) (alike_block a.body b.body)
    (Decides-and (pointwise nat_eq a.name b.name && option_alike same_ty a.result b.result) (pointwise nat_eq a.params b.params)
    (Decides-and (pointwise nat_eq a.name b.name) (option_alike same_ty a.result b.result) (bytes_eq-Decides a.name b.name) (same_option_decides same_ty ty_decides a.result b.result))
    (bytes_eq-Decides a.params b.params))
    (block_decides a.body b.body))

abbrev made : List StructDef → List VarDef → List FunDef → ℕ → ℕ → ℕ → Program
made ss vs fs m g c = record { structs = ss; vars = vs; funs = fs; main = m; gaps = g; calls = c }

same_made : (ss ts : List StructDef) (vs ws : List VarDef) (fs ds : List FunDef) (m n g h c k : ℕ)
    → ((((((m ≡ n) × (g ≡ h)) × (c ≡ k)) × (ss ≡ ts)) × (vs ≡ ws)) × (fs ≡ ds)) → made ss vs fs m g c ≡ made ts ws ds n h k
same_made ss ts vs ws fs ds m n g h c k (((((p, q), r), s), v), f) =
    ap (λ (x : ℕ). made ss vs fs x g c) p ∙ ap (λ (x : ℕ). made ss vs fs n x c) q ∙ ap (λ (x : ℕ). made ss vs fs n h x) r
    ∙ ap (λ (x : List StructDef). made x vs fs n h k) s ∙ ap (λ (x : List VarDef). made ts x fs n h k) v ∙ ap (λ (x : List FunDef). made ts ws x n h k) f

same_parts : (p q : Program) → p ≡ q → ((((((p.main ≡ q.main) × (p.gaps ≡ q.gaps)) × (p.calls ≡ q.calls)) × (p.structs ≡ q.structs)) × (p.vars ≡ q.vars)) × (p.funs ≡ q.funs))
same_parts p q e = (((((ap (λ (x : Program). x.main) e, ap (λ (x : Program). x.gaps) e), ap (λ (x : Program). x.calls) e), ap (λ (x : Program). x.structs) e), ap (λ (x : Program). x.vars) e), ap (λ (x : Program). x.funs) e)

funs_decide : (fs ds : List FunDef) → Decides (pointwise alike_fun fs ds) (map bare_fun (map (regapped_fun emptied) fs) ≡ map bare_fun (map (regapped_fun emptied) ds))
funs_decide fs ds = Decides-like (pointwise alike_fun fs ds)
    (λ e. map-map bare_fun (regapped_fun emptied) fs ∙ e ∙ sym (map-map bare_fun (regapped_fun emptied) ds))
    (λ e. sym (map-map bare_fun (regapped_fun emptied) fs) ∙ e ∙ map-map bare_fun (regapped_fun emptied) ds)
    (pointwise_decides alike_fun bare_skeleton fun_decides fs ds)

pub program_decides : (a b : Program) → Decides (alike_program a b) (IsAlike (skeleton a) (skeleton b))
program_decides a b = Decides-like (alike_program a b)
    (same_made (map bare_struct a.structs) (map bare_struct b.structs) (map bare_var a.vars) (map bare_var b.vars) (map bare_fun (map (regapped_fun emptied) a.funs)) (map bare_fun (map (regapped_fun emptied) b.funs)) a.main b.main a.gaps b.gaps a.calls b.calls)
    (same_parts (bare (skeleton a)) (bare (skeleton b)))
    (Decides-and _ (pointwise alike_fun a.funs b.funs)
    (Decides-and _ (pointwise alike_var a.vars b.vars)
    (Decides-and _ (pointwise alike_struct a.structs b.structs)
    (Decides-and _ (a.calls == b.calls) (Decides-and (a.main == b.main) (a.gaps == b.gaps) (Decides-eqb a.main b.main) (Decides-eqb a.gaps b.gaps)) (Decides-eqb a.calls b.calls))
    (pointwise_decides alike_struct bare_struct struct_decides a.structs b.structs))
    (pointwise_decides alike_var bare_var var_decides a.vars b.vars))
    (funs_decide a.funs b.funs))
