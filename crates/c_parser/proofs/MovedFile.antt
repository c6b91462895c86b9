-- Neither offsets nor whether bodies have braces show in what is printed of a file.
use Rattle.std.proofs.Common.{◌≡◌, ℕ, Bool, List, [], ◌∷◌, ◌++◌, map, codes, Option, Some, None, option_map, refl, ap, ◌∙◌}
use Rattle.c_lexer.specs.declared.token.Kind.{Kind}
use Rattle.c_tree.specs.declared.tree.Body.{Body}
use Rattle.c_tree.specs.declared.tree.Expr.{Expr, Expr-F, out-Expr, map-Expr}
use Rattle.c_tree.specs.declared.tree.Expr.TheOpen.{Const, Null, Var, Field, Deref, Index, Unary, Binary}
use Rattle.c_tree.specs.declared.tree.GlobalDecl.{GlobalDecl}
use Rattle.c_tree.specs.declared.tree.Head.{Head}
use Rattle.c_tree.specs.declared.tree.Spec.{Spec}
use Rattle.c_tree.specs.declared.tree.Top.{Top}
use Rattle.c_tree.specs.declared.tree.Top.TheVariants as top
use Rattle.c_tree.specs.declared.tree.Tree.{Tree}
use Rattle.c_tree.specs.declared.tree.Word.{Word}
use Rattle.c_parser.specs.Alike.{moved_layer, moved_expr, moved_word, moved_spec, moved_block, moved_body, moved_global, moved_head, moved_top, moved}
use Rattle.c_parser.specs.Printed.{key, mark, each, maybe, within, ended, sign_kind, printed_base, printed_word, printed_starred, printed_spec, printed_block, printed_field, printed_body, behind_sign, printed_const, printed_value, printed_global, next_global, printed_globals, next_param, printed_params, printed_head, printed_struct, printed_top, printed}
use Rattle.c_parser.proofs.MovedParts.{each_moved, maybe_moved, moved_out, expr_prints, base_prints, word_prints, starred_prints, spec_prints}
use Rattle.c_parser.proofs.OpenedBlocks.{block_prints}

field_prints : (f : ℕ → ℕ) (s : Spec) → printed_field (moved_spec f s) ≡ printed_field s
field_prints f s = ap ended (spec_prints f s)

body_prints : (f : ℕ → ℕ) (b : Body) → printed_body (moved_body f b) ≡ printed_body b
body_prints f b = ap (λ (ks : List Kind). mark (codes "{") ∷ (ks ++ mark (codes "}") ∷ [])) (each_moved printed_field (moved_spec f) (field_prints f) b.fields)

struct_prints : (f : ℕ → ℕ) (tag : Option Word) (body : Option Body) → printed_struct (option_map (moved_word f) tag) (option_map (moved_body f) body) ≡ printed_struct tag body
struct_prints f tag body =
    ap (λ (ks : List Kind). key (codes "struct") ∷ (ks ++ maybe printed_body (option_map (moved_body f) body))) (maybe_moved printed_word (moved_word f) (word_prints f) tag)
    ∙ ap (λ (ks : List Kind). key (codes "struct") ∷ (maybe printed_word tag ++ ks)) (maybe_moved printed_body (moved_body f) (body_prints f) body)

-- constants

abbrev layer_moved : (ℕ → ℕ) → Expr-F Expr → Expr-F Expr
layer_moved f l = moved_layer f (map-Expr Expr Expr (moved_expr f) l)

sign_prints : (f : ℕ → ℕ) (e : Expr) (l : Expr-F Expr) → behind_sign (moved_expr f e) (layer_moved f l) ≡ behind_sign e l
sign_prints f e (Const n at) = refl
sign_prints f e (Null at) = expr_prints f e 1
sign_prints f e (Var w) = expr_prints f e 1
sign_prints f e (Field x w at) = expr_prints f e 1
sign_prints f e (Deref x at) = expr_prints f e 1
sign_prints f e (Index x i at) = expr_prints f e 1
sign_prints f e (Unary s x at) = expr_prints f e 1
sign_prints f e (Binary o a b at) = expr_prints f e 1

const_prints : (f : ℕ → ℕ) (e : Expr) (l : Expr-F Expr) → printed_const (moved_expr f e) (layer_moved f l) ≡ printed_const e l
const_prints f e (Const n at) = expr_prints f e 1
const_prints f e (Null at) = expr_prints f e 1
const_prints f e (Var w) = expr_prints f e 1
const_prints f e (Field x w at) = expr_prints f e 1
const_prints f e (Deref x at) = expr_prints f e 1
const_prints f e (Index x i at) = expr_prints f e 1
const_prints f e (Unary s x at) = ap (λ (l : Expr-F Expr). sign_kind s ∷ behind_sign (moved_expr f x) l) (moved_out f x) ∙ ap (λ (ks : List Kind). sign_kind s ∷ ks) (sign_prints f x (out-Expr x))
const_prints f e (Binary o a b at) = expr_prints f e 1

value_prints : (f : ℕ → ℕ) (e : Expr) → printed_value (moved_expr f e) ≡ printed_value e
value_prints f e =
    ap (λ (l : Expr-F Expr). mark (codes "=") ∷ printed_const (moved_expr f e) l) (moved_out f e) ∙ ap (λ (ks : List Kind). mark (codes "=") ∷ ks) (const_prints f e (out-Expr e))

-- declarations of the file

global_prints : (f : ℕ → ℕ) (g : GlobalDecl) → printed_global (moved_global f g) ≡ printed_global g
global_prints f g =
    ap (λ (ks : List Kind). ks ++ maybe printed_value (option_map (moved_expr f) g.value)) (starred_prints f g.spec)
    ∙ ap (λ (ks : List Kind). printed_starred g.spec ++ ks) (maybe_moved printed_value (moved_expr f) (value_prints f) g.value)

next_prints : (f : ℕ → ℕ) (g : GlobalDecl) → next_global (moved_global f g) ≡ next_global g
next_prints f g = ap (λ (ks : List Kind). mark (codes ",") ∷ ks) (global_prints f g)

globals_prints : (f : ℕ → ℕ) (gs : List GlobalDecl) → printed_globals (map (moved_global f) gs) ≡ printed_globals gs
globals_prints f [] = refl
globals_prints f (g ∷ gs) =
    ap (λ (ks : List Kind). ks ++ (printed_global (moved_global f g) ++ each next_global (map (moved_global f) gs))) (base_prints f g.spec.base)
    ∙ ap (λ (ks : List Kind). printed_base g.spec.base ++ (ks ++ each next_global (map (moved_global f) gs))) (global_prints f g)
    ∙ ap (λ (ks : List Kind). printed_base g.spec.base ++ (printed_global g ++ ks)) (each_moved next_global (moved_global f) (next_prints f) gs)

param_prints : (f : ℕ → ℕ) (s : Spec) → next_param (moved_spec f s) ≡ next_param s
param_prints f s = ap (λ (ks : List Kind). mark (codes ",") ∷ ks) (spec_prints f s)

params_prints : (f : ℕ → ℕ) (params : List Spec) → printed_params (map (moved_spec f) params) ≡ printed_params params
params_prints f [] = refl
params_prints f (s ∷ params) =
    ap (λ (ks : List Kind). ks ++ each next_param (map (moved_spec f) params)) (spec_prints f s)
    ∙ ap (λ (ks : List Kind). printed_spec s ++ ks) (each_moved next_param (moved_spec f) (param_prints f) params)

head_prints : (f : ℕ → ℕ) (h : Head) → printed_head (moved_head f h) ≡ printed_head h
head_prints f h =
    ap (λ (ks : List Kind). ks ++ within (printed_params (map (moved_spec f) h.params))) (spec_prints f h.result)
    ∙ ap (λ (ks : List Kind). printed_spec h.result ++ within ks) (params_prints f h.params)

top_prints : (f : ℕ → ℕ) (g : Bool → Bool) (x : Top) → printed_top (moved_top f g x) ≡ printed_top x
top_prints f g (top.Struct tag body None) = ap ended (struct_prints f tag body)
top_prints f g (top.Struct tag body (Some w)) = ap (λ (ks : List Kind). ended (key (codes "typedef") ∷ (ks ++ printed_word w))) (struct_prints f tag body)
top_prints f g (top.Globals gs) = ap ended (globals_prints f gs)
top_prints f g (top.Proto h) = ap ended (head_prints f h)
top_prints f g (top.Fun h b) = ap (λ (ks : List Kind). ks ++ printed_block (moved_block f g b)) (head_prints f h) ∙ ap (λ (ks : List Kind). printed_head h ++ ks) (block_prints f g b)

pub tree_prints : (f : ℕ → ℕ) (g : Bool → Bool) (t : Tree) → printed (moved f g t) ≡ printed t
tree_prints f g t = each_moved printed_top (moved_top f g) (top_prints f g) t.tops
