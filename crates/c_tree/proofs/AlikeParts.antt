-- The tests of calls, statements and declarations decide whether their bare forms are equal.
use Rattle.std.proofs.Common.{◌≡◌, ℕ, true, ◌==◌, nat_eq, ◌&&◌, List, Option, option_map, refl, ap, ◌∙◌}
use Rattle.std.specs.Bool.{Decides}
use Rattle.std.specs.Ordering.{int_eq}
use Rattle.std.specs.Cmp.Lexicographic.{pointwise}
use Rattle.std.proofs.lemmas.Bool.Decides.{Decides-and, Decides-like, Decides-eqb, Decides-int_eq}
use Rattle.std.proofs.lemmas.Slice.Eq.{bytes_eq-Decides}
use Rattle.c_tree.specs.Alike.{bare_expr, bare_size, bare_call, bare_right, bare_declr, bare_simple, bare_start, bare_head, bare_struct, bare_var}
use Rattle.c_tree.specs.AlikeTest.{option_alike, same_op, same_ty, same_home, alike_expr, alike_size, alike_call, alike_right, alike_declr, alike_simple, alike_start, alike_head, alike_field, alike_struct, alike_var}
use Rattle.c_tree.proofs.Deciders.{pointwise_decides, option_decides, list_decides}
use Rattle.c_tree.proofs.AlikeExpr.{op_decides, expr_decides}
use Rattle.c_tree.specs.declared.program.Declr.{Declr}
use Rattle.c_tree.specs.declared.program.Simple.{Simple}
use Rattle.c_tree.specs.declared.program.Right.{Right}
use Rattle.c_tree.specs.declared.program.Right.TheVariants as right
use Rattle.c_tree.specs.declared.program.Call.{Call}
use Rattle.c_tree.specs.declared.program.Call.TheVariants as call
use Rattle.c_tree.specs.declared.program.Size.{Size}
use Rattle.c_tree.specs.declared.program.Size.TheVariants as size
use Rattle.c_tree.specs.declared.program.ForHead.{ForHead}
use Rattle.c_tree.specs.declared.program.Start.{Start}
use Rattle.c_tree.specs.declared.program.Start.TheVariants as start
use Rattle.c_tree.specs.declared.program.Ty.{Ty}
use Rattle.c_tree.specs.declared.program.Ty.TheVariants as ty
use Rattle.c_tree.specs.declared.program.Home.{Home}
use Rattle.c_tree.specs.declared.program.Home.TheVariants as home
use Rattle.c_tree.specs.declared.program.FieldDef.{FieldDef}
use Rattle.c_tree.specs.declared.program.StructDef.{StructDef}
use Rattle.c_tree.specs.declared.program.VarDef.{VarDef}

pub size_decides : (a b : Size) → Decides (alike_size a b) (bare_size a ≡ bare_size b)
size_decides (size.Fields s) (size.Fields t) = Decides-like (s == t) (λ e. cc) (λ e. cc) (Decides-eqb s t)
size_decides (size.Ints a) (size.Ints b) = Decides-like (option_alike alike_expr a b) (λ e. cc) (λ e. cc) (option_decides alike_expr bare_expr expr_decides a b)
size_decides _ _ = (λ e. cc, λ e. cc)

pub call_decides : (a b : Call) → Decides (alike_call a b) (bare_call a ≡ bare_call b)
call_decides (call.User m f xs at) (call.User n g ys at') = Decides-like (((m == n) && (f == g)) && pointwise alike_expr xs ys) (λ ((p, q), r). cc) (λ e. ((cc, cc), cc))
    (Decides-and ((m == n) && (f == g)) (pointwise alike_expr xs ys) (Decides-and (m == n) (f == g) (Decides-eqb m n) (Decides-eqb f g)) (pointwise_decides alike_expr bare_expr expr_decides xs ys))
call_decides (call.Malloc a at) (call.Malloc b at') = Decides-like (alike_size a b) (λ e. cc) (λ e. cc) (size_decides a b)
call_decides (call.Getchar at) (call.Getchar at') = (λ _. refl, λ _. refl)
call_decides (call.Putchar a at) (call.Putchar b at') = Decides-like (alike_expr a b) (λ e. cc) (λ e. cc) (expr_decides a b)
call_decides (call.Printf s xs at) (call.Printf t ys at') = Decides-like (pointwise nat_eq s t && pointwise alike_expr xs ys) (λ (p, q). cc) (λ e. (cc, cc))
    (Decides-and (pointwise nat_eq s t) (pointwise alike_expr xs ys) (bytes_eq-Decides s t) (pointwise_decides alike_expr bare_expr expr_decides xs ys))
call_decides _ _ = (λ e. cc, λ e. cc)

pub right_decides : (a b : Right) → Decides (alike_right a b) (bare_right a ≡ bare_right b)
right_decides (right.Plain a) (right.Plain b) = Decides-like (alike_expr a b) (λ e. cc) (λ e. cc) (expr_decides a b)
right_decides (right.Call a) (right.Call b) = Decides-like (alike_call a b) (λ e. cc) (λ e. cc) (call_decides a b)
right_decides _ _ = (λ e. cc, λ e. cc)

pub declr_decides : (a b : Declr) → Decides (alike_declr a b) (bare_declr a ≡ bare_declr b)
declr_decides a b = Decides-like (alike_declr a b)
    (λ (p, q). ap (λ (v : ℕ). record { var = v; right = option_map bare_right a.right; at = 0 }) p ∙ ap (λ (r : Option Right). record { var = b.var; right = r; at = 0 }) q)
    (λ e. (ap (λ (d : Declr). d.var) e, ap (λ (d : Declr). d.right) e))
    (Decides-and (a.var == b.var) (option_alike alike_right a.right b.right) (Decides-eqb a.var b.var) (option_decides alike_right bare_right right_decides a.right b.right))

pub simple_decides : (a b : Simple) → Decides (alike_simple a b) (bare_simple a ≡ bare_simple b)
simple_decides a b = Decides-like (alike_simple a b) (λ ((p, q), r). cc)
    (λ e. ((ap (λ (s : Simple). s.place) e, ap (λ (s : Simple). s.op) e), ap (λ (s : Simple). s.right) e))
    (Decides-and (alike_expr a.place b.place && same_op a.op b.op) (alike_right a.right b.right)
    (Decides-and (alike_expr a.place b.place) (same_op a.op b.op) (expr_decides a.place b.place) (op_decides a.op b.op)) (right_decides a.right b.right))

pub start_decides : (a b : Start) → Decides (alike_start a b) (bare_start a ≡ bare_start b)
start_decides (start.Declare a) (start.Declare b) = Decides-like (alike_declr a b) (λ e. cc) (λ e. cc) (declr_decides a b)
start_decides (start.Assign a) (start.Assign b) = Decides-like (alike_simple a b) (λ e. cc) (λ e. cc) (simple_decides a b)
start_decides _ _ = (λ e. cc, λ e. cc)

pub head_decides : (a b : ForHead) → Decides (alike_head a b) (bare_head a ≡ bare_head b)
head_decides a b = Decides-like (alike_head a b) (λ ((p, q), r). cc)
    (λ e. ((ap (λ (h : ForHead). h.start) e, ap (λ (h : ForHead). h.test) e), ap (λ (h : ForHead). h.step) e))
    (Decides-and (pointwise alike_start a.start b.start && option_alike alike_expr a.test b.test) (option_alike alike_simple a.step b.step)
    (Decides-and (pointwise alike_start a.start b.start) (option_alike alike_expr a.test b.test) (pointwise_decides alike_start bare_start start_decides a.start b.start) (option_decides alike_expr bare_expr expr_decides a.test b.test))
    (option_decides alike_simple bare_simple simple_decides a.step b.step))

pub ty_decides : (a b : Ty) → Decides (same_ty a b) (a ≡ b)
ty_decides ty.Int ty.Int = (λ _. refl, λ _. refl)
ty_decides ty.IntPtr ty.IntPtr = (λ _. refl, λ _. refl)
ty_decides (ty.StructPtr s) (ty.StructPtr t) = Decides-like (s == t) (λ e. cc) (λ e. cc) (Decides-eqb s t)
ty_decides _ _ = (λ e. cc, λ e. cc)

pub home_decides : (a b : Home) → Decides (same_home a b) (a ≡ b)
home_decides (home.Global m) (home.Global n) = Decides-like (int_eq m n) (λ e. cc) (λ e. cc) (Decides-int_eq m n)
home_decides (home.Param f) (home.Param g) = Decides-like (f == g) (λ e. cc) (λ e. cc) (Decides-eqb f g)
home_decides (home.Local f) (home.Local g) = Decides-like (f == g) (λ e. cc) (λ e. cc) (Decides-eqb f g)
home_decides (home.Result f) (home.Result g) = Decides-like (f == g) (λ e. cc) (λ e. cc) (Decides-eqb f g)
home_decides _ _ = (λ e. cc, λ e. cc)

pub field_decides : (a b : FieldDef) → Decides (alike_field a b) (a ≡ b)
field_decides a b = Decides-like (alike_field a b)
    (λ (p, q). ap (λ (n : List ℕ). record a { name = n }) p ∙ ap (λ (t : Ty). record b { ty = t }) q)
    (λ e. (ap (λ (f : FieldDef). f.name) e, ap (λ (f : FieldDef). f.ty) e))
    (Decides-and (pointwise nat_eq a.name b.name) (same_ty a.ty b.ty) (bytes_eq-Decides a.name b.name) (ty_decides a.ty b.ty))

pub struct_decides : (a b : StructDef) → Decides (alike_struct a b) (bare_struct a ≡ bare_struct b)
struct_decides a b = Decides-like (alike_struct a b) (λ (p, q). cc)
    (λ e. (ap (λ (s : StructDef). s.fields) e, ap (λ (s : StructDef). s.body) e))
    (Decides-and (pointwise alike_field a.fields b.fields) (option_alike (λ x y. true) a.body b.body) (list_decides alike_field field_decides a.fields b.fields)
    (option_decides (λ x y. true) (λ _. 0) (λ x y. (λ _. refl, λ _. refl)) a.body b.body))

pub var_decides : (a b : VarDef) → Decides (alike_var a b) (bare_var a ≡ bare_var b)
var_decides a b = Decides-like (alike_var a b) (λ ((p, q), r). cc)
    (λ e. ((ap (λ (v : VarDef). v.name) e, ap (λ (v : VarDef). v.ty) e), ap (λ (v : VarDef). v.home) e))
    (Decides-and (pointwise nat_eq a.name b.name && same_ty a.ty b.ty) (same_home a.home b.home)
    (Decides-and (pointwise nat_eq a.name b.name) (same_ty a.ty b.ty) (bytes_eq-Decides a.name b.name) (ty_decides a.ty b.ty)) (home_decides a.home b.home))
