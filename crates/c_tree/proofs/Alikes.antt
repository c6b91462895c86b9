-- Laws of `bare` and of alikeness.
use Rattle.std.proofs.Common.{◌≡◌, ℕ, List, [], ◌∷◌, map, Option, Some, None, option_map, refl, ap, sym, subst, ◌∙◌, false}
use Rattle.c_tree.specs.Fill.{emptied, filled, pointing, free_of, puts_at, regapped_block, regapped_fun, regapped, skeleton, fill}
use Rattle.c_tree.specs.Alike.{bare_layer, bare_expr, bare_size, bare_call, bare_right, bare_declr, bare_simple, bare_start, bare_head, bare_free, bare_gap, bare_item, bare_block, bare_struct, bare_var, bare_fun, bare, IsAlike}
use Rattle.c_tree.proofs.Rebuilds.{Maps, Layers, Rebuilds, Commutes, Joins, in_item, rebuilt, rebuilt_rebuilds, after, after_rebuilds, same_block}
use Rattle.c_tree.proofs.Fills.{gap_layers, gaps_commute, map_joined}
use Rattle.c_tree.proofs.AlikeBlock.{bare_layers}
use Rattle.c_tree.specs.declared.choice.Put.{Put}
use Rattle.c_tree.specs.declared.choice.Choice.{Choice}
use Rattle.c_tree.specs.declared.expr.Expr.{Expr, Expr-F, roll-Expr, map-Expr, fold-roll-Expr, ind-Expr}
use Rattle.c_tree.specs.declared.expr.Expr.TheVariants as expr
use Rattle.c_tree.specs.declared.expr.Expr.TheOpen.{Const, Null, Var, Field, Deref, Index, Unary, Binary}
use Rattle.c_tree.specs.declared.program.Block.{Block}
use Rattle.c_tree.specs.declared.program.Piece.{Piece}
use Rattle.c_tree.specs.declared.program.Item.{Item, Item-F}
use Rattle.c_tree.specs.declared.program.Item.TheOpen.{Declare, Assign, Do, Nest, If, While, For, Break, Continue, Return}
use Rattle.c_tree.specs.declared.program.Arm.{Arm}
use Rattle.c_tree.specs.declared.program.Gap.{Gap}
use Rattle.c_tree.specs.declared.program.Free.{Free}
use Rattle.c_tree.specs.declared.program.Declr.{Declr}
use Rattle.c_tree.specs.declared.program.Simple.{Simple}
use Rattle.c_tree.specs.declared.program.Right.{Right}
use Rattle.c_tree.specs.declared.program.Right.TheVariants as right
use Rattle.c_tree.specs.declared.program.Call.{Call}
use Rattle.c_tree.specs.declared.program.Call.TheVariants as call
use Rattle.c_tree.specs.declared.program.Size.{Size}
use Rattle.c_tree.specs.declared.program.Size.TheVariants as size
use Rattle.c_tree.specs.declared.program.ForHead.{ForHead}
use Rattle.c_tree.specs.declared.program.Start.{Start}
use Rattle.c_tree.specs.declared.program.Start.TheVariants as start
use Rattle.c_tree.specs.declared.program.StructDef.{StructDef}
use Rattle.c_tree.specs.declared.program.VarDef.{VarDef}
use Rattle.c_tree.specs.declared.program.FunDef.{FunDef}
use Rattle.c_tree.specs.declared.program.Program.{Program}

-- bare of what is bare

option_joined : {A B C : Type 0} (f : B → C) (g : A → B) (h : A → C) → ((x : A) → f (g x) ≡ h x) → (x : Option A) → option_map f (option_map g x) ≡ option_map h x
option_joined f g h e None = refl
option_joined {C = C} f g h e (Some x) = ap (λ (y : C). Some y) (e x)

abbrev BareTwice : Expr → Type 0
BareTwice e = bare_expr (bare_expr e) ≡ bare_expr e

abbrev bared : Expr-F Expr → Expr-F Expr
bared l = bare_layer (map-Expr Expr Expr bare_expr l)

layer_twice : (y : Expr-F ((e : Expr) × BareTwice e)) → bared (bared (map-Expr ((e : Expr) × BareTwice e) Expr (λ e. e.0) y)) ≡ bared (map-Expr ((e : Expr) × BareTwice e) Expr (λ e. e.0) y)
layer_twice (Const n at) = refl
layer_twice (Null at) = refl
layer_twice (Var x at) = refl
layer_twice (Field e f at) = ap (λ (z : Expr). Field z f 0) e.1
layer_twice (Deref e at) = ap (λ (z : Expr). Deref z 0) e.1
layer_twice (Index e i at) = ap (λ (z : Expr). Index z (bare_expr (bare_expr i.0)) 0) e.1 ∙ ap (λ (z : Expr). Index (bare_expr e.0) z 0) i.1
layer_twice (Unary s e at) = ap (λ (z : Expr). Unary s z 0) e.1
layer_twice (Binary o a b at) = ap (λ (z : Expr). Binary o z (bare_expr (bare_expr b.0)) 0) a.1 ∙ ap (λ (z : Expr). Binary o (bare_expr a.0) z 0) b.1

bare_rolled : (x : Expr-F Expr) → bare_expr (roll-Expr x) ≡ roll-Expr (bared x)
bare_rolled = fold-roll-Expr Expr (λ l. roll-Expr (bare_layer l))

pub bare_expr_twice : (e : Expr) → bare_expr (bare_expr e) ≡ bare_expr e
bare_expr_twice = ind-Expr BareTwice (λ x y is.
    let layer : bared (bared x) ≡ bared x = subst (λ (z : Expr-F Expr). bared (bared z) ≡ bared z) is (layer_twice y) in
    ap bare_expr (bare_rolled x) ∙ bare_rolled (bared x) ∙ ap (λ (z : Expr-F Expr). roll-Expr z) layer ∙ sym (bare_rolled x))

size_twice : (s : Size) → bare_size (bare_size s) ≡ bare_size s
size_twice (size.Fields s) = refl
size_twice (size.Ints count) = ap (λ (c : Option Expr). size.Ints c) (option_joined bare_expr bare_expr bare_expr bare_expr_twice count)

call_twice : (c : Call) → bare_call (bare_call c) ≡ bare_call c
call_twice (call.User m f xs at) = ap (λ (zs : List Expr). call.User m f zs 0) (map_joined bare_expr bare_expr bare_expr bare_expr_twice xs)
call_twice (call.Malloc s at) = ap (λ (z : Size). call.Malloc z 0) (size_twice s)
call_twice (call.Getchar at) = refl
call_twice (call.Putchar e at) = ap (λ (z : Expr). call.Putchar z 0) (bare_expr_twice e)
call_twice (call.Printf t xs at) = ap (λ (zs : List Expr). call.Printf t zs 0) (map_joined bare_expr bare_expr bare_expr bare_expr_twice xs)

right_twice : (r : Right) → bare_right (bare_right r) ≡ bare_right r
right_twice (right.Plain e) = ap (λ (z : Expr). right.Plain z) (bare_expr_twice e)
right_twice (right.Call c) = ap (λ (z : Call). right.Call z) (call_twice c)

declr_twice : (d : Declr) → bare_declr (bare_declr d) ≡ bare_declr d
declr_twice d = ap (λ (r : Option Right). record { var = d.var; right = r; at = 0 }) (option_joined bare_right bare_right bare_right right_twice d.right)

simple_twice : (s : Simple) → bare_simple (bare_simple s) ≡ bare_simple s
simple_twice s = ap (λ (e : Expr). record { place = e; op = s.op; right = bare_right (bare_right s.right); at = 0 }) (bare_expr_twice s.place)
    ∙ ap (λ (r : Right). record { place = bare_expr s.place; op = s.op; right = r; at = 0 }) (right_twice s.right)

start_twice : (s : Start) → bare_start (bare_start s) ≡ bare_start s
start_twice (start.Declare d) = ap (λ (z : Declr). start.Declare z) (declr_twice d)
start_twice (start.Assign s) = ap (λ (z : Simple). start.Assign z) (simple_twice s)

head_twice : (h : ForHead) → bare_head (bare_head h) ≡ bare_head h
head_twice h = ap (λ (x : List Start). record { start = x; test = option_map bare_expr (option_map bare_expr h.test); step = option_map bare_simple (option_map bare_simple h.step) }) (map_joined bare_start bare_start bare_start start_twice h.start)
    ∙ ap (λ (x : Option Expr). record { start = map bare_start h.start; test = x; step = option_map bare_simple (option_map bare_simple h.step) }) (option_joined bare_expr bare_expr bare_expr bare_expr_twice h.test)
    ∙ ap (λ (x : Option Simple). record { start = map bare_start h.start; test = option_map bare_expr h.test; step = x }) (option_joined bare_simple bare_simple bare_simple simple_twice h.step)

free_twice : (f : Free) → bare_free (bare_free f) ≡ bare_free f
free_twice f = ap (λ (e : Expr). record { expr = e; start = 0; end = 0 }) (bare_expr_twice f.expr)

gap_twice : (g : Gap) → bare_gap (bare_gap g) ≡ bare_gap g
gap_twice g = ap (λ (fs : List Free). record { number = g.number; frees = fs }) (map_joined bare_free bare_free bare_free free_twice g.frees)

item_twice : (x : Item-F Item Arm Block Piece) → bare_item (bare_item x) ≡ bare_item x
item_twice (Declare ds) = ap (λ (xs : List Declr). Declare xs) (map_joined bare_declr bare_declr bare_declr declr_twice ds)
item_twice (Assign s) = ap (λ (x : Simple). Assign x) (simple_twice s)
item_twice (Do c) = ap (λ (x : Call). Do x) (call_twice c)
item_twice (Nest b) = refl
item_twice (If arms otherwise) = refl
item_twice (While test body) = ap (λ (e : Expr). While e body) (bare_expr_twice test)
item_twice (For head body) = ap (λ (h : ForHead). For h body) (head_twice head)
item_twice Break = refl
item_twice Continue = refl
item_twice (Return value at) = ap (λ (r : Option Right). Return r 0) (option_joined bare_right bare_right bare_right right_twice value)

bare_commutes_item : (g : Maps) (x : Item-F Item Arm Block Piece) → in_item g (bare_item x) ≡ bare_item (in_item g x)
bare_commutes_item g (Declare ds) = refl
bare_commutes_item g (Assign s) = refl
bare_commutes_item g (Do c) = refl
bare_commutes_item g (Nest b) = refl
bare_commutes_item g (If arms otherwise) = refl
bare_commutes_item g (While test body) = refl
bare_commutes_item g (For head body) = refl
bare_commutes_item g Break = refl
bare_commutes_item g Continue = refl
bare_commutes_item g (Return value at) = refl

pub bare_commutes : (g : Maps) → Commutes g bare_layers
bare_commutes g = record { item = bare_commutes_item g; arm = λ x. refl; block = λ x. refl; piece = λ x. refl }

bare_joins : Joins bare_layers bare_layers bare_layers
bare_joins = record {
  item = item_twice;
  arm = λ x. ap (λ (e : Expr). record { test = e; body = x.body }) (bare_expr_twice x.test);
  block = λ x. ap (λ (g : Gap). record { items = x.items; last_gap = g; braced = false; start = 0; end = 0 }) (gap_twice x.last_gap);
  piece = λ x. ap (λ (g : Gap). record { gap = g; item = x.item; start = 0; end = 0 }) (gap_twice x.gap);
}

pub bare_block_twice : (b : Block) → bare_block (bare_block b) ≡ bare_block b
bare_block_twice = same_block (after (rebuilt bare_layers) (rebuilt bare_layers)) (rebuilt bare_layers) bare_layers
    (after_rebuilds (rebuilt bare_layers) (rebuilt bare_layers) bare_layers bare_layers bare_layers (rebuilt_rebuilds bare_layers) (rebuilt_rebuilds bare_layers) (bare_commutes (rebuilt bare_layers)) bare_joins)
    (rebuilt_rebuilds bare_layers)

struct_twice : (s : StructDef) → bare_struct (bare_struct s) ≡ bare_struct s
struct_twice s = ap (λ (b : Option ℕ). record { fields = s.fields; body = b }) (option_joined (λ _. 0) (λ _. 0) (λ _. 0) (λ _. refl) s.body)

pub bare_bare : (p : Program) → bare (bare p) ≡ bare p
bare_bare p =
    let funs = λ (d : FunDef). ap (λ (b : Block). record { name = d.name; result = d.result; params = d.params; body = b; at = 0 }) (bare_block_twice d.body) in
    ap (λ (x : List StructDef). record { structs = x; vars = map bare_var (map bare_var p.vars); funs = map bare_fun (map bare_fun p.funs); main = p.main; gaps = p.gaps; calls = p.calls }) (map_joined bare_struct bare_struct bare_struct struct_twice p.structs)
    ∙ ap (λ (x : List VarDef). record { structs = map bare_struct p.structs; vars = x; funs = map bare_fun (map bare_fun p.funs); main = p.main; gaps = p.gaps; calls = p.calls }) (map_joined bare_var bare_var bare_var (λ v. refl) p.vars)
    ∙ ap (λ (x : List FunDef). record { structs = map bare_struct p.structs; vars = map bare_var p.vars; funs = x; main = p.main; gaps = p.gaps; calls = p.calls }) (map_joined bare_fun bare_fun bare_fun funs p.funs)

-- bare and a change of the gaps, in either order

abbrev both_layers : (Gap → Gap) → Layers
both_layers f = record {
  item = bare_item;
  arm = λ a. record a { test = bare_expr a.test };
  block = λ b. record b { last_gap = bare_gap (f b.last_gap); braced = false; start = 0; end = 0 };
  piece = λ p. record p { gap = bare_gap (f p.gap); start = 0; end = 0 };
}

bare_after : (f : Gap → Gap) → Rebuilds (after (rebuilt bare_layers) (rebuilt (gap_layers f))) (both_layers f)
bare_after f = after_rebuilds (rebuilt bare_layers) (rebuilt (gap_layers f)) bare_layers (gap_layers f) (both_layers f) (rebuilt_rebuilds bare_layers) (rebuilt_rebuilds (gap_layers f))
    (gaps_commute (rebuilt bare_layers) f) (record { item = λ x. refl; arm = λ x. refl; block = λ x. refl; piece = λ x. refl })

bare_before : (f : Gap → Gap) → ((g : Gap) → f (bare_gap g) ≡ bare_gap (f g)) → Rebuilds (after (rebuilt (gap_layers f)) (rebuilt bare_layers)) (both_layers f)
bare_before f h = after_rebuilds (rebuilt (gap_layers f)) (rebuilt bare_layers) (gap_layers f) bare_layers (both_layers f) (rebuilt_rebuilds (gap_layers f)) (rebuilt_rebuilds bare_layers)
    (bare_commutes (rebuilt (gap_layers f)))
    (record {
      item = λ x. refl;
      arm = λ x. refl;
      block = λ x. ap (λ (g : Gap). record { items = x.items; last_gap = g; braced = false; start = 0; end = 0 }) (h x.last_gap);
      piece = λ x. ap (λ (g : Gap). record { gap = g; item = x.item; start = 0; end = 0 }) (h x.gap);
    })

bare_block_regapped : (f : Gap → Gap) → ((g : Gap) → f (bare_gap g) ≡ bare_gap (f g)) → (b : Block) → bare_block (regapped_block f b) ≡ regapped_block f (bare_block b)
bare_block_regapped f h = same_block (after (rebuilt bare_layers) (rebuilt (gap_layers f))) (after (rebuilt (gap_layers f)) (rebuilt bare_layers)) (both_layers f) (bare_after f) (bare_before f h)

funs_regapped : (f : Gap → Gap) → ((g : Gap) → f (bare_gap g) ≡ bare_gap (f g)) → (ds : List FunDef) → map bare_fun (map (regapped_fun f) ds) ≡ map (regapped_fun f) (map bare_fun ds)
funs_regapped f h [] = refl
funs_regapped f h (d ∷ ds) =
    ap (λ (b : Block). record { name = d.name; result = d.result; params = d.params; body = b; at = 0 } ∷ map bare_fun (map (regapped_fun f) ds)) (bare_block_regapped f h d.body)
    ∙ ap (λ (xs : List FunDef). regapped_fun f (bare_fun d) ∷ xs) (funs_regapped f h ds)

bare_regapped : (f : Gap → Gap) → ((g : Gap) → f (bare_gap g) ≡ bare_gap (f g)) → (p : Program) → bare (regapped f p) ≡ regapped f (bare p)
bare_regapped f h p = ap (λ (x : List FunDef). record { structs = map bare_struct p.structs; vars = map bare_var p.vars; funs = x; main = p.main; gaps = p.gaps; calls = p.calls }) (funs_regapped f h p.funs)

pub bare_variable : (x at : ℕ) → bare_expr (expr.Var x at) ≡ expr.Var x 0
bare_variable x at = ap bare_expr (sym (expr.rolls-Var x at)) ∙ bare_rolled (Var x at) ∙ expr.rolls-Var x 0

bare_pointing : (x : ℕ) (f : Option ℕ) → bare_expr (pointing x f) ≡ pointing x f
bare_pointing x None = bare_variable x 0
bare_pointing x (Some f) = ap bare_expr (sym (expr.rolls-Field (expr.Var x 0) f 0)) ∙ bare_rolled (Field (expr.Var x 0) f 0)
    ∙ ap (λ (z : Expr). roll-Expr (Field z f 0)) (bare_variable x 0) ∙ expr.rolls-Field (expr.Var x 0) f 0

bare_free_of : (q : Put) → bare_free (free_of q) ≡ free_of q
bare_free_of q = ap (λ (e : Expr). record { expr = e; start = 0; end = 0 }) (bare_pointing q.var q.field)

bare_filled : (puts : List Put) (g : Gap) → filled puts (bare_gap g) ≡ bare_gap (filled puts g)
bare_filled puts g = ap (λ (fs : List Free). record { number = g.number; frees = fs }) (sym (map_joined bare_free free_of free_of bare_free_of (puts_at puts g.number)))

pub bare_fill : (p : Program) (s : Choice) → bare (fill p s) ≡ fill (bare p) s
bare_fill p s = bare_regapped (filled s.puts) (bare_filled s.puts) p

pub bare_skeleton : (p : Program) → bare (skeleton p) ≡ skeleton (bare p)
bare_skeleton = bare_regapped emptied (λ g. refl)

-- alike is an equivalence, which fill and skeleton keep

pub alike_refl : (p : Program) → IsAlike p p
alike_refl p = refl

pub alike_sym : (p q : Program) → IsAlike p q → IsAlike q p
alike_sym p q h = sym h

pub alike_trans : (p q r : Program) → IsAlike p q → IsAlike q r → IsAlike p r
alike_trans p q r h k = h ∙ k

pub alike_bare : (p : Program) → IsAlike (bare p) p
alike_bare = bare_bare

pub alike_skeletons : (p q : Program) → IsAlike p q → IsAlike (skeleton p) (skeleton q)
alike_skeletons p q h = bare_skeleton p ∙ ap skeleton h ∙ sym (bare_skeleton q)

pub alike_fills : (p q : Program) (s : Choice) → IsAlike p q → IsAlike (fill p s) (fill q s)
alike_fills p q s h = bare_fill p s ∙ ap (λ (r : Program). fill r s) h ∙ sym (bare_fill q s)
