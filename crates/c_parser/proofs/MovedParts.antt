-- Offsets don't show in what is printed of expressions, statements and declarations; offsets that stay change nothing.
use Rattle.std.proofs.Common.{◌≡◌, ℕ, ◌+◌, Bool, nat_lt, List, [], ◌∷◌, ◌++◌, map, codes, Option, Some, None, option_map, refl, ap, sym, subst, ◌∙◌}
use Rattle.c_lexer.specs.declared.token.Kind.{Kind}
use Rattle.c_lexer.specs.declared.token.Kind.TheVariants as kind
use Rattle.c_tree.specs.declared.tree.Arg.{Arg}
use Rattle.c_tree.specs.declared.tree.Base.{Base}
use Rattle.c_tree.specs.declared.tree.Base.TheVariants as base
use Rattle.c_tree.specs.declared.tree.Call.{Call}
use Rattle.c_tree.specs.declared.tree.Call.TheVariants as call
use Rattle.c_tree.specs.declared.tree.Declr.{Declr}
use Rattle.c_tree.specs.declared.tree.Expr.{Expr, Expr-F, roll-Expr, out-Expr, out-roll-Expr, roll-out-Expr, map-Expr, fold-roll-Expr, ind-Expr}
use Rattle.c_tree.specs.declared.tree.Expr.TheOpen.{Const, Null, Var, Field, Deref, Index, Unary, Binary}
use Rattle.c_tree.specs.declared.tree.ForHead.{ForHead}
use Rattle.c_tree.specs.declared.tree.Free.{Free}
use Rattle.c_tree.specs.declared.tree.Gap.{Gap}
use Rattle.c_tree.specs.declared.tree.Right.{Right}
use Rattle.c_tree.specs.declared.tree.Right.TheVariants as right
use Rattle.c_tree.specs.declared.tree.Simple.{Simple}
use Rattle.c_tree.specs.declared.tree.Size.{Size}
use Rattle.c_tree.specs.declared.tree.Spec.{Spec}
use Rattle.c_tree.specs.declared.tree.Start.{Start}
use Rattle.c_tree.specs.declared.tree.Start.TheVariants as start
use Rattle.c_tree.specs.declared.tree.Unit.{Unit as Counted}
use Rattle.c_tree.specs.declared.tree.Unit.TheVariants as unit
use Rattle.c_tree.specs.declared.tree.Word.{Word}
use Rattle.c_parser.specs.Alike.{moved_word, moved_base, moved_spec, moved_layer, moved_expr, moved_arg, moved_unit, moved_size, moved_call, moved_right, moved_declr, moved_simple, moved_start, moved_for_head, moved_free, moved_gap}
use Rattle.c_parser.specs.Printed.{key, mark, each, maybe, within, ended, grouped, level_of, oper_kind, sign_kind, printed_layer, printed_expr, printed_arg, printed_base, printed_word, printed_stars, printed_starred, printed_spec, printed_unit, printed_count, printed_size, behind_comma, printed_args, printed_cast, printed_call, printed_right, op_kind, is_one, by_one, step_kind, place_room, printed_by, printed_simple, printed_given, printed_declr, next_declr, printed_decl, next_start, printed_starts, printed_free, printed_gap, printed_for_head}
use Rattle.c_parser.proofs.PrintedExpressions.{print_layer}

-- lists and options

pub each_moved : {A : Type 0} (p : A → List Kind) (f : A → A) → ((x : A) → p (f x) ≡ p x) → (xs : List A) → each p (map f xs) ≡ each p xs
each_moved p f is [] = refl
each_moved p f is (x ∷ xs) = ap (λ (ks : List Kind). ks ++ each p (map f xs)) (is x) ∙ ap (λ (ks : List Kind). p x ++ ks) (each_moved p f is xs)

pub maybe_moved : {A : Type 0} (p : A → List Kind) (f : A → A) → ((x : A) → p (f x) ≡ p x) → (x : Option A) → maybe p (option_map f x) ≡ maybe p x
maybe_moved p f is None = refl
maybe_moved p f is (Some x) = is x

pub all_stay : {A : Type 0} (f : A → A) → ((x : A) → f x ≡ x) → (xs : List A) → map f xs ≡ xs
all_stay f is [] = refl
all_stay {A} f is (x ∷ xs) = ap (λ (y : A). y ∷ map f xs) (is x) ∙ ap (λ (ys : List A). x ∷ ys) (all_stay f is xs)

pub option_stays : {A : Type 0} (f : A → A) → ((x : A) → f x ≡ x) → (x : Option A) → option_map f x ≡ x
option_stays f is None = refl
option_stays {A} f is (Some x) = ap (λ (y : A). Some y) (is x)

-- where every offset stays

abbrev pub same_at : ℕ → ℕ
same_at at = at

pub word_stays : (w : Word) → moved_word same_at w ≡ w
word_stays w = refl

pub base_stays : (b : Base) → moved_base same_at b ≡ b
base_stays base.Void = refl
base_stays base.Int = refl
base_stays (base.Tag w) = refl
base_stays (base.Alias w) = refl

pub spec_stays : (s : Spec) → moved_spec same_at s ≡ s
spec_stays s =
    ap (λ (b : Base). record { base = b; stars = s.stars; name = option_map (moved_word same_at) s.name; at = s.at }) (base_stays s.base)
    ∙ ap (λ (n : Option Word). record { base = s.base; stars = s.stars; name = n; at = s.at }) (option_stays (moved_word same_at) word_stays s.name)

abbrev Stays : Expr → Type 0
Stays e = moved_expr same_at e ≡ e

abbrev plain_stays : Expr-F ((e : Expr) × Stays e) → Expr-F Expr
plain_stays = map-Expr ((e : Expr) × Stays e) Expr (λ e. e.0)

layer_stays : (y : Expr-F ((e : Expr) × Stays e)) → moved_layer same_at (map-Expr Expr Expr (moved_expr same_at) (plain_stays y)) ≡ plain_stays y
layer_stays (Const n at) = refl
layer_stays (Null at) = refl
layer_stays (Var w) = refl
layer_stays (Field e w at) = ap (λ (x : Expr). Field x w at) e.1
layer_stays (Deref e at) = ap (λ (x : Expr). Deref x at) e.1
layer_stays (Index e i at) = ap (λ (x : Expr). Index x (moved_expr same_at i.0) at) e.1 ∙ ap (λ (x : Expr). Index e.0 x at) i.1
layer_stays (Unary s e at) = ap (λ (x : Expr). Unary s x at) e.1
layer_stays (Binary o a b at) = ap (λ (x : Expr). Binary o x (moved_expr same_at b.0) at) a.1 ∙ ap (λ (x : Expr). Binary o a.0 x at) b.1

moved_rolled : (f : ℕ → ℕ) (x : Expr-F Expr) → moved_expr f (roll-Expr x) ≡ roll-Expr (moved_layer f (map-Expr Expr Expr (moved_expr f) x))
moved_rolled f = fold-roll-Expr Expr (λ l. roll-Expr (moved_layer f l))

pub expr_stays : (e : Expr) → moved_expr same_at e ≡ e
expr_stays = ind-Expr Stays (λ x y is. subst (λ (z : Expr-F Expr). Stays (roll-Expr z)) is (moved_rolled same_at (plain_stays y) ∙ ap (λ (z : Expr-F Expr). roll-Expr z) (layer_stays y)))

pub arg_stays : (a : Arg) → moved_arg same_at a ≡ a
arg_stays a = ap (λ (e : Expr). record { expr = e; at = a.at }) (expr_stays a.expr)

pub unit_stays : (u : Counted) → moved_unit same_at u ≡ u
unit_stays (unit.Of s) = ap (λ (x : Spec). unit.Of x) (spec_stays s)
unit_stays (unit.Star w) = refl

pub size_stays : (s : Size) → moved_size same_at s ≡ s
size_stays s =
    ap (λ (u : Counted). record { unit = u; count = option_map (moved_expr same_at) s.count; at = s.at }) (unit_stays s.unit)
    ∙ ap (λ (c : Option Expr). record { unit = s.unit; count = c; at = s.at }) (option_stays (moved_expr same_at) expr_stays s.count)

pub call_stays : (c : Call) → moved_call same_at c ≡ c
call_stays (call.User w args at) = ap (λ (xs : List Arg). call.User w xs at) (all_stay (moved_arg same_at) arg_stays args)
call_stays (call.Malloc cast size at) =
    ap (λ (x : Option Spec). call.Malloc x (moved_size same_at size) at) (option_stays (moved_spec same_at) spec_stays cast) ∙ ap (λ (x : Size). call.Malloc cast x at) (size_stays size)
call_stays (call.Getchar at) = refl
call_stays (call.Putchar a at) = ap (λ (x : Arg). call.Putchar x at) (arg_stays a)
call_stays (call.Printf text text_at args at end) = ap (λ (xs : List Arg). call.Printf text text_at xs at end) (all_stay (moved_arg same_at) arg_stays args)

pub right_stays : (r : Right) → moved_right same_at r ≡ r
right_stays (right.Plain a) = ap (λ (x : Arg). right.Plain x) (arg_stays a)
right_stays (right.Call c) = ap (λ (x : Call). right.Call x) (call_stays c)

pub declr_stays : (d : Declr) → moved_declr same_at d ≡ d
declr_stays d =
    ap (λ (s : Spec). record { spec = s; right = option_map (moved_right same_at) d.right; at = d.at }) (spec_stays d.spec)
    ∙ ap (λ (r : Option Right). record { spec = d.spec; right = r; at = d.at }) (option_stays (moved_right same_at) right_stays d.right)

pub simple_stays : (s : Simple) → moved_simple same_at s ≡ s
simple_stays s =
    ap (λ (a : Arg). record { place = a; op = s.op; right = moved_right same_at s.right; at = s.at }) (arg_stays s.place)
    ∙ ap (λ (r : Right). record { place = s.place; op = s.op; right = r; at = s.at }) (right_stays s.right)

pub start_stays : (s : Start) → moved_start same_at s ≡ s
start_stays (start.Declare d) = ap (λ (x : Declr). start.Declare x) (declr_stays d)
start_stays (start.Assign s) = ap (λ (x : Simple). start.Assign x) (simple_stays s)

pub for_head_stays : (h : ForHead) → moved_for_head same_at h ≡ h
for_head_stays h =
    ap (λ (xs : List Start). record { start = xs; test = option_map (moved_expr same_at) h.test; step = option_map (moved_simple same_at) h.step }) (all_stay (moved_start same_at) start_stays h.start)
    ∙ ap (λ (x : Option Expr). record { start = h.start; test = x; step = option_map (moved_simple same_at) h.step }) (option_stays (moved_expr same_at) expr_stays h.test)
    ∙ ap (λ (x : Option Simple). record { start = h.start; test = h.test; step = x }) (option_stays (moved_simple same_at) simple_stays h.step)

pub free_stays : (x : Free) → moved_free same_at x ≡ x
free_stays x = ap (λ (a : Arg). record { expr = a; start = x.start; end = x.end }) (arg_stays x.expr)

-- what is printed of a part with other offsets

abbrev Prints : (ℕ → ℕ) → Expr → Type 0
Prints f e = (room : ℕ) → printed_expr room (moved_expr f e) ≡ printed_expr room e

abbrev plain_prints : (f : ℕ → ℕ) → Expr-F ((e : Expr) × Prints f e) → Expr-F Expr
plain_prints f = map-Expr ((e : Expr) × Prints f e) Expr (λ e. e.0)

abbrev printed_parts : Expr-F Expr → Expr-F (ℕ → List Kind)
printed_parts = map-Expr Expr (ℕ → List Kind) (λ e r. printed_expr r e)

layer_prints : (f : ℕ → ℕ) (room : ℕ) (y : Expr-F ((e : Expr) × Prints f e))
    → printed_layer (printed_parts (moved_layer f (map-Expr Expr Expr (moved_expr f) (plain_prints f y)))) room ≡ printed_layer (printed_parts (plain_prints f y)) room
layer_prints f room (Const n at) = refl
layer_prints f room (Null at) = refl
layer_prints f room (Var w) = refl
layer_prints f room (Field e w at) = ap (λ (ks : List Kind). ks ++ mark (codes "->") ∷ kind.Name w.text ∷ []) (e.1 0)
layer_prints f room (Deref e at) = ap (λ (ks : List Kind). grouped (nat_lt room 1) (mark (codes "*") ∷ ks)) (e.1 1)
layer_prints f room (Index e i at) =
    ap (λ (ks : List Kind). ks ++ mark (codes "[") ∷ (printed_expr 7 (moved_expr f i.0) ++ mark (codes "]") ∷ [])) (e.1 0)
    ∙ ap (λ (ks : List Kind). printed_expr 0 e.0 ++ mark (codes "[") ∷ (ks ++ mark (codes "]") ∷ [])) (i.1 7)
layer_prints f room (Unary s e at) = ap (λ (ks : List Kind). grouped (nat_lt room 1) (sign_kind s ∷ ks)) (e.1 1)
layer_prints f room (Binary o a b at) =
    ap (λ (ks : List Kind). grouped (nat_lt room (level_of o + 2)) (ks ++ oper_kind o ∷ printed_expr (level_of o + 1) (moved_expr f b.0))) (a.1 (level_of o + 2))
    ∙ ap (λ (ks : List Kind). grouped (nat_lt room (level_of o + 2)) (printed_expr (level_of o + 2) a.0 ++ oper_kind o ∷ ks)) (b.1 (level_of o + 1))

rolled_prints : (f : ℕ → ℕ) (y : Expr-F ((e : Expr) × Prints f e)) → Prints f (roll-Expr (plain_prints f y))
rolled_prints f y room =
    ap (printed_expr room) (moved_rolled f (plain_prints f y)) ∙ print_layer room (moved_layer f (map-Expr Expr Expr (moved_expr f) (plain_prints f y)))
    ∙ layer_prints f room y ∙ sym (print_layer room (plain_prints f y))

pub expr_prints : (f : ℕ → ℕ) (e : Expr) (room : ℕ) → printed_expr room (moved_expr f e) ≡ printed_expr room e
expr_prints f = ind-Expr (Prints f) (λ x y is. subst (λ (z : Expr-F Expr). Prints f (roll-Expr z)) is (rolled_prints f y))

pub arg_prints : (f : ℕ → ℕ) (a : Arg) → printed_arg (moved_arg f a) ≡ printed_arg a
arg_prints f a = expr_prints f a.expr 7

pub base_prints : (f : ℕ → ℕ) (b : Base) → printed_base (moved_base f b) ≡ printed_base b
base_prints f base.Void = refl
base_prints f base.Int = refl
base_prints f (base.Tag w) = refl
base_prints f (base.Alias w) = refl

pub word_prints : (f : ℕ → ℕ) (w : Word) → printed_word (moved_word f w) ≡ printed_word w
word_prints f w = refl

pub starred_prints : (f : ℕ → ℕ) (s : Spec) → printed_starred (moved_spec f s) ≡ printed_starred s
starred_prints f s = ap (λ (ks : List Kind). printed_stars s.stars ++ ks) (maybe_moved printed_word (moved_word f) (word_prints f) s.name)

pub spec_prints : (f : ℕ → ℕ) (s : Spec) → printed_spec (moved_spec f s) ≡ printed_spec s
spec_prints f s = ap (λ (ks : List Kind). ks ++ printed_starred (moved_spec f s)) (base_prints f s.base) ∙ ap (λ (ks : List Kind). printed_base s.base ++ ks) (starred_prints f s)

unit_prints : (f : ℕ → ℕ) (u : Counted) → printed_unit (moved_unit f u) ≡ printed_unit u
unit_prints f (unit.Of s) = ap (λ (ks : List Kind). key (codes "sizeof") ∷ within ks) (spec_prints f s)
unit_prints f (unit.Star w) = refl

count_prints : (f : ℕ → ℕ) (e : Expr) → printed_count (moved_expr f e) ≡ printed_count e
count_prints f e = ap (λ (ks : List Kind). ks ++ mark (codes "*") ∷ []) (expr_prints f e 2)

size_prints : (f : ℕ → ℕ) (s : Size) → printed_size (moved_size f s) ≡ printed_size s
size_prints f s =
    ap (λ (ks : List Kind). ks ++ printed_unit (moved_unit f s.unit)) (maybe_moved printed_count (moved_expr f) (count_prints f) s.count)
    ∙ ap (λ (ks : List Kind). maybe printed_count s.count ++ ks) (unit_prints f s.unit)

behind_prints : (f : ℕ → ℕ) (a : Arg) → behind_comma (moved_arg f a) ≡ behind_comma a
behind_prints f a = ap (λ (ks : List Kind). mark (codes ",") ∷ ks) (arg_prints f a)

args_prints : (f : ℕ → ℕ) (args : List Arg) → printed_args (map (moved_arg f) args) ≡ printed_args args
args_prints f [] = refl
args_prints f (a ∷ args) =
    ap (λ (ks : List Kind). ks ++ each behind_comma (map (moved_arg f) args)) (arg_prints f a)
    ∙ ap (λ (ks : List Kind). printed_arg a ++ ks) (each_moved behind_comma (moved_arg f) (behind_prints f) args)

cast_prints : (f : ℕ → ℕ) (s : Spec) → printed_cast (moved_spec f s) ≡ printed_cast s
cast_prints f s = ap within (spec_prints f s)

pub call_prints : (f : ℕ → ℕ) (c : Call) → printed_call (moved_call f c) ≡ printed_call c
call_prints f (call.User w args at) = ap (λ (ks : List Kind). kind.Name w.text ∷ within ks) (args_prints f args)
call_prints f (call.Malloc cast size at) =
    ap (λ (ks : List Kind). ks ++ key (codes "malloc") ∷ within (printed_size (moved_size f size))) (maybe_moved printed_cast (moved_spec f) (cast_prints f) cast)
    ∙ ap (λ (ks : List Kind). maybe printed_cast cast ++ key (codes "malloc") ∷ within ks) (size_prints f size)
call_prints f (call.Getchar at) = refl
call_prints f (call.Putchar a at) = ap (λ (ks : List Kind). key (codes "putchar") ∷ within ks) (arg_prints f a)
call_prints f (call.Printf text text_at args at end) = ap (λ (ks : List Kind). key (codes "printf") ∷ within (kind.Text text ∷ ks)) (each_moved behind_comma (moved_arg f) (behind_prints f) args)

pub right_prints : (f : ℕ → ℕ) (r : Right) → printed_right (moved_right f r) ≡ printed_right r
right_prints f (right.Plain a) = arg_prints f a
right_prints f (right.Call c) = call_prints f c

-- the layer of an expression with other offsets is of the same shape

pub moved_out : (f : ℕ → ℕ) (e : Expr) → out-Expr (moved_expr f e) ≡ moved_layer f (map-Expr Expr Expr (moved_expr f) (out-Expr e))
moved_out f e = ap (λ (x : Expr). out-Expr (moved_expr f x)) (sym (roll-out-Expr e)) ∙ ap out-Expr (moved_rolled f (out-Expr e)) ∙ out-roll-Expr (moved_layer f (map-Expr Expr Expr (moved_expr f) (out-Expr e)))

layer_one : (f : ℕ → ℕ) (l : Expr-F Expr) → is_one (moved_layer f (map-Expr Expr Expr (moved_expr f) l)) ≡ is_one l
layer_one f (Const n at) = refl
layer_one f (Null at) = refl
layer_one f (Var w) = refl
layer_one f (Field e w at) = refl
layer_one f (Deref e at) = refl
layer_one f (Index e i at) = refl
layer_one f (Unary s e at) = refl
layer_one f (Binary o a b at) = refl

layer_room : (f : ℕ → ℕ) (l : Expr-F Expr) → place_room (moved_layer f (map-Expr Expr Expr (moved_expr f) l)) ≡ place_room l
layer_room f (Const n at) = refl
layer_room f (Null at) = refl
layer_room f (Var w) = refl
layer_room f (Field e w at) = refl
layer_room f (Deref e at) = refl
layer_room f (Index e i at) = refl
layer_room f (Unary s e at) = refl
layer_room f (Binary o a b at) = refl

by_one_moved : (f : ℕ → ℕ) (r : Right) → by_one (moved_right f r) ≡ by_one r
by_one_moved f (right.Plain a) = ap is_one (moved_out f a.expr) ∙ layer_one f (out-Expr a.expr)
by_one_moved f (right.Call c) = refl

room_moved : (f : ℕ → ℕ) (e : Expr) → place_room (out-Expr (moved_expr f e)) ≡ place_room (out-Expr e)
room_moved f e = ap place_room (moved_out f e) ∙ layer_room f (out-Expr e)

by_prints : (f : ℕ → ℕ) (s : Simple) (step : Option Kind) → printed_by (moved_simple f s) step ≡ printed_by s step
by_prints f s (Some k) = ap (λ (ks : List Kind). k ∷ ks) (expr_prints f s.place.expr 1)
by_prints f s None =
    ap (λ (room : ℕ). printed_expr room (moved_expr f s.place.expr) ++ op_kind s.op ∷ printed_right (moved_right f s.right)) (room_moved f s.place.expr)
    ∙ ap (λ (ks : List Kind). ks ++ op_kind s.op ∷ printed_right (moved_right f s.right)) (expr_prints f s.place.expr (place_room (out-Expr s.place.expr)))
    ∙ ap (λ (ks : List Kind). printed_expr (place_room (out-Expr s.place.expr)) s.place.expr ++ op_kind s.op ∷ ks) (right_prints f s.right)

pub simple_prints : (f : ℕ → ℕ) (s : Simple) → printed_simple (moved_simple f s) ≡ printed_simple s
simple_prints f s = ap (λ (b : Bool). printed_by (moved_simple f s) (step_kind s.op b)) (by_one_moved f s.right) ∙ by_prints f s (step_kind s.op (by_one s.right))

given_prints : (f : ℕ → ℕ) (r : Right) → printed_given (moved_right f r) ≡ printed_given r
given_prints f r = ap (λ (ks : List Kind). mark (codes "=") ∷ ks) (right_prints f r)

declr_prints : (f : ℕ → ℕ) (d : Declr) → printed_declr (moved_declr f d) ≡ printed_declr d
declr_prints f d =
    ap (λ (ks : List Kind). ks ++ maybe printed_given (option_map (moved_right f) d.right)) (starred_prints f d.spec)
    ∙ ap (λ (ks : List Kind). printed_starred d.spec ++ ks) (maybe_moved printed_given (moved_right f) (given_prints f) d.right)

next_prints : (f : ℕ → ℕ) (d : Declr) → next_declr (moved_declr f d) ≡ next_declr d
next_prints f d = ap (λ (ks : List Kind). mark (codes ",") ∷ ks) (declr_prints f d)

pub decl_prints : (f : ℕ → ℕ) (ds : List Declr) → printed_decl (map (moved_declr f) ds) ≡ printed_decl ds
decl_prints f [] = refl
decl_prints f (d ∷ ds) =
    ap (λ (ks : List Kind). ks ++ (printed_declr (moved_declr f d) ++ each next_declr (map (moved_declr f) ds))) (base_prints f d.spec.base)
    ∙ ap (λ (ks : List Kind). printed_base d.spec.base ++ (ks ++ each next_declr (map (moved_declr f) ds))) (declr_prints f d)
    ∙ ap (λ (ks : List Kind). printed_base d.spec.base ++ (printed_declr d ++ ks)) (each_moved next_declr (moved_declr f) (next_prints f) ds)

next_start_prints : (f : ℕ → ℕ) (s : Start) → next_start (moved_start f s) ≡ next_start s
next_start_prints f (start.Declare d) = next_prints f d
next_start_prints f (start.Assign s) = simple_prints f s

starts_prints : (f : ℕ → ℕ) (xs : List Start) → printed_starts (map (moved_start f) xs) ≡ printed_starts xs
starts_prints f [] = refl
starts_prints f (start.Declare d ∷ others) =
    ap (λ (ks : List Kind). ks ++ (printed_declr (moved_declr f d) ++ each next_start (map (moved_start f) others))) (base_prints f d.spec.base)
    ∙ ap (λ (ks : List Kind). printed_base d.spec.base ++ (ks ++ each next_start (map (moved_start f) others))) (declr_prints f d)
    ∙ ap (λ (ks : List Kind). printed_base d.spec.base ++ (printed_declr d ++ ks)) (each_moved next_start (moved_start f) (next_start_prints f) others)
starts_prints f (start.Assign s ∷ others) =
    ap (λ (ks : List Kind). ks ++ each next_start (map (moved_start f) others)) (simple_prints f s)
    ∙ ap (λ (ks : List Kind). printed_simple s ++ ks) (each_moved next_start (moved_start f) (next_start_prints f) others)

pub for_head_prints : (f : ℕ → ℕ) (h : ForHead) → printed_for_head (moved_for_head f h) ≡ printed_for_head h
for_head_prints f h =
    ap (λ (ks : List Kind). within (ended ks ++ (ended (maybe (printed_expr 7) (option_map (moved_expr f) h.test)) ++ maybe printed_simple (option_map (moved_simple f) h.step)))) (starts_prints f h.start)
    ∙ ap (λ (ks : List Kind). within (ended (printed_starts h.start) ++ (ended ks ++ maybe printed_simple (option_map (moved_simple f) h.step)))) (maybe_moved (printed_expr 7) (moved_expr f) (λ e. expr_prints f e 7) h.test)
    ∙ ap (λ (ks : List Kind). within (ended (printed_starts h.start) ++ (ended (maybe (printed_expr 7) h.test) ++ ks))) (maybe_moved printed_simple (moved_simple f) (simple_prints f) h.step)

free_prints : (f : ℕ → ℕ) (x : Free) → printed_free (moved_free f x) ≡ printed_free x
free_prints f x = ap (λ (ks : List Kind). ended (key (codes "free") ∷ within ks)) (arg_prints f x.expr)

pub gap_prints : (f : ℕ → ℕ) (g : Gap) → printed_gap (moved_gap f g) ≡ printed_gap g
gap_prints f g = each_moved printed_free (moved_free f) (free_prints f) g.frees
