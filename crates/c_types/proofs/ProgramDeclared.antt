-- A text's program declares its variables in the order of their numbers, and each stands where it is visible.
use Rattle.std.proofs.Common.{◌≡◌, ℕ, suc, ◌+◌, Bool, true, false, ◌||◌, ℤ, List, [], ◌∷◌, ◌++◌, length, map, flat_map, slice_get, Option, Some, None, refl, sym, ap, subst, ◌∙◌, nat_eq, arith, append-nil, append_assoc, length-append}
use Rattle.std.specs.Prelude.{nat_lt, slice_set, is_some, if◌then◌else◌}
use Rattle.std.specs.List.{fold, range_with_len}
use Rattle.std.specs.Set.{is_member}
use Rattle.std.proofs.lemmas.List.{map-append, map-id, length-map}
use Rattle.std.proofs.lemmas.List.FromFn.{length-range_with_len}
use Rattle.c_tree.specs.Numbers.{Numbers, from_all, start_locals, item_locals, arm_locals, block_locals, piece_locals, locals_in, Own, result_home, own_of, owns_from, Declares, nothing, a_global, a_function}
use Rattle.c_tree.specs.declared.program.Block.{Block as MadeBlock}
use Rattle.c_tree.specs.declared.program.Declr.{Declr as MadeDeclr}
use Rattle.c_tree.specs.declared.program.FunDef.{FunDef}
use Rattle.c_tree.specs.declared.program.Home.{Home}
use Rattle.c_tree.specs.declared.program.Home.TheVariants as home
use Rattle.c_tree.specs.declared.program.Item.{Item-F as MadeItem-F}
use Rattle.c_tree.specs.declared.program.Item.TheOpen.{Declare, Assign, Do, Nest, If, While, For, Break, Continue, Return}
use Rattle.c_tree.specs.declared.program.Program.{Program}
use Rattle.c_tree.specs.declared.program.Start.{Start as MadeStart}
use Rattle.c_tree.specs.declared.program.Start.TheVariants as made_start
use Rattle.c_tree.specs.declared.program.Ty.{Ty}
use Rattle.c_tree.specs.declared.program.VarDef.{VarDef}
use Rattle.c_tree.specs.declared.tree.Block.{Block}
use Rattle.c_tree.specs.declared.tree.Body.{Body}
use Rattle.c_tree.specs.declared.tree.Expr.{Expr}
use Rattle.c_tree.specs.declared.tree.GlobalDecl.{GlobalDecl}
use Rattle.c_tree.specs.declared.tree.Head.{Head}
use Rattle.c_tree.specs.declared.tree.Spec.{Spec}
use Rattle.c_tree.specs.declared.tree.Top.{Top}
use Rattle.c_tree.specs.declared.tree.Top.TheVariants as top
use Rattle.c_tree.specs.declared.tree.Tree.{Tree}
use Rattle.c_tree.specs.declared.tree.Word.{Word}
use Rattle.c_tree.proofs.Fills.{kept_block}
use Rattle.c_tree.proofs.RegappedFolds.{Algebra, Leads, led_item, fold_led}
use Rattle.c_types.specs.declared.faults.Fault.{Fault}
use Rattle.c_types.specs.declared.scope.Entry.{Entry}
use Rattle.c_types.specs.declared.scope.Heading.{Heading}
use Rattle.c_types.specs.declared.scope.Heading.TheVariants as heading
use Rattle.c_types.specs.declared.scope.Meaning.{Meaning}
use Rattle.c_types.specs.declared.scope.Meaning.TheVariants as meaning
use Rattle.c_types.specs.declared.scope.Returned.{Returned}
use Rattle.c_types.specs.declared.scope.Returned.TheVariants as returned
use Rattle.c_types.specs.declared.scope.Scope.{Scope}
use Rattle.c_types.specs.declared.scope.Signature.{Signature}
use Rattle.c_types.specs.declared.scope.StructRow.{StructRow}
use Rattle.c_types.specs.declared.scope.Walk.{Walk}
use Rattle.c_types.specs.declared.scope.Written.{Written}
use Rattle.c_types.specs.Functions.{result_faults, heading_of, entry, new_function, again_faults, noted_again, marked, with_body, function_as, function_by, main_faults, function_named, walked_heading, body_nesting, walked_param, slot_of, with_slot, brace_of, result_or_none, walked_fun, walked_proto}
use Rattle.c_types.specs.InTurn.{each}
use Rattle.c_types.specs.Program.{start, walked_top, walked, definitions, IsProgram}
use Rattle.c_types.specs.Scopes.{spec_type, result_type, noted, with_scope, with_name, named_by, named_if, variable_meaning, var_of, with_var, declared, type_faults}
use Rattle.c_types.specs.Structs.{Fields, field_more, field_named, walked_field, field_turn, walked_fields, with_row, row_again, walked_body, body_if, alias_if, numbered, walked_struct, start_number, start_noted, walked_global}
use Rattle.c_types.specs.Tables.{found}
use Rattle.c_types.proofs.Functionwise.{by_tops, definition_funs, left_clean}
use Rattle.c_types.proofs.Growing.{declared_grows}
use Rattle.c_types.proofs.Numbering.{Gives, range_joined, of_start, of_item, of_arm, of_block, of_piece, of_any, in_block, block_numbers}
use Rattle.c_types.proofs.NumberingLeaves.{gap_numbers, gap_count, var_numbers, var_count, vars_lawful}
use Rattle.c_types.proofs.NumberingTops.{gap_tops, heading_quiet, struct_quiet}
use Rattle.c_types.proofs.Passing.{headed, with_params, inside, left, made_of, params_grow, inside_grows, own_names, named_more}
use Rattle.c_types.proofs.Rows.{found_one, found_either}
use Rattle.c_types.proofs.Standing.{left_names}
use Rattle.c_types.proofs.VisibleParts.{Covers, covers_on, based_names, tagged_names}
use Rattle.c_types.proofs.VisibleBlocks.{declared_covers, block_sees}

-- what a block declares, as it is listed

abbrev none : {A : Type 0} → A → List ℕ
none x = []

any_none : {A : Type 0} (o : Option A) → of_any none o ≡ []
any_none None = refl
any_none (Some x) = refl

declrs_listed : (ds : List MadeDeclr) → from_all (map (λ (d : MadeDeclr). d.var ∷ []) ds) ≡ map (λ (d : MadeDeclr). d.var) ds
declrs_listed [] = refl
declrs_listed (d ∷ ds) = ap (λ (xs : List ℕ). d.var ∷ xs) (declrs_listed ds)

starts_listed : (xs : List MadeStart) → from_all (map (of_start var_numbers) xs) ≡ flat_map start_locals xs
starts_listed [] = refl
starts_listed (made_start.Declare d ∷ xs) = ap (λ (ys : List ℕ). d.var ∷ ys) (starts_listed xs)
starts_listed (made_start.Assign s ∷ xs) = starts_listed xs

abbrev listing : Algebra Numbers Numbers Numbers Numbers
listing = record { item = item_locals; arm = arm_locals; block = block_locals; piece = piece_locals }

abbrev numbering : Algebra Numbers Numbers Numbers Numbers
numbering = record { item = of_item var_numbers; arm = of_arm var_numbers; block = of_block var_numbers; piece = of_piece var_numbers }

abbrev the_same : Leads Numbers Numbers Numbers Numbers Numbers Numbers Numbers Numbers
the_same = record { item = λ xs. xs; arm = λ xs. xs; block = λ xs. xs; piece = λ xs. xs }

item_listed : (x : MadeItem-F Numbers Numbers Numbers Numbers) → of_item var_numbers (led_item the_same x) ≡ item_locals x
item_listed (Declare ds) = declrs_listed ds
item_listed (Assign s) = refl
item_listed (Do c) = refl
item_listed (Nest b) = refl
item_listed (If arms None) = ap (λ (xs : List Numbers). from_all xs ++ []) (map-id arms)
item_listed (If arms (Some b)) = ap (λ (xs : List Numbers). from_all xs ++ b) (map-id arms)
item_listed (While test b) = refl
item_listed (For h b) =
    ap (λ (xs : List ℕ). (from_all (map (of_start var_numbers) h.start) ++ xs) ++ b) (any_none h.step)
    ∙ ap (λ (xs : List ℕ). xs ++ b) (append-nil (from_all (map (of_start var_numbers) h.start)) ∙ starts_listed h.start)
item_listed Break = refl
item_listed Continue = refl
item_listed (Return r at) = any_none r

locals_listed : (b : MadeBlock) → in_block var_numbers b ≡ locals_in b
locals_listed b =
    ap (in_block var_numbers) (sym (kept_block b))
    ∙ fold_led (λ g. g) listing numbering the_same (record {
      item = item_listed;
      arm = λ x. refl;
      block = λ x. append-nil (from_all (map (λ (xs : Numbers). xs) x.items)) ∙ ap from_all (map-id x.items);
      piece = λ x. refl;
    }) b

-- declarations without variables

pub record Undeclaring (w u : Walk) : Type 0 where
  pub vars : u.vars ≡ w.vars
  pub covers : (seen : List ℕ) → Covers w.scope seen → Covers u.scope seen

none_declared : (w : Walk) → Undeclaring w w
none_declared w = record { vars = refl; covers = λ seen c. c }

both_undeclaring : (w v u : Walk) → Undeclaring w v → Undeclaring v u → Undeclaring w u
both_undeclaring w v u f g = record { vars = g.vars ∙ f.vars; covers = λ seen c. g.covers seen (f.covers seen c) }

same_names : (w u : Walk) → u.vars ≡ w.vars → u.scope.names ≡ w.scope.names → Undeclaring w u
same_names w u vars names = record { vars = vars; covers = λ seen c. covers_on w.scope u.scope seen names c }

note_declares_none : (fs : List Fault) (w : Walk) → Undeclaring w (noted fs w)
note_declares_none fs w = same_names w (noted fs w) refl refl

-- a name that stands for no variable
name_declares_none : (n : Word) (e : Entry) (w : Walk) → ((k : ℕ) (t : Ty) → e.meaning ≡ meaning.Variable k t → ⊥) → Undeclaring w (with_name n e w)
name_declares_none n e w other = record {
  vars = refl;
  covers = λ seen c m x k t is means.
      found_either (λ (x : Entry). x.meaning ≡ meaning.Variable k t → is_member nat_eq seen k ≡ true) w.scope.names ((n.text, e) ∷ []) m
      (λ x h mean. c m x k t h mean) (λ x h. found_one (λ (x : Entry). x.meaning ≡ meaning.Variable k t → is_member nat_eq seen k ≡ true) (n.text, e) (λ mean. absurd (other k t mean)) m x h) x is means;
}

mark_declares_none : (k : ℕ) (o : Option Signature) (w : Walk) → Undeclaring w (marked k o w)
mark_declares_none k None w = none_declared w
mark_declares_none k (Some g) w = same_names w (marked k (Some g) w) refl refl

new_declares_none : (n : Word) (body : Bool) (h : Heading) (w : Walk) → Undeclaring w (new_function n body h w)
new_declares_none n body (heading.Bad f) w = name_declares_none n (entry (meaning.Bad f)) w (λ k t is. absurd cc)
new_declares_none n body (heading.Good g) w =
    let e = entry (meaning.Function (length w.signatures)) in
    let x = name_declares_none n e w (λ k t is. absurd cc) in
    record { vars = refl; covers = x.covers }

again_declares_none : (n : Word) (body : Bool) (h : Heading) (o : Option Signature) (w : Walk) → Undeclaring w (noted_again n body h o w)
again_declares_none n body h None w = none_declared w
again_declares_none n body h (Some g) w = note_declares_none (again_faults body h g n.at) w

body_declares_none : (body : Bool) (k : ℕ) (w : Walk) → Undeclaring w (with_body body k w)
body_declares_none true k w = mark_declares_none k (slice_get w.signatures k) w
body_declares_none false k w = none_declared w

meant_declares_none : (n : Word) (body : Bool) (h : Heading) (m : Meaning) (w : Walk) → Undeclaring w (function_as n body h m w)
meant_declares_none n body h (meaning.Function k) w =
    let v = noted_again n body h (slice_get w.signatures k) w in
    both_undeclaring w v (with_body body k v) (again_declares_none n body h (slice_get w.signatures k) w) (body_declares_none body k v)
meant_declares_none n body h (meaning.Bad f) w = none_declared w
meant_declares_none n body h (meaning.Variable m t) w = note_declares_none _ w
meant_declares_none n body h (meaning.Alias s) w = note_declares_none _ w

by_declares_none : (n : Word) (body : Bool) (h : Heading) (o : Option Entry) (w : Walk) → Undeclaring w (function_by n body h o w)
by_declares_none n body h None w = new_declares_none n body h w
by_declares_none n body h (Some e) w = meant_declares_none n body h e.meaning w

function_declares_none : (h : Head) (body : Bool) (t : Heading) (o : Option Word) (w : Walk) → Undeclaring w (function_named h body t o w)
function_declares_none h body t None w = note_declares_none _ w
function_declares_none h body t (Some n) w =
    let v = noted (main_faults h n) w in
    both_undeclaring w v (function_named h body t (Some n) w) (note_declares_none (main_faults h n) w) (by_declares_none n body t (found w.scope.names n.text) v)

specs_names : (ds : List Spec) (s : Scope) → (each spec_type ds s).0.names ≡ s.names
specs_names [] s = refl
specs_names (d ∷ ds) s = specs_names ds (spec_type d s).0 ∙ based_names d.base s

heading_declares_none : (h : Head) (body : Bool) (w : Walk) → Undeclaring w (walked_heading h body w).0
heading_declares_none h body w =
    let r = result_type h.result w.scope in
    let ps = each spec_type h.params r.0 in
    let v = noted (result_faults r.1 ++ flat_map type_faults ps.1) (with_scope w ps.0) in
    both_undeclaring w v (walked_heading h body w).0 (same_names w v refl (specs_names h.params r.0 ∙ based_names h.result.base w.scope))
    (function_declares_none h body (heading_of r.1 ps.1) h.result.name v)

-- structs

field_declares_none : (n : Word) (t : Written) (rows : Fields) (o : Option Written) (w : Walk) → Undeclaring w (field_more n t rows o w).0
field_declares_none n t rows None w = none_declared w
field_declares_none n t rows (Some older) w = note_declares_none _ w

field_name_declares_none : (d : Spec) (t : Written) (rows : Fields) (o : Option Word) (w : Walk) → Undeclaring w (field_named d t rows o w).0
field_name_declares_none d t rows None w = note_declares_none _ w
field_name_declares_none d t rows (Some n) w = field_declares_none n t rows (found rows n.text) w

fields_declare_none : (ds : List Spec) (r : Walk × Fields) → Undeclaring r.0 (fold field_turn r ds).0
fields_declare_none [] r = none_declared r.0
fields_declare_none (d ∷ ds) r =
    let t = spec_type d r.0.scope in
    let v = noted (type_faults t.1) (with_scope r.0 t.0) in
    let u = (walked_field d r.1 r.0).0 in
    both_undeclaring r.0 u (fold field_turn r (d ∷ ds)).0
    (both_undeclaring r.0 v u (same_names r.0 v refl (based_names d.base r.0.scope)) (field_name_declares_none d t.1 r.1 d.name v)) (fields_declare_none ds (walked_field d r.1 r.0))

row_declares_none : (n : ℕ) (row : StructRow) (w : Walk) → Undeclaring w (with_row n row w)
row_declares_none n row w = by_place (nat_lt n (length w.scope.structs))
  where
    by_place : (t : Bool) → Undeclaring w (if t then with_scope w (record w.scope { structs = slice_set w.scope.structs n row }) else w)
    by_place true = same_names w (with_scope w (record w.scope { structs = slice_set w.scope.structs n row })) refl refl
    by_place false = none_declared w

body_if_declares_none : (tag : Option Word) (n : ℕ) (o : Option Body) (w : Walk) → Undeclaring w (body_if tag n o w)
body_if_declares_none tag n None w = none_declared w
body_if_declares_none tag n (Some b) w =
    let u = noted (row_again (slice_get w.scope.structs n) tag) w in
    let v = walked_fields b.fields u in
    both_undeclaring w u (walked_body tag n b w) (note_declares_none (row_again (slice_get w.scope.structs n) tag) w)
    (both_undeclaring u v.0 (walked_body tag n b w) (fields_declare_none b.fields (u, [])) (row_declares_none n (record { fields = v.1; body = Some b.at }) v.0))

alias_declares_none : (n : ℕ) (o : Option Word) (w : Walk) → Undeclaring w (alias_if n o w)
alias_declares_none n None w = none_declared w
alias_declares_none n (Some a) w = by_older (found w.scope.names a.text)
  where
    by_older : (o : Option Entry) → Undeclaring w (named_by a (record { meaning = meaning.Alias n; depth = 0 }) w o)
    by_older None = name_declares_none a (record { meaning = meaning.Alias n; depth = 0 }) w (λ k t is. absurd cc)
    by_older (Some older) = note_declares_none _ w

numbered_names : (tag : Option Word) (s : Scope) → (numbered tag s).0.names ≡ s.names
numbered_names None s = refl
numbered_names (Some n) s = tagged_names n s (found s.tags n.text)

struct_declares_none : (tag : Option Word) (body : Option Body) (alias : Option Word) (w : Walk) → Undeclaring w (walked_struct tag body alias w)
struct_declares_none tag body alias w =
    let r = numbered tag w.scope in
    let v = with_scope w r.0 in
    let u = body_if tag r.1 body v in
    both_undeclaring w v (walked_struct tag body alias w) (same_names w v refl (numbered_names tag w.scope))
    (both_undeclaring v u (walked_struct tag body alias w) (body_if_declares_none tag r.1 body v) (alias_declares_none r.1 alias u))

-- one variable more

by_older_vars : (n : Word) (e : Entry) (w : Walk) (o : Option Entry) → (named_by n e w o).vars ≡ w.vars
by_older_vars n e w None = refl
by_older_vars n e w (Some older) = refl

name_vars : (d : Spec) (e : Entry) (w : Walk) (o : Option Word) → (named_if d e w o).vars ≡ w.vars
name_vars d e w None = refl
name_vars d e w (Some n) = by_older_vars n e w (found w.scope.names n.text)

declared_vars : (d : Spec) (h : Home) (depth : ℕ) (w : Walk) → (declared d h depth w).0.vars ≡ w.vars ++ var_of d (spec_type d w.scope).1 h ∷ []
declared_vars d h depth w =
    let r = spec_type d w.scope in
    name_vars d (record { meaning = variable_meaning (length w.vars) r.1; depth = depth }) (noted (type_faults r.1) (with_var (var_of d r.1 h) (with_scope w r.0))) d.name

-- parameters are numbered from the walk's variables on
param_numbers : (f : ℕ) (ds : List Spec) (w : Walk) → (each (walked_param f) ds w).1 ≡ range_with_len (length w.vars) (length ds)
param_numbers f [] w = refl
param_numbers f (d ∷ ds) w =
    let v = (declared d (home.Param f) 1 w).0 in
    let long : length v.vars ≡ length w.vars + 1 = ap (λ (vs : List VarDef). length vs) (declared_vars d (home.Param f) 1 w) ∙ length-append w.vars (var_of d (spec_type d w.scope).1 (home.Param f) ∷ []) in
    ap (λ (xs : List ℕ). length w.vars ∷ xs) (param_numbers f ds v ∙ ap (λ (k : ℕ). range_with_len k (length ds)) long)

params_long : (f : ℕ) (ds : List Spec) (w : Walk) → length (each (walked_param f) ds w).0.vars ≡ length w.vars + length ds
params_long f [] w = omega arith
params_long f (d ∷ ds) w =
    let v = (declared d (home.Param f) 1 w).0 in
    let long : length v.vars ≡ length w.vars + 1 = ap (λ (vs : List VarDef). length vs) (declared_vars d (home.Param f) 1 w) ∙ length-append w.vars (var_of d (spec_type d w.scope).1 (home.Param f) ∷ []) in
    let rest : length (each (walked_param f) ds v).0.vars ≡ length v.vars + length ds = params_long f ds v in
    let all : length v.vars + length ds ≡ length w.vars + suc (length ds) = omega arith in
    rest ∙ all

-- variables with one home
one_home : (h : Home) (vs : List VarDef) (xs : List ℕ) → ((k : ℕ) (v : VarDef) → slice_get vs k ≡ Some v → v.home ≡ h) → length vs ≡ length xs → map (λ (v : VarDef). v.home) vs ≡ map (λ (x : ℕ). h) xs
one_home h [] [] homes long = refl
one_home h (v ∷ vs) (x ∷ xs) homes long =
    let rest : length vs ≡ length xs = cc in
    ap (λ (y : Home). y ∷ map (λ (v : VarDef). v.home) vs) (homes 0 v refl) ∙ ap (λ (ys : List Home). h ∷ ys) (one_home h vs xs (λ k u is. homes (suc k) u is) rest)
one_home h [] (x ∷ xs) homes long = absurd cc
one_home h (v ∷ vs) [] homes long = absurd cc

-- the functions and variables so far are those of a file that may go on
pub record Upto (w : Walk) : Type 0 where
  pub globals : List ℕ
  pub so_far : (owns : List Own) (homes : List Home) → Declares (length w.vars) globals owns homes → Declares 0 [] (owns_from 0 w.funs ++ owns) (map (λ (v : VarDef). v.home) w.vars ++ homes)
  pub covers : Covers w.scope globals

quiet_upto : (w u : Walk) → Undeclaring w u → u.funs ≡ w.funs → Upto w → Upto u
quiet_upto w u q funs s = record {
  globals = s.globals;
  so_far = λ owns homes d.
      subst (λ (ds : List FunDef). Declares 0 [] (owns_from 0 ds ++ owns) (map (λ (v : VarDef). v.home) u.vars ++ homes)) (sym funs)
      (subst (λ (vs : List VarDef). Declares 0 [] (owns_from 0 w.funs ++ owns) (map (λ (v : VarDef). v.home) vs ++ homes)) (sym q.vars)
      (s.so_far owns homes (subst (λ (vs : List VarDef). Declares (length vs) s.globals owns homes) q.vars d)));
  covers = q.covers s.globals s.covers;
}

-- a variable of the file
start_declares_none : (at : ℕ) (o : Option Expr) (r : Walk × Written) → Undeclaring r.0 (start_noted at o r)
start_declares_none at None r = none_declared r.0
start_declares_none at (Some e) r = note_declares_none _ r.0

start_funs : (at : ℕ) (o : Option Expr) (r : Walk × Written) → (start_noted at o r).funs ≡ r.0.funs
start_funs at None r = refl
start_funs at (Some e) r = refl

global_declared : (d : Spec) (n : ℤ) (w : Walk) → Upto w → Upto (declared d (home.Global n) 0 w).0
global_declared d n w s =
    let h = home.Global n in
    let u = (declared d h 0 w).0 in
    let v = var_of d (spec_type d w.scope).1 h in
    let vars = declared_vars d h 0 w in
    let long : length u.vars ≡ length w.vars + 1 = ap (λ (vs : List VarDef). length vs) vars ∙ length-append w.vars (v ∷ []) in
    record {
      globals = length w.vars ∷ s.globals;
      so_far = λ owns homes rest.
          let first = s.so_far owns (h ∷ homes) (a_global n (subst (λ (k : ℕ). Declares k (length w.vars ∷ s.globals) owns homes) long rest)) in
          let same : map (λ (v : VarDef). v.home) u.vars ++ homes ≡ map (λ (v : VarDef). v.home) w.vars ++ h ∷ homes =
          ap (λ (vs : List VarDef). map (λ (v : VarDef). v.home) vs ++ homes) vars ∙ ap (λ (hs : List Home). hs ++ homes) (map-append (λ (v : VarDef). v.home) w.vars (v ∷ []))
          ∙ append_assoc (map (λ (v : VarDef). v.home) w.vars) (h ∷ []) homes in
          subst (λ (ds : List FunDef). Declares 0 [] (owns_from 0 ds ++ owns) (map (λ (v : VarDef). v.home) u.vars ++ homes)) (sym (declared_grows d h 0 w).funs)
          (subst (Declares 0 [] (owns_from 0 w.funs ++ owns)) (sym same) first);
      covers = declared_covers d h 0 w s.globals s.covers;
    }

global_upto : (d : GlobalDecl) (w : Walk) → Upto w → Upto (walked_global d w)
global_upto d w s =
    let r = declared d.spec (home.Global (start_number d.value)) 0 w in
    quiet_upto r.0 (walked_global d w) (start_declares_none d.at d.value r) (start_funs d.at d.value r) (global_declared d.spec (start_number d.value) w s)

globals_upto : (ds : List GlobalDecl) (w : Walk) → Upto w → Upto (fold (λ v d. walked_global d v) w ds)
globals_upto [] w s = s
globals_upto (d ∷ ds) w s = globals_upto ds (walked_global d w) (global_upto d w s)

owns_more : (f : ℕ) (ds : List FunDef) (d : FunDef) → owns_from f (ds ++ d ∷ []) ≡ owns_from f ds ++ own_of (f + length ds) d ∷ []
owns_more f [] d = let here : f + 0 ≡ f = omega arith in ap (λ (k : ℕ). own_of k d ∷ []) (sym here)
owns_more f (c ∷ ds) d =
    let here : (f + 1) + length ds ≡ f + suc (length ds) = omega arith in
    ap (λ (xs : List Own). own_of f c ∷ xs) (owns_more (f + 1) ds d ∙ ap (λ (k : ℕ). owns_from (f + 1) ds ++ own_of k d ∷ []) here)

-- the slot of a result

slot_homed : (t : Returned) (f at : ℕ) (w : Walk) → map (λ (v : VarDef). v.home) (with_slot t f at w).vars ≡ map (λ (v : VarDef). v.home) w.vars ++ result_home f (result_or_none t)
slot_homed returned.Nothing f at w = sym (append-nil (map (λ (v : VarDef). v.home) w.vars))
slot_homed (returned.Value t) f at w = map-append (λ (v : VarDef). v.home) w.vars (slot_of t f at ∷ [])
slot_homed (returned.Bad e) f at w = sym (append-nil (map (λ (v : VarDef). v.home) w.vars))

slot_scope : (t : Returned) (f at : ℕ) (w : Walk) → (with_slot t f at w).scope ≡ w.scope
slot_scope returned.Nothing f at w = refl
slot_scope (returned.Value t) f at w = refl
slot_scope (returned.Bad e) f at w = refl

-- parameters are visible behind them

member_moved : (k y : ℕ) (xs seen : List ℕ) → is_member nat_eq (xs ++ y ∷ seen) k ≡ true → is_member nat_eq (y ∷ xs ++ seen) k ≡ true
member_moved k y [] seen h = h
member_moved k y (x ∷ xs) seen h = by_first (nat_eq k x) (nat_eq k y) (is_member nat_eq (xs ++ y ∷ seen) k) (is_member nat_eq (xs ++ seen) k) (member_moved k y xs seen) h
  where
    by_first : (a b m n : Bool) → (m ≡ true → (b || n) ≡ true) → (a || m) ≡ true → (b || (a || n)) ≡ true
    by_first true true m n rest h = refl
    by_first true false m n rest h = refl
    by_first false true m n rest h = refl
    by_first false false m n rest h = rest h

params_cover : (f : ℕ) (ds : List Spec) (w : Walk) (seen : List ℕ) → Covers w.scope seen → Covers (each (walked_param f) ds w).0.scope ((each (walked_param f) ds w).1 ++ seen)
params_cover f [] w seen covers n e k t is means = covers n e k t is means
params_cover f (d ∷ ds) w seen covers n e k t is means =
    let v = (declared d (home.Param f) 1 w).0 in
    member_moved k (length w.vars) (each (walked_param f) ds v).1 seen
    (params_cover f ds v (length w.vars ∷ seen) (declared_covers d (home.Param f) 1 w seen covers) n e k t is means)

-- a definition
module _ (h : Head) (body : Block) (w : Walk) (clean : (walked_fun h body w).faults ≡ []) where
  abbrev place : ℕ
  place = length w.funs

  abbrev own : Own
  own = own_of place (made_of h body w)

  abbrev locals : List ℕ
  locals = locals_in (inside h body w).1

  quiet : Undeclaring w (headed h body w).0
  quiet = heading_declares_none h true w

  block_gives : Gives var_count (with_params h body w).0 (inside h body w).0 (in_block var_numbers (inside h body w).1)
  block_gives = block_numbers var_numbers var_count vars_lawful body (body_nesting place (headed h body w).1) (with_params h body w).0

  locals_are : locals ≡ range_with_len (length (with_params h body w).0.vars) (length locals)
  locals_are = subst (λ (xs : List ℕ). xs ≡ range_with_len (length (with_params h body w).0.vars) (length xs)) (locals_listed (inside h body w).1) (block_gives.numbers (left_clean h body w clean))

  locals_count : length (inside h body w).0.vars ≡ length (with_params h body w).0.vars + length locals
  locals_count = subst (λ (xs : List ℕ). length (inside h body w).0.vars ≡ length (with_params h body w).0.vars + length xs) (locals_listed (inside h body w).1) (block_gives.counted (left_clean h body w clean))

  params_count : length (with_params h body w).1 ≡ length h.params
  params_count = ap (λ (xs : List ℕ). length xs) (param_numbers place h.params (headed h body w).0) ∙ length-range_with_len (length (headed h body w).0.vars) (length h.params)

  headed_count : length (headed h body w).0.vars ≡ length w.vars
  headed_count = ap (λ (vs : List VarDef). length vs) quiet.vars

  own_numbers : own.declared ≡ range_with_len (length w.vars) (length own.declared)
  own_numbers =
      let np = length h.params in
      let nl = length locals in
      let ps = (with_params h body w).1 in
      let start_at : length (with_params h body w).0.vars ≡ length w.vars + np = params_long place h.params (headed h body w).0 ∙ ap (λ (k : ℕ). k + np) headed_count in
      let first : ps ≡ range_with_len (length w.vars) np = param_numbers place h.params (headed h body w).0 ∙ ap (λ (k : ℕ). range_with_len k np) headed_count in
      let second : locals ≡ range_with_len (length w.vars + np) nl = locals_are ∙ ap (λ (k : ℕ). range_with_len k nl) start_at in
      let long : length (ps ++ locals) ≡ np + nl = length-append ps locals ∙ ap (λ (k : ℕ). k + nl) params_count in
      ap (λ (xs : List ℕ). xs ++ locals) first ∙ ap (λ (xs : List ℕ). range_with_len (length w.vars) np ++ xs) second
      ∙ range_joined (length w.vars) np nl ∙ ap (range_with_len (length w.vars)) (sym long)

  abbrev param_homes : List Home
  param_homes = map (λ (x : ℕ). home.Param place) (with_params h body w).1

  abbrev local_homes : List Home
  local_homes = map (λ (x : ℕ). home.Local place) locals

  params_homed : map (λ (v : VarDef). v.home) (params_grow h body w).more_vars ≡ param_homes
  params_homed =
      let g = params_grow h body w in
      let all : length (with_params h body w).0.vars ≡ length (headed h body w).0.vars + length g.more_vars = ap (λ (vs : List VarDef). length vs) g.vars ∙ length-append (headed h body w).0.vars g.more_vars in
      let long : length (with_params h body w).0.vars ≡ length (headed h body w).0.vars + length h.params = params_long place h.params (headed h body w).0 in
      let count : length (with_params h body w).1 ≡ length h.params = params_count in
      one_home (home.Param place) g.more_vars (with_params h body w).1 g.homes (omega arith)

  locals_homed : map (λ (v : VarDef). v.home) (inside_grows h body w).more_vars ≡ local_homes
  locals_homed =
      let g = inside_grows h body w in
      let all : length (inside h body w).0.vars ≡ length (with_params h body w).0.vars + length g.more_vars = ap (λ (vs : List VarDef). length vs) g.vars ∙ length-append (with_params h body w).0.vars g.more_vars in
      let long : length (inside h body w).0.vars ≡ length (with_params h body w).0.vars + length locals = locals_count in
      one_home (home.Local place) g.more_vars locals g.homes (omega arith)

  inside_homed : map (λ (v : VarDef). v.home) (inside h body w).0.vars ≡ map (λ (v : VarDef). v.home) w.vars ++ (param_homes ++ local_homes)
  inside_homed =
      let f = params_grow h body w in
      let g = inside_grows h body w in
      ap (λ (vs : List VarDef). map (λ (v : VarDef). v.home) vs) g.vars ∙ map-append (λ (v : VarDef). v.home) (with_params h body w).0.vars g.more_vars
      ∙ ap (λ (hs : List Home). map (λ (v : VarDef). v.home) (with_params h body w).0.vars ++ hs) locals_homed
      ∙ ap (λ (vs : List VarDef). map (λ (v : VarDef). v.home) vs ++ local_homes) (f.vars ∙ ap (λ (vs : List VarDef). vs ++ f.more_vars) quiet.vars)
      ∙ ap (λ (hs : List Home). hs ++ local_homes) (map-append (λ (v : VarDef). v.home) w.vars f.more_vars ∙ ap (λ (hs : List Home). map (λ (v : VarDef). v.home) w.vars ++ hs) params_homed)
      ∙ append_assoc (map (λ (v : VarDef). v.home) w.vars) param_homes local_homes

  all_homed : map (λ (v : VarDef). v.home) (walked_fun h body w).vars ≡ map (λ (v : VarDef). v.home) w.vars ++ own.homes
  all_homed =
      let before = map (λ (v : VarDef). v.home) w.vars in
      let result = result_home place (result_or_none (headed h body w).1) in
      slot_homed (headed h body w).1 place (brace_of body) (left h body w)
      ∙ ap (λ (hs : List Home). hs ++ result) inside_homed
      ∙ append_assoc before (param_homes ++ local_homes) result

  all_count : length (walked_fun h body w).vars ≡ length w.vars + length own.homes
  all_count =
      sym (length-map (walked_fun h body w).vars (λ (v : VarDef). v.home)) ∙ ap (λ (hs : List Home). length hs) all_homed
      ∙ length-append (map (λ (v : VarDef). v.home) w.vars) own.homes ∙ ap (λ (k : ℕ). k + length own.homes) (length-map w.vars (λ (v : VarDef). v.home))

  own_sees : (globals : List ℕ) → Covers w.scope globals → own.sees globals ≡ true
  own_sees globals covers =
      ap is_some (block_sees body (body_nesting place (headed h body w).1) (with_params h body w).0 ((with_params h body w).1 ++ globals)
      (params_cover place h.params (headed h body w).0 globals (quiet.covers globals covers)))

  names_left : (walked_fun h body w).scope.names ≡ (headed h body w).0.scope.names
  names_left =
      ap (λ (s : Scope). s.names) (slot_scope (headed h body w).1 place (brace_of body) (left h body w))
      ∙ left_names (headed h body w).0 (inside h body w).0 (own_names h body w) (named_more h body w)

  owns_here : owns_from 0 (walked_fun h body w).funs ≡ owns_from 0 w.funs ++ own ∷ []
  owns_here =
      let here : 0 + length w.funs ≡ length w.funs = omega arith in
      ap (owns_from 0) (definition_funs h body w) ∙ owns_more 0 w.funs (made_of h body w) ∙ ap (λ (k : ℕ). owns_from 0 w.funs ++ own_of k (made_of h body w) ∷ []) here

  fun_upto : Upto w → Upto (walked_fun h body w)
  fun_upto s = record {
    globals = s.globals;
    so_far = λ owns homes d.
        let step = a_function own own_numbers (own_sees s.globals s.covers) (subst (λ (k : ℕ). Declares k s.globals owns homes) all_count d) in
        let first = s.so_far (own ∷ owns) (own.homes ++ homes) step in
        let same_owns : owns_from 0 (walked_fun h body w).funs ++ owns ≡ owns_from 0 w.funs ++ own ∷ owns =
        ap (λ (xs : List Own). xs ++ owns) owns_here ∙ append_assoc (owns_from 0 w.funs) (own ∷ []) owns in
        let same_homes : map (λ (v : VarDef). v.home) (walked_fun h body w).vars ++ homes ≡ map (λ (v : VarDef). v.home) w.vars ++ (own.homes ++ homes) =
        ap (λ (hs : List Home). hs ++ homes) all_homed ∙ append_assoc (map (λ (v : VarDef). v.home) w.vars) own.homes homes in
        subst (λ (xs : List Own). Declares 0 [] xs (map (λ (v : VarDef). v.home) (walked_fun h body w).vars ++ homes)) (sym same_owns)
        (subst (Declares 0 [] (owns_from 0 w.funs ++ own ∷ owns)) (sym same_homes) first);
    covers = covers_on (headed h body w).0.scope (walked_fun h body w).scope s.globals names_left (quiet.covers s.globals s.covers);
  }

-- a file

top_upto : (x : Top) (w : Walk) → (walked_top w x).faults ≡ [] → Upto w → Upto (walked_top w x)
top_upto (top.Struct tag body alias) w c s = quiet_upto w (walked_struct tag body alias w) (struct_declares_none tag body alias w) (struct_quiet gap_numbers gap_count gap_tops tag body alias w).funs s
top_upto (top.Globals ds) w c s = globals_upto ds w s
top_upto (top.Proto h) w c s = quiet_upto w (walked_proto h w) (heading_declares_none h false w) (heading_quiet gap_numbers gap_count gap_tops h false w).funs s
top_upto (top.Fun h body) w c s = fun_upto h body w c s

start_upto : (rows : List (List ℕ × ℕ)) → Upto (start rows)
start_upto rows = record { globals = []; so_far = λ owns homes d. d; covers = λ n e k t is means. absurd cc }

-- a text's program declares its variables in the order of their numbers, and each stands where it is visible
pub program_declared : (t : Tree) (p : Program) → IsProgram t p → Declares 0 [] (owns_from 0 p.funs) (map (λ (v : VarDef). v.home) p.vars)
program_declared t p is =
    let u = walked t in
    let upto = by_tops t is.clean Upto (λ x w a s. top_upto x w a.clean s) (start_upto (definitions t.tops)) in
    let all = upto.so_far [] [] nothing in
    subst (λ (q : Program). Declares 0 [] (owns_from 0 q.funs) (map (λ (v : VarDef). v.home) q.vars)) (sym is.made)
    (subst (λ (hs : List Home). Declares 0 [] (owns_from 0 u.funs) hs) (append-nil (map (λ (v : VarDef). v.home) u.vars))
    (subst (λ (xs : List Own). Declares 0 [] xs (map (λ (v : VarDef). v.home) u.vars ++ [])) (append-nil (owns_from 0 u.funs)) all))
