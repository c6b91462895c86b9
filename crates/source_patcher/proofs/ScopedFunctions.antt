-- What is known before a declaration of a file that breaks no rule; and that the puts in scope are seen in a function.
use Rattle.std.proofs.Common.{◌≡◌, ℕ, zero, suc, ◌<◌, Bool, true, false, nat_lt, List, [], ◌∷◌, ◌++◌, length, map, slice_get, Option, Some, None, refl, sym, ap, subst, ◌∙◌, append-nil, append_assoc}
use Rattle.std.specs.Prelude.{not, slice_set, if◌then◌else◌}
use Rattle.std.specs.List.{list_all}
use Rattle.c_tree.specs.Typing.{declarations, is_behind}
use Rattle.c_tree.specs.declared.choice.Put.{Put}
use Rattle.c_tree.specs.declared.program.Home.{Home}
use Rattle.c_tree.specs.declared.program.Home.TheVariants as home
use Rattle.c_tree.specs.declared.program.Program.{Program}
use Rattle.c_tree.specs.declared.program.StructDef.{StructDef}
use Rattle.c_tree.specs.declared.program.VarDef.{VarDef}
use Rattle.c_tree.specs.declared.tree.Block.{Block}
use Rattle.c_tree.specs.declared.tree.Body.{Body}
use Rattle.c_tree.specs.declared.tree.Expr.{Expr}
use Rattle.c_tree.specs.declared.tree.GlobalDecl.{GlobalDecl}
use Rattle.c_tree.specs.declared.tree.Head.{Head}
use Rattle.c_tree.specs.declared.tree.Spec.{Spec}
use Rattle.c_tree.specs.declared.tree.Word.{Word}
use Rattle.c_scopes.specs.ScopeAt.{block_place, is_from, is_global}
use Rattle.c_types.specs.declared.scope.Entry.{Entry}
use Rattle.c_types.specs.declared.scope.Meaning.TheVariants as meaning
use Rattle.c_types.specs.declared.scope.StructRow.{StructRow}
use Rattle.c_types.specs.declared.scope.Walk.{Walk}
use Rattle.c_types.specs.declared.scope.Written.{Written}
use Rattle.c_types.specs.Functions.{body_nesting, walked_fun, walked_heading, walked_param}
use Rattle.c_types.specs.InTurn.{each}
use Rattle.c_types.specs.Program.{struct_def}
use Rattle.c_types.specs.Scopes.{declared, named_by, naming, noted, var_of, with_scope}
use Rattle.c_types.specs.Structs.{alias_if, body_if, numbered, row_again, start_noted, start_number, walked_global, walked_globals, walked_struct, with_row}
use Rattle.c_types.specs.Tables.{found}
use Rattle.c_types.proofs.Functionwise.{inside_onward, left_clean}
use Rattle.c_types.proofs.Growing.{declared_grows, each_grows}
use Rattle.c_types.proofs.Numbering.{first_empty}
use Rattle.c_types.proofs.Passing.{globals_pass, headed, heading_passes, inside, inside_grows, params_grow, with_params}
use Rattle.c_types.proofs.Rows.{all_at, get_first}
use Rattle.c_types.proofs.Standing.{Onward, Standing, grows_onward, onward_both}
use Rattle.c_types.proofs.TypedParts.{declared_vars}
use Rattle.source_patcher.specs.InScope.{have_scope}
use Rattle.source_patcher.specs.Refilled.{IsRefilledBlock}
use Rattle.source_patcher.proofs.FieldRows.{AreFields, HasFields, HaveFields, fields_are, fields_on, rows_here}
use Rattle.source_patcher.proofs.FileAdds.{Adds, AreAdded, fields_read, function_adds, global_adds, globals_add, heading_adds, start_adds, struct_adds}
use Rattle.source_patcher.proofs.Later.{Later, is_late}
use Rattle.source_patcher.proofs.RefilledWalk.{block_seen}
use Rattle.source_patcher.proofs.ScopedBlocks.{block_scoped}
use Rattle.source_patcher.proofs.Sights.{AllShown, HasRow, HasRows, Shown, declared_all, declared_shown}

-- what is visible stays visible

shown_added : (L : VarDef → Bool) (R : StructRow → ℕ → Type 0) (w u : Walk) → Adds L R w u → (x : ℕ) → Shown w x → Shown u x
shown_added L R w u a x s = record {
  var = s.var;
  is = ap (λ (vs : List VarDef). slice_get vs x) a.vars ∙ get_first w.vars a.more x s.var s.is;
  entry = s.entry;
  finds = a.names s.var.name s.entry s.finds;
  means = s.means;
}

pub all_added : (L : VarDef → Bool) (R : StructRow → ℕ → Type 0) (w u : Walk) → Adds L R w u → (xs : List ℕ) → AllShown w xs → AllShown u xs
all_added L R w u a [] all = tt
all_added L R w u a (x ∷ xs) all = (shown_added L R w u a x all.0, all_added L R w u a xs all.1)

-- variables of the file

abbrev pub GlobalsShown : Walk → Type 0
GlobalsShown w = (x : ℕ) (v : VarDef) → slice_get w.vars x ≡ Some v → is_global v.home ≡ true → Shown w x

abbrev pub is_own : VarDef → Bool
is_own v = not (is_global v.home)

own_home : (f : ℕ) (h : Home) → is_from f h ≡ true → not (is_global h) ≡ true
own_home f (home.Global n) is = absurd cc
own_home f (home.Param g) is = refl
own_home f (home.Local g) is = refl
own_home f (home.Result g) is = refl

pub own_from : (f : ℕ) (v : VarDef) → is_from f v.home ≡ true → is_own v ≡ true
own_from f v is = own_home f v.home is

get_before : (xs ys : List VarDef) → list_all is_own ys ≡ true → (k : ℕ) (v : VarDef) → slice_get (xs ++ ys) k ≡ Some v → is_global v.home ≡ true → slice_get xs k ≡ Some v
get_before [] ys all k v is global =
    let two : true ≡ false = sym (all_at is_own ys k v all is) ∙ ap not global in
    absurd cc
get_before (x ∷ xs) ys all zero v is global = is
get_before (x ∷ xs) ys all (suc k) v is global = get_before xs ys all k v is global

globals_on : (R : StructRow → ℕ → Type 0) (w u : Walk) → Adds is_own R w u → GlobalsShown w → GlobalsShown u
globals_on R w u a shown x v is global =
    shown_added is_own R w u a x (shown x v (get_before w.vars a.more a.all x v (ap (λ (vs : List VarDef). slice_get vs x) (sym a.vars) ∙ is) global) global)

-- what is known before a declaration: variables of the file are visible, and fields have names and types
pub record Known (w : Walk) : Type 0 where
  pub shown : GlobalsShown w
  pub fields : HaveFields w

pub known_on : (w u : Walk) → Adds is_own HasFields w u → Known w → Known u
known_on w u a k = record { shown = globals_on HasFields w u a k.shown; fields = fields_on is_own w u a k.fields }

-- a variable of the file more

last_either : (P : ℕ → Type 0) (xs : List VarDef) (y v : VarDef) → ((k : ℕ) → slice_get xs k ≡ Some v → P k) → P (length xs) → (k : ℕ) → slice_get (xs ++ y ∷ []) k ≡ Some v → P k
last_either P [] y v first last zero is = last
last_either P [] y v first last (suc k) is = absurd cc
last_either P (x ∷ xs) y v first last zero is = first 0 is
last_either P (x ∷ xs) y v first last (suc k) is = last_either (λ j. P (suc j)) xs y v (λ j. first (suc j)) last k is

start_vars : (at : ℕ) (o : Option Expr) (r : Walk × Written) → (start_noted at o r).vars ≡ r.0.vars
start_vars at None r = refl
start_vars at (Some e) r = refl

start_clean : (at : ℕ) (o : Option Expr) (r : Walk × Written) → (start_noted at o r).faults ≡ [] → r.0.faults ≡ []
start_clean at None r clean = clean
start_clean at (Some e) r clean = first_empty r.0.faults _ clean

abbrev pub any_variable : VarDef → Bool
any_variable v = true

any_added : (ds : List GlobalDecl) → AreAdded any_variable HasFields ds
any_added [] = tt
any_added (d ∷ ds) = (λ t. refl, any_added ds)

pub globals_adds : (ds : List GlobalDecl) (w : Walk) → Adds any_variable HasFields w (walked_globals w ds)
globals_adds ds w = globals_add any_variable HasFields ds w (any_added ds)

known_global : (d : GlobalDecl) (w : Walk) → (walked_global d w).faults ≡ [] → Known w → Known (walked_global d w)
known_global d w clean k =
    let h = home.Global (start_number d.value) in
    let r = declared d.spec h 0 w in
    let u = walked_global d w in
    let y = var_of d.spec r.1 h in
    let a = global_adds any_variable HasFields d w (λ t. refl) in
    let vars : u.vars ≡ w.vars ++ y ∷ [] = start_vars d.at d.value r ∙ declared_vars d.spec h 0 w in
    let last : Shown u (length w.vars) = shown_added any_variable HasFields r.0 u (start_adds any_variable HasFields d.at d.value r) (length w.vars) (declared_shown d.spec h 0 w (start_clean d.at d.value r clean)) in
    record {
      shown = λ x v is global.
          last_either (Shown u) w.vars y v (λ j here. shown_added any_variable HasFields w u a j (k.shown j v here global)) last x (ap (λ (vs : List VarDef). slice_get vs x) (sym vars) ∙ is);
      fields = fields_on any_variable w u a k.fields;
    }

pub known_globals : (ds : List GlobalDecl) (w : Walk) → Standing w → (walked_globals w ds).faults ≡ [] → Known w → Known (walked_globals w ds)
known_globals [] w s clean k = k
known_globals (d ∷ ds) w s clean k =
    let u = walked_global d w in
    let here = (globals_pass (d ∷ []) w s).standing in
    known_globals ds u here clean (known_global d w ((globals_pass ds u here).onward.clean clean) k)

-- a struct

alias_clean : (n : ℕ) (o : Option Word) (w : Walk) → (alias_if n o w).faults ≡ [] → w.faults ≡ []
alias_clean n None w clean = clean
alias_clean n (Some a) w clean = by_older (found w.scope.names a.text) clean
  where
    by_older : (o : Option Entry) → (named_by a (record { meaning = meaning.Alias n; depth = 0 }) w o).faults ≡ [] → w.faults ≡ []
    by_older None clean = clean
    by_older (Some older) clean = first_empty w.faults _ clean

row_faults : (n : ℕ) (row : StructRow) (w : Walk) → (with_row n row w).faults ≡ w.faults
row_faults n row w = by_place (nat_lt n (length w.scope.structs))
  where
    by_place : (b : Bool) → (if b then with_scope w (record w.scope { structs = slice_set w.scope.structs n row }) else w).faults ≡ w.faults
    by_place true = refl
    by_place false = refl

body_fields : (tag : Option Word) (c : Body) (alias : Option Word) (w : Walk) → (walked_struct tag (Some c) alias w).faults ≡ [] → AreFields (fields_read tag c w).1
body_fields tag c alias w clean =
    let x = numbered tag w.scope in
    let v = with_scope w x.0 in
    let r = fields_read tag c w in
    let here = alias_clean x.1 alias (body_if tag x.1 (Some c) v) clean in
    fields_are c.fields (noted (row_again (slice_get x.0.structs x.1) tag) v, []) tt (sym (row_faults x.1 (record { fields = r.1; body = Some c.at }) r.0) ∙ here)

struct_fields : (tag : Option Word) (body : Option Body) (alias : Option Word) (w : Walk) → (walked_struct tag body alias w).faults ≡ [] → (b : Body) → body ≡ Some b → AreFields (fields_read tag b w).1
struct_fields tag None alias w clean b is = absurd cc
struct_fields tag (Some c) alias w clean b is =
    let same : c ≡ b = cc in
    subst (λ (x : Body). AreFields (fields_read tag x w).1) same (body_fields tag c alias w clean)

-- from a declaration to the next

pub struct_known : (tag : Option Word) (body : Option Body) (alias : Option Word) (w : Walk) → (walked_struct tag body alias w).faults ≡ [] → Adds is_own HasFields w (walked_struct tag body alias w)
struct_known tag body alias w clean = struct_adds is_own HasFields (length w.funs) (own_from (length w.funs)) tag body alias w (struct_fields tag body alias w clean)

pub heading_known : (h : Head) (body : Bool) (w : Walk) → Adds is_own HasFields w (walked_heading h body w).0
heading_known h body w = heading_adds is_own HasFields (length w.funs) (own_from (length w.funs)) h body w

pub function_known : (h : Head) (b : Block) (w : Walk) → Adds is_own HasFields w (walked_fun h b w)
function_known h b w = function_adds is_own HasFields h b w (own_from (length w.funs))

-- parameters are visible in the body

params_all : (f : ℕ) (ds : List Spec) (w : Walk) (seen : List ℕ) → AllShown w seen → (each (walked_param f) ds w).0.faults ≡ []
    → AllShown (each (walked_param f) ds w).0 (seen ++ (each (walked_param f) ds w).1)
params_all f [] w seen all clean = subst (AllShown w) (sym (append-nil seen)) all
params_all f (d ∷ ds) w seen all clean =
    let h = home.Param f in
    let v = (declared d h 1 w).0 in
    let r = each (walked_param f) ds v in
    let here = (each_grows h (walked_param f) (λ c u. declared_grows c h 1 u) ds v).clean clean in
    subst (AllShown r.0) (append_assoc seen (length w.vars ∷ []) r.1) (params_all f ds v (seen ++ length w.vars ∷ []) (declared_all d h 1 w seen all here) clean)

-- structs with bodies stay

row_onward : (at : ℕ) (w u : Walk) → Onward w u → u.faults ≡ [] → (s : ℕ) (c : StructDef) → is_behind at c.body ≡ true → HasRow w s c → HasRow u s c
row_onward at w u on clean s c behind r = by_body r.row.body refl
  where
    by_body : (o : Option ℕ) → r.row.body ≡ o → HasRow u s c
    by_body (Some b) has = record { row = r.row; is = on.bodies clean s r.row b r.is has; makes = r.makes; places = r.places; types = r.types }
    by_body None has =
        let known : is_behind at None ≡ true = subst (λ (o : Option ℕ). is_behind at o ≡ true) (ap (λ (d : StructDef). d.body) r.makes ∙ has) behind in
        absurd cc

rows_onward : (p : Program) (at : ℕ) (w u : Walk) → Onward w u → u.faults ≡ [] → HasRows p at w → HasRows p at u
rows_onward p at w u on clean rows s c get behind = row_onward at w u on clean s c behind (rows s c get behind)

-- a function of a file, with what is visible before it
pub function_seen : (p : Program) (puts : List Put) (end : Walk) → end.faults ≡ [] → p.vars ≡ end.vars → p.structs ≡ map struct_def end.scope.structs
    → (h : Head) (b c : Block) (w : Walk) → Standing w → Onward (walked_fun h b w) end → (to : ℕ) → naming h.result < to → Later (length w.funs) to w end → Known w → (globals : List ℕ) → AllShown w globals
    → (d : IsRefilledBlock p puts (body_nesting (length w.funs) (headed h b w).1) (with_params h b w).0 b c)
    → have_scope (declarations p) puts (naming h.result) (block_place (inside h b w).1 (globals ++ (with_params h b w).1)) ≡ true → block_seen p puts d
function_seen p puts end clean vars structs h b c w s on to less later k globals all d are =
    let f = length w.funs in
    let at = naming h.result in
    let hd = (headed h b w).0 in
    let ps = with_params h b w in
    let u = (inside h b w).0 in
    let body_clean : u.faults ≡ [] = left_clean h b w (on.clean clean) in
    let params_clean = (inside_grows h b w).clean body_clean in
    let before : Onward w ps.0 = onward_both w hd ps.0 (heading_passes h true w s).onward (grows_onward (home.Param f) hd ps.0 (params_grow h b w)) in
    let rest : Onward u end = onward_both u (walked_fun h b w) end (inside_onward h b w s) on in
    block_scoped p puts at d (globals ++ ps.1)
    (record {
      shown = params_all f h.params hd globals (all_added is_own HasFields w hd (heading_known h true w) globals all) params_clean;
      rows = rows_onward p at w ps.0 before params_clean (rows_here p at to (is_late f to) w end structs less later k.fields);
    })
    (record { clean = body_clean; vars = λ j v is. ap (λ (vs : List VarDef). slice_get vs j) (vars ∙ rest.vars) ∙ get_first u.vars rest.more_vars j v is })
    are
