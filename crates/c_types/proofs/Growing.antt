-- Each part of a block grows the walk: it declares local variables at most, and names structs.
use Rattle.std.proofs.Common.{◌≡◌, ℕ, ◌+◌, ◌<◌, ◌≤◌, ◌==◌, Bool, true, false, ◌&&◌, List, [], ◌∷◌, ◌++◌, length, Option, Some, None, option_map, refl, sym, ap, subst, ◌∙◌, arith, append-nil, length-append}
use Rattle.std.specs.Prelude.{if◌then◌else◌}
use Rattle.std.proofs.lemmas.Bool.{lt-ltb}
use Rattle.c_tree.specs.Typing.{if_any}
use Rattle.c_tree.specs.declared.program.FunDef.{FunDef}
use Rattle.c_tree.specs.declared.program.Home.{Home}
use Rattle.c_tree.specs.declared.program.Home.TheVariants as home
use Rattle.c_tree.specs.declared.program.Ty.{Ty}
use Rattle.c_tree.specs.declared.program.Ty.TheVariants as ty
use Rattle.c_tree.specs.declared.program.VarDef.{VarDef}
use Rattle.c_tree.specs.declared.tree.Base.{Base}
use Rattle.c_tree.specs.declared.tree.Base.TheVariants as base
use Rattle.c_tree.specs.declared.tree.Block.{Block}
use Rattle.c_tree.specs.declared.tree.Call.{Call}
use Rattle.c_tree.specs.declared.tree.Call.TheVariants as call
use Rattle.c_tree.specs.declared.tree.Declr.{Declr}
use Rattle.c_tree.specs.declared.tree.Expr.{Expr}
use Rattle.c_tree.specs.declared.tree.ForHead.{ForHead}
use Rattle.c_tree.specs.declared.tree.Free.{Free}
use Rattle.c_tree.specs.declared.tree.Gap.{Gap}
use Rattle.c_tree.specs.declared.tree.Unit.{Unit as MeasuredUnit}
use Rattle.c_tree.specs.declared.tree.Unit.TheVariants as unit
use Rattle.c_tree.specs.declared.tree.Right.{Right}
use Rattle.c_tree.specs.declared.tree.Right.TheVariants as right
use Rattle.c_tree.specs.declared.tree.Simple.{Simple}
use Rattle.c_tree.specs.declared.tree.Spec.{Spec}
use Rattle.c_tree.specs.declared.tree.Start.{Start}
use Rattle.c_tree.specs.declared.tree.Start.TheVariants as start
use Rattle.c_tree.specs.declared.tree.Word.{Word}
use Rattle.c_types.specs.declared.faults.Fault.{Fault}
use Rattle.c_types.specs.declared.faults.Rule.TheVariants as rule
use Rattle.c_types.specs.declared.judged.Called.{Called}
use Rattle.c_types.specs.declared.judged.Judged.{Judged}
use Rattle.c_types.specs.declared.judged.Judged.TheVariants.{Typed, Broken}
use Rattle.c_types.specs.declared.scope.BaseType.{BaseType}
use Rattle.c_types.specs.declared.scope.BaseType.TheVariants as type
use Rattle.c_types.specs.declared.scope.Entry.{Entry}
use Rattle.c_types.specs.declared.scope.Meaning.{Meaning}
use Rattle.c_types.specs.declared.scope.Meaning.TheVariants as meaning
use Rattle.c_types.specs.declared.scope.Nesting.{Nesting}
use Rattle.c_types.specs.declared.scope.Returned.{Returned}
use Rattle.c_types.specs.declared.scope.StructRow.{StructRow}
use Rattle.c_types.specs.declared.scope.Walk.{Walk}
use Rattle.c_types.specs.declared.scope.Written.{Written}
use Rattle.c_types.specs.declared.scope.Written.TheVariants.{Good, Bad}
use Rattle.c_types.specs.Blocks.{free_of, walked_free, test_of, next_gap, walked_gap, walked_test, within, walked_start, walked_head, walked_block}
use Rattle.c_types.specs.Calls.{cast_of, unit_measured, user_call, counted, walked_call}
use Rattle.c_types.specs.Expressions.{judged}
use Rattle.c_types.specs.Fits.{unless}
use Rattle.c_types.specs.InTurn.{each, optional}
use Rattle.c_types.specs.Scopes.{new_struct, tagged_by, alias_as, alias_by, based, value_type, good_type, written, spec_type, noted, with_scope, with_name, named_by, named_if, or_int, variable_meaning, var_of, with_var, declared, closed, type_faults}
use Rattle.c_types.specs.Statements.{walked_right, assigned, walked_simple, initial, walked_initial, walked_declr, returned_value, bare_return, walked_return, call_item, walked_do}
use Rattle.c_types.specs.Tables.{found}
use Rattle.c_types.proofs.BlockInduction.{Reading, Law, Chain, done, next, blocks_hold}
use Rattle.c_types.proofs.Numbering.{first_empty}
use Rattle.c_types.proofs.NumberingCalls.{second_empty}
use Rattle.c_types.proofs.Rows.{get_last, get_none, get_one, found_first, found_none, found_one, found_either, all_weaker, all_both}
use Rattle.c_types.proofs.Standing.{there, there_more, result_more, type_in, type_more, Means, means_more, fields_there, fields_more, Standing, IsLocal, Grows, grows_all, grows_both, closes}

-- the smallest steps

pub note_grows : (h : Home) (fs : List Fault) (w : Walk) → Grows h w (noted fs w)
note_grows h fs w = record {
  clean = first_empty w.faults fs;
  more_vars = [];
  vars = sym (append-nil w.vars);
  homes = λ k v e. get_none (λ (v : VarDef). v.home ≡ h) k v e;
  more_structs = [];
  structs = sym (append-nil w.scope.structs);
  bodiless = λ k row e. get_none (λ (row : StructRow). row.body ≡ None) k row e;
  tags = λ n k is. is;
  more_names = [];
  names = sym (append-nil w.scope.names);
  locals = λ n e is. found_none (λ (e : Entry). IsLocal e.meaning) n e is;
  definitions = refl;
  signatures = refl;
  funs = refl;
  stands = λ s. record { names = s.names; goods = λ c n e f. s.goods (first_empty w.faults fs c) n e f; tags = s.tags; fields = s.fields; vars = s.vars; results = s.results };
}

number_grows : (h : Home) (w u : Walk) → u ≡ record w { gaps = u.gaps; calls = u.calls } → Grows h w u
number_grows h w u is = subst (Grows h w) (sym is) (record {
  clean = λ e. e;
  more_vars = [];
  vars = sym (append-nil w.vars);
  homes = λ k v e. get_none (λ (v : VarDef). v.home ≡ h) k v e;
  more_structs = [];
  structs = sym (append-nil w.scope.structs);
  bodiless = λ k row e. get_none (λ (row : StructRow). row.body ≡ None) k row e;
  tags = λ n k is. is;
  more_names = [];
  names = sym (append-nil w.scope.names);
  locals = λ n e is. found_none (λ (e : Entry). IsLocal e.meaning) n e is;
  definitions = refl;
  signatures = refl;
  funs = refl;
  stands = λ s. record { names = s.names; goods = s.goods; tags = s.tags; fields = s.fields; vars = s.vars; results = s.results };
})

-- types as they are written

-- a struct more, with these tags
pub struct_more : (h : Home) (tags : List (List ℕ × ℕ)) (w : Walk) → (Standing w → (n : List ℕ) (k : ℕ) → found tags n ≡ Some k → k < length (w.scope.structs ++ new_struct ∷ []))
    → ((n : List ℕ) (k : ℕ) → found w.scope.tags n ≡ Some k → found tags n ≡ Some k) → Grows h w (with_scope w (record w.scope { tags = tags; structs = w.scope.structs ++ new_struct ∷ [] }))
struct_more h tags w known keeps =
    let k = length w.scope.structs in
    let l = length (w.scope.structs ++ new_struct ∷ []) in
    let long : l ≡ k + 1 = length-append w.scope.structs (new_struct ∷ []) in
    let more : k ≤ l = omega arith in
    record {
      clean = λ e. e;
      more_vars = [];
      vars = sym (append-nil w.vars);
      homes = λ k v e. get_none (λ (v : VarDef). v.home ≡ h) k v e;
      more_structs = new_struct ∷ [];
      structs = refl;
      bodiless = λ k row e. get_one (λ (row : StructRow). row.body ≡ None) new_struct refl k row e;
      tags = keeps;
      more_names = [];
      names = sym (append-nil w.scope.names);
      locals = λ n e is. found_none (λ (e : Entry). IsLocal e.meaning) n e is;
      definitions = refl;
      signatures = refl;
      funs = refl;
      stands = λ s. record {
        names = λ m e is.
            subst (λ (xs : List VarDef). Means xs l (length w.signatures) e.meaning) (append-nil w.vars)
            (means_more w.vars [] k l (length w.signatures) (length w.signatures) more (omega arith) e.meaning (s.names m e is));
        goods = s.goods;
        tags = known s;
        fields = all_both (fields_there l) w.scope.structs (new_struct ∷ []) (all_weaker (fields_there k) (fields_there l) (fields_more k l more) w.scope.structs s.fields) refl;
        vars = all_weaker (λ (v : VarDef). there k v.ty) (λ (v : VarDef). there l v.ty) (λ v. there_more k l more v.ty) w.vars s.vars;
        results = all_weaker (λ (d : FunDef). if_any (there k) d.result) (λ (d : FunDef). if_any (there l) d.result) (λ d. result_more k l more d.result) w.funs s.results;
      };
    }

tag_more : (h : Home) (n : Word) (w : Walk) → Grows h w (with_scope w (tagged_by n w.scope None).0)
tag_more h n w =
    let k = length w.scope.structs in
    let l = length (w.scope.structs ++ new_struct ∷ []) in
    let long : l ≡ k + 1 = length-append w.scope.structs (new_struct ∷ []) in
    struct_more h (w.scope.tags ++ (n.text, k) ∷ []) w
    (λ s m. found_either (λ (j : ℕ). j < l) w.scope.tags ((n.text, k) ∷ []) m
    (λ j is. let below : j < k = s.tags m j is in omega arith) (λ j is. found_one (λ (j : ℕ). j < l) (n.text, k) (omega arith) m j is))
    (λ m j is. found_first w.scope.tags ((n.text, k) ∷ []) m j is)

pub tag_grows : (h : Home) (n : Word) (w : Walk) (o : Option ℕ) → Grows h w (with_scope w (tagged_by n w.scope o).0)
tag_grows h n w None = tag_more h n w
tag_grows h n w (Some k) = grows_all h w

pub base_grows : (h : Home) (b : Base) (w : Walk) → Grows h w (with_scope w (based b w.scope).0)
base_grows h base.Void w = grows_all h w
base_grows h base.Int w = grows_all h w
base_grows h (base.Tag n) w = tag_grows h n w (found w.scope.tags n.text)
base_grows h (base.Alias n) w = grows_all h w

pub spec_grows : (h : Home) (d : Spec) (w : Walk) → Grows h w (with_scope w (spec_type d w.scope).0)
spec_grows h d w = base_grows h d.base w

-- the struct that a base names is there
abbrev pub BaseThere : ℕ → BaseType → Type 0
BaseThere n (type.Struct s) = s < n
BaseThere n type.Void = Unit {0}
BaseThere n type.Int = Unit {0}
BaseThere n (type.Bad f) = Unit {0}

alias_there : (n : Word) (w : Walk) (o : Option Entry) → ((e : Entry) → o ≡ Some e → Means w.vars (length w.scope.structs) (length w.signatures) e.meaning) → BaseThere (length w.scope.structs) (alias_by n o)
alias_there n w None means = tt
alias_there n w (Some e) means = by_meaning e.meaning (means e refl)
  where
    by_meaning : (m : Meaning) → Means w.vars (length w.scope.structs) (length w.signatures) m → BaseThere (length w.scope.structs) (alias_as n m)
    by_meaning (meaning.Alias s) h = h
    by_meaning (meaning.Variable k t) h = tt
    by_meaning (meaning.Function k) h = tt
    by_meaning (meaning.Bad f) h = tt

pub tag_there : (n : Word) (w : Walk) (o : Option ℕ) → ((k : ℕ) → o ≡ Some k → k < length w.scope.structs) → (tagged_by n w.scope o).1 < length (tagged_by n w.scope o).0.structs
tag_there n w None known = let long : length (w.scope.structs ++ new_struct ∷ []) ≡ length w.scope.structs + 1 = length-append w.scope.structs (new_struct ∷ []) in omega arith
tag_there n w (Some k) known = known k refl

pub base_there : (b : Base) (w : Walk) → Standing w → BaseThere (length (based b w.scope).0.structs) (based b w.scope).1
base_there base.Void w s = tt
base_there base.Int w s = tt
base_there (base.Tag n) w s = tag_there n w (found w.scope.tags n.text) (s.tags n.text)
base_there (base.Alias n) w s = alias_there n w (found w.scope.names n.text) (s.names n.text)

good_there : (n : ℕ) (d : Spec) (o : Option Ty) → if_any (there n) o ≡ true → there n (or_int (good_type d o)) ≡ true
good_there n d None h = refl
good_there n d (Some t) h = h

int_there : (n stars : ℕ) → if_any (there n) (value_type type.Int stars) ≡ true
int_there n stars = by_stars (stars == 0) (stars == 1)
  where
    by_stars : (a b : Bool) → if_any (there n) (if a then Some ty.Int else if b then Some ty.IntPtr else None) ≡ true
    by_stars true b = refl
    by_stars false true = refl
    by_stars false false = refl

struct_there : (n s stars : ℕ) → s < n → if_any (there n) (value_type (type.Struct s) stars) ≡ true
struct_there n s stars below = by_stars (stars == 1)
  where
    by_stars : (b : Bool) → if_any (there n) (if b then Some (ty.StructPtr s) else None) ≡ true
    by_stars true = lt-ltb s n below
    by_stars false = refl

pub written_there : (n : ℕ) (d : Spec) (b : BaseType) → BaseThere n b → there n (or_int (written d b)) ≡ true
written_there n d type.Void h = refl
written_there n d type.Int h = good_there n d (value_type type.Int d.stars) (int_there n d.stars)
written_there n d (type.Struct s) h = good_there n d (value_type (type.Struct s) d.stars) (struct_there n s d.stars h)
written_there n d (type.Bad f) h = refl

-- a written type names a struct that is there
pub spec_there : (d : Spec) (w : Walk) → Standing w → there (length (spec_type d w.scope).0.structs) (or_int (spec_type d w.scope).1) ≡ true
spec_there d w s = written_there (length (based d.base w.scope).0.structs) d (based d.base w.scope).1 (base_there d.base w s)

-- declarations

-- a variable more, of a type that is there
pub var_stands : (v : VarDef) (w : Walk) → there (length w.scope.structs) v.ty ≡ true → Standing w → Standing (with_var v w)
var_stands v w has s = record {
  names = λ n e is. means_more w.vars (v ∷ []) (length w.scope.structs) (length w.scope.structs) (length w.signatures) (length w.signatures) (omega arith) (omega arith) e.meaning (s.names n e is);
  goods = s.goods;
  tags = s.tags;
  fields = s.fields;
  vars = all_both (λ (v : VarDef). there (length w.scope.structs) v.ty) w.vars (v ∷ []) s.vars (ap (λ (b : Bool). b && true) has);
  results = s.results;
}

-- a variable of a written type more
var_grows : (h : Home) (d : Spec) (w : Walk) → let r = spec_type d w.scope in Grows h w (with_var (var_of d r.1 h) (with_scope w r.0))
var_grows h d w =
    let r = spec_type d w.scope in
    let g = spec_grows h d w in
    record {
      clean = g.clean;
      more_vars = var_of d r.1 h ∷ [];
      vars = refl;
      homes = λ k v e. get_one (λ (v : VarDef). v.home ≡ h) (var_of d r.1 h) refl k v e;
      more_structs = g.more_structs;
      structs = g.structs;
      bodiless = g.bodiless;
      tags = g.tags;
      more_names = g.more_names;
      names = g.names;
      locals = g.locals;
      definitions = g.definitions;
      signatures = g.signatures;
      funs = g.funs;
      stands = λ s. var_stands (var_of d r.1 h) (with_scope w r.0) (spec_there d w s) (g.stands s);
    }

-- a name more, of something that is forgotten at the end of its block
name_more : (h : Home) (n : Word) (e : Entry) (w : Walk) → IsLocal e.meaning → Means w.vars (length w.scope.structs) (length w.signatures) e.meaning → (w.faults ≡ [] → (f : Fault) → e.meaning ≡ meaning.Bad f → ⊥) → Grows h w (with_name n e w)
name_more h n e w local means good = record {
  clean = λ e. e;
  more_vars = [];
  vars = sym (append-nil w.vars);
  homes = λ k v e. get_none (λ (v : VarDef). v.home ≡ h) k v e;
  more_structs = [];
  structs = sym (append-nil w.scope.structs);
  bodiless = λ k row e. get_none (λ (row : StructRow). row.body ≡ None) k row e;
  tags = λ n k is. is;
  more_names = (n.text, e) ∷ [];
  names = refl;
  locals = λ m x is. found_one (λ (x : Entry). IsLocal x.meaning) (n.text, e) local m x is;
  definitions = refl;
  signatures = refl;
  funs = refl;
  stands = λ s. record {
    names = λ m. found_either (λ (x : Entry). Means w.vars (length w.scope.structs) (length w.signatures) x.meaning) w.scope.names ((n.text, e) ∷ []) m
        (s.names m) (λ x is. found_one (λ (x : Entry). Means w.vars (length w.scope.structs) (length w.signatures) x.meaning) (n.text, e) means m x is);
    goods = λ c m x f is. found_either (λ (x : Entry). x.meaning ≡ meaning.Bad f → ⊥) w.scope.names ((n.text, e) ∷ []) m
        (λ x is bad. s.goods c m x f is bad) (λ x is. found_one (λ (x : Entry). x.meaning ≡ meaning.Bad f → ⊥) (n.text, e) (good c f) m x is) x is;
    tags = s.tags;
    fields = s.fields;
    vars = s.vars;
    results = s.results;
  };
}

name_grows : (h : Home) (n : Word) (e : Entry) (w : Walk) (o : Option Entry) → IsLocal e.meaning → Means w.vars (length w.scope.structs) (length w.signatures) e.meaning → (w.faults ≡ [] → (f : Fault) → e.meaning ≡ meaning.Bad f → ⊥) → Grows h w (named_by n e w o)
name_grows h n e w None local means good = name_more h n e w local means good
name_grows h n e w (Some older) local means good = note_grows h _ w

any_name_grows : (h : Home) (d : Spec) (e : Entry) (w : Walk) (o : Option Word) → IsLocal e.meaning → Means w.vars (length w.scope.structs) (length w.signatures) e.meaning → (w.faults ≡ [] → (f : Fault) → e.meaning ≡ meaning.Bad f → ⊥) → Grows h w (named_if d e w o)
any_name_grows h d e w None local means good = note_grows h _ w
any_name_grows h d e w (Some n) local means good = name_grows h n e w (found w.scope.names n.text) local means good

variable_local : (k : ℕ) (t : Written) → IsLocal (variable_meaning k t)
variable_local k (Good t) = tt
variable_local k (Bad f) = tt

variable_means : (d : Spec) (h : Home) (t : Written) (vars : List VarDef) (structs functions : ℕ) → Means (vars ++ var_of d t h ∷ []) structs functions (variable_meaning (length vars) t)
variable_means d h (Good t) vars structs functions = ap (option_map (λ (v : VarDef). v.ty)) (get_last vars (var_of d (Good t) h))
variable_means d h (Bad f) vars structs functions = tt

-- a variable without a type is a fault
variable_good : (k : ℕ) (t : Written) (fs : List Fault) → fs ++ type_faults t ≡ [] → (f : Fault) → variable_meaning k t ≡ meaning.Bad f → ⊥
variable_good k (Good t) fs clean f is = absurd cc
variable_good k (Bad e) fs clean f is = let none : e ∷ [] ≡ [] = second_empty fs (e ∷ []) clean in absurd cc

-- what comes behind a variable's number
pub name_behind_grows : (d : Spec) (h : Home) (depth : ℕ) (w : Walk) → let r = spec_type d w.scope in Grows h (with_var (var_of d r.1 h) (with_scope w r.0)) (declared d h depth w).0
name_behind_grows d h depth w =
    let r = spec_type d w.scope in
    let v = with_var (var_of d r.1 h) (with_scope w r.0) in
    let c = noted (type_faults r.1) v in
    grows_both h v c (declared d h depth w).0 (note_grows h (type_faults r.1) v)
    (any_name_grows h d (record { meaning = variable_meaning (length w.vars) r.1; depth = depth }) c d.name (variable_local (length w.vars) r.1)
    (variable_means d h r.1 w.vars (length c.scope.structs) (length c.signatures)) (variable_good (length w.vars) r.1 w.faults))

pub declared_grows : (d : Spec) (h : Home) (depth : ℕ) (w : Walk) → Grows h w (declared d h depth w).0
declared_grows d h depth w =
    let r = spec_type d w.scope in
    grows_both h w (with_var (var_of d r.1 h) (with_scope w r.0)) (declared d h depth w).0 (var_grows h d w) (name_behind_grows d h depth w)

-- a declared variable has the type that is written
pub declared_type : (d : Spec) (h : Home) (depth : ℕ) (w : Walk) → type_in (declared d h depth w).0.vars (length w.vars) ≡ Some (or_int (spec_type d w.scope).1)
declared_type d h depth w =
    let r = spec_type d w.scope in
    let v = var_of d r.1 h in
    let g = name_behind_grows d h depth w in
    ap (λ (vs : List VarDef). type_in vs (length w.vars)) g.vars
    ∙ type_more (w.vars ++ v ∷ []) g.more_vars (length w.vars) v.ty (ap (option_map (λ (v : VarDef). v.ty)) (get_last w.vars v))

-- calls

counted_grows : (h : Home) (j : Judged Called) (w : Walk) → Grows h w (counted j w)
counted_grows h (Typed c) w = number_grows h w (counted (Typed c) w) refl
counted_grows h (Broken fs) w = grows_all h w

cast_grows : (h : Home) (cast : Option Spec) (w : Walk) → Grows h w (with_scope w (cast_of cast w.scope).0)
cast_grows h None w = grows_all h w
cast_grows h (Some d) w = spec_grows h d w

unit_grows : (h : Home) (u : MeasuredUnit) (at : ℕ) (w : Walk) → Grows h w (with_scope w (unit_measured u at w.scope).0)
unit_grows h (unit.Of d) at w = base_grows h d.base w
unit_grows h (unit.Star x) at w = grows_all h w

pub call_grows : (h : Home) (c : Call) (w : Walk) → Grows h w (walked_call c w).0
call_grows h (call.User n args close) w = counted_grows h (user_call w n args close) w
call_grows h (call.Malloc cast size at) w =
    let v = with_scope w (cast_of cast w.scope).0 in
    grows_both h w v (walked_call (call.Malloc cast size at) w).0 (cast_grows h cast w) (unit_grows h size.unit size.at v)
call_grows h (call.Getchar at) w = grows_all h w
call_grows h (call.Putchar a at) w = grows_all h w
call_grows h (call.Printf text text_at args at close) w = grows_all h w

pub right_grows : (h : Home) (r : Right) (w : Walk) → Grows h w (walked_right r w).0
right_grows h (right.Plain a) w = grows_all h w
right_grows h (right.Call c) w = call_grows h c w

pub simple_grows : (h : Home) (s : Simple) (w : Walk) → Grows h w (walked_simple s w).0
simple_grows h s w =
    let r = walked_right s.right w in
    grows_both h w r.0 (walked_simple s w).0 (right_grows h s.right w) (note_grows h (assigned s (judged w.scope s.place.expr false) r.1).faults r.0)

pub initial_grows : (h : Home) (t : Written) (at : ℕ) (o : Option Right) (w : Walk) → Grows h w (walked_initial t at o w).0
initial_grows h t at None w = grows_all h w
initial_grows h t at (Some r) w =
    let v = walked_right r w in
    grows_both h w v.0 (walked_initial t at (Some r) w).0 (right_grows h r w) (note_grows h (initial t at v.1).faults v.0)

pub declr_grows : (p : Nesting) (d : Declr) (w : Walk) → Grows (home.Local p.function) w (walked_declr p d w).0
declr_grows p d w =
    let h = home.Local p.function in
    let v = declared d.spec h p.depth w in
    grows_both h w v.0 (walked_declr p d w).0 (declared_grows d.spec h p.depth w) (initial_grows h v.1 d.at d.right v.0)

pub do_grows : (h : Home) (c : Call) (w : Walk) → Grows h w (walked_do c w).0
do_grows h c w =
    let r = walked_call c w in
    grows_both h w r.0 (walked_do c w).0 (call_grows h c w) (note_grows h (call_item r.1).faults r.0)

pub return_grows : (h : Home) (t : Returned) (at : ℕ) (o : Option Right) (w : Walk) → Grows h w (walked_return t at o w).0
return_grows h t at None w = note_grows h (bare_return t at) w
return_grows h t at (Some r) w =
    let v = walked_right r w in
    grows_both h w v.0 (walked_return t at (Some r) w).0 (right_grows h r w) (note_grows h (returned_value t at v.1).faults v.0)

-- gaps, tests and heads

pub each_grows : {X Y : Type 0} (h : Home) (f : X → Walk → Walk × Y) → ((x : X) (w : Walk) → Grows h w (f x w).0) → (xs : List X) (w : Walk) → Grows h w (each f xs w).0
each_grows h f one [] w = grows_all h w
each_grows h f one (x ∷ xs) w = grows_both h w (f x w).0 (each f (x ∷ xs) w).0 (one x w) (each_grows h f one xs (f x w).0)

pub any_grows : {X Y : Type 0} (h : Home) (f : X → Walk → Walk × Y) → ((x : X) (w : Walk) → Grows h w (f x w).0) → (o : Option X) (w : Walk) → Grows h w (optional f o w).0
any_grows h f one None w = grows_all h w
any_grows h f one (Some x) w = one x w

pub free_grows : (h : Home) (f : Free) (w : Walk) → Grows h w (walked_free f w).0
free_grows h f w = note_grows h (free_of w.scope f).faults w

pub gap_grows : (h : Home) (g : Gap) (w : Walk) → Grows h w (walked_gap g w).0
gap_grows h g w = grows_both h w (next_gap w).0 (walked_gap g w).0 (number_grows h w (next_gap w).0 refl) (each_grows h walked_free (free_grows h) g.frees (next_gap w).0)

pub test_grows : (h : Home) (e : Expr) (w : Walk) → Grows h w (walked_test e w).0
test_grows h e w = note_grows h (test_of (judged w.scope e true)).faults w

pub start_grows : (p : Nesting) (s : Start) (w : Walk) → Grows (home.Local p.function) w (walked_start p s w).0
start_grows p (start.Declare d) w = declr_grows p d w
start_grows p (start.Assign s) w = simple_grows (home.Local p.function) s w

pub head_grows : (p : Nesting) (h : ForHead) (w : Walk) → Grows (home.Local p.function) w (walked_head p h w).0
head_grows p h w =
    let l = home.Local p.function in
    let r = each (walked_start p) h.start w in
    let t = optional walked_test h.test r.0 in
    grows_both l w r.0 (walked_head p h w).0 (each_grows l (walked_start p) (start_grows p) h.start w)
    (grows_both l r.0 t.0 (walked_head p h w).0 (any_grows l walked_test (test_grows l) h.test r.0) (any_grows l walked_simple (simple_grows l) h.step t.0))

-- blocks

abbrev Growing : Nesting → Walk → Walk → Unit {0} → Type 0
Growing p w u x = Grows (home.Local p.function) w u

abbrev growing : Reading (Unit {0})
growing = record { item = λ x. tt; arm = λ x. tt; block = λ x. tt; piece = λ x. tt; OfItem = Growing; OfArm = Growing; OfBlock = Growing; OfPiece = Growing }

chain_grows : (p : Nesting) (w u : Walk) (xs : List (Unit {0})) → Chain (Growing p) w u xs → Grows (home.Local p.function) w u
chain_grows p w u xs (done v) = grows_all (home.Local p.function) v
chain_grows p w u xs (next v x y z zs one rest) = grows_both (home.Local p.function) v x y one (chain_grows p x y zs rest)

behind_test : (p : Nesting) (e : Expr) (w u : Walk) → Grows (home.Local p.function) (walked_test e w).0 u → Grows (home.Local p.function) w (closed (length w.scope.names) u)
behind_test p e w u g = closes (home.Local p.function) w u (grows_both (home.Local p.function) w (walked_test e w).0 u (test_grows (home.Local p.function) e w) g)

pub growing_law : Law growing
growing_law = record {
  declares = λ p ds w. each_grows (home.Local p.function) (walked_declr p) (declr_grows p) ds w;
  assigns = λ p s w. simple_grows (home.Local p.function) s w;
  calls = λ p c w. do_grows (home.Local p.function) c w;
  nests = λ p w u x g. closes (home.Local p.function) w u g;
  chooses = λ p w u xs c. chain_grows p w u xs c;
  chooses_last = λ p w u v xs x c g. grows_both (home.Local p.function) w u (closed (length u.scope.names) v) (chain_grows p w u xs c) (closes (home.Local p.function) u v g);
  loops = λ p e w u x g. behind_test p e w u g;
  loops_for = λ p h w u x g.
      let l = home.Local p.function in
      let s = walked_head (within p) h w in
      closes l w (closed (length s.0.scope.names) u) (grows_both l w s.0 (closed (length s.0.scope.names) u) (head_grows (within p) h w) (closes l s.0 u g));
  breaks = λ p at w. note_grows (home.Local p.function) (unless p.in_loop rule.Jump at) w;
  continues = λ p at w. note_grows (home.Local p.function) (unless p.in_loop rule.Jump at) w;
  returns = λ p at o w. return_grows (home.Local p.function) p.returns at o w;
  arms = λ p e w u x g. behind_test p e w u g;
  blocks = λ p g braced from to w u xs c. grows_both (home.Local p.function) w u (walked_gap g u).0 (chain_grows p w u xs c) (gap_grows (home.Local p.function) g u);
  pieces = λ p g from to w u x i. grows_both (home.Local p.function) w (walked_gap g w).0 u (gap_grows (home.Local p.function) g w) i;
}

pub block_grows : (b : Block) (p : Nesting) (w : Walk) → Grows (home.Local p.function) w (walked_block b p w).0
block_grows = blocks_hold growing growing_law
