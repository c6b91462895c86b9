-- What the names at a place of the text stand for, and what a walk keeps of it on its way.
use Rattle.std.proofs.Common.{◌≡◌, ℕ, ◌+◌, ◌<◌, ◌≤◌, Bool, true, List, [], ◌++◌, length, take, slice_get, Option, Some, None, option_map, refl, sym, ap, subst, ◌∙◌, arith, append-nil, append_assoc, length-append}
use Rattle.std.specs.Prelude.{nat_lt}
use Rattle.std.specs.List.{list_all}
use Rattle.std.proofs.Math.Seq.{take-append_seam}
use Rattle.std.proofs.lemmas.Bool.{ltb-true, lt-ltb}
use Rattle.c_tree.specs.Typing.{if_any}
use Rattle.c_tree.specs.declared.program.FunDef.{FunDef}
use Rattle.c_tree.specs.declared.program.Home.{Home}
use Rattle.c_tree.specs.declared.program.Ty.{Ty}
use Rattle.c_tree.specs.declared.program.Ty.TheVariants as ty
use Rattle.c_tree.specs.declared.program.VarDef.{VarDef}
use Rattle.c_types.specs.declared.faults.Fault.{Fault}
use Rattle.c_types.specs.declared.scope.Entry.{Entry}
use Rattle.c_types.specs.declared.scope.Meaning.{Meaning}
use Rattle.c_types.specs.declared.scope.Meaning.TheVariants as meaning
use Rattle.c_types.specs.declared.scope.Signature.{Signature}
use Rattle.c_types.specs.declared.scope.StructRow.{StructRow}
use Rattle.c_types.specs.declared.scope.Walk.{Walk}
use Rattle.c_types.specs.declared.scope.Written.{Written}
use Rattle.c_types.specs.Scopes.{or_int, closed}
use Rattle.c_types.specs.Tables.{found}
use Rattle.c_types.proofs.Rows.{get_first, get_none, get_either, found_first, found_none, found_either, all_weaker}

-- the struct that a type names is among the first n
abbrev pub there : ℕ → Ty → Bool
there n ty.Int = true
there n ty.IntPtr = true
there n (ty.StructPtr s) = nat_lt s n

-- the type of a variable, by its number
abbrev pub type_in : List VarDef → ℕ → Option Ty
type_in vars k = option_map (λ (v : VarDef). v.ty) (slice_get vars k)

-- among these variables and so many structs and functions, a name stands for a variable of its type, a struct or a function
abbrev pub Means : List VarDef → ℕ → ℕ → Meaning → Type 0
Means vars structs functions (meaning.Variable k t) = type_in vars k ≡ Some t
Means vars structs functions (meaning.Alias s) = s < structs
Means vars structs functions (meaning.Function k) = k < functions
Means vars structs functions (meaning.Bad f) = Unit {0}

abbrev pub fields_there : ℕ → StructRow → Bool
fields_there n row = list_all (λ (f : List ℕ × Written). there n (or_int f.1)) row.fields

-- what holds at each place of a text: names, tags and types lead to what is there
pub record Standing (w : Walk) : Type 0 where
  pub names : (n : List ℕ) (e : Entry) → found w.scope.names n ≡ Some e → Means w.vars (length w.scope.structs) (length w.signatures) e.meaning
  -- where no rule is broken, a name stands for something
  pub goods : w.faults ≡ [] → (n : List ℕ) (e : Entry) (f : Fault) → found w.scope.names n ≡ Some e → e.meaning ≡ meaning.Bad f → ⊥
  pub tags : (n : List ℕ) (k : ℕ) → found w.scope.tags n ≡ Some k → k < length w.scope.structs
  pub fields : list_all (fields_there (length w.scope.structs)) w.scope.structs ≡ true
  pub vars : list_all (λ (v : VarDef). there (length w.scope.structs) v.ty) w.vars ≡ true
  pub results : list_all (λ (d : FunDef). if_any (there (length w.scope.structs)) d.result) w.funs ≡ true

-- a name that is forgotten at the end of a block
abbrev pub IsLocal : Meaning → Type 0
IsLocal (meaning.Variable k t) = Unit {0}
IsLocal (meaning.Bad f) = Unit {0}
IsLocal (meaning.Alias s) = ⊥
IsLocal (meaning.Function k) = ⊥

-- from one walk to another only variables with that home are declared, and structs named
pub record Grows (h : Home) (w u : Walk) : Type 0 where
  pub clean : u.faults ≡ [] → w.faults ≡ []
  pub more_vars : List VarDef
  pub vars : u.vars ≡ w.vars ++ more_vars
  pub homes : (k : ℕ) (v : VarDef) → slice_get more_vars k ≡ Some v → v.home ≡ h
  pub more_structs : List StructRow
  pub structs : u.scope.structs ≡ w.scope.structs ++ more_structs
  pub bodiless : (k : ℕ) (row : StructRow) → slice_get more_structs k ≡ Some row → row.body ≡ None
  pub tags : (n : List ℕ) (k : ℕ) → found w.scope.tags n ≡ Some k → found u.scope.tags n ≡ Some k
  pub more_names : List (List ℕ × Entry)
  pub names : u.scope.names ≡ w.scope.names ++ more_names
  pub locals : (n : List ℕ) (e : Entry) → found more_names n ≡ Some e → IsLocal e.meaning
  pub definitions : u.definitions ≡ w.definitions
  pub signatures : u.signatures ≡ w.signatures
  pub funs : u.funs ≡ w.funs
  pub stands : Standing w → Standing u

-- a function is declared with the types of that one
pub record HasTypes (g : Signature) (o : Option Signature) : Type 0 where
  pub same : Signature
  pub is : o ≡ Some same
  pub result : same.result ≡ g.result
  pub params : same.params ≡ g.params
  pub has_body : g.has_body ≡ true → same.has_body ≡ true

-- from one place of a text to a later one, be the names of blocks forgotten between them
pub record Onward (w u : Walk) : Type 0 where
  pub clean : u.faults ≡ [] → w.faults ≡ []
  pub more_vars : List VarDef
  pub vars : u.vars ≡ w.vars ++ more_vars
  pub structs : length w.scope.structs ≤ length u.scope.structs
  -- where no rule is broken, a body that has come stays
  pub bodies : u.faults ≡ [] → (n : ℕ) (row : StructRow) (at : ℕ) → slice_get w.scope.structs n ≡ Some row → row.body ≡ Some at → slice_get u.scope.structs n ≡ Some row
  pub definitions : u.definitions ≡ w.definitions
  pub signatures : (k : ℕ) (g : Signature) → slice_get w.signatures k ≡ Some g → HasTypes g (slice_get u.signatures k)
  pub functions : (n : List ℕ) (e : Entry) (k : ℕ) → found w.scope.names n ≡ Some e → e.meaning ≡ meaning.Function k → found u.scope.names n ≡ Some e

-- more of everything

pub there_more : (m n : ℕ) → m ≤ n → (t : Ty) → there m t ≡ true → there n t ≡ true
there_more m n more ty.Int h = refl
there_more m n more ty.IntPtr h = refl
there_more m n more (ty.StructPtr s) h = let below : s < m = ltb-true s m h in lt-ltb s n (omega arith)

pub result_more : (m n : ℕ) → m ≤ n → (o : Option Ty) → if_any (there m) o ≡ true → if_any (there n) o ≡ true
result_more m n more None h = refl
result_more m n more (Some t) h = there_more m n more t h

pub type_more : (xs ys : List VarDef) (k : ℕ) (t : Ty) → type_in xs k ≡ Some t → type_in (xs ++ ys) k ≡ Some t
type_more xs ys k t h = by_var (slice_get xs k) h (get_first xs ys k)
  where
    by_var : (o : Option VarDef) → option_map (λ (v : VarDef). v.ty) o ≡ Some t → ((v : VarDef) → o ≡ Some v → slice_get (xs ++ ys) k ≡ Some v) → type_in (xs ++ ys) k ≡ Some t
    by_var None h next = absurd cc
    by_var (Some v) h next = ap (option_map (λ (v : VarDef). v.ty)) (next v refl) ∙ h

pub means_more : (vars more : List VarDef) (s t f g : ℕ) → s ≤ t → f ≤ g → (m : Meaning) → Means vars s f m → Means (vars ++ more) t g m
means_more vars more s t f g le lf (meaning.Variable k u) h = type_more vars more k u h
means_more vars more s t f g le lf (meaning.Alias n) h = let below : n < s = h in omega arith
means_more vars more s t f g le lf (meaning.Function k) h = let below : k < f = h in omega arith
means_more vars more s t f g le lf (meaning.Bad e) h = tt

pub fields_more : (m n : ℕ) → m ≤ n → (row : StructRow) → fields_there m row ≡ true → fields_there n row ≡ true
fields_more m n more row = all_weaker (λ (f : List ℕ × Written). there m (or_int f.1)) (λ (f : List ℕ × Written). there n (or_int f.1)) (λ f. there_more m n more (or_int f.1)) row.fields

-- growing, step by step

pub grows_all : (h : Home) (w : Walk) → Grows h w w
grows_all h w = record {
  clean = λ e. e;
  more_vars = [];
  vars = sym (append-nil w.vars);
  homes = λ k v e. get_none (λ (v : VarDef). v.home ≡ h) k v e;
  more_structs = [];
  structs = sym (append-nil w.scope.structs);
  bodiless = λ k row e. get_none (λ (row : StructRow). row.body ≡ None) k row e;
  tags = λ n k is. is;
  more_names = [];
  names = sym (append-nil w.scope.names);
  locals = λ n e is. found_none (λ (e : Entry). IsLocal e.meaning) n e is;
  definitions = refl;
  signatures = refl;
  funs = refl;
  stands = λ s. s;
}

pub grows_both : (h : Home) (w u v : Walk) → Grows h w u → Grows h u v → Grows h w v
grows_both h w u v f g = record {
  clean = λ e. f.clean (g.clean e);
  more_vars = f.more_vars ++ g.more_vars;
  vars = g.vars ∙ ap (λ (xs : List VarDef). xs ++ g.more_vars) f.vars ∙ append_assoc w.vars f.more_vars g.more_vars;
  homes = λ k x e. get_either (λ (x : VarDef). x.home ≡ h) f.more_vars g.more_vars f.homes g.homes k x e;
  more_structs = f.more_structs ++ g.more_structs;
  structs = g.structs ∙ ap (λ (xs : List StructRow). xs ++ g.more_structs) f.structs ∙ append_assoc w.scope.structs f.more_structs g.more_structs;
  bodiless = λ k row e. get_either (λ (row : StructRow). row.body ≡ None) f.more_structs g.more_structs f.bodiless g.bodiless k row e;
  tags = λ n k is. g.tags n k (f.tags n k is);
  more_names = f.more_names ++ g.more_names;
  names = g.names ∙ ap (λ (xs : List (List ℕ × Entry)). xs ++ g.more_names) f.names ∙ append_assoc w.scope.names f.more_names g.more_names;
  locals = λ n. found_either (λ (e : Entry). IsLocal e.meaning) f.more_names g.more_names n (f.locals n) (g.locals n);
  definitions = g.definitions ∙ f.definitions;
  signatures = g.signatures ∙ f.signatures;
  funs = g.funs ∙ f.funs;
  stands = λ s. g.stands (f.stands s);
}

-- the names of a block are forgotten at its end

module _ (w u : Walk) (more : List (List ℕ × Entry)) (names : u.scope.names ≡ w.scope.names ++ more) where
  pub left_names : (closed (length w.scope.names) u).scope.names ≡ w.scope.names
  left_names = ap (take (length w.scope.names)) names ∙ take-append_seam w.scope.names more

  still_found : (n : List ℕ) (e : Entry) → found (closed (length w.scope.names) u).scope.names n ≡ Some e → found u.scope.names n ≡ Some e
  still_found n e is =
      ap (λ (xs : List (List ℕ × Entry)). found xs n) names
      ∙ found_first w.scope.names more n e (sym (ap (λ (xs : List (List ℕ × Entry)). found xs n) left_names) ∙ is)

  pub closed_stands : Standing u → Standing (closed (length w.scope.names) u)
  closed_stands t = record {
    names = λ n e is. t.names n e (still_found n e is);
    goods = λ c n e f is. t.goods c n e f (still_found n e is);
    tags = t.tags;
    fields = t.fields;
    vars = t.vars;
    results = t.results;
  }

pub closes : (h : Home) (w u : Walk) → Grows h w u → Grows h w (closed (length w.scope.names) u)
closes h w u g = record {
  clean = g.clean;
  more_vars = g.more_vars;
  vars = g.vars;
  homes = g.homes;
  more_structs = g.more_structs;
  structs = g.structs;
  bodiless = g.bodiless;
  tags = g.tags;
  more_names = [];
  names = left_names w u g.more_names g.names ∙ sym (append-nil w.scope.names);
  locals = λ n e is. found_none (λ (e : Entry). IsLocal e.meaning) n e is;
  definitions = g.definitions;
  signatures = g.signatures;
  funs = g.funs;
  stands = λ s. closed_stands w u g.more_names g.names (g.stands s);
}

-- going on

pub onward_all : (w : Walk) → Onward w w
onward_all w = record {
  clean = λ e. e;
  more_vars = [];
  vars = sym (append-nil w.vars);
  structs = omega arith;
  bodies = λ e n row at is has. is;
  definitions = refl;
  signatures = λ k g is. record { same = g; is = is; result = refl; params = refl; has_body = λ b. b };
  functions = λ n e k is means. is;
}

pub onward_both : (w u v : Walk) → Onward w u → Onward u v → Onward w v
onward_both w u v f g = record {
  clean = λ e. f.clean (g.clean e);
  more_vars = f.more_vars ++ g.more_vars;
  vars = g.vars ∙ ap (λ (xs : List VarDef). xs ++ g.more_vars) f.vars ∙ append_assoc w.vars f.more_vars g.more_vars;
  structs = let first : length w.scope.structs ≤ length u.scope.structs = f.structs in let second : length u.scope.structs ≤ length v.scope.structs = g.structs in omega arith;
  bodies = λ e n row at is has. g.bodies e n row at (f.bodies (g.clean e) n row at is has) has;
  definitions = g.definitions ∙ f.definitions;
  signatures = λ k s is.
      let a = f.signatures k s is in
      let b = g.signatures k a.same a.is in
      record { same = b.same; is = b.is; result = b.result ∙ a.result; params = b.params ∙ a.params; has_body = λ e. b.has_body (a.has_body e) };
  functions = λ n e k is means. g.functions n e k (f.functions n e k is means) means;
}

pub grows_onward : (h : Home) (w u : Walk) → Grows h w u → Onward w u
grows_onward h w u g = record {
  clean = g.clean;
  more_vars = g.more_vars;
  vars = g.vars;
  structs =
      let long : length u.scope.structs ≡ length w.scope.structs + length g.more_structs = ap (λ (xs : List StructRow). length xs) g.structs ∙ length-append w.scope.structs g.more_structs in
      omega arith;
  bodies = λ e n row at is has. ap (λ (xs : List StructRow). slice_get xs n) g.structs ∙ get_first w.scope.structs g.more_structs n row is;
  definitions = g.definitions;
  signatures = λ k s is. record { same = s; is = ap (λ (xs : List Signature). slice_get xs k) g.signatures ∙ is; result = refl; params = refl; has_body = λ b. b };
  functions = λ n e k is means. ap (λ (xs : List (List ℕ × Entry)). found xs n) g.names ∙ found_first w.scope.names g.more_names n e is;
}

-- no function is local
never_local : (k : ℕ) (m : Meaning) → m ≡ meaning.Function k → IsLocal m → ⊥
never_local k m is local = subst IsLocal is local

pub closed_onward : (w u : Walk) (more : List (List ℕ × Entry)) → u.scope.names ≡ w.scope.names ++ more → ((n : List ℕ) (e : Entry) → found more n ≡ Some e → IsLocal e.meaning)
    → Onward u (closed (length w.scope.names) u)
closed_onward w u more names locals = record {
  clean = λ e. e;
  more_vars = [];
  vars = sym (append-nil u.vars);
  structs = omega arith;
  bodies = λ e n row at is has. is;
  definitions = refl;
  signatures = λ k s is. record { same = s; is = is; result = refl; params = refl; has_body = λ b. b };
  functions = λ n e k is means.
      ap (λ (xs : List (List ℕ × Entry)). found xs n) (left_names w u more names)
      ∙ found_either (λ (e : Entry). e.meaning ≡ meaning.Function k → found w.scope.names n ≡ Some e) w.scope.names more n
      (λ e h m. h) (λ e h m. absurd (never_local k e.meaning m (locals n e h))) e
      (sym (ap (λ (xs : List (List ℕ × Entry)). found xs n) names) ∙ is) means;
}

pub closes_onward : (h : Home) (w u : Walk) → Grows h w u → Onward u (closed (length w.scope.names) u)
closes_onward h w u g = closed_onward w u g.more_names g.names g.locals

-- remembering

-- what a name or a tag stands for at one place it stands for at a later one
pub record Remembers (w u : Walk) : Type 0 where
  pub names : (n : List ℕ) (e : Entry) → found w.scope.names n ≡ Some e → found u.scope.names n ≡ Some e
  pub tags : (n : List ℕ) (k : ℕ) → found w.scope.tags n ≡ Some k → found u.scope.tags n ≡ Some k

pub remembers_all : (w : Walk) → Remembers w w
remembers_all w = record { names = λ n e is. is; tags = λ n k is. is }

pub remembers_both : (w u v : Walk) → Remembers w u → Remembers u v → Remembers w v
remembers_both w u v f g = record { names = λ n e is. g.names n e (f.names n e is); tags = λ n k is. g.tags n k (f.tags n k is) }

pub grows_remember : (h : Home) (w u : Walk) → Grows h w u → Remembers w u
grows_remember h w u g = record {
  names = λ n e is. ap (λ (xs : List (List ℕ × Entry)). found xs n) g.names ∙ found_first w.scope.names g.more_names n e is;
  tags = g.tags;
}
