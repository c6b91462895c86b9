-- What stands behind the heading of a definition without faults: the function's name, and the types of its parameters.
use Rattle.std.proofs.Common.{◌≡◌, ℕ, suc, ◌<◌, Bool, true, false, List, [], ◌∷◌, ◌++◌, length, map, flat_map, get_or, slice_get, Option, Some, None, option_map, refl, sym, ap, subst, ◌∙◌}
use Rattle.std.specs.Prelude.{if◌then◌else◌}
use Rattle.std.specs.Cmp.Lexicographic.{bytes_decides, pointwise}
use Rattle.std.proofs.lemmas.Bool.{and_parts, eqb-true}
use Rattle.std.proofs.lemmas.Option.{slice_get-get_or}
use Rattle.c_tree.specs.AlikeTest.{same_ty, option_alike}
use Rattle.c_tree.specs.declared.program.FunDef.{FunDef}
use Rattle.c_tree.specs.declared.program.Home.TheVariants as home
use Rattle.c_tree.specs.declared.program.Ty.{Ty}
use Rattle.c_tree.specs.declared.program.Ty.TheVariants as ty
use Rattle.c_tree.specs.declared.program.VarDef.{VarDef}
use Rattle.c_tree.specs.declared.tree.Base.{Base}
use Rattle.c_tree.specs.declared.tree.Base.TheVariants as base
use Rattle.c_tree.specs.declared.tree.Head.{Head}
use Rattle.c_tree.specs.declared.tree.Spec.{Spec}
use Rattle.c_tree.specs.declared.tree.Word.{Word}
use Rattle.c_types.specs.declared.faults.Fault.{Fault}
use Rattle.c_types.specs.declared.faults.Rule.{Rule}
use Rattle.c_types.specs.declared.faults.Rule.TheVariants as rule
use Rattle.c_types.specs.declared.scope.BaseType.TheVariants as type
use Rattle.c_types.specs.declared.scope.Entry.{Entry}
use Rattle.c_types.specs.declared.scope.Heading.{Heading}
use Rattle.c_types.specs.declared.scope.Heading.TheVariants as heading
use Rattle.c_types.specs.declared.scope.Meaning.{Meaning}
use Rattle.c_types.specs.declared.scope.Meaning.TheVariants as meaning
use Rattle.c_types.specs.declared.scope.Signature.{Signature}
use Rattle.c_types.specs.declared.scope.Walk.{Walk}
use Rattle.c_types.specs.declared.scope.Written.{Written}
use Rattle.c_types.specs.declared.scope.Written.TheVariants.{Good, Bad}
use Rattle.c_types.specs.Fits.{fault, unless}
use Rattle.c_types.specs.Functions.{result_faults, same_types, entry, new_function, differs, body_again, again_faults, noted_again, marked, with_body, function_as, function_by, main_faults, function_named, walked_heading, walked_param, result_or_none}
use Rattle.c_types.specs.InTurn.{each}
use Rattle.c_types.specs.Scopes.{tagged_by, alias_by, based, written, declared, noted, with_scope, or_int, type_faults, spec_type, result_type}
use Rattle.c_types.specs.Tables.{found, same_name, place_of}
use Rattle.c_types.proofs.Growing.{each_grows, declared_grows, declared_type}
use Rattle.c_types.proofs.Numbering.{first_empty}
use Rattle.c_types.proofs.NumberingCalls.{second_empty}
use Rattle.c_types.proofs.Passing.{no_home, note_passes, by_passes, named_passes, specs_grow, heading_typed, types_of, head_types, types_grow, types_good}
use Rattle.c_types.proofs.Rows.{get_last, get_set_here, found_first}
use Rattle.c_types.proofs.Standing.{type_in, type_more, Means, Standing, Grows, Remembers, remembers_all, remembers_both, grows_remember, Onward}

-- names

same_itself : (n : List ℕ) → same_name n n ≡ true
same_itself n = (bytes_decides n n).1 refl

pub found_last : {A : Type 0} (rows : List (List ℕ × A)) (n : List ℕ) (x : A) → found rows n ≡ None → found (rows ++ (n, x) ∷ []) n ≡ Some x
found_last [] n x h = ap (λ (b : Bool). if b then Some x else None) (same_itself n)
found_last (r ∷ rows) n x h = by_head (same_name n r.0) h (found_last rows n x)
  where
    by_head : (b : Bool) → (if b then Some r.1 else found rows n) ≡ None → (found rows n ≡ None → found (rows ++ (n, x) ∷ []) n ≡ Some x) → (if b then Some r.1 else found (rows ++ (n, x) ∷ []) n) ≡ Some x
    by_head true h rest = absurd cc
    by_head false h rest = rest h

-- the row of a name that was found
pub record HasRow {A : Type 0} (rows : List (List ℕ × A)) (n : List ℕ) (k : ℕ) : Type 0 where
  pub row : List ℕ × A
  pub is : slice_get rows k ≡ Some row
  pub same : n ≡ row.0

pub row_at : {A : Type 0} (rows : List (List ℕ × A)) (n : List ℕ) (k : ℕ) → place_of rows n ≡ Some k → HasRow rows n k
row_at [] n k h = absurd cc
row_at (r ∷ rows) n k h = by_head (same_name n r.0) refl (place_of rows n) h (row_at rows n)
  where
    by_head : (b : Bool) → same_name n r.0 ≡ b → (o : Option ℕ) → (if b then Some 0 else option_map suc o) ≡ Some k → ((j : ℕ) → o ≡ Some j → HasRow rows n j) → HasRow (r ∷ rows) n k
    by_head true e o h rest =
        let first : 0 ≡ k = cc in
        subst (HasRow (r ∷ rows) n) first (record { row = r; is = refl; same = (bytes_decides n r.0).0 e })
    by_head false e None h rest = absurd cc
    by_head false e (Some j) h rest =
        let later : suc j ≡ k = cc in
        let x = rest j refl in
        subst (HasRow (r ∷ rows) n) later (record { row = x.row; is = x.is; same = x.same })

-- the place of a name behind rows without it
pub place_behind : {A : Type 0} (rows : List (List ℕ × A)) (n : List ℕ) (x : A) (more : List (List ℕ × A)) → found rows n ≡ None → place_of (rows ++ (n, x) ∷ more) n ≡ Some (length rows)
place_behind [] n x more h = ap (λ (b : Bool). if b then Some 0 else option_map suc (place_of more n)) (same_itself n)
place_behind (r ∷ rows) n x more h = by_head (same_name n r.0) h (place_behind rows n x more)
  where
    by_head : (b : Bool) → (if b then Some r.1 else found rows n) ≡ None → (found rows n ≡ None → place_of (rows ++ (n, x) ∷ more) n ≡ Some (length rows))
        → (if b then Some 0 else option_map suc (place_of (rows ++ (n, x) ∷ more) n)) ≡ Some (suc (length rows))
    by_head true h rest = absurd cc
    by_head false h rest = ap (option_map suc) (rest h)

-- a name that isn't found stands in no row
pub found_at_row : {A : Type 0} (rows : List (List ℕ × A)) (n : List ℕ) (x : A) → found rows n ≡ Some x → (k : ℕ) × HasRow rows n k
found_at_row [] n x h = absurd cc
found_at_row (r ∷ rows) n x h = by_head (same_name n r.0) refl h (found_at_row rows n x)
  where
    by_head : (b : Bool) → same_name n r.0 ≡ b → (if b then Some r.1 else found rows n) ≡ Some x → (found rows n ≡ Some x → (k : ℕ) × HasRow rows n k) → (k : ℕ) × HasRow (r ∷ rows) n k
    by_head true e h rest = (0, record { row = r; is = refl; same = (bytes_decides n r.0).0 e })
    by_head false e h rest = let x = rest h in (suc x.0, record { row = x.1.row; is = x.1.is; same = x.1.same })

-- types that are alike

same_types_are : (a b : Ty) → same_ty a b ≡ true → a ≡ b
same_types_are ty.Int ty.Int h = refl
same_types_are ty.IntPtr ty.IntPtr h = refl
same_types_are (ty.StructPtr s) (ty.StructPtr t) h = ap ty.StructPtr (eqb-true s t h)
same_types_are _ _ h = absurd cc

same_results_are : (a b : Option Ty) → option_alike same_ty a b ≡ true → a ≡ b
same_results_are None None h = refl
same_results_are (Some a) (Some b) h = ap Some (same_types_are a b h)
same_results_are _ _ h = absurd cc

same_params_are : (xs ys : List Ty) → pointwise same_ty xs ys ≡ true → xs ≡ ys
same_params_are [] [] h = refl
same_params_are (x ∷ xs) (y ∷ ys) h =
    let parts = and_parts (same_ty x y) (pointwise same_ty xs ys) h in
    ap (λ (z : Ty). z ∷ xs) (same_types_are x y parts.0) ∙ ap (λ (zs : List Ty). y ∷ zs) (same_params_are xs ys parts.1)
same_params_are _ _ h = absurd cc

-- functions that are defined

-- a function's name stands for its signature, whose body has come
pub record IsKnown (w : Walk) (d : FunDef) : Type 0 where
  pub entry : Entry
  pub place : ℕ
  pub signature : Signature
  pub named : found w.scope.names d.name ≡ Some entry
  pub means : entry.meaning ≡ meaning.Function place
  pub signed : slice_get w.signatures place ≡ Some signature
  pub come : signature.has_body ≡ true
  pub result : signature.result ≡ d.result
  pub params : map (type_in w.vars) d.params ≡ map Some signature.params

pub types_on : (w u : Walk) → Onward w u → (xs : List ℕ) (ts : List Ty) → map (type_in w.vars) xs ≡ map Some ts → map (type_in u.vars) xs ≡ map Some ts
types_on w u o [] [] h = refl
types_on w u o (x ∷ xs) (t ∷ ts) h =
    let first : type_in w.vars x ≡ Some t = cc in
    let rest : map (type_in w.vars) xs ≡ map Some ts = cc in
    let here : type_in u.vars x ≡ Some t = ap (λ (vs : List VarDef). type_in vs x) o.vars ∙ type_more w.vars o.more_vars x t first in
    ap (λ (a : Option Ty). a ∷ map (type_in u.vars) xs) here ∙ ap (λ (os : List (Option Ty)). Some t ∷ os) (types_on w u o xs ts rest)
types_on w u o [] (t ∷ ts) h = absurd cc
types_on w u o (x ∷ xs) [] h = absurd cc

pub known_on : (w u : Walk) (d : FunDef) → Onward w u → IsKnown w d → IsKnown u d
known_on w u d o k =
    let s = o.signatures k.place k.signature k.signed in
    record {
      entry = k.entry;
      place = k.place;
      signature = s.same;
      named = o.functions d.name k.entry k.place k.named k.means;
      means = k.means;
      signed = s.is;
      come = s.has_body k.come;
      result = s.result ∙ k.result;
      params = types_on w u o d.params k.signature.params k.params ∙ ap (λ (ts : List Ty). map Some ts) (sym s.params);
    }

-- the heading of a definition

-- a name stands for a function with those types, whose body has come
pub record IsHeaded (w : Walk) (n : List ℕ) (result : Option Ty) (params : List Ty) : Type 0 where
  pub entry : Entry
  pub place : ℕ
  pub signature : Signature
  pub named : found w.scope.names n ≡ Some entry
  pub means : entry.meaning ≡ meaning.Function place
  pub signed : slice_get w.signatures place ≡ Some signature
  pub come : signature.has_body ≡ true
  pub result_is : signature.result ≡ result
  pub params_are : signature.params ≡ params

abbrev good : Option Ty → List Ty → Heading
good result params = heading.Good (record { result = result; params = params; has_body = false })

new_headed : (n : Word) (result : Option Ty) (params : List Ty) (w : Walk) → found w.scope.names n.text ≡ None → IsHeaded (new_function n true (good result params) w) n.text result params
new_headed n result params w none = record {
  entry = entry (meaning.Function (length w.signatures));
  place = length w.signatures;
  signature = record { result = result; params = params; has_body = true };
  named = found_last w.scope.names n.text (entry (meaning.Function (length w.signatures))) none;
  means = refl;
  signed = get_last w.signatures (record { result = result; params = params; has_body = true });
  come = refl;
  result_is = refl;
  params_are = refl;
}

pub clean_unless : (b : Bool) (r : Rule) (at : ℕ) → unless b r at ≡ [] → b ≡ true
clean_unless true r at h = refl
clean_unless false r at h = absurd cc

twice_headed : (n : Word) (result : Option Ty) (params : List Ty) (k : ℕ) (e : Entry) (w : Walk) → found w.scope.names n.text ≡ Some e → e.meaning ≡ meaning.Function k
    → (o : Option Signature) → slice_get w.signatures k ≡ o → k < length w.signatures
    → let v = noted_again n true (good result params) o w in (with_body true k v).faults ≡ [] → IsHeaded (with_body true k v) n.text result params
twice_headed n result params k e w named means None is below clean =
    let within = slice_get-get_or w.signatures k (record { result = None; params = []; has_body = false }) below in
    let two : None ≡ Some (get_or w.signatures k (record { result = None; params = []; has_body = false })) = sym is ∙ within in
    absurd cc
twice_headed n result params k e w named means (Some g) is below clean =
    by_mark (slice_get w.signatures k) is clean
  where
    by_mark : (o : Option Signature) → o ≡ Some g → (marked k o (noted (again_faults true (good result params) g n.at) w)).faults ≡ [] → IsHeaded (marked k o (noted (again_faults true (good result params) g n.at) w)) n.text result params
    by_mark None has clean = absurd cc
    by_mark (Some f) has clean =
        let same : f ≡ g = cc in
        let none : again_faults true (good result params) g n.at ≡ [] = second_empty w.faults (again_faults true (good result params) g n.at) clean in
        let alike : same_types (record { result = result; params = params; has_body = false }) g ≡ true =
        clean_unless (same_types (record { result = result; params = params; has_body = false }) g) rule.DeclarationsDiffer n.at (second_empty (body_again true g n.at) (differs (good result params) g n.at) none) in
        let parts = and_parts (option_alike same_ty result g.result) (pointwise same_ty params g.params) alike in
        record {
          entry = e;
          place = k;
          signature = record f { has_body = true };
          named = named;
          means = means;
          signed = get_set_here w.signatures k g (record f { has_body = true }) is;
          come = refl;
          result_is = ap (λ (s : Signature). s.result) same ∙ sym (same_results_are result g.result parts.0);
          params_are = ap (λ (s : Signature). s.params) same ∙ sym (same_params_are params g.params parts.1);
        }

-- a definition's name stands for its function behind its heading
by_headed : (n : Word) (result : Option Ty) (params : List Ty) (w : Walk) → Standing w → (o : Option Entry) → found w.scope.names n.text ≡ o
    → (function_by n true (good result params) o w).faults ≡ [] → IsHeaded (function_by n true (good result params) o w) n.text result params
by_headed n result params w s None is clean = new_headed n result params w is
by_headed n result params w s (Some e) is clean = by_meaning e.meaning refl clean
  where
    by_meaning : (m : Meaning) → e.meaning ≡ m → (function_as n true (good result params) m w).faults ≡ [] → IsHeaded (function_as n true (good result params) m w) n.text result params
    by_meaning (meaning.Function k) m clean =
        let below : k < length w.signatures = subst (Means w.vars (length w.scope.structs) (length w.signatures)) m (s.names n.text e is) in
        twice_headed n result params k e w is m (slice_get w.signatures k) refl below clean
    by_meaning (meaning.Bad f) m clean = absurd (s.goods clean n.text e f is m)
    by_meaning (meaning.Variable k t) m clean = let none : fault rule.Twice n.at ∷ [] ≡ [] = second_empty w.faults (fault rule.Twice n.at ∷ []) clean in absurd cc
    by_meaning (meaning.Alias k) m clean = let none : fault rule.Twice n.at ∷ [] ≡ [] = second_empty w.faults (fault rule.Twice n.at ∷ []) clean in absurd cc

-- a definition without faults has a name, which stands for its function
pub record Heads (h : Head) (u : Walk) (result : Option Ty) (params : List Ty) : Type 0 where
  pub word : Word
  pub named : h.result.name ≡ Some word
  pub no_main_fault : main_faults h word ≡ []
  pub headed : IsHeaded u word.text result params

named_heads : (h : Head) (result : Option Ty) (params : List Ty) (w : Walk) → Standing w → (o : Option Word) → h.result.name ≡ o
    → (function_named h true (good result params) o w).faults ≡ [] → Heads h (function_named h true (good result params) o w) result params
named_heads h result params w s None is clean = let none : fault rule.Nameless h.result.at ∷ [] ≡ [] = second_empty w.faults (fault rule.Nameless h.result.at ∷ []) clean in absurd cc
named_heads h result params w s (Some n) is clean =
    let v = noted (main_faults h n) w in
    let stands = note_passes (main_faults h n) w s in
    let goes = by_passes n true (good result params) (found w.scope.names n.text) v (λ c f e. absurd cc) stands.standing in
    record {
      word = n;
      named = is;
      no_main_fault = second_empty w.faults (main_faults h n) (goes.onward.clean clean);
      headed = by_headed n result params v stands.standing (found v.scope.names n.text) refl clean;
    }

pub definition_heads : (h : Head) (w : Walk) → Standing w → (walked_heading h true w).0.faults ≡ [] →
    let r = result_type h.result w.scope in
    Heads h (walked_heading h true w).0 (result_or_none (walked_heading h true w).1) (map or_int (each spec_type h.params r.0).1)
definition_heads h w s clean =
    let r = result_type h.result w.scope in
    let ps = each spec_type h.params r.0 in
    let v = head_types h w in
    let stands = (types_grow no_home h w).stands s in
    let named = named_passes h true (types_of h w) h.result.name v (types_good h w) stands in
    let typed = heading_typed r.1 ps.1 (second_empty w.faults (result_faults r.1 ++ flat_map type_faults ps.1) (named.onward.clean clean)) in
    let moved : (function_named h true (good (result_or_none r.1) (map or_int ps.1)) h.result.name v).faults ≡ [] = ap (λ (t : Heading). (function_named h true t h.result.name v).faults) (sym typed) ∙ clean in
    subst (λ (t : Heading). Heads h (function_named h true t h.result.name v) (result_or_none r.1) (map or_int ps.1)) (sym typed)
    (named_heads h (result_or_none r.1) (map or_int ps.1) v stands h.result.name refl moved)

-- the types of parameters

-- a heading remembers
mark_remembers : (k : ℕ) (o : Option Signature) (w : Walk) → Remembers w (marked k o w)
mark_remembers k None w = remembers_all w
mark_remembers k (Some g) w = record { names = λ n e is. is; tags = λ n j is. is }

note_remembers : (fs : List Fault) (w : Walk) → Remembers w (noted fs w)
note_remembers fs w = record { names = λ n e is. is; tags = λ n j is. is }

new_remembers : (n : Word) (body : Bool) (h : Heading) (w : Walk) → Remembers w (new_function n body h w)
new_remembers n body (heading.Bad f) w = record { names = λ m e is. found_first w.scope.names _ m e is; tags = λ m j is. is }
new_remembers n body (heading.Good g) w = record { names = λ m e is. found_first w.scope.names _ m e is; tags = λ m j is. is }

again_remembers : (n : Word) (body : Bool) (h : Heading) (o : Option Signature) (w : Walk) → Remembers w (noted_again n body h o w)
again_remembers n body h None w = remembers_all w
again_remembers n body h (Some g) w = note_remembers (again_faults body h g n.at) w

come_remembers : (body : Bool) (k : ℕ) (w : Walk) → Remembers w (with_body body k w)
come_remembers true k w = mark_remembers k (slice_get w.signatures k) w
come_remembers false k w = remembers_all w

as_remembers : (n : Word) (body : Bool) (h : Heading) (m : Meaning) (w : Walk) → Remembers w (function_as n body h m w)
as_remembers n body h (meaning.Function k) w =
    let v = noted_again n body h (slice_get w.signatures k) w in
    remembers_both w v (with_body body k v) (again_remembers n body h (slice_get w.signatures k) w) (come_remembers body k v)
as_remembers n body h (meaning.Bad f) w = remembers_all w
as_remembers n body h (meaning.Variable m t) w = note_remembers _ w
as_remembers n body h (meaning.Alias s) w = note_remembers _ w

by_remembers : (n : Word) (body : Bool) (h : Heading) (o : Option Entry) (w : Walk) → Remembers w (function_by n body h o w)
by_remembers n body h None w = new_remembers n body h w
by_remembers n body h (Some e) w = as_remembers n body h e.meaning w

pub name_remembers : (h : Head) (body : Bool) (t : Heading) (o : Option Word) (w : Walk) → Remembers w (function_named h body t o w)
name_remembers h body t None w = note_remembers _ w
name_remembers h body t (Some n) w =
    let v = noted (main_faults h n) w in
    remembers_both w v (function_named h body t (Some n) w) (note_remembers (main_faults h n) w) (by_remembers n body t (found w.scope.names n.text) v)

-- a type that was read is read again where what was visible is remembered
tagged_again : (n : Word) (w v : Walk) (o : Option ℕ) → found w.scope.tags n.text ≡ o → ((k : ℕ) → found (tagged_by n w.scope o).0.tags n.text ≡ Some k → found v.scope.tags n.text ≡ Some k)
    → found v.scope.tags n.text ≡ Some (tagged_by n w.scope o).1
tagged_again n w v (Some k) is keeps = keeps k is
tagged_again n w v None is keeps = keeps (length w.scope.structs) (found_last w.scope.tags n.text (length w.scope.structs) is)

alias_again : (d : Spec) (n : Word) (w v : Walk) (o : Option Entry) → found w.scope.names n.text ≡ o → ((e : Entry) → found w.scope.names n.text ≡ Some e → found v.scope.names n.text ≡ Some e)
    → (t : Ty) → written d (alias_by n o) ≡ Good t → alias_by n (found v.scope.names n.text) ≡ alias_by n o
alias_again d n w v None is keeps t good = absurd cc
alias_again d n w v (Some e) is keeps t good = ap (alias_by n) (keeps e is)

based_again : (d : Spec) (b : Base) (w v : Walk) → Remembers (with_scope w (based b w.scope).0) v → (t : Ty) → written d (based b w.scope).1 ≡ Good t → (based b v.scope).1 ≡ (based b w.scope).1
based_again d base.Void w v m t good = refl
based_again d base.Int w v m t good = refl
based_again d (base.Tag n) w v m t good =
    let again = tagged_again n w v (found w.scope.tags n.text) refl (m.tags n.text) in
    ap (λ (o : Option ℕ). type.Struct (tagged_by n v.scope o).1) again
based_again d (base.Alias n) w v m t good = alias_again d n w v (found w.scope.names n.text) refl (m.names n.text) t good

spec_again : (d : Spec) (w v : Walk) → Remembers (with_scope w (spec_type d w.scope).0) v → (t : Ty) → (spec_type d w.scope).1 ≡ Good t → (spec_type d v.scope).1 ≡ Good t
spec_again d w v m t good = ap (written d) (based_again d d.base w v m t good) ∙ good

-- a type without a fault is good
is_good : (t : Written) → type_faults t ≡ [] → t ≡ Good (or_int t)
is_good (Good t) h = refl
is_good (Bad f) h = absurd cc

params_grow_on : (f : ℕ) (ds : List Spec) (v : Walk) → Grows (home.Param f) v (each (walked_param f) ds v).0
params_grow_on f ds v = each_grows (home.Param f) (walked_param f) (λ d u. declared_grows d (home.Param f) 1 u) ds v

pub param_types : (f : ℕ) (ds : List Spec) (w v : Walk) → let ts = each spec_type ds w.scope in flat_map type_faults ts.1 ≡ [] → Remembers (with_scope w ts.0) v
    → let ps = each (walked_param f) ds v in map (type_in ps.0.vars) ps.1 ≡ map Some (map or_int ts.1)
param_types f [] w v clean m = refl
param_types f (d ∷ ds) w v clean m =
    let r = spec_type d w.scope in
    let u = with_scope w r.0 in
    let ts = each spec_type ds r.0 in
    let x = (declared d (home.Param f) 1 v).0 in
    let ps = each (walked_param f) ds x in
    let g = declared_grows d (home.Param f) 1 v in
    let l = params_grow_on f ds x in
    let h = no_home in
    let onward = grows_remember h u (with_scope u ts.0) (specs_grow h ds u) in
    let good : r.1 ≡ Good (or_int r.1) = is_good r.1 (first_empty (type_faults r.1) (flat_map type_faults ts.1) clean) in
    let again : (spec_type d v.scope).1 ≡ Good (or_int r.1) = spec_again d w v (remembers_both u (with_scope u ts.0) v onward m) (or_int r.1) good in
    let first : type_in x.vars (length v.vars) ≡ Some (or_int r.1) = declared_type d (home.Param f) 1 v ∙ ap (λ (t : Written). Some (or_int t)) again in
    let here : type_in ps.0.vars (length v.vars) ≡ Some (or_int r.1) = ap (λ (vs : List VarDef). type_in vs (length v.vars)) l.vars ∙ type_more x.vars l.more_vars (length v.vars) (or_int r.1) first in
    ap (λ (o : Option Ty). o ∷ map (type_in ps.0.vars) ps.1) here
    ∙ ap (λ (os : List (Option Ty)). Some (or_int r.1) ∷ os)
    (param_types f ds u x (second_empty (type_faults r.1) (flat_map type_faults ts.1) clean) (remembers_both (with_scope u ts.0) v x m (grows_remember (home.Param f) v x g)))
