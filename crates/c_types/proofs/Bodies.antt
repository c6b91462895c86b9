-- Where the bodies of structs stand that have come on the way through a file.
use Rattle.std.proofs.Common.{◌≡◌, ℕ, zero, suc, Bool, true, false, List, [], ◌∷◌, ◌++◌, length, flat_map, Option, Some, None, refl, sym, ap, subst, ◌∙◌, append-nil, append_assoc}
use Rattle.std.specs.Prelude.{slice_get, slice_set, nat_lt, if◌then◌else◌}
use Rattle.std.specs.List.{fold}
use Rattle.std.proofs.lemmas.Bool.{and_parts}
use Rattle.std.proofs.lemmas.List.Folds.{list_all-append}
use Rattle.c_tree.specs.declared.program.Home.{Home}
use Rattle.c_tree.specs.declared.program.Home.TheVariants as home
use Rattle.c_tree.specs.declared.tree.Block.{Block}
use Rattle.c_tree.specs.declared.tree.Body.{Body}
use Rattle.c_tree.specs.declared.tree.Expr.{Expr}
use Rattle.c_tree.specs.declared.tree.GlobalDecl.{GlobalDecl}
use Rattle.c_tree.specs.declared.tree.Head.{Head}
use Rattle.c_tree.specs.declared.tree.Top.{Top}
use Rattle.c_tree.specs.declared.tree.Top.TheVariants as top
use Rattle.c_tree.specs.declared.tree.Word.{Word}
use Rattle.c_types.specs.declared.scope.Entry.{Entry}
use Rattle.c_types.specs.declared.scope.Heading.{Heading}
use Rattle.c_types.specs.declared.scope.Heading.TheVariants as heading
use Rattle.c_types.specs.declared.scope.Meaning.{Meaning}
use Rattle.c_types.specs.declared.scope.Meaning.TheVariants as meaning
use Rattle.c_types.specs.declared.scope.Returned.{Returned}
use Rattle.c_types.specs.declared.scope.Returned.TheVariants as returned
use Rattle.c_types.specs.declared.scope.Scope.{Scope}
use Rattle.c_types.specs.declared.scope.Signature.{Signature}
use Rattle.c_types.specs.declared.scope.StructRow.{StructRow}
use Rattle.c_types.specs.declared.scope.Walk.{Walk}
use Rattle.c_types.specs.declared.scope.Written.{Written}
use Rattle.c_types.specs.Functions.{noted_again, marked, with_body, function_as, function_by, main_faults, function_named, walked_heading, with_slot, brace_of, walked_fun, walked_proto}
use Rattle.c_types.specs.Offsets.{bodies_of, is_behind_all, StandsFrom}
use Rattle.c_types.specs.Program.{start, walked_top, walked_from}
use Rattle.c_types.specs.Scopes.{noted, with_scope, named_by, declared}
use Rattle.c_types.specs.Structs.{with_row, row_again, walked_fields, body_if, alias_if, numbered, walked_struct, start_number, start_noted, walked_global}
use Rattle.c_types.specs.Tables.{found}
use Rattle.c_types.proofs.Growing.{declared_grows}
use Rattle.c_types.proofs.Passing.{no_home, types_of, head_types, types_grow, numbered_grows, fields_grow, headed, with_params, inside, left, params_grow, inside_grows}
use Rattle.c_types.proofs.Standing.{Grows}
use Rattle.c_types.proofs.TypedCalls.{row_before}

-- structs with a body were there before
abbrev pub NoBodies : List StructRow → List StructRow → Type 0
NoBodies rows more = (n : ℕ) (row : StructRow) (body : ℕ) → slice_get more n ≡ Some row → row.body ≡ Some body → slice_get rows n ≡ Some row

no_more : (rows : List StructRow) → NoBodies rows rows
no_more rows n row body is b = is

no_both : (xs ys zs : List StructRow) → NoBodies xs ys → NoBodies ys zs → NoBodies xs zs
no_both xs ys zs f g n row body is b = f n row body (g n row body is b) b

grows_none : (h : Home) (w u : Walk) → Grows h w u → NoBodies w.scope.structs u.scope.structs
grows_none h w u g n row body is b =
    row_before w.scope.structs g.more_structs g.bodiless n row body (subst (λ (rows : List StructRow). slice_get rows n ≡ Some row) g.structs is) b

-- functions

marked_structs : (k : ℕ) (o : Option Signature) (w : Walk) → (marked k o w).scope ≡ w.scope
marked_structs k None w = refl
marked_structs k (Some g) w = refl

again_structs : (n : Word) (body : Bool) (h : Heading) (o : Option Signature) (w : Walk) → (noted_again n body h o w).scope ≡ w.scope
again_structs n body h None w = refl
again_structs n body h (Some g) w = refl

come_structs : (body : Bool) (k : ℕ) (w : Walk) → (with_body body k w).scope ≡ w.scope
come_structs true k w = marked_structs k (slice_get w.signatures k) w
come_structs false k w = refl

as_structs : (n : Word) (body : Bool) (h : Heading) (m : Meaning) (w : Walk) → (function_as n body h m w).scope ≡ w.scope
as_structs n body h (meaning.Function k) w = come_structs body k (noted_again n body h (slice_get w.signatures k) w) ∙ again_structs n body h (slice_get w.signatures k) w
as_structs n body h (meaning.Bad f) w = refl
as_structs n body h (meaning.Variable m t) w = refl
as_structs n body h (meaning.Alias s) w = refl

by_structs : (n : Word) (body : Bool) (h : Heading) (o : Option Entry) (w : Walk) → (function_by n body h o w).scope.structs ≡ w.scope.structs
by_structs n body (heading.Bad f) None w = refl
by_structs n body (heading.Good g) None w = refl
by_structs n body h (Some e) w = ap (λ (s : Scope). s.structs) (as_structs n body h e.meaning w)

named_structs : (h : Head) (body : Bool) (t : Heading) (o : Option Word) (w : Walk) → (function_named h body t o w).scope.structs ≡ w.scope.structs
named_structs h body t None w = refl
named_structs h body t (Some n) w = by_structs n body t (found w.scope.names n.text) (noted (main_faults h n) w)

as_before : (xs ys : List StructRow) → ys ≡ xs → NoBodies xs ys
as_before xs ys e = subst (NoBodies xs) (sym e) (no_more xs)

heading_none : (h : Head) (body : Bool) (w : Walk) → NoBodies w.scope.structs (walked_heading h body w).0.scope.structs
heading_none h body w =
    no_both w.scope.structs (head_types h w).scope.structs (walked_heading h body w).0.scope.structs (grows_none no_home w (head_types h w) (types_grow no_home h w))
    (as_before (head_types h w).scope.structs (walked_heading h body w).0.scope.structs (named_structs h body (types_of h w) h.result.name (head_types h w)))

slot_structs : (t : Returned) (f at : ℕ) (w : Walk) → (with_slot t f at w).scope ≡ w.scope
slot_structs returned.Nothing f at w = refl
slot_structs (returned.Value t) f at w = refl
slot_structs (returned.Bad e) f at w = refl

-- behind the parameters of a definition
pub params_none : (h : Head) (body : Block) (w : Walk) → NoBodies w.scope.structs (with_params h body w).0.scope.structs
params_none h body w =
    no_both w.scope.structs (headed h body w).0.scope.structs (with_params h body w).0.scope.structs (heading_none h true w)
    (grows_none (home.Param (length w.funs)) (headed h body w).0 (with_params h body w).0 (params_grow h body w))

definition_none : (h : Head) (body : Block) (w : Walk) → NoBodies w.scope.structs (walked_fun h body w).scope.structs
definition_none h body w =
    no_both w.scope.structs (with_params h body w).0.scope.structs (walked_fun h body w).scope.structs (params_none h body w)
    (no_both (with_params h body w).0.scope.structs (inside h body w).0.scope.structs (walked_fun h body w).scope.structs
    (grows_none (home.Local (length w.funs)) (with_params h body w).0 (inside h body w).0 (inside_grows h body w))
    (as_before (inside h body w).0.scope.structs (walked_fun h body w).scope.structs
    (ap (λ (s : Scope). s.structs) (slot_structs (headed h body w).1 (length w.funs) (brace_of body) (left h body w)))))

-- variables of the file

noted_start : (at : ℕ) (o : Option Expr) (r : Walk × Written) → (start_noted at o r).scope ≡ r.0.scope
noted_start at None r = refl
noted_start at (Some e) r = refl

globals_none : (ds : List GlobalDecl) (w : Walk) → NoBodies w.scope.structs (fold (λ v d. walked_global d v) w ds).scope.structs
globals_none [] w = no_more w.scope.structs
globals_none (d ∷ ds) w =
    let h = home.Global (start_number d.value) in
    let r = declared d.spec h 0 w in
    let u = walked_global d w in
    no_both w.scope.structs u.scope.structs (fold (λ v d. walked_global d v) u ds).scope.structs
    (no_both w.scope.structs r.0.scope.structs u.scope.structs (grows_none h w r.0 (declared_grows d.spec h 0 w))
    (as_before r.0.scope.structs u.scope.structs (ap (λ (s : Scope). s.structs) (noted_start d.at d.value r))))
    (globals_none ds u)

-- where bodies stand

-- what is behind all of these is behind all bodies so far
abbrev pub AreAmong : List ℕ → List StructRow → Type 0
AreAmong bodies rows = (n : ℕ) (row : StructRow) (body at : ℕ) → slice_get rows n ≡ Some row → row.body ≡ Some body → is_behind_all bodies at ≡ true → nat_lt body at ≡ true

among_more : (bodies more : List ℕ) (xs ys : List StructRow) → NoBodies xs ys → AreAmong bodies xs → AreAmong (bodies ++ more) ys
among_more bodies more xs ys none are n row body at is b behind =
    are n row body at (none n row body is b) b
    (and_parts (is_behind_all bodies at) (is_behind_all more at) (sym (list_all-append (λ body. nat_lt body at) bodies more) ∙ behind)).0

-- a struct whose body comes, or another one
set_among : (bodies : List ℕ) (rows : List StructRow) (k : ℕ) (new : StructRow) (b : ℕ) → new.body ≡ Some b → AreAmong bodies rows → AreAmong (bodies ++ b ∷ []) (slice_set rows k new)
set_among bodies rows k new b has are n row body at is r behind =
    let parts = and_parts (is_behind_all bodies at) (is_behind_all (b ∷ []) at) (sym (list_all-append (λ body. nat_lt body at) bodies (b ∷ [])) ∙ behind) in
    let last : nat_lt b at ≡ true = (and_parts (nat_lt b at) true parts.1).0 in
    by_place rows k n row (λ m x y z. are m x y at z) is r parts.0 last
  where
    by_place : (rows : List StructRow) (k n : ℕ) (row : StructRow) → ((m : ℕ) (x : StructRow) (y : ℕ) → slice_get rows m ≡ Some x → x.body ≡ Some y → is_behind_all bodies at ≡ true → nat_lt y at ≡ true)
        → slice_get (slice_set rows k new) n ≡ Some row → row.body ≡ Some body → is_behind_all bodies at ≡ true → nat_lt b at ≡ true → nat_lt body at ≡ true
    by_place [] k n row old is r first last = absurd cc
    by_place (x ∷ rows) zero zero row old is r first last =
        let same : new ≡ row = cc in
        let one : Some b ≡ Some body = sym has ∙ ap (λ (s : StructRow). s.body) same ∙ r in
        let is_it : b ≡ body = cc in
        subst (λ (c : ℕ). nat_lt c at ≡ true) is_it last
    by_place (x ∷ rows) zero (suc n) row old is r first last = old (suc n) row body is r first
    by_place (x ∷ rows) (suc k) zero row old is r first last = old zero row body is r first
    by_place (x ∷ rows) (suc k) (suc n) row old is r first last = by_place rows k n row (λ m y z is. old (suc m) y z is) is r first last

row_among : (bodies : List ℕ) (k : ℕ) (new : StructRow) (b : ℕ) (w : Walk) → new.body ≡ Some b → AreAmong bodies w.scope.structs → AreAmong (bodies ++ b ∷ []) (with_row k new w).scope.structs
row_among bodies k new b w has are = by_test (nat_lt k (length w.scope.structs))
  where
    by_test : (t : Bool) → AreAmong (bodies ++ b ∷ []) (if t then with_scope w (record w.scope { structs = slice_set w.scope.structs k new }) else w).scope.structs
    by_test true = set_among bodies w.scope.structs k new b has are
    by_test false = among_more bodies (b ∷ []) w.scope.structs w.scope.structs (no_more w.scope.structs) are

-- where a body of a declaration stands
abbrev body_at : Option Body → List ℕ
body_at None = []
body_at (Some b) = b.at ∷ []

body_among : (bodies : List ℕ) (tag : Option Word) (k : ℕ) (o : Option Body) (w : Walk) → AreAmong bodies w.scope.structs → AreAmong (bodies ++ body_at o) (body_if tag k o w).scope.structs
body_among bodies tag k None w are = among_more bodies [] w.scope.structs w.scope.structs (no_more w.scope.structs) are
body_among bodies tag k (Some b) w are =
    let u = noted (row_again (slice_get w.scope.structs k) tag) w in
    let r = walked_fields b.fields u in
    let here : AreAmong bodies r.0.scope.structs =
    subst (λ (bs : List ℕ). AreAmong bs r.0.scope.structs) (append-nil bodies) (among_more bodies [] u.scope.structs r.0.scope.structs (grows_none no_home u r.0 (fields_grow no_home b.fields (u, []))) are) in
    row_among bodies k (record { fields = r.1; body = Some b.at }) b.at r.0 refl here

older_structs : (n : Word) (e : Entry) (w : Walk) (o : Option Entry) → (named_by n e w o).scope.structs ≡ w.scope.structs
older_structs n e w None = refl
older_structs n e w (Some older) = refl

alias_structs : (n : ℕ) (o : Option Word) (w : Walk) → (alias_if n o w).scope.structs ≡ w.scope.structs
alias_structs n None w = refl
alias_structs n (Some a) w = older_structs a (record { meaning = meaning.Alias n; depth = 0 }) w (found w.scope.names a.text)

bodies_in : (tag : Option Word) (o : Option Body) (alias : Option Word) → bodies_of (top.Struct tag o alias) ≡ body_at o
bodies_in tag None alias = refl
bodies_in tag (Some b) alias = refl

struct_among : (bodies : List ℕ) (tag : Option Word) (o : Option Body) (alias : Option Word) (w : Walk) → AreAmong bodies w.scope.structs
    → AreAmong (bodies ++ bodies_of (top.Struct tag o alias)) (walked_struct tag o alias w).scope.structs
struct_among bodies tag o alias w are =
    let r = numbered tag w.scope in
    let v = with_scope w r.0 in
    let first : AreAmong bodies v.scope.structs =
    subst (λ (bs : List ℕ). AreAmong bs v.scope.structs) (append-nil bodies) (among_more bodies [] w.scope.structs v.scope.structs (grows_none no_home w v (numbered_grows no_home tag w)) are) in
    let u = body_if tag r.1 o v in
    let second : AreAmong (bodies ++ body_at o) u.scope.structs = body_among bodies tag r.1 o v first in
    subst (λ (bs : List ℕ). AreAmong (bodies ++ bs) (walked_struct tag o alias w).scope.structs) (sym (bodies_in tag o alias))
    (subst (AreAmong (bodies ++ body_at o)) (sym (alias_structs r.1 alias u)) second)

top_among : (bodies : List ℕ) (t : Top) (w : Walk) → AreAmong bodies w.scope.structs → AreAmong (bodies ++ bodies_of t) (walked_top w t).scope.structs
top_among bodies (top.Struct tag body alias) w are = struct_among bodies tag body alias w are
top_among bodies (top.Globals ds) w are = among_more bodies [] w.scope.structs (walked_top w (top.Globals ds)).scope.structs (globals_none ds w) are
top_among bodies (top.Proto h) w are = among_more bodies [] w.scope.structs (walked_proto h w).scope.structs (heading_none h false w) are
top_among bodies (top.Fun h body) w are = among_more bodies [] w.scope.structs (walked_fun h body w).scope.structs (definition_none h body w) are

tops_among : (bodies : List ℕ) (ts : List Top) (w : Walk) → AreAmong bodies w.scope.structs → AreAmong (bodies ++ flat_map bodies_of ts) (walked_from w ts).scope.structs
tops_among bodies [] w are = among_more bodies [] w.scope.structs w.scope.structs (no_more w.scope.structs) are
tops_among bodies (t ∷ ts) w are =
    subst (λ (bs : List ℕ). AreAmong bs (walked_from (walked_top w t) ts).scope.structs) (append_assoc bodies (bodies_of t) (flat_map bodies_of ts))
    (tops_among (bodies ++ bodies_of t) ts (walked_top w t) (top_among bodies t w are))

-- the bodies that have come stand among those of the declarations so far
pub bodies_so_far : (rows : List (List ℕ × ℕ)) (ts : List Top) → AreAmong (flat_map bodies_of ts) (walked_from (start rows) ts).scope.structs
bodies_so_far rows ts = tops_among [] ts (start rows) (λ n row body at is b behind. absurd cc)

-- what a file owes from some place on
pub stands_from : (bodies : List ℕ) (earlier later : List Top) → StandsFrom bodies (earlier ++ later) → StandsFrom (bodies ++ flat_map bodies_of earlier) later
stands_from bodies [] later h = subst (λ (bs : List ℕ). StandsFrom bs later) (sym (append-nil bodies)) h
stands_from bodies (t ∷ earlier) later h =
    subst (λ (bs : List ℕ). StandsFrom bs later) (append_assoc bodies (bodies_of t) (flat_map bodies_of earlier)) (stands_from (bodies ++ bodies_of t) earlier later h.1)
