-- What the declarations of a file add to a walk: variables behind those so far, bodies of structs, and names.
use Rattle.std.proofs.Common.{◌≡◌, ℕ, Bool, true, false, ◌&&◌, nat_lt, List, [], ◌∷◌, ◌++◌, length, slice_get, Option, Some, None, refl, sym, ap, subst, ◌∙◌, arith, append-nil, append_assoc}
use Rattle.std.specs.Prelude.{zero, suc, slice_set, if◌then◌else◌}
use Rattle.std.specs.List.{list_all}
use Rattle.std.proofs.lemmas.Bool.{le-leb}
use Rattle.c_tree.specs.declared.program.Home.{Home}
use Rattle.c_tree.specs.declared.program.Home.TheVariants as home
use Rattle.c_tree.specs.declared.program.VarDef.{VarDef}
use Rattle.c_tree.specs.declared.tree.Block.{Block}
use Rattle.c_tree.specs.declared.tree.Body.{Body}
use Rattle.c_tree.specs.declared.tree.Expr.{Expr}
use Rattle.c_tree.specs.declared.tree.GlobalDecl.{GlobalDecl}
use Rattle.c_tree.specs.declared.tree.Head.{Head}
use Rattle.c_tree.specs.declared.tree.Word.{Word}
use Rattle.c_scopes.specs.ScopeAt.{is_from}
use Rattle.c_types.specs.declared.faults.Fault.{Fault}
use Rattle.c_types.specs.declared.scope.Entry.{Entry}
use Rattle.c_types.specs.declared.scope.Heading.{Heading}
use Rattle.c_types.specs.declared.scope.Heading.TheVariants as heading
use Rattle.c_types.specs.declared.scope.Meaning.{Meaning}
use Rattle.c_types.specs.declared.scope.Meaning.TheVariants as meaning
use Rattle.c_types.specs.declared.scope.Returned.{Returned}
use Rattle.c_types.specs.declared.scope.Returned.TheVariants as returned
use Rattle.c_types.specs.declared.scope.Scope.{Scope}
use Rattle.c_types.specs.declared.scope.Signature.{Signature}
use Rattle.c_types.specs.declared.scope.StructRow.{StructRow}
use Rattle.c_types.specs.declared.scope.Walk.{Walk}
use Rattle.c_types.specs.declared.scope.Written.{Written}
use Rattle.c_types.specs.Functions.{brace_of, function_as, function_by, function_named, main_faults, marked, noted_again, slot_of, walked_fun, walked_heading, with_body as with_body_marked, with_slot}
use Rattle.c_types.specs.Scopes.{declared, named_by, noted, var_of, with_scope}
use Rattle.c_types.specs.Structs.{Fields, alias_if, body_if, numbered, row_again, start_noted, start_number, walked_body, walked_fields, walked_global, walked_globals, walked_struct, with_row}
use Rattle.c_types.specs.Tables.{found}
use Rattle.c_types.proofs.Growing.{declared_grows}
use Rattle.c_types.proofs.Headings.{name_remembers}
use Rattle.c_types.proofs.Passing.{fields_grow, head_types, headed, inside, inside_grows, left, numbered_grows, params_grow, types_grow, types_of, with_params}
use Rattle.c_types.proofs.Rows.{all_both, found_first}
use Rattle.c_types.proofs.Standing.{Grows, left_names}
use Rattle.c_types.proofs.TypedCalls.{row_before}
use Rattle.c_types.proofs.TypedParts.{declared_vars}

-- the row of a struct with a body: it was there before, or its body has come
pub data Came (R : StructRow → ℕ → Type 0) (o : Option StructRow) (row : StructRow) (b : ℕ) : Type 0 where
  before : o ≡ Some row → Came R o row b
  new : R row b → Came R o row b

-- from one walk to another, where each variable that is declared passes a test, and each body that comes has a property
pub record Adds (L : VarDef → Bool) (R : StructRow → ℕ → Type 0) (w u : Walk) : Type 0 where
  pub more : List VarDef
  pub vars : u.vars ≡ w.vars ++ more
  pub all : list_all L more ≡ true
  pub bodies : (s : ℕ) (row : StructRow) (b : ℕ) → slice_get u.scope.structs s ≡ Some row → row.body ≡ Some b → Came R (slice_get w.scope.structs s) row b
  pub names : (n : List ℕ) (e : Entry) → found w.scope.names n ≡ Some e → found u.scope.names n ≡ Some e

-- the body of one struct comes
set_came : (R : StructRow → ℕ → Type 0) (rows : List StructRow) (n : ℕ) (came : StructRow) (at : ℕ) → came.body ≡ Some at → R came at
    → (s : ℕ) (row : StructRow) (b : ℕ) → slice_get (slice_set rows n came) s ≡ Some row → row.body ≡ Some b → Came R (slice_get rows s) row b
set_came R [] n came at has r s row b is body = absurd cc
set_came R (x ∷ rows) zero came at has r zero row b is body =
    let same : came ≡ row = cc in
    let two : Some at ≡ Some b = sym has ∙ ap (λ (z : StructRow). z.body) same ∙ body in
    let one : at ≡ b = cc in
    Came.new (subst (λ (z : StructRow). R z b) same (subst (R came) one r))
set_came R (x ∷ rows) zero came at has r (suc s) row b is body = Came.before is
set_came R (x ∷ rows) (suc n) came at has r zero row b is body = Came.before is
set_came R (x ∷ rows) (suc n) came at has r (suc s) row b is body = set_came R rows n came at has r s row b is body

-- neither variables nor structs are declared

abbrev DeclaresNone : Walk → Walk → Type 0
DeclaresNone w u = (u.vars ≡ w.vars) × (u.scope.structs ≡ w.scope.structs)

mark_declares_none : (k : ℕ) (o : Option Signature) (w : Walk) → DeclaresNone w (marked k o w)
mark_declares_none k None w = (refl, refl)
mark_declares_none k (Some g) w = (refl, refl)

again_declares_none : (n : Word) (body : Bool) (h : Heading) (o : Option Signature) (w : Walk) → DeclaresNone w (noted_again n body h o w)
again_declares_none n body h None w = (refl, refl)
again_declares_none n body h (Some g) w = (refl, refl)

body_declares_none : (body : Bool) (k : ℕ) (w : Walk) → DeclaresNone w (with_body_marked body k w)
body_declares_none true k w = mark_declares_none k (slice_get w.signatures k) w
body_declares_none false k w = (refl, refl)

meant_declares_none : (n : Word) (body : Bool) (h : Heading) (m : Meaning) (w : Walk) → DeclaresNone w (function_as n body h m w)
meant_declares_none n body h (meaning.Function k) w =
    let o = slice_get w.signatures k in
    let a = again_declares_none n body h o w in
    let b = body_declares_none body k (noted_again n body h o w) in
    (b.0 ∙ a.0, b.1 ∙ a.1)
meant_declares_none n body h (meaning.Bad f) w = (refl, refl)
meant_declares_none n body h (meaning.Variable k t) w = (refl, refl)
meant_declares_none n body h (meaning.Alias s) w = (refl, refl)

entry_declares_none : (n : Word) (body : Bool) (h : Heading) (o : Option Entry) (w : Walk) → DeclaresNone w (function_by n body h o w)
entry_declares_none n body (heading.Bad f) None w = (refl, refl)
entry_declares_none n body (heading.Good g) None w = (refl, refl)
entry_declares_none n body h (Some e) w = meant_declares_none n body h e.meaning w

name_declares_none : (h : Head) (body : Bool) (t : Heading) (o : Option Word) (w : Walk) → DeclaresNone w (function_named h body t o w)
name_declares_none h body t None w = (refl, refl)
name_declares_none h body t (Some n) w = entry_declares_none n body t (found w.scope.names n.text) (noted (main_faults h n) w)

-- the slot of a result

abbrev slots : Returned → ℕ → ℕ → List VarDef
slots returned.Nothing f at = []
slots (returned.Value t) f at = slot_of t f at ∷ []
slots (returned.Bad e) f at = []

slot_vars : (t : Returned) (f at : ℕ) (w : Walk) → (with_slot t f at w).vars ≡ w.vars ++ slots t f at
slot_vars returned.Nothing f at w = sym (append-nil w.vars)
slot_vars (returned.Value t) f at w = refl
slot_vars (returned.Bad e) f at w = sym (append-nil w.vars)

slot_scope : (t : Returned) (f at : ℕ) (w : Walk) → (with_slot t f at w).scope ≡ w.scope
slot_scope returned.Nothing f at w = refl
slot_scope (returned.Value t) f at w = refl
slot_scope (returned.Bad e) f at w = refl

-- what is read of a struct's body
abbrev pub fields_read : Option Word → Body → Walk → Walk × Fields
fields_read tag b w =
    let r = numbered tag w.scope in
    walked_fields b.fields (noted (row_again (slice_get r.0.structs r.1) tag) (with_scope w r.0))

module _ (L : VarDef → Bool) (R : StructRow → ℕ → Type 0) where
  came_on : (w v : Walk) → Adds L R w v → (s : ℕ) (row : StructRow) (b : ℕ) → row.body ≡ Some b → Came R (slice_get v.scope.structs s) row b → Came R (slice_get w.scope.structs s) row b
  came_on w v a s row b body (Came.before is) = a.bodies s row b is body
  came_on w v a s row b body (Came.new r) = Came.new r

  adds_none : (w u : Walk) → u.vars ≡ w.vars → u.scope.structs ≡ w.scope.structs → ((n : List ℕ) (e : Entry) → found w.scope.names n ≡ Some e → found u.scope.names n ≡ Some e) → Adds L R w u
  adds_none w u vars structs names = record {
    more = [];
    vars = vars ∙ sym (append-nil w.vars);
    all = refl;
    bodies = λ s row b is body. Came.before (ap (λ (rows : List StructRow). slice_get rows s) (sym structs) ∙ is);
    names = names;
  }

  pub adds_itself : (w : Walk) → Adds L R w w
  adds_itself w = adds_none w w refl refl (λ n e is. is)

  pub adds_both : (w v u : Walk) → Adds L R w v → Adds L R v u → Adds L R w u
  adds_both w v u a b = record {
    more = a.more ++ b.more;
    vars = b.vars ∙ ap (λ (vs : List VarDef). vs ++ b.more) a.vars ∙ append_assoc w.vars a.more b.more;
    all = all_both L a.more b.more a.all b.all;
    bodies = λ s row k is body. came_on w v a s row k body (b.bodies s row k is body);
    names = λ n e is. b.names n e (a.names n e is);
  }

  all_of_home : (h : Home) → ((v : VarDef) → v.home ≡ h → L v ≡ true) → (vs : List VarDef) → ((k : ℕ) (v : VarDef) → slice_get vs k ≡ Some v → v.home ≡ h) → list_all L vs ≡ true
  all_of_home h test [] homes = refl
  all_of_home h test (v ∷ vs) homes = ap (λ (b : Bool). b && list_all L vs) (test v (homes 0 v refl)) ∙ all_of_home h test vs (λ k x is. homes (suc k) x is)

  grown_bodies : (h : Home) (w u : Walk) → Grows h w u → (s : ℕ) (row : StructRow) (b : ℕ) → slice_get u.scope.structs s ≡ Some row → row.body ≡ Some b → Came R (slice_get w.scope.structs s) row b
  grown_bodies h w u g s row b is body =
      Came.before (row_before w.scope.structs g.more_structs g.bodiless s row b (ap (λ (rows : List StructRow). slice_get rows s) (sym g.structs) ∙ is) body)

  grown_names : (h : Home) (w u : Walk) → Grows h w u → (n : List ℕ) (e : Entry) → found w.scope.names n ≡ Some e → found u.scope.names n ≡ Some e
  grown_names h w u g n e is = ap (λ (rows : List (List ℕ × Entry)). found rows n) g.names ∙ found_first w.scope.names g.more_names n e is

  -- where variables of one home are declared
  pub adds_grown : (h : Home) → ((v : VarDef) → v.home ≡ h → L v ≡ true) → (w u : Walk) → Grows h w u → Adds L R w u
  adds_grown h test w u g = record {
    more = g.more_vars;
    vars = g.vars;
    all = all_of_home h test g.more_vars g.homes;
    bodies = grown_bodies h w u g;
    names = grown_names h w u g;
  }

  note_adds : (fs : List Fault) (w : Walk) → Adds L R w (noted fs w)
  note_adds fs w = adds_none w (noted fs w) refl refl (λ n e is. is)

  -- variables of the file

  pub start_adds : (at : ℕ) (o : Option Expr) (r : Walk × Written) → Adds L R r.0 (start_noted at o r)
  start_adds at None r = adds_itself r.0
  start_adds at (Some e) r = note_adds _ r.0

  -- whatever its type, the variable passes the test
  abbrev pub IsAdded : GlobalDecl → Type 0
  IsAdded d = (t : Written) → L (var_of d.spec t (home.Global (start_number d.value))) ≡ true

  abbrev pub AreAdded : List GlobalDecl → Type 0
  AreAdded [] = Unit {0}
  AreAdded (d ∷ ds) = IsAdded d × AreAdded ds

  pub global_adds : (d : GlobalDecl) (w : Walk) → IsAdded d → Adds L R w (walked_global d w)
  global_adds d w added =
      let h = home.Global (start_number d.value) in
      let r = declared d.spec h 0 w in
      let g = declared_grows d.spec h 0 w in
      adds_both w r.0 (walked_global d w)
      (record {
        more = var_of d.spec r.1 h ∷ [];
        vars = declared_vars d.spec h 0 w;
        all = ap (λ (b : Bool). b && true) (added r.1);
        bodies = grown_bodies h w r.0 g;
        names = grown_names h w r.0 g;
      })
      (start_adds d.at d.value r)

  pub globals_add : (ds : List GlobalDecl) (w : Walk) → AreAdded ds → Adds L R w (walked_globals w ds)
  globals_add [] w added = adds_itself w
  globals_add (d ∷ ds) w added = adds_both w (walked_global d w) (walked_globals w (d ∷ ds)) (global_adds d w added.0) (globals_add ds (walked_global d w) added.1)

  -- what belongs to function f or a later one passes the test
  module _ (f : ℕ) (own : (v : VarDef) → is_from f v.home ≡ true → L v ≡ true) where
    from_itself : (v : VarDef) (h : Home) → is_from f h ≡ true → v.home ≡ h → L v ≡ true
    from_itself v h is same = own v (ap (is_from f) same ∙ is)

    local_adds : (w u : Walk) → Grows (home.Local f) w u → Adds L R w u
    local_adds w u g = adds_grown (home.Local f) (λ v same. from_itself v (home.Local f) (le-leb f f (omega arith)) same) w u g

    -- headings

    pub heading_adds : (h : Head) (body : Bool) (w : Walk) → Adds L R w (walked_heading h body w).0
    heading_adds h body w =
        let v = head_types h w in
        let s = name_declares_none h body (types_of h w) h.result.name v in
        adds_both w v (walked_heading h body w).0 (local_adds w v (types_grow (home.Local f) h w))
        (adds_none v (walked_heading h body w).0 s.0 s.1 (name_remembers h body (types_of h w) h.result.name v).names)

    -- structs

    row_adds : (n : ℕ) (row : StructRow) (at : ℕ) (w : Walk) → row.body ≡ Some at → R row at → Adds L R w (with_row n row w)
    row_adds n row at w has r = by_place (nat_lt n (length w.scope.structs))
      where
        by_place : (b : Bool) → Adds L R w (if b then with_scope w (record w.scope { structs = slice_set w.scope.structs n row }) else w)
        by_place true = record {
          more = [];
          vars = sym (append-nil w.vars);
          all = refl;
          bodies = set_came R w.scope.structs n row at has r;
          names = λ m e is. is;
        }
        by_place false = adds_itself w

    body_adds : (tag : Option Word) (n : ℕ) (b : Body) (w : Walk) → R (record { fields = (walked_fields b.fields (noted (row_again (slice_get w.scope.structs n) tag) w)).1; body = Some b.at }) b.at → Adds L R w (walked_body tag n b w)
    body_adds tag n b w r =
        let v = noted (row_again (slice_get w.scope.structs n) tag) w in
        let x = walked_fields b.fields v in
        adds_both w v (walked_body tag n b w) (note_adds _ w)
        (adds_both v x.0 (walked_body tag n b w) (local_adds v x.0 (fields_grow (home.Local f) b.fields (v, []))) (row_adds n (record { fields = x.1; body = Some b.at }) b.at x.0 refl r))

    alias_adds : (n : ℕ) (o : Option Word) (w : Walk) → Adds L R w (alias_if n o w)
    alias_adds n None w = adds_itself w
    alias_adds n (Some a) w = by_older (found w.scope.names a.text)
      where
        by_older : (o : Option Entry) → Adds L R w (named_by a (record { meaning = meaning.Alias n; depth = 0 }) w o)
        by_older None = adds_none w (named_by a (record { meaning = meaning.Alias n; depth = 0 }) w None) refl refl (λ m e is. found_first w.scope.names _ m e is)
        by_older (Some older) = note_adds _ w

    pub struct_adds : (tag : Option Word) (body : Option Body) (alias : Option Word) (w : Walk)
        → ((b : Body) → body ≡ Some b → R (record { fields = (fields_read tag b w).1; body = Some b.at }) b.at) → Adds L R w (walked_struct tag body alias w)
    struct_adds tag body alias w r =
        let x = numbered tag w.scope in
        let v = with_scope w x.0 in
        let u = body_if tag x.1 body v in
        adds_both w v (walked_struct tag body alias w) (local_adds w v (numbered_grows (home.Local f) tag w)) (adds_both v u (walked_struct tag body alias w) (by_body body r) (alias_adds x.1 alias u))
      where
        by_body : (o : Option Body) → ((b : Body) → o ≡ Some b → R (record { fields = (fields_read tag b w).1; body = Some b.at }) b.at)
            → let x = numbered tag w.scope in Adds L R (with_scope w x.0) (body_if tag x.1 o (with_scope w x.0))
        by_body None r = adds_itself _
        by_body (Some b) r = let x = numbered tag w.scope in body_adds tag x.1 b (with_scope w x.0) (r b refl)

  -- functions

  module _ (h : Head) (body : Block) (w : Walk) (own : (v : VarDef) → is_from (length w.funs) v.home ≡ true → L v ≡ true) where
    slots_pass : (t : Returned) (at : ℕ) → list_all L (slots t (length w.funs) at) ≡ true
    slots_pass returned.Nothing at = refl
    slots_pass (returned.Value t) at = ap (λ (b : Bool). b && true) (own (slot_of t (length w.funs) at) (le-leb (length w.funs) (length w.funs) (omega arith)))
    slots_pass (returned.Bad e) at = refl

    pub params_add : Adds L R (headed h body w).0 (with_params h body w).0
    params_add =
        let f = length w.funs in
        adds_grown (home.Param f) (λ v same. own v (ap (is_from f) same ∙ le-leb f f (omega arith))) (headed h body w).0 (with_params h body w).0 (params_grow h body w)

    inside_adds : Adds L R (headed h body w).0 (inside h body w).0
    inside_adds =
        let f = length w.funs in
        adds_both (headed h body w).0 (with_params h body w).0 (inside h body w).0 params_add
        (adds_grown (home.Local f) (λ v same. own v (ap (is_from f) same ∙ le-leb f f (omega arith))) (with_params h body w).0 (inside h body w).0 (inside_grows h body w))

    pub function_adds : Adds L R w (walked_fun h body w)
    function_adds =
        let f = length w.funs in
        let t = (headed h body w).1 in
        let at = brace_of body in
        let v = left h body w in
        let a = inside_adds in
        let g = params_grow h body w in
        let i = inside_grows h body w in
        let own_names = g.more_names ++ i.more_names in
        let named : (inside h body w).0.scope.names ≡ (headed h body w).0.scope.names ++ own_names =
        i.names ∙ ap (λ (rows : List (List ℕ × Entry)). rows ++ i.more_names) g.names ∙ append_assoc (headed h body w).0.scope.names g.more_names i.more_names in
        adds_both w (headed h body w).0 (walked_fun h body w) (heading_adds f own h true w)
        (record {
          more = a.more ++ slots t f at;
          vars = slot_vars t f at v ∙ ap (λ (vs : List VarDef). vs ++ slots t f at) a.vars ∙ append_assoc (headed h body w).0.vars a.more (slots t f at);
          all = all_both L a.more (slots t f at) a.all (slots_pass t at);
          bodies = λ s row b is has. a.bodies s row b (ap (λ (x : Scope). slice_get x.structs s) (sym (slot_scope t f at v)) ∙ is) has;
          names = λ n e is.
              ap (λ (x : Scope). found x.names n) (slot_scope t f at v)
              ∙ ap (λ (rows : List (List ℕ × Entry)). found rows n) (left_names (headed h body w).0 (inside h body w).0 own_names named) ∙ is;
        })
