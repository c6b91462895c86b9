-- Each declaration of a file goes on, and keeps what stands.
use Rattle.std.proofs.Common.{◌≡◌, ℕ, ◌+◌, ◌<◌, ◌≤◌, ◌==◌, Bool, true, false, ◌&&◌, List, [], ◌∷◌, ◌++◌, length, map, flat_map, get_or, slice_get, Option, Some, None, refl, sym, ap, subst, ◌∙◌, arith, append-nil, append_assoc, length-append}
use Rattle.std.specs.Prelude.{nat_lt, slice_set, is_none, if◌then◌else◌}
use Rattle.std.specs.List.{fold, list_all}
use Rattle.std.proofs.lemmas.List.{length-set}
use Rattle.std.proofs.lemmas.Option.{slice_get-get_or}
use Rattle.c_tree.specs.Flow.{flow_of}
use Rattle.c_tree.specs.Typing.{if_any}
use Rattle.c_tree.specs.declared.program.Block.{Block as MadeBlock}
use Rattle.c_tree.specs.declared.program.FunDef.{FunDef}
use Rattle.c_tree.specs.declared.program.Home.{Home}
use Rattle.c_tree.specs.declared.program.Home.TheVariants as home
use Rattle.c_tree.specs.declared.program.Ty.{Ty}
use Rattle.c_tree.specs.declared.program.VarDef.{VarDef}
use Rattle.c_tree.specs.declared.tree.Block.{Block}
use Rattle.c_tree.specs.declared.tree.Body.{Body}
use Rattle.c_tree.specs.declared.tree.Expr.{Expr}
use Rattle.c_tree.specs.declared.tree.GlobalDecl.{GlobalDecl}
use Rattle.c_tree.specs.declared.tree.Head.{Head}
use Rattle.c_tree.specs.declared.tree.Spec.{Spec}
use Rattle.c_tree.specs.declared.tree.Top.{Top}
use Rattle.c_tree.specs.declared.tree.Top.TheVariants as top
use Rattle.c_tree.specs.declared.tree.Word.{Word}
use Rattle.c_types.specs.declared.faults.Fault.{Fault}
use Rattle.c_types.specs.declared.faults.Rule.TheVariants as rule
use Rattle.c_types.specs.declared.scope.BaseType.{BaseType}
use Rattle.c_types.specs.declared.scope.BaseType.TheVariants as type
use Rattle.c_types.specs.declared.scope.Entry.{Entry}
use Rattle.c_types.specs.declared.scope.Heading.{Heading}
use Rattle.c_types.specs.declared.scope.Heading.TheVariants as heading
use Rattle.c_types.specs.declared.scope.Meaning.{Meaning}
use Rattle.c_types.specs.declared.scope.Meaning.TheVariants as meaning
use Rattle.c_types.specs.declared.scope.Returned.{Returned}
use Rattle.c_types.specs.declared.scope.Returned.TheVariants as returned
use Rattle.c_types.specs.declared.scope.Signature.{Signature}
use Rattle.c_types.specs.declared.scope.StructRow.{StructRow}
use Rattle.c_types.specs.declared.scope.Walk.{Walk}
use Rattle.c_types.specs.declared.scope.Written.{Written}
use Rattle.c_types.specs.declared.scope.Written.TheVariants.{Good, Bad}
use Rattle.c_types.specs.Blocks.{walked_block}
use Rattle.c_types.specs.Calls.{is_main}
use Rattle.c_types.specs.Fits.{fault, unless}
use Rattle.c_types.specs.Functions.{heading_params, heading_of, result_faults, entry, with_signature, new_function, again_faults, noted_again, marked, with_body, function_as, function_by, main_faults, function_named, walked_heading, body_nesting, walked_param, slot_of, with_slot, no_value, result_or_none, brace_of, fun_of, with_fun, walked_fun}
use Rattle.c_types.specs.InTurn.{each}
use Rattle.c_types.specs.Program.{start, walked_top}
use Rattle.c_types.specs.Scopes.{new_struct, naming, untagged, based, written, spec_type, value_or_bad, result_of, result_type, noted, with_scope, with_name, named_by, or_int, declared, closed, type_faults, text_or_none}
use Rattle.c_types.specs.Structs.{Fields, field_more, field_named, walked_field, field_turn, walked_fields, with_row, row_again, walked_body, body_if, alias_if, numbered, walked_struct, start_number, start_noted, walked_global}
use Rattle.c_types.specs.Tables.{found}
use Rattle.c_types.proofs.Growing.{note_grows, struct_more, var_stands, base_grows, spec_grows, BaseThere, base_there, tag_there, tag_grows, written_there, spec_there, declared_grows, each_grows, block_grows}
use Rattle.c_types.proofs.Numbering.{first_empty}
use Rattle.c_types.proofs.NumberingCalls.{second_empty}
use Rattle.c_types.proofs.Rows.{get_first, get_last, get_set, found_first, found_none, found_one, found_either, all_both, all_set, all_weaker}
use Rattle.c_types.proofs.Standing.{there, there_more, result_more, Means, means_more, fields_there, Standing, IsLocal, Grows, grows_all, grows_both, Onward, onward_all, onward_both, grows_onward, HasTypes, closed_stands, closed_onward}

-- where names lead to what is there, they do so at a later place of the file too
pub record Passed (w u : Walk) : Type 0 where
  pub onward : Onward w u
  pub standing : Standing u

abbrev pub Passes : Walk → Walk → Type 0
Passes w u = Standing w → Passed w u

pub passes_all : (w : Walk) → Passes w w
passes_all w s = record { onward = onward_all w; standing = s }

pub passes_both : (w u v : Walk) → Passes w u → Passes u v → Passes w v
passes_both w u v f g s =
    let a = f s in
    let b = g a.standing in
    record { onward = onward_both w u v a.onward b.onward; standing = b.standing }

pub grows_pass : (h : Home) (w u : Walk) → Grows h w u → Passes w u
grows_pass h w u g s = record { onward = grows_onward h w u g; standing = g.stands s }

-- a home, where none is asked for
abbrev pub no_home : Home
no_home = home.Local 0

pub note_passes : (fs : List Fault) (w : Walk) → Passes w (noted fs w)
note_passes fs w = grows_pass no_home w (noted fs w) (note_grows no_home fs w)

-- names of the file

abbrev MeansIn : Walk → Meaning → Type 0
MeansIn w m = Means w.vars (length w.scope.structs) (length w.signatures) m

top_name_passes : (n : Word) (e : Entry) (w : Walk) → (Standing w → MeansIn w e.meaning) → (w.faults ≡ [] → (f : Fault) → e.meaning ≡ meaning.Bad f → ⊥) → Passes w (with_name n e w)
top_name_passes n e w means good s = record {
  onward = record {
    clean = λ c. c;
    more_vars = [];
    vars = sym (append-nil w.vars);
    structs = omega arith;
    bodies = λ c k row at is has. is;
    definitions = refl;
    signatures = λ k g is. record { same = g; is = is; result = refl; params = refl; has_body = λ b. b };
    functions = λ m x k is mean. found_first w.scope.names ((n.text, e) ∷ []) m x is;
  };
  standing = record {
    names = λ m. found_either (λ (x : Entry). MeansIn w x.meaning) w.scope.names ((n.text, e) ∷ []) m (s.names m) (λ x is. found_one (λ (x : Entry). MeansIn w x.meaning) (n.text, e) (means s) m x is);
    goods = λ c m x f is. found_either (λ (x : Entry). x.meaning ≡ meaning.Bad f → ⊥) w.scope.names ((n.text, e) ∷ []) m
        (λ x is bad. s.goods c m x f is bad) (λ x is. found_one (λ (x : Entry). x.meaning ≡ meaning.Bad f → ⊥) (n.text, e) (good c f) m x is) x is;
    tags = s.tags;
    fields = s.fields;
    vars = s.vars;
    results = s.results;
  };
}

-- signatures

signature_passes : (g : Signature) (w : Walk) → Passes w (with_signature g w)
signature_passes g w s =
    let long : length (w.signatures ++ g ∷ []) ≡ length w.signatures + 1 = length-append w.signatures (g ∷ []) in
    record {
      onward = record {
        clean = λ c. c;
        more_vars = [];
        vars = sym (append-nil w.vars);
        structs = omega arith;
        bodies = λ c k row at is has. is;
        definitions = refl;
        signatures = λ k x is. record { same = x; is = get_first w.signatures (g ∷ []) k x is; result = refl; params = refl; has_body = λ b. b };
        functions = λ m x k is mean. is;
      };
      standing = record {
        names = λ m x is.
            subst (λ (vs : List VarDef). Means vs (length w.scope.structs) (length (w.signatures ++ g ∷ [])) x.meaning) (append-nil w.vars)
            (means_more w.vars [] (length w.scope.structs) (length w.scope.structs) (length w.signatures) (length (w.signatures ++ g ∷ [])) (omega arith) (omega arith) x.meaning (s.names m x is));
        goods = s.goods;
        tags = s.tags;
        fields = s.fields;
        vars = s.vars;
        results = s.results;
      };
    }

-- the body of a declared function has come
mark_passes : (k : ℕ) (o : Option Signature) (w : Walk) → slice_get w.signatures k ≡ o → Passes w (marked k o w)
mark_passes k None w is s = passes_all w s
mark_passes k (Some g) w is s = record {
  onward = record {
    clean = λ c. c;
    more_vars = [];
    vars = sym (append-nil w.vars);
    structs = omega arith;
    bodies = λ c j row at is has. is;
    definitions = refl;
    signatures = λ j x has. get_set (HasTypes x) w.signatures k (record g { has_body = true }) j x has (record { same = x; is = refl; result = refl; params = refl; has_body = λ b. b })
        (λ e.
        let same : Some g ≡ Some x = sym is ∙ ap (slice_get w.signatures) (sym e) ∙ has in
        let one : g ≡ x = cc in
        record { same = record g { has_body = true }; is = refl; result = ap (λ (s : Signature). s.result) one; params = ap (λ (s : Signature). s.params) one; has_body = λ b. refl });
    functions = λ m x j is mean. is;
  };
  standing = record {
    names = λ m x is. subst (λ (l : ℕ). Means w.vars (length w.scope.structs) l x.meaning) (sym (length-set w.signatures k (record g { has_body = true }))) (s.names m x is);
    goods = s.goods;
    tags = s.tags;
    fields = s.fields;
    vars = s.vars;
    results = s.results;
  };
}

-- headings

-- where no type is a fault a function has its types
params_typed : (t : Option Ty) (so_far : List Ty) (ts : List Written) → flat_map type_faults ts ≡ [] → heading_params t so_far ts ≡ heading.Good (record { result = t; params = so_far ++ map or_int ts; has_body = false })
params_typed t so_far [] h = ap (λ (us : List Ty). heading.Good (record { result = t; params = us; has_body = false })) (sym (append-nil so_far))
params_typed t so_far (Good u ∷ ts) h =
    params_typed t (so_far ++ u ∷ []) ts h ∙ ap (λ (us : List Ty). heading.Good (record { result = t; params = us; has_body = false })) (append_assoc so_far (u ∷ []) (map or_int ts))
params_typed t so_far (Bad f ∷ ts) h = absurd cc

pub heading_typed : (t : Returned) (ts : List Written) → result_faults t ++ flat_map type_faults ts ≡ [] → heading_of t ts ≡ heading.Good (record { result = result_or_none t; params = map or_int ts; has_body = false })
heading_typed returned.Nothing ts h = params_typed None [] ts h
heading_typed (returned.Value t) ts h = params_typed (Some t) [] ts h
heading_typed (returned.Bad f) ts h = absurd cc

-- a heading is good where no rule is broken
abbrev pub IsGood : Walk → Heading → Type 0
IsGood w h = w.faults ≡ [] → (f : Fault) → h ≡ heading.Bad f → ⊥

pub new_passes : (n : Word) (body : Bool) (h : Heading) (w : Walk) → IsGood w h → Passes w (new_function n body h w)
new_passes n body (heading.Bad f) w good = top_name_passes n (entry (meaning.Bad f)) w (λ s. tt) (λ c g is. good c f refl)
new_passes n body (heading.Good g) w good =
    let u = with_signature (record g { has_body = body }) w in
    let long : length (w.signatures ++ record g { has_body = body } ∷ []) ≡ length w.signatures + 1 = length-append w.signatures (record g { has_body = body } ∷ []) in
    passes_both w u (new_function n body (heading.Good g) w) (signature_passes (record g { has_body = body }) w)
    (top_name_passes n (entry (meaning.Function (length w.signatures))) u (λ s. let below : length w.signatures < length u.signatures = omega arith in below) (λ c f is. absurd cc))

pub again_passes : (n : Word) (body : Bool) (h : Heading) (o : Option Signature) (w : Walk) → Passes w (noted_again n body h o w)
again_passes n body h None w = passes_all w
again_passes n body h (Some g) w = note_passes (again_faults body h g n.at) w

pub body_passes : (body : Bool) (k : ℕ) (w : Walk) → Passes w (with_body body k w)
body_passes true k w = mark_passes k (slice_get w.signatures k) w refl
body_passes false k w = passes_all w

twice_passes : (n : Word) (body : Bool) (h : Heading) (m : Meaning) (w : Walk) → Passes w (function_as n body h m w)
twice_passes n body h (meaning.Function k) w =
    let v = noted_again n body h (slice_get w.signatures k) w in
    passes_both w v (with_body body k v) (again_passes n body h (slice_get w.signatures k) w) (body_passes body k v)
twice_passes n body h (meaning.Bad f) w = passes_all w
twice_passes n body h (meaning.Variable m t) w = note_passes _ w
twice_passes n body h (meaning.Alias s) w = note_passes _ w

pub by_passes : (n : Word) (body : Bool) (h : Heading) (o : Option Entry) (w : Walk) → IsGood w h → Passes w (function_by n body h o w)
by_passes n body h None w good = new_passes n body h w good
by_passes n body h (Some e) w good = twice_passes n body h e.meaning w

pub named_passes : (h : Head) (body : Bool) (t : Heading) (o : Option Word) (w : Walk) → IsGood w t → Passes w (function_named h body t o w)
named_passes h body t None w good = note_passes _ w
named_passes h body t (Some n) w good =
    let v = noted (main_faults h n) w in
    passes_both w v (function_named h body t (Some n) w) (note_passes (main_faults h n) w)
    (by_passes n body t (found w.scope.names n.text) v (λ c. good (first_empty w.faults (main_faults h n) c)))

pub specs_grow : (h : Home) (ds : List Spec) (w : Walk) → Grows h w (with_scope w (each spec_type ds w.scope).0)
specs_grow h [] w = grows_all h w
specs_grow h (d ∷ ds) w =
    let v = with_scope w (spec_type d w.scope).0 in
    grows_both h w v (with_scope w (each spec_type (d ∷ ds) w.scope).0) (spec_grows h d w) (specs_grow h ds v)

-- where a function's name is declared
abbrev pub head_types : Head → Walk → Walk
head_types h w =
    let r = result_type h.result w.scope in
    let ps = each spec_type h.params r.0 in
    noted (result_faults r.1 ++ flat_map type_faults ps.1) (with_scope w ps.0)

pub types_grow : (l : Home) (h : Head) (w : Walk) → Grows l w (head_types h w)
types_grow l h w =
    let r = result_type h.result w.scope in
    let u = with_scope w r.0 in
    let ps = each spec_type h.params r.0 in
    grows_both l w u (head_types h w) (base_grows l h.result.base w)
    (grows_both l u (with_scope u ps.0) (head_types h w) (specs_grow l h.params u) (note_grows l (result_faults r.1 ++ flat_map type_faults ps.1) (with_scope u ps.0)))

-- the types of a heading
abbrev pub types_of : Head → Walk → Heading
types_of h w = let r = result_type h.result w.scope in heading_of r.1 (each spec_type h.params r.0).1

pub types_good : (h : Head) (w : Walk) → IsGood (head_types h w) (types_of h w)
types_good h w c f is =
    let r = result_type h.result w.scope in
    let ps = each spec_type h.params r.0 in
    let good = heading_typed r.1 ps.1 (second_empty w.faults (result_faults r.1 ++ flat_map type_faults ps.1) c) in
    let two : heading.Bad f ≡ heading.Good (record { result = result_or_none r.1; params = map or_int ps.1; has_body = false }) = sym is ∙ good in
    absurd cc

pub heading_passes : (h : Head) (body : Bool) (w : Walk) → Passes w (walked_heading h body w).0
heading_passes h body w =
    passes_both w (head_types h w) (walked_heading h body w).0 (grows_pass no_home w (head_types h w) (types_grow no_home h w))
    (named_passes h body (types_of h w) h.result.name (head_types h w) (types_good h w))

-- the type of a result

by_written : (n : ℕ) (t : Written) → there n (or_int t) ≡ true → if_any (there n) (result_or_none (value_or_bad t)) ≡ true
by_written n (Good t) h = h
by_written n (Bad f) h = refl

result_there : (n : ℕ) (d : Spec) (b : BaseType) → BaseThere n b → if_any (there n) (result_or_none (result_of d b)) ≡ true
result_there n d type.Void h = by_stars (d.stars == 0)
  where
    by_stars : (b : Bool) → if_any (there n) (result_or_none (if b then returned.Nothing else returned.Bad (fault rule.NoValues (naming d)))) ≡ true
    by_stars true = refl
    by_stars false = refl
result_there n d type.Int h = by_written n (written d type.Int) (written_there n d type.Int h)
result_there n d (type.Struct s) h = by_written n (written d (type.Struct s)) (written_there n d (type.Struct s) h)
result_there n d (type.Bad f) h = refl

pub returned_there : (h : Head) (body : Bool) (w : Walk) → Standing w → if_any (there (length (walked_heading h body w).0.scope.structs)) (result_or_none (walked_heading h body w).1) ≡ true
returned_there h body w s =
    let r = result_type h.result w.scope in
    let u = with_scope w r.0 in
    let ps = each spec_type h.params r.0 in
    let types = grows_onward no_home u (head_types h w) (grows_both no_home u (with_scope u ps.0) (head_types h w) (specs_grow no_home h.params u) (note_grows no_home (result_faults r.1 ++ flat_map type_faults ps.1) (with_scope u ps.0))) in
    let name = named_passes h body (types_of h w) h.result.name (head_types h w) (types_good h w) ((types_grow no_home h w).stands s) in
    let first : length u.scope.structs ≤ length (head_types h w).scope.structs = types.structs in
    let second : length (head_types h w).scope.structs ≤ length (walked_heading h body w).0.scope.structs = name.onward.structs in
    result_more (length u.scope.structs) (length (walked_heading h body w).0.scope.structs) (omega arith) (result_or_none r.1) (result_there (length u.scope.structs) h.result (based h.result.base w.scope).1 (base_there h.result.base w s))

-- structs

pub untagged_grows : (h : Home) (w : Walk) → Grows h w (with_scope w (untagged w.scope).0)
untagged_grows h w =
    let long : length (w.scope.structs ++ new_struct ∷ []) ≡ length w.scope.structs + 1 = length-append w.scope.structs (new_struct ∷ []) in
    struct_more h w.scope.tags w (λ s n k is. let below : k < length w.scope.structs = s.tags n k is in omega arith) (λ n k is. is)

pub numbered_grows : (h : Home) (tag : Option Word) (w : Walk) → Grows h w (with_scope w (numbered tag w.scope).0)
numbered_grows h None w = untagged_grows h w
numbered_grows h (Some n) w = tag_grows h n w (found w.scope.tags n.text)

pub numbered_there : (tag : Option Word) (w : Walk) → Standing w → (numbered tag w.scope).1 < length (numbered tag w.scope).0.structs
numbered_there None w s = let long : length (w.scope.structs ++ new_struct ∷ []) ≡ length w.scope.structs + 1 = length-append w.scope.structs (new_struct ∷ []) in omega arith
numbered_there (Some n) w s = tag_there n w (found w.scope.tags n.text) (s.tags n.text)

-- fields

abbrev rows_there : ℕ → Fields → Bool
rows_there n = list_all (λ (f : List ℕ × Written). there n (or_int f.1))

field_grows : (h : Home) (n : Word) (t : Written) (rows : Fields) (o : Option Written) (w : Walk) → Grows h w (field_more n t rows o w).0
field_grows h n t rows None w = grows_all h w
field_grows h n t rows (Some older) w = note_grows h _ w

field_name_grows : (h : Home) (d : Spec) (t : Written) (rows : Fields) (o : Option Word) (w : Walk) → Grows h w (field_named d t rows o w).0
field_name_grows h d t rows None w = note_grows h _ w
field_name_grows h d t rows (Some n) w = field_grows h n t rows (found rows n.text) w

one_field_grows : (h : Home) (d : Spec) (rows : Fields) (w : Walk) → Grows h w (walked_field d rows w).0
one_field_grows h d rows w =
    let r = spec_type d w.scope in
    let u = with_scope w r.0 in
    let v = noted (type_faults r.1) u in
    grows_both h w u (walked_field d rows w).0 (spec_grows h d w) (grows_both h u v (walked_field d rows w).0 (note_grows h (type_faults r.1) u) (field_name_grows h d r.1 rows d.name v))

pub fields_grow : (h : Home) (ds : List Spec) (r : Walk × Fields) → Grows h r.0 (fold field_turn r ds).0
fields_grow h [] r = grows_all h r.0
fields_grow h (d ∷ ds) r = grows_both h r.0 (walked_field d r.1 r.0).0 (fold field_turn r (d ∷ ds)).0 (one_field_grows h d r.1 r.0) (fields_grow h ds (walked_field d r.1 r.0))

more_there : (k : ℕ) (n : Word) (t : Written) (rows : Fields) (o : Option Written) (w : Walk) → rows_there k rows ≡ true → there k (or_int t) ≡ true → rows_there k (field_more n t rows o w).1 ≡ true
more_there k n t rows None w h one = all_both (λ (f : List ℕ × Written). there k (or_int f.1)) rows ((n.text, t) ∷ []) h (ap (λ (b : Bool). b && true) one)
more_there k n t rows (Some older) w h one = h

name_there : (k : ℕ) (d : Spec) (t : Written) (rows : Fields) (o : Option Word) (w : Walk) → rows_there k rows ≡ true → there k (or_int t) ≡ true → rows_there k (field_named d t rows o w).1 ≡ true
name_there k d t rows None w h one = h
name_there k d t rows (Some n) w h one = more_there k n t rows (found rows n.text) w h one

more_rows : (m n : ℕ) → m ≤ n → (rows : Fields) → rows_there m rows ≡ true → rows_there n rows ≡ true
more_rows m n more rows = all_weaker (λ (f : List ℕ × Written). there m (or_int f.1)) (λ (f : List ℕ × Written). there n (or_int f.1)) (λ f. there_more m n more (or_int f.1)) rows

one_field_there : (d : Spec) (rows : Fields) (w : Walk) → Standing w → rows_there (length w.scope.structs) rows ≡ true → rows_there (length (walked_field d rows w).0.scope.structs) (walked_field d rows w).1 ≡ true
one_field_there d rows w s h =
    let r = spec_type d w.scope in
    let u = with_scope w r.0 in
    let v = noted (type_faults r.1) u in
    let x = walked_field d rows w in
    let first : length w.scope.structs ≤ length u.scope.structs = (grows_onward no_home w u (spec_grows no_home d w)).structs in
    let second : length u.scope.structs ≤ length x.0.scope.structs = (grows_onward no_home v x.0 (field_name_grows no_home d r.1 rows d.name v)).structs in
    name_there (length x.0.scope.structs) d r.1 rows d.name v (more_rows (length w.scope.structs) (length x.0.scope.structs) (omega arith) rows h)
    (there_more (length u.scope.structs) (length x.0.scope.structs) second (or_int r.1) (spec_there d w s))

fields_there_all : (ds : List Spec) (r : Walk × Fields) → Standing r.0 → rows_there (length r.0.scope.structs) r.1 ≡ true → rows_there (length (fold field_turn r ds).0.scope.structs) (fold field_turn r ds).1 ≡ true
fields_there_all [] r s h = h
fields_there_all (d ∷ ds) r s h =
    fields_there_all ds (walked_field d r.1 r.0) ((one_field_grows no_home d r.1 r.0).stands s) (one_field_there d r.1 r.0 s h)

-- bodies

-- a row without a body so far is replaced
row_set : (n : ℕ) (row : StructRow) (w : Walk) → fields_there (length w.scope.structs) row ≡ true
    → (w.faults ≡ [] → (old : StructRow) → slice_get w.scope.structs n ≡ Some old → old.body ≡ None) → Passes w (with_scope w (record w.scope { structs = slice_set w.scope.structs n row }))
row_set n row w types open_so_far s =
    let xs = slice_set w.scope.structs n row in
    let long : length xs ≡ length w.scope.structs = length-set w.scope.structs n row in
    record {
      onward = record {
        clean = λ c. c;
        more_vars = [];
        vars = sym (append-nil w.vars);
        structs = omega arith;
        bodies = λ c k old at is has. get_set (λ (o : Option StructRow). o ≡ Some old) w.scope.structs n row k old is refl
            (λ e.
            let none : old.body ≡ None = open_so_far c old (ap (slice_get w.scope.structs) (sym e) ∙ is) in
            let two : None ≡ Some at = sym none ∙ has in
            absurd cc);
        definitions = refl;
        signatures = λ k g is. record { same = g; is = is; result = refl; params = refl; has_body = λ b. b };
        functions = λ m x k is mean. is;
      };
      standing = record {
        names = λ m x is. subst (λ (l : ℕ). Means w.vars l (length w.signatures) x.meaning) (sym long) (s.names m x is);
        goods = s.goods;
        tags = λ m k is. subst (λ (l : ℕ). k < l) (sym long) (s.tags m k is);
        fields = ap (λ (l : ℕ). list_all (fields_there l) xs) long ∙ all_set (fields_there (length w.scope.structs)) w.scope.structs n row s.fields types;
        vars = ap (λ (l : ℕ). list_all (λ (v : VarDef). there l v.ty) w.vars) long ∙ s.vars;
        results = ap (λ (l : ℕ). list_all (λ (d : FunDef). if_any (there l) d.result) w.funs) long ∙ s.results;
      };
    }

row_passes : (n : ℕ) (row : StructRow) (w : Walk) → fields_there (length w.scope.structs) row ≡ true
    → (w.faults ≡ [] → (old : StructRow) → slice_get w.scope.structs n ≡ Some old → old.body ≡ None) → Passes w (with_row n row w)
row_passes n row w types open_so_far = by_place (nat_lt n (length w.scope.structs))
  where
    by_place : (t : Bool) → Passes w (if t then with_scope w (record w.scope { structs = slice_set w.scope.structs n row }) else w)
    by_place true = row_set n row w types open_so_far
    by_place false = passes_all w

-- where no rule is broken, a struct whose body comes had none
no_body : (o : Option StructRow) (tag : Option Word) → (tag ≡ None → (row : StructRow) → o ≡ Some row → row.body ≡ None) → row_again o tag ≡ [] → (row : StructRow) → o ≡ Some row → row.body ≡ None
no_body None tag fresh h row is = absurd cc
no_body (Some old) None fresh h row is = fresh refl row is
no_body (Some old) (Some n) fresh h row is =
    let same : old ≡ row = cc in
    subst (λ (r : StructRow). r.body ≡ None) same (by_body old.body h)
  where
    by_body : (b : Option ℕ) → unless (is_none b) rule.Twice n.at ≡ [] → b ≡ None
    by_body None h = refl
    by_body (Some at) h = absurd cc

abbrev IsFresh : Option Word → ℕ → Walk → Type 0
IsFresh tag n w = tag ≡ None → (row : StructRow) → slice_get w.scope.structs n ≡ Some row → row.body ≡ None

body_passes_on : (tag : Option Word) (n : ℕ) (b : Body) (w : Walk) → n < length w.scope.structs → IsFresh tag n w → Passes w (walked_body tag n b w)
body_passes_on tag n b w below fresh s =
    let fs = row_again (slice_get w.scope.structs n) tag in
    let u = noted fs w in
    let v = walked_fields b.fields u in
    let g = fields_grow no_home b.fields (u, []) in
    let noting = note_passes fs w s in
    let first = get_or w.scope.structs n new_struct in
    let here : slice_get w.scope.structs n ≡ Some first = slice_get-get_or w.scope.structs n new_struct below in
    passes_both w v.0 (walked_body tag n b w) (passes_both w u v.0 (note_passes fs w) (grows_pass no_home u v.0 g))
    (row_passes n (record { fields = v.1; body = Some b.at }) v.0 (fields_there_all b.fields (u, []) noting.standing refl)
    (λ c old is.
    let there_still : slice_get v.0.scope.structs n ≡ Some first = ap (λ (xs : List StructRow). slice_get xs n) g.structs ∙ get_first w.scope.structs g.more_structs n first here in
    let two : Some first ≡ Some old = sym there_still ∙ is in
    let same : first ≡ old = cc in
    subst (λ (r : StructRow). r.body ≡ None) same (no_body (slice_get w.scope.structs n) tag fresh (second_empty w.faults fs (g.clean c)) first here)))
    s

body_if_passes : (tag : Option Word) (n : ℕ) (o : Option Body) (w : Walk) → n < length w.scope.structs → IsFresh tag n w → Passes w (body_if tag n o w)
body_if_passes tag n None w below fresh = passes_all w
body_if_passes tag n (Some b) w below fresh = body_passes_on tag n b w below fresh

alias_passes : (n : ℕ) (o : Option Word) (w : Walk) → n < length w.scope.structs → Passes w (alias_if n o w)
alias_passes n None w below = passes_all w
alias_passes n (Some a) w below = by_older (found w.scope.names a.text)
  where
    by_older : (o : Option Entry) → Passes w (named_by a (record { meaning = meaning.Alias n; depth = 0 }) w o)
    by_older None = top_name_passes a (record { meaning = meaning.Alias n; depth = 0 }) w (λ s. below) (λ c f is. absurd cc)
    by_older (Some older) = note_passes _ w

-- a struct without a tag is a new one
numbered_fresh : (tag : Option Word) (w : Walk) → let r = numbered tag w.scope in IsFresh tag r.1 (with_scope w r.0)
numbered_fresh None w none row is =
    let last = get_last w.scope.structs new_struct in
    let two : Some new_struct ≡ Some row = sym last ∙ is in
    let same : new_struct ≡ row = cc in
    subst (λ (r : StructRow). r.body ≡ None) same refl
numbered_fresh (Some n) w none row is = absurd cc

pub struct_passes : (tag : Option Word) (body : Option Body) (alias : Option Word) (w : Walk) → Passes w (walked_struct tag body alias w)
struct_passes tag body alias w s =
    let r = numbered tag w.scope in
    let v = with_scope w r.0 in
    let u = body_if tag r.1 body v in
    let below : r.1 < length v.scope.structs = numbered_there tag w s in
    let first = grows_pass no_home w v (numbered_grows no_home tag w) s in
    let second = body_if_passes tag r.1 body v below (numbered_fresh tag w) first.standing in
    let more : length v.scope.structs ≤ length u.scope.structs = second.onward.structs in
    let third = alias_passes r.1 alias u (omega arith) second.standing in
    record { onward = onward_both w v (walked_struct tag body alias w) first.onward (onward_both v u (walked_struct tag body alias w) second.onward third.onward); standing = third.standing }

-- variables of the file

start_passes : (at : ℕ) (o : Option Expr) (r : Walk × Written) → Passes r.0 (start_noted at o r)
start_passes at None r = passes_all r.0
start_passes at (Some e) r = note_passes _ r.0

pub global_passes : (d : GlobalDecl) (w : Walk) → Passes w (walked_global d w)
global_passes d w =
    let h = home.Global (start_number d.value) in
    let r = declared d.spec h 0 w in
    passes_both w r.0 (walked_global d w) (grows_pass h w r.0 (declared_grows d.spec h 0 w)) (start_passes d.at d.value r)

pub globals_pass : (ds : List GlobalDecl) (w : Walk) → Passes w (fold (λ v d. walked_global d v) w ds)
globals_pass [] w = passes_all w
globals_pass (d ∷ ds) w = passes_both w (walked_global d w) (fold (λ v d. walked_global d v) w (d ∷ ds)) (global_passes d w) (globals_pass ds (walked_global d w))

-- functions

pub slot_passes : (t : Returned) (f at : ℕ) (w : Walk) → if_any (there (length w.scope.structs)) (result_or_none t) ≡ true → Passes w (with_slot t f at w)
slot_passes returned.Nothing f at w has s = passes_all w s
slot_passes (returned.Bad e) f at w has s = passes_all w s
slot_passes (returned.Value t) f at w has s = record {
  onward = record {
    clean = λ c. c;
    more_vars = slot_of t f at ∷ [];
    vars = refl;
    structs = omega arith;
    bodies = λ c k row o is body. is;
    definitions = refl;
    signatures = λ k g is. record { same = g; is = is; result = refl; params = refl; has_body = λ b. b };
    functions = λ m x k is mean. is;
  };
  standing = var_stands (slot_of t f at) w has s;
}

pub fun_passes : (d : FunDef) (w : Walk) → if_any (there (length w.scope.structs)) d.result ≡ true → Passes w (with_fun d w)
fun_passes d w has s = record {
  onward = record {
    clean = λ c. c;
    more_vars = [];
    vars = sym (append-nil w.vars);
    structs = omega arith;
    bodies = λ c k row o is body. is;
    definitions = refl;
    signatures = λ k g is. record { same = g; is = is; result = refl; params = refl; has_body = λ b. b };
    functions = λ m x k is mean. is;
  };
  standing = record {
    names = s.names;
    goods = s.goods;
    tags = s.tags;
    fields = s.fields;
    vars = s.vars;
    results = all_both (λ (d : FunDef). if_any (there (length w.scope.structs)) d.result) w.funs (d ∷ []) s.results (ap (λ (b : Bool). b && true) has);
  };
}

-- the places in a definition of a function: behind its heading, its parameters, its body, at the end of its scope, and behind its slot
module _ (h : Head) (body : Block) (w : Walk) where
  abbrev pub headed : Walk × Returned
  headed = walked_heading h true w

  abbrev pub with_params : Walk × List ℕ
  with_params = each (walked_param (length w.funs)) h.params headed.0

  abbrev pub inside : Walk × MadeBlock
  inside = walked_block body (body_nesting (length w.funs) headed.1) with_params.0

  abbrev pub left : Walk
  left = closed (length headed.0.scope.names) inside.0

  abbrev pub slotted : Walk
  slotted = with_slot headed.1 (length w.funs) (brace_of body) left

  -- the function that is made of a definition
  abbrev pub made_of : FunDef
  made_of = fun_of h headed.1 with_params.1 inside.1

  abbrev pub finished : Walk
  finished = noted (no_value headed.1 (is_main (text_or_none h.result.name)) (flow_of inside.1) (brace_of body)) slotted

  pub params_grow : Grows (home.Param (length w.funs)) headed.0 with_params.0
  params_grow = each_grows (home.Param (length w.funs)) (walked_param (length w.funs)) (λ d v. declared_grows d (home.Param (length w.funs)) 1 v) h.params headed.0

  pub inside_grows : Grows (home.Local (length w.funs)) with_params.0 inside.0
  inside_grows = block_grows body (body_nesting (length w.funs) headed.1) with_params.0

  -- the names of parameters and locals
  abbrev pub own_names : List (List ℕ × Entry)
  own_names = params_grow.more_names ++ inside_grows.more_names

  pub named_more : inside.0.scope.names ≡ headed.0.scope.names ++ own_names
  named_more =
      inside_grows.names ∙ ap (λ (xs : List (List ℕ × Entry)). xs ++ inside_grows.more_names) params_grow.names
      ∙ append_assoc headed.0.scope.names params_grow.more_names inside_grows.more_names

  pub own_local : (n : List ℕ) (e : Entry) → found own_names n ≡ Some e → IsLocal e.meaning
  own_local n = found_either (λ (e : Entry). IsLocal e.meaning) params_grow.more_names inside_grows.more_names n (params_grow.locals n) (inside_grows.locals n)

  pub left_passes : Passes inside.0 left
  left_passes s = record { onward = closed_onward headed.0 inside.0 own_names named_more own_local; standing = closed_stands headed.0 inside.0 own_names named_more s }

  pub headed_inside : Passes headed.0 inside.0
  headed_inside =
      passes_both headed.0 with_params.0 inside.0 (grows_pass (home.Param (length w.funs)) headed.0 with_params.0 params_grow)
      (grows_pass (home.Local (length w.funs)) with_params.0 inside.0 inside_grows)

  pub headed_left : Passes headed.0 left
  headed_left = passes_both headed.0 inside.0 left headed_inside left_passes

  pub definition_passes : Passes w (walked_fun h body w)
  definition_passes s =
      let a = heading_passes h true w s in
      let b = headed_left a.standing in
      let more : length headed.0.scope.structs ≤ length left.scope.structs = b.onward.structs in
      let has = result_more (length headed.0.scope.structs) (length left.scope.structs) more (result_or_none headed.1) (returned_there h true w s) in
      let c = slot_passes headed.1 (length w.funs) (brace_of body) left has b.standing in
      let grown : length left.scope.structs ≤ length slotted.scope.structs = c.onward.structs in
      let d = note_passes (no_value headed.1 (is_main (text_or_none h.result.name)) (flow_of inside.1) (brace_of body)) slotted c.standing in
      let e = fun_passes made_of finished (result_more (length left.scope.structs) (length slotted.scope.structs) grown (result_or_none headed.1) has) d.standing in
      record {
        onward =
            onward_both w headed.0 (walked_fun h body w) a.onward (onward_both headed.0 left (walked_fun h body w) b.onward
            (onward_both left slotted (walked_fun h body w) c.onward (onward_both slotted finished (walked_fun h body w) d.onward e.onward)));
        standing = e.standing;
      }

-- a file

pub top_passes : (t : Top) (w : Walk) → Passes w (walked_top w t)
top_passes (top.Struct tag body alias) w = struct_passes tag body alias w
top_passes (top.Globals ds) w = globals_pass ds w
top_passes (top.Proto h) w = heading_passes h false w
top_passes (top.Fun h body) w = definition_passes h body w

pub tops_pass : (ts : List Top) (w : Walk) → Passes w (fold walked_top w ts)
tops_pass [] w = passes_all w
tops_pass (t ∷ ts) w = passes_both w (walked_top w t) (fold walked_top w (t ∷ ts)) (top_passes t w) (tops_pass ts (walked_top w t))

-- before the first declaration
pub start_stands : (rows : List (List ℕ × ℕ)) → Standing (start rows)
start_stands rows = record {
  names = λ n e is. found_none (λ (e : Entry). MeansIn (start rows) e.meaning) n e is;
  goods = λ c n e f is bad. absurd cc;
  tags = λ n k is. found_none (λ (k : ℕ). k < 0) n k is;
  fields = refl;
  vars = refl;
  results = refl;
}
