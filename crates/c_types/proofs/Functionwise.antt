-- What is known of each function of a text's program where its definition is walked, and of what a call calls.
use Rattle.std.proofs.Common.{◌≡◌, ℕ, zero, suc, ◌+◌, ◌≤◌, ◌==◌, Bool, true, false, ◌&&◌, List, [], ◌∷◌, ◌++◌, length, map, flat_map, slice_get, Option, Some, None, option_map, refl, sym, ap, subst, ◌∙◌, arith, append-nil, append_assoc}
use Rattle.std.specs.Prelude.{IsTrue, not, if◌then◌else◌}
use Rattle.std.specs.Cmp.Lexicographic.{bytes_decides}
use Rattle.std.specs.List.{fold}
use Rattle.std.proofs.lemmas.List.Sums.{fold-append}
use Rattle.std.proofs.lemmas.Bool.{and_parts, eqb-true}
use Rattle.std.proofs.lemmas.List.{map-append, length-map}
use Rattle.std.proofs.lemmas.Option.{slice_get-map}
use Rattle.c_tree.specs.Flow.{flow_of}
use Rattle.c_tree.specs.WellFormed.{each_from, each_function}
use Rattle.c_tree.specs.declared.program.FunDef.{FunDef}
use Rattle.c_tree.specs.declared.program.Home.TheVariants as home
use Rattle.c_tree.specs.declared.program.Program.{Program}
use Rattle.c_tree.specs.declared.program.Ty.{Ty}
use Rattle.c_tree.specs.declared.tree.Block.{Block}
use Rattle.c_tree.specs.declared.tree.Head.{Head}
use Rattle.c_tree.specs.declared.tree.Top.{Top}
use Rattle.c_tree.specs.declared.tree.Top.TheVariants as top
use Rattle.c_tree.specs.declared.tree.Tree.{Tree}
use Rattle.c_tree.specs.declared.tree.Word.{Word}
use Rattle.c_types.specs.declared.faults.Rule.TheVariants as rule
use Rattle.c_types.specs.declared.judged.Callee.TheVariants as callee
use Rattle.c_types.specs.declared.scope.Entry.{Entry}
use Rattle.c_types.specs.declared.scope.Heading.{Heading}
use Rattle.c_types.specs.declared.scope.Meaning.{Meaning}
use Rattle.c_types.specs.declared.scope.Meaning.TheVariants as meaning
use Rattle.c_types.specs.declared.scope.Returned.{Returned}
use Rattle.c_types.specs.declared.scope.Returned.TheVariants as returned
use Rattle.c_types.specs.declared.scope.Signature.{Signature}
use Rattle.c_types.specs.declared.scope.Walk.{Walk}
use Rattle.c_types.specs.Calls.{main_name, is_main, callee_defined, callee_as, callee_by, callee_of}
use Rattle.c_types.specs.Fits.{fault}
use Rattle.c_types.specs.Functions.{result_faults, differs, body_again, again_faults, noted_again, marked, function_as, function_by, main_faults, function_named, with_slot, no_value, brace_of, result_or_none, walked_fun}
use Rattle.c_types.specs.InTurn.{each}
use Rattle.c_types.specs.Program.{with_definition, definition_named, with_top, definitions, start, walked_top, walked_from, walked, main_of, IsProgram}
use Rattle.c_types.specs.Scopes.{noted, with_scope, or_int, type_faults, text_or_none, word_or, naming, spec_type, result_type}
use Rattle.c_types.specs.Tables.{found, place_of}
use Rattle.c_types.proofs.Headings.{row_at, place_behind, found_at_row, types_on, IsKnown, known_on, clean_unless, Heads, definition_heads, param_types, name_remembers}
use Rattle.c_types.proofs.Numbering.{first_empty}
use Rattle.c_types.proofs.NumberingCalls.{second_empty}
use Rattle.c_types.proofs.Passing.{Passes, no_home, note_passes, named_passes, fun_passes, returned_there, params_grow, inside_grows, own_names, named_more, own_local, tops_pass, top_passes, start_stands, types_of, head_types, types_grow, types_good, heading_passes, headed, with_params, inside, left, slotted, made_of, finished, definition_passes, headed_left, slot_passes}
use Rattle.c_types.proofs.NumberingLeaves.{gap_numbers, gap_count}
use Rattle.c_types.proofs.NumberingTops.{gap_tops, heading_quiet, struct_quiet, globals_quiet, slot_quiet}
use Rattle.c_types.proofs.Rows.{get_either, get_one, get_none}
use Rattle.c_types.proofs.Standing.{result_more, closed_onward, type_in, Standing, remembers_both, Onward, onward_both, grows_onward}

-- the functions so far

abbrev pub row_of : FunDef → List ℕ × ℕ
row_of d = (d.name, d.at)

-- what is known behind some declarations: where no rule is broken, the functions so far are the ones that are defined there
pub record Sofar (rows : List (List ℕ × ℕ)) (w : Walk) : Type 0 where
  pub standing : Standing w
  pub rows_are : w.faults ≡ [] → rows ≡ map row_of w.funs
  pub known : w.faults ≡ [] → (k : ℕ) (d : FunDef) → slice_get w.funs k ≡ Some d → IsKnown w d

-- a declaration without a body
quiet_sofar : (rows : List (List ℕ × ℕ)) (w u : Walk) → Passes w u → u.funs ≡ w.funs → Sofar rows w → Sofar rows u
quiet_sofar rows w u goes funs s =
    let p = goes s.standing in
    record {
      standing = p.standing;
      rows_are = λ c. s.rows_are (p.onward.clean c) ∙ ap (λ (ds : List FunDef). map row_of ds) (sym funs);
      known = λ c k d is. known_on w u d p.onward (s.known (p.onward.clean c) k d (ap (λ (ds : List FunDef). slice_get ds k) (sym funs) ∙ is));
    }

slot_funs : (t : Returned) (f at : ℕ) (w : Walk) → (with_slot t f at w).funs ≡ w.funs
slot_funs returned.Nothing f at w = refl
slot_funs (returned.Value t) f at w = refl
slot_funs (returned.Bad e) f at w = refl

module _ (h : Head) (body : Block) (w : Walk) where
  -- a definition's function comes behind the earlier ones
  pub definition_funs : (walked_fun h body w).funs ≡ w.funs ++ made_of h body w ∷ []
  definition_funs =
      ap (λ (ds : List FunDef). ds ++ made_of h body w ∷ [])
      (slot_funs (headed h body w).1 (length w.funs) (brace_of body) (left h body w) ∙ (inside_grows h body w).funs ∙ (params_grow h body w).funs ∙ (heading_quiet gap_numbers gap_count gap_tops h true w).funs)

  pub finished_clean : (walked_fun h body w).faults ≡ [] → (slotted h body w).faults ≡ []
  finished_clean c = first_empty (slotted h body w).faults (no_value (headed h body w).1 (is_main (text_or_none h.result.name)) (flow_of (inside h body w).1) (brace_of body)) c

  pub left_clean : (walked_fun h body w).faults ≡ [] → (left h body w).faults ≡ []
  left_clean c = (slot_quiet gap_numbers gap_count gap_tops (headed h body w).1 (length w.funs) (brace_of body) (left h body w)).clean (finished_clean c)

  pub headed_clean : (walked_fun h body w).faults ≡ [] → (headed h body w).0.faults ≡ []
  headed_clean c = (params_grow h body w).clean ((inside_grows h body w).clean (left_clean c))

  -- from the end of the body's scope to behind the definition
  left_onward : Standing w → Onward (left h body w) (walked_fun h body w)
  left_onward s =
      let a = heading_passes h true w s in
      let b = headed_left h body w a.standing in
      let more : length (headed h body w).0.scope.structs ≤ length (left h body w).scope.structs = b.onward.structs in
      let has = result_more (length (headed h body w).0.scope.structs) (length (left h body w).scope.structs) more (result_or_none (headed h body w).1) (returned_there h true w s) in
      let c = slot_passes (headed h body w).1 (length w.funs) (brace_of body) (left h body w) has b.standing in
      let grown : length (left h body w).scope.structs ≤ length (slotted h body w).scope.structs = c.onward.structs in
      let d = note_passes (no_value (headed h body w).1 (is_main (text_or_none h.result.name)) (flow_of (inside h body w).1) (brace_of body)) (slotted h body w) c.standing in
      let e = fun_passes (made_of h body w) (finished h body w) (result_more (length (left h body w).scope.structs) (length (slotted h body w).scope.structs) grown (result_or_none (headed h body w).1) has) d.standing in
      onward_both (left h body w) (slotted h body w) (walked_fun h body w) c.onward (onward_both (slotted h body w) (finished h body w) (walked_fun h body w) d.onward e.onward)

  -- from behind the body
  pub inside_onward : Standing w → Onward (inside h body w).0 (walked_fun h body w)
  inside_onward s =
      onward_both (inside h body w).0 (left h body w) (walked_fun h body w)
      (closed_onward (headed h body w).0 (inside h body w).0 (own_names h body w) (named_more h body w) (own_local h body w)) (left_onward s)

  -- from behind the parameters
  pub params_onward : Standing w → Onward (with_params h body w).0 (walked_fun h body w)
  params_onward s =
      onward_both (with_params h body w).0 (inside h body w).0 (walked_fun h body w)
      (grows_onward (home.Local (length w.funs)) (with_params h body w).0 (inside h body w).0 (inside_grows h body w)) (inside_onward s)

  -- from behind the heading
  pub headed_onward : Standing w → Onward (headed h body w).0 (walked_fun h body w)
  headed_onward s =
      onward_both (headed h body w).0 (with_params h body w).0 (walked_fun h body w)
      (grows_onward (home.Param (length w.funs)) (headed h body w).0 (with_params h body w).0 (params_grow h body w)) (params_onward s)

  -- behind a definition without faults its function is known
  pub definition_known : Standing w → (walked_fun h body w).faults ≡ [] → IsKnown (walked_fun h body w) (made_of h body w)
  definition_known s clean =
      let u = (headed h body w).0 in
      let x = walked_fun h body w in
      let f = length w.funs in
      let r = result_type h.result w.scope in
      let ts = each spec_type h.params r.0 in
      let heads = definition_heads h w s (headed_clean clean) in
      let v = head_types h w in
      let types_clean : v.faults ≡ [] = (named_passes h true (types_of h w) h.result.name v (types_good h w) ((types_grow no_home h w).stands s)).onward.clean (headed_clean clean) in
      let param_faults : flat_map type_faults ts.1 ≡ [] = second_empty (result_faults r.1) (flat_map type_faults ts.1) (second_empty w.faults (result_faults r.1 ++ flat_map type_faults ts.1) types_clean) in
      let all_types = with_scope w ts.0 in
      let remembers = remembers_both all_types v u (record { names = λ n e is. is; tags = λ n j is. is }) (name_remembers h true (types_of h w) h.result.name v) in
      let params = param_types f h.params (with_scope w r.0) u param_faults remembers in
      let on = headed_onward s in
      let name : text_or_none h.result.name ≡ heads.word.text = ap text_or_none heads.named in
      let k = heads.headed in
      let there = on.signatures k.place k.signature k.signed in
      record {
        entry = k.entry;
        place = k.place;
        signature = there.same;
        named = ap (found x.scope.names) name ∙ on.functions heads.word.text k.entry k.place k.named k.means;
        means = k.means;
        signed = there.is;
        come = there.has_body k.come;
        result = there.result ∙ k.result_is;
        params = types_on (with_params h body w).0 x (params_onward s) (with_params h body w).1 (map or_int ts.1) params ∙ ap (λ (us : List Ty). map Some us) (sym (there.params ∙ k.params_are));
      }

-- a function's body declared again is a fault

marked_faults : (k : ℕ) (o : Option Signature) (w : Walk) → (marked k o w).faults ≡ w.faults
marked_faults k None w = refl
marked_faults k (Some g) w = refl

body_twice : (n : Word) (t : Heading) (k : ℕ) (g : Signature) (w : Walk) → slice_get w.signatures k ≡ Some g → g.has_body ≡ true → (function_as n true t (meaning.Function k) w).faults ≡ [] → ⊥
body_twice n t k g w is come clean =
    let v = noted_again n true t (slice_get w.signatures k) w in
    let quiet : v.faults ≡ [] = sym (marked_faults k (slice_get v.signatures k) v) ∙ clean in
    let noted_some : (noted (again_faults true t g n.at) w).faults ≡ [] = ap (λ (o : Option Signature). (noted_again n true t o w).faults) (sym is) ∙ quiet in
    let none : again_faults true t g n.at ≡ [] = second_empty w.faults (again_faults true t g n.at) noted_some in
    let once : not (true && g.has_body) ≡ true = clean_unless (not (true && g.has_body)) rule.Twice n.at (first_empty (body_again true g n.at) (differs t g n.at) none) in
    let two : not (true && true) ≡ true = ap (λ (b : Bool). not (true && b)) (sym come) ∙ once in
    absurd cc

name_twice : (n : Word) (t : Heading) (e : Entry) (k : ℕ) (g : Signature) (w : Walk) → found w.scope.names n.text ≡ Some e → e.meaning ≡ meaning.Function k → slice_get w.signatures k ≡ Some g → g.has_body ≡ true
    → (function_by n true t (found w.scope.names n.text) w).faults ≡ [] → ⊥
name_twice n t e k g w is means signed come clean =
    let by_entry : (function_by n true t (Some e) w).faults ≡ [] = ap (λ (o : Option Entry). (function_by n true t o w).faults) (sym is) ∙ clean in
    body_twice n t k g w signed come (ap (λ (m : Meaning). (function_as n true t m w).faults) (sym means) ∙ by_entry)

module _ (rows : List (List ℕ × ℕ)) (h : Head) (body : Block) (w : Walk) (s : Sofar rows w) (clean : (walked_fun h body w).faults ≡ []) where
  heads_here : Heads h (headed h body w).0 (result_or_none (headed h body w).1) (map or_int (each spec_type h.params (result_type h.result w.scope).0).1)
  heads_here = definition_heads h w s.standing (headed_clean h body w clean)

  clean_before : w.faults ≡ []
  clean_before = (heading_passes h true w s.standing).onward.clean (headed_clean h body w clean)

  -- a function that is known isn't defined again
  not_known : (d : FunDef) → d.name ≡ heads_here.word.text → IsKnown w d → ⊥
  not_known d same k =
      let n = heads_here.word in
      let v = head_types h w in
      let u = noted (main_faults h n) v in
      let on = onward_both w v u (grows_onward no_home w v (types_grow no_home h w)) (note_passes (main_faults h n) v ((types_grow no_home h w).stands s.standing)).onward in
      let there = on.signatures k.place k.signature k.signed in
      let name : found u.scope.names n.text ≡ Some k.entry = on.functions n.text k.entry k.place (ap (found w.scope.names) (sym same) ∙ k.named) k.means in
      let here : (function_named h true (types_of h w) (Some n) v).faults ≡ [] = ap (λ (o : Option Word). (function_named h true (types_of h w) o v).faults) (sym heads_here.named) ∙ headed_clean h body w clean in
      name_twice n (types_of h w) k.entry k.place there.same u name k.means there.is (there.has_body k.come) here

  no_row : (k : ℕ) (row : List ℕ × ℕ) (o : Option FunDef) → slice_get w.funs k ≡ o → option_map row_of o ≡ Some row → heads_here.word.text ≡ row.0 → ⊥
  no_row k row None is has same = absurd cc
  no_row k row (Some d) is has same =
      let one : row_of d ≡ row = cc in
      not_known d (ap (λ (r : List ℕ × ℕ). r.0) one ∙ sym same) (s.known clean_before k d is)

  twice : (at : ℕ) → found rows heads_here.word.text ≡ Some at → ⊥
  twice at is =
      let hit = found_at_row rows heads_here.word.text at is in
      let listed : slice_get (map row_of w.funs) hit.0 ≡ Some hit.1.row = ap (λ (rs : List (List ℕ × ℕ)). slice_get rs hit.0) (sym (s.rows_are clean_before)) ∙ hit.1.is in
      no_row hit.0 hit.1.row (slice_get w.funs hit.0) refl (sym (slice_get-map row_of w.funs hit.0) ∙ listed) hit.1.same

  by_found : (o : Option ℕ) → found rows heads_here.word.text ≡ o → o ≡ None
  by_found None is = refl
  by_found (Some at) is = absurd (twice at is)

  not_defined : found rows heads_here.word.text ≡ None
  not_defined = let none = by_found (found rows heads_here.word.text) refl in none

  -- the name of the function and its offset
  name_here : (made_of h body w).name ≡ heads_here.word.text
  name_here = ap text_or_none heads_here.named

  row_here : row_of (made_of h body w) ≡ (heads_here.word.text, heads_here.word.at)
  row_here =
      ap (λ (n : List ℕ). (n, naming h.result)) name_here
      ∙ ap (λ (o : Option Word). (heads_here.word.text, word_or o h.result.at)) heads_here.named

  rows_more : with_top rows (top.Fun h body) ≡ rows ++ row_of (made_of h body w) ∷ []
  rows_more =
      ap (definition_named rows) heads_here.named ∙ ap (with_definition rows heads_here.word) not_defined
      ∙ ap (λ (r : List ℕ × ℕ). rows ++ r ∷ []) (sym row_here)

  -- no earlier function has the name
  pub new_name : found (map row_of w.funs) (made_of h body w).name ≡ None
  new_name = ap (λ (rs : List (List ℕ × ℕ)). found rs (made_of h body w).name) (sym (s.rows_are clean_before)) ∙ ap (found rows) name_here ∙ not_defined

fun_sofar : (rows : List (List ℕ × ℕ)) (h : Head) (body : Block) (w : Walk) → Sofar rows w → (walked_fun h body w).faults ≡ [] → Sofar (with_top rows (top.Fun h body)) (walked_fun h body w)
fun_sofar rows h body w s clean =
    let x = walked_fun h body w in
    let p = definition_passes h body w s.standing in
    record {
      standing = p.standing;
      rows_are = λ c.
          rows_more rows h body w s clean ∙ ap (λ (rs : List (List ℕ × ℕ)). rs ++ row_of (made_of h body w) ∷ []) (s.rows_are (p.onward.clean c))
          ∙ sym (map-append row_of w.funs (made_of h body w ∷ [])) ∙ ap (map row_of) (sym (definition_funs h body w));
      known = λ c k d is.
          get_either (IsKnown x) w.funs (made_of h body w ∷ []) (λ j e at. known_on w x e p.onward (s.known (p.onward.clean c) j e at))
          (λ j e at. get_one (IsKnown x) (made_of h body w) (definition_known h body w s.standing c) j e at) k d (ap (λ (ds : List FunDef). slice_get ds k) (sym (definition_funs h body w)) ∙ is);
    }

top_sofar : (rows : List (List ℕ × ℕ)) (t : Top) (w : Walk) → Sofar rows w → (walked_top w t).faults ≡ [] → Sofar (with_top rows t) (walked_top w t)
top_sofar rows (top.Struct tag body alias) w s clean = quiet_sofar rows w (walked_top w (top.Struct tag body alias)) (top_passes (top.Struct tag body alias) w) (struct_quiet gap_numbers gap_count gap_tops tag body alias w).funs s
top_sofar rows (top.Globals ds) w s clean = quiet_sofar rows w (walked_top w (top.Globals ds)) (top_passes (top.Globals ds) w) (globals_quiet gap_numbers gap_count gap_tops ds w).funs s
top_sofar rows (top.Proto h) w s clean = quiet_sofar rows w (walked_top w (top.Proto h)) (top_passes (top.Proto h) w) (heading_quiet gap_numbers gap_count gap_tops h false w).funs s
top_sofar rows (top.Fun h body) w s clean = fun_sofar rows h body w s clean

pub tops_sofar : (ts : List Top) (rows : List (List ℕ × ℕ)) (w : Walk) → Sofar rows w → (fold walked_top w ts).faults ≡ [] → Sofar (fold with_top rows ts) (fold walked_top w ts)
tops_sofar [] rows w s clean = s
tops_sofar (t ∷ ts) rows w s clean =
    let u = walked_top w t in
    let here = top_passes t w s.standing in
    let clean_here : u.faults ≡ [] = (tops_pass ts u here.standing).onward.clean clean in
    tops_sofar ts (with_top rows t) u (top_sofar rows t w s clean_here) clean

start_sofar : (rows : List (List ℕ × ℕ)) → Sofar [] (start rows)
start_sofar rows = record { standing = start_stands rows; rows_are = λ c. refl; known = λ c k d is. get_none (IsKnown (start rows)) k d is }

-- the end of a file without faults
pub all_sofar : (t : Tree) → (walked t).faults ≡ [] → Sofar (definitions t.tops) (walked t)
all_sofar t clean = tops_sofar t.tops [] (start (definitions t.tops)) (start_sofar (definitions t.tops)) clean

-- what is known at a declaration of a file without faults
pub record At (t : Tree) (x : Top) (w : Walk) : Type 0 where
  pub earlier : List Top
  pub later : List Top
  pub place : t.tops ≡ earlier ++ x ∷ later
  pub way : w ≡ walked_from (start (definitions t.tops)) earlier
  pub sofar : Sofar (fold with_top [] earlier) w
  pub clean : (walked_top w x).faults ≡ []
  pub rest : Onward (walked_top w x) (walked t)
  pub more_funs : List FunDef
  pub funs : (walked t).funs ≡ (walked_top w x).funs ++ more_funs

-- functions are added behind the earlier ones
record AddsFuns (w u : Walk) : Type 0 where
  more : List FunDef
  funs : u.funs ≡ w.funs ++ more

no_funs : (w u : Walk) → u.funs ≡ w.funs → AddsFuns w u
no_funs w u same = record { more = []; funs = same ∙ sym (append-nil w.funs) }

top_funs : (x : Top) (w : Walk) → AddsFuns w (walked_top w x)
top_funs (top.Struct tag body alias) w = no_funs w (walked_top w (top.Struct tag body alias)) (struct_quiet gap_numbers gap_count gap_tops tag body alias w).funs
top_funs (top.Globals ds) w = no_funs w (walked_top w (top.Globals ds)) (globals_quiet gap_numbers gap_count gap_tops ds w).funs
top_funs (top.Proto h) w = no_funs w (walked_top w (top.Proto h)) (heading_quiet gap_numbers gap_count gap_tops h false w).funs
top_funs (top.Fun h body) w = record { more = made_of h body w ∷ []; funs = definition_funs h body w }

tops_funs : (ts : List Top) (w : Walk) → AddsFuns w (fold walked_top w ts)
tops_funs [] w = no_funs w w refl
tops_funs (x ∷ ts) w =
    let here = top_funs x w in
    let rest = tops_funs ts (walked_top w x) in
    record { more = here.more ++ rest.more; funs = rest.funs ∙ ap (λ (ds : List FunDef). ds ++ rest.more) here.funs ∙ append_assoc w.funs here.more rest.more }

-- what holds before the first declaration of a file without faults, and is kept by each, holds at its end
module _ (t : Tree) (clean : (walked t).faults ≡ []) (P : Walk → Type 0) (keeps : (x : Top) (w : Walk) → At t x w → P w → P (walked_top w x)) where
  tops_keep : (ts earlier : List Top) (w : Walk) → t.tops ≡ earlier ++ ts → w ≡ walked_from (start (definitions t.tops)) earlier → fold walked_top w ts ≡ walked t → Sofar (fold with_top [] earlier) w → P w → P (walked t)
  tops_keep [] earlier w place way ends s holds = subst P ends holds
  tops_keep (x ∷ ts) earlier w place way ends s holds =
      let u = walked_top w x in
      let here = top_passes x w s.standing in
      let rest = (tops_pass ts u here.standing).onward in
      let clean_here : u.faults ≡ [] = rest.clean (ap (λ (v : Walk). v.faults) ends ∙ clean) in
      let more = tops_funs ts u in
      let at : At t x w = record {
        earlier = earlier;
        later = ts;
        place = place;
        way = way;
        sofar = s;
        clean = clean_here;
        rest = subst (Onward u) ends rest;
        more_funs = more.more;
        funs = ap (λ (v : Walk). v.funs) (sym ends) ∙ more.funs;
      } in
      tops_keep ts (earlier ++ x ∷ []) u (place ∙ sym (append_assoc earlier (x ∷ []) ts)) (ap (λ (v : Walk). walked_top v x) way ∙ sym (fold-append walked_top (start (definitions t.tops)) earlier (x ∷ []))) ends
      (subst (λ (rows : List (List ℕ × ℕ)). Sofar rows u) (sym (fold-append with_top [] earlier (x ∷ []))) (top_sofar (fold with_top [] earlier) x w s clean_here))
      (keeps x w at holds)

  pub by_tops : P (start (definitions t.tops)) → P (walked t)
  by_tops = tops_keep t.tops [] (start (definitions t.tops)) refl refl refl (start_sofar (definitions t.tops))

-- what is known where a function's definition begins
pub record Before (t : Tree) (h : Head) (body : Block) (w : Walk) : Type 0 where
  pub earlier : List Top
  pub later : List Top
  pub place : t.tops ≡ earlier ++ top.Fun h body ∷ later
  pub way : w ≡ walked_from (start (definitions t.tops)) earlier
  pub sofar : Sofar (fold with_top [] earlier) w
  pub number : place_of (definitions t.tops) (made_of h body w).name ≡ Some (length w.funs)
  pub definitions : w.definitions ≡ definitions t.tops
  pub clean : (walked_fun h body w).faults ≡ []
  pub rest : Onward (walked_fun h body w) (walked t)

module _ (t : Tree) (clean : (walked t).faults ≡ []) (h : Head) (body : Block) (w : Walk) (a : At t (top.Fun h body) w) where
  -- the functions of the file around one
  pub funs_around : (walked t).funs ≡ w.funs ++ made_of h body w ∷ a.more_funs
  funs_around = a.funs ∙ ap (λ (ds : List FunDef). ds ++ a.more_funs) (definition_funs h body w) ∙ append_assoc w.funs (made_of h body w ∷ []) a.more_funs

  -- the place of its name among the definitions
  numbered_so : place_of (definitions t.tops) (made_of h body w).name ≡ Some (length w.funs)
  numbered_so =
      let d = made_of h body w in
      let rows : definitions t.tops ≡ map row_of w.funs ++ (d.name, d.at) ∷ map row_of a.more_funs = (all_sofar t clean).rows_are clean ∙ ap (map row_of) funs_around ∙ map-append row_of w.funs (d ∷ a.more_funs) in
      ap (λ (rs : List (List ℕ × ℕ)). place_of rs d.name) rows
      ∙ place_behind (map row_of w.funs) d.name d.at (map row_of a.more_funs) (new_name (fold with_top [] a.earlier) h body w a.sofar a.clean) ∙ ap Some (length-map w.funs row_of)

  pub before_so : Before t h body w
  before_so = record {
    earlier = a.earlier;
    later = a.later;
    place = a.place;
    way = a.way;
    sofar = a.sofar;
    number = numbered_so;
    definitions = ap (λ (v : Walk). v.definitions) a.way ∙ (tops_pass a.earlier (start (definitions t.tops)) (start_stands (definitions t.tops))).onward.definitions;
    clean = a.clean;
    rest = a.rest;
  }

module _ (rule : ℕ → FunDef → Bool) where
  one_more : (k : ℕ) (ds : List FunDef) (d : FunDef) → each_from rule k ds ≡ true → rule (k + length ds) d ≡ true → each_from rule k (ds ++ d ∷ []) ≡ true
  one_more k [] d all one =
      let here : k + 0 ≡ k = omega arith in
      ap (λ (b : Bool). b && true) (ap (λ (j : ℕ). rule j d) (sym here) ∙ one)
  one_more k (c ∷ ds) d all one =
      let parts = and_parts (rule k c) (each_from rule (k + 1) ds) all in
      let here : (k + 1) + length ds ≡ k + suc (length ds) = omega arith in
      ap (λ (b : Bool). b && each_from rule (k + 1) (ds ++ d ∷ [])) parts.0 ∙ one_more (k + 1) ds d parts.1 (ap (λ (j : ℕ). rule j d) here ∙ one)

  -- what holds of all holds of each
  pub rule_at : (k : ℕ) (ds : List FunDef) (j : ℕ) (d : FunDef) → each_from rule k ds ≡ true → slice_get ds j ≡ Some d → rule (k + j) d ≡ true
  rule_at k [] j d all is = absurd cc
  rule_at k (c ∷ ds) zero d all is =
      let same : c ≡ d = cc in
      let here : k + 0 ≡ k = omega arith in
      ap (λ (i : ℕ). rule i d) here ∙ ap (rule k) (sym same) ∙ (and_parts (rule k c) (each_from rule (k + 1) ds) all).0
  rule_at k (c ∷ ds) (suc j) d all is =
      let here : k + suc j ≡ (k + 1) + j = omega arith in
      ap (λ (i : ℕ). rule i d) here ∙ rule_at (k + 1) ds j d (and_parts (rule k c) (each_from rule (k + 1) ds) all).1 is

  module _ (t : Tree) (clean : (walked t).faults ≡ []) (each_keeps : (h : Head) (body : Block) (w : Walk) → Before t h body w → rule (length w.funs) (made_of h body w) ≡ true) where
    rule_kept : (x : Top) (w : Walk) → At t x w → each_from rule 0 w.funs ≡ true → each_from rule 0 (walked_top w x).funs ≡ true
    rule_kept (top.Struct tag body alias) w a all = ap (each_from rule 0) (struct_quiet gap_numbers gap_count gap_tops tag body alias w).funs ∙ all
    rule_kept (top.Globals ds) w a all = ap (each_from rule 0) (globals_quiet gap_numbers gap_count gap_tops ds w).funs ∙ all
    rule_kept (top.Proto h) w a all = ap (each_from rule 0) (heading_quiet gap_numbers gap_count gap_tops h false w).funs ∙ all
    rule_kept (top.Fun h body) w a all =
        let here : 0 + length w.funs ≡ length w.funs = omega arith in
        ap (each_from rule 0) (definition_funs h body w)
        ∙ one_more 0 w.funs (made_of h body w) all (ap (λ (j : ℕ). rule j (made_of h body w)) here ∙ each_keeps h body w (before_so t clean h body w a))

    all_kept : each_from rule 0 (walked t).funs ≡ true
    all_kept = by_tops t clean (λ (w : Walk). each_from rule 0 w.funs ≡ true) rule_kept refl

-- a rule holds of each function if it holds of each that is made of a definition
pub by_definitions : (t : Tree) (p : Program) → IsProgram t p → (rule : ℕ → FunDef → Bool)
    → ((h : Head) (body : Block) (w : Walk) → Before t h body w → rule (length w.funs) (made_of h body w) ≡ true) → IsTrue (each_function rule p)
by_definitions t p is rule each_keeps = subst (λ (q : Program). IsTrue (each_function rule q)) (sym is.made) (all_kept rule t is.clean each_keeps)

-- calls

-- the function that a call calls has the types that were looked at, and isn't main
pub record IsCalled (p : Program) (f : ℕ) (g : Signature) : Type 0 where
  pub fun : FunDef
  pub is : slice_get p.funs f ≡ Some fun
  pub result : fun.result ≡ g.result
  pub params : map (type_in p.vars) fun.params ≡ map Some g.params
  pub no_main : (f == p.main) ≡ false

-- where a name is called, it is that of a defined function
record IsDefined (w : Walk) (n : Word) (f k : ℕ) : Type 0 where
  entry : Entry
  named : found w.scope.names n.text ≡ Some entry
  means : entry.meaning ≡ meaning.Function k
  place : place_of w.definitions n.text ≡ Some f
  no_main : is_main n.text ≡ false

defined_so : (w : Walk) (n : Word) (e : Entry) (j : ℕ) (f k : ℕ) (o : Option ℕ) → found w.scope.names n.text ≡ Some e → e.meaning ≡ meaning.Function j → place_of w.definitions n.text ≡ o → callee_defined n j o ≡ callee.Defined f k → IsDefined w n f k
defined_so w n e j f k None is means place h = absurd cc
defined_so w n e j f k (Some g) is means place h = by_main (is_main n.text) refl h
  where
    by_main : (b : Bool) → is_main n.text ≡ b → (if b then callee.Refused (fault rule.Main n.at) else callee.Defined g j) ≡ callee.Defined f k → IsDefined w n f k
    by_main true main h = absurd cc
    by_main false main h =
        let one : g ≡ f = cc in
        let two : j ≡ k = cc in
        record { entry = e; named = is; means = means ∙ ap meaning.Function two; place = place ∙ ap Some one; no_main = main }

entry_so : (w : Walk) (n : Word) (f k : ℕ) (o : Option Entry) → found w.scope.names n.text ≡ o → callee_by w n o ≡ callee.Defined f k → IsDefined w n f k
entry_so w n f k None is h = absurd cc
entry_so w n f k (Some e) is h = by_meaning e.meaning refl h
  where
    by_meaning : (m : Meaning) → e.meaning ≡ m → callee_as w n m ≡ callee.Defined f k → IsDefined w n f k
    by_meaning (meaning.Function j) means h = defined_so w n e j f k (place_of w.definitions n.text) is means refl h
    by_meaning (meaning.Bad x) means h = absurd cc
    by_meaning (meaning.Variable m t) means h = absurd cc
    by_meaning (meaning.Alias s) means h = absurd cc

fun_at : (o : Option FunDef) (row : List ℕ × ℕ) → option_map row_of o ≡ Some row → (d : FunDef) × (o ≡ Some d) × (row_of d ≡ row)
fun_at None row h = absurd cc
fun_at (Some d) row h = (d, refl, cc)

-- the function of a defined name, at the end of the file
pub record AtEnd (t : Tree) (f : ℕ) (n : List ℕ) : Type 0 where
  pub fun : FunDef
  pub is : slice_get (walked t).funs f ≡ Some fun
  pub name : n ≡ fun.name
  pub known : IsKnown (walked t) fun

pub at_end : (t : Tree) → (walked t).faults ≡ [] → (f : ℕ) (n : List ℕ) → place_of (definitions t.tops) n ≡ Some f → AtEnd t f n
at_end t clean f n place =
    let s = all_sofar t clean in
    let row = row_at (definitions t.tops) n f place in
    let listed : slice_get (map row_of (walked t).funs) f ≡ Some row.row = ap (λ (rs : List (List ℕ × ℕ)). slice_get rs f) (sym (s.rows_are clean)) ∙ row.is in
    let found_fun = fun_at (slice_get (walked t).funs f) row.row (sym (slice_get-map row_of (walked t).funs f) ∙ listed) in
    record {
      fun = found_fun.0;
      is = found_fun.1;
      name = row.same ∙ ap (λ (r : List ℕ × ℕ). r.0) (sym found_fun.2);
      known = s.known clean f found_fun.0 found_fun.1;
    }

is_no_main : (t : Tree) (p : Program) → main_of t ≡ Some p.main → (n : List ℕ) (f : ℕ) → place_of (definitions t.tops) n ≡ Some f → is_main n ≡ false → (b : Bool) → (f == p.main) ≡ b → b ≡ false
is_no_main t p main n f place other false e = refl
is_no_main t p main n f place other true e =
    let same : f ≡ p.main = eqb-true f p.main e in
    let a = row_at (definitions t.tops) n f place in
    let b = row_at (definitions t.tops) main_name f (main ∙ ap Some (sym same)) in
    let rows : Some a.row ≡ Some b.row = sym a.is ∙ b.is in
    let row : a.row ≡ b.row = cc in
    let names : n ≡ main_name = a.same ∙ ap (λ (r : List ℕ × ℕ). r.0) row ∙ sym b.same in
    let same_text : is_main n ≡ true = (bytes_decides n main_name).1 names in
    let two : true ≡ false = sym same_text ∙ other in
    absurd cc

called_so : (t : Tree) (p : Program) → IsProgram t p → (w : Walk) → w.definitions ≡ definitions t.tops → Onward w (walked t) → (n : Word) (f k : ℕ) (g : Signature) → IsDefined w n f k → slice_get w.signatures k ≡ Some g → IsCalled p f g
called_so t p is w same on n f k g d signed =
    let u = walked t in
    let place : place_of (definitions t.tops) n.text ≡ Some f = ap (λ (rs : List (List ℕ × ℕ)). place_of rs n.text) (sym same) ∙ d.place in
    let e = at_end t is.clean f n.text place in
    let there = on.signatures k g signed in
    let name : found u.scope.names n.text ≡ Some d.entry = on.functions n.text d.entry k d.named d.means in
    let entries : Some d.entry ≡ Some e.known.entry = sym name ∙ ap (found u.scope.names) e.name ∙ e.known.named in
    let entry_same : d.entry ≡ e.known.entry = cc in
    let meanings : meaning.Function k ≡ meaning.Function e.known.place = sym d.means ∙ ap (λ (x : Entry). x.meaning) entry_same ∙ e.known.means in
    let place_same : k ≡ e.known.place = cc in
    let signatures : Some there.same ≡ Some e.known.signature = sym there.is ∙ ap (slice_get u.signatures) place_same ∙ e.known.signed in
    let one : there.same ≡ e.known.signature = cc in
    record {
      fun = e.fun;
      is = ap (λ (q : Program). slice_get q.funs f) is.made ∙ e.is;
      result = sym e.known.result ∙ ap (λ (s : Signature). s.result) (sym one) ∙ there.result;
      params = ap (λ (q : Program). map (type_in q.vars) e.fun.params) is.made ∙ e.known.params ∙ ap (λ (s : Signature). map Some s.params) (sym one) ∙ ap (λ (ts : List Ty). map Some ts) there.params;
      no_main = let other = is_no_main t p is.main n.text f place d.no_main (f == p.main) refl in other;
    }

pub callee_called : (t : Tree) (p : Program) → IsProgram t p → (w : Walk) → w.definitions ≡ definitions t.tops → Onward w (walked t)
    → (n : Word) (f k : ℕ) (g : Signature) → callee_of w n ≡ callee.Defined f k → slice_get w.signatures k ≡ Some g → IsCalled p f g
callee_called t p is w same on n f k g h signed = called_so t p is w same on n f k g (entry_so w n f k (found w.scope.names n.text) refl h) signed
