-- The gaps and the calls of the program that is made of a text without faults are numbered by their places.
use Rattle.std.proofs.Common.{◌≡◌, ℕ, ◌+◌, Bool, true, false, List, [], ◌∷◌, ◌++◌, length, map, flat_map, slice_get, Option, Some, None, option_map, refl, sym, ap, subst, ◌∙◌, arith, append-nil, append_assoc}
use Rattle.std.specs.Prelude.{nat_lt, slice_set, if◌then◌else◌}
use Rattle.std.specs.List.{fold, range_with_len}
use Rattle.std.proofs.lemmas.List.{map-append, map-id}
use Rattle.c_tree.specs.Fill.{regapped_block}
use Rattle.c_tree.specs.Numbers as listed
use Rattle.c_tree.specs.Numbers.{Gaps, from_all, from_last, gaps_in, gaps_of}
use Rattle.c_tree.specs.declared.program.Block.{Block as MadeBlock}
use Rattle.c_tree.specs.declared.program.Declr.{Declr as MadeDeclr}
use Rattle.c_tree.specs.declared.program.FunDef.{FunDef}
use Rattle.c_tree.specs.declared.program.Gap.{Gap as MadeGap}
use Rattle.c_tree.specs.declared.program.Home.{Home}
use Rattle.c_tree.specs.declared.program.Home.TheVariants as home
use Rattle.c_tree.specs.declared.program.Item.{Item-F as MadeItem-F}
use Rattle.c_tree.specs.declared.program.Item.TheOpen.{Declare, Assign, Do, Nest, If, While, For, Break, Continue, Return}
use Rattle.c_tree.specs.declared.program.Program.{Program}
use Rattle.c_tree.specs.declared.program.Start.{Start as MadeStart}
use Rattle.c_tree.specs.declared.program.Start.TheVariants as start_made
use Rattle.c_tree.specs.declared.tree.Block.{Block}
use Rattle.c_tree.specs.declared.tree.Body.{Body}
use Rattle.c_tree.specs.declared.tree.GlobalDecl.{GlobalDecl}
use Rattle.c_tree.specs.declared.tree.Head.{Head}
use Rattle.c_tree.specs.declared.tree.Spec.{Spec}
use Rattle.c_tree.specs.declared.tree.Top.{Top}
use Rattle.c_tree.specs.declared.tree.Top.TheVariants as top
use Rattle.c_tree.specs.declared.tree.Tree.{Tree}
use Rattle.c_tree.specs.declared.tree.Word.{Word}
use Rattle.c_tree.proofs.Fills.{kept_block}
use Rattle.c_tree.proofs.RegappedFolds.{Algebra, Leads, LeadsOn, led_item, fold_led}
use Rattle.c_types.specs.declared.faults.Fault.{Fault}
use Rattle.c_types.specs.declared.scope.Entry.{Entry}
use Rattle.c_types.specs.declared.scope.Heading.{Heading}
use Rattle.c_types.specs.declared.scope.Heading.TheVariants as heading
use Rattle.c_types.specs.declared.scope.Meaning.{Meaning}
use Rattle.c_types.specs.declared.scope.Meaning.TheVariants as meaning
use Rattle.c_types.specs.declared.scope.Returned.{Returned}
use Rattle.c_types.specs.declared.scope.Returned.TheVariants as returned
use Rattle.c_types.specs.declared.scope.Scope.{Scope}
use Rattle.c_types.specs.declared.scope.Signature.{Signature}
use Rattle.c_types.specs.declared.scope.StructRow.{StructRow}
use Rattle.c_types.specs.declared.scope.Walk.{Walk}
use Rattle.c_types.specs.declared.scope.Written.{Written}
use Rattle.c_types.specs.Blocks.{walked_block}
use Rattle.c_tree.specs.Flow.{flow_of}
use Rattle.c_tree.specs.UserCalls.{Here, from_option, call_calls, right_calls, declr_calls, simple_calls, start_calls, head_calls, item_calls, arm_calls, block_calls, piece_calls, calls_in, calls_from, user_calls}
use Rattle.c_tree.specs.declared.control.UserCall.{UserCall}
use Rattle.c_tree.specs.declared.program.Call.{Call as MadeCall}
use Rattle.c_tree.specs.declared.program.Call.TheVariants as made_call
use Rattle.c_tree.specs.declared.program.ForHead.{ForHead as MadeHead}
use Rattle.c_tree.specs.declared.program.Right.{Right as MadeRight}
use Rattle.c_tree.specs.declared.program.Right.TheVariants as made_right
use Rattle.c_tree.specs.declared.program.Simple.{Simple as MadeSimple}
use Rattle.c_tree.specs.declared.program.VarDef.{VarDef}
use Rattle.c_tree.specs.declared.tree.Expr.{Expr}
use Rattle.c_types.specs.Calls.{is_main}
use Rattle.c_types.specs.Functions.{again_faults, noted_again, marked, with_body, slot_of, no_value, brace_of, fun_of, main_faults, result_faults, heading_of, with_fun, new_function, function_as, function_by, function_named, head_typed, head_behind, walked_heading, body_nesting, walked_param, with_slot, body_ended, body_behind, params_behind, walked_fun, walked_proto}
use Rattle.c_types.specs.InTurn.{each}
use Rattle.c_types.specs.Program.{start, walked_top, walked, faults, made_program, IsProgram, definitions}
use Rattle.c_types.specs.Scopes.{noted, with_scope, with_var, declared, closed, spec_type, result_type, type_faults, text_or_none}
use Rattle.c_types.specs.Structs.{Fields, field_turn, with_row, row_again, numbered, start_number, field_more, field_named, walked_field, walked_fields, walked_body, body_if, alias_if, walked_struct, start_noted, walked_global}
use Rattle.c_types.specs.Tables.{found}
use Rattle.c_types.proofs.Numbering.{range_joined, Numbering, Numbers, Keeps, Gives, of_start, of_head, of_item, of_arm, of_block, of_piece, of_any, in_block, first_empty, keeps_all, keeps_both, gives_both, gives_to, gives_from, block_numbers}
use Rattle.c_types.proofs.NumberingCalls.{call_number, right_number, call_numbers, call_count, declared_calls, calls_lawful}
use Rattle.c_types.proofs.NumberingLeaves.{noted_keeps, scoped_keeps, by_older, gap_numbers, gap_count, gaps_lawful, declared_gaps}

-- the gaps of a block, as they are listed

abbrev none : {A : Type 0} → A → List ℕ
none x = []

nothing_in : {A : Type 0} (xs : List A) → from_all (map none xs) ≡ []
nothing_in [] = refl
nothing_in (x ∷ xs) = nothing_in xs

numbers_joined : (gs : List Gaps) → from_all (map (map (λ (g : MadeGap). g.number)) gs) ≡ map (λ (g : MadeGap). g.number) (from_all gs)
numbers_joined [] = refl
numbers_joined (g ∷ gs) = ap (λ (ns : List ℕ). map (λ (g : MadeGap). g.number) g ++ ns) (numbers_joined gs) ∙ sym (map-append (λ (g : MadeGap). g.number) g (from_all gs))

starts_none : (xs : List MadeStart) → from_all (map (of_start gap_numbers) xs) ≡ []
starts_none [] = refl
starts_none (start_made.Declare d ∷ xs) = starts_none xs
starts_none (start_made.Assign s ∷ xs) = starts_none xs

any_none : {A : Type 0} (o : Option A) → of_any none o ≡ []
any_none None = refl
any_none (Some x) = refl

abbrev gap_lists : Algebra Gaps Gaps Gaps Gaps
gap_lists = record { item = listed.item_gaps; arm = listed.arm_gaps; block = listed.block_gaps; piece = listed.piece_gaps }

abbrev number_lists : Algebra (List ℕ) (List ℕ) (List ℕ) (List ℕ)
number_lists = record { item = of_item gap_numbers; arm = of_arm gap_numbers; block = of_block gap_numbers; piece = of_piece gap_numbers }

abbrev their_numbers : Leads Gaps Gaps Gaps Gaps (List ℕ) (List ℕ) (List ℕ) (List ℕ)
their_numbers = record { item = map (λ g. g.number); arm = map (λ g. g.number); block = map (λ g. g.number); piece = map (λ g. g.number) }

item_listed : (x : MadeItem-F Gaps Gaps Gaps Gaps) → of_item gap_numbers (led_item their_numbers x) ≡ map (λ (g : MadeGap). g.number) (listed.item_gaps x)
item_listed (Declare ds) = nothing_in ds
item_listed (Assign s) = refl
item_listed (Do c) = refl
item_listed (Nest b) = refl
item_listed (If arms None) = ap (λ (ns : List ℕ). ns ++ []) (numbers_joined arms) ∙ sym (map-append (λ (g : MadeGap). g.number) (from_all arms) [])
item_listed (If arms (Some b)) = ap (λ (ns : List ℕ). ns ++ map (λ (g : MadeGap). g.number) b) (numbers_joined arms) ∙ sym (map-append (λ (g : MadeGap). g.number) (from_all arms) b)
item_listed (While test b) = refl
item_listed (For h b) = ap (λ (ns : List ℕ). (ns ++ of_any none h.step) ++ map (λ (g : MadeGap). g.number) b) (starts_none h.start) ∙ ap (λ (ns : List ℕ). ns ++ map (λ (g : MadeGap). g.number) b) (any_none h.step)
item_listed Break = refl
item_listed Continue = refl
item_listed (Return r at) = any_none r

pub gaps_listed : (b : MadeBlock) → in_block gap_numbers b ≡ map (λ (g : MadeGap). g.number) (gaps_in b)
gaps_listed b =
    ap (in_block gap_numbers) (sym (kept_block b))
    ∙ fold_led (λ g. g) gap_lists number_lists their_numbers (record {
      item = item_listed;
      arm = λ x. refl;
      block = λ x. ap (λ (ns : List ℕ). ns ++ x.last_gap.number ∷ []) (numbers_joined x.items) ∙ sym (map-append (λ (g : MadeGap). g.number) (from_all x.items) (x.last_gap ∷ []));
      piece = λ x. refl;
    }) b

-- what a count owes at the top of a file
pub record TopNumbers (n : Numbering) (count : Walk → ℕ) : Type 0 where
  pub numbers : Numbers n count
  pub declares : (d : Spec) (h : Home) (depth : ℕ) (w : Walk) → Keeps count w (declared d h depth w).0
  pub signatures : (w : Walk) (gs : List Signature) → count (record w { signatures = gs }) ≡ count w
  pub variable : (v : VarDef) (w : Walk) → count (with_var v w) ≡ count w
  pub function : (d : FunDef) (w : Walk) → count (with_fun d w) ≡ count w
  pub zero : (rows : List (List ℕ × ℕ)) → count (start rows) ≡ 0

module _ (numbering : Numbering) (count : Walk → ℕ) (law : TopNumbers numbering count) where
  -- a part that makes no function and gives no number
  abbrev Quiet : Walk → Walk → Type 0
  Quiet = Keeps count

  pub note : (fs : List Fault) (w : Walk) → Quiet w (noted fs w)
  note = noted_keeps count law.numbers.fault law.numbers.scope

  pub rescope : (w : Walk) (s : Scope) → Quiet w (with_scope w s)
  rescope = scoped_keeps count law.numbers.fault law.numbers.scope

  -- functions' names

  function_new : (n : Word) (body : Bool) (h : Heading) (w : Walk) → Quiet w (new_function n body h w)
  function_new n body (heading.Bad f) w = rescope w (new_function n body (heading.Bad f) w).scope
  function_new n body (heading.Good g) w = record { clean = λ e. e; funs = refl; counted = law.numbers.scope (record w { signatures = w.signatures ++ record g { has_body = body } ∷ [] }) (new_function n body (heading.Good g) w).scope ∙ law.signatures w (w.signatures ++ record g { has_body = body } ∷ []) }

  again_noted : (n : Word) (body : Bool) (h : Heading) (o : Option Signature) (w : Walk) → Quiet w (noted_again n body h o w)
  again_noted n body h None w = keeps_all count w
  again_noted n body h (Some g) w = note (again_faults body h g n.at) w

  body_marked : (k : ℕ) (o : Option Signature) (w : Walk) → Quiet w (marked k o w)
  body_marked k None w = keeps_all count w
  body_marked k (Some g) w = record { clean = λ e. e; funs = refl; counted = law.signatures w (marked k (Some g) w).signatures }

  body_come : (body : Bool) (k : ℕ) (w : Walk) → Quiet w (with_body body k w)
  body_come true k w = body_marked k (slice_get w.signatures k) w
  body_come false k w = keeps_all count w

  function_twice : (n : Word) (body : Bool) (h : Heading) (k : ℕ) (w : Walk) → Quiet w (function_as n body h (meaning.Function k) w)
  function_twice n body h k w =
      let v = noted_again n body h (slice_get w.signatures k) w in
      keeps_both count w v (with_body body k v) (again_noted n body h (slice_get w.signatures k) w) (body_come body k v)

  function_meant : (n : Word) (body : Bool) (h : Heading) (m : Meaning) (w : Walk) → Quiet w (function_as n body h m w)
  function_meant n body h (meaning.Function k) w = function_twice n body h k w
  function_meant n body h (meaning.Bad f) w = keeps_all count w
  function_meant n body h (meaning.Variable m t) w = note _ w
  function_meant n body h (meaning.Alias s) w = note _ w

  function_found : (n : Word) (body : Bool) (h : Heading) (o : Option Entry) (w : Walk) → Quiet w (function_by n body h o w)
  function_found n body h None w = function_new n body h w
  function_found n body h (Some e) w = function_meant n body h e.meaning w

  function_has_name : (h : Head) (body : Bool) (t : Heading) (o : Option Word) (w : Walk) → Quiet w (function_named h body t o w)
  function_has_name h body t None w = note _ w
  function_has_name h body t (Some n) w =
      keeps_both count w (noted (main_faults h n) w) (function_named h body t (Some n) w) (note (main_faults h n) w)
      (function_found n body t (found w.scope.names n.text) (noted (main_faults h n) w))

  pub heading_quiet : (h : Head) (body : Bool) (w : Walk) → Quiet w (walked_heading h body w).0
  heading_quiet h body w =
      let r = result_type h.result w.scope in
      let ps = each spec_type h.params r.0 in
      let fs = result_faults r.1 ++ flat_map type_faults ps.1 in
      let v = noted fs (with_scope w ps.0) in
      keeps_both count w v (walked_heading h body w).0 (keeps_both count w (with_scope w ps.0) v (rescope w ps.0) (note fs (with_scope w ps.0))) (function_has_name h body (heading_of r.1 ps.1) h.result.name v)

  -- structs

  field_quiet : (n : Word) (t : Written) (rows : Fields) (o : Option Written) (w : Walk) → Quiet w (field_more n t rows o w).0
  field_quiet n t rows None w = keeps_all count w
  field_quiet n t rows (Some older) w = note _ w

  field_name_quiet : (d : Spec) (t : Written) (rows : Fields) (o : Option Word) (w : Walk) → Quiet w (field_named d t rows o w).0
  field_name_quiet d t rows None w = note _ w
  field_name_quiet d t rows (Some n) w = field_quiet n t rows (found rows n.text) w

  one_field_quiet : (d : Spec) (rows : Fields) (w : Walk) → Quiet w (walked_field d rows w).0
  one_field_quiet d rows w =
      let r = spec_type d w.scope in
      let v = noted (type_faults r.1) (with_scope w r.0) in
      keeps_both count w v (walked_field d rows w).0 (keeps_both count w (with_scope w r.0) v (rescope w r.0) (note (type_faults r.1) (with_scope w r.0))) (field_name_quiet d r.1 rows d.name v)

  fields_quiet : (ds : List Spec) (r : Walk × Fields) → Quiet r.0 (fold field_turn r ds).0
  fields_quiet [] r = keeps_all count r.0
  fields_quiet (d ∷ ds) r = keeps_both count r.0 (walked_field d r.1 r.0).0 (fold field_turn r (d ∷ ds)).0 (one_field_quiet d r.1 r.0) (fields_quiet ds (walked_field d r.1 r.0))

  row_quiet : (n : ℕ) (row : StructRow) (w : Walk) → Quiet w (with_row n row w)
  row_quiet n row w = by_place (nat_lt n (length w.scope.structs))
    where
      by_place : (t : Bool) → Quiet w (if t then with_scope w (record w.scope { structs = slice_set w.scope.structs n row }) else w)
      by_place true = rescope w (record w.scope { structs = slice_set w.scope.structs n row })
      by_place false = keeps_all count w

  body_quiet : (tag : Option Word) (n : ℕ) (o : Option Body) (w : Walk) → Quiet w (body_if tag n o w)
  body_quiet tag n None w = keeps_all count w
  body_quiet tag n (Some b) w =
      let fs = row_again (slice_get w.scope.structs n) tag in
      let v = walked_fields b.fields (noted fs w) in
      keeps_both count w (noted fs w) (walked_body tag n b w) (note fs w)
      (keeps_both count (noted fs w) v.0 (walked_body tag n b w) (fields_quiet b.fields (noted fs w, [])) (row_quiet n (record { fields = v.1; body = Some b.at }) v.0))

  alias_quiet : (n : ℕ) (o : Option Word) (w : Walk) → Quiet w (alias_if n o w)
  alias_quiet n None w = keeps_all count w
  alias_quiet n (Some a) w = by_older count law.numbers.fault law.numbers.scope a _ w (found w.scope.names a.text)

  pub struct_quiet : (tag : Option Word) (body : Option Body) (alias : Option Word) (w : Walk) → Quiet w (walked_struct tag body alias w)
  struct_quiet tag body alias w =
      let r = numbered tag w.scope in
      let v = with_scope w r.0 in
      keeps_both count w v (walked_struct tag body alias w) (rescope w r.0)
      (keeps_both count v (body_if tag r.1 body v) (walked_struct tag body alias w) (body_quiet tag r.1 body v) (alias_quiet r.1 alias (body_if tag r.1 body v)))

  -- variables of the file

  start_quiet : (at : ℕ) (o : Option Expr) (r : Walk × Written) → Quiet r.0 (start_noted at o r)
  start_quiet at None r = keeps_all count r.0
  start_quiet at (Some e) r = note _ r.0

  global_quiet : (d : GlobalDecl) (w : Walk) → Quiet w (walked_global d w)
  global_quiet d w =
      let r = declared d.spec (home.Global (start_number d.value)) 0 w in
      keeps_both count w r.0 (walked_global d w) (law.declares d.spec (home.Global (start_number d.value)) 0 w) (start_quiet d.at d.value r)

  pub globals_quiet : (ds : List GlobalDecl) (w : Walk) → Quiet w (fold (λ v d. walked_global d v) w ds)
  globals_quiet [] w = keeps_all count w
  globals_quiet (d ∷ ds) w = keeps_both count w (walked_global d w) (fold (λ v d. walked_global d v) w (d ∷ ds)) (global_quiet d w) (globals_quiet ds (walked_global d w))

  -- functions

  -- the numbers in functions
  abbrev numbers_of : List FunDef → List ℕ
  numbers_of ds = from_all (map (λ (d : FunDef). in_block numbering d.body) ds)

  -- where no rule is broken so far, the functions so far have the numbers so far
  pub record Numbered (w : Walk) : Type 0 where
    pub given : w.faults ≡ [] → numbers_of w.funs ≡ range_with_len 0 (count w)

  still_numbered : (w u : Walk) → Quiet w u → Numbered w → Numbered u
  still_numbered w u k h = record { given = λ e. ap numbers_of k.funs ∙ h.given (k.clean e) ∙ ap (range_with_len 0) (sym k.counted) }

  numbers_more : (ds : List FunDef) (d : FunDef) → numbers_of (ds ++ d ∷ []) ≡ numbers_of ds ++ in_block numbering d.body
  numbers_more [] d = append-nil (in_block numbering d.body)
  numbers_more (c ∷ ds) d = ap (λ (ns : List ℕ). in_block numbering c.body ++ ns) (numbers_more ds d) ∙ sym (append_assoc (in_block numbering c.body) (numbers_of ds) (in_block numbering d.body))

  param_quiet : (f : ℕ) (d : Spec) (w : Walk) → Quiet w (walked_param f d w).0
  param_quiet f d w = law.declares d (home.Param f) 1 w

  pub params_quiet : (f : ℕ) (ds : List Spec) (w : Walk) → Quiet w (each (walked_param f) ds w).0
  params_quiet f [] w = keeps_all count w
  params_quiet f (d ∷ ds) w = keeps_both count w (walked_param f d w).0 (each (walked_param f) (d ∷ ds) w).0 (param_quiet f d w) (params_quiet f ds (walked_param f d w).0)

  pub slot_quiet : (t : Returned) (f at : ℕ) (w : Walk) → Quiet w (with_slot t f at w)
  slot_quiet returned.Nothing f at w = keeps_all count w
  slot_quiet (returned.Value t) f at w = record { clean = λ e. e; funs = refl; counted = law.variable (slot_of t f at) w }
  slot_quiet (returned.Bad e) f at w = keeps_all count w

  -- the function that is made of a body
  with_body_numbered : (v u x : Walk) (d : FunDef) → Numbered v → Gives count v u (in_block numbering d.body) → Quiet u x → Numbered (with_fun d x)
  with_body_numbered v u x d h g q = record {
    given = λ e.
        let xs = in_block numbering d.body in
        let here : 0 + count v ≡ count v = omega arith in
        numbers_more x.funs d
        ∙ ap (λ (fs : List FunDef). numbers_of fs ++ xs) (q.funs ∙ g.funs)
        ∙ ap (λ (ns : List ℕ). ns ++ xs) (h.given (g.clean (q.clean e)))
        ∙ ap (λ (ns : List ℕ). range_with_len 0 (count v) ++ ns) (g.numbers (q.clean e) ∙ ap (λ (k : ℕ). range_with_len k (length xs)) (sym here))
        ∙ range_joined 0 (count v) (length xs)
        ∙ ap (range_with_len 0) (sym (g.counted (q.clean e)) ∙ sym q.counted ∙ sym (law.function d x));
  }

  fun_numbered : (h : Head) (body : Block) (w : Walk) → Numbered w → Numbered (walked_fun h body w)
  fun_numbered h body w numbered =
      let f = length w.funs in
      let r = walked_heading h true w in
      let ps = each (walked_param f) h.params r.0 in
      let b = walked_block body (body_nesting f r.1) ps.0 in
      let c = closed (length r.0.scope.names) b.0 in
      let l = with_slot r.1 f (brace_of body) c in
      let fs = no_value r.1 (is_main (text_or_none h.result.name)) (flow_of b.1) (brace_of body) in
      with_body_numbered ps.0 b.0 (noted fs l) (fun_of h r.1 ps.1 b.1)
      (still_numbered w ps.0 (keeps_both count w r.0 ps.0 (heading_quiet h true w) (params_quiet f h.params r.0)) numbered)
      (block_numbers numbering count law.numbers body (body_nesting f r.1) ps.0)
      (keeps_both count b.0 l (noted fs l) (keeps_both count b.0 c l (rescope b.0 c.scope) (slot_quiet r.1 f (brace_of body) c)) (note fs l))

  top_numbered : (t : Top) (w : Walk) → Numbered w → Numbered (walked_top w t)
  top_numbered (top.Struct tag body alias) w h = still_numbered w (walked_struct tag body alias w) (struct_quiet tag body alias w) h
  top_numbered (top.Globals ds) w h = still_numbered w (walked_top w (top.Globals ds)) (globals_quiet ds w) h
  top_numbered (top.Proto d) w h = still_numbered w (walked_proto d w) (heading_quiet d false w) h
  top_numbered (top.Fun d body) w h = fun_numbered d body w h

  tops_numbered : (ts : List Top) (w : Walk) → Numbered w → Numbered (fold walked_top w ts)
  tops_numbered [] w h = h
  tops_numbered (t ∷ ts) w h = tops_numbered ts (walked_top w t) (top_numbered t w h)

  -- what is made of a text has the numbers from 0 on
  pub all_numbers : (t : Tree) → faults t ≡ [] → numbers_of (walked t).funs ≡ range_with_len 0 (count (walked t))
  all_numbers t clean = (tops_numbered t.tops (start (definitions t.tops)) (record { given = λ e. ap (range_with_len 0) (sym (law.zero (definitions t.tops))) })).given clean

-- gaps

pub gap_tops : TopNumbers gap_numbers gap_count
gap_tops = record { numbers = gaps_lawful; declares = declared_gaps; signatures = λ w gs. refl; variable = λ v w. refl; function = λ d w. refl; zero = λ rows. refl }

all_listed : (ds : List FunDef) → from_all (map (λ (d : FunDef). in_block gap_numbers d.body) ds) ≡ map (λ (g : MadeGap). g.number) (flat_map (λ (d : FunDef). gaps_in d.body) ds)
all_listed [] = refl
all_listed (d ∷ ds) =
    ap (λ (ns : List ℕ). ns ++ from_all (map (λ (d : FunDef). in_block gap_numbers d.body) ds)) (gaps_listed d.body)
    ∙ ap (λ (ns : List ℕ). map (λ (g : MadeGap). g.number) (gaps_in d.body) ++ ns) (all_listed ds)
    ∙ sym (map-append (λ (g : MadeGap). g.number) (gaps_in d.body) (flat_map (λ (d : FunDef). gaps_in d.body) ds))

-- the gaps of a text's program have the numbers of their places
pub program_gaps : (t : Tree) (p : Program) → IsProgram t p → map (λ (g : MadeGap). g.number) (gaps_of p) ≡ range_with_len 0 p.gaps
program_gaps t p is =
    let w = walked t in
    subst (λ (q : Program). map (λ (g : MadeGap). g.number) (gaps_of q) ≡ range_with_len 0 q.gaps) (sym is.made) (sym (all_listed w.funs) ∙ all_numbers gap_numbers gap_count gap_tops t is.clean)

-- calls

call_tops : TopNumbers call_numbers call_count
call_tops = record { numbers = calls_lawful; declares = declared_calls; signatures = λ w gs. refl; variable = λ v w. refl; function = λ d w. refl; zero = λ rows. refl }

module _ (f : ℕ) where
  abbrev call_lists : Algebra Here Here Here Here
  call_lists = record { item = item_calls f; arm = arm_calls; block = block_calls; piece = piece_calls }

  abbrev call_number_lists : Algebra (List ℕ) (List ℕ) (List ℕ) (List ℕ)
  call_number_lists = record { item = of_item call_numbers; arm = of_arm call_numbers; block = of_block call_numbers; piece = of_piece call_numbers }

  abbrev number : UserCall → ℕ
  number c = c.number

  abbrev call_leads : Leads Here Here Here Here (List ℕ) (List ℕ) (List ℕ) (List ℕ)
  call_leads = record { item = map number; arm = map number; block = map number; piece = map number }

  call_listed : (c : MadeCall) → call_number c ≡ map number (call_calls f c)
  call_listed (made_call.User n g es at) = refl
  call_listed (made_call.Malloc s at) = refl
  call_listed (made_call.Getchar at) = refl
  call_listed (made_call.Putchar e at) = refl
  call_listed (made_call.Printf text es at) = refl

  right_listed : (r : MadeRight) → right_number r ≡ map number (right_calls f r)
  right_listed (made_right.Plain e) = refl
  right_listed (made_right.Call c) = call_listed c

  any_listed : {A : Type 0} (ns : A → List ℕ) (calls : A → Here) → ((x : A) → ns x ≡ map number (calls x)) → (o : Option A) → of_any ns o ≡ map number (from_option calls o)
  any_listed ns calls one None = refl
  any_listed ns calls one (Some x) = one x

  each_listed : {A : Type 0} (ns : A → List ℕ) (calls : A → Here) → ((x : A) → ns x ≡ map number (calls x)) → (xs : List A) → from_all (map ns xs) ≡ map number (flat_map calls xs)
  each_listed ns calls one [] = refl
  each_listed ns calls one (x ∷ xs) =
      ap (λ (ms : List ℕ). ms ++ from_all (map ns xs)) (one x) ∙ ap (λ (ms : List ℕ). map number (calls x) ++ ms) (each_listed ns calls one xs) ∙ sym (map-append number (calls x) (flat_map calls xs))

  declr_listed : (d : MadeDeclr) → of_any right_number d.right ≡ map number (declr_calls f d)
  declr_listed d = any_listed right_number (right_calls f) right_listed d.right

  simple_listed : (s : MadeSimple) → right_number s.right ≡ map number (simple_calls f s)
  simple_listed s = right_listed s.right

  start_listed : (s : MadeStart) → of_start call_numbers s ≡ map number (start_calls f s)
  start_listed (start_made.Declare d) = declr_listed d
  start_listed (start_made.Assign s) = simple_listed s

  head_listed : (h : MadeHead) → of_head call_numbers h ≡ map number (head_calls f h)
  head_listed h =
      ap (λ (ms : List ℕ). ms ++ of_any (λ (s : MadeSimple). right_number s.right) h.step) (each_listed (of_start call_numbers) (start_calls f) start_listed h.start)
      ∙ ap (λ (ms : List ℕ). map number (flat_map (start_calls f) h.start) ++ ms) (any_listed (λ (s : MadeSimple). right_number s.right) (simple_calls f) simple_listed h.step)
      ∙ sym (map-append number (flat_map (start_calls f) h.start) (from_option (simple_calls f) h.step))

  lists_joined : (cs : List Here) → from_all (map (map number) cs) ≡ map number (flat_map (λ c. c) cs)
  lists_joined cs = each_listed (map number) (λ c. c) (λ c. refl) cs

  calls_item : (x : MadeItem-F Here Here Here Here) → of_item call_numbers (led_item call_leads x) ≡ map number (item_calls f x)
  calls_item (Declare ds) = each_listed (λ (d : MadeDeclr). of_any right_number d.right) (declr_calls f) declr_listed ds
  calls_item (Assign s) = simple_listed s
  calls_item (Do c) = call_listed c
  calls_item (Nest b) = refl
  calls_item (If arms None) = ap (λ (ms : List ℕ). ms ++ []) (lists_joined arms) ∙ sym (map-append number (flat_map (λ c. c) arms) [])
  calls_item (If arms (Some b)) = ap (λ (ms : List ℕ). ms ++ map number b) (lists_joined arms) ∙ sym (map-append number (flat_map (λ c. c) arms) b)
  calls_item (While test b) = refl
  calls_item (For h b) = ap (λ (ms : List ℕ). ms ++ map number b) (head_listed h) ∙ sym (map-append number (head_calls f h) b)
  calls_item Break = refl
  calls_item Continue = refl
  calls_item (Return r at) = any_listed right_number (right_calls f) right_listed r

  calls_in_block : (b : MadeBlock) → in_block call_numbers b ≡ map number (calls_in f b)
  calls_in_block b =
      ap (in_block call_numbers) (sym (kept_block b))
      ∙ fold_led (λ g. g) call_lists call_number_lists call_leads (record {
        item = calls_item;
        arm = λ x. refl;
        block = λ x. append-nil (from_all (map (map number) x.items)) ∙ lists_joined x.items;
        piece = λ x. refl;
      }) b

all_called : (f : ℕ) (ds : List FunDef) → from_all (map (λ (d : FunDef). in_block call_numbers d.body) ds) ≡ map (λ (c : UserCall). c.number) (calls_from f ds)
all_called f [] = refl
all_called f (d ∷ ds) =
    ap (λ (ns : List ℕ). ns ++ from_all (map (λ (d : FunDef). in_block call_numbers d.body) ds)) (calls_in_block f d.body)
    ∙ ap (λ (ns : List ℕ). map (λ (c : UserCall). c.number) (calls_in f d.body) ++ ns) (all_called (f + 1) ds)
    ∙ sym (map-append (λ (c : UserCall). c.number) (calls_in f d.body) (calls_from (f + 1) ds))

-- the calls of a text's program have the numbers of their places
pub program_calls : (t : Tree) (p : Program) → IsProgram t p → map (λ (c : UserCall). c.number) (user_calls p) ≡ range_with_len 0 p.calls
program_calls t p is =
    let w = walked t in
    subst (λ (q : Program). map (λ (c : UserCall). c.number) (user_calls q) ≡ range_with_len 0 q.calls) (sym is.made) (sym (all_called 0 w.funs) ∙ all_numbers call_numbers call_count call_tops t is.clean)
