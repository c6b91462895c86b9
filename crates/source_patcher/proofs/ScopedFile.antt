-- Where the puts of a choice are in scope, the frees that are written in a file are what the puts mean.
use Rattle.std.proofs.Common.{◌≡◌, ℕ, ◌+◌, ◌<◌, ◌≤◌, ℤ, Bool, true, false, ◌&&◌, ◌||◌, nat_lt, List, [], ◌∷◌, ◌++◌, drop, length, map, slice_get, Some, refl, sym, ap, subst, ◌∙◌, arith, append-nil, append_assoc, length-append}
use Rattle.std.specs.Prelude.{not, nat_le, if◌then◌else◌}
use Rattle.std.specs.List.{list_all}
use Rattle.std.proofs.Math.Bool.{and-false}
use Rattle.std.proofs.Math.Seq.{drop-append_seam}
use Rattle.std.proofs.lemmas.Bool.{and_parts, le-ltb, leb-true}
use Rattle.c_lexer.specs.declared.token.Kind.{Kind}
use Rattle.c_lexer.specs.declared.token.Kind.TheVariants as kind
use Rattle.c_lexer.specs.declared.token.Token.{Token}
use Rattle.c_lexer.specs.Scan.{HasTokens}
use Rattle.c_lexer.proofs.Order.{tokens_ascend}
use Rattle.c_tree.specs.Typing.{declarations}
use Rattle.c_tree.specs.declared.choice.Choice.{Choice}
use Rattle.c_tree.specs.declared.choice.Put.{Put}
use Rattle.c_tree.specs.declared.program.FunDef.{FunDef}
use Rattle.c_tree.specs.declared.program.Program.{Program}
use Rattle.c_tree.specs.declared.program.VarDef.{VarDef}
use Rattle.c_tree.specs.declared.tree.Block.{Block}
use Rattle.c_tree.specs.declared.tree.Head.{Head}
use Rattle.c_tree.specs.declared.tree.Top.{Top}
use Rattle.c_tree.specs.declared.tree.Top.TheVariants as top
use Rattle.c_tree.specs.declared.tree.Tree.{Tree}
use Rattle.c_parser.specs.Grammar.{IsFile}
use Rattle.c_parser.specs.Offsets.{InOrder, NumberHas, NumbersHave}
use Rattle.c_parser.proofs.OffsetOrder.{tops_in_order}
use Rattle.c_scopes.specs.ScopeAt.{Declared, function_place, is_from, is_global, so_far, stands_before, up_to, with_variable}
use Rattle.c_types.specs.declared.scope.StructRow.{StructRow}
use Rattle.c_types.specs.declared.scope.Walk.{Walk}
use Rattle.c_types.specs.Functions.{walked_fun}
use Rattle.c_types.specs.Program.{IsProgram, definitions, start, struct_def, walked, walked_from, walked_top}
use Rattle.c_types.specs.Scopes.{naming}
use Rattle.c_types.proofs.Functionwise.{definition_funs}
use Rattle.c_types.proofs.Passing.{made_of, start_stands, top_passes, tops_pass}
use Rattle.c_types.proofs.Rows.{get_first, get_last}
use Rattle.c_types.proofs.Standing.{Onward, Standing}
use Rattle.source_patcher.specs.Edit.{edited}
use Rattle.source_patcher.specs.InScope.{AreInScope, functions_have, have_scope}
use Rattle.source_patcher.specs.Refilled.{IsRefilledFile, IsRefilledTop}
use Rattle.source_patcher.proofs.FieldRows.{HasFields}
use Rattle.source_patcher.proofs.FileAdds.{Adds, adds_both}
use Rattle.source_patcher.proofs.Later.{AreOrdered, IsBehind, Later, definition_later, globals_funs, is_late, naming_has, one_more, ordered, proto_funs, struct_funs, tops_later}
use Rattle.source_patcher.proofs.Readback.{HaveNames}
use Rattle.source_patcher.proofs.ReadsFilled.{ReadsFilled, reads_filled}
use Rattle.source_patcher.proofs.RefilledProgram.{file_seen, top_seen}
use Rattle.source_patcher.proofs.ScopedFunctions.{GlobalsShown, Known, all_added, any_variable, function_known, function_seen, globals_adds, heading_known, is_own, known_globals, known_on, struct_known}
use Rattle.source_patcher.proofs.Sights.{AllShown, shown_both}

-- the variables that are counted before a function are declared before it, and the globals among them are visible
record Reached (w : Walk) (s : Declared) : Type 0 where
  counted : List VarDef
  others : List VarDef
  vars : w.vars ≡ counted ++ others
  count : s.count ≡ length counted
  shown : AllShown w s.globals

reached_on : (w u : Walk) (s : Declared) (more : List VarDef) → u.vars ≡ w.vars ++ more → (AllShown w s.globals → AllShown u s.globals) → Reached w s → Reached u s
reached_on w u s more vars shown r = record {
  counted = r.counted;
  others = r.others ++ more;
  vars = vars ∙ ap (λ (vs : List VarDef). vs ++ more) r.vars ∙ append_assoc r.counted r.others more;
  count = r.count;
  shown = shown r.shown;
}

-- what is declared behind a function isn't counted before it

not_before : (f from : ℕ) (d : FunDef) → d.at ≤ from → (v : VarDef) → is_late f from v ≡ true → stands_before f d v ≡ false
not_before f from d le v late = by_function (is_from f v.home) late
  where
    by_function : (b : Bool) → (b || nat_le from v.at) ≡ true → (nat_lt v.at d.at && not b) ≡ false
    by_function true late = and-false (nat_lt v.at d.at)
    by_function false late = ap (λ (b : Bool). b && true) (le-ltb v.at d.at (let on = leb-true from v.at late in omega (arith, le, on)))

either_reached : (w : Walk) (b : Bool) (r s : Declared) → Reached w r → Reached w s → Reached w (if b then r else s)
either_reached w true r s first second = first
either_reached w false r s first second = second

-- one variable more is counted
one_shown : (w : Walk) → GlobalsShown w → (s : Declared) (v : VarDef) → AllShown w s.globals → slice_get w.vars s.count ≡ Some v → AllShown w (with_variable v.home s).globals
one_shown w globals s v shown is = by_global (is_global v.home) refl
  where
    by_global : (b : Bool) → is_global v.home ≡ b → AllShown w (if b then s.globals ++ s.count ∷ [] else s.globals)
    by_global true global = shown_both w s.globals (s.count ∷ []) shown (globals s.count v is global, tt)
    by_global false global = shown

-- none of the variables behind is counted
stops : (w : Walk) (f from : ℕ) (d : FunDef) → d.at ≤ from → (more : List VarDef) → list_all (is_late f from) more ≡ true → (s : Declared) → Reached w s → Reached w (up_to f d more s)
stops w f from d le [] late s r = r
stops w f from d le (v ∷ more) late s r =
    let none = not_before f from d le v (and_parts (is_late f from v) (list_all (is_late f from) more) late).0 in
    subst (λ (b : Bool). Reached w (if b then up_to f d more (with_variable v.home s) else s)) (sym none) r

counts : (w : Walk) → GlobalsShown w → (f from : ℕ) (d : FunDef) → d.at ≤ from → (more : List VarDef) → list_all (is_late f from) more ≡ true
    → (others counted : List VarDef) (s : Declared) → w.vars ≡ counted ++ others → s.count ≡ length counted → AllShown w s.globals → Reached w (up_to f d (others ++ more) s)
counts w globals f from d le more late [] counted s vars count shown =
    stops w f from d le more late s (record { counted = counted; others = []; vars = vars; count = count; shown = shown })
counts w globals f from d le more late (v ∷ others) counted s vars count shown =
    let whole : w.vars ≡ (counted ++ v ∷ []) ++ others = vars ∙ sym (append_assoc counted (v ∷ []) others) in
    let is : slice_get w.vars s.count ≡ Some v =
    ap (slice_get w.vars) count ∙ ap (λ (vs : List VarDef). slice_get vs (length counted)) whole ∙ get_first (counted ++ v ∷ []) others (length counted) v (get_last counted v) in
    let long : length (counted ++ v ∷ []) ≡ length counted + 1 = length-append counted (v ∷ []) in
    either_reached w (stands_before f d v) (up_to f d (others ++ more) (with_variable v.home s)) s
    (counts w globals f from d le more late others (counted ++ v ∷ []) (with_variable v.home s) whole (ap (λ (k : ℕ). k + 1) count ∙ sym long)
    (one_shown w globals s v shown is))
    (record { counted = counted; others = v ∷ others; vars = vars; count = count; shown = shown })

-- up to a function
reaches : (w end : Walk) (p : Program) → p.vars ≡ end.vars → (f from : ℕ) (d : FunDef) → d.at ≤ from → Later f from w end → GlobalsShown w → (s : Declared) → Reached w s → Reached w (up_to f d (drop s.count p.vars) s)
reaches w end p vars f from d le later globals s r =
    let all = r.counted ++ (r.others ++ later.more) in
    let whole : p.vars ≡ all = vars ∙ later.vars ∙ ap (λ (vs : List VarDef). vs ++ later.more) r.vars ∙ append_assoc r.counted r.others later.more in
    let rest : drop s.count p.vars ≡ r.others ++ later.more = ap (drop s.count) whole ∙ ap (λ (k : ℕ). drop k all) r.count ∙ drop-append_seam r.counted (r.others ++ later.more) in
    subst (λ (vs : List VarDef). Reached w (up_to f d vs s)) (sym rest) (counts w globals f from d le later.more later.all r.others r.counted s r.vars r.count r.shown)

-- the functions that are made from some place of a file on

abbrev made_by : Walk → Top → List FunDef
made_by w (top.Struct tag body alias) = []
made_by w (top.Globals ds) = []
made_by w (top.Proto h) = []
made_by w (top.Fun h b) = made_of h b w ∷ []

abbrev made_from : Walk → List Top → List FunDef
made_from w [] = []
made_from w (x ∷ xs) = made_by w x ++ made_from (walked_top w x) xs

top_funs : (x : Top) (w : Walk) → (walked_top w x).funs ≡ w.funs ++ made_by w x
top_funs (top.Struct tag body alias) w = struct_funs tag body alias w ∙ sym (append-nil w.funs)
top_funs (top.Globals ds) w = globals_funs ds w ∙ sym (append-nil w.funs)
top_funs (top.Proto h) w = proto_funs h w ∙ sym (append-nil w.funs)
top_funs (top.Fun h b) w = definition_funs h b w

funs_from : (xs : List Top) (w : Walk) → (walked_from w xs).funs ≡ w.funs ++ made_from w xs
funs_from [] w = sym (append-nil w.funs)
funs_from (x ∷ xs) w =
    let u = walked_top w x in
    funs_from xs u ∙ ap (λ (ds : List FunDef). ds ++ made_from u xs) (top_funs x w) ∙ append_assoc w.funs (made_by w x) (made_from u xs)

-- what is known before a declaration of a file, with what is counted of it
record Stage (w : Walk) (s : Declared) : Type 0 where
  stands : Standing w
  known : Known w
  reached : Reached w s

stage_on : (x : Top) (w : Walk) (s : Declared) → Stage w s → Known (walked_top w x) → (R : StructRow → ℕ → Type 0) (L : VarDef → Bool) → Adds L R w (walked_top w x) → Stage (walked_top w x) s
stage_on x w s b known R L a = record {
  stands = (top_passes x w b.stands).standing;
  known = known;
  reached = reached_on w (walked_top w x) s a.more a.vars (all_added L R w (walked_top w x) a s.globals) b.reached;
}

module _ (Q : ℤ → Type 0) (p : Program) (puts : List Put) (end : Walk) (clean : end.faults ≡ []) (vars : p.vars ≡ end.vars) (structs : p.structs ≡ map struct_def end.scope.structs) where
  -- the puts of the functions that are made from some place on are in scope
  abbrev Have : ℕ → Declared → Walk → List Top → Type 0
  Have f s w xs = functions_have p puts f s (made_from w xs) ≡ true

  have_on : (s : Declared) (w u : Walk) (xs : List Top) → u.funs ≡ w.funs → Have (length w.funs) s u xs → Have (length u.funs) s u xs
  have_on s w u xs same have = subst (λ (ds : List FunDef). Have (length ds) s u xs) (sym same) have

  onward_to : (xs : List Top) (u : Walk) → Standing u → walked_from u xs ≡ end → Onward u end
  onward_to xs u s ends = subst (Onward u) ends (tops_pass xs u s).onward

  -- what is known of a function of the file
  record InFile (h : Head) (b : Block) (w : Walk) (s : Declared) (to : ℕ) : Type 0 where
    onward : Onward (walked_fun h b w) end
    later : Later (length w.funs) to w end
    offset : naming h.result < to
    reached : Reached w (up_to (length w.funs) (made_of h b w) (drop s.count p.vars) s)

  in_file : (h : Head) (b : Block) (w : Walk) (s : Declared) (xs : List Top) (to : ℕ) → naming h.result < to → AreOrdered Q to xs → walked_from (walked_fun h b w) xs ≡ end → Stage w s → InFile h b w s to
  in_file h b w s xs to less order ends before =
      let f = length w.funs in
      let u = walked_fun h b w in
      let more : length u.funs ≡ f + 1 = one_more h b w in
      let later : Later f to w end = adds_both (is_late f to) (IsBehind to) w u end (definition_later f to h b w (omega arith)) (subst (Later f to u) ends (tops_later Q f to xs order u (omega arith))) in
      record {
        onward = onward_to xs u (top_passes (top.Fun h b) w before.stands).standing ends;
        later = later;
        offset = less;
        reached = reaches w end p vars f to (made_of h b w) (omega (arith, less)) later before.known.shown s before.reached;
      }

  file_scoped : {w : Walk} {xs ys : List Top} (d : IsRefilledFile p puts w xs ys) (from : ℕ) → AreOrdered Q from xs → walked_from w xs ≡ end → (s : Declared) → Stage w s → Have (length w.funs) s w xs → file_seen p puts d
  unfolding top_seen
  file_scoped IsRefilledFile.done from order ends s before have = tt
  file_scoped {w} (IsRefilledFile.more {xs = xs} (IsRefilledTop.struct tag body alias) r) from order ends s before have =
      let x = top.Struct tag body alias in
      let u = walked_top w x in
      let quiet = (onward_to xs u (top_passes x w before.stands).standing ends).clean clean in
      let a = struct_known tag body alias w quiet in
      (tt, file_scoped r order.0 order.3 ends s (stage_on x w s before (known_on w u a before.known) HasFields is_own a) (have_on s w u xs (struct_funs tag body alias w) have))
  file_scoped {w} (IsRefilledFile.more {xs = xs} (IsRefilledTop.globals ds) r) from order ends s before have =
      let x = top.Globals ds in
      let u = walked_top w x in
      let quiet = (onward_to xs u (top_passes x w before.stands).standing ends).clean clean in
      (tt, file_scoped r order.0 order.3 ends s (stage_on x w s before (known_globals ds w before.stands quiet before.known) HasFields any_variable (globals_adds ds w)) (have_on s w u xs (globals_funs ds w) have))
  file_scoped {w} (IsRefilledFile.more {xs = xs} (IsRefilledTop.prototype h) r) from order ends s before have =
      let x = top.Proto h in
      let u = walked_top w x in
      let a = heading_known h false w in
      (tt, file_scoped r order.0 order.3 ends s (stage_on x w s before (known_on w u a before.known) HasFields is_own a) (have_on s w u xs (proto_funs h w) have))
  file_scoped {w} (IsRefilledFile.more {xs = xs} (IsRefilledTop.function h {b = b} {c = c} brace d) r) from order ends s before have =
      let x = top.Fun h b in
      let f = length w.funs in
      let u = walked_fun h b w in
      let m = made_of h b w in
      let to = order.0 in
      let here = up_to f m (drop s.count p.vars) s in
      let i = in_file h b w s xs to (naming_has (λ at. (from ≤ at) × (at < to)) h.result order.2.0.0).1 order.3 ends before in
      let parts = and_parts (have_scope (declarations p) puts m.at (function_place m here.globals)) (functions_have p puts (f + 1) here (made_from u xs)) have in
      let a = function_known h b w in
      let next : Stage w here = record { stands = before.stands; known = before.known; reached = i.reached } in (
        function_seen p puts end clean vars structs h b c w before.stands i.onward to i.offset i.later before.known here.globals i.reached.shown d parts.0,
        file_scoped r to order.3 ends here (stage_on x w here next (known_on w u a before.known) HasFields is_own a) (subst (λ (k : ℕ). Have k here u xs) (sym (one_more h b w)) parts.1),
      )

nothing_known : (t : Tree) → Stage (start (definitions t.tops)) (so_far 0 [])
nothing_known t = record {
  stands = start_stands (definitions t.tops);
  known = record { shown = λ x v is global. absurd cc; fields = λ s row b is body. absurd cc };
  reached = record { counted = []; others = []; vars = refl; count = refl; shown = tt };
}

-- where each put is in scope at its gap, the frees that are written in a file whose offsets ascend mean what the puts mean
pub file_in_scope : (Q : ℤ → Type 0) (from : ℕ) (t : Tree) (p : Program) (puts : List Put) (ys : List Top) → IsProgram t p → InOrder Q from t.tops → AreInScope p puts
    → (d : IsRefilledFile p puts (start (definitions t.tops)) t.tops ys) → file_seen p puts d
file_in_scope Q from t p puts ys is order are d =
    let w = start (definitions t.tops) in
    let funs : p.funs ≡ made_from w t.tops = ap (λ (q : Program). q.funs) is.made ∙ funs_from t.tops w in
    file_scoped Q p puts (walked t) is.clean (ap (λ (q : Program). q.vars) is.made) (ap (λ (q : Program). q.structs) is.made) d from (ordered Q from t.tops order) refl (so_far 0 []) (nothing_known t)
    (subst (λ (ds : List FunDef). functions_have p puts 0 (so_far 0 []) ds ≡ true) funs are)

-- any number

abbrev AnyNumber : ℤ → Type 0
AnyNumber n = Unit {0}

any_number : (k : Kind) → NumberHas AnyNumber k
any_number (kind.Number n) = tt
any_number (kind.Name w) = tt
any_number (kind.Key n) = tt
any_number (kind.Text bytes) = tt
any_number (kind.Punct n) = tt
any_number (kind.Refused row) = tt

any_numbers : (ts : List Token) → NumbersHave AnyNumber ts
any_numbers [] = tt
any_numbers (t ∷ ts) = (any_number t.kind, any_numbers ts)

-- so the edited text reads as the filled program, where what the puts free is spelled as names
pub reads_in_scope : (bytes : List ℕ) (first : Token) (ts : List Token) (t : Tree) (p : Program) (choice : Choice) → HasTokens bytes (first ∷ ts) → IsFile t.tops (first ∷ ts) → IsProgram t p
    → HaveNames p choice.puts → AreInScope p choice.puts → ReadsFilled (edited bytes (first ∷ ts) p choice) p choice
reads_in_scope bytes first ts t p choice has file is names are =
    let all = first ∷ ts in
    let order = tops_in_order AnyNumber tt tt file 0 (length bytes) (tokens_ascend bytes all has) (any_numbers all) in
    reads_filled bytes first ts t p choice has file is names (λ ys d. file_in_scope AnyNumber 0 t p choice.puts ys is order are d)
