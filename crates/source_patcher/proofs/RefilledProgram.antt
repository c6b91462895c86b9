-- The walk through a refilled file breaks no rule where the walk through the file breaks none, and makes the filled program but
-- for offsets and braces.
use Rattle.std.proofs.Common.{◌≡◌, ℕ, true, false, List, [], ◌∷◌, ◌++◌, length, map, refl, sym, ap, subst, ◌∙◌}
use Rattle.std.specs.List.{fold}
use Rattle.std.proofs.lemmas.List.{length-map, map-append}
use Rattle.c_tree.specs.Alike.{IsAlike, bare, bare_block, bare_fun, bare_gap}
use Rattle.c_tree.specs.Fill.{fill, filled, regapped_block, regapped_fun}
use Rattle.c_tree.specs.Flow.{flow_of}
use Rattle.c_tree.specs.declared.choice.Choice.{Choice}
use Rattle.c_tree.specs.declared.choice.Put.{Put}
use Rattle.c_tree.specs.declared.control.Flow.{Flow}
use Rattle.c_tree.specs.declared.program.Block.{Block as MadeBlock}
use Rattle.c_tree.specs.declared.program.FunDef.{FunDef}
use Rattle.c_tree.specs.declared.program.Program.{Program}
use Rattle.c_tree.specs.declared.tree.Block.{Block}
use Rattle.c_tree.specs.declared.tree.Head.{Head}
use Rattle.c_tree.specs.declared.tree.Top.{Top}
use Rattle.c_tree.specs.declared.tree.Top.TheVariants as top
use Rattle.c_tree.specs.declared.tree.Tree.{Tree}
use Rattle.c_tree.proofs.Fills.{gap_layers, gaps_commute}
use Rattle.c_tree.proofs.Rebuilds.{after, after_rebuilds, rebuilt, rebuilt_rebuilds, same_block}
use Rattle.c_types.specs.declared.scope.Returned.{Returned}
use Rattle.c_types.specs.declared.scope.Returned.TheVariants as returned
use Rattle.c_types.specs.declared.scope.Walk.{Walk}
use Rattle.c_types.specs.Blocks.{walked_block}
use Rattle.c_types.specs.Calls.{is_main, main_name}
use Rattle.c_types.specs.Functions.{body_behind, body_nesting, brace_of, ended, fun_of, no_value, params_behind, walked_fun, walked_heading, walked_param, walked_proto, with_slot}
use Rattle.c_types.specs.Program.{IsProgram, definition_named, definitions, made_program, start, walked, walked_from, walked_top, with_top}
use Rattle.c_types.specs.Scopes.{closed, noted}
use Rattle.c_types.specs.Structs.{walked_globals, walked_struct}
use Rattle.c_types.specs.Tables.{place_of}
use Rattle.c_types.proofs.Functionwise.{headed_clean, left_clean}
use Rattle.c_types.proofs.NumberingLeaves.{gap_count, gap_numbers}
use Rattle.c_types.proofs.NumberingTops.{gap_tops, globals_quiet, heading_quiet, struct_quiet}
use Rattle.c_types.proofs.Passing.{headed, inside, inside_grows, params_grow, with_params}
use Rattle.source_patcher.specs.Refilled.{IsRefilledTop, IsRefilledFile}
use Rattle.source_patcher.proofs.BareFlow.{same_flow}
use Rattle.source_patcher.proofs.Framed.{each_framed, framed}
use Rattle.source_patcher.proofs.FramedTops.{globals_still, heading_framed, param_framed, struct_still}
use Rattle.source_patcher.proofs.RefilledWalk.{BlockWalks, bare_layers, bare_opens, barely, block_seen, block_walks, filled_gap, filled_layers, full_opens, fully}

as_long : {A B : Type 0} (f g : A → B) (xs ys : List A) → map f xs ≡ map g ys → length xs ≡ length ys
as_long f g xs ys same = sym (length-map xs f) ∙ ap length same ∙ length-map ys g

slot_still : (t : Returned) (k at : ℕ) (fs : List FunDef) (w : Walk) → with_slot t k at (framed fs w) ≡ framed fs (with_slot t k at w)
slot_still returned.Nothing k at fs w = refl
slot_still (returned.Value t) k at fs w = refl
slot_still (returned.Bad e) k at fs w = refl

slot_funs : (t : Returned) (k at : ℕ) (w : Walk) → (with_slot t k at w).funs ≡ w.funs
slot_funs returned.Nothing k at w = refl
slot_funs (returned.Value t) k at w = refl
slot_funs (returned.Bad e) k at w = refl

module _ (p : Program) (puts : List Put) where
  full_is : (b : MadeBlock) → bare_block (regapped_block (filled puts) b) ≡ (fully p puts).block b
  full_is = same_block (after (barely p puts) (rebuilt (gap_layers (filled puts)))) (fully p puts) (filled_layers p puts)
      (after_rebuilds (barely p puts) (rebuilt (gap_layers (filled puts))) (bare_layers p puts) (gap_layers (filled puts)) (filled_layers p puts) (bare_opens p puts) (rebuilt_rebuilds (gap_layers (filled puts)))
      (gaps_commute (barely p puts) (filled puts)) (record { item = λ x. refl; arm = λ x. refl; block = λ x. refl; piece = λ x. refl }))
      (full_opens p puts)

  -- a function filled, without offsets and braces
  abbrev pub filled_fun : FunDef → FunDef
  filled_fun d = bare_fun (regapped_fun (filled puts) d)

  -- the walks agree but for the functions, and these but for gaps, offsets and braces
  pub record Agree (w v : Walk) : Type 0 where
    pub walk : v ≡ framed v.funs w
    pub funs : map bare_fun v.funs ≡ map filled_fun w.funs

  unfoldable pub top_seen : {w : Walk} {x y : Top} → IsRefilledTop p puts w x y → Type 0
  top_seen (IsRefilledTop.struct tag body alias) = Unit {0}
  top_seen (IsRefilledTop.globals ds) = Unit {0}
  top_seen (IsRefilledTop.prototype h) = Unit {0}
  top_seen (IsRefilledTop.function h brace d) = block_seen p puts d

  -- a declaration without a body
  still_agrees : (f : Walk → Walk) (w v : Walk) → ((fs : List FunDef) (u : Walk) → f (framed fs u) ≡ framed fs (f u)) → Agree w v → (f w).funs ≡ w.funs → Agree (f w) (f v)
  still_agrees f w v still a same =
      let e : f v ≡ framed v.funs (f w) = ap f a.walk ∙ still v.funs w in
      let funs : (f v).funs ≡ v.funs = ap (λ u. u.funs) e in
      record { walk = e ∙ ap (λ fs. framed fs (f w)) (sym funs); funs = ap (map bare_fun) funs ∙ a.funs ∙ ap (map filled_fun) (sym same) }

  ended_agrees : (h : Head) (b c : Block) (t : Returned) (names k : ℕ) (params : List ℕ) (m m' : MadeBlock) (u : Walk) (fs : List FunDef) → brace_of c ≡ brace_of b → (barely p puts).block m' ≡ (fully p puts).block m
      → map bare_fun fs ≡ map filled_fun u.funs → Agree (ended b t names k (fun_of h t params m) u) (ended c t names k (fun_of h t params m') (framed fs u))
  ended_agrees h b c t names k params m m' u fs brace made funs =
      let d = fun_of h t params m in
      let d' = fun_of h t params m' in
      let flow : flow_of m' ≡ flow_of m = same_flow bare_gap (filled_gap p puts) m m' made in
      let w = noted (no_value t (is_main d.name) (flow_of m) (brace_of b)) (with_slot t k (brace_of b) (closed names u)) in
      let v = closed names u in
      let end : ℕ → Flow → Walk → Walk = λ at f x. noted (no_value t (is_main d.name) f at) x in
      let same : ended c t names k d' (framed fs u) ≡ framed (fs ++ d' ∷ []) w =
      ap (λ at. let x = end at (flow_of m') (with_slot t k at (framed fs v)) in record x { funs = x.funs ++ d' ∷ [] }) brace
      ∙ ap (λ f. let x = end (brace_of b) f (with_slot t k (brace_of b) (framed fs v)) in record x { funs = x.funs ++ d' ∷ [] }) flow
      ∙ ap (λ x. let y = end (brace_of b) (flow_of m) x in record y { funs = y.funs ++ d' ∷ [] }) (slot_still t k (brace_of b) fs v) in
      let here : (ended c t names k d' (framed fs u)).funs ≡ fs ++ d' ∷ [] = ap (λ x. x.funs) same in
      let there : (ended b t names k d u).funs ≡ u.funs ++ d ∷ [] = ap (λ gs. gs ++ d ∷ []) (slot_funs t k (brace_of b) v) in
      let one : bare_fun d' ≡ filled_fun d = ap (λ (x : MadeBlock). record (bare_fun d) { body = x }) (made ∙ sym (full_is m)) in
      record {
        walk = same ∙ ap (λ gs. framed gs w) (sym here);
        funs = ap (map bare_fun) here ∙ map-append bare_fun fs (d' ∷ []) ∙ ap (λ xs. xs ++ bare_fun d' ∷ []) funs ∙ ap (λ x. map filled_fun u.funs ++ x ∷ []) one
            ∙ sym (map-append filled_fun u.funs (d ∷ [])) ∙ ap (map filled_fun) (sym there);
      }

  function_agrees : (h : Head) (b c : Block) (w v : Walk) → Agree w v → (walked_fun h b w).faults ≡ [] → brace_of c ≡ brace_of b
      → ((walked_block b (body_nesting (length w.funs) (headed h b w).1) (with_params h b w).0).0.faults ≡ [] → (fs : List FunDef)
      → BlockWalks p puts fs (inside h b w) (walked_block c (body_nesting (length w.funs) (headed h b w).1) (framed fs (with_params h b w).0)))
      → Agree (walked_fun h b w) (walked_fun h c v)
  function_agrees h b c w v a clean brace walks =
      let fs = v.funs in
      let f = length w.funs in
      let hd = headed h b w in
      let t = hd.1 in
      let names = length hd.0.scope.names in
      let ps = with_params h b w in
      let u = inside h b w in
      let u' = walked_block c (body_nesting f t) (framed fs ps.0) in
      let x = walks (left_clean h b w clean) fs in
      let long : length fs ≡ f = as_long bare_fun filled_fun fs w.funs a.funs in
      let same : walked_fun h c v ≡ ended c t names f (fun_of h t ps.1 u'.1) (framed fs u.0) =
      ap (walked_fun h c) a.walk
      ∙ ap (λ k. params_behind h c k (walked_heading h true (framed fs w))) long
      ∙ ap (params_behind h c f) (heading_framed h true fs w)
      ∙ ap (body_behind h c t names f) (each_framed (walked_param f) (param_framed f) h.params fs hd.0)
      ∙ ap (ended c t names f (fun_of h t ps.1 u'.1)) x.walk in
      let before : u.0.funs ≡ w.funs = (inside_grows h b w).funs ∙ (params_grow h b w).funs ∙ (heading_quiet gap_numbers gap_count gap_tops h true w).funs in
      subst (Agree (walked_fun h b w)) (sym same) (ended_agrees h b c t names f ps.1 u.1 u'.1 u.0 fs brace x.made (a.funs ∙ ap (map filled_fun) (sym before)))

  top_agrees : {w : Walk} {x y : Top} (d : IsRefilledTop p puts w x y) → top_seen d → (v : Walk) → Agree w v → (walked_top w x).faults ≡ [] → Agree (walked_top w x) (walked_top v y)
  unfolding top_seen
  top_agrees {w} (IsRefilledTop.struct tag body alias) seen v a clean =
      still_agrees (walked_struct tag body alias) w v (struct_still tag body alias) a (struct_quiet gap_numbers gap_count gap_tops tag body alias w).funs
  top_agrees {w} (IsRefilledTop.globals ds) seen v a clean = still_agrees (λ u. walked_globals u ds) w v (globals_still ds) a (globals_quiet gap_numbers gap_count gap_tops ds w).funs
  top_agrees {w} (IsRefilledTop.prototype h) seen v a clean =
      still_agrees (walked_proto h) w v (λ fs u. ap (λ r. r.0) (heading_framed h false fs u)) a (heading_quiet gap_numbers gap_count gap_tops h false w).funs
  top_agrees {w} (IsRefilledTop.function h {b = b} {c = c} brace d) seen v a clean = function_agrees h b c w v a clean brace (λ quiet fs. block_walks p puts d seen fs quiet)

  top_clean : (x : Top) (w : Walk) → (walked_top w x).faults ≡ [] → w.faults ≡ []
  top_clean (top.Struct tag body alias) w clean = (struct_quiet gap_numbers gap_count gap_tops tag body alias w).clean clean
  top_clean (top.Globals ds) w clean = (globals_quiet gap_numbers gap_count gap_tops ds w).clean clean
  top_clean (top.Proto h) w clean = (heading_quiet gap_numbers gap_count gap_tops h false w).clean clean
  top_clean (top.Fun h b) w clean = (heading_quiet gap_numbers gap_count gap_tops h true w).clean (headed_clean h b w clean)

  tops_clean : (xs : List Top) (w : Walk) → (walked_from w xs).faults ≡ [] → w.faults ≡ []
  tops_clean [] w clean = clean
  tops_clean (x ∷ xs) w clean = top_clean x w (tops_clean xs (walked_top w x) clean)

  -- at each gap of the file the written frees are what the puts mean
  abbrev pub file_seen : {w : Walk} {xs ys : List Top} → IsRefilledFile p puts w xs ys → Type 0
  file_seen IsRefilledFile.done = Unit {0}
  file_seen (IsRefilledFile.more d r) = top_seen d × file_seen r

  file_agrees : {w : Walk} {xs ys : List Top} (d : IsRefilledFile p puts w xs ys) → file_seen d → (v : Walk) → Agree w v → (walked_from w xs).faults ≡ [] → Agree (walked_from w xs) (walked_from v ys)
  file_agrees IsRefilledFile.done seen v a clean = a
  file_agrees {w} (IsRefilledFile.more {x = x} {y = y} {xs = xs} d r) seen v a clean =
      file_agrees r seen.1 (walked_top v y) (top_agrees d seen.0 v a (tops_clean xs (walked_top w x) clean)) clean

  definitions_same : {w : Walk} {xs ys : List Top} → IsRefilledFile p puts w xs ys → (rows : List (List ℕ × ℕ)) → fold with_top rows ys ≡ fold with_top rows xs
  definitions_same IsRefilledFile.done rows = refl
  definitions_same (IsRefilledFile.more (IsRefilledTop.struct tag body alias) r) rows = definitions_same r rows
  definitions_same (IsRefilledFile.more (IsRefilledTop.globals ds) r) rows = definitions_same r rows
  definitions_same (IsRefilledFile.more (IsRefilledTop.prototype h) r) rows = definitions_same r rows
  definitions_same (IsRefilledFile.more (IsRefilledTop.function h brace d) r) rows = definitions_same r (definition_named rows h.result.name)

  filled_twice : (ds : List FunDef) → map filled_fun ds ≡ map bare_fun (map (regapped_fun (filled puts)) ds)
  filled_twice [] = refl
  filled_twice (d ∷ ds) = ap (λ xs. filled_fun d ∷ xs) (filled_twice ds)

-- the program of a refilled tree
pub record IsFilled (t : Tree) (p : Program) (choice : Choice) : Type 0 where
  pub program : Program
  pub is : IsProgram t program
  pub alike : IsAlike program (fill p choice)

pub refilled_program : (t : Tree) (p : Program) (choice : Choice) (ys : List Top) (end : ℕ) → IsProgram t p → (d : IsRefilledFile p choice.puts (start (definitions t.tops)) t.tops ys) → file_seen p choice.puts d
    → IsFilled (record { tops = ys; end = end }) p choice
refilled_program t p choice ys end is d seen =
    let rows = definitions t.tops in
    let other : Tree = record { tops = ys; end = end } in
    let old = walked t in
    let new = walked other in
    let named : definitions ys ≡ rows = definitions_same p choice.puts d [] in
    let a : Agree p choice.puts old (walked_from (start rows) ys) = file_agrees p choice.puts d seen (start rows) (record { walk = refl; funs = refl }) is.clean in
    let same : new ≡ framed (walked_from (start rows) ys).funs old = ap (λ rs. walked_from (start rs) ys) named ∙ a.walk in
    let q = made_program new p.main in
    let r = made_program old p.main in
    let funs : map bare_fun new.funs ≡ map bare_fun (map (regapped_fun (filled choice.puts)) old.funs) =
    ap (λ w. map bare_fun w.funs) same ∙ a.funs ∙ filled_twice p choice.puts old.funs in
    let whole : Walk → List FunDef → Program = λ w fs. record (bare (made_program w p.main)) { funs = fs } in
    record {
      program = q;
      is = record { clean = ap (λ w. w.faults) same ∙ is.clean; main = ap (λ rs. place_of rs main_name) named ∙ is.main; made = refl };
      alike = ap (λ fs. whole new fs) funs ∙ ap (λ w. whole w (map bare_fun (map (regapped_fun (filled choice.puts)) old.funs))) same ∙ ap (λ x. bare (fill x choice)) (sym is.made);
    }
