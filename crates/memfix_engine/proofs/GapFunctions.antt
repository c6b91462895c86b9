-- The offset of the function in which a gap stands.
use Rattle.std.proofs.Common.{◌≡◌, ℕ, ◌+◌, ◌==◌, ⊎_elim, Bool, true, false, List, [], ◌∷◌, ◌++◌, map, flat_map, length, slice_get, Option, Some, None, option_map, option_and_then, refl, ap, sym, subst, ◌∙◌, arith}
use Rattle.std.specs.Prelude.{if◌then◌else◌, unwrap_or}
use Rattle.std.specs.List.{range_with_len}
use Rattle.std.proofs.lemmas.Bool.{eqb-true, eqb-false}
use Rattle.std.proofs.lemmas.List.{map-append}
use Rattle.std.proofs.lemmas.Option.{slice_get-map, slice_get_within}
use Rattle.c_tree.specs.Numbers.{gaps_in}
use Rattle.c_tree.specs.Typing.{has}
use Rattle.c_tree.specs.WellFormed.{IsWellFormed}
use Rattle.c_tree.specs.declared.program.FunDef.{FunDef}
use Rattle.c_tree.specs.declared.program.Gap.{Gap}
use Rattle.c_tree.specs.declared.program.Program.{Program}
use Rattle.c_meaning.specs.Parts as instruction
use Rattle.c_meaning.specs.Place.{Spot, AtGap, AtAction, Nowhere}
use Rattle.call_contexts.specs.Contexts.{context, contexts}
use Rattle.call_contexts.specs.declared.context.Ctx.{Ctx}
use Rattle.call_contexts.proofs.ContextLaws.{main_first, main_alone}
use Rattle.call_contexts.proofs.Has.{Has, first, later, has_get, has_left, has_map, has_right, only_one}
use Rattle.call_contexts.proofs.WellFormedCalls.{are_calls}
use Rattle.c_graph.specs.Executes.{function_of}
use Rattle.c_graph.specs.Nodes.{Placed, all_placed, exit_at, placed_at, spot_at}
use Rattle.c_graph.specs.declared.graph.Node.{Node}
use Rattle.c_graph.proofs.EdgeEnds.{function_there}
use Rattle.c_graph.proofs.Homes.{is_called}
use Rattle.c_graph.proofs.Numbers.{IsPlaced, all_are_placed, an_exit, in_context}
use Rattle.c_scopes.specs.ScopeAt.{Within}
use Rattle.c_scopes.proofs.ScopeOrder.{within_range, within_split}
use Rattle.ts_domain.specs.Puts.{context_in, function_in, gap_key, gap_offset, has_any, is_reached, name_offset, nodes_of_gap}
use Rattle.ts_domain.specs.Rows.{is_key}
use Rattle.memfix_engine.specs.Analysis.{graph_in}
use Rattle.memfix_engine.proofs.GapPlaces.{gap_stands}
use Rattle.memfix_engine.proofs.ScopeLists.{has_of_filter, within_has}

-- the numbers of a function's gaps
abbrev pub numbers_of : FunDef → List ℕ
numbers_of d = map (λ (g : Gap). g.number) (gaps_in d.body)

-- no number is in two functions

-- the numbers of the gaps of functions in turn
abbrev all_numbers : List FunDef → List ℕ
all_numbers ds = map (λ (g : Gap). g.number) (flat_map (λ (d : FunDef). gaps_in d.body) ds)

-- the numbers of a function and of those behind it
numbers_first : (d : FunDef) (ds : List FunDef) → all_numbers (d ∷ ds) ≡ numbers_of d ++ all_numbers ds
numbers_first d ds = map-append (λ (g : Gap). g.number) (gaps_in d.body) (flat_map (λ (e : FunDef). gaps_in e.body) ds)

-- a number of a function is one of all
number_among : {n : ℕ} {d : FunDef} (ds : List FunDef) → Has d ds → Has n (numbers_of d) → Has n (all_numbers ds)
number_among [] here among = elim here [ ]
number_among {n} (d ∷ ds) first among = subst (λ (ns : List ℕ). Has n ns) (sym (numbers_first d ds)) (has_left (all_numbers ds) among)
number_among {n} (e ∷ ds) (later here) among = subst (λ (ns : List ℕ). Has n ns) (sym (numbers_first e ds)) (has_right (numbers_of e) (number_among ds here among))

-- a number is not in one list and in another behind it, where both ascend
not_in_both : {n : ℕ} (a b : ℕ) (xs ys : List ℕ) → Within a b (xs ++ ys) → Has n xs → Has n ys → ⊥
not_in_both a b xs ys rise here there =
    let parts = within_split a b xs ys rise in
    let below = (within_has a parts.0 xs parts.1 here).1 in
    let over = (within_has parts.0 b ys parts.2 there).0 in
    omega arith

-- a number stands in one function alone
one_function : {n : ℕ} {d e : FunDef} (a b : ℕ) (ds : List FunDef) → Within a b (all_numbers ds) → Has d ds → Has n (numbers_of d) → Has e ds → Has n (numbers_of e) → d ≡ e
one_function a b [] rise here among there also = elim here [ ]
one_function a b (z ∷ ds) rise first among first also = refl
one_function a b (z ∷ ds) rise first among (later there) also =
    absurd (not_in_both a b (numbers_of z) (all_numbers ds) (subst (λ (ns : List ℕ). Within a b ns) (numbers_first z ds) rise) among (number_among ds there also))
one_function a b (z ∷ ds) rise (later here) among first also =
    absurd (not_in_both a b (numbers_of z) (all_numbers ds) (subst (λ (ns : List ℕ). Within a b ns) (numbers_first z ds) rise) also (number_among ds here among))
one_function a b (z ∷ ds) rise (later here) among (later there) also =
    let parts = within_split a b (numbers_of z) (all_numbers ds) (subst (λ (ns : List ℕ). Within a b ns) (numbers_first z ds) rise) in
    one_function parts.0 b ds parts.2 here among there also

-- the numbers of a well-formed program's gaps ascend
numbers_ascend : (p : Program) → IsWellFormed p → Within 0 p.gaps (all_numbers p.funs)
numbers_ascend p w =
    let same : 0 + p.gaps ≡ p.gaps = omega arith in
    subst (λ (ns : List ℕ). Within 0 p.gaps ns) (sym w.gaps) (subst (λ (m : ℕ). Within 0 m (range_with_len 0 p.gaps)) same (within_range 0 p.gaps))

-- the function of a context
function_is : (p : Program) → IsWellFormed p → (k : ℕ) (c : Ctx) → slice_get (contexts p) k ≡ Some c → function_in (function_of (graph_in p)) p k ≡ Some c.fun
function_is p w k c at = by_zero (k == 0) refl
  where
    not_main : (k == 0) ≡ false → c ≡ context p.main None → ⊥
    not_main later_one main =
        eqb-false k 0 later_one
        ((main_alone p (are_calls p w) k (slice_get_within (contexts p) k c at)).0 (ap (option_and_then (λ (z : Ctx). z.home)) at ∙ ap (λ (z : Ctx). z.home) main))

    by_zero : (b : Bool) → (k == 0) ≡ b → (if b then Some p.main else function_of (graph_in p) k) ≡ Some c.fun
    by_zero true is =
        let both : Some (context p.main None) ≡ Some c = sym (main_first p (are_calls p w)) ∙ ap (slice_get (contexts p)) (sym (eqb-true k 0 is)) ∙ at in
        let same : context p.main None ≡ c = cc in
        ap (λ (z : Ctx). Some z.fun) same
    by_zero false is = ⊎_elim (λ main. absurd (not_main is main)) (λ called. function_there p w k c at called) (is_called p w k c at)

-- a node of gap n is in a context of the function in which the gap stands
record StandsIn (p : Program) (n k : ℕ) : Type 0 where
  ctx : Ctx
  at : slice_get (contexts p) k ≡ Some ctx
  function : FunDef
  is : slice_get p.funs ctx.fun ≡ Some function
  among : Has n (numbers_of function)

-- a node of a gap, from the place that it is of
placed_stands : (p : Program) (n : ℕ) (y : Placed) → IsPlaced p (contexts p) y → gap_key y.node.kind ≡ Some n → StandsIn p n y.node.ctx
placed_stands p n y (in_context k c path at h) key = by_spot (spot_at p c.fun path) refl h
  where
    by_spot : (s : Spot) → spot_at p c.fun path ≡ s → Has y (placed_at p (contexts p) k c.fun path s) → StandsIn p n y.node.ctx
    by_spot (AtGap g) spot h =
        let keys : Some g.number ≡ Some n = ap (λ (z : Placed). gap_key z.node.kind) (sym (only_one h)) ∙ key in
        let number : g.number ≡ n = cc in
        let it = gap_stands g p c.fun path spot in
        subst (λ (z : Placed). StandsIn p n z.node.ctx) (sym (only_one h))
        (record { ctx = c; at = at; function = it.0; is = it.1; among = subst (λ (m : ℕ). Has m (numbers_of it.0)) number (has_map (λ (z : Gap). z.number) it.2) })
    by_spot (AtAction a) spot h = let never : None ≡ Some n = ap (λ (z : Placed). gap_key z.node.kind) (sym (only_one h)) ∙ key in absurd cc
    by_spot Nowhere spot h = elim h [ ]
placed_stands p n y (an_exit path h) key = absurd (no_exit (spot_at p p.main path) h)
  where
    no_exit : (s : Spot) → Has y (exit_at path s) → ⊥
    no_exit (AtAction (instruction.Return v at)) h = let never : None ≡ Some n = ap (λ (z : Placed). gap_key z.node.kind) (sym (only_one h)) ∙ key in absurd cc
    no_exit (AtAction (instruction.Close b at)) h = let never : None ≡ Some n = ap (λ (z : Placed). gap_key z.node.kind) (sym (only_one h)) ∙ key in absurd cc
    no_exit _ h = elim h [ ]

-- a node of a gap, by its number
node_stands : (p : Program) (v n : ℕ) (x : Node) → slice_get (graph_in p).nodes v ≡ Some x → gap_key x.kind ≡ Some n → StandsIn p n x.ctx
node_stands p v n x at key = by_place (slice_get (all_placed p (contexts p)) v) refl (sym (slice_get-map (λ (y : Placed). y.node) (all_placed p (contexts p)) v) ∙ at)
  where
    by_place : (o : Option Placed) → slice_get (all_placed p (contexts p)) v ≡ o → option_map (λ (y : Placed). y.node) o ≡ Some x → StandsIn p n x.ctx
    by_place None there h = absurd cc
    by_place (Some y) there h =
        let same : y.node ≡ x = cc in
        subst (λ (z : Node). StandsIn p n z.ctx) same
        (placed_stands p n y (all_are_placed p (contexts p) (has_get (all_placed p (contexts p)) v there)) (ap (λ (z : Node). gap_key z.kind) same ∙ key))

-- the first node of a reached gap
record FirstNode (p : Program) (n : ℕ) : Type 0 where
  place : ℕ
  node : Node
  stands : slice_get (graph_in p).nodes place ≡ Some node
  key : gap_key node.kind ≡ Some n
  is : context_in (graph_in p) (nodes_of_gap (graph_in p) n) ≡ Some node.ctx

-- a reached gap has a first node
first_node : (p : Program) (n : ℕ) → is_reached (graph_in p) n ≡ true → FirstNode p n
first_node p n reached = by_nodes (nodes_of_gap (graph_in p) n) refl reached
  where
    keys : List (Option ℕ)
    keys = map (λ (x : Node). gap_key x.kind) (graph_in p).nodes

    by_key : (x : Node) (key : Option ℕ) → gap_key x.kind ≡ key → is_key n key ≡ true → gap_key x.kind ≡ Some n
    by_key x None is h = absurd cc
    by_key x (Some j) is h = is ∙ ap (λ (m : ℕ). Some m) (eqb-true j n h)

    by_node : (v : ℕ) (vs : List ℕ) → nodes_of_gap (graph_in p) n ≡ v ∷ vs → (o : Option Node) → slice_get (graph_in p).nodes v ≡ o → has (is_key n) (option_map (λ (x : Node). gap_key x.kind) o) ≡ true → FirstNode p n
    by_node v vs nodes None at h = absurd cc
    by_node v vs nodes (Some x) at h = record {
      place = v;
      node = x;
      stands = at;
      key = by_key x (gap_key x.kind) refl h;
      is = ap (context_in (graph_in p)) nodes ∙ ap (option_map (λ (z : Node). z.ctx)) at;
    }

    by_nodes : (vs : List ℕ) → nodes_of_gap (graph_in p) n ≡ vs → has_any vs ≡ true → FirstNode p n
    by_nodes [] is h = absurd cc
    by_nodes (v ∷ vs) is h =
        let passes = (has_of_filter (λ i. has (is_key n) (slice_get keys i)) (range_with_len 0 (length keys)) (subst (λ (ws : List ℕ). Has v ws) (sym is) first)).1 in
        by_node v vs is (slice_get (graph_in p).nodes v) refl (ap (has (is_key n)) (sym (slice_get-map (λ (x : Node). gap_key x.kind) (graph_in p).nodes v)) ∙ passes)

-- the offset of a reached gap is that of the function's name
pub gap_offset_is : {n : ℕ} {d : FunDef} (p : Program) → IsWellFormed p → Has d p.funs → Has n (numbers_of d) → is_reached (graph_in p) n ≡ true → gap_offset (graph_in p) p n ≡ d.at
gap_offset_is {n} {d} p w here among reached =
    let node = first_node p n reached in
    let stands = node_stands p node.place n node.node node.stands node.key in
    let same : stands.function ≡ d = one_function 0 p.gaps p.funs (numbers_ascend p w) (has_get p.funs stands.ctx.fun stands.is) stands.among here among in
    ap (λ (o : Option ℕ). unwrap_or (option_and_then (name_offset p) (option_and_then (function_in (function_of (graph_in p)) p) o)) 0) node.is
    ∙ ap (λ (o : Option ℕ). unwrap_or (option_and_then (name_offset p) o) 0) (function_is p w node.node.ctx stands.ctx stands.at)
    ∙ ap (λ (o : Option FunDef). unwrap_or (option_map (λ (e : FunDef). e.at) o) 0) stands.is
    ∙ ap (λ (e : FunDef). e.at) same
