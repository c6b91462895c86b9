-- A place has the number of its node, and the edges from there are those of the place.
use Rattle.std.proofs.Common.{◌≡◌, ◌≢◌, ℕ, zero, suc, ◌+◌, ◌<◌, ◌==◌, ◌&&◌, ⊎_elim, Bool, true, false, List, [], ◌∷◌, ◌++◌, map, length, slice_get, Option, Some, None, option_map, refl, ap, sym, subst, ◌∙◌, arith}
use Rattle.std.specs.Prelude.{if◌then◌else◌}
use Rattle.std.proofs.lemmas.Bool.{eqb-true, eq-eqb}
use Rattle.std.proofs.lemmas.Option.{slice_get-map, slice_get_past}
use Rattle.c_tree.specs.declared.program.Program.{Program}
use Rattle.c_meaning.specs.Parts.{Return, Close}
use Rattle.c_meaning.specs.Place.{Spot, AtGap, AtAction, Nowhere}
use Rattle.call_contexts.specs.declared.context.Ctx.{Ctx}
use Rattle.call_contexts.proofs.Has.{Has, first, later, has_left, has_right, has_split, has_flat, has_flat_from, has_get, only_one}
use Rattle.c_graph.specs.declared.graph.Way.{Way}
use Rattle.c_graph.specs.declared.graph.Edge.{Edge}
use Rattle.c_graph.specs.Nodes.{spot_at, places, Symbol, In, Out, Lead, Placed, placed_at, placed_in, placed_from, exit_at, exits, all_placed, same_path, same_symbol, index_of, number_of, edge_of, edges_from, graph}
use Rattle.c_graph.specs.Moves.{first_edge}
use Rattle.c_graph.proofs.Listed.{stands_listed}

-- symbols

both_true : (a b : Bool) → (a && b) ≡ true → (a ≡ true) × (b ≡ true)
both_true true b e = (refl, e)
both_true false b e = absurd cc

path_is : (ps qs : List ℕ) → same_path ps qs ≡ true → ps ≡ qs
path_is [] [] e = refl
path_is [] (j ∷ qs) e = absurd cc
path_is (i ∷ ps) [] e = absurd cc
path_is (i ∷ ps) (j ∷ qs) e =
    let both = both_true (i == j) (same_path ps qs) e in
    ap (λ (n : ℕ). n ∷ ps) (eqb-true i j both.0) ∙ ap (λ (rs : List ℕ). j ∷ rs) (path_is ps qs both.1)

path_same : (ps : List ℕ) → same_path ps ps ≡ true
path_same [] = refl
path_same (i ∷ ps) = ap (λ (b : Bool). b && same_path ps ps) (eq-eqb i i refl) ∙ path_same ps

symbol_is : (a b : Symbol) → same_symbol a b ≡ true → a ≡ b
symbol_is (In k ps) (In j qs) e =
    let both = both_true (k == j) (same_path ps qs) e in
    ap (λ (n : ℕ). In n ps) (eqb-true k j both.0) ∙ ap (λ (rs : List ℕ). In j rs) (path_is ps qs both.1)
symbol_is (In k ps) (Out qs) e = absurd cc
symbol_is (Out ps) (In j qs) e = absurd cc
symbol_is (Out ps) (Out qs) e = ap (λ (rs : List ℕ). Out rs) (path_is ps qs e)

symbol_same : (a : Symbol) → same_symbol a a ≡ true
symbol_same (In k ps) = ap (λ (b : Bool). b && same_path ps ps) (eq-eqb k k refl) ∙ path_same ps
symbol_same (Out ps) = path_same ps

-- places in lists

index_case : {A : Type 0} (passes : A → Bool) (x : A) (xs : List A) (b : Bool) → passes x ≡ b →
    (b ≡ false → (y : A) × (slice_get xs (index_of passes xs) ≡ Some y) × (passes y ≡ true)) →
    (y : A) × (slice_get (x ∷ xs) (if b then 0 else suc (index_of passes xs)) ≡ Some y) × (passes y ≡ true)
index_case passes x xs true is rest = (x, refl, is)
index_case passes x xs false is rest = rest refl

index_found : {A : Type 0} {z : A} (passes : A → Bool) (xs : List A) → Has z xs → passes z ≡ true → (y : A) × (slice_get xs (index_of passes xs) ≡ Some y) × (passes y ≡ true)
index_found passes [] h e = elim h [ ]
index_found passes (x ∷ xs) first e = index_case passes x xs (passes x) refl (λ no. let never : true ≡ false = sym e ∙ no in absurd cc)
index_found passes (x ∷ xs) (later h) e = index_case passes x xs (passes x) refl (λ no. index_found passes xs h e)

index_past : {A : Type 0} (passes : A → Bool) (xs : List A) → ((x : A) → Has x xs → passes x ≡ false) → index_of passes xs ≡ length xs
index_past passes [] none = refl
index_past passes (x ∷ xs) none =
    ap (λ (b : Bool). if b then 0 else suc (index_of passes xs)) (none x first) ∙ ap (λ (n : ℕ). suc n) (index_past passes xs (λ y h. none y (later h))) ∙ more (length xs)
  where
    more : (n : ℕ) → suc n ≡ suc n
    more n = refl

-- nodes

module _ (p : Program) (cs : List Ctx) where
  placed_symbol : {x : Placed} (k f : ℕ) (path : List ℕ) (spot : Spot) → Has x (placed_at p cs k f path spot) → x.symbol ≡ In k path
  placed_symbol k f path (AtGap g) h = ap (λ (y : Placed). y.symbol) (only_one h)
  placed_symbol k f path (AtAction a) h = ap (λ (y : Placed). y.symbol) (only_one h)
  placed_symbol k f path Nowhere h = elim h [ ]

  one_placed : {x y : Placed} (k f : ℕ) (path : List ℕ) (spot : Spot) → Has x (placed_at p cs k f path spot) → Has y (placed_at p cs k f path spot) → x ≡ y
  one_placed k f path (AtGap g) h i = only_one h ∙ sym (only_one i)
  one_placed k f path (AtAction a) h i = only_one h ∙ sym (only_one i)
  one_placed k f path Nowhere h i = elim h [ ]

  exit_symbol : {x : Placed} (path : List ℕ) (spot : Spot) → Has x (exit_at path spot) → x.symbol ≡ Out path
  exit_symbol path (AtAction (Return value offset)) h = ap (λ (y : Placed). y.symbol) (only_one h)
  exit_symbol path (AtAction (Close goes_back offset)) h = ap (λ (y : Placed). y.symbol) (only_one h)
  exit_symbol path _ h = elim h [ ]

  one_exit : {x y : Placed} (path : List ℕ) (spot : Spot) → Has x (exit_at path spot) → Has y (exit_at path spot) → x ≡ y
  one_exit path (AtAction (Return value offset)) h i = only_one h ∙ sym (only_one i)
  one_exit path (AtAction (Close goes_back offset)) h i = only_one h ∙ sym (only_one i)
  one_exit path _ h i = elim h [ ]

  stands_placed : {x : Placed} (k f : ℕ) (path : List ℕ) (spot : Spot) → Has x (placed_at p cs k f path spot) → spot ≢ Nowhere
  stands_placed k f path (AtGap g) h e = absurd cc
  stands_placed k f path (AtAction a) h e = absurd cc
  stands_placed k f path Nowhere h e = elim h [ ]

  stands_exit : {x : Placed} (path : List ℕ) (spot : Spot) → Has x (exit_at path spot) → spot ≢ Nowhere
  stands_exit path (AtGap g) h e = absurd cc
  stands_exit path (AtAction a) h e = absurd cc
  stands_exit path Nowhere h e = elim h [ ]

  -- each node is that of a place in a context, or an exit
  pub data IsPlaced (x : Placed) : Type 0 where
    in_context : (k : ℕ) (c : Ctx) (path : List ℕ) → slice_get cs k ≡ Some c → Has x (placed_at p cs k c.fun path (spot_at p c.fun path)) → IsPlaced x
    an_exit : (path : List ℕ) → Has x (exit_at path (spot_at p p.main path)) → IsPlaced x

  from_placed : {x : Placed} (k : ℕ) (rest : List Ctx) → ((i : ℕ) → slice_get rest i ≡ slice_get cs (k + i)) → Has x (placed_from p cs k rest) → IsPlaced x
  from_placed k [] same h = elim h [ ]
  from_placed {x} k (c ∷ rest) same h = ⊎_elim
      (λ here.
      let it = has_flat_from (λ path. placed_at p cs k c.fun path (spot_at p c.fun path)) (places p c.fun) here in
      let on : k + 0 ≡ k = omega arith in
      in_context k c it.0 (ap (slice_get cs) (sym on) ∙ sym (same 0)) it.2)
      (λ there. from_placed (k + 1) rest (λ i. let on : k + suc i ≡ k + 1 + i = omega arith in same (suc i) ∙ ap (slice_get cs) on) there)
      (has_split (placed_in p cs k c.fun) h)

  pub all_are_placed : {x : Placed} → Has x (all_placed p cs) → IsPlaced x
  all_are_placed {x} h = ⊎_elim
      (λ here. from_placed 0 cs (λ i. let on : i ≡ 0 + i = omega arith in ap (slice_get cs) on) here)
      (λ there. let it = has_flat_from (λ path. exit_at path (spot_at p p.main path)) (places p p.main) there in an_exit it.0 it.2)
      (has_split (placed_from p cs 0 cs) h)

  placed_from_has : {y : Placed} (b : ℕ) (rest : List Ctx) (i : ℕ) (c : Ctx) → slice_get rest i ≡ Some c → Has y (placed_in p cs (b + i) c.fun) → Has y (placed_from p cs b rest)
  placed_from_has b [] i c e h = absurd cc
  placed_from_has {y} b (d ∷ rest) zero c e h =
      let same : d ≡ c = cc in
      let on : b + 0 ≡ b = omega arith in
      has_left (placed_from p cs (b + 1) rest) (subst (λ (n : ℕ). Has y (placed_in p cs n d.fun)) on (subst (λ (x : Ctx). Has y (placed_in p cs (b + 0) x.fun)) (sym same) h))
  placed_from_has {y} b (d ∷ rest) (suc i) c e h =
      let on : b + suc i ≡ b + 1 + i = omega arith in
      has_right (placed_in p cs b d.fun) (placed_from_has (b + 1) rest i c e (subst (λ (n : ℕ). Has y (placed_in p cs n c.fun)) on h))

  place_among_all : {y : Placed} (k : ℕ) (c : Ctx) (path : List ℕ) → slice_get cs k ≡ Some c → Has y (placed_at p cs k c.fun path (spot_at p c.fun path)) → Has y (all_placed p cs)
  place_among_all {y} k c path e h =
      let on : k ≡ 0 + k = omega arith in
      has_left (exits p) (placed_from_has 0 cs k c e
      (subst (λ (n : ℕ). Has y (placed_in p cs n c.fun)) on
      (has_flat (λ q. placed_at p cs k c.fun q (spot_at p c.fun q)) (places p c.fun) (stands_listed p c.fun path (stands_placed k c.fun path (spot_at p c.fun path) h)) h)))

  exit_among_all : {y : Placed} (path : List ℕ) → Has y (exit_at path (spot_at p p.main path)) → Has y (all_placed p cs)
  exit_among_all path h =
      has_right (placed_from p cs 0 cs)
      (has_flat (λ q. exit_at q (spot_at p p.main q)) (places p p.main) (stands_listed p p.main path (stands_exit path (spot_at p p.main path) h)) h)

  in_context_of : (k j : ℕ) (ps qs : List ℕ) → In k ps ≡ In j qs → (k ≡ j) × (ps ≡ qs)
  in_context_of k j ps qs e = (cc, cc)

  place_of_symbol : {x y : Placed} (k : ℕ) (c : Ctx) (path : List ℕ) → slice_get cs k ≡ Some c → Has y (placed_at p cs k c.fun path (spot_at p c.fun path)) → x.symbol ≡ In k path → IsPlaced x → x ≡ y
  place_of_symbol {x} {y} k c path e h is (in_context j d q g i) =
      let same = in_context_of j k q path (sym (placed_symbol j d.fun q (spot_at p d.fun q) i) ∙ is) in
      let contexts : Some d ≡ Some c = sym g ∙ ap (slice_get cs) same.0 ∙ e in
      let one : d ≡ c = cc in
      one_placed k c.fun path (spot_at p c.fun path)
      (subst (λ (b : Ctx). Has x (placed_at p cs k b.fun path (spot_at p b.fun path))) one
      (subst (λ (n : ℕ). Has x (placed_at p cs n d.fun path (spot_at p d.fun path))) same.0
      (subst (λ (r : List ℕ). Has x (placed_at p cs j d.fun r (spot_at p d.fun r))) same.1 i))) h
  place_of_symbol k c path e h is (an_exit q i) = let never : Out q ≡ In k path = sym (exit_symbol q (spot_at p p.main q) i) ∙ is in absurd cc

  exit_of_symbol : {x y : Placed} (path : List ℕ) → Has y (exit_at path (spot_at p p.main path)) → x.symbol ≡ Out path → IsPlaced x → x ≡ y
  exit_of_symbol path h is (in_context j d q g i) = let never : In j q ≡ Out path = sym (placed_symbol j d.fun q (spot_at p d.fun q) i) ∙ is in absurd cc
  exit_of_symbol {x} {y} path h is (an_exit q i) =
      let outs : Out q ≡ Out path = sym (exit_symbol q (spot_at p p.main q) i) ∙ is in
      let same : q ≡ path = cc in
      one_exit path (spot_at p p.main path) (subst (λ (r : List ℕ). Has x (exit_at r (spot_at p p.main r))) same i) h

  -- what stands at a place of a context has its number
  pub place_numbered : {y : Placed} (k : ℕ) (c : Ctx) (path : List ℕ) → slice_get cs k ≡ Some c → Has y (placed_at p cs k c.fun path (spot_at p c.fun path)) →
      slice_get (all_placed p cs) (number_of p cs (In k path)) ≡ Some y
  place_numbered {y} k c path e h =
      let named = symbol_same (In k path) in
      let it = index_found (λ x. same_symbol x.symbol (In k path)) (all_placed p cs) (place_among_all k c path e h)
      (ap (λ (a : Symbol). same_symbol a (In k path)) (placed_symbol k c.fun path (spot_at p c.fun path) h) ∙ named) in
      it.1 ∙ ap (λ (x : Placed). Some x) (place_of_symbol k c path e h (symbol_is it.0.symbol (In k path) it.2) (all_are_placed (has_get (all_placed p cs) (number_of p cs (In k path)) it.1)))

  -- and so has an exit
  pub exit_numbered : {y : Placed} (path : List ℕ) → Has y (exit_at path (spot_at p p.main path)) → slice_get (all_placed p cs) (number_of p cs (Out path)) ≡ Some y
  exit_numbered {y} path h =
      let it = index_found (λ x. same_symbol x.symbol (Out path)) (all_placed p cs) (exit_among_all path h)
      (ap (λ (a : Symbol). same_symbol a (Out path)) (exit_symbol path (spot_at p p.main path) h) ∙ symbol_same (Out path)) in
      it.1 ∙ ap (λ (x : Placed). Some x) (exit_of_symbol path h (symbol_is it.0.symbol (Out path) it.2) (all_are_placed (has_get (all_placed p cs) (number_of p cs (Out path)) it.1)))

  missing : {x : Placed} (k : ℕ) (c : Ctx) (path : List ℕ) → slice_get cs k ≡ Some c → spot_at p c.fun path ≡ Nowhere → IsPlaced x → x.symbol ≡ In k path → ⊥
  missing {x} k c path e none (in_context j d q g i) is =
      let same = in_context_of j k q path (sym (placed_symbol j d.fun q (spot_at p d.fun q) i) ∙ is) in
      let contexts : Some d ≡ Some c = sym g ∙ ap (slice_get cs) same.0 ∙ e in
      let one : d ≡ c = cc in
      stands_placed j d.fun q (spot_at p d.fun q) i (ap (spot_at p d.fun) same.1 ∙ ap (λ (b : Ctx). spot_at p b.fun path) one ∙ none)
  missing k c path e none (an_exit q i) is = let never : Out q ≡ In k path = sym (exit_symbol q (spot_at p p.main q) i) ∙ is in absurd cc

  not_same : (a b : Symbol) (t : Bool) → same_symbol a b ≡ t → (a ≡ b → ⊥) → t ≡ false
  not_same a b true e never = absurd (never (symbol_is a b e))
  not_same a b false e never = refl

  -- where nothing stands, the number is past all nodes
  pub nowhere_numbered : (k : ℕ) (c : Ctx) (path : List ℕ) → slice_get cs k ≡ Some c → spot_at p c.fun path ≡ Nowhere → slice_get (graph p cs).nodes (number_of p cs (In k path)) ≡ None
  nowhere_numbered k c path e none =
      let past : number_of p cs (In k path) ≡ length (all_placed p cs) = index_past (λ x. same_symbol x.symbol (In k path)) (all_placed p cs)
      (λ x h. not_same x.symbol (In k path) (same_symbol x.symbol (In k path)) refl (λ is. missing k c path e none (all_are_placed h) is)) in
      slice_get-map (λ x. x.node) (all_placed p cs) (number_of p cs (In k path))
      ∙ ap (option_map (λ x. x.node)) (ap (slice_get (all_placed p cs)) past ∙ slice_get_past (all_placed p cs) (length (all_placed p cs)) (omega arith))

  -- edges

  other_from : (asked : Way → Bool) (v b : ℕ) (l : Lead) (rest : Option Edge) (t : Bool) → (b == v) ≡ t → (b ≡ v → ⊥) → (if (t && asked l.way) then Some (edge_of p cs b l) else rest) ≡ rest
  other_from asked v b l rest true e never = absurd (never (eqb-true b v e))
  other_from asked v b l rest false e never = refl

  skip_other : (asked : Way → Bool) (v b : ℕ) (leads : List Lead) (rest : List Edge) → (b ≡ v → ⊥) → first_edge asked v (map (edge_of p cs b) leads ++ rest) ≡ first_edge asked v rest
  skip_other asked v b [] rest never = refl
  skip_other asked v b (l ∷ leads) rest never =
      other_from asked v b l (first_edge asked v (map (edge_of p cs b) leads ++ rest)) (b == v) refl never ∙ skip_other asked v b leads rest never

  none_before : (asked : Way → Bool) (v b : ℕ) (xs : List Placed) → v < b → first_edge asked v (edges_from p cs b xs) ≡ None
  none_before asked v b [] low = refl
  none_before asked v b (x ∷ xs) low = skip_other asked v b x.leads (edges_from p cs (b + 1) xs) (λ e. omega arith) ∙ none_before asked v (b + 1) xs (omega arith)

  stop_at : (asked : Way → Bool) (v : ℕ) (leads : List Lead) (rest : List Edge) → first_edge asked v rest ≡ None → first_edge asked v (map (edge_of p cs v) leads ++ rest) ≡ first_edge asked v (map (edge_of p cs v) leads)
  stop_at asked v [] rest none = none
  stop_at asked v (l ∷ leads) rest none = ap (λ (o : Option Edge). if (v == v && asked l.way) then Some (edge_of p cs v l) else o) (stop_at asked v leads rest none)

  edges_at : (asked : Way → Bool) (b i : ℕ) (xs : List Placed) (y : Placed) → slice_get xs i ≡ Some y →
      first_edge asked (b + i) (edges_from p cs b xs) ≡ first_edge asked (b + i) (map (edge_of p cs (b + i)) y.leads)
  edges_at asked b i [] y e = absurd cc
  edges_at asked b zero (x ∷ xs) y e =
      let same : x ≡ y = cc in
      let on : b + 0 ≡ b = omega arith in
      ap (λ (n : ℕ). first_edge asked n (map (edge_of p cs b) x.leads ++ edges_from p cs (b + 1) xs)) on
      ∙ stop_at asked b x.leads (edges_from p cs (b + 1) xs) (none_before asked b (b + 1) xs (omega arith))
      ∙ ap (λ (z : Placed). first_edge asked b (map (edge_of p cs b) z.leads)) same
      ∙ ap (λ (n : ℕ). first_edge asked n (map (edge_of p cs n) y.leads)) (sym on)
  edges_at asked b (suc i) (x ∷ xs) y e =
      let on : b + suc i ≡ b + 1 + i = omega arith in
      skip_other asked (b + suc i) b x.leads (edges_from p cs (b + 1) xs) (λ is. omega arith)
      ∙ ap (λ (n : ℕ). first_edge asked n (edges_from p cs (b + 1) xs)) on
      ∙ edges_at asked (b + 1) i xs y e
      ∙ ap (λ (n : ℕ). first_edge asked n (map (edge_of p cs n) y.leads)) (sym on)

  -- the first edge from a node is that of the first of its leads
  pub first_from : (asked : Way → Bool) (v : ℕ) (y : Placed) → slice_get (all_placed p cs) v ≡ Some y →
      first_edge asked v (graph p cs).edges ≡ first_edge asked v (map (edge_of p cs v) y.leads)
  first_from asked v y e =
      let on : 0 + v ≡ v = omega arith in
      ap (λ (n : ℕ). first_edge asked n (graph p cs).edges) (sym on) ∙ edges_at asked 0 v (all_placed p cs) y e ∙ ap (λ (n : ℕ). first_edge asked n (map (edge_of p cs n) y.leads)) on

  pub node_at : (v : ℕ) (y : Placed) → slice_get (all_placed p cs) v ≡ Some y → slice_get (graph p cs).nodes v ≡ Some y.node
  node_at v y e = slice_get-map (λ x. x.node) (all_placed p cs) v ∙ ap (option_map (λ x. x.node)) e
