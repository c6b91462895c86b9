-- The graph of a fill is that of the program with the choice's frees in its gaps.
use Rattle.std.proofs.Common.{◌≡◌, ℕ, suc, ◌+◌, ◌==◌, Bool, true, false, List, [], ◌∷◌, ◌++◌, map, length, slice_get, unwrap_or, Option, Some, None, refl, ap, sym, ◌∙◌, flat_map}
use Rattle.std.specs.Prelude.{if◌then◌else◌}
use Rattle.std.proofs.lemmas.List.{map-append, length-map}
use Rattle.c_tree.specs.Alike.{bare}
use Rattle.c_tree.specs.Fill.{regapped_block, regapped_fun, filled, fill}
use Rattle.c_tree.specs.UserCalls.{item_calls, arm_calls, block_calls, piece_calls, calls_in}
use Rattle.c_tree.proofs.Fills.{skeleton_fill}
use Rattle.c_tree.proofs.RegappedFolds.{fold_kept}
use Rattle.c_tree.specs.declared.choice.Choice.{Choice}
use Rattle.c_tree.specs.declared.control.UserCall.{UserCall}
use Rattle.c_tree.specs.declared.program.Block.{Block}
use Rattle.c_tree.specs.declared.program.FunDef.{FunDef}
use Rattle.c_tree.specs.declared.program.Program.{Program}
use Rattle.c_meaning.specs.declared.machine.Frame.{Frame}
use Rattle.c_meaning.specs.Parts.{Instruction, Unset, Assign, Malloc, Getchar, Putchar, Printf, Test, Invoke, Return, Close}
use Rattle.c_meaning.specs.Place.{Spot, AtGap, AtAction, Nowhere}
use Rattle.c_meaning.proofs.BuiltSpots.{mapped_spot}
use Rattle.c_meaning.proofs.OutlinePlaces.{places_of_skeletons}
use Rattle.c_meaning.proofs.Regapped.{as_it_is, here_regapped, fill_corresponds}
use Rattle.call_contexts.specs.declared.context.Ctx.{Ctx}
use Rattle.call_contexts.specs.Calls.{rows_from, calls_by_function}
use Rattle.call_contexts.specs.Contexts.{visit, contexts, home_of}
use Rattle.c_graph.specs.declared.graph.Way.TheVariants as way
use Rattle.c_graph.specs.declared.graph.Edge.{Edge}
use Rattle.c_graph.specs.declared.graph.Graph.{Graph}
use Rattle.c_graph.specs.declared.graph.Node.{Node}
use Rattle.c_graph.specs.declared.graph.NodeKind.TheVariants.{Gap, Act}
use Rattle.c_graph.specs.Actions.{action_of}
use Rattle.c_graph.specs.Filled.{filled_node, filled_graph}
use Rattle.c_graph.specs.Nodes.{spot_at, next_at, places, Symbol, In, Lead, lead, says, way_said, back_leads, return_leads, leave_leads, leads_of, Placed, placed_at, placed_in, placed_from, exit_at, exits, all_placed, same_symbol, index_of, number_of, edge_of, edges_from, graph}

flat_same : {A B : Type 0} (f g : A → List B) → ((x : A) → f x ≡ g x) → (xs : List A) → flat_map f xs ≡ flat_map g xs
flat_same f g same [] = refl
flat_same {B = B} f g same (x ∷ xs) = ap (λ (ys : List B). ys ++ flat_map f xs) (same x) ∙ ap (λ (ys : List B). g x ++ ys) (flat_same f g same xs)

flat_mapped : {A B : Type 0} (r : B → B) (f g : A → List B) → ((x : A) → f x ≡ map r (g x)) → (xs : List A) → flat_map f xs ≡ map r (flat_map g xs)
flat_mapped r f g same [] = refl
flat_mapped {B = B} r f g same (x ∷ xs) =
    ap (λ (ys : List B). ys ++ flat_map f xs) (same x) ∙ ap (λ (ys : List B). map r (g x) ++ ys) (flat_mapped r f g same xs) ∙ sym (map-append r (g x) (flat_map g xs))

abbrev path_of_first : List Frame → List ℕ
path_of_first [] = []
path_of_first (f ∷ fs) = f.path

module _ (p : Program) (choice : Choice) where
  abbrev q : Program
  q = fill p choice

  abbrev refilled : Placed → Placed
  refilled x = record x { node = filled_node choice.puts x.node }

  -- the same calls, so the same contexts

  calls_same : (f : ℕ) (b : Block) → calls_in f (regapped_block (filled choice.puts) b) ≡ calls_in f b
  calls_same f = fold_kept (item_calls f) arm_calls block_calls piece_calls (filled choice.puts) (λ x. refl) (λ x. refl)

  rows_same : (f : ℕ) (ds : List FunDef) → rows_from f (map (regapped_fun (filled choice.puts)) ds) ≡ rows_from f ds
  rows_same f [] = refl
  rows_same f (d ∷ ds) =
      ap (λ (cs : List UserCall). cs ∷ rows_from (f + 1) (map (regapped_fun (filled choice.puts)) ds)) (calls_same f d.body)
      ∙ ap (λ (rows : List (List UserCall)). calls_in f d.body ∷ rows) (rows_same (f + 1) ds)

  pub contexts_same : contexts q ≡ contexts p
  contexts_same =
      ap (λ (n : ℕ). visit (calls_by_function q) n 0 p.main None) (length-map p.funs (regapped_fun (filled choice.puts)))
      ∙ ap (λ (rows : List (List UserCall)). visit rows (length p.funs) 0 p.main None) (rows_same 0 p.funs)

  -- the same places

  spots_same : (f : ℕ) (path : List ℕ) → spot_at q f path ≡ mapped_spot (filled choice.puts) as_it_is (spot_at p f path)
  spots_same f path = here_regapped (filled choice.puts) p (record { fun = f; path = path; target = None } ∷ [])

  next_same : (f : ℕ) (said : Option Bool) (path : List ℕ) → next_at q f said path ≡ next_at p f said path
  next_same f said path = sym (ap path_of_first ((fill_corresponds p choice).ways said (record { fun = f; path = path; target = None } ∷ [])))

  places_same : (f : ℕ) → places q f ≡ places p f
  places_same f = sym (ap (λ (o : Option (List (List ℕ))). unwrap_or o []) (places_of_skeletons p q (ap bare (sym (skeleton_fill p choice))) f))

  -- the same leads

  on_same : (k f : ℕ) (said : Option Bool) (path : List ℕ) → In k (next_at q f said path) ≡ In k (next_at p f said path)
  on_same k f said path = ap (λ (r : List ℕ). In k r) (next_same f said path)

  back_same_at : (k f n : ℕ) (path : List ℕ) (spot : Spot) → back_leads q k f n path (mapped_spot (filled choice.puts) as_it_is spot) ≡ back_leads p k f n path spot
  back_same_at k f n path (AtGap g) = refl
  back_same_at k f n path Nowhere = refl
  back_same_at k f n path (AtAction (Invoke number callee arguments target)) =
      ap (λ (r : List ℕ). if number == n then lead (way.Leave target) (In k r) ∷ [] else []) (next_same f None path)
  back_same_at k f n path (AtAction a) = refl

  back_same : (k f n : ℕ) (path : List ℕ) → back_leads q k f n path (spot_at q f path) ≡ back_leads p k f n path (spot_at p f path)
  back_same k f n path = ap (back_leads q k f n path) (spots_same f path) ∙ back_same_at k f n path (spot_at p f path)

  return_same : (k n : ℕ) (o : Option Ctx) → return_leads q k n o ≡ return_leads p k n o
  return_same k n None = refl
  return_same k n (Some c) =
      ap (flat_map (λ path. back_leads q k c.fun n path (spot_at q c.fun path))) (places_same c.fun)
      ∙ flat_same (λ path. back_leads q k c.fun n path (spot_at q c.fun path)) (λ path. back_leads p k c.fun n path (spot_at p c.fun path)) (back_same k c.fun n) (places p c.fun)

  module _ (cs : List Ctx) where
    leave_same : (path : List ℕ) (home : Option (ℕ × ℕ)) → leave_leads q cs path home ≡ leave_leads p cs path home
    leave_same path None = refl
    leave_same path (Some home) = return_same home.0 home.1 (slice_get cs home.0)

    said_same : (k f : ℕ) (path : List ℕ) (bs : List Bool) →
        map (λ b. lead (way_said b) (In k (next_at q f (Some b) path))) bs ≡ map (λ b. lead (way_said b) (In k (next_at p f (Some b) path))) bs
    said_same k f path [] = refl
    said_same k f path (b ∷ bs) =
        ap (λ (r : List ℕ). lead (way_said b) (In k r) ∷ map (λ b. lead (way_said b) (In k (next_at q f (Some b) path))) bs) (next_same f (Some b) path)
        ∙ ap (λ (ls : List Lead). lead (way_said b) (In k (next_at p f (Some b) path)) ∷ ls) (said_same k f path bs)

    straight_same : (k f : ℕ) (path : List ℕ) → lead way.On (In k (next_at q f None path)) ∷ [] ≡ lead way.On (In k (next_at p f None path)) ∷ []
    straight_same k f path = ap (λ (r : List ℕ). lead way.On (In k r) ∷ []) (next_same f None path)

    leads_same : (k f : ℕ) (path : List ℕ) (a : Instruction) → leads_of q cs k f path a ≡ leads_of p cs k f path a
    leads_same k f path (Test e) = said_same k f path (says e)
    leads_same k f path (Malloc place size offset) = ap (λ (r : List ℕ). lead way.Made (In k r) ∷ lead way.NotMade (In k r) ∷ []) (next_same f None path)
    leads_same k f path (Invoke number callee arguments target) = refl
    leads_same k f path (Return value offset) = leave_same path (home_of cs k)
    leads_same k f path (Close true offset) = leave_same path (home_of cs k)
    leads_same k f path (Close false offset) = refl
    leads_same k f path (Unset x) = straight_same k f path
    leads_same k f path (Assign place o value offset) = straight_same k f path
    leads_same k f path (Getchar place) = straight_same k f path
    leads_same k f path (Putchar value) = straight_same k f path
    leads_same k f path (Printf text arguments) = straight_same k f path

    -- the same nodes, but for the frees

    placed_same_at : (k f : ℕ) (path : List ℕ) (spot : Spot) → placed_at q cs k f path (mapped_spot (filled choice.puts) as_it_is spot) ≡ map refilled (placed_at p cs k f path spot)
    placed_same_at k f path (AtGap g) =
        ap (λ (r : List ℕ). record { symbol = In k path; node = filled_node choice.puts (record { ctx = k; kind = Gap g.number g.frees }); leads = lead way.On (In k r) ∷ [] } ∷ []) (next_same f None path)
    placed_same_at k f path (AtAction a) = ap (λ (ls : List Lead). record { symbol = In k path; node = record { ctx = k; kind = Act (action_of a) }; leads = ls } ∷ []) (leads_same k f path a)
    placed_same_at k f path Nowhere = refl

    placed_same : (k f : ℕ) (path : List ℕ) → placed_at q cs k f path (spot_at q f path) ≡ map refilled (placed_at p cs k f path (spot_at p f path))
    placed_same k f path = ap (placed_at q cs k f path) (spots_same f path) ∙ placed_same_at k f path (spot_at p f path)

    in_same : (k f : ℕ) → placed_in q cs k f ≡ map refilled (placed_in p cs k f)
    in_same k f =
        ap (flat_map (λ path. placed_at q cs k f path (spot_at q f path))) (places_same f)
        ∙ flat_mapped refilled (λ path. placed_at q cs k f path (spot_at q f path)) (λ path. placed_at p cs k f path (spot_at p f path)) (placed_same k f) (places p f)

    from_same : (k : ℕ) (rest : List Ctx) → placed_from q cs k rest ≡ map refilled (placed_from p cs k rest)
    from_same k [] = refl
    from_same k (c ∷ rest) =
        ap (λ (xs : List Placed). xs ++ placed_from q cs (k + 1) rest) (in_same k c.fun)
        ∙ ap (λ (xs : List Placed). map refilled (placed_in p cs k c.fun) ++ xs) (from_same (k + 1) rest)
        ∙ sym (map-append refilled (placed_in p cs k c.fun) (placed_from p cs (k + 1) rest))

    exit_same_at : (path : List ℕ) (spot : Spot) → exit_at path (mapped_spot (filled choice.puts) as_it_is spot) ≡ map refilled (exit_at path spot)
    exit_same_at path (AtGap g) = refl
    exit_same_at path Nowhere = refl
    exit_same_at path (AtAction (Return value offset)) = refl
    exit_same_at path (AtAction (Close goes_back offset)) = refl
    exit_same_at path (AtAction a) = refl

    exits_same : exits q ≡ map refilled (exits p)
    exits_same =
        ap (flat_map (λ path. exit_at path (spot_at q p.main path))) (places_same p.main)
        ∙ flat_mapped refilled (λ path. exit_at path (spot_at q p.main path)) (λ path. exit_at path (spot_at p p.main path))
        (λ path. ap (exit_at path) (spots_same p.main path) ∙ exit_same_at path (spot_at p p.main path)) (places p p.main)

    all_same : all_placed q cs ≡ map refilled (all_placed p cs)
    all_same =
        ap (λ (xs : List Placed). xs ++ exits q) (from_same 0 cs) ∙ ap (λ (xs : List Placed). map refilled (placed_from p cs 0 cs) ++ xs) exits_same
        ∙ sym (map-append refilled (placed_from p cs 0 cs) (exits p))

    -- the same numbers and edges

    index_same : (passes : Placed → Bool) (xs : List Placed) → ((x : Placed) → passes (refilled x) ≡ passes x) → index_of passes (map refilled xs) ≡ index_of passes xs
    index_same passes [] same = refl
    index_same passes (x ∷ xs) same =
        ap (λ (b : Bool). if b then 0 else suc (index_of passes (map refilled xs))) (same x)
        ∙ ap (λ (n : ℕ). if passes x then 0 else suc n) (index_same passes xs same)

    numbers_same : (to : Symbol) → number_of q cs to ≡ number_of p cs to
    numbers_same to = ap (index_of (λ x. same_symbol x.symbol to)) all_same ∙ index_same (λ x. same_symbol x.symbol to) (all_placed p cs) (λ x. refl)

    lead_edges_same : (v : ℕ) (ls : List Lead) → map (edge_of q cs v) ls ≡ map (edge_of p cs v) ls
    lead_edges_same v [] = refl
    lead_edges_same v (l ∷ ls) =
        ap (λ (n : ℕ). record { from = v; to = n; way = l.way } ∷ map (edge_of q cs v) ls) (numbers_same l.to)
        ∙ ap (λ (es : List Edge). edge_of p cs v l ∷ es) (lead_edges_same v ls)

    edges_same : (v : ℕ) (xs : List Placed) → edges_from q cs v (map refilled xs) ≡ edges_from p cs v xs
    edges_same v [] = refl
    edges_same v (x ∷ xs) =
        ap (λ (es : List Edge). es ++ edges_from q cs (v + 1) (map refilled xs)) (lead_edges_same v x.leads)
        ∙ ap (λ (es : List Edge). map (edge_of p cs v) x.leads ++ es) (edges_same (v + 1) xs)

    nodes_same : (xs : List Placed) → map (λ x. x.node) (map refilled xs) ≡ map (filled_node choice.puts) (map (λ x. x.node) xs)
    nodes_same [] = refl
    nodes_same (x ∷ xs) = ap (λ (ns : List Node). filled_node choice.puts x.node ∷ ns) (nodes_same xs)

    abbrev made : List Node → List Edge → Graph
    made nodes edges = record { nodes = nodes; edges = edges }

    graph_same : graph q cs ≡ filled_graph choice (graph p cs)
    graph_same =
        ap (λ (xs : List Placed). made (map (λ x. x.node) xs) (edges_from q cs 0 xs)) all_same
        ∙ ap (λ (ns : List Node). made ns (edges_from q cs 0 (map refilled (all_placed p cs)))) (nodes_same (all_placed p cs))
        ∙ ap (λ (es : List Edge). made (map (filled_node choice.puts) (map (λ x. x.node) (all_placed p cs))) es) (edges_same 0 (all_placed p cs))

  -- the graph of a fill differs in the frees of its gaps alone
  pub graph_of_fill : graph (fill p choice) (contexts (fill p choice)) ≡ filled_graph choice (graph p (contexts p))
  graph_of_fill = ap (graph q) contexts_same ∙ graph_same (contexts p)
