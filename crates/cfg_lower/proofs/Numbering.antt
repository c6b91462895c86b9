-- The number of a place is that of its context's first node and its rank among the places of its function.
use Rattle.std.proofs.Common.{◌≡◌, ◌≢◌, ℕ, zero, suc, ◌+◌, ◌<◌, ◌≤◌, ◌&&◌, Bool, true, false, cond, List, [], ◌∷◌, ◌++◌, length, slice_get, unwrap_or, option_map, Option, Some, None, refl, ap, sym, subst, ◌∙◌, arith, flat_map}
use Rattle.std.specs.Prelude.{if◌then◌else◌}
use Rattle.std.specs.List.{filter}
use Rattle.std.proofs.lemmas.Bool.{eq-eqb}
use Rattle.std.proofs.lemmas.List.{length-append}
use Rattle.c_tree.specs.declared.program.Program.{Program}
use Rattle.c_meaning.specs.Parts.{Return, Close}
use Rattle.c_meaning.specs.Place.{Spot, AtGap, AtAction, Nowhere}
use Rattle.call_contexts.specs.declared.context.Ctx.{Ctx}
use Rattle.c_graph.specs.Nodes.{spot_at, places, In, Out, Placed, placed_at, placed_in, placed_from, exit_at, exits, all_placed, same_path, same_symbol, index_of, number_of}
use Rattle.cfg_lower.specs.Ranks.{place_of, rank}
use Rattle.cfg_lower.proofs.RowLaws.{apart_eqb}
use Rattle.cfg_lower.specs.Rows.{stands, standing, size, firsts_from, inside, goes_out, exit_places}

-- places in lists

counted : {A : Type 0} (passes : A → Bool) (x : A) (xs : List A) (b : Bool) → index_of passes xs ≡ unwrap_or (place_of passes xs) (length xs) →
    (if b then 0 else suc (index_of passes xs)) ≡ unwrap_or (if b then Some 0 else option_map (λ n. suc n) (place_of passes xs)) (suc (length xs))
counted passes x xs true e = refl
counted passes x xs false e = ap (λ (n : ℕ). suc n) e ∙ by (place_of passes xs) (length xs)
  where
    by : (o : Option ℕ) (n : ℕ) → suc (unwrap_or o n) ≡ unwrap_or (option_map (λ m. suc m) o) (suc n)
    by None n = refl
    by (Some m) n = refl

index_is : {A : Type 0} (passes : A → Bool) (xs : List A) → index_of passes xs ≡ unwrap_or (place_of passes xs) (length xs)
index_is passes [] = refl
index_is passes (x ∷ xs) = counted passes x xs (passes x) (index_is passes xs)

-- in one list, or in another behind it
abbrev in_either : Option ℕ → ℕ → Option ℕ → Option ℕ
in_either None n o = option_map (λ m. n + m) o
in_either (Some i) n o = Some i

by_nothing : (o : Option ℕ) → o ≡ option_map (λ m. 0 + m) o
by_nothing None = refl
by_nothing (Some m) = let e : m ≡ 0 + m = omega arith in ap (λ (n : ℕ). Some n) e

one_more : (b : Bool) (o r : Option ℕ) (n : ℕ) → (if b then Some 0 else option_map (λ m. suc m) (in_either o n r)) ≡ in_either (if b then Some 0 else option_map (λ m. suc m) o) (suc n) r
one_more true o r n = refl
one_more false None None n = refl
one_more false None (Some m) n = let e : suc (n + m) ≡ suc n + m = omega arith in ap (λ (k : ℕ). Some k) e
one_more false (Some i) r n = refl

place_both : {A : Type 0} (passes : A → Bool) (xs ys : List A) → place_of passes (xs ++ ys) ≡ in_either (place_of passes xs) (length xs) (place_of passes ys)
place_both passes [] ys = by_nothing (place_of passes ys)
place_both passes (x ∷ xs) ys =
    ap (λ (o : Option ℕ). if passes x then Some 0 else option_map (λ m. suc m) o) (place_both passes xs ys)
    ∙ one_more (passes x) (place_of passes xs) (place_of passes ys) (length xs)

nothing_in_either : (n : ℕ) → in_either None n None ≡ None
nothing_in_either n = refl

in_first : (o : Option ℕ) (n : ℕ) → in_either o n None ≡ o
in_first None n = refl
in_first (Some i) n = refl

further : (n m : ℕ) (o : Option ℕ) → option_map (λ i. n + i) (option_map (λ i. m + i) o) ≡ option_map (λ i. n + m + i) o
further n m None = refl
further n m (Some i) = let e : n + (m + i) ≡ n + m + i = omega arith in ap (λ (k : ℕ). Some k) e

module _ (p : Program) (cs : List Ctx) where
  abbrev at_place : ℕ → List ℕ → Placed → Bool
  at_place k q x = same_symbol x.symbol (In k q)

  abbrev at_exit : List ℕ → Placed → Bool
  at_exit q x = same_symbol x.symbol (Out q)

  abbrev placed_all : ℕ → ℕ → List (List ℕ) → List Placed
  placed_all k f = flat_map (λ path. placed_at p cs k f path (spot_at p f path))

  -- a context's own places

  same_context : (k : ℕ) (path q : List ℕ) → same_symbol (In k path) (In k q) ≡ same_path path q
  same_context k path q = ap (λ (b : Bool). b && same_path path q) (eq-eqb k k refl)

  own_step : (k f : ℕ) (q path : List ℕ) (spot : Spot) (rest : List Placed) (ps : List (List ℕ)) → place_of (at_place k q) rest ≡ rank q ps →
      place_of (at_place k q) (placed_at p cs k f path spot ++ rest) ≡ rank q (cond (stands spot) (path ∷ ps) ps)
  own_step k f q path (AtGap g) rest ps e =
      ap (λ (b : Bool). if b then Some 0 else option_map (λ m. suc m) (place_of (at_place k q) rest)) (same_context k path q)
      ∙ ap (λ (o : Option ℕ). if same_path path q then Some 0 else option_map (λ m. suc m) o) e
  own_step k f q path (AtAction a) rest ps e =
      ap (λ (b : Bool). if b then Some 0 else option_map (λ m. suc m) (place_of (at_place k q) rest)) (same_context k path q)
      ∙ ap (λ (o : Option ℕ). if same_path path q then Some 0 else option_map (λ m. suc m) o) e
  own_step k f q path Nowhere rest ps e = e

  own_places : (k f : ℕ) (q : List ℕ) (ps : List (List ℕ)) → place_of (at_place k q) (placed_all k f ps) ≡ rank q (filter (λ r. stands (spot_at p f r)) ps)
  own_places k f q [] = refl
  own_places k f q (path ∷ ps) = own_step k f q path (spot_at p f path) (placed_all k f ps) (filter (λ r. stands (spot_at p f r)) ps) (own_places k f q ps)

  -- those of another

  other_context : (j k : ℕ) (path q : List ℕ) → k ≢ j → same_symbol (In k path) (In j q) ≡ false
  other_context j k path q apart = ap (λ (b : Bool). b && same_path path q) (apart_eqb k j apart)

  other_step : (j k f : ℕ) (q path : List ℕ) (spot : Spot) (rest : List Placed) → k ≢ j → place_of (at_place j q) rest ≡ None → place_of (at_place j q) (placed_at p cs k f path spot ++ rest) ≡ None
  other_step j k f q path (AtGap g) rest apart e =
      ap (λ (b : Bool). if b then Some 0 else option_map (λ m. suc m) (place_of (at_place j q) rest)) (other_context j k path q apart) ∙ ap (option_map (λ m. suc m)) e
  other_step j k f q path (AtAction a) rest apart e =
      ap (λ (b : Bool). if b then Some 0 else option_map (λ m. suc m) (place_of (at_place j q) rest)) (other_context j k path q apart) ∙ ap (option_map (λ m. suc m)) e
  other_step j k f q path Nowhere rest apart e = e

  other_places : (j k f : ℕ) (q : List ℕ) (ps : List (List ℕ)) → k ≢ j → place_of (at_place j q) (placed_all k f ps) ≡ None
  other_places j k f q [] apart = refl
  other_places j k f q (path ∷ ps) apart = other_step j k f q path (spot_at p f path) (placed_all k f ps) apart (other_places j k f q ps apart)

  -- how many there are

  sized : (k f : ℕ) (path : List ℕ) (spot : Spot) (rest : List Placed) (ps : List (List ℕ)) → length rest ≡ length ps → length (placed_at p cs k f path spot ++ rest) ≡ length (cond (stands spot) (path ∷ ps) ps)
  sized k f path (AtGap g) rest ps e = ap (λ (n : ℕ). suc n) e
  sized k f path (AtAction a) rest ps e = ap (λ (n : ℕ). suc n) e
  sized k f path Nowhere rest ps e = e

  all_sized : (k f : ℕ) (ps : List (List ℕ)) → length (placed_all k f ps) ≡ length (filter (λ r. stands (spot_at p f r)) ps)
  all_sized k f [] = refl
  all_sized k f (path ∷ ps) = sized k f path (spot_at p f path) (placed_all k f ps) (filter (λ r. stands (spot_at p f r)) ps) (all_sized k f ps)

  context_sized : (k f : ℕ) → length (placed_in p cs k f) ≡ size p f
  context_sized k f = all_sized k f (places p f)

  -- contexts in turn

  contexts_sized : (b : ℕ) (rest : List Ctx) → length (placed_from p cs b rest) ≡ inside p rest
  contexts_sized b [] = refl
  contexts_sized b (c ∷ rest) =
      length-append (placed_in p cs b c.fun) (placed_from p cs (b + 1) rest)
      ∙ ap (λ (n : ℕ). n + length (placed_from p cs (b + 1) rest)) (context_sized b c.fun)
      ∙ ap (λ (n : ℕ). size p c.fun + n) (contexts_sized (b + 1) rest)

  in_none : (j b : ℕ) (q : List ℕ) (rest : List Ctx) → ((i : ℕ) → i < length rest → b + i ≢ j) → place_of (at_place j q) (placed_from p cs b rest) ≡ None
  in_none j b q [] apart = refl
  in_none j b q (c ∷ rest) apart =
      let here : b ≢ j = λ e. apart 0 (omega arith) (omega arith) in
      place_both (at_place j q) (placed_in p cs b c.fun) (placed_from p cs (b + 1) rest)
      ∙ ap (λ (o : Option ℕ). in_either o (length (placed_in p cs b c.fun)) (place_of (at_place j q) (placed_from p cs (b + 1) rest))) (other_places j b c.fun q (places p c.fun) here)
      ∙ ap (in_either None (length (placed_in p cs b c.fun))) (in_none j (b + 1) q rest (λ i low e. apart (suc i) (omega arith) (omega arith)))

  -- the nodes of the contexts before context k
  abbrev pub before : List Ctx → ℕ → ℕ
  before [] k = 0
  before (c ∷ rest) zero = 0
  before (c ∷ rest) (suc k) = size p c.fun + before rest k

  in_context : (b i j : ℕ) (q : List ℕ) (rest : List Ctx) (c : Ctx) → slice_get rest i ≡ Some c → j ≡ b + i →
      place_of (at_place j q) (placed_from p cs b rest) ≡ option_map (λ n. before rest i + n) (rank q (standing p c.fun))
  in_context b i j q [] c e is = absurd cc
  in_context b zero j q (d ∷ rest) c e is =
      let same : d ≡ c = cc in
      let here : j ≡ b = omega arith in
      place_both (at_place j q) (placed_in p cs b d.fun) (placed_from p cs (b + 1) rest)
      ∙ ap (in_either (place_of (at_place j q) (placed_in p cs b d.fun)) (length (placed_in p cs b d.fun))) (in_none j (b + 1) q rest (λ i low never. omega arith))
      ∙ in_first (place_of (at_place j q) (placed_in p cs b d.fun)) (length (placed_in p cs b d.fun))
      ∙ ap (λ (n : ℕ). place_of (at_place n q) (placed_in p cs b d.fun)) here
      ∙ own_places b d.fun q (places p d.fun)
      ∙ ap (λ (x : Ctx). rank q (standing p x.fun)) same
      ∙ by_nothing (rank q (standing p c.fun))
  in_context b (suc i) j q (d ∷ rest) c e is =
      let apart : b ≢ j = λ same. omega arith in
      place_both (at_place j q) (placed_in p cs b d.fun) (placed_from p cs (b + 1) rest)
      ∙ ap (λ (o : Option ℕ). in_either o (length (placed_in p cs b d.fun)) (place_of (at_place j q) (placed_from p cs (b + 1) rest))) (other_places j b d.fun q (places p d.fun) apart)
      ∙ ap (λ (n : ℕ). option_map (λ m. n + m) (place_of (at_place j q) (placed_from p cs (b + 1) rest))) (context_sized b d.fun)
      ∙ ap (option_map (λ m. size p d.fun + m)) (in_context (b + 1) i j q rest c e (omega arith))
      ∙ further (size p d.fun) (before rest i) (rank q (standing p c.fun))

  -- exits

  exit_step : (q path : List ℕ) (spot : Spot) (rest : List Placed) (ps : List (List ℕ)) → place_of (at_exit q) rest ≡ rank q ps →
      place_of (at_exit q) (exit_at path spot ++ rest) ≡ rank q (cond (goes_out spot) (path ∷ ps) ps)
  exit_step q path (AtAction (Return value offset)) rest ps e = ap (λ (o : Option ℕ). if same_path path q then Some 0 else option_map (λ m. suc m) o) e
  exit_step q path (AtAction (Close goes_back offset)) rest ps e = ap (λ (o : Option ℕ). if same_path path q then Some 0 else option_map (λ m. suc m) o) e
  exit_step q path _ rest ps e = e

  exit_filtered : (f : ℕ) (q : List ℕ) (ps : List (List ℕ)) → place_of (at_exit q) (flat_map (λ r. exit_at r (spot_at p f r)) ps) ≡ rank q (filter (λ r. goes_out (spot_at p f r)) ps)
  exit_filtered f q [] = refl
  exit_filtered f q (path ∷ ps) = exit_step q path (spot_at p f path) (flat_map (λ r. exit_at r (spot_at p f r)) ps) (filter (λ r. goes_out (spot_at p f r)) ps) (exit_filtered f q ps)

  exit_sized : (path : List ℕ) (spot : Spot) (rest : List Placed) (ps : List (List ℕ)) → length rest ≡ length ps → length (exit_at path spot ++ rest) ≡ length (cond (goes_out spot) (path ∷ ps) ps)
  exit_sized path (AtAction (Return value offset)) rest ps e = ap (λ (n : ℕ). suc n) e
  exit_sized path (AtAction (Close goes_back offset)) rest ps e = ap (λ (n : ℕ). suc n) e
  exit_sized path _ rest ps e = e

  exits_filtered : (f : ℕ) (ps : List (List ℕ)) → length (flat_map (λ r. exit_at r (spot_at p f r)) ps) ≡ length (filter (λ r. goes_out (spot_at p f r)) ps)
  exits_filtered f [] = refl
  exits_filtered f (path ∷ ps) = exit_sized path (spot_at p f path) (flat_map (λ r. exit_at r (spot_at p f r)) ps) (filter (λ r. goes_out (spot_at p f r)) ps) (exits_filtered f ps)

  -- what goes out stands there
  out_twice : (spot : Spot) (path : List ℕ) (ps qs : List (List ℕ)) (f : List ℕ → Bool) → f path ≡ goes_out spot → filter f ps ≡ qs → filter f (cond (stands spot) (path ∷ ps) ps) ≡ cond (goes_out spot) (path ∷ qs) qs
  out_twice (AtGap g) path ps qs f is e = ap (λ (b : Bool). cond b (path ∷ filter f ps) (filter f ps)) is ∙ e
  out_twice (AtAction a) path ps qs f is e = ap (λ (b : Bool). cond b (path ∷ filter f ps) (filter f ps)) is ∙ ap (λ (rs : List (List ℕ)). cond (goes_out (AtAction a)) (path ∷ rs) rs) e
  out_twice Nowhere path ps qs f is e = e

  out_of_standing : (f : ℕ) (ps : List (List ℕ)) → filter (λ q. goes_out (spot_at p f q)) (filter (λ q. stands (spot_at p f q)) ps) ≡ filter (λ q. goes_out (spot_at p f q)) ps
  out_of_standing f [] = refl
  out_of_standing f (path ∷ ps) =
      out_twice (spot_at p f path) path (filter (λ q. stands (spot_at p f q)) ps) (filter (λ q. goes_out (spot_at p f q)) ps) (λ q. goes_out (spot_at p f q)) refl (out_of_standing f ps)

  exit_ranks : (q : List ℕ) → place_of (at_exit q) (exits p) ≡ rank q (exit_places p)
  exit_ranks q = exit_filtered p.main q (places p p.main) ∙ ap (rank q) (sym (out_of_standing p.main (places p p.main)))

  exits_sized : length (exits p) ≡ length (exit_places p)
  exits_sized = exits_filtered p.main (places p p.main) ∙ ap (λ (ps : List (List ℕ)). length ps) (sym (out_of_standing p.main (places p p.main)))

  -- exits are no places, and places no exits

  no_place_step : (j : ℕ) (q path : List ℕ) (spot : Spot) (rest : List Placed) → place_of (at_place j q) rest ≡ None → place_of (at_place j q) (exit_at path spot ++ rest) ≡ None
  no_place_step j q path (AtAction (Return value offset)) rest e = ap (option_map (λ m. suc m)) e
  no_place_step j q path (AtAction (Close goes_back offset)) rest e = ap (option_map (λ m. suc m)) e
  no_place_step j q path _ rest e = e

  no_place : (j f : ℕ) (q : List ℕ) (ps : List (List ℕ)) → place_of (at_place j q) (flat_map (λ r. exit_at r (spot_at p f r)) ps) ≡ None
  no_place j f q [] = refl
  no_place j f q (path ∷ ps) = no_place_step j q path (spot_at p f path) (flat_map (λ r. exit_at r (spot_at p f r)) ps) (no_place j f q ps)

  no_exit_step : (k f : ℕ) (q path : List ℕ) (spot : Spot) (rest : List Placed) → place_of (at_exit q) rest ≡ None → place_of (at_exit q) (placed_at p cs k f path spot ++ rest) ≡ None
  no_exit_step k f q path (AtGap g) rest e = ap (option_map (λ m. suc m)) e
  no_exit_step k f q path (AtAction a) rest e = ap (option_map (λ m. suc m)) e
  no_exit_step k f q path Nowhere rest e = e

  no_exit_in : (k f : ℕ) (q : List ℕ) (ps : List (List ℕ)) → place_of (at_exit q) (placed_all k f ps) ≡ None
  no_exit_in k f q [] = refl
  no_exit_in k f q (path ∷ ps) = no_exit_step k f q path (spot_at p f path) (placed_all k f ps) (no_exit_in k f q ps)

  no_exit : (b : ℕ) (q : List ℕ) (rest : List Ctx) → place_of (at_exit q) (placed_from p cs b rest) ≡ None
  no_exit b q [] = refl
  no_exit b q (c ∷ rest) =
      place_both (at_exit q) (placed_in p cs b c.fun) (placed_from p cs (b + 1) rest)
      ∙ ap (λ (o : Option ℕ). in_either o (length (placed_in p cs b c.fun)) (place_of (at_exit q) (placed_from p cs (b + 1) rest))) (no_exit_in b c.fun q (places p c.fun))
      ∙ ap (in_either None (length (placed_in p cs b c.fun))) (no_exit (b + 1) q rest)

  -- numbers

  pub count_is : length (all_placed p cs) ≡ inside p cs + length (exit_places p)
  count_is =
      length-append (placed_from p cs 0 cs) (exits p)
      ∙ ap (λ (n : ℕ). n + length (exits p)) (contexts_sized 0 cs)
      ∙ ap (λ (n : ℕ). inside p cs + n) exits_sized

  place_in_all : (k : ℕ) (q : List ℕ) → place_of (at_place k q) (all_placed p cs) ≡ place_of (at_place k q) (placed_from p cs 0 cs)
  place_in_all k q =
      place_both (at_place k q) (placed_from p cs 0 cs) (exits p)
      ∙ ap (in_either (place_of (at_place k q) (placed_from p cs 0 cs)) (length (placed_from p cs 0 cs))) (no_place k p.main q (places p p.main))
      ∙ in_first (place_of (at_place k q) (placed_from p cs 0 cs)) (length (placed_from p cs 0 cs))

  number_from : (k : ℕ) (q : List ℕ) (o : Option ℕ) → place_of (at_place k q) (placed_from p cs 0 cs) ≡ o → number_of p cs (In k q) ≡ unwrap_or o (inside p cs + length (exit_places p))
  number_from k q o e =
      index_is (at_place k q) (all_placed p cs)
      ∙ ap (λ (r : Option ℕ). unwrap_or r (length (all_placed p cs))) (place_in_all k q ∙ e)
      ∙ ap (unwrap_or o) count_is

  -- of a place of a context
  pub place_number : (k : ℕ) (q : List ℕ) (c : Ctx) → slice_get cs k ≡ Some c →
      number_of p cs (In k q) ≡ unwrap_or (option_map (λ n. before cs k + n) (rank q (standing p c.fun))) (inside p cs + length (exit_places p))
  place_number k q c e = number_from k q (option_map (λ n. before cs k + n) (rank q (standing p c.fun))) (in_context 0 k k q cs c e (omega arith))

  -- where there is no such context
  pub no_number : (k : ℕ) (q : List ℕ) → length cs ≤ k → number_of p cs (In k q) ≡ inside p cs + length (exit_places p)
  no_number k q past = number_from k q None (in_none k 0 q cs (λ i low e. omega arith))

  -- of an exit
  pub exit_number : (q : List ℕ) → number_of p cs (Out q) ≡ unwrap_or (option_map (λ n. inside p cs + n) (rank q (exit_places p))) (inside p cs + length (exit_places p))
  exit_number q =
      index_is (at_exit q) (all_placed p cs)
      ∙ ap (λ (o : Option ℕ). unwrap_or o (length (all_placed p cs)))
      (place_both (at_exit q) (placed_from p cs 0 cs) (exits p)
      ∙ ap (λ (o : Option ℕ). in_either o (length (placed_from p cs 0 cs)) (place_of (at_exit q) (exits p))) (no_exit 0 q cs)
      ∙ ap (λ (n : ℕ). option_map (λ m. n + m) (place_of (at_exit q) (exits p))) (contexts_sized 0 cs)
      ∙ ap (option_map (λ m. inside p cs + m)) (exit_ranks q))
      ∙ ap (λ (n : ℕ). unwrap_or (option_map (λ m. inside p cs + m) (rank q (exit_places p))) n) count_is

  -- the numbers of first nodes

  pub first_number : (n k : ℕ) (rest : List Ctx) (c : Ctx) → slice_get rest k ≡ Some c → slice_get (firsts_from p n rest) k ≡ Some (n + before rest k)
  first_number n k [] c e = absurd cc
  first_number n zero (d ∷ rest) c e = let same : n ≡ n + 0 = omega arith in ap (λ (m : ℕ). Some m) same
  first_number n (suc k) (d ∷ rest) c e =
      first_number (n + size p d.fun) k rest c e
      ∙ (let same : n + size p d.fun + before rest k ≡ n + (size p d.fun + before rest k) = omega arith in ap (λ (m : ℕ). Some m) same)

  pub before_inside : (k : ℕ) (rest : List Ctx) (c : Ctx) → slice_get rest k ≡ Some c → before rest k + size p c.fun ≤ inside p rest
  before_inside k [] c e = absurd cc
  before_inside zero (d ∷ rest) c e = let same : d ≡ c = cc in subst (λ (x : Ctx). 0 + size p x.fun ≤ size p d.fun + inside p rest) same (omega arith)
  before_inside (suc k) (d ∷ rest) c e = let below = before_inside k rest c e in omega arith
