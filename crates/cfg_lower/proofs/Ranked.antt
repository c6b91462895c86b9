-- What a binary search finds in paths that ascend.
use Rattle.std.proofs.Common.{◌≡◌, ℕ, zero, suc, ◌+◌, ◌<◌, ◌≤◌, ◌&&◌, ◌==◌, ◌⊎◌, inl, inr, ⊎_elim, Bool, true, false, List, [], ◌∷◌, length, get_or, slice_get, Option, Some, None, option_map, refl, ap, sym, subst, ◌∙◌, arith}
use Rattle.std.specs.Prelude.{if◌then◌else◌}
use Rattle.std.specs.declared.cmp.Ordering.{Ordering}
use Rattle.std.specs.declared.cmp.Ordering.TheVariants.{Less, Equal, Greater}
use Rattle.std.specs.Ordering.{is_eq, ordering_index, ordering_reverse}
use Rattle.std.specs.List.{HoldsAt}
use Rattle.std.specs.List.Sorted.{IsNonDecreasingBy, IsPartitionPoint}
use Rattle.std.specs.Str.{bytes_eq}
use Rattle.std.proofs.lemmas.Cmp.{nat_list_cmp_total}
use Rattle.std.proofs.lemmas.Map.Text.{is_eq-slice_cmp}
use Rattle.std.proofs.lemmas.List.Sorted.{IsNonDecreasingBy-from_all_adjacent}
use Rattle.std.proofs.lemmas.Option.{slice_get-get_or, slice_get_within, get_or_from_slice_get}
use Rattle.c_graph.specs.Nodes.{same_path}
use Rattle.c_graph.proofs.Listed.{Paths}
use Rattle.cfg_lower.specs.Ranks.{path_cmp, rank, IsBelow, below_more, Ascends, ascends_more}

-- two paths are one where they compare as equal

as_bytes : (ps qs : List ℕ) → same_path ps qs ≡ bytes_eq ps qs
as_bytes [] [] = refl
as_bytes [] (j ∷ qs) = refl
as_bytes (i ∷ ps) [] = refl
as_bytes (i ∷ ps) (j ∷ qs) = ap (λ (b : Bool). i == j && b) (as_bytes ps qs)

same_by_cmp : (ps qs : List ℕ) → same_path ps qs ≡ is_eq (path_cmp ps qs)
same_by_cmp ps qs = as_bytes ps qs ∙ sym (is_eq-slice_cmp ps qs)

equal_same : (p q : List ℕ) → path_cmp p q ≡ Equal → same_path p q ≡ true
equal_same p q e = same_by_cmp p q ∙ ap is_eq e

less_other : (p q : List ℕ) → path_cmp p q ≡ Less → same_path p q ≡ false
less_other p q e = same_by_cmp p q ∙ ap is_eq e

greater_other : (p q : List ℕ) → path_cmp p q ≡ Greater → same_path p q ≡ false
greater_other p q e = same_by_cmp p q ∙ ap is_eq e

-- what is below a path that is equal to another is below that

below_equal : (p r q : List ℕ) → path_cmp p r ≡ Less → path_cmp r q ≡ Equal → path_cmp p q ≡ Less
below_equal p r q less same =
    nat_list_cmp_total.antisymm p q
    ∙ ap ordering_reverse (sym (nat_list_cmp_total.congr r q p same) ∙ nat_list_cmp_total.antisymm r p ∙ ap ordering_reverse less)

above_greater : (p r q : List ℕ) → path_cmp p r ≡ Less → path_cmp p q ≡ Greater → path_cmp r q ≡ Greater
above_greater p r q less above =
    let under : path_cmp q p ≡ Less = nat_list_cmp_total.antisymm q p ∙ ap ordering_reverse above in
    nat_list_cmp_total.antisymm r q ∙ ap ordering_reverse (nat_list_cmp_total.trans q p r under less)

above_equal : (p r q : List ℕ) → path_cmp p r ≡ Less → path_cmp p q ≡ Equal → path_cmp r q ≡ Greater
above_equal p r q less same =
    nat_list_cmp_total.antisymm r q ∙ ap ordering_reverse (sym (nat_list_cmp_total.congr p q r same) ∙ less)

index_rises : (p r q : List ℕ) (o : Ordering) → path_cmp p r ≡ Less → path_cmp p q ≡ o → ordering_index o ≤ ordering_index (path_cmp r q)
index_rises p r q Less less is = omega arith
index_rises p r q Equal less is = let e : ordering_index (path_cmp r q) ≡ 2 = ap ordering_index (above_equal p r q less is) in omega arith
index_rises p r q Greater less is = let e : ordering_index (path_cmp r q) ≡ 2 = ap ordering_index (above_greater p r q less is) in omega arith

-- ranks

first_below : (p r : List ℕ) (ps : Paths) → IsBelow p (r ∷ ps) → path_cmp p r ≡ Less
first_below p r ps (below_more less h) = less

below_at : (p r : List ℕ) (ps : Paths) (i : ℕ) → IsBelow p ps → slice_get ps i ≡ Some r → path_cmp p r ≡ Less
below_at p r [] i h e = absurd cc
below_at p r (s ∷ ps) zero (below_more less h) e = let same : s ≡ r = cc in subst (λ (t : List ℕ). path_cmp p t ≡ Less) same less
below_at p r (s ∷ ps) (suc i) (below_more less h) e = below_at p r ps i h e

here_ranked : (p q : List ℕ) (ps : Paths) → same_path p q ≡ true → rank q (p ∷ ps) ≡ Some 0
here_ranked p q ps e = ap (λ (b : Bool). if b then Some 0 else option_map (λ n. suc n) (rank q ps)) e

later_ranked : (p q : List ℕ) (ps : Paths) → same_path p q ≡ false → rank q (p ∷ ps) ≡ option_map (λ n. suc n) (rank q ps)
later_ranked p q ps e = ap (λ (b : Bool). if b then Some 0 else option_map (λ n. suc n) (rank q ps)) e

rank_at : (q r : List ℕ) (ps : Paths) (i : ℕ) → Ascends ps → slice_get ps i ≡ Some r → path_cmp r q ≡ Equal → rank q ps ≡ Some i
rank_at q r [] i h e is = absurd cc
rank_at q r (p ∷ ps) zero h e is = let same : p ≡ r = cc in here_ranked p q ps (equal_same p q (ap (λ (s : List ℕ). path_cmp s q) same ∙ is))
rank_at q r (p ∷ ps) (suc i) (ascends_more b h) e is =
    later_ranked p q ps (less_other p q (below_equal p r q (below_at p r ps i b e) is)) ∙ ap (option_map (λ n. suc n)) (rank_at q r ps i h e is)

unranked : (q : List ℕ) (ps : Paths) → ((i : ℕ) (r : List ℕ) → slice_get ps i ≡ Some r → same_path r q ≡ false) → rank q ps ≡ None
unranked q [] others = refl
unranked q (p ∷ ps) others = later_ranked p q ps (others 0 p refl) ∙ ap (option_map (λ n. suc n)) (unranked q ps (λ i r e. others (suc i) r e))

-- what the search asks, and what it answers

adjacent : (q : List ℕ) (ps : Paths) → Ascends ps → (k : ℕ) (d : List ℕ) → k + 1 < length ps → ordering_index (path_cmp (get_or ps k d) q) ≤ ordering_index (path_cmp (get_or ps (k + 1) d) q)
adjacent q [] h k d low = absurd (omega arith)
adjacent q (p ∷ []) h k d low = absurd (omega arith)
adjacent q (p ∷ r ∷ ps) (ascends_more b h) zero d low = index_rises p r q (path_cmp p q) (first_below p r ps b) refl
adjacent q (p ∷ r ∷ ps) (ascends_more b h) (suc k) d low = let e : suc k + 1 ≡ suc (k + 1) = omega arith in rw e (adjacent q (r ∷ ps) h k d (omega arith))

pub rising : (q : List ℕ) (ps : Paths) → Ascends ps → IsNonDecreasingBy (λ (r : List ℕ). ordering_index (path_cmp r q)) ps
rising q ps h = IsNonDecreasingBy-from_all_adjacent (λ (r : List ℕ). ordering_index (path_cmp r q)) ps (adjacent q ps h)

pub found_rank : (q : List ℕ) (ps : Paths) (i : ℕ) → Ascends ps → i < length ps → HoldsAt (λ (r : List ℕ). path_cmp r q ≡ Equal) ps i → rank q ps ≡ Some i
found_rank q ps i h low is = rank_at q (get_or ps i []) ps i h (slice_get-get_or ps i [] low) (is [])

at_get : (ps : Paths) (k : ℕ) (r : List ℕ) → slice_get ps k ≡ Some r → get_or ps k [] ≡ r
at_get ps k r e = get_or_from_slice_get ps k r [] e

either : (k i : ℕ) → (k < i) ⊎ (i ≤ k)
either k zero = inr (omega arith)
either zero (suc i) = inl (omega arith)
either (suc k) (suc i) = ⊎_elim (λ h. inl (omega arith)) (λ h. inr (omega arith)) (either k i)

side : (q r : List ℕ) (ps : Paths) (i k : ℕ) → IsPartitionPoint (λ (s : List ℕ). path_cmp s q ≡ Less) (λ s. path_cmp s q ≡ Greater) ps i → slice_get ps k ≡ Some r → k < length ps → (k < i) ⊎ (i ≤ k) → same_path r q ≡ false
side q r ps i k sides e low (inl before) = less_other r q (ap (λ (s : List ℕ). path_cmp s q) (sym (at_get ps k r e)) ∙ sides.0 k [] (omega arith) before)
side q r ps i k sides e low (inr behind) = greater_other r q (ap (λ (s : List ℕ). path_cmp s q) (sym (at_get ps k r e)) ∙ sides.1 k [] behind low)

pub no_rank : (q : List ℕ) (ps : Paths) (i : ℕ) → IsPartitionPoint (λ (r : List ℕ). path_cmp r q ≡ Less) (λ r. path_cmp r q ≡ Greater) ps i → rank q ps ≡ None
no_rank q ps i sides = unranked q ps (λ k r e. side q r ps i k sides e (slice_get_within ps k r e) (either k i))

later_low : (o : Option ℕ) (n i : ℕ) (b : Bool) → ((j : ℕ) → o ≡ Some j → j < n) → (if b then Some 0 else option_map (λ m. suc m) o) ≡ Some i → i < suc n
later_low o n i true low e = let is : i ≡ 0 = cc in omega arith
later_low None n i false low e = absurd cc
later_low (Some j) n i false low e = let is : i ≡ suc j = cc in let below = low j refl in omega arith

-- a rank is below the number of paths
pub rank_low : (q : List ℕ) (ps : Paths) (i : ℕ) → rank q ps ≡ Some i → i < length ps
rank_low q [] i e = absurd cc
rank_low q (p ∷ ps) i e = later_low (rank q ps) (length ps) i (same_path p q) (λ j is. rank_low q ps j is) e
