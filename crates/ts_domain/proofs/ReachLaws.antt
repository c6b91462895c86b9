-- Nodes that are found from those before: exactly those that are reached.
use Rattle.std.proofs.Common.{◌≡◌, ℕ, zero, suc, ◌+◌, ◌<◌, ◌≤◌, ◌↔◌, ◌||◌, ⊎_elim, Bool, true, false, nat_eq, List, [], ◌∷◌, length, map, slice_get, Option, None, Some, refl, ap, sym, ◌∙◌, subst, arith}
use Rattle.std.proofs.lemmas.Bool.{eqb-true, eq-eqb, or_left, or_right}
use Rattle.std.proofs.lemmas.List.{length-map}
use Rattle.std.proofs.lemmas.Map.Made.{length-le_from_is_member}
use Rattle.std.proofs.lemmas.Option.{slice_get_within}
use Rattle.std.specs.Cmp.{nat_eq_equiv}
use Rattle.std.specs.List.{Contains, IsDistinct, flat_map, list_any}
use Rattle.indexmap.specs.IndexSet.{insert_all}
use Rattle.c_graph.specs.declared.graph.Edge.{Edge}
use Rattle.c_graph.specs.declared.graph.Graph.{Graph}
use Rattle.mf_set.proofs.NumberLaws.{Contains-has}
use Rattle.ts_domain.specs.Path.{Reached, here, along}
use Rattle.ts_domain.specs.Rows.{row, AreRows}
use Rattle.ts_domain.proofs.Members.{any_at, any_from, at_first, at_later, in_flat_map, of_flat_map}
use Rattle.ts_domain.specs.Reaching.{ends_of, from_of, target, BeginsAt}
use Rattle.ts_domain.specs.Reaching.{IsClosed, Leads, Walked}
use Rattle.ts_domain.proofs.KeyLaws.{closed_on, element_at, element_from, first_or, keys_from, keys_keep, keys_once, keys_stay}
use Rattle.ts_domain.proofs.RowPlaces.{in_row, row_begins}

-- the nodes that edges lead to

leads_in : (g : Graph) (rows : List (List ℕ)) (v w : ℕ) → AreRows (map from_of g.edges) rows → Leads g v w → Contains (flat_map (target g) (row rows v)) w
leads_in g rows v w are goes =
    let e = goes.0 in
    let place = element_at g.edges e goes.1 in
    in_flat_map (target g) (row rows v) place.0 w (in_row g rows v place.0 e are place.1 goes.2)
    (subst (λ xs. Contains xs w) (sym (ap ends_of place.1)) (subst (Contains (e.to ∷ [])) goes.3 (at_first e.to [])))

leads_from : (g : Graph) (rows : List (List ℕ)) (v w : ℕ) → AreRows (map from_of g.edges) rows → Contains (flat_map (target g) (row rows v)) w → Leads g v w
leads_from g rows v w are h =
    let part = of_flat_map (target g) (row rows v) w h in
    let begins : BeginsAt g v part.part = row_begins g rows v part.part are (Contains-has (row rows v) part.part part.listed) in
    let e = begins.0 in
    let there : Contains (e.to ∷ []) w = subst (λ xs. Contains xs w) (ap ends_of begins.1) part.inside in
    (e, element_from g.edges part.part e begins.1, begins.2, ⊎_elim (λ same. same) (λ none'. absurd (nowhere w none')) (first_or e.to [] w there))
  where
    nowhere : (w : ℕ) → Contains [] w → ⊥
    nowhere w (k, l, e) = omega (arith, l)

reached_on : (g : Graph) (v w : ℕ) → Reached g v → Leads g v w → Reached g w
reached_on g v w r goes = subst (Reached g) goes.3 (along goes.0 goes.1 (subst (Reached g) (sym goes.2) r))

-- the walk

nat_same : (x y : ℕ) → nat_eq x y ≡ true → x ≡ y
nat_same x y e = eqb-true x y e

nothing : IsDistinct nat_eq []
unfolding IsDistinct
nothing = tt

pub walked_start : (g : Graph) (xs : List ℕ) → xs ≡ 0 ∷ [] → Walked g 0 xs
walked_start g xs is = record {
  reached = λ v h. ⊎_elim (λ e. subst (Reached g) e here) (λ none'. absurd (nowhere v none')) (first_or 0 [] v (subst (λ ys. Contains ys v) is h));
  first = subst (λ ys. Contains ys 0) (sym is) (at_first 0 []);
  closed = λ i s t l. absurd (omega (arith, l));
  once = subst (IsDistinct nat_eq) (sym is) (keys_once nat_eq nat_eq_equiv [] (0 ∷ []) nothing);
  within = omega arith;
}
  where
    nowhere : (v : ℕ) → Contains [] v → ⊥
    nowhere v (k, l, e) = omega (arith, l)

pub walked_on : (g : Graph) (rows : List (List ℕ)) (done v : ℕ) (xs ys : List ℕ) → AreRows (map from_of g.edges) rows → Walked g done xs → slice_get xs done ≡ Some v
    → ys ≡ insert_all nat_eq xs (flat_map (target g) (row rows v)) → Walked g (done + 1) ys
walked_on g rows done v xs ys are walked at made =
    let news = flat_map (target g) (row rows v) in
    let after = slice_get_within (insert_all nat_eq xs news) done v (keys_stay nat_eq xs news done v at) in
    subst (Walked g (done + 1)) (sym made) (record {
      reached = λ w h.
          ⊎_elim (λ old. walked.reached w old) (λ new. reached_on g v w (walked.reached v (element_from xs done v at)) (leads_from g rows v w are new))
          (keys_from nat_eq xs news w h);
      first = keys_keep nat_eq xs news 0 walked.first;
      closed = closed_on nat_eq (Leads g) nat_same done xs news v walked.closed at (λ w goes. leads_in g rows v w are goes);
      once = keys_once nat_eq nat_eq_equiv xs news walked.once;
      within = omega (arith, after);
    })

pub walked_all : (g : Graph) (done : ℕ) (xs : List ℕ) → Walked g done xs → length xs ≤ done → (v : ℕ) → Contains xs v ↔ Reached g v
walked_all g done xs walked past v = (walked.reached v, found v)
  where
    found : (w : ℕ) → Reached g w → Contains xs w
    found w here = walked.first
    found w (along e c r) =
        let place = element_at xs e.from (found e.from r) in
        let l = slice_get_within xs place.0 e.from place.1 in
        walked.closed place.0 e.from e.to (omega (arith, l, past)) place.1 (e, c, refl, refl)

-- there are no more nodes than edges, but for the first

map_has : (es : List Edge) (e : Edge) → Contains es e → Contains (map (λ (d : Edge). d.to) es) e.to
map_has [] e (k, l, h) = absurd (omega (arith, l))
map_has (d ∷ es) e h =
    ⊎_elim
    (λ same. subst (λ (x : Edge). Contains (map (λ (d : Edge). d.to) (d ∷ es)) x.to) same (at_first d.to (map (λ (d : Edge). d.to) es)))
    (λ later. at_later d.to e.to (map (λ (d : Edge). d.to) es) (map_has es e later))
    (first_or d es e h)

reached_among : (g : Graph) (v : ℕ) → Reached g v → list_any (nat_eq v) (0 ∷ map (λ (d : Edge). d.to) g.edges) ≡ true
reached_among g v here = refl
reached_among g v (along e c r) =
    or_right (nat_eq e.to 0) (list_any (nat_eq e.to) (map (λ (d : Edge). d.to) g.edges))
    (any_from (nat_eq e.to) (map (λ (d : Edge). d.to) g.edges) e.to (map_has g.edges e c) (eq-eqb e.to e.to refl))

pub walked_few : (g : Graph) (done : ℕ) (xs : List ℕ) → Walked g done xs → length xs ≤ length g.edges + 1
walked_few g done xs walked =
    let few = length-le_from_is_member nat_eq_equiv xs (0 ∷ map (λ (d : Edge). d.to) g.edges) walked.once
    (λ q h. let is = any_at (nat_eq q) xs h in reached_among g q (subst (Reached g) (sym (nat_same q is.0 is.2)) (walked.reached is.0 is.1))) in
    let long : length (map (λ (d : Edge). d.to) g.edges) ≡ length g.edges = length-map g.edges (λ (d : Edge). d.to) in
    omega (arith, few, long)
