-- What a triple becomes over several edges.
use Rattle.std.proofs.Common.{◌≡◌, ℕ, ◌==◌, ◌||◌, Bool, true, false, List, [], ◌∷◌, ◌++◌, map, slice_get, Option, None, Some, refl, ap, sym, ◌∙◌, append-nil}
use Rattle.std.proofs.lemmas.List.Concat.{flat_map-append}
use Rattle.std.proofs.lemmas.List.Folds.{list_any-append}
use Rattle.std.proofs.lemmas.List.{length-map}
use Rattle.std.proofs.lemmas.Option.{slice_get-map, slice_get-get_or}
use Rattle.std.specs.List.{flat_map, list_any}
use Rattle.std.specs.Option.{option_map}
use Rattle.c_tree.specs.Typing.{has}
use Rattle.indexmap.specs.IndexSet.{insert_all}
use Rattle.c_graph.specs.declared.graph.Edge.{Edge}
use Rattle.c_graph.specs.declared.graph.Graph.{Graph}
use Rattle.mf_set.specs.Numbers.{Numbers, has as has_number, union}
use Rattle.mf_set.proofs.NumberLaws.{has-union}
use Rattle.ts_domain.specs.declared.deed.Deed.{Deed}
use Rattle.ts_domain.specs.declared.facts.Facts.{Facts}
use Rattle.ts_domain.specs.declared.names.Names.{Names}
use Rattle.ts_domain.specs.declared.triples.Triple.{Triple}
use Rattle.ts_domain.specs.Deeds.{edge_deeds}
use Rattle.ts_domain.specs.Post.{is_wide_edge, post}
use Rattle.typestate_fixpoint.specs.Gaps.{HasMore}
use Rattle.typestate_fixpoint.specs.Steps.{edge_forbids, edge_triples, is_wide_at, next_triple, place_forbids, place_triples, same_triple, Passes, PassesAll}
use Rattle.ts_domain.proofs.KeyLaws.{insert_append, one_element}

or_assoc : (a b c : Bool) → ((a || b) || c) ≡ (a || (b || c))
or_assoc true b c = refl
or_assoc false b c = refl

-- some numbers more, and then others
pub more_on : (xs ys : List ℕ) (old mid new : Numbers) → HasMore xs old mid → HasMore ys mid new → HasMore (xs ++ ys) old new
more_on xs ys old mid new one two = record {
  room = two.room ∙ one.room;
  members = λ k.
      two.members k
      ∙ ap (λ b. b || has_number ys k) (one.members k)
      ∙ or_assoc (has_number old.items k) (has_number xs k) (has_number ys k)
      ∙ ap (λ b. has_number old.items k || b) (sym (list_any-append (λ m. m == k) xs ys));
}

pub more_of : (s t u : Numbers) → u ≡ (let v : Numbers = record { items = union s.items t.items; room = s.room } in v) → HasMore t.items s u
more_of s t u is = record {
  room = ap (λ (x : Numbers). x.room) is;
  members = λ k. ap (λ (x : Numbers). has_number x.items k) is ∙ has-union s.items t.items k;
}

wide_by : (a b : Bool) → a ≡ false → b ≡ false → (a || (b || false)) ≡ false
wide_by true b p q = cc
wide_by false true p q = cc
wide_by false false p q = refl

pub passes_more : (n : Names) (g : Graph) (f : Facts) (e : Edge) (t : Triple) (held : Numbers) (ps : List ℕ) (p : ℕ) (us vs ws : List Triple) (old mid new : Numbers)
    → slice_get g.edges p ≡ Some e → PassesAll n g f t held ps us vs old mid → Passes n g f e t held vs ws mid new → PassesAll n g f t held (ps ++ p ∷ []) us ws old new
passes_more n g f e t held ps p us vs ws old mid new at all one =
    let news : place_triples n g f t held p ≡ map (next_triple e.to held) (post n g f e t.mark) = ap (edge_triples n g f t held) at in
    let ones : flat_map (place_triples n g f t held) (p ∷ []) ≡ map (next_triple e.to held) (post n g f e t.mark) = append-nil (place_triples n g f t held p) ∙ news in
    let bans : flat_map (place_forbids n g f t) (p ∷ []) ≡ edge_forbids n g f t (Some e) = append-nil (place_forbids n g f t p) ∙ ap (edge_forbids n g f t) at in
    record {
      narrow =
          list_any-append (is_wide_at n g f t) ps (p ∷ [])
          ∙ wide_by (list_any (is_wide_at n g f t) ps) (is_wide_at n g f t p) all.narrow (ap (has (λ (d : Edge). is_wide_edge n g f d t.mark)) at ∙ one.narrow);
      keys =
          one.keys
          ∙ ap (λ xs. insert_all same_triple xs (map (next_triple e.to held) (post n g f e t.mark))) all.keys
          ∙ sym (insert_append same_triple us (flat_map (place_triples n g f t held) ps) (map (next_triple e.to held) (post n g f e t.mark)))
          ∙ ap (insert_all same_triple us) (ap (λ xs. flat_map (place_triples n g f t held) ps ++ xs) (sym ones) ∙ sym (flat_map-append (place_triples n g f t held) ps (p ∷ [])));
      forbidden =
          more_same (flat_map (place_forbids n g f t) ps ++ edge_forbids n g f t (Some e)) (flat_map (place_forbids n g f t) (ps ++ p ∷ [])) old new
          (ap (λ xs. flat_map (place_forbids n g f t) ps ++ xs) (sym bans) ∙ sym (flat_map-append (place_forbids n g f t) ps (p ∷ [])))
          (more_on (flat_map (place_forbids n g f t) ps) (edge_forbids n g f t (Some e)) old mid new all.forbidden one.forbidden);
    }
  where
    more_same : (xs ys : List ℕ) (a b : Numbers) → xs ≡ ys → HasMore xs a b → HasMore ys a b
    more_same xs ys a b e m = record { room = m.room; members = λ k. m.members k ∙ ap (λ zs. has_number a.items k || has_number zs k) e }

-- the deeds of the edge of a place
pub deeds_at : (n : Names) (g : Graph) (deeds : List (List Deed)) (k : ℕ) (e : Edge) (ds : List Deed) → deeds ≡ map (edge_deeds n g) g.edges → slice_get g.edges k ≡ Some e → slice_get deeds k ≡ Some ds → ds ≡ edge_deeds n g e
deeds_at n g deeds k e ds are at there =
    one_element (slice_get deeds k) ds (edge_deeds n g e) there (ap (λ xs. slice_get xs k) are ∙ slice_get-map (edge_deeds n g) g.edges k ∙ ap (option_map (edge_deeds n g)) at)
