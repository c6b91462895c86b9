-- One part more in turn, for loops that keep the parts so far.
use Rattle.std.proofs.Common.{◌≡◌, ℕ, ◌+◌, ◌<◌, List, [], ◌∷◌, ◌++◌, length, get_or, map, take, refl, sym, ap, ◌∙◌}
use Rattle.std.proofs.lemmas.List.{map-append, take_more, take_all}
use Rattle.c_types.specs.InTurn.{in_turn, each}

module _ {S A : Type 0} where
  -- a last part
  abbrev behind : S × List A → (S → S × A) → S × List A
  behind r f = let q = f r.0 in (q.0, r.1 ++ q.1 ∷ [])

  in_turn-snoc : (fs : List (S → S × A)) (f : S → S × A) (s : S) → in_turn (fs ++ f ∷ []) s ≡ behind (in_turn fs s) f
  in_turn-snoc [] f s = refl
  in_turn-snoc (g ∷ fs) f s = ap (λ (t : S × List A). (t.0, (g s).1 ∷ t.1)) (in_turn-snoc fs f (g s).0)

module _ {S A B : Type 0} (f : A → S → S × B) (xs : List A) (s : S) where
  -- the parts so far and the next one
  pub each_more : (i : ℕ) (x : A) (t u : S) (ys : List B) (y : B) → i < length xs → x ≡ get_or xs i x → each f (take i xs) s ≡ (t, ys) → (u, y) ≡ f x t
      → each f (take (i + 1) xs) s ≡ (u, ys ++ y ∷ [])
  each_more i x t u ys y below is so_far next =
      ap (λ zs. each f zs s) (take_more xs i x below)
      ∙ ap (λ fs. in_turn fs s) (map-append f (take i xs) (get_or xs i x ∷ []))
      ∙ in_turn-snoc (map f (take i xs)) (f (get_or xs i x)) s
      ∙ ap (λ r. behind r (f (get_or xs i x))) so_far
      ∙ ap (λ z. behind (t, ys) (f z)) (sym is)
      ∙ ap (λ (q : S × B). (q.0, ys ++ q.1 ∷ [])) (sym next)
