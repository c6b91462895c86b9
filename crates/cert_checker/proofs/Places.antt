-- Tests of what stands at the places of a row are tests of what has its key.
use Rattle.std.proofs.Common.{◌≡◌, ℕ, zero, suc, ◌+◌, ◌==◌, Bool, true, false, cond, ◌&&◌, ◌||◌, List, [], ◌∷◌, drop, length, map, slice_get, Option, None, Some, refl, ap, sym, ◌∙◌, arith}
use Rattle.std.specs.List.{filter, list_any, range_with_len}
use Rattle.c_tree.specs.Typing.{has}
use Rattle.c_graph.specs.declared.graph.Edge.{Edge}
use Rattle.c_graph.specs.declared.graph.Graph.{Graph}
use Rattle.ts_domain.specs.Reaching.{from_of}
use Rattle.ts_domain.specs.Rows.{AreRows, is_key, row}
use Rattle.ts_domain.proofs.RowLaws.{places_keyed}
use Rattle.cover_certificate.specs.declared.types.Cert.{Cert}
use Rattle.cover_certificate.specs.declared.types.CertMark.{CertMark}
use Rattle.cover_certificate.specs.Closed.{some_edge, some_mark}
use Rattle.cert_checker.specs.Checking.{any_at, node_of, passes}

any_filter : (f p : ℕ → Bool) (xs : List ℕ) → list_any f (filter p xs) ≡ list_any (λ i. p i && f i) xs
any_filter f p [] = refl
any_filter f p (x ∷ xs) =
    elim (p x) as (λ b. list_any f (cond b (x ∷ filter p xs) (filter p xs)) ≡ ((b && f x) || list_any (λ i. p i && f i) xs)) [
      | true ↦ ap (λ r. f x || r) (any_filter f p xs)
      | false ↦ any_filter f p xs
    ]

module _ {A : Type 0} where
  at_head : (ys xs : List A) (x : A) (i : ℕ) → drop i ys ≡ x ∷ xs → slice_get ys i ≡ Some x
  at_head [] xs x zero e = absurd cc
  at_head [] xs x (suc i) e = absurd cc
  at_head (y ∷ ys) xs x zero e = cc
  at_head (y ∷ ys) xs x (suc i) e = at_head ys xs x i e

  at_tail : (ys xs : List A) (x : A) (i : ℕ) → drop i ys ≡ x ∷ xs → drop (i + 1) ys ≡ xs
  at_tail [] xs x zero e = absurd cc
  at_tail [] xs x (suc i) e = absurd cc
  at_tail (y ∷ ys) xs x zero e = cc
  at_tail (y ∷ ys) xs x (suc i) e = let on : suc i + 1 ≡ suc (i + 1) = omega arith in ap (λ n. drop n (y ∷ ys)) on ∙ at_tail ys xs x i e

  any_from : (p f : A → Bool) (ys xs : List A) (i : ℕ) → drop i ys ≡ xs → list_any (λ j. has p (slice_get ys j) && has f (slice_get ys j)) (range_with_len i (length xs)) ≡ list_any (λ x. p x && f x) xs
  any_from p f ys [] i e = refl
  any_from p f ys (x ∷ xs) i e =
      ap (λ (o : Option A). has p o && has f o || list_any (λ j. has p (slice_get ys j) && has f (slice_get ys j)) (range_with_len (i + 1) (length xs))) (at_head ys xs x i e)
      ∙ ap (λ b. p x && f x || b) (any_from p f ys xs (i + 1) (at_tail ys xs x i e))

  any_by_row : (key : A → Option ℕ) (p f : A → Bool) (k : ℕ) → ((a : A) → is_key k (key a) ≡ p a) → (xs : List A) (rows : List (List ℕ)) → AreRows (map key xs) rows → any_at f xs (row rows k) ≡ list_any (λ x. p x && f x) xs
  any_by_row key p f k same xs rows are =
      ap (list_any (passes f xs)) (are k ∙ places_keyed key p k same xs)
      ∙ any_filter (passes f xs) (λ i. has p (slice_get xs i)) (range_with_len 0 (length xs))
      ∙ any_from p f xs xs 0 refl

-- edges from a node, and marks there

pub edges_by_row : (g : Graph) (rows : List (List ℕ)) → AreRows (map from_of g.edges) rows → (v : ℕ) (f : Edge → Bool) → any_at f g.edges (row rows v) ≡ some_edge g v f
edges_by_row g rows are v f = any_by_row from_of (λ (e : Edge). e.from == v) f v (λ (e : Edge). refl) g.edges rows are

pub marks_by_row : (c : Cert) (rows : List (List ℕ)) → AreRows (map node_of c.marks) rows → (v : ℕ) (f : CertMark → Bool) → any_at f c.marks (row rows v) ≡ some_mark c v f
marks_by_row c rows are v f = any_by_row node_of (λ (m : CertMark). m.node == v) f v (λ (m : CertMark). refl) c.marks rows are
