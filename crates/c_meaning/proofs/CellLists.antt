-- The list of cells: its length, its elements, one of them written.
use Rattle.std.proofs.Common.{◌≡◌, ℕ, zero, suc, ◌+◌, ◌<◌, ◌≤◌, ◌≢◌, List, ◌∷◌, length, replicate, slice_get, slice_set, Option, Some, None, refl, ap, sym, ◌∙◌, arith}
use Rattle.std.specs.Prelude.{unwrap_or}
use Rattle.std.proofs.lemmas.Option.{slice_get_past}
use Rattle.c_meaning.specs.declared.value.Value.{Value}
use Rattle.c_meaning.specs.declared.value.Value.TheVariants.{Undef}
use Rattle.c_meaning.specs.Cells.{cells_from}

pub cells_count : (f : ℕ → Option Value) (k n : ℕ) → length (cells_from f k n) ≡ n
cells_count f k zero = refl
cells_count f k (suc n) = ap suc (cells_count f (k + 1) n)

pub cell_at : (f : ℕ → Option Value) (k n i j : ℕ) → i < n → j ≡ k + i → slice_get (cells_from f k n) i ≡ Some (unwrap_or (f j) Undef)
cell_at f k zero i j h e = absurd (omega arith)
cell_at f k (suc n) zero j h e = let k_is : k ≡ j = omega arith in ap (λ (q : ℕ). Some (unwrap_or (f q) Undef)) k_is
cell_at f k (suc n) (suc i) j h e = cell_at f (k + 1) n i j (omega arith) (omega arith)

pub none_written : (f : ℕ → Option Value) (k n : ℕ) → ((q : ℕ) → f q ≡ None) → cells_from f k n ≡ replicate n Undef
none_written f k zero h = refl
none_written f k (suc n) h =
    ap (λ (o : Option Value). unwrap_or o Undef ∷ cells_from f (k + 1) n) (h k) ∙ ap (λ (vs : List Value). Undef ∷ vs) (none_written f (k + 1) n h)

same_cells : (f g : ℕ → Option Value) (k n : ℕ) → ((q : ℕ) → k ≤ q → g q ≡ f q) → cells_from f k n ≡ cells_from g k n
same_cells f g k zero h = refl
same_cells f g k (suc n) h =
    ap (λ (o : Option Value). unwrap_or o Undef ∷ cells_from f (k + 1) n) (sym (h k (omega arith)))
    ∙ ap (λ (vs : List Value). unwrap_or (g k) Undef ∷ vs) (same_cells f g (k + 1) n (λ q from. h q (omega arith)))

pub cell_written : (f g : ℕ → Option Value) (k n i j : ℕ) (v : Value) → j ≡ k + i → g j ≡ Some v → ((q : ℕ) → q ≢ j → g q ≡ f q) → cells_from g k n ≡ slice_set (cells_from f k n) i v
cell_written f g k zero i j v e here apart = refl
cell_written f g k (suc n) zero j v e here apart =
    let k_is : j ≡ k = omega arith in
    ap (λ (o : Option Value). unwrap_or o Undef ∷ cells_from g (k + 1) n) (ap g (sym k_is) ∙ here)
    ∙ ap (λ (vs : List Value). v ∷ vs) (sym (same_cells f g (k + 1) n (λ q from. apart q (λ h. omega arith))))
cell_written f g k (suc n) (suc i) j v e here apart =
    ap (λ (o : Option Value). unwrap_or o Undef ∷ cells_from g (k + 1) n) (apart k (λ h. omega arith))
    ∙ ap (λ (vs : List Value). unwrap_or (f k) Undef ∷ vs) (cell_written f g (k + 1) n i j v (omega arith) here apart)

pub cell_past : (f : ℕ → Option Value) (k n i : ℕ) → n ≤ i → slice_get (cells_from f k n) i ≡ None
cell_past f k n i h = slice_get_past (cells_from f k n) i (let e = cells_count f k n in omega arith)
