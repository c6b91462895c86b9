-- The rows of functions by number.
use Rattle.std.proofs.Common.{◌≡◌, ℕ, zero, suc, ◌+◌, ◌<◌, ◌≤◌, ◌==◌, Bool, true, false, ◌⊎◌, inl, inr, ⊎_elim, [], ◌∷◌, ◌++◌, length, slice_get, unwrap_or, option_map, Option, Some, None, refl, ap, sym, ◌∙◌, arith}
use Rattle.std.proofs.lemmas.List.{length-append}
use Rattle.std.proofs.lemmas.Option.{slice_get_past, slice_get_within}
use Rattle.std.proofs.lemmas.Bool.{eqb-true}
use Rattle.std.specs.List.{filter}
use Rattle.c_tree.specs.declared.program.FunDef.{FunDef}
use Rattle.c_tree.specs.declared.program.Program.{Program}
use Rattle.c_meaning.specs.Place.{places_in_fun, result_slot, slot_from}
use Rattle.call_contexts.proofs.Has.{get_left, get_right}
use Rattle.c_graph.specs.Nodes.{places, spot_at}
use Rattle.cfg_lower.specs.declared.tables.Row.{Row}
use Rattle.cfg_lower.specs.Slots.{below_number, slots_of}
use Rattle.cfg_lower.specs.Rows.{row, rows_of, standing, stands}

-- two numbers that differ do not pass the test
differs : (a b : ℕ) (t : Bool) → (a == b) ≡ t → (a ≡ b → ⊥) → (a == b) ≡ false
differs a b true e apart = absurd (apart (eqb-true a b e))
differs a b false e apart = e

pub apart_eqb : (a b : ℕ) → (a ≡ b → ⊥) → (a == b) ≡ false
apart_eqb a b apart = differs a b (a == b) refl apart

pub earlier_or_last : (f n : ℕ) → f < suc n → (f < n) ⊎ (f ≡ n)
earlier_or_last zero zero low = inr refl
earlier_or_last zero (suc n) low = inl (omega arith)
earlier_or_last (suc f) zero low = absurd (omega arith)
earlier_or_last (suc f) (suc n) low = ⊎_elim (λ h. inl (omega arith)) (λ h. inr (omega arith)) (earlier_or_last f n (omega arith))

module _ {A : Type 0} (g : ℕ → A) where
  pub below_count : (n : ℕ) → length (below_number g n) ≡ n
  below_count zero = refl
  below_count (suc n) =
      let count : length (below_number g n) ≡ n = below_count n in
      let more : length (below_number g n ++ g n ∷ []) ≡ length (below_number g n) + 1 = length-append (below_number g n) (g n ∷ []) in
      omega arith

  last_number : (n : ℕ) → slice_get (below_number g n ++ g n ∷ []) n ≡ Some (g n)
  last_number n =
      let count = below_count n in
      let on : n ≡ length (below_number g n) + 0 = omega arith in
      ap (slice_get (below_number g n ++ g n ∷ [])) on ∙ get_right (below_number g n) (g n ∷ []) 0

  pub number_below : (n f : ℕ) → f < n → slice_get (below_number g n) f ≡ Some (g f)
  number_below zero f low = absurd (omega arith)
  number_below (suc n) f low = ⊎_elim
      (λ h. get_left (below_number g n) (g n ∷ []) (g f) f (number_below n f h))
      (λ h. ap (slice_get (below_number g n ++ g n ∷ [])) h ∙ last_number n ∙ ap (λ (k : ℕ). Some (g k)) (sym h))
      (earlier_or_last f n low)

-- a row that is found is that of its function
pub row_is : (p : Program) (f : ℕ) (r : Row) → slice_get (rows_of p) f ≡ Some r → r ≡ row p f
row_is p f r e =
    let low : f < length (rows_of p) = slice_get_within (rows_of p) f r e in
    let count : length (rows_of p) ≡ length p.funs = below_count (row p) (length p.funs) in
    let there : Some (row p f) ≡ Some r = sym (number_below (row p) (length p.funs) f (omega arith)) ∙ e in
    cc

-- where there is no function there are no places

no_function : (p : Program) (f : ℕ) (d : Option FunDef) → d ≡ None → unwrap_or (option_map (places_in_fun p f) d) [] ≡ []
no_function p f d e = ap (λ (o : Option FunDef). unwrap_or (option_map (places_in_fun p f) o) []) e

row_missing : (p : Program) (f : ℕ) → slice_get (rows_of p) f ≡ None → (f < length p.funs) ⊎ (length p.funs ≤ f) → slice_get p.funs f ≡ None
row_missing p f e (inl low) = let never : Some (row p f) ≡ None = sym (number_below (row p) (length p.funs) f low) ∙ e in absurd cc
row_missing p f e (inr past) = slice_get_past p.funs f past

lower_or_not : (k i : ℕ) → (k < i) ⊎ (i ≤ k)
lower_or_not k zero = inr (omega arith)
lower_or_not zero (suc i) = inl (omega arith)
lower_or_not (suc k) (suc i) = ⊎_elim (λ h. inl (omega arith)) (λ h. inr (omega arith)) (lower_or_not k i)

pub no_places : (p : Program) (f : ℕ) → slice_get (rows_of p) f ≡ None → places p f ≡ []
no_places p f e = no_function p f (slice_get p.funs f) (row_missing p f e (lower_or_not f (length p.funs)))

pub none_standing : (p : Program) (f : ℕ) → slice_get (rows_of p) f ≡ None → standing p f ≡ []
none_standing p f e = ap (filter (λ q. stands (spot_at p f q))) (no_places p f e)

-- the slot of a function that there is
pub slot_is : (p : Program) (f : ℕ) (s : Option ℕ) → f < length p.funs → slice_get (slots_of p) f ≡ Some s → s ≡ result_slot p f
slot_is p f s low e =
    let there : Some (result_slot p f) ≡ Some s = sym (number_below (λ g. slot_from g 0 p.vars) (length p.funs) f low) ∙ e in
    cc
