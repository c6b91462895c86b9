-- What the tables of a source say of numbers.
use Rattle.std.proofs.Common.{◌≡◌, ℕ, zero, suc, ◌+◌, ◌<◌, ◌≤◌, List, [], ◌∷◌, length, slice_get, unwrap_or, option_map, Option, Some, None, ap, sym, subst, ◌∙◌, arith}
use Rattle.std.proofs.lemmas.Option.{slice_get_within}
use Rattle.call_contexts.specs.declared.context.Ctx.{Ctx}
use Rattle.c_graph.specs.Nodes.{In, Out, number_of, places, spot_at}
use Rattle.c_meaning.specs.Place.{result_slot}
use Rattle.cfg_lower.specs.declared.source.Source.{Source}
use Rattle.cfg_lower.specs.declared.tables.Row.{Row}
use Rattle.cfg_lower.specs.declared.tables.Tables.{Tables}
use Rattle.cfg_lower.specs.Ranks.{Ascends, rank}
use Rattle.cfg_lower.specs.Rows.{row, rows_of, standing, stands, size, inside, goes_out, exit_places}
use Rattle.cfg_lower.specs.Sources.{IsSource, program_of, contexts_of}
use Rattle.cfg_lower.proofs.Ascending.{places_ascend, ascends_filter}
use Rattle.cfg_lower.proofs.Numbering.{before, count_is, place_number, no_number, exit_number, first_number, before_inside}
use Rattle.cfg_lower.proofs.Ranked.{rank_low}
use Rattle.cfg_lower.proofs.RowLaws.{row_is, none_standing, no_places}

past_all : {A : Type 0} (xs : List A) (k : ℕ) → slice_get xs k ≡ None → length xs ≤ k
past_all [] k e = omega arith
past_all (x ∷ xs) zero e = absurd cc
past_all (x ∷ xs) (suc k) e = let below = past_all xs k e in omega arith

module _ (s : Source) (h : IsSource s) where
  rows_are : s.tables.now.rows ≡ rows_of (program_of s)
  rows_are = ap (λ (t : Tables). t.rows) h.tables

  pub count_of : s.tables.now.count ≡ inside (program_of s) (contexts_of s) + length (exit_places (program_of s))
  count_of = ap (λ (t : Tables). t.count) h.tables

  few : inside (program_of s) (contexts_of s) + length (exit_places (program_of s)) ≤ 10000
  few = subst (λ (n : ℕ). n ≤ 10000) (count_is (program_of s) (contexts_of s)) h.few

  pub row_at : (f : ℕ) (r : Row) → slice_get s.tables.now.rows f ≡ Some r → r ≡ row (program_of s) f
  row_at f r e = row_is (program_of s) f r (ap (λ (rs : List Row). slice_get rs f) (sym rows_are) ∙ e)

  pub no_row : (f : ℕ) → slice_get s.tables.now.rows f ≡ None → standing (program_of s) f ≡ []
  no_row f e = none_standing (program_of s) f (ap (λ (rs : List Row). slice_get rs f) (sym rows_are) ∙ e)

  pub slot_at : (f : ℕ) (r : Row) → slice_get s.tables.now.rows f ≡ Some r → r.slot ≡ result_slot (program_of s) f
  slot_at f r e = ap (λ (x : Row). x.slot) (row_at f r e)

  pub places_at : (f : ℕ) (r : Row) → slice_get s.tables.now.rows f ≡ Some r → r.places ≡ standing (program_of s) f
  places_at f r e = ap (λ (x : Row). x.places) (row_at f r e)

  pub row_ascends : (f : ℕ) (r : Row) → slice_get s.tables.now.rows f ≡ Some r → Ascends r.places
  row_ascends f r e = subst (λ (ps : List (List ℕ)). Ascends ps) (sym (places_at f r e)) (ascends_filter (λ q. stands (spot_at (program_of s) f q)) (places (program_of s) f) (places_ascend (program_of s) f))

  pub exits_ascend : Ascends s.tables.now.exits
  exits_ascend =
      subst (λ (ps : List (List ℕ)). Ascends ps) (sym (ap (λ (t : Tables). t.exits) h.tables))
      (ascends_filter (λ q. goes_out (spot_at (program_of s) (program_of s).main q)) (standing (program_of s) (program_of s).main)
      (ascends_filter (λ q. stands (spot_at (program_of s) (program_of s).main q)) (places (program_of s) (program_of s).main) (places_ascend (program_of s) (program_of s).main)))

  -- where there is no such context, or no such function
  pub missing_context : (k : ℕ) (q : List ℕ) → slice_get (contexts_of s) k ≡ None → s.tables.now.count ≡ number_of (program_of s) (contexts_of s) (In k q)
  missing_context k q e = count_of ∙ sym (no_number (program_of s) (contexts_of s) k q (past_all (contexts_of s) k e))

  numbered : (k : ℕ) (q : List ℕ) (c : Ctx) (o : Option ℕ) → slice_get (contexts_of s) k ≡ Some c → rank q (standing (program_of s) c.fun) ≡ o →
      number_of (program_of s) (contexts_of s) (In k q) ≡ unwrap_or (option_map (λ n. before (program_of s) (contexts_of s) (contexts_of s) k + n) o) s.tables.now.count
  numbered k q c o e is =
      place_number (program_of s) (contexts_of s) k q c e
      ∙ ap (λ (r : Option ℕ). unwrap_or (option_map (λ n. before (program_of s) (contexts_of s) (contexts_of s) k + n) r) (inside (program_of s) (contexts_of s) + length (exit_places (program_of s)))) is
      ∙ ap (unwrap_or (option_map (λ n. before (program_of s) (contexts_of s) (contexts_of s) k + n) o)) (sym count_of)

  pub missing_row : (k : ℕ) (q : List ℕ) (c : Ctx) → slice_get (contexts_of s) k ≡ Some c → slice_get s.tables.now.rows c.fun ≡ None → s.tables.now.count ≡ number_of (program_of s) (contexts_of s) (In k q)
  missing_row k q c e none = sym (numbered k q c None e (ap (rank q) (no_row c.fun none)))

  pub not_ranked : (k : ℕ) (q : List ℕ) (c : Ctx) (r : Row) → slice_get (contexts_of s) k ≡ Some c → slice_get s.tables.now.rows c.fun ≡ Some r → rank q r.places ≡ None →
      s.tables.now.count ≡ number_of (program_of s) (contexts_of s) (In k q)
  not_ranked k q c r e there none = sym (numbered k q c None e (ap (rank q) (sym (places_at c.fun r there)) ∙ none))

  firsts_are : (k : ℕ) (c : Ctx) → slice_get (contexts_of s) k ≡ Some c → slice_get s.tables.now.firsts k ≡ Some (0 + before (program_of s) (contexts_of s) (contexts_of s) k)
  firsts_are k c e = ap (λ (t : Tables). slice_get t.firsts k) h.tables ∙ first_number (program_of s) (contexts_of s) 0 k (contexts_of s) c e

  pub has_first : (k : ℕ) (c : Ctx) → slice_get (contexts_of s) k ≡ Some c → k < length s.tables.now.firsts
  has_first k c e = slice_get_within s.tables.now.firsts k (0 + before (program_of s) (contexts_of s) (contexts_of s) k) (firsts_are k c e)

  first_is : (k n : ℕ) (c : Ctx) → slice_get (contexts_of s) k ≡ Some c → slice_get s.tables.now.firsts k ≡ Some n → n ≡ before (program_of s) (contexts_of s) (contexts_of s) k
  first_is k n c e is =
      let same : Some n ≡ Some (0 + before (program_of s) (contexts_of s) (contexts_of s) k) = sym is ∙ firsts_are k c e in
      let one : n ≡ 0 + before (program_of s) (contexts_of s) (contexts_of s) k = cc in
      omega arith

  pub ranked : (k n i : ℕ) (q : List ℕ) (c : Ctx) (r : Row) → slice_get (contexts_of s) k ≡ Some c → slice_get s.tables.now.rows c.fun ≡ Some r → slice_get s.tables.now.firsts k ≡ Some n → rank q r.places ≡ Some i →
      n + i ≡ number_of (program_of s) (contexts_of s) (In k q)
  ranked k n i q c r e there is at_rank =
      ap (λ (m : ℕ). m + i) (first_is k n c e is) ∙ sym (numbered k q c (Some i) e (ap (rank q) (sym (places_at c.fun r there)) ∙ at_rank))

  pub within : (k n i : ℕ) (q : List ℕ) (c : Ctx) (r : Row) → slice_get (contexts_of s) k ≡ Some c → slice_get s.tables.now.rows c.fun ≡ Some r → slice_get s.tables.now.firsts k ≡ Some n → rank q r.places ≡ Some i → n + i ≤ 10000
  within k n i q c r e there is at_rank =
      let low : i < length r.places = rank_low q r.places i at_rank in
      let sizes : length r.places ≡ size (program_of s) c.fun = ap (λ (ps : List (List ℕ)). length ps) (places_at c.fun r there) in
      let first = first_is k n c e is in
      let inner = before_inside (program_of s) (contexts_of s) k (contexts_of s) c e in
      let all = few in
      omega arith

  -- exits
  inside_is : s.tables.now.inside ≡ inside (program_of s) (contexts_of s)
  inside_is = ap (λ (t : Tables). t.inside) h.tables

  exits_are : s.tables.now.exits ≡ exit_places (program_of s)
  exits_are = ap (λ (t : Tables). t.exits) h.tables

  pub exit_within : (i : ℕ) (q : List ℕ) → rank q s.tables.now.exits ≡ Some i → s.tables.now.inside + i ≤ 10000
  exit_within i q at_rank =
      let low : i < length s.tables.now.exits = rank_low q s.tables.now.exits i at_rank in
      let same : length s.tables.now.exits ≡ length (exit_places (program_of s)) = ap (λ (ps : List (List ℕ)). length ps) exits_are in
      let first = inside_is in
      let all = few in
      omega arith

  exit_numbered : (q : List ℕ) (o : Option ℕ) → rank q s.tables.now.exits ≡ o → number_of (program_of s) (contexts_of s) (Out q) ≡ unwrap_or (option_map (λ n. s.tables.now.inside + n) o) s.tables.now.count
  exit_numbered q o is =
      exit_number (program_of s) (contexts_of s) q
      ∙ ap (λ (ps : List (List ℕ)). unwrap_or (option_map (λ n. inside (program_of s) (contexts_of s) + n) (rank q ps)) (inside (program_of s) (contexts_of s) + length (exit_places (program_of s)))) (sym exits_are)
      ∙ ap (λ (r : Option ℕ). unwrap_or (option_map (λ n. inside (program_of s) (contexts_of s) + n) r) (inside (program_of s) (contexts_of s) + length (exit_places (program_of s)))) is
      ∙ ap (λ (m : ℕ). unwrap_or (option_map (λ n. m + n) o) (inside (program_of s) (contexts_of s) + length (exit_places (program_of s)))) (sym inside_is)
      ∙ ap (unwrap_or (option_map (λ n. s.tables.now.inside + n) o)) (sym count_of)

  pub exit_ranked : (i : ℕ) (q : List ℕ) → rank q s.tables.now.exits ≡ Some i → s.tables.now.inside + i ≡ number_of (program_of s) (contexts_of s) (Out q)
  exit_ranked i q at_rank = sym (exit_numbered q (Some i) at_rank)

  pub exit_missing : (q : List ℕ) → rank q s.tables.now.exits ≡ None → s.tables.now.count ≡ number_of (program_of s) (contexts_of s) (Out q)
  exit_missing q none = sym (exit_numbered q None none)

  pub no_places_at : (f : ℕ) → slice_get s.tables.now.rows f ≡ None → places (program_of s) f ≡ []
  no_places_at f e = no_places (program_of s) f (ap (λ (rs : List Row). slice_get rs f) (sym rows_are) ∙ e)
