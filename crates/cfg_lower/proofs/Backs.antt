-- The steps back to a call, from the calls that were noted of its function.
use Rattle.std.proofs.Common.{◌≡◌, ℕ, ◌==◌, Bool, true, false, cond, List, [], ◌∷◌, ◌++◌, slice_get, Option, Some, None, refl, ap, sym, ◌∙◌, flat_map}
use Rattle.std.specs.Prelude.{if◌then◌else◌}
use Rattle.std.specs.List.{filter}
use Rattle.std.proofs.lemmas.Grind.{flat_map-append}
use Rattle.std.proofs.lemmas.List.{map-append}
use Rattle.c_meaning.specs.Parts.{Invoke}
use Rattle.c_meaning.specs.Place.{Spot, AtGap, AtAction, Nowhere}
use Rattle.call_contexts.specs.declared.context.Ctx.{Ctx}
use Rattle.c_graph.specs.declared.graph.Way.TheVariants as way
use Rattle.c_graph.specs.Nodes.{In, Lead, lead, spot_at, next_at, places, back_leads, return_leads}
use Rattle.cfg_lower.specs.declared.source.Source.{Source}
use Rattle.cfg_lower.specs.declared.tables.CallSite.{CallSite}
use Rattle.cfg_lower.specs.declared.tables.Row.{Row}
use Rattle.cfg_lower.specs.declared.tables.Step.{Step}
use Rattle.cfg_lower.specs.Rows.{site_at, stands}
use Rattle.cfg_lower.specs.Sources.{IsSource, program_of, contexts_of, back_steps, step_in, steps_for}
use Rattle.cfg_lower.proofs.SourceLaws.{row_at, no_places_at}

module _ (s : Source) (k f n : ℕ) where
  by_number : (b : Bool) (l : Lead) → (if b then step_in s l ∷ [] else []) ++ [] ≡ steps_for s (if b then l ∷ [] else [])
  by_number true l = refl
  by_number false l = refl

  site_steps : (path : List ℕ) (spot : Spot) → flat_map (back_steps s k n) (site_at (program_of s) f path spot) ≡ steps_for s (back_leads (program_of s) k f n path spot)
  site_steps path (AtAction (Invoke number callee arguments target)) = by_number (number == n) (lead (way.Leave target) (In k (next_at (program_of s) f None path)))
  site_steps path _ = refl

  abbrev sites : List ℕ → List CallSite
  sites q = site_at (program_of s) f q (spot_at (program_of s) f q)

  abbrev leads : List ℕ → List Lead
  leads q = back_leads (program_of s) k f n q (spot_at (program_of s) f q)

  kept : (path : List ℕ) (qs : List (List ℕ)) (rest : List Lead) → flat_map (back_steps s k n) (flat_map sites qs) ≡ steps_for s rest →
      flat_map (back_steps s k n) (sites path ++ flat_map sites qs) ≡ steps_for s (leads path ++ rest)
  kept path qs rest e =
      flat_map-append (back_steps s k n) (sites path) (flat_map sites qs)
      ∙ ap (λ (xs : List Step). xs ++ flat_map (back_steps s k n) (flat_map sites qs)) (site_steps path (spot_at (program_of s) f path))
      ∙ ap (λ (xs : List Step). steps_for s (leads path) ++ xs) e
      ∙ sym (map-append (step_in s) (leads path) rest)

  one_more : (path : List ℕ) (spot : Spot) (qs : List (List ℕ)) (rest : List Lead) → spot_at (program_of s) f path ≡ spot → flat_map (back_steps s k n) (flat_map sites qs) ≡ steps_for s rest →
      flat_map (back_steps s k n) (flat_map sites (cond (stands spot) (path ∷ qs) qs)) ≡ steps_for s (leads path ++ rest)
  one_more path (AtGap g) qs rest is e = kept path qs rest e
  one_more path (AtAction a) qs rest is e = kept path qs rest e
  one_more path Nowhere qs rest is e = e ∙ ap (λ (o : Spot). steps_for s (back_leads (program_of s) k f n path o ++ rest)) (sym is)

  all_sites : (ps : List (List ℕ)) → flat_map (back_steps s k n) (flat_map sites (filter (λ q. stands (spot_at (program_of s) f q)) ps)) ≡ steps_for s (flat_map leads ps)
  all_sites [] = refl
  all_sites (path ∷ ps) = one_more path (spot_at (program_of s) f path) (filter (λ q. stands (spot_at (program_of s) f q)) ps) (flat_map leads ps) refl (all_sites ps)

-- from the calls of the row of the context's function
pub back_by_row : (s : Source) → IsSource s → (k n : ℕ) (c : Ctx) (r : Row) → slice_get (contexts_of s) k ≡ Some c → slice_get s.tables.now.rows c.fun ≡ Some r →
    flat_map (back_steps s k n) r.calls ≡ steps_for s (return_leads (program_of s) k n (slice_get (contexts_of s) k))
back_by_row s h k n c r e there =
    ap (λ (x : Row). flat_map (back_steps s k n) x.calls) (row_at s h c.fun r there)
    ∙ all_sites s k c.fun n (places (program_of s) c.fun)
    ∙ ap (λ (o : Option Ctx). steps_for s (return_leads (program_of s) k n o)) (sym e)

pub back_to_none : (s : Source) (k n : ℕ) → slice_get (contexts_of s) k ≡ None → [] ≡ steps_for s (return_leads (program_of s) k n (slice_get (contexts_of s) k))
back_to_none s k n e = ap (λ (o : Option Ctx). steps_for s (return_leads (program_of s) k n o)) (sym e)

pub back_to_missing : (s : Source) → IsSource s → (k n : ℕ) (c : Ctx) → slice_get (contexts_of s) k ≡ Some c → slice_get s.tables.now.rows c.fun ≡ None →
    [] ≡ steps_for s (return_leads (program_of s) k n (slice_get (contexts_of s) k))
back_to_missing s h k n c e none =
    ap (λ (ps : List (List ℕ)). steps_for s (flat_map (λ q. back_leads (program_of s) k c.fun n q (spot_at (program_of s) c.fun q)) ps)) (sym (no_places_at s h c.fun none))
    ∙ ap (λ (o : Option Ctx). steps_for s (return_leads (program_of s) k n o)) (sym e)
