-- Where all edges are settled, the sets have what doesn't fail and nothing else.
use Rattle.std.proofs.Common.{◌≡◌, ℕ, ⊎_elim, true, false, [], length, slice_get, get_or, Some, ap, sym, ◌∙◌}
use Rattle.std.proofs.lemmas.Bool.{false≢true}
use Rattle.std.proofs.lemmas.Option.{slice_get-get_or}
use Rattle.std.specs.List.{Contains}
use Rattle.mf_set.specs.Numbers.{Numbers, has as has_number}
use Rattle.c_graph.specs.declared.graph.Edge.{Edge}
use Rattle.c_graph.specs.declared.graph.Graph.{Graph}
use Rattle.ts_domain.specs.declared.fact.Fact.{Fact}
use Rattle.ts_domain.specs.declared.names.Names.{Names}
use Rattle.ts_domain.specs.Deeds.{edge_deeds}
use Rattle.ts_domain.specs.Facts.{is_fact}
use Rattle.ts_domain.specs.Path.{Fails, here, along, starts, never, back, Reached}
use Rattle.path_facts.specs.declared.worklist.Solving.{Solving}
use Rattle.path_facts.specs.Numbering.{holds, holds_before, is_known}
use Rattle.path_facts.specs.Paths.{EndsWithin}
use Rattle.path_facts.specs.Worklist.{Good, IsSettled}
use Rattle.path_facts.proofs.DeedLaws.{deeds_known}

module _ (n : Names) (g : Graph) (s : Solving) (good : Good n g 0 [] s) (ended : s.pending.items ≡ []) (ends : EndsWithin (length s.at) g) where
  pub settled : (e : Edge) → Contains g.edges e → has_number s.reached.items e.from ≡ true → IsSettled n g s e
  settled e c r =
      ⊎_elim (λ is. is) (λ left. absurd (false≢true left.1))
      (good.closed c.0 e (slice_get-get_or g.edges c.0 e c.1 ∙ ap Some c.2) r (ap (λ xs. has_number xs e.from) ended))

  pub all_reached : (u : ℕ) → Reached g u → has_number s.reached.items u ≡ true
  all_reached u here = good.first
  all_reached u (along e c r) = (settled e c (all_reached e.from r)).reached

  source_of : (e : Edge) → Contains g.edges e → (x : Numbers) × (slice_get s.at e.from ≡ Some x)
  source_of e c =
      let none' : Numbers = record { items = []; room = 0 } in
      (get_or s.at e.from none', slice_get-get_or s.at e.from none' (ends c.0 e (slice_get-get_or g.edges c.0 e c.1 ∙ ap Some c.2)).0)

  pub complete : (u : ℕ) (f : Fact) → Fails n g u f → is_fact n f ≡ true → (y : Numbers) → slice_get s.at u ≡ Some y → holds n y f ≡ false
  complete u f (starts f' t) h y at = good.starts y f' at h t
  complete u f (never e f' c r b) h y at = let x = source_of e c in (settled e c (all_reached e.from r)).facts x.0 y f' x.1 at h (ap (holds_before n x.0) b)
  complete u f (back e f' p c r b fails) h y at =
      let x = source_of e c in
      let known : is_fact n p ≡ true = sym (ap (is_known n) b) ∙ deeds_known n (edge_deeds n g e) f' h in
      (settled e c (all_reached e.from r)).facts x.0 y f' x.1 at h (ap (holds_before n x.0) b ∙ complete e.from p fails known x.0 x.1)
