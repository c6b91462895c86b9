-- Edges and their deeds stand at the same places.
use Rattle.std.proofs.Common.{◌≡◌, ℕ, ◌≤◌, Bool, false, List, length, slice_get, option_map, Some, ap, sym, ◌∙◌}
use Rattle.std.proofs.lemmas.Option.{slice_get-map, slice_get_past}
use Rattle.std.proofs.lemmas.List.{length-map}
use Rattle.c_tree.specs.Typing.{has}
use Rattle.c_graph.specs.declared.graph.Edge.{Edge}
use Rattle.ts_domain.specs.declared.deed.Deed.{Deed}
use Rattle.ts_domain.specs.Deeds.{edge_deeds}
use Rattle.cert_checker.specs.declared.checking.Checking.{Checking}
use Rattle.cert_checker.specs.Checking.{passes, IsReady}

pub deeds_long : (k : Checking) → IsReady k → length k.deeds.now ≡ length k.graph.now.edges
deeds_long k ready = ap (λ (xs : List (List Deed)). length xs) ready.deeds ∙ length-map k.graph.now.edges (edge_deeds k.names.now k.graph.now)

pub deeds_there : (k : Checking) → IsReady k → (i : ℕ) (e : Edge) (ds : List Deed) → slice_get k.graph.now.edges i ≡ Some e → slice_get k.deeds.now i ≡ Some ds → ds ≡ edge_deeds k.names.now k.graph.now e
deeds_there k ready i e ds at is =
    let same : Some ds ≡ Some (edge_deeds k.names.now k.graph.now e) =
    sym is ∙ ap (λ (xs : List (List Deed)). slice_get xs i) ready.deeds ∙ slice_get-map (edge_deeds k.names.now k.graph.now) k.graph.now.edges i
    ∙ ap (option_map (edge_deeds k.names.now k.graph.now)) at in
    cc

pub passes_there : {A : Type 0} (f : A → Bool) (xs : List A) (i : ℕ) (x : A) → slice_get xs i ≡ Some x → f x ≡ passes f xs i
passes_there f xs i x at = ap (has f) (sym at)

pub passes_past : {A : Type 0} (f : A → Bool) (xs : List A) (i : ℕ) → length xs ≤ i → false ≡ passes f xs i
passes_past f xs i past = ap (has f) (sym (slice_get_past xs i past))
