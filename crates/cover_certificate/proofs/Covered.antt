-- A cover of what is derived from a graph, and the certificate that is made of it: what its frees and its marks are.
use Rattle.std.proofs.Common.{◌≡◌, ℕ, ◌==◌, ◌&&◌, Bool, true, false, List, [], map, filter, slice_get, Option, Some, None, option_map, option_and_then, refl, ap, sym, ◌∙◌}
use Rattle.std.proofs.lemmas.Bool.{and_parts, eqb-true, true≢false}
use Rattle.std.specs.List.{Contains}
use Rattle.c_tree.specs.Fill.{ascends, IsAscending, puts_at as fill_puts_at}
use Rattle.c_tree.specs.declared.choice.Choice.{Choice}
use Rattle.c_tree.specs.declared.program.Free.{Free}
use Rattle.c_tree.specs.declared.program.Program.{Program}
use Rattle.c_graph.specs.Filled.{filled_graph, filled_kind, filled_node}
use Rattle.c_graph.specs.declared.graph.Edge.{Edge}
use Rattle.c_graph.specs.declared.graph.Graph.{Graph}
use Rattle.c_graph.specs.declared.graph.Node.{Node}
use Rattle.c_graph.specs.declared.graph.NodeKind.{NodeKind}
use Rattle.c_graph.specs.declared.graph.NodeKind.TheVariants.{Gap, Act, Exit}
use Rattle.ts_domain.specs.Chosen.{is_chosen}
use Rattle.ts_domain.specs.Cover.{IsCover}
use Rattle.ts_domain.specs.Derived.{freed, gap_at, gap_puts, puts_at, AreDerived, HasWideEdge, IsDerived, IsForbidden}
use Rattle.ts_domain.specs.May.{IsMay}
use Rattle.ts_domain.specs.Path.{IsPath}
use Rattle.ts_domain.specs.Post.{is_gap, is_wide_edge}
use Rattle.ts_domain.specs.Puts.{gap_key}
use Rattle.ts_domain.specs.Views.{AreNames}
use Rattle.ts_domain.specs.declared.facts.Facts.{Facts}
use Rattle.ts_domain.specs.declared.names.Names.{Names}
use Rattle.ts_domain.specs.declared.triples.Derived.{Derived}
use Rattle.ts_domain.specs.declared.triples.Triple.{Triple}
use Rattle.ts_domain.proofs.ChosenLaws.{chosen, put_found, put_there}
use Rattle.ts_domain.proofs.Members.{any_at}
use Rattle.cover_certificate.specs.Closed.{facts_of, kind_frees, named, names_freed, node_frees, some_edge, some_mark}
use Rattle.cover_certificate.specs.Making.{mark_of, IsMade}
use Rattle.cover_certificate.specs.declared.types.Cert.{Cert}
use Rattle.cover_certificate.specs.declared.types.CertMark.{CertMark}
use Rattle.cover_certificate.proofs.FilledFrees.{chosen_listed, puts_named}
use Rattle.cover_certificate.proofs.FilledPosts.{node_at}

-- an ascending choice covers what is derived, where no edge is wide, and the certificate is made of it
pub record Covered (p : Program) (g : Graph) (n : Names) (f : Facts) (d : Derived) (s : Choice) (c : Cert) : Type 0 where
  pub names : AreNames p g n
  pub order : ascends n.puts ≡ true
  pub leads : (v : ℕ) (node : Node) → slice_get g.nodes v ≡ Some node → is_gap node.kind ≡ true → (e : Edge) × Contains g.edges e × (e.from ≡ v)
  pub may : IsMay n g f.may
  pub path : IsPath n g f.path
  pub derived : AreDerived n g f d
  pub narrow : HasWideEdge n g f → ⊥
  pub ascending : IsAscending s
  pub cover : IsCover g n f.path d s
  pub made : IsMade n g f d s c

pub some_true : (b : Bool) → Some b ≡ Some true → b ≡ true
some_true b e = cc

-- what fails at a node by some edge fails by one from there
pub record FailsBy (g : Graph) (v : ℕ) (test : Edge → Bool) : Type 0 where
  pub edge : Edge
  pub among : Contains g.edges edge
  pub from : edge.from ≡ v
  pub fails : test edge ≡ true

pub fails_by : (g : Graph) (v : ℕ) (test : Edge → Bool) → Some (some_edge g v test) ≡ Some true → FailsBy g v test
fails_by g v test h =
    let it = any_at (λ (e : Edge). e.from == v && test e) g.edges (some_true (some_edge g v test) h) in
    let both = and_parts (it.0.from == v) (test it.0) it.2 in
    record { edge = it.0; among = it.1; from = eqb-true it.0.from v both.0; fails = both.1 }

-- what fails at a node of some mark fails of that of a triple there
pub record FailsOf (n : Names) (g : Graph) (f : Facts) (s : Choice) (v : ℕ) (test : CertMark → Bool) : Type 0 where
  pub triple : Triple
  pub derived : IsDerived n g f triple
  pub node : triple.node ≡ v
  pub fails : test (mark_of n s triple) ≡ true

module _ (p : Program) (g : Graph) (n : Names) (f : Facts) (d : Derived) (s : Choice) (c : Cert) (is : Covered p g n f d s c) where
  -- frees

  -- what the chosen of some puts free
  abbrev freed_by : List ℕ → List (Option ℕ)
  freed_by ks = map (λ k. option_and_then (freed n) (slice_get n.puts k)) (filter (is_chosen n s) ks)

  kind_chosen : (k : NodeKind) → map (λ (e : Free). named n e.expr) (kind_frees (filled_kind s.puts k)) ≡ freed_by (gap_puts n (gap_key k))
  kind_chosen (Gap number frees) =
      puts_named p g n is.names (fill_puts_at s.puts number)
      ∙ chosen_listed s.puts n.puts number (option_and_then (freed n)) is.ascending is.order
      (λ q h. put_there n.puts q (is.cover.named q (put_found s.puts q h)))
  kind_chosen (Act a) = refl
  kind_chosen (Exit offset) = refl

  node_chosen : (o : Option Node) → map (λ (e : Free). named n e.expr) (node_frees (option_map (filled_node s.puts) o)) ≡ freed_by (gap_puts n (option_and_then (λ (node : Node). gap_key node.kind) o))
  node_chosen None = refl
  node_chosen (Some node) = kind_chosen node.kind

  -- what the frees of a node free is what its chosen puts free, in their order
  pub names_chosen : (v : ℕ) → names_freed n (filled_graph s g) v ≡ map (λ k. option_and_then (freed n) (slice_get n.puts k)) (filter (is_chosen n s) (puts_at n g v))
  names_chosen v = ap (λ (o : Option Node). map (λ (e : Free). named n e.expr) (node_frees o)) (node_at s g v) ∙ node_chosen (slice_get g.nodes v)

  -- a node that is no gap frees nothing
  pub none_freed : (v : ℕ) → gap_at g v ≡ None → names_freed n (filled_graph s g) v ≡ []
  none_freed v none = names_chosen v ∙ ap (λ (o : Option ℕ). freed_by (gap_puts n o)) none

  -- facts

  pub facts_are : facts_of c ≡ f
  facts_are i = record { may = is.made.may i; path = is.made.path i }

  -- marks

  -- each mark is that of a triple
  pub triple_of : (m : CertMark) → Contains c.marks m → (t : Triple) × IsDerived n g f t × (m ≡ mark_of n s t)
  triple_of m h = let it = (is.made.marks m).0 h in (it.0, (is.derived.triples it.0).0 it.1, it.2)

  -- and each triple has its mark
  pub mark_listed : (t : Triple) → IsDerived n g f t → Contains c.marks (mark_of n s t)
  mark_listed t h = (is.made.marks (mark_of n s t)).1 (t, (is.derived.triples t).1 h, refl)

  pub fails_of : (v : ℕ) (test : CertMark → Bool) → some_mark c v test ≡ true → FailsOf n g f s v test
  fails_of v test h =
      let it = any_at (λ (m : CertMark). m.node == v && test m) c.marks h in
      let both = and_parts (it.0.node == v) (test it.0) it.2 in
      let of = triple_of it.0 it.1 in
      record { triple = of.0; derived = of.1; node = sym (ap (λ (m : CertMark). m.node) of.2) ∙ eqb-true it.0.node v both.0; fails = sym (ap test of.2) ∙ both.1 }

  -- no edge is wide for a triple
  pub edge_narrow : (e : Edge) (t : Triple) → Contains g.edges e → IsDerived n g f t → e.from ≡ t.node → is_wide_edge n g f e t.mark ≡ false
  edge_narrow e t among h from = by_case (is_wide_edge n g f e t.mark) refl
    where
      by_case : (b : Bool) → is_wide_edge n g f e t.mark ≡ b → b ≡ false
      by_case true wide = absurd (is.narrow (record { triple = t; derived = h; edge = e; is_edge = among; leaves = from; wide = wide }))
      by_case false narrow = refl

  -- no chosen put is forbidden
  pub none_forbidden : (k : ℕ) → IsForbidden n g f k → is_chosen n s k ≡ true → ⊥
  none_forbidden k h is_it = true≢false (sym ((is.derived.forbidden k).1 h) ∙ is.cover.unforbidden k (chosen n s k is_it))
