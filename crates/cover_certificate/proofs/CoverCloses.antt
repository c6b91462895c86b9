-- Every cover closes: the certificate that is made of a cover is closed for the graph of the program that the cover fills.
use Rattle.std.proofs.Common.{◌≡◌, ℕ, zero, suc, ◌<◌, ◌==◌, ◌&&◌, Bool, true, false, not, List, length, slice_get, Option, Some, None, refl, ap, sym, subst, ◌∙◌, arith}
use Rattle.std.specs.Prelude.{max, nat_lt}
use Rattle.std.specs.List.{Contains, list_all}
use Rattle.std.proofs.Math.Path.{fun_ext}
use Rattle.std.proofs.lemmas.Bool.{and_parts, false≢true, true≢false}
use Rattle.std.proofs.lemmas.List.{length-map}
use Rattle.c_tree.specs.Fill.{ascends, fill, IsAscending}
use Rattle.c_tree.specs.Typing.{has}
use Rattle.c_tree.specs.WellFormed.{IsWellFormed}
use Rattle.c_tree.specs.declared.choice.Choice.{Choice}
use Rattle.c_tree.specs.declared.program.Program.{Program}
use Rattle.call_contexts.specs.Contexts.{contexts}
use Rattle.call_contexts.specs.declared.context.Ctx.{Ctx}
use Rattle.c_graph.specs.Filled.{filled_graph, filled_node}
use Rattle.c_graph.specs.Nodes.{graph}
use Rattle.c_graph.specs.Ways.{ways_at, LeadsToNodes, NodeWays}
use Rattle.c_graph.specs.declared.graph.Edge.{Edge}
use Rattle.c_graph.specs.declared.graph.Graph.{Graph}
use Rattle.c_graph.specs.declared.graph.NodeKind.{NodeKind}
use Rattle.c_graph.specs.declared.graph.NodeKind.TheVariants.{Gap, Act, Exit}
use Rattle.c_graph.specs.declared.graph.Way.{Way}
use Rattle.c_graph.specs.declared.graph.Way.TheVariants as way
use Rattle.c_graph.proofs.EdgeEnds.{leads_to_nodes}
use Rattle.c_graph.proofs.EdgeWays.{edge_of_way, has_its_ways}
use Rattle.c_graph.proofs.FilledGraphs.{graph_of_fill}
use Rattle.mf_set.specs.Numbers.{Numbers}
use Rattle.ts_domain.specs.Cover.{IsCover}
use Rattle.ts_domain.specs.Derived.{AreDerived, HasWideEdge}
use Rattle.ts_domain.specs.Facts.{fact_count}
use Rattle.ts_domain.specs.Marks.{expressions, meets}
use Rattle.ts_domain.specs.May.{struct_of, IsMay}
use Rattle.ts_domain.specs.Path.{IsPath}
use Rattle.ts_domain.specs.Pointers.{field_type, is_pointer}
use Rattle.ts_domain.specs.Post.{is_gap}
use Rattle.ts_domain.specs.Views.{AreNames}
use Rattle.ts_domain.specs.declared.facts.Facts.{Facts}
use Rattle.ts_domain.specs.declared.names.Names.{Names}
use Rattle.ts_domain.specs.declared.triples.Derived.{Derived}
use Rattle.cover_certificate.specs.Closed.{failing, IsBroken, IsClosed}
use Rattle.cover_certificate.specs.Making.{ClosesCover, IsMade}
use Rattle.cover_certificate.specs.Regular.{are_vars, ascends as ascends_by, field_before, has_room, is_regular, mark_before}
use Rattle.cover_certificate.specs.declared.types.Cert.{Cert}
use Rattle.cover_certificate.specs.declared.types.CertMark.{CertMark}
use Rattle.cover_certificate.proofs.Covered.{Covered, some_true}
use Rattle.cover_certificate.proofs.CoverFacts.{none_adds_fact, none_adds_flow}
use Rattle.cover_certificate.proofs.CoverMarks.{births_matched, exits_freed, none_freed_touched, posts_matched}
use Rattle.cover_certificate.proofs.CoverPuts.{frees_sure, none_freed_again, none_reads_freed}
use Rattle.cover_certificate.proofs.FilledPosts.{structs_same}

-- what a regular certificate asks of a graph is the struct of each site and the number of nodes
module _ (n : Names) (c : Cert) where
  regular_by : (of : ℕ → Option ℕ) (count : ℕ) → Bool
  regular_by of count =
      are_vars n c.may
      && ((list_all (λ (x : ℕ × ℕ × Numbers). has (λ d. has is_pointer (field_type n d x.1)) (of x.0) && (has_room (length n.sites) x.2 && nat_lt 0 (length x.2.items))) c.may.fields && ascends_by field_before c.may.fields)
      && ((length c.path.at == count && list_all (has_room (fact_count (length n.vars) (length n.fields))) c.path.at)
      && (list_all (λ (m : CertMark). nat_lt m.node count && (nat_lt m.mark.site (length n.sites) && (has_room (expressions n) m.mark.holds && (has_room (expressions n) m.mark.lacks && not (meets m.mark.holds.items m.mark.lacks.items))))) c.marks
      && ascends_by (mark_before (expressions n)) c.marks)))

  regular_in : (g : Graph) → is_regular n g c ≡ regular_by (struct_of n g) (length g.nodes)
  unfolding regular_by
  regular_in g = refl

  regular_same : (s : Choice) (g : Graph) → is_regular n (filled_graph s g) c ≡ is_regular n g c
  regular_same s g =
      regular_in (filled_graph s g)
      ∙ ap (λ (of : ℕ → Option ℕ). regular_by of (length (filled_graph s g).nodes)) (fun_ext (structs_same s g n))
      ∙ ap (regular_by (struct_of n g)) (length-map g.nodes (filled_node s.puts))
      ∙ sym (regular_in g)

-- no condition is broken
module _ (p : Program) (g : Graph) (n : Names) (f : Facts) (d : Derived) (s : Choice) (c : Cert) (is : Covered p g n f d s c) where
  stays_regular : (v : ℕ) → slice_get (failing n (filled_graph s g) c v) 1 ≡ Some true → ⊥
  stays_regular v h =
      let both = and_parts (v == 0) (not (is_regular n (filled_graph s g) c)) (some_true (v == 0 && not (is_regular n (filled_graph s g) c)) h) in
      true≢false (sym both.1 ∙ ap not (regular_same n c s g ∙ is.made.regular))

  node_within : (v : ℕ) → v < max 1 (length (filled_graph s g).nodes) → v < max 1 (length g.nodes)
  node_within v low = subst (λ (count : ℕ). v < max 1 count) (length-map g.nodes (filled_node s.puts)) low

  by_reason : (v r : ℕ) → IsBroken n (filled_graph s g) c v r → ⊥
  by_reason v zero broken = false≢true (some_true false broken.fails)
  by_reason v (suc zero) broken = stays_regular v broken.fails
  by_reason v (suc (suc zero)) broken = none_adds_flow p g n f d s c is v broken.fails
  by_reason v (suc (suc (suc zero))) broken = none_adds_fact p g n f d s c is v (node_within v broken.node) (broken.reached refl) broken.fails
  by_reason v (suc (suc (suc (suc zero)))) broken = births_matched p g n f d s c is v (broken.reached refl) broken.fails
  by_reason v (suc (suc (suc (suc (suc zero))))) broken = none_freed_touched p g n f d s c is v broken.fails
  by_reason v (suc (suc (suc (suc (suc (suc zero)))))) broken = frees_sure p g n f d s c is v broken.fails
  by_reason v (suc (suc (suc (suc (suc (suc (suc zero))))))) broken = none_reads_freed p g n f d s c is v broken.fails
  by_reason v (suc (suc (suc (suc (suc (suc (suc (suc zero)))))))) broken = none_freed_again p g n f d s c is v broken.fails
  by_reason v (suc (suc (suc (suc (suc (suc (suc (suc (suc zero))))))))) broken = posts_matched p g n f d s c is v broken.fails
  by_reason v (suc (suc (suc (suc (suc (suc (suc (suc (suc (suc zero)))))))))) broken = exits_freed p g n f d s c is v broken.fails
  by_reason v (suc (suc (suc (suc (suc (suc (suc (suc (suc (suc (suc r))))))))))) broken = let never : None ≡ Some true = broken.fails in absurd cc

  -- the certificate of a cover is closed for the graph that the cover fills
  pub cover_closes : IsClosed n (filled_graph s g) c
  cover_closes = by_reason

-- an edge leads on from each gap
gap_leads : (p : Program) (x : Ctx) (v : ℕ) (k : NodeKind) → NodeWays p x (ways_at (graph p (contexts p)) v) k → is_gap k ≡ true → (e : Edge) × Contains (graph p (contexts p)).edges e × (e.from ≡ v)
gap_leads p x v (Gap number frees) ways h =
    let it = edge_of_way (graph p (contexts p)) v way.On (subst (λ (ws : List Way). Contains ws way.On) (sym ways) (0, omega arith, refl)) in
    (it.0, it.1, it.2)
gap_leads p x v (Act a) ways h = absurd (false≢true h)
gap_leads p x v (Exit offset) ways h = absurd (false≢true h)

-- of a well-formed program, where no edge is wide, each cover has a certificate that is closed for the graph of the program that it fills
pub every_cover_closes : (p : Program) → IsWellFormed p → (n : Names) (f : Facts) (d : Derived) (s : Choice) (c : Cert)
    → AreNames p (graph p (contexts p)) n → ascends n.puts ≡ true → IsMay n (graph p (contexts p)) f.may → IsPath n (graph p (contexts p)) f.path
    → AreDerived n (graph p (contexts p)) f d → (HasWideEdge n (graph p (contexts p)) f → ⊥) → IsAscending s → IsCover (graph p (contexts p)) n f.path d s
    → IsMade n (graph p (contexts p)) f d s c → IsClosed n (graph (fill p s) (contexts (fill p s))) c
every_cover_closes p w n f d s c names order may path derived narrow ascending cover made =
    subst (λ (g : Graph). IsClosed n g c) (sym (graph_of_fill p s))
    (cover_closes p (graph p (contexts p)) n f d s c (record {
      names = names;
      order = order;
      leads = λ v node at gap. (let it = has_its_ways p w v node at in gap_leads p it.0 v node.kind it.2 gap);
      may = may;
      path = path;
      derived = derived;
      narrow = narrow;
      ascending = ascending;
      cover = cover;
      made = made;
    }))

-- the same of any graph of the program, by what a certificate is made of
pub closes_cover : (n : Names) (g : Graph) (f : Facts) (d : Derived) (s : Choice) (c : Cert) → IsAscending s
    → (LeadsToNodes g → IsMay n g f.may → IsPath n g f.path → AreDerived n g f d → IsMade n g f d s c) → ClosesCover n g f d s c
closes_cover n g f d s c ascending made p w is names order may path derived narrow cover =
    subst (λ (h : Graph). AreNames p h n → IsMay n h f.may → IsPath n h f.path → AreDerived n h f d → (HasWideEdge n h f → ⊥) → IsCover h n f.path d s
    → (LeadsToNodes h → IsMay n h f.may → IsPath n h f.path → AreDerived n h f d → IsMade n h f d s c) → IsClosed n (graph (fill p s) (contexts (fill p s))) c) (sym is)
    (λ names may path derived narrow cover made. every_cover_closes p w n f d s c names order may path derived narrow ascending cover (made (leads_to_nodes p w) may path derived))
    names may path derived narrow cover made
