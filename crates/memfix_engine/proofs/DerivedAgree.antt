-- What is derived from facts that agree is the same, so any two problems of a program have the same members.
use Rattle.std.proofs.Common.{◌≡◌, ◌↔◌, inl, inr, ℕ, ◌<◌, ◌==◌, ◌&&◌, ◌||◌, not, Bool, true, List, [], ◌∷◌, length, slice_get, option_map, Option, Some, None, refl, ap, sym, ◌∙◌, subst}
use Rattle.std.proofs.Math.Path.{fun_ext}
use Rattle.std.proofs.lemmas.Bool.{and_from, and_parts, lt-ltb}
use Rattle.std.proofs.lemmas.List.Quantifiers.{position-Some}
use Rattle.std.specs.Cmp.{both_ways}
use Rattle.std.specs.List.{Contains, list_all, range_with_len}
use Rattle.std.specs.Option.{option_and_then}
use Rattle.c_tree.specs.Typing.{has}
use Rattle.c_tree.specs.declared.choice.Put.{Put}
use Rattle.c_tree.specs.declared.program.Program.{Program}
use Rattle.c_graph.specs.declared.graph.Graph.{Graph}
use Rattle.mf_set.specs.Numbers.{Numbers, has as has_number}
use Rattle.ts_domain.specs.declared.fact.Fact.{Fact}
use Rattle.ts_domain.specs.declared.fact.Fact.TheVariants.{Ready, Full, Filled}
use Rattle.ts_domain.specs.declared.facts.Facts.{Facts}
use Rattle.ts_domain.specs.declared.names.Names.{Names}
use Rattle.ts_domain.specs.declared.triples.Derived.{Derived}
use Rattle.ts_domain.specs.declared.triples.Triple.{Triple}
use Rattle.ts_domain.specs.Cover.{facts_of_place, is_allowed, is_allowed_put, is_free_there, is_gap_at}
use Rattle.ts_domain.specs.Derived.{starts, follows, AreDerived, Forbids, HasManyTriples, HasWideEdge, IsBorn, IsDerived, IsForbidden, IsNext, IsPair, PassesStates, Touches}
use Rattle.ts_domain.specs.Facts.{is_fact}
use Rattle.ts_domain.specs.Path.{holds_at}
use Rattle.ts_domain.specs.Pointers.{field_place, place_of}
use Rattle.cover_problem.specs.declared.types.Problem.{Problem}
use Rattle.cover_problem.specs.Problem.{IsExit}
use Rattle.memfix_engine.specs.Analysis.{graph_in, names_in, IsProblemIn}
use Rattle.memfix_engine.proofs.EdgesAgree.{born_alike, post_alike, wide_edge_alike}
use Rattle.memfix_engine.proofs.FactsAgree.{facts_agree, turned, Agree}

-- triples

module _ (n : Names) (g : Graph) (f h : Facts) (same : Agree n f h) where
  -- a triple with a new object by the first facts is one by the second
  born_leads : (t : Triple) → IsBorn n g f t → IsBorn n g h t
  born_leads t b = record {
    edge = b.edge;
    is_edge = b.is_edge;
    reached = b.reached;
    mark = b.mark;
    made = sym (born_alike n g f h same b.edge) ∙ b.made;
    is = b.is;
  }

  -- and so is one that goes over an edge
  next_leads : (s t : Triple) → IsNext n g f s t → IsNext n g h s t
  next_leads s t x = record {
    edge = x.edge;
    is_edge = x.is_edge;
    leaves = x.leaves;
    narrow = sym (wide_edge_alike n g f h same x.edge s.mark) ∙ x.narrow;
    step = x.step;
    goes = subst (λ steps. Contains steps x.step) (post_alike n g f h same x.edge s.mark) x.goes;
    is = x.is;
  }

  -- so each derived triple is derived from both
  pub derived_leads : (t : Triple) → IsDerived n g f t → IsDerived n g h t
  derived_leads t (starts u b) = starts u (born_leads u b)
  derived_leads t (follows s u d x) = follows s u (derived_leads s d) (next_leads s u x)

  -- an edge touches the object of a triple by both
  touches_leads : (t : Triple) → Touches n g f t → Touches n g h t
  touches_leads t x = record {
    edge = x.edge;
    is_edge = x.is_edge;
    leaves = x.leaves;
    narrow = sym (wide_edge_alike n g f h same x.edge t.mark) ∙ x.narrow;
    step = x.step;
    goes = subst (λ steps. Contains steps x.step) (post_alike n g f h same x.edge t.mark) x.goes;
    touched = x.touched;
  }

  -- a triple forbids the same puts
  forbids_leads : (t : Triple) (k : ℕ) → Forbids n g f t k → Forbids n g h t k
  forbids_leads t k (inl x) = inl (touches_leads t x.0, x.1)
  forbids_leads t k (inr x) = inr x

  -- the same puts are forbidden
  pub forbidden_leads : (k : ℕ) → IsForbidden n g f k → IsForbidden n g h k
  forbidden_leads k x = (x.0, derived_leads x.0 x.1, forbids_leads x.0 k x.2)

  -- and the same pairs are made
  pub pair_leads : (p : ℕ × ℕ) → IsPair n g f p → IsPair n g h p
  pair_leads p x = (x.0, derived_leads x.0 x.1, x.2)

  -- limits

  -- there are too many triples by both
  many_leads : HasManyTriples n g f → HasManyTriples n g h
  many_leads x = record { listed = x.listed; derived = λ t c. derived_leads t (x.derived t c); once = x.once; many = x.many }

  -- an edge is wide by both
  wide_leads : HasWideEdge n g f → HasWideEdge n g h
  wide_leads x = record {
    triple = x.triple;
    derived = derived_leads x.triple x.derived;
    edge = x.edge;
    is_edge = x.is_edge;
    leaves = x.leaves;
    wide = sym (wide_edge_alike n g f h same x.edge x.triple.mark) ∙ x.wide;
  }

  -- so the limit of states is passed by both
  pub states_lead : PassesStates n g f → PassesStates n g h
  states_lead (inl x) = inl (many_leads x)
  states_lead (inr x) = inr (wide_leads x)

  -- allowed puts

  -- facts of the names are noted by both or not by both
  all_alike : (v : ℕ) (xs : List Fact) → list_all (is_fact n) xs ≡ true → list_all (holds_at n f.path v) xs ≡ list_all (holds_at n h.path v) xs
  all_alike v [] real = refl
  all_alike v (x ∷ xs) real =
      let both = and_parts (is_fact n x) (list_all (is_fact n) xs) real in
      ap (λ b. b && list_all (holds_at n f.path v) xs) (same.holds v x both.0)
      ∙ ap (λ b. holds_at n h.path v x && b) (all_alike v xs both.1)

  -- what a free of a field asks for is noted by both
  field_by : (v x : ℕ) → x < length n.vars → (o : Option ℕ) → ((j : ℕ) → o ≡ Some j → j < length n.fields)
      → has (λ (fs : List Fact). list_all (holds_at n f.path v) fs) (option_map (λ j. Ready x ∷ Full x ∷ Filled j ∷ []) o) ≡ has (λ (fs : List Fact). list_all (holds_at n h.path v) fs) (option_map (λ j. Ready x ∷ Full x ∷ Filled j ∷ []) o)
  field_by v x low None within = refl
  field_by v x low (Some j) within =
      let var = lt-ltb x (length n.vars) low in
      let field = lt-ltb j (length n.fields) (within j refl) in
      all_alike v (Ready x ∷ Full x ∷ Filled j ∷ [])
      (and_from (is_fact n (Ready x)) (list_all (is_fact n) (Full x ∷ Filled j ∷ [])) var
      (and_from (is_fact n (Full x)) (list_all (is_fact n) (Filled j ∷ [])) var (and_from (is_fact n (Filled j)) true field refl)))

  -- and what any free asks for
  free_by : (v : ℕ) (field o : Option ℕ) → ((x : ℕ) → o ≡ Some x → x < length n.vars)
      → has (λ (fs : List Fact). list_all (holds_at n f.path v) fs) (option_and_then (facts_of_place n field) o) ≡ has (λ (fs : List Fact). list_all (holds_at n h.path v) fs) (option_and_then (facts_of_place n field) o)
  free_by v field None within = refl
  free_by v None (Some x) within = all_alike v (Ready x ∷ []) (and_from (is_fact n (Ready x)) true (lt-ltb x (length n.vars) (within x refl)) refl)
  free_by v (Some b) (Some x) within =
      field_by v x (within x refl) (field_place n.fields x b)
      (λ j e. (position-Some (λ (y : ℕ × ℕ). y.0 == x && y.1 == b) n.fields j (0, 0) e).0)

  -- so a put may be freed at a node by both
  free_alike : (q : Put) (v : ℕ) → is_free_there n f.path q v ≡ is_free_there n h.path q v
  free_alike q v = free_by v q.field (place_of n q.var) (λ x e. (position-Some (λ y. y == q.var) n.vars x 0 e).0)

  -- and is allowed by both
  put_alike : (q : Put) → is_allowed_put g n f.path q ≡ is_allowed_put g n h.path q
  put_alike q = ap (λ (free : ℕ → Bool). list_all (λ v. not (is_gap_at g q.gap v) || free v) (range_with_len 0 (length g.nodes))) (fun_ext (free_alike q))

  -- both by its place
  pub allowed_alike : (k : ℕ) → is_allowed g n f.path k ≡ is_allowed g n h.path k
  allowed_alike k = ap (λ (test : Put → Bool). has test (slice_get n.puts k)) (fun_ext put_alike)

-- problems

-- the same names, and the same members
pub record Alike (q r : Problem) : Type 0 where
  pub names : q.names ≡ r.names
  pub allowed : (k : ℕ) → has_number q.allowed.items k ≡ has_number r.allowed.items k
  pub forbidden : (k : ℕ) → has_number q.derived.forbidden.items k ≡ has_number r.derived.forbidden.items k
  pub triples : (t : Triple) → Contains q.derived.triples t ↔ Contains r.derived.triples t
  pub pairs : (p : ℕ × ℕ) → Contains q.derived.pairs p ↔ Contains r.derived.pairs p
  pub exits : (e : ℕ × ℕ × Numbers) → Contains q.exits e ↔ Contains r.exits e

-- what two have derived, one way
module _ (n : Names) (g : Graph) (f h : Facts) (same : Agree n f h) (d b : Derived) (are : AreDerived n g f d) (also : AreDerived n g h b) where
  -- a triple of the first is one of the second
  triples_lead : (t : Triple) → Contains d.triples t → Contains b.triples t
  triples_lead t c = (also.triples t).1 (derived_leads n g f h same t ((are.triples t).0 c))

  -- and so is a pair
  pairs_lead : (p : ℕ × ℕ) → Contains d.pairs p → Contains b.pairs p
  pairs_lead p c = (also.pairs p).1 (pair_leads n g f h same p ((are.pairs p).0 c))

  -- and a forbidden put
  puts_lead : (k : ℕ) → has_number d.forbidden.items k ≡ true → has_number b.forbidden.items k ≡ true
  puts_lead k c = (also.forbidden k).1 (forbidden_leads n g f h same k ((are.forbidden k).0 c))

  -- and a triple at an exit
  exit_leads : (e : ℕ × ℕ × Numbers) → IsExit g d e → IsExit g b e
  exit_leads e x = record { triple = x.triple; derived = triples_lead x.triple x.derived; leaves = x.leaves; is = x.is }

-- any two problems of a program have the same names and the same members
pub derived_agree : (p : Program) (q r : Problem) → IsProblemIn p q → IsProblemIn p r → Alike q r
derived_agree p q r one two =
    let n : Names = names_in p in
    let g : Graph = graph_in p in
    let same : Agree n one.facts two.facts = facts_agree p one.facts two.facts one.are two.are in
    let back : Agree n two.facts one.facts = turned n one.facts two.facts same in
    let c : Derived = q.derived in
    let d : Derived = r.derived in
    record {
      names = one.problem.names ∙ sym two.problem.names;
      allowed = λ k. one.problem.allowed k ∙ allowed_alike n g one.facts two.facts same k ∙ sym (two.problem.allowed k);
      forbidden = λ k. both_ways (has_number c.forbidden.items k) (has_number d.forbidden.items k)
          (puts_lead n g one.facts two.facts same c d one.derived two.derived k)
          (puts_lead n g two.facts one.facts back d c two.derived one.derived k);
      triples = λ t. (triples_lead n g one.facts two.facts same c d one.derived two.derived t, triples_lead n g two.facts one.facts back d c two.derived one.derived t);
      pairs = λ t. (pairs_lead n g one.facts two.facts same c d one.derived two.derived t, pairs_lead n g two.facts one.facts back d c two.derived one.derived t);
      exits = λ e. (
        (λ x. (two.problem.exits e).1 (exit_leads n g one.facts two.facts same c d one.derived two.derived e ((one.problem.exits e).0 x))),
        (λ x. (one.problem.exits e).1 (exit_leads n g two.facts one.facts back d c two.derived one.derived e ((two.problem.exits e).0 x))),
      );
    }
