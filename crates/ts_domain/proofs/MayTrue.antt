-- May facts are true of runs: what a variable or a field of an object points to was made at a site that flows there.
use Rattle.std.proofs.Common.{◌≡◌, ℕ, ◌+◌, ◌-◌, ◌≤◌, ◌==◌, ◌&&◌, Bool, true, false, List, [], ◌∷◌, slice_get, length, Option, Some, None, option_and_then, refl, ap, sym, subst, ◌∙◌, arith}
use Rattle.std.specs.Prelude.{nat_lt, if◌then◌else◌}
use Rattle.std.proofs.lemmas.Bool.{eqb-true, ltb-true, ltb-false}
use Rattle.c_tree.specs.declared.program.Program.{Program}
use Rattle.c_tree.specs.declared.program.Size.TheVariants as size
use Rattle.c_tree.specs.declared.program.Ty.TheVariants as ty
use Rattle.c_meaning.specs.declared.value.Value.{Value}
use Rattle.c_meaning.specs.declared.value.Value.TheVariants as value
use Rattle.call_contexts.proofs.Has.{Has, first, later}
use Rattle.c_graph.specs.declared.graph.Action.TheVariants as action
use Rattle.c_graph.specs.declared.graph.Graph.{Graph}
use Rattle.c_graph.specs.declared.graph.Node.{Node}
use Rattle.c_graph.specs.declared.graph.NodeKind.{NodeKind}
use Rattle.c_graph.specs.declared.graph.NodeKind.TheVariants as kind
use Rattle.ts_domain.specs.declared.deed.Deed.{Deed}
use Rattle.ts_domain.specs.declared.deed.Deed.TheVariants.{Reads, Follows, Says, Sets, SetsField}
use Rattle.ts_domain.specs.declared.deed.Looked.TheVariants as looked
use Rattle.ts_domain.specs.declared.deed.Source.{Source}
use Rattle.ts_domain.specs.declared.deed.Source.TheVariants as source
use Rattle.ts_domain.specs.declared.names.Names.{Names}
use Rattle.ts_domain.specs.declared.names.Read.{Read}
use Rattle.ts_domain.specs.declared.names.Read.TheVariants as read
use Rattle.ts_domain.specs.Holding.{IsSite}
use Rattle.ts_domain.specs.May.{struct_of_kind, struct_of, IsDone, Variable, FieldOf, Found, Of, Flows, sets, sets_field, of_variable, of_field, deep, content, new}
use Rattle.ts_domain.specs.Numbering.{makes}
use Rattle.ts_domain.specs.Views.{AreNames, View, with_slot, with_field, peek_field, field_seen, kind_type, site_type, object_type, Seen, Finds, Gives, Does, DoesAll}
use Rattle.ts_domain.proofs.NameLaws.{passing_once}

-- what is pointed to was made at a site that flows there
pub record IsMayTrue (n : Names) (g : Graph) (sites : List ℕ) (v : View) : Type 0 where
  pub slots : (k o : ℕ) → v.slot k ≡ value.Ptr o → (t : ℕ) × IsSite n sites o t × Flows n g t (Variable k)
  pub cells : (o f q : ℕ) → v.cell o f ≡ value.Ptr q → (s t : ℕ) × IsSite n sites q s × IsSite n sites o t × Flows n g s (FieldOf t f)

module _ (p : Program) (g : Graph) (n : Names) (names : AreNames p g n) (sites : List ℕ) where
  pub site_once : (o t u : ℕ) → IsSite n sites o t → IsSite n sites o u → t ≡ u
  site_once o t u a b =
      let same : Some a.0 ≡ Some b.0 = sym a.1 ∙ b.1 in
      let w_is : a.0 ≡ b.0 = cc in
      passing_once (λ (x : Node). makes x.kind) g.nodes t u a.0
      (ap (λ (xs : List ℕ). slice_get xs t) (sym names.sites) ∙ a.2) (ap (λ (xs : List ℕ). slice_get xs u) (sym names.sites) ∙ b.2 ∙ ap (λ (w : ℕ). Some w) (sym w_is))

  kind_struct : (what : NodeKind) (c : ℕ) → kind_type what ≡ Some (ty.StructPtr c) → struct_of_kind what ≡ Some c
  kind_struct (kind.Act (action.Malloc place (size.Fields s) at)) c h = let same : s ≡ c = cc in ap (λ (k : ℕ). Some k) same
  kind_struct (kind.Act (action.Malloc place (size.Ints count) at)) c h = absurd cc
  kind_struct _ c h = absurd cc

  node_struct : (o : Option Node) (c : ℕ) → option_and_then (λ (x : Node). kind_type x.kind) o ≡ Some (ty.StructPtr c) → option_and_then (λ (x : Node). struct_of_kind x.kind) o ≡ Some c
  node_struct None c h = absurd cc
  node_struct (Some x) c h = kind_struct x.kind c h

  pub site_struct : (o t c : ℕ) → IsSite n sites o t → object_type g sites o ≡ Some (ty.StructPtr c) → struct_of n g t ≡ Some c
  site_struct o t c a h =
      ap (option_and_then (λ v. option_and_then (λ (x : Node). struct_of_kind x.kind) (slice_get g.nodes v))) a.2
      ∙ node_struct (slice_get g.nodes a.0) c (ap (option_and_then (site_type g)) (sym a.1) ∙ h)

  module _ (v : View) (h : IsMayTrue n g sites v) where
    -- a field of a variable
    field_flows : (j x f o : ℕ) (w : Value) → slice_get n.fields j ≡ Some (x, f) → v.slot x ≡ w → field_seen v f w ≡ value.Ptr o → (t : ℕ) × IsSite n sites o t × Flows n g t (Found (read.Name (length n.vars + j)))
    field_flows j x f o value.Undef at holds e = absurd cc
    field_flows j x f o (value.Int m) at holds e = absurd cc
    field_flows j x f o value.Null at holds e = absurd cc
    field_flows j x f o (value.Ptr q) at holds e =
        let base = h.slots x q holds in
        let it = h.cells q f o e in
        let same = site_once q it.1 base.0 it.3 base.1 in
        (it.0, it.2, of_field j x f it.0 base.0 at base.2 (subst (λ (t : ℕ). Flows n g it.0 (FieldOf t f)) same it.4))

    name_flows : (k o : ℕ) (b : Bool) → nat_lt k (length n.vars) ≡ b → (if b then v.slot k else peek_field v (slice_get n.fields (k - length n.vars))) ≡ value.Ptr o → (t : ℕ) × IsSite n sites o t × Flows n g t (Found (read.Name k))
    name_flows k o true low e = let it = h.slots k o e in (it.0, it.1, of_variable k it.0 (ltb-true k (length n.vars) low) it.2)
    name_flows k o false past e = by_field (slice_get n.fields (k - length n.vars)) refl e
      where
        by_field : (q : Option (ℕ × ℕ)) → slice_get n.fields (k - length n.vars) ≡ q → peek_field v q ≡ value.Ptr o → (t : ℕ) × IsSite n sites o t × Flows n g t (Found (read.Name k))
        by_field None at e = absurd cc
        by_field (Some q) at e =
            let above : length n.vars ≤ k = ltb-false k (length n.vars) past in
            let k_is : length n.vars + (k - length n.vars) ≡ k = omega arith in
            subst (λ (i : ℕ). (t : ℕ) × IsSite n sites o t × Flows n g t (Found (read.Name i))) k_is (field_flows (k - length n.vars) q.0 q.1 o (v.slot q.0) at refl e)

    -- what a read finds
    finds_flow : (r : Read) (o : ℕ) → Finds n g sites v r (value.Ptr o) → (t : ℕ) × IsSite n sites o t × Flows n g t (Found r)
    finds_flow (read.Name k) o e = name_flows k o (nat_lt k (length n.vars)) refl e
    finds_flow (read.Deep c f) o e =
        let it = h.cells e.0 f o e.2 in
        (it.0, it.2, deep c f it.0 it.1 (site_struct e.0 it.1 c it.3 e.1) it.4)

  -- what a write takes
  gives_flow : (s : Seen) (src : Source) (o : ℕ) (c : Value) → IsMayTrue n g sites s.view → Gives n g sites s src c → c ≡ value.Ptr o → (t : ℕ) × IsSite n sites o t × Flows n g t (Of src)
  gives_flow s (source.Content (looked.Name k)) o c h gives is = let it = finds_flow s.view h (read.Name k) o (gives.0 ∙ is) in (it.0, it.1, content (looked.Name k) it.0 it.2)
  gives_flow s (source.Content (looked.Deep a f note)) o c h gives is =
      let found = gives.0.1 in
      let it = finds_flow s.view h (read.Deep a f) o (found.0, found.1, found.2 ∙ is) in
      (it.0, it.1, content (looked.Deep a f note) it.0 it.2)
  gives_flow s source.Null o c h gives is = let never : value.Null ≡ value.Ptr o = sym gives ∙ is in absurd cc
  gives_flow s (source.New site) o c h gives is =
      let objects : value.Ptr gives.0 ≡ value.Ptr o = sym gives.2 ∙ is in
      let same : gives.0 ≡ o = cc in
      (site, (gives.1, ap (slice_get sites) (sym same) ∙ gives.4, gives.3), new site)
  gives_flow s source.Undef o c h gives is = let never : value.Undef ≡ value.Ptr o = sym gives ∙ is in absurd cc

  -- deeds

  set_may : (v : View) (k : ℕ) (c : Value) → IsMayTrue n g sites v → ((o : ℕ) → c ≡ value.Ptr o → (t : ℕ) × IsSite n sites o t × Flows n g t (Variable k)) → IsMayTrue n g sites (with_slot k c v)
  set_may v k c h written = record { slots = λ j o e. by_place j o (j == k) refl e; cells = h.cells }
    where
      by_place : (j o : ℕ) (b : Bool) → j == k ≡ b → (if b then c else v.slot j) ≡ value.Ptr o → (t : ℕ) × IsSite n sites o t × Flows n g t (Variable j)
      by_place j o true is e = subst (λ (i : ℕ). (t : ℕ) × IsSite n sites o t × Flows n g t (Variable i)) (sym (eqb-true j k is)) (written o e)
      by_place j o false is e = h.slots j o e

  field_may : (v : View) (o f : ℕ) (c : Value) → IsMayTrue n g sites v → ((q : ℕ) → c ≡ value.Ptr q → (s t : ℕ) × IsSite n sites q s × IsSite n sites o t × Flows n g s (FieldOf t f)) → IsMayTrue n g sites (with_field o f c v)
  field_may v o f c h written = record { slots = h.slots; cells = λ p i q e. by_place p i q (p == o) (i == f) refl refl e }
    where
      by_place : (p i q : ℕ) (b d : Bool) → p == o ≡ b → i == f ≡ d → (if b && d then c else v.cell p i) ≡ value.Ptr q → (s t : ℕ) × IsSite n sites q s × IsSite n sites p t × Flows n g s (FieldOf t i)
      by_place p i q true true is also e =
          subst (λ (x : ℕ). (s t : ℕ) × IsSite n sites q s × IsSite n sites x t × Flows n g s (FieldOf t i)) (sym (eqb-true p o is))
          (subst (λ (x : ℕ). (s t : ℕ) × IsSite n sites q s × IsSite n sites o t × Flows n g s (FieldOf t x)) (sym (eqb-true i f also)) (written q e))
      by_place p i q true false is also e = h.cells p i q e
      by_place p i q false d is also e = h.cells p i q e

  pub deed_may : (d : Deed) (s t : Seen) → IsDone n g d → Does n g sites d s t → IsMayTrue n g sites s.view → IsMayTrue n g sites t.view
  deed_may (Reads r noted) s t done does h = subst (λ (v : View). IsMayTrue n g sites v) (sym (ap (λ (x : Seen). x.view) does.3)) h
  deed_may (Follows k) s t done does h = subst (λ (v : View). IsMayTrue n g sites v) (sym (ap (λ (x : Seen). x.view) does.2)) h
  deed_may (Says w) s t done does h = subst (λ (v : View). IsMayTrue n g sites v) (sym (ap (λ (x : Seen). x.view) does.1)) h
  deed_may (Sets k src) s t done does h =
      subst (λ (v : View). IsMayTrue n g sites v) (sym (ap (λ (x : Seen). x.view) does.2))
      (set_may s.view k does.0 h (λ o e. let it = gives_flow s src o does.0 h does.1 e in (it.0, it.1, sets k src it.0 done it.2)))
  deed_may (SetsField r c f src) s t done does h =
      subst (λ (v : View). IsMayTrue n g sites v) (sym (ap (λ (x : Seen). x.view) does.6))
      (field_may s.view does.0 f does.1 h
      (λ q e.
      let it = gives_flow s src q does.1 h does.4 e in
      let base = finds_flow s.view h r does.0 does.2 in
      (it.0, base.0, it.1, base.1, sets_field r c f src it.0 base.0 done base.2 (site_struct does.0 base.0 c base.1 does.3) it.2)))

  -- behind deeds of an edge
  pub deeds_may : (ds : List Deed) (s t : Seen) → ((d : Deed) → Has d ds → IsDone n g d) → DoesAll n g sites ds s t → IsMayTrue n g sites s.view → IsMayTrue n g sites t.view
  deeds_may [] s t done does h = subst (λ (x : Seen). IsMayTrue n g sites x.view) (sym does) h
  deeds_may (d ∷ ds) s t done does h = deeds_may ds does.0 t (λ e there. done e (later there)) does.2 (deed_may d s does.0 (done d first) does.1 h)
