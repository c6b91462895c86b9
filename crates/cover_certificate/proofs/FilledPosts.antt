-- The frees of gaps aside, a filled graph is as before: what its edges do, which nodes are reached, what becomes of marks.
use Rattle.std.proofs.Common.{◌≡◌, ℕ, ◌+◌, ◌==◌, ◌&&◌, ◌||◌, Bool, true, false, not, nat_lt, if◌then◌else◌, List, [], ◌∷◌, ◌++◌, length, map, fold, slice_get, Option, Some, None, option_map, option_and_then, refl, ap, sym, ◌∙◌}
use Rattle.std.proofs.Math.Path.{fun_ext}
use Rattle.std.proofs.lemmas.Option.{slice_get-map}
use Rattle.std.specs.List.{Contains, find}
use Rattle.c_tree.specs.Typing.{has}
use Rattle.c_tree.specs.declared.choice.Choice.{Choice}
use Rattle.c_graph.specs.declared.graph.Edge.{Edge}
use Rattle.c_graph.specs.declared.graph.Graph.{Graph}
use Rattle.c_graph.specs.declared.graph.Node.{Node}
use Rattle.c_graph.specs.declared.graph.NodeKind.{NodeKind}
use Rattle.c_graph.specs.declared.graph.NodeKind.TheVariants.{Gap, Act, Exit}
use Rattle.c_graph.specs.declared.graph.Way.{Way}
use Rattle.c_graph.specs.Executes.{callee_at, callee_in_kind, ctx_at, enters_into, function_of}
use Rattle.c_graph.specs.Moves.{enters}
use Rattle.c_graph.specs.Filled.{filled_graph, filled_kind, filled_node}
use Rattle.mf_set.specs.Numbers.{has as has_number}
use Rattle.ts_domain.specs.declared.deed.Deed.{Deed}
use Rattle.ts_domain.specs.declared.deed.Deed.TheVariants.{Reads, Follows, Says, Sets, SetsField}
use Rattle.ts_domain.specs.declared.entry.Entry.{Entry}
use Rattle.ts_domain.specs.declared.facts.Facts.{Facts}
use Rattle.ts_domain.specs.declared.marks.Alias.{Alias}
use Rattle.ts_domain.specs.declared.marks.Alias.TheVariants.{Diff, Maybe}
use Rattle.ts_domain.specs.declared.marks.Mark.{Mark}
use Rattle.ts_domain.specs.declared.marks.Step.{Step}
use Rattle.ts_domain.specs.declared.marks.Verdict.{Verdict}
use Rattle.ts_domain.specs.declared.marks.Verdict.TheVariants.{Yes, No, Open}
use Rattle.ts_domain.specs.declared.names.Names.{Names}
use Rattle.ts_domain.specs.declared.names.Read.{Read}
use Rattle.ts_domain.specs.declared.names.Read.TheVariants as read
use Rattle.ts_domain.specs.Aliases.{alias, base_alias, chain_alias}
use Rattle.ts_domain.specs.Cover.{is_exit, is_exit_at}
use Rattle.ts_domain.specs.Deeds.{edge_deeds, kind_deeds, node_deeds, site_of}
use Rattle.ts_domain.specs.Marks.{Knowledge, decided, expressions, field_at, marked, flows, makes_struct, meets, only_if, shares, sites_to, some_beyond, some_in, split_by, splits, step, verdict}
use Rattle.ts_domain.specs.MarkWrites.{birth, birth_writes, by_alias, points_to, put_beneath, put_mark, put_verdict, settled, settled_by, settled_verdict, source_verdict, unborn, written_mark}
use Rattle.ts_domain.specs.May.{struct_of, struct_of_kind}
use Rattle.ts_domain.specs.Path.{Reached, here, along}
use Rattle.ts_domain.specs.Post.{at_edge, born, counted, deed_entries, deeds_post, entry, first_entry, is_gap, is_wide, is_wide_edge, last_entries, last_entry, leaves_gap, made_site, post, read_entries, read_entry, step_of, too_many, turn, turns, with_entries, with_entry, written_entry}

-- the same, option by option
bind_over : {A B : Type 0} (f h : A → Option B) → ((x : A) → f x ≡ h x) → (o : Option A) → option_and_then f o ≡ option_and_then h o
bind_over f h same None = refl
bind_over f h same (Some x) = same x

map_over : {A B C : Type 0} (f : A → B) (h : B → Option C) (o : Option A) → option_and_then h (option_map f o) ≡ option_and_then (λ x. h (f x)) o
map_over f h None = refl
map_over f h (Some x) = refl

has_over : {A B : Type 0} (f : A → B) (test : B → Bool) (o : Option A) → has test (option_map f o) ≡ has (λ x. test (f x)) o
has_over f test None = refl
has_over f test (Some x) = refl

has_each : {A : Type 0} (p q : A → Bool) → ((x : A) → p x ≡ q x) → (o : Option A) → has p o ≡ has q o
has_each p q same None = refl
has_each p q same (Some x) = same x

module _ (s : Choice) (g : Graph) where
  -- nodes

  pub node_at : (v : ℕ) → slice_get (filled_graph s g).nodes v ≡ option_map (filled_node s.puts) (slice_get g.nodes v)
  node_at v = slice_get-map (filled_node s.puts) g.nodes v

  bind_same : {A : Type 0} (f : Node → Option A) → ((x : Node) → f (filled_node s.puts x) ≡ f x) → (v : ℕ) → option_and_then f (slice_get (filled_graph s g).nodes v) ≡ option_and_then f (slice_get g.nodes v)
  bind_same f same v = ap (option_and_then f) (node_at v) ∙ map_over (filled_node s.puts) f (slice_get g.nodes v) ∙ bind_over (λ x. f (filled_node s.puts x)) f same (slice_get g.nodes v)

  pub has_same : (test : Node → Bool) → ((x : Node) → test (filled_node s.puts x) ≡ test x) → (v : ℕ) → has test (slice_get (filled_graph s g).nodes v) ≡ has test (slice_get g.nodes v)
  has_same test same v = ap (has test) (node_at v) ∙ has_over (filled_node s.puts) test (slice_get g.nodes v) ∙ has_each (λ x. test (filled_node s.puts x)) test same (slice_get g.nodes v)

  struct_kind : (k : NodeKind) → struct_of_kind (filled_kind s.puts k) ≡ struct_of_kind k
  struct_kind (Gap number frees) = refl
  struct_kind (Act a) = refl
  struct_kind (Exit at) = refl

  callee_kind : (k : NodeKind) → callee_in_kind (filled_kind s.puts k) ≡ callee_in_kind k
  callee_kind (Gap number frees) = refl
  callee_kind (Act a) = refl
  callee_kind (Exit at) = refl

  exit_kind : (k : NodeKind) → is_exit (filled_kind s.puts k) ≡ is_exit k
  exit_kind (Gap number frees) = refl
  exit_kind (Act a) = refl
  exit_kind (Exit at) = refl

  gap_kind : (k : NodeKind) → is_gap (filled_kind s.puts k) ≡ is_gap k
  gap_kind (Gap number frees) = refl
  gap_kind (Act a) = refl
  gap_kind (Exit at) = refl

  pub exits_same : (v : ℕ) → is_exit_at (filled_graph s g) v ≡ is_exit_at g v
  exits_same v = has_same (λ (node : Node). is_exit node.kind) (λ x. exit_kind x.kind) v

  leaves_same : (e : Edge) → leaves_gap (filled_graph s g) e ≡ leaves_gap g e
  leaves_same e = has_same (λ (v : Node). is_gap v.kind) (λ x. gap_kind x.kind) e.from

  pub structs_same : (n : Names) (t : ℕ) → struct_of n (filled_graph s g) t ≡ struct_of n g t
  structs_same n t = bind_over (λ v. option_and_then (λ (node : Node). struct_of_kind node.kind) (slice_get (filled_graph s g).nodes v)) (λ v. option_and_then (λ (node : Node). struct_of_kind node.kind) (slice_get g.nodes v)) (bind_same (λ (node : Node). struct_of_kind node.kind) (λ x. struct_kind x.kind)) (slice_get n.sites t)

  pub reached_same : {v : ℕ} → Reached (filled_graph s g) v → Reached g v
  reached_same here = here
  reached_same (along e among r) = along e among (reached_same r)

  -- what edges do

  context_same : (v : ℕ) → ctx_at (filled_graph s g) v ≡ ctx_at g v
  context_same v = ap (option_map (λ (n : Node). n.ctx)) (node_at v) ∙ by_node (slice_get g.nodes v)
    where
      by_node : (o : Option Node) → option_map (λ (n : Node). n.ctx) (option_map (filled_node s.puts) o) ≡ option_map (λ (n : Node). n.ctx) o
      by_node None = refl
      by_node (Some x) = refl

  callee_same : (v : ℕ) → callee_at (filled_graph s g) v ≡ callee_at g v
  callee_same v = bind_same (λ (n : Node). callee_in_kind n.kind) (λ x. callee_kind x.kind) v

  functions_same : (k : ℕ) → function_of (filled_graph s g) k ≡ function_of g k
  functions_same k =
      ap (λ (p : Edge → Bool). option_and_then (λ (e : Edge). callee_at (filled_graph s g) e.from) (find p g.edges)) (fun_ext (λ (e : Edge). ap (λ (c : Option ℕ). enters e.way && has (λ j. j == k) c) (context_same e.to)))
      ∙ bind_over (λ (e : Edge). callee_at (filled_graph s g) e.from) (λ (e : Edge). callee_at g e.from) (λ e. callee_same e.from) (find (enters_into g k) g.edges)

  pub deeds_same : (n : Names) (e : Edge) → edge_deeds n (filled_graph s g) e ≡ edge_deeds n g e
  deeds_same n e = ap (node_deeds n (filled_graph s g) e) (node_at e.from) ∙ by_node (slice_get g.nodes e.from)
    where
      by_kind : (f : Option ℕ) (k : NodeKind) → kind_deeds n (site_of n e.from) f e.way (filled_kind s.puts k) ≡ kind_deeds n (site_of n e.from) f e.way k
      by_kind f (Gap number frees) = refl
      by_kind f (Act a) = refl
      by_kind f (Exit at) = refl

      by_node : (o : Option Node) → node_deeds n (filled_graph s g) e (option_map (filled_node s.puts) o) ≡ node_deeds n g e o
      by_node None = refl
      by_node (Some x) = ap (λ (f : Option ℕ). kind_deeds n (site_of n e.from) f e.way (filled_kind s.puts x.kind)) (functions_same x.ctx) ∙ by_kind (function_of g x.ctx) x.kind

  -- what is known where an edge begins

  module _ (n : Names) (f : Facts) (v : ℕ) where
    abbrev before : Knowledge
    before = record { names = n; graph = g; facts = f; node = v }

    abbrev now : Knowledge
    now = record { names = n; graph = filled_graph s g; facts = f; node = v }

    makes_same : (c : ℕ) → makes_struct n (filled_graph s g) c ≡ makes_struct n g c
    makes_same c = fun_ext (λ t. ap (has (λ d. d == c)) (structs_same n t))

    some_same : (test : List ℕ → Bool) (r : Read) → some_in now test r ≡ some_in before test r
    some_same test (read.Name e) = refl
    some_same test (read.Deep c x) = ap (λ (base : ℕ → Bool). some_beyond f.may base x test) (makes_same c)

    pub flows_same : (t : ℕ) (r : Read) → flows now t r ≡ flows before t r
    flows_same t r = some_same (λ ss. has_number ss t) r

    shares_same : (z : ℕ) (r : Read) → shares now z r ≡ shares before z r
    shares_same z r = some_same (meets (sites_to f.may z)) r

    -- reads

    split_same : (m : Mark) (e : ℕ) (u : Verdict) → split_by now m e u ≡ split_by before m e u
    split_same m e Yes = refl
    split_same m e No = refl
    split_same m e Open = ap (λ (b : Bool). only_if b (step (decided before m e Yes) true) ++ step (decided before m e No) false ∷ []) (flows_same m.site (read.Name e))

    splits_same : (m : Mark) (r : Read) → splits now m r ≡ splits before m r
    splits_same m (read.Name e) = split_same m e (verdict m e)
    splits_same m (read.Deep c x) = ap (λ (b : Bool). only_if b (step m true) ++ step m false ∷ []) (flows_same m.site (read.Deep c x))

    -- writes

    chain_same : (z : ℕ) (r : Read) → chain_alias now z r ≡ chain_alias before z r
    chain_same z r = ap (λ (b : Bool). if b then Maybe else Diff) (shares_same z r)

    base_same : (m : Mark) (z : ℕ) (r : Read) → base_alias now m z r ≡ base_alias before m z r
    base_same m z (read.Name x) = ap (λ (a : Alias). if nat_lt x (length n.vars) then alias n f v m z x else a) (chain_same z (read.Name x))
    base_same m z (read.Deep c x) = chain_same z (read.Deep c x)

    beneath_same : (m : Mark) (b : Read) (c x : ℕ) (u : Verdict) (e : ℕ) (o : Option (ℕ × ℕ)) → put_beneath now m b c x u e o ≡ put_beneath before m b c x u e o
    beneath_same m b c x u e None = refl
    beneath_same m b c x u e (Some p) = ap (λ (a : Alias). if p.1 == x && points_to n c p.0 then by_alias a u (verdict m e) else verdict m e) (base_same m p.0 b)

    put_same : (m : Mark) (b : Read) (c x : ℕ) (u : Verdict) → put_mark now m b c x u ≡ put_mark before m b c x u
    put_same m b c x u = ap (marked (expressions n) m.site) (fun_ext (λ e. beneath_same m b c x u e (field_at n e)))

    written_same : (fresh : Verdict) (notes : List ℕ) (d : Deed) (m : Mark) → written_mark now fresh notes d m ≡ written_mark before fresh notes d m
    written_same fresh notes (Reads r noted) m = refl
    written_same fresh notes (Follows x) m = refl
    written_same fresh notes (Says q) m = refl
    written_same fresh notes (Sets x w) m = refl
    written_same fresh notes (SetsField b c x w) m = put_same m b c x (source_verdict fresh m notes w)

    settled_same : (m : Mark) → settled now m ≡ settled before m
    settled_same m = ap (marked (expressions n) m.site) (fun_ext (λ e. ap (settled_by (verdict m e)) (flows_same m.site (read.Name e))))

    -- deeds

    entries_same : (d : Deed) (at : ℕ) (x : Entry) → deed_entries now d at x ≡ deed_entries before d at x
    entries_same (Reads r noted) at x = ap (map (read_entry r noted at x)) (splits_same x.mark r)
    entries_same (Follows y) at x = refl
    entries_same (Says q) at x = refl
    entries_same (Sets y w) at x = refl
    entries_same (SetsField b c y w) at x = ap (λ (m : Mark). record x { mark = m } ∷ []) (written_same No x.notes.places (SetsField b c y w) x.mark)

    turn_same : (d : Deed) (at : ℕ) (xs : List Entry) → turn now d at xs ≡ turn before d at xs
    turn_same d at xs = ap (λ (on : Entry → List Entry). fold (λ ys x. with_entries ys (on x)) [] xs) (fun_ext (entries_same d at))

    turns_same : (ds : List Deed) (at : ℕ) (xs : List Entry) → turns now ds at xs ≡ turns before ds at xs
    turns_same [] at xs = refl
    turns_same (d ∷ ds) at xs = ap (turns now ds (counted d at)) (turn_same d at xs) ∙ turns_same ds (counted d at) (turn before d at xs)

    wide_same : (ds : List Deed) (at : ℕ) (xs : List Entry) → is_wide now ds at xs ≡ is_wide before ds at xs
    wide_same [] at xs = refl
    wide_same (d ∷ ds) at xs =
        ap (λ (ys : List Entry). too_many d ys || is_wide now ds (counted d at) ys) (turn_same d at xs)
        ∙ ap (λ (b : Bool). too_many d (turn before d at xs) || b) (wide_same ds (counted d at) (turn before d at xs))

    last_same : (xs : List Entry) → last_entries now xs ≡ last_entries before xs
    last_same xs = ap (λ (last : Entry → Entry). fold (λ ys x. with_entry ys (last x)) [] xs) (fun_ext (λ (x : Entry). ap (λ (m : Mark). entry m x.touched []) (settled_same x.mark)))

    deeds_post_same : (ds : List Deed) (m : Mark) → deeds_post now ds m ≡ deeds_post before ds m
    deeds_post_same ds m = ap (map step_of) (ap (last_entries now) (turns_same ds 0 (first_entry m ∷ [])) ∙ last_same (turns before ds 0 (first_entry m ∷ [])))

    writes_same : (ds : List Deed) (m : Mark) → birth_writes now ds m ≡ birth_writes before ds m
    writes_same [] m = refl
    writes_same (d ∷ ds) m = ap (birth_writes now ds) (written_same Yes [] d m) ∙ writes_same ds (written_mark before Yes [] d m)

    birth_same : (ds : List Deed) (site : ℕ) → birth now ds site ≡ birth before ds site
    birth_same ds site = ap (settled now) (writes_same ds (unborn before site)) ∙ settled_same (birth_writes before ds (unborn before site))

  -- edges

  pub posts_same : (n : Names) (f : Facts) (e : Edge) (m : Mark) → post n (filled_graph s g) f e m ≡ post n g f e m
  posts_same n f e m =
      ap (λ (b : Bool). if b then step m false ∷ [] else deeds_post (at_edge n (filled_graph s g) f e) (edge_deeds n (filled_graph s g) e) m) (leaves_same e)
      ∙ ap (λ (ds : List Deed). if leaves_gap g e then step m false ∷ [] else deeds_post (at_edge n (filled_graph s g) f e) ds m) (deeds_same n e)
      ∙ ap (λ (ss : List Step). if leaves_gap g e then step m false ∷ [] else ss) (deeds_post_same n f e.from (edge_deeds n g e) m)

  pub wide_edges_same : (n : Names) (f : Facts) (e : Edge) (m : Mark) → is_wide_edge n (filled_graph s g) f e m ≡ is_wide_edge n g f e m
  wide_edges_same n f e m =
      ap (λ (b : Bool). not b && is_wide (at_edge n (filled_graph s g) f e) (edge_deeds n (filled_graph s g) e) 0 (first_entry m ∷ [])) (leaves_same e)
      ∙ ap (λ (ds : List Deed). not (leaves_gap g e) && is_wide (at_edge n (filled_graph s g) f e) ds 0 (first_entry m ∷ [])) (deeds_same n e)
      ∙ ap (λ (b : Bool). not (leaves_gap g e) && b) (wide_same n f e.from (edge_deeds n g e) 0 (first_entry m ∷ []))

  pub births_same : (n : Names) (f : Facts) (e : Edge) → born n (filled_graph s g) f e ≡ born n g f e
  births_same n f e =
      ap (λ (b : ℕ → Mark). option_map b (made_site (site_of n e.from) e.way))
      (fun_ext (λ t. ap (λ (ds : List Deed). birth (at_edge n (filled_graph s g) f e) ds t) (deeds_same n e) ∙ birth_same n f e.from (edge_deeds n g e) t))
