-- Certificates that are closed for a graph: ten conditions, each by the node at which it fails.
use Rattle.std.specs.Prelude.{◌≡◌, ℕ, ◌-◌, ◌<◌, ◌==◌, ◌&&◌, ◌||◌, max, Bool, true, false, not, List, [], ◌∷◌, length, map, slice_get, Option, None, Some, if◌then◌else◌}
use Rattle.std.specs.List.{list_all, list_any, range_with_len}
use Rattle.std.specs.Option.{option_and_then}
use Rattle.c_tree.specs.Typing.{has}
use Rattle.c_tree.specs.declared.expr.Expr.{Expr}
use Rattle.c_tree.specs.declared.program.Free.{Free}
use Rattle.c_graph.specs.declared.graph.Edge.{Edge}
use Rattle.c_graph.specs.declared.graph.Graph.{Graph}
use Rattle.c_graph.specs.declared.graph.Node.{Node}
use Rattle.c_graph.specs.declared.graph.NodeKind.{NodeKind}
use Rattle.c_graph.specs.declared.graph.NodeKind.TheVariants as kind
use Rattle.mf_set.specs.Numbers.{has as has_number, is_subset}
use Rattle.ts_domain.specs.declared.before.Before.{Before}
use Rattle.ts_domain.specs.declared.before.Before.TheVariants.{Always, Never, Where}
use Rattle.ts_domain.specs.declared.deed.Deed.{Deed}
use Rattle.ts_domain.specs.declared.deed.Deed.TheVariants.{Reads, Follows, Says, Sets, SetsField}
use Rattle.ts_domain.specs.declared.deed.Source.{Source}
use Rattle.ts_domain.specs.declared.deed.Source.TheVariants.{Content, Null, New, Undef}
use Rattle.ts_domain.specs.declared.fact.Fact.{Fact}
use Rattle.ts_domain.specs.declared.fact.Fact.TheVariants.{Ready, Full, Filled}
use Rattle.ts_domain.specs.declared.facts.Facts.{Facts}
use Rattle.ts_domain.specs.declared.facts.Path.{Path}
use Rattle.ts_domain.specs.declared.marks.Mark.{Mark}
use Rattle.ts_domain.specs.declared.marks.Step.{Step}
use Rattle.ts_domain.specs.declared.names.Names.{Names}
use Rattle.ts_domain.specs.declared.names.Read.{Read}
use Rattle.ts_domain.specs.declared.names.Read.TheVariants as read
use Rattle.ts_domain.specs.declared.pointers.Pointer.{Pointer}
use Rattle.ts_domain.specs.Cover.{is_exit_at}
use Rattle.ts_domain.specs.Deeds.{edge_deeds, is_null}
use Rattle.ts_domain.specs.Facts.{fact_at, fact_count}
use Rattle.ts_domain.specs.Looks.{pointer_of}
use Rattle.ts_domain.specs.Marks.{Knowledge, field_at, flows, makes_struct}
use Rattle.ts_domain.specs.May.{flows_into, flows_to, read_of}
use Rattle.ts_domain.specs.Path.{Reached, before_edge, holds_at, same_bool, true_at_start}
use Rattle.ts_domain.specs.Post.{at_edge, born, is_wide_edge, post}
use Rattle.cover_certificate.specs.declared.types.Cert.{Cert}
use Rattle.cover_certificate.specs.declared.types.CertMark.{CertMark}
use Rattle.cover_certificate.specs.Regular.{is_regular}

abbrev pub facts_of : Cert → Facts
facts_of c = record { may = c.may; path = c.path }

-- some edge from a node passes a test, and some mark there
abbrev pub some_edge : Graph → ℕ → (Edge → Bool) → Bool
some_edge g v test = list_any (λ (e : Edge). e.from == v && test e) g.edges

abbrev pub some_mark : Cert → ℕ → (CertMark → Bool) → Bool
some_mark c v test = list_any (λ (m : CertMark). m.node == v && test m) c.marks

-- flows (2)

-- some site passes a test
abbrev pub some_site : Names → (ℕ → Bool) → Bool
some_site n test = list_any test (range_with_len 0 (length n.sites))

-- whether a site flows to what a write takes
abbrev pub takes : Knowledge → Source → ℕ → Bool
takes k (Content l) s = flows k s (read_of l)
takes k Null s = false
takes k (New t) s = t == s
takes k Undef s = false

-- whether a write makes a site flow to a variable, or to that field of a site, to which it isn't noted to flow
abbrev pub adds_to_variable : Knowledge → ℕ → Source → ℕ → Bool
adds_to_variable k x v s = takes k v s && not (flows_to k.facts.may x s)

abbrev pub adds_to_field : Knowledge → ℕ → ℕ → Source → ℕ → Bool
adds_to_field k t f v s = takes k v s && not (flows_into k.facts.may t f s)

-- whether a write to field f of struct c behind a base is one to site t
abbrev pub is_target : Knowledge → Read → ℕ → ℕ → Bool
is_target k b c t = flows k t b && makes_struct k.names k.graph c t

abbrev pub adds_flow : Knowledge → Deed → Bool
adds_flow k (Reads r noted) = false
adds_flow k (Follows x) = false
adds_flow k (Says s) = false
adds_flow k (Sets x v) = some_site k.names (adds_to_variable k x v)
adds_flow k (SetsField b c f v) = some_site k.names (λ t. is_target k b c t && some_site k.names (adds_to_field k t f v))

-- facts (3)

-- what has to hold before stands at a node
abbrev pub stands_before : Names → Path → ℕ → Before → Bool
stands_before n p v Always = true
stands_before n p v Never = false
stands_before n p v (Where f) = holds_at n p v f

-- some fact that is noted at a node passes a test
abbrev pub some_fact : Names → Path → ℕ → (Fact → Bool) → Bool
some_fact n p v test = list_any (λ k. has (λ (f : Fact). holds_at n p v f && test f) (fact_at (length n.vars) (length n.fields) k)) (range_with_len 0 (fact_count (length n.vars) (length n.fields)))

-- whether a fact is noted behind an edge for which nothing that stands before it speaks
abbrev pub adds_fact : Names → Graph → Path → Edge → Bool
adds_fact n g p e = some_fact n p e.to (λ (f : Fact). not (stands_before n p e.from (before_edge n g e f)))

abbrev pub is_false_at_start : Names → Path → Bool
is_false_at_start n p = some_fact n p 0 (λ (f : Fact). not (true_at_start n f))

-- marks (4, 5, 9)

-- a mark says no more than another of the same site and bit
abbrev pub says_no_more : Mark → Bool → CertMark → Bool
says_no_more m freed x = x.mark.site == m.site && (same_bool x.freed freed && (is_subset x.mark.holds.items m.holds.items && is_subset x.mark.lacks.items m.lacks.items))

-- some mark at a node matches it
abbrev pub is_matched : Cert → ℕ → Mark → Bool → Bool
is_matched c v m freed = some_mark c v (says_no_more m freed)

-- by what is matched at a node
abbrev pub lacks_birth : Names → Graph → Facts → (ℕ → Mark → Bool → Bool) → Edge → Bool
lacks_birth n g f matched e = has (λ (m : Mark). not (matched e.to m false)) (born n g f e)

abbrev pub is_touched : Step → Bool
is_touched s = s.touched

-- the posts of a mark over an edge, which it has where the edge isn't wide for it
abbrev pub posts : Names → Graph → Facts → Edge → Mark → List Step
posts n g f e m = if is_wide_edge n g f e m then [] else post n g f e m

-- whether an edge touches the object of a mark that was freed
abbrev pub touches : Names → Graph → Facts → Edge → CertMark → Bool
touches n g f e m = m.freed && list_any is_touched (posts n g f e m.mark)

-- frees (6, 7, 8)

-- the frees of a gap, by the number of the expression
abbrev pub name_of : Read → Option ℕ
name_of (read.Name k) = Some k
name_of (read.Deep s f) = None

abbrev pub named : Names → Expr → Option ℕ
named n e = option_and_then (λ (p : Pointer). name_of p.read) (pointer_of n e)

abbrev pub kind_frees : NodeKind → List Free
kind_frees (kind.Gap number frees) = frees
kind_frees (kind.Act a) = []
kind_frees (kind.Exit offset) = []

abbrev pub node_frees : Option Node → List Free
node_frees None = []
node_frees (Some v) = kind_frees v.kind

abbrev pub frees_at : Graph → ℕ → List Free
frees_at g v = node_frees (slice_get g.nodes v)

abbrev pub names_freed : Names → Graph → ℕ → List (Option ℕ)
names_freed n g v = map (λ (f : Free). named n f.expr) (frees_at g v)

-- what a free of an expression asks for, so that it reads nothing indeterminate
abbrev pub asked : ℕ → ℕ → Option (ℕ × ℕ) → List Fact
asked vars k None = Ready k ∷ []
asked vars k (Some q) = Ready q.0 ∷ Full q.0 ∷ Filled (k - vars) ∷ []

abbrev pub is_readable : Names → Path → ℕ → ℕ → Bool
is_readable n p v k = list_all (holds_at n p v) (asked (length n.vars) k (field_at n k))

abbrev pub is_undecided : ℕ → CertMark → Bool
is_undecided k m = not (has_number m.mark.holds.items k) && not (has_number m.mark.lacks.items k)

-- an expression can be freed at a node: all that it asks for stands there, and each mark there decides it
abbrev pub is_sure : Names → Cert → ℕ → ℕ → Bool
is_sure n c v k = is_readable n c.path v k && not (some_mark c v (is_undecided k))

abbrev pub is_unsure : Names → Cert → ℕ → Free → Bool
is_unsure n c v f = not (is_null f.expr) && not (has (is_sure n c v) (named n f.expr))

-- a free of an expression that surely points to the object frees it
abbrev pub frees : Mark → Option ℕ → Bool
frees m k = has (has_number m.holds.items) k

-- whether the object is freed behind frees
abbrev pub freed_behind : Mark → List (Option ℕ) → Bool → Bool
freed_behind m [] freed = freed
freed_behind m (k ∷ ks) freed = freed_behind m ks (freed || frees m k)

-- whether a free reads the field of a variable that may point to the object
abbrev pub reads_base : Names → Mark → Option ℕ → Bool
reads_base n m k = has (λ (q : ℕ × ℕ). not (has_number m.lacks.items q.0)) (option_and_then (field_at n) k)

-- whether one does so when the object is freed
abbrev pub reads_freed : Names → Mark → List (Option ℕ) → Bool → Bool
reads_freed n m [] freed = false
reads_freed n m (k ∷ ks) freed = (freed && reads_base n m k) || reads_freed n m ks (freed || frees m k)

-- whether one frees it again
abbrev pub frees_again : Mark → List (Option ℕ) → Bool → Bool
frees_again m [] freed = false
frees_again m (k ∷ ks) freed = (freed && frees m k) || frees_again m ks (freed || frees m k)

-- the same of marks at a gap with these frees
abbrev pub reads_when_freed : Names → List (Option ℕ) → CertMark → Bool
reads_when_freed n ks m = reads_freed n m.mark ks m.freed

abbrev pub frees_twice : List (Option ℕ) → CertMark → Bool
frees_twice ks m = frees_again m.mark ks m.freed

abbrev pub is_unfreed : CertMark → Bool
is_unfreed m = not m.freed

-- whether a post of a mark, with its bit behind the frees, is matched nowhere behind an edge, or the edge is wide for it
abbrev pub is_unmatched : (ℕ → Mark → Bool → Bool) → ℕ → Bool → Step → Bool
is_unmatched matched v freed s = not (matched v s.mark freed)

abbrev pub lacks_post : Names → Graph → Facts → (ℕ → Mark → Bool → Bool) → List (Option ℕ) → Edge → CertMark → Bool
lacks_post n g f matched ks e m = is_wide_edge n g f e m.mark || list_any (is_unmatched matched e.to (freed_behind m.mark ks m.freed)) (posts n g f e m.mark)

-- conditions

-- whether each condition fails at a node, by its number; none has the number 0
abbrev pub failing : Names → Graph → Cert → ℕ → List Bool
failing n g c v =
    false
    ∷ (v == 0 && not (is_regular n g c))
    ∷ some_edge g v (λ (e : Edge). list_any (adds_flow (at_edge n g (facts_of c) e)) (edge_deeds n g e))
    ∷ (v == 0 && is_false_at_start n c.path || some_edge g v (adds_fact n g c.path))
    ∷ some_edge g v (lacks_birth n g (facts_of c) (is_matched c))
    ∷ some_edge g v (λ (e : Edge). some_mark c v (touches n g (facts_of c) e))
    ∷ list_any (is_unsure n c v) (frees_at g v)
    ∷ some_mark c v (reads_when_freed n (names_freed n g v))
    ∷ some_mark c v (frees_twice (names_freed n g v))
    ∷ some_edge g v (λ (e : Edge). some_mark c v (lacks_post n g (facts_of c) (is_matched c) (names_freed n g v) e))
    ∷ (is_exit_at g v && some_mark c v is_unfreed)
    ∷ []

-- conditions 3 and 4 speak of the nodes that are reached
abbrev pub asks_reached : ℕ → Bool
asks_reached r = r == 3 || r == 4

-- a condition is broken at a node, by its number
pub record IsBroken (n : Names) (g : Graph) (c : Cert) (v r : ℕ) : Type 0 where
  pub node : v < max 1 (length g.nodes)
  pub fails : slice_get (failing n g c v) r ≡ Some true
  pub reached : asks_reached r ≡ true → Reached g v

-- a certificate is closed where no condition is broken at any node
abbrev pub IsClosed : Names → Graph → Cert → Type 0
IsClosed n g c = (v r : ℕ) → IsBroken n g c v r → ⊥

-- the first broken condition: at the least node, and there the one with the least number
pub record IsFirstBroken (n : Names) (g : Graph) (c : Cert) (v r : ℕ) : Type 0 where
  pub broken : IsBroken n g c v r
  pub nodes : (u q : ℕ) → u < v → IsBroken n g c u q → ⊥
  pub reasons : (q : ℕ) → q < r → IsBroken n g c v q → ⊥
