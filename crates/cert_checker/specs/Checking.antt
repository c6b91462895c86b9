-- What a check keeps at hand, and tests of edges and marks by their places.
use Rattle.std.specs.Prelude.{◌≡◌, ℕ, ◌+◌, ◌==◌, ◌&&◌, ◌||◌, Bool, true, false, not, List, [], ◌∷◌, ◌++◌, map, slice_get, Option, None, Some, if◌then◌else◌}
use Rattle.std.specs.List.{list_any}
use Rattle.c_tree.specs.Typing.{has}
use Rattle.c_tree.specs.declared.program.Free.{Free}
use Rattle.c_graph.specs.declared.graph.Edge.{Edge}
use Rattle.mf_set.specs.Numbers.{Numbers}
use Rattle.ts_domain.specs.declared.marks.Mark.{Mark}
use Rattle.ts_domain.specs.declared.marks.Step.{Step}
use Rattle.ts_domain.specs.declared.names.Names.{Names}
use Rattle.ts_domain.specs.declared.fact.Fact.{Fact}
use Rattle.ts_domain.specs.declared.facts.Path.{Path}
use Rattle.ts_domain.specs.Cover.{is_exit_at}
use Rattle.ts_domain.specs.Deeds.{edge_deeds, is_null}
use Rattle.ts_domain.specs.Marks.{items_of}
use Rattle.ts_domain.specs.Path.{holds_at}
use Rattle.ts_domain.specs.Post.{at_edge, is_wide_edge, post}
use Rattle.ts_domain.specs.Reaching.{from_of}
use Rattle.ts_domain.specs.Rows.{AreRows, row}
use Rattle.path_facts.specs.Numbering.{holds, room_of}
use Rattle.cover_certificate.specs.declared.types.CertMark.{CertMark}
use Rattle.cover_certificate.specs.Closed.{adds_fact, adds_flow, asks_reached, facts_of, freed_behind, frees_at, frees_twice, is_false_at_start, is_readable, is_touched, is_undecided, is_unfreed, is_unmatched, lacks_birth, named, names_freed, reads_when_freed, says_no_more}
use Rattle.cert_checker.specs.declared.checking.Checking.{Checking}
use Rattle.cert_checker.specs.declared.checking.Question.{Question}
use Rattle.cert_checker.specs.declared.checking.Question.TheVariants as question

-- keys

abbrev pub node_of : CertMark → Option ℕ
node_of m = Some m.node

-- the facts are those of the certificate, the deeds those of the edges, and the rows have the places of edges and marks by node
pub record IsReady (k : Checking) : Type 0 where
  pub facts : k.facts.now ≡ facts_of k.cert.now
  pub deeds : k.deeds.now ≡ map (edge_deeds k.names.now k.graph.now) k.graph.now.edges
  pub edges : AreRows (map from_of k.graph.now.edges) k.edges.now
  pub marks : AreRows (map node_of k.cert.now.marks) k.marks.now

-- places

-- whether what stands at a place passes a test, and what stands at some of these
abbrev pub passes : {A : Type 0} → (A → Bool) → List A → ℕ → Bool
passes test xs i = has test (slice_get xs i)

abbrev pub any_at : {A : Type 0} → (A → Bool) → List A → List ℕ → Bool
any_at test xs places = list_any (passes test xs) places

-- a set has the facts that are noted at a node
pub record IsNotedAt (n : Names) (p : Path) (v : ℕ) (s : Numbers) : Type 0 where
  pub room : s.room ≡ room_of n
  pub facts : (f : Fact) → holds n s f ≡ holds_at n p v f

-- reasons

-- the number of the first condition that fails, from the r-th on
abbrev pub first_failing : ℕ → List Bool → Option ℕ
first_failing r [] = None
first_failing r (b ∷ bs) = if b then Some r else first_failing (r + 1) bs

-- questions

-- whether a mark is matched at a node, by the places of marks
abbrev pub matched_by : Checking → ℕ → Mark → Bool → Bool
matched_by k v m freed = any_at (says_no_more m freed) k.cert.now.marks (row k.marks.now v)

-- what the marks behind an edge say to a question about one before it, with its bit behind the frees
abbrev pub is_told : Checking → Question → ℕ → CertMark → Bool → List Step → Bool
is_told k question.Touch v m freed steps = m.freed && list_any is_touched steps
is_told k question.Post v m freed steps = list_any (is_unmatched (matched_by k) v freed) steps
is_told k question.Flow v m freed steps = false
is_told k question.Fact v m freed steps = false
is_told k question.Birth v m freed steps = false

-- only posts are lacking over an edge that is wide
abbrev pub is_post : Question → Bool
is_post question.Flow = false
is_post question.Fact = false
is_post question.Birth = false
is_post question.Touch = false
is_post question.Post = true

-- what is said of a mark over an edge: by its posts, or by the edge being wide
abbrev pub mark_fails : Checking → Question → List (Option ℕ) → Edge → CertMark → Bool
mark_fails k q ks e m = if is_wide_edge k.names.now k.graph.now k.facts.now e m.mark then is_post q else is_told k q e.to m (freed_behind m.mark ks m.freed) (post k.names.now k.graph.now k.facts.now e m.mark)

-- whether a condition fails over an edge from a node with marks of these places
abbrev pub edge_fails : Checking → Question → List (Option ℕ) → List ℕ → Edge → Bool
edge_fails k question.Flow ks places e = list_any (adds_flow (at_edge k.names.now k.graph.now k.facts.now e)) (edge_deeds k.names.now k.graph.now e)
edge_fails k question.Fact ks places e = adds_fact k.names.now k.graph.now k.cert.now.path e
edge_fails k question.Birth ks places e = lacks_birth k.names.now k.graph.now k.facts.now (matched_by k) e
edge_fails k question.Touch ks places e = any_at (mark_fails k question.Touch ks e) k.cert.now.marks places
edge_fails k question.Post ks places e = any_at (mark_fails k question.Post ks e) k.cert.now.marks places

-- frees, at a node with marks of these places
abbrev pub is_sure_by : Checking → ℕ → List ℕ → ℕ → Bool
is_sure_by k v places e = is_readable k.names.now k.cert.now.path v e && not (any_at (is_undecided e) k.cert.now.marks places)

abbrev pub is_unsure_by : Checking → ℕ → List ℕ → Free → Bool
is_unsure_by k v places f = not (is_null f.expr) && not (has (is_sure_by k v places) (named k.names.now f.expr))

-- facts

-- the numbers of the facts that are noted at a node
abbrev pub numbers_at : Path → ℕ → List ℕ
numbers_at p v = items_of (slice_get p.at v)

-- sets of facts have room for all of them
abbrev pub HasRooms : Names → Path → Type 0
HasRooms n p = (v : ℕ) (s : Numbers) → slice_get p.at v ≡ Some s → s.room ≡ room_of n

-- reasons

-- whether a condition fails over some edge from a node, where the frees there free these expressions
abbrev pub edges_failing : Checking → Question → List (Option ℕ) → ℕ → Bool
edges_failing k q ks v = any_at (edge_fails k q ks (row k.marks.now v)) k.graph.now.edges (row k.edges.now v)

abbrev pub facts_failing : Checking → List (Option ℕ) → ℕ → Bool
facts_failing k ks v = v == 0 && is_false_at_start k.names.now k.cert.now.path || edges_failing k question.Fact ks v

-- whether each condition fails at a node: those on edges but posts, the third and the fourth where the node is reached; those on
-- frees; and those on posts and exits
abbrev pub failing_over : Checking → Bool → List (Option ℕ) → ℕ → List Bool
failing_over k reached ks v =
    edges_failing k question.Flow ks v
    ∷ (reached && facts_failing k ks v)
    ∷ (reached && edges_failing k question.Birth ks v)
    ∷ edges_failing k question.Touch ks v
    ∷ []

abbrev pub failing_in : Checking → List (Option ℕ) → ℕ → List Bool
failing_in k ks v =
    list_any (is_unsure_by k v (row k.marks.now v)) (frees_at k.graph.now v)
    ∷ any_at (reads_when_freed k.names.now ks) k.cert.now.marks (row k.marks.now v)
    ∷ any_at (frees_twice ks) k.cert.now.marks (row k.marks.now v)
    ∷ []

abbrev pub failing_behind : Checking → List (Option ℕ) → ℕ → List Bool
failing_behind k ks v =
    edges_failing k question.Post ks v
    ∷ (is_exit_at k.graph.now v && any_at is_unfreed k.cert.now.marks (row k.marks.now v))
    ∷ []

-- all of them, from the second on
abbrev pub failing_by : Checking → Bool → List (Option ℕ) → ℕ → List Bool
failing_by k reached ks v = failing_over k reached ks v ++ (failing_in k ks v ++ failing_behind k ks v)

abbrev pub reasons : Checking → Bool → ℕ → List Bool
reasons k reached v = failing_by k reached (names_freed k.names.now k.graph.now v) v

-- what of all conditions is asked, from the r-th on: some only where the node is reached
abbrev pub asked : Bool → ℕ → List Bool → List Bool
asked reached r [] = []
asked reached r (b ∷ bs) = (if asks_reached r then reached && b else b) ∷ asked reached (r + 1) bs

-- all but the first two
abbrev pub behind_two : List Bool → List Bool
behind_two [] = []
behind_two (a ∷ []) = []
behind_two (a ∷ b ∷ bs) = bs
