-- The certificate of a cover is closed for the graph of the filled program, which is safe then.
use Rattle.std.proofs.Common.{◌≡◌, ℕ, ◌≤◌, Bool, List, length, map, slice_get, Option, Some, None, option_map, refl, ap, sym, subst, ◌∙◌, IsTrue}
use Rattle.std.proofs.Math.Path.{fun_ext}
use Rattle.std.proofs.lemmas.List.{length-map}
use Rattle.std.proofs.lemmas.Option.{slice_get-map}
use Rattle.std.specs.List.{Contains, filter, range_with_len}
use Rattle.c_tree.specs.Fill.{ascends, fill}
use Rattle.c_tree.specs.Typing.{has}
use Rattle.c_tree.specs.WellFormed.{IsWellFormed}
use Rattle.c_tree.specs.declared.choice.Choice.{Choice}
use Rattle.c_tree.specs.declared.choice.Put.{Put}
use Rattle.c_tree.specs.declared.program.Program.{Program}
use Rattle.c_tree.proofs.WellFormedKept.{fill_well_formed}
use Rattle.c_meaning.specs.Safe.{Safe}
use Rattle.call_contexts.specs.Contexts.{contexts}
use Rattle.call_contexts.specs.declared.context.Ctx.{Ctx}
use Rattle.c_graph.specs.Filled.{filled_kind, filled_node}
use Rattle.c_graph.specs.declared.graph.Graph.{Graph}
use Rattle.c_graph.specs.declared.graph.Node.{Node}
use Rattle.c_graph.specs.declared.graph.NodeKind.{NodeKind}
use Rattle.c_graph.specs.declared.graph.NodeKind.TheVariants.{Gap, Act, Exit}
use Rattle.ts_domain.specs.declared.facts.Facts.{Facts}
use Rattle.ts_domain.specs.declared.names.Names.{Names}
use Rattle.ts_domain.specs.Cover.{IsCover}
use Rattle.ts_domain.specs.Numbering.{makes, sites_of}
use Rattle.ts_domain.specs.Puts.{puts_of}
use Rattle.ts_domain.specs.Views.{AreNames}
use Rattle.cover_problem.specs.declared.types.Problem.{Problem}
use Rattle.cover_problem.specs.Problem.{IsCoverOf, IsProblem}
use Rattle.cover_problem.proofs.CoverLaws.{cover_of_graph}
use Rattle.cover_certificate.specs.declared.types.Cert.{Cert}
use Rattle.cover_certificate.specs.Closed.{IsClosed, IsFirstBroken}
use Rattle.cover_certificate.specs.Making.{ClosesCover}
use Rattle.cert_checker.specs.Checked.{MakesSafe}
use Rattle.memfix_engine.specs.declared.analysis.Analysis.{Analysis}
use Rattle.memfix_engine.specs.Analysing.{IsAnalysis}
use Rattle.memfix_engine.specs.Analysis.{IsSmall, graph_in, names_in}
use Rattle.c_graph.proofs.FilledGraphs.{contexts_same, graph_of_fill}
use Rattle.memfix_engine.proofs.NamedPuts.{named_fit}

-- sizes

-- a filled program has no more contexts
pub contexts_small : (p : Program) (s : Choice) → IsSmall p → length (contexts (fill p s)) ≤ 1024
contexts_small p s small = subst (λ (cs : List Ctx). length cs ≤ 1024) (sym (contexts_same p s)) small.contexts

-- and no more nodes
pub nodes_small : (p : Program) (s : Choice) → IsSmall p → length (graph_in (fill p s)).nodes ≤ 10000
nodes_small p s small =
    let same : length (graph_in (fill p s)).nodes ≡ length (graph_in p).nodes =
    ap (λ (g : Graph). length g.nodes) (graph_of_fill p s) ∙ length-map (graph_in p).nodes (filled_node s.puts)
    in
    subst (λ n. n ≤ 10000) (sym same) small.nodes

-- names

-- a node makes objects with other frees too
makes_filled : (puts : List Put) (k : NodeKind) → makes (filled_kind puts k) ≡ makes k
makes_filled puts (Gap number frees) = refl
makes_filled puts (Act a) = refl
makes_filled puts (Exit at) = refl

-- the same of what stands at a place, if anything does
made_at : (puts : List Put) (o : Option Node) → has (λ (v : Node). makes v.kind) (option_map (filled_node puts) o) ≡ has (λ (v : Node). makes v.kind) o
made_at puts None = refl
made_at puts (Some v) = makes_filled puts v.kind

-- the sites of a filled graph
sites_filled : (puts : List Put) (nodes : List Node) → sites_of (map (filled_node puts) nodes) ≡ sites_of nodes
sites_filled puts nodes =
    ap
    (λ (test : ℕ → Bool). filter test (range_with_len 0 (length (map (filled_node puts) nodes))))
    (fun_ext (λ (i : ℕ). ap (has (λ (v : Node). makes v.kind)) (slice_get-map (filled_node puts) nodes i) ∙ made_at puts (slice_get nodes i)))
    ∙ ap (λ n. filter (λ i. has (λ (v : Node). makes v.kind) (slice_get nodes i)) (range_with_len 0 n)) (length-map nodes (filled_node puts))

-- the names of a program are those of its graph
names_here : (p : Program) → AreNames p (graph_in p) (names_in p)
names_here p = record { decls = refl; structs = refl; vars = refl; fields = refl; sites = refl }

-- and those of the filled program and its graph
names_filled : (p : Program) (s : Choice) → AreNames (fill p s) (graph_in (fill p s)) (names_in p)
names_filled p s =
    let sites : sites_of (graph_in (fill p s)).nodes ≡ sites_of (graph_in p).nodes =
    ap (λ (g : Graph). sites_of g.nodes) (graph_of_fill p s) ∙ sites_filled s.puts (graph_in p).nodes
    in
    record { decls = refl; structs = refl; vars = refl; fields = refl; sites = sym sites }

-- the certificate

-- a cover of the problem is a cover of what was derived
cover_here : (p : Program) (f : Facts) (q : Problem) (s : Choice) → IsProblem (graph_in p) (names_in p) f.path q.derived q → IsCoverOf q s
    → IsCover (graph_in p) (names_in p) f.path q.derived s
cover_here p f q s is cover =
    let own : IsProblem (graph_in p) q.names f.path q.derived q = subst (λ (n : Names). IsProblem (graph_in p) n f.path q.derived q) (sym is.names) is in
    subst (λ (n : Names). IsCover (graph_in p) n f.path q.derived s) is.names ((cover_of_graph (graph_in p) f.path q own s).0 cover)

-- the certificate of a cover is closed for the graph of the filled program
pub closed_filled : (p : Program) (a : Analysis) (s : Choice) (c : Cert) → IsWellFormed p → IsAnalysis p a → IsCoverOf a.problem s
    → ClosesCover a.names a.graph a.facts a.problem.derived s c → IsClosed a.names (graph_in (fill p s)) c
closed_filled p a s c well is cover closes =
    let up : IsTrue (ascends (names_in p).puts) = subst (λ (n : Names). IsTrue (ascends n.puts)) is.names is.ascending in
    let named : ClosesCover (names_in p) a.graph a.facts a.problem.derived s c =
    subst (λ (n : Names). ClosesCover n a.graph a.facts a.problem.derived s c) is.names closes
    in
    let here : ClosesCover (names_in p) (graph_in p) a.facts a.problem.derived s c =
    subst (λ (g : Graph). ClosesCover (names_in p) g a.facts a.problem.derived s c) is.graph named
    in
    subst
    (λ (n : Names). IsClosed n (graph_in (fill p s)) c)
    (sym is.names)
    (here p well refl (names_here p) up is.facts.may is.facts.path is.derived is.narrow (cover_here p a.facts a.problem s is.problem cover))

-- of a closed certificate no condition is the first that is broken
pub none_broken : (n : Names) (g : Graph) (c : Cert) (v r : ℕ) → IsClosed n g c → IsFirstBroken n g c v r → ⊥
none_broken n g c v r closed first = closed v r first.broken

-- a cover has puts of the program alone
pub named_puts : (p : Program) (a : Analysis) (s : Choice) → IsAnalysis p a → IsCoverOf a.problem s → (q : Put) → Contains s.puts q → Contains (puts_of (graph_in p) p) q
named_puts p a s is cover q among = subst (λ (n : Names). Contains n.puts q) is.problem.names (cover.named q among)

-- the filled program is safe where its graph and its names make so
pub safe_filled : (p : Program) (a : Analysis) (s : Choice) → IsWellFormed p → IsAnalysis p a → IsCoverOf a.problem s → MakesSafe a.names (graph_in (fill p s)) → Safe (fill p s)
safe_filled p a s well is cover makes_so =
    let fits : IsWellFormed (fill p s) = fill_well_formed p s well (named_fit p s well (named_puts p a s is cover)) in
    let names : AreNames (fill p s) (graph_in (fill p s)) a.names = subst (λ (n : Names). AreNames (fill p s) (graph_in (fill p s)) n) (sym is.names) (names_filled p s) in
    makes_so.safe (fill p s) fits refl names
