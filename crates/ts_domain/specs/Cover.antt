-- Which choices of puts are covers: each object is freed once on every path, and where nothing speaks against it.
use Rattle.std.specs.Prelude.{◌≡◌, ℕ, ◌==◌, ◌||◌, Bool, true, false, not, List, [], ◌∷◌, length, slice_get, option_map, Option, None, Some}
use Rattle.std.specs.List.{Contains, list_all, range_with_len}
use Rattle.std.specs.Option.{option_and_then}
use Rattle.c_tree.specs.Typing.{has}
use Rattle.c_tree.specs.declared.choice.Choice.{Choice}
use Rattle.c_tree.specs.declared.choice.Put.{Put}
use Rattle.c_graph.specs.declared.graph.Graph.{Graph}
use Rattle.c_graph.specs.declared.graph.Node.{Node}
use Rattle.c_graph.specs.declared.graph.NodeKind.{NodeKind}
use Rattle.c_graph.specs.declared.graph.NodeKind.TheVariants as kind
use Rattle.mf_set.specs.Numbers.{Numbers, has as has_number}
use Rattle.ts_domain.specs.declared.fact.Fact.{Fact}
use Rattle.ts_domain.specs.declared.fact.Fact.TheVariants.{Ready, Full, Filled}
use Rattle.ts_domain.specs.declared.facts.Path.{Path}
use Rattle.ts_domain.specs.declared.names.Names.{Names}
use Rattle.ts_domain.specs.declared.triples.Derived.{Derived}
use Rattle.ts_domain.specs.declared.triples.Triple.{Triple}
use Rattle.ts_domain.specs.Path.{holds_at}
use Rattle.ts_domain.specs.Pointers.{place_of, field_place}

-- nodes

-- whether a gap of that number stands there
abbrev pub is_gap : ℕ → NodeKind → Bool
is_gap gap (kind.Gap number frees) = number == gap
is_gap gap (kind.Act action) = false
is_gap gap (kind.Exit offset) = false

abbrev pub is_gap_at : Graph → ℕ → ℕ → Bool
is_gap_at g gap v = has (λ (node : Node). is_gap gap node.kind) (slice_get g.nodes v)

-- whether a run ends there
abbrev pub is_exit : NodeKind → Bool
is_exit (kind.Gap number frees) = false
is_exit (kind.Act action) = false
is_exit (kind.Exit offset) = true

abbrev pub is_exit_at : Graph → ℕ → Bool
is_exit_at g v = has (λ (node : Node). is_exit node.kind) (slice_get g.nodes v)

-- allowed puts

-- what a free of x asks for, so that it reads nothing indeterminate: x is set; for x->f besides, x holds an object, and its field is set (6.5.2.3, 6.5.3.2p4)
abbrev pub facts_of_place : Names → Option ℕ → ℕ → Option (List Fact)
facts_of_place n None x = Some (Ready x ∷ [])
facts_of_place n (Some f) x = option_map (λ j. Ready x ∷ Full x ∷ Filled j ∷ []) (field_place n.fields x f)

-- that of a put, if it frees a pointing expression
abbrev pub facts_of_put : Names → Put → Option (List Fact)
facts_of_put n q = option_and_then (facts_of_place n q.field) (place_of n q.var)

-- whether all of it is noted at a node
abbrev pub is_free_there : Names → Path → Put → ℕ → Bool
is_free_there n p q v = has (λ (fs : List Fact). list_all (holds_at n p v) fs) (facts_of_put n q)

-- a put is allowed where all of it is noted at every node of its gap, so in each context
abbrev pub is_allowed_put : Graph → Names → Path → Put → Bool
is_allowed_put g n p q = list_all (λ v. not (is_gap_at g q.gap v) || is_free_there n p q v) (range_with_len 0 (length g.nodes))

abbrev pub is_allowed : Graph → Names → Path → ℕ → Bool
is_allowed g n p k = has (is_allowed_put g n p) (slice_get n.puts k)

-- covers

-- the put of place k is chosen
abbrev pub IsChosen : Names → Choice → ℕ → Type 0
IsChosen n s k = (q : Put) × Contains s.puts q × (slice_get n.puts k ≡ Some q)

-- some triple has it among its candidates
abbrev pub IsHeld : Derived → ℕ → Type 0
IsHeld d k = (t : Triple) × Contains d.triples t × (has_number t.puts.items k ≡ true)

-- a choice covers, where these puts are allowed and these are the candidates of triples at exits: each of its puts is one of those
-- named, allowed, not forbidden and held by some triple, no pair lies in it, each triple holds at most one of it, and each at an
-- exit holds one
pub record Covers (allows : ℕ → Bool) (AtEnd : Numbers → Type 0) (n : Names) (d : Derived) (s : Choice) : Type 0 where
  pub named : (q : Put) → Contains s.puts q → Contains n.puts q
  pub allowed : (k : ℕ) → IsChosen n s k → allows k ≡ true
  pub unforbidden : (k : ℕ) → IsChosen n s k → has_number d.forbidden.items k ≡ false
  pub held : (k : ℕ) → IsChosen n s k → IsHeld d k
  pub apart : (j k : ℕ) → Contains d.pairs (j, k) → IsChosen n s j → IsChosen n s k → ⊥
  pub at_most_one : (t : Triple) → Contains d.triples t → (j k : ℕ) → has_number t.puts.items j ≡ true → has_number t.puts.items k ≡ true → IsChosen n s j → IsChosen n s k → j ≡ k
  pub one_at_exits : (c : Numbers) → AtEnd c → (k : ℕ) × IsChosen n s k × (has_number c.items k ≡ true)

-- the candidates of a triple at an exit
abbrev pub AtExit : Graph → Derived → Numbers → Type 0
AtExit g d c = (t : Triple) × Contains d.triples t × (is_exit_at g t.node ≡ true) × (t.puts ≡ c)

-- a choice is a cover of what was derived
abbrev pub IsCover : Graph → Names → Path → Derived → Choice → Type 0
IsCover g n p d s = Covers (is_allowed g n p) (AtExit g d) n d s
