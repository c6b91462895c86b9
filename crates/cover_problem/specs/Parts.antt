-- The parts of a problem, as they are computed.
use Rattle.std.specs.Prelude.{◌≡◌, ℕ, ◌+◌, ◌&&◌, Bool, true, false, nat_lt, List, [], ◌∷◌, ◌++◌, length, slice_get, option_map, Option, None, Some}
use Rattle.std.specs.List.{flat_map, list_all}
use Rattle.std.specs.Option.{option_and_then}
use Rattle.c_tree.specs.Typing.{has}
use Rattle.c_tree.specs.declared.choice.Put.{Put}
use Rattle.c_graph.specs.declared.graph.Graph.{Graph}
use Rattle.c_graph.specs.declared.graph.NodeKind.{NodeKind}
use Rattle.c_graph.specs.declared.graph.NodeKind.TheVariants as kind
use Rattle.mf_set.specs.Numbers.{Numbers, has as has_number}
use Rattle.ts_domain.specs.declared.facts.Path.{Path}
use Rattle.ts_domain.specs.declared.names.Names.{Names}
use Rattle.ts_domain.specs.declared.triples.Triple.{Triple}
use Rattle.ts_domain.specs.Cover.{is_allowed, is_exit_at}
use Rattle.ts_domain.specs.Pointers.{place_of, field_place}
use Rattle.ts_domain.specs.Rows.{row}
use Rattle.cover_problem.specs.declared.allowed.Needs.{Needs}
use Rattle.cover_problem.specs.declared.allowed.Needs.TheVariants.{Variable, Field}

-- allowed puts

-- the numbers of the facts that a free asks for, by the place of its variable
abbrev pub needs_at : Names → Option ℕ → ℕ → Option Needs
needs_at n None x = Some (Variable x)
needs_at n (Some f) x = option_map (λ j. Field x (length n.vars + x) (length n.vars + length n.vars + j)) (field_place n.fields x f)

abbrev pub needs_of : Names → Put → Option Needs
needs_of n q = option_and_then (needs_at n q.field) (place_of n q.var)

-- whether the fact of a number is noted at a node
abbrev pub is_noted : Path → ℕ → ℕ → Bool
is_noted p v number = has (λ (s : Numbers). has_number s.items number) (slice_get p.at v)

abbrev pub are_noted : Path → ℕ → Needs → Bool
are_noted p v (Variable ready) = is_noted p v ready
are_noted p v (Field ready full filled) = is_noted p v ready && (is_noted p v full && is_noted p v filled)

-- whether those are that a free asks for, if it frees a pointing expression
abbrev pub are_noted_at : Path → Option Needs → ℕ → Bool
are_noted_at p None v = false
are_noted_at p (Some needs) v = are_noted p v needs

-- whether they are at all nodes of the put's gap
abbrev pub is_allowed_by : Names → Path → List (List ℕ) → Put → Bool
is_allowed_by n p nodes q = list_all (are_noted_at p (needs_of n q)) (row nodes q.gap)

-- a set of those of the first puts for which they are
pub record AreAllowedBy (n : Names) (p : Path) (nodes : List (List ℕ)) (count : ℕ) (s : Numbers) : Type 0 where
  pub room : s.room ≡ length n.puts
  pub members : (k : ℕ) → has_number s.items k ≡ (nat_lt k count && has (is_allowed_by n p nodes) (slice_get n.puts k))

-- the set of the allowed puts
pub record AreAllowed (g : Graph) (n : Names) (p : Path) (s : Numbers) : Type 0 where
  pub room : s.room ≡ length n.puts
  pub members : (k : ℕ) → has_number s.items k ≡ is_allowed g n p k

-- the number of the gap that stands at a node
abbrev pub gap_of : NodeKind → Option ℕ
gap_of (kind.Gap number frees) = Some number
gap_of (kind.Act action) = None
gap_of (kind.Exit offset) = None

-- exits

-- a triple's site, node and candidates, if it is at an exit
abbrev pub exit_if : Bool → Triple → List (ℕ × ℕ × Numbers)
exit_if true t = (t.mark.site, t.node, t.puts) ∷ []
exit_if false t = []

abbrev pub exits_of : Graph → List Triple → List (ℕ × ℕ × Numbers)
exits_of g ts = flat_map (λ (t : Triple). exit_if (is_exit_at g t.node) t) ts
