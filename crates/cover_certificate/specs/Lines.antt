-- The lines of marks: their order, and those of triples in order and without repeats, as they are computed.
use Rattle.std.specs.Prelude.{◌≡◌, ℕ, Bool, List, length, map, IsPermutation, IsSorted}
use Rattle.std.specs.Cmp.Lexicographic.{slice_cmp}
use Rattle.std.specs.List.{dedup}
use Rattle.std.specs.Option.{is_some}
use Rattle.std.specs.Ordering.{bool_cmp, is_eq, nat_cmp, ordering_then}
use Rattle.std.specs.declared.cmp.Ordering.{Ordering}
use Rattle.c_tree.specs.declared.choice.Choice.{Choice}
use Rattle.mf_set.specs.Numbers.{first_common}
use Rattle.ts_domain.specs.declared.names.Names.{Names}
use Rattle.ts_domain.specs.declared.triples.Triple.{Triple}
use Rattle.ts_domain.specs.Chosen.{is_chosen}
use Rattle.ts_domain.specs.Marks.{expressions, passing}
use Rattle.cover_certificate.specs.declared.lines.Line.{Line}
use Rattle.cover_certificate.specs.declared.types.CertMark.{CertMark}
use Rattle.cover_certificate.specs.Regular.{is_open}

-- by what is undecided, and then by the bit
abbrev pub open_cmp : Line → Line → Ordering
open_cmp x y = ordering_then (slice_cmp nat_cmp x.undecided.items y.undecided.items) (bool_cmp x.mark.freed y.mark.freed)

-- before that by what surely points to the object
abbrev pub held_cmp : Line → Line → Ordering
held_cmp x y = ordering_then (slice_cmp nat_cmp x.mark.mark.holds.items y.mark.mark.holds.items) (open_cmp x y)

-- before that by site
abbrev pub site_cmp : Line → Line → Ordering
site_cmp x y = ordering_then (nat_cmp x.mark.mark.site y.mark.mark.site) (held_cmp x y)

-- and first by node
abbrev pub line_cmp : Line → Line → Ordering
line_cmp x y = ordering_then (nat_cmp x.mark.node y.mark.node) (site_cmp x y)

abbrev pub is_same : Line → Line → Bool
is_same x y = is_eq (line_cmp x y)

-- the line of a mark
abbrev pub line : Names → CertMark → Line
line n m = record { mark = m; undecided = passing (expressions n) (expressions n) (is_open m.mark) }

-- that of a triple, by the places of the chosen puts
abbrev pub line_by : Names → List ℕ → Triple → Line
line_by n places t = line n (record { node = t.node; mark = t.mark; freed = is_some (first_common t.puts.items places) })

-- the places of the chosen puts
abbrev pub chosen_places : Names → Choice → List ℕ
chosen_places n s = (passing (length n.puts) (length n.puts) (is_chosen n s)).items

-- marks are those of the lines of triples, in order and without repeats
pub record AreLines (n : Names) (s : Choice) (ts : List Triple) (ms : List CertMark) : Type 0 where
  pub lines : List Line
  pub permutation : IsPermutation (map (line_by n (chosen_places n s)) ts) lines
  pub sorted : IsSorted line_cmp lines
  pub are : ms ≡ map (λ (x : Line). x.mark) (dedup is_same lines)
