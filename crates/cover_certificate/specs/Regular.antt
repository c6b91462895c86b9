-- Regular certificates: those that have a text.
use Rattle.std.specs.Prelude.{ℕ, ◌+◌, ◌-◌, ◌==◌, ◌&&◌, nat_lt, Bool, true, false, not, List, [], length, slice_get}
use Rattle.std.specs.List.{filter, list_all, range_with_len}
use Rattle.std.specs.Cmp.Lexicographic.{slice_cmp}
use Rattle.std.specs.Ordering.{nat_cmp}
use Rattle.std.specs.declared.cmp.Ordering.{Ordering}
use Rattle.std.specs.declared.cmp.Ordering.TheVariants.{Less, Equal, Greater}
use Rattle.c_tree.specs.Typing.{has}
use Rattle.c_graph.specs.declared.graph.Graph.{Graph}
use Rattle.mf_set.specs.Numbers.{Numbers, has as has_number}
use Rattle.ts_domain.specs.declared.facts.May.{May}
use Rattle.ts_domain.specs.declared.facts.Path.{Path}
use Rattle.ts_domain.specs.declared.marks.Mark.{Mark}
use Rattle.ts_domain.specs.declared.names.Names.{Names}
use Rattle.ts_domain.specs.Facts.{fact_count}
use Rattle.ts_domain.specs.Marks.{expressions, meets}
use Rattle.ts_domain.specs.May.{struct_of}
use Rattle.ts_domain.specs.Pointers.{field_type, is_pointer}
use Rattle.cover_certificate.specs.declared.types.Cert.{Cert}
use Rattle.cover_certificate.specs.declared.types.CertMark.{CertMark}

-- order

-- the elements of a list each stand before the next
abbrev pub next_after : {A : Type 0} → (A → A → Bool) → List A → ℕ → Bool
next_after before xs i = has (λ x. has (before x) (slice_get xs (i + 1))) (slice_get xs i)

abbrev pub ascends : {A : Type 0} → (A → A → Bool) → List A → Bool
ascends before xs = list_all (next_after before xs) (range_with_len 0 (length xs - 1))

-- what an order of two parts says, and where they are equal the rest
abbrev pub by_order : Ordering → Bool → Bool
by_order Less rest = true
by_order Equal rest = rest
by_order Greater rest = false

-- the clear bit comes first
abbrev pub bit_before : Bool → Bool → Bool
bit_before false b = b
bit_before true b = false

-- where sites flow

abbrev pub has_room : ℕ → Numbers → Bool
has_room room x = x.room == room

-- a set for each pointer variable
abbrev pub are_vars : Names → May → Bool
are_vars n m = length m.vars == length n.vars && list_all (has_room (length n.sites)) m.vars

-- a pointer field of the struct that a site makes
abbrev pub is_pointer_field : Names → Graph → ℕ → ℕ → Bool
is_pointer_field n g t f = has (λ s. has is_pointer (field_type n s f)) (struct_of n g t)

-- an entry of a field to which some site flows
abbrev pub is_field : Names → Graph → ℕ × ℕ × Numbers → Bool
is_field n g x = is_pointer_field n g x.0 x.1 && (has_room (length n.sites) x.2 && nat_lt 0 (length x.2.items))

-- by site, and then by field
abbrev pub field_before : ℕ × ℕ × Numbers → ℕ × ℕ × Numbers → Bool
field_before x y = by_order (nat_cmp x.0 y.0) (nat_lt x.1 y.1)

abbrev pub are_fields : Names → Graph → May → Bool
are_fields n g m = list_all (is_field n g) m.fields && ascends field_before m.fields

-- facts

-- a set for each node
abbrev pub are_facts : Names → Graph → Path → Bool
are_facts n g p = length p.at == length g.nodes && list_all (has_room (fact_count (length n.vars) (length n.fields))) p.at

-- marks

-- the expressions below a number that a mark leaves undecided
abbrev pub is_open : Mark → ℕ → Bool
is_open m e = not (has_number m.holds.items e) && not (has_number m.lacks.items e)

abbrev pub open_below : ℕ → Mark → List ℕ
open_below count m = filter (is_open m) (range_with_len 0 count)

-- a mark of a node and a site that exist, with no expression in both sets
abbrev pub is_mark : Names → Graph → CertMark → Bool
is_mark n g m =
    nat_lt m.node (length g.nodes) && (nat_lt m.mark.site (length n.sites)
    && (has_room (expressions n) m.mark.holds && (has_room (expressions n) m.mark.lacks && not (meets m.mark.holds.items m.mark.lacks.items))))

-- by node, by site, by what surely points to the object, by what is undecided, and last by the bit; lists number by number
abbrev pub open_before : ℕ → CertMark → CertMark → Bool
open_before count x y = by_order (slice_cmp nat_cmp (open_below count x.mark) (open_below count y.mark)) (bit_before x.freed y.freed)

abbrev pub held_before : ℕ → CertMark → CertMark → Bool
held_before count x y = by_order (slice_cmp nat_cmp x.mark.holds.items y.mark.holds.items) (open_before count x y)

abbrev pub mark_before : ℕ → CertMark → CertMark → Bool
mark_before count x y = by_order (nat_cmp x.node y.node) (by_order (nat_cmp x.mark.site y.mark.site) (held_before count x y))

abbrev pub are_marks : Names → Graph → List CertMark → Bool
are_marks n g ms = list_all (is_mark n g) ms && ascends (mark_before (expressions n)) ms

-- a certificate is regular: its sets have the rooms of their counts, its lists are in order without repeats, and all of its
-- numbers exist (those of a set are below its room)
abbrev pub is_regular : Names → Graph → Cert → Bool
is_regular n g c = are_vars n c.may && (are_fields n g c.may && (are_facts n g c.path && are_marks n g c.marks))
