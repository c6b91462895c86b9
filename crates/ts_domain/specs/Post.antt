-- What becomes of a mark over an edge: its reads in turn, what its test says, its writes.
use Rattle.std.specs.Prelude.{ℕ, ◌+◌, ◌==◌, ◌&&◌, ◌||◌, nat_lt, Bool, true, false, not, List, [], ◌∷◌, ◌++◌, fold, length, map, option_map, slice_get, Option, None, Some, if◌then◌else◌}
use Rattle.std.specs.List.{list_any, range_with_len}
use Rattle.c_tree.specs.Typing.{has}
use Rattle.c_graph.specs.declared.graph.Edge.{Edge}
use Rattle.c_graph.specs.declared.graph.Graph.{Graph}
use Rattle.c_graph.specs.declared.graph.Node.{Node}
use Rattle.c_graph.specs.declared.graph.NodeKind.{NodeKind}
use Rattle.c_graph.specs.declared.graph.NodeKind.TheVariants as kind
use Rattle.c_graph.specs.declared.graph.Way.{Way}
use Rattle.c_graph.specs.declared.graph.Way.TheVariants as way
use Rattle.mf_set.specs.Numbers.{has as has_number}
use Rattle.ts_domain.specs.declared.deed.Deed.{Deed}
use Rattle.ts_domain.specs.declared.deed.Deed.TheVariants.{Reads, Follows, Says, Sets, SetsField}
use Rattle.ts_domain.specs.declared.deed.Saying.{Saying}
use Rattle.ts_domain.specs.declared.deed.Saying.TheVariants.{IsNull, IsntNull, AreEqual, Differ}
use Rattle.ts_domain.specs.declared.entry.Entry.{Entry}
use Rattle.ts_domain.specs.declared.facts.Facts.{Facts}
use Rattle.ts_domain.specs.declared.marks.Mark.{Mark}
use Rattle.ts_domain.specs.declared.marks.Step.{Step}
use Rattle.ts_domain.specs.declared.marks.Verdict.{Verdict}
use Rattle.ts_domain.specs.declared.marks.Verdict.TheVariants.{Yes, No, Open}
use Rattle.ts_domain.specs.declared.names.Names.{Names}
use Rattle.ts_domain.specs.declared.names.Read.{Read}
use Rattle.ts_domain.specs.Deeds.{edge_deeds, site_of}
use Rattle.ts_domain.specs.Looks.{is_noted, is_noted_read}
use Rattle.ts_domain.specs.Marks.{Knowledge, expressions, field_at, is_yes, only_if, splits, step}
use Rattle.ts_domain.specs.MarkWrites.{birth, looked_verdict, settled, written_mark}
use Rattle.ts_domain.specs.SameEntries.{same_entry}

-- entries

abbrev pub entry : Mark → Bool → List ℕ → Entry
entry m touched notes = record { mark = m; touched = touched; notes = record { places = notes } }

-- lists without repeats: an entry that stands there already is left out
abbrev pub with_entry : List Entry → Entry → List Entry
with_entry xs x = if list_any (same_entry x) xs then xs else xs ++ x ∷ []

abbrev pub with_entries : List Entry → List Entry → List Entry
with_entries xs ys = fold with_entry xs ys

-- reads

-- a noted read that met the object is noted by its place among the noted reads
abbrev pub notes_with : List ℕ → ℕ → Bool → List ℕ
notes_with notes at true = notes ++ at ∷ []
notes_with notes at false = notes

-- an entry behind a read that came out so
abbrev pub read_entry : Read → Bool → ℕ → Entry → Step → Entry
read_entry r noted at x s = entry s.mark (x.touched || s.touched) (notes_with x.notes.places at (is_noted_read r noted && s.touched))

abbrev pub read_entries : Knowledge → Read → Bool → ℕ → Entry → List Entry
read_entries k r noted at x = map (read_entry r noted at x) (splits k x.mark r)

-- tests

-- whether an expression is a field of a variable and surely points to the object
abbrev pub is_held_field : Names → Mark → ℕ → ℕ → Bool
is_held_field n m x e = has (λ (p : ℕ × ℕ). p.0 == x && has_number m.holds.items e) (field_at n e)

-- whether some field of a variable does
abbrev pub holds_beneath : Names → Mark → ℕ → Bool
holds_beneath n m x = list_any (is_held_field n m x) (range_with_len 0 (expressions n))

-- one is yes and the other no
abbrev pub are_opposed : Verdict → Verdict → Bool
are_opposed Yes No = true
are_opposed No Yes = true
are_opposed Yes Yes = false
are_opposed Yes Open = false
are_opposed No No = false
are_opposed No Open = false
are_opposed Open w = false

-- whether a test excludes that an entry's object is there: a null pointer and its fields point to none, equal pointers
-- point to the same, and different ones don't both point to it
abbrev pub excludes : Names → Entry → Saying → Bool
excludes n x (IsNull e) = has_number x.mark.holds.items e || holds_beneath n x.mark e
excludes n x (IsntNull e) = false
excludes n x (AreEqual l r) = are_opposed (looked_verdict x.mark x.notes.places l) (looked_verdict x.mark x.notes.places r)
excludes n x (Differ l r) = is_yes (looked_verdict x.mark x.notes.places l) && is_yes (looked_verdict x.mark x.notes.places r)

-- deeds

-- an entry behind a write
abbrev pub written_entry : Knowledge → Deed → Entry → Entry
written_entry k d x = record x { mark = written_mark k No x.notes.places d x.mark }

-- an entry behind a deed, where so many noted reads came before
abbrev pub deed_entries : Knowledge → Deed → ℕ → Entry → List Entry
deed_entries k (Reads r noted) at x = read_entries k r noted at x
deed_entries k (Follows y) at x = x ∷ []
deed_entries k (Says s) at x = only_if (not (excludes k.names x s)) x
deed_entries k (Sets y v) at x = written_entry k (Sets y v) x ∷ []
deed_entries k (SetsField b c f v) at x = written_entry k (SetsField b c f v) x ∷ []

-- all entries behind it
abbrev pub turn : Knowledge → Deed → ℕ → List Entry → List Entry
turn k d at xs = fold (λ ys x. with_entries ys (deed_entries k d at x)) [] xs

-- the noted reads so far
abbrev pub counted : Deed → ℕ → ℕ
counted d at = if is_noted d then at + 1 else at

abbrev pub turns : Knowledge → List Deed → ℕ → List Entry → List Entry
turns k [] at xs = xs
turns k (d ∷ ds) at xs = turns k ds (counted d at) (turn k d at xs)

-- whether there are too many entries behind some read
abbrev pub is_read : Deed → Bool
is_read (Reads r noted) = true
is_read (Follows y) = false
is_read (Says s) = false
is_read (Sets y v) = false
is_read (SetsField b c f v) = false

abbrev pub too_many : Deed → List Entry → Bool
too_many d xs = is_read d && nat_lt 4096 (length xs)

abbrev pub is_wide : Knowledge → List Deed → ℕ → List Entry → Bool
is_wide k [] at xs = false
is_wide k (d ∷ ds) at xs = too_many d (turn k d at xs) || is_wide k ds (counted d at) (turn k d at xs)

-- posts

abbrev pub first_entry : Mark → Entry
first_entry m = entry m false []

-- last, an entry without its notes
abbrev pub last_entry : Knowledge → Entry → Entry
last_entry k x = entry (settled k x.mark) x.touched []

abbrev pub last_entries : Knowledge → List Entry → List Entry
last_entries k xs = fold (λ ys x. with_entry ys (last_entry k x)) [] xs

abbrev pub step_of : Entry → Step
step_of x = step x.mark x.touched

abbrev pub deeds_post : Knowledge → List Deed → Mark → List Step
deeds_post k ds m = map step_of (last_entries k (turns k ds 0 (first_entry m ∷ [])))

-- edges

abbrev pub is_gap : NodeKind → Bool
is_gap (kind.Gap number frees) = true
is_gap (kind.Act a) = false
is_gap (kind.Exit offset) = false

-- whether an edge leads on from a gap
abbrev pub leaves_gap : Graph → Edge → Bool
leaves_gap g e = has (λ (v : Node). is_gap v.kind) (slice_get g.nodes e.from)

abbrev pub at_edge : Names → Graph → Facts → Edge → Knowledge
at_edge n g f e = record { names = n; graph = g; facts = f; node = e.from }

-- the marks behind an edge; a gap's edge changes nothing
abbrev pub post : Names → Graph → Facts → Edge → Mark → List Step
post n g f e m = if leaves_gap g e then step m false ∷ [] else deeds_post (at_edge n g f e) (edge_deeds n g e) m

-- an edge that is wide for a mark
abbrev pub is_wide_edge : Names → Graph → Facts → Edge → Mark → Bool
is_wide_edge n g f e m = not (leaves_gap g e) && is_wide (at_edge n g f e) (edge_deeds n g e) 0 (first_entry m ∷ [])

-- the site of the object that an edge makes
abbrev pub made_site : Option ℕ → Way → Option ℕ
made_site s way.Made = s
made_site s way.On = None
made_site s way.True = None
made_site s way.False = None
made_site s way.NotMade = None
made_site s way.Enter = None
made_site s (way.Leave target) = None

-- the mark of that object behind the edge
abbrev pub born : Names → Graph → Facts → Edge → Option Mark
born n g f e = option_map (birth (at_edge n g f e) (edge_deeds n g e)) (made_site (site_of n e.from) e.way)
