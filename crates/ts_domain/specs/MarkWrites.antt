-- What writes make of a mark (rules on writes), and what a new object's mark is.
use Rattle.std.specs.Prelude.{ℕ, ◌+◌, ◌==◌, ◌&&◌, nat_lt, Bool, true, false, List, [], ◌∷◌, length, slice_get, Option, None, Some, if◌then◌else◌}
use Rattle.std.specs.Option.{option_and_then}
use Rattle.c_tree.specs.Typing.{has}
use Rattle.c_tree.specs.declared.program.Ty.{Ty}
use Rattle.c_tree.specs.declared.program.Ty.TheVariants as ty
use Rattle.mf_set.specs.Numbers.{has as has_number}
use Rattle.ts_domain.specs.declared.changes.Change.{Change}
use Rattle.ts_domain.specs.declared.changes.Change.TheVariants as change
use Rattle.ts_domain.specs.declared.deed.Deed.{Deed}
use Rattle.ts_domain.specs.declared.deed.Deed.TheVariants.{Reads, Follows, Says, Sets, SetsField}
use Rattle.ts_domain.specs.declared.deed.Looked.{Looked}
use Rattle.ts_domain.specs.declared.deed.Looked.TheVariants as looked
use Rattle.ts_domain.specs.declared.deed.Source.{Source}
use Rattle.ts_domain.specs.declared.deed.Source.TheVariants.{Content, Null, New, Undef}
use Rattle.ts_domain.specs.declared.marks.Alias.{Alias}
use Rattle.ts_domain.specs.declared.marks.Alias.TheVariants.{Same, Diff, Maybe}
use Rattle.ts_domain.specs.declared.marks.Mark.{Mark}
use Rattle.ts_domain.specs.declared.marks.Verdict.{Verdict}
use Rattle.ts_domain.specs.declared.marks.Verdict.TheVariants.{Yes, No, Open}
use Rattle.ts_domain.specs.declared.names.Names.{Names}
use Rattle.ts_domain.specs.declared.names.Read.{Read}
use Rattle.ts_domain.specs.declared.names.Read.TheVariants as read
use Rattle.ts_domain.specs.Aliases.{base_alias}
use Rattle.ts_domain.specs.Marks.{Knowledge, expressions, field_at, flows, marked, told, verdict}
use Rattle.ts_domain.specs.Pointers.{field_place, type_of}

-- what is written

-- the verdict on what was looked at; a noted read through a longer chain met the object or didn't
abbrev pub looked_verdict : Mark → List ℕ → Looked → Verdict
looked_verdict m notes (looked.Name e) = verdict m e
looked_verdict m notes (looked.Deep c f at) = if has_number notes at then Yes else No

-- the verdict on what a write takes, by the one on an object that the edge makes
abbrev pub source_verdict : Verdict → Mark → List ℕ → Source → Verdict
source_verdict fresh m notes (Content l) = looked_verdict m notes l
source_verdict fresh m notes Null = No
source_verdict fresh m notes (New t) = fresh
source_verdict fresh m notes Undef = No

-- a write to a variable

-- the verdict on a field of a variable, if it has it
abbrev pub field_verdict : Names → Mark → Option ℕ → Verdict
field_verdict n m None = Open
field_verdict n m (Some j) = verdict m (length n.vars + j)

-- the verdict on field f of what was looked at: a variable's fields are expressions, those behind a field are not
abbrev pub beneath_looked : Names → Mark → Looked → ℕ → Verdict
beneath_looked n m (looked.Name y) f = if nat_lt y (length n.vars) then field_verdict n m (field_place n.fields y f) else Open
beneath_looked n m (looked.Deep c g at) f = Open

-- the verdict on field f of what a variable gets
abbrev pub beneath_source : Names → Mark → Source → ℕ → Verdict
beneath_source n m (Content l) f = beneath_looked n m l f
beneath_source n m Null f = No
beneath_source n m (New t) f = No
beneath_source n m Undef f = No

-- an expression that is a field of x, or another
abbrev pub set_beneath : Names → Mark → ℕ → Source → ℕ → Option (ℕ × ℕ) → Verdict
set_beneath n m x v e None = verdict m e
set_beneath n m x v e (Some p) = if p.0 == x then beneath_source n m v p.1 else verdict m e

-- x gets a value with verdict u
abbrev pub set_verdict : Names → Mark → ℕ → Source → Verdict → ℕ → Verdict
set_verdict n m x v u e = if e == x then u else set_beneath n m x v e (field_at n e)

-- `x = x` changes nothing
abbrev pub is_looked : ℕ → Looked → Bool
is_looked x (looked.Name y) = x == y
is_looked x (looked.Deep c f at) = false

abbrev pub is_itself : ℕ → Source → Bool
is_itself x (Content l) = is_looked x l
is_itself x Null = false
is_itself x (New t) = false
is_itself x Undef = false

abbrev pub set_mark : Names → Mark → ℕ → Source → Verdict → Mark
set_mark n m x v u = if is_itself x v then m else marked (expressions n) m.site (set_verdict n m x v u)

-- a write to a field

-- whether a variable points to a struct
abbrev pub is_pointer_to : ℕ → Ty → Bool
is_pointer_to c ty.Int = false
is_pointer_to c ty.IntPtr = false
is_pointer_to c (ty.StructPtr d) = d == c

abbrev pub points_to : Names → ℕ → ℕ → Bool
points_to n c z = has (is_pointer_to c) (option_and_then (type_of n) (slice_get n.vars z))

-- two verdicts where they agree
abbrev pub agreed : Verdict → Verdict → Verdict
agreed Yes Yes = Yes
agreed No No = No
agreed Yes No = Open
agreed No Yes = Open
agreed Open w = Open
agreed Yes Open = Open
agreed No Open = Open

-- the field of a base gets u: that of a variable which may be the base had w
abbrev pub by_alias : Alias → Verdict → Verdict → Verdict
by_alias Same u w = u
by_alias Diff u w = w
by_alias Maybe u w = agreed u w

-- an expression that is field f of a variable that points to struct c, or another
abbrev pub put_beneath : Knowledge → Mark → Read → ℕ → ℕ → Verdict → ℕ → Option (ℕ × ℕ) → Verdict
put_beneath k m b c f u e None = verdict m e
put_beneath k m b c f u e (Some p) = if p.1 == f && points_to k.names c p.0 then by_alias (base_alias k m p.0 b) u (verdict m e) else verdict m e

abbrev pub put_verdict : Knowledge → Mark → Read → ℕ → ℕ → Verdict → ℕ → Verdict
put_verdict k m b c f u e = put_beneath k m b c f u e (field_at k.names e)

abbrev pub put_mark : Knowledge → Mark → Read → ℕ → ℕ → Verdict → Mark
put_mark k m b c f u = marked (expressions k.names) m.site (put_verdict k m b c f u)

-- deeds

-- a deed, if it writes
abbrev pub written_mark : Knowledge → Verdict → List ℕ → Deed → Mark → Mark
written_mark k fresh notes (Reads r noted) m = m
written_mark k fresh notes (Follows x) m = m
written_mark k fresh notes (Says s) m = m
written_mark k fresh notes (Sets x v) m = set_mark k.names m x v (source_verdict fresh m notes v)
written_mark k fresh notes (SetsField b c f v) m = put_mark k m b c f (source_verdict fresh m notes v)

-- last, what is undecided though the site doesn't flow there
abbrev pub settled_by : Verdict → Bool → Verdict
settled_by Yes flows = Yes
settled_by No flows = No
settled_by Open true = Open
settled_by Open false = No

abbrev pub settled_verdict : Knowledge → Mark → ℕ → Verdict
settled_verdict k m e = settled_by (verdict m e) (flows k m.site (read.Name e))

abbrev pub settled : Knowledge → Mark → Mark
settled k m = marked (expressions k.names) m.site (settled_verdict k m)

-- all changes of verdicts, by the expression
abbrev pub changed : Knowledge → Mark → Change → ℕ → Verdict
changed k m (change.Tell e u) d = told m e u d
changed k m (change.Set x v u) d = set_verdict k.names m x v u d
changed k m (change.Put b c f u) d = put_verdict k m b c f u d
changed k m change.Settle d = settled_verdict k m d
changed k m change.Clear d = No

-- a mark with these changes
abbrev pub redrawn : Knowledge → Mark → Change → Mark
redrawn k m c = marked (expressions k.names) m.site (changed k m c)

-- births

-- the writes of deeds, where the edge makes the object itself
abbrev pub birth_writes : Knowledge → List Deed → Mark → Mark
birth_writes k [] m = m
birth_writes k (d ∷ ds) m = birth_writes k ds (written_mark k Yes [] d m)

-- nothing points to an object before it is made
abbrev pub unborn : Knowledge → ℕ → Mark
unborn k site = marked (expressions k.names) site (λ e. No)

abbrev pub birth : Knowledge → List Deed → ℕ → Mark
birth k ds site = settled k (birth_writes k ds (unborn k site))
