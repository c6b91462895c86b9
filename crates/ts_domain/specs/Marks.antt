-- Marks: what is known of one object, how a read decides it, and what else the sites that flow tell.
use Rattle.std.specs.Prelude.{ℕ, ◌+◌, ◌-◌, ◌==◌, ◌&&◌, nat_lt, Bool, true, false, List, [], ◌∷◌, ◌++◌, length, map, slice_get, Option, None, Some, if◌then◌else◌}
use Rattle.std.specs.List.{filter, list_any, range_with_len}
use Rattle.std.specs.Option.{is_some}
use Rattle.c_tree.specs.Typing.{has}
use Rattle.c_graph.specs.declared.graph.Graph.{Graph}
use Rattle.mf_set.specs.Numbers.{Numbers, first_common, has as has_number, with_number}
use Rattle.ts_domain.specs.declared.facts.Facts.{Facts}
use Rattle.ts_domain.specs.declared.facts.May.{May}
use Rattle.ts_domain.specs.declared.known.Known.{Known}
use Rattle.ts_domain.specs.declared.marks.Mark.{Mark}
use Rattle.ts_domain.specs.declared.marks.Step.{Step}
use Rattle.ts_domain.specs.declared.marks.Verdict.{Verdict}
use Rattle.ts_domain.specs.declared.marks.Verdict.TheVariants.{Yes, No, Open}
use Rattle.ts_domain.specs.declared.names.Names.{Names}
use Rattle.ts_domain.specs.declared.names.Read.{Read}
use Rattle.ts_domain.specs.declared.names.Read.TheVariants as read
use Rattle.ts_domain.specs.May.{flows_to, struct_of}

-- what is known where an edge begins
pub record Knowledge : Type 0 where
  pub names : Names
  pub graph : Graph
  pub facts : Facts
  pub node : ℕ

abbrev pub knowledge : Known → Knowledge
knowledge k = record { names = k.names.now; graph = k.graph.now; facts = k.facts.now; node = k.node }

-- verdicts

-- what a mark says of an expression: it surely points to the object, it surely doesn't, or it is undecided
abbrev pub verdict : Mark → ℕ → Verdict
verdict m e = if has_number m.holds.items e then Yes else if has_number m.lacks.items e then No else Open

abbrev pub is_yes : Verdict → Bool
is_yes Yes = true
is_yes No = false
is_yes Open = false

abbrev pub is_no : Verdict → Bool
is_no Yes = false
is_no No = true
is_no Open = false

-- the numbers below n that pass a test, as a set below a count
abbrev pub passing : ℕ → ℕ → (ℕ → Bool) → Numbers
passing n count test = record { items = filter test (range_with_len 0 n); room = count }

-- how many expressions there are: the variables, and behind them the fields
abbrev pub expressions : Names → ℕ
expressions n = length n.vars + length n.fields

-- the mark of an object of a site with these verdicts on the first n of so many expressions
abbrev pub marked_below : ℕ → ℕ → ℕ → (ℕ → Verdict) → Mark
marked_below n count site v = record { site = site; holds = passing n count (λ e. is_yes (v e)); lacks = passing n count (λ e. is_no (v e)) }

-- and on all of them
abbrev pub marked : ℕ → ℕ → (ℕ → Verdict) → Mark
marked count site v = marked_below count count site v

-- a mark with one verdict more
abbrev pub with_verdict : Mark → ℕ → Verdict → Mark
with_verdict m e Yes = record m { holds = record m.holds { items = with_number m.holds.items e } }
with_verdict m e No = record m { lacks = record m.lacks { items = with_number m.lacks.items e } }
with_verdict m e Open = m

-- the variable and the field of an expression, if it is a field
abbrev pub field_at : Names → ℕ → Option (ℕ × ℕ)
field_at n e = if nat_lt e (length n.vars) then None else slice_get n.fields (e - length n.vars)

-- flows

-- the numbers of a set, if there is one
abbrev pub items_of : Option Numbers → List ℕ
items_of None = []
items_of (Some x) = x.items

-- the sites that flow to a variable
abbrev pub sites_to : May → ℕ → List ℕ
sites_to m k = items_of (slice_get m.vars k)

-- an entry of the sites of fields: of field f of a site of a base, with sites that pass a test
abbrev pub is_beyond : (ℕ → Bool) → ℕ → (List ℕ → Bool) → ℕ × ℕ × Numbers → Bool
is_beyond base f test x = base x.0 && x.1 == f && test x.2.items

-- whether the sites that flow to field f of some site of a base pass a test
abbrev pub some_beyond : May → (ℕ → Bool) → ℕ → (List ℕ → Bool) → Bool
some_beyond m base f test = list_any (is_beyond base f test) m.fields

-- whether a site makes objects of a struct
abbrev pub makes_struct : Names → Graph → ℕ → ℕ → Bool
makes_struct n g c t = has (λ d. d == c) (struct_of n g t)

-- those that flow to a field of a variable
abbrev pub some_in_field : May → (List ℕ → Bool) → Option (ℕ × ℕ) → Bool
some_in_field m test None = false
some_in_field m test (Some p) = some_beyond m (flows_to m p.0) p.1 test

-- those that flow to an expression
abbrev pub some_in_name : Knowledge → (List ℕ → Bool) → ℕ → Bool
some_in_name k test e = if nat_lt e (length k.names.vars) then test (sites_to k.facts.may e) else some_in_field k.facts.may test (field_at k.names e)

-- those that flow to what a read finds
abbrev pub some_in : Knowledge → (List ℕ → Bool) → Read → Bool
some_in k test (read.Name e) = some_in_name k test e
some_in k test (read.Deep c f) = some_beyond k.facts.may (makes_struct k.names k.graph c) f test

-- whether a site flows to what a read finds
abbrev pub flows : Knowledge → ℕ → Read → Bool
flows k s r = some_in k (λ ss. has_number ss s) r

-- whether two sets of sites have one in common
abbrev pub meets : List ℕ → List ℕ → Bool
meets ts ss = is_some (first_common ts ss)

-- whether some site flows both to a variable and to what a read finds
abbrev pub shares : Knowledge → ℕ → Read → Bool
shares k z r = some_in k (meets (sites_to k.facts.may z)) r

-- reads

abbrev pub only_if : {A : Type 0} → Bool → A → List A
only_if true x = x ∷ []
only_if false x = []

-- a mark with another verdict on one expression
abbrev pub told : Mark → ℕ → Verdict → ℕ → Verdict
told m e u d = if d == e then u else verdict m d

abbrev pub decided : Knowledge → Mark → ℕ → Verdict → Mark
decided k m e u = marked (expressions k.names) m.site (told m e u)

abbrev pub step : Mark → Bool → Step
step m touched = record { mark = m; touched = touched }

-- a read of an expression: one that is undecided splits the mark, with yes first where the site flows there
abbrev pub split_by : Knowledge → Mark → ℕ → Verdict → List Step
split_by k m e Yes = step m true ∷ []
split_by k m e No = step m false ∷ []
split_by k m e Open = only_if (flows k m.site (read.Name e)) (step (decided k m e Yes) true) ++ step (decided k m e No) false ∷ []

-- a read, with whether it meets the object; one through a longer chain may meet it where the site flows there
abbrev pub splits : Knowledge → Mark → Read → List Step
splits k m (read.Name e) = split_by k m e (verdict m e)
splits k m (read.Deep c f) = only_if (flows k m.site (read.Deep c f)) (step m true) ++ step m false ∷ []

abbrev pub split : Knowledge → Mark → Read → List Mark
split k m r = map (λ (s : Step). s.mark) (splits k m r)
