-- Whether two variables hold the same object where a mark's object is.
use Rattle.std.specs.Prelude.{ℕ, ◌==◌, ◌&&◌, ◌||◌, nat_lt, Bool, true, false, not, length, if◌then◌else◌}
use Rattle.mf_set.specs.Numbers.{has as has_number}
use Rattle.ts_domain.specs.declared.fact.Fact.{Fact}
use Rattle.ts_domain.specs.declared.fact.Fact.TheVariants.{Equal, Apart}
use Rattle.ts_domain.specs.declared.facts.Facts.{Facts}
use Rattle.ts_domain.specs.declared.facts.Path.{Path}
use Rattle.ts_domain.specs.declared.marks.Alias.{Alias}
use Rattle.ts_domain.specs.declared.marks.Alias.TheVariants.{Same, Diff, Maybe}
use Rattle.ts_domain.specs.declared.marks.Mark.{Mark}
use Rattle.ts_domain.specs.declared.names.Names.{Names}
use Rattle.ts_domain.specs.declared.names.Read.{Read}
use Rattle.ts_domain.specs.declared.names.Read.TheVariants as read
use Rattle.ts_domain.specs.Marks.{Knowledge, meets, shares, sites_to}
use Rattle.ts_domain.specs.Path.{holds_at}

-- whether a fact of two variables, the lesser first, stands at a node
abbrev pub stands : Names → Facts → ℕ → (ℕ → ℕ → Fact) → ℕ → ℕ → Bool
stands n k v about z x = holds_at n k.path v (if nat_lt z x then about z x else about x z)

-- one of them surely points to the object, and the other surely doesn't
abbrev pub is_split : Mark → ℕ → ℕ → Bool
is_split m z x = has_number m.holds.items z && has_number m.lacks.items x || has_number m.lacks.items z && has_number m.holds.items x

-- they are one, or they are equal, or both point to the object
abbrev pub are_same : Names → Facts → ℕ → Mark → ℕ → ℕ → Bool
are_same n k v m z x = z == x || stands n k v Equal z x || has_number m.holds.items z && has_number m.holds.items x

-- they are apart, or one points to the object alone, or no site flows to both
abbrev pub are_apart : Names → Facts → ℕ → Mark → ℕ → ℕ → Bool
are_apart n k v m z x = stands n k v Apart z x || is_split m z x || not (meets (sites_to k.may z) (sites_to k.may x))

abbrev pub alias : Names → Facts → ℕ → Mark → ℕ → ℕ → Alias
alias n k v m z x = if are_same n k v m z x then Same else if are_apart n k v m z x then Diff else Maybe

-- a variable and what a longer chain leads to
abbrev pub chain_alias : Knowledge → ℕ → Read → Alias
chain_alias k z r = if shares k z r then Maybe else Diff

-- a variable and the base of a write to a field; a field as a base is a longer chain
abbrev pub base_alias : Knowledge → Mark → ℕ → Read → Alias
base_alias k m z (read.Name x) = if nat_lt x (length k.names.vars) then alias k.names k.facts k.node m z x else chain_alias k z (read.Name x)
base_alias k m z (read.Deep c f) = chain_alias k z (read.Deep c f)
