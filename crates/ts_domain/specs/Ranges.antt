-- What deeds write is in range.
use Rattle.std.specs.Prelude.{◌≡◌, ℕ, ◌<◌, true, length}
use Rattle.c_tree.specs.Typing.{has}
use Rattle.ts_domain.specs.declared.deed.Deed.{Deed}
use Rattle.ts_domain.specs.declared.deed.Deed.TheVariants.{Reads, Follows, Says, Sets, SetsField}
use Rattle.ts_domain.specs.declared.deed.Source.{Source}
use Rattle.ts_domain.specs.declared.deed.Source.TheVariants.{Content, Null, New, Undef}
use Rattle.ts_domain.specs.declared.names.Names.{Names}
use Rattle.ts_domain.specs.Pointers.{field_type, is_pointer}

-- a site that is made is one of so many
abbrev pub SourceFits : ℕ → Source → Type 0
SourceFits count (New t) = t < count
SourceFits count (Content l) = Unit {0}
SourceFits count Null = Unit {0}
SourceFits count Undef = Unit {0}

-- what a deed writes is a pointer variable or a pointer field, and an object that it takes is of one of the sites
abbrev pub IsInRange : Names → Deed → Type 0
IsInRange n (Reads r noted) = Unit {0}
IsInRange n (Follows k) = Unit {0}
IsInRange n (Says s) = Unit {0}
IsInRange n (Sets k v) = (k < length n.vars) × SourceFits (length n.sites) v
IsInRange n (SetsField r c f v) = (has is_pointer (field_type n c f) ≡ true) × SourceFits (length n.sites) v
