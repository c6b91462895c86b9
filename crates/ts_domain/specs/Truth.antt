-- What facts say of the contents of a machine.
use Rattle.std.specs.Prelude.{◌≡◌, ℕ, slice_get, Some}
use Rattle.c_meaning.specs.declared.value.Value.TheVariants as value
use Rattle.ts_domain.specs.declared.fact.Fact.{Fact}
use Rattle.ts_domain.specs.declared.fact.Fact.TheVariants.{Ready, Full, Filled, Equal, Apart}
use Rattle.ts_domain.specs.declared.names.Names.{Names}
use Rattle.ts_domain.specs.declared.before.Before.{Before}
use Rattle.ts_domain.specs.declared.before.Before.TheVariants.{Always, Never, Where}
use Rattle.ts_domain.specs.Views.{View}

-- a fact is true of a view
abbrev pub IsTrueOf : Names → View → Fact → Type 0
IsTrueOf n v (Ready x) = v.slot x ≡ value.Undef → ⊥
IsTrueOf n v (Full x) = (o : ℕ) × (v.slot x ≡ value.Ptr o)
IsTrueOf n v (Filled j) = (q : ℕ × ℕ) (o : ℕ) → slice_get n.fields j ≡ Some q → v.slot q.0 ≡ value.Ptr o → v.cell o q.1 ≡ value.Undef → ⊥
IsTrueOf n v (Equal x y) = v.slot x ≡ v.slot y
IsTrueOf n v (Apart x y) = (o : ℕ) → v.slot x ≡ value.Ptr o → v.slot y ≡ value.Ptr o → ⊥

-- what has to hold before is true of a view
abbrev pub IsTrueBefore : Names → View → Before → Type 0
IsTrueBefore n v Always = Unit {0}
IsTrueBefore n v Never = ⊥
IsTrueBefore n v (Where f) = IsTrueOf n v f
