-- Laws of sets of sites.
use Rattle.std.proofs.Common.{◌≡◌, ℕ, false, List, [], ◌∷◌, refl}
use Rattle.ts_domain.specs.Marks.{meets}

pub meets_none : (ts : List ℕ) → meets ts [] ≡ false
meets_none [] = refl
meets_none (t ∷ ts) = meets_none ts
