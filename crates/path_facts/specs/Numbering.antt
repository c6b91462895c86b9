-- The numbers of facts as the code finds them, and sets of facts by their numbers.
use Rattle.std.specs.Prelude.{◌≡◌, ℕ, ◌+◌, ◌^◌, ◌<◌, Bool, true, false, List, length, slice_get, Some, if◌then◌else◌}
use Rattle.mf_set.specs.Numbers.{Numbers, has as has_number, with_number, without_number}
use Rattle.ts_domain.specs.declared.fact.Fact.{Fact}
use Rattle.ts_domain.specs.declared.before.Before.{Before}
use Rattle.ts_domain.specs.declared.before.Before.TheVariants.{Always, Never, Where}
use Rattle.ts_domain.specs.declared.names.Names.{Names}
use Rattle.ts_domain.specs.Facts.{fact_count, is_fact, number_of, pair_count, pairs_below}
use Rattle.path_facts.specs.declared.numbering.Numbering.{Numbering}

-- the table has the number of pairs before those of each of the first variables
pub record ArePairs (n upto : ℕ) (xs : List ℕ) : Type 0 where
  pub long : length xs ≡ upto
  pub each : (x : ℕ) → x < upto → slice_get xs x ≡ Some (pairs_below n x)

-- where the kinds of facts begin, and how many facts there are
pub record AreNumbers (m : Numbering) : Type 0 where
  pub filled : m.filled ≡ m.vars + m.vars
  pub equal : m.equal ≡ m.vars + m.vars + m.fields
  pub apart : m.apart ≡ m.vars + m.vars + m.fields + pair_count m.vars
  pub count : m.count ≡ fact_count m.vars m.fields
  pub fits : m.count < 2 ^ 64
  pub pairs : ArePairs m.vars m.vars m.pairs

-- the numbers of the facts of names
pub record IsNumbering (n : Names) (m : Numbering) : Type 0 where
  pub vars : m.vars ≡ length n.vars
  pub fields : m.fields ≡ length n.fields
  pub numbers : AreNumbers m

abbrev pub room_of : Names → ℕ
room_of n = fact_count (length n.vars) (length n.fields)

-- whether a set has a fact
abbrev pub holds : Names → Numbers → Fact → Bool
holds n s f = has_number s.items (number_of n f)

-- what a set says of what has to hold before
abbrev pub holds_before : Names → Numbers → Before → Bool
holds_before n s Always = true
holds_before n s Never = false
holds_before n s (Where f) = holds n s f

-- what has to hold before is a fact that exists, if it is one
abbrev pub is_known : Names → Before → Bool
is_known n Always = true
is_known n Never = true
is_known n (Where f) = is_fact n f

-- a number is put into a set, or taken out
abbrev pub put : ℕ → Bool → Numbers → Numbers
put k b s = record s { items = if b then with_number s.items k else without_number s.items k }
