-- What puts free as it is looked up, and how sets and lists grow at a gap.
use Rattle.std.specs.Prelude.{◌≡◌, ℕ, ◌<◌, ◌&&◌, ◌||◌, nat_eq, Bool, List, [], map, slice_get, Option, None, Some}
use Rattle.std.specs.List.{All}
use Rattle.std.specs.Option.{option_and_then}
use Rattle.c_tree.specs.declared.choice.Put.{Put}
use Rattle.mf_set.specs.Numbers.{Numbers, has as has_number}
use Rattle.ts_domain.specs.declared.marks.Mark.{Mark}
use Rattle.ts_domain.specs.declared.marks.Verdict.{Verdict}
use Rattle.ts_domain.specs.declared.names.Names.{Names}
use Rattle.ts_domain.specs.Derived.{base, freed, freed_verdict, may_follow, put_gap}
use Rattle.ts_domain.specs.Rows.{row, AreRows}
use Rattle.typestate_fixpoint.specs.declared.freed.Freed.{Freed}
use Rattle.typestate_fixpoint.specs.declared.freed.Puts.{Puts}

-- what a put frees
abbrev pub freed_of : Names → Put → Freed
freed_of n q = record { expression = freed n q; base = base n q }

-- the tables of all puts
pub record ArePuts (n : Names) (p : Puts) : Type 0 where
  pub rows : AreRows (map put_gap n.puts) p.rows
  pub freed : p.freed ≡ map (freed_of n) n.puts

-- the puts of a gap, if there is one
abbrev pub row_at : Puts → Option ℕ → List ℕ
row_at p None = []
row_at p (Some gap) = row p.rows gap

-- what a mark says of the put of place k, and whether that is one of a field whose variable may hold the object
abbrev pub verdict_in : Puts → Mark → ℕ → Verdict
verdict_in p m k = freed_verdict m (option_and_then (λ (x : Freed). x.expression) (slice_get p.freed k))

abbrev pub follows_in : Puts → Mark → ℕ → Bool
follows_in p m k = may_follow m (option_and_then (λ (x : Freed). x.base) (slice_get p.freed k))

-- all numbers are below a room
abbrev pub AreBelow : ℕ → List ℕ → Type 0
AreBelow room ks = All (λ k. k < room) ks

-- a set has some numbers more
pub record HasMore (more : List ℕ) (old new : Numbers) : Type 0 where
  pub room : new.room ≡ old.room
  pub members : (k : ℕ) → has_number new.items k ≡ (has_number old.items k || has_number more k)

abbrev pub same_pair : ℕ × ℕ → ℕ × ℕ → Bool
same_pair p q = nat_eq p.0 q.0 && nat_eq p.1 q.1

-- of all numbers that a set shall have more, some are left
pub record HasSame (all rest : List ℕ) (old new : Numbers) : Type 0 where
  pub room : new.room ≡ old.room
  pub members : (k : ℕ) → (has_number new.items k || has_number rest k) ≡ (has_number old.items k || has_number all k)
