-- Triples at exits that no put can free.
use Rattle.std.specs.Prelude.{◌≡◌, ℕ, ◌==◌, ◌&&◌, ◌||◌, nat_lt, not, Bool, true, false, List, Option, None, Some, MatchOption, if◌then◌else◌}
use Rattle.std.specs.List.{Contains, list_all}
use Rattle.mf_set.specs.Numbers.{Numbers, has}
use Rattle.cover_problem.specs.declared.types.Problem.{Problem}

-- a put is forbidden or not allowed
abbrev pub is_barred : Problem → ℕ → Bool
is_barred q k = has q.derived.forbidden.items k || not (has q.allowed.items k)

abbrev pub are_barred : Problem → Numbers → Bool
are_barred q c = list_all (is_barred q) c.items

-- the lesser site, and of one site the lesser exit
abbrev pub is_before : ℕ × ℕ → ℕ × ℕ → Bool
is_before a b = nat_lt a.0 b.0 || (a.0 == b.0 && nat_lt a.1 b.1)

abbrev pub lesser : Option (ℕ × ℕ) → ℕ × ℕ → ℕ × ℕ
lesser None b = b
lesser (Some a) b = if is_before b a then b else a

-- the least so far and of a triple at an exit, if all its candidates are barred
abbrev pub least_with : Problem → Option (ℕ × ℕ) → ℕ × ℕ × Numbers → Option (ℕ × ℕ)
least_with q o e = if are_barred q e.2 then Some (lesser o (e.0, e.1)) else o

-- some of these triples has that site and exit, and all its candidates are barred; and no such triple has lesser ones
pub record IsLeastOf (q : Problem) (es : List (ℕ × ℕ × Numbers)) (a : ℕ × ℕ) : Type 0 where
  pub candidates : Numbers
  pub listed : Contains es (a.0, a.1, candidates)
  pub barred : are_barred q candidates ≡ true
  pub least : (e : ℕ × ℕ × Numbers) → Contains es e → are_barred q e.2 ≡ true → is_before (e.0, e.1) a ≡ false

-- of each of these triples some candidate is not barred, or the answer is the least site and exit of one whose candidates all are
abbrev pub LeastOf : Problem → List (ℕ × ℕ × Numbers) → Option (ℕ × ℕ) → Type 0
LeastOf q es answer = MatchOption answer ((e : ℕ × ℕ × Numbers) → Contains es e → are_barred q e.2 ≡ false) (IsLeastOf q es)

-- of all triples at exits
abbrev pub LeastAlone : Problem → Option (ℕ × ℕ) → Type 0
LeastAlone q answer = LeastOf q q.exits answer
