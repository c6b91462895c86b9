-- The clauses of a problem: bits satisfy them where the puts that they stand for are a cover.
use Rattle.std.specs.Prelude.{◌≡◌, ◌↔◌, ℕ, ◌<◌, ◌==◌, Bool, true, false, List, [], ◌∷◌, length, map, slice_get, Option, None, Some, if◌then◌else◌}
use Rattle.std.specs.List.{Contains, filter, flat_map, range_with_len}
use Rattle.c_tree.specs.Typing.{has}
use Rattle.c_tree.specs.declared.choice.Choice.{Choice}
use Rattle.c_tree.specs.declared.choice.Put.{Put}
use Rattle.mf_set.specs.Numbers.{Numbers, has as has_number}
use Rattle.sat_log.specs.declared.problem.Clauses.{Clauses}
use Rattle.sat_log.specs.declared.problem.Lit.{Lit}
use Rattle.ts_domain.specs.declared.triples.Triple.{Triple}
use Rattle.ts_domain.specs.Chosen.{is_chosen}
use Rattle.cover_problem.specs.declared.types.Problem.{Problem}
use Rattle.cover_problem.specs.Covering.{is_usable}
use Rattle.cover_problem.specs.Problem.{AtExit}

-- variables

-- the puts that have a variable, in their order: those that are allowed, not forbidden and held by some triple
abbrev pub usable_puts : Problem → List ℕ
usable_puts q = filter (is_usable q) (range_with_len 0 (length q.names.puts))

-- the variable of the put of place k: how many have one before it
abbrev pub variable : Problem → ℕ → ℕ
variable q k = length (filter (is_usable q) (range_with_len 0 k))

-- how many variables there are
abbrev pub variables : Problem → ℕ
variables q = length (usable_puts q)

abbrev pub literal : Problem → Bool → ℕ → Lit
literal q sign k = record { var = variable q k; yes = sign }

-- clauses

-- one of these puts is chosen
abbrev pub one_of : Problem → List ℕ → List Lit
one_of q ks = map (literal q true) ks

-- not both puts are chosen; for a put and itself this is that it is not
abbrev pub not_both : Problem → ℕ → ℕ → List Lit
not_both q j k = if j == k then literal q false j ∷ [] else literal q false j ∷ literal q false k ∷ []

-- of each triple at an exit one put is chosen; of a pair not both are, and not of two that one triple holds, the lesser first
pub data IsClause (q : Problem) : List Lit → Type 0 where
  of_exit : (c : Numbers) → AtExit q c → IsClause q (one_of q (filter (is_usable q) c.items))
  of_pair : (j k : ℕ) → Contains q.derived.pairs (j, k) → is_usable q j ≡ true → is_usable q k ≡ true → IsClause q (not_both q j k)
  of_triple : (t : Triple) (j k : ℕ) → Contains q.derived.triples t → has_number t.puts.items j ≡ true → has_number t.puts.items k ≡ true → j < k → is_usable q j ≡ true → is_usable q k ≡ true → IsClause q (not_both q j k)

-- nothing stands in the list twice
pub data IsOnce {A : Type 0} : List A → Type 0 where
  once_none : IsOnce []
  once_more : {x : A} {xs : List A} → (Contains xs x → ⊥) → IsOnce xs → IsOnce (x ∷ xs)

-- these are the clauses of the problem, each once
pub record AreClauses (q : Problem) (clauses : Clauses) : Type 0 where
  pub vars : clauses.vars ≡ variables q
  pub each : (l : List Lit) → Contains clauses.list l ↔ IsClause q l
  pub once : IsOnce clauses.list

-- there are more clauses than that
pub record HasMore (q : Problem) (limit : ℕ) : Type 0 where
  pub list : List (List Lit)
  pub each : (l : List Lit) → Contains list l → IsClause q l
  pub once : IsOnce list
  pub more : limit < length list

-- choices

-- the put of a place, if there is one
abbrev pub put_if : Option Put → List Put
put_if None = []
put_if (Some p) = p ∷ []

abbrev pub put_at : Problem → ℕ → List Put
put_at q k = put_if (slice_get q.names.puts k)

-- whether the variable of a put has a true bit
abbrev pub is_true_at : Problem → List Bool → ℕ → Bool
is_true_at q bits k = has (λ b. b) (slice_get bits (variable q k))

-- the puts whose variables have a true bit
abbrev pub choice_of : Problem → List Bool → Choice
choice_of q bits = record { puts = flat_map (put_at q) (filter (is_true_at q bits) (usable_puts q)) }

-- the bits of the puts that a choice has
abbrev pub bits_of : Problem → Choice → List Bool
bits_of q s = map (is_chosen q.names s) (usable_puts q)
