-- Whether a choice is a cover of a problem, as it is computed.
use Rattle.std.specs.Prelude.{ℕ, ◌&&◌, ◌||◌, nat_le, not, Bool, List, length}
use Rattle.std.specs.List.{filter, list_all, list_any, range_with_len}
use Rattle.c_tree.specs.declared.choice.Choice.{Choice}
use Rattle.c_tree.specs.declared.choice.Put.{Put}
use Rattle.mf_set.specs.Numbers.{Numbers, has as has_number}
use Rattle.ts_domain.specs.declared.names.Names.{Names}
use Rattle.ts_domain.specs.declared.triples.Triple.{Triple}
use Rattle.ts_domain.specs.Chosen.{has_put, is_chosen}
use Rattle.cover_problem.specs.declared.types.Problem.{Problem}

abbrev pub count_chosen : Names → Choice → Numbers → ℕ
count_chosen n s c = length (filter (is_chosen n s) c.items)

-- whether the puts of the choice are named
abbrev pub are_named : Names → List Put → Bool
are_named n puts = list_all (has_put n.puts) puts

abbrev pub is_held : List Triple → ℕ → Bool
is_held ts k = list_any (λ (t : Triple). has_number t.puts.items k) ts

-- whether a put is allowed, not forbidden and held
abbrev pub is_usable : Problem → ℕ → Bool
is_usable q k = has_number q.allowed.items k && (not (has_number q.derived.forbidden.items k) && is_held q.derived.triples k)

-- or not chosen
abbrev pub is_sound : Problem → Choice → ℕ → Bool
is_sound q s k = not (is_chosen q.names s k) || is_usable q k

abbrev pub are_sound : Problem → Choice → Bool
are_sound q s = list_all (is_sound q s) (range_with_len 0 (length q.names.puts))

-- whether no pair is chosen
abbrev pub are_apart : Names → Choice → List (ℕ × ℕ) → Bool
are_apart n s pairs = list_all (λ (p : ℕ × ℕ). not (is_chosen n s p.0 && is_chosen n s p.1)) pairs

-- whether of each triple at most one is chosen, and of each at an exit one
abbrev pub hold_at_most_one : Names → Choice → List Triple → Bool
hold_at_most_one n s ts = list_all (λ (t : Triple). nat_le (count_chosen n s t.puts) 1) ts

abbrev pub hold_one : Names → Choice → List (ℕ × ℕ × Numbers) → Bool
hold_one n s es = list_all (λ (e : ℕ × ℕ × Numbers). nat_le 1 (count_chosen n s e.2)) es

abbrev pub covers : Problem → Choice → Bool
covers q s = are_named q.names s.puts && (are_sound q s && (are_apart q.names s q.derived.pairs && (hold_at_most_one q.names s q.derived.triples && hold_one q.names s q.exits)))
