-- Which puts a choice has.
use Rattle.std.specs.Prelude.{ℕ, ◌==◌, ◌&&◌, Bool, true, false, List, slice_get, Option, None, Some}
use Rattle.std.specs.List.{list_any}
use Rattle.c_tree.specs.Typing.{has}
use Rattle.c_tree.specs.declared.choice.Choice.{Choice}
use Rattle.c_tree.specs.declared.choice.Put.{Put}
use Rattle.ts_domain.specs.declared.names.Names.{Names}

-- puts that are one
abbrev pub is_field : Option ℕ → Option ℕ → Bool
is_field None None = true
is_field None (Some g) = false
is_field (Some f) None = false
is_field (Some f) (Some g) = f == g

abbrev pub is_put : Put → Put → Bool
is_put p q = p.gap == q.gap && (p.var == q.var && is_field p.field q.field)

abbrev pub has_put : List Put → Put → Bool
has_put puts q = list_any (is_put q) puts

-- whether the put of place k is chosen
abbrev pub is_chosen : Names → Choice → ℕ → Bool
is_chosen n s k = has (has_put s.puts) (slice_get n.puts k)
