use Rattle.std.proofs.Common.{◌≡◌, false}
use Rattle.std.specs.List.{list_any, range_with_len}
use Rattle.ts_domain.specs.Post.{is_held_field}
use Rattle.ts_domain.proofs.turns.holds_beneath.Given as goal

abbrev pub invariant-loop-expression : goal.invariant-loop-expression
invariant-loop-expression l = list_any (is_held_field l.names l.mark l.variable) (range_with_len 0 l.expression) ≡ false
