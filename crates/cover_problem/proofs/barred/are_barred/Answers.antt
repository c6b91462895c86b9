use Rattle.std.proofs.Common.{List, ℕ, ap, sym, ◌∙◌}
use Rattle.std.specs.List.{list_all}
use Rattle.cover_problem.specs.Alone.{is_barred}
use Rattle.cover_problem.proofs.CountLaws.{from_zero, none_left}
use Rattle.cover_problem.proofs.barred.are_barred.Goals as goal

pub loop-place-init : goal.loop-place-init
loop-place-init c = ap (λ (xs : List ℕ). list_all (is_barred c.args.problem.now) xs) (from_zero c.args.candidates.now.items)

pub returns : goal.returns
returns c =
    ap (λ (xs : List ℕ). list_all (is_barred c.args.problem.now) xs) (sym (none_left c.args.candidates.now.items c.loop-place.from (sym c.in_default.ensures.value)))
    ∙ c.loop-place.invariant
