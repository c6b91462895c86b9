-- Sets of the numbers below a bound that pass a test, one number more.
use Rattle.std.proofs.Common.{◌≡◌, ℕ, ◌+◌, Bool, cond, List, ap, ◌∙◌}
use Rattle.mf_set.specs.Numbers.{Numbers, with_number}
use Rattle.ts_domain.specs.Marks.{passing}
use Rattle.ts_domain.proofs.MarkLaws.{next_passing}

-- a number is put into a set where it passes
abbrev pub InsertsIf : Bool → ℕ → Numbers → Numbers → Type 0
InsertsIf b i old new = new ≡ record old { items = cond b (with_number old.items i) old.items }

pub passing_more : (test : ℕ → Bool) (i room : ℕ) (b : Bool) (old new : Numbers) → b ≡ test i → old ≡ passing i room test → InsertsIf b i old new → new ≡ passing (i + 1) room test
passing_more test i room b old new is so_far written =
    written
    ∙ ap (λ (s : Numbers). let t : Numbers = record { items = cond b (with_number s.items i) s.items; room = s.room } in t) so_far
    ∙ ap (λ (xs : List ℕ). let t : Numbers = record { items = xs; room = room } in t) (next_passing test i b is)
