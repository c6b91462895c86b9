-- Lists of two lengths are no two of the same.
use Rattle.std.proofs.Common.{◌≡◌, suc, false, List, [], ◌∷◌, length, refl, sym, ap}
use Rattle.std.proofs.Math.Bool.{and-false}
use Rattle.c_tree.specs.declared.choice.Put.{Put}
use Rattle.c_tree.specs.declared.program.Free.{Free}
use Rattle.source_patcher.specs.Gaps.{is_put, are_put}
use Rattle.source_patcher.proofs.gaps.are_put.Goals as goal

other_length : (fs : List Free) (qs : List Put) → (length fs ≡ length qs → ⊥) → are_put fs qs ≡ false
other_length [] [] h = absurd (h refl)
other_length [] (q ∷ qs) h = refl
other_length (f ∷ fs) [] h = refl
other_length (f ∷ fs) (q ∷ qs) h = rw (other_length fs qs (λ e. h (ap suc e))) (and-false (is_put f q))

pub returns-then-frees-puts : goal.returns-then-frees-puts
returns-then-frees-puts c = sym (other_length c.args.frees.now c.args.puts.now c.if-frees-puts.true)
