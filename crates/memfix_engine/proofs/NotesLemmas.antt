-- Lines and columns.
use Rattle.std.proofs.Common.{◌≡◌, ℕ, ◌-◌, ◌≤◌, not, Bool, List, length, arith, length-drop, subst, sym, ◌∙◌}
use Rattle.std.specs.Prelude.{take_while, reverse}
use Rattle.std.specs.List.{after_last, suffix_len}
use Rattle.std.proofs.lemmas.List.{length-reverse, take_min}
use Rattle.std.proofs.lemmas.List.Sums.{prefix_len-le-length}
use Rattle.std.proofs.lemmas.List.Folds.{length-prefix_len}
use Rattle.memfix_engine.specs.Notes.{is_newline}

pub last_line : (xs : List ℕ) → length (after_last is_newline xs) ≡ length (take_while (λ c. not (is_newline c)) (reverse xs))
last_line xs =
    let q : ℕ → Bool = λ c. not (is_newline c) in
    let within : suffix_len q xs ≤ length xs = subst (λ n. suffix_len q xs ≤ n) (length-reverse xs) (prefix_len-le-length q (reverse xs)) in
    let left : length (after_last is_newline xs) ≡ suffix_len q xs = omega (arith, length-drop (length xs - suffix_len q xs) xs, within) in
    left ∙ sym (length-prefix_len q (reverse xs))

pub ruleset places = (last_line, take_min)
