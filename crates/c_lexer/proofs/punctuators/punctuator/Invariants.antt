use Rattle.std.proofs.Common.{◌≡◌, ℕ, ◌<◌, ◌≤◌, None, length, take}
use Rattle.c_lexer.specs.Words.{punctuator_kind}
use Rattle.c_lexer.proofs.punctuators.punctuator.Given as goal

-- no longer front is a punctuator
abbrev pub invariant-loop-n : goal.invariant-loop-n
invariant-loop-n l = record {
  within : l.n ≤ length l.rest;
  longer : (m : ℕ) → l.n < m → m ≤ length l.rest → punctuator_kind (take m l.rest) ≡ None;
}

abbrev pub decreases-loop-n : goal.decreases-loop-n
decreases-loop-n l = l.n
