-- The frees of several variables, one after another.
use Rattle.std.specs.Prelude.{◌≡◌, ℕ, ◌+◌, ◌<◌, Bool, false, ◌||◌, ◌==◌, List, [], ◌∷◌}
use Rattle.c_tree.specs.declared.expr.Expr.TheVariants.{Var}
use Rattle.c_tree.specs.declared.program.Free.{Free}

-- one free for each variable from x on and below n, in this order
pub data AllVars : (x n : ℕ) → List Free → Type 0 where
  none : {n : ℕ} → AllVars n n []
  more : {x n : ℕ} {fs : List Free} (at start end : ℕ) → AllVars (x + 1) n fs → AllVars x n (record { expr = Var x at; start = start; end = end } ∷ fs)

-- x is one of them
abbrev pub is_in : ℕ → List ℕ → Bool
is_in x [] = false
is_in x (y ∷ ys) = x == y || is_in x ys

-- the frees of a gap, each of a variable below n that is not gone yet, and what is gone behind them
pub data Frees (n : ℕ) : (gone : List ℕ) → List Free → (now : List ℕ) → Type 0 where
  none : {gone : List ℕ} → Frees n gone [] gone
  more : {gone now : List ℕ} {fs : List Free} (x at start end : ℕ) → x < n → is_in x gone ≡ false → Frees n (x ∷ gone) fs now
      → Frees n gone (record { expr = Var x at; start = start; end = end } ∷ fs) now
