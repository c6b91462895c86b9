-- Cycles of functions that call each other, and the first call that closes one.
use Rattle.std.specs.Prelude.{ℕ, ◌+◌, ◌<◌, List, length, take}
use Rattle.std.specs.List.{All, Contains}
use Rattle.c_tree.specs.declared.control.UserCall.{UserCall}

-- one function calls another, by one call of the list or by several in turn
pub data Calls (calls : List UserCall) : ℕ → ℕ → Type 0 where
  directly : (c : UserCall) → Contains calls c → Calls calls c.caller c.callee
  through : (c : UserCall) (f : ℕ) → Contains calls c → Calls calls c.callee f → Calls calls c.caller f

-- some function calls itself
abbrev pub IsCyclic : List UserCall → Type 0
IsCyclic calls = (f : ℕ) × Calls calls f f

-- with call i the calls form a cycle for the first time
pub record ClosesCycle (calls : List UserCall) (i : ℕ) : Type 0 where
  pub exists : i < length calls
  pub before : IsCyclic (take i calls) → ⊥
  pub closed : IsCyclic (take (i + 1) calls)

-- both functions of each call are among the first n
abbrev pub ExistIn : ℕ → List UserCall → Type 0
ExistIn n calls = All (λ c. (c.caller < n) × (c.callee < n)) calls
