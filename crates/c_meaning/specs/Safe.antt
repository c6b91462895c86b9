-- Runs, and what is promised of them: a safe program, and two programs that do the same.
use Rattle.std.specs.Prelude.{◌≡◌, ◌≢◌, ℕ, zero, suc, ◌<◌, ◌^◌, Bool, true, ℤ, List, All, IsTrue}
use Rattle.c_tree.specs.declared.program.Program.{Program}
use Rattle.c_meaning.specs.declared.machine.Kind.{Kind}
use Rattle.c_meaning.specs.declared.machine.Kind.TheVariants.{UseAfterFree, DoubleFree}
use Rattle.c_meaning.specs.declared.machine.Ending.{Ending}
use Rattle.c_meaning.specs.declared.machine.Ending.TheVariants.{Running, Returned, Fault}
use Rattle.c_meaning.specs.declared.machine.Machine.{Machine}
use Rattle.c_meaning.specs.Machine.{start}
use Rattle.c_meaning.specs.Step.{step}

-- the machine after n steps, with that input and those answers of malloc
abbrev pub run : Program → List ℕ → List Bool → ℕ → Machine
run p input fails zero = start p input fails
run p input fails (suc n) = step p (run p input fails n)

-- each number is a byte
abbrev pub AreBytes : List ℕ → Type 0
AreBytes input = All (λ b. b < 2 ^ 8) input

-- no run touches a freed object, frees one twice or meets a fault in a free, and what has returned
-- has freed every object
pub record Safe (q : Program) : Type 0 where
  pub no_use_after_free : (input : List ℕ) (fails : List Bool) (n : ℕ) → AreBytes input →
      (at : ℕ) (by_free : Bool) → (run q input fails n).ending ≢ Fault UseAfterFree at by_free
  pub no_double_free : (input : List ℕ) (fails : List Bool) (n : ℕ) → AreBytes input →
      (at : ℕ) (by_free : Bool) → (run q input fails n).ending ≢ Fault DoubleFree at by_free
  pub no_fault_by_free : (input : List ℕ) (fails : List Bool) (n : ℕ) → AreBytes input →
      (kind : Kind) (at : ℕ) → (run q input fails n).ending ≢ Fault kind at true
  pub all_freed : (input : List ℕ) (fails : List Bool) (n : ℕ) → AreBytes input →
      (answer : ℤ) → (run q input fails n).ending ≡ Returned answer → All (λ o. IsTrue o.freed) (run q input fails n).objects

-- a run that has ended by a fault
abbrev pub IsFault : Ending → Type 0
IsFault Running = ⊥
IsFault (Returned answer) = ⊥
IsFault (Fault kind at by_free) = Unit {0}

-- two machines that nothing outside tells apart
pub record LooksLike (m n : Machine) : Type 0 where
  pub ending : m.ending ≡ n.ending
  pub output : m.output ≡ n.output
  pub input : m.input ≡ n.input

-- wherever a run of p is no fault, q does the same
pub record Same (p q : Program) : Type 0 where
  pub no_fault : (input : List ℕ) (fails : List Bool) (n : ℕ) → AreBytes input →
      (IsFault (run p input fails n).ending → ⊥) → IsFault (run q input fails n).ending → ⊥
  pub alike : (input : List ℕ) (fails : List Bool) (n : ℕ) → AreBytes input →
      (IsFault (run p input fails n).ending → ⊥) → LooksLike (run p input fails n) (run q input fails n)
