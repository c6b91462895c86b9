-- What the machine over nodes asks of a program and of a store's effects.
use Rattle.std.proofs.Common.{◌≡◌, ◌≢◌, ℕ, zero, suc, ◌<◌, slice_get, Bool, true, false, length, List, [], ◌∷◌, Option, None, Some, arith}
use Rattle.std.specs.List.{Contains}
use Rattle.c_tree.specs.declared.expr.Expr.{Expr}
use Rattle.c_tree.specs.declared.program.Program.{Program}
use Rattle.c_meaning.specs.declared.value.Value.{Value}
use Rattle.c_meaning.specs.Parts.{Instruction, Unset, Assign, Malloc, Getchar, Putchar, Printf, Test, Invoke, Return, Close}
use Rattle.c_meaning.specs.Place.{AtAction}
use Rattle.c_meaning.specs.Effects.{Effect, Passes, Calls, Returns, Stays}
use Rattle.c_meaning.specs.Step.{Acts}
use Rattle.call_contexts.proofs.ContextLaws.{AreCallsOf}
use Rattle.call_contexts.proofs.WellFormedCalls.{main_exists, are_calls}
use Rattle.c_tree.specs.WellFormed.{IsWellFormed}
use Rattle.c_meaning.proofs.CallPlaces.{invoked_once}
use Rattle.c_graph.specs.Nodes.{spot_at, says}

-- `main` exists, calls are as contexts need them, and each number of a call stands at one place of a function
pub record HasCallsInOrder (p : Program) : Type 0 where
  pub main : slice_get p.funs p.main ≢ None
  pub calls : AreCallsOf p
  pub once : (f : ℕ) (ps qs : List ℕ) (number callee other : ℕ) (arguments others : List Expr) (target else_where : Option ℕ) →
      spot_at p f ps ≡ AtAction (Invoke number callee arguments target) → spot_at p f qs ≡ AtAction (Invoke number other others else_where) → ps ≡ qs

within_some : {A : Type 0} (xs : List A) (i : ℕ) → i < length xs → slice_get xs i ≢ None
within_some [] i below e = absurd (omega arith)
within_some (x ∷ xs) zero below e = absurd cc
within_some (x ∷ xs) (suc i) below e = within_some xs i (omega arith) e

-- those of a well-formed program are
pub calls_in_order : (p : Program) → IsWellFormed p → HasCallsInOrder p
calls_in_order p w = record {
  main = within_some p.funs p.main (main_exists p w);
  calls = are_calls p w;
  once = λ f ps qs number callee other arguments others target elsewhere here there. invoked_once p w f number ps qs callee other arguments others target elsewhere here there;
}

-- an instruction without the numbers that the action of a node has not
abbrev pub renumbered : Instruction → Instruction
renumbered (Invoke number callee arguments target) = Invoke 0 callee arguments None
renumbered (Return value offset) = Return value 0
renumbered (Close goes_back offset) = Close true 0
renumbered a = a

-- an instruction behind which control goes on in one way
abbrev pub GoesOn : Instruction → Type 0
GoesOn (Unset x) = Unit {0}
GoesOn (Assign place o value offset) = Unit {0}
GoesOn (Malloc place size offset) = Unit {0}
GoesOn (Getchar place) = Unit {0}
GoesOn (Putchar value) = Unit {0}
GoesOn (Printf text arguments) = Unit {0}
GoesOn a = ⊥

-- what an instruction comes to, and the same of the action of its node
pub data Follows {M : Type 0} : Instruction → M → Effect M → Effect M → Type 0 where
  stays : (a : Instruction) (m n : M) → Follows a m (Stays n) (Stays n)
  passes : (a : Instruction) (m n : M) → GoesOn a → Follows a m (Passes None n) (Passes None n)
  said : (e : Expr) (b : Bool) (m n : M) → Contains (says e) b → Follows (Test e) m (Passes (Some b) n) (Passes (Some b) n)
  calls : (number callee : ℕ) (arguments : List Expr) (target : Option ℕ) (m n : M) → Follows (Invoke number callee arguments target) m (Calls callee n) (Calls callee n)
  returns : (value : Option Expr) (offset : ℕ) (m n : M) (v : Option Value) → Follows (Return value offset) m (Returns v n) (Returns v n)
  closes : (offset : ℕ) (m n : M) (v : Option Value) → Follows (Close true offset) m (Returns v n) (Returns v n)
  -- no edge leads from the brace of another function with a result
  ends : (offset : ℕ) (m : M) (v : Option Value) → Follows (Close false offset) m (Stays m) (Returns v m)

-- the effects of a store send control only where edges lead
pub record FollowsEdges {M : Type 0} (s : Acts M) : Type 0 where
  pub follows : (a : Instruction) (m : M) → Follows a m (s.effect a m) (s.effect (renumbered a) m)
  pub excluded : (offset : ℕ) (m : M) → s.effect (Close false offset) m ≡ Stays m
