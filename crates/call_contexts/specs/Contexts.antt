-- The contexts of a program: the call strings from `main`, in depth-first order.
use Rattle.std.specs.Prelude.{◌≡◌, ◌≢◌, ◌↔◌, ℕ, zero, suc, ◌+◌, ◌==◌, ◌&&◌, Bool, false, List, [], ◌∷◌, ◌++◌, length, slice_get, position, Option, None, Some}
use Rattle.std.specs.List.{All}
use Rattle.std.specs.Option.{option_and_then}
use Rattle.c_tree.specs.declared.program.Program.{Program}
use Rattle.c_tree.specs.declared.control.UserCall.{UserCall}
use Rattle.call_contexts.specs.declared.context.Ctx.{Ctx}
use Rattle.call_contexts.specs.Calls.{calls_by_function, calls_of}

-- a function that was called from `home`
abbrev pub context : ℕ → Option (ℕ × ℕ) → Ctx
context f home = record { fun = f; home = home }

-- the contexts of calls in context k, the first of them with the number `next`; `below` are those of one call
abbrev pub visit_calls : (ℕ → ℕ → Option (ℕ × ℕ) → List Ctx) → ℕ → ℕ → List UserCall → List Ctx
visit_calls below k next [] = []
visit_calls below k next (c ∷ cs) = below next c.callee (Some (k, c.number)) ++ visit_calls below k (next + length (below next c.callee (Some (k, c.number)))) cs

-- the context `me` of function f, then those of its calls in the order of the text; without recursion calls nest
-- less deep than there are functions
abbrev pub visit : List (List UserCall) → ℕ → ℕ → ℕ → Option (ℕ × ℕ) → List Ctx
visit rows zero me f home = []
visit rows (suc depth) me f home = context f home ∷ visit_calls (visit rows depth) me (me + 1) (calls_of rows f)

-- the contexts of a program; that of `main` is 0
abbrev pub contexts : Program → List Ctx
contexts p = visit (calls_by_function p) (length p.funs) 0 p.main None

-- whether a context is that of call n in context k
abbrev pub is_called_from : ℕ → ℕ → Option (ℕ × ℕ) → Bool
is_called_from k n None = false
is_called_from k n (Some home) = home.0 == k && home.1 == n

-- the context of call n in context k
abbrev pub callee_of : List Ctx → ℕ → ℕ → Option ℕ
callee_of list k n = position (λ c. is_called_from k n c.home) list

-- the context and the call that context k was called from; none for `main`
abbrev pub home_of : List Ctx → ℕ → Option (ℕ × ℕ)
home_of list k = option_and_then (λ c. c.home) (slice_get list k)

-- a call has no context exactly where it isn't in the context's function
abbrev pub HasNoneWithout : Program → ℕ → ℕ → Option ℕ → Type 0
HasNoneWithout p k n answer = (c : Ctx) → slice_get (contexts p) k ≡ Some c → (answer ≡ None) ↔ All (λ d. d.number ≢ n) (calls_of (calls_by_function p) c.fun)
