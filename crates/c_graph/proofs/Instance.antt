-- The effects of a machine's store send control only where edges lead, so the run of a program goes in lockstep with that over the
-- nodes of its graph.
use Rattle.std.proofs.Common.{◌≡◌, ℕ, zero, suc, ◌+◌, Bool, true, false, not, List, [], ◌∷◌, Result, Ok, Err, Option, None, Some, refl, sym, ap, ◌∙◌, arith}
use Rattle.std.specs.List.{Contains}
use Rattle.c_tree.specs.declared.expr.Expr.{Expr, Expr-F, out-Expr, map-Expr, fold_out-Expr}
use Rattle.c_tree.specs.declared.expr.Expr.TheOpen as layer
use Rattle.c_tree.specs.declared.program.Program.{Program}
use Rattle.c_meaning.specs.declared.value.Value.{Value}
use Rattle.c_meaning.specs.declared.machine.Object.{Object}
use Rattle.c_meaning.specs.declared.machine.Stop.{Stop}
use Rattle.c_meaning.specs.Eval.{◌>>=◌, is_zero, truth, eval, eval_layer, eval_all, int_of, place_of}
use Rattle.c_meaning.specs.Machine.{Store, store_of, start, stopped, stored}
use Rattle.c_meaning.specs.Parts.{Instruction, Unset, Assign, Malloc, Getchar, Putchar, Printf, Test, Invoke, Return, Close}
use Rattle.c_meaning.specs.Effects.{Effect, Passes, Calls, Returns, unless_stopped, passing, effect, new_value, target_location, count_of, requested, fetched, written, low_byte, ints_of, printed, bound, parameters_of, value_of}
use Rattle.c_meaning.specs.Step.{State, acts, state_of, stepped}
use Rattle.c_meaning.specs.Safe.{run}
use Rattle.call_contexts.specs.Contexts.{contexts}
use Rattle.c_graph.specs.Nodes.{says_layer, graph}
use Rattle.c_graph.specs.Moves.{graph_run}
use Rattle.c_graph.proofs.Follows.{HasCallsInOrder, renumbered, Follows, stays, passes, said, calls, returns, closes, ends, FollowsEdges}
use Rattle.c_graph.proofs.Lockstep.{ran, lockstep}

-- an instruction whose action is the same
abbrev FollowsItself : Instruction → Store → Result (Effect Store) Stop → Type 0
FollowsItself a m r = Follows a m (unless_stopped m r) (unless_stopped m r)

after : {A : Type 0} (a : Instruction) (m : Store) (r : Result A Stop) (f : A → Result (Effect Store) Stop) → ((x : A) → FollowsItself a m (f x)) → FollowsItself a m (r >>= f)
after a m (Ok x) f h = h x
after a m (Err e) f h = stays a m (stopped e false m)

contains_both : (b : Bool) → Contains (true ∷ false ∷ []) b
contains_both true = (0, omega arith, refl)
contains_both false = (1, omega arith, refl)

-- a test says only what it can
pub says_so : (slots : List Value) (objects : List Object) (l : Expr-F Expr) (b : Bool) → (eval_layer slots objects (map-Expr Expr (Result Value Stop) (eval slots objects) l) >>= truth) ≡ Ok b → Contains (says_layer l) b
says_so slots objects (layer.Const n offset) b e = let same : not (is_zero n) ≡ b = cc in (0, omega arith, same)
says_so slots objects (layer.Null offset) b e = contains_both b
says_so slots objects (layer.Var x offset) b e = contains_both b
says_so slots objects (layer.Field a f offset) b e = contains_both b
says_so slots objects (layer.Deref a offset) b e = contains_both b
says_so slots objects (layer.Index a i offset) b e = contains_both b
says_so slots objects (layer.Unary s a offset) b e = contains_both b
says_so slots objects (layer.Binary o a c offset) b e = contains_both b

test_follows : (e : Expr) (m : Store) (r : Result Bool Stop) → (eval m.slots m.objects e >>= truth) ≡ r → FollowsItself (Test e) m (r >>= λ b. Ok (Passes (Some b) m))
test_follows e m (Ok b) is =
    said e b m m (says_so m.slots m.objects (out-Expr e) b (ap (λ (v : Result Value Stop). v >>= truth) (sym (fold_out-Expr (Result Value Stop) (eval_layer m.slots m.objects) e)) ∙ is))
test_follows e m (Err x) is = stays (Test e) m (stopped x false m)

call_follows : (number callee : ℕ) (arguments : List Expr) (target : Option ℕ) (m : Store) (p : Program) (r : Result (List Value) Stop) →
    FollowsItself (Invoke number callee arguments target) m (r >>= λ vs. Ok (Calls callee (bound (parameters_of p callee) vs m)))
call_follows number callee arguments target m p (Ok vs) = calls number callee arguments target m (bound (parameters_of p callee) vs m)
call_follows number callee arguments target m p (Err e) = stays (Invoke number callee arguments target) m (stopped e false m)

return_follows : (value : Option Expr) (offset : ℕ) (m : Store) (r : Result (Option Value) Stop) → FollowsItself (Return value offset) m (r >>= λ v. Ok (Returns v m))
return_follows value offset m (Ok v) = returns value offset m m v
return_follows value offset m (Err e) = stays (Return value offset) m (stopped e false m)

module _ (p : Program) where
  follows_edges : (a : Instruction) (m : Store) → Follows a m (effect p a m) (effect p (renumbered a) m)
  follows_edges (Unset x) m = passes (Unset x) m _ tt
  follows_edges (Assign place o e offset) m =
      after (Assign place o e offset) m (place_of m.slots m.objects place) (λ l. new_value m o offset place e l >>= λ v. passing (stored l v m))
      (λ l. after (Assign place o e offset) m (new_value m o offset place e l) (λ v. passing (stored l v m)) (λ v. passes (Assign place o e offset) m (stored l v m) tt))
  follows_edges (Malloc place size offset) m =
      after (Malloc place size offset) m (target_location m place) (λ l. count_of p m size >>= λ n. passing (requested l n m))
      (λ l. after (Malloc place size offset) m (count_of p m size) (λ n. passing (requested l n m)) (λ n. passes (Malloc place size offset) m (requested l n m) tt))
  follows_edges (Getchar place) m = after (Getchar place) m (target_location m place) (λ l. passing (fetched l m)) (λ l. passes (Getchar place) m (fetched l m) tt)
  follows_edges (Putchar e) m =
      after (Putchar e) m (eval m.slots m.objects e >>= int_of) (λ n. passing (written (low_byte n ∷ []) m)) (λ n. passes (Putchar e) m (written (low_byte n ∷ []) m) tt)
  follows_edges (Printf text arguments) m =
      after (Printf text arguments) m (eval_all m.slots m.objects arguments >>= ints_of >>= printed text) (λ bytes. passing (written bytes m)) (λ bytes. passes (Printf text arguments) m (written bytes m) tt)
  follows_edges (Test e) m = test_follows e m (eval m.slots m.objects e >>= truth) refl
  follows_edges (Invoke number callee arguments target) m = call_follows number callee arguments target m p (eval_all m.slots m.objects arguments)
  follows_edges (Return value offset) m = return_follows value offset m (value_of m value)
  follows_edges (Close true offset) m = closes offset m m None
  follows_edges (Close false offset) m = ends offset m None

  pub acts_follow : FollowsEdges (acts p)
  acts_follow = record { follows = follows_edges; excluded = λ offset m. refl }

  -- a run as steps over frames
  run_ran : (order : HasCallsInOrder p) (input : List ℕ) (fails : List Bool) (n : ℕ) → state_of (run p input fails n) ≡ ran p order (acts p) acts_follow (state_of (start p input fails)) n
  run_ran order input fails zero = refl
  run_ran order input fails (suc n) = ap (stepped p (acts p)) (run_ran order input fails n)

  -- the machine over nodes has the slots, objects, input left, output and ending of the run, for each number of steps
  pub run_lockstep : HasCallsInOrder p → (input : List ℕ) (fails : List Bool) (n : ℕ) →
      store_of (run p input fails n) ≡ (graph_run (graph p (contexts p)) (contexts p) (acts p) (p.gaps + 1) (store_of (start p input fails)) n).store
  run_lockstep order input fails n = ap (λ (x : State Store). x.store) (run_ran order input fails n) ∙ lockstep p order (acts p) acts_follow (store_of (start p input fails)) n
