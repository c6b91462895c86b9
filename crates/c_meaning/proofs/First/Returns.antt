-- The return of a straight program: its gap frees the objects of its variables, and main ends.
use Rattle.std.proofs.Common.{◌≡◌, ℕ, ◌+◌, ◌≤◌, ℤ, List, [], Some, None, Result, Ok, ap, ◌∙◌, arith}
use Rattle.c_tree.specs.declared.expr.Expr.TheVariants as expr
use Rattle.c_tree.specs.declared.program.Free.{Free}
use Rattle.c_tree.specs.declared.program.Program.{Program}
use Rattle.c_meaning.specs.declared.value.Value.{Value}
use Rattle.c_meaning.specs.declared.machine.Stop.{Stop}
use Rattle.c_meaning.specs.declared.machine.Ending.TheVariants.{Returned}
use Rattle.c_meaning.specs.declared.machine.Machine.{Machine}
use Rattle.c_meaning.specs.Eval.{◌>>=◌}
use Rattle.c_meaning.specs.Machine.{machine_of}
use Rattle.c_meaning.specs.First.Frees.{AllVars, Frees}
use Rattle.c_meaning.specs.First.Frees.AllVars.{none, more}
use Rattle.c_meaning.specs.Parts as parts
use Rattle.c_meaning.specs.Effects.{Returns}
use Rattle.c_meaning.specs.Step.{step}
use Rattle.c_meaning.proofs.Evals.{eval_const}
use Rattle.c_meaning.proofs.First.Flat.{Stands, behind}
use Rattle.c_meaning.proofs.First.Plain.{At, keeping, freeing_step}

pub AllVars-order : {x n : ℕ} {fs : List Free} → AllVars x n fs → x ≤ n
AllVars-order none = omega arith
AllVars-order (more at start end rest) = let h = AllVars-order rest in omega arith

pub return_step : {i n w : ℕ} {gone now : List ℕ} {fs : List Free} {m : Machine} (p : Program) (g : ℕ) (k : ℤ) (k_at offset : ℕ) → p.gaps ≡ g + 1 → Stands p i fs (parts.Return (Some (expr.Const k k_at)) offset) →
    Frees n gone fs now → (at : At i n gone w m) → step p m ≡ machine_of [] (record (keeping now at.held at.later (record m { steps = m.steps + 1 })) { ending = Returned k })
return_step {i} {n} {w} {gone} {now} {fs} {m} p g k k_at offset gaps stands frees at =
    let s = keeping now at.held at.later (record m { steps = m.steps + 1 }) in
    freeing_step p g gaps stands frees at
    ∙ ap (λ (r : Result Value Stop). behind p i None s (r >>= (λ v. Ok (Some v)) >>= λ v. Ok (Returns v s))) (eval_const s.slots s.objects k k_at)
