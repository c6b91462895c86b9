use Rattle.std.proofs.Common.{◌≡◌, ◌+◌, ◌-◌, true, ap, sym, ◌∙◌, add-one, arith}
use Rattle.c_meaning.specs.declared.machine.Machine.{Machine}
use Rattle.c_meaning.specs.Effects.{is_over}
use Rattle.c_meaning.specs.Step.{step}
use Rattle.c_meaning.specs.Safe.{run}
use Rattle.c_replay.proofs.RunSteps.{run_steps, run_over}
use Rattle.c_replay.proofs.runs.run.Goals as goal

pub returns-then-is_over : goal.returns-then-is_over
returns-then-is_over c =
    let k = c.loop-taken._taken in
    let p = c.args.program.now in
    let machine = c.loop-taken.invariant in
    let over : is_over (run p c.args.input.now c.args.fails.now k).ending ≡ true = ap (λ (m : Machine). is_over m.ending) (sym machine) ∙ sym c.if-is_over.ensures in
    let n : c.args.n - k + k ≡ c.args.n = omega arith in
    machine ∙ sym (run_over p c.args.input.now c.args.fails.now k (c.args.n - k) over) ∙ ap (run p c.args.input.now c.args.fails.now) n

pub step-requires : goal.step-requires
step-requires c =
    let few = run_steps c.args.program.now c.args.input.now c.args.fails.now c.loop-taken._taken in
    let same : c.loop-taken.machine.steps ≡ (run c.args.program.now c.args.input.now c.args.fails.now c.loop-taken._taken).steps = ap (λ (m : Machine). m.steps) c.loop-taken.invariant in
    omega arith

pub loop-taken-preserved : goal.loop-taken-preserved
loop-taken-preserved c =
    let p = c.args.program.now in
    let run_to = run p c.args.input.now c.args.fails.now in
    c.in_ok-step.ensures.ok ∙ ap (step p) c.loop-taken.invariant ∙ sym (ap run_to (add-one c.loop-taken._taken))

pub returns : goal.returns
returns c =
    let all : c.loop-taken._taken ≡ c.args.n = omega arith in
    c.loop-taken.invariant ∙ ap (run c.args.program.now c.args.input.now c.args.fails.now) all
