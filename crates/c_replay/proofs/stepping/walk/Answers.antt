use Rattle.std.proofs.Common.{◌≡◌, ℕ, ◌+◌, ◌-◌, List, None, ap, sym, ◌∙◌, arith}
use Rattle.std.proofs.lemmas.Result.{on_err_weaker}
use Rattle.c_tree.specs.declared.program.Free.{Free}
use Rattle.c_meaning.specs.Effects.{all_freed}
use Rattle.c_meaning.specs.Place.{AtGap}
use Rattle.c_meaning.specs.Step.{acts, here, onward, walked}
use Rattle.c_replay.specs.Changes.{moved, on_store, taken_back}
use Rattle.c_replay.proofs.Walks.{on_err_from, standing, walk_passes}
use Rattle.c_replay.proofs.stepping.walk.Goals as goal

pub returns-in-AtAction-clause-err : goal.returns-in-AtAction-clause-err
returns-in-AtAction-clause-err c = λ e.
    on_err_weaker c.act.result (λ same. ap (taken_back c.loop-gap.noted e) same ∙ c.loop-gap.invariant.alone e) c.act.ensures.err

pub returns-in_err-next-clause-err : goal.returns-in_err-next-clause-err
returns-in_err-next-clause-err c = λ e. on_err_from c.from_residual-in_err-next.result (c.pass.ensures.alone e ∙ c.loop-gap.invariant.alone e)

pub loop-gap-preserved : goal.loop-gap-preserved
loop-gap-preserved c =
    let p = c.args.program.now in
    let l = c.loop-gap in
    let n = c.pass.new.machine in
    let is : here p (moved l.path l.machine.rest) ≡ AtGap c.in-AtGap.gap.now = ap (λ (path : List ℕ). here p (moved path l.machine.rest)) (sym c.as_slice.ensures) ∙ sym c.in-AtGap.ensures in
    let freed : n ≡ on_store (all_freed c.in-AtGap.gap.now.frees) l.machine = c.in_ok-next.ensures.ok ∙ ap (λ (fs : List Free). on_store (all_freed fs) l.machine) c.as_slice-frees.ensures in
    let goes_on = rw c.in-Some.is at c.in_ok-next.ensures.over in
    let next = rw c.in-Some.is at c.in_ok-next.ensures.next in
    let behind : moved c.in-Some.next n.rest ≡ onward p None (moved l.path n.rest) = next ∙ ap (λ (path : List ℕ). onward p None (moved path n.rest)) c.as_slice-in-loop-gap.ensures in
    let one : l.left - 1 + 1 ≡ l.left = omega arith in
    record {
      walks =
          ap (λ (k : ℕ). walked p (acts p) k (standing c.in-Some.next n)) one
          ∙ sym (walk_passes p l.left l.path c.in-Some.next l.machine n c.in-AtGap.gap.now is freed goes_on behind)
          ∙ l.invariant.walks;
      alone = λ e. c.pass.ensures.alone e ∙ l.invariant.alone e;
    }
