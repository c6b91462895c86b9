use Rattle.std.proofs.Common.{◌≡◌, true, subst, length}
use Rattle.mf_set.specs.Numbers.{Numbers}
use Rattle.ts_domain.specs.Path.{true_at_start}
use Rattle.path_facts.specs.Corrections.{Corrects}
use Rattle.path_facts.specs.Start.{is_started}
use Rattle.path_facts.proofs.StartLaws.{start_is}
use Rattle.path_facts.proofs.start.start_set.Goals as goal

pub returns : goal.returns
returns c =
    let n = c.args.names.now in
    start_is n c.args.all.now c.start_variables.new.set c.requires.full
    (subst (λ (s : Numbers). Corrects n (true_at_start n) (λ f. is_started (length n.vars) f ≡ true) s c.start_variables.new.set) c.in_ok-set.ensures.copy c.start_variables.ensures)
