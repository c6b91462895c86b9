use Rattle.sat_log.specs.Propagation.{base_of, Finds}
use Rattle.std.proofs.Common.{subst}
use Rattle.sat_log.proofs.FactLaws.{look_clash, none_out, got_contains}
use Rattle.sat_log.proofs.front.Front.add.Goals as goal

pub returns-in_default-free_besides-clause-clash : goal.returns-in_default-free_besides-clause-clash
returns-in_default-free_besides-clause-clash c =
    let claim = c.args.claim.now in
    let facts = c.args.facts.now in
    let lits = c.in-Some.lits.now in
    λ _. look_clash claim facts lits c.requires (got_contains (base_of claim) c.args.self.now.taken lits c.in-Some.ensures) (none_out facts.bits.items lits c.in_default-free_besides.ensures.none)

pub returns-in-Clash-clause-clash : goal.returns-in-Clash-clause-clash
returns-in-Clash-clause-clash c = λ _. subst (Finds c.args.claim.now) c.in-Clash.is c.in_ok-visit_at.ensures.finds
