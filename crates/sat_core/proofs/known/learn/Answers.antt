use Rattle.std.proofs.Common.{◌<◌, List, [], ◌∷◌, ◌++◌, IsTrue, ap, subst, ◌∙◌, rules}
use Rattle.std.specs.List.{All}
use Rattle.sat_log.specs.declared.problem.Lit.{Lit}
use Rattle.sat_core.proofs.LogParts.{part_learned}
use Rattle.sat_core.proofs.known.learn.Goals as goal

pub returns-clause-part : goal.returns-clause-part
returns-clause-part c =
    let clauses = c.args.clauses.now in
    let old = c.args.log.now in
    let learned = c.args.marks.now.list.items in
    let told : IsTrue c.is_below.result = search rules in
    let below : All (λ (l : Lit). l.var < clauses.vars) learned = subst (All (λ (l : Lit). l.var < clauses.vars)) c.as_slice.ensures.value (c.is_below.ensures told) in
    part_learned clauses old (record { list = c.push.new.self }) learned
    (c.in_ok-push.ensures.ok ∙ ap (λ (d : List Lit). old.list ++ d ∷ []) (c.in_ok-clause.ensures ∙ c.as_slice-2.ensures.value))
    c.requires.part below c.requires.refutable
