use Rattle.std.proofs.Common.{◌≡◌, Bool, true, false, List, [], ◌∷◌, ◌++◌, length, take, IsTrue, sym, ap, ◌∙◌, subst, arith, rules}
use Rattle.std.specs.List.{Contains}
use Rattle.std.proofs.Math.Seq.{take-append_seam}
use Rattle.sat_log.specs.Refutation.{Clashes}
use Rattle.sat_core.specs.Bits.{against, HasFalse}
use Rattle.sat_core.proofs.PlainLaws.{leaf_clashes, branch_clashes, model_of, keeps_along, keeps_more, last_has}
use Rattle.sat_core.proofs.plain.+cases.Goals as goal

pub decide-deny-requires-clause-clash : goal.decide-deny-requires-clause-clash
decide-deny-requires-clause-clash t c =
    let clauses = c.args.clauses.now.list in
    let log = c.args.log.now.list in
    subst (λ (bits : List Bool). Clashes (clauses ++ log) (against bits)) (c.deref.ensures.value ∙ sym c.deref-then-has_false.ensures.value)
    (leaf_clashes clauses log c.deref.result.now (c.has_false.ensures.0 c.if-has_false.true))

pub decide-returns-then-len-clauses-clause-found : goal.decide-returns-then-len-clauses-clause-found
decide-returns-then-len-clauses-clause-found t c =
    let clauses = c.args.clauses.now in
    let bits = c.args.bits.now.items in
    let all : length bits ≡ clauses.vars = omega arith in
    λ _. model_of clauses bits c.requires.below all
    (λ h. let told : IsTrue c.has_false.result = c.has_false.ensures.1 (subst (λ (b : List Bool). HasFalse b clauses.list) (sym c.deref.ensures.value) h) in
    let not_told : c.has_false.result ≡ false = c.if-has_false.false in (cc))

pub decide-deny-requires-2-clause-clash : goal.decide-deny-requires-2-clause-clash
decide-deny-requires-2-clause-clash t c =
    let clauses = c.args.clauses.now.list in
    let bits = c.args.bits.now.items in
    let log = c.decide_with-2.new.log.list in
    let first = c.in_ok-decide_with.ensures.denied c.if-branch.false in
    let second = c.in_ok-decide_with-2.ensures.denied c.if-branch-2.false in
    subst (λ (b : List Bool). Clashes (clauses ++ log) (against b)) (sym first.0 ∙ sym second.0 ∙ sym c.deref-2.ensures.value)
    (branch_clashes clauses log bits (c.in_ok-decide_with-2.ensures.kept.each _ first.1)
    (subst (λ (b : List Bool). Contains log (against (b ++ true ∷ []))) first.0 second.1))

pub decide-returns-clause-kept : goal.decide-returns-clause-kept
decide-returns-clause-kept t c =
    let middle = c.decide_with-2.new.log.list in
    keeps_along c.args.log.now.list middle c.deny-2.new.log.list
    (keeps_along c.args.log.now.list c.decide_with.new.log.list middle c.in_ok-decide_with.ensures.kept c.in_ok-decide_with-2.ensures.kept)
    (keeps_more middle c.deny-2.new.log.list _ c.in_ok-deny-2.ensures.denied)

pub decide_with-returns-clause-denied : goal.decide_with-returns-clause-denied
decide_with-returns-clause-denied t c = λ _.
    let bits = c.args.bits.now.items in
    let told = c.in_ok-decide.ensures.denied c.if-branch.false in
    let pushed : c.push.new.self.items ≡ bits ++ c.args.bit ∷ [] = search rules in
    let count : c.len-count.result ≡ length bits = search rules in
    let cut : take c.len-count.result c.decide.new.bits.items ≡ bits =
    ap (λ n. take n c.decide.new.bits.items) count ∙ ap (take (length bits)) (told.0 ∙ pushed) ∙ take-append_seam bits (c.args.bit ∷ []) in
    (c.truncate.ensures.items ∙ cut, subst (λ (b : List Bool). Contains c.decide.new.log.list (against b)) pushed (last_has c.decide.new.log.list _ told.1))
