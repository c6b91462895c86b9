use Rattle.std.proofs.Common.{rules, ◌≡◌, ◌++◌, [], ◌∷◌, None, map, get_or, take, ap, sym, ◌∙◌}
use Rattle.std.proofs.lemmas.Option.{slice_get-get_or}
use Rattle.c_tree.specs.declared.choice.Put.{Put}
use Rattle.typestate_fixpoint.specs.declared.freed.Freed.{Freed}
use Rattle.typestate_fixpoint.specs.Gaps.{freed_of}
use Rattle.ts_domain.proofs.KeyLaws.{map_on}
use Rattle.typestate_fixpoint.proofs.freed.all_freed.Goals as goal

pub loop-put-preserved : goal.loop-put-preserved
loop-put-preserved c =
    let n = c.args.names.now in
    let puts = c.args.puts.now in
    let i = c.loop-put.put-index in
    let d : Put = record { gap = 0; var = 0; field = None } in
    let q = get_or puts i d in
    let made : c.freed_of.result ≡ freed_of n q = search rules in
    let pushed : c.push.new.self ≡ c.loop-put.list ++ c.freed_of.result ∷ [] = search rules in
    pushed
    ∙ ap (λ (x : Freed). c.loop-put.list ++ x ∷ []) made
    ∙ ap (λ xs. xs ++ freed_of n q ∷ []) c.loop-put.invariant
    ∙ sym (map_on (freed_of n) puts i q (slice_get-get_or puts i d c.loop-put-test.true))
