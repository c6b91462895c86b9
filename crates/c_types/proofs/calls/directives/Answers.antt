use Rattle.std.proofs.Common.{◌∙◌, sym, ap, get_or}
use Rattle.std.proofs.lemmas.List.Sums.{fold_more}
use Rattle.c_types.specs.Calls.{next_directive}
use Rattle.c_types.specs.declared.judged.Directives.TheVariants.{Plain}
use Rattle.c_types.proofs.calls.directives.Goals as goal

pub loop-byte-preserved : goal.loop-byte-preserved
loop-byte-preserved c =
    c.in_ok-so_far.ensures
    ∙ ap (λ s. next_directive s (get_or c.args.text.now c.loop-byte.byte-index 0)) c.loop-byte.invariant
    ∙ sym (fold_more next_directive (Plain 0) c.args.text.now c.loop-byte.byte-index 0 c.loop-byte-test.true)
