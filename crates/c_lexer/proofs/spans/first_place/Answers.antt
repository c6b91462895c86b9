use Rattle.std.proofs.Common.{◌≡◌, false, drop, sym, ap, ◌∙◌}
use Rattle.std.proofs.lemmas.List.{take_rest}
use Rattle.c_lexer.specs.Bytes.{stops}
use Rattle.c_lexer.proofs.Places.{place_further}
use Rattle.c_lexer.proofs.spans.first_place.Goals as goal

pub loop-at-preserved : goal.loop-at-preserved
loop-at-preserved c =
    let fails : stops c.args.stop (drop c.loop-at.at c.args.text.now) ≡ false = ap (stops c.args.stop) (sym (take_rest c.args.text.now c.loop-at.at)) ∙ sym c.stops.ensures ∙ c.if-stops.false in
    place_further (stops c.args.stop) c.args.text.now c.loop-at.at c.loop-at-test.true fails ∙ c.loop-at.invariant
