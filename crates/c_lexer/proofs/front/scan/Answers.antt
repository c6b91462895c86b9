use Rattle.std.proofs.Common.{◌-◌, length, take, drop, sym, ap, subst, arith}
use Rattle.std.proofs.lemmas.List.{take_rest}
use Rattle.c_lexer.specs.Scan.{IsReading}
use Rattle.c_lexer.specs.Front.{advanced}
use Rattle.c_lexer.proofs.Scanned.{ReadsOn, at_text_end, at_fault, on_more, goes_from, steps}
use Rattle.c_lexer.proofs.front.scan.Goals as goal

pub returns-in-End : goal.returns-in-End
returns-in-End c =
    let at = c.loop-front.front.at in
    let rest = take (length c.args.bytes.now - at) (drop at c.args.bytes.now) in
    subst (IsReading c.args.bytes.now) (sym c.reading.ensures) (at_text_end c.args.bytes.now rest c.loop-front.front c.in_ok-element.element c.loop-front.invariant.reads (take_rest c.args.bytes.now at) c.in_ok-element.ensures.element c.in-End.is)

pub returns-in-Bad : goal.returns-in-Bad
returns-in-Bad c =
    let at = c.loop-front.front.at in
    let rest = take (length c.args.bytes.now - at) (drop at c.args.bytes.now) in
    subst (IsReading c.args.bytes.now) (sym c.reading-in-Bad.ensures) (at_fault c.args.bytes.now rest c.loop-front.front c.in_ok-element.element c.in-Bad.fault c.in-Bad.n c.loop-front.invariant.reads (take_rest c.args.bytes.now at) c.in_ok-element.ensures.element c.in-Bad.is)

pub loop-front-preserved : goal.loop-front-preserved
loop-front-preserved c =
    let at = c.loop-front.front.at in
    let rest = take (length c.args.bytes.now - at) (drop at c.args.bytes.now) in
    let goes = goes_from c.in_ok-element.element c.in_default.not-End c.in_default.not-Bad in
    let next = advanced c.loop-front.front rest c.in_ok-element.element in
    let step = steps c.args.bytes.now rest c.loop-front.front c.in_ok-element.element c.loop-front.invariant.within (take_rest c.args.bytes.now at) c.in_ok-element.ensures.fits goes in
    let reads : ReadsOn c.args.bytes.now next = on_more c.args.bytes.now rest c.loop-front.front c.in_ok-element.element c.loop-front.invariant.reads (take_rest c.args.bytes.now at) c.in_ok-element.ensures.element goes in
    record {
      within = omega (arith, step.within, ap (λ f. f.at) c.in_ok-advance-in_default.ensures);
      reads = subst (ReadsOn c.args.bytes.now) (sym c.in_ok-advance-in_default.ensures) reads;
    }
