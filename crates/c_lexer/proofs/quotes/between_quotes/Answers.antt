use Rattle.std.proofs.Common.{◌≡◌, ◌+◌, drop, length, sym, ◌∙◌, ap, subst, arith, length-drop}
use Rattle.std.proofs.lemmas.List.{take_rest}
use Rattle.c_lexer.specs.declared.element.Next.TheVariants.{Plain, Escape}
use Rattle.c_lexer.specs.Elements.{next_of}
use Rattle.c_lexer.specs.Opening.{Holds}
use Rattle.c_lexer.proofs.Quoted.{Continues, plain_more, escape_more, at_end, end_from, leaves_from}
use Rattle.c_lexer.proofs.quotes.between_quotes.Goals as goal

pub loop-b-preserved-in-Plain : goal.loop-b-preserved-in-Plain
loop-b-preserved-in-Plain c =
    let rest = take_rest c.args.text.now c.loop-b.at in
    let next : next_of c.args.quote (drop c.loop-b.at c.args.text.now) ≡ Plain c.in-Plain.b = ap (next_of c.args.quote) (sym rest) ∙ sym c.in-Plain.ensures.next in
    record {
      within = omega (arith, c.in-Plain.ensures.holds, ap length rest, length-drop c.loop-b.at c.args.text.now);
      spelled = subst (λ front. Continues c.args.quote c.args.text.now front (c.loop-b.at + 1)) (sym c.in_ok-push-in-Plain.ensures.ok) (plain_more c.args.quote c.args.text.now c.loop-b.values c.loop-b.at c.in-Plain.b c.loop-b.invariant.spelled next);
    }

pub loop-b-preserved : goal.loop-b-preserved
loop-b-preserved c =
    let rest = take_rest c.args.text.now c.loop-b.at in
    let next : next_of c.args.quote (drop c.loop-b.at c.args.text.now) ≡ Escape c.in-Escape.b = ap (next_of c.args.quote) (sym rest) ∙ sym c.in-Escape.ensures.next in
    record {
      within = omega (arith, c.in-Escape.ensures.holds, ap length rest, length-drop c.loop-b.at c.args.text.now);
      spelled = subst (λ front. Continues c.args.quote c.args.text.now front (c.loop-b.at + 2)) (sym c.in_ok-push-in-Escape.ensures.ok) (escape_more c.args.quote c.args.text.now c.loop-b.values c.loop-b.at c.in-Escape.b c.loop-b.invariant.spelled next);
    }

pub returns-in_default : goal.returns-in_default
returns-in_default c =
    let rest = take_rest c.args.text.now c.loop-b.at in
    let next : next_of c.args.quote (drop c.loop-b.at c.args.text.now) ≡ c.next_of.result = ap (next_of c.args.quote) (sym rest) ∙ sym c.next_of.ensures.next in
    let ends = end_from c.next_of.result c.in_default.not-Plain c.in_default.not-Escape in
    record {
      spelled = at_end c.args.quote c.args.text.now c.loop-b.values c.loop-b.at c.next_of.result c.loop-b.invariant.spelled next ends;
      within = (ends, leaves_from c.args.text.now c.loop-b.at c.next_of.result c.loop-b.invariant.within (subst (Holds c.next_of.result) rest c.next_of.ensures.holds));
    }
