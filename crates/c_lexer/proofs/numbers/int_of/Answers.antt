use Rattle.std.proofs.Common.{sym, arith}
use Rattle.c_lexer.proofs.Decimals.{too_wide}
use Rattle.c_lexer.proofs.numbers.int_of.Goals as goal

pub returns-then-value-gt-GREATEST : goal.returns-then-value-gt-GREATEST
returns-then-value-gt-GREATEST c =
    sym (too_wide c.args.digits.now c.loop-digit.digit-index c.loop-digit.value c.loop-digit-test.true c.loop-digit.invariant.rest (omega (arith, c.saturating_sub.ensures, c.from.ensures)))
