use Rattle.std.proofs.Common.{◌+◌, ap, sym, ◌∙◌}
use Rattle.std.specs.Option.{is_some}
use Rattle.mf_set.specs.Numbers.{numbers_from}
use Rattle.cover_certificate.proofs.SetOrder.{is_equal, is_greater, is_less, whole}
use Rattle.cover_certificate.proofs.lines.compare_sets.Goals as goal

pub loop-number-init : goal.loop-number-init
loop-number-init c = whole c.args.x.now.items c.args.y.now.items

pub returns-in_default-next_from : goal.returns-in_default-next_from
returns-in_default-next_from c =
    is_greater c.args.x.now.items c.args.y.now.items c.loop-number.from c.loop-number.invariant c.in-Some.number (numbers_from c.args.x.now.items (c.in-Some.number + 1)) c.in-Some.ensures.rest
    (sym c.in_default-next_from.ensures.value)

pub returns-then-is_some : goal.returns-then-is_some
returns-then-is_some c =
    is_less c.args.x.now.items c.args.y.now.items c.loop-number.from c.loop-number.invariant (sym c.in_default.ensures.value)
    (ap is_some (sym c.next_from-2.ensures.value) ∙ sym c.is_some.ensures ∙ c.if-is_some.true)

pub returns-else-is_some : goal.returns-else-is_some
returns-else-is_some c =
    is_equal c.args.x.now.items c.args.y.now.items c.loop-number.from c.loop-number.invariant (sym c.in_default.ensures.value)
    (ap is_some (sym c.next_from-2.ensures.value) ∙ sym c.is_some.ensures ∙ c.if-is_some.false)
