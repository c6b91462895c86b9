use Rattle.std.proofs.Common.{◌&&◌, Bool, ap, sym, ◌∙◌}
use Rattle.std.specs.List.{list_all, range_with_len}
use Rattle.cover_certificate.specs.Regular.{mark_before, next_after}
use Rattle.cert_checker.proofs.RangeLaws.{all_range_more}
use Rattle.cert_checker.proofs.regular.marks_ascend.Goals as goal

pub loop-place-preserved : goal.loop-place-preserved
loop-place-preserved c =
    let i = c.loop-place.place in
    ap (λ (b : Bool). b && c.in_ok-ascend.field-0) c.loop-place.invariant
    ∙ ap (λ (b : Bool). list_all (next_after (mark_before c.args.count) c.args.marks.now) (range_with_len 0 i) && b) c.in_ok-ascend.ensures
    ∙ sym (all_range_more (next_after (mark_before c.args.count) c.args.marks.now) i)
