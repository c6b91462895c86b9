use Rattle.std.proofs.Common.{◌≡◌, ◌∙◌, sym}
use Rattle.std.proofs.lemmas.Result.{IfOk-weaker}
use Rattle.c_tree.specs.declared.program.Item.{out-Item}
use Rattle.c_meaning.specs.Place.{next}
use Rattle.cfg_lower.specs.Meant.{onward_of, part_of}
use Rattle.cfg_lower.proofs.Paths.{next_through}
use Rattle.cfg_lower.proofs.places.+next.Goals as goal

pub next-returns : goal.next-returns
next-returns t c =
    let slot = c.args.slot in
    let through = next_through slot c.args.said c.args.path.now c.args.block.now (out-Item c.in-Some.item.now) (part_of c.in-Some-part_of.part) (onward_of c.in_ok-inner.inner)
    c.in-len2-up.len_at_least (sym c.in-Some.ensures.item) (sym c.in-Some-part_of.ensures.part) c.in_ok-inner.ensures in
    IfOk-weaker c.behind_part.result _ (λ onward. onward_of onward ≡ next slot c.args.said c.args.path.now c.args.block.now)
    (λ onward behind. behind ∙ through) c.behind_part.ensures
