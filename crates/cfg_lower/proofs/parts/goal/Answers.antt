use Rattle.std.proofs.Common.{ap, sym, ◌∙◌}
use Rattle.c_tree.specs.declared.program.Item.{out-Item}
use Rattle.c_tree.specs.declared.program.Item.TheVariants as item
use Rattle.c_meaning.specs.Parts.{goal as goal_in}
use Rattle.cfg_lower.specs.Layers.{Layer}
use Rattle.cfg_lower.specs.Meant.{departure_of}
use Rattle.cfg_lower.proofs.parts.goal.Goals as goal

pub returns-in-While : goal.returns-in-While
returns-in-While c =
    let here = c.in-While in
    c.behind_while.ensures here.field-0 here.field-1 c.args.k
    ∙ ap (λ (l : Layer). goal_in l c.args.k (departure_of c.args.by)) (sym (item.outs-While here.field-0 here.field-1) ∙ ap out-Item (sym here.is))
